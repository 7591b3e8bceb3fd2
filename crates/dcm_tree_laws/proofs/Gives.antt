-- What is asked of a file that is done: that its job gives the output that is asked for.
use Rattle.std.specs.Prelude.{[]}
use Rattle.std.proofs.Common.{◌≡◌, ℕ, List, true, Some, Ok}
use Rattle.dcm_devices.specs.Writing.{Writer}
use Rattle.dcm_words.specs.Words.{Job}
use Rattle.dcm_cli.specs.Calls.{Reader, Finishes}
use Rattle.dcm_cli.specs.declared.ending.Ending.{Ending}
use Rattle.dcm_trees.specs.Fate.{is_written}
use Rattle.dcm_trees.specs.Lines.{ending_fate}
use Rattle.dcm_trees.specs.Opening.{OpensFile}
use Rattle.dcm_trees.specs.Task.{Task, FindsJob}
use Rattle.dcm_tree_laws.specs.FileSystem.{FileSystem, Host, may_do}

-- a job that is done of an input gives it
abbrev pub GivesOutput : {I O : Type 0} → Host I O → (ℕ → List ℕ → Type 0) → Reader I → Writer O → Job → I → (mode : ℕ) → Type 0
GivesOutput {I} {O} h IsWhole r w job input mode =
    (left : I) (made written : O) (ending : Ending) → h.took made ≡ [] → Finishes r w job input left made written ending → is_written (ending_fate ending) ≡ true → IsWhole (h.masked mode) (h.took written)

-- of the file at a path, when it is opened
abbrev pub OpenGives : {I O : Type 0} → Host I O → (ℕ → List ℕ → Type 0) → Reader I → Writer O → Job → (path : List ℕ) → (mode : ℕ) → FileSystem → Type 0
OpenGives {I} h IsWhole r w job path mode s = (input : I) (opened : FileSystem) → OpensFile (may_do h) path s (Some input) opened → GivesOutput h IsWhole r w job input mode

-- and the job that is found of it
abbrev pub FileGives : {I O : Type 0} → Host I O → (ℕ → List ℕ → Type 0) → Reader I → Writer O → Task → (path : List ℕ) → (mode : ℕ) → FileSystem → Type 0
FileGives h IsWhole r w task path mode s = (job : Job) (mid : FileSystem) → FindsJob (may_do h) r task path s (Ok job) mid → OpenGives h IsWhole r w job path mode mid
