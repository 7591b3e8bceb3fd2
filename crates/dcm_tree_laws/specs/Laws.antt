-- The statements of the laws.
use Rattle.std.specs.Prelude.{◌≡◌, ℕ, List, [], true, Ok}
use Rattle.dcm_devices.specs.Writing.{Writer}
use Rattle.dcm_words.specs.Words.{Job}
use Rattle.dcm_walk.specs.Names.{below}
use Rattle.dcm_tree_words.specs.Trees.{Source, Tree as WordsTree, meant_tree}
use Rattle.dcm_cli.specs.Calls.{Reader, Finishes}
use Rattle.dcm_cli.specs.declared.ending.Ending.{Ending}
use Rattle.dcm_trees.specs.declared.run.TreeRun.{TreeRun}
use Rattle.dcm_trees.specs.Fate.{is_written}
use Rattle.dcm_trees.specs.Lines.{ending_fate}
use Rattle.dcm_trees.specs.Program.{ObeysTree}
use Rattle.dcm_trees.specs.Run.{part_name}
use Rattle.dcm_trees.specs.Tree.{DoesTree, part_of}
use Rattle.dcm_trees.specs.World.{World, world}
use Rattle.dcm_tree_laws.specs.FileSystem.{FileSystem, Host, Tree, begins, may_do, folders_do}
use Rattle.dcm_tree_laws.specs.Stays.{Stays, Always}

-- a run is over such a file system, whatever gives its inputs and takes its outputs and lines
abbrev pub over : {I O F E : Type 0} → Host I O → Reader I → Writer O → Writer E → World FileSystem I O F E
over h reader output errors = world (may_do h) (folders_do h) reader output errors

-- the path of the run's own part
abbrev pub part_path : TreeRun → List ℕ
part_path run = below run.output.now (part_of run)

-- in a run, as it is and as it was after each call, what was at a place is there, and what is new is of its outputs
abbrev pub OthersStay : {I O W E : Type 0} → (F : Type 0) → Reader I → Writer O → Writer W → Writer E → Type 0
OthersStay {I} {O} {W} {E} F reader output rows errors =
    (h : Host I O) (run : TreeRun) (source : Source) (start : Tree) (manifest : W) (from : E) (status : ℕ) (left : W)
    (to : E) (after : FileSystem)
    → DoesTree (over {F = F} h reader output errors) rows run source manifest from (begins start) status left to after
    → Always (Stays h (part_path run) run.output.now start) after

-- these are all the bytes that a new output took of a job that was done, from an input; and its mode is what is left of
-- bits that it was made with
pub record IsOutput {I O : Type 0} (h : Host I O) (reader : Reader I) (output : Writer O) (mode : ℕ) (bytes : List ℕ)
    : Type 0 where
  pub bits : ℕ
  pub mode_is : mode ≡ h.masked bits
  pub job : Job
  pub input : I
  pub left : I
  pub made : O
  pub written : O
  pub ending : Ending
  pub new : h.took made ≡ []
  pub finished : Finishes reader output job input left made written ending
  pub done : is_written (ending_fate ending) ≡ true
  pub bytes_are : bytes ≡ h.took written

-- ---- the same of the words of the program

abbrev pub part_of_tree : WordsTree → List ℕ
part_of_tree t = below t.plan.output (part_name t.options.part.number)

-- so it is of the program, by words that mean a run over a tree
abbrev pub OthersStayByWords : {I O E : Type 0} → (F : Type 0) → Reader I → Writer O → Writer E → Type 0
OthersStayByWords {I} {O} {E} F reader output errors =
    (h : Host I O) (words : List (List ℕ)) (t : WordsTree) (start : Tree) (from : E) (status : ℕ) (to : E)
    (after : FileSystem)
    → meant_tree words ≡ Ok t
    → ObeysTree (over {F = F} h reader output errors) words from (begins start) status to after
    → Always (Stays h (part_of_tree t) t.plan.output start) after
