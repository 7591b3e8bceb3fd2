-- An output of a run over a tree gets its name only when it is complete, of the file of a name that was read in the run.
use Rattle.std.specs.Prelude.{◌≡◌, ◌≢◌, ℕ, List, [], Bool, true, Some, None, Ok}
use Rattle.dcm_deid.specs.declared.fate.Options.{Options}
use Rattle.dcm_devices.specs.Writing.{Writer}
use Rattle.dcm_files.specs.declared.folders.Found.{Found}
use Rattle.dcm_files.specs.declared.folders.FoundKind.TheVariants as kinds
use Rattle.dcm_files.specs.declared.folders.Links.{Links}
use Rattle.dcm_files.specs.declared.folders.Links.TheVariants.{Kept, Followed}
use Rattle.dcm_walk.specs.List.{named_line}
use Rattle.dcm_walk.specs.Names.{below, leads_below}
use Rattle.dcm_walk.specs.Visits.{Named}
use Rattle.dcm_words.specs.Words.{Job, deidentify}
use Rattle.dcm_tree_words.specs.Trees.{Source, folder, list, Tree as WordsTree, meant_tree}
use Rattle.dcm_cli.specs.Calls.{Reader, Finishes}
use Rattle.dcm_cli.specs.Keys.{TakesKey}
use Rattle.dcm_cli.specs.declared.key.KeyRead.{KeyRead}
use Rattle.dcm_cli.specs.declared.ending.Ending.{Ending}
use Rattle.dcm_trees.specs.declared.run.TreeRun.{TreeRun}
use Rattle.dcm_trees.specs.Fate.{is_written}
use Rattle.dcm_trees.specs.Lines.{ending_fate}
use Rattle.dcm_trees.specs.Opening.{OpensFile}
use Rattle.dcm_trees.specs.Program.{ObeysTree, keyed_task}
use Rattle.dcm_trees.specs.Task.{Task, same, task_of, FindsJob}
use Rattle.dcm_trees.specs.Tree.{DoesTree}
use Rattle.dcm_tree_laws.specs.FileSystem.{FileSystem, Host, Tree, WasState, number_of, begins, may_do}
use Rattle.dcm_tree_laws.specs.Laws.{over, part_path, part_of_tree}
use Rattle.dcm_tree_laws.specs.Single.{IsWholeAnswer, TellsAll, as_held}
use Rattle.dcm_tree_laws.specs.Stays.{Stays, AlwaysSoFar}
use Rattle.dcm_tree_laws.specs.Whole.{NoneHalfSoFar}

-- ---- a file that is read

-- a name in the folder that a run is over, whose path is that of its relative name below the folder; or one of the lines
-- of its list
pub data IsOfSource (source : Source) (n : Named) : Type 0 where
  in_folder : (path : List ℕ) → source ≡ folder path → n.path ≡ below path n.relative → IsOfSource source n
  in_list : (path : List ℕ) → source ≡ list path → n ≡ named_line n.name → IsOfSource source n

-- links are followed where a list names a file, and not where it is in a folder
abbrev pub links_of : Source → Links
links_of (folder path) = Kept
links_of (list path) = Followed

-- at such a state, while no file is being written, a regular file is at the path of such a name. What was at the start
-- is there, so that the file is one of the start, or one in OUTPUT
pub record IsAtName {I O : Type 0} (h : Host I O) (source : Source) (part output : List ℕ) (start : Tree)
    (earlier : List Tree) (n : Named) (s : FileSystem) : Type 0 where
  pub was_state : WasState earlier s
  pub at_rest : s.written ≡ None
  pub of_source : IsOfSource source n
  pub leads : leads_below n.relative ≡ true
  pub file : Found
  pub is : s.now.at (h.leads (links_of source) n.path) ≡ Some file
  pub kind : file.kind ≡ kinds.File
  pub stays : Stays h part output start s.now

-- ---- its output

-- these are all the bytes that a new output took of the job that the task has for such a file; that was done, of the
-- input that was opened at its path; and the mode is what is left of that of the file
pub record IsOutputOf {I O : Type 0} (h : Host I O) (reader : Reader I) (output : Writer O) (source : Source)
    (task : Task) (part outputs : List ℕ) (start : Tree) (earlier : List Tree) (mode : ℕ) (bytes : List ℕ)
    : Type 0 where
  pub name : Named
  pub state : FileSystem
  pub read : IsAtName h source part outputs start earlier name state
  pub mode_is : mode ≡ h.masked read.file.mode
  pub job : Job
  pub mid : FileSystem
  pub finds : FindsJob (may_do h) reader task name.path state (Ok job) mid
  pub input : I
  pub opened : FileSystem
  pub opens : OpensFile (may_do h) name.path mid (Some input) opened
  pub left : I
  pub made : O
  pub written : O
  pub ending : Ending
  pub new : h.took made ≡ []
  pub finished : Finishes reader output job input left made written ending
  pub done : is_written (ending_fate ending) ≡ true
  pub bytes_are : bytes ≡ h.took written

-- each file that has another name than the part was there, or is such an output, of a file that was read before
abbrev pub NeverHalf : {I O W E : Type 0} → (F : Type 0) → Reader I → Writer O → Writer W → Writer E → Type 0
NeverHalf {I} {O} {W} {E} F reader output rows errors =
    (h : Host I O) (run : TreeRun) (source : Source) (start : Tree) (manifest : W) (from : E) (status : ℕ) (left : W)
    (to : E) (after : FileSystem)
    → DoesTree (over {F = F} h reader output errors) rows run source manifest from (begins start) status left to after
    → AlwaysSoFar (NoneHalfSoFar h (IsOutputOf h reader output source (task_of run.task) (part_path run) run.output.now
    start) (part_path run) start) after

-- ---- the answer to its bytes

-- these bytes are what a single run writes of those of the file, where that is done; and the mode is what is left of
-- that of the file
pub record IsAnswerOf {I O : Type 0} (h : Host I O) (source : Source) (task : Task) (part output : List ℕ)
    (start : Tree) (earlier : List Tree) (mode : ℕ) (bytes : List ℕ) : Type 0 where
  pub name : Named
  pub state : FileSystem
  pub read : IsAtName h source part output start earlier name state
  pub mode_is : mode ≡ h.masked read.file.mode
  pub answered : (f : Found) → state.now.at (h.leads Followed name.path) ≡ Some f → f.kind ≡ kinds.File
      → IsWholeAnswer task (state.now.bytes (number_of f)) bytes

-- so it is where each call of a reader gives what the file that was opened holds, and an output tells all that it took
abbrev pub NeverHalfOfBytes : {I O W E : Type 0} → (F : Type 0) → Reader I → Writer O → Writer W → Writer E → Type 0
NeverHalfOfBytes {I} {O} {W} {E} F reader output rows errors =
    (h : Host I O) (run : TreeRun) (source : Source) (start : Tree) (manifest : W) (from : E) (status : ℕ) (left : W)
    (to : E) (after : FileSystem) → TellsAll h output
    → DoesTree (over {F = F} h (as_held h reader) output errors) rows run source manifest from (begins start) status
    left to after
    → AlwaysSoFar (NoneHalfSoFar h (IsAnswerOf h source (task_of run.task) (part_path run) run.output.now start)
    (part_path run) start) after

-- ---- the same of the words of the program

-- the task that words mean: their job, where they name no key, or where it is not the taking out of identity; or that
-- by the key that was read at the beginning, at the path that they name
pub data IsTaskOf {I O : Type 0} (h : Host I O) (reader : Reader I) (t : WordsTree) (start : Tree) (task : Task)
    : Type 0 where
  without_key : t.plan.key ≡ None → task ≡ same t.plan.job → IsTaskOf h reader t start task
  of_another_job : ((options : Options) (reports : Bool) (planned : List ℕ)
      → t.plan.job ≢ deidentify options reports planned) → task ≡ same t.plan.job → IsTaskOf h reader t start task
  by_key : (options : Options) (reports : Bool) (planned path : List ℕ) (k : KeyRead) (has_key : FileSystem)
      → t.plan.job ≡ deidentify options reports planned → t.plan.key ≡ Some path
      → TakesKey (may_do h) reader path (begins start) (Ok k) has_key
      → task ≡ keyed_task t.plan.days_by_key options reports k.bytes.items → IsTaskOf h reader t start task

-- one such task gave all outputs; or all is as the run found it, and was so throughout
pub data HasOneTask {I O : Type 0} (h : Host I O) (reader : Reader I) (output : Writer O) (t : WordsTree) (start : Tree)
    (after : FileSystem) : Type 0 where
  by_task : (task : Task) → IsTaskOf h reader t start task
      → AlwaysSoFar (NoneHalfSoFar h (IsOutputOf h reader output t.source task (part_of_tree t) t.plan.output start)
      (part_of_tree t) start) after → HasOneTask h reader output t start after
  nothing_changed : after ≡ begins start → HasOneTask h reader output t start after

abbrev pub NeverHalfByWords : {I O E : Type 0} → (F : Type 0) → Reader I → Writer O → Writer E → Type 0
NeverHalfByWords {I} {O} {E} F reader output errors =
    (h : Host I O) (words : List (List ℕ)) (t : WordsTree) (start : Tree) (from : E) (status : ℕ) (to : E)
    (after : FileSystem)
    → meant_tree words ≡ Ok t
    → ObeysTree (over {F = F} h reader output errors) words from (begins start) status to after
    → HasOneTask h reader output t start after
