-- What the program does with words that ask for a run over a tree.
use Rattle.std.specs.Prelude.{◌≡◌, ℕ, List, Bool, Ok, Err, Option, None, Some, if◌then◌else◌}
use Rattle.std.specs.IoError.{error_kind}
use Rattle.std.specs.declared.io.Error.{Error}
use Rattle.dcm_files.specs.declared.opened.FileKind.{FileKind}
use Rattle.dcm_files.specs.declared.opened.Opened.{Opened}
use Rattle.dcm_files.specs.declared.opened.Unopened.{Unopened}
use Rattle.dcm_files.specs.declared.opened.Unopened.TheVariants.{Output}
use Rattle.dcm_files.specs.Devices.{Closes, IsCause}
use Rattle.dcm_words.specs.declared.usage.Usage.{Usage}
use Rattle.dcm_words.specs.declared.usage.Usage.TheVariants.{Memory}
use Rattle.dcm_words.specs.Words.{Job, deidentify}
use Rattle.dcm_tree_words.specs.Plans.{options_as}
use Rattle.dcm_tree_words.specs.Trees.{Tree, meant_tree}
use Rattle.dcm_deid.specs.declared.fate.Options.{Options}
use Rattle.dcm_cli.specs.declared.key.KeyRead.{KeyRead}
use Rattle.dcm_cli.specs.declared.key.NoKey.{NoKey}
use Rattle.dcm_cli.specs.Calls.{Reports}
use Rattle.dcm_cli.specs.Keys.{TakesKey, no_key_line, no_key_status}
use Rattle.dcm_cli.specs.ErrorLines.{usage_line, usage_status}
use Rattle.dcm_cli.specs.Program.{unopened_line, unopened_status}
use Rattle.dcm_trees.specs.declared.run.TreeRun.{TreeRun}
use Rattle.dcm_trees.specs.Modes.{modes_as, modes_of}
use Rattle.dcm_trees.specs.Task.{Task, task_of, same, by_days}
use Rattle.dcm_trees.specs.Tree.{DoesTree}
use Rattle.dcm_trees.specs.World.{World}

-- a run does what words mean, each file by this task, with a key that was read of this, where there is one
pub record IsMeant (t : Tree) (task : Task) (key : Option FileKind) (run : TreeRun) : Type 0 where
  pub task_is : task_of run.task ≡ task
  pub key_is : run.key ≡ key
  pub output : run.output.now ≡ t.plan.output
  pub options : options_as run.options ≡ t.options
  pub modes : modes_as run.modes ≡ modes_of t.source t.options.keeps_names

-- standard output cannot be opened, and that is told; or the run is done with its manifest there, which is then closed
pub data RunsTask {S I O F E : Type 0} (w : World S I O F E) (t : Tree) (task : Task) (key : Option FileKind) (from : E)
    (before : S) (status : ℕ) (to : E) (after : S) : Type 0 where
  no_stdout : (e : Error) (u : Unopened) → w.may.stdout before (Err e) after → IsCause (error_kind e) Output u
      → Reports w.errors from to (unopened_line u) → status ≡ unopened_status u
      → RunsTask w t task key from before status to after
  has_run : (o : Opened O) (run : TreeRun) (left : O) (mid done : S) → w.may.stdout before (Ok o) mid
      → IsMeant t task key run → DoesTree w w.output run t.source o.device from mid status left to done
      → Closes w.may done left after → RunsTask w t task key from before status to after

-- what is done with each file where the key was read
abbrev pub keyed_task : (days_by_key : Bool) → Options → (reports : Bool) → (key : List ℕ) → Task
keyed_task days_by_key options reports key =
    if days_by_key then by_days options reports key else same (deidentify options reports key)

-- the key is read first, where one is named; where it cannot be, that is told, and nothing else is done
pub data Deidentifies {S I O F E : Type 0} (w : World S I O F E) (t : Tree) (options : Options) (reports : Bool)
    (from : E) (before : S) (status : ℕ) (to : E) (after : S) : Type 0 where
  without_key : t.plan.key ≡ None → RunsTask w t (same t.plan.job) None from before status to after
      → Deidentifies w t options reports from before status to after
  no_key : (path : List ℕ) (cause : NoKey) → t.plan.key ≡ Some path
      → TakesKey w.may w.reader path before (Err cause) after → Reports w.errors from to (no_key_line cause)
      → status ≡ no_key_status cause → Deidentifies w t options reports from before status to after
  with_key : (path : List ℕ) (k : KeyRead) (has_key : S) → t.plan.key ≡ Some path
      → TakesKey w.may w.reader path before (Ok k) has_key
      → RunsTask w t (keyed_task t.plan.days_by_key options reports k.bytes.items) (Some k.kind) from has_key status to after
      → Deidentifies w t options reports from before status to after

-- the run is done by a job
abbrev pub RunsAs : {S I O F E : Type 0} → World S I O F E → Tree → Job → (from : E) → (before : S) → (status : ℕ)
    → (to : E) → (after : S) → Type 0
RunsAs w t (deidentify options reports key) from before status to after =
    Deidentifies w t options reports from before status to after
RunsAs w t job from before status to after = RunsTask w t (same t.plan.job) None from before status to after

-- the run that words mean is done; or they are refused, or there is no memory for them, and that is told, with nothing
-- done with the system
pub data ObeysTree {S I O F E : Type 0} (w : World S I O F E) (words : List (List ℕ)) (from : E) (before : S)
    (status : ℕ) (to : E) (after : S) : Type 0 where
  meant : (t : Tree) → meant_tree words ≡ Ok t → RunsAs w t t.plan.job from before status to after
      → ObeysTree w words from before status to after
  refused : (u : Usage) → meant_tree words ≡ Err u → Reports w.errors from to (usage_line u)
      → status ≡ usage_status u → after ≡ before → ObeysTree w words from before status to after
  no_memory : Reports w.errors from to (usage_line Memory) → status ≡ usage_status Memory → after ≡ before
      → ObeysTree w words from before status to after
