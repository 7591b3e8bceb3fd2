-- The outputs of a run over a tree are those of single runs.
use Rattle.std.specs.Prelude.{◌≡◌, ◌≢◌, ℕ, ℤ, List, [], ◌++◌, Bool, true, false, Option, Some, None, Ok}
use Rattle.std.specs.Io.KnownBytes.{append_known}
use Rattle.dcm_deid.specs.declared.fate.Options.{Options}
use Rattle.dcm_devices.specs.Writing.{Writer}
use Rattle.dcm_files.specs.declared.folders.Found.{Found}
use Rattle.dcm_files.specs.declared.folders.FoundKind.TheVariants as kinds
use Rattle.dcm_files.specs.declared.folders.Links.{Links}
use Rattle.dcm_files.specs.declared.folders.Links.TheVariants.{Kept, Followed}
use Rattle.dcm_instance.specs.ReadInstance.{FileNames}
use Rattle.dcm_instance.specs.Uids.{Uids}
use Rattle.dcm_walk.specs.Folder.{WalksFolder}
use Rattle.dcm_walk.specs.List.{WalksList}
use Rattle.dcm_walk.specs.declared.visitor.What.TheVariants.{File}
use Rattle.dcm_words.specs.Words.{Job, deidentify, with_days}
use Rattle.dcm_cli.specs.Answer.{Answer, Answers}
use Rattle.dcm_cli.specs.Calls.{Reader}
use Rattle.dcm_cli.specs.First.{FirstReads}
use Rattle.dcm_cli.specs.Run.{Answered}
use Rattle.dcm_cli.specs.declared.ending.Verdict.{Verdict}
use Rattle.dcm_cli.specs.declared.first.FirstEnd.TheVariants.{Days}
use Rattle.dcm_trees.specs.declared.beginning.Begun.{Begun}
use Rattle.dcm_trees.specs.declared.file.Done.{Done}
use Rattle.dcm_trees.specs.declared.run.TreeRun.{TreeRun}
use Rattle.dcm_trees.specs.Fate.{is_written}
use Rattle.dcm_trees.specs.Lines.{verdict_fate}
use Rattle.dcm_trees.specs.Task.{Task, same, by_days, task_of}
use Rattle.dcm_trees.specs.Tree.{VisitsAll, VisitsListed}
use Rattle.dcm_trees.specs.Work.{visits_of}
use Rattle.dcm_tree_laws.specs.FileSystem.{FileSystem, Tree, Host, number_of, place_of, folders_do}
use Rattle.dcm_tree_laws.specs.Laws.{over, part_path}
use Rattle.dcm_tree_laws.specs.OneRow.{RowsOf}
use Rattle.dcm_tree_laws.specs.Outputs.{HasWritten, IsNamedBy}
use Rattle.dcm_tree_laws.specs.Rows.{Visit, noted}

-- ---- the answer to a file

-- the job of a file with these bytes: that of all files; or the taking out of identity by the days that a key makes of
-- the patient whom they name
pub data IsJobOf (task : Task) (bytes : List ℕ) (job : Job) : Type 0 where
  of_all : task ≡ same job → IsJobOf task bytes job
  of_days : (options : Options) (reports : Bool) (key : List ℕ) (days : ℤ) → task ≡ by_days options reports key
      → FirstReads key bytes (Days days) → job ≡ deidentify (with_days options days) reports key
      → IsJobOf task bytes job

-- what a single run of that job writes of it
pub record IsAnswered (task : Task) (bytes output : List ℕ) : Type 0 where
  pub job : Job
  pub is_job : IsJobOf task bytes job
  pub answer : Answer
  pub answers : Answers job bytes answer
  pub output_is : output ≡ answer.output

-- and what its work comes to is one that is written: the file is not refused at some byte, nor held back since its
-- pixels may show identity
pub record IsWholeAnswer (task : Task) (bytes output : List ℕ) : Type 0 where
  pub answered : IsAnswered task bytes output
  pub verdict : Verdict
  pub comes_to : Answered answered.job bytes output verdict
  pub done : is_written (verdict_fate verdict) ≡ true

-- ---- the output of a name

-- what a call of a reader gives is the front of what its input has still to give, and is nothing only at the end
abbrev pub GivesHeld : {I O : Type 0} → Host I O → (before : I) → Option (List ℕ) → (after : I) → Type 0
GivesHeld h before (Some piece) after =
    (h.holds before ≡ piece ++ h.holds after) × (piece ≡ [] → h.holds after ≡ [])
GivesHeld h before None after = Unit {0}

-- a reader of which no call gives anything else
abbrev pub as_held : {I O : Type 0} → Host I O → Reader I → Reader I
as_held h reader = record {
  has_failed = reader.has_failed;
  remaining = reader.remaining;
  gets = λ before call after. reader.gets before call after × GivesHeld h before call after;
}

-- an output tells all that it took
abbrev pub TellsAll : {I O : Type 0} → Host I O → Writer O → Type 0
TellsAll {I} {O} h output = (o : O) → output.contents o ≡ Some (h.took o)

-- a file of this mode, with these bytes, is the output of a name: its mode is what is left of that of the file that was
-- found there, which is that of what was there at the start; and its bytes are what a single run writes of the file that
-- was there at the start, links followed, where that is done. The place of the run's own part is set aside
pub record IsSingle {I O : Type 0} (h : Host I O) (links : Links) (part : List ℕ) (task : Task) (start : Tree)
    (v : Visit) (mode : ℕ) (bytes : List ℕ) : Type 0 where
  pub found : ℕ
  pub of_file : v.what ≡ File found
  pub mode_is : mode ≡ h.masked found
  pub mode_of : (read : Found) → start.at (h.leads links v.named.path) ≡ Some read
      → h.leads links v.named.path ≢ place_of h part → mode ≡ h.masked read.mode
  pub answered : (read : Found) → start.at (h.leads Followed v.named.path) ≡ Some read → read.kind ≡ kinds.File
      → h.leads Followed v.named.path ≢ place_of h part → IsWholeAnswer task (start.bytes (number_of read)) bytes

-- what an output with these bytes is named by: its input, where the run keeps names; or else the instance that the
-- bytes name, where the path of the part leads to its own place also when it is followed
pub data IsNamedAfter {I O : Type 0} (h : Host I O) (keeps_names : Bool) (part bytes : List ℕ) (done : Done)
    : Type 0 where
  by_its_input : keeps_names ≡ true → done.instance ≡ None → IsNamedAfter h keeps_names part bytes done
  by_its_bytes : (uids : Uids) → keeps_names ≡ false → IsNamedBy uids done
      → (h.leads Followed part ≡ place_of h part → FileNames bytes (Ok uids))
      → IsNamedAfter h keeps_names part bytes done

-- what became of a name in a run says that its output was written only where such a file is there, and is named so
abbrev pub HasSingle : {I O : Type 0} → Host I O → Links → (keeps_names : Bool) → (part output : List ℕ) → Task
    → (start now : Tree) → Visit → Done → Type 0
HasSingle h links keeps_names part output task start now v done =
    HasWritten h (IsSingle h links part task start v) (IsNamedAfter h keeps_names part) part output now v done

-- ---- all of them

-- the names in a folder were visited, these in this order; the manifest has their rows, and the outputs that these say
-- were written are those of single runs
pub record FolderHasSingle {I O F W E : Type 0} (h : Host I O) (reader : Reader I) (output : Writer O) (m : Writer W)
    (errors : Writer E) (run : TreeRun) (path : List ℕ) (begun : Begun) (opened : F) (headed : W) (from : E)
    (before : FileSystem) (status : ℕ) (left : W) (to : E) (after : FileSystem)
    (v : VisitsAll (over h (as_held h reader) output errors) m run path begun opened headed from before status left to
    after) : Type 0 where
  pub visits : List Visit
  pub text : List ℕ
  pub walks : WalksFolder (folders_do {F = F} h)
      (noted (visits_of (over {F = F} h (as_held h reader) output errors) m)) path begun.number
      opened ((v.start, from), []) before v.walked ((v.last, v.told), visits) after
  pub rows : RowsOf (HasSingle h Kept run.options.keeps_names begun.part.items run.output.now (task_of run.task)
      before.now after.now) v.start.shared visits text
  pub manifest : m.contents left ≡ append_known (m.contents headed) text

pub record ListHasSingle {I O F W E : Type 0} (h : Host I O) (reader : Reader I) (output : Writer O) (m : Writer W)
    (errors : Writer E) (run : TreeRun) (list : List ℕ) (begun : Begun) (input : I) (headed : W) (from : E)
    (before : FileSystem) (status : ℕ) (left : W) (to : E) (after : FileSystem) (read : I)
    (v : VisitsListed (over {F = F} h (as_held h reader) output errors) m run list begun input headed from before status
    left to after read) : Type 0 where
  pub visits : List Visit
  pub text : List ℕ
  pub walks : WalksList (folders_do {F = F} h) (noted (visits_of (over {F = F} h (as_held h reader) output errors) m))
      (as_held h reader).gets begun.number ((v.start, from), []) before input v.walked ((v.last, v.told), visits) after
      read
  pub rows : RowsOf (HasSingle h Followed run.options.keeps_names begun.part.items run.output.now (task_of run.task)
      before.now after.now) v.start.shared visits text
  pub manifest : m.contents left ≡ append_known (m.contents headed) text

-- at the end of a run that was begun, and did not end before its last name. Each call of a reader in it gives what the
-- file that was opened holds
abbrev pub SingleRuns : {I O W E : Type 0} → (F : Type 0) → Reader I → Writer O → Writer W → Writer E → Type 0
SingleRuns {I} {O} {W} {E} F reader output m errors =
    (h : Host I O) (run : TreeRun) (path : List ℕ) (begun : Begun) (opened : F) (headed : W) (from : E)
    (before : FileSystem) (status : ℕ) (left : W) (to : E) (after : FileSystem) → TellsAll h output
    → before.written ≡ None → begun.part.items ≡ part_path run
    → (v : VisitsAll (over h (as_held h reader) output errors) m run path begun opened headed from before status left to
    after)
    → v.last.stop ≡ None
    → FolderHasSingle h reader output m errors run path begun opened headed from before status left to after v

abbrev pub SingleRunsOfList : {I O W E : Type 0} → (F : Type 0) → Reader I → Writer O → Writer W → Writer E → Type 0
SingleRunsOfList {I} {O} {W} {E} F reader output m errors =
    (h : Host I O) (run : TreeRun) (list : List ℕ) (begun : Begun) (input : I) (headed : W) (from : E)
    (before : FileSystem) (status : ℕ) (left : W) (to : E) (after : FileSystem) (read : I) → TellsAll h output
    → before.written ≡ None → begun.part.items ≡ part_path run
    → (v : VisitsListed (over {F = F} h (as_held h reader) output errors) m run list begun input headed from before
    status left to after read)
    → v.last.stop ≡ None
    → ListHasSingle h reader output m errors run list begun input headed from before status left to after read v
