-- Runs that name outputs by the instances in them, where these are there.
use Rattle.std.specs.Prelude.{◌≡◌, ◌≢◌, ◌≤◌, ℕ, length, List, [], true, false, Some, None, Result, Ok, Err}
use Rattle.std.specs.Io.KnownBytes.{append_known}
use Rattle.std.specs.Str.{IsUtf8}
use Rattle.dcm_base.specs.declared.fault.Stop.{Stop as FaultAt}
use Rattle.dcm_base.specs.Reading.Reads.{INPUT_LIMIT}
use Rattle.dcm_devices.specs.Writing.{Writer}
use Rattle.dcm_files.specs.declared.folders.Found.{Found}
use Rattle.dcm_files.specs.declared.folders.Links.TheVariants.{Followed}
use Rattle.dcm_instance.specs.declared.names.NoInstance.{NoInstance}
use Rattle.dcm_instance.specs.ReadInstance.{FileNames}
use Rattle.dcm_instance.specs.Uids.{Uids, instance_name}
use Rattle.dcm_words.specs.Words.{Job}
use Rattle.dcm_walk.specs.Folder.{WalksFolder}
use Rattle.dcm_walk.specs.List.{WalksList}
use Rattle.dcm_walk.specs.Visits.{Named}
use Rattle.dcm_walk.specs.declared.visitor.What.TheVariants.{File}
use Rattle.dcm_cli.specs.Calls.{Reader, Reports}
use Rattle.dcm_cli.specs.Run.{Remarked}
use Rattle.dcm_cli.specs.declared.ending.Ending.TheVariants.{Worked}
use Rattle.dcm_cli.specs.declared.ending.Remarks.{Remarks}
use Rattle.dcm_cli.specs.declared.ending.Verdict.{Verdict}
use Rattle.dcm_trees.specs.declared.beginning.Begun.{Begun}
use Rattle.dcm_trees.specs.declared.fate.Fate.{Fate}
use Rattle.dcm_trees.specs.declared.fate.Fate.TheVariants as fates
use Rattle.dcm_trees.specs.declared.file.Done.{Done}
use Rattle.dcm_trees.specs.declared.progress.Stop.{Stop as RunStop}
use Rattle.dcm_trees.specs.declared.progress.Shared.{Shared}
use Rattle.dcm_trees.specs.declared.run.TreeRun.{TreeRun}
use Rattle.dcm_trees.specs.Fate.{is_written, fate_of, word}
use Rattle.dcm_trees.specs.File.{DoesName, is_media_index}
use Rattle.dcm_trees.specs.Instance.{without_name, no_instance_fate}
use Rattle.dcm_trees.specs.Lines.{ended_lines, verdict_fate}
use Rattle.dcm_trees.specs.Manner.{Manner}
use Rattle.dcm_trees.specs.Share.{is_of}
use Rattle.dcm_trees.specs.Task.{Task, task_of}
use Rattle.dcm_trees.specs.Tree.{VisitsAll, VisitsListed}
use Rattle.dcm_trees.specs.Work.{output_of, visits_of}
use Rattle.dcm_tree_laws.specs.Again.{IsThere, OfAll, sure}
use Rattle.dcm_tree_laws.specs.Determined.{FileAt, FollowsLinks, FilesFit, ComesTo, HasNoDays}
use Rattle.dcm_tree_laws.specs.Determined.{as_whole, working, working_folders}
use Rattle.dcm_tree_laws.specs.FileSystem.{FileSystem, Tree, Host, number_of, at_path, SameNames, folders_do}
use Rattle.dcm_tree_laws.specs.Laws.{part_path}
use Rattle.dcm_tree_laws.specs.OneRow.{RowsOf}
pub use Rattle.dcm_tree_laws.specs.Outputs.{IsNamedBy}
use Rattle.dcm_tree_laws.specs.Rows.{Visit, noted}
use Rattle.dcm_tree_laws.specs.Single.{IsJobOf, TellsAll}

-- ---- an output that is there

-- what a run makes of the file at a path is there already: the job of that, as it is now, is done and writes what names
-- this instance; and a file of the same bytes is at the path of the instance in the folder of the outputs
pub record HasCopy {I O : Type 0} (h : Host I O) (task : Task) (output : List ℕ) (t : Tree) (path : List ℕ)
    (uids : Uids) : Type 0 where
  pub text : IsUtf8 path
  pub input : FileAt h Followed t path
  pub made : List ℕ
  pub verdict : Verdict
  pub comes : ComesTo task (t.bytes (number_of input.file)) made verdict
  pub done : is_written (verdict_fate verdict) ≡ true
  pub names : FileNames made (Ok uids)
  pub there : IsThere h output (instance_name uids) t
  pub same : t.bytes (number_of there.file.found) ≡ made

-- or it is not placed, since another file is at that path: one of other bytes, where what is written has no more of them
-- than an input may have
pub record HasOther {I O : Type 0} (h : Host I O) (task : Task) (output : List ℕ) (t : Tree) (path : List ℕ)
    (uids : Uids) : Type 0 where
  pub text : IsUtf8 path
  pub input : FileAt h Followed t path
  pub made : List ℕ
  pub verdict : Verdict
  pub comes : ComesTo task (t.bytes (number_of input.file)) made verdict
  pub is_done : is_written (verdict_fate verdict) ≡ true
  pub names : FileNames made (Ok uids)
  pub there : IsThere h output (instance_name uids) t
  pub other : length made ≤ INPUT_LIMIT → t.bytes (number_of there.file.found) ≢ made

-- ---- one name

-- at each place is what was there, and each file that was there has its bytes
pub record IsAsItWas (before after : Tree) : Type 0 where
  pub names : SameNames before after
  pub bytes : (place : List ℕ) (f : Found) → before.at place ≡ Some f
      → after.bytes (number_of f) ≡ before.bytes (number_of f)

-- the row of a file has the name of this instance, and says that it is there
pub record IsThereAs (uids : Uids) (done : Done) : Type 0 where
  pub fate_is : done.fate ≡ fates.There
  pub named : IsNamedBy uids done

-- what is remarked of a file with these bytes
pub record IsRemarked (task : Task) (bytes : List ℕ) (remarks : Remarks) : Type 0 where
  pub job : Job
  pub is_job : IsJobOf task bytes job
  pub remarked : Remarked job bytes remarks

-- only what its job came to is told, and what is remarked
pub record TellsOnly {E : Type 0} (errors : Writer E) (name : List ℕ) (task : Task) (bytes : List ℕ) (verdict : Verdict)
    (from to : E) : Type 0 where
  pub remarks : Remarks
  pub remarked : IsRemarked task bytes remarks
  pub mid : E
  pub told : Reports errors from mid (ended_lines name (Worked verdict) remarks)
  pub no_more : Reports errors mid to []

-- a file whose copy is there is done again, and left: it has that row, and nothing is changed
pub record IsDoneAgain {E : Type 0} (errors : Writer E) (n : Named) (uids : Uids) (task : Task) (bytes : List ℕ)
    (verdict : Verdict) (from : E) (before : FileSystem) (r : Result Done RunStop) (to : E) (after : FileSystem) : Type 0 where
  pub done : Done
  pub row : r ≡ Ok done
  pub there : IsThereAs uids done
  pub told : TellsOnly errors n.name task bytes verdict from to
  pub same : IsAsItWas before.now after.now

-- so it is where no call fails that need not, and the part was removed
abbrev pub CopyIsLeft : {I O E : Type 0} → (F : Type 0) → Reader I → Writer O → Writer E → Type 0
CopyIsLeft {I} {O} {E} F reader output errors =
    (h : Host I O) (m : Manner) (n : Named) (mode : ℕ) (uids : Uids) (from : E) (before : FileSystem)
    (r : Result Done RunStop) (to : E) (after : FileSystem) → TellsAll h output → m.keeps_names ≡ false
    → is_media_index n.relative ≡ false → IsUtf8 m.part → at_path h before.now m.part ≡ None
    → FollowsLinks h before.now → FilesFit before.now → (c : HasCopy h m.task m.output before.now n.path uids)
    → DoesName (working {F = F} h reader output errors) m n (File mode) from before r to after
    → after.unremoved ≡ false
    → IsDoneAgain errors n uids m.task (before.now.bytes (number_of c.input.file)) c.verdict from before r to after

-- ---- a file that ends without a name

-- a file with these bytes has no job; or that is not done; or what it writes names no instance
pub data EndsUnnamed (task : Task) (bytes : List ℕ) (fate : Fate) : Type 0 where
  no_days : (stop : FaultAt) → HasNoDays task bytes stop → fate ≡ fates.Refused → EndsUnnamed task bytes fate
  not_done : (output : List ℕ) (verdict : Verdict) → ComesTo task bytes output verdict
      → is_written (verdict_fate verdict) ≡ false → fate ≡ verdict_fate verdict → EndsUnnamed task bytes fate
  no_instance : (output : List ℕ) (verdict : Verdict) (cause : NoInstance) → ComesTo task bytes output verdict
      → is_written (verdict_fate verdict) ≡ true → FileNames output (Err cause) → fate ≡ no_instance_fate cause
      → EndsUnnamed task bytes fate

-- it ends so again, and all is as it was
pub record IsUnnamedAgain (fate : Fate) (before : FileSystem) (r : Result Done RunStop) (after : FileSystem)
    : Type 0 where
  pub row : r ≡ Ok (without_name fate)
  pub same : IsAsItWas before.now after.now

abbrev pub UnnamedIsLeft : {I O E : Type 0} → (F : Type 0) → Reader I → Writer O → Writer E → Type 0
UnnamedIsLeft {I} {O} {E} F reader output errors =
    (h : Host I O) (m : Manner) (n : Named) (mode : ℕ) (fate : Fate) (from : E) (before : FileSystem)
    (r : Result Done RunStop) (to : E) (after : FileSystem) → TellsAll h output
    → m.keeps_names ≡ false → is_media_index n.relative ≡ false → IsUtf8 m.part → at_path h before.now m.part ≡ None
    → FollowsLinks h before.now → IsUtf8 n.path → (f : FileAt h Followed before.now n.path)
    → EndsUnnamed m.task (before.now.bytes (number_of f.file)) fate
    → DoesName (working {F = F} h reader output errors) m n (File mode) from before r to after
    → after.unremoved ≡ false → IsUnnamedAgain fate before r after

-- ---- all of them

-- a copy of an output is there, of the instance that its row names
pub record HasCopyOf {I O : Type 0} (h : Host I O) (task : Task) (output : List ℕ) (t : Tree) (path : List ℕ)
    (done : Done) : Type 0 where
  pub uids : Uids
  pub named : IsNamedBy uids done
  pub copy : HasCopy h task output t path uids

-- another file is there
pub record HasOtherOf {I O : Type 0} (h : Host I O) (task : Task) (output : List ℕ) (t : Tree) (path : List ℕ)
    (done : Done) : Type 0 where
  pub uids : Uids
  pub named : IsNamedBy uids done
  pub met : HasOther h task output t path uids

-- the file of a name is there, at a path that is text
pub record HasFile {I O : Type 0} (h : Host I O) (t : Tree) (v : Visit) : Type 0 where
  pub text : IsUtf8 v.named.path
  pub file : FileAt h Followed t v.named.path

-- where a row said that an output was written, the next run says that it is there
abbrev pub fate_again : Fate → Fate
fate_again fates.Written = fates.There
fate_again fates.Unplaced = fates.There
fate_again fate = fate

-- what a row says of a name still stands: its output is there, or another file is; or it ends without one; or it is no
-- file, or the index of a medium
pub data Stands {I O : Type 0} (h : Host I O) (task : Task) (output : List ℕ) (t : Tree) (v : Visit) (done : Done)
    : Type 0 where
  of_copy : (mode : ℕ) → v.what ≡ File mode → is_media_index v.named.relative ≡ false
      → fate_again done.fate ≡ fates.There → HasCopyOf h task output t v.named.path done → Stands h task output t v done
  of_other : (mode : ℕ) → v.what ≡ File mode → is_media_index v.named.relative ≡ false → done.fate ≡ fates.Taken
      → HasOtherOf h task output t v.named.path done → Stands h task output t v done
  unnamed : (mode : ℕ) → v.what ≡ File mode → is_media_index v.named.relative ≡ false → (f : HasFile h t v)
      → EndsUnnamed task (t.bytes (number_of f.file.file)) done.fate → is_written done.fate ≡ false
      → done ≡ without_name done.fate → Stands h task output t v done
  an_index : (mode : ℕ) → v.what ≡ File mode → is_media_index v.named.relative ≡ true
      → done ≡ without_name fates.MediaIndex → Stands h task output t v done
  no_file : ((mode : ℕ) → v.what ≢ File mode) → done ≡ without_name (fate_of v.what) → Stands h task output t v done

-- and its row is
abbrev pub again : Done → Done
again done = record { fate = fate_again done.fate; instance = done.instance }

-- a name has the same row
pub record SameRow (n : Named) (one other : Done) : Type 0 where
  pub output_is : output_of n one ≡ output_of n other
  pub word_is : word one.fate ≡ word other.fate

-- what became of a name in a run is what a row said of it that stood at the start
abbrev pub WasDoneAgain : {I O : Type 0} → Host I O → Task → (output : List ℕ) → (start : Tree) → Visit → Done → Type 0
WasDoneAgain h task output start v done = (first : Done) → Stands h task output start v first
    → SameRow v.named done (again first)

-- what some row says of a name of the run's share stands
abbrev pub StandsThere : {I O : Type 0} → Host I O → Task → (output : List ℕ) → Tree → Shared → Visit → Type 0
StandsThere h task output t shared v = is_of shared.part.number shared.part.count v.named.relative ≡ true
    → (done : Done) × Stands h task output t v done

-- the names in a folder were visited, these in this order; the manifest has their rows, and what stood was done again.
-- Where that was so of all, nothing is changed at the end
pub record FolderIsAsItWas {I O F W E : Type 0} (h : Host I O) (reader : Reader I) (output : Writer O) (m : Writer W)
    (errors : Writer E) (run : TreeRun) (path : List ℕ) (begun : Begun) (opened : F) (headed : W) (from : E)
    (before : FileSystem) (status : ℕ) (left : W) (to : E) (after : FileSystem)
    (v : VisitsAll (working h reader output errors) m run path begun opened headed from before status left to after)
    : Type 0 where
  pub visits : List Visit
  pub text : List ℕ
  pub walks : WalksFolder (working_folders h (sure (folders_do {F = F} h)))
      (noted (visits_of (working {F = F} h reader output errors) m)) path begun.number
      opened ((v.start, from), []) before v.walked ((v.last, v.told), visits) after
  pub rows : RowsOf (WasDoneAgain h (task_of run.task) run.output.now before.now) v.start.shared visits text
  pub manifest : m.contents left ≡ append_known (m.contents headed) text
  pub same : OfAll (StandsThere h (task_of run.task) run.output.now before.now v.start.shared) visits
      → IsAsItWas before.now after.now

pub record ListIsAsItWas {I O F W E : Type 0} (h : Host I O) (reader : Reader I) (output : Writer O) (m : Writer W)
    (errors : Writer E) (run : TreeRun) (list : List ℕ) (begun : Begun) (input : I) (headed : W) (from : E)
    (before : FileSystem) (status : ℕ) (left : W) (to : E) (after : FileSystem) (read : I)
    (v : VisitsListed (working {F = F} h reader output errors) m run list begun input headed from before status left
    to after read)
    : Type 0 where
  pub visits : List Visit
  pub text : List ℕ
  pub walks : WalksList (working_folders h (sure (folders_do {F = F} h)))
      (noted (visits_of (working {F = F} h reader output errors) m)) (as_whole h reader).gets begun.number
      ((v.start, from), []) before input v.walked ((v.last, v.told), visits) after read
  pub rows : RowsOf (WasDoneAgain h (task_of run.task) run.output.now before.now) v.start.shared visits text
  pub manifest : m.contents left ≡ append_known (m.contents headed) text
  pub same : OfAll (StandsThere h (task_of run.task) run.output.now before.now v.start.shared) visits
      → IsAsItWas before.now after.now

-- at the end of a run that names outputs by the instances in them, was begun, and did not end before its last name,
-- where no call fails that need not
abbrev pub AgainIsAsItWas : {I O W E : Type 0} → (F : Type 0) → Reader I → Writer O → Writer W → Writer E → Type 0
AgainIsAsItWas {I} {O} {W} {E} F reader output m errors =
    (h : Host I O) (run : TreeRun) (path : List ℕ) (begun : Begun) (opened : F) (headed : W) (from : E)
    (before : FileSystem) (status : ℕ) (left : W) (to : E) (after : FileSystem) → TellsAll h output
    → run.options.keeps_names ≡ false → before.written ≡ None → begun.part.items ≡ part_path run
    → IsUtf8 (part_path run) → at_path h before.now (part_path run) ≡ None → FollowsLinks h before.now
    → FilesFit before.now
    → (v : VisitsAll (working h reader output errors) m run path begun opened headed from before status left to after)
    → v.last.stop ≡ None → after.unremoved ≡ false
    → FolderIsAsItWas h reader output m errors run path begun opened headed from before status left to after v

abbrev pub AgainIsAsItWasOfList : {I O W E : Type 0} → (F : Type 0) → Reader I → Writer O → Writer W → Writer E → Type 0
AgainIsAsItWasOfList {I} {O} {W} {E} F reader output m errors =
    (h : Host I O) (run : TreeRun) (list : List ℕ) (begun : Begun) (input : I) (headed : W) (from : E)
    (before : FileSystem) (status : ℕ) (left : W) (to : E) (after : FileSystem) (read : I) → TellsAll h output
    → run.options.keeps_names ≡ false → before.written ≡ None → begun.part.items ≡ part_path run
    → IsUtf8 (part_path run) → at_path h before.now (part_path run) ≡ None → FollowsLinks h before.now
    → FilesFit before.now
    → (v : VisitsListed (working {F = F} h reader output errors) m run list begun input headed from before status left
    to after read)
    → v.last.stop ≡ None → after.unremoved ≡ false
    → ListIsAsItWas h reader output m errors run list begun input headed from before status left to after read v
