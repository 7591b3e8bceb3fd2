-- Runs in which no call fails that need not: what becomes of a file there is determined by its bytes.
use Rattle.std.specs.Prelude.{◌≡◌, ◌≢◌, ◌≤◌, ℕ, length, List, Bool, true, false, Some, None, Result, Ok, Err}
use Rattle.std.specs.IoError.{error_kind}
use Rattle.std.specs.declared.io.Error.{Error}
use Rattle.std.specs.declared.io.ErrorKind.TheVariants.{AlreadyExists}
use Rattle.dcm_base.specs.declared.fault.Stop.{Stop as FaultAt}
use Rattle.dcm_base.specs.Reading.Reads.{INPUT_LIMIT}
use Rattle.dcm_deid.specs.declared.fate.Options.{Options}
use Rattle.dcm_devices.specs.Writing.{Writer}
use Rattle.dcm_files.specs.declared.folders.Found.{Found}
use Rattle.dcm_files.specs.declared.folders.FoundKind.TheVariants as kinds
use Rattle.dcm_files.specs.declared.folders.Links.{Links}
use Rattle.dcm_files.specs.declared.folders.Links.TheVariants.{Followed}
use Rattle.dcm_files.specs.declared.opened.Opened.{Opened}
use Rattle.dcm_files.specs.declared.opened.FileKind.TheVariants.{Directory}
use Rattle.dcm_files.specs.Devices.{MayDo}
use Rattle.dcm_files.specs.Folders.{FoldersDo}
use Rattle.dcm_instance.specs.declared.names.NoInstance.{NoInstance}
use Rattle.dcm_instance.specs.ReadInstance.{FileNames}
use Rattle.dcm_instance.specs.Uids.{Uids}
use Rattle.dcm_words.specs.Words.{Job}
use Rattle.dcm_cli.specs.Calls.{Reader}
use Rattle.dcm_cli.specs.First.{FirstReads}
use Rattle.dcm_cli.specs.Run.{Answered}
use Rattle.dcm_cli.specs.declared.ending.Verdict.{Verdict}
use Rattle.dcm_cli.specs.declared.first.FirstEnd.TheVariants.{Refused}
use Rattle.dcm_trees.specs.Fate.{is_written}
use Rattle.dcm_trees.specs.Lines.{verdict_fate}
use Rattle.dcm_trees.specs.Task.{Task, by_days}
use Rattle.dcm_trees.specs.World.{World, world}
use Rattle.dcm_tree_laws.specs.Again.{sure}
use Rattle.dcm_tree_laws.specs.FileSystem.{FileSystem, Tree, Host, number_of, place_of, at_path, may_do, folders_do}
use Rattle.dcm_tree_laws.specs.Single.{IsJobOf, IsAnswered, IsWholeAnswer, as_held}

-- ---- what is there

-- a regular file is at a path, a link at its end followed or not
pub record FileAt {I O : Type 0} (h : Host I O) (links : Links) (t : Tree) (path : List ℕ) : Type 0 where
  pub file : Found
  pub is : t.at (h.leads links path) ≡ Some file
  pub kind : file.kind ≡ kinds.File

-- a path leads to its own place also when it is followed, where no link is there
abbrev pub FollowsLinks : {I O : Type 0} → Host I O → Tree → Type 0
FollowsLinks h t = (path : List ℕ) → ((f : Found) → at_path h t path ≡ Some f → f.kind ≢ kinds.Other)
    → h.leads Followed path ≡ place_of h path

-- no file has more bytes than an input may have
abbrev pub FilesFit : Tree → Type 0
FilesFit t = (place : List ℕ) (f : Found) → t.at place ≡ Some f → length (t.bytes (number_of f)) ≤ INPUT_LIMIT

-- ---- calls that fail only where they must

-- a regular file is opened, and an input that was opened has not failed
abbrev pub OpensFound : {I O : Type 0} → Host I O → Reader I → Tree → (path : List ℕ) → Result (Opened I) Error → Type 0
OpensFound h reader t path (Ok o) =
    (reader.has_failed o.device ≡ false) × (FileAt h Followed t path → o.kind ≢ Directory)
OpensFound h reader t path (Err e) = ¬ (FileAt h Followed t path)

-- what is made at a path is made, but where something is there, and then the failure says so
abbrev pub UnlessThere : {A I O : Type 0} → Host I O → Tree → (path : List ℕ) → Result A Error → Type 0
UnlessThere h t path (Ok a) = Unit {0}
UnlessThere h t path (Err e) = (at_path h t path ≢ None) × (error_kind e ≡ AlreadyExists)

-- what is at a path gets a second name, but where something has that
abbrev pub UnlessNamed : {A I O : Type 0} → Host I O → Tree → (from to : List ℕ) → Result A Error → Type 0
UnlessNamed h t from to (Ok a) = Unit {0}
UnlessNamed h t from to (Err e) = at_path h t from ≢ None → at_path h t to ≢ None

-- of an output that is closed no call failed, and its closing does not fail
abbrev pub working_may : {I O : Type 0} → Host I O → Reader I → Writer O → MayDo FileSystem I O → MayDo FileSystem I O
working_may h reader output may = record may {
  opens = λ before path r after. may.opens before path r after × OpensFound h reader before.now path r;
  closes = λ before d r after. may.closes before d (Ok _) after × (output.has_failed d ≡ false) × (r ≡ Ok _);
}

abbrev pub working_folders : {I O F : Type 0} → Host I O → FoldersDo FileSystem O F → FoldersDo FileSystem O F
working_folders h d = record d {
  makes_folder = λ before path mode r after. d.makes_folder before path mode r after × UnlessThere h before.now path r;
  makes_as = λ before path mode r after. d.makes_as before path mode r after × UnlessThere h before.now path r;
  links = λ before from to r after. d.links before from to r after × UnlessNamed h before.now from to r;
}

-- a reader of which each call gives the front of what its input has still to give
abbrev pub as_whole : {I O : Type 0} → Host I O → Reader I → Reader I
as_whole h reader = record {
  has_failed = reader.has_failed;
  remaining = reader.remaining;
  gets = λ before call after. (as_held h reader).gets before call after × (call ≢ None);
}

-- a run is over a file system whose calls fail only so; a failing removal it notes itself
abbrev pub working : {I O F E : Type 0} → Host I O → Reader I → Writer O → Writer E → World FileSystem I O F E
working h reader output errors =
    world (working_may h reader output (may_do h)) (working_folders h (sure (folders_do h))) (as_whole h reader) output
    errors

-- ---- how a file ends

-- the job of a file with these bytes is done: what it writes, and what it comes to
pub record ComesTo (task : Task) (bytes output : List ℕ) (verdict : Verdict) : Type 0 where
  pub job : Job
  pub is_job : IsJobOf task bytes job
  pub answered : Answered job bytes output verdict

-- it has none, since no days are found by which its dates are moved
pub record HasNoDays (task : Task) (bytes : List ℕ) (stop : FaultAt) : Type 0 where
  pub options : Options
  pub reports : Bool
  pub key : List ℕ
  pub task_is : task ≡ by_days options reports key
  pub reads : FirstReads key bytes (Refused stop)

pub data FileEnd : Type 0 where
  was_done : (output : List ℕ) (verdict : Verdict) → FileEnd
  no_job : (stop : FaultAt) → FileEnd

pub data EndsAs (task : Task) (bytes : List ℕ) (end : FileEnd) : Type 0 where
  by_job : (output : List ℕ) (verdict : Verdict) → ComesTo task bytes output verdict → end ≡ was_done output verdict
      → EndsAs task bytes end
  by_days_of : (stop : FaultAt) → HasNoDays task bytes stop → end ≡ no_job stop → EndsAs task bytes end

-- a file ends in one way, whatever run does it
abbrev pub OneEnd : Type 0
OneEnd = (task : Task) (bytes : List ℕ) (one other : FileEnd) → EndsAs task bytes one → EndsAs task bytes other
    → one ≡ other

-- what is written of it is what a single run writes
abbrev pub EndIsAnswer : Type 0
EndIsAnswer = (task : Task) (bytes output : List ℕ) (verdict : Verdict) → ComesTo task bytes output verdict
    → IsAnswered task bytes output

-- and where that comes to what is written, it is all of it
abbrev pub DoneIsAnswer : Type 0
DoneIsAnswer = (task : Task) (bytes output : List ℕ) (verdict : Verdict) → ComesTo task bytes output verdict
    → is_written (verdict_fate verdict) ≡ true → IsWholeAnswer task bytes output

-- a file names one instance, or none for one reason
abbrev pub OneInstance : Type 0
OneInstance = (bytes : List ℕ) (one other : Result Uids NoInstance) → FileNames bytes one → FileNames bytes other
    → one ≡ other
