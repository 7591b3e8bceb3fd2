-- The files that a run over a folder visits, where listing a folder tells what is in it.
use Rattle.std.specs.Prelude.{◌≡◌, ◌≢◌, ◌⊎◌, ◌<◌, ◌≤◌, ℕ, suc, length, List, [], ◌∷◌, ◌++◌, true, false, Option, Some}
use Rattle.std.specs.Prelude.{None, Result, Ok, Err, IfOk, codes, if◌then◌else◌}
use Rattle.std.specs.Str.{IsUtf8}
use Rattle.std.specs.declared.io.Error.{Error}
use Rattle.dcm_devices.specs.declared.device.WriteFailed.{WriteFailed}
use Rattle.dcm_devices.specs.Writing.{Writer}
use Rattle.dcm_files.specs.declared.folders.Found.{Found}
use Rattle.dcm_files.specs.declared.folders.FoundKind.TheVariants as kinds
use Rattle.dcm_files.specs.declared.folders.Links.TheVariants.{Kept}
use Rattle.dcm_files.specs.Folders.{FoldersDo}
use Rattle.dcm_walk.specs.declared.folder.FolderNumber.{FolderNumber}
use Rattle.dcm_walk.specs.declared.visitor.What.{What}
use Rattle.dcm_walk.specs.declared.visitor.What.TheVariants.{File, Unlisted, Unseen}
use Rattle.dcm_walk.specs.Folder.{NAMES_LIMIT, is_output}
use Rattle.dcm_walk.specs.Names.{PATH_LIMIT, below, is_slash, leads_below, is_part_file}
use Rattle.dcm_tree_words.specs.Trees as words
use Rattle.dcm_cli.specs.Calls.{Reader}
use Rattle.dcm_trees.specs.declared.beginning.Begun.{Begun}
use Rattle.dcm_trees.specs.declared.beginning.Refusal.{Refusal}
use Rattle.dcm_trees.specs.declared.run.TreeRun.{TreeRun}
use Rattle.dcm_trees.specs.Run.{PutsFirstRow, EndsUnwritten}
use Rattle.dcm_trees.specs.Tree.{VisitsAll, Refuses, DoesTree, part_of}
use Rattle.dcm_trees.specs.World.{World, world}
use Rattle.dcm_tree_laws.specs.Again.{OfAll, sure}
use Rattle.dcm_tree_laws.specs.Course.{Ready, TellsLeft}
use Rattle.dcm_tree_laws.specs.Determined.{FileAt}
use Rattle.dcm_tree_laws.specs.FileSystem.{FileSystem, Tree, Host, begins, place_of, at_path, may_do, folders_do}
use Rattle.dcm_tree_laws.specs.Laws.{part_path}
use Rattle.dcm_tree_laws.specs.OneRow.{FolderHasRows}
use Rattle.dcm_tree_laws.specs.Rows.{Visit}
use Rattle.dcm_tree_laws.specs.Together.{Has}

-- ---- a system in which listing tells what is there

-- a name is of one part: no slash is in it
abbrev pub IsOnePart : List ℕ → Type 0
IsOnePart name = (folder behind : List ℕ) → name ≢ below folder behind

-- something is in a folder by this name, which is of one part, and neither empty, `.` nor `..`
pub record IsIn {I O : Type 0} (h : Host I O) (t : Tree) (folder name : List ℕ) : Type 0 where
  pub part : IsOnePart name
  pub leads : leads_below name ≡ true
  pub there : at_path h t (below folder name) ≢ None

-- it is among these once
abbrev pub HasOnce : {A : Type 0} → A → List A → Type 0
HasOnce a [] = ⊥
HasOnce a (b ∷ bs) = ((b ≡ a) × (¬ (Has a bs))) ⊎ ((b ≢ a) × HasOnce a bs)

-- A folder that is open has names still to give: each that is in it in this tree once, wherever it comes among them.
-- Names that come to be in it may be among them too. There are not more than a walk takes
pub record GivesAll {I O F : Type 0} (h : Host I O) (gives : F → List (List ℕ)) (t : Tree) (path : List ℕ)
    (folder : F) : Type 0 where
  pub each : (name : List ℕ) → IsIn h t path name → HasOnce name (gives folder)
  pub few : length (gives folder) < NAMES_LIMIT

-- it gives the next of its names, and none only where it has given all
abbrev pub GivesName : {F : Type 0} → (gives : F → List (List ℕ)) → (folder : F) → Option (List ℕ) → (left : F) → Type 0
GivesName gives folder (Some name) left = IsOnePart name × (gives folder ≡ name ∷ gives left)
GivesName gives folder None left = gives folder ≡ []

-- so it is of each folder that is opened; any call may fail
abbrev pub telling : {I O F : Type 0} → Host I O → (gives : F → List (List ℕ)) → FoldersDo FileSystem O F
telling h gives = record (folders_do h) {
  opens_folder = λ before path r after. (after ≡ before) × IfOk r (λ folder. GivesAll h gives before.now path folder);
  names = λ before folder r left after. (after ≡ before) × IfOk r (λ name. GivesName gives folder name left);
}

-- a folder that is there is opened
abbrev pub OpensThere : {I O F : Type 0} → Host I O → Tree → (path : List ℕ) → Result F Error → Type 0
OpensThere h t path (Ok folder) = Unit {0}
OpensThere h t path (Err e) = (f : Found) → at_path h t path ≡ Some f → f.kind ≢ kinds.Folder

-- and none fails while it is listed
abbrev pub lists_all : {I O F : Type 0} → Host I O → FoldersDo FileSystem O F → FoldersDo FileSystem O F
lists_all h d = record d {
  opens_folder = λ before path r after. d.opens_folder before path r after × OpensThere h before.now path r;
  names = λ before folder r left after. d.names before folder r left after × ((e : Error) → r ≢ Err e);
}

-- so it is of each, and no look fails; any other call may
abbrev pub listing : {I O F : Type 0} → Host I O → (gives : F → List (List ℕ)) → FoldersDo FileSystem O F
listing h gives = sure (lists_all h (telling h gives))

-- a run is over such a system
abbrev pub over_telling : {I O F E : Type 0} → Host I O → (gives : F → List (List ℕ)) → Reader I → Writer O → Writer E
    → World FileSystem I O F E
over_telling h gives reader output errors = world (may_do h) (telling h gives) reader output errors

abbrev pub over_listing : {I O F E : Type 0} → Host I O → (gives : F → List (List ℕ)) → Reader I → Writer O → Writer E
    → World FileSystem I O F E
over_listing h gives reader output errors = world (may_do h) (listing h gives) reader output errors

-- ---- a file below a folder

-- how many folders a name is deep
abbrev pub depth : List ℕ → ℕ
depth [] = 0
depth (b ∷ bs) = if is_slash b then suc (depth bs) else depth bs

-- the most folders that a file may be deep
abbrev pub DEPTH_LIMIT : ℕ
DEPTH_LIMIT = 63

-- at a path is a folder, no link, and not that of the outputs
pub record IsOtherFolder {I O : Type 0} (h : Host I O) (output : FolderNumber) (t : Tree) (path : List ℕ)
    : Type 0 where
  pub found : Found
  pub is : at_path h t path ≡ Some found
  pub kind : found.kind ≡ kinds.Folder
  pub other : is_output output found ≡ false

-- a regular file is below a folder by this name: behind such folders, and not too many. Its path is text that the
-- system takes, and it is no part file
pub record LiesBelow {I O : Type 0} (h : Host I O) (output : FolderNumber) (t : Tree) (folder relative : List ℕ)
    : Type 0 where
  pub file : FileAt h Kept t (below folder relative)
  pub way : (front behind : List ℕ) → relative ≡ below front behind → IsOtherFolder h output t (below folder front)
  pub deep : depth relative ≤ DEPTH_LIMIT
  pub leads : leads_below relative ≡ true
  pub fits : length (below folder relative) ≤ PATH_LIMIT
  pub text : IsUtf8 (below folder relative)
  pub no_part : is_part_file relative ≡ false

-- ---- its visit

-- it is visited by its name
abbrev pub visit_below : (folder relative : List ℕ) → What → Visit
visit_below folder relative what = record {
  named = record { name = relative; relative = relative; path = below folder relative };
  what = what;
}

-- none of these visits is of a name
abbrev pub NoneOf : (relative : List ℕ) → List Visit → Type 0
NoneOf relative visits = OfAll (λ v. v.named.relative ≢ relative) visits

-- this visit is among these, and no other one is of its name
pub record IsVisitedOnce (x : Visit) (visits : List Visit) : Type 0 where
  pub earlier : List Visit
  pub later : List Visit
  pub is : visits ≡ earlier ++ x ∷ later
  pub none_earlier : NoneOf x.named.relative earlier
  pub none_later : NoneOf x.named.relative later

-- so it is of each file that is below a folder, as a file with its mode
abbrev pub AllVisited : {I O : Type 0} → Host I O → Tree → (folder : List ℕ) → (output : FolderNumber) → List Visit
    → Type 0
AllVisited h t folder output visits = (relative : List ℕ) (lies : LiesBelow h output t folder relative)
    → IsVisitedOnce (visit_below folder relative (File lies.file.file.mode)) visits

-- a visit says that a name could not be looked at, or a folder not be listed
abbrev pub SaysUnread : Visit → Type 0
SaysUnread v = (v.what ≡ Unlisted) ⊎ (v.what ≡ Unseen)

-- a file is visited once; or its one visit says that it could not be looked at; or none is of it, and a visit says so
-- of a folder through which its path leads
pub data IsTold (folder relative : List ℕ) (mode : ℕ) (visits : List Visit) : Type 0 where
  told_file : IsVisitedOnce (visit_below folder relative (File mode)) visits → IsTold folder relative mode visits
  told_unseen : IsVisitedOnce (visit_below folder relative Unseen) visits → IsTold folder relative mode visits
  told_on_way : (v : Visit) (behind : List ℕ) → Has v visits → below folder relative ≡ below v.named.path behind
      → SaysUnread v → NoneOf relative visits → IsTold folder relative mode visits

abbrev pub AllTold : {I O : Type 0} → Host I O → Tree → (folder : List ℕ) → (output : FolderNumber) → List Visit
    → Type 0
AllTold h t folder output visits = (relative : List ℕ) (lies : LiesBelow h output t folder relative)
    → IsTold folder relative lies.file.file.mode visits

-- ---- a run

-- so it is of the visits of a run that was begun, with nothing left over, and did not end before its last name, and of
-- each file that was there when its folder was opened
abbrev pub RunsVisit : {I O F W E : Type 0}
    → (world_of : Host I O → (gives : F → List (List ℕ)) → World FileSystem I O F E)
    → (AllSo : Host I O → Tree → (folder : List ℕ) → FolderNumber → List Visit → Type 0) → Writer W → Type 0
RunsVisit {I} {O} {F} {W} {E} world_of AllSo m =
    (h : Host I O) (gives : F → List (List ℕ)) (run : TreeRun) (start : Tree) (path : List ℕ) (begun : Begun)
    (opened : F) (headed : W) (from : E) (before : FileSystem) (status : ℕ) (left : W) (to : E) (after : FileSystem)
    → GivesAll h gives start path opened → Ready h run start begun before → at_path h start (part_path run) ≡ None
    → (v : VisitsAll (world_of h gives) m run path begun opened headed from before status left to after)
    → v.last.stop ≡ None
    → (has : FolderHasRows (world_of h gives) m run path begun opened headed from before status left to after v)
    → AllSo h start path begun.number has.visits

-- where no look and no listing fails that need not
abbrev pub FilesAreVisited : {I O W E : Type 0} → (F : Type 0) → Reader I → Writer O → Writer W → Writer E → Type 0
FilesAreVisited F reader output m errors =
    RunsVisit {F = F} (λ h gives. over_listing h gives reader output errors) AllVisited m

-- whatever calls fail
abbrev pub FilesAreTold : {I O W E : Type 0} → (F : Type 0) → Reader I → Writer O → Writer W → Writer E → Type 0
FilesAreTold F reader output m errors =
    RunsVisit {F = F} (λ h gives. over_telling h gives reader output errors) AllTold m

-- ---- a run as a whole

-- what is in a folder is in it, too, where it is named by the `.` in it
abbrev pub NamesItself : {I O : Type 0} → Host I O → Type 0
NamesItself h = (folder name : List ℕ)
    → place_of h (below (below folder (codes ".")) name) ≡ place_of h (below folder name)

-- A run over a folder is refused, or its first row cannot be written. Else its names are visited, and where that did
-- not end before the last one, something is so of the visits
pub data HasVisited {I O F W E : Type 0} (h : Host I O) (w : World FileSystem I O F E)
    (AllSo : FolderNumber → List Visit → Type 0) (m : Writer W) (run : TreeRun) (path : List ℕ) (start : Tree)
    (manifest : W) (from : E) (status : ℕ) (left : W) (to : E) (after : FileSystem) : Type 0 where
  refused : (refusal : Refusal) (told : E) → TellsLeft w.errors (part_of run) from told
      → Refuses w.errors run refusal told status to → left ≡ manifest
      → HasVisited h w AllSo m run path start manifest from status left to after
  no_header : (failure : WriteFailed) (told : E) → TellsLeft w.errors (part_of run) from told
      → PutsFirstRow m run.options.has_header manifest (Err failure) left
      → EndsUnwritten w.errors run.options.counts told status to
      → HasVisited h w AllSo m run path start manifest from status left to after
  visited : (opened : F) (begun : Begun) (headed : W) (told : E) (mid : FileSystem)
      → TellsLeft w.errors (part_of run) from told
      → PutsFirstRow m run.options.has_header manifest (Ok _) headed → Ready h run start begun mid
      → (v : VisitsAll w m run path begun opened headed told mid status left to after)
      → (v.last.stop ≡ None → at_path h start (part_path run) ≡ None
      → (has : FolderHasRows w m run path begun opened headed told mid status left to after v)
      → AllSo begun.number has.visits)
      → HasVisited h w AllSo m run path start manifest from status left to after

abbrev pub WholeRunsVisit : {I O F W E : Type 0}
    → (world_of : Host I O → (gives : F → List (List ℕ)) → World FileSystem I O F E)
    → (AllSo : Host I O → Tree → (folder : List ℕ) → FolderNumber → List Visit → Type 0) → Writer W → Type 0
WholeRunsVisit {I} {O} {F} {W} {E} world_of AllSo m =
    (h : Host I O) (gives : F → List (List ℕ)) (run : TreeRun) (path : List ℕ) (start : Tree) (manifest : W) (from : E)
    (status : ℕ) (left : W) (to : E) (after : FileSystem) → NamesItself h
    → DoesTree (world_of h gives) m run (words.folder path) manifest from (begins start) status left to after
    → HasVisited h (world_of h gives) (AllSo h start path) m run path start manifest from status left to after

abbrev pub FilesOfRunAreVisited : {I O W E : Type 0} → (F : Type 0) → Reader I → Writer O → Writer W → Writer E
    → Type 0
FilesOfRunAreVisited F reader output m errors =
    WholeRunsVisit {F = F} (λ h gives. over_listing h gives reader output errors) AllVisited m

abbrev pub FilesOfRunAreTold : {I O W E : Type 0} → (F : Type 0) → Reader I → Writer O → Writer W → Writer E → Type 0
FilesOfRunAreTold F reader output m errors =
    WholeRunsVisit {F = F} (λ h gives. over_telling h gives reader output errors) AllTold m
