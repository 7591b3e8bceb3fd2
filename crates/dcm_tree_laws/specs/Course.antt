-- What a run over a tree comes to: it is refused, or the names of its tree are visited from such a state.
use Rattle.std.specs.Prelude.{◌≡◌, ◌≢◌, ◌⊎◌, ℕ, List, Bool, false, Some, None, Ok, Err}
use Rattle.std.specs.Str.{IsUtf8}
use Rattle.dcm_devices.specs.declared.device.WriteFailed.{WriteFailed}
use Rattle.dcm_devices.specs.Writing.{Writer}
use Rattle.dcm_files.specs.Devices.{OpensInput}
use Rattle.dcm_files.specs.declared.folders.Found.{Found}
use Rattle.dcm_files.specs.declared.folders.FoundKind.TheVariants.{File, Folder}
use Rattle.dcm_files.specs.declared.folders.Links.TheVariants.{Followed}
use Rattle.dcm_files.specs.declared.opened.Opened.{Opened}
use Rattle.dcm_names.specs.NamedLines.{unopened_line}
use Rattle.dcm_walk.specs.declared.folder.FolderNumber.{FolderNumber}
use Rattle.dcm_tree_words.specs.Trees.{Source, folder, list}
use Rattle.dcm_cli.specs.Calls.{Reader, Reports}
use Rattle.dcm_cli.specs.Status.{DEVICE}
use Rattle.dcm_trees.specs.declared.beginning.Begun.{Begun}
use Rattle.dcm_trees.specs.declared.beginning.Refusal.{Refusal}
use Rattle.dcm_trees.specs.declared.run.TreeRun.{TreeRun}
use Rattle.dcm_trees.specs.Run.{PutsFirstRow, EndsUnwritten}
use Rattle.dcm_trees.specs.Beginning.{left_line}
use Rattle.dcm_trees.specs.Tree.{OpensTree, VisitsAll, VisitsListed, Refuses, DoesTree, part_of}
use Rattle.dcm_trees.specs.World.{World}
use Rattle.dcm_tree_laws.specs.Again.{over_sure}
use Rattle.dcm_tree_laws.specs.Determined.{working}
use Rattle.dcm_tree_laws.specs.FileSystem.{FileSystem, Host, Tree, number_of, begins, place_of, at_path}
use Rattle.dcm_tree_laws.specs.Laws.{over, part_path}
use Rattle.dcm_tree_laws.specs.Single.{as_held}

-- a place is that of the folder of the outputs: nothing was there, and a folder is
pub record IsMade {I O : Type 0} (h : Host I O) (output place : List ℕ) (start now : Tree) : Type 0 where
  pub of_output : place ≡ place_of h output
  pub nothing : start.at place ≡ None
  pub made : Found
  pub is : now.at place ≡ Some made
  pub kind : made.kind ≡ Folder

-- it is that of the part: a regular file was there, which was left over, and nothing is
pub record IsCleared {I O : Type 0} (h : Host I O) (part place : List ℕ) (start now : Tree) : Type 0 where
  pub of_part : place ≡ place_of h part
  pub was : Found
  pub was_there : start.at place ≡ Some was
  pub kind : was.kind ≡ File
  pub gone : now.at place ≡ None

-- it is that of the part: a regular file is there, which was made to be looked at, and is not removed
pub record IsTried {I O : Type 0} (h : Host I O) (part place : List ℕ) (now : Tree) : Type 0 where
  pub of_part : place ≡ place_of h part
  pub made : Found
  pub is : now.at place ≡ Some made
  pub kind : made.kind ≡ File

-- no more was done than to make that folder, and to remove what was left over, or to make a part that is not removed: at
-- each other place is what was there, and each file there has its bytes
pub record OnlyOutput {I O : Type 0} (h : Host I O) (output part : List ℕ) (start now : Tree) : Type 0 where
  pub names : (place : List ℕ) → (now.at place ≡ start.at place)
      ⊎ (IsMade h output place start now ⊎ (IsCleared h part place start now ⊎ IsTried h part place now))
  pub bytes : (place : List ℕ) (f : Found) → place ≢ place_of h part → start.at place ≡ Some f
      → now.bytes (number_of f) ≡ start.bytes (number_of f)

-- that a part was left over is told, or nothing is
pub data TellsLeft {E : Type 0} (e : Writer E) (part : List ℕ) (from told : E) : Type 0 where
  nothing_told : told ≡ from → TellsLeft e part from told
  was_told : (was_left : Bool) → Reports e from told (left_line part was_left) → TellsLeft e part from told

-- it is the number of what is at a path, links followed
pub record IsNumberAt {I O : Type 0} (h : Host I O) (t : Tree) (path : List ℕ) (number : FolderNumber) : Type 0 where
  pub found : Found
  pub is : t.at (h.leads Followed path) ≡ Some found
  pub device_is : number.device ≡ found.device
  pub number_is : number.number ≡ found.number

-- a run was begun: no file is being written, no removing of a file failed, the path of the part is the run's own, it is
-- text, and nothing is there; and the folder of the outputs has the number of what is at its path
pub record Ready {I O : Type 0} (h : Host I O) (run : TreeRun) (start : Tree) (begun : Begun) (now : FileSystem)
    : Type 0 where
  pub written : now.written ≡ None
  pub unremoved : now.unremoved ≡ false
  pub part_is : begun.part.items ≡ part_path run
  pub text : IsUtf8 (part_path run)
  pub no_part : at_path h now.now (part_path run) ≡ None
  pub only : OnlyOutput h run.output.now (part_path run) start now.now
  pub number : IsNumberAt h now.now run.output.now begun.number

-- It is refused before its first name, and the manifest is as it was. Or the first row of the manifest could not be
-- written. Or the names of the folder, or of the list, that it was asked for are visited, from a state in which it was
-- begun, and behind the first row. What they leave is there at the end of the run: that the list is given back changes
-- nothing
pub data ComesTo {I O F W E : Type 0} (h : Host I O) (w : World FileSystem I O F E) (rows : Writer W) (run : TreeRun)
    (source : Source) (start : Tree) (manifest : W) (from : E) (status : ℕ) (left : W) (to : E) (after : FileSystem)
    : Type 0 where
  refused : (refusal : Refusal) (told : E) → TellsLeft w.errors (part_of run) from told
      → Refuses w.errors run refusal told status to → left ≡ manifest
      → OnlyOutput h run.output.now (part_path run) start after.now
      → ComesTo h w rows run source start manifest from status left to after
  no_list : (path : List ℕ) → source ≡ list path → Reports w.errors from to (unopened_line path) → status ≡ DEVICE
      → left ≡ manifest → after ≡ begins start → ComesTo h w rows run source start manifest from status left to after
  no_header : (failure : WriteFailed) (told : E) → TellsLeft w.errors (part_of run) from told
      → PutsFirstRow rows run.options.has_header manifest (Err failure) left
      → EndsUnwritten w.errors run.options.counts told status to
      → OnlyOutput h run.output.now (part_path run) start after.now
      → ComesTo h w rows run source start manifest from status left to after
  in_folder : (path : List ℕ) (opened : F) (begun : Begun) (headed : W) (told : E) (mid : FileSystem)
      → source ≡ folder path → TellsLeft w.errors (part_of run) from told
      → OpensTree w.folders path (begins start) (Some opened) (begins start)
      → PutsFirstRow rows run.options.has_header manifest (Ok _) headed → Ready h run start begun mid
      → VisitsAll w rows run path begun opened headed told mid status left to after
      → ComesTo h w rows run source start manifest from status left to after
  in_list : (path : List ℕ) (opened : Opened I) (begun : Begun) (headed : W) (told : E) (mid : FileSystem) (read : I)
      → source ≡ list path → TellsLeft w.errors (part_of run) from told
      → OpensInput w.may path (begins start) (Ok opened) (begins start)
      → PutsFirstRow rows run.options.has_header manifest (Ok _) headed → Ready h run start begun mid
      → VisitsListed w rows run path begun opened.device headed told mid status left to after read
      → ComesTo h w rows run source start manifest from status left to after

-- so it is of each run over such a world
abbrev pub EachBeginsSo : {I O F W E : Type 0} → (Host I O → World FileSystem I O F E) → Writer W → Type 0
EachBeginsSo {I} {O} {F} {W} {E} world_of rows =
    (h : Host I O) (run : TreeRun) (source : Source) (start : Tree) (manifest : W) (from : E) (status : ℕ) (left : W)
    (to : E) (after : FileSystem)
    → DoesTree (world_of h) rows run source manifest from (begins start) status left to after
    → ComesTo h (world_of h) rows run source start manifest from status left to after

-- whatever calls fail
abbrev pub RunsBeginSo : {I O W E : Type 0} → (F : Type 0) → Reader I → Writer O → Writer W → Writer E → Type 0
RunsBeginSo F reader output rows errors = EachBeginsSo (λ h. over {F = F} h reader output errors) rows

-- where readers give what the files hold that were opened
abbrev pub RunsOfHeldBeginSo : {I O W E : Type 0} → (F : Type 0) → Reader I → Writer O → Writer W → Writer E → Type 0
RunsOfHeldBeginSo F reader output rows errors =
    EachBeginsSo (λ h. over {F = F} h (as_held h reader) output errors) rows

-- where no look fails
abbrev pub SureRunsBeginSo : {I O W E : Type 0} → (F : Type 0) → Reader I → Writer O → Writer W → Writer E → Type 0
SureRunsBeginSo F reader output rows errors = EachBeginsSo (λ h. over_sure {F = F} h reader output errors) rows

-- and where no call fails that need not
abbrev pub WorkingRunsBeginSo : {I O W E : Type 0} → (F : Type 0) → Reader I → Writer O → Writer W → Writer E → Type 0
WorkingRunsBeginSo F reader output rows errors = EachBeginsSo (λ h. working {F = F} h reader output errors) rows
