-- The name of an output in the tree of outputs: what is there, and the folders on its way.
use Rattle.std.specs.Prelude.{◌≡◌, ◌≢◌, ℕ, ◌+◌, nat_le, length, List, take, drop, Bool, true, false, Option, Some, None}
use Rattle.std.specs.Prelude.{Result, Ok, Err, if◌then◌else◌}
use Rattle.std.specs.Option.{is_none}
use Rattle.std.specs.IoError.{error_kind}
use Rattle.std.specs.Str.{IsUtf8}
use Rattle.std.specs.declared.io.Error.{Error}
use Rattle.std.specs.declared.io.ErrorKind.TheVariants.{AlreadyExists}
use Rattle.dcm_files.specs.Folders.{FoldersDo}
use Rattle.dcm_files.specs.declared.folders.Found.{Found}
use Rattle.dcm_files.specs.declared.folders.FoundKind.{FoundKind}
use Rattle.dcm_files.specs.declared.folders.FoundKind.TheVariants as kinds
use Rattle.dcm_files.specs.declared.folders.Links.TheVariants.{Kept}
use Rattle.dcm_walk.specs.Names.{PATH_LIMIT, below}
use Rattle.dcm_walk.specs.List.{IsSlash}
use Rattle.dcm_trees.specs.declared.modes.NoMode.{NoMode}
use Rattle.dcm_trees.specs.declared.place.Place.{Place}
use Rattle.dcm_trees.specs.declared.place.Place.TheVariants.{Free, There, Barred}
use Rattle.dcm_trees.specs.declared.place.Way.{Way}
use Rattle.dcm_trees.specs.declared.place.Way.TheVariants.{Whole, Missing, Blocked}
use Rattle.dcm_trees.specs.declared.place.Unseen.{Unseen}
use Rattle.dcm_trees.specs.declared.place.NotMade.{NotMade}
use Rattle.dcm_trees.specs.Modes.{Modes, FindsMode}

-- ---- paths

-- a path in the folder of the outputs, where the system takes it
abbrev pub path_in : (output name : List ℕ) → Option (List ℕ)
path_in output name = if nat_le (length (below output name)) PATH_LIMIT then Some (below output name) else None

-- ---- looking

-- what is at a path, links not followed; or it cannot be looked at
pub data Looks {S O F : Type 0} (d : FoldersDo S O F) (path : List ℕ) (before : S) (seen : Result (Option Found) Unseen)
    (after : S) : Type 0 where
  no_text : (u : Unseen) → ¬ (IsUtf8 path) → seen ≡ Err u → after ≡ before → Looks d path before seen after
  looked : (found : Option Found) → IsUtf8 path → d.finds before path Kept (Ok found) after → seen ≡ Ok found
      → Looks d path before seen after
  not_looked : (e : Error) (u : Unseen) → IsUtf8 path → d.finds before path Kept (Err e) after → seen ≡ Err u
      → Looks d path before seen after

-- what is at a folder's place ends the way there, unless it is a folder
abbrev pub end_at : FoundKind → Option Way
end_at kinds.Folder = None
end_at _ = Some Blocked

abbrev pub end_of_found : Option Found → Option Way
end_of_found None = Some Missing
end_of_found (Some found) = end_at found.kind

abbrev pub end_of_way : Result (Option Found) Unseen → Option Way
end_of_way (Ok found) = end_of_found found
end_of_way (Err u) = Some Blocked

-- the folders on the way to a path are there up to a place of it, one after another
pub data AreFolders {S O F : Type 0} (d : FoldersDo S O F) (path : List ℕ) (base : ℕ) (before : S)
    : (at : ℕ) → (after : S) → Type 0 where
  none_yet : {at : ℕ} {after : S} → at ≡ base → after ≡ before → AreFolders d path base before at after
  and_folder : {at : ℕ} {after : S} (from size : ℕ) (seen : Result (Option Found) Unseen) (mid : S)
      → AreFolders d path base before from mid → IsSlash (drop from path) (Some size)
      → Looks d (take (from + size) path) mid seen after → end_of_way seen ≡ None → at ≡ from + (size + 1)
      → AreFolders d path base before at after

-- all of them are; or the first of them that is none ends the way
pub data LooksAlong {S O F : Type 0} (d : FoldersDo S O F) (path : List ℕ) (base : ℕ) (before : S) (way : Way)
    (after : S) : Type 0 where
  to_its_end : (at : ℕ) → AreFolders d path base before at after → IsSlash (drop at path) None → way ≡ Whole
      → LooksAlong d path base before way after
  ended : (at size : ℕ) (seen : Result (Option Found) Unseen) (end : Way) (mid : S)
      → AreFolders d path base before at mid → IsSlash (drop at path) (Some size)
      → Looks d (take (at + size) path) mid seen after → end_of_way seen ≡ Some end → way ≡ end
      → LooksAlong d path base before way after

-- what is at the end of a way
abbrev pub place_at : FoundKind → Place
place_at kinds.File = There
place_at _ = Barred

abbrev pub place_of_found : Option Found → Place
place_of_found None = Free
place_of_found (Some found) = place_at found.kind

abbrev pub place_of : Result (Option Found) Unseen → Place
place_of (Ok found) = place_of_found found
place_of (Err u) = Barred

abbrev pub is_free : Place → Bool
is_free Free = true
is_free There = false
is_free Barred = false

-- what is at the path of an output: its way ends before, or it is looked at
pub data Finds {S O F : Type 0} (d : FoldersDo S O F) (path : List ℕ) (base : ℕ) (before : S) (place : Place)
    (after : S) : Type 0 where
  missing : LooksAlong d path base before Missing after → place ≡ Free → Finds d path base before place after
  blocked : LooksAlong d path base before Blocked after → place ≡ Barred → Finds d path base before place after
  at_its_end : (seen : Result (Option Found) Unseen) (mid : S) → LooksAlong d path base before Whole mid
      → Looks d path mid seen after → place ≡ place_of seen → Finds d path base before place after

-- ---- making folders

-- a folder is there, and no link to one
pub data FindsFolder {S O F : Type 0} (d : FoldersDo S O F) (path : List ℕ) (before : S) (is_there : Bool) (after : S)
    : Type 0 where
  by_looking : (seen : Result (Option Found) Unseen) → Looks d path before seen after
      → is_there ≡ is_none (end_of_way seen) → FindsFolder d path before is_there after

-- a folder is made with bits of a mode, or is there
pub data MakesNew {S O F : Type 0} (d : FoldersDo S O F) (path : List ℕ) (mode : ℕ) (before : S)
    (r : Result (Unit {0}) NotMade) (after : S) : Type 0 where
  no_text : (e : NotMade) → ¬ (IsUtf8 path) → r ≡ Err e → after ≡ before → MakesNew d path mode before r after
  made : IsUtf8 path → d.makes_folder before path mode (Ok _) after → r ≡ Ok _ → MakesNew d path mode before r after
  was_there : (cause : Error) (tried : S) → IsUtf8 path → d.makes_folder before path mode (Err cause) tried
      → error_kind cause ≡ AlreadyExists → FindsFolder d path tried true after → r ≡ Ok _
      → MakesNew d path mode before r after
  no_folder : (cause : Error) (e : NotMade) (tried : S) → IsUtf8 path
      → d.makes_folder before path mode (Err cause) tried → error_kind cause ≡ AlreadyExists
      → FindsFolder d path tried false after → r ≡ Err e → MakesNew d path mode before r after
  not_made : (cause : Error) (e : NotMade) → IsUtf8 path → d.makes_folder before path mode (Err cause) after
      → error_kind cause ≢ AlreadyExists → r ≡ Err e → MakesNew d path mode before r after

-- a folder, by its name in the folder of the outputs, is there; or it is made, with the mode that is found for that name
pub data HasFolder {S O F : Type 0} (d : FoldersDo S O F) (modes : Modes) (path : List ℕ) (base : ℕ) (before : S)
    (r : Result (Unit {0}) NotMade) (after : S) : Type 0 where
  there_already : FindsFolder d path before true after → r ≡ Ok _ → HasFolder d modes path base before r after
  no_mode : (n : NoMode) (e : NotMade) (looked : S) → FindsFolder d path before false looked
      → FindsMode d modes (drop base path) looked (Err n) after → r ≡ Err e
      → HasFolder d modes path base before r after
  has_mode : (mode : ℕ) (looked seen : S) → FindsFolder d path before false looked
      → FindsMode d modes (drop base path) looked (Ok mode) seen → MakesNew d path mode seen r after
      → HasFolder d modes path base before r after

-- the folders on the way to a path were made up to a place of it, one after another
pub data AreMade {S O F : Type 0} (d : FoldersDo S O F) (modes : Modes) (path : List ℕ) (base : ℕ) (before : S)
    : (at : ℕ) → (after : S) → Type 0 where
  none_made : {at : ℕ} {after : S} → at ≡ base → after ≡ before → AreMade d modes path base before at after
  and_made : {at : ℕ} {after : S} (from size : ℕ) (mid : S) → AreMade d modes path base before from mid
      → IsSlash (drop from path) (Some size) → HasFolder d modes (take (from + size) path) base mid (Ok _) after
      → at ≡ from + (size + 1) → AreMade d modes path base before at after

-- all of them were, or one of them cannot be made
pub data MakesWay {S O F : Type 0} (d : FoldersDo S O F) (modes : Modes) (path : List ℕ) (base : ℕ) (before : S)
    (r : Result (Unit {0}) NotMade) (after : S) : Type 0 where
  all_made : (at : ℕ) → AreMade d modes path base before at after → IsSlash (drop at path) None → r ≡ Ok _
      → MakesWay d modes path base before r after
  not_all : (at size : ℕ) (e : NotMade) (mid : S) → AreMade d modes path base before at mid
      → IsSlash (drop at path) (Some size) → HasFolder d modes (take (at + size) path) base mid (Err e) after
      → r ≡ Err e → MakesWay d modes path base before r after
