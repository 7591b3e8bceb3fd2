-- The beginning of a run over a tree.
use Rattle.std.specs.Prelude.{◌≡◌, ◌≢◌, ℕ, ◌==◌, nat_le, length, List, [], ◌∷◌, ◌++◌, codes, Bool, true, false, ◌&&◌, ◌||◌}
use Rattle.std.specs.Prelude.{not, Option, Some, None, Result, Ok, Err, if◌then◌else◌}
use Rattle.std.specs.IoError.{error_kind}
use Rattle.std.specs.Str.{IsUtf8}
use Rattle.std.specs.declared.io.Error.{Error}
use Rattle.std.specs.declared.io.ErrorKind.TheVariants.{AlreadyExists}
use Rattle.arrayvec.specs.ArrayVec.{ArrayVec}
use Rattle.dcm_devices.specs.Writing.{Writer}
use Rattle.dcm_files.specs.Devices.{MayDo}
use Rattle.dcm_files.specs.Folders.{FoldersDo}
use Rattle.dcm_files.specs.declared.folders.Found.{Found}
use Rattle.dcm_files.specs.declared.folders.FoundKind.{FoundKind}
use Rattle.dcm_files.specs.declared.folders.FoundKind.TheVariants.{File, Folder}
use Rattle.dcm_files.specs.declared.folders.Links.TheVariants.{Kept, Followed}
use Rattle.dcm_files.specs.declared.opened.FileKind.{FileKind}
use Rattle.dcm_files.specs.declared.opened.FileKind.TheVariants.{Regular}
use Rattle.dcm_names.specs.NamedLines.{named_line}
use Rattle.dcm_tree_words.specs.declared.said.TreeOptions.{TreeOptions}
use Rattle.dcm_walk.specs.declared.folder.FolderNumber.{FolderNumber}
use Rattle.dcm_walk.specs.Names.{PATH_LIMIT, is_slash}
use Rattle.dcm_cli.specs.Calls.{Reports}
use Rattle.dcm_trees.specs.declared.beginning.Begun.{Begun}
use Rattle.dcm_trees.specs.declared.beginning.Refusal.{Refusal}
use Rattle.dcm_trees.specs.declared.beginning.Refusal.TheVariants.{Output, Same, OutputWithin, InputWithin, AtWork, PartThere, NotEmpty, LettersAlike}
use Rattle.dcm_trees.specs.declared.beginning.Spared.{Spared}
use Rattle.dcm_trees.specs.declared.beginning.WayUp.{WayUp}
use Rattle.dcm_trees.specs.declared.modes.NoMode.{NoMode}
use Rattle.dcm_trees.specs.Letters.{path_in_capitals, IsOneName}
use Rattle.dcm_trees.specs.Modes.{Modes, FindsMode}
use Rattle.dcm_trees.specs.Place.{path_in}

-- ---- looking, links followed

abbrev pub number_of : Found → FolderNumber
number_of found = record { device = found.device; number = found.number }

-- what is at a path; or it cannot be looked at
pub data Looks {S O F : Type 0} (d : FoldersDo S O F) (path : List ℕ) (before : S) (r : Result (Option Found) Refusal)
    (after : S) : Type 0 where
  no_text : ¬ (IsUtf8 path) → r ≡ Err Output → after ≡ before → Looks d path before r after
  looked : (found : Option Found) → IsUtf8 path → d.finds before path Followed (Ok found) after → r ≡ Ok found
      → Looks d path before r after
  not_looked : (e : Error) → IsUtf8 path → d.finds before path Followed (Err e) after → r ≡ Err Output
      → Looks d path before r after

-- its number
pub data Numbers {S O F : Type 0} (d : FoldersDo S O F) (path : List ℕ) (before : S) (r : Result FolderNumber Refusal)
    (after : S) : Type 0 where
  numbered : (found : Found) → Looks d path before (Ok (Some found)) after → r ≡ Ok (number_of found)
      → Numbers d path before r after
  nothing : Looks d path before (Ok None) after → r ≡ Err Output → Numbers d path before r after
  not_seen : (refusal : Refusal) → Looks d path before (Err refusal) after → r ≡ Err refusal → Numbers d path before r after

-- ---- the way up

abbrev pub is_same : FolderNumber → FolderNumber → Bool
is_same a b = a.device == b.device && a.number == b.number

-- the folder that a folder at a path is in
abbrev pub above : List ℕ → List ℕ
above path = path ++ codes "/.."

abbrev pub is_short : List ℕ → Bool
is_short path = nat_le (length path) PATH_LIMIT

abbrev pub short : List ℕ → Option (List ℕ)
short path = if is_short path then Some path else None

-- a folder and those that it is in were numbered up to one of them, at this path: its number, and whether another one is
-- among them
pub data Climbed {S O F : Type 0} (d : FoldersDo S O F) (path : List ℕ) (other : FolderNumber) (before : S)
    : (at : List ℕ) → (first last : FolderNumber) → (has_other : Bool) → (after : S) → Type 0 where
  itself : {at : List ℕ} {first last : FolderNumber} {has_other : Bool} {after : S} → Numbers d path before (Ok first) after
      → is_short path ≡ true → at ≡ path → last ≡ first → has_other ≡ is_same first other
      → Climbed d path other before at first last has_other after
  and_above : {at : List ℕ} {first last : FolderNumber} {has_other : Bool} {after : S} (from : List ℕ)
      (below : FolderNumber) (had_other : Bool) (mid : S) → Climbed d path other before from first below had_other mid
      → is_short (above from) ≡ true → Numbers d (above from) mid (Ok last) after → is_same last below ≡ false
      → at ≡ above from → has_other ≡ (had_other || is_same last other)
      → Climbed d path other before at first last has_other after

-- up to the one that is in itself; or one of them cannot be looked at, or its path is too long
pub data Climbs {S O F : Type 0} (d : FoldersDo S O F) (path : List ℕ) (other : FolderNumber) (before : S)
    (r : Result WayUp Refusal) (after : S) : Type 0 where
  not_begun : (refusal : Refusal) → Numbers d path before (Err refusal) after → r ≡ Err refusal
      → Climbs d path other before r after
  too_long : (first : FolderNumber) → Numbers d path before (Ok first) after → is_short path ≡ false → r ≡ Err Output
      → Climbs d path other before r after
  to_the_top : (at : List ℕ) (first last again : FolderNumber) (has_other : Bool) (mid : S)
      → Climbed d path other before at first last has_other mid → is_short (above at) ≡ true
      → Numbers d (above at) mid (Ok again) after → is_same again last ≡ true
      → r ≡ Ok (record { first = first; has_other = has_other }) → Climbs d path other before r after
  not_seen : (at : List ℕ) (first last : FolderNumber) (has_other : Bool) (refusal : Refusal) (mid : S)
      → Climbed d path other before at first last has_other mid → is_short (above at) ≡ true
      → Numbers d (above at) mid (Err refusal) after → r ≡ Err refusal → Climbs d path other before r after
  too_deep : (at : List ℕ) (first last : FolderNumber) (has_other : Bool)
      → Climbed d path other before at first last has_other after → is_short (above at) ≡ false → r ≡ Err Output
      → Climbs d path other before r after

-- ---- the folder that something is in, by its path

abbrev pub is_left_out : (slashes : Bool) → ℕ → Bool
is_left_out slashes b = if slashes then is_slash b else not (is_slash b)

-- without the slashes at its end, or without what is behind its last slash
unfoldable pub without_end : (slashes : Bool) → List ℕ → List ℕ
without_end slashes [] = []
without_end slashes (b ∷ bs) =
    elim (without_end slashes bs) [ [] ↦ if is_left_out slashes b then [] else b ∷ [] | c ∷ cs ↦ b ∷ c ∷ cs ]

-- of a path without a slash it is the current one, and of one in the root that
abbrev pub or_root : (path : List ℕ) → List ℕ
or_root [] = codes "."
or_root (b ∷ bs) = if is_slash b then codes "/" else codes "."

abbrev pub parent_or : (path parent : List ℕ) → List ℕ
parent_or path [] = or_root path
parent_or path (b ∷ bs) = b ∷ bs

abbrev pub parent_of : List ℕ → List ℕ
parent_of path = parent_or path (without_end true (without_end false (without_end true path)))

-- ---- the folder of the outputs

-- it is there, or nothing is; else it is refused
pub data IsThere {S O F : Type 0} (d : FoldersDo S O F) (output : List ℕ) (before : S) (r : Result Bool Refusal)
    (after : S) : Type 0 where
  nothing : Looks d output before (Ok None) after → r ≡ Ok false → IsThere d output before r after
  a_folder : (found : Found) → Looks d output before (Ok (Some found)) after → found.kind ≡ Folder → r ≡ Ok true
      → IsThere d output before r after
  no_folder : (found : Found) → Looks d output before (Ok (Some found)) after → found.kind ≢ Folder → r ≡ Err Output
      → IsThere d output before r after
  not_seen : (refusal : Refusal) → Looks d output before (Err refusal) after → r ≡ Err refusal
      → IsThere d output before r after

-- a folder is made with bits of a mode, or something is there
pub data MakesFolder {S O F : Type 0} (d : FoldersDo S O F) (path : List ℕ) (mode : ℕ) (before : S)
    (r : Result (Unit {0}) Refusal) (after : S) : Type 0 where
  no_text : ¬ (IsUtf8 path) → r ≡ Err Output → after ≡ before → MakesFolder d path mode before r after
  made : IsUtf8 path → d.makes_folder before path mode (Ok _) after → r ≡ Ok _ → MakesFolder d path mode before r after
  was_there : (e : Error) → IsUtf8 path → d.makes_folder before path mode (Err e) after → error_kind e ≡ AlreadyExists
      → r ≡ Ok _ → MakesFolder d path mode before r after
  not_made : (e : Error) → IsUtf8 path → d.makes_folder before path mode (Err e) after → error_kind e ≢ AlreadyExists
      → r ≡ Err Output → MakesFolder d path mode before r after

-- the number of a folder that is there
pub data NumbersFolder {S O F : Type 0} (d : FoldersDo S O F) (path : List ℕ) (before : S)
    (r : Result FolderNumber Refusal) (after : S) : Type 0 where
  a_folder : (found : Found) → Looks d path before (Ok (Some found)) after → found.kind ≡ Folder
      → r ≡ Ok (number_of found) → NumbersFolder d path before r after
  no_folder : (found : Found) → Looks d path before (Ok (Some found)) after → found.kind ≢ Folder → r ≡ Err Output
      → NumbersFolder d path before r after
  nothing : Looks d path before (Ok None) after → r ≡ Err Output → NumbersFolder d path before r after
  not_seen : (refusal : Refusal) → Looks d path before (Err refusal) after → r ≡ Err refusal
      → NumbersFolder d path before r after

-- it is made with the mode that is found for it; one that was made meanwhile does
pub data MakesOutput {S O F : Type 0} (d : FoldersDo S O F) (modes : Modes) (output : List ℕ) (before : S)
    (r : Result FolderNumber Refusal) (after : S) : Type 0 where
  no_mode : (n : NoMode) → FindsMode d modes [] before (Err n) after → r ≡ Err Output
      → MakesOutput d modes output before r after
  not_made : (mode : ℕ) (refusal : Refusal) (seen : S) → FindsMode d modes [] before (Ok mode) seen
      → MakesFolder d output mode seen (Err refusal) after → r ≡ Err refusal → MakesOutput d modes output before r after
  made : (mode : ℕ) (seen mid : S) → FindsMode d modes [] before (Ok mode) seen
      → MakesFolder d output mode seen (Ok _) mid → NumbersFolder d output mid r after
      → MakesOutput d modes output before r after

-- the folder that is read tells it, but not where that is the current one, for names of a list
abbrev pub folder_read : (input : List ℕ) → (is_list : Bool) → Option (List ℕ)
folder_read input is_list = if is_list then None else Some input

abbrev pub output_modes : (input : List ℕ) → (is_list : Bool) → Modes
output_modes input is_list = record { folder = folder_read input is_list; by_name = false }

-- it is within the folder that is read; names of a list may lie around it
abbrev pub is_within : (is_list : Bool) → WayUp → Bool
is_within is_list way = not is_list && way.has_other

-- of a folder that is there: why it is not used, by its way up and that of the folder that is read
abbrev pub clash : (is_list : Bool) → (read : FolderNumber) → WayUp → Option Refusal
clash is_list read way = if is_same way.first read then Some Same
    else (if is_within is_list way then Some OutputWithin else None)

pub data Compares {S O F : Type 0} (d : FoldersDo S O F) (input : List ℕ) (is_list : Bool) (output : List ℕ) (before : S)
    (r : Result FolderNumber Refusal) (after : S) : Type 0 where
  not_numbered : (refusal : Refusal) → Numbers d input before (Err refusal) after → r ≡ Err refusal
      → Compares d input is_list output before r after
  not_climbed : (read : FolderNumber) (refusal : Refusal) (mid : S) → Numbers d input before (Ok read) mid
      → Climbs d output read mid (Err refusal) after → r ≡ Err refusal → Compares d input is_list output before r after
  clashed : (read : FolderNumber) (way : WayUp) (refusal : Refusal) (mid : S) → Numbers d input before (Ok read) mid
      → Climbs d output read mid (Ok way) after → clash is_list read way ≡ Some refusal → r ≡ Err refusal
      → Compares d input is_list output before r after
  not_back : (read : FolderNumber) (way : WayUp) (refusal : Refusal) (mid climbed : S)
      → Numbers d input before (Ok read) mid → Climbs d output read mid (Ok way) climbed
      → clash is_list read way ≡ None → Climbs d input way.first climbed (Err refusal) after → r ≡ Err refusal
      → Compares d input is_list output before r after
  within : (read : FolderNumber) (way back : WayUp) (mid climbed : S) → Numbers d input before (Ok read) mid
      → Climbs d output read mid (Ok way) climbed → clash is_list read way ≡ None
      → Climbs d input way.first climbed (Ok back) after → back.has_other ≡ true → r ≡ Err InputWithin
      → Compares d input is_list output before r after
  apart : (read : FolderNumber) (way back : WayUp) (mid climbed : S) → Numbers d input before (Ok read) mid
      → Climbs d output read mid (Ok way) climbed → clash is_list read way ≡ None
      → Climbs d input way.first climbed (Ok back) after → back.has_other ≡ false → r ≡ Ok way.first
      → Compares d input is_list output before r after

-- of one that is not there: it is made, unless the folder that it is to be in is read, or within one that is
pub data MakesApart {S O F : Type 0} (d : FoldersDo S O F) (input : List ℕ) (is_list : Bool) (output : List ℕ)
    (before : S) (r : Result FolderNumber Refusal) (after : S) : Type 0 where
  not_numbered : (refusal : Refusal) → Numbers d input before (Err refusal) after → r ≡ Err refusal
      → MakesApart d input is_list output before r after
  not_climbed : (read : FolderNumber) (refusal : Refusal) (mid : S) → Numbers d input before (Ok read) mid
      → Climbs d (parent_of output) read mid (Err refusal) after → r ≡ Err refusal
      → MakesApart d input is_list output before r after
  within : (read : FolderNumber) (way : WayUp) (mid : S) → Numbers d input before (Ok read) mid
      → Climbs d (parent_of output) read mid (Ok way) after → is_within is_list way ≡ true
      → r ≡ Err OutputWithin → MakesApart d input is_list output before r after
  made : (read : FolderNumber) (way : WayUp) (mid climbed : S) → Numbers d input before (Ok read) mid
      → Climbs d (parent_of output) read mid (Ok way) climbed → is_within is_list way ≡ false
      → MakesOutput d (output_modes input is_list) output climbed r after
      → MakesApart d input is_list output before r after

pub data HasOutput {S O F : Type 0} (d : FoldersDo S O F) (input : List ℕ) (is_list : Bool) (output : List ℕ)
    (before : S) (r : Result FolderNumber Refusal) (after : S) : Type 0 where
  not_looked : (refusal : Refusal) → IsThere d output before (Err refusal) after → r ≡ Err refusal
      → HasOutput d input is_list output before r after
  was_there : (looked : S) → IsThere d output before (Ok true) looked
      → Compares d input is_list output looked r after → HasOutput d input is_list output before r after
  not_there : (looked : S) → IsThere d output before (Ok false) looked
      → MakesApart d input is_list output looked r after → HasOutput d input is_list output before r after

-- ---- what is in it

-- it is the file that was opened so
abbrev pub is_one : Option FileKind → Found → Bool
is_one (Some (Regular device number size)) found = device == found.device && number == found.number
is_one _ found = false

-- it is read beside the inputs: the key, or the list
abbrev pub is_spared : Spared → Found → Bool
is_spared spared found = is_one spared.key found || is_one spared.list found

abbrev pub is_file : FoundKind → Bool
is_file File = true
is_file _ = false

-- a run may have left it over, where it is at the path of the part
abbrev pub may_be_left : Spared → Found → Bool
may_be_left spared found = is_file found.kind && not (is_spared spared found)

-- a file that this run has locked is removed
pub data RemovesLocked {S I O : Type 0} (may : MayDo S I O) (part : List ℕ) (before : S) (r : Result Bool Refusal)
    (after : S) : Type 0 where
  removed : may.removes before part (Ok _) after → r ≡ Ok true → RemovesLocked may part before r after
  not_removed : (e : Error) → may.removes before part (Err e) after → r ≡ Err PartThere
      → RemovesLocked may part before r after

-- a file is locked, and removed; or another run has locked it, or it cannot be locked
pub data RemovesLeft {S I O : Type 0} (may : MayDo S I O) (part : List ℕ) (before : S) (r : Result Bool Refusal)
    (after : S) : Type 0 where
  locked : (mid : S) → may.seizes before part (Ok true) mid → RemovesLocked may part mid r after
      → RemovesLeft may part before r after
  at_work : may.seizes before part (Ok false) after → r ≡ Err AtWork → RemovesLeft may part before r after
  not_locked : (e : Error) → may.seizes before part (Err e) after → r ≡ Err PartThere
      → RemovesLeft may part before r after

-- what is at the path of the part may be left over, or not
pub data ClearsFound {S I O : Type 0} (may : MayDo S I O) (part : List ℕ) (spared : Spared) (found : Found) (before : S)
    (r : Result Bool Refusal) (after : S) : Type 0 where
  may_be : may_be_left spared found ≡ true → RemovesLeft may part before r after
      → ClearsFound may part spared found before r after
  is_other : may_be_left spared found ≡ false → r ≡ Err PartThere → after ≡ before
      → ClearsFound may part spared found before r after

-- nothing is at the path of the part that this run would write, or what is there is left over, and removed
pub data ChecksPart {S I O F : Type 0} (may : MayDo S I O) (d : FoldersDo S O F) (part : List ℕ) (spared : Spared)
    (before : S) (r : Result Bool Refusal) (after : S) : Type 0 where
  no_text : ¬ (IsUtf8 part) → r ≡ Err Output → after ≡ before → ChecksPart may d part spared before r after
  nothing : IsUtf8 part → d.finds before part Kept (Ok None) after → r ≡ Ok false
      → ChecksPart may d part spared before r after
  is_there : (found : Found) (looked : S) → IsUtf8 part → d.finds before part Kept (Ok (Some found)) looked
      → ClearsFound may part spared found looked r after → ChecksPart may d part spared before r after
  not_seen : (e : Error) → IsUtf8 part → d.finds before part Kept (Err e) after → r ≡ Err Output
      → ChecksPart may d part spared before r after

abbrev pub left_line : (name : List ℕ) → (was_left : Bool) → List ℕ
left_line name was_left = if was_left then named_line name (codes "left over, and removed") else []

-- that is told by the name of the part
pub data ClearsWay {S I O F E : Type 0} (may : MayDo S I O) (d : FoldersDo S O F) (e : Writer E) (path name : List ℕ)
    (spared : Spared) (from : E) (before : S) (r : Result (Unit {0}) Refusal) (to : E) (after : S) : Type 0 where
  not_clear : (refusal : Refusal) → ChecksPart may d path spared before (Err refusal) after → to ≡ from
      → r ≡ Err refusal → ClearsWay may d e path name spared from before r to after
  clear : (was_left : Bool) → ChecksPart may d path spared before (Ok was_left) after
      → Reports e from to (left_line name was_left) → r ≡ Ok _
      → ClearsWay may d e path name spared from before r to after

-- no name is in it
pub data ChecksEmpty {S O F : Type 0} (d : FoldersDo S O F) (output : List ℕ) (before : S)
    (r : Result (Unit {0}) Refusal) (after : S) : Type 0 where
  no_text : ¬ (IsUtf8 output) → r ≡ Err Output → after ≡ before → ChecksEmpty d output before r after
  not_opened : (e : Error) → IsUtf8 output → d.opens_folder before output (Err e) after → r ≡ Err Output
      → ChecksEmpty d output before r after
  empty : (folder left : F) (opened listed : S) → IsUtf8 output → d.opens_folder before output (Ok folder) opened
      → d.names opened folder (Ok None) left listed → d.closes_folder listed left after → r ≡ Ok _
      → ChecksEmpty d output before r after
  not_empty : (folder left : F) (name : List ℕ) (opened listed : S) → IsUtf8 output
      → d.opens_folder before output (Ok folder) opened → d.names opened folder (Ok (Some name)) left listed
      → d.closes_folder listed left after → r ≡ Err NotEmpty → ChecksEmpty d output before r after
  not_listed : (folder left : F) (e : Error) (opened listed : S) → IsUtf8 output
      → d.opens_folder before output (Ok folder) opened → d.names opened folder (Err e) left listed
      → d.closes_folder listed left after → r ≡ Err Output → ChecksEmpty d output before r after

-- the folder is opened by the name that it has for itself, behind its path, which may be that of a link to it; but not
-- where that would be too long
pub data ChecksNew {S O F : Type 0} (d : FoldersDo S O F) (output : List ℕ) (before : S)
    (r : Result (Unit {0}) Refusal) (after : S) : Type 0 where
  followed : (own : List ℕ) → path_in output (codes ".") ≡ Some own → ChecksEmpty d own before r after
      → ChecksNew d output before r after
  too_long : path_in output (codes ".") ≡ None → ChecksEmpty d output before r after → ChecksNew d output before r after

-- names that are read may differ in small and capital letters alone: those of a list, and those of a folder that is on
-- another device
pub data MayDiffer {S O F : Type 0} (d : FoldersDo S O F) (input : List ℕ) (is_list : Bool) (number : FolderNumber)
    (before : S) (r : Result Bool Refusal) (after : S) : Type 0 where
  of_list : is_list ≡ true → r ≡ Ok true → after ≡ before → MayDiffer d input is_list number before r after
  of_folder : (read : FolderNumber) → is_list ≡ false → Numbers d input before (Ok read) after
      → r ≡ Ok (not (read.device == number.device)) → MayDiffer d input is_list number before r after
  not_numbered : (refusal : Refusal) → is_list ≡ false → Numbers d input before (Err refusal) after → r ≡ Err refusal
      → MayDiffer d input is_list number before r after

-- these are refused where they would be one name: where the part, which is made for that, is at its path in capital
-- letters too
pub data TriesLetters {S I O F : Type 0} (may : MayDo S I O) (d : FoldersDo S O F) (output part path : List ℕ)
    (before : S) (r : Result (Unit {0}) Refusal) (after : S) : Type 0 where
  too_long : path_in_capitals output part ≡ None → r ≡ Err Output → after ≡ before
      → TriesLetters may d output part path before r after
  told_apart : (capitals : List ℕ) → path_in_capitals output part ≡ Some capitals
      → IsOneName may d path capitals before (Ok false) after → r ≡ Ok _
      → TriesLetters may d output part path before r after
  alike : (capitals : List ℕ) → path_in_capitals output part ≡ Some capitals
      → IsOneName may d path capitals before (Ok true) after → r ≡ Err LettersAlike
      → TriesLetters may d output part path before r after
  not_tried : (capitals : List ℕ) (refusal : Refusal) → path_in_capitals output part ≡ Some capitals
      → IsOneName may d path capitals before (Err refusal) after → r ≡ Err refusal
      → TriesLetters may d output part path before r after

pub data ChecksLetters {S I O F : Type 0} (may : MayDo S I O) (d : FoldersDo S O F) (input : List ℕ) (is_list : Bool)
    (output : List ℕ) (number : FolderNumber) (part path : List ℕ) (before : S) (r : Result (Unit {0}) Refusal)
    (after : S) : Type 0 where
  may_differ : (looked : S) → MayDiffer d input is_list number before (Ok true) looked
      → TriesLetters may d output part path looked r after
      → ChecksLetters may d input is_list output number part path before r after
  of_one_device : MayDiffer d input is_list number before (Ok false) after → r ≡ Ok _
      → ChecksLetters may d input is_list output number part path before r after
  not_seen : (refusal : Refusal) → MayDiffer d input is_list number before (Err refusal) after → r ≡ Err refusal
      → ChecksLetters may d input is_list output number part path before r after

-- where no run goes on with it no name is in it; where one does, the names that it keeps stay apart
pub data ChecksUse {S I O F : Type 0} (may : MayDo S I O) (d : FoldersDo S O F) (input : List ℕ) (is_list : Bool)
    (output : List ℕ) (number : FolderNumber) (part path : List ℕ) (options : TreeOptions) (before : S)
    (r : Result (Unit {0}) Refusal) (after : S) : Type 0 where
  is_new : options.continues ≡ false → ChecksNew d output before r after
      → ChecksUse may d input is_list output number part path options before r after
  goes_on : options.continues ≡ true → options.keeps_names ≡ false → r ≡ Ok _ → after ≡ before
      → ChecksUse may d input is_list output number part path options before r after
  keeps_names : options.continues ≡ true → options.keeps_names ≡ true
      → ChecksLetters may d input is_list output number part path before r after
      → ChecksUse may d input is_list output number part path options before r after

-- the path of the part in the folder of the outputs
pub data IsPart (output part : List ℕ) (r : Result (ArrayVec ℕ) Refusal) : Type 0 where
  fits : (path : ArrayVec ℕ) → path_in output part ≡ Some path.items → r ≡ Ok path → IsPart output part r
  too_long : path_in output part ≡ None → r ≡ Err Output → IsPart output part r

-- all of it, one after the other
pub data Begins {S I O F E : Type 0} (may : MayDo S I O) (d : FoldersDo S O F) (e : Writer E) (input : List ℕ)
    (is_list : Bool) (output part : List ℕ) (options : TreeOptions) (spared : Spared) (from : E) (before : S)
    (r : Result Begun Refusal) (to : E) (after : S) : Type 0 where
  no_output : (refusal : Refusal) → HasOutput d input is_list output before (Err refusal) after → r ≡ Err refusal
      → to ≡ from → Begins may d e input is_list output part options spared from before r to after
  no_part : (number : FolderNumber) (refusal : Refusal) → HasOutput d input is_list output before (Ok number) after
      → IsPart output part (Err refusal) → r ≡ Err refusal → to ≡ from
      → Begins may d e input is_list output part options spared from before r to after
  has_part : (number : FolderNumber) (path : ArrayVec ℕ) (refusal : Refusal) (mid : S)
      → HasOutput d input is_list output before (Ok number) mid → IsPart output part (Ok path)
      → ClearsWay may d e path.items part spared from mid (Err refusal) to after → r ≡ Err refusal
      → Begins may d e input is_list output part options spared from before r to after
  in_use : (number : FolderNumber) (path : ArrayVec ℕ) (refusal : Refusal) (mid checked : S)
      → HasOutput d input is_list output before (Ok number) mid → IsPart output part (Ok path)
      → ClearsWay may d e path.items part spared from mid (Ok _) to checked
      → ChecksUse may d input is_list output number part path.items options checked (Err refusal) after → r ≡ Err refusal
      → Begins may d e input is_list output part options spared from before r to after
  begun : (number : FolderNumber) (path : ArrayVec ℕ) (mid checked : S)
      → HasOutput d input is_list output before (Ok number) mid → IsPart output part (Ok path)
      → ClearsWay may d e path.items part spared from mid (Ok _) to checked
      → ChecksUse may d input is_list output number part path.items options checked (Ok _) after
      → r ≡ Ok (record { number = number; part = path })
      → Begins may d e input is_list output part options spared from before r to after
