-- The walk of a list of names, one a line.
use Rattle.std.specs.Prelude.{◌≡◌, ℕ, ◌+◌, ◌<◌, Bool, true, false, ◌&&◌, if◌then◌else◌, List, [], ◌∷◌, ◌++◌, take, drop}
use Rattle.std.specs.Prelude.{length, slice_index, Option, Some, None, Result, Ok, Err}
use Rattle.std.specs.Str.{IsUtf8}
use Rattle.std.specs.declared.io.Error.{Error}
use Rattle.dcm_files.specs.Folders.{FoldersDo}
use Rattle.dcm_files.specs.declared.folders.Found.{Found}
use Rattle.dcm_files.specs.declared.folders.FoundKind.{FoundKind}
use Rattle.dcm_files.specs.declared.folders.FoundKind.TheVariants.{File}
use Rattle.dcm_files.specs.declared.folders.Links.TheVariants.{Followed}
use Rattle.dcm_names.specs.Names.{NAME_LIMIT, names_of}
use Rattle.dcm_names.specs.Reader.{Calls, AnswersEnd, AnswersUnread}
use Rattle.dcm_walk.specs.declared.folder.FolderNumber.{FolderNumber}
use Rattle.dcm_walk.specs.declared.list.ListEnd.{ListEnd}
use Rattle.dcm_walk.specs.declared.list.ListEnd.TheVariants.{Whole, Unread}
use Rattle.dcm_walk.specs.declared.visitor.Stopped.{Stopped}
use Rattle.dcm_walk.specs.declared.visitor.What.{What}
use Rattle.dcm_walk.specs.declared.visitor.What.TheVariants as whats
use Rattle.dcm_walk.specs.Folder.{IsFit, IsJudged, is_output}
use Rattle.dcm_walk.specs.Names.{is_slash, is_dot}
use Rattle.dcm_walk.specs.Visits.{Named, Step, Visits}

-- ---- a line

-- the relative name: without one `./` at its front
abbrev pub relative_of : List ℕ → List ℕ
relative_of [] = []
relative_of (b ∷ []) = b ∷ []
relative_of (b ∷ c ∷ bytes) = if is_dot b && is_slash c then bytes else b ∷ c ∷ bytes

abbrev pub named_line : (line : List ℕ) → Named
named_line line = record { name = line; relative = relative_of line; path = line }

-- the first slash of bytes is there, or they have none
abbrev pub IsSlash : List ℕ → Option ℕ → Type 0
IsSlash bytes None = (k : ℕ) → k < length bytes → is_slash (slice_index bytes k) ≡ false
IsSlash bytes (Some at) = (at < length bytes) × (is_slash (slice_index bytes at) ≡ true)
    × ((k : ℕ) → k < at → is_slash (slice_index bytes k) ≡ false)

-- ---- what is there, links followed

-- nothing is at a path, or it cannot be looked at
pub data SeesNothing {S O F : Type 0} (d : FoldersDo S O F) (path : List ℕ) (before after : S) : Type 0 where
  no_text : ¬ (IsUtf8 path) → after ≡ before → SeesNothing d path before after
  nothing : IsUtf8 path → d.finds before path Followed (Ok None) after → SeesNothing d path before after
  not_looked : (e : Error) → IsUtf8 path → d.finds before path Followed (Err e) after → SeesNothing d path before after

abbrev pub Sees : {S O F : Type 0} → FoldersDo S O F → (path : List ℕ) → (before : S) → Option Found → (after : S)
    → Type 0
Sees d path before None after = SeesNothing d path before after
Sees d path before (Some found) after = d.finds before path Followed (Ok (Some found)) after

-- what is wrong with a folder on the way: it cannot be looked at, or is that of the outputs
abbrev pub wrong_with : FolderNumber → Option Found → Option What
wrong_with output None = Some whats.Unseen
wrong_with output (Some found) = if is_output output found then Some whats.OfOutput else None

-- a regular file, or what else is there
abbrev pub what_at : FoundKind → (mode : ℕ) → What
what_at File mode = whats.File mode
what_at _ mode = whats.NoFile

abbrev pub what_of : FolderNumber → Option Found → What
what_of output None = whats.Unseen
what_of output (Some found) = if is_output output found then whats.OfOutput else what_at found.kind found.mode

-- nothing is wrong with the folders up to a place of a relative name, one after another
pub data AreOthers {S O F : Type 0} (d : FoldersDo S O F) (output : FolderNumber) (relative : List ℕ) (before : S)
    : (at : ℕ) → (after : S) → Type 0 where
  none_yet : {at : ℕ} {after : S} → at ≡ 0 → after ≡ before → AreOthers d output relative before at after
  and_folder : {at : ℕ} {after : S} (from size : ℕ) (found : Option Found) (mid : S)
      → AreOthers d output relative before from mid → IsSlash (drop from relative) (Some size)
      → Sees d (take (from + size) relative) mid found after → wrong_with output found ≡ None → at ≡ from + (size + 1)
      → AreOthers d output relative before at after

-- with none of them; or with the first of them with which something is
pub data LooksAlong {S O F : Type 0} (d : FoldersDo S O F) (output : FolderNumber) (relative : List ℕ) (before : S)
    (wrong : Option What) (after : S) : Type 0 where
  with_none : (at : ℕ) → AreOthers d output relative before at after → IsSlash (drop at relative) None → wrong ≡ None
      → LooksAlong d output relative before wrong after
  with_one : (at size : ℕ) (found : Option Found) (what : What) (mid : S) → AreOthers d output relative before at mid
      → IsSlash (drop at relative) (Some size) → Sees d (take (at + size) relative) mid found after
      → wrong_with output found ≡ Some what → wrong ≡ Some what → LooksAlong d output relative before wrong after

-- what a name is that can be looked at
pub data Looks {S O F : Type 0} (d : FoldersDo S O F) (output : FolderNumber) (n : Named) (before : S) (what : What)
    (after : S) : Type 0 where
  on_the_way : LooksAlong d output n.relative before (Some what) after → Looks d output n before what after
  at_its_end : (found : Option Found) (mid : S) → LooksAlong d output n.relative before None mid
      → Sees d n.path mid found after → what ≡ what_of output found → Looks d output n before what after

-- ---- lines

-- a line is visited as what it is
pub data DoesLine {V S O F : Type 0} (d : FoldersDo S O F) (visits : Visits V S) (output : FolderNumber)
    (line : List ℕ) (from : V) (before : S) (r : Result (Unit {0}) Stopped) (to : V) (after : S) : Type 0 where
  not_fit : (what : What) → IsJudged (named_line line) what → visits from before (named_line line) what r to after
      → DoesLine d visits output line from before r to after
  looked : (what : What) (mid : S) → IsFit (named_line line) → Looks d output (named_line line) before what mid
      → visits from mid (named_line line) what r to after → DoesLine d visits output line from before r to after

-- the names of a list were done so far, or their first bytes; what the list gave for them, and whether it was over with
-- the last of them
pub data Listed {V S I : Type 0} (gets : I → Option (List ℕ) → I → Type 0) (Line : List ℕ → Step V S) (from : V)
    (before : S) (input : I) : (to : V) → (after : S) → (given : List ℕ) → (left : I) → (is_over : Bool)
    → (names : List (List ℕ)) → Type 0 where
  none_listed : {to : V} {after : S} {given : List ℕ} {left : I} {is_over : Bool} {names : List (List ℕ)}
      → to ≡ from → after ≡ before → given ≡ [] → left ≡ input → is_over ≡ false → names ≡ []
      → Listed gets Line from before input to after given left is_over names
  and_line : {to : V} {after : S} {given : List ℕ} {left : I} {is_over : Bool} {names : List (List ℕ)}
      (earlier more : List ℕ) (others : List (List ℕ)) (name : List ℕ) (mid : V) (between : S) (at : I)
      → Listed gets Line from before input mid between earlier at false others → Calls gets is_over at more left
      → Line (take NAME_LIMIT name) mid between (Ok _) to after → given ≡ earlier ++ more
      → names ≡ others ++ name ∷ [] → Listed gets Line from before input to after given left is_over names

-- all names of a list that was read to its end were done; or its reader failed, or it has too many bytes; or the next
-- of its names stopped the walk
pub data DoesLines {V S I : Type 0} (gets : I → Option (List ℕ) → I → Type 0) (Line : List ℕ → Step V S) (from : V)
    (before : S) (input : I) (r : Result ListEnd Stopped) (to : V) (after : S) (left : I) : Type 0 where
  all_done : (given : List ℕ) (was_over : Bool) (names : List (List ℕ)) (at : I)
      → Listed gets Line from before input to after given at was_over names → AnswersEnd gets was_over at left given names
      → r ≡ Ok Whole → DoesLines gets Line from before input r to after left
  not_read : (given : List ℕ) (was_over : Bool) (names : List (List ℕ)) (count : ℕ) (at : I)
      → Listed gets Line from before input to after given at was_over names
      → AnswersUnread gets was_over at left given names count → r ≡ Ok (Unread count)
      → DoesLines gets Line from before input r to after left
  was_stopped : (given more : List ℕ) (is_over : Bool) (names others : List (List ℕ)) (name : List ℕ) (e : Stopped)
      (mid : V) (between : S) (at : I) → Listed gets Line from before input mid between given at false names
      → Calls gets is_over at more left → names_of (given ++ more) is_over ≡ names ++ name ∷ others
      → Line (take NAME_LIMIT name) mid between (Err e) to after → r ≡ Err e
      → DoesLines gets Line from before input r to after left

-- the walk of a list that is open
abbrev pub WalksList : {V S O F I : Type 0} → FoldersDo S O F → Visits V S → (gets : I → Option (List ℕ) → I → Type 0)
    → FolderNumber → (from : V) → (before : S) → (input : I) → Result ListEnd Stopped → (to : V) → (after : S) → (left : I)
    → Type 0
WalksList d visits gets output = DoesLines gets (DoesLine d visits output)
