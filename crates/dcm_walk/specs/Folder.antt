-- The walk of a folder: its names, one after another, and those of each folder in it where it comes.
use Rattle.std.specs.Prelude.{◌≡◌, ℕ, ◌+◌, ◌-◌, ◌^◌, ◌==◌, nat_lt, Bool, true, false, not, ◌&&◌, ◌||◌, List, length, take, drop}
use Rattle.std.specs.Prelude.{Option, Some, None, Result, Ok, Err, codes, zero, suc}
use Rattle.std.specs.Str.{IsUtf8}
use Rattle.std.specs.declared.io.Error.{Error}
use Rattle.dcm_files.specs.Folders.{FoldersDo}
use Rattle.dcm_files.specs.declared.folders.Found.{Found}
use Rattle.dcm_files.specs.declared.folders.FoundKind.TheVariants as kinds
use Rattle.dcm_files.specs.declared.folders.Links.TheVariants.{Kept}
use Rattle.dcm_names.specs.Names.{NAME_LIMIT}
use Rattle.dcm_walk.specs.declared.folder.Walk.{Walk}
use Rattle.dcm_walk.specs.declared.folder.FolderNumber.{FolderNumber}
use Rattle.dcm_walk.specs.declared.visitor.Stopped.{Stopped}
use Rattle.dcm_walk.specs.declared.visitor.What.{What}
use Rattle.dcm_walk.specs.declared.visitor.What.TheVariants as whats
use Rattle.dcm_walk.specs.Names.{PATH_LIMIT, below, leads_below, is_part_file}
use Rattle.dcm_walk.specs.Visits.{Named, Step, Visits}

-- ---- a name, before it is looked at

-- the name at a path, which begins after the path of the first folder, or its first bytes
abbrev pub named_at : (base : ℕ) → (path : List ℕ) → Named
named_at base path = record {
  name = take NAME_LIMIT (drop base path);
  relative = take NAME_LIMIT (drop base path);
  path = path;
}

abbrev pub is_unfit : Named → Bool
is_unfit n = nat_lt PATH_LIMIT (length n.path) || not (leads_below n.relative)

-- it can be looked at
pub record IsFit (n : Named) : Type 0 where
  pub fits : is_unfit n ≡ false
  pub text : IsUtf8 n.path
  pub of_no_run : is_part_file n.relative ≡ false

-- it cannot, for this reason
pub data IsJudged (n : Named) (what : What) : Type 0 where
  unfit : is_unfit n ≡ true → what ≡ whats.Unfit → IsJudged n what
  no_text : is_unfit n ≡ false → ¬ (IsUtf8 n.path) → what ≡ whats.NoText → IsJudged n what
  of_run : is_unfit n ≡ false → IsUtf8 n.path → is_part_file n.relative ≡ true → what ≡ whats.PartFile
      → IsJudged n what

-- why it cannot be looked at, or none where it can
abbrev pub Judges : Named → Option What → Type 0
Judges n None = IsFit n
Judges n (Some what) = IsJudged n what

-- ---- what is there

-- nothing is at a path, or it cannot be looked at
pub data SeesNothing {S O F : Type 0} (d : FoldersDo S O F) (path : List ℕ) (before after : S) : Type 0 where
  nothing : d.finds before path Kept (Ok None) after → SeesNothing d path before after
  not_looked : (e : Error) → d.finds before path Kept (Err e) after → SeesNothing d path before after

abbrev pub Sees : {S O F : Type 0} → FoldersDo S O F → (path : List ℕ) → (before : S) → Option Found → (after : S)
    → Type 0
Sees d path before None after = SeesNothing d path before after
Sees d path before (Some found) after = d.finds before path Kept (Ok (Some found)) after

-- the folder at a path was opened, or could not be
pub data NotOpened {S O F : Type 0} (d : FoldersDo S O F) (path : List ℕ) (before after : S) : Type 0 where
  not_there : (e : Error) → d.opens_folder before path (Err e) after → NotOpened d path before after

abbrev pub Opens : {S O F : Type 0} → FoldersDo S O F → (path : List ℕ) → (before : S) → Option F → (after : S) → Type 0
Opens d path before None after = NotOpened d path before after
Opens d path before (Some folder) after = d.opens_folder before path (Ok folder) after

-- the folder of the output
abbrev pub is_output : FolderNumber → Found → Bool
is_output output found = found.device == output.device && found.number == output.number

-- what is done with a name: it is visited, or entered where it is a folder
pub data DoesNamed {V S O F : Type 0} (d : FoldersDo S O F) (visits : Visits V S) (Enter : Found → Named → Step V S)
    (n : Named) (from : V) (before : S) (r : Result (Unit {0}) Stopped) (to : V) (after : S) : Type 0 where
  not_fit : (what : What) → IsJudged n what → visits from before n what r to after
      → DoesNamed d visits Enter n from before r to after
  not_seen : (looked : S) → IsFit n → Sees d n.path before None looked → visits from looked n whats.Unseen r to after
      → DoesNamed d visits Enter n from before r to after
  a_file : (found : Found) (looked : S) → IsFit n → Sees d n.path before (Some found) looked
      → found.kind ≡ kinds.File → visits from looked n (whats.File found.mode) r to after
      → DoesNamed d visits Enter n from before r to after
  no_file : (found : Found) (looked : S) → IsFit n → Sees d n.path before (Some found) looked
      → found.kind ≡ kinds.Other → visits from looked n whats.NoFile r to after
      → DoesNamed d visits Enter n from before r to after
  a_folder : (found : Found) (looked : S) → IsFit n → Sees d n.path before (Some found) looked
      → found.kind ≡ kinds.Folder → Enter found n from looked r to after
      → DoesNamed d visits Enter n from before r to after

-- ---- the names in a folder

-- the most names of a folder that are listed
abbrev pub NAMES_LIMIT : ℕ
NAMES_LIMIT = 2 ^ 64 - 1

-- names of an open folder were done so far, one after another: so many
pub data Listed {V S O F : Type 0} (d : FoldersDo S O F) (Entry : List ℕ → Step V S) (from : V) (before : S)
    (folder : F) : (count : ℕ) → (to : V) → (after : S) → (left : F) → Type 0 where
  none_listed : {count : ℕ} {to : V} {after : S} {left : F} → count ≡ 0 → to ≡ from → after ≡ before → left ≡ folder
      → Listed d Entry from before folder count to after left
  and_entry : {count : ℕ} {to : V} {after : S} {left : F} (others : ℕ) (name : List ℕ) (mid : V) (between given : S)
      (at : F) → Listed d Entry from before folder others mid between at
      → d.names between at (Ok (Some name)) left given → Entry name mid given (Ok _) to after
      → count ≡ others + 1 → Listed d Entry from before folder count to after left

-- all of them were done; or they could not be listed to the end; or one of them stopped the walk
pub data DoesNames {V S O F : Type 0} (d : FoldersDo S O F) (Entry : List ℕ → Step V S) (folder left : F) (from : V)
    (before : S) (r : Result Bool Stopped) (to : V) (after : S) : Type 0 where
  all_listed : (count : ℕ) (at : F) (listed : S) → Listed d Entry from before folder count to listed at
      → d.names listed at (Ok None) left after → r ≡ Ok true → DoesNames d Entry folder left from before r to after
  not_listed : (count : ℕ) (e : Error) (at : F) (listed : S) → Listed d Entry from before folder count to listed at
      → d.names listed at (Err e) left after → r ≡ Ok false → DoesNames d Entry folder left from before r to after
  too_many : Listed d Entry from before folder NAMES_LIMIT to after left → r ≡ Ok false
      → DoesNames d Entry folder left from before r to after
  was_stopped : (count : ℕ) (name : List ℕ) (e : Stopped) (at : F) (mid : V) (listed given : S)
      → Listed d Entry from before folder count mid listed at → d.names listed at (Ok (Some name)) left given
      → Entry name mid given (Err e) to after → r ≡ Err e → DoesNames d Entry folder left from before r to after

-- a folder is given back, where one is open
abbrev pub Closes : {S O F : Type 0} → FoldersDo S O F → Option F → (before after : S) → Type 0
Closes d None before after = after ≡ before
Closes d (Some folder) before after = d.closes_folder before folder after

-- an open folder is listed, and given back
pub record Lists {V S O F : Type 0} (d : FoldersDo S O F) (Entry : List ℕ → Step V S) (folder : F) (from : V)
    (before : S) (r : Result Bool Stopped) (to : V) (after : S) : Type 0 where
  pub left : F
  pub listed : S
  pub names : DoesNames d Entry folder left from before r to listed
  pub closes : d.closes_folder listed left after

-- a folder that could not be opened
pub record IsUnlisted {V S : Type 0} (from : V) (before : S) (r : Result Bool Stopped) (to : V) (after : S)
    : Type 0 where
  pub answers : r ≡ Ok false
  pub visits_none : to ≡ from
  pub stays : after ≡ before

-- the names of a folder that was opened, or could not be
abbrev pub DoesOpened : {V S O F : Type 0} → FoldersDo S O F → (Entry : List ℕ → Step V S) → Option F → (from : V)
    → (before : S) → Result Bool Stopped → (to : V) → (after : S) → Type 0
DoesOpened d Entry None from before r to after = IsUnlisted from before r to after
DoesOpened d Entry (Some folder) from before r to after = Lists d Entry folder from before r to after

-- an open folder is listed, and given back; where that failed, it is visited itself
pub data DoesFolder {V S O F : Type 0} (d : FoldersDo S O F) (visits : Visits V S) (Entry : List ℕ → Step V S)
    (n : Named) (folder : F) (from : V) (before : S) (r : Result (Unit {0}) Stopped) (to : V) (after : S)
    : Type 0 where
  whole : (left : F) (listed : S) → DoesNames d Entry folder left from before (Ok true) to listed
      → d.closes_folder listed left after → r ≡ Ok _ → DoesFolder d visits Entry n folder from before r to after
  not_whole : (left : F) (mid : V) (listed closed : S) → DoesNames d Entry folder left from before (Ok false) mid listed
      → d.closes_folder listed left closed → visits mid closed n whats.Unlisted r to after
      → DoesFolder d visits Entry n folder from before r to after
  stopped : (e : Stopped) (left : F) (listed : S) → DoesNames d Entry folder left from before (Err e) to listed
      → d.closes_folder listed left after → r ≡ Err e → DoesFolder d visits Entry n folder from before r to after

-- ---- folders in it

-- a folder is entered, but for that of the output, and one that cannot be opened
pub data Enters {V S O F : Type 0} (d : FoldersDo S O F) (visits : Visits V S) (w : Walk)
    (Entry : (folder entry : List ℕ) → Step V S) (found : Found) (n : Named) (from : V) (before : S)
    (r : Result (Unit {0}) Stopped) (to : V) (after : S) : Type 0 where
  of_output : is_output w.output found ≡ true → visits from before n whats.OfOutput r to after
      → Enters d visits w Entry found n from before r to after
  not_opened : (tried : S) → is_output w.output found ≡ false → Opens d n.path before None tried
      → visits from tried n whats.Unlisted r to after → Enters d visits w Entry found n from before r to after
  entered : (folder : F) (opened : S) → is_output w.output found ≡ false → Opens d n.path before (Some folder) opened
      → DoesFolder d visits (Entry n.path) n folder from opened r to after
      → Enters d visits w Entry found n from before r to after

-- how a folder is entered within which so many may be open
unfoldable pub EntersAt : {V S O F : Type 0} → FoldersDo S O F → Visits V S → Walk → (levels : ℕ) → Found → Named → Step V S
EntersAt d visits w zero found n from before r to after = visits from before n whats.TooDeep r to after
EntersAt d visits w (suc levels) found n from before r to after =
    Enters d visits w (λ folder entry. DoesNamed d visits (EntersAt d visits w levels)
    (named_at w.base (below folder entry))) found n from before r to after

-- what is done with a name in a folder within which so many may be open
abbrev pub EntryAt : {V S O F : Type 0} → FoldersDo S O F → Visits V S → Walk → (levels : ℕ)
    → (folder entry : List ℕ) → Step V S
EntryAt d visits w levels folder entry =
    DoesNamed d visits (EntersAt d visits w levels) (named_at w.base (below folder entry))

-- the most folders that are open within the first
abbrev pub LEVELS : ℕ
LEVELS = 63

-- the walk of a folder that was opened at a path. It is called `.` where it is visited itself
abbrev pub WalksFolder : {V S O F : Type 0} → FoldersDo S O F → Visits V S → (path : List ℕ) → FolderNumber
    → (folder : F) → Step V S
WalksFolder d visits path output folder =
    DoesFolder d visits (EntryAt d visits (record { base = length path + 1; output = output }) LEVELS path)
    (record { name = codes "."; relative = codes "."; path = path }) folder
