-- What only looks leaves a file system as it was.
use Rattle.std.proofs.Common.{◌≡◌, ◌∙◌, refl, sym, ap, subst, ℕ, ◌+◌, ◌≤◌, ◌<◌, List, take, drop, Bool, true, false, Option, Some, None, Result, Ok, Err, arith}
use Rattle.std.specs.declared.io.Error.{Error}
use Rattle.dcm_files.specs.Folders.{FoldersDo}
use Rattle.dcm_files.specs.declared.folders.Found.{Found}
use Rattle.dcm_files.specs.declared.folders.FoundKind.{FoundKind}
use Rattle.dcm_files.specs.declared.folders.FoundKind.TheVariants as kinds
use Rattle.dcm_files.specs.declared.folders.Links.TheVariants.{Kept}
use Rattle.dcm_trees.specs.declared.modes.NoMode.{NoMode}
use Rattle.dcm_trees.specs.declared.place.Place.{Place}
use Rattle.dcm_trees.specs.declared.place.Place.TheVariants as places
use Rattle.dcm_trees.specs.Modes.{Modes, FindsMode, usual, like, not_seen}
use Rattle.dcm_trees.specs.Place.{Looks, no_text, looked, not_looked, AreFolders, none_yet, and_folder, LooksAlong, to_its_end, ended, Finds, missing, blocked, at_its_end, FindsFolder, by_looking}
use Rattle.dcm_trees.specs.Place.{end_of_way, end_of_found, end_at, place_of, place_at, is_free}
use Rattle.dcm_tree_laws.specs.FileSystem.{FileSystem, Host, folders_do, HasWay, at_path}
use Rattle.dcm_tree_laws.proofs.Quiet.{Quiet, are_quiet}
use Rattle.dcm_tree_laws.proofs.Ways.{on_its_way, not_empty}

pub looks : {S O F : Type 0} (d : FoldersDo S O F) → Quiet d → (path : List ℕ) (before : S) (seen : Result (Option Found) _) (after : S) → Looks d path before seen after → after ≡ before
looks d quiet path before seen after (no_text u t is same) = same
looks d quiet path before seen after (looked found t call is) = quiet.finds before path Kept (Ok found) after call
looks d quiet path before seen after (not_looked e u t call is) = quiet.finds before path Kept (Err e) after call

pub folders : {S O F : Type 0} (d : FoldersDo S O F) → Quiet d → (path : List ℕ) (base : ℕ) (before : S) (at : ℕ) (after : S) → AreFolders d path base before at after → after ≡ before
folders d quiet path base before at after (none_yet a s) = s
folders d quiet path base before at after (and_folder from size seen mid more slash l e a) = looks d quiet (take (from + size) path) mid seen after l ∙ folders d quiet path base before from mid more

pub along : {S O F : Type 0} (d : FoldersDo S O F) → Quiet d → (path : List ℕ) (base : ℕ) (before : S) (way : _) (after : S) → LooksAlong d path base before way after → after ≡ before
along d quiet path base before way after (to_its_end at f slash is) = folders d quiet path base before at after f
along d quiet path base before way after (ended at size seen end mid f slash l e is) = looks d quiet (take (at + size) path) mid seen after l ∙ folders d quiet path base before at mid f

pub finds : {S O F : Type 0} (d : FoldersDo S O F) → Quiet d → (path : List ℕ) (base : ℕ) (before : S) (place : Place) (after : S) → Finds d path base before place after → after ≡ before
finds d quiet path base before place after (missing l is) = along d quiet path base before _ after l
finds d quiet path base before place after (blocked l is) = along d quiet path base before _ after l
finds d quiet path base before place after (at_its_end seen mid l looked_at is) = looks d quiet path mid seen after looked_at ∙ along d quiet path base before _ mid l

pub finds_folder : {S O F : Type 0} (d : FoldersDo S O F) → Quiet d → (path : List ℕ) (before : S) (is_there : Bool) (after : S) → FindsFolder d path before is_there after → after ≡ before
finds_folder d quiet path before is_there after (by_looking seen l is) = looks d quiet path before seen after l

-- the mode of a new folder is looked for
pub finds_mode : {S O F : Type 0} (d : FoldersDo S O F) → Quiet d → {modes : Modes} {name : List ℕ} (before : S) (r : Result ℕ NoMode) (after : S) → FindsMode d modes name before r after → after ≡ before
finds_mode d quiet before r after (usual none is same) = same
finds_mode d quiet before r after (like folder mode some call is) = quiet.modes before folder _ (Ok mode) after call
finds_mode d quiet before r after (not_seen folder e n some call is) = quiet.modes before folder _ (Err e) after call

-- behind a look at that folder
pub seeks_mode : {S O F : Type 0} (d : FoldersDo S O F) → Quiet d → {modes : Modes} {name : List ℕ} (path : List ℕ) (before mid : S) (r : Result ℕ NoMode) (after : S) → FindsFolder d path before false mid → FindsMode d modes name mid r after → after ≡ before
seeks_mode d quiet path before mid r after f m = finds_mode d quiet mid r after m ∙ finds_folder d quiet path before false mid f

-- it is found where the system always tells it
pub always_mode : {S O F : Type 0} (d : FoldersDo S O F) → ((before : S) (folder name : List ℕ) (e : Error) (after : S) → d.modes before folder name (Err e) after → ⊥) → {modes : Modes} {name : List ℕ} (before : S) (n : NoMode) (after : S) → FindsMode d modes name before (Err n) after → ⊥
always_mode d never before n after (usual none is same) = absurd (cc)
always_mode d never before n after (like folder mode some call is) = absurd (cc)
always_mode d never before n after (not_seen folder e other some call is) = never before folder _ e after call

-- ---- what is seen

pub same_ok : {A E : Type 0} (r : Result A E) (a b : A) → r ≡ Ok a → r ≡ Ok b → b ≡ a
same_ok r a b e f = cc

pub seen_is : {I O F : Type 0} (h : Host I O) (path : List ℕ) (before : FileSystem) (found : Option Found) (after : FileSystem) → Looks (folders_do {F = F} h) path before (Ok found) after → at_path h before.now path ≡ found
seen_is h path before found after (no_text u t is same) = absurd (cc)
seen_is h path before found after (looked f t call is) = sym call.0 ∙ same_ok (Ok found) found f refl is
seen_is h path before found after (not_looked e u t call is) = absurd (cc)

kind_ends : (kind : FoundKind) → end_at kind ≡ end_of_found None → ⊥
kind_ends kinds.Folder e = absurd (cc)
kind_ends kinds.File e = absurd (cc)
kind_ends kinds.Other e = absurd (cc)

is_missing : (seen : Result (Option Found) _) → end_of_way seen ≡ end_of_found None → seen ≡ Ok None
is_missing (Ok None) e = refl
is_missing (Ok (Some f)) e = absurd (kind_ends f.kind e)
is_missing (Err u) e = absurd (cc)

pub kind_taken : (kind : FoundKind) → is_free (place_at kind) ≡ true → ⊥
kind_taken kinds.Folder e = absurd (cc)
kind_taken kinds.File e = absurd (cc)
kind_taken kinds.Other e = absurd (cc)

is_nothing : (seen : Result (Option Found) _) → is_free (place_of seen) ≡ true → seen ≡ Ok None
is_nothing (Ok None) e = refl
is_nothing (Ok (Some f)) e = absurd (kind_taken f.kind e)
is_nothing (Err u) e = absurd (cc)

-- ---- a name that is free

pub beyond : {S O F : Type 0} (d : FoldersDo S O F) (path : List ℕ) (base : ℕ) (before : S) (at : ℕ) (after : S) → AreFolders d path base before at after → base ≤ at
beyond d path base before at after (none_yet a s) = omega (arith, a)
beyond d path base before at after (and_folder from size seen mid more slash l e a) = let least : base ≤ from = beyond d path base before from mid more in omega (arith, a, least)

nothing_there : {I O F : Type 0} (h : Host I O) (path : List ℕ) (before mid : FileSystem) (seen : Result (Option Found) _) (after : FileSystem) → seen ≡ Ok None → mid ≡ before → Looks (folders_do {F = F} h) path mid seen after
    → at_path h before.now path ≡ None
nothing_there {I} {O} {F} h path before mid seen after is same l =
    subst (λ (s : FileSystem). at_path h s.now path ≡ None) same (seen_is {F = F} h path mid None after (subst (λ x. Looks (folders_do {F = F} h) path mid x after) is l))

no_gap : {I O F : Type 0} (h : Host I O) (path : List ℕ) (base : ℕ) (before : FileSystem) (way : _) (after : FileSystem) → 0 < base → LooksAlong (folders_do {F = F} h) path base before way after → end_of_found None ≡ Some way → HasWay h before.now path → ⊥
no_gap h path base before end_is after some (to_its_end at f slash is) gap way = absurd (cc)
no_gap {I} {O} {F} h path base before end_is after some (ended at size seen end mid f slash l e is) gap way =
    let least : base ≤ at = beyond (folders_do {F = F} h) path base before at mid f in
    way (take (at + size) path) (drop (at + size + 1) path) (on_its_way path at size slash) (not_empty path at size (omega (arith, some, least)) slash)
    (nothing_there {F = F} h (take (at + size) path) before mid seen after (is_missing seen (e ∙ ap Some (sym is) ∙ sym gap)) (folders (folders_do {F = F} h) (are_quiet h) path base before at mid f) l)

not_barred : (place other : Place) → is_free place ≡ true → place ≡ other → is_free other ≡ true
not_barred place other free is = subst (λ (p : Place). is_free p ≡ true) is free

pub free_nothing : {I O F : Type 0} (h : Host I O) (path : List ℕ) (base : ℕ) (before : FileSystem) (place : Place) (after : FileSystem) → 0 < base → Finds (folders_do {F = F} h) path base before place after → is_free place ≡ true
    → HasWay h before.now path → at_path h before.now path ≡ None
free_nothing {I} {O} {F} h path base before place after some (missing l is) free way = absurd (no_gap {F = F} h path base before _ after some l refl way)
free_nothing h path base before place after some (blocked l is) free way = let other : is_free places.Barred ≡ true = not_barred place places.Barred free is in absurd (cc)
free_nothing {I} {O} {F} h path base before place after some (at_its_end seen mid l looked_at is) free way =
    nothing_there {F = F} h path before mid seen after (is_nothing seen (not_barred place (place_of seen) free is)) (along (folders_do {F = F} h) (are_quiet h) path base before _ mid l) looked_at
