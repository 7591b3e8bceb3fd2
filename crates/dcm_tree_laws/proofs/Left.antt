-- A name whose output is there is left as it is.
use Rattle.std.proofs.Common.{◌≡◌, ◌∙◌, refl, sym, ap, subst, ℕ, ◌+◌, ◌-◌, ◌≤◌, List, [], length, take, drop, Bool, true, false, Option, Some, None, Result, Ok, arith, length-append}
use Rattle.std.specs.Prelude.{nat_le, codes, if◌then◌else◌}
use Rattle.dcm_lemmas.proofs.Truth.{true_false}
use Rattle.dcm_devices.specs.Writing.{Writer}
use Rattle.dcm_files.specs.declared.folders.Found.{Found}
use Rattle.dcm_files.specs.declared.folders.FoundKind.{FoundKind}
use Rattle.dcm_files.specs.declared.folders.FoundKind.TheVariants as kinds
use Rattle.dcm_walk.specs.List.{IsSlash}
use Rattle.dcm_walk.specs.Names.{below, PATH_LIMIT}
use Rattle.dcm_walk.specs.Visits.{Named}
use Rattle.dcm_walk.specs.declared.visitor.What.TheVariants.{File}
use Rattle.dcm_cli.specs.Calls.{Reader, Reports}
use Rattle.dcm_trees.specs.declared.fate.Fate.{Fate}
use Rattle.dcm_trees.specs.declared.fate.Fate.TheVariants.{There}
use Rattle.dcm_trees.specs.declared.file.Done.{Done}
use Rattle.dcm_trees.specs.declared.progress.Stop.{Stop as RunStop}
use Rattle.dcm_trees.specs.declared.place.Place.{Place}
use Rattle.dcm_trees.specs.declared.place.Place.TheVariants as place
use Rattle.dcm_trees.specs.File as files
use Rattle.dcm_trees.specs.File.{DoesPlaced, DoesNamed, DoesFile, DoesName, is_media_index, under_its_name}
use Rattle.dcm_trees.specs.Lines.{place_lines, place_fate}
use Rattle.dcm_trees.specs.Manner.{Manner}
use Rattle.dcm_trees.specs.Place as places
use Rattle.dcm_trees.specs.Place.{Looks, AreFolders, LooksAlong, Finds, end_of_way, end_of_found, end_at, place_of, place_at, is_free, path_in}
use Rattle.dcm_tree_laws.specs.Again.{IsAt, IsThere, sure, no_making, over_sure, only_looks, IsLeft, ThereIsLeft}
use Rattle.dcm_tree_laws.specs.FileSystem.{FileSystem, Tree, Host, folders_do}
use Rattle.dcm_tree_laws.proofs.Files.{path_is}
use Rattle.dcm_tree_laws.proofs.Looking.{folders, along, beyond, finds}
use Rattle.dcm_tree_laws.proofs.Quiet.{Quiet, are_quiet}
use Rattle.dcm_tree_laws.proofs.Sure as sures
use Rattle.dcm_tree_laws.proofs.Ways.{on_its_way, within_output, way_cut}

-- ---- what is seen

pub sure_quiet : {I O F : Type 0} (h : Host I O) → Quiet (sure (folders_do {F = F} h))
sure_quiet {I} {O} {F} h = record {
  finds = λ before path links r after call. (are_quiet {F = F} h).finds before path links r after call.0;
  modes = λ before folder name r after call. (are_quiet {F = F} h).modes before folder name r after call.0;
  opens = λ before path r after call. (are_quiet {F = F} h).opens before path r after call;
  names = λ before folder r left after call. (are_quiet {F = F} h).names before folder r left after call;
  closes = λ before folder after call. (are_quiet {F = F} h).closes before folder after call;
}

-- a thing of this kind
record SeesKind {U : Type 0} (kind : FoundKind) (seen : Result (Option Found) U) : Type 0 where
  found : Found
  is : seen ≡ Ok (Some found)
  kind_is : found.kind ≡ kind

sees : {I O F : Type 0} (h : Host I O) (kind : FoundKind) (path : List ℕ) (before : FileSystem) (seen : Result (Option Found) _) (after : FileSystem) → IsAt h kind before.now path → Looks (sure (folders_do {F = F} h)) path before seen after → SeesKind kind seen
sees h kind path before seen after at (places.no_text u t is same) = absurd (t at.text)
sees h kind path before seen after at (places.looked found t call is) = record { found = at.found; is = is ∙ ap Ok (call.0.0 ∙ at.is); kind_is = at.kind_is }
sees h kind path before seen after at (places.not_looked e u t call is) = absurd (call.1 e refl)

no_end : (seen : Result (Option Found) _) (end : _) → SeesKind kinds.Folder seen → end_of_way seen ≡ Some end → ⊥
no_end seen end s ends = let none : end_of_way seen ≡ None = ap end_of_way s.is ∙ ap end_at s.kind_is in absurd (cc)

is_place : (seen : Result (Option Found) _) → SeesKind kinds.File seen → place_of seen ≡ place.There
is_place seen s = ap place_of s.is ∙ ap place_at s.kind_is

no_path : (fits : Bool) (path : List ℕ) → fits ≡ true → (if fits then Some path else None) ≡ None → ⊥
no_path true path is none = absurd (cc)
no_path false path is none = absurd (cc)

pub same_mode : (a b : ℕ) → File a ≡ File b → a ≡ b
same_mode a b e = cc

-- ---- the folders on the way

is_folder : {I O : Type 0} (h : Host I O) (output relative path : List ℕ) (t : Tree) → path ≡ below output relative → IsThere h output relative t → (at size : ℕ) → length output + 1 ≤ at → IsSlash (drop at path) (Some size)
    → IsAt h kinds.Folder t (take (at + size) path)
is_folder h output relative path t is there at size least slash =
    let rest : List ℕ = drop (at + size + 1) path in
    let taken : take (at + size) path ≡ below output (take (at + size - (length output + 1)) relative) =
    ap (take (at + size)) is ∙ within_output output relative (at + size) (at + size - (length output + 1)) (omega (arith, least, length-append output (codes "/"))) in
    let cut : relative ≡ below (take (at + size - (length output + 1)) relative) rest = way_cut output relative (take (at + size - (length output + 1)) relative) rest (sym is ∙ on_its_way path at size slash ∙ ap (λ (p : List ℕ). below p rest) taken) in
    subst (IsAt h kinds.Folder t) (sym taken) (there.way (take (at + size - (length output + 1)) relative) rest cut)

-- none of them ends it
module _ {I O F : Type 0} (h : Host I O) (output relative path : List ℕ) (before : FileSystem) (is : path ≡ below output relative) (there : IsThere h output relative before.now) where
  goes_along : (at size : ℕ) (seen : Result (Option Found) _) (end : _) (mid after : FileSystem) → AreFolders (sure (folders_do {F = F} h)) path (length output + 1) before at mid → IsSlash (drop at path) (Some size)
      → Looks (sure (folders_do {F = F} h)) (take (at + size) path) mid seen after → end_of_way seen ≡ Some end → ⊥
  goes_along at size seen end mid after f slash l ends =
      let same : mid ≡ before = folders (sure (folders_do {F = F} h)) (sure_quiet h) path (length output + 1) before at mid f in
      let least : length output + 1 ≤ at = beyond (sure (folders_do {F = F} h)) path (length output + 1) before at mid f in
      let folder : IsAt h kinds.Folder mid.now (take (at + size) path) =
      subst (λ (s : FileSystem). IsAt h kinds.Folder s.now (take (at + size) path)) (sym same) (is_folder h output relative path before.now is there at size least slash) in
      no_end seen end (sees {F = F} h kinds.Folder (take (at + size) path) mid seen after folder l) ends

  no_gap : (way : _) (after : FileSystem) → LooksAlong (sure (folders_do {F = F} h)) path (length output + 1) before way after → end_of_found None ≡ Some way → ⊥
  no_gap way after (places.to_its_end at f slash w) gap = absurd (cc)
  no_gap way after (places.ended at size seen end mid f slash l ends w) gap = goes_along at size seen end mid after f slash l ends

  no_block : (way : _) (after : FileSystem) → LooksAlong (sure (folders_do {F = F} h)) path (length output + 1) before way after → end_at kinds.File ≡ Some way → ⊥
  no_block way after (places.to_its_end at f slash w) block = absurd (cc)
  no_block way after (places.ended at size seen end mid f slash l ends w) block = goes_along at size seen end mid after f slash l ends

pub finds_there : {I O F : Type 0} (h : Host I O) (output relative path : List ℕ) (before : FileSystem) (p : Place) (after : FileSystem) → path ≡ below output relative → IsThere h output relative before.now
    → Finds (sure (folders_do {F = F} h)) path (length output + 1) before p after → p ≡ place.There
finds_there {I} {O} {F} h output relative path before p after is there (places.missing l at) = absurd (no_gap {F = F} h output relative path before is there _ after l refl)
finds_there {I} {O} {F} h output relative path before p after is there (places.blocked l at) = absurd (no_block {F = F} h output relative path before is there _ after l refl)
finds_there {I} {O} {F} h output relative path before p after is there (places.at_its_end seen mid l looked_at at) =
    let same : mid ≡ before = along (sure (folders_do {F = F} h)) (sure_quiet h) path (length output + 1) before _ mid l in
    let file : IsAt h kinds.File mid.now path = subst (λ (s : FileSystem). IsAt h kinds.File s.now path) (sym same) (subst (IsAt h kinds.File before.now) (sym is) there.file) in
    at ∙ is_place seen (sees {F = F} h kinds.File path mid seen after file looked_at)

-- ---- it is left

pub no_free : {A : Type 0} (p : Place) → p ≡ place.There → is_free p ≡ true → A
no_free p is free = let no : is_free place.There ≡ true = ap is_free (sym is) ∙ free in absurd (cc)

no_lines : (name : List ℕ) (p : Place) (continues : Bool) → p ≡ place.There → continues ≡ true → place_lines name p continues ≡ []
no_lines name p continues is goes = ap (λ (x : Place). place_lines name x continues) is ∙ ap (λ (b : Bool). place_lines name place.There b) goes

is_there : (p : Place) (continues : Bool) → p ≡ place.There → continues ≡ true → place_fate p continues ≡ There
is_there p continues is goes = ap (λ (x : Place). place_fate x continues) is ∙ ap (λ (b : Bool). place_fate place.There b) goes

pub too_long : (output relative : List ℕ) → nat_le (length (below output relative)) PATH_LIMIT ≡ true → path_in output relative ≡ None → ⊥
too_long output relative fits none = no_path (nat_le (length (below output relative)) PATH_LIMIT) (below output relative) fits none

-- how it is done where its path is short enough
record Placed {I O E : Type 0} (F : Type 0) (h : Host I O) (r : Reader I) (w : Writer O) (e : Writer E) (m : Manner) (n : Named) (mode : ℕ) (path : List ℕ) (from : E) (before : FileSystem) (result : Result Fate RunStop) (to : E) (after : FileSystem) : Type 0 where
  row : result ≡ Ok There
  told : Reports e from to []
  same : after ≡ before
  looked : DoesPlaced (only_looks {F = F} h r w e) m n mode path from before result to after

placed_left : {I O F E : Type 0} (h : Host I O) (r : Reader I) (w : Writer O) (e : Writer E) (m : Manner) (n : Named) (mode : ℕ) (path : List ℕ) (from : E) (before : FileSystem) (result : Result Fate RunStop) (to : E) (after : FileSystem) → m.continues ≡ true
    → path ≡ below m.output n.relative → IsThere h m.output n.relative before.now → DoesPlaced (over_sure {F = F} h r w e) m n mode path from before result to after → Placed F h r w e m n mode path from before result to after
placed_left {I} {O} {F} h r w e m n mode path from before result to after goes is there (files.not_free p f nf told ok) =
    let at : p ≡ place.There = finds_there {F = F} h m.output n.relative path before p after is there f in
    record {
      row = ok ∙ ap Ok (is_there p m.continues at goes);
      told = subst (Reports e from to) (no_lines n.name p m.continues at goes) told;
      same = finds (sure (folders_do {F = F} h)) (sure_quiet h) path (length m.output + 1) before p after f;
      looked = files.not_free p (sures.finds (sure (folders_do {F = F} h)) (no_making (sure (folders_do {F = F} h))) (λ s q links x t call. call) path (length m.output + 1) before p after f) nf told ok;
    }
placed_left {I} {O} {F} h r w e m n mode path from before result to after goes is there (files.free p looked f nf does) =
    no_free p (finds_there {F = F} h m.output n.relative path before p looked is there f) nf

file_left : {I O F E : Type 0} (h : Host I O) (r : Reader I) (w : Writer O) (e : Writer E) (m : Manner) (n : Named) (mode : ℕ) (from : E) (before : FileSystem) (result : Result Done RunStop) (to : E) (after : FileSystem) → m.continues ≡ true → m.keeps_names ≡ true
    → is_media_index n.relative ≡ false → IsThere h m.output n.relative before.now → DoesFile (over_sure {F = F} h r w e) m n mode from before result to after → IsLeft F h r w e m n mode from before result to after
file_left h r w e m n mode from before result to after goes keeps no_index there (files.an_index index told ok same) = true_false (is_media_index n.relative) index no_index
file_left h r w e m n mode from before result to after goes keeps no_index there (files.by_instance index not does) = true_false m.keeps_names keeps not
file_left h r w e m n mode from before result to after goes keeps no_index there (files.keeps_name became index kept (files.too_long none told ok same) is) = absurd (too_long m.output n.relative there.fits none)
file_left {I} {O} {F} h r w e m n mode from before result to after goes keeps no_index there (files.keeps_name became index kept (files.placed path at does) is) =
    let x : Placed F h r w e m n mode path from before became to after = placed_left {F = F} h r w e m n mode path from before became to after goes (path_is m.output n.relative path at) there does in
    record {
      row = is ∙ ap under_its_name x.row;
      told = x.told;
      same = x.same;
      looked = files.a_file mode refl (files.keeps_name became index kept (files.placed path at x.looked) is);
    }

pub there_is_left : {I O F E : Type 0} (r : Reader I) (w : Writer O) (e : Writer E) → ThereIsLeft F r w e
there_is_left {I} {O} {F} r w e h m n mode from before result to after goes keeps no_index there (files.a_file other is does) =
    file_left {F = F} h r w e m n mode from before result to after goes keeps no_index there
    (subst (λ (k : ℕ). DoesFile (over_sure {F = F} h r w e) m n k from before result to after) (sym (same_mode mode other is)) does)
there_is_left r w e h m n mode from before result to after goes keeps no_index there (files.no_file other told ok same) = absurd (other mode refl)
