-- What edits that do not overlap ask of items.
use Rattle.dcm_lemmas.proofs.Choice.{chosen_false}
use Rattle.dcm_lemmas.proofs.Truth.{and_first_false, or_first_false, or_neither, or_true}
pub use Rattle.dcm_edits.specs.Bounds.{steps, depth, AreWithin}
use Rattle.std.proofs.Common.{◌≡◌, ℕ, pred, ◌≤◌, List, [], ◌∷◌, Bool, true, false, ◌&&◌, refl, sym, ◌∙◌, ap, arith}
use Rattle.std.specs.Prelude.{if◌then◌else◌}
use Rattle.dcm_base.specs.declared.tag.Tag.{Tag}
use Rattle.dcm_base.specs.Tables.Tag.{same_tag, is_private}
use Rattle.dcm_edits.specs.Edit.{Index, selects, PathEdit, step, insert, modify, erase, erase_item, Edit, on_path, modify_all, erase_all, erase_private, elsewhere, within, Fate, stays, becomes, goes, fate, erases}
use Rattle.dcm_edits.specs.Together.{first_fate, any_erases, all_within}
use Rattle.dcm_edits.specs.Overlap.{at_index, path, same_index, clash, meets, is_on, overlaps, ApartFrom, AreApart, ArePublic}
use Rattle.dcm_edits.proofs.Overlapping.Places.{same_tag_false, or_else_quiet, within_public, all_within_apart}

-- the lists of what edits ask of items
pub all_within_all_apart : (es : List Edit) (v : Tag) (n : ℕ) → AreApart es → AreApart (all_within es v n)
all_within_all_apart [] v n o = tt
all_within_all_apart (e ∷ es) v n o = (all_within_apart e es v n o.0, all_within_all_apart es v n o.1)

pub all_within_public : (es : List Edit) (v : Tag) (n : ℕ) → ArePublic es → ArePublic (all_within es v n)
all_within_public [] v n p = tt
all_within_public (e ∷ es) v n p = (within_public e v n p.0, all_within_public es v n p.1)

-- an edit whose path goes on from the tag t leaves it to no other
pub fate_unless : (c : Bool) (f : Fate) → c ≡ false → (if c then f else stays) ≡ stays
fate_unless c f p = ap (λ (b : Bool). if b then f else stays) p

pub step_other : (t : Tag) (i : Index) (x : PathEdit) (u : Tag) → (if same_tag t u then true else false) ≡ false → same_tag u t ≡ false
step_other t i x u p = same_tag_false t u (chosen_false _ p)

pub quiet_step : (t : Tag) (i : Index) (x : PathEdit) (b : Edit) → overlaps (on_path (step t i x)) b ≡ false → is_private t ≡ false → fate b t ≡ stays
quiet_step t i x (on_path (step u j y)) o n = refl
quiet_step t i x (on_path (insert u vr value)) o n = fate_unless _ _ (step_other t i x u o)
quiet_step t i x (on_path (modify u vr value)) o n = fate_unless _ _ (step_other t i x u o)
quiet_step t i x (on_path (erase u)) o n = fate_unless _ _ (step_other t i x u o)
quiet_step t i x (on_path (erase_item u j)) o n = refl
quiet_step t i x (modify_all u vr value) o n = fate_unless (same_tag u t) (becomes vr value) (or_first_false (same_tag u t) (is_on u (path x)) o)
quiet_step t i x (erase_all u) o n = fate_unless (same_tag u t) goes (or_first_false (same_tag u t) (is_on u (path x)) o)
quiet_step t i x erase_private o n = fate_unless _ _ n
quiet_step t i x elsewhere o n = refl

pub quiet_all_step : (t : Tag) (i : Index) (x : PathEdit) (es : List Edit) → ApartFrom (on_path (step t i x)) es → is_private t ≡ false → first_fate es t ≡ stays
quiet_all_step t i x [] o n = refl
quiet_all_step t i x (b ∷ es) o n = or_else_quiet (fate b t) (first_fate es t) (quiet_step t i x b o.0 n) (quiet_all_step t i x es o.1 n)

pub meets-none : (x : PathEdit) → meets (path x) [] ≡ true
meets-none (step u j y) = refl
meets-none (insert u vr value) = refl
meets-none (modify u vr value) = refl
meets-none (erase u) = refl
meets-none (erase_item u j) = refl

pub item_clashes : (c : Bool) (i j : Index) (x : PathEdit) → (if c then meets (path x) [] else clash (at_index i) (path x) (at_index j) []) ≡ true
item_clashes true i j x = meets-none x
item_clashes false i j x = or_true _

pub keeps_items : (t : Tag) (i : Index) (x : PathEdit) (b : Edit) (n : ℕ) → overlaps (on_path (step t i x)) b ≡ false → erases b t n ≡ false
keeps_items t i x (on_path (erase_item u j)) n o =
    and_first_false _ (selects j n) (step_other t i x u (ap (λ (y : Bool). if same_tag t u then y else false) (sym (item_clashes (same_index i j) i j x)) ∙ o))
keeps_items t i x (on_path (step u j y)) n o = refl
keeps_items t i x (on_path (insert u vr value)) n o = refl
keeps_items t i x (on_path (modify u vr value)) n o = refl
keeps_items t i x (on_path (erase u)) n o = refl
keeps_items t i x (modify_all u vr value) n o = refl
keeps_items t i x (erase_all u) n o = refl
keeps_items t i x erase_private n o = refl
keeps_items t i x elsewhere n o = refl

pub all_keep_items : (t : Tag) (i : Index) (x : PathEdit) (es : List Edit) (n : ℕ) → ApartFrom (on_path (step t i x)) es → any_erases es t n ≡ false
all_keep_items t i x [] n o = refl
all_keep_items t i x (b ∷ es) n o = or_neither _ _ (keeps_items t i x b n o.0) (all_keep_items t i x es n o.1)

pub depth_case : (c : Bool) (x : PathEdit) (n : ℕ) → steps x ≤ n → depth (if c then on_path x else elsewhere) ≤ n
depth_case true x n p = p
depth_case false x n p = omega arith

pub depth-within : (e : Edit) (v : Tag) (k n : ℕ) → depth e ≤ n → depth (within e v k) ≤ pred n
depth-within (on_path (step t i x)) v k n p = depth_case (same_tag t v && selects i k) x (pred n) (omega arith)
depth-within (on_path (insert t vr value)) v k n p = omega arith
depth-within (on_path (modify t vr value)) v k n p = omega arith
depth-within (on_path (erase t)) v k n p = omega arith
depth-within (on_path (erase_item t i)) v k n p = omega arith
depth-within (modify_all t vr value) v k n p = omega arith
depth-within (erase_all t) v k n p = omega arith
depth-within erase_private v k n p = omega arith
depth-within elsewhere v k n p = omega arith

pub AreWithin-all_within : (es : List Edit) (v : Tag) (k n : ℕ) → AreWithin n es → AreWithin (pred n) (all_within es v k)
AreWithin-all_within [] v k n p = tt
AreWithin-all_within (e ∷ es) v k n p = (depth-within e v k n p.0, AreWithin-all_within es v k n p.1)
