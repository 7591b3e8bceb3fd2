-- The cells after the elements of a meta group.
use Rattle.std.proofs.Common.{◌≡◌, ◌∙◌, sym, ap, refl, ℕ, List, [], ◌∷◌, length, map, fold}
use Rattle.std.proofs.Common.{append_assoc}
use Rattle.std.specs.Prelude.{Bool, true, false, ◌&&◌, ◌||◌, if◌then◌else◌}
use Rattle.std.proofs.Common.{arith}
use Rattle.std.proofs.lemmas.Bool.Decides.{nat_tests}
use Rattle.dcm_base.specs.Tables.Tag.{same_tag}
use Rattle.dcm_base.specs.declared.tag.Tag.{Tag}
use Rattle.dcm_base.specs.declared.length.Length.TheVariants.{Known}
use Rattle.dcm_base.specs.Tree.Tree.{Trees, no_tree, leaf, sequence, fragments}
use Rattle.dcm_base.specs.Steps.Atoms.{Atom, opens, value_byte, closes_leaf}
use Rattle.dcm_text.specs.declared.sets.Sets.{Sets}
use Rattle.dcm_table.specs.Cell.{Cell, missing}
use Rattle.dcm_table.specs.Columns.{greatest_of}
use Rattle.dcm_table.specs.Meta.{META_SYNTAX, meta_atoms}
use Rattle.dcm_base.specs.File.MetaGroup.{AreMeta}
use Rattle.dcm_base.specs.declared.vr.Vr.{Vr}
use Rattle.dcm_text.specs.Sets.{sets_of}
use Rattle.dcm_table.specs.InForce.{CHARACTER_SET, EMPTY, may_set, meta_sets, set_by}
use Rattle.dcm_table.specs.Shown.{AllSettled, leaf_cell, meta_cell, meta_held, meta_slots, settled, trees_unknown}
use Rattle.dcm_table.specs.TableSink.{Slot, next, begun, begun_slots, kept_or}
use Rattle.dcm_table.proofs.Folds.{map_map}
use Rattle.dcm_table.proofs.Inside.{Mark, at}
use Rattle.dcm_table.proofs.Outside.{marked, trees_marked, same_greatest, unknown_marked, filled, filled_slot, filled_settled, filled_twice, filled_same, first_cell, first_sets, same_sets, or_none, leaf_here, leaf_sets, leaf_state, leaf_settled, leaf_cell_settled, leaf_first, leaf_first_sets}
use Rattle.dcm_table.proofs.RowCells.{held_at}
use Rattle.dcm_table.proofs.Settings.{kept_same}

pub begun_settled : (tags : List Tag) → AllSettled (begun_slots tags)
begun_settled [] = tt
begun_settled (t ∷ tags) = (refl, begun_settled tags)

abbrev cells_of : Trees → Tag → Cell
cells_of e t = meta_cell t e

abbrev sets_of_meta : Trees → Tag → Sets → Sets
sets_of_meta e t z = meta_sets t z e

elements_fill : (e : Trees) (g : Mark) (slots : List Slot) → AllSettled slots → fold next (at 0 g slots) (meta_atoms e) ≡ at 0 (trees_marked g e) (filled (cells_of e) (sets_of_meta e) slots)
unfolding meta_cell meta_sets trees_marked
elements_fill no_tree g slots h = ap (at 0 g) (sym (all_stay slots))
  where
    all_stay : (slots : List Slot) → filled (λ (t : Tag). missing) same_sets slots ≡ slots
    all_stay [] = refl
    all_stay (c ∷ slots) =
        ap (λ (x : Cell). (c.0, x, kept_or c.1 c.2 c.2) ∷ filled (λ (t : Tag). missing) same_sets slots) (or_none c.1)
        ∙ ap (λ (z : Sets). (c.0, c.1, z) ∷ filled (λ (t : Tag). missing) same_sets slots) (kept_same c.1 c.2)
        ∙ ap (λ (x : List Slot). c ∷ x) (all_stay slots)
elements_fill (leaf tag vr value rest) g slots h =
    let here : Tag → Cell = leaf_here META_SYNTAX tag vr value in
    let to : Tag → Sets → Sets = leaf_sets tag vr value in
    ap (λ (x : List Atom). fold next (at 0 g slots) (opens tag vr (Known (length value)) META_SYNTAX ∷ x)) (append_assoc (map value_byte value) (closes_leaf ∷ []) (meta_atoms rest))
    ∙ leaf_state g slots META_SYNTAX tag vr value (meta_atoms rest) h
    ∙ elements_fill rest (marked g tag vr value) (filled here to slots) (filled_settled here to (leaf_settled META_SYNTAX tag vr value) slots h)
    ∙ ap (at 0 (trees_marked (marked g tag vr value) rest))
    (filled_twice here (cells_of rest) to (sets_of_meta rest) slots
    ∙ filled_same (first_cell here (cells_of rest)) (cells_of (leaf tag vr value rest)) (first_sets here to (sets_of_meta rest)) (sets_of_meta (leaf tag vr value rest))
    (λ (t : Tag). leaf_first META_SYNTAX tag vr value t (meta_cell t rest))
    (λ (t : Tag) (z : Sets). leaf_first_sets META_SYNTAX tag vr value t z (sets_of_meta rest t)) slots)
elements_fill (sequence tag vr declared items rest) g slots h = elements_fill rest g slots h
elements_fill (fragments tag vr values rest) g slots h = elements_fill rest g slots h

or_nothing : (b : Bool) → (b || false) ≡ b
or_nothing true = refl
or_nothing false = refl

pub meta_fills : (tags : List Tag) (e : Trees) → fold next (begun tags) (meta_atoms e) ≡ held_at (greatest_of tags) (meta_held tags e)
meta_fills tags e =
    let g : Mark = record { greatest = greatest_of tags; unknown = false } in
    elements_fill e g (begun_slots tags) (begun_settled tags)
    ∙ ap (λ (x : Tag). at 0 (record { greatest = x; unknown = (trees_marked g e).unknown }) (filled (cells_of e) (sets_of_meta e) (begun_slots tags))) (same_greatest g e)
    ∙ ap (λ (x : Bool). at 0 (record { greatest = greatest_of tags; unknown = x }) (filled (cells_of e) (sets_of_meta e) (begun_slots tags))) (unknown_marked g e ∙ or_nothing (trees_unknown e))
    ∙ ap (at 0 (record { greatest = greatest_of tags; unknown = trees_unknown e })) (map_map (λ (t : Tag). let p : Slot = (t, missing, EMPTY) in p) (λ (c : Slot). filled_slot (cells_of e) (sets_of_meta e) c) tags)

cell_settled : (e : Trees) (t : Tag) → settled (meta_cell t e) ≡ meta_cell t e
unfolding meta_cell
cell_settled no_tree t = refl
cell_settled (leaf tag vr value rest) t = either (same_tag tag t) (leaf_cell META_SYNTAX tag vr value) (meta_cell t rest) (leaf_cell_settled META_SYNTAX tag vr value) (cell_settled rest t)
  where
    either : (b : Bool) (c d : Cell) → settled c ≡ c → settled d ≡ d → settled (if b then c else d) ≡ (if b then c else d)
    either true c d e h = e
    either false c d e h = h
cell_settled (sequence tag vr declared items rest) t = cell_settled rest t
cell_settled (fragments tag vr values rest) t = cell_settled rest t

pub meta_settles : (tags : List Tag) (e : Trees) → AllSettled (meta_slots tags e)
meta_settles [] e = tt
meta_settles (t ∷ tags) e = (cell_settled e t, meta_settles tags e)

-- ---- what is in force

no_charset : (tag : Tag) → tag.group ≡ 2 → same_tag tag CHARACTER_SET ≡ false
no_charset tag e = grind (arith, nat_tests, e)

nothing_set : (tag : Tag) (vr : Vr) (value : List ℕ) (sets : Sets) (t : Bool) → t ≡ false → (if t && may_set vr then sets_of value else sets) ≡ sets
nothing_set tag vr value sets true e = cc
nothing_set tag vr value sets false e = refl

either_same : (t : Bool) (x y : Sets) → y ≡ x → (if t then x else y) ≡ x
either_same true x y e = refl
either_same false x y e = e

pub meta_sets_nothing : (column : Tag) (sets : Sets) (e : Trees) → AreMeta e → meta_sets column sets e ≡ sets
unfolding meta_sets AreMeta
meta_sets_nothing column sets no_tree h = refl
meta_sets_nothing column sets (leaf tag vr value rest) h =
    either_same (same_tag tag column) sets (meta_sets column (set_by tag vr value sets) rest)
    (ap (λ (x : Sets). meta_sets column x rest) (nothing_set tag vr value sets (same_tag tag CHARACTER_SET) (no_charset tag h.0)) ∙ meta_sets_nothing column sets rest h.1)
meta_sets_nothing column sets (sequence tag vr declared items rest) h = absurd h
meta_sets_nothing column sets (fragments tag vr values rest) h = absurd h
