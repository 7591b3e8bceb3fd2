-- A value of few units, in both modes.
use Rattle.std.proofs.Common.{◌≡◌, ◌≤◌, ◌<◌, ℕ, zero, suc, ◌+◌, ◌*◌, ◌/◌, List, length, take, drop, map, ap, sym, ◌∙◌, arith, cond}
use Rattle.std.specs.List.{join_with_byte}
use Rattle.std.proofs.Math.Nat.{lt-div-mul-add}
use Rattle.dcm_base.specs.declared.vr.Vr.{Vr}
use Rattle.dcm_base.specs.declared.syntax.Syntax.{Syntax}
use Rattle.dcm_base.specs.declared.mode.Mode.{Mode}
use Rattle.dcm_base.specs.Tree.Value.{pieces, units, order}
use Rattle.dcm_base.specs.Dump.ValueText.{shape, shown_unit, units_text, padded, shortened, is_single}
use Rattle.dcm_value.specs.declared.way.Way.TheVariants.{InUnits}
use Rattle.dcm_value.specs.Way.{way_of}
use Rattle.dcm_value.specs.Units.{one_text, separated}
use Rattle.dcm_value.specs.Whole.{text_in, count_in}
use Rattle.dcm_value.proofs.Displays.WholeUnits.{joined_more, joined_ordered, units_whole, units_count}
use Rattle.dcm_value.proofs.Displays.WholesInModes.{uncut}
use Rattle.dcm_value.proofs.UnitOrder.HighestFirst.{shown_some}

-- behind the first backslash of units is what is shown of them
behind_first : (t : List ℕ → List ℕ) (n k : ℕ) (v : List ℕ) → 0 < n → drop 1 (separated t (pieces n k v)) ≡ join_with_byte 92 (map t (pieces n k v))
behind_first t zero k v some = absurd (omega (arith, some))
behind_first t (suc n) k v some = sym (joined_more t (take k v) (pieces n k (drop k v)))

some_whole : (n k size : ℕ) → size < n * k + k → k ≤ size → 0 < n
some_whole zero k size less more = absurd (omega (arith, less, more))
some_whole (suc n) k size less more = omega arith

module _ (mode : Mode) (vr : Vr) (syntax : Syntax) (v : List ℕ) (some : shown_unit vr ≤ length v) (in_units : way_of (shape vr) (length v) ≡ InUnits) where
  abbrev k : ℕ
  k = shown_unit vr

  one_or_more : 0 < length v / k
  one_or_more = some_whole (length v / k) k (length v) (lt-div-mul-add {a = length v} (shown_some vr)) some

  not_empty : 0 < length v
  not_empty = omega (arith, shown_some vr, some)

  shown_is : drop 1 (separated (one_text vr syntax) (units k v)) ≡ units_text (shape vr) k (order syntax vr v)
  shown_is = behind_first (one_text vr syntax) (length v / k) k v one_or_more ∙ joined_ordered vr syntax (length v) mode in_units v

  pub few_text : (shown : List ℕ) → shown ≡ drop 1 (separated (one_text vr syntax) (units (shown_unit vr) v)) → length shown ≤ 66 → text_in mode vr syntax v ≡ padded shown
  few_text shown is few =
      let same : shown ≡ units_text (shape vr) k (order syntax vr v) = is ∙ shown_is in
      units_whole vr syntax (length v) mode in_units v not_empty
      ∙ ap (λ x. padded (shortened mode x)) (sym same)
      ∙ uncut mode shown few

  pub few_count : count_in mode vr syntax v ≡ cond (is_single vr) 1 (length v / shown_unit vr)
  few_count = units_count vr syntax (length v) mode in_units v not_empty
