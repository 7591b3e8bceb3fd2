-- Units in hexadecimal, of which whole blocks are woven and the others shown one by one.
use Rattle.std.proofs.Common.{arith, ◌≡◌, ◌<◌, ◌≤◌, ℕ, ◌*◌, ◌/◌, Bool, not, List, ◌∷◌, ◌++◌, length, take, drop, refl, sym, ap, ◌∙◌}
use Rattle.std.proofs.Math.Nat.{div-mul-le_self}
use Rattle.std.specs.Prelude.{flat_map}
use Rattle.std.proofs.lemmas.Grind.{flat_map-append}
use Rattle.std.proofs.lemmas.List.{length-take-le, take-append-drop}
use Rattle.dcm_base.specs.declared.vr.Vr.{Vr}
use Rattle.dcm_base.specs.declared.syntax.Syntax.{Syntax}
use Rattle.dcm_base.specs.declared.syntax.Syntax.TheVariants.{Implicit as implicit_in, Little as little_in, Big as big_in}
use Rattle.dcm_base.specs.Tables.Representation.{unit}
use Rattle.dcm_base.specs.Tables.Syntax.{is_big}
use Rattle.dcm_base.specs.Tree.Value.{pieces, units}
use Rattle.dcm_base.specs.Dump.ValueText.{shape, shown_unit, hex_byte}
use Rattle.dcm_base.proofs.Conversions.Order.{turned_unit}
use Rattle.dcm_value.specs.declared.units.Kind.TheVariants.{Hexadecimal, Tags}
use Rattle.dcm_value.specs.Units.{kind_of, high_text, high, one_text, separated, separated_units}
use Rattle.dcm_value.specs.Swap.{IsUnit}
use Rattle.dcm_value.specs.Woven.{woven, unit_digits}
use Rattle.dcm_value.proofs.UnitOrder.HighestFirst.{IsOne, Kinds, of_tags, of_ones, kinds, shown_some, one_high, map_same, alike, whole_units}
use Rattle.dcm_value.proofs.UnitOrder.Pieces.{units_append}
use Rattle.dcm_value.proofs.UnitOrder.Woven.{in_sixteen}

-- tags are no such units
tags_apart : Tags ≡ Hexadecimal → ⊥
tags_apart e = absurd cc

is_one : (vr : Vr) → kind_of (shape vr) ≡ Hexadecimal → IsOne vr
is_one vr is = go (kinds vr)
  where
    go : Kinds vr → IsOne vr
    go (of_tags tags) = absurd (tags_apart (sym (ap (λ x. kind_of (shape x)) tags) ∙ is))
    go (of_ones o) = o

-- a unit
digits_by_kind : (syntax : Syntax) (vr : Vr) (u : List ℕ) → IsOne vr → length u ≡ unit vr → unit_digits (not (is_big syntax)) u ≡ high_text Hexadecimal (high syntax vr u)
digits_by_kind (implicit_in d) vr u o long = ap (flat_map hex_byte) (sym (turned_unit (unit vr) o.some u long))
digits_by_kind (little_in d) vr u o long = ap (flat_map hex_byte) (sym (turned_unit (unit vr) o.some u long))
digits_by_kind (big_in d) vr u o long = refl

one_shown : (syntax : Syntax) (vr : Vr) → kind_of (shape vr) ≡ Hexadecimal → IsOne vr → (u : List ℕ) → length u ≡ unit vr → unit_digits (not (is_big syntax)) u ≡ one_text vr syntax u
one_shown syntax vr is o u long =
    digits_by_kind syntax vr u o long ∙ ap (λ k. high_text k (high syntax vr u)) (sym is) ∙ one_high syntax vr o u long

-- units that are woven are shown as they are
woven_shown : (syntax : Syntax) (vr : Vr) (v : List ℕ) → kind_of (shape vr) ≡ Hexadecimal → woven (unit vr) (not (is_big syntax)) v ≡ separated_units vr syntax v
woven_shown syntax vr v is =
    let o = is_one vr is in
    let digits = unit_digits (not (is_big syntax)) in
    let count = length v / unit vr in
    ap (separated digits) (sym (map_same (pieces count (unit vr) v)))
    ∙ alike digits (one_text vr syntax) (λ u. u) (unit vr) (one_shown syntax vr is o) count v (whole_units (unit vr) v)
    ∙ ap (λ k. separated (one_text vr syntax) (units k v)) (sym o.same)

split_whole : (k n m : ℕ) (t : List ℕ → List ℕ) (v : List ℕ) → 0 < k → m ≡ n * k → m ≤ length v → separated t (units k v) ≡ separated t (units k (take m v)) ++ separated t (units k (drop m v))
split_whole k n m t v some whole within =
    ap (λ xs. separated t (units k xs)) (sym (take-append-drop m v))
    ∙ ap (separated t) (units_append k some n (take m v) (drop m v) (length-take-le m v within ∙ whole))
    ∙ flat_map-append (λ u. 92 ∷ t u) (units k (take m v)) (units k (drop m v))

-- whole units in front, and those behind them
units_in_blocks : (syntax : Syntax) (vr : Vr) (size n m : ℕ) (big : Bool) (v front back : List ℕ) → size ≡ unit vr → big ≡ is_big syntax → kind_of (shape vr) ≡ Hexadecimal → m ≡ n * size → m ≤ length v → front ≡ take m v → back ≡ drop m v
    → separated_units vr syntax v ≡ woven size (not big) front ++ separated_units vr syntax back
units_in_blocks syntax vr size n m big v front back same order kind cut within f b =
    let o = is_one vr kind in
    let some : 0 < shown_unit vr = shown_some vr in
    let shown : size ≡ shown_unit vr = same ∙ sym o.same in
    split_whole (shown_unit vr) n m (one_text vr syntax) v some (cut ∙ ap (λ k. n * k) shown) within
    ∙ ap (λ xs. separated_units vr syntax xs ++ separated_units vr syntax (drop m v)) (sym f)
    ∙ ap (λ xs. separated_units vr syntax front ++ separated_units vr syntax xs) (sym b)
    ∙ ap (λ xs. xs ++ separated_units vr syntax back) (sym (woven_shown syntax vr front kind))
    ∙ ap (λ k. woven k (not (is_big syntax)) front ++ separated_units vr syntax back) (sym same)
    ∙ ap (λ t. woven size (not t) front ++ separated_units vr syntax back) (sym order)

-- as many whole lanes as there are
pub units_in_lanes : (syntax : Syntax) (vr : Vr) (size : ℕ) (big : Bool) (v front back : List ℕ) → IsUnit size → size ≡ unit vr → big ≡ is_big syntax → kind_of (shape vr) ≡ Hexadecimal → front ≡ take (length v / 16 * 16) v → back ≡ drop (length v / 16 * 16) v
    → separated_units vr syntax v ≡ woven size (not big) front ++ separated_units vr syntax back
units_in_lanes syntax vr size big v front back is same order kind f b =
    let lanes : ℕ = length v / 16 in
    let turned_round : lanes * 16 ≡ 16 * lanes = omega arith in
    units_in_blocks syntax vr size (16 / size * lanes) (lanes * 16) big v front back same order kind (turned_round ∙ in_sixteen size lanes is) (div-mul-le_self (length v) 16) f b
