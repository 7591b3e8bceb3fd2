-- Lists of numbers are shown as their units are.
use Rattle.std.proofs.Common.{◌≡◌, ℕ, ◌*◌, ◌/◌, min, Bool, true, false, List, ◌++◌, length, take, drop, refl, sym, ap, ◌∙◌}
use Rattle.std.specs.Prelude.{reverse}
use Rattle.dcm_base.specs.declared.vr.Vr.{Vr}
use Rattle.dcm_base.specs.declared.syntax.Syntax.{Syntax}
use Rattle.dcm_base.specs.declared.syntax.Syntax.TheVariants.{Implicit as implicit_in, Little as little_in, Big as big_in}
use Rattle.dcm_base.specs.Tables.Representation.{unit}
use Rattle.dcm_base.specs.Tables.Syntax.{is_big}
use Rattle.dcm_base.specs.Tree.Value.{pieces, units, order, number_of}
use Rattle.dcm_base.specs.Dump.ValueText.{Shape, text, identifier, unsigned, signed, tags, hexadecimal, shape, unit_text}
use Rattle.dcm_base.proofs.Conversions.Order.{turned_unit}
use Rattle.dcm_base.proofs.Conversions.OrderLaws.{keeps_length}
use Rattle.dcm_value.specs.declared.units.Kind.{Kind}
use Rattle.dcm_value.specs.declared.units.Kind.TheVariants.{Unsigned, Signed, Tags}
use Rattle.dcm_value.specs.Swap.{IsUnit}
use Rattle.dcm_value.specs.Units.{kind_of, one_text, separated, separated_units}
use Rattle.dcm_value.specs.Numbers.{shown_number, number_text, numbers}
use Rattle.dcm_value.proofs.UnitOrder.HighestFirst.{IsOne, Kinds, of_tags, of_ones, kinds, map_same, alike, whole_units}
use Rattle.dcm_value.proofs.UnitOrder.Pieces.{units_split}
use Rattle.dcm_value.proofs.UnitOrder.Woven.{unit_some}

-- the kind of numbers with a sign or without
abbrev pub number_kind : Bool → Kind
number_kind true = Signed
number_kind false = Unsigned

-- a number by the shape of its value
by_shape : (s : Shape) (is_signed : Bool) (u : List ℕ) → kind_of s ≡ number_kind is_signed → shown_number is_signed (length u) (number_of u) ≡ unit_text s u
by_shape unsigned false u e = refl
by_shape signed true u e = refl
by_shape unsigned true u e = absurd cc
by_shape signed false u e = absurd cc
by_shape text true u e = absurd cc
by_shape text false u e = absurd cc
by_shape identifier true u e = absurd cc
by_shape identifier false u e = absurd cc
by_shape tags true u e = absurd cc
by_shape tags false u e = absurd cc
by_shape hexadecimal true u e = absurd cc
by_shape hexadecimal false u e = absurd cc

not_tags : (is_signed : Bool) → Tags ≡ number_kind is_signed → ⊥
not_tags true e = absurd cc
not_tags false e = absurd cc

is_one : (vr : Vr) (is_signed : Bool) → kind_of (shape vr) ≡ number_kind is_signed → IsOne vr
is_one vr is_signed is = go (kinds vr)
  where
    go : Kinds vr → IsOne vr
    go (of_tags at) = absurd (not_tags is_signed (sym (ap (λ x. kind_of (shape x)) at) ∙ is))
    go (of_ones o) = o

-- a number as it is, and as it is ordered
in_order : (syntax : Syntax) (vr : Vr) (is_signed : Bool) (u : List ℕ) → IsOne vr → length u ≡ unit vr → number_text is_signed (is_big syntax) u ≡ shown_number is_signed (length (order syntax vr u)) (number_of (order syntax vr u))
in_order (implicit_in d) vr is_signed u o long = refl
in_order (little_in d) vr is_signed u o long = refl
in_order (big_in d) vr is_signed u o long =
    ap (λ n. shown_number is_signed n (number_of (reverse u))) (sym (keeps_length (unit vr) o.some u))
    ∙ ap (λ w. shown_number is_signed (length (order (big_in d) vr u)) (number_of w)) (sym (turned_unit (unit vr) o.some u long))

one_number : (syntax : Syntax) (vr : Vr) (is_signed : Bool) → kind_of (shape vr) ≡ number_kind is_signed → IsOne vr → (u : List ℕ) → length u ≡ unit vr → number_text is_signed (is_big syntax) u ≡ one_text vr syntax u
one_number syntax vr is_signed is o u long = in_order syntax vr is_signed u o long ∙ by_shape (shape vr) is_signed (order syntax vr u) is

-- the units of a value of numbers
pub numbers_shown : (syntax : Syntax) (vr : Vr) (is_signed big : Bool) (size : ℕ) (v : List ℕ) → kind_of (shape vr) ≡ number_kind is_signed → size ≡ unit vr → big ≡ is_big syntax → numbers is_signed big size v ≡ separated_units vr syntax v
numbers_shown syntax vr is_signed big size v is same ordered =
    let o = is_one vr is_signed is in
    let shown = number_text is_signed (is_big syntax) in
    let count = length v / unit vr in
    ap (λ b. numbers is_signed b size v) ordered
    ∙ ap (λ k. numbers is_signed (is_big syntax) k v) same
    ∙ ap (separated shown) (sym (map_same (pieces count (unit vr) v)))
    ∙ alike shown (one_text vr syntax) (λ u. u) (unit vr) (one_number syntax vr is_signed is o) count v (whole_units (unit vr) v)
    ∙ ap (λ k. separated (one_text vr syntax) (units k v)) (sym o.same)

-- a block of numbers in front of others
pub numbers_split : (is_signed is_big : Bool) (size m : ℕ) (rest front back : List ℕ) → IsUnit size → m ≡ min (length rest) (128 * size) → front ≡ take m rest → back ≡ drop m rest → numbers is_signed is_big size rest ≡ numbers is_signed is_big size front ++ numbers is_signed is_big size back
numbers_split is_signed is_big size m rest front back is cut f b =
    units_split size (unit_some size is) (number_text is_signed is_big) 128 m rest front back cut f b
