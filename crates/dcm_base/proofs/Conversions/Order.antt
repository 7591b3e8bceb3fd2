-- The order of a value: turned twice it is itself, and units are turned one by one.
use Rattle.std.proofs.Common.{◌∷◌, ◌≡◌, ◌≤◌, ◌<◌, ℕ, zero, suc, ◌+◌, ◌*◌, ◌/◌, List, [], ◌++◌, length, take, drop, reverse, map, flat_map, ap, sym, ◌∙◌, arith, refl, append_assoc}
use Rattle.std.proofs.lemmas.Bool.{cases_lt}
use mathlib.Core.Logic.{⊎_elim}
use Rattle.std.proofs.lemmas.List.{length-append, append-nil, length-reverse, length-take, length-drop, take-append-drop, reverse-reverse, map-id}
use Rattle.std.proofs.Math.Seq.{drop-append-add}
use Rattle.std.proofs.Math.Nat.{div-eq_of_lt, add-div_left}
use Rattle.dcm_base.specs.declared.vr.Vr.{Vr}
use Rattle.dcm_base.specs.declared.vr.Vr.TheVariants.{AT, US, SS, OW, UL, SL, FL, OF, OL, FD, OD, OV, SV, UV}
use Rattle.dcm_base.specs.declared.syntax.Syntax.{Syntax}
use Rattle.dcm_base.specs.declared.syntax.Syntax.TheVariants.{Implicit as implicit_in, Little as little_in, Big as big_in}
use Rattle.dcm_base.specs.Tables.Representation.{unit}
use Rattle.dcm_base.specs.Tree.Value.{units, rest_part, turned, order}
use Rattle.dcm_base.proofs.Conversions.UnitLaws.{units_cons, units_none}
use Rattle.dcm_base.proofs.Conversions.OrderLaws.{keeps_length, turns_units}

module _ (k : ℕ) (some : 0 < k) where
  pub rest_cons : (u w : List ℕ) → length u ≡ k → rest_part k (u ++ w) ≡ rest_part k w
  rest_cons u w e =
      let q : length (u ++ w) / k ≡ length w / k + 1 = ap (λ n. n / k) (length-append u w ∙ ap (λ n. n + length w) e) ∙ add-div_left (length w) some in
      ap (λ n. drop (n * k) (u ++ w)) q
      ∙ ap (λ n. drop n (u ++ w)) (let m : (length w / k + 1) * k ≡ length u + length w / k * k = omega arith in m)
      ∙ drop-append-add u w (length w / k * k)

  pub rest_short : (v : List ℕ) → length v < k → rest_part k v ≡ v
  rest_short v l = ap (λ n. drop (n * k) v) (div-eq_of_lt l) ∙ ap (λ n. drop n v) (let e : 0 * k ≡ 0 = omega arith in e)

  pub turned_cons : (u w : List ℕ) → length u ≡ k → turned k (u ++ w) ≡ reverse u ++ turned k w
  turned_cons u w e =
      ap (λ us. flat_map reverse us ++ rest_part k (u ++ w)) (units_cons k some u w e)
      ∙ ap (λ zs. (reverse u ++ flat_map reverse (units k w)) ++ zs) (rest_cons u w e)
      ∙ append_assoc (reverse u) _ _

  pub turned_short : (v : List ℕ) → length v < k → turned k v ≡ v
  turned_short v l = ap (λ us. flat_map reverse us ++ rest_part k v) (units_none k some v l) ∙ rest_short v l

  pub turned_unit : (u : List ℕ) → length u ≡ k → turned k u ≡ reverse u
  turned_unit u e = ap (turned k) (sym (append-nil u)) ∙ turned_cons u [] e ∙ ap (λ zs. reverse u ++ zs) (turned_short [] some) ∙ append-nil (reverse u)

  twice_within : (n : ℕ) (v : List ℕ) → length v ≤ n → turned k (turned k v) ≡ v
  twice_within zero v l = ap (turned k) (turned_short v (omega arith)) ∙ turned_short v (omega arith)
  twice_within (suc n) v l =
      ⊎_elim
      (λ short. ap (turned k) (turned_short v short) ∙ turned_short v short)
      (λ long.
      let u : List ℕ = take k v in
      let w : List ℕ = drop k v in
      let whole : u ++ w ≡ v = take-append-drop k v in
      let is_unit : length u ≡ k = omega (arith, length-take k v) in
      ap (λ x. turned k (turned k x)) (sym whole)
      ∙ ap (turned k) (turned_cons u w is_unit)
      ∙ turned_cons (reverse u) (turned k w) (length-reverse u ∙ is_unit)
      ∙ ap (λ x. x ++ turned k (turned k w)) (reverse-reverse u)
      ∙ ap (λ x. u ++ x) (twice_within n w (omega (arith, length-drop k v)))
      ∙ whole)
      (cases_lt (length v) k)

  pub turned_twice : (v : List ℕ) → turned k (turned k v) ≡ v
  turned_twice v = twice_within (length v) v (omega arith)

pub unit_some : (vr : Vr) → 0 < unit vr
unit_some AT = omega arith
unit_some US = omega arith
unit_some SS = omega arith
unit_some OW = omega arith
unit_some UL = omega arith
unit_some SL = omega arith
unit_some FL = omega arith
unit_some OF = omega arith
unit_some OL = omega arith
unit_some FD = omega arith
unit_some OD = omega arith
unit_some OV = omega arith
unit_some SV = omega arith
unit_some UV = omega arith
unit_some _ = omega arith

pub order_twice : (s : Syntax) (vr : Vr) (v : List ℕ) → order s vr (order s vr v) ≡ v
order_twice (implicit_in d) vr v = refl
order_twice (little_in d) vr v = refl
order_twice (big_in d) vr v = turned_twice (unit vr) (unit_some vr) v

pub length-order : (s : Syntax) (vr : Vr) (v : List ℕ) → length (order s vr v) ≡ length v
length-order (implicit_in d) vr v = refl
length-order (little_in d) vr v = refl
length-order (big_in d) vr v = keeps_length (unit vr) (unit_some vr) v

pub order_same : (s : Syntax) (vr : Vr) (v w : List ℕ) → order s vr v ≡ order s vr w → v ≡ w
order_same s vr v w e = sym (order_twice s vr v) ∙ ap (λ (x : List ℕ). order s vr x) e ∙ order_twice s vr w

pub order_none : (s : Syntax) (vr : Vr) → order s vr [] ≡ []
order_none (implicit_in d) vr = refl
order_none (little_in d) vr = refl
order_none (big_in d) vr = turned_short (unit vr) (unit_some vr) [] (unit_some vr)

pub order_units : (s : Syntax) (vr : Vr) (v : List ℕ) → units (unit vr) (order s vr v) ≡ map (order s vr) (units (unit vr) v)
order_units (implicit_in d) vr v = sym (map-id (units (unit vr) v))
order_units (little_in d) vr v = sym (map-id (units (unit vr) v))
order_units (big_in d) vr v = turns_units (unit vr) (unit_some vr) v

-- where f goes over a value k bytes by k bytes
module _ (k : ℕ) (some : 0 < k) (f : List ℕ → List ℕ) (cons : (u w : List ℕ) → length u ≡ k → f (u ++ w) ≡ f u ++ f w) (size : (v : List ℕ) → length (f v) ≡ length v) where
  kept_short : (v : List ℕ) → length v < k → units k (f v) ≡ map f (units k v)
  kept_short v l = units_none k some (f v) (omega (arith, size v)) ∙ ap (map f) (sym (units_none k some v l))

  kept_within : (n : ℕ) (v : List ℕ) → length v ≤ n → units k (f v) ≡ map f (units k v)
  kept_within zero v l = kept_short v (omega arith)
  kept_within (suc n) v l =
      ⊎_elim
      (kept_short v)
      (λ long.
      let u : List ℕ = take k v in
      let w : List ℕ = drop k v in
      let whole : u ++ w ≡ v = take-append-drop k v in
      let is_unit : length u ≡ k = omega (arith, length-take k v) in
      ap (λ x. units k (f x)) (sym whole)
      ∙ ap (units k) (cons u w is_unit)
      ∙ units_cons k some (f u) (f w) (size u ∙ is_unit)
      ∙ ap (λ us. f u ∷ us) (kept_within n w (omega (arith, length-drop k v)))
      ∙ ap (map f) (sym (units_cons k some u w is_unit))
      ∙ ap (λ x. map f (units k x)) whole)
      (cases_lt (length v) k)

  pub units_kept : (v : List ℕ) → units k (f v) ≡ map f (units k v)
  units_kept v = kept_within (length v) v (omega arith)

pub four_cons : (u w : List ℕ) → length u ≡ 4 → turned 2 (u ++ w) ≡ turned 2 u ++ turned 2 w
four_cons u w e =
    let a : List ℕ = take 2 u in
    let b : List ℕ = drop 2 u in
    let whole : a ++ b ≡ u = take-append-drop 2 u in
    let first : length a ≡ 2 = omega (arith, length-take 2 u) in
    let second : length b ≡ 2 = omega (arith, length-drop 2 u) in
    let some : 0 < 2 = omega arith in
    ap (λ x. turned 2 (x ++ w)) (sym whole)
    ∙ ap (turned 2) (append_assoc a b w)
    ∙ turned_cons 2 some a (b ++ w) first
    ∙ ap (λ x. reverse a ++ x) (turned_cons 2 some b w second ∙ ap (λ x. x ++ turned 2 w) (sym (turned_unit 2 some b second)))
    ∙ sym (append_assoc (reverse a) (turned 2 b) (turned 2 w))
    ∙ ap (λ x. x ++ turned 2 w) (sym (turned_cons 2 some a b first) ∙ ap (turned 2) whole)

-- a tag is shown of two units
pub tag_units : (s : Syntax) (v : List ℕ) → units 4 (order s AT v) ≡ map (order s AT) (units 4 v)
tag_units (implicit_in d) v = sym (map-id (units 4 v))
tag_units (little_in d) v = sym (map-id (units 4 v))
tag_units (big_in d) v = units_kept 4 (omega arith) (turned 2) four_cons (keeps_length 2 (omega arith)) v
