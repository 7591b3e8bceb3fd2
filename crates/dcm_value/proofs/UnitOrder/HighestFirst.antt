-- Units whose highest byte stands first show what the units of a value show.
use Rattle.std.proofs.Common.{true, false, ◌≡◌, ◌≤◌, ◌<◌, ℕ, zero, suc, ◌*◌, ◌/◌, List, [], ◌∷◌, ◌++◌, length, take, drop, refl, sym, ap, ◌∙◌, arith, lit<, suc-mul, subst}
use Rattle.std.specs.Prelude.{reverse, flat_map, map, decimal}
use mathlib.Core.Logic.{⊎_elim}
use Rattle.std.proofs.lemmas.Bool.{cases_lt}
use Rattle.std.proofs.lemmas.List.{reverse-reverse, length-reverse, length-take, length-drop, take-append-drop}
use Rattle.std.proofs.Math.Nat.{mul-div-le}
use Rattle.dcm_base.specs.declared.vr.Vr.{Vr}
use Rattle.dcm_base.specs.declared.vr.Vr.TheVariants.{AE, AS, AT, CS, DA, DS, DT, FD, FL, IS, LO, LT, OB, OD, OF, OL, OV, OW, PN, SH, SL, SQ, SS, ST, SV, TM, UC, UI, UL, UN, UR, US, UT, UV}
use Rattle.dcm_base.specs.declared.syntax.Syntax.{Syntax}
use Rattle.dcm_base.specs.declared.syntax.Syntax.TheVariants.{Implicit as implicit_in, Little as little_in, Big as big_in}
use Rattle.dcm_base.specs.Tables.Representation.{unit}
use Rattle.dcm_base.specs.Tree.Value.{pieces, units, order, turned, number_of}
use Rattle.dcm_base.specs.Dump.ValueText.{Shape, text, identifier, unsigned, signed, tags, hexadecimal, shape, shown_unit, unit_text, hex_byte, signed_text}
use Rattle.dcm_base.proofs.Conversions.UnitLaws.{units_cons, units_none}
use Rattle.dcm_base.proofs.Conversions.OrderLaws.{turns_units, keeps_length, turned_bytes}
use Rattle.dcm_base.proofs.Conversions.Order.{turned_unit, four_cons, tag_units}
use Rattle.dcm_base.specs.Tables.Syntax.{is_big}
use Rattle.dcm_value.specs.Units.{kind_of, high_text, high, one_text, separated}

-- shown alike, turned or not
pub data IsPlain : Shape → Type 0 where
  plain_text : IsPlain text
  plain_identifier : IsPlain identifier
  plain_unsigned : IsPlain unsigned
  plain_signed : IsPlain signed
  plain_hexadecimal : IsPlain hexadecimal

turned_text : (s : Shape) (u h : List ℕ) → IsPlain s → u ≡ reverse h → high_text (kind_of s) h ≡ unit_text s u
turned_text text u h plain_text e = ap (flat_map hex_byte) (sym (ap reverse e ∙ reverse-reverse h))
turned_text identifier u h plain_identifier e = ap (flat_map hex_byte) (sym (ap reverse e ∙ reverse-reverse h))
turned_text hexadecimal u h plain_hexadecimal e = ap (flat_map hex_byte) (sym (ap reverse e ∙ reverse-reverse h))
turned_text unsigned u h plain_unsigned e = ap (λ x. decimal (number_of x)) (sym e)
turned_text tags u h x e = elim x [ ]
turned_text signed u h plain_signed e = ap (λ x. signed_text x (number_of (reverse h))) (sym (ap length e ∙ length-reverse h)) ∙ ap (λ x. signed_text (length u) (number_of x)) (sym e)

-- of a value that is no list of tags
pub record IsOne (vr : Vr) : Type 0 where
  pub plain : IsPlain (shape vr)
  pub same : shown_unit vr ≡ unit vr
  pub some : 0 < unit vr

pub data Kinds (vr : Vr) : Type 0 where
  of_tags : (is : vr ≡ AT) → Kinds vr
  of_ones : (one : IsOne vr) → Kinds vr

pub kinds : (vr : Vr) → Kinds vr
kinds AE = of_ones (record { plain = plain_text; same = refl; some = lit< tt })
kinds AS = of_ones (record { plain = plain_text; same = refl; some = lit< tt })
kinds AT = of_tags refl
kinds CS = of_ones (record { plain = plain_text; same = refl; some = lit< tt })
kinds DA = of_ones (record { plain = plain_text; same = refl; some = lit< tt })
kinds DS = of_ones (record { plain = plain_text; same = refl; some = lit< tt })
kinds DT = of_ones (record { plain = plain_text; same = refl; some = lit< tt })
kinds FD = of_ones (record { plain = plain_hexadecimal; same = refl; some = lit< tt })
kinds FL = of_ones (record { plain = plain_hexadecimal; same = refl; some = lit< tt })
kinds IS = of_ones (record { plain = plain_text; same = refl; some = lit< tt })
kinds LO = of_ones (record { plain = plain_text; same = refl; some = lit< tt })
kinds LT = of_ones (record { plain = plain_text; same = refl; some = lit< tt })
kinds OB = of_ones (record { plain = plain_hexadecimal; same = refl; some = lit< tt })
kinds OD = of_ones (record { plain = plain_hexadecimal; same = refl; some = lit< tt })
kinds OF = of_ones (record { plain = plain_hexadecimal; same = refl; some = lit< tt })
kinds OL = of_ones (record { plain = plain_hexadecimal; same = refl; some = lit< tt })
kinds OV = of_ones (record { plain = plain_hexadecimal; same = refl; some = lit< tt })
kinds OW = of_ones (record { plain = plain_hexadecimal; same = refl; some = lit< tt })
kinds PN = of_ones (record { plain = plain_text; same = refl; some = lit< tt })
kinds SH = of_ones (record { plain = plain_text; same = refl; some = lit< tt })
kinds SL = of_ones (record { plain = plain_signed; same = refl; some = lit< tt })
kinds SQ = of_ones (record { plain = plain_hexadecimal; same = refl; some = lit< tt })
kinds SS = of_ones (record { plain = plain_signed; same = refl; some = lit< tt })
kinds ST = of_ones (record { plain = plain_text; same = refl; some = lit< tt })
kinds SV = of_ones (record { plain = plain_signed; same = refl; some = lit< tt })
kinds TM = of_ones (record { plain = plain_text; same = refl; some = lit< tt })
kinds UC = of_ones (record { plain = plain_text; same = refl; some = lit< tt })
kinds UI = of_ones (record { plain = plain_identifier; same = refl; some = lit< tt })
kinds UL = of_ones (record { plain = plain_unsigned; same = refl; some = lit< tt })
kinds UN = of_ones (record { plain = plain_hexadecimal; same = refl; some = lit< tt })
kinds UR = of_ones (record { plain = plain_text; same = refl; some = lit< tt })
kinds US = of_ones (record { plain = plain_unsigned; same = refl; some = lit< tt })
kinds UT = of_ones (record { plain = plain_text; same = refl; some = lit< tt })
kinds UV = of_ones (record { plain = plain_unsigned; same = refl; some = lit< tt })

-- a unit
pub one_high : (syntax : Syntax) (vr : Vr) → IsOne vr → (u : List ℕ) → length u ≡ unit vr → high_text (kind_of (shape vr)) (high syntax vr u) ≡ one_text vr syntax u
one_high (implicit_in d) vr o u e = turned_text (shape vr) u (turned (unit vr) u) o.plain (sym (ap reverse (turned_unit (unit vr) o.some u e) ∙ reverse-reverse u))
one_high (little_in d) vr o u e = turned_text (shape vr) u (turned (unit vr) u) o.plain (sym (ap reverse (turned_unit (unit vr) o.some u e) ∙ reverse-reverse u))
one_high (big_in d) vr o u e = turned_text (shape vr) (turned (unit vr) u) u o.plain (turned_unit (unit vr) o.some u e)

tag_high : (syntax : Syntax) (u : List ℕ) → length u ≡ 4 → high_text (kind_of (shape AT)) (high syntax AT u) ≡ one_text AT syntax u
tag_high (implicit_in k) (a ∷ b ∷ c ∷ d ∷ []) e = refl
tag_high (little_in k) (a ∷ b ∷ c ∷ d ∷ []) e = refl
tag_high (big_in k) (a ∷ b ∷ c ∷ d ∷ []) e = refl
tag_high syntax _ e = absurd (omega arith)

turns_fours : (n : ℕ) (v : List ℕ) → length v ≤ n → units 4 (turned 2 v) ≡ map (turned 2) (units 4 v)
turns_fours zero v l = none v (omega arith)
  where
    none : (v : List ℕ) → length v < 4 → units 4 (turned 2 v) ≡ map (turned 2) (units 4 v)
    none v l = units_none 4 (lit< tt) (turned 2 v) (omega (arith, keeps_length 2 (lit< tt) v)) ∙ sym (ap (map (turned 2)) (units_none 4 (lit< tt) v l))
turns_fours (suc n) v l =
    ⊎_elim
    (λ short. units_none 4 (lit< tt) (turned 2 v) (omega (arith, keeps_length 2 (lit< tt) v)) ∙ sym (ap (map (turned 2)) (units_none 4 (lit< tt) v short)))
    (λ long.
    let u : List ℕ = take 4 v in
    let w : List ℕ = drop 4 v in
    let whole : u ++ w ≡ v = take-append-drop 4 v in
    let is_unit : length u ≡ 4 = omega (arith, length-take 4 v) in
    ap (λ x. units 4 (turned 2 x)) (sym whole)
    ∙ ap (units 4) (four_cons u w is_unit)
    ∙ units_cons 4 (lit< tt) (turned 2 u) (turned 2 w) (keeps_length 2 (lit< tt) u ∙ is_unit)
    ∙ ap (λ us. turned 2 u ∷ us) (turns_fours n w (omega (arith, length-drop 4 v)))
    ∙ ap (map (turned 2)) (sym (units_cons 4 (lit< tt) u w is_unit))
    ∙ ap (λ x. map (turned 2) (units 4 x)) whole)
    (cases_lt (length v) 4)

pub map_same : (us : List (List ℕ)) → map (λ u. u) us ≡ us
map_same [] = refl
map_same (u ∷ us) = ap (λ xs. u ∷ xs) (map_same us)

-- units of what is turned are units that are turned
high_ones : (syntax : Syntax) (vr : Vr) → IsOne vr → (v : List ℕ) → units (unit vr) (high syntax vr v) ≡ map (high syntax vr) (units (unit vr) v)
high_ones (implicit_in d) vr o v = turns_units (unit vr) o.some v
high_ones (little_in d) vr o v = turns_units (unit vr) o.some v
high_ones (big_in d) vr o v = sym (map_same (units (unit vr) v))

high_tags : (syntax : Syntax) (v : List ℕ) → units 4 (high syntax AT v) ≡ map (high syntax AT) (units 4 v)
high_tags (implicit_in d) v = turns_fours (length v) v (omega arith)
high_tags (little_in d) v = turns_fours (length v) v (omega arith)
high_tags (big_in d) v = sym (map_same (units 4 v))

-- texts that are alike at each unit
pub alike : (f g : List ℕ → List ℕ) (h : List ℕ → List ℕ) (k : ℕ) → ((u : List ℕ) → length u ≡ k → f (h u) ≡ g u) → (n : ℕ) (v : List ℕ) → n * k ≤ length v → separated f (map h (pieces n k v)) ≡ separated g (pieces n k v)
alike f g h k same zero v l = refl
alike f g h k same (suc n) v l =
    let is_unit : length (take k v) ≡ k = omega (arith, length-take k v, suc-mul n k) in
    ap (λ xs. (92 ∷ xs) ++ separated f (map h (pieces n k (drop k v)))) (same (take k v) is_unit)
    ∙ ap (λ xs. (92 ∷ g (take k v)) ++ xs) (alike f g h k same n (drop k v) (omega (arith, length-drop k v, suc-mul n k)))

pub whole_units : (k : ℕ) (v : List ℕ) → length v / k * k ≤ length v
whole_units k v = let e : length v / k * k ≡ k * (length v / k) = omega arith in omega (arith, mul-div-le k (length v))

pub high_units : (syntax : Syntax) (vr : Vr) (v : List ℕ) → separated (high_text (kind_of (shape vr))) (units (shown_unit vr) (high syntax vr v)) ≡ separated (one_text vr syntax) (units (shown_unit vr) v)
high_units syntax vr v = go (kinds vr)
  where
    go : Kinds vr → separated (high_text (kind_of (shape vr))) (units (shown_unit vr) (high syntax vr v)) ≡ separated (one_text vr syntax) (units (shown_unit vr) v)
    go (of_tags is) =
        let P : Vr → Type 0 = λ x. separated (high_text (kind_of (shape x))) (units (shown_unit x) (high syntax x v)) ≡ separated (one_text x syntax) (units (shown_unit x) v) in
        subst P (sym is) (ap (separated (high_text (kind_of (shape AT)))) (high_tags syntax v) ∙ alike (high_text (kind_of (shape AT))) (one_text AT syntax) (high syntax AT) 4 (tag_high syntax) (length v / 4) v (whole_units 4 v))
    go (of_ones o) =
        ap (λ k. separated (high_text (kind_of (shape vr))) (units k (high syntax vr v))) o.same
        ∙ ap (separated (high_text (kind_of (shape vr)))) (high_ones syntax vr o v)
        ∙ alike (high_text (kind_of (shape vr))) (one_text vr syntax) (high syntax vr) (unit vr) (one_high syntax vr o) (length v / unit vr) v (whole_units (unit vr) v)
        ∙ ap (λ k. separated (one_text vr syntax) (units k v)) (sym o.same)

-- where nothing is turned
pub big_stays : (syntax : Syntax) (vr : Vr) (v : List ℕ) → is_big syntax ≡ true → high syntax vr v ≡ v
big_stays (implicit_in d) vr v e = absurd cc
big_stays (little_in d) vr v e = absurd cc
big_stays (big_in d) vr v e = refl

pub bytes_stay : (syntax : Syntax) (vr : Vr) (v : List ℕ) → unit vr ≡ 1 → high syntax vr v ≡ v
bytes_stay (implicit_in d) vr v e = ap (λ k. turned k v) e ∙ turned_bytes v
bytes_stay (little_in d) vr v e = ap (λ k. turned k v) e ∙ turned_bytes v
bytes_stay (big_in d) vr v e = refl

pub others_turn : (syntax : Syntax) (vr : Vr) (v : List ℕ) → is_big syntax ≡ false → high syntax vr v ≡ turned (unit vr) v
others_turn (implicit_in d) vr v n = refl
others_turn (little_in d) vr v n = refl
others_turn (big_in d) vr v n = absurd cc

-- what stands there, by the units of the value
pub shows_units : (syntax : Syntax) (vr : Vr) (v h before after : List ℕ) → h ≡ high syntax vr v → after ≡ before ++ separated (high_text (kind_of (shape vr))) (units (shown_unit vr) h) → after ≡ before ++ separated (one_text vr syntax) (units (shown_unit vr) v)
shows_units syntax vr v h before after e is = is ∙ ap (λ x. before ++ separated (high_text (kind_of (shape vr))) (units (shown_unit vr) x)) e ∙ ap (λ xs. before ++ xs) (high_units syntax vr v)

pub shown_some : (vr : Vr) → 0 < shown_unit vr
shown_some vr = go (kinds vr)
  where
    go : Kinds vr → 0 < shown_unit vr
    go (of_tags is) = let P : Vr → Type 0 = λ x. 0 < shown_unit x in subst P (sym is) (lit< tt)
    go (of_ones o) = let same = o.same in let some = o.some in omega arith

-- units of what is ordered are units that are ordered
ordered_ones : (syntax : Syntax) (vr : Vr) → IsOne vr → (v : List ℕ) → units (unit vr) (order syntax vr v) ≡ map (order syntax vr) (units (unit vr) v)
ordered_ones (implicit_in d) vr o v = sym (map_same (units (unit vr) v))
ordered_ones (little_in d) vr o v = sym (map_same (units (unit vr) v))
ordered_ones (big_in d) vr o v = turns_units (unit vr) o.some v

pub ordered_units : (syntax : Syntax) (vr : Vr) (v : List ℕ) → units (shown_unit vr) (order syntax vr v) ≡ map (order syntax vr) (units (shown_unit vr) v)
ordered_units syntax vr v = go (kinds vr)
  where
    go : Kinds vr → units (shown_unit vr) (order syntax vr v) ≡ map (order syntax vr) (units (shown_unit vr) v)
    go (of_tags is) =
        let P : Vr → Type 0 = λ x. units (shown_unit x) (order syntax x v) ≡ map (order syntax x) (units (shown_unit x) v) in
        subst P (sym is) (tag_units syntax v)
    go (of_ones o) = ap (λ k. units k (order syntax vr v)) o.same ∙ ordered_ones syntax vr o v ∙ ap (λ k. map (order syntax vr) (units k v)) (sym o.same)
