-- The text of a value stands for the value.
use Rattle.std.proofs.Common.{◌≡◌, ◌≢◌, ◌≤◌, ◌<◌, ℕ, zero, suc, ◌-◌, ◌*◌, ◌/◌, ◌%◌, ◌==◌, ◌&&◌, List, [], ◌∷◌, length, take, map, codes, Option, Some, None, ap, sym, ◌∙◌, arith, refl, cond, true, false, Bool, subst, lit<, lit≤, inl, inr}
use Rattle.std.specs.Prelude.{slice_index}
use Rattle.std.specs.List.{join_with_byte}
use Rattle.std.proofs.Math.Nat.{mul-le-mul_left, zero-mul}
use Rattle.std.proofs.lemmas.Nat.{div-add-mod'}
use Rattle.std.proofs.lemmas.Bool.{cases_Bool}
use mathlib.Core.Logic.{⊎_elim}
use Rattle.dcm_lemmas.proofs.Lists.{bytes_same}
use Rattle.dcm_base.specs.declared.vr.Vr.{Vr}
use Rattle.dcm_base.specs.declared.vr.Vr.TheVariants.{AE, AS, AT, CS, DA, DS, DT, FD, FL, IS, LO, LT, OB, OD, OF, OL, OV, OW, PN, SH, SL, SQ, SS, ST, SV, TM, UC, UI, UL, UN, UR, US, UT, UV}
use Rattle.dcm_base.specs.Tables.Number.{AreBytes}
use Rattle.dcm_base.specs.Tables.Representation.{unit, pad}
use Rattle.dcm_base.specs.Tree.Value.{pieces}
use Rattle.dcm_base.specs.Dump.ValueText.{Shape, text, identifier, unsigned, signed, tags, hexadecimal, shape, shown_unit, unit_text, display, shown, unpadded, bracketed, identified}
use Rattle.dcm_base.specs.Lines.ReadValue.{◌>>=◌, within_limit, VALUE_LIMIT, value_in, value_of_text, is_no_value}
use Rattle.dcm_value.specs.Units.{kind_of}
use Rattle.dcm_value.specs.Parts.{part_value}
use Rattle.dcm_value.specs.Laws.{ReadsBack, kept}
use Rattle.dcm_value.proofs.ReadBack.Texts.{text_back, text_few, uid_back, uid_few}
use Rattle.dcm_value.proofs.ReadBack.Units.{IsBack, AreBack, units_back, back_unsigned, back_signed, back_tags, back_bytes, bytes_take}
use Rattle.dcm_value.proofs.ReadBack.Parts.{in_parts, meant_by, within}
use Rattle.dcm_value.proofs.Displays.TextSteps.{IsNumber, Sort, of_text, of_name, of_number, sort, number_way, number_shown, display_some}

-- each unit of a value
number_back : (vr : Vr) → IsNumber (shape vr) → (u : List ℕ) → length u ≡ shown_unit vr → AreBytes u → IsBack (unit_text (shape vr)) (part_value (kind_of (shape vr)) (unit vr)) u
number_back AE n = absurd n
number_back AS n = absurd n
number_back AT n = back_tags
number_back CS n = absurd n
number_back DA n = absurd n
number_back DS n = absurd n
number_back DT n = absurd n
number_back FD n = back_bytes 8 (lit< tt)
number_back FL n = back_bytes 4 (lit< tt)
number_back IS n = absurd n
number_back LO n = absurd n
number_back LT n = absurd n
number_back OB n = back_bytes 1 (lit< tt)
number_back OD n = back_bytes 8 (lit< tt)
number_back OF n = back_bytes 4 (lit< tt)
number_back OL n = back_bytes 4 (lit< tt)
number_back OV n = back_bytes 8 (lit< tt)
number_back OW n = back_bytes 2 (lit< tt)
number_back PN n = absurd n
number_back SH n = absurd n
number_back SL n = back_signed 4 (inr (inl refl)) (lit≤ tt)
number_back SQ n = back_bytes 1 (lit< tt)
number_back SS n = back_signed 2 (inl refl) (lit≤ tt)
number_back ST n = absurd n
number_back SV n = back_signed 8 (inr (inr refl)) (lit≤ tt)
number_back TM n = absurd n
number_back UC n = absurd n
number_back UI n = absurd n
number_back UL n = back_unsigned 4 (lit≤ tt)
number_back UN n = back_bytes 1 (lit< tt)
number_back UR n = absurd n
number_back US n = back_unsigned 2 (lit≤ tt)
number_back UT n = absurd n
number_back UV n = back_unsigned 8 (lit≤ tt)

-- the text of no value
no_value : (vr : Vr) → vr ≢ SQ → value_of_text vr (codes "(no value available)") ≡ Some (kept (shape vr) vr [])
no_value AE n = refl
no_value AS n = refl
no_value AT n = refl
no_value CS n = refl
no_value DA n = refl
no_value DS n = refl
no_value DT n = refl
no_value FD n = refl
no_value FL n = refl
no_value IS n = refl
no_value LO n = refl
no_value LT n = refl
no_value OB n = refl
no_value OD n = refl
no_value OF n = refl
no_value OL n = refl
no_value OV n = refl
no_value OW n = refl
no_value PN n = refl
no_value SH n = refl
no_value SL n = refl
no_value SQ n = absurd (n refl)
no_value SS n = refl
no_value ST n = refl
no_value SV n = refl
no_value TM n = refl
no_value UC n = refl
no_value UI n = refl
no_value UL n = refl
no_value UN n = refl
no_value UR n = refl
no_value US n = refl
no_value UT n = refl
no_value UV n = refl

-- it is no other
no_other : (vr : Vr) → vr ≢ SQ → value_in (shape vr) (unit vr) (codes "(no value available)") ≡ None
no_other AE n = refl
no_other AS n = refl
no_other AT n = refl
no_other CS n = refl
no_other DA n = refl
no_other DS n = refl
no_other DT n = refl
no_other FD n = refl
no_other FL n = refl
no_other IS n = refl
no_other LO n = refl
no_other LT n = refl
no_other OB n = refl
no_other OD n = refl
no_other OF n = refl
no_other OL n = refl
no_other OV n = refl
no_other OW n = refl
no_other PN n = refl
no_other SH n = refl
no_other SL n = refl
no_other SQ n = absurd (n refl)
no_other SS n = refl
no_other ST n = refl
no_other SV n = refl
no_other TM n = refl
no_other UC n = refl
no_other UI n = refl
no_other UL n = refl
no_other UN n = refl
no_other UR n = refl
no_other US n = refl
no_other UT n = refl
no_other UV n = refl

nothing_is : (w : List ℕ) → None ≡ Some w → ⊥
nothing_is w e = cc

-- a text that stands for a value
stands_for : (vr : Vr) (cs w : List ℕ) → vr ≢ SQ → value_in (shape vr) (unit vr) cs ≡ Some w → length w ≤ VALUE_LIMIT → value_of_text vr cs ≡ Some w
stands_for vr cs w n is few =
    let other : is_no_value cs ≡ false =
    ⊎_elim
    (λ t. absurd (nothing_is w (sym (no_other vr n) ∙ ap (value_in (shape vr) (unit vr)) (sym (bytes_same cs (codes "(no value available)") t)) ∙ is)))
    (λ f. f)
    (cases_Bool (is_no_value cs))
    in
    meant_by vr cs n other ∙ ap (λ o. o >>= within_limit) is ∙ within w few

shown_few : (vr : Vr) → shown_unit vr ≤ 8
shown_few AE = lit≤ tt
shown_few AS = lit≤ tt
shown_few AT = lit≤ tt
shown_few CS = lit≤ tt
shown_few DA = lit≤ tt
shown_few DS = lit≤ tt
shown_few DT = lit≤ tt
shown_few FD = lit≤ tt
shown_few FL = lit≤ tt
shown_few IS = lit≤ tt
shown_few LO = lit≤ tt
shown_few LT = lit≤ tt
shown_few OB = lit≤ tt
shown_few OD = lit≤ tt
shown_few OF = lit≤ tt
shown_few OL = lit≤ tt
shown_few OV = lit≤ tt
shown_few OW = lit≤ tt
shown_few PN = lit≤ tt
shown_few SH = lit≤ tt
shown_few SL = lit≤ tt
shown_few SQ = lit≤ tt
shown_few SS = lit≤ tt
shown_few ST = lit≤ tt
shown_few SV = lit≤ tt
shown_few TM = lit≤ tt
shown_few UC = lit≤ tt
shown_few UI = lit≤ tt
shown_few UL = lit≤ tt
shown_few UN = lit≤ tt
shown_few UR = lit≤ tt
shown_few US = lit≤ tt
shown_few UT = lit≤ tt
shown_few UV = lit≤ tt

pub unpadded_bytes : (vr : Vr) (v : List ℕ) → AreBytes v → AreBytes (unpadded vr v)
unpadded_bytes vr v h = of_test (length v % 2 == 0 && slice_index v (length v - 1) == pad vr)
  where
    of_test : (t : Bool) → AreBytes (cond t (take (length v - 1) v) v)
    of_test true = bytes_take (length v - 1) v h
    of_test false = h

-- whole units
record Whole (k : ℕ) (v : List ℕ) : Type 0 where
  others : ℕ
  count : length v / k ≡ suc others
  size : length v ≡ suc others * k

whole_of : (k : ℕ) (v : List ℕ) → 0 < length v → length v % k ≡ 0 → Whole k v
whole_of k v l e = go (length v / k) refl
  where
    all : length v / k * k ≡ length v
    all = let d = div-add-mod' (length v) k in omega arith

    go : (q : ℕ) → length v / k ≡ q → Whole k v
    go zero f = absurd (let none : 0 * k ≡ length v = ap (λ q. q * k) (sym f) ∙ all in omega (arith, none, zero-mul k))
    go (suc n) f = record { others = n; count = f; size = sym all ∙ ap (λ q. q * k) f }

module _ (vr : Vr) (v : List ℕ) (no_sequence : vr ≢ SQ) (h : AreBytes v) (whole : length v % shown_unit vr ≡ 0) (short : length (display vr v) ≤ 16384) (some : 0 < length v) where
  numbers_back : IsNumber (shape vr) → value_of_text vr (display vr v) ≡ Some v
  numbers_back is =
      let k : ℕ = shown_unit vr in
      let parts = whole_of k v some whole in
      let n : ℕ = parts.others in
      let read : List ℕ → Option (List ℕ) = part_value (kind_of (shape vr)) (unit vr) in
      let cs : List ℕ = join_with_byte 92 (map (unit_text (shape vr)) (pieces (suc n) k v)) in
      let back : AreBack (unit_text (shape vr)) read (suc n) k v = units_back (unit_text (shape vr)) read k (number_back vr is) n v parts.size h in
      let text : display vr v ≡ cs = display_some vr v some ∙ number_shown (shape vr) vr v is ∙ ap (λ q. join_with_byte 92 (map (unit_text (shape vr)) (pieces q k v))) parts.count in
      let long : length cs ≤ 16384 = subst (λ x. length x ≤ 16384) text short in
      let few : suc n ≤ 8192 = (let l = back.long in omega arith) in
      let wide : suc n * k ≤ suc n * 8 = mul-le-mul_left (suc n) (shown_few vr) in
      ap (value_of_text vr) text
      ∙ stands_for vr cs v no_sequence (in_parts (shape vr) (unit vr) cs (number_way (shape vr) 0 is) ∙ back.all) (let s = parts.size in omega (arith, wide, s))

  texts_back : shape vr ≡ text → value_of_text vr (display vr v) ≡ Some (unpadded vr v)
  texts_back is =
      let w : List ℕ = unpadded vr v in
      let shows : display vr v ≡ bracketed w = display_some vr v some ∙ ap (λ s. shown s vr v) is in
      let few : length w ≤ 16384 = text_few w 16384 (subst (λ x. length x ≤ 16384) shows short) in
      ap (value_of_text vr) shows
      ∙ stands_for vr (bracketed w) w no_sequence (ap (λ s. value_in s (unit vr) (bracketed w)) is ∙ text_back w (unpadded_bytes vr v h)) (omega arith)

  names_back : shape vr ≡ identifier → value_of_text vr (display vr v) ≡ Some (unpadded vr v)
  names_back is =
      let w : List ℕ = unpadded vr v in
      let shows : display vr v ≡ identified w = display_some vr v some ∙ ap (λ s. shown s vr v) is in
      let few : length w ≤ 16384 = uid_few w (subst (λ x. length x ≤ 16384) shows short) in
      ap (value_of_text vr) shows
      ∙ stands_for vr (identified w) w no_sequence (ap (λ s. value_in s (unit vr) (identified w)) is ∙ uid_back w (unpadded_bytes vr v h)) (omega arith)

number_kept : (s : Shape) (vr : Vr) (v : List ℕ) → IsNumber s → kept s vr v ≡ v
number_kept text vr v is = absurd is
number_kept identifier vr v is = absurd is
number_kept unsigned vr v is = refl
number_kept signed vr v is = refl
number_kept tags vr v is = refl
number_kept hexadecimal vr v is = refl

pub reads_back : ReadsBack
reads_back vr [] n h e l = no_value vr n
reads_back vr (b ∷ bs) n h e l = go (sort vr)
  where
    go : Sort vr → value_of_text vr (display vr (b ∷ bs)) ≡ Some (kept (shape vr) vr (b ∷ bs))
    go (of_text is one) = texts_back vr (b ∷ bs) n h e l (omega arith) is ∙ ap (λ s. Some (kept s vr (b ∷ bs))) (sym is)
    go (of_name is one) = names_back vr (b ∷ bs) n h e l (omega arith) is ∙ ap (λ s. Some (kept s vr (b ∷ bs))) (sym is)
    go (of_number is) = numbers_back vr (b ∷ bs) n h e l (omega arith) is ∙ ap Some (sym (number_kept (shape vr) vr (b ∷ bs) is))
