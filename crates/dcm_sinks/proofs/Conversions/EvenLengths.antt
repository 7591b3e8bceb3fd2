-- The head of a value whose size was made even.
use Rattle.std.proofs.Common.{◌≡◌, ◌∙◌, ap, sym, subst, refl, ℕ, ◌<◌, ◌≤◌, ◌∷◌, ◌++◌, Bool, true, false, cond, arith, not, ◌&&◌, nat_lt}
use Rattle.std.specs.Int.{w16, w32}
use Rattle.std.proofs.lemmas.Bool.Decides.{nat_tests}
use Rattle.dcm_base.specs.declared.tag.Tag.{Tag}
use Rattle.dcm_base.specs.declared.vr.Vr.{Vr}
use Rattle.dcm_base.specs.declared.vr.Vr.TheVariants.{AE, AS, AT, CS, DA, DS, DT, FD, FL, IS, LO, LT, OB, OD, OF, OL, OV, OW, PN, SH, SL, SQ, SS, ST, SV, TM, UC, UI, UL, UN, UR, US, UT, UV}
use Rattle.dcm_base.specs.declared.length.Length.{Length}
use Rattle.dcm_base.specs.declared.length.Length.TheVariants.{Known, Undefined}
use Rattle.dcm_base.specs.declared.syntax.Syntax.{Syntax}
use Rattle.dcm_base.specs.declared.syntax.Syntax.TheVariants.{Implicit as implicit_in, Little as little_in, Big as big_in}
use Rattle.dcm_base.specs.Tables.Representation.{letters, is_long}
use Rattle.dcm_base.specs.Conversion.Recode.{number_bytes, length_number, tag_bytes, head, even, is_explicit, too_long, leaf_head}
use Rattle.dcm_base.specs.Bytes.Spelling.{form, read_as}
use Rattle.dcm_base.specs.declared.form.Form.TheVariants.{Value as a_value, FragmentList as a_fragment_list, Nothing as no_form}
use Rattle.dcm_head.specs.HeadBytes.{FitsShort}
use Rattle.dcm_base.proofs.DataSets.Alike.{undefined_same}

-- lengths of the same bytes
abbrev pub SameBytes : Length → Length → Type 0
SameBytes a b = (s : Syntax) → number_bytes s w32 (length_number a) ≡ number_bytes s w32 (length_number b)

explicit_same : (s : Syntax) (tag : Tag) (vr : Vr) (t : Bool) (a b : Length) → is_long vr ≡ t → SameBytes a b → (t ≡ false → a ≡ b)
    → tag_bytes s tag ++ letters vr ++ cond (is_long vr) (0 ∷ 0 ∷ number_bytes s w32 (length_number a)) (number_bytes s w16 (length_number a))
    ≡ tag_bytes s tag ++ letters vr ++ cond (is_long vr) (0 ∷ 0 ∷ number_bytes s w32 (length_number b)) (number_bytes s w16 (length_number b))
explicit_same s tag vr t a b e same short =
    ap (λ z. tag_bytes s tag ++ letters vr ++ z)
    (ap (λ u. cond u (0 ∷ 0 ∷ number_bytes s w32 (length_number a)) (number_bytes s w16 (length_number a))) e
    ∙ by_test t short
    ∙ ap (λ u. cond u (0 ∷ 0 ∷ number_bytes s w32 (length_number b)) (number_bytes s w16 (length_number b))) (sym e))
  where
    by_test : (t : Bool) → (t ≡ false → a ≡ b)
        → cond t (0 ∷ 0 ∷ number_bytes s w32 (length_number a)) (number_bytes s w16 (length_number a)) ≡ cond t (0 ∷ 0 ∷ number_bytes s w32 (length_number b)) (number_bytes s w16 (length_number b))
    by_test true short = ap (λ z. 0 ∷ 0 ∷ z) (same s)
    by_test false short = ap (λ (l : Length). number_bytes s w16 (length_number l)) (short refl)

head_same : (s : Syntax) (tag : Tag) (vr : Vr) (a b : Length) → SameBytes a b → (is_explicit s ≡ true → is_long vr ≡ false → a ≡ b) → head s tag vr a ≡ head s tag vr b
head_same (implicit_in d) tag vr a b same short = ap (λ z. tag_bytes (implicit_in d) tag ++ z) (same (implicit_in d))
head_same (little_in d) tag vr a b same short = explicit_same (little_in d) tag vr (is_long vr) a b refl same (short refl)
head_same (big_in d) tag vr a b same short = explicit_same (big_in d) tag vr (is_long vr) a b refl same (short refl)

-- a value whose length stands in two bytes is not too long
not_too_long : (t u : Bool) (n : ℕ) → t ≡ true → u ≡ false → (t && (not u && nat_lt 65534 n)) ≡ false → n ≤ 65534
not_too_long t u n a b e = grind (arith, nat_tests, a, b, e)

unknown_is_long : (vr : Vr) (t : Bool) → is_long (cond t UN vr) ≡ false → t ≡ false
unknown_is_long vr true e = absurd (let no : true ≡ false = e in cc)
unknown_is_long vr false e = refl

kept_vr : (vr : Vr) (t : Bool) → t ≡ false → is_long (cond t UN vr) ≡ false → is_long vr ≡ false
kept_vr vr true e l = cc
kept_vr vr false e l = l

short_size : (s : Syntax) (vr : Vr) (size : ℕ) → is_explicit s ≡ true → is_long (cond (too_long s vr size) UN vr) ≡ false → even size ≤ 65534
short_size s vr size explicit short =
    let not : too_long s vr size ≡ false = unknown_is_long vr (too_long s vr size) short in
    not_too_long (is_explicit s) (is_long vr) (even size) explicit (kept_vr vr (too_long s vr size) not short) not

pub fits_short : (s : Syntax) (vr : Vr) (size : ℕ) (l : Length) → (size < 4294967295 → l ≡ Known (even size)) → is_explicit s ≡ true → is_long (cond (too_long s vr size) UN vr) ≡ false → FitsShort l
fits_short s vr size l exact explicit short =
    let few : even size ≤ 65534 = short_size s vr size explicit short in
    subst FitsShort (sym (exact (omega (arith, few)))) (let le : even size < 65536 = omega (arith, few) in le)

pub head_evened : (s : Syntax) (tag : Tag) (vr : Vr) (size : ℕ) (l : Length) → SameBytes l (Known (even size)) → (size < 4294967295 → l ≡ Known (even size)) → head s tag (cond (too_long s vr size) UN vr) l ≡ leaf_head s tag vr size
head_evened s tag vr size l same exact =
    head_same s tag (cond (too_long s vr size) UN vr) l (Known (even size)) same (λ explicit short. exact (let few = short_size s vr size explicit short in omega (arith, few)))

-- a fragment list has a representation whose length stands in four bytes
fragments_long : (s : Syntax) (vr : Vr) (declared : Length) → form s vr declared ≡ a_fragment_list → is_long vr ≡ true
unfolding form
fragments_long s AE (Known size) e = absurd (let no : a_value ≡ a_fragment_list = e in cc)
fragments_long s AE Undefined e = absurd (let no : no_form ≡ a_fragment_list = e in cc)
fragments_long s AS (Known size) e = absurd (let no : a_value ≡ a_fragment_list = e in cc)
fragments_long s AS Undefined e = absurd (let no : no_form ≡ a_fragment_list = e in cc)
fragments_long s AT (Known size) e = absurd (let no : a_value ≡ a_fragment_list = e in cc)
fragments_long s AT Undefined e = absurd (let no : no_form ≡ a_fragment_list = e in cc)
fragments_long s CS (Known size) e = absurd (let no : a_value ≡ a_fragment_list = e in cc)
fragments_long s CS Undefined e = absurd (let no : no_form ≡ a_fragment_list = e in cc)
fragments_long s DA (Known size) e = absurd (let no : a_value ≡ a_fragment_list = e in cc)
fragments_long s DA Undefined e = absurd (let no : no_form ≡ a_fragment_list = e in cc)
fragments_long s DS (Known size) e = absurd (let no : a_value ≡ a_fragment_list = e in cc)
fragments_long s DS Undefined e = absurd (let no : no_form ≡ a_fragment_list = e in cc)
fragments_long s DT (Known size) e = absurd (let no : a_value ≡ a_fragment_list = e in cc)
fragments_long s DT Undefined e = absurd (let no : no_form ≡ a_fragment_list = e in cc)
fragments_long s FD (Known size) e = absurd (let no : a_value ≡ a_fragment_list = e in cc)
fragments_long s FD Undefined e = absurd (let no : no_form ≡ a_fragment_list = e in cc)
fragments_long s FL (Known size) e = absurd (let no : a_value ≡ a_fragment_list = e in cc)
fragments_long s FL Undefined e = absurd (let no : no_form ≡ a_fragment_list = e in cc)
fragments_long s IS (Known size) e = absurd (let no : a_value ≡ a_fragment_list = e in cc)
fragments_long s IS Undefined e = absurd (let no : no_form ≡ a_fragment_list = e in cc)
fragments_long s LO (Known size) e = absurd (let no : a_value ≡ a_fragment_list = e in cc)
fragments_long s LO Undefined e = absurd (let no : no_form ≡ a_fragment_list = e in cc)
fragments_long s LT (Known size) e = absurd (let no : a_value ≡ a_fragment_list = e in cc)
fragments_long s LT Undefined e = absurd (let no : no_form ≡ a_fragment_list = e in cc)
fragments_long s PN (Known size) e = absurd (let no : a_value ≡ a_fragment_list = e in cc)
fragments_long s PN Undefined e = absurd (let no : no_form ≡ a_fragment_list = e in cc)
fragments_long s SH (Known size) e = absurd (let no : a_value ≡ a_fragment_list = e in cc)
fragments_long s SH Undefined e = absurd (let no : no_form ≡ a_fragment_list = e in cc)
fragments_long s SL (Known size) e = absurd (let no : a_value ≡ a_fragment_list = e in cc)
fragments_long s SL Undefined e = absurd (let no : no_form ≡ a_fragment_list = e in cc)
fragments_long s SS (Known size) e = absurd (let no : a_value ≡ a_fragment_list = e in cc)
fragments_long s SS Undefined e = absurd (let no : no_form ≡ a_fragment_list = e in cc)
fragments_long s ST (Known size) e = absurd (let no : a_value ≡ a_fragment_list = e in cc)
fragments_long s ST Undefined e = absurd (let no : no_form ≡ a_fragment_list = e in cc)
fragments_long s TM (Known size) e = absurd (let no : a_value ≡ a_fragment_list = e in cc)
fragments_long s TM Undefined e = absurd (let no : no_form ≡ a_fragment_list = e in cc)
fragments_long s UI (Known size) e = absurd (let no : a_value ≡ a_fragment_list = e in cc)
fragments_long s UI Undefined e = absurd (let no : no_form ≡ a_fragment_list = e in cc)
fragments_long s UL (Known size) e = absurd (let no : a_value ≡ a_fragment_list = e in cc)
fragments_long s UL Undefined e = absurd (let no : no_form ≡ a_fragment_list = e in cc)
fragments_long s US (Known size) e = absurd (let no : a_value ≡ a_fragment_list = e in cc)
fragments_long s US Undefined e = absurd (let no : no_form ≡ a_fragment_list = e in cc)
fragments_long s OB declared e = refl
fragments_long s OD declared e = refl
fragments_long s OF declared e = refl
fragments_long s OL declared e = refl
fragments_long s OV declared e = refl
fragments_long s OW declared e = refl
fragments_long s SQ declared e = refl
fragments_long s SV declared e = refl
fragments_long s UC declared e = refl
fragments_long s UN declared e = refl
fragments_long s UR declared e = refl
fragments_long s UT declared e = refl
fragments_long s UV declared e = refl

no_known_list : (s : Syntax) (vr : Vr) (n : ℕ) → form s vr (Known n) ≡ a_fragment_list → ⊥
unfolding form
no_known_list s SQ n e = cc
no_known_list s vr n e = cc

-- a fragment list has a representation whose length stands in four bytes, as which it is read
pub read_long : (s : Syntax) (t : Tag) (vr : Vr) (declared : Length) → form s (read_as s t vr) declared ≡ a_fragment_list → is_long vr ≡ true
read_long s t vr (Known n) e = absurd (no_known_list s (read_as s t vr) n e)
read_long s t vr Undefined e = fragments_long s vr Undefined (sym (undefined_same s t vr) ∙ e)
