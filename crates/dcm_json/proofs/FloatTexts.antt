-- Floats and other units, as they are written.
use Rattle.std.proofs.Common.{◌≡◌, ◌≢◌, ◌∙◌, sym, ap, refl, subst, ℕ, ◌≤◌, true, false, List, [], ◌∷◌, length, Option, Some}
use Rattle.std.specs.Prelude.{IsTrue, IsFalse, IsAscii, from_bits, Result}
use Rattle.std.specs.Float.{float_is_finite}
use Rattle.std.specs.Float.Ieee.{Float}
use Rattle.ryu.specs.Parse.{parse_float}
use Rattle.ryu.specs.Plain.{IsPlainNumber, IsLaidOutNumber, word_of}
use Rattle.dcm_lemmas.proofs.Choice.{if_false, if_true}
use Rattle.dcm_base.specs.declared.vr.Vr.{Vr}
use Rattle.dcm_base.specs.declared.vr.Vr.TheVariants.{AT, FD, FL}
use Rattle.dcm_devices.specs.Device.{Puts}
use Rattle.dcm_table.specs.Parts.{Part, Width, IsFloatText, a_float, format_of, leading_zeros, some_bytes, whole_digits}
use Rattle.dcm_table.proofs.PartsOut.{Out, bytes_out, part_out}
use Rattle.json.specs.Print.{quoted}
use Rattle.dcm_json.specs.Numbers.{float_part, integer_text, tag_digits, unit_part}

-- the text of a float
pub record TextOf (w : Width) (x : Float) (text : List ℕ) : Type 0 where
  pub parses : parse_float (format_of w) text ≡ Some x
  pub plain : IsTrue (float_is_finite x) → IsPlainNumber text
  pub layout : IsTrue (float_is_finite x) → IsLaidOutNumber (whole_digits w) (leading_zeros w) text
  pub word : IsFalse (float_is_finite x) → text ≡ word_of x
  pub short : length text ≤ 25
  pub ascii : IsAscii text

of_bits : (w : Width) (bits : ℕ) (x : Float) (text : List ℕ) → x ≡ from_bits (format_of w) bits → TextOf w x text → IsFloatText w bits text
of_bits w bits x text e f =
    let g : TextOf w (from_bits (format_of w) bits) text = subst (λ (y : Float). TextOf w y text) e f in
    record { parses = g.parses; plain = g.plain; layout = g.layout; word = g.word; short = g.short; ascii = g.ascii }

pub finite_out : {T E : Type 0} (w : Width) (bits : ℕ) (x : Float) (put text : List ℕ) (old new : Option (List ℕ)) (r : Result T E) → x ≡ from_bits (format_of w) bits → float_is_finite x ≡ true
    → TextOf w x text → put ≡ text → Puts old new put r → Out old new (float_part w bits ∷ []) r
finite_out {T} {E} w bits x put text old new r e finite f same went =
    subst (λ (p : Part). Out {T = T} {E = E} old new (p ∷ []) r)
    (sym (if_true (float_is_finite (from_bits (format_of w) bits)) (a_float w bits) (some_bytes (quoted (word_of (from_bits (format_of w) bits)))) (sym (ap float_is_finite e) ∙ finite)))
    (part_out old new (a_float w bits) text r (of_bits w bits x text e f) (subst (λ (y : List ℕ). Puts {T = T} {E = E} old new y r) same went))

pub other_out : {T E : Type 0} (w : Width) (bits : ℕ) (x : Float) (put text : List ℕ) (old new : Option (List ℕ)) (r : Result T E) → x ≡ from_bits (format_of w) bits → float_is_finite x ≡ false
    → TextOf w x text → put ≡ text → Puts old new (quoted put) r → Out old new (float_part w bits ∷ []) r
other_out {T} {E} w bits x put text old new r e finite f same went =
    subst (λ (p : Part). Out {T = T} {E = E} old new (p ∷ []) r)
    (sym (if_false (float_is_finite (from_bits (format_of w) bits)) (a_float w bits) (some_bytes (quoted (word_of (from_bits (format_of w) bits)))) (sym (ap float_is_finite e) ∙ finite)))
    (bytes_out old new (quoted (word_of (from_bits (format_of w) bits))) r
    (subst (λ (y : List ℕ). Puts {T = T} {E = E} old new (quoted y) r) (same ∙ f.word finite ∙ ap word_of e) went))

-- ---- units

pub tag_out : {T E : Type 0} (vr : Vr) (unit digits : List ℕ) (old new : Option (List ℕ)) (r : Result T E) → vr ≡ AT → digits ≡ tag_digits unit → Puts old new (quoted digits) r → Out old new (unit_part vr unit ∷ []) r
tag_out {T} {E} vr unit digits old new r v e went =
    subst (λ (y : Vr). Out {T = T} {E = E} old new (unit_part y unit ∷ []) r) (sym v)
    (bytes_out old new (quoted (tag_digits unit)) r (subst (λ (y : List ℕ). Puts {T = T} {E = E} old new (quoted y) r) e went))

integer_part : (vr : Vr) (unit : List ℕ) → (vr ≢ FL) → (vr ≢ FD) → (vr ≢ AT) → some_bytes (integer_text vr unit) ≡ unit_part vr unit
integer_part FL unit h k l = absurd (h refl)
integer_part FD unit h k l = absurd (k refl)
integer_part AT unit h k l = absurd (l refl)
integer_part _ unit h k l = refl

pub integer_out : {T E : Type 0} (vr : Vr) (unit : List ℕ) (old new : Option (List ℕ)) (r : Result T E) → (vr ≢ FL) → (vr ≢ FD) → (vr ≢ AT) → Puts old new (integer_text vr unit) r → Out old new (unit_part vr unit ∷ []) r
integer_out {T} {E} vr unit old new r h k l went =
    subst (λ (p : Part). Out {T = T} {E = E} old new (p ∷ []) r) (integer_part vr unit h k l) (bytes_out old new (integer_text vr unit) r went)
