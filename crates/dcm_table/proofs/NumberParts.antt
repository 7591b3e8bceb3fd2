-- Numbers that go out as parts.
use Rattle.std.proofs.Common.{◌≡◌, ◌≢◌, ◌∙◌, sym, ap, refl, subst, ℕ, ◌<◌, ◌≤◌, List, [], ◌∷◌, ◌++◌, length, take, drop, Option, Bool, true, false, arith, eq-eqb}
use Rattle.std.specs.Prelude.{◌&&◌, not, nat_eq, if◌then◌else◌, codes, Result, IsErr}
use Rattle.std.proofs.lemmas.Bool.Decides.{nat_tests}
use Rattle.std.proofs.lemmas.List.{take-append-drop, length-take-le}
use lib.Ieee.{nan_bits}
use Rattle.dcm_base.specs.declared.vr.Vr.{Vr}
use Rattle.dcm_base.specs.declared.vr.Vr.TheVariants.{FD, FL}
use Rattle.dcm_base.specs.Dump.ValueText.{shape, shown_unit, unit_text}
use Rattle.dcm_base.specs.Tree.Value.{units}
use Rattle.dcm_base.proofs.Conversions.UnitLaws.{units_cons, units_none}
use Rattle.dcm_devices.specs.Device.{Puts}
use Rattle.dcm_table.specs.Parts.{Part, some_bytes, a_float, float_part, format_of, Width, IsFloatText}
use Rattle.dcm_table.specs.Row.{unit_part, next_unit_parts, next_units_parts, joined}
use Rattle.dcm_table.specs.Parts.{AppendsParts, AppendsFrontOfParts}
use Rattle.dcm_table.proofs.PartsOut.{Out, part_out, bytes_out, out_failed, out_then}
use Rattle.dcm_value.proofs.UnitOrder.HighestFirst.{shown_some}

-- ---- bits that are no number

pub nan_then : (x y n m : ℕ) → x ≡ n → not (nat_eq y m) ≡ (nat_eq x n && not (nat_eq y m))
nan_then x y n m e = rw (eq-eqb x n e) refl

pub nan_else : (x n : ℕ) (t : Bool) → x ≢ n → nat_eq x n ≡ (nat_eq x n && t)
nan_else x n t h = and_false (nat_eq x n) t (apart x n h)
  where
    apart : (x n : ℕ) → x ≢ n → nat_eq x n ≡ false
    apart x n h = grind (arith, nat_tests)

    and_false : (b t : Bool) → b ≡ false → b ≡ (b && t)
    and_false true t e = cc
    and_false false t e = refl

-- ---- floats

abbrev chosen_part : Bool → Width → ℕ → Part
chosen_part t w bits = if t then some_bytes (codes "NaN") else a_float w bits

is_nan : (t : Bool) (w : Width) (bits : ℕ) → t ≡ true → chosen_part t w bits ≡ some_bytes (codes "NaN")
is_nan t w bits e = rw e refl

is_number : (t : Bool) (w : Width) (bits : ℕ) → t ≡ false → chosen_part t w bits ≡ a_float w bits
is_number t w bits e = rw e refl

pub nan_out : {T E : Type 0} (w : Width) (bits : ℕ) (old new : Option (List ℕ)) (r : Result T E) → nan_bits (format_of w) bits ≡ true → Puts old new (codes "NaN") r → Out old new (float_part w bits ∷ []) r
nan_out {T} {E} w bits old new r e put =
    subst (λ (p : Part). Out {T = T} {E = E} old new (p ∷ []) r) (sym (is_nan (nan_bits (format_of w) bits) w bits e)) (bytes_out old new (codes "NaN") r put)

pub float_out : {T E : Type 0} (w : Width) (bits : ℕ) (put text : List ℕ) (old new : Option (List ℕ)) (r : Result T E) → nan_bits (format_of w) bits ≡ false → IsFloatText w bits text → put ≡ text → Puts old new put r → Out old new (float_part w bits ∷ []) r
float_out {T} {E} w bits put text old new r e is same went =
    subst (λ (p : Part). Out {T = T} {E = E} old new (p ∷ []) r) (sym (is_number (nan_bits (format_of w) bits) w bits e))
    (part_out old new (a_float w bits) text r is (subst (λ (x : List ℕ). Puts {T = T} {E = E} old new x r) same went))

-- ---- units

pub plain_part : (vr : Vr) (unit : List ℕ) → (vr ≢ FL) → (vr ≢ FD) → unit_part vr unit ≡ some_bytes (unit_text (shape vr) unit)
plain_part FL unit h k = absurd (h refl)
plain_part FD unit h k = absurd (k refl)
plain_part _ unit h k = refl

pub plain_out : {T E : Type 0} (vr : Vr) (unit put : List ℕ) (old new : Option (List ℕ)) (r : Result T E) → (vr ≢ FL) → (vr ≢ FD) → put ≡ unit_text (shape vr) unit → Puts old new put r → Out old new (unit_part vr unit ∷ []) r
plain_out {T} {E} vr unit put old new r h k e went =
    subst (λ (p : Part). Out {T = T} {E = E} old new (p ∷ []) r) (ap some_bytes e ∙ sym (plain_part vr unit h k)) (bytes_out old new put r went)

-- a whole unit in front
pub first_unit : (vr : Vr) (value first others : List ℕ) (n : ℕ) → n ≡ shown_unit vr → n ≤ length value → first ≡ take n value → others ≡ drop n value
    → units (shown_unit vr) value ≡ first ∷ units (shown_unit vr) others
first_unit vr value first others n e within f o =
    ap (units (shown_unit vr)) (sym (take-append-drop n value) ∙ ap (λ (x : List ℕ). x ++ drop n value) (sym f) ∙ ap (λ (x : List ℕ). first ++ x) (sym o))
    ∙ units_cons (shown_unit vr) (shown_some vr) first others (ap length f ∙ length-take-le n value within ∙ e)

pub no_unit : (vr : Vr) (value : List ℕ) → length value < shown_unit vr → units (shown_unit vr) value ≡ []
no_unit vr value h = units_none (shown_unit vr) (shown_some vr) value h

pub next_unit : (vr : Vr) (value first others : List ℕ) (n : ℕ) → n ≡ shown_unit vr → n ≤ length value → first ≡ take n value → others ≡ drop n value
    → next_units_parts vr (units (shown_unit vr) value) ≡ next_unit_parts vr first ++ next_units_parts vr (units (shown_unit vr) others)
next_unit vr value first others n e within f o = ap (next_units_parts vr) (first_unit vr value first others n e within f o)

pub no_next_unit : (vr : Vr) (value : List ℕ) → length value < shown_unit vr → next_units_parts vr (units (shown_unit vr) value) ≡ []
no_next_unit vr value h = ap (next_units_parts vr) (no_unit vr value h)

joined_parts : (vr : Vr) (value first others : List ℕ) (n : ℕ) → n ≡ shown_unit vr → n ≤ length value → first ≡ take n value → others ≡ drop n value
    → joined vr (units (shown_unit vr) value) ≡ (unit_part vr first ∷ []) ++ next_units_parts vr (units (shown_unit vr) others)
joined_parts vr value first others n e within f o = ap (joined vr) (first_unit vr value first others n e within f o)

pub joined_failed : {T E : Type 0} (vr : Vr) (value first others : List ℕ) (n : ℕ) → n ≡ shown_unit vr → n ≤ length value → first ≡ take n value → others ≡ drop n value
    → (old new : Option (List ℕ)) (r : Result T E) → IsErr r → AppendsFrontOfParts old new (unit_part vr first ∷ []) → Out old new (joined vr (units (shown_unit vr) value)) r
joined_failed {T} {E} vr value first others n e within f o old new r failed h =
    subst (λ (x : List Part). Out {T = T} {E = E} old new x r) (sym (joined_parts vr value first others n e within f o))
    (out_failed old new (unit_part vr first ∷ []) (next_units_parts vr (units (shown_unit vr) others)) r failed h)

pub joined_went : {T E : Type 0} (vr : Vr) (value first others : List ℕ) (n : ℕ) → n ≡ shown_unit vr → n ≤ length value → first ≡ take n value → others ≡ drop n value
    → (old mid new : Option (List ℕ)) (r : Result T E) → AppendsParts old mid (unit_part vr first ∷ []) → Out mid new (next_units_parts vr (units (shown_unit vr) others)) r → Out old new (joined vr (units (shown_unit vr) value)) r
joined_went {T} {E} vr value first others n e within f o old mid new r a b =
    subst (λ (x : List Part). Out {T = T} {E = E} old new x r) (sym (joined_parts vr value first others n e within f o))
    (out_then old mid new (unit_part vr first ∷ []) (next_units_parts vr (units (shown_unit vr) others)) r a b)
