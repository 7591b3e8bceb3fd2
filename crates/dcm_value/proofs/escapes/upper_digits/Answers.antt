use Rattle.std.proofs.Common.{◌≡◌, ◌<◌, ◌/◌, ◌%◌, ◌∙◌, ◌∷◌, [], List, ℕ, zero, suc, ap, arith, refl, get_or}
use Rattle.std.specs.Char.{to_ascii_uppercase}
use Rattle.hex.specs.Hex.{encode_lower}
use Rattle.dcm_base.specs.Dump.ValueText.{hex_byte, upper}
use Rattle.dcm_base.specs.Tables.Number.{AreBytes}
use Rattle.dcm_base.proofs.Writes.HexDigits.{same_digits, written_out}
use Rattle.dcm_value.proofs.Displays.UpperDigits.{upper_digit}
use Rattle.dcm_value.proofs.escapes.upper_digits.Goals as goal

pub returns : goal.returns
returns c =
    let b : ℕ = c.args.byte in
    let out : List ℕ = c.encode_to_slice.new.output in
    let one : AreBytes (b ∷ []) = one_byte b (omega arith) in
    let is : out ≡ hex_byte b = written_out c.encode_to_slice.result out (encode_lower (b ∷ [])) (c.encode_to_slice.ensures.fits.1 refl) c.encode_to_slice.ensures.written ∙ same_digits (b ∷ []) one in
    let high = c.to_ascii_uppercase.ensures.value ∙ ap (λ ds. to_ascii_uppercase (get_or ds 0 0)) is ∙ upper_digit (b / 16) (omega arith) in
    let low = c.to_ascii_uppercase-2.ensures.value ∙ ap (λ ds. to_ascii_uppercase (get_or ds 1 0)) is ∙ upper_digit (b % 16) (omega arith) in
    ap (λ d. d ∷ c.to_ascii_uppercase-2.result ∷ []) high ∙ ap (λ d. upper (b / 16) ∷ d ∷ []) low
  where
    one_byte : (b : ℕ) → b < 256 → AreBytes (b ∷ [])
    one_byte b l zero = l
    one_byte b l (suc i) = omega arith
