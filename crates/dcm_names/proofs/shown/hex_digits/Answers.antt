use Rattle.std.proofs.Common.{◌<◌, ◌∙◌, ◌∷◌, [], ℕ, zero, suc, arith, refl}
use Rattle.hex.specs.Hex.{encode_lower}
use Rattle.dcm_base.specs.Tables.Number.{AreBytes}
use Rattle.dcm_base.proofs.Writes.HexDigits.{same_digits, written_out}
use Rattle.dcm_names.proofs.shown.hex_digits.Goals as goal

pub returns : goal.returns
returns c =
    let b : ℕ = c.args.byte in
    written_out c.encode_to_slice.result c.encode_to_slice.new.output (encode_lower (b ∷ [])) (c.encode_to_slice.ensures.fits.1 refl) c.encode_to_slice.ensures.written
    ∙ same_digits (b ∷ []) (one_byte b (omega arith))
  where
    one_byte : (b : ℕ) → b < 256 → AreBytes (b ∷ [])
    one_byte b l zero = l
    one_byte b l (suc i) = omega arith
