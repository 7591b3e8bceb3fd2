use Rattle.std.proofs.Common.{◌≡◌, ◌∙◌, ◌*◌, length, ap, sym, arith}
use Rattle.hex.specs.Hex.{encode_lower}
use Rattle.dcm_base.proofs.Writes.HexDigits.{word_digits, written_out}
use Rattle.dcm_base.proofs.tag.hex_word.Goals as goal

pub returns : goal.returns
returns c =
    let fits : 4 ≡ 2 * length c.to_be_bytes.result = ap (λ bytes. 2 * length bytes) (sym c.to_be_bytes.ensures) in
    written_out c.encode_to_slice.result c.encode_to_slice.new.output (encode_lower c.to_be_bytes.result) (c.encode_to_slice.ensures.fits.1 fits) c.encode_to_slice.ensures.written
    ∙ ap encode_lower c.to_be_bytes.ensures
    ∙ word_digits c.args.number (omega arith)
