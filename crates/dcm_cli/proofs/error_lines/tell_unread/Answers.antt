use Rattle.std.proofs.Common.{◌≡◌, append_assoc, ◌∙◌, [], ◌∷◌, codes}
use Rattle.std.specs.Prelude.{decimal}
use Rattle.dcm_cli.proofs.error_lines.tell_unread.Goals as goal

pub returns : goal.returns
returns g c =
    let digits : c.as_bytes.result.now ≡ decimal c.args.read = c.as_bytes.ensures.value ∙ c.format.ensures.text in
    rw (append_assoc (decimal c.args.read) (codes " bytes") (10 ∷ []))
    (rw (c.as_slice.ensures, c.as_slice-2.ensures, digits, c.as_slice-3.ensures, c.as_slice-4.ensures) at c.tell_line.ensures)
