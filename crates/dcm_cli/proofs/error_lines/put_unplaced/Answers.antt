use Rattle.std.proofs.Common.{rules, ◌≡◌, ◌∙◌, append_assoc, sym, subst, [], ◌∷◌, Bool, true, codes}
use Rattle.std.specs.Prelude.{decimal}
use Rattle.dcm_devices.specs.Device.{Puts}
use Rattle.dcm_cli.specs.ErrorLines.{line_where}
use Rattle.dcm_cli.proofs.error_lines.put_unplaced.Goals as goal

pub returns : goal.returns
returns g c =
    let digits : c.as_bytes.result.now ≡ decimal c.args.number = c.as_bytes.ensures.value ∙ c.format.ensures.text in
    let put : Puts (g.E.DeviceOut.contents c.args.errors.now) (g.E.DeviceOut.contents c.put_line.new.errors) (line_where true c.args.number) c.put_line.result =
    rw (append_assoc (decimal c.args.number) (codes " found no place") (10 ∷ []))
    (rw (c.as_slice.ensures, digits, c.as_slice-2.ensures) at c.put_line.ensures.bytes)
    in
    record {
      bytes = subst (λ (bit : Bool). Puts (g.E.DeviceOut.contents c.args.errors.now) (g.E.DeviceOut.contents c.put_line.new.errors) (line_where bit c.args.number) c.put_line.result) (sym c.if-not-is_unplaced.false) put;
      failed = search rules;
    }
