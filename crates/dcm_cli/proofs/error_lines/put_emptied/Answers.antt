use Rattle.std.proofs.Common.{rules, ◌≡◌, ◌∙◌, append_assoc, subst, ℕ, List, [], ◌∷◌, codes}
use Rattle.std.specs.Prelude.{decimal}
use Rattle.dcm_devices.specs.Device.{Puts}
use Rattle.dcm_cli.specs.ErrorLines.{emptied_line, emptied_lines}
use Rattle.dcm_cli.proofs.Lines.OneAfterAnother.{some_emptied}
use Rattle.dcm_cli.proofs.error_lines.put_emptied.Goals as goal

pub returns : goal.returns
returns g c =
    let digits : c.as_bytes.result.now ≡ decimal c.args.count = c.as_bytes.ensures.value ∙ c.format.ensures.text in
    let put : Puts (g.E.DeviceOut.contents c.args.errors.now) (g.E.DeviceOut.contents c.put_line.new.errors) (emptied_line c.args.count) c.put_line.result =
    rw (append_assoc (decimal c.args.count) (codes " dates are emptied") (10 ∷ []))
    (rw (c.as_slice.ensures, digits, c.as_slice-2.ensures) at c.put_line.ensures.bytes)
    in
    record {
      bytes = subst (λ (bs : List ℕ). Puts (g.E.DeviceOut.contents c.args.errors.now) (g.E.DeviceOut.contents c.put_line.new.errors) bs c.put_line.result) (some_emptied c.args.count c.if-count-eq0.false) put;
      failed = search rules;
    }
