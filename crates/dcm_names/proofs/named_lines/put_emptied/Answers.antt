use Rattle.std.proofs.Common.{ℕ, List, subst}
use Rattle.dcm_devices.specs.Device.{Puts}
use Rattle.dcm_names.proofs.Emptied.{some_emptied}
use Rattle.dcm_names.proofs.named_lines.put_emptied.Goals as goal

pub returns : goal.returns
returns g c = record {
  bytes = subst (λ (line : List ℕ). Puts (g.E.DeviceOut.contents c.args.errors.now) (g.E.DeviceOut.contents c.put_some_emptied.new.errors) line c.put_some_emptied.result) (some_emptied c.args.name.now c.args.count c.if-count-eq0.false)
      c.put_some_emptied.ensures.bytes;
  failed = c.put_some_emptied.ensures.failed;
}
