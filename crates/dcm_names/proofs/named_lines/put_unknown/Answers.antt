use Rattle.std.proofs.Common.{sym, subst, Bool}
use Rattle.dcm_devices.specs.Device.{Puts}
use Rattle.dcm_names.specs.NamedLines.{unknown_lines}
use Rattle.dcm_names.proofs.named_lines.put_unknown.Goals as goal

pub returns : goal.returns
returns g c = record {
  bytes = subst (λ (unknown : Bool). Puts (g.E.DeviceOut.contents c.args.errors.now) (g.E.DeviceOut.contents c.put_unknown_set.new.errors) (unknown_lines c.args.name.now unknown) c.put_unknown_set.result) (sym c.if-not-unknown.false) c.put_unknown_set.ensures.bytes;
  failed = c.put_unknown_set.ensures.failed;
}
