use Rattle.std.proofs.Common.{ap, subst, List, ℕ, Option}
use Rattle.dcm_devices.specs.Device.{Puts}
use Rattle.dcm_text.specs.declared.set.TextKind.{TextKind}
use Rattle.dcm_table.specs.Quoted.{quoted}
use Rattle.dcm_table.specs.Row.{text_by}
use Rattle.dcm_table.proofs.row.put_text.Goals as goal

pub returns-in-Some : goal.returns-in-Some
returns-in-Some g c = record {
  bytes = subst (λ (x : List ℕ). Puts (g.W.DeviceOut.contents c.args.out.now) (g.W.DeviceOut.contents c.put_decoded.new.out) (quoted x) c.put_decoded.result)
      (ap (λ (k : Option TextKind). text_by k c.args.form c.args.sets c.args.text.now) c.in-Some.ensures) c.put_decoded.ensures.bytes;
  failed = c.put_decoded.ensures.failed;
}

pub returns-in-None : goal.returns-in-None
returns-in-None g c = record {
  bytes = subst (λ (x : List ℕ). Puts (g.W.DeviceOut.contents c.args.out.now) (g.W.DeviceOut.contents c.put_quoted.new.out) (quoted x) c.put_quoted.result)
      (ap (λ (k : Option TextKind). text_by k c.args.form c.args.sets c.args.text.now) c.in-None.ensures) c.put_quoted.ensures.bytes;
  failed = c.put_quoted.ensures.failed;
}
