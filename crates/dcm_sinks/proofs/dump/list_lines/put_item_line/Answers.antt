use Rattle.std.proofs.Common.{rules, subst, List, ℕ}
use Rattle.dcm_devices.specs.Device.{Puts}
use Rattle.dcm_sinks.proofs.Dumps.WrittenLines.{item_written}
use Rattle.dcm_sinks.proofs.dump.list_lines.put_item_line.Goals as goal

pub returns : goal.returns
returns g c =
    let a = c.args in
    record {
      bytes = subst (λ (bytes : List ℕ). Puts (g.W.DeviceOut.contents a.out.now) (g.W.DeviceOut.contents c.put_written.new.out) bytes c.put_written.result)
          (item_written a.dictionary a.level a.declared c.in-Some.written.now c.in-Some.ensures.text c.if-level-le-WRITTEN_LEVEL.true)
          c.put_written.ensures.bytes;
      failed = search rules;
    }
