use Rattle.std.proofs.Common.{rules, ◌∙◌, ap, subst, List, ℕ, ◌*◌, ◌-◌, drop}
use Rattle.dcm_devices.specs.Device.{Puts}
use Rattle.dcm_sinks.proofs.Dumps.WrittenLines.{sequence_end_written}
use Rattle.dcm_sinks.proofs.dump.list_lines.put_sequence_end_line.Goals as goal

pub returns-then-level-le-WRITTEN_LEVEL : goal.returns-then-level-le-WRITTEN_LEVEL
returns-then-level-le-WRITTEN_LEVEL g c =
    let a = c.args in
    record {
      bytes = subst (λ (bytes : List ℕ). Puts (g.W.DeviceOut.contents a.out.now) (g.W.DeviceOut.contents c.put_written.new.out) bytes c.put_written.result)
          (ap (drop (2 * (16 - a.level))) c.written_sequence_end.ensures.text ∙ sequence_end_written a.dictionary a.level a.declared c.if-level-le-WRITTEN_LEVEL.true)
          c.put_written.ensures.bytes;
      failed = search rules;
    }
