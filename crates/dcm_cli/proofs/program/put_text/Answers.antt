use Rattle.std.proofs.Common.{◌∙◌, ap, sym, subst}
use Rattle.std.specs.Io.KnownBytes.{append_known}
use Rattle.dcm_devices.specs.Device.{AppendsFront, Puts, Tells}
use Rattle.dcm_cli.specs.declared.ending.Ending.{Ending}
use Rattle.dcm_cli.specs.Run.{FlushedAs, IsWritten}
use Rattle.dcm_cli.proofs.Runs.Texts.{whole, part}
use Rattle.dcm_cli.proofs.program.put_text.Goals as goal
use Rattle.dcm_cli.proofs.program.put_text.Goals.{in-Ok, in-Err}

pub returns-clause-put : goal.returns-clause-put
returns-clause-put g c =
    elim c.match-put_all.branch [
      | in-Ok w ↦ whole c.args.text.now _ _ c.tell_ending.result c.flushed-ending.result c.tell_ending.ensures.lines c.tell_ending.ensures.status
          (g.W.DeviceOut.contents c.put_all.new.out) (g.W.Device.has_failed c.put_all.new.out)
          (subst (λ r. Puts (g.W.DeviceOut.contents c.args.out.now) (g.W.DeviceOut.contents c.put_all.new.out) c.as_bytes.result.now r) w.in-Ok.is c.put_all.ensures.wrote.bytes
          ∙ ap (append_known (g.W.DeviceOut.contents c.args.out.now)) c.as_bytes.ensures.value)
          (subst (λ r. Tells (g.W.Device.has_failed c.args.out.now) (g.W.Device.has_failed c.put_all.new.out) r) w.in-Ok.is c.put_all.ensures.wrote.failed)
          c.flushed-ending.ensures.contents
          (subst (λ (x : Ending). FlushedAs x c.flushed-ending.result (g.W.Device.has_failed c.put_all.new.out) (g.W.Device.has_failed c.flushed-ending.new.out) (g.W.DeviceOut.room c.flushed-ending.new.out)) w.ending-is c.flushed-ending.ensures.flushed)
          (λ well. c.flushed-ending.ensures.drained (subst IsWritten (sym w.ending-is) tt) well)
      | in-Err w ↦ part c.args.text.now _ _ c.tell_ending.result c.flushed-ending.result c.tell_ending.ensures.lines c.tell_ending.ensures.status
          (g.W.DeviceOut.contents c.put_all.new.out) (g.W.Device.has_failed c.put_all.new.out)
          (subst (AppendsFront (g.W.DeviceOut.contents c.args.out.now) (g.W.DeviceOut.contents c.put_all.new.out)) c.as_bytes.ensures.value
          (subst (λ r. Puts (g.W.DeviceOut.contents c.args.out.now) (g.W.DeviceOut.contents c.put_all.new.out) c.as_bytes.result.now r) w.in-Err.is c.put_all.ensures.wrote.bytes))
          (subst (λ r. Tells (g.W.Device.has_failed c.args.out.now) (g.W.Device.has_failed c.put_all.new.out) r) w.in-Err.is c.put_all.ensures.wrote.failed)
          c.flushed-ending.ensures.contents
          (subst (λ (x : Ending). FlushedAs x c.flushed-ending.result (g.W.Device.has_failed c.put_all.new.out) (g.W.Device.has_failed c.flushed-ending.new.out) (g.W.DeviceOut.room c.flushed-ending.new.out)) w.ending-is c.flushed-ending.ensures.flushed)
    ]
