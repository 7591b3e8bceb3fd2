use Rattle.std.proofs.Common.{subst, refl}
use Rattle.std.specs.Prelude.{◌≡◌, true, OnOk}
use Rattle.dcm_devices.specs.Device.{Tells, KeepsRoom}
use Rattle.dcm_tables.specs.TableProgram.{flushed, not_flushed}
use Rattle.dcm_cli.proofs.Passes.Readers.{writer}
use Rattle.dcm_cli.proofs.Runs.Obeying.{nothing_told}
use Rattle.dcm_tables.proofs.program.flush_table.Goals as goal

pub returns-in-Ok-clause-flushes : goal.returns-in-Ok-clause-flushes
returns-in-Ok-clause-flushes g c =
    flushed c.flush_out.ensures.bytes
    (subst (λ r. Tells (g.W.Device.has_failed c.args.out.now) (g.W.Device.has_failed c.flush_out.new.out) r) c.in-Ok.is c.flush_out.ensures.failed)
    (subst (λ r. OnOk r (g.W.DeviceOut.is_flushed c.flush_out.new.out ≡ true)) c.in-Ok.is c.flush_out.ensures.flushed)
    (nothing_told (writer g.E.Device g.E.DeviceOut) c.args.errors.now) refl

pub returns-in-Err-clause-flushes : goal.returns-in-Err-clause-flushes
returns-in-Err-clause-flushes g c =
    not_flushed c.flush_out.ensures.bytes
    (subst (λ r. Tells (g.W.Device.has_failed c.args.out.now) (g.W.Device.has_failed c.flush_out.new.out) r) c.in-Err.is c.flush_out.ensures.failed)
    (subst (λ r. KeepsRoom (g.W.DeviceOut.room c.args.out.now) (g.W.DeviceOut.room c.flush_out.new.out) r) c.in-Err.is c.flush_out.ensures.room).1
    c.tell_output.ensures refl
