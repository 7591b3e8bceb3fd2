use Rattle.dcm_cli.proofs.Passes.Readers.{members}
use Rattle.dcm_instance.proofs.Readings.{ends_by, failed_by}
use Rattle.dcm_instance.proofs.same.has_ended.Goals as goal

pub returns-in-Ok : goal.returns-in-Ok
returns-in-Ok g c =
    ends_by (members g.R.Device g.R.DeviceIn) c.args.input.now c.get_some.new.input c.get_some.new.buf c.in-Ok.size c.in-Ok.ensures.bound c.in-Ok.ensures.bytes c.in-Ok.ensures.end c.in-Ok.ensures.gives c.in-Ok.ensures.failed

pub returns-in-Err : goal.returns-in-Err
returns-in-Err g c =
    failed_by (members g.R.Device g.R.DeviceIn) c.args.input.now c.get_some.new.input c.in-Err.ensures.err c.in-Err.ensures.gives c.in-Err.ensures.failed
