use Rattle.std.proofs.Common.{sym}
use Rattle.dcm_cli.specs.Remarks.{remarks_told}
use Rattle.dcm_cli.specs.Run.{ending_lines}
use Rattle.dcm_cli.proofs.Lines.OneAfterAnother.{both_tried, first_fails}
use Rattle.dcm_cli.proofs.run.tell_ended.Goals as goal

pub returns-then-is_err-clause-lines : goal.returns-then-is_err-clause-lines
returns-then-is_err-clause-lines g c =
    let e = c.args.ended in
    first_fails (g.E.DeviceOut.contents c.args.errors.now) (g.E.DeviceOut.contents c.put_remarks.new.errors) (g.E.Device.has_failed c.args.errors.now) (g.E.Device.has_failed c.put_remarks.new.errors)
    (remarks_told e.ending e.remarks) (ending_lines e.ending) c.put_remarks.result (sym c.if-is_err.ensures.value) c.put_remarks.ensures.bytes c.put_remarks.ensures.failed

pub returns-clause-lines : goal.returns-clause-lines
returns-clause-lines g c =
    let e = c.args.ended in
    both_tried (g.E.DeviceOut.contents c.args.errors.now) (g.E.DeviceOut.contents c.put_remarks.new.errors) (g.E.DeviceOut.contents c.tell_ending.new.errors)
    (g.E.Device.has_failed c.args.errors.now) (g.E.Device.has_failed c.put_remarks.new.errors) (g.E.Device.has_failed c.tell_ending.new.errors)
    (remarks_told e.ending e.remarks) (ending_lines e.ending) c.put_remarks.result (sym c.if-is_err.ensures.value) c.put_remarks.ensures.bytes c.put_remarks.ensures.failed c.tell_ending.ensures.lines
