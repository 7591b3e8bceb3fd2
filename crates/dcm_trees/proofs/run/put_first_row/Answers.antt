use Rattle.std.proofs.Common.{rules, Ok, Err}
use Rattle.dcm_trees.proofs.Rows.{row_failed, row_went}
use Rattle.dcm_trees.specs.Run as spec
use Rattle.dcm_trees.proofs.run.put_first_row.Goals as goal

pub returns-in_err-put_header : goal.returns-in_err-put_header
returns-in_err-put_header g c = spec.with_header c.if-not-has_header.false (row_failed (record { has_failed = g.W.Device.has_failed; contents = g.W.DeviceOut.contents; room = g.W.DeviceOut.room; is_flushed = g.W.DeviceOut.is_flushed }) _ _ _ (Err c.in_err-put_header.field-0.0) _ (search rules) c.in_err-put_header.ensures c.from_residual.ensures.0)

pub returns : goal.returns
returns g c = spec.with_header c.if-not-has_header.false (row_went (record { has_failed = g.W.Device.has_failed; contents = g.W.DeviceOut.contents; room = g.W.DeviceOut.room; is_flushed = g.W.DeviceOut.is_flushed }) _ _ _ _ (Ok c.in_ok-put_header.field-0) _ (search rules) c.in_ok-put_header.ensures c.flush_out.ensures.bytes c.flush_out.ensures.flushed c.flush_out.ensures.room c.flush_out.ensures.failed)
