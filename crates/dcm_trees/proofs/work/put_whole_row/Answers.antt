use Rattle.std.proofs.Common.{rules, Ok, Err}
use Rattle.dcm_trees.proofs.Rows.{row_failed, row_went}
use Rattle.dcm_trees.proofs.work.put_whole_row.Goals as goal

pub returns-in_err-put_row : goal.returns-in_err-put_row
returns-in_err-put_row g c = row_failed (record { has_failed = g.W.Device.has_failed; contents = g.W.DeviceOut.contents; room = g.W.DeviceOut.room; is_flushed = g.W.DeviceOut.is_flushed }) _ _ _ (Err c.in_err-put_row.field-0.0) _ (search rules) c.in_err-put_row.ensures c.from_residual.ensures.0

pub returns : goal.returns
returns g c = row_went (record { has_failed = g.W.Device.has_failed; contents = g.W.DeviceOut.contents; room = g.W.DeviceOut.room; is_flushed = g.W.DeviceOut.is_flushed }) _ _ _ _ (Ok c.in_ok-put_row.field-0) _ (search rules) c.in_ok-put_row.ensures c.flush_out.ensures.bytes c.flush_out.ensures.flushed c.flush_out.ensures.room c.flush_out.ensures.failed
