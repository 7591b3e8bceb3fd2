use Rattle.dcm_table.proofs.EachSlot.{reported_short, reported_again, reported_first}
use Rattle.dcm_table.proofs.cells.reported_after.Goals as goal

pub returns-then-not-is_too_long : goal.returns-then-not-is_too_long
returns-then-not-is_too_long c = reported_short c.args.before.now c.args.slot.now c.if-not-is_too_long.ensures

pub returns-then-has_tag : goal.returns-then-has_tag
returns-then-has_tag c = reported_again c.args.before.now c.args.slot.now c.if-not-is_too_long.ensures c.if-has_tag.ensures

pub returns : goal.returns
returns c = reported_first c.args.before.now c.args.slot.now c.if-not-is_too_long.ensures c.if-has_tag.ensures
