use Rattle.std.proofs.Common.{sym}
use Rattle.dcm_build.proofs.Lines.Parentheses.{past_one, at_closing}
use Rattle.dcm_build.proofs.line.parenthesis_end.Goals as goal

pub returns-then-is_closed-clause-cut : goal.returns-then-is_closed-clause-cut
returns-then-is_closed-clause-cut c = at_closing c.args.bytes.now c.loop-i.i c.loop-i-test.true c.loop-i.invariant (sym c.if-is_closed.ensures)

pub loop-i-preserved : goal.loop-i-preserved
loop-i-preserved c = past_one c.args.bytes.now c.loop-i.i c.loop-i-test.true c.loop-i.invariant (sym c.if-is_closed.ensures)
