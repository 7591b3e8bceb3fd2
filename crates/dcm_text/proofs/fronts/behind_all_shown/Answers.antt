use Rattle.dcm_text.proofs.Ahead.{many_more}
use Rattle.dcm_text.proofs.fronts.behind_all_shown.Goals as goal

pub loop-after-preserved : goal.loop-after-preserved
loop-after-preserved c = λ after more.
    c.loop-after.invariant after (many_more c.loop-after.rest.now c.in-Some.after.now after c.in-Some.ensures.behind more)
