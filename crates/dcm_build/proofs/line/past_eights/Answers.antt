use Rattle.std.proofs.Common.{◌∙◌, rules}
use Rattle.dcm_build.proofs.Lines.Eights.{eight_passed}
use Rattle.dcm_build.proofs.line.past_eights.Goals as goal

pub loop-front-preserved : goal.loop-front-preserved
loop-front-preserved c =
    let cases = c.in-Some.ensures.cases in
    c.loop-front.invariant ∙ eight_passed 8 c.loop-front.rest.now c.in-Some.front.now c.in-Some.after.now cases.0 cases.1 (search (rules, c.are_spaces.ensures, c.if-not-are_spaces.false))
