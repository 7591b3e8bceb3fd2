use Rattle.std.proofs.Common.{◌∙◌}
use Rattle.dcm_edits.proofs.Trees.FirstOnes.{front}
use Rattle.dcm_edits.proofs.Words.Steps.{one_step}
use Rattle.dcm_edits.proofs.making.steps_of.Goals as goal

pub loop-rest-preserved-in_ok-push : goal.loop-rest-preserved-in_ok-push
loop-rest-preserved-in_ok-push g c =
    let whole = front c.loop-rest.rest.now _ c.in-len1-up.len_at_least in
    λ edit. one_step c.loop-rest.steps.items c.push.new.self.items _ _ _ _ whole c.in-Some.is c.in_ok-push.ensures.items edit ∙ c.loop-rest.invariant edit
