use Rattle.std.proofs.Common.{◌∙◌, ◌<◌, length, ap, subst}
use Rattle.dcm_head.specs.MetaReading.{Reading}
use Rattle.dcm_head.proofs.HeadReading.GoesOn.{room}
use Rattle.dcm_head.proofs.meta.Meta.end.Goals as goal

pub returns-clause-room : goal.returns-clause-room
returns-clause-room c = λ none.
    subst (λ (r : Reading). length r.bytes < 16528) c.self.view_is (room _ c.self.invariant (ap (λ (r : Reading). r.end) c.self.view_is ∙ none))
