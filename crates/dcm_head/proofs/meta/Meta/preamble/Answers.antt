use Rattle.std.proofs.Common.{◌≤◌, ◌∙◌, sym, ap, subst, arith, length}
use Rattle.std.proofs.lemmas.List.{length-take-le}
use Rattle.dcm_head.specs.MetaReading.{Reading, HasEnded}
use Rattle.dcm_head.proofs.HeadReading.GoesOn.{ended_whole}
use Rattle.dcm_head.proofs.meta.Meta.preamble.Goals as goal

pub returns-clause-size : goal.returns-clause-size
returns-clause-size c =
    let whole = ended_whole _ c.self.invariant (subst (λ (r : Reading). HasEnded r.end) (sym c.self.view_is) c.requires) in
    let low = c.self.invariant.low in
    let same = ap length c.as_slice.ensures.value in
    let long : 128 ≤ length c.as_slice.result.now = omega arith in
    ap length c.part.ensures ∙ length-take-le 128 c.as_slice.result.now long
