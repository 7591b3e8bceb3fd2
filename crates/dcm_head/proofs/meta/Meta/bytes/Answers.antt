use Rattle.std.proofs.Common.{◌≤◌, ◌∙◌, ◌-◌, sym, ap, subst, arith, length, drop, length-drop}
use Rattle.std.proofs.lemmas.List.{length-take-le}
use Rattle.dcm_head.specs.MetaReading.{Reading, HasEnded}
use Rattle.dcm_head.proofs.HeadReading.GoesOn.{ended_whole}
use Rattle.dcm_head.proofs.meta.Meta.bytes.Goals as goal

pub returns-clause-place : goal.returns-clause-place
returns-clause-place c =
    let whole = ended_whole _ c.self.invariant (subst (λ (r : Reading). HasEnded r.end) (sym c.self.view_is) c.requires) in
    let low = c.self.invariant.low in
    let bytes = ap length c.as_slice.ensures.value in
    let behind = length-drop 132 c.as_slice.result.now in
    let within : c.self.inside.place - 132 ≤ length (drop 132 c.as_slice.result.now) = omega arith in
    let size = ap length c.part.ensures ∙ length-take-le (c.self.inside.place - 132) (drop 132 c.as_slice.result.now) within in
    let place = ap (λ (r : Reading). r.place) c.self.view_is in
    omega arith
