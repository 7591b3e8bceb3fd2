use Rattle.std.proofs.Common.{◌∙◌, ◌+◌, ◌-◌, ap, sym, subst, arith, take}
use Rattle.dcm_head.specs.MetaReading.{Reading}
use Rattle.dcm_head.specs.MetaRuns.{Idle}
use Rattle.dcm_head.proofs.HeadReading.Runs.{runs_to_prefix, runs_to_last, fills}
use Rattle.dcm_head.proofs.meta.Meta.idle.Goals as goal

pub returns-then-held-lt-GROUP_AT-clause-idle : goal.returns-then-held-lt-GROUP_AT-clause-idle
returns-then-held-lt-GROUP_AT-clause-idle c =
    let going = ap (λ (r : Reading). r.end) c.self.view_is ∙ c.requires.going in
    let least = c.min.ensures in
    let held = c.len-held.ensures.value in
    let few = c.if-held-lt-GROUP_AT.true in
    subst (λ (r : Reading). Idle r (take c.min.result c.args.rest.now)) c.self.view_is
    (runs_to_prefix _ c.args.rest.now c.min.result c.self.invariant going (omega arith) (omega arith))

pub overflow_add-result : goal.overflow_add-result
overflow_add-result c =
    let f = fills (c.self.inside.place - 132) c.args.rest.now _ _ _ _ c.in-Element.ensures in
    let fits = f.fits in
    omega arith

pub overflow_sub-result : goal.overflow_sub-result
overflow_sub-result c =
    let f = fills (c.self.inside.place - 132) c.args.rest.now _ _ _ _ c.in-Element.ensures in
    let some = f.some in
    omega arith

pub returns-in-Element-clause-within : goal.returns-in-Element-clause-within
returns-in-Element-clause-within c =
    let f = fills (c.self.inside.place - 132) c.args.rest.now _ _ _ _ c.in-Element.ensures in
    let whole = f.whole in
    omega arith

pub returns-in-Element-clause-idle : goal.returns-in-Element-clause-idle
returns-in-Element-clause-idle c =
    let going = ap (λ (r : Reading). r.end) c.self.view_is ∙ c.requires.going in
    subst (λ (r : Reading). Idle r (take (c.in-Element.head + c.in-Element.size - 1) c.args.rest.now)) c.self.view_is
    (runs_to_last _ c.args.rest.now _ _ _ _ c.self.invariant going (sym c.len-held.ensures.value ∙ c.if-held-self.false) c.in-Element.ensures)
