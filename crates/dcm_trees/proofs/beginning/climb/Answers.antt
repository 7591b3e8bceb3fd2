use Rattle.std.proofs.Common.{rules, refl, sym, subst, ◌∙◌, List, ℕ, Ok, Err}
use Rattle.dcm_trees.proofs.Ends.{too_long, short_enough}
use Rattle.dcm_trees.specs.Beginning as spec
use Rattle.dcm_trees.proofs.beginning.climb.Goals as goal

pub returns-in_err-first : goal.returns-in_err-first
returns-in_err-first g c = spec.not_begun _ c.in_err-first.ensures (search rules)

pub returns-in_default : goal.returns-in_default
returns-in_default g c = spec.too_long c.in_ok-first.first c.in_ok-first.ensures (too_long c.args.path.now c.in_default.ensures) refl

pub loop-other-init : goal.loop-other-init
loop-other-init g c = let short = short_enough c.args.path.now c.in-Some.way.items c.in-Some.ensures in
    spec.itself c.in_ok-first.ensures short.0 short.1 refl c.is_same-has_other.ensures

pub returns-in_err-above : goal.returns-in_err-above
returns-in_err-above g c = spec.not_seen c.loop-other.way.items c.in_ok-first.first c.loop-other.last c.loop-other.has_other (c.in_err-above.field-0.0) c.loop-other.system c.loop-other.invariant (sym c.go_up.ensures.value ∙ c.loop-other-test.true)
    (subst (λ (path : List ℕ). spec.Numbers g.S.Folders.folders_do path c.loop-other.system (Err c.in_err-above.field-0.0) c.number_at-in-loop-other.new.system) (c.as_slice.ensures.value ∙ c.go_up.ensures.items c.loop-other-test.true) c.in_err-above.ensures) (search rules)

pub returns-then-is_same : goal.returns-then-is_same
returns-then-is_same g c = spec.to_the_top c.loop-other.way.items c.in_ok-first.first c.loop-other.last c.in_ok-above.above c.loop-other.has_other c.loop-other.system c.loop-other.invariant (sym c.go_up.ensures.value ∙ c.loop-other-test.true)
    (subst (λ (path : List ℕ). spec.Numbers g.S.Folders.folders_do path c.loop-other.system (Ok c.in_ok-above.above) c.number_at-in-loop-other.new.system) (c.as_slice.ensures.value ∙ c.go_up.ensures.items c.loop-other-test.true) c.in_ok-above.ensures) (sym c.is_same.ensures ∙ c.if-is_same.true) refl

pub loop-other-preserved : goal.loop-other-preserved
loop-other-preserved g c = spec.and_above c.loop-other.way.items c.loop-other.last c.loop-other.has_other c.loop-other.system c.loop-other.invariant (sym c.go_up.ensures.value ∙ c.loop-other-test.true)
    (subst (λ (path : List ℕ). spec.Numbers g.S.Folders.folders_do path c.loop-other.system (Ok c.in_ok-above.above) c.number_at-in-loop-other.new.system) (c.as_slice.ensures.value ∙ c.go_up.ensures.items c.loop-other-test.true) c.in_ok-above.ensures) (sym c.is_same.ensures ∙ c.if-is_same.false) (c.go_up.ensures.items c.loop-other-test.true) c.or_same-has_other.ensures

pub returns : goal.returns
returns g c = spec.too_deep c.loop-other.way.items c.in_ok-first.first c.loop-other.last c.loop-other.has_other c.loop-other.invariant (sym c.go_up.ensures.value ∙ c.loop-other-test.false) refl
