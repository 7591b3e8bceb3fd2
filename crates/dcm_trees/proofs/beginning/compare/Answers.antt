use Rattle.std.proofs.Common.{rules, refl, sym, ◌∙◌}
use Rattle.dcm_trees.specs.Beginning as spec
use Rattle.dcm_trees.proofs.beginning.compare.Goals as goal

pub returns-in_err-read : goal.returns-in_err-read
returns-in_err-read g c = spec.not_numbered _ c.in_err-read.ensures (search rules)

pub returns-in_err-way : goal.returns-in_err-way
returns-in_err-way g c = spec.not_climbed c.in_ok-read.read _ c.number_at.new.system c.in_ok-read.ensures c.in_err-way.ensures (search rules)

pub returns-in-Some : goal.returns-in-Some
returns-in-Some g c = spec.clashed c.in_ok-read.read c.in_ok-way.way c.in-Some.refusal c.number_at.new.system c.in_ok-read.ensures c.in_ok-way.ensures (sym c.clash.ensures ∙ c.in-Some.is) refl

pub returns-in_err-back : goal.returns-in_err-back
returns-in_err-back g c = spec.not_back c.in_ok-read.read c.in_ok-way.way _ c.number_at.new.system c.climb.new.system c.in_ok-read.ensures c.in_ok-way.ensures (sym c.clash.ensures ∙ c.in_default.is) c.in_err-back.ensures (search rules)

pub returns-then-back : goal.returns-then-back
returns-then-back g c = spec.within c.in_ok-read.read c.in_ok-way.way c.in_ok-back.back c.number_at.new.system c.climb.new.system c.in_ok-read.ensures c.in_ok-way.ensures (sym c.clash.ensures ∙ c.in_default.is) c.in_ok-back.ensures c.if-back.true refl

pub returns : goal.returns
returns g c = spec.apart c.in_ok-read.read c.in_ok-way.way c.in_ok-back.back c.number_at.new.system c.climb.new.system c.in_ok-read.ensures c.in_ok-way.ensures (sym c.clash.ensures ∙ c.in_default.is) c.in_ok-back.ensures c.if-back.false refl
