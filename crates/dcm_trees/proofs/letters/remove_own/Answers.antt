use Rattle.std.proofs.Common.{refl, subst, Bool}
use Rattle.dcm_trees.specs.Letters as spec
use Rattle.dcm_trees.proofs.letters.remove_own.Goals as goal

pub returns-then-holds : goal.returns-then-holds
returns-then-holds g c = spec.its_own c.holds.new.self (subst (λ (b : Bool). g.S.System.may_do.holds c.args.system.now c.args.part.now b c.holds.new.self) c.if-holds.true c.holds.ensures) c.remove_held.ensures

pub returns-else-holds : goal.returns-else-holds
returns-else-holds g c = spec.of_another (subst (λ (b : Bool). g.S.System.may_do.holds c.args.system.now c.args.part.now b c.holds.new.self) c.if-holds.false c.holds.ensures) refl
