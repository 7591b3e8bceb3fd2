use Rattle.std.proofs.Common.{rules, subst, Ok, Bool}
use Rattle.dcm_trees.specs.Beginning as spec
use Rattle.dcm_trees.proofs.beginning.have_output.Goals as goal

pub returns-in_err-is_there : goal.returns-in_err-is_there
returns-in_err-is_there g c = spec.not_looked _ c.in_err-is_there.ensures (search rules)

pub returns-then-branch : goal.returns-then-branch
returns-then-branch g c = spec.was_there c.is_there.new.system (subst (λ (b : Bool). spec.IsThere g.S.Folders.folders_do c.args.output.now c.args.system.now (Ok b) c.is_there.new.system) c.if-branch.true c.in_ok-is_there.ensures) c.compare.ensures

pub returns-else-branch : goal.returns-else-branch
returns-else-branch g c = spec.not_there c.is_there.new.system (subst (λ (b : Bool). spec.IsThere g.S.Folders.folders_do c.args.output.now c.args.system.now (Ok b) c.is_there.new.system) c.if-branch.false c.in_ok-is_there.ensures) c.make_apart.ensures
