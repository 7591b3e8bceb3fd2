use Rattle.dcm_lemmas.proofs.Truth.{not_true, not_false}
use Rattle.dcm_trees.specs.Beginning as spec
use Rattle.dcm_trees.proofs.beginning.check_use.Goals as goal

pub returns-then-not-options : goal.returns-then-not-options
returns-then-not-options g c = spec.is_new (not_true c.args.options.continues c.if-not-options.true) c.check_new.ensures

pub returns-then-options : goal.returns-then-options
returns-then-options g c = spec.keeps_names (not_false c.args.options.continues c.if-not-options.false) c.if-options.true c.check_letters.ensures
