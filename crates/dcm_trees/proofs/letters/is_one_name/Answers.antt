use Rattle.std.proofs.Common.{rules, ap, Ok}
use Rattle.dcm_trees.specs.Letters as spec
use Rattle.dcm_trees.proofs.letters.is_one_name.Goals as goal

pub returns-in_err-make_closed : goal.returns-in_err-make_closed
returns-in_err-make_closed g c = spec.not_made _ c.in_err-make_closed.ensures (search rules)

pub returns-in_err-remove_made : goal.returns-in_err-remove_made
returns-in_err-remove_made g c = spec.not_removed c.look-own.result c.look-other.result _ c.make_closed.new.system c.look-own.new.system c.look-other.new.system c.in_ok-make_closed.ensures c.look-own.ensures c.look-other.ensures c.in_err-remove_made.ensures (search rules)

pub returns : goal.returns
returns g c = spec.was_looked c.look-own.result c.look-other.result c.make_closed.new.system c.look-own.new.system c.look-other.new.system c.in_ok-make_closed.ensures c.look-own.ensures c.look-other.ensures c.in_ok-remove_made.ensures (ap Ok c.are_one.ensures)
