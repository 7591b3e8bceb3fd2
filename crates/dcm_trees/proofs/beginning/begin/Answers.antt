use Rattle.std.proofs.Common.{rules, refl}
use Rattle.dcm_trees.specs.Beginning as spec
use Rattle.dcm_trees.proofs.Names.{clears_as, checks_as}
use Rattle.dcm_trees.proofs.beginning.begin.Goals as goal

pub returns-in_err-number : goal.returns-in_err-number
returns-in_err-number g c = spec.no_output _ c.in_err-number.ensures (search rules) refl

pub returns-in_err-path : goal.returns-in_err-path
returns-in_err-path g c = spec.no_part c.in_ok-number.number _ c.in_ok-number.ensures c.in_err-path.ensures (search rules) refl

pub returns-in_err-clear_way : goal.returns-in_err-clear_way
returns-in_err-clear_way g c = spec.has_part c.in_ok-number.number c.in_ok-path.path c.in_err-clear_way.field-0.0 c.have_output.new.system c.in_ok-number.ensures c.in_ok-path.ensures (clears_as c.as_slice.ensures.value c.in_err-clear_way.ensures) (search rules)

pub returns-in_err-check_use : goal.returns-in_err-check_use
returns-in_err-check_use g c = spec.in_use c.in_ok-number.number c.in_ok-path.path _ c.have_output.new.system c.clear_way.new.system c.in_ok-number.ensures c.in_ok-path.ensures (clears_as c.as_slice.ensures.value c.in_ok-clear_way.ensures) (checks_as c.as_slice-2.ensures.value c.in_err-check_use.ensures) (search rules)

pub returns : goal.returns
returns g c = spec.begun c.in_ok-number.number c.in_ok-path.path c.have_output.new.system c.clear_way.new.system c.in_ok-number.ensures c.in_ok-path.ensures (clears_as c.as_slice.ensures.value c.in_ok-clear_way.ensures) (checks_as c.as_slice-2.ensures.value c.in_ok-check_use.ensures) refl
