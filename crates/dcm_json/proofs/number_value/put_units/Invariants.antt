use Rattle.std.proofs.Common.{◌≡◌, length}
use Rattle.dcm_base.specs.Dump.ValueText.{shown_unit}
use Rattle.dcm_base.specs.Tree.Value.{units}
use Rattle.dcm_table.proofs.PartsOut.{SoFar}
use Rattle.dcm_json.specs.NumberState as spec
use Rattle.dcm_json.proofs.number_value.put_units.Given as goal

-- the units so far went out
abbrev pub invariant-loop-rest : goal.invariant-loop-rest
invariant-loop-rest g l = record {
  out : SoFar (g.W.DeviceOut.contents l.fn.out) (g.W.DeviceOut.contents l.out) (spec.units_parts l.vr l.syntax l.begun (units (shown_unit l.vr) l.fn.units)) (spec.units_parts l.vr l.syntax l.stands (units (shown_unit l.vr) l.rest));
  stands : spec.stands l.stands (units (shown_unit l.vr) l.rest) ≡ spec.stands l.begun (units (shown_unit l.vr) l.fn.units);
  failed : g.W.Device.has_failed l.out ≡ g.W.Device.has_failed l.fn.out;
}

abbrev pub decreases-loop-rest : goal.decreases-loop-rest
decreases-loop-rest g l = length l.rest
