use Rattle.std.proofs.Common.{◌≡◌, length}
use Rattle.dcm_base.specs.Tree.Value.{units}
use Rattle.dcm_base.specs.Dump.ValueText.{shown_unit}
use Rattle.dcm_value.specs.Shown.{display_of}
use Rattle.dcm_value.specs.Units.{one_text, separated}
use Rattle.dcm_value.proofs.Displays.Emits.{PartShown}
use Rattle.dcm_value.proofs.display.Shown.emit_singly.Given as goal

-- a part of the units is shown
abbrev pub invariant-loop-self : goal.invariant-loop-self
invariant-loop-self g l = record {
  part : PartShown (display_of l.fn.self) (display_of l.self) (g.W.DeviceOut.contents l.fn.out) (g.W.DeviceOut.contents l.out) (separated (one_text l.vr l.syntax) (units (shown_unit l.vr) l.units)) (separated (one_text l.vr l.syntax) (units (shown_unit l.vr) l.rest));
  failed : g.W.Device.has_failed l.out ≡ g.W.Device.has_failed l.fn.out;
}

abbrev pub decreases-loop-self : goal.decreases-loop-self
decreases-loop-self g l = length l.rest
