use Rattle.std.proofs.Common.{◌≡◌, ◌*◌, ◌/◌, length}
use Rattle.dcm_value.specs.Shown.{display_of}
use Rattle.dcm_value.specs.Woven.{woven}
use Rattle.dcm_value.proofs.Displays.Emits.{PartShown}
use Rattle.dcm_value.proofs.display.Shown.emit_blocks.Given as goal

-- a part of the units is shown, and whole blocks are left
abbrev pub invariant-loop-self : goal.invariant-loop-self
invariant-loop-self g l = record {
  part : PartShown (display_of l.fn.self) (display_of l.self) (g.W.DeviceOut.contents l.fn.out) (g.W.DeviceOut.contents l.out) (woven l.size l.is_turned l.units) (woven l.size l.is_turned l.rest);
  whole : 16 * (length l.rest / 16) ≡ length l.rest;
  failed : g.W.Device.has_failed l.out ≡ g.W.Device.has_failed l.fn.out;
}

abbrev pub decreases-loop-self : goal.decreases-loop-self
decreases-loop-self g l = length l.rest
