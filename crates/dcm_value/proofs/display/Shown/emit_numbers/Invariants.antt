use Rattle.std.proofs.Common.{◌≡◌, length}
use Rattle.dcm_value.specs.Shown.{display_of}
use Rattle.dcm_value.specs.Numbers.{numbers}
use Rattle.dcm_value.proofs.Displays.Emits.{PartShown}
use Rattle.dcm_value.proofs.display.Shown.emit_numbers.Given as goal

-- a part of the numbers is shown
abbrev pub invariant-loop-self : goal.invariant-loop-self
invariant-loop-self g l = record {
  part : PartShown (display_of l.fn.self) (display_of l.self) (g.W.DeviceOut.contents l.fn.out) (g.W.DeviceOut.contents l.out) (numbers l.is_signed l.is_big l.size l.units) (numbers l.is_signed l.is_big l.size l.rest);
  room : length l.text ≡ 3072;
  failed : g.W.Device.has_failed l.out ≡ g.W.Device.has_failed l.fn.out;
}

abbrev pub decreases-loop-self : goal.decreases-loop-self
decreases-loop-self g l = length l.rest
