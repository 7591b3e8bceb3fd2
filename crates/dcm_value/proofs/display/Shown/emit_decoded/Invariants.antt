use Rattle.std.proofs.Common.{◌≡◌, ◌+◌, ◌≤◌}
use Rattle.std.specs.Prelude.{flat_map}
use Rattle.dcm_text.specs.Runs.{run, state_of, bytes_left}
use Rattle.dcm_text.specs.Shown.{dumped_piece}
use Rattle.dcm_value.specs.Decoded.{backslashes}
use Rattle.dcm_value.specs.Shown.{display_of}
use Rattle.dcm_value.proofs.Displays.Emits.{PartShown}
use Rattle.dcm_value.proofs.display.Shown.emit_decoded.Given as goal

-- a part of the run is shown
abbrev pub invariant-loop-next : goal.invariant-loop-next
invariant-loop-next g l =
    let all = run l.at_end (state_of l.fn.decoder) l.fn.piece in
    let left = run l.at_end (state_of l.decoder) l.rest in
    record {
      part : PartShown (display_of l.fn.self) (display_of l.self) (g.W.DeviceOut.contents l.fn.out) (g.W.DeviceOut.contents l.out)
          (flat_map dumped_piece all.0) (flat_map dumped_piece left.0);
      state : left.1 ≡ all.1;
      count : l.backslashes + backslashes left.0 ≡ l.fn.backslashes + backslashes all.0;
      few : l.backslashes + bytes_left l.decoder l.rest ≤ l.fn.backslashes + bytes_left l.fn.decoder l.fn.piece;
      failed : g.W.Device.has_failed l.out ≡ g.W.Device.has_failed l.fn.out;
    }

abbrev pub decreases-loop-next : goal.decreases-loop-next
decreases-loop-next g l = bytes_left l.decoder l.rest
