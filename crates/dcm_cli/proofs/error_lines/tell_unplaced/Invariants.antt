use Rattle.std.proofs.Common.{◌≡◌, ◌-◌, ℕ, List, ◌++◌}
use Rattle.std.specs.Io.KnownBytes.{append_known}
use Rattle.dcm_cli.specs.ErrorLines.{mask_lines}
use Rattle.dcm_cli.proofs.error_lines.tell_unplaced.Given as goal

-- the lines of the edits so far were written
abbrev pub invariant-loop-number : goal.invariant-loop-number
invariant-loop-number g l = record {
  front : List ℕ;
  whole : mask_lines 64 1 l.fn.unplaced ≡ front ++ mask_lines (65 - l.number) l.number l.rest;
  grown : g.E.DeviceOut.contents l.errors ≡ append_known (g.E.DeviceOut.contents l.fn.errors) front;
  fine : g.E.Device.has_failed l.errors ≡ g.E.Device.has_failed l.fn.errors;
}
