use Rattle.std.proofs.Common.{◌≡◌, ℕ, List, ◌++◌, length, ◌+◌, ◌-◌, ◌^◌, ◌≤◌, None}
use Rattle.dcm_devices.specs.Device.{Gave}
use Rattle.std.specs.Io.KnownBytes.{prepend_known}
use Rattle.dcm_cli.specs.Pass.{set_bytes}
use Rattle.dcm_instance.specs.Searching.{Searched, decided}
use Rattle.dcm_instance.proofs.reading.search_set.Given as goal

-- these bytes were read, the machine went over them, and they decide nothing
abbrev pub invariant-loop-size : goal.invariant-loop-size
invariant-loop-size g l = record {
  front : List ℕ;
  calls : Gave g.R.DeviceIn.gets l.fn.input front l.input;
  given : g.R.DeviceIn.remaining l.fn.input ≡ prepend_known front (g.R.DeviceIn.remaining l.input);
  searched : Searched l.fn.coding.syntax l.fn.start (set_bytes l.fn.beginning l.fn.buffer ++ front) l.search;
  none : decided l.fn.coding.syntax l.fn.start (set_bytes l.fn.beginning l.fn.buffer ++ front) ≡ None;
  count : l.read ≡ l.fn.start + length (set_bytes l.fn.beginning l.fn.buffer ++ front);
  within : l.read ≤ 2 ^ 62;
  unread : g.R.Device.has_failed l.input ≡ g.R.Device.has_failed l.fn.input;
  size : length l.buffer ≡ length l.fn.buffer;
}

abbrev pub decreases-loop-size : goal.decreases-loop-size
decreases-loop-size g l = 2 ^ 62 - l.read
