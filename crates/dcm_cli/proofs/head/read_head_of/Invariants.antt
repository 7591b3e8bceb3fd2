use Rattle.std.proofs.Common.{◌≡◌, ◌<◌, ℕ, List, length, ◌-◌, None}
use Rattle.dcm_devices.specs.Device.{Gave}
use Rattle.std.specs.Io.KnownBytes.{prepend_known}
use Rattle.dcm_cli.specs.Pass.{head_read}
use Rattle.dcm_cli.proofs.head.read_head_of.Given as goal

-- these bytes were read, and the head goes on
abbrev pub invariant-loop-size : goal.invariant-loop-size
invariant-loop-size g l = record {
  front : List ℕ;
  calls : Gave g.R.DeviceIn.gets l.fn.input front l.input;
  given : g.R.DeviceIn.remaining l.fn.input ≡ prepend_known front (g.R.DeviceIn.remaining l.input);
  reading : l.meta ≡ head_read front;
  going : l.meta.end ≡ None;
  bytes : l.meta.bytes ≡ front;
  count : l.read ≡ length front;
  few : l.read < 16528;
  unread : g.R.Device.has_failed l.input ≡ g.R.Device.has_failed l.fn.input;
  size : length l.buffer ≡ length l.fn.buffer;
}

abbrev pub decreases-loop-size : goal.decreases-loop-size
decreases-loop-size g l = 16528 - l.read
