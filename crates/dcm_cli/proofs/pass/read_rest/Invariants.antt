use Rattle.std.proofs.Common.{◌≡◌, ℕ, List, length, ◌+◌, ◌-◌, ◌^◌, Ok}
use Rattle.dcm_devices.specs.Device.{Gave}
use Rattle.std.specs.Io.KnownBytes.{prepend_known}
use Rattle.dcm_stream.specs.Machine.{next_offset}
use Rattle.dcm_cli.specs.Pass as spec
use Rattle.dcm_cli.proofs.pass.read_rest.Given as goal

-- these bytes were read, and the machine and its sink went over them
abbrev pub invariant-loop-size : goal.invariant-loop-size
invariant-loop-size g l = record {
  front : List ℕ;
  calls : Gave g.R.DeviceIn.gets l.fn.input front l.input;
  given : g.R.DeviceIn.remaining l.fn.input ≡ prepend_known front (g.R.DeviceIn.remaining l.input);
  fed : spec.Fed g.S.Sink.bar g.S.Sink.step g.S.Sink.writes l.fn.machine (g.S.Sink.state l.fn.sink) (g.S.Sink.contents l.fn.sink) (g.S.Sink.has_failed l.fn.sink) l.machine (g.S.Sink.state l.sink) (g.S.Sink.contents l.sink) (g.S.Sink.has_failed l.sink) front (Ok tt);
  count : l.read ≡ next_offset l.fn.machine.reading + length front;
  unread : g.R.Device.has_failed l.input ≡ g.R.Device.has_failed l.fn.input;
  kept : g.S.Sink.kept l.sink ≡ g.S.Sink.kept l.fn.sink;
  size : length l.buffer ≡ length l.fn.buffer;
}

abbrev pub decreases-loop-size : goal.decreases-loop-size
decreases-loop-size g l = 2 ^ 62 - l.read
