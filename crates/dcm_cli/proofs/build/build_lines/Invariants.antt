use Rattle.std.proofs.Common.{◌≡◌, ◌≤◌, ℕ, List, length, ◌-◌, ◌^◌, false}
use Rattle.std.specs.Prelude.{fold}
use Rattle.dcm_devices.specs.Device.{Gave}
use Rattle.std.specs.Io.KnownBytes.{append_known, prepend_known}
use Rattle.dcm_base.specs.Steps.Steps.{outputs}
use Rattle.dcm_build.specs.Builder.{is_halted}
use Rattle.dcm_build.specs.Building.{build_start, build_step, build_writes, read_size}
use Rattle.dcm_cli.proofs.build.build_lines.Given as goal

-- these bytes were read, and the builder went over them
abbrev pub invariant-loop-size : goal.invariant-loop-size
invariant-loop-size g l = record {
  front : List ℕ;
  calls : Gave g.R.DeviceIn.gets l.fn.input front l.input;
  given : g.R.DeviceIn.remaining l.fn.input ≡ prepend_known front (g.R.DeviceIn.remaining l.input);
  state : l.builder.state ≡ fold build_step (build_start l.fn.limit) front;
  out : g.W.DeviceOut.contents l.out ≡ append_known (g.W.DeviceOut.contents l.fn.out) (outputs build_step build_writes (build_start l.fn.limit) front);
  going : is_halted l.builder ≡ false;
  count : l.read ≡ length front;
  place : l.read ≡ read_size l.builder.state;
  within : l.read ≤ 2 ^ 62;
  unread : g.R.Device.has_failed l.input ≡ g.R.Device.has_failed l.fn.input;
  unwritten : g.W.Device.has_failed l.out ≡ g.W.Device.has_failed l.fn.out;
  size : length l.buffer ≡ length l.fn.buffer;
}

abbrev pub decreases-loop-size : goal.decreases-loop-size
decreases-loop-size g l = 2 ^ 62 - l.read
