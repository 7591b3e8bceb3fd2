use Rattle.std.proofs.Common.{◌≡◌, ◌++◌, ◌+◌, ◌≤◌, List, ℕ, length, None, Ok}
use Rattle.dcm_base.specs.Reading.Reads.{INPUT_LIMIT}
use Rattle.dcm_build.specs.Builder.{Feeds, Stands, building, line_at, read}
use Rattle.dcm_build.proofs.line_reader.LineReader.read_all.Given as goal

-- a beginning of the piece was read
abbrev pub invariant-loop-rest : goal.invariant-loop-rest
invariant-loop-rest g l = record {
  front : List ℕ;
  whole : l.piece ≡ front ++ l.rest;
  feeds : Feeds {T = Unit {0}} (building l.fn.self None) (g.W.DeviceOut.contents l.fn.out) (building l.self) (g.W.DeviceOut.contents l.out) front (Ok tt);
  stands : Stands (line_at l.self);
  size : read (line_at l.self) ≡ read (line_at l.fn.self) + length front;
  within : read (line_at l.fn.self) ≤ INPUT_LIMIT → read (line_at l.self) ≤ INPUT_LIMIT;
  failed : g.W.Device.has_failed l.out ≡ g.W.Device.has_failed l.fn.out;
}

abbrev pub decreases-loop-rest : goal.decreases-loop-rest
decreases-loop-rest g l = length l.rest
