use Rattle.std.proofs.Common.{◌≡◌, ◌+◌, ◌≤◌, ◌++◌, List, ℕ, length, None, Ok, false}
use Rattle.dcm_base.specs.Reading.Place.{passes, room}
use Rattle.dcm_base.specs.Reading.Reads.{INPUT_LIMIT}
use Rattle.dcm_stream.specs.Machine.{reading, Feeds}
use Rattle.dcm_stream.proofs.cursor.Cursor.read_leaves.Given as goal

-- a beginning of the run was gone over, and only the place is another
abbrev pub invariant-loop-leaf : goal.invariant-loop-leaf
invariant-loop-leaf g l = record {
  front : List ℕ;
  whole : l.run ≡ front ++ l.rest;
  goes : Feeds {T = Unit {0}} g.S.Sink.bar g.S.Sink.step g.S.Sink.writes (reading l.fn.self None) (g.S.Sink.state l.fn.sink) (g.S.Sink.contents l.fn.sink) (reading l.self) (g.S.Sink.state l.sink) (g.S.Sink.contents l.sink) front (Ok (tt {0}));
  same : l.self ≡ record l.fn.self { position = l.self.position };
  within : l.self.position + length l.rest ≤ INPUT_LIMIT;
  room : passes (length l.rest + 8) (room l.self.position l.fn.self.levels) ≡ false;
  failed : g.S.Sink.has_failed l.sink ≡ g.S.Sink.has_failed l.fn.sink;
  kept : g.S.Sink.kept l.sink ≡ g.S.Sink.kept l.fn.sink;
}

abbrev pub decreases-loop-leaf : goal.decreases-loop-leaf
decreases-loop-leaf g l = length l.rest
