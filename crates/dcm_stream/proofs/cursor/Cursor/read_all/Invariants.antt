use Rattle.std.proofs.Common.{◌≡◌, ◌++◌, List, ℕ, length, None, Ok}
use Rattle.dcm_stream.specs.Machine.{Stands, reading, Feeds}
use Rattle.dcm_stream.proofs.cursor.Cursor.read_all.Given as goal

-- a beginning of the piece was gone over
abbrev pub invariant-loop-rest : goal.invariant-loop-rest
invariant-loop-rest g l = record {
  front : List ℕ;
  whole : l.piece ≡ front ++ l.rest;
  goes : Feeds {T = Unit {0}} g.S.Sink.bar g.S.Sink.step g.S.Sink.writes (reading l.fn.self None) (g.S.Sink.state l.fn.sink) (g.S.Sink.contents l.fn.sink) (reading l.self) (g.S.Sink.state l.sink) (g.S.Sink.contents l.sink) front (Ok (tt {0}));
  stands : Stands (reading l.self None);
  failed : g.S.Sink.has_failed l.sink ≡ g.S.Sink.has_failed l.fn.sink;
  kept : g.S.Sink.kept l.sink ≡ g.S.Sink.kept l.fn.sink;
}

abbrev pub decreases-loop-rest : goal.decreases-loop-rest
decreases-loop-rest g l = length l.rest
