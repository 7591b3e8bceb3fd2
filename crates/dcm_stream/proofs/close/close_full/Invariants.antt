use Rattle.std.proofs.Common.{◌≡◌, ◌++◌, List, length}
use Rattle.std.specs.Prelude.{fold}
use Rattle.std.specs.Io.KnownBytes.{append_known}
use Rattle.dcm_base.specs.Steps.Atoms.{Atom}
use Rattle.dcm_base.specs.Steps.Steps.{outputs}
use Rattle.dcm_stream.specs.Reading.{full_closed}
use Rattle.dcm_stream.proofs.close.close_full.Given as goal

-- the atoms so far, and those to come
abbrev pub invariant-loop-container : goal.invariant-loop-container
invariant-loop-container g l = record {
  front : List Atom;
  levels : (full_closed l.position l.fn.levels).0 ≡ (full_closed l.position l.levels).0;
  atoms : (full_closed l.position l.fn.levels).1 ≡ front ++ (full_closed l.position l.levels).1;
  state : g.S.Sink.state l.sink ≡ fold g.S.Sink.step (g.S.Sink.state l.fn.sink) front;
  bytes : g.S.Sink.contents l.sink ≡ append_known (g.S.Sink.contents l.fn.sink) (outputs g.S.Sink.step g.S.Sink.writes (g.S.Sink.state l.fn.sink) front);
  failed : g.S.Sink.has_failed l.sink ≡ g.S.Sink.has_failed l.fn.sink;
  kept : g.S.Sink.kept l.sink ≡ g.S.Sink.kept l.fn.sink;
}

abbrev pub decreases-loop-container : goal.decreases-loop-container
decreases-loop-container g l = length l.levels
