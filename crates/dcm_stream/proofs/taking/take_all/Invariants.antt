use Rattle.std.proofs.Common.{◌≡◌, take}
use Rattle.std.specs.Prelude.{fold, flat_map}
use Rattle.std.specs.Io.KnownBytes.{append_known}
use Rattle.dcm_base.specs.Steps.Steps.{outputs}
use Rattle.dcm_stream.specs.Tokens.{atoms_of}
use Rattle.dcm_stream.proofs.taking.take_all.Given as goal

-- the tokens so far were taken
abbrev pub invariant-loop-token : goal.invariant-loop-token
invariant-loop-token g l = record {
  state : g.S.Sink.state l.sink ≡ fold g.S.Sink.step (g.S.Sink.state l.fn.sink) (flat_map atoms_of (take l.token-index l.tokens));
  bytes : g.S.Sink.contents l.sink ≡ append_known (g.S.Sink.contents l.fn.sink) (outputs g.S.Sink.step g.S.Sink.writes (g.S.Sink.state l.fn.sink) (flat_map atoms_of (take l.token-index l.tokens)));
  failed : g.S.Sink.has_failed l.sink ≡ g.S.Sink.has_failed l.fn.sink;
  kept : g.S.Sink.kept l.sink ≡ g.S.Sink.kept l.fn.sink;
}
