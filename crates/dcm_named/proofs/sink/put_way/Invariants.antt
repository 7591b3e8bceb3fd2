use Rattle.std.proofs.Common.{◌≡◌, take}
use Rattle.std.specs.Prelude.{flat_map}
use Rattle.std.specs.Io.KnownBytes.{append_known}
use Rattle.dcm_named.specs.Naming.{outside_text}
use Rattle.dcm_named.proofs.sink.put_way.Given as goal

-- the way so far went out
abbrev pub invariant-loop-outside : goal.invariant-loop-outside
invariant-loop-outside g l = record {
  state : g.S.LineSink.state l.lines ≡ g.S.LineSink.state l.fn.lines;
  bytes : g.S.LineSink.contents l.lines ≡ append_known (g.S.LineSink.contents l.fn.lines) (flat_map outside_text (take l.outside-index l.way));
  failed : g.S.LineSink.has_failed l.lines ≡ g.S.LineSink.has_failed l.fn.lines;
  kept : g.S.LineSink.kept l.lines ≡ g.S.LineSink.kept l.fn.lines;
}
