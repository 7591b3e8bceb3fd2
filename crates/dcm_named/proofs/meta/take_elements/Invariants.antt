use Rattle.std.proofs.Common.{◌≡◌, ◌≤◌, length}
use Rattle.std.specs.Prelude.{fold}
use Rattle.std.specs.Io.KnownBytes.{append_known}
use Rattle.dcm_base.specs.Steps.Steps.{outputs}
use Rattle.dcm_base.specs.Tree.Tree.{Trees}
use Rattle.dcm_head.specs.Rewriting.{OfElements}
use Rattle.dcm_named.proofs.MetaAtoms.{Left}
use Rattle.dcm_named.proofs.meta.take_elements.Given as goal

-- the elements before the rest were taken
abbrev pub invariant-elements : goal.invariant-elements
invariant-elements g l = record {
  within : length l.rest ≤ 16384;
  gone : OfElements l.fn.group (λ (all : Trees). (left : Left l.rest all) × (g.S.Sink.state l.sink ≡ fold g.S.Sink.step (g.S.Sink.state l.fn.sink) left.gone)
      × (g.S.Sink.contents l.sink ≡ append_known (g.S.Sink.contents l.fn.sink) (outputs g.S.Sink.step g.S.Sink.writes (g.S.Sink.state l.fn.sink) left.gone)));
  failed : g.S.Sink.has_failed l.sink ≡ g.S.Sink.has_failed l.fn.sink;
  kept : g.S.Sink.kept l.sink ≡ g.S.Sink.kept l.fn.sink;
}

abbrev pub decreases-elements : goal.decreases-elements
decreases-elements g l = length l.rest
