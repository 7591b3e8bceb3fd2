use Rattle.std.proofs.Common.{◌≡◌, ◌≤◌, length}
use Rattle.std.specs.Io.KnownBytes.{append_known}
use Rattle.dcm_base.specs.Tree.Tree.{Trees}
use Rattle.dcm_head.specs.Rewriting.{OfElements}
use Rattle.dcm_sinks.proofs.DecodedDumps.MetaLines.{Left}
use Rattle.dcm_sinks.proofs.dump.decoded_header.put_decoded_elements.Given as goal

-- the lines of the elements before the rest went out
abbrev pub invariant-elements : goal.invariant-elements
invariant-elements g l = record {
  within : length l.rest ≤ 16384;
  gone : OfElements l.fn.group (λ (all : Trees). (left : Left l.dictionary l.mode l.rest all) × (g.W.DeviceOut.contents l.out ≡ append_known (g.W.DeviceOut.contents l.fn.out) left.gone));
  failed : g.W.Device.has_failed l.out ≡ g.W.Device.has_failed l.fn.out;
}

abbrev pub decreases-elements : goal.decreases-elements
decreases-elements g l = length l.rest
