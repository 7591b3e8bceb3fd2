use Rattle.std.proofs.Common.{◌≡◌, ◌≤◌, length}
use Rattle.std.specs.Io.KnownBytes.{append_known}
use Rattle.dcm_base.specs.Tree.Tree.{Trees}
use Rattle.dcm_head.specs.Rewriting.{OfElements}
use Rattle.dcm_head.proofs.MetaGroups.Rewritten.{Left}
use Rattle.dcm_head.proofs.rewriting.put_stay.Given as goal

-- what is written of the elements before the rest went out
abbrev pub invariant-elements : goal.invariant-elements
invariant-elements g l = record {
  short : length l.rest ≤ 16384;
  gone : OfElements l.fn.group (λ (all : Trees). (left : Left (g.N.Renewal.renewing l.renewal) l.rest l.uid l.named all) × (g.W.DeviceOut.contents l.out ≡ append_known (g.W.DeviceOut.contents l.fn.out) left.gone));
  failed : g.W.Device.has_failed l.out ≡ g.W.Device.has_failed l.fn.out;
}

abbrev pub decreases-elements : goal.decreases-elements
decreases-elements g l = length l.rest
