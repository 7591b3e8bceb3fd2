use Rattle.std.proofs.Common.{◌≡◌, ◌≤◌, ◌+◌, ◌*◌, length}
use Rattle.dcm_base.specs.Tree.Tree.{Trees}
use Rattle.dcm_head.specs.Rewriting.{OfElements}
use Rattle.dcm_head.proofs.MetaGroups.Rewritten.{Left}
use Rattle.dcm_head.proofs.rewriting.stay_size.Given as goal

-- the size is that of what is written of the elements before the rest, each of which has at least 8 bytes
abbrev pub invariant-elements : goal.invariant-elements
invariant-elements g l = record {
  short : length l.rest ≤ 16384;
  limit : 8 * l.size + 65552 * length l.rest ≤ 65552 * 16384;
  gone : OfElements l.fn.group (λ (all : Trees). (left : Left (g.N.Renewal.renewing l.renewal) l.rest l.uid l.named all) × (l.size ≡ length left.gone));
}

abbrev pub decreases-elements : goal.decreases-elements
decreases-elements g l = length l.rest
