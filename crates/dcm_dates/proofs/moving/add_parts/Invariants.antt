use Rattle.std.proofs.Common.{◌≡◌, ◌+◌, length}
use Rattle.dcm_dates.specs.Moved.{all_moved}
use Rattle.dcm_dates.proofs.Parts.{behind}
use Rattle.dcm_dates.proofs.moving.add_parts.Given as goal

-- the parts so far stand there, and those of the rest are to come
abbrev pub invariant-loop-at : goal.invariant-loop-at
invariant-loop-at l = record {
  same : all_moved l.kind l.days l.text ≡ behind l.out.items (all_moved l.kind l.days l.rest);
  size : length l.out.items + length l.rest ≡ length l.text;
}

abbrev pub decreases-loop-at : goal.decreases-loop-at
decreases-loop-at l = length l.rest
