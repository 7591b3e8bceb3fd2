use Rattle.std.proofs.Common.{◌≡◌, length}
use Rattle.dcm_base.specs.Lines.ReadValue.{joined}
use Rattle.dcm_value.specs.Parts.{part_value}
use Rattle.dcm_value.specs.Taking.{behind}
use Rattle.dcm_value.proofs.reading.read_parts.Given as goal

-- the parts so far stand there, and those of the rest are to come
abbrev pub invariant-loop-at : goal.invariant-loop-at
invariant-loop-at l = record {
  same : joined (part_value l.kind l.size) l.text ≡ behind l.value.items (joined (part_value l.kind l.size) l.rest);
}

abbrev pub decreases-loop-at : goal.decreases-loop-at
decreases-loop-at l = length l.rest
