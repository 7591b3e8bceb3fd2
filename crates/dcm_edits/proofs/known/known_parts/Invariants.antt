use Rattle.std.proofs.Common.{◌≡◌, ◌+◌, length, map}
use Rattle.dcm_edits.specs.EditWords as words
use Rattle.dcm_edits.specs.Making.{known_as, after_known}
use Rattle.dcm_edits.specs.Parts.{part_as}
use Rattle.dcm_edits.proofs.known.known_parts.Given as goal

-- the known parts so far, and those of the rest
abbrev pub invariant-loop-rest : goal.invariant-loop-rest
invariant-loop-rest l = record {
  same : words.known_parts l.dictionary (map part_as l.parts) ≡ after_known (map known_as l.known.items) (words.known_parts l.dictionary (map part_as l.rest));
  counted : length l.known.items + length l.rest ≡ length l.parts;
}

abbrev pub decreases-loop-rest : goal.decreases-loop-rest
decreases-loop-rest l = length l.rest
