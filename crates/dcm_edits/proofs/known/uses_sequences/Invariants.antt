use Rattle.std.proofs.Common.{◌≡◌, length, map}
use Rattle.dcm_edits.specs.EditWords.{uses_sequences}
use Rattle.dcm_edits.specs.Making.{known_as}
use Rattle.dcm_edits.proofs.known.uses_sequences.Given as goal

-- the parts that are left decide for all of them
abbrev pub invariant-loop-known : goal.invariant-loop-known
invariant-loop-known l = uses_sequences l.valued (map known_as l.known) ≡ uses_sequences l.valued (map known_as l.initial.known)

abbrev pub decreases-loop-known : goal.decreases-loop-known
decreases-loop-known l = length l.known
