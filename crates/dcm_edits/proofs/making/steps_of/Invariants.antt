use Rattle.std.proofs.Common.{◌≡◌, length, map}
use Rattle.dcm_edits.specs.Edit.{PathEdit}
use Rattle.dcm_edits.specs.Making.{known_as, steps_to}
use Rattle.dcm_edits.specs.Meaning.{along}
use Rattle.dcm_edits.proofs.making.steps_of.Given as goal

-- the steps so far lead to those of the rest
abbrev pub invariant-loop-rest : goal.invariant-loop-rest
invariant-loop-rest g l = (edit : PathEdit) → along l.steps.items (steps_to (map known_as l.rest) edit) ≡ steps_to (map known_as l.leading) edit

abbrev pub decreases-loop-rest : goal.decreases-loop-rest
decreases-loop-rest g l = length l.rest
