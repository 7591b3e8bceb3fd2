use Rattle.std.proofs.Common.{◌≡◌, length}
use Rattle.dcm_edits.specs.Meaning.{action_of, along, path_edit_of}
use Rattle.dcm_edits.specs.Overlap.{path, is_on}
use Rattle.dcm_edits.proofs.overlap.is_on.Given as goal

-- the steps that are left decide for all of them
abbrev pub invariant-loop-steps : goal.invariant-loop-steps
invariant-loop-steps g l = is_on l.tag (path (along l.steps (action_of l.path.action))) ≡ is_on l.tag (path (path_edit_of l.path))

abbrev pub decreases-loop-steps : goal.decreases-loop-steps
decreases-loop-steps g l = length l.steps
