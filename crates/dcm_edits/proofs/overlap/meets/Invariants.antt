use Rattle.std.proofs.Common.{◌≡◌, length}
use Rattle.dcm_edits.specs.Meaning.{action_of, along, path_edit_of}
use Rattle.dcm_edits.specs.Overlap.{path, meets}
use Rattle.dcm_edits.proofs.overlap.meets.Given as goal

-- what is left of the paths decides for both
abbrev pub invariant-loop-left_steps : goal.invariant-loop-left_steps
invariant-loop-left_steps g l =
    meets (path (along l.left_steps (action_of l.left.action))) (path (along l.right_steps (action_of l.right.action)))
    ≡ meets (path (path_edit_of l.left)) (path (path_edit_of l.right))

abbrev pub decreases-loop-left_steps : goal.decreases-loop-left_steps
decreases-loop-left_steps g l = length l.left_steps
