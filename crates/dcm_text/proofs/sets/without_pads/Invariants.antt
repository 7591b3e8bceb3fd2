use Rattle.std.proofs.Common.{◌≡◌, length}
use Rattle.dcm_text.specs.Sets.{without_pads}
use Rattle.dcm_text.proofs.sets.without_pads.Given as goal

-- what is left gives what all of it gives
abbrev pub invariant-loop-text : goal.invariant-loop-text
invariant-loop-text l = without_pads l.text ≡ without_pads l.initial.text

abbrev pub decreases-loop-text : goal.decreases-loop-text
decreases-loop-text l = length l.text
