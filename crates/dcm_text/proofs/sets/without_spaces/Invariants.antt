use Rattle.std.proofs.Common.{◌≡◌, length}
use Rattle.dcm_text.specs.Sets.{without_spaces}
use Rattle.dcm_text.proofs.sets.without_spaces.Given as goal

-- what is left gives what all of it gives
abbrev pub invariant-loop-text : goal.invariant-loop-text
invariant-loop-text l = without_spaces l.text ≡ without_spaces l.initial.text

abbrev pub decreases-loop-text : goal.decreases-loop-text
decreases-loop-text l = length l.text
