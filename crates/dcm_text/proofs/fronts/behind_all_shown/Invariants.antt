use Rattle.std.proofs.Common.{List, ℕ, length}
use Rattle.dcm_text.specs.Fronts.{AreBehind}
use Rattle.dcm_text.proofs.fronts.behind_all_shown.Given as goal

-- what is behind the characters that are left is behind all of them
abbrev pub invariant-loop-after : goal.invariant-loop-after
invariant-loop-after l = (after : List ℕ) → AreBehind l.rest after → AreBehind l.text after

abbrev pub decreases-loop-after : goal.decreases-loop-after
decreases-loop-after l = length l.rest
