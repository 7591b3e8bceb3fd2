use Rattle.std.proofs.Common.{◌≡◌, length}
use Rattle.std.specs.Prelude.{fold}
use Rattle.dcm_text.specs.Sets.{terms_of, with_term}
use Rattle.dcm_text.proofs.sets.with_terms.Given as goal

-- the terms that are left, after those before them
abbrev pub invariant-loop-at : goal.invariant-loop-at
invariant-loop-at l = fold with_term l.sets (terms_of l.rest) ≡ fold with_term l.initial.sets (terms_of l.initial.rest)

abbrev pub decreases-loop-at : goal.decreases-loop-at
decreases-loop-at l = length l.rest
