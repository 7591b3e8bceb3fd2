use Rattle.std.proofs.Common.{◌≡◌, length}
use Rattle.std.specs.List.{list_all}
use Rattle.dcm_text.specs.Sets.{is_term, terms_of}
use Rattle.dcm_text.proofs.sets.are_terms.Given as goal

-- those before are terms, so that what is left decides
abbrev pub invariant-loop-at : goal.invariant-loop-at
invariant-loop-at l = list_all is_term (terms_of l.rest) ≡ list_all is_term (terms_of l.initial.rest)

abbrev pub decreases-loop-at : goal.decreases-loop-at
decreases-loop-at l = length l.rest
