use Rattle.std.proofs.Common.{◌≡◌, length, map}
use Rattle.dcm_text.specs.Sets.{named_in}
use Rattle.dcm_text.proofs.sets.named_in.Given as goal

-- the rows that are left give what all of them give
abbrev pub invariant-loop-rows : goal.invariant-loop-rows
invariant-loop-rows l =
    named_in (map (λ t. (t.0.now, t.1, t.2)) l.rows) l.term ≡ named_in (map (λ t. (t.0.now, t.1, t.2)) l.initial.rows) l.term

abbrev pub decreases-loop-rows : goal.decreases-loop-rows
decreases-loop-rows l = length l.rows
