use Rattle.std.proofs.Common.{◌≡◌, length, map}
use Rattle.dcm_text.specs.First.{designated}
use Rattle.dcm_text.proofs.first.designated.Given as goal

-- the rows that are left give what all of them give
abbrev pub invariant-loop-rows : goal.invariant-loop-rows
invariant-loop-rows l =
    designated l.sets (map (λ d. (d.0.now, d.1, d.2)) l.rows) l.halves l.bytes
    ≡ designated l.sets (map (λ d. (d.0.now, d.1, d.2)) l.initial.rows) l.halves l.bytes

abbrev pub decreases-loop-rows : goal.decreases-loop-rows
decreases-loop-rows l = length l.rows
