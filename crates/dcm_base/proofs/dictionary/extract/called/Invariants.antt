use Rattle.std.proofs.Common.{◌≡◌, length, map}
use Rattle.dcm_base.specs.Tables.Dictionary.{called}
use Rattle.dcm_base.proofs.dictionary.extract.called.Given as goal

-- the rows that are left give what all of them give
abbrev pub invariant-loop-rows : goal.invariant-loop-rows
invariant-loop-rows l = called (map (λ r. (r.0, r.1, r.2.now)) l.rows) l.keyword ≡ called (map (λ r. (r.0, r.1, r.2.now)) l.initial.rows) l.keyword

abbrev pub decreases-loop-rows : goal.decreases-loop-rows
decreases-loop-rows l = length l.rows
