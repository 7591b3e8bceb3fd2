use Rattle.std.proofs.Common.{◌≡◌, length, None}
use Rattle.dcm_text.specs.Gb18030.{ranged}
use Rattle.dcm_text.proofs.gb18030.in_ranges.Given as goal

-- the ranges that are left give what all of them give
abbrev pub invariant-loop-ranges : goal.invariant-loop-ranges
invariant-loop-ranges l = ranged l.found l.ranges l.number ≡ ranged None l.initial.ranges l.number

abbrev pub decreases-loop-ranges : goal.decreases-loop-ranges
decreases-loop-ranges l = length l.ranges
