use Rattle.std.proofs.Common.{◌≡◌, ◌+◌, length, decimal}
use Rattle.dcm_value.proofs.decimals.digits.Given as goal

-- the digits that are counted, and those that are left
abbrev pub invariant-loop-left : goal.invariant-loop-left
invariant-loop-left l = l.digits + length (decimal l.left) ≡ length (decimal l.number)

abbrev pub decreases-loop-left : goal.decreases-loop-left
decreases-loop-left l = l.left
