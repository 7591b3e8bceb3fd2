use Rattle.std.proofs.Common.{◌≡◌, length}
use Rattle.std.specs.List.{list_any}
use Rattle.dcm_text.specs.Characters.{is_between}
use Rattle.dcm_text.proofs.shown.is_in.Given as goal

-- the ranges that are left give what all of them give
abbrev pub invariant-loop-ranges : goal.invariant-loop-ranges
invariant-loop-ranges l =
    list_any (λ r. is_between r.0 r.1 l.number) l.ranges ≡ list_any (λ r. is_between r.0 r.1 l.number) l.initial.ranges

abbrev pub decreases-loop-ranges : goal.decreases-loop-ranges
decreases-loop-ranges l = length l.ranges
