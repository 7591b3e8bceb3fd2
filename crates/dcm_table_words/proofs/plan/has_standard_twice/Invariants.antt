use Rattle.std.proofs.Common.{◌≡◌, ◌+◌, ◌-◌, length}
use Rattle.std.specs.Prelude.{count_by, nat_lt, if◌then◌else◌}
use Rattle.dcm_table_words.specs.Table.{is_standard}
use Rattle.dcm_table_words.specs.Plans.{names_as, names_from}
use Rattle.dcm_table_words.proofs.plan.has_standard_twice.Given as goal

-- standard input was named so often, and the names that are left may name it more often
abbrev pub invariant-loop-name : goal.invariant-loop-name
invariant-loop-name l = nat_lt 1 (count_by is_standard (names_as l.names)) ≡ nat_lt 1 ((if l.is_named then 1 else 0) + count_by is_standard (names_from l.names l.place))

abbrev pub decreases-loop-name : goal.decreases-loop-name
decreases-loop-name l = length l.names.words.now - l.place
