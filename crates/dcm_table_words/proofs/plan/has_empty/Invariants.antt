use Rattle.std.proofs.Common.{◌≡◌, ◌-◌, length}
use Rattle.std.specs.List.{list_any}
use Rattle.dcm_table_words.specs.Table.{is_empty_name}
use Rattle.dcm_table_words.specs.Plans.{names_as, names_from}
use Rattle.dcm_table_words.proofs.plan.has_empty.Given as goal

-- no name so far is empty
abbrev pub invariant-loop-name : goal.invariant-loop-name
invariant-loop-name l = list_any is_empty_name (names_as l.names) ≡ list_any is_empty_name (names_from l.names l.place)

abbrev pub decreases-loop-name : goal.decreases-loop-name
decreases-loop-name l = length l.names.words.now - l.place
