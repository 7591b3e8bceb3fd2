use Rattle.std.proofs.Common.{◌≡◌, ◌-◌, drop, length}
use Rattle.std.specs.List.{list_any}
use Rattle.dcm_table_words.specs.Table.{is_no_header}
use Rattle.dcm_table_words.specs.declared.saying.Tool.TheVariants.{Table}
use Rattle.dcm_table_words.specs.Said.{sayings_of}
use Rattle.dcm_table_words.proofs.plan.has_no_header.Given as goal

-- the words that are left say so as all of them
abbrev pub invariant-loop-saying : goal.invariant-loop-saying
invariant-loop-saying l = list_any is_no_header (sayings_of Table l.words) ≡ list_any is_no_header (sayings_of Table (drop l.at l.words))

abbrev pub decreases-loop-saying : goal.decreases-loop-saying
decreases-loop-saying l = length l.words - l.at
