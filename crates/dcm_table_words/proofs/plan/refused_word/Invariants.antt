use Rattle.std.proofs.Common.{◌≡◌, ◌+◌, ◌-◌, drop, length}
use Rattle.dcm_table_words.specs.Table.{refused}
use Rattle.dcm_table_words.specs.declared.saying.Tool.TheVariants.{Table}
use Rattle.dcm_table_words.specs.Said.{sayings_of}
use Rattle.dcm_table_words.proofs.plan.refused_word.Given as goal

-- the words that are left are refused as all of them
abbrev pub invariant-loop-saying : goal.invariant-loop-saying
invariant-loop-saying l = refused 2 (sayings_of Table l.words) ≡ refused (l.at + 2) (sayings_of Table (drop l.at l.words))

abbrev pub decreases-loop-saying : goal.decreases-loop-saying
decreases-loop-saying l = length l.words - l.at
