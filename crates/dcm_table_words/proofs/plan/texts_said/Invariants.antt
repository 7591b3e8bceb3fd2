use Rattle.std.proofs.Common.{◌≡◌, ◌-◌, drop, length, fold}
use Rattle.dcm_table_words.specs.Table.{texts_after, texts_said}
use Rattle.dcm_table_words.specs.declared.saying.Tool.TheVariants.{Table}
use Rattle.dcm_table_words.specs.Said.{sayings_of}
use Rattle.dcm_table_words.proofs.plan.texts_said.Given as goal

-- after the words so far, those that are left say it as all of them
abbrev pub invariant-loop-saying : goal.invariant-loop-saying
invariant-loop-saying l = texts_said (sayings_of Table l.words) ≡ fold texts_after l.texts (sayings_of Table (drop l.at l.words))

abbrev pub decreases-loop-saying : goal.decreases-loop-saying
decreases-loop-saying l = length l.words - l.at
