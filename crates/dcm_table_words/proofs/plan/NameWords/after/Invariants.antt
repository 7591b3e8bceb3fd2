use Rattle.std.proofs.Common.{◌≡◌, ◌≤◌, ◌-◌, length}
use Rattle.dcm_table_words.specs.Plans.{names_from}
use Rattle.dcm_table_words.proofs.plan.NameWords.after.Given as goal

-- no word so far is a name
abbrev pub invariant-loop-saying : goal.invariant-loop-saying
invariant-loop-saying l = record {
  same : names_from l.self l.place ≡ names_from l.self l.at;
  from : l.place ≤ l.at;
}

abbrev pub decreases-loop-saying : goal.decreases-loop-saying
decreases-loop-saying l = length l.self.words.now - l.at
