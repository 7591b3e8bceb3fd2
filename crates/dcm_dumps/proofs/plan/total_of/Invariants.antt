use Rattle.std.proofs.Common.{◌≡◌, ◌≤◌, ◌+◌, ◌-◌, length}
use Rattle.std.specs.Option.{option_map}
use Rattle.dcm_table_words.specs.Plans.{names_as, names_from}
use Rattle.dcm_dumps.specs.Words.{total_of}
use Rattle.dcm_dumps.proofs.plan.total_of.Given as goal

-- so many names came, and those that are left are as many more
abbrev pub invariant-loop-name : goal.invariant-loop-name
invariant-loop-name l = record {
  seen : total_of (names_as l.names) ≡ option_map (λ n. l.total + n) (total_of (names_from l.names l.place));
  few : l.total ≤ l.place;
  within : l.place ≤ length l.names.words.now;
}

abbrev pub decreases-loop-name : goal.decreases-loop-name
decreases-loop-name l = length l.names.words.now - l.place
