use Rattle.std.proofs.Common.{◌-◌, ◌≤◌, ℕ, List}
use Rattle.dcm_names.specs.Held.{Holds}
use Rattle.dcm_names.specs.Reader.{Same}
use Rattle.dcm_names.proofs.NameByName.{Passes}
use Rattle.dcm_names.proofs.list_reader.ListReader.take_name.Given as goal

-- no line so far is a name
abbrev pub invariant-loop-self : goal.invariant-loop-self
invariant-loop-self l = record {
  passes : (line : List ℕ) → Holds l.fn.self.line line → Passes l.fn.self l.self line;
  same : Same l.fn.self l.self;
  later : l.fn.self.at ≤ l.self.at;
}

abbrev pub decreases-loop-self : goal.decreases-loop-self
decreases-loop-self l = l.self.filled - l.self.at
