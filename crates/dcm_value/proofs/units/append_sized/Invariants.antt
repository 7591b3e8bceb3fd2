use Rattle.std.proofs.Common.{◌≡◌, ◌≤◌, ◌+◌, ◌*◌, ◌++◌, length}
use Rattle.dcm_base.specs.Tree.Value.{pieces}
use Rattle.dcm_value.specs.Units.{high_text, separated}
use Rattle.dcm_value.proofs.units.append_sized.Given as goal

-- the units so far stand there
abbrev pub invariant-loop-at : goal.invariant-loop-at
invariant-loop-at g l = record {
  text : l.text.items ≡ l.initial.text.items ++ separated (high_text l.kind) (pieces l.at g.row.K l.units);
  size : length l.text.items ≤ length l.initial.text.items + 24 * l.at;
}
