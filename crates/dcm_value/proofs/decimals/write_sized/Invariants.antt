use Rattle.std.proofs.Common.{◌≡◌, ◌≤◌, ◌*◌, length, take}
use Rattle.dcm_base.specs.Tree.Value.{pieces}
use Rattle.dcm_value.specs.Units.{separated}
use Rattle.dcm_value.specs.Numbers.{number_text}
use Rattle.dcm_value.proofs.decimals.write_sized.Given as goal

-- the numbers so far stand there
abbrev pub invariant-loop-at : goal.invariant-loop-at
invariant-loop-at g l = record {
  text : take l.end l.text ≡ separated (number_text l.is_signed l.is_big) (pieces l.at g.row.K l.units);
  within : l.end ≤ 24 * l.at;
  size : length l.text ≡ length l.fn.text;
}
