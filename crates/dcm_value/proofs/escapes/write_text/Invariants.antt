use Rattle.std.proofs.Common.{◌≡◌, ◌≤◌, ◌+◌, ◌-◌, ◌*◌, ◌++◌, length, take}
use Rattle.dcm_base.specs.Dump.ValueText.{escaped}
use Rattle.dcm_value.proofs.escapes.write_text.Given as goal

-- the bytes so far stand there
abbrev pub invariant-loop-at : goal.invariant-loop-at
invariant-loop-at l = record {
  text : take l.end l.text ≡ escaped (take l.at l.bytes);
  before : l.at ≤ length l.bytes;
  within : l.end ≤ 3 * l.at;
  size : length l.text ≡ length l.fn.text;
}

abbrev pub decreases-loop-at : goal.decreases-loop-at
decreases-loop-at l = length l.bytes - l.at
