use Rattle.std.proofs.Common.{◌≡◌, ◌≤◌, ◌+◌, ◌*◌, ◌++◌, length, take}
use Rattle.dcm_base.specs.Dump.ValueText.{escaped}
use Rattle.dcm_value.proofs.escapes.write_singly.Given as goal

-- the bytes so far stand there
abbrev pub invariant-loop-byte : goal.invariant-loop-byte
invariant-loop-byte l = record {
  text : take l.end l.text ≡ take l.at l.fn.text ++ escaped (take l.byte-index l.bytes);
  within : l.end ≤ l.at + 3 * l.byte-index;
  size : length l.text ≡ length l.fn.text;
}
