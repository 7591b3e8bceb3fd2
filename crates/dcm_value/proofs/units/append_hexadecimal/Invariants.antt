use Rattle.std.proofs.Common.{◌≡◌, ◌+◌, ◌*◌, ◌++◌, length, take}
use Rattle.std.specs.Prelude.{flat_map}
use Rattle.dcm_base.specs.Dump.ValueText.{hex_byte}
use Rattle.dcm_value.proofs.units.append_hexadecimal.Given as goal

-- the digits of the bytes so far stand there
abbrev pub invariant-loop-byte : goal.invariant-loop-byte
invariant-loop-byte g l = record {
  text : l.text.items ≡ l.initial.text.items ++ flat_map hex_byte (take l.byte-index l.bytes);
  size : length l.text.items ≡ length l.initial.text.items + 2 * l.byte-index;
}
