use Rattle.std.proofs.Common.{◌≡◌, ◌≤◌, ◌*◌, length, take}
use Rattle.std.specs.Prelude.{flat_map}
use Rattle.dcm_names.specs.Names.{shown_byte}
use Rattle.dcm_names.proofs.shown.shown_name.Given as goal

-- the bytes so far are shown
abbrev pub invariant-loop-byte : goal.invariant-loop-byte
invariant-loop-byte l = record {
  text : l.text.items ≡ flat_map shown_byte (take l.byte-index l.shown);
  size : length l.text.items ≤ 3 * l.byte-index;
  short : length l.shown ≤ 4096;
}
