use Rattle.std.proofs.Common.{◌≡◌, ◌∷◌, ◌*◌, ◌+◌, length, take}
use Rattle.std.specs.List.{flat_map}
use Rattle.dcm_uid.specs.Pseudonym.{hex_byte}
use Rattle.dcm_uid.proofs.patients.show_code.Given as goal

-- the digits of the bytes so far
abbrev pub invariant-bytes : goal.invariant-bytes
invariant-bytes l = record {
  shown : l.out.items ≡ 80 ∷ flat_map hex_byte (take l.i l.code);
  size : length l.out.items ≡ 2 * l.i + 1;
}
