use Rattle.std.proofs.Common.{◌≡◌, ◌<◌, ◌^◌, take}
use Rattle.std.specs.Prelude.{reverse}
use Rattle.dcm_base.specs.Tree.Value.{number_of}
use Rattle.dcm_value.proofs.units.number.Given as goal

-- the number of the bytes so far
abbrev pub invariant-loop-byte : goal.invariant-loop-byte
invariant-loop-byte l = record {
  value : l.number ≡ number_of (reverse (take l.byte-index l.bytes));
  small : l.number < 256 ^ l.byte-index;
}
