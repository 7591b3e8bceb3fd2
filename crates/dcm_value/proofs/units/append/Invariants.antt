use Rattle.std.proofs.Common.{◌≡◌, ◌++◌, take}
use Rattle.dcm_value.proofs.units.append.Given as goal

-- the bytes so far stand there
abbrev pub invariant-loop-byte : goal.invariant-loop-byte
invariant-loop-byte g l = l.text.items ≡ l.initial.text.items ++ take l.byte-index l.bytes
