use Rattle.std.proofs.Common.{◌≡◌, take}
use Rattle.std.specs.Prelude.{flat_map}
use Rattle.dcm_text.specs.Shown.{backslashed}
use Rattle.dcm_text.proofs.shown.all_backslashed.Given as goal

-- the bytes so far
abbrev pub invariant-loop-byte : goal.invariant-loop-byte
invariant-loop-byte l = l.text.items ≡ flat_map backslashed (take l.byte-index l.bytes)
