use Rattle.std.proofs.Common.{◌≡◌, take}
use Rattle.std.specs.Prelude.{flat_map}
use Rattle.dcm_text.specs.Shown.{percent}
use Rattle.dcm_text.proofs.shown.percents.Given as goal

-- the bytes so far
abbrev pub invariant-loop-byte : goal.invariant-loop-byte
invariant-loop-byte l = l.text.items ≡ flat_map percent (take l.byte-index l.bytes)
