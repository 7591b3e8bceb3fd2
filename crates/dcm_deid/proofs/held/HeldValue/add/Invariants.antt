use Rattle.std.proofs.Common.{◌≡◌, fold, take}
use Rattle.dcm_deid.specs.DeidentifySink as spec
use Rattle.dcm_deid.specs.Deidentifying.{held}
use Rattle.dcm_deid.proofs.held.HeldValue.add.Given as goal

abbrev pub invariant-loop-byte : goal.invariant-loop-byte
invariant-loop-byte l = held l.self ≡ fold spec.held_with (held l.initial.self) (take l.byte-index l.bytes)
