use Rattle.std.proofs.Common.{◌≡◌, fold, take}
use Rattle.dcm_instance.specs.UidSink.{held_with}
use Rattle.dcm_instance.proofs.value.UidValue.add_all.Given as goal

-- the bytes so far were added
abbrev pub invariant-loop-byte : goal.invariant-loop-byte
invariant-loop-byte l = l.self ≡ record { progress = l.initial.self.progress; held = fold held_with l.initial.self.held (take l.byte-index l.bytes) }
