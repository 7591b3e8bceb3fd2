use Rattle.std.proofs.Common.{◌≡◌, take, fold}
use Rattle.dcm_sinks.specs.SettingValue.{with_setting_byte}
use Rattle.dcm_sinks.proofs.character_set.keep.Given as goal

-- the bytes so far are kept, as far as there is room
abbrev pub invariant-loop-byte : goal.invariant-loop-byte
invariant-loop-byte l = l.value.items ≡ fold with_setting_byte l.fn.value.items (take l.byte-index l.bytes)
