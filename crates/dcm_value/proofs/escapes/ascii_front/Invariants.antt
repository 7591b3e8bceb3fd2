use Rattle.std.proofs.Common.{◌≡◌, ◌*◌, take, true}
use Rattle.std.specs.List.{list_all}
use Rattle.dcm_value.specs.Plain.{is_ascii_byte}
use Rattle.dcm_value.proofs.escapes.ascii_front.Given as goal

-- the bytes so far are so
abbrev pub invariant-loop-block : goal.invariant-loop-block
invariant-loop-block l = list_all is_ascii_byte (take (8 * l.block) l.bytes) ≡ true
