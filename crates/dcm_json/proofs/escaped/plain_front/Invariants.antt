use Rattle.std.proofs.Common.{◌≡◌, ◌*◌, take, true}
use Rattle.std.specs.List.{list_all}
use Rattle.dcm_json.specs.Escaped.{is_plain_byte}
use Rattle.dcm_json.proofs.escaped.plain_front.Given as goal

-- the bytes so far are so
abbrev pub invariant-loop-block : goal.invariant-loop-block
invariant-loop-block l = list_all is_plain_byte (take (16 * l.block) l.bytes) ≡ true
