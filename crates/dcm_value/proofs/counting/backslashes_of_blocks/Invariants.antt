use Rattle.std.proofs.Common.{◌≡◌, ◌≤◌, ◌*◌, ◌==◌, take}
use Rattle.std.specs.Prelude.{count_by}
use Rattle.dcm_value.proofs.counting.backslashes_of_blocks.Given as goal

-- those among the bytes so far
abbrev pub invariant-loop-block : goal.invariant-loop-block
invariant-loop-block l = record {
  count : l.count ≡ count_by (λ b. b == 92) (take (64 * l.block) l.bytes);
  bound : l.count ≤ 64 * l.block;
}
