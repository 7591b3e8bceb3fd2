use Rattle.std.proofs.Common.{◌≡◌, ◌*◌, length, take}
use Rattle.std.specs.Prelude.{◌==◌, not}
use Rattle.dcm_value.specs.Woven.{woven}
use Rattle.dcm_value.proofs.hexadecimal.weave_units.Given as goal

-- the blocks so far stand there
abbrev pub invariant-loop-block : goal.invariant-loop-block
invariant-loop-block g l = record {
  text : take (l.step * l.block) l.text ≡ woven g.row.SIZE (not (g.row.IS_TURNED == 0)) (take (16 * l.block) l.bytes);
  size : length l.text ≡ length l.fn.text;
}
