use Rattle.std.proofs.Common.{arith, ◌≡◌, ◌≤◌, ◌+◌, ◌*◌, ◌/◌, length, ℕ, refl, ◌∙◌}
use Rattle.std.specs.Prelude.{◌==◌, not}
use Rattle.std.proofs.lemmas.Simd.{length-put_chunk}
use Rattle.dcm_value.proofs.UnitOrder.Woven.{woven_next, step_room}
use Rattle.dcm_value.proofs.hexadecimal.weave_units.Goals as goal

pub loop-block-preserved : goal.loop-block-preserved
loop-block-preserved g c =
    let block : ℕ = c.loop-block.block in
    let text = c.loop-block.text in
    let size : ℕ = g.row.SIZE in
    let same : length text ≡ length c.args.text.now = c.loop-block.invariant.size in
    let room : (32 + 16 / size) * block + 64 ≤ length text = step_room size block (length c.args.bytes.now / 16) (length text) c.requires.size c.loop-block-test.true (omega arith) in
    let lanes : length c.weave.result ≡ 64 = omega arith in
    record {
      text = woven_next size (not (g.row.IS_TURNED == 0)) block (32 + 16 / size) c.args.bytes.now text c.weave.result c.requires.size refl (omega arith) room lanes c.loop-block.invariant.text c.weave.ensures;
      size = length-put_chunk ((32 + 16 / size) * block) text c.weave.result ∙ same;
    }
