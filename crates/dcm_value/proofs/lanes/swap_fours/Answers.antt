use Rattle.std.proofs.Common.{◌≡◌, ◌-◌, ◌*◌, ◌/◌, length, arith, ap, ◌∙◌}
use Rattle.std.proofs.lemmas.Simd.{length-chunk}
use Rattle.dcm_value.proofs.UnitOrder.Reversals.{units_reversed}
use Rattle.dcm_value.proofs.UnitOrder.Blocks.{blocks_next, blocks_end, lanes_of_fours}
use Rattle.dcm_value.proofs.lanes.swap_fours.Goals as goal

pub loop-block-preserved : goal.loop-block-preserved
loop-block-preserved c =
    let size = length-chunk (16 * c.loop-block.block) 16 c.loop-block.bytes (omega arith) in
    blocks_next 4 4 c.loop-block.block _ c.loop-block.bytes _ (omega arith) c.loop-block.invariant (omega arith) (lanes_of_fours _ size)

pub returns : goal.returns
returns c =
    let blocks = length c.args.bytes.now / 16 in
    let all : c.loop-block.block ≡ blocks = omega arith in
    let so_far : c.loop-block.bytes ≡ units_reversed 4 (4 * blocks) c.args.bytes.now = c.loop-block.invariant ∙ ap (λ k. units_reversed 4 (4 * k) c.args.bytes.now) all in
    blocks_end 4 4 blocks (length c.loop-block.bytes - 16 * blocks) c.args.bytes.now c.loop-block.bytes _ (omega arith) (omega arith) so_far (omega arith) (omega arith) c.reverse_units.ensures
