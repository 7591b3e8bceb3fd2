use Rattle.dcm_names.proofs.Texts.{part_more}
use Rattle.dcm_names.proofs.named_lines.compose.Goals as goal

pub loop-part-preserved : goal.loop-part-preserved
loop-part-preserved c =
    part_more (λ part. part.now) c.args.parts.now c.loop-part.part-index 12480 _ _ _ c.try_extend_from_slice.result c.loop-part-test.true c.requires c.loop-part.invariant c.try_extend_from_slice.ensures.variant.1 c.try_extend_from_slice.ensures.ok
