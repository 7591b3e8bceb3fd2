use Rattle.std.proofs.Common.{length, ◌<◌, arith}
use Rattle.dcm_editor.proofs.Masks.IndexGrows.{mask_kept}
use Rattle.dcm_editor.proofs.index.TagMasks.add_at.Goals as goal

pub returns-clause-others : goal.returns-clause-others
returns-clause-others c =
    let masks = c.args.self.now in
    let small = c.requires.bucket in
    let within : c.args.bucket < length masks.buckets = omega (arith, small, c.well_formed) in
    mask_kept masks.buckets c.args.bucket c.args.place c.with_bit.result within c.with_bit.ensures.same c.with_bit.ensures.others
