use Rattle.std.proofs.Common.{◌∙◌, map, ap}
use Rattle.dcm_edits.specs.Meaning.{edit_of}
use Rattle.dcm_edits.specs.Overlap.{overlaps_one}
use Rattle.dcm_edits.proofs.Overlapping.First.{goes_on}
use Rattle.dcm_edits.proofs.overlap.first_overlap.Goals as goal

pub loop-i-preserved : goal.loop-i-preserved
loop-i-preserved g c =
    let clear = c.if-overlaps_one.ensures ∙ ap (λ l. overlaps_one (map edit_of l) (edit_of c.index-edits-i.result)) c.split_at.ensures.front in
    goes_on c.loop-i.i c.args.edits.now c.index-edits-i.result c.loop-i-test.true c.index-edits-i.is clear ∙ c.loop-i.invariant
