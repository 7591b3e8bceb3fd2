use Rattle.std.proofs.Common.{◌∙◌, sym, arith}
use Rattle.dcm_edits.proofs.Trees.FirstOnes.{front}
use Rattle.dcm_edits.proofs.Overlapping.Meetings.{parted}
use Rattle.dcm_edits.proofs.overlap.meets.Goals as goal

pub returns-then-not-same_index : goal.returns-then-not-same_index
returns-then-not-same_index g c =
    let left = front c.loop-left_steps.left_steps.now _ c.in-len1-up.len_at_least in
    let right = front c.loop-left_steps.right_steps.now _ (omega arith) in
    let meant = parted _ _ _ _ _ _ _ _ left right c.if-ne.ensures c.if-not-same_index.ensures in
    c.one_is_every.ensures ∙ (sym meant ∙ c.loop-left_steps.invariant)
