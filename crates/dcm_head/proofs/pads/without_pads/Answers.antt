use Rattle.std.proofs.Common.{◌∙◌, ap, take}
use Rattle.dcm_head.proofs.MetaGroups.Transfers.{pads_front}
use Rattle.dcm_head.proofs.pads.without_pads.Goals as goal

pub returns-clause-value : goal.returns-clause-value
returns-clause-value c = c.split_at.ensures.front ∙ ap (λ n. take n c.args.value.now) c.size_without_pads.ensures.size
    ∙ pads_front c.args.value.now
