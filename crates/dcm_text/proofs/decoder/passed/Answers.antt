use Rattle.std.proofs.Common.{ap, ◌∙◌, drop, min}
use Rattle.dcm_text.proofs.Calls.{both_dropped}
use Rattle.dcm_text.proofs.decoder.passed.Goals as goal

pub returns : goal.returns
returns c =
    both_dropped c.args.size c.min-from_held.result c.args.held.now.items c.args.input.now c.copied-kept.result.items c.split_at-2.result.1.now
    (c.min-from_held.ensures ∙ ap (min c.args.size) c.len.ensures.value)
    (c.copied-kept.ensures ∙ c.split_at.ensures.back ∙ ap (drop c.min-from_held.result) c.as_slice.ensures.value)
    c.split_at-2.ensures.back
