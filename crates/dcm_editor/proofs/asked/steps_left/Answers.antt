use Rattle.dcm_editor.proofs.Overlapping.Paths.{left_none, left_some}
use Rattle.dcm_editor.proofs.asked.steps_left.Goals as goal

pub returns-then-steps-depth : goal.returns-then-steps-depth
returns-then-steps-depth g c = left_none c.args.depth c.as_slice-steps.result.now c.args.path.now.steps.items c.args.path.now.action c.as_slice-steps.ensures.value c.if-steps-depth.true

pub returns : goal.returns
returns g c =
    left_some c.args.depth c.as_slice-steps.result.now c.args.path.now.steps.items c.split_at.result.1.now c.args.path.now.action c.as_slice-steps.ensures.value c.split_at.ensures.back
