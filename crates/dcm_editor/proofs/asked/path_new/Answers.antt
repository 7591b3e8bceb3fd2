use Rattle.std.proofs.Common.{◌∙◌, ap}
use Rattle.dcm_editor.specs.Asking as asking
use Rattle.dcm_editor.proofs.Overlapping.Paths.{none_left, sequence_left}
use Rattle.dcm_editor.proofs.asked.path_new.Goals as goal

pub returns-in_err-element : goal.returns-in_err-element
returns-in_err-element g c = ap asking.seen_of c.from_residual.ensures ∙ none_left _ c.steps_left-left.result.now c.args.path.now.action c.steps_left-left.ensures c.in_err-element.ensures

pub returns-in-Some : goal.returns-in-Some
returns-in-Some g c = sequence_left _ c.steps_left-left.result.now c.args.path.now.action _ _ _ _ c.steps_left-left.ensures c.in_ok-element.ensures c.if-is_empty.ensures c.in-Some.ensures

pub returns-in-None : goal.returns-in-None
returns-in-None g c = sequence_left _ c.steps_left-left.result.now c.args.path.now.action _ _ _ _ c.steps_left-left.ensures c.in_ok-element.ensures c.if-is_empty.ensures c.in-None.ensures
