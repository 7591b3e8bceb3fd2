use Rattle.std.proofs.Common.{rules, ◌≡◌, ◌<◌, length}
use Rattle.dcm_value.specs.ValueText.{progress}
use Rattle.dcm_value.proofs.UnitOrder.HighestFirst.{shown_some}
use Rattle.dcm_value.proofs.Displays.UnitSteps.{others_state, others_bytes, first_failed}
use Rattle.dcm_value.proofs.value_text.ValueText.show_units.Goals as goal

pub returns-in_err-show_first-clause-wrote : goal.returns-in_err-show_first-clause-wrote
returns-in_err-show_first-clause-wrote g c =
    let p = progress c.args.self.now in
    let none : p.values ≡ 0 = search rules in
    let any : 0 < length c.args.units.now = search rules in
    record { bytes = first_failed p (shown_some p.vr) c.args.units.now c.split_at.result.0.now c.split_at.result.1.now none any c.requires.whole (search rules) (search rules) _ _ _ c.from_residual.ensures.0 c.in_err-show_first.ensures.wrote.bytes; failed = search rules }

pub returns-clause-state : goal.returns-clause-state
returns-clause-state g c =
    let p = progress c.args.self.now in
    let none : p.values ≡ 0 = search rules in
    let any : 0 < length c.args.units.now = search rules in
    others_state p (shown_some p.vr) c.args.units.now c.split_at.result.0.now c.split_at.result.1.now none any c.requires.whole (search rules) (search rules) _ c.in_ok-show_first.ensures.state _ _ c.show_others-2.ensures.state

pub returns-clause-wrote : goal.returns-clause-wrote
returns-clause-wrote g c =
    let p = progress c.args.self.now in
    let none : p.values ≡ 0 = search rules in
    let any : 0 < length c.args.units.now = search rules in
    record { bytes = others_bytes p (shown_some p.vr) c.args.units.now c.split_at.result.0.now c.split_at.result.1.now none any c.requires.whole (search rules) (search rules) _ c.in_ok-show_first.ensures.state _ _ _ _ c.in_ok-show_first.ensures.wrote.bytes c.show_others-2.ensures.wrote.bytes; failed = search rules }
