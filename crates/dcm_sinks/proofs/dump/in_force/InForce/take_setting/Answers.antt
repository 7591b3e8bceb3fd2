use Rattle.std.proofs.Common.{◌∙◌, ap}
use Rattle.dcm_base.specs.Steps.Atoms.{closes_leaf, opens}
use Rattle.dcm_sinks.specs.SettingValue.{ForceState, force_step, with_setting}
use Rattle.dcm_sinks.proofs.DecodedDumps.Forces.{kept, value_ends}
use Rattle.dcm_sinks.proofs.dump.in_force.InForce.take_setting.Goals as goal

pub returns : goal.returns
returns c =
    let a = c.args in
    let opened : ForceState = force_step a.self.now (opens a.head.tag a.head.vr a.head.length a.syntax) in
    c.close.ensures
    ∙ ap (λ (f : ForceState). force_step f closes_leaf) (c.add.ensures ∙ ap (λ (f : ForceState). with_setting f (kept a.value.now f.setting)) c.open.ensures)
    ∙ value_ends opened a.value.now
