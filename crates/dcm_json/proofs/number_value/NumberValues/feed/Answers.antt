use Rattle.std.proofs.Common.{ap, ◌∙◌}
use Rattle.dcm_value.proofs.UnitOrder.Buffers.{fed_of}
use Rattle.dcm_json.specs.NumberState.{NumberState, fed, feeds}
use Rattle.dcm_json.proofs.UnitPieces.{fed_is, feeds_is, parts_as, parts_failed_alone}
use Rattle.dcm_json.proofs.number_value.NumberValues.feed.Goals as goal

pub returns-in_err-self-inside-clause-wrote : goal.returns-in_err-self-inside-clause-wrote
returns-in_err-self-inside-clause-wrote g c =
    let u = c.feed-units.ensures in
    parts_as _ (feeds_is c.self.inside.vr c.self.inside.syntax c.self.inside.begun c.self.inside.held.bytes.items c.args.bytes.now c.as_slice-first.result.now c.feed-units.result.others.now c.feed-units.new.self.bytes.items (fed_of c.as_slice-first.ensures.value c.shown_unit.ensures.value u.bytes u.first u.others u.held)
    ∙ ap (λ (n : NumberState). feeds n c.args.bytes.now) c.self.view_is)
    (parts_failed_alone _ c.from_residual.ensures.0 c.in_err-self-inside.ensures.wrote.bytes c.in_err-self-inside.ensures.wrote.failed)

pub returns-clause-state : goal.returns-clause-state
returns-clause-state g c =
    let u = c.feed-units.ensures in
    fed_is c.self.inside.vr c.self.inside.syntax c.self.inside.begun c.in_ok-self-inside.field-0 c.self.inside.held.bytes.items c.args.bytes.now c.as_slice-first.result.now c.feed-units.result.others.now c.feed-units.new.self.bytes.items (fed_of c.as_slice-first.ensures.value c.shown_unit.ensures.value u.bytes u.first u.others u.held) c.in_ok-self-inside.ensures.stands
    ∙ ap (λ (n : NumberState). fed n c.args.bytes.now) c.self.view_is

pub returns-clause-wrote : goal.returns-clause-wrote
returns-clause-wrote g c =
    let u = c.feed-units.ensures in
    parts_as _ (feeds_is c.self.inside.vr c.self.inside.syntax c.self.inside.begun c.self.inside.held.bytes.items c.args.bytes.now c.as_slice-first.result.now c.feed-units.result.others.now c.feed-units.new.self.bytes.items (fed_of c.as_slice-first.ensures.value c.shown_unit.ensures.value u.bytes u.first u.others u.held)
    ∙ ap (λ (n : NumberState). feeds n c.args.bytes.now) c.self.view_is)
    (record { bytes = c.in_ok-self-inside.ensures.wrote.bytes; failed = c.in_ok-self-inside.ensures.wrote.failed })
