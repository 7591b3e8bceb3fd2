use Rattle.std.proofs.Common.{rules, ◌<◌, ap, sym, refl, subst, arith, length}
use Rattle.std.proofs.Math.Nat.{div-le_self}
use Rattle.dcm_base.specs.Dump.ValueText.{shown_unit}
use Rattle.dcm_value.specs.Way.{room}
use Rattle.dcm_value.specs.ValueText.{progress}
use Rattle.dcm_value.proofs.Displays.Emits.{settled_of}
use Rattle.dcm_value.proofs.Displays.UnitSteps.{fed_goes, fed_stops}
use Rattle.dcm_value.proofs.UnitOrder.Buffers.{Fed, fed_of, fed_lengths}
use Rattle.dcm_value.proofs.value_text.ValueText.feed_units.Goals as goal

pub invariant_of-self-clause-counted : goal.invariant_of-self-clause-counted
invariant_of-self-clause-counted g c =
    let p = progress c.args.self.now in
    let fed : Fed (shown_unit p.vr) p.held c.args.bytes.now c.feed-units.result.first.items c.feed-units.result.others.now c.feed-units.new.self.bytes.items = fed_of refl c.shown_unit.ensures.value c.feed-units.ensures.bytes c.feed-units.ensures.first c.feed-units.ensures.others c.feed-units.ensures.held in
    let were = c.args.self.now.counted in
    omega (arith, fed_lengths fed)

pub invariant_of-self-clause-waiting : goal.invariant_of-self-clause-waiting
invariant_of-self-clause-waiting g c =
    let p = progress c.args.self.now in
    let fed : Fed (shown_unit p.vr) p.held c.args.bytes.now c.feed-units.result.first.items c.feed-units.result.others.now c.feed-units.new.self.bytes.items = fed_of refl c.shown_unit.ensures.value c.feed-units.ensures.bytes c.feed-units.ensures.first c.feed-units.ensures.others c.feed-units.ensures.held in
    subst (λ w. length c.feed-units.new.self.bytes.items < room w p.vr) (sym c.requires.way) fed.left

pub show_units-requires-clause-counted : goal.show_units-requires-clause-counted
show_units-requires-clause-counted g c =
    let p = progress c.args.self.now in
    let fed : Fed (shown_unit p.vr) p.held c.args.bytes.now c.as_slice.result.now c.feed-units.result.others.now c.feed-units.new.self.bytes.items = fed_of c.as_slice.ensures.value c.shown_unit.ensures.value c.feed-units.ensures.bytes c.feed-units.ensures.first c.feed-units.ensures.others c.feed-units.ensures.held in
    let were = c.args.self.now.counted in
    omega (arith, fed_lengths fed)

pub show_units-requires-2-clause-counted : goal.show_units-requires-2-clause-counted
show_units-requires-2-clause-counted g c =
    let p = progress c.args.self.now in
    let fed : Fed (shown_unit p.vr) p.held c.args.bytes.now c.as_slice.result.now c.feed-units.result.others.now c.feed-units.new.self.bytes.items = fed_of c.as_slice.ensures.value c.shown_unit.ensures.value c.feed-units.ensures.bytes c.feed-units.ensures.first c.feed-units.ensures.others c.feed-units.ensures.held in
    let were = c.args.self.now.counted in
    let state = c.in_ok-show_units.ensures.state in
    let values = ap (λ q. q.values) state in
    let held = ap (λ q. length q.held) state in
    let seen = ap (λ q. q.seen) state in
    omega (arith, fed_lengths fed, div-le_self (length c.as_slice.result.now) (shown_unit p.vr))

pub returns-in_err-show_units-clause-went : goal.returns-in_err-show_units-clause-went
returns-in_err-show_units-clause-went g c =
    let p = progress c.args.self.now in
    let s = c.args.self.now.shown in
    let short : length p.held < shown_unit p.vr = subst (λ w. length p.held < room w p.vr) c.requires.way c.args.self.now.waiting in
    let fed : Fed (shown_unit p.vr) p.held c.args.bytes.now c.as_slice.result.now c.feed-units.result.others.now c.feed-units.new.self.bytes.items = fed_of c.as_slice.ensures.value c.shown_unit.ensures.value c.feed-units.ensures.bytes c.feed-units.ensures.first c.feed-units.ensures.others c.feed-units.ensures.held in
    record { goes = fed_stops p _ _ _ _ c.requires.way (settled_of s.mode s.count s.front.items s.capped s.filled) short fed _ _ _ _ c.from_residual.ensures.0 c.in_err-show_units.ensures.wrote.bytes; failed = search rules }

pub returns-clause-went : goal.returns-clause-went
returns-clause-went g c =
    let p = progress c.args.self.now in
    let s = c.args.self.now.shown in
    let short : length p.held < shown_unit p.vr = subst (λ w. length p.held < room w p.vr) c.requires.way c.args.self.now.waiting in
    let fed : Fed (shown_unit p.vr) p.held c.args.bytes.now c.as_slice.result.now c.feed-units.result.others.now c.feed-units.new.self.bytes.items = fed_of c.as_slice.ensures.value c.shown_unit.ensures.value c.feed-units.ensures.bytes c.feed-units.ensures.first c.feed-units.ensures.others c.feed-units.ensures.held in
    record { goes = fed_goes p _ _ _ _ c.requires.way (settled_of s.mode s.count s.front.items s.capped s.filled) short fed _ _ _ _ _ _ c.in_ok-show_units.ensures.state c.in_ok-show_units.ensures.wrote.bytes c.show_units-2.ensures.state c.show_units-2.ensures.wrote.bytes; failed = search rules }
