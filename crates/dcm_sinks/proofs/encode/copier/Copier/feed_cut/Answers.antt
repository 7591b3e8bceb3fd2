use Rattle.std.proofs.Common.{rules, refl}
use Rattle.dcm_base.proofs.Conversions.Order.{unit_some}
use Rattle.dcm_value.proofs.UnitOrder.Buffers.{Fed, fed_of}
use Rattle.dcm_sinks.specs.Copier.{copying}
use Rattle.dcm_sinks.proofs.Conversions.Copies.{fed_goes, fed_stops}
use Rattle.dcm_sinks.proofs.encode.copier.Copier.feed_cut.Goals as goal

pub returns-in_err-put_ordered : goal.returns-in_err-put_ordered
returns-in_err-put_ordered g c =
    let p = copying c.args.self.now in
    let fed : Fed p.unit p.held c.args.bytes.now c.as_slice.result.now c.feed-units.result.others.now c.feed-units.new.self.bytes.items = fed_of c.as_slice.ensures.value c.unit.ensures c.feed-units.ensures.bytes c.feed-units.ensures.first c.feed-units.ensures.others c.feed-units.ensures.held in
    record { goes = fed_stops p (unit_some c.args.self.now.vr) c.args.self.now.short c.args.bytes.now _ _ _ fed _ _ _ _ c.from_residual.ensures.0 c.in_err-put_ordered.ensures.bytes; failed = search rules }

pub returns : goal.returns
returns g c =
    let p = copying c.args.self.now in
    let fed : Fed p.unit p.held c.args.bytes.now c.as_slice.result.now c.feed-units.result.others.now c.feed-units.new.self.bytes.items = fed_of c.as_slice.ensures.value c.unit.ensures c.feed-units.ensures.bytes c.feed-units.ensures.first c.feed-units.ensures.others c.feed-units.ensures.held in
    record { goes = fed_goes p (unit_some c.args.self.now.vr) c.args.self.now.short c.args.bytes.now _ _ _ fed _ _ _ _ _ refl c.in_ok-put_ordered.ensures.bytes c.put_ordered-2.ensures.bytes; failed = search rules }
