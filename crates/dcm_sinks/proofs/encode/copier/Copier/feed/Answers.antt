use Rattle.std.proofs.Common.{rules, ◌≡◌, ◌∙◌, sym, ◌%◌, [], length}
use Rattle.std.proofs.lemmas.List.{nil_from_length}
use Rattle.dcm_base.specs.Tables.Representation.{unit}
use Rattle.dcm_base.proofs.Conversions.Order.{unit_some}
use Rattle.dcm_sinks.specs.Copier.{copying}
use Rattle.dcm_sinks.proofs.Conversions.Copies.{whole_goes}
use Rattle.dcm_sinks.proofs.encode.copier.Copier.feed.Goals as goal

pub returns-then-bytes-unit-eq0 : goal.returns-then-bytes-unit-eq0
returns-then-bytes-unit-eq0 g c =
    let p = copying c.args.self.now in
    let size : length c.as_slice.result.now ≡ 0 = search rules in
    let none : c.args.self.now.held.bytes.items ≡ [] = sym c.as_slice.ensures ∙ nil_from_length c.as_slice.result.now size in
    let whole : length c.args.bytes.now % unit c.args.self.now.vr ≡ 0 = search rules in
    record { goes = whole_goes p (unit_some c.args.self.now.vr) c.args.bytes.now none whole _ _ _ c.put_ordered.ensures.bytes; failed = search rules }
