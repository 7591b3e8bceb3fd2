use Rattle.std.proofs.Common.{rules, ◌≡◌, sym, ◌∙◌, ap, subst}
use Rattle.dcm_base.specs.Dump.ValueText.{shape}
use Rattle.dcm_base.specs.Tables.Representation.{unit}
use Rattle.dcm_base.specs.Lines.ReadValue.{joined}
use Rattle.dcm_value.specs.declared.way.Way.TheVariants.{InUnits}
use Rattle.dcm_value.specs.Way.{way_of}
use Rattle.dcm_value.specs.Units.{kind_of}
use Rattle.dcm_value.specs.Parts.{part_value}
use Rattle.dcm_value.specs.Taking.{Reads}
use Rattle.dcm_value.proofs.ReadBack.Parts.{in_parts}
use Rattle.dcm_value.proofs.reading.read_shape.Goals as goal

pub returns-in-InUnits : goal.returns-in-InUnits
returns-in-InUnits c =
    let is : way_of (shape c.args.vr) 0 ≡ InUnits = search rules in
    let meant = in_parts (shape c.args.vr) (unit c.args.vr) c.args.text.now is in
    let same : joined (part_value c.kind_of.result c.unit_size.result) c.args.text.now ≡ joined (part_value (kind_of (shape c.args.vr)) (unit c.args.vr)) c.args.text.now =
    ap (λ k. joined (part_value k c.unit_size.result) c.args.text.now) c.kind_of.ensures ∙ ap (λ n. joined (part_value (kind_of (shape c.args.vr)) n) c.args.text.now) c.unit_size.ensures.value
    in
    subst (λ m. Reads m c.read_parts.new.value.items c.read_parts.result) (same ∙ sym meant) c.read_parts.ensures
