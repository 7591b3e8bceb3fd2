use Rattle.std.proofs.Common.{rules, ◌≡◌, ◌≢◌, false}
use Rattle.dcm_base.specs.declared.vr.Vr.TheVariants.{SQ}
use Rattle.dcm_base.specs.Lines.ReadValue.{is_no_value, value_in, value_of_text}
use Rattle.dcm_base.specs.Dump.ValueText.{shape}
use Rattle.dcm_base.specs.Tables.Representation.{unit}
use Rattle.dcm_value.proofs.ReadBack.Parts.{means, meant_by}
use Rattle.dcm_value.proofs.reading.read_value_into.Goals as goal

pub returns : goal.returns
returns c =
    let other : c.args.vr ≢ SQ = search rules in
    let some : is_no_value c.args.text.now ≡ false = search rules in
    means (value_of_text c.args.vr c.args.text.now) (value_in (shape c.args.vr) (unit c.args.vr) c.args.text.now) c.read_shape.new.value.items c.read_shape.result (meant_by c.args.vr c.args.text.now other some) c.read_shape.ensures
