use Rattle.std.proofs.Common.{rules, ◌≡◌, true, false}
use Rattle.dcm_base.specs.Dump.ValueText.{shape}
use Rattle.dcm_base.specs.Tables.Representation.{unit}
use Rattle.dcm_base.specs.Tables.Syntax.{is_big}
use Rattle.dcm_value.specs.declared.units.Kind.TheVariants.{Unsigned, Signed}
use Rattle.dcm_value.specs.Units.{kind_of}
use Rattle.dcm_value.proofs.UnitOrder.NumberLists.{numbers_shown}
use Rattle.dcm_value.proofs.Displays.Emits.{emits_same}
use Rattle.dcm_value.proofs.display.Shown.emit_units.Goals as goal

pub returns-in-Unsigned : goal.returns-in-Unsigned
returns-in-Unsigned g c =
    let vr = c.args.vr in
    let syntax = c.args.syntax in
    let kind : kind_of (shape vr) ≡ Unsigned = search rules in
    let size : c.unit.result ≡ unit vr = search rules in
    let big : c.is_big.result ≡ is_big syntax = search rules in
    emits_same (numbers_shown syntax vr false c.is_big.result c.unit.result c.args.units.now kind size big) c.emit_numbers.ensures

pub returns-in-Signed : goal.returns-in-Signed
returns-in-Signed g c =
    let vr = c.args.vr in
    let syntax = c.args.syntax in
    let kind : kind_of (shape vr) ≡ Signed = search rules in
    let size : c.unit-in-Signed.result ≡ unit vr = search rules in
    let big : c.is_big-in-Signed.result ≡ is_big syntax = search rules in
    emits_same (numbers_shown syntax vr true c.is_big-in-Signed.result c.unit-in-Signed.result c.args.units.now kind size big) c.emit_numbers-in-Signed.ensures
