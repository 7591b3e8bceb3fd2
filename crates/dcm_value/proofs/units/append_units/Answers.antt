use Rattle.std.proofs.Common.{rules, sym, ◌≡◌, false, ◌++◌}
use Rattle.dcm_base.specs.Tree.Value.{turned, units}
use Rattle.dcm_base.specs.Dump.ValueText.{shape, shown_unit}
use Rattle.dcm_base.specs.Tables.Representation.{unit}
use Rattle.dcm_base.specs.Tables.Syntax.{is_big}
use Rattle.dcm_value.specs.Units.{kind_of, high_text, high, separated}
use Rattle.dcm_value.proofs.UnitOrder.HighestFirst.{big_stays, bytes_stay, others_turn, shows_units}
use Rattle.dcm_value.proofs.units.append_units.Goals as goal
use Rattle.dcm_value.proofs.units.append_units.Goals.{then-is_big-via-then-is_big, then-is_big-via-else-is_big+then-unit-eq1}

pub returns-then-is_big-clause-text : goal.returns-then-is_big-clause-text
returns-then-is_big-clause-text g c =
    let v = c.args.units.now in
    let shown : c.append_high.new.text.items ≡ c.args.text.now.items ++ separated (high_text (kind_of (shape c.args.vr))) (units (shown_unit c.args.vr) v) = search rules in
    let stays : high c.args.syntax c.args.vr v ≡ v =
    elim c.then-is_big.branch [
      | then-is_big-via-then-is_big w ↦ big_stays c.args.syntax c.args.vr v (search rules)
      | then-is_big-via-else-is_big+then-unit-eq1 w ↦ bytes_stay c.args.syntax c.args.vr v (search rules)
    ]
    in
    shows_units c.args.syntax c.args.vr v v _ _ (sym stays) shown

pub returns-then-units-le-FEW_BYTES-clause-text : goal.returns-then-units-le-FEW_BYTES-clause-text
returns-then-units-le-FEW_BYTES-clause-text g c =
    let v = c.args.units.now in
    let not_big : is_big c.args.syntax ≡ false = search rules in
    shows_units c.args.syntax c.args.vr v (turned (unit c.args.vr) v) _ _ (sym (others_turn c.args.syntax c.args.vr v not_big)) c.append_turned.ensures.text

pub returns-clause-text : goal.returns-clause-text
returns-clause-text g c =
    let v = c.args.units.now in
    let not_big : is_big c.args.syntax ≡ false = search rules in
    shows_units c.args.syntax c.args.vr v (turned (unit c.args.vr) v) _ _ (sym (others_turn c.args.syntax c.args.vr v not_big)) c.append_turned-2.ensures.text
