use Rattle.std.proofs.Common.{ap, sym, ◌∙◌, ◌++◌, Bool, List, ℕ}
use Rattle.dcm_base.specs.Dump.ValueText.{shown_unit}
use Rattle.dcm_base.specs.Tree.Value.{units}
use Rattle.dcm_json.specs.NumberState as spec
use Rattle.dcm_json.proofs.UnitPieces.{parts_as, parts_both, parts_both_out, parts_failed_first}
use Rattle.dcm_json.proofs.number_value.put_both.Goals as goal

pub returns-in_err-stands-clause-wrote : goal.returns-in_err-stands-clause-wrote
returns-in_err-stands-clause-wrote g c =
    let a : List (List ℕ) = units (shown_unit c.args.vr) c.args.first.now in
    let b : List (List ℕ) = units (shown_unit c.args.vr) c.args.others.now in
    parts_as _ (sym (parts_both c.args.vr c.args.syntax c.args.begun a b))
    (parts_failed_first _ _ c.from_residual.ensures.0 c.in_err-stands.ensures.wrote.bytes c.in_err-stands.ensures.wrote.failed)

pub returns-clause-wrote : goal.returns-clause-wrote
returns-clause-wrote g c =
    let a : List (List ℕ) = units (shown_unit c.args.vr) c.args.first.now in
    let b : List (List ℕ) = units (shown_unit c.args.vr) c.args.others.now in
    parts_as _ (ap (λ (t : Bool). spec.units_parts c.args.vr c.args.syntax c.args.begun a ++ spec.units_parts c.args.vr c.args.syntax t b) c.in_ok-stands.ensures.stands ∙ sym (parts_both c.args.vr c.args.syntax c.args.begun a b))
    (parts_both_out (spec.units_parts c.args.vr c.args.syntax c.args.begun a) (spec.units_parts c.args.vr c.args.syntax c.in_ok-stands.stands b) _ c.in_ok-stands.ensures.wrote.bytes c.in_ok-stands.ensures.wrote.failed c.put_units-2.ensures.wrote)
