use Rattle.std.proofs.Common.{rules, ◌≡◌, sym, length, ℕ, arith}
use Rattle.dcm_base.specs.Tables.Representation.{unit}
use Rattle.dcm_base.specs.Tree.Value.{turned}
use Rattle.dcm_base.proofs.Conversions.Order.{turned_short, unit_some}
use Rattle.dcm_value.proofs.UnitOrder.Reversals.{turned-one}
use Rattle.dcm_sinks.proofs.encode.copier.put_turned.Goals as goal
use Rattle.dcm_sinks.proofs.encode.copier.put_turned.Goals.{then-unit-eq1-via-then-unit-eq1, then-unit-eq1-via-else-unit-eq1+then-is_empty}

pub returns-then-unit-eq1 : goal.returns-then-unit-eq1
returns-then-unit-eq1 g c =
    let k : ℕ = unit c.args.vr in
    let v = c.args.bytes.now in
    let same : turned k v ≡ v =
    elim c.then-unit-eq1.branch [
      | then-unit-eq1-via-then-unit-eq1 w ↦ (let one : k ≡ 1 = search rules in sym (turned-one k v one))
      | then-unit-eq1-via-else-unit-eq1+then-is_empty w ↦ (let none : length v ≡ 0 = search rules in turned_short k (unit_some c.args.vr) v (let some = unit_some c.args.vr in omega arith))
    ]
    in
    record { bytes = rw same c.put_all.ensures.wrote.bytes; failed = search rules }
