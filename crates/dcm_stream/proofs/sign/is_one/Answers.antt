use Rattle.std.proofs.Common.{◌∙◌, ◌-◌, ap, sym, ℕ, get_or, arith}
use Rattle.std.specs.Prelude.{◌==◌, ◌&&◌, bytes_eq, ◌∷◌, []}
use Rattle.dcm_stream.proofs.Containers.SignBytes.{begins, turned_is_one, plain_one, single_one, short_one}
use Rattle.dcm_stream.proofs.sign.is_one.Goals as goal
use Rattle.dcm_stream.proofs.sign.is_one.Goals.{else-is_big-via-then-is_big+then-unit-gt1+else-first-unit, else-is_big-via-then-is_big+else-unit-gt1, else-is_big-via-else-is_big}

pub returns-then-first-unit : goal.returns-then-first-unit
returns-then-first-unit c =
    let first = c.args.first.now in
    c.are_one.ensures ∙ ap (λ (k : ℕ). (get_or first (k - 1) 0 == 1) && (get_or first (k - 2) 0 == 0)) c.unit-unit.ensures
    ∙ turned_is_one c.args.syntax c.args.vr first (sym c.is_big.ensures ∙ c.if-is_big.true)
    (omega (arith, c.unit-unit.ensures, c.if-unit-gt1.true)) (omega (arith, c.unit-unit.ensures, c.if-first-unit.true))

pub returns : goal.returns
returns c =
    let first = c.args.first.now in
    let begun = c.begin_one.ensures ∙ ap (λ (p : ℕ). bytes_eq (begins p first) (1 ∷ 0 ∷ [])) c.pad.ensures in
    elim c.else-is_big.branch [
      | else-is_big-via-then-is_big+then-unit-gt1+else-first-unit w ↦
          begun ∙ short_one c.args.syntax c.args.vr first (sym c.is_big.ensures ∙ w.if-is_big.true) (omega (arith, c.unit-unit.ensures, w.if-first-unit.false))
      | else-is_big-via-then-is_big+else-unit-gt1 w ↦
          begun ∙ single_one c.args.syntax c.args.vr first (sym c.is_big.ensures ∙ w.if-is_big.true) (omega (arith, c.unit-unit.ensures, w.if-unit-gt1.false))
      | else-is_big-via-else-is_big w ↦ begun ∙ plain_one c.args.syntax c.args.vr first (sym c.is_big.ensures ∙ w.if-is_big.false)
    ]
