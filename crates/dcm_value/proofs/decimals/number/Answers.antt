use Rattle.std.proofs.Common.{arith, ◌≡◌, ◌∙◌, ap, sym, length}
use Rattle.dcm_value.specs.Numbers.{number_in}
use Rattle.dcm_value.proofs.UnitOrder.Decimals.{eight_little, eight_big}
use Rattle.dcm_value.proofs.decimals.number.Goals as goal

pub returns-in-8-true-clause-value : goal.returns-in-8-true-clause-value
returns-in-8-true-clause-value g c =
    let long : length c.args.bytes.now ≡ 8 = omega arith in
    c.read_u64.ensures ∙ eight_big c.args.bytes.now long ∙ ap (λ b. number_in b c.args.bytes.now) (sym c.in-8-true.is-1)

pub returns-in-8-false-clause-value : goal.returns-in-8-false-clause-value
returns-in-8-false-clause-value g c =
    let long : length c.args.bytes.now ≡ 8 = omega arith in
    c.read_u64-in-8-false.ensures ∙ eight_little c.args.bytes.now long ∙ ap (λ b. number_in b c.args.bytes.now) (sym c.in-8-false.is-1)
