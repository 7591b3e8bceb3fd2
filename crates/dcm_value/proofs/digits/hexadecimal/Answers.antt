use Rattle.std.proofs.Common.{◌≡◌, ◌∙◌, ◌<◌, ◌^◌, ◌+◌, ℕ, ap, subst, length, IfSome, arith}
use Rattle.dcm_value.proofs.ReadBack.HexDigits.{two_a_byte}
use Rattle.dcm_value.proofs.digits.hexadecimal.Goals as goal

pub returns-clause-small : goal.returns-clause-small
returns-clause-small c =
    let size : ℕ = c.args.size in
    let two : length c.args.digits.now ≡ size + size = omega arith in
    subst (λ k. IfSome c.number.result (λ n. n < k)) (ap (λ k. 16 ^ k) two ∙ two_a_byte size) c.number.ensures.small
