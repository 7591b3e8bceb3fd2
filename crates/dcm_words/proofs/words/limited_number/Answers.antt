use Rattle.std.proofs.Common.{◌≡◌, ap, ℕ, ◌+◌, ◌*◌, get_or, Some, sym, ◌∙◌, arith}
use Rattle.std.proofs.lemmas.Bool.Decides.{nat_tests}
use Rattle.dcm_base.specs.Lines.ReadValue.{digit}
use Rattle.dcm_words.specs.Plans.{capped}
use Rattle.dcm_words.proofs.Limits.{limit_step}
use Rattle.dcm_words.proofs.words.limited_number.Goals as goal

pub loop-byte-preserved : goal.loop-byte-preserved
loop-byte-preserved c =
    let n : ℕ = c.loop-byte.number in
    let i : ℕ = c.loop-byte.byte-index in
    let d : ℕ = c.from.result in
    let next : ℕ = c.min-number.result in
    let is : digit 10 (get_or c.args.digits.now i 0) ≡ Some d = sym c.in_ok-decimal_digit.ensures.value ∙ ap Some (sym c.from.ensures) in
    let least : capped c.args.most (n * 10 + d) ≡ capped c.args.most next = grind (arith, nat_tests, c.min-number.ensures) in
    record {
      same = c.loop-byte.invariant.same ∙ limit_step c.args.most n d next i c.args.digits.now c.loop-byte-test.true is least;
      small = grind (arith, nat_tests, c.min-number.ensures);
    }
