use Rattle.std.proofs.Common.{arith, ◌≡◌, ◌∙◌, sym, ap, ℕ, get_or, Some}
use Rattle.dcm_base.specs.Lines.ReadValue.{digit}
use Rattle.dcm_value.proofs.ReadBack.HexDigits.{digit_fits, within_word, number_step}
use Rattle.dcm_value.proofs.digits.number.Goals as goal

pub overflow_mul-number : goal.overflow_mul-number
overflow_mul-number c =
    let i : ℕ = c.loop-byte.byte-index in
    let n : ℕ = c.loop-byte.number in
    omega (arith, within_word n i c.loop-byte.invariant.small (omega arith))

pub overflow_add-number : goal.overflow_add-number
overflow_add-number c =
    let i : ℕ = c.loop-byte.byte-index in
    let n : ℕ = c.loop-byte.number in
    let digit : c.from.result ≡ c.in_ok-hexadecimal_digit.field-0 = c.from.ensures in
    omega (arith, within_word n i c.loop-byte.invariant.small (omega arith), digit, c.in_ok-hexadecimal_digit.ensures.below)

pub loop-byte-preserved : goal.loop-byte-preserved
loop-byte-preserved c =
    let i : ℕ = c.loop-byte.byte-index in
    let n : ℕ = c.loop-byte.number in
    let is : digit 16 (get_or c.args.digits.now i 0) ≡ Some c.from.result = sym c.in_ok-hexadecimal_digit.ensures.value ∙ ap Some (sym c.from.ensures) in
    let step = number_step n c.from.result i c.args.digits.now c.loop-byte-test.true is in
    record {
      same = c.loop-byte.invariant.same ∙ step;
      small = digit_fits n c.from.result i c.loop-byte.invariant.small (omega (arith, c.in_ok-hexadecimal_digit.ensures.below));
    }
