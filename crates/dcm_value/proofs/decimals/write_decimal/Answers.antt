use Rattle.std.proofs.Common.{arith, ◌≡◌, ◌+◌, ℕ, length, decimal, refl}
use Rattle.dcm_value.proofs.UnitOrder.Decimals.{digits_fit, written_behind}
use Rattle.dcm_value.proofs.decimals.write_decimal.Goals as goal

pub overflow_add-end : goal.overflow_add-end
overflow_add-end c = omega (arith, digits_fit c.args.number c.ranges.number.fits)

pub write_digits-requires : goal.write_digits-requires
write_digits-requires c = (omega (arith, c.digits.ensures), omega (arith, digits_fit c.args.number c.ranges.number.fits))

pub returns-clause-text : goal.returns-clause-text
returns-clause-text c =
    let at : ℕ = c.args.at in
    let start : ℕ = c.write_digits.result in
    let size : ℕ = length (decimal c.args.number) in
    let same : start ≡ at = omega arith in
    let ends : at + c.digits.result ≡ at + size = omega arith in
    written_behind at start (at + c.digits.result) size c.args.text.now c.write_digits.new.buf (decimal c.args.number) _ same ends refl c.write_digits.ensures.before c.write_digits.ensures.written

pub returns-clause-within : goal.returns-clause-within
returns-clause-within c = omega (arith, digits_fit c.args.number c.ranges.number.fits)
