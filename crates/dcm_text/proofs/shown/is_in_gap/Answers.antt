use Rattle.std.proofs.Common.{arith}
use Rattle.dcm_text.proofs.Gaps.{of_ascii, of_latin, of_greek, of_arabic, of_kana, of_kanji}
use Rattle.dcm_text.proofs.shown.is_in_gap.Goals as goal

pub returns-in-32-to-126 : goal.returns-in-32-to-126
returns-in-32-to-126 c = λ is. of_ascii c.args.number (omega (arith, c.in-32-to-126)) (omega (arith, c.in-32-to-126))

pub returns-in-32-to-126-2 : goal.returns-in-32-to-126-2
returns-in-32-to-126-2 c = λ is. of_latin c.args.number (omega (arith, c.in-32-to-126)) (omega (arith, c.in-32-to-126))

pub returns-in-32-to-126-3 : goal.returns-in-32-to-126-3
returns-in-32-to-126-3 c = λ is. of_greek c.args.number (omega (arith, c.in-32-to-126)) (omega (arith, c.in-32-to-126))

pub returns-in-32-to-126-4 : goal.returns-in-32-to-126-4
returns-in-32-to-126-4 c = λ is. of_arabic c.args.number (omega (arith, c.in-32-to-126)) (omega (arith, c.in-32-to-126))

pub returns-in-32-to-126-5 : goal.returns-in-32-to-126-5
returns-in-32-to-126-5 c = λ is. of_kana c.args.number (omega (arith, c.in-32-to-126)) (omega (arith, c.in-32-to-126))

pub returns-in-32-to-126-6 : goal.returns-in-32-to-126-6
returns-in-32-to-126-6 c = λ is. of_kanji c.args.number (omega (arith, c.in-32-to-126)) (omega (arith, c.in-32-to-126))
