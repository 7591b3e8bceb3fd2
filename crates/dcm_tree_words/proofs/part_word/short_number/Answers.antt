use Rattle.std.proofs.Common.{◌∙◌, sym, arith}
use Rattle.dcm_tree_words.proofs.PartNumbers.{four_read}
use Rattle.dcm_tree_words.proofs.part_word.short_number.Goals as goal

pub overflow_cast-result : goal.overflow_cast-result
overflow_cast-result c =
    let small = four_read c.args.digits.now c.in_ok-number.number (omega arith) (sym c.decimal_number.ensures ∙ c.in_ok-number.was) in
    omega (arith, small)
