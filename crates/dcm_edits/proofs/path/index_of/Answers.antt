use Rattle.std.proofs.Common.{◌∙◌, sym, arith}
use Rattle.dcm_edits.proofs.Words.IndexNumbers.{nine_read}
use Rattle.dcm_edits.proofs.path.index_of.Goals as goal

pub overflow_cast-result : goal.overflow_cast-result
overflow_cast-result c =
    let small = nine_read c.args.text.now c.in_ok-number.number (omega arith) (sym c.decimal_number.ensures ∙ c.in_ok-number.was) in
    omega (arith, small)
