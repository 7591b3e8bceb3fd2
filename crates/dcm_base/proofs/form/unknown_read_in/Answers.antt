use Rattle.std.proofs.Common.{true, false, sym, ◌∙◌}
use Rattle.dcm_base.proofs.Dictionaries.Sequences.{unknown_is_read}
use Rattle.dcm_base.proofs.form.unknown_read_in.Goals as goal

pub returns-then-is_standard_sequence : goal.returns-then-is_standard_sequence
returns-then-is_standard_sequence c =
    unknown_is_read c.args.dictionary c.args.tag true c.in-Standard.is
    (sym c.if-is_standard_sequence.true ∙ c.is_standard_sequence.ensures)

pub returns-else-is_standard_sequence : goal.returns-else-is_standard_sequence
returns-else-is_standard_sequence c =
    unknown_is_read c.args.dictionary c.args.tag false c.in-Standard.is
    (sym c.if-is_standard_sequence.false ∙ c.is_standard_sequence.ensures)
