use Rattle.std.proofs.Common.{◌∙◌, sym}
use Rattle.dcm_tree_words.proofs.PartNumbers.{short_below}
use Rattle.dcm_tree_words.proofs.part_word.part_of.Goals as goal

pub part_of_numbers-requires : goal.part_of_numbers-requires
part_of_numbers-requires c = short_below c.in_ok-count.field-0.now c.in_ok-count-2.count (sym c.short_number-2.ensures ∙ c.in_ok-count-2.was)
