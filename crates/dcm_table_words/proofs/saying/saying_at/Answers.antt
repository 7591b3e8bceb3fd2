use Rattle.std.proofs.Common.{◌∙◌, sym}
use Rattle.dcm_table_words.proofs.Sayings.{word_at}
use Rattle.dcm_table_words.proofs.saying.saying_at.Goals as goal

pub returns-then-not-has_value : goal.returns-then-not-has_value
returns-then-not-has_value c = word_at c.args.tool _ c.args.at c.args.words.now _ c.if-at-words.false (sym c.has_value.ensures ∙ c.if-not-has_value.true) c.word_says.ensures
