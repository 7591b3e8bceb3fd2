use Rattle.dcm_tree_words.proofs.NoText.{no_text}
use Rattle.dcm_tree_words.proofs.laws.trees_ask_for_no_text.Goals as goal

pub returns : goal.returns
returns c = no_text
