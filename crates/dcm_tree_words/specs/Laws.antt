-- The law of words that ask for runs over trees.
use Rattle.std.specs.Prelude.{◌≡◌, ℕ, List, None, true}
use Rattle.dcm_words.specs.Topics.{asked}
use Rattle.dcm_tree_words.specs.Trees.{asks_tree}

-- words that ask for a run over a tree ask for no text
abbrev pub TreesAskForNoText : Type 0
TreesAskForNoText = (words : List (List ℕ)) → asks_tree words ≡ true → asked words ≡ None
