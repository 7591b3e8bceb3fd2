use Rattle.std.proofs.Common.{◌≡◌, ◌-◌, drop, length}
use Rattle.std.specs.List.{list_any}
use Rattle.dcm_tree_words.specs.Pieces.{pieces_of}
use Rattle.dcm_tree_words.specs.TreeWords.{is_of_tree}
use Rattle.dcm_tree_words.proofs.said.has_tree_word.Given as goal

-- the words that are left have one as all of them
abbrev pub invariant-loop-piece : goal.invariant-loop-piece
invariant-loop-piece l = list_any is_of_tree (pieces_of l.tool l.words) ≡ list_any is_of_tree (pieces_of l.tool (drop l.at l.words))

abbrev pub decreases-loop-piece : goal.decreases-loop-piece
decreases-loop-piece l = length l.words - l.at
