use Rattle.std.proofs.Common.{◌≡◌, ◌++◌, ◌-◌, drop, length}
use Rattle.dcm_tree_words.specs.Pieces.{pieces_of, texts}
use Rattle.dcm_tree_words.specs.TreeWords.{own_words}
use Rattle.dcm_tree_words.proofs.own.append_own.Given as goal

-- with those of the words that are left they are all
abbrev pub invariant-loop-piece : goal.invariant-loop-piece
invariant-loop-piece g l = texts l.fn.own.items ++ own_words (pieces_of l.tool l.words) ≡ texts l.own.items ++ own_words (pieces_of l.tool (drop l.at l.words))

abbrev pub decreases-loop-piece : goal.decreases-loop-piece
decreases-loop-piece g l = length l.words - l.at
