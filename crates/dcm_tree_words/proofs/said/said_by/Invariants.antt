use Rattle.std.proofs.Common.{◌≡◌, ◌-◌, drop, length}
use Rattle.dcm_tree_words.specs.Pieces.{pieces_of}
use Rattle.dcm_tree_words.specs.Plans.{said_as}
use Rattle.dcm_tree_words.specs.Trees.{nothing_said, said_after}
use Rattle.dcm_tree_words.proofs.said.said_by.Given as goal

-- the words that are left say, after what was said, what all of them say
abbrev pub invariant-loop-piece : goal.invariant-loop-piece
invariant-loop-piece l = said_after (nothing_said l.tool) (pieces_of l.tool l.words) ≡ said_after (said_as l.said) (pieces_of l.tool (drop l.at l.words))

abbrev pub decreases-loop-piece : goal.decreases-loop-piece
decreases-loop-piece l = length l.words - l.at
