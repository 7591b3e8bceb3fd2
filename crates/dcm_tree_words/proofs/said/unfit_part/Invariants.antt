use Rattle.std.proofs.Common.{◌≡◌, ◌+◌, ◌-◌, drop, length}
use Rattle.dcm_tree_words.specs.Pieces.{pieces_of}
use Rattle.dcm_tree_words.specs.Trees.{unfit_from}
use Rattle.dcm_tree_words.proofs.said.unfit_part.Given as goal

-- the words that are left have the first as all of them
abbrev pub invariant-loop-piece : goal.invariant-loop-piece
invariant-loop-piece l = unfit_from 2 (pieces_of l.tool l.words) ≡ unfit_from (l.at + 2) (pieces_of l.tool (drop l.at l.words))

abbrev pub decreases-loop-piece : goal.decreases-loop-piece
decreases-loop-piece l = length l.words - l.at
