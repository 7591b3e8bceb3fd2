use Rattle.std.proofs.Common.{◌≡◌, ◌≤◌, ◌+◌, ◌-◌, drop, length}
use Rattle.dcm_tree_words.specs.Pieces.{pieces_of}
use Rattle.dcm_tree_words.specs.TreeWords.{number_from}
use Rattle.dcm_tree_words.proofs.own.number_from.Given as goal

-- the word is among those that are left, with so many of the tool before it
abbrev pub invariant-loop-piece : goal.invariant-loop-piece
invariant-loop-piece l = record {
  same : number_from 2 (pieces_of l.tool l.words) l.before ≡ number_from (l.at + 2) (pieces_of l.tool (drop l.at l.words)) l.left;
  within : l.at ≤ length l.words;
}

abbrev pub decreases-loop-piece : goal.decreases-loop-piece
decreases-loop-piece l = length l.words - l.at
