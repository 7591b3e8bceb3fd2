use Rattle.std.proofs.Common.{◌≡◌, ◌+◌, ◌≤◌, ◌++◌, length}
use Rattle.std.specs.Prelude.{flat_map}
use Rattle.dcm_text.specs.Shown.{dumped_piece}
use Rattle.dcm_text.specs.TextPieces.{pieces_left}
use Rattle.dcm_value.specs.Decoded.{backslashes}
use Rattle.dcm_value.proofs.whole_decoded.show_front.Given as goal

-- what is shown, and what is left, are all
abbrev pub invariant-loop-pieces : goal.invariant-loop-pieces
invariant-loop-pieces l = record {
  shown : l.shown.items ++ flat_map dumped_piece (pieces_left l.pieces) ≡ l.fn.shown.items ++ flat_map dumped_piece (pieces_left l.fn.pieces);
  count : l.count + backslashes (pieces_left l.pieces) ≡ backslashes (pieces_left l.fn.pieces);
  few : l.count + length l.pieces.rest.now ≤ length l.fn.pieces.rest.now;
}

abbrev pub decreases-loop-pieces : goal.decreases-loop-pieces
decreases-loop-pieces l = length l.pieces.rest.now
