use Rattle.std.proofs.Common.{◌≡◌, ◌+◌, ◌≤◌, length}
use Rattle.dcm_text.specs.TextPieces.{pieces_left}
use Rattle.dcm_value.specs.Decoded.{backslashes}
use Rattle.dcm_value.proofs.whole_decoded.count_rest.Given as goal

-- those that were counted, and those that are left, are all
abbrev pub invariant-loop-next : goal.invariant-loop-next
invariant-loop-next l = record {
  count : l.count + backslashes (pieces_left l.pieces) ≡ backslashes (pieces_left l.fn.pieces);
  few : l.count + length l.pieces.rest.now ≤ length l.fn.pieces.rest.now;
}

abbrev pub decreases-loop-next : goal.decreases-loop-next
decreases-loop-next l = length l.pieces.rest.now
