use Rattle.std.proofs.Common.{◌≡◌, ◌+◌, ◌≤◌, ◌++◌, length}
use Rattle.std.specs.Prelude.{flat_map}
use Rattle.dcm_text.specs.Shown.{dumped_piece}
use Rattle.dcm_text.specs.TextPieces.{pieces_left}
use Rattle.dcm_value.specs.Decoded.{backslashes}
use Rattle.dcm_value.proofs.Displays.OutInBlocks.{Out}
use Rattle.dcm_value.proofs.whole_put.put_others.Given as goal

-- what went out, the block, and what is left, are all
abbrev pub invariant-loop-next : goal.invariant-loop-next
invariant-loop-next g l = record {
  out : Out (g.W.DeviceOut.contents l.fn.out) (g.W.DeviceOut.contents l.out) (flat_map dumped_piece (pieces_left l.fn.pieces))
      (l.block.items ++ flat_map dumped_piece (pieces_left l.pieces));
  failed : g.W.Device.has_failed l.out ≡ g.W.Device.has_failed l.fn.out;
  room : length l.block.items ≤ 756;
  count : l.count + backslashes (pieces_left l.pieces) ≡ backslashes (pieces_left l.fn.pieces);
  few : l.count + length l.pieces.rest.now ≤ length l.fn.pieces.rest.now;
}

abbrev pub decreases-loop-next : goal.decreases-loop-next
decreases-loop-next g l = length l.pieces.rest.now
