use Rattle.std.proofs.Common.{rules, ◌≡◌, ◌==◌, false, List, ℕ, length, subst}
use Rattle.dcm_base.specs.Dump.ValueText.{padded}
use Rattle.dcm_devices.specs.Device.{Puts}
use Rattle.dcm_text.specs.TextPieces.{pieces_left}
use Rattle.dcm_value.specs.DecodedDisplay.{bracketed_pieces, decoded_display}
use Rattle.dcm_value.specs.DecodedProgress.{is_named}
use Rattle.dcm_value.proofs.Displays.DecodedPieces.{pieces_display}
use Rattle.dcm_value.proofs.whole_put.put_decoded.Goals as goal

pub returns-clause-wrote : goal.returns-clause-wrote
returns-clause-wrote g c =
    let vr = c.args.vr in
    let sets = c.args.sets in
    let v : List ℕ = c.args.value.now in
    let some : (length v == 0) ≡ false = search rules in
    let text : is_named vr (length v) ≡ false = search rules in
    let display : bracketed_pieces (pieces_left c.new-pieces.result) ≡ decoded_display vr sets v =
    pieces_display vr sets v _ _ _ _ some text c.new-pieces.ensures.pieces c.read_by.ensures c.kind_of.ensures c.unpadded-text.ensures in
    record {
      bytes = subst (λ (d : List ℕ). Puts (g.W.DeviceOut.contents c.args.out.now) (g.W.DeviceOut.contents c.put_pieces.new.out) (padded d) c.put_pieces.result) display c.put_pieces.ensures.wrote.bytes;
      failed = search rules;
    }
