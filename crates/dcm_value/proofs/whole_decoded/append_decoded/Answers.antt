use Rattle.std.proofs.Common.{◌≡◌, ◌==◌, ◌+◌, rules, sym, ap, subst, ◌∙◌, Bool, List, ℕ, ◌++◌, cond, false, length}
use Rattle.std.specs.Prelude.{MatchOption, not, ◌&&◌, ◌||◌, nat_le}
use Rattle.dcm_base.specs.Dump.ValueText.{is_single, padded}
use Rattle.dcm_text.specs.Decoding.{Piece}
use Rattle.dcm_text.specs.TextPieces.{pieces_left}
use Rattle.dcm_value.specs.Decoded.{backslashes}
use Rattle.dcm_value.specs.DecodedDisplay.{bracketed_pieces, decoded_display, decoded_count, decoded_shortened, is_short as short_mode}
use Rattle.dcm_value.specs.DecodedProgress.{is_named}
use Rattle.dcm_value.proofs.Displays.DecodedPieces.{pieces_display, pieces_count}
use Rattle.dcm_value.proofs.whole_decoded.append_decoded.Goals as goal

pub returns-clause-items : goal.returns-clause-items
returns-clause-items g c =
    let vr = c.args.vr in
    let sets = c.args.sets in
    let v : List ℕ = c.args.value.now in
    let line : List ℕ = c.args.line.now.items in
    let now : List ℕ = c.append_text.new.line.items in
    let some : (length v == 0) ≡ false = search rules in
    let text : is_named vr (length v) ≡ false = search rules in
    let pieces : List Piece = pieces_left c.new-pieces.result in
    let display : bracketed_pieces pieces ≡ decoded_display vr sets v =
    pieces_display vr sets v pieces _ _ _ some text c.new-pieces.ensures.pieces c.read_by.ensures c.kind_of.ensures c.unpadded-text.ensures in
    let counted : cond (is_single vr) 1 (1 + backslashes pieces) ≡ decoded_count vr sets v =
    pieces_count vr sets v pieces _ _ _ some c.new-pieces.ensures.pieces c.read_by.ensures c.kind_of.ensures c.unpadded-text.ensures in
    subst (λ (d : List ℕ). MatchOption c.append_text.result (now ≡ line)
    (λ n. (now ≡ line ++ padded (decoded_shortened c.args.mode d)) × (n ≡ decoded_count vr sets v))) display
    (subst (λ (k : ℕ). MatchOption c.append_text.result (now ≡ line)
    (λ n. (now ≡ line ++ padded (decoded_shortened c.args.mode (bracketed_pieces pieces))) × (n ≡ k))) counted
    c.append_text.ensures.items)

pub returns-clause-known : goal.returns-clause-known
returns-clause-known g c =
    let vr = c.args.vr in
    let sets = c.args.sets in
    let v : List ℕ = c.args.value.now in
    let some : (length v == 0) ≡ false = search rules in
    let text : is_named vr (length v) ≡ false = search rules in
    let pieces : List Piece = pieces_left c.new-pieces.result in
    let display : bracketed_pieces pieces ≡ decoded_display vr sets v =
    pieces_display vr sets v pieces _ _ _ some text c.new-pieces.ensures.pieces c.read_by.ensures c.kind_of.ensures c.unpadded-text.ensures in
    c.append_text.ensures.known
    ∙ ap (λ (d : List ℕ). short_mode c.args.mode || nat_le (length d) 66) display
    ∙ ap (λ (t : Bool). not t && (short_mode c.args.mode || nat_le (length (decoded_display vr sets v)) 66)) (sym text)
