use Rattle.std.proofs.Common.{◌++◌, ◌+◌, length, ap, ◌∙◌, arith}
use Rattle.std.specs.Prelude.{flat_map}
use Rattle.dcm_text.specs.declared.text_pieces.TextPieces.{TextPieces}
use Rattle.dcm_text.specs.Shown.{dumped_piece}
use Rattle.dcm_text.specs.TextPieces.{pieces_left}
use Rattle.dcm_value.specs.Decoded.{backslashes}
use Rattle.dcm_value.proofs.whole_decoded.show_front.Goals as goal

pub returns-in_default-clause-shown : goal.returns-in_default-clause-shown
returns-in_default-clause-shown c =
    ap (λ (p : TextPieces). c.loop-pieces.shown.items ++ flat_map dumped_piece (pieces_left p)) c.in_default.ensures.ended
    ∙ c.loop-pieces.invariant.shown

pub returns-in_default-clause-ended : goal.returns-in_default-clause-ended
returns-in_default-clause-ended c = λ few. ap pieces_left c.in_default.ensures.ended ∙ c.in_default.ensures.none

pub returns-in_default-clause-count : goal.returns-in_default-clause-count
returns-in_default-clause-count c =
    ap (λ (p : TextPieces). c.loop-pieces.count + backslashes (pieces_left p)) c.in_default.ensures.ended
    ∙ c.loop-pieces.invariant.count

pub returns-in_default-clause-few : goal.returns-in_default-clause-few
returns-in_default-clause-few c =
    omega (arith, ap (λ (p : TextPieces). length p.rest.now) c.in_default.ensures.ended, c.loop-pieces.invariant.few)
