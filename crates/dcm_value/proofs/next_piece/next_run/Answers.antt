use Rattle.std.proofs.Common.{take, ap, ◌∙◌, arith}
use Rattle.std.specs.List.{list_all}
use Rattle.dcm_text.specs.declared.text_pieces.TextPieces.{TextPieces}
use Rattle.dcm_value.specs.Plain.{is_ascii_byte}
use Rattle.dcm_value.proofs.Displays.WholeTexts.{front_plain}
use Rattle.dcm_value.proofs.next_piece.next_run.Goals as goal

pub next_plain-requires-clause-plain : goal.next_plain-requires-clause-plain
next_plain-requires-clause-plain c =
    front_plain c.args.pieces.now.rest.now c.split_at.result.0.now c.min.result c.ascii_front-size.result
    (c.split_at.ensures.front ∙ ap (take c.min.result) c.rest-rest.ensures) c.ascii_front-size.ensures.value
    (omega (arith, c.ascii_front-size.ensures.most, c.split_at.ensures.front_len))

pub next_plain-requires-in-None-clause-plain : goal.next_plain-requires-in-None-clause-plain
next_plain-requires-in-None-clause-plain c =
    ap (λ (p : TextPieces). list_all is_ascii_byte (take c.ascii_front-size.result p.rest.now)) c.in-None.ensures.none
    ∙ front_plain c.args.pieces.now.rest.now c.split_at.result.0.now c.min.result c.ascii_front-size.result
    (c.split_at.ensures.front ∙ ap (take c.min.result) c.rest-rest.ensures) c.ascii_front-size.ensures.value
    (omega (arith, c.ascii_front-size.ensures.most, c.split_at.ensures.front_len))
