use Rattle.std.proofs.Common.{List, ℕ, take, length, ap, ◌∙◌, arith}
use Rattle.std.specs.List.{list_all}
use Rattle.std.proofs.lemmas.List.{length-take}
use Rattle.dcm_value.specs.Plain.{is_ascii_byte}
use Rattle.dcm_value.proofs.Displays.DecodedAsBefore.{text_plain}
use Rattle.dcm_value.proofs.Displays.WholeSteps.{plain_follows}
use Rattle.dcm_value.proofs.next_piece.next_plain.Goals as goal

pub pass_plain-requires-clause-plain : goal.pass_plain-requires-clause-plain
pass_plain-requires-clause-plain c = text_plain c.args.pieces.now.sets (take c.args.size c.args.pieces.now.rest.now) c.requires.plain

pub returns-then-size-gt0-clause-next : goal.returns-then-size-gt0-clause-next
returns-then-size-gt0-clause-next c =
    let rest : List ℕ = c.args.pieces.now.rest.now in
    plain_follows c.args.pieces.now c.pass_plain.new.self c.pass_plain.result c.pass_plain.ensures.left c.pass_plain.ensures.bytes
    (ap (list_all is_ascii_byte) c.pass_plain.ensures.front ∙ c.requires.plain)
    (omega (arith, ap length c.pass_plain.ensures.front, length-take c.args.size rest, c.requires.within, c.if-size-gt0.true))
