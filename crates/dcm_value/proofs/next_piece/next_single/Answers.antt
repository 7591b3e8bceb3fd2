use Rattle.dcm_value.proofs.Displays.WholeSteps.{piece_follows}
use Rattle.dcm_value.proofs.next_piece.next_single.Goals as goal

pub returns-in-Some-clause-next : goal.returns-in-Some-clause-next
returns-in-Some-clause-next c =
    piece_follows c.args.pieces.now c.next.new.self c.in-Some.bytes c.in-Some.meaning c.in-Some.ensures.left c.in-Some.ensures.bytes
    c.in-Some.ensures.some
