use Rattle.dcm_text.proofs.Whole.{plain_passed}
use Rattle.dcm_text.proofs.text_pieces.TextPieces.pass_plain.Goals as goal

pub returns-clause-left : goal.returns-clause-left
returns-clause-left c =
    let p = c.args.self.now in
    plain_passed p.sets p.kind p.halves p.rest.now c.split_at.result.0.now c.split_at.result.1.now c.args.size c.requires.start
    c.requires.plain c.split_at.ensures.front c.split_at.ensures.back
