use Rattle.std.proofs.Common.{ap}
use Rattle.dcm_text.specs.declared.set.Halves.{Halves}
use Rattle.dcm_text.specs.Decoding.{decoded_from, decoded}
use Rattle.dcm_text.proofs.text_pieces.TextPieces.new.Goals as goal

pub returns-clause-pieces : goal.returns-clause-pieces
unfolding decoded
returns-clause-pieces c = ap (λ (h : Halves). decoded_from c.args.sets c.args.kind h c.args.text.now) c.start_of.ensures
