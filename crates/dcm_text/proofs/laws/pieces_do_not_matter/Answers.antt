use Rattle.dcm_text.proofs.Runs.{pieces_decoded, two_pieces}
use Rattle.dcm_text.proofs.laws.pieces_do_not_matter.Goals as goal

pub returns : goal.returns
returns c = record { whole = pieces_decoded; two = two_pieces }
