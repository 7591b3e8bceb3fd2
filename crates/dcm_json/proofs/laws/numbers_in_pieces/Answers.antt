use Rattle.dcm_json.proofs.NumberPieces.{number_pieces}
use Rattle.dcm_json.proofs.laws.numbers_in_pieces.Goals as goal

pub returns : goal.returns
returns c s vr pieces = number_pieces s vr pieces
