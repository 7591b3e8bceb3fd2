use Rattle.dcm_json.proofs.Decoding.{text_pieces}
use Rattle.dcm_json.proofs.laws.texts_in_pieces.Goals as goal

pub returns : goal.returns
returns c sets vr size pieces h = text_pieces sets vr size pieces h
