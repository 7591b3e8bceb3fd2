use Rattle.dcm_value.proofs.Displays.DecodedOpenings.{decoded_in_pieces}
use Rattle.dcm_value.proofs.Displays.DecodedWholes.{decoded_whole, decoded_counts, decoded_text_so_far}
use Rattle.dcm_value.proofs.laws.decoded_text_steps.Goals as goal

pub returns : goal.returns
returns c = record { pieces = decoded_in_pieces; whole = decoded_whole; count = decoded_counts; so_far = decoded_text_so_far }
