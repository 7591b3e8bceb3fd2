use Rattle.dcm_value.proofs.Displays.TextSteps.{whole_text, whole_count, text_so_far}
use Rattle.dcm_value.proofs.Displays.Openings.{in_pieces}
use Rattle.dcm_value.proofs.laws.text_steps.Goals as goal

pub returns : goal.returns
returns c = record { pieces = in_pieces; whole = whole_text; count = whole_count; so_far = text_so_far }
