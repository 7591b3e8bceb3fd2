use Rattle.dcm_names.proofs.Lists.{lines_of_two, open_of_two}
use Rattle.dcm_names.proofs.laws.lines_in_pieces.Goals as goal

pub returns : goal.returns
returns c = λ line front back. record { lines = lines_of_two line front back; goes_on = open_of_two line front back }
