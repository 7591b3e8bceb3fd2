use Rattle.dcm_value.proofs.Displays.DecodedAsBefore.{ascii_as_before, decoded_as_before}
use Rattle.dcm_value.proofs.laws.ascii_as_before.Goals as goal

pub returns : goal.returns
returns c = record { all = ascii_as_before; unpadded = decoded_as_before }
