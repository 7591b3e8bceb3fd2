use Rattle.dcm_text.proofs.Displays.{ascii_dump, ascii_cell}
use Rattle.dcm_text.proofs.Whole.{plain_decoded}
use Rattle.dcm_text.proofs.laws.ascii_as_before.Goals as goal

pub returns : goal.returns
returns c = record { pieces = plain_decoded; dumped = ascii_dump; cell = ascii_cell }
