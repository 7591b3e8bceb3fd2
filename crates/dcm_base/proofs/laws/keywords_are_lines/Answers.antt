use Rattle.dcm_base.proofs.Dictionaries.Lines.{keywords_are_lines, keywords_are_unbroken}
use Rattle.dcm_base.proofs.laws.keywords_are_lines.Goals as goal

pub returns : goal.returns
returns c = record { text = keywords_are_lines; lines = keywords_are_unbroken }
