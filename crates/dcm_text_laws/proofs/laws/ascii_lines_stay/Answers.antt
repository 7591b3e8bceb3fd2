use Rattle.dcm_text_laws.proofs.ShownLines.{line_among_others, line_of_ascii}
use Rattle.dcm_text_laws.proofs.laws.ascii_lines_stay.Goals as goal

pub returns-clause-line : goal.returns-clause-line
returns-clause-line c = line_of_ascii

pub returns-clause-among_others : goal.returns-clause-among_others
returns-clause-among_others c = line_among_others
