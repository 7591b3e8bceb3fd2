use Rattle.dcm_text_laws.proofs.ShownLines.{display_of_utf8, line_of_utf8}
use Rattle.dcm_text_laws.proofs.laws.utf8_lines_are_as_they_are.Goals as goal

pub returns-clause-display : goal.returns-clause-display
returns-clause-display c = display_of_utf8

pub returns-clause-line : goal.returns-clause-line
returns-clause-line c = line_of_utf8
