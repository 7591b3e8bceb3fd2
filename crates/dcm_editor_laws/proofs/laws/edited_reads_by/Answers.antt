use Rattle.dcm_editor_laws.proofs.Readers.Others.{edited_reads_by, reads_alike}
use Rattle.dcm_editor_laws.proofs.laws.edited_reads_by.Goals as goal

pub returns-clause-reads : goal.returns-clause-reads
returns-clause-reads c = λ edits s at f e h opens. edited_reads_by edits s at f h e opens

pub returns-clause-alike : goal.returns-clause-alike
returns-clause-alike c = λ edits s at f again other stop end e h stay opens own by. reads_alike edits s at f h e opens stay again other stop end own by
