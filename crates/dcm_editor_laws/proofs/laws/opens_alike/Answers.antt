use Rattle.dcm_editor_laws.proofs.Readers.Opened.{explicit_opens}
use Rattle.dcm_editor_laws.proofs.Readers.Others.{own_opens_alike, standard_opens_alike}
use Rattle.dcm_editor_laws.proofs.laws.opens_alike.Goals as goal

pub returns-clause-explicit : goal.returns-clause-explicit
returns-clause-explicit c = λ s f is. explicit_opens s f is

pub returns-clause-own : goal.returns-clause-own
returns-clause-own c = λ edits s at f h stay. own_opens_alike edits s at f h stay

pub returns-clause-standard : goal.returns-clause-standard
returns-clause-standard c = λ edits s at f e h stay is. standard_opens_alike edits s at f h stay e is
