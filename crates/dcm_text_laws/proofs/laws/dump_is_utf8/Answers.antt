use Rattle.dcm_text_laws.proofs.Runs.{answer_utf8, sure_utf8}
use Rattle.dcm_text_laws.proofs.laws.dump_is_utf8.Goals as goal

pub returns-clause-answer : goal.returns-clause-answer
returns-clause-answer c = λ d mode bare bytes a are y. answer_utf8 d mode bare bytes a are y

pub returns-clause-sure : goal.returns-clause-sure
returns-clause-sure c = λ d mode bare begun out are y. sure_utf8 d mode bare begun out are y
