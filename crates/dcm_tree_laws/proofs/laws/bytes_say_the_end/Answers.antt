use Rattle.dcm_tree_laws.proofs.Ends as ends
use Rattle.dcm_tree_laws.proofs.laws.bytes_say_the_end.Goals as goal

pub returns-clause-end : goal.returns-clause-end
returns-clause-end c = λ task bytes one other a b. ends.one_end task bytes one other a b

pub returns-clause-answer : goal.returns-clause-answer
returns-clause-answer c = λ task bytes output verdict x. ends.end_is_answer task bytes output verdict x

pub returns-clause-done : goal.returns-clause-done
returns-clause-done c = λ task bytes output verdict x done. ends.done_is_answer task bytes output verdict x done

pub returns-clause-instance : goal.returns-clause-instance
returns-clause-instance c = λ bytes one other a b. ends.one_instance bytes one other a b
