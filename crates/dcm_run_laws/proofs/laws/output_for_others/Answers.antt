use Rattle.dcm_run_laws.proofs.ReadBack.OtherReaders.{output_alike, output_keeps_others_by, output_modified_by, output_public_by, output_without_by}
use Rattle.dcm_run_laws.proofs.laws.output_for_others.Goals as goal

pub returns-clause-alike : goal.returns-clause-alike
returns-clause-alike c = λ d e edits input a m coding f h in_it. output_alike d edits input a m coding f h e in_it

pub returns-clause-erased_all : goal.returns-clause-erased_all
returns-clause-erased_all c = λ d e edits input a m coding f h in_it. output_without_by d edits input a m coding f h e in_it

pub returns-clause-erased_private : goal.returns-clause-erased_private
returns-clause-erased_private c = λ d e edits input a m coding f h in_it. output_public_by d edits input a m coding f h e in_it

pub returns-clause-modified_all : goal.returns-clause-modified_all
returns-clause-modified_all c = λ d e edits input a m coding f h in_it. output_modified_by d edits input a m coding f h e in_it

pub returns-clause-others_stay : goal.returns-clause-others_stay
returns-clause-others_stay c = λ d e edits input a m coding f h keep in_it. output_keeps_others_by d edits input a m coding f h e in_it keep
