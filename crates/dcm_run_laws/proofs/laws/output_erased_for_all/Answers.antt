use Rattle.dcm_run_laws.proofs.ReadBack.OtherReaders.{alike_output_hides, output_private_unseen, output_unseen}
use Rattle.dcm_run_laws.proofs.laws.output_erased_for_all.Goals as goal

pub returns-clause-erased_all : goal.returns-clause-erased_all
returns-clause-erased_all c = λ d e edits input a m coding f h hides. output_unseen d edits input a m coding f h e hides

pub returns-clause-erased_private : goal.returns-clause-erased_private
returns-clause-erased_private c = λ d e edits input a m coding f h hides. output_private_unseen d edits input a m coding f h e hides

pub returns-clause-alike : goal.returns-clause-alike
returns-clause-alike c = λ d e edits input a m coding f h opens. alike_output_hides d edits input a m coding f h e opens
