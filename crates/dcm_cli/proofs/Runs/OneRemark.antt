-- One thing is remarked of an input.
use Rattle.std.proofs.Common.{◌≡◌, ◌∙◌, ap, sym, refl, ℕ, List}
use Rattle.dcm_words.specs.declared.job.Texts.TheVariants.{Bytes, Characters}
use Rattle.dcm_words.specs.Words.{Job, dump, dump_decoded, dump_named, convert, build as building, modify, deidentify}
use Rattle.dcm_cli.specs.declared.ending.Remarks.{Remarks}
use Rattle.dcm_cli.specs.Answer.{Answer, InputReads, ReadAnswers, Source}
use Rattle.dcm_cli.specs.Remarks.{no_remarks}
use Rattle.dcm_cli.specs.Run.{ReadRemarks, Remarked, source_remarks}
use Rattle.dcm_cli.proofs.Runs.OneAnswer.{one_input, some_answer}

-- that of its one source
pub one_remarked_of : (job : Job) (input : List ℕ) (source : Source) → InputReads job input source → (r : Remarks) → ReadRemarks job input r → r ≡ source_remarks job source
one_remarked_of job input source reads r x = x.remarks_are ∙ ap (source_remarks job) (one_input job input x.source source x.reads reads)

both_read : (job : Job) (input : List ℕ) (r s : Remarks) → ReadRemarks job input r → ReadRemarks job input s → r ≡ s
both_read job input r s x y = one_remarked_of job input y.source y.reads r x ∙ sym y.remarks_are

pub one_remark : (job : Job) (input : List ℕ) (r s : Remarks) → Remarked job input r → Remarked job input s → r ≡ s
one_remark (dump d mode bare) input r s x y = x ∙ sym y
one_remark (dump_decoded d mode bare) input r s x y = both_read (dump_decoded d mode bare) input r s x y
one_remark (dump_named Bytes d mode bare n) input r s x y = x ∙ sym y
one_remark (dump_named Characters d mode bare n) input r s x y = both_read (dump_named Characters d mode bare n) input r s x y
one_remark (convert d target) input r s x y = x ∙ sym y
one_remark (building limit) input r s x y = x ∙ sym y
one_remark (modify d edits) input r s x y = x ∙ sym y
one_remark (deidentify options reports key) input r s x y = both_read (deidentify options reports key) input r s x y

of_read : (job : Job) (input : List ℕ) (a : Answer) → ReadAnswers job input a → (r : Remarks) × ReadRemarks job input r
of_read job input a reads = (source_remarks job reads.source, record { source = reads.source; reads = reads.reads; remarks_are = refl })

pub some_remark : (job : Job) (input : List ℕ) → (r : Remarks) × Remarked job input r
some_remark (dump d mode bare) input = (no_remarks, refl)
some_remark (dump_decoded d mode bare) input = let x = some_answer (dump_decoded d mode bare) input in of_read (dump_decoded d mode bare) input x.0 x.1
some_remark (dump_named Bytes d mode bare n) input = (no_remarks, refl)
some_remark (dump_named Characters d mode bare n) input = let x = some_answer (dump_named Characters d mode bare n) input in of_read (dump_named Characters d mode bare n) input x.0 x.1
some_remark (convert d target) input = (no_remarks, refl)
some_remark (building limit) input = (no_remarks, refl)
some_remark (modify d edits) input = (no_remarks, refl)
some_remark (deidentify options reports key) input = let x = some_answer (deidentify options reports key) input in of_read (deidentify options reports key) input x.0 x.1
