-- Without edits a file is read and written as by a conversion to its own transfer syntax.
use Rattle.std.proofs.Common.{◌≡◌, ◌∙◌, subst, ℕ, List, [], drop, None, refl}
use Rattle.dcm_base.specs.Reading.Stop.{complete, refused}
use Rattle.dcm_base.proofs.DataSets.OwnSyntax.{own_reads}
use Rattle.dcm_base_laws.proofs.DataSets.InOrder.{unbarred_reads}
use Rattle.dcm_base.specs.declared.dictionary.Dictionary.{Dictionary}
use Rattle.dcm_words.specs.Words.{convert, modify}
use Rattle.dcm_cli.specs.Answer.{Source, unopened, file as a_file, alone, answer, set_at, FileReads, not_opened, not_changed, opened}
use Rattle.dcm_run_laws.specs.NoEdits.{IsInOrder, NoEditsConvert}

same_read : (d : Dictionary) (input : List ℕ) (source : Source) → FileReads (modify d []) input source → IsInOrder source → FileReads (convert d None) input source
same_read d input source (not_opened fault offset h e) order = not_opened fault offset h e
same_read d input source (not_changed m group coding h r e) order = absurd (cc)
same_read d input source (opened m group coding set stop h r reads e) order =
    opened m group coding set stop h refl
    (own_reads coding.syntax (set_at group) (drop (set_at group) input) set stop (unbarred_reads coding.syntax (set_at group) (drop (set_at group) input) set stop (subst IsInOrder e order) reads)) e

same_answer : (d : Dictionary) (source : Source) → answer (modify d []) source ≡ answer (convert d None) source
same_answer d (unopened fault offset) = refl
same_answer d (a_file m coding set complete) = refl
same_answer d (a_file m coding set (refused fault offset)) = refl
same_answer d (alone syntax set complete) = refl
same_answer d (alone syntax set (refused fault offset)) = refl

pub no_edits_convert : NoEditsConvert
no_edits_convert d input a modified order = record {
  source = modified.source;
  reads = same_read d input modified.source modified.reads order;
  answer_is = modified.answer_is ∙ same_answer d modified.source;
}
