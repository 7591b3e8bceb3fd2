-- A second run of dcmdeid with the same options writes what the first one wrote.
use Rattle.std.proofs.Common.{◌≡◌, ◌∙◌, ap, sym, subst, refl, ℕ, List, ◌++◌, Bool, true, length}
use Rattle.std.specs.Prelude.{◌⊎◌}
use Rattle.dcm_base.specs.declared.dictionary.Dictionary.TheVariants.{Standard}
use Rattle.dcm_base.specs.declared.syntax.Coding.{Coding}
use Rattle.dcm_base.specs.declared.syntax.Syntax.{Syntax}
use Rattle.dcm_base.specs.Conversion.NewMeta.{group_length, new_meta, renewed}
use Rattle.dcm_base.specs.Conversion.Normal.{normal_front}
use Rattle.dcm_base.specs.Conversion.Recode.{recode}
use Rattle.dcm_base.specs.File.MetaReads.{Meta, PREFIX}
use Rattle.dcm_base.specs.Reading.Bars.{identity_bar}
use Rattle.dcm_base.specs.Reading.Reads.{Reads}
use Rattle.dcm_base.specs.Reading.Stop.{complete}
use Rattle.dcm_base.specs.Tables.Syntax.{coding_by}
use Rattle.dcm_base.specs.Tree.Front.{Front}
use Rattle.dcm_base.specs.Tree.Tree.{Trees}
use Rattle.dcm_sinks.specs.MetaAgain.{elements_again, meta_again}
use Rattle.dcm_sinks.proofs.ReadBack.NewMetaReads.{group_read}
use Rattle.dcm_deid.specs.MadeNew.{made_new}
use Rattle.dcm_deid.specs.declared.fate.Options.{Options}
use Rattle.dcm_deid.specs.Meta.{implementation, meta_renewing, meta_without_identity, no_preamble}
use Rattle.dcm_deid.specs.Saying.{deidentified}
use Rattle.dcm_deid_laws.specs.Laws.{MakesNothingAnew}
use Rattle.dcm_deid_laws.proofs.Heads.{group_again, left_group}
use Rattle.dcm_deid_laws.proofs.ReadsAgain as laws
use Rattle.dcm_words.specs.Words.{Job, deidentify}
use Rattle.dcm_cli.specs.Answer.{Answer, Answers, FileReads, HeadIs, Source, answer, done_lines, file, opened, set_at}
use Rattle.dcm_run_laws.specs.ReadsAgain.{IsTaken}
use Rattle.dcm_cli.proofs.Runs.OneSource.{one_source}
use Rattle.dcm_run_laws.proofs.ReadBack.DeidentifiedReads.{head_is, output_is, set_is, takes, was_read}
use Rattle.dcm_run_laws.proofs.ReadBack.ModifiedTwice.{with_twice, zero_or_three}
use Rattle.dcm_run_laws.proofs.ReadBack.OtherReaders.{coding_twice}

module _ (options : Options) (reports : Bool) (key input : List ℕ) (a : Answer) (m : Meta) (coding : Coding) (f : Front) (h : IsTaken options reports key input a m coding f) where
  abbrev s : Syntax
  s = coding.syntax

  abbrev job : Job
  job = deidentify options reports key

  abbrev head : Meta
  head = meta_without_identity options key m

  abbrev group : List ℕ
  group = new_meta head.elements m.uid

  abbrev left : Front
  left = deidentified options (made_new options key) f

  abbrev again : Front
  again = normal_front s left

  abbrev source : Source
  source = file (meta_again head m.uid) coding again complete

  own_coding : coding_by Standard coding ≡ coding
  own_coding =
      let r = was_read options reports key input a m coding f h in
      ap (coding_by Standard) r.head.coding_is ∙ coding_twice Standard Standard r.head.named ∙ sym r.head.coding_is

  -- the output is read in one way by dcmdeid too, by whatever options
  pub read_again : (other : Options) → FileReads (deidentify other reports key) a.output source
  read_again other =
      opened (meta_again head m.uid) group coding again complete
      (subst (λ (c : Coding). HeadIs Standard a.output (meta_again head m.uid) group c) own_coding (head_is options reports key input a m coding f h Standard)) refl
      (subst (λ (bytes : List ℕ). Reads identity_bar s (set_at group) bytes again complete) (sym (set_is options reports key input a m coding f h))
      (laws.reads_for_it options key s (set_at group) f (takes options reports key input a m coding f h))) refl

  answered : (b : Answer) → Answers job a.output b → b ≡ answer job source
  answered b y = y.answer_is ∙ ap (answer job) (one_source job a.output y.source source y.reads (read_again options))

  -- where unique identifiers are retained, the group is written anew alike
  pub group_twice : options.uids ≡ true → new_meta (renewed (meta_renewing options key) implementation (elements_again head.elements m.uid)) m.uid ≡ group
  group_twice retained =
      let r = was_read options reports key input a m coding f h in
      let g = left_group options key m.elements (group_read input m r.group r.head.named h.are_bytes r.head.head) in
      ap (λ (x : Trees). new_meta x m.uid) (group_again options key retained m.uid m.elements)
      ∙ ap (λ (bytes : List ℕ). group_length (length bytes) ++ bytes) (with_twice m.uid head.elements g.meta)

  module _ (given : MakesNothingAnew options) where
    same_output : (answer job source).output ≡ a.output
    same_output =
        ap (λ (bytes : List ℕ). no_preamble ++ PREFIX ++ bytes ++ recode s (deidentified options (made_new options key) again)) (group_twice given.0)
        ∙ ap (λ (bytes : List ℕ). no_preamble ++ PREFIX ++ group ++ bytes) (laws.deidentified_twice options key s (set_at group) f (takes options reports key input a m coding f h) given)
        ∙ sym (output_is options reports key input a m coding f h)

    pub deidentified_twice : (b : Answer) → Answers job a.output b → (b.output ≡ a.output) × ((b.status ≡ 0) ⊎ (b.status ≡ 3))
    deidentified_twice b y =
        let is = answered b y in
        (ap (λ (x : Answer). x.output) is ∙ same_output, zero_or_three b.status (done_lines job again) (ap (λ (x : Answer). x.status) is))
