-- A second run of dcmodify with the same edits writes what the first one wrote.
use Rattle.std.proofs.Common.{◌≡◌, ◌∙◌, ap, sym, subst, refl, ℕ, List, [], ◌∷◌, ◌++◌, length, drop, Bool, true, false, cond, arith, inl, inr}
use Rattle.std.specs.Prelude.{◌⊎◌, ◌==◌, ◌&&◌}
use Rattle.std.proofs.lemmas.Bool.Decides.{nat_tests}
use Rattle.dcm_lemmas.proofs.Lists.{joined_alike}
use Rattle.dcm_base.specs.declared.syntax.Coding.{Coding}
use Rattle.dcm_base.specs.declared.syntax.Syntax.{Syntax}
use Rattle.dcm_base.specs.Tables.Syntax.{Little}
use Rattle.dcm_base.specs.declared.tag.Tag.{Tag}
use Rattle.dcm_base.specs.declared.vr.Vr.{Vr}
use Rattle.dcm_base.specs.declared.vr.Vr.TheVariants.{UI}
use Rattle.dcm_base.specs.Reading.Bars.{ascending_bar}
use Rattle.dcm_base.specs.Tree.Front.{Front}
use Rattle.dcm_base.specs.File.MetaGroup.{AreMeta}
use Rattle.dcm_base.specs.File.MetaReads.{Meta, PREFIX}
use Rattle.dcm_base.specs.Conversion.NewMeta.{group_length, new_meta, with_syntax, without_syntax}
use Rattle.dcm_base.specs.Conversion.Normal.{normal, normal_front, normal_value, normal_vr}
use Rattle.dcm_base.specs.Reading.Reads.{Reads}
use Rattle.dcm_base.specs.Conversion.Recode.{recode, recode_set, recoded_leaf}
use Rattle.dcm_base.specs.Reading.Stop.{complete}
use Rattle.dcm_base.specs.Tables.Tag.{is_tag}
use Rattle.dcm_base.specs.Tree.Tree.{Trees, no_tree, leaf, sequence, fragments}
use Rattle.dcm_base.proofs.Conversions.NormalForm.{leaf_again}
use Rattle.dcm_base.specs.declared.dictionary.Dictionary.{Dictionary}
use Rattle.dcm_edits.specs.Edit.{Edit, edited}
use Rattle.dcm_editor_laws.specs.Repeating.{EraseByNoNumber}
use Rattle.dcm_editor_laws.proofs.ReadBack.EditedAscends.{edited_ascends}
use Rattle.dcm_editor_laws.proofs.ReadBack.TwiceWritten.{edited_twice}
use Rattle.dcm_sinks.specs.MetaAgain.{elements_again, meta_again}
use Rattle.dcm_words.specs.Words.{modify}
use Rattle.dcm_cli.specs.Answer.{Answer, Answers, FileReads, Source, answer, file, opened, set_at, status_of_lines, unplaced_lines, written_file}
use Rattle.dcm_run_laws.specs.ReadsAgain.{IsModified}
use Rattle.dcm_cli.proofs.Passes.MetaHeads.{group_spelled}
use Rattle.dcm_cli.proofs.Runs.OneSource.{one_source}
use Rattle.dcm_run_laws.proofs.ReadBack.OutputEdited.{modifies, was_read}
use Rattle.dcm_run_laws.proofs.ReadBack.ReadsAgain.{behind_group, long, modified_reads}

-- ---- the meta group

-- an element that is read again is written alike, and a group length is dropped, by a change of the elements that keeps this one
module _ (t : Tag) (vr : Vr) (v : List ℕ) where
  abbrev read_vr : Vr
  read_vr = normal_vr Little t vr (length v)

  abbrev read_value : List ℕ
  read_value = normal_value Little t vr v

  kept : (change : Trees → Trees) (more : Trees) (others : List ℕ) (d : Bool) → (t.element == 0) ≡ d → change (leaf t read_vr read_value more) ≡ leaf t read_vr read_value (change more) → recode_set Little (change more) ≡ others
      → recode_set Little (change (cond d more (leaf t read_vr read_value more))) ≡ cond d [] (recoded_leaf Little t vr v) ++ others
  unfolding recode_set
  kept change more others true e is h = h
  kept change more others false e is h =
      ap (recode_set Little) is
      ∙ ap (λ (d : Bool). cond d [] (recoded_leaf Little t read_vr read_value) ++ recode_set Little (change more)) e
      ∙ joined_alike (leaf_again Little t vr v) h

  without_at : (rest : Trees) (c : Bool) → is_tag 2 0x10 t ≡ c → recode_set Little (without_syntax (normal Little (without_syntax rest))) ≡ recode_set Little (without_syntax rest)
      → recode_set Little (without_syntax (normal Little (cond c (without_syntax rest) (leaf t vr v (without_syntax rest))))) ≡ recode_set Little (cond c (without_syntax rest) (leaf t vr v (without_syntax rest)))
  unfolding normal recode_set
  without_at rest true e h = h
  without_at rest false e h =
      let more : Trees = normal Little (without_syntax rest) in
      kept without_syntax more (recode_set Little (without_syntax rest)) (t.element == 0) refl (ap (λ (c : Bool). cond c (without_syntax more) (leaf t read_vr read_value (without_syntax more))) e) h

without_twice : (x : Trees) → AreMeta x → recode_set Little (without_syntax (normal Little (without_syntax x))) ≡ recode_set Little (without_syntax x)
unfolding AreMeta normal recode_set
without_twice no_tree m = refl
without_twice (leaf t vr v rest) m = without_at t vr v rest (is_tag 2 0x10 t) refl (without_twice rest m.1)
without_twice (sequence t vr declared items rest) m = absurd m
without_twice (fragments t vr values rest) m = absurd m

-- the element that names the transfer syntax is no group length
pub never : (n : ℕ) (a b : Bool) → (n == 16) ≡ b → (a && b) ≡ true → (n == 0) ≡ true → ⊥
never n true true e h z = let named : n ≡ 16 = grind (arith, nat_tests, e) in let dropped : n ≡ 0 = grind (arith, nat_tests, z) in omega (arith, named, dropped)
never n true false e h z = cc
never n false b e h z = cc

module _ (uid : List ℕ) (t : Tag) (rest : Trees) (same : recode_set Little (without_syntax (normal Little (without_syntax rest))) ≡ recode_set Little (without_syntax rest)) where
  abbrev more : Trees
  more = normal Little (without_syntax rest)

  named_at : (d : Bool) → (t.element == 0) ≡ d → is_tag 2 0x10 t ≡ true
      → recode_set Little (with_syntax uid (cond d more (leaf t (normal_vr Little t UI (length uid)) (normal_value Little t UI uid) more))) ≡ cond d [] (recoded_leaf Little t UI uid) ++ recode_set Little (without_syntax rest)
  unfolding recode_set
  named_at true e h = absurd (never t.element (t.group == 2) (t.element == 16) refl h e)
  named_at false e h =
      ap (λ (c : Bool). recode_set Little (cond c (leaf t UI uid (without_syntax more)) (leaf t (normal_vr Little t UI (length uid)) (normal_value Little t UI uid) (with_syntax uid more)))) h
      ∙ ap (λ (d : Bool). cond d [] (recoded_leaf Little t UI uid) ++ recode_set Little (without_syntax more)) e
      ∙ ap (λ (others : List ℕ). recoded_leaf Little t UI uid ++ others) same

  with_at : (vr : Vr) (v : List ℕ) (c : Bool) → is_tag 2 0x10 t ≡ c → recode_set Little (with_syntax uid (normal Little (with_syntax uid rest))) ≡ recode_set Little (with_syntax uid rest)
      → recode_set Little (with_syntax uid (normal Little (cond c (leaf t UI uid (without_syntax rest)) (leaf t vr v (with_syntax uid rest))))) ≡ recode_set Little (cond c (leaf t UI uid (without_syntax rest)) (leaf t vr v (with_syntax uid rest)))
  unfolding normal recode_set
  with_at vr v true e h = named_at (t.element == 0) refl e
  with_at vr v false e h =
      let others : Trees = normal Little (with_syntax uid rest) in
      kept t vr v (with_syntax uid) others (recode_set Little (with_syntax uid rest)) (t.element == 0) refl
      (ap (λ (c : Bool). cond c (leaf t UI uid (without_syntax others)) (leaf t (normal_vr Little t vr (length v)) (normal_value Little t vr v) (with_syntax uid others))) e) h

pub with_twice : (uid : List ℕ) (x : Trees) → AreMeta x → recode_set Little (with_syntax uid (normal Little (with_syntax uid x))) ≡ recode_set Little (with_syntax uid x)
unfolding AreMeta normal recode_set
with_twice uid no_tree m = refl
with_twice uid (leaf t vr v rest) m = with_at uid t rest (without_twice rest m.1) vr v (is_tag 2 0x10 t) refl (with_twice uid rest m.1)
with_twice uid (sequence t vr declared items rest) m = absurd m
with_twice uid (fragments t vr values rest) m = absurd m

-- a group that was written anew is written anew alike
group_twice : (uid : List ℕ) (x : Trees) → AreMeta x → new_meta (elements_again x uid) uid ≡ new_meta x uid
unfolding recode_set
group_twice uid x m = ap (λ (bytes : List ℕ). group_length (length bytes) ++ bytes) (with_twice uid x m)

-- ---- the second run

pub zero_or_three : (n : ℕ) (lines : List ℕ) → n ≡ status_of_lines lines → (n ≡ 0) ⊎ (n ≡ 3)
zero_or_three n [] e = inl e
zero_or_three n (c ∷ lines) e = inr e

module _ (d : Dictionary) (edits : List Edit) (input : List ℕ) (a : Answer) (m : Meta) (coding : Coding) (f : Front) (h : IsModified d edits input a m coding f) where
  abbrev s : Syntax
  s = coding.syntax

  abbrev group : List ℕ
  group = new_meta m.elements m.uid

  abbrev again : Front
  again = normal_front s (edited edits f)

  abbrev source : Source
  source = file (meta_again m m.uid) coding again complete

  written : a.output ≡ written_file m.uid s m (edited edits f)
  written = ap (λ (x : Answer). x.output) h.answers.answer_is ∙ ap (λ (x : Source). (answer (modify d edits) x).output) h.source_is

  set_written : drop (set_at group) a.output ≡ recode s (edited edits f)
  set_written =
      let r = was_read d edits input a m coding f h in
      ap (drop (set_at group)) written ∙ behind_group m.preamble PREFIX group (recode s (edited edits f)) (long input m r.group r.head.named r.head.head) refl

  -- the output is read in one way by dcmodify too
  read_again : FileReads (modify d edits) a.output source
  read_again =
      let r = modified_reads d edits input a m coding f h in
      let k = modifies d edits input a m coding f h in
      opened (meta_again m m.uid) group coding again complete r.head refl
      (subst (λ (bytes : List ℕ). Reads ascending_bar s (set_at group) bytes again complete) (sym set_written) (edited_ascends s k.words edits k.mean k.start k.bytes f k.begins k.are_bytes k.reads h.stays (set_at group) k.within))
      refl

  answered : (b : Answer) → Answers (modify d edits) a.output b → b ≡ answer (modify d edits) source
  answered b y = y.answer_is ∙ ap (answer (modify d edits)) (one_source (modify d edits) a.output y.source source y.reads read_again)

  same_output : EraseByNoNumber edits → (answer (modify d edits) source).output ≡ a.output
  same_output none =
      let r = was_read d edits input a m coding f h in
      let k = modifies d edits input a m coding f h in
      ap (λ (bytes : List ℕ). m.preamble ++ PREFIX ++ bytes ++ recode s (edited edits again)) (group_twice m.uid m.elements (group_spelled input m r.group r.head.named r.head.head).1)
      ∙ ap (λ (bytes : List ℕ). m.preamble ++ PREFIX ++ group ++ bytes) (edited_twice s k.words edits k.mean none k.start k.bytes f k.begins k.are_bytes k.reads)
      ∙ sym written

pub modified_twice : (d : Dictionary) (edits : List Edit) (input : List ℕ) (a b : Answer) (m : Meta) (coding : Coding) (f : Front) → IsModified d edits input a m coding f → EraseByNoNumber edits → Answers (modify d edits) a.output b
    → (b.output ≡ a.output) × ((b.status ≡ 0) ⊎ (b.status ≡ 3))
modified_twice d edits input a b m coding f h none y =
    let is = answered d edits input a m coding f h b y in (
      ap (λ (x : Answer). x.output) is ∙ same_output d edits input a m coding f h none,
      zero_or_three b.status (unplaced_lines 1 edits (normal_front coding.syntax (edited edits f))) (ap (λ (x : Answer). x.status) is),
    )
