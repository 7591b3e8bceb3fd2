-- What dcmodify has done is so in its output, however that is read.
use Rattle.std.proofs.Common.{◌≡◌, Ok, ◌∙◌, ap, sym, subst, refl, ℕ, List, drop, None}
use Rattle.dcm_base.specs.declared.mode.Mode.TheVariants.{Full}
use Rattle.dcm_base.specs.declared.syntax.Coding.{Coding}
use Rattle.dcm_base.specs.declared.syntax.Syntax.{Syntax}
use Rattle.dcm_base.specs.declared.tag.Tag.{Tag}
use Rattle.dcm_base.specs.declared.vr.Vr.{Vr}
use Rattle.dcm_base.specs.Tree.Front.{Front}
use Rattle.dcm_base.specs.File.MetaReads.{Meta}
use Rattle.dcm_base.specs.Conversion.NewMeta.{new_meta}
use Rattle.dcm_base.specs.Conversion.Normal.{normal_front}
use Rattle.dcm_base.specs.Reading.Stop.{complete}
use Rattle.dcm_base.specs.declared.dictionary.Dictionary.{Dictionary}
use Rattle.dcm_edits.specs.Edit.{Edit, edited, erase_all, erase_private, modify_all}
use Rattle.dcm_editor_laws.specs.Everywhere.{Among, EverywhereIn, IsOther, IsPublic, IsWrittenJust}
use Rattle.dcm_editor_laws.specs.Modification.{Modifies, ReadsAgain}
use Rattle.dcm_editor_laws.proofs.ReadBack.EditedReads.{edited_reads}
use Rattle.dcm_editor_laws.proofs.Trees.Gone.{erased_all_is_gone, erased_private_is_gone, modified_all_is_so}
use Rattle.dcm_sinks.specs.MetaAgain.{meta_again}
use Rattle.dcm_value.proofs.ReadBack.Units.{bytes_drop}
use Rattle.dcm_words.specs.Words.{dump, modify}
use Rattle.dcm_cli.specs.Answer.{Answer, Source, answer, file, opened, set_at}
use Rattle.dcm_run_laws.specs.ReadsAgain.{InOutput, IsModified, OfWholeFile}
use Rattle.dcm_cli.proofs.Runs.OneSource.{one_source}
use Rattle.dcm_run_laws.proofs.ReadBack.ReadsAgain.{Read, begins_within, modified_reads, read_of, set_within, of_head}
use Rattle.dcm_edits.specs.EditWords.{meant_edits_in}

module _ (d : Dictionary) (edits : List Edit) (input : List ℕ) (a : Answer) (m : Meta) (coding : Coding) (f : Front) (h : IsModified d edits input a m coding f) where
  abbrev s : Syntax
  s = coding.syntax

  abbrev at : ℕ
  at = set_at (new_meta m.elements m.uid)

  abbrev again : Front
  again = normal_front s (edited edits f)

  pub was_read : Read (modify d edits) input m coding f
  was_read = read_of (modify d edits) input m coding f h.answers.source h.source_is h.answers.reads

  pub modifies : Modifies edits s at f
  modifies =
      let r = was_read in
      record {
        words = h.words;
        mean = subst (λ (k : Dictionary). meant_edits_in k h.words ≡ Ok edits) (sym (of_head d input m r.group coding r.head)) h.meant;
        start = set_at r.group;
        begins = begins_within input m r.group r.head.named r.head.head;
        bytes = drop (set_at r.group) input;
        are_bytes = bytes_drop (set_at r.group) input h.are_bytes;
        reads = r.set;
        within = set_within input a.output m r.group m.uid r.head.named r.head.named d coding r.head.coding_is (edited edits f) r.head.head h.are_bytes
            (ap (λ (x : Answer). x.output) h.answers.answer_is ∙ ap (λ (x : Source). (answer (modify d edits) x).output) h.source_is) h.room.within;
      }

  reads : ReadsAgain edits s at f again complete
  reads = let k = modifies in edited_reads s k.words edits k.mean k.start k.bytes f k.begins k.are_bytes k.reads h.stays at k.within

  -- the output is read in one way
  pub in_output : (P : Syntax → Front → Type 0) → P s again → InOutput d P a
  in_output P p source there =
      let r = modified_reads d edits input a m coding f h in
      let one = one_source (dump d Full None) a.output source (file (meta_again m m.uid) coding again complete) there
      (opened (meta_again m m.uid) (new_meta m.elements m.uid) coding again complete r.head refl r.dumped refl)
      in
      subst (OfWholeFile P) (sym one) (refl, p)

  pub output_without : (tag : Tag) → Among (erase_all tag) edits → InOutput d (λ s set. EverywhereIn (IsOther tag) set) a
  output_without tag among =
      let k = modifies in
      in_output (λ s set. EverywhereIn (IsOther tag) set) (erased_all_is_gone s k.words edits k.mean k.start k.bytes f k.begins k.are_bytes k.reads h.stays at k.within again complete reads tag among).1

  pub output_public : Among erase_private edits → InOutput d (λ s set. EverywhereIn IsPublic set) a
  output_public among =
      let k = modifies in
      in_output (λ s set. EverywhereIn IsPublic set) (erased_private_is_gone s k.words edits k.mean k.start k.bytes f k.begins k.are_bytes k.reads h.stays at k.within again complete reads among).1

  pub output_modified : (tag : Tag) (vr : Vr) (value : List ℕ) → Among (modify_all tag vr value) edits → InOutput d (λ s set. EverywhereIn (IsWrittenJust s tag vr value) set) a
  output_modified tag vr value among =
      let k = modifies in
      in_output (λ s set. EverywhereIn (IsWrittenJust s tag vr value) set) (modified_all_is_so s k.words edits k.mean k.start k.bytes f k.begins k.are_bytes k.reads h.stays at k.within again complete reads tag vr value among).1
