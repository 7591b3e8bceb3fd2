-- What dcmodify answers to a sound file.
use Rattle.std.proofs.Common.{◌≡◌, ◌∙◌, ap, refl, ℕ, suc, List, [], ◌∷◌, ◌++◌, drop, Option, None, Bool, true, false, not, arith}
use Rattle.std.specs.Prelude.{◌||◌, if◌then◌else◌}
use Rattle.std.proofs.lemmas.List.{append-nil}
use Rattle.dcm_lemmas.proofs.Truth.{or_false}
use Rattle.dcm_base.specs.declared.dictionary.Dictionary.{Dictionary}
use Rattle.dcm_base.specs.declared.syntax.Coding.{Coding}
use Rattle.dcm_base.specs.declared.syntax.Syntax.{Syntax}
use Rattle.dcm_base.specs.declared.tag.Tag.{Tag}
use Rattle.dcm_base.specs.Tree.Tree.{Trees}
use Rattle.dcm_base.specs.Tree.Front.{Front, front, nothing_open}
use Rattle.dcm_base.specs.Bytes.Spelling.{last_tag}
use Rattle.dcm_base.specs.Lines.Ascending.{Ascend}
use Rattle.dcm_base.specs.Conversion.NewMeta.{new_meta}
use Rattle.dcm_base.specs.Conversion.Normal.{whole_front}
use Rattle.dcm_base.specs.Conversion.Recode.{recode, recode_set}
use Rattle.dcm_base.specs.File.MetaReads.{Meta, PREFIX}
use Rattle.dcm_base.specs.Reading.Bars.{ascending_bar}
use Rattle.dcm_base.specs.Reading.Reads.{Reads}
use Rattle.dcm_base.specs.Reading.Stop.{complete}
use Rattle.dcm_base.proofs.DataSets.OwnSyntax.{own_reads}
use Rattle.dcm_edits.specs.Edit.{Edit, NewElement, no_element, new_leaf, new_sequence, changed, edited, edited_sets, element_of, found, found_in, has, has_place_in, has_place_so_far, is_passed, put, with_new, with_new_so_far}
use Rattle.dcm_edits.proofs.Trees.Laws.{then_trees-none}
use Rattle.dcm_editor_laws.proofs.ReadBack.RisingReads.{ascending_reads}
use Rattle.dcm_editor.proofs.Trees.SoFar.{passed_closed}
use Rattle.dcm_words.specs.Words.{modify}
use Rattle.dcm_cli.specs.Answer.{Answer, Answers, FileReads, answer, file, opened, set_at, status_of_lines, unplaced_lines}
use Rattle.dcm_cli.specs.ErrorLines.{unplaced_line}
use Rattle.dcm_cli.proofs.Runs.OneSource.{one_source}
use Rattle.dcm_sound.specs.Laws.{new_file, unplaced}
use Rattle.dcm_sound.specs.Sound.{IsSound}
use Rattle.dcm_sound.proofs.Dumped.{set_reads}
use Rattle.dcm_sound.proofs.Source.{head_is, set_within}

-- ---- the edits of a whole data set

-- a data set that has ended
abbrev ended : Option Tag → Trees → Front
ended reached set = front set nothing_open reached true

chosen : (there passed : Bool) (reached : Option Tag) (set new : Trees) → passed ≡ true → (if there || false || not passed then ended reached set else ended reached new) ≡ ended reached (if there then set else new)
chosen true passed reached set new e = refl
chosen false true reached set new e = refl
chosen false false reached set new e = absurd (cc)

new_in_whole : (x : NewElement) (reached : Option Tag) (set : Trees) → with_new_so_far x (ended reached set) ≡ ended reached (with_new x set)
new_in_whole no_element reached set = refl
new_in_whole (new_leaf tag vr value) reached set = chosen (has tag set) (is_passed tag reached true) reached set (put tag (new_leaf tag vr value) set) (passed_closed tag reached)
new_in_whole (new_sequence tag held) reached set = chosen (has tag set) (is_passed tag reached true) reached set (put tag (new_sequence tag held) set) (passed_closed tag reached)

edited_whole : (edits : List Edit) (reached : Option Tag) (set : Trees) → edited edits (ended reached set) ≡ ended reached (edited_sets edits set)
edited_whole [] reached set = refl
edited_whole (e ∷ edits) reached set =
    ap (λ (x : Trees). edited edits (with_new_so_far (element_of e) (ended reached x))) (then_trees-none (changed e set))
    ∙ ap (edited edits) (new_in_whole (element_of e) reached (changed e set))
    ∙ edited_whole edits reached (with_new (element_of e) (changed e set))

ended_recoded : (s : Syntax) (reached : Option Tag) (set : Trees) → recode s (ended reached set) ≡ recode_set s set
unfolding recode
ended_recoded s reached set = append-nil (recode_set s set)

-- ---- the edits without a place

none_there : (there passed : Bool) → passed ≡ true → not (there || false || not passed) ≡ not there
none_there true passed e = refl
none_there false true e = refl
none_there false false e = absurd (cc)

place_in_whole : (x : NewElement) (reached : Option Tag) (set : Trees) → has_place_so_far x (ended reached set) ≡ has_place_in x set
place_in_whole no_element reached set = refl
place_in_whole (new_leaf tag vr value) reached set = refl
place_in_whole (new_sequence tag held) reached set = none_there (has tag set) (is_passed tag reached true) (passed_closed tag reached)

found_whole : (e : Edit) (reached : Option Tag) (set : Trees) → found e (ended reached set) ≡ (has_place_in (element_of e) set || found_in e set)
found_whole e reached set = or_false (has_place_so_far (element_of e) (ended reached set) || found_in e set) ∙ ap (λ (x : Bool). x || found_in e set) (place_in_whole (element_of e) reached set)

unplaced_whole : (n : ℕ) (edits : List Edit) (reached : Option Tag) (set : Trees) → unplaced_lines n edits (ended reached set) ≡ unplaced n edits set
unplaced_whole n [] reached set = refl
unplaced_whole n (e ∷ edits) reached set =
    ap (λ (more : List ℕ). if found e (ended reached set) then more else unplaced_line n ++ more) (unplaced_whole (suc n) edits reached set)
    ∙ ap (λ (x : Bool). if x then unplaced (suc n) edits set else unplaced_line n ++ unplaced (suc n) edits set) (found_whole e reached set)

-- ---- the answer

module _ (d : Dictionary) (bytes : List ℕ) (m : Meta) (coding : Coding) (set : Trees) (h : IsSound d bytes m coding set) (ascends : Ascend None set) where
  abbrev rest : List ℕ
  rest = drop (set_at h.group) bytes

  abbrev uid_group : List ℕ
  uid_group = m.preamble ++ PREFIX ++ new_meta m.elements m.uid

  in_order : Reads ascending_bar coding.syntax (set_at h.group) rest (whole_front set) complete
  in_order =
      let within = set_within d bytes m coding set h in
      ascending_reads coding.syntax (set_at h.group) rest set (omega (arith, within)) ascends (own_reads coding.syntax (set_at h.group) rest (whole_front set) complete (set_reads d bytes m coding set h))

  edit_reads : (edits : List Edit) → FileReads (modify d edits) bytes (file m coding (whole_front set) complete)
  edit_reads edits = opened m h.group coding (whole_front set) complete (head_is d bytes m coding set h) refl in_order refl

  written : (edits : List Edit) → recode coding.syntax (edited edits (whole_front set)) ≡ recode_set coding.syntax (edited_sets edits set)
  written edits = ap (recode coding.syntax) (edited_whole edits (last_tag None set) set) ∙ ended_recoded coding.syntax (last_tag None set) (edited_sets edits set)

  abbrev answer_of : List ℕ → List ℕ → Answer
  answer_of out told = record { output = uid_group ++ out; lines = told; status = status_of_lines told }

  pub edits_sound : (edits : List Edit) (a : Answer) → Answers (modify d edits) bytes a
      → a ≡ record { output = new_file m.uid coding.syntax m (edited_sets edits set); lines = unplaced 1 edits set; status = status_of_lines (unplaced 1 edits set) }
  edits_sound edits a y =
      y.answer_is
      ∙ ap (answer (modify d edits)) (one_source (modify d edits) bytes y.source (file m coding (whole_front set) complete) y.reads (edit_reads edits))
      ∙ ap (λ (x : List ℕ). answer_of x (unplaced_lines 1 edits (whole_front set))) (written edits)
      ∙ ap (answer_of (recode_set coding.syntax (edited_sets edits set))) (unplaced_whole 1 edits (last_tag None set) set)
