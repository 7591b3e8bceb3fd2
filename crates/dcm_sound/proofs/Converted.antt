-- What dcmconv answers to a sound file.
use Rattle.std.proofs.Common.{◌≡◌, ◌∙◌, ap, sym, refl, subst, ℕ, List, [], ◌++◌, drop, Option, None, Some, false}
use Rattle.std.proofs.lemmas.List.{append-nil}
use Rattle.dcm_base.specs.declared.dictionary.Dictionary.{Dictionary}
use Rattle.dcm_base.specs.declared.syntax.Coding.{Coding}
use Rattle.dcm_base.specs.declared.syntax.Syntax.{Syntax}
use Rattle.dcm_base.specs.declared.syntax.Syntax.TheVariants.{Implicit as implicit_in, Little as little_in, Big as big_in}
use Rattle.dcm_base.specs.Tree.Tree.{Trees}
use Rattle.dcm_base.specs.Conversion.NewMeta.{new_meta}
use Rattle.dcm_base.specs.Conversion.Normal.{whole_front}
use Rattle.dcm_base.specs.Conversion.Recode.{recode, recode_set}
use Rattle.dcm_base.specs.File.MetaReads.{Meta, PREFIX}
use Rattle.dcm_base.specs.Reading.Bars.{fragments_bar, target_bar}
use Rattle.dcm_base.specs.Reading.Reads.{Reads}
use Rattle.dcm_base.specs.Reading.Stop.{complete}
use Rattle.dcm_base.proofs.DataSets.OwnSyntax.{own_reads}
use Rattle.dcm_words.specs.Words.{convert}
use Rattle.dcm_cli.specs.Answer.{Answer, Answers, FileReads, answer, file, opened, refuses_change, set_at, target_syntax, target_uid}
use Rattle.dcm_cli.proofs.Runs.OneSource.{one_source}
use Rattle.dcm_sound.specs.Laws.{all_done, new_file}
use Rattle.dcm_sound.specs.Sound.{CanBecome, HasNoFragments, IsSound}
use Rattle.dcm_sound.proofs.Dumped.{set_reads}
use Rattle.dcm_sound.proofs.Source.{head_is, set_is, set_within}
use Rattle.dcm_sound.proofs.Spelled.Free.{may_come}
use Rattle.dcm_sound.proofs.Spelled.Native.{may_come_native, native}
use Rattle.dcm_sound.proofs.Spelled.Reads.{spelled_reads}

whole_recoded : (s : Syntax) (set : Trees) → recode s (whole_front set) ≡ recode_set s set
unfolding recode
whole_recoded s set = append-nil (recode_set s set)

module _ (d : Dictionary) (bytes : List ℕ) (m : Meta) (coding : Coding) (set : Trees) (h : IsSound d bytes m coding set) where
  -- its data set is read whole where fragment lists are barred
  native_reads : HasNoFragments set → Reads fragments_bar coding.syntax (set_at h.group) (drop (set_at h.group) bytes) (whole_front set) complete
  native_reads no_list =
      subst (λ (x : List ℕ). Reads fragments_bar coding.syntax (set_at h.group) x (whole_front set) complete) (sym (set_is d bytes m coding set h))
      (spelled_reads fragments_bar native (λ f. refl) coding.syntax (set_at h.group) set h.contents h.set_spelled
      (may_come_native coding.syntax 0 set h.contents [] h.set_spelled no_list (may_come coding.syntax 0 set h.contents [] h.set_spelled h.is_set)) (set_within d bytes m coding set h))

  target_reads : (target : Option Syntax) → CanBecome target coding set
      → (refuses_change (convert d target) coding ≡ false) × Reads (target_bar (target_syntax target coding)) coding.syntax (set_at h.group) (drop (set_at h.group) bytes) (whole_front set) complete
  target_reads None can = (refl, own_reads coding.syntax (set_at h.group) (drop (set_at h.group) bytes) (whole_front set) complete (set_reads d bytes m coding set h))
  target_reads (Some (implicit_in e)) can = (can.0, native_reads can.1)
  target_reads (Some (little_in e)) can = (can, set_reads d bytes m coding set h)
  target_reads (Some (big_in e)) can = (can.0, native_reads can.1)

  conversion_reads : (target : Option Syntax) → CanBecome target coding set → FileReads (convert d target) bytes (file m coding (whole_front set) complete)
  conversion_reads target can =
      let k = target_reads target can in
      opened m h.group coding (whole_front set) complete (head_is d bytes m coding set h) k.0 k.1 refl

  pub converts_sound : (target : Option Syntax) (a : Answer) → CanBecome target coding set → Answers (convert d target) bytes a → a ≡ all_done (new_file (target_uid target m) (target_syntax target coding) m set)
  converts_sound target a can y =
      y.answer_is
      ∙ ap (answer (convert d target)) (one_source (convert d target) bytes y.source (file m coding (whole_front set) complete) y.reads (conversion_reads target can))
      ∙ ap (λ (x : List ℕ). all_done (m.preamble ++ PREFIX ++ new_meta m.elements (target_uid target m) ++ x)) (whole_recoded (target_syntax target coding) set)
