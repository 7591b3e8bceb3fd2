-- What dcmdump answers to a sound file.
use Rattle.std.proofs.Common.{arith, ◌+◌, ◌≤◌, length, Some, ◌≡◌, ◌∙◌, ap, sym, refl, subst, ℕ, List, [], ◌++◌, drop, None}
use Rattle.std.proofs.lemmas.List.{append-nil}
use Rattle.dcm_base.specs.declared.dictionary.Dictionary.{Dictionary}
use Rattle.dcm_base.specs.declared.mode.Mode.{Mode}
use Rattle.dcm_base.specs.declared.syntax.Coding.{Coding}
use Rattle.dcm_base.specs.Tree.Tree.{Trees}
use Rattle.dcm_base.specs.Conversion.Normal.{whole_front}
use Rattle.dcm_base.specs.Dump.Dump.{dump_front, dump_set}
use Rattle.dcm_base.specs.Dump.Header.{meta_header, set_header}
use Rattle.dcm_base.specs.File.MetaReads.{Meta}
use Rattle.dcm_base.specs.Reading.Bars.{no_bar}
use Rattle.dcm_base.specs.Reading.Reads.{Reads}
use Rattle.dcm_base.specs.Reading.Stop.{complete}
use Rattle.dcm_words.specs.Words.{dump}
use Rattle.dcm_base.specs.declared.syntax.Syntax.{Syntax}
use Rattle.dcm_base.specs.Tables.Syntax.{read_by}
use Rattle.dcm_base.specs.Bytes.Spelling.{Spells}
use Rattle.dcm_base.specs.Tree.Front.{Front}
use Rattle.dcm_base.specs.Reading.Reads.{INPUT_LIMIT}
use Rattle.dcm_base.specs.Reading.Stop.{Stop}
use Rattle.dcm_base.proofs.DataSets.OneAnswer.{reads_once}
use Rattle.dcm_cli.specs.Answer.{Answer, Answers, FileReads, alone, answer, file, opened, set_at}
use Rattle.dcm_head.specs.SyntaxUids.{uid_of_syntax}
use Rattle.dcm_cli.proofs.Runs.OneSource.{one_source}
use Rattle.dcm_sound.specs.Laws.{all_done}
use Rattle.dcm_sound.specs.Sound.{IsDataSet, IsSound}
use Rattle.dcm_sound.proofs.Source.{head_is, set_is, set_within}
use Rattle.dcm_sound.proofs.Spelled.Free.{free, may_come}
use Rattle.dcm_sound.proofs.Spelled.Reads.{spelled_reads}

whole_dump : (d : Dictionary) (mode : Mode) (set : Trees) → dump_front d mode 0 (whole_front set) ≡ dump_set d mode 0 set
unfolding dump_set dump_front
whole_dump d mode set = append-nil (dump_set d mode 0 set)

module _ (d : Dictionary) (bytes : List ℕ) (m : Meta) (coding : Coding) (set : Trees) (h : IsSound d bytes m coding set) where
  -- its data set is read whole
  pub set_reads : Reads no_bar coding.syntax (set_at h.group) (drop (set_at h.group) bytes) (whole_front set) complete
  set_reads =
      subst (λ (x : List ℕ). Reads no_bar coding.syntax (set_at h.group) x (whole_front set) complete) (sym (set_is d bytes m coding set h))
      (spelled_reads no_bar free (λ f. refl) coding.syntax (set_at h.group) set h.contents h.set_spelled (may_come coding.syntax 0 set h.contents [] h.set_spelled h.is_set) (set_within d bytes m coding set h))

  pub dump_reads : (mode : Mode) → FileReads (dump d mode None) bytes (file m coding (whole_front set) complete)
  dump_reads mode = opened m h.group coding (whole_front set) complete (head_is d bytes m coding set h) refl set_reads refl

  pub dumps_sound : (mode : Mode) (a : Answer) → Answers (dump d mode None) bytes a → a ≡ all_done (meta_header d mode m.elements ++ set_header m.uid ++ dump_set d mode 0 set)
  dumps_sound mode a y =
      y.answer_is
      ∙ ap (answer (dump d mode None)) (one_source (dump d mode None) bytes y.source (file m coding (whole_front set) complete) y.reads (dump_reads mode))
      ∙ ap (λ (x : List ℕ). all_done (meta_header d mode m.elements ++ set_header m.uid ++ x)) (whole_dump d mode set)

-- ---- a data set alone

pub dumps_set_alone : (d : Dictionary) (mode : Mode) (syntax : Syntax) (bytes : List ℕ) (set : Trees) (a : Answer) → Spells (read_by d syntax) set bytes → IsDataSet 0 set → length bytes ≤ INPUT_LIMIT
    → Answers (dump d mode (Some syntax)) bytes a → a ≡ all_done (set_header (uid_of_syntax (read_by d syntax)) ++ dump_set d mode 0 set)
dumps_set_alone d mode syntax bytes set a at is_set within y =
    let s : Syntax = read_by d syntax in
    let le : 0 + length bytes ≤ INPUT_LIMIT = omega (arith, within) in
    let reads : Reads no_bar s 0 bytes (whole_front set) complete = spelled_reads no_bar free (λ f. refl) s 0 set bytes at (may_come s 0 set bytes [] at is_set) le in
    let one = reads_once no_bar s 0 bytes y.reads.set (whole_front set) y.reads.stop complete y.reads.reads reads in
    y.answer_is
    ∙ ap (answer (dump d mode (Some syntax))) (y.reads.source_is ∙ ap (λ (f : Front). alone s f y.reads.stop) one.0 ∙ ap (λ (stop : Stop). alone s (whole_front set) stop) one.1)
    ∙ ap (λ (x : List ℕ). all_done (set_header (uid_of_syntax s) ++ x)) (whole_dump d mode set)
