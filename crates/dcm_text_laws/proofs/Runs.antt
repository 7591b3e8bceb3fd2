-- What a run writes is valid UTF-8.
use Rattle.std.proofs.Common.{ap, sym, subst, ℕ, List, drop, Option, None, Some}
use Rattle.std.specs.Prelude.{IsUtf8}
use Rattle.std.proofs.lemmas.Str.{IsUtf8-nil}
use Rattle.dcm_base.specs.declared.dictionary.Dictionary.{Dictionary}
use Rattle.dcm_base.specs.declared.mode.Mode.{Mode}
use Rattle.dcm_base.specs.declared.syntax.Coding.{Coding}
use Rattle.dcm_base.specs.declared.syntax.Syntax.{Syntax}
use Rattle.dcm_base.specs.File.MetaReads.{Meta}
use Rattle.dcm_base.specs.Reading.Bars.{no_bar}
use Rattle.dcm_base.specs.Tables.Syntax.{read_by}
use Rattle.dcm_base.specs.Tree.Front.{Front}
use Rattle.dcm_base.proofs.DumpsBack.Parts.{Bytes-drop}
use Rattle.dcm_base.proofs.DumpsBack.Texts.{Bytes, bytes_of}
use Rattle.dcm_sinks.specs.InForce.{EMPTY}
use Rattle.dcm_words.specs.Words.{Job, dump_decoded}
use Rattle.dcm_cli.specs.Answer.{Answer, AloneReads, AloneSure, FileReads, FileSure, InputReads, Source, alone, alone_output, answer, before_set, file, file_output, going_on, not_changed, not_opened, opened, output_of, set_at, unopened, within_set}
use Rattle.dcm_text_laws.specs.Laws.{AnswerIsUtf8, SureIsUtf8}
use Rattle.dcm_text_laws.proofs.Lines.{both}
use Rattle.dcm_text_laws.proofs.Fronts.{FrontOfBytes, front_utf8}
use Rattle.dcm_text_laws.proofs.Read.{on_holds, set_read}
use Rattle.dcm_text_laws.proofs.Headers.{MetaOfBytes, alone_header_utf8, file_header_utf8, head_read}

module _ (d : Dictionary) (mode : Mode) where
  file_utf8 : (bare : Option Syntax) (m : Meta) (coding : Coding) (f : Front) → MetaOfBytes m → FrontOfBytes f → IsUtf8 (file_output (dump_decoded d mode bare) m coding f)
  file_utf8 bare m coding f h k = both (file_header_utf8 d mode m h) (front_utf8 d mode EMPTY 0 f k)

  alone_utf8 : (bare : Option Syntax) (s : Syntax) (f : Front) → FrontOfBytes f → IsUtf8 (alone_output (dump_decoded d mode bare) s f)
  alone_utf8 bare s f h = both (alone_header_utf8 s) (front_utf8 d mode EMPTY 0 f h)

  -- ---- answers

  by_file : (bytes : List ℕ) (source : Source) → Bytes bytes → FileReads (dump_decoded d mode None) bytes source → IsUtf8 (output_of (dump_decoded d mode None) source)
  by_file bytes source h (not_opened fault offset r e) = subst (λ (x : Source). IsUtf8 (output_of (dump_decoded d mode None) x)) (sym e) IsUtf8-nil
  by_file bytes source h (not_changed m group coding r refuses e) = subst (λ (x : Source). IsUtf8 (output_of (dump_decoded d mode None) x)) (sym e) IsUtf8-nil
  by_file bytes source h (opened m group coding f stop r refuses reads e) =
      subst (λ (x : Source). IsUtf8 (output_of (dump_decoded d mode None) x)) (sym e)
      (file_utf8 None m coding f (head_read bytes m group r.named r.head h) (set_read no_bar coding.syntax (set_at group) (drop (set_at group) bytes) f stop reads (Bytes-drop (set_at group) bytes h)))

  by_alone : (s syntax : Syntax) (bytes : List ℕ) (source : Source) → Bytes bytes → AloneReads s bytes source → IsUtf8 (output_of (dump_decoded d mode (Some syntax)) source)
  by_alone s syntax bytes source h r =
      subst (λ (x : Source). IsUtf8 (output_of (dump_decoded d mode (Some syntax)) x)) (sym r.source_is)
      (alone_utf8 (Some syntax) s r.set (set_read no_bar s 0 bytes r.set r.stop r.reads h))

  -- ---- beginnings

  sure_file : (p out : List ℕ) → Bytes p → FileSure (dump_decoded d mode None) p out → IsUtf8 out
  sure_file p out h (before_set a r undecided e) = subst IsUtf8 (sym e) IsUtf8-nil
  sure_file p out h (within_set m group coding f stop r longer refuses reads undecided e) =
      subst IsUtf8 (sym e)
      (file_utf8 None m coding (going_on f) (head_read p m group r.named r.head h)
      (on_holds f (set_read no_bar coding.syntax (set_at group) (drop (set_at group) p) f stop reads (Bytes-drop (set_at group) p h))))

  sure_alone : (s syntax : Syntax) (p out : List ℕ) → Bytes p → AloneSure (dump_decoded d mode (Some syntax)) s p out → IsUtf8 out
  sure_alone s syntax p out h r =
      subst IsUtf8 (sym r.out_is) (alone_utf8 (Some syntax) s (going_on r.set) (on_holds r.set (set_read no_bar s 0 p r.set r.stop r.reads h)))

-- the output of an answer is what is written of its source
of_source : (job : Job) (source : Source) → IsUtf8 (output_of job source) → IsUtf8 (answer job source).output
of_source job (unopened fault offset) h = h
of_source job (file m coding f stop) h = h
of_source job (alone syntax f stop) h = h

pub source_utf8 : (d : Dictionary) (mode : Mode) (bare : Option Syntax) (bytes : List ℕ) (source : Source) → Bytes bytes → InputReads (dump_decoded d mode bare) bytes source → IsUtf8 (output_of (dump_decoded d mode bare) source)
source_utf8 d mode None bytes source h r = by_file d mode bytes source h r
source_utf8 d mode (Some syntax) bytes source h r = by_alone d mode (read_by d syntax) syntax bytes source h r

pub answer_utf8 : AnswerIsUtf8
answer_utf8 d mode bare bytes a are y =
    subst IsUtf8 (sym (ap (λ (x : Answer). x.output) y.answer_is)) (of_source (dump_decoded d mode bare) y.source (source_utf8 d mode bare bytes y.source (bytes_of bytes are) y.reads))

pub sure_utf8 : SureIsUtf8
sure_utf8 d mode None p out are y = sure_file d mode p out (bytes_of p are) y
sure_utf8 d mode (Some syntax) p out are y = sure_alone d mode (read_by d syntax) syntax p out (bytes_of p are) y
