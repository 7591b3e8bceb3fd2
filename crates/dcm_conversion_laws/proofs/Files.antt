-- A file that is converted by way of another syntax.
use Rattle.std.proofs.Common.{◌≡◌, ◌∙◌, ap, sym, refl, ℕ, List, ◌++◌, drop, Option, None, Some}
use Rattle.dcm_base.proofs.DataSets.Alike.{read_by_dictionary}
use Rattle.dcm_base.specs.declared.dictionary.Dictionary.{Dictionary}
use Rattle.dcm_base.specs.declared.fault.Fault.{Fault}
use Rattle.dcm_base.specs.declared.fault.Fault.TheVariants.{CannotChange}
use Rattle.dcm_base.specs.declared.mode.Mode.TheVariants.{Full}
use Rattle.dcm_base.specs.declared.syntax.Coding.{Coding}
use Rattle.dcm_base.specs.declared.syntax.Syntax.{Syntax}
use Rattle.dcm_base.specs.Conversion.NewMeta.{new_meta}
use Rattle.dcm_base.specs.Conversion.Normal.{normal_front}
use Rattle.dcm_base.specs.Conversion.Recode.{recode}
use Rattle.dcm_base.specs.File.MetaReads.{Meta, PREFIX}
use Rattle.dcm_base.specs.Reading.Bars.{target_bar}
use Rattle.dcm_base.specs.Reading.Reads.{Reads}
use Rattle.dcm_base.specs.Reading.Stop.{Stop, complete, refused}
use Rattle.dcm_base.specs.Tables.Syntax.{dictionary_of, read_by}
use Rattle.dcm_base.specs.Tree.Front.{Front}
use Rattle.dcm_sinks.specs.MetaAgain.{meta_again}
use Rattle.dcm_value.proofs.ReadBack.Units.{bytes_drop}
use Rattle.dcm_words.specs.Words.{convert, dump}
use Rattle.dcm_cli.specs.Answer.{Answer, Answers, FileReads, HeadIs, Source, answer, file as a_file, job_bar, not_changed, not_opened, opened, set_at, target_syntax, target_uid, unopened}
use Rattle.dcm_head.specs.SyntaxUids.{uid_of_syntax}
use Rattle.dcm_run_laws.specs.ReadsAgain.{IsConverted, target_coding}
use Rattle.dcm_cli.specs.Status.{DONE, FAULT}
use Rattle.dcm_cli.proofs.Passes.MetaHeads.{group_spelled}
use Rattle.dcm_cli.proofs.Runs.OneSource.{one_source}
use Rattle.dcm_run_laws.proofs.ReadBack.ReadsAgain.{begins_within, converted_reads, read_of}
use Rattle.dcm_deid_laws.proofs.NotBarred.{not_barred}
use Rattle.dcm_conversion_laws.specs.Detour.{FrontKeeps}
use Rattle.dcm_conversion_laws.proofs.Fronts.{front_composes}
use Rattle.dcm_conversion_laws.proofs.Groups.{group_composes}

pub two_is_none : FAULT ≡ DONE → ⊥
two_is_none e = cc

-- ---- an answer without fault is that to the one reading of its file

-- a reading without fault, and the answer to it
abbrev pub Done : Dictionary → Option Syntax → List ℕ → Answer → Type 0
Done d target bytes b =
    (m : Meta) × (c : Coding) × (g : Front) × FileReads (dump d Full None) bytes (a_file m c g complete) × (b ≡ answer (convert d target) (a_file m c g complete))

module _ (d : Dictionary) (target : Option Syntax) (bytes : List ℕ) where
  pub refused_never : (fault : Fault) (offset : ℕ) (b : Answer) (source : Source) → b ≡ answer (convert d target) source → source ≡ unopened fault offset → b.status ≡ DONE → ⊥
  refused_never fault offset b source is e done = two_is_none (sym (ap (λ (x : Answer). x.status) is ∙ ap (λ (x : Source). (answer (convert d target) x).status) e) ∙ done)

  by_stop : (n : Meta) (group : List ℕ) (c : Coding) (g : Front) (stop : Stop) (b : Answer) (source : Source) → HeadIs d bytes n group c → Reads (job_bar (convert d target) c) c.syntax (set_at group) (drop (set_at group) bytes) g stop
      → b ≡ answer (convert d target) source → source ≡ a_file n c g stop → b.status ≡ DONE → Done d target bytes b
  by_stop n group c g complete b source head reads is e done =
      (n, c, g, opened n group c g complete head refl (not_barred (job_bar (convert d target) c) c.syntax (set_at group) (drop (set_at group) bytes) g reads) refl, is ∙ ap (answer (convert d target)) e)
  by_stop n group c g (refused fault offset) b source head reads is e done =
      absurd (two_is_none (sym (ap (λ (x : Answer). x.status) is ∙ ap (λ (x : Source). (answer (convert d target) x).status) e) ∙ done))

  by_source : (b : Answer) (source : Source) → FileReads (convert d target) bytes source → b ≡ answer (convert d target) source → b.status ≡ DONE → Done d target bytes b
  by_source b source (not_opened fault offset h e) is done = absurd (refused_never fault offset b source is e done)
  by_source b source (not_changed n group c h r e) is done = absurd (refused_never CannotChange (set_at group) b source is e done)
  by_source b source (opened n group c g stop h r reads e) is done = by_stop n group c g stop b source h reads is e done

  pub done_some : (b : Answer) → Answers (convert d target) bytes b → b.status ≡ DONE → Done d target bytes b
  done_some b y done = by_source b y.source y.reads y.answer_is done

pub done_is : (d : Dictionary) (target : Option Syntax) (bytes : List ℕ) (m : Meta) (coding : Coding) (f : Front) → FileReads (dump d Full None) bytes (a_file m coding f complete)
    → (b : Answer) → Answers (convert d target) bytes b → b.status ≡ DONE → b ≡ answer (convert d target) (a_file m coding f complete)
done_is d target bytes m coding f own b y done =
    let some = done_some d target bytes b y done in
    some.4 ∙ ap (answer (convert d target)) (one_source (dump d Full None) bytes (a_file some.0 some.1 some.2 complete) (a_file m coding f complete) some.3 own)

-- ---- the way

way_syntax : (way : Option Syntax) (coding : Coding) → (target_coding way coding).syntax ≡ target_syntax way coding
way_syntax None coding = refl
way_syntax (Some s) coding = refl

way_dictionary : (way : Option Syntax) (coding : Coding) → dictionary_of (target_coding way coding).syntax ≡ dictionary_of coding.syntax
way_dictionary None coding = refl
way_dictionary (Some s) coding = read_by_dictionary (dictionary_of coding.syntax) s

module _ (d : Dictionary) (way : Option Syntax) (target : Syntax) (input : List ℕ) (a : Answer) (m : Meta) (coding : Coding) (f : Front) (h : IsConverted d way input a m coding f) (keeps : FrontKeeps (target_syntax way coding) (target_syntax (Some target) coding) f) where
  abbrev uid : List ℕ
  uid = target_uid way m

  abbrev between : Syntax
  between = target_syntax way coding

  abbrev to : Syntax
  to = target_syntax (Some target) coding

  first_source : FileReads (dump d Full None) input (a_file m coding f complete)
  first_source =
      let r = read_of (convert d way) input m coding f h.answers.source h.source_is h.answers.reads in
      opened m r.group coding f complete r.head refl (not_barred (target_bar between) coding.syntax (set_at r.group) (drop (set_at r.group) input) f r.set) refl

  second_source : FileReads (dump d Full None) a.output (a_file (meta_again m uid) (target_coding way coding) (normal_front between f) complete)
  second_source =
      let k = converted_reads d way input a m coding f h in
      opened (meta_again m uid) (new_meta m.elements uid) (target_coding way coding) (normal_front between f) complete k.head refl k.dumped refl

  sets : recode to (normal_front between f) ≡ recode to f
  sets =
      let r = read_of (convert d way) input m coding f h.answers.source h.source_is h.answers.reads in
      front_composes between to between coding.syntax (set_at r.group) (drop (set_at r.group) input) f (begins_within input m r.group r.head.named r.head.head) (bytes_drop (set_at r.group) input h.are_bytes) r.set keeps

  groups : new_meta (meta_again m uid).elements (uid_of_syntax target) ≡ new_meta m.elements (uid_of_syntax target)
  groups =
      let r = read_of (convert d way) input m coding f h.answers.source h.source_is h.answers.reads in
      group_composes uid (uid_of_syntax target) m.elements (group_spelled input m r.group r.head.named r.head.head).1

  pub composed : (answer (convert d (Some target)) (a_file (meta_again m uid) (target_coding way coding) (normal_front between f) complete)).output ≡ (answer (convert d (Some target)) (a_file m coding f complete)).output
  composed =
      ap (λ (k : Dictionary). m.preamble ++ PREFIX ++ new_meta (meta_again m uid).elements (uid_of_syntax target) ++ recode (read_by k target) (normal_front between f)) (way_dictionary way coding)
      ∙ ap (λ (x : List ℕ). m.preamble ++ PREFIX ++ x ++ recode to (normal_front between f)) groups
      ∙ ap (λ (x : List ℕ). m.preamble ++ PREFIX ++ new_meta m.elements (uid_of_syntax target) ++ x) sets

pub files_compose : (d : Dictionary) (way : Option Syntax) (target : Syntax) (input : List ℕ) (a b c : Answer) (m : Meta) (coding : Coding) (f : Front) → IsConverted d way input a m coding f → FrontKeeps (target_syntax way coding) (target_syntax (Some target) coding) f
    → Answers (convert d (Some target)) a.output b → Answers (convert d (Some target)) input c → b.status ≡ DONE → c.status ≡ DONE → b.output ≡ c.output
files_compose d way target input a b c m coding f h keeps x y done one =
    ap (λ (z : Answer). z.output) (done_is d (Some target) a.output (meta_again m (target_uid way m)) (target_coding way coding) (normal_front (target_syntax way coding) f) (second_source d way target input a m coding f h keeps) b x done)
    ∙ composed d way target input a m coding f h keeps
    ∙ sym (ap (λ (z : Answer). z.output) (done_is d (Some target) input m coding f (first_source d way target input a m coding f h keeps) c y one))
