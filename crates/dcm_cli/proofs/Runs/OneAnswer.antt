-- A job has one answer to an input.
use Rattle.std.proofs.Common.{◌≡◌, ◌∙◌, ap, sym, ℕ, ◌≤◌, List, drop, Option, None, Some, Bool, true, false, refl, arith}
use Rattle.dcm_base.specs.declared.fault.Fault.TheVariants.{CannotChange}
use Rattle.dcm_base.specs.declared.mode.Mode.{Mode}
use Rattle.dcm_base.specs.declared.syntax.Syntax.{Syntax}
use Rattle.dcm_base.specs.declared.syntax.Coding.{Coding}
use Rattle.dcm_base.specs.Reading.Bars.{no_bar}
use Rattle.dcm_base.specs.Tree.Front.{Front}
use Rattle.dcm_base.specs.File.MetaReads.{Meta, MetaAnswer, MetaReads, begins, refused}
use Rattle.dcm_base.specs.Reading.Reads.{INPUT_LIMIT, Reads}
use Rattle.dcm_base.specs.Reading.Stop.{Stop}
use Rattle.dcm_base.specs.Lines.Build as build
use Rattle.dcm_base.proofs.DataSets.OneAnswer.{reads_once}
use Rattle.dcm_base.specs.Tables.Syntax.{read_by, coding_by}
use Rattle.dcm_base.specs.declared.dictionary.Dictionary.{Dictionary}
use Rattle.dcm_head.proofs.HeadReading.State.{described}
use Rattle.dcm_head.proofs.HeadReading.Answers.{told}
use Rattle.dcm_stream.proofs.Steps.ReadsSome.{plain, in_order, for_target}
use Rattle.dcm_editor.proofs.ReadBack.IdentityBar.{identity_read}
use Rattle.dcm_words.specs.declared.job.Texts.{Texts}
use Rattle.dcm_words.specs.Words.{Job, dump, dump_decoded, dump_named, Named, convert, build as building, modify, deidentify}
use Rattle.dcm_cli.specs.Answer.{job_dictionary, HeadIs, Answer, Answers, Source, unopened, file as a_file, alone, answer, built_answer, set_at, job_bar, target_syntax, refuses_change, FileReads, InputReads, not_opened, not_changed, opened, AloneReads}
use Rattle.dcm_cli.proofs.Passes.MetaHeads.{group_spelled}
use Rattle.dcm_cli.proofs.Runs.OneSource.{one_source}

-- ---- at most one

alike : (job : Job) (a b : Answer) (x y : Source) → a ≡ answer job x → b ≡ answer job y → x ≡ y → a ≡ b
alike job a b x y e f same = e ∙ ap (λ (z : Source). answer job z) same ∙ sym f

pub alone_once : (syntax : Syntax) (bytes : List ℕ) (x y : Source) → AloneReads syntax bytes x → AloneReads syntax bytes y → x ≡ y
alone_once syntax bytes x y h k =
    let one = reads_once no_bar syntax 0 bytes h.set k.set h.stop k.stop h.reads k.reads in
    h.source_is ∙ ap (λ (f : Front). alone syntax f h.stop) one.0 ∙ ap (λ (stop : Stop). alone syntax k.set stop) one.1 ∙ sym k.source_is

-- an input is read in one way
pub one_input : (job : Job) (input : List ℕ) (x y : Source) → InputReads job input x → InputReads job input y → x ≡ y
one_input (dump d mode None) input x y a b = one_source (dump d mode None) input x y a b
one_input (dump d mode (Some s)) input x y a b = alone_once (read_by d s) input x y a b
one_input (dump_decoded d mode None) input x y a b = one_source (dump_decoded d mode None) input x y a b
one_input (dump_decoded d mode (Some s)) input x y a b = alone_once (read_by d s) input x y a b
one_input (dump_named texts d mode None n) input x y a b = one_source (dump_named texts d mode None n) input x y a b
one_input (dump_named texts d mode (Some s) n) input x y a b = alone_once (read_by d s) input x y a b
one_input (convert d target) input x y a b = one_source (convert d target) input x y a b
one_input (building limit) input x y a b = one_source (building limit) input x y a b
one_input (modify d edits) input x y a b = one_source (modify d edits) input x y a b
one_input (deidentify options reports key) input x y a b = one_source (deidentify options reports key) input x y a b

dumped_once : (d : Dictionary) (mode : Mode) (bare : Option Syntax) (input : List ℕ) (a b : Answer) → Answers (dump d mode bare) input a → Answers (dump d mode bare) input b → a ≡ b
dumped_once d mode None input a b x y = alike (dump d mode None) a b x.source y.source x.answer_is y.answer_is (one_source (dump d mode None) input x.source y.source x.reads y.reads)
dumped_once d mode (Some s) input a b x y = alike (dump d mode (Some s)) a b x.source y.source x.answer_is y.answer_is (alone_once (read_by d s) input x.source y.source x.reads y.reads)

decoded_once : (d : Dictionary) (mode : Mode) (bare : Option Syntax) (input : List ℕ) (a b : Answer) → Answers (dump_decoded d mode bare) input a → Answers (dump_decoded d mode bare) input b → a ≡ b
decoded_once d mode None input a b x y = alike (dump_decoded d mode None) a b x.source y.source x.answer_is y.answer_is (one_source (dump_decoded d mode None) input x.source y.source x.reads y.reads)
decoded_once d mode (Some s) input a b x y = alike (dump_decoded d mode (Some s)) a b x.source y.source x.answer_is y.answer_is (alone_once (read_by d s) input x.source y.source x.reads y.reads)

named_once : (texts : Texts) (d : Dictionary) (mode : Mode) (bare : Option Syntax) (n : Named) (input : List ℕ) (a b : Answer) → Answers (dump_named texts d mode bare n) input a → Answers (dump_named texts d mode bare n) input b → a ≡ b
named_once texts d mode None n input a b x y = alike (dump_named texts d mode None n) a b x.source y.source x.answer_is y.answer_is (one_source (dump_named texts d mode None n) input x.source y.source x.reads y.reads)
named_once texts d mode (Some s) n input a b x y = alike (dump_named texts d mode (Some s) n) a b x.source y.source x.answer_is y.answer_is (alone_once (read_by d s) input x.source y.source x.reads y.reads)

pub one_answer : (job : Job) (input : List ℕ) (a b : Answer) → Answers job input a → Answers job input b → a ≡ b
one_answer (dump d mode bare) input a b x y = dumped_once d mode bare input a b x y
one_answer (dump_decoded d mode bare) input a b x y = decoded_once d mode bare input a b x y
one_answer (dump_named texts d mode bare n) input a b x y = named_once texts d mode bare n input a b x y
one_answer (convert d target) input a b x y = alike (convert d target) a b x.source y.source x.answer_is y.answer_is (one_source (convert d target) input x.source y.source x.reads y.reads)
one_answer (building limit) input a b x y = x ∙ sym y
one_answer (modify d edits) input a b x y = alike (modify d edits) a b x.source y.source x.answer_is y.answer_is (one_source (modify d edits) input x.source y.source x.reads y.reads)
one_answer (deidentify options reports key) input a b x y =
    alike (deidentify options reports key) a b x.source y.source x.answer_is y.answer_is (one_source (deidentify options reports key) input x.source y.source x.reads y.reads)

-- ---- at least one

set_read : (job : Job) (coding : Coding) (start : ℕ) (bytes : List ℕ) → start ≤ INPUT_LIMIT → (f : Front) × (stop : Stop) × Reads (job_bar job coding) coding.syntax start bytes f stop
set_read (dump d mode bare) coding start bytes le = plain coding.syntax start bytes le
set_read (dump_decoded d mode bare) coding start bytes le = plain coding.syntax start bytes le
set_read (dump_named texts d mode bare n) coding start bytes le = plain coding.syntax start bytes le
set_read (convert d target) coding start bytes le = for_target (target_syntax target coding) coding.syntax start bytes le
set_read (building limit) coding start bytes le = plain coding.syntax start bytes le
set_read (modify d edits) coding start bytes le = in_order coding.syntax start bytes le
set_read (deidentify options reports key) coding start bytes le = identity_read coding.syntax start bytes le

module _ (job : Job) (bytes : List ℕ) where
  behind_group : (m : Meta) (group : List ℕ) (coding : Coding) → HeadIs (job_dictionary job) bytes m group coding → refuses_change job coding ≡ false
      → (f : Front) × (stop : Stop) × Reads (job_bar job coding) coding.syntax (set_at group) (drop (set_at group) bytes) f stop → (source : Source) × FileReads job bytes source
  behind_group m group coding head kept (f, stop, reads) = (a_file m coding f stop, opened m group coding f stop head kept reads refl)

  by_change : (m : Meta) (group : List ℕ) (coding : Coding) → HeadIs (job_dictionary job) bytes m group coding → (changes : Bool) → refuses_change job coding ≡ changes → (source : Source) × FileReads job bytes source
  by_change m group coding head true e = (unopened CannotChange (set_at group), not_changed m group coding head e refl)
  by_change m group coding head false e =
      let small = (group_spelled bytes m group head.named head.head).2 in
      behind_group m group coding head e (set_read job coding (set_at group) (drop (set_at group) bytes) (omega (arith, small)))

  by_head : (said : MetaAnswer) → MetaReads bytes said → (source : Source) × FileReads job bytes source
  by_head (refused fault offset) head = (unopened fault offset, not_opened fault offset head refl)
  by_head (begins m group named) head =
      let coding = coding_by (job_dictionary job) named in
      by_change m group coding (record { named = named; head = head; coding_is = refl }) (refuses_change job coding) refl

  file_read : (source : Source) × FileReads job bytes source
  file_read = let t = told _ bytes (described bytes) in by_head t.answer t.reads

alone_read : (d : Dictionary) (mode : Mode) (s : Syntax) (input : List ℕ) → (f : Front) × (stop : Stop) × Reads no_bar (read_by d s) 0 input f stop → (a : Answer) × Answers (dump d mode (Some s)) input a
alone_read d mode s input (f, stop, reads) =
    (answer (dump d mode (Some s)) (alone (read_by d s) f stop), record { source = alone (read_by d s) f stop; reads = record { set = f; stop = stop; reads = reads; source_is = refl }; answer_is = refl })

dumped : (d : Dictionary) (mode : Mode) (bare : Option Syntax) (input : List ℕ) → (a : Answer) × Answers (dump d mode bare) input a
dumped d mode None input = let x = file_read (dump d mode None) input in (answer (dump d mode None) x.0, record { source = x.0; reads = x.1; answer_is = refl })
dumped d mode (Some s) input = alone_read d mode s input (plain (read_by d s) 0 input (omega arith))

decoded_alone : (d : Dictionary) (mode : Mode) (s : Syntax) (input : List ℕ) → (f : Front) × (stop : Stop) × Reads no_bar (read_by d s) 0 input f stop → (a : Answer) × Answers (dump_decoded d mode (Some s)) input a
decoded_alone d mode s input (f, stop, reads) =
    (answer (dump_decoded d mode (Some s)) (alone (read_by d s) f stop), record { source = alone (read_by d s) f stop; reads = record { set = f; stop = stop; reads = reads; source_is = refl }; answer_is = refl })

decoded : (d : Dictionary) (mode : Mode) (bare : Option Syntax) (input : List ℕ) → (a : Answer) × Answers (dump_decoded d mode bare) input a
decoded d mode None input = let x = file_read (dump_decoded d mode None) input in (answer (dump_decoded d mode None) x.0, record { source = x.0; reads = x.1; answer_is = refl })
decoded d mode (Some s) input = decoded_alone d mode s input (plain (read_by d s) 0 input (omega arith))

named_alone : (texts : Texts) (d : Dictionary) (mode : Mode) (n : Named) (s : Syntax) (input : List ℕ) → (f : Front) × (stop : Stop) × Reads no_bar (read_by d s) 0 input f stop → (a : Answer) × Answers (dump_named texts d mode (Some s) n) input a
named_alone texts d mode n s input (f, stop, reads) =
    (answer (dump_named texts d mode (Some s) n) (alone (read_by d s) f stop), record { source = alone (read_by d s) f stop; reads = record { set = f; stop = stop; reads = reads; source_is = refl }; answer_is = refl })

named : (texts : Texts) (d : Dictionary) (mode : Mode) (bare : Option Syntax) (n : Named) (input : List ℕ) → (a : Answer) × Answers (dump_named texts d mode bare n) input a
named texts d mode None n input = let x = file_read (dump_named texts d mode None n) input in (answer (dump_named texts d mode None n) x.0, record { source = x.0; reads = x.1; answer_is = refl })
named texts d mode (Some s) n input = named_alone texts d mode n s input (plain (read_by d s) 0 input (omega arith))

pub some_answer : (job : Job) (input : List ℕ) → (a : Answer) × Answers job input a
some_answer (dump d mode bare) input = dumped d mode bare input
some_answer (dump_decoded d mode bare) input = decoded d mode bare input
some_answer (dump_named texts d mode bare n) input = named texts d mode bare n input
some_answer (convert d target) input = let x = file_read (convert d target) input in (answer (convert d target) x.0, record { source = x.0; reads = x.1; answer_is = refl })
some_answer (building limit) input = (built_answer (build.built limit input), refl)
some_answer (modify d edits) input = let x = file_read (modify d edits) input in (answer (modify d edits) x.0, record { source = x.0; reads = x.1; answer_is = refl })
some_answer (deidentify options reports key) input =
    let x = file_read (deidentify options reports key) input in
    (answer (deidentify options reports key) x.0, record { source = x.0; reads = x.1; answer_is = refl })
