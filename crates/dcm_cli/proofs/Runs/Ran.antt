-- What a run leaves, by how the work on its job ended.
use Rattle.dcm_words.specs.Plans.{named_as}
use Rattle.dcm_cli.proofs.Passes.NamedJobs.{of_named}
use Rattle.std.proofs.Common.{◌≡◌, ◌∙◌, ap, sym, subst, ℕ, ◌<◌, ◌≤◌, ◌^◌, List, [], ◌++◌, length, Bool, true, false, Option, None, Some, refl, inl, inr, ◌⊎◌}
use Rattle.std.specs.Prelude.{if◌then◌else◌, ◌&&◌}
use Rattle.std.specs.Io.KnownBytes.{append_known}
use Rattle.std.proofs.lemmas.List.{append_cancel_right}
use Rattle.dcm_base.specs.Lines.Build as build
use Rattle.dcm_base.specs.declared.fault.LineStop.{LineStop}
use Rattle.dcm_devices.specs.Device.{AppendsFront}
use Rattle.dcm_base.specs.Tree.Front.{Front}
use Rattle.dcm_base.specs.Reading.Stop.{Stop, complete, refused}
use Rattle.dcm_base.specs.declared.dictionary.Dictionary.{Dictionary}
use Rattle.dcm_base.specs.declared.mode.Mode.{Mode}
use Rattle.dcm_base.specs.declared.syntax.Syntax.{Syntax}
use Rattle.dcm_deid.specs.declared.fate.Options.{Options}
use Rattle.dcm_edits.specs.Edit.{Edit}
use Rattle.dcm_words.specs.declared.job.Texts.{Texts}
use Rattle.dcm_words.specs.declared.job.Texts.TheVariants.{Bytes, Characters}
use Rattle.dcm_words.specs.Words.{Job, dump, dump_decoded, dump_named, Named, dump_as, convert, build as building, modify, deidentify}
use Rattle.dcm_words.specs.declared.job.Job.{Job as RunJob}
use Rattle.dcm_words.specs.declared.job.Job.TheVariants.{Dump, Convert, Build, Modify, Deidentify}
use Rattle.dcm_cli.specs.declared.ending.Ending.{Ending}
use Rattle.dcm_cli.specs.declared.ending.Ending.TheVariants as endings
use Rattle.dcm_cli.specs.declared.ending.Ending.TheVariants.{Unread, Output}
use Rattle.dcm_cli.specs.declared.ending.Verdict.{Verdict}
use Rattle.dcm_cli.specs.declared.ending.Verdict.TheVariants.{Done, RefusedLine}
use Rattle.dcm_cli.specs.Answer.{Answer, Answers, Sure, Source, unopened, file, alone, ReadAnswers, answer, building_line, output_of, done_lines, unplaced_lines, status_of_lines, shows_identity, stop_line, stop_status}
use Rattle.dcm_cli.specs.Pass.{TellsUnread, TellsOutput}
use Rattle.dcm_cli.specs.InputCalls.{How, Allows}
use Rattle.dcm_cli.specs.declared.ending.Remarks.{Remarks}
use Rattle.dcm_cli.specs.Remarks.{no_remarks, remark_lines, remarks_at, remarks_told}
use Rattle.dcm_cli.specs.Run.{Remarked, RemarkedAs, source_remarks, AnsweredAll, AnswersAll, IsDecided, IsMeant, Answered, ReadEnds, BuildEnds, Worked, answered, could_not_read, could_not_write, FlushedAs, done_verdict, verdict_at, verdict_of_source, verdict_of_line_stop, unplaced_mask, verdict_lines, verdict_status, ending_lines, ending_status, Ran, as_answered, not_read, not_written, not_flushed}
use Rattle.dcm_cli.specs.Change.{Change}
use Rattle.dcm_cli.specs.ErrorLines.{Reports, pixels_line}
use Rattle.dcm_words.specs.Plans.{job_of}
use Rattle.dcm_cli.proofs.Passes.Files.{pixels_verdict}
use Rattle.dcm_cli.proofs.Passes.MakesEdits.{are_few}
use Rattle.dcm_cli.proofs.Passes.Readers.{allows_nothing}
use Rattle.dcm_cli.proofs.Passes.Remarked.{source_remarks_nothing}
use Rattle.dcm_cli.proofs.Runs.OneAnswer.{one_answer}
use Rattle.dcm_cli.proofs.Runs.OneRemark.{one_remarked_of}
use Rattle.dcm_cli.proofs.Lines.Unplaced.{no_lines, lines_of_mask, status_of_mask, few_without, few_edits}

-- the answer of an input that was read
pub output_is : (job : Job) (source : Source) → output_of job source ≡ (answer job source).output
output_is job (unopened fault offset) = refl
output_is job (file meta coding set stop) = refl
output_is job (alone syntax set stop) = refl

-- what is reported of a job, and the status, are those of its answer, where all was done
record IsTold (job : Job) : Type 0 where
  lines : (set : Front) → verdict_lines (done_verdict job set) ≡ done_lines job set
  status : (set : Front) → verdict_status (done_verdict job set) ≡ status_of_lines (done_lines job set)

module _ (job : Job) (told : IsTold job) where
  lines_at : (set : Front) (stop : Stop) → verdict_lines (verdict_at job set stop) ≡ stop_line job set stop
  lines_at set complete = told.lines set
  lines_at set (refused fault offset) = refl

  lines_are : (source : Source) → remark_lines (source_remarks job source) ++ verdict_lines (verdict_of_source job source) ≡ (answer job source).lines
  lines_are (unopened fault offset) = refl
  lines_are (file meta coding set stop) = ap (λ (bs : List ℕ). remark_lines (remarks_at job set) ++ bs) (lines_at set stop)
  lines_are (alone syntax set stop) = ap (λ (bs : List ℕ). remark_lines (remarks_at job set) ++ bs) (lines_at set stop)

  status_at : (set : Front) (stop : Stop) → verdict_status (verdict_at job set stop) ≡ stop_status job set stop
  status_at set complete = told.status set
  status_at set (refused fault offset) = refl

  status_is : (source : Source) → verdict_status (verdict_of_source job source) ≡ (answer job source).status
  status_is (unopened fault offset) = refl
  status_is (file meta coding set stop) = status_at set stop
  status_is (alone syntax set stop) = status_at set stop

-- edits of which the mask is one of 64 bits
module _ (edits : List Edit) (short : (set : Front) → unplaced_mask edits set < 2 ^ 64) where
  edits_lines : (set : Front) → verdict_lines (Done (unplaced_mask edits set)) ≡ unplaced_lines 1 edits set
  edits_lines set = lines_of_mask 64 1 edits set (short set)

  edits_status : (set : Front) → verdict_status (Done (unplaced_mask edits set)) ≡ status_of_lines (unplaced_lines 1 edits set)
  edits_status set = status_of_mask 1 edits set

-- whether pixels may show identity
pixels_lines : (shows : Bool) → verdict_lines (pixels_verdict shows) ≡ (if shows then pixels_line else [])
pixels_lines true = refl
pixels_lines false = no_lines 64 1

pixels_status : (shows : Bool) → verdict_status (pixels_verdict shows) ≡ status_of_lines (if shows then pixels_line else [])
pixels_status true = refl
pixels_status false = refl

dump_told : (d : Dictionary) (mode : Mode) (bare : Option Syntax) → IsTold (dump d mode bare)
dump_told d mode bare = record { lines = edits_lines [] few_without; status = edits_status [] few_without }

decoded_told : (d : Dictionary) (mode : Mode) (bare : Option Syntax) → IsTold (dump_decoded d mode bare)
decoded_told d mode bare = record { lines = edits_lines [] few_without; status = edits_status [] few_without }

named_told : (texts : Texts) (d : Dictionary) (mode : Mode) (bare : Option Syntax) (n : Named) → IsTold (dump_named texts d mode bare n)
named_told texts d mode bare n = record { lines = edits_lines [] few_without; status = edits_status [] few_without }

convert_told : (d : Dictionary) (target : Option Syntax) → IsTold (convert d target)
convert_told d target = record { lines = edits_lines [] few_without; status = edits_status [] few_without }

modify_told : (d : Dictionary) (edits : List Edit) → length edits ≤ 64 → IsTold (modify d edits)
modify_told d edits few =
    let short : (set : Front) → unplaced_mask edits set < 2 ^ 64 = λ set. few_edits 64 edits set few in
    record { lines = edits_lines edits short; status = edits_status edits short }

deidentify_told : (options : Options) (reports : Bool) (key : List ℕ) → IsTold (deidentify options reports key)
deidentify_told options reports key = record {
  lines = λ set. pixels_lines (reports && shows_identity options key set);
  status = λ set. pixels_status (reports && shows_identity options key set);
}

-- ---- the answer of an input

record Given (job : Job) (input out : List ℕ) (verdict : Verdict) : Type 0 where
  a : Answer
  remarks : Remarks
  answers : Answers job input a
  output_is : out ≡ a.output
  one_remarked : (r : Remarks) → Remarked job input r → r ≡ remarks
  lines_are : remark_lines remarks ++ verdict_lines verdict ≡ a.lines
  status_is : verdict_status verdict ≡ a.status

-- a data set that was read
reads_given : (job : Job) (input out : List ℕ) (verdict : Verdict) → IsTold job → ((a : Answer) → ReadAnswers job input a → Answers job input a) → (h : ReadEnds job input out verdict) → ((r : Remarks) → Remarked job input r → r ≡ source_remarks job h.source) → Given job input out verdict
reads_given job input out verdict told answers h one = record {
  a = answer job h.source;
  remarks = source_remarks job h.source;
  one_remarked = one;
  answers = answers (answer job h.source) (record { source = h.source; reads = h.reads; answer_is = refl });
  output_is = h.out_is ∙ output_is job h.source;
  lines_are = ap (λ (v : Verdict). remark_lines (source_remarks job h.source) ++ verdict_lines v) h.verdict_is ∙ lines_are job told h.source;
  status_is = ap verdict_status h.verdict_is ∙ status_is job told h.source;
}

-- lines that were built
abbrev answer_of : build.Built → Option LineStop → Answer
answer_of b told = elim told as (λ x. Answer) [
  | None ↦ record { output = build.built_bytes b; lines = []; status = 0 }
  | Some t ↦ record { output = build.built_bytes b; lines = building_line t; status = 2 }
]

module _ (limit : ℕ) (input out : List ℕ) (verdict : Verdict) (h : BuildEnds limit input out verdict) where
  by_told : (told : Option LineStop) → (build.built limit input).told ≡ told → Given (building limit) input out verdict
  by_told None e =
      let is : verdict ≡ Done 0 = h.verdict_is ∙ ap verdict_of_line_stop e in
      record {
        a = record { output = build.built_bytes (build.built limit input).built; lines = []; status = 0 };
        remarks = no_remarks;
        one_remarked = λ r h. h;
        answers = sym (ap (answer_of (build.built limit input).built) e);
        output_is = h.out_is;
        lines_are = ap verdict_lines is ∙ no_lines 64 1;
        status_is = ap verdict_status is;
      }
  by_told (Some t) e =
      let is : verdict ≡ RefusedLine t = h.verdict_is ∙ ap verdict_of_line_stop e in
      record {
        a = record { output = build.built_bytes (build.built limit input).built; lines = building_line t; status = 2 };
        remarks = no_remarks;
        one_remarked = λ r h. h;
        answers = sym (ap (answer_of (build.built limit input).built) e);
        output_is = h.out_is;
        lines_are = ap verdict_lines is;
        status_is = ap verdict_status is;
      }

  built_given : Given (building limit) input out verdict
  built_given = by_told (build.built limit input).told refl

-- by how texts are shown
dumped_given : (texts : Texts) (d : Dictionary) (mode : Mode) (bare : Option Syntax) (input out : List ℕ) (verdict : Verdict) → Answered (dump_as texts d mode bare) input out verdict → Given (dump_as texts d mode bare) input out verdict
dumped_given Bytes d mode bare input out verdict h =
    reads_given (dump d mode bare) input out verdict (dump_told d mode bare) (λ a reads. reads) h (λ r is. is ∙ sym (source_remarks_nothing (dump d mode bare) (λ set. refl) h.source))
dumped_given Characters d mode bare input out verdict h =
    reads_given (dump_decoded d mode bare) input out verdict (decoded_told d mode bare) (λ a reads. reads) h (one_remarked_of (dump_decoded d mode bare) input h.source h.reads)

named_given : (texts : Texts) (d : Dictionary) (mode : Mode) (bare : Option Syntax) (n : Named) (input out : List ℕ) (verdict : Verdict) → Answered (dump_named texts d mode bare n) input out verdict → Given (dump_named texts d mode bare n) input out verdict
named_given Bytes d mode bare n input out verdict h =
    reads_given (dump_named Bytes d mode bare n) input out verdict (named_told Bytes d mode bare n) (λ a reads. reads) h (λ r is. is ∙ sym (source_remarks_nothing (dump_named Bytes d mode bare n) (λ set. refl) h.source))
named_given Characters d mode bare n input out verdict h =
    reads_given (dump_named Characters d mode bare n) input out verdict (named_told Characters d mode bare n) (λ a reads. reads) h (one_remarked_of (dump_named Characters d mode bare n) input h.source h.reads)

given : {A : Type 0} (job : RunJob A) → IsMeant (job_of job) → (input out : List ℕ) (verdict : Verdict) → Answered (job_of job) input out verdict → Given (job_of job) input out verdict
given (Dump d) meant input out verdict h =
    let n = named_as d.named in
    of_named (λ (j : Job). Answered j input out verdict → Given j input out verdict) n d.texts d.dictionary d.mode d.bare (dumped_given d.texts d.dictionary d.mode d.bare input out verdict)
    (named_given d.texts d.dictionary d.mode d.bare n input out verdict) h
given (Convert c) meant input out verdict h = reads_given (convert c.dictionary c.target) input out verdict (convert_told c.dictionary c.target) (λ a reads. reads) h (λ r is. is ∙ sym (source_remarks_nothing (convert c.dictionary c.target) (λ set. refl) h.source))
given (Build b) meant input out verdict h = built_given b.limit input out verdict h
given (Modify m) meant input out verdict h = reads_given (modify m.dictionary m.edits) input out verdict (modify_told m.dictionary m.edits (are_few m.dictionary m.edits meant)) (λ a reads. reads) h (λ r is. is ∙ sym (source_remarks_nothing (modify m.dictionary m.edits) (λ set. refl) h.source))
given (Deidentify d) meant input out verdict h =
    reads_given (deidentify d.options d.reports d.key.items) input out verdict (deidentify_told d.options d.reports d.key.items) (λ a reads. reads) h
    (one_remarked_of (deidentify d.options d.reports d.key.items) input h.source h.reads)

-- what was read, where the rest is known
one_front : (before p rest left : List ℕ) → before ++ rest ≡ p ++ left → Some rest ≡ Some left → p ≡ before
one_front before p rest left whole at =
    let same : left ≡ rest = cc in
    append_cancel_right p before rest (ap (λ (bytes : List ℕ). p ++ bytes) (sym same) ∙ sym whole)

same_answer : (a b : Answer) → a.output ≡ b.output → a.lines ≡ b.lines → a.status ≡ b.status → a ≡ b
same_answer a b output lines status = λ i. record { output = output i; lines = lines i; status = status i }

module _ {A : Type 0} (job : RunJob A) (meant : IsMeant (job_of job)) (before : List ℕ) (how : How) (worked : Option (List ℕ)) (o e : Change) (r_old r_new w_old w_mid : Bool) (ending after : Ending) (remarks : Remarks) (status : ℕ)
    (kept : o.after ≡ worked) (flushed : FlushedAs ending after w_mid o.failed_after o.room) (unread : TellsUnread r_old r_new ending) (failed : TellsOutput w_old w_mid ending)
    (line : Reports e (remarks_told after remarks ++ ending_lines after)) (remarked : RemarkedAs (job_of job) before how ending remarks) (status_was : status ≡ ending_status after) (readable : r_old ≡ false) (writable : w_old ≡ false) where
  lines_of : (x : Ending) → after ≡ x → Reports e (remarks_told x remarks ++ ending_lines x)
  lines_of x is = subst (λ (y : Ending). Reports e (remarks_told y remarks ++ ending_lines y)) is line

  status_of : (x : Ending) → after ≡ x → status ≡ ending_status x
  status_of x is = status_was ∙ ap ending_status is

  after_answer : (out : List ℕ) (verdict : Verdict) → AnsweredAll (job_of job) before how out verdict → ending ≡ endings.Worked verdict → worked ≡ append_known o.before out → Ran (job_of job) before how r_new o e status
  after_answer out verdict all is grown = by_flush (subst (λ (x : Ending). FlushedAs x after w_mid o.failed_after o.room) is flushed)
    where
      k : Given (job_of job) (before ++ []) out verdict
      k = given job meant (before ++ []) out verdict (all [] (allows_nothing how))

      told : (rest : List ℕ) → Allows how rest → Remarked (job_of job) (before ++ rest) remarks
      told = subst (λ (x : Ending). RemarkedAs (job_of job) before how x remarks) is remarked

      with_remarks : (rest : List ℕ) → Allows how rest → (other : Given (job_of job) (before ++ rest) out verdict) → remark_lines remarks ++ verdict_lines verdict ≡ other.a.lines
      with_remarks rest ok other = ap (λ (r : Remarks). remark_lines r ++ verdict_lines verdict) (other.one_remarked remarks (told rest ok)) ∙ other.lines_are

      lines_here : remark_lines remarks ++ verdict_lines verdict ≡ k.a.lines
      lines_here = with_remarks [] (allows_nothing how) k

      answers : AnswersAll (job_of job) before how k.a
      answers rest ok =
          let other = given job meant (before ++ rest) out verdict (all rest ok) in
          subst (Answers (job_of job) (before ++ rest)) (same_answer other.a k.a (sym other.output_is ∙ k.output_is) (sym (with_remarks rest ok other) ∙ lines_here) (sym other.status_is ∙ k.status_is)) other.answers

      read : r_new ≡ false
      read = subst (λ (x : Ending). TellsUnread r_old r_new x) is unread ∙ readable

      by_flush : ((after ≡ endings.Worked verdict) × (o.failed_after ≡ w_mid)) ⊎ ((after ≡ Output) × (o.failed_after ≡ true) × (o.room ≡ None)) → Ran (job_of job) before how r_new o e status
      by_flush (inl x) =
          as_answered k.a answers read (x.1 ∙ subst (λ (x : Ending). TellsOutput w_old w_mid x) is failed ∙ writable)
          (kept ∙ grown ∙ ap (append_known o.before) k.output_is) (subst (Reports e) lines_here (lines_of (endings.Worked verdict) x.0)) (status_of (endings.Worked verdict) x.0 ∙ k.status_is)
      by_flush (inr x) =
          not_flushed k.a answers read x.1 x.2 (kept ∙ grown ∙ ap (append_known o.before) k.output_is) (lines_of Output x.0) (status_of Output x.0)

  -- the output had failed, whatever follows
  unwritten_for : (rest : List ℕ) → ending ≡ Output → Worked (job_of job) (before ++ rest) (Some rest) o.before worked ending → (a : Answer) × Answers (job_of job) (before ++ rest) a × AppendsFront o.before o.after a.output
  unwritten_for rest is (answered out verdict was e grown) = absurd (let no : Output ≡ endings.Worked verdict = sym is ∙ e in cc)
  unwritten_for rest is (could_not_read p left out whole at sure e grown) = absurd (let no : Output ≡ Unread (length p) = sym is ∙ e in cc)
  unwritten_for rest is (could_not_write out verdict was e grown) =
      let k = given job meant (before ++ rest) out verdict was in
      (k.a, k.answers, subst (λ (known : Option (List ℕ)). AppendsFront o.before known k.a.output) (sym kept) (subst (AppendsFront o.before worked) k.output_is grown))

  pub run_ran : ((rest : List ℕ) → Allows how rest → Worked (job_of job) (before ++ rest) (Some rest) o.before worked ending) → IsDecided (job_of job) before how ending → Ran (job_of job) before how r_new o e status
  run_ran works decided = by_first (works [] (allows_nothing how))
    where
      by_first : Worked (job_of job) (before ++ []) (Some []) o.before worked ending → Ran (job_of job) before how r_new o e status
      by_first (answered out verdict was is grown) =
          let all = decided verdict is in
          let one = given job meant (before ++ []) all.0 verdict (all.1 [] (allows_nothing how)) in
          let other = given job meant (before ++ []) out verdict was in
          let same : out ≡ all.0 = other.output_is ∙ ap (λ (x : Answer). x.output) (one_answer (job_of job) (before ++ []) other.a one.a other.answers one.answers) ∙ sym one.output_is in
          after_answer all.0 verdict all.1 is (grown ∙ ap (append_known o.before) same)
      by_first (could_not_read p left out whole at sure is grown) =
          let same : p ≡ before = one_front before p [] left whole at in
          let here : after ≡ Unread (length before) = subst (λ (x : Ending). FlushedAs x after w_mid o.failed_after o.room) is flushed ∙ ap (λ (bytes : List ℕ). Unread (length bytes)) same in
          not_read out remarks (subst (λ (x : Ending). TellsUnread r_old r_new x) is unread) (subst (λ (bytes : List ℕ). Sure (job_of job) bytes out) same sure)
          (subst (λ (x : Ending). RemarkedAs (job_of job) before how x remarks) is remarked) (kept ∙ grown)
          (lines_of (Unread (length before)) here) (status_of (Unread (length before)) here)
      by_first (could_not_write out verdict was is grown) =
          let still : (after ≡ Output) × (o.failed_after ≡ w_mid) = subst (λ (x : Ending). FlushedAs x after w_mid o.failed_after o.room) is flushed in
          not_written (λ rest ok. unwritten_for rest is (works rest ok)) (subst (λ (x : Ending). TellsUnread r_old r_new x) is unread ∙ readable)
          (still.1 ∙ subst (λ (x : Ending). TellsOutput w_old w_mid x) is failed)
          (lines_of Output still.0) (status_of Output still.0)
