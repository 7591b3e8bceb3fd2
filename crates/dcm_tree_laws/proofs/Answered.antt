-- What an output took of a job that was done is the answer to what its input had to give.
use Rattle.std.proofs.Common.{◌≡◌, ◌∙◌, refl, sym, ap, subst, inl, inr, ℕ, List, [], ◌++◌, Bool, true, false, Option, Some, None, length}
use Rattle.std.specs.Io.KnownBytes.{append_known}
use Rattle.dcm_cli.proofs.Runs.Ran.{output_is as answer_output}
use Rattle.dcm_lemmas.proofs.Options.{some_same}
use Rattle.dcm_lemmas.proofs.Truth.{true_false}
use Rattle.dcm_base.specs.Lines.Build as build
use Rattle.dcm_base.specs.declared.fault.LineStop.{LineStop}
use Rattle.dcm_devices.specs.Writing.{Writer}
use Rattle.dcm_words.specs.Words.{Job, dump, dump_decoded, dump_named, convert, build as building, modify, deidentify}
use Rattle.dcm_cli.specs.Answer.{Answer, Answers, ReadAnswers, answer, built_answer}
use Rattle.dcm_cli.specs.Calls.{Reader, Finishes}
use Rattle.dcm_cli.specs.InputCalls.{IsUndecided}
use Rattle.dcm_cli.specs.Run as run
use Rattle.dcm_cli.specs.Run.{Answered, ReadEnds, BuildEnds, FlushedAs}
use Rattle.dcm_cli.specs.declared.ending.Ending.{Ending}
use Rattle.dcm_cli.specs.declared.ending.Ending.TheVariants.{Worked, Unread, Output}
use Rattle.dcm_cli.specs.declared.ending.Verdict.{Verdict}
use Rattle.dcm_trees.specs.Fate.{is_written}
use Rattle.dcm_trees.specs.Lines.{ending_fate, verdict_fate}
use Rattle.dcm_tree_laws.specs.FileSystem.{Host}
use Rattle.dcm_tree_laws.proofs.Held.{GivesAll, Left, reads_left}

-- ---- an answer has these bytes

pub record Gives (job : Job) (input out : List ℕ) : Type 0 where
  pub a : Answer
  pub answers : Answers job input a
  pub output_is : out ≡ a.output

read_gives : (job : Job) (input out : List ℕ) (verdict : Verdict) → ((a : Answer) → ReadAnswers job input a → Answers job input a) → ReadEnds job input out verdict → Gives job input out
read_gives job input out verdict answers h = record {
  a = answer job h.source;
  answers = answers (answer job h.source) (record { source = h.source; reads = h.reads; answer_is = refl });
  output_is = h.out_is ∙ answer_output job h.source;
}

told_output : (p : build.Progress) (told : Option LineStop) → p.told ≡ told → build.built_bytes p.built ≡ (built_answer p).output
told_output p None e = sym (ap (λ (t : Option LineStop). (built_answer (record p { told = t })).output) e)
told_output p (Some t) e = sym (ap (λ (t : Option LineStop). (built_answer (record p { told = t })).output) e)

pub gives_answer : (job : Job) (input out : List ℕ) (verdict : Verdict) → Answered job input out verdict → Gives job input out
gives_answer (dump d mode bare) input out verdict h = read_gives (dump d mode bare) input out verdict (λ a reads. reads) h
gives_answer (dump_decoded d mode bare) input out verdict h = read_gives (dump_decoded d mode bare) input out verdict (λ a reads. reads) h
gives_answer (dump_named texts d mode bare named) input out verdict h = read_gives (dump_named texts d mode bare named) input out verdict (λ a reads. reads) h
gives_answer (convert d target) input out verdict h = read_gives (convert d target) input out verdict (λ a reads. reads) h
gives_answer (building limit) input out verdict h = record {
  a = built_answer (build.built limit input);
  answers = refl;
  output_is = h.out_is ∙ told_output (build.built limit input) (build.built limit input).told refl;
}
gives_answer (modify d edits) input out verdict h = read_gives (modify d edits) input out verdict (λ a reads. reads) h
gives_answer (deidentify options reports key) input out verdict h = read_gives (deidentify options reports key) input out verdict (λ a reads. reads) h

-- ---- how the work ended

pub not_so : {A : Type 0} (ending other : Ending) → ending ≡ other → is_written (ending_fate other) ≡ false → is_written (ending_fate ending) ≡ true → A
not_so ending other is not done = true_false (is_written (ending_fate ending)) done (ap (λ (x : Ending). is_written (ending_fate x)) is ∙ not)

-- a job that was done comes to what is written
verdict_is : (verdict : Verdict) (ending : Ending) (before after : Bool) (room : Option ℕ) → FlushedAs (Worked verdict) ending before after room → is_written (ending_fate ending) ≡ true → is_written (verdict_fate verdict) ≡ true
verdict_is verdict ending before after room (inl flushed) done = ap (λ (x : Ending). is_written (ending_fate x)) (sym flushed.0) ∙ done
verdict_is verdict ending before after room (inr failed) done = not_so ending Output failed.0 refl done

-- where all was done, no device failed in it
worked_is : (worked ending : Ending) (before after : Bool) (room : Option ℕ) → FlushedAs worked ending before after room → is_written (ending_fate ending) ≡ true → (verdict : Verdict) × (worked ≡ Worked verdict) × (is_written (verdict_fate verdict) ≡ true)
worked_is (Worked verdict) ending before after room flushed done = (verdict, refl, verdict_is verdict ending before after room flushed done)
worked_is (Unread count) ending before after room flushed done = not_so ending (Unread count) flushed refl done
worked_is Output ending before after room flushed done = not_so ending Output flushed.0 refl done

pub same_verdict : (a b : Verdict) → Worked a ≡ Worked b → a ≡ b
same_verdict a b e = cc

pub no_unread : (worked : Ending) (verdict : Verdict) (count : ℕ) → worked ≡ Worked verdict → worked ≡ Unread count → ⊥
no_unread worked verdict count a b = absurd (cc)

pub no_output : (worked : Ending) (verdict : Verdict) → worked ≡ Worked verdict → worked ≡ Output → ⊥
no_output worked verdict a b = absurd (cc)

-- all of an output, where its writer held this before and after
pub record Wrote (job : Job) (input : List ℕ) (before after : Option (List ℕ)) (verdict : Verdict) : Type 0 where
  pub out : List ℕ
  pub gives : Gives job input out
  pub comes_to : Answered job input out verdict
  pub grown : after ≡ append_known before out

wrote : (job : Job) (input : List ℕ) (left before after : Option (List ℕ)) (worked : Ending) (verdict : Verdict) → worked ≡ Worked verdict → run.Worked job input left before after worked → Wrote job input before after verdict
wrote job input left before after worked verdict is (run.answered out other h e grown) = record {
  out = out;
  gives = gives_answer job input out other h;
  comes_to = subst (λ (v : Verdict). Answered job input out v) (same_verdict other verdict (sym e ∙ is)) h;
  grown = grown;
}
wrote job input left before after worked verdict is (run.could_not_read p rest out whole at sure e grown) = absurd (no_unread worked verdict (length p) is e)
wrote job input left before after worked verdict is (run.could_not_write out other h e grown) = absurd (no_output worked verdict is e)

pub from_nothing : (known : Option (List ℕ)) (out : List ℕ) → known ≡ Some [] → append_known known out ≡ Some out
from_nothing known out is = ap (λ (x : Option (List ℕ)). append_known x out) is

-- an answer that is written
pub record GivesDone (job : Job) (input out : List ℕ) : Type 0 where
  pub gives : Gives job input out
  pub verdict : Verdict
  pub comes_to : Answered job input out verdict
  pub done : is_written (verdict_fate verdict) ≡ true

-- what a new output took of a job that was done
pub finishes_gives : {I O : Type 0} (h : Host I O) (r : Reader I) (w : Writer O) → GivesAll h r w → (job : Job) (input left : I) (made written : O) (ending : Ending) → h.took made ≡ [] → Finishes r w job input left made written ending
    → is_written (ending_fate ending) ≡ true → GivesDone job (h.holds input) (h.took written)
finishes_gives h r w all job input left made written ending new f done =
    let held : Left h input f.works.given f.works.how = reads_left h r w all (IsUndecided job) input left f.works.given f.works.how f.works.reads in
    let ended : (verdict : Verdict) × (f.worked ≡ Worked verdict) × (is_written (verdict_fate verdict) ≡ true) = worked_is f.worked ending (w.has_failed f.written) (w.has_failed written) (w.room written) f.flushed done in
    let x : Wrote job (f.works.given ++ held.rest) (w.contents made) (w.contents f.written) ended.0 =
    wrote job (f.works.given ++ held.rest) (Some held.rest) (w.contents made) (w.contents f.written) f.worked ended.0 ended.1 (f.works.worked held.rest held.allowed) in
    let same : h.took written ≡ x.out = some_same (h.took written) x.out
    (sym (all.tells written) ∙ f.contents ∙ x.grown ∙ from_nothing (w.contents made) x.out (all.tells made ∙ ap Some new)) in
    subst (λ (bytes : List ℕ). GivesDone job bytes (h.took written)) (sym held.whole) (record {
      gives = record { a = x.gives.a; answers = x.gives.answers; output_is = same ∙ x.gives.output_is };
      verdict = ended.0;
      comes_to = subst (λ (b : List ℕ). Answered job (f.works.given ++ held.rest) b ended.0) (sym same) x.comes_to;
      done = ended.2;
    })
