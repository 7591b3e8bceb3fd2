-- Two files that differ only in what is taken end alike.
use Rattle.std.proofs.Common.{◌≡◌, ◌∙◌, refl, sym, ap, subst, ℕ, ℤ, ◌≤◌, List, [], ◌∷◌, length, Bool, true, false, arith}
use Rattle.std.specs.Prelude.{◌&&◌, if◌then◌else◌}
use Rattle.dcm_base.specs.File.MetaReads.{Meta}
use Rattle.dcm_base.specs.Reading.Reads.{INPUT_LIMIT}
use Rattle.dcm_base.specs.Tree.Front.{Front}
use Rattle.dcm_deid.specs.Alike.{moving}
use Rattle.dcm_deid.specs.declared.fate.Options.{Options}
use Rattle.dcm_devices.specs.Writing.{Writer}
use Rattle.dcm_words.specs.Words.{Job, deidentify, with_days}
use Rattle.dcm_cli.specs.Answer.{Answer, Source, unopened, file, alone, answer, output_of, shows_identity, status_of_lines}
use Rattle.dcm_cli.specs.Calls.{Reader}
use Rattle.dcm_cli.specs.ErrorLines.{pixels_line}
use Rattle.dcm_cli.specs.Run.{Answered, verdict_of_source}
use Rattle.dcm_cli.specs.declared.ending.Verdict.{Verdict}
use Rattle.dcm_cli.specs.declared.ending.Verdict.TheVariants.{Done, PixelsMayShow}
use Rattle.dcm_run_laws.specs.Flows.{IsDeidentified}
use Rattle.dcm_run_laws.proofs.Runs.NothingFlows.{nothing_flows_in_answers}
use Rattle.dcm_trees.specs.Task.{Task}
use Rattle.dcm_tree_laws.specs.Determined.{FileEnd, was_done, EndsAs, by_job}
use Rattle.dcm_tree_laws.specs.FileSystem.{Tree, Host, number_of}
use Rattle.dcm_tree_laws.specs.Flows.{IsPair, InPairs}
use Rattle.dcm_tree_laws.specs.Rows.{Visit}
use Rattle.dcm_tree_laws.specs.Single.{IsJobOf, of_all as job_of_all, of_days as job_of_days}
use Rattle.dcm_tree_laws.specs.Taken.{DifferInTaken, DifferBy, of_all, of_days, IsTakenPair, NothingTakenFlows}
use Rattle.dcm_tree_laws.proofs.FlowsBy.{Fits, leave_the_same}

-- ---- one file

output_is : (job : Job) (source : Source) → (answer job source).output ≡ output_of job source
output_is job (unopened fault offset) = refl
output_is job (file m coding set stop) = refl
output_is job (alone syntax set stop) = refl

-- what it comes to, where it is read without fault
abbrev verdict_by : (shows : Bool) → Verdict
verdict_by shows = if shows then PixelsMayShow else Done 0

abbrev shows : (options : Options) (reports : Bool) (key : List ℕ) (set : Front) → Bool
shows options reports key set = reports && shows_identity options key set

answered : (options : Options) (reports : Bool) (key input : List ℕ) (a : Answer) (m : Meta) (set : Front) → IsDeidentified options reports key input a m set → Answered (deidentify options reports key) input a.output (verdict_by (shows options reports key set))
answered options reports key input a m set x =
    let job : Job = deidentify options reports key in
    record {
      source = x.answers.source;
      reads = x.answers.reads;
      out_is = ap (λ (y : Answer). y.output) x.answers.answer_is ∙ output_is job x.answers.source;
      verdict_is = sym (ap (verdict_of_source job) x.source_is);
    }

abbrev status_by : (shown : Bool) → ℕ
status_by shown = status_of_lines (if shown then pixels_line else [])

status_is : (options : Options) (reports : Bool) (key input : List ℕ) (a : Answer) (m : Meta) (set : Front) → IsDeidentified options reports key input a m set → a.status ≡ status_by (shows options reports key set)
status_is options reports key input a m set x = ap (λ (y : Answer). y.status) (x.answers.answer_is ∙ ap (answer (deidentify options reports key)) x.source_is)

same_shows : (one other : Bool) → status_by one ≡ status_by other → one ≡ other
same_shows true true e = refl
same_shows true false e = absurd (let no : 3 ≡ 0 = e in omega (arith, no))
same_shows false true e = absurd (let no : 0 ≡ 3 = e in omega (arith, no))
same_shows false false e = refl

-- ---- two of them

record AnswerAlike (one_job other_job : Job) (one other : List ℕ) : Type 0 where
  output : List ℕ
  verdict : Verdict
  first : Answered one_job one output verdict
  second : Answered other_job other output verdict
  fits : length output ≤ INPUT_LIMIT

answer_alike : (options : Options) (reports : Bool) (key : List ℕ) (d e : ℤ) (one other : List ℕ) → DifferInTaken options reports key d e one other
    → AnswerAlike (deidentify (moving options d) reports key) (deidentify (moving options e) reports key) one other
answer_alike options reports key d e one other x =
    let first_shows : Bool = shows (moving options d) reports key x.first_set in
    let second_shows : Bool = shows (moving options e) reports key x.second_set in
    let job : Job = deidentify (moving options e) reports key in
    let same_answer : x.first ≡ x.second = nothing_flows_in_answers options reports key one other d e x.first x.second x.first_meta x.second_meta x.first_set x.second_set x.first_read x.second_read x.left x.alike in
    let alike : first_shows ≡ second_shows =
    same_shows first_shows second_shows (sym (status_is (moving options d) reports key one x.first x.first_meta x.first_set x.first_read) ∙ ap (λ (y : Answer). y.status) same_answer ∙ status_is (moving options e) reports key other x.second x.second_meta x.second_set x.second_read) in
    record {
      output = x.first.output;
      verdict = verdict_by first_shows;
      first = answered (moving options d) reports key one x.first x.first_meta x.first_set x.first_read;
      second = subst (λ (shown : Bool). Answered job other x.first.output (verdict_by shown)) (sym alike)
          (subst (λ (y : Answer). Answered job other y.output (verdict_by second_shows)) (sym same_answer) (answered (moving options e) reports key other x.second x.second_meta x.second_set x.second_read));
      fits = x.fits;
    }

record EndAlike (task : Task) (one other : List ℕ) : Type 0 where
  end : FileEnd
  first : EndsAs task one end
  second : EndsAs task other end
  fits : Fits end

same_output : (a b : List ℕ) (v w : Verdict) → was_done a v ≡ was_done b w → a ≡ b
same_output a b v w e = cc

end_alike_by : (task : Task) (one_job other_job : Job) (one other : List ℕ) → IsJobOf task one one_job → IsJobOf task other other_job → AnswerAlike one_job other_job one other → EndAlike task one other
end_alike_by task one_job other_job one other first second x = record {
  end = was_done x.output x.verdict;
  first = by_job x.output x.verdict (record { job = one_job; is_job = first; answered = x.first }) refl;
  second = by_job x.output x.verdict (record { job = other_job; is_job = second; answered = x.second }) refl;
  fits = λ held verdict is. subst (λ (bytes : List ℕ). length bytes ≤ INPUT_LIMIT) (same_output x.output held x.verdict verdict is) x.fits;
}

end_alike : (task : Task) (one other : List ℕ) → DifferBy task one other → EndAlike task one other
end_alike task one other (of_all options reports key days is x) =
    let job : Job = deidentify (moving options days) reports key in end_alike_by task job job one other (job_of_all is) (job_of_all is) (answer_alike options reports key days days one other x)
end_alike task one other (of_days options reports key d e is first second x) =
    end_alike_by task (deidentify (with_days options d) reports key) (deidentify (with_days options e) reports key) one other (job_of_days options reports key d is first refl) (job_of_days options reports key e is second refl)
    (answer_alike (with_days options d) reports key d e one other x)

-- ---- in pairs

pair : {I O : Type 0} (h : Host I O) (task : Task) (one other : Tree) (v w : Visit) → IsTakenPair h task one other v w → IsPair h task one other v w
pair h task one other v w x =
    let alike : EndAlike task (one.bytes (number_of x.first.file.file)) (other.bytes (number_of x.second.file.file)) = end_alike task (one.bytes (number_of x.first.file.file)) (other.bytes (number_of x.second.file.file)) x.differ in
    record {
      mode = x.mode;
      first_mode = x.first_mode;
      second_mode = x.second_mode;
      end = alike.end;
      first = record { it = x.first; ends = alike.first };
      second = record { it = x.second; ends = alike.second };
      fits = alike.fits;
    }

pub pairs : (One Other : Visit → Visit → Type 0) → ((v w : Visit) → One v w → Other v w) → (visits others : List Visit) → InPairs One visits others → InPairs Other visits others
pairs One Other each [] [] all = tt
pairs One Other each (v ∷ visits) (w ∷ others) all = (each v w all.0, pairs One Other each visits others all.1)
pairs One Other each [] (w ∷ others) all = absurd all
pairs One Other each (v ∷ visits) [] all = absurd all

pub nothing_taken_flows : {I O F W E : Type 0} (r : Reader I) (w : Writer O) (m : Writer W) (e : Writer E) → NothingTakenFlows F r w m e
nothing_taken_flows {I} {O} {F} {W} {E} r w m e h first second before start after end visits others status again tells task output x y all same_before =
    leave_the_same {F = F} r w m e h first second before start after end visits others status again tells task output x y
    (pairs (IsTakenPair h _ before.now start.now) (IsPair h _ before.now start.now) (λ v k. pair h _ before.now start.now v k) visits others all) same_before
