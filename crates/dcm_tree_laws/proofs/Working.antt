-- What the calls of a system answer where none fails that need not.
use Rattle.std.proofs.Common.{◌≡◌, ◌∙◌, refl, sym, ap, subst, inl, inr, ℕ, ℤ, ◌≤◌, ◌<◌, List, [], ◌∷◌, ◌++◌, ◌+◌, length, Bool, true, false, Option, Some, None, Result, Ok, Err, arith, length-append}
use Rattle.std.specs.declared.io.Error.{Error}
use Rattle.std.specs.Prelude.{◌≢◌}
use Rattle.std.specs.Io.KnownBytes.{append_known}
use Rattle.std.specs.Str.{IsUtf8}
use Rattle.std.proofs.lemmas.List.{append-nil}
use Rattle.dcm_cli.proofs.Runs.WholeMemory.{nothing_follows}
use Rattle.dcm_lemmas.proofs.Options.{some_same}
use Rattle.dcm_lemmas.proofs.Truth.{true_false}
use Rattle.dcm_base.specs.Reading.Reads.{INPUT_LIMIT}
use Rattle.dcm_deid.specs.declared.fate.Options.{Options}
use Rattle.dcm_devices.specs.Writing.{Writer}
use Rattle.dcm_files.specs.declared.folders.Links.TheVariants.{Followed}
use Rattle.dcm_instance.specs.declared.names.Instance.{Instance}
use Rattle.dcm_instance.specs.declared.names.NoInstance.{NoInstance}
use Rattle.dcm_instance.specs.declared.names.NoInstance.TheVariants.{Unfit, Unread as NotRead}
use Rattle.dcm_instance.specs.ReadInstance as instance_reads
use Rattle.dcm_instance.specs.ReadInstance.{FileNames}
use Rattle.dcm_instance.specs.Same as bytes
use Rattle.dcm_instance.specs.Uids.{Uids, told}
use Rattle.dcm_words.specs.Words.{Job}
use Rattle.dcm_cli.specs.Calls.{Reader, Finishes}
use Rattle.dcm_cli.specs.First.{FirstReads, IsUndecided, Comes, TellsEnd}
use Rattle.dcm_cli.specs.InputCalls as calls
use Rattle.dcm_cli.specs.InputCalls.{How, in_part, to_end, with_failure, how_of, Allows, InputCalls, ReadsInput, TellsHow}
use Rattle.dcm_cli.specs.Pass as pass
use Rattle.dcm_cli.specs.Run as run
use Rattle.dcm_cli.specs.Run.{Answered, FlushedAs}
use Rattle.dcm_cli.specs.declared.ending.Ending.{Ending}
use Rattle.dcm_cli.specs.declared.ending.Ending.TheVariants.{Worked, Unread, Output}
use Rattle.dcm_cli.specs.declared.ending.Verdict.{Verdict}
use Rattle.dcm_cli.specs.declared.first.FirstEnd.{FirstEnd}
use Rattle.dcm_cli.specs.declared.first.FirstEnd.TheVariants as ends
use Rattle.dcm_trees.specs.declared.part.NoPart.{NoPart}
use Rattle.dcm_trees.specs.declared.task.NoDays.{NoDays}
use Rattle.dcm_trees.specs.declared.task.NoDays.TheVariants as no_days
use Rattle.dcm_trees.specs.Fate.{is_written}
use Rattle.dcm_trees.specs.Instance as instance
use Rattle.dcm_trees.specs.Instance.{FindsInstance, ComparesFiles}
use Rattle.dcm_cli.specs.Run.{Remarked, RemarkedAs}
use Rattle.dcm_trees.specs.Lines.{ending_fate}
use Rattle.dcm_trees.specs.Opening as opening
use Rattle.dcm_trees.specs.Opening.{OpensFile}
use Rattle.dcm_trees.specs.Part as parts
use Rattle.dcm_trees.specs.Part.{MakesPart, Fills}
use Rattle.dcm_trees.specs.Task as tasks
use Rattle.dcm_trees.specs.Task.{Task, by_days, TakesDays, FindsJob, days_of}
use Rattle.dcm_tree_laws.specs.Again.{sure}
use Rattle.dcm_tree_laws.specs.Determined.{FileAt, working_may, working_folders, as_whole, HasNoDays}
use Rattle.dcm_tree_laws.specs.FileSystem.{FileSystem, Host, number_of, at_path, may_do, folders_do, MakesFile}
use Rattle.dcm_tree_laws.specs.Single.{IsJobOf, of_all, of_days, TellsAll}
use Rattle.dcm_tree_laws.proofs.Closing.{nothing_lost}
use Rattle.dcm_tree_laws.proofs.Answered.{not_so, from_nothing, no_output, no_unread, same_verdict}
use Rattle.dcm_tree_laws.proofs.Held.{GivesAll, Left, reads_left}
use Rattle.dcm_tree_laws.proofs.Sure.{Implies}
use Rattle.dcm_tree_laws.proofs.Works.{Allows as MayAllow}

-- ---- it may do no more than any system

pub working_also : {I O : Type 0} (h : Host I O) (r : Reader I) (w : Writer O) → MayAllow (working_may h r w (may_do h)) (may_do h)
working_also h r w = record {
  opens = λ before path result after call. call.0;
  releases = λ before input after call. call;
  moves = λ before from to result after call. call;
  removes = λ before path result after call. call;
  closes = λ before output result after call. subst (λ (x : Result (Unit {0}) Error). (may_do h).closes before output x after) (sym call.2) call.0;
}

-- what is looked at is seen
pub working_sure : {I O F : Type 0} (h : Host I O) → Implies (working_folders h (sure (folders_do {F = F} h))) (sure (folders_do {F = F} h))
working_sure h = record {
  sees = λ before path links r after call. call;
  modes = λ before folder name r after call. call;
  folder = λ before path mode r after call. call.0;
  file = λ before path mode r after call. call.0;
  link = λ before from to r after call. call.0;
}

pub working_can : {I O F : Type 0} (h : Host I O) → Implies (working_folders h (sure (folders_do {F = F} h))) (folders_do {F = F} h)
working_can h = record {
  sees = λ before path links r after call. call.0;
  modes = λ before folder name r after call. call.0;
  folder = λ before path mode r after call. call.0;
  file = λ before path mode r after call. call.0;
  link = λ before from to r after call. call.0;
}

-- ---- reading

pub whole_gives : {I O : Type 0} (h : Host I O) (r : Reader I) (w : Writer O) → TellsAll h w → GivesAll h (as_whole h r) w
whole_gives h r w tells = record {
  gives = λ before after piece call. call.0.1.0;
  ends = λ before after call. call.0.1.1 refl;
  tells = tells;
}

none_failed : (call : Option (List ℕ)) → how_of call ≡ with_failure → call ≡ None
none_failed None e = refl
none_failed (Some []) e = absurd (cc)
none_failed (Some (b ∷ bs)) e = absurd (cc)

part_not : in_part ≡ with_failure → ⊥
part_not e = absurd (cc)

calls_not : {I O : Type 0} (h : Host I O) (r : Reader I) (Needed : List ℕ → Type 0) (before after : I) (given : List ℕ) (how : How) → InputCalls (as_whole h r).gets Needed before given how after → how ≢ with_failure
calls_not h r Needed before after given how (calls.no_call g is same) e = part_not (sym is ∙ e)
calls_not h r Needed before after given how (calls.last_call front mid call gave needed gets g is) e = gets.1 (none_failed call (sym is ∙ e))

pub reads_not : {I O : Type 0} (h : Host I O) (r : Reader I) (Needed : List ℕ → Type 0) (before after : I) (given : List ℕ) (how : How) → ReadsInput (as_whole h r) Needed before given how after → how ≢ with_failure
reads_not h r Needed before after given how reads = calls_not h r Needed before after given how reads.calls

tells_how : (a b : Bool) (how : How) → how ≢ with_failure → TellsHow a b how → b ≡ a
tells_how a b in_part not t = t
tells_how a b to_end not t = t
tells_how a b with_failure not t = absurd (not refl)

-- it does not fail
pub reads_sound : {I O : Type 0} (h : Host I O) (r : Reader I) (Needed : List ℕ → Type 0) (before after : I) (given : List ℕ) (how : How) → r.has_failed before ≡ false → ReadsInput (as_whole h r) Needed before given how after → r.has_failed after ≡ false
reads_sound h r Needed before after given how sound reads = tells_how (r.has_failed before) (r.has_failed after) how (reads_not h r Needed before after given how reads) reads.failed ∙ sound

-- ---- opening

-- a file was opened: its input holds these bytes
pub record HasOpened {I O : Type 0} (h : Host I O) (r : Reader I) (held : List ℕ) (input : Option I) (before after : FileSystem) : Type 0 where
  pub device : I
  pub is : input ≡ Some device
  pub sound : r.has_failed device ≡ false
  pub holds : h.holds device ≡ held
  pub same : after ≡ before

pub opens_there : {I O : Type 0} (h : Host I O) (r : Reader I) (w : Writer O) (path : List ℕ) (before : FileSystem) (input : Option I) (after : FileSystem) → IsUtf8 path → (f : FileAt h Followed before.now path) → OpensFile (working_may h r w (may_do h)) path before input after
    → HasOpened h r (before.now.bytes (number_of f.file)) input before after
opens_there h r w path before input after text f (opening.no_text t is same) = absurd (t text)
opens_there h r w path before input after text f (opening.not_opened e t call is) = absurd (call.1 f)
opens_there h r w path before input after text f (opening.a_folder o has t call kind back is) = absurd (call.1.1 f kind)
opens_there h r w path before input after text f (opening.opened o t call kind is) = record {
  device = o.device;
  is = is;
  sound = call.1.0;
  holds = call.0.1 f.file f.is f.kind;
  same = call.0.0;
}

not_none : {A B : Type 0} (a : A) → None ≡ Some a → B
not_none a e = absurd (cc)

-- what is opened is its input
pub record IsOpened {I O : Type 0} (h : Host I O) (r : Reader I) (held : List ℕ) (input : I) (before after : FileSystem) : Type 0 where
  pub sound : r.has_failed input ≡ false
  pub holds : h.holds input ≡ held
  pub same : after ≡ before

pub is_opened : {I O : Type 0} (h : Host I O) (r : Reader I) (w : Writer O) (path : List ℕ) (before : FileSystem) (input : I) (after : FileSystem) → IsUtf8 path → (f : FileAt h Followed before.now path) → OpensFile (working_may h r w (may_do h)) path before (Some input) after
    → IsOpened h r (before.now.bytes (number_of f.file)) input before after
is_opened h r w path before input after text f opens =
    let x : HasOpened h r (before.now.bytes (number_of f.file)) (Some input) before after = opens_there h r w path before (Some input) after text f opens in
    let same : input ≡ x.device = some_same input x.device x.is in
    record { sound = ap r.has_failed same ∙ x.sound; holds = ap h.holds same ∙ x.holds; same = x.same }

pub not_unopened : {A I O : Type 0} (h : Host I O) (r : Reader I) (w : Writer O) (path : List ℕ) (before after : FileSystem) → IsUtf8 path → FileAt h Followed before.now path → OpensFile (working_may h r w (may_do h)) path before None after → A
not_unopened h r w path before after text f opens =
    let x : HasOpened h r (before.now.bytes (number_of f.file)) None before after = opens_there h r w path before None after text f opens in
    not_none x.device x.is

-- ---- the job of a file

-- the job of a file with these bytes, or why it has none
abbrev pub JobIs : Task → (held : List ℕ) → Result Job NoDays → Type 0
JobIs task held (Ok job) = IsJobOf task held job
JobIs task held (Err (no_days.Refused stop)) = HasNoDays task held stop
JobIs task held (Err (no_days.Unread count)) = ⊥
JobIs task held (Err no_days.Unopened) = ⊥

-- what a first reading of it comes to
abbrev DaysAre : (key held : List ℕ) → Result ℤ NoDays → Type 0
DaysAre key held (Ok days) = FirstReads key held (ends.Days days)
DaysAre key held (Err (no_days.Refused stop)) = FirstReads key held (ends.Refused stop)
DaysAre key held (Err (no_days.Unread count)) = ⊥
DaysAre key held (Err no_days.Unopened) = ⊥

days_by : (key given : List ℕ) (how : How) (end : FirstEnd) (rest : List ℕ) (a b : Bool) → Allows how rest → Comes key given how end → TellsEnd a b end → b ≡ false → DaysAre key (given ++ rest) (days_of end)
days_by key given how (ends.Days days) rest a b allowed comes tells sound = comes rest allowed
days_by key given how (ends.Refused stop) rest a b allowed comes tells sound = comes rest allowed
days_by key given how (ends.Unread count) rest a b allowed comes tells sound = true_false b tells sound

takes_days : {I O : Type 0} (h : Host I O) (r : Reader I) (w : Writer O) → GivesAll h (as_whole h r) w → (key path : List ℕ) (before : FileSystem) (result : Result ℤ NoDays) (after : FileSystem) → IsUtf8 path → (f : FileAt h Followed before.now path)
    → TakesDays (working_may h r w (may_do h)) (as_whole h r) key path before result after → DaysAre key (before.now.bytes (number_of f.file)) result
takes_days h r w all key path before result after text f (tasks.not_opened opens is) = not_unopened h r w path before after text f opens
takes_days h r w all key path before result after text f (tasks.was_read input left opened end opens reads back is) =
    let x : IsOpened h r (before.now.bytes (number_of f.file)) input before opened = is_opened h r w path before input opened text f opens in
    let rest : Left h input reads.given reads.how = reads_left h (as_whole h r) w all IsUndecided input left reads.given reads.how reads.reads in
    subst (DaysAre key (before.now.bytes (number_of f.file))) (sym is)
    (subst (λ (b : List ℕ). DaysAre key b (days_of end)) (sym rest.whole ∙ x.holds)
    (days_by key reads.given reads.how end rest.rest (r.has_failed input) (r.has_failed left) rest.allowed reads.comes reads.failed (reads_sound h r IsUndecided input left reads.given reads.how x.sound reads.reads)))

no_days_by : (task : Task) (options : Options) (reports : Bool) (key held : List ℕ) (cause : NoDays) → task ≡ by_days options reports key → DaysAre key held (Err cause) → JobIs task held (Err cause)
no_days_by task options reports key held (no_days.Refused stop) is days = record { options = options; reports = reports; key = key; task_is = is; reads = days }
no_days_by task options reports key held (no_days.Unread count) is days = days
no_days_by task options reports key held no_days.Unopened is days = days

pub job_found : {I O : Type 0} (h : Host I O) (r : Reader I) (w : Writer O) → GivesAll h (as_whole h r) w → (task : Task) (path : List ℕ) (before : FileSystem) (result : Result Job NoDays) (after : FileSystem) → IsUtf8 path → (f : FileAt h Followed before.now path)
    → FindsJob (working_may h r w (may_do h)) (as_whole h r) task path before result after → JobIs task (before.now.bytes (number_of f.file)) result
job_found h r w all task path before result after text f (tasks.of_all job t is same) = subst (JobIs task (before.now.bytes (number_of f.file))) (sym is) (of_all t)
job_found h r w all task path before result after text f (tasks.of_days options reports key days t takes is) =
    subst (JobIs task (before.now.bytes (number_of f.file))) (sym is) (of_days options reports key days t (takes_days h r w all key path before (Ok days) after text f takes) refl)
job_found h r w all task path before result after text f (tasks.no_days options reports key cause t takes is) =
    subst (JobIs task (before.now.bytes (number_of f.file))) (sym is) (no_days_by task options reports key (before.now.bytes (number_of f.file)) cause t (takes_days h r w all key path before (Err cause) after text f takes))

-- ---- the job is done

flushed_by : (verdict : Verdict) (ending : Ending) (before after : Bool) (room : Option ℕ) → FlushedAs (Worked verdict) ending before after room → after ≡ false → ending ≡ Worked verdict
flushed_by verdict ending before after room (inl f) sound = f.0
flushed_by verdict ending before after room (inr f) sound = true_false after f.1 sound

worked_by : (worked ending : Ending) (reader_before reader_after before written after : Bool) (room : Option ℕ) → pass.TellsUnread reader_before reader_after worked → pass.TellsOutput before written worked → FlushedAs worked ending written after room → reader_after ≡ false → after ≡ false
    → (verdict : Verdict) × (worked ≡ Worked verdict) × (ending ≡ Worked verdict)
worked_by (Worked verdict) ending rb ra before written after room unread failed flushed sound closed = (verdict, refl, flushed_by verdict ending written after room flushed closed)
worked_by (Unread count) ending rb ra before written after room unread failed flushed sound closed = true_false ra unread sound
worked_by Output ending rb ra before written after room unread failed flushed sound closed = true_false after (flushed.1 ∙ failed) closed

-- all of an output, where its writer held this before and after
record Wrote (job : Job) (input : List ℕ) (before after : Option (List ℕ)) (verdict : Verdict) : Type 0 where
  out : List ℕ
  answered : Answered job input out verdict
  grown : after ≡ append_known before out

wrote : (job : Job) (input : List ℕ) (left before after : Option (List ℕ)) (worked : Ending) (verdict : Verdict) → worked ≡ Worked verdict → run.Worked job input left before after worked → Wrote job input before after verdict
wrote job input left before after worked verdict is (run.answered out other h e grown) = record {
  out = out;
  answered = subst (λ (v : Verdict). Answered job input out v) (same_verdict other verdict (sym e ∙ is)) h;
  grown = grown;
}
wrote job input left before after worked verdict is (run.could_not_read p rest out whole at sure_of e grown) = absurd (no_unread worked verdict (length p) is e)
wrote job input left before after worked verdict is (run.could_not_write out other h e grown) = absurd (no_output worked verdict is e)

-- it ended with what it came to, and the output took what it writes
pub record HasDone (job : Job) (input output : List ℕ) (ending : Ending) : Type 0 where
  pub verdict : Verdict
  pub is : ending ≡ Worked verdict
  pub answered : Answered job input output verdict

took_done : {I O : Type 0} (h : Host I O) (r : Reader I) (w : Writer O) → GivesAll h r w → (job : Job) (input left : I) (made written : O) (ending : Ending) → h.took made ≡ [] → (f : Finishes r w job input left made written ending) → (verdict : Verdict) → f.worked ≡ Worked verdict → ending ≡ Worked verdict
    → HasDone job (h.holds input) (h.took written) ending
took_done h r w all job input left made written ending new f verdict worked is =
    let held : Left h input f.works.given f.works.how = reads_left h r w all (calls.IsUndecided job) input left f.works.given f.works.how f.works.reads in
    let x : Wrote job (f.works.given ++ held.rest) (w.contents made) (w.contents f.written) verdict =
    wrote job (f.works.given ++ held.rest) (Some held.rest) (w.contents made) (w.contents f.written) f.worked verdict worked (f.works.worked held.rest held.allowed) in
    let same : h.took written ≡ x.out = some_same (h.took written) x.out (sym (all.tells written) ∙ f.contents ∙ x.grown ∙ from_nothing (w.contents made) x.out (all.tells made ∙ ap Some new)) in
    record {
      verdict = verdict;
      is = is;
      answered = subst (λ (b : List ℕ). Answered job b (h.took written) verdict) (sym held.whole) (subst (λ (b : List ℕ). Answered job (f.works.given ++ held.rest) b verdict) (sym same) x.answered);
    }

-- where no call on a device fails
pub job_done : {I O : Type 0} (h : Host I O) (r : Reader I) (w : Writer O) → GivesAll h (as_whole h r) w → (job : Job) (input : I) (output : O) (before : FileSystem) (ending : Ending) (after : FileSystem) → r.has_failed input ≡ false → h.took output ≡ []
    → (f : Fills (working_may h r w (may_do h)) (as_whole h r) w job input output before ending after) → HasDone job (h.holds input) (h.took f.written) ending
job_done h r w all job input output before ending after sound new f =
    let works = f.finished.works in
    let ended : (verdict : Verdict) × (f.finished.worked ≡ Worked verdict) × (f.ended ≡ Worked verdict) =
    worked_by f.finished.worked f.ended (r.has_failed input) (r.has_failed f.left) (w.has_failed output) (w.has_failed f.finished.written) (w.has_failed f.written) (w.room f.written) works.unread works.failed f.finished.flushed
    (reads_sound h r (calls.IsUndecided job) input f.left works.given works.how sound works.reads) f.closes.1 in
    subst (λ (x : Ending). HasDone job (h.holds input) (h.took f.written) x) (sym (f.ending_is ∙ nothing_lost f.ended f.closing f.closes.2))
    (took_done h (as_whole h r) w all job input f.left output f.written f.ended new f.finished ended.0 ended.1 ended.2)

-- what is remarked is that of what its input holds
pub job_remarked : {I O : Type 0} (h : Host I O) (r : Reader I) (w : Writer O) → GivesAll h (as_whole h r) w → (job : Job) (input : I) (output : O) (before : FileSystem) (ending : Ending) (after : FileSystem) → r.has_failed input ≡ false
    → (f : Fills (working_may h r w (may_do h)) (as_whole h r) w job input output before ending after) → Remarked job (h.holds input) f.remarks
job_remarked h r w all job input output before ending after sound f =
    let works = f.finished.works in
    let ended : (verdict : Verdict) × (f.finished.worked ≡ Worked verdict) × (f.ended ≡ Worked verdict) =
    worked_by f.finished.worked f.ended (r.has_failed input) (r.has_failed f.left) (w.has_failed output) (w.has_failed f.finished.written) (w.has_failed f.written) (w.room f.written) works.unread works.failed f.finished.flushed
    (reads_sound h r (calls.IsUndecided job) input f.left works.given works.how sound works.reads) f.closes.1 in
    let held : Left h input works.given works.how = reads_left h (as_whole h r) w all (calls.IsUndecided job) input f.left works.given works.how works.reads in
    subst (λ (b : List ℕ). Remarked job b f.remarks) (sym held.whole) (subst (λ (x : Ending). RemarkedAs job works.given works.how x f.remarks) ended.1 f.remarked held.rest held.allowed)

-- and where all was done
written_by : (worked ending : Ending) (before after : Bool) (room : Option ℕ) → FlushedAs worked ending before after room → is_written (ending_fate ending) ≡ true → (verdict : Verdict) × (worked ≡ Worked verdict) × (ending ≡ Worked verdict)
written_by (Worked verdict) ending before after room (inl f) done = (verdict, refl, f.0)
written_by (Worked verdict) ending before after room (inr f) done = not_so ending Output f.0 refl done
written_by (Unread count) ending before after room flushed done = not_so ending (Unread count) flushed refl done
written_by Output ending before after room flushed done = not_so ending Output flushed.0 refl done

pub finishes_comes : {I O : Type 0} (h : Host I O) (r : Reader I) (w : Writer O) → GivesAll h r w → (job : Job) (input left : I) (made written : O) (ending : Ending) → h.took made ≡ [] → Finishes r w job input left made written ending → is_written (ending_fate ending) ≡ true
    → HasDone job (h.holds input) (h.took written) ending
finishes_comes h r w all job input left made written ending new f done =
    let ended : (verdict : Verdict) × (f.worked ≡ Worked verdict) × (ending ≡ Worked verdict) = written_by f.worked ending (w.has_failed f.written) (w.has_failed written) (w.room written) f.flushed done in
    took_done h r w all job input left made written ending new f ended.0 ended.1 ended.2

-- ---- the part

pub record PartMade {I O : Type 0} (h : Host I O) (part : List ℕ) (mode : ℕ) (before : FileSystem) (result : Result O NoPart) (after : FileSystem) : Type 0 where
  pub output : O
  pub is : result ≡ Ok output
  pub new : h.took output ≡ []
  pub makes : MakesFile h part mode before after

pub part_made : {I O F : Type 0} (h : Host I O) (part : List ℕ) (mode : ℕ) (before : FileSystem) (result : Result O NoPart) (after : FileSystem) → IsUtf8 part → at_path h before.now part ≡ None → MakesPart (working_folders h (sure (folders_do {F = F} h))) part mode before result after
    → PartMade h part mode before result after
part_made h part mode before result after text none (parts.no_text t is same) = absurd (t text)
part_made h part mode before result after text none (parts.made o t call is) = record { output = o.device; is = is; new = call.0.1; makes = call.0.0 }
part_made h part mode before result after text none (parts.is_there e t call k is) = absurd (call.1.0 none)
part_made h part mode before result after text none (parts.no_memory e t call k is) = absurd (call.1.0 none)
part_made h part mode before result after text none (parts.not_made e t call k m is) = absurd (call.1.0 none)

-- ---- the instance in a file

names_by : (given : List ℕ) (how : How) (answer : Result Uids NoInstance) (rest : List ℕ) (a b : Bool) → Allows how rest → instance_reads.Comes given how answer → instance_reads.TellsUnread a b answer → b ≡ false → FileNames (given ++ rest) answer
names_by given how (Ok uids) rest a b allowed comes tells sound = comes rest allowed
names_by given how (Err (Unfit which)) rest a b allowed comes tells sound = comes rest allowed
names_by given how (Err NotRead) rest a b allowed comes tells sound = true_false b tells sound

pub instance_found : {I O : Type 0} (h : Host I O) (r : Reader I) (w : Writer O) → GivesAll h (as_whole h r) w → (path : List ℕ) (before : FileSystem) (result : Result Instance NoInstance) (after : FileSystem) → IsUtf8 path → (f : FileAt h Followed before.now path)
    → FindsInstance (working_may h r w (may_do h)) (as_whole h r) path before result after → FileNames (before.now.bytes (number_of f.file)) (told result)
instance_found h r w all path before result after text f (instance.not_opened opens is) = not_unopened h r w path before after text f opens
instance_found h r w all path before result after text f (instance.was_read input left opened opens reads back) =
    let x : IsOpened h r (before.now.bytes (number_of f.file)) input before opened = is_opened h r w path before input opened text f opens in
    let rest : Left h input reads.given reads.how = reads_left h (as_whole h r) w all instance_reads.IsUndecided input left reads.given reads.how reads.reads in
    subst (λ (b : List ℕ). FileNames b (told result)) (sym rest.whole ∙ x.holds)
    (names_by reads.given reads.how (told result) rest.rest (r.has_failed input) (r.has_failed left) rest.allowed reads.comes reads.failed (reads_sound h r instance_reads.IsUndecided input left reads.given reads.how x.sound reads.reads))

-- ---- two files with the same bytes

fits_front : (whole front rest : List ℕ) → whole ≡ front ++ rest → length whole ≤ INPUT_LIMIT → INPUT_LIMIT < length front → ⊥
fits_front whole front rest is fits less = fits_by (length whole) (length front) (length rest) INPUT_LIMIT (ap length is ∙ length-append front rest) fits less
  where
    fits_by : (a b c limit : ℕ) → a ≡ b + c → a ≤ limit → limit < b → ⊥
    fits_by a b c limit is fits less = omega (arith, is, fits, less)

not_other : {I O : Type 0} (h : Host I O) (one other : I) (held first second : List ℕ) (first_how second_how : How) → first_how ≢ with_failure → second_how ≢ with_failure → Left h one first first_how → Left h other second second_how → h.holds one ≡ held → h.holds other ≡ held → length held ≤ INPUT_LIMIT
    → bytes.GaveOther first first_how second second_how → ⊥
not_other h one other held first second fh sh first_not second_not a b x y fits (bytes.first_failed e) = first_not e
not_other h one other held first second fh sh first_not second_not a b x y fits (bytes.second_failed e) = second_not e
not_other h one other held first second fh sh first_not second_not a b x y fits (bytes.differ apart) = apart a.rest b.rest a.allowed b.allowed (sym a.whole ∙ x ∙ sym y ∙ b.whole)
not_other h one other held first second fh sh first_not second_not a b x y fits (bytes.too_long less more) = fits_front held first a.rest (sym x ∙ a.whole) fits less

is_same : {first second : List ℕ} {first_how second_how : How} (same : Bool) → bytes.Answers first first_how second second_how same → (bytes.GaveOther first first_how second second_how → ⊥) → same ≡ true
is_same true answer not = refl
is_same false answer not = absurd (not answer)

pub compared_same : {I O : Type 0} (h : Host I O) (r : Reader I) (w : Writer O) → GivesAll h (as_whole h r) w → (first second : List ℕ) (s : FileSystem) (same : Bool) (after : FileSystem) (held : List ℕ) → IsUtf8 first → IsUtf8 second → (f : FileAt h Followed s.now first) → (g : FileAt h Followed s.now second)
    → s.now.bytes (number_of f.file) ≡ held → s.now.bytes (number_of g.file) ≡ held → length held ≤ INPUT_LIMIT → ComparesFiles (working_may h r w (may_do h)) (as_whole h r) first second s same after → same ≡ true
compared_same h r w all first second s same after held text too f g first_is second_is fits (instance.no_first opens is) = not_unopened h r w first s after text f opens
compared_same h r w all first second s same after held text too f g first_is second_is fits (instance.no_second one mid tried opens fails back is) =
    let x : IsOpened h r (s.now.bytes (number_of f.file)) one s mid = is_opened h r w first s one mid text f opens in
    not_unopened h r w second mid tried too (subst (λ (t : FileSystem). FileAt h Followed t.now second) (sym x.same) g) fails
compared_same h r w all first second s same after held text too f g first_is second_is fits (instance.both one other mid opened opens others c) =
    let x : IsOpened h r (s.now.bytes (number_of f.file)) one s mid = is_opened h r w first s one mid text f opens in
    let y : IsOpened h r (s.now.bytes (number_of g.file)) other s opened = is_opened h r w second s other opened too g (subst (λ (t : FileSystem). OpensFile (working_may h r w (may_do h)) second t (Some other) opened) x.same others) in
    let z = c.compared in
    is_same same z.answer_is
    (not_other h one other held z.first z.second z.first_how z.second_how (reads_not h r (bytes.InFront z.second) one c.first_left z.first z.first_how z.reads_first) (reads_not h r (bytes.InFront z.first) other c.second_left z.second z.second_how z.reads_second)
    (reads_left h (as_whole h r) w all (bytes.InFront z.second) one c.first_left z.first z.first_how z.reads_first) (reads_left h (as_whole h r) w all (bytes.InFront z.first) other c.second_left z.second z.second_how z.reads_second)
    (x.holds ∙ first_is) (y.holds ∙ second_is) fits)

ends_with : (whole front rest : List ℕ) → whole ≡ front ++ rest → rest ≡ [] → whole ≡ front
ends_with whole front rest is none = is ∙ ap (λ (x : List ℕ). front ++ x) none ∙ append-nil front

false_true : {A : Type 0} → true ≡ false → A
false_true e = absurd (cc)

pub compared_bytes : {I O : Type 0} (h : Host I O) (r : Reader I) (w : Writer O) → GivesAll h (as_whole h r) w → (first second : List ℕ) (s after : FileSystem) → IsUtf8 first → IsUtf8 second → (f : FileAt h Followed s.now first) → (g : FileAt h Followed s.now second)
    → ComparesFiles (working_may h r w (may_do h)) (as_whole h r) first second s true after → s.now.bytes (number_of f.file) ≡ s.now.bytes (number_of g.file)
compared_bytes h r w all first second s after text too f g (instance.no_first opens is) = false_true is
compared_bytes h r w all first second s after text too f g (instance.no_second one mid tried opens fails back is) = false_true is
compared_bytes h r w all first second s after text too f g (instance.both one other mid opened opens others c) =
    let x : IsOpened h r (s.now.bytes (number_of f.file)) one s mid = is_opened h r w first s one mid text f opens in
    let y : IsOpened h r (s.now.bytes (number_of g.file)) other s opened = is_opened h r w second s other opened too g (subst (λ (t : FileSystem). OpensFile (working_may h r w (may_do h)) second t (Some other) opened) x.same others) in
    let z = c.compared in
    let a : Left h one z.first z.first_how = reads_left h (as_whole h r) w all (bytes.InFront z.second) one c.first_left z.first z.first_how z.reads_first in
    let b : Left h other z.second z.second_how = reads_left h (as_whole h r) w all (bytes.InFront z.first) other c.second_left z.second z.second_how z.reads_second in
    sym x.holds ∙ ends_with (h.holds one) z.first a.rest a.whole (nothing_follows z.first_how a.rest z.answer_is.first_end a.allowed) ∙ z.answer_is.same
    ∙ sym (ends_with (h.holds other) z.second b.rest b.whole (nothing_follows z.second_how b.rest z.answer_is.second_end b.allowed)) ∙ y.holds
