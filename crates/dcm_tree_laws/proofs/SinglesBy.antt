-- Each output that a row says was written is that of a single run.
use Rattle.std.proofs.Common.{◌≡◌, ◌∙◌, refl, sym, ap, subst, ℕ, ℤ, List, [], ◌++◌, Bool, true, Some, Ok}
use Rattle.std.specs.Prelude.{◌≢◌}
use Rattle.dcm_lemmas.proofs.Options.{one_value}
use Rattle.dcm_devices.specs.Writing.{Writer}
use Rattle.dcm_files.specs.declared.folders.Found.{Found}
use Rattle.dcm_files.specs.declared.folders.FoundKind.TheVariants as kinds
use Rattle.dcm_files.specs.declared.folders.Links.{Links}
use Rattle.dcm_files.specs.declared.folders.Links.TheVariants.{Kept, Followed}
use Rattle.dcm_instance.specs.declared.names.Instance.{Instance}
use Rattle.dcm_instance.specs.ReadInstance as instance_reads
use Rattle.dcm_instance.specs.ReadInstance.{FileNames}
use Rattle.dcm_instance.specs.Uids.{uids_of}
use Rattle.dcm_walk.specs.Visits.{Named}
use Rattle.dcm_walk.specs.declared.visitor.What.{What}
use Rattle.dcm_walk.specs.declared.visitor.What.TheVariants.{File}
use Rattle.dcm_words.specs.Words.{Job, deidentify, with_days}
use Rattle.dcm_cli.specs.Calls.{Reader, Finishes}
use Rattle.dcm_cli.specs.InputCalls.{How, Allows}
use Rattle.dcm_cli.specs.First.{FirstReads, IsUndecided, Comes}
use Rattle.dcm_cli.specs.declared.ending.Ending.{Ending}
use Rattle.dcm_cli.specs.declared.first.FirstEnd.{FirstEnd}
use Rattle.dcm_cli.specs.declared.first.FirstEnd.TheVariants.{Days, Refused, Unread}
use Rattle.dcm_trees.specs.declared.file.Done.{Done}
use Rattle.dcm_trees.specs.Fate.{is_written}
use Rattle.dcm_trees.specs.Instance as instance
use Rattle.dcm_trees.specs.Instance.{FindsInstance}
use Rattle.dcm_trees.specs.Lines.{ending_fate}
use Rattle.dcm_trees.specs.Manner.{Manner, manner_of}
use Rattle.dcm_trees.specs.Opening as opening
use Rattle.dcm_trees.specs.Opening.{OpensFile}
use Rattle.dcm_trees.specs.Task as tasks
use Rattle.dcm_trees.specs.Task.{Task, by_days, days_of, TakesDays, FindsJob, task_of}
use Rattle.dcm_tree_laws.specs.FileSystem.{FileSystem, Tree, Host, number_of, place_of, may_do}
use Rattle.dcm_tree_laws.specs.Outputs.{IsReadInPart, IsNamedSo, by_its_input, by_its_instance}
use Rattle.dcm_tree_laws.specs.Single.{IsJobOf, of_all, of_days, IsWholeAnswer, as_held, IsSingle, IsNamedAfter, by_its_input as after_its_input, by_its_bytes, HasSingle, SingleRuns, SingleRunsOfList}
use Rattle.dcm_tree_laws.proofs.Answered.{GivesDone, finishes_gives}
use Rattle.dcm_tree_laws.proofs.Held.{GivesAll, held_gives, Left, reads_left}
use Rattle.dcm_tree_laws.proofs.Jobs.{finds_job}
use Rattle.dcm_tree_laws.proofs.Looking.{same_ok}
use Rattle.dcm_tree_laws.proofs.Near.{IsNear}
use Rattle.dcm_tree_laws.proofs.OutputsBy.{Still, Right, Names, folder_good, list_good, names_so, manner_of_output}
use Rattle.dcm_tree_laws.proofs.Seen.{IsUnder, IsLine, Saw, SawFile}
use Rattle.dcm_tree_laws.proofs.SoFar.{trees_of}
use Rattle.dcm_tree_laws.proofs.RowsBy.{HasRows, same_manifest}

-- ---- what an input holds

-- one that was opened at a path holds the file there
pub opens_holds : {I O : Type 0} (h : Host I O) (path : List ℕ) (s : FileSystem) (input : I) (opened : FileSystem) → OpensFile (may_do h) path s (Some input) opened → (read : Found) → s.now.at (h.leads Followed path) ≡ Some read → read.kind ≡ kinds.File
    → h.holds input ≡ s.now.bytes (number_of read)
opens_holds h path s input opened (opening.no_text t is same) read at kind = absurd (cc)
opens_holds h path s input opened (opening.not_opened e t call is) read at kind = absurd (cc)
opens_holds h path s input opened (opening.a_folder o has t call folder back is) read at kind = absurd (cc)
opens_holds h path s input opened (opening.opened o t call folder is) read at kind = ap h.holds (one_value (Some input) input o.device refl is) ∙ call.1 read at kind

-- ---- its job

days_are : (end : FirstEnd) (days : ℤ) → Ok days ≡ days_of end → end ≡ Days days
days_are (Days other) days is = ap Days (same_ok (Ok days) days other refl is)
days_are (Refused stop) days is = absurd (cc)
days_are (Unread count) days is = absurd (cc)

by_end : (key given : List ℕ) (how : How) (end : FirstEnd) (days : ℤ) → end ≡ Days days → Comes key given how end → (rest : List ℕ) → Allows how rest → FirstReads key (given ++ rest) (Days days)
by_end key given how end days is comes = subst (Comes key given how) is comes

takes_days : {I O : Type 0} (h : Host I O) (r : Reader I) (w : Writer O) → GivesAll h r w → (key path : List ℕ) (s : FileSystem) (days : ℤ) (after : FileSystem) (bytes : List ℕ) → TakesDays (may_do h) r key path s (Ok days) after
    → ((input : I) (opened : FileSystem) → OpensFile (may_do h) path s (Some input) opened → h.holds input ≡ bytes) → FirstReads key bytes (Days days)
takes_days h r w all key path s days after bytes (tasks.not_opened opens is) holds = absurd (cc)
takes_days h r w all key path s days after bytes (tasks.was_read input left opened end opens reads back is) holds =
    let x : Left h input reads.given reads.how = reads_left h r w all IsUndecided input left reads.given reads.how reads.reads in
    subst (λ (b : List ℕ). FirstReads key b (Days days)) (sym x.whole ∙ holds input opened opens) (by_end key reads.given reads.how end days (days_are end days is) reads.comes x.rest x.allowed)

pub job_is : {I O : Type 0} (h : Host I O) (r : Reader I) (w : Writer O) → GivesAll h r w → (task : Task) (path : List ℕ) (s : FileSystem) (job : Job) (after : FileSystem) (bytes : List ℕ) → FindsJob (may_do h) r task path s (Ok job) after
    → ((input : I) (opened : FileSystem) → OpensFile (may_do h) path s (Some input) opened → h.holds input ≡ bytes) → IsJobOf task bytes job
job_is h r w all task path s job after bytes (tasks.of_all other t is back) holds = of_all (t ∙ ap tasks.same (same_ok (Ok job) job other refl is))
job_is h r w all task path s job after bytes (tasks.of_days options reports key days t takes is) holds =
    of_days options reports key days t (takes_days h r w all key path s days after bytes takes holds) (sym (same_ok (Ok job) job (deidentify (with_days options days) reports key) refl is))
job_is h r w all task path s job after bytes (tasks.no_days options reports key cause t takes is) holds = absurd (cc)

-- ---- the output of one name

-- what an output took of a job that was done of the file at a path is its answer
pub answered : {I O : Type 0} (h : Host I O) (r : Reader I) (w : Writer O) → GivesAll h r w → (task : Task) (path : List ℕ) (s mid : FileSystem) (job : Job) (input : I) (opened : FileSystem) (left : I) (made written : O) (ending : Ending)
    → FindsJob (may_do h) r task path s (Ok job) mid → OpensFile (may_do h) path mid (Some input) opened → h.took made ≡ [] → Finishes r w job input left made written ending → is_written (ending_fate ending) ≡ true
    → (bytes : List ℕ) → ((input : I) (opened : FileSystem) → OpensFile (may_do h) path s (Some input) opened → h.holds input ≡ bytes) → IsWholeAnswer task bytes (h.took written)
answered h r w all task path s mid job input opened left made written ending f o new finished done bytes holds =
    let same : mid ≡ s = finds_job h r task path s (Ok job) mid f in
    let x : GivesDone job bytes (h.took written) = subst (λ (b : List ℕ). GivesDone job b (h.took written))
    (holds input opened (subst (λ (t : FileSystem). OpensFile (may_do h) path t (Some input) opened) same o)) (finishes_gives h r w all job input left made written ending new finished done) in
    record {
      answered = record { job = job; is_job = job_is h r w all task path s job mid bytes f holds; answer = x.gives.a; answers = x.gives.answers; output_is = x.gives.output_is };
      verdict = x.verdict;
      comes_to = x.comes_to;
      done = x.done;
    }

-- the file that was there at the start is what an input holds that is opened later
held_since : {I O : Type 0} (h : Host I O) (part path : List ℕ) (start : Tree) (s : FileSystem) → Still h part start s.now → (read : Found) → start.at (h.leads Followed path) ≡ Some read → read.kind ≡ kinds.File → h.leads Followed path ≢ place_of h part
    → (input : I) (opened : FileSystem) → OpensFile (may_do h) path s (Some input) opened → h.holds input ≡ start.bytes (number_of read)
held_since h part path start s still read at kind apart input opened o =
    opens_holds h path s input opened o read (still.there (h.leads Followed path) read apart at) kind ∙ still.bytes (h.leads Followed path) read apart at

-- and its mode is that of the file that was there at the start
mode_since : {I O : Type 0} (h : Host I O) (links : Links) (In : Named → Type 0) (part : List ℕ) (n : Named) (start : Tree) (s : FileSystem) (what : What) (mode : ℕ) → Still h part start s.now → Saw h links In s n what → what ≡ File mode → (read : Found)
    → start.at (h.leads links n.path) ≡ Some read → h.leads links n.path ≢ place_of h part → h.masked mode ≡ h.masked read.mode
mode_since h links In part n start s what mode still saw is read at apart =
    let x : SawFile h links In s n mode = saw mode is in
    ap h.masked (sym x.mode_is ∙ ap (λ (f : Found). f.mode) (one_value (s.now.at (h.leads links n.path)) x.file read x.is (still.there (h.leads links n.path) read apart at)))

single_right : {I O : Type 0} (h : Host I O) (r : Reader I) (w : Writer O) → GivesAll h r w → (links : Links) (In : Named → Type 0) (m : Manner) (start : Tree) → Right h links In (IsSingle h links m.part m.task start) r w m start
single_right h r w all links In m start = λ n what mode s still saw is job mid f input opened o left made written ending new finished done. record {
  found = mode;
  of_file = is;
  mode_is = refl;
  mode_of = λ read at apart. mode_since h links In m.part n start s what mode still saw is read at apart;
  answered = λ read at kind apart. answered h r w all m.task n.path s mid job input opened left made written ending f o new finished done (start.bytes (number_of read))
      (held_since h m.part n.path start s still read at kind apart);
}

-- ---- what the bytes name

found_in : {I O : Type 0} (h : Host I O) (r : Reader I) (w : Writer O) → GivesAll h r w → (part : List ℕ) (s : FileSystem) (i : Instance) (t : FileSystem) (file : Found) → s.now.at (h.leads Followed part) ≡ Some file → file.kind ≡ kinds.File → FindsInstance (may_do h) r part s (Ok i) t
    → FileNames (s.now.bytes (number_of file)) (Ok (uids_of i))
found_in h r w all part s i t file is kind (instance.not_opened opens told) = absurd (cc)
found_in h r w all part s i t file is kind (instance.was_read input left opened opens reads back) =
    let x : Left h input reads.given reads.how = reads_left h r w all instance_reads.IsUndecided input left reads.given reads.how reads.reads in
    subst (λ (b : List ℕ). FileNames b (Ok (uids_of i))) (sym x.whole ∙ opens_holds h part s input opened opens file is kind) (reads.comes x.rest x.allowed)

read_names : {I O : Type 0} (h : Host I O) (r : Reader I) (w : Writer O) → GivesAll h r w → (part : List ℕ) (trees : List Tree) (bytes : List ℕ) (i : Instance) → IsReadInPart h r part trees bytes i → h.leads Followed part ≡ place_of h part → FileNames bytes (Ok (uids_of i))
read_names h r w all part trees bytes i x leads =
    subst (λ (b : List ℕ). FileNames b (Ok (uids_of i))) x.bytes_are (found_in h r w all part x.state i x.after x.file (ap x.state.now.at leads ∙ x.is) x.kind x.finds)

pub named_after : {I O : Type 0} (h : Host I O) (r : Reader I) (w : Writer O) → GivesAll h r w → (keeps_names : Bool) (part : List ℕ) (trees : List Tree) (bytes : List ℕ) (done : Done) → IsNamedSo h r keeps_names part trees bytes done → IsNamedAfter h keeps_names part bytes done
named_after h r w all keeps_names part trees bytes done (by_its_input keeps is) = after_its_input keeps is
named_after h r w all keeps_names part trees bytes done (by_its_instance i keeps read by) = by_its_bytes (uids_of i) keeps by (λ leads. read_names h r w all part trees bytes i read leads)

names_after : {I O F E : Type 0} (h : Host I O) (r : Reader I) (w : Writer O) (e : Writer E) → GivesAll h r w → (m : Manner) → IsNear m.output m.part → Names F h (λ trees. IsNamedAfter h m.keeps_names m.part) r w e m
names_after {I} {O} {F} h r w e all m of_output = λ n what from before done to after none does written file at.
    named_after h r w all m.keeps_names m.part (trees_of after) (after.now.bytes (number_of file)) done (names_so {F = F} h r w e m of_output n what from before done to after none does written file at)

-- ---- those of all names

pub single_runs : {I O F W E : Type 0} (r : Reader I) (w : Writer O) (m : Writer W) (e : Writer E) → SingleRuns F r w m e
single_runs {I} {O} {F} {W} {E} r w m e h run path begun opened headed from before status left to after tells none part v stop =
    let manner : Manner = manner_of v.start.shared.manner in
    let right : Right h Kept (IsUnder path) (IsSingle h Kept manner.part manner.task before.now) (as_held h r) w manner before.now = single_right h (as_held h r) w (held_gives h r w tells) Kept (IsUnder path) manner before.now in
    let x = folder_good {F = F} (as_held h r) w m e h (IsSingle h Kept manner.part manner.task before.now) (λ trees. IsNamedAfter h manner.keeps_names manner.part) run path begun opened headed from before status left to after none part v right
    (names_after {F = F} h (as_held h r) w e (held_gives h r w tells) manner (manner_of_output run begun.part.items v.start.shared v.begins.shares part)) (λ later trees bytes done is. is) in
    let rows : HasRows m (HasSingle h Kept run.options.keeps_names begun.part.items run.output.now (task_of run.task) before.now after.now) v.start.shared headed x.0 v.last.manifest =
    subst (λ (k : Manner). HasRows m (HasSingle h Kept k.keeps_names k.part k.output k.task before.now after.now) v.start.shared headed x.0 v.last.manifest) v.begins.shares.manner (x.2.rows stop) in
    record {
      visits = x.0;
      text = rows.text;
      walks = x.1;
      rows = rows.rows;
      manifest = same_manifest m left v.last.manifest headed rows.text v.left_is rows.manifest_is;
    }

pub single_runs_of_list : {I O F W E : Type 0} (r : Reader I) (w : Writer O) (m : Writer W) (e : Writer E) → SingleRunsOfList F r w m e
single_runs_of_list {I} {O} {F} {W} {E} r w m e h run list begun input headed from before status left to after read tells none part v stop =
    let manner : Manner = manner_of v.start.shared.manner in
    let right : Right h Followed IsLine (IsSingle h Followed manner.part manner.task before.now) (as_held h r) w manner before.now = single_right h (as_held h r) w (held_gives h r w tells) Followed IsLine manner before.now in
    let x = list_good {F = F} (as_held h r) w m e h (IsSingle h Followed manner.part manner.task before.now) (λ trees. IsNamedAfter h manner.keeps_names manner.part) run list begun input headed from before status left to after read none part v right
    (names_after {F = F} h (as_held h r) w e (held_gives h r w tells) manner (manner_of_output run begun.part.items v.start.shared v.begins.shares part)) (λ later trees bytes done is. is) in
    let rows : HasRows m (HasSingle h Followed run.options.keeps_names begun.part.items run.output.now (task_of run.task) before.now after.now) v.start.shared headed x.0 v.last.manifest =
    subst (λ (k : Manner). HasRows m (HasSingle h Followed k.keeps_names k.part k.output k.task before.now after.now) v.start.shared headed x.0 v.last.manifest) v.begins.shares.manner (x.2.rows stop) in
    record {
      visits = x.0;
      text = rows.text;
      walks = x.1;
      rows = rows.rows;
      manifest = same_manifest m left v.last.manifest headed rows.text v.left_is rows.manifest_is;
    }
