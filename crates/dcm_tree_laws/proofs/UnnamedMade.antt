-- A file whose row says that no output was written ends so by its bytes.
use Rattle.std.proofs.Common.{◌≡◌, ◌∙◌, refl, sym, ap, subst, ℕ, List, Bool, true, false, Result, Ok, Err}
use Rattle.std.specs.Str.{IsUtf8}
use Rattle.dcm_lemmas.proofs.Truth.{true_false}
use Rattle.dcm_devices.specs.Writing.{Writer}
use Rattle.dcm_files.specs.declared.folders.Links.TheVariants.{Followed}
use Rattle.dcm_instance.specs.declared.names.Instance.{Instance}
use Rattle.dcm_instance.specs.ReadInstance.{FileNames}
use Rattle.dcm_walk.specs.Visits.{Named}
use Rattle.dcm_words.specs.Words.{Job}
use Rattle.dcm_cli.specs.Calls.{Reader}
use Rattle.dcm_cli.specs.declared.ending.Verdict.{Verdict}
use Rattle.dcm_trees.specs.declared.fate.Fate.{Fate}
use Rattle.dcm_trees.specs.declared.fate.Fate.TheVariants as fates
use Rattle.dcm_trees.specs.declared.file.Done.{Done}
use Rattle.dcm_trees.specs.declared.part.Naming.{Naming}
use Rattle.dcm_trees.specs.declared.part.Naming.TheVariants.{Linked, Moved, NotFree, Failed}
use Rattle.dcm_trees.specs.declared.part.NoPart.{NoPart}
use Rattle.dcm_trees.specs.declared.progress.Stop.{Stop as RunStop}
use Rattle.dcm_trees.specs.declared.place.Place.{Place}
use Rattle.dcm_trees.specs.declared.place.Place.TheVariants as places
use Rattle.dcm_trees.specs.declared.task.NoDays.{NoDays}
use Rattle.dcm_trees.specs.declared.task.NoDays.TheVariants as days
use Rattle.dcm_trees.specs.Fate.{is_written}
use Rattle.dcm_trees.specs.Instance as instance
use Rattle.dcm_trees.specs.Instance.{NamesBy, NamesPart, FillsByInstance, EndsWithoutPart, DoesByInstance, DoesUnnamed, without_name, unnamed, no_instance_fate}
use Rattle.dcm_trees.specs.Lines.{ending_fate, verdict_fate, no_days_fate, place_fate}
use Rattle.dcm_trees.specs.Manner.{Manner}
use Rattle.dcm_trees.specs.Part as parts
use Rattle.dcm_trees.specs.Part.{TellsNoPart, naming_fate}
use Rattle.dcm_trees.specs.Task.{Task}
use Rattle.dcm_tree_laws.specs.Copies.{EndsUnnamed, no_days, not_done, no_instance}
use Rattle.dcm_tree_laws.specs.Determined.{FileAt, ComesTo, as_whole, working, working_may}
use Rattle.dcm_tree_laws.specs.FileSystem.{FileSystem, Host, number_of, place_of, may_do, ClosesOutput}
use Rattle.dcm_tree_laws.specs.Single.{IsJobOf}
use Rattle.dcm_tree_laws.proofs.CopyLeft.{WholeAt, whole_at, followed}
use Rattle.dcm_tree_laws.proofs.CopyMade.{NewPart, new_part}
use Rattle.dcm_tree_laws.proofs.Held.{GivesAll}
use Rattle.dcm_tree_laws.proofs.Jobs as jobs
use Rattle.dcm_tree_laws.proofs.Looking.{same_ok}
use Rattle.dcm_tree_laws.proofs.Working.{working_also, IsOpened, is_opened, JobIs, job_found, HasDone, job_done, instance_found}
use Rattle.dcm_tree_laws.proofs.Works as works

-- it could not be written for what the file holds
abbrev pub is_ended : Fate → Bool
is_ended fates.Refused = true
is_ended fates.Pixels = true
is_ended fates.Unnamed = true
is_ended _ = false

-- a row of a file that ends so
pub record Ended (task : Task) (held : List ℕ) (done : Done) : Type 0 where
  pub ends : EndsUnnamed task held done.fate
  pub nameless : done ≡ without_name done.fate

ended_as : (task : Task) (held : List ℕ) (done : Done) (fate : Fate) → done ≡ without_name fate → EndsUnnamed task held fate → Ended task held done
ended_as task held done fate is ends =
    let its : done.fate ≡ fate = ap (λ (d : Done). d.fate) is in
    record { ends = subst (EndsUnnamed task held) (sym its) ends; nameless = is ∙ ap without_name (sym its) }

-- ---- other rows

unsettled : {A : Type 0} (done : Done) (fate : Fate) → done ≡ without_name fate → is_ended fate ≡ false → is_ended done.fate ≡ true → A
unsettled done fate is not settled = true_false (is_ended done.fate) settled (ap (λ (d : Done). is_ended d.fate) is ∙ not)

place_unsettled : (place : Place) (same : Bool) → is_ended (place_fate place same) ≡ false
place_unsettled places.There true = refl
place_unsettled places.There false = refl
place_unsettled places.Barred same = refl
place_unsettled places.Free same = refl

naming_unsettled : {A : Type 0} (naming : Naming) (fate : Fate) (same : Bool) → is_written fate ≡ true → is_written (naming_fate naming fate same) ≡ false → is_ended (naming_fate naming fate same) ≡ true → A
naming_unsettled Linked fate same written not settled = true_false (is_written fate) written not
naming_unsettled Moved fate same written not settled = true_false (is_written fate) written not
naming_unsettled (NotFree place) fate same written not settled = true_false (is_ended (place_fate place same)) settled (place_unsettled place same)
naming_unsettled Failed fate same written not settled = true_false (is_ended fates.Unwritten) settled refl

tells_unwritten : {E : Type 0} (e : Writer E) (name : List ℕ) (cause : NoPart) (from : E) (became : Result Fate RunStop) (result : Result Done RunStop) (to : E) (done : Done) → TellsNoPart e name cause from became to → result ≡ unnamed became → result ≡ Ok done → done ≡ without_name fates.Unwritten
tells_unwritten e name cause from became result to done (parts.ends_run p c t is) r ok = absurd (not_ok (unnamed became) p done (ap unnamed is) (sym r ∙ ok))
  where
    not_ok : (x : Result Done RunStop) (p : RunStop) (done : Done) → x ≡ Err p → x ≡ Ok done → ⊥
    not_ok x p done a b = absurd (cc)
tells_unwritten e name cause from became result to done (parts.told c t is) r ok = same_ok result (without_name fates.Unwritten) done (r ∙ ap unnamed is) ok

pub ends_unwritten : {E : Type 0} (e : Writer E) (name : List ℕ) (cause : NoPart) (from : E) (result : Result Done RunStop) (to : E) (done : Done) → EndsWithoutPart e name cause from result to → result ≡ Ok done → done ≡ without_name fates.Unwritten
ends_unwritten e name cause from result to done (instance.ended became tells is) ok = tells_unwritten e name cause from became result to done tells is ok

pub no_job_ends : (task : Task) (held : List ℕ) (cause : NoDays) → JobIs task held (Err cause) → EndsUnnamed task held (no_days_fate cause)
no_job_ends task held (days.Refused stop) found = no_days stop found refl
no_job_ends task held (days.Unread count) found = absurd found
no_job_ends task held days.Unopened found = absurd found

-- ---- how it ended

module _ {I O E : Type 0} (F : Type 0) (h : Host I O) (r : Reader I) (w : Writer O) (e : Writer E) (all : GivesAll h (as_whole h r) w) (m : Manner) (leads : h.leads Followed m.part ≡ place_of h m.part) where
  ended_by : {A : Type 0} (name : List ℕ) (i : Instance) (fate : Fate) (from : E) (s : FileSystem) (done : Done) (to : E) (after : FileSystem) → is_written fate ≡ true → NamesBy (working {F = F} h r w e) m name i fate from s done to after → is_written done.fate ≡ false → is_ended done.fate ≡ true → A
  ended_by name i fate from s done to after written (instance.too_long none removes told is) not settled = unsettled done fates.Unwritten is refl settled
  ended_by name i fate from s done to after written (instance.placed path became relative at p rel d) not settled =
      let its : done.fate ≡ naming_fate p.naming fate p.same = ap (λ (x : Done). x.fate) d ∙ p.becomes in
      naming_unsettled p.naming fate p.same written (sym (ap is_written its) ∙ not) (sym (ap is_ended its) ∙ settled)

  ended_named : (name held out : List ℕ) (verdict : Verdict) (fate : Fate) (from : E) (s : FileSystem) (done : Done) (to : E) (after : FileSystem) → ComesTo m.task held out verdict → is_written (verdict_fate verdict) ≡ true → is_written fate ≡ true → IsUtf8 m.part → (f : FileAt h Followed s.now m.part)
      → s.now.bytes (number_of f.file) ≡ out → NamesPart (working {F = F} h r w e) m name fate from s done to after → is_written done.fate ≡ false → is_ended done.fate ≡ true → Ended m.task held done
  ended_named name held out verdict fate from s done to after comes written fate_written text f is (instance.no_instance cause read finds removes told d) not settled =
      ended_as m.task held done (no_instance_fate cause) d
      (no_instance out verdict cause comes written (subst (λ (b : List ℕ). FileNames b (Err cause)) is (instance_found h r w all m.part s (Err cause) read text f finds)) refl)
  ended_named name held out verdict fate from s done to after comes written fate_written text f is (instance.has_instance i read finds n) not settled = ended_by name i fate from read done to after fate_written n not settled

  ended_filled : (job : Job) (name : List ℕ) (mode : ℕ) (input : I) (output : O) (held : List ℕ) (from : E) (opened made : FileSystem) (done : Done) (to : E) (after : FileSystem) → NewPart h m.part mode opened output made → r.has_failed input ≡ false → h.holds input ≡ held → IsJobOf m.task held job
      → FillsByInstance (working {F = F} h r w e) job m name input output from made done to after → is_written done.fate ≡ false → is_ended done.fate ≡ true → Ended m.task held done
  ended_filled job name mode input output held from opened made done to after part sound holds of_job (instance.not_done ending was_filled f undone told removes is) not settled =
      let d : HasDone job held (h.took f.written) ending = subst (λ (b : List ℕ). HasDone job b (h.took f.written) ending) holds (job_done h r w all job input output made ending was_filled sound part.new f) in
      let its : ending_fate ending ≡ verdict_fate d.verdict = ap ending_fate d.is in
      ended_as m.task held done (verdict_fate d.verdict) (is ∙ ap without_name its)
      (not_done (h.took f.written) d.verdict (record { job = job; is_job = of_job; answered = d.answered }) (sym (ap is_written its) ∙ undone) refl)
  ended_filled job name mode input output held from opened made done to after part sound holds of_job (instance.has_done ending was_filled told f is reports names) not settled =
      let d : HasDone job held (h.took f.written) ending = subst (λ (b : List ℕ). HasDone job b (h.took f.written) ending) holds (job_done h r w all job input output made ending was_filled sound part.new f) in
      let its : ending_fate ending ≡ verdict_fate d.verdict = ap ending_fate d.is in
      let closes : ClosesOutput made.written (h.took f.written) (h.took f.written) made was_filled = subst (λ (s : FileSystem). ClosesOutput made.written (h.took f.written) (h.took f.written) made s) (sym f.releases) f.closes.0 in
      let whole : WholeAt h m.part (h.took f.written) opened.now was_filled.now = whole_at h m.part mode (h.took f.written) opened made was_filled part.makes closes in
      ended_named name held (h.took f.written) d.verdict (ending_fate ending) told was_filled done to after (record { job = job; is_job = of_job; answered = d.answered }) (sym (ap is_written its) ∙ is) is part.text
      (followed h was_filled.now m.part whole.file leads whole.at whole.kind) whole.bytes names not settled

  ended_ready : (job : Job) (n : Named) (mode : ℕ) (from : E) (s : FileSystem) (result : Result Done RunStop) (to : E) (after : FileSystem) (done : Done) → IsUtf8 n.path → (f : FileAt h Followed s.now n.path) → IsJobOf m.task (s.now.bytes (number_of f.file)) job
      → DoesByInstance (working {F = F} h r w e) job m n mode from s result to after → result ≡ Ok done → is_written done.fate ≡ false → is_ended done.fate ≡ true → Ended m.task (s.now.bytes (number_of f.file)) done
  ended_ready job n mode from s result to after done text f of_job (instance.not_opened opens told is) ok not settled = unsettled done fates.Unread (same_ok result (without_name fates.Unread) done is ok) refl settled
  ended_ready job n mode from s result to after done text f of_job (instance.no_part input cause opened tried opens makes back tells) ok not settled =
      unsettled done fates.Unwritten (ends_unwritten e n.name cause from result to done tells ok) refl settled
  ended_ready job n mode from s result to after done text f of_job (instance.filled input output became opened made opens makes fills is) ok not settled =
      let same : done ≡ became = same_ok result became done is ok in
      let o : IsOpened h r (s.now.bytes (number_of f.file)) input s opened = is_opened h r w n.path s input opened text f opens in
      subst (Ended m.task (s.now.bytes (number_of f.file))) (sym same)
      (ended_filled job n.name mode input output (s.now.bytes (number_of f.file)) from opened made became to after (new_part {F = F} h m.part mode opened output made makes) o.sound o.holds of_job fills
      (sym (ap (λ (d : Done). is_written d.fate) same) ∙ not) (sym (ap (λ (d : Done). is_ended d.fate) same) ∙ settled))

  pub ended : (n : Named) (mode : ℕ) (from : E) (s : FileSystem) (result : Result Done RunStop) (to : E) (after : FileSystem) (done : Done) → IsUtf8 n.path → (f : FileAt h Followed s.now n.path) → DoesUnnamed (working {F = F} h r w e) m n mode from s result to after → result ≡ Ok done
      → is_written done.fate ≡ false → is_ended done.fate ≡ true → Ended m.task (s.now.bytes (number_of f.file)) done
  ended n mode from s result to after done text f (instance.no_days cause finds told is) ok not settled =
      ended_as m.task (s.now.bytes (number_of f.file)) done (no_days_fate cause) (same_ok result (without_name (no_days_fate cause)) done is ok)
      (no_job_ends m.task (s.now.bytes (number_of f.file)) cause (job_found h r w all m.task n.path s (Err cause) after text f finds))
  ended n mode from s result to after done text f (instance.has_job job mid finds does) ok not settled =
      let same : mid ≡ s = jobs.finds_job h (as_whole h r) m.task n.path s (Ok job) mid (works.finds_job (working_may h r w (may_do h)) (may_do h) (working_also h r w) (as_whole h r) m.task n.path s (Ok job) mid finds) in
      ended_ready job n mode from s result to after done text f (job_found h r w all m.task n.path s (Ok job) mid text f finds) (subst (λ (t : FileSystem). DoesByInstance (working {F = F} h r w e) job m n mode from t result to after) same does) ok not settled
