-- A file whose row says that its output was there has it there at the end.
use Rattle.std.proofs.Common.{◌≡◌, ◌∙◌, refl, sym, ap, subst, ℕ, zero, suc, List, length, Bool, true, false, Some, None, Result, Ok}
use Rattle.std.specs.Prelude.{◌≢◌, nat_le}
use Rattle.std.specs.Str.{IsUtf8}
use Rattle.arrayvec.specs.ArrayVec.{ArrayVec}
use Rattle.dcm_lemmas.proofs.Choice.{chosen_some}
use Rattle.dcm_lemmas.proofs.Truth.{true_false}
use Rattle.dcm_devices.specs.Writing.{Writer}
use Rattle.dcm_files.specs.declared.folders.Links.TheVariants.{Followed}
use Rattle.dcm_files.specs.declared.folders.FoundKind.TheVariants as kinds
use Rattle.dcm_instance.specs.declared.names.Instance.{Instance}
use Rattle.dcm_instance.specs.declared.names.NoInstance.{NoInstance}
use Rattle.dcm_instance.specs.declared.names.NoInstance.TheVariants as no_instances
use Rattle.dcm_instance.specs.ReadInstance.{FileNames}
use Rattle.dcm_instance.specs.Uids.{uids_of, Uids, instance_name}
use Rattle.dcm_walk.specs.Names.{below, PATH_LIMIT}
use Rattle.dcm_walk.specs.Visits.{Named}
use Rattle.dcm_words.specs.Words.{Job}
use Rattle.dcm_cli.specs.Calls.{Reader}
use Rattle.dcm_cli.specs.declared.ending.Ending.{Ending}
use Rattle.dcm_cli.specs.declared.ending.Ending.TheVariants.{Worked, Unread, Output}
use Rattle.dcm_cli.specs.declared.ending.Verdict.{Verdict}
use Rattle.dcm_cli.specs.declared.ending.Verdict.TheVariants as verdicts
use Rattle.dcm_trees.specs.declared.fate.Fate.{Fate}
use Rattle.dcm_trees.specs.declared.fate.Fate.TheVariants as fates
use Rattle.dcm_trees.specs.declared.file.Done.{Done}
use Rattle.dcm_trees.specs.declared.progress.Stop.{Stop as RunStop}
use Rattle.dcm_trees.specs.declared.task.NoDays.{NoDays}
use Rattle.dcm_trees.specs.declared.task.NoDays.TheVariants as days
use Rattle.dcm_trees.specs.Fate.{is_written, is_there}
use Rattle.dcm_trees.specs.Instance as instance
use Rattle.dcm_trees.specs.Instance.{PlacesPart, NamesBy, NamesPart, FillsByInstance, DoesByInstance, DoesUnnamed, name_of_instance, without_name, no_instance_fate}
use Rattle.dcm_trees.specs.Lines.{ending_fate, verdict_fate, no_days_fate}
use Rattle.dcm_trees.specs.Manner.{Manner}
use Rattle.dcm_trees.specs.Part.{MakesPart}
use Rattle.dcm_trees.specs.Work.{name_in}
use Rattle.dcm_tree_laws.specs.Again.{IsAt, sure}
use Rattle.dcm_tree_laws.specs.Copies.{IsNamedBy}
use Rattle.dcm_trees.specs.Task.{Task}
use Rattle.dcm_tree_laws.specs.Determined.{FileAt, ComesTo, FollowsLinks, as_whole, working, working_may, working_folders}
use Rattle.dcm_tree_laws.specs.FileSystem.{FileSystem, Tree, Host, number_of, place_of, at_path, may_do, folders_do}
use Rattle.dcm_tree_laws.specs.Single.{IsJobOf}
use Rattle.dcm_tree_laws.proofs.Near.{IsNear, Stays}
use Rattle.dcm_tree_laws.proofs.CopyLeft.{followed, no_link, met_fate}
use Rattle.dcm_tree_laws.proofs.CopyMade.{CopyMade, NewPart, new_part}
use Rattle.dcm_tree_laws.proofs.CopyMet.{MetBytes, placed_met}
use Rattle.dcm_tree_laws.proofs.Files.{path_is}
use Rattle.dcm_tree_laws.proofs.Filling.{part_is_made, is_filled_as}
use Rattle.dcm_tree_laws.proofs.Given.{IsReady, Ready, ready}
use Rattle.dcm_tree_laws.proofs.Held.{GivesAll}
use Rattle.dcm_tree_laws.proofs.Jobs as jobs
use Rattle.dcm_tree_laws.proofs.Looking.{same_ok}
use Rattle.dcm_tree_laws.proofs.MadeBy.{MadeAt, made_stays}
use Rattle.dcm_tree_laws.proofs.OutputsBy.{Still, then_stays}
use Rattle.dcm_tree_laws.proofs.Steps.{idle, no_step}
use Rattle.dcm_tree_laws.proofs.Sure as sures
use Rattle.dcm_tree_laws.proofs.UnnamedMade.{ends_unwritten}
use Rattle.dcm_tree_laws.proofs.Written.{IsIdle, more, is_ready}
use Rattle.dcm_tree_laws.proofs.Working.{working_also, working_can, IsOpened, is_opened, HasDone, job_done, job_found, instance_found}
use Rattle.dcm_tree_laws.proofs.Works as works

-- ---- other rows

done_not : (unplaced : ℕ) → verdict_fate (verdicts.Done unplaced) ≡ fates.There → ⊥
done_not zero e = absurd (cc)
done_not (suc n) e = absurd (cc)

pub verdict_not : (verdict : Verdict) → verdict_fate verdict ≡ fates.There → ⊥
verdict_not (verdicts.Done unplaced) e = done_not unplaced e
verdict_not verdicts.PixelsMayShow e = absurd (cc)
verdict_not (verdicts.Refused stop) e = absurd (cc)
verdict_not (verdicts.RefusedLine stop) e = absurd (cc)

met_there : (alike : Bool) → is_there (met_fate alike) ≡ true
met_there true = refl
met_there false = refl

never : {A : Type 0} (alike : Bool) (done : Done) (fate : Fate) → done ≡ without_name fate → is_there fate ≡ false → done.fate ≡ met_fate alike → A
never {A} alike done fate is not there = true_false {A = A} (is_there (met_fate alike)) (met_there alike) (ap is_there (sym there ∙ ap (λ (d : Done). d.fate) is) ∙ not)

done_there : (unplaced : ℕ) → is_there (verdict_fate (verdicts.Done unplaced)) ≡ false
done_there zero = refl
done_there (suc n) = refl

verdict_there : (verdict : Verdict) → is_there (verdict_fate verdict) ≡ false
verdict_there (verdicts.Done unplaced) = done_there unplaced
verdict_there verdicts.PixelsMayShow = refl
verdict_there (verdicts.Refused stop) = refl
verdict_there (verdicts.RefusedLine stop) = refl

ending_not : (ending : Ending) → is_there (ending_fate ending) ≡ false
ending_not (Worked verdict) = verdict_there verdict
ending_not (Unread count) = refl
ending_not Output = refl

instance_not : (cause : NoInstance) → is_there (no_instance_fate cause) ≡ false
instance_not no_instances.Unread = refl
instance_not (no_instances.Unfit uid) = refl

days_not : (cause : NoDays) → is_there (no_days_fate cause) ≡ false
days_not (days.Refused stop) = refl
days_not (days.Unread count) = refl
days_not days.Unopened = refl

named_as : (relative : List ℕ) (done : Done) (items : ArrayVec ℕ) (name : List ℕ) → done.instance ≡ Some items → items.items ≡ name → name_in relative done.instance ≡ name
named_as relative done items name is rel = ap (name_in relative) is ∙ rel

-- ---- it was there

-- what is written of a file names an instance, and a file that was met is at the path of that
pub record MetAs {I O : Type 0} (h : Host I O) (alike : Bool) (task : Task) (part output file_bytes : List ℕ) (done : Done) (t : Tree) : Type 0 where
  pub uids : Uids
  pub bytes : List ℕ
  pub verdict : Verdict
  pub comes : ComesTo task file_bytes bytes verdict
  pub done_is : is_written (verdict_fate verdict) ≡ true
  pub names : FileNames bytes (Ok uids)
  pub named : IsNamedBy uids done
  pub at : MadeAt h (λ mode its. MetBytes alike bytes its) part output (instance_name uids) t

pub met_stays : {I O : Type 0} (h : Host I O) (alike : Bool) (task : Task) (part output file_bytes : List ℕ) (done : Done) (t u : Tree) → Stays h part output t u → MetAs h alike task part output file_bytes done t → MetAs h alike task part output file_bytes done u
met_stays h alike task part output file_bytes done t u stays x = record {
  uids = x.uids;
  bytes = x.bytes;
  verdict = x.verdict;
  comes = x.comes;
  done_is = x.done_is;
  names = x.names;
  named = x.named;
  at = made_stays h (λ mode its. MetBytes alike x.bytes its) part output (instance_name x.uids) t u stays x.at;
}

-- where it is the same, it is a copy
pub met_copy : {I O : Type 0} (h : Host I O) (task : Task) (part output file_bytes : List ℕ) (done : Done) (t : Tree) → MetAs h true task part output file_bytes done t → CopyMade h task part output file_bytes done t
met_copy h task part output file_bytes done t x = record { uids = x.uids; bytes = x.bytes; verdict = x.verdict; comes = x.comes; done_is = x.done_is; names = x.names; named = x.named; at = x.at }

module _ {I O E : Type 0} (F : Type 0) (h : Host I O) (r : Reader I) (w : Writer O) (e : Writer E) (all : GivesAll h (as_whole h r) w) (m : Manner) (of_output : IsNear m.output m.part) (leads : h.leads Followed m.part ≡ place_of h m.part) (first : Tree) (follows : FollowsLinks h first) (alike : Bool) where
  -- the row of a name is elsewhere than the part
  abbrev Elsewhere : (relative : List ℕ) → Done → Type 0
  Elsewhere relative done = place_of h (below m.output (name_in relative done.instance)) ≢ place_of h m.part

  path_leads : (path : List ℕ) (start : FileSystem) → Still h m.part first start.now → place_of h path ≢ place_of h m.part → (u : FileSystem) → Stays h m.part m.output start.now u.now → IsAt h kinds.File u.now path → h.leads Followed path ≡ place_of h path
  path_leads path start still apart u stays at =
      follows path (λ f is. no_link (at_path h u.now path) at.found f at.is at.kind_is ((then_stays h m.part m.output first start.now u.now still stays).there (place_of h path) f apart is))

  met_by : (name relative held task_bytes : List ℕ) (verdict : Verdict) (i : Instance) (fate : Fate) (from : E) (start s : FileSystem) (done : Done) (to : E) (after : FileSystem) → Still h m.part first start.now → IsUtf8 m.part → ComesTo m.task task_bytes held verdict → is_written (verdict_fate verdict) ≡ true
      → FileNames held (Ok (uids_of i)) → IsReady h (λ mode bytes. bytes ≡ held) m.part m.output held start s → is_written fate ≡ true → NamesBy (working {F = F} h r w e) m name i fate from s done to after → done.fate ≡ met_fate alike → Elsewhere relative done
      → MetAs h alike m.task m.part m.output task_bytes done after.now
  met_by name relative held task_bytes verdict i fate from start s done to after still text comes written names is_whole fate_written (instance.too_long none removes told is) there apart = never alike done fates.Unwritten is refl there
  met_by name relative held task_bytes verdict i fate from start s done to after still text comes written names is_whole fate_written (instance.placed path became items at p rel d) there apart =
      let own : path ≡ below m.output (name_of_instance i) = path_is m.output (name_of_instance i) path at in
      let elsewhere : place_of h (below m.output (name_of_instance i)) ≢ place_of h m.part =
      subst (λ (x : List ℕ). place_of h (below m.output x) ≢ place_of h m.part) (named_as relative done items (name_of_instance i) (ap (λ (x : Done). x.instance) d) rel) apart in
      record {
        uids = uids_of i;
        bytes = held;
        verdict = verdict;
        comes = comes;
        done_is = written;
        names = names;
        named = record { relative = items; instance_is = ap (λ (x : Done). x.instance) d; relative_is = rel };
        at = placed_met F h r w e all m text leads alike name (name_of_instance i) held fate from start s became to after (chosen_some (nat_le (length (below m.output (name_of_instance i))) PATH_LIMIT) (below m.output (name_of_instance i)) path at) is_whole elsewhere
            (path_leads (below m.output (name_of_instance i)) start still elsewhere) fate_written (sym (ap (λ (x : Done). x.fate) d) ∙ there)
            (subst (λ (x : List ℕ). PlacesPart (working {F = F} h r w e) m name x fate from s became to after) own p);
      }

  met_named : (name relative held task_bytes : List ℕ) (verdict : Verdict) (fate : Fate) (from : E) (start s : FileSystem) (done : Done) (to : E) (after : FileSystem) → Still h m.part first start.now → IsUtf8 m.part → ComesTo m.task task_bytes held verdict → is_written (verdict_fate verdict) ≡ true
      → IsReady h (λ mode bytes. bytes ≡ held) m.part m.output held start s → is_written fate ≡ true → NamesPart (working {F = F} h r w e) m name fate from s done to after → done.fate ≡ met_fate alike → Elsewhere relative done
      → MetAs h alike m.task m.part m.output task_bytes done after.now
  met_named name relative held task_bytes verdict fate from start s done to after still text comes written is_whole fate_written (instance.no_instance cause read finds removes told is) there apart = never alike done (no_instance_fate cause) is (instance_not cause) there
  met_named name relative held task_bytes verdict fate from start s done to after still text comes written is_whole fate_written (instance.has_instance i read finds n) there apart =
      let part : Ready h (λ mode bytes. bytes ≡ held) m.part s.now = ready is_whole in
      let names : FileNames held (Ok (uids_of i)) = subst (λ (b : List ℕ). FileNames b (Ok (uids_of i))) part.done (instance_found h r w all m.part s (Ok i) read text (followed h s.now m.part part.file leads part.is part.kind) finds) in
      let same : read ≡ s = jobs.finds_instance h (as_whole h r) m.part s (Ok i) read (works.finds_instance (working_may h r w (may_do h)) (may_do h) (working_also h r w) (as_whole h r) m.part s (Ok i) read finds) in
      met_by name relative held task_bytes verdict i fate from start s done to after still text comes written names is_whole fate_written (subst (λ (t : FileSystem). NamesBy (working {F = F} h r w e) m name i fate from t done to after) same n) there apart

  met_filled : (job : Job) (name relative : List ℕ) (mode : ℕ) (input : I) (output : O) (held : List ℕ) (from : E) (opened made : FileSystem) (done : Done) (to : E) (after : FileSystem) → Still h m.part first opened.now → opened.written ≡ None
      → MakesPart (working_folders h (sure (folders_do {F = F} h))) m.part mode opened (Ok output) made → r.has_failed input ≡ false → h.holds input ≡ held → IsJobOf m.task held job
      → FillsByInstance (working {F = F} h r w e) job m name input output from made done to after → done.fate ≡ met_fate alike → Elsewhere relative done → MetAs h alike m.task m.part m.output held done after.now
  met_filled job name relative mode input output held from opened made done to after still none makes sound holds of_job (instance.not_done ending was_filled f not told removes is) there apart = never alike done (ending_fate ending) is (ending_not ending) there
  met_filled job name relative mode input output held from opened made done to after still none makes sound holds of_job (instance.has_done ending was_filled told f is reports names) there apart =
      let part : NewPart h m.part mode opened output made = new_part {F = F} h m.part mode opened output made makes in
      let d : HasDone job held (h.took f.written) ending = subst (λ (b : List ℕ). HasDone job b (h.took f.written) ending) holds (job_done h r w all job input output made ending was_filled sound part.new f) in
      let IsHeld : ℕ → List ℕ → Type 0 = λ kind bytes. bytes ≡ h.took f.written in
      let began : IsIdle h IsHeld m.part m.output idle opened opened = record { none = none; of_output = of_output; steps = no_step refl refl } in
      let is_whole : IsReady h IsHeld m.part m.output (h.took f.written) opened was_filled =
      is_ready (h.took f.written)
      (more (more began (part_is_made {F = F} h IsHeld m.part m.output mode opened output made (sures.makes_part (working_folders h (sure (folders_do {F = F} h))) (folders_do {F = F} h) (working_can {F = F} h) m.part mode opened (Ok output) made makes)))
      (is_filled_as h IsHeld (as_whole h r) w m.part m.output (h.masked mode) job input output made ending was_filled (works.fills (working_may h r w (may_do h)) (may_do h) (working_also h r w) (as_whole h r) w job input output made ending was_filled f) is refl)) in
      met_named name relative (h.took f.written) held d.verdict (ending_fate ending) told opened was_filled done to after still part.text (record { job = job; is_job = of_job; answered = d.answered })
      (sym (ap (λ (x : Ending). is_written (ending_fate x)) d.is) ∙ is) is_whole is names there apart

  met_ready : (job : Job) (n : Named) (mode : ℕ) (from : E) (s : FileSystem) (result : Result Done RunStop) (to : E) (after : FileSystem) (done : Done) → Still h m.part first s.now → s.written ≡ None → IsUtf8 n.path → (f : FileAt h Followed s.now n.path) → IsJobOf m.task (s.now.bytes (number_of f.file)) job
      → DoesByInstance (working {F = F} h r w e) job m n mode from s result to after → result ≡ Ok done → done.fate ≡ met_fate alike → Elsewhere n.relative done → MetAs h alike m.task m.part m.output (s.now.bytes (number_of f.file)) done after.now
  met_ready job n mode from s result to after done still none text f of_job (instance.not_opened opens told is) ok there apart = never alike done fates.Unread (same_ok result (without_name fates.Unread) done is ok) refl there
  met_ready job n mode from s result to after done still none text f of_job (instance.no_part input cause opened tried opens makes back tells) ok there apart =
      never alike done fates.Unwritten (ends_unwritten e n.name cause from result to done tells ok) refl there
  met_ready job n mode from s result to after done still none text f of_job (instance.filled input output became opened made opens makes fills is) ok there apart =
      let same : done ≡ became = same_ok result became done is ok in
      let o : IsOpened h r (s.now.bytes (number_of f.file)) input s opened = is_opened h r w n.path s input opened text f opens in
      subst (λ (d : Done). MetAs h alike m.task m.part m.output (s.now.bytes (number_of f.file)) d after.now) (sym same)
      (met_filled job n.name n.relative mode input output (s.now.bytes (number_of f.file)) from opened made became to after (subst (λ (t : FileSystem). Still h m.part first t.now) (sym o.same) still) (ap (λ (t : FileSystem). t.written) o.same ∙ none) makes o.sound o.holds of_job fills
      (sym (ap (λ (d : Done). d.fate) same) ∙ there) (subst (Elsewhere n.relative) same apart))

  pub met_unnamed : (n : Named) (mode : ℕ) (from : E) (s : FileSystem) (result : Result Done RunStop) (to : E) (after : FileSystem) (done : Done) → Still h m.part first s.now → s.written ≡ None → IsUtf8 n.path → (f : FileAt h Followed s.now n.path)
      → DoesUnnamed (working {F = F} h r w e) m n mode from s result to after → result ≡ Ok done → done.fate ≡ met_fate alike → Elsewhere n.relative done → MetAs h alike m.task m.part m.output (s.now.bytes (number_of f.file)) done after.now
  met_unnamed n mode from s result to after done still none text f (instance.no_days cause finds told is) ok there apart = never alike done (no_days_fate cause) (same_ok result (without_name (no_days_fate cause)) done is ok) (days_not cause) there
  met_unnamed n mode from s result to after done still none text f (instance.has_job job mid finds does) ok there apart =
      let same : mid ≡ s = jobs.finds_job h (as_whole h r) m.task n.path s (Ok job) mid (works.finds_job (working_may h r w (may_do h)) (may_do h) (working_also h r w) (as_whole h r) m.task n.path s (Ok job) mid finds) in
      met_ready job n mode from s result to after done still none text f (job_found h r w all m.task n.path s (Ok job) mid text f finds) (subst (λ (t : FileSystem). DoesByInstance (working {F = F} h r w e) job m n mode from t result to after) same does) ok there apart
