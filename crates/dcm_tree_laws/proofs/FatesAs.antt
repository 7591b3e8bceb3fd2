-- What a file comes to whose output is named by the instance in it, where no call fails that need not.
use Rattle.std.proofs.Common.{◌≡◌, ◌∙◌, refl, sym, ap, subst, ℕ, ◌+◌, List, length, true, false, Some, None, Result, Ok, Err}
use Rattle.std.specs.Prelude.{[]}
use Rattle.std.specs.Str.{IsUtf8}
use Rattle.arrayvec.specs.ArrayVec.{ArrayVec}
use Rattle.dcm_lemmas.proofs.Truth.{true_false}
use Rattle.dcm_devices.specs.Writing.{Writer}
use Rattle.dcm_files.specs.declared.folders.Links.TheVariants.{Followed}
use Rattle.dcm_instance.specs.declared.names.Instance.{Instance}
use Rattle.dcm_instance.specs.declared.names.NoInstance.{NoInstance}
use Rattle.dcm_instance.specs.ReadInstance.{FileNames}
use Rattle.dcm_instance.specs.Uids.{Uids, instance_name, uids_of}
use Rattle.dcm_walk.specs.Names.{below}
use Rattle.dcm_walk.specs.Visits.{Named}
use Rattle.dcm_walk.specs.declared.visitor.What.TheVariants.{File}
use Rattle.dcm_words.specs.Words.{Job}
use Rattle.dcm_cli.specs.Calls.{Reader}
use Rattle.dcm_cli.specs.declared.ending.Ending.{Ending}
use Rattle.dcm_cli.specs.declared.ending.Verdict.{Verdict}
use Rattle.dcm_trees.specs.declared.fate.Fate.{Fate}
use Rattle.dcm_trees.specs.declared.file.Done.{Done}
use Rattle.dcm_trees.specs.declared.part.Naming.{Naming}
use Rattle.dcm_trees.specs.declared.part.Naming.TheVariants.{Linked}
use Rattle.dcm_trees.specs.declared.part.NoPart.{NoPart}
use Rattle.dcm_trees.specs.declared.progress.Stop.{Stop as RunStop}
use Rattle.dcm_trees.specs.declared.task.NoDays.{NoDays}
use Rattle.dcm_trees.specs.declared.task.NoDays.TheVariants as no_days
use Rattle.dcm_trees.specs.Fate.{is_written}
use Rattle.dcm_trees.specs.File as files
use Rattle.dcm_trees.specs.File.{DoesFile, DoesName, is_media_index}
use Rattle.dcm_trees.specs.Instance as instance
use Rattle.dcm_trees.specs.Instance.{GivesFreeName, PlacesPart, NamesBy, NamesPart, FillsByInstance, EndsWithoutPart, DoesByInstance, DoesUnnamed, name_of_instance, without_name}
use Rattle.dcm_trees.specs.Lines.{ending_fate, verdict_fate, no_days_fate}
use Rattle.dcm_trees.specs.Manner.{Manner}
use Rattle.dcm_trees.specs.Part.{MakesPart, TellsNoPart, naming_fate}
use Rattle.dcm_trees.specs.Part as parts
use Rattle.dcm_trees.specs.Place.{is_free}
use Rattle.dcm_trees.specs.Task.{Task}
use Rattle.dcm_tree_laws.specs.Again.{sure}
use Rattle.dcm_tree_laws.specs.Determined.{working_may, as_whole, working, ComesTo}
use Rattle.dcm_tree_laws.specs.FileSystem.{FileSystem, Tree, Host, number_of, place_of, may_do, folders_do}
use Rattle.dcm_tree_laws.specs.Single.{IsJobOf}
use Rattle.dcm_tree_laws.proofs.Near.{IsNear}
use Rattle.dcm_tree_laws.specs.Together.{IsFree, NamesInstance}
use Rattle.dcm_tree_laws.proofs.Ends.{comes_once, one_instance, has_days}
use Rattle.dcm_tree_laws.proofs.Fates.{Works, Frees, IsHere, as_any, finds_free, gets_name, then_free, part_not}
use Rattle.dcm_tree_laws.proofs.Files.{path_is}
use Rattle.dcm_tree_laws.proofs.Filling.{part_is_made, part_is_new, is_filled_as}
use Rattle.dcm_tree_laws.proofs.Held.{GivesAll}
use Rattle.dcm_tree_laws.proofs.Jobs.{finds_job, finds_instance}
use Rattle.dcm_tree_laws.proofs.Left.{sure_quiet, too_long}
use Rattle.dcm_tree_laws.proofs.Looking.{finds, same_ok}
use Rattle.dcm_tree_laws.proofs.Steps.{no_step, quiet}
use Rattle.dcm_tree_laws.proofs.Sure as sures
use Rattle.dcm_tree_laws.proofs.Touched.{made_part, filled, no_done}
use Rattle.dcm_tree_laws.proofs.WholePart.{IsReady, Ready, ready, then_steps}
use Rattle.dcm_tree_laws.proofs.Working.{working_also, working_sure, working_can, not_unopened, is_opened, IsOpened, job_found, JobIs, job_done, HasDone, instance_found}
use Rattle.dcm_tree_laws.proofs.Works as works
use Rattle.dcm_tree_laws.proofs.Written.{is_ready, more}

-- ---- one instance

same_uids : (x y : Result Uids NoInstance) (a b : Uids) → x ≡ Ok a → y ≡ Ok b → x ≡ y → a ≡ b
same_uids x y a b e f g = cc

no_uids : {A : Type 0} (x y : Result Uids NoInstance) (cause : NoInstance) (a : Uids) → x ≡ Err cause → y ≡ Ok a → x ≡ y → A
no_uids x y cause a e f g = absurd (cc)

pub names_once : (task : Task) (bytes out other : List ℕ) (a b : Uids) → NamesInstance task bytes out a → NamesInstance task bytes other b → (out ≡ other) × (a ≡ b)
names_once task bytes out other a b x y =
    let same : (out ≡ other) × (x.verdict ≡ y.verdict) = comes_once task bytes out other x.verdict y.verdict x.comes y.comes in
    (same.0, same_uids (Ok a) (Ok b) a b refl refl (one_instance other (Ok a) (Ok b) (subst (λ (z : List ℕ). FileNames z (Ok a)) same.0 x.names) y.names))

-- ---- what a file comes to

-- its output has no name, and could not have one that is free; or it has that of its instance, and is written where that is free
pub data EndsNamed {I O : Type 0} (h : Host I O) (k : Manner) (bytes : List ℕ) (before : Tree) (done : Done) : Type 0 where
  nameless : done.instance ≡ None → ((out : List ℕ) (uids : Uids) → NamesInstance k.task bytes out uids → IsFree h k.output (instance_name uids) before → ⊥) → EndsNamed h k bytes before done
  by_instance : (relative : ArrayVec ℕ) (out : List ℕ) (uids : Uids) → done.instance ≡ Some relative → NamesInstance k.task bytes out uids → relative.items ≡ instance_name uids
      → (IsFree h k.output (instance_name uids) before → Frees h k (instance_name uids) → is_written done.fate ≡ true) → EndsNamed h k bytes before done

no_days_as : {I O : Type 0} (h : Host I O) (k : Manner) (bytes : List ℕ) (before : Tree) (done : Done) (cause : NoDays) → done ≡ without_name (no_days_fate cause) → JobIs k.task bytes (Err cause) → EndsNamed h k bytes before done
no_days_as h k bytes before done (no_days.Refused stop) is none = nameless (ap (λ (x : Done). x.instance) is) (λ out uids its free. has_days k.task bytes its.comes.job stop its.comes.is_job none)
no_days_as h k bytes before done (no_days.Unread count) is none = absurd none
no_days_as h k bytes before done no_days.Unopened is none = absurd none

-- since a state before
earlier_named : {I O : Type 0} (h : Host I O) (k : Manner) (bytes : List ℕ) (t u : FileSystem) (done : Done) → u ≡ t → EndsNamed h k bytes u.now done → EndsNamed h k bytes t.now done
earlier_named h k bytes t u done same ends = subst (λ (s : FileSystem). EndsNamed h k bytes s.now done) same ends

module _ {I O F : Type 0} (h : Host I O) (r : Reader I) (w : Writer O) (k : Manner) (part_text : IsUtf8 k.part) where
  -- the part gets its name where that is free
  pub links : (IsWhole : ℕ → List ℕ → Type 0) (path relative bytes : List ℕ) → path ≡ below k.output relative → Frees h k relative → (start before : FileSystem) (naming : Naming) (after : FileSystem) → IsReady h IsWhole k.part k.output bytes start before → IsFree h k.output relative before.now
      → GivesFreeName (working_may h r w (may_do h)) (Works {F = F} h) k.modes k.part path (length k.output + 1) before naming after → naming ≡ Linked
  links IsWhole path relative bytes is clear start before naming after i free (instance.not_free place f nf n) =
      true_false (is_free place) (finds_free {F = F} h k.output relative path is before place after free (sures.finds (Works {F = F} h) (sure (folders_do {F = F} h)) (working_sure {F = F} h).sees path (length k.output + 1) before place after f)) nf
  links IsWhole path relative bytes is clear start before naming after i free (instance.free place looked f nf g) =
      let same : looked ≡ before = finds (sure (folders_do {F = F} h)) (sure_quiet h) path (length k.output + 1) before place looked (sures.finds (Works {F = F} h) (sure (folders_do {F = F} h)) (working_sure {F = F} h).sees path (length k.output + 1) before place looked f) in
      gets_name {F = F} h r w k relative path bytes is clear part_text IsWhole start looked naming after (then_steps i (quiet same)) (subst (λ (s : FileSystem). IsFree h k.output relative s.now) (sym same) free) g

-- ---- a file

module _ {I O F E : Type 0} (h : Host I O) (r : Reader I) (w : Writer O) (e : Writer E) (all : GivesAll h (as_whole h r) w) (k : Manner) (part_text : IsUtf8 k.part) (of_output : IsNear k.output k.part) (leads : h.leads Followed k.part ≡ place_of h k.part) where
  by_name : (IsWhole : ℕ → List ℕ → Type 0) (name bytes out : List ℕ) (i : Instance) (fate : Fate) (from : E) (first start before : FileSystem) (done : Done) (to : E) (after : FileSystem) → NamesInstance k.task bytes out (uids_of i) → is_written fate ≡ true
      → IsReady h IsWhole k.part k.output out start before → (IsFree h k.output (name_of_instance i) first.now → Frees h k (name_of_instance i) → IsFree h k.output (name_of_instance i) before.now)
      → NamesBy (working {F = F} h r w e) k name i fate from before done to after → EndsNamed h k bytes first.now done
  by_name IsWhole name bytes out i fate from first start before done to after its written ready_now then (instance.too_long none gone told d) =
      nameless (ap (λ (x : Done). x.instance) d) (λ other uids names free. too_long k.output (name_of_instance i)
      (subst (λ (u : Uids). IsFree h k.output (instance_name u) first.now) (sym (names_once k.task bytes out other (uids_of i) uids its names).1) free).fits none)
  by_name IsWhole name bytes out i fate from first start before done to after its written ready_now then (instance.placed path became relative at p rel d) =
      by_instance relative out (uids_of i) (ap (λ (x : Done). x.instance) d) its rel (λ free clear.
      let linked : p.naming ≡ Linked = links {F = F} h r w k part_text IsWhole path (name_of_instance i) out (path_is k.output (name_of_instance i) path at) clear start before p.naming p.named ready_now (then free clear) p.gives in
      ap (λ (x : Done). is_written x.fate) d ∙ ap is_written (p.becomes ∙ ap (λ (x : Naming). naming_fate x fate p.same) linked) ∙ written)

  named_part : (name bytes out : List ℕ) (fate : Fate) (from : E) (first start before : FileSystem) (done : Done) (to : E) (after : FileSystem) (verdict : Verdict) → ComesTo k.task bytes out verdict → is_written (verdict_fate verdict) ≡ true → is_written fate ≡ true
      → IsReady h (λ mode held. held ≡ out) k.part k.output out start before → ((relative : List ℕ) → IsFree h k.output relative first.now → Frees h k relative → IsFree h k.output relative before.now)
      → NamesPart (working {F = F} h r w e) k name fate from before done to after → EndsNamed h k bytes first.now done
  named_part name bytes out fate from first start before done to after verdict comes was written ready_now then (instance.no_instance cause read finds_it gone told d) =
      let it : Ready h (λ mode held. held ≡ out) k.part before.now = ready ready_now in
      let names : FileNames out (Err cause) = subst (λ (z : List ℕ). FileNames z (Err cause)) it.done
      (instance_found h r w all k.part before (Err cause) read part_text (record { file = it.file; is = ap before.now.at leads ∙ it.is; kind = it.kind }) finds_it) in
      nameless (ap (λ (x : Done). x.instance) d) (λ other uids its free.
      let same : (out ≡ other) × (verdict ≡ its.verdict) = comes_once k.task bytes out other verdict its.verdict comes its.comes in
      no_uids (Err cause) (Ok uids) cause uids refl refl (one_instance other (Err cause) (Ok uids) (subst (λ (z : List ℕ). FileNames z (Err cause)) same.0 names) its.names))
  named_part name bytes out fate from first start before done to after verdict comes was written ready_now then (instance.has_instance i read finds_it n) =
      let it : Ready h (λ mode held. held ≡ out) k.part before.now = ready ready_now in
      let names : FileNames out (Ok (uids_of i)) = subst (λ (z : List ℕ). FileNames z (Ok (uids_of i))) it.done
      (instance_found h r w all k.part before (Ok i) read part_text (record { file = it.file; is = ap before.now.at leads ∙ it.is; kind = it.kind }) finds_it) in
      let same : read ≡ before = finds_instance h (as_whole h r) k.part before (Ok i) read (works.finds_instance (working_may h r w (may_do h)) (may_do h) (working_also h r w) (as_whole h r) k.part before (Ok i) read finds_it) in
      by_name (λ mode held. held ≡ out) name bytes out i fate from first start read done to after (record { verdict = verdict; comes = comes; written = was; names = names }) written (then_steps ready_now (quiet same))
      (λ free clear. subst (λ (s : FileSystem). IsFree h k.output (name_of_instance i) s.now) (sym same) (then (name_of_instance i) free clear)) n

  filled_as : (job : Job) (name bytes : List ℕ) (mode : ℕ) (input : I) (output : O) → r.has_failed input ≡ false → h.holds input ≡ bytes → IsJobOf k.task bytes job → (from : E) (opened made : FileSystem) (done : Done) (to : E) (after : FileSystem) → opened.written ≡ None
      → MakesPart (folders_do {F = F} h) k.part mode opened (Ok output) made → FillsByInstance (working {F = F} h r w e) job k name input output from made done to after → EndsNamed h k bytes opened.now done
  filled_as job name bytes mode input output sound holds is_job from opened made done to after none makes (instance.not_done ending was_filled f not told gone x) =
      let d : HasDone job bytes (h.took f.written) ending = subst (λ (b : List ℕ). HasDone job b (h.took f.written) ending) holds (job_done h r w all job input output made ending was_filled sound (part_is_new {F = F} h k.part mode opened output made makes) f) in
      nameless (ap (λ (y : Done). y.instance) x) (λ other uids its free.
      let same : (h.took f.written ≡ other) × (d.verdict ≡ its.verdict) = comes_once k.task bytes (h.took f.written) other d.verdict its.verdict (record { job = job; is_job = is_job; answered = d.answered }) its.comes in
      true_false (is_written (verdict_fate its.verdict)) its.written (sym (ap (λ (v : Verdict). is_written (verdict_fate v)) same.1) ∙ sym (ap (λ (y : Ending). is_written (ending_fate y)) d.is) ∙ not))
  filled_as job name bytes mode input output sound holds is_job from opened made done to after none makes (instance.has_done ending was_filled told f was reports names) =
      let new : h.took output ≡ [] = part_is_new {F = F} h k.part mode opened output made makes in
      let d : HasDone job bytes (h.took f.written) ending = subst (λ (b : List ℕ). HasDone job b (h.took f.written) ending) holds (job_done h r w all job input output made ending was_filled sound new f) in
      let over = as_any h r w job input output made ending was_filled f in
      let ready_now : IsReady h (λ mode held. held ≡ h.took f.written) k.part k.output (h.took f.written) opened was_filled = is_ready (h.took f.written)
      (more (more (record { none = none; of_output = of_output; steps = no_step refl refl }) (part_is_made {F = F} h (λ mode held. held ≡ h.took f.written) k.part k.output mode opened output made makes))
      (is_filled_as h (λ mode held. held ≡ h.took f.written) (as_whole h r) w k.part k.output (h.masked mode) job input output made ending was_filled over was refl)) in
      named_part name bytes (h.took f.written) (ending_fate ending) told opened opened was_filled done to after d.verdict (record { job = job; is_job = is_job; answered = d.answered })
      (sym (ap (λ (y : Ending). is_written (ending_fate y)) d.is) ∙ was) was ready_now
      (λ relative free clear. then_free h k relative clear made.now was_filled.now (filled h (as_whole h r) w k relative job input output made ending was_filled ⊥ over)
      (then_free h k relative clear opened.now made.now (made_part {F = F} h k.part k.output relative ⊥ mode opened output made makes) free)) names

  pub no_part_as : {A : Type 0} (name : List ℕ) (mode : ℕ) (before : FileSystem) (cause : NoPart) (tried : FileSystem) (from : E) (result : Result Done RunStop) (to : E) (done : Done) → MakesPart (Works {F = F} h) k.part mode before (Err cause) tried → EndsWithoutPart e name cause from result to → result ≡ Ok done → A
  no_part_as name mode before cause tried from result to done makes (instance.ended became (parts.ends_run p c t is) x) ok = absurd (no_done result p done (x ∙ ap instance.unnamed is) ok)
  no_part_as name mode before cause tried from result to done makes (instance.ended became (parts.told c t is) x) ok = absurd (part_not {F = F} h k.part mode before cause tried part_text makes c)

  made_as : (job : Job) (n : Named) (bytes : List ℕ) (mode : ℕ) (from : E) (before : FileSystem) (result : Result Done RunStop) (to : E) (after : FileSystem) (done : Done) → before.written ≡ None → IsUtf8 n.path → IsHere h n.path bytes before.now → IsJobOf k.task bytes job
      → DoesByInstance (working {F = F} h r w e) job k n mode from before result to after → result ≡ Ok done → EndsNamed h k bytes before.now done
  made_as job n bytes mode from before result to after done none text here is_job (instance.not_opened opens told x) ok = not_unopened h r w n.path before after text here.file opens
  made_as job n bytes mode from before result to after done none text here is_job (instance.no_part input cause opened tried opens makes back ends) ok = no_part_as n.name mode opened cause tried from result to done makes ends ok
  made_as job n bytes mode from before result to after done none text here is_job (instance.filled input output became opened made opens makes f x) ok =
      let o : IsOpened h r (before.now.bytes (number_of here.file.file)) input before opened = is_opened h r w n.path before input opened text here.file opens in
      subst (EndsNamed h k bytes before.now) (sym (same_ok result became done x ok))
      (earlier_named h k bytes before opened became o.same
      (filled_as job n.name bytes mode input output o.sound (o.holds ∙ here.bytes_are) is_job from opened made became to after (subst (λ (s : FileSystem). s.written ≡ None) (sym o.same) none)
      (sures.makes_part (Works {F = F} h) (folders_do {F = F} h) (working_can h) k.part mode opened (Ok output) made makes) f))

  unnamed_as : (n : Named) (bytes : List ℕ) (mode : ℕ) (from : E) (before : FileSystem) (result : Result Done RunStop) (to : E) (after : FileSystem) (done : Done) → before.written ≡ None → IsUtf8 n.path → IsHere h n.path bytes before.now
      → DoesUnnamed (working {F = F} h r w e) k n mode from before result to after → result ≡ Ok done → EndsNamed h k bytes before.now done
  unnamed_as n bytes mode from before result to after done none text here (instance.no_days cause f told x) ok =
      no_days_as h k bytes before.now done cause (same_ok result (without_name (no_days_fate cause)) done x ok) (subst (λ (b : List ℕ). JobIs k.task b (Err cause)) here.bytes_are (job_found h r w all k.task n.path before (Err cause) after text here.file f))
  unnamed_as n bytes mode from before result to after done none text here (instance.has_job job mid f does) ok =
      let same : mid ≡ before = finds_job h (as_whole h r) k.task n.path before (Ok job) mid (works.finds_job (working_may h r w (may_do h)) (may_do h) (working_also h r w) (as_whole h r) k.task n.path before (Ok job) mid f) in
      earlier_named h k bytes before mid done same
      (made_as job n bytes mode from mid result to after done (subst (λ (s : FileSystem). s.written ≡ None) (sym same) none) text (subst (λ (s : FileSystem). IsHere h n.path bytes s.now) (sym same) here)
      (subst (λ (b : List ℕ). JobIs k.task b (Ok job)) here.bytes_are (job_found h r w all k.task n.path before (Ok job) mid text here.file f)) does ok)

  file_named : (n : Named) (bytes : List ℕ) (mode : ℕ) (from : E) (before : FileSystem) (result : Result Done RunStop) (to : E) (after : FileSystem) (done : Done) → k.keeps_names ≡ false → is_media_index n.relative ≡ false → before.written ≡ None → IsUtf8 n.path → IsHere h n.path bytes before.now
      → DoesFile (working {F = F} h r w e) k n mode from before result to after → result ≡ Ok done → EndsNamed h k bytes before.now done
  file_named n bytes mode from before result to after done not no_index none text here (files.an_index index told x same) ok = true_false (is_media_index n.relative) index no_index
  file_named n bytes mode from before result to after done not no_index none text here (files.keeps_name became index kept does x) ok = true_false k.keeps_names kept not
  file_named n bytes mode from before result to after done not no_index none text here (files.by_instance index other does) ok = unnamed_as n bytes mode from before result to after done none text here does ok

  pub ends_named : (n : Named) (bytes : List ℕ) (mode : ℕ) (from : E) (before : FileSystem) (done : Done) (to : E) (after : FileSystem) → k.keeps_names ≡ false → is_media_index n.relative ≡ false → before.written ≡ None → IsUtf8 n.path → IsHere h n.path bytes before.now
      → DoesName (working {F = F} h r w e) k n (File mode) from before (Ok done) to after → EndsNamed h k bytes before.now done
  ends_named n bytes mode from before done to after not no_index none text here (files.a_file other is does) = file_named n bytes other from before (Ok done) to after done not no_index none text here does refl
  ends_named n bytes mode from before done to after not no_index none text here (files.no_file other told is same) = absurd (other mode refl)
