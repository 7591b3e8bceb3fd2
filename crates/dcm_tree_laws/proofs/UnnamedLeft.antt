-- A file that ends without a name does so again, and all is left as it was.
use Rattle.std.proofs.Common.{◌≡◌, ◌∙◌, refl, sym, ap, subst, ℕ, List, [], Bool, true, false, None, Result, Ok, Err}
use Rattle.std.specs.Str.{IsUtf8}
use Rattle.dcm_lemmas.proofs.Truth.{true_false}
use Rattle.dcm_devices.specs.Writing.{Writer}
use Rattle.dcm_files.specs.declared.folders.Links.TheVariants.{Followed}
use Rattle.dcm_instance.specs.declared.names.NoInstance.{NoInstance}
use Rattle.dcm_instance.specs.ReadInstance.{FileNames}
use Rattle.dcm_instance.specs.Uids.{Uids, uids_of}
use Rattle.dcm_walk.specs.Visits.{Named}
use Rattle.dcm_words.specs.Words.{Job}
use Rattle.dcm_cli.specs.Calls.{Reader}
use Rattle.dcm_cli.specs.declared.ending.Ending.{Ending}
use Rattle.dcm_cli.specs.declared.ending.Verdict.{Verdict}
use Rattle.dcm_trees.specs.declared.fate.Fate.{Fate}
use Rattle.dcm_trees.specs.declared.file.Done.{Done}
use Rattle.dcm_trees.specs.declared.progress.Stop.{Stop as RunStop}
use Rattle.dcm_trees.specs.declared.task.NoDays.{NoDays}
use Rattle.dcm_trees.specs.declared.task.NoDays.TheVariants as days
use Rattle.dcm_trees.specs.Fate.{is_written}
use Rattle.dcm_trees.specs.File as files
use Rattle.dcm_trees.specs.File.{DoesFile, is_media_index}
use Rattle.dcm_trees.specs.Instance as instance
use Rattle.dcm_trees.specs.Instance.{NamesPart, FillsByInstance, DoesByInstance, DoesUnnamed, without_name, no_instance_fate}
use Rattle.dcm_trees.specs.Lines.{ending_fate, verdict_fate, no_days_fate}
use Rattle.dcm_trees.specs.Manner.{Manner}
use Rattle.dcm_trees.specs.Part.{RemovesPart}
use Rattle.dcm_trees.specs.Task.{Task}
use Rattle.dcm_tree_laws.specs.Copies.{IsAsItWas, EndsUnnamed, no_days, not_done, no_instance, IsUnnamedAgain, UnnamedIsLeft}
use Rattle.dcm_tree_laws.specs.Determined.{FileAt, ComesTo, working_may, as_whole, working}
use Rattle.dcm_tree_laws.specs.FileSystem.{FileSystem, Host, number_of, place_of, at_path, may_do, MakesFile, ClosesOutput, Removes}
use Rattle.dcm_tree_laws.specs.Single.{IsJobOf}
use Rattle.dcm_tree_laws.proofs.CopyLeft.{WholeAt, whole_at, as_it_was, removed, followed, no_output, none_other}
use Rattle.dcm_tree_laws.proofs.Ends.{comes_once, one_instance, has_days}
use Rattle.dcm_tree_laws.proofs.Held.{GivesAll}
use Rattle.dcm_tree_laws.proofs.Jobs as jobs
use Rattle.dcm_tree_laws.proofs.Left.{same_mode}
use Rattle.dcm_tree_laws.proofs.Looking.{same_ok}
use Rattle.dcm_tree_laws.proofs.Working.{working_also, whole_gives, IsOpened, is_opened, not_unopened, JobIs, job_found, HasDone, job_done, PartMade, part_made, instance_found}
use Rattle.dcm_tree_laws.proofs.Works as works

-- ---- its fate is one

same_written : (v w : Verdict) (b : Bool) → v ≡ w → is_written (verdict_fate w) ≡ b → is_written (verdict_fate v) ≡ b
same_written v w b is written = ap (λ (x : Verdict). is_written (verdict_fate x)) is ∙ written

-- where it has no job
pub no_job_fate : (task : Task) (held : List ℕ) (fate : Fate) (cause : NoDays) → EndsUnnamed task held fate → JobIs task held (Err cause) → no_days_fate cause ≡ fate
no_job_fate task held fate (days.Refused stop) (no_days other none is) found = sym is
no_job_fate task held fate (days.Refused stop) (not_done output verdict x not is) found = has_days task held x.job stop x.is_job found
no_job_fate task held fate (days.Refused stop) (no_instance output verdict cause x done names is) found = has_days task held x.job stop x.is_job found
no_job_fate task held fate (days.Unread count) ends found = absurd found
no_job_fate task held fate days.Unopened ends found = absurd found

-- where that is not done
pub not_done_fate : (task : Task) (held out : List ℕ) (v : Verdict) (fate : Fate) → EndsUnnamed task held fate → ComesTo task held out v → is_written (verdict_fate v) ≡ false → verdict_fate v ≡ fate
not_done_fate task held out v fate (no_days stop none is) x not = has_days task held x.job stop x.is_job none
not_done_fate task held out v fate (not_done output verdict y no_one is) x not = ap verdict_fate (comes_once task held out output v verdict x y).1 ∙ sym is
not_done_fate task held out v fate (no_instance output verdict cause y done names is) x not =
    true_false (is_written (verdict_fate v)) (same_written v verdict true (comes_once task held out output v verdict x y).1 done) not

same_cause : (r : Result Uids NoInstance) (a b : NoInstance) → r ≡ Err a → r ≡ Err b → a ≡ b
same_cause r a b e f = cc

no_uids : {A : Type 0} (cause : NoInstance) (u : Uids) → Ok u ≡ Err cause → A
no_uids cause u e = absurd (cc)

-- where it names no instance
pub nameless_fate : (task : Task) (held out : List ℕ) (v : Verdict) (fate : Fate) (cause : NoInstance) → EndsUnnamed task held fate → ComesTo task held out v → is_written (verdict_fate v) ≡ true → FileNames out (Err cause) → no_instance_fate cause ≡ fate
nameless_fate task held out v fate cause (no_days stop none is) x written names = has_days task held x.job stop x.is_job none
nameless_fate task held out v fate cause (not_done output verdict y not is) x written names =
    true_false (is_written (verdict_fate v)) written (same_written v verdict false (comes_once task held out output v verdict x y).1 not)
nameless_fate task held out v fate cause (no_instance output verdict other y done others is) x written names =
    ap no_instance_fate (same_cause (Err cause) cause other refl (one_instance output (Err cause) (Err other) (subst (λ (b : List ℕ). FileNames b (Err cause)) (comes_once task held out output v verdict x y).0 names) others)) ∙ sym is

-- and it names none
pub no_name : {A : Type 0} (task : Task) (held out : List ℕ) (v : Verdict) (fate : Fate) (u : Uids) → EndsUnnamed task held fate → ComesTo task held out v → is_written (verdict_fate v) ≡ true → FileNames out (Ok u) → A
no_name task held out v fate u (no_days stop none is) x written names = has_days task held x.job stop x.is_job none
no_name task held out v fate u (not_done output verdict y not is) x written names =
    true_false (is_written (verdict_fate v)) written (same_written v verdict false (comes_once task held out output v verdict x y).1 not)
no_name task held out v fate u (no_instance output verdict other y done others is) x written names =
    no_uids other u (one_instance output (Ok u) (Err other) (subst (λ (b : List ℕ). FileNames b (Ok u)) (comes_once task held out output v verdict x y).0 names) others)

-- ---- it is done again

module _ {I O E : Type 0} (F : Type 0) (h : Host I O) (r : Reader I) (w : Writer O) (e : Writer E) (all : GivesAll h (as_whole h r) w) (m : Manner) (text : IsUtf8 m.part) (leads : h.leads Followed m.part ≡ place_of h m.part) where
  record IsUnnamed (fate : Fate) (before : FileSystem) (done : Done) (after : FileSystem) : Type 0 where
    row : done ≡ without_name fate
    same : IsAsItWas before.now after.now

  -- the part is whole, and is removed
  gone_again : (held : List ℕ) (before s read after : FileSystem) → at_path h before.now m.part ≡ None → WholeAt h m.part held before.now s.now → read ≡ s → after.unremoved ≡ false → RemovesPart (working_may h r w (may_do h)) m.part read after → IsAsItWas before.now after.now
  gone_again held before s read after none whole same gone removes =
      as_it_was h m.part held before s after none whole (subst (λ (t : FileSystem). Removes h m.part t after) same (removed h r w m.part read after text gone removes))

  named : (name held out : List ℕ) (v : Verdict) (fate : Fate) (was : Fate) (from : E) (before s : FileSystem) (done : Done) (to : E) (after : FileSystem) → at_path h before.now m.part ≡ None → WholeAt h m.part out before.now s.now → EndsUnnamed m.task held fate → ComesTo m.task held out v
      → is_written (verdict_fate v) ≡ true → after.unremoved ≡ false → NamesPart (working {F = F} h r w e) m name was from s done to after → IsUnnamed fate before done after
  named name held out v fate was from before s done to after none whole ends comes written gone (instance.no_instance cause read finds removes told is) =
      let f : FileAt h Followed s.now m.part = followed h s.now m.part whole.file leads whole.at whole.kind in
      let names : FileNames out (Err cause) = subst (λ (b : List ℕ). FileNames b (Err cause)) whole.bytes (instance_found h r w all m.part s (Err cause) read text f finds) in
      let same : read ≡ s = jobs.finds_instance h (as_whole h r) m.part s (Err cause) read (works.finds_instance (working_may h r w (may_do h)) (may_do h) (working_also h r w) (as_whole h r) m.part s (Err cause) read finds) in
      record {
        row = is ∙ ap without_name (nameless_fate m.task held out v fate cause ends comes written names);
        same = gone_again out before s read after none whole same gone removes;
      }
  named name held out v fate was from before s done to after none whole ends comes written gone (instance.has_instance i read finds n) =
      let f : FileAt h Followed s.now m.part = followed h s.now m.part whole.file leads whole.at whole.kind in
      no_name m.task held out v fate (uids_of i) ends comes written (subst (λ (b : List ℕ). FileNames b (Ok (uids_of i))) whole.bytes (instance_found h r w all m.part s (Ok i) read text f finds))

  filled : (job : Job) (name : List ℕ) (mode : ℕ) (input : I) (output : O) (held : List ℕ) (fate : Fate) (from : E) (before made : FileSystem) (done : Done) (to : E) (after : FileSystem) → at_path h before.now m.part ≡ None → MakesFile h m.part mode before made → h.took output ≡ [] → r.has_failed input ≡ false
      → h.holds input ≡ held → IsJobOf m.task held job → EndsUnnamed m.task held fate → after.unremoved ≡ false → FillsByInstance (working {F = F} h r w e) job m name input output from made done to after → IsUnnamed fate before done after
  filled job name mode input output held fate from before made done to after none makes new sound holds of_job ends gone (instance.not_done ending was_filled f not told removes is) =
      let d : HasDone job held (h.took f.written) ending = subst (λ (b : List ℕ). HasDone job b (h.took f.written) ending) holds (job_done h r w all job input output made ending was_filled sound new f) in
      let closes : ClosesOutput made.written (h.took f.written) (h.took f.written) made was_filled = subst (λ (s : FileSystem). ClosesOutput made.written (h.took f.written) (h.took f.written) made s) (sym f.releases) f.closes.0 in
      let its : ending_fate ending ≡ verdict_fate d.verdict = ap ending_fate d.is in
      record {
        row = is ∙ ap without_name (its ∙ not_done_fate m.task held (h.took f.written) d.verdict fate ends (record { job = job; is_job = of_job; answered = d.answered }) (sym (ap is_written its) ∙ not));
        same = gone_again (h.took f.written) before was_filled was_filled after none (whole_at h m.part mode (h.took f.written) before made was_filled makes closes) refl gone removes;
      }
  filled job name mode input output held fate from before made done to after none makes new sound holds of_job ends gone (instance.has_done ending was_filled told f is reports names) =
      let d : HasDone job held (h.took f.written) ending = subst (λ (b : List ℕ). HasDone job b (h.took f.written) ending) holds (job_done h r w all job input output made ending was_filled sound new f) in
      let closes : ClosesOutput made.written (h.took f.written) (h.took f.written) made was_filled = subst (λ (s : FileSystem). ClosesOutput made.written (h.took f.written) (h.took f.written) made s) (sym f.releases) f.closes.0 in
      named name held (h.took f.written) d.verdict fate (ending_fate ending) told before was_filled done to after none (whole_at h m.part mode (h.took f.written) before made was_filled makes closes) ends
      (record { job = job; is_job = of_job; answered = d.answered }) (sym (ap (λ (x : Ending). is_written (ending_fate x)) d.is) ∙ is) gone names

  again_by : (fate : Fate) (before opened : FileSystem) (result : Result Done RunStop) (done : Done) (after : FileSystem) → opened ≡ before → result ≡ Ok done → IsUnnamed fate opened done after → IsUnnamedAgain fate before result after
  again_by fate before opened result done after same is x = record { row = is ∙ ap Ok x.row; same = subst (λ (s : FileSystem). IsAsItWas s.now after.now) same x.same }

  by_instance : (job : Job) (n : Named) (mode : ℕ) (fate : Fate) (from : E) (s : FileSystem) (result : Result Done RunStop) (to : E) (after : FileSystem) → at_path h s.now m.part ≡ None → IsUtf8 n.path → (f : FileAt h Followed s.now n.path) → IsJobOf m.task (s.now.bytes (number_of f.file)) job
      → EndsUnnamed m.task (s.now.bytes (number_of f.file)) fate → after.unremoved ≡ false → DoesByInstance (working {F = F} h r w e) job m n mode from s result to after → IsUnnamedAgain fate s result after
  by_instance job n mode fate from s result to after none path f of_job ends gone (instance.not_opened opens told is) = not_unopened h r w n.path s after path f opens
  by_instance job n mode fate from s result to after none path f of_job ends gone (instance.no_part input cause opened tried opens makes back tells) =
      let o : IsOpened h r (s.now.bytes (number_of f.file)) input s opened = is_opened h r w n.path s input opened path f opens in
      let made : PartMade h m.part mode opened (Err cause) tried = part_made {F = F} h m.part mode opened (Err cause) tried text (subst (λ (t : FileSystem). at_path h t.now m.part ≡ None) (sym o.same) none) makes in
      no_output cause made.output made.is
  by_instance job n mode fate from s result to after none path f of_job ends gone (instance.filled input output done opened made opens makes fills is) =
      let o : IsOpened h r (s.now.bytes (number_of f.file)) input s opened = is_opened h r w n.path s input opened path f opens in
      let here : at_path h opened.now m.part ≡ None = subst (λ (t : FileSystem). at_path h t.now m.part ≡ None) (sym o.same) none in
      let part : PartMade h m.part mode opened (Ok output) made = part_made {F = F} h m.part mode opened (Ok output) made text here makes in
      again_by fate s opened result done after o.same is
      (filled job n.name mode input output (s.now.bytes (number_of f.file)) fate from opened made done to after here part.makes (ap h.took (same_ok (Ok output) part.output output part.is refl) ∙ part.new) o.sound o.holds of_job ends gone fills)

  unnamed : (n : Named) (mode : ℕ) (fate : Fate) (from : E) (s : FileSystem) (result : Result Done RunStop) (to : E) (after : FileSystem) → at_path h s.now m.part ≡ None → IsUtf8 n.path → (f : FileAt h Followed s.now n.path) → EndsUnnamed m.task (s.now.bytes (number_of f.file)) fate
      → after.unremoved ≡ false → DoesUnnamed (working {F = F} h r w e) m n mode from s result to after → IsUnnamedAgain fate s result after
  unnamed n mode fate from s result to after none path f ends gone (instance.no_days cause finds told is) =
      let same : after ≡ s = jobs.finds_job h (as_whole h r) m.task n.path s (Err cause) after (works.finds_job (working_may h r w (may_do h)) (may_do h) (working_also h r w) (as_whole h r) m.task n.path s (Err cause) after finds) in
      record {
        row = is ∙ ap (λ (x : Fate). Ok (without_name x)) (no_job_fate m.task (s.now.bytes (number_of f.file)) fate cause ends (job_found h r w all m.task n.path s (Err cause) after path f finds));
        same = subst (λ (t : FileSystem). IsAsItWas s.now t.now) (sym same) (record { names = λ place. refl; bytes = λ place x at. refl });
      }
  unnamed n mode fate from s result to after none path f ends gone (instance.has_job job mid finds does) =
      let same : mid ≡ s = jobs.finds_job h (as_whole h r) m.task n.path s (Ok job) mid (works.finds_job (working_may h r w (may_do h)) (may_do h) (working_also h r w) (as_whole h r) m.task n.path s (Ok job) mid finds) in
      by_instance job n mode fate from s result to after none path f (job_found h r w all m.task n.path s (Ok job) mid path f finds) ends gone (subst (λ (t : FileSystem). DoesByInstance (working {F = F} h r w e) job m n mode from t result to after) same does)

  pub file_unnamed : (n : Named) (mode : ℕ) (fate : Fate) (from : E) (s : FileSystem) (result : Result Done RunStop) (to : E) (after : FileSystem) → m.keeps_names ≡ false → is_media_index n.relative ≡ false → at_path h s.now m.part ≡ None → IsUtf8 n.path → (f : FileAt h Followed s.now n.path)
      → EndsUnnamed m.task (s.now.bytes (number_of f.file)) fate → after.unremoved ≡ false → DoesFile (working {F = F} h r w e) m n mode from s result to after → IsUnnamedAgain fate s result after
  file_unnamed n mode fate from s result to after by no_index none path f ends gone (files.an_index index told is same) = true_false (is_media_index n.relative) index no_index
  file_unnamed n mode fate from s result to after by no_index none path f ends gone (files.keeps_name became index kept does is) = true_false m.keeps_names kept by
  file_unnamed n mode fate from s result to after by no_index none path f ends gone (files.by_instance index not does) = unnamed n mode fate from s result to after none path f ends gone does

pub unnamed_is_left : {I O F E : Type 0} (r : Reader I) (w : Writer O) (e : Writer E) → UnnamedIsLeft F r w e
unnamed_is_left {I} {O} {F} r w e h m n mode fate from before result to after tells by no_index text none follows path f ends (files.a_file other is does) gone =
    file_unnamed F h r w e (whole_gives h r w tells) m text (follows m.part (none_other h before.now m.part none)) n mode fate from before result to after by no_index none path f ends gone
    (subst (λ (k : ℕ). DoesFile (working {F = F} h r w e) m n k from before result to after) (sym (same_mode mode other is)) does)
unnamed_is_left r w e h m n mode fate from before result to after tells by no_index text none follows path f ends (files.no_file other told is same) gone = absurd (other mode refl)
