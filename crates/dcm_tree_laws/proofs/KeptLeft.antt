-- A file that ends without an output does so again in a run that keeps names, and all is left as it was.
use Rattle.std.proofs.Common.{◌≡◌, ◌∙◌, refl, sym, ap, subst, ℕ, ◌+◌, List, [], length, true, false, None, Result, Ok, Err}
use Rattle.std.specs.Str.{IsUtf8}
use Rattle.dcm_lemmas.proofs.Truth.{true_false}
use Rattle.dcm_devices.specs.Writing.{Writer}
use Rattle.dcm_files.specs.declared.folders.Links.TheVariants.{Followed}
use Rattle.dcm_walk.specs.Names.{below}
use Rattle.dcm_walk.specs.Visits.{Named}
use Rattle.dcm_words.specs.Words.{Job}
use Rattle.dcm_cli.specs.Calls.{Reader}
use Rattle.dcm_trees.specs.declared.fate.Fate.{Fate}
use Rattle.dcm_trees.specs.declared.file.Done.{Done}
use Rattle.dcm_trees.specs.declared.progress.Stop.{Stop as RunStop}
use Rattle.dcm_trees.specs.Fate.{is_written}
use Rattle.dcm_trees.specs.File as files
use Rattle.dcm_trees.specs.File.{DoesReady, DoesFree, DoesPlaced, DoesNamed, DoesFile, is_media_index, under_its_name}
use Rattle.dcm_trees.specs.Lines.{ending_fate, no_days_fate}
use Rattle.dcm_trees.specs.Manner.{Manner}
use Rattle.dcm_trees.specs.Part as parts
use Rattle.dcm_trees.specs.Part.{FillsAndNames, RemovesPart}
use Rattle.dcm_trees.specs.Place.{is_free}
use Rattle.dcm_trees.specs.Task.{Task}
use Rattle.dcm_tree_laws.specs.Again.{sure}
use Rattle.dcm_tree_laws.specs.Copies.{IsAsItWas}
use Rattle.dcm_tree_laws.specs.Determined.{FileAt, working_may, as_whole, working}
use Rattle.dcm_tree_laws.specs.FileSystem.{FileSystem, Host, number_of, at_path, may_do, folders_do, MakesFile, ClosesOutput}
use Rattle.dcm_tree_laws.specs.Kept.{EndsWithout, IsWithoutAgain, WithoutIsLeft}
use Rattle.dcm_tree_laws.specs.Single.{IsJobOf}
use Rattle.dcm_tree_laws.specs.Together.{IsFree, end_fate, its_own}
use Rattle.dcm_tree_laws.proofs.CopiesBy.{same_now}
use Rattle.dcm_tree_laws.proofs.CopyLeft.{WholeAt, whole_at, as_it_was, removed, no_output}
use Rattle.dcm_tree_laws.proofs.Ends.{one_end}
use Rattle.dcm_tree_laws.proofs.Fates.{Works, Fated, by_verdict, no_job_by, finds_free}
use Rattle.dcm_tree_laws.proofs.Files.{path_is}
use Rattle.dcm_tree_laws.proofs.Held.{GivesAll}
use Rattle.dcm_tree_laws.proofs.Jobs as jobs
use Rattle.dcm_tree_laws.proofs.Left.{sure_quiet, same_mode, too_long}
use Rattle.dcm_tree_laws.proofs.Looking.{finds, same_ok}
use Rattle.dcm_tree_laws.proofs.Sure as sures
use Rattle.dcm_tree_laws.proofs.Working.{working_also, working_sure, whole_gives, IsOpened, is_opened, not_unopened, job_found, HasDone, job_done, PartMade, part_made}
use Rattle.dcm_tree_laws.proofs.Works as works

-- what its bytes end as is one
fate_again : (task : Task) (bytes : List ℕ) (done : Done) (fate : Fate) → EndsWithout task bytes done → Fated task bytes fate → done ≡ its_own fate
fate_again task bytes done fate without fated = without.told.is ∙ ap its_own (ap end_fate (one_end task bytes without.told.end fated.end without.told.ends fated.ends) ∙ sym fated.is)

not_by : (done : Done) (fate : Fate) → done ≡ its_own fate → is_written done.fate ≡ false → is_written fate ≡ false
not_by done fate is not = sym (ap (λ (d : Done). is_written d.fate) is) ∙ not

module _ {I O E : Type 0} (F : Type 0) (h : Host I O) (r : Reader I) (w : Writer O) (e : Writer E) (all : GivesAll h (as_whole h r) w) (m : Manner) (text : IsUtf8 m.part) where
  -- it has its fate again
  record IsAgain (done : Done) (before : FileSystem) (result : Result Fate RunStop) (after : FileSystem) : Type 0 where
    fate : Fate
    is : result ≡ Ok fate
    done_is : done ≡ its_own fate
    same : IsAsItWas before.now after.now

  record IsFilled (done : Done) (before : FileSystem) (fate : Fate) (after : FileSystem) : Type 0 where
    done_is : done ≡ its_own fate
    same : IsAsItWas before.now after.now

  -- the part is whole, and is removed
  gone_again : (held : List ℕ) (before s after : FileSystem) → at_path h before.now m.part ≡ None → WholeAt h m.part held before.now s.now → after.unremoved ≡ false → RemovesPart (working_may h r w (may_do h)) m.part s after → IsAsItWas before.now after.now
  gone_again held before s after none whole gone removes = as_it_was h m.part held before s after none whole (removed h r w m.part s after text gone removes)

  filled : (job : Job) (name path : List ℕ) (mode : ℕ) (input : I) (output : O) (held : List ℕ) (done : Done) (from : E) (before made : FileSystem) (fate : Fate) (to : E) (after : FileSystem) → at_path h before.now m.part ≡ None → MakesFile h m.part mode before made → h.took output ≡ [] → r.has_failed input ≡ false
      → h.holds input ≡ held → IsJobOf m.task held job → EndsWithout m.task held done → after.unremoved ≡ false → FillsAndNames (working {F = F} h r w e) job m name path input output from made fate to after → IsFilled done before fate after
  filled job name path mode input output held done from before made fate to after none makes new sound holds of_job without gone (parts.not_done ending was_filled f not told removes is) =
      let d : HasDone job held (h.took f.written) ending = subst (λ (b : List ℕ). HasDone job b (h.took f.written) ending) holds (job_done h r w all job input output made ending was_filled sound new f) in
      let closes : ClosesOutput made.written (h.took f.written) (h.took f.written) made was_filled = subst (λ (s : FileSystem). ClosesOutput made.written (h.took f.written) (h.took f.written) made s) (sym f.releases) f.closes.0 in
      record {
        done_is = fate_again m.task held done fate without (by_verdict m.task held (h.took f.written) job fate ending of_job is d);
        same = gone_again (h.took f.written) before was_filled after none (whole_at h m.part mode (h.took f.written) before made was_filled makes closes) gone removes;
      }
  filled job name path mode input output held done from before made fate to after none makes new sound holds of_job without gone (parts.has_done ending was_filled told f is reports names) =
      let d : HasDone job held (h.took f.written) ending = subst (λ (b : List ℕ). HasDone job b (h.took f.written) ending) holds (job_done h r w all job input output made ending was_filled sound new f) in
      let its : done ≡ its_own (ending_fate ending) = fate_again m.task held done (ending_fate ending) without (by_verdict m.task held (h.took f.written) job (ending_fate ending) ending of_job refl d) in
      true_false (is_written (ending_fate ending)) is (not_by done (ending_fate ending) its without.not)

  again_by : (done : Done) (before opened : FileSystem) (result : Result Fate RunStop) (fate : Fate) (after : FileSystem) → opened ≡ before → result ≡ Ok fate → IsFilled done opened fate after → IsAgain done before result after
  again_by done before opened result fate after same is x = record { fate = fate; is = is; done_is = x.done_is; same = subst (λ (s : FileSystem). IsAsItWas s.now after.now) same x.same }

  ready : (job : Job) (n : Named) (mode : ℕ) (path : List ℕ) (done : Done) (from : E) (s : FileSystem) (result : Result Fate RunStop) (to : E) (after : FileSystem) → at_path h s.now m.part ≡ None → IsUtf8 n.path → (f : FileAt h Followed s.now n.path) → IsJobOf m.task (s.now.bytes (number_of f.file)) job
      → EndsWithout m.task (s.now.bytes (number_of f.file)) done → after.unremoved ≡ false → DoesReady (working {F = F} h r w e) job m n mode path from s result to after → IsAgain done s result after
  ready job n mode path done from s result to after none own f of_job without gone (files.not_opened opens told is) = not_unopened h r w n.path s after own f opens
  ready job n mode path done from s result to after none own f of_job without gone (files.no_part input cause opened tried opens makes back tells) =
      let o : IsOpened h r (s.now.bytes (number_of f.file)) input s opened = is_opened h r w n.path s input opened own f opens in
      let made : PartMade h m.part mode opened (Err cause) tried = part_made {F = F} h m.part mode opened (Err cause) tried text (subst (λ (t : FileSystem). at_path h t.now m.part ≡ None) (sym o.same) none) makes in
      no_output cause made.output made.is
  ready job n mode path done from s result to after none own f of_job without gone (files.filled input output fate opened made opens makes fills is) =
      let o : IsOpened h r (s.now.bytes (number_of f.file)) input s opened = is_opened h r w n.path s input opened own f opens in
      let here : at_path h opened.now m.part ≡ None = subst (λ (t : FileSystem). at_path h t.now m.part ≡ None) (sym o.same) none in
      let part : PartMade h m.part mode opened (Ok output) made = part_made {F = F} h m.part mode opened (Ok output) made text here makes in
      again_by done s opened result fate after o.same is
      (filled job n.name path mode input output (s.now.bytes (number_of f.file)) done from opened made fate to after here part.makes (ap h.took (same_ok (Ok output) part.output output part.is refl) ∙ part.new) o.sound o.holds of_job without gone fills)

  free : (n : Named) (mode : ℕ) (path : List ℕ) (done : Done) (from : E) (s : FileSystem) (result : Result Fate RunStop) (to : E) (after : FileSystem) → at_path h s.now m.part ≡ None → IsUtf8 n.path → (f : FileAt h Followed s.now n.path) → EndsWithout m.task (s.now.bytes (number_of f.file)) done
      → after.unremoved ≡ false → DoesFree (working {F = F} h r w e) m n mode path from s result to after → IsAgain done s result after
  free n mode path done from s result to after none own f without gone (files.no_days cause finds told is) =
      let same : after ≡ s = jobs.finds_job h (as_whole h r) m.task n.path s (Err cause) after (works.finds_job (working_may h r w (may_do h)) (may_do h) (working_also h r w) (as_whole h r) m.task n.path s (Err cause) after finds) in
      record {
        fate = no_days_fate cause;
        is = is;
        done_is = fate_again m.task (s.now.bytes (number_of f.file)) done (no_days_fate cause) without (no_job_by m.task (s.now.bytes (number_of f.file)) (no_days_fate cause) cause refl (job_found h r w all m.task n.path s (Err cause) after own f finds));
        same = same_now s after same;
      }
  free n mode path done from s result to after none own f without gone (files.has_job job mid finds does) =
      let same : mid ≡ s = jobs.finds_job h (as_whole h r) m.task n.path s (Ok job) mid (works.finds_job (working_may h r w (may_do h)) (may_do h) (working_also h r w) (as_whole h r) m.task n.path s (Ok job) mid finds) in
      ready job n mode path done from s result to after none own f (job_found h r w all m.task n.path s (Ok job) mid own f finds) without gone (subst (λ (t : FileSystem). DoesReady (working {F = F} h r w e) job m n mode path from t result to after) same does)

  placed : (n : Named) (mode : ℕ) (path : List ℕ) (done : Done) (from : E) (s : FileSystem) (result : Result Fate RunStop) (to : E) (after : FileSystem) → path ≡ below m.output n.relative → at_path h s.now m.part ≡ None → IsUtf8 n.path → (f : FileAt h Followed s.now n.path)
      → EndsWithout m.task (s.now.bytes (number_of f.file)) done → IsFree h m.output n.relative s.now → after.unremoved ≡ false → DoesPlaced (working {F = F} h r w e) m n mode path from s result to after → IsAgain done s result after
  placed n mode path done from s result to after is none own f without still_free gone (files.not_free place found nf told ok) =
      true_false (is_free place) (finds_free {F = F} h m.output n.relative path is s place after still_free (sures.finds (Works {F = F} h) (sure (folders_do {F = F} h)) (working_sure {F = F} h).sees path (length m.output + 1) s place after found)) nf
  placed n mode path done from s result to after is none own f without still_free gone (files.free place looked found nf does) =
      let same : looked ≡ s = finds (sure (folders_do {F = F} h)) (sure_quiet h) path (length m.output + 1) s place looked (sures.finds (Works {F = F} h) (sure (folders_do {F = F} h)) (working_sure {F = F} h).sees path (length m.output + 1) s place looked found) in
      free n mode path done from s result to after none own f without gone (subst (λ (t : FileSystem). DoesFree (working {F = F} h r w e) m n mode path from t result to after) same does)

  named : (n : Named) (mode : ℕ) (done : Done) (from : E) (s : FileSystem) (result : Result Fate RunStop) (to : E) (after : FileSystem) → at_path h s.now m.part ≡ None → IsUtf8 n.path → (f : FileAt h Followed s.now n.path) → EndsWithout m.task (s.now.bytes (number_of f.file)) done
      → IsFree h m.output n.relative s.now → after.unremoved ≡ false → DoesNamed (working {F = F} h r w e) m n mode from s result to after → IsAgain done s result after
  named n mode done from s result to after none own f without still_free gone (files.too_long long told ok same) = absurd (too_long m.output n.relative still_free.fits long)
  named n mode done from s result to after none own f without still_free gone (files.placed path at does) = placed n mode path done from s result to after (path_is m.output n.relative path at) none own f without still_free gone does

  by_name : (done : Done) (s : FileSystem) (became : Result Fate RunStop) (result : Result Done RunStop) (after : FileSystem) → result ≡ under_its_name became → IsAgain done s became after → IsWithoutAgain done s result after
  by_name done s became result after is x = record { row = is ∙ ap under_its_name x.is ∙ ap Ok (sym x.done_is); same = x.same }

  pub file_without : (n : Named) (mode : ℕ) (done : Done) (from : E) (s : FileSystem) (result : Result Done RunStop) (to : E) (after : FileSystem) → m.keeps_names ≡ true → is_media_index n.relative ≡ false → at_path h s.now m.part ≡ None → IsUtf8 n.path → (f : FileAt h Followed s.now n.path)
      → EndsWithout m.task (s.now.bytes (number_of f.file)) done → IsFree h m.output n.relative s.now → after.unremoved ≡ false → DoesFile (working {F = F} h r w e) m n mode from s result to after → IsWithoutAgain done s result after
  file_without n mode done from s result to after keeps no_index none own f without still_free gone (files.an_index index told is same) = true_false (is_media_index n.relative) index no_index
  file_without n mode done from s result to after keeps no_index none own f without still_free gone (files.keeps_name became index kept does is) =
      by_name done s became result after is (named n mode done from s became to after none own f without still_free gone does)
  file_without n mode done from s result to after keeps no_index none own f without still_free gone (files.by_instance index not does) = true_false m.keeps_names keeps not

pub without_is_left : {I O F E : Type 0} (r : Reader I) (w : Writer O) (e : Writer E) → WithoutIsLeft F r w e
without_is_left {I} {O} {F} r w e h m n mode done from before result to after tells keeps no_index text none own f without still_free (files.a_file other is does) gone =
    file_without F h r w e (whole_gives h r w tells) m text n mode done from before result to after keeps no_index none own f without still_free gone
    (subst (λ (k : ℕ). DoesFile (working {F = F} h r w e) m n k from before result to after) (sym (same_mode mode other is)) does)
without_is_left r w e h m n mode done from before result to after tells keeps no_index text none own f without still_free (files.no_file other told is same) gone = absurd (other mode refl)
