-- What the rows of a run that keeps names say stands for one after it.
use Rattle.std.proofs.Common.{◌≡◌, ◌∙◌, refl, sym, ap, subst, ℕ, List, [], Bool, true, false, None, Ok}
use Rattle.std.specs.Prelude.{◌≢◌}
use Rattle.dcm_lemmas.proofs.Truth.{true_false}
use Rattle.dcm_devices.specs.Writing.{Writer}
use Rattle.dcm_files.specs.declared.folders.Links.TheVariants.{Followed}
use Rattle.dcm_walk.specs.Names.{below}
use Rattle.dcm_walk.specs.Visits.{Named}
use Rattle.dcm_walk.specs.declared.visitor.What.{What}
use Rattle.dcm_walk.specs.declared.visitor.What.TheVariants.{File}
use Rattle.dcm_cli.specs.Calls.{Reader}
use Rattle.dcm_trees.specs.declared.fate.Fate.{Fate}
use Rattle.dcm_trees.specs.declared.fate.Fate.TheVariants as fates
use Rattle.dcm_trees.specs.declared.file.Done.{Done}
use Rattle.dcm_trees.specs.declared.progress.Shared.{Shared}
use Rattle.dcm_trees.specs.declared.progress.Work.{Work}
use Rattle.dcm_trees.specs.declared.run.TreeRun.{TreeRun}
use Rattle.dcm_trees.specs.Fate.{is_written, has_output, fate_of}
use Rattle.dcm_trees.specs.File as files
use Rattle.dcm_trees.specs.File.{DoesFile, DoesName, is_media_index}
use Rattle.dcm_trees.specs.Manner.{Manner, manner_of}
use Rattle.dcm_trees.specs.Run.{Shares}
use Rattle.dcm_trees.specs.Task.{task_of}
use Rattle.dcm_trees.specs.Work.{name_in, visits_of}
use Rattle.dcm_tree_laws.specs.Again.{sure}
use Rattle.dcm_tree_laws.specs.Copied.{FileWasThere, is_settled, IsSettled, FileIsSettled}
use Rattle.dcm_tree_laws.specs.Copies.{HasFile, fate_again}
use Rattle.dcm_tree_laws.specs.Determined.{FileAt, FileEnd, was_done, no_job, as_whole, working, working_folders}
use Rattle.dcm_tree_laws.specs.FileSystem.{FileSystem, Tree, Host, number_of, place_of, at_path, may_do, folders_do}
use Rattle.dcm_tree_laws.specs.Kept.{EndsWithout, KeptStands, kept_there, kept_without, kept_index, kept_no_file, FileIsKeptSettled, WasKept, KeptIsThere, KeptIsThereOfList}
use Rattle.dcm_tree_laws.specs.Laws.{IsOutput, over, part_path}
use Rattle.dcm_tree_laws.specs.Part.{LeavesPart}
use Rattle.dcm_tree_laws.specs.Rows.{Visit, noted}
use Rattle.dcm_tree_laws.specs.Single.{TellsAll}
use Rattle.dcm_tree_laws.proofs.Near.{IsNear, Stays}
use Rattle.dcm_tree_laws.specs.Together.{end_fate, its_own}
use Rattle.dcm_tree_laws.proofs.CopiesBy.{working_quiet, over_visit, apart_by, file_still, written_again}
use Rattle.dcm_tree_laws.proofs.KeptMade.{Any, How, was_met, by_bytes, unsettled, file_how}
use Rattle.dcm_tree_laws.proofs.Lists.{lines_do}
use Rattle.dcm_tree_laws.proofs.Looking.{same_ok}
use Rattle.dcm_tree_laws.proofs.MadeBy.{MadeAt, made_stays, made_there, name_made}
use Rattle.dcm_tree_laws.proofs.MetMade.{verdict_not}
use Rattle.dcm_tree_laws.proofs.Noted.{walk_noted, list_noted}
use Rattle.dcm_tree_laws.proofs.OutputsBy.{Leaves, leaves, Still, then_stays, part_of_output}
use Rattle.dcm_tree_laws.proofs.PartsBy.{visit_leaves}
use Rattle.dcm_tree_laws.proofs.Quiet.{only_quiet, IsClosed, IsSame}
use Rattle.dcm_tree_laws.proofs.RowsBy.{HasRows, visit_of, visit_rows, rows_kept, no_rows, same_manifest}
use Rattle.dcm_tree_laws.proofs.Runs.{visit_name}
use Rattle.dcm_tree_laws.proofs.ToldBy.{name_own, by_both}
use Rattle.dcm_tree_laws.proofs.Walks.{VisitsDo, walks_do}
use Rattle.dcm_tree_laws.proofs.Working.{working_also, working_can, whole_gives}
use Rattle.dcm_tree_laws.proofs.Works as works

-- ---- a name

-- how the names of a run are done
record Goes {I O : Type 0} (h : Host I O) (w : Writer O) (start : Tree) (k : Manner) : Type 0 where
  of_output : IsNear k.output k.part
  tells : TellsAll h w
  keeps : k.keeps_names ≡ true
  none : at_path h start k.part ≡ None

-- what the row of a name says, as a run left it
data IsFirst {I O : Type 0} (h : Host I O) (k : Manner) (start now : Tree) (v : Visit) (done : Done) : Type 0 where
  was_there : (mode : ℕ) → v.what ≡ File mode → is_media_index v.named.relative ≡ false → fate_again done.fate ≡ fates.There → done.instance ≡ None → MadeAt h Any k.part k.output v.named.relative now → IsFirst h k start now v done
  was_without : (mode : ℕ) → v.what ≡ File mode → is_media_index v.named.relative ≡ false → (f : HasFile h start v) → EndsWithout k.task (start.bytes (number_of f.file.file)) done → has_output done.fate ≡ false → IsFirst h k start now v done
  was_index : (mode : ℕ) → v.what ≡ File mode → is_media_index v.named.relative ≡ true → done ≡ its_own fates.MediaIndex → IsFirst h k start now v done
  was_no_file : ((mode : ℕ) → v.what ≢ File mode) → done ≡ its_own (fate_of v.what) → IsFirst h k start now v done

first_stays : {I O : Type 0} (h : Host I O) (k : Manner) (start t u : Tree) (v : Visit) (done : Done) → Stays h k.part k.output t u → IsFirst h k start t v done → IsFirst h k start u v done
first_stays h k start t u v done stays (was_there mode is index written nameless made) = was_there mode is index written nameless (made_stays h Any k.part k.output v.named.relative t u stays made)
first_stays h k start t u v done stays (was_without mode is index f without not) = was_without mode is index f without not
first_stays h k start t u v done stays (was_index mode is index d) = was_index mode is index d
first_stays h k start t u v done stays (was_no_file other d) = was_no_file other d

-- of a file that was there at the start, and is settled
abbrev Made : {I O : Type 0} → Host I O → Manner → (start now : Tree) → Visit → Done → Type 0
Made h k start now v done = FileWasThere h start v → FileIsSettled h k.part k.output v done → IsFirst h k start now v done

-- any file will do
any_made : {I O : Type 0} (h : Host I O) (IsWhole : ℕ → List ℕ → Type 0) (part output relative : List ℕ) (t : Tree) → MadeAt h IsWhole part output relative t → MadeAt h Any part output relative t
any_made h IsWhole part output relative t made = record {
  fits = made.fits;
  text = made.text;
  out = record { file = made.out.file; is = made.out.is; kind = made.out.kind; whole = tt; apart = made.out.apart };
  way = made.way;
}

-- no job comes to that
end_not : (end : FileEnd) → end_fate end ≡ fates.There → ⊥
end_not (was_done out verdict) is = verdict_not verdict is
end_not (no_job stop) is = absurd (cc)

output_none : (fate : Fate) → is_settled fate ≡ true → is_written fate ≡ false → (fate ≡ fates.There → ⊥) → has_output fate ≡ false
output_none fates.Written settled not there = absurd (cc)
output_none fates.Unplaced settled not there = absurd (cc)
output_none fates.There settled not there = absurd (there refl)
output_none fates.Refused settled not there = refl
output_none fates.Pixels settled not there = refl
output_none fates.Unnamed settled not there = refl
output_none fates.Taken settled not there = absurd (cc)
output_none fates.LeftOut settled not there = absurd (cc)
output_none fates.MediaIndex settled not there = absurd (cc)
output_none fates.Unread settled not there = absurd (cc)
output_none fates.Unwritten settled not there = absurd (cc)

by_how : {I O : Type 0} (h : Host I O) (k : Manner) (n : Named) (what : What) (mode : ℕ) (start now : Tree) (done : Done) → what ≡ File mode → is_media_index n.relative ≡ false → done.instance ≡ None → (f : HasFile h start (visit_of n what)) → is_settled done.fate ≡ true → is_written done.fate ≡ false
    → How h k n.relative (start.bytes (number_of f.file.file)) done.fate now → IsFirst h k start now (visit_of n what) done
by_how h k n what mode start now done is index own f settled not (was_met there made) = was_there mode is index (ap fate_again there) own made
by_how h k n what mode start now done is index own f settled not (by_bytes fated) =
    was_without mode is index f (record { told = record { end = fated.end; ends = fated.ends; is = by_both done (end_fate fated.end) fated.is own }; not = not }) (output_none done.fate settled not (λ there. end_not fated.end (sym fated.is ∙ there)))
by_how h k n what mode start now done is index own f settled not (unsettled wrong) = true_false (is_settled done.fate) settled wrong

by_written : {I O F E : Type 0} (h : Host I O) (r : Reader I) (w : Writer O) (e : Writer E) (k : Manner) (n : Named) (what : What) (mode : ℕ) (start : Tree) (from : E) (before : FileSystem) (done : Done) (to : E) (after : FileSystem) (written : Bool) → is_written done.fate ≡ written → Goes h w start k
    → before.written ≡ None → at_path h before.now k.part ≡ None → Still h k.part start before.now → what ≡ File mode → is_media_index n.relative ≡ false → DoesFile (working {F = F} h r w e) k n mode from before (Ok done) to after → HasFile h start (visit_of n what)
    → IsSettled h k.part k.output (visit_of n what) done → IsFirst h k start after.now (visit_of n what) done
by_written {I} {O} {F} {E} h r w e k n what mode start from before done to after true written goes none nothing still is index does f settled =
    let over_it : DoesName (over {F = F} h (as_whole h r) w e) k n (File mode) from before (Ok done) to after =
    works.does_name (working {F = F} h r w e) (may_do h) (working_also h r w) (folders_do {F = F} h) (working_can {F = F} h) k n (File mode) from before (Ok done) to after (files.a_file mode refl does) in
    was_there mode is index (written_again done.fate written) (name_own (working {F = F} h r w e) k n mode from before done to after goes.keeps (files.a_file mode refl does))
    (any_made h (IsOutput h (as_whole h r) w) k.part k.output n.relative after.now (name_made {F = F} h (as_whole h r) w e k n (File mode) from before to after done goes.keeps none goes.of_output over_it written))
by_written {I} {O} {F} {E} h r w e k n what mode start from before done to after false not goes none nothing still is index does f settled =
    let now : FileAt h Followed before.now n.path = file_still h k.part n.path start before.now goes.none still f.file in
    let own : done.instance ≡ None = name_own (working {F = F} h r w e) k n mode from before done to after goes.keeps (files.a_file mode refl does) in
    by_how h k n what mode start after.now done is index own f settled.settled not
    (subst (λ (b : List ℕ). How h k n.relative b done.fate after.now)
    (still.bytes (h.leads Followed n.path) f.file.file (apart_by start (h.leads Followed n.path) (place_of h k.part) f.file.file goes.none f.file.is) f.file.is)
    (file_how F h r w e (whole_gives h r w goes.tells) k goes.of_output n mode from before (Ok done) to after done goes.keeps index none nothing f.text now does refl
    (λ there. subst (λ (i : _). place_of h (below k.output (name_in n.relative i)) ≢ place_of h k.part) own (settled.elsewhere there))))

name_first : {I O F E : Type 0} (h : Host I O) (r : Reader I) (w : Writer O) (e : Writer E) (k : Manner) (n : Named) (what : What) (start : Tree) (from : E) (before : FileSystem) (done : Done) (to : E) (after : FileSystem) → Goes h w start k → before.written ≡ None → at_path h before.now k.part ≡ None
    → Still h k.part start before.now → DoesName (working {F = F} h r w e) k n what from before (Ok done) to after → Made h k start after.now (visit_of n what) done
name_first h r w e k n what start from before done to after goes none nothing still (files.a_file mode is (files.an_index index told ok same)) there settled = was_index mode is index (same_ok (Ok done) (its_own fates.MediaIndex) done ok refl)
name_first {I} {O} {F} h r w e k n what start from before done to after goes none nothing still (files.a_file mode is (files.keeps_name became index kept does ok)) there settled =
    by_written {F = F} h r w e k n what mode start from before done to after (is_written done.fate) refl goes none nothing still is index (files.keeps_name became index kept does ok) (there mode is) (settled mode is index)
name_first h r w e k n what start from before done to after goes none nothing still (files.a_file mode is (files.by_instance index not does)) there settled = true_false k.keeps_names goes.keeps not
name_first h r w e k n what start from before done to after goes none nothing still (files.no_file other told ok same) there settled = was_no_file other (same_ok (Ok done) (its_own (fate_of what)) done ok refl)

-- ---- all names

-- what is so after each of them, by how they are done
record Kept {I O W : Type 0} (h : Host I O) (w : Writer O) (start : Tree) (m : Writer W) (headed : W) (visits : List Visit) (manifest : W) (s : FileSystem) (ended : Type 0) (shared : Shared) : Type 0 where
  goes : Goes h w start (manner_of shared.manner)
  still : Still h (manner_of shared.manner).part start s.now
  nothing : s.unremoved ≡ false → at_path h s.now (manner_of shared.manner).part ≡ None
  rows : s.unremoved ≡ false → ended → HasRows m (Made h (manner_of shared.manner) start s.now) shared headed visits manifest

record Good {I O W E : Type 0} (h : Host I O) (w : Writer O) (start : Tree) (m : Writer W) (shared : Shared) (headed : W) (x : (Work W × E) × List Visit) (s : FileSystem) : Type 0 where
  shares : x.0.0.shared ≡ shared
  quiet : s.written ≡ None
  kept : Kept h w start m headed x.1 x.0.0.manifest s (x.0.0.stop ≡ None) shared

abbrev StaysGood : {I O W E : Type 0} → Host I O → Writer O → Tree → Writer W → Shared → W → ((Work W × E) × List Visit) → FileSystem → ((Work W × E) × List Visit) → FileSystem → Type 0
StaysGood h w start m shared headed a s b t = Good h w start m shared headed a s → Good h w start m shared headed b t

closed : {I O W E : Type 0} (h : Host I O) (w : Writer O) (start : Tree) (m : Writer W) (shared : Shared) (headed : W) → IsClosed IsSame (StaysGood {E = E} h w start m shared headed)
closed h w start m shared headed = record {
  none = λ v s t e good. subst (Good h w start m shared headed v) (sym e) good;
  still = λ v s t e good. subst (Good h w start m shared headed v) (sym e) good;
  then = λ a b c s t u first second good. second (first good);
}

visits_good : {I O F W E : Type 0} (h : Host I O) (start : Tree) (r : Reader I) (w : Writer O) (e : Writer E) (m : Writer W) (shared : Shared) (headed : W) → VisitsDo (StaysGood h w start m shared headed) (noted (visits_of (working {F = F} h r w e) m))
visits_good {I} {O} {F} {W} {E} h start r w e m shared headed from before n what result to after v good =
    let here : Shared = from.0.0.shared in
    let k : Manner = manner_of here.manner in
    let kept : Kept h w start m headed from.1 from.0.0.manifest before (from.0.0.stop ≡ None) here = subst (Kept h w start m headed from.1 from.0.0.manifest before (from.0.0.stop ≡ None)) (sym good.shares) good.kept in
    let over_it = over_visit {F = F} h r w e m here _ from.0.1 before n what result _ to.0.1 after v.0.0 in
    let left : Leaves h k.part k.output before after = leaves h (IsOutput h (as_whole h r) w) k.part k.output before after good.quiet kept.goes.of_output (visit_name {F = F} h (as_whole h r) w e m here _ from.0.1 before n what result _ to.0.1 after over_it) in
    let part : LeavesPart h k.part before after = visit_leaves {F = F} h (as_whole h r) w e m here _ from.0.1 before n what result _ to.0.1 after good.quiet kept.goes.of_output over_it in
    let next : Kept h w start m headed to.1 to.0.0.manifest after (to.0.0.stop ≡ None) here = record {
      goes = kept.goes;
      still = then_stays h k.part k.output start before.now after.now kept.still left.stays;
      nothing = λ gone. (part gone).1 ∙ kept.nothing (part gone).0;
      rows = λ gone stop. visit_rows (working {F = F} h r w e) m here headed (Made h k start before.now) (Made h k start after.now)
          (λ x done made there settled. first_stays h k start before.now after.now x done left.stays (made there settled)) _ from.0.1 before n what result _ to.0.1 after
          (λ done mid does. name_first {F = F} h r w e k n what start from.0.1 before done mid after kept.goes good.quiet (kept.nothing (part gone).0) kept.still does) from.1 to.1 v.1 v.0.0 stop
          (λ none. kept.rows (part gone).0 none);
    } in
    record { shares = v.0.1 ∙ good.shares; quiet = left.none; kept = subst (Kept h w start m headed to.1 to.0.0.manifest after (to.0.0.stop ≡ None)) good.shares next }

first : {I O W E : Type 0} (h : Host I O) (w : Writer O) (m : Writer W) (headed : W) (start : Work W) (from : E) (before : FileSystem) → before.written ≡ None → start.manifest ≡ headed → Goes h w before.now (manner_of start.shared.manner) → Good h w before.now m start.shared headed ((start, from), []) before
first h w m headed start from before quiet is goes = record {
  shares = refl;
  quiet = quiet;
  kept = record {
    goes = goes;
    still = record { there = λ place f apart at. at; bytes = λ place f apart at. refl };
    nothing = λ gone. goes.none;
    rows = λ gone stop. no_rows m (Made h (manner_of start.shared.manner) before.now before.now) start.shared headed start.manifest is;
  };
}

goes_on : {I O : Type 0} (h : Host I O) (w : Writer O) (start : Tree) (run : TreeRun) (part : List ℕ) (shared : Shared) → Shares run part shared → part ≡ part_path run → TellsAll h w → run.options.keeps_names ≡ true → at_path h start (part_path run) ≡ None → Goes h w start (manner_of shared.manner)
goes_on h w start run part shared shares is tells keeps none = subst (Goes h w start) (sym shares.manner) (record {
  of_output = part_of_output run part is;
  tells = tells;
  keeps = keeps;
  none = subst (λ (p : List ℕ). at_path h start p ≡ None) (sym is) none;
})

-- it stands for the next run
stands : {I O : Type 0} (h : Host I O) (k : Manner) (start now : Tree) (v : Visit) (done : Done) → at_path h start k.part ≡ None → Still h k.part start now → FileIsKeptSettled h k.part k.output now v done → IsFirst h k start now v done → KeptStands h k.task k.output now v done
stands h k start now v done none still settled (was_there mode is index written nameless made) = kept_there mode is index written nameless (made_there h Any k.part k.output v.named.relative now made)
stands h k start now v done none still settled (was_without mode is index f without not) =
    kept_without mode is index (record { text = f.text; file = file_still h k.part v.named.path start now none still f.file })
    (subst (λ (b : List ℕ). EndsWithout k.task b done) (sym (still.bytes (h.leads Followed v.named.path) f.file.file (apart_by start (h.leads Followed v.named.path) (place_of h k.part) f.file.file none f.file.is) f.file.is)) without)
    ((settled mode is index).free not)
stands h k start now v done none still settled (was_index mode is index d) = kept_index mode is index d
stands h k start now v done none still settled (was_no_file other d) = kept_no_file other d

rows_found : {I O W : Type 0} (h : Host I O) (k : Manner) (start now : Tree) (m : Writer W) (shared : Shared) (headed : W) (visits : List Visit) (manifest : W) → at_path h start k.part ≡ None → Still h k.part start now → HasRows m (Made h k start now) shared headed visits manifest
    → HasRows m (WasKept h k.task k.part k.output start now) shared headed visits manifest
rows_found h k start now m shared headed visits manifest none still x = record {
  text = x.text;
  rows = rows_kept (Made h k start now) (WasKept h k.task k.part k.output start now) shared
      (λ v done made there settled. stands h k start now v done none still settled (made there (λ mode is index. (settled mode is index).settled))) visits x.text x.rows;
  manifest_is = x.manifest_is;
}

-- by the run
rows_of : {I O W : Type 0} (h : Host I O) (w : Writer O) (start : Tree) (m : Writer W) (headed : W) (visits : List Visit) (manifest : W) (s : FileSystem) (ended : Type 0) (shared : Shared) (run : TreeRun) (part : List ℕ) → Shares run part shared → part ≡ part_path run
    → Kept h w start m headed visits manifest s ended shared → s.unremoved ≡ false → ended → HasRows m (WasKept h (task_of run.task) (part_path run) run.output.now start s.now) shared headed visits manifest
rows_of h w start m headed visits manifest s ended shared run part shares is kept gone end =
    subst (λ (p : List ℕ). HasRows m (WasKept h (task_of run.task) p run.output.now start s.now) shared headed visits manifest) is
    (subst (λ (k : Manner). HasRows m (WasKept h k.task k.part k.output start s.now) shared headed visits manifest) shares.manner
    (rows_found h (manner_of shared.manner) start s.now m shared headed visits manifest kept.goes.none kept.still (kept.rows gone end)))

pub kept_is_there : {I O F W E : Type 0} (r : Reader I) (w : Writer O) (m : Writer W) (e : Writer E) → KeptIsThere F r w m e
kept_is_there {I} {O} {F} {W} {E} r w m e h run path begun opened headed from before status left to after tells keeps quiet part none v stop gone =
    let shared : Shared = v.start.shared in
    let d = working_folders h (sure (folders_do {F = F} h)) in
    let walk = walk_noted d (visits_of (working {F = F} h r w e) m) path begun.number opened (v.start, from) before v.walked (v.last, v.told) after v.walks [] in
    let good : Good h w before.now m shared headed ((v.last, v.told), walk.0) after =
    walks_do d (only_quiet d (working_quiet h)) (StaysGood h w before.now m shared headed) (closed h w before.now m shared headed) (noted (visits_of (working {F = F} h r w e) m))
    (visits_good {F = F} h before.now r w e m shared headed) path begun.number opened ((v.start, from), []) before v.walked ((v.last, v.told), walk.0) after walk.1
    (first h w m headed v.start from before quiet (ap (λ p. p.manifest) v.begins.nothing) (goes_on h w before.now run begun.part.items shared v.begins.shares part tells keeps none)) in
    let rows : HasRows m (WasKept h (task_of run.task) (part_path run) run.output.now before.now after.now) shared headed walk.0 v.last.manifest =
    rows_of h w before.now m headed walk.0 v.last.manifest after (v.last.stop ≡ None) shared run begun.part.items v.begins.shares part good.kept gone stop in
    record {
      visits = walk.0;
      text = rows.text;
      walks = walk.1;
      rows = rows.rows;
      manifest = same_manifest m left v.last.manifest headed rows.text v.left_is rows.manifest_is;
    }

pub kept_by_list : {I O F W E : Type 0} (r : Reader I) (w : Writer O) (m : Writer W) (e : Writer E) → KeptIsThereOfList F r w m e
kept_by_list {I} {O} {F} {W} {E} r w m e h run list begun input headed from before status left to after read tells keeps quiet part none v stop gone =
    let shared : Shared = v.start.shared in
    let d = working_folders h (sure (folders_do {F = F} h)) in
    let walk = list_noted d (visits_of (working {F = F} h r w e) m) (as_whole h r).gets begun.number (v.start, from) before input v.walked (v.last, v.told) after read v.walks [] in
    let good : Good h w before.now m shared headed ((v.last, v.told), walk.0) after =
    lines_do d (only_quiet d (working_quiet h)) (StaysGood h w before.now m shared headed) (closed h w before.now m shared headed) (noted (visits_of (working {F = F} h r w e) m))
    (visits_good {F = F} h before.now r w e m shared headed) (as_whole h r).gets begun.number ((v.start, from), []) before input v.walked ((v.last, v.told), walk.0) after read walk.1
    (first h w m headed v.start from before quiet (ap (λ p. p.manifest) v.begins.nothing) (goes_on h w before.now run begun.part.items shared v.begins.shares part tells keeps none)) in
    let rows : HasRows m (WasKept h (task_of run.task) (part_path run) run.output.now before.now after.now) shared headed walk.0 v.last.manifest =
    rows_of h w before.now m headed walk.0 v.last.manifest after (v.last.stop ≡ None) shared run begun.part.items v.begins.shares part good.kept gone stop in
    record {
      visits = walk.0;
      text = rows.text;
      walks = walk.1;
      rows = rows.rows;
      manifest = same_manifest m left v.last.manifest headed rows.text v.left_is rows.manifest_is;
    }
