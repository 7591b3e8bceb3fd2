-- What a run wrote by the instances in its outputs is there for one after it.
use Rattle.std.proofs.Common.{◌≡◌, ◌∙◌, refl, sym, ap, subst, ℕ, List, [], true, false, None, Ok}
use Rattle.std.specs.Prelude.{◌≢◌}
use Rattle.std.specs.Str.{IsUtf8}
use Rattle.dcm_lemmas.proofs.Truth.{true_false}
use Rattle.dcm_instance.specs.Uids.{instance_name}
use Rattle.dcm_devices.specs.Writing.{Writer}
use Rattle.dcm_files.specs.declared.folders.Links.TheVariants.{Followed}
use Rattle.dcm_walk.specs.Visits.{Named}
use Rattle.dcm_walk.specs.declared.visitor.What.{What}
use Rattle.dcm_walk.specs.declared.visitor.What.TheVariants.{File}
use Rattle.dcm_cli.specs.Calls.{Reader}
use Rattle.dcm_trees.specs.declared.fate.Fate.{Fate}
use Rattle.dcm_trees.specs.declared.fate.Fate.TheVariants as fates
use Rattle.dcm_trees.specs.declared.file.Done.{Done}
use Rattle.dcm_trees.specs.declared.progress.Shared.{Shared}
use Rattle.dcm_trees.specs.declared.progress.Work.{Work}
use Rattle.dcm_trees.specs.declared.run.TreeRun.{TreeRun}
use Rattle.dcm_trees.specs.Fate.{is_written, fate_of}
use Rattle.dcm_trees.specs.File as files
use Rattle.dcm_trees.specs.File.{DoesName, is_media_index}
use Rattle.dcm_trees.specs.Instance.{DoesUnnamed, without_name}
use Rattle.dcm_trees.specs.Manner.{Manner, manner_of}
use Rattle.dcm_trees.specs.Run.{Shares}
use Rattle.dcm_trees.specs.Task.{Task, task_of}
use Rattle.dcm_trees.specs.Work.{visits_of}
use Rattle.dcm_tree_laws.specs.Again.{sure}
use Rattle.dcm_tree_laws.specs.Copied.{FileWasThere, is_settled, IsSettled, FileIsSettledAs, WasCopied, CopiesAreThere, CopiesAreThereOfList, IsSettledAs, is_so, has_other}
use Rattle.dcm_tree_laws.specs.Copies.{EndsUnnamed, fate_again, HasFile, Stands, of_copy, unnamed, an_index, no_file, HasOther, of_other}
use Rattle.dcm_tree_laws.specs.Determined.{ComesTo, FileAt, FollowsLinks, as_whole, working, working_folders}
use Rattle.dcm_tree_laws.specs.FileSystem.{FileSystem, Tree, Host, number_of, place_of, at_path, folders_do}
use Rattle.dcm_tree_laws.specs.Laws.{IsOutput, part_path}
use Rattle.dcm_tree_laws.specs.Rows.{Visit, noted}
use Rattle.dcm_tree_laws.specs.Single.{TellsAll}
use Rattle.dcm_tree_laws.proofs.Near.{IsNear, Stays}
use Rattle.dcm_tree_laws.proofs.CopiesBy.{working_quiet, over_visit, apart_by, file_still, written_again}
use Rattle.dcm_tree_laws.proofs.CopyLeft.{none_other}
use Rattle.dcm_tree_laws.proofs.CopyMade.{CopyMade, copy_made, copy_made_stays, copy_found}
use Rattle.dcm_tree_laws.proofs.Lists.{lines_do}
use Rattle.dcm_tree_laws.proofs.Looking.{same_ok}
use Rattle.dcm_tree_laws.proofs.Noted.{walk_noted, list_noted}
use Rattle.dcm_tree_laws.proofs.OutputsBy.{Leaves, leaves, Still, then_stays, part_of_output}
use Rattle.dcm_tree_laws.proofs.Quiet.{only_quiet, IsClosed, IsSame}
use Rattle.dcm_tree_laws.proofs.RowsBy.{HasRows, visit_of, visit_rows, rows_kept, no_rows, same_manifest}
use Rattle.dcm_tree_laws.proofs.Runs.{visit_name}
use Rattle.dcm_tree_laws.proofs.CopyMet.{MetBytes}
use Rattle.dcm_tree_laws.proofs.MadeBy.{made_there}
use Rattle.dcm_tree_laws.proofs.MetMade.{met_unnamed, MetAs, met_stays, met_copy}
use Rattle.dcm_tree_laws.proofs.UnnamedMade.{Ended, ended, is_ended}
use Rattle.dcm_tree_laws.proofs.Walks.{VisitsDo, walks_do}
use Rattle.dcm_tree_laws.proofs.Working.{whole_gives}

-- ---- a name

-- how the names of a run are done
record Goes {I O : Type 0} (h : Host I O) (w : Writer O) (start : Tree) (k : Manner) : Type 0 where
  of_output : IsNear k.output k.part
  tells : TellsAll h w
  by : k.keeps_names ≡ false
  none : at_path h start k.part ≡ None
  leads : h.leads Followed k.part ≡ place_of h k.part
  follows : FollowsLinks h start

-- what the row of a name says, as a run left it
data IsFirst {I O : Type 0} (h : Host I O) (k : Manner) (start now : Tree) (v : Visit) (done : Done) : Type 0 where
  copied : (mode : ℕ) → v.what ≡ File mode → is_media_index v.named.relative ≡ false → fate_again done.fate ≡ fates.There → (f : HasFile h start v) → CopyMade h k.task k.part k.output (start.bytes (number_of f.file.file)) done now → IsFirst h k start now v done
  met_other : (mode : ℕ) → v.what ≡ File mode → is_media_index v.named.relative ≡ false → done.fate ≡ fates.Taken → (f : HasFile h start v) → MetAs h false k.task k.part k.output (start.bytes (number_of f.file.file)) done now → IsFirst h k start now v done
  was_ended : (mode : ℕ) → v.what ≡ File mode → is_media_index v.named.relative ≡ false → is_written done.fate ≡ false → (f : HasFile h start v) → Ended k.task (start.bytes (number_of f.file.file)) done → IsFirst h k start now v done
  was_index : (mode : ℕ) → v.what ≡ File mode → is_media_index v.named.relative ≡ true → done ≡ without_name fates.MediaIndex → IsFirst h k start now v done
  was_no_file : ((mode : ℕ) → v.what ≢ File mode) → done ≡ without_name (fate_of v.what) → IsFirst h k start now v done

first_stays : {I O : Type 0} (h : Host I O) (k : Manner) (start t u : Tree) (v : Visit) (done : Done) → Stays h k.part k.output t u → IsFirst h k start t v done → IsFirst h k start u v done
first_stays h k start t u v done stays (copied mode is index written f c) = copied mode is index written f (copy_made_stays h k.task k.part k.output (start.bytes (number_of f.file.file)) done t u stays c)
first_stays h k start t u v done stays (met_other mode is index taken f c) = met_other mode is index taken f (met_stays h false k.task k.part k.output (start.bytes (number_of f.file.file)) done t u stays c)
first_stays h k start t u v done stays (was_ended mode is index not f e) = was_ended mode is index not f e
first_stays h k start t u v done stays (was_index mode is index d) = was_index mode is index d
first_stays h k start t u v done stays (was_no_file other d) = was_no_file other d

-- of a file that was there at the start, and is settled
abbrev Made : {I O : Type 0} → Host I O → Manner → (start now : Tree) → Visit → Done → Type 0
Made h k start now v done = FileWasThere h start v → FileIsSettledAs h k.part k.output v done → IsFirst h k start now v done

copy_of : {I O F E : Type 0} (h : Host I O) (r : Reader I) (w : Writer O) (e : Writer E) (k : Manner) (n : Named) (what : What) (start : Tree) (from : E) (before : FileSystem) (done : Done) (to : E) (after : FileSystem) → Goes h w start k → before.written ≡ None → Still h k.part start before.now
    → DoesName (working {F = F} h r w e) k n what from before (Ok done) to after → is_written done.fate ≡ true → (f : HasFile h start (visit_of n what)) → CopyMade h k.task k.part k.output (start.bytes (number_of f.file.file)) done after.now
copy_of {I} {O} {F} h r w e k n what start from before done to after goes none still does written f =
    let now : FileAt h Followed before.now n.path = file_still h k.part n.path start before.now goes.none still f.file in
    subst (λ (b : List ℕ). CopyMade h k.task k.part k.output b done after.now)
    (still.bytes (h.leads Followed n.path) f.file.file (apart_by start (h.leads Followed n.path) (place_of h k.part) f.file.file goes.none f.file.is) f.file.is)
    (copy_made {F = F} h r w e k n what from before done to after goes.tells goes.by none goes.of_output goes.leads f.text now does written)

-- how a row is settled
data Settled (fate : Fate) : Type 0 where
  was_written : is_written fate ≡ true → Settled fate
  was_there : fate ≡ fates.There → Settled fate
  ended_so : is_ended fate ≡ true → is_written fate ≡ false → Settled fate

settled_by : (fate : Fate) → is_settled fate ≡ true → Settled fate
settled_by fates.Written e = was_written refl
settled_by fates.Unplaced e = was_written refl
settled_by fates.There e = was_there refl
settled_by fates.Refused e = ended_so refl refl
settled_by fates.Pixels e = ended_so refl refl
settled_by fates.Unnamed e = ended_so refl refl
settled_by fates.Taken e = absurd (cc)
settled_by fates.LeftOut e = absurd (cc)
settled_by fates.MediaIndex e = absurd (cc)
settled_by fates.Unread e = absurd (cc)
settled_by fates.Unwritten e = absurd (cc)

by_fate : {I O F E : Type 0} (h : Host I O) (r : Reader I) (w : Writer O) (e : Writer E) (k : Manner) (n : Named) (what : What) (mode : ℕ) (start : Tree) (from : E) (before : FileSystem) (done : Done) (to : E) (after : FileSystem) → Settled done.fate → Goes h w start k
    → before.written ≡ None → Still h k.part start before.now → what ≡ File mode → is_media_index n.relative ≡ false → DoesUnnamed (working {F = F} h r w e) k n mode from before (Ok done) to after → k.keeps_names ≡ false → HasFile h start (visit_of n what)
    → IsSettled h k.part k.output (visit_of n what) done → IsFirst h k start after.now (visit_of n what) done
by_fate {I} {O} {F} h r w e k n what mode start from before done to after (was_written written) goes none still is index does by f settled =
    copied mode is index (written_again done.fate written) f (copy_of {F = F} h r w e k n what start from before done to after goes none still (files.a_file mode is (files.by_instance index by does)) written f)
by_fate {I} {O} {F} h r w e k n what mode start from before done to after (was_there there) goes none still is index does by f settled =
    let now : FileAt h Followed before.now n.path = file_still h k.part n.path start before.now goes.none still f.file in
    copied mode is index (ap fate_again there) f
    (subst (λ (b : List ℕ). CopyMade h k.task k.part k.output b done after.now)
    (still.bytes (h.leads Followed n.path) f.file.file (apart_by start (h.leads Followed n.path) (place_of h k.part) f.file.file goes.none f.file.is) f.file.is)
    (met_copy h k.task k.part k.output (before.now.bytes (number_of now.file)) done after.now
    (met_unnamed F h r w e (whole_gives h r w goes.tells) k goes.of_output goes.leads start goes.follows true n mode from before (Ok done) to after done still none f.text now does refl there (settled.elsewhere there))))
by_fate {I} {O} {F} h r w e k n what mode start from before done to after (ended_so so not) goes none still is index does by f settled =
    let now : FileAt h Followed before.now n.path = file_still h k.part n.path start before.now goes.none still f.file in
    was_ended mode is index not f
    (subst (λ (b : List ℕ). Ended k.task b done)
    (still.bytes (h.leads Followed n.path) f.file.file (apart_by start (h.leads Followed n.path) (place_of h k.part) f.file.file goes.none f.file.is) f.file.is)
    (ended F h r w e (whole_gives h r w goes.tells) k goes.leads n mode from before (Ok done) to after done f.text now does refl not so))

by_settled : {I O F E : Type 0} (h : Host I O) (r : Reader I) (w : Writer O) (e : Writer E) (k : Manner) (n : Named) (what : What) (mode : ℕ) (start : Tree) (from : E) (before : FileSystem) (done : Done) (to : E) (after : FileSystem) → Goes h w start k
    → before.written ≡ None → Still h k.part start before.now → what ≡ File mode → is_media_index n.relative ≡ false → DoesUnnamed (working {F = F} h r w e) k n mode from before (Ok done) to after → k.keeps_names ≡ false → HasFile h start (visit_of n what)
    → IsSettledAs h k.part k.output (visit_of n what) done → IsFirst h k start after.now (visit_of n what) done
by_settled {I} {O} {F} h r w e k n what mode start from before done to after goes none still is index does by f (is_so settled) =
    by_fate {F = F} h r w e k n what mode start from before done to after (settled_by done.fate settled.settled) goes none still is index does by f settled
by_settled {I} {O} {F} h r w e k n what mode start from before done to after goes none still is index does by f (has_other taken elsewhere) =
    let now : FileAt h Followed before.now n.path = file_still h k.part n.path start before.now goes.none still f.file in
    met_other mode is index taken f
    (subst (λ (b : List ℕ). MetAs h false k.task k.part k.output b done after.now)
    (still.bytes (h.leads Followed n.path) f.file.file (apart_by start (h.leads Followed n.path) (place_of h k.part) f.file.file goes.none f.file.is) f.file.is)
    (met_unnamed F h r w e (whole_gives h r w goes.tells) k goes.of_output goes.leads start goes.follows false n mode from before (Ok done) to after done still none f.text now does refl taken elsewhere))

name_made : {I O F E : Type 0} (h : Host I O) (r : Reader I) (w : Writer O) (e : Writer E) (k : Manner) (n : Named) (what : What) (start : Tree) (from : E) (before : FileSystem) (done : Done) (to : E) (after : FileSystem) → Goes h w start k → before.written ≡ None → Still h k.part start before.now
    → DoesName (working {F = F} h r w e) k n what from before (Ok done) to after → Made h k start after.now (visit_of n what) done
name_made h r w e k n what start from before done to after goes none still (files.a_file mode is (files.an_index index told ok same)) there settled = was_index mode is index (same_ok (Ok done) (without_name fates.MediaIndex) done ok refl)
name_made h r w e k n what start from before done to after goes none still (files.a_file mode is (files.keeps_name became index kept does ok)) there settled = true_false k.keeps_names kept goes.by
name_made {I} {O} {F} h r w e k n what start from before done to after goes none still (files.a_file mode is (files.by_instance index not does)) there settled =
    by_settled {F = F} h r w e k n what mode start from before done to after goes none still is index does not (there mode is) (settled mode is index)
name_made h r w e k n what start from before done to after goes none still (files.no_file other told ok same) there settled = was_no_file other (same_ok (Ok done) (without_name (fate_of what)) done ok refl)

-- ---- all names

record Good {I O W E : Type 0} (h : Host I O) (start : Tree) (m : Writer W) (shared : Shared) (headed : W) (x : (Work W × E) × List Visit) (s : FileSystem) : Type 0 where
  same : x.0.0.shared ≡ shared
  none : s.written ≡ None
  still : Still h (manner_of shared.manner).part start s.now
  rows : x.0.0.stop ≡ None → HasRows m (Made h (manner_of shared.manner) start s.now) shared headed x.1 x.0.0.manifest

abbrev StaysGood : {I O W E : Type 0} → Host I O → Tree → Writer W → Shared → W → ((Work W × E) × List Visit) → FileSystem → ((Work W × E) × List Visit) → FileSystem → Type 0
StaysGood h start m shared headed a s b t = Good h start m shared headed a s → Good h start m shared headed b t

closed : {I O W E : Type 0} (h : Host I O) (start : Tree) (m : Writer W) (shared : Shared) (headed : W) → IsClosed IsSame (StaysGood {E = E} h start m shared headed)
closed h start m shared headed = record {
  none = λ v s t e good. subst (Good h start m shared headed v) (sym e) good;
  still = λ v s t e good. subst (Good h start m shared headed v) (sym e) good;
  then = λ a b c s t u first second good. second (first good);
}

by_shared : {I O W : Type 0} (h : Host I O) (m : Writer W) (headed : W) (visits : List Visit) (manifest : W) (start now : Tree) (a b : Shared) → a ≡ b → HasRows m (Made h (manner_of a.manner) start now) a headed visits manifest → HasRows m (Made h (manner_of b.manner) start now) b headed visits manifest
by_shared h m headed visits manifest start now a b is rows = subst (λ (s : Shared). HasRows m (Made h (manner_of s.manner) start now) s headed visits manifest) is rows

-- what is known before a name is done, by what it shares with the others
record Known {I O : Type 0} (h : Host I O) (w : Writer O) (start : Tree) (s : FileSystem) (shared : Shared) : Type 0 where
  goes : Goes h w start (manner_of shared.manner)
  still : Still h (manner_of shared.manner).part start s.now

visits_good : {I O F W E : Type 0} (h : Host I O) (start : Tree) (r : Reader I) (w : Writer O) (e : Writer E) (m : Writer W) (shared : Shared) (headed : W) → Goes h w start (manner_of shared.manner) → VisitsDo (StaysGood h start m shared headed) (noted (visits_of (working {F = F} h r w e) m))
visits_good {I} {O} {F} {W} {E} h start r w e m shared headed goes from before n what result to after v good =
    let here : Shared = from.0.0.shared in
    let k : Manner = manner_of here.manner in
    let known : Known h w start before here = subst (Known h w start before) (sym good.same) (record { goes = goes; still = good.still }) in
    let left : Leaves h k.part k.output before after = leaves h (IsOutput h (as_whole h r) w) k.part k.output before after good.none known.goes.of_output
    (visit_name {F = F} h (as_whole h r) w e m here _ from.0.1 before n what result _ to.0.1 after (over_visit {F = F} h r w e m here _ from.0.1 before n what result _ to.0.1 after v.0.0)) in
    record {
      same = v.0.1 ∙ good.same;
      none = left.none;
      still = subst (λ (s : Shared). Still h (manner_of s.manner).part start after.now) good.same (then_stays h k.part k.output start before.now after.now known.still left.stays);
      rows = λ stop. by_shared h m headed to.1 to.0.0.manifest start after.now here shared good.same
          (visit_rows (working {F = F} h r w e) m here headed (Made h k start before.now) (Made h k start after.now)
          (λ x done made there settled. first_stays h k start before.now after.now x done left.stays (made there settled)) _ from.0.1 before n what result _ to.0.1 after
          (λ done mid does. name_made {F = F} h r w e k n what start from.0.1 before done mid after known.goes good.none known.still does) from.1 to.1 v.1 v.0.0 stop
          (λ none. by_shared h m headed from.1 from.0.0.manifest start before.now shared here (sym good.same) (good.rows none)));
    }

first : {I O W E : Type 0} (h : Host I O) (m : Writer W) (headed : W) (start : Work W) (from : E) (before : FileSystem) → before.written ≡ None → start.manifest ≡ headed → Good h before.now m start.shared headed ((start, from), []) before
first h m headed start from before none is = record {
  same = refl;
  none = none;
  still = record { there = λ place f apart at. at; bytes = λ place f apart at. refl };
  rows = λ stop. no_rows m (Made h (manner_of start.shared.manner) before.now before.now) start.shared headed start.manifest is;
}

goes_on : {I O : Type 0} (h : Host I O) (w : Writer O) (start : Tree) (run : TreeRun) (part : List ℕ) (shared : Shared) → Shares run part shared → part ≡ part_path run → TellsAll h w → run.options.keeps_names ≡ false → at_path h start (part_path run) ≡ None → FollowsLinks h start
    → Goes h w start (manner_of shared.manner)
goes_on h w start run part shared shares is tells by none follows = subst (Goes h w start) (sym shares.manner) (record {
  of_output = part_of_output run part is;
  tells = tells;
  by = by;
  none = subst (λ (p : List ℕ). at_path h start p ≡ None) (sym is) none;
  leads = subst (λ (p : List ℕ). h.leads Followed p ≡ place_of h p) (sym is) (follows (part_path run) (none_other h start (part_path run) none));
  follows = follows;
})

-- another file that was met is there
other_found : {I O : Type 0} (h : Host I O) (task : Task) (part output path : List ℕ) (start now : Tree) (done : Done) → IsUtf8 path → Still h part start now → (f : FileAt h Followed start path) → h.leads Followed path ≢ place_of h part
    → (c : MetAs h false task part output (start.bytes (number_of f.file)) done now) → HasOther h task output now path c.uids
other_found h task part output path start now done text still f apart c = record {
  text = text;
  input = record { file = f.file; is = still.there (h.leads Followed path) f.file apart f.is; kind = f.kind };
  made = c.bytes;
  verdict = c.verdict;
  comes = subst (λ (b : List ℕ). ComesTo task b c.bytes c.verdict) (sym (still.bytes (h.leads Followed path) f.file apart f.is)) c.comes;
  is_done = c.done_is;
  names = c.names;
  there = made_there h (λ mode its. MetBytes false c.bytes its) part output (instance_name c.uids) now c.at;
  other = c.at.out.whole;
}

-- it stands for the next run
stands : {I O : Type 0} (h : Host I O) (k : Manner) (start now : Tree) (v : Visit) (done : Done) → at_path h start k.part ≡ None → Still h k.part start now → IsFirst h k start now v done → Stands h k.task k.output now v done
stands h k start now v done none still (copied mode is index written f c) = of_copy mode is index written (record {
  uids = c.uids;
  named = c.named;
  copy = copy_found h k.task k.part k.output v.named.path start now done f.text still f.file (apart_by start (h.leads Followed v.named.path) (place_of h k.part) f.file.file none f.file.is) c;
})
stands h k start now v done none still (met_other mode is index taken f c) = of_other mode is index taken (record {
  uids = c.uids;
  named = c.named;
  met = other_found h k.task k.part k.output v.named.path start now done f.text still f.file (apart_by start (h.leads Followed v.named.path) (place_of h k.part) f.file.file none f.file.is) c;
})
stands h k start now v done none still (was_ended mode is index not f x) =
    unnamed mode is index (record { text = f.text; file = file_still h k.part v.named.path start now none still f.file })
    (subst (λ (b : List ℕ). EndsUnnamed k.task b done.fate) (sym (still.bytes (h.leads Followed v.named.path) f.file.file (apart_by start (h.leads Followed v.named.path) (place_of h k.part) f.file.file none f.file.is) f.file.is)) x.ends) not x.nameless
stands h k start now v done none still (was_index mode is index d) = an_index mode is index d
stands h k start now v done none still (was_no_file other d) = no_file other d

rows_found : {I O W : Type 0} (h : Host I O) (k : Manner) (start now : Tree) (m : Writer W) (shared : Shared) (headed : W) (visits : List Visit) (manifest : W) → at_path h start k.part ≡ None → Still h k.part start now → HasRows m (Made h k start now) shared headed visits manifest
    → HasRows m (WasCopied h k.task k.part k.output start now) shared headed visits manifest
rows_found h k start now m shared headed visits manifest none still x = record {
  text = x.text;
  rows = rows_kept (Made h k start now) (WasCopied h k.task k.part k.output start now) shared (λ v done made there settled. stands h k start now v done none still (made there settled)) visits x.text x.rows;
  manifest_is = x.manifest_is;
}

pub copies_are_there : {I O F W E : Type 0} (r : Reader I) (w : Writer O) (m : Writer W) (e : Writer E) → CopiesAreThere F r w m e
copies_are_there {I} {O} {F} {W} {E} r w m e h run path begun opened headed from before status left to after tells by quiet part none follows v stop =
    let shared : Shared = v.start.shared in
    let d = working_folders h (sure (folders_do {F = F} h)) in
    let goes : Goes h w before.now (manner_of shared.manner) = goes_on h w before.now run begun.part.items shared v.begins.shares part tells by none follows in
    let walk = walk_noted d (visits_of (working {F = F} h r w e) m) path begun.number opened (v.start, from) before v.walked (v.last, v.told) after v.walks [] in
    let good : Good h before.now m shared headed ((v.last, v.told), walk.0) after =
    walks_do d (only_quiet d (working_quiet h)) (StaysGood h before.now m shared headed) (closed h before.now m shared headed) (noted (visits_of (working {F = F} h r w e) m))
    (visits_good {F = F} h before.now r w e m shared headed goes) path begun.number opened ((v.start, from), []) before v.walked ((v.last, v.told), walk.0) after walk.1
    (first h m headed v.start from before quiet (ap (λ p. p.manifest) v.begins.nothing)) in
    let rows : HasRows m (WasCopied h (task_of run.task) (part_path run) run.output.now before.now after.now) shared headed walk.0 v.last.manifest =
    subst (λ (p : List ℕ). HasRows m (WasCopied h (task_of run.task) p run.output.now before.now after.now) shared headed walk.0 v.last.manifest) part
    (subst (λ (k : Manner). HasRows m (WasCopied h k.task k.part k.output before.now after.now) shared headed walk.0 v.last.manifest) v.begins.shares.manner
    (rows_found h (manner_of shared.manner) before.now after.now m shared headed walk.0 v.last.manifest goes.none good.still (good.rows stop))) in
    record {
      visits = walk.0;
      text = rows.text;
      walks = walk.1;
      rows = rows.rows;
      manifest = same_manifest m left v.last.manifest headed rows.text v.left_is rows.manifest_is;
    }

pub copies_by_list : {I O F W E : Type 0} (r : Reader I) (w : Writer O) (m : Writer W) (e : Writer E) → CopiesAreThereOfList F r w m e
copies_by_list {I} {O} {F} {W} {E} r w m e h run list begun input headed from before status left to after read tells by quiet part none follows v stop =
    let shared : Shared = v.start.shared in
    let d = working_folders h (sure (folders_do {F = F} h)) in
    let goes : Goes h w before.now (manner_of shared.manner) = goes_on h w before.now run begun.part.items shared v.begins.shares part tells by none follows in
    let walk = list_noted d (visits_of (working {F = F} h r w e) m) (as_whole h r).gets begun.number (v.start, from) before input v.walked (v.last, v.told) after read v.walks [] in
    let good : Good h before.now m shared headed ((v.last, v.told), walk.0) after =
    lines_do d (only_quiet d (working_quiet h)) (StaysGood h before.now m shared headed) (closed h before.now m shared headed) (noted (visits_of (working {F = F} h r w e) m))
    (visits_good {F = F} h before.now r w e m shared headed goes) (as_whole h r).gets begun.number ((v.start, from), []) before input v.walked ((v.last, v.told), walk.0) after read walk.1
    (first h m headed v.start from before quiet (ap (λ p. p.manifest) v.begins.nothing)) in
    let rows : HasRows m (WasCopied h (task_of run.task) (part_path run) run.output.now before.now after.now) shared headed walk.0 v.last.manifest =
    subst (λ (p : List ℕ). HasRows m (WasCopied h (task_of run.task) p run.output.now before.now after.now) shared headed walk.0 v.last.manifest) part
    (subst (λ (k : Manner). HasRows m (WasCopied h k.task k.part k.output before.now after.now) shared headed walk.0 v.last.manifest) v.begins.shares.manner
    (rows_found h (manner_of shared.manner) before.now after.now m shared headed walk.0 v.last.manifest goes.none good.still (good.rows stop))) in
    record {
      visits = walk.0;
      text = rows.text;
      walks = walk.1;
      rows = rows.rows;
      manifest = same_manifest m left v.last.manifest headed rows.text v.left_is rows.manifest_is;
    }
