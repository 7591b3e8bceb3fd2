-- A run that goes on with what is there leaves it, and all as it is where all outputs are there.
use Rattle.std.proofs.Common.{◌≡◌, ◌∙◌, refl, sym, ap, subst, ℕ, List, [], ◌∷◌, ◌++◌, true, false, Option, None, Result, Ok, Err}
use Rattle.dcm_lemmas.proofs.Options.{none_or_some}
use Rattle.dcm_devices.specs.Writing.{Writer}
use Rattle.dcm_files.specs.declared.folders.FoundKind.{FoundKind}
use Rattle.dcm_walk.specs.Visits.{Named}
use Rattle.dcm_walk.specs.declared.visitor.Stopped.{Stopped}
use Rattle.dcm_walk.specs.declared.visitor.What.{What}
use Rattle.dcm_walk.specs.declared.visitor.What.TheVariants.{File}
use Rattle.dcm_cli.specs.Calls.{Reader}
use Rattle.dcm_trees.specs.declared.file.Done.{Done}
use Rattle.dcm_trees.specs.declared.progress.Stop.{Stop as RunStop}
use Rattle.dcm_trees.specs.declared.progress.Shared.{Shared}
use Rattle.dcm_trees.specs.declared.progress.Stop.{Stop}
use Rattle.dcm_trees.specs.declared.progress.Work.{Work}
use Rattle.dcm_trees.specs.declared.run.TreeRun.{TreeRun}
use Rattle.dcm_trees.specs.File as files
use Rattle.dcm_trees.specs.File.{DoesFile, DoesName, is_media_index}
use Rattle.dcm_trees.specs.Manner.{Manner, manner_of}
use Rattle.dcm_trees.specs.Run.{Shares}
use Rattle.dcm_trees.specs.Share.{is_of}
use Rattle.dcm_trees.specs.Work as spec
use Rattle.dcm_trees.specs.Work.{Progress, VisitsName, visits_of}
use Rattle.dcm_tree_laws.specs.Again.{IsAt, IsThere, sure, over_sure, left_there, WasLeft, HasThere, OfAll, AgainIsStill, AgainIsStillOfList}
use Rattle.dcm_tree_laws.specs.FileSystem.{FileSystem, Tree, Host, place_of, at_path, may_do, folders_do}
use Rattle.dcm_tree_laws.specs.Laws.{IsOutput, part_path}
use Rattle.dcm_tree_laws.specs.Rows.{Visit, noted}
use Rattle.dcm_tree_laws.proofs.Near.{IsNear}
use Rattle.dcm_tree_laws.proofs.Left.{sure_quiet, there_is_left}
use Rattle.dcm_tree_laws.proofs.Lists.{lines_do}
use Rattle.dcm_tree_laws.proofs.Noted.{walk_noted, list_noted}
use Rattle.dcm_tree_laws.proofs.OutputsBy.{Leaves, leaves, Still, then_stays, part_of_output}
use Rattle.dcm_tree_laws.proofs.Quiet.{only_quiet, IsClosed, IsSame}
use Rattle.dcm_tree_laws.proofs.RowsBy.{HasRows, visit_of, visit_rows, no_rows, same_manifest}
use Rattle.dcm_tree_laws.proofs.Runs.{visit_name}
use Rattle.dcm_tree_laws.proofs.Sure.{Implies}
use Rattle.dcm_tree_laws.proofs.Walks.{VisitsDo, walks_do}
use Rattle.dcm_tree_laws.proofs.Works.{allows_same, visits_name}

-- ---- what is there stays there

abbrev pub at_stays : {I O : Type 0} (h : Host I O) (kind : FoundKind) (part path : List ℕ) (start now : Tree) → start.at (place_of h part) ≡ None → Still h part start now → IsAt h kind start path → IsAt h kind now path
at_stays h kind part path start now none still at = record {
  text = at.text;
  found = at.found;
  is = still.there (place_of h path) at.found (λ e. none_or_some (start.at (place_of h part)) at.found none (ap start.at (sym e) ∙ at.is)) at.is;
  kind_is = at.kind_is;
}

abbrev pub there_stays : {I O : Type 0} (h : Host I O) (part output relative : List ℕ) (start now : Tree) → start.at (place_of h part) ≡ None → Still h part start now → IsThere h output relative start → IsThere h output relative now
there_stays h part output relative start now none still there = record {
  fits = there.fits;
  file = at_stays h _ part _ start now none still there.file;
  way = λ folder behind is. at_stays h _ part _ start now none still (there.way folder behind is);
}

-- ---- a name

pub sure_may : {I O F : Type 0} (h : Host I O) → Implies (sure (folders_do {F = F} h)) (folders_do {F = F} h)
sure_may h = record {
  sees = λ before path links r after call. call.0;
  modes = λ before folder name r after call. call.0;
  folder = λ before path mode r after call. call;
  file = λ before path mode r after call. call;
  link = λ before from to r after call. call;
}

-- where its output is there, if it is a file
abbrev OutputThere : {I O : Type 0} → Host I O → Manner → Tree → Named → What → Type 0
OutputThere h k t n what = (mode : ℕ) → what ≡ File mode → is_media_index n.relative ≡ false → IsThere h k.output n.relative t

file_same : {I O F E : Type 0} (h : Host I O) (r : Reader I) (w : Writer O) (e : Writer E) (k : Manner) (n : Named) (mode : ℕ) (from : E) (before : FileSystem) (result : Result Done RunStop) (to : E) (after : FileSystem) → k.continues ≡ true → k.keeps_names ≡ true
    → OutputThere h k before.now n (File mode) → DoesFile (over_sure {F = F} h r w e) k n mode from before result to after → after ≡ before
file_same h r w e k n mode from before result to after goes keeps there (files.an_index index told is same) = same
file_same {I} {O} {F} h r w e k n mode from before result to after goes keeps there (files.keeps_name became index kept does is) =
    (there_is_left {F = F} r w e h k n mode from before result to after goes keeps index (there mode refl index) (files.a_file mode refl (files.keeps_name became index kept does is))).same
file_same h r w e k n mode from before result to after goes keeps there (files.by_instance index not does) = absurd (cc)

name_same : {I O F E : Type 0} (h : Host I O) (r : Reader I) (w : Writer O) (e : Writer E) (k : Manner) (n : Named) (what : What) (from : E) (before : FileSystem) (result : Result Done RunStop) (to : E) (after : FileSystem) → k.continues ≡ true → k.keeps_names ≡ true
    → OutputThere h k before.now n what → DoesName (over_sure {F = F} h r w e) k n what from before result to after → after ≡ before
name_same {I} {O} {F} h r w e k n what from before result to after goes keeps there (files.a_file mode is does) =
    file_same {F = F} h r w e k n mode from before result to after goes keeps (subst (OutputThere h k before.now n) is there) does
name_same h r w e k n what from before result to after goes keeps there (files.no_file other told is same) = same

done_there : (result : Result Done RunStop) (done : Done) → result ≡ Ok left_there → result ≡ Ok done → done ≡ left_there
done_there result done is ok = cc

-- it has its row
name_left : {I O F E : Type 0} (h : Host I O) (r : Reader I) (w : Writer O) (e : Writer E) (k : Manner) (n : Named) (what : What) (from : E) (before : FileSystem) (done : Done) (to : E) (after : FileSystem) (mode : ℕ) → k.continues ≡ true → k.keeps_names ≡ true → what ≡ File mode
    → is_media_index n.relative ≡ false → IsThere h k.output n.relative before.now → DoesName (over_sure {F = F} h r w e) k n what from before (Ok done) to after → done ≡ left_there
name_left {I} {O} {F} h r w e k n what from before done to after mode goes keeps is no_index there does =
    done_there (Ok done) done (there_is_left {F = F} r w e h k n mode from before (Ok done) to after goes keeps no_index there (subst (λ (x : What). DoesName (over_sure {F = F} h r w e) k n x from before (Ok done) to after) is does)).row refl

visit_same : {I O F W E : Type 0} (h : Host I O) (r : Reader I) (w : Writer O) (e : Writer E) (m : Writer W) (shared : Shared) (from : Progress W) (told_before : E) (before : FileSystem) (n : Named) (what : What) (result : Result (Unit {0}) Stopped) (to : Progress W) (told : E) (after : FileSystem)
    → (manner_of shared.manner).continues ≡ true → (manner_of shared.manner).keeps_names ≡ true → (is_of shared.part.number shared.part.count n.relative ≡ true → OutputThere h (manner_of shared.manner) before.now n what)
    → VisitsName (over_sure {F = F} h r w e) m shared from told_before before n what result to told after → after ≡ before
visit_same h r w e m shared from told_before before n what result to told after goes keeps there (spec.of_another none is t same ok) = same
visit_same {I} {O} {F} h r w e m shared from told_before before n what result to told after goes keeps there (spec.was_done done mid share does ends) =
    name_same {F = F} h r w e (manner_of shared.manner) n what told_before before (Ok done) mid after goes keeps (there share) does
visit_same {I} {O} {F} h r w e m shared from told_before before n what result to told after goes keeps there (spec.ends_run p s share does is ok) =
    name_same {F = F} h r w e (manner_of shared.manner) n what told_before before (Err p) told after goes keeps (there share) does

-- ---- all names

-- how they are done
record Goes (k : Manner) : Type 0 where
  of_output : IsNear k.output k.part
  goes : k.continues ≡ true
  keeps : k.keeps_names ≡ true

pub before_all : (Is : Visit → Type 0) (earlier : List Visit) (v : Visit) → OfAll Is (earlier ++ v ∷ []) → OfAll Is earlier
before_all Is [] v all = tt
before_all Is (x ∷ earlier) v all = (all.0, before_all Is earlier v all.1)

pub last_of_all : (Is : Visit → Type 0) (earlier : List Visit) (v : Visit) → OfAll Is (earlier ++ v ∷ []) → Is v
last_of_all Is [] v all = all.0
last_of_all Is (x ∷ earlier) v all = last_of_all Is earlier v all.1

-- what is so after each of them
record Kept {I O W : Type 0} (h : Host I O) (start : FileSystem) (m : Writer W) (headed : W) (visits : List Visit) (stop : Option Stop) (manifest : W) (s : FileSystem) (shared : Shared) : Type 0 where
  goes : Goes (manner_of shared.manner)
  none : start.now.at (place_of h (manner_of shared.manner).part) ≡ None
  still : Still h (manner_of shared.manner).part start.now s.now
  rows : stop ≡ None → HasRows m (WasLeft h (manner_of shared.manner).output start.now) shared headed visits manifest
  same : OfAll (HasThere h (manner_of shared.manner).output start.now shared) visits → s ≡ start

record Good {I O W E : Type 0} (h : Host I O) (start : FileSystem) (m : Writer W) (shared : Shared) (headed : W) (x : (Work W × E) × List Visit) (s : FileSystem) : Type 0 where
  shares : x.0.0.shared ≡ shared
  quiet : s.written ≡ None
  kept : Kept h start m headed x.1 x.0.0.stop x.0.0.manifest s shared

abbrev StaysGood : {I O W E : Type 0} → Host I O → FileSystem → Writer W → Shared → W → ((Work W × E) × List Visit) → FileSystem → ((Work W × E) × List Visit) → FileSystem → Type 0
StaysGood h start m shared headed a s b t = Good h start m shared headed a s → Good h start m shared headed b t

closed : {I O W E : Type 0} (h : Host I O) (start : FileSystem) (m : Writer W) (shared : Shared) (headed : W) → IsClosed IsSame (StaysGood {E = E} h start m shared headed)
closed h start m shared headed = record {
  none = λ v s t e good. subst (Good h start m shared headed v) (sym e) good;
  still = λ v s t e good. subst (Good h start m shared headed v) (sym e) good;
  then = λ a b c s t u first second good. second (first good);
}

visits_good : {I O F W E : Type 0} (h : Host I O) (start : FileSystem) (r : Reader I) (w : Writer O) (e : Writer E) (m : Writer W) (shared : Shared) (headed : W) → VisitsDo (StaysGood h start m shared headed) (noted (visits_of (over_sure {F = F} h r w e) m))
visits_good {I} {O} {F} {W} {E} h start r w e m shared headed from before n what result to after v good =
    let here : Shared = from.0.0.shared in
    let k : Manner = manner_of here.manner in
    let known : Kept h start m headed from.1 from.0.0.stop from.0.0.manifest before here = subst (Kept h start m headed from.1 from.0.0.stop from.0.0.manifest before) (sym good.shares) good.kept in
    let left : Leaves h k.part k.output before after = leaves h (IsOutput h r w) k.part k.output before after good.quiet known.goes.of_output
    (visit_name {F = F} h r w e m here _ from.0.1 before n what result _ to.0.1 after (visits_name (over_sure {F = F} h r w e) (may_do h) (allows_same (may_do h)) (folders_do {F = F} h) (sure_may {F = F} h) m here _ from.0.1 before n what result _ to.0.1 after v.0.0)) in
    let then : Kept h start m headed to.1 to.0.0.stop to.0.0.manifest after here = record {
      goes = known.goes;
      none = known.none;
      still = then_stays h k.part k.output start.now before.now after.now known.still left.stays;
      rows = λ stop. visit_rows (over_sure {F = F} h r w e) m here headed (WasLeft h k.output start.now) (WasLeft h k.output start.now) (λ x done so. so) _ from.0.1 before n what result _ to.0.1 after
          (λ done mid does mode is no_index there. name_left {F = F} h r w e k n what from.0.1 before done mid after mode known.goes.goes known.goes.keeps is no_index
          (there_stays h k.part k.output n.relative start.now before.now known.none known.still there) does) from.1 to.1 v.1 v.0.0 stop known.rows;
      same = λ all.
          let each : OfAll (HasThere h k.output start.now here) (from.1 ++ visit_of n what ∷ []) = subst (OfAll (HasThere h k.output start.now here)) v.1 all in
          visit_same {F = F} h r w e m here _ from.0.1 before n what result _ to.0.1 after known.goes.goes known.goes.keeps
          (λ share mode is no_index. there_stays h k.part k.output n.relative start.now before.now known.none known.still (last_of_all (HasThere h k.output start.now here) from.1 (visit_of n what) each mode is share no_index)) v.0.0
          ∙ known.same (before_all (HasThere h k.output start.now here) from.1 (visit_of n what) each);
    } in
    record { shares = v.0.1 ∙ good.shares; quiet = left.none; kept = subst (Kept h start m headed to.1 to.0.0.stop to.0.0.manifest after) good.shares then }

goes_on : (run : TreeRun) (part : List ℕ) (shared : Shared) → Shares run part shared → part ≡ part_path run → run.options.continues ≡ true → run.options.keeps_names ≡ true → Goes (manner_of shared.manner)
goes_on run part shared shares is goes keeps = subst Goes (sym shares.manner) (record { of_output = part_of_output run part is; goes = goes; keeps = keeps })

first : {I O W E : Type 0} (h : Host I O) (m : Writer W) (headed : W) (run : TreeRun) (part : List ℕ) (start : Work W) (from : E) (before : FileSystem) → before.written ≡ None → start.manifest ≡ headed → Shares run part start.shared → part ≡ part_path run
    → run.options.continues ≡ true → run.options.keeps_names ≡ true → at_path h before.now (part_path run) ≡ None → Good h before m start.shared headed ((start, from), []) before
first h m headed run part start from before quiet is shares at goes keeps none = record {
  shares = refl;
  quiet = quiet;
  kept = record {
    goes = goes_on run part start.shared shares at goes keeps;
    none = subst (λ (k : Manner). before.now.at (place_of h k.part) ≡ None) (sym shares.manner) (subst (λ (p : List ℕ). before.now.at (place_of h p) ≡ None) (sym at) none);
    still = record { there = λ place f apart x. x; bytes = λ place f apart x. refl };
    rows = λ stop. no_rows m (WasLeft h (manner_of start.shared.manner).output before.now) start.shared headed start.manifest is;
    same = λ all. refl;
  };
}

pub again_is_still : {I O F W E : Type 0} (r : Reader I) (w : Writer O) (m : Writer W) (e : Writer E) → AgainIsStill F r w m e
again_is_still {I} {O} {F} {W} {E} r w m e h run path begun opened headed from before status left to after goes keeps quiet part none v stop =
    let shared : Shared = v.start.shared in
    let d = sure (folders_do {F = F} h) in
    let walk = walk_noted d (visits_of (over_sure {F = F} h r w e) m) path begun.number opened (v.start, from) before v.walked (v.last, v.told) after v.walks [] in
    let good : Good h before m shared headed ((v.last, v.told), walk.0) after =
    walks_do d (only_quiet d (sure_quiet h)) (StaysGood h before m shared headed) (closed h before m shared headed) (noted (visits_of (over_sure {F = F} h r w e) m))
    (visits_good {F = F} h before r w e m shared headed) path begun.number opened ((v.start, from), []) before v.walked ((v.last, v.told), walk.0) after walk.1
    (first h m headed run begun.part.items v.start from before quiet (ap (λ p. p.manifest) v.begins.nothing) v.begins.shares part goes keeps none) in
    let rows : HasRows m (WasLeft h run.output.now before.now) shared headed walk.0 v.last.manifest =
    subst (λ (k : Manner). HasRows m (WasLeft h k.output before.now) shared headed walk.0 v.last.manifest) v.begins.shares.manner (good.kept.rows stop) in
    record {
      visits = walk.0;
      text = rows.text;
      walks = walk.1;
      rows = rows.rows;
      manifest = same_manifest m left v.last.manifest headed rows.text v.left_is rows.manifest_is;
      still = subst (λ (k : Manner). OfAll (HasThere h k.output before.now shared) walk.0 → after ≡ before) v.begins.shares.manner good.kept.same;
    }

pub still_by_list : {I O F W E : Type 0} (r : Reader I) (w : Writer O) (m : Writer W) (e : Writer E) → AgainIsStillOfList F r w m e
still_by_list {I} {O} {F} {W} {E} r w m e h run list begun input headed from before status left to after read goes keeps quiet part none v stop =
    let shared : Shared = v.start.shared in
    let d = sure (folders_do {F = F} h) in
    let walk = list_noted d (visits_of (over_sure {F = F} h r w e) m) r.gets begun.number (v.start, from) before input v.walked (v.last, v.told) after read v.walks [] in
    let good : Good h before m shared headed ((v.last, v.told), walk.0) after =
    lines_do d (only_quiet d (sure_quiet h)) (StaysGood h before m shared headed) (closed h before m shared headed) (noted (visits_of (over_sure {F = F} h r w e) m))
    (visits_good {F = F} h before r w e m shared headed) r.gets begun.number ((v.start, from), []) before input v.walked ((v.last, v.told), walk.0) after read walk.1
    (first h m headed run begun.part.items v.start from before quiet (ap (λ p. p.manifest) v.begins.nothing) v.begins.shares part goes keeps none) in
    let rows : HasRows m (WasLeft h run.output.now before.now) shared headed walk.0 v.last.manifest =
    subst (λ (k : Manner). HasRows m (WasLeft h k.output before.now) shared headed walk.0 v.last.manifest) v.begins.shares.manner (good.kept.rows stop) in
    record {
      visits = walk.0;
      text = rows.text;
      walks = walk.1;
      rows = rows.rows;
      manifest = same_manifest m left v.last.manifest headed rows.text v.left_is rows.manifest_is;
      still = subst (λ (k : Manner). OfAll (HasThere h k.output before.now shared) walk.0 → after ≡ before) v.begins.shares.manner good.kept.same;
    }
