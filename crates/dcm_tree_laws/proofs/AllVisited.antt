-- A run over a folder visits each file below it once, where listing a folder gives the names in it.
use Rattle.std.proofs.Common.{◌≡◌, ◌∙◌, refl, sym, ap, subst, inl, inr, ◌⊎◌, ℕ, ◌+◌, ◌≤◌, List, [], ◌∷◌, ◌++◌, length, take, drop, Option, Some, None, Result, Ok, arith, length-append}
use Rattle.std.specs.Prelude.{◌≢◌, codes, true}
use Rattle.std.proofs.lemmas.List.{length-take, length-drop}
use Rattle.dcm_lemmas.proofs.Options.{none_or_some}
use Rattle.dcm_devices.specs.Writing.{Writer}
use Rattle.dcm_files.specs.Folders.{FoldersDo}
use Rattle.dcm_files.specs.declared.folders.Found.{Found}
use Rattle.dcm_names.specs.Names.{NAME_LIMIT}
use Rattle.dcm_walk.specs.Folder.{WalksFolder, LEVELS, named_at}
use Rattle.dcm_walk.specs.Names.{PATH_LIMIT, below, leads_below}
use Rattle.dcm_walk.specs.Visits.{Named}
use Rattle.dcm_walk.specs.declared.folder.FolderNumber.{FolderNumber}
use Rattle.dcm_walk.specs.declared.folder.Walk.{Walk}
use Rattle.dcm_walk.specs.declared.visitor.Stopped.{Stopped}
use Rattle.dcm_walk.specs.declared.visitor.What.{What}
use Rattle.dcm_walk.specs.declared.visitor.What.TheVariants.{File, Unseen}
use Rattle.dcm_cli.specs.Calls.{Reader}
use Rattle.dcm_trees.specs.declared.beginning.Begun.{Begun}
use Rattle.dcm_trees.specs.declared.progress.Shared.{Shared}
use Rattle.dcm_trees.specs.declared.progress.Work.{Work}
use Rattle.dcm_trees.specs.declared.run.TreeRun.{TreeRun}
use Rattle.dcm_trees.specs.Manner.{Manner, manner_of}
use Rattle.dcm_trees.specs.Run.{Shares}
use Rattle.dcm_trees.specs.Tree.{VisitsAll}
use Rattle.dcm_trees.specs.Work.{visits_of}
use Rattle.dcm_trees.specs.World.{world}
use Rattle.dcm_tree_laws.specs.Again.{OfAll}
use Rattle.dcm_tree_laws.specs.Course.{IsMade, IsCleared, IsTried, Ready}
use Rattle.dcm_tree_laws.specs.FileSystem.{FileSystem, Tree, Host, number_of, place_of, at_path, may_do, folders_do}
use Rattle.dcm_tree_laws.specs.Laws.{IsOutput, part_path}
use Rattle.dcm_tree_laws.specs.OneRow.{FolderHasRows}
use Rattle.dcm_tree_laws.specs.Rows.{Visit, noted}
use Rattle.dcm_tree_laws.specs.Visited.{GivesAll, telling, listing, LiesBelow, visit_below, NoneOf, IsVisitedOnce, IsTold, told_file, told_unseen, told_on_way, FilesAreVisited, FilesAreTold}
use Rattle.dcm_tree_laws.proofs.Near.{IsNear}
use Rattle.dcm_tree_laws.proofs.OneParts.{past_root, name_below, cut_off, cut, is_fit, fit_way}
use Rattle.dcm_tree_laws.proofs.OutputsBy.{Leaves, leaves, Still, then_stays, part_of_output}
use Rattle.dcm_tree_laws.proofs.Quiet.{Quiet}
use Rattle.dcm_tree_laws.proofs.RowsBy.{visit_of}
use Rattle.dcm_tree_laws.proofs.Runs.{visit_name}
use Rattle.dcm_tree_laws.proofs.StopsBy.{ends_well}
use Rattle.dcm_tree_laws.proofs.Sure.{Implies}
use Rattle.dcm_tree_laws.proofs.VisitedBy.{all_so, Among, Added, Met, was_visited, was_unseen, was_behind, Reaches, IsAside, Tells, folder_met}
use Rattle.dcm_tree_laws.proofs.Works.{allows_same, visits_name}

-- ---- two systems

-- what such a system does another one may do
telling_may : {I O F : Type 0} (h : Host I O) (gives : F → List (List ℕ)) → Implies (telling h gives) (folders_do {F = F} h)
telling_may h gives = record {
  sees = λ before path links r after call. call;
  modes = λ before folder name r after call. call;
  folder = λ before path mode r after call. call;
  file = λ before path mode r after call. call;
  link = λ before from to r after call. call;
}

listing_may : {I O F : Type 0} (h : Host I O) (gives : F → List (List ℕ)) → Implies (listing h gives) (folders_do {F = F} h)
listing_may h gives = record {
  sees = λ before path links r after call. call.0;
  modes = λ before folder name r after call. call.0;
  folder = λ before path mode r after call. call;
  file = λ before path mode r after call. call;
  link = λ before from to r after call. call;
}

pub telling_quiet : {I O F : Type 0} (h : Host I O) (gives : F → List (List ℕ)) → Quiet (telling h gives)
telling_quiet {I} {O} {F} h gives = record {
  finds = λ before path links r after call. call.1;
  modes = λ before folder name r after call. call.1;
  opens = λ before path r after call. call.0;
  names = λ before folder r left after call. call.0;
  closes = λ before folder after call. call;
}

pub listing_quiet : {I O F : Type 0} (h : Host I O) (gives : F → List (List ℕ)) → Quiet (listing h gives)
listing_quiet {I} {O} {F} h gives = record {
  finds = λ before path links r after call. call.0.1;
  modes = λ before folder name r after call. call.0.1;
  opens = λ before path r after call. call.0.0;
  names = λ before folder r left after call. call.0.0;
  closes = λ before folder after call. call;
}

-- in one any call may fail
telling_tells : {I O F : Type 0} (h : Host I O) (gives : F → List (List ℕ)) → Tells h gives (Unit {0}) (telling h gives)
telling_tells h gives = record {
  quiet = telling_quiet h gives;
  finds = λ before path found after call. call.0;
  not_found = λ before path e after call. tt;
  opens = λ before path folder after call. call.1;
  not_opened = λ before path e after call f is kind. tt;
  names = λ before folder name left after call. call.1;
  not_named = λ before folder e left after call. tt;
}

-- and in the other none of these
listing_tells : {I O F : Type 0} (h : Host I O) (gives : F → List (List ℕ)) → Tells h gives ⊥ (listing h gives)
listing_tells h gives = record {
  quiet = listing_quiet h gives;
  finds = λ before path found after call. call.0.0;
  not_found = λ before path e after call. call.1 e refl;
  opens = λ before path folder after call. call.0.1;
  not_opened = λ before path e after call f is kind. call.1 f is kind;
  names = λ before folder name left after call. call.0.1;
  not_named = λ before folder e left after call. call.1 e refl;
}

-- ---- what was there at the start

only_kept : {I O : Type 0} (h : Host I O) (output part : List ℕ) (t u : Tree) (place : List ℕ) (f : Found) → t.at place ≡ Some f → place ≢ place_of h part → (u.at place ≡ t.at place) ⊎ (IsMade h output place t u ⊎ (IsCleared h part place t u ⊎ IsTried h part place u)) → u.at place ≡ Some f
only_kept h output part t u place f is apart (inl same) = same ∙ is
only_kept h output part t u place f is apart (inr (inl made)) = absurd (let no : Some f ≡ None = sym is ∙ made.nothing in cc)
only_kept h output part t u place f is apart (inr (inr (inl cleared))) = absurd (apart cleared.of_part)
only_kept h output part t u place f is apart (inr (inr (inr tried))) = absurd (apart tried.of_part)

-- ---- the states of a run

record Good {I O W E : Type 0} (h : Host I O) (start : Tree) (shared : Shared) (x : Work W × E) (s : FileSystem) : Type 0 where
  same : x.0.shared ≡ shared
  none : s.written ≡ None
  still : Still h (manner_of shared.manner).part start s.now

visit_good : {I O F W E : Type 0} (h : Host I O) (d : FoldersDo FileSystem O F) → Implies d (folders_do h) → (start : Tree) (r : Reader I) (w : Writer O) (e : Writer E) (m : Writer W) (shared : Shared) → IsNear (manner_of shared.manner).output (manner_of shared.manner).part
    → (from : Work W × E) (before : FileSystem) (n : Named) (what : What) (result : Result (Unit {0}) Stopped) (to : Work W × E) (after : FileSystem) → Good h start shared from before
    → visits_of (world (may_do h) d r w e) m from before n what result to after → Good h start shared to after
visit_good {I} {O} {F} {W} {E} h d can start r w e m shared of_output from before n what result to after good v =
    let here : Shared = from.0.shared in
    let k : Manner = manner_of here.manner in
    let near : IsNear k.output k.part = subst (λ (s : Shared). IsNear (manner_of s.manner).output (manner_of s.manner).part) (sym good.same) of_output in
    let known : Still h k.part start before.now = subst (λ (s : Shared). Still h (manner_of s.manner).part start before.now) (sym good.same) good.still in
    let left : Leaves h k.part k.output before after = leaves h (IsOutput h r w) k.part k.output before after good.none near
    (visit_name {F = F} h r w e m here _ from.1 before n what result _ to.1 after
    (visits_name (world (may_do h) d r w e) (may_do h) (allows_same (may_do h)) (folders_do {F = F} h) can m here _ from.1 before n what result _ to.1 after v.0)) in
    record {
      same = v.1 ∙ good.same;
      none = left.none;
      still = subst (λ (s : Shared). Still h (manner_of s.manner).part start after.now) good.same (then_stays h k.part k.output start before.now after.now known left.stays);
    }

-- at the start nothing is at the part
none_at_part : {I O : Type 0} (h : Host I O) (run : TreeRun) (start : Tree) (begun : Begun) (before : FileSystem) (shared : Shared) → Ready h run start begun before → at_path h start (part_path run) ≡ None → Shares run begun.part.items shared → start.at (place_of h (manner_of shared.manner).part) ≡ None
none_at_part h run start begun before shared ready nothing shares =
    subst (λ (k : Manner). start.at (place_of h k.part) ≡ None) (sym shares.manner)
    (subst (λ (p : List ℕ). start.at (place_of h p) ≡ None) (sym ready.part_is) nothing)

first_good : {I O W E : Type 0} (h : Host I O) (run : TreeRun) (start : Tree) (begun : Begun) (before : FileSystem) (first : Work W) (from : E) → Ready h run start begun before → Shares run begun.part.items first.shared → Good h start first.shared (first, from) before
first_good h run start begun before first from ready shares = record {
  same = refl;
  none = ready.written;
  still = record {
    there = λ place f apart is. only_kept h run.output.now (part_path run) start before.now place f is
        (subst (λ (p : List ℕ). place ≢ place_of h p) (ap (λ (k : Manner). k.part) shares.manner ∙ ready.part_is) apart) (ready.only.names place);
    bytes = λ place f apart is. ready.only.bytes place f (subst (λ (p : List ℕ). place ≢ place_of h p) (ap (λ (k : Manner). k.part) shares.manner ∙ ready.part_is) apart) is;
  };
}

stays_there : {I O W E : Type 0} (h : Host I O) (start : Tree) (shared : Shared) → start.at (place_of h (manner_of shared.manner).part) ≡ None → (x : Work W × E) (s : FileSystem) → Good h start shared x s → (place : List ℕ) (f : Found) → start.at place ≡ Some f
    → s.now.at place ≡ Some f
stays_there h start shared none x s good place f is = good.still.there place f (λ e. none_or_some (start.at (place_of h (manner_of shared.manner).part)) f none (ap start.at (sym e) ∙ is)) is

-- ---- a file

reaches : {I O : Type 0} (h : Host I O) (output : FolderNumber) (start : Tree) (path relative : List ℕ) (lies : LiesBelow h output start path relative)
    → Reaches h start (record { base = length path + 1; output = output }) LEVELS path relative lies.file.file.mode
reaches h output start path relative lies = record {
  file = lies.file;
  mode_is = refl;
  fit = is_fit path relative lies.fits lies.text lies.leads lies.no_part;
  way = lies.way;
  way_fit = λ front behind is. fit_way path relative front behind is lies.fits lies.text lies.leads lies.no_part;
  deep = lies.deep;
  leads = lies.leads;
}

none_leads : (relative : List ℕ) → length relative ≡ 0 → leads_below relative ≡ true → ⊥
none_leads [] none leads = absurd (cc)
none_leads (b ∷ bs) none leads = absurd (cc)

dot_leads : leads_below (codes ".") ≡ true → ⊥
dot_leads e = absurd (cc)

-- what is at another path has another name
other_name : (root relative : List ℕ) → length (below root relative) ≤ PATH_LIMIT → leads_below relative ≡ true → (v : Visit) → IsAside (length root + 1) root (below root relative) v → v.named.relative ≢ relative
other_name root relative fits leads v (inr dot, aside) e = dot_leads (ap leads_below (sym dot ∙ e) ∙ leads)
other_name root relative fits leads v (inl named, (inl at, other)) e =
    let taken : relative ≡ take NAME_LIMIT (drop (length root + 1) root) = sym e ∙ ap (λ (n : Named). n.relative) named ∙ ap (λ (p : List ℕ). take NAME_LIMIT (drop (length root + 1) p)) at in
    none_leads relative (omega (arith, ap length taken, length-take NAME_LIMIT (drop (length root + 1) root), length-drop (length root + 1) root)) leads
other_name root relative fits leads v (inl named, (inr (inner, path), other)) e =
    let taken : take NAME_LIMIT inner ≡ relative =
    ap (take NAME_LIMIT) (sym (past_root root inner) ∙ ap (drop (length root + 1)) (sym path)) ∙ sym (ap (λ (n : Named). n.relative) named) ∙ e in
    other (path ∙ ap (below root) (cut_off NAME_LIMIT inner relative taken (omega (arith, fits, length-append (root ++ codes "/") relative))))

module _ (root relative : List ℕ) (fits : length (below root relative) ≤ PATH_LIMIT) (leads : leads_below relative ≡ true) where
  none_of : (visits : List Visit) → OfAll (IsAside (length root + 1) root (below root relative)) visits → NoneOf relative visits
  none_of visits all = all_so (IsAside (length root + 1) root (below root relative)) (λ x. x.named.relative ≢ relative) (other_name root relative fits leads) visits all

  once : (what : What) (visits : List Visit) → Among (visit_of (named_at (length root + 1) (below root relative)) what) (IsAside (length root + 1) root (below root relative)) visits → IsVisitedOnce (visit_below root relative what) visits
  once what visits m = record {
    earlier = m.earlier;
    later = m.later;
    is = m.is ∙ ap (λ (x : List ℕ). m.earlier ++ record { named = record { name = x; relative = x; path = below root relative }; what = what } ∷ m.later) (name_below root relative fits);
    none_earlier = none_of m.earlier m.before;
    none_later = none_of m.later m.behind;
  }

  is_once : (mode : ℕ) (visits : List Visit) → Met ⊥ (length root + 1) (below root relative) mode (IsAside (length root + 1) root (below root relative)) visits → IsVisitedOnce (visit_below root relative (File mode)) visits
  is_once mode visits (was_visited m) = once (File mode) visits m
  is_once mode visits (was_unseen failed m) = absurd failed
  is_once mode visits (was_behind failed y has on says all) = absurd failed

  is_told : (mode : ℕ) (visits : List Visit) → Met (Unit {0}) (length root + 1) (below root relative) mode (IsAside (length root + 1) root (below root relative)) visits → IsTold root relative mode visits
  is_told mode visits (was_visited m) = told_file (once (File mode) visits m)
  is_told mode visits (was_unseen failed m) = told_unseen (once Unseen visits m)
  is_told mode visits (was_behind failed y has on says all) = told_on_way y on.0 has on.1 says (none_of visits all)

-- ---- a run

met_in_run : {I O F W E : Type 0} (r : Reader I) (w : Writer O) (m : Writer W) (e : Writer E) (h : Host I O) (gives : F → List (List ℕ)) (Failed : Type 0) (d : FoldersDo FileSystem O F) → Tells h gives Failed d → Implies d (folders_do h)
    → (run : TreeRun) (start : Tree) (path : List ℕ) (begun : Begun) (opened : F) (headed : W) (from : E) (before : FileSystem) (status : ℕ) (left : W) (to : E) (after : FileSystem) → GivesAll h gives start path opened → Ready h run start begun before → at_path h start (part_path run) ≡ None
    → (v : VisitsAll (world (may_do h) d r w e) m run path begun opened headed from before status left to after) → v.last.stop ≡ None → (has : FolderHasRows (world (may_do h) d r w e) m run path begun opened headed from before status left to after v)
    → (relative : List ℕ) (lies : LiesBelow h begun.number start path relative) → Met Failed (length path + 1) (below path relative) lies.file.file.mode (IsAside (length path + 1) path (below path relative)) has.visits
met_in_run {I} {O} {F} {W} {E} r w m e h gives Failed d tells can run start path begun opened headed from before status left to after all ready nothing v stop has relative lies =
    let shared : Shared = v.start.shared in
    let walker : Walk = record { base = length path + 1; output = begun.number } in
    let near : IsNear (manner_of shared.manner).output (manner_of shared.manner).part = subst (λ (k : Manner). IsNear k.output k.part) (sym v.begins.shares.manner) (part_of_output run begun.part.items ready.part_is) in
    let none : start.at (place_of h (manner_of shared.manner).part) ≡ None = none_at_part h run start begun before shared ready nothing v.begins.shares in
    let walks : WalksFolder d (noted (visits_of (world (may_do h) d r w e) m)) path begun.number opened ((v.start, from), []) before (Ok _) ((v.last, v.told), has.visits) after =
    subst (λ (x : Result (Unit {0}) Stopped). WalksFolder d (noted (visits_of (world (may_do h) d r w e) m)) path begun.number opened ((v.start, from), []) before x ((v.last, v.told), has.visits) after)
    (ends_well (world (may_do h) d r w e) m path begun.number opened (v.start, from) before v.walked (v.last, v.told) after stop v.walks) has.walks in
    let added : Added (Good h start shared) (Met Failed walker.base (below path relative) lies.file.file.mode (IsAside walker.base path (below path relative))) ((v.start, from), []) ((v.last, v.told), has.visits) after =
    folder_met h gives Failed d tells (visits_of (world (may_do h) d r w e) m) start walker (Good h start shared) (visit_good h d can start r w e m shared near) (stays_there h start shared none) LEVELS path relative lies.file.file.mode (cut relative)
    (reaches h begun.number start path relative lies) (record { name = codes "."; relative = codes "."; path = path }) (inr refl) refl opened start (λ place f is. is) all ((v.start, from), []) before ((v.last, v.told), has.visits) after
    (first_good h run start begun before v.start from ready v.begins.shares) walks in
    subst (Met Failed walker.base (below path relative) lies.file.file.mode (IsAside walker.base path (below path relative))) (sym added.is) added.so

pub files_are_visited : {I O F W E : Type 0} (r : Reader I) (w : Writer O) (m : Writer W) (e : Writer E) → FilesAreVisited F r w m e
files_are_visited {I} {O} {F} {W} {E} r w m e h gives run start path begun opened headed from before status left to after all ready nothing v stop has relative lies =
    is_once path relative lies.fits lies.leads lies.file.file.mode has.visits
    (met_in_run r w m e h gives ⊥ (listing h gives) (listing_tells h gives) (listing_may h gives) run start path begun opened headed from before status left to after all ready nothing v stop has relative lies)

pub files_are_told : {I O F W E : Type 0} (r : Reader I) (w : Writer O) (m : Writer W) (e : Writer E) → FilesAreTold F r w m e
files_are_told {I} {O} {F} {W} {E} r w m e h gives run start path begun opened headed from before status left to after all ready nothing v stop has relative lies =
    is_told path relative lies.fits lies.leads lies.file.file.mode has.visits
    (met_in_run r w m e h gives (Unit {0}) (telling h gives) (telling_tells h gives) (telling_may h gives) run start path begun opened headed from before status left to after all ready nothing v stop has relative lies)
