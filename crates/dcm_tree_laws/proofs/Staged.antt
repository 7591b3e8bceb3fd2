-- What runs of all shares leave of the output of one name.
use Rattle.std.proofs.Common.{◌≡◌, ◌∙◌, refl, sym, ap, subst, inl, inr, ◌⊎◌, ℕ, ◌≤◌, ◌<◌, List, [], ◌∷◌, ◌++◌, Bool, true, false, Some, None, Result, Ok, Err, arith}
use Rattle.dcm_lemmas.proofs.Truth.{true_false}
use Rattle.dcm_devices.specs.Writing.{Writer}
use Rattle.dcm_files.specs.declared.folders.Found.{Found}
use Rattle.dcm_walk.specs.Names.{below}
use Rattle.dcm_walk.specs.Visits.{Named}
use Rattle.dcm_walk.specs.declared.visitor.Stopped.{Stopped}
use Rattle.dcm_walk.specs.declared.visitor.What.{What}
use Rattle.dcm_cli.specs.Calls.{Reader}
use Rattle.dcm_trees.specs.declared.beginning.Begun.{Begun}
use Rattle.dcm_trees.specs.declared.file.Done.{Done}
use Rattle.dcm_trees.specs.declared.progress.Shared.{Shared}
use Rattle.dcm_trees.specs.declared.progress.Work.{Work}
use Rattle.dcm_trees.specs.declared.run.TreeRun.{TreeRun}
use Rattle.dcm_trees.specs.File.{DoesName}
use Rattle.dcm_trees.specs.Manner.{Manner, manner_of}
use Rattle.dcm_trees.specs.Run.{part_name, Shares}
use Rattle.dcm_trees.specs.Share.{is_of}
use Rattle.dcm_trees.specs.Task.{Task}
use Rattle.dcm_trees.specs.Work as spec
use Rattle.dcm_trees.specs.Work.{Progress, progress, VisitsName, visits_of}
use Rattle.dcm_trees.specs.World.{World}
use Rattle.dcm_tree_laws.specs.Again.{OfAll}
use Rattle.dcm_tree_laws.specs.Determined.{as_whole, working}
use Rattle.dcm_tree_laws.specs.FileSystem.{FileSystem, Tree, Host}
use Rattle.dcm_tree_laws.specs.Laws.{part_path}
use Rattle.dcm_tree_laws.specs.Rows.{Visit, noted}
use Rattle.dcm_tree_laws.specs.Shares.{HasOneShare}
use Rattle.dcm_tree_laws.specs.Together.{IsNoPart, Has, IsRunOf, Visited, in_folder, in_list, OneRun, Runs, no_run, and_run, IsSameAt, something}
use Rattle.dcm_tree_laws.proofs.Fates.{Works, works_quiet}
use Rattle.dcm_tree_laws.proofs.Frees.{KeepsAll, keeps_itself, then_keeps, Stepped}
use Rattle.dcm_tree_laws.proofs.Lists.{lines_do}
use Rattle.dcm_tree_laws.proofs.Quiet.{only_quiet, IsClosed, IsSame}
use Rattle.dcm_tree_laws.proofs.RowsBy.{visit_of, no_stop}
use Rattle.dcm_tree_laws.proofs.SharesBy.{one_share}
use Rattle.dcm_tree_laws.proofs.Stages.{name_leaves, name_keeps}
use Rattle.dcm_tree_laws.proofs.StillBy.{before_all, last_of_all}
use Rattle.dcm_tree_laws.proofs.Walks.{VisitsDo, walks_do}

-- ---- the names so far

one_more : {A : Type 0} (a b : A) (earlier : List A) (last : A) → Has a earlier ⊎ (last ≡ a) → Has a (b ∷ earlier) ⊎ (last ≡ a)
one_more a b earlier last (inl has) = inl (inr has)
one_more a b earlier last (inr is) = inr is

one_of : {A : Type 0} (a : A) (earlier : List A) (last : A) → Has a (earlier ++ last ∷ []) → Has a earlier ⊎ (last ≡ a)
one_of a [] last (inl is) = inr is
one_of a [] last (inr none) = absurd none
one_of a (b ∷ earlier) last (inl is) = inl (inl is)
one_of a (b ∷ earlier) last (inr has) = one_more a b earlier last (one_of a earlier last has)

-- what they left of it
record Left (IsSo IsDone : Tree → Type 0) (x : Visit) (IsIts : Type 0) (start : Tree) (visits : List Visit) (t : Tree) : Type 0 where
  stage : IsSo start → IsSo t
  keeps : IsDone start → IsDone t
  came : IsIts → Has x visits → IsSo start → IsDone t

none_left : (IsSo IsDone : Tree → Type 0) (x : Visit) (IsIts : Type 0) (start : Tree) → Left IsSo IsDone x IsIts start [] start
none_left IsSo IsDone x IsIts start = record { stage = λ s. s; keeps = λ s. s; came = λ its none s. absurd none }

module _ (IsSo IsDone : Tree → Type 0) (x : Visit) (IsIts : Type 0) (start t u : Tree) (earlier : List Visit) (v : Visit) (had : Left IsSo IsDone x IsIts start earlier t) (now : Stepped IsSo IsDone x v IsIts t u) where
  came_by : IsIts → Has x earlier ⊎ (v ≡ x) → IsSo start → IsDone u
  came_by its (inl has) s = now.keeps (had.came its has s)
  came_by its (inr is) s = now.came is its (had.stage s)

  more_left : (visits : List Visit) → visits ≡ earlier ++ v ∷ [] → Left IsSo IsDone x IsIts start visits u
  more_left visits more = record {
    stage = λ s. now.stage (had.stage s);
    keeps = λ s. now.keeps (had.keeps s);
    came = λ its has s. came_by its (one_of x earlier v (subst (Has x) more has)) s;
  }

-- ---- a visit

pub stop_before : {S I O F W E : Type 0} (w : World S I O F E) (m : Writer W) (shared : Shared) (from : Progress W) (told_before : E) (before : S) (n : Named) (what : What) (r : Result (Unit {0}) Stopped) (to : Progress W) (told : E) (after : S)
    → VisitsName w m shared from told_before before n what r to told after → to.stop ≡ None → from.stop ≡ None
stop_before w m shared from told_before before n what r to told after (spec.of_another none is t same ok) stop = sym (ap (λ p. p.stop) is) ∙ stop
stop_before w m shared from told_before before n what r to told after (spec.was_done done mid share does (spec.has_row manifest puts reports is ok)) stop = sym (ap (λ p. p.stop) is) ∙ stop
stop_before w m shared from told_before before n what r to told after (spec.was_done done mid share does (spec.no_row manifest failure s puts t is ok)) stop = absurd (no_stop to.stop _ (ap (λ p. p.stop) is) stop)
stop_before w m shared from told_before before n what r to told after (spec.ends_run p s share does is ok) stop = absurd (no_stop to.stop _ (ap (λ q. q.stop) is) stop)

-- how the names of a run are done
abbrev pub Of : Shared → Manner
Of shared = manner_of shared.manner

-- the name is of its share
abbrev IsIn : Shared → Visit → Type 0
IsIn shared x = is_of shared.part.number shared.part.count x.named.relative ≡ true

other_share : (shared : Shared) (v x : Visit) → is_of shared.part.number shared.part.count v.named.relative ≡ false → v ≡ x → IsIn shared x → ⊥
other_share shared v x none is its = true_false (is_of shared.part.number shared.part.count x.named.relative) its (sym (ap (λ (y : Visit). is_of shared.part.number shared.part.count y.named.relative) is) ∙ none)

-- ---- one of several runs

-- what is known of how its names are done
pub record Known (shared : Shared) (keeps : Bool) : Type 0 where
  pub number : ℕ
  pub part_is : (Of shared).part ≡ below (Of shared).output (part_name number)
  pub keeps_is : (Of shared).keeps_names ≡ keeps

same_share : (a b c d : ℕ) (relative : List ℕ) → a ≡ b → c ≡ d → is_of b d relative ≡ true → is_of a c relative ≡ true
same_share a b c d relative e f its = ap (λ (n : ℕ). is_of n c relative) e ∙ ap (λ (n : ℕ). is_of b n relative) f ∙ its

module _ (keeps : Bool) (task : Task) (folder : List ℕ) (number count : ℕ) (run : TreeRun) (is_run : IsRunOf keeps task folder number count run) (part : List ℕ) (shared : Shared) (shares : Shares run part shared) where
  pub output_is : (Of shared).output ≡ folder
  output_is = ap (λ (y : Manner). y.output) shares.manner ∙ is_run.output_is

  pub task_is : (Of shared).task ≡ task
  task_is = ap (λ (y : Manner). y.task) shares.manner ∙ is_run.task_is

  pub known : part ≡ part_path run → Known shared keeps
  known is = record {
    number = run.options.part.number;
    part_is = ap (λ (y : Manner). y.part) shares.manner ∙ is ∙ ap (λ (out : List ℕ). below out (part_name run.options.part.number)) (sym (ap (λ (y : Manner). y.output) shares.manner));
    keeps_is = ap (λ (y : Manner). y.keeps_names) shares.manner ∙ is_run.keeps_is;
  }

  in_share : (x : Visit) → is_of number count x.named.relative ≡ true → IsIn shared x
  in_share x = same_share shared.part.number number shared.part.count count x.named.relative (ap (λ p. p.number) shares.part_is ∙ is_run.number_is) (ap (λ p. p.count) shares.part_is ∙ is_run.count_is)

-- what a name leaves, whatever is done of it
module _ {I O F W E : Type 0} (h : Host I O) (r : Reader I) (w : Writer O) (e : Writer E) (m : Writer W) (shared : Shared) (number : ℕ) (part_is : (Of shared).part ≡ below (Of shared).output (part_name number)) where
  pub quietly : (from : Progress W) (told_before : E) (before : FileSystem) (n : Named) (what : What) (result : Result (Unit {0}) Stopped) (to : Progress W) (told : E) (after : FileSystem) → before.written ≡ None
      → VisitsName (working {F = F} h r w e) m shared from told_before before n what result to told after → (after.written ≡ None) × KeepsAll h (Of shared).output before.now after.now
  quietly from told_before before n what result to told after none (spec.of_another other is t same ok) =
      subst (λ (s : FileSystem). (s.written ≡ None) × KeepsAll h (Of shared).output before.now s.now) (sym same) (none, keeps_itself h (Of shared).output before.now)
  quietly from told_before before n what result to told after none (spec.was_done done mid share does ends) = (
    (name_leaves {F = F} h r w e (Of shared) number part_is n what told_before before (Ok done) mid after none does).none,
    name_keeps {F = F} h r w e (Of shared) number part_is n what told_before before (Ok done) mid after none does,
  )
  quietly from told_before before n what result to told after none (spec.ends_run p s share does is ok) = (
    (name_leaves {F = F} h r w e (Of shared) number part_is n what told_before before (Err p) told after none does).none,
    name_keeps {F = F} h r w e (Of shared) number part_is n what told_before before (Err p) told after none does,
  )

-- ---- all names

-- how each name leaves the output of one: beside that it is such, which no name changes
pub record Leaving {I O E : Type 0} (F : Type 0) (h : Host I O) (r : Reader I) (w : Writer O) (e : Writer E) (keeps : Bool) (task : Task) (folder : List ℕ) (first : Tree) (x : Visit) (IsSo IsDone : Tree → Type 0) (IsBeside : Tree → Visit → Type 0) : Type 0 where
  pub kept : (t u : Tree) → KeepsAll h folder t u → (v : Visit) → IsBeside t v → IsBeside u v
  pub step : (k : Manner) (number : ℕ) → k.part ≡ below k.output (part_name number) → k.keeps_names ≡ keeps → k.output ≡ folder → k.task ≡ task → (n : Named) (what : What) (from : E) (before : FileSystem) (done : Done) (to : E) (after : FileSystem) → before.written ≡ None → KeepsAll h folder first before.now → IsBeside before.now (visit_of n what)
      → DoesName (working {F = F} h r w e) k n what from before (Ok done) to after → Stepped IsSo IsDone x (visit_of n what) (Unit {0}) before.now after.now

-- what is so after each of them
record Good {I O W E : Type 0} (h : Host I O) (folder : List ℕ) (x : Visit) (IsSo IsDone : Tree → Type 0) (IsBeside : Tree → Visit → Type 0) (shared : Shared) (start : FileSystem) (y : (Work W × E) × List Visit) (s : FileSystem) : Type 0 where
  shares : y.0.0.shared ≡ shared
  quiet : s.written ≡ None
  keeps : KeepsAll h folder start.now s.now
  left : OfAll (IsBeside start.now) y.1 → y.0.0.stop ≡ None → Left IsSo IsDone x (IsIn shared x) start.now y.1 s.now

abbrev StaysGood : {I O W E : Type 0} → Host I O → (folder : List ℕ) → (x : Visit) → (IsSo IsDone : Tree → Type 0) → (IsBeside : Tree → Visit → Type 0) → Shared → (start : FileSystem) → ((Work W × E) × List Visit) → FileSystem → ((Work W × E) × List Visit) → FileSystem → Type 0
StaysGood h folder x IsSo IsDone IsBeside shared start a s b t = Good h folder x IsSo IsDone IsBeside shared start a s → Good h folder x IsSo IsDone IsBeside shared start b t

closed : {I O W E : Type 0} (h : Host I O) (folder : List ℕ) (x : Visit) (IsSo IsDone : Tree → Type 0) (IsBeside : Tree → Visit → Type 0) (shared : Shared) (start : FileSystem) → IsClosed IsSame (StaysGood {W = W} {E = E} h folder x IsSo IsDone IsBeside shared start)
closed h folder x IsSo IsDone IsBeside shared start = record {
  none = λ v s t is good. subst (Good h folder x IsSo IsDone IsBeside shared start v) (sym is) good;
  still = λ v s t is good. subst (Good h folder x IsSo IsDone IsBeside shared start v) (sym is) good;
  then = λ a b c s t u one other good. other (one good);
}

all_kept : {I O : Type 0} (h : Host I O) (folder : List ℕ) (IsBeside : Tree → Visit → Type 0) (kept : (t u : Tree) → KeepsAll h folder t u → (v : Visit) → IsBeside t v → IsBeside u v) (t u : Tree) → KeepsAll h folder t u → (visits : List Visit) → OfAll (IsBeside t) visits → OfAll (IsBeside u) visits
all_kept h folder IsBeside kept t u keeps [] all = tt
all_kept h folder IsBeside kept t u keeps (v ∷ visits) all = (kept t u keeps v all.0, all_kept h folder IsBeside kept t u keeps visits all.1)

module _ {I O F W E : Type 0} (h : Host I O) (r : Reader I) (w : Writer O) (e : Writer E) (m : Writer W) (keeps : Bool) (task : Task) (folder : List ℕ) (first : Tree) (x : Visit) (IsSo IsDone : Tree → Type 0) (IsBeside : Tree → Visit → Type 0) (leaving : Leaving F h r w e keeps task folder first x IsSo IsDone IsBeside) where
  module _ (shared : Shared) (known : Known shared keeps) (output_is : (Of shared).output ≡ folder) (task_is : (Of shared).task ≡ task) where
    visit_steps : (from : Progress W) (told_before : E) (before : FileSystem) (n : Named) (what : What) (result : Result (Unit {0}) Stopped) (to : Progress W) (told : E) (after : FileSystem) → before.written ≡ None → KeepsAll h folder first before.now → IsBeside before.now (visit_of n what) → to.stop ≡ None
        → VisitsName (working {F = F} h r w e) m shared from told_before before n what result to told after → Stepped IsSo IsDone x (visit_of n what) (IsIn shared x) before.now after.now
    visit_steps from told_before before n what result to told after none since beside stop (spec.of_another other is t same ok) =
        subst (λ (s : FileSystem). Stepped IsSo IsDone x (visit_of n what) (IsIn shared x) before.now s.now) (sym same)
        (record { stage = λ s. s; keeps = λ s. s; came = λ it its s. absurd (other_share shared (visit_of n what) x other it its) })
    visit_steps from told_before before n what result to told after none since beside stop (spec.was_done done mid share does ends) =
        let s = leaving.step (Of shared) known.number known.part_is known.keeps_is output_is task_is n what told_before before done mid after none since beside does in
        record { stage = s.stage; keeps = s.keeps; came = λ it its. s.came it tt }
    visit_steps from told_before before n what result to told after none since beside stop (spec.ends_run p s share does is ok) = absurd (no_stop to.stop _ (ap (λ q. q.stop) is) stop)

    visits_good : (start : FileSystem) → KeepsAll h folder first start.now → VisitsDo (StaysGood h folder x IsSo IsDone IsBeside shared start) (noted (visits_of (working {F = F} h r w e) m))
    visits_good start since from before n what result to after v good =
        let visits : VisitsName (working {F = F} h r w e) m shared (progress from.0.0) from.0.1 before n what result (progress to.0.0) to.0.1 after =
        subst (λ (s : Shared). VisitsName (working {F = F} h r w e) m s (progress from.0.0) from.0.1 before n what result (progress to.0.0) to.0.1 after) good.shares v.0.0 in
        let now : (after.written ≡ None) × KeepsAll h folder before.now after.now =
        subst (λ (o : List ℕ). (after.written ≡ None) × KeepsAll h o before.now after.now) output_is (quietly {F = F} h r w e m shared known.number known.part_is (progress from.0.0) from.0.1 before n what result (progress to.0.0) to.0.1 after good.quiet visits) in
        record {
          shares = v.0.1 ∙ good.shares;
          quiet = now.0;
          keeps = then_keeps h folder start.now before.now after.now good.keeps now.1;
          left = λ beside stop.
              let each : OfAll (IsBeside start.now) (from.1 ++ visit_of n what ∷ []) = subst (OfAll (IsBeside start.now)) v.1 beside in
              more_left IsSo IsDone x (IsIn shared x) start.now before.now after.now from.1 (visit_of n what)
              (good.left (before_all (IsBeside start.now) from.1 (visit_of n what) each) (stop_before (working {F = F} h r w e) m shared (progress from.0.0) from.0.1 before n what result (progress to.0.0) to.0.1 after visits stop))
              (visit_steps (progress from.0.0) from.0.1 before n what result (progress to.0.0) to.0.1 after good.quiet (then_keeps h folder first start.now before.now since good.keeps)
              (leaving.kept start.now before.now good.keeps (visit_of n what) (last_of_all (IsBeside start.now) from.1 (visit_of n what) each)) stop visits) to.1 v.1;
        }

    first_good : (start : Work W) (from : E) (before : FileSystem) → before.written ≡ None → start.shared ≡ shared → Good h folder x IsSo IsDone IsBeside shared before ((start, from), []) before
    first_good start from before quiet is = record {
      shares = is;
      quiet = quiet;
      keeps = keeps_itself h folder before.now;
      left = λ none stop. none_left IsSo IsDone x (IsIn shared x) before.now;
    }

-- ---- a run

-- what it left of the output of one of its names
pub record RunLeft {I O : Type 0} (h : Host I O) (folder : List ℕ) (IsSo IsDone : Tree → Type 0) (IsIts : Type 0) (start after : Tree) : Type 0 where
  pub keeps_all : KeepsAll h folder start after
  pub stage : IsSo start → IsSo after
  pub keeps : IsDone start → IsDone after
  pub came : IsIts → IsSo start → IsDone after

run_left : {I O W E : Type 0} (h : Host I O) (folder : List ℕ) (x : Visit) (IsSo IsDone : Tree → Type 0) (IsBeside : Tree → Visit → Type 0) (IsIts : Type 0) (shared : Shared) → (IsIts → IsIn shared x) → (before done : FileSystem) (last : Work W) (told : E) (visits : List Visit) → last.stop ≡ None → Has x visits → OfAll (IsBeside before.now) visits
    → Good h folder x IsSo IsDone IsBeside shared before ((last, told), visits) done → RunLeft h folder IsSo IsDone IsIts before.now done.now
run_left h folder x IsSo IsDone IsBeside IsIts shared its before done last told visits stop has beside good =
    let left : Left IsSo IsDone x (IsIn shared x) before.now visits done.now = good.left beside stop in
    record { keeps_all = good.keeps; stage = left.stage; keeps = left.keeps; came = λ it s. left.came (its it) has s }

module _ {I O F W E : Type 0} (h : Host I O) (r : Reader I) (w : Writer O) (m : Writer W) (e : Writer E) (keeps : Bool) (task : Task) (folder : List ℕ) (first : Tree) (x : Visit) (IsSo IsDone : Tree → Type 0) (IsBeside : Tree → Visit → Type 0) (leaving : Leaving F h r w e keeps task folder first x IsSo IsDone IsBeside) where
  visited_left : (number count : ℕ) (run : TreeRun) → IsRunOf keeps task folder number count run → (begun : Begun) (headed left : W) → begun.part.items ≡ part_path run → (before done : FileSystem) → before.written ≡ None → KeepsAll h folder first before.now → (visits : List Visit) → Has x visits → OfAll (IsBeside before.now) visits
      → Visited (working {F = F} h r w e) m run begun headed before visits left done → RunLeft h folder IsSo IsDone (is_of number count x.named.relative ≡ true) before.now done.now
  visited_left number count run is_run begun headed left part_is before done quiet since visits has beside (in_folder path opened from status to v walks stop) =
      let shared : Shared = v.start.shared in
      let is : Known shared keeps = known keeps task folder number count run is_run begun.part.items shared v.begins.shares part_is in
      let out : (Of shared).output ≡ folder = output_is keeps task folder number count run is_run begun.part.items shared v.begins.shares in
      let its : (Of shared).task ≡ task = task_is keeps task folder number count run is_run begun.part.items shared v.begins.shares in
      run_left h folder x IsSo IsDone IsBeside (is_of number count x.named.relative ≡ true) shared (in_share keeps task folder number count run is_run begun.part.items shared v.begins.shares x) before done v.last v.told visits stop has beside
      (walks_do (Works {F = F} h) (only_quiet (Works {F = F} h) (works_quiet {F = F} h)) (StaysGood h folder x IsSo IsDone IsBeside shared before) (closed h folder x IsSo IsDone IsBeside shared before) (noted (visits_of (working {F = F} h r w e) m))
      (visits_good {F = F} h r w e m keeps task folder first x IsSo IsDone IsBeside leaving shared is out its before since) path begun.number opened ((v.start, from), []) before v.walked ((v.last, v.told), visits) done walks
      (first_good {F = F} h r w e m keeps task folder first x IsSo IsDone IsBeside leaving shared is out its v.start from before quiet refl))
  visited_left number count run is_run begun headed left part_is before done quiet since visits has beside (in_list list input from status to read v walks stop) =
      let shared : Shared = v.start.shared in
      let is : Known shared keeps = known keeps task folder number count run is_run begun.part.items shared v.begins.shares part_is in
      let out : (Of shared).output ≡ folder = output_is keeps task folder number count run is_run begun.part.items shared v.begins.shares in
      let its : (Of shared).task ≡ task = task_is keeps task folder number count run is_run begun.part.items shared v.begins.shares in
      run_left h folder x IsSo IsDone IsBeside (is_of number count x.named.relative ≡ true) shared (in_share keeps task folder number count run is_run begun.part.items shared v.begins.shares x) before done v.last v.told visits stop has beside
      (lines_do (Works {F = F} h) (only_quiet (Works {F = F} h) (works_quiet {F = F} h)) (StaysGood h folder x IsSo IsDone IsBeside shared before) (closed h folder x IsSo IsDone IsBeside shared before) (noted (visits_of (working {F = F} h r w e) m))
      (visits_good {F = F} h r w e m keeps task folder first x IsSo IsDone IsBeside leaving shared is out its before since) (as_whole h r).gets begun.number ((v.start, from), []) before input v.walked ((v.last, v.told), visits) done read walks
      (first_good {F = F} h r w e m keeps task folder first x IsSo IsDone IsBeside leaving shared is out its v.start from before quiet refl))

  pub one_run : (number count : ℕ) (start after : Tree) → KeepsAll h folder first start → OneRun F h r w m e keeps task folder (λ visits. Has x visits × OfAll (IsBeside first) visits) number count start after → RunLeft h folder IsSo IsDone (is_of number count x.named.relative ≡ true) start after
  one_run number count start after since o =
      subst (λ (t : Tree). RunLeft h folder IsSo IsDone (is_of number count x.named.relative ≡ true) start t) o.after_is
      (subst (λ (t : Tree). RunLeft h folder IsSo IsDone (is_of number count x.named.relative ≡ true) t o.done.now) o.start_is
      (visited_left number count o.run o.is_of o.begun o.headed o.left o.part_is o.before o.done o.quiet (subst (KeepsAll h folder first) (sym o.start_is) since) o.visits o.are_so.0
      (subst (λ (t : Tree). OfAll (IsBeside t) o.visits) (sym o.start_is) (all_kept h folder IsBeside leaving.kept first start since o.visits o.are_so.1)) o.visited))

-- ---- several runs

pub record AllLeft {I O : Type 0} (h : Host I O) (folder : List ℕ) (x : Visit) (IsSo IsDone : Tree → Type 0) (count : ℕ) (numbers : List ℕ) (start after : Tree) : Type 0 where
  pub keeps_all : KeepsAll h folder start after
  pub stage : IsSo start → IsSo after
  pub came : (number : ℕ) → Has number numbers → is_of number count x.named.relative ≡ true → IsSo start → IsDone after

module _ {I O : Type 0} (h : Host I O) (folder : List ℕ) (x : Visit) (IsSo IsDone : Tree → Type 0) (count : ℕ) (start mid after : Tree) (earlier : List ℕ) (last : ℕ) (had : AllLeft h folder x IsSo IsDone count earlier start mid) (now : RunLeft h folder IsSo IsDone (is_of last count x.named.relative ≡ true) mid after) where
  number_came : (number : ℕ) → Has number earlier ⊎ (last ≡ number) → is_of number count x.named.relative ≡ true → IsSo start → IsDone after
  number_came number (inl has) its s = now.keeps (had.came number has its s)
  number_came number (inr is) its s = now.came (ap (λ (n : ℕ). is_of n count x.named.relative) is ∙ its) (had.stage s)

  then_run : (numbers : List ℕ) → numbers ≡ earlier ++ last ∷ [] → AllLeft h folder x IsSo IsDone count numbers start after
  then_run numbers more = record {
    keeps_all = then_keeps h folder start mid after had.keeps_all now.keeps_all;
    stage = λ s. now.stage (had.stage s);
    came = λ number has its s. number_came number (one_of number earlier last (subst (Has number) more has)) its s;
  }

none_run : {I O : Type 0} (h : Host I O) (folder : List ℕ) (x : Visit) (IsSo IsDone : Tree → Type 0) (count : ℕ) (start : Tree) → AllLeft h folder x IsSo IsDone count [] start start
none_run h folder x IsSo IsDone count start = record { keeps_all = keeps_itself h folder start; stage = λ s. s; came = λ number has its s. absurd has }

module _ {I O F W E : Type 0} (h : Host I O) (r : Reader I) (w : Writer O) (m : Writer W) (e : Writer E) (keeps : Bool) (task : Task) (folder : List ℕ) (first : Tree) (x : Visit) (IsSo IsDone : Tree → Type 0) (IsBeside : Tree → Visit → Type 0) (leaving : Leaving F h r w e keeps task folder first x IsSo IsDone IsBeside) where
  pub all_runs : (count : ℕ) (numbers : List ℕ) (after : Tree) → Runs F h r w m e keeps task folder (λ visits. Has x visits × OfAll (IsBeside first) visits) count first numbers after → AllLeft h folder x IsSo IsDone count numbers first after
  all_runs count numbers after (no_run none is) =
      subst (λ (t : Tree). AllLeft h folder x IsSo IsDone count numbers first t) (sym is) (subst (λ (l : List ℕ). AllLeft h folder x IsSo IsDone count l first first) (sym none) (none_run h folder x IsSo IsDone count first))
  all_runs count numbers after (and_run earlier number mid runs one more) =
      let had : AllLeft h folder x IsSo IsDone count earlier first mid = all_runs count earlier mid runs in
      then_run h folder x IsSo IsDone count first mid after earlier number had (one_run {F = F} h r w m e keeps task folder first x IsSo IsDone IsBeside leaving number count mid after had.keeps_all one) numbers more

-- of all shares, and of one run of all names
pub both_came : {I O : Type 0} (h : Host I O) (folder : List ℕ) (first : Tree) (x : Visit) (IsSo IsDone : Tree → Type 0) (count : ℕ) (numbers : List ℕ) (after alone : Tree) → 0 < count → ((number : ℕ) → 1 ≤ number → number ≤ count → Has number numbers) → AllLeft h folder x IsSo IsDone count numbers first after → RunLeft h folder IsSo IsDone (is_of 1 1 x.named.relative ≡ true) first alone → IsSo first
    → IsDone after × IsDone alone
both_came h folder first x IsSo IsDone count numbers after alone some each all_left left so =
    let share : HasOneShare count x.named.relative = one_share count x.named.relative some in
    let whole : HasOneShare 1 x.named.relative = one_share 1 x.named.relative (omega arith) in
    let only : whole.number ≡ 1 = omega (arith, whole.first, whole.last) in
    (all_left.came share.number (each share.number share.first share.last) share.its so, left.came (ap (λ (n : ℕ). is_of n 1 x.named.relative) (sym only) ∙ whole.its) so)

pub same_kept : {I O : Type 0} (h : Host I O) (output place : List ℕ) (first one other : Tree) (f : Found) → KeepsAll h output first one → KeepsAll h output first other → IsNoPart h output place → first.at place ≡ Some f → IsSameAt one other place
same_kept h output place first one other f a b apart is =
    something f f (a.there place f apart is) (b.there place f apart is) refl refl (a.bytes place f apart is ∙ sym (b.bytes place f apart is))
