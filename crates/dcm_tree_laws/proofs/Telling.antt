-- The rows of several runs, where what is told of each name stays so until that is done.
use Rattle.std.proofs.Common.{◌≡◌, ◌∙◌, refl, sym, ap, subst, inl, inr, ◌⊎◌, ℕ, List, [], ◌∷◌, ◌++◌, Bool, true, false, None, Result, Ok}
use Rattle.std.specs.List.{concat}
use Rattle.std.specs.Io.KnownBytes.{append_known}
use Rattle.std.proofs.lemmas.Bool.{eqb-true}
use Rattle.dcm_lemmas.proofs.Truth.{true_false}
use Rattle.dcm_devices.specs.Writing.{Writer}
use Rattle.dcm_tree_laws.proofs.CopiedBy.{row_as}
use Rattle.dcm_walk.specs.Names.{below}
use Rattle.dcm_walk.specs.Visits.{Named}
use Rattle.dcm_walk.specs.declared.visitor.Stopped.{Stopped}
use Rattle.dcm_walk.specs.declared.visitor.What.{What}
use Rattle.dcm_cli.specs.Calls.{Reader}
use Rattle.dcm_trees.specs.declared.beginning.Begun.{Begun}
use Rattle.dcm_trees.specs.declared.file.Done.{Done}
use Rattle.dcm_trees.specs.declared.progress.Shared.{Shared}
use Rattle.dcm_trees.specs.declared.progress.Work.{Work}
use Rattle.dcm_trees.specs.declared.run.TreeRun.{TreeRun}
use Rattle.dcm_trees.specs.File.{DoesName}
use Rattle.dcm_trees.specs.Manner.{Manner}
use Rattle.dcm_trees.specs.Run.{part_name}
use Rattle.dcm_trees.specs.Share.{is_of}
use Rattle.dcm_trees.specs.Task.{Task}
use Rattle.dcm_trees.specs.Work as spec
use Rattle.dcm_trees.specs.Work.{Progress, progress, VisitsName, row, visits_of}
use Rattle.dcm_tree_laws.specs.Again.{OfAll}
use Rattle.dcm_tree_laws.specs.Copies.{SameRow}
use Rattle.dcm_tree_laws.specs.Determined.{as_whole, working}
use Rattle.dcm_tree_laws.specs.FileSystem.{FileSystem, Tree, Host}
use Rattle.dcm_tree_laws.specs.Laws.{part_path}
use Rattle.dcm_tree_laws.specs.OneRow.{RowsOf, no_visit, of_another, and_row}
use Rattle.dcm_tree_laws.specs.Rows.{Visit, noted}
use Rattle.dcm_tree_laws.specs.Shares.{rows_in}
use Rattle.dcm_tree_laws.specs.Together.{Has, IsRunOf, Visited, in_folder, in_list, OneRun, Runs, no_run, and_run}
use Rattle.dcm_tree_laws.specs.Told.{EachTwo, AreOnce, EachRun}
use Rattle.dcm_tree_laws.proofs.Fates.{Works, works_quiet}
use Rattle.dcm_tree_laws.proofs.Frees.{KeepsAll, keeps_itself, then_keeps}
use Rattle.dcm_tree_laws.proofs.Lists.{lines_do}
use Rattle.dcm_tree_laws.proofs.Quiet.{only_quiet, IsClosed, IsSame}
use Rattle.dcm_tree_laws.proofs.RowsBy.{HasRows, visit_of, visit_rows, no_rows, no_stop}
use Rattle.dcm_tree_laws.proofs.SharesBy.{manifest_of_share}
use Rattle.dcm_tree_laws.proofs.Staged.{stop_before, Of, quietly, Known, known, output_is, task_is}
use Rattle.dcm_tree_laws.proofs.StillBy.{before_all, last_of_all}
use Rattle.dcm_tree_laws.proofs.Walks.{VisitsDo, walks_do}

-- ---- names apart

module _ (AreAside : Visit → Visit → Type 0) where
  aside_before : (earlier : List Visit) (v : Visit) → EachTwo AreAside (earlier ++ v ∷ []) → EachTwo AreAside earlier
  aside_before [] v each = tt
  aside_before (u ∷ earlier) v each = (before_all (AreAside u) earlier v each.0, aside_before earlier v each.1)

  aside_last : ((x v : Visit) → AreAside x v → AreAside v x) → (earlier : List Visit) (v : Visit) → EachTwo AreAside (earlier ++ v ∷ []) → OfAll (AreAside v) earlier
  aside_last swap [] v each = tt
  aside_last swap (u ∷ earlier) v each = (swap u v (last_of_all (AreAside u) earlier v each.0), aside_last swap earlier v each.1)

  -- a name is spared by those of other shares, and by those that are apart
  abbrev Spares : (number count : ℕ) → (x v : Visit) → Type 0
  Spares number count x v = (is_of number count v.named.relative ≡ false) ⊎ AreAside x v

  all_spare : (number count : ℕ) (x : Visit) (visits : List Visit) → OfAll (AreAside x) visits → OfAll (Spares number count x) visits
  all_spare number count x [] all = tt
  all_spare number count x (v ∷ visits) all = (inr all.0, all_spare number count x visits all.1)

  of_one : (Is : Visit → Type 0) (x : Visit) (visits : List Visit) → Has x visits → OfAll Is visits → Is x
  of_one Is x [] has all = absurd has
  of_one Is x (v ∷ visits) (inl is) all = subst Is is all.0
  of_one Is x (v ∷ visits) (inr has) all = of_one Is x visits has all.1

  -- each name is spared in a run that is not of its share
  spared : ((x v : Visit) → AreAside x v → AreAside v x) → (number count : ℕ) (x : Visit) (visits : List Visit) → is_of number count x.named.relative ≡ false → Has x visits → EachTwo AreAside visits → OfAll (Spares number count x) visits
  spared swap number count x [] other has each = absurd has
  spared swap number count x (v ∷ visits) other (inl is) each =
      (inl (ap (λ (y : Visit). is_of number count y.named.relative) is ∙ other), subst (λ (y : Visit). OfAll (Spares number count y) visits) is (all_spare number count v visits each.0))
  spared swap number count x (v ∷ visits) other (inr has) each = (inr (swap v x (of_one (AreAside v) x visits has each.0)), spared swap number count x visits other has each.1)

-- ---- what is told of a name

-- what became of a name has the row that is told, and what is told of the others stays so
pub record Telling {I O E : Type 0} (F : Type 0) (h : Host I O) (r : Reader I) (w : Writer O) (e : Writer E) (keeps : Bool) (task : Task) (folder : List ℕ) (first : Tree) (GoesOn : Bool → Type 0) (IsTold : Tree → Visit → Done → Type 0) (AreAside : Visit → Visit → Type 0) : Type 0 where
  pub swap : (x v : Visit) → AreAside x v → AreAside v x
  pub rows : (k : Manner) (number : ℕ) → k.part ≡ below k.output (part_name number) → k.keeps_names ≡ keeps → k.output ≡ folder → k.task ≡ task → GoesOn k.continues → (n : Named) (what : What) (d : Done) (from : E) (before : FileSystem) (done : Done) (to : E) (after : FileSystem) → before.written ≡ None
      → IsTold before.now (visit_of n what) d → DoesName (working {F = F} h r w e) k n what from before (Ok done) to after → SameRow n done d
  pub stays : (k : Manner) (number : ℕ) → k.part ≡ below k.output (part_name number) → k.keeps_names ≡ keeps → k.output ≡ folder → k.task ≡ task → (x : Visit) (d : Done) (n : Named) (what : What) (from : E) (before : FileSystem) (done : Done) (to : E) (after : FileSystem) → before.written ≡ None → KeepsAll h folder first before.now
      → AreAside x (visit_of n what) → DoesName (working {F = F} h r w e) k n what from before (Ok done) to after → IsTold before.now x d → IsTold after.now x d

-- ---- all names

abbrev IsIn : Shared → Visit → Type 0
IsIn shared v = is_of shared.part.number shared.part.count v.named.relative ≡ true

abbrev Becomes : Shared → (Visit → Done) → Visit → Done → Type 0
Becomes shared became v done = IsIn shared v → SameRow v.named done (became v)

abbrev Its : (IsTold : Tree → Visit → Done → Type 0) → Shared → (Visit → Done) → Tree → Visit → Type 0
Its IsTold shared became start v = IsIn shared v → IsTold start v (became v)

record Good {I O W E : Type 0} (h : Host I O) (m : Writer W) (folder : List ℕ) (IsTold : Tree → Visit → Done → Type 0) (AreAside : Visit → Visit → Type 0) (became : Visit → Done) (shared : Shared) (headed : W) (start : FileSystem) (y : (Work W × E) × List Visit) (s : FileSystem) : Type 0 where
  shares : y.0.0.shared ≡ shared
  quiet : s.written ≡ None
  keeps : KeepsAll h folder start.now s.now
  told : (x : Visit) (d : Done) → OfAll (Spares AreAside shared.part.number shared.part.count x) y.1 → y.0.0.stop ≡ None → IsTold start.now x d → IsTold s.now x d
  rows : EachTwo AreAside y.1 → OfAll (Its IsTold shared became start.now) y.1 → y.0.0.stop ≡ None → HasRows m (Becomes shared became) shared headed y.1 y.0.0.manifest

abbrev StaysGood : {I O W E : Type 0} → Host I O → Writer W → (folder : List ℕ) → (IsTold : Tree → Visit → Done → Type 0) → (AreAside : Visit → Visit → Type 0) → (Visit → Done) → Shared → W → FileSystem → ((Work W × E) × List Visit) → FileSystem → ((Work W × E) × List Visit) → FileSystem → Type 0
StaysGood h m folder IsTold AreAside became shared headed start a s b t = Good h m folder IsTold AreAside became shared headed start a s → Good h m folder IsTold AreAside became shared headed start b t

closed : {I O W E : Type 0} (h : Host I O) (m : Writer W) (folder : List ℕ) (IsTold : Tree → Visit → Done → Type 0) (AreAside : Visit → Visit → Type 0) (became : Visit → Done) (shared : Shared) (headed : W) (start : FileSystem) → IsClosed IsSame (StaysGood {E = E} h m folder IsTold AreAside became shared headed start)
closed h m folder IsTold AreAside became shared headed start = record {
  none = λ v s t is good. subst (Good h m folder IsTold AreAside became shared headed start v) (sym is) good;
  still = λ v s t is good. subst (Good h m folder IsTold AreAside became shared headed start v) (sym is) good;
  then = λ a b c s t u one other good. other (one good);
}

first_good : {I O W E : Type 0} (h : Host I O) (m : Writer W) (folder : List ℕ) (IsTold : Tree → Visit → Done → Type 0) (AreAside : Visit → Visit → Type 0) (became : Visit → Done) (headed : W) (start : Work W) (from : E) (before : FileSystem) → before.written ≡ None → start.manifest ≡ headed
    → Good h m folder IsTold AreAside became start.shared headed before ((start, from), []) before
first_good h m folder IsTold AreAside became headed start from before quiet is = record {
  shares = refl;
  quiet = quiet;
  keeps = keeps_itself h folder before.now;
  told = λ x d all stop is_told. is_told;
  rows = λ each its stop. no_rows m (Becomes start.shared became) start.shared headed start.manifest is;
}

-- ---- the rows of a run

-- only the names of its share have rows
its_rows : (shared : Shared) (became : Visit → Done) (visits : List Visit) (text : List ℕ) → RowsOf (Becomes shared became) shared visits text → RowsOf (λ v done. done ≡ became v) shared visits text
its_rows shared became visits text (no_visit v t) = no_visit v t
its_rows shared became visits text (of_another earlier v rows none more) = of_another earlier v (its_rows shared became earlier text rows) none more
its_rows shared became visits text (and_row earlier rest v done rows share so more is) =
    and_row earlier rest v (became v) (its_rows shared became earlier rest rows) share refl more (is ∙ ap (λ (l : List ℕ). rest ++ l) (row_as v done (became v) (so share)))

record RunTold {I O W : Type 0} (h : Host I O) (m : Writer W) (folder : List ℕ) (IsTold : Tree → Visit → Done → Type 0) (AreAside : Visit → Visit → Type 0) (became : Visit → Done) (number count : ℕ) (visits : List Visit) (headed left : W) (start after : Tree) : Type 0 where
  keeps : KeepsAll h folder start after
  told : (x : Visit) (d : Done) → is_of number count x.named.relative ≡ false → Has x visits → EachTwo AreAside visits → IsTold start x d → IsTold after x d
  rows : EachTwo AreAside visits → OfAll (λ v. is_of number count v.named.relative ≡ true → IsTold start v (became v)) visits → m.contents left ≡ append_known (m.contents headed) (concat (rows_in became number count visits))

module _ {I O W : Type 0} (h : Host I O) (m : Writer W) (folder : List ℕ) (IsTold : Tree → Visit → Done → Type 0) (AreAside : Visit → Visit → Type 0) (became : Visit → Done) where
  told_of : {E : Type 0} → ((x v : Visit) → AreAside x v → AreAside v x) → (shared : Shared) (headed left : W) (before done : FileSystem) (last : Work W) (told : E) (visits : List Visit) → left ≡ last.manifest → last.stop ≡ None → Good h m folder IsTold AreAside became shared headed before ((last, told), visits) done
      → RunTold h m folder IsTold AreAside became shared.part.number shared.part.count visits headed left before.now done.now
  told_of swap shared headed left before done last told visits left_is stop good = record {
    keeps = good.keeps;
    told = λ x d other has each is. good.told x d (spared AreAside swap shared.part.number shared.part.count x visits other has each) stop is;
    rows = λ each its.
        let x : HasRows m (Becomes shared became) shared headed visits last.manifest = good.rows each its stop in
        ap m.contents left_is ∙ x.manifest_is ∙ ap (append_known (m.contents headed)) (manifest_of_share became shared visits x.text (its_rows shared became visits x.text x.rows));
  }

  by_run : (visits : List Visit) (headed left : W) (start after : Tree) (a b c d : ℕ) → a ≡ b → c ≡ d → RunTold h m folder IsTold AreAside became a c visits headed left start after → RunTold h m folder IsTold AreAside became b d visits headed left start after
  by_run visits headed left start after a b c d e f told =
      subst (λ (n : ℕ). RunTold h m folder IsTold AreAside became b n visits headed left start after) f (subst (λ (n : ℕ). RunTold h m folder IsTold AreAside became n c visits headed left start after) e told)

-- ---- a run

module _ {I O F W E : Type 0} (h : Host I O) (r : Reader I) (w : Writer O) (m : Writer W) (e : Writer E) (keeps : Bool) (task : Task) (folder : List ℕ) (first : Tree) (GoesOn : Bool → Type 0) (IsTold : Tree → Visit → Done → Type 0) (AreAside : Visit → Visit → Type 0) (telling : Telling F h r w e keeps task folder first GoesOn IsTold AreAside) (became : Visit → Done) where
  module _ (shared : Shared) (known : Known shared keeps) (output_is : (Of shared).output ≡ folder) (task_is : (Of shared).task ≡ task) (goes : GoesOn (Of shared).continues) where
    visit_told : (x : Visit) (d : Done) (from : Progress W) (told_before : E) (before : FileSystem) (n : Named) (what : What) (result : Result (Unit {0}) Stopped) (to : Progress W) (told : E) (after : FileSystem) → before.written ≡ None → KeepsAll h folder first before.now → Spares AreAside shared.part.number shared.part.count x (visit_of n what) → to.stop ≡ None
        → VisitsName (working {F = F} h r w e) m shared from told_before before n what result to told after → IsTold before.now x d → IsTold after.now x d
    visit_told x d from told_before before n what result to told after none since spares stop (spec.of_another other t same_told same ok) is = subst (λ (s : FileSystem). IsTold s.now x d) (sym same) is
    visit_told x d from told_before before n what result to told after none since (inl other) stop (spec.was_done done mid share does ends) is = true_false (is_of shared.part.number shared.part.count n.relative) share other
    visit_told x d from told_before before n what result to told after none since (inr aside) stop (spec.was_done done mid share does ends) is =
        telling.stays (Of shared) known.number known.part_is known.keeps_is output_is task_is x d n what told_before before done mid after none since aside does is
    visit_told x d from told_before before n what result to told after none since spares stop (spec.ends_run p s share does t ok) is = absurd (no_stop to.stop _ (ap (λ q. q.stop) t) stop)

    visits_good : (headed : W) (start : FileSystem) → KeepsAll h folder first start.now → VisitsDo (StaysGood h m folder IsTold AreAside became shared headed start) (noted (visits_of (working {F = F} h r w e) m))
    visits_good headed start since from before n what result to after v good =
        let visits : VisitsName (working {F = F} h r w e) m shared (progress from.0.0) from.0.1 before n what result (progress to.0.0) to.0.1 after =
        subst (λ (s : Shared). VisitsName (working {F = F} h r w e) m s (progress from.0.0) from.0.1 before n what result (progress to.0.0) to.0.1 after) good.shares v.0.0 in
        let now : (after.written ≡ None) × KeepsAll h folder before.now after.now =
        subst (λ (o : List ℕ). (after.written ≡ None) × KeepsAll h o before.now after.now) output_is (quietly {F = F} h r w e m shared known.number known.part_is (progress from.0.0) from.0.1 before n what result (progress to.0.0) to.0.1 after good.quiet visits) in
        record {
          shares = v.0.1 ∙ good.shares;
          quiet = now.0;
          keeps = then_keeps h folder start.now before.now after.now good.keeps now.1;
          told = λ x d all stop is.
              let each : OfAll (Spares AreAside shared.part.number shared.part.count x) (from.1 ++ visit_of n what ∷ []) = subst (OfAll (Spares AreAside shared.part.number shared.part.count x)) v.1 all in
              visit_told x d (progress from.0.0) from.0.1 before n what result (progress to.0.0) to.0.1 after good.quiet (then_keeps h folder first start.now before.now since good.keeps)
              (last_of_all (Spares AreAside shared.part.number shared.part.count x) from.1 (visit_of n what) each) stop visits
              (good.told x d (before_all (Spares AreAside shared.part.number shared.part.count x) from.1 (visit_of n what) each)
              (stop_before (working {F = F} h r w e) m shared (progress from.0.0) from.0.1 before n what result (progress to.0.0) to.0.1 after visits stop) is);
          rows = λ asides its stop.
              let each : EachTwo AreAside (from.1 ++ visit_of n what ∷ []) = subst (EachTwo AreAside) v.1 asides in
              let all : OfAll (Its IsTold shared became start.now) (from.1 ++ visit_of n what ∷ []) = subst (OfAll (Its IsTold shared became start.now)) v.1 its in
              visit_rows (working {F = F} h r w e) m shared headed (Becomes shared became) (Becomes shared became) (λ x done so. so) (progress from.0.0) from.0.1 before n what result (progress to.0.0) to.0.1 after
              (λ done mid does share. telling.rows (Of shared) known.number known.part_is known.keeps_is output_is task_is goes n what (became (visit_of n what)) from.0.1 before done mid after good.quiet
              (good.told (visit_of n what) (became (visit_of n what)) (all_spare AreAside shared.part.number shared.part.count (visit_of n what) from.1 (aside_last AreAside telling.swap from.1 (visit_of n what) each))
              (stop_before (working {F = F} h r w e) m shared (progress from.0.0) from.0.1 before n what result (progress to.0.0) to.0.1 after visits stop)
              (last_of_all (Its IsTold shared became start.now) from.1 (visit_of n what) all share)) does)
              from.1 to.1 v.1 visits stop (λ none. good.rows (aside_before AreAside from.1 (visit_of n what) each) (before_all (Its IsTold shared became start.now) from.1 (visit_of n what) all) none);
        }

  visited_told : (number count : ℕ) (run : TreeRun) → IsRunOf keeps task folder number count run → GoesOn run.options.continues → (begun : Begun) (headed left : W) → begun.part.items ≡ part_path run → (before done : FileSystem) → before.written ≡ None → KeepsAll h folder first before.now → (visits : List Visit)
      → Visited (working {F = F} h r w e) m run begun headed before visits left done → RunTold h m folder IsTold AreAside became number count visits headed left before.now done.now
  visited_told number count run is_run goes begun headed left part_is before done quiet since visits (in_folder path opened from status to v walks stop) =
      let shared : Shared = v.start.shared in
      let is : Known shared keeps = known keeps task folder number count run is_run begun.part.items shared v.begins.shares part_is in
      by_run h m folder IsTold AreAside became visits headed left before.now done.now shared.part.number number shared.part.count count
      (ap (λ p. p.number) v.begins.shares.part_is ∙ is_run.number_is) (ap (λ p. p.count) v.begins.shares.part_is ∙ is_run.count_is)
      (told_of h m folder IsTold AreAside became telling.swap shared headed left before done v.last v.told visits v.left_is stop
      (walks_do (Works {F = F} h) (only_quiet (Works {F = F} h) (works_quiet {F = F} h)) (StaysGood h m folder IsTold AreAside became shared headed before) (closed h m folder IsTold AreAside became shared headed before) (noted (visits_of (working {F = F} h r w e) m))
      (visits_good shared is (output_is keeps task folder number count run is_run begun.part.items shared v.begins.shares) (task_is keeps task folder number count run is_run begun.part.items shared v.begins.shares)
      (subst GoesOn (sym (ap (λ (y : Manner). y.continues) v.begins.shares.manner)) goes) headed before since) path begun.number opened ((v.start, from), []) before v.walked ((v.last, v.told), visits) done walks
      (first_good h m folder IsTold AreAside became headed v.start from before quiet (ap (λ p. p.manifest) v.begins.nothing))))
  visited_told number count run is_run goes begun headed left part_is before done quiet since visits (in_list list input from status to read v walks stop) =
      let shared : Shared = v.start.shared in
      let is : Known shared keeps = known keeps task folder number count run is_run begun.part.items shared v.begins.shares part_is in
      by_run h m folder IsTold AreAside became visits headed left before.now done.now shared.part.number number shared.part.count count
      (ap (λ p. p.number) v.begins.shares.part_is ∙ is_run.number_is) (ap (λ p. p.count) v.begins.shares.part_is ∙ is_run.count_is)
      (told_of h m folder IsTold AreAside became telling.swap shared headed left before done v.last v.told visits v.left_is stop
      (lines_do (Works {F = F} h) (only_quiet (Works {F = F} h) (works_quiet {F = F} h)) (StaysGood h m folder IsTold AreAside became shared headed before) (closed h m folder IsTold AreAside became shared headed before) (noted (visits_of (working {F = F} h r w e) m))
      (visits_good shared is (output_is keeps task folder number count run is_run begun.part.items shared v.begins.shares) (task_is keeps task folder number count run is_run begun.part.items shared v.begins.shares)
      (subst GoesOn (sym (ap (λ (y : Manner). y.continues) v.begins.shares.manner)) goes) headed before since) (as_whole h r).gets begun.number ((v.start, from), []) before input v.walked ((v.last, v.told), visits) done read walks
      (first_good h m folder IsTold AreAside became headed v.start from before quiet (ap (λ p. p.manifest) v.begins.nothing))))

  run_told : (visits : List Visit) (number count : ℕ) (start after : Tree) → KeepsAll h folder first start → (o : OneRun F h r w m e keeps task folder (λ names. names ≡ visits) number count start after) → GoesOn o.run.options.continues → RunTold h m folder IsTold AreAside became number count visits o.headed o.left start after
  run_told visits number count start after since o goes =
      subst (λ (names : List Visit). RunTold h m folder IsTold AreAside became number count names o.headed o.left start after) o.are_so
      (subst (λ (t : Tree). RunTold h m folder IsTold AreAside became number count o.visits o.headed o.left start t) o.after_is
      (subst (λ (t : Tree). RunTold h m folder IsTold AreAside became number count o.visits o.headed o.left t o.done.now) o.start_is
      (visited_told number count o.run o.is_of goes o.begun o.headed o.left o.part_is o.before o.done o.quiet (subst (KeepsAll h folder first) (sym o.start_is) since) o.visits o.visited)))

-- ---- several runs

in_front : (n : ℕ) (earlier : List ℕ) (last : ℕ) → Has n earlier → Has n (earlier ++ last ∷ [])
in_front n [] last has = absurd has
in_front n (a ∷ earlier) last (inl is) = inl is
in_front n (a ∷ earlier) last (inr has) = inr (in_front n earlier last has)

once_before : (earlier : List ℕ) (last : ℕ) → AreOnce (earlier ++ last ∷ []) → AreOnce earlier
once_before [] last once = tt
once_before (n ∷ earlier) last once = (λ has. once.0 (in_front n earlier last has), once_before earlier last once.1)

at_end : (n : ℕ) (earlier : List ℕ) (last : ℕ) → last ≡ n → Has n (earlier ++ last ∷ [])
at_end n [] last is = inl is
at_end n (a ∷ earlier) last is = inr (at_end n earlier last is)

once_last : (earlier : List ℕ) (last : ℕ) → AreOnce (earlier ++ last ∷ []) → Has last earlier → ⊥
once_last [] last once has = has
once_last (n ∷ earlier) last once (inl is) = once.0 (at_end n earlier last (sym is))
once_last (n ∷ earlier) last once (inr has) = once_last earlier last once.1 has

-- a name is of one share
other_number : (a b count : ℕ) (relative : List ℕ) (was : Bool) → is_of b count relative ≡ was → is_of a count relative ≡ true → (b ≡ a → ⊥) → is_of b count relative ≡ false
other_number a b count relative true is share apart = absurd (apart (sym (eqb-true _ b is) ∙ eqb-true _ a share))
other_number a b count relative false is share apart = is

record AllTold {I O : Type 0} (h : Host I O) (folder : List ℕ) (IsTold : Tree → Visit → Done → Type 0) (count : ℕ) (visits : List Visit) (numbers : List ℕ) (first now : Tree) : Type 0 where
  keeps : KeepsAll h folder first now
  told : (x : Visit) (d : Done) → ((number : ℕ) → Has number numbers → is_of number count x.named.relative ≡ false) → Has x visits → IsTold first x d → IsTold now x d

-- what is told of a name is so before the run of its share
each_told : {I O : Type 0} (h : Host I O) (folder : List ℕ) (IsTold : Tree → Visit → Done → Type 0) (became : Visit → Done) (number count : ℕ) (visits : List Visit) (numbers : List ℕ) (first now : Tree) → AllTold h folder IsTold count visits numbers first now → (Has number numbers → ⊥) → (some : List Visit) → ((x : Visit) → Has x some → Has x visits)
    → OfAll (λ v. IsTold first v (became v)) some → OfAll (λ v. is_of number count v.named.relative ≡ true → IsTold now v (became v)) some
each_told h folder IsTold became number count visits numbers first now had once [] among all = tt
each_told h folder IsTold became number count visits numbers first now had once (v ∷ some) among all = (
  λ share. had.told v (became v) (λ other has. other_number number other count v.named.relative (is_of other count v.named.relative) refl share (λ same. once (subst (λ (n : ℕ). Has n numbers) same has))) (among v (inl refl)) all.0,
  each_told h folder IsTold became number count visits numbers first now had once some (λ x has. among x (inr has)) all.1,
)

module _ {I O F W E : Type 0} (h : Host I O) (r : Reader I) (w : Writer O) (m : Writer W) (e : Writer E) (keeps : Bool) (task : Task) (folder : List ℕ) (first : Tree) (GoesOn : Bool → Type 0) (IsTold : Tree → Visit → Done → Type 0) (AreAside : Visit → Visit → Type 0) (telling : Telling F h r w e keeps task folder first GoesOn IsTold AreAside) (became : Visit → Done) (visits : List Visit) (count : ℕ)
    (each : EachTwo AreAside visits) (all : OfAll (λ v. IsTold first v (became v)) visits) where
  abbrev Continues : (number : ℕ) (start left : Tree) → OneRun F h r w m e keeps task folder (λ names. names ≡ visits) number count start left → Type 0
  Continues number start left one = GoesOn one.run.options.continues

  abbrev HasItsRows : (number : ℕ) (start left : Tree) → OneRun F h r w m e keeps task folder (λ names. names ≡ visits) number count start left → Type 0
  HasItsRows number start left one = m.contents one.left ≡ append_known (m.contents one.headed) (concat (rows_in became number count visits))

  all_told : (numbers : List ℕ) (after : Tree) → AreOnce numbers → (runs : Runs F h r w m e keeps task folder (λ names. names ≡ visits) count first numbers after) → EachRun F h r w m e keeps task folder (λ names. names ≡ visits) count first Continues numbers after runs
      → AllTold h folder IsTold count visits numbers first after × EachRun F h r w m e keeps task folder (λ names. names ≡ visits) count first HasItsRows numbers after runs
  all_told numbers after once (no_run none is) goes = (subst (AllTold h folder IsTold count visits numbers first) (sym is) (record { keeps = keeps_itself h folder first; told = λ x d others has is_told. is_told }), tt)
  all_told numbers after once (and_run earlier number mid runs one more) goes =
      let each_once : AreOnce (earlier ++ number ∷ []) = subst AreOnce more once in
      let had = all_told earlier mid (once_before earlier number each_once) runs goes.0 in
      let now : RunTold h m folder IsTold AreAside became number count visits one.headed one.left mid after = run_told {F = F} h r w m e keeps task folder first GoesOn IsTold AreAside telling became visits number count mid after had.0.keeps one goes.1 in (
        record {
          keeps = then_keeps h folder first mid after had.0.keeps now.keeps;
          told = λ x d others has is. now.told x d (others number (subst (Has number) (sym more) (at_end number earlier number refl))) has each
              (had.0.told x d (λ other here. others other (subst (Has other) (sym more) (in_front other earlier number here))) has is);
        },
        (had.1, now.rows each (each_told h folder IsTold became number count visits earlier first mid had.0 (once_last earlier number each_once) visits (λ x has. has) all)),
      )

  pub rows_told : (numbers : List ℕ) (after : Tree) → AreOnce numbers → (runs : Runs F h r w m e keeps task folder (λ names. names ≡ visits) count first numbers after) → EachRun F h r w m e keeps task folder (λ names. names ≡ visits) count first Continues numbers after runs
      → EachRun F h r w m e keeps task folder (λ names. names ≡ visits) count first HasItsRows numbers after runs
  rows_told numbers after once runs goes = (all_told numbers after once runs goes).1
