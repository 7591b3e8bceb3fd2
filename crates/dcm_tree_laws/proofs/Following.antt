-- The rows of several runs, where each name is told by the names that were done before it.
use Rattle.std.proofs.Common.{◌≡◌, ◌∙◌, refl, sym, ap, subst, inl, inr, ℕ, List, [], ◌∷◌, ◌++◌, Bool, true, false, None, Result, Ok}
use Rattle.std.specs.List.{concat}
use Rattle.std.specs.Io.KnownBytes.{append_known}
use Rattle.std.proofs.lemmas.List.{append-nil, append_assoc}
use Rattle.dcm_devices.specs.Writing.{Writer}
use Rattle.dcm_tree_laws.proofs.CopiedBy.{row_as}
use Rattle.dcm_walk.specs.Names.{below}
use Rattle.dcm_walk.specs.Visits.{Named}
use Rattle.dcm_walk.specs.declared.visitor.Stopped.{Stopped}
use Rattle.dcm_walk.specs.declared.visitor.What.{What}
use Rattle.dcm_cli.specs.Calls.{Reader}
use Rattle.dcm_trees.specs.declared.beginning.Begun.{Begun}
use Rattle.dcm_trees.specs.declared.file.Done.{Done}
use Rattle.dcm_trees.specs.declared.progress.Shared.{Shared}
use Rattle.dcm_trees.specs.declared.progress.Work.{Work}
use Rattle.dcm_trees.specs.declared.run.TreeRun.{TreeRun}
use Rattle.dcm_trees.specs.Fate.{word}
use Rattle.dcm_trees.specs.File.{DoesName}
use Rattle.dcm_trees.specs.Manner.{Manner}
use Rattle.dcm_trees.specs.Run.{part_name}
use Rattle.dcm_trees.specs.Share.{is_of}
use Rattle.dcm_trees.specs.Task.{Task}
use Rattle.dcm_trees.specs.Work as spec
use Rattle.dcm_trees.specs.Work.{Progress, progress, VisitsName, row, output_of, visits_of}
use Rattle.dcm_tree_laws.specs.Behind.{behind, done_if, done_in, done_by, rows_behind, EachRunBehind}
use Rattle.dcm_tree_laws.specs.Copies.{SameRow}
use Rattle.dcm_tree_laws.specs.Determined.{as_whole, working}
use Rattle.dcm_tree_laws.specs.FileSystem.{FileSystem, Tree, Host}
use Rattle.dcm_tree_laws.specs.Laws.{part_path}
use Rattle.dcm_tree_laws.specs.Rows.{Visit, noted}
use Rattle.dcm_tree_laws.specs.Shares.{row_of, row_if}
use Rattle.dcm_tree_laws.specs.Together.{Has, IsRunOf, Visited, in_folder, in_list, OneRun, Runs, no_run, and_run}
use Rattle.dcm_tree_laws.specs.Told.{EachRun}
use Rattle.dcm_tree_laws.proofs.Fates.{Works, works_quiet}
use Rattle.dcm_tree_laws.proofs.Frees.{KeepsAll, keeps_itself, then_keeps}
use Rattle.dcm_tree_laws.proofs.Lists.{lines_do}
use Rattle.dcm_tree_laws.proofs.Quiet.{only_quiet, IsClosed, IsSame}
use Rattle.dcm_tree_laws.proofs.RowsBy.{visit_of, went_out, no_stop, one_more, no_manifest}
use Rattle.dcm_tree_laws.proofs.Staged.{stop_before, Of, quietly, Known, known, output_is, task_is}
use Rattle.dcm_tree_laws.proofs.Walks.{VisitsDo, walks_do}

-- ---- the last of some names

has_before : {A : Type 0} (a : A) (earlier : List A) (last : A) → Has a earlier → Has a (earlier ++ last ∷ [])
has_before a [] last has = absurd has
has_before a (b ∷ earlier) last (inl is) = inl is
has_before a (b ∷ earlier) last (inr has) = inr (has_before a earlier last has)

has_last : {A : Type 0} (earlier : List A) (last : A) → Has last (earlier ++ last ∷ [])
has_last [] last = inl refl
has_last (b ∷ earlier) last = inr (has_last earlier last)

module _ (number count : ℕ) where
  done_last : (before earlier : List Visit) (v : Visit) → done_in number count before (earlier ++ v ∷ []) ≡ done_if (is_of number count v.named.relative) (done_in number count before earlier) v
  done_last before [] v = refl
  done_last before (u ∷ earlier) v = done_last (done_if (is_of number count u.named.relative) before u) earlier v

  module _ (same : Visit → Visit → Bool) (became : Visit → Done) where
    front_text : (first rest mid last : List ℕ) → rest ≡ mid ++ last → first ++ rest ≡ (first ++ mid) ++ last
    front_text first rest mid last is = ap (λ (l : List ℕ). first ++ l) is ∙ sym (append_assoc first mid last)

    concat_if : (has_row : Bool) (text : List ℕ) (rows : List (List ℕ)) → concat (row_if has_row text ++ rows) ≡ concat (row_if has_row text) ++ concat rows
    concat_if true text rows = ap (λ (l : List ℕ). l ++ concat rows) (sym (append-nil text))
    concat_if false text rows = refl

    rows_last : (before earlier : List Visit) (v : Visit) → concat (rows_behind same became number count before (earlier ++ v ∷ []))
        ≡ concat (rows_behind same became number count before earlier) ++ concat (row_if (is_of number count v.named.relative) (row_of (behind same became (done_in number count before earlier)) v))
    rows_last before [] v = concat_if (is_of number count v.named.relative) (row_of (behind same became before) v) [] ∙ append-nil (concat (row_if (is_of number count v.named.relative) (row_of (behind same became before) v)))
    rows_last before (u ∷ earlier) v =
        let is_its : Bool = is_of number count u.named.relative in
        let first : List ℕ = row_of (behind same became before) u in
        let next : List Visit = done_if is_its before u in
        let last : List ℕ = concat (row_if (is_of number count v.named.relative) (row_of (behind same became (done_in number count next earlier)) v)) in
        concat_if is_its first (rows_behind same became number count next (earlier ++ v ∷ []))
        ∙ front_text (concat (row_if is_its first)) (concat (rows_behind same became number count next (earlier ++ v ∷ []))) (concat (rows_behind same became number count next earlier)) last (rows_last next earlier v)
        ∙ ap (λ (l : List ℕ). l ++ last) (sym (concat_if is_its first (rows_behind same became number count next earlier)))

-- those of more runs
done_after : (count : ℕ) (before : List Visit) (earlier : List ℕ) (last : ℕ) (visits : List Visit) → done_by count before (earlier ++ last ∷ []) visits ≡ done_in last count (done_by count before earlier visits) visits
done_after count before [] last visits = refl
done_after count before (number ∷ earlier) last visits = done_after count (done_in number count before visits) earlier last visits

-- ---- what is told of a name

-- what became of a name has the row that is told, and what is told of each is so behind it
pub record Following {I O E : Type 0} (F : Type 0) (h : Host I O) (r : Reader I) (w : Writer O) (e : Writer E) (keeps : Bool) (task : Task) (folder : List ℕ) (first : Tree) (GoesOn : Bool → Type 0) (IsTold : Tree → Visit → Done → Type 0) (visits : List Visit) (same : Visit → Visit → Bool) (became : Visit → Done) : Type 0 where
  pub rows : (k : Manner) (number : ℕ) → k.part ≡ below k.output (part_name number) → k.keeps_names ≡ keeps → k.output ≡ folder → k.task ≡ task → GoesOn k.continues → (n : Named) (what : What) (d : Done) (from : E) (before : FileSystem) (done : Done) (to : E) (after : FileSystem) → before.written ≡ None
      → IsTold before.now (visit_of n what) d → DoesName (working {F = F} h r w e) k n what from before (Ok done) to after → SameRow n done d
  pub follows : (k : Manner) (number : ℕ) → k.part ≡ below k.output (part_name number) → k.keeps_names ≡ keeps → k.output ≡ folder → k.task ≡ task → GoesOn k.continues → (others : List Visit) (x : Visit) (n : Named) (what : What) (from : E) (before : FileSystem) (done : Done) (to : E) (after : FileSystem) → before.written ≡ None → KeepsAll h folder first before.now
      → Has (visit_of n what) visits → Has x visits → IsTold before.now (visit_of n what) (behind same became others (visit_of n what)) → IsTold before.now x (behind same became others x) → DoesName (working {F = F} h r w e) k n what from before (Ok done) to after
      → IsTold after.now x (behind same became (visit_of n what ∷ others) x)

-- ---- all names

abbrev AllIn : (some visits : List Visit) → Type 0
AllIn some visits = (v : Visit) → Has v some → Has v visits

record Good {I O W E : Type 0} (h : Host I O) (m : Writer W) (folder : List ℕ) (IsTold : Tree → Visit → Done → Type 0) (visits : List Visit) (same : Visit → Visit → Bool) (became : Visit → Done) (others : List Visit) (shared : Shared) (headed : W) (start : FileSystem) (y : (Work W × E) × List Visit) (s : FileSystem) : Type 0 where
  shares : y.0.0.shared ≡ shared
  quiet : s.written ≡ None
  keeps : KeepsAll h folder start.now s.now
  told : AllIn y.1 visits → y.0.0.stop ≡ None → (x : Visit) → Has x visits → IsTold s.now x (behind same became (done_in shared.part.number shared.part.count others y.1) x)
  rows : AllIn y.1 visits → y.0.0.stop ≡ None → m.contents y.0.0.manifest ≡ append_known (m.contents headed) (concat (rows_behind same became shared.part.number shared.part.count others y.1))

abbrev StaysGood : {I O W E : Type 0} → Host I O → Writer W → (folder : List ℕ) → (IsTold : Tree → Visit → Done → Type 0) → (visits : List Visit) → (same : Visit → Visit → Bool) → (Visit → Done) → (others : List Visit) → Shared → W → FileSystem → ((Work W × E) × List Visit) → FileSystem → ((Work W × E) × List Visit) → FileSystem → Type 0
StaysGood h m folder IsTold visits same became others shared headed start a s b t = Good h m folder IsTold visits same became others shared headed start a s → Good h m folder IsTold visits same became others shared headed start b t

closed : {I O W E : Type 0} (h : Host I O) (m : Writer W) (folder : List ℕ) (IsTold : Tree → Visit → Done → Type 0) (visits : List Visit) (same : Visit → Visit → Bool) (became : Visit → Done) (others : List Visit) (shared : Shared) (headed : W) (start : FileSystem) → IsClosed IsSame (StaysGood {E = E} h m folder IsTold visits same became others shared headed start)
closed h m folder IsTold visits same became others shared headed start = record {
  none = λ v s t is good. subst (Good h m folder IsTold visits same became others shared headed start v) (sym is) good;
  still = λ v s t is good. subst (Good h m folder IsTold visits same became others shared headed start v) (sym is) good;
  then = λ a b c s t u one other good. other (one good);
}

first_good : {I O W E : Type 0} (h : Host I O) (m : Writer W) (folder : List ℕ) (IsTold : Tree → Visit → Done → Type 0) (visits : List Visit) (same : Visit → Visit → Bool) (became : Visit → Done) (others : List Visit) (headed : W) (start : Work W) (from : E) (before : FileSystem) → before.written ≡ None → start.manifest ≡ headed
    → ((x : Visit) → Has x visits → IsTold before.now x (behind same became others x)) → Good h m folder IsTold visits same became others start.shared headed before ((start, from), []) before
first_good h m folder IsTold visits same became others headed start from before quiet is told = record {
  shares = refl;
  quiet = quiet;
  keeps = keeps_itself h folder before.now;
  told = λ among stop x has. told x has;
  rows = λ among stop. no_manifest m start.manifest headed is;
}

-- ---- a run

-- what it says, and what is told behind it
record RunTold {I O W : Type 0} (h : Host I O) (m : Writer W) (folder : List ℕ) (IsTold : Tree → Visit → Done → Type 0) (visits : List Visit) (same : Visit → Visit → Bool) (became : Visit → Done) (others : List Visit) (number count : ℕ) (headed left : W) (start after : Tree) : Type 0 where
  keeps : KeepsAll h folder start after
  told : (x : Visit) → Has x visits → IsTold after x (behind same became (done_in number count others visits) x)
  rows : m.contents left ≡ append_known (m.contents headed) (concat (rows_behind same became number count others visits))

module _ {I O W : Type 0} (h : Host I O) (m : Writer W) (folder : List ℕ) (IsTold : Tree → Visit → Done → Type 0) (visits : List Visit) (same : Visit → Visit → Bool) (became : Visit → Done) (others : List Visit) where
  told_of : {E : Type 0} → (shared : Shared) (headed left : W) (before done : FileSystem) (last : Work W) (told : E) → left ≡ last.manifest → last.stop ≡ None → Good h m folder IsTold visits same became others shared headed before ((last, told), visits) done
      → RunTold h m folder IsTold visits same became others shared.part.number shared.part.count headed left before.now done.now
  told_of shared headed left before done last told left_is stop good = record {
    keeps = good.keeps;
    told = λ x has. good.told (λ v has_it. has_it) stop x has;
    rows = ap m.contents left_is ∙ good.rows (λ v has_it. has_it) stop;
  }

  by_run : (headed left : W) (start after : Tree) (a b c d : ℕ) → a ≡ b → c ≡ d → RunTold h m folder IsTold visits same became others a c headed left start after → RunTold h m folder IsTold visits same became others b d headed left start after
  by_run headed left start after a b c d e f told =
      subst (λ (n : ℕ). RunTold h m folder IsTold visits same became others b n headed left start after) f (subst (λ (n : ℕ). RunTold h m folder IsTold visits same became others n c headed left start after) e told)

module _ {I O F W E : Type 0} (h : Host I O) (r : Reader I) (w : Writer O) (m : Writer W) (e : Writer E) (keeps : Bool) (task : Task) (folder : List ℕ) (first : Tree) (GoesOn : Bool → Type 0) (IsTold : Tree → Visit → Done → Type 0) (visits : List Visit) (same : Visit → Visit → Bool) (became : Visit → Done)
    (following : Following F h r w e keeps task folder first GoesOn IsTold visits same became) where
  module _ (shared : Shared) (known : Known shared keeps) (output_is : (Of shared).output ≡ folder) (task_is : (Of shared).task ≡ task) (goes : GoesOn (Of shared).continues) where
    -- whether it is of the share
    abbrev IsIts : Visit → Bool
    IsIts v = is_of shared.part.number shared.part.count v.named.relative

    visit_told : (others : List Visit) (x : Visit) (from : Progress W) (told_before : E) (before : FileSystem) (n : Named) (what : What) (result : Result (Unit {0}) Stopped) (to : Progress W) (told : E) (after : FileSystem) → before.written ≡ None → KeepsAll h folder first before.now → Has (visit_of n what) visits → Has x visits → to.stop ≡ None
        → IsTold before.now (visit_of n what) (behind same became others (visit_of n what)) → IsTold before.now x (behind same became others x)
        → VisitsName (working {F = F} h r w e) m shared from told_before before n what result to told after → IsTold after.now x (behind same became (done_if (IsIts (visit_of n what)) others (visit_of n what)) x)
    visit_told others x from told_before before n what result to told after none since has has_x stop it is (spec.of_another other t same_told unchanged ok) =
        subst (λ (b : Bool). IsTold after.now x (behind same became (done_if b others (visit_of n what)) x)) (sym other) (subst (λ (s : FileSystem). IsTold s.now x (behind same became others x)) (sym unchanged) is)
    visit_told others x from told_before before n what result to told after none since has has_x stop it is (spec.was_done done mid share does ends) =
        subst (λ (b : Bool). IsTold after.now x (behind same became (done_if b others (visit_of n what)) x)) (sym share)
        (following.follows (Of shared) known.number known.part_is known.keeps_is output_is task_is goes others x n what told_before before done mid after none since has has_x it is does)
    visit_told others x from told_before before n what result to told after none since has has_x stop it is (spec.ends_run p s share does t ok) = absurd (no_stop to.stop _ (ap (λ q. q.stop) t) stop)

    visit_row : (others : List Visit) (text : List ℕ) (headed : W) (from : Progress W) (told_before : E) (before : FileSystem) (n : Named) (what : What) (result : Result (Unit {0}) Stopped) (to : Progress W) (told : E) (after : FileSystem) → before.written ≡ None → to.stop ≡ None
        → IsTold before.now (visit_of n what) (behind same became others (visit_of n what)) → m.contents from.manifest ≡ append_known (m.contents headed) text → VisitsName (working {F = F} h r w e) m shared from told_before before n what result to told after
        → m.contents to.manifest ≡ append_known (m.contents headed) (text ++ concat (row_if (IsIts (visit_of n what)) (row_of (behind same became others) (visit_of n what))))
    visit_row others text headed from told_before before n what result to told after none stop it had (spec.of_another other t same_told unchanged ok) =
        subst (λ (b : Bool). m.contents to.manifest ≡ append_known (m.contents headed) (text ++ concat (row_if b (row_of (behind same became others) (visit_of n what))))) (sym other)
        (ap (λ (p : Progress W). m.contents p.manifest) t ∙ had ∙ ap (append_known (m.contents headed)) (sym (append-nil text)))
    visit_row others text headed from told_before before n what result to told after none stop it had (spec.was_done done mid share does (spec.has_row manifest puts reports is ok)) =
        let its : SameRow n done (behind same became others (visit_of n what)) = following.rows (Of shared) known.number known.part_is known.keeps_is output_is task_is goes n what (behind same became others (visit_of n what)) told_before before done mid after none it does in
        let line : List ℕ = row n.name (output_of n done) (word done.fate) in
        subst (λ (b : Bool). m.contents to.manifest ≡ append_known (m.contents headed) (text ++ concat (row_if b (row_of (behind same became others) (visit_of n what))))) (sym share)
        (ap (λ (p : Progress W). m.contents p.manifest) is ∙ one_more m from.manifest manifest headed text line (went_out m line from.manifest manifest puts) had
        ∙ ap (λ (l : List ℕ). append_known (m.contents headed) (text ++ l)) (row_as (visit_of n what) done (behind same became others (visit_of n what)) its ∙ sym (append-nil (row_of (behind same became others) (visit_of n what)))))
    visit_row others text headed from told_before before n what result to told after none stop it had (spec.was_done done mid share does (spec.no_row manifest failure s puts t is ok)) = absurd (no_stop to.stop _ (ap (λ p. p.stop) is) stop)
    visit_row others text headed from told_before before n what result to told after none stop it had (spec.ends_run p s share does t ok) = absurd (no_stop to.stop _ (ap (λ q. q.stop) t) stop)

    visits_good : (others : List Visit) (headed : W) (start : FileSystem) → KeepsAll h folder first start.now → VisitsDo (StaysGood h m folder IsTold visits same became others shared headed start) (noted (visits_of (working {F = F} h r w e) m))
    visits_good others headed start since from before n what result to after v good =
        let visits_it : VisitsName (working {F = F} h r w e) m shared (progress from.0.0) from.0.1 before n what result (progress to.0.0) to.0.1 after =
        subst (λ (s : Shared). VisitsName (working {F = F} h r w e) m s (progress from.0.0) from.0.1 before n what result (progress to.0.0) to.0.1 after) good.shares v.0.0 in
        let now : (after.written ≡ None) × KeepsAll h folder before.now after.now =
        subst (λ (o : List ℕ). (after.written ≡ None) × KeepsAll h o before.now after.now) output_is (quietly {F = F} h r w e m shared known.number known.part_is (progress from.0.0) from.0.1 before n what result (progress to.0.0) to.0.1 after good.quiet visits_it) in
        let done_now : List Visit = done_in shared.part.number shared.part.count others from.1 in
        record {
          shares = v.0.1 ∙ good.shares;
          quiet = now.0;
          keeps = then_keeps h folder start.now before.now after.now good.keeps now.1;
          told = λ among stop x has.
              let each : AllIn (from.1 ++ visit_of n what ∷ []) visits = subst (λ (l : List Visit). AllIn l visits) v.1 among in
              let had = good.told (λ u has_it. each u (has_before u from.1 (visit_of n what) has_it)) (stop_before (working {F = F} h r w e) m shared (progress from.0.0) from.0.1 before n what result (progress to.0.0) to.0.1 after visits_it stop) in
              subst (λ (l : List Visit). IsTold after.now x (behind same became (done_in shared.part.number shared.part.count others l) x)) (sym v.1)
              (subst (λ (l : List Visit). IsTold after.now x (behind same became l x)) (sym (done_last shared.part.number shared.part.count others from.1 (visit_of n what)))
              (visit_told done_now x (progress from.0.0) from.0.1 before n what result (progress to.0.0) to.0.1 after good.quiet (then_keeps h folder first start.now before.now since good.keeps) (each (visit_of n what) (has_last from.1 (visit_of n what))) has stop
              (had (visit_of n what) (each (visit_of n what) (has_last from.1 (visit_of n what)))) (had x has) visits_it));
          rows = λ among stop.
              let each : AllIn (from.1 ++ visit_of n what ∷ []) visits = subst (λ (l : List Visit). AllIn l visits) v.1 among in
              let stopped = stop_before (working {F = F} h r w e) m shared (progress from.0.0) from.0.1 before n what result (progress to.0.0) to.0.1 after visits_it stop in
              let earlier : AllIn from.1 visits = λ u has_it. each u (has_before u from.1 (visit_of n what) has_it) in
              subst (λ (l : List Visit). m.contents to.0.0.manifest ≡ append_known (m.contents headed) (concat (rows_behind same became shared.part.number shared.part.count others l))) (sym v.1)
              (visit_row done_now (concat (rows_behind same became shared.part.number shared.part.count others from.1)) headed (progress from.0.0) from.0.1 before n what result (progress to.0.0) to.0.1 after good.quiet stop
              (good.told earlier stopped (visit_of n what) (each (visit_of n what) (has_last from.1 (visit_of n what)))) (good.rows earlier stopped) visits_it
              ∙ ap (append_known (m.contents headed)) (sym (rows_last shared.part.number shared.part.count same became others from.1 (visit_of n what))));
        }

  visited_told : (others : List Visit) (number count : ℕ) (run : TreeRun) → IsRunOf keeps task folder number count run → GoesOn run.options.continues → (begun : Begun) (headed left : W) → begun.part.items ≡ part_path run → (before done : FileSystem) → before.written ≡ None → KeepsAll h folder first before.now
      → ((x : Visit) → Has x visits → IsTold before.now x (behind same became others x)) → Visited (working {F = F} h r w e) m run begun headed before visits left done → RunTold h m folder IsTold visits same became others number count headed left before.now done.now
  visited_told others number count run is_run goes begun headed left part_is before done quiet since told (in_folder path opened from status to v walks stop) =
      let shared : Shared = v.start.shared in
      let is : Known shared keeps = known keeps task folder number count run is_run begun.part.items shared v.begins.shares part_is in
      by_run h m folder IsTold visits same became others headed left before.now done.now shared.part.number number shared.part.count count
      (ap (λ p. p.number) v.begins.shares.part_is ∙ is_run.number_is) (ap (λ p. p.count) v.begins.shares.part_is ∙ is_run.count_is)
      (told_of h m folder IsTold visits same became others shared headed left before done v.last v.told v.left_is stop
      (walks_do (Works {F = F} h) (only_quiet (Works {F = F} h) (works_quiet {F = F} h)) (StaysGood h m folder IsTold visits same became others shared headed before) (closed h m folder IsTold visits same became others shared headed before) (noted (visits_of (working {F = F} h r w e) m))
      (visits_good shared is (output_is keeps task folder number count run is_run begun.part.items shared v.begins.shares) (task_is keeps task folder number count run is_run begun.part.items shared v.begins.shares)
      (subst GoesOn (sym (ap (λ (y : Manner). y.continues) v.begins.shares.manner)) goes) others headed before since) path begun.number opened ((v.start, from), []) before v.walked ((v.last, v.told), visits) done walks
      (first_good h m folder IsTold visits same became others headed v.start from before quiet (ap (λ p. p.manifest) v.begins.nothing) told)))
  visited_told others number count run is_run goes begun headed left part_is before done quiet since told (in_list list input from status to read v walks stop) =
      let shared : Shared = v.start.shared in
      let is : Known shared keeps = known keeps task folder number count run is_run begun.part.items shared v.begins.shares part_is in
      by_run h m folder IsTold visits same became others headed left before.now done.now shared.part.number number shared.part.count count
      (ap (λ p. p.number) v.begins.shares.part_is ∙ is_run.number_is) (ap (λ p. p.count) v.begins.shares.part_is ∙ is_run.count_is)
      (told_of h m folder IsTold visits same became others shared headed left before done v.last v.told v.left_is stop
      (lines_do (Works {F = F} h) (only_quiet (Works {F = F} h) (works_quiet {F = F} h)) (StaysGood h m folder IsTold visits same became others shared headed before) (closed h m folder IsTold visits same became others shared headed before) (noted (visits_of (working {F = F} h r w e) m))
      (visits_good shared is (output_is keeps task folder number count run is_run begun.part.items shared v.begins.shares) (task_is keeps task folder number count run is_run begun.part.items shared v.begins.shares)
      (subst GoesOn (sym (ap (λ (y : Manner). y.continues) v.begins.shares.manner)) goes) others headed before since) (as_whole h r).gets begun.number ((v.start, from), []) before input v.walked ((v.last, v.told), visits) done read walks
      (first_good h m folder IsTold visits same became others headed v.start from before quiet (ap (λ p. p.manifest) v.begins.nothing) told)))

  run_told : (others : List Visit) (number count : ℕ) (start after : Tree) → KeepsAll h folder first start → ((x : Visit) → Has x visits → IsTold start x (behind same became others x)) → (o : OneRun F h r w m e keeps task folder (λ names. names ≡ visits) number count start after) → GoesOn o.run.options.continues
      → RunTold h m folder IsTold visits same became others number count o.headed o.left start after
  run_told others number count start after since told o goes =
      subst (λ (t : Tree). RunTold h m folder IsTold visits same became others number count o.headed o.left start t) o.after_is
      (subst (λ (t : Tree). RunTold h m folder IsTold visits same became others number count o.headed o.left t o.done.now) o.start_is
      (visited_told others number count o.run o.is_of goes o.begun o.headed o.left o.part_is o.before o.done o.quiet (subst (KeepsAll h folder first) (sym o.start_is) since) (λ x has. subst (λ (t : Tree). IsTold t x (behind same became others x)) (sym o.start_is) (told x has))
      (subst (λ (names : List Visit). Visited (working {F = F} h r w e) m o.run o.begun o.headed o.before names o.left o.done) o.are_so o.visited)))

  -- ---- several runs

  record AllTold (others : List Visit) (now : Tree) : Type 0 where
    keeps_all : KeepsAll h folder first now
    all_are : (x : Visit) → Has x visits → IsTold now x (behind same became others x)

  module _ (count : ℕ) (told : (x : Visit) → Has x visits → IsTold first x (became x)) where
    abbrev Continues : (number : ℕ) (start left : Tree) → OneRun F h r w m e keeps task folder (λ names. names ≡ visits) number count start left → Type 0
    Continues number start left one = GoesOn one.run.options.continues

    abbrev HasItsRows : (earlier : List ℕ) (number : ℕ) (start left : Tree) → OneRun F h r w m e keeps task folder (λ names. names ≡ visits) number count start left → Type 0
    HasItsRows earlier number start left one = m.contents one.left ≡ append_known (m.contents one.headed) (concat (rows_behind same became number count (done_by count [] earlier visits) visits))

    all_told : (numbers : List ℕ) (after : Tree) → (runs : Runs F h r w m e keeps task folder (λ names. names ≡ visits) count first numbers after) → EachRun F h r w m e keeps task folder (λ names. names ≡ visits) count first Continues numbers after runs
        → AllTold (done_by count [] numbers visits) after × EachRunBehind F h r w m e keeps task folder (λ names. names ≡ visits) count first HasItsRows numbers after runs
    all_told numbers after (no_run none is) goes =
        (subst (AllTold (done_by count [] numbers visits)) (sym is) (subst (λ (l : List ℕ). AllTold (done_by count [] l visits) first) (sym none) (record { keeps_all = keeps_itself h folder first; all_are = told })), tt)
    all_told numbers after (and_run earlier number mid runs one more) goes =
        let had = all_told earlier mid runs goes.0 in
        let now : RunTold h m folder IsTold visits same became (done_by count [] earlier visits) number count one.headed one.left mid after = run_told (done_by count [] earlier visits) number count mid after had.0.keeps_all had.0.all_are one goes.1 in (
          subst (λ (l : List ℕ). AllTold (done_by count [] l visits) after) (sym more) (subst (λ (l : List Visit). AllTold l after) (sym (done_after count [] earlier number visits))
              (record { keeps_all = then_keeps h folder first mid after had.0.keeps_all now.keeps; all_are = now.told })),
          (had.1, now.rows),
        )

    pub rows_follow : (numbers : List ℕ) (after : Tree) → (runs : Runs F h r w m e keeps task folder (λ names. names ≡ visits) count first numbers after) → EachRun F h r w m e keeps task folder (λ names. names ≡ visits) count first Continues numbers after runs
        → EachRunBehind F h r w m e keeps task folder (λ names. names ≡ visits) count first HasItsRows numbers after runs
    rows_follow numbers after runs goes = (all_told numbers after runs goes).1
