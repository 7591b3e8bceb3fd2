-- A run over a tree leaves what the ideal run leaves.
use Rattle.std.proofs.Common.{◌≡◌, ◌∙◌, refl, sym, ap, subst, ℕ, List, [], ◌∷◌, ◌++◌, map, Bool, true, false, cond, Some, None, Result, Ok, append_assoc}
use Rattle.dcm_trees.specs.File.{DoesName}
use Rattle.dcm_tree_laws.specs.IdealLaws.{Keeps, its_output}
use Rattle.dcm_walk.specs.Names.{below}
use Rattle.std.specs.Str.{IsUtf8}
use Rattle.std.specs.Io.KnownBytes.{append_known}
use Rattle.std.proofs.lemmas.List.{append-nil}
use Rattle.dcm_devices.specs.Writing.{Writer}
use Rattle.dcm_walk.specs.Visits.{Named}
use Rattle.dcm_walk.specs.declared.visitor.Stopped.{Stopped}
use Rattle.dcm_walk.specs.declared.visitor.What.{What}
use Rattle.dcm_cli.specs.Calls.{Reader}
use Rattle.dcm_trees.specs.declared.beginning.Begun.{Begun}
use Rattle.dcm_trees.specs.declared.file.Done.{Done}
use Rattle.dcm_trees.specs.declared.progress.Shared.{Shared}
use Rattle.dcm_trees.specs.declared.progress.Work.{Work}
use Rattle.dcm_trees.specs.declared.run.TreeRun.{TreeRun}
use Rattle.dcm_trees.specs.Fate.{word}
use Rattle.dcm_trees.specs.Manner.{Manner}
use Rattle.dcm_trees.specs.Run.{Shares, part_name}
use Rattle.dcm_trees.specs.Share.{is_of}
use Rattle.dcm_trees.specs.Task.{Task, task_of}
use Rattle.dcm_trees.specs.Work as work
use Rattle.dcm_trees.specs.Work.{Progress, progress, VisitsName, visits_of, nothing_done}
use Rattle.dcm_tree_laws.specs.Again.{OfAll}
use Rattle.dcm_tree_laws.specs.Determined.{FollowsLinks, as_whole, working}
use Rattle.dcm_tree_laws.specs.FileSystem.{FileSystem, Tree, Host, place_of, at_path}
use Rattle.dcm_tree_laws.specs.Ideal.{Outputs, Comes, Name, Row, become, outputs_after, rows_of, share, fate_of, output_of}
use Rattle.dcm_tree_laws.specs.Laws.{IsOutput, part_path}
use Rattle.dcm_tree_laws.specs.Part.{LeavesPart}
use Rattle.dcm_tree_laws.specs.Ran.{NameComes, comes_of_no_file, comes_of_index, kept_too_long, kept_file, unnamed_file, named_too_long, named_file, IsName, Shows, TellsApart, SpeaksOf, Ran, text_of, RunIsIdeal}
use Rattle.dcm_tree_laws.specs.Rows.{Visit, noted}
use Rattle.dcm_tree_laws.specs.Single.{TellsAll}
use Rattle.dcm_tree_laws.specs.Together.{IsRunOf, Visited, in_folder, in_list}
use Rattle.dcm_tree_laws.proofs.CopiesBy.{over_visit, apart_by}
use Rattle.dcm_tree_laws.proofs.Fates.{Works, works_quiet}
use Rattle.dcm_tree_laws.proofs.Frees.{KeepsAll, keeps_itself, then_keeps, bytes_kept}
use Rattle.dcm_tree_laws.proofs.IdealRun.Kept as kept
use Rattle.dcm_tree_laws.proofs.IdealRun.Named as named
use Rattle.dcm_tree_laws.proofs.IdealRun.Shown.{StepsTo}
use Rattle.dcm_tree_laws.proofs.IdealRun.SharesOne.{run_append, rows_append}
use Rattle.dcm_tree_laws.proofs.IdealRun.Steps.{run_keeps}
use Rattle.dcm_tree_laws.proofs.Lists.{lines_do}
use Rattle.dcm_tree_laws.proofs.OutputsBy.{Leaves, leaves, Still, then_stays}
use Rattle.dcm_tree_laws.proofs.PartsBy.{visit_leaves}
use Rattle.dcm_tree_laws.proofs.Quiet.{only_quiet, IsClosed, IsSame}
use Rattle.dcm_tree_laws.proofs.RowsBy.{visit_of, no_stop, went_out, one_more, no_manifest}
use Rattle.dcm_tree_laws.proofs.Runs.{visit_name}
use Rattle.dcm_tree_laws.proofs.Staged.{stop_before, Of, quietly, Known, known}
use Rattle.dcm_tree_laws.proofs.Stages.{of_output}
use Rattle.dcm_tree_laws.proofs.StillBy.{before_all, last_of_all}
use Rattle.dcm_tree_laws.proofs.Walks.{VisitsDo, walks_do}

-- ---- one name more

text_append : (xs ys : List Row) → text_of (xs ++ ys) ≡ text_of xs ++ text_of ys
text_append [] ys = refl
text_append (row ∷ xs) ys =
    let first : List ℕ = work.row row.name (output_of row.became) (word (fate_of row.became)) in
    ap (λ rest. first ++ rest) (text_append xs ys) ∙ sym (append_assoc first (text_of xs) (text_of ys))

abbrev names_in : (name_of : Visit → Name) → (number count : ℕ) → List Visit → List Name
names_in name_of number count visits = share number count (map name_of visits)

module _ (name_of : Visit → Name) (number count : ℕ) (v : Visit) where
  one_in : (b : Bool) (names : List Name) → is_of number count (name_of v).relative ≡ b → share number count (name_of v ∷ names) ≡ cond b (name_of v ∷ share number count names) (share number count names)
  one_in b names is = ap (λ t. cond t (name_of v ∷ share number count names) (share number count names)) is

  names_out : (visits : List Visit) → is_of number count (name_of v).relative ≡ false → names_in name_of number count (visits ++ v ∷ []) ≡ names_in name_of number count visits
  names_out [] none = one_in false [] none
  names_out (u ∷ visits) none = ap (λ rest. cond (is_of number count (name_of u).relative) (name_of u ∷ rest) rest) (names_out visits none)

  cond_append : (b : Bool) (n : Name) (rest last : List Name) → cond b (n ∷ (rest ++ last)) (rest ++ last) ≡ cond b (n ∷ rest) rest ++ last
  cond_append true n rest last = refl
  cond_append false n rest last = refl

  names_more : (visits : List Visit) → is_of number count (name_of v).relative ≡ true → names_in name_of number count (visits ++ v ∷ []) ≡ names_in name_of number count visits ++ name_of v ∷ []
  names_more [] its = one_in true [] its
  names_more (u ∷ visits) its =
      ap (λ rest. cond (is_of number count (name_of u).relative) (name_of u ∷ rest) rest) (names_more visits its)
      ∙ cond_append (is_of number count (name_of u).relative) (name_of u) (names_in name_of number count visits) (name_of v ∷ [])

-- what a name comes to stays
comes_kept : {I O : Type 0} (h : Host I O) (keeps : Bool) (task : Task) (output : List ℕ) (t u : Tree) (v : Visit) (comes : Comes) → KeepsAll h output t u → NameComes h keeps task output t v comes → NameComes h keeps task output u v comes
comes_kept h keeps task output t u v comes still (comes_of_no_file not is) = comes_of_no_file not is
comes_kept h keeps task output t u v comes still (comes_of_index mode of_file index is) = comes_of_index mode of_file index is
comes_kept h keeps task output t u v comes still (kept_too_long mode it of_file no_index long is) = kept_too_long mode it of_file no_index long is
comes_kept h keeps task output t u v comes still (kept_file mode bytes end it of_file no_index fits has ends is) = kept_file mode bytes end it of_file no_index fits (bytes_kept h output t u v bytes still has) ends is
comes_kept h keeps task output t u v comes still (unnamed_file mode bytes fate it of_file no_index has ends is) = unnamed_file mode bytes fate it of_file no_index (bytes_kept h output t u v bytes still has) ends is
comes_kept h keeps task output t u v comes still (named_too_long mode bytes made uids it of_file no_index has names fits long is) = named_too_long mode bytes made uids it of_file no_index (bytes_kept h output t u v bytes still has) names fits long is
comes_kept h keeps task output t u v comes still (named_file mode bytes made unplaced uids it of_file no_index has made_so names fits short is) = named_file mode bytes made unplaced uids it of_file no_index (bytes_kept h output t u v bytes still has) made_so names fits short is

-- ---- all names

-- so far the run is the ideal run of these names
record IsIdeal {I O W : Type 0} (h : Host I O) (m : Writer W) (output : List ℕ) (spoken : List ℕ → Bool) (continues : Bool) (outputs : Outputs) (headed : W) (names : List Name) (manifest : W) (now : Tree) : Type 0 where
  shows : Shows h output spoken now (outputs_after continues outputs names)
  rows : m.contents manifest ≡ append_known (m.contents headed) (text_of (rows_of continues outputs names))

-- what is asked of each visit
abbrev IsTold : {I O : Type 0} → Host I O → Manner → Tree → (Visit → Name) → (List ℕ → Bool) → Visit → Type 0
IsTold h k start name_of spoken v = IsName h k.keeps_names k.task k.output start v (name_of v) × SpeaksOf spoken (name_of v)

record Good {I O W E : Type 0} (h : Host I O) (m : Writer W) (name_of : Visit → Name) (spoken : List ℕ → Bool) (outputs : Outputs) (shared : Shared) (headed : W) (start : FileSystem) (y : (Work W × E) × List Visit) (s : FileSystem) : Type 0 where
  shares : y.0.0.shared ≡ shared
  quiet : s.written ≡ None
  keeps : KeepsAll h (Of shared).output start.now s.now
  still : Still h (Of shared).part start.now s.now
  nothing : s.unremoved ≡ false → at_path h s.now (Of shared).part ≡ None
  ideal : OfAll (IsTold h (Of shared) start.now name_of spoken) y.1 → y.0.0.stop ≡ None → s.unremoved ≡ false
      → IsIdeal h m (Of shared).output spoken (Of shared).continues outputs headed (names_in name_of shared.part.number shared.part.count y.1) y.0.0.manifest s.now

abbrev StaysGood : {I O W E : Type 0} → Host I O → Writer W → (Visit → Name) → (List ℕ → Bool) → Outputs → Shared → W → FileSystem → ((Work W × E) × List Visit) → FileSystem → ((Work W × E) × List Visit) → FileSystem → Type 0
StaysGood h m name_of spoken outputs shared headed start a s b t = Good h m name_of spoken outputs shared headed start a s → Good h m name_of spoken outputs shared headed start b t

closed : {I O W E : Type 0} (h : Host I O) (m : Writer W) (name_of : Visit → Name) (spoken : List ℕ → Bool) (outputs : Outputs) (shared : Shared) (headed : W) (start : FileSystem) → IsClosed IsSame (StaysGood {E = E} h m name_of spoken outputs shared headed start)
closed h m name_of spoken outputs shared headed start = record {
  none = λ v s t is good. subst (Good h m name_of spoken outputs shared headed start v) (sym is) good;
  still = λ v s t is good. subst (Good h m name_of spoken outputs shared headed start v) (sym is) good;
  then = λ a b c s t u one other good. other (one good);
}

module _ {I O W E : Type 0} (F : Type 0) (h : Host I O) (r : Reader I) (w : Writer O) (m : Writer W) (e : Writer E) (tells : TellsAll h w) (name_of : Visit → Name) (spoken : List ℕ → Bool) (outputs : Outputs) (shared : Shared) (number : ℕ) (part_is : (Of shared).part ≡ below (Of shared).output (part_name number)) (part_text : IsUtf8 (Of shared).part) (apart : TellsApart h (Of shared).output (Of shared).part spoken outputs) (headed : W) (start : FileSystem) (no_part : at_path h start.now (Of shared).part ≡ None) (follows : (Of shared).keeps_names ≡ false → FollowsLinks h start.now) where
  abbrev in_share : List Visit → List Name
  in_share visits = names_in name_of shared.part.number shared.part.count visits

  -- a name of another share
  other_ideal : (earlier : List Visit) (v : Visit) (before after : FileSystem) (from to : W) → is_of shared.part.number shared.part.count (name_of v).relative ≡ false → after ≡ before → to ≡ from
      → IsIdeal h m (Of shared).output spoken (Of shared).continues outputs headed (in_share earlier) from before.now → IsIdeal h m (Of shared).output spoken (Of shared).continues outputs headed (in_share (earlier ++ v ∷ [])) to after.now
  other_ideal earlier v before after from to none same still x =
      subst (λ names. IsIdeal h m (Of shared).output spoken (Of shared).continues outputs headed names to after.now) (sym (names_out name_of shared.part.number shared.part.count v earlier none))
      (subst (λ (s : FileSystem). IsIdeal h m (Of shared).output spoken (Of shared).continues outputs headed (in_share earlier) to s.now) (sym same)
      (subst (λ y. IsIdeal h m (Of shared).output spoken (Of shared).continues outputs headed (in_share earlier) y before.now) (sym still) x))

  -- one of this share
  done_ideal : (names : List Name) (n : Named) (name : Name) (done : Done) (after : FileSystem) (from to : W) → name.name ≡ n.name → m.contents to ≡ append_known (m.contents from) (work.row n.name (work.output_of n done) (word done.fate))
      → m.contents from ≡ append_known (m.contents headed) (text_of (rows_of (Of shared).continues outputs names))
      → StepsTo h (Of shared).output spoken (outputs_after (Of shared).continues outputs names) n done after.now (become (Of shared).continues (outputs_after (Of shared).continues outputs names) name.comes)
      → IsIdeal h m (Of shared).output spoken (Of shared).continues outputs headed (names ++ name ∷ []) to after.now
  done_ideal names n name done after from to name_is went had steps =
      let o : Outputs = outputs_after (Of shared).continues outputs names in
      let row : Row = record { name = name.name; became = become (Of shared).continues o name.comes } in
      let row_is : work.row n.name (work.output_of n done) (word done.fate) ≡ text_of (row ∷ []) =
      steps.row ∙ ap (λ x. work.row x (output_of row.became) (word (fate_of row.became))) (sym name_is) ∙ sym (append-nil (work.row row.name (output_of row.became) (word (fate_of row.became)))) in
      record {
        shows = subst (Shows h (Of shared).output spoken after.now) (sym (run_append (Of shared).continues outputs names (name ∷ []))) steps.shows;
        rows = one_more m from to headed (text_of (rows_of (Of shared).continues outputs names)) (work.row n.name (work.output_of n done) (word done.fate)) went had
            ∙ ap (λ x. append_known (m.contents headed) (text_of (rows_of (Of shared).continues outputs names) ++ x)) row_is
            ∙ ap (append_known (m.contents headed)) (sym (text_append (rows_of (Of shared).continues outputs names) (row ∷ [])) ∙ ap text_of (sym (rows_append (Of shared).continues outputs names (name ∷ []))));
      }

  -- one name, whose output keeps its name or is named by the instance in it
  name_ideal : (keeps : Bool) → (Of shared).keeps_names ≡ keeps → (o : Outputs) → Keeps outputs o → (n : Named) (before : FileSystem) → before.written ≡ None → at_path h before.now (Of shared).part ≡ None → Shows h (Of shared).output spoken before.now o → Still h (Of shared).part start.now before.now → (what : What) (comes : Comes) (from : E) (done : Done) (to : E) (after : FileSystem)
      → NameComes h keeps (Of shared).task (Of shared).output before.now (visit_of n what) comes → ((p : List ℕ) → its_output comes ≡ Some p → spoken p ≡ true) → after.unremoved ≡ false → DoesName (working {F = F} h r w e) (Of shared) n what from before (Ok done) to after
      → StepsTo h (Of shared).output spoken o n done after.now (become (Of shared).continues o comes)
  name_ideal true keeps o since n before quiet none shows still what comes from done to after comes_is of_n gone does =
      kept.name_steps F h r w e tells (Of shared) number part_is keeps part_text spoken outputs o apart since n before quiet none shows what comes from done to after comes_is of_n gone does
  name_ideal false keeps o since n before quiet none shows still what comes from done to after comes_is of_n gone does =
      named.name_steps F h r w e tells (Of shared) number part_is keeps part_text spoken outputs o apart since n before quiet none shows
      (λ path no_other. follows keeps path (λ f at. no_other f (still.there (place_of h path) f (apart_by start.now (place_of h path) (place_of h (Of shared).part) f no_part at) at))) what comes from done to after comes_is of_n gone does

  visit_ideal : (from : Progress W) (told_before : E) (before : FileSystem) (n : Named) (what : What) (result : Result (Unit {0}) Stopped) (to : Progress W) (told : E) (after : FileSystem) (earlier : List Visit) → before.written ≡ None → KeepsAll h (Of shared).output start.now before.now → Still h (Of shared).part start.now before.now → at_path h before.now (Of shared).part ≡ None
      → IsTold h (Of shared) start.now name_of spoken (visit_of n what) → to.stop ≡ None → after.unremoved ≡ false
      → IsIdeal h m (Of shared).output spoken (Of shared).continues outputs headed (in_share earlier) from.manifest before.now
      → VisitsName (working {F = F} h r w e) m shared from told_before before n what result to told after → IsIdeal h m (Of shared).output spoken (Of shared).continues outputs headed (in_share (earlier ++ visit_of n what ∷ [])) to.manifest after.now
  visit_ideal from told_before before n what result to told after earlier quiet since still none its stop gone x (work.of_another other to_is t same ok) =
      other_ideal earlier (visit_of n what) before after from.manifest to.manifest (ap (is_of shared.part.number shared.part.count) its.0.relative_is ∙ other) same (ap (λ p. p.manifest) to_is) x
  visit_ideal from told_before before n what result to told after earlier quiet since still none its stop gone x (work.was_done done mid own does (work.has_row manifest puts reports to_is ok)) =
      let name : Name = name_of (visit_of n what) in
      let names : List Name = in_share earlier in
      let o : Outputs = outputs_after (Of shared).continues outputs names in
      let steps : StepsTo h (Of shared).output spoken o n done after.now (become (Of shared).continues o name.comes) =
      name_ideal (Of shared).keeps_names refl o (run_keeps (Of shared).continues outputs names) n before quiet none x.shows still what name.comes told_before done mid after
      (comes_kept h (Of shared).keeps_names (Of shared).task (Of shared).output start.now before.now (visit_of n what) name.comes since its.0.comes_is) its.1 gone does in
      subst (λ y. IsIdeal h m (Of shared).output spoken (Of shared).continues outputs headed y to.manifest after.now) (sym (names_more name_of shared.part.number shared.part.count (visit_of n what) earlier (ap (is_of shared.part.number shared.part.count) its.0.relative_is ∙ own)))
      (done_ideal names n name done after from.manifest to.manifest its.0.name_is
      (ap m.contents (ap (λ p. p.manifest) to_is) ∙ went_out m (work.row n.name (work.output_of n done) (word done.fate)) from.manifest manifest puts) x.rows steps)
  visit_ideal from told_before before n what result to told after earlier quiet since still none its stop gone x (work.was_done done mid own does (work.no_row manifest failure s puts t to_is ok)) =
      absurd (no_stop to.stop _ (ap (λ p. p.stop) to_is) stop)
  visit_ideal from told_before before n what result to told after earlier quiet since still none its stop gone x (work.ends_run p s own does to_is ok) = absurd (no_stop to.stop _ (ap (λ q. q.stop) to_is) stop)

  visits_good : VisitsDo (StaysGood h m name_of spoken outputs shared headed start) (noted (visits_of (working {F = F} h r w e) m))
  visits_good from before n what result to after v good =
      let visits : VisitsName (working {F = F} h r w e) m shared (progress from.0.0) from.0.1 before n what result (progress to.0.0) to.0.1 after =
      subst (λ (s : Shared). VisitsName (working {F = F} h r w e) m s (progress from.0.0) from.0.1 before n what result (progress to.0.0) to.0.1 after) good.shares v.0.0 in
      let now : (after.written ≡ None) × KeepsAll h (Of shared).output before.now after.now =
      quietly {F = F} h r w e m shared number part_is (progress from.0.0) from.0.1 before n what result (progress to.0.0) to.0.1 after good.quiet visits in
      let part : LeavesPart h (Of shared).part before after =
      visit_leaves {F = F} h (as_whole h r) w e m shared (progress from.0.0) from.0.1 before n what result (progress to.0.0) to.0.1 after good.quiet (of_output h r w (Of shared) number part_is)
      (over_visit {F = F} h r w e m shared (progress from.0.0) from.0.1 before n what result (progress to.0.0) to.0.1 after visits) in
      let stays : Leaves h (Of shared).part (Of shared).output before after =
      leaves h (IsOutput h (as_whole h r) w) (Of shared).part (Of shared).output before after good.quiet (of_output h r w (Of shared) number part_is)
      (visit_name {F = F} h (as_whole h r) w e m shared (progress from.0.0) from.0.1 before n what result (progress to.0.0) to.0.1 after (over_visit {F = F} h r w e m shared (progress from.0.0) from.0.1 before n what result (progress to.0.0) to.0.1 after visits)) in
      record {
        shares = v.0.1 ∙ good.shares;
        quiet = now.0;
        still = then_stays h (Of shared).part (Of shared).output start.now before.now after.now good.still stays.stays;
        keeps = then_keeps h (Of shared).output start.now before.now after.now good.keeps now.1;
        nothing = λ gone. (part gone).1 ∙ good.nothing (part gone).0;
        ideal = λ told stop gone.
            let each : OfAll (IsTold h (Of shared) start.now name_of spoken) (from.1 ++ visit_of n what ∷ []) = subst (OfAll (IsTold h (Of shared) start.now name_of spoken)) v.1 told in
            subst (λ y. IsIdeal h m (Of shared).output spoken (Of shared).continues outputs headed (in_share y) to.0.0.manifest after.now) (sym v.1)
            (visit_ideal (progress from.0.0) from.0.1 before n what result (progress to.0.0) to.0.1 after from.1 good.quiet good.keeps good.still (good.nothing (part gone).0) (last_of_all (IsTold h (Of shared) start.now name_of spoken) from.1 (visit_of n what) each) stop gone
            (good.ideal (before_all (IsTold h (Of shared) start.now name_of spoken) from.1 (visit_of n what) each)
            (stop_before (working {F = F} h r w e) m shared (progress from.0.0) from.0.1 before n what result (progress to.0.0) to.0.1 after visits stop) (part gone).0) visits);
      }

first_good : {I O W E : Type 0} (h : Host I O) (m : Writer W) (name_of : Visit → Name) (spoken : List ℕ → Bool) (outputs : Outputs) (headed : W) (start : Work W) (from : E) (before : FileSystem) → before.written ≡ None → at_path h before.now (Of start.shared).part ≡ None → start.manifest ≡ headed
    → Shows h (Of start.shared).output spoken before.now outputs → Good h m name_of spoken outputs start.shared headed before ((start, from), []) before
first_good h m name_of spoken outputs headed start from before quiet none same shows = record {
  shares = refl;
  quiet = quiet;
  keeps = keeps_itself h (Of start.shared).output before.now;
  still = record { there = λ place f apart at. at; bytes = λ place f apart at. refl };
  nothing = λ gone. none;
  ideal = λ told stop gone. record { shows = shows; rows = no_manifest m start.manifest headed same };
}

-- ---- a run

-- what it left, by how its names are done
record LeftBy {I O W : Type 0} (h : Host I O) (m : Writer W) (name_of : Visit → Name) (spoken : List ℕ → Bool) (outputs : Outputs) (visits : List Visit) (headed left : W) (before after : Tree) (k : Manner) (number count : ℕ) : Type 0 where
  ideal : IsIdeal h m k.output spoken k.continues outputs headed (names_in name_of number count visits) left after
  keeps : KeepsAll h k.output before after
  still : Still h k.part before after

pub record RunLeft {I O W : Type 0} (h : Host I O) (m : Writer W) (run : TreeRun) (before : Tree) (visits : List Visit) (headed left : W) (after : Tree) (name_of : Visit → Name) (spoken : List ℕ → Bool) (outputs : Outputs) : Type 0 where
  pub shows : Shows h run.output.now spoken after (outputs_after run.options.continues outputs (share run.options.part.number run.options.part.count (map name_of visits)))
  pub rows : m.contents left ≡ append_known (m.contents headed) (text_of (rows_of run.options.continues outputs (share run.options.part.number run.options.part.count (map name_of visits))))
  pub keeps : KeepsAll h run.output.now before after
  pub still : Still h (part_path run) before after

-- what is known of it, by how its names are done
record Asked {I O : Type 0} (h : Host I O) (name_of : Visit → Name) (spoken : List ℕ → Bool) (outputs : Outputs) (visits : List Visit) (before : Tree) (k : Manner) : Type 0 where
  told : OfAll (IsTold h k before name_of spoken) visits
  apart : TellsApart h k.output k.part spoken outputs
  shows : Shows h k.output spoken before outputs
  text : IsUtf8 k.part
  none : at_path h before k.part ≡ None
  follows : k.keeps_names ≡ false → FollowsLinks h before

both_all : (A B : Visit → Type 0) (visits : List Visit) → OfAll A visits → OfAll B visits → OfAll (λ v. A v × B v) visits
both_all A B [] first second = tt
both_all A B (v ∷ visits) first second = ((first.0, second.0), both_all A B visits first.1 second.1)

module _ {I O W E : Type 0} (F : Type 0) (h : Host I O) (r : Reader I) (w : Writer O) (m : Writer W) (e : Writer E) (tells : TellsAll h w) (name_of : Visit → Name) (spoken : List ℕ → Bool) (outputs : Outputs) (run : TreeRun) (before : FileSystem) (quiet : before.written ≡ None) (visits : List Visit) (headed left : W) (after : FileSystem) (gone : after.unremoved ≡ false) where
  abbrev by_manner : Manner → (number count : ℕ) → Type 0
  by_manner k number count = LeftBy h m name_of spoken outputs visits headed left before.now after.now k number count

  of_run : IsRunOf run.options.keeps_names (task_of run.task) run.output.now run.options.part.number run.options.part.count run
  of_run = record { task_is = refl; output_is = refl; number_is = refl; count_is = refl; keeps_is = refl }

  -- by what its names share
  as_run : (part : List ℕ) (shared : Shared) → part ≡ part_path run → Shares run part shared → by_manner (Of shared) shared.part.number shared.part.count → RunLeft h m run before.now visits headed left after.now name_of spoken outputs
  as_run part shared part_is shares x =
      let it : LeftBy h m name_of spoken outputs visits headed left before.now after.now _ run.options.part.number run.options.part.count =
      subst (λ (k : Manner). by_manner k run.options.part.number run.options.part.count) shares.manner
      (subst (λ c. by_manner (Of shared) run.options.part.number c) (ap (λ p. p.count) shares.part_is) (subst (λ n. by_manner (Of shared) n shared.part.count) (ap (λ p. p.number) shares.part_is) x)) in
      record { shows = it.ideal.shows; rows = it.ideal.rows; keeps = it.keeps; still = subst (λ y. Still h y before.now after.now) part_is it.still }

  visited_ideal : (begun : Begun) → begun.part.items ≡ part_path run → ((k : Manner) → k.keeps_names ≡ run.options.keeps_names → k.task ≡ task_of run.task → k.output ≡ run.output.now → k.part ≡ part_path run → Asked h name_of spoken outputs visits before.now k)
      → Visited (working {F = F} h r w e) m run begun headed before visits left after → RunLeft h m run before.now visits headed left after.now name_of spoken outputs
  visited_ideal begun part_is asked (in_folder path opened from status to v walks stop) =
      let shared : Shared = v.start.shared in
      let is : Known shared run.options.keeps_names = known run.options.keeps_names (task_of run.task) run.output.now run.options.part.number run.options.part.count run of_run begun.part.items shared v.begins.shares part_is in
      let a : Asked h name_of spoken outputs visits before.now (Of shared) =
      asked (Of shared) (ap (λ (k : Manner). k.keeps_names) v.begins.shares.manner) (ap (λ (k : Manner). k.task) v.begins.shares.manner) (ap (λ (k : Manner). k.output) v.begins.shares.manner) (ap (λ (k : Manner). k.part) v.begins.shares.manner ∙ part_is) in
      let good : Good h m name_of spoken outputs shared headed before ((v.last, v.told), visits) after =
      walks_do (Works {F = F} h) (only_quiet (Works {F = F} h) (works_quiet {F = F} h)) (StaysGood h m name_of spoken outputs shared headed before) (closed h m name_of spoken outputs shared headed before) (noted (visits_of (working {F = F} h r w e) m))
      (visits_good F h r w m e tells name_of spoken outputs shared is.number is.part_is a.text a.apart headed before a.none a.follows) path begun.number opened ((v.start, from), []) before v.walked ((v.last, v.told), visits) after walks
      (first_good h m name_of spoken outputs headed v.start from before quiet a.none (ap (λ p. p.manifest) v.begins.nothing) a.shows) in
      as_run begun.part.items shared part_is v.begins.shares (record {
        ideal = subst (λ y. IsIdeal h m (Of shared).output spoken (Of shared).continues outputs headed (names_in name_of shared.part.number shared.part.count visits) y after.now) (sym v.left_is) (good.ideal a.told stop gone);
        keeps = good.keeps;
        still = good.still;
      })
  visited_ideal begun part_is asked (in_list list input from status to read v walks stop) =
      let shared : Shared = v.start.shared in
      let is : Known shared run.options.keeps_names = known run.options.keeps_names (task_of run.task) run.output.now run.options.part.number run.options.part.count run of_run begun.part.items shared v.begins.shares part_is in
      let a : Asked h name_of spoken outputs visits before.now (Of shared) =
      asked (Of shared) (ap (λ (k : Manner). k.keeps_names) v.begins.shares.manner) (ap (λ (k : Manner). k.task) v.begins.shares.manner) (ap (λ (k : Manner). k.output) v.begins.shares.manner) (ap (λ (k : Manner). k.part) v.begins.shares.manner ∙ part_is) in
      let good : Good h m name_of spoken outputs shared headed before ((v.last, v.told), visits) after =
      lines_do (Works {F = F} h) (only_quiet (Works {F = F} h) (works_quiet {F = F} h)) (StaysGood h m name_of spoken outputs shared headed before) (closed h m name_of spoken outputs shared headed before) (noted (visits_of (working {F = F} h r w e) m))
      (visits_good F h r w m e tells name_of spoken outputs shared is.number is.part_is a.text a.apart headed before a.none a.follows) (as_whole h r).gets begun.number ((v.start, from), []) before input v.walked ((v.last, v.told), visits) after read walks
      (first_good h m name_of spoken outputs headed v.start from before quiet a.none (ap (λ p. p.manifest) v.begins.nothing) a.shows) in
      as_run begun.part.items shared part_is v.begins.shares (record {
        ideal = subst (λ y. IsIdeal h m (Of shared).output spoken (Of shared).continues outputs headed (names_in name_of shared.part.number shared.part.count visits) y after.now) (sym v.left_is) (good.ideal a.told stop gone);
        keeps = good.keeps;
        still = good.still;
      })

asked_by : {I O : Type 0} (h : Host I O) (name_of : Visit → Name) (spoken : List ℕ → Bool) (outputs : Outputs) (visits : List Visit) (before : Tree) (k : Manner) (keeps : Bool) (task : Task) (output part : List ℕ) → k.keeps_names ≡ keeps → k.task ≡ task → k.output ≡ output → k.part ≡ part
    → OfAll (λ v. IsName h keeps task output before v (name_of v) × SpeaksOf spoken (name_of v)) visits → TellsApart h output part spoken outputs → Shows h output spoken before outputs → IsUtf8 part → at_path h before part ≡ None → (keeps ≡ false → FollowsLinks h before) → Asked h name_of spoken outputs visits before k
asked_by h name_of spoken outputs visits before k keeps task output part kept_is t o p told apart shows text none follows = record {
  told = subst (λ x. OfAll (λ v. IsName h x k.task k.output before v (name_of v) × SpeaksOf spoken (name_of v)) visits) (sym kept_is)
      (subst (λ x. OfAll (λ v. IsName h keeps x k.output before v (name_of v) × SpeaksOf spoken (name_of v)) visits) (sym t) (subst (λ x. OfAll (λ v. IsName h keeps task x before v (name_of v) × SpeaksOf spoken (name_of v)) visits) (sym o) told));
  apart = subst (λ x. TellsApart h x k.part spoken outputs) (sym o) (subst (λ x. TellsApart h output x spoken outputs) (sym p) apart);
  shows = subst (λ x. Shows h x spoken before outputs) (sym o) shows;
  text = subst IsUtf8 (sym p) text;
  none = subst (λ x. at_path h before x ≡ None) (sym p) none;
  follows = λ not. follows (sym kept_is ∙ not);
}

pub run_left : {I O F W E : Type 0} (r : Reader I) (w : Writer O) (m : Writer W) (e : Writer E) (h : Host I O) (run : TreeRun) (before : FileSystem) (visits : List Visit) (headed left : W) (after : FileSystem) (name_of : Visit → Name) (spoken : List ℕ → Bool) (outputs : Outputs) → TellsAll h w → (run.options.keeps_names ≡ false → FollowsLinks h before.now)
    → Ran F h r w m e run before visits headed left after → OfAll (λ v. IsName h run.options.keeps_names (task_of run.task) run.output.now before.now v (name_of v)) visits → OfAll (λ v. SpeaksOf spoken (name_of v)) visits → TellsApart h run.output.now (part_path run) spoken outputs → Shows h run.output.now spoken before.now outputs
    → RunLeft h m run before.now visits headed left after.now name_of spoken outputs
run_left {I} {O} {F} r w m e h run before visits headed left after name_of spoken outputs tells follows ran named speaks apart shows =
    visited_ideal F h r w m e tells name_of spoken outputs run before ran.quiet visits headed left after ran.removed ran.begun ran.part_is
    (λ k kept_is t o p. asked_by h name_of spoken outputs visits before.now k run.options.keeps_names (task_of run.task) run.output.now (part_path run) kept_is t o p
    (both_all (λ v. IsName h run.options.keeps_names (task_of run.task) run.output.now before.now v (name_of v)) (λ v. SpeaksOf spoken (name_of v)) visits named speaks) apart shows ran.text ran.nothing follows) ran.visited

pub run_is_ideal : {I O F W E : Type 0} (r : Reader I) (w : Writer O) (m : Writer W) (e : Writer E) → RunIsIdeal F r w m e
run_is_ideal {I} {O} {F} r w m e h run before visits headed left after name_of spoken outputs tells follows ran named speaks apart shows =
    let x = run_left {F = F} r w m e h run before visits headed left after name_of spoken outputs tells follows ran named speaks apart shows in
    (x.shows, x.rows)

-- a name comes to the same behind it
pub name_kept : {I O : Type 0} (h : Host I O) (keeps : Bool) (task : Task) (output : List ℕ) (t u : Tree) (v : Visit) (n : Name) → KeepsAll h output t u → IsName h keeps task output t v n → IsName h keeps task output u v n
name_kept h keeps task output t u v n still its = record { name_is = its.name_is; relative_is = its.relative_is; comes_is = comes_kept h keeps task output t u v n.comes still its.comes_is }
