-- Runs leave what was there, or a folder, at each place that is not that of an output.
use Rattle.std.proofs.Common.{◌≡◌, ◌∙◌, refl, sym, ap, subst, inl, inr, ◌⊎◌, ℕ, List, [], ◌∷◌, ◌++◌, Bool, true, false, Some, None, Result, Ok}
use Rattle.std.specs.Prelude.{◌≢◌, nat_le, length}
use Rattle.arrayvec.specs.ArrayVec.{ArrayVec}
use Rattle.dcm_lemmas.proofs.Options.{one_value}
use Rattle.dcm_lemmas.proofs.Truth.{true_false}
use Rattle.dcm_devices.specs.Writing.{Writer}
use Rattle.dcm_files.specs.declared.folders.Found.{Found}
use Rattle.dcm_walk.specs.Names.{below, PATH_LIMIT}
use Rattle.dcm_walk.specs.Visits.{Named}
use Rattle.dcm_walk.specs.declared.visitor.Stopped.{Stopped}
use Rattle.dcm_walk.specs.declared.visitor.What.{What}
use Rattle.dcm_cli.specs.Calls.{Reader}
use Rattle.dcm_trees.specs.declared.beginning.Begun.{Begun}
use Rattle.dcm_trees.specs.declared.file.Done.{Done}
use Rattle.dcm_trees.specs.declared.progress.Shared.{Shared}
use Rattle.dcm_trees.specs.declared.progress.Work.{Work}
use Rattle.dcm_trees.specs.declared.run.TreeRun.{TreeRun}
use Rattle.dcm_trees.specs.Fate.{is_written}
use Rattle.dcm_trees.specs.File as files
use Rattle.dcm_trees.specs.File.{DoesName, is_media_index}
use Rattle.dcm_trees.specs.Manner.{Manner}
use Rattle.dcm_trees.specs.Run.{part_name}
use Rattle.dcm_trees.specs.Task.{Task}
use Rattle.dcm_trees.specs.Work as spec
use Rattle.dcm_trees.specs.Work.{Progress, progress, VisitsName, visits_of}
use Rattle.dcm_tree_laws.specs.Again.{IsThere, OfAll}
use Rattle.dcm_tree_laws.specs.Determined.{as_whole, working}
use Rattle.dcm_tree_laws.specs.FileSystem.{FileSystem, Tree, Host, place_of, at_path}
use Rattle.dcm_tree_laws.specs.Laws.{IsOutput, part_path}
use Rattle.dcm_tree_laws.specs.Rows.{Visit, noted}
use Rattle.dcm_tree_laws.specs.Together.{IsNoPart, IsBarred, too_long, no_text, no_way_text, no_folder, IsRunOf, Visited, in_folder, in_list, HasBytes, HasPlainParts, OneRun, Runs, no_run, and_run, LeavesPlace, of_no_file, of_index, elsewhere, barred, HasFolder, NothingElse, LeavesPlaceAs, as_no_file, as_index, as_unnamed, as_elsewhere, NothingElseAs}
use Rattle.dcm_tree_laws.specs.Single.{TellsAll}
use Rattle.dcm_tree_laws.proofs.Fates.{Works, works_quiet}
use Rattle.dcm_tree_laws.proofs.FatesAs.{EndsNamed}
use Rattle.dcm_tree_laws.proofs.Frees.{KeepsAll, keeps_itself, then_keeps, bytes_kept}
use Rattle.dcm_tree_laws.proofs.Held.{GivesAll}
use Rattle.dcm_tree_laws.proofs.Lists.{lines_do}
use Rattle.dcm_tree_laws.proofs.MadeBy.{made_there, name_made}
use Rattle.dcm_tree_laws.proofs.Quiet.{only_quiet, IsClosed, IsSame}
use Rattle.dcm_tree_laws.proofs.RowsBy.{visit_of, no_stop}
use Rattle.dcm_tree_laws.proofs.Stages.{of_output, over_does, unchanged, index_same, name_keeps, touches}
use Rattle.dcm_tree_laws.proofs.StagesAs.{no_instance, named_as, touches_as, ends_as}
use Rattle.dcm_tree_laws.proofs.StillBy.{before_all, last_of_all}
use Rattle.dcm_tree_laws.proofs.Staged.{stop_before, Of, quietly, Known, known, output_is, task_is}
use Rattle.dcm_tree_laws.proofs.Touched.{Touched, as_it_was, at_part, at_output, at_folder}
use Rattle.dcm_tree_laws.proofs.TouchedAs.{TouchesAs, part_alone, at_instance}
use Rattle.dcm_tree_laws.proofs.Walks.{VisitsDo, walks_do}
use Rattle.dcm_tree_laws.proofs.Working.{whole_gives}

-- ---- a place

-- at it is what was there, or a folder
abbrev IsElse : (t u : Tree) → (place : List ℕ) → Type 0
IsElse t u place = (u.at place ≡ t.at place) ⊎ HasFolder u place

else_still : (t u v : Tree) (place : List ℕ) → v.at place ≡ u.at place → IsElse t u place → IsElse t v place
else_still t u v place e (inl is) = inl (e ∙ is)
else_still t u v place e (inr f) = inr (record { folder = f.folder; is = e ∙ f.is; kind = f.kind })

then_else : (t u v : Tree) (place : List ℕ) → IsElse t u place → IsElse u v place → IsElse t v place
then_else t u v place first (inl e) = else_still t u v place e first
then_else t u v place first (inr f) = inr f

touched_else : {I O : Type 0} (h : Host I O) (part output relative : List ℕ) (IsNamed : Type 0) (t u : Tree) (place : List ℕ) → place ≢ place_of h part → (IsNamed → place ≢ place_of h (below output relative)) → Touched h part output relative IsNamed t u place → IsElse t u place
touched_else h part output relative IsNamed t u place no_part other (as_it_was e) = inl e
touched_else h part output relative IsNamed t u place no_part other (at_part e) = absurd (no_part e)
touched_else h part output relative IsNamed t u place no_part other (at_output named e) = absurd (other named e)
touched_else h part output relative IsNamed t u place no_part other (at_folder f way is kind) = inr (record { folder = f; is = is; kind = kind })

same_else : (before after : FileSystem) (place : List ℕ) → after ≡ before → IsElse before.now after.now place
same_else before after place same = inl (ap (λ (s : FileSystem). s.now.at place) same)

-- ---- an output that cannot be there

barred_not : {I O : Type 0} (h : Host I O) (output relative : List ℕ) (first now : Tree) → KeepsAll h output first now → IsBarred h output relative first → IsThere h output relative now → ⊥
barred_not h output relative first now keeps (too_long not) there = true_false (nat_le (length (below output relative)) PATH_LIMIT) there.fits not
barred_not h output relative first now keeps (no_text not) there = not there.file.text
barred_not h output relative first now keeps (no_way_text folder behind cut not) there = not (there.way folder behind cut).text
barred_not h output relative first now keeps (no_folder folder behind f cut apart is other) there =
    let way = there.way folder behind cut in
    other (ap (λ (x : Found). x.kind) (one_value (at_path h now (below output folder)) f way.found (keeps.there (place_of h (below output folder)) f apart is) way.is) ∙ way.kind_is)

-- ---- one name

-- each leaves the place, where it is such
record Sparing {I O E : Type 0} (F : Type 0) (h : Host I O) (r : Reader I) (w : Writer O) (e : Writer E) (keeps : Bool) (task : Task) (folder : List ℕ) (first : Tree) (place : List ℕ) (IsSparing : Visit → Type 0) : Type 0 where
  step : (k : Manner) (number : ℕ) → k.part ≡ below k.output (part_name number) → k.keeps_names ≡ keeps → k.output ≡ folder → k.task ≡ task → (n : Named) (what : What) (from : E) (before : FileSystem) (done : Done) (to : E) (after : FileSystem) → before.written ≡ None → KeepsAll h folder first before.now → IsSparing (visit_of n what)
      → DoesName (working {F = F} h r w e) k n what from before (Ok done) to after → IsElse before.now after.now place

by_folder : {I O : Type 0} (h : Host I O) (k : Manner) (number : ℕ) → k.part ≡ below k.output (part_name number) → (folder place : List ℕ) → k.output ≡ folder → IsNoPart h folder place → place ≢ place_of h k.part
by_folder h k number part_is folder place output_is no_part e = no_part number (e ∙ ap (place_of h) part_is ∙ ap (λ (o : List ℕ). place_of h (below o (part_name number))) output_is)

module _ {I O F E : Type 0} (h : Host I O) (r : Reader I) (w : Writer O) (e : Writer E) (task : Task) (folder : List ℕ) (first : Tree) (place : List ℕ) (no_part : IsNoPart h folder place) (k : Manner) (number : ℕ) (part_is : k.part ≡ below k.output (part_name number)) (keeps_is : k.keeps_names ≡ true) (output_is : k.output ≡ folder) where
  name_touches : (n : Named) (what : What) (from : E) (before : FileSystem) (done : Done) (to : E) (after : FileSystem) → before.written ≡ None → DoesName (working {F = F} h r w e) k n what from before (Ok done) to after
      → ((is_written done.fate ≡ true) → place ≢ place_of h (below folder n.relative)) → IsElse before.now after.now place
  name_touches n what from before done to after none does other =
      touched_else h k.part k.output n.relative (is_written done.fate ≡ true) before.now after.now place (by_folder h k number part_is folder place output_is no_part)
      (λ was it. other was (it ∙ ap (λ (o : List ℕ). place_of h (below o n.relative)) output_is)) (touches {F = F} h r w e k number part_is n what from before done to after keeps_is none does place)

  -- the output of a name that was written is there
  name_there : (n : Named) (what : What) (from : E) (before : FileSystem) (done : Done) (to : E) (after : FileSystem) → before.written ≡ None → DoesName (working {F = F} h r w e) k n what from before (Ok done) to after → is_written done.fate ≡ true → IsThere h folder n.relative after.now
  name_there n what from before done to after none does written =
      subst (λ (o : List ℕ). IsThere h o n.relative after.now) output_is
      (made_there h (IsOutput h (as_whole h r) w) k.part k.output n.relative after.now
      (name_made {F = F} h (as_whole h r) w e k n what from before to after done keeps_is none (of_output h r w k number part_is) (over_does {F = F} h r w e k n what from before (Ok done) to after does) written))

  name_else : (n : Named) (what : What) (from : E) (before : FileSystem) (done : Done) (to : E) (after : FileSystem) → before.written ≡ None → KeepsAll h folder first before.now → LeavesPlace h folder first place (visit_of n what)
      → DoesName (working {F = F} h r w e) k n what from before (Ok done) to after → IsElse before.now after.now place
  name_else n what from before done to after none since (of_no_file not) does = same_else before after place (unchanged {F = F} h r w e k n what from before (Ok done) to after not does)
  name_else n what from before done to after none since (of_index index) does = same_else before after place (index_same {F = F} h r w e k n what from before (Ok done) to after index does)
  name_else n what from before done to after none since (elsewhere other) does = name_touches n what from before done to after none does (λ was. other)
  name_else n what from before done to after none since (barred not) does = name_touches n what from before done to after none does
      (λ was. absurd (barred_not h folder n.relative first after.now
      (then_keeps h folder first before.now after.now since (subst (λ (o : List ℕ). KeepsAll h o before.now after.now) output_is (name_keeps {F = F} h r w e k number part_is n what from before (Ok done) to after none does))) not (name_there n what from before done to after none does was)))

-- by the instance that it names
touched_as : {I O : Type 0} (h : Host I O) (place : List ℕ) (k : Manner) (number : ℕ) → k.part ≡ below k.output (part_name number) → IsNoPart h k.output place → (relative : List ℕ) (before : FileSystem) (done : Done) (after : FileSystem)
    → ((named : ArrayVec ℕ) → done.instance ≡ Some named → place ≢ place_of h (below k.output named.items)) → TouchesAs h k done before after → IsElse before.now after.now place
touched_as h place k number part_is no_part relative before done after other (part_alone is touched) =
    touched_else h k.part k.output relative ⊥ before.now after.now place (by_folder h k number part_is k.output place refl no_part) (λ none. absurd none) (touched relative place)
touched_as h place k number part_is no_part relative before done after other (at_instance named is touched) =
    touched_else h k.part k.output named.items (is_written done.fate ≡ true) before.now after.now place (by_folder h k number part_is k.output place refl no_part) (λ was. other named is) (touched place)

module _ {I O F E : Type 0} (h : Host I O) (r : Reader I) (w : Writer O) (e : Writer E) (all : GivesAll h (as_whole h r) w) (first : Tree) (place : List ℕ) (k : Manner) (plain : HasPlainParts h k.output) (number : ℕ) (part_is : k.part ≡ below k.output (part_name number)) (not_kept : k.keeps_names ≡ false) (no_part : IsNoPart h k.output place) where
  by_bytes : (n : Named) (what : What) (bytes : List ℕ) (from : E) (before : FileSystem) (done : Done) (to : E) (after : FileSystem) (b : Bool) → is_media_index n.relative ≡ b → before.written ≡ None → HasBytes h k.output before.now (visit_of n what) bytes
      → DoesName (working {F = F} h r w e) k n what from before (Ok done) to after → (EndsNamed h k bytes before.now done → (relative : ArrayVec ℕ) → done.instance ≡ Some relative → place ≢ place_of h (below k.output relative.items)) → IsElse before.now after.now place
  by_bytes n what bytes from before done to after true index none has does other = same_else before after place (index_same {F = F} h r w e k n what from before (Ok done) to after index does)
  by_bytes n what bytes from before done to after false index none has (files.no_file not told it same) other = same_else before after place same
  by_bytes n what bytes from before done to after false index none has (files.a_file c is does) other =
      touched_as h place k number part_is no_part n.relative before done after
      (other (ends_as {F = F} h r w e k number part_is not_kept all plain n bytes c from before done to after index none (subst (λ (y : What). HasBytes h k.output before.now (visit_of n y) bytes) is has) (files.a_file c refl does)))
      (touches_as {F = F} h r w e k number part_is not_kept n what from before done to after none (files.a_file c is does))

  else_as : (n : Named) (what : What) (from : E) (before : FileSystem) (done : Done) (to : E) (after : FileSystem) → before.written ≡ None → KeepsAll h k.output first before.now → LeavesPlaceAs h k.task k.output first place (visit_of n what)
      → DoesName (working {F = F} h r w e) k n what from before (Ok done) to after → IsElse before.now after.now place
  else_as n what from before done to after none since (as_no_file not) does = same_else before after place (unchanged {F = F} h r w e k n what from before (Ok done) to after not does)
  else_as n what from before done to after none since (as_index index) does = same_else before after place (index_same {F = F} h r w e k n what from before (Ok done) to after index does)
  else_as n what from before done to after none since (as_unnamed bytes has other) does =
      by_bytes n what bytes from before done to after (is_media_index n.relative) refl none (bytes_kept h k.output first before.now (visit_of n what) bytes since has) does (λ ends relative is. absurd (no_instance h k bytes before done relative other is ends))
  else_as n what from before done to after none since (as_elsewhere bytes out uids has names other) does =
      by_bytes n what bytes from before done to after (is_media_index n.relative) refl none (bytes_kept h k.output first before.now (visit_of n what) bytes since has) does
      (λ ends relative is it. other (it ∙ ap (λ (p : List ℕ). place_of h (below k.output p)) (named_as h k bytes before done relative out uids names is ends)))

-- ---- all names

record Good {I O W E : Type 0} (h : Host I O) (folder : List ℕ) (first : Tree) (place : List ℕ) (IsSparing : Visit → Type 0) (shared : Shared) (start : FileSystem) (y : (Work W × E) × List Visit) (s : FileSystem) : Type 0 where
  shares : y.0.0.shared ≡ shared
  quiet : s.written ≡ None
  keeps : KeepsAll h folder first s.now
  left : OfAll IsSparing y.1 → y.0.0.stop ≡ None → IsElse start.now s.now place

abbrev StaysGood : {I O W E : Type 0} → Host I O → (folder : List ℕ) → (first : Tree) → (place : List ℕ) → (IsSparing : Visit → Type 0) → Shared → (start : FileSystem) → ((Work W × E) × List Visit) → FileSystem → ((Work W × E) × List Visit) → FileSystem → Type 0
StaysGood h folder first place IsSparing shared start a s b t = Good h folder first place IsSparing shared start a s → Good h folder first place IsSparing shared start b t

closed : {I O W E : Type 0} (h : Host I O) (folder : List ℕ) (first : Tree) (place : List ℕ) (IsSparing : Visit → Type 0) (shared : Shared) (start : FileSystem) → IsClosed IsSame (StaysGood {W = W} {E = E} h folder first place IsSparing shared start)
closed h folder first place IsSparing shared start = record {
  none = λ v s t is good. subst (Good h folder first place IsSparing shared start v) (sym is) good;
  still = λ v s t is good. subst (Good h folder first place IsSparing shared start v) (sym is) good;
  then = λ a b c s t u one other good. other (one good);
}

module _ {I O F W E : Type 0} (h : Host I O) (r : Reader I) (w : Writer O) (e : Writer E) (m : Writer W) (keeps : Bool) (task : Task) (folder : List ℕ) (first : Tree) (place : List ℕ) (IsSparing : Visit → Type 0) (sparing : Sparing F h r w e keeps task folder first place IsSparing) (shared : Shared) (known : Known shared keeps)
    (output_is : (Of shared).output ≡ folder) (task_is : (Of shared).task ≡ task) where
  visit_else : (from : Progress W) (told_before : E) (before : FileSystem) (n : Named) (what : What) (result : Result (Unit {0}) Stopped) (to : Progress W) (told : E) (after : FileSystem) → before.written ≡ None → KeepsAll h folder first before.now → IsSparing (visit_of n what) → to.stop ≡ None
      → VisitsName (working {F = F} h r w e) m shared from told_before before n what result to told after → IsElse before.now after.now place
  visit_else from told_before before n what result to told after none since other stop (spec.of_another not is t same ok) = same_else before after place same
  visit_else from told_before before n what result to told after none since other stop (spec.was_done done mid share does ends) =
      sparing.step (Of shared) known.number known.part_is known.keeps_is output_is task_is n what told_before before done mid after none since other does
  visit_else from told_before before n what result to told after none since other stop (spec.ends_run p s share does is ok) = absurd (no_stop to.stop _ (ap (λ q. q.stop) is) stop)

  visits_good : (start : FileSystem) → VisitsDo (StaysGood h folder first place IsSparing shared start) (noted (visits_of (working {F = F} h r w e) m))
  visits_good start from before n what result to after v good =
      let visits : VisitsName (working {F = F} h r w e) m shared (progress from.0.0) from.0.1 before n what result (progress to.0.0) to.0.1 after =
      subst (λ (s : Shared). VisitsName (working {F = F} h r w e) m s (progress from.0.0) from.0.1 before n what result (progress to.0.0) to.0.1 after) good.shares v.0.0 in
      let now : (after.written ≡ None) × KeepsAll h folder before.now after.now =
      subst (λ (o : List ℕ). (after.written ≡ None) × KeepsAll h o before.now after.now) output_is (quietly {F = F} h r w e m shared known.number known.part_is (progress from.0.0) from.0.1 before n what result (progress to.0.0) to.0.1 after good.quiet visits) in
      record {
        shares = v.0.1 ∙ good.shares;
        quiet = now.0;
        keeps = then_keeps h folder first before.now after.now good.keeps now.1;
        left = λ others stop.
            let each : OfAll IsSparing (from.1 ++ visit_of n what ∷ []) = subst (OfAll IsSparing) v.1 others in
            then_else start.now before.now after.now place
            (good.left (before_all IsSparing from.1 (visit_of n what) each) (stop_before (working {F = F} h r w e) m shared (progress from.0.0) from.0.1 before n what result (progress to.0.0) to.0.1 after visits stop))
            (visit_else (progress from.0.0) from.0.1 before n what result (progress to.0.0) to.0.1 after good.quiet good.keeps (last_of_all IsSparing from.1 (visit_of n what) each) stop visits);
      }

first_good : {I O W E : Type 0} (h : Host I O) (folder : List ℕ) (first : Tree) (place : List ℕ) (IsSparing : Visit → Type 0) (start : Work W) (from : E) (before : FileSystem) → before.written ≡ None → KeepsAll h folder first before.now → Good h folder first place IsSparing start.shared before ((start, from), []) before
first_good h folder first place IsSparing start from before quiet keeps = record { shares = refl; quiet = quiet; keeps = keeps; left = λ none stop. inl refl }

-- ---- runs

-- what they left, and that there is what was there
record Else {I O : Type 0} (h : Host I O) (folder : List ℕ) (first : Tree) (place : List ℕ) (start now : Tree) : Type 0 where
  keeps : KeepsAll h folder first now
  is : IsElse start now place

module _ {I O F W E : Type 0} (h : Host I O) (r : Reader I) (w : Writer O) (m : Writer W) (e : Writer E) (keeps : Bool) (task : Task) (folder : List ℕ) (first : Tree) (place : List ℕ) (IsSparing : Visit → Type 0) (sparing : Sparing F h r w e keeps task folder first place IsSparing) where
  visited_else : (number count : ℕ) (run : TreeRun) → IsRunOf keeps task folder number count run → (begun : Begun) (headed left : W) → begun.part.items ≡ part_path run → (before done : FileSystem) → before.written ≡ None → KeepsAll h folder first before.now → (visits : List Visit) → OfAll IsSparing visits
      → Visited (working {F = F} h r w e) m run begun headed before visits left done → Else h folder first place before.now done.now
  visited_else number count run is_run begun headed left part_is before done quiet since visits others (in_folder path opened from status to v walks stop) =
      let shared : Shared = v.start.shared in
      let is : Known shared keeps = known keeps task folder number count run is_run begun.part.items shared v.begins.shares part_is in
      let out : (Of shared).output ≡ folder = output_is keeps task folder number count run is_run begun.part.items shared v.begins.shares in
      let its : (Of shared).task ≡ task = task_is keeps task folder number count run is_run begun.part.items shared v.begins.shares in
      let good : Good h folder first place IsSparing shared before ((v.last, v.told), visits) done =
      walks_do (Works {F = F} h) (only_quiet (Works {F = F} h) (works_quiet {F = F} h)) (StaysGood h folder first place IsSparing shared before) (closed h folder first place IsSparing shared before) (noted (visits_of (working {F = F} h r w e) m))
      (visits_good {F = F} h r w e m keeps task folder first place IsSparing sparing shared is out its before) path begun.number opened ((v.start, from), []) before v.walked ((v.last, v.told), visits) done walks
      (first_good h folder first place IsSparing v.start from before quiet since) in
      record { keeps = good.keeps; is = good.left others stop }
  visited_else number count run is_run begun headed left part_is before done quiet since visits others (in_list list input from status to read v walks stop) =
      let shared : Shared = v.start.shared in
      let is : Known shared keeps = known keeps task folder number count run is_run begun.part.items shared v.begins.shares part_is in
      let out : (Of shared).output ≡ folder = output_is keeps task folder number count run is_run begun.part.items shared v.begins.shares in
      let its : (Of shared).task ≡ task = task_is keeps task folder number count run is_run begun.part.items shared v.begins.shares in
      let good : Good h folder first place IsSparing shared before ((v.last, v.told), visits) done =
      lines_do (Works {F = F} h) (only_quiet (Works {F = F} h) (works_quiet {F = F} h)) (StaysGood h folder first place IsSparing shared before) (closed h folder first place IsSparing shared before) (noted (visits_of (working {F = F} h r w e) m))
      (visits_good {F = F} h r w e m keeps task folder first place IsSparing sparing shared is out its before) (as_whole h r).gets begun.number ((v.start, from), []) before input v.walked ((v.last, v.told), visits) done read walks
      (first_good h folder first place IsSparing v.start from before quiet since) in
      record { keeps = good.keeps; is = good.left others stop }

  run_else : (number count : ℕ) (start after : Tree) → KeepsAll h folder first start → OneRun F h r w m e keeps task folder (OfAll IsSparing) number count start after → Else h folder first place start after
  run_else number count start after since o =
      subst (λ (t : Tree). Else h folder first place start t) o.after_is
      (subst (λ (t : Tree). Else h folder first place t o.done.now) o.start_is
      (visited_else number count o.run o.is_of o.begun o.headed o.left o.part_is o.before o.done o.quiet (subst (KeepsAll h folder first) (sym o.start_is) since) o.visits o.are_so o.visited))

  all_else : (count : ℕ) (numbers : List ℕ) (after : Tree) → Runs F h r w m e keeps task folder (OfAll IsSparing) count first numbers after → Else h folder first place first after
  all_else count numbers after (no_run none is) = subst (Else h folder first place first) (sym is) (record { keeps = keeps_itself h folder first; is = inl refl })
  all_else count numbers after (and_run earlier number mid runs one more) =
      let had : Else h folder first place first mid = all_else count earlier mid runs in
      let now : Else h folder first place mid after = run_else number count mid after had.keeps one in
      record { keeps = now.keeps; is = then_else first mid after place had.is now.is }

pub nothing_else : {I O F W E : Type 0} (r : Reader I) (w : Writer O) (m : Writer W) (e : Writer E) → NothingElse F r w m e
nothing_else {I} {O} {F} r w m e h task folder first place count numbers after no_part runs =
    (all_else {F = F} h r w m e true task folder first place (LeavesPlace h folder first place) (record {
      step = λ k number part_is keeps_is output_is task_is n what from before done to after none since beside does. name_else {F = F} h r w e task folder first place no_part k number part_is keeps_is output_is n what from before done to after none since beside does;
    }) count numbers after runs).is

step_as : {I O F E : Type 0} (h : Host I O) (r : Reader I) (w : Writer O) (e : Writer E) → TellsAll h w → (task : Task) (folder : List ℕ) (first : Tree) (place : List ℕ) → HasPlainParts h folder → IsNoPart h folder place → (k : Manner) (number : ℕ) → k.part ≡ below k.output (part_name number) → k.keeps_names ≡ false → k.output ≡ folder → k.task ≡ task
    → (n : Named) (what : What) (from : E) (before : FileSystem) (done : Done) (to : E) (after : FileSystem) → before.written ≡ None → KeepsAll h folder first before.now → LeavesPlaceAs h task folder first place (visit_of n what) → DoesName (working {F = F} h r w e) k n what from before (Ok done) to after → IsElse before.now after.now place
step_as {I} {O} {F} h r w e tells task folder first place plain no_part k number part_is keeps_is output_is task_is n what from before done to after none since beside does =
    else_as {F = F} h r w e (whole_gives h r w tells) first place k (subst (HasPlainParts h) (sym output_is) plain) number part_is keeps_is (subst (λ (o : List ℕ). IsNoPart h o place) (sym output_is) no_part) n what from before done to after none
    (subst (λ (o : List ℕ). KeepsAll h o first before.now) (sym output_is) since)
    (subst (λ (o : List ℕ). LeavesPlaceAs h k.task o first place (visit_of n what)) (sym output_is) (subst (λ (t : Task). LeavesPlaceAs h t folder first place (visit_of n what)) (sym task_is) beside)) does

pub nothing_else_as : {I O F W E : Type 0} (r : Reader I) (w : Writer O) (m : Writer W) (e : Writer E) → NothingElseAs F r w m e
nothing_else_as {I} {O} {F} r w m e h task folder first place count numbers after tells plain no_part runs =
    (all_else {F = F} h r w m e false task folder first place (LeavesPlaceAs h task folder first place) (record {
      step = λ k number part_is keeps_is output_is task_is n what from before done to after none since beside does. step_as {F = F} h r w e tells task folder first place plain no_part k number part_is keeps_is output_is task_is n what from before done to after none since beside does;
    }) count numbers after runs).is
