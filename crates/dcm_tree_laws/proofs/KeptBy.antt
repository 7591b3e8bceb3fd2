-- A run that goes on and keeps names has the rows of a run before it again, and leaves all as it was, where all of these stand.
use Rattle.std.proofs.Common.{◌≡◌, ◌∙◌, refl, sym, ap, subst, ℕ, List, [], ◌∷◌, ◌++◌, true, false, Option, None, Result, Ok, Err}
use Rattle.std.specs.Prelude.{◌≢◌}
use Rattle.std.specs.Io.KnownBytes.{append_known}
use Rattle.std.specs.Str.{IsUtf8}
use Rattle.dcm_lemmas.proofs.Truth.{true_false}
use Rattle.dcm_devices.specs.Writing.{Writer}
use Rattle.dcm_files.specs.declared.folders.Links.TheVariants.{Followed}
use Rattle.dcm_walk.specs.Names.{below}
use Rattle.dcm_walk.specs.Visits.{Named}
use Rattle.dcm_walk.specs.declared.visitor.Stopped.{Stopped}
use Rattle.dcm_walk.specs.declared.visitor.What.{What}
use Rattle.dcm_walk.specs.declared.visitor.What.TheVariants.{File}
use Rattle.dcm_cli.specs.Calls.{Reader}
use Rattle.dcm_trees.specs.declared.fate.Fate.{Fate}
use Rattle.dcm_trees.specs.declared.fate.Fate.TheVariants as fates
use Rattle.dcm_trees.specs.declared.file.Done.{Done}
use Rattle.dcm_trees.specs.declared.progress.Stop.{Stop as RunStop}
use Rattle.dcm_trees.specs.declared.progress.Shared.{Shared}
use Rattle.dcm_trees.specs.declared.progress.Stop.{Stop}
use Rattle.dcm_trees.specs.declared.progress.Work.{Work}
use Rattle.dcm_trees.specs.declared.run.TreeRun.{TreeRun}
use Rattle.dcm_trees.specs.Fate.{fate_of, word}
use Rattle.dcm_trees.specs.File as files
use Rattle.dcm_trees.specs.File.{DoesFile, DoesName, is_media_index}
use Rattle.dcm_trees.specs.Manner.{Manner, manner_of}
use Rattle.dcm_trees.specs.Run.{Shares}
use Rattle.dcm_trees.specs.Task.{Task, task_of}
use Rattle.dcm_trees.specs.Work as spec
use Rattle.dcm_trees.specs.Work.{Progress, VisitsName, progress, row, output_of, visits_of}
use Rattle.dcm_tree_laws.specs.Again.{IsThere, OfAll, left_there, over_sure, sure}
use Rattle.dcm_tree_laws.specs.Copies.{IsAsItWas, again, fate_again}
use Rattle.dcm_tree_laws.specs.Determined.{FileAt, as_whole, working, working_folders}
use Rattle.dcm_tree_laws.specs.FileSystem.{FileSystem, Tree, Host, place_of, at_path, may_do, folders_do}
use Rattle.dcm_tree_laws.specs.Kept.{EndsWithout, IsWithoutAgain, KeptStands, kept_there, kept_without, kept_index, kept_no_file, WasKeptAgain, KeptStandsThere, AllKept, AgainIsKept, AgainIsKeptOfList}
use Rattle.dcm_tree_laws.specs.Laws.{IsOutput, over, part_path}
use Rattle.dcm_tree_laws.specs.OneRow.{RowsOf, no_visit, of_another, and_row}
use Rattle.dcm_tree_laws.specs.Part.{LeavesPart}
use Rattle.dcm_tree_laws.specs.Rows.{Visit, noted}
use Rattle.dcm_tree_laws.specs.Single.{TellsAll}
use Rattle.dcm_tree_laws.proofs.Near.{IsNear}
use Rattle.dcm_tree_laws.specs.Together.{IsFree, its_own}
use Rattle.dcm_tree_laws.proofs.CopiesBy.{working_quiet, over_visit, as_always, then_as, apart_by, file_still, StandsAgain, same_now, nameless_again, no_file_again}
use Rattle.dcm_tree_laws.proofs.KeptLeft.{file_without}
use Rattle.dcm_tree_laws.proofs.Left.{there_is_left}
use Rattle.dcm_tree_laws.proofs.Lists.{lines_do}
use Rattle.dcm_tree_laws.proofs.Looking.{same_ok}
use Rattle.dcm_tree_laws.proofs.Noted.{walk_noted, list_noted}
use Rattle.dcm_tree_laws.proofs.OutputsBy.{Leaves, leaves, Still, then_stays, part_of_output}
use Rattle.dcm_tree_laws.proofs.PartsBy.{visit_leaves}
use Rattle.dcm_tree_laws.proofs.Quiet.{only_quiet, IsClosed, IsSame}
use Rattle.dcm_tree_laws.proofs.RowsBy.{visit_of, went_out, no_stop, no_manifest, same_manifest, one_more}
use Rattle.dcm_tree_laws.proofs.Runs.{visit_name}
use Rattle.dcm_tree_laws.proofs.StillBy.{there_stays, before_all, last_of_all}
use Rattle.dcm_tree_laws.proofs.Walks.{VisitsDo, walks_do}
use Rattle.dcm_tree_laws.proofs.Working.{working_also, working_sure, whole_gives}
use Rattle.dcm_tree_laws.proofs.Works as works

-- ---- a name

-- what is known of it by its state
record Known {I O : Type 0} (h : Host I O) (w : Writer O) (k : Manner) (start s : Tree) : Type 0 where
  tells : TellsAll h w
  goes : k.continues ≡ true
  keeps : k.keeps_names ≡ true
  text : IsUtf8 k.part
  none : at_path h start k.part ≡ None
  still : Still h k.part start s
  same : IsAsItWas start s

-- what is free stays so where all is as it was
free_as : {I O : Type 0} (h : Host I O) (output relative : List ℕ) (t u : Tree) → IsAsItWas t u → IsFree h output relative t → IsFree h output relative u
free_as h output relative t u same free = record {
  fits = free.fits;
  text = free.text;
  nothing = same.names (place_of h (below output relative)) ∙ free.nothing;
  way = λ folder behind cut. record {
    text = (free.way folder behind cut).text;
    folder_is = λ f is. (free.way folder behind cut).folder_is f (sym (same.names (place_of h (below output folder))) ∙ is);
  };
}

-- the row of a file that is there
by_both : (first : Done) → fate_again first.fate ≡ fates.There → first.instance ≡ None → again first ≡ left_there
by_both first is none = ap (λ (f : Fate). record first { fate = f }) is ∙ ap (λ (i : _). record left_there { instance = i }) none

there_again : {I O F E : Type 0} (h : Host I O) (r : Reader I) (w : Writer O) (e : Writer E) (k : Manner) (n : Named) (mode : ℕ) (first : Done) (from : E) (before : FileSystem) (result : Result Done RunStop) (to : E) (after : FileSystem) → k.continues ≡ true → k.keeps_names ≡ true → is_media_index n.relative ≡ false
    → fate_again first.fate ≡ fates.There → first.instance ≡ None → IsThere h k.output n.relative before.now → DoesFile (working {F = F} h r w e) k n mode from before result to after → StandsAgain n first before result after
there_again {I} {O} {F} {E} h r w e k n mode first from before result to after goes keeps index written none there does =
    let sure_it : DoesName (over_sure {F = F} h (as_whole h r) w e) k n (File mode) from before result to after =
    works.does_name (working {F = F} h r w e) (may_do h) (working_also h r w) (sure (folders_do {F = F} h)) (working_sure {F = F} h) k n (File mode) from before result to after (files.a_file mode refl does) in
    let left = there_is_left {F = F} (as_whole h r) w e h k n mode from before result to after goes keeps index there sure_it in
    record {
      same = same_now before after left.same;
      row = λ done ok.
          let its : done ≡ again first = same_ok result left_there done left.row ok ∙ sym (by_both first written none) in
          record { output_is = ap (output_of n) its; word_is = ap (λ (d : Done). word d.fate) its };
    }

file_again : {I O F E : Type 0} (h : Host I O) (r : Reader I) (w : Writer O) (e : Writer E) (k : Manner) (n : Named) (what : What) (first : Done) (start : Tree) (mode : ℕ) (from : E) (before : FileSystem) (result : Result Done RunStop) (to : E) (after : FileSystem) → Known h w k start before.now
    → at_path h before.now k.part ≡ None → KeptStands h k.task k.output start (visit_of n what) first → what ≡ File mode → DoesFile (working {F = F} h r w e) k n mode from before result to after → after.unremoved ≡ false → StandsAgain n first before result after
file_again {I} {O} {F} h r w e k n what first start mode from before result to after x none (kept_there other is index written nameless there) file does gone =
    there_again {F = F} h r w e k n mode first from before result to after x.goes x.keeps index written nameless (there_stays h k.part k.output n.relative start before.now x.none x.still there) does
file_again {I} {O} {F} h r w e k n what first start mode from before result to after x none (kept_without other is index f without free) file does gone =
    let now : FileAt h Followed before.now n.path = file_still h k.part n.path start before.now x.none x.still f.file in
    let u : IsWithoutAgain first before result after =
    file_without F h r w e (whole_gives h r w x.tells) k x.text n mode first from before result to after x.keeps index none f.text now
    (subst (λ (b : List ℕ). EndsWithout k.task b first) (sym (x.still.bytes (h.leads Followed n.path) f.file.file (apart_by start (h.leads Followed n.path) (place_of h k.part) f.file.file x.none f.file.is) f.file.is)) without)
    (free_as h k.output n.relative start before.now x.same free) gone does in
    nameless_again n first first.fate before result after u.same (u.row ∙ ap Ok (own first without)) (own first without) without.not
  where
    own : {task : Task} {bytes : List ℕ} (done : Done) → EndsWithout task bytes done → done ≡ its_own done.fate
    own done without = without.told.is ∙ sym (ap (λ (d : Done). its_own d.fate) without.told.is)
file_again h r w e k n what first start mode from before result to after x none (kept_index other is index d) file (files.an_index was told ok same) gone = nameless_again n first fates.MediaIndex before result after (same_now before after same) ok d refl
file_again h r w e k n what first start mode from before result to after x none (kept_index other is index d) file (files.keeps_name became no_index kept does ok) gone = true_false (is_media_index n.relative) index no_index
file_again h r w e k n what first start mode from before result to after x none (kept_index other is index d) file (files.by_instance no_index not does) gone = true_false (is_media_index n.relative) index no_index
file_again h r w e k n what first start mode from before result to after x none (kept_no_file other d) file does gone = absurd (other mode file)

-- what is no file has no output
no_file_first : {I O : Type 0} (h : Host I O) (task : Task) (output : List ℕ) (t : Tree) (n : Named) (what : What) (first : Done) → ((mode : ℕ) → what ≢ File mode) → KeptStands h task output t (visit_of n what) first → first ≡ its_own (fate_of what)
no_file_first h task output t n what first other (kept_there mode is index written nameless there) = absurd (other mode is)
no_file_first h task output t n what first other (kept_without mode is index f without free) = absurd (other mode is)
no_file_first h task output t n what first other (kept_index mode is index d) = absurd (other mode is)
no_file_first h task output t n what first other (kept_no_file others d) = d

name_again : {I O F E : Type 0} (h : Host I O) (r : Reader I) (w : Writer O) (e : Writer E) (k : Manner) (n : Named) (what : What) (first : Done) (start : Tree) (from : E) (before : FileSystem) (result : Result Done RunStop) (to : E) (after : FileSystem) → Known h w k start before.now → at_path h before.now k.part ≡ None
    → KeptStands h k.task k.output start (visit_of n what) first → DoesName (working {F = F} h r w e) k n what from before result to after → after.unremoved ≡ false → StandsAgain n first before result after
name_again {I} {O} {F} h r w e k n what first start from before result to after x none stands (files.a_file mode is does) gone = file_again {F = F} h r w e k n what first start mode from before result to after x none stands is does gone
name_again h r w e k n what first start from before result to after x none stands (files.no_file other told ok same) gone = no_file_again n what first before result after other same ok (no_file_first h k.task k.output start n what first other stands)

visit_same : {I O F W E : Type 0} (h : Host I O) (r : Reader I) (w : Writer O) (e : Writer E) (m : Writer W) (shared : Shared) (start : Tree) (from : Progress W) (told_before : E) (before : FileSystem) (n : Named) (what : What) (result : Result (Unit {0}) Stopped) (to : Progress W) (told : E)
    (after : FileSystem) → Known h w (manner_of shared.manner) start before.now → at_path h before.now (manner_of shared.manner).part ≡ None → KeptStandsThere h (manner_of shared.manner).task (manner_of shared.manner).output start shared (visit_of n what)
    → VisitsName (working {F = F} h r w e) m shared from told_before before n what result to told after → after.unremoved ≡ false → IsAsItWas before.now after.now
visit_same h r w e m shared start from told_before before n what result to told after x none stands (spec.of_another not is t same ok) gone = same_now before after same
visit_same {I} {O} {F} h r w e m shared start from told_before before n what result to told after x none stands (spec.was_done done mid share does ends) gone =
    (name_again {F = F} h r w e (manner_of shared.manner) n what (stands share).0 start told_before before (Ok done) mid after x none (stands share).1 does gone).same
visit_same {I} {O} {F} h r w e m shared start from told_before before n what result to told after x none stands (spec.ends_run p s share does is ok) gone =
    (name_again {F = F} h r w e (manner_of shared.manner) n what (stands share).0 start told_before before (Err p) told after x none (stands share).1 does gone).same

-- ---- the rows so far

-- the manifest has these rows, which are so where this is so of all names
record HasRowsIf {W : Type 0} (m : Writer W) (Is : Visit → Type 0) (IsSo : Visit → Done → Type 0) (shared : Shared) (headed : W) (visits : List Visit) (manifest : W) : Type 0 where
  text : List ℕ
  rows : OfAll Is visits → RowsOf IsSo shared visits text
  manifest_is : m.contents manifest ≡ append_known (m.contents headed) text

first_of_all : (Is : Visit → Type 0) (earlier visits : List Visit) (v : Visit) → visits ≡ earlier ++ v ∷ [] → OfAll Is visits → OfAll Is earlier
first_of_all Is earlier visits v more each = before_all Is earlier v (subst (OfAll Is) more each)

rows_if : {I O F W E : Type 0} (h : Host I O) (r : Reader I) (w : Writer O) (e : Writer E) (m : Writer W) (shared : Shared) (headed : W) (Is : Visit → Type 0) (IsSo : Visit → Done → Type 0)
    (from : Progress W) (told_before : E) (before : FileSystem) (n : Named) (what : What) (result : Result (Unit {0}) Stopped) (to : Progress W) (told : E) (after : FileSystem) (earlier visits : List Visit)
    (make : (done : Done) (mid : E) → OfAll Is visits → DoesName (working {F = F} h r w e) (manner_of shared.manner) n what told_before before (Ok done) mid after → IsSo (visit_of n what) done)
    → visits ≡ earlier ++ visit_of n what ∷ [] → VisitsName (working {F = F} h r w e) m shared from told_before before n what result to told after → to.stop ≡ None
    → (from.stop ≡ None → HasRowsIf m Is IsSo shared headed earlier from.manifest) → HasRowsIf m Is IsSo shared headed visits to.manifest
rows_if h r w e m shared headed Is IsSo from told_before before n what result to told after earlier visits make more (spec.of_another none is t same ok) stop had =
    let rows : HasRowsIf m Is IsSo shared headed earlier from.manifest = had (sym (ap (λ p. p.stop) is) ∙ stop) in
    record {
      text = rows.text;
      rows = λ each. of_another earlier (visit_of n what) (rows.rows (first_of_all Is earlier visits (visit_of n what) more each)) none more;
      manifest_is = same_manifest m to.manifest from.manifest headed rows.text (ap (λ p. p.manifest) is) rows.manifest_is;
    }
rows_if h r w e m shared headed Is IsSo from told_before before n what result to told after earlier visits make more (spec.was_done done mid share does (spec.has_row manifest puts reports is ok)) stop had =
    let rows : HasRowsIf m Is IsSo shared headed earlier from.manifest = had (sym (ap (λ p. p.stop) is) ∙ stop) in
    let text : List ℕ = row n.name (output_of n done) (word done.fate) in
    record {
      text = rows.text ++ text;
      rows = λ each. and_row earlier rows.text (visit_of n what) done (rows.rows (first_of_all Is earlier visits (visit_of n what) more each)) share (make done mid each does) more refl;
      manifest_is = same_manifest m to.manifest manifest headed (rows.text ++ text) (ap (λ p. p.manifest) is)
          (one_more m from.manifest manifest headed rows.text text (went_out m text from.manifest manifest puts) rows.manifest_is);
    }
rows_if h r w e m shared headed Is IsSo from told_before before n what result to told after earlier visits make more (spec.was_done done mid share does (spec.no_row manifest failure s puts t is ok)) stop had =
    absurd (no_stop to.stop _ (ap (λ p. p.stop) is) stop)
rows_if h r w e m shared headed Is IsSo from told_before before n what result to told after earlier visits make more (spec.ends_run p s share does is ok) stop had = absurd (no_stop to.stop _ (ap (λ q. q.stop) is) stop)

-- ---- all names

-- how they are done
record Goes {I O : Type 0} (h : Host I O) (w : Writer O) (start : Tree) (k : Manner) : Type 0 where
  of_output : IsNear k.output k.part
  tells : TellsAll h w
  goes : k.continues ≡ true
  keeps : k.keeps_names ≡ true
  text : IsUtf8 k.part
  none : at_path h start k.part ≡ None

-- what stands by how they are done
abbrev Standing : {I O : Type 0} → Host I O → Tree → Shared → Visit → Type 0
Standing h start shared = KeptStandsThere h (manner_of shared.manner).task (manner_of shared.manner).output start shared

abbrev AgainBy : {I O : Type 0} → Host I O → Tree → Shared → Visit → Done → Type 0
AgainBy h start shared = WasKeptAgain h (manner_of shared.manner).task (manner_of shared.manner).output start

-- what is so after each of them
record Kept {I O W : Type 0} (h : Host I O) (w : Writer O) (start : Tree) (m : Writer W) (headed : W) (visits : List Visit) (stop : Option Stop) (manifest : W) (s : FileSystem) (shared : Shared) : Type 0 where
  goes : Goes h w start (manner_of shared.manner)
  still : Still h (manner_of shared.manner).part start s.now
  nothing : s.unremoved ≡ false → at_path h s.now (manner_of shared.manner).part ≡ None
  rows : s.unremoved ≡ false → stop ≡ None → HasRowsIf m (Standing h start shared) (AgainBy h start shared) shared headed visits manifest
  same : s.unremoved ≡ false → OfAll (Standing h start shared) visits → IsAsItWas start s.now

record Good {I O W E : Type 0} (h : Host I O) (w : Writer O) (start : Tree) (m : Writer W) (shared : Shared) (headed : W) (x : (Work W × E) × List Visit) (s : FileSystem) : Type 0 where
  shares : x.0.0.shared ≡ shared
  quiet : s.written ≡ None
  kept : Kept h w start m headed x.1 x.0.0.stop x.0.0.manifest s shared

abbrev StaysGood : {I O W E : Type 0} → Host I O → Writer O → Tree → Writer W → Shared → W → ((Work W × E) × List Visit) → FileSystem → ((Work W × E) × List Visit) → FileSystem → Type 0
StaysGood h w start m shared headed a s b t = Good h w start m shared headed a s → Good h w start m shared headed b t

closed : {I O W E : Type 0} (h : Host I O) (w : Writer O) (start : Tree) (m : Writer W) (shared : Shared) (headed : W) → IsClosed IsSame (StaysGood {E = E} h w start m shared headed)
closed h w start m shared headed = record {
  none = λ v s t e good. subst (Good h w start m shared headed v) (sym e) good;
  still = λ v s t e good. subst (Good h w start m shared headed v) (sym e) good;
  then = λ a b c s t u first second good. second (first good);
}

-- what is known before a name, where all names before it stood
known_by : {I O W : Type 0} (h : Host I O) (w : Writer O) (start : Tree) (m : Writer W) (headed : W) (visits : List Visit) (stop : Option Stop) (manifest : W) (s : FileSystem) (shared : Shared) → Kept h w start m headed visits stop manifest s shared → s.unremoved ≡ false → OfAll (Standing h start shared) visits
    → Known h w (manner_of shared.manner) start s.now
known_by h w start m headed visits stop manifest s shared kept gone each = record {
  tells = kept.goes.tells;
  goes = kept.goes.goes;
  keeps = kept.goes.keeps;
  text = kept.goes.text;
  none = kept.goes.none;
  still = kept.still;
  same = kept.same gone each;
}

visits_good : {I O F W E : Type 0} (h : Host I O) (start : Tree) (r : Reader I) (w : Writer O) (e : Writer E) (m : Writer W) (shared : Shared) (headed : W) → VisitsDo (StaysGood h w start m shared headed) (noted (visits_of (working {F = F} h r w e) m))
visits_good {I} {O} {F} {W} {E} h start r w e m shared headed from before n what result to after v good =
    let here : Shared = from.0.0.shared in
    let k : Manner = manner_of here.manner in
    let kept : Kept h w start m headed from.1 from.0.0.stop from.0.0.manifest before here = subst (Kept h w start m headed from.1 from.0.0.stop from.0.0.manifest before) (sym good.shares) good.kept in
    let over_it : VisitsName (over {F = F} h (as_whole h r) w e) m here (progress from.0.0) from.0.1 before n what result (progress to.0.0) to.0.1 after = over_visit {F = F} h r w e m here _ from.0.1 before n what result _ to.0.1 after v.0.0 in
    let left : Leaves h k.part k.output before after = leaves h (IsOutput h (as_whole h r) w) k.part k.output before after good.quiet kept.goes.of_output (visit_name {F = F} h (as_whole h r) w e m here _ from.0.1 before n what result _ to.0.1 after over_it) in
    let part : LeavesPart h k.part before after = visit_leaves {F = F} h (as_whole h r) w e m here _ from.0.1 before n what result _ to.0.1 after good.quiet kept.goes.of_output over_it in
    let known : after.unremoved ≡ false → OfAll (Standing h start here) to.1 → Known h w k start before.now =
    λ gone each. known_by h w start m headed from.1 from.0.0.stop from.0.0.manifest before here kept (part gone).0 (first_of_all (Standing h start here) from.1 to.1 (visit_of n what) v.1 each) in
    let next : Kept h w start m headed to.1 to.0.0.stop to.0.0.manifest after here = record {
      goes = kept.goes;
      still = then_stays h k.part k.output start before.now after.now kept.still left.stays;
      nothing = λ gone. (part gone).1 ∙ kept.nothing (part gone).0;
      rows = λ gone stop. rows_if {F = F} h r w e m here headed (Standing h start here) (AgainBy h start here) _ from.0.1 before n what result _ to.0.1 after from.1 to.1
          (λ done mid each does first stands. (name_again {F = F} h r w e k n what first start from.0.1 before (Ok done) mid after (known gone each) (kept.nothing (part gone).0) stands does gone).row done refl) v.1 v.0.0 stop
          (λ none. kept.rows (part gone).0 none);
      same = λ gone all.
          let each : OfAll (Standing h start here) (from.1 ++ visit_of n what ∷ []) = subst (OfAll (Standing h start here)) v.1 all in
          then_as start before.now after.now (kept.same (part gone).0 (before_all (Standing h start here) from.1 (visit_of n what) each))
          (visit_same {F = F} h r w e m here start _ from.0.1 before n what result _ to.0.1 after (known gone all) (kept.nothing (part gone).0)
          (last_of_all (Standing h start here) from.1 (visit_of n what) each) v.0.0 gone);
    } in
    record { shares = v.0.1 ∙ good.shares; quiet = left.none; kept = subst (Kept h w start m headed to.1 to.0.0.stop to.0.0.manifest after) good.shares next }

-- what a run shares
goes_on : {I O : Type 0} (h : Host I O) (w : Writer O) (start : Tree) (run : TreeRun) (part : List ℕ) (shared : Shared) → Shares run part shared → part ≡ part_path run → TellsAll h w → run.options.continues ≡ true → run.options.keeps_names ≡ true → IsUtf8 (part_path run)
    → at_path h start (part_path run) ≡ None → Goes h w start (manner_of shared.manner)
goes_on h w start run part shared shares is tells goes keeps text none = subst (Goes h w start) (sym shares.manner) (record {
  of_output = part_of_output run part is;
  tells = tells;
  goes = goes;
  keeps = keeps;
  text = subst IsUtf8 (sym is) text;
  none = subst (λ (p : List ℕ). at_path h start p ≡ None) (sym is) none;
})

first : {I O W E : Type 0} (h : Host I O) (w : Writer O) (m : Writer W) (headed : W) (start : Work W) (from : E) (before : FileSystem) → before.written ≡ None → start.manifest ≡ headed → Goes h w before.now (manner_of start.shared.manner) → Good h w before.now m start.shared headed ((start, from), []) before
first h w m headed start from before quiet is goes = record {
  shares = refl;
  quiet = quiet;
  kept = record {
    goes = goes;
    still = record { there = λ place f apart x. x; bytes = λ place f apart x. refl };
    nothing = λ gone. goes.none;
    rows = λ gone stop. record { text = []; rows = λ each. no_visit refl refl; manifest_is = no_manifest m start.manifest headed is };
    same = λ gone all. as_always before.now;
  };
}

-- what is so of all of them
record Found {I O W : Type 0} (h : Host I O) (task : Task) (output : List ℕ) (start now : Tree) (m : Writer W) (shared : Shared) (headed : W) (visits : List Visit) (manifest : W) : Type 0 where
  text : List ℕ
  manifest_is : m.contents manifest ≡ append_known (m.contents headed) text
  kept : AllKept h task output start now shared visits text

found : {I O W : Type 0} (h : Host I O) (w : Writer O) (start : Tree) (m : Writer W) (headed : W) (visits : List Visit) (stop : Option Stop) (manifest : W) (s : FileSystem) (shared : Shared) → Kept h w start m headed visits stop manifest s shared → s.unremoved ≡ false → stop ≡ None
    → Found h (manner_of shared.manner).task (manner_of shared.manner).output start s.now m shared headed visits manifest
found h w start m headed visits stop manifest s shared kept gone none =
    let rows : HasRowsIf m (Standing h start shared) (AgainBy h start shared) shared headed visits manifest = kept.rows gone none in
    record { text = rows.text; manifest_is = rows.manifest_is; kept = λ each. (kept.same gone each, rows.rows each) }

pub again_is_kept : {I O F W E : Type 0} (r : Reader I) (w : Writer O) (m : Writer W) (e : Writer E) → AgainIsKept F r w m e
again_is_kept {I} {O} {F} {W} {E} r w m e h run path begun opened headed from before status left to after tells goes keeps quiet part text none v stop gone =
    let shared : Shared = v.start.shared in
    let d = working_folders h (sure (folders_do {F = F} h)) in
    let walk = walk_noted d (visits_of (working {F = F} h r w e) m) path begun.number opened (v.start, from) before v.walked (v.last, v.told) after v.walks [] in
    let good : Good h w before.now m shared headed ((v.last, v.told), walk.0) after =
    walks_do d (only_quiet d (working_quiet h)) (StaysGood h w before.now m shared headed) (closed h w before.now m shared headed) (noted (visits_of (working {F = F} h r w e) m))
    (visits_good {F = F} h before.now r w e m shared headed) path begun.number opened ((v.start, from), []) before v.walked ((v.last, v.told), walk.0) after walk.1
    (first h w m headed v.start from before quiet (ap (λ p. p.manifest) v.begins.nothing) (goes_on h w before.now run begun.part.items shared v.begins.shares part tells goes keeps text none)) in
    let all : Found h (task_of run.task) run.output.now before.now after.now m shared headed walk.0 v.last.manifest =
    subst (λ (k : Manner). Found h k.task k.output before.now after.now m shared headed walk.0 v.last.manifest) v.begins.shares.manner (found h w before.now m headed walk.0 v.last.stop v.last.manifest after shared good.kept gone stop) in
    record {
      visits = walk.0;
      text = all.text;
      walks = walk.1;
      manifest = same_manifest m left v.last.manifest headed all.text v.left_is all.manifest_is;
      kept = all.kept;
    }

pub again_by_list : {I O F W E : Type 0} (r : Reader I) (w : Writer O) (m : Writer W) (e : Writer E) → AgainIsKeptOfList F r w m e
again_by_list {I} {O} {F} {W} {E} r w m e h run list begun input headed from before status left to after read tells goes keeps quiet part text none v stop gone =
    let shared : Shared = v.start.shared in
    let d = working_folders h (sure (folders_do {F = F} h)) in
    let walk = list_noted d (visits_of (working {F = F} h r w e) m) (as_whole h r).gets begun.number (v.start, from) before input v.walked (v.last, v.told) after read v.walks [] in
    let good : Good h w before.now m shared headed ((v.last, v.told), walk.0) after =
    lines_do d (only_quiet d (working_quiet h)) (StaysGood h w before.now m shared headed) (closed h w before.now m shared headed) (noted (visits_of (working {F = F} h r w e) m))
    (visits_good {F = F} h before.now r w e m shared headed) (as_whole h r).gets begun.number ((v.start, from), []) before input v.walked ((v.last, v.told), walk.0) after read walk.1
    (first h w m headed v.start from before quiet (ap (λ p. p.manifest) v.begins.nothing) (goes_on h w before.now run begun.part.items shared v.begins.shares part tells goes keeps text none)) in
    let all : Found h (task_of run.task) run.output.now before.now after.now m shared headed walk.0 v.last.manifest =
    subst (λ (k : Manner). Found h k.task k.output before.now after.now m shared headed walk.0 v.last.manifest) v.begins.shares.manner (found h w before.now m headed walk.0 v.last.stop v.last.manifest after shared good.kept gone stop) in
    record {
      visits = walk.0;
      text = all.text;
      walks = walk.1;
      manifest = same_manifest m left v.last.manifest headed all.text v.left_is all.manifest_is;
      kept = all.kept;
    }
