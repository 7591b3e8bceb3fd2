-- Runs over a tree have what the ideal run has.
use Rattle.std.proofs.Common.{◌≡◌, ◌∙◌, refl, sym, ap, subst, ℕ, List, [], ◌∷◌, map, Bool, true, cond, Option, Some, None}
use Rattle.std.specs.Io.KnownBytes.{append_known}
use Rattle.dcm_devices.specs.Writing.{Writer}
use Rattle.dcm_files.specs.declared.folders.Found.{Found}
use Rattle.dcm_files.specs.declared.folders.FoundKind.{FoundKind}
use Rattle.dcm_files.specs.declared.folders.FoundKind.TheVariants as kinds
use Rattle.dcm_walk.specs.Names.{below}
use Rattle.dcm_cli.specs.Calls.{Reader}
use Rattle.dcm_trees.specs.declared.run.TreeRun.{TreeRun}
use Rattle.dcm_trees.specs.Run.{part_name}
use Rattle.dcm_trees.specs.Task.{Task, task_of}
use Rattle.dcm_tree_laws.specs.Again.{OfAll}
use Rattle.dcm_tree_laws.specs.FileSystem.{FileSystem, Tree, Host, place_of, at_path}
use Rattle.dcm_tree_laws.specs.Flows.{AlikeAt}
use Rattle.dcm_tree_laws.specs.Ideal.{Thing, a_file, a_folder, no_file, Outputs, is_passed, Name, outputs_after, outputs_after_all, rows_of, share}
use Rattle.dcm_tree_laws.specs.IdealLaws.{Keeps, SameOutputs}
use Rattle.dcm_tree_laws.specs.Laws.{part_path}
use Rattle.dcm_tree_laws.specs.Ran.{IsName, ShowsThing, Shows, TellsApart, Ran, text_of}
use Rattle.dcm_tree_laws.specs.RanLaws.{IsAsked, names_of, IsSecond, SecondRunIsFirst, NoNameShows, IsShareOf, RanShares, no_run, and_run, AreAsked, SharesLeaveOne}
use Rattle.dcm_tree_laws.specs.Rows.{Visit}
use Rattle.dcm_tree_laws.specs.Single.{TellsAll}
use Rattle.dcm_tree_laws.specs.Together.{IsRunOf}
use Rattle.dcm_tree_laws.proofs.CopiesBy.{apart_by}
use Rattle.dcm_tree_laws.proofs.Frees.{KeepsAll}
use Rattle.dcm_tree_laws.proofs.SharesBy.{of_one}
use Rattle.dcm_tree_laws.proofs.IdealRun.SharesOne.{shares_are_one}
use Rattle.dcm_tree_laws.proofs.IdealRun.Over.{RunLeft, run_left, name_kept}
use Rattle.dcm_tree_laws.proofs.IdealRun.Places.{way_before, same_way}
use Rattle.dcm_tree_laws.proofs.IdealRun.Second.{second_is_first}
use Rattle.dcm_tree_laws.proofs.IdealRun.Steps.{run_keeps, no_name_flows}

-- ---- what is told apart stays so

apart_then : {I O : Type 0} (h : Host I O) (output part : List ℕ) (spoken : List ℕ → Bool) (o u : Outputs) → Keeps o u → TellsApart h output part spoken o → TellsApart h output part spoken u
apart_then h output part spoken o u keeps apart = record {
  way = apart.way;
  text = apart.text;
  apart = λ p q of_p of_q way_p way_q. apart.apart p q of_p of_q (way_before p o u keeps way_p) (way_before q o u keeps way_q);
  no_part = λ p of_p way. apart.no_part p of_p (way_before p o u keeps way);
}

left_by : {I O F W E : Type 0} (h : Host I O) (r : Reader I) (w : Writer O) (m : Writer W) (e : Writer E) → TellsAll h w → (run : TreeRun) (before after : FileSystem) (visits : List Visit) (headed left : W) (name_of : Visit → Name) (spoken : List ℕ → Bool) (outputs : Outputs) → IsAsked h run before.now visits name_of spoken outputs
    → Ran F h r w m e run before visits headed left after → RunLeft h m run before.now visits headed left after.now name_of spoken outputs
left_by {I} {O} {F} h r w m e tells run before after visits headed left name_of spoken outputs asked ran =
    run_left {F = F} r w m e h run before visits headed left after name_of spoken outputs tells asked.follows ran asked.named asked.speaks asked.apart asked.shows

-- ---- a second run

all_kept : (A B : Visit → Type 0) → ((v : Visit) → A v → B v) → (visits : List Visit) → OfAll A visits → OfAll B visits
all_kept A B keep [] all = tt
all_kept A B keep (v ∷ visits) all = (keep v all.0, all_kept A B keep visits all.1)

same_names : (first second : TreeRun) (name_of : Visit → Name) (visits : List Visit) → second.options.part ≡ first.options.part → names_of second name_of visits ≡ names_of first name_of visits
same_names first second name_of visits is = ap (λ p. share p.number p.count (map name_of visits)) is

same_part : (first second : TreeRun) → second.output.now ≡ first.output.now → second.options.part ≡ first.options.part → part_path second ≡ part_path first
same_part first second output part = ap (λ o. below o (part_name second.options.part.number)) output ∙ ap (λ p. below first.output.now (part_name p.number)) part

-- the second is asked what the first was
asked_again : {I O W : Type 0} (h : Host I O) (m : Writer W) (first second : TreeRun) (before mid : Tree) (visits : List Visit) (headed left : W) (name_of : Visit → Name) (spoken : List ℕ → Bool) (outputs : Outputs) → at_path h before (part_path first) ≡ None → IsSecond first second → IsAsked h first before visits name_of spoken outputs
    → RunLeft h m first before visits headed left mid name_of spoken outputs → IsAsked h second mid visits name_of spoken (outputs_after true outputs (names_of first name_of visits))
asked_again h m first second before mid visits headed left name_of spoken outputs none is asked x =
    let now : Outputs = outputs_after true outputs (names_of first name_of visits) in
    record {
      follows = λ not path no_other. asked.follows (sym is.keeps_is ∙ not) path (λ f at. no_other f (x.still.there (place_of h path) f (apart_by before (place_of h path) (place_of h (part_path first)) f none at) at));
      named = all_kept (λ v. IsName h first.options.keeps_names (task_of first.task) first.output.now before v (name_of v)) (λ v. IsName h second.options.keeps_names (task_of second.task) second.output.now mid v (name_of v))
          (λ v its. subst (λ b. IsName h b (task_of second.task) second.output.now mid v (name_of v)) (sym is.keeps_is) (subst (λ t. IsName h first.options.keeps_names t second.output.now mid v (name_of v)) (sym is.task_is) (subst (λ o. IsName h first.options.keeps_names (task_of first.task) o mid v (name_of v)) (sym is.output_is)
          (name_kept h first.options.keeps_names (task_of first.task) first.output.now before mid v (name_of v) x.keeps its)))) visits asked.named;
      speaks = asked.speaks;
      apart = subst (λ o. TellsApart h o (part_path second) spoken now) (sym is.output_is) (subst (λ p. TellsApart h first.output.now p spoken now) (sym (same_part first second is.output_is is.part_is)) (apart_then h first.output.now (part_path first) spoken outputs now (run_keeps true outputs (names_of first name_of visits)) asked.apart));
      shows = subst (λ o. Shows h o spoken mid now) (sym is.output_is) (subst (λ c. Shows h first.output.now spoken mid (outputs_after c outputs (names_of first name_of visits))) is.goes_on x.shows);
    }

pub second_run_is_first : {I O F W E : Type 0} (r : Reader I) (w : Writer O) (m : Writer W) (e : Writer E) → SecondRunIsFirst F r w m e
second_run_is_first {I} {O} {F} r w m e h first second before mid after visits headed left reheaded releft name_of spoken outputs tells is asked leaves one other =
    let names : List Name = names_of first name_of visits in
    let now : Outputs = outputs_after true outputs names in
    let x : RunLeft h m first before.now visits headed left mid.now name_of spoken outputs = left_by {F = F} h r w m e tells first before mid visits headed left name_of spoken outputs asked one in
    let again : IsAsked h second mid.now visits name_of spoken now = asked_again h m first second before.now mid.now visits headed left name_of spoken outputs one.nothing is asked x in
    let y : RunLeft h m second mid.now visits reheaded releft after.now name_of spoken now = left_by {F = F} h r w m e tells second mid after visits reheaded releft name_of spoken now again other in
    let facts = second_is_first outputs names leaves in
    let same : names_of second name_of visits ≡ names = same_names first second name_of visits is.part_is in (
      subst (λ c. Shows h first.output.now spoken mid.now (outputs_after c outputs names)) is.goes_on x.shows,
      subst (λ u. Shows h first.output.now spoken after.now u) (ap (λ c. outputs_after c now (names_of second name_of visits)) is.goes_on_too ∙ ap (outputs_after true now) same ∙ facts.0) (subst (λ o. Shows h o spoken after.now (outputs_after second.options.continues now (names_of second name_of visits))) is.output_is y.shows),
      x.rows ∙ ap (λ c. append_known (m.contents headed) (text_of (rows_of c outputs names))) is.goes_on,
      y.rows ∙ ap (λ rows. append_known (m.contents reheaded) (text_of rows)) (ap (λ c. rows_of c now (names_of second name_of visits)) is.goes_on_too ∙ ap (rows_of true now) same ∙ facts.1),
    )

-- ---- two trees

alike_shown : (t u : Tree) (f g : Option Found) (thing : Option Thing) → ShowsThing t f thing → ShowsThing u g thing → AlikeAt t u f g
alike_shown t u None None thing first second = tt
alike_shown t u None (Some g) None first second = absurd second
alike_shown t u None (Some g) (Some thing) first second = absurd first
alike_shown t u (Some f) None None first second = absurd first
alike_shown t u (Some f) None (Some thing) first second = absurd second
alike_shown t u (Some f) (Some g) None first second = absurd first
alike_shown t u (Some f) (Some g) (Some (a_file mode bytes)) first second = (first.0 ∙ sym second.0, λ file. (first.1 ∙ sym second.1, first.2 ∙ sym second.2))
alike_shown t u (Some f) (Some g) (Some a_folder) first second = (first ∙ sym second, λ file. absurd (not_both f.kind first file))
  where
    not_both : (kind : FoundKind) → kind ≡ kinds.Folder → kind ≡ kinds.File → ⊥
    not_both kind a b = absurd (cc)
alike_shown t u (Some f) (Some g) (Some no_file) first second = (first ∙ sym second, λ file. absurd (not_both f.kind first file))
  where
    not_both : (kind : FoundKind) → kind ≡ kinds.Other → kind ≡ kinds.File → ⊥
    not_both kind a b = absurd (cc)

pub no_name_shows : {I O F W E : Type 0} (r : Reader I) (w : Writer O) (m : Writer W) (e : Writer E) → NoNameShows F r w m e
no_name_shows {I} {O} {F} r w m e h first second before start after end visits others headed left reheaded releft name_of other_of spoken outputs tells output continues asked asked_too comes one other =
    let x = left_by {F = F} h r w m e tells first before after visits headed left name_of spoken outputs asked one in
    let y = left_by {F = F} h r w m e tells second start end others reheaded releft other_of spoken outputs asked_too other in
    let c : Bool = first.options.continues in
    let now : Outputs = outputs_after c outputs (names_of first name_of visits) in
    let same : outputs_after second.options.continues outputs (names_of second other_of others) ≡ now =
    ap (λ b. outputs_after b outputs (names_of second other_of others)) continues ∙ sym (no_name_flows c outputs (names_of first name_of visits) (names_of second other_of others) comes).0 in
    let shows : Shows h first.output.now spoken end.now now = subst (λ u. Shows h first.output.now spoken end.now u) same (subst (λ o. Shows h o spoken end.now (outputs_after second.options.continues outputs (names_of second other_of others))) output y.shows) in
    λ p of_p way. alike_shown after.now end.now (at_path h after.now (below first.output.now p)) (at_path h end.now (below first.output.now p)) (now p) (x.shows.shown p of_p way) (shows.shown p of_p way)

-- ---- shares

-- one run is asked what all are
asked_share : {I O : Type 0} (h : Host I O) (keeps : Bool) (task : Task) (folder : List ℕ) (number count : ℕ) (run : TreeRun) (start : Tree) (visits : List Visit) (name_of : Visit → Name) (spoken : List ℕ → Bool) (outputs : Outputs) → IsRunOf keeps task folder number count run → AreAsked h keeps task folder start visits name_of spoken outputs
    → IsAsked h run start visits name_of spoken outputs
asked_share h keeps task folder number count run start visits name_of spoken outputs is a = record {
  follows = λ not. a.follows (sym is.keeps_is ∙ not);
  named = subst (λ b. OfAll (λ v. IsName h b (task_of run.task) run.output.now start v (name_of v)) visits) (sym is.keeps_is) (subst (λ t. OfAll (λ v. IsName h keeps t run.output.now start v (name_of v)) visits) (sym is.task_is) (subst (λ o. OfAll (λ v. IsName h keeps task o start v (name_of v)) visits) (sym is.output_is) a.named));
  speaks = a.speaks;
  apart = subst (λ o. TellsApart h o (below o (part_name run.options.part.number)) spoken outputs) (sym is.output_is) (a.apart run.options.part.number);
  shows = subst (λ o. Shows h o spoken start outputs) (sym is.output_is) a.shows;
}

-- and the runs behind it, upon what it left
asked_rest : {I O W : Type 0} (h : Host I O) (m : Writer W) (keeps : Bool) (task : Task) (folder : List ℕ) (number count : ℕ) (run : TreeRun) (start mid : Tree) (visits : List Visit) (headed left : W) (name_of : Visit → Name) (spoken : List ℕ → Bool) (outputs : Outputs) → at_path h start (part_path run) ≡ None → IsShareOf keeps task folder number count run
    → AreAsked h keeps task folder start visits name_of spoken outputs → RunLeft h m run start visits headed left mid name_of spoken outputs → AreAsked h keeps task folder mid visits name_of spoken (outputs_after true outputs (share number count (map name_of visits)))
asked_rest h m keeps task folder number count run start mid visits headed left name_of spoken outputs none is a x =
    let names : List Name = share number count (map name_of visits) in
    record {
      follows = λ not path no_other. a.follows not path (λ f at. no_other f (x.still.there (place_of h path) f (apart_by start (place_of h path) (place_of h (part_path run)) f none at) at));
      named = all_kept (λ v. IsName h keeps task folder start v (name_of v)) (λ v. IsName h keeps task folder mid v (name_of v)) (λ v its. name_kept h keeps task folder start mid v (name_of v) (subst (λ o. KeepsAll h o start mid) is.is_run.output_is x.keeps) its) visits a.named;
      speaks = a.speaks;
      apart = λ k. apart_then h folder (below folder (part_name k)) spoken outputs (outputs_after true outputs names) (run_keeps true outputs names) (a.apart k);
      shows = subst (λ u. Shows h folder spoken mid u) (ap (λ c. outputs_after c outputs (share run.options.part.number run.options.part.count (map name_of visits))) is.goes_on ∙ ap (λ k. outputs_after true outputs (share k run.options.part.count (map name_of visits))) is.is_run.number_is ∙ ap (λ k. outputs_after true outputs (share number k (map name_of visits))) is.is_run.count_is)
          (subst (λ o. Shows h o spoken mid (outputs_after run.options.continues outputs (share run.options.part.number run.options.part.count (map name_of visits)))) is.is_run.output_is x.shows);
    }

shares_left : {I O F W E : Type 0} (h : Host I O) (r : Reader I) (w : Writer O) (m : Writer W) (e : Writer E) → TellsAll h w → (keeps : Bool) (task : Task) (folder : List ℕ) (count : ℕ) (visits : List Visit) (name_of : Visit → Name) (spoken : List ℕ → Bool) → {numbers : List ℕ} {before after : Tree} → RanShares F h r w m e keeps task folder count visits numbers before after
    → (outputs : Outputs) → AreAsked h keeps task folder before visits name_of spoken outputs → Shows h folder spoken after (outputs_after_all true outputs count numbers (map name_of visits))
shares_left h r w m e tells keeps task folder count visits name_of spoken (no_run same) outputs a = subst (λ t. Shows h folder spoken t outputs) (sym same) a.shows
shares_left {I} {O} {F} h r w m e tells keeps task folder count visits name_of spoken (and_run number run start mid headed left is start_is ran rest) outputs a =
    let asked : AreAsked h keeps task folder start.now visits name_of spoken outputs = subst (λ t. AreAsked h keeps task folder t visits name_of spoken outputs) (sym start_is) a in
    let x : RunLeft h m run start.now visits headed left mid.now name_of spoken outputs = left_by {F = F} h r w m e tells run start mid visits headed left name_of spoken outputs (asked_share h keeps task folder number count run start.now visits name_of spoken outputs is.is_run asked) ran in
    shares_left {F = F} h r w m e tells keeps task folder count visits name_of spoken rest (outputs_after true outputs (share number count (map name_of visits))) (asked_rest h m keeps task folder number count run start.now mid.now visits headed left name_of spoken outputs ran.nothing is asked x)

-- one run does all names
all_names : (names : List Name) → share 1 1 names ≡ names
all_names [] = refl
all_names (n ∷ names) = ap (λ t. cond t (n ∷ share 1 1 names) (share 1 1 names)) (of_one n.relative) ∙ ap (λ rest. n ∷ rest) (all_names names)

pub shares_leave_one : {I O F W E : Type 0} (r : Reader I) (w : Writer O) (m : Writer W) (e : Writer E) → SharesLeaveOne F r w m e
shares_leave_one {I} {O} {F} r w m e h keeps task folder count numbers visits start after alone name_of spoken outputs tells some all asked beside shares one =
    let names : List Name = map name_of visits in
    let now : Outputs = outputs_after true outputs names in
    let many : Shows h folder spoken after (outputs_after_all true outputs count numbers names) = shares_left {F = F} h r w m e tells keeps task folder count visits name_of spoken shares outputs asked in
    let single : Shows h folder spoken alone now = subst (λ x. Shows h folder spoken alone (outputs_after true outputs x)) (all_names names) (shares_left {F = F} h r w m e tells keeps task folder 1 visits name_of spoken one outputs asked) in
    let same : SameOutputs (outputs_after_all true outputs count numbers names) now = (shares_are_one true outputs names count numbers some all beside).0 in
    λ p of_p way. alike_shown after alone (at_path h after (below folder p)) (at_path h alone (below folder p)) (now p)
    (subst (ShowsThing after (at_path h after (below folder p))) (same p) (many.shown p of_p (same_way p (outputs_after_all true outputs count numbers names) now (λ q on. ap is_passed (same q)) ∙ way))) (single.shown p of_p way)
