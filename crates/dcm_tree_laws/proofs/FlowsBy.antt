-- Two runs whose files come to the same in pairs leave the same in the folder of the outputs.
use Rattle.std.proofs.Common.{◌≡◌, ◌∙◌, refl, sym, ap, subst, ℕ, ◌≤◌, max, List, [], ◌∷◌, ◌++◌, length, Bool, true, false, Option, None, Result, Ok}
use Rattle.std.specs.Str.{IsUtf8}
use Rattle.dcm_lemmas.proofs.Truth.{true_false}
use Rattle.dcm_base.specs.Reading.Reads.{INPUT_LIMIT}
use Rattle.dcm_devices.specs.Writing.{Writer}
use Rattle.dcm_files.specs.declared.folders.Links.TheVariants.{Followed}
use Rattle.dcm_walk.specs.Names.{below}
use Rattle.dcm_walk.specs.Visits.{Named}
use Rattle.dcm_walk.specs.declared.visitor.Stopped.{Stopped}
use Rattle.dcm_walk.specs.declared.visitor.What.{What}
use Rattle.dcm_walk.specs.declared.visitor.What.TheVariants.{File}
use Rattle.dcm_cli.specs.Calls.{Reader}
use Rattle.dcm_cli.specs.Status.{DONE}
use Rattle.dcm_cli.specs.declared.ending.Verdict.{Verdict}
use Rattle.dcm_trees.specs.declared.beginning.Begun.{Begun}
use Rattle.dcm_trees.specs.declared.fate.Fate.{Fate}
use Rattle.dcm_trees.specs.declared.file.Done.{Done}
use Rattle.dcm_trees.specs.declared.progress.Shared.{Shared}
use Rattle.dcm_trees.specs.declared.progress.Stop.{Stop}
use Rattle.dcm_trees.specs.declared.progress.Work.{Work}
use Rattle.dcm_trees.specs.declared.run.TreeRun.{TreeRun}
use Rattle.dcm_trees.specs.declared.run.End.TheVariants as run_ends
use Rattle.dcm_trees.specs.Fate as told
use Rattle.dcm_trees.specs.File.{DoesName}
use Rattle.dcm_trees.specs.Manner.{Manner, manner_of}
use Rattle.dcm_trees.specs.Run.{Shares, part_name, end_of, end_status}
use Rattle.dcm_trees.specs.Share.{is_of}
use Rattle.dcm_trees.specs.Task.{Task, task_of}
use Rattle.dcm_trees.specs.Tree.{as_list}
use Rattle.dcm_trees.specs.Work as spec
use Rattle.dcm_trees.specs.Work.{Progress, VisitsName, visits_of, progress, nothing_done}
use Rattle.dcm_tree_laws.specs.Determined.{FileAt, FollowsLinks, FileEnd, was_done, EndsAs, as_whole, working}
use Rattle.dcm_tree_laws.specs.FileSystem.{FileSystem, Tree, Host, place_of, at_path}
use Rattle.dcm_tree_laws.specs.Flows.{SameOutputs, IsFileThatEnds, IsPair, InPairs, IsWholeRun, RunsOverFolder, RunsOverList, RunsOver, of_folder, of_list, SameBecomes, NoNameFlows}
use Rattle.dcm_tree_laws.specs.Laws.{IsOutput, over, part_path}
use Rattle.dcm_tree_laws.specs.Part.{LeavesPart}
use Rattle.dcm_tree_laws.specs.Rows.{Visit, noted}
use Rattle.dcm_tree_laws.specs.Single.{TellsAll}
use Rattle.dcm_tree_laws.specs.Stays.{IsOfOutput}
use Rattle.dcm_tree_laws.proofs.Below.{part_is_within}
use Rattle.dcm_tree_laws.proofs.Becomes.{Becomes, BecomeAlike, becomes, becomes_once}
use Rattle.dcm_tree_laws.proofs.CopiesBy.{over_visit, apart_by}
use Rattle.dcm_tree_laws.proofs.Lists.{lines_do}
use Rattle.dcm_tree_laws.proofs.Onwards.{calls_of, calls_quiet}
use Rattle.dcm_tree_laws.proofs.Near.{IsNear}
use Rattle.dcm_tree_laws.proofs.OutputsBy.{Leaves, leaves, Still, then_stays, part_of_output}
use Rattle.dcm_tree_laws.proofs.PartsBy.{visit_leaves}
use Rattle.dcm_tree_laws.proofs.Quiet.{only_quiet, IsClosed, IsSame}
use Rattle.dcm_tree_laws.proofs.RowsBy.{visit_of, no_stop}
use Rattle.dcm_tree_laws.proofs.Runs.{visit_name}
use Rattle.dcm_tree_laws.proofs.SharesBy.{of_one}
use Rattle.dcm_tree_laws.proofs.Walks.{VisitsDo, walks_do}
use Rattle.dcm_tree_laws.proofs.Working.{whole_gives}

-- ---- the visits of a run

-- what is written of a file is no longer than an input may be
abbrev pub Fits : FileEnd → Type 0
Fits end = (held : List ℕ) (verdict : Verdict) → end ≡ was_done held verdict → length held ≤ INPUT_LIMIT

-- what becomes of the file of a visit, where its part was removed
pub record VisitedAs {I O : Type 0} (h : Host I O) (output part : List ℕ) (task : Task) (start : Tree) (v : Visit) (before : FileSystem) (fate : Fate) (after : FileSystem) : Type 0 where
  pub before_too : after.unremoved ≡ false → before.unremoved ≡ false
  pub becomes : after.unremoved ≡ false → (mode : ℕ) (end : FileEnd) → v.what ≡ File mode → IsFileThatEnds h task start v end → Fits end → Becomes h output part mode before fate after end

-- one after another, with the greatest status
pub data Chain {I O : Type 0} (h : Host I O) (output part : List ℕ) (task : Task) (start : FileSystem) : (visits : List Visit) → (status : ℕ) → (is_empty : Bool) → (now : FileSystem) → Type 0 where
  none_yet : {visits : List Visit} {status : ℕ} {is_empty : Bool} {now : FileSystem} → visits ≡ [] → status ≡ DONE → is_empty ≡ true → now ≡ start → Chain h output part task start visits status is_empty now
  and_visit : {visits : List Visit} {status : ℕ} {is_empty : Bool} {now : FileSystem} (earlier : List Visit) (v : Visit) (greatest : ℕ) (was_empty : Bool) (mid : FileSystem) (fate : Fate) → Chain h output part task start earlier greatest was_empty mid
      → VisitedAs h output part task start.now v mid fate now → visits ≡ earlier ++ v ∷ [] → status ≡ max greatest (told.status fate) → is_empty ≡ false → Chain h output part task start visits status is_empty now

-- ---- two runs

no_pair : {A : Type 0} (Pair : Visit → Visit → Type 0) (others : List Visit) (w : Visit) → InPairs Pair [] (others ++ w ∷ []) → A
no_pair Pair [] w pairs = absurd pairs
no_pair Pair (x ∷ others) w pairs = absurd pairs

no_pair_back : {A : Type 0} (Pair : Visit → Visit → Type 0) (visits : List Visit) (v : Visit) → InPairs Pair (visits ++ v ∷ []) [] → A
no_pair_back Pair [] v pairs = absurd pairs
no_pair_back Pair (x ∷ visits) v pairs = absurd pairs

last_pair : (Pair : Visit → Visit → Type 0) (visits others : List Visit) (v w : Visit) → InPairs Pair (visits ++ v ∷ []) (others ++ w ∷ []) → InPairs Pair visits others × Pair v w
last_pair Pair [] [] v w pairs = (tt, pairs.0)
last_pair Pair [] (y ∷ others) v w pairs = no_pair Pair others w pairs.1
last_pair Pair (x ∷ visits) [] v w pairs = no_pair_back Pair visits v pairs.1
last_pair Pair (x ∷ visits) (y ∷ others) v w pairs = let more = last_pair Pair visits others v w pairs.1 in ((pairs.0, more.0), more.1)

pub record ChainsAlike {I O : Type 0} (h : Host I O) (output : List ℕ) (status again : ℕ) (one other : Bool) (s u : FileSystem) : Type 0 where
  pub status_is : status ≡ again
  pub empty_is : one ≡ other
  pub same : SameOutputs h output s.now u.now

pairs_as : (Pair : Visit → Visit → Type 0) (visits others x y : List Visit) → visits ≡ x → others ≡ y → InPairs Pair visits others → InPairs Pair x y
pairs_as Pair visits others x y is at pairs = subst (λ (z : List Visit). InPairs Pair z y) is (subst (λ (z : List Visit). InPairs Pair visits z) at pairs)

same_max : (a b : ℕ) (f g : Fate) → a ≡ b → f ≡ g → max a (told.status f) ≡ max b (told.status g)
same_max a b f g is at = ap (λ (x : ℕ). max x (told.status f)) is ∙ ap (λ (x : Fate). max b (told.status x)) at

pair_alike : {I O : Type 0} (h : Host I O) (output part : List ℕ) (task : Task) (one other : Tree) (v w : Visit) (s u : FileSystem) (f g : Fate) (x y : FileSystem) → IsOfOutput output part → IsPair h task one other v w → SameOutputs h output s.now u.now → x.unremoved ≡ false → y.unremoved ≡ false
    → VisitedAs h output part task one v s f x → VisitedAs h output part task other w u g y → BecomeAlike h output f g x y
pair_alike h output part task one other v w s u f g x y of_output pair same gone too first second =
    becomes_once h output part of_output pair.mode pair.end s u f g x y same (first.becomes gone pair.mode pair.end pair.first_mode pair.first pair.fits) (second.becomes too pair.mode pair.end pair.second_mode pair.second pair.fits)

pub chains_alike : {I O : Type 0} (h : Host I O) (output part : List ℕ) (task : Task) (before start : FileSystem) → IsOfOutput output part → SameOutputs h output before.now start.now → (visits others : List Visit) (status again : ℕ) (one other : Bool) (s u : FileSystem) → s.unremoved ≡ false → u.unremoved ≡ false
    → InPairs (IsPair h task before.now start.now) visits others → Chain h output part task before visits status one s → Chain h output part task start others again other u → ChainsAlike h output status again one other s u
chains_alike h output part task before start of_output same visits others status again one other s u gone too pairs (none_yet lacks is e at) (none_yet none k f back) = record {
  status_is = is ∙ sym k;
  empty_is = e ∙ sym f;
  same = subst (λ (x : FileSystem). SameOutputs h output x.now u.now) (sym at) (subst (λ (x : FileSystem). SameOutputs h output before.now x.now) (sym back) same);
}
chains_alike h output part task before start of_output same visits others status again one other s u gone too pairs (none_yet lacks is e at) (and_visit earlier w greatest empty mid fate chain visited more k f) =
    no_pair (IsPair h task before.now start.now) earlier w (pairs_as (IsPair h task before.now start.now) visits others [] (earlier ++ w ∷ []) lacks more pairs)
chains_alike h output part task before start of_output same visits others status again one other s u gone too pairs (and_visit earlier v greatest empty mid fate chain visited more is e) (none_yet none k f back) =
    no_pair_back (IsPair h task before.now start.now) earlier v (pairs_as (IsPair h task before.now start.now) visits others (earlier ++ v ∷ []) [] more none pairs)
chains_alike h output part task before start of_output same visits others status again one other s u gone too pairs (and_visit earlier v greatest empty mid fate chain visited more is e) (and_visit first w most none between end links seen then k f) =
    let last = last_pair (IsPair h task before.now start.now) earlier first v w (pairs_as (IsPair h task before.now start.now) visits others (earlier ++ v ∷ []) (first ++ w ∷ []) more then pairs) in
    let known : ChainsAlike h output greatest most empty none mid between =
    chains_alike h output part task before start of_output same earlier first greatest most empty none mid between (visited.before_too gone) (seen.before_too too) last.0 chain links in
    let alike : BecomeAlike h output fate end s u = pair_alike h output part task before.now start.now v w mid between fate end s u of_output last.1 known.same gone too visited seen in
    record { status_is = is ∙ same_max greatest most fate end known.status_is alike.fate ∙ sym k; empty_is = e ∙ sym f; same = alike.same }

-- ---- one name

one_becomes : {I O F E : Type 0} (h : Host I O) (r : Reader I) (w : Writer O) (e : Writer E) (m : Manner) (v : Visit) (mode : ℕ) (end : FileEnd) (from : E) (s : FileSystem) (done : Done) (to : E) (after : FileSystem) → TellsAll h w → m.keeps_names ≡ false → IsUtf8 m.part → at_path h s.now m.part ≡ None → FollowsLinks h s.now
    → Fits end → v.what ≡ File mode → IsFileThatEnds h m.task s.now v end → after.unremoved ≡ false → DoesName (working {F = F} h r w e) m v.named v.what from s (Ok done) to after → Becomes h m.output m.part mode s done.fate after end
one_becomes {I} {O} {F} h r w e m v mode end from s done to after tells by text none follows fits is file gone does =
    becomes {F = F} h r w e m v.named v.what mode end from s done to after (whole_gives h r w tells) text by none follows fits is file.it.no_index file.it.text file.it.file file.ends gone does

pub same_becomes : {I O F E : Type 0} (r : Reader I) (w : Writer O) (e : Writer E) → SameBecomes F r w e
same_becomes {I} {O} {F} r w e h m v k from to before after done from_other to_other start end other tells by text of_output none lacks follows leads pair does does_too gone too same =
    let alike : BecomeAlike h m.output done.fate other.fate after end =
    becomes_once h m.output m.part of_output pair.mode pair.end before start done.fate other.fate after end same
    (one_becomes {F = F} h r w e m v pair.mode pair.end from before done to after tells by text none follows pair.fits pair.first_mode pair.first gone does)
    (one_becomes {F = F} h r w e m k pair.mode pair.end from_other start other to_other end tells by text lacks leads pair.fits pair.second_mode pair.second too does_too) in
    (alike.same, sym alike.fate)

-- ---- one run

-- how its names are done
record Goes {I O : Type 0} (h : Host I O) (w : Writer O) (start : Tree) (k : Manner) : Type 0 where
  of_output : IsNear k.output k.part
  tells : TellsAll h w
  by : k.keeps_names ≡ false
  text : IsUtf8 k.part
  none : at_path h start k.part ≡ None
  follows : FollowsLinks h start

follows_still : {I O : Type 0} (h : Host I O) (part : List ℕ) (start now : Tree) → at_path h start part ≡ None → Still h part start now → FollowsLinks h start → FollowsLinks h now
follows_still h part start now none still follows =
    λ path no_other. follows path (λ f at. no_other f (still.there (place_of h path) f (apart_by start (place_of h path) (place_of h part) f none at) at))

file_still : {I O : Type 0} (h : Host I O) (part path : List ℕ) (start now : Tree) → at_path h start part ≡ None → Still h part start now → FileAt h Followed start path → FileAt h Followed now path
file_still h part path start now none still f = record {
  file = f.file;
  is = still.there (h.leads Followed path) f.file (apart_by start (h.leads Followed path) (place_of h part) f.file none f.is) f.is;
  kind = f.kind;
}

visited : {I O F E : Type 0} (h : Host I O) (r : Reader I) (w : Writer O) (e : Writer E) (k : Manner) (n : Named) (what : What) (start : Tree) (from : E) (before : FileSystem) (done : Done) (to : E) (after : FileSystem) → Goes h w start k → Still h k.part start before.now
    → (before.unremoved ≡ false → at_path h before.now k.part ≡ None) → LeavesPart h k.part before after → DoesName (working {F = F} h r w e) k n what from before (Ok done) to after → VisitedAs h k.output k.part k.task start (visit_of n what) before done.fate after
unfolding file_still
visited {I} {O} {F} h r w e k n what start from before done to after goes still nothing part does = record {
  before_too = λ gone. (part gone).0;
  becomes = λ gone mode end is file fits.
      becomes {F = F} h r w e k n what mode end from before done to after (whole_gives h r w goes.tells) goes.text goes.by (nothing (part gone).0) (follows_still h k.part start before.now goes.none still goes.follows) fits is file.it.no_index file.it.text
      (file_still h k.part n.path start before.now goes.none still file.it.file)
      (subst (λ (b : List ℕ). EndsAs k.task b end) (sym (still.bytes (h.leads Followed n.path) file.it.file.file (apart_by start (h.leads Followed n.path) (place_of h k.part) file.it.file.file goes.none file.it.file.is) file.it.file.is)) file.ends) gone does;
}

and_visited : {I O F W E : Type 0} (h : Host I O) (r : Reader I) (w : Writer O) (e : Writer E) (m : Writer W) (shared : Shared) (start : FileSystem) (from : Progress W) (told_before : E) (before : FileSystem) (n : Named) (what : What) (result : Result (Unit {0}) Stopped) (to : Progress W) (told : E) (after : FileSystem)
    → (earlier visits : List Visit) → visits ≡ earlier ++ visit_of n what ∷ [] → is_of shared.part.number shared.part.count n.relative ≡ true
    → ((done : Done) (mid : E) → DoesName (working {F = F} h r w e) (manner_of shared.manner) n what told_before before (Ok done) mid after → VisitedAs h (manner_of shared.manner).output (manner_of shared.manner).part (manner_of shared.manner).task start.now (visit_of n what) before done.fate after)
    → VisitsName (working {F = F} h r w e) m shared from told_before before n what result to told after → to.stop ≡ None
    → (from.stop ≡ None → Chain h (manner_of shared.manner).output (manner_of shared.manner).part (manner_of shared.manner).task start earlier from.status from.is_empty before)
    → Chain h (manner_of shared.manner).output (manner_of shared.manner).part (manner_of shared.manner).task start visits to.status to.is_empty after
and_visited h r w e m shared start from told_before before n what result to told after earlier visits more share make (spec.of_another none is t same ok) stop had = true_false (is_of shared.part.number shared.part.count n.relative) share none
and_visited h r w e m shared start from told_before before n what result to told after earlier visits more share make (spec.was_done done mid own does (spec.has_row manifest puts reports is ok)) stop had =
    and_visit earlier (visit_of n what) from.status from.is_empty before done.fate (had (sym (ap (λ p. p.stop) is) ∙ stop)) (make done mid does) more (ap (λ p. p.status) is) (ap (λ p. p.is_empty) is)
and_visited h r w e m shared start from told_before before n what result to told after earlier visits more share make (spec.was_done done mid own does (spec.no_row manifest failure s puts t is ok)) stop had =
    absurd (no_stop to.stop _ (ap (λ p. p.stop) is) stop)
and_visited h r w e m shared start from told_before before n what result to told after earlier visits more share make (spec.ends_run p s own does is ok) stop had = absurd (no_stop to.stop _ (ap (λ q. q.stop) is) stop)

-- what is so after each of them, by what they share
record Kept {I O : Type 0} (h : Host I O) (w : Writer O) (start : FileSystem) (visits : List Visit) (stop : Option Stop) (status : ℕ) (is_empty : Bool) (s : FileSystem) (shared : Shared) : Type 0 where
  goes : Goes h w start.now (manner_of shared.manner)
  all : (relative : List ℕ) → is_of shared.part.number shared.part.count relative ≡ true
  still : Still h (manner_of shared.manner).part start.now s.now
  nothing : s.unremoved ≡ false → at_path h s.now (manner_of shared.manner).part ≡ None
  chain : stop ≡ None → Chain h (manner_of shared.manner).output (manner_of shared.manner).part (manner_of shared.manner).task start visits status is_empty s

record Good {I O W E : Type 0} (h : Host I O) (w : Writer O) (start : FileSystem) (shared : Shared) (x : (Work W × E) × List Visit) (s : FileSystem) : Type 0 where
  shares : x.0.0.shared ≡ shared
  quiet : s.written ≡ None
  kept : Kept h w start x.1 x.0.0.stop x.0.0.status x.0.0.is_empty s shared

abbrev StaysGood : {I O W E : Type 0} → Host I O → Writer O → FileSystem → Shared → ((Work W × E) × List Visit) → FileSystem → ((Work W × E) × List Visit) → FileSystem → Type 0
StaysGood h w start shared a s b t = Good h w start shared a s → Good h w start shared b t

closed : {I O W E : Type 0} (h : Host I O) (w : Writer O) (start : FileSystem) (shared : Shared) → IsClosed IsSame (StaysGood {W = W} {E = E} h w start shared)
closed h w start shared = record {
  none = λ v s t e good. subst (Good h w start shared v) (sym e) good;
  still = λ v s t e good. subst (Good h w start shared v) (sym e) good;
  then = λ a b c s t u first second good. second (first good);
}

visits_good : {I O F W E : Type 0} (h : Host I O) (start : FileSystem) (r : Reader I) (w : Writer O) (e : Writer E) (m : Writer W) (shared : Shared) → VisitsDo (StaysGood h w start shared) (noted (visits_of (working {F = F} h r w e) m))
visits_good {I} {O} {F} {W} {E} h start r w e m shared from before n what result to after v good =
    let here : Shared = from.0.0.shared in
    let k : Manner = manner_of here.manner in
    let kept : Kept h w start from.1 from.0.0.stop from.0.0.status from.0.0.is_empty before here = subst (Kept h w start from.1 from.0.0.stop from.0.0.status from.0.0.is_empty before) (sym good.shares) good.kept in
    let over_it : VisitsName (over {F = F} h (as_whole h r) w e) m here _ from.0.1 before n what result _ to.0.1 after = over_visit {F = F} h r w e m here _ from.0.1 before n what result _ to.0.1 after v.0.0 in
    let left : Leaves h k.part k.output before after = leaves h (IsOutput h (as_whole h r) w) k.part k.output before after good.quiet kept.goes.of_output (visit_name {F = F} h (as_whole h r) w e m here _ from.0.1 before n what result _ to.0.1 after over_it) in
    let part : LeavesPart h k.part before after = visit_leaves {F = F} h (as_whole h r) w e m here _ from.0.1 before n what result _ to.0.1 after good.quiet kept.goes.of_output over_it in
    let then : Kept h w start to.1 to.0.0.stop to.0.0.status to.0.0.is_empty after here = record {
      goes = kept.goes;
      all = kept.all;
      still = then_stays h k.part k.output start.now before.now after.now kept.still left.stays;
      nothing = λ gone. (part gone).1 ∙ kept.nothing (part gone).0;
      chain = λ stop. and_visited {F = F} h r w e m here start _ from.0.1 before n what result _ to.0.1 after from.1 to.1 v.1 (kept.all n.relative)
          (λ done mid does. visited {F = F} h r w e k n what start.now from.0.1 before done mid after kept.goes kept.still kept.nothing part does) v.0.0 stop kept.chain;
    } in
    record { shares = v.0.1 ∙ good.shares; quiet = left.none; kept = subst (Kept h w start to.1 to.0.0.stop to.0.0.status to.0.0.is_empty after) good.shares then }

all_shares : (run : TreeRun) (part : List ℕ) (shared : Shared) → Shares run part shared → run.options.part.number ≡ 1 → run.options.part.count ≡ 1 → (relative : List ℕ) → is_of shared.part.number shared.part.count relative ≡ true
all_shares run part shared shares number count relative =
    ap (λ (n : ℕ). is_of n shared.part.count relative) (ap (λ p. p.number) shares.part_is ∙ number) ∙ ap (λ (n : ℕ). is_of 1 n relative) (ap (λ p. p.count) shares.part_is ∙ count) ∙ of_one relative

goes_by : {I O : Type 0} (h : Host I O) (w : Writer O) (start : Tree) (run : TreeRun) (part : List ℕ) (shared : Shared) → Shares run part shared → part ≡ part_path run → TellsAll h w → run.options.keeps_names ≡ false → IsUtf8 (part_path run) → at_path h start (part_path run) ≡ None → FollowsLinks h start
    → Goes h w start (manner_of shared.manner)
goes_by h w start run part shared shares is tells by text none follows = subst (Goes h w start) (sym shares.manner) (record {
  of_output = part_of_output run part is;
  tells = tells;
  by = by;
  text = subst IsUtf8 (sym is) text;
  none = subst (λ (p : List ℕ). at_path h start p ≡ None) (sym is) none;
  follows = follows;
})

first : {I O W E : Type 0} (h : Host I O) (w : Writer O) (headed : W) (start : Work W) (from : E) (before : FileSystem) → before.written ≡ None → progress start ≡ nothing_done headed → Goes h w before.now (manner_of start.shared.manner)
    → ((relative : List ℕ) → is_of start.shared.part.number start.shared.part.count relative ≡ true) → Good h w before start.shared ((start, from), []) before
first h w headed start from before quiet nothing goes all = record {
  shares = refl;
  quiet = quiet;
  kept = record {
    goes = goes;
    all = all;
    still = record { there = λ place f apart x. x; bytes = λ place f apart x. refl };
    nothing = λ gone. goes.none;
    chain = λ stop. none_yet refl (ap (λ p. p.status) nothing) (ap (λ p. p.is_empty) nothing) refl;
  };
}

-- its visits, and its status by the greatest one
record RunChain {I O : Type 0} (h : Host I O) (run : TreeRun) (before : FileSystem) (visits : List Visit) (status : ℕ) (after : FileSystem) : Type 0 where
  greatest : ℕ
  is_empty : Bool
  chain : Chain h run.output.now (part_path run) (task_of run.task) before visits greatest is_empty after
  status_is : status ≡ max (end_status run_ends.Whole is_empty) greatest

chain_by : {I O W E : Type 0} (h : Host I O) (w : Writer O) (run : TreeRun) (part : List ℕ) (shared : Shared) (before : FileSystem) (last : Work W) (told_last : E) (visits : List Visit) (status : ℕ) (after : FileSystem) → Shares run part shared → part ≡ part_path run → last.stop ≡ None
    → Good h w before shared ((last, told_last), visits) after → status ≡ max (end_status run_ends.Whole last.is_empty) last.status → RunChain h run before visits status after
chain_by h w run part shared before last told_last visits status after shares is stop good status_is =
    let chain : Chain h run.output.now part (task_of run.task) before visits last.status last.is_empty after =
    subst (λ (k : Manner). Chain h k.output k.part k.task before visits last.status last.is_empty after) shares.manner (good.kept.chain stop) in
    record {
      greatest = last.status;
      is_empty = last.is_empty;
      chain = subst (λ (p : List ℕ). Chain h run.output.now p (task_of run.task) before visits last.status last.is_empty after) is chain;
      status_is = status_is;
    }

begin : {I O W E : Type 0} (h : Host I O) (w : Writer O) (run : TreeRun) (begun : Begun) (headed : W) (start : Work W) (from : E) (stop : Option Stop) (before after : FileSystem) → TellsAll h w → progress start ≡ nothing_done headed → Shares run begun.part.items start.shared → IsWholeRun h run begun stop before after
    → Good h w before start.shared ((start, from), []) before
begin h w run begun headed start from stop before after tells nothing shares x =
    first h w headed start from before x.quiet nothing (goes_by h w before.now run begun.part.items start.shared shares x.part tells x.by_instance x.text x.nothing x.follows) (all_shares run begun.part.items start.shared shares x.number x.count)

folder_chain : {I O F W E : Type 0} (h : Host I O) (r : Reader I) (w : Writer O) (m : Writer W) (e : Writer E) (run : TreeRun) (before : FileSystem) (visits : List Visit) (status : ℕ) (after : FileSystem) → TellsAll h w → RunsOverFolder F h r w m e run before visits status after
    → RunChain h run before visits status after
folder_chain {I} {O} {F} {W} {E} h r w m e run before visits status after tells x =
    let v = x.v in
    let shared : Shared = v.start.shared in
    let good : Good h w before shared ((v.last, v.told), visits) after =
    walks_do (calls_of F h) (only_quiet (calls_of F h) (calls_quiet F h)) (StaysGood h w before shared) (closed h w before shared) (noted (visits_of (working {F = F} h r w e) m)) (visits_good {F = F} h before r w e m shared) x.path x.begun.number x.opened ((v.start, x.from), []) before v.walked
    ((v.last, v.told), visits) after x.walks (begin h w run x.begun x.headed v.start x.from v.last.stop before after tells v.begins.nothing v.begins.shares x.is_whole) in
    chain_by h w run x.begun.part.items shared before v.last v.told visits status after v.begins.shares x.is_whole.part x.is_whole.no_stop good
    (v.ends.status_is ∙ ap (λ z. max (end_status (end_of (as_list z) v.last.stop) v.last.is_empty) v.last.status) x.whole)

list_chain : {I O F W E : Type 0} (h : Host I O) (r : Reader I) (w : Writer O) (m : Writer W) (e : Writer E) (run : TreeRun) (before : FileSystem) (visits : List Visit) (status : ℕ) (after : FileSystem) → TellsAll h w → RunsOverList F h r w m e run before visits status after
    → RunChain h run before visits status after
list_chain {I} {O} {F} {W} {E} h r w m e run before visits status after tells x =
    let v = x.v in
    let shared : Shared = v.start.shared in
    let good : Good h w before shared ((v.last, v.told), visits) after =
    lines_do (calls_of F h) (only_quiet (calls_of F h) (calls_quiet F h)) (StaysGood h w before shared) (closed h w before shared) (noted (visits_of (working {F = F} h r w e) m)) (visits_good {F = F} h before r w e m shared) (as_whole h r).gets x.begun.number ((v.start, x.from), []) before x.input v.walked
    ((v.last, v.told), visits) after x.read x.walks (begin h w run x.begun x.headed v.start x.from v.last.stop before after tells v.begins.nothing v.begins.shares x.is_whole) in
    chain_by h w run x.begun.part.items shared before v.last v.told visits status after v.begins.shares x.is_whole.part x.is_whole.no_stop good
    (v.ends.status_is ∙ ap (λ z. max (end_status (end_of z v.last.stop) v.last.is_empty) v.last.status) x.whole)

run_chain : {I O F W E : Type 0} (h : Host I O) (r : Reader I) (w : Writer O) (m : Writer W) (e : Writer E) (run : TreeRun) (before : FileSystem) (visits : List Visit) (status : ℕ) (after : FileSystem) → TellsAll h w → RunsOver F h r w m e run before visits status after
    → RunChain h run before visits status after
run_chain {I} {O} {F} h r w m e run before visits status after tells (of_folder x) = folder_chain {F = F} h r w m e run before visits status after tells x
run_chain {I} {O} {F} h r w m e run before visits status after tells (of_list x) = list_chain {F = F} h r w m e run before visits status after tells x

-- what both say of the run
record IsAll {I O : Type 0} (h : Host I O) (run : TreeRun) (after : FileSystem) : Type 0 where
  removed : after.unremoved ≡ false
  number : run.options.part.number ≡ 1

is_all : {I O F W E : Type 0} (h : Host I O) (r : Reader I) (w : Writer O) (m : Writer W) (e : Writer E) (run : TreeRun) (before : FileSystem) (visits : List Visit) (status : ℕ) (after : FileSystem) → RunsOver F h r w m e run before visits status after → IsAll h run after
is_all h r w m e run before visits status after (of_folder x) = record { removed = x.is_whole.removed; number = x.is_whole.number }
is_all h r w m e run before visits status after (of_list x) = record { removed = x.is_whole.removed; number = x.is_whole.number }

-- ---- the law

same_part : (first second : TreeRun) → second.output.now ≡ first.output.now → first.options.part.number ≡ 1 → second.options.part.number ≡ 1 → part_path second ≡ part_path first
same_part first second output one other = ap (λ (o : List ℕ). below o (part_name second.options.part.number)) output ∙ ap (λ (n : ℕ). below first.output.now (part_name n)) (other ∙ sym one)

as_first : {I O : Type 0} (h : Host I O) (output part other_output other_part : List ℕ) (task other : Task) (start : FileSystem) (visits : List Visit) (status : ℕ) (is_empty : Bool) (now : FileSystem) → other_output ≡ output → other_part ≡ part → other ≡ task
    → Chain h other_output other_part other start visits status is_empty now → Chain h output part task start visits status is_empty now
as_first h output part other_output other_part task other start visits status is_empty now is at of_task chain =
    subst (λ (o : List ℕ). Chain h o part task start visits status is_empty now) is (subst (λ (p : List ℕ). Chain h other_output p task start visits status is_empty now) at (subst (λ (t : Task). Chain h other_output other_part t start visits status is_empty now) of_task chain))

same_status : (a b : Bool) (n k : ℕ) → a ≡ b → n ≡ k → max (end_status run_ends.Whole b) k ≡ max (end_status run_ends.Whole a) n
same_status a b n k is at = ap (λ (x : Bool). max (end_status run_ends.Whole x) k) (sym is) ∙ ap (λ (x : ℕ). max (end_status run_ends.Whole a) x) (sym at)

pub leave_the_same : {I O F W E : Type 0} (r : Reader I) (w : Writer O) (m : Writer W) (e : Writer E) → NoNameFlows F r w m e
leave_the_same {I} {O} {F} {W} {E} r w m e h first second before start after end visits others status again tells task output x y pairs same =
    let one : RunChain h first before visits status after = run_chain {F = F} h r w m e first before visits status after tells x in
    let other : RunChain h second start others again end = run_chain {F = F} h r w m e second start others again end tells y in
    let x_all : IsAll h first after = is_all {F = F} h r w m e first before visits status after x in
    let y_all : IsAll h second end = is_all {F = F} h r w m e second start others again end y in
    let chain : Chain h first.output.now (part_path first) (task_of first.task) start others other.greatest other.is_empty end =
    as_first h first.output.now (part_path first) second.output.now (part_path second) (task_of first.task) (task_of second.task) start others other.greatest other.is_empty end output (same_part first second output x_all.number y_all.number) task other.chain in
    let alike : ChainsAlike h first.output.now one.greatest other.greatest one.is_empty other.is_empty after end =
    chains_alike h first.output.now (part_path first) (task_of first.task) before start (part_is_within first.output.now (part_path first) first.options.part.number refl) same visits others one.greatest other.greatest one.is_empty other.is_empty after end x_all.removed y_all.removed pairs one.chain chain in
    (alike.same, other.status_is ∙ same_status one.is_empty other.is_empty one.greatest other.greatest alike.empty_is alike.status_is ∙ sym one.status_is)
