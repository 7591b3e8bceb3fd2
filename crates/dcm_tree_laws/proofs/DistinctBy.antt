-- Each output that was written is new, and at a place of its own.
use Rattle.std.proofs.Common.{◌≡◌, ◌∙◌, refl, sym, ap, subst, ℕ, List, [], ◌∷◌, ◌++◌, Bool, true, false, Option, Some, None, Result, Ok}
use Rattle.std.specs.Prelude.{◌≢◌}
use Rattle.std.specs.Io.KnownBytes.{append_known}
use Rattle.dcm_lemmas.proofs.Options.{none_or_some}
use Rattle.dcm_devices.specs.Writing.{Writer}
use Rattle.dcm_files.specs.declared.folders.Found.{Found}
use Rattle.dcm_tree_laws.proofs.MadeWay.{none_apart}
use Rattle.dcm_walk.specs.Names.{below}
use Rattle.dcm_walk.specs.Visits.{Named}
use Rattle.dcm_walk.specs.declared.visitor.Stopped.{Stopped}
use Rattle.dcm_walk.specs.declared.visitor.What.{What}
use Rattle.dcm_cli.specs.Calls.{Reader}
use Rattle.dcm_trees.specs.declared.file.Done.{Done}
use Rattle.dcm_trees.specs.declared.progress.Shared.{Shared}
use Rattle.dcm_trees.specs.declared.progress.Stop.{Stop}
use Rattle.dcm_trees.specs.declared.progress.Work.{Work}
use Rattle.dcm_trees.specs.Fate.{is_written, word}
use Rattle.dcm_trees.specs.File.{DoesName}
use Rattle.dcm_trees.specs.Manner.{Manner, manner_of}
use Rattle.dcm_trees.specs.Work as spec
use Rattle.dcm_trees.specs.Work.{Progress, VisitsName, row, output_of, name_in, visits_of}
use Rattle.dcm_tree_laws.specs.Distinct.{WasNew, name_if, outputs_of, IsElsewhere, AreApart, OutputsAreDistinct, OutputsAreDistinctOfList}
use Rattle.dcm_tree_laws.specs.FileSystem.{FileSystem, Tree, Host, place_of, at_path, folders_do}
use Rattle.dcm_tree_laws.specs.Laws.{IsOutput, over}
use Rattle.dcm_tree_laws.specs.OneRow.{RowsOf, no_visit, of_another, and_row}
use Rattle.dcm_tree_laws.specs.Outputs.{HasOutput}
use Rattle.dcm_tree_laws.specs.Rows.{Visit, noted}
use Rattle.dcm_tree_laws.proofs.Near.{IsNear, Stays}
use Rattle.dcm_tree_laws.proofs.Given.{NewOutput}
use Rattle.dcm_tree_laws.proofs.Lists.{lines_do}
use Rattle.dcm_tree_laws.proofs.Noted.{walk_noted, list_noted}
use Rattle.dcm_tree_laws.proofs.OutputsBy.{Leaves, leaves, Still, then_stays, stays_out, manner_of_output}
use Rattle.dcm_tree_laws.proofs.Quiet.{are_quiet, only_quiet, IsClosed, IsSame}
use Rattle.dcm_tree_laws.proofs.RowsBy.{visit_of, went_out, one_more, no_manifest, no_stop, same_manifest}
use Rattle.dcm_tree_laws.proofs.Runs.{visit_name}
use Rattle.dcm_tree_laws.proofs.Steps.{no_step}
use Rattle.dcm_tree_laws.proofs.Walks.{VisitsDo, walks_do}
use Rattle.dcm_tree_laws.proofs.Filling.{always_gives}
use Rattle.dcm_tree_laws.proofs.WrittenBy.{name_out}

-- ---- the outputs so far

-- each of them is there
abbrev AreThere : {I O : Type 0} → Host I O → (IsWhole : ℕ → List ℕ → Type 0) → (part output : List ℕ) → Tree → List (List ℕ) → Type 0
AreThere h IsWhole part output t [] = Unit {0}
AreThere h IsWhole part output t (name ∷ names) = HasOutput h IsWhole part (below output name) t × AreThere h IsWhole part output t names

they_stay : {I O : Type 0} (h : Host I O) (IsWhole : ℕ → List ℕ → Type 0) (part output : List ℕ) (t u : Tree) (names : List (List ℕ)) → Stays h part output t u → AreThere h IsWhole part output t names → AreThere h IsWhole part output u names
they_stay h IsWhole part output t u [] stays there = tt
they_stay h IsWhole part output t u (name ∷ names) stays there = (stays_out h IsWhole part output (below output name) t u stays there.0, they_stay h IsWhole part output t u names stays there.1)

is_elsewhere : {I O : Type 0} (h : Host I O) (IsWhole : ℕ → List ℕ → Type 0) (part output name : List ℕ) (t : Tree) (names : List (List ℕ)) → at_path h t (below output name) ≡ None → AreThere h IsWhole part output t names → IsElsewhere h output name names
is_elsewhere h IsWhole part output name t [] none there = tt
is_elsewhere h IsWhole part output name t (other ∷ names) none there =
    (none_apart t (place_of h (below output name)) (place_of h (below output other)) there.0.file none there.0.is, is_elsewhere h IsWhole part output name t names none there.1)

one_more_there : {I O : Type 0} (h : Host I O) (IsWhole : ℕ → List ℕ → Type 0) (part output name : List ℕ) (t u : Tree) (names : List (List ℕ)) (was : Bool) → (was ≡ true → NewOutput h IsWhole part output (below output name) t u) → AreThere h IsWhole part output u names
    → AreThere h IsWhole part output u (name_if was name ++ names)
one_more_there h IsWhole part output name t u names true new there = ((new refl).name.out, there)
one_more_there h IsWhole part output name t u names false new there = there

one_more_apart : {I O : Type 0} (h : Host I O) (IsWhole : ℕ → List ℕ → Type 0) (part output name : List ℕ) (t u : Tree) (names : List (List ℕ)) (was : Bool) → (was ≡ true → NewOutput h IsWhole part output (below output name) t u) → AreThere h IsWhole part output t names → AreApart h output names
    → AreApart h output (name_if was name ++ names)
one_more_apart h IsWhole part output name t u names true new there apart = (is_elsewhere h IsWhole part output name t names (new refl).name.nothing there, apart)
one_more_apart h IsWhole part output name t u names false new there apart = apart

-- ---- the rows so far

pub record HasNew {I O W : Type 0} (h : Host I O) (IsWhole : ℕ → List ℕ → Type 0) (k : Manner) (start : Tree) (m : Writer W) (shared : Shared) (headed : W) (visits : List Visit) (manifest : W) (now : Tree) : Type 0 where
  pub text : List ℕ
  pub rows : RowsOf (WasNew h k.output start) shared visits text
  pub manifest_is : m.contents manifest ≡ append_known (m.contents headed) text
  pub there : AreThere h IsWhole k.part k.output now (outputs_of rows)
  pub apart : AreApart h k.output (outputs_of rows)

-- what was new before a name was done was so at the start
since_start : {I O : Type 0} (h : Host I O) (part path : List ℕ) (start now : Tree) (was : Option Found) → start.at (place_of h path) ≡ was → Still h part start now → place_of h path ≢ place_of h part → at_path h now path ≡ None → at_path h start path ≡ None
since_start h part path start now None is still apart none = is
since_start h part path start now (Some f) is still apart none = absurd (none_or_some (at_path h now path) f none (still.there (place_of h path) f apart is))

new_since : {I O : Type 0} (h : Host I O) (IsWhole : ℕ → List ℕ → Type 0) (part output path : List ℕ) (start now after : Tree) → Still h part start now → NewOutput h IsWhole part output path now after → at_path h start path ≡ None
new_since h IsWhole part output path start now after still new = since_start h part path start now (start.at (place_of h path)) refl still new.name.out.apart new.name.nothing

visit_new : {I O F W E : Type 0} (h : Host I O) (IsWhole : ℕ → List ℕ → Type 0) (r : Reader I) (w : Writer O) (e : Writer E) (m : Writer W) (shared : Shared) (start : Tree) (headed : W) (from : Progress W) (told_before : E) (before : FileSystem) (n : Named) (what : What) (result : Result (Unit {0}) Stopped)
    (to : Progress W) (told : E) (after : FileSystem) → Still h (manner_of shared.manner).part start before.now → Stays h (manner_of shared.manner).part (manner_of shared.manner).output before.now after.now
    → ((done : Done) (mid : E) → DoesName (over {F = F} h r w e) (manner_of shared.manner) n what told_before before (Ok done) mid after → is_written done.fate ≡ true
    → NewOutput h IsWhole (manner_of shared.manner).part (manner_of shared.manner).output (below (manner_of shared.manner).output (name_in n.relative done.instance)) before.now after.now)
    → (earlier visits : List Visit) → visits ≡ earlier ++ visit_of n what ∷ [] → VisitsName (over {F = F} h r w e) m shared from told_before before n what result to told after → to.stop ≡ None
    → (from.stop ≡ None → HasNew h IsWhole (manner_of shared.manner) start m shared headed earlier from.manifest before.now) → HasNew h IsWhole (manner_of shared.manner) start m shared headed visits to.manifest after.now
visit_new h IsWhole r w e m shared start headed from told_before before n what result to told after still stays new earlier visits more (spec.of_another none is t same ok) stop had =
    let k : Manner = manner_of shared.manner in
    let x : HasNew h IsWhole k start m shared headed earlier from.manifest before.now = had (sym (ap (λ p. p.stop) is) ∙ stop) in
    record {
      text = x.text;
      rows = of_another earlier (visit_of n what) x.rows none more;
      manifest_is = same_manifest m to.manifest from.manifest headed x.text (ap (λ p. p.manifest) is) x.manifest_is;
      there = they_stay h IsWhole k.part k.output before.now after.now (outputs_of x.rows) stays x.there;
      apart = x.apart;
    }
visit_new h IsWhole r w e m shared start headed from told_before before n what result to told after still stays new earlier visits more (spec.was_done done mid share does (spec.has_row manifest puts reports is ok)) stop had =
    let k : Manner = manner_of shared.manner in
    let x : HasNew h IsWhole k start m shared headed earlier from.manifest before.now = had (sym (ap (λ p. p.stop) is) ∙ stop) in
    let text : List ℕ = row n.name (output_of n done) (word done.fate) in
    let name : List ℕ = name_in n.relative done.instance in
    record {
      text = x.text ++ text;
      rows = and_row earlier x.text (visit_of n what) done x.rows share (λ was. new_since h IsWhole k.part k.output (below k.output name) start before.now after.now still (new done mid does was)) more refl;
      manifest_is = same_manifest m to.manifest manifest headed (x.text ++ text) (ap (λ p. p.manifest) is)
          (one_more m from.manifest manifest headed x.text text (went_out m text from.manifest manifest puts) x.manifest_is);
      there = one_more_there h IsWhole k.part k.output name before.now after.now (outputs_of x.rows) (is_written done.fate) (new done mid does) (they_stay h IsWhole k.part k.output before.now after.now (outputs_of x.rows) stays x.there);
      apart = one_more_apart h IsWhole k.part k.output name before.now after.now (outputs_of x.rows) (is_written done.fate) (new done mid does) x.there x.apart;
    }
visit_new h IsWhole r w e m shared start headed from told_before before n what result to told after still stays new earlier visits more (spec.was_done done mid share does (spec.no_row manifest failure s puts t is ok)) stop had =
    absurd (no_stop to.stop _ (ap (λ p. p.stop) is) stop)
visit_new h IsWhole r w e m shared start headed from told_before before n what result to told after still stays new earlier visits more (spec.ends_run p s share does is ok) stop had = absurd (no_stop to.stop _ (ap (λ q. q.stop) is) stop)

-- ---- all names

record Good {I O W E : Type 0} (h : Host I O) (IsWhole : ℕ → List ℕ → Type 0) (start : Tree) (m : Writer W) (shared : Shared) (headed : W) (x : (Work W × E) × List Visit) (s : FileSystem) : Type 0 where
  same : x.0.0.shared ≡ shared
  none : s.written ≡ None
  still : Still h (manner_of shared.manner).part start s.now
  rows : x.0.0.stop ≡ None → HasNew h IsWhole (manner_of shared.manner) start m shared headed x.1 x.0.0.manifest s.now

abbrev StaysGood : {I O W E : Type 0} → Host I O → (ℕ → List ℕ → Type 0) → Tree → Writer W → Shared → W → ((Work W × E) × List Visit) → FileSystem → ((Work W × E) × List Visit) → FileSystem → Type 0
StaysGood h IsWhole start m shared headed a s b t = Good h IsWhole start m shared headed a s → Good h IsWhole start m shared headed b t

closed : {I O W E : Type 0} (h : Host I O) (IsWhole : ℕ → List ℕ → Type 0) (start : Tree) (m : Writer W) (shared : Shared) (headed : W) → IsClosed IsSame (StaysGood {E = E} h IsWhole start m shared headed)
closed h IsWhole start m shared headed = record {
  none = λ v s t e good. subst (Good h IsWhole start m shared headed v) (sym e) good;
  still = λ v s t e good. subst (Good h IsWhole start m shared headed v) (sym e) good;
  then = λ a b c s t u first second good. second (first good);
}

-- what is known of a name before it is done, by what it shares with the others
record Known {I O W : Type 0} (h : Host I O) (IsWhole : ℕ → List ℕ → Type 0) (start : Tree) (m : Writer W) (headed : W) (visits : List Visit) (stop : Option Stop) (manifest : W) (s : FileSystem) (shared : Shared) : Type 0 where
  of_output : IsNear (manner_of shared.manner).output (manner_of shared.manner).part
  still : Still h (manner_of shared.manner).part start s.now
  rows : stop ≡ None → HasNew h IsWhole (manner_of shared.manner) start m shared headed visits manifest s.now

visits_good : {I O F W E : Type 0} (h : Host I O) (start : Tree) (r : Reader I) (w : Writer O) (e : Writer E) (m : Writer W) (shared : Shared) (headed : W) → IsNear (manner_of shared.manner).output (manner_of shared.manner).part
    → VisitsDo (StaysGood h (IsOutput h r w) start m shared headed) (noted (visits_of (over {F = F} h r w e) m))
visits_good {I} {O} {F} {W} {E} h start r w e m shared headed of_output from before n what result to after v good =
    let here : Shared = from.0.0.shared in
    let k : Manner = manner_of here.manner in
    let known : Known h (IsOutput h r w) start m headed from.1 from.0.0.stop from.0.0.manifest before here =
    subst (Known h (IsOutput h r w) start m headed from.1 from.0.0.stop from.0.0.manifest before) (sym good.same) (record { of_output = of_output; still = good.still; rows = good.rows }) in
    let left : Leaves h k.part k.output before after = leaves h (IsOutput h r w) k.part k.output before after good.none known.of_output (visit_name {F = F} h r w e m here _ from.0.1 before n what result _ to.0.1 after v.0.0) in
    let then : Known h (IsOutput h r w) start m headed to.1 to.0.0.stop to.0.0.manifest after here = record {
      of_output = known.of_output;
      still = then_stays h k.part k.output start before.now after.now known.still left.stays;
      rows = λ stop. visit_new {F = F} h (IsOutput h r w) r w e m here start headed _ from.0.1 before n what result _ to.0.1 after known.still left.stays
          (λ done mid does was. name_out {F = F} h (IsOutput h r w) r w e k n what from.0.1 before before (Ok done) mid after done (λ mode is. always_gives h r w k.task n.path mode before)
          (record { none = good.none; of_output = known.of_output; steps = no_step refl refl }) does refl was) from.1 to.1 v.1 v.0.0 stop known.rows;
    } in
    let there : Known h (IsOutput h r w) start m headed to.1 to.0.0.stop to.0.0.manifest after shared = subst (Known h (IsOutput h r w) start m headed to.1 to.0.0.stop to.0.0.manifest after) good.same then in
    record { same = v.0.1 ∙ good.same; none = left.none; still = there.still; rows = there.rows }

first : {I O W E : Type 0} (h : Host I O) (IsWhole : ℕ → List ℕ → Type 0) (m : Writer W) (headed : W) (start : Work W) (from : E) (before : FileSystem) → before.written ≡ None → start.manifest ≡ headed
    → Good h IsWhole before.now m start.shared headed ((start, from), []) before
first h IsWhole m headed start from before none is = record {
  same = refl;
  none = none;
  still = record { there = λ place f apart at. at; bytes = λ place f apart at. refl };
  rows = λ stop. record { text = []; rows = no_visit refl refl; manifest_is = no_manifest m start.manifest headed is; there = tt; apart = tt };
}

pub outputs_are_distinct : {I O F W E : Type 0} (r : Reader I) (w : Writer O) (m : Writer W) (e : Writer E) → OutputsAreDistinct F r w m e
outputs_are_distinct {I} {O} {F} {W} {E} r w m e h run path begun opened headed from before status left to after none part v stop =
    let shared : Shared = v.start.shared in
    let walk = walk_noted (folders_do {F = F} h) (visits_of (over {F = F} h r w e) m) path begun.number opened (v.start, from) before v.walked (v.last, v.told) after v.walks [] in
    let good : Good h (IsOutput h r w) before.now m shared headed ((v.last, v.told), walk.0) after =
    walks_do (folders_do {F = F} h) (only_quiet (folders_do {F = F} h) (are_quiet h)) (StaysGood h (IsOutput h r w) before.now m shared headed) (closed h (IsOutput h r w) before.now m shared headed) (noted (visits_of (over {F = F} h r w e) m))
    (visits_good {F = F} h before.now r w e m shared headed (manner_of_output run begun.part.items shared v.begins.shares part)) path begun.number opened ((v.start, from), []) before v.walked ((v.last, v.told), walk.0) after walk.1
    (first h (IsOutput h r w) m headed v.start from before none (ap (λ p. p.manifest) v.begins.nothing)) in
    let rows : HasNew h (IsOutput h r w) _ before.now m shared headed walk.0 v.last.manifest after.now =
    subst (λ (k : Manner). HasNew h (IsOutput h r w) k before.now m shared headed walk.0 v.last.manifest after.now) v.begins.shares.manner (good.rows stop) in
    record {
      visits = walk.0;
      text = rows.text;
      walks = walk.1;
      rows = rows.rows;
      apart = rows.apart;
      manifest = same_manifest m left v.last.manifest headed rows.text v.left_is rows.manifest_is;
    }

pub distinct_in_list : {I O F W E : Type 0} (r : Reader I) (w : Writer O) (m : Writer W) (e : Writer E) → OutputsAreDistinctOfList F r w m e
distinct_in_list {I} {O} {F} {W} {E} r w m e h run list begun input headed from before status left to after read none part v stop =
    let shared : Shared = v.start.shared in
    let walk = list_noted (folders_do {F = F} h) (visits_of (over {F = F} h r w e) m) r.gets begun.number (v.start, from) before input v.walked (v.last, v.told) after read v.walks [] in
    let good : Good h (IsOutput h r w) before.now m shared headed ((v.last, v.told), walk.0) after =
    lines_do (folders_do {F = F} h) (only_quiet (folders_do {F = F} h) (are_quiet h)) (StaysGood h (IsOutput h r w) before.now m shared headed) (closed h (IsOutput h r w) before.now m shared headed) (noted (visits_of (over {F = F} h r w e) m))
    (visits_good {F = F} h before.now r w e m shared headed (manner_of_output run begun.part.items shared v.begins.shares part)) r.gets begun.number ((v.start, from), []) before input v.walked ((v.last, v.told), walk.0) after read walk.1
    (first h (IsOutput h r w) m headed v.start from before none (ap (λ p. p.manifest) v.begins.nothing)) in
    let rows : HasNew h (IsOutput h r w) _ before.now m shared headed walk.0 v.last.manifest after.now =
    subst (λ (k : Manner). HasNew h (IsOutput h r w) k before.now m shared headed walk.0 v.last.manifest after.now) v.begins.shares.manner (good.rows stop) in
    record {
      visits = walk.0;
      text = rows.text;
      walks = walk.1;
      rows = rows.rows;
      apart = rows.apart;
      manifest = same_manifest m left v.last.manifest headed rows.text v.left_is rows.manifest_is;
    }
