-- What a run wrote by its names is there for one that goes on.
use Rattle.std.proofs.Common.{◌≡◌, ◌∙◌, refl, sym, ap, subst, ℕ, ◌<◌, List, [], ◌++◌, length, true, false, None, Result, Ok, Err, arith, length-append}
use Rattle.std.specs.Prelude.{nat_le, codes}
use Rattle.std.specs.Str.{IsUtf8}
use Rattle.dcm_lemmas.proofs.Choice.{chosen_some}
use Rattle.dcm_devices.specs.Writing.{Writer}
use Rattle.dcm_tree_laws.proofs.Touched.{no_done}
use Rattle.dcm_tree_laws.proofs.VisitedBy.{inner_way}
use Rattle.dcm_walk.specs.Names.{below, PATH_LIMIT}
use Rattle.dcm_walk.specs.Visits.{Named}
use Rattle.dcm_walk.specs.declared.visitor.What.{What}
use Rattle.dcm_cli.specs.Calls.{Reader}
use Rattle.dcm_trees.specs.declared.fate.Fate.{Fate}
use Rattle.dcm_trees.specs.declared.fate.Fate.TheVariants as fates
use Rattle.dcm_trees.specs.declared.file.Done.{Done}
use Rattle.dcm_trees.specs.declared.progress.Stop.{Stop as RunStop}
use Rattle.dcm_trees.specs.declared.progress.Shared.{Shared}
use Rattle.dcm_trees.specs.declared.progress.Work.{Work}
use Rattle.dcm_trees.specs.declared.run.TreeRun.{TreeRun}
use Rattle.dcm_trees.specs.Fate.{is_written, fate_of}
use Rattle.dcm_trees.specs.File as files
use Rattle.dcm_trees.specs.File.{DoesNamed, DoesFile, DoesName, under_its_name}
use Rattle.dcm_trees.specs.Manner.{Manner, manner_of}
use Rattle.dcm_trees.specs.Run.{Shares}
use Rattle.dcm_trees.specs.Work.{name_in, visits_of}
use Rattle.dcm_tree_laws.specs.Again.{IsThere, WasMade, MadeIsThere, MadeIsThereOfList}
use Rattle.dcm_tree_laws.specs.FileSystem.{FileSystem, Tree, Host, folders_do}
use Rattle.dcm_tree_laws.specs.Laws.{IsOutput, over, part_path}
use Rattle.dcm_tree_laws.specs.Outputs.{HasOutput}
use Rattle.dcm_tree_laws.specs.Rows.{Visit, noted}
use Rattle.dcm_tree_laws.proofs.Near.{IsNear, Stays}
use Rattle.dcm_tree_laws.proofs.Given.{NewOutput}
use Rattle.dcm_tree_laws.proofs.Lists.{lines_do}
use Rattle.dcm_tree_laws.proofs.Looking.{same_ok}
use Rattle.dcm_tree_laws.proofs.MadeWay.{FolderAt, folder_stays}
use Rattle.dcm_tree_laws.proofs.Noted.{walk_noted, list_noted}
use Rattle.dcm_tree_laws.proofs.OutputsBy.{Leaves, leaves, stays_out, part_of_output}
use Rattle.dcm_tree_laws.proofs.Quiet.{are_quiet, only_quiet, IsClosed, IsSame}
use Rattle.dcm_tree_laws.proofs.RowsBy.{HasRows, visit_rows, rows_kept, no_rows, same_manifest}
use Rattle.dcm_tree_laws.proofs.Runs.{visit_name}
use Rattle.dcm_tree_laws.proofs.Steps.{no_step}
use Rattle.dcm_tree_laws.proofs.Walks.{VisitsDo, walks_do}
use Rattle.dcm_tree_laws.proofs.Filling.{always_gives}
use Rattle.dcm_tree_laws.proofs.Written.{not_written, what_not}
use Rattle.dcm_tree_laws.proofs.WrittenBy.{name_out}

-- ---- an output with its way

pub record MadeAt {I O : Type 0} (h : Host I O) (IsWhole : ℕ → List ℕ → Type 0) (part output relative : List ℕ) (t : Tree) : Type 0 where
  pub fits : nat_le (length (below output relative)) PATH_LIMIT ≡ true
  pub text : IsUtf8 (below output relative)
  pub out : HasOutput h IsWhole part (below output relative) t
  pub way : (folder behind : List ℕ) → relative ≡ below folder behind → FolderAt h part t (below output folder)

pub made_stays : {I O : Type 0} (h : Host I O) (IsWhole : ℕ → List ℕ → Type 0) (part output relative : List ℕ) (t u : Tree) → Stays h part output t u → MadeAt h IsWhole part output relative t → MadeAt h IsWhole part output relative u
made_stays h IsWhole part output relative t u stays made = record {
  fits = made.fits;
  text = made.text;
  out = stays_out h IsWhole part output (below output relative) t u stays made.out;
  way = λ folder behind is. folder_stays h part output t u (below output folder) stays (made.way folder behind is);
}

abbrev pub made_there : {I O : Type 0} (h : Host I O) (IsWhole : ℕ → List ℕ → Type 0) (part output relative : List ℕ) (t : Tree) → MadeAt h IsWhole part output relative t → IsThere h output relative t
made_there h IsWhole part output relative t made = record {
  fits = made.fits;
  file = record { text = made.text; found = made.out.file; is = made.out.is; kind_is = made.out.kind };
  way = λ folder behind is. (made.way folder behind is).at;
}

pub within_it : (output folder : List ℕ) → length output < length (below output folder)
within_it output folder = omega (arith, length-append (output ++ codes "/") folder, length-append output (codes "/"))

pub new_made : {I O : Type 0} (h : Host I O) (IsWhole : ℕ → List ℕ → Type 0) (part output relative : List ℕ) (t u : Tree) → nat_le (length (below output relative)) PATH_LIMIT ≡ true → NewOutput h IsWhole part output (below output relative) t u
    → MadeAt h IsWhole part output relative u
new_made h IsWhole part output relative t u fits new = record {
  fits = fits;
  text = new.name.text;
  out = new.name.out;
  way = λ folder behind is. new.way (below output folder) behind (inner_way output relative folder behind is) (within_it output folder);
}

-- ---- a name that was written by itself

pub record ByName (m : Manner) (n : Named) (done : Done) : Type 0 where
  pub its : done.instance ≡ None
  fits : nat_le (length (below m.output n.relative)) PATH_LIMIT ≡ true

of_fate : {A : Type 0} (result : Result Done RunStop) (fate : Fate) (done : Done) → result ≡ under_its_name (Ok fate) → result ≡ Ok done → is_written fate ≡ false → is_written done.fate ≡ true → A
of_fate result fate done is ok not written = not_written done.fate fate (ap (λ (d : Done). d.fate) (same_ok result (record { fate = fate; instance = None }) done is ok)) not written

pub its_own : (became : Result Fate RunStop) (result : Result Done RunStop) (done : Done) → result ≡ under_its_name became → result ≡ Ok done → done.instance ≡ None
its_own (Ok fate) result done is ok = ap (λ (d : Done). d.instance) (same_ok result (record { fate = fate; instance = None }) done is ok)
its_own (Err p) result done is ok = absurd (no_done result p done is ok)

file_by : {I O F E : Type 0} (h : Host I O) (r : Reader I) (w : Writer O) (e : Writer E) (m : Manner) (n : Named) (mode : ℕ) (from : E) (before : FileSystem) (result : Result Done RunStop) (to : E) (after : FileSystem) (done : Done) → m.keeps_names ≡ true
    → DoesFile (over {F = F} h r w e) m n mode from before result to after → result ≡ Ok done → is_written done.fate ≡ true → ByName m n done
file_by h r w e m n mode from before result to after done keeps (files.an_index index told is same) ok written = of_fate result fates.MediaIndex done is ok refl written
file_by h r w e m n mode from before result to after done keeps (files.by_instance index not does) ok written = absurd (cc)
file_by h r w e m n mode from before result to after done keeps (files.keeps_name became index kept (files.too_long none told b same) is) ok written =
    of_fate result fates.Unwritten done (is ∙ ap under_its_name b) ok refl written
file_by h r w e m n mode from before result to after done keeps (files.keeps_name became index kept (files.placed path at does) is) ok written =
    record { its = its_own became result done is ok; fits = chosen_some (nat_le (length (below m.output n.relative)) PATH_LIMIT) (below m.output n.relative) path at }

pub name_by : {I O F E : Type 0} (h : Host I O) (r : Reader I) (w : Writer O) (e : Writer E) (m : Manner) (n : Named) (what : What) (from : E) (before : FileSystem) (result : Result Done RunStop) (to : E) (after : FileSystem) (done : Done) → m.keeps_names ≡ true
    → DoesName (over {F = F} h r w e) m n what from before result to after → result ≡ Ok done → is_written done.fate ≡ true → ByName m n done
name_by {I} {O} {F} h r w e m n what from before result to after done keeps (files.a_file mode is does) ok written = file_by {F = F} h r w e m n mode from before result to after done keeps does ok written
name_by h r w e m n what from before result to after done keeps (files.no_file other told is same) ok written = of_fate result (fate_of what) done is ok (what_not what) written

pub name_made : {I O F E : Type 0} (h : Host I O) (r : Reader I) (w : Writer O) (e : Writer E) (m : Manner) (n : Named) (what : What) (from : E) (before : FileSystem) (to : E) (after : FileSystem) (done : Done) → m.keeps_names ≡ true → before.written ≡ None → IsNear m.output m.part
    → DoesName (over {F = F} h r w e) m n what from before (Ok done) to after → is_written done.fate ≡ true → MadeAt h (IsOutput h r w) m.part m.output n.relative after.now
name_made {I} {O} {F} h r w e m n what from before to after done keeps none of_output does written =
    let by : ByName m n done = name_by {F = F} h r w e m n what from before (Ok done) to after done keeps does refl written in
    new_made h (IsOutput h r w) m.part m.output n.relative before.now after.now by.fits
    (subst (λ (i : _). NewOutput h (IsOutput h r w) m.part m.output (below m.output (name_in n.relative i)) before.now after.now) by.its
    (name_out {F = F} h (IsOutput h r w) r w e m n what from before before (Ok done) to after done (λ mode is. always_gives h r w m.task n.path mode before) (record { none = none; of_output = of_output; steps = no_step refl refl }) does refl written))

-- ---- all names

abbrev Made : {I O : Type 0} → Host I O → (ℕ → List ℕ → Type 0) → Manner → Tree → Visit → Done → Type 0
Made h IsWhole m now v done = is_written done.fate ≡ true → MadeAt h IsWhole m.part m.output v.named.relative now

-- how they are done
record Goes (k : Manner) : Type 0 where
  of_output : IsNear k.output k.part
  keeps : k.keeps_names ≡ true

record Good {I O W E : Type 0} (h : Host I O) (IsWhole : ℕ → List ℕ → Type 0) (m : Writer W) (shared : Shared) (headed : W) (x : (Work W × E) × List Visit) (s : FileSystem) : Type 0 where
  same : x.0.0.shared ≡ shared
  none : s.written ≡ None
  rows : x.0.0.stop ≡ None → HasRows m (Made h IsWhole (manner_of shared.manner) s.now) shared headed x.1 x.0.0.manifest

abbrev StaysGood : {I O W E : Type 0} → Host I O → (ℕ → List ℕ → Type 0) → Writer W → Shared → W → ((Work W × E) × List Visit) → FileSystem → ((Work W × E) × List Visit) → FileSystem → Type 0
StaysGood h IsWhole m shared headed a s b t = Good h IsWhole m shared headed a s → Good h IsWhole m shared headed b t

closed : {I O W E : Type 0} (h : Host I O) (IsWhole : ℕ → List ℕ → Type 0) (m : Writer W) (shared : Shared) (headed : W) → IsClosed IsSame (StaysGood {E = E} h IsWhole m shared headed)
closed h IsWhole m shared headed = record {
  none = λ v s t e good. subst (Good h IsWhole m shared headed v) (sym e) good;
  still = λ v s t e good. subst (Good h IsWhole m shared headed v) (sym e) good;
  then = λ a b c s t u first second good. second (first good);
}

by_shared : {I O W : Type 0} (h : Host I O) (IsWhole : ℕ → List ℕ → Type 0) (m : Writer W) (headed : W) (visits : List Visit) (manifest : W) (now : Tree) (a b : Shared) → a ≡ b → HasRows m (Made h IsWhole (manner_of a.manner) now) a headed visits manifest
    → HasRows m (Made h IsWhole (manner_of b.manner) now) b headed visits manifest
by_shared h IsWhole m headed visits manifest now a b is rows = subst (λ (s : Shared). HasRows m (Made h IsWhole (manner_of s.manner) now) s headed visits manifest) is rows

visits_good : {I O F W E : Type 0} (h : Host I O) (r : Reader I) (w : Writer O) (e : Writer E) (m : Writer W) (shared : Shared) (headed : W) → Goes (manner_of shared.manner)
    → VisitsDo (StaysGood h (IsOutput h r w) m shared headed) (noted (visits_of (over {F = F} h r w e) m))
visits_good {I} {O} {F} {W} {E} h r w e m shared headed goes from before n what result to after v good =
    let here : Shared = from.0.0.shared in
    let k : Manner = manner_of here.manner in
    let known : Goes k = subst (λ (s : Shared). Goes (manner_of s.manner)) (sym good.same) goes in
    let left : Leaves h k.part k.output before after = leaves h (IsOutput h r w) k.part k.output before after good.none known.of_output (visit_name {F = F} h r w e m here _ from.0.1 before n what result _ to.0.1 after v.0.0) in
    record {
      same = v.0.1 ∙ good.same;
      none = left.none;
      rows = λ stop. by_shared h (IsOutput h r w) m headed to.1 to.0.0.manifest after.now here shared good.same
          (visit_rows (over {F = F} h r w e) m here headed (Made h (IsOutput h r w) k before.now) (Made h (IsOutput h r w) k after.now)
          (λ x done made written. made_stays h (IsOutput h r w) k.part k.output x.named.relative before.now after.now left.stays (made written)) _ from.0.1 before n what result _ to.0.1 after
          (λ done mid does written. name_made {F = F} h r w e k n what from.0.1 before mid after done known.keeps good.none known.of_output does written) from.1 to.1 v.1 v.0.0 stop
          (λ none. by_shared h (IsOutput h r w) m headed from.1 from.0.0.manifest before.now shared here (sym good.same) (good.rows none)));
    }

first : {I O W E : Type 0} (h : Host I O) (IsWhole : ℕ → List ℕ → Type 0) (m : Writer W) (headed : W) (start : Work W) (from : E) (before : FileSystem) → before.written ≡ None → start.manifest ≡ headed
    → Good h IsWhole m start.shared headed ((start, from), []) before
first h IsWhole m headed start from before none is = record {
  same = refl;
  none = none;
  rows = λ stop. no_rows m (Made h IsWhole (manner_of start.shared.manner) before.now) start.shared headed start.manifest is;
}

goes_on : (run : TreeRun) (part : List ℕ) (shared : Shared) → Shares run part shared → part ≡ part_path run → run.options.keeps_names ≡ true → Goes (manner_of shared.manner)
goes_on run part shared shares is keeps = subst Goes (sym shares.manner) (record { of_output = part_of_output run part is; keeps = keeps })

rows_there : {I O W : Type 0} (h : Host I O) (IsWhole : ℕ → List ℕ → Type 0) (part output : List ℕ) (now : Tree) (m : Writer W) (shared : Shared) (headed : W) (visits : List Visit) (manifest : W)
    → HasRows m (λ v done. is_written done.fate ≡ true → MadeAt h IsWhole part output v.named.relative now) shared headed visits manifest → HasRows m (WasMade h output now) shared headed visits manifest
rows_there h IsWhole part output now m shared headed visits manifest x = record {
  text = x.text;
  rows = rows_kept _ (WasMade h output now) shared (λ v done made written. made_there h IsWhole part output v.named.relative now (made written)) visits x.text x.rows;
  manifest_is = x.manifest_is;
}

pub made_is_there : {I O F W E : Type 0} (r : Reader I) (w : Writer O) (m : Writer W) (e : Writer E) → MadeIsThere F r w m e
made_is_there {I} {O} {F} {W} {E} r w m e h run path begun opened headed from before status left to after keeps none part v stop =
    let shared : Shared = v.start.shared in
    let d = folders_do {F = F} h in
    let walk = walk_noted d (visits_of (over {F = F} h r w e) m) path begun.number opened (v.start, from) before v.walked (v.last, v.told) after v.walks [] in
    let good : Good h (IsOutput h r w) m shared headed ((v.last, v.told), walk.0) after =
    walks_do d (only_quiet d (are_quiet h)) (StaysGood h (IsOutput h r w) m shared headed) (closed h (IsOutput h r w) m shared headed) (noted (visits_of (over {F = F} h r w e) m))
    (visits_good {F = F} h r w e m shared headed (goes_on run begun.part.items shared v.begins.shares part keeps)) path begun.number opened ((v.start, from), []) before v.walked ((v.last, v.told), walk.0) after walk.1
    (first h (IsOutput h r w) m headed v.start from before none (ap (λ p. p.manifest) v.begins.nothing)) in
    let rows : HasRows m (WasMade h run.output.now after.now) shared headed walk.0 v.last.manifest =
    subst (λ (k : Manner). HasRows m (WasMade h k.output after.now) shared headed walk.0 v.last.manifest) v.begins.shares.manner
    (rows_there h (IsOutput h r w) (manner_of shared.manner).part (manner_of shared.manner).output after.now m shared headed walk.0 v.last.manifest (good.rows stop)) in
    record {
      visits = walk.0;
      text = rows.text;
      walks = walk.1;
      rows = rows.rows;
      manifest = same_manifest m left v.last.manifest headed rows.text v.left_is rows.manifest_is;
    }

pub made_by_list : {I O F W E : Type 0} (r : Reader I) (w : Writer O) (m : Writer W) (e : Writer E) → MadeIsThereOfList F r w m e
made_by_list {I} {O} {F} {W} {E} r w m e h run list begun input headed from before status left to after read keeps none part v stop =
    let shared : Shared = v.start.shared in
    let d = folders_do {F = F} h in
    let walk = list_noted d (visits_of (over {F = F} h r w e) m) r.gets begun.number (v.start, from) before input v.walked (v.last, v.told) after read v.walks [] in
    let good : Good h (IsOutput h r w) m shared headed ((v.last, v.told), walk.0) after =
    lines_do d (only_quiet d (are_quiet h)) (StaysGood h (IsOutput h r w) m shared headed) (closed h (IsOutput h r w) m shared headed) (noted (visits_of (over {F = F} h r w e) m))
    (visits_good {F = F} h r w e m shared headed (goes_on run begun.part.items shared v.begins.shares part keeps)) r.gets begun.number ((v.start, from), []) before input v.walked ((v.last, v.told), walk.0) after read walk.1
    (first h (IsOutput h r w) m headed v.start from before none (ap (λ p. p.manifest) v.begins.nothing)) in
    let rows : HasRows m (WasMade h run.output.now after.now) shared headed walk.0 v.last.manifest =
    subst (λ (k : Manner). HasRows m (WasMade h k.output after.now) shared headed walk.0 v.last.manifest) v.begins.shares.manner
    (rows_there h (IsOutput h r w) (manner_of shared.manner).part (manner_of shared.manner).output after.now m shared headed walk.0 v.last.manifest (good.rows stop)) in
    record {
      visits = walk.0;
      text = rows.text;
      walks = walk.1;
      rows = rows.rows;
      manifest = same_manifest m left v.last.manifest headed rows.text v.left_is rows.manifest_is;
    }
