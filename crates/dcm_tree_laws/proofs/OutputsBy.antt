-- At the end of a run the outputs are there that its rows say were written.
use Rattle.std.proofs.Common.{◌≡◌, ◌∙◌, refl, sym, ap, subst, ℕ, List, [], ◌++◌, Bool, true, Some, None, Ok}
use Rattle.std.specs.Prelude.{◌≢◌}
use Rattle.dcm_devices.specs.Writing.{Writer}
use Rattle.dcm_files.specs.declared.folders.Found.{Found}
use Rattle.dcm_files.specs.declared.folders.Links.{Links}
use Rattle.dcm_files.specs.declared.folders.Links.TheVariants.{Kept, Followed}
use Rattle.dcm_walk.specs.Folder.{WalksFolder}
use Rattle.dcm_walk.specs.List.{WalksList}
use Rattle.dcm_walk.specs.Names.{below}
use Rattle.dcm_walk.specs.Visits.{Named}
use Rattle.dcm_walk.specs.declared.visitor.What.{What}
use Rattle.dcm_walk.specs.declared.visitor.What.TheVariants.{File}
use Rattle.dcm_cli.specs.Calls.{Reader}
use Rattle.dcm_trees.specs.declared.beginning.Begun.{Begun}
use Rattle.dcm_trees.specs.declared.file.Done.{Done}
use Rattle.dcm_trees.specs.declared.progress.Shared.{Shared}
use Rattle.dcm_trees.specs.declared.progress.Work.{Work}
use Rattle.dcm_trees.specs.declared.run.TreeRun.{TreeRun}
use Rattle.dcm_trees.specs.Fate.{is_written}
use Rattle.dcm_trees.specs.File.{DoesName}
use Rattle.dcm_trees.specs.Manner.{Manner, manner_of}
use Rattle.dcm_trees.specs.Run.{Shares}
use Rattle.dcm_trees.specs.Tree.{part_of, VisitsAll, VisitsListed}
use Rattle.dcm_trees.specs.Work.{name_in, visits_of}
use Rattle.dcm_tree_laws.specs.FileSystem.{FileSystem, Tree, Host, number_of, place_of, at_path, folders_do}
use Rattle.dcm_tree_laws.specs.Laws.{IsOutput, over, part_path}
use Rattle.dcm_tree_laws.specs.Outputs.{HasOutput, HasWritten, IsNamedSo, by_its_input, by_its_instance, WrittenIsThere, WrittenIsThereOfList}
use Rattle.dcm_tree_laws.specs.Rows.{Visit, noted}
use Rattle.dcm_tree_laws.proofs.Near.{IsNear, near, Stays}
use Rattle.dcm_tree_laws.proofs.Adding.{since_idle}
use Rattle.dcm_tree_laws.proofs.Both.{Both}
use Rattle.dcm_tree_laws.proofs.Forgets.{after_any, with_past}
use Rattle.dcm_tree_laws.proofs.Lists.{lines_do}
use Rattle.dcm_tree_laws.proofs.NamedBy.{name_named}
use Rattle.dcm_tree_laws.proofs.Noted.{walk_noted, list_noted}
use Rattle.dcm_tree_laws.proofs.Quiet.{are_quiet, only_quiet, IsClosed, IsSame}
use Rattle.dcm_tree_laws.proofs.RowsBy.{HasRows, visit_of, visit_rows, no_rows, same_manifest}
use Rattle.dcm_tree_laws.proofs.Runs.{visit_name}
use Rattle.dcm_tree_laws.proofs.Seen.{IsUnder, IsLine, Saw, seen, walk_seen, list_seen}
use Rattle.dcm_tree_laws.proofs.SoFar.{trees_of, Adds, later_state}
use Rattle.dcm_tree_laws.proofs.Steps.{idle, Steps, no_step}
use Rattle.dcm_tree_laws.proofs.Walks.{VisitsDo, walks_do}
use Rattle.dcm_tree_laws.proofs.Filling.{always_gives}
use Rattle.dcm_tree_laws.proofs.Written.{FileGives}
use Rattle.dcm_tree_laws.proofs.WrittenBy.{name_out}

-- ---- an output stays

pub stays_out : {I O : Type 0} (h : Host I O) (IsWhole : ℕ → List ℕ → Type 0) (part output path : List ℕ) (t u : Tree) → Stays h part output t u → HasOutput h IsWhole part path t → HasOutput h IsWhole part path u
stays_out h IsWhole part output path t u stays out = record {
  file = out.file;
  is = stays.there (place_of h path) out.file out.apart out.is;
  kind = out.kind;
  whole = subst (IsWhole out.file.mode) (sym (stays.bytes (place_of h path) out.file out.apart out.is)) out.whole;
  apart = out.apart;
}

-- what a run leaves of a state in which nothing was being written
pub record Leaves {I O : Type 0} (h : Host I O) (part output : List ℕ) (before after : FileSystem) : Type 0 where
  pub stays : Stays h part output before.now after.now
  pub none : after.written ≡ None

pub leaves : {I O : Type 0} (h : Host I O) (IsWhole : ℕ → List ℕ → Type 0) (part output : List ℕ) (before after : FileSystem) → before.written ≡ None → IsNear output part → Steps h IsWhole part output idle before idle after → Leaves h part output before after
leaves h IsWhole part output before after none of_output steps =
    let x : (past : _) × Both h IsWhole part output before.now idle (with_past past after) = after_any h IsWhole part output before none of_output idle after steps in
    record { stays = x.1.keeps.stays; none = x.1.keeps.quiet }

-- what was at the start of a run is there at a later state, but at the place of the part
pub record Still {I O : Type 0} (h : Host I O) (part : List ℕ) (start now : Tree) : Type 0 where
  pub there : (place : List ℕ) (f : Found) → place ≢ place_of h part → start.at place ≡ Some f → now.at place ≡ Some f
  pub bytes : (place : List ℕ) (f : Found) → place ≢ place_of h part → start.at place ≡ Some f → now.bytes (number_of f) ≡ start.bytes (number_of f)

pub then_stays : {I O : Type 0} (h : Host I O) (part output : List ℕ) (start t u : Tree) → Still h part start t → Stays h part output t u → Still h part start u
then_stays h part output start t u still stays = record {
  there = λ place f apart at. stays.there place f apart (still.there place f apart at);
  bytes = λ place f apart at. stays.bytes place f apart (still.there place f apart at) ∙ still.bytes place f apart at;
}

-- ---- the rows so far

-- of each name that was seen and is so done, a job that is done gives the output that is asked for
abbrev pub Right : {I O : Type 0} → Host I O → Links → (In : Named → Type 0) → (Visit → ℕ → List ℕ → Type 0) → Reader I → Writer O → Manner → Tree → Type 0
Right h links In Of r w m start = (n : Named) (what : What) (mode : ℕ) (s : FileSystem) → Still h m.part start s.now → Saw h links In s n what → what ≡ File mode → FileGives h (Of (visit_of n what)) r w m.task n.path mode s

-- and of each that is so done and written, what is at the path of its output is named as is asked for
abbrev pub Names : {I O E : Type 0} → (F : Type 0) → Host I O → (List Tree → List ℕ → Done → Type 0) → Reader I → Writer O → Writer E → Manner → Type 0
Names {I} {O} {E} F h As r w e m =
    (n : Named) (what : What) (from : E) (before : FileSystem) (done : Done) (to : E) (after : FileSystem) → before.written ≡ None → DoesName (over {F = F} h r w e) m n what from before (Ok done) to after → is_written done.fate ≡ true → (file : Found)
    → at_path h after.now (below m.output (name_in n.relative done.instance)) ≡ Some file → As (trees_of after) (after.now.bytes (number_of file)) done

also_named : {I O : Type 0} (h : Host I O) (IsWhole : ℕ → List ℕ → Type 0) (As : List ℕ → Done → Type 0) (part path : List ℕ) (done : Done) (t : Tree) → HasOutput h IsWhole part path t → ((file : Found) → at_path h t path ≡ Some file → As (t.bytes (number_of file)) done)
    → HasOutput h (λ mode bytes. IsWhole mode bytes × As bytes done) part path t
also_named h IsWhole As part path done t out named = record { file = out.file; is = out.is; kind = out.kind; whole = (out.whole, named out.file out.is); apart = out.apart }

-- it stays so when more trees have come
abbrev pub NamesGrow : (List Tree → List ℕ → Done → Type 0) → Type 0
NamesGrow As = (later trees : List Tree) (bytes : List ℕ) (done : Done) → As trees bytes done → As (later ++ trees) bytes done

later_named : {I O : Type 0} (h : Host I O) (IsWhole : ℕ → List ℕ → Type 0) (As : List Tree → List ℕ → Done → Type 0) → NamesGrow As → (part path : List ℕ) (done : Done) (t : Tree) (trees : List Tree) (s : FileSystem) → Adds trees s
    → HasOutput h (λ mode bytes. IsWhole mode bytes × As trees bytes done) part path t → HasOutput h (λ mode bytes. IsWhole mode bytes × As (trees_of s) bytes done) part path t
later_named h IsWhole As grows part path done t trees s adds out = record {
  file = out.file;
  is = out.is;
  kind = out.kind;
  whole = (out.whole.0, subst (λ (ts : List Tree). As ts (t.bytes (number_of out.file)) done) (sym adds.are) (grows adds.later trees (t.bytes (number_of out.file)) done out.whole.1));
  apart = out.apart;
}

-- by how the names of a run are done
abbrev pub Written : {I O : Type 0} → Host I O → (Visit → ℕ → List ℕ → Type 0) → (List Tree → List ℕ → Done → Type 0) → Manner → FileSystem → Visit → Done → Type 0
Written h Of As m s v done = HasWritten h (Of v) (As (trees_of s)) m.part m.output s.now v done

pub record Good {I O W E : Type 0} (h : Host I O) (Of : Visit → ℕ → List ℕ → Type 0) (As : List Tree → List ℕ → Done → Type 0) (start : Tree) (m : Writer W) (shared : Shared) (headed : W) (x : (Work W × E) × List Visit) (s : FileSystem) : Type 0 where
  pub same : x.0.0.shared ≡ shared
  pub none : s.written ≡ None
  pub still : Still h (manner_of shared.manner).part start s.now
  pub rows : x.0.0.stop ≡ None → HasRows m (Written h Of As (manner_of shared.manner) s) shared headed x.1 x.0.0.manifest

abbrev StaysGood : {I O W E : Type 0} → Host I O → (Visit → ℕ → List ℕ → Type 0) → (List Tree → List ℕ → Done → Type 0) → Tree → Writer W → Shared → W → ((Work W × E) × List Visit) → FileSystem → ((Work W × E) × List Visit) → FileSystem → Type 0
StaysGood h Of As start m shared headed a s b t = Good h Of As start m shared headed a s → Good h Of As start m shared headed b t

closed : {I O W E : Type 0} (h : Host I O) (Of : Visit → ℕ → List ℕ → Type 0) (As : List Tree → List ℕ → Done → Type 0) (start : Tree) (m : Writer W) (shared : Shared) (headed : W) → IsClosed IsSame (StaysGood {E = E} h Of As start m shared headed)
closed h Of As start m shared headed = record {
  none = λ v s t e good. subst (Good h Of As start m shared headed v) (sym e) good;
  still = λ v s t e good. subst (Good h Of As start m shared headed v) (sym e) good;
  then = λ a b c s t u first second good. second (first good);
}

by_shared : {I O W : Type 0} (h : Host I O) (Of : Visit → ℕ → List ℕ → Type 0) (As : List Tree → List ℕ → Done → Type 0) (m : Writer W) (headed : W) (visits : List Visit) (manifest : W) (now : FileSystem) (a b : Shared) → a ≡ b → HasRows m (Written h Of As (manner_of a.manner) now) a headed visits manifest
    → HasRows m (Written h Of As (manner_of b.manner) now) b headed visits manifest
by_shared h Of As m headed visits manifest now a b is rows = subst (λ (s : Shared). HasRows m (Written h Of As (manner_of s.manner) now) s headed visits manifest) is rows

-- what is known of a name before it is done, by what it shares with the others
record Known {I O E : Type 0} (F : Type 0) (h : Host I O) (links : Links) (In : Named → Type 0) (Of : Visit → ℕ → List ℕ → Type 0) (As : List Tree → List ℕ → Done → Type 0) (r : Reader I) (w : Writer O) (e : Writer E) (start : Tree) (s : FileSystem) (shared : Shared) : Type 0 where
  of_output : IsNear (manner_of shared.manner).output (manner_of shared.manner).part
  right : Right h links In Of r w (manner_of shared.manner) start
  names : Names F h As r w e (manner_of shared.manner)
  still : Still h (manner_of shared.manner).part start s.now

visits_good : {I O F W E : Type 0} (h : Host I O) (links : Links) (In : Named → Type 0) (Of : Visit → ℕ → List ℕ → Type 0) (As : List Tree → List ℕ → Done → Type 0) (start : Tree) (r : Reader I) (w : Writer O) (e : Writer E) (m : Writer W) (shared : Shared) (headed : W) → IsNear (manner_of shared.manner).output (manner_of shared.manner).part
    → Right h links In Of r w (manner_of shared.manner) start → Names F h As r w e (manner_of shared.manner) → NamesGrow As → VisitsDo (StaysGood h Of As start m shared headed) (seen h links In (noted (visits_of (over {F = F} h r w e) m)))
visits_good {I} {O} {F} {W} {E} h links In Of As start r w e m shared headed of_output right names grows from before n what result to after v good =
    let here : Shared = from.0.0.shared in
    let manner : Manner = manner_of here.manner in
    let known : Known F h links In Of As r w e start before here = subst (Known F h links In Of As r w e start before) (sym good.same) (record { of_output = of_output; right = right; names = names; still = good.still }) in
    let steps : Steps h (IsOutput h r w) manner.part manner.output idle before idle after = visit_name {F = F} h r w e m here _ from.0.1 before n what result _ to.0.1 after v.0.0.0 in
    let left : Leaves h manner.part manner.output before after = leaves h (IsOutput h r w) manner.part manner.output before after good.none known.of_output steps in
    let adds : Adds (trees_of before) after = since_idle h (IsOutput h r w) manner.part manner.output before good.none known.of_output idle after steps in
    record {
      same = v.0.0.1 ∙ good.same;
      none = left.none;
      still = subst (λ (s : Shared). Still h (manner_of s.manner).part start after.now) good.same (then_stays h manner.part manner.output start before.now after.now known.still left.stays);
      rows = λ stop. by_shared h Of As m headed to.1 to.0.0.manifest after here shared good.same
          (visit_rows (over {F = F} h r w e) m here headed (Written h Of As manner before) (Written h Of As manner after)
          (λ x done out written. stays_out h (λ mode bytes. Of x mode bytes × As (trees_of after) bytes done) manner.part manner.output _ before.now after.now left.stays
          (later_named h (Of x) As grows manner.part _ done before.now (trees_of before) after adds (out written))) _ from.0.1 before n what result _ to.0.1 after
          (λ done mid does written. also_named h (Of (visit_of n what)) (As (trees_of after)) manner.part (below manner.output (name_in n.relative done.instance)) done after.now
          (name_out {F = F} h (Of (visit_of n what)) r w e manner n what from.0.1 before before (Ok done) mid after done (λ mode is. known.right n what mode before known.still v.1 is)
          (record { none = good.none; of_output = known.of_output; steps = no_step refl refl }) does refl written).name.out
          (known.names n what from.0.1 before done mid after good.none does written))
          from.1 to.1 v.0.1 v.0.0.0 stop
          (λ none. by_shared h Of As m headed from.1 from.0.0.manifest before shared here (sym good.same) (good.rows none)));
    }

first : {I O W E : Type 0} (h : Host I O) (Of : Visit → ℕ → List ℕ → Type 0) (As : List Tree → List ℕ → Done → Type 0) (m : Writer W) (headed : W) (start : Work W) (from : E) (before : FileSystem) → before.written ≡ None → start.manifest ≡ headed
    → Good h Of As before.now m start.shared headed ((start, from), []) before
first h Of As m headed start from before none is = record {
  same = refl;
  none = none;
  still = record { there = λ place f apart at. at; bytes = λ place f apart at. refl };
  rows = λ stop. no_rows m (Written h Of As (manner_of start.shared.manner) before) start.shared headed start.manifest is;
}

pub part_of_output : (run : TreeRun) (part : List ℕ) → part ≡ part_path run → IsNear run.output.now part
part_of_output run part is = near (part_of run) is

pub manner_of_output : (run : TreeRun) (part : List ℕ) (shared : Shared) → Shares run part shared → part ≡ part_path run → IsNear (manner_of shared.manner).output (manner_of shared.manner).part
manner_of_output run part shared shares is = subst (λ (k : Manner). IsNear k.output k.part) (sym shares.manner) (part_of_output run part is)

-- ---- all names

-- the names in a folder were visited, these in this order, and of each so much is known
pub folder_good : {I O F W E : Type 0} (r : Reader I) (w : Writer O) (m : Writer W) (e : Writer E) (h : Host I O) (Of : Visit → ℕ → List ℕ → Type 0) (As : List Tree → List ℕ → Done → Type 0) (run : TreeRun) (path : List ℕ) (begun : Begun) (opened : F) (headed : W) (from : E) (before : FileSystem) (status : ℕ)
    (left : W) (to : E) (after : FileSystem) → before.written ≡ None → begun.part.items ≡ part_path run → (v : VisitsAll (over h r w e) m run path begun opened headed from before status left to after)
    → Right h Kept (IsUnder path) Of r w (manner_of v.start.shared.manner) before.now → Names F h As r w e (manner_of v.start.shared.manner) → NamesGrow As → (visits : List Visit) × WalksFolder (folders_do {F = F} h) (noted (visits_of (over {F = F} h r w e) m)) path begun.number opened ((v.start, from), []) before v.walked ((v.last, v.told), visits) after
    × Good h Of As before.now m v.start.shared headed ((v.last, v.told), visits) after
folder_good {I} {O} {F} {W} {E} r w m e h Of As run path begun opened headed from before status left to after none part v right names grows =
    let shared : Shared = v.start.shared in
    let walk = walk_noted (folders_do {F = F} h) (visits_of (over {F = F} h r w e) m) path begun.number opened (v.start, from) before v.walked (v.last, v.told) after v.walks [] in (
      walk.0,
      walk.1,
      walks_do (folders_do {F = F} h) (only_quiet (folders_do {F = F} h) (are_quiet h)) (StaysGood h Of As before.now m shared headed) (closed h Of As before.now m shared headed) (seen h Kept (IsUnder path) (noted (visits_of (over {F = F} h r w e) m)))
          (visits_good {F = F} h Kept (IsUnder path) Of As before.now r w e m shared headed (manner_of_output run begun.part.items shared v.begins.shares part) right names grows) path begun.number opened ((v.start, from), []) before v.walked ((v.last, v.told), walk.0) after
          (walk_seen F h path (noted (visits_of (over {F = F} h r w e) m)) begun.number opened ((v.start, from), []) before v.walked ((v.last, v.told), walk.0) after walk.1)
          (first h Of As m headed v.start from before none (ap (λ p. p.manifest) v.begins.nothing)),
    )

-- and those in a list
pub list_good : {I O F W E : Type 0} (r : Reader I) (w : Writer O) (m : Writer W) (e : Writer E) (h : Host I O) (Of : Visit → ℕ → List ℕ → Type 0) (As : List Tree → List ℕ → Done → Type 0) (run : TreeRun) (list : List ℕ) (begun : Begun) (input : I) (headed : W) (from : E) (before : FileSystem) (status : ℕ)
    (left : W) (to : E) (after : FileSystem) (read : I) → before.written ≡ None → begun.part.items ≡ part_path run → (v : VisitsListed (over {F = F} h r w e) m run list begun input headed from before status left to after read)
    → Right h Followed IsLine Of r w (manner_of v.start.shared.manner) before.now → Names F h As r w e (manner_of v.start.shared.manner) → NamesGrow As → (visits : List Visit) × WalksList (folders_do {F = F} h) (noted (visits_of (over {F = F} h r w e) m)) r.gets begun.number ((v.start, from), []) before input v.walked ((v.last, v.told), visits) after read
    × Good h Of As before.now m v.start.shared headed ((v.last, v.told), visits) after
list_good {I} {O} {F} {W} {E} r w m e h Of As run list begun input headed from before status left to after read none part v right names grows =
    let shared : Shared = v.start.shared in
    let walk = list_noted (folders_do {F = F} h) (visits_of (over {F = F} h r w e) m) r.gets begun.number (v.start, from) before input v.walked (v.last, v.told) after read v.walks [] in (
      walk.0,
      walk.1,
      lines_do (folders_do {F = F} h) (only_quiet (folders_do {F = F} h) (are_quiet h)) (StaysGood h Of As before.now m shared headed) (closed h Of As before.now m shared headed) (seen h Followed IsLine (noted (visits_of (over {F = F} h r w e) m)))
          (visits_good {F = F} h Followed IsLine Of As before.now r w e m shared headed (manner_of_output run begun.part.items shared v.begins.shares part) right names grows) r.gets begun.number ((v.start, from), []) before input v.walked ((v.last, v.told), walk.0) after read
          (list_seen F h (noted (visits_of (over {F = F} h r w e) m)) r.gets begun.number ((v.start, from), []) before input v.walked ((v.last, v.told), walk.0) after read walk.1)
          (first h Of As m headed v.start from before none (ap (λ p. p.manifest) v.begins.nothing)),
    )

-- ---- the outputs are there

pub so_grows : {I O : Type 0} (h : Host I O) (r : Reader I) (keeps_names : Bool) (part : List ℕ) → NamesGrow (IsNamedSo h r keeps_names part)
so_grows h r keeps_names part later trees bytes done (by_its_input keeps is) = by_its_input keeps is
so_grows h r keeps_names part later trees bytes done (by_its_instance i keeps read by) = by_its_instance i keeps (record {
  state = read.state;
  was_state = later_state later trees read.state read.was_state;
  file = read.file;
  is = read.is;
  kind = read.kind;
  bytes_are = read.bytes_are;
  after = read.after;
  finds = read.finds;
}) by

pub names_so : {I O F E : Type 0} (h : Host I O) (r : Reader I) (w : Writer O) (e : Writer E) (m : Manner) → IsNear m.output m.part → Names F h (IsNamedSo h r m.keeps_names m.part) r w e m
names_so {I} {O} {F} h r w e m of_output = λ n what from before done to after none does written file at. name_named {F = F} h r w e m of_output n what from before (Ok done) to after done none does refl written file at

pub written_is_there : {I O F W E : Type 0} (r : Reader I) (w : Writer O) (m : Writer W) (e : Writer E) → WrittenIsThere F r w m e
written_is_there {I} {O} {F} {W} {E} r w m e h run path begun opened headed from before status left to after none part v stop =
    let k : Manner = manner_of v.start.shared.manner in
    let x = folder_good {F = F} r w m e h (λ v. IsOutput h r w) (IsNamedSo h r k.keeps_names k.part) run path begun opened headed from before status left to after none part v (λ n what mode s still saw is. always_gives h r w k.task n.path mode s)
    (names_so {F = F} h r w e k (manner_of_output run begun.part.items v.start.shared v.begins.shares part)) (so_grows h r k.keeps_names k.part) in
    let rows : HasRows m (HasWritten h (IsOutput h r w) (IsNamedSo h r run.options.keeps_names begun.part.items (trees_of after)) begun.part.items run.output.now after.now) v.start.shared headed x.0 v.last.manifest =
    subst (λ (k : Manner). HasRows m (HasWritten h (IsOutput h r w) (IsNamedSo h r k.keeps_names k.part (trees_of after)) k.part k.output after.now) v.start.shared headed x.0 v.last.manifest) v.begins.shares.manner (x.2.rows stop) in
    record {
      visits = x.0;
      text = rows.text;
      walks = x.1;
      rows = rows.rows;
      manifest = same_manifest m left v.last.manifest headed rows.text v.left_is rows.manifest_is;
    }

pub written_in_list : {I O F W E : Type 0} (r : Reader I) (w : Writer O) (m : Writer W) (e : Writer E) → WrittenIsThereOfList F r w m e
written_in_list {I} {O} {F} {W} {E} r w m e h run list begun input headed from before status left to after read none part v stop =
    let k : Manner = manner_of v.start.shared.manner in
    let x = list_good {F = F} r w m e h (λ v. IsOutput h r w) (IsNamedSo h r k.keeps_names k.part) run list begun input headed from before status left to after read none part v (λ n what mode s still saw is. always_gives h r w k.task n.path mode s)
    (names_so {F = F} h r w e k (manner_of_output run begun.part.items v.start.shared v.begins.shares part)) (so_grows h r k.keeps_names k.part) in
    let rows : HasRows m (HasWritten h (IsOutput h r w) (IsNamedSo h r run.options.keeps_names begun.part.items (trees_of after)) begun.part.items run.output.now after.now) v.start.shared headed x.0 v.last.manifest =
    subst (λ (k : Manner). HasRows m (HasWritten h (IsOutput h r w) (IsNamedSo h r k.keeps_names k.part (trees_of after)) k.part k.output after.now) v.start.shared headed x.0 v.last.manifest) v.begins.shares.manner (x.2.rows stop) in
    record {
      visits = x.0;
      text = rows.text;
      walks = x.1;
      rows = rows.rows;
      manifest = same_manifest m left v.last.manifest headed rows.text v.left_is rows.manifest_is;
    }
