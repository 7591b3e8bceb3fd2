-- A run over a tree is done by such steps.
use Rattle.std.proofs.Common.{◌≡◌, ◌∙◌, refl, sym, ap, subst, ℕ, List, Bool, true, false, Option, Some, None, Result, Ok, Err}
use Rattle.std.specs.declared.io.Error.{Error}
use Rattle.dcm_devices.specs.Writing.{Writer}
use Rattle.dcm_files.specs.Devices as devices
use Rattle.dcm_files.specs.Devices.{MayDo, OpensInput}
use Rattle.dcm_files.specs.Folders.{FoldersDo}
use Rattle.dcm_files.specs.declared.folders.Links.{Links}
use Rattle.dcm_files.specs.declared.folders.Links.TheVariants.{Kept, Followed}
use Rattle.dcm_files.specs.declared.opened.FileKind.{FileKind}
use Rattle.dcm_files.specs.declared.opened.Opened.{Opened}
use Rattle.dcm_walk.specs.Names.{below}
use Rattle.dcm_walk.specs.Visits.{Named}
use Rattle.dcm_walk.specs.declared.visitor.Stopped.{Stopped}
use Rattle.dcm_walk.specs.declared.visitor.What.{What}
use Rattle.dcm_walk.specs.declared.visitor.What.TheVariants.{File}
use Rattle.dcm_tree_words.specs.Trees.{Source}
use Rattle.dcm_tree_words.specs.declared.said.TreeOptions.{TreeOptions}
use Rattle.dcm_cli.specs.Calls.{Reader}
use Rattle.dcm_trees.specs.declared.beginning.Begun.{Begun}
use Rattle.dcm_trees.specs.declared.progress.Shared.{Shared}
use Rattle.dcm_trees.specs.declared.progress.Work.{Work}
use Rattle.dcm_trees.specs.declared.run.TreeRun.{TreeRun}
use Rattle.dcm_trees.specs.Beginning as beginning
use Rattle.dcm_trees.specs.Beginning.{Begins}
use Rattle.dcm_trees.specs.Manner.{Manner, manner_of}
use Rattle.dcm_trees.specs.declared.beginning.Refusal.{Refusal}
use Rattle.dcm_trees.specs.declared.beginning.Spared.{Spared}
use Rattle.dcm_trees.specs.Run.{Shares}
use Rattle.dcm_trees.specs.Task.{Task, task_of}
use Rattle.dcm_trees.specs.Tree as spec
use Rattle.dcm_trees.specs.Tree.{OpensFolder, OpensTree, VisitsAll, VisitsFolder, VisitsListed, VisitsList, DoesOpened, DoesFolder, DoesNames, DoesList, DoesTree, part_of, spared_of, spared_with}
use Rattle.dcm_trees.specs.Work as work
use Rattle.dcm_trees.specs.Work.{Progress, progress, VisitsName, visits_of}
use Rattle.dcm_tree_laws.specs.FileSystem.{FileSystem, Host, Tree, may_do, folders_do}
use Rattle.dcm_tree_laws.specs.Halves.{IsOfSource, in_folder, in_list, links_of}
use Rattle.dcm_tree_laws.specs.Laws.{IsOutput, over, part_path}
use Rattle.dcm_tree_laws.specs.Stays.{IsOfOutput, itself}
use Rattle.dcm_tree_laws.proofs.Beginnings.{begins_by, is_part}
use Rattle.dcm_tree_laws.proofs.Below.{part_is_within}
use Rattle.dcm_tree_laws.proofs.Files.{AreNames, IsAny, are_any, LeadsBelow, are_within, does_name_in}
use Rattle.dcm_tree_laws.proofs.Filling.{always_gives}
use Rattle.dcm_tree_laws.proofs.Gives.{FileGives}
use Rattle.dcm_tree_laws.proofs.Lists.{lines_do}
use Rattle.dcm_tree_laws.proofs.Looking.{same_ok}
use Rattle.dcm_tree_laws.proofs.Quiet.{are_quiet, only_quiet, IsClosed, IsSame}
use Rattle.dcm_tree_laws.proofs.Near.{IsNear, StaysIn}
use Rattle.dcm_tree_laws.proofs.Seen.{IsUnder, IsLine, Saw, saw_in, seen, walk_seen, list_seen}
use Rattle.dcm_tree_laws.proofs.SoFar.{CameTo, Grows, trees_of, still_there, further}
use Rattle.dcm_tree_laws.proofs.Steps.{idle, Steps, StepsIn, quiet}
use Rattle.dcm_tree_laws.proofs.Walks.{VisitsDo, walks_do}

-- ---- a visit

-- a name that is visited is done by steps, as it is where it is one that outputs may have, and its file gives such an output
visit_name_in : {I O F W E : Type 0} (h : Host I O) (IsWhole : ℕ → List ℕ → Type 0) (r : Reader I) (w : Writer O) (e : Writer E) (rows : Writer W) (shared : Shared) (Of Fits : List ℕ → Type 0) → AreNames (manner_of shared.manner).output Of Fits
    → (from : Progress W) (told_before : E) (before : FileSystem) (n : Named) (what : What) (result : Result (Unit {0}) Stopped) (to : Progress W) (told : E) (after : FileSystem) → ((mode : ℕ) → what ≡ File mode → Fits n.relative)
    → ((mode : ℕ) → what ≡ File mode → FileGives h IsWhole r w (manner_of shared.manner).task n.path mode before) → VisitsName (over {F = F} h r w e) rows shared from told_before before n what result to told after
    → StepsIn h IsWhole (manner_of shared.manner).part Of idle before idle after
visit_name_in h IsWhole r w e rows shared Of Fits names from told_before before n what result to told after fits gives (work.of_another share t told_is same is) = quiet same
visit_name_in {I} {O} {F} h IsWhole r w e rows shared Of Fits names from told_before before n what result to told after fits gives (work.was_done done mid share does ends) =
    does_name_in {F = F} h IsWhole r w e (manner_of shared.manner) Of Fits names n what told_before before (Ok done) mid after fits gives does
visit_name_in {I} {O} {F} h IsWhole r w e rows shared Of Fits names from told_before before n what result to told after fits gives (work.ends_run p s share does t is) =
    does_name_in {F = F} h IsWhole r w e (manner_of shared.manner) Of Fits names n what told_before before (Err p) told after fits gives does

-- whatever its name is
pub visit_name : {I O F W E : Type 0} (h : Host I O) (r : Reader I) (w : Writer O) (e : Writer E) (rows : Writer W) (shared : Shared) (from : Progress W) (told_before : E) (before : FileSystem) (n : Named) (what : What)
    (result : Result (Unit {0}) Stopped) (to : Progress W) (told : E) (after : FileSystem) → VisitsName (over {F = F} h r w e) rows shared from told_before before n what result to told after
    → Steps h (IsOutput h r w) (manner_of shared.manner).part (manner_of shared.manner).output idle before idle after
visit_name {I} {O} {F} h r w e rows shared from told_before before n what result to told after =
    visit_name_in {F = F} h (IsOutput h r w) r w e rows shared (IsNear (manner_of shared.manner).output) IsAny (are_any (manner_of shared.manner).output) from told_before before n what result to told after (λ mode is. tt)
    (λ mode is. always_gives h r w (manner_of shared.manner).task n.path mode before)

-- ---- a whole run

-- what holds at a state that it came to, with all paths in the folder of the outputs
abbrev pub RunCame : {I O : Type 0} → Host I O → (IsWhole : List Tree → ℕ → List ℕ → Type 0) → (part output : List ℕ) → (start : Tree) → FileSystem → Type 0
RunCame h IsWhole part output start s = CameTo h IsWhole part (IsOfOutput output) start s

-- the file of each name that is visited gives such an output, at each state that it came to
abbrev pub RightIn : {I O : Type 0} → Host I O → Links → (In : Named → Type 0) → (IsWhole : List Tree → ℕ → List ℕ → Type 0) → Reader I → Writer O → (task : Task) → (part output : List ℕ) → (start : Tree) → Type 0
RightIn h links In IsWhole r w task part output start =
    (n : Named) (what : What) (mode : ℕ) (s : FileSystem) → StaysIn h part (IsOfOutput output) start s.now → s.written ≡ None → Saw h links In s n what → what ≡ File mode → FileGives h (IsWhole (trees_of s)) r w task n.path mode s

-- be they found in a folder or in a list, each with its links
abbrev pub RightOf : {I O : Type 0} → Host I O → Source → (IsWhole : List Tree → ℕ → List ℕ → Type 0) → Reader I → Writer O → (task : Task) → (part output : List ℕ) → (start : Tree) → Type 0
RightOf h source IsWhole r w task part output start = RightIn h (links_of source) (IsOfSource source) IsWhole r w task part output start

right_in : {I O : Type 0} (h : Host I O) (source : Source) (links : Links) (In : Named → Type 0) → links_of source ≡ links → ((n : Named) → In n → IsOfSource source n) → (IsWhole : List Tree → ℕ → List ℕ → Type 0) (r : Reader I) (w : Writer O) (task : Task) (part output : List ℕ) (start : Tree)
    → RightOf h source IsWhole r w task part output start → RightIn h links In IsWhole r w task part output start
right_in h source links In links_is of_source IsWhole r w task part output start right =
    let there : RightIn h links (IsOfSource source) IsWhole r w task part output start = subst (λ (l : Links). RightIn h l (IsOfSource source) IsWhole r w task part output start) links_is right in
    λ n what mode s stays none saw is. there n what mode s stays none (λ m e. saw_in h links In (IsOfSource source) s n m (of_source n) (saw m e)) is

-- so it goes on
abbrev pub GoOn : {I O : Type 0} → Host I O → Links → (In : Named → Type 0) → (IsWhole : List Tree → ℕ → List ℕ → Type 0) → Reader I → Writer O → (task : Task) → (part output : List ℕ) → (start : Tree) → (before after : FileSystem) → Type 0
GoOn h links In IsWhole r w task part output start before after =
    IsOfOutput output part → RightIn h links In IsWhole r w task part output start → RunCame h IsWhole part output start before → RunCame h IsWhole part output start after

-- what all names share stays
record SoFar {I O W E : Type 0} (h : Host I O) (IsWhole : List Tree → ℕ → List ℕ → Type 0) (start : Tree) (shared : Shared) (x : Work W × E) (s : FileSystem) : Type 0 where
  same : x.0.shared ≡ shared
  came : RunCame h IsWhole (manner_of shared.manner).part (manner_of shared.manner).output start s

abbrev GoesFar : {I O W E : Type 0} → Host I O → (IsWhole : List Tree → ℕ → List ℕ → Type 0) → (start : Tree) → Shared → (Work W × E) → FileSystem → (Work W × E) → FileSystem → Type 0
GoesFar h IsWhole start shared from before to after = SoFar h IsWhole start shared from before → SoFar h IsWhole start shared to after

far_closed : {I O W E : Type 0} (h : Host I O) (IsWhole : List Tree → ℕ → List ℕ → Type 0) (start : Tree) (shared : Shared) → IsClosed IsSame (GoesFar {W = W} {E = E} h IsWhole start shared)
far_closed {I} {O} {W} {E} h IsWhole start shared = record {
  none = λ v s t same far. subst (SoFar {W = W} {E = E} h IsWhole start shared v) (sym same) far;
  still = λ v s t same far. subst (SoFar {W = W} {E = E} h IsWhole start shared v) (sym same) far;
  then = λ a b c s t u first second far. second (first far);
}

by_manner : {I O : Type 0} (h : Host I O) (IsWhole : List Tree → ℕ → List ℕ → Type 0) (r : Reader I) (w : Writer O) (start : Tree) (links : Links) (In : Named → Type 0) (run : TreeRun) (part : List ℕ) (shared : Shared) (before after : FileSystem) → Shares run part shared
    → GoOn h links In IsWhole r w (manner_of shared.manner).task (manner_of shared.manner).part (manner_of shared.manner).output start before after → GoOn h links In IsWhole r w (task_of run.task) part run.output.now start before after
by_manner h IsWhole r w start links In run part shared before after shares = subst (λ (k : Manner). GoOn h links In IsWhole r w k.task k.part k.output start before after) shares.manner

module _ {I O F W E : Type 0} (h : Host I O) (IsWhole : List Tree → ℕ → List ℕ → Type 0) (grows : Grows IsWhole) (r : Reader I) (w : Writer O) (e : Writer E) (rows : Writer W) (start : Tree) where
  visits_go : (links : Links) (In : Named → Type 0) (shared : Shared) → IsOfOutput (manner_of shared.manner).output (manner_of shared.manner).part → RightIn h links In IsWhole r w (manner_of shared.manner).task (manner_of shared.manner).part (manner_of shared.manner).output start
      → VisitsDo (GoesFar {W = W} {E = E} h IsWhole start shared) (seen h links In (visits_of (over {F = F} h r w e) rows))
  visits_go links In shared of_output right from before n what result to after v far =
      let k : Manner = manner_of shared.manner in
      let here : VisitsName (over {F = F} h r w e) rows shared (progress from.0) from.1 before n what result (progress to.0) to.1 after =
      subst (λ (s : Shared). VisitsName (over {F = F} h r w e) rows s (progress from.0) from.1 before n what result (progress to.0) to.1 after) far.same v.0.0 in
      record {
        same = v.0.1 ∙ far.same;
        came = further h IsWhole grows k.part (IsOfOutput k.output) start of_output before after far.came
            (visit_name_in {F = F} h (IsWhole (trees_of before)) r w e rows shared (IsOfOutput k.output) LeadsBelow (are_within k.output) (progress from.0) from.1 before n what result (progress to.0) to.1 after (λ mode is. (v.1 mode is).leads)
            (λ mode is. right n what mode before far.came.both.keeps.stays far.came.both.keeps.quiet v.1 is) here);
      }

  -- ---- the names in a folder, or in a list

  visits_all : (run : TreeRun) (path : List ℕ) (begun : Begun) (opened : F) (headed : W) (from : E) (before : FileSystem) (status : ℕ) (left : W) (to : E) (after : FileSystem)
      → VisitsAll (over {F = F} h r w e) rows run path begun opened headed from before status left to after → GoOn h Kept (IsUnder path) IsWhole r w (task_of run.task) begun.part.items run.output.now start before after
  visits_all run path begun opened headed from before status left to after v =
      by_manner h IsWhole r w start Kept (IsUnder path) run begun.part.items v.start.shared before after v.begins.shares (λ of_output right came.
      (walks_do (folders_do {F = F} h) (only_quiet (folders_do {F = F} h) (are_quiet h)) (GoesFar {W = W} {E = E} h IsWhole start v.start.shared) (far_closed {W = W} {E = E} h IsWhole start v.start.shared) (seen h Kept (IsUnder path) (visits_of (over {F = F} h r w e) rows))
      (visits_go Kept (IsUnder path) v.start.shared of_output right) path begun.number opened (v.start, from) before v.walked (v.last, v.told) after
      (walk_seen F h path (visits_of (over {F = F} h r w e) rows) begun.number opened (v.start, from) before v.walked (v.last, v.told) after v.walks)
      (record { same = refl; came = came })).came)

  visits_folder : (run : TreeRun) (path : List ℕ) (begun : Begun) (opened : F) (manifest : W) (from : E) (before : FileSystem) (status : ℕ) (left : W) (to : E) (after : FileSystem)
      → VisitsFolder (over {F = F} h r w e) rows run path begun opened manifest from before status left to after → GoOn h Kept (IsUnder path) IsWhole r w (task_of run.task) begun.part.items run.output.now start before after
  visits_folder run path begun opened manifest from before status left to after (spec.no_header failure puts close ends) = λ of_output right came. still_there h IsWhole begun.part.items (IsOfOutput run.output.now) start before after close came
  visits_folder run path begun opened manifest from before status left to after (spec.visited headed puts v) = visits_all run path begun opened headed from before status left to after v

  visits_listed : (run : TreeRun) (list : List ℕ) (begun : Begun) (input : I) (headed : W) (from : E) (before : FileSystem) (status : ℕ) (left : W) (to : E) (after : FileSystem) (read : I)
      → VisitsListed (over {F = F} h r w e) rows run list begun input headed from before status left to after read → GoOn h Followed IsLine IsWhole r w (task_of run.task) begun.part.items run.output.now start before after
  visits_listed run list begun input headed from before status left to after read v =
      by_manner h IsWhole r w start Followed IsLine run begun.part.items v.start.shared before after v.begins.shares (λ of_output right came.
      (lines_do (folders_do {F = F} h) (only_quiet (folders_do {F = F} h) (are_quiet h)) (GoesFar {W = W} {E = E} h IsWhole start v.start.shared) (far_closed {W = W} {E = E} h IsWhole start v.start.shared) (seen h Followed IsLine (visits_of (over {F = F} h r w e) rows))
      (visits_go Followed IsLine v.start.shared of_output right) r.gets begun.number (v.start, from) before input v.walked (v.last, v.told) after read
      (list_seen F h (visits_of (over {F = F} h r w e) rows) r.gets begun.number (v.start, from) before input v.walked (v.last, v.told) after read v.walks)
      (record { same = refl; came = came })).came)

  visits_list : (run : TreeRun) (list : List ℕ) (begun : Begun) (input : I) (manifest : W) (from : E) (before : FileSystem) (status : ℕ) (left : W) (to : E) (after : FileSystem) (read : I)
      → VisitsList (over {F = F} h r w e) rows run list begun input manifest from before status left to after read → GoOn h Followed IsLine IsWhole r w (task_of run.task) begun.part.items run.output.now start before after
  visits_list run list begun input manifest from before status left to after read (spec.no_header failure puts ends same is) = λ of_output right came. still_there h IsWhole begun.part.items (IsOfOutput run.output.now) start before after same came
  visits_list run list begun input manifest from before status left to after read (spec.visited headed puts v) = visits_listed run list begun input headed from before status left to after read v

-- ---- the part's path

pub begun_part : {S I O F E : Type 0} (may : MayDo S I O) (d : FoldersDo S O F) (e : Writer E) (input : List ℕ) (is_list : Bool) (output part : List ℕ) (options : TreeOptions) (spared : Spared) (from : E) (before : S) (begun : Begun) (to : E) (after : S)
    → Begins may d e input is_list output part options spared from before (Ok begun) to after → begun.part.items ≡ below output part
begun_part may d e input is_list output part options spared from before begun to after (beginning.no_output refusal has is silent) = absurd (cc)
begun_part may d e input is_list output part options spared from before begun to after (beginning.no_part number refusal has p is silent) = absurd (cc)
begun_part may d e input is_list output part options spared from before begun to after (beginning.has_part number path refusal mid has p c is) = absurd (cc)
begun_part may d e input is_list output part options spared from before begun to after (beginning.in_use number path refusal mid checked has p c u is) = absurd (cc)
begun_part may d e input is_list output part options spared from before begun to after (beginning.begun number path mid checked has p c u is) =
    ap (λ (b : Begun). b.part.items) (sym (same_ok (Ok begun) begun (record { number = number; part = path }) refl is)) ∙ is_part output part path p

-- ---- a folder

opens_folder : {I O F : Type 0} (h : Host I O) (path : List ℕ) (before : FileSystem) (opened : Option F) (after : FileSystem) → OpensFolder (folders_do {F = F} h) path before opened after → after ≡ before
opens_folder h path before opened after (spec.no_text t is same) = same
opens_folder h path before opened after (spec.not_opened e t call is) = call
opens_folder h path before opened after (spec.was_opened f t call is) = call

pub opens_tree : {I O F : Type 0} (h : Host I O) (path : List ℕ) (before : FileSystem) (opened : Option F) (after : FileSystem) → OpensTree (folders_do {F = F} h) path before opened after → after ≡ before
opens_tree h path before opened after (spec.followed own is o) = opens_folder h own before opened after o
opens_tree h path before opened after (spec.too_long is o) = opens_folder h path before opened after o

at_part : {I O : Type 0} (h : Host I O) (IsWhole : List Tree → ℕ → List ℕ → Type 0) (r : Reader I) (w : Writer O) (start : Tree) (run : TreeRun) (links : Links) (In : Named → Type 0) (begun : Begun) (before after : FileSystem) → begun.part.items ≡ part_path run
    → GoOn h links In IsWhole r w (task_of run.task) begun.part.items run.output.now start before after → GoOn h links In IsWhole r w (task_of run.task) (part_path run) run.output.now start before after
at_part h IsWhole r w start run links In begun before after is goes = subst (λ (p : List ℕ). GoOn h links In IsWhole r w (task_of run.task) p run.output.now start before after) is goes

-- the folder of the outputs is made, or is there
begin : {I O F E : Type 0} (h : Host I O) (IsWhole : List Tree → ℕ → List ℕ → Type 0) → Grows IsWhole → (e : Writer E) (start : Tree) (run : TreeRun) (input : List ℕ) (is_list : Bool) (spared : Spared) (from : E) (before : FileSystem) (result : Result Begun Refusal) (to : E) (after : FileSystem)
    → Begins (may_do {I = I} h) (folders_do {F = F} h) e input is_list run.output.now (part_of run) run.options spared from before result to after → RunCame h IsWhole (part_path run) run.output.now start before → RunCame h IsWhole (part_path run) run.output.now start after
begin {I} {O} {F} h IsWhole grows e start run input is_list spared from before result to after b came =
    further h IsWhole grows (part_path run) (IsOfOutput run.output.now) start (part_is_within run.output.now (part_path run) run.options.part.number refl) before after came
    (begins_by {I = I} {F = F} h e (IsWhole (trees_of before)) (part_path run) run.output.now (part_of run) refl (IsOfOutput run.output.now) (itself refl) input is_list run.options spared from before result to after b)

module _ {I O F W E : Type 0} (h : Host I O) (IsWhole : List Tree → ℕ → List ℕ → Type 0) (grows : Grows IsWhole) (r : Reader I) (w : Writer O) (e : Writer E) (rows : Writer W) (start : Tree) (run : TreeRun) where
  does_opened : (path : List ℕ) (opened : F) (manifest : W) (from : E) (before : FileSystem) (status : ℕ) (left : W) (to : E) (after : FileSystem)
      → DoesOpened (over {F = F} h r w e) rows run path opened manifest from before status left to after → GoOn h Kept (IsUnder path) IsWhole r w (task_of run.task) (part_path run) run.output.now start before after
  does_opened path opened manifest from before status left to after (spec.not_begun refusal told tried b close refuses is) = λ of_output right came. still_there h IsWhole (part_path run) (IsOfOutput run.output.now) start tried after close (begin {I = I} {F = F} h IsWhole grows e start run path false (spared_of run) from before (Err refusal) told tried b came)
  does_opened path opened manifest from before status left to after (spec.was_begun begun told mid b v) = λ of_output right came.
      at_part h IsWhole r w start run Kept (IsUnder path) begun mid after (begun_part (may_do {I = I} h) (folders_do {F = F} h) e path false run.output.now (part_of run) run.options (spared_of run) from before begun told mid b)
      (visits_folder {F = F} h IsWhole grows r w e rows start run path begun opened manifest told mid status left to after v) of_output right (begin {I = I} {F = F} h IsWhole grows e start run path false (spared_of run) from before (Ok begun) told mid b came)

  does_folder : (path : List ℕ) (manifest : W) (from : E) (before : FileSystem) (status : ℕ) (left : W) (to : E) (after : FileSystem)
      → DoesFolder (over {F = F} h r w e) rows run path manifest from before status left to after → GoOn h Kept (IsUnder path) IsWhole r w (task_of run.task) (part_path run) run.output.now start before after
  does_folder path manifest from before status left to after (spec.too_long long refuses is same) = λ of_output right came. still_there h IsWhole (part_path run) (IsOfOutput run.output.now) start before after same came
  does_folder path manifest from before status left to after (spec.not_opened o refuses is) = λ of_output right came. still_there h IsWhole (part_path run) (IsOfOutput run.output.now) start before after (opens_tree {F = F} h path before None after o) came
  does_folder path manifest from before status left to after (spec.was_opened opened mid o does) = λ of_output right came.
      does_opened path opened manifest from mid status left to after does of_output right (still_there h IsWhole (part_path run) (IsOfOutput run.output.now) start before mid (opens_tree {F = F} h path before (Some opened) mid o) came)

-- ---- a list

pub opens_input : {I O : Type 0} (h : Host I O) (path : List ℕ) (before : FileSystem) (r : Result (Opened I) Error) (after : FileSystem) → OpensInput (may_do {I = I} h) path before r after → after ≡ before
opens_input h path before r after (devices.stream d is call i) = call
opens_input h path before r after (devices.no_text e is t k i same) = same
opens_input h path before r after (devices.refused e is t call i) = call.0
opens_input h path before r after (devices.directory d e had is t call k back k2 i) = back ∙ call.0
opens_input h path before r after (devices.opened d is t call k i) = call.0

module _ {I O F W E : Type 0} (h : Host I O) (IsWhole : List Tree → ℕ → List ℕ → Type 0) (grows : Grows IsWhole) (r : Reader I) (w : Writer O) (e : Writer E) (rows : Writer W) (start : Tree) (run : TreeRun) where
  does_names : (list : List ℕ) (kind : FileKind) (input : I) (manifest : W) (from : E) (before : FileSystem) (status : ℕ) (left : W) (to : E) (after : FileSystem) (read : I)
      → DoesNames (over {F = F} h r w e) rows run list kind input manifest from before status left to after read → GoOn h Followed IsLine IsWhole r w (task_of run.task) (part_path run) run.output.now start before after
  does_names list kind input manifest from before status left to after read (spec.not_begun refusal told b refuses l is) = λ of_output right came. begin {I = I} {F = F} h IsWhole grows e start run _ true (spared_with run list kind) from before (Err refusal) told after b came
  does_names list kind input manifest from before status left to after read (spec.was_begun begun told mid b v) = λ of_output right came.
      at_part h IsWhole r w start run Followed IsLine begun mid after (begun_part (may_do {I = I} h) (folders_do {F = F} h) e _ true run.output.now (part_of run) run.options (spared_with run list kind) from before begun told mid b)
      (visits_list {F = F} h IsWhole grows r w e rows start run list begun input manifest told mid status left to after read v) of_output right (begin {I = I} {F = F} h IsWhole grows e start run _ true (spared_with run list kind) from before (Ok begun) told mid b came)

  does_list : (path : List ℕ) (manifest : W) (from : E) (before : FileSystem) (status : ℕ) (left : W) (to : E) (after : FileSystem)
      → DoesList (over {F = F} h r w e) rows run path manifest from before status left to after → GoOn h Followed IsLine IsWhole r w (task_of run.task) (part_path run) run.output.now start before after
  does_list path manifest from before status left to after (spec.not_opened error o told s l) = λ of_output right came. still_there h IsWhole (part_path run) (IsOfOutput run.output.now) start before after (opens_input {I = I} h path before (Err error) after o) came
  does_list path manifest from before status left to after (spec.was_opened o read mid done opens does back) = λ of_output right came.
      still_there h IsWhole (part_path run) (IsOfOutput run.output.now) start done after back
      (does_names path o.kind o.device manifest from mid status left to done read does of_output right (still_there h IsWhole (part_path run) (IsOfOutput run.output.now) start before mid (opens_input {I = I} h path before (Ok o) mid opens) came))

  -- ---- a run

  pub does_tree : (source : Source) (manifest : W) (from : E) (before : FileSystem) (status : ℕ) (left : W) (to : E) (after : FileSystem) → DoesTree (over {F = F} h r w e) rows run source manifest from before status left to after
      → RightOf h source IsWhole r w (task_of run.task) (part_path run) run.output.now start → RunCame h IsWhole (part_path run) run.output.now start before → RunCame h IsWhole (part_path run) run.output.now start after
  does_tree source manifest from before status left to after (spec.of_folder path is does) right came =
      does_folder {F = F} h IsWhole grows r w e rows start run path manifest from before status left to after does (part_is_within run.output.now (part_path run) run.options.part.number refl) (right_in h source Kept (IsUnder path) (ap links_of is) (λ n under. in_folder path is under) IsWhole r w (task_of run.task) (part_path run) run.output.now start right) came
  does_tree source manifest from before status left to after (spec.of_list path is does) right came =
      does_list path manifest from before status left to after does (part_is_within run.output.now (part_path run) run.options.part.number refl) (right_in h source Followed IsLine (ap links_of is) (λ n line. in_list path is line) IsWhole r w (task_of run.task) (part_path run) run.output.now start right) came

-- any output of a job that was done is such a one, whatever the run had by then
pub output_grows : {I O : Type 0} (h : Host I O) (r : Reader I) (w : Writer O) → Grows (λ trees. IsOutput h r w)
output_grows h r w = λ later trees mode bytes is. is

pub always_right : {I O : Type 0} (h : Host I O) (r : Reader I) (w : Writer O) (source : Source) (task : Task) (part output : List ℕ) (start : Tree) → RightOf h source (λ trees. IsOutput h r w) r w task part output start
always_right h r w source task part output start = λ n what mode s stays none saw is. always_gives h r w task n.path mode s
