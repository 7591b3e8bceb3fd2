-- A run that keeps names, and a second one over what it left.
use Rattle.std.specs.Prelude.{◌≡◌, ◌≢◌, ℕ, List, [], true, false, None, Result, Ok}
use Rattle.std.specs.Io.KnownBytes.{append_known}
use Rattle.std.specs.Str.{IsUtf8}
use Rattle.dcm_devices.specs.Writing.{Writer}
use Rattle.dcm_files.specs.declared.folders.Links.TheVariants.{Followed}
use Rattle.dcm_walk.specs.Folder.{WalksFolder}
use Rattle.dcm_walk.specs.List.{WalksList}
use Rattle.dcm_walk.specs.Visits.{Named}
use Rattle.dcm_walk.specs.declared.visitor.What.TheVariants.{File}
use Rattle.dcm_cli.specs.Calls.{Reader}
use Rattle.dcm_trees.specs.declared.beginning.Begun.{Begun}
use Rattle.dcm_trees.specs.declared.fate.Fate.TheVariants as fates
use Rattle.dcm_trees.specs.declared.file.Done.{Done}
use Rattle.dcm_trees.specs.declared.progress.Stop.{Stop as RunStop}
use Rattle.dcm_trees.specs.declared.progress.Shared.{Shared}
use Rattle.dcm_trees.specs.declared.run.TreeRun.{TreeRun}
use Rattle.dcm_trees.specs.Fate.{is_written, has_output, fate_of}
use Rattle.dcm_trees.specs.File.{DoesName, is_media_index}
use Rattle.dcm_trees.specs.Manner.{Manner}
use Rattle.dcm_trees.specs.Share.{is_of}
use Rattle.dcm_trees.specs.Task.{Task, task_of}
use Rattle.dcm_trees.specs.Tree.{VisitsAll, VisitsListed}
use Rattle.dcm_trees.specs.Work.{visits_of}
use Rattle.dcm_tree_laws.specs.Again.{IsThere, OfAll, sure}
use Rattle.dcm_tree_laws.specs.Copied.{FileWasThere, IsSettled, rows_again}
use Rattle.dcm_tree_laws.specs.Copies.{IsAsItWas, HasFile, fate_again, again, SameRow}
use Rattle.dcm_tree_laws.specs.Determined.{FileAt, FileEnd, EndsAs, as_whole, working, working_folders}
use Rattle.dcm_tree_laws.specs.FileSystem.{FileSystem, Tree, Host, number_of, at_path, folders_do}
use Rattle.dcm_tree_laws.specs.Laws.{part_path}
use Rattle.dcm_tree_laws.specs.OneRow.{RowsOf}
use Rattle.dcm_tree_laws.specs.Rows.{Visit, noted}
use Rattle.dcm_tree_laws.specs.Single.{TellsAll}
use Rattle.dcm_tree_laws.specs.Together.{IsFree, IsNameOf, OneRun, AreBeside, IsToldBy, its_own, end_fate}
use Rattle.dcm_tree_laws.specs.Twice.{OfRows, FileIs}

-- ---- one name

-- what a row says of a file with these bytes, which ends without an output
pub record EndsWithout (task : Task) (bytes : List ℕ) (done : Done) : Type 0 where
  pub told : IsToldBy task bytes done
  pub not : is_written done.fate ≡ false

-- it has that row again, and all is as it was
pub record IsWithoutAgain (done : Done) (before : FileSystem) (r : Result Done RunStop) (after : FileSystem)
    : Type 0 where
  pub row : r ≡ Ok done
  pub same : IsAsItWas before.now after.now

-- so it is in a run that keeps names, where its output is free, no call fails that need not, and the part was removed
abbrev pub WithoutIsLeft : {I O E : Type 0} → (F : Type 0) → Reader I → Writer O → Writer E → Type 0
WithoutIsLeft {I} {O} {E} F reader output errors =
    (h : Host I O) (m : Manner) (n : Named) (mode : ℕ) (done : Done) (from : E) (before : FileSystem)
    (r : Result Done RunStop) (to : E) (after : FileSystem) → TellsAll h output → m.keeps_names ≡ true
    → is_media_index n.relative ≡ false → IsUtf8 m.part → at_path h before.now m.part ≡ None → IsUtf8 n.path
    → (f : FileAt h Followed before.now n.path) → EndsWithout m.task (before.now.bytes (number_of f.file)) done
    → IsFree h m.output n.relative before.now
    → DoesName (working {F = F} h reader output errors) m n (File mode) from before r to after
    → after.unremoved ≡ false → IsWithoutAgain done before r after

-- ---- what stands

-- what a row says of a name still stands: its output is there, by its name; or it ends without one, and that is free;
-- or it is no file, or the index of a medium
pub data KeptStands {I O : Type 0} (h : Host I O) (task : Task) (output : List ℕ) (t : Tree) (v : Visit) (done : Done)
    : Type 0 where
  kept_there : (mode : ℕ) → v.what ≡ File mode → is_media_index v.named.relative ≡ false
      → fate_again done.fate ≡ fates.There → done.instance ≡ None → IsThere h output v.named.relative t
      → KeptStands h task output t v done
  kept_without : (mode : ℕ) → v.what ≡ File mode → is_media_index v.named.relative ≡ false → (f : HasFile h t v)
      → EndsWithout task (t.bytes (number_of f.file.file)) done → IsFree h output v.named.relative t
      → KeptStands h task output t v done
  kept_index : (mode : ℕ) → v.what ≡ File mode → is_media_index v.named.relative ≡ true
      → done ≡ its_own fates.MediaIndex → KeptStands h task output t v done
  kept_no_file : ((mode : ℕ) → v.what ≢ File mode) → done ≡ its_own (fate_of v.what)
      → KeptStands h task output t v done

-- what became of a name in a run is what a row said of it that stood at the start
abbrev pub WasKeptAgain : {I O : Type 0} → Host I O → Task → (output : List ℕ) → (start : Tree) → Visit → Done → Type 0
WasKeptAgain h task output start v done = (first : Done) → KeptStands h task output start v first
    → SameRow v.named done (again first)

-- what some row says of a name of the run's share stands
abbrev pub KeptStandsThere : {I O : Type 0} → Host I O → Task → (output : List ℕ) → Tree → Shared → Visit → Type 0
KeptStandsThere h task output t shared v = is_of shared.part.number shared.part.count v.named.relative ≡ true
    → (done : Done) × KeptStands h task output t v done

-- where it is so of all these names, all is as it was, and the rows say so
abbrev pub AllKept : {I O : Type 0} → Host I O → Task → (output : List ℕ) → (start now : Tree) → Shared → List Visit
    → (text : List ℕ) → Type 0
AllKept h task output start now shared visits text = OfAll (KeptStandsThere h task output start shared) visits
    → IsAsItWas start now × RowsOf (WasKeptAgain h task output start) shared visits text

-- ---- all of them

-- the names in a folder were visited, these in this order, and the manifest has these rows
pub record FolderIsKept {I O F W E : Type 0} (h : Host I O) (reader : Reader I) (output : Writer O) (m : Writer W)
    (errors : Writer E) (run : TreeRun) (path : List ℕ) (begun : Begun) (opened : F) (headed : W) (from : E)
    (before : FileSystem) (status : ℕ) (left : W) (to : E) (after : FileSystem)
    (v : VisitsAll (working h reader output errors) m run path begun opened headed from before status left to after)
    : Type 0 where
  pub visits : List Visit
  pub text : List ℕ
  pub walks : WalksFolder (working_folders h (sure (folders_do {F = F} h)))
      (noted (visits_of (working {F = F} h reader output errors) m)) path begun.number
      opened ((v.start, from), []) before v.walked ((v.last, v.told), visits) after
  pub manifest : m.contents left ≡ append_known (m.contents headed) text
  pub kept : AllKept h (task_of run.task) run.output.now before.now after.now v.start.shared visits text

pub record ListIsKept {I O F W E : Type 0} (h : Host I O) (reader : Reader I) (output : Writer O) (m : Writer W)
    (errors : Writer E) (run : TreeRun) (list : List ℕ) (begun : Begun) (input : I) (headed : W) (from : E)
    (before : FileSystem) (status : ℕ) (left : W) (to : E) (after : FileSystem) (read : I)
    (v : VisitsListed (working {F = F} h reader output errors) m run list begun input headed from before status left
    to after read)
    : Type 0 where
  pub visits : List Visit
  pub text : List ℕ
  pub walks : WalksList (working_folders h (sure (folders_do {F = F} h)))
      (noted (visits_of (working {F = F} h reader output errors) m)) (as_whole h reader).gets begun.number
      ((v.start, from), []) before input v.walked ((v.last, v.told), visits) after read
  pub manifest : m.contents left ≡ append_known (m.contents headed) text
  pub kept : AllKept h (task_of run.task) run.output.now before.now after.now v.start.shared visits text

-- at the end of a run that goes on and keeps names, was begun, and did not end before its last name, where no call
-- fails that need not
abbrev pub AgainIsKept : {I O W E : Type 0} → (F : Type 0) → Reader I → Writer O → Writer W → Writer E → Type 0
AgainIsKept {I} {O} {W} {E} F reader output m errors =
    (h : Host I O) (run : TreeRun) (path : List ℕ) (begun : Begun) (opened : F) (headed : W) (from : E)
    (before : FileSystem) (status : ℕ) (left : W) (to : E) (after : FileSystem) → TellsAll h output
    → run.options.continues ≡ true → run.options.keeps_names ≡ true → before.written ≡ None
    → begun.part.items ≡ part_path run → IsUtf8 (part_path run) → at_path h before.now (part_path run) ≡ None
    → (v : VisitsAll (working h reader output errors) m run path begun opened headed from before status left to after)
    → v.last.stop ≡ None → after.unremoved ≡ false
    → FolderIsKept h reader output m errors run path begun opened headed from before status left to after v

abbrev pub AgainIsKeptOfList : {I O W E : Type 0} → (F : Type 0) → Reader I → Writer O → Writer W → Writer E → Type 0
AgainIsKeptOfList {I} {O} {W} {E} F reader output m errors =
    (h : Host I O) (run : TreeRun) (list : List ℕ) (begun : Begun) (input : I) (headed : W) (from : E)
    (before : FileSystem) (status : ℕ) (left : W) (to : E) (after : FileSystem) (read : I) → TellsAll h output
    → run.options.continues ≡ true → run.options.keeps_names ≡ true → before.written ≡ None
    → begun.part.items ≡ part_path run → IsUtf8 (part_path run) → at_path h before.now (part_path run) ≡ None
    → (v : VisitsListed (working {F = F} h reader output errors) m run list begun input headed from before status left
    to after read)
    → v.last.stop ≡ None → after.unremoved ≡ false
    → ListIsKept h reader output m errors run list begun input headed from before status left to after read v

-- ---- what a run leaves to the next one

-- the row of a file is settled, and where it has no output, that is still free
pub record IsKeptSettled {I O : Type 0} (h : Host I O) (part output : List ℕ) (now : Tree) (v : Visit) (done : Done)
    : Type 0 where
  pub settled : IsSettled h part output v done
  pub free : has_output done.fate ≡ false → IsFree h output v.named.relative now

abbrev pub FileIsKeptSettled : {I O : Type 0} → Host I O → (part output : List ℕ) → (now : Tree) → Visit → Done → Type 0
FileIsKeptSettled h part output now v done = FileIs (IsKeptSettled h part output now v) v done

-- what the row of a name says stands, where its file was there at the start
abbrev pub WasKept : {I O : Type 0} → Host I O → Task → (part output : List ℕ) → (start now : Tree) → Visit → Done
    → Type 0
WasKept h task part output start now v done = FileWasThere h start v → FileIsKeptSettled h part output now v done
    → KeptStands h task output now v done

-- the names in a folder were visited, these in this order; the manifest has their rows, and what these say stands for
-- the next run
pub record FolderHasKept {I O F W E : Type 0} (h : Host I O) (reader : Reader I) (output : Writer O) (m : Writer W)
    (errors : Writer E) (run : TreeRun) (path : List ℕ) (begun : Begun) (opened : F) (headed : W) (from : E)
    (before : FileSystem) (status : ℕ) (left : W) (to : E) (after : FileSystem)
    (v : VisitsAll (working h reader output errors) m run path begun opened headed from before status left to after)
    : Type 0 where
  pub visits : List Visit
  pub text : List ℕ
  pub walks : WalksFolder (working_folders h (sure (folders_do {F = F} h)))
      (noted (visits_of (working {F = F} h reader output errors) m)) path begun.number
      opened ((v.start, from), []) before v.walked ((v.last, v.told), visits) after
  pub rows : RowsOf (WasKept h (task_of run.task) (part_path run) run.output.now before.now after.now) v.start.shared
      visits text
  pub manifest : m.contents left ≡ append_known (m.contents headed) text

pub record ListHasKept {I O F W E : Type 0} (h : Host I O) (reader : Reader I) (output : Writer O) (m : Writer W)
    (errors : Writer E) (run : TreeRun) (list : List ℕ) (begun : Begun) (input : I) (headed : W) (from : E)
    (before : FileSystem) (status : ℕ) (left : W) (to : E) (after : FileSystem) (read : I)
    (v : VisitsListed (working {F = F} h reader output errors) m run list begun input headed from before status left
    to after read)
    : Type 0 where
  pub visits : List Visit
  pub text : List ℕ
  pub walks : WalksList (working_folders h (sure (folders_do {F = F} h)))
      (noted (visits_of (working {F = F} h reader output errors) m)) (as_whole h reader).gets begun.number
      ((v.start, from), []) before input v.walked ((v.last, v.told), visits) after read
  pub rows : RowsOf (WasKept h (task_of run.task) (part_path run) run.output.now before.now after.now) v.start.shared
      visits text
  pub manifest : m.contents left ≡ append_known (m.contents headed) text

-- at the end of a run that keeps names, was begun, and did not end before its last name, where no call fails that need
-- not, and the part was removed each time
abbrev pub KeptIsThere : {I O W E : Type 0} → (F : Type 0) → Reader I → Writer O → Writer W → Writer E → Type 0
KeptIsThere {I} {O} {W} {E} F reader output m errors =
    (h : Host I O) (run : TreeRun) (path : List ℕ) (begun : Begun) (opened : F) (headed : W) (from : E)
    (before : FileSystem) (status : ℕ) (left : W) (to : E) (after : FileSystem) → TellsAll h output
    → run.options.keeps_names ≡ true → before.written ≡ None → begun.part.items ≡ part_path run
    → at_path h before.now (part_path run) ≡ None
    → (v : VisitsAll (working h reader output errors) m run path begun opened headed from before status left to after)
    → v.last.stop ≡ None → after.unremoved ≡ false
    → FolderHasKept h reader output m errors run path begun opened headed from before status left to after v

abbrev pub KeptIsThereOfList : {I O W E : Type 0} → (F : Type 0) → Reader I → Writer O → Writer W → Writer E → Type 0
KeptIsThereOfList {I} {O} {W} {E} F reader output m errors =
    (h : Host I O) (run : TreeRun) (list : List ℕ) (begun : Begun) (input : I) (headed : W) (from : E)
    (before : FileSystem) (status : ℕ) (left : W) (to : E) (after : FileSystem) (read : I) → TellsAll h output
    → run.options.keeps_names ≡ true → before.written ≡ None → begun.part.items ≡ part_path run
    → at_path h before.now (part_path run) ≡ None
    → (v : VisitsListed (working {F = F} h reader output errors) m run list begun input headed from before status left
    to after read)
    → v.last.stop ≡ None → after.unremoved ≡ false
    → ListHasKept h reader output m errors run list begun input headed from before status left to after read v

-- the output of a file that ends without one stays free in a run of which no other name comes to be there, or on its way
abbrev pub StaysFree : {I O W E : Type 0} → (F : Type 0) → Reader I → Writer O → Writer W → Writer E → Type 0
StaysFree {I} {O} {W} {E} F reader output m errors =
    (h : Host I O) (task : Task) (folder : List ℕ) (first : Tree) (x : Visit) (mode : ℕ) (bytes : List ℕ)
    (end : FileEnd) (number count : ℕ) (after : Tree) → TellsAll h output → IsNameOf h folder first x mode bytes
    → EndsAs task bytes end → is_written (end_fate end) ≡ false → IsFree h folder x.named.relative first
    → OneRun F h reader output m errors true task folder (AreBeside h folder first x bytes) number count first after
    → IsFree h folder x.named.relative after

-- ---- a second run

-- one, and its rows
pub record IsAgainKept {I O F W E : Type 0} (h : Host I O) (reader : Reader I) (output : Writer O) (m : Writer W)
    (errors : Writer E) (run : TreeRun) (path : List ℕ) (begun : Begun) (opened : F) (headed : W) (from : E)
    (before : FileSystem) (status : ℕ) (left : W) (to : E) (after : FileSystem) : Type 0 where
  pub v : VisitsAll (working {F = F} h reader output errors) m run path begun opened headed from before status left to
      after
  pub has : FolderIsKept h reader output m errors run path begun opened headed from before status left to after v

-- each file of a first run was there at its start, and was written, or met its output, or ended without one for what it
-- holds, and that is still free; and a second run, of the same task and share and into the same folder, visits the same
-- names: all is at its end as it was, and its rows are those of the first, with `there` for `written` and `unplaced`
abbrev pub SecondIsKept : {I O W E : Type 0} → (F : Type 0) → Reader I → Writer O → Writer W → Writer E → Type 0
SecondIsKept {I} {O} {W} {E} F reader output m errors =
    (h : Host I O) (first second : TreeRun) (path : List ℕ) (begun rebegun : Begun) (opened reopened : F)
    (headed reheaded : W) (from refrom : E) (before mid after : FileSystem) (status restatus : ℕ) (left releft : W)
    (to reto : E) → task_of second.task ≡ task_of first.task → second.output.now ≡ first.output.now
    → second.options.part ≡ first.options.part
    → (v : VisitsAll (working h reader output errors) m first path begun opened headed from before status left to mid)
    → (x : FolderHasKept h reader output m errors first path begun opened headed from before status left to mid v)
    → OfRows (FileIsKeptSettled h (part_path first) first.output.now mid.now) x.rows
    → OfAll (FileWasThere h before.now) x.visits
    → (y : IsAgainKept h reader output m errors second path rebegun reopened reheaded refrom mid restatus releft reto
    after) → y.has.visits ≡ x.visits
    → IsAsItWas mid.now after.now × (y.has.text ≡ rows_again x.rows)

-- the same of runs over a list
pub record ListIsAgainKept {I O W E : Type 0} (F : Type 0) (h : Host I O) (reader : Reader I)
    (output : Writer O) (m : Writer W) (errors : Writer E) (run : TreeRun) (list : List ℕ) (begun : Begun) (input : I)
    (headed : W) (from : E) (before : FileSystem) (status : ℕ) (left : W) (to : E) (after : FileSystem) (read : I)
    : Type 0 where
  pub v : VisitsListed (working {F = F} h reader output errors) m run list begun input headed from before status left
      to after read
  pub has : ListIsKept h reader output m errors run list begun input headed from before status left to after read v

abbrev pub SecondIsKeptOfList : {I O W E : Type 0} → (F : Type 0) → Reader I → Writer O → Writer W → Writer E → Type 0
SecondIsKeptOfList {I} {O} {W} {E} F reader output m errors =
    (h : Host I O) (first second : TreeRun) (list : List ℕ) (begun rebegun : Begun) (input reinput : I)
    (headed reheaded : W) (from refrom : E) (before mid after : FileSystem) (status restatus : ℕ) (left releft : W)
    (to reto : E) (read reread : I) → task_of second.task ≡ task_of first.task
    → second.output.now ≡ first.output.now → second.options.part ≡ first.options.part
    → (v : VisitsListed (working {F = F} h reader output errors) m first list begun input headed from before status left
    to mid read)
    → (x : ListHasKept h reader output m errors first list begun input headed from before status left to mid read v)
    → OfRows (FileIsKeptSettled h (part_path first) first.output.now mid.now) x.rows
    → OfAll (FileWasThere h before.now) x.visits
    → (y : ListIsAgainKept F h reader output m errors second list rebegun reinput reheaded refrom mid restatus releft
    reto after reread) → y.has.visits ≡ x.visits
    → IsAsItWas mid.now after.now × (y.has.text ≡ rows_again x.rows)
