-- A run that names outputs by the instances in them, and a second one over what it left.
use Rattle.std.specs.Prelude.{◌≢◌, ◌≡◌, ℕ, List, [], ◌++◌, Bool, true, false, None}
use Rattle.std.specs.Io.KnownBytes.{append_known}
use Rattle.dcm_devices.specs.Writing.{Writer}
use Rattle.dcm_walk.specs.Folder.{WalksFolder}
use Rattle.dcm_walk.specs.List.{WalksList}
use Rattle.dcm_walk.specs.Names.{below}
use Rattle.dcm_walk.specs.declared.visitor.What.TheVariants.{File}
use Rattle.dcm_cli.specs.Calls.{Reader}
use Rattle.dcm_trees.specs.declared.beginning.Begun.{Begun}
use Rattle.dcm_trees.specs.declared.fate.Fate.{Fate}
use Rattle.dcm_trees.specs.declared.fate.Fate.TheVariants as fates
use Rattle.dcm_trees.specs.declared.file.Done.{Done}
use Rattle.dcm_trees.specs.declared.progress.Shared.{Shared}
use Rattle.dcm_trees.specs.declared.run.TreeRun.{TreeRun}
use Rattle.dcm_trees.specs.Fate.{word}
use Rattle.dcm_trees.specs.Task.{Task, task_of}
use Rattle.dcm_trees.specs.Tree.{VisitsAll, VisitsListed}
use Rattle.dcm_trees.specs.Work.{row, output_of, name_in, visits_of}
use Rattle.dcm_tree_laws.specs.Again.{OfAll, sure}
use Rattle.dcm_tree_laws.specs.Copies.{HasFile, Stands, again, IsAsItWas, FolderIsAsItWas, ListIsAsItWas}
use Rattle.dcm_tree_laws.specs.Determined.{FollowsLinks, as_whole, working, working_folders}
use Rattle.dcm_tree_laws.specs.FileSystem.{FileSystem, Tree, Host, place_of, at_path, folders_do}
use Rattle.dcm_tree_laws.specs.Laws.{part_path}
use Rattle.dcm_tree_laws.specs.OneRow.{RowsOf, no_visit, of_another, and_row}
use Rattle.dcm_tree_laws.specs.Rows.{Visit, noted}
use Rattle.dcm_tree_laws.specs.Single.{TellsAll}
use Rattle.dcm_tree_laws.specs.Twice.{OfRows, FileIs}

-- ---- what a run leaves to the next one

-- the file of a name was there at the start, where it is one
abbrev pub FileWasThere : {I O : Type 0} → Host I O → Tree → Visit → Type 0
FileWasThere h start v = (mode : ℕ) → v.what ≡ File mode → HasFile h start v

-- an output that was met is at another place than the part
abbrev pub IsElsewhere : {I O : Type 0} → Host I O → (part output : List ℕ) → Visit → Done → Type 0
IsElsewhere h part output v done =
    place_of h (below output (name_in v.named.relative done.instance)) ≢ place_of h part

-- the row of a file that has another fate may be another one in the next run
abbrev pub is_settled : Fate → Bool
is_settled fates.Written = true
is_settled fates.Unplaced = true
is_settled fates.There = true
is_settled fates.Refused = true
is_settled fates.Pixels = true
is_settled fates.Unnamed = true
is_settled _ = false

pub record IsSettled {I O : Type 0} (h : Host I O) (part output : List ℕ) (v : Visit) (done : Done) : Type 0 where
  pub settled : is_settled done.fate ≡ true
  pub elsewhere : done.fate ≡ fates.There → IsElsewhere h part output v done

abbrev pub FileIsSettled : {I O : Type 0} → Host I O → (part output : List ℕ) → Visit → Done → Type 0
FileIsSettled h part output v done = FileIs (IsSettled h part output v) v done

-- or another file was at the path of the instance in it, which is another place than the part
pub data IsSettledAs {I O : Type 0} (h : Host I O) (part output : List ℕ) (v : Visit) (done : Done) : Type 0 where
  is_so : IsSettled h part output v done → IsSettledAs h part output v done
  has_other : done.fate ≡ fates.Taken → IsElsewhere h part output v done → IsSettledAs h part output v done

abbrev pub FileIsSettledAs : {I O : Type 0} → Host I O → (part output : List ℕ) → Visit → Done → Type 0
FileIsSettledAs h part output v done = FileIs (IsSettledAs h part output v) v done

-- what the row of a name says stands, where its file was there at the start
abbrev pub WasCopied : {I O : Type 0} → Host I O → Task → (part output : List ℕ) → (start now : Tree) → Visit → Done
    → Type 0
WasCopied h task part output start now v done = FileWasThere h start v → FileIsSettledAs h part output v done
    → Stands h task output now v done

-- the names in a folder were visited, these in this order; the manifest has their rows, and what these say stands for
-- the next run
pub record FolderHasCopies {I O F W E : Type 0} (h : Host I O) (reader : Reader I) (output : Writer O) (m : Writer W)
    (errors : Writer E) (run : TreeRun) (path : List ℕ) (begun : Begun) (opened : F) (headed : W) (from : E)
    (before : FileSystem) (status : ℕ) (left : W) (to : E) (after : FileSystem)
    (v : VisitsAll (working h reader output errors) m run path begun opened headed from before status left to after)
    : Type 0 where
  pub visits : List Visit
  pub text : List ℕ
  pub walks : WalksFolder (working_folders h (sure (folders_do {F = F} h)))
      (noted (visits_of (working {F = F} h reader output errors) m)) path begun.number
      opened ((v.start, from), []) before v.walked ((v.last, v.told), visits) after
  pub rows : RowsOf (WasCopied h (task_of run.task) (part_path run) run.output.now before.now after.now) v.start.shared
      visits text
  pub manifest : m.contents left ≡ append_known (m.contents headed) text

pub record ListHasCopies {I O F W E : Type 0} (h : Host I O) (reader : Reader I) (output : Writer O) (m : Writer W)
    (errors : Writer E) (run : TreeRun) (list : List ℕ) (begun : Begun) (input : I) (headed : W) (from : E)
    (before : FileSystem) (status : ℕ) (left : W) (to : E) (after : FileSystem) (read : I)
    (v : VisitsListed (working {F = F} h reader output errors) m run list begun input headed from before status left
    to after read)
    : Type 0 where
  pub visits : List Visit
  pub text : List ℕ
  pub walks : WalksList (working_folders h (sure (folders_do {F = F} h)))
      (noted (visits_of (working {F = F} h reader output errors) m)) (as_whole h reader).gets begun.number
      ((v.start, from), []) before input v.walked ((v.last, v.told), visits) after read
  pub rows : RowsOf (WasCopied h (task_of run.task) (part_path run) run.output.now before.now after.now) v.start.shared
      visits text
  pub manifest : m.contents left ≡ append_known (m.contents headed) text

-- at the end of a run that names outputs by the instances in them, was begun, and did not end before its last name,
-- where no call fails that need not
abbrev pub CopiesAreThere : {I O W E : Type 0} → (F : Type 0) → Reader I → Writer O → Writer W → Writer E → Type 0
CopiesAreThere {I} {O} {W} {E} F reader output m errors =
    (h : Host I O) (run : TreeRun) (path : List ℕ) (begun : Begun) (opened : F) (headed : W) (from : E)
    (before : FileSystem) (status : ℕ) (left : W) (to : E) (after : FileSystem) → TellsAll h output
    → run.options.keeps_names ≡ false → before.written ≡ None → begun.part.items ≡ part_path run
    → at_path h before.now (part_path run) ≡ None → FollowsLinks h before.now
    → (v : VisitsAll (working h reader output errors) m run path begun opened headed from before status left to after)
    → v.last.stop ≡ None
    → FolderHasCopies h reader output m errors run path begun opened headed from before status left to after v

abbrev pub CopiesAreThereOfList : {I O W E : Type 0} → (F : Type 0) → Reader I → Writer O → Writer W → Writer E → Type 0
CopiesAreThereOfList {I} {O} {W} {E} F reader output m errors =
    (h : Host I O) (run : TreeRun) (list : List ℕ) (begun : Begun) (input : I) (headed : W) (from : E)
    (before : FileSystem) (status : ℕ) (left : W) (to : E) (after : FileSystem) (read : I) → TellsAll h output
    → run.options.keeps_names ≡ false → before.written ≡ None → begun.part.items ≡ part_path run
    → at_path h before.now (part_path run) ≡ None → FollowsLinks h before.now
    → (v : VisitsListed (working {F = F} h reader output errors) m run list begun input headed from before status left
    to after read)
    → v.last.stop ≡ None
    → ListHasCopies h reader output m errors run list begun input headed from before status left to after read v

-- ---- a second run

-- one, and its rows
pub record IsAgainAsItWas {I O F W E : Type 0} (h : Host I O) (reader : Reader I) (output : Writer O) (m : Writer W)
    (errors : Writer E) (run : TreeRun) (path : List ℕ) (begun : Begun) (opened : F) (headed : W) (from : E)
    (before : FileSystem) (status : ℕ) (left : W) (to : E) (after : FileSystem) : Type 0 where
  pub v : VisitsAll (working {F = F} h reader output errors) m run path begun opened headed from before status left to
      after
  pub has : FolderIsAsItWas h reader output m errors run path begun opened headed from before status left to after v

-- the same rows, but `there` where they say that an output was written
abbrev pub rows_again : {IsSo : Visit → Done → Type 0} {shared : Shared} {visits : List Visit} {text : List ℕ}
    → RowsOf IsSo shared visits text → List ℕ
rows_again (no_visit v t) = []
rows_again (of_another earlier v rows none more) = rows_again rows
rows_again (and_row earlier rest v done rows share so more is) =
    rows_again rows ++ row v.named.name (output_of v.named (again done)) (word (again done).fate)

-- each file of a first run was there at its start, and was written, or met its output or another file at the path of
-- that, or ended without one for what it holds; and a second run, of the same task and share and into the same folder,
-- visits the same names: all is at its end as it was, and its rows are those of the first, with `there` for `written`
-- and `unplaced`
abbrev pub SecondIsAsItWas : {I O W E : Type 0} → (F : Type 0) → Reader I → Writer O → Writer W → Writer E → Type 0
SecondIsAsItWas {I} {O} {W} {E} F reader output m errors =
    (h : Host I O) (first second : TreeRun) (path : List ℕ) (begun rebegun : Begun) (opened reopened : F)
    (headed reheaded : W) (from refrom : E) (before mid after : FileSystem) (status restatus : ℕ) (left releft : W)
    (to reto : E) → task_of second.task ≡ task_of first.task → second.output.now ≡ first.output.now
    → second.options.part ≡ first.options.part
    → (v : VisitsAll (working h reader output errors) m first path begun opened headed from before status left to mid)
    → (x : FolderHasCopies h reader output m errors first path begun opened headed from before status left to mid v)
    → OfRows (FileIsSettledAs h (part_path first) first.output.now) x.rows → OfAll (FileWasThere h before.now) x.visits
    → (y : IsAgainAsItWas h reader output m errors second path rebegun reopened reheaded refrom mid restatus releft reto
    after)
    → y.has.visits ≡ x.visits
    → IsAsItWas mid.now after.now × (y.has.text ≡ rows_again x.rows)

-- the same of runs over a list
pub record ListIsAgainAsItWas {I O W E : Type 0} (F : Type 0) (h : Host I O) (reader : Reader I)
    (output : Writer O) (m : Writer W) (errors : Writer E) (run : TreeRun) (list : List ℕ) (begun : Begun) (input : I)
    (headed : W) (from : E) (before : FileSystem) (status : ℕ) (left : W) (to : E) (after : FileSystem) (read : I)
    : Type 0 where
  pub v : VisitsListed (working {F = F} h reader output errors) m run list begun input headed from before status left
      to after read
  pub has : ListIsAsItWas h reader output m errors run list begun input headed from before status left to after read v

abbrev pub SecondIsAsItWasOfList : {I O W E : Type 0} → (F : Type 0) → Reader I → Writer O → Writer W → Writer E
    → Type 0
SecondIsAsItWasOfList {I} {O} {W} {E} F reader output m errors =
    (h : Host I O) (first second : TreeRun) (list : List ℕ) (begun rebegun : Begun) (input reinput : I)
    (headed reheaded : W) (from refrom : E) (before mid after : FileSystem) (status restatus : ℕ) (left releft : W)
    (to reto : E) (read reread : I) → task_of second.task ≡ task_of first.task
    → second.output.now ≡ first.output.now → second.options.part ≡ first.options.part
    → (v : VisitsListed (working {F = F} h reader output errors) m first list begun input headed from before status left
    to mid read)
    → (x : ListHasCopies h reader output m errors first list begun input headed from before status left to mid read v)
    → OfRows (FileIsSettledAs h (part_path first) first.output.now) x.rows → OfAll (FileWasThere h before.now) x.visits
    → (y : ListIsAgainAsItWas F h reader output m errors second list rebegun reinput reheaded refrom mid restatus releft
    reto after reread)
    → y.has.visits ≡ x.visits
    → IsAsItWas mid.now after.now × (y.has.text ≡ rows_again x.rows)
