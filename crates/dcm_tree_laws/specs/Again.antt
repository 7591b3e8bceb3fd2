-- Outputs that are there, and runs that go on with them.
use Rattle.std.specs.Prelude.{◌≡◌, ◌≢◌, ℕ, nat_le, length, List, [], ◌∷◌, true, false, Some, None, Result, Ok, Err}
use Rattle.std.specs.Io.KnownBytes.{append_known}
use Rattle.std.specs.Str.{IsUtf8}
use Rattle.std.specs.declared.io.Error.{Error}
use Rattle.dcm_devices.specs.Writing.{Writer}
use Rattle.dcm_files.specs.declared.folders.Found.{Found}
use Rattle.dcm_files.specs.declared.folders.FoundKind.{FoundKind}
use Rattle.dcm_files.specs.declared.folders.FoundKind.TheVariants as kinds
use Rattle.dcm_files.specs.Devices.{MayDo}
use Rattle.dcm_files.specs.Folders.{FoldersDo}
use Rattle.dcm_walk.specs.Folder.{WalksFolder}
use Rattle.dcm_walk.specs.List.{WalksList}
use Rattle.dcm_walk.specs.Names.{PATH_LIMIT, below}
use Rattle.dcm_walk.specs.Visits.{Named}
use Rattle.dcm_walk.specs.declared.visitor.What.TheVariants.{File}
use Rattle.dcm_cli.specs.Calls.{Reader, Reports}
use Rattle.dcm_trees.specs.declared.beginning.Begun.{Begun}
use Rattle.dcm_trees.specs.declared.fate.Fate.TheVariants.{There}
use Rattle.dcm_trees.specs.declared.file.Done.{Done}
use Rattle.dcm_trees.specs.declared.progress.Stop.{Stop as RunStop}
use Rattle.dcm_trees.specs.declared.progress.Shared.{Shared}
use Rattle.dcm_trees.specs.declared.run.TreeRun.{TreeRun}
use Rattle.dcm_trees.specs.Fate.{is_written}
use Rattle.dcm_trees.specs.File.{DoesName, is_media_index}
use Rattle.dcm_trees.specs.Manner.{Manner}
use Rattle.dcm_trees.specs.Share.{is_of}
use Rattle.dcm_trees.specs.Tree.{VisitsAll, VisitsListed}
use Rattle.dcm_trees.specs.Work.{visits_of}
use Rattle.dcm_trees.specs.World.{World, world}
use Rattle.dcm_tree_laws.specs.FileSystem.{FileSystem, Tree, Host, at_path, may_do, folders_do}
use Rattle.dcm_tree_laws.specs.Laws.{over, part_path}
use Rattle.dcm_tree_laws.specs.OneRow.{RowsOf}
use Rattle.dcm_tree_laws.specs.Rows.{Visit, noted}

-- ---- an output that is there

-- a thing of this kind is at a path that is text
pub record IsAt {I O : Type 0} (h : Host I O) (kind : FoundKind) (t : Tree) (path : List ℕ) : Type 0 where
  pub text : IsUtf8 path
  pub found : Found
  pub is : at_path h t path ≡ Some found
  pub kind_is : found.kind ≡ kind

-- the output of a relative name is there: at its path, which the system takes, is a regular file, and each folder on
-- its way in the folder of the outputs is there
pub record IsThere {I O : Type 0} (h : Host I O) (output relative : List ℕ) (t : Tree) : Type 0 where
  pub fits : nat_le (length (below output relative)) PATH_LIMIT ≡ true
  pub file : IsAt h kinds.File t (below output relative)
  pub way : (folder behind : List ℕ) → relative ≡ below folder behind → IsAt h kinds.Folder t (below output folder)

-- ---- which calls are made

-- no look fails
abbrev pub sure : {S O F : Type 0} → FoldersDo S O F → FoldersDo S O F
sure d = record d {
  finds = λ before path links r after. d.finds before path links r after × ((e : Error) → r ≢ Err e);
  modes = λ before folder name r after. d.modes before folder name r after × ((e : Error) → r ≢ Err e);
}

-- nothing is opened, moved, removed or closed, and no other call is made
abbrev pub no_calls : {S I O : Type 0} → MayDo S I O
no_calls = record {
  words = λ before r after. ⊥;
  stdin = λ before d after. ⊥;
  opens = λ before path r after. ⊥;
  releases = λ before d after. ⊥;
  stdout = λ before r after. ⊥;
  creates = λ before path r after. ⊥;
  looks = λ before path r after. ⊥;
  makes = λ before path r after. ⊥;
  seizes = λ before path r after. ⊥;
  holds = λ before path r after. ⊥;
  keeps = λ before from to r after. ⊥;
  moves = λ before from to r after. ⊥;
  removes = λ before path r after. ⊥;
  closes = λ before d r after. ⊥;
}

-- nothing is made, and nothing gets a second name
abbrev pub no_making : {S O F : Type 0} → FoldersDo S O F → FoldersDo S O F
no_making d = record d {
  makes_folder = λ before path mode r after. ⊥;
  makes_as = λ before path mode r after. ⊥;
  links = λ before from to r after. ⊥;
}

-- a run is over a file system of which no look fails
abbrev pub over_sure : {I O F E : Type 0} → Host I O → Reader I → Writer O → Writer E → World FileSystem I O F E
over_sure h reader output errors = world (may_do h) (sure (folders_do h)) reader output errors

-- and only looks are made at it
abbrev pub only_looks : {I O F E : Type 0} → Host I O → Reader I → Writer O → Writer E → World FileSystem I O F E
only_looks h reader output errors = world no_calls (no_making (sure (folders_do h))) reader output errors

-- ---- one name

abbrev pub left_there : Done
left_there = record { fate = There; instance = None }

-- it is left as it is: it has that row, nothing is told, nothing is changed, and only looks are made
pub record IsLeft {I O E : Type 0} (F : Type 0) (h : Host I O) (reader : Reader I) (output : Writer O)
    (errors : Writer E) (m : Manner) (n : Named) (mode : ℕ) (from : E) (before : FileSystem) (r : Result Done RunStop)
    (to : E) (after : FileSystem) : Type 0 where
  pub row : r ≡ Ok left_there
  pub told : Reports errors from to []
  pub same : after ≡ before
  pub looked : DoesName (only_looks {F = F} h reader output errors) m n (File mode) from before r to after

-- so it is of a file whose output has its name and is there, in a run that goes on with what is there
abbrev pub ThereIsLeft : {I O E : Type 0} → (F : Type 0) → Reader I → Writer O → Writer E → Type 0
ThereIsLeft {I} {O} {E} F reader output errors =
    (h : Host I O) (m : Manner) (n : Named) (mode : ℕ) (from : E) (before : FileSystem) (r : Result Done RunStop)
    (to : E) (after : FileSystem) → m.continues ≡ true → m.keeps_names ≡ true
    → is_media_index n.relative ≡ false → IsThere h m.output n.relative before.now
    → DoesName (over_sure {F = F} h reader output errors) m n (File mode) from before r to after
    → IsLeft F h reader output errors m n mode from before r to after

-- ---- all of them

-- what became of a name in a run is that its output was left, where it was there at the start
abbrev pub WasLeft : {I O : Type 0} → Host I O → (output : List ℕ) → (start : Tree) → Visit → Done → Type 0
WasLeft h output start v done = (mode : ℕ) → v.what ≡ File mode → is_media_index v.named.relative ≡ false
    → IsThere h output v.named.relative start → done ≡ left_there

-- a name of the run's share that is a file has its output there
abbrev pub HasThere : {I O : Type 0} → Host I O → (output : List ℕ) → Tree → Shared → Visit → Type 0
HasThere h output t shared v = (mode : ℕ) → v.what ≡ File mode
    → is_of shared.part.number shared.part.count v.named.relative ≡ true → is_media_index v.named.relative ≡ false
    → IsThere h output v.named.relative t

-- something is so of each of these visits
abbrev pub OfAll : (Visit → Type 0) → List Visit → Type 0
OfAll Is [] = Unit {0}
OfAll Is (v ∷ visits) = Is v × OfAll Is visits

-- the names in a folder were visited, these in this order; the manifest has their rows, and what was there was left.
-- Where the outputs of all were there, nothing was changed at any time
pub record FolderIsStill {I O F W E : Type 0} (h : Host I O) (reader : Reader I) (output : Writer O) (m : Writer W)
    (errors : Writer E) (run : TreeRun) (path : List ℕ) (begun : Begun) (opened : F) (headed : W) (from : E)
    (before : FileSystem) (status : ℕ) (left : W) (to : E) (after : FileSystem)
    (v : VisitsAll (over_sure h reader output errors) m run path begun opened headed from before status left to after)
    : Type 0 where
  pub visits : List Visit
  pub text : List ℕ
  pub walks : WalksFolder (sure (folders_do {F = F} h))
      (noted (visits_of (over_sure {F = F} h reader output errors) m)) path begun.number
      opened ((v.start, from), []) before v.walked ((v.last, v.told), visits) after
  pub rows : RowsOf (WasLeft h run.output.now before.now) v.start.shared visits text
  pub manifest : m.contents left ≡ append_known (m.contents headed) text
  pub still : OfAll (HasThere h run.output.now before.now v.start.shared) visits → after ≡ before

pub record ListIsStill {I O F W E : Type 0} (h : Host I O) (reader : Reader I) (output : Writer O) (m : Writer W)
    (errors : Writer E) (run : TreeRun) (list : List ℕ) (begun : Begun) (input : I) (headed : W) (from : E)
    (before : FileSystem) (status : ℕ) (left : W) (to : E) (after : FileSystem) (read : I)
    (v : VisitsListed (over_sure {F = F} h reader output errors) m run list begun input headed from before status left
    to after read)
    : Type 0 where
  pub visits : List Visit
  pub text : List ℕ
  pub walks : WalksList (sure (folders_do {F = F} h))
      (noted (visits_of (over_sure {F = F} h reader output errors) m)) reader.gets begun.number ((v.start, from), [])
      before input v.walked ((v.last, v.told), visits) after read
  pub rows : RowsOf (WasLeft h run.output.now before.now) v.start.shared visits text
  pub manifest : m.contents left ≡ append_known (m.contents headed) text
  pub still : OfAll (HasThere h run.output.now before.now v.start.shared) visits → after ≡ before

-- at the end of a run that goes on and keeps names, was begun, and did not end before its last name
abbrev pub AgainIsStill : {I O W E : Type 0} → (F : Type 0) → Reader I → Writer O → Writer W → Writer E → Type 0
AgainIsStill {I} {O} {W} {E} F reader output m errors =
    (h : Host I O) (run : TreeRun) (path : List ℕ) (begun : Begun) (opened : F) (headed : W) (from : E)
    (before : FileSystem) (status : ℕ) (left : W) (to : E) (after : FileSystem) → run.options.continues ≡ true
    → run.options.keeps_names ≡ true → before.written ≡ None → begun.part.items ≡ part_path run
    → at_path h before.now (part_path run) ≡ None
    → (v : VisitsAll (over_sure h reader output errors) m run path begun opened headed from before status left to after)
    → v.last.stop ≡ None
    → FolderIsStill h reader output m errors run path begun opened headed from before status left to after v

abbrev pub AgainIsStillOfList : {I O W E : Type 0} → (F : Type 0) → Reader I → Writer O → Writer W → Writer E → Type 0
AgainIsStillOfList {I} {O} {W} {E} F reader output m errors =
    (h : Host I O) (run : TreeRun) (list : List ℕ) (begun : Begun) (input : I) (headed : W) (from : E)
    (before : FileSystem) (status : ℕ) (left : W) (to : E) (after : FileSystem) (read : I)
    → run.options.continues ≡ true → run.options.keeps_names ≡ true → before.written ≡ None
    → begun.part.items ≡ part_path run → at_path h before.now (part_path run) ≡ None
    → (v : VisitsListed (over_sure {F = F} h reader output errors) m run list begun input headed from before status
    left to after read)
    → v.last.stop ≡ None
    → ListIsStill h reader output m errors run list begun input headed from before status left to after read v

-- ---- what a run leaves to the next one

-- what became of a name in a run says that its output was written only where the next run finds it by that name
abbrev pub WasMade : {I O : Type 0} → Host I O → (output : List ℕ) → (now : Tree) → Visit → Done → Type 0
WasMade h output now v done = is_written done.fate ≡ true → IsThere h output v.named.relative now

-- the names in a folder were visited, these in this order; the manifest has their rows, and what these say was written
-- is there
pub record FolderHasMade {I O F W E : Type 0} (h : Host I O) (reader : Reader I) (output : Writer O) (m : Writer W)
    (errors : Writer E) (run : TreeRun) (path : List ℕ) (begun : Begun) (opened : F) (headed : W) (from : E)
    (before : FileSystem) (status : ℕ) (left : W) (to : E) (after : FileSystem)
    (v : VisitsAll (over h reader output errors) m run path begun opened headed from before status left to after)
    : Type 0 where
  pub visits : List Visit
  pub text : List ℕ
  pub walks : WalksFolder (folders_do {F = F} h)
      (noted (visits_of (over {F = F} h reader output errors) m)) path begun.number
      opened ((v.start, from), []) before v.walked ((v.last, v.told), visits) after
  pub rows : RowsOf (WasMade h run.output.now after.now) v.start.shared visits text
  pub manifest : m.contents left ≡ append_known (m.contents headed) text

pub record ListHasMade {I O F W E : Type 0} (h : Host I O) (reader : Reader I) (output : Writer O) (m : Writer W)
    (errors : Writer E) (run : TreeRun) (list : List ℕ) (begun : Begun) (input : I) (headed : W) (from : E)
    (before : FileSystem) (status : ℕ) (left : W) (to : E) (after : FileSystem) (read : I)
    (v : VisitsListed (over {F = F} h reader output errors) m run list begun input headed from before status left to
    after read)
    : Type 0 where
  pub visits : List Visit
  pub text : List ℕ
  pub walks : WalksList (folders_do {F = F} h) (noted (visits_of (over {F = F} h reader output errors) m)) reader.gets
      begun.number ((v.start, from), []) before input v.walked ((v.last, v.told), visits) after read
  pub rows : RowsOf (WasMade h run.output.now after.now) v.start.shared visits text
  pub manifest : m.contents left ≡ append_known (m.contents headed) text

-- at the end of a run that keeps names, was begun, and did not end before its last name, whatever calls fail
abbrev pub MadeIsThere : {I O W E : Type 0} → (F : Type 0) → Reader I → Writer O → Writer W → Writer E → Type 0
MadeIsThere {I} {O} {W} {E} F reader output m errors =
    (h : Host I O) (run : TreeRun) (path : List ℕ) (begun : Begun) (opened : F) (headed : W) (from : E)
    (before : FileSystem) (status : ℕ) (left : W) (to : E) (after : FileSystem) → run.options.keeps_names ≡ true
    → before.written ≡ None → begun.part.items ≡ part_path run
    → (v : VisitsAll (over h reader output errors) m run path begun opened headed from before status left to after)
    → v.last.stop ≡ None
    → FolderHasMade h reader output m errors run path begun opened headed from before status left to after v

abbrev pub MadeIsThereOfList : {I O W E : Type 0} → (F : Type 0) → Reader I → Writer O → Writer W → Writer E → Type 0
MadeIsThereOfList {I} {O} {W} {E} F reader output m errors =
    (h : Host I O) (run : TreeRun) (list : List ℕ) (begun : Begun) (input : I) (headed : W) (from : E)
    (before : FileSystem) (status : ℕ) (left : W) (to : E) (after : FileSystem) (read : I)
    → run.options.keeps_names ≡ true → before.written ≡ None → begun.part.items ≡ part_path run
    → (v : VisitsListed (over {F = F} h reader output errors) m run list begun input headed from before status left
    to after read)
    → v.last.stop ≡ None
    → ListHasMade h reader output m errors run list begun input headed from before status left to after read v
