-- The outputs that a run over a tree wrote are new, and at places of their own.
use Rattle.std.specs.Prelude.{◌≡◌, ◌≢◌, ℕ, List, [], ◌∷◌, ◌++◌, Bool, true, false, None}
use Rattle.std.specs.Io.KnownBytes.{append_known}
use Rattle.dcm_devices.specs.Writing.{Writer}
use Rattle.dcm_walk.specs.Folder.{WalksFolder}
use Rattle.dcm_walk.specs.List.{WalksList}
use Rattle.dcm_walk.specs.Names.{below}
use Rattle.dcm_cli.specs.Calls.{Reader}
use Rattle.dcm_trees.specs.declared.beginning.Begun.{Begun}
use Rattle.dcm_trees.specs.declared.file.Done.{Done}
use Rattle.dcm_trees.specs.declared.progress.Shared.{Shared}
use Rattle.dcm_trees.specs.declared.run.TreeRun.{TreeRun}
use Rattle.dcm_trees.specs.Fate.{is_written}
use Rattle.dcm_trees.specs.Tree.{VisitsAll, VisitsListed}
use Rattle.dcm_trees.specs.Work.{name_in, visits_of}
use Rattle.dcm_tree_laws.specs.FileSystem.{FileSystem, Tree, Host, place_of, at_path, folders_do}
use Rattle.dcm_tree_laws.specs.Laws.{over, part_path}
use Rattle.dcm_tree_laws.specs.OneRow.{RowsOf, no_visit, of_another, and_row}
use Rattle.dcm_tree_laws.specs.Rows.{Visit, noted}

-- what became of a name in a run says that its output was written only where nothing was at its path at the start
abbrev pub WasNew : {I O : Type 0} → Host I O → (output : List ℕ) → (start : Tree) → Visit → Done → Type 0
WasNew h output start v done = is_written done.fate ≡ true
    → at_path h start (below output (name_in v.named.relative done.instance)) ≡ None

-- the name of an output that was written
abbrev pub name_if : (was_written : Bool) → (name : List ℕ) → List (List ℕ)
name_if true name = name ∷ []
name_if false name = []

-- the names of the outputs that rows say were written, the latest first
abbrev pub outputs_of : {IsSo : Visit → Done → Type 0} {shared : Shared} {visits : List Visit} {text : List ℕ}
    → RowsOf IsSo shared visits text → List (List ℕ)
outputs_of (no_visit v t) = []
outputs_of (of_another earlier v rows none more) = outputs_of rows
outputs_of (and_row earlier rest v done rows share so more is) =
    name_if (is_written done.fate) (name_in v.named.relative done.instance) ++ outputs_of rows

-- an output is at another place than each of these
abbrev pub IsElsewhere : {I O : Type 0} → Host I O → (output name : List ℕ) → (others : List (List ℕ)) → Type 0
IsElsewhere h output name [] = Unit {0}
IsElsewhere h output name (other ∷ others) =
    (place_of h (below output name) ≢ place_of h (below output other)) × IsElsewhere h output name others

-- each is at a place of its own
abbrev pub AreApart : {I O : Type 0} → Host I O → (output : List ℕ) → (names : List (List ℕ)) → Type 0
AreApart h output [] = Unit {0}
AreApart h output (name ∷ names) = IsElsewhere h output name names × AreApart h output names

-- the names in a folder were visited, these in this order; the manifest has their rows, and the outputs that these say
-- were written are such
pub record FolderHasDistinct {I O F W E : Type 0} (h : Host I O) (reader : Reader I) (output : Writer O) (m : Writer W)
    (errors : Writer E) (run : TreeRun) (path : List ℕ) (begun : Begun) (opened : F) (headed : W) (from : E)
    (before : FileSystem) (status : ℕ) (left : W) (to : E) (after : FileSystem)
    (v : VisitsAll (over h reader output errors) m run path begun opened headed from before status left to after)
    : Type 0 where
  pub visits : List Visit
  pub text : List ℕ
  pub walks : WalksFolder (folders_do {F = F} h)
      (noted (visits_of (over {F = F} h reader output errors) m)) path begun.number
      opened ((v.start, from), []) before v.walked ((v.last, v.told), visits) after
  pub rows : RowsOf (WasNew h run.output.now before.now) v.start.shared visits text
  pub apart : AreApart h run.output.now (outputs_of rows)
  pub manifest : m.contents left ≡ append_known (m.contents headed) text

pub record ListHasDistinct {I O F W E : Type 0} (h : Host I O) (reader : Reader I) (output : Writer O) (m : Writer W)
    (errors : Writer E) (run : TreeRun) (list : List ℕ) (begun : Begun) (input : I) (headed : W) (from : E)
    (before : FileSystem) (status : ℕ) (left : W) (to : E) (after : FileSystem) (read : I)
    (v : VisitsListed (over {F = F} h reader output errors) m run list begun input headed from before status left to
    after read)
    : Type 0 where
  pub visits : List Visit
  pub text : List ℕ
  pub walks : WalksList (folders_do {F = F} h) (noted (visits_of (over {F = F} h reader output errors) m)) reader.gets
      begun.number ((v.start, from), []) before input v.walked ((v.last, v.told), visits) after read
  pub rows : RowsOf (WasNew h run.output.now before.now) v.start.shared visits text
  pub apart : AreApart h run.output.now (outputs_of rows)
  pub manifest : m.contents left ≡ append_known (m.contents headed) text

-- at the end of a run that was begun, and did not end before its last name
abbrev pub OutputsAreDistinct : {I O W E : Type 0} → (F : Type 0) → Reader I → Writer O → Writer W → Writer E → Type 0
OutputsAreDistinct {I} {O} {W} {E} F reader output m errors =
    (h : Host I O) (run : TreeRun) (path : List ℕ) (begun : Begun) (opened : F) (headed : W) (from : E)
    (before : FileSystem) (status : ℕ) (left : W) (to : E) (after : FileSystem) → before.written ≡ None
    → begun.part.items ≡ part_path run
    → (v : VisitsAll (over h reader output errors) m run path begun opened headed from before status left to after)
    → v.last.stop ≡ None
    → FolderHasDistinct h reader output m errors run path begun opened headed from before status left to after v

abbrev pub OutputsAreDistinctOfList : {I O W E : Type 0} → (F : Type 0) → Reader I → Writer O → Writer W → Writer E
    → Type 0
OutputsAreDistinctOfList {I} {O} {W} {E} F reader output m errors =
    (h : Host I O) (run : TreeRun) (list : List ℕ) (begun : Begun) (input : I) (headed : W) (from : E)
    (before : FileSystem) (status : ℕ) (left : W) (to : E) (after : FileSystem) (read : I) → before.written ≡ None
    → begun.part.items ≡ part_path run
    → (v : VisitsListed (over {F = F} h reader output errors) m run list begun input headed from before status left
    to after read)
    → v.last.stop ≡ None
    → ListHasDistinct h reader output m errors run list begun input headed from before status left to after read v
