-- The folder of the outputs lies apart from the folder that a run is over. Where no run goes on with it, it is empty.
use Rattle.std.specs.Prelude.{◌≡◌, ◌≢◌, ℕ, zero, suc, List, false, None, Ok, Err}
use Rattle.dcm_devices.specs.declared.device.WriteFailed.{WriteFailed}
use Rattle.dcm_devices.specs.Writing.{Writer}
use Rattle.dcm_files.specs.declared.folders.Links.TheVariants.{Followed}
use Rattle.dcm_walk.specs.declared.folder.FolderNumber.{FolderNumber}
use Rattle.dcm_tree_words.specs.Trees.{folder}
use Rattle.dcm_cli.specs.Calls.{Reader}
use Rattle.dcm_trees.specs.declared.beginning.Begun.{Begun}
use Rattle.dcm_trees.specs.declared.beginning.Refusal.{Refusal}
use Rattle.dcm_trees.specs.declared.run.TreeRun.{TreeRun}
use Rattle.dcm_trees.specs.Beginning.{above, parent_of}
use Rattle.dcm_trees.specs.Run.{PutsFirstRow, EndsUnwritten}
use Rattle.dcm_trees.specs.Tree.{VisitsAll, Refuses, DoesTree, part_of}
use Rattle.dcm_trees.specs.World.{World}
use Rattle.dcm_tree_laws.specs.Course.{IsNumberAt, Ready, TellsLeft}
use Rattle.dcm_tree_laws.specs.FileSystem.{FileSystem, Host, Tree, begins}
use Rattle.dcm_tree_laws.specs.Laws.{over}
use Rattle.dcm_tree_laws.specs.Visited.{IsIn, NamesItself, over_telling}

-- ---- the way up from a folder

-- the folder that is so many levels above the one at a path: by the `..` in each
abbrev pub up : (levels : ℕ) → (path : List ℕ) → List ℕ
up zero path = path
up (suc n) path = above (up n path)

-- what is at a path has not this number, links followed
abbrev pub IsOther : {I O : Type 0} → Host I O → Tree → (path : List ℕ) → (number : FolderNumber) → Type 0
IsOther h t path number = (its : FolderNumber) → IsNumberAt h t path its → its ≢ number

-- neither has any of the folders up to so many levels above it
abbrev pub AreOthers : {I O : Type 0} → Host I O → Tree → (path : List ℕ) → (number : FolderNumber) → (levels : ℕ)
    → Type 0
AreOthers h t path number zero = IsOther h t path number
AreOthers h t path number (suc n) = AreOthers h t path number n × IsOther h t (up (suc n) path) number

-- A folder is not the one of a number, and lies in no folder of it: on the way up to the one that is in itself none has
-- this number
pub record LiesOutside {I O : Type 0} (h : Host I O) (t : Tree) (path : List ℕ) (number : FolderNumber) : Type 0 where
  pub levels : ℕ
  pub top : FolderNumber
  pub top_is : IsNumberAt h t (up levels path) top
  pub in_itself : IsNumberAt h t (above (up levels path)) top
  pub others : AreOthers h t path number levels

-- ---- the two folders of a run

-- In a tree, neither of the folder that is read and that of the outputs is in the other one. Or nothing is at the path
-- of the outputs, and the folder that is to hold theirs lies outside the one that is read
pub data LieApart {I O : Type 0} (h : Host I O) (t : Tree) (input output : List ℕ) (written : FolderNumber) : Type 0 where
  both_there : (read : FolderNumber) → IsNumberAt h t input read → IsNumberAt h t output written
      → LiesOutside h t output read → LiesOutside h t input written → LieApart h t input output written
  new_output : (read : FolderNumber) → IsNumberAt h t input read → t.at (h.leads Followed output) ≡ None
      → LiesOutside h t (parent_of output) read → LieApart h t input output written

-- nothing is in a folder
abbrev pub IsEmpty : {I O : Type 0} → Host I O → Tree → (path : List ℕ) → Type 0
IsEmpty h t path = (name : List ℕ) → ¬ (IsIn h t path name)

-- ---- a run

-- It is refused, or its first row cannot be written. Else its names are visited, from a state in which it was begun; and
-- something is so of the number of the folder of the outputs and of what was there then
pub data BeginsSo {I O F W E : Type 0} (h : Host I O) (w : World FileSystem I O F E) (m : Writer W)
    (IsSo : FolderNumber → Tree → Type 0) (run : TreeRun) (path : List ℕ) (start : Tree) (manifest : W) (from : E)
    (status : ℕ) (left : W) (to : E) (after : FileSystem) : Type 0 where
  refused : (refusal : Refusal) (told : E) → TellsLeft w.errors (part_of run) from told
      → Refuses w.errors run refusal told status to → left ≡ manifest
      → BeginsSo h w m IsSo run path start manifest from status left to after
  no_header : (failure : WriteFailed) (told : E) → TellsLeft w.errors (part_of run) from told
      → PutsFirstRow m run.options.has_header manifest (Err failure) left
      → EndsUnwritten w.errors run.options.counts told status to
      → BeginsSo h w m IsSo run path start manifest from status left to after
  visited : (opened : F) (begun : Begun) (headed : W) (told : E) (mid : FileSystem)
      → TellsLeft w.errors (part_of run) from told
      → PutsFirstRow m run.options.has_header manifest (Ok _) headed → Ready h run start begun mid
      → IsSo begun.number mid.now → VisitsAll w m run path begun opened headed told mid status left to after
      → BeginsSo h w m IsSo run path start manifest from status left to after

-- so it is of each run over a folder that meets something
abbrev pub EachBegins : {I O F W E : Type 0} → (h : Host I O) → World FileSystem I O F E → Writer W
    → (IsMet : TreeRun → Type 0) → (IsSo : TreeRun → (path : List ℕ) → (start : Tree) → FolderNumber → Tree → Type 0)
    → Type 0
EachBegins {I} {O} {F} {W} {E} h w m IsMet IsSo =
    (run : TreeRun) (path : List ℕ) (start : Tree) (manifest : W) (from : E) (status : ℕ) (left : W) (to : E)
    (after : FileSystem) → IsMet run
    → DoesTree w m run (folder path) manifest from (begins start) status left to after
    → BeginsSo h w m (IsSo run path start) run path start manifest from status left to after

-- the two folders lay apart when it began
abbrev pub OutputsLieApart : {I O W E : Type 0} → (F : Type 0) → Reader I → Writer O → Writer W → Writer E → Type 0
OutputsLieApart {I} {O} F reader output m errors = (h : Host I O)
    → EachBegins h (over {F = F} h reader output errors) m (λ run. Unit {0})
    (λ run path start number now. LieApart h start path run.output.now number)

-- and where it goes on with nothing, the folder of the outputs is empty before the first name, if an open folder gives
-- the names in it
abbrev pub OutputsBeginEmpty : {I O W E : Type 0} → (F : Type 0) → Reader I → Writer O → Writer W → Writer E → Type 0
OutputsBeginEmpty {I} {O} F reader output m errors = (h : Host I O) (gives : F → List (List ℕ)) → NamesItself h
    → EachBegins h (over_telling h gives reader output errors) m (λ run. run.options.continues ≡ false)
    (λ run path start number now. IsEmpty h now run.output.now)
