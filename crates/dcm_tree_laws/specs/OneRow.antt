-- The rows of the manifest of a run over a tree.
use Rattle.std.specs.Prelude.{◌≡◌, ℕ, List, [], ◌∷◌, ◌++◌, Bool, true, false, None, Ok, Err, if◌then◌else◌}
use Rattle.std.specs.Io.KnownBytes.{append_known}
use Rattle.dcm_devices.specs.declared.device.WriteFailed.{WriteFailed}
use Rattle.dcm_devices.specs.Writing.{Writer}
use Rattle.dcm_walk.specs.Folder.{WalksFolder}
use Rattle.dcm_walk.specs.List.{WalksList}
use Rattle.dcm_tree_words.specs.Trees.{Source, folder, list}
use Rattle.dcm_cli.specs.Status.{DEVICE}
use Rattle.dcm_trees.specs.declared.beginning.Begun.{Begun}
use Rattle.dcm_trees.specs.declared.file.Done.{Done}
use Rattle.dcm_trees.specs.declared.progress.Shared.{Shared}
use Rattle.dcm_trees.specs.declared.run.TreeRun.{TreeRun}
use Rattle.dcm_trees.specs.Fate.{word}
use Rattle.dcm_trees.specs.File.{DoesName}
use Rattle.dcm_trees.specs.Manner.{manner_of}
use Rattle.dcm_trees.specs.Row.{header}
use Rattle.dcm_trees.specs.Run.{PutsFirstRow}
use Rattle.dcm_trees.specs.Share.{is_of}
use Rattle.dcm_trees.specs.Tree.{VisitsAll, VisitsListed, DoesTree}
use Rattle.dcm_trees.specs.Work.{row, output_of, visits_of}
use Rattle.dcm_trees.specs.World.{World}
use Rattle.dcm_tree_laws.specs.Rows.{Visit, noted}

-- this became of a name in a run
pub record Became {S I O F E : Type 0} (w : World S I O F E) (shared : Shared) (v : Visit) (done : Done) : Type 0 where
  pub from : E
  pub to : E
  pub before : S
  pub after : S
  pub does : DoesName w (manner_of shared.manner) v.named v.what from before (Ok done) to after

-- the rows of names that were visited, one after another: one for each that is of the run's share, with what became of
-- it, of which something is so, and none for the others
pub data RowsOf (IsSo : Visit → Done → Type 0) (shared : Shared) : (visits : List Visit) → (text : List ℕ)
    → Type 0 where
  no_visit : {visits : List Visit} {text : List ℕ} → visits ≡ [] → text ≡ [] → RowsOf IsSo shared visits text
  of_another : {visits : List Visit} {text : List ℕ} (earlier : List Visit) (v : Visit)
      → RowsOf IsSo shared earlier text → is_of shared.part.number shared.part.count v.named.relative ≡ false
      → visits ≡ earlier ++ v ∷ [] → RowsOf IsSo shared visits text
  and_row : {visits : List Visit} {text : List ℕ} (earlier : List Visit) (rows : List ℕ) (v : Visit) (done : Done)
      → RowsOf IsSo shared earlier rows → is_of shared.part.number shared.part.count v.named.relative ≡ true
      → IsSo v done → visits ≡ earlier ++ v ∷ []
      → text ≡ rows ++ row v.named.name (output_of v.named done) (word done.fate) → RowsOf IsSo shared visits text

-- the names in a folder were visited, these in this order, and the manifest has their rows
pub record FolderHasRows {S I O F W E : Type 0} (w : World S I O F E) (m : Writer W) (run : TreeRun) (path : List ℕ)
    (begun : Begun) (opened : F) (headed : W) (from : E) (before : S) (status : ℕ) (left : W) (to : E) (after : S)
    (v : VisitsAll w m run path begun opened headed from before status left to after) : Type 0 where
  pub visits : List Visit
  pub text : List ℕ
  pub walks : WalksFolder w.folders (noted (visits_of w m)) path begun.number opened
      ((v.start, from), []) before v.walked
      ((v.last, v.told), visits) after
  pub rows : RowsOf (Became w v.start.shared) v.start.shared visits text
  pub manifest : m.contents left ≡ append_known (m.contents headed) text

-- the same of a list
pub record ListHasRows {S I O F W E : Type 0} (w : World S I O F E) (m : Writer W) (run : TreeRun) (list : List ℕ)
    (begun : Begun) (input : I) (headed : W) (from : E) (before : S) (status : ℕ) (left : W) (to : E) (after : S)
    (read : I)
    (v : VisitsListed w m run list begun input headed from before status left to after read) : Type 0 where
  pub visits : List Visit
  pub text : List ℕ
  pub walks : WalksList w.folders (noted (visits_of w m)) w.reader.gets begun.number ((v.start, from), []) before input
      v.walked ((v.last, v.told), visits) after read
  pub rows : RowsOf (Became w v.start.shared) v.start.shared visits text
  pub manifest : m.contents left ≡ append_known (m.contents headed) text

-- a run that does not end before its last name has one row for each name of its share that it visits, in order
abbrev pub OneRow : {S I O F W E : Type 0} → World S I O F E → Writer W → Type 0
OneRow {S} {I} {O} {F} {W} {E} w m =
    (run : TreeRun) (path : List ℕ) (begun : Begun) (opened : F) (headed : W) (from : E) (before : S) (status : ℕ)
    (left : W) (to : E) (after : S)
    → (v : VisitsAll w m run path begun opened headed from before status left to after) → v.last.stop ≡ None
    → FolderHasRows w m run path begun opened headed from before status left to after v

abbrev pub OneRowOfList : {S I O F W E : Type 0} → World S I O F E → Writer W → Type 0
OneRowOfList {S} {I} {O} {F} {W} {E} w m =
    (run : TreeRun) (list : List ℕ) (begun : Begun) (input : I) (headed : W) (from : E) (before : S) (status : ℕ)
    (left : W) (to : E) (after : S) (read : I)
    → (v : VisitsListed w m run list begun input headed from before status left to after read) → v.last.stop ≡ None
    → ListHasRows w m run list begun input headed from before status left to after read v

-- ---- a run as a whole

-- the first row, where it is wanted
abbrev pub first_row : (has_header : Bool) → List ℕ
first_row has_header = if has_header then header else []

-- the manifest of a run over a folder has its first row, where it is wanted, and the rows of the names
pub record FolderHasManifest {S I O F W E : Type 0} (w : World S I O F E) (m : Writer W) (run : TreeRun)
    (path : List ℕ) (begun : Begun) (opened : F) (manifest headed : W) (from : E) (before : S) (status : ℕ) (left : W)
    (to : E) (after : S) (v : VisitsAll w m run path begun opened headed from before status left to after)
    : Type 0 where
  pub has : FolderHasRows w m run path begun opened headed from before status left to after v
  pub whole : m.contents left
      ≡ append_known (append_known (m.contents manifest) (first_row run.options.has_header)) has.text

-- and that of a run over a list
pub record ListHasManifest {S I O F W E : Type 0} (w : World S I O F E) (m : Writer W) (run : TreeRun) (list : List ℕ)
    (begun : Begun) (input : I) (manifest headed : W) (from : E) (before : S) (status : ℕ) (left : W) (to : E)
    (after : S) (read : I)
    (v : VisitsListed w m run list begun input headed from before status left to after read) : Type 0 where
  pub has : ListHasRows w m run list begun input headed from before status left to after read v
  pub whole : m.contents left
      ≡ append_known (append_known (m.contents manifest) (first_row run.options.has_header)) has.text

-- A run that is not begun leaves the manifest as it was. In one whose first row cannot be written is at most that. Else
-- the names are visited, and where that did not end before the last one, the manifest has all that it is to have
pub data HasManifest {S I O F W E : Type 0} (w : World S I O F E) (m : Writer W) (run : TreeRun) (source : Source)
    (manifest : W) (from : E) (status : ℕ) (left : W) (to : E) (after : S) : Type 0 where
  not_begun : status ≡ DEVICE → left ≡ manifest → HasManifest w m run source manifest from status left to after
  no_header : (failure : WriteFailed) → status ≡ DEVICE
      → PutsFirstRow m run.options.has_header manifest (Err failure) left
      → HasManifest w m run source manifest from status left to after
  of_folder : (path : List ℕ) (begun : Begun) (opened : F) (headed : W) (told : E) (mid : S) → source ≡ folder path
      → (v : VisitsAll w m run path begun opened headed told mid status left to after)
      → (v.last.stop ≡ None
      → FolderHasManifest w m run path begun opened manifest headed told mid status left to after v)
      → HasManifest w m run source manifest from status left to after
  of_list : (path : List ℕ) (begun : Begun) (input : I) (headed : W) (told : E) (mid done : S) (read : I)
      → source ≡ list path → (v : VisitsListed w m run path begun input headed told mid status left to done read)
      → w.may.releases done read after
      → (v.last.stop ≡ None
      → ListHasManifest w m run path begun input manifest headed told mid status left to done read v)
      → HasManifest w m run source manifest from status left to after

-- so it is of each run
abbrev pub OneRowOfRun : {S I O F W E : Type 0} → World S I O F E → Writer W → Type 0
OneRowOfRun {S} {I} {O} {F} {W} {E} w m =
    (run : TreeRun) (source : Source) (manifest : W) (from : E) (before : S) (status : ℕ) (left : W) (to : E)
    (after : S) → DoesTree w m run source manifest from before status left to after
    → HasManifest w m run source manifest from status left to after
