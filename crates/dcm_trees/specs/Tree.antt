-- A run over a tree: a folder, or a list.
use Rattle.std.specs.Prelude.{◌≡◌, ℕ, nat_lt, List, [], length, codes, bytes_eq, true, false, Option, Some, None, Result, Ok, Err}
use Rattle.std.specs.Prelude.{if◌then◌else◌}
use Rattle.std.specs.Str.{IsUtf8}
use Rattle.std.specs.declared.io.Error.{Error}
use Rattle.dcm_devices.specs.declared.device.WriteFailed.{WriteFailed}
use Rattle.dcm_devices.specs.Writing.{Writer}
use Rattle.dcm_files.specs.Devices.{OpensInput, standard}
use Rattle.dcm_files.specs.Folders.{FoldersDo}
use Rattle.dcm_files.specs.declared.opened.FileKind.{FileKind}
use Rattle.dcm_files.specs.declared.opened.Opened.{Opened}
use Rattle.dcm_names.specs.NamedLines.{unopened_line}
use Rattle.dcm_walk.specs.Folder.{WalksFolder}
use Rattle.dcm_walk.specs.List.{WalksList}
use Rattle.dcm_walk.specs.Names.{PATH_LIMIT}
use Rattle.dcm_walk.specs.declared.list.ListEnd.{ListEnd}
use Rattle.dcm_walk.specs.declared.list.ListEnd.TheVariants.{Whole}
use Rattle.dcm_walk.specs.declared.visitor.Stopped.{Stopped}
use Rattle.dcm_tree_words.specs.Trees.{Source, folder, list}
use Rattle.dcm_cli.specs.Calls.{Reports}
use Rattle.dcm_cli.specs.Status.{DEVICE}
use Rattle.dcm_trees.specs.declared.beginning.Begun.{Begun}
use Rattle.dcm_trees.specs.declared.beginning.Refusal.{Refusal}
use Rattle.dcm_trees.specs.declared.beginning.Refusal.TheVariants.{Input}
use Rattle.dcm_trees.specs.declared.beginning.Spared.{Spared}
use Rattle.dcm_trees.specs.declared.progress.Work.{Work}
use Rattle.dcm_trees.specs.declared.run.TreeRun.{TreeRun}
use Rattle.dcm_trees.specs.Beginning.{Begins}
use Rattle.dcm_trees.specs.Place.{path_in}
use Rattle.dcm_trees.specs.Run.{part_name, refusal_line, Shares, PutsFirstRow, EndsUnwritten, EndsRun}
use Rattle.dcm_trees.specs.Work.{progress, nothing_done, visits_of}
use Rattle.dcm_trees.specs.World.{World}

-- the name of the part of a run
abbrev pub part_of : TreeRun → List ℕ
part_of run = part_name run.options.part.number

-- a folder is opened, or cannot be
pub data OpensFolder {S O F : Type 0} (d : FoldersDo S O F) (path : List ℕ) (before : S) (opened : Option F) (after : S)
    : Type 0 where
  no_text : ¬ (IsUtf8 path) → opened ≡ None → after ≡ before → OpensFolder d path before opened after
  not_opened : (e : Error) → IsUtf8 path → d.opens_folder before path (Err e) after → opened ≡ None
      → OpensFolder d path before opened after
  was_opened : (f : F) → IsUtf8 path → d.opens_folder before path (Ok f) after → opened ≡ Some f
      → OpensFolder d path before opened after

-- the folder whose files are done is opened: by the name that it has for itself, behind its path, so that this may be
-- that of a link to it; but not where that would be too long
pub data OpensTree {S O F : Type 0} (d : FoldersDo S O F) (path : List ℕ) (before : S) (opened : Option F) (after : S)
    : Type 0 where
  followed : (own : List ℕ) → path_in path (codes ".") ≡ Some own → OpensFolder d own before opened after
      → OpensTree d path before opened after
  too_long : path_in path (codes ".") ≡ None → OpensFolder d path before opened after
      → OpensTree d path before opened after

-- ---- the names

-- how the walk of a folder ended, as that of a list
abbrev pub as_list : Result (Unit {0}) Stopped → Result ListEnd Stopped
as_list (Ok x) = Ok Whole
as_list (Err e) = Err e

-- the work on the names of a run, before the first one: its manifest has its first row
pub record BeginsWork {W : Type 0} (run : TreeRun) (begun : Begun) (manifest : W) (start : Work W) : Type 0 where
  pub nothing : progress start ≡ nothing_done manifest
  pub shares : Shares run begun.part.items start.shared

-- the names in a folder were visited, and how that ended was told
pub record VisitsAll {S I O F W E : Type 0} (w : World S I O F E) (m : Writer W) (run : TreeRun) (path : List ℕ)
    (begun : Begun) (opened : F) (headed : W) (from : E) (before : S) (status : ℕ) (left : W) (to : E) (after : S)
    : Type 0 where
  pub start : Work W
  pub last : Work W
  pub walked : Result (Unit {0}) Stopped
  pub told : E
  pub begins : BeginsWork run begun headed start
  pub walks : WalksFolder w.folders (visits_of w m) path begun.number opened (start, from) before walked (last, told)
      after
  pub ends : EndsRun w.errors (progress last) last.shared.shows_counts (as_list walked) [] (part_of run) told status to
  pub left_is : left ≡ last.manifest

-- or the manifest cannot be written, and none was
pub data VisitsFolder {S I O F W E : Type 0} (w : World S I O F E) (m : Writer W) (run : TreeRun) (path : List ℕ)
    (begun : Begun) (opened : F) (manifest : W) (from : E) (before : S) (status : ℕ) (left : W) (to : E) (after : S)
    : Type 0 where
  no_header : (failure : WriteFailed) → PutsFirstRow m run.options.has_header manifest (Err failure) left
      → w.folders.closes_folder before opened after → EndsUnwritten w.errors run.options.counts from status to
      → VisitsFolder w m run path begun opened manifest from before status left to after
  visited : (headed : W) → PutsFirstRow m run.options.has_header manifest (Ok _) headed
      → VisitsAll w m run path begun opened headed from before status left to after
      → VisitsFolder w m run path begun opened manifest from before status left to after

-- the same of the names in a list
pub record VisitsListed {S I O F W E : Type 0} (w : World S I O F E) (m : Writer W) (run : TreeRun) (list : List ℕ)
    (begun : Begun) (input : I) (headed : W) (from : E) (before : S) (status : ℕ) (left : W) (to : E) (after : S)
    (read : I) : Type 0 where
  pub start : Work W
  pub last : Work W
  pub walked : Result ListEnd Stopped
  pub told : E
  pub begins : BeginsWork run begun headed start
  pub walks : WalksList w.folders (visits_of w m) w.reader.gets begun.number (start, from) before input walked
      (last, told) after read
  pub ends : EndsRun w.errors (progress last) last.shared.shows_counts walked list (part_of run) told status to
  pub left_is : left ≡ last.manifest

pub data VisitsList {S I O F W E : Type 0} (w : World S I O F E) (m : Writer W) (run : TreeRun) (list : List ℕ)
    (begun : Begun) (input : I) (manifest : W) (from : E) (before : S) (status : ℕ) (left : W) (to : E) (after : S)
    (read : I) : Type 0 where
  no_header : (failure : WriteFailed) → PutsFirstRow m run.options.has_header manifest (Err failure) left
      → EndsUnwritten w.errors run.options.counts from status to → after ≡ before → read ≡ input
      → VisitsList w m run list begun input manifest from before status left to after read
  visited : (headed : W) → PutsFirstRow m run.options.has_header manifest (Ok _) headed
      → VisitsListed w m run list begun input headed from before status left to after read
      → VisitsList w m run list begun input manifest from before status left to after read

-- ---- a run

-- what is read beside the inputs, and is not removed: the key, and a list that is no standard input
abbrev pub spared_of : TreeRun → Spared
spared_of run = record { key = run.key; list = None }

abbrev pub kind_of_list : (path : List ℕ) → FileKind → Option FileKind
kind_of_list path kind = if bytes_eq path standard then None else Some kind

abbrev pub spared_with : TreeRun → (path : List ℕ) → FileKind → Spared
spared_with run path kind = record { key = run.key; list = kind_of_list path kind }

-- a run is not begun, and that is told
pub record Refuses {E : Type 0} (e : Writer E) (run : TreeRun) (refusal : Refusal) (from : E) (status : ℕ) (to : E)
    : Type 0 where
  pub told : Reports e from to (refusal_line refusal (part_of run))
  pub status_is : status ≡ DEVICE

-- a folder is open: the run is begun and its names are visited, or it is not begun, and the folder is given back
pub data DoesOpened {S I O F W E : Type 0} (w : World S I O F E) (m : Writer W) (run : TreeRun) (path : List ℕ)
    (opened : F) (manifest : W) (from : E) (before : S) (status : ℕ) (left : W) (to : E) (after : S) : Type 0 where
  not_begun : (refusal : Refusal) (told : E) (tried : S)
      → Begins w.may w.folders w.errors path false run.output.now (part_of run) run.options (spared_of run)
      from before (Err refusal) told tried
      → w.folders.closes_folder tried opened after → Refuses w.errors run refusal told status to → left ≡ manifest
      → DoesOpened w m run path opened manifest from before status left to after
  was_begun : (begun : Begun) (told : E) (mid : S)
      → Begins w.may w.folders w.errors path false run.output.now (part_of run) run.options (spared_of run)
      from before (Ok begun) told mid
      → VisitsFolder w m run path begun opened manifest told mid status left to after
      → DoesOpened w m run path opened manifest from before status left to after

pub data DoesFolder {S I O F W E : Type 0} (w : World S I O F E) (m : Writer W) (run : TreeRun) (path : List ℕ)
    (manifest : W) (from : E) (before : S) (status : ℕ) (left : W) (to : E) (after : S) : Type 0 where
  too_long : nat_lt PATH_LIMIT (length path) ≡ true → Refuses w.errors run Input from status to → left ≡ manifest
      → after ≡ before → DoesFolder w m run path manifest from before status left to after
  not_opened : OpensTree w.folders path before None after → Refuses w.errors run Input from status to
      → left ≡ manifest → DoesFolder w m run path manifest from before status left to after
  was_opened : (opened : F) (mid : S) → OpensTree w.folders path before (Some opened) mid
      → DoesOpened w m run path opened manifest from mid status left to after
      → DoesFolder w m run path manifest from before status left to after

-- a list is open: its names are read from the current folder
pub data DoesNames {S I O F W E : Type 0} (w : World S I O F E) (m : Writer W) (run : TreeRun) (list : List ℕ)
    (kind : FileKind) (input : I) (manifest : W) (from : E) (before : S) (status : ℕ) (left : W) (to : E) (after : S) (read : I)
    : Type 0 where
  not_begun : (refusal : Refusal) (told : E)
      → Begins w.may w.folders w.errors (codes ".") true run.output.now (part_of run) run.options
      (spared_with run list kind) from before (Err refusal) told after
      → Refuses w.errors run refusal told status to → left ≡ manifest → read ≡ input
      → DoesNames w m run list kind input manifest from before status left to after read
  was_begun : (begun : Begun) (told : E) (mid : S)
      → Begins w.may w.folders w.errors (codes ".") true run.output.now (part_of run) run.options
      (spared_with run list kind) from before (Ok begun) told mid
      → VisitsList w m run list begun input manifest told mid status left to after read
      → DoesNames w m run list kind input manifest from before status left to after read

pub data DoesList {S I O F W E : Type 0} (w : World S I O F E) (m : Writer W) (run : TreeRun) (path : List ℕ)
    (manifest : W) (from : E) (before : S) (status : ℕ) (left : W) (to : E) (after : S) : Type 0 where
  not_opened : (e : Error) → OpensInput w.may path before (Err e) after → Reports w.errors from to (unopened_line path)
      → status ≡ DEVICE → left ≡ manifest → DoesList w m run path manifest from before status left to after
  was_opened : (o : Opened I) (read : I) (mid done : S) → OpensInput w.may path before (Ok o) mid
      → DoesNames w m run path o.kind o.device manifest from mid status left to done read → w.may.releases done read after
      → DoesList w m run path manifest from before status left to after

-- a run over the files of a folder, or over those of a list
pub data DoesTree {S I O F W E : Type 0} (w : World S I O F E) (m : Writer W) (run : TreeRun) (source : Source)
    (manifest : W) (from : E) (before : S) (status : ℕ) (left : W) (to : E) (after : S) : Type 0 where
  of_folder : (path : List ℕ) → source ≡ folder path → DoesFolder w m run path manifest from before status left to after
      → DoesTree w m run source manifest from before status left to after
  of_list : (path : List ℕ) → source ≡ list path → DoesList w m run path manifest from before status left to after
      → DoesTree w m run source manifest from before status left to after
