-- The outputs of the names of a run over a tree.
use Rattle.std.specs.Prelude.{◌≡◌, ◌≢◌, ℕ, List, [], ◌∷◌, Bool, true, false, Some, None, Ok}
use Rattle.std.specs.Io.KnownBytes.{append_known}
use Rattle.arrayvec.specs.ArrayVec.{ArrayVec}
use Rattle.dcm_devices.specs.Writing.{Writer}
use Rattle.dcm_files.specs.declared.folders.Found.{Found}
use Rattle.dcm_files.specs.declared.folders.FoundKind.TheVariants.{File}
use Rattle.dcm_instance.specs.declared.names.Instance.{Instance}
use Rattle.dcm_instance.specs.Uids.{Uids, instance_name, uids_of}
use Rattle.dcm_walk.specs.Folder.{WalksFolder}
use Rattle.dcm_walk.specs.List.{WalksList}
use Rattle.dcm_walk.specs.Names.{below}
use Rattle.dcm_cli.specs.Calls.{Reader}
use Rattle.dcm_trees.specs.declared.beginning.Begun.{Begun}
use Rattle.dcm_trees.specs.declared.file.Done.{Done}
use Rattle.dcm_trees.specs.declared.run.TreeRun.{TreeRun}
use Rattle.dcm_trees.specs.Fate.{is_written}
use Rattle.dcm_trees.specs.Instance.{FindsInstance}
use Rattle.dcm_trees.specs.Tree.{VisitsAll, VisitsListed}
use Rattle.dcm_trees.specs.Work.{name_in, visits_of}
use Rattle.dcm_tree_laws.specs.FileSystem.{FileSystem, Tree, Host, WasState, number_of, place_of, at_path, may_do, folders_do}
use Rattle.dcm_tree_laws.specs.Laws.{IsOutput, over, part_path}
use Rattle.dcm_tree_laws.specs.OneRow.{RowsOf}
use Rattle.dcm_tree_laws.specs.Rows.{Visit, noted}

-- at a path, and not at the place of the part, is a file with the bytes of a whole output
pub record HasOutput {I O : Type 0} (h : Host I O) (IsWhole : ℕ → List ℕ → Type 0) (part path : List ℕ) (t : Tree)
    : Type 0 where
  pub file : Found
  pub is : at_path h t path ≡ Some file
  pub kind : file.kind ≡ File
  pub whole : IsWhole file.mode (t.bytes (number_of file))
  pub apart : place_of h path ≢ place_of h part

-- the row of a file has the name of this instance
pub record IsNamedBy (uids : Uids) (done : Done) : Type 0 where
  pub relative : ArrayVec ℕ
  pub instance_is : done.instance ≡ Some relative
  pub relative_is : relative.items ≡ instance_name uids

-- at a state that a run with these trees had, a file with these bytes was at the path of the part, and this instance
-- was read in what was opened there
pub record IsReadInPart {I O : Type 0} (h : Host I O) (reader : Reader I) (part : List ℕ) (trees : List Tree)
    (bytes : List ℕ) (i : Instance) : Type 0 where
  pub state : FileSystem
  pub was_state : WasState trees state
  pub file : Found
  pub is : at_path h state.now part ≡ Some file
  pub kind : file.kind ≡ File
  pub bytes_are : state.now.bytes (number_of file) ≡ bytes
  pub after : FileSystem
  pub finds : FindsInstance (may_do h) reader part state (Ok i) after

-- what an output with these bytes is named by: its input, where the run keeps names; or else the instance that was read
-- in the part that had them
pub data IsNamedSo {I O : Type 0} (h : Host I O) (reader : Reader I) (keeps_names : Bool) (part : List ℕ)
    (trees : List Tree) (bytes : List ℕ) (done : Done) : Type 0 where
  by_its_input : keeps_names ≡ true → done.instance ≡ None → IsNamedSo h reader keeps_names part trees bytes done
  by_its_instance : (i : Instance) → keeps_names ≡ false → IsReadInPart h reader part trees bytes i
      → IsNamedBy (uids_of i) done → IsNamedSo h reader keeps_names part trees bytes done

-- what became of a name in a run says that its output was written only where that is there, in the folder of the
-- outputs, by the name that it has so: that of its input, or of the instance in it
abbrev pub HasWritten : {I O : Type 0} → Host I O → (IsWhole : ℕ → List ℕ → Type 0) → (IsNamed : List ℕ → Done → Type 0)
    → (part output : List ℕ) → (now : Tree) → Visit → Done → Type 0
HasWritten h IsWhole IsNamed part output now v done = is_written done.fate ≡ true
    → HasOutput h (λ mode bytes. IsWhole mode bytes × IsNamed bytes done) part
    (below output (name_in v.named.relative done.instance)) now

-- the names in a folder were visited, these in this order; the manifest has their rows, and the outputs are there that
-- these say were written
pub record FolderHasOutputs {I O F W E : Type 0} (h : Host I O) (reader : Reader I) (output : Writer O) (m : Writer W)
    (errors : Writer E) (run : TreeRun) (path : List ℕ) (begun : Begun) (opened : F) (headed : W) (from : E)
    (before : FileSystem) (status : ℕ) (left : W) (to : E) (after : FileSystem)
    (v : VisitsAll (over h reader output errors) m run path begun opened headed from before status left to after)
    : Type 0 where
  pub visits : List Visit
  pub text : List ℕ
  pub walks : WalksFolder (folders_do {F = F} h)
      (noted (visits_of (over {F = F} h reader output errors) m)) path begun.number
      opened ((v.start, from), []) before v.walked ((v.last, v.told), visits) after
  pub rows : RowsOf (HasWritten h (IsOutput h reader output)
      (IsNamedSo h reader run.options.keeps_names begun.part.items (after.now ∷ after.earlier)) begun.part.items
      run.output.now after.now) v.start.shared visits text
  pub manifest : m.contents left ≡ append_known (m.contents headed) text

pub record ListHasOutputs {I O F W E : Type 0} (h : Host I O) (reader : Reader I) (output : Writer O) (m : Writer W)
    (errors : Writer E) (run : TreeRun) (list : List ℕ) (begun : Begun) (input : I) (headed : W) (from : E)
    (before : FileSystem) (status : ℕ) (left : W) (to : E) (after : FileSystem) (read : I)
    (v : VisitsListed (over {F = F} h reader output errors) m run list begun input headed from before status left to
    after read)
    : Type 0 where
  pub visits : List Visit
  pub text : List ℕ
  pub walks : WalksList (folders_do {F = F} h) (noted (visits_of (over {F = F} h reader output errors) m)) reader.gets
      begun.number ((v.start, from), []) before input v.walked ((v.last, v.told), visits) after read
  pub rows : RowsOf (HasWritten h (IsOutput h reader output)
      (IsNamedSo h reader run.options.keeps_names begun.part.items (after.now ∷ after.earlier)) begun.part.items
      run.output.now after.now) v.start.shared visits text
  pub manifest : m.contents left ≡ append_known (m.contents headed) text

-- at the end of a run that was begun, and did not end before its last name, each row that says that an output was
-- written is right
abbrev pub WrittenIsThere : {I O W E : Type 0} → (F : Type 0) → Reader I → Writer O → Writer W → Writer E → Type 0
WrittenIsThere {I} {O} {W} {E} F reader output m errors =
    (h : Host I O) (run : TreeRun) (path : List ℕ) (begun : Begun) (opened : F) (headed : W) (from : E)
    (before : FileSystem) (status : ℕ) (left : W) (to : E) (after : FileSystem) → before.written ≡ None
    → begun.part.items ≡ part_path run
    → (v : VisitsAll (over h reader output errors) m run path begun opened headed from before status left to after)
    → v.last.stop ≡ None
    → FolderHasOutputs h reader output m errors run path begun opened headed from before status left to after v

abbrev pub WrittenIsThereOfList : {I O W E : Type 0} → (F : Type 0) → Reader I → Writer O → Writer W → Writer E → Type 0
WrittenIsThereOfList {I} {O} {W} {E} F reader output m errors =
    (h : Host I O) (run : TreeRun) (list : List ℕ) (begun : Begun) (input : I) (headed : W) (from : E)
    (before : FileSystem) (status : ℕ) (left : W) (to : E) (after : FileSystem) (read : I) → before.written ≡ None
    → begun.part.items ≡ part_path run
    → (v : VisitsListed (over {F = F} h reader output errors) m run list begun input headed from before status left
    to after read)
    → v.last.stop ≡ None
    → ListHasOutputs h reader output m errors run list begun input headed from before status left to after read v
