-- A run over a tree leaves what the ideal run leaves, where each call succeeds that may.
use Rattle.std.specs.Prelude.{◌≡◌, ◌≢◌, ◌≤◌, ℕ, nat_le, length, List, [], ◌∷◌, ◌++◌, map, Bool, true, false}
use Rattle.std.specs.Prelude.{Option, Some, None, Ok}
use Rattle.std.specs.Io.KnownBytes.{append_known}
use Rattle.std.specs.Str.{IsUtf8}
use Rattle.dcm_devices.specs.Writing.{Writer}
use Rattle.dcm_files.specs.declared.folders.Found.{Found}
use Rattle.dcm_files.specs.declared.folders.FoundKind.TheVariants as kinds
use Rattle.dcm_base.specs.Reading.Reads.{INPUT_LIMIT}
use Rattle.dcm_instance.specs.ReadInstance.{FileNames}
use Rattle.dcm_instance.specs.Uids.{Uids, instance_name}
use Rattle.dcm_walk.specs.Names.{PATH_LIMIT, below}
use Rattle.dcm_walk.specs.declared.visitor.What.TheVariants.{File}
use Rattle.dcm_cli.specs.Calls.{Reader}
use Rattle.dcm_cli.specs.declared.ending.Verdict.{Verdict}
use Rattle.dcm_cli.specs.declared.ending.Verdict.TheVariants.{Done, PixelsMayShow, Refused, RefusedLine}
use Rattle.dcm_trees.specs.declared.beginning.Begun.{Begun}
use Rattle.dcm_trees.specs.declared.fate.Fate.{Fate}
use Rattle.dcm_trees.specs.declared.fate.Fate.TheVariants as fates
use Rattle.dcm_trees.specs.declared.run.TreeRun.{TreeRun}
use Rattle.dcm_trees.specs.Fate.{fate_of as what_fate, word}
use Rattle.dcm_trees.specs.File.{is_media_index}
use Rattle.dcm_trees.specs.Task.{Task, task_of}
use Rattle.dcm_trees.specs.Work as work
use Rattle.dcm_tree_laws.specs.Again.{OfAll}
use Rattle.dcm_tree_laws.specs.Copies.{EndsUnnamed}
use Rattle.dcm_tree_laws.specs.Determined.{FollowsLinks, ComesTo, FileEnd, was_done, no_job, EndsAs, working}
use Rattle.dcm_tree_laws.specs.FileSystem.{FileSystem, Tree, Host, number_of, place_of, at_path}
use Rattle.dcm_tree_laws.specs.Ideal.{Thing, a_file, a_folder, no_file, Outputs, is_on_way, has_way, Made, nothing}
use Rattle.dcm_tree_laws.specs.Ideal.{an_output, Comes, without, kept, named, Name, Row, outputs_after, rows_of}
use Rattle.dcm_tree_laws.specs.Ideal.{share, fate_of, output_of}
use Rattle.dcm_tree_laws.specs.IdealLaws.{its_output}
use Rattle.dcm_tree_laws.specs.Laws.{part_path}
use Rattle.dcm_tree_laws.specs.Rows.{Visit}
use Rattle.dcm_tree_laws.specs.Single.{TellsAll}
use Rattle.dcm_tree_laws.specs.Together.{HasBytes, NamesInstance, Visited}

-- ---- what a name comes to

-- an output of this mode, where the job of its file is done so
abbrev pub made_of : (mode : ℕ) → (bytes : List ℕ) → Verdict → Made
made_of mode bytes (Done unplaced) = an_output (record { mode = mode; bytes = bytes; unplaced = unplaced })
made_of mode bytes PixelsMayShow = nothing fates.Pixels
made_of mode bytes (Refused stop) = nothing fates.Refused
made_of mode bytes (RefusedLine stop) = nothing fates.Refused

abbrev pub made_by : (mode : ℕ) → FileEnd → Made
made_by mode (was_done bytes verdict) = made_of mode bytes verdict
made_by mode (no_job stop) = nothing fates.Refused

-- by what is there: it is no file, or the index of a medium. In a run that keeps names it is a file at whose name no
-- output can be, since its path is too long; or a file that is read, and ends so. In one that does not, it is a file
-- that ends without a name; one whose instance has a path that is too long; or one that names this instance
pub data NameComes {I O : Type 0} (h : Host I O) (keeps : Bool) (task : Task) (output : List ℕ) (t : Tree) (v : Visit)
    (comes : Comes) : Type 0 where
  comes_of_no_file : ((mode : ℕ) → v.what ≢ File mode) → comes ≡ without (what_fate v.what)
      → NameComes h keeps task output t v comes
  comes_of_index : (mode : ℕ) → v.what ≡ File mode → is_media_index v.named.relative ≡ true
      → comes ≡ without fates.MediaIndex → NameComes h keeps task output t v comes
  kept_too_long : (mode : ℕ) → keeps ≡ true → v.what ≡ File mode → is_media_index v.named.relative ≡ false
      → nat_le (length (below output v.named.relative)) PATH_LIMIT ≡ false → comes ≡ without fates.Unwritten
      → NameComes h keeps task output t v comes
  kept_file : (mode : ℕ) (bytes : List ℕ) (end : FileEnd) → keeps ≡ true → v.what ≡ File mode
      → is_media_index v.named.relative ≡ false
      → nat_le (length (below output v.named.relative)) PATH_LIMIT ≡ true → HasBytes h output t v bytes
      → EndsAs task bytes end → comes ≡ kept v.named.relative (made_by (h.masked mode) end)
      → NameComes h keeps task output t v comes
  unnamed_file : (mode : ℕ) (bytes : List ℕ) (fate : Fate) → keeps ≡ false → v.what ≡ File mode
      → is_media_index v.named.relative ≡ false → HasBytes h output t v bytes → EndsUnnamed task bytes fate
      → comes ≡ without fate → NameComes h keeps task output t v comes
  named_too_long : (mode : ℕ) (bytes made : List ℕ) (uids : Uids) → keeps ≡ false → v.what ≡ File mode
      → is_media_index v.named.relative ≡ false → HasBytes h output t v bytes → NamesInstance task bytes made uids
      → length made ≤ INPUT_LIMIT → nat_le (length (below output (instance_name uids))) PATH_LIMIT ≡ false
      → comes ≡ without fates.Unwritten → NameComes h keeps task output t v comes
  named_file : (mode : ℕ) (bytes made : List ℕ) (unplaced : ℕ) (uids : Uids) → keeps ≡ false → v.what ≡ File mode
      → is_media_index v.named.relative ≡ false → HasBytes h output t v bytes → ComesTo task bytes made (Done unplaced)
      → FileNames made (Ok uids) → length made ≤ INPUT_LIMIT
      → nat_le (length (below output (instance_name uids))) PATH_LIMIT ≡ true
      → comes ≡ named (instance_name uids) (record { mode = h.masked mode; bytes = made; unplaced = unplaced })
      → NameComes h keeps task output t v comes

-- a name that is visited is this one
pub record IsName {I O : Type 0} (h : Host I O) (keeps : Bool) (task : Task) (output : List ℕ) (t : Tree) (v : Visit)
    (n : Name) : Type 0 where
  pub name_is : n.name ≡ v.named.name
  pub relative_is : n.relative ≡ v.named.relative
  pub comes_is : NameComes h keeps task output t v n.comes

-- ---- what is in the folder of the outputs

abbrev pub ShowsThing : Tree → Option Found → Option Thing → Type 0
ShowsThing t None None = Unit {0}
ShowsThing t (Some f) (Some (a_file mode bytes)) =
    (f.kind ≡ kinds.File) × (f.mode ≡ mode) × (t.bytes (number_of f) ≡ bytes)
ShowsThing t (Some f) (Some a_folder) = f.kind ≡ kinds.Folder
ShowsThing t (Some f) (Some no_file) = f.kind ≡ kinds.Other
ShowsThing t None (Some thing) = ⊥
ShowsThing t (Some f) None = ⊥

-- these outputs lie in folders, and are there, at each name that is spoken of and reached by folders alone
pub record Shows {I O : Type 0} (h : Host I O) (output : List ℕ) (is_spoken : List ℕ → Bool) (t : Tree)
    (outputs : Outputs) : Type 0 where
  pub folders : (relative folder : List ℕ) (thing : Thing) → outputs relative ≡ Some thing
      → is_on_way folder relative ≡ true → outputs folder ≡ Some a_folder
  pub shown : (relative : List ℕ) → is_spoken relative ≡ true → has_way outputs relative ≡ true
      → ShowsThing t (at_path h t (below output relative)) (outputs relative)

-- the system tells apart the names that are spoken of: their paths are text, and those that are reached by folders
-- alone lead to places of their own, and not to that of the part
pub record TellsApart {I O : Type 0} (h : Host I O) (output part : List ℕ) (is_spoken : List ℕ → Bool)
    (outputs : Outputs) : Type 0 where
  pub way : (relative folder : List ℕ) → is_spoken relative ≡ true → is_on_way folder relative ≡ true
      → is_spoken folder ≡ true
  pub text : (relative : List ℕ) → is_spoken relative ≡ true → IsUtf8 (below output relative)
  pub apart : (one other : List ℕ) → is_spoken one ≡ true → is_spoken other ≡ true → has_way outputs one ≡ true
      → has_way outputs other ≡ true → one ≢ other → place_of h (below output one) ≢ place_of h (below output other)
  pub no_part : (relative : List ℕ) → is_spoken relative ≡ true → has_way outputs relative ≡ true
      → place_of h (below output relative) ≢ place_of h part

-- the output of a name is spoken of
abbrev pub SpeaksOf : (List ℕ → Bool) → Name → Type 0
SpeaksOf is_spoken n = (relative : List ℕ) → its_output n.comes ≡ Some relative → is_spoken relative ≡ true

-- ---- a run

-- a run was begun, visited these names in a folder or a list to the last one, and removed its part each time
pub record Ran {I O W E : Type 0} (F : Type 0) (h : Host I O) (reader : Reader I) (output : Writer O) (m : Writer W)
    (errors : Writer E) (run : TreeRun) (before : FileSystem) (visits : List Visit) (headed left : W)
    (after : FileSystem) : Type 0 where
  pub begun : Begun
  pub part_is : begun.part.items ≡ part_path run
  pub text : IsUtf8 (part_path run)
  pub nothing : at_path h before.now (part_path run) ≡ None
  pub quiet : before.written ≡ None
  pub visited : Visited (working {F = F} h reader output errors) m run begun headed before visits left after
  pub removed : after.unremoved ≡ false

-- the text of rows
abbrev pub text_of : List Row → List ℕ
text_of [] = []
text_of (row ∷ rows) =
    work.row row.name (output_of row.became) (word (fate_of row.became)) ++ text_of rows

-- a run leaves the outputs and the rows of the ideal run
abbrev pub RunIsIdeal : {I O W E : Type 0} → (F : Type 0) → Reader I → Writer O → Writer W → Writer E → Type 0
RunIsIdeal {I} {O} {W} {E} F reader output m errors =
    (h : Host I O) (run : TreeRun) (before : FileSystem) (visits : List Visit) (headed left : W) (after : FileSystem)
    (name_of : Visit → Name) (is_spoken : List ℕ → Bool) (outputs : Outputs) → TellsAll h output
    → (run.options.keeps_names ≡ false → FollowsLinks h before.now)
    → Ran F h reader output m errors run before visits headed left after
    → OfAll (λ v. IsName h run.options.keeps_names (task_of run.task) run.output.now before.now v (name_of v)) visits
    → OfAll (λ v. SpeaksOf is_spoken (name_of v)) visits
    → TellsApart h run.output.now (part_path run) is_spoken outputs
    → Shows h run.output.now is_spoken before.now outputs
    → Shows h run.output.now is_spoken after.now (outputs_after run.options.continues outputs
    (share run.options.part.number run.options.part.count (map name_of visits)))
    × (m.contents left ≡ append_known (m.contents headed) (text_of (rows_of run.options.continues outputs
    (share run.options.part.number run.options.part.count (map name_of visits)))))
