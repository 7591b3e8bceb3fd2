-- Runs over two trees whose files come to the same in pairs: no name of theirs, and nothing else of them, shows in what
-- is below the folder of the outputs.
use Rattle.std.specs.Prelude.{◌≡◌, ◌≤◌, ℕ, length, List, [], ◌∷◌, false, Option, Some, None, Ok}
use Rattle.std.specs.Str.{IsUtf8}
use Rattle.dcm_base.specs.Reading.Reads.{INPUT_LIMIT}
use Rattle.dcm_devices.specs.Writing.{Writer}
use Rattle.dcm_files.specs.declared.folders.Found.{Found}
use Rattle.dcm_files.specs.declared.folders.FoundKind.TheVariants as kinds
use Rattle.dcm_files.specs.declared.folders.Links.TheVariants.{Followed}
use Rattle.dcm_walk.specs.Folder.{WalksFolder}
use Rattle.dcm_walk.specs.List.{WalksList}
use Rattle.dcm_walk.specs.declared.list.ListEnd.TheVariants.{Whole}
use Rattle.dcm_walk.specs.declared.visitor.What.TheVariants.{File}
use Rattle.dcm_cli.specs.Calls.{Reader}
use Rattle.dcm_cli.specs.declared.ending.Verdict.{Verdict}
use Rattle.dcm_trees.specs.declared.beginning.Begun.{Begun}
use Rattle.dcm_trees.specs.declared.file.Done.{Done}
use Rattle.dcm_trees.specs.declared.progress.Stop.{Stop}
use Rattle.dcm_trees.specs.declared.run.TreeRun.{TreeRun}
use Rattle.dcm_trees.specs.File.{DoesName, is_media_index}
use Rattle.dcm_trees.specs.Manner.{Manner}
use Rattle.dcm_trees.specs.Task.{Task, task_of}
use Rattle.dcm_trees.specs.Tree.{VisitsAll, VisitsListed}
use Rattle.dcm_trees.specs.Work.{visits_of}
use Rattle.dcm_tree_laws.specs.Again.{sure}
use Rattle.dcm_tree_laws.specs.Determined.{FileAt, FollowsLinks, FileEnd, was_done, EndsAs, as_whole, working}
use Rattle.dcm_tree_laws.specs.Determined.{working_folders}
use Rattle.dcm_tree_laws.specs.FileSystem.{FileSystem, Tree, Host, number_of, at_path, folders_do}
use Rattle.dcm_tree_laws.specs.Laws.{part_path}
use Rattle.dcm_tree_laws.specs.Rows.{Visit, noted}
use Rattle.dcm_tree_laws.specs.Single.{TellsAll}
use Rattle.dcm_tree_laws.specs.Stays.{IsOfOutput}

-- ---- the same outputs

-- two things of two trees are of one kind; and two files also of one mode, and with the same bytes
abbrev pub AreAlike : (one other : Tree) → (f g : Found) → Type 0
AreAlike one other f g = (f.kind ≡ g.kind)
    × (f.kind ≡ kinds.File → (f.mode ≡ g.mode) × (one.bytes (number_of f) ≡ other.bytes (number_of g)))

-- nothing is at a place of both, or two such things are
abbrev pub AlikeAt : (one other : Tree) → (found there : Option Found) → Type 0
AlikeAt one other None None = Unit {0}
AlikeAt one other (Some f) (Some g) = AreAlike one other f g
AlikeAt one other None (Some g) = ⊥
AlikeAt one other (Some f) None = ⊥

-- so it is at the folder of the outputs, and at each path in it
abbrev pub SameOutputs : {I O : Type 0} → Host I O → (output : List ℕ) → (one other : Tree) → Type 0
SameOutputs h output one other =
    (path : List ℕ) → IsOfOutput output path → AlikeAt one other (at_path h one path) (at_path h other path)

-- ---- files in pairs

-- the file of a visit, as it is at the start, is no index of a medium
pub record IsFile {I O : Type 0} (h : Host I O) (start : Tree) (v : Visit) : Type 0 where
  pub text : IsUtf8 v.named.path
  pub no_index : is_media_index v.named.relative ≡ false
  pub file : FileAt h Followed start v.named.path

-- and it ends so
pub record IsFileThatEnds {I O : Type 0} (h : Host I O) (task : Task) (start : Tree) (v : Visit) (end : FileEnd)
    : Type 0 where
  pub it : IsFile h start v
  pub ends : EndsAs task (start.bytes (number_of it.file.file)) end

-- two visits are of files of one mode that end alike; what is written of them is no longer than an input may be
pub record IsPair {I O : Type 0} (h : Host I O) (task : Task) (one other : Tree) (v w : Visit) : Type 0 where
  pub mode : ℕ
  pub first_mode : v.what ≡ File mode
  pub second_mode : w.what ≡ File mode
  pub end : FileEnd
  pub first : IsFileThatEnds h task one v end
  pub second : IsFileThatEnds h task other w end
  pub fits : (output : List ℕ) (verdict : Verdict) → end ≡ was_done output verdict → length output ≤ INPUT_LIMIT

-- visits pair, in their order
abbrev pub InPairs : (Visit → Visit → Type 0) → List Visit → List Visit → Type 0
InPairs Pair [] [] = Unit {0}
InPairs Pair (v ∷ visits) (w ∷ others) = Pair v w × InPairs Pair visits others
InPairs Pair [] (w ∷ others) = ⊥
InPairs Pair (v ∷ visits) [] = ⊥

-- ---- one name

-- two files that end so are done in two systems in which the outputs are the same, nothing is at the part, and no call
-- fails that need not: the same becomes of both, and the outputs are the same again
abbrev pub SameBecomes : {I O E : Type 0} → (F : Type 0) → Reader I → Writer O → Writer E → Type 0
SameBecomes {I} {O} {E} F reader output errors =
    (h : Host I O) (m : Manner) (v w : Visit) (from to : E) (before after : FileSystem) (done : Done) (from_other : E)
    (to_other : E) (start end : FileSystem) (other : Done) → TellsAll h output → m.keeps_names ≡ false → IsUtf8 m.part
    → IsOfOutput m.output m.part → at_path h before.now m.part ≡ None → at_path h start.now m.part ≡ None
    → FollowsLinks h before.now → FollowsLinks h start.now → IsPair h m.task before.now start.now v w
    → DoesName (working {F = F} h reader output errors) m v.named v.what from before (Ok done) to after
    → DoesName (working {F = F} h reader output errors) m w.named w.what from_other start (Ok other) to_other end
    → after.unremoved ≡ false → end.unremoved ≡ false → SameOutputs h m.output before.now start.now
    → SameOutputs h m.output after.now end.now × (other.fate ≡ done.fate)

-- ---- runs

-- a run was begun, did not end before its last name, and removed its part each time. It names its outputs by the
-- instances in them, and does all names, not a share
pub record IsWholeRun {I O : Type 0} (h : Host I O) (run : TreeRun) (begun : Begun) (stop : Option Stop)
    (before after : FileSystem) : Type 0 where
  pub no_stop : stop ≡ None
  pub removed : after.unremoved ≡ false
  pub quiet : before.written ≡ None
  pub part : begun.part.items ≡ part_path run
  pub text : IsUtf8 (part_path run)
  pub nothing : at_path h before.now (part_path run) ≡ None
  pub follows : FollowsLinks h before.now
  pub by_instance : run.options.keeps_names ≡ false
  pub number : run.options.part.number ≡ 1
  pub count : run.options.part.count ≡ 1

-- it visited the names in a folder, these in this order
pub record RunsOverFolder {I O W E : Type 0} (F : Type 0) (h : Host I O) (reader : Reader I) (output : Writer O)
    (m : Writer W) (errors : Writer E) (run : TreeRun) (before : FileSystem) (visits : List Visit) (status : ℕ)
    (after : FileSystem) : Type 0 where
  pub path : List ℕ
  pub begun : Begun
  pub opened : F
  pub headed : W
  pub left : W
  pub from : E
  pub to : E
  pub v : VisitsAll (working {F = F} h reader output errors) m run path begun opened headed from before status left to
      after
  pub walks : WalksFolder (working_folders h (sure (folders_do {F = F} h)))
      (noted (visits_of (working {F = F} h reader output errors) m)) path begun.number
      opened ((v.start, from), []) before v.walked ((v.last, v.told), visits) after
  pub whole : v.walked ≡ Ok _
  pub is_whole : IsWholeRun h run begun v.last.stop before after

-- or those in a list
pub record RunsOverList {I O W E : Type 0} (F : Type 0) (h : Host I O) (reader : Reader I) (output : Writer O)
    (m : Writer W) (errors : Writer E) (run : TreeRun) (before : FileSystem) (visits : List Visit) (status : ℕ)
    (after : FileSystem) : Type 0 where
  pub list : List ℕ
  pub begun : Begun
  pub input : I
  pub read : I
  pub headed : W
  pub left : W
  pub from : E
  pub to : E
  pub v : VisitsListed (working {F = F} h reader output errors) m run list begun input headed from before status left
      to after read
  pub walks : WalksList (working_folders h (sure (folders_do {F = F} h)))
      (noted (visits_of (working {F = F} h reader output errors) m)) (as_whole h reader).gets begun.number
      ((v.start, from), []) before input v.walked ((v.last, v.told), visits) after read
  pub whole : v.walked ≡ Ok Whole
  pub is_whole : IsWholeRun h run begun v.last.stop before after

pub data RunsOver {I O W E : Type 0} (F : Type 0) (h : Host I O) (reader : Reader I) (output : Writer O) (m : Writer W)
    (errors : Writer E) (run : TreeRun) (before : FileSystem) (visits : List Visit) (status : ℕ) (after : FileSystem)
    : Type 0 where
  of_folder : RunsOverFolder F h reader output m errors run before visits status after
      → RunsOver F h reader output m errors run before visits status after
  of_list : RunsOverList F h reader output m errors run before visits status after
      → RunsOver F h reader output m errors run before visits status after

-- two runs of one task, with one folder of outputs, which is the same before them: it is the same after them, and so is
-- the status, where their files are such pairs
abbrev pub LeaveTheSame : {I O W E : Type 0} → (F : Type 0) → Reader I → Writer O → Writer W → Writer E
    → (Host I O → Task → (one other : Tree) → Visit → Visit → Type 0) → Type 0
LeaveTheSame {I} {O} {W} {E} F reader output m errors Pair =
    (h : Host I O) (first second : TreeRun) (before start after end : FileSystem) (visits others : List Visit)
    (status again : ℕ) → TellsAll h output → task_of second.task ≡ task_of first.task
    → second.output.now ≡ first.output.now
    → RunsOver F h reader output m errors first before visits status after
    → RunsOver F h reader output m errors second start others again end
    → InPairs (Pair h (task_of first.task) before.now start.now) visits others
    → SameOutputs h first.output.now before.now start.now
    → SameOutputs h first.output.now after.now end.now × (again ≡ status)

-- where the files of each pair end alike
abbrev pub NoNameFlows : {I O W E : Type 0} → (F : Type 0) → Reader I → Writer O → Writer W → Writer E → Type 0
NoNameFlows F reader output m errors = LeaveTheSame F reader output m errors IsPair
