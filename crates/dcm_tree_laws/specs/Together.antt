-- Runs of all shares of a tree leave the files that one run leaves.
use Rattle.std.specs.Prelude.{◌≡◌, ◌≢◌, ◌⊎◌, ◌≤◌, ◌<◌, ℕ, nat_le, length, List, [], ◌∷◌, ◌++◌, Bool, true, false}
use Rattle.std.specs.Prelude.{Some, None, Ok}
use Rattle.std.specs.Str.{IsUtf8}
use Rattle.dcm_devices.specs.Writing.{Writer}
use Rattle.dcm_files.specs.declared.folders.Found.{Found}
use Rattle.dcm_files.specs.declared.folders.FoundKind.TheVariants as kinds
use Rattle.dcm_files.specs.declared.folders.Links.TheVariants.{Followed}
use Rattle.dcm_instance.specs.ReadInstance.{FileNames}
use Rattle.dcm_instance.specs.Uids.{Uids, instance_name}
use Rattle.dcm_walk.specs.Folder.{WalksFolder}
use Rattle.dcm_walk.specs.List.{WalksList}
use Rattle.dcm_walk.specs.Names.{PATH_LIMIT, below}
use Rattle.dcm_walk.specs.Visits.{Named}
use Rattle.dcm_walk.specs.declared.visitor.What.TheVariants.{File}
use Rattle.dcm_cli.specs.Calls.{Reader}
use Rattle.dcm_cli.specs.declared.ending.Verdict.{Verdict}
use Rattle.dcm_trees.specs.declared.beginning.Begun.{Begun}
use Rattle.dcm_trees.specs.declared.fate.Fate.{Fate}
use Rattle.dcm_trees.specs.declared.fate.Fate.TheVariants as fates
use Rattle.dcm_trees.specs.declared.file.Done.{Done}
use Rattle.dcm_trees.specs.declared.run.TreeRun.{TreeRun}
use Rattle.dcm_trees.specs.Fate.{is_written}
use Rattle.dcm_trees.specs.File.{DoesName, is_media_index}
use Rattle.dcm_trees.specs.Lines.{verdict_fate}
use Rattle.dcm_trees.specs.Manner.{Manner}
use Rattle.dcm_trees.specs.Run.{part_name}
use Rattle.dcm_trees.specs.Task.{Task, task_of}
use Rattle.dcm_trees.specs.Tree.{VisitsAll, VisitsListed}
use Rattle.dcm_trees.specs.Work.{visits_of}
use Rattle.dcm_trees.specs.World.{World}
use Rattle.dcm_tree_laws.specs.Again.{OfAll}
use Rattle.dcm_tree_laws.specs.Determined.{FileAt, ComesTo, FileEnd, was_done, no_job, EndsAs, working}
use Rattle.dcm_tree_laws.specs.FileSystem.{FileSystem, Tree, Host, number_of, place_of, at_path}
use Rattle.dcm_tree_laws.specs.Laws.{part_path}
use Rattle.dcm_tree_laws.specs.Rows.{Visit, noted}
use Rattle.dcm_tree_laws.specs.Single.{TellsAll}

-- ---- an output

-- a place is not that of the part of any run into this folder
abbrev pub IsNoPart : {I O : Type 0} → Host I O → (output place : List ℕ) → Type 0
IsNoPart h output place = (number : ℕ) → place ≢ place_of h (below output (part_name number))

-- a folder may be made at a path, or is there
pub record TakesFolder {I O : Type 0} (h : Host I O) (t : Tree) (path : List ℕ) : Type 0 where
  pub text : IsUtf8 path
  pub folder_is : (f : Found) → at_path h t path ≡ Some f → f.kind ≡ kinds.Folder

-- the output of a relative name is free: nothing is at its path, which the system takes, and nothing but folders on its
-- way in the folder of the outputs
pub record IsFree {I O : Type 0} (h : Host I O) (output relative : List ℕ) (t : Tree) : Type 0 where
  pub fits : nat_le (length (below output relative)) PATH_LIMIT ≡ true
  pub text : IsUtf8 (below output relative)
  pub nothing : at_path h t (below output relative) ≡ None
  pub way : (folder behind : List ℕ) → relative ≡ below folder behind → TakesFolder h t (below output folder)

-- it cannot be there: its path is not taken by the system, or something that is no folder is on its way
pub data IsBarred {I O : Type 0} (h : Host I O) (output relative : List ℕ) (t : Tree) : Type 0 where
  too_long : nat_le (length (below output relative)) PATH_LIMIT ≡ false → IsBarred h output relative t
  no_text : ¬ (IsUtf8 (below output relative)) → IsBarred h output relative t
  no_way_text : (folder behind : List ℕ) → relative ≡ below folder behind → ¬ (IsUtf8 (below output folder))
      → IsBarred h output relative t
  no_folder : (folder behind : List ℕ) (f : Found) → relative ≡ below folder behind
      → IsNoPart h output (place_of h (below output folder)) → at_path h t (below output folder) ≡ Some f
      → f.kind ≢ kinds.Folder → IsBarred h output relative t

-- an output is not on the way to another one, and at another place
pub record IsAside {I O : Type 0} (h : Host I O) (output one other : List ℕ) : Type 0 where
  pub place : place_of h (below output one) ≢ place_of h (below output other)
  pub way : (folder behind : List ℕ) → other ≡ below folder behind
      → place_of h (below output one) ≢ place_of h (below output folder)

-- ---- the names of a walk

-- a regular file is at the path of a name, links followed, with these bytes, and not at the place of a part
pub record HasBytes {I O : Type 0} (h : Host I O) (output : List ℕ) (t : Tree) (v : Visit) (bytes : List ℕ)
    : Type 0 where
  pub text : IsUtf8 v.named.path
  pub file : FileAt h Followed t v.named.path
  pub bytes_are : t.bytes (number_of file.file) ≡ bytes
  pub no_part : IsNoPart h output (h.leads Followed v.named.path)

-- a name that is visited beside this file: no file; one that comes to the same output, of the same mode and bytes; or
-- one whose output is apart
pub data GoesBeside {I O : Type 0} (h : Host I O) (output : List ℕ) (t : Tree) (x : Visit) (bytes : List ℕ) (v : Visit)
    : Type 0 where
  no_file : ((mode : ℕ) → v.what ≢ File mode) → GoesBeside h output t x bytes v
  same_output : v.named.relative ≡ x.named.relative → v.what ≡ x.what → HasBytes h output t v bytes
      → GoesBeside h output t x bytes v
  other_output : IsAside h output x.named.relative v.named.relative → IsAside h output v.named.relative x.named.relative
      → GoesBeside h output t x bytes v

-- something is among these
abbrev pub Has : {A : Type 0} → A → List A → Type 0
Has a [] = ⊥
Has a (b ∷ bs) = (b ≡ a) ⊎ Has a bs

-- the paths of parts are text, and none is behind a link
pub record HasPlainParts {I O : Type 0} (h : Host I O) (output : List ℕ) : Type 0 where
  pub text : (number : ℕ) → IsUtf8 (below output (part_name number))
  pub leads : (number : ℕ)
      → h.leads Followed (below output (part_name number)) ≡ place_of h (below output (part_name number))

-- neither an output nor a folder on its way is at the place of a part, and it is on no way to itself
pub record HasOwnPlace {I O : Type 0} (h : Host I O) (output relative : List ℕ) : Type 0 where
  pub no_part : IsNoPart h output (place_of h (below output relative))
  pub way : (folder behind : List ℕ) → relative ≡ below folder behind
      → IsNoPart h output (place_of h (below output folder))
      × (place_of h (below output folder) ≢ place_of h (below output relative))

-- nothing keeps an output from being written; or something is there
abbrev pub IsOpen : {I O : Type 0} → Host I O → (output relative : List ℕ) → Tree → Type 0
IsOpen h output relative t =
    IsFree h output relative t ⊎ ((f : Found) × (at_path h t (below output relative) ≡ Some f))

-- a file of a walk, whose output has its name
pub record IsNameOf {I O : Type 0} (h : Host I O) (output : List ℕ) (t : Tree) (x : Visit) (mode : ℕ) (bytes : List ℕ)
    : Type 0 where
  pub of_file : x.what ≡ File mode
  pub no_index : is_media_index x.named.relative ≡ false
  pub input : HasBytes h output t x bytes
  pub output_is : IsOpen h output x.named.relative t
  pub own : HasOwnPlace h output x.named.relative
  pub parts : HasPlainParts h output

-- ---- runs

-- one of several runs, which all do the same into one folder, and keep names, or all name by instances
pub record IsRunOf (keeps : Bool) (task : Task) (output : List ℕ) (number count : ℕ) (run : TreeRun) : Type 0 where
  pub task_is : task_of run.task ≡ task
  pub output_is : run.output.now ≡ output
  pub number_is : run.options.part.number ≡ number
  pub count_is : run.options.part.count ≡ count
  pub keeps_is : run.options.keeps_names ≡ keeps

-- the names in a folder, or in a list, were visited to the last one, these in this order
pub data Visited {I O F W E : Type 0} (w : World FileSystem I O F E) (m : Writer W) (run : TreeRun) (begun : Begun)
    (headed : W) (before : FileSystem) (visits : List Visit) (left : W) (after : FileSystem) : Type 0 where
  in_folder : (path : List ℕ) (opened : F) (from : E) (status : ℕ) (to : E)
      (v : VisitsAll w m run path begun opened headed from before status left to after)
      → WalksFolder w.folders (noted (visits_of w m)) path begun.number opened ((v.start, from), []) before v.walked
      ((v.last, v.told), visits) after
      → v.last.stop ≡ None → Visited w m run begun headed before visits left after
  in_list : (list : List ℕ) (input : I) (from : E) (status : ℕ) (to : E) (read : I)
      (v : VisitsListed w m run list begun input headed from before status left to after read)
      → WalksList w.folders (noted (visits_of w m)) w.reader.gets begun.number ((v.start, from), []) before input
      v.walked ((v.last, v.told), visits) after read
      → v.last.stop ≡ None → Visited w m run begun headed before visits left after

-- run `number` of `count` was begun, and did not end before its last name. This is so of the names that it visited
pub record OneRun {I O W E : Type 0} (F : Type 0) (h : Host I O) (reader : Reader I) (output : Writer O) (m : Writer W)
    (errors : Writer E) (keeps : Bool) (task : Task) (folder : List ℕ) (AreSo : List Visit → Type 0) (number count : ℕ)
    (start after : Tree) : Type 0 where
  pub run : TreeRun
  pub is_of : IsRunOf keeps task folder number count run
  pub begun : Begun
  pub part_is : begun.part.items ≡ part_path run
  pub before : FileSystem
  pub quiet : before.written ≡ None
  pub start_is : before.now ≡ start
  pub done : FileSystem
  pub after_is : done.now ≡ after
  pub visits : List Visit
  pub headed : W
  pub left : W
  pub visited : Visited (working {F = F} h reader output errors) m run begun headed before visits left done
  pub are_so : AreSo visits

-- runs of these numbers, one after another, each over what the one before left
pub data Runs {I O W E : Type 0} (F : Type 0) (h : Host I O) (reader : Reader I) (output : Writer O) (m : Writer W)
    (errors : Writer E) (keeps : Bool) (task : Task) (folder : List ℕ) (AreSo : List Visit → Type 0) (count : ℕ)
    (first : Tree) : (numbers : List ℕ) → (after : Tree) → Type 0 where
  no_run : {numbers : List ℕ} {after : Tree} → numbers ≡ [] → after ≡ first
      → Runs F h reader output m errors keeps task folder AreSo count first numbers after
  and_run : {numbers : List ℕ} {after : Tree} (earlier : List ℕ) (number : ℕ) (mid : Tree)
      → Runs F h reader output m errors keeps task folder AreSo count first earlier mid
      → OneRun F h reader output m errors keeps task folder AreSo number count mid after
      → numbers ≡ earlier ++ number ∷ []
      → Runs F h reader output m errors keeps task folder AreSo count first numbers after

-- these are the numbers of all shares, each one or more times
abbrev pub AreAllShares : (count : ℕ) → (numbers : List ℕ) → Type 0
AreAllShares count numbers = (number : ℕ) → 1 ≤ number → number ≤ count → Has number numbers

-- ---- the outputs of its files

-- this file was visited, and each other name goes beside it
abbrev pub AreBeside : {I O : Type 0} → Host I O → (output : List ℕ) → Tree → (x : Visit) → (bytes : List ℕ)
    → List Visit → Type 0
AreBeside h output t x bytes visits = Has x visits × OfAll (GoesBeside h output t x bytes) visits

-- at a place is the same in two trees: nothing; or things of one kind and one mode, with the same bytes
pub data IsSameAt (one other : Tree) (place : List ℕ) : Type 0 where
  nothing : one.at place ≡ None → other.at place ≡ None → IsSameAt one other place
  something : (a b : Found) → one.at place ≡ Some a → other.at place ≡ Some b → a.kind ≡ b.kind → a.mode ≡ b.mode
      → one.bytes (number_of a) ≡ other.bytes (number_of b) → IsSameAt one other place

-- runs of all shares, in any order, leave at the path of the output of each file what one run of all names leaves there
abbrev pub PartsAreOne : {I O W E : Type 0} → (F : Type 0) → Reader I → Writer O → Writer W → Writer E → Type 0
PartsAreOne {I} {O} {W} {E} F reader output m errors =
    (h : Host I O) (task : Task) (folder : List ℕ) (first : Tree) (x : Visit) (mode : ℕ) (bytes : List ℕ) (count : ℕ)
    (numbers : List ℕ) (after alone : Tree) → TellsAll h output
    → IsNameOf h folder first x mode bytes → 0 < count
    → AreAllShares count numbers
    → Runs F h reader output m errors true task folder (AreBeside h folder first x bytes) count first numbers after
    → OneRun F h reader output m errors true task folder (AreBeside h folder first x bytes) 1 1 first alone
    → IsSameAt after alone (place_of h (below folder x.named.relative))

-- ---- what becomes of them

-- a name that gives its output its own
abbrev pub its_own : Fate → Done
its_own fate = record { fate = fate; instance = None }

-- what becomes of a file that ends so
abbrev pub end_fate : FileEnd → Fate
end_fate (was_done out verdict) = verdict_fate verdict
end_fate (no_job stop) = fates.Refused

-- what became of a file that gives its output its name is what its bytes end as
pub record IsToldBy (task : Task) (bytes : List ℕ) (done : Done) : Type 0 where
  pub end : FileEnd
  pub ends : EndsAs task bytes end
  pub is : done ≡ its_own (end_fate end)

-- so it is of a file whose output is free, in whatever run it is done, and when
abbrev pub FateIsTold : {I O E : Type 0} → (F : Type 0) → Reader I → Writer O → Writer E → Type 0
FateIsTold {I} {O} {E} F reader output errors =
    (h : Host I O) (m : Manner) (number : ℕ) (n : Named) (mode : ℕ) (bytes : List ℕ) (from : E) (before : FileSystem)
    (done : Done) (to : E) (after : FileSystem) → TellsAll h output → m.keeps_names ≡ true
    → m.part ≡ below m.output (part_name number) → before.written ≡ None
    → IsNameOf h m.output before.now (record { named = n; what = File mode }) mode bytes
    → IsFree h m.output n.relative before.now
    → DoesName (working {F = F} h reader output errors) m n (File mode) from before (Ok done) to after
    → IsToldBy m.task bytes done

-- ---- outputs that are named by the instances in them

-- the job of a file with these bytes is done, and what it writes names this instance
pub record NamesInstance (task : Task) (bytes out : List ℕ) (uids : Uids) : Type 0 where
  pub verdict : Verdict
  pub comes : ComesTo task bytes out verdict
  pub written : is_written (verdict_fate verdict) ≡ true
  pub names : FileNames out (Ok uids)

-- a file of a walk, whose output is named by the instance in what is written of it
pub record IsInstanceOf {I O : Type 0} (h : Host I O) (task : Task) (output : List ℕ) (t : Tree) (x : Visit) (mode : ℕ)
    (bytes out : List ℕ) (uids : Uids) : Type 0 where
  pub of_file : x.what ≡ File mode
  pub no_index : is_media_index x.named.relative ≡ false
  pub input : HasBytes h output t x bytes
  pub named : NamesInstance task bytes out uids
  pub output_is : IsOpen h output (instance_name uids) t
  pub own : HasOwnPlace h output (instance_name uids)
  pub parts : HasPlainParts h output

-- a name that is visited beside it: no file, or the index of a medium; a file that names no instance; one that comes to
-- the same output, of the same mode and with the same bytes written of it; or one whose output is apart
pub data NamesBeside {I O : Type 0} (h : Host I O) (task : Task) (output : List ℕ) (mode : ℕ) (out : List ℕ)
    (uids : Uids) (t : Tree) (v : Visit) : Type 0 where
  not_file : ((c : ℕ) → v.what ≢ File c) → NamesBeside h task output mode out uids t v
  not_done : is_media_index v.named.relative ≡ true → NamesBeside h task output mode out uids t v
  not_named : (bytes : List ℕ) → HasBytes h output t v bytes
      → ((its : List ℕ) (other : Uids) → ¬ (NamesInstance task bytes its other))
      → NamesBeside h task output mode out uids t v
  same_named : (bytes : List ℕ) (other : Uids) → v.what ≡ File mode → is_media_index v.named.relative ≡ false
      → HasBytes h output t v bytes → NamesInstance task bytes out other → instance_name other ≡ instance_name uids
      → NamesBeside h task output mode out uids t v
  other_named : (bytes its : List ℕ) (other : Uids) → HasBytes h output t v bytes → NamesInstance task bytes its other
      → IsAside h output (instance_name uids) (instance_name other)
      → IsAside h output (instance_name other) (instance_name uids) → NamesBeside h task output mode out uids t v

abbrev pub AreNamedBeside : {I O : Type 0} → Host I O → Task → (output : List ℕ) → (mode : ℕ) → (out : List ℕ) → Uids
    → Tree → (x : Visit) → List Visit → Type 0
AreNamedBeside h task output mode out uids t x visits =
    Has x visits × OfAll (NamesBeside h task output mode out uids t) visits

-- so it is at the path of the instance that each file names, in runs that name their outputs by these
abbrev pub InstancesAreOne : {I O W E : Type 0} → (F : Type 0) → Reader I → Writer O → Writer W → Writer E → Type 0
InstancesAreOne {I} {O} {W} {E} F reader output m errors =
    (h : Host I O) (task : Task) (folder : List ℕ) (first : Tree) (x : Visit) (mode : ℕ) (bytes out : List ℕ)
    (uids : Uids) (count : ℕ) (numbers : List ℕ) (after alone : Tree) → TellsAll h output
    → IsInstanceOf h task folder first x mode bytes out uids → 0 < count
    → AreAllShares count numbers
    → Runs F h reader output m errors false task folder (AreNamedBeside h task folder mode out uids first x) count first
    numbers after
    → OneRun F h reader output m errors false task folder (AreNamedBeside h task folder mode out uids first x) 1 1 first
    alone
    → IsSameAt after alone (place_of h (below folder (instance_name uids)))

-- ---- all other places

-- a name leaves a place: it is no file, or the index of a medium; or its output is at another place, or cannot be there
pub data LeavesPlace {I O : Type 0} (h : Host I O) (output : List ℕ) (t : Tree) (place : List ℕ) (v : Visit) : Type 0
  where
    of_no_file : ((mode : ℕ) → v.what ≢ File mode) → LeavesPlace h output t place v
    of_index : is_media_index v.named.relative ≡ true → LeavesPlace h output t place v
    elsewhere : place ≢ place_of h (below output v.named.relative) → LeavesPlace h output t place v
    barred : IsBarred h output v.named.relative t → LeavesPlace h output t place v

-- at a place is a folder
pub record HasFolder (t : Tree) (place : List ℕ) : Type 0 where
  pub folder : Found
  pub is : t.at place ≡ Some folder
  pub kind : folder.kind ≡ kinds.Folder

-- at a place is what was there, or a folder
abbrev pub IsUnwritten : (first after : Tree) → (place : List ℕ) → Type 0
IsUnwritten first after place = (after.at place ≡ first.at place) ⊎ HasFolder after place

-- runs leave what was there, or a folder, at each place that all names leave; the places of their parts are set aside
abbrev pub NothingElse : {I O W E : Type 0} → (F : Type 0) → Reader I → Writer O → Writer W → Writer E → Type 0
NothingElse {I} {O} {W} {E} F reader output m errors =
    (h : Host I O) (task : Task) (folder : List ℕ) (first : Tree) (place : List ℕ) (count : ℕ) (numbers : List ℕ)
    (after : Tree) → IsNoPart h folder place
    → Runs F h reader output m errors true task folder (OfAll (LeavesPlace h folder first place)) count first
    numbers after
    → IsUnwritten first after place

-- the same of runs that name outputs by instances: it is no file, or the index of a medium; or it names no instance, or
-- one whose output is at another place
pub data LeavesPlaceAs {I O : Type 0} (h : Host I O) (task : Task) (output : List ℕ) (t : Tree) (place : List ℕ)
    (v : Visit) : Type 0 where
  as_no_file : ((mode : ℕ) → v.what ≢ File mode) → LeavesPlaceAs h task output t place v
  as_index : is_media_index v.named.relative ≡ true → LeavesPlaceAs h task output t place v
  as_unnamed : (bytes : List ℕ) → HasBytes h output t v bytes
      → ((out : List ℕ) (uids : Uids) → ¬ (NamesInstance task bytes out uids)) → LeavesPlaceAs h task output t place v
  as_elsewhere : (bytes out : List ℕ) (uids : Uids) → HasBytes h output t v bytes → NamesInstance task bytes out uids
      → place ≢ place_of h (below output (instance_name uids)) → LeavesPlaceAs h task output t place v

abbrev pub NothingElseAs : {I O W E : Type 0} → (F : Type 0) → Reader I → Writer O → Writer W → Writer E → Type 0
NothingElseAs {I} {O} {W} {E} F reader output m errors =
    (h : Host I O) (task : Task) (folder : List ℕ) (first : Tree) (place : List ℕ) (count : ℕ) (numbers : List ℕ)
    (after : Tree) → TellsAll h output → HasPlainParts h folder → IsNoPart h folder place
    → Runs F h reader output m errors false task folder (OfAll (LeavesPlaceAs h task folder first place)) count first
    numbers after
    → IsUnwritten first after place
