-- What becomes of a file whose output is free is told by its bytes, where no call fails that need not.
use Rattle.std.proofs.Common.{◌≡◌, ◌∙◌, refl, sym, ap, subst, ℕ, ◌+◌, ◌≤◌, List, [], length, take, Bool, true, false, Option, Some, None, Result, Ok, Err, arith}
use Rattle.std.specs.Prelude.{◌≢◌}
use Rattle.std.specs.Option.{is_none}
use Rattle.std.specs.Str.{IsUtf8}
use Rattle.dcm_lemmas.proofs.Options.{none_or_some}
use Rattle.dcm_lemmas.proofs.Truth.{true_false}
use Rattle.dcm_devices.specs.Writing.{Writer}
use Rattle.dcm_files.specs.Folders.{FoldersDo}
use Rattle.dcm_files.specs.declared.folders.Found.{Found}
use Rattle.dcm_files.specs.declared.folders.FoundKind.{FoundKind}
use Rattle.dcm_files.specs.declared.folders.FoundKind.TheVariants as kinds
use Rattle.dcm_files.specs.declared.folders.Links.TheVariants.{Followed}
use Rattle.dcm_walk.specs.Names.{below}
use Rattle.dcm_walk.specs.Visits.{Named}
use Rattle.dcm_walk.specs.declared.visitor.What.TheVariants.{File}
use Rattle.dcm_words.specs.Words.{Job}
use Rattle.dcm_cli.specs.Calls.{Reader}
use Rattle.dcm_cli.specs.declared.ending.Ending.{Ending}
use Rattle.dcm_trees.specs.declared.fate.Fate.{Fate}
use Rattle.dcm_trees.specs.declared.file.Done.{Done}
use Rattle.dcm_trees.specs.declared.part.Naming.{Naming}
use Rattle.dcm_trees.specs.declared.part.Naming.TheVariants.{Linked}
use Rattle.dcm_trees.specs.declared.part.NoPart.{NoPart}
use Rattle.dcm_trees.specs.declared.part.NoPart.TheVariants.{NotMade as PartNotMade}
use Rattle.dcm_trees.specs.declared.progress.Stop.{Stop as RunStop}
use Rattle.dcm_trees.specs.declared.place.NotMade.{NotMade}
use Rattle.dcm_trees.specs.declared.place.Place.{Place}
use Rattle.dcm_trees.specs.declared.task.NoDays.{NoDays}
use Rattle.dcm_trees.specs.declared.task.NoDays.TheVariants as no_days
use Rattle.dcm_trees.specs.Fate.{is_written}
use Rattle.dcm_trees.specs.File as files
use Rattle.dcm_trees.specs.File.{DoesReady, DoesFree, DoesPlaced, DoesNamed, DoesFile, DoesName, is_media_index, under_its_name}
use Rattle.dcm_trees.specs.Lines.{ending_fate, no_days_fate}
use Rattle.dcm_trees.specs.Manner.{Manner}
use Rattle.dcm_trees.specs.Modes.{Modes}
use Rattle.dcm_trees.specs.Part as parts
use Rattle.dcm_trees.specs.Part.{MakesPart, Fills, after_closing, GivesSecondName, GivesName, NamesOutput, FillsAndNames, TellsNoPart, naming_fate}
use Rattle.dcm_trees.specs.Place.{Looks, LooksAlong, Finds, FindsFolder, MakesNew, HasFolder, AreMade, MakesWay, end_of_way, end_of_found, end_at, is_free, path_in}
use Rattle.dcm_trees.specs.Place as looking
use Rattle.dcm_trees.specs.Task.{Task}
use Rattle.dcm_tree_laws.specs.Again.{sure}
use Rattle.dcm_tree_laws.specs.Determined.{FileAt, working_may, working_folders, as_whole, working, FileEnd, was_done, no_job, EndsAs, by_job, by_days_of}
use Rattle.dcm_tree_laws.specs.FileSystem.{FileSystem, Tree, Host, number_of, at_path, may_do, folders_do}
use Rattle.dcm_tree_laws.specs.Laws.{IsOutput}
use Rattle.dcm_tree_laws.specs.Single.{IsJobOf}
use Rattle.dcm_tree_laws.proofs.Near.{IsNear}
use Rattle.dcm_tree_laws.specs.Together.{TakesFolder, IsFree, end_fate}
use Rattle.dcm_tree_laws.proofs.Files.{path_is}
use Rattle.dcm_tree_laws.proofs.Closing.{finished_of}
use Rattle.dcm_tree_laws.proofs.Filling.{part_is_made, part_is_new, is_filled_as, is_output}
use Rattle.dcm_tree_laws.proofs.Frees.{IsUntouched, free_stays}
use Rattle.dcm_tree_laws.proofs.Held.{GivesAll}
use Rattle.dcm_tree_laws.proofs.Jobs.{finds_job}
use Rattle.dcm_tree_laws.proofs.Left.{sure_quiet, too_long}
use Rattle.dcm_tree_laws.proofs.Looking.{along, folders, beyond, finds, seeks_mode, always_mode, same_ok}
use Rattle.dcm_tree_laws.proofs.Making as making
use Rattle.dcm_tree_laws.proofs.Quiet.{Quiet}
use Rattle.dcm_tree_laws.proofs.Steps.{idle, writing, whole, quiet}
use Rattle.dcm_tree_laws.proofs.Sure as sures
use Rattle.dcm_tree_laws.proofs.Touched.{Touches, are_made, way_made, made_part, filled, no_done}
use Rattle.dcm_tree_laws.proofs.Ways.{way_folder, WayFolder}
use Rattle.dcm_tree_laws.proofs.WholePart.{IsReady, ready, then_steps}
use Rattle.dcm_tree_laws.proofs.Works as works
use Rattle.dcm_tree_laws.proofs.Working.{working_also, working_sure, working_can, not_unopened, is_opened, IsOpened, job_found, JobIs, job_done, HasDone}
use Rattle.dcm_tree_laws.proofs.Written.{IsIdle, more, is_ready, not_ok}

-- the calls on folders of such a system
abbrev pub Works : {I O F : Type 0} → Host I O → FoldersDo FileSystem O F
Works h = working_folders h (sure (folders_do h))

pub works_quiet : {I O F : Type 0} (h : Host I O) → Quiet (Works {F = F} h)
works_quiet {I} {O} {F} h = record {
  finds = λ before path links r after call. (sure_quiet {F = F} h).finds before path links r after call;
  modes = λ before folder name r after call. (sure_quiet {F = F} h).modes before folder name r after call;
  opens = λ before path r after call. (sure_quiet {F = F} h).opens before path r after call;
  names = λ before folder r left after call. (sure_quiet {F = F} h).names before folder r left after call;
  closes = λ before folder after call. (sure_quiet {F = F} h).closes before folder after call;
}

-- ---- looking

folder_goes_on : {A : Type 0} (kind : FoundKind) (end : _) → kind ≡ kinds.Folder → end_at kind ≡ Some end → A
folder_goes_on kind end is ends = let none : end_at kind ≡ None = ap end_at is in absurd (cc)

-- nothing ends the way but that nothing is there
found_end : {I O : Type 0} (h : Host I O) (t : Tree) (path : List ℕ) (found : Option Found) (end : _) → TakesFolder h t path → found ≡ at_path h t path → end_of_found found ≡ Some end → end_of_found None ≡ Some end
found_end h t path None end takes is ends = ends
found_end h t path (Some f) end takes is ends = folder_goes_on f.kind end (takes.folder_is f (sym is)) ends

blocked_missing : (end way : _) → end_at kinds.File ≡ Some way → way ≡ end → end_of_found None ≡ Some end → ⊥
blocked_missing end way a is b = absurd (cc)

sees_some : {I O : Type 0} (h : Host I O) (t : Tree) (path : List ℕ) (found : Option Found) → TakesFolder h t path → at_path h t path ≢ None → found ≡ at_path h t path → is_none (end_of_found found) ≡ true
sees_some h t path None takes some is = absurd (some (sym is))
sees_some h t path (Some f) takes some is = ap (λ (x : FoundKind). is_none (end_at x)) (takes.folder_is f (sym is))

module _ {I O F : Type 0} (h : Host I O) where
  seen_end : (path : List ℕ) (before : FileSystem) (seen : Result (Option Found) _) (after : FileSystem) (end : _) → TakesFolder h before.now path → Looks (sure (folders_do {F = F} h)) path before seen after → end_of_way seen ≡ Some end → end_of_found None ≡ Some end
  seen_end path before seen after end takes (looking.no_text u t is same) ends = absurd (t takes.text)
  seen_end path before seen after end takes (looking.looked found t call is) ends = found_end h before.now path found end takes call.0.0 (sym (ap end_of_way is) ∙ ends)
  seen_end path before seen after end takes (looking.not_looked e u t call is) ends = absurd (call.1 e refl)

  not_blocked : (output relative path : List ℕ) → path ≡ below output relative → (before : FileSystem) (way : _) (after : FileSystem) → IsFree h output relative before.now → LooksAlong (sure (folders_do {F = F} h)) path (length output + 1) before way after → end_at kinds.File ≡ Some way → ⊥
  not_blocked output relative path is before way after free (looking.to_its_end at f slash w) block = absurd (cc)
  not_blocked output relative path is before way after free (looking.ended at size seen end mid f slash l e w) block =
      let same : mid ≡ before = folders (sure (folders_do {F = F} h)) (sure_quiet h) path (length output + 1) before at mid f in
      let on : WayFolder output relative (take (at + size) path) = way_folder output relative path is at size (beyond (sure (folders_do {F = F} h)) path (length output + 1) before at mid f) slash in
      let takes : TakesFolder h mid.now (take (at + size) path) = subst (λ (p : List ℕ). TakesFolder h mid.now p) (sym on.is) (subst (λ (s : FileSystem). TakesFolder h s.now (below output on.folder)) (sym same) (free.way on.folder on.behind on.cut)) in
      blocked_missing end way block w (seen_end (take (at + size) path) mid seen after end takes l e)

  seen_nothing : (path : List ℕ) (before : FileSystem) (seen : Result (Option Found) _) (after : FileSystem) → IsUtf8 path → at_path h before.now path ≡ None → Looks (sure (folders_do {F = F} h)) path before seen after → seen ≡ Ok None
  seen_nothing path before seen after text none (looking.no_text u t is same) = absurd (t text)
  seen_nothing path before seen after text none (looking.looked found t call is) = is ∙ ap Ok (call.0.0 ∙ none)
  seen_nothing path before seen after text none (looking.not_looked e u t call is) = absurd (call.1 e refl)

  pub finds_free : (output relative path : List ℕ) → path ≡ below output relative → (before : FileSystem) (p : Place) (after : FileSystem) → IsFree h output relative before.now → Finds (sure (folders_do {F = F} h)) path (length output + 1) before p after → is_free p ≡ true
  finds_free output relative path is before p after free (looking.missing l at) = ap is_free at
  finds_free output relative path is before p after free (looking.blocked l at) = absurd (not_blocked output relative path is before _ after free l refl)
  finds_free output relative path is before p after free (looking.at_its_end seen mid l looked_at at) =
      let same : mid ≡ before = along (sure (folders_do {F = F} h)) (sure_quiet h) path (length output + 1) before _ mid l in
      let none : at_path h mid.now path ≡ None = subst (λ (s : FileSystem). at_path h s.now path ≡ None) (sym same) (ap (λ (p : List ℕ). at_path h before.now p) is ∙ free.nothing) in
      ap is_free at ∙ ap (λ x. is_free (looking.place_of x)) (seen_nothing path mid seen after (subst IsUtf8 (sym is) free.text) none looked_at)

  -- ---- folders

  sees_folder : (path : List ℕ) (before : FileSystem) (seen : Result (Option Found) _) (after : FileSystem) → TakesFolder h before.now path → at_path h before.now path ≢ None → Looks (Works {F = F} h) path before seen after → is_none (end_of_way seen) ≡ true
  sees_folder path before seen after takes some (looking.no_text u t is same) = absurd (t takes.text)
  sees_folder path before seen after takes some (looking.looked found t call is) = ap (λ x. is_none (end_of_way x)) is ∙ sees_some h before.now path found takes some call.0.0
  sees_folder path before seen after takes some (looking.not_looked e u t call is) = absurd (call.1 e refl)

  finds_no_folder : (path : List ℕ) (before : FileSystem) (b : Bool) (after : FileSystem) → b ≡ false → TakesFolder h before.now path → at_path h before.now path ≢ None → FindsFolder (Works {F = F} h) path before b after → ⊥
  finds_no_folder path before b after not takes some (looking.by_looking seen l is) = true_false (is_none (end_of_way seen)) (sees_folder path before seen after takes some l) (sym is ∙ not)

  no_new_not : (path : List ℕ) (mode : ℕ) (before : FileSystem) (x : NotMade) (after : FileSystem) → TakesFolder h before.now path → MakesNew (Works {F = F} h) path mode before (Err x) after → ⊥
  no_new_not path mode before x after takes (looking.no_text e t is same) = t takes.text
  no_new_not path mode before x after takes (looking.made t call is) = absurd (cc)
  no_new_not path mode before x after takes (looking.was_there cause tried t call k f is) = absurd (cc)
  no_new_not path mode before x after takes (looking.no_folder cause e tried t call k f is) =
      finds_no_folder path tried false after refl (subst (λ (s : FileSystem). TakesFolder h s.now path) (sym call.0) takes) (subst (λ (s : FileSystem). at_path h s.now path ≢ None) (sym call.0) call.1.0) f
  no_new_not path mode before x after takes (looking.not_made cause e t call k is) = k call.1.1

  no_folder_not : {modes : Modes} {base : ℕ} (path : List ℕ) (before : FileSystem) (x : NotMade) (after : FileSystem) → TakesFolder h before.now path → HasFolder (Works {F = F} h) modes path base before (Err x) after → ⊥
  no_folder_not path before x after takes (looking.there_already f is) = absurd (cc)
  no_folder_not path before x after takes (looking.no_mode n e looked f m is) = always_mode (Works {F = F} h) (λ start folder name error end call. call.1 error refl) looked n after m
  no_folder_not path before x after takes (looking.has_mode mode looked seen f m new) =
      no_new_not path mode seen x after (subst (λ (s : FileSystem). TakesFolder h s.now path) (sym (seeks_mode (Works {F = F} h) (works_quiet h) path before looked (Ok mode) seen f m)) takes) new

-- ---- a way

-- nothing of these steps is at the output, or on its way and no folder
abbrev pub Frees : {I O : Type 0} → Host I O → Manner → (relative : List ℕ) → Type 0
Frees h k relative = IsUntouched h k.part k.output relative relative ⊥

module _ {I O : Type 0} (h : Host I O) (k : Manner) (relative : List ℕ) (clear : Frees h k relative) where
  pub then_free : (t u : Tree) → Touches h k.part k.output relative ⊥ t u → IsFree h k.output relative t → IsFree h k.output relative u
  then_free t u touches free = free_stays h k.part k.output relative relative ⊥ clear t u touches free

module _ {I O F : Type 0} (h : Host I O) (k : Manner) (relative path : List ℕ) (is : path ≡ below k.output relative) (clear : Frees h k relative) where
  way_not : {modes : Modes} (base : ℕ) → length k.output + 1 ≤ base → (before : FileSystem) (x : NotMade) (after : FileSystem) → IsFree h k.output relative before.now → MakesWay (Works {F = F} h) modes path base before (Err x) after → ⊥
  way_not base least before x after free (looking.all_made at more slash e) = absurd (cc)
  way_not base least before x after free (looking.not_all at size e mid more slash has was) =
      let over = sures.are_made (Works {F = F} h) (folders_do {F = F} h) (working_can h) path base before at mid more in
      let far : base ≤ at = making.beyond {F = F} h path base before at mid over in
      let way : WayFolder k.output relative (take (at + size) path) = way_folder k.output relative path is at size (omega (arith, least, far)) slash in
      let now : IsFree h k.output relative mid.now = then_free h k relative clear before.now mid.now (are_made {F = F} h k.part k.output relative ⊥ path is base least before at mid over) free in
      no_folder_not {F = F} h (take (at + size) path) mid e after (subst (λ (p : List ℕ). TakesFolder h mid.now p) (sym way.is) (now.way way.folder way.behind way.cut)) has

-- ---- the output gets its name

module _ {I O F : Type 0} (h : Host I O) (r : Reader I) (w : Writer O) (k : Manner) (relative path bytes : List ℕ) (is : path ≡ below k.output relative) (clear : Frees h k relative) (part_text : IsUtf8 k.part) where
  is_linked : (IsWhole : ℕ → List ℕ → Type 0) (base : ℕ) (start before : FileSystem) (naming : Naming) (after : FileSystem) → IsReady h IsWhole k.part k.output bytes start before → IsFree h k.output relative before.now
      → GivesSecondName (working_may h r w (may_do h)) (Works {F = F} h) k.part path base before naming after → naming ≡ Linked
  is_linked IsWhole base start before naming after i free (parts.no_part_text t x same) = absurd (t part_text)
  is_linked IsWhole base start before naming after i free (parts.no_text t u x same) = absurd (u (subst IsUtf8 (sym is) free.text))
  is_linked IsWhole base start before naming after i free (parts.linked t u call x) = x
  is_linked IsWhole base start before naming after i free (parts.was_there x tried t u call kind again) =
      absurd (call.1 (λ none. none_or_some (at_path h before.now k.part) (ready i).file none (ready i).is) (ap (λ (p : List ℕ). at_path h before.now p) is ∙ free.nothing))
  is_linked IsWhole base start before naming after i free (parts.not_linked x tried t u call kind m) =
      absurd (call.1 (λ none. none_or_some (at_path h before.now k.part) (ready i).file none (ready i).is) (ap (λ (p : List ℕ). at_path h before.now p) is ∙ free.nothing))

  pub gets_name : {modes : Modes} (IsWhole : ℕ → List ℕ → Type 0) (start before : FileSystem) (naming : Naming) (after : FileSystem) → IsReady h IsWhole k.part k.output bytes start before → IsFree h k.output relative before.now
      → GivesName (working_may h r w (may_do h)) (Works {F = F} h) modes k.part path (length k.output + 1) before naming after → naming ≡ Linked
  gets_name IsWhole start before naming after i free (parts.no_way x m y) = absurd (way_not {F = F} h k relative path is clear (length k.output + 1) (omega arith) before x after free m)
  gets_name IsWhole start before naming after i free (parts.on_its_way has_way m g) =
      let over = sures.makes_way (Works {F = F} h) (folders_do {F = F} h) (working_can h) path (length k.output + 1) before (Ok _) has_way m in
      is_linked IsWhole (length k.output + 1) start has_way naming after
      (then_steps i (making.makes_way {F = F} h IsWhole k.part k.output (whole bytes) refl path relative is (length k.output + 1) (omega arith) before (Ok _) has_way over))
      (then_free h k relative clear before.now has_way.now (way_made {F = F} h k.part k.output relative ⊥ path is (length k.output + 1) (omega arith) before (Ok _) has_way over) free) g

-- ---- the job

abbrev pub as_any : {I O : Type 0} (h : Host I O) (r : Reader I) (w : Writer O) (job : Job) (input : I) (output : O) (before : FileSystem) (ending : Ending) (after : FileSystem) → Fills (working_may h r w (may_do h)) (as_whole h r) w job input output before ending after
    → Fills (may_do h) (as_whole h r) w job input output before ending after
as_any h r w job input output before ending after f = record { left = f.left; written = f.written; closed = f.closed; ended = f.ended; closing = Ok _; finished = f.finished; remarks = f.remarks; remarked = f.remarked; closes = f.closes.0; releases = f.releases; ending_is = f.ending_is ∙ ap (after_closing f.ended) f.closes.2 }

-- ---- how the bytes of a file end

abbrev pub end_written : FileEnd → Bool
end_written end = is_written (end_fate end)

-- a file has the fate that its bytes end as
pub record Fated (task : Task) (bytes : List ℕ) (fate : Fate) : Type 0 where
  pub end : FileEnd
  pub ends : EndsAs task bytes end
  pub is : fate ≡ end_fate end

pub by_verdict : (task : Task) (bytes out : List ℕ) (job : Job) (fate : Fate) (ending : Ending) → IsJobOf task bytes job → fate ≡ ending_fate ending → HasDone job bytes out ending → Fated task bytes fate
by_verdict task bytes out job fate ending is_job is has = record {
  end = was_done out has.verdict;
  ends = by_job out has.verdict (record { job = job; is_job = is_job; answered = has.answered }) refl;
  is = is ∙ ap ending_fate has.is;
}

pub no_job_by : (task : Task) (bytes : List ℕ) (fate : Fate) (cause : NoDays) → fate ≡ no_days_fate cause → JobIs task bytes (Err cause) → Fated task bytes fate
no_job_by task bytes fate (no_days.Refused stop) is none = record { end = no_job stop; ends = by_days_of stop none refl; is = is }
no_job_by task bytes fate (no_days.Unread count) is none = absurd none
no_job_by task bytes fate no_days.Unopened is none = absurd none

pub part_not : {I O F : Type 0} (h : Host I O) (part : List ℕ) (mode : ℕ) (before : FileSystem) (cause : NoPart) (after : FileSystem) → IsUtf8 part → MakesPart (Works {F = F} h) part mode before (Err cause) after → cause ≡ PartNotMade → ⊥
part_not h part mode before cause after text (parts.no_text t is same) not = t text
part_not h part mode before cause after text (parts.made o t call is) not = absurd (cc)
part_not h part mode before cause after text (parts.is_there e t call k is) not = absurd (cc)
part_not h part mode before cause after text (parts.no_memory e t call k is) not = absurd (cc)
part_not h part mode before cause after text (parts.not_made e t call k m is) not = k call.1.1

-- another run's part ends the run, and no other is missing
no_part_ends : {A I O F E : Type 0} (h : Host I O) (e : Writer E) (part name : List ℕ) (mode : ℕ) (before : FileSystem) (cause : NoPart) (after : FileSystem) (from : E) (result : Result Fate RunStop) (to : E) (fate : Fate) → IsUtf8 part → MakesPart (Works {F = F} h) part mode before (Err cause) after
    → TellsNoPart e name cause from result to → result ≡ Ok fate → A
no_part_ends h e part name mode before cause after from result to fate text makes (parts.ends_run p c t is) ok = absurd (not_ok result p fate is ok)
no_part_ends {A} {I} {O} {F} h e part name mode before cause after from result to fate text makes (parts.told c t is) ok = absurd (part_not {F = F} h part mode before cause after text makes c)

-- ---- a file

-- it is there, with these bytes
pub record IsHere {I O : Type 0} (h : Host I O) (path bytes : List ℕ) (t : Tree) : Type 0 where
  pub file : FileAt h Followed t path
  pub bytes_are : t.bytes (number_of file.file) ≡ bytes

module _ {I O F E : Type 0} (h : Host I O) (r : Reader I) (w : Writer O) (e : Writer E) (all : GivesAll h (as_whole h r) w) (k : Manner) (n : Named) (clear : Frees h k n.relative) (part_text : IsUtf8 k.part) (of_output : IsNear k.output k.part) (text : IsUtf8 n.path) where
  filled_so : (job : Job) (path bytes : List ℕ) → path ≡ below k.output n.relative → (mode : ℕ) (input : I) (output : O) → r.has_failed input ≡ false → h.holds input ≡ bytes → h.took output ≡ [] → IsJobOf k.task bytes job → (from : E) (start before : FileSystem) (fate : Fate) (to : E) (after : FileSystem)
      → IsIdle h (IsOutput h (as_whole h r) w) k.part k.output (writing (h.masked mode)) start before → IsFree h k.output n.relative before.now → FillsAndNames (working {F = F} h r w e) job k n.name path input output from before fate to after → Fated k.task bytes fate
  filled_so job path bytes is mode input output sound holds new is_job from start before fate to after i free (parts.not_done ending was_filled f not told gone x) =
      by_verdict k.task bytes (h.took f.written) job fate ending is_job x (subst (λ (b : List ℕ). HasDone job b (h.took f.written) ending) holds (job_done h r w all job input output before ending was_filled sound new f))
  filled_so job path bytes is mode input output sound holds new is_job from start before fate to after i free (parts.has_done ending was_filled told f done reports names) =
      let over : Fills (may_do h) (as_whole h r) w job input output before ending was_filled = as_any h r w job input output before ending was_filled f in
      let now : IsFree h k.output n.relative was_filled.now =
      then_free h k n.relative clear before.now was_filled.now (filled h (as_whole h r) w k n.relative job input output before ending was_filled ⊥ over) free in
      let ready_now : IsReady h (IsOutput h (as_whole h r) w) k.part k.output (h.took f.written) start was_filled = is_ready (h.took f.written) (more i
      (is_filled_as h (IsOutput h (as_whole h r) w) (as_whole h r) w k.part k.output (h.masked mode) job input output before ending was_filled over done (is_output h (as_whole h r) w mode job input f.left output f.written ending new (finished_of f done) done))) in
      let linked : names.naming ≡ Linked = gets_name {F = F} h r w k n.relative path (h.took f.written) is clear part_text (IsOutput h (as_whole h r) w) start was_filled names.naming names.named ready_now now names.gives in
      by_verdict k.task bytes (h.took f.written) job fate ending is_job (names.becomes ∙ ap (λ (x : Naming). naming_fate x (ending_fate ending) k.continues) linked)
      (subst (λ (b : List ℕ). HasDone job b (h.took f.written) ending) holds (job_done h r w all job input output before ending was_filled sound new f))

  ready_so : (job : Job) (path bytes : List ℕ) → path ≡ below k.output n.relative → (mode : ℕ) (from : E) (before : FileSystem) (result : Result Fate RunStop) (to : E) (after : FileSystem) (fate : Fate) → IsJobOf k.task bytes job → IsHere h n.path bytes before.now
      → IsIdle h (IsOutput h (as_whole h r) w) k.part k.output idle before before → IsFree h k.output n.relative before.now → DoesReady (working {F = F} h r w e) job k n mode path from before result to after → result ≡ Ok fate → Fated k.task bytes fate
  ready_so job path bytes is mode from before result to after fate is_job here i free (files.not_opened opens told x) ok = not_unopened h r w n.path before after text here.file opens
  ready_so job path bytes is mode from before result to after fate is_job here i free (files.no_part input cause opened tried opens makes back tells) ok =
      no_part_ends {F = F} h e k.part n.name mode opened cause tried from result to fate part_text makes tells ok
  ready_so job path bytes is mode from before result to after fate is_job here i free (files.filled input output became opened made opens makes f x) ok =
      let o : IsOpened h r (before.now.bytes (number_of here.file.file)) input before opened = is_opened h r w n.path before input opened text here.file opens in
      let over = sures.makes_part (Works {F = F} h) (folders_do {F = F} h) (working_can h) k.part mode opened (Ok output) made makes in
      subst (Fated k.task bytes) (sym (same_ok result became fate x ok))
      (filled_so job path bytes is mode input output o.sound (o.holds ∙ here.bytes_are) (part_is_new {F = F} h k.part mode opened output made over) is_job from before made became to after
      (more (more i (quiet o.same)) (part_is_made {F = F} h (IsOutput h (as_whole h r) w) k.part k.output mode opened output made over))
      (then_free h k n.relative clear opened.now made.now (made_part {F = F} h k.part k.output n.relative ⊥ mode opened output made over) (subst (λ (s : FileSystem). IsFree h k.output n.relative s.now) (sym o.same) free)) f)

  free_so : (path bytes : List ℕ) → path ≡ below k.output n.relative → (mode : ℕ) (from : E) (before : FileSystem) (result : Result Fate RunStop) (to : E) (after : FileSystem) (fate : Fate) → IsHere h n.path bytes before.now
      → IsIdle h (IsOutput h (as_whole h r) w) k.part k.output idle before before → IsFree h k.output n.relative before.now → DoesFree (working {F = F} h r w e) k n mode path from before result to after → result ≡ Ok fate → Fated k.task bytes fate
  free_so path bytes is mode from before result to after fate here i free (files.no_days cause f told x) ok =
      no_job_by k.task bytes fate cause (same_ok result (no_days_fate cause) fate x ok) (subst (λ (b : List ℕ). JobIs k.task b (Err cause)) here.bytes_are (job_found h r w all k.task n.path before (Err cause) after text here.file f))
  free_so path bytes is mode from before result to after fate here i free (files.has_job job mid f does) ok =
      let same : mid ≡ before = finds_job h (as_whole h r) k.task n.path before (Ok job) mid (works.finds_job (working_may h r w (may_do h)) (may_do h) (working_also h r w) (as_whole h r) k.task n.path before (Ok job) mid f) in
      ready_so job path bytes is mode from mid result to after fate (subst (λ (b : List ℕ). JobIs k.task b (Ok job)) here.bytes_are (job_found h r w all k.task n.path before (Ok job) mid text here.file f))
      (subst (λ (s : FileSystem). IsHere h n.path bytes s.now) (sym same) here) (subst (λ (s : FileSystem). IsIdle h (IsOutput h (as_whole h r) w) k.part k.output idle s s) (sym same) i)
      (subst (λ (s : FileSystem). IsFree h k.output n.relative s.now) (sym same) free) does ok

  placed_so : (path bytes : List ℕ) → path ≡ below k.output n.relative → (mode : ℕ) (from : E) (before : FileSystem) (result : Result Fate RunStop) (to : E) (after : FileSystem) (fate : Fate) → IsHere h n.path bytes before.now
      → IsIdle h (IsOutput h (as_whole h r) w) k.part k.output idle before before → IsFree h k.output n.relative before.now → DoesPlaced (working {F = F} h r w e) k n mode path from before result to after → result ≡ Ok fate → Fated k.task bytes fate
  placed_so path bytes is mode from before result to after fate here i free (files.not_free p f nf told x) ok =
      true_false (is_free p) (finds_free {F = F} h k.output n.relative path is before p after free (sures.finds (Works {F = F} h) (sure (folders_do {F = F} h)) (working_sure {F = F} h).sees path (length k.output + 1) before p after f)) nf
  placed_so path bytes is mode from before result to after fate here i free (files.free p looked f nf does) ok =
      let same : looked ≡ before = finds (sure (folders_do {F = F} h)) (sure_quiet h) path (length k.output + 1) before p looked (sures.finds (Works {F = F} h) (sure (folders_do {F = F} h)) (working_sure {F = F} h).sees path (length k.output + 1) before p looked f) in
      free_so path bytes is mode from looked result to after fate
      (subst (λ (s : FileSystem). IsHere h n.path bytes s.now) (sym same) here) (subst (λ (s : FileSystem). IsIdle h (IsOutput h (as_whole h r) w) k.part k.output idle s s) (sym same) i)
      (subst (λ (s : FileSystem). IsFree h k.output n.relative s.now) (sym same) free) does ok

  named_so : (bytes : List ℕ) (mode : ℕ) (from : E) (before : FileSystem) (result : Result Fate RunStop) (to : E) (after : FileSystem) (fate : Fate) → IsHere h n.path bytes before.now
      → IsIdle h (IsOutput h (as_whole h r) w) k.part k.output idle before before → IsFree h k.output n.relative before.now → DoesNamed (working {F = F} h r w e) k n mode from before result to after → result ≡ Ok fate → Fated k.task bytes fate
  named_so bytes mode from before result to after fate here i free (files.too_long none told x same) ok = absurd (too_long k.output n.relative free.fits none)
  named_so bytes mode from before result to after fate here i free (files.placed path at does) ok = placed_so path bytes (path_is k.output n.relative path at) mode from before result to after fate here i free does ok

  kept_so : (bytes : List ℕ) (mode : ℕ) (from : E) (before : FileSystem) (became : Result Fate RunStop) (result : Result Done RunStop) (to : E) (after : FileSystem) (done : Done) → IsHere h n.path bytes before.now
      → IsIdle h (IsOutput h (as_whole h r) w) k.part k.output idle before before → IsFree h k.output n.relative before.now → DoesNamed (working {F = F} h r w e) k n mode from before became to after → result ≡ under_its_name became → result ≡ Ok done → Fated k.task bytes done.fate
  kept_so bytes mode from before (Ok fate) result to after done here i free does x ok =
      subst (λ (d : Done). Fated k.task bytes d.fate) (sym (same_ok result (record { fate = fate; instance = None }) done x ok)) (named_so bytes mode from before (Ok fate) to after fate here i free does refl)
  kept_so bytes mode from before (Err p) result to after done here i free does x ok = absurd (no_done result p done x ok)

  file_so : (bytes : List ℕ) (mode : ℕ) (from : E) (before : FileSystem) (result : Result Done RunStop) (to : E) (after : FileSystem) (done : Done) → k.keeps_names ≡ true → is_media_index n.relative ≡ false → IsHere h n.path bytes before.now
      → IsIdle h (IsOutput h (as_whole h r) w) k.part k.output idle before before → IsFree h k.output n.relative before.now → DoesFile (working {F = F} h r w e) k n mode from before result to after → result ≡ Ok done → Fated k.task bytes done.fate
  file_so bytes mode from before result to after done keeps no_index here i free (files.an_index index told x same) ok = true_false (is_media_index n.relative) index no_index
  file_so bytes mode from before result to after done keeps no_index here i free (files.keeps_name became index kept does x) ok = kept_so bytes mode from before became result to after done here i free does x ok
  file_so bytes mode from before result to after done keeps no_index here i free (files.by_instance index not does) ok = true_false k.keeps_names keeps not

  pub fated : (bytes : List ℕ) (mode : ℕ) (from : E) (before : FileSystem) (done : Done) (to : E) (after : FileSystem) → k.keeps_names ≡ true → is_media_index n.relative ≡ false → IsHere h n.path bytes before.now
      → IsIdle h (IsOutput h (as_whole h r) w) k.part k.output idle before before → IsFree h k.output n.relative before.now → DoesName (working {F = F} h r w e) k n (File mode) from before (Ok done) to after → Fated k.task bytes done.fate
  fated bytes mode from before done to after keeps no_index here i free (files.a_file other is does) = file_so bytes other from before (Ok done) to after done keeps no_index here i free does refl
  fated bytes mode from before done to after keeps no_index here i free (files.no_file other told is same) = absurd (other mode refl)
