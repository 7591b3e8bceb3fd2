-- Each file that a walk visits was seen at its path when it is visited, with its mode.
use Rattle.std.proofs.Common.{◌≡◌, ◌∙◌, refl, sym, ap, subst, ℕ, zero, suc, ◌+◌, List, ◌++◌, length, take, drop, Bool, true, false, Option, Some, None, Result, Ok, Err, arith, append_assoc, length-append}
use Rattle.std.specs.Prelude.{◌||◌, codes, not, nat_lt, if◌then◌else◌}
use Rattle.std.proofs.lemmas.Bool.{ltb-false}
use Rattle.std.proofs.lemmas.List.{take_all}
use Rattle.dcm_lemmas.proofs.Options.{some_same}
use Rattle.dcm_files.specs.declared.folders.Found.{Found}
use Rattle.dcm_files.specs.declared.folders.FoundKind.{FoundKind}
use Rattle.dcm_files.specs.declared.folders.FoundKind.TheVariants as kinds
use Rattle.dcm_files.specs.declared.folders.Links.{Links}
use Rattle.dcm_files.specs.declared.folders.Links.TheVariants.{Kept, Followed}
use Rattle.dcm_tree_laws.proofs.OneParts.{past_root}
use Rattle.dcm_walk.specs.Folder as walk
use Rattle.dcm_walk.specs.Folder.{IsFit, IsJudged, DoesNamed, Listed, DoesNames, DoesFolder, Enters, EntersAt, EntryAt, WalksFolder, named_at, LEVELS}
use Rattle.dcm_walk.specs.List as lists
use Rattle.dcm_walk.specs.List.{DoesLine, WalksList, LooksAlong, wrong_with, what_of, what_at, named_line}
use Rattle.dcm_names.specs.Names.{NAME_LIMIT}
use Rattle.dcm_walk.specs.Names.{PATH_LIMIT, below, leads_below}
use Rattle.dcm_walk.specs.Visits.{Named, Step, Visits}
use Rattle.dcm_walk.specs.declared.folder.FolderNumber.{FolderNumber}
use Rattle.dcm_walk.specs.declared.folder.Walk.{Walk}
use Rattle.dcm_walk.specs.declared.list.ListEnd.{ListEnd}
use Rattle.dcm_walk.specs.declared.visitor.Stopped.{Stopped}
use Rattle.dcm_walk.specs.declared.visitor.What.{What}
use Rattle.dcm_walk.specs.declared.visitor.What.TheVariants as whats
use Rattle.dcm_tree_laws.specs.FileSystem.{FileSystem, Host, folders_do}
use Rattle.dcm_tree_laws.proofs.Below.{fit_leads}

-- a name that stands below the folder that is walked
abbrev pub IsUnder : (root : List ℕ) → Named → Type 0
IsUnder root n = n.path ≡ below root n.relative

-- a name that the walk of that folder comes to, before it is known to fit: it may be cut
abbrev IsReached : (root : List ℕ) → Named → Type 0
IsReached root n = (relative : List ℕ) × (n.path ≡ below root relative) × (n.relative ≡ take NAME_LIMIT relative)

-- a name that is a line of a list
abbrev pub IsLine : Named → Type 0
IsLine n = n ≡ named_line n.name

-- a regular file with this mode is at the path of a name that is such, and leads to something below the folder
pub record SawFile {I O : Type 0} (h : Host I O) (links : Links) (In : Named → Type 0) (s : FileSystem) (n : Named) (mode : ℕ) : Type 0 where
  pub file : Found
  pub is : s.now.at (h.leads links n.path) ≡ Some file
  pub mode_is : file.mode ≡ mode
  pub kind : file.kind ≡ kinds.File
  pub leads : leads_below n.relative ≡ true
  pub of_source : In n

pub saw_in : {I O : Type 0} (h : Host I O) (links : Links) (In Of : Named → Type 0) (s : FileSystem) (n : Named) (mode : ℕ) → (In n → Of n) → SawFile h links In s n mode → SawFile h links Of s n mode
saw_in h links In Of s n mode of_it saw = record { file = saw.file; is = saw.is; mode_is = saw.mode_is; kind = saw.kind; leads = saw.leads; of_source = of_it saw.of_source }

-- so it is of a file that is visited
abbrev pub Saw : {I O : Type 0} → Host I O → Links → (In : Named → Type 0) → FileSystem → Named → What → Type 0
Saw h links In s n what = (mode : ℕ) → what ≡ whats.File mode → SawFile h links In s n mode

-- visits of such names
abbrev pub seen : {I O V : Type 0} → Host I O → Links → (In : Named → Type 0) → Visits V FileSystem → Visits V FileSystem
seen h links In visits = λ from before n what r to after. visits from before n what r to after × Saw h links In before n what

abbrev pub Becomes : {V : Type 0} → Step V FileSystem → Step V FileSystem → Type 0
Becomes {V} one other = (from : V) (before : FileSystem) (r : Result (Unit {0}) Stopped) (to : V) (after : FileSystem) → one from before r to after → other from before r to after

-- what is no file
none_saw : {I O : Type 0} (h : Host I O) (links : Links) (In : Named → Type 0) (s : FileSystem) (n : Named) (what : What) → ((mode : ℕ) → what ≡ whats.File mode → ⊥) → Saw h links In s n what
none_saw h links In s n what not = λ mode is. absurd (not mode is)

judged_not : (n : Named) (what : What) → IsJudged n what → (mode : ℕ) → what ≡ whats.File mode → ⊥
judged_not n what (walk.unfit u is) mode e = absurd (cc)
judged_not n what (walk.no_text u t is) mode e = absurd (cc)
judged_not n what (walk.of_run u t p is) mode e = absurd (cc)

same_mode : (a b : ℕ) → whats.File a ≡ whats.File b → a ≡ b
same_mode a b e = cc

-- what was found is there
found_saw : {I O : Type 0} (h : Host I O) (links : Links) (In : Named → Type 0) (n : Named) (found : Found) (before looked : FileSystem) → In n → IsFit n → found.kind ≡ kinds.File → (Some found ≡ before.now.at (h.leads links n.path)) × (looked ≡ before) → Saw h links In looked n (whats.File found.mode)
found_saw h links In n found before looked under fit kind call = λ mode is. record {
  file = found;
  is = subst (λ (s : FileSystem). s.now.at (h.leads links n.path) ≡ Some found) (sym call.1) (sym call.0);
  mode_is = same_mode found.mode mode is;
  kind = kind;
  leads = fit_leads n fit;
  of_source = under;
}

-- ---- a folder

reached : (root path relative : List ℕ) (base : ℕ) → base ≡ length root + 1 → path ≡ below root relative → IsReached root (named_at base path)
reached root path relative base at is = (
  relative,
  is,
  ap (take NAME_LIMIT) (ap (λ (n : ℕ). drop n path) at ∙ ap (drop (length root + 1)) is ∙ past_root root relative),
)

not_long : (long leads : Bool) → (long || not leads) ≡ false → long ≡ false
not_long true leads e = absurd (cc)
not_long false leads e = refl

-- one that fits is not cut
no_cut : (path root relative : List ℕ) → path ≡ below root relative → nat_lt PATH_LIMIT (length path) ≡ false → take NAME_LIMIT relative ≡ relative
no_cut path root relative is short =
    take_all NAME_LIMIT relative (omega (arith, ltb-false PATH_LIMIT (length path) short, ap (λ (p : List ℕ). length p) is ∙ length-append (root ++ codes "/") relative))

under : (root : List ℕ) (n : Named) → IsReached root n → IsFit n → IsUnder root n
under root n r fit = r.1 ∙ ap (below root) (sym (r.2 ∙ no_cut n.path root r.0 r.1 (not_long (nat_lt PATH_LIMIT (length n.path)) (leads_below n.relative) fit.fits)))

-- what is in a folder below it is so too
under_entry : (root folder entry relative : List ℕ) → folder ≡ below root relative → below folder entry ≡ below root (below relative entry)
under_entry root folder entry relative is =
    ap (λ (x : List ℕ). below x entry) is ∙ ap (λ (x : List ℕ). x ++ entry) (append_assoc (root ++ codes "/") relative (codes "/")) ∙ append_assoc (root ++ codes "/") (relative ++ codes "/") entry

module _ {I O V : Type 0} (F : Type 0) (h : Host I O) (root : List ℕ) (visits : Visits V FileSystem) where
  named_seen : (Enter EnterSeen : Found → Named → Step V FileSystem) → ((found : Found) (n : Named) → IsReached root n → Becomes (Enter found n) (EnterSeen found n)) → (n : Named) → IsReached root n
      → Becomes (DoesNamed (folders_do {F = F} h) visits Enter n) (DoesNamed (folders_do {F = F} h) (seen h Kept (IsUnder root) visits) EnterSeen n)
  named_seen Enter EnterSeen enters n at from before r to after (walk.not_fit what judged v) = walk.not_fit what judged (v, none_saw h Kept (IsUnder root) before n what (judged_not n what judged))
  named_seen Enter EnterSeen enters n at from before r to after (walk.not_seen looked fit s v) = walk.not_seen looked fit s (v, none_saw h Kept (IsUnder root) looked n _ (λ mode e. absurd (cc)))
  named_seen Enter EnterSeen enters n at from before r to after (walk.a_file found looked fit s is v) = walk.a_file found looked fit s is (v, found_saw h Kept (IsUnder root) n found before looked (under root n at fit) fit is s)
  named_seen Enter EnterSeen enters n at from before r to after (walk.no_file found looked fit s is v) = walk.no_file found looked fit s is (v, none_saw h Kept (IsUnder root) looked n _ (λ mode e. absurd (cc)))
  named_seen Enter EnterSeen enters n at from before r to after (walk.a_folder found looked fit s is e) = walk.a_folder found looked fit s is (enters found n at from looked r to after e)

  listed_seen : (Entry EntrySeen : List ℕ → Step V FileSystem) → ((name : List ℕ) → Becomes (Entry name) (EntrySeen name)) → (from : V) (before : FileSystem) (folder : F) (count : ℕ) (to : V) (after : FileSystem) (left : F)
      → Listed (folders_do {F = F} h) Entry from before folder count to after left → Listed (folders_do {F = F} h) EntrySeen from before folder count to after left
  listed_seen Entry EntrySeen entries from before folder count to after left (walk.none_listed c v s f) = walk.none_listed c v s f
  listed_seen Entry EntrySeen entries from before folder count to after left (walk.and_entry others name mid between given at listed call entry c) =
      walk.and_entry others name mid between given at (listed_seen Entry EntrySeen entries from before folder others mid between at listed) call (entries name mid given (Ok _) to after entry) c

  names_seen : (Entry EntrySeen : List ℕ → Step V FileSystem) → ((name : List ℕ) → Becomes (Entry name) (EntrySeen name)) → (folder left : F) (from : V) (before : FileSystem) (r : Result Bool Stopped) (to : V) (after : FileSystem)
      → DoesNames (folders_do {F = F} h) Entry folder left from before r to after → DoesNames (folders_do {F = F} h) EntrySeen folder left from before r to after
  names_seen Entry EntrySeen entries folder left from before r to after (walk.all_listed count at listed l call is) = walk.all_listed count at listed (listed_seen Entry EntrySeen entries from before folder count to listed at l) call is
  names_seen Entry EntrySeen entries folder left from before r to after (walk.not_listed count e at listed l call is) =
      walk.not_listed count e at listed (listed_seen Entry EntrySeen entries from before folder count to listed at l) call is
  names_seen Entry EntrySeen entries folder left from before r to after (walk.too_many l is) = walk.too_many (listed_seen Entry EntrySeen entries from before folder _ to after left l) is
  names_seen Entry EntrySeen entries folder left from before r to after (walk.was_stopped count name e at mid listed given l call entry is) =
      walk.was_stopped count name e at mid listed given (listed_seen Entry EntrySeen entries from before folder count mid listed at l) call (entries name mid given (Err e) to after entry) is

  folder_seen : (Entry EntrySeen : List ℕ → Step V FileSystem) → ((name : List ℕ) → Becomes (Entry name) (EntrySeen name)) → (n : Named) (folder : F)
      → Becomes (DoesFolder (folders_do {F = F} h) visits Entry n folder) (DoesFolder (folders_do {F = F} h) (seen h Kept (IsUnder root) visits) EntrySeen n folder)
  folder_seen Entry EntrySeen entries n folder from before r to after (walk.whole left listed names close is) = walk.whole left listed (names_seen Entry EntrySeen entries folder left from before (Ok true) to listed names) close is
  folder_seen Entry EntrySeen entries n folder from before r to after (walk.not_whole left mid listed was_closed names close v) =
      walk.not_whole left mid listed was_closed (names_seen Entry EntrySeen entries folder left from before (Ok false) mid listed names) close (v, none_saw h Kept (IsUnder root) was_closed n _ (λ mode e. absurd (cc)))
  folder_seen Entry EntrySeen entries n folder from before r to after (walk.stopped e left listed names close is) = walk.stopped e left listed (names_seen Entry EntrySeen entries folder left from before (Err e) to listed names) close is

  enters_seen : (w : Walk) (Entry EntrySeen : (folder entry : List ℕ) → Step V FileSystem) (found : Found) (n : Named) → ((entry : List ℕ) → Becomes (Entry n.path entry) (EntrySeen n.path entry))
      → Becomes (Enters (folders_do {F = F} h) visits w Entry found n) (Enters (folders_do {F = F} h) (seen h Kept (IsUnder root) visits) w EntrySeen found n)
  enters_seen w Entry EntrySeen found n entries from before r to after (walk.of_output is v) = walk.of_output is (v, none_saw h Kept (IsUnder root) before n _ (λ mode e. absurd (cc)))
  enters_seen w Entry EntrySeen found n entries from before r to after (walk.not_opened tried is o v) = walk.not_opened tried is o (v, none_saw h Kept (IsUnder root) tried n _ (λ mode e. absurd (cc)))
  enters_seen w Entry EntrySeen found n entries from before r to after (walk.entered folder opened is o does) =
      walk.entered folder opened is o (folder_seen (Entry n.path) (EntrySeen n.path) entries n folder from opened r to after does)

  enters_at_seen : (w : Walk) → w.base ≡ length root + 1 → (levels : ℕ) (found : Found) (n : Named) → IsReached root n → Becomes (EntersAt (folders_do {F = F} h) visits w levels found n) (EntersAt (folders_do {F = F} h) (seen h Kept (IsUnder root) visits) w levels found n)
  unfolding EntersAt
  enters_at_seen w base zero found n at from before r to after v = (v, none_saw h Kept (IsUnder root) before n _ (λ mode e. absurd (cc)))
  enters_at_seen w base (suc levels) found n at from before r to after enters =
      enters_seen w (λ folder entry. DoesNamed (folders_do {F = F} h) visits (EntersAt (folders_do {F = F} h) visits w levels) (named_at w.base (below folder entry)))
      (λ folder entry. DoesNamed (folders_do {F = F} h) (seen h Kept (IsUnder root) visits) (EntersAt (folders_do {F = F} h) (seen h Kept (IsUnder root) visits) w levels) (named_at w.base (below folder entry))) found n
      (λ entry. named_seen (EntersAt (folders_do {F = F} h) visits w levels) (EntersAt (folders_do {F = F} h) (seen h Kept (IsUnder root) visits) w levels) (enters_at_seen w base levels) (named_at w.base (below n.path entry))
      (reached root (below n.path entry) (below at.0 entry) w.base base (under_entry root n.path entry at.0 at.1))) from before r to after enters

  pub walk_seen : (output : FolderNumber) (folder : F) → Becomes (WalksFolder (folders_do {F = F} h) visits root output folder) (WalksFolder (folders_do {F = F} h) (seen h Kept (IsUnder root) visits) root output folder)
  walk_seen output folder from before r to after does =
      let w : Walk = record { base = length root + 1; output = output } in
      folder_seen (EntryAt (folders_do {F = F} h) visits w LEVELS root) (EntryAt (folders_do {F = F} h) (seen h Kept (IsUnder root) visits) w LEVELS root)
      (λ entry. named_seen (EntersAt (folders_do {F = F} h) visits w LEVELS) (EntersAt (folders_do {F = F} h) (seen h Kept (IsUnder root) visits) w LEVELS) (enters_at_seen w refl LEVELS) (named_at w.base (below root entry))
      (reached root (below root entry) entry w.base refl refl)) _ folder from before r to after does

-- ---- a list

wrong_if : (b : Bool) (what : What) (mode : ℕ) → (if b then Some whats.OfOutput else None) ≡ Some what → what ≡ whats.File mode → ⊥
wrong_if true what mode e is = absurd (cc)
wrong_if false what mode e is = absurd (cc)

wrong_not : (output : FolderNumber) (found : Option Found) (what : What) (mode : ℕ) → wrong_with output found ≡ Some what → what ≡ whats.File mode → ⊥
wrong_not output None what mode e is = absurd (cc)
wrong_not output (Some found) what mode e is = wrong_if (walk.is_output output found) what mode e is

mode_at : (kind : FoundKind) (a b : ℕ) → what_at kind a ≡ whats.File b → a ≡ b
mode_at kinds.File a b e = cc
mode_at kinds.Folder a b e = absurd (cc)
mode_at kinds.Other a b e = absurd (cc)

kind_at : (kind : FoundKind) (a b : ℕ) → what_at kind a ≡ whats.File b → kind ≡ kinds.File
kind_at kinds.File a b e = refl
kind_at kinds.Folder a b e = absurd (cc)
kind_at kinds.Other a b e = absurd (cc)

kind_if : (b : Bool) (kind : FoundKind) (mode other : ℕ) → (if b then whats.OfOutput else what_at kind mode) ≡ whats.File other → kind ≡ kinds.File
kind_if true kind mode other e = absurd (cc)
kind_if false kind mode other e = kind_at kind mode other e

mode_if : (b : Bool) (kind : FoundKind) (mode other : ℕ) → (if b then whats.OfOutput else what_at kind mode) ≡ whats.File other → mode ≡ other
mode_if true kind mode other e = absurd (cc)
mode_if false kind mode other e = mode_at kind mode other e

module _ {I O V : Type 0} (F : Type 0) (h : Host I O) (visits : Visits V FileSystem) where
  on_the_way : (output : FolderNumber) (n : Named) (before : FileSystem) (wrong : Option What) (what : What) (after : FileSystem) → wrong ≡ Some what → LooksAlong (folders_do {F = F} h) output n.relative before wrong after → Saw h Followed IsLine after n what
  on_the_way output n before wrong what after w (lists.with_none at o slash is) = absurd (cc)
  on_the_way output n before wrong what after w (lists.with_one at size found other mid o slash s wrong_is is) =
      none_saw h Followed IsLine after n what (λ mode e. wrong_not output found other mode wrong_is (some_same other what (sym is ∙ w) ∙ e))

  at_its_end : (output : FolderNumber) (n : Named) (found : Option Found) (before after : FileSystem) (what : What) → IsLine n → IsFit n → what ≡ what_of output found → lists.Sees (folders_do {F = F} h) n.path before found after → Saw h Followed IsLine after n what
  at_its_end output n None before after what line fit is s = none_saw h Followed IsLine after n what (λ mode e. absurd (let no : whats.Unseen ≡ whats.File mode = sym is ∙ e in cc))
  at_its_end output n (Some found) before after what line fit is s = λ mode e. record {
    file = found;
    is = subst (λ (t : FileSystem). t.now.at (h.leads Followed n.path) ≡ Some found) (sym s.1) (sym s.0);
    mode_is = mode_if (walk.is_output output found) found.kind found.mode mode (sym is ∙ e);
    kind = kind_if (walk.is_output output found) found.kind found.mode mode (sym is ∙ e);
    leads = fit_leads n fit;
    of_source = line;
  }

  looks_saw : (output : FolderNumber) (n : Named) (before : FileSystem) (what : What) (after : FileSystem) → IsLine n → IsFit n → lists.Looks (folders_do {F = F} h) output n before what after → Saw h Followed IsLine after n what
  looks_saw output n before what after line fit (lists.on_the_way l) = on_the_way output n before (Some what) what after refl l
  looks_saw output n before what after line fit (lists.at_its_end found mid l s is) = at_its_end output n found mid after what line fit is s

  line_seen : (output : FolderNumber) (line : List ℕ) → Becomes (DoesLine (folders_do {F = F} h) visits output line) (DoesLine (folders_do {F = F} h) (seen h Followed IsLine visits) output line)
  line_seen output line from before r to after (lists.not_fit what judged v) = lists.not_fit what judged (v, none_saw h Followed IsLine before (named_line line) what (judged_not (named_line line) what judged))
  line_seen output line from before r to after (lists.looked what mid fit l v) = lists.looked what mid fit l (v, looks_saw output (named_line line) before what mid refl fit l)

  lines_seen : (gets : I → Option (List ℕ) → I → Type 0) (output : FolderNumber) (from : V) (before : FileSystem) (input : I) (to : V) (after : FileSystem) (given : List ℕ) (left : I) (is_over : Bool) (names : List (List ℕ))
      → lists.Listed gets (DoesLine (folders_do {F = F} h) visits output) from before input to after given left is_over names → lists.Listed gets (DoesLine (folders_do {F = F} h) (seen h Followed IsLine visits) output) from before input to after given left is_over names
  lines_seen gets output from before input to after given left is_over names (lists.none_listed v s g l o n) = lists.none_listed v s g l o n
  lines_seen gets output from before input to after given left is_over names (lists.and_line earlier bytes rest name mid between at l calls line g n) =
      lists.and_line earlier bytes rest name mid between at (lines_seen gets output from before input mid between earlier at false rest l) calls (line_seen output _ mid between (Ok _) to after line) g n

  pub list_seen : (gets : I → Option (List ℕ) → I → Type 0) (output : FolderNumber) (from : V) (before : FileSystem) (input : I) (r : Result ListEnd Stopped) (to : V) (after : FileSystem) (left : I)
      → WalksList (folders_do {F = F} h) visits gets output from before input r to after left → WalksList (folders_do {F = F} h) (seen h Followed IsLine visits) gets output from before input r to after left
  list_seen gets output from before input r to after left (lists.all_done given was_over names at l a is) = lists.all_done given was_over names at (lines_seen gets output from before input to after given at was_over names l) a is
  list_seen gets output from before input r to after left (lists.not_read given was_over names count at l a is) = lists.not_read given was_over names count at (lines_seen gets output from before input to after given at was_over names l) a is
  list_seen gets output from before input r to after left (lists.was_stopped given bytes is_over names rest name e mid between at l calls all line is) =
      lists.was_stopped given bytes is_over names rest name e mid between at (lines_seen gets output from before input mid between given at false names l) calls all (line_seen output _ mid between (Err e) to after line) is
