-- A walk of a folder visits each file below it once, where listing a folder gives the names in it.
use Rattle.std.proofs.Common.{◌≡◌, ◌∙◌, refl, sym, ap, subst, inl, inr, ◌⊎◌, ℕ, zero, suc, ◌+◌, ◌<◌, ◌≤◌, List, [], ◌∷◌, ◌++◌, length, Bool, true, false, Option, Some, None, Result, Ok, Err, arith, append_assoc, length-append}
use Rattle.std.specs.Prelude.{◌≢◌, codes}
use Rattle.std.specs.declared.io.Error.{Error}
use Rattle.dcm_lemmas.proofs.Options.{some_same}
use Rattle.dcm_lemmas.proofs.Truth.{true_false}
use Rattle.dcm_files.specs.Folders.{FoldersDo}
use Rattle.dcm_files.specs.declared.folders.Found.{Found}
use Rattle.dcm_files.specs.declared.folders.FoundKind.{FoundKind}
use Rattle.dcm_files.specs.declared.folders.FoundKind.TheVariants as kinds
use Rattle.dcm_files.specs.declared.folders.Links.TheVariants.{Kept}
use Rattle.dcm_walk.specs.Folder as walk
use Rattle.dcm_walk.specs.Folder.{is_unfit, IsFit, IsJudged, Sees, Opens, DoesNamed, Listed, DoesNames, DoesFolder, Enters, EntersAt, EntryAt, named_at, is_output, NAMES_LIMIT}
use Rattle.dcm_walk.specs.Names.{below, leads_below, is_part_file}
use Rattle.dcm_walk.specs.Visits.{Named, Step, Visits}
use Rattle.dcm_walk.specs.declared.folder.Walk.{Walk}
use Rattle.dcm_walk.specs.declared.visitor.Stopped.{Stopped}
use Rattle.dcm_walk.specs.declared.visitor.What.{What}
use Rattle.dcm_walk.specs.declared.visitor.What.TheVariants as whats
use Rattle.dcm_tree_laws.specs.Again.{OfAll}
use Rattle.dcm_tree_laws.specs.Determined.{FileAt}
use Rattle.dcm_tree_laws.specs.FileSystem.{FileSystem, Tree, Host, at_path}
use Rattle.dcm_tree_laws.specs.Rows.{Visit, noted}
use Rattle.dcm_tree_laws.specs.Together.{Has}
use Rattle.dcm_tree_laws.specs.Visited.{IsOnePart, IsIn, HasOnce, GivesAll, GivesName, depth, IsOtherFolder, SaysUnread}
use Rattle.dcm_tree_laws.proofs.Below.{leads_folder}
use Rattle.dcm_tree_laws.proofs.OneParts.{AtOrBelow, below_twice, below_folder, same_name, Cut, is_one, has_more, cut, leads_rest}
use Rattle.dcm_tree_laws.proofs.Quiet.{Quiet}
use Rattle.dcm_tree_laws.proofs.RowsBy.{visit_of}

-- ---- visits

pub all_of : (Is : Visit → Type 0) (a b : List Visit) → OfAll Is a → OfAll Is b → OfAll Is (a ++ b)
all_of Is [] b all also = also
all_of Is (v ∷ a) b all also = (all.0, all_of Is a b all.1 also)

pub all_so : (Is Also : Visit → Type 0) → ((v : Visit) → Is v → Also v) → (a : List Visit) → OfAll Is a → OfAll Also a
all_so Is Also so [] all = tt
all_so Is Also so (v ∷ a) all = (so v all.0, all_so Is Also so a all.1)

-- one is among them, and something is so of all others
pub record Among (x : Visit) (Aside : Visit → Type 0) (visits : List Visit) : Type 0 where
  pub earlier : List Visit
  pub later : List Visit
  pub is : visits ≡ earlier ++ x ∷ later
  pub before : OfAll Aside earlier
  pub behind : OfAll Aside later

among_more : (x : Visit) (Aside : Visit → Type 0) (a b : List Visit) → OfAll Aside a → Among x Aside b → Among x Aside (a ++ b)
among_more x Aside a b all m = record {
  earlier = a ++ m.earlier;
  later = m.later;
  is = ap (λ (y : List Visit). a ++ y) m.is ∙ sym (append_assoc a m.earlier (x ∷ m.later));
  before = all_of Aside a m.earlier all m.before;
  behind = m.behind;
}

among_then : (x : Visit) (Aside : Visit → Type 0) (a b : List Visit) → Among x Aside a → OfAll Aside b → Among x Aside (a ++ b)
among_then x Aside a b m all = record {
  earlier = m.earlier;
  later = m.later ++ b;
  is = ap (λ (y : List Visit). y ++ b) m.is ∙ append_assoc m.earlier (x ∷ m.later) b;
  before = m.before;
  behind = all_of Aside m.later b m.behind all;
}

pub among_so : (x : Visit) (Is Also : Visit → Type 0) → ((v : Visit) → Is v → Also v) → (a : List Visit) → Among x Is a → Among x Also a
among_so x Is Also so a m = record { earlier = m.earlier; later = m.later; is = m.is; before = all_so Is Also so m.earlier m.before; behind = all_so Is Also so m.later m.behind }

has_behind : (y : Visit) (a b : List Visit) → Has y b → Has y (a ++ b)
has_behind y [] b has = has
has_behind y (v ∷ a) b has = inr (has_behind y a b has)

has_then : (y : Visit) (a b : List Visit) → Has y a → Has y (a ++ b)
has_then y [] b has = absurd has
has_then y (v ∷ a) b (inl e) = inl e
has_then y (v ∷ a) b (inr has) = inr (has_then y a b has)

-- a path leads through another one
abbrev pub LeadsOn : (way path : List ℕ) → Type 0
LeadsOn way path = (behind : List ℕ) × (path ≡ below way behind)

-- one of a file is among visits, all others being aside; or, where a call failed, one that says that it could not be looked
-- at; or that of a folder on its way says that it was not listed
pub data Met (Failed : Type 0) (base : ℕ) (path : List ℕ) (mode : ℕ) (Aside : Visit → Type 0) (new : List Visit) : Type 0 where
  was_visited : Among (visit_of (named_at base path) (whats.File mode)) Aside new → Met Failed base path mode Aside new
  was_unseen : Failed → Among (visit_of (named_at base path) whats.Unseen) Aside new → Met Failed base path mode Aside new
  was_behind : Failed → (y : Visit) → Has y new → LeadsOn y.named.path path → SaysUnread y → OfAll Aside new → Met Failed base path mode Aside new

met_more : (Failed : Type 0) (base : ℕ) (path : List ℕ) (mode : ℕ) (Aside : Visit → Type 0) (a b : List Visit) → OfAll Aside a → Met Failed base path mode Aside b → Met Failed base path mode Aside (a ++ b)
met_more Failed base path mode Aside a b all (was_visited m) = was_visited (among_more (visit_of (named_at base path) (whats.File mode)) Aside a b all m)
met_more Failed base path mode Aside a b all (was_unseen failed m) = was_unseen failed (among_more (visit_of (named_at base path) whats.Unseen) Aside a b all m)
met_more Failed base path mode Aside a b all (was_behind failed y has on says more_all) = was_behind failed y (has_behind y a b has) on says (all_of Aside a b all more_all)

met_then : (Failed : Type 0) (base : ℕ) (path : List ℕ) (mode : ℕ) (Aside : Visit → Type 0) (a b : List Visit) → Met Failed base path mode Aside a → OfAll Aside b → Met Failed base path mode Aside (a ++ b)
met_then Failed base path mode Aside a b (was_visited m) all = was_visited (among_then (visit_of (named_at base path) (whats.File mode)) Aside a b m all)
met_then Failed base path mode Aside a b (was_unseen failed m) all = was_unseen failed (among_then (visit_of (named_at base path) whats.Unseen) Aside a b m all)
met_then Failed base path mode Aside a b (was_behind failed y has on says all) more_all = was_behind failed y (has_then y a b has) on says (all_of Aside a b all more_all)

met_so : (Failed : Type 0) (base : ℕ) (path : List ℕ) (mode : ℕ) (Is Also : Visit → Type 0) → ((v : Visit) → Is v → Also v) → (a : List Visit) → Met Failed base path mode Is a → Met Failed base path mode Also a
met_so Failed base path mode Is Also so a (was_visited m) = was_visited (among_so (visit_of (named_at base path) (whats.File mode)) Is Also so a m)
met_so Failed base path mode Is Also so a (was_unseen failed m) = was_unseen failed (among_so (visit_of (named_at base path) whats.Unseen) Is Also so a m)
met_so Failed base path mode Is Also so a (was_behind failed y has on says all) = was_behind failed y has on says (all_so Is Also so a all)

-- ---- what a step adds to the visits

pub record Added {V : Type 0} (Good : V → FileSystem → Type 0) (IsSo : List Visit → Type 0) (from to : V × List Visit) (after : FileSystem) : Type 0 where
  pub new : List Visit
  pub is : to.1 ≡ from.1 ++ new
  pub good : Good to.0 after
  pub so : IsSo new

added_so : {V : Type 0} (Good : V → FileSystem → Type 0) (Is Also : List Visit → Type 0) (from to : V × List Visit) (after : FileSystem) → ((new : List Visit) → Is new → Also new) → Added Good Is from to after → Added Good Also from to after
added_so Good Is Also from to after so a = record { new = a.new; is = a.is; good = a.good; so = so a.new a.so }

added_twice : {V : Type 0} (Good : V → FileSystem → Type 0) (Is Then Both : List Visit → Type 0) (from mid to : V × List Visit) (between after : FileSystem) → ((a b : List Visit) → Is a → Then b → Both (a ++ b)) → Added Good Is from mid between
    → Added Good Then mid to after → Added Good Both from to after
added_twice Good Is Then Both from mid to between after both a b = record {
  new = a.new ++ b.new;
  is = b.is ∙ ap (λ (x : List Visit). x ++ b.new) a.is ∙ append_assoc from.1 a.new b.new;
  good = b.good;
  so = both a.new b.new a.so b.so;
}

append_nothing : (visits : List Visit) → visits ++ [] ≡ visits
append_nothing [] = refl
append_nothing (v ∷ visits) = ap (λ (x : List Visit). v ∷ x) (append_nothing visits)

-- ---- a file, by the folders on its way

-- a regular file of this mode is below a folder by this name, no more than so many folders deep, and can be looked at
pub record Reaches {I O : Type 0} (h : Host I O) (start : Tree) (w : Walk) (levels : ℕ) (folder relative : List ℕ) (mode : ℕ) : Type 0 where
  pub file : FileAt h Kept start (below folder relative)
  pub mode_is : file.file.mode ≡ mode
  pub fit : IsFit (named_at w.base (below folder relative))
  pub way : (front behind : List ℕ) → relative ≡ below front behind → IsOtherFolder h w.output start (below folder front)
  pub way_fit : (front behind : List ℕ) → relative ≡ below front behind → IsFit (named_at w.base (below folder front))
  pub deep : depth relative ≤ levels
  pub leads : leads_below relative ≡ true

pub inner_way : (first rest front behind : List ℕ) → rest ≡ below front behind → below first rest ≡ below (below first front) behind
inner_way first rest front behind is = ap (below first) is ∙ sym (below_twice first front behind)

abbrev as_file : {I O : Type 0} (h : Host I O) (start : Tree) (path other : List ℕ) → path ≡ other → FileAt h Kept start path → FileAt h Kept start other
as_file h start path other e file = record { file = file.file; is = ap (λ (p : List ℕ). start.at (h.leads Kept p)) (sym e) ∙ file.is; kind = file.kind }

-- it is so of the rest of its name in the first of these folders
reaches_rest : {I O : Type 0} (h : Host I O) (start : Tree) (w : Walk) (levels : ℕ) (folder first rest : List ℕ) (mode : ℕ) → depth (below first rest) ≡ suc (depth rest) → Reaches h start w (suc levels) folder (below first rest) mode
    → Reaches h start w levels (below folder first) rest mode
reaches_rest h start w levels folder first rest mode deeper r = record {
  file = as_file h start (below folder (below first rest)) (below (below folder first) rest) (sym (below_twice folder first rest)) r.file;
  mode_is = r.mode_is;
  fit = subst (λ (p : List ℕ). IsFit (named_at w.base p)) (sym (below_twice folder first rest)) r.fit;
  way = λ front behind is. subst (IsOtherFolder h w.output start) (sym (below_twice folder first front)) (r.way (below first front) behind (inner_way first rest front behind is));
  way_fit = λ front behind is. subst (λ (p : List ℕ). IsFit (named_at w.base p)) (sym (below_twice folder first front)) (r.way_fit (below first front) behind (inner_way first rest front behind is));
  deep = omega (arith, r.deep, deeper);
  leads = leads_rest first rest r.leads;
}

-- ---- facts

not_none : {A : Type 0} (o : Option A) (a : A) → o ≡ Some a → o ≢ None
not_none o a e f = absurd (cc)

later_not : {A : Type 0} (o other : Option A) → ((a : A) → o ≡ Some a → other ≡ Some a) → o ≢ None → other ≢ None
later_not None other so some = absurd (some refl)
later_not (Some a) other so some = not_none other a (so a refl)

judged_fit : (n : Named) (what : What) → IsFit n → IsJudged n what → ⊥
judged_fit n what fit (walk.unfit u is) = true_false (is_unfit n) u fit.fits
judged_fit n what fit (walk.no_text u t is) = t fit.text
judged_fit n what fit (walk.of_run u t p is) = true_false (is_part_file n.relative) p fit.of_no_run

file_folder : (k : FoundKind) → k ≡ kinds.File → k ≡ kinds.Folder → ⊥
file_folder k e f = absurd (cc)

file_other : (k : FoundKind) → k ≡ kinds.File → k ≡ kinds.Other → ⊥
file_other k e f = absurd (cc)

folder_other : (k : FoundKind) → k ≡ kinds.Folder → k ≡ kinds.Other → ⊥
folder_other k e f = absurd (cc)

-- a path is not that of a folder that it leads through
not_on : (way path : List ℕ) → LeadsOn way path → way ≢ path
not_on way path (behind, is) e =
    let longer : length path ≡ length (below way behind) = ap length is in
    let same : length way ≡ length path = ap length e in
    omega (arith, longer, same, length-append (way ++ codes "/") behind, length-append way (codes "/"))

-- more names than there are
too_many_given : (limit left all : ℕ) → limit + left ≡ all → all < limit → ⊥
too_many_given limit left all is few = omega (arith, is, few)

-- a name is that of its path, or that of the folder that is walked
abbrev pub IsNamed : (base : ℕ) → Named → Type 0
IsNamed base n = (n ≡ named_at base n.path) ⊎ (n.relative ≡ codes ".")

-- a visit is of a folder, or in it, and not of this path
abbrev pub IsAside : (base : ℕ) (folder path : List ℕ) → Visit → Type 0
IsAside base folder path v = IsNamed base v.named × (AtOrBelow folder v.named.path × (v.named.path ≢ path))

-- ---- a system in which listing tells what is there

-- what its calls say, and that one failed that need not
pub record Tells {I O F : Type 0} (h : Host I O) (gives : F → List (List ℕ)) (Failed : Type 0) (d : FoldersDo FileSystem O F) : Type 0 where
  pub quiet : Quiet d
  pub finds : (before : FileSystem) (path : List ℕ) (found : Option Found) (after : FileSystem) → d.finds before path Kept (Ok found) after → found ≡ at_path h before.now path
  pub not_found : (before : FileSystem) (path : List ℕ) (e : Error) (after : FileSystem) → d.finds before path Kept (Err e) after → Failed
  pub opens : (before : FileSystem) (path : List ℕ) (folder : F) (after : FileSystem) → d.opens_folder before path (Ok folder) after → GivesAll h gives before.now path folder
  pub not_opened : (before : FileSystem) (path : List ℕ) (e : Error) (after : FileSystem) → d.opens_folder before path (Err e) after → (f : Found) → at_path h before.now path ≡ Some f → f.kind ≡ kinds.Folder → Failed
  pub names : (before : FileSystem) (folder : F) (name : Option (List ℕ)) (left : F) (after : FileSystem) → d.names before folder (Ok name) left after → GivesName gives folder name left
  pub not_named : (before : FileSystem) (folder : F) (e : Error) (left : F) (after : FileSystem) → d.names before folder (Err e) left after → Failed

-- ---- the walk

module _ {I O F V : Type 0} (h : Host I O) (gives : F → List (List ℕ)) (Failed : Type 0) (d : FoldersDo FileSystem O F) (tells : Tells h gives Failed d) (visits : Visits V FileSystem) (start : Tree) (w : Walk) (Good : V → FileSystem → Type 0)
    (goes : (from : V) (before : FileSystem) (n : Named) (what : What) (r : Result (Unit {0}) Stopped) (to : V) (after : FileSystem) → Good from before → visits from before n what r to after → Good to after)
    (holds : (v : V) (s : FileSystem) → Good v s → (place : List ℕ) (f : Found) → start.at place ≡ Some f → s.now.at place ≡ Some f) where
  same_good : (v : V) (s t : FileSystem) → t ≡ s → Good v s → Good v t
  same_good v s t e good = subst (Good v) (sym e) good

  visited : (n : Named) (what : What) (from : V × List Visit) (before : FileSystem) (r : Result (Unit {0}) Stopped) (to : V × List Visit) (after : FileSystem) → Good from.0 before → noted visits from before n what r to after
      → Added Good (λ new. new ≡ visit_of n what ∷ []) from to after
  visited n what from before r to after good v = record { new = visit_of n what ∷ []; is = v.1; good = goes from.0 before n what r to.0 after good v.0; so = refl }

  -- ---- what is below a path

  -- its path is this one, or below it, and its name is of that
  abbrev IsOf : (path : List ℕ) → Visit → Type 0
  IsOf path v = (v.named ≡ named_at w.base v.named.path) × AtOrBelow path v.named.path

  abbrev AddsOf : (path : List ℕ) → (from : V × List Visit) (to : V × List Visit) (after : FileSystem) → Type 0
  AddsOf path from to after = Added Good (OfAll (IsOf path)) from to after

  in_path : (folder name : List ℕ) (v : Visit) → IsOf (below folder name) v → IsOf folder v
  in_path folder name v of = (of.0, inr (below_folder folder name v.named.path of.1))

  all_of_one : (path : List ℕ) (what : What) (new : List Visit) → new ≡ visit_of (named_at w.base path) what ∷ [] → OfAll (IsOf path) new
  all_of_one path what new e = subst (OfAll (IsOf path)) (sym e) ((refl, inl refl), tt)

  visited_of : (path : List ℕ) (what : What) (from : V × List Visit) (before : FileSystem) (r : Result (Unit {0}) Stopped) (to : V × List Visit) (after : FileSystem) → Good from.0 before
      → noted visits from before (named_at w.base path) what r to after → AddsOf path from to after
  visited_of path what from before r to after good v =
      added_so Good (λ new. new ≡ visit_of (named_at w.base path) what ∷ []) (OfAll (IsOf path)) from to after (all_of_one path what) (visited (named_at w.base path) what from before r to after good v)

  -- a step of a path adds visits of it
  abbrev StepsOf : (path : List ℕ) → Step (V × List Visit) FileSystem → Type 0
  StepsOf path step = (from : V × List Visit) (before : FileSystem) (r : Result (Unit {0}) Stopped) (to : V × List Visit) (after : FileSystem) → Good from.0 before → step from before r to after → AddsOf path from to after

  seen_none : (path : List ℕ) (before after : FileSystem) → Sees d path before None after → after ≡ before
  seen_none path before after (walk.nothing call) = tells.quiet.finds before path Kept (Ok None) after call
  seen_none path before after (walk.not_looked e call) = tells.quiet.finds before path Kept (Err e) after call

  seen_some : (path : List ℕ) (before : FileSystem) (found : Found) (after : FileSystem) → Sees d path before (Some found) after → after ≡ before
  seen_some path before found after call = tells.quiet.finds before path Kept (Ok (Some found)) after call

  named_of : (path : List ℕ) (Enter : Found → Named → Step (V × List Visit) FileSystem) → ((found : Found) → StepsOf path (Enter found (named_at w.base path))) → StepsOf path (DoesNamed d (noted visits) Enter (named_at w.base path))
  named_of path Enter enters from before r to after good (walk.not_fit what judged v) = visited_of path what from before r to after good v
  named_of path Enter enters from before r to after good (walk.not_seen looked fit s v) = visited_of path _ from looked r to after (same_good from.0 before looked (seen_none path before looked s) good) v
  named_of path Enter enters from before r to after good (walk.a_file found looked fit s is v) = visited_of path _ from looked r to after (same_good from.0 before looked (seen_some path before found looked s) good) v
  named_of path Enter enters from before r to after good (walk.no_file found looked fit s is v) = visited_of path _ from looked r to after (same_good from.0 before looked (seen_some path before found looked s) good) v
  named_of path Enter enters from before r to after good (walk.a_folder found looked fit s is e) = enters found from looked r to after (same_good from.0 before looked (seen_some path before found looked s) good) e

  nothing_of : (path : List ℕ) (from to : V × List Visit) (before after : FileSystem) → to ≡ from → after ≡ before → Good from.0 before → AddsOf path from to after
  nothing_of path from to before after v s good = record { new = []; is = ap (λ (x : V × List Visit). x.1) v ∙ sym (append_nothing from.1); good = same_good to.0 before after s (subst (λ (x : V × List Visit). Good x.0 before) (sym v) good); so = tt }

  then_of : (path : List ℕ) (from mid to : V × List Visit) (between after : FileSystem) → AddsOf path from mid between → AddsOf path mid to after → AddsOf path from to after
  then_of path from mid to between after a b = added_twice Good (OfAll (IsOf path)) (OfAll (IsOf path)) (OfAll (IsOf path)) from mid to between after (all_of (IsOf path)) a b

  listed_of : (folder : List ℕ) (Entry : List ℕ → Step (V × List Visit) FileSystem) → ((name : List ℕ) → StepsOf (below folder name) (Entry name)) → (from : V × List Visit) (before : FileSystem) (opened : F) (count : ℕ) (to : V × List Visit) (after : FileSystem)
      (left : F) → Good from.0 before → Listed d Entry from before opened count to after left → AddsOf folder from to after
  listed_of folder Entry entries from before opened count to after left good (walk.none_listed c v s f) = nothing_of folder from to before after v s good
  listed_of folder Entry entries from before opened count to after left good (walk.and_entry others name mid between given at listed call entry c) =
      let a : AddsOf folder from mid between = listed_of folder Entry entries from before opened others mid between at good listed in
      then_of folder from mid to between after a (added_so Good (OfAll (IsOf (below folder name))) (OfAll (IsOf folder)) mid to after (all_so (IsOf (below folder name)) (IsOf folder) (in_path folder name))
      (entries name mid given (Ok _) to after (same_good mid.0 between given (tells.quiet.names between at (Ok (Some name)) left given call) a.good) entry))

  one_more_of : (folder name : List ℕ) (Entry : List ℕ → Step (V × List Visit) FileSystem) → ((name : List ℕ) → StepsOf (below folder name) (Entry name)) → (mid : V × List Visit) (given : FileSystem) (r : Result (Unit {0}) Stopped) (to : V × List Visit)
      (after : FileSystem) → Good mid.0 given → Entry name mid given r to after → AddsOf folder mid to after
  one_more_of folder name Entry entries mid given r to after good entry =
      added_so Good (OfAll (IsOf (below folder name))) (OfAll (IsOf folder)) mid to after (all_so (IsOf (below folder name)) (IsOf folder) (in_path folder name)) (entries name mid given r to after good entry)

  at_state : (path : List ℕ) (from to : V × List Visit) (s t : FileSystem) → t ≡ s → AddsOf path from to s → AddsOf path from to t
  at_state path from to s t e a = record { new = a.new; is = a.is; good = same_good to.0 s t e a.good; so = a.so }

  names_of : (folder : List ℕ) (Entry : List ℕ → Step (V × List Visit) FileSystem) → ((name : List ℕ) → StepsOf (below folder name) (Entry name)) → (opened left : F) (from : V × List Visit) (before : FileSystem) (r : Result Bool Stopped) (to : V × List Visit)
      (after : FileSystem) → Good from.0 before → DoesNames d Entry opened left from before r to after → AddsOf folder from to after
  names_of folder Entry entries opened left from before r to after good (walk.all_listed count at listed l call is) =
      at_state folder from to listed after (tells.quiet.names listed at (Ok None) left after call) (listed_of folder Entry entries from before opened count to listed at good l)
  names_of folder Entry entries opened left from before r to after good (walk.not_listed count e at listed l call is) =
      at_state folder from to listed after (tells.quiet.names listed at (Err e) left after call) (listed_of folder Entry entries from before opened count to listed at good l)
  names_of folder Entry entries opened left from before r to after good (walk.too_many l is) = listed_of folder Entry entries from before opened _ to after left good l
  names_of folder Entry entries opened left from before r to after good (walk.was_stopped count name e at mid listed given l call entry is) =
      let a : AddsOf folder from mid listed = listed_of folder Entry entries from before opened count mid listed at good l in
      then_of folder from mid to listed after a (one_more_of folder name Entry entries mid given (Err e) to after (same_good mid.0 listed given (tells.quiet.names listed at (Ok (Some name)) left given call) a.good) entry)

  folder_of : (folder : List ℕ) (Entry : List ℕ → Step (V × List Visit) FileSystem) → ((name : List ℕ) → StepsOf (below folder name) (Entry name)) → (opened : F) → StepsOf folder (DoesFolder d (noted visits) Entry (named_at w.base folder) opened)
  folder_of folder Entry entries opened from before r to after good (walk.whole left listed names close is) =
      at_state folder from to listed after (tells.quiet.closes listed left after close) (names_of folder Entry entries opened left from before (Ok true) to listed good names)
  folder_of folder Entry entries opened from before r to after good (walk.not_whole left mid listed was_closed names close v) =
      let a : AddsOf folder from mid listed = names_of folder Entry entries opened left from before (Ok false) mid listed good names in
      then_of folder from mid to listed after a (visited_of folder _ mid was_closed r to after (same_good mid.0 listed was_closed (tells.quiet.closes listed left was_closed close) a.good) v)
  folder_of folder Entry entries opened from before r to after good (walk.stopped e left listed names close is) =
      at_state folder from to listed after (tells.quiet.closes listed left after close) (names_of folder Entry entries opened left from before (Err e) to listed good names)

  opened_none : (path : List ℕ) (before after : FileSystem) → Opens d path before None after → after ≡ before
  opened_none path before after (walk.not_there e call) = tells.quiet.opens before path (Err e) after call

  enters_of : (folder : List ℕ) (Entry : (folder entry : List ℕ) → Step (V × List Visit) FileSystem) → ((name : List ℕ) → StepsOf (below folder name) (Entry folder name)) → (found : Found)
      → StepsOf folder (Enters d (noted visits) w Entry found (named_at w.base folder))
  enters_of folder Entry entries found from before r to after good (walk.of_output is v) = visited_of folder _ from before r to after good v
  enters_of folder Entry entries found from before r to after good (walk.not_opened tried is o v) = visited_of folder _ from tried r to after (same_good from.0 before tried (opened_none folder before tried o) good) v
  enters_of folder Entry entries found from before r to after good (walk.entered opened at is o does) = folder_of folder (Entry folder) entries opened from at r to after (same_good from.0 before at (tells.quiet.opens before folder (Ok opened) at o) good) does

  enters_at_of : (levels : ℕ) (path : List ℕ) (found : Found) → StepsOf path (EntersAt d (noted visits) w levels found (named_at w.base path))
  unfolding EntersAt
  enters_at_of zero path found from before r to after good v = visited_of path _ from before r to after good v
  enters_at_of (suc levels) path found from before r to after good enters =
      enters_of path (λ folder entry. DoesNamed d (noted visits) (EntersAt d (noted visits) w levels) (named_at w.base (below folder entry)))
      (λ name. named_of (below path name) (EntersAt d (noted visits) w levels) (enters_at_of levels (below path name))) found from before r to after good enters

  entry_of : (levels : ℕ) (folder name : List ℕ) → StepsOf (below folder name) (EntryAt d (noted visits) w levels folder name)
  entry_of levels folder name = named_of (below folder name) (EntersAt d (noted visits) w levels) (enters_at_of levels (below folder name))

  -- ---- a file is met

  abbrev AddsMet : (folder path : List ℕ) (mode : ℕ) → (from to : V × List Visit) (after : FileSystem) → Type 0
  AddsMet folder path mode from to after = Added Good (Met Failed w.base path mode (IsAside w.base folder path)) from to after

  -- where it is not stopped
  abbrev StepsMet : (folder path : List ℕ) (mode : ℕ) → Step (V × List Visit) FileSystem → Type 0
  StepsMet folder path mode step = (from : V × List Visit) (before : FileSystem) (to : V × List Visit) (after : FileSystem) → Good from.0 before → step from before (Ok _) to after → AddsMet folder path mode from to after

  -- the visits of another name are aside
  other_aside : (folder name first path : List ℕ) → IsOnePart name → IsOnePart first → AtOrBelow (below folder first) path → name ≢ first → (v : Visit) → IsOf (below folder name) v → IsAside w.base folder path v
  other_aside folder name first path part of_first at other v of =
      (inl of.0, (inr (below_folder folder name v.named.path of.1), λ e. other (same_name folder name first path part of_first (subst (AtOrBelow (below folder name)) e of.1) at)))

  inner_aside : (folder name path : List ℕ) (v : Visit) → IsAside w.base (below folder name) path v → IsAside w.base folder path v
  inner_aside folder name path v aside = (aside.0, (inr (below_folder folder name v.named.path aside.1.0), aside.1.1))

  -- ---- what is found

  found_is : (path : List ℕ) (v : V) (before looked : FileSystem) (f found : Found) → Good v before → at_path h start path ≡ Some f → Sees d path before (Some found) looked → found ≡ f
  found_is path v before looked f found good is s = some_same found f (tells.finds before path (Some found) looked s ∙ holds v before good (h.leads Kept path) f is)

  seen_there : (path : List ℕ) (v : V) (before looked : FileSystem) (f : Found) → Good v before → at_path h start path ≡ Some f → Sees d path before None looked → Failed
  seen_there path v before looked f good is (walk.nothing call) = absurd (let no : None ≡ Some f = tells.finds before path None looked call ∙ holds v before good (h.leads Kept path) f is in cc)
  seen_there path v before looked f good is (walk.not_looked e call) = tells.not_found before path e looked call

  -- ---- its name in a folder

  only_one : (folder path : List ℕ) (what : What) (new : List Visit) → new ≡ visit_of (named_at w.base path) what ∷ [] → Among (visit_of (named_at w.base path) what) (IsAside w.base folder path) new
  only_one folder path what new e = record { earlier = []; later = []; is = e; before = tt; behind = tt }

  adds_one : (folder path : List ℕ) (what : What) (from : V × List Visit) (before : FileSystem) (to : V × List Visit) (after : FileSystem) → Good from.0 before → noted visits from before (named_at w.base path) what (Ok _) to after
      → Added Good (Among (visit_of (named_at w.base path) what) (IsAside w.base folder path)) from to after
  adds_one folder path what from before to after good v =
      added_so Good (λ new. new ≡ visit_of (named_at w.base path) what ∷ []) (Among (visit_of (named_at w.base path) what) (IsAside w.base folder path)) from to after (only_one folder path what)
      (visited (named_at w.base path) what from before (Ok _) to after good v)

  file_met : (folder path : List ℕ) (mode : ℕ) (Enter : Found → Named → Step (V × List Visit) FileSystem) (file : FileAt h Kept start path) → file.file.mode ≡ mode → IsFit (named_at w.base path)
      → StepsMet folder path mode (DoesNamed d (noted visits) Enter (named_at w.base path))
  file_met folder path mode Enter file of_mode fit from before to after good (walk.not_fit what judged v) = absurd (judged_fit (named_at w.base path) what fit judged)
  file_met folder path mode Enter file of_mode fit from before to after good (walk.not_seen looked f s v) =
      added_so Good (Among (visit_of (named_at w.base path) whats.Unseen) (IsAside w.base folder path)) (Met Failed w.base path mode (IsAside w.base folder path)) from to after
      (λ new m. was_unseen (seen_there path from.0 before looked file.file good file.is s) m)
      (adds_one folder path whats.Unseen from looked to after (same_good from.0 before looked (seen_none path before looked s) good) v)
  file_met folder path mode Enter file of_mode fit from before to after good (walk.a_file found looked f s is v) =
      let its : found.mode ≡ mode = ap (λ (x : Found). x.mode) (found_is path from.0 before looked file.file found good file.is s) ∙ of_mode in
      added_so Good (Among (visit_of (named_at w.base path) (whats.File mode)) (IsAside w.base folder path)) (Met Failed w.base path mode (IsAside w.base folder path)) from to after (λ new m. was_visited m)
      (adds_one folder path (whats.File mode) from looked to after (same_good from.0 before looked (seen_some path before found looked s) good)
      (subst (λ (m : ℕ). noted visits from looked (named_at w.base path) (whats.File m) (Ok _) to after) its v))
  file_met folder path mode Enter file of_mode fit from before to after good (walk.no_file found looked f s is v) =
      absurd (file_other found.kind (ap (λ (x : Found). x.kind) (found_is path from.0 before looked file.file found good file.is s) ∙ file.kind) is)
  file_met folder path mode Enter file of_mode fit from before to after good (walk.a_folder found looked f s is e) =
      absurd (file_folder found.kind (ap (λ (x : Found). x.kind) (found_is path from.0 before looked file.file found good file.is s) ∙ file.kind) is)

  -- ---- a folder on its way

  -- its visit says that it was not listed
  way_aside : (folder first path : List ℕ) (what : What) → LeadsOn (below folder first) path → IsAside w.base folder path (visit_of (named_at w.base (below folder first)) what)
  way_aside folder first path what on = (inl refl, (inr (first, refl), not_on (below folder first) path on))

  says_so : (folder first path : List ℕ) (mode : ℕ) (what : What) (new : List Visit) → Failed → LeadsOn (below folder first) path → SaysUnread (visit_of (named_at w.base (below folder first)) what)
      → new ≡ visit_of (named_at w.base (below folder first)) what ∷ [] → Met Failed w.base path mode (IsAside w.base folder path) new
  says_so folder first path mode what new failed on says e =
      subst (Met Failed w.base path mode (IsAside w.base folder path)) (sym e) (was_behind failed (visit_of (named_at w.base (below folder first)) what) (inl refl) on says (way_aside folder first path what on, tt))

  says : (folder first path : List ℕ) (mode : ℕ) (what : What) (from : V × List Visit) (before : FileSystem) (to : V × List Visit) (after : FileSystem) → Failed → LeadsOn (below folder first) path
      → SaysUnread (visit_of (named_at w.base (below folder first)) what) → Good from.0 before → noted visits from before (named_at w.base (below folder first)) what (Ok _) to after → AddsMet folder path mode from to after
  says folder first path mode what from before to after failed on unread good v =
      added_so Good (λ new. new ≡ visit_of (named_at w.base (below folder first)) what ∷ []) (Met Failed w.base path mode (IsAside w.base folder path)) from to after (λ new e. says_so folder first path mode what new failed on unread e)
      (visited (named_at w.base (below folder first)) what from before (Ok _) to after good v)

  way_met : (folder first path : List ℕ) (mode : ℕ) (Enter : Found → Named → Step (V × List Visit) FileSystem) (at : IsOtherFolder h w.output start (below folder first)) → LeadsOn (below folder first) path → IsFit (named_at w.base (below folder first))
      → StepsMet folder path mode (Enter at.found (named_at w.base (below folder first))) → StepsMet folder path mode (DoesNamed d (noted visits) Enter (named_at w.base (below folder first)))
  way_met folder first path mode Enter at on fit enters from before to after good (walk.not_fit what judged v) = absurd (judged_fit (named_at w.base (below folder first)) what fit judged)
  way_met folder first path mode Enter at on fit enters from before to after good (walk.not_seen looked f s v) =
      says folder first path mode whats.Unseen from looked to after (seen_there (below folder first) from.0 before looked at.found good at.is s) on (inr refl)
      (same_good from.0 before looked (seen_none (below folder first) before looked s) good) v
  way_met folder first path mode Enter at on fit enters from before to after good (walk.a_file found looked f s is v) =
      absurd (file_folder found.kind is (ap (λ (x : Found). x.kind) (found_is (below folder first) from.0 before looked at.found found good at.is s) ∙ at.kind))
  way_met folder first path mode Enter at on fit enters from before to after good (walk.no_file found looked f s is v) =
      absurd (folder_other found.kind (ap (λ (x : Found). x.kind) (found_is (below folder first) from.0 before looked at.found found good at.is s) ∙ at.kind) is)
  way_met folder first path mode Enter at on fit enters from before to after good (walk.a_folder found looked f s is e) =
      enters from looked to after (same_good from.0 before looked (seen_some (below folder first) before found looked s) good)
      (subst (λ (x : Found). Enter x (named_at w.base (below folder first)) from looked (Ok _) to after) (found_is (below folder first) from.0 before looked at.found found good at.is s) e)

  enters_met : (folder first path : List ℕ) (mode : ℕ) (Entry : (folder entry : List ℕ) → Step (V × List Visit) FileSystem) (at : IsOtherFolder h w.output start (below folder first)) → LeadsOn (below folder first) path
      → ((opened : F) (t : Tree) → ((place : List ℕ) (f : Found) → start.at place ≡ Some f → t.at place ≡ Some f) → GivesAll h gives t (below folder first) opened
      → StepsMet folder path mode (DoesFolder d (noted visits) (Entry (below folder first)) (named_at w.base (below folder first)) opened))
      → StepsMet folder path mode (Enters d (noted visits) w Entry at.found (named_at w.base (below folder first)))
  enters_met folder first path mode Entry at on does from before to after good (walk.of_output is v) = absurd (true_false (is_output w.output at.found) is at.other)
  enters_met folder first path mode Entry at on does from before to after good (walk.not_opened tried is (walk.not_there e call) v) =
      says folder first path mode whats.Unlisted from tried to after (tells.not_opened before (below folder first) e tried call at.found (holds from.0 before good (h.leads Kept (below folder first)) at.found at.is) at.kind) on (inl refl)
      (same_good from.0 before tried (tells.quiet.opens before (below folder first) (Err e) tried call) good) v
  enters_met folder first path mode Entry at on does from before to after good (walk.entered opened was is o does_it) =
      does opened before.now (holds from.0 before good) (tells.opens before (below folder first) opened was o) from was to after (same_good from.0 before was (tells.quiet.opens before (below folder first) (Ok opened) was o) good) does_it

  -- ---- the names of a folder

  -- its name is still to come, or is done
  abbrev IsHalf : (folder first path : List ℕ) (mode : ℕ) → (names : List (List ℕ)) → List Visit → Type 0
  IsHalf folder first path mode names new = (HasOnce first names × OfAll (IsAside w.base folder path) new) ⊎ ((¬ (Has first names)) × Met Failed w.base path mode (IsAside w.base folder path) new)

  abbrev AddsHalf : (folder first path : List ℕ) (mode : ℕ) → (names : List (List ℕ)) → (from to : V × List Visit) (after : FileSystem) → Type 0
  AddsHalf folder first path mode names from to after = Added Good (IsHalf folder first path mode names) from to after

  -- what is known of the first part of its name, and of what is done with the names in a folder
  abbrev StepsIn : (folder first path : List ℕ) (mode : ℕ) → (Entry : List ℕ → Step (V × List Visit) FileSystem) → Type 0
  StepsIn folder first path mode Entry = ((name : List ℕ) → StepsOf (below folder name) (Entry name)) × (StepsMet folder path mode (Entry first) × (IsOnePart first × AtOrBelow (below folder first) path))

  then_other : (folder first path name : List ℕ) (mode : ℕ) (Entry : List ℕ → Step (V × List Visit) FileSystem) → StepsIn folder first path mode Entry → IsOnePart name → name ≢ first → (mid to : V × List Visit) (given after : FileSystem) → Good mid.0 given
      → Entry name mid given (Ok _) to after → Added Good (OfAll (IsAside w.base folder path)) mid to after
  then_other folder first path name mode Entry (of_name, (once, (of_first, at))) part other mid to given after good entry =
      added_so Good (OfAll (IsOf (below folder name))) (OfAll (IsAside w.base folder path)) mid to after (all_so (IsOf (below folder name)) (IsAside w.base folder path) (other_aside folder name first path part of_first at other))
      (of_name name mid given (Ok _) to after good entry)

  half_by : (folder first path name : List ℕ) (mode : ℕ) (names : List (List ℕ)) (Entry : List ℕ → Step (V × List Visit) FileSystem) → StepsIn folder first path mode Entry → IsOnePart name → (from mid to : V × List Visit) (given after : FileSystem) → Good mid.0 given
      → Entry name mid given (Ok _) to after → (new : List Visit) → mid.1 ≡ from.1 ++ new → IsHalf folder first path mode (name ∷ names) new → AddsHalf folder first path mode names from to after
  half_by folder first path name mode names Entry (of_name, (once, (of_first, at))) part from mid to given after good entry new is (inl (inl (e, none), aside)) =
      let b : AddsMet folder path mode mid to after = once mid given to after good (subst (λ (x : List ℕ). Entry x mid given (Ok _) to after) e entry) in
      record {
        new = new ++ b.new;
        is = b.is ∙ ap (λ (x : List Visit). x ++ b.new) is ∙ append_assoc from.1 new b.new;
        good = b.good;
        so = inr (none, met_more Failed w.base path mode (IsAside w.base folder path) new b.new aside b.so);
      }
  half_by folder first path name mode names Entry steps part from mid to given after good entry new is (inl (inr (other, todo), aside)) =
      let b : Added Good (OfAll (IsAside w.base folder path)) mid to after = then_other folder first path name mode Entry steps part other mid to given after good entry in
      record {
        new = new ++ b.new;
        is = b.is ∙ ap (λ (x : List Visit). x ++ b.new) is ∙ append_assoc from.1 new b.new;
        good = b.good;
        so = inl (todo, all_of (IsAside w.base folder path) new b.new aside b.so);
      }
  half_by folder first path name mode names Entry steps part from mid to given after good entry new is (inr (none, met)) =
      let b : Added Good (OfAll (IsAside w.base folder path)) mid to after = then_other folder first path name mode Entry steps part (λ e. none (inl e)) mid to given after good entry in
      record {
        new = new ++ b.new;
        is = b.is ∙ ap (λ (x : List Visit). x ++ b.new) is ∙ append_assoc from.1 new b.new;
        good = b.good;
        so = inr (λ has. none (inr has), met_then Failed w.base path mode (IsAside w.base folder path) new b.new met b.so);
      }

  begin_half : (folder first path : List ℕ) (mode : ℕ) (opened left : F) (from to : V × List Visit) (before after : FileSystem) → HasOnce first (gives opened) → left ≡ opened → to ≡ from → after ≡ before → Good from.0 before
      → AddsHalf folder first path mode (gives left) from to after
  begin_half folder first path mode opened left from to before after todo f v s good = record {
    new = [];
    is = ap (λ (x : V × List Visit). x.1) v ∙ sym (append_nothing from.1);
    good = same_good to.0 before after s (subst (λ (x : V × List Visit). Good x.0 before) (sym v) good);
    so = inl (subst (λ (x : F). HasOnce first (gives x)) (sym f) todo, tt);
  }

  listed_half : (folder first path : List ℕ) (mode : ℕ) (Entry : List ℕ → Step (V × List Visit) FileSystem) → StepsIn folder first path mode Entry → (from : V × List Visit) (before : FileSystem) (opened : F) (count : ℕ) (to : V × List Visit) (after : FileSystem)
      (left : F) → HasOnce first (gives opened) → Good from.0 before → Listed d Entry from before opened count to after left → AddsHalf folder first path mode (gives left) from to after
  listed_half folder first path mode Entry steps from before opened count to after left todo good (walk.none_listed c v s f) = begin_half folder first path mode opened left from to before after todo f v s good
  listed_half folder first path mode Entry steps from before opened count to after left todo good (walk.and_entry others name mid between given at listed call entry c) =
      let a : AddsHalf folder first path mode (gives at) from mid between = listed_half folder first path mode Entry steps from before opened others mid between at todo good listed in
      let given_so : GivesName gives at (Some name) left = tells.names between at (Some name) left given call in
      half_by folder first path name mode (gives left) Entry steps given_so.0 from mid to given after (same_good mid.0 between given (tells.quiet.names between at (Ok (Some name)) left given call) a.good) entry a.new a.is
      (subst (λ (names : List (List ℕ)). IsHalf folder first path mode names a.new) given_so.1 a.so)

  -- each name that was given is one of those that were to come
  counted : (Entry : List ℕ → Step (V × List Visit) FileSystem) → (from : V × List Visit) (before : FileSystem) (opened : F) (count : ℕ) (to : V × List Visit) (after : FileSystem) (left : F) → Listed d Entry from before opened count to after left
      → count + length (gives left) ≡ length (gives opened)
  counted Entry from before opened count to after left (walk.none_listed c v s f) =
      let same : length (gives left) ≡ length (gives opened) = ap (λ (x : F). length (gives x)) f in
      omega (arith, c, same)
  counted Entry from before opened count to after left (walk.and_entry others name mid between given at listed call entry c) =
      let so : others + length (gives at) ≡ length (gives opened) = counted Entry from before opened others mid between at listed in
      let given_so : GivesName gives at (Some name) left = tells.names between at (Some name) left given call in
      let one_less : length (gives at) ≡ suc (length (gives left)) = ap length given_so.1 in
      omega (arith, c, so, one_less)

  done_half : (folder first path : List ℕ) (mode : ℕ) (names : List (List ℕ)) (new : List Visit) → names ≡ [] → IsHalf folder first path mode names new → Met Failed w.base path mode (IsAside w.base folder path) new
  done_half folder first path mode names new e (inl (todo, aside)) = absurd (subst (HasOnce first) e todo)
  done_half folder first path mode names new e (inr (none, met)) = met

  names_done : (folder first path : List ℕ) (mode : ℕ) (Entry : List ℕ → Step (V × List Visit) FileSystem) → StepsIn folder first path mode Entry → (opened left : F) (from : V × List Visit) (before : FileSystem) (r : Result Bool Stopped) (to : V × List Visit)
      (after : FileSystem) → HasOnce first (gives opened) → Good from.0 before → r ≡ Ok true → DoesNames d Entry opened left from before r to after → AddsMet folder path mode from to after
  names_done folder first path mode Entry steps opened left from before r to after todo good e (walk.all_listed count at listed l call is) =
      let a : AddsHalf folder first path mode (gives at) from to listed = listed_half folder first path mode Entry steps from before opened count to listed at todo good l in
      record { new = a.new; is = a.is; good = same_good to.0 listed after (tells.quiet.names listed at (Ok None) left after call) a.good; so = done_half folder first path mode (gives at) a.new (tells.names listed at None left after call) a.so }
  names_done folder first path mode Entry steps opened left from before r to after todo good e (walk.not_listed count x at listed l call is) = absurd (cc)
  names_done folder first path mode Entry steps opened left from before r to after todo good e (walk.too_many l is) = absurd (cc)
  names_done folder first path mode Entry steps opened left from before r to after todo good e (walk.was_stopped count name x at mid listed given l call entry is) = absurd (cc)

  -- it was not listed to its end: its name may be still to come
  abbrev IsPart : (folder path : List ℕ) (mode : ℕ) → List Visit → Type 0
  IsPart folder path mode new = Failed × (OfAll (IsAside w.base folder path) new ⊎ Met Failed w.base path mode (IsAside w.base folder path) new)

  half_part : (folder first path : List ℕ) (mode : ℕ) (names : List (List ℕ)) (new : List Visit) → Failed → IsHalf folder first path mode names new → IsPart folder path mode new
  half_part folder first path mode names new failed (inl (todo, aside)) = (failed, inl aside)
  half_part folder first path mode names new failed (inr (none, met)) = (failed, inr met)

  names_part : (folder first path : List ℕ) (mode : ℕ) (Entry : List ℕ → Step (V × List Visit) FileSystem) → StepsIn folder first path mode Entry → (opened left : F) (from : V × List Visit) (before : FileSystem) (r : Result Bool Stopped) (to : V × List Visit)
      (after : FileSystem) → HasOnce first (gives opened) → length (gives opened) < NAMES_LIMIT → Good from.0 before → r ≡ Ok false → DoesNames d Entry opened left from before r to after → Added Good (IsPart folder path mode) from to after
  names_part folder first path mode Entry steps opened left from before r to after todo few good e (walk.all_listed count at listed l call is) = absurd (cc)
  names_part folder first path mode Entry steps opened left from before r to after todo few good e (walk.not_listed count x at listed l call is) =
      let a : AddsHalf folder first path mode (gives at) from to listed = listed_half folder first path mode Entry steps from before opened count to listed at todo good l in
      record {
        new = a.new;
        is = a.is;
        good = same_good to.0 listed after (tells.quiet.names listed at (Err x) left after call) a.good;
        so = half_part folder first path mode (gives at) a.new (tells.not_named listed at x left after call) a.so;
      }
  names_part folder first path mode Entry steps opened left from before r to after todo few good e (walk.too_many l is) =
      absurd (too_many_given NAMES_LIMIT (length (gives left)) (length (gives opened)) (counted Entry from before opened NAMES_LIMIT to after left l) few)
  names_part folder first path mode Entry steps opened left from before r to after todo few good e (walk.was_stopped count name x at mid listed given l call entry is) = absurd (cc)

  -- and then its visit says so
  part_met : (folder path : List ℕ) (mode : ℕ) (y : Visit) (new : List Visit) → IsAside w.base folder path y → LeadsOn y.named.path path → SaysUnread y → IsPart folder path mode new → Met Failed w.base path mode (IsAside w.base folder path) (new ++ y ∷ [])
  part_met folder path mode y new aside on unread (failed, inl all) = was_behind failed y (has_behind y new (y ∷ []) (inl refl)) on unread (all_of (IsAside w.base folder path) new (y ∷ []) all (aside, tt))
  part_met folder path mode y new aside on unread (failed, inr met) = met_then Failed w.base path mode (IsAside w.base folder path) new (y ∷ []) met (aside, tt)

  folder_done : (folder first path : List ℕ) (mode : ℕ) (Entry : List ℕ → Step (V × List Visit) FileSystem) → StepsIn folder first path mode Entry → (n : Named) → IsNamed w.base n → n.path ≡ folder → LeadsOn folder path → (opened : F) → HasOnce first (gives opened)
      → length (gives opened) < NAMES_LIMIT → StepsMet folder path mode (DoesFolder d (noted visits) Entry n opened)
  folder_done folder first path mode Entry steps n named at_folder on opened todo few from before to after good (walk.whole left listed names close is) =
      let a : AddsMet folder path mode from to listed = names_done folder first path mode Entry steps opened left from before (Ok true) to listed todo good refl names in
      record { new = a.new; is = a.is; good = same_good to.0 listed after (tells.quiet.closes listed left after close) a.good; so = a.so }
  folder_done folder first path mode Entry steps n named at_folder on opened todo few from before to after good (walk.not_whole left mid listed was_closed names close v) =
      let a : Added Good (IsPart folder path mode) from mid listed = names_part folder first path mode Entry steps opened left from before (Ok false) mid listed todo few good refl names in
      let on_path : LeadsOn n.path path = subst (λ (x : List ℕ). LeadsOn x path) (sym at_folder) on in
      record {
        new = a.new ++ visit_of n whats.Unlisted ∷ [];
        is = v.1 ∙ ap (λ (x : List Visit). x ++ visit_of n whats.Unlisted ∷ []) a.is ∙ append_assoc from.1 a.new (visit_of n whats.Unlisted ∷ []);
        good = goes mid.0 was_closed n whats.Unlisted (Ok _) to.0 after (same_good mid.0 listed was_closed (tells.quiet.closes listed left was_closed close) a.good) v.0;
        so = part_met folder path mode (visit_of n whats.Unlisted) a.new (named, (inl at_folder, not_on n.path path on_path)) on_path (inl refl) a.so;
      }
  folder_done folder first path mode Entry steps n named at_folder on opened todo few from before to after good (walk.stopped e left listed names close is) = absurd (cc)

  -- ---- a folder and all below it

  is_in : (folder first : List ℕ) (f : Found) → IsOnePart first → leads_below first ≡ true → at_path h start (below folder first) ≡ Some f → IsIn h start folder first
  is_in folder first f part leads is = record { part = part; leads = leads; there = not_none (at_path h start (below folder first)) f is }

  -- what was there at the start is among the names of a folder that was opened since
  gives_first : (folder first : List ℕ) (opened : F) (t : Tree) → ((place : List ℕ) (f : Found) → start.at place ≡ Some f → t.at place ≡ Some f) → GivesAll h gives t folder opened → IsIn h start folder first → HasOnce first (gives opened)
  gives_first folder first opened t still all at =
      all.each first (record { part = at.part; leads = at.leads; there = later_not (at_path h start (below folder first)) (at_path h t (below folder first)) (still (h.leads Kept (below folder first))) at.there })

  here_met : (levels : ℕ) (folder relative : List ℕ) (mode : ℕ) → IsOnePart relative → Reaches h start w levels folder relative mode → (n : Named) → IsNamed w.base n → n.path ≡ folder → (opened : F) (t : Tree)
      → ((place : List ℕ) (f : Found) → start.at place ≡ Some f → t.at place ≡ Some f) → GivesAll h gives t folder opened → StepsMet folder (below folder relative) mode (DoesFolder d (noted visits) (EntryAt d (noted visits) w levels folder) n opened)
  here_met levels folder relative mode part r n named at_folder opened t still all =
      folder_done folder relative (below folder relative) mode (EntryAt d (noted visits) w levels folder)
      (entry_of levels folder, (file_met folder (below folder relative) mode (EntersAt d (noted visits) w levels) r.file r.mode_is r.fit, (part, inl refl))) n named at_folder (relative, refl) opened
      (gives_first folder relative opened t still all (is_in folder relative r.file.file part r.leads r.file.is)) all.few

  met_inner : (folder first path other : List ℕ) (mode : ℕ) (step : Step (V × List Visit) FileSystem) → path ≡ other → StepsMet (below folder first) path mode step → StepsMet folder other mode step
  met_inner folder first path other mode step e does = subst (λ (p : List ℕ). StepsMet folder p mode step) e (λ from before to after good done.
      added_so Good (Met Failed w.base path mode (IsAside w.base (below folder first) path)) (Met Failed w.base path mode (IsAside w.base folder path)) from to after
      (met_so Failed w.base path mode (IsAside w.base (below folder first) path) (IsAside w.base folder path) (inner_aside folder first path)) (does from before to after good done))

  pub folder_met : (levels : ℕ) (folder relative : List ℕ) (mode : ℕ) → Cut relative → Reaches h start w levels folder relative mode → (n : Named) → IsNamed w.base n → n.path ≡ folder → (opened : F) (t : Tree)
      → ((place : List ℕ) (f : Found) → start.at place ≡ Some f → t.at place ≡ Some f) → GivesAll h gives t folder opened → StepsMet folder (below folder relative) mode (DoesFolder d (noted visits) (EntryAt d (noted visits) w levels folder) n opened)
  unfolding EntersAt
  folder_met zero folder relative mode (is_one part) r n named at_folder opened t still all = here_met zero folder relative mode part r n named at_folder opened t still all
  folder_met zero folder relative mode (has_more first rest part is deeper) r n named at_folder opened t still all = absurd (omega (arith, r.deep, deeper))
  folder_met (suc levels) folder relative mode (is_one part) r n named at_folder opened t still all = here_met (suc levels) folder relative mode part r n named at_folder opened t still all
  folder_met (suc levels) folder relative mode (has_more first rest part is deeper) r n named at_folder opened t still all =
      let at : IsOtherFolder h w.output start (below folder first) = r.way first rest is in
      let inner : Reaches h start w levels (below folder first) rest mode =
      reaches_rest h start w levels folder first rest mode (ap depth (sym is) ∙ deeper) (subst (λ (x : List ℕ). Reaches h start w (suc levels) folder x mode) is r) in
      let path : below (below folder first) rest ≡ below folder relative = below_twice folder first rest ∙ ap (below folder) (sym is) in
      let on : LeadsOn (below folder first) (below folder relative) = (rest, sym path) in
      folder_done folder first (below folder relative) mode (EntryAt d (noted visits) w (suc levels) folder) (
        entry_of (suc levels) folder,
        (
          way_met folder first (below folder relative) mode (EntersAt d (noted visits) w (suc levels)) at on (r.way_fit first rest is)
              (enters_met folder first (below folder relative) mode (λ inside entry. DoesNamed d (noted visits) (EntersAt d (noted visits) w levels) (named_at w.base (below inside entry))) at on
              (λ its now kept gives_its. met_inner folder first (below (below folder first) rest) (below folder relative) mode
              (DoesFolder d (noted visits) (EntryAt d (noted visits) w levels (below folder first)) (named_at w.base (below folder first)) its) path
              (folder_met levels (below folder first) rest mode (cut rest) inner (named_at w.base (below folder first)) (inl refl) refl its now kept gives_its))),
          (part, inr (rest, sym path)),
        ),
      ) n named at_folder (relative, refl) opened (gives_first folder first opened t still all (is_in folder first at.found part (leads_folder relative first rest is r.leads) at.is)) all.few
