-- A walk that is not stopped leaves a visitor of which is so what was so before, where each visit keeps it.
use Rattle.std.proofs.Common.{◌≡◌, ◌∙◌, sym, ap, subst, ℕ, zero, suc, List, Bool, Option, None, Ok}
use Rattle.dcm_devices.specs.Writing.{Writer}
use Rattle.dcm_files.specs.Folders.{FoldersDo}
use Rattle.dcm_files.specs.declared.folders.Found.{Found}
use Rattle.dcm_walk.specs.Folder as walk
use Rattle.dcm_walk.specs.Folder.{DoesNamed, DoesNames, DoesFolder, Enters, EntersAt, EntryAt, WalksFolder, named_at, LEVELS}
use Rattle.dcm_walk.specs.List as lines
use Rattle.dcm_walk.specs.List.{DoesLine, DoesLines, WalksList, named_line}
use Rattle.dcm_walk.specs.Names.{below}
use Rattle.dcm_walk.specs.Visits.{Named, Step, Visits}
use Rattle.dcm_walk.specs.declared.folder.FolderNumber.{FolderNumber}
use Rattle.dcm_walk.specs.declared.folder.Walk.{Walk}
use Rattle.dcm_walk.specs.declared.list.ListEnd.{ListEnd}
use Rattle.dcm_walk.specs.declared.visitor.What.{What}
use Rattle.dcm_trees.specs.declared.progress.Shared.{Shared}
use Rattle.dcm_trees.specs.declared.progress.Work.{Work}
use Rattle.dcm_trees.specs.Work as work
use Rattle.dcm_trees.specs.Work.{Progress, VisitsName, visits_of}
use Rattle.dcm_trees.specs.World.{World}

-- a step that is not stopped keeps what is so of the visitor
abbrev pub Going : {V S : Type 0} → (Says : V → Type 0) → Step V S → Type 0
Going {V} {S} Says step = (from : V) (before : S) (x : Unit {0}) (to : V) (after : S) → Says from → step from before (Ok x) to after → Says to

module _ {V S O F : Type 0} (d : FoldersDo S O F) (visits : Visits V S) (Says : V → Type 0) (says : (n : Named) (what : What) (from : V) (before : S) (x : Unit {0}) (to : V) (after : S) → Says from → visits from before n what (Ok x) to after → Says to) where
  named_goes : (Enter : Found → Named → Step V S) → ((found : Found) (n : Named) → Going Says (Enter found n)) → (n : Named) → Going Says (DoesNamed d visits Enter n)
  named_goes Enter enters n from before x to after so (walk.not_fit what judged v) = says n what from before x to after so v
  named_goes Enter enters n from before x to after so (walk.not_seen looked fit s v) = says n _ from looked x to after so v
  named_goes Enter enters n from before x to after so (walk.a_file found looked fit s is v) = says n _ from looked x to after so v
  named_goes Enter enters n from before x to after so (walk.no_file found looked fit s is v) = says n _ from looked x to after so v
  named_goes Enter enters n from before x to after so (walk.a_folder found looked fit s is enter) = enters found n from looked x to after so enter

  listed_goes : (Entry : List ℕ → Step V S) → ((name : List ℕ) → Going Says (Entry name)) → (from : V) (before : S) (folder : F) (count : ℕ) (to : V) (after : S) (left : F) → Says from → walk.Listed d Entry from before folder count to after left → Says to
  listed_goes Entry entries from before folder count to after left so (walk.none_listed c v s f) = subst Says (sym v) so
  listed_goes Entry entries from before folder count to after left so (walk.and_entry others name mid between given at listed call entry c) =
      entries name mid given _ to after (listed_goes Entry entries from before folder others mid between at so listed) entry

  names_go : (Entry : List ℕ → Step V S) → ((name : List ℕ) → Going Says (Entry name)) → (folder left : F) (from : V) (before : S) (b : Bool) (to : V) (after : S) → Says from → DoesNames d Entry folder left from before (Ok b) to after → Says to
  names_go Entry entries folder left from before b to after so (walk.all_listed count at listed l call is) = listed_goes Entry entries from before folder count to listed at so l
  names_go Entry entries folder left from before b to after so (walk.not_listed count e at listed l call is) = listed_goes Entry entries from before folder count to listed at so l
  names_go Entry entries folder left from before b to after so (walk.too_many l is) = listed_goes Entry entries from before folder _ to after left so l
  names_go Entry entries folder left from before b to after so (walk.was_stopped count name e at mid listed given l call entry is) = absurd (cc)

  folder_goes : (Entry : List ℕ → Step V S) → ((name : List ℕ) → Going Says (Entry name)) → (n : Named) (folder : F) → Going Says (DoesFolder d visits Entry n folder)
  folder_goes Entry entries n folder from before x to after so (walk.whole left listed names close is) = names_go Entry entries folder left from before _ to listed so names
  folder_goes Entry entries n folder from before x to after so (walk.not_whole left mid listed was_closed names close v) =
      says n _ mid was_closed x to after (names_go Entry entries folder left from before _ mid listed so names) v
  folder_goes Entry entries n folder from before x to after so (walk.stopped e left listed names close is) = absurd (cc)

  enters_goes : (w : Walk) (Entry : (folder entry : List ℕ) → Step V S) → ((folder entry : List ℕ) → Going Says (Entry folder entry)) → (found : Found) (n : Named) → Going Says (Enters d visits w Entry found n)
  enters_goes w Entry entries found n from before x to after so (walk.of_output is v) = says n _ from before x to after so v
  enters_goes w Entry entries found n from before x to after so (walk.not_opened tried is o v) = says n _ from tried x to after so v
  enters_goes w Entry entries found n from before x to after so (walk.entered folder opened is o does) = folder_goes (Entry n.path) (entries n.path) n folder from opened x to after so does

  enters_at_goes : (w : Walk) (levels : ℕ) (found : Found) (n : Named) → Going Says (EntersAt d visits w levels found n)
  unfolding EntersAt
  enters_at_goes w zero found n from before x to after so v = says n _ from before x to after so v
  enters_at_goes w (suc levels) found n from before x to after so enters =
      enters_goes w (λ folder entry. DoesNamed d visits (EntersAt d visits w levels) (named_at w.base (below folder entry)))
      (λ folder entry. named_goes (EntersAt d visits w levels) (enters_at_goes w levels) (named_at w.base (below folder entry))) found n from before x to after so enters

  pub walk_goes : (path : List ℕ) (output : FolderNumber) (folder : F) → Going Says (WalksFolder d visits path output folder)
  walk_goes path output folder =
      folder_goes (EntryAt d visits _ LEVELS path) (λ entry. named_goes (EntersAt d visits _ LEVELS) (enters_at_goes _ LEVELS) (named_at _ (below path entry))) _ folder

  line_goes : (output : FolderNumber) (line : List ℕ) → Going Says (DoesLine d visits output line)
  line_goes output line from before x to after so (lines.not_fit what judged v) = says (named_line line) what from before x to after so v
  line_goes output line from before x to after so (lines.looked what mid fit l v) = says (named_line line) what from mid x to after so v

  lines_go : {I : Type 0} (gets : I → Option (List ℕ) → I → Type 0) (output : FolderNumber) (from : V) (before : S) (input : I) (to : V) (after : S) (given : List ℕ) (left : I) (is_over : Bool) (names : List (List ℕ)) → Says from
      → lines.Listed gets (DoesLine d visits output) from before input to after given left is_over names → Says to
  lines_go gets output from before input to after given left is_over names so (lines.none_listed v s g l o n) = subst Says (sym v) so
  lines_go gets output from before input to after given left is_over names so (lines.and_line earlier more others name mid between at listed calls line g n) =
      line_goes output _ mid between _ to after (lines_go gets output from before input mid between earlier at _ others so listed) line

  pub list_goes : {I : Type 0} (gets : I → Option (List ℕ) → I → Type 0) (output : FolderNumber) (from : V) (before : S) (input : I) (end : ListEnd) (to : V) (after : S) (left : I) → Says from
      → WalksList d visits gets output from before input (Ok end) to after left → Says to
  list_goes gets output from before input end to after left so (lines.all_done given was_over names at listed answers is) = lines_go gets output from before input to after given at was_over names so listed
  list_goes gets output from before input end to after left so (lines.not_read given was_over names count at listed answers is) = lines_go gets output from before input to after given at was_over names so listed
  list_goes gets output from before input end to after left so (lines.was_stopped given more is_over names others name e mid between at listed calls is line r) = absurd (cc)

-- ---- the work on the names of a run

-- it ends with its last name
abbrev pub GoesOn : {W E : Type 0} → Work W × E → Type 0
GoesOn x = x.0.stop ≡ None

name_goes : {S I O F W E : Type 0} (w : World S I O F E) (m : Writer W) (shared : Shared) (from : Progress W) (told_before : E) (before : S) (n : Named) (what : What) (x : Unit {0}) (to : Progress W) (told : E) (after : S)
    → from.stop ≡ None → VisitsName w m shared from told_before before n what (Ok x) to told after → to.stop ≡ None
name_goes w m shared from told_before before n what x to told after none (work.of_another share is t same ok) = ap (λ p. p.stop) is ∙ none
name_goes w m shared from told_before before n what x to told after none (work.was_done done mid share does (work.has_row manifest puts reports is ok)) = ap (λ p. p.stop) is ∙ none
name_goes w m shared from told_before before n what x to told after none (work.was_done done mid share does (work.no_row manifest failure s puts t is ok)) = absurd (cc)
name_goes w m shared from told_before before n what x to told after none (work.ends_run stop s share does is ok) = absurd (cc)

pub work_goes : {S I O F W E : Type 0} (w : World S I O F E) (m : Writer W) (n : Named) (what : What) (from : Work W × E) (before : S) (x : Unit {0}) (to : Work W × E) (after : S)
    → GoesOn from → visits_of w m from before n what (Ok x) to after → GoesOn to
work_goes w m n what from before x to after none v = name_goes w m from.0.shared _ from.1 before n what x _ to.1 after none v.0
