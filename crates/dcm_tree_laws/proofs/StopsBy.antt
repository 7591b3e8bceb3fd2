-- A walk of a folder that was stopped was stopped by the last name that was visited.
use Rattle.std.proofs.Common.{◌≡◌, ◌∙◌, refl, sym, ap, ℕ, zero, suc, List, Some, None, Result, Ok, Err}
use Rattle.dcm_devices.specs.Writing.{Writer}
use Rattle.dcm_files.specs.Folders.{FoldersDo}
use Rattle.dcm_files.specs.declared.folders.Found.{Found}
use Rattle.dcm_walk.specs.Folder as walk
use Rattle.dcm_walk.specs.Folder.{DoesNamed, DoesNames, DoesFolder, Enters, EntersAt, EntryAt, WalksFolder, named_at, LEVELS}
use Rattle.dcm_walk.specs.Names.{below}
use Rattle.dcm_walk.specs.Visits.{Named, Step, Visits}
use Rattle.dcm_walk.specs.declared.folder.FolderNumber.{FolderNumber}
use Rattle.dcm_walk.specs.declared.folder.Walk.{Walk}
use Rattle.dcm_walk.specs.declared.visitor.Stopped.{Stopped}
use Rattle.dcm_walk.specs.declared.visitor.What.{What}
use Rattle.dcm_trees.specs.declared.progress.Stop.{Stop}
use Rattle.dcm_trees.specs.declared.progress.Work.{Work}
use Rattle.dcm_trees.specs.declared.progress.Shared.{Shared}
use Rattle.dcm_trees.specs.Work as work
use Rattle.dcm_trees.specs.Work.{Progress, VisitsName, visits_of}
use Rattle.dcm_trees.specs.World.{World}

-- a step that is stopped leaves a visitor that says so
abbrev pub Stopping : {V S : Type 0} → (Says : V → Type 0) → Step V S → Type 0
Stopping {V} {S} Says step = (from : V) (before : S) (e : Stopped) (to : V) (after : S) → step from before (Err e) to after → Says to

module _ {V S O F : Type 0} (d : FoldersDo S O F) (visits : Visits V S) (Says : V → Type 0) (says : (n : Named) (what : What) (from : V) (before : S) (e : Stopped) (to : V) (after : S) → visits from before n what (Err e) to after → Says to) where
  named_stops : (Enter : Found → Named → Step V S) → ((found : Found) (n : Named) → Stopping Says (Enter found n)) → (n : Named) → Stopping Says (DoesNamed d visits Enter n)
  named_stops Enter enters n from before e to after (walk.not_fit what judged v) = says n what from before e to after v
  named_stops Enter enters n from before e to after (walk.not_seen looked fit s v) = says n _ from looked e to after v
  named_stops Enter enters n from before e to after (walk.a_file found looked fit s is v) = says n _ from looked e to after v
  named_stops Enter enters n from before e to after (walk.no_file found looked fit s is v) = says n _ from looked e to after v
  named_stops Enter enters n from before e to after (walk.a_folder found looked fit s is enter) = enters found n from looked e to after enter

  names_stop : (Entry : List ℕ → Step V S) → ((name : List ℕ) → Stopping Says (Entry name)) → (folder left : F) (from : V) (before : S) (e : Stopped) (to : V) (after : S) → DoesNames d Entry folder left from before (Err e) to after → Says to
  names_stop Entry entries folder left from before e to after (walk.all_listed count at listed l call is) = absurd (cc)
  names_stop Entry entries folder left from before e to after (walk.not_listed count x at listed l call is) = absurd (cc)
  names_stop Entry entries folder left from before e to after (walk.too_many l is) = absurd (cc)
  names_stop Entry entries folder left from before e to after (walk.was_stopped count name x at mid listed given l call entry is) = entries name mid given x to after entry

  folder_stops : (Entry : List ℕ → Step V S) → ((name : List ℕ) → Stopping Says (Entry name)) → (n : Named) (folder : F) → Stopping Says (DoesFolder d visits Entry n folder)
  folder_stops Entry entries n folder from before e to after (walk.whole left listed names close is) = absurd (cc)
  folder_stops Entry entries n folder from before e to after (walk.not_whole left mid listed was_closed names close v) = says n _ mid was_closed e to after v
  folder_stops Entry entries n folder from before e to after (walk.stopped x left listed names close is) = names_stop Entry entries folder left from before x to listed names

  enters_stop : (w : Walk) (Entry : (folder entry : List ℕ) → Step V S) → ((folder entry : List ℕ) → Stopping Says (Entry folder entry)) → (found : Found) (n : Named) → Stopping Says (Enters d visits w Entry found n)
  enters_stop w Entry entries found n from before e to after (walk.of_output is v) = says n _ from before e to after v
  enters_stop w Entry entries found n from before e to after (walk.not_opened tried is o v) = says n _ from tried e to after v
  enters_stop w Entry entries found n from before e to after (walk.entered folder opened is o does) = folder_stops (Entry n.path) (entries n.path) n folder from opened e to after does

  enters_at_stop : (w : Walk) (levels : ℕ) (found : Found) (n : Named) → Stopping Says (EntersAt d visits w levels found n)
  unfolding EntersAt
  enters_at_stop w zero found n from before e to after v = says n _ from before e to after v
  enters_at_stop w (suc levels) found n from before e to after enters =
      enters_stop w (λ folder entry. DoesNamed d visits (EntersAt d visits w levels) (named_at w.base (below folder entry)))
      (λ folder entry. named_stops (EntersAt d visits w levels) (enters_at_stop w levels) (named_at w.base (below folder entry))) found n from before e to after enters

  pub walk_stops : (path : List ℕ) (output : FolderNumber) (folder : F) → Stopping Says (WalksFolder d visits path output folder)
  walk_stops path output folder =
      folder_stops (EntryAt d visits _ LEVELS path) (λ entry. named_stops (EntersAt d visits _ LEVELS) (enters_at_stop _ LEVELS) (named_at _ (below path entry))) _ folder

-- ---- the work on the names of a run

-- it says why it ends before its last name
abbrev pub SaysWhy : {W E : Type 0} → Work W × E → Type 0
SaysWhy x = (why : Stop) × (x.0.stop ≡ Some why)

not_ok : {A B X : Type 0} (a : A) (b : B) → Err b ≡ Ok a → X
not_ok a b e = absurd (cc)

name_says : {S I O F W E : Type 0} (w : World S I O F E) (m : Writer W) (shared : Shared) (from : Progress W) (told_before : E) (before : S) (n : Named) (what : What) (e : Stopped) (to : Progress W) (told : E) (after : S)
    → VisitsName w m shared from told_before before n what (Err e) to told after → (why : Stop) × (to.stop ≡ Some why)
name_says w m shared from told_before before n what e to told after (work.of_another share is t same ok) = absurd (cc)
name_says w m shared from told_before before n what e to told after (work.was_done done mid share does (work.has_row manifest puts reports is ok)) = absurd (cc)
name_says w m shared from told_before before n what e to told after (work.was_done done mid share does (work.no_row manifest failure s puts t is ok)) = (_, ap (λ p. p.stop) is)
name_says w m shared from told_before before n what e to told after (work.ends_run stop s share does is ok) = (stop, ap (λ p. p.stop) is)

pub work_says : {S I O F W E : Type 0} (w : World S I O F E) (m : Writer W) (n : Named) (what : What) (from : Work W × E) (before : S) (e : Stopped) (to : Work W × E) (after : S) → visits_of w m from before n what (Err e) to after → SaysWhy to
work_says w m n what from before e to after v = name_says w m from.0.shared _ from.1 before n what e _ to.1 after v.0

-- one that does not say so was not stopped
pub ends_well : {S I O F W E : Type 0} (w : World S I O F E) (m : Writer W) (path : List ℕ) (output : FolderNumber) (folder : F) (from : Work W × E) (before : S) (r : Result (Unit {0}) Stopped) (to : Work W × E) (after : S) → to.0.stop ≡ None
    → WalksFolder w.folders (visits_of w m) path output folder from before r to after → r ≡ Ok _
ends_well w m path output folder from before (Ok x) to after none walks = refl
ends_well w m path output folder from before (Err e) to after none walks =
    let why = walk_stops w.folders (visits_of w m) SaysWhy (work_says w m) path output folder from before e to after walks in
    absurd (let no : Some why.0 ≡ None = sym why.1 ∙ none in cc)
