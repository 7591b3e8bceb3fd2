-- A walk of a folder does what its visits visit, one after another.
use Rattle.std.proofs.Common.{sym, subst, ℕ, zero, suc, List, Bool, true, false, Option, Some, None, Result, Ok, Err}
use Rattle.dcm_files.specs.Folders.{FoldersDo}
use Rattle.dcm_files.specs.declared.folders.Found.{Found}
use Rattle.dcm_files.specs.declared.folders.Links.TheVariants.{Kept}
use Rattle.dcm_walk.specs.Folder.{Sees, nothing, not_looked, Opens, not_there, DoesNamed, not_fit, not_seen, a_file, no_file, a_folder, Listed, none_listed, and_entry}
use Rattle.dcm_walk.specs.Folder.{DoesNames, all_listed, not_listed, too_many, was_stopped, DoesFolder, whole, not_whole, stopped, Enters, of_output, not_opened, entered, EntersAt, EntryAt, WalksFolder, named_at, LEVELS}
use Rattle.dcm_walk.specs.Names.{below}
use Rattle.dcm_walk.specs.Visits.{Named, Step, Visits}
use Rattle.dcm_walk.specs.declared.folder.FolderNumber.{FolderNumber}
use Rattle.dcm_walk.specs.declared.folder.Walk.{Walk}
use Rattle.dcm_walk.specs.declared.visitor.Stopped.{Stopped}
use Rattle.dcm_walk.specs.declared.visitor.What.{What}
use Rattle.dcm_tree_laws.proofs.Quiet.{Only, IsClosed}

-- a step does what is in a relation
abbrev pub Does : {V S : Type 0} → (V → S → V → S → Type 0) → Step V S → Type 0
Does {V} {S} R step = (from : V) (before : S) (r : Result (Unit {0}) Stopped) (to : V) (after : S) → step from before r to after → R from before to after

abbrev pub VisitsDo : {V S : Type 0} → (V → S → V → S → Type 0) → Visits V S → Type 0
VisitsDo {V} {S} R visits = (from : V) (before : S) (n : Named) (what : What) (r : Result (Unit {0}) Stopped) (to : V) (after : S) → visits from before n what r to after → R from before to after

sees : {S O F : Type 0} {Same : S → S → Type 0} (d : FoldersDo S O F) → Only Same d → (path : List ℕ) (before : S) (found : Option Found) (after : S) → Sees d path before found after → Same before after
sees d quiet path before None after (nothing call) = quiet.finds before path Kept (Ok None) after call
sees d quiet path before None after (not_looked e call) = quiet.finds before path Kept (Err e) after call
sees d quiet path before (Some found) after call = quiet.finds before path Kept (Ok (Some found)) after call

opens : {S O F : Type 0} {Same : S → S → Type 0} (d : FoldersDo S O F) → Only Same d → (path : List ℕ) (before : S) (opened : Option F) (after : S) → Opens d path before opened after → Same before after
opens d quiet path before None after (not_there e call) = quiet.opens before path (Err e) after call
opens d quiet path before (Some folder) after call = quiet.opens before path (Ok folder) after call

-- something is done after a system was looked at
pub looked_then : {V S : Type 0} {Same : S → S → Type 0} (R : V → S → V → S → Type 0) → IsClosed Same R → (from : V) (before looked : S) (to : V) (after : S) → Same before looked → R from looked to after → R from before to after
looked_then R closed from before looked to after same does = closed.then from from to before looked after (closed.still from before looked same) does

-- and before it was
pub then_looked : {V S : Type 0} {Same : S → S → Type 0} (R : V → S → V → S → Type 0) → IsClosed Same R → (from : V) (before : S) (to : V) (mid after : S) → Same mid after → R from before to mid → R from before to after
then_looked R closed from before to mid after same does = closed.then from to to before mid after does (closed.still to mid after same)

named_does : {V S O F : Type 0} {Same : S → S → Type 0} (d : FoldersDo S O F) → Only Same d → (R : V → S → V → S → Type 0) → IsClosed Same R → (visits : Visits V S) → VisitsDo R visits → (Enter : Found → Named → Step V S)
    → ((found : Found) (n : Named) → Does R (Enter found n)) → (n : Named) → Does R (DoesNamed d visits Enter n)
named_does d quiet R closed visits visit Enter enters n from before r to after (not_fit what judged v) = visit from before n what r to after v
named_does d quiet R closed visits visit Enter enters n from before r to after (not_seen looked fit s v) =
    looked_then R closed from before looked to after (sees d quiet n.path before None looked s) (visit from looked n _ r to after v)
named_does d quiet R closed visits visit Enter enters n from before r to after (a_file found looked fit s is v) =
    looked_then R closed from before looked to after (sees d quiet n.path before (Some found) looked s) (visit from looked n _ r to after v)
named_does d quiet R closed visits visit Enter enters n from before r to after (no_file found looked fit s is v) =
    looked_then R closed from before looked to after (sees d quiet n.path before (Some found) looked s) (visit from looked n _ r to after v)
named_does d quiet R closed visits visit Enter enters n from before r to after (a_folder found looked fit s is e) =
    looked_then R closed from before looked to after (sees d quiet n.path before (Some found) looked s) (enters found n from looked r to after e)

listed_does : {V S O F : Type 0} {Same : S → S → Type 0} (d : FoldersDo S O F) → Only Same d → (R : V → S → V → S → Type 0) → IsClosed Same R → (Entry : List ℕ → Step V S) → ((name : List ℕ) → Does R (Entry name))
    → (from : V) (before : S) (folder : F) (count : ℕ) (to : V) (after : S) (left : F) → Listed d Entry from before folder count to after left → R from before to after
listed_does d quiet R closed Entry visit from before folder count to after left (none_listed c v s f) =
    subst (λ x. R from before x after) (sym v) (closed.none from before after s)
listed_does d quiet R closed Entry visit from before folder count to after left (and_entry others name mid between given at listed call entry c) =
    closed.then from mid to before between after (listed_does d quiet R closed Entry visit from before folder others mid between at listed)
    (looked_then R closed mid between given to after (quiet.names between at (Ok (Some name)) left given call) (visit name mid given (Ok _) to after entry))

names_do : {V S O F : Type 0} {Same : S → S → Type 0} (d : FoldersDo S O F) → Only Same d → (R : V → S → V → S → Type 0) → IsClosed Same R → (Entry : List ℕ → Step V S) → ((name : List ℕ) → Does R (Entry name))
    → (folder left : F) (from : V) (before : S) (r : Result Bool Stopped) (to : V) (after : S) → DoesNames d Entry folder left from before r to after → R from before to after
names_do d quiet R closed Entry visit folder left from before r to after (all_listed count at listed l call is) =
    then_looked R closed from before to listed after (quiet.names listed at (Ok None) left after call) (listed_does d quiet R closed Entry visit from before folder count to listed at l)
names_do d quiet R closed Entry visit folder left from before r to after (not_listed count e at listed l call is) =
    then_looked R closed from before to listed after (quiet.names listed at (Err e) left after call) (listed_does d quiet R closed Entry visit from before folder count to listed at l)
names_do d quiet R closed Entry visit folder left from before r to after (too_many l is) = listed_does d quiet R closed Entry visit from before folder _ to after left l
names_do d quiet R closed Entry visit folder left from before r to after (was_stopped count name e at mid listed given l call entry is) =
    closed.then from mid to before listed after (listed_does d quiet R closed Entry visit from before folder count mid listed at l)
    (looked_then R closed mid listed given to after (quiet.names listed at (Ok (Some name)) left given call) (visit name mid given (Err e) to after entry))

folder_does : {V S O F : Type 0} {Same : S → S → Type 0} (d : FoldersDo S O F) → Only Same d → (R : V → S → V → S → Type 0) → IsClosed Same R → (visits : Visits V S) → VisitsDo R visits → (Entry : List ℕ → Step V S) → ((name : List ℕ) → Does R (Entry name))
    → (n : Named) (folder : F) → Does R (DoesFolder d visits Entry n folder)
folder_does d quiet R closed visits visit Entry entries n folder from before r to after (whole left listed names close is) =
    then_looked R closed from before to listed after (quiet.closes listed left after close) (names_do d quiet R closed Entry entries folder left from before (Ok true) to listed names)
folder_does d quiet R closed visits visit Entry entries n folder from before r to after (not_whole left mid listed was_closed names close v) =
    closed.then from mid to before listed after (names_do d quiet R closed Entry entries folder left from before (Ok false) mid listed names)
    (looked_then R closed mid listed was_closed to after (quiet.closes listed left was_closed close) (visit mid was_closed n _ r to after v))
folder_does d quiet R closed visits visit Entry entries n folder from before r to after (stopped e left listed names close is) =
    then_looked R closed from before to listed after (quiet.closes listed left after close) (names_do d quiet R closed Entry entries folder left from before (Err e) to listed names)

enters_do : {V S O F : Type 0} {Same : S → S → Type 0} (d : FoldersDo S O F) → Only Same d → (R : V → S → V → S → Type 0) → IsClosed Same R → (visits : Visits V S) → VisitsDo R visits → (w : Walk) (Entry : (folder entry : List ℕ) → Step V S)
    → ((folder entry : List ℕ) → Does R (Entry folder entry)) → (found : Found) (n : Named) → Does R (Enters d visits w Entry found n)
enters_do d quiet R closed visits visit w Entry entries found n from before r to after (of_output is v) = visit from before n _ r to after v
enters_do d quiet R closed visits visit w Entry entries found n from before r to after (not_opened tried is o v) =
    looked_then R closed from before tried to after (opens d quiet n.path before None tried o) (visit from tried n _ r to after v)
enters_do d quiet R closed visits visit w Entry entries found n from before r to after (entered folder opened is o does) =
    looked_then R closed from before opened to after (opens d quiet n.path before (Some folder) opened o) (folder_does d quiet R closed visits visit (Entry n.path) (entries n.path) n folder from opened r to after does)

enters_at : {V S O F : Type 0} {Same : S → S → Type 0} (d : FoldersDo S O F) → Only Same d → (R : V → S → V → S → Type 0) → IsClosed Same R → (visits : Visits V S) → VisitsDo R visits → (w : Walk) (levels : ℕ) (found : Found) (n : Named)
    → Does R (EntersAt d visits w levels found n)
unfolding EntersAt
enters_at d quiet R closed visits visit w zero found n from before r to after v = visit from before n _ r to after v
enters_at d quiet R closed visits visit w (suc levels) found n from before r to after enters =
    enters_do d quiet R closed visits visit w (λ folder entry. DoesNamed d visits (EntersAt d visits w levels) (named_at w.base (below folder entry)))
    (λ folder entry. named_does d quiet R closed visits visit (EntersAt d visits w levels) (enters_at d quiet R closed visits visit w levels) (named_at w.base (below folder entry))) found n from before r to after enters

pub walks_do : {V S O F : Type 0} {Same : S → S → Type 0} (d : FoldersDo S O F) → Only Same d → (R : V → S → V → S → Type 0) → IsClosed Same R → (visits : Visits V S) → VisitsDo R visits → (path : List ℕ) (output : FolderNumber) (folder : F)
    → Does R (WalksFolder d visits path output folder)
walks_do d quiet R closed visits visit path output folder from before r to after does =
    folder_does d quiet R closed visits visit (EntryAt d visits _ LEVELS path)
    (λ entry. named_does d quiet R closed visits visit (EntersAt d visits _ LEVELS) (enters_at d quiet R closed visits visit _ LEVELS) (named_at _ (below path entry))) _ folder from before r to after does
