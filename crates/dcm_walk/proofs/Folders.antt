-- Names and folders of a walk, whatever the visitor and the system are.
use Rattle.std.proofs.Common.{◌≡◌, ◌<◌, ◌-◌, refl, sym, subst, ℕ, zero, suc, Bool, true, false, List, Option, Some, None, Result, Ok, Err, arith}
use Rattle.dcm_files.specs.Folders.{FoldersDo}
use Rattle.dcm_files.specs.declared.folders.Found.{Found}
use Rattle.dcm_walk.specs.Folder.{EntersAt, EntryAt, Enters, DoesNamed, DoesNames, DoesOpened, Lists, DoesFolder, named_at}
use Rattle.dcm_walk.specs.Folder.{Opens, is_output, whole, not_whole, stopped, not_opened, entered}
use Rattle.dcm_walk.specs.Names.{below}
use Rattle.dcm_walk.specs.Visits.{Named, Step, Visits}
use Rattle.dcm_walk.specs.declared.folder.Walk.{Walk}
use Rattle.dcm_walk.specs.declared.visitor.Stopped.{Stopped}
use Rattle.dcm_walk.specs.declared.visitor.What.TheVariants.{TooDeep, Unlisted}

pub at_name : {V S O F : Type 0} (d : FoldersDo S O F) (visits : Visits V S) (w : Walk) (levels : ℕ)
    (folder entry path : List ℕ) (from : V) (before : S) (r : Result (Unit {0}) Stopped) (to : V) (after : S)
    → path ≡ below folder entry
    → DoesNamed d visits (EntersAt d visits w levels) (named_at w.base path) from before r to after
    → EntryAt d visits w levels folder entry from before r to after
at_name d visits w levels folder entry path from before r to after at does =
    subst (λ (p : List ℕ). DoesNamed d visits (EntersAt d visits w levels) (named_at w.base p) from before r to after)
    at does

pub all_done : {V S O F : Type 0} (d : FoldersDo S O F) (visits : Visits V S) (Entry : List ℕ → Step V S) (n : Named)
    (folder : F) (from : V) (before : S) (to : V) (after : S) (is_whole : Bool) → is_whole ≡ true
    → Lists d Entry folder from before (Ok is_whole) to after
    → DoesFolder d visits Entry n folder from before (Ok _) to after
all_done d visits Entry n folder from before to after is_whole is done =
    whole done.left done.listed
    (subst (λ (b : Bool). DoesNames d Entry folder done.left from before (Ok b) to done.listed) is done.names)
    done.closes refl

pub not_all : {V S O F : Type 0} (d : FoldersDo S O F) (visits : Visits V S) (Entry : List ℕ → Step V S) (n : Named)
    (folder : F) (from : V) (before : S) (mid : V) (closed : S) (r : Result (Unit {0}) Stopped) (to : V) (after : S)
    (is_whole : Bool) → is_whole ≡ false → Lists d Entry folder from before (Ok is_whole) mid closed
    → visits mid closed n Unlisted r to after → DoesFolder d visits Entry n folder from before r to after
not_all d visits Entry n folder from before mid closed r to after is_whole is done visit =
    not_whole done.left mid done.listed closed
    (subst (λ (b : Bool). DoesNames d Entry folder done.left from before (Ok b) mid done.listed) is done.names)
    done.closes visit

pub opened_at : {V S O F : Type 0} (d : FoldersDo S O F) (visits : Visits V S) (w : Walk) (levels : ℕ)
    (start path : List ℕ) (folder : F) (from : V) (before : S) (r : Result Bool Stopped) (to : V) (after : S)
    → start ≡ path → Lists d (EntryAt d visits w levels start) folder from before r to after
    → Lists d (EntryAt d visits w levels path) folder from before r to after
opened_at d visits w levels start path folder from before r to after is done =
    subst (λ (p : List ℕ). Lists d (EntryAt d visits w levels p) folder from before r to after) is done

pub too_deep : {V S O F : Type 0} (d : FoldersDo S O F) (visits : Visits V S) (w : Walk) (levels : ℕ)
    (found : Found) (n : Named) (from : V) (before : S) (r : Result (Unit {0}) Stopped) (to : V) (after : S)
    → levels ≡ 0 → visits from before n TooDeep r to after → EntersAt d visits w levels found n from before r to after
unfolding EntersAt
too_deep d visits w levels found n from before r to after none visit =
    subst (λ (l : ℕ). EntersAt d visits w l found n from before r to after) (sym none) visit

pub opened_as : {V S O F : Type 0} (d : FoldersDo S O F) (Entry : List ℕ → Step V S) (folder : F) (slot : Option F)
    (from : V) (before : S) (r : Result Bool Stopped) (to : V) (after : S) → slot ≡ Some folder
    → Lists d Entry folder from before r to after → DoesOpened d Entry slot from before r to after
opened_as {F = F} d Entry folder slot from before r to after is done =
    subst (λ (o : Option F). DoesOpened d Entry o from before r to after) (sym is) done

module _ {V S O F : Type 0} (d : FoldersDo S O F) (visits : Visits V S) (w : Walk)
    (Entry : (folder entry : List ℕ) → Step V S) (found : Found) (n : Named) (from : V) (before opened : S) where
  pub enters_whole : (slot : Option F) (is_whole : Bool) (to : V) (after : S) → is_output w.output found ≡ false
      → Opens d n.path before slot opened → DoesOpened d (Entry n.path) slot from opened (Ok is_whole) to after
      → is_whole ≡ true → Enters d visits w Entry found n from before (Ok _) to after
  enters_whole None is_whole to after others opens done is =
      let answers = done.answers in
      absurd (cc)
  enters_whole (Some folder) is_whole to after others opens done is =
      entered folder opened others opens
      (all_done d visits (Entry n.path) n folder from opened to after is_whole is done)

  pub enters_part : (slot : Option F) (is_whole : Bool) (mid : V) (closed : S) (r : Result (Unit {0}) Stopped) (to : V)
      (after : S) → is_output w.output found ≡ false → Opens d n.path before slot opened
      → DoesOpened d (Entry n.path) slot from opened (Ok is_whole) mid closed → is_whole ≡ false
      → visits mid closed n Unlisted r to after → Enters d visits w Entry found n from before r to after
  enters_part None is_whole mid closed r to after others opens done is visit =
      not_opened opened others opens
      (subst (λ (v : V). visits v opened n Unlisted r to after) done.visits_none
      (subst (λ (s : S). visits mid s n Unlisted r to after) done.stays visit))
  enters_part (Some folder) is_whole mid closed r to after others opens done is visit =
      entered folder opened others opens
      (not_all d visits (Entry n.path) n folder from opened mid closed r to after is_whole is done visit)

  pub enters_stopped : (slot : Option F) (e : Stopped) (r : Result (Unit {0}) Stopped) (to : V) (after : S)
      → is_output w.output found ≡ false → Opens d n.path before slot opened
      → DoesOpened d (Entry n.path) slot from opened (Err e) to after → r ≡ Err e
      → Enters d visits w Entry found n from before r to after
  enters_stopped None e r to after others opens done is =
      let answers = done.answers in
      absurd (cc)
  enters_stopped (Some folder) e r to after others opens done is =
      entered folder opened others opens (stopped e done.left done.listed done.names done.closes is)

pub deeper : {V S O F : Type 0} (d : FoldersDo S O F) (visits : Visits V S) (w : Walk) (levels : ℕ)
    (found : Found) (n : Named) (from : V) (before : S) (r : Result (Unit {0}) Stopped) (to : V) (after : S)
    → 0 < levels → Enters d visits w (EntryAt d visits w (levels - 1)) found n from before r to after
    → EntersAt d visits w levels found n from before r to after
unfolding EntersAt
deeper d visits w zero found n from before r to after some enters = absurd (omega (arith, some))
deeper d visits w (suc levels) found n from before r to after some enters =
    let one_less : suc levels - 1 ≡ levels = omega arith in
    subst (λ (l : ℕ). Enters d visits w (EntryAt d visits w l) found n from before r to after) one_less enters
