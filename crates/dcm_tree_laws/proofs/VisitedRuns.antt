-- A run over a folder as a whole visits each file below it, where listing a folder gives the names in it.
use Rattle.std.proofs.Common.{◌≡◌, sym, subst, ℕ, List, Bool, true, false, Some, None, Ok, length}
use Rattle.std.specs.Prelude.{◌≢◌, codes, nat_le, if◌then◌else◌}
use Rattle.dcm_lemmas.proofs.Options.{some_same}
use Rattle.dcm_devices.specs.Writing.{Writer}
use Rattle.dcm_files.specs.Folders.{FoldersDo}
use Rattle.dcm_walk.specs.declared.folder.FolderNumber.{FolderNumber}
use Rattle.dcm_walk.specs.Names.{PATH_LIMIT, below}
use Rattle.dcm_tree_words.specs.Trees.{folder, list}
use Rattle.dcm_cli.specs.Calls.{Reader}
use Rattle.dcm_trees.specs.declared.run.TreeRun.{TreeRun}
use Rattle.dcm_trees.specs.Tree as spec
use Rattle.dcm_trees.specs.World.{World}
use Rattle.dcm_trees.specs.Tree.{OpensFolder, OpensTree, VisitsAll}
use Rattle.dcm_trees.specs.declared.beginning.Begun.{Begun}
use Rattle.dcm_tree_laws.specs.Course as course
use Rattle.dcm_tree_laws.specs.Course.{ComesTo}
use Rattle.dcm_tree_laws.specs.FileSystem.{FileSystem, Tree, Host, begins, at_path}
use Rattle.dcm_tree_laws.specs.Laws.{part_path}
use Rattle.dcm_tree_laws.specs.OneRow.{FolderHasRows}
use Rattle.dcm_tree_laws.specs.Rows.{Visit}
use Rattle.dcm_tree_laws.specs.Visited.{GivesAll, telling, listing, over_telling, over_listing, AllVisited, AllTold, NamesItself, HasVisited, refused, no_header, visited, FilesOfRunAreVisited, FilesOfRunAreTold}
use Rattle.dcm_tree_laws.proofs.AllVisited.{telling_quiet, listing_quiet, files_are_visited, files_are_told}
use Rattle.dcm_tree_laws.proofs.Clearing.{FoldersOver, inputs_over}
use Rattle.dcm_tree_laws.proofs.CourseBy.{each}

pub telling_over : {I O F : Type 0} (h : Host I O) (gives : F → List (List ℕ)) → FoldersOver h (telling h gives)
telling_over h gives = record {
  quiet = telling_quiet h gives;
  finds = λ before path links found after call. call.0;
  makes = λ before path mode r after call. call;
  makes_as = λ before path mode r after call. call.0;
}

listing_over : {I O F : Type 0} (h : Host I O) (gives : F → List (List ℕ)) → FoldersOver h (listing h gives)
listing_over h gives = record {
  quiet = listing_quiet h gives;
  finds = λ before path links found after call. call.0.0;
  makes = λ before path mode r after call. call;
  makes_as = λ before path mode r after call. call.0;
}

-- ---- its folder is opened

pub own_path : (t : Bool) (path own : List ℕ) → (if t then Some path else None) ≡ Some own → path ≡ own
own_path true path own e = some_same path own e
own_path false path own e = absurd (cc)

gives_own : {I O F : Type 0} (h : Host I O) (gives : F → List (List ℕ)) (t : Tree) (path own : List ℕ) (opened : F) → NamesItself h → below path (codes ".") ≡ own → GivesAll h gives t own opened → GivesAll h gives t path opened
gives_own h gives t path own opened itself is all = record {
  each = λ name at. all.each name (record {
    part = at.part;
    leads = at.leads;
    there = subst (λ (p : List ℕ). at_path h t (below p name) ≢ None) is (subst (λ (place : List ℕ). t.at place ≢ None) (sym (itself path name)) at.there);
  });
  few = all.few;
}

-- what a system gives of a folder that it opened
abbrev Gives : {I O F : Type 0} → Host I O → (gives : F → List (List ℕ)) → FoldersDo FileSystem O F → Type 0
Gives {I} {O} {F} h gives d = (before : FileSystem) (path : List ℕ) (folder : F) (after : FileSystem) → d.opens_folder before path (Ok folder) after → GivesAll h gives before.now path folder

gives_opened : {I O F : Type 0} (h : Host I O) (gives : F → List (List ℕ)) (d : FoldersDo FileSystem O F) → Gives h gives d → (path : List ℕ) (before after : FileSystem) (opened : F) → OpensFolder d path before (Some opened) after
    → GivesAll h gives before.now path opened
gives_opened h gives d so path before after opened (spec.no_text t is same) = absurd (cc)
gives_opened h gives d so path before after opened (spec.not_opened e t call is) = absurd (cc)
gives_opened h gives d so path before after opened (spec.was_opened f t call is) = subst (GivesAll h gives before.now path) (sym (some_same opened f is)) (so before path f after call)

gives_tree : {I O F : Type 0} (h : Host I O) (gives : F → List (List ℕ)) (d : FoldersDo FileSystem O F) → Gives h gives d → (path : List ℕ) (before after : FileSystem) (opened : F) → NamesItself h → OpensTree d path before (Some opened) after
    → GivesAll h gives before.now path opened
gives_tree h gives d so path before after opened itself (spec.followed own is o) =
    gives_own h gives before.now path own opened itself (own_path (nat_le (length (below path (codes "."))) PATH_LIMIT) (below path (codes ".")) own is) (gives_opened h gives d so own before after opened o)
gives_tree h gives d so path before after opened itself (spec.too_long is o) = gives_opened h gives d so path before after opened o

-- ---- the run

pub same_path : (a b : List ℕ) → folder a ≡ folder b → a ≡ b
same_path a b e = cc

pub folder_list : (a b : List ℕ) → folder a ≡ list b → ⊥
folder_list a b e = absurd (cc)

-- something is so of the visits of a run that was begun
abbrev So : {I O F W E : Type 0} (h : Host I O) (gives : F → List (List ℕ)) (w : World FileSystem I O F E) (AllSo : Tree → (folder : List ℕ) → FolderNumber → List Visit → Type 0) (m : Writer W) → Type 0
So {I} {O} {F} {W} {E} h gives w AllSo m = (run : TreeRun) (start : Tree) (path : List ℕ) (begun : Begun) (opened : F) (headed : W) (from : E) (before : FileSystem) (status : ℕ) (left : W) (to : E) (after : FileSystem) → GivesAll h gives start path opened
    → course.Ready h run start begun before → at_path h start (part_path run) ≡ None → (v : VisitsAll w m run path begun opened headed from before status left to after) → v.last.stop ≡ None → (has : FolderHasRows w m run path begun opened headed from before status left to after v)
    → AllSo start path begun.number has.visits

module _ {I O F W E : Type 0} (h : Host I O) (gives : F → List (List ℕ)) (w : World FileSystem I O F E) (given : Gives h gives w.folders) (AllSo : Tree → (folder : List ℕ) → FolderNumber → List Visit → Type 0) (m : Writer W) (so : So h gives w AllSo m) (run : TreeRun)
    (path : List ℕ) (start : Tree) (manifest : W) (from : E) (status : ℕ) (left : W) (to : E) (after : FileSystem) (itself : NamesItself h) where
  comes : ComesTo h w m run (folder path) start manifest from status left to after → HasVisited h w (AllSo start path) m run path start manifest from status left to after
  comes (course.refused refusal told tells refuses same only) = refused refusal told tells refuses same
  comes (course.no_list other is told s same still) = absurd (folder_list path other is)
  comes (course.no_header failure told tells puts ends only) = no_header failure told tells puts ends
  comes (course.in_folder other opened begun headed told mid is tells opens puts ready v) =
      let own : VisitsAll w m run path begun opened headed told mid status left to after = subst (λ (p : List ℕ). VisitsAll w m run p begun opened headed told mid status left to after) (sym (same_path path other is)) v in
      let its : OpensTree w.folders path (begins start) (Some opened) (begins start) = subst (λ (p : List ℕ). OpensTree w.folders p (begins start) (Some opened) (begins start)) (sym (same_path path other is)) opens in
      visited opened begun headed told mid tells puts ready own (λ stop nothing has. so run start path begun opened headed told mid status left to after (gives_tree h gives w.folders given path (begins start) (begins start) opened itself its) ready nothing own stop has)
  comes (course.in_list other opened begun headed told mid read is tells opens puts ready v) = absurd (folder_list path other is)

pub files_of_run_are_visited : {I O F W E : Type 0} (r : Reader I) (w : Writer O) (m : Writer W) (e : Writer E) → FilesOfRunAreVisited F r w m e
files_of_run_are_visited {I} {O} {F} {W} {E} r w m e h gives run path start manifest from status left to after itself does =
    comes h gives (over_listing h gives r w e) (λ before path folder after call. call.0.1) (AllVisited h) m (files_are_visited {F = F} r w m e h gives) run path start manifest from status left to after itself
    (each (λ h. over_listing h gives r w e) (λ h. listing_over h gives) (λ h. inputs_over h) m h run (folder path) start manifest from status left to after does)

pub files_of_run_are_told : {I O F W E : Type 0} (r : Reader I) (w : Writer O) (m : Writer W) (e : Writer E) → FilesOfRunAreTold F r w m e
files_of_run_are_told {I} {O} {F} {W} {E} r w m e h gives run path start manifest from status left to after itself does =
    comes h gives (over_telling h gives r w e) (λ before path folder after call. call.1) (AllTold h) m (files_are_told {F = F} r w m e h gives) run path start manifest from status left to after itself
    (each (λ h. over_telling h gives r w e) (λ h. telling_over h gives) (λ h. inputs_over h) m h run (folder path) start manifest from status left to after does)
