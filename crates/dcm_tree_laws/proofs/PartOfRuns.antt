-- So it is of a run over a tree as a whole.
use Rattle.std.specs.Prelude.{◌≢◌}
use Rattle.std.proofs.Common.{◌≡◌, ◌∙◌, refl, sym, ap, subst, inl, inr, ◌⊎◌, ℕ, List, Bool, true, false, Some, None, Result, Ok, Err}
use Rattle.arrayvec.specs.ArrayVec.{ArrayVec}
use Rattle.dcm_lemmas.proofs.Truth.{true_false}
use Rattle.dcm_devices.specs.Writing.{Writer}
use Rattle.dcm_files.specs.declared.opened.FileKind.{FileKind}
use Rattle.dcm_cli.specs.Calls.{Reader}
use Rattle.dcm_tree_words.specs.declared.said.TreeOptions.{TreeOptions}
use Rattle.dcm_walk.specs.Names.{below}
use Rattle.dcm_walk.specs.declared.folder.FolderNumber.{FolderNumber}
use Rattle.dcm_trees.specs.declared.beginning.Begun.{Begun}
use Rattle.dcm_trees.specs.declared.beginning.Refusal.{Refusal}
use Rattle.dcm_trees.specs.declared.beginning.Spared.{Spared}
use Rattle.dcm_trees.specs.declared.run.TreeRun.{TreeRun}
use Rattle.dcm_trees.specs.Beginning as beginning
use Rattle.dcm_trees.specs.Beginning.{MakesFolder, MakesOutput, MakesApart, HasOutput, ClearsWay, ChecksUse, IsPart, Begins, parent_of}
use Rattle.dcm_trees.specs.Modes.{Modes}
use Rattle.dcm_trees.specs.Tree as spec
use Rattle.dcm_trees.specs.Tree.{VisitsFolder, VisitsList, DoesOpened, DoesFolder, DoesNames, DoesList, DoesTree, part_of, spared_of, spared_with}
use Rattle.dcm_tree_laws.specs.FileSystem.{FileSystem, Tree, Host, may_do, folders_do, place_of, at_path}
use Rattle.dcm_tree_laws.specs.Laws.{over, part_path}
use Rattle.dcm_tree_laws.specs.Part.{LeavesPart, LeavesNoPart, NoPartAfterRun}
use Rattle.dcm_tree_laws.proofs.Near.{IsNear, itself, near}
use Rattle.dcm_tree_laws.proofs.Beginnings.{numbers, climbs, is_there, numbers_folder, compares, checks_use, is_part, begins_by}
use Rattle.dcm_tree_laws.proofs.ClearedBy.{still_leaves, then_leaves}
use Rattle.dcm_tree_laws.proofs.Clearing as clearing
use Rattle.dcm_tree_laws.proofs.Clearing.{Clearing, folders_over, inputs_over, way_clearing}
use Rattle.dcm_tree_laws.proofs.Looking.{finds_mode}
use Rattle.dcm_tree_laws.proofs.OutputsBy.{Leaves, leaves}
use Rattle.dcm_tree_laws.proofs.PartsBy.{no_part_left, no_part_left_by_list}
use Rattle.dcm_tree_laws.proofs.Quiet.{are_quiet}
use Rattle.dcm_tree_laws.proofs.Runs.{begun_part, opens_tree, opens_input}
use Rattle.dcm_tree_laws.proofs.Steps.{idle}
use Rattle.dcm_tree_laws.proofs.Trying.{Trying, well, stays, still, gone, tried_unremoved}

-- ---- the folder of the outputs is at another place

elsewhere : (t u : Tree) (part output : List ℕ) → output ≢ part → (part ≡ output) ⊎ (u.at part ≡ t.at part) → u.at part ≡ t.at part
elsewhere t u part output apart (inl e) = absurd (apart (sym e))
elsewhere t u part output apart (inr e) = e

folder_leaves : {I O F : Type 0} {mode : ℕ} (h : Host I O) (part output : List ℕ) → place_of h output ≢ place_of h part → (before : FileSystem) (r : Result (Unit {0}) Refusal) (after : FileSystem) → MakesFolder (folders_do {F = F} h) output mode before r after
    → LeavesPart h part before after
folder_leaves h part output apart before r after (beginning.no_text t is same) = still_leaves h part before after same
folder_leaves h part output apart before r after (beginning.made t call is) = λ none. (sym call.notes.unremoved_is ∙ none, elsewhere before.now after.now (place_of h part) (place_of h output) apart (call.puts.elsewhere (place_of h part)))
folder_leaves h part output apart before r after (beginning.was_there e t call k is) = still_leaves h part before after call
folder_leaves h part output apart before r after (beginning.not_made e t call k is) = still_leaves h part before after call

output_leaves : {I O F : Type 0} {modes : Modes} (h : Host I O) (part output : List ℕ) → place_of h output ≢ place_of h part → (before : FileSystem) (r : Result FolderNumber Refusal) (after : FileSystem) → MakesOutput (folders_do {F = F} h) modes output before r after
    → LeavesPart h part before after
output_leaves {I} {O} {F} h part output apart before r after (beginning.no_mode n f is) = still_leaves h part before after (finds_mode (folders_do {F = F} h) (are_quiet h) before (Err n) after f)
output_leaves {I} {O} {F} h part output apart before r after (beginning.not_made mode refusal seen f m is) =
    then_leaves h part before seen after (still_leaves h part before seen (finds_mode (folders_do {F = F} h) (are_quiet h) before (Ok mode) seen f)) (folder_leaves {F = F} h part output apart seen (Err refusal) after m)
output_leaves {I} {O} {F} h part output apart before r after (beginning.made mode seen mid f m n) =
    then_leaves h part before mid after
    (then_leaves h part before seen mid (still_leaves h part before seen (finds_mode (folders_do {F = F} h) (are_quiet h) before (Ok mode) seen f)) (folder_leaves {F = F} h part output apart seen (Ok _) mid m))
    (still_leaves h part mid after (numbers_folder (folders_do {F = F} h) (are_quiet h) output mid r after n))

apart_leaves : {I O F : Type 0} (h : Host I O) (part output : List ℕ) → place_of h output ≢ place_of h part → (input : List ℕ) (is_list : Bool) (before : FileSystem) (r : Result FolderNumber Refusal) (after : FileSystem)
    → MakesApart (folders_do {F = F} h) input is_list output before r after → LeavesPart h part before after
apart_leaves {I} {O} {F} h part output apart input is_list before r after (beginning.not_numbered refusal n is) = still_leaves h part before after (numbers (folders_do {F = F} h) (are_quiet h) input before (Err refusal) after n)
apart_leaves {I} {O} {F} h part output apart input is_list before r after (beginning.not_climbed read refusal mid n c is) =
    still_leaves h part before after (climbs (folders_do {F = F} h) (are_quiet h) (parent_of output) read mid (Err refusal) after c ∙ numbers (folders_do {F = F} h) (are_quiet h) input before (Ok read) mid n)
apart_leaves {I} {O} {F} h part output apart input is_list before r after (beginning.within read way mid n c k is) =
    still_leaves h part before after (climbs (folders_do {F = F} h) (are_quiet h) (parent_of output) read mid (Ok way) after c ∙ numbers (folders_do {F = F} h) (are_quiet h) input before (Ok read) mid n)
apart_leaves {I} {O} {F} h part output apart input is_list before r after (beginning.made read way mid was n c k m) =
    then_leaves h part before was after
    (still_leaves h part before was (climbs (folders_do {F = F} h) (are_quiet h) (parent_of output) read mid (Ok way) was c ∙ numbers (folders_do {F = F} h) (are_quiet h) input before (Ok read) mid n))
    (output_leaves {F = F} h part output apart was r after m)

has_leaves : {I O F : Type 0} (h : Host I O) (part output : List ℕ) → place_of h output ≢ place_of h part → (input : List ℕ) (is_list : Bool) (before : FileSystem) (r : Result FolderNumber Refusal) (after : FileSystem)
    → HasOutput (folders_do {F = F} h) input is_list output before r after → LeavesPart h part before after
has_leaves {I} {O} {F} h part output apart input is_list before r after (beginning.not_looked refusal l is) = still_leaves h part before after (is_there (folders_do {F = F} h) (are_quiet h) output before (Err refusal) after l)
has_leaves {I} {O} {F} h part output apart input is_list before r after (beginning.was_there looked l c) =
    still_leaves h part before after (compares (folders_do {F = F} h) (are_quiet h) input is_list output looked r after c ∙ is_there (folders_do {F = F} h) (are_quiet h) output before (Ok true) looked l)
has_leaves {I} {O} {F} h part output apart input is_list before r after (beginning.not_there looked l m) =
    then_leaves h part before looked after (still_leaves h part before looked (is_there (folders_do {F = F} h) (are_quiet h) output before (Ok false) looked l)) (apart_leaves {F = F} h part output apart input is_list looked r after m)

-- what was left over is gone
no_part : {I O : Type 0} (h : Host I O) (part : List ℕ) (before after : FileSystem) → LeavesPart h part before after → LeavesNoPart h part before after
no_part h part before after leaves none = let x = leaves none in (x.0, inl x.1)

then_no_part : {I O : Type 0} (h : Host I O) (part : List ℕ) (a b c : FileSystem) → LeavesNoPart h part a b → LeavesPart h part b c → LeavesNoPart h part a c
then_no_part h part a b c first second none =
    let y = second none in
    let x = first y.0 in
    (x.0, by_either h part a.now b.now c.now y.1 x.1)
  where
    by_either : {I O : Type 0} (h : Host I O) (part : List ℕ) (a b c : Tree) → at_path h c part ≡ at_path h b part → (at_path h b part ≡ at_path h a part) ⊎ (at_path h b part ≡ None) → (at_path h c part ≡ at_path h a part) ⊎ (at_path h c part ≡ None)
    by_either h part a b c same (inl e) = inl (same ∙ e)
    by_either h part a b c same (inr e) = inr (same ∙ e)

first_then : {I O : Type 0} (h : Host I O) (part : List ℕ) (a b c : FileSystem) → LeavesPart h part a b → LeavesNoPart h part b c → LeavesNoPart h part a c
first_then h part a b c first second none =
    let y = second none in
    let x = first y.0 in
    (x.0, by_either h part a.now b.now c.now x.1 y.1)
  where
    by_either : {I O : Type 0} (h : Host I O) (part : List ℕ) (a b c : Tree) → at_path h b part ≡ at_path h a part → (at_path h c part ≡ at_path h b part) ⊎ (at_path h c part ≡ None) → (at_path h c part ≡ at_path h a part) ⊎ (at_path h c part ≡ None)
    by_either h part a b c same (inl e) = inl (e ∙ same)
    by_either h part a b c same (inr e) = inr e

clearing_leaves : {I O : Type 0} (h : Host I O) (part : List ℕ) (before after : FileSystem) → Clearing h part before after → LeavesNoPart h part before after
clearing_leaves h part before after (clearing.still same) none = (sym (ap (λ (s : FileSystem). s.unremoved) same) ∙ none, inl (ap (λ (s : FileSystem). at_path h s.now part) same))
clearing_leaves h part before after (clearing.failed held is) none = true_false after.unremoved (ap (λ (s : FileSystem). s.unremoved) is) none
clearing_leaves h part before after (clearing.gone was there kind removes) none = (sym removes.notes.unremoved_is ∙ none, inr removes.puts.there)

-- a part that was made to be looked at is gone
trying_leaves : {I O : Type 0} (h : Host I O) (part : List ℕ) (before after : FileSystem) → Trying h part before after → LeavesPart h part before after
trying_leaves h part before after (well (still same)) = still_leaves h part before after same
trying_leaves h part before after (well (gone closed t removes)) = λ none. (sym (tried_unremoved t) ∙ (sym removes.notes.unremoved_is ∙ none), removes.puts.there ∙ sym t.makes.nothing)
trying_leaves h part before after (stays closed t is) = λ none. true_false after.unremoved (ap (λ (s : FileSystem). s.unremoved) is) none

module _ {I O F E : Type 0} (h : Host I O) (e : Writer E) (part output name : List ℕ) (is : below output name ≡ part) (apart : place_of h output ≢ place_of h part) where
  way_leaves : (path : ArrayVec ℕ) → IsPart output name (Ok path) → (spared : Spared) (from : E) (before : FileSystem) (r : Result (Unit {0}) Refusal) (to : E) (after : FileSystem)
      → ClearsWay (may_do {I = I} h) (folders_do {F = F} h) e path.items name spared from before r to after → LeavesNoPart h part before after
  way_leaves path p spared from before r to after clears =
      clearing_leaves h part before after
      (subst (λ (x : List ℕ). Clearing h x before after) (is_part output name path p ∙ is) (way_clearing h (may_do {I = I} h) (inputs_over {I = I} h) (folders_do {F = F} h) (folders_over {F = F} h) e path.items name spared from before r to after clears))

  use_leaves : (input : List ℕ) (is_list : Bool) (number : FolderNumber) (path : ArrayVec ℕ) → IsPart output name (Ok path) → (options : TreeOptions) (before : FileSystem) (r : Result (Unit {0}) Refusal) (after : FileSystem)
      → ChecksUse (may_do {I = I} h) (folders_do {F = F} h) input is_list output number name path.items options before r after → LeavesPart h part before after
  use_leaves input is_list number path p options before r after checks =
      trying_leaves h part before after
      (subst (λ (x : List ℕ). Trying h x before after) (is_part output name path p ∙ is) (checks_use h (may_do {I = I} h) (inputs_over {I = I} h) (folders_do {F = F} h) (folders_over {F = F} h) input is_list output number name path.items options before r after checks))

  begins_leaves : (input : List ℕ) (is_list : Bool) (options : TreeOptions) (spared : Spared) (from : E) (before : FileSystem) (r : Result Begun Refusal) (to : E) (after : FileSystem)
      → Begins (may_do {I = I} h) (folders_do {F = F} h) e input is_list output name options spared from before r to after → LeavesNoPart h part before after
  begins_leaves input is_list options spared from before r to after (beginning.no_output refusal has x silent) = no_part h part before after (has_leaves {F = F} h part output apart input is_list before (Err refusal) after has)
  begins_leaves input is_list options spared from before r to after (beginning.no_part number refusal has p x silent) = no_part h part before after (has_leaves {F = F} h part output apart input is_list before (Ok number) after has)
  begins_leaves input is_list options spared from before r to after (beginning.has_part number path refusal mid has p c x) =
      first_then h part before mid after (has_leaves {F = F} h part output apart input is_list before (Ok number) mid has) (way_leaves path p spared from mid (Err refusal) to after c)
  begins_leaves input is_list options spared from before r to after (beginning.in_use number path refusal mid checked has p c u x) =
      then_no_part h part before checked after (first_then h part before mid checked (has_leaves {F = F} h part output apart input is_list before (Ok number) mid has) (way_leaves path p spared from mid (Ok _) to checked c))
      (use_leaves input is_list number path p options checked (Err refusal) after u)
  begins_leaves input is_list options spared from before r to after (beginning.begun number path mid checked has p c u x) =
      then_no_part h part before checked after (first_then h part before mid checked (has_leaves {F = F} h part output apart input is_list before (Ok number) mid has) (way_leaves path p spared from mid (Ok _) to checked c))
      (use_leaves input is_list number path p options checked (Ok _) after u)

-- ---- the run

-- what is not begun, and that nothing is being written after a beginning
still_none : {I O F E : Type 0} (h : Host I O) (e : Writer E) (run : TreeRun) (input : List ℕ) (is_list : Bool) (spared : Spared) (from : E) (before : FileSystem) (r : Result Begun Refusal) (to : E) (after : FileSystem) → before.written ≡ None
    → Begins (may_do {I = I} h) (folders_do {F = F} h) e input is_list run.output.now (part_of run) run.options spared from before r to after → after.written ≡ None
still_none {I} {O} {F} h e run input is_list spared from before r to after none b =
    let x : Leaves h (part_path run) run.output.now before after = leaves h (λ mode bytes. ⊥) (part_path run) run.output.now before after none (near (part_of run) refl)
    (begins_by {I = I} {F = F} h e (λ mode bytes. ⊥) (part_path run) run.output.now (part_of run) refl (IsNear run.output.now) (itself refl) input is_list run.options spared from before r to after b) in
    x.none

visits_folder_leaves : {I O F W E : Type 0} (h : Host I O) (r : Reader I) (w : Writer O) (e : Writer E) (rows : Writer W) (run : TreeRun) (path : List ℕ) (begun : Begun) (opened : F) (manifest : W) (from : E) (before : FileSystem) (status : ℕ) (left : W) (to : E)
    (after : FileSystem) → before.written ≡ None → begun.part.items ≡ part_path run → VisitsFolder (over {F = F} h r w e) rows run path begun opened manifest from before status left to after → LeavesPart h (part_path run) before after
visits_folder_leaves h r w e rows run path begun opened manifest from before status left to after none part (spec.no_header failure puts close ends) = still_leaves h (part_path run) before after close
visits_folder_leaves {I} {O} {F} h r w e rows run path begun opened manifest from before status left to after none part (spec.visited headed puts v) =
    no_part_left {F = F} r w rows e h run path begun opened headed from before status left to after none part v

opened_leaves : {I O F W E : Type 0} (h : Host I O) (r : Reader I) (w : Writer O) (e : Writer E) (rows : Writer W) (run : TreeRun) (path : List ℕ) (opened : F) (manifest : W) (from : E) (before : FileSystem) (status : ℕ) (left : W) (to : E) (after : FileSystem)
    → place_of h run.output.now ≢ place_of h (part_path run) → before.written ≡ None → DoesOpened (over {F = F} h r w e) rows run path opened manifest from before status left to after → LeavesNoPart h (part_path run) before after
opened_leaves {I} {O} {F} h r w e rows run path opened manifest from before status left to after apart none (spec.not_begun refusal told tried b close refuses is) =
    then_no_part h (part_path run) before tried after
    (begins_leaves {I = I} {F = F} h e (part_path run) run.output.now (part_of run) refl apart path false run.options (spared_of run) from before (Err refusal) told tried b) (still_leaves h (part_path run) tried after close)
opened_leaves {I} {O} {F} h r w e rows run path opened manifest from before status left to after apart none (spec.was_begun begun told mid b v) =
    then_no_part h (part_path run) before mid after
    (begins_leaves {I = I} {F = F} h e (part_path run) run.output.now (part_of run) refl apart path false run.options (spared_of run) from before (Ok begun) told mid b)
    (visits_folder_leaves {F = F} h r w e rows run path begun opened manifest told mid status left to after (still_none {I = I} {F = F} h e run path false (spared_of run) from before (Ok begun) told mid none b)
    (begun_part (may_do {I = I} h) (folders_do {F = F} h) e path false run.output.now (part_of run) run.options (spared_of run) from before begun told mid b) v)

still_written : (before after : FileSystem) → after ≡ before → before.written ≡ None → after.written ≡ None
still_written before after same none = ap (λ (s : FileSystem). s.written) same ∙ none

in_folder : {I O F W E : Type 0} (h : Host I O) (r : Reader I) (w : Writer O) (e : Writer E) (rows : Writer W) (run : TreeRun) (path : List ℕ) (manifest : W) (from : E) (before : FileSystem) (status : ℕ) (left : W) (to : E) (after : FileSystem)
    → place_of h run.output.now ≢ place_of h (part_path run) → before.written ≡ None → DoesFolder (over {F = F} h r w e) rows run path manifest from before status left to after → LeavesNoPart h (part_path run) before after
in_folder h r w e rows run path manifest from before status left to after apart none (spec.too_long long refuses is same) = no_part h (part_path run) before after (still_leaves h (part_path run) before after same)
in_folder {I} {O} {F} h r w e rows run path manifest from before status left to after apart none (spec.not_opened o refuses is) = no_part h (part_path run) before after (still_leaves h (part_path run) before after (opens_tree {F = F} h path before None after o))
in_folder {I} {O} {F} h r w e rows run path manifest from before status left to after apart none (spec.was_opened opened mid o does) =
    let same : mid ≡ before = opens_tree {F = F} h path before (Some opened) mid o in
    first_then h (part_path run) before mid after (still_leaves h (part_path run) before mid same)
    (opened_leaves {F = F} h r w e rows run path opened manifest from mid status left to after apart (still_written before mid same none) does)

visits_list_leaves : {I O F W E : Type 0} (h : Host I O) (r : Reader I) (w : Writer O) (e : Writer E) (rows : Writer W) (run : TreeRun) (list : List ℕ) (begun : Begun) (input : I) (manifest : W) (from : E) (before : FileSystem) (status : ℕ) (left : W) (to : E)
    (after : FileSystem) (read : I) → before.written ≡ None → begun.part.items ≡ part_path run → VisitsList (over {F = F} h r w e) rows run list begun input manifest from before status left to after read → LeavesPart h (part_path run) before after
visits_list_leaves h r w e rows run list begun input manifest from before status left to after read none part (spec.no_header failure puts ends same is) = still_leaves h (part_path run) before after same
visits_list_leaves {I} {O} {F} h r w e rows run list begun input manifest from before status left to after read none part (spec.visited headed puts v) =
    no_part_left_by_list {F = F} r w rows e h run list begun input headed from before status left to after read none part v

names_leave : {I O F W E : Type 0} (h : Host I O) (r : Reader I) (w : Writer O) (e : Writer E) (rows : Writer W) (run : TreeRun) (list : List ℕ) (kind : FileKind) (input : I) (manifest : W) (from : E) (before : FileSystem) (status : ℕ) (left : W) (to : E) (after : FileSystem) (read : I)
    → place_of h run.output.now ≢ place_of h (part_path run) → before.written ≡ None → DoesNames (over {F = F} h r w e) rows run list kind input manifest from before status left to after read → LeavesNoPart h (part_path run) before after
names_leave {I} {O} {F} h r w e rows run list kind input manifest from before status left to after read apart none (spec.not_begun refusal told b refuses l is) =
    begins_leaves {I = I} {F = F} h e (part_path run) run.output.now (part_of run) refl apart _ true run.options (spared_with run list kind) from before (Err refusal) told after b
names_leave {I} {O} {F} h r w e rows run list kind input manifest from before status left to after read apart none (spec.was_begun begun told mid b v) =
    then_no_part h (part_path run) before mid after
    (begins_leaves {I = I} {F = F} h e (part_path run) run.output.now (part_of run) refl apart _ true run.options (spared_with run list kind) from before (Ok begun) told mid b)
    (visits_list_leaves {F = F} h r w e rows run list begun input manifest told mid status left to after read (still_none {I = I} {F = F} h e run _ true (spared_with run list kind) from before (Ok begun) told mid none b)
    (begun_part (may_do {I = I} h) (folders_do {F = F} h) e _ true run.output.now (part_of run) run.options (spared_with run list kind) from before begun told mid b) v)

in_list : {I O F W E : Type 0} (h : Host I O) (r : Reader I) (w : Writer O) (e : Writer E) (rows : Writer W) (run : TreeRun) (path : List ℕ) (manifest : W) (from : E) (before : FileSystem) (status : ℕ) (left : W) (to : E) (after : FileSystem)
    → place_of h run.output.now ≢ place_of h (part_path run) → before.written ≡ None → DoesList (over {F = F} h r w e) rows run path manifest from before status left to after → LeavesNoPart h (part_path run) before after
in_list {I} h r w e rows run path manifest from before status left to after apart none (spec.not_opened error o told s l) =
    no_part h (part_path run) before after (still_leaves h (part_path run) before after (opens_input {I = I} h path before (Err error) after o))
in_list {I} {O} {F} h r w e rows run path manifest from before status left to after apart none (spec.was_opened o read mid done opens does back) =
    let same : mid ≡ before = opens_input {I = I} h path before (Ok o) mid opens in
    first_then h (part_path run) before mid after (still_leaves h (part_path run) before mid same)
    (then_no_part h (part_path run) mid done after
    (names_leave {F = F} h r w e rows run path o.kind o.device manifest from mid status left to done read apart (still_written before mid same none) does) (still_leaves h (part_path run) done after back))

pub after_run : {I O F W E : Type 0} (r : Reader I) (w : Writer O) (rows : Writer W) (e : Writer E) → NoPartAfterRun F r w rows e
after_run {I} {O} {F} r w rows e h run source start manifest from status left to after apart (spec.of_folder path is does) = in_folder {F = F} h r w e rows run path manifest from _ status left to after apart refl does
after_run {I} {O} {F} r w rows e h run source start manifest from status left to after apart (spec.of_list path is does) = in_list {F = F} h r w e rows run path manifest from _ status left to after apart refl does
