-- The rows of runs of all shares that name outputs by the instances in them are told by what was there before.
use Rattle.std.proofs.Common.{◌≡◌, ◌∙◌, refl, sym, ap, subst, inl, inr, ℕ, List, length, Bool, true, false, Some, None, Ok}
use Rattle.std.specs.Prelude.{nat_le, if◌then◌else◌}
use Rattle.std.specs.Str.{IsUtf8}
use Rattle.dcm_lemmas.proofs.Truth.{true_false}
use Rattle.dcm_devices.specs.Writing.{Writer}
use Rattle.dcm_files.specs.declared.folders.Links.TheVariants.{Followed}
use Rattle.dcm_instance.specs.Uids.{Uids, instance_name}
use Rattle.dcm_walk.specs.Names.{below, PATH_LIMIT}
use Rattle.dcm_walk.specs.Visits.{Named}
use Rattle.dcm_walk.specs.declared.visitor.What.{What}
use Rattle.dcm_walk.specs.declared.visitor.What.TheVariants.{File}
use Rattle.dcm_cli.specs.Calls.{Reader}
use Rattle.dcm_trees.specs.declared.fate.Fate.{Fate}
use Rattle.dcm_trees.specs.declared.file.Done.{Done}
use Rattle.dcm_trees.specs.Fate.{has_output, word}
use Rattle.dcm_trees.specs.File.{DoesName, is_media_index}
use Rattle.dcm_trees.specs.Manner.{Manner}
use Rattle.dcm_trees.specs.Run.{part_name}
use Rattle.dcm_trees.specs.Task.{Task}
use Rattle.dcm_trees.specs.Work.{name_in}
use Rattle.dcm_tree_laws.specs.Copies.{IsNamedBy, SameRow}
use Rattle.dcm_tree_laws.specs.Determined.{as_whole, working}
use Rattle.dcm_tree_laws.specs.FileSystem.{FileSystem, Tree, Host, place_of}
use Rattle.dcm_tree_laws.specs.Rows.{Visit}
use Rattle.dcm_tree_laws.specs.Single.{TellsAll}
use Rattle.dcm_tree_laws.specs.Together.{HasOwnPlace, IsFree, IsAside, HasBytes, HasPlainParts, NamesInstance, IsInstanceOf, IsOpen, Runs, no_run, and_run}
use Rattle.dcm_tree_laws.specs.Told.{EachRun}
use Rattle.dcm_tree_laws.specs.ToldAs.{HasFileAt, IsToldAs, told_as_no_file, told_as_index, told_as_unnamed, told_as_free, told_as_there, told_as_taken, HasNoOutput, none_of_no_file, none_of_index, none_of_unnamed, AreAsideAs, one_has_none, other_has_none, both_aside_as, RowsAreToldAs}
use Rattle.dcm_tree_laws.proofs.EndsAs.{EndsTold, PlacedAs, ends_told, is_unnamed, is_placed}
use Rattle.dcm_tree_laws.proofs.Fates.{Frees}
use Rattle.dcm_tree_laws.proofs.FatesAs.{names_once}
use Rattle.dcm_tree_laws.proofs.Frees.{KeepsAll, bytes_kept}
use Rattle.dcm_tree_laws.proofs.Held.{GivesAll}
use Rattle.dcm_tree_laws.proofs.RowsBy.{visit_of}
use Rattle.dcm_tree_laws.proofs.RowsToldBy.{kept_there, index_done, none_done, same_row}
use Rattle.dcm_tree_laws.proofs.Stages.{own, of_output, unchanged, index_same, name_keeps}
use Rattle.dcm_tree_laws.proofs.StagesAs.{same_bytes, free_unnamed, free_aside, by_bytes}
use Rattle.dcm_tree_laws.proofs.Telling.{Telling, rows_told}
use Rattle.dcm_tree_laws.proofs.Working.{whole_gives}

-- ---- names apart

pub swapped : {I O : Type 0} (h : Host I O) (task : Task) (output : List ℕ) (t : Tree) (one other : Visit) → AreAsideAs h task output t one other → AreAsideAs h task output t other one
swapped h task output t one other (one_has_none none) = other_has_none none
swapped h task output t one other (other_has_none none) = one_has_none none
swapped h task output t one other (both_aside_as bytes out uids others its who has names has_other names_other a b) = both_aside_as others its who bytes out uids has_other names_other has names b a

-- ---- the row of a name

same_name : (relative : List ℕ) (done d : Done) (uids : Uids) → IsNamedBy uids done → IsNamedBy uids d → name_in relative done.instance ≡ name_in relative d.instance
same_name relative done d uids x y = ap (name_in relative) x.instance_is ∙ x.relative_is ∙ sym y.relative_is ∙ sym (ap (name_in relative) y.instance_is)

named_row : (n : Named) (done d : Done) (uids : Uids) → IsNamedBy uids done → IsNamedBy uids d → done.fate ≡ d.fate → SameRow n done d
named_row n done d uids x y is = record {
  output_is = ap (λ (f : Fate). if has_output f then Some (name_in n.relative done.instance) else None) is ∙ ap (λ (path : List ℕ). if has_output d.fate then Some path else None) (same_name n.relative done d uids x y);
  word_is = ap word is;
}

-- nothing that is done on the way is at its output
pub frees_own : {I O : Type 0} (h : Host I O) (k : Manner) (number : ℕ) (part_is : k.part ≡ below k.output (part_name number)) (uids : Uids) → HasOwnPlace h k.output (instance_name uids) → Frees h k (instance_name uids)
frees_own h k number part_is uids place = own h k.part k.output number part_is (instance_name uids) place ⊥ (λ none. none)

module _ {I O F E : Type 0} (h : Host I O) (r : Reader I) (w : Writer O) (e : Writer E) (all : GivesAll h (as_whole h r) w) (k : Manner) (number : ℕ) (part_is : k.part ≡ below k.output (part_name number)) (keeps_is : k.keeps_names ≡ false) where
  -- what a file ends as
  file_ends : (n : Named) (mode : ℕ) (bytes : List ℕ) (from : E) (before : FileSystem) (done : Done) (to : E) (after : FileSystem) → before.written ≡ None → is_media_index n.relative ≡ false → HasBytes h k.output before.now (visit_of n (File mode)) bytes → HasPlainParts h k.output
      → DoesName (working {F = F} h r w e) k n (File mode) from before (Ok done) to after → EndsTold h k bytes before.now done
  file_ends n mode bytes from before done to after none no_index has plain does =
      ends_told F h r w e all k (subst IsUtf8 (sym part_is) (plain.text number)) (of_output h r w k number part_is) (ap (h.leads Followed) part_is ∙ plain.leads number ∙ ap (place_of h) (sym part_is)) n bytes mode from before done to after keeps_is no_index none has.text
      (record { file = has.file; bytes_are = has.bytes_are }) does

  pub placed : (n : Named) (what : What) (mode : ℕ) (bytes out : List ℕ) (uids : Uids) (from : E) (before : FileSystem) (done : Done) (to : E) (after : FileSystem) → before.written ≡ None → (x : IsInstanceOf h k.task k.output before.now (visit_of n what) mode bytes out uids)
      → nat_le (length (below k.output (instance_name uids))) PATH_LIMIT ≡ true → DoesName (working {F = F} h r w e) k n what from before (Ok done) to after → PlacedAs h k out uids x.named.verdict before.now done
  placed n what mode bytes out uids from before done to after none x fits does =
      is_placed h k bytes before.now done out uids x.named fits
      (file_ends n mode bytes from before done to after none x.no_index (subst (λ (y : What). HasBytes h k.output before.now (visit_of n y) bytes) x.of_file x.input) x.parts (subst (λ (y : What). DoesName (working {F = F} h r w e) k n y from before (Ok done) to after) x.of_file does))

  told_row : (n : Named) (what : What) (d : Done) (from : E) (before : FileSystem) (done : Done) (to : E) (after : FileSystem) → before.written ≡ None → IsToldAs h k.task k.output before.now (visit_of n what) d → DoesName (working {F = F} h r w e) k n what from before (Ok done) to after → SameRow n done d
  told_row n what d from before done to after none (told_as_no_file not is) does = same_row n done d (none_done {F = F} h r w e k n what from before done to after not does ∙ sym is)
  told_row n what d from before done to after none (told_as_index mode of_file index is) does =
      same_row n done d (index_done {F = F} h r w e k n mode from before done to after index (subst (λ (y : What). DoesName (working {F = F} h r w e) k n y from before (Ok done) to after) of_file does) ∙ sym is)
  told_row n what d from before done to after none (told_as_unnamed bytes fate x ends is) does =
      same_row n done d (is_unnamed h k bytes before.now done fate ends
      (file_ends n x.mode bytes from before done to after none x.no_index (subst (λ (y : What). HasBytes h k.output before.now (visit_of n y) bytes) x.of_file x.input) x.parts (subst (λ (y : What). DoesName (working {F = F} h r w e) k n y from before (Ok done) to after) x.of_file does)) ∙ sym is)
  told_row n what d from before done to after none (told_as_free mode bytes out uids x free fate_is named) does =
      let p : PlacedAs h k out uids x.named.verdict before.now done = placed n what mode bytes out uids from before done to after none x free.fits does in
      named_row n done d uids p.named named (p.free free (frees_own h k number part_is uids x.own) ∙ sym fate_is)
  told_row n what d from before done to after none (told_as_there mode bytes out uids x f fits fate_is named) does =
      let p : PlacedAs h k out uids x.named.verdict before.now done = placed n what mode bytes out uids from before done to after none x f.there.fits does in
      named_row n done d uids p.named named (p.there f fits ∙ sym fate_is)
  told_row n what d from before done to after none (told_as_taken mode bytes out its uids x f differ fate_is named) does =
      let p : PlacedAs h k out uids x.named.verdict before.now done = placed n what mode bytes out uids from before done to after none x f.there.fits does in
      named_row n done d uids p.named named (p.other its f differ ∙ sym fate_is)

-- ---- it stays told

abbrev pub kept_instance : {I O : Type 0} (h : Host I O) (task : Task) (output : List ℕ) (t u : Tree) (v : Visit) (mode : ℕ) (bytes out : List ℕ) (uids : Uids) → KeepsAll h output t u → IsOpen h output (instance_name uids) u → IsInstanceOf h task output t v mode bytes out uids → IsInstanceOf h task output u v mode bytes out uids
kept_instance h task output t u v mode bytes out uids keeps is_open x = record {
  of_file = x.of_file;
  no_index = x.no_index;
  input = bytes_kept h output t u v bytes keeps x.input;
  named = x.named;
  output_is = is_open;
  own = x.own;
  parts = x.parts;
}

pub kept_file : {I O : Type 0} (h : Host I O) (output relative : List ℕ) (t u : Tree) (its : List ℕ) → KeepsAll h output t u → HasOwnPlace h output relative → HasFileAt h output relative t its → HasFileAt h output relative u its
kept_file h output relative t u its keeps place f = record {
  there = kept_there h output relative t u keeps place f.there;
  its_are = keeps.bytes (place_of h (below output relative)) f.there.file.found place.no_part f.there.file.is ∙ f.its_are;
  leads = f.leads;
}

pub is_open_at : {I O : Type 0} (h : Host I O) (output relative : List ℕ) (t : Tree) (its : List ℕ) → HasFileAt h output relative t its → IsOpen h output relative t
is_open_at h output relative t its f = inr (f.there.file.found, f.there.file.is)

pub still_told : {I O : Type 0} (h : Host I O) (task : Task) (output : List ℕ) (t u : Tree) (v : Visit) (d : Done) → KeepsAll h output t u
    → ((mode : ℕ) (bytes out : List ℕ) (uids : Uids) → IsInstanceOf h task output t v mode bytes out uids → IsFree h output (instance_name uids) t → IsFree h output (instance_name uids) u) → IsToldAs h task output t v d → IsToldAs h task output u v d
still_told h task output t u v d keeps frees (told_as_no_file not is) = told_as_no_file not is
still_told h task output t u v d keeps frees (told_as_index mode of_file index is) = told_as_index mode of_file index is
still_told h task output t u v d keeps frees (told_as_unnamed bytes fate x ends is) =
    told_as_unnamed bytes fate (record { mode = x.mode; of_file = x.of_file; no_index = x.no_index; input = bytes_kept h output t u v bytes keeps x.input; parts = x.parts }) ends is
still_told h task output t u v d keeps frees (told_as_free mode bytes out uids x free fate_is named) =
    let now : IsFree h output (instance_name uids) u = frees mode bytes out uids x free in
    told_as_free mode bytes out uids (kept_instance h task output t u v mode bytes out uids keeps (inl now) x) now fate_is named
still_told h task output t u v d keeps frees (told_as_there mode bytes out uids x f fits fate_is named) =
    let now : HasFileAt h output (instance_name uids) u out = kept_file h output (instance_name uids) t u out keeps x.own f in
    told_as_there mode bytes out uids (kept_instance h task output t u v mode bytes out uids keeps (is_open_at h output (instance_name uids) u out now) x) now fits fate_is named
still_told h task output t u v d keeps frees (told_as_taken mode bytes out its uids x f differ fate_is named) =
    let now : HasFileAt h output (instance_name uids) u its = kept_file h output (instance_name uids) t u its keeps x.own f in
    told_as_taken mode bytes out its uids (kept_instance h task output t u v mode bytes out uids keeps (is_open_at h output (instance_name uids) u its now) x) now differ fate_is named

-- a name that has an output
has_output_not : {I O : Type 0} (h : Host I O) (task : Task) (output : List ℕ) (first t : Tree) (v : Visit) (mode : ℕ) (bytes out : List ℕ) (uids : Uids) → KeepsAll h output first t → IsInstanceOf h task output t v mode bytes out uids → HasNoOutput h task output first v → ⊥
has_output_not h task output first t v mode bytes out uids since x (none_of_no_file not) = not mode x.of_file
has_output_not h task output first t v mode bytes out uids since x (none_of_index index) = true_false (is_media_index v.named.relative) index x.no_index
has_output_not h task output first t v mode bytes out uids since x (none_of_unnamed other has none) =
    none out uids (subst (λ (b : List ℕ). NamesInstance task b out uids) (same_bytes h output t v bytes other x.input (bytes_kept h output first t v other since has)) x.named)

module _ {I O F E : Type 0} (h : Host I O) (r : Reader I) (w : Writer O) (e : Writer E) (all : GivesAll h (as_whole h r) w) (k : Manner) (number : ℕ) (part_is : k.part ≡ below k.output (part_name number)) (keeps_is : k.keeps_names ≡ false) (first : Tree) (before : FileSystem) (x : Visit) (mode : ℕ) (bytes out : List ℕ) (uids : Uids)
    (named : IsInstanceOf h k.task k.output before.now x mode bytes out uids) (n : Named) (what : What) (from : E) (done : Done) (to : E) (after : FileSystem) (none : before.written ≡ None) (since : KeepsAll h k.output first before.now) (does : DoesName (working {F = F} h r w e) k n what from before (Ok done) to after) where
  free_without : HasNoOutput h k.task k.output first (visit_of n what) → IsFree h k.output (instance_name uids) before.now → IsFree h k.output (instance_name uids) after.now
  free_without (none_of_no_file not) free = subst (λ (s : FileSystem). IsFree h k.output (instance_name uids) s.now) (sym (unchanged {F = F} h r w e k n what from before (Ok done) to after not does)) free
  free_without (none_of_index index) free = subst (λ (s : FileSystem). IsFree h k.output (instance_name uids) s.now) (sym (index_same {F = F} h r w e k n what from before (Ok done) to after index does)) free
  free_without (none_of_unnamed other has no_name) free =
      by_bytes {F = F} h r w e all k number part_is keeps_is before.now x mode bytes out uids named n what other from before done to after (is_media_index n.relative) refl none (bytes_kept h k.output first before.now (visit_of n what) other since has) does
      (λ ends touched here. free_unnamed h k number part_is other uids named.own before after done no_name ends touched here) free

  pub free_after : AreAsideAs h k.task k.output first x (visit_of n what) → IsFree h k.output (instance_name uids) before.now → IsFree h k.output (instance_name uids) after.now
  free_after (one_has_none no_output) free = absurd (has_output_not h k.task k.output first before.now x mode bytes out uids since named no_output)
  free_after (other_has_none no_output) free = free_without no_output free
  free_after (both_aside_as own_bytes own_out own_uids others its who has names has_other names_other a b) free =
      let same : own_uids ≡ uids = (names_once k.task bytes own_out out own_uids uids
      (subst (λ (z : List ℕ). NamesInstance k.task z own_out own_uids) (same_bytes h k.output before.now x own_bytes bytes (bytes_kept h k.output first before.now x own_bytes since has) named.input) names) named.named).1 in
      by_bytes {F = F} h r w e all k number part_is keeps_is before.now x mode bytes out uids named n what others from before done to after (is_media_index n.relative) refl none (bytes_kept h k.output first before.now (visit_of n what) others since has_other) does
      (λ ends touched here. free_aside h k number part_is others uids named.own before after done its who names_other
      (subst (λ (u : Uids). IsAside h k.output (instance_name u) (instance_name who)) same a) (subst (λ (u : Uids). IsAside h k.output (instance_name who) (instance_name u)) same b) ends touched here) free

-- ---- the runs

-- by the task and the folder of a run
abbrev Stays : {I O : Type 0} → Host I O → (first : Tree) (x v : Visit) (d : Done) (before after : FileSystem) (its : Task) (output : List ℕ) → Type 0
Stays h first x v d before after its output = KeepsAll h output first before.now → AreAsideAs h its output first x v → IsToldAs h its output before.now x d → IsToldAs h its output after.now x d

module _ {I O F E : Type 0} (h : Host I O) (r : Reader I) (w : Writer O) (e : Writer E) (tells : TellsAll h w) (task : Task) (folder : List ℕ) (first : Tree) where
  pub rows_of : (k : Manner) (number : ℕ) → k.part ≡ below k.output (part_name number) → k.keeps_names ≡ false → k.output ≡ folder → k.task ≡ task → (n : Named) (what : What) (d : Done) (from : E) (before : FileSystem) (done : Done) (to : E) (after : FileSystem) → before.written ≡ None
      → IsToldAs h task folder before.now (visit_of n what) d → DoesName (working {F = F} h r w e) k n what from before (Ok done) to after → SameRow n done d
  rows_of k number part_is keeps_is output_is task_is n what d from before done to after none is does =
      told_row {F = F} h r w e (whole_gives h r w tells) k number part_is keeps_is n what d from before done to after none
      (subst (λ (o : List ℕ). IsToldAs h k.task o before.now (visit_of n what) d) (sym output_is) (subst (λ (t : Task). IsToldAs h t folder before.now (visit_of n what) d) (sym task_is) is)) does

  stays_told : (k : Manner) (number : ℕ) → k.part ≡ below k.output (part_name number) → k.keeps_names ≡ false → k.output ≡ folder → k.task ≡ task → (x : Visit) (d : Done) (n : Named) (what : What) (from : E) (before : FileSystem) (done : Done) (to : E) (after : FileSystem) → before.written ≡ None
      → DoesName (working {F = F} h r w e) k n what from before (Ok done) to after → Stays h first x (visit_of n what) d before after task folder
  stays_told k number part_is keeps_is output_is task_is x d n what from before done to after none does =
      subst (λ (o : List ℕ). Stays h first x (visit_of n what) d before after task o) output_is (subst (λ (t : Task). Stays h first x (visit_of n what) d before after t k.output) task_is
      (λ since aside is. still_told h k.task k.output before.now after.now x d (name_keeps {F = F} h r w e k number part_is n what from before (Ok done) to after none does)
      (λ mode bytes out uids named free. free_after {F = F} h r w e (whole_gives h r w tells) k number part_is keeps_is first before x mode bytes out uids named n what from done to after none since does aside free) is))

  telling : Telling F h r w e false task folder first (λ continues. Unit {0}) (λ t v d. IsToldAs h task folder t v d) (λ x v. AreAsideAs h task folder first x v)
  telling = record {
    swap = λ x v aside. swapped h task folder first x v aside;
    rows = λ k number part_is keeps_is output_is task_is goes n what d from before done to after none is does. rows_of k number part_is keeps_is output_is task_is n what d from before done to after none is does;
    stays = λ k number part_is keeps_is output_is task_is x d n what from before done to after none since aside does is. stays_told k number part_is keeps_is output_is task_is x d n what from before done to after none does since aside is;
  }

-- each of them goes on or does not
pub any_run : {I O F W E : Type 0} (h : Host I O) (r : Reader I) (w : Writer O) (m : Writer W) (e : Writer E) (keeps : Bool) (task : Task) (folder : List ℕ) (AreSo : List Visit → Type 0) (count : ℕ) (first : Tree) (numbers : List ℕ) (after : Tree) (runs : Runs F h r w m e keeps task folder AreSo count first numbers after)
    → EachRun F h r w m e keeps task folder AreSo count first (λ number start left one. Unit {0}) numbers after runs
any_run h r w m e keeps task folder AreSo count first numbers after (no_run none is) = tt
any_run h r w m e keeps task folder AreSo count first numbers after (and_run earlier number mid runs one more) = (any_run h r w m e keeps task folder AreSo count first earlier mid runs, tt)

pub rows_are_told_as : {I O F W E : Type 0} (r : Reader I) (w : Writer O) (m : Writer W) (e : Writer E) → RowsAreToldAs F r w m e
rows_are_told_as {I} {O} {F} r w m e h task folder first visits became count numbers after tells each all once runs =
    rows_told {F = F} h r w m e false task folder first (λ continues. Unit {0}) (λ t v d. IsToldAs h task folder t v d) (λ x v. AreAsideAs h task folder first x v) (telling {F = F} h r w e tells task folder first) became visits count each all numbers after once runs
    (any_run {F = F} h r w m e false task folder (λ names. names ≡ visits) count first numbers after runs)
