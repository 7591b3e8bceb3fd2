-- The output of an instance, before and after each name of a walk is done.
use Rattle.std.proofs.Common.{◌≡◌, ◌∙◌, refl, sym, ap, subst, inl, inr, ◌⊎◌, ℕ, List, Bool, true, false, Option, Some, None, Ok}
use Rattle.std.specs.Prelude.{◌≢◌}
use Rattle.std.specs.Str.{IsUtf8}
use Rattle.arrayvec.specs.ArrayVec.{ArrayVec}
use Rattle.dcm_lemmas.proofs.Options.{one_value, one_value as same_vec}
use Rattle.dcm_lemmas.proofs.Truth.{true_false}
use Rattle.dcm_devices.specs.Writing.{Writer}
use Rattle.dcm_files.specs.declared.folders.Found.{Found}
use Rattle.dcm_files.specs.declared.folders.FoundKind.TheVariants as kinds
use Rattle.dcm_files.specs.declared.folders.Links.TheVariants.{Followed}
use Rattle.dcm_instance.specs.Uids.{Uids, instance_name}
use Rattle.dcm_walk.specs.Names.{below}
use Rattle.dcm_walk.specs.Visits.{Named}
use Rattle.dcm_walk.specs.declared.visitor.What.{What}
use Rattle.dcm_walk.specs.declared.visitor.What.TheVariants.{File}
use Rattle.dcm_cli.specs.Calls.{Reader}
use Rattle.dcm_trees.specs.declared.file.Done.{Done}
use Rattle.dcm_trees.specs.Fate.{is_written}
use Rattle.dcm_trees.specs.File as files
use Rattle.dcm_trees.specs.File.{DoesName, is_media_index}
use Rattle.dcm_trees.specs.Manner.{Manner}
use Rattle.dcm_trees.specs.Run.{part_name}
use Rattle.dcm_trees.specs.Task.{Task}
use Rattle.dcm_trees.specs.Work.{name_in}
use Rattle.dcm_tree_laws.specs.Determined.{as_whole, working}
use Rattle.dcm_tree_laws.specs.FileSystem.{FileSystem, Tree, Host, number_of, place_of, at_path}
use Rattle.dcm_tree_laws.specs.Rows.{Visit}
use Rattle.dcm_tree_laws.specs.Together.{IsNoPart, IsFree, IsAside, HasBytes, HasOwnPlace, HasPlainParts, NamesInstance, IsInstanceOf, NamesBeside, not_file, not_done, not_named, same_named, other_named}
use Rattle.dcm_tree_laws.proofs.Ends.{end_is_answer}
use Rattle.dcm_tree_laws.proofs.Fates.{Frees}
use Rattle.dcm_tree_laws.proofs.FatesAs.{EndsNamed, nameless, by_instance, ends_named, names_once}
use Rattle.dcm_tree_laws.proofs.Frees.{KeepsAll, bytes_kept, free_stays, IsMade, Stepped}
use Rattle.dcm_tree_laws.proofs.Held.{GivesAll}
use Rattle.dcm_tree_laws.proofs.RowsBy.{visit_of}
use Rattle.dcm_tree_laws.proofs.SharesBy.{one_output}
use Rattle.dcm_tree_laws.proofs.Stages.{of_output, idle_at, over_does, unchanged, index_same, name_keeps, own, apart, written_out}
use Rattle.dcm_tree_laws.proofs.Touched.{Touches}
use Rattle.dcm_tree_laws.proofs.TouchedAs.{TouchesAs, part_alone, at_instance, name_touches_as}

-- ---- the output of an instance

-- it is there, of this mode, with these bytes
pub record IsWrittenAs {I O : Type 0} (h : Host I O) (output relative : List ℕ) (mode : ℕ) (out : List ℕ) (t : Tree) : Type 0 where
  pub file : Found
  pub is : at_path h t (below output relative) ≡ Some file
  pub kind : file.kind ≡ kinds.File
  pub mode_is : file.mode ≡ h.masked mode
  pub bytes_are : t.bytes (number_of file) ≡ out

abbrev pub StageAs : {I O : Type 0} → Host I O → (output relative : List ℕ) → (mode : ℕ) → (out : List ℕ) → Tree → Type 0
StageAs h output relative mode out t = IsFree h output relative t ⊎ IsWrittenAs h output relative mode out t

pub beside_as_kept : {I O : Type 0} (h : Host I O) (task : Task) (output : List ℕ) (mode : ℕ) (out : List ℕ) (uids : Uids) (t u : Tree) → KeepsAll h output t u → (v : Visit) → NamesBeside h task output mode out uids t v → NamesBeside h task output mode out uids u v
beside_as_kept h task output mode out uids t u keeps v (not_file not) = not_file not
beside_as_kept h task output mode out uids t u keeps v (not_done index) = not_done index
beside_as_kept h task output mode out uids t u keeps v (not_named bytes has none) = not_named bytes (bytes_kept h output t u v bytes keeps has) none
beside_as_kept h task output mode out uids t u keeps v (same_named bytes other is index has names same) = same_named bytes other is index (bytes_kept h output t u v bytes keeps has) names same
beside_as_kept h task output mode out uids t u keeps v (other_named bytes its other has names a b) = other_named bytes its other (bytes_kept h output t u v bytes keeps has) names a b

pub same_bytes : {I O : Type 0} (h : Host I O) (output : List ℕ) (t : Tree) (v : Visit) (a b : List ℕ) → HasBytes h output t v a → HasBytes h output t v b → a ≡ b
same_bytes h output t v a b x y = sym x.bytes_are ∙ ap (λ (f : Found). t.bytes (number_of f)) (one_value (t.at (h.leads Followed v.named.path)) x.file.file y.file.file x.file.is y.file.is) ∙ y.bytes_are

none_some : {A : Type 0} (o : Option (ArrayVec ℕ)) (a : ArrayVec ℕ) → o ≡ None → o ≡ Some a → A
none_some o a e f = absurd (cc)

module _ {I O : Type 0} (h : Host I O) (output relative : List ℕ) (mode : ℕ) (out : List ℕ) (no_part : IsNoPart h output (place_of h (below output relative))) (t u : Tree) (keeps : KeepsAll h output t u) where
  written_kept : IsWrittenAs h output relative mode out t → IsWrittenAs h output relative mode out u
  written_kept x = record {
    file = x.file;
    is = keeps.there (place_of h (below output relative)) x.file no_part x.is;
    kind = x.kind;
    mode_is = x.mode_is;
    bytes_are = keeps.bytes (place_of h (below output relative)) x.file no_part x.is ∙ x.bytes_are;
  }

  stage_by : (IsFree h output relative t → IsFree h output relative u) → StageAs h output relative mode out t → StageAs h output relative mode out u
  stage_by frees (inl free) = inl (frees free)
  stage_by frees (inr x) = inr (written_kept x)

  aside_as : (x v : Visit) → v ≢ x → (IsFree h output relative t → IsFree h output relative u) → Stepped (StageAs h output relative mode out) (IsWrittenAs h output relative mode out) x v (Unit {0}) t u
  aside_as x v other frees = record { stage = stage_by frees; keeps = written_kept; came = λ is it s. absurd (other is) }

  done_by : (IsFree h output relative t → IsWrittenAs h output relative mode out u) → StageAs h output relative mode out t → IsWrittenAs h output relative mode out u
  done_by writes (inl free) = writes free
  done_by writes (inr x) = written_kept x

  itself_as : (x v : Visit) → (IsFree h output relative t → IsWrittenAs h output relative mode out u) → Stepped (StageAs h output relative mode out) (IsWrittenAs h output relative mode out) x v (Unit {0}) t u
  itself_as x v writes = record { stage = λ s. inr (done_by writes s); keeps = written_kept; came = λ is it s. done_by writes s }

-- ---- the instance in a file

module _ {I O : Type 0} (h : Host I O) (k : Manner) (bytes : List ℕ) (before : FileSystem) (done : Done) where
  pub no_instance : (relative : ArrayVec ℕ) → ((its : List ℕ) (other : Uids) → NamesInstance k.task bytes its other → ⊥) → done.instance ≡ Some relative → EndsNamed h k bytes before.now done → ⊥
  no_instance relative none is (nameless not free) = none_some done.instance relative not is
  no_instance relative none is (by_instance other its who it names items written) = none its who names

  -- its output is named by that instance
  pub named_as : (relative : ArrayVec ℕ) (its : List ℕ) (other : Uids) → NamesInstance k.task bytes its other → done.instance ≡ Some relative → EndsNamed h k bytes before.now done → relative.items ≡ instance_name other
  named_as relative its other names is (nameless not free) = none_some done.instance relative not is
  named_as relative its other names is (by_instance vec out who it found items written) =
      ap (λ (a : ArrayVec ℕ). a.items) (same_vec done.instance relative vec is it) ∙ items ∙ ap instance_name (names_once k.task bytes out its who other found names).1

-- ---- what a file leaves of another one's

module _ {I O : Type 0} (h : Host I O) (k : Manner) (number : ℕ) (part_is : k.part ≡ below k.output (part_name number)) (bytes : List ℕ) (uids : Uids) (place : HasOwnPlace h k.output (instance_name uids)) (before after : FileSystem) (done : Done) where
  by_part : ((relative : List ℕ) → Touches h k.part k.output relative ⊥ before.now after.now) → IsFree h k.output (instance_name uids) before.now → IsFree h k.output (instance_name uids) after.now
  by_part touches free = free_stays h k.part k.output (instance_name uids) (instance_name uids) ⊥ (own h k.part k.output number part_is (instance_name uids) place ⊥ (λ it. it)) before.now after.now (touches (instance_name uids)) free

  pub free_unnamed : ((its : List ℕ) (other : Uids) → NamesInstance k.task bytes its other → ⊥) → EndsNamed h k bytes before.now done → TouchesAs h k done before after → IsFree h k.output (instance_name uids) before.now → IsFree h k.output (instance_name uids) after.now
  free_unnamed none ends (part_alone is touches) free = by_part touches free
  free_unnamed none ends (at_instance relative is touches) free = absurd (no_instance h k bytes before done relative none is ends)

  pub free_aside : (its : List ℕ) (other : Uids) → NamesInstance k.task bytes its other → IsAside h k.output (instance_name uids) (instance_name other) → IsAside h k.output (instance_name other) (instance_name uids) → EndsNamed h k bytes before.now done → TouchesAs h k done before after
      → IsFree h k.output (instance_name uids) before.now → IsFree h k.output (instance_name uids) after.now
  free_aside its other names a b ends (part_alone is touches) free = by_part touches free
  free_aside its other names a b ends (at_instance relative is touches) free =
      free_stays h k.part k.output (instance_name uids) (instance_name other) (is_written done.fate ≡ true) (apart h k.part k.output number part_is (instance_name uids) place (instance_name other) (is_written done.fate ≡ true) a b) before.now after.now
      (subst (λ (p : List ℕ). Touches h k.part k.output p (is_written done.fate ≡ true) before.now after.now) (named_as h k bytes before done relative its other names is ends) touches) free

  -- it is written where it is free
  is_written_as : (its : List ℕ) (other : Uids) → NamesInstance k.task bytes its other → instance_name other ≡ instance_name uids → EndsNamed h k bytes before.now done → IsFree h k.output (instance_name uids) before.now
      → (relative : ArrayVec ℕ) × (done.instance ≡ Some relative) × (relative.items ≡ instance_name uids) × (is_written done.fate ≡ true)
  is_written_as its other names same (nameless not none) free = absurd (none its other names (subst (λ (p : List ℕ). IsFree h k.output p before.now) (sym same) free))
  is_written_as its other names same (by_instance vec out who it found items written) free =
      let name : instance_name who ≡ instance_name uids = ap instance_name (names_once k.task bytes out its who other found names).1 ∙ same in
      (vec, it, items ∙ name, written (subst (λ (p : List ℕ). IsFree h k.output p before.now) (sym name) free) (subst (Frees h k) (sym name) (own h k.part k.output number part_is (instance_name uids) place ⊥ (λ none. none))))

-- ---- the file itself

module _ {I O : Type 0} (h : Host I O) (task : Task) (output : List ℕ) (first : Tree) (x : Visit) (mode : ℕ) (file_bytes out : List ℕ) (uids : Uids) (named : IsInstanceOf h task output first x mode file_bytes out uids) (n : Named) (what : What) (is : visit_of n what ≡ x) where
  what_of : what ≡ File mode
  what_of = ap (λ (v : Visit). v.what) is ∙ named.of_file

  index_of : is_media_index n.relative ≡ false
  index_of = ap (λ (v : Visit). is_media_index v.named.relative) is ∙ named.no_index

  -- its bytes are one
  its_bytes : (bytes : List ℕ) (t : Tree) → KeepsAll h output first t → HasBytes h output t (visit_of n what) bytes → bytes ≡ file_bytes
  its_bytes bytes t since has = same_bytes h output t x bytes file_bytes (subst (λ (v : Visit). HasBytes h output t v bytes) is has) (bytes_kept h output first t x file_bytes since named.input)

-- ---- a name

module _ {I O F E : Type 0} (h : Host I O) (r : Reader I) (w : Writer O) (e : Writer E) (k : Manner) (number : ℕ) (part_is : k.part ≡ below k.output (part_name number)) (not_kept : k.keeps_names ≡ false) where
  pub touches_as : (n : Named) (what : What) (from : E) (before : FileSystem) (done : Done) (to : E) (after : FileSystem) → before.written ≡ None → DoesName (working {F = F} h r w e) k n what from before (Ok done) to after → TouchesAs h k done before after
  touches_as n what from before done to after none does =
      name_touches_as {F = F} h (as_whole h r) w e k n what from before (Ok done) to after done not_kept (idle_at h r w k number part_is before none) (over_does {F = F} h r w e k n what from before (Ok done) to after does) refl

  pub ends_as : GivesAll h (as_whole h r) w → HasPlainParts h k.output → (n : Named) (bytes : List ℕ) (mode_of : ℕ) (from : E) (before : FileSystem) (done : Done) (to : E) (after : FileSystem) → is_media_index n.relative ≡ false → before.written ≡ None → HasBytes h k.output before.now (visit_of n (File mode_of)) bytes
      → DoesName (working {F = F} h r w e) k n (File mode_of) from before (Ok done) to after → EndsNamed h k bytes before.now done
  ends_as all plain n bytes mode_of from before done to after no_index none has does =
      ends_named {F = F} h r w e all k (subst IsUtf8 (sym part_is) (plain.text number)) (of_output h r w k number part_is) (ap (h.leads Followed) part_is ∙ plain.leads number ∙ ap (place_of h) (sym part_is)) n bytes mode_of from before done to after not_kept no_index none has.text
      (record { file = has.file; bytes_are = has.bytes_are }) does

module _ {I O F E : Type 0} (h : Host I O) (r : Reader I) (w : Writer O) (e : Writer E) (all : GivesAll h (as_whole h r) w) (k : Manner) (number : ℕ) (part_is : k.part ≡ below k.output (part_name number)) (not_kept : k.keeps_names ≡ false) (first : Tree) (x : Visit) (mode : ℕ) (file_bytes out : List ℕ) (uids : Uids)
    (named : IsInstanceOf h k.task k.output first x mode file_bytes out uids) where
  written_now : (n : Named) (bytes : List ℕ) (other : Uids) (from : E) (before : FileSystem) (done : Done) (to : E) (after : FileSystem) → before.written ≡ None → is_media_index n.relative ≡ false → HasBytes h k.output before.now (visit_of n (File mode)) bytes → NamesInstance k.task bytes out other
      → instance_name other ≡ instance_name uids → DoesName (working {F = F} h r w e) k n (File mode) from before (Ok done) to after → IsFree h k.output (instance_name uids) before.now → IsWrittenAs h k.output (instance_name uids) mode out after.now
  written_now n bytes other from before done to after none no_index has names same does free =
      let it = is_written_as h k number part_is bytes uids named.own before after done out other names same (ends_as {F = F} h r w e k number part_is not_kept all named.parts n bytes mode from before done to after no_index none has does) free in
      let made : IsMade h k.task k.output (name_in n.relative done.instance) mode bytes after.now = written_out {F = F} h r w e k number part_is all n mode bytes from before done to after none has does it.3 in
      let here : IsMade h k.task k.output (instance_name uids) mode bytes after.now = subst (λ (p : List ℕ). IsMade h k.task k.output p mode bytes after.now) (ap (name_in n.relative) it.1 ∙ it.2) made in
      record {
        file = here.file;
        is = here.is;
        kind = here.kind;
        mode_is = here.mode_is;
        bytes_are = one_output k.task bytes (after.now.bytes (number_of here.file)) out here.answered (end_is_answer k.task bytes out names.verdict names.comes);
      }

  -- a file that is not its own, and is done by its bytes
  pub by_bytes : (n : Named) (what : What) (bytes : List ℕ) (from : E) (before : FileSystem) (done : Done) (to : E) (after : FileSystem) (b : Bool) → is_media_index n.relative ≡ b → before.written ≡ None → HasBytes h k.output before.now (visit_of n what) bytes
      → DoesName (working {F = F} h r w e) k n what from before (Ok done) to after → (EndsNamed h k bytes before.now done → TouchesAs h k done before after → IsFree h k.output (instance_name uids) before.now → IsFree h k.output (instance_name uids) after.now)
      → IsFree h k.output (instance_name uids) before.now → IsFree h k.output (instance_name uids) after.now
  by_bytes n what bytes from before done to after true index none has does frees free = subst (λ (s : FileSystem). IsFree h k.output (instance_name uids) s.now) (sym (index_same {F = F} h r w e k n what from before (Ok done) to after index does)) free
  by_bytes n what bytes from before done to after false index none has (files.no_file other told it same) frees free = subst (λ (s : FileSystem). IsFree h k.output (instance_name uids) s.now) (sym same) free
  by_bytes n what bytes from before done to after false index none has (files.a_file c is does) frees free =
      frees (ends_as {F = F} h r w e k number part_is not_kept all named.parts n bytes c from before done to after index none (subst (λ (y : What). HasBytes h k.output before.now (visit_of n y) bytes) is has) (files.a_file c refl does)) (touches_as {F = F} h r w e k number part_is not_kept n what from before done to after none (files.a_file c is does)) free

  pub step_as : (n : Named) (what : What) (from : E) (before : FileSystem) (done : Done) (to : E) (after : FileSystem) → before.written ≡ None → KeepsAll h k.output first before.now → NamesBeside h k.task k.output mode out uids before.now (visit_of n what)
      → DoesName (working {F = F} h r w e) k n what from before (Ok done) to after → Stepped (StageAs h k.output (instance_name uids) mode out) (IsWrittenAs h k.output (instance_name uids) mode out) x (visit_of n what) (Unit {0}) before.now after.now
  step_as n what from before done to after none since (not_file not) does =
      aside_as h k.output (instance_name uids) mode out named.own.no_part before.now after.now (name_keeps {F = F} h r w e k number part_is n what from before (Ok done) to after none does) x (visit_of n what) (λ is. not mode (what_of h k.task k.output first x mode file_bytes out uids named n what is))
      (λ free. subst (λ (s : FileSystem). IsFree h k.output (instance_name uids) s.now) (sym (unchanged {F = F} h r w e k n what from before (Ok done) to after not does)) free)
  step_as n what from before done to after none since (not_done index) does =
      aside_as h k.output (instance_name uids) mode out named.own.no_part before.now after.now (name_keeps {F = F} h r w e k number part_is n what from before (Ok done) to after none does) x (visit_of n what) (λ is. true_false (is_media_index n.relative) index (index_of h k.task k.output first x mode file_bytes out uids named n what is))
      (λ free. subst (λ (s : FileSystem). IsFree h k.output (instance_name uids) s.now) (sym (index_same {F = F} h r w e k n what from before (Ok done) to after index does)) free)
  step_as n what from before done to after none since (not_named bytes has other) does =
      aside_as h k.output (instance_name uids) mode out named.own.no_part before.now after.now (name_keeps {F = F} h r w e k number part_is n what from before (Ok done) to after none does) x (visit_of n what)
      (λ is. other out uids (subst (λ (b : List ℕ). NamesInstance k.task b out uids) (sym (its_bytes h k.task k.output first x mode file_bytes out uids named n what is bytes before.now since has)) named.named))
      (λ free. by_bytes n what bytes from before done to after (is_media_index n.relative) refl none has does (λ ends touched here. free_unnamed h k number part_is bytes uids named.own before after done other ends touched here) free)
  step_as n what from before done to after none since (other_named bytes its other has names a b) does =
      aside_as h k.output (instance_name uids) mode out named.own.no_part before.now after.now (name_keeps {F = F} h r w e k number part_is n what from before (Ok done) to after none does) x (visit_of n what)
      (λ is. a.place (ap (λ (u : Uids). place_of h (below k.output (instance_name u))) (names_once k.task file_bytes out its uids other named.named (subst (λ (z : List ℕ). NamesInstance k.task z its other) (its_bytes h k.task k.output first x mode file_bytes out uids named n what is bytes before.now since has) names)).1))
      (λ free. by_bytes n what bytes from before done to after (is_media_index n.relative) refl none has does (λ ends touched here. free_aside h k number part_is bytes uids named.own before after done its other names a b ends touched here) free)
  step_as n what from before done to after none since (same_named bytes other is index has names same) does =
      itself_as h k.output (instance_name uids) mode out named.own.no_part before.now after.now (name_keeps {F = F} h r w e k number part_is n what from before (Ok done) to after none does) x (visit_of n what)
      (λ free. written_now n bytes other from before done to after none index (subst (λ (y : What). HasBytes h k.output before.now (visit_of n y) bytes) is has) names same (subst (λ (y : What). DoesName (working {F = F} h r w e) k n y from before (Ok done) to after) is does) free)
