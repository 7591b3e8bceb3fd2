-- The rows of runs that name outputs by instances, some of which come to one output, are told by the names before.
use Rattle.std.proofs.Common.{◌≡◌, ◌∙◌, refl, sym, ap, subst, inl, inr, ℕ, ◌≤◌, List, length, [], ◌∷◌, Bool, true, false, Option, Some, None, Ok}
use Rattle.std.specs.Prelude.{◌&&◌, ◌||◌}
use Rattle.dcm_lemmas.proofs.Truth.{true_false}
use Rattle.dcm_base.specs.Reading.Reads.{INPUT_LIMIT}
use Rattle.dcm_devices.specs.Writing.{Writer}
use Rattle.dcm_files.specs.declared.folders.Found.{Found}
use Rattle.dcm_files.specs.declared.folders.Links.TheVariants.{Followed}
use Rattle.dcm_instance.specs.Uids.{Uids, instance_name}
use Rattle.dcm_walk.specs.Names.{below}
use Rattle.dcm_walk.specs.Visits.{Named}
use Rattle.dcm_walk.specs.declared.visitor.What.{What}
use Rattle.dcm_cli.specs.Calls.{Reader}
use Rattle.dcm_trees.specs.declared.fate.Fate.{Fate}
use Rattle.dcm_trees.specs.declared.fate.Fate.TheVariants as fates
use Rattle.dcm_trees.specs.declared.file.Done.{Done}
use Rattle.dcm_trees.specs.Fate.{is_written, fate_of}
use Rattle.dcm_trees.specs.File.{DoesName, is_media_index}
use Rattle.dcm_trees.specs.Manner.{Manner}
use Rattle.dcm_trees.specs.Run.{part_name}
use Rattle.dcm_trees.specs.Task.{Task}
use Rattle.dcm_tree_laws.specs.Again.{OfAll}
use Rattle.dcm_tree_laws.specs.Behind.{is_met, met, met_if, behind, AreOneAs, AreBesideAs, EachBesideAs, RowsAreToldBehindAs}
use Rattle.dcm_tree_laws.specs.Copies.{IsNamedBy, EndsUnnamed, no_days, not_done, no_instance}
use Rattle.dcm_tree_laws.specs.Determined.{ComesTo, working}
use Rattle.dcm_tree_laws.specs.FileSystem.{FileSystem, Tree, Host, number_of, place_of, at_path}
use Rattle.dcm_tree_laws.specs.Rows.{Visit}
use Rattle.dcm_tree_laws.specs.Single.{TellsAll}
use Rattle.dcm_tree_laws.specs.Together.{IsFree, HasBytes, NamesInstance, IsInstanceOf, Has}
use Rattle.dcm_tree_laws.specs.ToldAs.{HasFileAt, IsToldAs, told_as_no_file, told_as_index, told_as_unnamed, told_as_free, told_as_there, told_as_taken, AreAsideAs}
use Rattle.dcm_tree_laws.proofs.CopyMade.{CopyMade, copy_made}
use Rattle.dcm_tree_laws.proofs.EndsAs.{PlacedAs}
use Rattle.dcm_tree_laws.proofs.FatesAs.{names_once}
use Rattle.dcm_tree_laws.proofs.Following.{Following, rows_follow}
use Rattle.dcm_tree_laws.proofs.Frees.{KeepsAll, keeps_itself, bytes_kept}
use Rattle.dcm_tree_laws.proofs.MadeBy.{made_there}
use Rattle.dcm_tree_laws.proofs.RowsBy.{visit_of}
use Rattle.dcm_tree_laws.proofs.Stages.{of_output, unchanged, index_same, name_keeps}
use Rattle.dcm_tree_laws.proofs.StagesAs.{same_bytes}
use Rattle.dcm_tree_laws.proofs.ToldAsBy.{swapped, placed, frees_own, rows_of, kept_instance, kept_file, is_open_at, still_told, free_after, any_run}
use Rattle.dcm_tree_laws.proofs.UnnamedLeft.{no_name}
use Rattle.dcm_tree_laws.proofs.Working.{whole_gives}
use Rattle.dcm_tree_laws.proofs.Written.{what_not, instance_not, not_written as no_output}

some_none : {A : Type 0} (o : Option Found) (f : Found) → o ≡ Some f → o ≡ None → A
some_none o f is none = absurd (cc)

pub of_all : (Is : Visit → Type 0) (x : Visit) (visits : List Visit) → Has x visits → OfAll Is visits → Is x
of_all Is x [] has all = absurd has
of_all Is x (v ∷ visits) (inl is) all = subst Is is all.0
of_all Is x (v ∷ visits) (inr has) all = of_all Is x visits has all.1

-- ---- fates

unnamed_not : (task : Task) (bytes : List ℕ) (fate : Fate) → EndsUnnamed task bytes fate → is_written fate ≡ false
unnamed_not task bytes fate (no_days stop none is) = ap is_written is
unnamed_not task bytes fate (not_done output verdict comes not is) = ap is_written is ∙ not
unnamed_not task bytes fate (no_instance output verdict cause comes done names is) = ap is_written is ∙ instance_not cause

met_instance : (b : Bool) (d : Done) → (met_if b d).instance ≡ d.instance
met_instance true d = refl
met_instance false d = refl

met_named : (b : Bool) (d : Done) (uids : Uids) → IsNamedBy uids (met_if b d) → IsNamedBy uids (met d)
met_named b d uids named = record { relative = named.relative; instance_is = sym (met_instance b d) ∙ named.instance_is; relative_is = named.relative_is }

there_not : {A : Type 0} → fates.There ≡ fates.Taken → A
there_not e = absurd (cc)

met_taken : (b : Bool) (d : Done) → (met_if b d).fate ≡ fates.Taken → d.fate ≡ fates.Taken
met_taken true d is = there_not is
met_taken false d is = is

-- ---- one instance

module _ {I O : Type 0} (h : Host I O) (task : Task) (folder : List ℕ) (first : Tree) (one other : Visit) (x : AreOneAs h task folder first one other) where
  -- of the first of them
  names_one : (mode : ℕ) (bytes out : List ℕ) (uids : Uids) → IsInstanceOf h task folder first one mode bytes out uids → x.uids ≡ uids
  names_one mode bytes out uids named =
      (names_once task x.bytes x.out out x.uids uids x.names (subst (λ (b : List ℕ). NamesInstance task b out uids) (same_bytes h folder first one bytes x.bytes named.input x.has) named.named)).1

  -- and of the other, also later
  names_other : (t : Tree) → KeepsAll h folder first t → (mode : ℕ) (bytes out : List ℕ) (uids : Uids) → IsInstanceOf h task folder t other mode bytes out uids → (x.out ≡ out) × (x.uids ≡ uids)
  names_other t since mode bytes out uids named =
      names_once task x.others x.out out x.uids uids x.names_other (subst (λ (b : List ℕ). NamesInstance task b out uids) (same_bytes h folder t other bytes x.others named.input (bytes_kept h folder first t other x.others since x.has_other)) named.named)

  -- neither ends without a name
  one_named : {A : Type 0} (bytes : List ℕ) (fate : Fate) → HasBytes h folder first one bytes → EndsUnnamed task bytes fate → A
  one_named bytes fate has ends =
      no_name task x.bytes x.out x.names.verdict fate x.uids (subst (λ (b : List ℕ). EndsUnnamed task b fate) (same_bytes h folder first one bytes x.bytes has x.has) ends) x.names.comes x.names.written x.names.names

  other_named : {A : Type 0} (t : Tree) → KeepsAll h folder first t → (bytes : List ℕ) (fate : Fate) → HasBytes h folder t other bytes → EndsUnnamed task bytes fate → A
  other_named t since bytes fate has ends =
      no_name task x.others x.out x.names_other.verdict fate x.uids (subst (λ (b : List ℕ). EndsUnnamed task b fate) (same_bytes h folder t other bytes x.others has (bytes_kept h folder first t other x.others since x.has_other)) ends) x.names_other.comes x.names_other.written x.names_other.names

  -- a file is not at the place of what is free
  free_not : {A : Type 0} (its : List ℕ) (uids who : Uids) → x.uids ≡ uids → x.uids ≡ who → HasFileAt h folder (instance_name uids) first its → IsFree h folder (instance_name who) first → A
  free_not its uids who a b f free =
      some_none (at_path h first (below folder (instance_name uids))) f.there.file.found f.there.file.is (ap (λ (u : Uids). at_path h first (below folder (instance_name u))) (sym a ∙ b) ∙ free.nothing)

-- ---- a name behind another one

module _ {I O F E : Type 0} (h : Host I O) (r : Reader I) (w : Writer O) (e : Writer E) (tells : TellsAll h w) (k : Manner) (number : ℕ) (part_is : k.part ≡ below k.output (part_name number)) (keeps_is : k.keeps_names ≡ false) (first : Tree) (others : Bool) (x : Visit) (n : Named) (what : What) (dv dx : Done) (from : E) (before : FileSystem) (done : Done) (to : E) (after : FileSystem)
    (none : before.written ≡ None) (since : KeepsAll h k.output first before.now) (told_v : IsToldAs h k.task k.output first (visit_of n what) dv) (told_x : IsToldAs h k.task k.output first x dx) (does : DoesName (working {F = F} h r w e) k n what from before (Ok done) to after) where
  keeps_now : KeepsAll h k.output before.now after.now
  keeps_now = name_keeps {F = F} h r w e k number part_is n what from before (Ok done) to after none does

  -- apart
  apart_stays : (d : Done) → AreAsideAs h k.task k.output first (visit_of n what) x → IsToldAs h k.task k.output before.now x d → IsToldAs h k.task k.output after.now x d
  apart_stays d aside is =
      still_told h k.task k.output before.now after.now x d keeps_now
      (λ mode bytes out uids named free. free_after {F = F} h r w e (whole_gives h r w tells) k number part_is keeps_is first before x mode bytes out uids named n what from done to after none since does (swapped h k.task k.output first (visit_of n what) x aside) free) is

  module _ (both : AreOneAs h k.task k.output first (visit_of n what) x) where
    -- a file was at its output before the first run
    file_before : {A : Type 0} (mode : ℕ) (bytes out : List ℕ) (uids : Uids) (c : ℕ) (its written : List ℕ) (who : Uids) → IsInstanceOf h k.task k.output before.now x mode bytes out uids → IsInstanceOf h k.task k.output first (visit_of n what) c its written who → (there : List ℕ) → HasFileAt h k.output (instance_name who) first there
        → IsFree h k.output (instance_name uids) before.now → A
    file_before mode bytes out uids c its written who named v there f free =
        let same : who ≡ uids = sym (names_one h k.task k.output first (visit_of n what) x both c its written who v) ∙ (names_other h k.task k.output first (visit_of n what) x both before.now since mode bytes out uids named).1 in
        let now : HasFileAt h k.output (instance_name who) before.now there = kept_file h k.output (instance_name who) first before.now there since v.own f in
        some_none (at_path h before.now (below k.output (instance_name who))) now.there.file.found now.there.file.is (ap (λ (u : Uids). at_path h before.now (below k.output (instance_name u))) same ∙ free.nothing)

    -- where the first is not written, and its output is not free
    free_then : (mode : ℕ) (bytes out : List ℕ) (uids : Uids) → IsInstanceOf h k.task k.output before.now x mode bytes out uids → is_written dv.fate ≡ false → IsToldAs h k.task k.output first (visit_of n what) dv
        → IsFree h k.output (instance_name uids) before.now → IsFree h k.output (instance_name uids) after.now
    free_then mode bytes out uids named not (told_as_no_file no_file is) free = subst (λ (s : FileSystem). IsFree h k.output (instance_name uids) s.now) (sym (unchanged {F = F} h r w e k n what from before (Ok done) to after no_file does)) free
    free_then mode bytes out uids named not (told_as_index c of_file index is) free = subst (λ (s : FileSystem). IsFree h k.output (instance_name uids) s.now) (sym (index_same {F = F} h r w e k n what from before (Ok done) to after index does)) free
    free_then mode bytes out uids named not (told_as_unnamed its fate file ends is) free = one_named h k.task k.output first (visit_of n what) x both its fate file.input ends
    free_then mode bytes out uids named not (told_as_free c its written who v free_first fate_is by) free = true_false (is_written dv.fate) (ap is_written fate_is ∙ v.named.written) not
    free_then mode bytes out uids named not (told_as_there c its written who v f fits fate_is by) free = file_before mode bytes out uids c its written who named v written f free
    free_then mode bytes out uids named not (told_as_taken c its written there who v f differ fate_is by) free = file_before mode bytes out uids c its written who named v there f free

    not_written : (d : Done) → is_written dv.fate ≡ false → IsToldAs h k.task k.output before.now x d → IsToldAs h k.task k.output after.now x d
    not_written d not is = still_told h k.task k.output before.now after.now x d keeps_now (λ mode bytes out uids named free. free_then mode bytes out uids named not told_v free) is

    -- where it is written, its output is there behind it
    there_as : (d : Done) (mode : ℕ) (bytes out : List ℕ) (uids : Uids) → (named : IsInstanceOf h k.task k.output before.now x mode bytes out uids) → HasFileAt h k.output (instance_name uids) after.now out → IsNamedBy uids (met_if others d) → IsToldAs h k.task k.output after.now x (met d)
    there_as d mode bytes out uids named f by =
        told_as_there mode bytes out uids (kept_instance h k.task k.output before.now after.now x mode bytes out uids keeps_now (is_open_at h k.output (instance_name uids) after.now out f) named) f
        (subst (λ (l : List ℕ). length l ≤ INPUT_LIMIT) (names_other h k.task k.output first (visit_of n what) x both before.now since mode bytes out uids named).0 both.fits) refl (met_named others d uids by)

    -- the file that was written
    made_file : (mode : ℕ) (bytes out : List ℕ) (uids : Uids) → IsInstanceOf h k.task k.output before.now x mode bytes out uids → (its held : List ℕ) → HasBytes h k.output before.now (visit_of n what) its → held ≡ its → (m : CopyMade h k.task k.part k.output held done after.now) → HasFileAt h k.output (instance_name uids) after.now out
    made_file mode bytes out uids named its held has is m =
        let one : (m.bytes ≡ both.out) × (m.uids ≡ both.uids) = names_once k.task both.bytes m.bytes both.out m.uids both.uids
        (record {
          verdict = m.verdict;
          comes = subst (λ (b : List ℕ). ComesTo k.task b m.bytes m.verdict) (is ∙ same_bytes h k.output before.now (visit_of n what) its both.bytes has (bytes_kept h k.output first before.now (visit_of n what) both.bytes since both.has)) m.comes;
          written = m.done_is;
          names = m.names;
        }) both.names in
        let other : (both.out ≡ out) × (both.uids ≡ uids) = names_other h k.task k.output first (visit_of n what) x both before.now since mode bytes out uids named in
        subst (λ (u : Uids). HasFileAt h k.output (instance_name u) after.now out) (one.1 ∙ other.1)
        (record {
          there = made_there h (λ mode held. held ≡ m.bytes) k.part k.output (instance_name m.uids) after.now m.at;
          its_are = m.at.out.whole ∙ one.0 ∙ other.0;
          leads = subst (λ (u : Uids). h.leads Followed (below k.output (instance_name u)) ≡ place_of h (below k.output (instance_name u))) (sym one.1) both.leads;
        })

    written_by : (mode : ℕ) (bytes out : List ℕ) (uids : Uids) (c : ℕ) (its written : List ℕ) (who : Uids) → IsInstanceOf h k.task k.output before.now x mode bytes out uids → (now : IsInstanceOf h k.task k.output before.now (visit_of n what) c its written who)
        → IsFree h k.output (instance_name who) before.now → HasFileAt h k.output (instance_name uids) after.now out
    written_by mode bytes out uids c its written who named now free =
        let p : PlacedAs h k written who now.named.verdict before.now done = placed {F = F} h r w e (whole_gives h r w tells) k number part_is keeps_is n what c its written who from before done to after none now free.fits does in
        made_file mode bytes out uids named its (before.now.bytes (number_of now.input.file.file)) now.input now.input.bytes_are
        (copy_made {F = F} h r w e k n what from before done to after tells keeps_is none (of_output h r w k number part_is) (ap (h.leads Followed) part_is ∙ now.parts.leads number ∙ ap (place_of h) (sym part_is)) now.input.text now.input.file does
        (ap is_written (p.free free (frees_own h k number part_is who now.own)) ∙ now.named.written))

    written_file : (mode : ℕ) (bytes out : List ℕ) (uids : Uids) (c : ℕ) (its written : List ℕ) (who : Uids) → IsInstanceOf h k.task k.output before.now x mode bytes out uids → IsInstanceOf h k.task k.output first (visit_of n what) c its written who
        → IsFree h k.output (instance_name uids) before.now → HasFileAt h k.output (instance_name uids) after.now out
    written_file mode bytes out uids c its written who named v free =
        let same : who ≡ uids = sym (names_one h k.task k.output first (visit_of n what) x both c its written who v) ∙ (names_other h k.task k.output first (visit_of n what) x both before.now since mode bytes out uids named).1 in
        let free_v : IsFree h k.output (instance_name who) before.now = subst (λ (u : Uids). IsFree h k.output (instance_name u) before.now) (sym same) free in
        written_by mode bytes out uids c its written who named (kept_instance h k.task k.output first before.now (visit_of n what) c its written who since (inl free_v) v) free_v

    -- one that found other bytes there did so before the first run
    never_taken : {A : Type 0} (d : Done) (mode : ℕ) (bytes out : List ℕ) (uids : Uids) (c : ℕ) (its written : List ℕ) (who : Uids) → IsInstanceOf h k.task k.output before.now x mode bytes out uids → IsInstanceOf h k.task k.output first (visit_of n what) c its written who → IsFree h k.output (instance_name who) first
        → d.fate ≡ fates.Taken → IsToldAs h k.task k.output first x d → A
    never_taken d mode bytes out uids c its written who named v free fate (told_as_no_file not is) = absurd (not both.mode both.of_file)
    never_taken d mode bytes out uids c its written who named v free fate (told_as_index a of_file index is) = true_false (is_media_index x.named.relative) index both.no_index
    never_taken d mode bytes out uids c its written who named v free fate (told_as_unnamed a b file ends is) = other_named h k.task k.output first (visit_of n what) x both first (keeps_itself h k.output first) a b file.input ends
    never_taken d mode bytes out uids c its written who named v free fate (told_as_free a b o u y free_x fate_is by) = no_output d.fate fates.Taken fate refl (ap is_written fate_is ∙ y.named.written)
    never_taken d mode bytes out uids c its written who named v free fate (told_as_there a b o u y f fits fate_is by) = there_not (sym fate_is ∙ fate)
    never_taken d mode bytes out uids c its written who named v free fate (told_as_taken a b o found u y f differ fate_is by) =
        free_not h k.task k.output first (visit_of n what) x both found u who (names_other h k.task k.output first (visit_of n what) x both first (keeps_itself h k.output first) a b o u y).1 (names_one h k.task k.output first (visit_of n what) x both c its written who v) f free

    by_free : (c : ℕ) (its written : List ℕ) (who : Uids) → IsInstanceOf h k.task k.output first (visit_of n what) c its written who → IsFree h k.output (instance_name who) first → IsToldAs h k.task k.output before.now x (met_if others dx) → IsToldAs h k.task k.output after.now x (met dx)
    by_free c its written who v free (told_as_no_file not is) = absurd (not both.mode both.of_file)
    by_free c its written who v free (told_as_index a of_file index is) = true_false (is_media_index x.named.relative) index both.no_index
    by_free c its written who v free (told_as_unnamed a b file ends is) = other_named h k.task k.output first (visit_of n what) x both before.now since a b file.input ends
    by_free c its written who v free (told_as_free mode bytes out uids y free_x fate_is by) = there_as dx mode bytes out uids y (written_file mode bytes out uids c its written who y v free_x) by
    by_free c its written who v free (told_as_there mode bytes out uids y f fits fate_is by) = there_as dx mode bytes out uids y (kept_file h k.output (instance_name uids) before.now after.now out keeps_now y.own f) by
    by_free c its written who v free (told_as_taken mode bytes out found uids y f differ fate_is by) = never_taken dx mode bytes out uids c its written who y v free (met_taken others dx fate_is) told_x

    is_there : is_written dv.fate ≡ true → IsToldAs h k.task k.output first (visit_of n what) dv → IsToldAs h k.task k.output before.now x (met_if others dx) → IsToldAs h k.task k.output after.now x (met dx)
    is_there written (told_as_no_file not d) is = no_output dv.fate (fate_of what) (ap (λ (y : Done). y.fate) d) (what_not what) written
    is_there written (told_as_index a of_file index d) is = no_output dv.fate fates.MediaIndex (ap (λ (y : Done). y.fate) d) refl written
    is_there written (told_as_unnamed a b file ends d) is = no_output dv.fate b (ap (λ (y : Done). y.fate) d) (unnamed_not k.task a b ends) written
    is_there written (told_as_free c its out who v free fate_is by) is = by_free c its out who v free is
    is_there written (told_as_there a b o u y f fits fate_is by) is = no_output dv.fate fates.There fate_is refl written
    is_there written (told_as_taken a b o found u y f differ fate_is by) is = no_output dv.fate fates.Taken fate_is refl written

  -- by whether they come to one output, and the first was written
  follows_by : (is_same was : Bool) → AreBesideAs h k.task k.output first is_same (visit_of n what) x → is_written dv.fate ≡ was → IsToldAs h k.task k.output before.now x (met_if others dx) → IsToldAs h k.task k.output after.now x (met_if ((is_same && was) || others) dx)
  follows_by false was aside written is = apart_stays (met_if others dx) aside is
  follows_by true false both written is = not_written both (met_if others dx) written is
  follows_by true true both written is = is_there both written told_v is

-- ---- the runs

-- by the task and the folder of a run
abbrev Follows : {I O : Type 0} → Host I O → (first : Tree) (same : Visit → Visit → Bool) (became : Visit → Done) (others : List Visit) (x v : Visit) (before after : FileSystem) (its : Task) (output : List ℕ) → Type 0
Follows h first same became others x v before after its output = KeepsAll h output first before.now → IsToldAs h its output first v (became v) → IsToldAs h its output first x (became x) → AreBesideAs h its output first (same v x) v x
    → IsToldAs h its output before.now x (behind same became others x) → IsToldAs h its output after.now x (behind same became (v ∷ others) x)

module _ {I O F E : Type 0} (h : Host I O) (r : Reader I) (w : Writer O) (e : Writer E) (tells : TellsAll h w) (task : Task) (folder : List ℕ) (first : Tree) (visits : List Visit) (same : Visit → Visit → Bool) (became : Visit → Done) (each : EachBesideAs h task folder first same visits) (all : OfAll (λ v. IsToldAs h task folder first v (became v)) visits) where
  follows_it : (k : Manner) (number : ℕ) → k.part ≡ below k.output (part_name number) → k.keeps_names ≡ false → k.output ≡ folder → k.task ≡ task → (others : List Visit) (x : Visit) (n : Named) (what : What) (from : E) (before : FileSystem) (done : Done) (to : E) (after : FileSystem) → before.written ≡ None
      → DoesName (working {F = F} h r w e) k n what from before (Ok done) to after → Follows h first same became others x (visit_of n what) before after task folder
  follows_it k number part_is keeps_is output_is task_is others x n what from before done to after none does =
      subst (λ (o : List ℕ). Follows h first same became others x (visit_of n what) before after task o) output_is (subst (λ (t : Task). Follows h first same became others x (visit_of n what) before after t k.output) task_is
      (λ since told_v told_x beside is. follows_by {F = F} h r w e tells k number part_is keeps_is first (is_met same became others x) x n what (became (visit_of n what)) (became x) from before done to after none since told_v told_x does
      (same (visit_of n what) x) (is_written (became (visit_of n what)).fate) beside refl is))

  following : Following F h r w e false task folder first (λ continues. Unit {0}) (λ t v d. IsToldAs h task folder t v d) visits same became
  following = record {
    rows = λ k number part_is keeps_is output_is task_is goes n what d from before done to after none is does. rows_of {F = F} h r w e tells task folder first k number part_is keeps_is output_is task_is n what d from before done to after none is does;
    follows = λ k number part_is keeps_is output_is task_is goes others x n what from before done to after none since has has_x it is does.
        follows_it k number part_is keeps_is output_is task_is others x n what from before done to after none does since (of_all (λ v. IsToldAs h task folder first v (became v)) (visit_of n what) visits has all) (of_all (λ v. IsToldAs h task folder first v (became v)) x visits has_x all)
        (of_all (λ other. AreBesideAs h task folder first (same (visit_of n what) other) (visit_of n what) other) x visits has_x
        (of_all (λ one. OfAll (λ other. AreBesideAs h task folder first (same one other) one other) visits) (visit_of n what) visits has each)) is;
  }

pub rows_are_told_behind_as : {I O F W E : Type 0} (r : Reader I) (w : Writer O) (m : Writer W) (e : Writer E) → RowsAreToldBehindAs F r w m e
rows_are_told_behind_as {I} {O} {F} r w m e h task folder first visits same became count numbers after tells each all runs =
    rows_follow {F = F} h r w m e false task folder first (λ continues. Unit {0}) (λ t v d. IsToldAs h task folder t v d) visits same became (following {F = F} h r w e tells task folder first visits same became each all) count
    (λ x has. of_all (λ v. IsToldAs h task folder first v (became v)) x visits has all) numbers after runs (any_run {F = F} h r w m e false task folder (λ names. names ≡ visits) count first numbers after runs)
