-- Where a reading that goes up to the patient comes to the end, no element of the outermost data set is PatientID.
use Rattle.std.proofs.Common.{◌≡◌, ◌∙◌, ap, subst, refl, ℕ, zero, suc, ◌+◌, ◌≤◌, List, [], ◌∷◌, ◌++◌, length, Option, Some, None, Bool, true, false, cond, drop, arith, map}
use Rattle.std.specs.Prelude.{fold, nat_lt, not, ◌==◌, if◌then◌else◌}
use Rattle.dcm_base.specs.declared.tag.Tag.{Tag}
use Rattle.dcm_base.specs.declared.vr.Vr.{Vr}
use Rattle.dcm_base.specs.declared.syntax.Syntax.{Syntax}
use Rattle.dcm_base.specs.declared.fault.Fault.{Fault}
use Rattle.dcm_base.specs.declared.fault.Fault.TheVariants.{IdentityStays, NoPatientId, NotAscending}
use Rattle.dcm_base.specs.declared.length.Length.{Length}
use Rattle.dcm_base.specs.declared.form.Form.{Form}
use Rattle.dcm_base.specs.declared.form.Form.TheVariants.{Value as a_value, Sequence as sequence_form, FragmentList as fragment_form, Nothing as no_form}
use Rattle.dcm_base.specs.declared.level.Container.{Container}
use Rattle.dcm_base.specs.declared.level.Level.{Level}
use Rattle.dcm_base.specs.declared.level.Container.TheVariants.{DataSet as the_data_set, Item as an_item, Sequence as a_sequence, FragmentList as a_fragment_list}
use Rattle.dcm_base.specs.Tables.Number.{number}
use Rattle.dcm_base.specs.Tables.Tag.{below, is_above, is_item, same_tag}
use Rattle.dcm_base.specs.Tables.Transfer.{without_pads}
use Rattle.dcm_base.specs.Tree.Tree.{Trees, no_tree, leaf, sequence, fragments, Items, no_item, item}
use Rattle.dcm_base.specs.Tree.Value.{order}
use Rattle.dcm_base.specs.Bytes.Head.{tag_at, vr_at, length_at, long_length}
use Rattle.dcm_base.specs.Bytes.Spelling.{after, form, inside, last_tag, read_as}
use Rattle.dcm_base.specs.Reading.Bars.{PATIENT_ID, holds_identity, innermost_reached, items_open, patient_bar, patient_fault, reaches_patient}
use Rattle.dcm_base.specs.Reading.Stop.{Stop, complete, refused, HeadBar, innermost_stop, is_undecided}
use Rattle.dcm_base.specs.Reading.Reads.{INPUT_LIMIT, Reads}
use Rattle.dcm_base.specs.Steps.Atoms.{Atom, opens, value_byte, closes_leaf, opens_item, closes_item, closes_sequence, opens_fragment, ends, fragments_then, front_atoms, items_then, trees_then}
use Rattle.dcm_base.proofs.DataSets.OneAnswer.{reads_once}
use Rattle.dcm_base.proofs.Dictionaries.TagOrder.{below_other_way}
use Rattle.dcm_cli.proofs.Passes.PatientBar.{never}
use Rattle.dcm_stream.specs.Ascending.{reached_after, innermost}
use Rattle.dcm_stream.specs.Follows.{BarsAs}
use Rattle.dcm_stream.specs.Reading.{Reading, start_of, Opened, closing, size_of, ends_at, closes, element_opens, item_opens, plain_opens, head_opens, full_closed, settled, head_read, byte_read, read_byte, reads_byte, read_all, without_value, value_left, sign_reads, finish, end_shows}
use Rattle.dcm_stream.proofs.Steps.Ascending.{ascending_bars, front_items}
use Rattle.dcm_stream.proofs.Steps.Follows.{answers}
use Rattle.dcm_sinks.proofs.ReadBack.Accepted.{Accepted, AllAccepted, byte_accepted}
use Rattle.dcm_deid.specs.Saying.{read_whole}
use Rattle.dcm_deid.specs.Uids.{unpadded}
use Rattle.dcm_editor.proofs.ReadBack.Rises.{NoHead, NoHeads, OneHead, byte_one}

-- ---- heads that pass the bar in the state before them

-- what is barred up to the patient, by the tags reached in the open data sets
abbrev barred_by : List (Option Tag) → Tag → Option Fault
barred_by [] tag = None
barred_by (r ∷ outer) tag = if is_above tag r then patient_fault (length outer) tag else Some NotAscending

abbrev PassesAt : List (Option Tag) → Atom → Type 0
PassesAt st (opens tag vr declared s) = barred_by st tag ≡ None
PassesAt st (value_byte b) = Unit {0}
PassesAt st closes_leaf = Unit {0}
PassesAt st (opens_item declared) = Unit {0}
PassesAt st closes_item = Unit {0}
PassesAt st closes_sequence = Unit {0}
PassesAt st (opens_fragment size) = Unit {0}
PassesAt st ends = Unit {0}

abbrev AllPass : List (Option Tag) → List Atom → Type 0
AllPass st [] = Unit {0}
AllPass st (a ∷ atoms) = PassesAt st a × AllPass (reached_after st a) atoms

pass_both : (st : List (Option Tag)) (xs ys : List Atom) → AllPass st xs → AllPass (fold reached_after st xs) ys → AllPass st (xs ++ ys)
pass_both st [] ys h k = k
pass_both st (x ∷ xs) ys h k = (h.0, pass_both (reached_after st x) xs ys h.1 k)

none_passes : (st : List (Option Tag)) (a : Atom) → NoHead a → PassesAt st a
none_passes st (opens tag vr declared s) h = absurd cc
none_passes st (value_byte b) h = tt
none_passes st closes_leaf h = tt
none_passes st (opens_item declared) h = tt
none_passes st closes_item h = tt
none_passes st closes_sequence h = tt
none_passes st (opens_fragment size) h = tt
none_passes st ends h = tt

none_pass : (st : List (Option Tag)) (atoms : List Atom) → NoHeads atoms → AllPass st atoms
none_pass st [] h = tt
none_pass st (a ∷ atoms) h = (none_passes st a h.0, none_pass (reached_after st a) atoms h.1)

-- ---- all bytes

-- a bar by the tags reached
abbrev pub up_to : List Atom → HeadBar
up_to atoms tag vr declared = barred_by (fold reached_after (None ∷ []) atoms) tag

accepted_passes : (before : List Atom) (a : Atom) → Accepted (up_to before) a → PassesAt (fold reached_after (None ∷ []) before) a
accepted_passes before (opens tag vr declared s) h = h.1
accepted_passes before (value_byte b) h = tt
accepted_passes before closes_leaf h = tt
accepted_passes before (opens_item declared) h = tt
accepted_passes before closes_item h = tt
accepted_passes before closes_sequence h = tt
accepted_passes before (opens_fragment size) h = tt
accepted_passes before ends h = tt

one_passes : (before atoms : List Atom) → AllAccepted (up_to before) atoms → OneHead atoms → AllPass (fold reached_after (None ∷ []) before) atoms
one_passes before [] h o = tt
one_passes before (a ∷ atoms) h o = (accepted_passes before a h.0, none_pass _ atoms o)

byte_passes : (before : List Atom) (r : Reading) (b : ℕ) → AllPass (fold reached_after (None ∷ []) before) (read_byte (up_to before) r b).1
unfolding read_byte
byte_passes before r b =
    one_passes before (read_byte (up_to before) r b).1
    (byte_accepted (up_to before) r b r.halt (nat_lt (r.position + length r.head) INPUT_LIMIT) r.left)
    (byte_one (up_to before) r b r.halt (nat_lt (r.position + length r.head) INPUT_LIMIT) r.left)

bytes_pass : (bytes : List ℕ) (r : Reading) (atoms : List Atom) → AllPass (None ∷ []) atoms → AllPass (None ∷ []) (fold (reads_byte up_to) (r, atoms) bytes).1
bytes_pass [] r atoms h = h
bytes_pass (b ∷ bytes) r atoms h =
    let q = read_byte (up_to atoms) r b in
    bytes_pass bytes q.0 (atoms ++ q.1) (pass_both (None ∷ []) atoms q.1 h (byte_passes atoms r b))

machine_passes : (s : Syntax) (start : ℕ) (bytes : List ℕ) → AllPass (None ∷ []) (read_all up_to s start bytes).1
machine_passes s start bytes = bytes_pass bytes (start_of s start) [] tt

-- ---- it is the bar of the definitions

same_test : (a b : Bool) → cond {A = Option Fault} a None (Some NotAscending) ≡ cond b None (Some NotAscending) → a ≡ b
same_test true true e = refl
same_test true false e = absurd (cc)
same_test false true e = absurd (cc)
same_test false false e = refl

by_stack : (st : List (Option Tag)) (n : ℕ) (tag : Tag) (b : Bool) → length st ≡ suc n → is_above tag (innermost st) ≡ b → barred_by st tag ≡ cond b (patient_fault n tag) (Some NotAscending)
by_stack [] n tag b e is = absurd (omega (arith, e))
by_stack (r ∷ outer) n tag b e is =
    ap (λ (c : Bool). cond c (patient_fault (length outer) tag) (Some NotAscending)) is
    ∙ ap (λ (m : ℕ). cond b (patient_fault m tag) (Some NotAscending)) (omega (arith, e))

up_to_bars : BarsAs up_to patient_bar
up_to_bars = record {
  agree = λ f atoms shows tag vr declared.
      (let items = front_items f atoms [] shows in
      by_stack (fold reached_after (None ∷ []) atoms) (items_open f) tag (is_above tag (innermost_reached f)) (omega (arith, items))
      (same_test (is_above tag (innermost (fold reached_after (None ∷ []) atoms))) (is_above tag (innermost_reached f)) (ascending_bars.agree f atoms shows tag vr declared)));
  never_early = λ f tag vr declared. never (is_above tag (innermost_reached f)) (holds_identity tag) (reaches_patient (items_open f) tag);
}

-- ---- the elements of the outermost data set

bytes_behind : (r : Option Tag) (st : List (Option Tag)) (v : List ℕ) (others : List Atom) → AllPass (r ∷ st) (map value_byte v ++ others) → AllPass (r ∷ st) others
bytes_behind r st [] others h = h
bytes_behind r st (b ∷ v) others h = bytes_behind r st v others h.1

fragments_behind : (r : Option Tag) (st : List (Option Tag)) (values : List (List ℕ)) (others : List Atom) → AllPass (r ∷ st) (fragments_then values others) → AllPass (r ∷ st) others
unfolding fragments_then
fragments_behind r st [] others h = h
fragments_behind r st (v ∷ values) others h = fragments_behind r st values others (bytes_behind r st v (closes_leaf ∷ fragments_then values others) h.1).1

mutual
  unfolding trees_then last_tag

  trees_behind : (s : Syntax) (x : Trees) (others : List Atom) (r : Option Tag) (st : List (Option Tag)) → AllPass (r ∷ st) (trees_then s x others) → AllPass (last_tag r x ∷ st) others
  trees_behind s no_tree others r st h = h
  trees_behind s (leaf tag vr value rest) others r st h =
      trees_behind (after s tag vr value) rest others (Some tag) st (bytes_behind (Some tag) st (order s vr value) (closes_leaf ∷ trees_then (after s tag vr value) rest others) h.1).1
  trees_behind s (sequence tag vr declared items rest) others r st h =
      trees_behind s rest others (Some tag) st (items_behind (inside s vr) items (closes_sequence ∷ trees_then s rest others) (Some tag) st h.1).1
  trees_behind s (fragments tag vr values rest) others r st h =
      trees_behind s rest others (Some tag) st (fragments_behind (Some tag) st values (closes_sequence ∷ trees_then s rest others) h.1).1

  items_behind : (s : Syntax) (x : Items) (others : List Atom) (r : Option Tag) (st : List (Option Tag)) → AllPass (r ∷ st) (items_then s x others) → AllPass (r ∷ st) others
  items_behind s no_item others r st h = h
  items_behind s (item declared set rest) others r st h =
      items_behind s rest others r st (trees_behind s set (closes_item ∷ items_then s rest others) None (r ∷ st) h.1).1

below_by : (a h b : Bool) → cond {A = Option Fault} a (cond h (Some IdentityStays) (cond (not b) (Some NoPatientId) None)) (Some NotAscending) ≡ None → b ≡ true
below_by true true b e = absurd (cc)
below_by true false true e = refl
below_by true false false e = absurd (cc)
below_by false h b e = absurd (cc)

other_tag : (r : Option Tag) (tag : Tag) → barred_by (r ∷ []) tag ≡ None → same_tag tag PATIENT_ID ≡ false
other_tag r tag e = below_other_way tag PATIENT_ID (below_by (is_above tag r) (holds_identity tag) (below tag PATIENT_ID) e)

-- none of them is PatientID
none_named : (s : Syntax) (x : Trees) (others : List Atom) (r : Option Tag) → AllPass (r ∷ []) (trees_then s x others) → unpadded PATIENT_ID x ≡ None
unfolding trees_then
none_named s no_tree others r h = refl
none_named s (leaf tag vr value rest) others r h =
    ap (λ (c : Bool). if c then Some (without_pads value) else unpadded PATIENT_ID rest) (other_tag r tag h.0)
    ∙ none_named (after s tag vr value) rest others (Some tag) (bytes_behind (Some tag) [] (order s vr value) (closes_leaf ∷ trees_then (after s tag vr value) rest others) h.1).1
none_named s (sequence tag vr declared items rest) others r h =
    none_named s rest others (Some tag) (items_behind (inside s vr) items (closes_sequence ∷ trees_then s rest others) (Some tag) [] h.1).1
none_named s (fragments tag vr values rest) others r h =
    none_named s rest others (Some tag) (fragments_behind (Some tag) [] values (closes_sequence ∷ trees_then s rest others) h.1).1

end_passes : (st : List (Option Tag)) (stop : Stop) → AllPass st (end_shows stop)
end_passes st complete = (tt, tt)
end_passes st (refused fault offset) = tt

pub nobody_reached : (s : Syntax) (start : ℕ) (bytes : List ℕ) (reached : Option Tag) (x : Trees) → start ≤ INPUT_LIMIT → Reads patient_bar s start bytes (read_whole reached x) complete → unpadded PATIENT_ID x ≡ None
unfolding front_atoms
nobody_reached s start bytes reached x le reads =
    let all = read_all up_to s start bytes in
    let a = answers up_to patient_bar up_to_bars s start bytes le in
    let shown : all.1 ++ end_shows (finish all.0) ≡ front_atoms s (read_whole reached x) = a.shown ∙ ap (front_atoms s) (reads_once patient_bar s start bytes a.f (read_whole reached x) (finish all.0) complete a.reads reads).0 in
    let passes : AllPass (None ∷ []) (front_atoms s (read_whole reached x)) = subst (AllPass (None ∷ [])) shown (pass_both (None ∷ []) all.1 (end_shows (finish all.0)) (machine_passes s start bytes) (end_passes _ (finish all.0))) in
    none_named s x (ends ∷ []) None passes
