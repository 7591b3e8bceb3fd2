-- What the extract reads of an explicit data set that says of itself what it holds, each dictionary reads.
use Rattle.std.proofs.Common.{◌≡◌, ◌∙◌, ap, sym, refl, subst, ℕ, ◌≤◌, List, [], ◌∷◌, Bool, true, false, None, Option, Some, cond, inl, inr, ◌⊎◌}
use Rattle.std.specs.Prelude.{fold, if◌then◌else◌}
use Rattle.dcm_conversion_laws.proofs.Kept.{explicit_by}
use Rattle.dcm_lemmas.proofs.Options.{none_or_some}
use Rattle.dcm_base.specs.declared.dictionary.Dictionary.{Dictionary}
use Rattle.dcm_base.specs.declared.fault.Fault.{Fault}
use Rattle.dcm_base.specs.declared.fault.Fault.TheVariants.{FragmentsBarred, NotAscending, TooDeep}
use Rattle.dcm_base.specs.declared.length.Length.{Length}
use Rattle.dcm_base.specs.declared.length.Length.TheVariants.{Known, Undefined}
use Rattle.dcm_base.specs.declared.syntax.Syntax.{Syntax}
use Rattle.dcm_base.specs.declared.syntax.Syntax.TheVariants.{Implicit as implicit_in, Little as little_in, Big as big_in}
use Rattle.dcm_base.specs.declared.tag.Tag.{Tag}
use Rattle.dcm_base.specs.declared.vr.Vr.TheVariants.{UN}
use Rattle.dcm_base.specs.Bytes.Spelling.{form}
use Rattle.dcm_base.specs.Conversion.Recode.{is_explicit}
use Rattle.dcm_base.specs.Reading.Bars.{ascending_bar, is_above, is_fragment_form, target_bar}
use Rattle.dcm_base.specs.Reading.Reads.{INPUT_LIMIT, Reads, ended}
use Rattle.dcm_base.specs.Reading.Stop.{Bar, HeadBar, Stop, complete, is_early, refused}
use Rattle.dcm_base.specs.Steps.Atoms.{Atom, Shows, front_atoms, opens, value_byte, closes_leaf, opens_item, closes_item, closes_sequence, opens_fragment, ends}
use Rattle.dcm_base.specs.Tables.Syntax.{Little, read_by}
use Rattle.dcm_base.specs.Tree.Front.{Front, front}
use Rattle.dcm_base.proofs.DataSets.Alike.{Alike, alike_self, read_by_dictionary}
use Rattle.dcm_base.proofs.DataSets.OneAnswer.{reads_once}
use Rattle.dcm_base_laws.proofs.DataSets.OneShown.{front_one}
use Rattle.dcm_base.proofs.DataSets.Shown.{front_shown}
use Rattle.dcm_sinks.proofs.ReadBack.RecodeReads.{never_early, same_heads}
use Rattle.dcm_stream.proofs.Steps.ReadsSome.{never as not_early}
use Rattle.dcm_stream.specs.Ascending.{ascending, innermost, reached_after}
use Rattle.dcm_stream.specs.Follows.{BarsAs}
use Rattle.dcm_stream.specs.Reading.{Reading, finish, read_all, start_of, stop_at_end}
use Rattle.dcm_stream.proofs.Heads.Stops.{NeverEarly}
use Rattle.dcm_stream.proofs.Steps.Follows.{answers}
use Rattle.dcm_sinks.proofs.ReadBack.IsRead.{far_atoms, not_closed}
use Rattle.dcm_sinks.proofs.ReadBack.WrittenRead.{target_heads}
use Rattle.dcm_editor.proofs.ReadBack.Rises.{in_order}
use Rattle.dcm_conversion_laws.specs.Agree.{FrontSays, StopsSo}
use Rattle.dcm_conversion_laws.proofs.Machines.{BarsBoth, Comes, Decided, bytes_come, finish_plain}
use Rattle.dcm_conversion_laws.proofs.Plain.{plain, plain_twice}
use Rattle.dcm_conversion_laws.proofs.Shown.{AllAlike, front_plain, front_says, plain_atom, plain_atoms}
use Rattle.dcm_conversion_laws.proofs.Stops.{BarsLate}

-- ---- a reading by a machine

-- bars that the atoms tell, whatever the dictionary; of an unknown head they have late faults alone
pub record TellsBars (Late : Fault → Type 0) (bars : List Atom → HeadBar) (bar : Bar) : Type 0 where
  pub same : BarsAs bars bar
  pub never_early : (atoms : List Atom) → NeverEarly (bars atoms)
  pub both : BarsBoth bars
  pub late : (atoms : List Atom) → BarsLate Late (bars atoms)
  pub decided : Decided Late

unended_says : (e : Dictionary) (stop : Stop) (f : Front) → FrontSays e (ended stop f) → FrontSays e f
unfolding FrontSays
unended_says e complete (front whole last reached closed) h = h
unended_says e (refused fault offset) f h = h

module _ (Late : Fault → Type 0) (bars : List Atom → HeadBar) (bar : Bar) (k : TellsBars Late bars bar) (start : ℕ) (bytes : List ℕ) (le : start ≤ INPUT_LIMIT) where
  -- how the machine comes to a reading
  record IsSo (s : Syntax) (f : Front) (stop : Stop) : Type 0 where
    reached : Front
    is : f ≡ ended stop reached
    stops : finish (read_all bars s start bytes).0 ≡ stop
    shown : Shows reached (read_all bars s start bytes).1

  is_so : (s : Syntax) (f : Front) (stop : Stop) → Reads bar s start bytes f stop → IsSo s f stop
  is_so s f stop (reached, why, first, said, is) =
      let reads : Reads bar s start bytes f stop = (reached, why, first, said, is) in
      let a = answers bars bar k.same s start bytes le in
      let atoms : (read_all bars s start bytes).1 ≡ front_atoms s reached =
      far_atoms bars bar k.same k.never_early s start bytes le reached stop (not_closed s reached first.read first.spelled) (subst (λ (x : Front). Reads bar s start bytes x stop) is reads) in
      record {
        reached = reached;
        is = is;
        stops = (reads_once bar s start bytes a.f f (finish (read_all bars s start bytes).0) stop a.reads reads).1;
        shown = subst (Shows reached) (sym atoms) (front_shown s reached first.read first.spelled);
      }

  module _ (e : Dictionary) (s : Syntax) (f : Front) (stop : Stop) (explicit : is_explicit s ≡ true) (reads : Reads bar (plain s) start bytes f stop) (says : FrontSays e f) where
    abbrev other : Syntax
    other = read_by e s

    abbrev first_read : Reading × List Atom
    first_read = read_all bars (plain s) start bytes

    abbrev other_read : Reading × List Atom
    other_read = read_all bars other start bytes

    first_so : IsSo (plain s) f stop
    first_so = is_so (plain s) f stop reads

    begins : Comes Late e (start_of (plain s) start, []) (start_of other start, [])
    begins = inl (record {
      reading_is = ap (λ (x : Syntax). start_of x start) (plain_twice e s);
      known = (explicit_by e s ∙ explicit, subst (λ (d : Dictionary). Alike d e) (sym (read_by_dictionary e s)) (alike_self e), tt);
      atoms_are = refl;
      alike = tt;
    })

    comes : Comes Late e first_read other_read
    comes =
        let h = first_so in
        bytes_come Late k.decided e bars k.both k.late (start_of (plain s) start, []) (start_of other start, []) bytes begins
        (front_says e h.reached first_read.1 h.shown (unended_says e stop h.reached (subst (FrontSays e) h.is says)))

    -- with the other's stop it has read as much
    other_reads : (stop' : Stop) → first_read.1 ≡ plain_atoms other_read.1 → AllAlike other_read.1 → finish other_read.0 ≡ stop' → ((reached : Front) → ended stop' reached ≡ ended stop reached) → Reads bar other start bytes f stop'
    other_reads stop' are alike stops ended_so =
        let h = first_so in
        let a = answers bars bar k.same other start bytes le in
        let own : Reads bar other start bytes a.f stop' = subst (Reads bar other start bytes a.f) stops a.reads in
        let g = is_so other a.f stop' own in
        let one : g.reached ≡ h.reached = front_one g.reached h.reached first_read.1 (subst (Shows g.reached) (sym are) (front_plain g.reached other_read.1 g.shown alike)) h.shown in
        subst (λ (x : Front). Reads bar other start bytes x stop') (g.is ∙ ap (ended stop') one ∙ ended_so h.reached ∙ sym h.is) own

    halted_stop : (r : Reading) (x : Stop) → r.halt ≡ Some x → finish r ≡ x
    unfolding finish
    halted_stop r x is = ap (λ (h : Option Stop). stop_at_end h r) is

    pub record Apart : Type 0 where
      pub fault : Fault
      pub offset : ℕ
      pub late : Late fault
      pub stop_is : stop ≡ refused fault offset
      pub reads_deep : Reads bar other start bytes f (refused TooDeep offset)

    by_comes : Comes Late e first_read other_read → Reads bar other start bytes f stop ⊎ Apart
    by_comes (inl h) = inl (other_reads stop h.atoms_are h.alike (sym (finish_plain other_read.0) ∙ sym (ap finish h.reading_is) ∙ first_so.stops) (λ reached. refl))
    by_comes (inr h) =
        let stop_is : stop ≡ refused h.fault h.offset = sym first_so.stops ∙ halted_stop first_read.0 (refused h.fault h.offset) h.first_halts in
        inr (record {
          fault = h.fault;
          offset = h.offset;
          late = h.late;
          stop_is = stop_is;
          reads_deep = other_reads (refused TooDeep h.offset) h.atoms_are h.alike (halted_stop other_read.0 (refused TooDeep h.offset) h.other_halts) (λ reached. ap (λ (x : Stop). ended x reached) (sym stop_is));
        })

    pub reads_other : Reads bar other start bytes f stop ⊎ Apart
    reads_other = by_comes comes

-- ---- the bars of a conversion

heads_late : (target : Syntax) → NeverEarly (target_heads target)
heads_late (little_in d) tag vr declared = refl
heads_late (implicit_in d) tag vr declared = not_early (is_fragment_form (form Little vr declared))
heads_late (big_in d) tag vr declared = not_early (is_fragment_form (form Little vr declared))

unknown_form : (declared : Length) → is_fragment_form (form Little UN declared) ≡ false
unfolding form
unknown_form (Known n) = refl
unknown_form Undefined = refl

lets_unknown : (target : Syntax) (tag : Tag) (declared : Length) → target_heads target tag UN declared ≡ None
lets_unknown (little_in d) tag declared = refl
lets_unknown (implicit_in d) tag declared = ap (λ (c : Bool). cond c (Some FragmentsBarred) None) (unknown_form declared)
lets_unknown (big_in d) tag declared = ap (λ (c : Bool). cond c (Some FragmentsBarred) None) (unknown_form declared)

-- no fault is late
abbrev Never : Fault → Type 0
Never fault = ⊥

target_bars : (target : Syntax) → TellsBars Never (λ atoms. target_heads target) (target_bar target)
target_bars target = record {
  same = record { agree = λ f atoms w tag vr declared. same_heads target f tag vr declared; never_early = never_early target };
  never_early = λ atoms. heads_late target;
  both = λ atoms. refl;
  late = λ atoms tag declared fault is. none_or_some (target_heads target tag UN declared) fault (lets_unknown target tag declared) is;
  decided = λ fault never. absurd never;
}

pub readings_agree : (e : Dictionary) (target s : Syntax) (start : ℕ) (bytes : List ℕ) (f : Front) (stop : Stop) → start ≤ INPUT_LIMIT → is_explicit s ≡ true → Reads (target_bar target) (plain s) start bytes f stop → FrontSays e f
    → Reads (target_bar target) (read_by e s) start bytes f stop
readings_agree e target s start bytes f stop le explicit reads says =
    elim (reads_other Never (λ atoms. target_heads target) (target_bar target) (target_bars target) start bytes le e s f stop explicit reads says) [
      | inl h ↦ h
      | inr h ↦ absurd h.late
    ]

-- ---- the bar on tags that do not ascend

reached_atom : (st : List (Option Tag)) (a : Atom) → reached_after st (plain_atom a) ≡ reached_after st a
reached_atom [] a = refl
reached_atom (r ∷ outer) (opens tag vr declared s) = refl
reached_atom (r ∷ outer) (value_byte b) = refl
reached_atom (r ∷ outer) closes_leaf = refl
reached_atom (r ∷ outer) (opens_item declared) = refl
reached_atom (r ∷ outer) closes_item = refl
reached_atom (r ∷ outer) closes_sequence = refl
reached_atom (r ∷ outer) (opens_fragment size) = refl
reached_atom (r ∷ outer) ends = refl

reached_plain : (st : List (Option Tag)) (atoms : List Atom) → fold reached_after st (plain_atoms atoms) ≡ fold reached_after st atoms
reached_plain st [] = refl
reached_plain st (a ∷ atoms) = ap (λ (x : List (Option Tag)). fold reached_after x (plain_atoms atoms)) (reached_atom st a) ∙ reached_plain (reached_after st a) atoms

abbrev by_reached : List (Option Tag) → HeadBar
by_reached st tag vr declared = if is_above tag (innermost st) then None else Some NotAscending

abbrev Disorder : Fault → Type 0
Disorder fault = fault ≡ NotAscending

order_late : (c : Bool) (fault : Fault) → cond c None (Some NotAscending) ≡ Some fault → fault ≡ NotAscending
order_late true fault is = absurd (cc)
order_late false fault is = cc

order_bars : TellsBars Disorder ascending ascending_bar
order_bars = record {
  same = in_order.same;
  never_early = in_order.late;
  both = λ atoms. ap by_reached (reached_plain (None ∷ []) atoms);
  late = λ atoms tag declared fault is. order_late (is_above tag (innermost (fold reached_after (None ∷ []) atoms))) fault is;
  decided = λ fault is. ap is_early is;
}

pub ascending_agree : (e : Dictionary) (s : Syntax) (start : ℕ) (bytes : List ℕ) (f : Front) (stop : Stop) → start ≤ INPUT_LIMIT → is_explicit s ≡ true → Reads ascending_bar (plain s) start bytes f stop → FrontSays e f
    → (other : Stop) × Reads ascending_bar (read_by e s) start bytes f other × StopsSo stop other
ascending_agree e s start bytes f stop le explicit reads says =
    elim (reads_other Disorder ascending ascending_bar order_bars start bytes le e s f stop explicit reads says) [
      | inl h ↦ (stop, h, inl refl)
      | inr h ↦ (refused TooDeep h.offset, h.reads_deep, inr (h.offset, h.stop_is ∙ ap (λ (x : Fault). refused x h.offset) h.late, refl))
    ]
