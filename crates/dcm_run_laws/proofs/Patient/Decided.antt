-- How the first reading ends of a file that is read without fault.
use Rattle.std.proofs.Common.{◌≡◌, ◌∙◌, ap, sym, refl, subst, ℕ, ◌≤◌, List, [], ◌∷◌, length, drop, Option, Some, None, Bool, true, false, cond, inl, inr, ◌⊎◌}
use Rattle.std.specs.Prelude.{◌+◌, nat_lt}
use Rattle.std.specs.Option.{option_map_or}
use Rattle.dcm_uid.specs.Pseudonym.{patient_of as named_by}
use Rattle.dcm_base.specs.declared.dictionary.Dictionary.TheVariants.{Standard}
use Rattle.dcm_base.specs.declared.fault.Fault.{Fault}
use Rattle.dcm_base.specs.declared.fault.Fault.TheVariants.{IdentityStays, NoPatientId, NotAscending}
use Rattle.dcm_base.specs.declared.syntax.Coding.{Coding}
use Rattle.dcm_base.specs.declared.syntax.Syntax.{Syntax}
use Rattle.dcm_base.specs.declared.tag.Tag.{Tag}
use Rattle.dcm_base.specs.declared.vr.Vr.TheVariants.{LO}
use Rattle.dcm_base.specs.Bytes.Spelling.{SpellsFront}
use Rattle.dcm_base.specs.File.MetaReads.{Meta}
use Rattle.dcm_base.specs.Lines.Ascending.{FrontAscends}
use Rattle.dcm_base.specs.Reading.Bars.{PATIENT_ID, ascending_bar, holds_identity, identity_bar, identity_fault, innermost_reached, items_open, patient_bar, reaches_patient}
use Rattle.dcm_base.specs.Reading.Reads.{INPUT_LIMIT, Reads, at_the_cut, told as told_stop}
use Rattle.dcm_base.specs.Reading.Stop.{Stop, complete, refused}
use Rattle.dcm_base.specs.Steps.Atoms.{ends, front_atoms, trees_then}
use Rattle.dcm_base.specs.Tables.Syntax.{Little}
use Rattle.dcm_base.specs.Tables.Tag.{is_above}
use Rattle.dcm_base.specs.Tree.Front.{Front}
use Rattle.dcm_base.specs.Tree.Tree.{Trees}
use Rattle.dcm_base.proofs.DataSets.OneAnswer.{reads_once}
use Rattle.dcm_base.proofs.DataSets.Shown.{trees_shown}
use Rattle.dcm_sinks.proofs.ReadBack.IsRead.{IsRead, whole_read}
use Rattle.dcm_editor.proofs.ReadBack.IdentityBar.{identity, identity_in_order}
use Rattle.dcm_editor.proofs.ReadBack.ReadsAscend.{reads_ascend}
use Rattle.dcm_deid.specs.declared.fate.Fate.TheVariants.{Keep}
use Rattle.dcm_deid.specs.declared.patient.Naming.{Naming}
use Rattle.dcm_deid.specs.DeidentifySink.{nothing_held}
use Rattle.dcm_deid.specs.Patient.{PatientState, patient_held}
use Rattle.dcm_deid.specs.Saying.{read_whole, whole_of}
use Rattle.dcm_deid_laws.proofs.NotBarred.{Bars, BarsMore, IsSuch, less_barred, not_barred, same_or_such}
use Rattle.dcm_cli.specs.declared.first.FirstEnd.{FirstEnd}
use Rattle.dcm_cli.specs.Answer.{HeadIs, set_at}
use Rattle.dcm_cli.specs.First.{FirstReads, of_set, fault_at, first_end, naming_end, patient_end, patient_of}
use Rattle.dcm_cli.proofs.Passes.DeidentifyReads.{IsWhole, read_is_whole}
use Rattle.dcm_cli.proofs.Runs.OneFirst.{one_first}
use Rattle.dcm_run_laws.specs.FirstLaws.{FirstReadingDecides, patient_in, place_of}
use Rattle.dcm_deid.proofs.PatientAtoms.{Tells, told}
use Rattle.dcm_run_laws.proofs.Patient.UpTo.{nobody_reached}
use Rattle.dcm_run_laws.proofs.ReadBack.ReadsAgain.{begins_within}

-- ---- the reading that goes up to the patient

-- it is refused where PatientID stands or would stand
abbrev AtPatient : Fault → Type 0
AtPatient fault = fault ≡ NoPatientId

more_by : (a h p : Bool) → Bars AtPatient (cond a (cond h (Some IdentityStays) (cond p (Some NoPatientId) None)) (Some NotAscending)) (cond a (cond h (Some IdentityStays) None) (Some NotAscending))
more_by true true p = inl refl
more_by true false true = inr (NoPatientId, refl, refl)
more_by true false false = inl refl
more_by false h p = inl refl

bars_more : BarsMore AtPatient patient_bar identity_bar
bars_more = λ f tag vr declared. more_by (is_above tag (innermost_reached f)) (holds_identity tag) (reaches_patient (items_open f) tag)

told_as : (offset : ℕ) (c : Bool) → cond c (at_the_cut (refused NoPatientId offset)) (refused NoPatientId offset) ≡ refused NoPatientId offset
told_as offset true = refl
told_as offset false = refl

refused_there : (n : ℕ) (why up_to : Stop) → IsSuch AtPatient why → up_to ≡ told_stop n why → (offset : ℕ) × (up_to ≡ refused NoPatientId offset)
refused_there n why up_to (fault, offset, at_patient, refuses) is =
    (offset, is ∙ ap (told_stop n) (refuses ∙ ap (λ (x : Fault). refused x offset) at_patient) ∙ told_as offset (nat_lt INPUT_LIMIT n))

-- ---- whom the data set names

in_order : (a : Bool) (fault : Option Fault) → cond a fault (Some NotAscending) ≡ None → cond {A = Option Fault} a None (Some NotAscending) ≡ None
in_order true fault e = refl
in_order false fault e = absurd (cc)

whole_told : (s : Syntax) (reached : Option Tag) (x : Trees) → IsRead s (read_whole reached x) → FrontAscends (read_whole reached x) → Tells (patient_of s (read_whole reached x)) (patient_in x)
unfolding front_atoms SpellsFront
whole_told s reached x r a =
    told None x (nothing_held Keep PATIENT_ID LO Little) (trees_then s x (ends ∷ [])) (trees_shown s x r.bytes r.spelled.0 (ends ∷ []) r.spelled.1) r.shallow a.0

by_told : (key : List ℕ) (p : PatientState) (named : List ℕ) (at : ℕ) → Tells p named → naming_end key p.naming (patient_held p.held) None at ≡ patient_end key named at
by_told key p named at (inl (whole, is)) = ap (λ (n : Naming). naming_end key n (patient_held p.held) None at) whole ∙ ap (λ (b : List ℕ). patient_end key b at) is
by_told key p named at (inr (inl nobody, none)) = ap (λ (n : Naming). naming_end key n (patient_held p.held) None at) nobody ∙ sym (ap (λ (b : List ℕ). patient_end key b at) none)
by_told key p named at (inr (inr not_yet, none)) = ap (λ (n : Naming). naming_end key n (patient_held p.held) None at) not_yet ∙ sym (ap (λ (b : List ℕ). patient_end key b at) none)

-- ---- the end

module _ (key bytes : List ℕ) (m : Meta) (group : List ℕ) (coding : Coding) (f before : Front) (up_to : Stop) (head : HeadIs Standard bytes m group coding) where
  abbrev s : Syntax
  s = coding.syntax

  abbrev rest : List ℕ
  rest = drop (set_at group) bytes

  le : set_at group ≤ INPUT_LIMIT
  le = begins_within bytes m group head.named head.head

  module _ (reads : Reads identity_bar s (set_at group) rest f complete) (reads_up : Reads patient_bar s (set_at group) rest before up_to) where
    whole : IsWhole f
    whole = read_is_whole s (set_at group) rest f le reads

    ascends : FrontAscends f
    ascends =
        reads_ascend s (set_at group) rest f complete le
        (less_barred identity_bar ascending_bar (λ g tag vr declared e. in_order (is_above tag (innermost_reached g)) (identity_fault tag) e) s (set_at group) rest f reads)

    is_read : IsRead s f
    is_read = whole_read identity identity_bar identity_in_order.same identity_in_order.late s (set_at group) rest le f complete reads

    tells : Tells (patient_of s f) (patient_in (whole_of f))
    tells =
        let is : f ≡ read_whole whole.reached whole.set = whole.is in
        subst (λ (g : Front). Tells (patient_of s g) (patient_in (whole_of g))) (sym is)
        (whole_told s whole.reached whole.set (subst (IsRead s) is is_read) (subst FrontAscends is ascends))

    own : FirstReads key bytes (first_end key (fault_at up_to) None (patient_of s f) (length bytes))
    own = of_set m group coding before f up_to complete head (record { up_to_patient = reads_up; whole = not_barred identity_bar s (set_at group) rest f reads }) refl

    abbrev Ends : Type 0
    Ends = first_end key (fault_at up_to) None (patient_of s f) (length bytes) ≡ patient_end key (patient_in (whole_of f)) (place_of up_to (length bytes))

    -- where the whole data set comes before PatientID
    goes_through : before ≡ f → up_to ≡ complete → Ends
    goes_through same is =
        let through : Reads patient_bar s (set_at group) rest (read_whole whole.reached whole.set) complete =
        subst (λ (t : Stop). Reads patient_bar s (set_at group) rest (read_whole whole.reached whole.set) t) is (subst (λ (g : Front). Reads patient_bar s (set_at group) rest g up_to) (same ∙ whole.is) reads_up)
        in
        let none : patient_in (whole_of f) ≡ [] = ap (λ (g : Front). patient_in (whole_of g)) whole.is ∙ ap (λ (v : Option (List ℕ)). option_map_or named_by v []) (nobody_reached s (set_at group) rest whole.reached whole.set le through) in
        ap (λ (t : Stop). first_end key (fault_at t) None (patient_of s f) (length bytes)) is
        ∙ sym (ap (λ (b : List ℕ). patient_end key b (length bytes)) none)
        ∙ sym (ap (λ (t : Stop). patient_end key (patient_in (whole_of f)) (place_of t (length bytes))) is)

    stops_at : (offset : ℕ) → up_to ≡ refused NoPatientId offset → Ends
    stops_at offset is =
        ap (λ (t : Stop). first_end key (fault_at t) None (patient_of s f) (length bytes)) is
        ∙ by_told key (patient_of s f) (patient_in (whole_of f)) offset tells
        ∙ sym (ap (λ (t : Stop). patient_end key (patient_in (whole_of f)) (place_of t (length bytes))) is)

    by_reading : Reads identity_bar s (set_at group) rest before up_to ⊎ ((why : Stop) × IsSuch AtPatient why × (up_to ≡ told_stop (set_at group + length rest) why)) → Ends
    by_reading (inl same) = let one = reads_once identity_bar s (set_at group) rest before f up_to complete same reads in goes_through one.0 one.1
    by_reading (inr (why, such, is)) = let there = refused_there (set_at group + length rest) why up_to such is in stops_at there.0 there.1

    pub ends_so : (end : FirstEnd) → FirstReads key bytes end → end ≡ patient_end key (patient_in (whole_of f)) (place_of up_to (length bytes))
    ends_so end first =
        one_first key bytes end (first_end key (fault_at up_to) None (patient_of s f) (length bytes)) first own
        ∙ by_reading (same_or_such AtPatient patient_bar identity_bar bars_more s (set_at group) rest before up_to reads_up)

pub first_decides : FirstReadingDecides
first_decides key bytes m group coding f before up_to end head reads reads_up first = ends_so key bytes m group coding f before up_to head reads reads_up end first
