-- The days of a file are those of the patient whom it names.
use Rattle.std.proofs.Common.{◌≡◌, ◌≢◌, ◌∙◌, ap, sym, subst, refl, ℕ, ℤ, negsuc, ◌≤ℤ◌, List, [], ◌∷◌, length, Bool, true, false, cond, Option, Some, None}
use Rattle.dcm_base.specs.declared.fault.Stop.{Stop as FaultAt}
use Rattle.dcm_deid.specs.declared.patient.Naming.{Naming}
use Rattle.dcm_deid.specs.declared.patient.Naming.TheVariants.{NotYet, Opened, Ended, Nobody}
use Rattle.dcm_deid.specs.Patient.{PatientState, patient_held}
use Rattle.dcm_uid.specs.Pseudonym.{days}
use Rattle.dcm_words.specs.Words.{with_days}
use Rattle.dcm_uid.proofs.Pseudonyms.{days_past, days_within}
use Rattle.dcm_cli.specs.declared.first.FirstEnd.{FirstEnd}
use Rattle.dcm_cli.specs.declared.first.FirstEnd.TheVariants.{Days, Refused}
use Rattle.dcm_cli.specs.First.{FirstReads, no_set, of_set, cut_end, fault_at, first_end, is_at_patient, naming_end, patient_end, patient_of}
use Rattle.dcm_cli.proofs.Runs.OneFirst.{one_first, some_first}
use Rattle.dcm_run_laws.specs.FirstLaws.{NamesPatient, FirstEndsOnce, FirstEnds, DaysAreOfPatient, PatientHasDays, OnePatientOneMove, MovesBack, NothingFlowsByKey}
use Rattle.dcm_run_laws.proofs.Runs.NothingFlows.{nothing_flows_in_answers}

pub ends_once : FirstEndsOnce
ends_once key bytes a b x y = one_first key bytes a b x y

pub ends_some : FirstEnds
ends_some key bytes = some_first key bytes

never_days : (stop : FaultAt) (d : ℤ) → Refused stop ≡ Days d → ⊥
never_days stop d e = cc

-- ---- what comes to days

record Named (key : List ℕ) (n : Naming) (named : List ℕ) (d : ℤ) : Type 0 where
  whole : n ≡ Ended
  some : named ≢ []
  days_are : d ≡ days key named

by_patient : (key named : List ℕ) (at : ℕ) (d : ℤ) → patient_end key named at ≡ Days d → (named ≢ []) × (d ≡ days key named)
by_patient key [] at d e = absurd (never_days _ d e)
by_patient key (b ∷ bs) at d e = (λ none. cc, let is : Days (days key (b ∷ bs)) ≡ Days d = e in cc)

by_cut : (whole : Option FaultAt) (at : ℕ) (d : ℤ) → cut_end whole at ≡ Days d → ⊥
by_cut None at d e = never_days _ d e
by_cut (Some stop) at d e = never_days stop d e

by_naming : (key : List ℕ) (n : Naming) (named : List ℕ) (whole : Option FaultAt) (at : ℕ) (d : ℤ) → naming_end key n named whole at ≡ Days d → Named key n named d
by_naming key Ended named whole at d e = let p = by_patient key named at d e in record { whole = refl; some = p.0; days_are = p.1 }
by_naming key Nobody named whole at d e = absurd (never_days _ d e)
by_naming key Opened named whole at d e = absurd (by_cut whole at d e)
by_naming key NotYet named whole at d e = absurd (by_cut whole at d e)

record DaysBy (key : List ℕ) (up_to : Option FaultAt) (p : PatientState) (d : ℤ) : Type 0 where
  stopped : FaultAt
  stopped_is : up_to ≡ Some stopped
  at_patient : is_at_patient stopped.fault ≡ true
  named : Named key p.naming (patient_held p.held) d

by_fault : (key : List ℕ) (stop : FaultAt) (whole : Option FaultAt) (p : PatientState) (d : ℤ) (b : Bool) → is_at_patient stop.fault ≡ b
    → cond b (naming_end key p.naming (patient_held p.held) whole stop.at) (Refused stop) ≡ Days d → DaysBy key (Some stop) p d
by_fault key stop whole p d true is e = record { stopped = stop; stopped_is = refl; at_patient = is; named = by_naming key p.naming (patient_held p.held) whole stop.at d e }
by_fault key stop whole p d false is e = absurd (never_days stop d e)

by_end : (key : List ℕ) (up_to whole : Option FaultAt) (p : PatientState) (size : ℕ) (d : ℤ) → first_end key up_to whole p size ≡ Days d → DaysBy key up_to p d
by_end key None whole p size d e = absurd (never_days _ d e)
by_end key (Some stop) whole p size d e = by_fault key stop whole p d (is_at_patient stop.fault) refl e

days_of_end : (key bytes : List ℕ) (d : ℤ) (end : FirstEnd) → end ≡ Days d → FirstReads key bytes end → (named : List ℕ) × NamesPatient bytes named × (named ≢ []) × (d ≡ days key named)
days_of_end key bytes d end is (no_set fault offset refused e) = absurd (never_days _ d (sym e ∙ is))
days_of_end key bytes d end is (of_set m group coding before set up_to stop head reads e) =
    let x = by_end key (fault_at up_to) (fault_at stop) (patient_of coding.syntax set) (length bytes) d (sym e ∙ is) in (
      patient_held (patient_of coding.syntax set).held,
      record {
        m = m;
        group = group;
        coding = coding;
        before = before;
        set = set;
        up_to = up_to;
        stop = stop;
        head = head;
        reads = reads;
        stopped = x.stopped;
        stopped_is = x.stopped_is;
        at_patient = x.at_patient;
        whole = x.named.whole;
        named_is = refl;
      },
      x.named.some,
      x.named.days_are,
    )

pub days_of_patient : DaysAreOfPatient
days_of_patient key bytes d reads = days_of_end key bytes d (Days d) refl reads

-- ---- and it has them

has_end : (key bytes named : List ℕ) (x : NamesPatient bytes named) → FirstReads key bytes (patient_end key named x.stopped.at)
has_end key bytes named x =
    let p : PatientState = patient_of x.coding.syntax x.set in
    let ends : first_end key (fault_at x.up_to) (fault_at x.stop) p (length bytes) ≡ patient_end key named x.stopped.at =
    ap (λ (u : Option FaultAt). first_end key u (fault_at x.stop) p (length bytes)) x.stopped_is
    ∙ ap (λ (b : Bool). cond b (naming_end key p.naming (patient_held p.held) (fault_at x.stop) x.stopped.at) (Refused x.stopped)) x.at_patient
    ∙ ap (λ (n : Naming). naming_end key n (patient_held p.held) (fault_at x.stop) x.stopped.at) x.whole
    ∙ ap (λ (bs : List ℕ). patient_end key bs x.stopped.at) x.named_is
    in
    of_set x.m x.group x.coding x.before x.set x.up_to x.stop x.head x.reads (sym ends)

patient_days : (key named : List ℕ) (at : ℕ) → named ≢ [] → patient_end key named at ≡ Days (days key named)
patient_days key [] at some = absurd (some refl)
patient_days key (b ∷ bs) at some = refl

pub has_days : PatientHasDays
has_days key bytes named x some = subst (FirstReads key bytes) (patient_days key named x.stopped.at some) (has_end key bytes named x)

-- ---- one move

days_are : (key bytes named : List ℕ) (d : ℤ) → NamesPatient bytes named → FirstReads key bytes (Days d) → d ≡ days key named
days_are key bytes named d names reads = (by_patient key named names.stopped.at d (one_first key bytes (patient_end key named names.stopped.at) (Days d) (has_end key bytes named names) reads)).1

pub one_move : OnePatientOneMove
one_move key one other named d e a b first second = days_are key one named d a first ∙ sym (days_are key other named e b second)

pub moves_back : MovesBack
moves_back key bytes d reads =
    let x = days_of_patient key bytes d reads in
    (subst (λ (n : ℤ). n ≤ℤ negsuc 0) (sym x.3) (days_past key x.0), subst (λ (n : ℤ). negsuc 3651 ≤ℤ n) (sym x.3) (days_within key x.0))

-- ---- nothing flows

pub nothing_flows_by_key : NothingFlowsByKey
nothing_flows_by_key options reports key first second d e a b m n f g own other x y left alike =
    nothing_flows_in_answers (with_days options d) reports key first second d e a b m n f g x y left alike
