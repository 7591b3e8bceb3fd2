-- The search of a data set for its patient, in the words of the definitions.
use Rattle.std.proofs.Common.{◌≡◌, ◌∙◌, ap, sym, subst, refl, ◌⊎◌, inl, inr, ℕ, zero, suc, ◌+◌, ◌≤◌, List, [], ◌∷◌, ◌++◌, length, Bool, true, false, cond, Option, Some, None, arith}
use Rattle.std.specs.Prelude.{fold}
use Rattle.std.proofs.lemmas.List.{append-nil}
use Rattle.std.proofs.lemmas.List.Sums.{fold-append}
use Rattle.dcm_base.specs.declared.fault.Fault.{Fault}
use Rattle.dcm_base.specs.declared.fault.Fault.TheVariants.{NoPatientId}
use Rattle.dcm_base.specs.declared.fault.Stop.{Stop as FaultAt}
use Rattle.dcm_base.specs.declared.syntax.Syntax.{Syntax}
use Rattle.dcm_base.specs.Reading.Bars.{no_bar, patient_bar}
use Rattle.dcm_base.specs.Reading.Reads.{INPUT_LIMIT, Reads, ended}
use Rattle.dcm_base.specs.Reading.Stop.{Stop, complete, refused, is_undecided}
use Rattle.dcm_base.specs.Steps.Atoms.{Atom, front_atoms, opens, value_byte, closes_leaf, opens_item, closes_item, closes_sequence, opens_fragment, ends}
use Rattle.dcm_base.specs.Tree.Front.{Front}
use Rattle.dcm_deid.specs.declared.patient.Naming.{Naming}
use Rattle.dcm_deid.specs.declared.patient.Naming.TheVariants.{NotYet, Opened, Ended, Nobody}
use Rattle.dcm_deid.specs.DeidentifySink.{Held, State, next}
use Rattle.dcm_deid.specs.Patient.{PatientState, after_byte, at_head, bars_none, looks_at, naming_ended, patient_begun, patient_held, patient_next, up_to_bar, up_to_begun, writes_nothing}
use Rattle.dcm_deid.proofs.PatientSteps.{up_to_steps}
use Rattle.dcm_stream.specs.Driven.{driven, EndsAs, RefusesAs, WaitsAs}
use Rattle.dcm_stream.specs.Machine.{steps}
use Rattle.dcm_stream.specs.Judging.{bars_head}
use Rattle.dcm_stream.specs.Reading.{Reading, end_shows, finish, read_byte, start_of}
use Rattle.dcm_stream.proofs.Runs.Inputs.{bars_none as none_barred, ends_by, refuses_by, waits_by}
use Rattle.dcm_cli.specs.declared.first.FirstEnd.{FirstEnd}
use Rattle.dcm_cli.specs.declared.first.FirstEnd.TheVariants.{Refused}
use Rattle.dcm_cli.specs.First.{cut_end, fault_at, first_end, is_at_patient, is_open, naming_end, patient_of, GoesOn, SetReads}
use Rattle.dcm_cli.specs.Searching.{cut_so_far, decided, ended as ends_with, naming_so_far, patient_at, so_far, told, up_to_at}
use Rattle.dcm_cli.proofs.Passes.Makers.{Drives, drives_as, drives_by}
use Rattle.dcm_cli.proofs.Passes.PatientBar.{patient, patient_in_order}

-- ---- a patient who is known stays so

abbrev Same : PatientState → PatientState → Type 0
Same p q = (q.naming ≡ p.naming) × (q.held ≡ p.held)

same_again : (p q t : PatientState) → Same p q → Same q t → Same p t
same_again p q t a b = (b.0 ∙ a.0, b.1 ∙ a.1)

never_looks : (d : ℕ) (n : Naming) → is_open n ≡ false → looks_at d n ≡ false
never_looks zero NotYet e = cc
never_looks zero Opened e = cc
never_looks zero Ended e = refl
never_looks zero Nobody e = refl
never_looks (suc d) NotYet e = cc
never_looks (suc d) Opened e = cc
never_looks (suc d) Ended e = refl
never_looks (suc d) Nobody e = refl

stays_by : (b : Bool) (p q : PatientState) → b ≡ false → Same p (cond b q p)
stays_by true p q e = cc
stays_by false p q e = (refl, refl)

byte_stays : (n : Naming) (p : PatientState) (b : ℕ) → is_open n ≡ false → Same p (after_byte n p b)
byte_stays NotYet p b e = cc
byte_stays Opened p b e = cc
byte_stays Ended p b e = (refl, refl)
byte_stays Nobody p b e = (refl, refl)

ended_stays : (n : Naming) → is_open n ≡ false → naming_ended n ≡ n
ended_stays NotYet e = cc
ended_stays Opened e = cc
ended_stays Ended e = refl
ended_stays Nobody e = refl

atom_stays : (p : PatientState) (a : Atom) → is_open p.naming ≡ false → Same p (patient_next p a)
atom_stays p (opens tag vr declared s) e = stays_by (looks_at p.depth p.naming) p (at_head p tag vr declared s) (never_looks p.depth p.naming e)
atom_stays p (value_byte b) e = byte_stays p.naming p b e
atom_stays p closes_leaf e = (ended_stays p.naming e, refl)
atom_stays p (opens_item declared) e = (refl, refl)
atom_stays p closes_item e = (refl, refl)
atom_stays p closes_sequence e = (refl, refl)
atom_stays p (opens_fragment size) e = (refl, refl)
atom_stays p ends e = (refl, refl)

still_known : (p q : PatientState) → Same p q → is_open p.naming ≡ false → is_open q.naming ≡ false
still_known p q same e = ap is_open same.0 ∙ e

atoms_stay : (atoms : List Atom) (p : PatientState) → is_open p.naming ≡ false → Same p (fold patient_next p atoms)
atoms_stay [] p e = (refl, refl)
atoms_stay (a ∷ atoms) p e =
    let one = atom_stays p a e in
    same_again p (patient_next p a) (fold patient_next (patient_next p a) atoms) one (atoms_stay atoms (patient_next p a) (still_known p (patient_next p a) one e))

bytes_stay : (rest : List ℕ) (q : Reading × PatientState) → is_open q.1.naming ≡ false → Same q.1 (fold (steps bars_none patient_next) q rest).1
bytes_stay [] q e = (refl, refl)
bytes_stay (b ∷ rest) q e =
    let next : Reading × PatientState = steps bars_none patient_next q b in
    let one = atoms_stay (read_byte (bars_head bars_none q.1) q.0 b).1 q.1 e in
    same_again q.1 next.1 (fold (steps bars_none patient_next) next rest).1 one (bytes_stay rest next (still_known q.1 next.1 one e))

module _ (s : Syntax) (start : ℕ) (le : start ≤ INPUT_LIMIT) where
  -- ---- the two machines

  up_to_drives : (bytes : List ℕ) → Drives up_to_bar next writes_nothing patient_bar up_to_begun s start bytes
  up_to_drives bytes = drives_as patient patient_bar patient_in_order up_to_bar next writes_nothing up_to_begun up_to_steps s start bytes le

  patient_drives : (bytes : List ℕ) → Drives bars_none patient_next writes_nothing no_bar patient_begun s start bytes
  patient_drives bytes = drives_by bars_none patient_next writes_nothing no_bar patient_begun (none_barred bars_none patient_next writes_nothing patient_begun (λ atoms head. refl)) s start bytes le

  up_to_ends : (bytes : List ℕ) → EndsAs up_to_bar next writes_nothing patient_bar up_to_begun s start bytes
  up_to_ends bytes = let d = up_to_drives bytes in ends_by up_to_bar next writes_nothing patient_bar up_to_begun s start bytes d.reading d.atoms d.driven_is d.output_is d.answered

  patient_ends : (bytes : List ℕ) → EndsAs bars_none patient_next writes_nothing no_bar patient_begun s start bytes
  patient_ends bytes = let d = patient_drives bytes in ends_by bars_none patient_next writes_nothing no_bar patient_begun s start bytes d.reading d.atoms d.driven_is d.output_is d.answered

  up_to_refuses : (bytes : List ℕ) (fault : Fault) (offset : ℕ) → (up_to_at s start bytes).0.halt ≡ Some (refused fault offset) → RefusesAs up_to_bar next writes_nothing patient_bar up_to_begun s start bytes fault offset
  up_to_refuses bytes fault offset is = let d = up_to_drives bytes in refuses_by up_to_bar next writes_nothing patient_bar up_to_begun s start bytes d.reading d.atoms fault offset d.driven_is d.output_is is d.followed

  patient_refuses : (bytes : List ℕ) (fault : Fault) (offset : ℕ) → (patient_at s start bytes).0.halt ≡ Some (refused fault offset) → RefusesAs bars_none patient_next writes_nothing no_bar patient_begun s start bytes fault offset
  patient_refuses bytes fault offset is = let d = patient_drives bytes in refuses_by bars_none patient_next writes_nothing no_bar patient_begun s start bytes d.reading d.atoms fault offset d.driven_is d.output_is is d.followed

  up_to_waits : (bytes : List ℕ) → (up_to_at s start bytes).0.halt ≡ None → WaitsAs up_to_bar next writes_nothing patient_bar up_to_begun s start bytes
  up_to_waits bytes is = let d = up_to_drives bytes in waits_by up_to_bar next writes_nothing patient_bar up_to_begun s start bytes d.reading d.atoms d.driven_is d.output_is is d.followed

  patient_waits : (bytes : List ℕ) → (patient_at s start bytes).0.halt ≡ None → WaitsAs bars_none patient_next writes_nothing no_bar patient_begun s start bytes
  patient_waits bytes is = let d = patient_drives bytes in waits_by bars_none patient_next writes_nothing no_bar patient_begun s start bytes d.reading d.atoms d.driven_is d.output_is is d.followed

  -- ---- halts

  abbrev pub HaltIs : Option Stop → Type 0
  HaltIs halt = (halt ≡ None) ⊎ ((fault : Fault) × (offset : ℕ) × (halt ≡ Some (refused fault offset)))

  up_to_halts : (bytes : List ℕ) → HaltIs (up_to_at s start bytes).0.halt
  up_to_halts bytes =
      let d = up_to_drives bytes in
      let same : (up_to_at s start bytes).0.halt ≡ d.reading.halt = ap (λ (q : Reading × State). q.0.halt) d.driven_is in
      elim d.followed [ inl h ↦ inl (same ∙ h.going) | inr h ↦ inr (h.fault, h.offset, same ∙ h.halt_is) ]

  patient_halts : (bytes : List ℕ) → HaltIs (patient_at s start bytes).0.halt
  patient_halts bytes =
      let d = patient_drives bytes in
      let same : (patient_at s start bytes).0.halt ≡ d.reading.halt = ap (λ (q : Reading × PatientState). q.0.halt) d.driven_is in
      elim d.followed [ inl h ↦ inl (same ∙ h.going) | inr h ↦ inr (h.fault, h.offset, same ∙ h.halt_is) ]

  some_none : (stop : FaultAt) → Some stop ≡ None → ⊥
  some_none stop e = cc

  none_told : (halt : Option Stop) → HaltIs halt → told halt ≡ None → halt ≡ None
  none_told halt (inl is) e = is
  none_told halt (inr (fault, offset, is)) e = absurd (some_none _ (sym (ap told is) ∙ e))

  told_at : (halt : Option Stop) (stop : FaultAt) → HaltIs halt → told halt ≡ Some stop → halt ≡ Some (refused stop.fault stop.at)
  told_at halt stop (inl is) e = absurd (some_none stop (sym e ∙ ap told is))
  told_at halt stop (inr (fault, offset, is)) e =
      let same : Some (record { fault = fault; at = offset }) ≡ Some stop = sym (ap told is) ∙ e in
      let at : record { fault = fault; at = offset } ≡ stop = cc in
      is ∙ ap (λ (x : FaultAt). Some (refused x.fault x.at)) at

  -- ---- within the limit of an input

  up_to_within : (bytes : List ℕ) → (up_to_at s start bytes).0.halt ≡ None → start + length bytes ≤ INPUT_LIMIT
  up_to_within bytes none =
      let d = up_to_drives bytes in
      let same : d.reading.halt ≡ None = sym (ap (λ (q : Reading × State). q.0.halt) d.driven_is) ∙ none in
      elim d.followed [ inl h ↦ h.within | inr h ↦ absurd (let no : Some (refused h.fault h.offset) ≡ None = sym h.halt_is ∙ same in cc) ]

  patient_within : (bytes : List ℕ) → (patient_at s start bytes).0.halt ≡ None → start + length bytes ≤ INPUT_LIMIT
  patient_within bytes none =
      let d = patient_drives bytes in
      let same : d.reading.halt ≡ None = sym (ap (λ (q : Reading × PatientState). q.0.halt) d.driven_is) ∙ none in
      elim d.followed [ inl h ↦ h.within | inr h ↦ absurd (let no : Some (refused h.fault h.offset) ≡ None = sym h.halt_is ∙ same in cc) ]

  -- ---- what is undecided

  record AtPatient (key bytes : List ℕ) (stop : FaultAt) : Type 0 where
    at_patient : is_at_patient stop.fault ≡ true
    open_naming : is_open (patient_at s start bytes).1.naming ≡ true
    none : told (patient_at s start bytes).0.halt ≡ None

  some_end : (end : FirstEnd) → Some end ≡ None → ⊥
  some_end end e = cc

  naming_open : (key : List ℕ) (n : Naming) (named : List ℕ) (whole : Option FaultAt) (at : ℕ) → naming_so_far key n named whole at ≡ None → (is_open n ≡ true) × (whole ≡ None)
  naming_open key Ended named whole at e = absurd (some_end _ e)
  naming_open key Nobody named whole at e = absurd (some_end _ e)
  naming_open key Opened named None at e = (refl, refl)
  naming_open key Opened named (Some stop) at e = absurd (some_end _ e)
  naming_open key NotYet named None at e = (refl, refl)
  naming_open key NotYet named (Some stop) at e = absurd (some_end _ e)

  at_patient : (key bytes : List ℕ) (stop : FaultAt) (b : Bool) → is_at_patient stop.fault ≡ b
      → cond b (naming_so_far key (patient_at s start bytes).1.naming (patient_held (patient_at s start bytes).1.held) (told (patient_at s start bytes).0.halt) stop.at) (Some (Refused stop)) ≡ None → AtPatient key bytes stop
  at_patient key bytes stop false is e = absurd (some_end _ e)
  at_patient key bytes stop true is e =
      let n = naming_open key (patient_at s start bytes).1.naming (patient_held (patient_at s start bytes).1.held) (told (patient_at s start bytes).0.halt) stop.at e in
      record { at_patient = is; open_naming = n.0; none = n.1 }

  pub data Undecided (key bytes : List ℕ) : Type 0 where
    before_patient : (up_to_at s start bytes).0.halt ≡ None → Undecided key bytes
    within_patient : (stop : FaultAt) → (up_to_at s start bytes).0.halt ≡ Some (refused stop.fault stop.at) → is_at_patient stop.fault ≡ true → is_open (patient_at s start bytes).1.naming ≡ true → (patient_at s start bytes).0.halt ≡ None
        → Undecided key bytes

  undecided_by : (key bytes : List ℕ) (up_to : Option FaultAt) → told (up_to_at s start bytes).0.halt ≡ up_to → so_far key up_to (told (patient_at s start bytes).0.halt) (patient_at s start bytes).1 ≡ None → Undecided key bytes
  undecided_by key bytes None is e = before_patient (none_told _ (up_to_halts bytes) is)
  undecided_by key bytes (Some stop) is e =
      let a = at_patient key bytes stop (is_at_patient stop.fault) refl e in
      within_patient stop (told_at _ stop (up_to_halts bytes) is) a.at_patient a.open_naming (none_told _ (patient_halts bytes) a.none)

  pub undecided : (key bytes : List ℕ) → decided key s start bytes ≡ None → Undecided key bytes
  undecided key bytes e = undecided_by key bytes (told (up_to_at s start bytes).0.halt) refl e

  pub within_limit : (key bytes : List ℕ) → decided key s start bytes ≡ None → start + length bytes ≤ INPUT_LIMIT
  within_limit key bytes e = elim (undecided key bytes e) [ before_patient none ↦ up_to_within bytes none | within_patient stop is at open_naming none ↦ patient_within bytes none ]

  -- ---- both readings

  pub record BothRead (bytes : List ℕ) : Type 0 where
    pub before : Front
    pub set : Front
    pub reads : SetReads s start bytes before set (finish (up_to_at s start bytes).0) (finish (patient_at s start bytes).0)
    pub state : fold patient_next (patient_at s start bytes).1 (end_shows (finish (patient_at s start bytes).0)) ≡ patient_of s set

  pub both_read : (bytes : List ℕ) → BothRead bytes
  both_read bytes =
      let a = up_to_ends bytes in
      let b = patient_ends bytes in
      record { before = a.f; set = b.f; reads = record { up_to_patient = a.reads; whole = b.reads }; state = b.state }

  still : (p : PatientState) (stop : Stop) → fold patient_next p (end_shows stop) ≡ p
  still p complete = refl
  still p (refused fault offset) = refl

  -- the patient of all that was read
  pub patient_is : (bytes : List ℕ) → (patient_at s start bytes).1 ≡ patient_of s (both_read bytes).set
  patient_is bytes = sym (still (patient_at s start bytes).1 (finish (patient_at s start bytes).0)) ∙ (both_read bytes).state

  -- ---- what is decided

  patient_stays : (bytes rest : List ℕ) → is_open (patient_at s start bytes).1.naming ≡ false → Same (patient_at s start bytes).1 (patient_at s start (bytes ++ rest)).1
  patient_stays bytes rest e =
      subst (λ (q : Reading × PatientState). Same (patient_at s start bytes).1 q.1) (sym (fold-append (steps bars_none patient_next) (start_of s start, patient_begun) bytes rest))
      (bytes_stay rest (patient_at s start bytes) e)

  -- each input that begins with the bytes ends so
  pub record DecidedAs (key bytes : List ℕ) (end : FirstEnd) : Type 0 where
    pub before : Front
    pub set : Front
    pub up_to : Stop
    pub stop : Stop
    pub reads : SetReads s start bytes before set up_to stop
    pub end_is : (size : ℕ) → end ≡ first_end key (fault_at up_to) (fault_at stop) (patient_of s set) size

  some_is : (x end : FirstEnd) → Some x ≡ Some end → end ≡ x
  some_is x end e = cc

  none_some : (end : FirstEnd) → None ≡ Some end → ⊥
  none_some end e = cc

  record Patient (key bytes : List ℕ) (at : ℕ) (end : FirstEnd) : Type 0 where
    set : Front
    stop : Stop
    reads : Reads no_bar s start bytes set stop
    end_is : end ≡ naming_end key (patient_of s set).naming (patient_held (patient_of s set).held) (fault_at stop) at

  -- the patient is known
  known_patient : (key bytes rest : List ℕ) (at : ℕ) (n : Naming) (end : FirstEnd) → (patient_at s start bytes).1.naming ≡ n → is_open n ≡ false
      → ((whole : Option FaultAt) → end ≡ naming_end key n (patient_held (patient_at s start bytes).1.held) whole at) → Patient key (bytes ++ rest) at end
  known_patient key bytes rest at n end is known comes =
      let b = both_read (bytes ++ rest) in
      let same = patient_stays bytes rest (ap is_open is ∙ known) in
      let all : (patient_at s start (bytes ++ rest)).1 ≡ patient_of s b.set = patient_is (bytes ++ rest) in
      let stop : Stop = finish (patient_at s start (bytes ++ rest)).0 in
      record {
        set = b.set;
        stop = stop;
        reads = b.reads.whole;
        end_is =
            comes (fault_at stop)
            ∙ ap (λ (x : Naming). naming_end key x (patient_held (patient_at s start bytes).1.held) (fault_at stop) at) (sym is ∙ sym same.0 ∙ ap (λ (p : PatientState). p.naming) all)
            ∙ ap (λ (h : Held). naming_end key (patient_of s b.set).naming (patient_held h) (fault_at stop) at) (sym same.1 ∙ ap (λ (p : PatientState). p.held) all);
      }

  -- its value is cut
  cut_patient : (key bytes rest : List ℕ) (at : ℕ) (n : Naming) (end : FirstEnd) (whole : Option FaultAt) → told (patient_at s start bytes).0.halt ≡ whole → cut_so_far whole ≡ Some end → (patient_at s start bytes).1.naming ≡ n
      → ((named : List ℕ) (stop : FaultAt) → naming_end key n named (Some stop) at ≡ Refused stop) → Patient key (bytes ++ rest) at end
  cut_patient key bytes rest at n end None is e naming cut = absurd (none_some end e)
  cut_patient key bytes rest at n end (Some stop) is e naming cut =
      let r = patient_refuses bytes stop.fault stop.at (told_at _ stop (patient_halts bytes) is) in
      record {
        set = r.f;
        stop = refused stop.fault stop.at;
        reads = r.reads rest;
        end_is = some_is (Refused stop) end e ∙ sym (cut (patient_held (patient_of s r.f).held) stop)
            ∙ ap (λ (x : Naming). naming_end key x (patient_held (patient_of s r.f).held) (Some stop) at) (sym naming ∙ ap (λ (p : PatientState). p.naming) r.state);
      }

  patient_by : (key bytes rest : List ℕ) (at : ℕ) (n : Naming) (end : FirstEnd) → (patient_at s start bytes).1.naming ≡ n
      → naming_so_far key n (patient_held (patient_at s start bytes).1.held) (told (patient_at s start bytes).0.halt) at ≡ Some end → Patient key (bytes ++ rest) at end
  patient_by key bytes rest at Ended end is e = known_patient key bytes rest at Ended end is refl (λ whole. some_is _ end e)
  patient_by key bytes rest at Nobody end is e = known_patient key bytes rest at Nobody end is refl (λ whole. some_is _ end e)
  patient_by key bytes rest at Opened end is e = cut_patient key bytes rest at Opened end _ refl e is (λ named stop. refl)
  patient_by key bytes rest at NotYet end is e = cut_patient key bytes rest at NotYet end _ refl e is (λ named stop. refl)

  by_fault : (key bytes rest : List ℕ) (stop : FaultAt) (end : FirstEnd) (b : Bool) → told (up_to_at s start bytes).0.halt ≡ Some stop → is_at_patient stop.fault ≡ b
      → cond b (naming_so_far key (patient_at s start bytes).1.naming (patient_held (patient_at s start bytes).1.held) (told (patient_at s start bytes).0.halt) stop.at) (Some (Refused stop)) ≡ Some end
      → DecidedAs key (bytes ++ rest) end
  by_fault key bytes rest stop end false is at e =
      let r = up_to_refuses bytes stop.fault stop.at (told_at _ stop (up_to_halts bytes) is) in
      let b = both_read (bytes ++ rest) in
      record {
        before = r.f;
        set = b.set;
        up_to = refused stop.fault stop.at;
        stop = finish (patient_at s start (bytes ++ rest)).0;
        reads = record { up_to_patient = r.reads rest; whole = b.reads.whole };
        end_is = λ size. some_is (Refused stop) end e ∙ sym (ap (λ (x : Bool). cond x (naming_end key (patient_of s b.set).naming (patient_held (patient_of s b.set).held) (fault_at (finish (patient_at s start (bytes ++ rest)).0)) stop.at) (Refused stop)) at);
      }
  by_fault key bytes rest stop end true is at e =
      let r = up_to_refuses bytes stop.fault stop.at (told_at _ stop (up_to_halts bytes) is) in
      let p = patient_by key bytes rest stop.at (patient_at s start bytes).1.naming end refl e in
      record {
        before = r.f;
        set = p.set;
        up_to = refused stop.fault stop.at;
        stop = p.stop;
        reads = record { up_to_patient = r.reads rest; whole = p.reads };
        end_is = λ size. p.end_is ∙ sym (ap (λ (x : Bool). cond x (naming_end key (patient_of s p.set).naming (patient_held (patient_of s p.set).held) (fault_at p.stop) stop.at) (Refused stop)) at);
      }

  decided_by : (key bytes rest : List ℕ) (end : FirstEnd) (up_to : Option FaultAt) → told (up_to_at s start bytes).0.halt ≡ up_to → so_far key up_to (told (patient_at s start bytes).0.halt) (patient_at s start bytes).1 ≡ Some end
      → DecidedAs key (bytes ++ rest) end
  decided_by key bytes rest end None is e = absurd (none_some end e)
  decided_by key bytes rest end (Some stop) is e = by_fault key bytes rest stop end (is_at_patient stop.fault) is refl e

  pub decided_as : (key bytes rest : List ℕ) (end : FirstEnd) → decided key s start bytes ≡ Some end → DecidedAs key (bytes ++ rest) end
  decided_as key bytes rest end e = decided_by key bytes rest end (told (up_to_at s start bytes).0.halt) refl e

  -- and where the input ends
  pub ended_as : (key bytes : List ℕ) (end : FirstEnd) → end ≡ ends_with key s start bytes
      → end ≡ first_end key (fault_at (finish (up_to_at s start bytes).0)) (fault_at (finish (patient_at s start bytes).0)) (patient_of s (both_read bytes).set) (start + length bytes)
  ended_as key bytes end e =
      e ∙ ap (λ (p : PatientState). first_end key (fault_at (finish (up_to_at s start bytes).0)) (fault_at (finish (patient_at s start bytes).0)) p (start + length bytes)) (both_read bytes).state

  -- ---- more bytes can still change it

  halted_end : (r : Reading) (stop : Stop) → r.halt ≡ Some stop → finish r ≡ stop
  unfolding finish
  halted_end r stop e = rw e refl

  pub goes_on : (key bytes : List ℕ) → Undecided key bytes → (is_undecided (Some (finish (up_to_at s start bytes).0)) ≡ true) ⊎ GoesOn (finish (up_to_at s start bytes).0) (finish (patient_at s start bytes).0) (patient_of s (both_read bytes).set)
  goes_on key bytes (before_patient none) = inl (up_to_waits bytes none).undecided
  goes_on key bytes (within_patient stop halt at open_naming none) = inr (record {
    stopped = stop;
    stopped_is = ap fault_at (halted_end (up_to_at s start bytes).0 (refused stop.fault stop.at) halt);
    at_patient = at;
    open_naming = ap (λ (p : PatientState). is_open p.naming) (sym (patient_is bytes)) ∙ open_naming;
    undecided = (patient_waits bytes none).undecided;
  })
