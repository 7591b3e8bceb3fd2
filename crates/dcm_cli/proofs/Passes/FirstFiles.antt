-- The first reading of a file, in the words of the definitions.
use Rattle.std.proofs.Common.{◌≡◌, ◌∙◌, ap, sym, subst, refl, ◌⊎◌, inl, inr, ℕ, ◌+◌, ◌≤◌, List, [], ◌∷◌, ◌++◌, append_assoc, length, length-append, drop, Bool, true, false, cond, Option, Some, None, arith}
use Rattle.std.specs.Prelude.{Ok, Err}
use Rattle.std.proofs.lemmas.List.{append-nil, drop-append-le}
use Rattle.dcm_base.specs.declared.dictionary.Dictionary.TheVariants.{Standard}
use Rattle.dcm_base.specs.declared.fault.Stop.{Stop as FaultAt}
use Rattle.dcm_base.specs.declared.syntax.Coding.{Coding}
use Rattle.dcm_base.specs.Tables.Syntax.{coding_by}
use Rattle.dcm_base.specs.Tree.Front.{Front}
use Rattle.dcm_base.specs.Reading.Reads.{INPUT_LIMIT, Reads}
use Rattle.dcm_base.specs.Reading.Stop.{Stop, Bar}
use Rattle.dcm_base.specs.Reading.Bars.{no_bar, patient_bar}
use Rattle.dcm_head.specs.declared.meta_read.MetaEnd.TheVariants as meta_ends
use Rattle.dcm_head.specs.MetaReading.{Reading as HeadReading, meta_finished}
use Rattle.dcm_stream.specs.Reading.{finish}
use Rattle.dcm_cli.specs.declared.ending.HeadEnding.{HeadEnding}
use Rattle.dcm_cli.specs.declared.ending.HeadEnding.TheVariants as heads
use Rattle.dcm_cli.specs.declared.first.FirstEnd.{FirstEnd}
use Rattle.dcm_cli.specs.declared.first.FirstEnd.TheVariants.{Days, Refused, Unread}
use Rattle.dcm_cli.specs.declared.head.Beginning.{Beginning}
use Rattle.dcm_cli.specs.Answer.{set_at}
use Rattle.dcm_deid.specs.declared.patient.Naming.{Naming}
use Rattle.dcm_deid.specs.declared.patient.Naming.TheVariants.{NotYet, Opened as naming_open, Ended, Nobody}
use Rattle.dcm_deid.specs.Patient.{PatientState, patient_held}
use Rattle.dcm_cli.specs.First.{cut_end, fault_at, first_end, is_at_patient, naming_end, patient_end, patient_of, FirstReads, no_set, of_set, IsUndecided, in_meta, in_set, Comes, ReadsFirst, SetReads, TellsEnd}
use Rattle.dcm_cli.specs.InputCalls.{Reader, How, in_part, to_end, with_failure, Allows, TellsHow}
use Rattle.dcm_cli.specs.Opening.{HeadRead}
use Rattle.dcm_cli.specs.Pass.{Begins, FailsHead, HeadGoesOn, HeadReads, head_read, set_bytes}
use Rattle.dcm_cli.specs.Searching.{FirstCalls, no_head, set_searched, end_of_head, Searches, SearchEnds, SearchGoesOn, by_bytes, at_end, not_read, decided, ended, patient_at, up_to_at}
use Rattle.dcm_cli.proofs.Passes.FirstSets.{both_read, decided_as, ended_as, goes_on, undecided}
use Rattle.dcm_cli.proofs.Passes.MetaHeads.{Opened, not_opened, ended_stays, finished_same, goes_on_still}
use Rattle.dcm_cli.proofs.Passes.Opens.{head_opened}
use Rattle.dcm_cli.proofs.Passes.Readers.{allows_any, allows_nothing, nothing_follows, ends_empty, for_another, joined}
use Rattle.dcm_cli.proofs.Runs.Stopping.{began_gave}

-- ---- the head of a file

head_undecided : (bytes : List ℕ) → HeadGoesOn bytes → IsUndecided bytes
head_undecided bytes going = let still = goes_on_still bytes going in in_meta still.0 still.1 still.2

-- a head that is at fault is so whatever follows
finished_over : (m : HeadReading) (read rest : List ℕ) (how : How) (stop : FaultAt) → Allows how rest → FailsHead m how read (heads.Refused stop) → meta_finished (head_read (read ++ rest)) ≡ m
finished_over m read rest how stop ok f = by_finish f.1
  where
    by_finish : (m ≡ head_read read) ⊎ ((how ≡ to_end) × (m ≡ meta_finished (head_read read))) → meta_finished (head_read (read ++ rest)) ≡ m
    by_finish (inl e) = ap meta_finished (ended_stays m read rest (meta_ends.Refused stop) e f.0) ∙ finished_same m (meta_ends.Refused stop) f.0
    by_finish (inr x) =
        ap (λ (bs : List ℕ). meta_finished (head_read (read ++ bs))) (nothing_follows how rest ok x.0)
        ∙ ap (λ (bs : List ℕ). meta_finished (head_read bs)) (append-nil read)
        ∙ sym x.1

refused_file : (key file : List ℕ) (m : HeadReading) (stop : FaultAt) → meta_finished (head_read file) ≡ m → m.end ≡ Some (meta_ends.Refused stop) → FirstReads key file (Refused stop)
refused_file key file m stop fin is = no_set stop.fault stop.at (not_opened m file stop fin is) refl

-- ---- a file whose data set was searched

module _ (key read : List ℕ) (how : How) (buffer : List ℕ) (m : HeadReading) (b : Beginning) (named : Coding) (begins : Begins m b buffer how read) (end_is : m.end ≡ Some (meta_ends.Ended named)) where
  abbrev coding : Coding
  coding = coding_by Standard named

  abbrev buffered : List ℕ
  buffered = set_bytes b buffer

  h : HeadRead Standard read how buffer m b coding m.place
  h = record { begins = begins; named = named; end_is = end_is; coding_is = refl; start_is = refl }

  within : m.place ≤ length read
  within = let p = begins.place in omega (arith, p)

  -- the bytes of the data set
  set_there : (more : List ℕ) → drop m.place (read ++ more) ≡ buffered ++ more
  set_there more = drop-append-le m.place read more within ∙ ap (λ (bs : List ℕ). bs ++ more) begins.set

  -- and how many those of the file are
  all_there : (more : List ℕ) → m.place + length (buffered ++ more) ≡ length (read ++ more)
  all_there more =
      let size = begins.place in
      let all = length-append buffered more in
      let whole = length-append read more in
      omega (arith, size, all, whole)

  module _ (more : List ℕ) (ok : Allows how more) where
    abbrev o : Opened Standard m (read ++ more)
    o = head_opened Standard read more how ok buffer m b coding m.place h

    small : m.place ≤ INPUT_LIMIT
    small = let most = o.within in let place = o.place_is in omega (arith, most, place)

    placed : (bar : Bar) (f : Front) (stop : Stop) → Reads bar coding.syntax m.place (buffered ++ more) f stop → Reads bar coding.syntax (set_at o.group) (drop (set_at o.group) (read ++ more)) f stop
    placed bar f stop reads =
        subst (λ (n : ℕ). Reads bar coding.syntax n (drop n (read ++ more)) f stop) o.place_is (subst (λ (bs : List ℕ). Reads bar coding.syntax m.place bs f stop) (sym (set_there more)) reads)

    both_placed : (before set : Front) (up_to stop : Stop) → SetReads coding.syntax m.place (buffered ++ more) before set up_to stop
        → SetReads coding.syntax (set_at o.group) (drop (set_at o.group) (read ++ more)) before set up_to stop
    both_placed before set up_to stop r = record { up_to_patient = placed patient_bar before up_to r.up_to_patient; whole = placed no_bar set stop r.whole }

    -- the input has ended
    at_its_end : (end : FirstEnd) → end ≡ ended key coding.syntax m.place (buffered ++ more) → FirstReads key (read ++ more) end
    at_its_end end is =
        let both = both_read coding.syntax m.place small (buffered ++ more) in
        of_set o.m o.group coding both.before both.set _ _ o.reads (both_placed both.before both.set _ _ both.reads)
        (ended_as coding.syntax m.place small key (buffered ++ more) end is
        ∙ ap (λ (n : ℕ). first_end key (fault_at (finish (up_to_at coding.syntax m.place (buffered ++ more)).0)) (fault_at (finish (patient_at coding.syntax m.place (buffered ++ more)).0)) (patient_of coding.syntax both.set) n) (all_there more))

    -- more bytes can still change it
    undecided_at : decided key coding.syntax m.place (buffered ++ more) ≡ None → IsUndecided (read ++ more)
    undecided_at none =
        let both = both_read coding.syntax m.place small (buffered ++ more) in
        in_set o.m o.group coding both.before both.set _ _ o.reads (both_placed both.before both.set _ _ both.reads)
        (goes_on coding.syntax m.place small key (buffered ++ more) (undecided coding.syntax m.place small key (buffered ++ more) none))

  -- the bytes decide it
  decided_at : (more rest : List ℕ) (ok : Allows how (more ++ rest)) (end : FirstEnd) → decided key coding.syntax m.place (buffered ++ more) ≡ Some end → FirstReads key ((read ++ more) ++ rest) end
  decided_at more rest ok end is =
      let p = o (more ++ rest) ok in
      let d = decided_as coding.syntax m.place (small (more ++ rest) ok) key (buffered ++ more) rest end is in
      subst (λ (bs : List ℕ). FirstReads key bs end) (sym (append_assoc read more rest))
      (of_set p.m p.group coding d.before d.set d.up_to d.stop p.reads
      (both_placed (more ++ rest) ok d.before d.set d.up_to d.stop (subst (λ (bs : List ℕ). SetReads coding.syntax m.place bs d.before d.set d.up_to d.stop) (append_assoc buffered more rest) d.reads))
      (d.end_is (length (read ++ (more ++ rest)))))

-- ---- any file

-- reading did not fail
abbrev IsRead : FirstEnd → Type 0
IsRead (Days days) = Unit {0}
IsRead (Refused stop) = Unit {0}
IsRead (Unread count) = ⊥

patient_read : (key patient : List ℕ) (at : ℕ) → IsRead (patient_end key patient at)
patient_read key [] at = tt
patient_read key (b ∷ bs) at = tt

cut_read : (whole : Option FaultAt) (at : ℕ) → IsRead (cut_end whole at)
cut_read None at = tt
cut_read (Some stop) at = tt

naming_read : (key : List ℕ) (n : Naming) (patient : List ℕ) (whole : Option FaultAt) (at : ℕ) → IsRead (naming_end key n patient whole at)
naming_read key Ended patient whole at = patient_read key patient at
naming_read key Nobody patient whole at = tt
naming_read key naming_open patient whole at = cut_read whole at
naming_read key NotYet patient whole at = cut_read whole at

fault_read : (b : Bool) (end : FirstEnd) (stop : FaultAt) → IsRead end → IsRead (cond b end (Refused stop))
fault_read true end stop is = is
fault_read false end stop is = tt

first_read : (key : List ℕ) (up_to whole : Option FaultAt) (p : PatientState) (size : ℕ) → IsRead (first_end key up_to whole p size)
first_read key None whole p size = tt
first_read key (Some stop) whole p size = fault_read (is_at_patient stop.fault) (naming_end key p.naming (patient_held p.held) whole stop.at) stop (naming_read key p.naming (patient_held p.held) whole stop.at)

pub file_read : (key bytes : List ℕ) (end : FirstEnd) → FirstReads key bytes end → IsRead end
file_read key bytes end (no_set fault offset refused is) = subst IsRead (sym is) tt
file_read key bytes end (of_set m group coding before set up_to stop head reads is) = subst IsRead (sym is) (first_read key (fault_at up_to) (fault_at stop) (patient_of coding.syntax set) (length bytes))

comes_by : (key given : List ℕ) (how : How) (end : FirstEnd) → IsRead end → ((rest : List ℕ) → Allows how rest → FirstReads key (given ++ rest) end) → Comes key given how end
comes_by key given how (Days days) is reads = reads
comes_by key given how (Refused stop) is reads = reads
comes_by key given how (Unread count) is reads = absurd is

comes_read : (key given : List ℕ) (how : How) (end : FirstEnd) → ((rest : List ℕ) → Allows how rest → FirstReads key (given ++ rest) end) → Comes key given how end
comes_read key given how end reads = comes_by key given how end (file_read key (given ++ []) end (reads [] (allows_nothing how))) reads

tells_read : (failed_before failed_after : Bool) (end : FirstEnd) → IsRead end → failed_after ≡ failed_before → TellsEnd failed_before failed_after end
tells_read failed_before failed_after (Days days) is same = same
tells_read failed_before failed_after (Refused stop) is same = same
tells_read failed_before failed_after (Unread count) is same = absurd is

read_first : (key given : List ℕ) (how : How) (end : FirstEnd) (failed_before failed_after : Bool) → ((rest : List ℕ) → Allows how rest → FirstReads key (given ++ rest) end) → failed_after ≡ failed_before
    → Comes key given how end × TellsEnd failed_before failed_after end
read_first key given how end failed_before failed_after reads same = (
  comes_read key given how end reads,
  tells_read failed_before failed_after end (file_read key (given ++ []) end (reads [] (allows_nothing how))) same,
)

module _ {R : Type 0} (r : Reader R) (key : List ℕ) (before after : R) where
  no_failure : (mid : R) (how : How) → r.has_failed mid ≡ r.has_failed before → (how ≡ in_part) ⊎ (how ≡ to_end) → TellsHow (r.has_failed mid) (r.has_failed after) how → r.has_failed after ≡ r.has_failed before
  no_failure mid how same (inl is) tells = subst (λ (h : How). TellsHow (r.has_failed mid) (r.has_failed after) h) is tells ∙ same
  no_failure mid how same (inr is) tells = subst (λ (h : How). TellsHow (r.has_failed mid) (r.has_failed after) h) is tells ∙ same

  set_comes : (m : HeadReading) (had held : List ℕ) (b : Beginning) (mid : R) (named : Coding) (end : FirstEnd) → HeadReads r before mid m had held (Ok b) → m.end ≡ Some (meta_ends.Ended named)
      → Searches r mid after key (coding_by Standard named).syntax m.place b.is_over (set_bytes b held) end → ReadsFirst r before after key end
  set_comes m had held b mid named end head end_is set =
      let begins : Begins m b held head.how head.read = head.outcome in
      let j = joined r HeadGoesOn (SearchGoesOn key (coding_by Standard named).syntax m.place b.is_over (set_bytes b held)) IsUndecided before mid after head.read set.more head.how set.how head.reads set.reads head_undecided
      (λ more is going. undecided_at key head.read head.how held m b named begins end_is more (allows_any head.how is more) going.1)
      (λ more going. began_gave r before mid m b held head.read head.how head.outcome head.reads going.0)
      in
      let done : Comes key (head.read ++ set.more) j.how end × TellsEnd (r.has_failed before) (r.has_failed after) end = by_end j.how (λ rest ok. j.allows rest ok) set.ends in
      record { given = head.read ++ set.more; how = j.how; reads = j.reads; comes = done.0; failed = done.1 }
    where
      here : (how : How) → ((rest : List ℕ) → Allows how rest → Allows head.how (set.more ++ rest) × Allows set.how rest) → Allows head.how set.more
      here how allows = subst (Allows head.how) (append-nil set.more) (allows [] (allows_nothing how)).0

      nothing_left : (how : How) → ((rest : List ℕ) → Allows how rest → Allows head.how (set.more ++ rest) × Allows set.how rest) → ((b.is_over ≡ true) × (set.how ≡ in_part)) ⊎ (set.how ≡ to_end) → (rest : List ℕ) → Allows how rest → rest ≡ []
      nothing_left how allows (inl over) rest ok = ends_empty set.more rest (nothing_follows head.how (set.more ++ rest) (allows rest ok).0 (head.outcome.over over.0))
      nothing_left how allows (inr is) rest ok = nothing_follows set.how rest (allows rest ok).1 is

      which : ((b.is_over ≡ true) × (set.how ≡ in_part)) ⊎ (set.how ≡ to_end) → (set.how ≡ in_part) ⊎ (set.how ≡ to_end)
      which (inl over) = inl over.1
      which (inr is) = inr is

      unread_here : (how : How) → ((rest : List ℕ) → Allows how rest → Allows head.how (set.more ++ rest) × Allows set.how rest) → (e : FirstEnd) → set.how ≡ with_failure → decided key (coding_by Standard named).syntax m.place (set_bytes b held ++ set.more) ≡ None
          → e ≡ Unread (m.place + length (set_bytes b held ++ set.more)) → Comes key (head.read ++ set.more) how e × TellsEnd (r.has_failed before) (r.has_failed after) e
      unread_here how allows e is none was =
          let size = all_there key head.read head.how held m b named head.outcome end_is set.more in
          subst (λ (x : FirstEnd). Comes key (head.read ++ set.more) how x × TellsEnd (r.has_failed before) (r.has_failed after) x) (sym was)
          ((undecided_at key head.read head.how held m b named head.outcome end_is set.more (here how allows) none, size), subst (λ (h : How). TellsHow (r.has_failed mid) (r.has_failed after) h) is set.reads.failed)

      by_end : (how : How) → ((rest : List ℕ) → Allows how rest → Allows head.how (set.more ++ rest) × Allows set.how rest) → SearchEnds key (coding_by Standard named).syntax m.place b.is_over (set_bytes b held ++ set.more) set.how end
          → Comes key (head.read ++ set.more) how end × TellsEnd (r.has_failed before) (r.has_failed after) end
      by_end how allows (by_bytes is some) =
          read_first key (head.read ++ set.more) how end (r.has_failed before) (r.has_failed after)
          (λ rest ok. decided_at key head.read head.how held m b named head.outcome end_is set.more rest (allows rest ok).0 end some)
          (no_failure mid set.how head.failed (inl is) set.reads.failed)
      by_end how allows (at_end over is) =
          read_first key (head.read ++ set.more) how end (r.has_failed before) (r.has_failed after)
          (λ rest ok. subst (λ (bs : List ℕ). FirstReads key ((head.read ++ set.more) ++ bs) end) (sym (nothing_left how allows over rest ok))
          (subst (λ (bs : List ℕ). FirstReads key bs end) (sym (append-nil (head.read ++ set.more))) (at_its_end key head.read head.how held m b named head.outcome end_is set.more (here how allows) end is)))
          (no_failure mid set.how head.failed (which over) set.reads.failed)
      by_end how allows (not_read is none was) = unread_here how allows end is none was

  head_comes : (m : HeadReading) (had held : List ℕ) (ending : HeadEnding) → HeadReads r before after m had held (Err ending) → ReadsFirst r before after key (end_of_head ending)
  head_comes m had held (heads.Refused stop) head = record {
    given = head.read;
    how = head.how;
    reads = for_another r HeadGoesOn IsUndecided before after head.read head.how head_undecided head.reads;
    comes = λ rest ok. refused_file key (head.read ++ rest) m stop (finished_over m head.read rest head.how stop ok head.outcome) head.outcome.0;
    failed = head.failed;
  }
  head_comes m had held (heads.Unread count) head = record {
    given = head.read;
    how = head.how;
    reads = for_another r HeadGoesOn IsUndecided before after head.read head.how head_undecided head.reads;
    comes = (head_undecided head.read (ap (λ (x : HeadReading). x.end) (sym head.outcome.0) ∙ head.outcome.1), head.outcome.2);
    failed = head.failed;
  }

  pub first_comes : (end : FirstEnd) → FirstCalls r before after key end → ReadsFirst r before after key end
  first_comes end (no_head m had held ending head is) = subst (ReadsFirst r before after key) (sym is) (head_comes m had held ending head)
  first_comes end (set_searched m had held b mid named head end_is set) = set_comes m had held b mid named end head end_is set
