-- The search of a data set for the unique identifiers of its instance, in the words of the definitions.
use Rattle.std.proofs.Common.{◌≡◌, ◌∙◌, ap, sym, refl, ◌⊎◌, inl, inr, ℕ, ◌+◌, ◌≤◌, List, [], ◌∷◌, ◌++◌, length, Bool, true, false, ◌||◌, Option, Some, None, fold}
use Rattle.std.specs.Prelude.{is_some, if◌then◌else◌, Result}
use Rattle.std.proofs.lemmas.List.Sums.{fold-append}
use Rattle.dcm_lemmas.proofs.Options.{some_none}
use Rattle.dcm_base.specs.declared.fault.Fault.{Fault}
use Rattle.dcm_base.specs.declared.syntax.Syntax.{Syntax}
use Rattle.dcm_base.specs.Reading.Bars.{no_bar}
use Rattle.dcm_base.specs.Reading.Reads.{INPUT_LIMIT, Reads}
use Rattle.dcm_base.specs.Reading.Stop.{Stop, refused, is_undecided}
use Rattle.dcm_base.specs.Tree.Front.{Front}
use Rattle.dcm_cli.specs.Searching.{told}
use Rattle.dcm_cli.proofs.Passes.Makers.{Drives, drives_by}
use Rattle.dcm_sinks.proofs.ReadBack.IsRead.{whole_read}
use Rattle.dcm_stream.specs.Driven.{bars_by, EndsAs, RefusesAs, WaitsAs}
use Rattle.dcm_stream.specs.Follows.{BarsAs}
use Rattle.dcm_stream.specs.Judging.{bars_head}
use Rattle.dcm_stream.specs.Machine.{steps}
use Rattle.dcm_stream.specs.Reading.{Reading, finish, read_byte, start_of}
use Rattle.dcm_stream.proofs.Runs.Inputs.{bars_none as none_barred, ends_by, refuses_by, waits_by}
use Rattle.dcm_instance.specs.declared.names.NoInstance.{NoInstance}
use Rattle.dcm_instance.specs.Searching.{decided, driven_at, ended}
use Rattle.dcm_instance.specs.UidSink.{UidState, bars_none, is_decided, outcome, uids_at, uids_begun, uids_next, writes_nothing}
use Rattle.dcm_instance.specs.Uids.{Uids, instance_in, is_known}
use Rattle.dcm_instance.proofs.InTrees.{Says, set_names}
use Rattle.dcm_instance.proofs.Steps.{decided_atoms, end_stays}

-- ---- once it is decided, it stays so

bytes_stay : (rest : List ℕ) (q : Reading × UidState) → is_decided q.1 ≡ true → (fold (steps bars_none uids_next) q rest).1 ≡ q.1
bytes_stay [] q e = refl
bytes_stay (b ∷ rest) q e =
    let next : Reading × UidState = steps bars_none uids_next q b in
    let one : next.1 ≡ q.1 = decided_atoms (read_byte (bars_head bars_none q.1) q.0 b).1 q.1 e in
    bytes_stay rest next (ap is_decided one ∙ e) ∙ one

-- ---- answers

abbrev pub Answer : Type 0
Answer = Result Uids NoInstance

some_is : (x y : Answer) → Some x ≡ Some y → y ≡ x
some_is x y e = cc

none_some : (x : Answer) → None ≡ Some x → ⊥
none_some x e = cc

none_by : (t u : Bool) (x : Answer) → (if t || u then Some x else None) ≡ None → (t ≡ false) × (u ≡ false)
none_by true u x e = absurd (some_none x e)
none_by false true x e = absurd (some_none x e)
none_by false false x e = (refl, refl)

some_by : (t u : Bool) (x y : Answer) → (if t || u then Some x else None) ≡ Some y → (y ≡ x) × ((t ≡ true) ⊎ (u ≡ true))
some_by true u x y e = (some_is x y e, inl refl)
some_by false true x y e = (some_is x y e, inr refl)
some_by false false x y e = absurd (none_some y e)

-- ---- halts

abbrev HaltIs : Option Stop → Type 0
HaltIs halt = (halt ≡ None) ⊎ ((fault : Fault) × (offset : ℕ) × (halt ≡ Some (refused fault offset)))

going_halt : (halt : Option Stop) → HaltIs halt → is_some (told halt) ≡ false → halt ≡ None
going_halt halt (inl is) e = is
going_halt halt (inr (fault, offset, is)) e = absurd (let no : true ≡ false = sym (ap (λ (x : Option Stop). is_some (told x)) is) ∙ e in cc)

stopped_halt : (halt : Option Stop) → HaltIs halt → is_some (told halt) ≡ true → (fault : Fault) × (offset : ℕ) × (halt ≡ Some (refused fault offset))
stopped_halt halt (inl is) e = absurd (let no : false ≡ true = sym (ap (λ (x : Option Stop). is_some (told x)) is) ∙ e in cc)
stopped_halt halt (inr x) e = x

no_bars : BarsAs (bars_by bars_none uids_next uids_begun) no_bar
no_bars = none_barred bars_none uids_next writes_nothing uids_begun (λ atoms head. refl)

module _ (s : Syntax) (start : ℕ) (le : start ≤ INPUT_LIMIT) where
  drives : (bytes : List ℕ) → Drives bars_none uids_next writes_nothing no_bar uids_begun s start bytes
  drives bytes = drives_by bars_none uids_next writes_nothing no_bar uids_begun no_bars s start bytes le

  set_ends : (bytes : List ℕ) → EndsAs bars_none uids_next writes_nothing no_bar uids_begun s start bytes
  set_ends bytes = let d = drives bytes in ends_by bars_none uids_next writes_nothing no_bar uids_begun s start bytes d.reading d.atoms d.driven_is d.output_is d.answered

  set_refuses : (bytes : List ℕ) (fault : Fault) (offset : ℕ) → (driven_at s start bytes).0.halt ≡ Some (refused fault offset) → RefusesAs bars_none uids_next writes_nothing no_bar uids_begun s start bytes fault offset
  set_refuses bytes fault offset is = let d = drives bytes in refuses_by bars_none uids_next writes_nothing no_bar uids_begun s start bytes d.reading d.atoms fault offset d.driven_is d.output_is is d.followed

  set_waits : (bytes : List ℕ) → (driven_at s start bytes).0.halt ≡ None → WaitsAs bars_none uids_next writes_nothing no_bar uids_begun s start bytes
  set_waits bytes is = let d = drives bytes in waits_by bars_none uids_next writes_nothing no_bar uids_begun s start bytes d.reading d.atoms d.driven_is d.output_is is d.followed

  halts : (bytes : List ℕ) → HaltIs (driven_at s start bytes).0.halt
  halts bytes =
      let d = drives bytes in
      let same : (driven_at s start bytes).0.halt ≡ d.reading.halt = ap (λ (q : Reading × UidState). q.0.halt) d.driven_is in
      elim d.followed [ inl h ↦ inl (same ∙ h.going) | inr h ↦ inr (h.fault, h.offset, same ∙ h.halt_is) ]

  within : (bytes : List ℕ) → (driven_at s start bytes).0.halt ≡ None → start + length bytes ≤ INPUT_LIMIT
  within bytes none =
      let d = drives bytes in
      let same : d.reading.halt ≡ None = sym (ap (λ (q : Reading × UidState). q.0.halt) d.driven_is) ∙ none in
      elim d.followed [ inl h ↦ h.within | inr h ↦ absurd (let no : Some (refused h.fault h.offset) ≡ None = sym h.halt_is ∙ same in cc) ]

  -- ---- what is undecided

  pub record Undecided (bytes : List ℕ) : Type 0 where
    pub undecided : is_decided (driven_at s start bytes).1 ≡ false
    pub going : (driven_at s start bytes).0.halt ≡ None

  pub undecided_by : (bytes : List ℕ) → decided s start bytes ≡ None → Undecided bytes
  undecided_by bytes e =
      let n = none_by (is_decided (driven_at s start bytes).1) (is_some (told (driven_at s start bytes).0.halt)) (outcome (driven_at s start bytes).1) e in
      record { undecided = n.0; going = going_halt (driven_at s start bytes).0.halt (halts bytes) n.1 }

  pub within_limit : (bytes : List ℕ) → decided s start bytes ≡ None → start + length bytes ≤ INPUT_LIMIT
  within_limit bytes e = within bytes (undecided_by bytes e).going

  -- ---- what is read

  says_so : (bytes : List ℕ) (f : Front) (stop : Stop) → Reads no_bar s start bytes f stop → Says s f
  says_so bytes f stop reads =
      set_names no_bar s start bytes f stop (whole_read (bars_by bars_none uids_next uids_begun) no_bar no_bars (λ atoms tag vr declared. refl) s start bytes le f stop reads).shallow reads

  names_so : (bytes : List ℕ) (f : Front) (stop : Stop) → Reads no_bar s start bytes f stop → outcome (uids_at s f) ≡ instance_in s f
  names_so bytes f stop reads = (says_so bytes f stop reads).0

  pub record AllRead (bytes : List ℕ) : Type 0 where
    pub set : Front
    pub reads : Reads no_bar s start bytes set (finish (driven_at s start bytes).0)
    pub state : (driven_at s start bytes).1 ≡ uids_at s set

  pub all_read : (bytes : List ℕ) → AllRead bytes
  all_read bytes =
      let e = set_ends bytes in
      record { set = e.f; reads = e.reads; state = sym (end_stays (driven_at s start bytes).1 (finish (driven_at s start bytes).0)) ∙ e.state }

  -- each input that begins with the bytes names this
  pub record DecidedAs (bytes : List ℕ) (answer : Answer) : Type 0 where
    pub set : Front
    pub stop : Stop
    pub reads : Reads no_bar s start bytes set stop
    pub answer_is : answer ≡ instance_in s set

  stays : (bytes rest : List ℕ) → is_decided (driven_at s start bytes).1 ≡ true → (driven_at s start (bytes ++ rest)).1 ≡ (driven_at s start bytes).1
  stays bytes rest e =
      ap (λ (q : Reading × UidState). q.1) (fold-append (steps bars_none uids_next) (start_of s start, uids_begun) bytes rest)
      ∙ bytes_stay rest (driven_at s start bytes) e

  decided_by : (bytes rest : List ℕ) (answer : Answer) → answer ≡ outcome (driven_at s start bytes).1
      → (is_decided (driven_at s start bytes).1 ≡ true) ⊎ (is_some (told (driven_at s start bytes).0.halt) ≡ true) → DecidedAs (bytes ++ rest) answer
  decided_by bytes rest answer is (inl e) =
      let a = all_read (bytes ++ rest) in
      record {
        set = a.set;
        stop = finish (driven_at s start (bytes ++ rest)).0;
        reads = a.reads;
        answer_is = is ∙ ap outcome (sym (stays bytes rest e) ∙ a.state) ∙ names_so (bytes ++ rest) a.set _ a.reads;
      }
  decided_by bytes rest answer is (inr e) =
      let h = stopped_halt (driven_at s start bytes).0.halt (halts bytes) e in
      let r = set_refuses bytes h.0 h.1 h.2 in
      record { set = r.f; stop = refused h.0 h.1; reads = r.reads rest; answer_is = is ∙ ap outcome r.state ∙ names_so (bytes ++ rest) r.f _ (r.reads rest) }

  pub decided_as : (bytes rest : List ℕ) (answer : Answer) → decided s start bytes ≡ Some answer → DecidedAs (bytes ++ rest) answer
  decided_as bytes rest answer e =
      let d = some_by (is_decided (driven_at s start bytes).1) (is_some (told (driven_at s start bytes).0.halt)) (outcome (driven_at s start bytes).1) answer e in
      decided_by bytes rest answer d.0 d.1

  -- and where the input ends
  pub ended_as : (bytes : List ℕ) (answer : Answer) → answer ≡ ended s start bytes → answer ≡ instance_in s (all_read bytes).set
  ended_as bytes answer e = e ∙ ap outcome (all_read bytes).state ∙ names_so bytes (all_read bytes).set _ (all_read bytes).reads

  -- ---- more bytes can still change it

  pub still_undecided : (bytes : List ℕ) → Undecided bytes → (is_undecided (Some (finish (driven_at s start bytes).0)) ≡ true) × (is_known (all_read bytes).set ≡ false)
  still_undecided bytes u = ((set_waits bytes u.going).undecided, sym (says_so bytes (all_read bytes).set _ (all_read bytes).reads).1 ∙ ap is_decided (sym (all_read bytes).state) ∙ u.undecided)
