-- No stop applies before the place, and what that tells of each input that goes on.
use Rattle.std.proofs.Common.{◌≡◌, ℕ, zero, suc, ◌+◌, ◌-◌, ◌≤◌, ◌<◌, List, [], ◌∷◌, ◌++◌, length, take, drop, Some, None, Bool, true, false, cond, inl, inr, refl, sym, ap, ◌∙◌, subst, arith, length-append, append_assoc}
use Rattle.std.specs.Prelude.{◌==◌, nat_lt}
use Rattle.std.proofs.lemmas.Bool.{cases_lt, lt-ltb, le-ltb, eqb-true, cases_Bool}
use Rattle.std.proofs.lemmas.List.{append-nil, take-append-drop, take-append-le, length-take-le, nil_from_length, take_all}
use Rattle.std.proofs.Math.Seq.{take-append-add}
use Rattle.dcm_lemmas.proofs.Options.{some_same}
use Rattle.dcm_base.specs.declared.tag.Tag.{Tag}
use Rattle.dcm_base.specs.declared.vr.Vr.{Vr}
use Rattle.dcm_base.specs.declared.syntax.Syntax.{Syntax}
use Rattle.dcm_base.specs.declared.fault.Fault.{Fault}
use Rattle.dcm_base.specs.declared.fault.Fault.TheVariants.{EndsEarly, TooLong}
use Rattle.dcm_base.specs.Tree.Front.{Front}
use Rattle.dcm_base.specs.Bytes.Head.{tag_at, vr_at, head_size}
use Rattle.dcm_base.specs.Bytes.Spelling.{SpellsFront}
use Rattle.dcm_base.specs.declared.level.Level.{Level}
use Rattle.dcm_base.specs.Reading.Place.{value_open}
use Rattle.dcm_base.specs.Reading.Stop.{Stop, complete, refused, Bar, stop_at, is_early, is_undecided}
use Rattle.dcm_base.specs.Reading.Reads.{StopsFirst, Reads, INPUT_LIMIT, told, ended, at_the_cut, end_too_long}
use Rattle.dcm_base.proofs.DataSets.Extend.{tag_at_extends, vr_at_extends}
use Rattle.dcm_base.proofs.DataSets.Heads.{eight_le_head_size}
use Rattle.dcm_base.proofs.DataSets.Whole.{append_same}
use Rattle.dcm_base.proofs.DataSets.Fronts.{front_same}
use Rattle.dcm_base.proofs.DataSets.Between.{WholeHead, whole_head_extends, between, next_syntax}
use Rattle.dcm_stream.proofs.Steps.StopsStay.{stop_extends, none_extends}
use Rattle.dcm_stream.proofs.Heads.Stops.{FitsHead, fits_element, fits_item, fits_delimiter, Fits}
use Rattle.dcm_stream.proofs.Heads.Opening.{JustHead}

-- ---- parts

-- what begins a beginning
pub begins_with : (p z earlier later : List ℕ) → p ++ z ≡ earlier ++ later → length earlier ≤ length p → (mid : List ℕ) × (p ≡ earlier ++ mid) × (later ≡ mid ++ z)
begins_with p z earlier later e le =
    let n = length earlier in
    let front_is : take n p ++ (drop n p ++ z) ≡ earlier ++ later = sym (append_assoc (take n p) (drop n p) z) ∙ ap (λ (x : List ℕ). x ++ z) (take-append-drop n p) ∙ e in
    let both = append_same (take n p) earlier (drop n p ++ z) later (length-take-le n p le) front_is in
    (drop n p, sym (take-append-drop n p) ∙ ap (λ (x : List ℕ). x ++ drop n p) both.0, sym both.1)

-- ---- no stop before the place

pub Passed : Bar → Syntax → (start : ℕ) → List ℕ → ℕ → Type 0
Passed bar s start p n =
    (earlier later : List ℕ) (g : Front) → p ≡ earlier ++ later → length earlier < n → SpellsFront s g earlier → stop_at bar s start g (start + length earlier) later ≡ None

pub passed_none : (bar : Bar) (s : Syntax) (start : ℕ) (p : List ℕ) → Passed bar s start p 0
unfolding Passed
passed_none bar s start p earlier later g e lt h = absurd (omega arith)

pub passed_extends : (bar : Bar) (s : Syntax) (start : ℕ) (p z : List ℕ) (n : ℕ) → n ≤ length p → Passed bar s start p n → Passed bar s start (p ++ z) n
unfolding Passed
passed_extends bar s start p z n le passed earlier later g e lt h =
    let (mid, p_is, later_is) = begins_with p z earlier later e (omega arith) in
    ap (λ (x : List ℕ). stop_at bar s start g (start + length earlier) x) later_is
    ∙ none_extends bar s start g (start + length earlier) mid z (passed earlier mid g p_is lt h)

-- a place at which no stop applies is passed, with all the bytes behind it that no front ends in
pub passes_place : (bar : Bar) (s : Syntax) (start : ℕ) (read rest : List ℕ) (f : Front) → SpellsFront s f read → stop_at bar s start f (start + length read) rest ≡ None
    → Passed bar s start (read ++ rest) (length read)
    → ((x y : List ℕ) (g : Front) → rest ≡ x ++ y → 0 < length x → length x < length rest → SpellsFront s g (read ++ x) → ⊥)
    → Passed bar s start (read ++ rest) (length (read ++ rest))
unfolding Passed
passes_place bar s start read rest f spelled stop passed within earlier later g e lt h =
    elim (cases_lt (length earlier) (length read)) [
      | inl less ↦ passed earlier later g e less h
      | inr ge ↦
          let (x, earlier_is, rest_is) = begins_with earlier later read rest (sym e) ge in
          let sizes = length-append read x in
          let same_size = ap length earlier_is in
          elim (cases_lt 0 (length x)) [
            | inl some ↦
                let short : length x < length rest = omega (arith, length-append read rest) in
                absurd (within x later g rest_is some short (subst (SpellsFront s g) earlier_is h))
            | inr none ↦
                let x_nil : x ≡ [] = nil_from_length x (omega arith) in
                let earlier_read : earlier ≡ read = earlier_is ∙ ap (λ (y : List ℕ). read ++ y) x_nil ∙ append-nil read in
                let later_rest : later ≡ rest = sym (ap (λ (y : List ℕ). y ++ later) x_nil) ∙ sym rest_is in
                let fronts : g ≡ f = front_same s g f read (subst (SpellsFront s g) earlier_read h) spelled in
                ap (λ (y : Front). stop_at bar s start y (start + length earlier) later) fronts
                ∙ ap (λ (y : List ℕ). stop_at bar s start f (start + length y) later) earlier_read
                ∙ ap (λ (y : List ℕ). stop_at bar s start f (start + length read) y) later_rest
                ∙ stop
          ]
    ]

-- no front ends in a head
pub none_within : (s : Syntax) (f : Front) (read head : List ℕ) (b : ℕ) → SpellsFront s f read → value_open f ≡ false → (WholeHead (next_syntax s f) head → ⊥)
    → (x y : List ℕ) (g : Front) → head ++ b ∷ [] ≡ x ++ y → 0 < length x → length x < length (head ++ b ∷ []) → SpellsFront s g (read ++ x) → ⊥
none_within s f read head b spelled awaits not_whole x y g e some short h =
    elim (between s f g read x spelled awaits h) [
      | inl nil ↦ omega (arith, ap length nil)
      | inr whole ↦
          let (mid, head_is, y_is) = begins_with head (b ∷ []) x y e (omega (arith, length-append head (b ∷ []))) in
          not_whole (subst (WholeHead (next_syntax s f)) (sym head_is) (whole_head_extends (next_syntax s f) x mid whole))
    ]

-- ---- just a head

head_of_size : (s : Syntax) (inner : Level) (around : List Level) (position : ℕ) (head : List ℕ) (b : ℕ) (vr : Vr) → s ≡ inner.syntax → 8 ≤ length (head ++ b ∷ []) → (WholeHead s head → ⊥)
    → FitsHead inner around position (head ++ b ∷ []) → ((tag_at s (head ++ b ∷ [])).group == 0xFFFE) ≡ false → vr_at s (head ++ b ∷ []) ≡ Some vr → length (head ++ b ∷ []) ≡ head_size s vr
head_of_size s inner around position head b vr at eight not_whole (fits_element vr' g' f) g v =
    let z : List ℕ = b ∷ [] in
    let whole : head_size inner.syntax vr' ≤ length (head ++ z) = f.whole in
    let v' : vr_at s (head ++ z) ≡ Some vr' = subst (λ (t : Syntax). vr_at t (head ++ z) ≡ Some vr') (sym at) f.vr_is in
    let le' : head_size s vr' ≤ length (head ++ z) = subst (λ (t : Syntax). head_size t vr' ≤ length (head ++ z)) (sym at) f.whole in
    let same : vr' ≡ vr = some_same vr' vr (sym v' ∙ v) in
    let le : head_size s vr ≤ length (head ++ z) = subst (λ (t : Vr). head_size s t ≤ length (head ++ z)) same le' in
    elim (cases_lt (length head) (head_size s vr)) [
      | inl lt ↦ omega (arith, length-append head z)
      | inr ge ↦
          let min = eight_le_head_size s vr in
          let long : 8 ≤ length head = omega arith in
          absurd (not_whole (record { eight = long; twelve = λ n. (vr, sym v ∙ vr_at_extends s head z long, ge) }))
    ]
head_of_size s inner around position head b vr at eight not_whole (fits_item g' i u f) g v =
    let k : ((tag_at s (head ++ b ∷ [])).group == 0xFFFE) ≡ true = subst (λ (t : Syntax). ((tag_at t (head ++ b ∷ [])).group == 0xFFFE) ≡ true) (sym at) g' in absurd (cc)
head_of_size s inner around position head b vr at eight not_whole (fits_delimiter g' i) g v =
    let k : ((tag_at s (head ++ b ∷ [])).group == 0xFFFE) ≡ true = subst (λ (t : Syntax). ((tag_at t (head ++ b ∷ [])).group == 0xFFFE) ≡ true) (sym at) g' in absurd (cc)

special_of_size : (s : Syntax) (head : List ℕ) (b : ℕ) → 8 ≤ length (head ++ b ∷ []) → (WholeHead s head → ⊥) → ((tag_at s (head ++ b ∷ [])).group == 0xFFFE) ≡ true → length (head ++ b ∷ []) ≡ 8
special_of_size s head b eight not_whole g =
    let z : List ℕ = b ∷ [] in
    elim (cases_lt (length head) 8) [
      | inl lt ↦ omega (arith, length-append head z)
      | inr ge ↦
          let group : (tag_at s head).group ≡ 0xFFFE = sym (ap (λ (t : Tag). t.group) (tag_at_extends s head z (omega arith))) ∙ eqb-true _ _ g in
          absurd (not_whole (record { eight = ge; twelve = λ n. absurd (n group) }))
    ]

pub just_head : (inner : Level) (around : List Level) (position : ℕ) (head : List ℕ) (b : ℕ) → (WholeHead inner.syntax head → ⊥) → Fits inner around position (head ++ b ∷ []) → JustHead inner.syntax (head ++ b ∷ [])
just_head inner around position head b not_whole fits =
    record {
      other = λ g. special_of_size inner.syntax head b fits.eight not_whole g;
      element = λ vr g v. head_of_size inner.syntax inner around position head b vr refl fits.eight not_whole fits.head g v;
    }

-- ---- the reading of each input that begins so

cut_same : (fault : Fault) (offset : ℕ) → is_early fault ≡ false → end_too_long fault offset ≡ refused fault offset
cut_same EndsEarly offset h = absurd (cc)
cut_same fault offset h = refl

told_same : (size : ℕ) (fault : Fault) (offset : ℕ) → is_early fault ≡ false → refused fault offset ≡ told size (refused fault offset)
told_same size fault offset h =
    elim (cases_Bool (nat_lt INPUT_LIMIT size)) [
      | inl e ↦ sym (ap (λ (x : Bool). cond x (at_the_cut (refused fault offset)) (refused fault offset)) e ∙ cut_same fault offset h)
      | inr e ↦ sym (ap (λ (x : Bool). cond x (at_the_cut (refused fault offset)) (refused fault offset)) e)
    ]

told_within : (size : ℕ) (stop : Stop) → size ≤ INPUT_LIMIT → stop ≡ told size stop
told_within size stop le = sym (ap (λ (x : Bool). cond x (at_the_cut stop) stop) (le-ltb INPUT_LIMIT size le))

-- the part of an input that is read
take_behind : (n : ℕ) (p later : List ℕ) → length p ≤ n → take n (p ++ later) ≡ p ++ take (n - length p) later
take_behind n p later le =
    let e : n ≡ length p + (n - length p) = omega arith in
    ap (λ (m : ℕ). take m (p ++ later)) e ∙ take-append-add p later (n - length p)

stops_first : (bar : Bar) (s : Syntax) (start : ℕ) (read rest z : List ℕ) (f : Front) (fault : Fault) (offset : ℕ) → SpellsFront s f read
    → stop_at bar s start f (start + length read) rest ≡ Some (refused fault offset) → is_early fault ≡ false
    → Passed bar s start (read ++ rest) (length read) → StopsFirst bar s start ((read ++ rest) ++ z) f (refused fault offset)
unfolding Passed
stops_first bar s start read rest z f fault offset spelled stop decided passed =
    record {
      read = read;
      rest = rest ++ z;
      parts = append_assoc read rest z;
      spelled = spelled;
      stops = stop_extends bar s start f (start + length read) rest z (ap is_undecided stop ∙ decided) ∙ stop;
      first = passed_extends bar s start (read ++ rest) z (length read) (omega (arith, length-append read rest)) passed;
    }

-- a refusal that no byte more changes
pub refused_at : (bar : Bar) (s : Syntax) (start : ℕ) (p read rest : List ℕ) (f : Front) (fault : Fault) (offset : ℕ) → start + length p ≤ INPUT_LIMIT → p ≡ read ++ rest → SpellsFront s f read
    → stop_at bar s start f (start + length read) rest ≡ Some (refused fault offset) → is_early fault ≡ false → Passed bar s start p (length read)
    → (later : List ℕ) → Reads bar s start (p ++ later) f (refused fault offset)
refused_at bar s start p read rest f fault offset within parts spelled stop decided passed later =
    let z = take (INPUT_LIMIT - start - length p) later in
    let taken : take (INPUT_LIMIT - start) (p ++ later) ≡ (read ++ rest) ++ z = take_behind (INPUT_LIMIT - start) p later (omega arith) ∙ ap (λ (x : List ℕ). x ++ z) parts in
    let stops = stops_first bar s start read rest z f fault offset spelled stop decided (subst (λ (x : List ℕ). Passed bar s start x (length read)) parts passed) in
    (f, refused fault offset, subst (λ (x : List ℕ). StopsFirst bar s start x f (refused fault offset)) (sym taken) stops, told_same (start + length (p ++ later)) fault offset decided, refl)

stops_here : (bar : Bar) (s : Syntax) (start : ℕ) (p read rest : List ℕ) (f : Front) (stop : Stop) → p ≡ read ++ rest → SpellsFront s f read
    → stop_at bar s start f (start + length read) rest ≡ Some stop → Passed bar s start p (length read) → StopsFirst bar s start p f stop
unfolding Passed
stops_here bar s start p read rest f stop parts spelled at passed = record { read = read; rest = rest; parts = parts; spelled = spelled; stops = at; first = passed }

take_nil : (n : ℕ) → length (take {A = ℕ} n []) ≡ 0
take_nil zero = refl
take_nil (suc n) = refl

-- the input ends here
pub ends_here : (bar : Bar) (s : Syntax) (start : ℕ) (p read rest : List ℕ) (f : Front) (stop : Stop) → start + length p ≤ INPUT_LIMIT → p ≡ read ++ rest → SpellsFront s f read
    → stop_at bar s start f (start + length read) rest ≡ Some stop → Passed bar s start p (length read) → Reads bar s start p (ended stop f) stop
ends_here bar s start p read rest f stop within parts spelled at passed =
    (f, stop, subst (λ (x : List ℕ). StopsFirst bar s start x f stop) (sym (take_all (INPUT_LIMIT - start) p (omega arith))) (stops_here bar s start p read rest f stop parts spelled at passed), told_within (start + length p) stop within, refl)

cut_early : (fault : Fault) (offset : ℕ) → is_early fault ≡ true → end_too_long fault offset ≡ refused TooLong INPUT_LIMIT
cut_early EndsEarly offset h = refl
cut_early fault offset h = absurd (cc)

cut_there : (stop : Stop) → is_undecided (Some stop) ≡ true → at_the_cut stop ≡ refused TooLong INPUT_LIMIT
cut_there complete h = refl
cut_there (refused fault offset) h = cut_early fault offset h

-- more bytes come than are read
pub too_long_at : (bar : Bar) (s : Syntax) (start : ℕ) (p read rest : List ℕ) (b : ℕ) (f : Front) (stop : Stop) → start + length p ≡ INPUT_LIMIT → p ≡ read ++ rest → SpellsFront s f read
    → stop_at bar s start f (start + length read) rest ≡ Some stop → is_undecided (Some stop) ≡ true → Passed bar s start p (length read)
    → (later : List ℕ) → Reads bar s start ((p ++ b ∷ []) ++ later) f (refused TooLong INPUT_LIMIT)
too_long_at bar s start p read rest b f stop at_limit parts spelled at undecided passed later =
    let full : INPUT_LIMIT - start ≡ length p = omega arith in
    let all : (p ++ b ∷ []) ++ later ≡ p ++ b ∷ later = append_assoc p (b ∷ []) later in
    let taken : take (INPUT_LIMIT - start) ((p ++ b ∷ []) ++ later) ≡ p =
    ap (take (INPUT_LIMIT - start)) all ∙ take-append-le (INPUT_LIMIT - start) p (b ∷ later) (omega arith) ∙ take_all (INPUT_LIMIT - start) p (omega arith) in
    let size : INPUT_LIMIT < start + length ((p ++ b ∷ []) ++ later) = omega (arith, ap length all, length-append p (b ∷ later)) in (
      f,
      stop,
      subst (λ (x : List ℕ). StopsFirst bar s start x f stop) (sym taken) (stops_here bar s start p read rest f stop parts spelled at passed),
      sym (ap (λ (x : Bool). cond x (at_the_cut stop) stop) (lt-ltb INPUT_LIMIT (start + length ((p ++ b ∷ []) ++ later)) size) ∙ cut_there stop undecided),
      refl,
    )
