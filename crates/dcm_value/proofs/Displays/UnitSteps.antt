-- What the bytes of units lead to.
use Rattle.std.proofs.Common.{◌≡◌, ◌<◌, ◌≤◌, ◌⊎◌, inl, inr, ℕ, zero, suc, ◌+◌, ◌-◌, ◌*◌, ◌/◌, List, [], ◌∷◌, ◌++◌, length, take, drop, codes, ap, sym, ◌∙◌, arith, refl, append_assoc, cond, ne_eqb, subst, suc-mul}
use Rattle.std.specs.Prelude.{Option, Result, Ok, Err, OnOk, IsErr}
use Rattle.std.specs.Io.KnownBytes.{append_known}
use Rattle.std.proofs.lemmas.List.{length-append, append-nil, take-append-drop, take-append-le, drop-append-le, length-take, length-drop}
use Rattle.std.proofs.Math.Seq.{take-append-add, drop-append-add}
use Rattle.std.proofs.Math.Nat.{div-eq_of_lt, add-div_left, mul-div_cancel}
use Rattle.std.proofs.lemmas.Bool.{cases_lt}
use mathlib.Core.Logic.{⊎_elim}
use Rattle.dcm_devices.specs.Device.{Puts, AppendsFront}
use Rattle.dcm_base.specs.Steps.Steps.{outputs, Goes}
use Rattle.dcm_base.specs.Tree.Value.{pieces, units}
use Rattle.dcm_base.specs.Dump.ValueText.{shown_unit}
use Rattle.dcm_base.proofs.Conversions.UnitLaws.{units_cons, units_none}
use Rattle.dcm_devices.proofs.Writes.Puts.{puts_behind, puts_err, front_longer}
use Rattle.dcm_value.specs.declared.way.Way.TheVariants.{InUnits}
use Rattle.dcm_value.specs.Display.{emit, at_once}
use Rattle.dcm_value.specs.Units.{one_text, separated}
use Rattle.dcm_value.specs.Progress.{Progress, way, further, step, writes, counts, separator, shown_after, shown, shows}
use Rattle.dcm_value.proofs.UnitOrder.Buffers.{Fed, fed_parts, both_size}
use Rattle.dcm_value.proofs.Displays.Emits.{IsSettled, emit_twice, emit_settled, emit_mode, once_append}
use Rattle.dcm_value.proofs.Displays.Steps.{Leads, leads_to, leads_on, leads_part, leads_unit, leads_units, leads_goes, waits_as, further_twice, same_progress}

-- where a value was shown, each unit has its backslash
pub shown_later : (values : ℕ) (t : List ℕ → List ℕ) (us : List (List ℕ)) → 0 < values → shown_after values t us ≡ separated t us
shown_later values t [] l = refl
shown_later values t (u ∷ us) l = ap (λ b. cond b [] (codes "\\") ++ (t u ++ separated t us)) (ne_eqb values 0 (λ x. omega (arith, x)))

leads_like : {p : Progress} {v w : List ℕ} {n m : ℕ} {h : List ℕ} {k j : ℕ} {t u : List ℕ} → Leads p v (further p n h k t) t → v ≡ w → n ≡ m → k ≡ j → t ≡ u → Leads p w (further p m h j u) u
leads_like {p} {v} {w} {n} {m} {h} {k} {j} {t} {u} l ev en ek et =
    subst (λ x. Leads p w (further p m h j x) x) et
    (subst (λ x. Leads p w (further p m h x t) t) ek
    (subst (λ x. Leads p w (further p x h k t) t) en
    (subst (λ x. Leads p x (further p n h k t) t) ev l)))

module _ (p : Progress) (is_way : way p ≡ InUnits) (settled : IsSettled p.display) (short : length p.held < shown_unit p.vr) where
  abbrev k : ℕ
  k = shown_unit p.vr

  abbrev one : List ℕ → List ℕ
  one = one_text p.vr p.syntax

  -- bytes that come to n whole units and fewer bytes than a unit
  pub leads_whole : (n : ℕ) (v u tail : List ℕ) → p.held ++ v ≡ u ++ tail → length u ≡ n * shown_unit p.vr → length tail < shown_unit p.vr
      → (let t : List ℕ = shown_after p.values (one_text p.vr p.syntax) (pieces n (shown_unit p.vr) u) in Leads p v (further p (length v) tail n t) t)
  leads_whole zero v [] tail e size l =
      let all : length p.held + length v ≡ length tail = sym (length-append p.held v) ∙ ap length e in
      leads_to (leads_part p v is_way settled (omega arith)) (sym (waits_as p (length v) tail v settled refl (sym e)))
  leads_whole zero v (x ∷ u) tail e size l = absurd (omega arith)
  leads_whole (suc n) v u tail e size l =
      let lacks : ℕ = k - length p.held in
      let s : List ℕ = take lacks v in
      let first : List ℕ = take k u in
      let others : List ℕ = drop k u in
      let full : length p.held + lacks ≡ k = omega arith in
      let many : k ≤ length u = omega (arith, suc-mul n k) in
      let all : length p.held + length v ≡ length u + length tail = sym (length-append p.held v) ∙ ap length e ∙ length-append u tail in
      let unit : p.held ++ s ≡ first = sym (take-append-add p.held v lacks) ∙ ap (λ m. take m (p.held ++ v)) full ∙ ap (take k) e ∙ take-append-le k u tail many in
      let after : drop lacks v ≡ others ++ tail = sym (drop-append-add p.held v lacks) ∙ ap (λ m. drop m (p.held ++ v)) full ∙ ap (drop k) e ∙ drop-append-le k u tail many in
      let taken : length s ≡ lacks = omega (arith, length-take lacks v) in
      let begins : List ℕ = separator p.values ++ one (p.held ++ s) in
      let q1 : Progress = further p (length s) [] 1 begins in
      let sep : List ℕ = separated one (pieces n k others) in
      let q2 : Progress = further q1 (length others) [] n sep in
      let still = emit_settled q1.display sep in
      let left : length others ≡ n * k = omega (arith, length-drop k u, suc-mul n k) in
      let begun : Leads p s q1 begins = leads_unit p s is_way settled (omega arith) (omega arith) in
      let more : Leads q1 others q2 sep = leads_units n q1 others is_way (emit_settled p.display begins) refl (omega arith) left (omega arith) in
      let rest : Leads q2 tail (further q2 (length tail) tail 0 []) [] = leads_to (leads_part q2 tail is_way still (omega arith)) (sym (waits_as q2 (length tail) tail tail still refl refl)) in
      let joined : Leads p (s ++ (others ++ tail)) (further p (length s + (length others + length tail)) tail (1 + (n + 0)) (begins ++ (sep ++ []))) (begins ++ (sep ++ [])) =
      leads_to (leads_on begun (leads_on more rest (emit_mode q1.display sep)) (emit_mode p.display begins))
      (further_twice q1 (length others) (length tail) [] tail n 0 sep [] ∙ further_twice p (length s) (length others + length tail) [] tail 1 (n + 0) begins (sep ++ []))
      in
      leads_like joined
      (ap (λ x. s ++ x) (sym after) ∙ take-append-drop lacks v)
      (omega (arith, length-drop k u))
      (omega arith)
      (ap (λ x. begins ++ x) (append-nil sep) ∙ append_assoc (separator p.values) (one (p.held ++ s)) sep ∙ ap (λ x. separator p.values ++ (one x ++ sep)) unit)

-- a unit or none, and units after it
module _ (p : Progress) (some : 0 < shown_unit p.vr) (others : List ℕ) where
  abbrev text : List ℕ → List ℕ
  text = one_text p.vr p.syntax

  abbrev size : ℕ
  size = shown_unit p.vr

  none_counted : length {A = ℕ} [] / size ≡ 0
  none_counted = div-eq_of_lt some

  one_counted : (first : List ℕ) → length first ≡ size → length first / size ≡ 1
  one_counted first e = ap (λ m. m / size) (e ∙ (let x : size ≡ 1 * size = omega arith in x)) ∙ mul-div_cancel 1 some

  pub shown_twice : (first : List ℕ) → (first ≡ []) ⊎ (length first ≡ shown_unit p.vr) → shown p (first ++ others) ≡ shown p first ++ shown (shows p first) others
  shown_twice first (inl e) =
      ap (λ f. shown p (f ++ others)) e
      ∙ ap (λ n. shown_after n text (units size others)) (let x : p.values ≡ p.values + 0 = omega arith in x ∙ ap (λ n. p.values + n) (sym none_counted ∙ ap (λ f. length f / size) (sym e)))
      ∙ ap (λ us. shown_after p.values text us ++ shown (shows p first) others) (sym (ap (units size) e ∙ units_none size some [] some))
  shown_twice first (inr e) =
      let us : List (List ℕ) = units size others in
      let one : units size first ≡ first ∷ [] = ap (units size) (sym (append-nil first)) ∙ units_cons size some first [] e ∙ ap (λ x. first ∷ x) (units_none size some [] some) in
      let later : shown (shows p first) others ≡ separated text us = shown_later (p.values + length first / size) text us (let c = one_counted first e in omega arith) in
      ap (shown_after p.values text) (units_cons size some first others e)
      ∙ sym (append_assoc (separator p.values) (text first) (separated text us))
      ∙ ap (λ x. (separator p.values ++ x) ++ separated text us) (sym (append-nil (text first)))
      ∙ ap (λ x. shown_after p.values text x ++ separated text us) (sym one)
      ∙ ap (λ x. shown p first ++ x) (sym later)

counts_twice : (p : Progress) (m n : ℕ) (t u : List ℕ) → counts (counts p m t) n u ≡ counts p (m + n) (t ++ u)
counts_twice p m n t u = same_progress p _ _ _ _ _ _ _ _ refl refl (omega arith) (emit_twice p.display t u)

-- units from the first on, and the units after it
module _ (p : Progress) (some : 0 < shown_unit p.vr) (v first others : List ℕ) (none : p.values ≡ 0) (any : 0 < length v) (whole : length v / shown_unit p.vr * shown_unit p.vr ≡ length v)
    (front : first ≡ take (shown_unit p.vr) v) (back : others ≡ drop (shown_unit p.vr) v) where
  abbrev unit : ℕ
  unit = shown_unit p.vr

  abbrev each : List ℕ → List ℕ
  each = one_text p.vr p.syntax

  abbrev later : List ℕ
  later = separated each (units unit others)

  long : unit ≤ length v
  long = ⊎_elim (λ l. absurd (let e : 0 * unit ≡ length v = ap (λ n. n * unit) (sym (div-eq_of_lt l)) ∙ whole in omega arith)) (λ l. l) (cases_lt (length v) unit)

  parts : v ≡ first ++ others
  parts = sym (take-append-drop unit v) ∙ ap (λ x. x ++ drop unit v) (sym front) ∙ ap (λ x. first ++ x) (sym back)

  is_unit : length first ≡ unit
  is_unit = ap length front ∙ (let l = long in omega (arith, length-take unit v))

  first_text : shown p v ≡ each first ++ later
  first_text =
      ap (λ x. shown_after p.values each (units unit x)) parts
      ∙ ap (shown_after p.values each) (units_cons unit some first others is_unit)
      ∙ ap (λ n. separator n ++ (each first ++ later)) none

  first_count : length v / unit ≡ 1 + length others / unit
  first_count =
      ap (λ x. length x / unit) parts ∙ ap (λ n. n / unit) (length-append first others ∙ ap (λ n. n + length others) is_unit) ∙ add-div_left (length others) some ∙ (let e : length others / unit + 1 ≡ 1 + length others / unit = omega arith in e)

  first_emits : at_once p.display.mode (each first) ++ at_once p.display.mode later ≡ at_once p.display.mode (shown p v)
  first_emits = sym (once_append p.display.mode (each first) later) ∙ ap (at_once p.display.mode) (sym first_text)

  module _ {T E : Type 0} (m : Progress) (is : m ≡ counts p 1 (one_text p.vr p.syntax first)) where
    pub others_state : (now : Progress) (r : Result T E) → OnOk r (now ≡ counts m (length others / shown_unit m.vr) (separated (one_text m.vr m.syntax) (units (shown_unit m.vr) others))) → OnOk r (now ≡ shows p v)
    others_state now (Err x) state = tt
    others_state now (Ok x) state =
        state
        ∙ ap (λ q. counts q (length others / shown_unit q.vr) (separated (one_text q.vr q.syntax) (units (shown_unit q.vr) others))) is
        ∙ counts_twice p 1 (length others / unit) (each first) later
        ∙ ap (λ n. counts p n (each first ++ later)) (sym first_count)
        ∙ ap (counts p (length v / unit)) (sym first_text)

    pub others_bytes : (old mid new : Option (List ℕ)) (r : Result T E) → mid ≡ append_known old (at_once p.display.mode (one_text p.vr p.syntax first)) → Puts mid new (at_once m.display.mode (separated (one_text m.vr m.syntax) (units (shown_unit m.vr) others))) r → Puts old new (at_once p.display.mode (shown p v)) r
    unfolding emit
    others_bytes old mid new r went puts =
        let next : Puts mid new (at_once p.display.mode later) r = subst (λ q. Puts mid new (at_once q.display.mode (separated (one_text q.vr q.syntax) (units (shown_unit q.vr) others))) r) is puts in
        subst (λ bs. Puts old new bs r) first_emits (puts_behind old mid new (at_once p.display.mode (each first)) (at_once p.display.mode later) r went next)

  pub first_failed : {T E : Type 0} (old new : Option (List ℕ)) (r : Result T E) → IsErr r → AppendsFront old new (at_once p.display.mode (one_text p.vr p.syntax first)) → Puts old new (at_once p.display.mode (shown p v)) r
  first_failed old new r failed front = puts_err old new _ r failed (subst (AppendsFront old new) first_emits (front_longer (at_once p.display.mode later) front))

-- bytes that were fed to the units
module _ (p : Progress) (v first others tail : List ℕ) (is_way : way p ≡ InUnits) (settled : IsSettled p.display) (short : length p.held < shown_unit p.vr)
    (fed : Fed (shown_unit p.vr) p.held v first others tail) where
  abbrev per : ℕ
  per = shown_unit p.vr

  abbrev q : Progress
  q = record p { seen = p.seen + length v; held = tail }

  positive : 0 < per
  positive = let l = fed.left in omega arith

  abbrev whole_text : List ℕ
  whole_text = shown p first ++ shown (shows p first) others

  abbrev count : ℕ
  count = length first / per + length others / per

  both_pieces : pieces count per (first ++ others) ≡ units per (first ++ others)
  both_pieces = ap (λ n. pieces n per (first ++ others)) (sym (ap (λ n. n / per) (both_size fed) ∙ mul-div_cancel count positive))

  fed_leads : Leads p v (further p (length v) tail count whole_text) whole_text
  fed_leads =
      leads_like (leads_whole p is_way settled short count v (first ++ others) tail (fed_parts fed) (both_size fed) fed.left)
      refl refl refl
      (ap (shown_after p.values (one_text p.vr p.syntax)) both_pieces ∙ shown_twice p positive others first fed.one)

  fed_emits : at_once p.display.mode (shown p first) ++ at_once p.display.mode (shown (shows p first) others) ≡ outputs step writes p v
  fed_emits = sym (fed_leads.bytes ∙ once_append p.display.mode (shown p first) (shown (shows p first) others))

  pub fed_stops : {T E : Type 0} (held holds : Option (List ℕ)) (now : Progress) (r : Result T E) → IsErr r → AppendsFront held holds (at_once p.display.mode (shown p first)) → Goes step writes p held now holds v r
  fed_stops held holds now (Ok x) failed front = cc
  fed_stops held holds now (Err x) failed front = subst (AppendsFront held holds) fed_emits (front_longer (at_once p.display.mode (shown (shows p first) others)) front)

  pub fed_goes : {T E : Type 0} (held mid holds : Option (List ℕ)) (m now : Progress) (r : Result T E) → m ≡ shows (record p { seen = p.seen + length v; held = tail }) first → mid ≡ append_known held (at_once p.display.mode (shown p first))
      → OnOk r (now ≡ shows m others) → Puts mid holds (at_once m.display.mode (shown m others)) r → Goes step writes p held now holds v r
  unfolding emit
  fed_goes {T} {E} held mid holds m now r is went state puts =
      let next : Puts mid holds (at_once p.display.mode (shown (shows p first) others)) r = subst (λ x. Puts mid holds (at_once x.display.mode (shown x others)) r) is puts in
      leads_goes p _ held now holds v whole_text r fed_leads (reached r state)
      (subst (λ bs. Puts held holds bs r) (sym (once_append p.display.mode (shown p first) (shown (shows p first) others))) (puts_behind held mid holds _ _ r went next))
    where
      reached : (r : Result T E) → OnOk r (now ≡ shows m others) → OnOk r (now ≡ further p (length v) tail count whole_text)
      reached (Err x) state = tt
      reached (Ok x) state = state ∙ ap (λ x. shows x others) is ∙ counts_twice q (length first / per) (length others / per) (shown p first) (shown (shows p first) others)
