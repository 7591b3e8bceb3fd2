-- What a value on its way comes to over any bytes.
use Rattle.std.proofs.Common.{◌≡◌, ◌≢◌, ◌∙◌, ap, sym, subst, refl, ℕ, zero, suc, ◌+◌, ◌*◌, ◌/◌, ◌%◌, ◌==◌, ◌<◌, List, [], ◌∷◌, ◌++◌, append_assoc, length, take, drop, flat_map, Bool, true, false, cond, Option, inl, arith}
use Rattle.std.specs.Prelude.{fold, Result, Ok, Err, IsErr}
use Rattle.std.specs.Io.KnownBytes.{append_known}
use Rattle.std.proofs.lemmas.Bool.Decides.{eqb_tells}
use mathlib.Core.Logic.{⊎_elim}
use Rattle.std.proofs.lemmas.Nat.{div-add-mod'}
use Rattle.std.proofs.lemmas.List.{length-append, append-nil, length-take, length-drop, take-append-drop}
use Rattle.dcm_lemmas.proofs.Options.{known_nothing}
use Rattle.dcm_base.specs.Steps.Steps.{outputs, Goes}
use Rattle.dcm_devices.specs.Device.{AppendsFront, Puts}
use Rattle.dcm_base.specs.Tree.Value.{units, rest_part, turned}
use Rattle.dcm_base.proofs.Conversions.UnitLaws.{units_cons, units_none, cut, left, cut_units}
use Rattle.dcm_base.proofs.Conversions.Order.{rest_cons, rest_short, turned_cons, turned_short}
use Rattle.std.proofs.lemmas.Grind.{flat_map-append}
use Rattle.dcm_devices.proofs.Writes.Puts.{puts_behind, front_longer}
use Rattle.dcm_value.proofs.UnitOrder.Pieces.{units_append}
use Rattle.dcm_value.proofs.UnitOrder.Buffers.{Fed, fed_parts, first_size, both_size}
use Rattle.dcm_sinks.specs.EncodeSink.{Copying, copies, copy_writes, ordered}

-- with other bytes held back
abbrev pub holding : Copying → List ℕ → Copying
holding c held = record c { held = held }

module _ (k : ℕ) (some : 0 < k) where
  -- what is left of the last unit is the rest
  pub left_rest : (h v : List ℕ) → length h < k → left k some h v ≡ rest_part k (h ++ v)
  unfolding left
  left_rest h [] l = sym (ap (rest_part k) (append-nil h) ∙ rest_short k some h l)
  left_rest h (b ∷ bs) l =
      let u : List ℕ = h ++ b ∷ [] in
      let long : length u ≡ length h + 1 = length-append h (b ∷ []) in
      ⊎_elim
      (λ t. ap (λ t. cond t (left k some [] bs) (left k some u bs)) t.0 ∙ left_rest [] bs some ∙ sym (rest_cons k some u bs t.1) ∙ ap (rest_part k) (append_assoc h (b ∷ []) bs))
      (λ t. ap (λ t. cond t (left k some [] bs) (left k some u bs)) t.0 ∙ left_rest u bs (let ne : length u ≢ k = t.1 in omega arith) ∙ ap (rest_part k) (append_assoc h (b ∷ []) bs))
      (eqb_tells (length u) k)

  -- whole units in front of fewer bytes than a unit
  pub units_ordered : (t : Bool) (n : ℕ) (whole tail : List ℕ) → length whole ≡ n * k → length tail < k → flat_map (ordered t) (units k (whole ++ tail)) ≡ cond t (turned k whole) whole
  units_ordered t zero [] tail e l = ap (flat_map (ordered t)) (units_none k some tail l) ∙ none t
    where
      none : (t : Bool) → [] ≡ cond t (turned k []) []
      none true = sym (turned_short k some [] some)
      none false = refl
  units_ordered t zero (x ∷ whole) tail e l = absurd (omega arith)
  units_ordered t (suc n) whole tail e l =
      let u : List ℕ = take k whole in
      let w : List ℕ = drop k whole in
      let parts : u ++ w ≡ whole = take-append-drop k whole in
      let more : suc n * k ≡ k + n * k = omega arith in
      let is_unit : length u ≡ k = omega (arith, length-take k whole) in
      let others : length w ≡ n * k = omega (arith, length-drop k whole) in
      ap (λ x. flat_map (ordered t) (units k (x ++ tail))) (sym parts)
      ∙ ap (λ x. flat_map (ordered t) (units k x)) (append_assoc u w tail)
      ∙ ap (flat_map (ordered t)) (units_cons k some u (w ++ tail) is_unit)
      ∙ ap (λ z. ordered t u ++ z) (units_ordered t n w tail others l)
      ∙ joined t u w is_unit
      ∙ ap (λ x. cond t (turned k x) x) parts
    where
      joined : (t : Bool) (u w : List ℕ) → length u ≡ k → ordered t u ++ cond t (turned k w) w ≡ cond t (turned k (u ++ w)) (u ++ w)
      joined true u w e = sym (turned_cons k some u w e)
      joined false u w e = refl

  pub rest_tail : (n : ℕ) (whole tail : List ℕ) → length whole ≡ n * k → length tail < k → rest_part k (whole ++ tail) ≡ tail
  rest_tail zero [] tail e l = rest_short k some tail l
  rest_tail zero (x ∷ whole) tail e l = absurd (omega arith)
  rest_tail (suc n) whole tail e l =
      let u : List ℕ = take k whole in
      let w : List ℕ = drop k whole in
      let parts : u ++ w ≡ whole = take-append-drop k whole in
      let more : suc n * k ≡ k + n * k = omega arith in
      let is_unit : length u ≡ k = omega (arith, length-take k whole) in
      let others : length w ≡ n * k = omega (arith, length-drop k whole) in
      ap (λ x. rest_part k (x ++ tail)) (sym parts) ∙ ap (rest_part k) (append_assoc u w tail) ∙ rest_cons k some u (w ++ tail) is_unit ∙ rest_tail n w tail others l

-- over bytes, units go out as they become whole
pub copies_left : (c : Copying) (some : 0 < c.unit) (bytes : List ℕ) → fold copies c bytes ≡ holding c (left c.unit some c.held bytes)
unfolding left
copies_left c some [] = refl
copies_left c some (b ∷ bs) = copies_left (copies c b) some bs ∙ by_test (length (c.held ++ b ∷ []) == c.unit)
  where
    by_test : (t : Bool) → holding c (left c.unit some (cond t [] (c.held ++ b ∷ [])) bs) ≡ holding c (cond t (left c.unit some [] bs) (left c.unit some (c.held ++ b ∷ []) bs))
    by_test true = refl
    by_test false = refl

pub copies_cut : (c : Copying) (some : 0 < c.unit) (bytes : List ℕ) → outputs copies copy_writes c bytes ≡ flat_map (ordered c.is_turned) (cut c.unit some c.held bytes)
unfolding cut
copies_cut c some [] = refl
copies_cut c some (b ∷ bs) = ap (λ z. copy_writes c b ++ z) (copies_cut (copies c b) some bs) ∙ by_test (length (c.held ++ b ∷ []) == c.unit)
  where
    by_test : (t : Bool)
        → cond t (ordered c.is_turned (c.held ++ b ∷ [])) [] ++ flat_map (ordered c.is_turned) (cut c.unit some (cond t [] (c.held ++ b ∷ [])) bs)
        ≡ flat_map (ordered c.is_turned) (cond t ((c.held ++ b ∷ []) ∷ cut c.unit some [] bs) (cut c.unit some (c.held ++ b ∷ []) bs))
    by_test true = refl
    by_test false = refl

module _ (c : Copying) (some : 0 < c.unit) (short : length c.held < c.unit) where
  pub copies_rest : (bytes : List ℕ) → fold copies c bytes ≡ holding c (rest_part c.unit (c.held ++ bytes))
  copies_rest bytes = copies_left c some bytes ∙ ap (holding c) (left_rest c.unit some c.held bytes short)

  pub copies_units : (bytes : List ℕ) → outputs copies copy_writes c bytes ≡ flat_map (ordered c.is_turned) (units c.unit (c.held ++ bytes))
  copies_units bytes = copies_cut c some bytes ∙ ap (flat_map (ordered c.is_turned)) (cut_units c.unit some c.held bytes short)

  -- bytes that come to whole units and more of them, and fewer bytes than a unit after them
  module _ (bytes first others tail : List ℕ) (fed : Fed c.unit c.held bytes first others tail) where
    abbrev k : ℕ
    k = c.unit

    abbrev out : List ℕ → List ℕ
    out v = cond c.is_turned (turned k v) v

    abbrev n : ℕ
    n = length first / k

    abbrev m : ℕ
    m = length others / k

    fed_state : fold copies c bytes ≡ holding c tail
    fed_state =
        copies_rest bytes ∙ ap (λ v. holding c (rest_part k v)) (fed_parts fed) ∙ ap (holding c) (rest_tail k some (n + m) (first ++ others) tail (both_size fed) fed.left)

    fed_bytes : outputs copies copy_writes c bytes ≡ out first ++ out others
    fed_bytes =
        copies_units bytes
        ∙ ap (λ v. flat_map (ordered c.is_turned) (units k v)) fed.all
        ∙ ap (flat_map (ordered c.is_turned)) (units_append k some n first (others ++ tail) (first_size fed))
        ∙ flat_map-append (ordered c.is_turned) (units k first) (units k (others ++ tail))
        ∙ ap (λ z. z ++ flat_map (ordered c.is_turned) (units k (others ++ tail))) (ap (λ v. flat_map (ordered c.is_turned) (units k v)) (sym (append-nil first)) ∙ units_ordered k some c.is_turned n first [] (first_size fed) some)
        ∙ ap (λ z. out first ++ z) (units_ordered k some c.is_turned m others tail (sym fed.whole) fed.left)

    pub fed_stops : {T E : Type 0} (held holds : Option (List ℕ)) (new : Copying) (r : Result T E) → IsErr r → AppendsFront held holds (cond c.is_turned (turned c.unit first) first) → Goes copies copy_writes c held new holds bytes r
    fed_stops held holds new (Ok x) e front = cc
    fed_stops held holds new (Err x) e front = subst (AppendsFront held holds) (sym fed_bytes) (front_longer (out others) front)

    pub fed_goes : {T E : Type 0} (held mid holds : Option (List ℕ)) (new : Copying) (r : Result T E) → new ≡ holding c tail → mid ≡ append_known held (cond c.is_turned (turned c.unit first) first) → Puts mid holds (cond c.is_turned (turned c.unit others) others) r
        → Goes copies copy_writes c held new holds bytes r
    fed_goes held mid holds new r state went puts = by_result r (subst (λ bs. Puts held holds bs r) (sym fed_bytes) (puts_behind held mid holds (out first) (out others) r went puts))
      where
        by_result : {T E : Type 0} (r : Result T E) → Puts held holds (outputs copies copy_writes c bytes) r → Goes copies copy_writes c held new holds bytes r
        by_result (Ok x) put = (state ∙ sym fed_state, put)
        by_result (Err x) put = put

without_rest : (q r n : ℕ) → q + r ≡ n → r ≡ 0 → q ≡ n
without_rest q r n e z = omega (arith, e, z)

-- bytes that are whole units, with none begun before them
pub whole_fed : (k : ℕ) → 0 < k → (held bytes : List ℕ) → held ≡ [] → length bytes % k ≡ 0 → Fed k held bytes [] bytes []
whole_fed k some held bytes none whole = record {
  all = ap (λ (h : List ℕ). h ++ bytes) none ∙ sym (append-nil bytes);
  one = inl refl;
  whole = without_rest (length bytes / k * k) (length bytes % k) (length bytes) (div-add-mod' (length bytes) k) whole;
  left = some;
}

pub whole_goes : {T E : Type 0} (c : Copying) (some : 0 < c.unit) (bytes : List ℕ) → c.held ≡ [] → length bytes % c.unit ≡ 0
    → (held holds : Option (List ℕ)) (r : Result T E) → Puts held holds (cond c.is_turned (turned c.unit bytes) bytes) r
    → Goes copies copy_writes c held c holds bytes r
whole_goes c some bytes none whole held holds r put =
    let short : length c.held < c.unit = subst (λ (h : List ℕ). length h < c.unit) (sym none) some in
    fed_goes c some short bytes [] bytes [] (whole_fed c.unit some c.held bytes none whole) held held holds c r (ap (holding c) none)
    (sym (known_nothing held) ∙ ap (append_known held) (nothing c.is_turned)) put
  where
    nothing : (t : Bool) → [] ≡ cond t (turned c.unit []) []
    nothing true = sym (turned_short c.unit some [] some)
    nothing false = refl
