-- A value in the order of a syntax, unit by unit.
use Rattle.std.proofs.Common.{◌≡◌, ◌≤◌, ◌<◌, ℕ, zero, suc, ◌+◌, ◌*◌, ◌/◌, List, [], ◌∷◌, ◌++◌, length, take, drop, reverse, map, flat_map, ap, sym, ◌∙◌, arith, refl, append_assoc}
use Rattle.std.proofs.lemmas.Bool.{cases_lt}
use mathlib.Core.Logic.{⊎_elim}
use Rattle.std.proofs.lemmas.List.{length-append, append-nil, length-reverse, length-take, length-drop, take-append-drop}
use Rattle.std.proofs.Math.Seq.{drop-append-add}
use Rattle.std.proofs.Math.Nat.{div-eq_of_lt, add-div_left}
use Rattle.dcm_base.specs.Tree.Value.{units, rest_part, turned}
use Rattle.dcm_base.proofs.Conversions.UnitLaws.{units_cons, units_none}

module _ (k : ℕ) (some : 0 < k) where
  rest_cons : (u w : List ℕ) → length u ≡ k → rest_part k (u ++ w) ≡ rest_part k w
  rest_cons u w e =
      let q : length (u ++ w) / k ≡ length w / k + 1 = ap (λ n. n / k) (length-append u w ∙ ap (λ n. n + length w) e) ∙ add-div_left (length w) some in
      ap (λ n. drop (n * k) (u ++ w)) q
      ∙ ap (λ n. drop n (u ++ w)) (let m : (length w / k + 1) * k ≡ length u + length w / k * k = omega arith in m)
      ∙ drop-append-add u w (length w / k * k)

  turned_cons : (u w : List ℕ) → length u ≡ k → turned k (u ++ w) ≡ reverse u ++ turned k w
  turned_cons u w e =
      ap (λ us. flat_map reverse us ++ rest_part k (u ++ w)) (units_cons k some u w e)
      ∙ ap (λ zs. (reverse u ++ flat_map reverse (units k w)) ++ zs) (rest_cons u w e)
      ∙ append_assoc (reverse u) _ _

  turned_short : (v : List ℕ) → length v < k → turned k v ≡ v
  turned_short v l =
      ap (λ us. flat_map reverse us ++ rest_part k v) (units_none k some v l)
      ∙ ap (λ n. drop (n * k) v) (div-eq_of_lt l)
      ∙ ap (λ n. drop n v) (let e : 0 * k ≡ 0 = omega arith in e)

  turned_unit : (u : List ℕ) → length u ≡ k → turned k u ≡ reverse u
  turned_unit u e = ap (turned k) (sym (append-nil u)) ∙ turned_cons u [] e ∙ ap (λ zs. reverse u ++ zs) (turned_short [] some) ∙ append-nil (reverse u)

  -- of at most n bytes
  turns_within : (n : ℕ) (v : List ℕ) → length v ≤ n → units k (turned k v) ≡ map (turned k) (units k v)
  turns_within zero v l = ap (units k) (turned_short v (omega arith)) ∙ units_none k some v (omega arith) ∙ ap (map (turned k)) (sym (units_none k some v (omega arith)))
  turns_within (suc n) v l =
      ⊎_elim
      (λ short. ap (units k) (turned_short v short) ∙ units_none k some v short ∙ ap (map (turned k)) (sym (units_none k some v short)))
      (λ long.
      let u : List ℕ = take k v in
      let w : List ℕ = drop k v in
      let whole : u ++ w ≡ v = take-append-drop k v in
      let is_unit : length u ≡ k = omega (arith, length-take k v) in
      ap (λ x. units k (turned k x)) (sym whole)
      ∙ ap (units k) (turned_cons u w is_unit)
      ∙ units_cons k some (reverse u) (turned k w) (length-reverse u ∙ is_unit)
      ∙ ap (λ us. reverse u ∷ us) (turns_within n w (omega (arith, length-drop k v)))
      ∙ ap (λ x. x ∷ map (turned k) (units k w)) (sym (turned_unit u is_unit))
      ∙ ap (map (turned k)) (sym (units_cons k some u w is_unit))
      ∙ ap (λ x. map (turned k) (units k x)) whole)
      (cases_lt (length v) k)

  length_within : (n : ℕ) (v : List ℕ) → length v ≤ n → length (turned k v) ≡ length v
  length_within zero v l = ap length (turned_short v (omega arith))
  length_within (suc n) v l =
      ⊎_elim
      (λ short. ap length (turned_short v short))
      (λ long.
      let u : List ℕ = take k v in
      let w : List ℕ = drop k v in
      let whole : u ++ w ≡ v = take-append-drop k v in
      let is_unit : length u ≡ k = omega (arith, length-take k v) in
      ap (λ x. length (turned k x)) (sym whole)
      ∙ ap length (turned_cons u w is_unit)
      ∙ length-append (reverse u) (turned k w)
      ∙ ap (λ m. m + length (turned k w)) (length-reverse u)
      ∙ ap (λ m. length u + m) (length_within n w (omega (arith, length-drop k v)))
      ∙ sym (length-append u w)
      ∙ ap length whole)
      (cases_lt (length v) k)

  pub turns_units : (v : List ℕ) → units k (turned k v) ≡ map (turned k) (units k v)
  turns_units v = turns_within (length v) v (omega arith)

  pub keeps_length : (v : List ℕ) → length (turned k v) ≡ length v
  keeps_length v = length_within (length v) v (omega arith)

-- single bytes stay where they are
pub turned_bytes : (v : List ℕ) → turned 1 v ≡ v
turned_bytes [] = turned_short 1 (omega arith) [] (omega arith)
turned_bytes (b ∷ bs) = turned_cons 1 (omega arith) (b ∷ []) bs refl ∙ ap (λ zs. b ∷ zs) (turned_bytes bs)
