-- Units one after another.
use Rattle.std.proofs.Common.{◌≡◌, ◌<◌, ℕ, zero, suc, ◌+◌, ◌*◌, min, List, [], ◌∷◌, ◌++◌, length, take, drop, drop-drop, suc-mul, sym, ap, ◌∙◌, arith, append_assoc}
use Rattle.std.proofs.lemmas.Grind.{flat_map-append}
use Rattle.std.proofs.lemmas.List.{append-nil, take-append-drop, length-take, length-drop}
use Rattle.std.proofs.Math.Seq.{drop-length}
use Rattle.std.proofs.lemmas.Bool.{cases_lt}
use mathlib.Core.Logic.{⊎_elim}
use Rattle.dcm_base.proofs.Conversions.UnitLaws.{units_cons, units_none}
use Rattle.dcm_base.specs.Tree.Value.{pieces, units}
use Rattle.dcm_value.specs.Units.{separated}

-- the next piece
pub pieces_more : (n k : ℕ) (v : List ℕ) → pieces (n + 1) k v ≡ pieces n k v ++ take k (drop (k * n) v) ∷ []
pieces_more zero k v = ap (λ m. take k (drop m v) ∷ []) (let e : 0 ≡ k * 0 = omega arith in e)
pieces_more (suc n) k v =
    let goes : k + k * n ≡ k * suc n = omega arith in
    ap (λ m. pieces m k v) (let e : suc n + 1 ≡ suc (n + 1) = omega arith in e)
    ∙ ap (λ us. take k v ∷ us) (pieces_more n k (drop k v))
    ∙ ap (λ w. take k v ∷ (pieces n k (drop k v) ++ take k w ∷ [])) (drop-drop (k * n) k v ∙ ap (λ m. drop m v) goes)

-- its text behind a backslash
pub separated_more : (t : List ℕ → List ℕ) (text before after unit : List ℕ) (us : List (List ℕ)) → text ≡ before ++ separated t us → after ≡ (text ++ 92 ∷ []) ++ t unit → after ≡ before ++ separated t (us ++ unit ∷ [])
separated_more t text before after unit us is one =
    let last : separated t (unit ∷ []) ≡ 92 ∷ t unit = append-nil (92 ∷ t unit) in
    one
    ∙ append_assoc text (92 ∷ []) (t unit)
    ∙ ap (λ xs. xs ++ 92 ∷ t unit) is
    ∙ append_assoc before (separated t us) (92 ∷ t unit)
    ∙ ap (λ xs. before ++ (separated t us ++ xs)) (sym last)
    ∙ ap (λ xs. before ++ xs) (sym (flat_map-append (λ u. 92 ∷ t u) us (unit ∷ [])))

module _ (k : ℕ) (some : 0 < k) where
  -- units before units
  pub units_append : (n : ℕ) (a b : List ℕ) → length a ≡ n * k → units k (a ++ b) ≡ units k a ++ units k b
  units_append zero [] b e = ap (λ us. us ++ units k b) (sym (units_none k some [] some))
  units_append zero (x ∷ xs) b e = absurd (omega arith)
  units_append (suc n) a b e =
      let u : List ℕ = take k a in
      let w : List ℕ = drop k a in
      let whole : u ++ w ≡ a = take-append-drop k a in
      let is_unit : length u ≡ k = omega (arith, length-take k a, suc-mul n k) in
      let rest : length w ≡ n * k = omega (arith, length-drop k a, suc-mul n k) in
      ap (λ x. units k (x ++ b)) (sym whole)
      ∙ ap (units k) (append_assoc u w b)
      ∙ units_cons k some u (w ++ b) is_unit
      ∙ ap (λ us. u ∷ us) (units_append n w b rest)
      ∙ ap (λ us. us ++ units k b) (sym (units_cons k some u w is_unit))
      ∙ ap (λ x. units k x ++ units k b) whole

  -- at most so many units in front, and the others
  pub units_split : (t : List ℕ → List ℕ) (n m : ℕ) (rest front back : List ℕ) → m ≡ min (length rest) (n * k) → front ≡ take m rest → back ≡ drop m rest → separated t (units k rest) ≡ separated t (units k front) ++ separated t (units k back)
  units_split t n m rest front back size f b =
      ap (λ xs. separated t (units k xs)) (sym (take-append-drop m rest))
      ∙ parts
      ∙ ap (λ xs. separated t (units k xs) ++ separated t (units k (drop m rest))) (sym f)
      ∙ ap (λ xs. separated t (units k front) ++ separated t (units k xs)) (sym b)
    where
      apart : units k (take m rest ++ drop m rest) ≡ units k (take m rest) ++ units k (drop m rest)
      apart =
          ⊎_elim
          (λ few.
          let all : m ≡ length rest = omega arith in
          let none : drop m rest ≡ [] = ap (λ j. drop j rest) all ∙ drop-length rest in
          ap (λ xs. units k (take m rest ++ xs)) none
          ∙ ap (units k) (append-nil (take m rest))
          ∙ sym (append-nil (units k (take m rest)))
          ∙ ap (λ us. units k (take m rest) ++ us) (sym (units_none k some [] some))
          ∙ ap (λ xs. units k (take m rest) ++ units k xs) (sym none))
          (λ many. units_append n (take m rest) (drop m rest) (omega (arith, length-take m rest)))
          (cases_lt (length rest) (n * k))

      parts : separated t (units k (take m rest ++ drop m rest)) ≡ separated t (units k (take m rest)) ++ separated t (units k (drop m rest))
      parts = ap (separated t) apart ∙ flat_map-append (λ u. 92 ∷ t u) (units k (take m rest)) (units k (drop m rest))
