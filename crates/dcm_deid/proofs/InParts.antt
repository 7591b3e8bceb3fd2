-- Rows in parts by the remainders of their numbers: a row is found in its part as among all.
use Rattle.std.proofs.Common.{◌≡◌, ℕ, zero, suc, ◌<◌, ◌%◌, Bool, true, false, ◌==◌, if◌then◌else◌, List, [], ◌∷◌, length, get_or, Option, Some, refl, sym, ap, ◌∙◌, subst, arith}
use Rattle.std.specs.Prelude.{find, replicate, ◌≢◌}
use Rattle.std.proofs.lemmas.Bool.Decides.{nat_tests}
use Rattle.std.proofs.lemmas.List.{length-replicate, get_or-replicate}

-- a list in front of that at a place
abbrev put : {A : Type 0} → ℕ → A → List (List A) → List (List A)
put i x [] = []
put zero x (xs ∷ rest) = (x ∷ xs) ∷ rest
put (suc i) x (xs ∷ rest) = xs ∷ put i x rest

abbrev pub parts : {A : Type 0} → (A → ℕ) → List A → List (List A)
parts number [] = replicate 256 []
parts number (x ∷ xs) = put (number x % 256) x (parts number xs)

abbrev pub part : {A : Type 0} → List (List A) → ℕ → List A
part rows n = get_or rows (n % 256) []

module _ {A : Type 0} where
  length_put : (i : ℕ) (x : A) (rows : List (List A)) → length (put i x rows) ≡ length rows
  length_put i x [] = refl
  length_put zero x (xs ∷ rest) = refl
  length_put (suc i) x (xs ∷ rest) = ap suc (length_put i x rest)

  put_here : (i : ℕ) (x : A) (rows : List (List A)) → i < length rows → get_or (put i x rows) i [] ≡ x ∷ get_or rows i []
  put_here i x [] within = absurd (omega arith)
  put_here zero x (xs ∷ rest) within = refl
  put_here (suc i) x (xs ∷ rest) within = put_here i x rest (omega (arith, within))

  put_elsewhere : (i j : ℕ) (x : A) (rows : List (List A)) → i ≢ j → get_or (put i x rows) j [] ≡ get_or rows j []
  put_elsewhere i j x [] other = refl
  put_elsewhere zero zero x (xs ∷ rest) other = absurd (other refl)
  put_elsewhere zero (suc j) x (xs ∷ rest) other = refl
  put_elsewhere (suc i) zero x (xs ∷ rest) other = refl
  put_elsewhere (suc i) (suc j) x (xs ∷ rest) other = put_elsewhere i j x rest (λ same. other (ap suc same))

  module _ (number : A → ℕ) (n : ℕ) where
    how_many : (xs : List A) → length (parts number xs) ≡ 256
    how_many [] = length-replicate {A = List A} 256 []
    how_many (x ∷ xs) = length_put (number x % 256) x (parts number xs) ∙ how_many xs

    abbrev found : List A → Option A
    found xs = find (λ x. number x == n) xs

    -- one more row, which is in the part or in another one
    one_more : (x : A) (xs before after : List A) (same : Bool) → (same ≡ true → after ≡ x ∷ before) → (same ≡ false → after ≡ before) → (same ≡ false → (number x == n) ≡ false)
        → found before ≡ found xs → found after ≡ found (x ∷ xs)
    one_more x xs before after true here there other rest = ap found (here refl) ∙ ap (λ o. if number x == n then Some x else o) rest
    one_more x xs before after false here there other rest = ap found (there refl) ∙ rest ∙ ap (λ (b : Bool). if b then Some x else found xs) (sym (other refl))

    pub found_in_part : (xs : List A) → find (λ x. number x == n) (part (parts number xs) n) ≡ find (λ x. number x == n) xs
    found_in_part [] = ap found (get_or-replicate {A = List A} 256 (n % 256) [] [] (omega arith))
    found_in_part (x ∷ xs) =
        let long : length (parts number xs) ≡ 256 = how_many xs in
        one_more x xs (part (parts number xs) n) (part (parts number (x ∷ xs)) n) (number x % 256 == n % 256)
        (λ same. let is : number x % 256 ≡ n % 256 = grind (arith, nat_tests) in
        subst (λ i. get_or (put i x (parts number xs)) (n % 256) [] ≡ x ∷ part (parts number xs) n) (sym is) (put_here (n % 256) x (parts number xs) (omega (arith, long))))
        (λ apart. put_elsewhere (number x % 256) (n % 256) x (parts number xs) (grind (arith, nat_tests)))
        (λ apart. grind (arith, nat_tests))
        (found_in_part xs)
