-- What a binary search by a number finds in a list whose numbers ascend.
use Rattle.std.proofs.Common.{◌≡◌, ℕ, ◌<◌, ◌≤◌, Bool, true, false, ◌==◌, if◌then◌else◌, List, ◌∷◌, length, map, get_or, Option, Some, None, refl, sym, ap, arith}
use Rattle.std.specs.List.{HoldsAt, find}
use Rattle.std.specs.List.Sorted.{IsStrictlyIncreasing, IsNonDecreasingBy, IsPartitionPoint}
use Rattle.std.specs.Ordering.{nat_cmp, ordering_index}
use Rattle.std.specs.declared.cmp.Ordering.TheVariants.{Less, Equal, Greater}
use Rattle.std.proofs.lemmas.Bool.Decides.{nat_tests}
use Rattle.std.proofs.lemmas.Cmp.{ranked}
use Rattle.std.proofs.lemmas.List.{get_or-map, length-map}
use Rattle.std.proofs.lemmas.List.Kept.{AllPairs-from_increasing}
use Rattle.std.proofs.lemmas.List.Recursion.{found_at, found_nowhere}

module _ {A : Type 0} (key : A → ℕ) (n : ℕ) where
  abbrev has_number : A → Bool
  has_number x = key x == n

  abbrev look_up : List A → Option A
  look_up xs = find has_number xs

  looks_on : (x : A) (xs : List A) → look_up (x ∷ xs) ≡ (if has_number x then Some x else look_up xs)
  looks_on x xs = refl

  module _ (xs : List A) (up : IsStrictlyIncreasing (map key xs)) where
    -- an earlier one has a smaller number
    earlier : (i j : ℕ) (d : A) → i < j → j < length xs → key (get_or xs i d) < key (get_or xs j d)
    earlier i j d lt within =
        let long : length (map key xs) ≡ length xs = length-map xs key in
        omega (arith, AllPairs-from_increasing _ up i j 0 lt (omega arith), get_or-map key xs i d 0 (omega arith), get_or-map key xs j d 0 within)

    -- one that has the number is the first that has it
    pub found_at_place : (i : ℕ) (d : A) → i < length xs → key (get_or xs i d) ≡ n → look_up xs ≡ Some (get_or xs i d)
    found_at_place i d within same =
        let none_before : (k : ℕ) → k < i → has_number (get_or xs k d) ≡ false = λ k lt. let less = earlier k i d lt within in grind (arith, nat_tests) in
        found_at look_up has_number (λ x. Some x) None refl looks_on xs i d within none_before (grind (arith, nat_tests))

    -- so is one that a search finds
    pub found : (i : ℕ) (d : A) → i < length xs → HoldsAt (λ (x : A). nat_cmp (key x) n ≡ Equal) xs i → look_up xs ≡ Some (get_or xs i d)
    found i d within here = found_at_place i d within (ranked _ n _ (sym (here d)))

    -- the comparisons with the number rise along the list, as a binary search asks
    comparisons_rise : IsNonDecreasingBy (λ (x : A). ordering_index (nat_cmp (key x) n)) xs
    comparisons_rise i j d le within =
        let rise : key (get_or xs i d) ≤ key (get_or xs j d) = grind (arith, earlier i j d, λ (same : i ≡ j). ap (λ k. key (get_or xs k d)) same) in
        grind (arith, nat_tests)

    -- between smaller numbers and greater ones none has the number
    in_gap : (none : A) (i : ℕ) → IsPartitionPoint (λ (x : A). nat_cmp (key x) n ≡ Less) (λ (x : A). nat_cmp (key x) n ≡ Greater) xs i → (k : ℕ) → k < length xs → has_number (get_or xs k none) ≡ false
    in_gap none i gap k within =
        let below : k < i → key (get_or xs k none) < n = λ lt. ranked _ n _ (sym (gap.0 k none (omega arith) lt)) in
        let above : i ≤ k → n < key (get_or xs k none) = λ le. ranked _ n _ (sym (gap.1 k none le within)) in
        grind (arith, nat_tests)

    -- where the search ends between two, none has the number
    pub missed : (none : A) (i : ℕ) → (IsNonDecreasingBy (λ (x : A). ordering_index (nat_cmp (key x) n)) xs → IsPartitionPoint (λ (x : A). nat_cmp (key x) n ≡ Less) (λ (x : A). nat_cmp (key x) n ≡ Greater) xs i) → look_up xs ≡ None
    missed none i parted = found_nowhere look_up has_number (λ x. Some x) None refl looks_on xs none (in_gap none i (parted comparisons_rise))
