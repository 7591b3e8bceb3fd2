-- Rows whose numbers ascend and are at the places of their remainders, as those of the tables are, and what is found of them.
use Rattle.std.proofs.Common.{◌≡◌, ℕ, zero, suc, ◌+◌, ◌<◌, Bool, true, false, ◌&&◌, ◌==◌, if◌then◌else◌, nat_lt, List, [], ◌∷◌, length, map, get_or, Option, Some, None, option_map, Bor, refl, sym, ap, subst, arith, ◌∙◌, ◌%◌}
use Rattle.std.specs.Prelude.{◌≢◌}
use Rattle.std.specs.List.{slice_index}
use Rattle.std.specs.List.Sorted.{IsStrictlyIncreasing}
use Rattle.std.proofs.lemmas.Bool.Decides.{nat_tests}
use Rattle.std.proofs.lemmas.List.{get_or-map, length-map}
use Rattle.std.proofs.lemmas.List.Kept.{AllPairs-from_increasing}
use Rattle.std.proofs.lemmas.List.Recursion.{found_at, found_nowhere}
use Rattle.dcm_lemmas.proofs.Truth.{and_second}
use Rattle.dcm_base.specs.declared.vr.Vr.{Vr}
use Rattle.dcm_base.specs.declared.vr.Vr.TheVariants.{AE}
use Rattle.dcm_base.specs.Tables.Dictionary.{Element, elements, ambiguous, numbered, are_placed}
use Rattle.dcm_base.specs.declared.dictionary.extract.TheConstants.{PLACES}
use Rattle.dcm_base.specs.declared.dictionary.ambiguous.TheConstants.{PLACES as AMBIGUOUS_PLACES}

abbrev pub Row : Type 0
Row = ℕ × Vr × Bor (List ℕ)

abbrev no_row : Row
no_row = (0, AE, record { ref_ptr = (0, 0); now = [] })

abbrev pub element_of : Row → Element
element_of r = (r.0, r.1, r.2.now)

abbrev pub answer_of : Row → Vr × List ℕ
answer_of r = (r.1, r.2.now)

-- each number is above the one before it, and the first above n
abbrev ascend_from : ℕ → List ℕ → Bool
ascend_from n [] = true
ascend_from n (x ∷ xs) = nat_lt n x && ascend_from x xs

abbrev pub ascend : List ℕ → Bool
ascend [] = true
ascend (x ∷ xs) = ascend_from x xs

first_above : (n x : ℕ) (b : Bool) → nat_lt n x && b ≡ true → n < x
first_above n x b p = grind (arith, nat_tests)

increasing_from : (n : ℕ) (xs : List ℕ) → ascend_from n xs ≡ true → IsStrictlyIncreasing (n ∷ xs)
increasing_from n [] p k within = absurd (omega arith)
increasing_from n (x ∷ xs) p zero within = first_above n x _ p
increasing_from n (x ∷ xs) p (suc k) within =
    let next : suc k + 1 ≡ suc (k + 1) = omega arith in
    subst (λ m. slice_index (x ∷ xs) k < slice_index (n ∷ x ∷ xs) m) (sym next) (increasing_from x xs (and_second _ _ p) k (omega arith))

pub increasing : (xs : List ℕ) → ascend xs ≡ true → IsStrictlyIncreasing xs
increasing [] p = λ k within. absurd (omega arith)
increasing (x ∷ xs) p = increasing_from x xs p

-- the numbers of the table ascend
pub numbers_ascend : ascend (map (λ e. e.0) elements) ≡ true
unfolding elements
numbers_ascend = refl

same_numbers : (rows : List Row) → map (λ e. e.0) (map element_of rows) ≡ map (λ r. r.0) rows
same_numbers [] = refl
same_numbers (r ∷ rows) = ap (λ ns. r.0 ∷ ns) (same_numbers rows)

ambiguous_numbers_ascend : ascend (map (λ e. e.0) ambiguous) ≡ true
unfolding ambiguous
ambiguous_numbers_ascend = refl

-- so those of its rows do
rows_of_ascend : (table : List Element) → ascend (map (λ e. e.0) table) ≡ true → (rows : List Row) → map element_of rows ≡ table → IsStrictlyIncreasing (map (λ r. r.0) rows)
rows_of_ascend table up rows is =
    subst IsStrictlyIncreasing (same_numbers rows) (subst (λ es. IsStrictlyIncreasing (map (λ e. e.0) es)) (sym is) (increasing _ up))

pub rows_ascend : (rows : List Row) → map element_of rows ≡ elements → IsStrictlyIncreasing (map (λ r. r.0) rows)
rows_ascend = rows_of_ascend elements numbers_ascend

pub ambiguous_rows_ascend : (rows : List Row) → map element_of rows ≡ ambiguous → IsStrictlyIncreasing (map (λ r. r.0) rows)
ambiguous_rows_ascend = rows_of_ascend ambiguous ambiguous_numbers_ascend

-- the first of them is at its place
first_placed : (a i : ℕ) (b : Bool) → (a == i) && b ≡ true → a ≡ i
first_placed a i b p = grind (arith, nat_tests)

-- and so is each
placed_at : (places : List ℕ) (n i : ℕ) (ns : List ℕ) → are_placed places i ns ≡ true → (k : ℕ) → k < length ns → get_or ns k 0 ≡ n → slice_index places (n % length places) ≡ i + k
placed_at places n i [] p k within same = absurd (omega arith)
placed_at places n i (x ∷ ns) p zero within same =
    let here : slice_index places (x % length places) ≡ i = first_placed _ i _ p in
    let there : slice_index places (n % length places) ≡ i = subst (λ m. slice_index places (m % length places) ≡ i) same here in
    omega (arith, there)
placed_at places n i (x ∷ ns) p (suc k) within same =
    let next : slice_index places (n % length places) ≡ (i + 1) + k = placed_at places n (i + 1) ns (and_second _ _ p) k (omega arith) same in
    let along : (i + 1) + k ≡ i + suc k = omega arith in
    next ∙ along

-- the numbers of both tables are
numbers_placed : are_placed PLACES 0 (map (λ e. e.0) elements) ≡ true
unfolding elements
numbers_placed = refl

ambiguous_numbers_placed : are_placed AMBIGUOUS_PLACES 0 (map (λ e. e.0) ambiguous) ≡ true
unfolding ambiguous
ambiguous_numbers_placed = refl

rows_of_placed : (table : List Element) (places : List ℕ) → are_placed places 0 (map (λ e. e.0) table) ≡ true → (rows : List Row) → map element_of rows ≡ table → are_placed places 0 (map (λ r. r.0) rows) ≡ true
rows_of_placed table places placed rows is =
    subst (λ ns. are_placed places 0 ns ≡ true) (same_numbers rows) (subst (λ es. are_placed places 0 (map (λ e. e.0) es) ≡ true) (sym is) placed)

pub rows_placed : (rows : List Row) → map element_of rows ≡ elements → are_placed PLACES 0 (map (λ r. r.0) rows) ≡ true
rows_placed = rows_of_placed elements PLACES numbers_placed

pub ambiguous_rows_placed : (rows : List Row) → map element_of rows ≡ ambiguous → are_placed AMBIGUOUS_PLACES 0 (map (λ r. r.0) rows) ≡ true
ambiguous_rows_placed = rows_of_placed ambiguous AMBIGUOUS_PLACES ambiguous_numbers_placed

-- a number that another is not
not_here : (a b : ℕ) → (a ≡ b → (a == b) ≡ false) → (a == b) ≡ false
not_here a b other = grind (arith, nat_tests, other)

module _ (n : ℕ) where
  abbrev has_number : Row → Bool
  has_number r = r.0 == n

  abbrev look_up : List Row → Option (Vr × List ℕ)
  look_up rows = numbered (map element_of rows) n

  first_or_rest : (b : Bool) (r : Row) (rest : Option Element) → option_map (λ e. (e.1, e.2)) (if b then Some (element_of r) else rest) ≡ (if b then Some (answer_of r) else option_map (λ e. (e.1, e.2)) rest)
  first_or_rest true r rest = refl
  first_or_rest false r rest = refl

  looks_on : (r : Row) (rows : List Row) → look_up (r ∷ rows) ≡ (if has_number r then Some (answer_of r) else look_up rows)
  looks_on r rows = first_or_rest (has_number r) r _

  module _ (rows : List Row) (up : IsStrictlyIncreasing (map (λ r. r.0) rows)) where
    -- an earlier row has a smaller number
    earlier : (i j : ℕ) (d : Row) → i < j → j < length rows → (get_or rows i d).0 < (get_or rows j d).0
    earlier i j d lt within =
        let long : length (map (λ r. r.0) rows) ≡ length rows = length-map rows (λ r. r.0) in
        omega (arith, AllPairs-from_increasing _ up i j 0 lt (omega arith), get_or-map (λ (r : Row). r.0) rows i d 0 (omega arith), get_or-map (λ (r : Row). r.0) rows j d 0 within)

    -- a row that has the number is the first that has it
    pub found_at_place : (i : ℕ) (d : Row) → i < length rows → (get_or rows i d).0 ≡ n → look_up rows ≡ Some (answer_of (get_or rows i d))
    found_at_place i d within same =
        let none_before : (k : ℕ) → k < i → has_number (get_or rows k d) ≡ false = λ k lt. let less = earlier k i d lt within in grind (arith, nat_tests) in
        found_at look_up has_number (λ r. Some (answer_of r)) None refl looks_on rows i d within none_before (grind (arith, nat_tests))

    -- a row that has the number is at the place of its remainder
    has_place : (places : List ℕ) → are_placed places 0 (map (λ r. r.0) rows) ≡ true → (k : ℕ) → k < length rows → (get_or rows k no_row).0 ≡ n → slice_index places (n % length places) ≡ k
    has_place places placed k within same =
        let long : length (map (λ r. r.0) rows) ≡ length rows = length-map rows (λ r. r.0) in
        let mapped : get_or (map (λ r. r.0) rows) k 0 ≡ (get_or rows k no_row).0 = get_or-map (λ (r : Row). r.0) rows k no_row 0 within in
        let whole : slice_index places (n % length places) ≡ 0 + k = placed_at places n 0 (map (λ r. r.0) rows) placed k (omega arith) (mapped ∙ same) in
        omega (arith, whole)

    -- so where the row at that place does not have it, or there is none, no row has it
    pub missed_at_place : (places : List ℕ) (at : ℕ) → are_placed places 0 (map (λ r. r.0) rows) ≡ true → at ≡ slice_index places (n % length places) → (at < length rows → (get_or rows at no_row).0 ≢ n) → look_up rows ≡ None
    missed_at_place places at placed is other =
        let none : (k : ℕ) → k < length rows → has_number (get_or rows k no_row) ≡ false =
        λ k within. not_here _ _ (λ same.
        let here : at ≡ k = is ∙ has_place places placed k within same in
        let there : (get_or rows at no_row).0 ≡ n = subst (λ j. (get_or rows j no_row).0 ≡ n) (sym here) same in
        absurd (other (omega (arith, here, within)) there))
        in
        found_nowhere look_up has_number (λ r. Some (answer_of r)) None refl looks_on rows no_row none
