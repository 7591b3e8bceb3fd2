-- Runs of all shares are one run of their names in another order.
use Rattle.std.proofs.Common.{◌≡◌, ◌≢◌, ◌∙◌, refl, sym, ap, subst, inl, inr, ◌⊎◌, ◌≤◌, ◌<◌, ℕ, ◌%◌, ◌+◌, List, [], ◌∷◌, ◌++◌, Bool, true, false, cond, arith, IsPermutation}
use Rattle.std.proofs.lemmas.Bool.{eq-eqb}
use Rattle.std.proofs.lemmas.Bool.Decides.{eqb_tells}
use Rattle.std.proofs.lemmas.List.Sorted.{IsPermutation-sym}
use Rattle.std.proofs.lemmas.Nat.{mod_below}
use Rattle.std.proofs.Math.Dec.{eqb}
use Rattle.dcm_trees.specs.Share.{hash}
use Rattle.dcm_tree_laws.specs.Ideal.{Outputs, Name, become, put, outputs_after, rows_of, share, outputs_after_all, rows_of_all}
use Rattle.dcm_tree_laws.specs.IdealLaws.{Each, EachTwo, Has, AreAllShares, SharesAreOne}
use Rattle.dcm_tree_laws.proofs.IdealRun.Turned.{Turned, no_more, first_stays, two_turn, and_then, became_of, RunsTurned, run_turned}

-- ---- one run behind another

pub run_append : (continues : Bool) (o : Outputs) (xs ys : List Name) → outputs_after continues o (xs ++ ys) ≡ outputs_after continues (outputs_after continues o xs) ys
run_append continues o [] ys = refl
run_append continues o (n ∷ xs) ys = run_append continues (put (become continues o n.comes) o) xs ys

pub rows_append : (continues : Bool) (o : Outputs) (xs ys : List Name) → rows_of continues o (xs ++ ys) ≡ rows_of continues o xs ++ rows_of continues (outputs_after continues o xs) ys
rows_append continues o [] ys = refl
rows_append continues o (n ∷ xs) ys = ap (λ rows. record { name = n.name; became = become continues o n.comes } ∷ rows) (rows_append continues (put (become continues o n.comes) o) xs ys)

-- the names of these shares, one share behind another
abbrev pub in_turns : (count : ℕ) → (numbers : List ℕ) → List Name → List Name
in_turns count [] names = []
in_turns count (number ∷ numbers) names = share number count names ++ in_turns count numbers names

all_outputs : (continues : Bool) (o : Outputs) (count : ℕ) (numbers : List ℕ) (names : List Name) → outputs_after_all continues o count numbers names ≡ outputs_after continues o (in_turns count numbers names)
all_outputs continues o count [] names = refl
all_outputs continues o count (number ∷ numbers) names =
    all_outputs continues (outputs_after continues o (share number count names)) count numbers names
    ∙ sym (run_append continues o (share number count names) (in_turns count numbers names))

all_rows : (continues : Bool) (o : Outputs) (count : ℕ) (numbers : List ℕ) (names : List Name) → rows_of_all continues o count numbers names ≡ rows_of continues o (in_turns count numbers names)
all_rows continues o count [] names = refl
all_rows continues o count (number ∷ numbers) names =
    ap (λ rows. rows_of continues o (share number count names) ++ rows) (all_rows continues (outputs_after continues o (share number count names)) count numbers names)
    ∙ sym (rows_append continues o (share number count names) (in_turns count numbers names))

-- ---- lists in another order

turned_same : {A : Type 0} (xs : List A) → Turned xs xs
turned_same [] = no_more
turned_same (x ∷ xs) = first_stays (turned_same xs)

turned_behind : {A : Type 0} (front : List A) {xs ys : List A} → Turned xs ys → Turned (front ++ xs) (front ++ ys)
turned_behind [] t = t
turned_behind (x ∷ front) t = first_stays (turned_behind front t)

turned_past : {A : Type 0} (x : A) (front rest : List A) → Turned (x ∷ (front ++ rest)) (front ++ x ∷ rest)
turned_past x [] rest = turned_same (x ∷ rest)
turned_past x (y ∷ front) rest = and_then two_turn (first_stays (turned_past x front rest))

-- ---- the share of a name

not_of : (a b : ℕ) → a ≢ b → ((eqb a b ≡ true) × (a ≡ b)) ⊎ ((eqb a b ≡ false) × (a ≢ b)) → eqb a b ≡ false
not_of a b apart (inl e) = absurd (apart e.1)
not_of a b apart (inr e) = e.0

module _ (count : ℕ) (n : Name) (names : List Name) where
  -- the number of its share
  its : ℕ
  its = hash n.relative % count + 1

  pub in_share : (number : ℕ) → hash n.relative % count + 1 ≡ number → share number count (n ∷ names) ≡ n ∷ share number count names
  in_share number is = ap (λ t. cond t (n ∷ share number count names) (share number count names)) (eq-eqb (hash n.relative % count + 1) number is)

  pub not_in_share : (number : ℕ) → hash n.relative % count + 1 ≢ number → share number count (n ∷ names) ≡ share number count names
  not_in_share number apart =
      ap (λ t. cond t (n ∷ share number count names) (share number count names)) (not_of (hash n.relative % count + 1) number apart (eqb_tells (hash n.relative % count + 1) number))

  in_none : (numbers : List ℕ) → Each (λ number. hash n.relative % count + 1 ≢ number) numbers → in_turns count numbers (n ∷ names) ≡ in_turns count numbers names
  in_none [] apart = refl
  in_none (number ∷ numbers) apart = ap (λ x. x ++ in_turns count numbers (n ∷ names)) (not_in_share number apart.0) ∙ ap (λ x. share number count names ++ x) (in_none numbers apart.1)

  -- its share is the first
  in_first : (number : ℕ) (numbers : List ℕ) → Each (λ other. number ≢ other) numbers → hash n.relative % count + 1 ≡ number → Turned (n ∷ in_turns count (number ∷ numbers) names) (in_turns count (number ∷ numbers) (n ∷ names))
  in_first number numbers apart is =
      subst (Turned (n ∷ in_turns count (number ∷ numbers) names))
      (sym (ap (λ x. x ++ in_turns count numbers (n ∷ names)) (in_share number is) ∙ ap (λ x. n ∷ (share number count names ++ x)) (in_none numbers (subst (λ k. Each (λ m. k ≢ m) numbers) (sym is) apart))))
      (turned_same (n ∷ in_turns count (number ∷ numbers) names))

  -- or one behind that
  in_later : (number : ℕ) (numbers : List ℕ) → hash n.relative % count + 1 ≢ number → Turned (n ∷ in_turns count numbers names) (in_turns count numbers (n ∷ names)) → Turned (n ∷ in_turns count (number ∷ numbers) names) (in_turns count (number ∷ numbers) (n ∷ names))
  in_later number numbers apart more =
      subst (λ x. Turned (n ∷ in_turns count (number ∷ numbers) names) (x ++ in_turns count numbers (n ∷ names))) (sym (not_in_share number apart))
      (and_then (turned_past n (share number count names) (in_turns count numbers names)) (turned_behind (share number count names) more))

  in_either : (number : ℕ) (numbers : List ℕ) → Each (λ other. number ≢ other) numbers
      → ((eqb (hash n.relative % count + 1) number ≡ true) × (hash n.relative % count + 1 ≡ number)) ⊎ ((eqb (hash n.relative % count + 1) number ≡ false) × (hash n.relative % count + 1 ≢ number))
      → Has (hash n.relative % count + 1) (number ∷ numbers) → (Has (hash n.relative % count + 1) numbers → Turned (n ∷ in_turns count numbers names) (in_turns count numbers (n ∷ names)))
      → Turned (n ∷ in_turns count (number ∷ numbers) names) (in_turns count (number ∷ numbers) (n ∷ names))
  in_either number numbers apart (inl e) has more = in_first number numbers apart e.1
  in_either number numbers apart (inr e) (inl is) more = absurd (e.1 is)
  in_either number numbers apart (inr e) (inr has) more = in_later number numbers e.1 (more has)

  pub in_one : (numbers : List ℕ) → Has (hash n.relative % count + 1) numbers → EachTwo ◌≢◌ numbers → Turned (n ∷ in_turns count numbers names) (in_turns count numbers (n ∷ names))
  in_one [] has once = absurd has
  in_one (number ∷ numbers) has once = in_either number numbers once.0 (eqb_tells (hash n.relative % count + 1) number) has (λ more. in_one numbers more once.1)

no_names : (count : ℕ) (numbers : List ℕ) → in_turns count numbers [] ≡ []
no_names count [] = refl
no_names count (number ∷ numbers) = no_names count numbers

least : (k count : ℕ) → k < count → k + 1 ≤ count
least k count less = omega (arith, less)

first : (k : ℕ) → 1 ≤ k + 1
first k = omega arith

all_turned : (count : ℕ) (numbers : List ℕ) → 0 < count → AreAllShares count numbers → (names : List Name) → Turned names (in_turns count numbers names)
all_turned count numbers some all [] = subst (Turned []) (sym (no_names count numbers)) no_more
all_turned count numbers some all (n ∷ names) =
    and_then (first_stays (all_turned count numbers some all names))
    (in_one count n names numbers (all.each (hash n.relative % count + 1) (first (hash n.relative % count)) (least (hash n.relative % count) count (mod_below (hash n.relative) count some))) all.once)

pub shares_are_one : SharesAreOne
shares_are_one continues o names count numbers some all two =
    let turned : RunsTurned continues names (in_turns count numbers names) o o = run_turned continues (all_turned count numbers some all names) two o o (λ p. refl) in (
      λ p. ap (λ u. u p) (all_outputs continues o count numbers names) ∙ sym (turned.outputs p),
      subst (λ rows. IsPermutation (became_of rows) (became_of (rows_of continues o names))) (sym (all_rows continues o count numbers names)) (IsPermutation-sym (became_of (rows_of continues o names)) (became_of (rows_of continues o (in_turns count numbers names))) turned.rows),
    )
