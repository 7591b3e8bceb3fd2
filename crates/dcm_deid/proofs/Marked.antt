-- Each row of the table has its mark set, so a number whose mark is not set has no row.
use Rattle.std.proofs.Common.{◌≡◌, ℕ, Bool, true, false, ◌&&◌, ◌==◌, if◌then◌else◌, List, [], ◌∷◌, Option, Some, None, refl, sym, ap, ◌∙◌, arith}
use mathlib.Core.Bool.{false≢true}
use Rattle.std.specs.Prelude.{find}
use Rattle.std.proofs.lemmas.Bool.Decides.{nat_tests}
use Rattle.dcm_lemmas.proofs.Truth.{and_first, and_second}
use Rattle.dcm_deid.specs.Fate.{Action, actions}
use Rattle.dcm_deid.specs.Marks.{marks, is_marked}

abbrev all_marked : List ℕ → List Action → Bool
all_marked words [] = true
all_marked words (row ∷ rows) = is_marked words row.0 && all_marked words rows

table_marked : all_marked marks actions ≡ true
unfolding actions marks
table_marked = refl

passed_over : (b : Bool) (row : Action) (rest : Option Action) → b ≡ false → rest ≡ None → (if b then Some row else rest) ≡ None
passed_over true row rest e none = absurd (false≢true (sym e))
passed_over false row rest e none = none

module _ (words : List ℕ) (n : ℕ) (unmarked : is_marked words n ≡ false) where
  differs : (m : ℕ) → is_marked words m ≡ true → (m == n) ≡ false
  differs m marked =
      let apart : m ≡ n → ⊥ = λ same. false≢true (sym unmarked ∙ ap (is_marked words) (sym same) ∙ marked) in
      grind (arith, nat_tests, apart)

  absent : (rows : List Action) → all_marked words rows ≡ true → find (λ (a : Action). a.0 == n) rows ≡ None
  absent [] p = refl
  absent (row ∷ rows) p = passed_over (row.0 == n) row _ (differs row.0 (and_first _ _ p)) (absent rows (and_second _ _ p))

pub no_row : (n : ℕ) → is_marked marks n ≡ false → find (λ (a : Action). a.0 == n) actions ≡ None
no_row n unmarked = absent marks n unmarked actions table_marked
