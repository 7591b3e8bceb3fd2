-- The rows of the table: their numbers ascend, and one is found by its number.
use Rattle.std.proofs.Common.{◌≡◌, ℕ, Bor, Bool, true, false, ◌==◌, if◌then◌else◌, List, [], ◌∷◌, map, Option, Some, refl, ◌∙◌, sym, ap, subst}
use Rattle.std.specs.Prelude.{find, option_map}
use Rattle.std.specs.List.Sorted.{IsStrictlyIncreasing}
use Rattle.dcm_base.proofs.Dictionaries.ByNumber.{ascend, increasing}
use Rattle.dcm_deid.specs.declared.fate.Fate.{Fate}
use Rattle.dcm_deid.specs.declared.fate.Retain.{Retain}
use Rattle.dcm_base.specs.declared.vr.Vr.{Vr}
use Rattle.dcm_deid.specs.declared.fate.Fate.TheVariants.{Keep}
use Rattle.dcm_deid.specs.declared.fate.Options.{Options}
use Rattle.dcm_deid.specs.Fate.{Action, actions, keeps, fate_in_table}

-- a row as it is in the constant
abbrev pub Row : Type 0
Row = ℕ × Fate × Bor (List Retain)

abbrev pub action_of : Row → Action
action_of row = (row.0, row.1, row.2.now)

actions_ascend : ascend (map (λ (a : Action). a.0) actions) ≡ true
unfolding actions
actions_ascend = refl

pub table_ascends : IsStrictlyIncreasing (map (λ (a : Action). a.0) actions)
table_ascends = increasing _ actions_ascend

same_numbers : (rows : List Row) → map (λ (a : Action). a.0) (map action_of rows) ≡ map (λ (row : Row). row.0) rows
same_numbers [] = refl
same_numbers (row ∷ rows) = ap (λ ns. row.0 ∷ ns) (same_numbers rows)

pub rows_ascend : (rows : List Row) → map action_of rows ≡ actions → IsStrictlyIncreasing (map (λ (row : Row). row.0) rows)
rows_ascend rows is = subst IsStrictlyIncreasing (ap (map (λ (a : Action). a.0)) (sym is) ∙ same_numbers rows) table_ascends

one_more : (b : Bool) (row : Row) (here : Option Action) (there : Option Row) → here ≡ option_map action_of there
    → (if b then Some (action_of row) else here) ≡ option_map action_of (if b then Some row else there)
one_more true row here there p = refl
one_more false row here there p = p

pub found_by_number : (n : ℕ) (rows : List Row) → find (λ (a : Action). a.0 == n) (map action_of rows) ≡ option_map action_of (find (λ (row : Row). row.0 == n) rows)
found_by_number n [] = refl
found_by_number n (row ∷ rows) = one_more (row.0 == n) row _ (find (λ (row : Row). row.0 == n) rows) (found_by_number n rows)

-- the row of the constant gives that of the table
pub row_is : (n : ℕ) (rows : List Row) (o : Option Row) → map action_of rows ≡ actions → o ≡ find (λ (row : Row). row.0 == n) rows
    → find (λ (a : Action). a.0 == n) actions ≡ option_map action_of o
row_is n rows o is found = ap (find (λ (a : Action). a.0 == n)) (sym is) ∙ found_by_number n rows ∙ ap (option_map action_of) (sym found)

-- so an element has the fate of its row, or of its value representation
pub by_row : (options : Options) (vr : Vr) (n number : ℕ) (o : Option Row) → number ≡ n → option_map action_of o ≡ find (λ (a : Action). a.0 == number) actions
    → fate_in_table options (option_map action_of o) vr ≡ fate_in_table options (find (λ (a : Action). a.0 == n) actions) vr
by_row options vr n number o same found =
    ap (λ f. fate_in_table options f vr) (found ∙ ap (λ m. find (λ (a : Action). a.0 == m) actions) same)

pub kept : (options : Options) (vr : Vr) (row : Row) → keeps options row.2.now ≡ true → Keep ≡ fate_in_table options (Some (action_of row)) vr
kept options vr row e = rw e refl

pub its_own : (options : Options) (vr : Vr) (row : Row) → keeps options row.2.now ≡ false → row.1 ≡ fate_in_table options (Some (action_of row)) vr
its_own options vr row e = rw e refl
