-- Paths without their ends, short ones, and lines of edits.
use Rattle.std.proofs.Common.{◌≡◌, ◌∙◌, ap, sym, refl, ℕ, zero, suc, ◌+◌, ◌-◌, ◌<◌, ◌/◌, ◌%◌, List, [], ◌∷◌, ◌++◌, length, take, Bool, true, false, Some, None, arith}
use Rattle.std.specs.Prelude.{if◌then◌else◌, slice_index, ◌==◌}
use Rattle.std.proofs.lemmas.List.{take_more}
use Rattle.dcm_trees.specs.Beginning as spec
use Rattle.dcm_trees.specs.Beginning.{without_end}
use Rattle.dcm_trees.specs.Lines.{mask_lines, line_where}

abbrev ended : (slashes : Bool) → (x : ℕ) → (end : List ℕ) → List ℕ
ended slashes x end = elim end [ [] ↦ if spec.is_left_out slashes x then [] else x ∷ [] | c ∷ cs ↦ x ∷ c ∷ cs ]

pub left : (slashes : Bool) (front : List ℕ) (b : ℕ) → spec.is_left_out slashes b ≡ true → spec.without_end slashes (front ++ b ∷ []) ≡ spec.without_end slashes front
unfolding without_end
left slashes [] b is = ap (λ (t : Bool). if t then [] else b ∷ []) is
left slashes (x ∷ xs) b is = ap (ended slashes x) (left slashes xs b is)

kept_more : (slashes : Bool) (x : ℕ) (xs : List ℕ) (b : ℕ) → ended slashes x (xs ++ b ∷ []) ≡ x ∷ (xs ++ b ∷ [])
kept_more slashes x [] b = refl
kept_more slashes x (y ∷ ys) b = refl

pub kept : (slashes : Bool) (front : List ℕ) (b : ℕ) → spec.is_left_out slashes b ≡ false → spec.without_end slashes (front ++ b ∷ []) ≡ front ++ b ∷ []
unfolding without_end
kept slashes [] b is = ap (λ (t : Bool). if t then [] else b ∷ []) is
kept slashes (x ∷ xs) b is = ap (ended slashes x) (kept slashes xs b is) ∙ kept_more slashes x xs b

pub nothing_left : (slashes : Bool) → spec.without_end slashes [] ≡ []
unfolding without_end
nothing_left slashes = refl

pub one_left : (slashes : Bool) (path : List ℕ) (n : ℕ) → n < length path → spec.is_left_out slashes (slice_index path n) ≡ true → spec.without_end slashes (take (n + 1) path) ≡ spec.without_end slashes (take n path)
one_left slashes path n inside is = ap (spec.without_end slashes) (take_more path n _ inside) ∙ left slashes (take n path) (slice_index path n) is

pub none_left : (slashes : Bool) (path : List ℕ) (n : ℕ) → n < length path → spec.is_left_out slashes (slice_index path n) ≡ false → spec.without_end slashes (take (n + 1) path) ≡ take (n + 1) path
none_left slashes path n inside is =
    ap (spec.without_end slashes) (take_more path n _ inside) ∙ kept slashes (take n path) (slice_index path n) is ∙ sym (take_more path n _ inside)

-- ---- paths that are short enough

none_if : (b : Bool) (path : List ℕ) → None ≡ (if b then Some path else None) → b ≡ false
none_if true path e = absurd (cc)
none_if false path e = refl

some_if : (b : Bool) (path way : List ℕ) → Some way ≡ (if b then Some path else None) → (b ≡ true) × (way ≡ path)
some_if true path way e = (refl, cc)
some_if false path way e = absurd (cc)

pub too_long : (path : List ℕ) → None ≡ spec.short path → spec.is_short path ≡ false
too_long path e = none_if (spec.is_short path) path e

pub short_enough : (path way : List ℕ) → Some way ≡ spec.short path → (spec.is_short path ≡ true) × (way ≡ path)
short_enough path way e = some_if (spec.is_short path) path way e

-- ---- lines of edits

pub lines_none : (name : List ℕ) (count n mask : ℕ) → count ≡ 0 → mask_lines name count n mask ≡ []
unfolding mask_lines
lines_none name zero n mask e = refl
lines_none name (suc count) n mask e = absurd (omega (arith, e))

lines_suc : (name : List ℕ) (fewer n mask : ℕ) → mask_lines name (suc fewer) n mask ≡ line_where name (mask % 2 == 1) n ++ mask_lines name fewer (suc n) (mask / 2)
unfolding mask_lines
lines_suc name fewer n mask = refl

pub lines_more : (name : List ℕ) (count n mask : ℕ) → 0 < count → mask_lines name count n mask ≡ line_where name (mask % 2 == 1) n ++ mask_lines name (count - 1) (n + 1) (mask / 2)
lines_more name zero n mask some = absurd (omega (arith, some))
lines_more name (suc fewer) n mask some =
    let one : fewer ≡ suc fewer - 1 = omega arith in
    let next : suc n ≡ n + 1 = omega arith in
    lines_suc name fewer n mask
    ∙ ap (λ (count : ℕ). line_where name (mask % 2 == 1) n ++ mask_lines name count (suc n) (mask / 2)) one
    ∙ ap (λ (edit : ℕ). line_where name (mask % 2 == 1) n ++ mask_lines name (suc fewer - 1) edit (mask / 2)) next
