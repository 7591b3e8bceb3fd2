use Rattle.std.proofs.Common.{rules, refl, ap, ◌≡◌, ◌∙◌, ◌++◌, ◌∷◌, [], length, ℕ, List, slice_index_or}
use Rattle.dcm_base.specs.Dump.ValueText.{tag_text}
use Rattle.dcm_sinks.proofs.dump.layout.start_text.Goals as goal

-- two letters and a space
pair : (l : List ℕ) → length l ≡ 2 → slice_index_or l 0 0 ∷ slice_index_or l 1 0 ∷ 32 ∷ [] ≡ l ++ 32 ∷ []
pair [] e = absurd cc
pair (x ∷ []) e = absurd cc
pair (x ∷ y ∷ []) e = refl
pair (x ∷ y ∷ z ∷ more) e = absurd cc

-- the eleven bytes of a tag, a space, and what follows
abbrev start : List ℕ → List ℕ → List ℕ
start t after =
    slice_index_or t 0 0 ∷ slice_index_or t 1 0 ∷ slice_index_or t 2 0 ∷ slice_index_or t 3 0 ∷ slice_index_or t 4 0 ∷ slice_index_or t 5 0
    ∷ slice_index_or t 6 0 ∷ slice_index_or t 7 0 ∷ slice_index_or t 8 0 ∷ slice_index_or t 9 0 ∷ slice_index_or t 10 0 ∷ 32 ∷ after

pub returns : goal.returns
returns c =
    let l = c.args.letters in
    let two : length l ≡ 2 = search rules in
    ap (λ t. start t (slice_index_or l 0 0 ∷ slice_index_or l 1 0 ∷ 32 ∷ [])) c.text.ensures
    ∙ ap (λ after. (tag_text c.args.tag.group c.args.tag.element ++ 32 ∷ []) ++ after) (pair l two)
