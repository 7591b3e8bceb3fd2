-- Folds and maps over lists.
use Rattle.std.proofs.Common.{◌≡◌, ◌∙◌, sym, ap, refl, ℕ, ◌+◌, ◌<◌, List, [], ◌∷◌, length, take, map, fold, get_or}
use Rattle.dcm_base.proofs.Writes.Runs.{fold_more}

pub fold_map : {A B S : Type 0} (step : S → B → S) (f : A → B) (s : S) (xs : List A) → fold step s (map f xs) ≡ fold (λ (t : S) (x : A). step t (f x)) s xs
fold_map step f s [] = refl
fold_map step f s (x ∷ xs) = fold_map step f (step s (f x)) xs

-- one element more of a mapped list
pub fold_map_more : {A B S : Type 0} (step : S → B → S) (f : A → B) (s : S) (xs : List A) (i : ℕ) (d : A) → i < length xs
    → fold step s (map f (take (i + 1) xs)) ≡ step (fold step s (map f (take i xs))) (f (get_or xs i d))
fold_map_more {A} {B} {S} step f s xs i d h =
    fold_map step f s (take (i + 1) xs)
    ∙ fold_more (λ (t : S) (x : A). step t (f x)) (λ (t : S) (x : A). []) s xs i d h
    ∙ ap (λ (t : S). step t (f (get_or xs i d))) (sym (fold_map step f s (take i xs)))

pub map_map : {A B C : Type 0} (f : A → B) (g : B → C) (xs : List A) → map g (map f xs) ≡ map (λ (x : A). g (f x)) xs
map_map f g [] = refl
map_map f g (x ∷ xs) = ap (λ ys. g (f x) ∷ ys) (map_map f g xs)
