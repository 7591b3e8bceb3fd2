-- A line that is composed part by part.
use Rattle.std.proofs.Common.{◌≡◌, ◌∙◌, ap, sym, ℕ, ◌+◌, ◌<◌, ◌≤◌, List, [], ◌∷◌, ◌++◌, length, take, get_or, Result, arith}
use Rattle.std.specs.Prelude.{IsOk, OnOk, flat_map}
use Rattle.std.proofs.lemmas.Grind.{flat_map-append}
use Rattle.std.proofs.lemmas.List.{take_more, append-nil}
use Rattle.std.proofs.lemmas.List.Folds.{length-flat_map-take}
use Rattle.dcm_lemmas.proofs.Options.{on_ok}

-- one part more
pub part_more : {X T E : Type 0} (f : X → List ℕ) (xs : List X) (i room : ℕ) (d : X) (items new : List ℕ) (r : Result T E) → i < length xs → length (flat_map f xs) ≤ room
    → items ≡ flat_map f (take i xs) → (length items + length (f (get_or xs i d)) ≤ room → IsOk r) → OnOk r (new ≡ items ++ f (get_or xs i d)) → new ≡ flat_map f (take (i + 1) xs)
part_more f xs i room d items new r h fits is ok put =
    let same : length items ≡ length (flat_map f (take i xs)) = ap length is in
    let enough : length items + length (f (get_or xs i d)) ≤ room = omega (arith, length-flat_map-take f xs i d h) in
    on_ok r (ok enough) put
    ∙ ap (λ zs. zs ++ f (get_or xs i d)) is
    ∙ ap (λ zs. flat_map f (take i xs) ++ zs) (sym (append-nil (f (get_or xs i d))))
    ∙ sym (flat_map-append f (take i xs) (get_or xs i d ∷ []))
    ∙ ap (flat_map f) (sym (take_more xs i d h))
