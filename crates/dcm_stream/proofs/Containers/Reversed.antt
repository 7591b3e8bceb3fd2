-- A list whose last comes first.
use Rattle.std.proofs.Common.{◌≡◌, ◌∙◌, ap, sym, refl, ◌-◌, List, [], ◌∷◌, ◌++◌, length, reverse, Some, arith, length-append}
use Rattle.std.specs.Prelude.{slice_get}
use Rattle.std.proofs.lemmas.List.{reverse-append, reverse-reverse}
use Rattle.dcm_stream.specs.Places.{innermost}

get_at_end : {X : Type 0} (xs : List X) (x : X) → slice_get (xs ++ x ∷ []) (length xs) ≡ Some x
get_at_end [] x = refl
get_at_end (y ∷ xs) x = get_at_end xs x

-- the last comes first
pub turned_more : {X : Type 0} (xs : List X) (x : X) → reverse (xs ++ x ∷ []) ≡ x ∷ reverse xs
turned_more xs x = reverse-append xs (x ∷ [])

pub turned_cons : {X : Type 0} (x : X) (xs : List X) → reverse (x ∷ xs) ≡ reverse xs ++ x ∷ []
turned_cons x xs = reverse-append (x ∷ []) xs

last_of_turned : {X : Type 0} (xs : List X) → slice_get (reverse xs) (length (reverse xs) - 1) ≡ innermost xs
last_of_turned [] = refl
last_of_turned (x ∷ xs) =
    let size : length (reverse (x ∷ xs)) - 1 ≡ length (reverse xs) = rw (turned_cons x xs, length-append) (omega arith) in
    rw size (rw (turned_cons x xs) (get_at_end (reverse xs) x))

pub last_is_innermost : {X : Type 0} (xs : List X) → slice_get xs (length xs - 1) ≡ innermost (reverse xs)
last_is_innermost xs = ap (λ ys. slice_get ys (length ys - 1)) (sym (reverse-reverse xs)) ∙ last_of_turned (reverse xs)
