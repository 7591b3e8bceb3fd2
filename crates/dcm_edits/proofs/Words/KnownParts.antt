-- The known parts of a path, one after another.
use Rattle.std.proofs.Common.{◌≡◌, List, [], ◌∷◌, ◌++◌, length, map, ◌<◌, Result, Ok, Err, refl, sym, ◌∙◌, ap, arith}
use Rattle.dcm_base.specs.declared.dictionary.Dictionary.{Dictionary}
use Rattle.dcm_base.specs.declared.fault.EditRefusal.{EditRefusal}
use Rattle.dcm_edits.specs.EditWords.{◌>>=◌, PathPart, Known, known_part, known_parts}
use Rattle.dcm_edits.specs.Making.{after_known}

pub after_more : (ks : List Known) (k : Known) (r : Result (List Known) EditRefusal) → after_known (ks ++ k ∷ []) r ≡ after_known ks (r >>= λ more. Ok (k ∷ more))
after_more [] k r = refl
after_more (x ∷ ks) k r = ap (λ s. s >>= λ more. Ok (x ∷ more)) (after_more ks k r)

after_err : (ks : List Known) (u : EditRefusal) → after_known ks (Err u) ≡ Err u
after_err [] u = refl
after_err (x ∷ ks) u = ap (λ s. s >>= λ more. Ok (x ∷ more)) (after_err ks u)

after_none : (ks : List Known) → after_known ks (Ok []) ≡ Ok ks
after_none [] = refl
after_none (x ∷ ks) = ap (λ s. s >>= λ more. Ok (x ∷ more)) (after_none ks)

bind_known : (d : Dictionary) (r : Result Known EditRefusal) (k : Known) (ms : List PathPart) → r ≡ Ok k → (r >>= λ x. known_parts d ms >>= λ ks. Ok (x ∷ ks)) ≡ (known_parts d ms >>= λ ks. Ok (k ∷ ks))
bind_known d r k ms e = ap (λ s. s >>= λ x. known_parts d ms >>= λ ks. Ok (x ∷ ks)) e

bind_err : (d : Dictionary) (r : Result Known EditRefusal) (u : EditRefusal) (ms : List PathPart) → r ≡ Err u → (r >>= λ x. known_parts d ms >>= λ ks. Ok (x ∷ ks)) ≡ Err u
bind_err d r u ms e = ap (λ s. s >>= λ x. known_parts d ms >>= λ ks. Ok (x ∷ ks)) e

pub one_known : (d : Dictionary) (ks : List Known) (m : PathPart) (k : Known) (all ms : List PathPart) → all ≡ m ∷ ms → known_part d m.name m.index ≡ Ok k
    → after_known ks (known_parts d all) ≡ after_known (ks ++ k ∷ []) (known_parts d ms)
one_known d ks m k all ms e p = ap (λ l. after_known ks (known_parts d l)) e ∙ ap (after_known ks) (bind_known d (known_part d m.name m.index) k ms p) ∙ sym (after_more ks k (known_parts d ms))

pub one_refused : (d : Dictionary) (ks : List Known) (m : PathPart) (u : EditRefusal) (all ms : List PathPart) → all ≡ m ∷ ms → known_part d m.name m.index ≡ Err u
    → after_known ks (known_parts d all) ≡ Err u
one_refused d ks m u all ms e p = ap (λ l. after_known ks (known_parts d l)) e ∙ ap (after_known ks) (bind_err d (known_part d m.name m.index) u ms p) ∙ after_err ks u

pub all_known : {A : Type 0} (d : Dictionary) (ks : List Known) (f : A → PathPart) (xs : List A) → length xs < 1 → after_known ks (known_parts d (map f xs)) ≡ Ok ks
all_known d ks f [] h = after_none ks
all_known d ks f (x ∷ xs) h = absurd (omega arith)
