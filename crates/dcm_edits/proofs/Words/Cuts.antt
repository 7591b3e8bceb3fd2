-- Texts that are cut at a byte.
use Rattle.std.proofs.Common.{◌≡◌, ℕ, zero, suc, ◌<◌, List, [], ◌∷◌, length, take, drop, Option, Some, None, Bool, true, false, ◌==◌, refl, ap, arith, cond}
use Rattle.std.specs.Prelude.{slice_index}
use Rattle.dcm_edits.specs.EditWords.{Cut, cut, onto, cut_at}

cut_here : (t : Bool) (c : ℕ) (cs : List ℕ) (k : Cut) → t ≡ true → cond t (cut [] (Some cs)) (onto c k) ≡ cut [] (Some cs)
cut_here true c cs k p = refl
cut_here false c cs k p = cc

cut_later : (t : Bool) (c : ℕ) (cs : List ℕ) (k : Cut) (before : List ℕ) (after : Option (List ℕ)) → ¬ (t ≡ true) → k ≡ cut before after
    → cond t (cut [] (Some cs)) (onto c k) ≡ cut (c ∷ before) after
cut_later true c cs k before after p q = absurd (p refl)
cut_later false c cs k before after p q = ap (onto c) q

pub cut_first : (b : ℕ) (text : List ℕ) (k : ℕ) → k < length text → ((j : ℕ) → j < k → ¬ ((slice_index text j == b) ≡ true)) → (slice_index text k == b) ≡ true
    → cut_at b text ≡ cut (take k text) (Some (drop (suc k) text))
cut_first b [] k h f p = absurd (omega arith)
cut_first b (c ∷ cs) zero h f p = cut_here (c == b) c cs (cut_at b cs) p
cut_first b (c ∷ cs) (suc k) h f p =
    cut_later (c == b) c cs (cut_at b cs) (take k cs) (Some (drop (suc k) cs)) (f 0 (omega arith)) (cut_first b cs k (omega arith) (λ j l. f (suc j) (omega arith)) p)

pub cut_is : (a b : List ℕ) (x y : List ℕ) → a ≡ b → x ≡ y → cut a (Some x) ≡ cut b (Some y)
cut_is a b x y p q = cc

pub cut_nowhere : (b : ℕ) (text : List ℕ) → ((j : ℕ) → j < length text → ¬ ((slice_index text j == b) ≡ true)) → cut_at b text ≡ cut text None
cut_nowhere b [] f = refl
cut_nowhere b (c ∷ cs) f = cut_later (c == b) c cs (cut_at b cs) cs None (f 0 (omega arith)) (cut_nowhere b cs (λ j l. f (suc j) (omega arith)))
