-- Small facts of lists.
use Rattle.std.proofs.Common.{Bool, Fits, List, [], ap, append_assoc, arith, cond, drop, false, fold, length, length-drop, refl, suc, sym, take, true, w8, zero, ℕ, ◌++◌, ◌+◌, ◌-◌, ◌∙◌, ◌∷◌, ◌≡◌, ◌≤◌}
use Rattle.std.proofs.Math.Seq.{take-length}
use Rattle.std.proofs.lemmas.Bool.{agree_below, agree_below_at}
use Rattle.std.proofs.lemmas.List.{drop_all, take-append-drop, take_all}
use Rattle.std.proofs.lemmas.Slice.Eq.{bytes_eq-Decides}
use Rattle.std.specs.List.{onto_first, position_or_len, prefix_len, slice_split}
use Rattle.std.specs.Prelude.{bytes_eq, not}
use lib.Lanes.{Each1}

pub joined_alike : {a b c d : List ℕ} → a ≡ b → c ≡ d → a ++ c ≡ b ++ d
joined_alike p q = cc

pub behind_alike : (front a b : List ℕ) → a ≡ b → front ++ a ≡ front ++ b
behind_alike front a b e = ap (λ (x : List ℕ). front ++ x) e

pub bits_alike : (a b : Bool) (es fs : List Bool) → a ≡ b → es ≡ fs → a ∷ es ≡ b ∷ fs
bits_alike a b es fs p q = cc

pub cons_alike : {A : Type 0} (a b : A) (s t : List A) → a ≡ b → s ≡ t → a ∷ s ≡ b ∷ t
cons_alike a b s t e f = cc

pub heads_alike : {X : Type 0} (x y : X) (xs ys : List X) → x ∷ xs ≡ y ∷ ys → x ≡ y
heads_alike x y xs ys e = cc

pub tails_alike : {X : Type 0} (x y : X) (xs ys : List X) → x ∷ xs ≡ y ∷ ys → xs ≡ ys
tails_alike x y xs ys e = cc

pub take_none : (n : ℕ) → take {A = ℕ} n [] ≡ []
take_none zero = refl
take_none (suc n) = refl

pub bytes_same : (a b : List ℕ) → bytes_eq a b ≡ true → a ≡ b
bytes_same a b e = (bytes_eq-Decides a b).0 e

pub four_joined : (a b c d : List ℕ) → ((a ++ b) ++ c) ++ d ≡ a ++ (b ++ (c ++ d))
four_joined a b c d = append_assoc (a ++ b) c d ∙ append_assoc a b (c ++ d)

pub five_joined : (a b c d e : List ℕ) → a ++ (b ++ (c ++ (d ++ e))) ≡ (((a ++ b) ++ c) ++ d) ++ e
five_joined a b c d e = simp append_assoc

pub no_front : (front : List ℕ) (b : ℕ) (rest : List ℕ) → [] ≡ front ++ (b ∷ rest) → ⊥
no_front [] b rest e = cc
no_front (x ∷ front) b rest e = cc

pub fold_append : {A B : Type 0} (f : A → B → A) (a : A) (xs ys : List B) → fold f a (xs ++ ys) ≡ fold f (fold f a xs) ys
fold_append f a [] ys = refl
fold_append f a (x ∷ xs) ys = fold_append f (f a x) xs ys

pub tail_is : (n : ℕ) (b : List ℕ) → take (length b - n) (drop n b) ≡ drop n b
tail_is n b = ap (λ (k : ℕ). take k (drop n b)) (sym (length-drop n b)) ∙ take-length (drop n b)

pub nothing_behind : (n : ℕ) (bytes : List ℕ) → length bytes ≡ n → [] ≡ drop n bytes
nothing_behind n bytes e = sym (drop_all n bytes (omega arith))

pub taken_and_dropped : (n : ℕ) (bytes own others : List ℕ) → own ≡ take n bytes → others ≡ drop n bytes → own ++ others ≡ bytes
taken_and_dropped n bytes own others o r = ap (λ front. front ++ others) o ∙ ap (λ back. take n bytes ++ back) r ∙ take-append-drop n bytes

pub take_twice : (n : ℕ) (xs ys : List ℕ) → take n (take n xs ++ ys) ≡ take n (xs ++ ys)
take_twice zero xs ys = refl
take_twice (suc n) [] ys = refl
take_twice (suc n) (x ∷ xs) ys = ap (λ (zs : List ℕ). x ∷ zs) (take_twice n xs ys)

pub one_part : (p : ℕ → Bool) (xs : List ℕ) → length xs ≤ position_or_len p xs → slice_split p xs ≡ xs ∷ []
one_part p [] l = refl
one_part p (x ∷ xs) l = of_test (p x) l (one_part p xs)
  where
    of_test : (t : Bool) → length (x ∷ xs) ≤ cond (not t) (1 + position_or_len p xs) 0 → (length xs ≤ position_or_len p xs → slice_split p xs ≡ xs ∷ []) → cond t ([] ∷ slice_split p xs) (onto_first x (slice_split p xs)) ≡ (x ∷ xs) ∷ []
    of_test true l rec = absurd (omega arith)
    of_test false l rec = ap (onto_first x) (rec (omega arith))

pub same_prefix : (p q : ℕ → Bool) (v : List ℕ) → agree_below p q 256 ≡ true → Each1 (Fits w8) v → prefix_len p v ≡ prefix_len q v
same_prefix p q [] all fits = refl
same_prefix p q (x ∷ xs) all fits =
    ap (λ (t : Bool). cond t (1 + prefix_len p xs) 0) (agree_below_at p q 256 x all fits.0.fits)
    ∙ ap (λ (n : ℕ). cond (q x) (1 + n) 0) (same_prefix p q xs all fits.1)
