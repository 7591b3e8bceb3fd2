-- Small facts of values that may be missing, and of results.
use Rattle.std.proofs.Common.{Err, List, None, Ok, OnOk, Option, Result, Some, [], ap, append_assoc, refl, ℕ, ◌++◌, ◌≡◌}
use Rattle.std.proofs.lemmas.List.{append-nil}
use Rattle.std.specs.Io.KnownBytes.{append_known}
use Rattle.std.specs.Prelude.{IsOk, option_map}

pub some_same : {A : Type 0} (x y : A) → Some x ≡ Some y → x ≡ y
some_same x y e = cc

pub some_is : {A : Type 0} (x y : A) → (let o : Option A = Some x in o ≡ Some y) → x ≡ y
some_is x y p = cc

pub one_value : {A : Type 0} (o : Option A) (a b : A) → o ≡ Some a → o ≡ Some b → a ≡ b
one_value o a b e f = cc

pub none_or_some : {A : Type 0} (o : Option A) (x : A) → o ≡ None → o ≡ Some x → ⊥
none_or_some o x p q = cc

pub some_none : {A : Type 0} (w : A) → Some w ≡ None → ⊥
some_none w e = absurd (cc)

pub mapped : {A B : Type 0} (f : A → B) (o : Option A) (y : B) → option_map f o ≡ Some y → (x : A) × (o ≡ Some x) × (f x ≡ y)
mapped f (Some x) y p = (x, refl, cc)
mapped f None y p = cc

pub some_back : (m n : ℕ) → Some m ≡ Some n → n ≡ m
some_back m n e = cc

pub none_is : (m : ℕ) → (let o : Option ℕ = Some m in o ≡ None) → ⊥
none_is m e = cc

pub on_ok : {T E P : Type 0} (r : Result T E) → IsOk r → OnOk r P → P
on_ok (Ok x) e p = p
on_ok (Err x) e p = cc

pub went_well : {T E P : Type 0} (r : Result T E) → OnOk r P → IsOk r → P
went_well (Ok x) h is = h
went_well (Err e) h is = absurd (cc)

pub always : {T E : Type 0} (r : Result T E) (P : Type 0) → P → OnOk r P
always (Ok x) P h = h
always (Err x) P h = tt

pub known_nothing : (o : Option (List ℕ)) → append_known o [] ≡ o
known_nothing None = refl
known_nothing (Some bytes) = ap Some (append-nil bytes)

pub known_twice : (known : Option (List ℕ)) (a b : List ℕ) → append_known (append_known known a) b ≡ append_known known (a ++ b)
known_twice None a b = refl
known_twice (Some all) a b = ap Some (append_assoc all a b)
