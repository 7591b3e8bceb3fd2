-- Small facts of what a test chooses.
use Rattle.std.proofs.Common.{Bool, List, None, Some, false, refl, true, ℕ, ◌≡◌}
use Rattle.std.specs.Prelude.{if◌then◌else◌}

pub if_false : {A : Type 0} (b : Bool) (x y : A) → b ≡ false → (if b then x else y) ≡ y
if_false b x y p = rw p refl

pub if_true : {A : Type 0} (b : Bool) (x y : A) → b ≡ true → (if b then x else y) ≡ x
if_true b x y p = rw p refl

pub chosen_false : (b : Bool) → (if b then true else false) ≡ false → b ≡ false
chosen_false true p = cc
chosen_false false p = refl

pub chosen_some : (b : Bool) (path other : List ℕ) → (if b then Some path else None) ≡ Some other → b ≡ true
chosen_some true path other e = refl
chosen_some false path other e = absurd (cc)
