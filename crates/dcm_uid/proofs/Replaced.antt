-- What takes the place of a UID, by its two tests.
use Rattle.std.proofs.Common.{◌≡◌, ℕ, Bool, true, false, List, [], refl}
use Rattle.std.specs.Prelude.{if◌then◌else◌, not}

pub own : (one standard : Bool) (b new : List ℕ) → one ≡ true → standard ≡ true
    → (if not one then [] else if standard then b else new) ≡ b
own one standard b new e f = rw (e, f) refl

pub anew : (one standard : Bool) (b new : List ℕ) → one ≡ true → standard ≡ false
    → (if not one then [] else if standard then b else new) ≡ new
anew one standard b new e f = rw (e, f) refl

pub none : (one standard : Bool) (b new : List ℕ) → one ≡ false
    → (if not one then [] else if standard then b else new) ≡ []
none one standard b new e = rw e refl
