-- How many of eight bytes in front of more are ASCII that is shown as it is.
use Rattle.std.proofs.Common.{◌≡◌, ◌≤◌, ◌<◌, ℕ, zero, suc, ◌+◌, ◌&&◌, Bool, true, false, not, cond, List, [], ◌∷◌, length, take, refl, ap, ◌∙◌, arith}
use Rattle.std.specs.List.{list_all}
use Rattle.dcm_value.specs.Plain.{is_ascii_byte, ascii_size}

-- all of them are so
all_of : (b : ℕ) (bs : List ℕ) (t : Bool) → is_ascii_byte b ≡ t → length (b ∷ bs) ≤ cond (not (not t)) (1 + ascii_size bs) 0
    → (length bs ≤ ascii_size bs → list_all is_ascii_byte bs ≡ true) → list_all is_ascii_byte (b ∷ bs) ≡ true
all_of b bs true e l rest = ap (λ (t : Bool). t && list_all is_ascii_byte bs) e ∙ rest (omega (arith, l))
all_of b bs false e l rest = absurd (omega (arith, l))

pub size_all : (v : List ℕ) → length v ≤ ascii_size v → list_all is_ascii_byte v ≡ true
size_all [] l = refl
size_all (b ∷ bs) l = all_of b bs (is_ascii_byte b) refl l (size_all bs)

-- fewer of them are so
less_of : (n : ℕ) (bs : List ℕ) (t : Bool) → cond (not (not t)) (1 + ascii_size (take n bs)) 0 < suc n
    → (ascii_size (take n bs) < n → ascii_size bs ≡ ascii_size (take n bs))
    → cond (not (not t)) (1 + ascii_size bs) 0 ≡ cond (not (not t)) (1 + ascii_size (take n bs)) 0
less_of n bs true l rest = ap (λ (k : ℕ). 1 + k) (rest (omega (arith, l)))
less_of n bs false l rest = refl

pub size_less : (n : ℕ) (v : List ℕ) → ascii_size (take n v) < n → n ≤ length v → ascii_size v ≡ ascii_size (take n v)
size_less zero v l m = absurd (omega (arith, l))
size_less (suc n) [] l m = absurd (omega (arith, m))
size_less (suc n) (b ∷ bs) l m = less_of n bs (is_ascii_byte b) l (λ less. size_less n bs less (omega (arith, m)))
