-- The numbers that texts spell are within their digits.
use Rattle.std.proofs.Common.{◌≡◌, ℕ, ◌<◌, List, [], ◌∷◌, length, take, drop, Option, Some, None, Bool, true, false, refl, arith, subst}
use Rattle.std.specs.Prelude.{if◌then◌else◌, ◌==◌, nat_lt}
use Rattle.std.specs.Char.{digit_value}
use Rattle.std.proofs.lemmas.Bool.Decides.{nat_tests}
use Rattle.dcm_lemmas.proofs.Options.{some_is}
use Rattle.dcm_base.specs.declared.tag.Tag.{Tag}
use Rattle.dcm_base.specs.Lines.ReadValue.{◌>>=◌, digit, number_in, hex_number, tag_of_text}

-- a chain that succeeds
pub bind_some : {A B : Type 0} (o : Option A) (f : A → Option B) (y : B) → (o >>= f) ≡ Some y → (x : A) × (o ≡ Some x) × (f x ≡ Some y)
bind_some (Some x) f y p = (x, refl, p)
bind_some None f y p = cc

pub if_some : {A : Type 0} (c : Bool) (o : Option A) (y : A) → (if c then o else None) ≡ Some y → (c ≡ true) × (o ≡ Some y)
if_some true o y p = (refl, p)
if_some false o y p = cc

digit_below : (base c d : ℕ) → digit base c ≡ Some d → d < base
digit_below base c d p =
    let q = if_some (nat_lt (digit_value c) base) (Some (digit_value c)) d p in
    let e : digit_value c ≡ d = some_is _ _ q.1 in
    subst (λ x. x < base) e (grind (arith, nat_tests, q.0))

-- four hexadecimal digits
four_digits : (a b c d n : ℕ) → number_in 16 0 (a ∷ b ∷ c ∷ d ∷ []) ≡ Some n → n < 65536
four_digits a b c d n p =
    let w = bind_some (digit 16 a) _ n p in
    let x = bind_some (digit 16 b) _ n w.2 in
    let y = bind_some (digit 16 c) _ n x.2 in
    let z = bind_some (digit 16 d) _ n y.2 in
    let last = some_is _ _ z.2 in
    let i = digit_below 16 a w.0 w.1 in
    let j = digit_below 16 b x.0 x.1 in
    let k = digit_below 16 c y.0 y.1 in
    let l = digit_below 16 d z.0 z.1 in
    omega (arith, i, j, k, l, last)

four_hex : (cs : List ℕ) (n : ℕ) → hex_number 4 cs ≡ Some n → n < 65536
four_hex [] n p = cc
four_hex (a ∷ []) n p = cc
four_hex (a ∷ b ∷ []) n p = cc
four_hex (a ∷ b ∷ c ∷ []) n p = cc
four_hex (a ∷ b ∷ c ∷ d ∷ []) n p = four_digits a b c d n p
four_hex (a ∷ b ∷ c ∷ d ∷ e ∷ cs) n p =
    let q = if_some (length (a ∷ b ∷ c ∷ d ∷ e ∷ cs) == 4) _ n p in
    absurd (grind (arith, nat_tests, q.0))

pub tag_within : (cs : List ℕ) (tag : Tag) → tag_of_text cs ≡ Some tag → tag.element < 65536
tag_within cs tag p =
    let q = if_some _ _ tag p in
    let g = bind_some (hex_number 4 (take 4 (drop 1 cs))) _ tag q.1 in
    let e = bind_some (hex_number 4 (take 4 (drop 6 cs))) _ tag g.2 in
    let is = some_is _ _ e.2 in
    subst (λ (t : Tag). t.element < 65536) is (four_hex (take 4 (drop 6 cs)) e.0 e.1)
