-- Texts that are shown as they are.
use Rattle.std.proofs.Common.{◌≡◌, ◌∙◌, ap, refl, ℕ, List, [], ◌∷◌, Bool, true, false}
use Rattle.std.specs.Prelude.{nat_lt, ◌||◌, ◌==◌, ◌++◌, if◌then◌else◌, not}
use Rattle.std.specs.List.{list_all}
use Rattle.dcm_lemmas.proofs.Truth.{and_parts}
use Rattle.dcm_base.specs.Dump.ValueText.{escaped, escape}
use Rattle.dcm_value.specs.Plain.{is_plain_byte}

-- one byte
escapes_not : (special : Bool) (shown : List ℕ) (b : ℕ) → not special ≡ true → (if special then shown else b ∷ []) ≡ b ∷ []
escapes_not true shown b e = cc
escapes_not false shown b e = refl

pub plain_escaped : (bytes : List ℕ) → list_all is_plain_byte bytes ≡ true → escaped bytes ≡ bytes
plain_escaped [] e = refl
plain_escaped (b ∷ bytes) e =
    let parts = and_parts (is_plain_byte b) (list_all is_plain_byte bytes) e in
    let first : escape b ≡ b ∷ [] = escapes_not (nat_lt b 32 || b == 127 || b == 37 || b == 93) _ b parts.0 in
    ap (λ (xs : List ℕ). xs ++ escaped bytes) first ∙ ap (λ (xs : List ℕ). b ∷ xs) (plain_escaped bytes parts.1)
