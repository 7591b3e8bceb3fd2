-- Characters between the hidden ones.
use Rattle.std.proofs.Common.{◌≡◌, ℕ, ◌≤◌, ◌<◌, Bool, true, false, List, [], ◌∷◌}
use Rattle.std.proofs.Common.{refl, ap, ◌∙◌, arith}
use Rattle.std.specs.Prelude.{◌||◌, nat_lt, nat_le, ◌%◌}
use Rattle.std.specs.List.{list_all, list_any}
use Rattle.std.proofs.lemmas.Bool.{and_parts}
use Rattle.std.proofs.lemmas.Bool.Decides.{nat_tests}
use Rattle.dcm_text.specs.Characters.{is_between}
use Rattle.dcm_text.specs.Shown.{hidden, is_hidden}

-- a range that has nothing of a gap
is_clear : (low high : ℕ) → ℕ × ℕ → Bool
is_clear low high r = nat_lt r.1 low || nat_lt high r.0

none_in : (low high n : ℕ) (rs : List (ℕ × ℕ)) → list_all (is_clear low high) rs ≡ true → low ≤ n → n ≤ high
    → list_any (λ r. is_between r.0 r.1 n) rs ≡ false
unfolding is_clear
none_in low high n [] e l m = refl
none_in low high n (r ∷ rs) e l m =
    let both = and_parts (is_clear low high r) (list_all (is_clear low high) rs) e in
    ap (λ (t : Bool). t || list_any (λ (x : ℕ × ℕ). is_between x.0 x.1 n) rs) (out r.0 r.1 both.0)
    ∙ none_in low high n rs both.1 l m
  where
    out : (a b : ℕ) → (nat_lt b low || nat_lt high a) ≡ true → is_between a b n ≡ false
    out a b e = grind (arith, nat_tests)

no_plane : (n : ℕ) → n < 0xFFFE → nat_le 0xFFFE (n % 0x10000) ≡ false
no_plane n l = grind (arith, nat_tests)

in_gap : (low high n : ℕ) → list_all (is_clear low high) hidden ≡ true → high < 0xFFFE → low ≤ n → n ≤ high
    → is_hidden n ≡ false
in_gap low high n e h l m =
    ap (λ (t : Bool). t || list_any (λ (r : ℕ × ℕ). is_between r.0 r.1 n) hidden) (no_plane n (omega (arith, h, m)))
    ∙ none_in low high n hidden e l m

pub of_ascii : (n : ℕ) → 0x20 ≤ n → n ≤ 0x7E → is_hidden n ≡ false
unfolding hidden is_clear
of_ascii n l m = in_gap 0x20 0x7E n refl (omega arith) l m

pub of_latin : (n : ℕ) → 0xAE ≤ n → n ≤ 0x34E → is_hidden n ≡ false
unfolding hidden is_clear
of_latin n l m = in_gap 0xAE 0x34E n refl (omega arith) l m

pub of_greek : (n : ℕ) → 0x350 ≤ n → n ≤ 0x61B → is_hidden n ≡ false
unfolding hidden is_clear
of_greek n l m = in_gap 0x350 0x61B n refl (omega arith) l m

pub of_arabic : (n : ℕ) → 0x61D ≤ n → n ≤ 0x115E → is_hidden n ≡ false
unfolding hidden is_clear
of_arabic n l m = in_gap 0x61D 0x115E n refl (omega arith) l m

pub of_kana : (n : ℕ) → 0x2070 ≤ n → n ≤ 0x3163 → is_hidden n ≡ false
unfolding hidden is_clear
of_kana n l m = in_gap 0x2070 0x3163 n refl (omega arith) l m

pub of_kanji : (n : ℕ) → 0x3165 ≤ n → n ≤ 0xFDCF → is_hidden n ≡ false
unfolding hidden is_clear
of_kanji n l m = in_gap 0x3165 0xFDCF n refl (omega arith) l m
