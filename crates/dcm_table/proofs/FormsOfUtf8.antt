-- Bytes that fit a form of UTF-8 (Unicode, table 3-7) are a character.
use Rattle.std.proofs.Common.{◌≡◌, ℕ, ◌+◌, ◌-◌, ◌*◌, ◌/◌, ◌%◌, ◌≤◌, ◌<◌, Bool, true, false, cond, List, [], ◌∷◌, ◌++◌}
use Rattle.std.proofs.Common.{refl, sym, ap, subst, ◌∙◌, arith, inl, inr, ◌⊎◌, ⊎_elim}
use Rattle.std.specs.Prelude.{nat_lt, ◌==◌, ◌&&◌}
use Rattle.std.specs.Char.{encode_utf8}
use Rattle.std.proofs.lemmas.Bool.{cases_lt, cond-true, cond-false}
use Rattle.std.proofs.lemmas.Bool.Decides.{nat_tests}
use lib.Dec.{ltb, leb}
use lib.Utf8.{scalar, low_scalar}
use Rattle.dcm_lemmas.proofs.Numbers.{equal_is_true}
use Rattle.dcm_lemmas.proofs.Truth.{true_false}
use Rattle.dcm_text.proofs.Directly.{at_least as least_of, at_most as most_of}
use Rattle.dcm_text.specs.declared.form.Fit.{Fit}
use Rattle.dcm_text.specs.declared.form.Fit.TheVariants.{Whole, Part, Not}
use Rattle.dcm_text.specs.Characters.{is_between}
use Rattle.dcm_text.specs.Forms.{Range, NEXT, fit_of, utf8_ranges}
use Rattle.dcm_text.proofs.Utf8.{ranges_two, ranges_three, second_three, second_four}

-- a character's bytes are in front
pub record Begins (text : List ℕ) : Type 0 where
  pub char : ℕ
  pub after : List ℕ
  pub is : scalar char ≡ true
  pub whole : text ≡ encode_utf8 char ++ after

-- a term of the type given
abbrev by : (A : Type 0) → A → A
by A a = a

-- ---- bytes that are a character

in_two : (c : ℕ) → 128 ≤ c → c < 2048 → encode_utf8 c ≡ (192 + c / 64) ∷ (128 + c % 64) ∷ []
unfolding encode_utf8
in_two c l h =
    cond-false _ _ _ (by (ltb c 128 ≡ false) (grind (arith, nat_tests)))
    ∙ cond-true _ _ _ (by (ltb c 2048 ≡ true) (grind (arith, nat_tests)))

in_three : (c : ℕ) → 2048 ≤ c → c < 65536 → encode_utf8 c ≡ (224 + c / 4096) ∷ (128 + (c / 64) % 64) ∷ (128 + c % 64) ∷ []
unfolding encode_utf8
in_three c l h =
    cond-false _ _ _ (by (ltb c 128 ≡ false) (grind (arith, nat_tests)))
    ∙ cond-false _ _ _ (by (ltb c 2048 ≡ false) (grind (arith, nat_tests)))
    ∙ cond-true _ _ _ (by (ltb c 65536 ≡ true) (grind (arith, nat_tests)))

in_four : (c : ℕ) → 65536 ≤ c
    → encode_utf8 c ≡ (240 + c / 262144) ∷ (128 + (c / 4096) % 64) ∷ (128 + (c / 64) % 64) ∷ (128 + c % 64) ∷ []
unfolding encode_utf8
in_four c l =
    cond-false _ _ _ (by (ltb c 128 ≡ false) (grind (arith, nat_tests)))
    ∙ cond-false _ _ _ (by (ltb c 2048 ≡ false) (grind (arith, nat_tests)))
    ∙ cond-false _ _ _ (by (ltb c 65536 ≡ false) (grind (arith, nat_tests)))

high_scalar : (c : ℕ) → 57344 ≤ c → c < 1114112 → scalar c ≡ true
high_scalar c l h =
    cond-false _ _ _ (by (ltb c 55296 ≡ false) (grind (arith, nat_tests)))
    ∙ ap (λ (t : Bool). t && ltb c 1114112) (by (leb 57344 c ≡ true) (grind (arith, nat_tests)))
    ∙ by (ltb c 1114112 ≡ true) (grind (arith, nat_tests))

two_begin : (b d : ℕ) (rest : List ℕ) → 0xC2 ≤ b → b < 0xE0 → 0x80 ≤ d → d ≤ 0xBF → Begins (b ∷ d ∷ rest)
two_begin b d rest l h m n =
    let c : ℕ = (b - 192) * 64 + (d - 128) in
    let p : 192 + c / 64 ≡ b = omega arith in
    let q : 128 + c % 64 ≡ d = omega arith in
    record {
      char = c;
      after = rest;
      is = low_scalar c (omega arith);
      whole =
          ap (λ (x : ℕ). x ∷ d ∷ rest) (sym p) ∙ ap (λ (y : ℕ). (192 + c / 64) ∷ y ∷ rest) (sym q)
          ∙ ap (λ (x : List ℕ). x ++ rest) (sym (in_two c (omega arith) (omega arith)));
    }

three_scalar : (b d e : ℕ) → 0xE0 ≤ b → b < 0xF0 → 0x80 ≤ d → d ≤ 0xBF → 0x80 ≤ e → e ≤ 0xBF → (b ≡ 0xED → d ≤ 0x9F)
    → scalar ((b - 224) * 4096 + (d - 128) * 64 + (e - 128)) ≡ true
three_scalar b d e l h m n i j low =
    let c : ℕ = (b - 224) * 4096 + (d - 128) * 64 + (e - 128) in
    ⊎_elim
    (λ (less : b < 0xED). low_scalar c (omega arith))
    (λ (more : 0xED ≤ b).
    ⊎_elim
    (λ (same : b < 0xEE). let most : d ≤ 0x9F = low (omega arith) in low_scalar c (omega arith))
    (λ (above : 0xEE ≤ b). high_scalar c (omega arith) (omega arith))
    (cases_lt b 0xEE))
    (cases_lt b 0xED)

three_least : (b d e : ℕ) → 0xE0 ≤ b → 0x80 ≤ d → (b ≡ 0xE0 → 0xA0 ≤ d) → 2048 ≤ (b - 224) * 4096 + (d - 128) * 64 + (e - 128)
three_least b d e l m high =
    ⊎_elim
    (λ (same : b < 0xE1). let least : 0xA0 ≤ d = high (omega arith) in omega arith)
    (λ (above : 0xE1 ≤ b). omega arith)
    (cases_lt b 0xE1)

three_begin : (b d e : ℕ) (rest : List ℕ) → 0xE0 ≤ b → b < 0xF0 → 0x80 ≤ d → d ≤ 0xBF → 0x80 ≤ e → e ≤ 0xBF
    → (b ≡ 0xE0 → 0xA0 ≤ d) → (b ≡ 0xED → d ≤ 0x9F) → Begins (b ∷ d ∷ e ∷ rest)
three_begin b d e rest l h m n i j high low =
    let c : ℕ = (b - 224) * 4096 + (d - 128) * 64 + (e - 128) in
    let least : 2048 ≤ c = three_least b d e l m high in
    let p : 224 + c / 4096 ≡ b = omega arith in
    let q : 128 + (c / 64) % 64 ≡ d = omega arith in
    let r : 128 + c % 64 ≡ e = omega arith in
    record {
      char = c;
      after = rest;
      is = three_scalar b d e l h m n i j low;
      whole =
          ap (λ (x : ℕ). x ∷ d ∷ e ∷ rest) (sym p) ∙ ap (λ (y : ℕ). (224 + c / 4096) ∷ y ∷ e ∷ rest) (sym q)
          ∙ ap (λ (z : ℕ). (224 + c / 4096) ∷ (128 + (c / 64) % 64) ∷ z ∷ rest) (sym r)
          ∙ ap (λ (x : List ℕ). x ++ rest) (sym (in_three c least (omega arith)));
    }

-- the second byte of four keeps the number above FFFF and below 110000
four_range : (b d : ℕ) → 0xF0 ≤ b → b ≤ 0xF4 → 0x80 ≤ d → d ≤ 0xBF → (b ≡ 0xF0 → 0x90 ≤ d) → (b ≡ 0xF4 → d ≤ 0x8F)
    → (16 ≤ (b - 240) * 64 + (d - 128)) × ((b - 240) * 64 + (d - 128) < 272)
four_range b d l h m n high low = (at_least (cases_lt b 0xF1), at_most (cases_lt b 0xF4))
  where
    at_least : (b < 0xF1) ⊎ (0xF1 ≤ b) → 16 ≤ (b - 240) * 64 + (d - 128)
    at_least (inl same) = let least : 0x90 ≤ d = high (omega arith) in omega arith
    at_least (inr above) = omega arith

    at_most : (b < 0xF4) ⊎ (0xF4 ≤ b) → (b - 240) * 64 + (d - 128) < 272
    at_most (inl less) = omega arith
    at_most (inr same) = let most : d ≤ 0x8F = low (omega arith) in omega arith

four_begin : (b d e f : ℕ) (rest : List ℕ) → 0xF0 ≤ b → 0x80 ≤ d → d ≤ 0xBF → 0x80 ≤ e → e ≤ 0xBF → 0x80 ≤ f → f ≤ 0xBF
    → (16 ≤ (b - 240) * 64 + (d - 128)) × ((b - 240) * 64 + (d - 128) < 272) → Begins (b ∷ d ∷ e ∷ f ∷ rest)
four_begin b d e f rest l m n i j k o range =
    let c : ℕ = (b - 240) * 262144 + (d - 128) * 4096 + (e - 128) * 64 + (f - 128) in
    let more : 16 ≤ (b - 240) * 64 + (d - 128) = range.0 in
    let less : (b - 240) * 64 + (d - 128) < 272 = range.1 in
    let p : 240 + c / 262144 ≡ b = omega arith in
    let q : 128 + (c / 4096) % 64 ≡ d = omega arith in
    let w : c / 64 ≡ (b - 240) * 4096 + (d - 128) * 64 + (e - 128) = omega arith in
    let r : 128 + (c / 64) % 64 ≡ e = subst (λ (x : ℕ). 128 + x % 64 ≡ e) (sym w) (omega arith) in
    let s : 128 + c % 64 ≡ f = omega arith in
    record {
      char = c;
      after = rest;
      is = high_scalar c (omega arith) (omega arith);
      whole =
          ap (λ (x : ℕ). x ∷ d ∷ e ∷ f ∷ rest) (sym p) ∙ ap (λ (y : ℕ). (240 + c / 262144) ∷ y ∷ e ∷ f ∷ rest) (sym q)
          ∙ ap (λ (z : ℕ). (240 + c / 262144) ∷ (128 + (c / 4096) % 64) ∷ z ∷ f ∷ rest) (sym r)
          ∙ ap (λ (z : ℕ). (240 + c / 262144) ∷ (128 + (c / 4096) % 64) ∷ (128 + (c / 64) % 64) ∷ z ∷ rest) (sym s)
          ∙ ap (λ (x : List ℕ). x ++ rest) (sym (in_four c (omega arith)));
    }

-- ---- bytes that fit

no_part : (let f : Fit = Part in f ≡ Whole) → ⊥
no_part e = cc

no_fit : (let f : Fit = Not in f ≡ Whole) → ⊥
no_fit e = cc

-- the first of bytes that fit, and those behind it
record Fits (r : Range) (rs : List Range) (bytes : List ℕ) : Type 0 where
  first : ℕ
  after : List ℕ
  whole : bytes ≡ first ∷ after
  within : is_between r.0 r.1 first ≡ true
  others : fit_of rs after ≡ Whole

fits_next : (r : Range) (rs : List Range) (bytes : List ℕ) → fit_of (r ∷ rs) bytes ≡ Whole → Fits r rs bytes
fits_next r rs [] e = absurd (no_part e)
fits_next r rs (b ∷ bytes) e = of_test (is_between r.0 r.1 b) refl e
  where
    of_test : (t : Bool) → is_between r.0 r.1 b ≡ t → cond t (fit_of rs bytes) Not ≡ Whole → Fits r rs (b ∷ bytes)
    of_test true h e = record { first = b; after = bytes; whole = refl; within = h; others = e }
    of_test false h e = absurd (no_fit e)

-- what the second byte of three is, or of four, behind a first one
abbrev Second : (least most b low high d : ℕ) → Type 0
Second least most b low high d = (0x80 ≤ d) × (d ≤ 0xBF) × (b ≡ low → least ≤ d) × (b ≡ high → d ≤ most)

second_of_three : (b d : ℕ) → is_between (second_three b).0 (second_three b).1 d ≡ true → Second 0xA0 0x9F b 0xE0 0xED d
second_of_three b d e = of_tests (b == 0xE0) (b == 0xED) refl refl e
  where
    of_tests : (s t : Bool) → (b == 0xE0) ≡ s → (b == 0xED) ≡ t
        → (let r : Range = cond s (0xA0, 0xBF) (cond t (0x80, 0x9F) NEXT) in is_between r.0 r.1 d ≡ true) → Second 0xA0 0x9F b 0xE0 0xED d
    of_tests true t p q e =
        let l : 0xA0 ≤ d = least_of 0xA0 0xBF d e in
        let is : b ≡ 0xE0 = grind (arith, nat_tests) in
        (omega arith, most_of 0xA0 0xBF d e, λ h. l, λ h. absurd (omega arith))
    of_tests false true p q e =
        let m : d ≤ 0x9F = most_of 0x80 0x9F d e in
        (least_of 0x80 0x9F d e, omega arith, λ h. absurd (true_false (b == 0xE0) (equal_is_true b 0xE0 h) p), λ h. m)
    of_tests false false p q e =
        (least_of 0x80 0xBF d e, most_of 0x80 0xBF d e, λ h. absurd (true_false (b == 0xE0) (equal_is_true b 0xE0 h) p), λ h. absurd (true_false (b == 0xED) (equal_is_true b 0xED h) q))

second_of_four : (b d : ℕ) → is_between (second_four b).0 (second_four b).1 d ≡ true → Second 0x90 0x8F b 0xF0 0xF4 d
second_of_four b d e = of_tests (b == 0xF0) (b == 0xF4) refl refl e
  where
    of_tests : (s t : Bool) → (b == 0xF0) ≡ s → (b == 0xF4) ≡ t
        → (let r : Range = cond s (0x90, 0xBF) (cond t (0x80, 0x8F) NEXT) in is_between r.0 r.1 d ≡ true) → Second 0x90 0x8F b 0xF0 0xF4 d
    of_tests true t p q e =
        let l : 0x90 ≤ d = least_of 0x90 0xBF d e in
        let is : b ≡ 0xF0 = grind (arith, nat_tests) in
        (omega arith, most_of 0x90 0xBF d e, λ h. l, λ h. absurd (omega arith))
    of_tests false true p q e =
        let m : d ≤ 0x8F = most_of 0x80 0x8F d e in
        (least_of 0x80 0x8F d e, omega arith, λ h. absurd (true_false (b == 0xF0) (equal_is_true b 0xF0 h) p), λ h. m)
    of_tests false false p q e =
        (least_of 0x80 0xBF d e, most_of 0x80 0xBF d e, λ h. absurd (true_false (b == 0xF0) (equal_is_true b 0xF0 h) p), λ h. absurd (true_false (b == 0xF4) (equal_is_true b 0xF4 h) q))

ranges_four : (b : ℕ) → 0xF0 ≤ b → utf8_ranges b ≡ second_four b ∷ NEXT ∷ NEXT ∷ []
ranges_four b l =
    cond-false _ _ _ (by (nat_lt b 0xE0 ≡ false) (grind (arith, nat_tests)))
    ∙ cond-false _ _ _ (by ((b == 0xE0) ≡ false) (grind (arith, nat_tests)))
    ∙ cond-false _ _ _ (by ((b == 0xED) ≡ false) (grind (arith, nat_tests)))
    ∙ cond-false _ _ _ (by (nat_lt b 0xF0 ≡ false) (grind (arith, nat_tests)))
    ∙ of_tests (b == 0xF0) (b == 0xF4)
  where
    of_tests : (s t : Bool) → cond s ((0x90, 0xBF) ∷ NEXT ∷ NEXT ∷ []) (cond t ((0x80, 0x8F) ∷ NEXT ∷ NEXT ∷ []) (NEXT ∷ NEXT ∷ NEXT ∷ []))
        ≡ cond s (0x90, 0xBF) (cond t (0x80, 0x8F) NEXT) ∷ NEXT ∷ NEXT ∷ []
    of_tests true t = refl
    of_tests false true = refl
    of_tests false false = refl

begins_at : (a b : List ℕ) → a ≡ b → Begins b → Begins a
begins_at a b e h = record { char = h.char; after = h.after; is = h.is; whole = e ∙ h.whole }

-- bytes that fit are a character
pub fits_begin : (b : ℕ) (rest : List ℕ) → 0xC2 ≤ b → b ≤ 0xF4 → fit_of (utf8_ranges b) rest ≡ Whole → Begins (b ∷ rest)
fits_begin b rest l h e = by_size (cases_lt b 0xE0) (cases_lt b 0xF0)
  where
    by_size : (b < 0xE0) ⊎ (0xE0 ≤ b) → (b < 0xF0) ⊎ (0xF0 ≤ b) → Begins (b ∷ rest)
    by_size (inl low) _ =
        let one = fits_next NEXT [] rest (ap (λ (rs : List Range). fit_of rs rest) (sym (ranges_two b low)) ∙ e) in
        begins_at (b ∷ rest) (b ∷ one.first ∷ one.after) (ap (λ (x : List ℕ). b ∷ x) one.whole)
        (two_begin b one.first one.after l low (least_of 0x80 0xBF one.first one.within) (most_of 0x80 0xBF one.first one.within))
    by_size (inr more) (inl less) =
        let one = fits_next (second_three b) (NEXT ∷ []) rest (ap (λ (rs : List Range). fit_of rs rest) (sym (ranges_three b more less)) ∙ e) in
        let two = fits_next NEXT [] one.after one.others in
        let s = second_of_three b one.first one.within in
        begins_at (b ∷ rest) (b ∷ one.first ∷ two.first ∷ two.after)
        (ap (λ (x : List ℕ). b ∷ x) one.whole ∙ ap (λ (x : List ℕ). b ∷ one.first ∷ x) two.whole)
        (three_begin b one.first two.first two.after more less s.0 s.1 (least_of 0x80 0xBF two.first two.within) (most_of 0x80 0xBF two.first two.within) s.2 s.3)
    by_size (inr more) (inr high) =
        let one = fits_next (second_four b) (NEXT ∷ NEXT ∷ []) rest (ap (λ (rs : List Range). fit_of rs rest) (sym (ranges_four b high)) ∙ e) in
        let two = fits_next NEXT (NEXT ∷ []) one.after one.others in
        let three = fits_next NEXT [] two.after two.others in
        let s = second_of_four b one.first one.within in
        begins_at (b ∷ rest) (b ∷ one.first ∷ two.first ∷ three.first ∷ three.after)
        (ap (λ (x : List ℕ). b ∷ x) one.whole ∙ ap (λ (x : List ℕ). b ∷ one.first ∷ x) two.whole ∙ ap (λ (x : List ℕ). b ∷ one.first ∷ two.first ∷ x) three.whole)
        (four_begin b one.first two.first three.first three.after high s.0 s.1 (least_of 0x80 0xBF two.first two.within) (most_of 0x80 0xBF two.first two.within)
        (least_of 0x80 0xBF three.first three.within) (most_of 0x80 0xBF three.first three.within) (four_range b one.first high h s.0 s.1 s.2 s.3))
