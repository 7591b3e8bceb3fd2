-- A character in UTF-8 is read as it was written.
use Rattle.std.proofs.Common.{◌≡◌, ℕ, ◌+◌, ◌-◌, ◌*◌, ◌/◌, ◌%◌, ◌≤◌, ◌<◌, Bool, true, false, cond, List, [], ◌∷◌, ◌++◌, length, take, drop, map, Option, Some, None}
use Rattle.std.proofs.Common.{refl, sym, ap, subst, ◌∙◌, arith, append_assoc, inl, inr, ◌⊎◌, ⊎_elim}
use Rattle.std.specs.Prelude.{nat_lt, ◌==◌, encode_utf8_all}
use Rattle.std.specs.Char.{encode_utf8}
use Rattle.std.specs.Str.{all_scalars}
use Rattle.std.proofs.Math.Seq.{take-append_seam, drop-append_seam}
use Rattle.std.proofs.lemmas.Bool.{cases_lt, cond-true, cond-false, and_parts}
use Rattle.std.proofs.lemmas.Bool.Decides.{nat_tests}
use lib.Dec.{ltb}
use lib.Utf8.{scalar, scalar_cases}
use Rattle.dcm_lemmas.proofs.Truth.{and_second_false}
use Rattle.dcm_text.specs.declared.set.Halves.{Halves}
use Rattle.dcm_text.specs.declared.set.Right.{Right}
use Rattle.dcm_text.specs.declared.set.TextKind.{TextKind}
use Rattle.dcm_text.specs.declared.sets.Sets.{Sets}
use Rattle.dcm_text.specs.declared.first.Found.{Found}
use Rattle.dcm_text.specs.declared.first.Meaning.TheVariants as meaning
use Rattle.dcm_text.specs.declared.form.Fit.{Fit}
use Rattle.dcm_text.specs.declared.form.Fit.TheVariants.{Whole, Not}
use Rattle.dcm_text.specs.declared.form.Form.TheVariants as form
use Rattle.dcm_text.specs.declared.form.Opening.{Opening}
use Rattle.dcm_text.specs.declared.form.Opening.TheVariants as opening
use Rattle.dcm_text.specs.Characters.{is_between, numbered, number_utf8, character_utf8, low_bits}
use Rattle.dcm_text.specs.Forms.{Range, NEXT, fit_of, utf8_ranges, character_of, right_opening}
use Rattle.dcm_text.specs.First.{first_of, start_of, opening_of, opened, of_form, by_fit, one_unknown, meaning_of, designated, designations, is_escape}
use Rattle.dcm_text.specs.Decoding.{Piece, decoded_from, decoded}
use Rattle.dcm_text.specs.Laws.{IsUtf8InForce, encoded}
use Rattle.dcm_text.proofs.Pieces.{one_piece, found_some}
use Rattle.dcm_text.proofs.Whole.{plain_first}

-- ---- what fits

pub between : (least most n : ℕ) → least ≤ n → n ≤ most → is_between least most n ≡ true
between least most n l m = grind (arith, nat_tests)

pub fits_one : (r : Range) (d : ℕ) (rest : List ℕ) → is_between r.0 r.1 d ≡ true → fit_of (r ∷ []) (d ∷ rest) ≡ Whole
fits_one r d rest h = ap (λ (t : Bool). cond t Whole Not) h

pub fits_two : (r s : Range) (d e : ℕ) (rest : List ℕ) → is_between r.0 r.1 d ≡ true → is_between s.0 s.1 e ≡ true
    → fit_of (r ∷ s ∷ []) (d ∷ e ∷ rest) ≡ Whole
fits_two r s d e rest h k = ap (λ (t : Bool). cond t (fit_of (s ∷ []) (e ∷ rest)) Not) h ∙ fits_one s e rest k

fits_three : (r s t : Range) (d e f : ℕ) (rest : List ℕ) → is_between r.0 r.1 d ≡ true → is_between s.0 s.1 e ≡ true → is_between t.0 t.1 f ≡ true
    → fit_of (r ∷ s ∷ t ∷ []) (d ∷ e ∷ f ∷ rest) ≡ Whole
fits_three r s t d e f rest h k l = ap (λ (x : Bool). cond x (fit_of (s ∷ t ∷ []) (e ∷ f ∷ rest)) Not) h ∙ fits_two s t e f rest k l

abbrev pub one_of : Halves → ℕ → ℕ → Found
one_of halves size c = record { size = size; meaning = meaning.Character c; halves = halves }

formed : (halves : Halves) (b : ℕ) (tail : List ℕ) (rs : List Range) (c : ℕ) → utf8_ranges b ≡ rs → fit_of rs tail ≡ Whole
    → character_of form.Utf8 (take (1 + length rs) (b ∷ tail)) ≡ Some c
    → of_form form.Utf8 halves (b ∷ tail) ≡ Some (one_of halves (1 + length rs) c)
formed halves b tail rs c r fits character =
    let other : Option Found = Some (one_unknown halves) in
    let whole : List Range → Option ℕ → Option Found =
    λ rs ch. Some (record { size = 1 + length rs; meaning = meaning_of ch; halves = halves }) in
    ap (λ (x : List Range). by_fit (fit_of x tail) (whole x (character_of form.Utf8 (take (1 + length x) (b ∷ tail)))) other) r
    ∙ ap (λ (x : Fit). by_fit x (whole rs (character_of form.Utf8 (take (1 + length rs) (b ∷ tail)))) other) fits
    ∙ ap (whole rs) character

is_character : (b d e f c : ℕ) → number_utf8 b d e f ≡ c → scalar c ≡ true → character_utf8 b d e f ≡ Some c
unfolding character_utf8
is_character b d e f c n s = ap numbered n ∙ ap (λ (t : Bool). cond t (Some c) None) s

pub number_of_two : (b d e f : ℕ) → b < 0xE0 → number_utf8 b d e f ≡ (b - 0xC0) * 64 + low_bits d
number_of_two b d e f l = cond-true _ _ _ (let t : nat_lt b 0xE0 ≡ true = grind (arith, nat_tests) in t)

pub number_of_three : (b d e f : ℕ) → 0xE0 ≤ b → b < 0xF0 → number_utf8 b d e f ≡ ((b - 0xE0) * 64 + low_bits d) * 64 + low_bits e
number_of_three b d e f l h =
    cond-false _ _ _ (let t : nat_lt b 0xE0 ≡ false = grind (arith, nat_tests) in t)
    ∙ cond-true _ _ _ (let t : nat_lt b 0xF0 ≡ true = grind (arith, nat_tests) in t)

number_of_four : (b d e f : ℕ) → 0xF0 ≤ b → number_utf8 b d e f ≡ (((b - 0xF0) * 64 + low_bits d) * 64 + low_bits e) * 64 + low_bits f
number_of_four b d e f l =
    cond-false _ _ _ (let t : nat_lt b 0xE0 ≡ false = grind (arith, nat_tests) in t)
    ∙ cond-false _ _ _ (let t : nat_lt b 0xF0 ≡ false = grind (arith, nat_tests) in t)

-- ---- what follows a first byte

pub ranges_two : (b : ℕ) → b < 0xE0 → utf8_ranges b ≡ NEXT ∷ []
ranges_two b l = cond-true _ _ _ (let t : nat_lt b 0xE0 ≡ true = grind (arith, nat_tests) in t)

abbrev pub second_three : ℕ → Range
second_three b = cond (b == 0xE0) (0xA0, 0xBF) (cond (b == 0xED) (0x80, 0x9F) NEXT)

pub ranges_three : (b : ℕ) → 0xE0 ≤ b → b < 0xF0 → utf8_ranges b ≡ second_three b ∷ NEXT ∷ []
ranges_three b l h =
    cond-false _ _ _ (let t : nat_lt b 0xE0 ≡ false = grind (arith, nat_tests) in t)
    ∙ of_tests (b == 0xE0) (b == 0xED) (nat_lt b 0xF0) (grind (arith, nat_tests)) _
  where
    of_tests : (s t u : Bool) → u ≡ true → (y : List Range) → cond s ((0xA0, 0xBF) ∷ NEXT ∷ []) (cond t ((0x80, 0x9F) ∷ NEXT ∷ []) (cond u (NEXT ∷ NEXT ∷ []) y))
        ≡ cond s (0xA0, 0xBF) (cond t (0x80, 0x9F) NEXT) ∷ NEXT ∷ []
    of_tests true t u e y = refl
    of_tests false true u e y = refl
    of_tests false false u e y = cond-true _ _ _ e

abbrev pub second_four : ℕ → Range
second_four b = cond (b == 0xF0) (0x90, 0xBF) (cond (b == 0xF4) (0x80, 0x8F) NEXT)

ranges_four : (b : ℕ) → 0xF0 ≤ b → utf8_ranges b ≡ second_four b ∷ NEXT ∷ NEXT ∷ []
ranges_four b l =
    cond-false _ _ _ (let t : nat_lt b 0xE0 ≡ false = grind (arith, nat_tests) in t)
    ∙ cond-false _ _ _ (let t : (b == 0xE0) ≡ false = grind (arith, nat_tests) in t)
    ∙ cond-false _ _ _ (let t : (b == 0xED) ≡ false = grind (arith, nat_tests) in t)
    ∙ cond-false _ _ _ (let t : nat_lt b 0xF0 ≡ false = grind (arith, nat_tests) in t)
    ∙ of_tests (b == 0xF0) (b == 0xF4)
  where
    of_tests : (s t : Bool) → cond s ((0x90, 0xBF) ∷ NEXT ∷ NEXT ∷ []) (cond t ((0x80, 0x8F) ∷ NEXT ∷ NEXT ∷ []) (NEXT ∷ NEXT ∷ NEXT ∷ []))
        ≡ cond s (0x90, 0xBF) (cond t (0x80, 0x8F) NEXT) ∷ NEXT ∷ NEXT ∷ []
    of_tests true t = refl
    of_tests false true = refl
    of_tests false false = refl

in_second_three : (b d : ℕ) → 0x80 ≤ d → d ≤ 0xBF → (b ≡ 0xE0 → 0xA0 ≤ d) → (b ≡ 0xED → d ≤ 0x9F)
    → is_between (second_three b).0 (second_three b).1 d ≡ true
in_second_three b d l m p q = of_tests (b == 0xE0) (b == 0xED) (λ e. p (grind (arith, nat_tests))) (λ e. q (grind (arith, nat_tests)))
  where
    of_tests : (s t : Bool) → (s ≡ true → 0xA0 ≤ d) → (t ≡ true → d ≤ 0x9F)
        → let r : Range = cond s (0xA0, 0xBF) (cond t (0x80, 0x9F) NEXT) in is_between r.0 r.1 d ≡ true
    of_tests true t p q = between 0xA0 0xBF d (p refl) m
    of_tests false true p q = between 0x80 0x9F d l (q refl)
    of_tests false false p q = between 0x80 0xBF d l m

in_second_four : (b d : ℕ) → 0x80 ≤ d → d ≤ 0xBF → (b ≡ 0xF0 → 0x90 ≤ d) → (b ≡ 0xF4 → d ≤ 0x8F)
    → is_between (second_four b).0 (second_four b).1 d ≡ true
in_second_four b d l m p q = of_tests (b == 0xF0) (b == 0xF4) (λ e. p (grind (arith, nat_tests))) (λ e. q (grind (arith, nat_tests)))
  where
    of_tests : (s t : Bool) → (s ≡ true → 0x90 ≤ d) → (t ≡ true → d ≤ 0x8F)
        → let r : Range = cond s (0x90, 0xBF) (cond t (0x80, 0x8F) NEXT) in is_between r.0 r.1 d ≡ true
    of_tests true t p q = between 0x90 0xBF d (p refl) m
    of_tests false true p q = between 0x80 0x8F d l (q refl)
    of_tests false false p q = between 0x80 0xBF d l m

-- ---- one character, with bytes after it

module _ (halves : Halves) (c : ℕ) (rest : List ℕ) (is : scalar c ≡ true) where
  two_bytes : 128 ≤ c → c < 2048 → of_form form.Utf8 halves ((192 + c / 64) ∷ (128 + c % 64) ∷ rest) ≡ Some (one_of halves 2 c)
  two_bytes low high =
      let b = 192 + c / 64 in
      let d = 128 + c % 64 in
      let value : (b - 0xC0) * 64 + low_bits d ≡ c = omega arith in
      formed halves b (d ∷ rest) (NEXT ∷ []) c (ranges_two b (omega arith))
      (fits_one NEXT d rest (between 0x80 0xBF d (omega arith) (omega arith)))
      (is_character b d 0 0 c (number_of_two b d 0 0 (omega arith) ∙ value) is)

  three_bytes : 2048 ≤ c → c < 65536 → (c < 55296) ⊎ (57344 ≤ c)
      → of_form form.Utf8 halves ((224 + c / 4096) ∷ (128 + (c / 64) % 64) ∷ (128 + c % 64) ∷ rest) ≡ Some (one_of halves 3 c)
  three_bytes low high apart =
      let b = 224 + c / 4096 in
      let d = 128 + (c / 64) % 64 in
      let e = 128 + c % 64 in
      let p1 : c / 64 ≡ (c / 4096) * 64 + (c / 64) % 64 = omega arith in
      let value : ((b - 0xE0) * 64 + low_bits d) * 64 + low_bits e ≡ c = omega arith in
      formed halves b (d ∷ e ∷ rest) (second_three b ∷ NEXT ∷ []) c (ranges_three b (omega arith) (omega arith))
      (fits_two (second_three b) NEXT d e rest
      (in_second_three b d (omega arith) (omega arith) (λ h. omega arith) (λ h. ⊎_elim (λ l. omega arith) (λ l. absurd (omega arith)) apart))
      (between 0x80 0xBF e (omega arith) (omega arith)))
      (is_character b d e 0 c (number_of_three b d e 0 (omega arith) (omega arith) ∙ value) is)

  four_bytes : 65536 ≤ c → c < 1114112
      → of_form form.Utf8 halves ((240 + c / 262144) ∷ (128 + (c / 4096) % 64) ∷ (128 + (c / 64) % 64) ∷ (128 + c % 64) ∷ rest) ≡ Some (one_of halves 4 c)
  four_bytes low high =
      let b = 240 + c / 262144 in
      let d = 128 + (c / 4096) % 64 in
      let e = 128 + (c / 64) % 64 in
      let f = 128 + c % 64 in
      let p0 : c ≡ (c / 64) * 64 + c % 64 = omega arith in
      let p1 : c / 64 ≡ (c / 4096) * 64 + (c / 64) % 64 = omega arith in
      let p2 : c / 4096 ≡ (c / 262144) * 64 + (c / 4096) % 64 = omega arith in
      let value : (((b - 0xF0) * 64 + low_bits d) * 64 + low_bits e) * 64 + low_bits f ≡ c = omega arith in
      formed halves b (d ∷ e ∷ f ∷ rest) (second_four b ∷ NEXT ∷ NEXT ∷ []) c (ranges_four b (omega arith))
      (fits_three (second_four b) NEXT NEXT d e f rest
      (in_second_four b d (omega arith) (omega arith) (λ h. omega arith) (λ h. omega arith))
      (between 0x80 0xBF e (omega arith) (omega arith))
      (between 0x80 0xBF f (omega arith) (omega arith)))
      (is_character b d e f c (number_of_four b d e f (omega arith) ∙ value) is)

-- ---- whole texts

no_escape : (sets : Sets) (b : ℕ) → IsUtf8InForce sets → is_escape sets b ≡ false
no_escape sets b u = and_second_false (b == 0x1B) sets.extended u.alone

utf8_opening : (sets : Sets) (b : ℕ) → IsUtf8InForce sets → 0xC2 ≤ b → b ≤ 0xF4 → opening_of (start_of sets) b ≡ opening.Form form.Utf8
utf8_opening sets b u l h =
    cond-false _ _ _ (let t : nat_lt b 0x80 ≡ false = grind (arith, nat_tests) in t)
    ∙ ap (λ (r : Right). right_opening r b) u.start
    ∙ cond-true _ _ _ (between 0xC2 0xF4 b l h)

long_first : (sets : Sets) (kind : TextKind) (b : ℕ) (tail : List ℕ) (f : Found) → IsUtf8InForce sets → 0xC2 ≤ b → b ≤ 0xF4
    → of_form form.Utf8 (start_of sets) (b ∷ tail) ≡ Some f → first_of sets kind (start_of sets) (b ∷ tail) ≡ Some f
unfolding first_of
long_first sets kind b tail f u l h e =
    ap (λ (t : Bool). cond t (designated sets designations (start_of sets) tail) (opened (opening_of (start_of sets) b) sets kind (start_of sets) (b ∷ tail))) (no_escape sets b u)
    ∙ ap (λ (o : Opening). opened o sets kind (start_of sets) (b ∷ tail)) (utf8_opening sets b u l h)
    ∙ e

-- a term of the type given
abbrev by : (A : Type 0) → A → A
by A a = a

char_first : (sets : Sets) (kind : TextKind) (c : ℕ) (rest : List ℕ) → IsUtf8InForce sets → scalar c ≡ true
    → first_of sets kind (start_of sets) (encode_utf8 c ++ rest) ≡ Some (one_of (start_of sets) (length (encode_utf8 c)) c)
unfolding encode_utf8
char_first sets kind c rest u is =
    let range = scalar_cases c is in
    let goal : List ℕ → Type 0 = λ l. first_of sets kind (start_of sets) (l ++ rest) ≡ Some (one_of (start_of sets) (length l) c) in
    ⊎_elim
    (λ one.
    let e : encode_utf8 c ≡ c ∷ [] = cond-true _ _ _ (by (ltb c 128 ≡ true) (grind (arith, nat_tests))) in
    subst goal (sym e) (plain_first sets kind c rest (by (nat_lt c 0x80 ≡ true) (grind (arith, nat_tests))) (no_escape sets c u)))
    (λ more.
    let not_one : ltb c 128 ≡ false = grind (arith, nat_tests) in
    ⊎_elim
    (λ two.
    let e : encode_utf8 c ≡ (192 + c / 64) ∷ (128 + c % 64) ∷ [] = cond-false _ _ _ not_one ∙ cond-true _ _ _ (by (ltb c 2048 ≡ true) (grind (arith, nat_tests))) in
    subst goal (sym e) (long_first sets kind _ _ _ u (omega arith) (omega arith) (two_bytes (start_of sets) c rest is more two)))
    (λ wide.
    let not_two : ltb c 2048 ≡ false = grind (arith, nat_tests) in
    ⊎_elim
    (λ three.
    let e : encode_utf8 c ≡ (224 + c / 4096) ∷ (128 + (c / 64) % 64) ∷ (128 + c % 64) ∷ [] =
    cond-false _ _ _ not_one ∙ cond-false _ _ _ not_two ∙ cond-true _ _ _ (by (ltb c 65536 ≡ true) (grind (arith, nat_tests))) in
    let apart : (c < 55296) ⊎ (57344 ≤ c) = ⊎_elim (λ low. inl low) (λ high. inr high.0) range in
    subst goal (sym e) (long_first sets kind _ _ _ u (omega arith) (omega arith) (three_bytes (start_of sets) c rest is wide three apart)))
    (λ four.
    let not_three : ltb c 65536 ≡ false = grind (arith, nat_tests) in
    let e : encode_utf8 c ≡ (240 + c / 262144) ∷ (128 + (c / 4096) % 64) ∷ (128 + (c / 64) % 64) ∷ (128 + c % 64) ∷ [] =
    cond-false _ _ _ not_one ∙ cond-false _ _ _ not_two ∙ cond-false _ _ _ not_three in
    let top : c < 1114112 = ⊎_elim (λ low. omega arith) (λ high. high.1) range in
    subst goal (sym e) (long_first sets kind _ _ _ u (omega arith) (omega arith) (four_bytes (start_of sets) c rest is four top)))
    (cases_lt c 65536))
    (cases_lt c 2048))
    (cases_lt c 128)

chars_from : (sets : Sets) (kind : TextKind) (cs : List ℕ) → IsUtf8InForce sets → all_scalars cs ≡ true
    → decoded_from sets kind (start_of sets) (encode_utf8_all cs) ≡ map encoded cs
unfolding decoded_from
chars_from sets kind [] u e = refl
chars_from sets kind (c ∷ cs) u e =
    let both = and_parts (scalar c) (all_scalars cs) e in
    let bytes = encode_utf8 c in
    let text = bytes ++ encode_utf8_all cs in
    let f : Found = one_of (start_of sets) (length bytes) c in
    one_piece sets kind (start_of sets) text f (found_some true sets kind (start_of sets) text f (char_first sets kind c (encode_utf8_all cs) u both.0))
    ∙ ap (λ (t : List ℕ). (t, meaning.Character c) ∷ decoded_from sets kind (start_of sets) (drop (length bytes) text)) (take-append_seam bytes (encode_utf8_all cs))
    ∙ ap (λ (t : List ℕ). encoded c ∷ decoded_from sets kind (start_of sets) t) (drop-append_seam bytes (encode_utf8_all cs))
    ∙ ap (λ (ps : List Piece). encoded c ∷ ps) (chars_from sets kind cs u both.1)

pub chars_decoded : (sets : Sets) (kind : TextKind) (cs : List ℕ) → IsUtf8InForce sets → all_scalars cs ≡ true
    → decoded sets kind (encode_utf8_all cs) ≡ map encoded cs
unfolding decoded
chars_decoded sets kind cs u e = chars_from sets kind cs u e

-- in front of other bytes they are so too
pub chars_ahead : (sets : Sets) (kind : TextKind) (cs after : List ℕ) → IsUtf8InForce sets → all_scalars cs ≡ true
    → decoded_from sets kind (start_of sets) (encode_utf8_all cs ++ after) ≡ map encoded cs ++ decoded_from sets kind (start_of sets) after
chars_ahead sets kind [] after u e = refl
chars_ahead sets kind (c ∷ cs) after u e =
    let both = and_parts (scalar c) (all_scalars cs) e in
    let bytes = encode_utf8 c in
    let others = encode_utf8_all cs ++ after in
    let text = bytes ++ others in
    let f : Found = one_of (start_of sets) (length bytes) c in
    ap (decoded_from sets kind (start_of sets)) (append_assoc bytes (encode_utf8_all cs) after)
    ∙ one_piece sets kind (start_of sets) text f (found_some true sets kind (start_of sets) text f (char_first sets kind c others u both.0))
    ∙ ap (λ (t : List ℕ). (t, meaning.Character c) ∷ decoded_from sets kind (start_of sets) (drop (length bytes) text)) (take-append_seam bytes others)
    ∙ ap (λ (t : List ℕ). encoded c ∷ decoded_from sets kind (start_of sets) t) (drop-append_seam bytes others)
    ∙ ap (λ (ps : List Piece). encoded c ∷ ps) (chars_ahead sets kind cs after u both.1)
