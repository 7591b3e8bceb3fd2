-- Units with backslashes between stand for their bytes.
use Rattle.std.proofs.Common.{◌≡◌, ◌≢◌, ◌≤◌, ◌<◌, ℕ, zero, suc, ◌+◌, ◌-◌, ◌*◌, ◌/◌, ◌%◌, ◌^◌, ◌==◌, ◌&&◌, List, [], ◌∷◌, ◌++◌, length, take, drop, get_or, map, reverse, flat_map, codes, decimal, Option, Some, None, ap, sym, ◌∙◌, arith, refl, append-nil, cond, true, false, Bool, nat_lt, nat_le, subst, lt-ltb, le-ltb, ne_eqb, lit<, ◌⊎◌, eq-eqb, not, suc-mul}
use Rattle.std.specs.Char.{digit_value}
use Rattle.std.specs.List.{slice_split, join_with_byte, onto_first}
use Rattle.std.specs.Str.Parse.{AllDigits, digits_value_after}
use Rattle.std.proofs.lemmas.Bool.{le-leb, cases_lt}
use mathlib.Core.Logic.{⊎_elim}
use Rattle.std.proofs.lemmas.Fmt.{decimal_is_IsNumeral, decimal_is_IsNumeral_wide}
use Rattle.std.proofs.lemmas.List.{reverse-append, length-reverse, get_or-reverse, get_or-take, get_or-drop, length-append, length-take, length-drop, take-append-drop, take_all}
use Rattle.byteorder.specs.Endian.{little_bytes}
use Rattle.std.specs.Int.{byte_at, bytes_low_first}
use Rattle.std.proofs.Math.Nat.{pow-suc, div-div-eq-div-mul, div-one, pow-le-pow_right, mod-eq_of_lt}
use Rattle.dcm_base.proofs.DumpsBack.Numbers.{decimal_back, length-hex, word_back}
use Rattle.dcm_base.proofs.DumpsBack.Texts.{lower_digit}
use Rattle.dcm_lemmas.proofs.Numbers.{byte_is}
use Rattle.dcm_lemmas.proofs.Truth.{and_parts, not_true}
use Rattle.dcm_base.specs.declared.tag.Tag.{Tag}
use Rattle.dcm_base.specs.Tables.Number.{AreBytes}
use Rattle.dcm_base.specs.Tree.Value.{number_of, pieces}
use Rattle.dcm_base.specs.Dump.ValueText.{lower, hex_byte, hex_word, signed_text, tag_text}
use Rattle.dcm_base.specs.Lines.ReadValue.{◌>>=◌, only_if, digit, number_in, hex_number, unsigned_value, positive_value, negative_value, signed_value, tag_value, hex_value, each_part, joined}
use Rattle.dcm_value.proofs.ReadBack.Texts.{all_below, one_below}

-- what digits spell
digits_spell : (base so_far : ℕ) (cs : List ℕ) → AllDigits base cs → number_in base so_far cs ≡ Some (digits_value_after base so_far cs)
digits_spell base so_far [] h = refl
digits_spell base so_far (c ∷ cs) h =
    ap (λ b. cond b (Some (digit_value c)) None >>= λ d. number_in base (so_far * base + d) cs) (lt-ltb (digit_value c) base h.0)
    ∙ digits_spell base (so_far * base + digit_value c) cs h.1

-- no digit is a backslash or a sign
digit_is_plain : (c : ℕ) → digit_value c < 10 → (c ≢ 92) × (c ≢ 45)
digit_is_plain c l = (λ e. absurd (let big : digit_value c ≡ 36 = ap digit_value e in omega arith), λ e. absurd (let big : digit_value c ≡ 36 = ap digit_value e in omega arith))

bytes_from : (u : List ℕ) (j n : ℕ) → AreBytes u → n / 256 ^ j ≡ number_of u → bytes_low_first j (length u) n ≡ u
bytes_from [] j n h e = refl
bytes_from (b ∷ bs) j n h e =
    let small : b < 256 = h 0 in
    let here : byte_at j n ≡ b = byte_is j n ∙ ap (λ m. m % 256) e ∙ (let f : (b + 256 * number_of bs) % 256 ≡ b = omega arith in f) in
    let next : n / 256 ^ suc j ≡ number_of bs =
    ap (λ p. n / p) (pow-suc 256 j) ∙ sym (div-div-eq-div-mul n (256 ^ j) 256) ∙ ap (λ m. m / 256) e ∙ (let f : (b + 256 * number_of bs) / 256 ≡ number_of bs = omega arith in f)
    in
    ap (λ x. x ∷ bytes_low_first (suc j) (length bs) n) here ∙ ap (λ xs. b ∷ xs) (bytes_from bs (suc j) n (λ i. h (suc i)) next)

pub bytes_back : (u : List ℕ) → AreBytes u → little_bytes (length u) (number_of u) ≡ u
bytes_back u h = bytes_from u 0 (number_of u) h (div-one (number_of u))

pub number_small : (u : List ℕ) → AreBytes u → number_of u < 256 ^ length u
number_small [] h = lit< tt
number_small (b ∷ bs) h =
    let rest = number_small bs (λ i. h (suc i)) in
    let small : b < 256 = h 0 in
    let more : 256 ^ suc (length bs) ≡ 256 ^ length bs * 256 = pow-suc 256 (length bs) in
    omega (arith, rest, more)

-- what a unit of so many bytes spells
pub unsigned_back : (size : ℕ) (u : List ℕ) → length u ≡ size → size ≤ 8 → AreBytes u → unsigned_value size (decimal (number_of u)) ≡ Some u
unsigned_back size u e few h =
    let n : ℕ = number_of u in
    let small : n < 256 ^ size = subst (λ k. n < 256 ^ k) e (number_small u h) in
    let most : 256 ^ size ≤ 256 ^ 8 = pow-le-pow_right {n = 256} (lit< tt) {i = size} {j = 8} few in
    ap (λ o. o >>= λ n. only_if (nat_lt n (256 ^ size)) (Some (little_bytes size n))) (decimal_back n (omega (arith, most)))
    ∙ ap (λ b. only_if b (Some (little_bytes size n))) (lt-ltb n (256 ^ size) small)
    ∙ ap (λ k. Some (little_bytes k n)) (sym e)
    ∙ ap Some (bytes_back u h)

-- digits have no sign
unsigned_text : (size : ℕ) (cs : List ℕ) → 0 < length cs → AllDigits 10 cs → signed_value size cs ≡ positive_value size cs
unsigned_text size [] l h = absurd (omega arith)
unsigned_text size (c ∷ cs) l h = ap (λ b. cond b (negative_value size cs) (positive_value size (c ∷ cs))) (ne_eqb c 45 (digit_is_plain c h.0).1)

signed_in : (size half : ℕ) (u : List ℕ) → length u ≡ size → half + half ≡ 256 ^ size → half < 2 ^ 64 → AreBytes u → signed_value size (cond (nat_lt (number_of u) half) (decimal (number_of u)) (codes "-" ++ decimal (256 ^ size - number_of u))) ≡ Some u
signed_in size half u e twice few h =
    let n : ℕ = number_of u in
    let small : n < 256 ^ size = subst (λ k. n < 256 ^ k) e (number_small u h) in
    let back : Some (little_bytes size n) ≡ Some u = ap (λ k. Some (little_bytes k n)) (sym e) ∙ ap Some (bytes_back u h) in
    ⊎_elim
    (λ l.
    let numeral = decimal_is_IsNumeral n (omega arith) in
    ap (λ b. signed_value size (cond b (decimal n) (codes "-" ++ decimal (256 ^ size - n)))) (lt-ltb n half l)
    ∙ unsigned_text size (decimal n) numeral.0.0 numeral.0.1
    ∙ ap (λ o. o >>= λ n. only_if (nat_lt (2 * n) (256 ^ size)) (Some (little_bytes size n))) (decimal_back n (omega arith))
    ∙ ap (λ b. only_if b (Some (little_bytes size n))) (lt-ltb (2 * n) (256 ^ size) (omega arith))
    ∙ back)
    (λ l.
    let m : ℕ = 256 ^ size - n in
    let there : (256 ^ size - m) % 256 ^ size ≡ n = ap (λ x. x % 256 ^ size) (let f : 256 ^ size - m ≡ n = omega arith in f) ∙ mod-eq_of_lt small in
    ap (λ b. signed_value size (cond b (decimal n) (codes "-" ++ decimal m))) (le-ltb n half l)
    ∙ ap (λ o. o >>= λ n. only_if (nat_le (2 * n) (256 ^ size)) (Some (little_bytes size ((256 ^ size - n) % 256 ^ size)))) (decimal_back m (omega arith))
    ∙ ap (λ b. only_if b (Some (little_bytes size ((256 ^ size - m) % 256 ^ size)))) (le-leb (2 * m) (256 ^ size) (omega arith))
    ∙ ap (λ x. Some (little_bytes size x)) there
    ∙ back)
    (cases_lt n half)

pub signed_back : (size : ℕ) (u : List ℕ) → (size ≡ 2) ⊎ ((size ≡ 4) ⊎ (size ≡ 8)) → length u ≡ size → AreBytes u → signed_value size (signed_text (length u) (number_of u)) ≡ Some u
signed_back size u k e h =
    ⊎_elim (λ two. at 2 (2 ^ 15) refl refl refl (lit< tt) two)
    (λ more. ⊎_elim (λ four. at 4 (2 ^ 31) refl refl refl (lit< tt) four) (λ eight. at 8 (2 ^ 63) refl refl refl (lit< tt) eight) more) k
  where
    at : (s half : ℕ) → half + half ≡ 256 ^ s → 2 ^ (8 * s - 1) ≡ half → 2 ^ (8 * s) ≡ 256 ^ s → half < 2 ^ 64 → size ≡ s → signed_value size (signed_text (length u) (number_of u)) ≡ Some u
    at s half twice is wide few same =
        let n : ℕ = number_of u in
        ap (λ k. signed_value k (signed_text (length u) n)) same
        ∙ ap (λ k. signed_value s (signed_text k n)) (e ∙ same)
        ∙ ap (λ x. signed_value s (cond (nat_lt n x) (decimal n) (codes "-" ++ decimal (2 ^ (8 * s) - n)))) is
        ∙ ap (λ x. signed_value s (cond (nat_lt n half) (decimal n) (codes "-" ++ decimal (x - n)))) wide
        ∙ signed_in s half u (e ∙ same) twice few h

abbrev tag_from : ℕ → ℕ → Option Tag
tag_from group element = Some (record { group = group; element = element })

abbrev tag_bytes : Tag → Option (List ℕ)
tag_bytes tag = Some (little_bytes 2 tag.group ++ little_bytes 2 tag.element)

-- bytes in any order
past : (xs : List ℕ) (i : ℕ) → length xs ≤ i → get_or xs i 0 ≡ 0
past [] i l = refl
past (x ∷ xs) zero l = absurd (omega arith)
past (x ∷ xs) (suc i) l = past xs i (omega arith)

reversed_bytes : (u : List ℕ) → AreBytes u → AreBytes (reverse u)
reversed_bytes u h i =
    ⊎_elim
    (λ l. subst (λ x. x < 256) (sym (get_or-reverse u i 0 l)) (h (length u - 1 - i)))
    (λ l. subst (λ x. x < 256) (sym (past (reverse u) i (omega (arith, length-reverse u)))) (lit< tt))
    (cases_lt i (length u))

bytes_two : (a b : ℕ) → a < 256 → b < 256 → little_bytes 2 (a + 256 * (b + 256 * 0)) ≡ a ∷ b ∷ []
bytes_two a b x y =
    let first : (a + 256 * (b + 256 * 0)) % 256 ≡ a = omega arith in
    let second : (a + 256 * (b + 256 * 0)) / 256 % 256 ≡ b = omega arith in
    ap (λ k. k ∷ (a + 256 * (b + 256 * 0)) / 256 % 256 ∷ []) first ∙ ap (λ k. a ∷ k ∷ []) second

pub tag_back : (u : List ℕ) → length u ≡ 4 → AreBytes u → tag_value (tag_text (number_of (take 2 u)) (number_of (drop 2 u))) ≡ Some u
tag_back (a ∷ b ∷ c ∷ d ∷ []) e h =
    let w : a < 256 = h 0 in
    let x : b < 256 = h 1 in
    let y : c < 256 = h 2 in
    let z : d < 256 = h 3 in
    let g : ℕ = a + 256 * (b + 256 * 0) in
    let f : ℕ = c + 256 * (d + 256 * 0) in
    ap (λ o. (o >>= λ group. hex_number 4 (hex_word f) >>= λ element. tag_from group element) >>= tag_bytes) (word_back g (omega arith))
    ∙ ap (λ o. (o >>= λ element. tag_from g element) >>= tag_bytes) (word_back f (omega arith))
    ∙ ap (λ xs. Some (xs ++ little_bytes 2 f)) (bytes_two a b w x)
    ∙ ap (λ xs. Some ((a ∷ b ∷ []) ++ xs)) (bytes_two c d y z)
tag_back _ e h = absurd (omega arith)

-- the digits of a list of bytes, the highest first
unfoldable pub high_number : ℕ → List ℕ → ℕ
high_number so_far [] = so_far
high_number so_far (b ∷ bs) = high_number (so_far * 256 + b) bs

digits_back : (so_far : ℕ) (w : List ℕ) → AreBytes w → number_in 16 so_far (flat_map hex_byte w) ≡ Some (high_number so_far w)
unfolding high_number
digits_back so_far [] h = refl
digits_back so_far (b ∷ bs) h =
    let small : b < 256 = h 0 in
    ap (λ o. o >>= λ d. digit 16 (lower (b % 16)) >>= λ e. number_in 16 ((so_far * 16 + d) * 16 + e) (flat_map hex_byte bs)) (lower_digit (b / 16) (omega arith))
    ∙ ap (λ o. o >>= λ e. number_in 16 ((so_far * 16 + b / 16) * 16 + e) (flat_map hex_byte bs)) (lower_digit (b % 16) (omega arith))
    ∙ ap (λ n. number_in 16 n (flat_map hex_byte bs)) (let e : (so_far * 16 + b / 16) * 16 + b % 16 ≡ so_far * 256 + b = omega arith in e)
    ∙ digits_back (so_far * 256 + b) bs (λ i. h (suc i))

high_last : (so_far : ℕ) (w : List ℕ) (b : ℕ) → high_number so_far (w ++ b ∷ []) ≡ high_number so_far w * 256 + b
unfolding high_number
high_last so_far [] b = refl
high_last so_far (x ∷ xs) b = high_last (so_far * 256 + x) xs b

pub high_reverse : (u : List ℕ) → high_number 0 (reverse u) ≡ number_of u
unfolding high_number
high_reverse [] = refl
high_reverse (b ∷ bs) = ap (high_number 0) (reverse-append (b ∷ []) bs) ∙ high_last 0 (reverse bs) b ∙ ap (λ n. n * 256 + b) (high_reverse bs) ∙ (let e : number_of bs * 256 + b ≡ b + 256 * number_of bs = omega arith in e)

pub hex_back : (size : ℕ) (u : List ℕ) → length u ≡ size → AreBytes u → hex_value size (flat_map hex_byte (reverse u)) ≡ Some u
hex_back size u e h =
    let cs : List ℕ = flat_map hex_byte (reverse u) in
    let long : length cs ≡ 2 * size = length-hex (reverse u) ∙ ap (λ k. 2 * k) (length-reverse u ∙ e) in
    ap (λ b. cond b (number_in 16 0 cs) None >>= λ n. Some (little_bytes size n)) (eq-eqb (length cs) (2 * size) long)
    ∙ ap (λ o. o >>= λ n. Some (little_bytes size n)) (digits_back 0 (reverse u) (reversed_bytes u h))
    ∙ ap (λ n. Some (little_bytes size n)) (high_reverse u)
    ∙ ap (λ k. Some (little_bytes k (number_of u))) (sym e)
    ∙ ap Some (bytes_back u h)

-- texts without a backslash
abbrev pub is_plain : List ℕ → Bool
is_plain [] = true
is_plain (c ∷ cs) = not (c == 92) && is_plain cs

plain_append : (xs ys : List ℕ) → is_plain xs ≡ true → is_plain ys ≡ true → is_plain (xs ++ ys) ≡ true
plain_append [] ys a b = b
plain_append (x ∷ xs) ys a b =
    let parts = and_parts (not (x == 92)) (is_plain xs) a in
    ap (λ t. t && is_plain (xs ++ ys)) parts.0 ∙ plain_append xs ys parts.1 b

plain_digits : (cs : List ℕ) → AllDigits 10 cs → is_plain cs ≡ true
plain_digits [] h = refl
plain_digits (c ∷ cs) h = ap (λ t. not t && is_plain cs) (ne_eqb c 92 (digit_is_plain c h.0).0) ∙ plain_digits cs h.1

lower_tests : all_below (λ d. not (lower d == 92)) 16 ≡ true
lower_tests = refl

plain_lower : (d : ℕ) → d < 16 → not (lower d == 92) ≡ true
plain_lower d l = one_below (λ d. not (lower d == 92)) 16 d lower_tests l

plain_byte : (b : ℕ) → b < 256 → is_plain (hex_byte b) ≡ true
plain_byte b l = ap (λ t. t && (not (lower (b % 16) == 92) && true)) (plain_lower (b / 16) (omega arith)) ∙ ap (λ t. t && true) (plain_lower (b % 16) (omega arith))

plain_bytes : (w : List ℕ) → AreBytes w → is_plain (flat_map hex_byte w) ≡ true
plain_bytes [] h = refl
plain_bytes (b ∷ bs) h = plain_append (hex_byte b) (flat_map hex_byte bs) (plain_byte b (h 0)) (plain_bytes bs (λ i. h (suc i)))

plain_word : (n : ℕ) → n < 65536 → is_plain (hex_word n) ≡ true
plain_word n l = plain_append (hex_byte (n / 256)) (hex_byte (n % 256)) (plain_byte (n / 256) (omega arith)) (plain_byte (n % 256) (omega arith))

-- the parts between backslashes
split_plain : (x ys : List ℕ) → is_plain x ≡ true → slice_split (λ c. c == 92) (x ++ 92 ∷ ys) ≡ x ∷ slice_split (λ c. c == 92) ys
split_plain [] ys e = refl
split_plain (c ∷ cs) ys e =
    let parts = and_parts (not (c == 92)) (is_plain cs) e in
    ap (λ t. cond t ([] ∷ slice_split (λ c. c == 92) (cs ++ 92 ∷ ys)) (onto_first c (slice_split (λ c. c == 92) (cs ++ 92 ∷ ys)))) (not_true (c == 92) parts.0)
    ∙ ap (onto_first c) (split_plain cs ys parts.1)

split_last : (x : List ℕ) → is_plain x ≡ true → slice_split (λ c. c == 92) x ≡ x ∷ []
split_last [] e = refl
split_last (c ∷ cs) e =
    let parts = and_parts (not (c == 92)) (is_plain cs) e in
    ap (λ t. cond t ([] ∷ slice_split (λ c. c == 92) cs) (onto_first c (slice_split (λ c. c == 92) cs))) (not_true (c == 92) parts.0)
    ∙ ap (onto_first c) (split_last cs parts.1)

-- bytes of a part
pub bytes_take : (k : ℕ) (v : List ℕ) → AreBytes v → AreBytes (take k v)
bytes_take k v h i =
    ⊎_elim
    (λ l. subst (λ x. x < 256) (sym (get_or-take k v i 0 l)) (h i))
    (λ l. subst (λ x. x < 256) (sym (past (take k v) i (omega (arith, length-take k v)))) (lit< tt))
    (cases_lt i k)

pub bytes_drop : (k : ℕ) (v : List ℕ) → AreBytes v → AreBytes (drop k v)
bytes_drop k v h i = subst (λ x. x < 256) (sym (get_or-drop k v i 0)) (h (k + i))

-- a unit and its text
pub record IsBack (t : List ℕ → List ℕ) (read : List ℕ → Option (List ℕ)) (u : List ℕ) : Type 0 where
  pub plain : is_plain (t u) ≡ true
  pub back : read (t u) ≡ Some u
  pub some : 0 < length (t u)

pub record AreBack (t : List ℕ → List ℕ) (read : List ℕ → Option (List ℕ)) (n k : ℕ) (v : List ℕ) : Type 0 where
  pub all : joined read (join_with_byte 92 (map t (pieces n k v))) ≡ Some v
  pub long : n + n ≤ length (join_with_byte 92 (map t (pieces n k v))) + 1

pub units_back : (t : List ℕ → List ℕ) (read : List ℕ → Option (List ℕ)) (k : ℕ) → ((u : List ℕ) → length u ≡ k → AreBytes u → IsBack t read u) → (n : ℕ) (v : List ℕ) → length v ≡ suc n * k → AreBytes v → AreBack t read (suc n) k v
units_back t read k each zero v e h =
    let u : List ℕ = take k v in
    let is_unit : length u ≡ k = omega (arith, length-take k v) in
    let one = each u is_unit (bytes_take k v h) in
    let all : u ≡ v = take_all k v (omega arith) in
    record {
      all = ap (each_part read) (split_last (t u) one.plain) ∙ ap (λ o. o >>= λ bytes. Some (bytes ++ [])) one.back ∙ ap Some (append-nil u ∙ all);
      long = (let some = one.some in omega arith);
    }
units_back t read k each (suc n) v e h =
    let u : List ℕ = take k v in
    let w : List ℕ = drop k v in
    let is_unit : length u ≡ k = omega (arith, length-take k v, suc-mul (suc n) k) in
    let one = each u is_unit (bytes_take k v h) in
    let rest = units_back t read k each n w (omega (arith, length-drop k v, suc-mul (suc n) k)) (bytes_drop k v h) in
    let others : List ℕ = join_with_byte 92 (map t (pieces (suc n) k w)) in
    record {
      all =
          ap (each_part read) (split_plain (t u) others one.plain)
          ∙ ap (λ o. o >>= λ bytes. joined read others >>= λ more. Some (bytes ++ more)) one.back
          ∙ ap (λ o. o >>= λ more. Some (u ++ more)) rest.all
          ∙ ap Some (take-append-drop k v);
      long = (let some = one.some in let more = rest.long in omega (arith, length-append (t u) (92 ∷ others)));
    }

within_long : (k : ℕ) (u : List ℕ) → k ≤ 8 → length u ≡ k → AreBytes u → number_of u < 2 ^ 64
within_long k u few e h =
    let small : number_of u < 256 ^ k = subst (λ k. number_of u < 256 ^ k) e (number_small u h) in
    let most : 256 ^ k ≤ 256 ^ 8 = pow-le-pow_right {n = 256} (lit< tt) {i = k} {j = 8} few in
    omega (arith, most)

rest_small : (k : ℕ) (u : List ℕ) → k ≤ 8 → length u ≡ k → 2 ^ (8 * length u) - number_of u < 10 ^ 64
rest_small k u few e =
    let most : 2 ^ (8 * length u) ≤ 2 ^ 64 = pow-le-pow_right {n = 2} (lit< tt) {i = 8 * length u} {j = 64} (omega arith) in
    omega (arith, most)

plain_tag : (u : List ℕ) → length u ≡ 4 → AreBytes u → is_plain (tag_text (number_of (take 2 u)) (number_of (drop 2 u))) ≡ true
plain_tag (a ∷ b ∷ c ∷ d ∷ []) e h =
    let w : a < 256 = h 0 in
    let x : b < 256 = h 1 in
    let y : c < 256 = h 2 in
    let z : d < 256 = h 3 in
    let g : ℕ = a + 256 * (b + 256 * 0) in
    let f : ℕ = c + 256 * (d + 256 * 0) in
    plain_append (codes "(" ++ hex_word g ++ codes "," ++ hex_word f) (codes ")") (plain_append (codes "(" ++ hex_word g ++ codes ",") (hex_word f) (plain_append (codes "(" ++ hex_word g) (codes ",") (plain_word g (omega arith)) refl) (plain_word f (omega arith))) refl
plain_tag _ e h = absurd (omega arith)

-- each shape of a unit
pub back_unsigned : (k : ℕ) → k ≤ 8 → (u : List ℕ) → length u ≡ k → AreBytes u → IsBack (λ u. decimal (number_of u)) (unsigned_value k) u
back_unsigned k few u e h =
    let small : number_of u < 2 ^ 64 = within_long k u few e h in
    let numeral = decimal_is_IsNumeral (number_of u) small in
    record { plain = plain_digits (decimal (number_of u)) numeral.0.1; back = unsigned_back k u e few h; some = numeral.0.0 }

pub back_signed : (k : ℕ) → (k ≡ 2) ⊎ ((k ≡ 4) ⊎ (k ≡ 8)) → k ≤ 8 → (u : List ℕ) → length u ≡ k → AreBytes u → IsBack (λ u. signed_text (length u) (number_of u)) (signed_value k) u
back_signed k size few u e h =
    let n : ℕ = number_of u in
    let top : ℕ = 2 ^ (8 * length u) in
    let small : n < 2 ^ 64 = within_long k u few e h in
    let rest : top - n < 10 ^ 64 = rest_small k u few e in
    record {
      plain = plain_of n (top - n) (nat_lt n (2 ^ (8 * length u - 1))) (decimal_is_IsNumeral n small).0.1 (decimal_is_IsNumeral_wide (top - n) rest).0.1;
      back = signed_back k u size e h;
      some = some_of n (top - n) (nat_lt n (2 ^ (8 * length u - 1))) (decimal_is_IsNumeral n small).0.0;
    }
  where
    plain_of : (n m : ℕ) (t : Bool) → AllDigits 10 (decimal n) → AllDigits 10 (decimal m) → is_plain (cond t (decimal n) (codes "-" ++ decimal m)) ≡ true
    plain_of n m true a b = plain_digits (decimal n) a
    plain_of n m false a b = plain_digits (decimal m) b

    some_of : (n m : ℕ) (t : Bool) → 0 < length (decimal n) → 0 < length (cond t (decimal n) (codes "-" ++ decimal m))
    some_of n m true a = a
    some_of n m false a = omega arith

pub back_tags : (u : List ℕ) → length u ≡ 4 → AreBytes u → IsBack (λ u. tag_text (number_of (take 2 u)) (number_of (drop 2 u))) tag_value u
back_tags u e h = record { plain = plain_tag u e h; back = tag_back u e h; some = omega arith }

pub back_bytes : (k : ℕ) → 0 < k → (u : List ℕ) → length u ≡ k → AreBytes u → IsBack (λ u. flat_map hex_byte (reverse u)) (hex_value k) u
back_bytes k l u e h = record {
  plain = plain_bytes (reverse u) (reversed_bytes u h);
  back = hex_back k u e h;
  some = omega (arith, length-hex (reverse u), length-reverse u);
}
