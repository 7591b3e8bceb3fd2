-- Texts in double quotes are valid UTF-8.
use Rattle.std.proofs.Common.{◌≡◌, ◌∙◌, sym, ap, refl, subst, ℕ, zero, suc, ◌+◌, ◌<◌, ◌≤◌, ◌==◌, List, [], ◌∷◌, ◌++◌, length, take, drop, Bool, true, false, cond, arith}
use Rattle.std.specs.Prelude.{slice_index, ◌/◌, ◌%◌, nat_lt, if◌then◌else◌, ◌&&◌, IsUtf8, IsAscii}
use Rattle.std.specs.Str.{is_utf8}
use Rattle.std.specs.Str.Lossy.{utf8_valid_len, valid_len_up_to}
use Rattle.std.proofs.lemmas.Bool.{cases_lt}
use Rattle.std.proofs.lemmas.Grind.{flat_map-append}
use Rattle.std.proofs.lemmas.List.{length-drop, append-nil, take_all}
use Rattle.std.proofs.lemmas.Str.{IsUtf8-append, IsUtf8-nil, IsUtf8-from_ascii, IsUtf8-from_is_utf8, encode_ascii, encodes-append}
use Rattle.std.proofs.lemmas.Str.Ascii.{IsAscii-nil, IsAscii-cons}
use lib.Utf8.{scalar, scalars, encode, encodes}
use mathlib.Core.Logic.{⊎_elim}
use Rattle.dcm_lemmas.proofs.Numbers.{equal_numbers, not_below}
use Rattle.dcm_lemmas.proofs.Truth.{and_parts}
use Rattle.dcm_base.specs.Dump.ValueText.{lower, hex_byte}
use Rattle.dcm_base.specs.Tables.Number.{AreBytes}
use Rattle.dcm_table.proofs.Texts.{above_quote}
use Rattle.dcm_table.specs.Quoted.{doubled, doubled_byte, quoted, escaped_byte, valid_within, valid_utf8}
use Rattle.dcm_value.proofs.ReadBack.Units.{bytes_drop}

-- ---- quotes doubled

abbrev AllAbove : List ℕ → Type 0
AllAbove [] = Unit {0}
AllAbove (b ∷ bytes) = (34 < b) × AllAbove bytes

above_stay : (bytes : List ℕ) → AllAbove bytes → doubled bytes ≡ bytes
above_stay [] h = refl
above_stay (b ∷ bytes) h = ap (λ (x : List ℕ). x ++ doubled bytes) (above_quote b h.0) ∙ ap (λ (x : List ℕ). b ∷ x) (above_stay bytes h.1)

-- a character of more than one byte has none below 128
wide_above : (t u v : Bool) (a b c d e f g h i j : ℕ) → t ≡ false
    → AllAbove (cond t (a ∷ []) (cond u ((192 + b) ∷ (128 + c) ∷ []) (cond v ((224 + d) ∷ (128 + e) ∷ (128 + f) ∷ []) ((240 + g) ∷ (128 + h) ∷ (128 + i) ∷ (128 + j) ∷ []))))
wide_above true u v a b c d e f g h i j is = cc
wide_above false true v a b c d e f g h i j is = (omega arith, (omega arith, tt))
wide_above false false true a b c d e f g h i j is = (omega arith, (omega arith, (omega arith, tt)))
wide_above false false false a b c d e f g h i j is = (omega arith, (omega arith, (omega arith, (omega arith, tt))))

encode_above : (c : ℕ) → 128 ≤ c → AllAbove (encode c)
unfolding encode
encode_above c h = wide_above (nat_lt c 128) (nat_lt c 2048) (nat_lt c 65536) c (c / 64) (c % 64) (c / 4096) (c / 64 % 64) (c % 64) (c / 262144) (c / 4096 % 64) (c / 64 % 64) (c % 64) (not_below c 128 h)

low_doubled : (t : Bool) (c : ℕ) → encode c ≡ c ∷ [] → (if t then 34 ∷ 34 ∷ [] else c ∷ []) ++ [] ≡ encodes (if t then 34 ∷ 34 ∷ [] else c ∷ [])
low_doubled true c e = let q : encode 34 ≡ 34 ∷ [] = encode_ascii 34 (omega arith) in sym (ap (λ (x : List ℕ). x ++ (encode 34 ++ [])) q ∙ ap (λ (x : List ℕ). 34 ∷ (x ++ [])) q)
low_doubled false c e = sym (ap (λ (x : List ℕ). x ++ []) e)

one_doubled : (c : ℕ) → doubled (encode c) ≡ encodes (doubled_byte c)
one_doubled c =
    ⊎_elim
    (λ (low : c < 128). ap doubled (encode_ascii c low) ∙ low_doubled (c == 34) c (encode_ascii c low))
    (λ (high : 128 ≤ c). above_stay (encode c) (encode_above c high) ∙ sym (append-nil (encode c)) ∙ ap encodes (sym (above_quote c (omega (arith, high)))))
    (cases_lt c 128)

all_doubled : (cs : List ℕ) → doubled (encodes cs) ≡ encodes (doubled cs)
all_doubled [] = refl
all_doubled (c ∷ cs) =
    flat_map-append doubled_byte (encode c) (encodes cs)
    ∙ ap (λ (x : List ℕ). x ++ doubled (encodes cs)) (one_doubled c)
    ∙ ap (λ (x : List ℕ). encodes (doubled_byte c) ++ x) (all_doubled cs)
    ∙ sym (encodes-append (doubled_byte c) (doubled cs))

scalars_both : (a b : List ℕ) → scalars a ≡ true → scalars b ≡ true → scalars (a ++ b) ≡ true
scalars_both [] b e h = h
scalars_both (c ∷ a) b e h =
    let w = and_parts (scalar c) (scalars a) e in
    ap (λ (t : Bool). t && scalars (a ++ b)) w.0 ∙ scalars_both a b w.1 h

scalar_doubled : (t : Bool) (c : ℕ) → scalar c ≡ true → scalars (if t then 34 ∷ 34 ∷ [] else c ∷ []) ≡ true
scalar_doubled true c e = refl
scalar_doubled false c e = ap (λ (t : Bool). t && true) e

scalars_doubled : (cs : List ℕ) → scalars cs ≡ true → scalars (doubled cs) ≡ true
scalars_doubled [] e = refl
scalars_doubled (c ∷ cs) e =
    let w = and_parts (scalar c) (scalars cs) e in
    scalars_both (doubled_byte c) (doubled cs) (scalar_doubled (c == 34) c w.0) (scalars_doubled cs w.1)

doubled_valid : (bytes : List ℕ) → IsUtf8 bytes → IsUtf8 (doubled bytes)
doubled_valid bytes h = (doubled h.0, (scalars_doubled h.0 h.1.0, sym (all_doubled h.0) ∙ ap doubled h.1.1))

-- ---- bytes escaped

front_valid : (n : ℕ) (bytes : List ℕ) → IsUtf8 (take (valid_len_up_to bytes n) bytes)
front_valid zero bytes = IsUtf8-nil
front_valid (suc n) bytes = by_test (is_utf8 (take (suc n) bytes)) refl (front_valid n bytes)
  where
    by_test : (t : Bool) → is_utf8 (take (suc n) bytes) ≡ t → IsUtf8 (take (valid_len_up_to bytes n) bytes) → IsUtf8 (take (if t then suc n else valid_len_up_to bytes n) bytes)
    by_test true e h = IsUtf8-from_is_utf8 (take (suc n) bytes) e
    by_test false e h = h

pub longest_valid : (bytes : List ℕ) → IsUtf8 (take (utf8_valid_len bytes) bytes)
unfolding utf8_valid_len
longest_valid bytes = front_valid (length bytes) bytes

pub digit_low : (d : ℕ) → d < 16 → lower d < 128
digit_low d h = by_test (nat_lt d 10)
  where
    by_test : (t : Bool) → (if t then 48 + d else 87 + d) < 128
    by_test true = omega (arith, h)
    by_test false = omega (arith, h)

escaped_ascii : (b : ℕ) → b < 256 → IsAscii (escaped_byte b)
escaped_ascii b h =
    let high : lower (b / 16) < 128 = digit_low (b / 16) (omega (arith, h)) in
    let low : lower (b % 16) < 128 = digit_low (b % 16) (omega arith) in
    IsAscii-cons 92 (120 ∷ hex_byte b) (omega arith) (IsAscii-cons 120 (hex_byte b) (omega arith) (IsAscii-cons (lower (b / 16)) (lower (b % 16) ∷ []) high (IsAscii-cons (lower (b % 16)) [] low IsAscii-nil)))

within_valid : (n : ℕ) (bytes : List ℕ) → AreBytes bytes → length bytes ≤ n → IsUtf8 (valid_within n bytes)
within_valid zero [] h le = IsUtf8-nil
within_valid zero (b ∷ bytes) h le = absurd (omega (arith, le))
within_valid (suc n) bytes h le =
    let v : ℕ = utf8_valid_len bytes in
    by_test v (longest_valid bytes) (v == length bytes) refl (within_valid n (drop (v + 1) bytes) (bytes_drop (v + 1) bytes h) (omega (arith, length-drop (v + 1) bytes, le)))
  where
    by_test : (v : ℕ) → IsUtf8 (take v bytes) → (t : Bool) → (v == length bytes) ≡ t → IsUtf8 (valid_within n (drop (v + 1) bytes))
        → IsUtf8 (if t then bytes else take v bytes ++ (escaped_byte (slice_index bytes v) ++ valid_within n (drop (v + 1) bytes)))
    by_test v front true e rest = subst IsUtf8 (take_all v bytes (omega (arith, equal_numbers v (length bytes) e))) front
    by_test v front false e rest =
        IsUtf8-append (take v bytes) (escaped_byte (slice_index bytes v) ++ valid_within n (drop (v + 1) bytes)) front
        (IsUtf8-append (escaped_byte (slice_index bytes v)) (valid_within n (drop (v + 1) bytes)) (IsUtf8-from_ascii (escaped_byte (slice_index bytes v)) (escaped_ascii (slice_index bytes v) (h v))) rest)

quote_valid : IsUtf8 (34 ∷ [])
quote_valid = IsUtf8-from_ascii (34 ∷ []) (IsAscii-cons 34 [] (omega arith) IsAscii-nil)

pub quoted_valid : (bytes : List ℕ) → IsUtf8 bytes → IsUtf8 (quoted bytes)
quoted_valid bytes h = IsUtf8-append (34 ∷ []) (doubled bytes ++ 34 ∷ []) quote_valid (IsUtf8-append (doubled bytes) (34 ∷ []) (doubled_valid bytes h) quote_valid)

pub text_valid : (bytes : List ℕ) → AreBytes bytes → IsUtf8 (quoted (valid_utf8 bytes))
unfolding valid_utf8
text_valid bytes h = quoted_valid (valid_within (length bytes) bytes) (within_valid (length bytes) bytes h (omega arith))
