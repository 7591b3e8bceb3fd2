-- Texts that are made valid UTF-8, chunk by chunk.
use Rattle.std.proofs.Common.{◌≡◌, ◌∙◌, sym, ap, refl, subst, ℕ, zero, suc, ◌+◌, ◌<◌, ◌≤◌, ◌==◌, List, [], ◌∷◌, ◌++◌, length, take, drop, Option, Bool, true, false, append_assoc, arith, eq-eqb, drop-drop}
use Rattle.std.specs.Prelude.{slice_index, ◌/◌, ◌%◌, nat_lt, if◌then◌else◌, Result, Err, IsErr, IsUtf8}
use Rattle.std.specs.Io.KnownBytes.{append_known}
use Rattle.std.specs.Str.Lossy.{utf8_valid_len}
use Rattle.std.proofs.lemmas.Str.{utf8_valid_len_le, utf8_valid_len-IsUtf8}
use Rattle.std.proofs.lemmas.Grind.{flat_map-append}
use Rattle.std.proofs.lemmas.Bool.Decides.{nat_tests}
use Rattle.std.proofs.lemmas.List.{length-drop, get_or-drop}
use Rattle.dcm_lemmas.proofs.Numbers.{below_not_equal}
use Rattle.dcm_lemmas.proofs.Options.{known_twice}
use Rattle.dcm_lemmas.proofs.Choice.{if_false, if_true}
use Rattle.dcm_base.specs.Dump.ValueText.{lower}
use Rattle.dcm_devices.specs.Device.{AppendsFront, Puts}
use Rattle.dcm_devices.proofs.Writes.Puts.{puts_behind, puts_err, front_longer}
use Rattle.dcm_sinks.proofs.DecodedDumps.Characters.{TextSoFar, text_failed}
use Rattle.dcm_table.specs.Quoted.{doubled, doubled_byte, escaped_byte, valid_within, valid_utf8}

-- ---- the count of bytes is only a bound

abbrev one_more : ℕ → List ℕ → List ℕ
one_more n bytes =
    take (utf8_valid_len bytes) bytes ++ (escaped_byte (slice_index bytes (utf8_valid_len bytes)) ++ valid_within n (drop (utf8_valid_len bytes + 1) bytes))

none_valid : utf8_valid_len [] ≡ 0
none_valid = omega (arith, utf8_valid_len_le [])

empty_stays : (n : ℕ) → valid_within n [] ≡ []
empty_stays zero = refl
empty_stays (suc n) = if_true (utf8_valid_len [] == 0) [] (one_more n []) (ap (λ (v : ℕ). v == 0) none_valid)

enough : (n m : ℕ) (bytes : List ℕ) → length bytes ≤ n → length bytes ≤ m → valid_within n bytes ≡ valid_within m bytes
enough zero m [] h k = sym (empty_stays m)
enough zero m (x ∷ xs) h k = absurd (omega (arith, h))
enough (suc n) zero [] h k = empty_stays (suc n)
enough (suc n) zero (x ∷ xs) h k = absurd (omega (arith, k))
enough (suc n) (suc m) bytes h k =
    let v : ℕ = utf8_valid_len bytes in
    ap (λ (x : List ℕ). if v == length bytes then bytes else take v bytes ++ (escaped_byte (slice_index bytes v) ++ x))
    (enough n m (drop (v + 1) bytes) (omega (arith, length-drop (v + 1) bytes, h)) (omega (arith, length-drop (v + 1) bytes, k)))

-- valid UTF-8 stays as it is
pub valid_all : (bytes : List ℕ) → IsUtf8 bytes → valid_utf8 bytes ≡ bytes
unfolding valid_utf8
valid_all [] h = refl
valid_all (x ∷ xs) h =
    if_true (utf8_valid_len (x ∷ xs) == length (x ∷ xs)) (x ∷ xs) (one_more (length xs) (x ∷ xs))
    (eq-eqb (utf8_valid_len (x ∷ xs)) (length (x ∷ xs)) (utf8_valid_len-IsUtf8 (x ∷ xs) h))

-- up to the first byte that is no part of it
pub valid_step : (bytes : List ℕ) (v : ℕ) → v ≡ utf8_valid_len bytes → v < length bytes
    → valid_utf8 bytes ≡ take v bytes ++ (escaped_byte (slice_index bytes v) ++ valid_utf8 (drop (v + 1) bytes))
unfolding valid_utf8
valid_step [] v e h = absurd (omega (arith, h))
valid_step (x ∷ xs) v e h =
    let bytes : List ℕ = x ∷ xs in
    let n : ℕ = utf8_valid_len bytes in
    if_false (n == length bytes) bytes (one_more (length xs) bytes) (below_not_equal n (length bytes) (omega (arith, e, h)))
    ∙ ap (λ (y : List ℕ). take n bytes ++ (escaped_byte (slice_index bytes n) ++ y))
    (enough (length xs) (length (drop (n + 1) bytes)) (drop (n + 1) bytes) (omega (arith, length-drop (n + 1) bytes)) (omega arith))
    ∙ ap (λ (m : ℕ). take m bytes ++ (escaped_byte (slice_index bytes m) ++ valid_within (length (drop (m + 1) bytes)) (drop (m + 1) bytes))) (sym e)

-- ---- what is written of a text

pub above_quote : (b : ℕ) → 34 < b → doubled_byte b ≡ b ∷ []
above_quote b h = if_false (b == 34) (34 ∷ 34 ∷ []) (b ∷ []) (apart_above b 34 h)
  where
    apart_above : (b n : ℕ) → n < b → (b == n) ≡ false
    apart_above b n h = grind (arith, nat_tests)

digit_above : (d : ℕ) (t : Bool) → 34 < (if t then 48 + d else 87 + d)
digit_above d true = omega arith
digit_above d false = omega arith

-- no digit is a quote
escaped_plain : (b : ℕ) → doubled (escaped_byte b) ≡ escaped_byte b
escaped_plain b =
    let high = above_quote (lower (b / 16)) (digit_above (b / 16) (nat_lt (b / 16) 10)) in
    let low = above_quote (lower (b % 16)) (digit_above (b % 16) (nat_lt (b % 16) 10)) in
    ap (λ (x : List ℕ). 92 ∷ 120 ∷ (x ++ (doubled_byte (lower (b % 16)) ++ []))) high
    ∙ ap (λ (x : List ℕ). 92 ∷ 120 ∷ lower (b / 16) ∷ (x ++ [])) low

-- the last of them
pub text_last : {T E : Type 0} {old mid : Option (List ℕ)} {all rest : List ℕ} (new : Option (List ℕ)) (r : Result T E) → TextSoFar old mid all rest → Puts mid new rest r → Puts old new all r
text_last {T} {E} {old} {mid} {all} {rest} new r s put =
    subst (λ (x : List ℕ). Puts {T = T} {E = E} old new x r) (sym s.whole) (puts_behind old mid new s.first rest r s.grown put)

-- up to the first byte that is no part of valid UTF-8, quotes doubled
pub doubled_step : (bytes : List ℕ) (v : ℕ) → v ≡ utf8_valid_len bytes → v < length bytes
    → doubled (valid_utf8 bytes) ≡ doubled (take v bytes) ++ (escaped_byte (slice_index bytes v) ++ doubled (valid_utf8 (drop (v + 1) bytes)))
doubled_step bytes v e h =
    let b : List ℕ = escaped_byte (slice_index bytes v) in
    let rest : List ℕ = valid_utf8 (drop (v + 1) bytes) in
    ap doubled (valid_step bytes v e h)
    ∙ flat_map-append doubled_byte (take v bytes) (b ++ rest)
    ∙ ap (λ (x : List ℕ). doubled (take v bytes) ++ x) (flat_map-append doubled_byte b rest ∙ ap (λ (x : List ℕ). x ++ doubled rest) (escaped_plain (slice_index bytes v)))

-- the same by its parts
pub text_step : (rest valid after behind : List ℕ) (v byte : ℕ) → v ≡ utf8_valid_len rest → v < length rest → valid ≡ take v rest → after ≡ drop v rest → behind ≡ drop 1 after → byte ≡ slice_index after 0
    → doubled (valid_utf8 rest) ≡ (doubled valid ++ escaped_byte byte) ++ doubled (valid_utf8 behind)
text_step rest valid after behind v byte e h f a b o =
    let same_place : v + 0 ≡ v = omega arith in
    let first : byte ≡ slice_index rest v = o ∙ ap (λ (x : List ℕ). slice_index x 0) a ∙ get_or-drop v rest 0 0 ∙ ap (λ (n : ℕ). slice_index rest n) same_place in
    let others : behind ≡ drop (v + 1) rest = b ∙ ap (drop 1) a ∙ drop-drop 1 v rest in
    doubled_step rest v e h
    ∙ ap (λ (x : List ℕ). doubled x ++ (escaped_byte (slice_index rest v) ++ doubled (valid_utf8 (drop (v + 1) rest)))) (sym f)
    ∙ ap (λ (n : ℕ). doubled valid ++ (escaped_byte n ++ doubled (valid_utf8 (drop (v + 1) rest)))) (sym first)
    ∙ ap (λ (x : List ℕ). doubled valid ++ (escaped_byte byte ++ doubled (valid_utf8 x))) (sym others)
    ∙ sym (append_assoc (doubled valid) (escaped_byte byte) (doubled (valid_utf8 behind)))

-- two parts went out, or the second broke off
pub went_twice : (old one new : Option (List ℕ)) (first second : List ℕ) → one ≡ append_known old first → new ≡ append_known one second → new ≡ append_known old (first ++ second)
went_twice old one new first second a b = b ∙ ap (λ (k : Option (List ℕ)). append_known k second) a ∙ known_twice old first second

pub broke_second : (old one new : Option (List ℕ)) (first second : List ℕ) → one ≡ append_known old first → AppendsFront one new second → AppendsFront old new (first ++ second)
broke_second old one new first second a front = puts_behind {T = ℕ} {E = ℕ} old one new first second (Err 0) a front

pub text_failed_first : {T E : Type 0} {old mid : Option (List ℕ)} {all rest : List ℕ} (new : Option (List ℕ)) (more next after : List ℕ) (r : Result T E) → TextSoFar old mid all rest → rest ≡ (more ++ next) ++ after → IsErr r → AppendsFront mid new more → Puts old new all r
text_failed_first new more next after r s e failed front = text_failed new (more ++ next) after r s e failed (front_longer next front)

-- ---- three parts, one after another

pub three_failed_first : {T E : Type 0} (old new : Option (List ℕ)) (first second third : List ℕ) (r : Result T E) → IsErr r → AppendsFront old new first → Puts old new (first ++ (second ++ third)) r
three_failed_first old new first second third r failed h = puts_err old new (first ++ (second ++ third)) r failed (front_longer (second ++ third) h)

pub three_failed_second : {T E : Type 0} (old one new : Option (List ℕ)) (first second third : List ℕ) (r : Result T E) → IsErr r → one ≡ append_known old first → AppendsFront one new second → Puts old new (first ++ (second ++ third)) r
three_failed_second old one new first second third r failed a h =
    puts_err old new (first ++ (second ++ third)) r failed (broke_second old one new first (second ++ third) a (front_longer third h))

pub three_went : {T E : Type 0} (old one two new : Option (List ℕ)) (first second third : List ℕ) (r : Result T E) → one ≡ append_known old first → two ≡ append_known one second → Puts two new third r → Puts old new (first ++ (second ++ third)) r
three_went old one two new first second third r a b put =
    puts_behind old one new first (second ++ third) r a (puts_behind one two new second third r b put)

pub two_failed : {T E : Type 0} (old new : Option (List ℕ)) (first second : List ℕ) (r : Result T E) → IsErr r → AppendsFront old new first → Puts old new (first ++ second) r
two_failed old new first second r failed h = puts_err old new (first ++ second) r failed (front_longer second h)
