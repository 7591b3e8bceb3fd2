-- Pseudonyms and days of patients.
use Rattle.std.proofs.Common.{◌≡◌, ◌≢◌, ◌<◌, ◌≤◌, ℕ, zero, suc, ◌*◌, ◌/◌, ◌%◌, Bool, true, false, List, [], ◌∷◌, ◌++◌, length, take, refl, arith, ap, ◌∙◌, sym, w32, of_z, to_z, length-take}
use Rattle.std.specs.Int.{from_be_bytes, w64}
use Rattle.std.specs.Prelude.{codes, negsuc, ◌-ℤ◌, ◌≤ℤ◌, ◌==◌, ◌&&◌, ◌||◌, not, nat_le, nat_lt}
use Rattle.std.specs.List.{flat_map, list_all, list_any}
use Rattle.std.proofs.lemmas.Int.{ints}
use Rattle.std.proofs.lemmas.Bool.{eqb-true, and_parts, not-true, both_ways}
use Rattle.dcm_uid.specs.Hmac.{hmac_sha256}
use Rattle.dcm_uid.specs.Pseudonym.{patient, pseudonym, pseudonym_of, message, hex_byte, hex_digit, is_hex_digit, IsPseudonym, PSEUDONYM, DAYS, days}
use Rattle.dcm_uid.specs.Uid.{is_one_uid}
use Rattle.dcm_base.specs.Tables.Number.{AreBytes}
use Rattle.dcm_uid.proofs.Digests.{hmac_bytes, hmac_length}
use Rattle.std.proofs.lemmas.Bool.Decides.{nat_tests}

-- the days as the program makes them
pub into_the_past : (n : ℕ) → n < 3652 → to_z w32 (of_z w32 (negsuc 0 -ℤ to_z w32 n)) ≡ negsuc n
into_the_past n low = omega (arith, ints)

-- the pseudonym of some patient, and of none
pub some_pseudonym : (key value p code : List ℕ) → p ≡ patient value → (length p == 0) ≡ false
    → code ≡ hmac_sha256 key (message PSEUDONYM p) → 80 ∷ flat_map hex_byte (take 10 code) ≡ pseudonym key value
unfolding pseudonym pseudonym_of
some_pseudonym key value p code e some c = ap (λ (l : List ℕ). 80 ∷ flat_map hex_byte (take 10 l)) c ∙ shown p some ∙ ap (pseudonym_of key) e
  where
    shown : (p : List ℕ) → (length p == 0) ≡ false → 80 ∷ flat_map hex_byte (take 10 (hmac_sha256 key (message PSEUDONYM p))) ≡ pseudonym_of key p
    shown [] some = absurd (cc)
    shown (b ∷ bs) some = refl

pub no_pseudonym : (key value p : List ℕ) → p ≡ patient value → (length p == 0) ≡ true → [] ≡ pseudonym key value
unfolding pseudonym pseudonym_of
no_pseudonym key value p e none = nothing p none ∙ ap (pseudonym_of key) e
  where
    nothing : (p : List ℕ) → (length p == 0) ≡ true → [] ≡ pseudonym_of key p
    nothing [] none = refl
    nothing (b ∷ bs) none = absurd (omega (arith, eqb-true (length (b ∷ bs)) 0 none))

-- ---- laws

hex_digit_is : (n : ℕ) → n < 16 → is_hex_digit (hex_digit n) ≡ true
hex_digit_is n low = grind (arith, nat_tests)

digits_of_bytes : (bytes : List ℕ) → AreBytes bytes → (list_all is_hex_digit (flat_map hex_byte bytes) ≡ true) × (length (flat_map hex_byte bytes) ≡ 2 * length bytes)
digits_of_bytes [] are = (refl, refl)
digits_of_bytes (b ∷ bs) are =
    let others = digits_of_bytes bs (λ i. are (suc i)) in
    let high = hex_digit_is (b / 16) (omega (arith, are 0)) in
    let low = hex_digit_is (b % 16) (omega arith) in
    (rw (high, low, others.0) refl, omega (arith, others.1))

first_bytes : (n : ℕ) (bytes : List ℕ) → AreBytes bytes → AreBytes (take n bytes)
first_bytes zero bytes are = λ i. omega arith
first_bytes (suc n) [] are = are
first_bytes (suc n) (b ∷ bs) are = along (first_bytes n bs (λ k. are (suc k)))
  where
    along : AreBytes (take n bs) → AreBytes (b ∷ take n bs)
    along others zero = are 0
    along others (suc i) = others i

pub form_of_pseudonym : (key : List ℕ) (b : ℕ) (bs : List ℕ) → IsPseudonym (pseudonym_of key (b ∷ bs))
unfolding pseudonym_of
form_of_pseudonym key b bs =
    let code = hmac_sha256 key (message PSEUDONYM (b ∷ bs)) in
    let digits = digits_of_bytes (take 10 code) (first_bytes 10 code (hmac_bytes key (message PSEUDONYM (b ∷ bs)))) in
    let ten : length (take 10 code) ≡ 10 = simp length-take (omega (arith, hmac_length key (message PSEUDONYM (b ∷ bs)))) in
    record {
      digits = flat_map hex_byte (take 10 code);
      whole = refl;
      all_digits = digits.0;
      size = omega (arith, digits.1, ten);
    }

pub pseudonyms_form : (key value : List ℕ) → patient value ≢ [] → IsPseudonym (pseudonym key value)
unfolding pseudonym
pseudonyms_form key value some = shown (patient value) some
  where
    shown : (p : List ℕ) → p ≢ [] → IsPseudonym (pseudonym_of key p)
    shown [] none = absurd (none refl)
    shown (b ∷ bs) none = form_of_pseudonym key b bs

pub pseudonyms_none : (key value : List ℕ) → patient value ≡ [] → pseudonym key value ≡ []
unfolding pseudonym pseudonym_of
pseudonyms_none key value none = rw none refl

-- a backslash is in each message
message_parts : (name p : List ℕ) → list_any (λ x. x == 92) (message name p) ≡ true
message_parts [] p = refl
message_parts (b ∷ bs) p = by_test (b == 92) (message_parts bs p)
  where
    by_test : (t : Bool) → list_any (λ x. x == 92) (message bs p) ≡ true → (t || list_any (λ x. x == 92) (message bs p)) ≡ true
    by_test true e = refl
    by_test false e = e

one_uid_has_none : (b : List ℕ) → is_one_uid b ≡ true → list_any (λ x. x == 92) b ≡ false
one_uid_has_none b e =
    let size = and_parts (nat_lt 0 (length b)) (nat_le (length b) 64 && not (list_any (λ x. x == 92) b)) e in
    let most = and_parts (nat_le (length b) 64) (not (list_any (λ x. x == 92) b)) size.1 in
    not-true (list_any (λ x. x == 92) b) most.1

pub no_message_is_a_uid : (name p b : List ℕ) → is_one_uid b ≡ true → message name p ≢ b
no_message_is_a_uid name p b uid e =
    both_ways (list_any (λ x. x == 92) b) (one_uid_has_none b uid) (ap (list_any (λ x. x == 92)) (sym e) ∙ message_parts name p)

pub messages_apart : (p q : List ℕ) → message PSEUDONYM p ≢ message DAYS q
messages_apart p q e = heads (ap first e)
  where
    first : List ℕ → ℕ
    first [] = 0
    first (b ∷ bs) = b

    heads : (let p : ℕ = 80 in p ≡ 100) → ⊥
    heads e = omega (arith, e)

pub pseudonyms_by_code : (key value : List ℕ) → patient value ≢ [] → pseudonym key value ≡ codes "P" ++ flat_map hex_byte (take 10 (hmac_sha256 key (codes "PatientID\\" ++ patient value)))
unfolding pseudonym pseudonym_of
pseudonyms_by_code key value some = of_patient (patient value) some
  where
    of_patient : (p : List ℕ) → p ≢ [] → pseudonym_of key p ≡ codes "P" ++ flat_map hex_byte (take 10 (hmac_sha256 key (codes "PatientID\\" ++ p)))
    of_patient [] none = absurd (none refl)
    of_patient (b ∷ bs) none = refl

pub days_by_code : (key p : List ℕ) → days key p ≡ negsuc (from_be_bytes w64 (take 8 (hmac_sha256 key (codes "days\\" ++ p))) % 3652)
unfolding days
days_by_code key p = refl

pub days_within : (key p : List ℕ) → negsuc 3651 ≤ℤ days key p
unfolding days
days_within key p = omega (arith, ints)

pub days_past : (key p : List ℕ) → days key p ≤ℤ negsuc 0
unfolding days
days_past key p = omega (arith, ints)

pub pseudonyms_short : (key p : List ℕ) → length (pseudonym_of key p) ≤ 21
unfolding pseudonym_of
pseudonyms_short key [] = omega arith
pseudonyms_short key (b ∷ bs) =
    let code = hmac_sha256 key (message PSEUDONYM (b ∷ bs)) in
    let digits = digits_of_bytes (take 10 code) (first_bytes 10 code (hmac_bytes key (message PSEUDONYM (b ∷ bs)))) in
    let ten : length (take 10 code) ≤ 10 = simp length-take (omega arith) in
    omega (arith, digits.1, ten)
