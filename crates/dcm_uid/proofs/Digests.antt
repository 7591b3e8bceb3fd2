-- A digest is of bytes, so the number of its UUID has at most 128 bits.
use Rattle.std.proofs.Common.{ℕ, zero, suc, ◌^◌, ◌<◌, List, [], ◌∷◌, ◌++◌, slice_index, arith, ◌≡◌, length, ◌*◌, refl, length-append}
use Rattle.std.specs.Int.{w32, byte_at, bytes_high_first, to_be_bytes}
use Rattle.sha2.specs.Sha256.{digest_bytes, sha256}
use Rattle.dcm_lemmas.proofs.Numbers.{byte_below}
use Rattle.dcm_base.specs.Tables.Number.{AreBytes}
use Rattle.dcm_uid.specs.Hmac.{hmac_sha256}
use Rattle.dcm_uid.specs.Uid.{uuid_number}

none_are : AreBytes []
none_are i = omega arith

more_are : (b : ℕ) (bs : List ℕ) → b < 256 → AreBytes bs → AreBytes (b ∷ bs)
more_are b bs low are zero = low
more_are b bs low are (suc i) = are i

joined_are : (xs ys : List ℕ) → AreBytes xs → AreBytes ys → AreBytes (xs ++ ys)
joined_are [] ys h g = g
joined_are (x ∷ xs) ys h g = more_are x (xs ++ ys) (h 0) (joined_are xs ys (λ i. h (suc i)) g)

number_is : (k n : ℕ) → AreBytes (bytes_high_first k n)
number_is zero n = none_are
number_is (suc k) n = more_are (byte_at k n) (bytes_high_first k n) (byte_below k n) (number_is k n)

digest_is : (h : List ℕ) (n : ℕ) → AreBytes (digest_bytes h n)
unfolding digest_bytes
digest_is h zero = none_are
digest_is h (suc n) = joined_are (digest_bytes h n) (to_be_bytes w32 (slice_index h n)) (digest_is h n)
    (number_is 4 (slice_index h n))

sha256_is : (m : List ℕ) → AreBytes (sha256 m)
unfolding sha256
sha256_is m = digest_is _ _

uuid_fits : (d : List ℕ) → AreBytes d → uuid_number d < 2 ^ 128
unfolding uuid_number
uuid_fits d are = omega (arith, are 0, are 1, are 2, are 3, are 4, are 5, are 7, are 9, are 10, are 11, are 12, are 13, are 14, are 15)

pub hmac_fits : (key b : List ℕ) → uuid_number (hmac_sha256 key b) < 2 ^ 128
unfolding hmac_sha256
hmac_fits key b = uuid_fits _ (sha256_is _)

-- a code is of 32 bytes
pub hmac_bytes : (key b : List ℕ) → AreBytes (hmac_sha256 key b)
unfolding hmac_sha256
hmac_bytes key b = sha256_is _

digest_length : (h : List ℕ) (n : ℕ) → length (digest_bytes h n) ≡ 4 * n
unfolding digest_bytes
digest_length h zero = refl
digest_length h (suc n) = omega (arith, digest_length h n, length-append (digest_bytes h n) (to_be_bytes w32 (slice_index h n)))

pub hmac_length : (key b : List ℕ) → length (hmac_sha256 key b) ≡ 32
unfolding hmac_sha256 sha256
hmac_length key b = digest_length _ 8
