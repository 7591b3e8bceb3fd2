-- New UIDs in place of old ones.
use Rattle.std.specs.Prelude.{◌≡◌, ◌<◌, ◌≤◌, true, ℕ, ◌+◌, ◌%◌, Bool, not, ◌&&◌, ◌||◌, List, [], ◌∷◌, ◌++◌, length}
use Rattle.std.specs.Prelude.{slice_index, nat_eq, nat_le, nat_lt, ◌==◌, codes, if◌then◌else◌}
use Rattle.std.specs.List.{list_all, list_any, starts_with}
use Rattle.std.specs.Int.{w128, from_be_bytes}
use Rattle.std.specs.Fmt.{decimal}
use Rattle.dcm_base.specs.Tables.Transfer.{without_pads}
use Rattle.dcm_uid.specs.Hmac.{hmac_sha256}

-- the 16 bytes of a UUID of version 8 (RFC 9562 5.8): the first of a digest, with 1000 in the highest four bits of byte
-- 6 and 10 in the highest two of byte 8
abbrev pub uuid : List ℕ → List ℕ
uuid d = slice_index d 0 ∷ slice_index d 1 ∷ slice_index d 2 ∷ slice_index d 3 ∷ slice_index d 4 ∷ slice_index d 5
    ∷ (slice_index d 6 % 16 + 128) ∷ slice_index d 7 ∷ (slice_index d 8 % 64 + 128) ∷ slice_index d 9
    ∷ slice_index d 10 ∷ slice_index d 11 ∷ slice_index d 12 ∷ slice_index d 13 ∷ slice_index d 14 ∷ slice_index d 15
    ∷ []

-- its number, the highest byte first
unfoldable pub uuid_number : List ℕ → ℕ
uuid_number d = from_be_bytes w128 (uuid d)

-- the new UID (PS3.5 B.2) in place of b under a key
unfoldable pub new_uid : (key b : List ℕ) → List ℕ
new_uid key b = codes "2.25." ++ decimal (uuid_number (hmac_sha256 key b))

-- a digit or a point
abbrev pub is_uid_byte : ℕ → Bool
is_uid_byte b = (b == 46) || (nat_le 48 b && nat_le b 57)

-- a UID of the standard's own (PS3.5 9.1, PS3.6 annex A)
abbrev pub is_standard : List ℕ → Bool
is_standard b = starts_with nat_eq b (codes "1.2.840.10008.") && list_all is_uid_byte b

-- one UID: some bytes, at most 64 (PS3.5 6.2), and no backslash, which parts values
abbrev pub is_one_uid : List ℕ → Bool
is_one_uid b = nat_lt 0 (length b) && (nat_le (length b) 64 && not (list_any (λ x. x == 92) b))

-- what takes the place of a UID without padding: nothing where it is not one, itself where it is the standard's own
-- (it names nobody), else a new one
abbrev pub replaced : (key b : List ℕ) → List ℕ
replaced key b = if not (is_one_uid b) then [] else if is_standard b then b else new_uid key b

-- what takes the place of a value (PS3.15 E.1.1, action U)
unfoldable pub new_value : (key value : List ℕ) → List ℕ
new_value key value = replaced key (without_pads value)

-- a digit
abbrev pub is_digit : ℕ → Bool
is_digit b = nat_le 48 b && nat_le b 57

-- the root 2.25 and a number without leading zeros (PS3.5 B.2), at most 44 bytes
pub record IsNewUid (u : List ℕ) : Type 0 where
  pub digits : List ℕ
  pub whole : u ≡ codes "2.25." ++ digits
  pub all_digits : list_all is_digit digits ≡ true
  pub there : 0 < length digits
  pub short : length u ≤ 44
  pub leads : 48 < slice_index digits 0
