-- Pseudonyms of patients, and the days that a key makes of them.
use Rattle.std.specs.Prelude.{◌≡◌, ℕ, ◌+◌, ◌/◌, ◌%◌, ℤ, negsuc, Bool, true, ◌&&◌, ◌||◌, ◌==◌, nat_le, nat_lt, List, [], ◌∷◌, ◌++◌, length, take}
use Rattle.std.specs.Prelude.{codes, if◌then◌else◌}
use Rattle.std.specs.List.{flat_map, list_all}
use Rattle.std.specs.Int.{w64, from_be_bytes}
use Rattle.dcm_base.specs.Tables.Transfer.{without_pads}
use Rattle.dcm_uid.specs.Hmac.{hmac_sha256}

-- without the spaces in front
abbrev pub without_spaces_before : List ℕ → List ℕ
without_spaces_before [] = []
without_spaces_before (b ∷ bs) = if b == 32 then without_spaces_before bs else b ∷ bs

-- the most bytes of a PatientID: 64 characters (PS3.5 6.2, LO) have up to four each
abbrev pub MOST_OF_PATIENT : ℕ
MOST_OF_PATIENT = 256

-- the patient whom a PatientID without padding names: none where it is too long
abbrev pub patient_of : List ℕ → List ℕ
patient_of b = if nat_le (length b) MOST_OF_PATIENT then without_spaces_before b else []

-- the patient whom a value names
unfoldable pub patient : List ℕ → List ℕ
patient value = patient_of (without_pads value)

-- what is hashed of a patient: a name that says for what, a backslash, and the patient
abbrev pub message : (name patient : List ℕ) → List ℕ
message name patient = name ++ 92 ∷ patient

abbrev pub PSEUDONYM : List ℕ
PSEUDONYM = codes "PatientID"

abbrev pub DAYS : List ℕ
DAYS = codes "days"

-- a hexadecimal digit in lower case, and the two of a byte
abbrev pub hex_digit : ℕ → ℕ
hex_digit n = if nat_lt n 10 then 48 + n else 87 + n

abbrev pub hex_byte : ℕ → List ℕ
hex_byte b = hex_digit (b / 16) ∷ hex_digit (b % 16) ∷ []

-- the pseudonym of a patient: P, and the first ten bytes of a code; of none nothing
unfoldable pub pseudonym_of : (key patient : List ℕ) → List ℕ
pseudonym_of key [] = []
pseudonym_of key (b ∷ bs) = 80 ∷ flat_map hex_byte (take 10 (hmac_sha256 key (message PSEUDONYM (b ∷ bs))))

-- what takes the place of a PatientID under a key
unfoldable pub pseudonym : (key value : List ℕ) → List ℕ
pseudonym key value = pseudonym_of key (patient value)

-- how many different numbers of days there are
abbrev pub MOST_DAYS : ℕ
MOST_DAYS = 3652

-- by how many days dates of a patient are moved: from -1 to -3652
unfoldable pub days : (key patient : List ℕ) → ℤ
days key patient = negsuc (from_be_bytes w64 (take 8 (hmac_sha256 key (message DAYS patient))) % MOST_DAYS)

-- ---- laws

-- a hexadecimal digit in lower case
abbrev pub is_hex_digit : ℕ → Bool
is_hex_digit b = (nat_le 48 b && nat_le b 57) || (nat_le 97 b && nat_le b 102)

-- P and twenty hexadecimal digits
pub record IsPseudonym (value : List ℕ) : Type 0 where
  pub digits : List ℕ
  pub whole : value ≡ 80 ∷ digits
  pub all_digits : list_all is_hex_digit digits ≡ true
  pub size : length digits ≡ 20
