-- Characters in front of a text in UTF-8 that a dump shows as they are.
use Rattle.std.specs.Prelude.{◌≡◌, ℕ, Bool, true, false, List, ◌++◌, map, Option, Some, None, encode_utf8, encode_utf8_all}
use Rattle.std.specs.List.{list_all}
use Rattle.std.specs.Str.{all_scalars}
use lib.Utf8.{scalar}
use Rattle.dcm_text.specs.Decoding.{Piece}
use Rattle.dcm_text.specs.Laws.{encoded}
use Rattle.dcm_text.specs.Shown.{is_dumped}

-- there is a character, and a dump shows it as it is
abbrev pub is_shown : Option ℕ → Bool
is_shown None = false
is_shown (Some c) = is_dumped c

-- bytes that are one such character
pub record IsShown (bytes : List ℕ) : Type 0 where
  pub character : ℕ
  pub is_scalar : scalar character ≡ true
  pub is_dumped : is_dumped character ≡ true
  pub is_bytes : encode_utf8 character ≡ bytes

-- a text, and what is behind such a character in front of it
pub record IsBehind (text after : List ℕ) : Type 0 where
  pub front : List ℕ
  pub is_shown : IsShown front
  pub whole : text ≡ front ++ after

-- the same of as many as there may be
pub record AreBehind (text after : List ℕ) : Type 0 where
  pub characters : List ℕ
  pub are_scalars : all_scalars characters ≡ true
  pub are_dumped : list_all is_dumped characters ≡ true
  pub whole : text ≡ encode_utf8_all characters ++ after

-- what was passed over: such characters, by their bytes of UTF-8, and the pieces that they are
pub record ArePassed (old new : List Piece) (bytes : List ℕ) : Type 0 where
  pub characters : List ℕ
  pub are_dumped : list_all is_dumped characters ≡ true
  pub are_bytes : encode_utf8_all characters ≡ bytes
  pub pieces : old ≡ map encoded characters ++ new
