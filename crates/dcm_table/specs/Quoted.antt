-- Texts in double quotes (RFC 4180), as valid UTF-8 (Unicode 3.9, table 3-7).
use Rattle.std.specs.Prelude.{ℕ, zero, suc, ◌+◌, ◌==◌, if◌then◌else◌, List, [], ◌∷◌, ◌++◌, length, take, drop}
use Rattle.std.specs.Prelude.{flat_map, slice_index, codes}
use Rattle.std.specs.Str.Lossy.{utf8_valid_len}
use Rattle.dcm_base.specs.Dump.ValueText.{hex_byte}
use Rattle.dcm_table.specs.declared.quoted.TextForm.{TextForm}
use Rattle.dcm_table.specs.declared.quoted.TextForm.TheVariants.{ValidUtf8, AsItIs, Decoded}

-- a quote is doubled
abbrev pub doubled_byte : ℕ → List ℕ
doubled_byte b = if b == 34 then 34 ∷ 34 ∷ [] else b ∷ []

abbrev pub doubled : List ℕ → List ℕ
doubled bytes = flat_map doubled_byte bytes

abbrev pub quoted : List ℕ → List ℕ
quoted bytes = 34 ∷ (doubled bytes ++ 34 ∷ [])

-- a byte that is no part of valid UTF-8: a backslash, x and its two digits in lower case
abbrev pub escaped_byte : ℕ → List ℕ
escaped_byte b = codes "\\x" ++ hex_byte b

-- the bytes, where at most so many of them are no part of valid UTF-8
abbrev pub valid_within : ℕ → List ℕ → List ℕ
valid_within zero bytes = bytes
valid_within (suc n) bytes =
    let valid = utf8_valid_len bytes in
    if valid == length bytes then bytes
    else take valid bytes ++ (escaped_byte (slice_index bytes valid) ++ valid_within n (drop (valid + 1) bytes))

-- each byte that is no part of valid UTF-8 escaped: after the longest front that is valid UTF-8 comes one
unfoldable pub valid_utf8 : List ℕ → List ℕ
valid_utf8 bytes = valid_within (length bytes) bytes

-- a name, or a text of which (0008,0005) says nothing
abbrev pub text_in : TextForm → List ℕ → List ℕ
text_in ValidUtf8 bytes = valid_utf8 bytes
text_in AsItIs bytes = bytes
text_in Decoded bytes = valid_utf8 bytes
