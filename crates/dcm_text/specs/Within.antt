-- What may stand within the brackets of a line of a dump.
use Rattle.std.specs.Prelude.{◌≡◌, ℕ, Bool, true, ◌&&◌, ◌||◌, ◌==◌, not, List, encode_utf8_all}
use Rattle.std.specs.List.{list_all}
use lib.Utf8.{scalar}
use Rattle.dcm_text.specs.Characters.{is_between}
use Rattle.dcm_text.specs.Shown.{is_hidden}

-- a character that breaks a line
abbrev pub breaks_line : ℕ → Bool
breaks_line c = is_between 0x0A 0x0D c || (c == 0x85) || (c == 0x2028) || (c == 0x2029)

-- a character that may stand there
abbrev pub is_within_brackets : ℕ → Bool
is_within_brackets c = scalar c && not (breaks_line c) && not (c == 93) && not (is_hidden c)

-- these bytes are such characters, in UTF-8
abbrev pub StandsWithinBrackets : List ℕ → Type 0
StandsWithinBrackets bytes = (cs : List ℕ) × (list_all is_within_brackets cs ≡ true) × (encode_utf8_all cs ≡ bytes)
