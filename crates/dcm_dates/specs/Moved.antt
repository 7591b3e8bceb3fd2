-- Texts whose dates are moved by days.
use Rattle.std.specs.Prelude.{ℕ, ℤ, pos, negsuc, ◌+ℤ◌, Bool, ◌==◌, nat_le, List, [], ◌∷◌, ◌++◌, length, take, drop}
use Rattle.std.specs.Prelude.{Option, Some, None, option_map, option_and_then, unwrap_or, MatchOption, ◌≡◌, if◌then◌else◌}
use Rattle.std.specs.List.{slice_split, join_with_byte}
use Rattle.dcm_dates.specs.declared.moving.DateKind.{DateKind}
use Rattle.dcm_dates.specs.declared.moving.DateKind.TheVariants.{Da, Dt}
use Rattle.dcm_dates.specs.Calendar.{is_between, LAST_NUMBER}
use Rattle.dcm_dates.specs.Numbered.{date_of, number_of}
use Rattle.dcm_dates.specs.DateText.{shown, shows_day, digits_of, is_nothing, is_rest}

-- the number of a day, where it is one
abbrev pub in_calendar : ℤ → Option ℕ
in_calendar (pos n) = if is_between 1 LAST_NUMBER n then Some n else None
in_calendar (negsuc n) = None

-- the number of the day so many days after another one
abbrev pub moved_number : (days : ℤ) → ℕ → Option ℕ
moved_number days n = in_calendar (pos n +ℤ days)

-- a date, moved: eight digits that show a day become those of the day so many days later
abbrev pub moved_date : (days : ℤ) → List ℕ → Option (List ℕ)
moved_date days text =
    if shows_day text then option_map (λ n. digits_of (date_of n)) (moved_number days (number_of (shown text))) else None

-- what may follow a date
abbrev pub may_follow : DateKind → List ℕ → Bool
may_follow Da rest = is_nothing rest
may_follow Dt rest = is_rest rest

-- a part of a text: nothing stays nothing; a date is moved, and what follows it stays
abbrev pub moved_part : DateKind → (days : ℤ) → List ℕ → Option (List ℕ)
moved_part kind days part =
    if is_nothing part then Some []
    else if may_follow kind (drop 8 part) then option_map (λ date. date ++ drop 8 part) (moved_date days (take 8 part))
    else None

-- all parts, each moved, where each can be
abbrev pub each_moved : (List ℕ → Option (List ℕ)) → List (List ℕ) → Option (List (List ℕ))
each_moved move [] = Some []
each_moved move (part ∷ parts) =
    option_and_then (λ new. option_map (λ others. new ∷ others) (each_moved move parts)) (move part)

-- the parts of a text stand between backslashes (PS3.5 6.4)
abbrev pub parts_of : List ℕ → List (List ℕ)
parts_of text = slice_split (λ b. b == 92) text

-- a text with all its dates moved, where all can be
unfoldable pub all_moved : DateKind → (days : ℤ) → List ℕ → Option (List ℕ)
all_moved kind days text = option_map (join_with_byte 92) (each_moved (moved_part kind days) (parts_of text))

-- the most bytes of a text that is moved
abbrev pub MOST_HELD : ℕ
MOST_HELD = 256

-- the same, or nothing where one of them cannot be moved, or the text is too long
unfoldable pub moved : DateKind → (days : ℤ) → List ℕ → List ℕ
moved kind days text = if nat_le (length text) MOST_HELD then unwrap_or (all_moved kind days text) [] else []

-- what was appended of a part, or of all parts, where it could be moved
abbrev pub Adds : {T : Type 0} → Option (List ℕ) → (old new : List ℕ) → Option T → Type 0
Adds part old new result =
    MatchOption result (part ≡ None) (λ _. (bytes : List ℕ) × (part ≡ Some bytes) × (new ≡ old ++ bytes))
