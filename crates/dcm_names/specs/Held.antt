-- What an open line holds of the bytes that were taken.
use Rattle.std.specs.Prelude.{◌≡◌, ℕ, nat_lt, List, [], ◌∷◌, length, take, drop, Option, Some, None}
use Rattle.dcm_names.specs.declared.list.OpenLine.{OpenLine}
use Rattle.dcm_names.specs.Names.{NAME_LIMIT, open_line, ended_lines}

-- the first bytes of the line, and whether it has more
pub record Holds (o : OpenLine) (line : List ℕ) : Type 0 where
  pub kept : o.kept.items ≡ take NAME_LIMIT line
  pub longer : o.is_longer ≡ nat_lt NAME_LIMIT (length line)

-- a line ended in a piece, where this much of it came before: it is held, and the rest of the piece begins the next one
pub record EndsLine (o : OpenLine) (line piece : List ℕ) (n : ℕ) : Type 0 where
  pub ended : List ℕ
  pub held : Holds o ended
  pub lines : ended_lines line piece ≡ ended ∷ ended_lines [] (drop n piece)
  pub goes_on : open_line line piece ≡ open_line [] (drop n piece)

-- no line ended in it
pub record GoesOn (o : OpenLine) (line piece : List ℕ) : Type 0 where
  pub held : Holds o (open_line line piece)
  pub lines : ended_lines line piece ≡ []

abbrev pub TakesLine : OpenLine → (line piece : List ℕ) → Option ℕ → Type 0
TakesLine o line piece (Some n) = EndsLine o line piece n
TakesLine o line piece None = GoesOn o line piece
