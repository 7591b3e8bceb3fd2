-- What is shown next of a text by Specific Character Set.
use Rattle.std.specs.Prelude.{◌≡◌, ℕ, ◌+◌, ◌==◌, true, false, List, ◌++◌, count_by}
use Rattle.dcm_text.specs.Runs.{Run}
use Rattle.dcm_value.specs.declared.next_shown.Next.{Next}
use Rattle.dcm_value.specs.declared.next_shown.Next.TheVariants.{Plain, Part}
use Rattle.dcm_value.specs.Decoded.{backslashes}
use Rattle.dcm_value.specs.DecodedProgress.{shown_pieces}

abbrev pub shown_next : Next → List ℕ
shown_next (Plain bytes) = bytes.now
shown_next (Part bytes is_backslash) = bytes.items

abbrev pub count_next : Next → ℕ
count_next (Plain bytes) = count_by (λ b. b == 92) bytes.now
count_next (Part bytes true) = 1
count_next (Part bytes false) = 0

-- a run shows this, and then goes on as another
pub record Shows (old new : Run) (next : Next) : Type 0 where
  pub shown : shown_pieces old ≡ shown_next next ++ shown_pieces new
  pub state : old.1 ≡ new.1
  pub count : backslashes old.0 ≡ count_next next + backslashes new.0
