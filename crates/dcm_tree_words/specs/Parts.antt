-- The parts of the names of a run.
use Rattle.std.specs.Prelude.{ℕ, List, length, Option, Some, None, ◌&&◌, nat_le, if◌then◌else◌}
use Rattle.std.specs.Str.{byte}
use Rattle.dcm_base.specs.Lines.ReadValue.{number_in}
use Rattle.dcm_edits.specs.EditWords.{Cut, cut_at}

-- of so many parts the one with this number, counted from 1
pub record Part : Type 0 where
  pub number : ℕ
  pub count : ℕ

-- all names
abbrev pub whole : Part
whole = record { number = 1; count = 1 }

-- the number that 1 to 4 decimal digits spell
abbrev pub short_number : List ℕ → Option ℕ
short_number w = if nat_le 1 (length w) && nat_le (length w) 4 then number_in 10 0 w else None

abbrev pub part_with : Option ℕ → Option ℕ → Option Part
part_with None count = None
part_with (Some number) None = None
part_with (Some number) (Some count) =
    if nat_le 1 number && nat_le number count then Some (record { number = number; count = count }) else None

abbrev pub part_of_cut : Cut → Option Part
part_of_cut c = elim c.after [ None ↦ None | Some after ↦ part_with (short_number c.before) (short_number after) ]

-- the part that a word names, its number before a slash and the number of parts after it
abbrev pub part_of : List ℕ → Option Part
part_of w = part_of_cut (cut_at (byte "/") w)
