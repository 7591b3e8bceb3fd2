-- The laws of lists.
use Rattle.std.specs.Prelude.{◌≡◌, ℕ, List, ◌++◌}
use Rattle.dcm_names.specs.Names.{open_line, ended_lines}

-- the lines of a list do not depend on the pieces in which it is read
pub record LinesInPieces (line front back : List ℕ) : Type 0 where
  pub lines : ended_lines line (front ++ back) ≡ ended_lines line front ++ ended_lines (open_line line front) back
  pub goes_on : open_line line (front ++ back) ≡ open_line (open_line line front) back
