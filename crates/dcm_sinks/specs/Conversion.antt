-- What the laws of a conversion speak of.
use Rattle.std.specs.Prelude.{ℕ, ◌+◌, ◌≤◌, List, length}
use Rattle.dcm_base.specs.declared.syntax.Syntax.{Syntax}
use Rattle.dcm_base.specs.Tables.Number.{AreBytes}
use Rattle.dcm_base.specs.Tree.Front.{Front}
use Rattle.dcm_base.specs.Reading.Stop.{complete}
use Rattle.dcm_base.specs.Reading.Bars.{target_bar}
use Rattle.dcm_base.specs.Reading.Reads.{INPUT_LIMIT, Reads}
use Rattle.dcm_base.specs.Conversion.Recode.{recode}
use Rattle.dcm_base.specs.Conversion.Normal.{FrontFits}

-- f is read without fault of bytes that begin at start, it fits the target, and what it is converted to is at an
-- offset
pub record Converts (target s : Syntax) (start at : ℕ) (bytes : List ℕ) (f : Front) : Type 0 where
  pub begins : start ≤ INPUT_LIMIT
  pub are_bytes : AreBytes bytes
  pub reads : Reads (target_bar target) s start bytes f complete
  pub fits : FrontFits target f
  pub within : at + length (recode target f) ≤ INPUT_LIMIT
