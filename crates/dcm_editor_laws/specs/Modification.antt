-- What the laws of a file that is written with edits speak of.
use Rattle.std.specs.Prelude.{◌≡◌, ℕ, ◌+◌, ◌≤◌, List, [], ◌∷◌, length, Ok}
use Rattle.dcm_base.specs.declared.syntax.Syntax.{Syntax}
use Rattle.dcm_base.specs.Tables.Syntax.{dictionary_of}
use Rattle.dcm_base.specs.Tables.Number.{AreBytes}
use Rattle.dcm_base.specs.Tree.Front.{Front}
use Rattle.dcm_base.specs.Reading.Stop.{Stop, complete}
use Rattle.dcm_base.specs.Reading.Bars.{ascending_bar, target_bar}
use Rattle.dcm_base.specs.Reading.Reads.{INPUT_LIMIT, Reads}
use Rattle.dcm_base.specs.Conversion.Recode.{recode}
use Rattle.dcm_edits.specs.Edit.{Edit, edited}
use Rattle.dcm_edits.specs.EditWords.{meant_edits_in}

-- the edits are those that some words mean by the dictionary of the syntax, the data set f is read without fault, its
-- tags ascend, and what is written of it with the edits begins at an offset
pub record Modifies (edits : List Edit) (s : Syntax) (at : ℕ) (f : Front) : Type 0 where
  pub words : List (List ℕ)
  pub mean : meant_edits_in (dictionary_of s) words ≡ Ok edits
  pub start : ℕ
  pub begins : start ≤ INPUT_LIMIT
  pub bytes : List ℕ
  pub are_bytes : AreBytes bytes
  pub reads : Reads ascending_bar s start bytes f complete
  pub within : at + length (recode s (edited edits f)) ≤ INPUT_LIMIT

-- each word is of bytes
abbrev pub OfBytes : List (List ℕ) → Type 0
OfBytes [] = Unit {0}
OfBytes (w ∷ words) = AreBytes w × OfBytes words

-- what is written is read again, in the same syntax
abbrev pub ReadsAgain : List Edit → Syntax → (at : ℕ) → Front → (again : Front) → Stop → Type 0
ReadsAgain edits s at f again stop = Reads (target_bar s) s at (recode s (edited edits f)) again stop
