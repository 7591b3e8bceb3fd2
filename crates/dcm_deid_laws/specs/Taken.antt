-- Data sets that were read without fault, out of which identity is taken.
use Rattle.std.specs.Prelude.{◌≡◌, ◌≤◌, ◌+◌, ℕ, List, length}
use Rattle.dcm_base.specs.declared.dictionary.Dictionary.TheVariants.{Standard}
use Rattle.dcm_base.specs.declared.syntax.Syntax.{Syntax}
use Rattle.dcm_base.specs.Conversion.Recode.{recode}
use Rattle.dcm_base.specs.Reading.Bars.{identity_bar}
use Rattle.dcm_base.specs.Reading.Reads.{INPUT_LIMIT, Reads}
use Rattle.dcm_base.specs.Reading.Stop.{complete}
use Rattle.dcm_base.specs.Tables.Number.{AreBytes}
use Rattle.dcm_base.specs.Tables.Syntax.{dictionary_of}
use Rattle.dcm_base.specs.Tree.Front.{Front}
use Rattle.dcm_deid.specs.MadeNew.{made_new}
use Rattle.dcm_deid.specs.declared.fate.Options.{Options}
use Rattle.dcm_deid.specs.Saying.{deidentified}

-- a data set was read by the whole dictionary, and what is written of it without identity, at this offset, ends within
-- the limit of an input
pub record Takes (options : Options) (key : List ℕ) (s : Syntax) (at : ℕ) (f : Front) : Type 0 where
  pub by_standard : dictionary_of s ≡ Standard
  pub start : ℕ
  pub begins : start ≤ INPUT_LIMIT
  pub bytes : List ℕ
  pub are_bytes : AreBytes bytes
  pub reads : Reads identity_bar s start bytes f complete
  pub within : at + length (recode s (deidentified options (made_new options key) f)) ≤ INPUT_LIMIT
