-- What is made of the values that are made anew.
use Rattle.std.specs.Prelude.{ℕ, ℤ, pos, List}
use Rattle.dcm_dates.specs.declared.moving.DateKind.TheVariants.{Da, Dt}
use Rattle.dcm_dates.specs.Moved.{moved}
use Rattle.dcm_uid.specs.Pseudonym.{patient_of, pseudonym_of}
use Rattle.dcm_uid.specs.Uid.{replaced}
use Rattle.dcm_deid.specs.declared.fate.NewValue.TheVariants.{Uid, Pseudonym, MovedDate, MovedDateTime}
use Rattle.dcm_deid.specs.declared.fate.Options.{Options}
use Rattle.dcm_deid.specs.declared.fate.Temporal.{Temporal}
use Rattle.dcm_deid.specs.declared.fate.Temporal.TheVariants.{Removed, Full, Modified}
use Rattle.dcm_deid.specs.Deidentify.{Renaming}

-- by how many days dates are moved
abbrev pub days_of : Temporal → ℤ
days_of Removed = pos 0
days_of Full = pos 0
days_of (Modified days) = days

-- what of a value has an influence: of a PatientID the patient whom it names, of dates what they are moved to
unfoldable pub left_of : Options → Renaming
left_of options Uid b = b
left_of options Pseudonym b = patient_of b
left_of options MovedDate b = moved Da (days_of options.dates) b
left_of options MovedDateTime b = moved Dt (days_of options.dates) b

-- what is made of that under a key
abbrev pub from_left : (key : List ℕ) → Renaming
from_left key Uid left = replaced key left
from_left key Pseudonym left = pseudonym_of key left
from_left key MovedDate left = left
from_left key MovedDateTime left = left

-- what is made of a value without its padding
unfoldable pub made_new : Options → (key : List ℕ) → Renaming
made_new options key made b = from_left key made (left_of options made b)
