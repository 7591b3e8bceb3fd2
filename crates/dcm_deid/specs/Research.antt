-- What becomes of elements where data sets of one patient stay comparable: pseudonyms, and dates that are moved.
use Rattle.std.specs.Prelude.{◌≡◌, ◌≢◌, ℤ, Bool, true, false}
use Rattle.dcm_base.specs.declared.tag.Tag.{Tag}
use Rattle.dcm_base.specs.declared.vr.Vr.{Vr}
use Rattle.dcm_base.specs.declared.vr.Vr.TheVariants.{DA, DT}
use Rattle.dcm_base.specs.declared.dictionary.Dictionary.TheVariants.{Standard}
use Rattle.dcm_base.specs.Reading.Bars.{PATIENT_ID}
use Rattle.dcm_base.specs.Tables.Tag.{is_tag}
use Rattle.dcm_base.specs.Tables.Dictionary.{vr_in}
use Rattle.dcm_deid.specs.declared.fate.Fate.{Fate}
use Rattle.dcm_deid.specs.declared.fate.Fate.TheVariants.{Remove, Anew, Keep}
use Rattle.dcm_deid.specs.declared.fate.NewValue.TheVariants.{Pseudonym, MovedDate, MovedDateTime}
use Rattle.dcm_deid.specs.declared.fate.Temporal.TheVariants.{Full, Modified}
use Rattle.dcm_deid.specs.declared.fate.Options.{Options}
use Rattle.dcm_deid.specs.declared.fate.Depth.{Depth}
use Rattle.dcm_deid.specs.declared.fate.Depth.TheVariants.{Outermost, Inside}
use Rattle.dcm_deid.specs.declared.fate.ReadAs.{ReadAs}
use Rattle.dcm_deid.specs.Fate.{fate_as}

-- with pseudonyms PatientID gets one, in the outermost data set and in each item, however it was read
abbrev pub PatientsGetPseudonyms : Type 0
PatientsGetPseudonyms = (options : Options) (depth : Depth) (read : ReadAs) → options.pseudonyms ≡ true
    → fate_as options depth read PATIENT_ID ≡ Anew Pseudonym

-- the same options with full dates, and with dates that are moved by so many days
abbrev pub with_full_dates : Options → Options
with_full_dates options = record options { dates = Full }

abbrev pub with_moved_dates : Options → (days : ℤ) → Options
with_moved_dates options days = record options { dates = Modified days }

-- the element that says what became of dates: it is in the outermost data set
abbrev pub says_of_dates : Depth → Tag → Bool
says_of_dates Outermost tag = is_tag 0x0028 0x0303 tag
says_of_dates Inside tag = false

-- a date is moved, and so is a date with a time; all else stays
abbrev pub moved_by_vr : Vr → Fate
moved_by_vr DA = Anew MovedDate
moved_by_vr DT = Anew MovedDateTime
moved_by_vr _ = Keep

-- What stays where full dates are kept is moved where dates are moved, by the representation that the standard's
-- dictionary has for it. What says of dates is set aside.
abbrev pub WhatStaysIsMoved : Type 0
WhatStaysIsMoved = (options : Options) (days : ℤ) (depth : Depth) (read : ReadAs) (tag : Tag)
    → says_of_dates depth tag ≡ false → fate_as (with_full_dates options) depth read tag ≡ Keep
    → fate_as (with_moved_dates options days) depth read tag ≡ moved_by_vr (vr_in Standard tag)

-- what does not stay where full dates are kept becomes the same where they are moved
abbrev pub OthersBecomeTheSame : Type 0
OthersBecomeTheSame = (options : Options) (days : ℤ) (depth : Depth) (read : ReadAs) (tag : Tag)
    → fate_as (with_full_dates options) depth read tag ≢ Keep
    → fate_as (with_moved_dates options days) depth read tag ≡ fate_as (with_full_dates options) depth read tag

-- what said of dates goes where they are moved
abbrev pub WhatSaidOfDatesGoes : Type 0
WhatSaidOfDatesGoes = (options : Options) (days : ℤ) (depth : Depth) (read : ReadAs) (tag : Tag)
    → says_of_dates depth tag ≡ true → fate_as (with_moved_dates options days) depth read tag ≡ Remove
