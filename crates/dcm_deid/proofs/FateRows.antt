-- Fates of some elements.
use Rattle.std.proofs.Common.{◌≡◌, refl, pos, true, false}
use Rattle.dcm_base.specs.Tables.Dictionary as D
use Rattle.dcm_deid.specs.declared.fate.Fate.TheVariants.{Remove, Empty, Anew, Keep}
use Rattle.dcm_deid.specs.declared.fate.NewValue.TheVariants.{Pseudonym, MovedDate, MovedDateTime}
use Rattle.dcm_deid.specs.declared.fate.Temporal.TheVariants.{Removed, Full, Modified}
use Rattle.dcm_deid.specs.declared.fate.Options.{Options}
use Rattle.dcm_deid.specs.declared.fate.Depth.TheVariants.{Outermost, Inside}
use Rattle.dcm_deid.specs.declared.fate.ReadAs.TheVariants.{AsBytes}
use Rattle.dcm_deid.specs.Fate.{actions, fate_as}

abbrev none : Options
none = record { uids = false; device = false; institution = false; patient = false; dates = Removed; pseudonyms = false }

abbrev dates_kept : Options
dates_kept = record { uids = false; device = false; institution = false; patient = false; dates = Full; pseudonyms = false }

name : fate_as none Outermost AsBytes (record { group = 0x0010; element = 0x0010 }) ≡ Empty
unfolding fate_as D.vr_in D.element_in D.elements_in D.entries D.ambiguous actions
name = refl

private_one : fate_as none Inside AsBytes (record { group = 0x0009; element = 0x0010 }) ≡ Remove
unfolding fate_as D.vr_in D.element_in D.elements_in D.entries D.ambiguous actions
private_one = refl

date_kept : fate_as dates_kept Inside AsBytes (record { group = 0x0008; element = 0x0020 }) ≡ Keep
unfolding fate_as D.vr_in D.element_in D.elements_in D.entries D.ambiguous actions
date_kept = refl

opaque_one : fate_as none Inside AsBytes (record { group = 0x0008; element = 0x1140 }) ≡ Remove
unfolding fate_as D.vr_in D.element_in D.elements_in D.entries D.ambiguous actions
opaque_one = refl

-- SmallestImagePixelValue, which the standard leaves between US and SS
between_two : fate_as none Inside AsBytes (record { group = 0x0028; element = 0x0106 }) ≡ Keep
unfolding fate_as D.vr_in D.element_in D.elements_in D.entries D.ambiguous actions
between_two = refl

-- ---- dates that are moved, and pseudonyms

abbrev moved : Options
moved = record { uids = false; device = false; institution = false; patient = false; dates = Modified (pos 1); pseudonyms = true }

date_moved : fate_as moved Inside AsBytes (record { group = 0x0008; element = 0x0020 }) ≡ Anew MovedDate
unfolding fate_as D.vr_in D.element_in D.elements_in D.entries D.ambiguous actions
date_moved = refl

time_kept : fate_as moved Inside AsBytes (record { group = 0x0008; element = 0x0030 }) ≡ Keep
unfolding fate_as D.vr_in D.element_in D.elements_in D.entries D.ambiguous actions
time_kept = refl

date_time_moved : fate_as moved Inside AsBytes (record { group = 0x0008; element = 0x002A }) ≡ Anew MovedDateTime
unfolding fate_as D.vr_in D.element_in D.elements_in D.entries D.ambiguous actions
date_time_moved = refl

birth_date_emptied : fate_as moved Outermost AsBytes (record { group = 0x0010; element = 0x0030 }) ≡ Empty
unfolding fate_as D.vr_in D.element_in D.elements_in D.entries D.ambiguous actions
birth_date_emptied = refl

patient_named : fate_as moved Inside AsBytes (record { group = 0x0010; element = 0x0020 }) ≡ Anew Pseudonym
unfolding fate_as D.vr_in D.element_in D.elements_in D.entries D.ambiguous actions
patient_named = refl

said_anew : fate_as moved Outermost AsBytes (record { group = 0x0028; element = 0x0303 }) ≡ Remove
unfolding fate_as D.vr_in D.element_in D.elements_in D.entries D.ambiguous actions
said_anew = refl
