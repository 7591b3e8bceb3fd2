-- What becomes of an element (PS3.15 annex E).
use Rattle.std.specs.Prelude.{◌≡◌, ℕ, Bool, true, false, ◌&&◌, ◌||◌, not, ◌==◌, if◌then◌else◌, List, map, find, Option, Some}
use Rattle.std.specs.Prelude.{None}
use Rattle.std.specs.List.{list_any}
use Rattle.dcm_base.specs.declared.tag.Tag.{Tag}
use Rattle.dcm_base.specs.declared.vr.Vr.{Vr}
use Rattle.dcm_base.specs.declared.vr.Vr.TheVariants.{DA, TM, DT, PN}
use Rattle.dcm_base.specs.declared.dictionary.Dictionary.TheVariants.{Standard}
use Rattle.dcm_base.specs.Tables.Tag.{tag_number, is_tag}
use Rattle.dcm_base.specs.Tables.Representation.{is_sequence}
use Rattle.dcm_base.specs.Tables.Dictionary.{known_vr_in, vr_in}
use Rattle.dcm_deid.specs.declared.fate.Fate.{Fate}
use Rattle.dcm_deid.specs.declared.fate.Fate.TheVariants.{Remove, Empty, Anew, Keep}
use Rattle.dcm_deid.specs.declared.fate.NewValue.TheVariants.{Pseudonym, MovedDate, MovedDateTime}
use Rattle.dcm_deid.specs.declared.fate.Temporal.{Temporal}
use Rattle.dcm_deid.specs.declared.fate.Temporal.TheVariants.{Full, Modified}
use Rattle.dcm_deid.specs.declared.fate.Options.{Options}
use Rattle.dcm_deid.specs.declared.fate.Retain.{Retain}
use Rattle.dcm_deid.specs.declared.fate.Retain.TheVariants.{Uids, Device, Institution, Patient, Dates}
use Rattle.dcm_deid.specs.declared.fate.Depth.{Depth}
use Rattle.dcm_deid.specs.declared.fate.Depth.TheVariants.{Outermost, Inside}
use Rattle.dcm_deid.specs.declared.fate.ReadAs.{ReadAs}
use Rattle.dcm_deid.specs.declared.fate.ReadAs.TheVariants.{AsBytes, AsItems}
use Rattle.dcm_deid.specs.declared.table.TheConstants.{ACTIONS}

-- a row of the table: the number of a tag, its fate, and the options that keep it
abbrev pub Action : Type 0
Action = ℕ × Fate × List Retain

unfoldable pub actions : List Action
actions = map (λ a. (a.0, a.1, a.2.now)) ACTIONS

-- whether dates stay as they are, and whether they are moved
abbrev pub are_full : Temporal → Bool
are_full Full = true
are_full _ = false

abbrev pub are_modified : Temporal → Bool
are_modified (Modified days) = true
are_modified _ = false

-- whether dates stay or are moved
abbrev pub are_left : Temporal → Bool
are_left dates = are_full dates || are_modified dates

-- whether an option is given (PS3.15 E.3): that of full dates and that of modified ones keep the same
abbrev pub is_given : Options → Retain → Bool
is_given options Uids = options.uids
is_given options Device = options.device
is_given options Institution = options.institution
is_given options Patient = options.patient
is_given options Dates = are_left options.dates

-- whether one of them is given
abbrev pub keeps : Options → List Retain → Bool
keeps options retains = list_any (is_given options) retains

-- the elements that say what was done, which are put anew
abbrev pub is_put : Options → Tag → Bool
is_put options tag =
    is_tag 0x0012 0x0062 tag || is_tag 0x0012 0x0063 tag || is_tag 0x0012 0x0064 tag
    || (is_tag 0x0028 0x0303 tag && not (are_full options.dates))

abbrev pub is_put_at : Options → Depth → Tag → Bool
is_put_at options Outermost tag = is_put options tag
is_put_at options Inside tag = false

-- of an element that the table does not have: dates, times and names of persons are emptied
abbrev pub fate_of_vr : Options → Vr → Fate
fate_of_vr options DA = if are_left options.dates then Keep else Empty
fate_of_vr options TM = if are_left options.dates then Keep else Empty
fate_of_vr options DT = if are_left options.dates then Keep else Empty
fate_of_vr options PN = Empty
fate_of_vr options _ = Keep

abbrev pub fate_in_table : Options → Option Action → Vr → Fate
fate_in_table options (Some action) vr = if keeps options action.2 then Keep else action.1
fate_in_table options None vr = fate_of_vr options vr

-- what becomes of what would be kept: a date, and a time with one, is moved where dates are
abbrev pub kept_as : (moved : Bool) → Vr → Fate
kept_as moved DA = if moved then Anew MovedDate else Keep
kept_as moved DT = if moved then Anew MovedDateTime else Keep
kept_as moved _ = Keep

abbrev pub is_kept : Fate → Bool
is_kept Keep = true
is_kept _ = false

abbrev pub moved_if : (moved : Bool) → Vr → Fate → Fate
moved_if moved vr fate = if is_kept fate then kept_as moved vr else fate

-- the fate of an element with this representation in the dictionary
abbrev pub fate_by_vr : Options → Tag → Vr → Fate
fate_by_vr options tag vr =
    if is_tag 0x0010 0x0020 tag && options.pseudonyms then Anew Pseudonym
    else moved_if (are_modified options.dates) vr
    (fate_in_table options (find (λ a. a.0 == tag_number tag) actions) vr)

-- of an element that the dictionary has
abbrev pub fate_of_known : Options → Tag → Fate
fate_of_known options tag = fate_by_vr options tag (vr_in Standard tag)

-- whether the dictionary has an element, and it is no length of a group
abbrev pub is_some_element : {A : Type 0} → Option A → Bool
is_some_element None = false
is_some_element (Some x) = true

abbrev pub is_known : Tag → Bool
is_known tag = not (tag.element == 0) && is_some_element (known_vr_in Standard tag)

abbrev pub fate : Options → Depth → Tag → Fate
fate options depth tag = if is_put_at options depth tag || not (is_known tag) then Remove else fate_of_known options tag

-- a sequence that was read as bytes, into which nobody looked, goes whatever its fate
unfoldable pub fate_as : Options → Depth → ReadAs → Tag → Fate
fate_as options depth AsItems tag = fate options depth tag
fate_as options depth AsBytes tag = if is_sequence (vr_in Standard tag) then Remove else fate options depth tag

-- an element of this number that was read so is kept whatever is asked for and wherever it is
abbrev pub IsAlwaysKept : ReadAs → ℕ → Type 0
IsAlwaysKept read number = (options : Options) (depth : Depth) (tag : Tag) → tag_number tag ≡ number
    → fate_as options depth read tag ≡ Keep

-- the same of an element that the dictionary has with a value representation: it is removed whatever the table says
-- where it
-- is the length of a group, a sequence that was read as bytes, or says what was done
abbrev pub is_opaque : ReadAs → Vr → Bool
is_opaque AsBytes vr = is_sequence vr
is_opaque AsItems vr = false

abbrev pub is_removed : Options → Depth → ReadAs → Tag → Vr → Bool
is_removed options depth read tag vr = (tag.element == 0) || (is_opaque read vr || is_put_at options depth tag)
