-- The statements of the laws.
use Rattle.std.specs.Prelude.{◌≡◌, ℕ, List, true}
use Rattle.dcm_base.specs.Reading.Bars.{ascending_bar}
use Rattle.dcm_base.specs.Tree.Front.{Front}
use Rattle.dcm_base.specs.Conversion.Normal.{normal_front, FrontStays}
use Rattle.dcm_base.specs.Tables.Number.{AreBytes}
use Rattle.dcm_base.specs.Reading.Reads.{Reads}
use Rattle.dcm_base.specs.Conversion.Recode.{is_explicit, recode}
use Rattle.dcm_base.specs.Reading.Stop.{Stop, complete}
use Rattle.dcm_base.specs.Tables.Syntax.{dictionary_of, read_by}
use Rattle.dcm_base.specs.declared.dictionary.Dictionary.{Dictionary}
use Rattle.dcm_base.specs.declared.dictionary.Dictionary.TheVariants.{Standard, Extract}
use Rattle.dcm_base.specs.declared.syntax.Syntax.{Syntax}
use Rattle.dcm_base.specs.declared.tag.Tag.{Tag}
use Rattle.dcm_base.specs.declared.vr.Vr.{Vr}
use Rattle.dcm_edits.specs.Edit.{Edit, edited, erase_all, erase_private, modify_all}
use Rattle.dcm_editor_laws.specs.Everywhere.{Among, EverywhereIn, IsOther, IsPublic, IsWrittenJust}
use Rattle.dcm_editor_laws.specs.Modification.{Modifies, OfBytes, ReadsAgain}
use Rattle.dcm_editor_laws.specs.Others.{any_changes, set_without, KeepsSign}
use Rattle.dcm_editor_laws.specs.Readers.{HidesNothing, OpensAlike, ReadsBy}
use Rattle.dcm_editor_laws.specs.Repeating.{EraseByNoNumber}

-- what is written reads back without fault, as the normal form of the edited data set
abbrev pub EditedReads : Type 0
EditedReads =
    (edits : List Edit) (s : Syntax) (at : ℕ) (f : Front) → Modifies edits s at f → FrontStays s f
    → ReadsAgain edits s at f (normal_front s (edited edits f)) complete

-- it reads back so under the bar of dcmodify too
abbrev pub EditedAscends : Type 0
EditedAscends =
    (edits : List Edit) (s : Syntax) (at : ℕ) (f : Front) → Modifies edits s at f → FrontStays s f
    → Reads ascending_bar s at (recode s (edited edits f)) (normal_front s (edited edits f)) complete

-- what is written is bytes, where the words of the command line are
abbrev pub EditedIsBytes : Type 0
EditedIsBytes =
    (edits : List Edit) (s : Syntax) (at : ℕ) (f : Front) (h : Modifies edits s at f) → OfBytes h.words
    → AreBytes (recode s (edited edits f))

-- after `-ea` no element has the tag, at any depth
abbrev pub NoneIsLeft : Type 0
NoneIsLeft =
    (edits : List Edit) (s : Syntax) (at : ℕ) (f again : Front) (stop : Stop) (tag : Tag)
    → Modifies edits s at f → FrontStays s f
    → Among (erase_all tag) edits → ReadsAgain edits s at f again stop → (stop ≡ complete)
    × EverywhereIn (IsOther tag) again

-- after `-ep` no element is of an odd group, at any depth
abbrev pub NoPrivateIsLeft : Type 0
NoPrivateIsLeft =
    (edits : List Edit) (s : Syntax) (at : ℕ) (f again : Front) (stop : Stop) → Modifies edits s at f → FrontStays s f
    → Among erase_private edits → ReadsAgain edits s at f again stop → (stop ≡ complete) × EverywhereIn IsPublic again

-- after `-ma` each element of the tag has the value as it is written, at any depth
abbrev pub AllAreModified : Type 0
AllAreModified =
    (edits : List Edit) (s : Syntax) (at : ℕ) (f again : Front) (stop : Stop) (tag : Tag) (vr : Vr) (value : List ℕ)
    → Modifies edits s at f → FrontStays s f → Among (modify_all tag vr value) edits
    → ReadsAgain edits s at f again stop
    → (stop ≡ complete) × EverywhereIn (IsWrittenJust s tag vr value) again

-- without the elements of the tags that edits may change, both data sets are the same, at every depth
abbrev pub OthersStay : Type 0
OthersStay =
    (edits : List Edit) (s : Syntax) (at : ℕ) (f : Front) → Modifies edits s at f
    → set_without (any_changes edits) (edited edits f) ≡ set_without (any_changes edits) f

-- what is written reads back as the normal form of the data set that was read, but for the elements of those tags
abbrev pub OthersStayWritten : Type 0
OthersStayWritten =
    (edits : List Edit) (s : Syntax) (at : ℕ) (f again : Front) (stop : Stop)
    → Modifies edits s at f → FrontStays s f → KeepsSign s edits
    → ReadsAgain edits s at f again stop
    → (stop ≡ complete) × (set_without (any_changes edits) again ≡ set_without (any_changes edits) (normal_front s f))

-- by a dictionary that opens the edited data set alike, what is written reads without fault, as the normal form by that
-- dictionary
abbrev pub EditedReadsBy : Type 0
EditedReadsBy =
    (edits : List Edit) (s : Syntax) (at : ℕ) (f : Front) (e : Dictionary) → Modifies edits s at f
    → OpensAlike e s (edited edits f) → ReadsBy e edits s at f (normal_front (read_by e s) (edited edits f)) complete

-- it is the same data set as the one that reads back by its own dictionary, but for the representations: the normal
-- form of that
abbrev pub ReadsAlike : Type 0
ReadsAlike =
    (edits : List Edit) (s : Syntax) (at : ℕ) (f again other : Front) (stop end : Stop) (e : Dictionary)
    → Modifies edits s at f → FrontStays s f → OpensAlike e s (edited edits f) → ReadsAgain edits s at f again stop
    → ReadsBy e edits s at f other end → other ≡ normal_front (read_by e s) again

-- an explicit data set the extract opens alike
abbrev pub ExplicitOpensAlike : Type 0
ExplicitOpensAlike = (s : Syntax) (f : Front) → is_explicit s ≡ true → OpensAlike Extract s f

-- an edited one opens alike by the dictionary that it was read by
abbrev pub OwnOpensAlike : Type 0
OwnOpensAlike =
    (edits : List Edit) (s : Syntax) (at : ℕ) (f : Front) → Modifies edits s at f → FrontStays s f
    → OpensAlike (dictionary_of s) s (edited edits f)

-- and by each one, if it was read by the standard
abbrev pub StandardOpensAlike : Type 0
StandardOpensAlike =
    (edits : List Edit) (s : Syntax) (at : ℕ) (f : Front) (e : Dictionary) → Modifies edits s at f → FrontStays s f
    → dictionary_of s ≡ Standard → OpensAlike e s (edited edits f)

-- by a dictionary that opens the edited data set alike: after `-ea` no element has the tag, at any depth
abbrev pub NoneIsLeftBy : Type 0
NoneIsLeftBy =
    (edits : List Edit) (s : Syntax) (at : ℕ) (f again : Front) (stop : Stop) (e : Dictionary) (tag : Tag)
    → Modifies edits s at f → OpensAlike e s (edited edits f) → Among (erase_all tag) edits
    → ReadsBy e edits s at f again stop → (stop ≡ complete) × EverywhereIn (IsOther tag) again

-- after `-ep` no element is of an odd group
abbrev pub NoPrivateIsLeftBy : Type 0
NoPrivateIsLeftBy =
    (edits : List Edit) (s : Syntax) (at : ℕ) (f again : Front) (stop : Stop) (e : Dictionary) → Modifies edits s at f
    → OpensAlike e s (edited edits f) → Among erase_private edits → ReadsBy e edits s at f again stop
    → (stop ≡ complete) × EverywhereIn IsPublic again

-- after `-ma` each element of the tag has the value as it is written
abbrev pub AllAreModifiedBy : Type 0
AllAreModifiedBy =
    (edits : List Edit) (s : Syntax) (at : ℕ) (f again : Front) (stop : Stop) (e : Dictionary) (tag : Tag) (vr : Vr)
    (value : List ℕ) → Modifies edits s at f → OpensAlike e s (edited edits f) → Among (modify_all tag vr value) edits
    → ReadsBy e edits s at f again stop
    → (stop ≡ complete) × EverywhereIn (IsWrittenJust (read_by e s) tag vr value) again

-- what no edit may change reads back as the normal form of it
abbrev pub OthersStayBy : Type 0
OthersStayBy =
    (edits : List Edit) (s : Syntax) (at : ℕ) (f again : Front) (stop : Stop) (e : Dictionary)
    → Modifies edits s at f → KeepsSign (read_by e s) edits
    → OpensAlike e s (edited edits f) → ReadsBy e edits s at f again stop
    → (stop ≡ complete)
    × (set_without (any_changes edits) again ≡ set_without (any_changes edits) (normal_front (read_by e s) f))

-- to a dictionary from which the values of what is written hide nothing, and which reads it to its end: after `-ea` no
-- element has the tag, at any depth
abbrev pub NoneIsSeen : Type 0
NoneIsSeen =
    (edits : List Edit) (s : Syntax) (at : ℕ) (f again : Front) (e : Dictionary) (tag : Tag) → Modifies edits s at f
    → HidesNothing e s (normal_front s (edited edits f)) → Among (erase_all tag) edits
    → ReadsBy e edits s at f again complete → EverywhereIn (IsOther tag) again

-- after `-ep` no element is of an odd group
abbrev pub NoPrivateIsSeen : Type 0
NoPrivateIsSeen =
    (edits : List Edit) (s : Syntax) (at : ℕ) (f again : Front) (e : Dictionary) → Modifies edits s at f
    → HidesNothing e s (normal_front s (edited edits f)) → Among erase_private edits
    → ReadsBy e edits s at f again complete → EverywhereIn IsPublic again

-- the values of what is written hide nothing from a dictionary that opens the edited data set alike
abbrev pub AlikeHidesNothing : Type 0
AlikeHidesNothing = (s : Syntax) (f : Front) (e : Dictionary) → OpensAlike e s f → HidesNothing e s (normal_front s f)

-- the same edits of what is written write the same bytes again, where no edit erases an item by its number
abbrev pub EditedTwice : Type 0
EditedTwice =
    (edits : List Edit) (s : Syntax) (at : ℕ) (f : Front) → Modifies edits s at f → EraseByNoNumber edits
    → recode s (edited edits (normal_front s (edited edits f))) ≡ recode s (edited edits f)

-- a second run reads what the first one wrote without fault, and writes the same bytes again
abbrev pub WritesAgain : Type 0
WritesAgain =
    (edits : List Edit) (s : Syntax) (at : ℕ) (f again : Front) (stop : Stop) → Modifies edits s at f → FrontStays s f
    → EraseByNoNumber edits
    → Reads ascending_bar s at (recode s (edited edits f)) again stop
    → (stop ≡ complete) × (recode s (edited edits again) ≡ recode s (edited edits f))

-- what is said of the first run holds of the second one, where bytes were written
abbrev pub ModifiesAgain : Type 0
ModifiesAgain =
    (edits : List Edit) (s : Syntax) (at : ℕ) (f again : Front) (stop : Stop) → Modifies edits s at f → FrontStays s f
    → EraseByNoNumber edits
    → AreBytes (recode s (edited edits f)) → Reads ascending_bar s at (recode s (edited edits f)) again stop
    → Modifies edits s at again
