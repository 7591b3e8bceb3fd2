-- The statements of the laws.
use Rattle.std.specs.Prelude.{◌≡◌, ℕ, ℤ, List, neg_ℤ, true, false}
use Rattle.dcm_base.specs.declared.dictionary.Dictionary.{Dictionary}
use Rattle.dcm_base.specs.declared.syntax.Syntax.{Syntax}
use Rattle.dcm_base.specs.Conversion.Normal.{normal_front}
use Rattle.dcm_base.specs.Conversion.Recode.{recode}
use Rattle.dcm_base.specs.Reading.Bars.{identity_bar, target_bar}
use Rattle.dcm_base.specs.Reading.Reads.{Reads}
use Rattle.dcm_base.specs.Reading.Stop.{Stop, complete}
use Rattle.dcm_base.specs.Tables.Syntax.{read_by}
use Rattle.dcm_base.specs.Tree.Front.{Front}
use Rattle.dcm_deid.specs.Alike.{moving}
use Rattle.dcm_deid.specs.MadeNew.{made_new}
use Rattle.dcm_deid.specs.declared.fate.Options.{Options}
use Rattle.dcm_deid.specs.Fate.{are_modified}
use Rattle.dcm_deid.specs.Saying.{deidentified}
use Rattle.dcm_deid_laws.specs.Clean.{NothingIsLeft}
use Rattle.dcm_deid_laws.specs.Taken.{Takes}

-- what is written without identity reads back without fault, by each dictionary, as its normal form
abbrev pub DeidentifiedReads : Type 0
DeidentifiedReads =
    (options : Options) (key : List ℕ) (s : Syntax) (at : ℕ) (f : Front) (e : Dictionary) → Takes options key s at f
    → Reads (target_bar (read_by e s)) (read_by e s) at (recode s (deidentified options (made_new options key) f))
    (normal_front (read_by e s) (deidentified options (made_new options key) f)) complete

-- and so it does where identity is taken out: its tags ascend, and no element of it is one that dcmdeid refuses
abbrev pub ReadsForDcmdeid : Type 0
ReadsForDcmdeid =
    (options : Options) (key : List ℕ) (s : Syntax) (at : ℕ) (f : Front) → Takes options key s at f
    → Reads identity_bar s at (recode s (deidentified options (made_new options key) f))
    (normal_front s (deidentified options (made_new options key) f)) complete

-- however it is read in its syntax, that is to its end, and nothing that was taken is in it
abbrev pub TakenIsGone : Type 0
TakenIsGone =
    (options : Options) (key : List ℕ) (s : Syntax) (at : ℕ) (f again : Front) (stop : Stop) → Takes options key s at f
    → Reads (target_bar s) s at (recode s (deidentified options (made_new options key) f)) again stop
    → (stop ≡ complete) × NothingIsLeft options key again

-- no value is made anew: unique identifiers are retained, and neither pseudonyms nor moved dates are asked for
abbrev pub MakesNothingAnew : Options → Type 0
MakesNothingAnew options =
    (options.uids ≡ true) × (options.pseudonyms ≡ false) × (are_modified options.dates ≡ false)

-- then the same options write the same bytes again of what reads back
abbrev pub DeidentifiedTwice : Type 0
DeidentifiedTwice =
    (options : Options) (key : List ℕ) (s : Syntax) (at : ℕ) (f : Front) → Takes options key s at f
    → MakesNothingAnew options
    → recode s (deidentified options (made_new options key) (normal_front s (deidentified options (made_new options key) f)))
    ≡ recode s (deidentified options (made_new options key) f)

-- nothing but dates is: they are moved by days
abbrev pub MovesDatesAlone : Options → Type 0
MovesDatesAlone options =
    (options.uids ≡ true) × (options.pseudonyms ≡ false) × (are_modified options.dates ≡ true)

-- a data set without identity, its dates moved by so many days
abbrev pub left_moved : Options → (key : List ℕ) → (days : ℤ) → Front → Front
left_moved options key days f = deidentified (moving options days) (made_new (moving options days) key) f

-- moved by some days, read and moved back, and read and moved by the same days once more, it is written as it was the
-- first time
abbrev pub ThereAndBack : Type 0
ThereAndBack =
    (options : Options) (key : List ℕ) (days : ℤ) (s : Syntax) (at : ℕ) (f : Front)
    → Takes (moving options days) key s at f → MovesDatesAlone options
    → recode s (left_moved options key days (normal_front s
    (left_moved options key (neg_ℤ days) (normal_front s (left_moved options key days f)))))
    ≡ recode s (left_moved options key days f)
