-- The statements of the laws.
use Rattle.dcm_base.specs.declared.syntax.Coding.{Coding}
use Rattle.dcm_base.specs.declared.syntax.Syntax.{Syntax}
use Rattle.dcm_base.specs.Tree.Front.{Front}
use Rattle.dcm_base.specs.File.MetaReads.{Meta}
use Rattle.dcm_base.specs.Conversion.Normal.{normal_front}
use Rattle.dcm_base.specs.Conversion.Recode.{is_explicit}
use Rattle.dcm_base.specs.declared.tag.Tag.{Tag}
use Rattle.dcm_base.specs.declared.vr.Vr.{Vr}
use Rattle.dcm_base.specs.declared.dictionary.Dictionary.{Dictionary}
use Rattle.dcm_base.specs.declared.dictionary.Dictionary.TheVariants.{Standard, Extract}
use Rattle.dcm_edits.specs.Edit.{Edit, erase_all, erase_private, modify_all}
use Rattle.dcm_editor_laws.specs.Everywhere.{Among, EverywhereIn, IsOther, IsPublic, IsWrittenJust}
use Rattle.dcm_editor_laws.specs.Others.{any_changes, set_without, KeepsSign}
use Rattle.dcm_editor_laws.specs.Readers.{HidesNothing, OpensAlike}
use Rattle.dcm_editor_laws.specs.Repeating.{EraseByNoNumber}
use Rattle.dcm_deid.specs.declared.fate.Options.{Options}
use Rattle.dcm_deid.specs.Alike.{moving}
use Rattle.dcm_deid.specs.Saying.{whole_of}
use Rattle.dcm_deid.specs.Uids.{instance_of_head, instance_of_set}
use Rattle.dcm_deid_laws.specs.Clean.{NothingIsLeft}
use Rattle.dcm_deid_laws.specs.Laws.{MakesNothingAnew, MovesDatesAlone}
use Rattle.dcm_words.specs.Words as words
use Rattle.dcm_cli.specs.Answer.{Answer, Answers, FileReads, file}
use Rattle.dcm_cli.specs.Status.{DONE, REMARK}
use Rattle.dcm_run_laws.specs.ReadsAgain.{InOutput, InWholeOutput, IsConverted, IsModified, IsTaken}
use Rattle.dcm_run_laws.specs.ReadsAgain.{ReadsConverted, ReadsModified, ReadsTaken}
use Rattle.std.specs.Prelude.{◌≡◌, ◌⊎◌, Bool, List, None, Option, false, neg_ℤ, true, ℕ, ℤ}
use Rattle.dcm_base.specs.Tables.Syntax.{is_big, read_by}
use Rattle.dcm_base.specs.declared.mode.Mode.TheVariants.{Full}
use Rattle.dcm_base.specs.Reading.Stop.{Stop}

-- what dcmodify writes of a file without fault is read without fault
abbrev pub ModifiedReads : Type 0
ModifiedReads =
    (d : Dictionary) (edits : List Edit) (input : List ℕ) (a : Answer) (m : Meta) (coding : Coding) (f : Front)
    → IsModified d edits input a m coding f → ReadsModified d edits a m coding f

-- what dcmconv writes of a file without fault is read without fault
abbrev pub ConvertedReads : Type 0
ConvertedReads =
    (d : Dictionary) (target : Option Syntax) (input : List ℕ) (a : Answer) (m : Meta) (coding : Coding) (f : Front)
    → IsConverted d target input a m coding f → ReadsConverted d target a m coding f

-- after `-ea` no element has the tag, at any depth
abbrev pub ErasedAll : Type 0
ErasedAll =
    (d : Dictionary) (edits : List Edit) (input : List ℕ) (a : Answer) (m : Meta) (coding : Coding) (f : Front)
    → IsModified d edits input a m coding f → (tag : Tag) → Among (erase_all tag) edits
    → InOutput d (λ s set. EverywhereIn (IsOther tag) set) a

-- after `-ep` no element is of an odd group, at any depth
abbrev pub ErasedPrivate : Type 0
ErasedPrivate =
    (d : Dictionary) (edits : List Edit) (input : List ℕ) (a : Answer) (m : Meta) (coding : Coding) (f : Front)
    → IsModified d edits input a m coding f → Among erase_private edits
    → InOutput d (λ s set. EverywhereIn IsPublic set) a

-- after `-ma` each element of the tag has the value as it is written, at any depth
abbrev pub ModifiedAll : Type 0
ModifiedAll =
    (d : Dictionary) (edits : List Edit) (input : List ℕ) (a : Answer) (m : Meta) (coding : Coding) (f : Front)
    → IsModified d edits input a m coding f → (tag : Tag) (vr : Vr) (value : List ℕ)
    → Among (modify_all tag vr value) edits
    → InOutput d (λ s set. EverywhereIn (IsWrittenJust s tag vr value) set) a

-- but for the elements whose tags the edits may change, it is the normal form of the data set that was read
abbrev pub OthersStay : Type 0
OthersStay =
    (d : Dictionary) (edits : List Edit) (input : List ℕ) (a : Answer) (m : Meta) (coding : Coding) (f : Front)
    → IsModified d edits input a m coding f → KeepsSign coding.syntax edits
    → InOutput d (λ s set. set_without (any_changes edits) set ≡ set_without (any_changes edits) (normal_front s f)) a

-- a dictionary that opens the output alike reads the same data set in it without fault, but for the representations:
-- the normal form of the one that the dictionary of the edits reads
abbrev pub ReadsAlike : Type 0
ReadsAlike =
    (d e : Dictionary) (edits : List Edit) (input : List ℕ) (a : Answer) (m : Meta) (coding : Coding) (f : Front)
    → IsModified d edits input a m coding f → InOutput d (OpensAlike e) a
    → InOutput d (λ s own. InOutput e (λ to set. set ≡ normal_front to own) a) a

-- by such a dictionary: after `-ea` no element has the tag, at any depth
abbrev pub ErasedAllBy : Type 0
ErasedAllBy =
    (d e : Dictionary) (edits : List Edit) (input : List ℕ) (a : Answer) (m : Meta) (coding : Coding) (f : Front)
    → IsModified d edits input a m coding f → InOutput d (OpensAlike e) a → (tag : Tag) → Among (erase_all tag) edits
    → InOutput e (λ s set. EverywhereIn (IsOther tag) set) a

-- after `-ep` no element is of an odd group
abbrev pub ErasedPrivateBy : Type 0
ErasedPrivateBy =
    (d e : Dictionary) (edits : List Edit) (input : List ℕ) (a : Answer) (m : Meta) (coding : Coding) (f : Front)
    → IsModified d edits input a m coding f → InOutput d (OpensAlike e) a → Among erase_private edits
    → InOutput e (λ s set. EverywhereIn IsPublic set) a

-- after `-ma` each element of the tag has the value as it is written
abbrev pub ModifiedAllBy : Type 0
ModifiedAllBy =
    (d e : Dictionary) (edits : List Edit) (input : List ℕ) (a : Answer) (m : Meta) (coding : Coding) (f : Front)
    → IsModified d edits input a m coding f → InOutput d (OpensAlike e) a → (tag : Tag) (vr : Vr) (value : List ℕ)
    → Among (modify_all tag vr value) edits → InOutput e (λ s set. EverywhereIn (IsWrittenJust s tag vr value) set) a

-- what the edits may not change is the normal form of what was read
abbrev pub OthersStayBy : Type 0
OthersStayBy =
    (d e : Dictionary) (edits : List Edit) (input : List ℕ) (a : Answer) (m : Meta) (coding : Coding) (f : Front)
    → IsModified d edits input a m coding f → KeepsSign (read_by e coding.syntax) edits → InOutput d (OpensAlike e) a
    → InOutput e (λ s set. set_without (any_changes edits) set ≡ set_without (any_changes edits) (normal_front s f)) a

-- an explicit output the extract opens alike
abbrev pub ExplicitOpensAlike : Type 0
ExplicitOpensAlike =
    (d : Dictionary) (edits : List Edit) (input : List ℕ) (a : Answer) (m : Meta) (coding : Coding) (f : Front)
    → IsModified d edits input a m coding f → is_explicit coding.syntax ≡ true → InOutput d (OpensAlike Extract) a

-- the output opens alike by the dictionary of the edits
abbrev pub OwnOpensAlike : Type 0
OwnOpensAlike =
    (d : Dictionary) (edits : List Edit) (input : List ℕ) (a : Answer) (m : Meta) (coding : Coding) (f : Front)
    → IsModified d edits input a m coding f → InOutput d (OpensAlike d) a

-- and by each one, if that is the standard
abbrev pub StandardOpensAlike : Type 0
StandardOpensAlike =
    (e : Dictionary) (edits : List Edit) (input : List ℕ) (a : Answer) (m : Meta) (coding : Coding) (f : Front)
    → IsModified Standard edits input a m coding f → InOutput Standard (OpensAlike e) a

-- by a dictionary from which the values of the output hide nothing: after `-ea` no element has the tag, at any depth
abbrev pub ErasedAllSeen : Type 0
ErasedAllSeen =
    (d e : Dictionary) (edits : List Edit) (input : List ℕ) (a : Answer) (m : Meta) (coding : Coding) (f : Front)
    → IsModified d edits input a m coding f → InOutput d (HidesNothing e) a → (tag : Tag) → Among (erase_all tag) edits
    → InWholeOutput e (λ s set. EverywhereIn (IsOther tag) set) a

-- after `-ep` no element is of an odd group
abbrev pub ErasedPrivateSeen : Type 0
ErasedPrivateSeen =
    (d e : Dictionary) (edits : List Edit) (input : List ℕ) (a : Answer) (m : Meta) (coding : Coding) (f : Front)
    → IsModified d edits input a m coding f → InOutput d (HidesNothing e) a → Among erase_private edits
    → InWholeOutput e (λ s set. EverywhereIn IsPublic set) a

-- they hide nothing from one that opens the output alike
abbrev pub AlikeHidesNothing : Type 0
AlikeHidesNothing =
    (d e : Dictionary) (edits : List Edit) (input : List ℕ) (a : Answer) (m : Meta) (coding : Coding) (f : Front)
    → IsModified d edits input a m coding f → InOutput d (OpensAlike e) a → InOutput d (HidesNothing e) a

-- the same edits again write the same bytes, unless one erases an item by its number
abbrev pub ModifiedTwice : Type 0
ModifiedTwice =
    (d : Dictionary) (edits : List Edit) (input : List ℕ) (a b : Answer) (m : Meta) (coding : Coding) (f : Front)
    → IsModified d edits input a m coding f → EraseByNoNumber edits → Answers (words.modify d edits) a.output b
    → (b.output ≡ a.output) × ((b.status ≡ DONE) ⊎ (b.status ≡ REMARK))

-- what dcmdeid writes of a file without fault is read without fault, by each dictionary
abbrev pub DeidentifiedReads : Type 0
DeidentifiedReads =
    (options : Options) (reports : Bool) (key input : List ℕ) (a : Answer) (m : Meta) (coding : Coding) (f : Front)
    (e : Dictionary) → IsTaken options reports key input a m coding f → ReadsTaken e options key a m coding f

-- and nothing that was taken is in it
abbrev pub OutputIsClean : Type 0
OutputIsClean =
    (options : Options) (reports : Bool) (key input : List ℕ) (a : Answer) (m : Meta) (coding : Coding) (f : Front)
    → IsTaken options reports key input a m coding f → InOutput Standard (λ s set. NothingIsLeft options key set) a

-- where unique identifiers are replaced, or the transfer syntax is not big endian, and the head of the file and its data
-- set named the same instance, they name the same one in the output, however the whole dictionary reads that
abbrev pub InstanceAgrees : Type 0
InstanceAgrees =
    (options : Options) (reports : Bool) (key input : List ℕ) (a : Answer) (m : Meta) (coding : Coding) (f : Front)
    → IsTaken options reports key input a m coding f → (options.uids ≡ false) ⊎ (is_big coding.syntax ≡ false)
    → instance_of_head m ≡ instance_of_set (whole_of f)
    → (n : Meta) (c : Coding) (set : Front) (stop : Stop)
    → FileReads (words.dump Standard Full None) a.output (file n c set stop)
    → instance_of_head n ≡ instance_of_set (whole_of set)

-- where no value is made anew, the same options again write the same bytes
abbrev pub DeidentifiedTwice : Type 0
DeidentifiedTwice =
    (options : Options) (reports : Bool) (key input : List ℕ) (a b : Answer) (m : Meta) (coding : Coding) (f : Front)
    → IsTaken options reports key input a m coding f → MakesNothingAnew options
    → Answers (words.deidentify options reports key) a.output b
    → (b.output ≡ a.output) × ((b.status ≡ DONE) ⊎ (b.status ≡ REMARK))

-- where dates alone are made anew: a run moves them by some days, one on its output moves them back, and one on the
-- output of that moves them by the same days again. It writes what the first one wrote
abbrev pub ThereAndBack : Type 0
ThereAndBack =
    (options : Options) (reports : Bool) (days : ℤ) (key input : List ℕ) (a b c : Answer) (m : Meta) (coding : Coding)
    (f : Front) → IsTaken (moving options days) reports key input a m coding f
    → MovesDatesAlone options → Answers (words.deidentify (moving options (neg_ℤ days)) reports key) a.output b
    → Answers (words.deidentify (moving options days) reports key) b.output c
    → (c.output ≡ a.output) × ((c.status ≡ DONE) ⊎ (c.status ≡ REMARK))
