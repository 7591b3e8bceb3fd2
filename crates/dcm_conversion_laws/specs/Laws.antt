-- The statements of the laws.
use Rattle.std.specs.Prelude.{◌≡◌, ◌⊎◌, ◌≤◌, ℕ, List, Ok, Option, Some, true}
use Rattle.dcm_base.specs.declared.dictionary.Dictionary.{Dictionary}
use Rattle.dcm_base.specs.declared.dictionary.Dictionary.TheVariants.{Extract}
use Rattle.dcm_base.specs.declared.mode.Mode.{Mode}
use Rattle.dcm_base.specs.declared.syntax.Coding.{Coding}
use Rattle.dcm_base.specs.declared.syntax.Syntax.{Syntax}
use Rattle.dcm_base.specs.Conversion.Normal.{normal}
use Rattle.dcm_base.specs.Conversion.Recode.{is_explicit, recode, recode_set}
use Rattle.dcm_base.specs.File.MetaReads.{Meta}
use Rattle.dcm_base.specs.Reading.Bars.{ascending_bar, target_bar}
use Rattle.dcm_base.specs.Reading.Reads.{INPUT_LIMIT, Reads}
use Rattle.dcm_base.specs.Reading.Stop.{Stop, complete}
use Rattle.dcm_base.specs.Tables.Syntax.{is_big, read_by}
use Rattle.dcm_base.specs.Tree.Front.{Front}
use Rattle.dcm_base.specs.Tree.Tree.{Trees}
use Rattle.dcm_sinks.specs.Conversion.{Converts}
use Rattle.dcm_edits.specs.Edit.{Edit}
use Rattle.dcm_edits.specs.EditWords.{meant_edits_in}
use Rattle.dcm_words.specs.Words.{convert, dump, modify}
use Rattle.dcm_cli.specs.Answer.{Answer, Answers, InputReads, Source, output_of, target_syntax}
use Rattle.dcm_run_laws.specs.ReadsAgain.{IsConverted}
use Rattle.dcm_cli.specs.Status.{DONE}
use Rattle.dcm_conversion_laws.specs.Agree.{FrontSays, LinesSo, SourceSays, StopsSo}
use Rattle.dcm_conversion_laws.specs.Detour.{AreEven, FrontKeeps, KeepsForms}

-- the normal form of a data set in one syntax is converted to another as the data set is, where no form is lost
abbrev pub SetsCompose : Type 0
SetsCompose =
    (way target : Syntax) (set : Trees) → KeepsForms way target set
    → recode_set target (normal way set) ≡ recode_set target set

-- so it is with what was read without fault, for the one syntax and for the other, and read again of what was converted
abbrev pub FrontsCompose : Type 0
FrontsCompose =
    (s way target : Syntax) (start at : ℕ) (bytes : List ℕ) (f g h : Front) → Converts way s start at bytes f
    → Reads (target_bar target) way at (recode way f) g complete
    → Reads (target_bar target) s start bytes h complete → FrontKeeps way target f → recode target g ≡ recode target h

-- and with files: dcmconv on the output of dcmconv writes what it writes of the input, where both are without fault
abbrev pub FilesCompose : Type 0
FilesCompose =
    (d : Dictionary) (way : Option Syntax) (target : Syntax) (input : List ℕ) (a b c : Answer) (m : Meta)
    (coding : Coding) (f : Front) → IsConverted d way input a m coding f
    → FrontKeeps (target_syntax way coding) (target_syntax (Some target) coding) f
    → Answers (convert d (Some target)) a.output b → Answers (convert d (Some target)) input c
    → b.status ≡ DONE → c.status ≡ DONE → b.output ≡ c.output

-- an explicit way loses no form of a data set, where the order of bytes is that of the target, or no value is odd
abbrev pub ExplicitKeeps : Type 0
ExplicitKeeps =
    (way target : Syntax) (set : Trees) → is_explicit way ≡ true → (is_big way ≡ is_big target) ⊎ AreEven set
    → KeepsForms way target set

-- what the extract reads of explicit bytes, to their end or to a fault, another dictionary reads so too: the same
-- elements, and the same fault at the same offset, where what was read says of itself what it holds
abbrev pub ReadingsAgree : Type 0
ReadingsAgree =
    (e : Dictionary) (target s : Syntax) (start : ℕ) (bytes : List ℕ) (f : Front) (stop : Stop)
    → start ≤ INPUT_LIMIT → is_explicit s ≡ true
    → Reads (target_bar target) (read_by Extract s) start bytes f stop → FrontSays e f
    → Reads (target_bar target) (read_by e s) start bytes f stop

-- so it is where tags have to ascend, but for the fault of an unknown head that is too deep
abbrev pub AscendingAgree : Type 0
AscendingAgree =
    (e : Dictionary) (s : Syntax) (start : ℕ) (bytes : List ℕ) (f : Front) (stop : Stop) → start ≤ INPUT_LIMIT
    → is_explicit s ≡ true → Reads ascending_bar (read_by Extract s) start bytes f stop → FrontSays e f
    → (other : Stop) × Reads ascending_bar (read_by e s) start bytes f other × StopsSo stop other

-- dcmconv has the same output, lines and status by each dictionary, of each input
abbrev pub ConvertersAgree : Type 0
ConvertersAgree =
    (e : Dictionary) (target : Option Syntax) (input : List ℕ) (source : Source) (a b : Answer)
    → InputReads (convert Extract target) input source → SourceSays e source
    → Answers (convert Extract target) input a → Answers (convert e target) input b → b ≡ a

-- dcmdump has the same lines and status; its output is that of the same reading, with the keywords of the dictionary
abbrev pub DumpsAgree : Type 0
DumpsAgree =
    (e : Dictionary) (mode : Mode) (bare : Option Syntax) (input : List ℕ) (source : Source) (a b : Answer)
    → InputReads (dump Extract mode bare) input source → SourceSays e source
    → Answers (dump Extract mode bare) input a → Answers (dump e mode bare) input b
    → (b.lines ≡ a.lines) × (b.status ≡ a.status) × (b.output ≡ output_of (dump e mode bare) source)

-- the words of edits that the extract takes mean the same by each dictionary
abbrev pub EditsAgree : Type 0
EditsAgree =
    (e : Dictionary) (words : List (List ℕ)) (edits : List Edit)
    → meant_edits_in Extract words ≡ Ok edits → meant_edits_in e words ≡ Ok edits

-- with the same edits dcmodify has the same output and status, and the same lines but for the fault of an unknown head
-- that is too deep
abbrev pub ModifiersAgree : Type 0
ModifiersAgree =
    (e : Dictionary) (edits : List Edit) (input : List ℕ) (source : Source) (a b : Answer)
    → InputReads (modify Extract edits) input source → SourceSays e source
    → Answers (modify Extract edits) input a → Answers (modify e edits) input b
    → (b.output ≡ a.output) × (b.status ≡ a.status) × LinesSo a b
