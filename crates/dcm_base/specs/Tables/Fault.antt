-- Refusals: the number and the words by which each is told.
use Rattle.std.specs.Prelude.{ℕ, List, codes}
use Rattle.dcm_base.specs.declared.fault.Fault.{Fault}
use Rattle.dcm_base.specs.declared.fault.Fault.TheVariants as reading
use Rattle.dcm_base.specs.declared.fault.LineFault.{LineFault}
use Rattle.dcm_base.specs.declared.fault.LineFault.TheVariants as line
use Rattle.dcm_base.specs.declared.fault.EditRefusal.{EditRefusal}
use Rattle.dcm_base.specs.declared.fault.EditRefusal.TheVariants as edit
use Rattle.dcm_base.specs.declared.fault.WordFault.{WordFault}
use Rattle.dcm_base.specs.declared.fault.WordFault.TheVariants as word

-- why a file is refused
abbrev pub fault_number : Fault → List ℕ
fault_number reading.EndsEarly = codes "R1"
fault_number reading.NoPrefix = codes "R2"
fault_number reading.BadMeta = codes "R3"
fault_number reading.MetaTooLarge = codes "R4"
fault_number reading.NoTransferSyntax = codes "R5"
fault_number reading.Deflated = codes "R6"
fault_number reading.UnknownRepresentation = codes "R7"
fault_number reading.UndefinedLength = codes "R8"
fault_number reading.TagNotAllowed = codes "R9"
fault_number reading.PassesEnd = codes "R10"
fault_number reading.TooDeep = codes "R11"
fault_number reading.NotAscending = codes "R12"
fault_number reading.FragmentsBarred = codes "R13"
fault_number reading.CannotChange = codes "R14"
fault_number reading.TooLong = codes "R15"
fault_number reading.IdentityStays = codes "R16"
fault_number reading.NoPatientId = codes "R17"

abbrev pub fault_text : Fault → List ℕ
fault_text reading.EndsEarly = codes "input ends too early"
fault_text reading.NoPrefix = codes "no DICM prefix"
fault_text reading.BadMeta = codes "bad meta element"
fault_text reading.MetaTooLarge = codes "meta group too large"
fault_text reading.NoTransferSyntax = codes "no transfer syntax"
fault_text reading.Deflated = codes "deflated transfer syntax"
fault_text reading.UnknownRepresentation = codes "unknown value representation"
fault_text reading.UndefinedLength = codes "undefined length not allowed"
fault_text reading.TagNotAllowed = codes "tag not allowed here"
fault_text reading.PassesEnd = codes "passes the end of its container"
fault_text reading.TooDeep = codes "nested too deep"
fault_text reading.NotAscending = codes "tags not ascending"
fault_text reading.FragmentsBarred = codes "fragments not allowed in the target syntax"
fault_text reading.CannotChange = codes "encapsulated syntax cannot be changed"
fault_text reading.TooLong = codes "input too long"
fault_text reading.IdentityStays = codes "identity cannot be taken out"
fault_text reading.NoPatientId = codes "no usable PatientID"

-- why a line of a dump is refused, where it is built into a file
abbrev pub line_fault_number : LineFault → List ℕ
line_fault_number line.LineTooLong = codes "B1"
line_fault_number line.NotALine = codes "B2"
line_fault_number line.ValueDoesNotFit = codes "B3"
line_fault_number line.NotAllowed = codes "B4"
line_fault_number line.NotAscending = codes "B5"
line_fault_number line.BadMetaGroup = codes "B6"
line_fault_number line.NoTransferSyntax = codes "B7"
line_fault_number line.TooDeep = codes "B8"
line_fault_number line.EndsEarly = codes "B9"
line_fault_number line.ByCharacters = codes "B10"
line_fault_number line.TooLong = codes "R15"

abbrev pub line_fault_text : LineFault → List ℕ
line_fault_text line.LineTooLong = codes "line too long"
line_fault_text line.NotALine = codes "not a dump line"
line_fault_text line.ValueDoesNotFit = codes "value does not fit"
line_fault_text line.NotAllowed = codes "not allowed here"
line_fault_text line.NotAscending = codes "tags not ascending"
line_fault_text line.BadMetaGroup = codes "bad meta group"
line_fault_text line.NoTransferSyntax = codes "no usable transfer syntax"
line_fault_text line.TooDeep = codes "nested too deep"
line_fault_text line.EndsEarly = codes "input ends too early"
line_fault_text line.ByCharacters = codes "a dump by characters"
line_fault_text line.TooLong = codes "input too long"

-- why an edit is refused
abbrev pub edit_refusal_number : EditRefusal → List ℕ
edit_refusal_number edit.BadOption = codes "U1"
edit_refusal_number edit.UnknownTag = codes "U2"
edit_refusal_number edit.ValueDoesNotFit = codes "U3"
edit_refusal_number edit.SequenceMisused = codes "U4"
edit_refusal_number edit.MetaGroup = codes "U5"
edit_refusal_number edit.Overlap = codes "U6"
edit_refusal_number edit.TooMany = codes "U7"

abbrev pub edit_refusal_text : EditRefusal → List ℕ
edit_refusal_text edit.BadOption = codes "bad option or path"
edit_refusal_text edit.UnknownTag = codes "unknown tag"
edit_refusal_text edit.ValueDoesNotFit = codes "value does not fit"
edit_refusal_text edit.SequenceMisused = codes "sequence misused"
edit_refusal_text edit.MetaGroup = codes "group 0002 cannot be edited"
edit_refusal_text edit.Overlap = codes "edits overlap"
edit_refusal_text edit.TooMany = codes "too many edits"

-- why the words of a command line are refused
abbrev pub word_fault_number : WordFault → List ℕ
word_fault_number word.UnknownTool = codes "V1"
word_fault_number word.UnknownOption = codes "V2"
word_fault_number word.BadOptionValue = codes "V3"
word_fault_number word.WrongPaths = codes "V4"
word_fault_number word.OptionsApart = codes "V5"
word_fault_number word.SamePath = codes "V6"
word_fault_number word.BadKey = codes "V7"
word_fault_number word.NoKey = codes "V10"
word_fault_number word.ReadTwice = codes "V11"

abbrev pub word_fault_text : WordFault → List ℕ
word_fault_text word.UnknownTool = codes "unknown tool"
word_fault_text word.UnknownOption = codes "unknown option"
word_fault_text word.BadOptionValue = codes "bad option value"
word_fault_text word.WrongPaths = codes "wrong number of paths"
word_fault_text word.OptionsApart = codes "options do not go together"
word_fault_text word.SamePath = codes "input and output are the same path"
word_fault_text word.BadKey = codes "key is not 16 to 4096 bytes"
word_fault_text word.NoKey = codes "a key is needed"
word_fault_text word.ReadTwice = codes "standard input cannot be read twice"
