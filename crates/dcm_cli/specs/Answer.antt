-- What a run answers: the output, the lines on standard error, and the status.
use Rattle.std.specs.Prelude.{◌≡◌, ℕ, zero, suc, ◌+◌, ◌<◌, ◌≤◌, Bool, true, false, List, [], ◌∷◌, ◌++◌, length, drop}
use Rattle.std.specs.Prelude.{codes, decimal, Option, Some, None, if◌then◌else◌, ◌&&◌}
use Rattle.dcm_base.specs.declared.syntax.Syntax.{Syntax}
use Rattle.dcm_base.specs.declared.syntax.Coding.{Coding}
use Rattle.dcm_base.specs.declared.fault.Fault.{Fault}
use Rattle.dcm_base.specs.declared.fault.Fault.TheVariants.{CannotChange}
use Rattle.dcm_base.specs.Tree.Front.{Front, front}
use Rattle.dcm_base.specs.Reading.Stop.{Stop, complete, refused, Bar, is_undecided}
use Rattle.dcm_base.specs.Reading.Reads.{INPUT_LIMIT, Reads}
use Rattle.dcm_base.specs.Reading.Bars.{no_bar, ascending_bar, identity_bar, target_bar}
use Rattle.dcm_base.specs.File.MetaReads as meta
use Rattle.dcm_base.specs.File.MetaReads.{Meta, MetaReads, PREFIX}
use Rattle.dcm_base.specs.Conversion.NewMeta.{new_meta}
use Rattle.dcm_base.specs.Dump.Header.{set_header, meta_header}
use Rattle.dcm_base.specs.Dump.Dump.{dump_front}
use Rattle.dcm_sinks.specs.DecodedDump.{decoded_front}
use Rattle.dcm_sinks.specs.DecodedHeader.{decoded_meta_header, decoded_set_header, decoded_alone_header}
use Rattle.dcm_sinks.specs.InForce.{EMPTY}
use Rattle.dcm_base.specs.Conversion.Recode.{recode}
use Rattle.dcm_head.specs.SyntaxUids.{uid_of_syntax}
use Rattle.dcm_edits.specs.Edit.{Edit, edited, found}
use Rattle.dcm_base.specs.Tables.Fault.{fault_number, fault_text, line_fault_number, line_fault_text}
use Rattle.dcm_base.specs.Lines.Build as build
use Rattle.dcm_base.specs.declared.fault.LineStop.{LineStop}
use Rattle.dcm_base.specs.Tables.Syntax.{dictionary_of, read_by, coding_by}
use Rattle.dcm_base.specs.declared.mode.Mode.{Mode}
use Rattle.dcm_base.specs.declared.dictionary.Dictionary.{Dictionary}
use Rattle.dcm_base.specs.declared.dictionary.Dictionary.TheVariants.{Extract, Standard}
use Rattle.dcm_deid.specs.MadeNew.{made_new}
use Rattle.dcm_deid.specs.declared.fate.Options.{Options}
use Rattle.dcm_deid.specs.Meta.{meta_without_identity}
use Rattle.dcm_deid.specs.Pixels.{may_show}
use Rattle.dcm_deid.specs.Saying.{deidentified, whole_of}
use Rattle.dcm_words.specs.Words.{Job, dump, dump_decoded, dump_named, Named, convert, build as building, modify, deidentify}
use Rattle.dcm_words.specs.declared.job.Texts.{Texts}
use Rattle.dcm_words.specs.declared.job.Texts.TheVariants.{Bytes, Characters}
use Rattle.dcm_named.specs.Laws.{asked}
use Rattle.dcm_named.specs.Named.{Asked, Texts as NamedTexts, by_bytes, by_characters, named_set, named_front}
use Rattle.dcm_cli.specs.ErrorLines.{error_line, pixels_line, unplaced_line}
use Rattle.dcm_cli.specs.Remarks.{remark_lines, remarks_at}
use Rattle.dcm_cli.specs.Status.{DONE, FAULT, REMARK}

-- an answer
pub record Answer : Type 0 where
  pub output : List ℕ
  pub lines : List ℕ
  pub status : ℕ

-- ---- how an input is read

-- refused before its data set, a data set after a meta group, or a data set alone
pub data Source : Type 0 where
  unopened : (fault : Fault) (offset : ℕ) → Source
  file : (meta : Meta) (coding : Coding) (set : Front) (stop : Stop) → Source
  alone : (syntax : Syntax) (set : Front) (stop : Stop) → Source

-- what a conversion writes, by the dictionary of the input
abbrev pub target_syntax : Option Syntax → Coding → Syntax
target_syntax None coding = coding.syntax
target_syntax (Some syntax) coding = read_by (dictionary_of coding.syntax) syntax

-- the dictionary that a job reads with; lines name their representations
abbrev pub job_dictionary : Job → Dictionary
job_dictionary (dump d mode bare) = d
job_dictionary (dump_decoded d mode bare) = d
job_dictionary (dump_named texts d mode bare named) = d
job_dictionary (convert d target) = d
job_dictionary (building limit) = Extract
job_dictionary (modify d edits) = d
job_dictionary (deidentify options reports key) = Standard

-- the unique identifier of the transfer syntax that a conversion writes
abbrev pub target_uid : Option Syntax → Meta → List ℕ
target_uid None m = m.uid
target_uid (Some syntax) m = uid_of_syntax syntax

-- what a tool bars of itself
abbrev pub job_bar : Job → Coding → Bar
job_bar (convert d target) coding = target_bar (target_syntax target coding)
job_bar (modify d edits) coding = ascending_bar
job_bar (deidentify options reports key) coding = identity_bar
job_bar _ coding = no_bar

-- an encapsulated file keeps its transfer syntax
abbrev pub refuses_change : Job → Coding → Bool
refuses_change (convert d (Some syntax)) coding = coding.encapsulated
refuses_change _ coding = false

-- a data set begins after the preamble, the prefix and the group
abbrev pub set_at : List ℕ → ℕ
set_at group = 132 + length group

-- the head of a file: its meta elements, its group, and the coding that the group names, read by a dictionary
pub record HeadIs (d : Dictionary) (bytes : List ℕ) (m : Meta) (group : List ℕ) (coding : Coding) : Type 0 where
  pub named : Coding
  pub head : MetaReads bytes (meta.begins m group named)
  pub coding_is : coding ≡ coding_by d named

-- how a file is read for a job
pub data FileReads (job : Job) (bytes : List ℕ) (source : Source) : Type 0 where
  not_opened : (fault : Fault) (offset : ℕ) → MetaReads bytes (meta.refused fault offset)
      → source ≡ unopened fault offset → FileReads job bytes source
  not_changed : (m : Meta) (group : List ℕ) (coding : Coding) → HeadIs (job_dictionary job) bytes m group coding
      → refuses_change job coding ≡ true
      → source ≡ unopened CannotChange (set_at group) → FileReads job bytes source
  opened : (m : Meta) (group : List ℕ) (coding : Coding) (set : Front) (stop : Stop)
      → HeadIs (job_dictionary job) bytes m group coding → refuses_change job coding ≡ false
      → Reads (job_bar job coding) coding.syntax (set_at group) (drop (set_at group) bytes) set stop
      → source ≡ file m coding set stop → FileReads job bytes source

-- a data set alone
pub record AloneReads (syntax : Syntax) (bytes : List ℕ) (source : Source) : Type 0 where
  pub set : Front
  pub stop : Stop
  pub reads : Reads no_bar syntax 0 bytes set stop
  pub source_is : source ≡ alone syntax set stop

-- how an input is read for a job
abbrev pub InputReads : Job → List ℕ → Source → Type 0
InputReads (dump d mode (Some syntax)) bytes source = AloneReads (read_by d syntax) bytes source
InputReads (dump_decoded d mode (Some syntax)) bytes source = AloneReads (read_by d syntax) bytes source
InputReads (dump_named texts d mode (Some syntax) named) bytes source = AloneReads (read_by d syntax) bytes source
InputReads job bytes source = FileReads job bytes source

-- ---- what is written of it

-- of named elements, by how texts are shown
abbrev pub texts_named : Texts → NamedTexts
texts_named Bytes = by_bytes
texts_named Characters = by_characters

abbrev pub asked_of : Texts → Dictionary → Mode → Named → Asked
asked_of texts d mode named = asked (texts_named texts) named.tags named.ways d mode

-- a file in a transfer syntax
abbrev pub written_file : List ℕ → Syntax → Meta → Front → List ℕ
written_file uid syntax m set = m.preamble ++ PREFIX ++ new_meta m.elements uid ++ recode syntax set

-- what a job writes of a file
abbrev pub file_output : Job → Meta → Coding → Front → List ℕ
file_output (dump d mode bare) m coding set = meta_header d mode m.elements ++ set_header m.uid
    ++ dump_front d mode 0 set
file_output (dump_decoded d mode bare) m coding set = decoded_meta_header d mode m.elements ++ decoded_set_header m.uid
    ++ decoded_front d mode EMPTY 0 set
file_output (dump_named texts d mode bare named) m coding set =
    named_set (asked_of texts d mode named) EMPTY [] m.elements ++ named_front (asked_of texts d mode named) EMPTY [] set
file_output (convert d target) m coding set = written_file (target_uid target m) (target_syntax target coding) m set
file_output (modify d edits) m coding set = written_file m.uid coding.syntax m (edited edits set)
file_output (deidentify options reports key) m coding set =
    written_file m.uid coding.syntax (meta_without_identity options key m) (deidentified options (made_new options key) set)
file_output (building limit) m coding set = []

-- of a data set alone
abbrev pub alone_output : Job → Syntax → Front → List ℕ
alone_output (dump d mode bare) syntax set = set_header (uid_of_syntax syntax) ++ dump_front d mode 0 set
alone_output (dump_decoded d mode bare) syntax set = decoded_alone_header (uid_of_syntax syntax)
    ++ decoded_front d mode EMPTY 0 set
alone_output (dump_named texts d mode bare named) syntax set = named_front (asked_of texts d mode named) EMPTY [] set
alone_output _ syntax set = []

-- of an input, by how it was read
abbrev pub output_of : Job → Source → List ℕ
output_of job (unopened fault offset) = []
output_of job (file m coding set stop) = file_output job m coding set
output_of job (alone syntax set stop) = alone_output job syntax set

-- ---- the lines that report it

-- a fault at this offset
abbrev pub reading_line : Fault → ℕ → List ℕ
reading_line fault offset = error_line (fault_number fault ++ codes " at byte " ++ decimal offset ++ codes ": "
    ++ fault_text fault)

-- each edit that found no place, from number n on
abbrev pub unplaced_lines : ℕ → List Edit → Front → List ℕ
unplaced_lines n [] set = []
unplaced_lines n (e ∷ edits) set =
    let more = unplaced_lines (suc n) edits set in
    if found e set then more else unplaced_line n ++ more

-- the edits of a job
abbrev pub edits_of : Job → List Edit
edits_of (modify d edits) = edits
edits_of _ = []

-- whether what is written of a data set says that its pixels may show identity
abbrev pub shows_identity : Options → (key : List ℕ) → Front → Bool
shows_identity options key set = may_show (whole_of (deidentified options (made_new options key) set))

-- what is reported where all was done
abbrev pub done_lines : Job → Front → List ℕ
done_lines (deidentify options reports key) set =
    if reports && shows_identity options key set then pixels_line else []
done_lines job set = unplaced_lines 1 (edits_of job) set

-- and the status
abbrev pub status_of_lines : List ℕ → ℕ
status_of_lines [] = DONE
status_of_lines (c ∷ cs) = REMARK

-- the lines, by why reading stopped
abbrev pub stop_line : Job → Front → Stop → List ℕ
stop_line job set complete = done_lines job set
stop_line job set (refused fault offset) = reading_line fault offset

-- and the status
abbrev pub stop_status : Job → Front → Stop → ℕ
stop_status job set complete = status_of_lines (done_lines job set)
stop_status job set (refused fault offset) = FAULT

-- the answer to an input, by how it was read
abbrev pub answer : Job → Source → Answer
answer job (unopened fault offset) = record { output = []; lines = reading_line fault offset; status = FAULT }
answer job (file m coding set stop) = record {
  output = output_of job (file m coding set stop);
  lines = remark_lines (remarks_at job set) ++ stop_line job set stop;
  status = stop_status job set stop;
}
answer job (alone syntax set stop) = record {
  output = output_of job (alone syntax set stop);
  lines = remark_lines (remarks_at job set) ++ stop_line job set stop;
  status = stop_status job set stop;
}

-- ---- lines of a dump that are built into a file

-- a fault that is no line's has no number of a line
abbrev pub line_place : ℕ → List ℕ
line_place zero = []
line_place (suc n) = codes ", line " ++ decimal (suc n)

-- why lines are refused: the fault, its offset, and the number of the line
abbrev pub building_line : LineStop → List ℕ
building_line t = error_line (line_fault_number t.fault ++ codes " at byte " ++ decimal t.offset ++ line_place t.line
    ++ codes ": " ++ line_fault_text t.fault)

-- the answer to lines that were built
abbrev pub built_answer : build.Progress → Answer
built_answer p = elim p.told [
  | None ↦ record { output = build.built_bytes p.built; lines = []; status = DONE }
  | Some t ↦ record { output = build.built_bytes p.built; lines = building_line t; status = FAULT }
]

-- ---- answers

-- what a run of a job on an input answers
pub record ReadAnswers (job : Job) (bytes : List ℕ) (a : Answer) : Type 0 where
  pub source : Source
  pub reads : InputReads job bytes source
  pub answer_is : a ≡ answer job source

-- an answer of a job to an input
abbrev pub Answers : Job → List ℕ → Answer → Type 0
Answers (building limit) bytes a = a ≡ built_answer (build.built limit bytes)
Answers job bytes a = ReadAnswers job bytes a

-- ---- what is sure of a beginning

-- what was read of a data set that goes on
abbrev pub going_on : Front → Front
going_on (front whole open_tree reached closed) = front whole open_tree reached false

-- of a beginning of a file: nothing until two bytes have ended its meta group
pub data FileSure (job : Job) (p out : List ℕ) : Type 0 where
  before_set : (a : meta.MetaAnswer) → MetaReads p a → meta.is_undecided (length p) a ≡ true → out ≡ []
      → FileSure job p out
  within_set : (m : Meta) (group : List ℕ) (coding : Coding) (set : Front) (stop : Stop)
      → HeadIs (job_dictionary job) p m group coding → set_at group < length p → refuses_change job coding ≡ false
      → Reads (job_bar job coding) coding.syntax (set_at group) (drop (set_at group) p) set stop
      → is_undecided (Some stop) ≡ true
      → out ≡ file_output job m coding (going_on set) → FileSure job p out

-- of a beginning of a data set alone the header is written from the start
pub record AloneSure (job : Job) (syntax : Syntax) (p out : List ℕ) : Type 0 where
  pub set : Front
  pub stop : Stop
  pub reads : Reads no_bar syntax 0 p set stop
  pub open_end : is_undecided (Some stop) ≡ true
  pub out_is : out ≡ alone_output job syntax (going_on set)

-- of lines: those that a newline has ended, none at fault and the last not past the limit
pub record LinesSure (limit : ℕ) (p out : List ℕ) : Type 0 where
  pub within : length p ≤ INPUT_LIMIT
  pub no_fault : (build.built_by limit (build.lines_of p).ended).told ≡ None
  pub short : length (build.lines_of p).rest ≤ limit
  pub out_is : out ≡ build.written_so_far limit p

-- what is written after p, where more bytes can still change how its reading ends
abbrev pub Sure : Job → List ℕ → List ℕ → Type 0
Sure (building limit) p out = LinesSure limit p out
Sure (dump d mode (Some syntax)) p out = AloneSure (dump d mode (Some syntax)) (read_by d syntax) p out
Sure (dump_decoded d mode (Some syntax)) p out = AloneSure (dump_decoded d mode (Some syntax)) (read_by d syntax) p out
Sure (dump_named texts d mode (Some syntax) named) p out =
    AloneSure (dump_named texts d mode (Some syntax) named) (read_by d syntax) p out
Sure job p out = FileSure job p out
