-- What a run over memory leaves, where there is room for the answer, and what words come to over files in memory.
use Rattle.std.specs.Prelude.{◌≡◌, ◌≤◌, ◌⊎◌, ◌==◌, ◌||◌, ◌&&◌, not, nat_le, nat_lt, ℕ, List, [], ◌++◌, length, bytes_eq}
use Rattle.std.specs.Prelude.{if◌then◌else◌, Bool, true, false, Option, None, Some, Result, Ok, Err}
use Rattle.std.specs.Option.{option_map, option_or, is_some}
use Rattle.std.specs.Str.{is_utf8}
use Rattle.dcm_files.specs.Devices.{standard}
use Rattle.dcm_files.specs.Memory.{file_named}
use Rattle.dcm_files.specs.declared.memory.MemFile.{MemFile}
use Rattle.dcm_files.specs.Part.{part_of, is_short}
use Rattle.dcm_files.specs.declared.memory.MemSystem.{MemSystem}
use Rattle.dcm_files.specs.declared.opened.Unopened.{Unopened}
use Rattle.dcm_files.specs.declared.opened.Unopened.TheVariants.{Output as OfOutput, Same, There, Part}
use Rattle.dcm_devices.specs.Memory.{written, room_of}
use Rattle.dcm_devices.specs.declared.memory.MemOut.{MemOut}
use Rattle.dcm_words.specs.declared.topic.Topic.{Topic}
use Rattle.dcm_words.specs.Topics.{asked, text}
use Rattle.dcm_words.specs.declared.usage.Usage.{Usage}
use Rattle.dcm_words.specs.declared.usage.Usage.TheVariants.{Memory}
use Rattle.dcm_words.specs.Words.{Job, Plan, meant, deidentify, with_days}
use Rattle.dcm_words.specs.Plans.{takes_memory}
use Rattle.dcm_deid.specs.declared.fate.Options.{Options}
use Rattle.dcm_cli.specs.declared.days.NoDays.{NoDays}
use Rattle.dcm_cli.specs.declared.days.NoDays.TheVariants as no_days
use Rattle.dcm_cli.specs.declared.first.FirstEnd.{FirstEnd}
use Rattle.dcm_cli.specs.declared.first.FirstEnd.TheVariants as ends
use Rattle.dcm_cli.specs.declared.key.NoKey.{NoKey}
use Rattle.dcm_cli.specs.declared.key.NoKey.TheVariants as causes
use Rattle.dcm_cli.specs.Days.{no_days_line, no_days_status}
use Rattle.dcm_cli.specs.First.{FirstReads}
use Rattle.dcm_cli.specs.Keys.{LEAST_OF_KEY, MOST_OF_KEY, no_key_line, no_key_status}
use Rattle.dcm_cli.specs.Answer.{Answer, Answers}
use Rattle.dcm_cli.specs.ErrorLines.{usage_line, usage_status, open_line}
use Rattle.dcm_cli.specs.Program.{unopened_line, unopened_status}
use Rattle.dcm_cli.specs.Status.{DEVICE, DONE}

-- all of the output, the status, and the lines where there is room for them
pub record LeavesAnswer (a : Answer) (out_before out_after errors_before errors_after : MemOut)
    (status : ℕ) : Type 0 where
  pub output : written out_after ≡ written out_before ++ a.output
  pub lines : length a.lines ≤ room_of errors_before → written errors_after ≡ written errors_before ++ a.lines
  pub status_is : status ≡ a.status

-- of an input, where the output had not failed and has room for the answer
abbrev pub LeavesAnswers : Job → (input : List ℕ) → (out_before out_after errors_before errors_after : MemOut)
    → (status : ℕ) → Type 0
LeavesAnswers job input out_before out_after errors_before errors_after status =
    out_before.failed ≡ false → (a : Answer) → Answers job input a → length a.output ≤ room_of out_before
    → LeavesAnswer a out_before out_after errors_before errors_after status

-- ---- what words come to over files

-- what becomes of the output
pub data Output : Type 0 where
  -- none is opened
  no_output : Output
  -- it takes these bytes
  holds : (bytes : List ℕ) → Output
  -- it takes these bytes, and is removed
  removed : (bytes : List ℕ) → Output

-- what becomes of the output; the lines on standard error; and the status
pub record Outcome : Type 0 where
  pub output : Output
  pub lines : List ℕ
  pub status : ℕ

-- what can be read at a path: standard input, or the first file of that name, where the path is a text
abbrev pub bytes_at : MemSystem → (path : List ℕ) → Option (List ℕ)
bytes_at s path =
    if bytes_eq path standard then Some s.stdin.now
    else if is_utf8 path then option_map (λ f. f.bytes.now) (file_named s.files.now path)
    else None

-- the number of the file at a path, if there is one
abbrev pub number_at : MemSystem → (path : List ℕ) → Option ℕ
number_at s path = if bytes_eq path standard then None else option_map (λ f. f.number) (file_named s.files.now path)

-- two paths are of one file
abbrev pub is_one_file : Option ℕ → Option ℕ → Bool
is_one_file (Some n) (Some m) = n == m
is_one_file _ _ = false

-- a text is shown
abbrev pub shown : Topic → Outcome
shown topic = record { output = holds (text topic); lines = []; status = DONE }

-- nothing is opened
abbrev pub refused : Usage → Outcome
refused u = record { output = no_output; lines = usage_line u; status = usage_status u }

-- the input cannot be opened
abbrev pub not_opened : Outcome
not_opened = record { output = no_output; lines = open_line false; status = DEVICE }

-- a job was answered
abbrev pub answered : Answer → Outcome
answered a = record { output = holds a.output; lines = a.lines; status = a.status }

-- whether the file at a path holds bytes
abbrev pub holds_bytes : Option MemFile → Bool
holds_bytes None = false
holds_bytes (Some f) = nat_lt 0 (length f.bytes.now)

-- why a file at the path of an output is not written, if it is not: it is the input
abbrev pub of_input : (is_input : Bool) → Option Unopened
of_input is_input = if is_input then Some Same else None

-- or it holds bytes, and is not to be overwritten
abbrev pub stays : (overwrites : Bool) → Option MemFile → Option Unopened
stays overwrites file = if holds_bytes file && not overwrites then Some There else None

-- why an output is not opened, if it is not: standard output is, and so is a path that is a text, unless one of these
-- bars it, the first before the second
abbrev pub unopened : MemSystem → Plan → Option Unopened
unopened s p =
    if bytes_eq p.output standard then None
    else if is_utf8 p.output
    then option_or (of_input (is_one_file (number_at s p.input) (number_at s p.output)))
    (stays p.overwrites (file_named s.files.now p.output))
    else Some OfOutput

-- an output cannot be opened, or is not
abbrev pub not_begun : Unopened → Outcome
not_begun why = record { output = no_output; lines = unopened_line why; status = unopened_status why }

-- what a job comes to, by the input if it can be read, and by why the output is not opened, if it is not
abbrev pub JobComes : (input : Option (List ℕ)) → (why : Option Unopened) → Job → Outcome → Type 0
JobComes None why job o = o ≡ not_opened
JobComes (Some bytes) (Some why) job o = o ≡ not_begun why
JobComes (Some bytes) None job o = (a : Answer) × Answers job bytes a × (o ≡ answered a)

-- ---- identity taken out of a file

-- the key, by the bytes at its path if they can be read; or why there is none
abbrev pub key_of : Option (List ℕ) → Result (List ℕ) NoKey
key_of None = Err causes.Unopened
key_of (Some bytes) =
    if nat_le LEAST_OF_KEY (length bytes) && nat_le (length bytes) MOST_OF_KEY then Ok bytes else Err causes.Size

-- there is no key
abbrev pub without_key : NoKey → Outcome
without_key cause = record { output = no_output; lines = no_key_line cause; status = no_key_status cause }

-- the number of the file of a key, if a plan names one
abbrev pub key_number : MemSystem → (key : Option (List ℕ)) → Option ℕ
key_number s None = None
key_number s (Some path) = number_at s path

-- whether its part is there
abbrev pub has_part : MemSystem → (output : List ℕ) → Bool
has_part s output = is_some (file_named s.files.now (part_of output))

-- why a file at the path of such an output is not replaced, if it is not: it is the key
abbrev pub of_key : (is_key : Bool) → Option Unopened
of_key is_key = if is_key then Some OfOutput else None

-- why its part is not made, if it is not: its path is too long, or it is there
abbrev pub without_part : MemSystem → (output : List ℕ) → Option Unopened
without_part s output = if is_short output then (if has_part s output then Some Part else None) else Some OfOutput

-- why an output that has its name only once it is whole cannot be written, if it cannot: standard output can, and so can
-- a path that is a text, unless one of these bars it, each before the next
abbrev pub unwritten : MemSystem → Plan → Option Unopened
unwritten s p =
    if bytes_eq p.output standard then None
    else if is_utf8 p.output
    then option_or
    (option_or (of_input (is_one_file (number_at s p.input) (number_at s p.output)))
    (option_or (of_key (is_one_file (key_number s p.key) (number_at s p.output)))
    (stays p.overwrites (file_named s.files.now p.output))))
    (without_part s p.output)
    else Some OfOutput

-- its job was answered: it is left where all was done, and standard output always; else it is removed
abbrev pub ended : (is_stream : Bool) → Answer → Outcome
ended is_stream a = record {
  output = if is_stream || a.status == DONE then holds a.output else removed a.output;
  lines = a.lines;
  status = a.status;
}

-- what a job comes to, by the input if it can be read, and by why such an output cannot be written, if it cannot
abbrev pub WholeComes : (input : Option (List ℕ)) → (why : Option Unopened) → (is_stream : Bool) → Job → Outcome
    → Type 0
WholeComes None why is_stream job o = o ≡ not_opened
WholeComes (Some bytes) (Some why) is_stream job o = o ≡ not_begun why
WholeComes (Some bytes) None is_stream job o = (a : Answer) × Answers job bytes a × (o ≡ ended is_stream a)

-- over the files of a plan
abbrev pub WholeAt : MemSystem → Plan → Job → Outcome → Type 0
WholeAt s p job o = WholeComes (bytes_at s p.input) (unwritten s p) (bytes_eq p.output standard) job o

-- there are no days
abbrev pub without_days : NoDays → Outcome
without_days cause = record { output = no_output; lines = no_days_line cause; status = no_days_status cause }

-- what the taking of identity comes to, by how the first reading ends
abbrev pub DaysCome : FirstEnd → MemSystem → Plan → Options → (reports : Bool) → (key : List ℕ) → Outcome → Type 0
DaysCome (ends.Days days) s p options reports key o = WholeAt s p (deidentify (with_days options days) reports key) o
DaysCome (ends.Refused stop) s p options reports key o = o ≡ without_days (no_days.Refused stop)
DaysCome (ends.Unread count) s p options reports key o = o ≡ without_days (no_days.Unread count)

-- by the input if it can be read, and by the number of its file: what is no file is not read twice
abbrev pub FirstComes : (input : Option (List ℕ)) → (number : Option ℕ) → MemSystem → Plan → Options
    → (reports : Bool) → (key : List ℕ) → Outcome → Type 0
FirstComes None number s p options reports key o = o ≡ without_days no_days.Unopened
FirstComes (Some bytes) None s p options reports key o = o ≡ without_days no_days.NotRegular
FirstComes (Some bytes) (Some number) s p options reports key o =
    (end : FirstEnd) × FirstReads key bytes end × DaysCome end s p options reports key o

-- by whether the key makes the days by which dates are moved
abbrev pub ByDays : (days_by_key : Bool) → MemSystem → Plan → Options → (reports : Bool) → (key : List ℕ) → Outcome
    → Type 0
ByDays true s p options reports key o =
    FirstComes (bytes_at s p.input) (number_at s p.input) s p options reports key o
ByDays false s p options reports key o = WholeAt s p (deidentify options reports key) o

-- by the key
abbrev pub KeyComes : Result (List ℕ) NoKey → MemSystem → Plan → Options → (reports : Bool) → Outcome → Type 0
KeyComes (Err cause) s p options reports o = o ≡ without_key cause
KeyComes (Ok key) s p options reports o = ByDays p.days_by_key s p options reports key o

-- by the path of the key, if the plan names one
abbrev pub DeidentifyComes : Option (List ℕ) → MemSystem → Plan → Options → (reports : Bool) → Outcome → Type 0
DeidentifyComes None s p options reports o = WholeAt s p p.job o
DeidentifyComes (Some path) s p options reports o = KeyComes (key_of (bytes_at s path)) s p options reports o

-- ---- plans

-- what a plan with this job comes to, over these files
abbrev pub PlanComesAs : Job → MemSystem → Plan → Outcome → Type 0
PlanComesAs (deidentify options reports key) s p o = DeidentifyComes p.key s p options reports o
PlanComesAs job s p o = JobComes (bytes_at s p.input) (unopened s p) job o

abbrev pub PlanComes : MemSystem → Plan → Outcome → Type 0
PlanComes s p o = PlanComesAs p.job s p o

-- by the text that is asked for, and else by what is meant
abbrev pub ComesBy : Option Topic → Result Plan Usage → MemSystem → Outcome → Type 0
ComesBy (Some topic) plan s o = o ≡ shown topic
ComesBy None (Err u) s o = o ≡ refused u
ComesBy None (Ok p) s o = PlanComes s p o

-- what the words of a command line come to over files in memory
abbrev pub Comes : (words : List (List ℕ)) → MemSystem → Outcome → Type 0
Comes words s o = ComesBy (asked words) (meant words) s o

-- ---- what obeying them leaves

-- these bytes fit in the room
abbrev pub Fits : (bytes : List ℕ) → (room : Option MemOut) → Type 0
Fits bytes None = ⊥
Fits bytes (Some room) = (room.failed ≡ false) × (length bytes ≤ room_of room)

-- there is room for what is written
abbrev pub HasRoom : Output → (room : Option MemOut) → Type 0
HasRoom no_output room = Unit {0}
HasRoom (holds bytes) room = Fits bytes room
HasRoom (removed bytes) room = Fits bytes room

-- the output was the room, and took these bytes
pub record Took (bytes : List ℕ) (room output : Option MemOut) : Type 0 where
  pub before : MemOut
  pub after : MemOut
  pub room_is : room ≡ Some before
  pub output_is : output ≡ Some after
  pub bytes_are : written after ≡ written before ++ bytes

-- all of it was written and left, or it was removed, or no output was opened
abbrev pub IsWritten : Output → MemSystem → (output : Option MemOut) → Type 0
IsWritten no_output s output = output ≡ s.written
IsWritten (holds bytes) s output = Took bytes s.room output
IsWritten (removed bytes) s output = output ≡ None

-- what was written, the status, and the lines where there is room for them
pub record Leaves (o : Outcome) (s : MemSystem) (errors_before : MemOut) (output : Option MemOut)
    (errors_after : MemOut) (status : ℕ) : Type 0 where
  pub output_is : IsWritten o.output s output
  pub lines_are : length o.lines ≤ room_of errors_before → written errors_after ≡ written errors_before ++ o.lines
  pub status_is : status ≡ o.status

-- what the words come to, where there is room for it; or memory was refused to the edits that they may mean
abbrev pub ObeysInMemory : (words : List (List ℕ)) → MemSystem → (errors_before : MemOut) → (output : Option MemOut)
    → (errors_after : MemOut) → (status : ℕ) → Type 0
ObeysInMemory words s errors_before output errors_after status =
    (o : Outcome) → Comes words s o → HasRoom o.output s.room
    → Leaves o s errors_before output errors_after status
    ⊎ ((takes_memory words ≡ true) × Leaves (refused Memory) s errors_before output errors_after status)
