-- A builder and the output that it drives.
use Rattle.std.specs.Prelude.{◌≡◌, ℕ, suc, ◌+◌, ◌<◌, ◌≤◌, List, [], ◌∷◌, ◌++◌, length, take, Bool, false, Option}
use Rattle.std.specs.Prelude.{Some, None, Result, Ok, Err, ◌||◌, ◌==◌, is_some, ⊤}
use Rattle.std.specs.Str.{byte}
use Rattle.std.specs.Io.KnownBytes.{append_known}
use Rattle.dcm_base.specs.declared.fault.LineStop.{LineStop}
use Rattle.dcm_devices.specs.Device.{AppendsFront}
use Rattle.dcm_base.specs.Lines.Limits.{LINE_LIMIT}
use Rattle.dcm_base.specs.Reading.Reads.{INPUT_LIMIT}
use Rattle.dcm_base.specs.Steps.Steps.{Goes}
use Rattle.dcm_base.specs.Steps.Halts.{went, refusal}
pub use Rattle.dcm_base.specs.Steps.Halts.{answer, is_output, stop_of, TellsHalt}
use Rattle.dcm_base.specs.declared.stopped.Stopped.TheVariants.{Refused, Output}
use Rattle.dcm_build.specs.Halts.{BuildHalt, LineHalt}
use Rattle.dcm_build.specs.declared.line_reader.LineReader.{LineReader}
use Rattle.dcm_build.specs.Building.{BuildState, build_step, build_writes}
use Rattle.dcm_build.specs.NewFile.{LineAt, state}

-- where the line of a reader begins, and what it has so far
abbrev pub line_at : LineReader → LineAt
line_at p = record { limit = p.limit; line = p.line.items; offset = p.offset; number = p.number }

-- what the lines so far have built, and the fault that was reported
abbrev pub building : LineReader → Option LineStop → BuildState
building p told = state p.file (line_at p) told

-- how many bytes were read
abbrev pub read : LineAt → ℕ
read at = at.offset + length at.line

-- the line fits its limit, and each count its bounds; the last line may pass the limit of an input by the newline that
-- it lacks
pub record Stands (at : LineAt) : Type 0 where
  pub limit : at.limit ≤ LINE_LIMIT
  pub line : length at.line ≤ at.limit
  pub within : 0 < length at.line → read at ≤ INPUT_LIMIT
  pub offset : at.offset ≤ INPUT_LIMIT + 1
  pub number : at.number ≤ at.offset + 1

-- no byte is a newline
abbrev pub Plain : List ℕ → Type 0
Plain [] = ⊤
Plain (b ∷ bs) = ((b == byte "\n") ≡ false) × Plain bs

-- the line goes on with these bytes
abbrev pub more : LineAt → List ℕ → LineAt
more at bs = record at { line = at.line ++ bs }

-- where the next line begins
abbrev pub next_line_at : LineAt → LineAt
next_line_at at = record at { line = []; offset = at.offset + length at.line + 1; number = suc at.number }

-- ---- what a call answers

-- why nothing more is built, where a line is refused at this offset or the output failed
abbrev pub halts : LineHalt → (offset line : ℕ) → BuildHalt
halts (Refused fault) offset line = Refused (record { fault = fault; offset = offset; line = line })
halts Output offset line = Output

-- ---- parts of a call

-- what was built came to this state, and these bytes went out, or a beginning of them
abbrev pub Reaches : {T : Type 0} → (held holds : Option (List ℕ)) → (Option LineStop → BuildState) → BuildState
    → List ℕ → Result T BuildHalt → Type 0
Reaches held holds new s bytes (Ok x) = (new None ≡ s) × (holds ≡ append_known held bytes)
Reaches held holds new s bytes (Err (Refused stop)) = (new (Some stop) ≡ s) × (holds ≡ append_known held bytes)
Reaches held holds new s bytes (Err Output) = AppendsFront held holds bytes

-- these bytes were read, or a beginning of what they write went out
abbrev pub Feeds : {T : Type 0} → BuildState → (held : Option (List ℕ)) → (Option LineStop → BuildState)
    → (holds : Option (List ℕ)) → List ℕ → Result T BuildHalt → Type 0
Feeds old held new holds bytes r = Goes build_step build_writes old held (new (refusal r)) holds bytes (went r)

-- the bytes that were read: so many, or all where it goes no further
abbrev pub bytes_read : Result ℕ BuildHalt → List ℕ → List ℕ
bytes_read (Ok n) piece = take n piece
bytes_read (Err halt) piece = piece

-- ---- the builder

-- what was built, and whether the output failed
pub record Progress : Type 0 where
  pub state : BuildState
  pub failed : Bool

-- whether it goes no further
abbrev pub is_halted : Progress → Bool
is_halted p = p.failed || is_some p.state.told
