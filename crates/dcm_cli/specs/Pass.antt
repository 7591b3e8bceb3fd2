-- What the work on a job leaves: how it ended, and what was written.
use Rattle.std.specs.Prelude.{◌≡◌, ◌⊎◌, ℕ, ◌+◌, ◌-◌, List, [], ◌++◌, length, take, drop, option_to_list, Bool, true}
use Rattle.std.specs.Prelude.{false, Option, None, Some, Result, Ok, Err, OnOk, IfOk, MatchResult, fold, ◌≤◌}
use Rattle.std.specs.Prelude.{if◌then◌else◌}
use Rattle.std.specs.Io.KnownBytes.{append_known, IsAtEnd}
use Rattle.dcm_base.specs.declared.fault.Stop.{Stop as HaltStop}
use Rattle.dcm_base.specs.Steps.Atoms.{Atom}
use Rattle.dcm_devices.specs.Device.{AppendsFront}
use Rattle.dcm_base.specs.Steps.Steps.{outputs, Goes}
use Rattle.dcm_base.specs.Reading.Reads.{INPUT_LIMIT}
use Rattle.dcm_base.specs.Reading.Stop.{complete, refused}
use Rattle.dcm_head.specs.declared.head.Head.{Head}
use Rattle.dcm_head.specs.declared.meta_read.MetaEnd.{MetaEnd}
use Rattle.dcm_head.specs.declared.meta_read.MetaEnd.TheVariants as meta_end
use Rattle.dcm_head.specs.MetaReading as meta
use Rattle.dcm_stream.specs.declared.token.Bar.{Bar}
use Rattle.dcm_stream.specs.Reading.{Reading, finish, end_shows}
use Rattle.dcm_stream.specs.Halts.{Halt}
use Rattle.dcm_base.specs.declared.stopped.Stopped.TheVariants as halts
use Rattle.dcm_stream.specs.Machine.{Progress, steps, steps_write, next_offset, answer, well, is_halted, TellsFailed}
use Rattle.dcm_cli.specs.declared.ending.Ending.{Ending}
use Rattle.dcm_cli.specs.declared.ending.Ending.TheVariants.{Worked, Unread, Output}
use Rattle.dcm_cli.specs.declared.ending.HeadEnding.{HeadEnding}
use Rattle.dcm_cli.specs.declared.ending.HeadEnding.TheVariants as heads
use Rattle.dcm_cli.specs.declared.ending.Verdict.TheVariants.{Done, PixelsMayShow, Refused, RefusedLine}
use Rattle.dcm_cli.specs.declared.head.Beginning.{Beginning}
use Rattle.dcm_cli.specs.InputCalls.{Reader, How, to_end, Allows, ReadsInput}

-- ---- the devices

-- the reader failed in the call exactly where that is the ending
abbrev pub TellsUnread : (failed_before failed_after : Bool) → Ending → Type 0
TellsUnread failed_before failed_after (Worked verdict) = failed_after ≡ failed_before
TellsUnread failed_before failed_after (Unread read) = failed_after ≡ true
TellsUnread failed_before failed_after Output = failed_after ≡ failed_before

-- reading did not fail
abbrev pub WasRead : Ending → Type 0
WasRead (Worked verdict) = Unit {0}
WasRead (Unread read) = ⊥
WasRead Output = Unit {0}

-- the output's writer failed in the call exactly where that is the ending
abbrev pub TellsOutput : (failed_before failed_after : Bool) → Ending → Type 0
TellsOutput failed_before failed_after (Worked verdict) = failed_after ≡ failed_before
TellsOutput failed_before failed_after (Unread read) = failed_after ≡ failed_before
TellsOutput failed_before failed_after Output = failed_after ≡ true

-- ---- the head of a file

-- how the work ends without a data set
abbrev pub ending_of_head : HeadEnding → Ending
ending_of_head (heads.Refused stop) = Worked (Refused stop)
ending_of_head (heads.Unread count) = Unread count

-- the reading of a file's head over these bytes
abbrev pub head_read : List ℕ → meta.Reading
head_read read = fold meta.meta_step meta.at_start read

-- what the buffer and the byte ahead of it have of the data set
abbrev pub set_bytes : Beginning → (buffer : List ℕ) → List ℕ
set_bytes b buffer = option_to_list b.ahead ++ take (b.filled - b.used) (drop b.used buffer)

-- what the buffer has of the data set is within it
abbrev pub IsWithin : Beginning → (buffer : List ℕ) → Type 0
IsWithin b buffer = (b.used ≤ b.filled) × (b.filled ≤ length buffer)

-- the head was read, and these bytes of the data set
pub record Begins (r : meta.Reading) (b : Beginning) (buffer : List ℕ) (how : How) (read : List ℕ) : Type 0 where
  pub ended : meta.HasEnded r.end
  pub reading : (r ≡ head_read read) ⊎ ((b.is_over ≡ true) × (r ≡ meta.meta_finished (head_read read)))
  pub place : r.place + length (set_bytes b buffer) ≡ length read
  pub set : drop r.place read ≡ set_bytes b buffer
  pub count : b.read ≡ length read
  pub over : b.is_over ≡ true → how ≡ to_end

-- why it was not
abbrev pub FailsHead : meta.Reading → How → (read : List ℕ) → HeadEnding → Type 0
FailsHead r how read (heads.Refused stop) =
    (r.end ≡ Some (meta_end.Refused stop))
    × ((r ≡ head_read read) ⊎ ((how ≡ to_end) × (r ≡ meta.meta_finished (head_read read))))
FailsHead r how read (heads.Unread count) = (r ≡ head_read read) × (r.end ≡ None) × (count ≡ length read)

-- the input ended with it, where so many bytes were read, or is at fault
abbrev pub FinishesHead : Option MetaEnd → (read : ℕ) → Result Beginning HeadEnding → Type 0
FinishesHead end read (Ok b) = meta.HasEnded end
    × (b ≡ record { ahead = None; used = 0; filled = 0; read = read; is_over = true })
FinishesHead end read (Err (heads.Refused stop)) = end ≡ Some (meta_end.Refused stop)
FinishesHead end read (Err (heads.Unread count)) = ⊥

-- these bytes were read for it, or it was refused or could not be read after them
abbrev pub HeadReadOf : meta.Reading → (buffer : List ℕ) → How → (read : List ℕ) → Result Beginning HeadEnding → Type 0
HeadReadOf r buffer how read (Ok b) = Begins r b buffer how read
HeadReadOf r buffer how read (Err ending) = FailsHead r how read ending

-- it has not ended with these bytes
abbrev pub HeadGoesOn : List ℕ → Type 0
HeadGoesOn bytes = (head_read bytes).end ≡ None

-- a reader failed in the call exactly where that is why the head was not read
abbrev pub TellsHead : (failed_before failed_after : Bool) → Result Beginning HeadEnding → Type 0
TellsHead failed_before failed_after result = MatchResult result (λ b. failed_after ≡ failed_before)
    (λ e. TellsUnread failed_before failed_after (ending_of_head e))

-- a reader was read for it into a buffer, which has its size; what is left of the data set is within the buffer
pub record HeadReads {R : Type 0} (r : Reader R) (before after : R) (m : meta.Reading) (buffer_before buffer : List ℕ)
    (result : Result Beginning HeadEnding) : Type 0 where
  pub read : List ℕ
  pub how : How
  pub reads : ReadsInput r HeadGoesOn before read how after
  pub outcome : HeadReadOf m buffer how read result
  pub within : IfOk result (λ b. IsWithin b buffer)
  pub failed : TellsHead (r.has_failed before) (r.has_failed after) result
  pub kept : length buffer ≡ length buffer_before

-- the edits that found no place are those of this mask
abbrev pub with_unplaced : Ending → ℕ → Ending
with_unplaced (Worked (Done none)) mask = Worked (Done mask)
with_unplaced (Worked PixelsMayShow) mask = Worked PixelsMayShow
with_unplaced (Worked (Refused stop)) mask = Worked (Refused stop)
with_unplaced (Worked (RefusedLine stop)) mask = Worked (RefusedLine stop)
with_unplaced (Unread count) mask = Unread count
with_unplaced Output mask = Output

-- where all was done, the pixels may show identity or not
abbrev pub with_pixels : Ending → (may_show : Bool) → Ending
with_pixels (Worked (Done none)) may_show = if may_show then Worked PixelsMayShow else Worked (Done none)
with_pixels (Worked PixelsMayShow) may_show = Worked PixelsMayShow
with_pixels (Worked (Refused stop)) may_show = Worked (Refused stop)
with_pixels (Worked (RefusedLine stop)) may_show = Worked (RefusedLine stop)
with_pixels (Unread count) may_show = Unread count
with_pixels Output may_show = Output

-- ---- a data set

-- how the work ends, by the last answer of the machine
abbrev pub ending_of : Result (Unit {0}) Halt → Ending
ending_of (Ok x) = Worked (Done 0)
ending_of (Err (halts.Refused stop)) = Worked (Refused stop)
ending_of (Err halts.Output) = Output

-- a machine and its sink were fed these bytes; the place in the data set, the sink's state, and what its writer has and
-- whether that has failed, before and after
pub record Fed {S : Type 0} (bars : S → Head → Option Bar) (step : S → Atom → S) (writes : S → Atom → List ℕ)
    (before : Progress) (state_before : S) (contents_before : Option (List ℕ)) (failed_before : Bool)
    (after : Progress) (state_after : S) (contents_after : Option (List ℕ)) (failed_after : Bool)
    (bytes : List ℕ) (result : Result (Unit {0}) Halt) : Type 0 where
  pub goes : Goes (steps bars step) (steps_write bars step writes) (before.reading, state_before) contents_before
      (after.reading, state_after) contents_after bytes (well after.failed)
  pub answer_is : result ≡ answer after.reading.halt after.failed
  pub going : OnOk result (is_halted after ≡ false)
  pub failed : TellsFailed failed_before failed_after after.failed
  pub place : is_halted after ≡ false → next_offset after.reading ≡ next_offset before.reading + length bytes
  pub within : is_halted after ≡ false → next_offset after.reading ≤ INPUT_LIMIT

-- the input has ended where a data set was read up to here
abbrev pub EndsSet : {S : Type 0} → (S → Atom → S) → (S → Atom → List ℕ) → Reading → (state_before : S)
    → (contents_before : Option (List ℕ)) → (state_after : S) → (contents_after : Option (List ℕ))
    → Result (Unit {0}) Halt → Type 0
EndsSet step writes r state_before contents_before state_after contents_after (Ok x) =
    (finish r ≡ complete) × (state_after ≡ fold step state_before (end_shows complete))
    × (contents_after ≡ append_known contents_before (outputs step writes state_before (end_shows complete)))
EndsSet step writes r state_before contents_before state_after contents_after (Err (halts.Refused stop)) =
    (finish r ≡ refused stop.fault stop.at) × (state_after ≡ state_before) × (contents_after ≡ contents_before)
EndsSet step writes r state_before contents_before state_after contents_after (Err halts.Output) =
    AppendsFront contents_before contents_after (outputs step writes state_before (end_shows (finish r)))

-- the place in the data set and the state of the sink after these bytes
abbrev pub after_bytes : {S : Type 0} → (S → Head → Option Bar) → (S → Atom → S) → Reading → S → List ℕ → Reading × S
after_bytes bars step r s read = fold (steps bars step) (r, s) read

-- what was written of them
abbrev pub written : {S : Type 0} → (S → Head → Option Bar) → (S → Atom → S) → (S → Atom → List ℕ)
    → Reading → S → List ℕ → List ℕ
written bars step writes r s read = outputs (steps bars step) (steps_write bars step writes) (r, s) read

-- how the reading of a data set ended, where these bytes of it were read, what was written, and the sink's state, unless
-- the output failed
pub data Ends {S : Type 0} (bars : S → Head → Option Bar) (step : S → Atom → S) (writes : S → Atom → List ℕ)
    (r : Reading) (s : S) (contents_before left : Option (List ℕ)) (s_after : S) (contents_after : Option (List ℕ))
    (read : List ℕ) (ending : Ending) : Type 0 where
  -- the input has ended
  at_end : IsAtEnd left → (after_bytes bars step r s read).0.halt ≡ None
      → finish (after_bytes bars step r s read).0 ≡ complete → ending ≡ Worked (Done 0)
      → s_after ≡ fold step (after_bytes bars step r s read).1 (end_shows complete)
      → contents_after ≡ append_known contents_before (written bars step writes r s read
      ++ outputs step writes (after_bytes bars step r s read).1 (end_shows complete))
      → Ends bars step writes r s contents_before left s_after contents_after read ending
  -- and that is a fault
  at_fault : (stop : HaltStop) → IsAtEnd left → (after_bytes bars step r s read).0.halt ≡ None
      → finish (after_bytes bars step r s read).0 ≡ refused stop.fault stop.at → ending ≡ Worked (Refused stop)
      → s_after ≡ (after_bytes bars step r s read).1
      → contents_after ≡ append_known contents_before (written bars step writes r s read)
      → Ends bars step writes r s contents_before left s_after contents_after read ending
  -- the data set is at fault
  halted : (stop : HaltStop) → (after_bytes bars step r s read).0.halt ≡ Some (refused stop.fault stop.at)
      → ending ≡ Worked (Refused stop) → s_after ≡ (after_bytes bars step r s read).1
      → contents_after ≡ append_known contents_before (written bars step writes r s read)
      → Ends bars step writes r s contents_before left s_after contents_after read ending
  -- reading failed
  unread : (after_bytes bars step r s read).0.halt ≡ None → ending ≡ Unread (next_offset r + length read)
      → s_after ≡ (after_bytes bars step r s read).1
      → contents_after ≡ append_known contents_before (written bars step writes r s read)
      → Ends bars step writes r s contents_before left s_after contents_after read ending
  -- the output failed
  unwritten : ending ≡ Output → AppendsFront contents_before contents_after (written bars step writes r s read)
      → Ends bars step writes r s contents_before left s_after contents_after read ending
  -- with the last bytes of it
  end_unwritten : IsAtEnd left → (after_bytes bars step r s read).0.halt ≡ None → ending ≡ Output
      → AppendsFront contents_before contents_after (written bars step writes r s read
      ++ outputs step writes (after_bytes bars step r s read).1 (end_shows (finish (after_bytes bars step r s read).0)))
      → Ends bars step writes r s contents_before left s_after contents_after read ending

-- a data set whose first bytes had been read goes on after these
abbrev pub SetGoesOn : {S : Type 0} → (S → Head → Option Bar) → (S → Atom → S) → (is_over : Bool)
    → (beginning : List ℕ) → Reading → S → List ℕ → Type 0
SetGoesOn bars step is_over beginning first s bytes =
    (is_over ≡ false) × ((after_bytes bars step first s (beginning ++ bytes)).0.halt ≡ None)

-- a reader was read as the rest of such a data set; and how its reading ended, whatever the input may hold after the
-- bytes that were given
pub record ReadsSet {S R : Type 0} (bars : S → Head → Option Bar) (step : S → Atom → S) (writes : S → Atom → List ℕ)
    (r : Reader R) (before after : R) (is_over : Bool) (beginning : List ℕ) (first : Reading)
    (state_before : S) (contents_before : Option (List ℕ)) (state_after : S) (contents_after : Option (List ℕ))
    (ending : Ending) : Type 0 where
  pub more : List ℕ
  pub how : How
  pub reads : ReadsInput r (SetGoesOn bars step is_over beginning first state_before) before more how after
  pub ends : (rest : List ℕ) → Allows how rest → (is_over ≡ true → rest ≡ [])
      → Ends bars step writes first state_before contents_before (Some rest) state_after contents_after
      (beginning ++ more) ending
