-- What a call does to a sink, by the sink's members.
use Rattle.std.specs.Prelude.{◌≡◌, ℕ, List, Option, None, false, Result}
use Rattle.dcm_base.specs.Steps.Atoms.{Atom}
use Rattle.dcm_devices.specs.Device as device
use Rattle.dcm_base.specs.Steps.Steps.{Goes}
use Rattle.dcm_base.specs.Reading.Stop.{Stop}
use Rattle.dcm_stream.specs.Halts.{Halt}
use Rattle.dcm_stream.specs.declared.cursor.Cursor.{Cursor}
use Rattle.dcm_stream.specs.declared.sink.Sink.{Ghosts}
use Rattle.dcm_stream.specs.Machine as machine
use Rattle.dcm_stream.specs.Machine.{Progress, is_halted}
use Rattle.dcm_stream.specs.Reading.{Reading, end_shows}

-- it took these atoms, or a beginning of their output went out where the call failed
abbrev pub Takes : {S T E : Type 0} → Ghosts S → (old new : S) → List Atom → Result T E → Type 0
Takes sink old new atoms r = Goes sink.step sink.writes (sink.state old) (sink.contents old) (sink.state new)
    (sink.contents new) atoms r

-- its writer failed in the call exactly where that is the answer
abbrev pub TellsHalt : {S T : Type 0} → Ghosts S → (old new : S) → Result T Halt → Type 0
TellsHalt sink old new r = machine.TellsHalt (sink.has_failed old) (sink.has_failed new) r

-- it has the same writer
abbrev pub Keeps : {S : Type 0} → Ghosts S → (old new : S) → Type 0
Keeps sink old new = sink.kept new ≡ sink.kept old

-- it took these atoms, or a beginning of their output went out where the call failed; its writer has failed in the
-- call exactly where that is the answer, and is the one that it had
pub record Took {S T E : Type 0} (sink : Ghosts S) (old new : S) (atoms : List Atom) (r : Result T E) : Type 0 where
  pub takes : Takes sink old new atoms r
  pub failed : device.Tells (sink.has_failed old) (sink.has_failed new) r
  pub kept : Keeps sink old new

-- the same, and the machine came to this reading
pub record Came {S T : Type 0} (sink : Ghosts S) (old new : S) (reading : Option Stop → Reading)
    (p : Reading × List Atom) (r : Result T Halt) : Type 0 where
  pub comes : machine.Comes sink.step sink.writes (sink.state old) (sink.contents old) (sink.state new)
      (sink.contents new) reading p r
  pub failed : TellsHalt sink old new r
  pub kept : Keeps sink old new

-- the same where a place and the sink read these bytes
pub record Fed {S T : Type 0} (sink : Ghosts S) (old new : S) (before : Reading) (after : Option Stop → Reading)
    (bytes : List ℕ) (r : Result T Halt) : Type 0 where
  pub feeds : machine.Feeds sink.bar sink.step sink.writes before (sink.state old) (sink.contents old) after
      (sink.state new) (sink.contents new) bytes r
  pub failed : TellsHalt sink old new r
  pub kept : Keeps sink old new

-- as many bytes of a piece as the answer says
abbrev pub FedPiece : {S : Type 0} → Ghosts S → (old new : S) → (before after : Cursor) → List ℕ → Result ℕ Halt
    → Type 0
FedPiece sink old new before after piece r =
    Fed sink old new (machine.reading before None) (machine.reading after) (machine.bytes_read r piece) r

-- the same where the input ends
pub record Ended {S T : Type 0} (sink : Ghosts S) (old new : S) (end : Stop) (r : Result T Halt) : Type 0 where
  pub answer : machine.EndsWith end r
  pub takes : Takes sink old new (end_shows end) (machine.went r)
  pub failed : TellsHalt sink old new r
  pub kept : Keeps sink old new

-- a machine and the sink read these bytes; the sink's writer failed in the call exactly where the output did, and is
-- the one that it had
pub record Advanced {S : Type 0} (sink : Ghosts S) (old new : S) (before after : Progress) (bytes : List ℕ) : Type 0
  where
    pub goes_over : before.failed ≡ false → machine.GoesOver sink.bar sink.step sink.writes before (sink.state old)
        (sink.contents old) after (sink.state new) (sink.contents new) bytes
    pub failed : is_halted before ≡ false
        → machine.TellsFailed (sink.has_failed old) (sink.has_failed new) after.failed
    pub kept : Keeps sink old new

-- the same where the input ends
pub record Finished {S : Type 0} (sink : Ghosts S) (old new : S) (before after : Progress) : Type 0 where
  pub takes : before.failed ≡ false
      → Takes sink old new (machine.shows_end before) (machine.well after.failed)
  pub failed : is_halted before ≡ false
      → machine.TellsFailed (sink.has_failed old) (sink.has_failed new) after.failed
  pub kept : Keeps sink old new
