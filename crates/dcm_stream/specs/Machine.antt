-- A machine and the sink that it drives.
use Rattle.std.specs.Prelude.{◌≡◌, ℕ, ◌+◌, ◌-◌, ◌≤◌, List, [], length, take, map, Bool, true, false, Option, Some}
use Rattle.std.specs.Prelude.{None, option_map, Result, Ok, Err, fold, ⊤, is_some, ◌||◌, ◌&&◌, ◌==◌}
use Rattle.std.specs.Io.KnownBytes.{append_known}
use Rattle.dcm_base.specs.Steps.Atoms.{Atom, value_byte}
use Rattle.dcm_devices.specs.Device.{AppendsFront}
use Rattle.dcm_base.specs.Steps.Steps.{outputs, Goes}
pub use Rattle.dcm_base.specs.Steps.Halts.{went, well, is_output, TellsHalt, TellsFailed}
use Rattle.dcm_base.specs.Reading.Stop.{Stop, complete, refused, is_empty}
use Rattle.dcm_base.specs.Reading.Reads.{INPUT_LIMIT}
use Rattle.dcm_head.specs.declared.head.Head.{Head}
use Rattle.dcm_stream.specs.declared.token.Bar.{Bar}
use Rattle.dcm_stream.specs.declared.cursor.Cursor.{Cursor}
use Rattle.dcm_stream.specs.declared.sign.OpenSign.{OpenSign}
use Rattle.dcm_stream.specs.Halts.{Halt}
use Rattle.dcm_base.specs.declared.stopped.Stopped.TheVariants.{Refused, Output}
use Rattle.dcm_stream.specs.Reading.{Reading, Sign, Opened, sign_reads, value_left, settled, read_byte, is_top}
use Rattle.dcm_stream.specs.Reading.{drives_byte, finish, end_shows}
use Rattle.dcm_stream.specs.declared.judge.Opening.{Opening}
use Rattle.dcm_stream.specs.Judging.{bars_head, opened_by}
use Rattle.dcm_stream.specs.Bounds.{IsSmall}

-- what a machine and its sink come to at a byte, and what the sink writes
abbrev pub steps : {S : Type 0} → (S → Head → Option Bar) → (S → Atom → S) → Reading × S → ℕ → Reading × S
steps bars step = drives_byte (bars_head bars) step

abbrev pub steps_write : {S : Type 0} → (S → Head → Option Bar) → (S → Atom → S) → (S → Atom → List ℕ) → Reading × S
    → ℕ → List ℕ
steps_write bars step writes p b = outputs step writes p.1 (read_byte (bars_head bars p.1) p.0 b).1

-- what is read of a data set at a place, and why it goes no further
abbrev pub sign_held : OpenSign → Sign
sign_held sign = record { vr = sign.vr; first = sign.first.items }

abbrev pub reading : Cursor → Option Stop → Reading
reading p halt = record {
  position = p.position;
  head = p.head.items;
  left = p.left;
  sign = option_map sign_held p.sign;
  levels = p.levels;
  halt = halt;
}

-- the offset of the next byte
abbrev pub next_offset : Reading → ℕ
next_offset r = r.position + length r.head

-- no more bytes than the limit were read, and little is held
pub record Stands (r : Reading) : Type 0 where
  pub small : IsSmall r
  pub within : next_offset r ≤ INPUT_LIMIT

-- ---- what a call answers

-- the stop by which the input is refused
abbrev pub halt_of : {T : Type 0} → Result T Halt → Option Stop
halt_of (Ok x) = None
halt_of (Err (Refused stop)) = Some (refused stop.fault stop.at)
halt_of (Err Output) = None

-- ---- parts of a call

-- a sink took these atoms, and the machine came to this reading; or a beginning of their output went out
abbrev pub Comes : {S T : Type 0} → (S → Atom → S) → (S → Atom → List ℕ) → S → Option (List ℕ) → S → Option (List ℕ)
    → (Option Stop → Reading) → Reading × List Atom → Result T Halt → Type 0
Comes step writes s held t holds new p (Ok x) = (new None ≡ p.0) × (t ≡ fold step s p.1)
    × (holds ≡ append_known held (outputs step writes s p.1))
Comes step writes s held t holds new p (Err (Refused stop)) = (new (Some (refused stop.fault stop.at)) ≡ p.0)
    × (t ≡ fold step s p.1) × (holds ≡ append_known held (outputs step writes s p.1))
Comes step writes s held t holds new p (Err Output) = AppendsFront held holds (outputs step writes s p.1)

-- after bytes of a value
abbrev pub value_read : Reading → (left : ℕ) → List ℕ → Reading × List Atom
value_read r left bytes = settled (r.position + length bytes)
    (value_left left (sign_reads bytes r.sign) r.levels (map value_byte bytes)) left

-- after bytes of the value that is open
abbrev pub reads_value : Cursor → List ℕ → Reading × List Atom
reads_value p bytes = value_read (reading p None) (p.left - length bytes) bytes

-- the sign that is held
abbrev pub held_sign : Cursor → Option Sign
held_sign p = option_map sign_held p.sign

-- after a place where no byte of a value is to come, and where so many are
abbrev pub settles : Cursor → Reading × List Atom
settles p = settled p.position (record { levels = p.levels; left = 0; sign = held_sign p; atoms = [] }) 0

abbrev pub settles_value : Cursor → Reading × List Atom
settles_value p = settled p.position (value_left p.left (held_sign p) p.levels []) p.left

-- what was opened is entered at an offset
abbrev pub entered : ℕ → Opened → Reading × List Atom
entered position o = settled position o o.left

-- what a head before a place opens is entered there
abbrev pub enters : Cursor → Opening → Reading × List Atom
enters p opening = entered p.position (opened_by p.position p.levels opening)

-- a machine and its sink read these bytes, or a beginning of the output went out
abbrev pub Feeds : {S T : Type 0} → (S → Head → Option Bar) → (S → Atom → S) → (S → Atom → List ℕ) → Reading → S
    → Option (List ℕ) → (Option Stop → Reading) → S → Option (List ℕ) → List ℕ → Result T Halt → Type 0
Feeds bars step writes old s held new t holds bytes r =
    Goes (steps bars step) (steps_write bars step writes) (old, s) held (new (halt_of r), t) holds bytes (went r)

-- the bytes that were read: so many, or all where it goes no further
abbrev pub bytes_read : Result ℕ Halt → List ℕ → List ℕ
bytes_read (Ok n) piece = take n piece
bytes_read (Err halt) piece = piece

-- whether the data set may end at a place
abbrev pub may_end : Cursor → Bool
may_end p = (p.left == 0) && is_top p.levels && is_empty p.head.items

-- how the input's end is answered
abbrev pub EndsWith : {T : Type 0} → Stop → Result T Halt → Type 0
EndsWith complete (Ok x) = ⊤
EndsWith complete (Err (Refused stop)) = ⊥
EndsWith complete (Err Output) = ⊤
EndsWith (refused fault offset) (Ok x) = ⊥
EndsWith (refused fault offset) (Err (Refused stop)) = (stop.fault ≡ fault) × (stop.at ≡ offset)
EndsWith (refused fault offset) (Err Output) = ⊥

-- ---- the machine

-- what a machine has read, and whether its sink's output failed
pub record Progress : Type 0 where
  pub reading : Reading
  pub failed : Bool

abbrev pub stop_of : Option Halt → Option Stop
stop_of None = None
stop_of (Some (Refused stop)) = Some (refused stop.fault stop.at)
stop_of (Some Output) = None

-- whether it goes no further
abbrev pub is_halted : Progress → Bool
is_halted p = p.failed || is_some p.reading.halt

-- what a call answers
abbrev pub answer : Option Stop → (failed : Bool) → Result (Unit {0}) Halt
answer halt true = Err Output
answer None false = Ok tt
answer (Some complete) false = Ok tt
answer (Some (refused fault offset)) false = Err (Refused (record { fault = fault; at = offset }))

-- a machine and its sink read these bytes, or a beginning of the output went out
abbrev pub GoesOver : {S : Type 0} → (S → Head → Option Bar) → (S → Atom → S) → (S → Atom → List ℕ) → Progress → S
    → Option (List ℕ) → Progress → S → Option (List ℕ) → List ℕ → Type 0
GoesOver bars step writes old s held new t holds bytes =
    Goes (steps bars step) (steps_write bars step writes) (old.reading, s) held (new.reading, t) holds bytes
    (well new.failed)

-- what is shown where the input ends
abbrev pub shows_end : Progress → List Atom
shows_end p = end_shows (finish p.reading)

-- after the input's end
abbrev pub ended : Stop → Reading → Reading
ended complete r = r
ended (refused fault offset) r = record r { halt = Some (refused fault offset) }
