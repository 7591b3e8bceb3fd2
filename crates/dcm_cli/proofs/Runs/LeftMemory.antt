-- What obeying words over files in memory leaves, and rooms.
use Rattle.std.proofs.Common.{◌≡◌, ◌≤◌, subst, ℕ, List, length, false, Option, None, Some}
use Rattle.dcm_devices.specs.Memory.{room_of}
use Rattle.dcm_devices.specs.declared.memory.MemOut.{MemOut}
use Rattle.dcm_files.specs.declared.memory.MemSystem.{MemSystem}
use Rattle.dcm_cli.specs.ErrorLines.{Reports}
use Rattle.dcm_cli.specs.InMemory.{Outcome, Fits, IsWritten, Leaves}
use Rattle.dcm_cli.proofs.Runs.InMemory.{memory_change, line_left}

-- where there is room, it is there
pub room_there : (bytes : List ℕ) (room : Option MemOut) → Fits bytes room → room ≡ None → ⊥
room_there bytes None has none = has
room_there bytes (Some m) has none = cc

pub room_fits : (bytes : List ℕ) (room : Option MemOut) (m : MemOut) → room ≡ Some m → Fits bytes room → (m.failed ≡ false) × (length bytes ≤ room_of m)
room_fits bytes room m is has = subst (λ (r : Option MemOut). Fits bytes r) is has

module _ (s new : MemSystem) (errors new_errors : MemOut) (status : ℕ) where
  abbrev pub LeftOf : Outcome → Type 0
  LeftOf o = Leaves o s errors new.written new_errors status

  -- an outcome of which all is known
  pub leave_of : (o : Outcome) → IsWritten o.output s new.written → Reports (memory_change errors new_errors) o.lines → status ≡ o.status → LeftOf o
  leave_of o is line was = record { output_is = is; lines_are = λ room. line_left errors new_errors o.lines line room; status_is = was }
