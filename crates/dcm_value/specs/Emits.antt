-- Showing more of a value, by the members of the writer.
use Rattle.std.specs.Prelude.{◌≡◌, List, ℕ, Result, OnOk}
use Rattle.dcm_devices.specs.Device.{Puts, Tells}
use Rattle.dcm_devices.specs.Writing.{Writer}
use Rattle.dcm_value.specs.Display.{Display, emit, at_once}

-- these bytes are shown next, and of them goes out what the mode writes at once
pub record Emits {W T E : Type 0} (w : Writer W) (held holds : W) (old new : Display) (all : List ℕ)
    (r : Result T E) : Type 0 where
  pub state : OnOk r (new ≡ emit old all)
  pub bytes : Puts (w.contents held) (w.contents holds) (at_once old.mode all) r
  pub failed : Tells (w.has_failed held) (w.has_failed holds) r
