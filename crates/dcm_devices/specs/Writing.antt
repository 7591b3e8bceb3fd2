-- What a call on a writer does, by the members of the writer.
use Rattle.std.specs.Prelude.{ℕ, Bool, List, Option, Result}
use Rattle.dcm_devices.specs.Device.{Puts, Tells}

-- the members of a writer
abbrev pub Writer : Type 0 → Type 0
Writer W = record { has_failed : W → Bool; contents : W → Option (List ℕ); room : W → Option ℕ; is_flushed : W → Bool }

-- these bytes went out, or a beginning of them where the call failed; and the writer has failed where it did, and
-- otherwise that stayed
pub record Wrote {W T E : Type 0} (w : Writer W) (old new : W) (all : List ℕ) (r : Result T E) : Type 0 where
  pub bytes : Puts (w.contents old) (w.contents new) all r
  pub failed : Tells (w.has_failed old) (w.has_failed new) r
