-- What a call did to a writer.
use Rattle.std.specs.Prelude.{ℕ, List, Option, Bool}
use Rattle.dcm_devices.specs.Writing.{Writer}

-- what a writer holds before and after, and whether it has failed; its room after, and whether it is flushed then
pub record Change : Type 0 where
  pub before : Option (List ℕ)
  pub after : Option (List ℕ)
  pub failed_before : Bool
  pub failed_after : Bool
  pub room : Option ℕ
  pub is_flushed : Bool

-- by the members of the writer
abbrev pub change_of : {W : Type 0} → Writer W → (before after : W) → Change
change_of w before after = record {
  before = w.contents before;
  after = w.contents after;
  failed_before = w.has_failed before;
  failed_after = w.has_failed after;
  room = w.room after;
  is_flushed = w.is_flushed after;
}
