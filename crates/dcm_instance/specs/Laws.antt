-- The statements of the laws.
use Rattle.std.specs.Prelude.{◌≡◌, ℕ, List, fold}
use Rattle.dcm_instance.specs.UidSink.{held_uid, held_with, nothing_held}
use Rattle.dcm_instance.specs.Uids.{fit}

-- of a value of any size, held by bytes of its own, the same unique identifier is fit as of the whole value
abbrev pub HeldIsFit : Type 0
HeldIsFit = (value : List ℕ) → held_uid (fold held_with nothing_held value) ≡ fit value
