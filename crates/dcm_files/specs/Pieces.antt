-- What the reading of a piece of an input leaves.
use Rattle.std.specs.Prelude.{◌≡◌, ◌<◌, ◌≤◌, ◌+◌, ◌^◌, ℕ, List, [], length, take, Bool, Option, None, Some, Result, Ok}
use Rattle.std.specs.Prelude.{Err}
use Rattle.std.specs.Io.KnownBytes.{prepend_known, IsAtEnd}
use Rattle.dcm_devices.specs.Device.{Tells}

-- the most bytes that a buffer holds
abbrev pub BUFFER_LIMIT : ℕ
BUFFER_LIMIT = 262144

-- the most bytes that were read before a piece
abbrev pub READ_LIMIT : ℕ
READ_LIMIT = 2 ^ 62

-- the members of a reader
abbrev pub Reader : Type 0 → Type 1
Reader R = record { has_failed : R → Bool; remaining : R → Option (List ℕ); gets : R → Option (List ℕ) → R → Type 0 }

-- the buffer begins with the next bytes, at least one; or none were read, since the input has ended, or since reading
-- failed
abbrev pub GivesPiece : {E : Type 0} → (before after : Option (List ℕ)) → (buffer : List ℕ) → Result (Option ℕ) E
    → Type 0
GivesPiece before after buffer (Ok (Some size)) = (0 < size) × (size ≤ length buffer)
    × (before ≡ prepend_known (take size buffer) after)
GivesPiece before after buffer (Ok None) = IsAtEnd after × (after ≡ before)
GivesPiece before after buffer (Err e) = after ≡ before

-- they are counted
abbrev pub CountsPiece : {E : Type 0} → (before after : ℕ) → Result (Option ℕ) E → Type 0
CountsPiece before after (Ok (Some size)) = after ≡ before + size
CountsPiece before after (Ok None) = after ≡ before
CountsPiece before after (Err e) = after ≡ before

-- what the call gave: a piece, no bytes at the end, or nothing since it failed
abbrev pub given : {E : Type 0} → (buffer : List ℕ) → Result (Option ℕ) E → Option (List ℕ)
given buffer (Ok (Some size)) = Some (take size buffer)
given buffer (Ok None) = Some []
given buffer (Err e) = None

-- the next piece of an input came into a buffer, which keeps its size, and was counted; the reader failed in the call
-- exactly where that is the answer
pub record ReadsPiece {R E : Type 0} (r : Reader R) (before after : R) (buffer_before buffer_after : List ℕ)
    (count_before count_after : ℕ) (result : Result (Option ℕ) E) : Type 0 where
  pub bytes : GivesPiece (r.remaining before) (r.remaining after) buffer_after result
  pub call : r.gets before (given buffer_after result) after
  pub count : CountsPiece count_before count_after result
  pub failed : Tells (r.has_failed before) (r.has_failed after) result
  pub kept : length buffer_after ≡ length buffer_before
