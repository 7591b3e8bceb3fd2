-- What a run reads of its input, by the calls of `get` that it makes.
use Rattle.std.specs.Prelude.{◌≡◌, ℕ, List, [], ◌∷◌, ◌++◌, Bool, true, Option, None, Some, unwrap_or}
use Rattle.std.specs.Io.KnownBytes.{prepend_known, IsAtEnd}
use Rattle.dcm_devices.specs.Device.{Gave}
pub use Rattle.dcm_files.specs.Pieces.{Reader}
use Rattle.dcm_words.specs.Words.{Job}
use Rattle.dcm_cli.specs.Answer.{Sure}

-- how an input was read
pub data How : Type 0 where
  -- the last call gave bytes, or none was made
  in_part : How
  -- the last call gave none: that is the end
  to_end : How
  -- the last call failed
  with_failure : How

-- by what the last call gave
abbrev pub how_of : Option (List ℕ) → How
how_of None = with_failure
how_of (Some []) = to_end
how_of (Some (b ∷ bs)) = in_part

-- what the input may hold after the bytes that it gave
abbrev pub Allows : How → (rest : List ℕ) → Type 0
Allows in_part rest = Unit {0}
Allows to_end rest = rest ≡ []
Allows with_failure rest = Unit {0}

-- whether the reader has failed, before and after
abbrev pub TellsHow : (failed_before failed_after : Bool) → How → Type 0
TellsHow failed_before failed_after in_part = failed_after ≡ failed_before
TellsHow failed_before failed_after to_end = failed_after ≡ failed_before
TellsHow failed_before failed_after with_failure = failed_after ≡ true

-- all the calls that led from a reader to a later one, and the bytes that they gave. None was made; or calls were made
-- that gave at least a byte each, and then, since more had to be known, one more, which gave some, or none at the end,
-- or failed
pub data InputCalls {R : Type 0} (gets : R → Option (List ℕ) → R → Type 0) (Needed : List ℕ → Type 0)
    (before : R) (given : List ℕ) (how : How) (after : R) : Type 0 where
  no_call : given ≡ [] → how ≡ in_part → after ≡ before → InputCalls gets Needed before given how after
  last_call : (front : List ℕ) (mid : R) (call : Option (List ℕ)) → Gave gets before front mid → Needed front
      → gets mid call after → given ≡ front ++ unwrap_or call [] → how ≡ how_of call
      → InputCalls gets Needed before given how after

-- a reader was read by such calls. Where it says what it has still to give, these bytes are the front of that
pub record ReadsInput {R : Type 0} (r : Reader R) (Needed : List ℕ → Type 0)
    (before : R) (given : List ℕ) (how : How) (after : R) : Type 0 where
  pub calls : InputCalls r.gets Needed before given how after
  pub left : r.remaining before ≡ prepend_known given (r.remaining after)
  pub end : how ≡ to_end → IsAtEnd (r.remaining after)
  pub failed : TellsHow (r.has_failed before) (r.has_failed after) how

-- more bytes after these can still change how their reading ends
abbrev pub IsUndecided : Job → List ℕ → Type 0
IsUndecided job p = (out : List ℕ) × Sure job p out
