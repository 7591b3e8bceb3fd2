-- What a call with a piece of an input says of the input.
use Rattle.std.specs.Prelude.{◌≡◌, ◌↔◌, ℕ, ◌≤◌, List, ◌++◌, length, Option, Some, None, fold}
use Rattle.dcm_base.specs.Lines.Build as build
use Rattle.dcm_base.specs.declared.fault.LineStop.{LineStop}
use Rattle.dcm_base.specs.Reading.Reads.{INPUT_LIMIT}
use Rattle.dcm_build.specs.Building.{BuildState, build_start, build_step}

-- no line that has ended is at fault, the one that has not ended fits its limit, and an input may be so long
pub record Undecided (limit : ℕ) (bytes : List ℕ) : Type 0 where
  pub within : length bytes ≤ INPUT_LIMIT
  pub no_fault : (build.built_by limit (build.lines_of bytes).ended).told ≡ None
  pub short : length (build.lines_of bytes).rest ≤ limit

abbrev pub IsTold : Option LineStop → Type 0
IsTold o = (told : LineStop) × (o ≡ Some told)

-- after a call with a piece, where these bytes were fed before
abbrev pub after_call : (limit : ℕ) → (before piece : List ℕ) → BuildState
after_call limit before piece = fold build_step (fold build_step (build_start limit) before) piece

-- the call halts with a fault exactly where the bytes before it and its piece are not undecided
abbrev pub CallRefuses : (limit : ℕ) → (before piece : List ℕ) → Type 0
CallRefuses limit before piece = IsTold (after_call limit before piece).told ↔ (Undecided limit (before ++ piece) → ⊥)

-- and with the one that is reported of them
abbrev pub CallTells : (limit : ℕ) → (before piece : List ℕ) → LineStop → Type 0
CallTells limit before piece told =
    ((after_call limit before piece).told ≡ Some told) ↔ (((build.built limit (before ++ piece)).told ≡ Some told)
    × (Undecided limit (before ++ piece) → ⊥))
