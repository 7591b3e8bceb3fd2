-- The values of a text, written as its bytes come.
use Rattle.std.specs.Prelude.{ℕ, ◌-◌, ◌==◌, Bool, true, false, List, [], ◌∷◌, ◌++◌, fold, length, map}
use Rattle.dcm_base.specs.declared.vr.Vr.{Vr}
use Rattle.dcm_base.specs.Steps.Steps.{outputs}
use Rattle.dcm_text.specs.declared.decoder.Decoder.{Decoder}
use Rattle.dcm_text.specs.declared.sets.Sets.{Sets}
use Rattle.dcm_text.specs.Runs.{Run, State, begun, run, state_of}
use Rattle.dcm_text.specs.Shown.{cell_piece}
use Rattle.dcm_value.specs.DecodedProgress.{kind_of, sets_for}
use Rattle.dcm_json.specs.Shape.{shape_of}
use Rattle.dcm_json.specs.Texts.{without_nul}
use Rattle.dcm_json.specs.Values as values
use Rattle.dcm_json.specs.Values.{Values}

pub record TextState : Type 0 where
  -- how many bytes are still to come
  pub left : ℕ
  -- whether a byte 00 waits, which does not count where it is the last
  pub waits : Bool
  -- what the bytes so far decide, and those that wait for more
  pub state : State
  pub values : Values

abbrev pub state_by : (left : ℕ) → (waits : Bool) → Decoder → Values → TextState
state_by left waits decoder v = record { left = left; waits = waits; state = state_of decoder; values = v }

-- before a text of so many bytes
abbrev pub started : Vr → Sets → (size : ℕ) → TextState
started vr sets size = record {
  left = size;
  waits = false;
  state = begun (sets_for vr sets) (kind_of vr);
  values = values.blank (shape_of vr) false;
}

abbrev pub waited : Bool → List ℕ
waited true = 0 ∷ []
waited false = []

abbrev pub ends_in_nul : List ℕ → Bool
ends_in_nul [] = false
ends_in_nul (b ∷ []) = b == 0
ends_in_nul (b ∷ c ∷ bytes) = ends_in_nul (c ∷ bytes)

-- what is shown of what was decided
abbrev pub parts_in : Run → List (List ℕ)
parts_in r = map cell_piece r.0

-- what bytes decide, but for a byte 00 at their end
abbrev pub next_run : TextState → List ℕ → Run
next_run t bytes = run false t.state (waited t.waits ++ without_nul bytes)

-- after bytes more, at least one
unfoldable pub fed : TextState → List ℕ → TextState
fed t bytes = record {
  left = t.left - length bytes;
  waits = ends_in_nul bytes;
  state = (next_run t bytes).1;
  values = fold values.step t.values (parts_in (next_run t bytes));
}

unfoldable pub feeds : TextState → List ℕ → List ℕ
feeds t bytes = outputs values.step values.writes t.values (parts_in (next_run t bytes))

-- what is written at the end, from here: a byte 00 that waits does not count
abbrev pub finishes_from : State → Values → List ℕ
finishes_from s v =
    outputs values.step values.writes v (parts_in (run true s []))
    ++ values.finishes (fold values.step v (parts_in (run true s [])))

unfoldable pub finishes : TextState → List ℕ
finishes t = finishes_from t.state t.values
