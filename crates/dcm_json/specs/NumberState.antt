-- The values of numbers and tags, written as their bytes come.
use Rattle.std.specs.Prelude.{ℕ, Bool, true, false, if◌then◌else◌, List, [], ◌∷◌, ◌++◌, codes}
use Rattle.dcm_base.specs.declared.vr.Vr.{Vr}
use Rattle.dcm_base.specs.declared.syntax.Syntax.{Syntax}
use Rattle.dcm_base.specs.Dump.ValueText.{shown_unit}
use Rattle.dcm_base.specs.Tree.Value.{order, rest_part, units}
use Rattle.dcm_table.specs.Parts.{Part, some_bytes}
use Rattle.dcm_json.specs.Numbers.{unit_part}
use Rattle.dcm_json.specs.Values.{before}

pub record NumberState : Type 0 where
  pub vr : Vr
  pub syntax : Syntax
  -- whether the array stands, with a value
  pub begun : Bool
  -- the bytes of a unit that is not whole
  pub held : List ℕ

abbrev pub started : Vr → Syntax → NumberState
started vr s = record { vr = vr; syntax = s; begun = false; held = [] }

-- a unit, in the order of its syntax, behind what stands before a value
abbrev pub next_parts : Bool → Vr → Syntax → List ℕ → List Part
next_parts begun vr s unit = some_bytes (before begun) ∷ unit_part vr (order s vr unit) ∷ []

abbrev pub units_parts : Vr → Syntax → Bool → List (List ℕ) → List Part
units_parts vr s begun [] = []
units_parts vr s begun (unit ∷ others) = next_parts begun vr s unit ++ units_parts vr s true others

-- whether a value stands behind these units
abbrev pub stands : Bool → List (List ℕ) → Bool
stands begun [] = begun
stands begun (unit ∷ others) = true

-- the bytes that came, with those that were held
abbrev pub come : NumberState → List ℕ → List ℕ
come n bytes = n.held ++ bytes

abbrev pub fed : NumberState → List ℕ → NumberState
fed n bytes = record n {
  begun = stands n.begun (units (shown_unit n.vr) (come n bytes));
  held = rest_part (shown_unit n.vr) (come n bytes);
}

abbrev pub feeds : NumberState → List ℕ → List Part
feeds n bytes = units_parts n.vr n.syntax n.begun (units (shown_unit n.vr) (come n bytes))

-- the end of the array, where there is a value
abbrev pub finishes : NumberState → List ℕ
finishes n = if n.begun then codes "]" else []
