-- The statements of the laws.
use Rattle.std.specs.Prelude.{◌≡◌, ◌≤◌, ◌/◌, ◌%◌, ◌++◌, ◌==◌, ℕ, Bool, not, List, codes, length, false, Some}
use Rattle.std.specs.List.{list_all}
use Rattle.dcm_base.specs.Tables.Dictionary.{Element}
use Rattle.dcm_base.specs.Tree.Front.{Front}
use Rattle.dcm_base.specs.Reading.Stop.{Bar, Stop}
use Rattle.dcm_base.specs.Reading.Reads.{Reads}
use Rattle.dcm_base.specs.Tables.Number.{AreBytes}
use Rattle.dcm_base.specs.Tables.Representation.{is_sequence}
use Rattle.dcm_base.specs.Lines.ReadValue.{value_of_text, value_shown}
use Rattle.dcm_base.specs.Dump.ValueText.{display, shown_unit}
use Rattle.dcm_base.specs.declared.vr.Vr.{Vr}
use Rattle.dcm_base.specs.declared.syntax.Syntax.{Syntax}

-- what is read of a data set, and where reading stops, is one
abbrev pub OneReading : Type 0
OneReading =
    (bar : Bar) (s : Syntax) (start : ℕ) (bytes : List ℕ) (f g : Front) (stop other : Stop)
    → Reads bar s start bytes f stop
    → Reads bar s start bytes g other → (f ≡ g) × (stop ≡ other)

-- the full text of a value of whole units stands for the value, without the pad byte that the text drops
abbrev pub ValuesReadBack : Type 0
ValuesReadBack =
    (vr : Vr) (v : List ℕ) → is_sequence vr ≡ false → AreBytes v → length v % shown_unit vr ≡ 0
    → length (display vr v) ≤ 16384
    → value_of_text vr (display vr v) ≡ Some (value_shown vr v)

-- the keyword of an element on a line of its own
abbrev pub as_line : Element → List ℕ
as_line e = e.2 ++ codes "\n"

-- whether bytes are without a line feed
abbrev pub is_line : List ℕ → Bool
is_line bytes = list_all (λ b. not (b == 10)) bytes

-- whether a tag of the number is of an even group
abbrev pub is_even : ℕ → Bool
is_even n = n / 65536 % 2 == 0
