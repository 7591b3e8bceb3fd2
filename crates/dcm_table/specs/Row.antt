-- A row of a table (RFC 4180).
use Rattle.std.specs.Prelude.{ℕ, List, [], ◌∷◌, ◌++◌, length, take, flat_map, slice_index_or, codes, Bool, true, false}
use Rattle.std.specs.Prelude.{◌&&◌, not, ◌==◌, ◌/◌, if◌then◌else◌, Option, Some, None}
use Rattle.std.specs.List.{list_any}
use Rattle.dcm_base.specs.declared.tag.Tag.{Tag}
use Rattle.dcm_base.specs.declared.vr.Vr.{Vr}
use Rattle.dcm_base.specs.declared.vr.Vr.TheVariants.{AT, FD, FL, LO, LT, PN, SH, ST, UC, UI, UT}
use Rattle.dcm_base.specs.Tables.Representation.{is_text}
use Rattle.dcm_base.specs.Tables.Tag.{same_tag}
use Rattle.dcm_base.specs.Tables.Transfer.{without_pads}
use Rattle.dcm_base.specs.Tree.Value.{number_of, units}
use Rattle.dcm_base.specs.Dump.ValueText.{shape, shown_unit, unit_text}
use Rattle.dcm_text.specs.declared.set.TextKind.{TextKind}
use Rattle.dcm_text.specs.declared.set.TextKind.TheVariants.{OneValue, Values, Names}
use Rattle.dcm_text.specs.declared.sets.Sets.{Sets}
use Rattle.dcm_text.specs.Shown.{cell}
use Rattle.dcm_table.specs.declared.quoted.TextForm.{TextForm}
use Rattle.dcm_table.specs.declared.quoted.TextForm.TheVariants.{ValidUtf8, AsItIs, Decoded}
use Rattle.dcm_table.specs.declared.column.Column.{Column}
use Rattle.dcm_table.specs.declared.column.Columns.{Columns}
use Rattle.dcm_table.specs.Cell.{Cell, missing, whole, is_too_long}
use Rattle.dcm_table.specs.Columns.{header_of, list_of}
use Rattle.dcm_table.specs.InForce.{EMPTY}
use Rattle.dcm_table.specs.Parts.{Part, some_bytes, float_part, single, double}
use Rattle.dcm_table.specs.Quoted.{quoted, text_in}
use Rattle.dcm_table.specs.TableSink.{Slot}

abbrev pub comma : List ℕ
comma = codes ","

abbrev pub newline : List ℕ
newline = 10 ∷ []

-- ---- the header

abbrev pub header_cell : Column → List ℕ
header_cell c = comma ++ quoted (header_of c)

abbrev pub header_text : Columns → List ℕ
header_text columns = quoted (codes "File") ++ (flat_map header_cell (list_of columns) ++ newline)

-- ---- a value

-- a whole unit, in little endian order: a float, a decimal or a tag
abbrev pub unit_part : Vr → List ℕ → Part
unit_part FL unit = float_part single (number_of unit)
unit_part FD unit = float_part double (number_of unit)
unit_part vr unit = some_bytes (unit_text (shape vr) unit)

abbrev pub next_unit_parts : Vr → List ℕ → List Part
next_unit_parts vr unit = some_bytes (codes "\\") ∷ unit_part vr unit ∷ []

abbrev pub next_units_parts : Vr → List (List ℕ) → List Part
next_units_parts vr units = flat_map (next_unit_parts vr) units

-- with backslashes between
abbrev pub joined : Vr → List (List ℕ) → List Part
joined vr [] = []
joined vr (unit ∷ units) = unit_part vr unit ∷ next_units_parts vr units

abbrev pub quoted_units : Vr → List (List ℕ) → List Part
quoted_units vr units = some_bytes (codes "\"") ∷ (joined vr units ++ some_bytes (codes "\"") ∷ [])

-- one number is not quoted
abbrev pub is_quoted_list : Vr → (count : ℕ) → Bool
is_quoted_list AT count = true
is_quoted_list vr count = not (count == 1)

abbrev pub units_parts : Bool → Vr → List (List ℕ) → List Part
units_parts true vr units = quoted_units vr units
units_parts false vr units = joined vr units

abbrev pub numbers_parts : Vr → List ℕ → List Part
numbers_parts vr value =
    units_parts (is_quoted_list vr (length value / shown_unit vr)) vr (units (shown_unit vr) value)

abbrev pub is_quoted_text : Vr → Bool
is_quoted_text UI = true
is_quoted_text vr = is_text vr

-- texts that Specific Character Set concerns (PS3.5 6.1.2.3), by what separates their values
abbrev pub kind_of : Vr → Option TextKind
kind_of PN = Some Names
kind_of LO = Some Values
kind_of SH = Some Values
kind_of UC = Some Values
kind_of LT = Some OneValue
kind_of ST = Some OneValue
kind_of UT = Some OneValue
kind_of vr = None

-- these are decoded, where that is asked
abbrev pub decoded_kind : TextForm → Vr → Option TextKind
decoded_kind Decoded vr = kind_of vr
decoded_kind ValidUtf8 vr = None
decoded_kind AsItIs vr = None

abbrev pub text_by : Option TextKind → TextForm → Sets → List ℕ → List ℕ
text_by (Some kind) form sets bytes = cell sets kind bytes
text_by None form sets bytes = text_in form bytes

-- what is written of a text without pads, by what is in force at its head
abbrev pub shown_text : TextForm → Sets → Vr → List ℕ → List ℕ
shown_text form sets vr bytes = text_by (decoded_kind form vr) form sets bytes

abbrev pub value_parts : Bool → TextForm → Sets → Vr → List ℕ → List Part
value_parts true form sets vr value = some_bytes (quoted (shown_text form sets vr (without_pads value))) ∷ []
value_parts false form sets vr value = numbers_parts vr value

-- ---- a row

abbrev pub cell_parts : TextForm → Sets → Cell → List Part
cell_parts form sets (whole vr value) = value_parts (is_quoted_text vr) form sets vr value
cell_parts form sets _ = []

abbrev pub next_cell_parts : TextForm → Slot → List Part
next_cell_parts form slot = some_bytes comma ∷ cell_parts form slot.2 slot.1

abbrev pub cells_parts : TextForm → List Slot → List Part
cells_parts form slots = flat_map (next_cell_parts form) slots

-- the name of the file, the cells, and the end of the row
abbrev pub row_parts : TextForm → (name : List ℕ) → List Slot → List Part
row_parts form name slots = some_bytes (quoted (text_in form name)) ∷ (cells_parts form slots ++ some_bytes newline ∷ [])

-- ---- values that are too long

-- the tag by which the value of a column is reported, after these columns: it is too long, and none of them has its tag
abbrev pub reported_after : (before : List Slot) → Slot → Option Tag
reported_after before c = if is_too_long c.1 && not (list_any (λ (b : Slot). same_tag b.0 c.0) before) then Some c.0
    else None

abbrev pub slot_at : List Slot → ℕ → Slot
slot_at slots column = slice_index_or slots column (record { group = 0; element = 0 }, missing, EMPTY)

abbrev pub reported : List Slot → ℕ → Option Tag
reported slots column = reported_after (take column slots) (slot_at slots column)
