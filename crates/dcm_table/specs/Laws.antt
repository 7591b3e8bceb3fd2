-- The statements of the laws.
use Rattle.std.specs.Prelude.{◌≡◌, ℕ, List, [], ◌∷◌, fold, Bool, true, false, None, encode_utf8_all, IsUtf8}
use Rattle.std.specs.List.{list_all}
use Rattle.std.specs.Str.{all_scalars}
use Rattle.dcm_base.specs.declared.tag.Tag.{Tag}
use Rattle.dcm_base.specs.declared.vr.Vr.{Vr}
use Rattle.dcm_base.specs.declared.length.Length.{Length}
use Rattle.dcm_base.specs.declared.syntax.Syntax.{Syntax}
use Rattle.dcm_base.specs.Reading.Reads.{Reads}
use Rattle.dcm_base.specs.Reading.Stop.{Bar, Stop}
use Rattle.dcm_base.specs.Steps.Atoms.{Atom, Shows, front_atoms}
use Rattle.dcm_base.specs.Tree.Front.{Front}
use Rattle.dcm_base.specs.Tree.Tree.{Trees}
use Rattle.dcm_sinks.specs.Laws.{StaysShallow}
use Rattle.dcm_stream.specs.Driven.{bars_by}
use Rattle.dcm_base.specs.Tables.Number.{AreBytes}
use Rattle.dcm_base.specs.Tables.Transfer.{without_pads}
use Rattle.dcm_base.specs.File.MetaGroup.{AreMeta}
use Rattle.dcm_text.specs.declared.sets.Sets.{Sets}
use Rattle.dcm_text.specs.Laws.{IsUtf8InForce, is_plain}
use Rattle.dcm_table.specs.declared.quoted.TextForm.{TextForm}
use Rattle.dcm_table.specs.declared.quoted.TextForm.TheVariants.{ValidUtf8, AsItIs, Decoded}
use Rattle.dcm_table.specs.Cell.{Cell, is_shown, whole}
use Rattle.dcm_table.specs.Columns.{greatest_of}
use Rattle.dcm_table.specs.InForce.{meta_sets}
use Rattle.dcm_table.specs.Meta.{meta_atoms}
use Rattle.dcm_table.specs.Parts.{SpellsParts}
use Rattle.dcm_table.specs.Row.{cell_parts, row_parts}
use Rattle.dcm_table.specs.Shown.{AllSettled, Held, held_by, held_with, meta_held, meta_slots, table_bar}
use Rattle.dcm_table.specs.TableSink.{Slot, State, begun, next, table_bar_of}

-- the cells between two elements of the outermost level
abbrev pub state_with : (greatest : Tag) → Held → State
state_with greatest held =
    record { depth = 0; greatest = greatest; slots = held.slots; setting = None; unknown = held.unknown }

-- after the elements of a meta group the cells hold, of each column, the first of its tag
abbrev pub MetaSteps : Type 0
MetaSteps =
    (tags : List Tag) (elements : Trees) → fold next (begun tags) (meta_atoms elements)
    ≡ state_with (greatest_of tags) (meta_held tags elements)

-- after what was read of a data set, whole or as far as it was read, they hold the first of its tag where there was none
-- before, and know whether a value of Specific Character Set named what is not known
abbrev pub RowSteps : Type 0
RowSteps =
    (greatest : Tag) (held : Held) (bar : Bar) (s : Syntax) (start : ℕ) (bytes : List ℕ) (f : Front) (stop : Stop)
    → AllSettled held.slots → StaysShallow 0 (front_atoms s f) → Reads bar s start bytes f stop
    → held_by (fold next (state_with greatest held) (front_atoms s f)) ≡ held_with s f held

-- the cells bar a head exactly where it is one of the outermost level and above the greatest column
abbrev pub TableBarSteps : Type 0
TableBarSteps =
    (greatest : Tag) (held : Held) (f : Front) (atoms : List Atom) (tag : Tag) (vr : Vr) (declared : Length)
    → AllSettled held.slots → StaysShallow 0 atoms → Shows f atoms
    → bars_by table_bar_of next (state_with greatest held) atoms tag vr declared ≡ table_bar greatest f tag vr declared

-- no value is on its way after the elements of a meta group
abbrev pub MetaSettles : Type 0
MetaSettles = (tags : List Tag) (elements : Trees) → AllSettled (meta_slots tags elements)

-- a value is of bytes, and is shown
abbrev pub HoldsBytes : Cell → Type 0
HoldsBytes (whole shown value) = (is_shown shown ≡ true) × AreBytes value
HoldsBytes _ = Unit {0}

abbrev pub AllHoldBytes : List Slot → Type 0
AllHoldBytes [] = Unit {0}
AllHoldBytes (c ∷ slots) = HoldsBytes c.1 × AllHoldBytes slots

-- the elements of a meta group set nothing: all of it is read by the empty value
abbrev pub MetaSetsNothing : Type 0
MetaSetsNothing = (column : Tag) (sets : Sets) (elements : Trees) → AreMeta elements → meta_sets column sets elements ≡ sets

-- whether all is written as valid UTF-8
abbrev pub is_valid_form : TextForm → Bool
is_valid_form ValidUtf8 = true
is_valid_form AsItIs = false
is_valid_form Decoded = true

-- a row is valid UTF-8, where that is asked
abbrev pub RowIsValid : Type 0
RowIsValid =
    (form : TextForm) (name : List ℕ) (slots : List Slot) (text : List ℕ) → is_valid_form form ≡ true → AreBytes name
    → AllHoldBytes slots → SpellsParts (row_parts form name slots) text → IsUtf8 text

-- a value of ASCII that designates nothing is written in each form as in any other
abbrev pub AsciiAsBefore : Type 0
AsciiAsBefore =
    (form other : TextForm) (sets : Sets) (shown : Vr) (value : List ℕ)
    → list_all (is_plain sets) (without_pads value) ≡ true
    → cell_parts form sets (whole shown value) ≡ cell_parts other sets (whole shown value)

-- where UTF-8 is in force, so is a value in UTF-8
abbrev pub Utf8AsItIs : Type 0
Utf8AsItIs =
    (form other : TextForm) (sets : Sets) (shown : Vr) (value text : List ℕ) → IsUtf8InForce sets
    → all_scalars text ≡ true → without_pads value ≡ encode_utf8_all text
    → cell_parts form sets (whole shown value) ≡ cell_parts other sets (whole shown value)

-- where UTF-8 is in force, a value of any bytes is written as without character sets
abbrev pub Utf8AsBefore : Type 0
Utf8AsBefore =
    (sets : Sets) (shown : Vr) (value : List ℕ) → IsUtf8InForce sets
    → cell_parts Decoded sets (whole shown value) ≡ cell_parts ValidUtf8 sets (whole shown value)
