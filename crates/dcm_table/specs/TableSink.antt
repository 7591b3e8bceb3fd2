-- The cells of all columns, over the atoms of a data set.
use Rattle.std.specs.Prelude.{ℕ, zero, suc, nat_lt, length, List, [], ◌∷◌, ◌++◌, map, Bool, true, false, ◌&&◌, ◌||◌, if◌then◌else◌}
use Rattle.std.specs.Prelude.{Option, Some, None, option_map}
use Rattle.dcm_base.specs.declared.tag.Tag.{Tag}
use Rattle.dcm_base.specs.declared.vr.Vr.{Vr}
use Rattle.dcm_base.specs.declared.length.Length.{Length}
use Rattle.dcm_base.specs.declared.length.Length.TheVariants.{Known, Undefined}
use Rattle.dcm_base.specs.Tables.Tag.{below}
use Rattle.dcm_base.specs.Steps.Atoms.{Atom, opens, value_byte, closes_leaf, opens_item, closes_item, closes_sequence}
use Rattle.dcm_base.specs.Steps.Atoms.{opens_fragment, ends}
use Rattle.dcm_head.specs.declared.head.Head.{Head}
use Rattle.dcm_stream.specs.declared.token.Bar.{Bar}
use Rattle.dcm_stream.specs.declared.token.Bar.TheVariants.{Order}
use Rattle.dcm_stream.specs.Skip.{opened as deeper, closed as less_deep}
use Rattle.dcm_text.specs.declared.sets.Sets.{Sets}
use Rattle.dcm_text.specs.Sets.{sets_of}
use Rattle.dcm_table.specs.Cell.{Cell, missing, cell_step}
use Rattle.dcm_table.specs.Columns.{greatest_of}
use Rattle.dcm_table.specs.InForce.{EMPTY, is_setting}
use Rattle.dcm_sinks.specs.SettingValue.{names_unknown}
pub use Rattle.dcm_sinks.specs.SettingValue.{with_setting_byte}

-- a column's tag, its cell, and what is in force where its first element stands: behind all of them where there is none
abbrev pub Slot : Type 0
Slot = Tag × Cell × Sets

-- how many elements, items and fragments are open; the greatest tag of a column; the columns; the value on its way of an
-- element that sets what is in force, where there is one; whether an earlier one named what is not known
pub record State : Type 0 where
  pub depth : ℕ
  pub greatest : Tag
  pub slots : List Slot
  pub setting : Option (List ℕ)
  pub unknown : Bool

abbrev pub begun_slots : List Tag → List Slot
begun_slots tags = map (λ (t : Tag). (t, missing, EMPTY)) tags

-- nothing was read of a file
abbrev pub begun : List Tag → State
begun tags =
    record { depth = 0; greatest = greatest_of tags; slots = begun_slots tags; setting = None; unknown = false }

-- the same columns, where nothing was read
abbrev pub cleared : State → State
cleared s = record {
  depth = 0;
  greatest = s.greatest;
  slots = map (λ (c : Slot). (c.0, missing, EMPTY)) s.slots;
  setting = None;
  unknown = false;
}

abbrev pub slot_step : Slot → Atom → Slot
slot_step c a = (c.0, cell_step c.0 c.1 a, c.2)

abbrev pub is_outermost : ℕ → Bool
is_outermost zero = true
is_outermost (suc n) = false

-- the atoms that cells take: values, and the heads of the outermost level, where nothing is open
abbrev pub is_taken : ℕ → Atom → Bool
is_taken n (opens tag vr declared s) = is_outermost n
is_taken n (value_byte b) = true
is_taken n closes_leaf = true
is_taken n (opens_item declared) = false
is_taken n closes_item = false
is_taken n closes_sequence = false
is_taken n (opens_fragment size) = false
is_taken n ends = false

abbrev pub slots_step : Bool → List Slot → Atom → List Slot
slots_step true slots a = map (λ (c : Slot). slot_step c a) slots
slots_step false slots a = slots

abbrev pub depth_step : ℕ → Atom → ℕ
depth_step n (opens tag vr declared s) = deeper n true
depth_step n (value_byte b) = n
depth_step n closes_leaf = less_deep n
depth_step n (opens_item declared) = deeper n true
depth_step n closes_item = less_deep n
depth_step n closes_sequence = less_deep n
depth_step n (opens_fragment size) = deeper n true
depth_step n ends = n

-- ---- what is in force

-- elements of a column that are still to come are read by other sets
abbrev pub kept_or : Cell → (old new : Sets) → Sets
kept_or missing old new = new
kept_or cell old new = old

abbrev pub slot_set : Sets → Slot → Slot
slot_set sets c = (c.0, c.1, kept_or c.1 c.2 sets)

-- a value that is whole is in force from its end on
abbrev pub with_sets : Option (List ℕ) → List Slot → List Slot
with_sets None slots = slots
with_sets (Some value) slots = map (λ (c : Slot). slot_set (sets_of value) c) slots

abbrev pub slots_set : Option (List ℕ) → List Slot → Atom → List Slot
slots_set setting slots (opens tag vr declared s) = slots
slots_set setting slots (value_byte b) = slots
slots_set setting slots closes_leaf = with_sets setting slots
slots_set setting slots (opens_item declared) = slots
slots_set setting slots closes_item = slots
slots_set setting slots closes_sequence = slots
slots_set setting slots (opens_fragment size) = slots
slots_set setting slots ends = slots

-- whether a head is that of a leaf that sets what is in force
abbrev pub opens_setting : Tag → Vr → Length → Bool
opens_setting tag vr (Known size) = is_setting tag vr
opens_setting tag vr Undefined = false

abbrev pub setting_opened : Bool → Option (List ℕ) → Option (List ℕ)
setting_opened true setting = Some []
setting_opened false setting = setting

abbrev pub setting_step : ℕ → Option (List ℕ) → Atom → Option (List ℕ)
setting_step n setting (opens tag vr declared s) = setting_opened (is_outermost n && opens_setting tag vr declared) setting
setting_step n setting (value_byte b) = option_map (λ (value : List ℕ). with_setting_byte value b) setting
setting_step n setting closes_leaf = None
setting_step n setting (opens_item declared) = setting
setting_step n setting closes_item = setting
setting_step n setting closes_sequence = setting
setting_step n setting (opens_fragment size) = setting
setting_step n setting ends = setting

-- whether a value that is whole named what is not known
abbrev pub unknown_step : Option (List ℕ) → Bool → Atom → Bool
unknown_step setting unknown (opens tag vr declared s) = unknown
unknown_step setting unknown (value_byte b) = unknown
unknown_step setting unknown closes_leaf = names_unknown setting || unknown
unknown_step setting unknown (opens_item declared) = unknown
unknown_step setting unknown closes_item = unknown
unknown_step setting unknown closes_sequence = unknown
unknown_step setting unknown (opens_fragment size) = unknown
unknown_step setting unknown ends = unknown

-- ---- all of it

abbrev pub next : State → Atom → State
next s a = record {
  depth = depth_step s.depth a;
  greatest = s.greatest;
  slots = slots_set s.setting (slots_step (is_taken s.depth a) s.slots a) a;
  setting = setting_step s.depth s.setting a;
  unknown = unknown_step s.setting s.unknown a;
}

-- after an element with its whole value that changes no cell
abbrev pub passed_by : State → State
passed_by s = record {
  depth = less_deep (deeper s.depth true);
  greatest = s.greatest;
  slots = s.slots;
  setting = s.setting;
  unknown = s.unknown;
}

-- nothing is written
abbrev pub writes : State → Atom → List ℕ
writes s a = []

abbrev pub bar_by : ℕ → Tag → Tag → Option Bar
bar_by zero greatest tag = if below greatest tag then Some Order else None
bar_by (suc n) greatest tag = None

-- a head of the outermost level above the greatest column: nothing after it can change the row
abbrev pub table_bar_of : State → Head → Option Bar
table_bar_of s head = bar_by s.depth s.greatest head.tag
