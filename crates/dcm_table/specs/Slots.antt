-- The cells of the columns, as the program holds them.
use Rattle.std.specs.Prelude.{ℕ, List, take, map, Bool, true, false, Option, Some, None}
use Rattle.dcm_base.specs.declared.tag.Tag.{Tag}
use Rattle.dcm_stream.specs.declared.skip.Skip.{Skip}
use Rattle.dcm_stream.specs.Skip.{depth}
use Rattle.dcm_table.specs.declared.cell.Progress.{Progress}
use Rattle.dcm_table.specs.declared.cell.Progress.TheVariants.{Missing, Open, OpenTooLong, Whole, TooLong, NotShown}
use Rattle.dcm_sinks.specs.declared.character_set.Setting.{Setting}
pub use Rattle.dcm_sinks.specs.SettingValue.{setting_by, setting_of}
use Rattle.dcm_table.specs.declared.slot.Slot.{Slot as HeldSlot}
use Rattle.dcm_table.specs.Cell.{Cell, missing, open_value, open_too_long, whole, too_long, not_shown}
use Rattle.dcm_table.specs.TableSink.{Slot, State}

abbrev pub cell_of : Progress → List ℕ → Cell
cell_of Missing bytes = missing
cell_of (Open vr shown s) bytes = open_value vr shown s bytes
cell_of OpenTooLong bytes = open_too_long
cell_of (Whole shown) bytes = whole shown bytes
cell_of TooLong bytes = too_long
cell_of NotShown bytes = not_shown

abbrev pub is_open : Progress → Bool
is_open (Open vr shown s) = true
is_open _ = false

abbrev pub value_of : HeldSlot → List ℕ
value_of slot = take slot.size slot.room.items

abbrev pub slot_of : HeldSlot → Slot
slot_of slot = (slot.tag, cell_of slot.progress (value_of slot), slot.sets)

abbrev pub slots_of : List HeldSlot → List Slot
slots_of slots = map slot_of slots

abbrev pub state_by : Skip → (greatest : Tag) → List HeldSlot → Setting → (unknown : Bool) → State
state_by skip greatest slots setting unknown = record {
  depth = depth skip;
  greatest = greatest;
  slots = slots_of slots;
  setting = setting_of setting;
  unknown = unknown;
}
