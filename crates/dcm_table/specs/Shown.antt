-- What a row shows of what was read of a file.
use Rattle.std.specs.Prelude.{◌≡◌, ℕ, zero, suc, nat_le, length, List, [], ◌∷◌, map, fold, Bool, true, false, ◌||◌}
use Rattle.std.specs.Prelude.{if◌then◌else◌, Option, Some, None}
use Rattle.dcm_base.specs.declared.tag.Tag.{Tag}
use Rattle.dcm_base.specs.declared.vr.Vr.{Vr}
use Rattle.dcm_base.specs.declared.syntax.Syntax.{Syntax}
use Rattle.dcm_base.specs.declared.fault.Fault.{Fault}
use Rattle.dcm_base.specs.Tables.Tag.{same_tag, below}
use Rattle.dcm_base.specs.Tree.Tree.{Trees, no_tree, leaf, sequence, fragments}
use Rattle.dcm_base.specs.Tree.Front.{Front, front, OpenTree, nothing_open, open_leaf, open_sequence, open_fragments}
use Rattle.dcm_base.specs.Bytes.Spelling.{after, holds_open}
use Rattle.dcm_base.specs.Reading.Stop.{Bar, HeadBar}
use Rattle.dcm_base.specs.Steps.Atoms.{Atom, opens, value_byte, closes_leaf, opens_item, closes_item, closes_sequence}
use Rattle.dcm_base.specs.Steps.Atoms.{opens_fragment, ends}
use Rattle.dcm_stream.specs.Skip.{closed as less_deep}
use Rattle.dcm_table.specs.Cell.{Cell, missing, open_value, open_too_long, whole, too_long, not_shown, CELL_LIMIT, is_shown, shown_vr}
use Rattle.dcm_table.specs.Ending.{DECIDED}
use Rattle.dcm_table.specs.Meta.{META_SYNTAX}
use Rattle.dcm_table.specs.InForce.{EMPTY, front_sets, meta_sets}
use Rattle.dcm_sinks.specs.Unknown.{sets_unknown}
use Rattle.dcm_table.specs.TableSink.{Slot, State, kept_or}

-- ---- the cell of a tag

-- of an element with a whole value: the value, where it is shown and not longer than a cell
abbrev pub leaf_cell : Syntax → Tag → Vr → List ℕ → Cell
leaf_cell s tag vr value = if is_shown (shown_vr s tag vr)
    then (if nat_le (length value) CELL_LIMIT then whole (shown_vr s tag vr) value else too_long) else not_shown

-- the first element of the tag counts
unfoldable pub trees_cell : Syntax → (column : Tag) → Trees → Cell
trees_cell s column no_tree = missing
trees_cell s column (leaf tag vr value rest) =
    if same_tag tag column then leaf_cell s tag vr value else trees_cell (after s tag vr value) column rest
trees_cell s column (sequence tag vr declared items rest) =
    if same_tag tag column then not_shown else trees_cell s column rest
trees_cell s column (fragments tag vr values rest) =
    if same_tag tag column then not_shown else trees_cell s column rest

-- an element that is not whole is not shown
abbrev pub open_cell : (column : Tag) → OpenTree → Cell
open_cell column nothing_open = missing
open_cell column (open_leaf tag vr size value) = if same_tag tag column then not_shown else missing
open_cell column (open_sequence tag vr declared items last) = if same_tag tag column then not_shown else missing
open_cell column (open_fragments tag vr values last) = if same_tag tag column then not_shown else missing

-- an earlier element of the tag counts
abbrev pub cell_or : Cell → Cell → Cell
cell_or missing later = later
cell_or cell later = cell

-- of a data set as far as it was read
abbrev pub front_cell : Syntax → (column : Tag) → Front → Cell
front_cell s column (front trees open_tree reached closed) =
    cell_or (trees_cell s column trees) (open_cell column open_tree)

-- of the elements of a meta group
unfoldable pub meta_cell : (column : Tag) → Trees → Cell
meta_cell column no_tree = missing
meta_cell column (leaf tag vr value rest) =
    if same_tag tag column then leaf_cell META_SYNTAX tag vr value else meta_cell column rest
meta_cell column (sequence tag vr declared items rest) = meta_cell column rest
meta_cell column (fragments tag vr values rest) = meta_cell column rest

-- ---- the cells of a row

-- where a value is not whole its cell is not shown
abbrev pub settled : Cell → Cell
settled (open_value vr shown s bytes) = not_shown
settled open_too_long = not_shown
settled cell = cell

abbrev pub settled_slots : List Slot → List Slot
settled_slots slots = map (λ (c : Slot). (c.0, settled c.1, c.2)) slots

-- no value is on its way
abbrev pub AllSettled : List Slot → Type 0
AllSettled [] = Unit {0}
AllSettled (c ∷ slots) = (settled c.1 ≡ c.1) × AllSettled slots

-- the cells with what was read of a data set, where these were filled before, each with what is in force at its head
abbrev pub slots_with : Syntax → Front → List Slot → List Slot
slots_with s f slots =
    map (λ (c : Slot). (c.0, cell_or c.1 (front_cell s c.0 f), kept_or c.1 c.2 (front_sets c.0 c.2 f))) slots

-- the cells with the elements of a meta group
abbrev pub meta_slots : List Tag → Trees → List Slot
meta_slots tags elements = map (λ (t : Tag). (t, meta_cell t elements, meta_sets t EMPTY elements)) tags

-- ---- whether a value of Specific Character Set named what is not known

-- one of a leaf of this level
unfoldable pub trees_unknown : Trees → Bool
trees_unknown no_tree = false
trees_unknown (leaf tag vr value rest) = sets_unknown tag vr value || trees_unknown rest
trees_unknown (sequence tag vr declared items rest) = trees_unknown rest
trees_unknown (fragments tag vr values rest) = trees_unknown rest

-- of a data set as far as it was read: a value that is not whole names nothing
abbrev pub front_unknown : Front → Bool
front_unknown (front trees open_tree reached closed) = trees_unknown trees

-- ---- what a row needs of a file

-- the cells of the columns, and whether such a value was read
pub record Held : Type 0 where
  pub slots : List Slot
  pub unknown : Bool

-- as they stand where reading ends
abbrev pub held_by : State → Held
held_by s = record { slots = settled_slots s.slots; unknown = s.unknown }

-- of the elements of a meta group
abbrev pub meta_held : List Tag → Trees → Held
meta_held tags elements = record { slots = meta_slots tags elements; unknown = trees_unknown elements }

-- and then of what was read of a data set
abbrev pub held_with : Syntax → Front → Held → Held
held_with s f held =
    record { slots = slots_with s f held.slots; unknown = front_unknown f || held.unknown }

-- ---- how far a file is read

-- up to the first head of the outermost level that is above the greatest column
abbrev pub decided_by : Bool → Option Fault
decided_by true = Some DECIDED
decided_by false = None

abbrev pub table_bar : (greatest : Tag) → Bar
table_bar greatest f tag vr declared = if holds_open f then None else decided_by (below greatest tag)

-- how many elements, items and fragments are open after an atom
abbrev pub open_after : ℕ → Atom → ℕ
open_after n (opens tag vr declared s) = suc n
open_after n (value_byte b) = n
open_after n closes_leaf = less_deep n
open_after n (opens_item declared) = suc n
open_after n closes_item = less_deep n
open_after n closes_sequence = less_deep n
open_after n (opens_fragment size) = suc n
open_after n ends = n

abbrev pub decided_at : ℕ → Bool → Option Fault
decided_at zero is_above = decided_by is_above
decided_at (suc n) is_above = None

-- the same bar, by the atoms so far
abbrev pub tabled : (greatest : Tag) → List Atom → HeadBar
tabled greatest atoms tag vr declared = decided_at (fold open_after 0 atoms) (below greatest tag)
