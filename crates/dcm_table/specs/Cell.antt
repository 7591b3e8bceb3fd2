-- The cell of a column: what was read of the first element of its tag.
use Rattle.std.specs.Prelude.{ℕ, nat_lt, length, List, [], ◌∷◌, ◌++◌, Bool, true, false, if◌then◌else◌}
use Rattle.dcm_base.specs.declared.tag.Tag.{Tag}
use Rattle.dcm_base.specs.declared.vr.Vr.{Vr}
use Rattle.dcm_base.specs.declared.vr.Vr.TheVariants.{AT, FD, FL, SL, SS, SV, UI, UL, UN, US, UV}
use Rattle.dcm_base.specs.declared.length.Length.{Length}
use Rattle.dcm_base.specs.declared.length.Length.TheVariants.{Known, Undefined}
use Rattle.dcm_base.specs.declared.syntax.Syntax.{Syntax}
use Rattle.dcm_base.specs.Tables.Dictionary.{vr_in}
use Rattle.dcm_base.specs.Tables.Representation.{is_text}
use Rattle.dcm_base.specs.Tables.Syntax.{dictionary_of}
use Rattle.dcm_base.specs.Tables.Tag.{same_tag}
use Rattle.dcm_base.specs.Tree.Value.{order}
use Rattle.dcm_base.specs.Steps.Atoms.{Atom, opens, value_byte, closes_leaf, opens_item, closes_item, closes_sequence}
use Rattle.dcm_base.specs.Steps.Atoms.{opens_fragment, ends}

-- the bytes of a value that a cell holds at most
abbrev pub CELL_LIMIT : ℕ
CELL_LIMIT = 16384

-- what was read of the first element of a tag
pub data Cell : Type 0 where
  -- no element of the tag came
  missing : Cell
  -- its value is on its way: how it is read and how it is shown, and its bytes so far
  open_value : (vr shown : Vr) (s : Syntax) (bytes : List ℕ) → Cell
  -- its value is on its way, and longer than a cell
  open_too_long : Cell
  -- its value is whole, in little endian order
  whole : (shown : Vr) (value : List ℕ) → Cell
  too_long : Cell
  not_shown : Cell

-- the representation by which a value is shown: as read, and of UN the dictionary's (PS3.5 6.2.2)
abbrev pub shown_vr : Syntax → Tag → Vr → Vr
shown_vr s tag UN = vr_in (dictionary_of s) tag
shown_vr s tag vr = vr

-- texts, unique identifiers, numbers and tags are shown
abbrev pub is_shown : Vr → Bool
is_shown AT = true
is_shown FD = true
is_shown FL = true
is_shown SL = true
is_shown SS = true
is_shown SV = true
is_shown UI = true
is_shown UL = true
is_shown US = true
is_shown UV = true
is_shown vr = is_text vr

abbrev pub opened_as : Bool → (vr shown : Vr) → Syntax → Cell
opened_as true vr shown s = open_value vr shown s []
opened_as false vr shown s = not_shown

-- after the head of the first element
abbrev pub opened : Syntax → Tag → Vr → Length → Cell
opened s tag vr (Known size) = opened_as (is_shown (shown_vr s tag vr)) vr (shown_vr s tag vr) s
opened s tag vr Undefined = not_shown

-- the first element of a tag counts
abbrev pub with_head : (column : Tag) → Cell → Syntax → Tag → Vr → Length → Cell
with_head column missing s tag vr declared = if same_tag tag column then opened s tag vr declared else missing
with_head column cell s tag vr declared = cell

abbrev pub with_byte : Cell → ℕ → Cell
with_byte (open_value vr shown s bytes) b =
    if nat_lt (length bytes) CELL_LIMIT then open_value vr shown s (bytes ++ b ∷ []) else open_too_long
with_byte cell b = cell

-- after the end of a value
abbrev pub ended : Cell → Cell
ended (open_value vr shown s bytes) = whole shown (order s vr bytes)
ended open_too_long = too_long
ended cell = cell

-- after an atom, of which a head is one of the outermost level
abbrev pub cell_step : (column : Tag) → Cell → Atom → Cell
cell_step column cell (opens tag vr declared s) = with_head column cell s tag vr declared
cell_step column cell (value_byte b) = with_byte cell b
cell_step column cell closes_leaf = ended cell
cell_step column cell (opens_item declared) = cell
cell_step column cell closes_item = cell
cell_step column cell closes_sequence = cell
cell_step column cell (opens_fragment size) = cell
cell_step column cell ends = cell

-- whether its value is whole and longer than a cell
abbrev pub is_too_long : Cell → Bool
is_too_long too_long = true
is_too_long _ = false
