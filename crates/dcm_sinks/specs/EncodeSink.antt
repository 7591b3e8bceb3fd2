-- A data set in a target syntax, written atom by atom (PS3.5 7.1, 7.5, A.4).
use Rattle.std.specs.Prelude.{ℕ, zero, suc, ◌%◌, ◌==◌, ◌&&◌, not, Bool, true, false, if◌then◌else◌, List, [], ◌∷◌, ◌++◌}
use Rattle.std.specs.Prelude.{length, reverse, Option, Some, None}
use Rattle.dcm_base.specs.declared.tag.Tag.{Tag}
use Rattle.dcm_base.specs.declared.vr.Vr.{Vr}
use Rattle.dcm_base.specs.declared.vr.Vr.TheVariants.{SQ}
use Rattle.dcm_base.specs.declared.syntax.Syntax.{Syntax}
use Rattle.dcm_base.specs.Tables.Syntax.{Little, is_big}
use Rattle.dcm_base.specs.declared.length.Length.{Length}
use Rattle.dcm_base.specs.declared.length.Length.TheVariants.{Known, Undefined}
use Rattle.dcm_base.specs.declared.form.Form.{Form}
use Rattle.dcm_base.specs.declared.form.Form.TheVariants.{Value as a_value, Sequence as a_sequence}
use Rattle.dcm_base.specs.declared.form.Form.TheVariants.{FragmentList as a_fragment_list, Nothing as no_form}
use Rattle.dcm_base.specs.Tables.Representation.{pad, unit}
use Rattle.dcm_base.specs.Conversion.Recode.{head, even, too_long, leaf_head, item_head, item_delimiter}
use Rattle.dcm_base.specs.Conversion.Recode.{sequence_delimiter}
use Rattle.dcm_base.specs.Bytes.Spelling.{form, read_as}
use Rattle.dcm_base.specs.Reading.Bars.{is_fragment_form, holds_fragments}
use Rattle.dcm_base.specs.Steps.Atoms.{Atom, opens, value_byte, closes_leaf, opens_item, closes_item, closes_sequence}
use Rattle.dcm_base.specs.Steps.Atoms.{opens_fragment, ends}
use Rattle.dcm_head.specs.declared.head.Head.{Head}
use Rattle.dcm_stream.specs.Skip.{opened, after}
use Rattle.dcm_stream.specs.declared.token.Bar.{Bar}
use Rattle.dcm_stream.specs.declared.token.Bar.TheVariants.{Fragments}

-- ---- a value on its way

-- its unit in bytes, whether each unit is turned round, the bytes of a unit that is not whole, and its pad byte
pub record Copying : Type 0 where
  pub unit : ℕ
  pub is_turned : Bool
  pub held : List ℕ
  pub padding : List ℕ

-- a unit is turned round where one of source and target is big endian; what is too long is written in little endian
-- order
abbrev pub turns : Syntax → Syntax → Vr → ℕ → Bool
turns source target vr size = if is_big source then not (is_big target && not (too_long target vr size))
    else is_big target && not (too_long target vr size)

-- the pad byte of a value of this size
abbrev pub padding : ℕ → ℕ → List ℕ
padding size p = if size % 2 == 0 then [] else p ∷ []

abbrev pub leaf_copy : Syntax → Syntax → Vr → ℕ → Copying
leaf_copy source target vr size = record {
  unit = unit vr;
  is_turned = turns source target vr size;
  held = [];
  padding = padding size (pad vr);
}

-- a fragment goes as it is
abbrev pub fragment_copy : ℕ → Copying
fragment_copy size = record { unit = 1; is_turned = false; held = []; padding = padding size 0 }

-- one byte more: a unit goes out when it is whole
abbrev pub is_whole : Copying → ℕ → Bool
is_whole c b = length (c.held ++ b ∷ []) == c.unit

abbrev pub copies : Copying → ℕ → Copying
copies c b = record c { held = if is_whole c b then [] else c.held ++ b ∷ [] }

abbrev pub ordered : Bool → List ℕ → List ℕ
ordered is_turned u = if is_turned then reverse u else u

abbrev pub copy_writes : Copying → ℕ → List ℕ
copy_writes c b = if is_whole c b then ordered c.is_turned (c.held ++ b ∷ []) else []

-- the value is whole
abbrev pub copy_ends : Copying → List ℕ
copy_ends c = c.held ++ c.padding

-- ---- a data set

pub record EncodeState : Type 0 where
  pub target : Syntax
  -- in an element that is dropped: how many elements, items and fragments of it are open, with itself
  pub dropped : ℕ
  pub copying : Option Copying

abbrev pub encode_start : Syntax → EncodeState
encode_start target = record { target = target; dropped = 0; copying = None }

abbrev pub encode_opens : Form → EncodeState → Vr → Length → Syntax → EncodeState
encode_opens a_value s vr (Known size) syntax = record s { copying = Some (leaf_copy syntax s.target vr size) }
encode_opens a_value s vr Undefined syntax = s
encode_opens a_sequence s vr declared syntax = s
encode_opens a_fragment_list s vr declared syntax = s
encode_opens no_form s vr declared syntax = s

abbrev pub encode_opens_writes : Form → Syntax → Tag → Vr → Length → List ℕ
encode_opens_writes a_value target tag vr (Known size) = leaf_head target tag vr size
encode_opens_writes a_value target tag vr Undefined = []
encode_opens_writes a_sequence target tag vr declared = head target tag SQ Undefined
encode_opens_writes a_fragment_list target tag vr declared = head target tag vr Undefined
encode_opens_writes no_form target tag vr declared = []

abbrev pub takes_byte : EncodeState → Option Copying → ℕ → EncodeState
takes_byte s None b = s
takes_byte s (Some c) b = record s { copying = Some (copies c b) }

abbrev pub byte_writes : Option Copying → ℕ → List ℕ
byte_writes None b = []
byte_writes (Some c) b = copy_writes c b

abbrev pub close_writes : Option Copying → List ℕ
close_writes None = []
close_writes (Some c) = copy_ends c

-- outside of dropped elements; an element with number 0 is dropped
abbrev pub live_step : EncodeState → Atom → EncodeState
live_step s (opens tag vr declared syntax) =
    if tag.element == 0 then record s { dropped = opened s.dropped true }
    else encode_opens (form syntax (read_as syntax tag vr) declared) s vr declared syntax
live_step s (value_byte b) = takes_byte s s.copying b
live_step s closes_leaf = record s { copying = None }
live_step s (opens_item declared) = s
live_step s closes_item = s
live_step s closes_sequence = s
live_step s (opens_fragment size) = record s { copying = Some (fragment_copy size) }
live_step s ends = s

abbrev pub live_writes : EncodeState → Atom → List ℕ
live_writes s (opens tag vr declared syntax) = if tag.element == 0 then []
    else encode_opens_writes (form syntax (read_as syntax tag vr) declared) s.target tag vr declared
live_writes s (value_byte b) = byte_writes s.copying b
live_writes s closes_leaf = close_writes s.copying
live_writes s (opens_item declared) = item_head s.target Undefined
live_writes s closes_item = item_delimiter s.target
live_writes s closes_sequence = sequence_delimiter s.target
live_writes s (opens_fragment size) = item_head s.target (Known (even size))
live_writes s ends = []

abbrev pub step_at : (dropped : ℕ) → EncodeState → Atom → EncodeState
step_at zero s a = live_step s a
step_at (suc n) s a = record s { dropped = after (suc n) a }

abbrev pub writes_at : (dropped : ℕ) → EncodeState → Atom → List ℕ
writes_at zero s a = live_writes s a
writes_at (suc n) s a = []

abbrev pub encode_step : EncodeState → Atom → EncodeState
encode_step s a = step_at s.dropped s a

abbrev pub encode_writes : EncodeState → Atom → List ℕ
encode_writes s a = writes_at s.dropped s a

-- ---- what it bars

-- a fragment list, where the target has none (PS3.5 A.4)
abbrev pub encode_bar : EncodeState → Head → Option Bar
encode_bar s head = if holds_fragments s.target then None else if is_fragment_form (form Little head.vr head.length)
    then Some Fragments else None
