-- Where the reading of a data set stops, and why.
use Rattle.std.specs.Prelude.{ℕ, ◌+◌, List, [], ◌∷◌, length, drop, Bool, true, false, ◌&&◌, not, nat_lt, nat_le, ◌==◌}
use Rattle.std.specs.Prelude.{if◌then◌else◌, Option, Some, None}
use Rattle.dcm_base.specs.declared.tag.Tag.{Tag}
use Rattle.dcm_base.specs.declared.vr.Vr.{Vr}
use Rattle.dcm_base.specs.declared.syntax.Syntax.{Syntax}
use Rattle.dcm_base.specs.declared.fault.Fault.{Fault}
use Rattle.dcm_base.specs.declared.fault.Fault.TheVariants.{EndsEarly, UnknownRepresentation, UndefinedLength}
use Rattle.dcm_base.specs.declared.fault.Fault.TheVariants.{TagNotAllowed, PassesEnd, TooDeep}
use Rattle.dcm_base.specs.declared.length.Length.{Length}
use Rattle.dcm_base.specs.declared.length.Length.TheVariants.{Known, Undefined}
use Rattle.dcm_base.specs.Tree.Front.{Front}
use Rattle.dcm_base.specs.Tables.Number.{number}
use Rattle.dcm_base.specs.Bytes.Head.{tag_at, vr_at, length_at, head_size, long_length}
use Rattle.dcm_base.specs.Tables.Tag.{is_item}
use Rattle.dcm_base.specs.Bytes.Spelling.{Form, a_sequence, a_fragment_list, no_form, form, read_as}
use Rattle.dcm_base.specs.Reading.Place.{Container, the_data_set, a_fragment_list as fragment_container, Level, levels}
use Rattle.dcm_base.specs.Reading.Place.{value_open, room, passes, depth, is_undefined, is_allowed}

-- the data set has ended without fault, or is refused at an offset
pub data Stop : Type 0 where
  complete : Stop
  refused : (fault : Fault) (offset : ℕ) → Stop

-- the fault of an input that is cut
abbrev pub is_early : Fault → Bool
is_early EndsEarly = true
is_early _ = false

abbrev pub is_early_bar : Option Fault → Bool
is_early_bar None = false
is_early_bar (Some fault) = is_early fault

-- whether an input that goes on may come to another end
abbrev pub is_undecided : Option Stop → Bool
is_undecided None = false
is_undecided (Some complete) = true
is_undecided (Some (refused fault offset)) = is_early fault

-- what a tool refuses of itself of an element's head
abbrev pub HeadBar : Type 0
HeadBar = Tag → Vr → Length → Option Fault

-- the same, by what was read before
abbrev pub Bar : Type 0
Bar = Front → HeadBar

-- the first stop whose case applies
abbrev pub first_case : List (Bool × Stop) → Option Stop
first_case [] = None
first_case (c ∷ more) = if c.0 then Some c.1 else first_case more

abbrev pub is_empty : List ℕ → Bool
is_empty [] = true
is_empty (b ∷ bytes) = false

abbrev pub is_the_data_set : Container → Bool
is_the_data_set the_data_set = true
is_the_data_set _ = false

abbrev pub is_fragment_list : Container → Bool
is_fragment_list fragment_container = true
is_fragment_list _ = false

abbrev pub opens_list : Form → Bool
opens_list a_sequence = true
opens_list a_fragment_list = true
opens_list _ = false

abbrev pub has_no_form : Form → Bool
has_no_form no_form = true
has_no_form _ = false

-- a head and the length that it declares
abbrev pub with_length : ℕ → Length → ℕ
with_length head (Known size) = head + size
with_length head Undefined = head

abbrev pub barred : Option Fault → ℕ → List (Bool × Stop)
barred None position = []
barred (Some fault) position = (true, refused fault position) ∷ []

-- an element's head of this representation: the cases 6 to 11
abbrev pub element_cases : Option Fault → Syntax → List Level → ℕ → List ℕ → Tag → Vr → Length → List (Bool × Stop)
element_cases bar s around position rest tag vr declared =
    -- 6: R10, no room for the head
    (passes (head_size s vr) (room position around), refused PassesEnd position)
    -- 7: R1, the head is cut
    ∷ (nat_lt (length rest) (head_size s vr), refused EndsEarly (position + length rest))
    -- 8: R8
    ∷ (has_no_form (form s (read_as s tag vr) declared), refused UndefinedLength position)
    -- 9: R10, no room for what the head declares
    ∷ (passes (with_length (head_size s vr) declared) (room position around), refused PassesEnd position)
    -- 10: R11
    ∷ (opens_list (form s (read_as s tag vr) declared) && nat_le 64 (depth around), refused TooDeep position)
    -- 11: R12 where tags have to ascend and then R16, R13 where the target has no fragment lists
    ∷ barred bar position

abbrev pub element_stop : HeadBar → Syntax → List Level → ℕ → List ℕ → Option Vr → Option Stop
-- 5: R7
element_stop bar s around position rest None = Some (refused UnknownRepresentation position)
element_stop bar s around position rest (Some vr) =
    let declared = length_at s vr rest in
    let tag = tag_at s rest in
    first_case (element_cases (bar tag vr declared) s around position rest tag vr declared)

-- an item's head: the cases 5 and 6
abbrev pub item_stop : Container → List Level → ℕ → Length → Option Stop
item_stop container around position declared =
    first_case (
    -- 5: R8
    (is_fragment_list container && is_undefined declared, refused UndefinedLength position)
    -- 6: R10
    ∷ (passes (with_length 8 declared) (room position around), refused PassesEnd position)
    ∷ [])

-- an element, an item, or a delimiter, which is never refused where it may come
abbrev pub head_stop : HeadBar → Level → List Level → ℕ → List ℕ → Option Stop
head_stop bar inner around position rest =
    let tag = tag_at inner.syntax rest in
    if not (tag.group == 0xFFFE) then element_stop bar inner.syntax around position rest (vr_at inner.syntax rest)
    else (if is_item tag then item_stop inner.container around position
    (long_length (number inner.syntax 4 (drop 4 rest))) else None)

abbrev pub or_else : Option Stop → Option Stop → Option Stop
or_else None later = later
or_else (Some stop) later = Some stop

-- what stops at this place, of which inner is the innermost container: cases 1 to 4, and then those of the head
abbrev pub place_stop : HeadBar → Level → List Level → ℕ → List ℕ → Option Stop
place_stop bar inner around position rest =
    or_else
    (first_case (
    -- 1: R10, no room for the shortest head
    (passes 8 (room position around), refused PassesEnd position)
    -- 2: the end of the data set
    ∷ (is_the_data_set inner.container && is_empty rest, complete)
    -- 3: R1, the head is cut
    ∷ (nat_lt (length rest) 8, refused EndsEarly (position + length rest))
    -- 4: R9
    ∷ (not (is_allowed inner.container inner.declared (tag_at inner.syntax rest)), refused TagNotAllowed position)
    ∷ []))
    (head_stop bar inner around position rest)

abbrev pub innermost_stop : HeadBar → List Level → ℕ → List ℕ → Option Stop
innermost_stop bar [] position rest = None
innermost_stop bar (inner ∷ outer) position rest = place_stop bar inner (inner ∷ outer) position rest

-- R1, a value is cut
abbrev pub value_stop : ℕ → List ℕ → Option Stop
value_stop position rest = if is_empty rest then Some (refused EndsEarly position) else None

-- the stop that applies where f was read from start up to position and rest is left, if one does
unfoldable pub stop_at : Bar → Syntax → (start : ℕ) → Front → (position : ℕ) → (rest : List ℕ) → Option Stop
stop_at bar s start f position rest =
    if value_open f then value_stop position rest else innermost_stop (bar f) (levels s start f) position rest
