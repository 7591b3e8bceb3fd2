-- What is read of a data set, byte by byte.
use Rattle.std.specs.Prelude.{ℕ, zero, suc, ◌+◌, List, [], ◌∷◌, ◌++◌, length, take, drop, Bool, true, false, ◌&&◌}
use Rattle.std.specs.Prelude.{nat_lt, ◌==◌, if◌then◌else◌, Option, Some, None, fold}
use Rattle.dcm_base.specs.declared.tag.Tag.{Tag}
use Rattle.dcm_base.specs.declared.vr.Vr.{Vr}
use Rattle.dcm_base.specs.declared.syntax.Syntax.{Syntax}
use Rattle.dcm_base.specs.declared.fault.Fault.TheVariants.{EndsEarly, PassesEnd, TooLong}
use Rattle.dcm_base.specs.declared.length.Length.{Length}
use Rattle.dcm_base.specs.declared.length.Length.TheVariants.{Known, Undefined}
use Rattle.dcm_base.specs.Tables.Number.{number}
use Rattle.dcm_base.specs.Tables.Tag.{is_item}
use Rattle.dcm_base.specs.Bytes.Head.{tag_at, vr_at, length_at, long_length}
use Rattle.dcm_base.specs.declared.form.Form.{Form}
use Rattle.dcm_base.specs.declared.form.Form.TheVariants.{Value as a_value, Sequence as a_sequence}
use Rattle.dcm_base.specs.declared.form.Form.TheVariants.{FragmentList as a_fragment_list, Nothing as no_form}
use Rattle.dcm_base.specs.Bytes.Spelling.{form, inside, read_as, says_sign, is_one}
use Rattle.dcm_base.specs.Tables.Dictionary.{if_signed}
use Rattle.dcm_base.specs.Tables.Syntax.{dictionary_of, read_by}
use Rattle.dcm_base.specs.Tree.Value.{order}
use Rattle.dcm_base.specs.declared.level.Container.{Container}
use Rattle.dcm_base.specs.declared.level.Level.{Level}
use Rattle.dcm_base.specs.declared.level.Container.TheVariants.{DataSet as the_data_set, Item as an_item}
use Rattle.dcm_base.specs.declared.level.Container.TheVariants.{Sequence as sequence_container}
use Rattle.dcm_base.specs.declared.level.Container.TheVariants.{FragmentList as fragment_container}
use Rattle.dcm_base.specs.Reading.Place.{level, room, passes}
use Rattle.dcm_base.specs.Steps.Atoms.{Atom, opens, value_byte, closes_leaf, opens_item, closes_item, closes_sequence}
use Rattle.dcm_base.specs.Steps.Atoms.{opens_fragment, ends}
use Rattle.dcm_base.specs.Reading.Stop.{Stop, complete, refused, HeadBar, innermost_stop, is_empty, is_the_data_set}
use Rattle.dcm_base.specs.Reading.Stop.{is_undecided}
use Rattle.dcm_base.specs.Reading.Reads.{INPUT_LIMIT}

-- PixelRepresentation that is open: its representation, and the first bytes of its value, as they come
pub record Sign : Type 0 where
  pub vr : Vr
  pub first : List ℕ

-- the most bytes of a unit, so that they tell how a value begins in little endian order
abbrev pub SIGN_BYTES : ℕ
SIGN_BYTES = 8

-- a value begins
abbrev pub sign_of : Tag → Vr → Option Sign
sign_of tag vr = if says_sign tag then Some (record { vr = vr; first = [] }) else None

-- bytes of it come
abbrev pub sign_reads : List ℕ → Option Sign → Option Sign
sign_reads bytes None = None
sign_reads bytes (Some sign) = Some (record { vr = sign.vr; first = take SIGN_BYTES (sign.first ++ bytes) })

-- the syntax after it
abbrev pub signed_by : Sign → Syntax → Syntax
signed_by sign s = read_by (if_signed (is_one sign.vr (order s sign.vr sign.first)) (dictionary_of s)) s

-- a container whose contents are of this syntax from here on
abbrev pub in_syntax : Syntax → Level → Level
in_syntax s inner = record {
  container = inner.container;
  syntax = s;
  declared = inner.declared;
  end_offset = inner.end_offset;
}

abbrev pub innermost_in : Syntax → List Level → List Level
innermost_in s [] = []
innermost_in s (inner ∷ outer) = in_syntax s inner ∷ outer

-- PixelRepresentation ends: what comes in its data set is of the syntax after it
abbrev pub sign_ends : Option Sign → List Level → List Level
sign_ends None levels = levels
sign_ends (Some sign) [] = []
sign_ends (Some sign) (inner ∷ outer) = in_syntax (signed_by sign inner.syntax) inner ∷ outer

-- the offset up to which whole heads and values were read, the bytes of a head after it, how many bytes of a value are
-- to come, what is read of an open PixelRepresentation, the open containers, the innermost first, and why it goes no
-- further
pub record Reading : Type 0 where
  pub position : ℕ
  pub head : List ℕ
  pub left : ℕ
  pub sign : Option Sign
  pub levels : List Level
  pub halt : Option Stop

-- nothing has been read of a data set that begins at this offset
abbrev pub start_of : Syntax → (start : ℕ) → Reading
start_of s start = record {
  position = start;
  head = [];
  left = 0;
  sign = None;
  levels = level the_data_set s Undefined start ∷ [];
  halt = None;
}

abbrev pub halted : Reading → Stop → Reading
halted r stop = record r { head = []; halt = Some stop }

-- what is open after a head or a byte of a value, how many bytes of a value are to come, what is read of an open
-- PixelRepresentation, and the atoms
pub record Opened : Type 0 where
  pub levels : List Level
  pub left : ℕ
  pub sign : Option Sign
  pub atoms : List Atom

-- a value is closed with its last byte
abbrev pub closing : (left : ℕ) → List Atom
closing zero = closes_leaf ∷ []
closing (suc left) = []

abbrev pub size_of : Length → ℕ
size_of (Known size) = size
size_of Undefined = 0

-- with it PixelRepresentation ends
abbrev pub left_levels : (left : ℕ) → Option Sign → List Level → List Level
left_levels zero sign levels = sign_ends sign levels
left_levels (suc left) sign levels = levels

abbrev pub left_sign : (left : ℕ) → Option Sign → Option Sign
left_sign zero sign = None
left_sign (suc left) sign = sign

-- after these atoms of a value of which so many bytes are to come
abbrev pub value_left : (left : ℕ) → Option Sign → List Level → List Atom → Opened
value_left left sign levels atoms = record {
  levels = left_levels left sign levels;
  left = left;
  sign = left_sign left sign;
  atoms = atoms ++ closing left;
}

abbrev pub value_opens : List Level → Option Sign → Atom → (size : ℕ) → Opened
value_opens levels sign atom size = value_left size sign levels (atom ∷ [])

-- a container opens, or closes, and no value
abbrev pub without_value : List Level → Atom → Opened
without_value levels atom = record { levels = levels; left = 0; sign = None; atoms = atom ∷ [] }

abbrev pub container_opens : Level → List Level → Atom → Opened
container_opens inner outer atom = without_value (inner ∷ outer) atom

-- nothing is opened
abbrev pub nothing_opens : List Level → Opened
nothing_opens levels = record { levels = levels; left = 0; sign = None; atoms = [] }

-- what the head of an element opens, whose contents begin at this offset
abbrev pub element_opens : Form → Syntax → Tag → Vr → Length → (begin : ℕ) → List Level → Opened
element_opens a_value s tag vr declared begin around =
    value_opens around (sign_of tag vr) (opens tag vr declared s) (size_of declared)
element_opens a_sequence s tag vr declared begin around =
    container_opens (level sequence_container (inside s vr) declared begin) around (opens tag vr declared s)
element_opens a_fragment_list s tag vr declared begin around =
    container_opens (level fragment_container s Undefined begin) around (opens tag vr declared s)
element_opens no_form s tag vr declared begin around = nothing_opens around

abbrev pub item_opens : Container → Syntax → Length → (begin : ℕ) → List Level → Opened
item_opens fragment_container s declared begin around =
    value_opens around None (opens_fragment (size_of declared)) (size_of declared)
item_opens _ s declared begin around = container_opens (level an_item s declared begin) around (opens_item declared)

-- the atom that closes a container
abbrev pub closes : Container → Atom
closes an_item = closes_item
closes _ = closes_sequence

-- an element whose representation is known
abbrev pub plain_opens : Option Vr → Syntax → (begin : ℕ) → List ℕ → List Level → Opened
plain_opens None s begin head around = nothing_opens around
plain_opens (Some vr) s begin head around =
    let tag = tag_at s head in
    let declared = length_at s vr head in
    element_opens (form s (read_as s tag vr) declared) s tag vr declared begin around

-- what a whole head opens or closes: a delimiter closes the innermost container
abbrev pub head_opens : (begin : ℕ) → List ℕ → List Level → Opened
head_opens begin head [] = nothing_opens []
head_opens begin head (inner ∷ outer) =
    let tag = tag_at inner.syntax head in
    if tag.group == 0xFFFE
    then (if is_item tag then item_opens inner.container inner.syntax
    (long_length (number inner.syntax 4 (drop 4 head))) begin (inner ∷ outer)
    else without_value outer (closes inner.container))
    else plain_opens (vr_at inner.syntax head) inner.syntax begin head (inner ∷ outer)

abbrev pub ends_at : ℕ → Option ℕ → Bool
ends_at position None = false
ends_at position (Some end) = end == position

-- the containers that are full here are closed, the innermost first
unfoldable pub full_closed : (position : ℕ) → List Level → List Level × List Atom
full_closed position [] = ([], [])
full_closed position (inner ∷ outer) =
    if ends_at position inner.end_offset
    then ((full_closed position outer).0, closes inner.container ∷ (full_closed position outer).1)
    else (inner ∷ outer, [])

-- no head fits into the room that is left
abbrev pub room_stop : (position : ℕ) → List Level → Option Stop
room_stop position levels = if passes 8 (room position levels) then Some (refused PassesEnd position) else None

-- after a head or a byte of a value: containers close where no byte of a value is to come
abbrev pub settled : (position : ℕ) → Opened → (left : ℕ) → Reading × List Atom
settled position o zero =
    let closed = full_closed position o.levels in (
      record {
        position = position;
        head = [];
        left = 0;
        sign = o.sign;
        levels = closed.0;
        halt = room_stop position closed.0;
      },
      o.atoms ++ closed.1,
    )
settled position o (suc left) = (
  record { position = position; head = []; left = suc left; sign = o.sign; levels = o.levels; halt = None },
  o.atoms,
)

abbrev pub head_read : Reading → List ℕ → Option Stop → Reading × List Atom
head_read r head None =
    let begin = r.position + length head in
    let o = head_opens begin head r.levels in
    settled begin o o.left
head_read r head (Some stop) = if is_undecided (Some stop) then (record r { head = head }, []) else (halted r stop, [])

-- a byte by what is to come
abbrev pub byte_read : HeadBar → Reading → ℕ → Option Stop → (within : Bool) → (left : ℕ) → Reading × List Atom
byte_read bar r b (Some stop) within left = (r, [])
byte_read bar r b None false left = (halted r (refused TooLong INPUT_LIMIT), [])
byte_read bar r b None true (suc left) =
    settled (r.position + 1) (value_left left (sign_reads (b ∷ []) r.sign) r.levels (value_byte b ∷ [])) left
byte_read bar r b None true zero =
    head_read r (r.head ++ b ∷ []) (innermost_stop bar r.levels r.position (r.head ++ b ∷ []))

-- what a byte leads to, and the atoms that it shows
unfoldable pub read_byte : HeadBar → Reading → ℕ → Reading × List Atom
read_byte bar r b = byte_read bar r b r.halt (nat_lt (r.position + length r.head) INPUT_LIMIT) r.left

abbrev pub is_top : List Level → Bool
is_top [] = false
is_top (inner ∷ outer) = is_the_data_set inner.container

-- the input ends
abbrev pub stop_at_end : Option Stop → Reading → Stop
stop_at_end (Some stop) r = stop
stop_at_end None r = if (r.left == 0) && is_top r.levels && is_empty r.head then complete
    else refused EndsEarly (r.position + length r.head)

unfoldable pub finish : Reading → Stop
finish r = stop_at_end r.halt r

abbrev pub end_shows : Stop → List Atom
end_shows complete = ends ∷ []
end_shows (refused fault offset) = []

-- a machine over one byte, and the atoms so far, by which heads are barred
abbrev pub reads_byte : (List Atom → HeadBar) → Reading × List Atom → ℕ → Reading × List Atom
reads_byte bars r b = ((read_byte (bars r.1) r.0 b).0, r.1 ++ (read_byte (bars r.1) r.0 b).1)

abbrev pub read_all : (List Atom → HeadBar) → Syntax → (start : ℕ) → List ℕ → Reading × List Atom
read_all bars s start bytes = fold (reads_byte bars) (start_of s start, []) bytes

-- a machine and what takes its atoms, over one byte
abbrev pub drives_byte : {S : Type 0} → (S → HeadBar) → (S → Atom → S) → Reading × S → ℕ → Reading × S
drives_byte bars step p b = ((read_byte (bars p.1) p.0 b).0, fold step p.1 (read_byte (bars p.1) p.0 b).1)
