-- Worked rows: bytes, the data set that they spell as far as it was read, and the stop there.
use Rattle.std.proofs.Common.{◌≡◌, ℕ, List, [], ◌∷◌, ◌++◌, Some, None, false, refl, arith, lit≤}
use Rattle.dcm_base.specs.declared.tag.Tag.{Tag}
use Rattle.dcm_base.specs.declared.vr.Vr.{Vr}
use Rattle.dcm_base.specs.declared.vr.Vr.TheVariants.{PN, SQ, UI, US, UN, OB, OW, OV, SV, UV, UL, CS, LT, AT}
use Rattle.dcm_base.specs.Tables.Syntax.{Implicit, Little, Big}
use Rattle.dcm_base.specs.declared.fault.Fault.TheVariants.{PassesEnd, UnknownRepresentation, UndefinedLength, FragmentsBarred}
use Rattle.dcm_base.specs.declared.length.Length.{Length}
use Rattle.dcm_base.specs.declared.length.Length.TheVariants.{Known, Undefined}
use Rattle.dcm_base.specs.Tree.Tree.{Trees, no_tree, leaf, sequence, fragments, Items, no_item, item}
use Rattle.dcm_base.specs.Tree.Front.{Front, front, nothing_open, open_leaf, open_sequence, OpenItem, no_open_item, open_item}
use Rattle.dcm_base.specs.Tables.Representation.{vr_of}
use Rattle.dcm_base.specs.Tables.Dictionary.{vr_in, element_in, elements_in, elements}
use Rattle.dcm_base.specs.Bytes.Head.{vr_at, length_at}
use Rattle.dcm_base.specs.Bytes.Spelling.{form, inside, FragmentsAt, TreesAt, ItemsAt, last_tag, SpellsFront}
use Rattle.dcm_base.specs.Reading.Size.{fragments_size, trees_size}
use Rattle.dcm_base.specs.Reading.Place.{set_levels, levels, value_open, room, depth, is_allowed}
use Rattle.dcm_base.specs.Reading.Stop.{complete, refused, stop_at}
use Rattle.dcm_base.specs.Reading.Bars.{innermost_reached, no_bar, fragments_bar}

-- all that a row computes with
unfoldable pub all : ℕ
unfolding vr_of vr_in element_in elements_in elements innermost_reached vr_at length_at form inside FragmentsAt TreesAt last_tag SpellsFront fragments_size trees_size set_levels levels value_open room depth is_allowed stop_at
all = 0

abbrev pub tag : ℕ → ℕ → Tag
tag g e = record { group = g; element = e }

abbrev pub nothing_read : Front
nothing_read = front no_tree nothing_open None false

abbrev pub whole_set : Trees → Tag → Front
whole_set set reached = front set nothing_open (Some reached) false

abbrev pub open_value : Tag → Vr → ℕ → List ℕ → Front
open_value t vr size value = front no_tree (open_leaf t vr size value) (Some t) false

abbrev pub patient_name : Tag
patient_name = record { group = 0x0010; element = 0x0010 }

abbrev pub name_bytes : List ℕ
name_bytes = 0x10 ∷ 0x00 ∷ 0x10 ∷ 0x00 ∷ 0x50 ∷ 0x4E ∷ 0x06 ∷ 0x00 ∷ 0x41 ∷ 0x42 ∷ 0x5E ∷ 0x43 ∷ 0x44 ∷ 0x20 ∷ []

abbrev pub name_front : Front
name_front = front (leaf patient_name PN (0x41 ∷ 0x42 ∷ 0x5E ∷ 0x43 ∷ 0x44 ∷ 0x20 ∷ []) no_tree) nothing_open (Some patient_name) false

pub name_spelled : SpellsFront Little name_front name_bytes
unfolding all
name_spelled = ([], ([], refl, record { no_item = λ e. omega (arith, e); head = record { tag_is = refl; vr_is = refl; whole = lit≤ tt; length_is = refl; after_is = refl } }, refl), refl, refl, refl)

pub name_stop : stop_at no_bar Little 172 name_front 186 [] ≡ Some complete
unfolding all
name_stop = refl

-- ---- an empty sequence of known length

abbrev pub images : Tag
images = record { group = 0x0008; element = 0x1140 }

abbrev pub empty_bytes : List ℕ
empty_bytes = 0x08 ∷ 0x00 ∷ 0x40 ∷ 0x11 ∷ 0x53 ∷ 0x51 ∷ 0x00 ∷ 0x00 ∷ 0x00 ∷ 0x00 ∷ 0x00 ∷ 0x00 ∷ []

abbrev pub empty_front : Front
empty_front = front (sequence images SQ (Known 0) no_item no_tree) nothing_open (Some images) false

pub empty_spelled : SpellsFront Little empty_front empty_bytes
unfolding all
empty_spelled = ([], ([], [], refl, record { no_item = λ e. omega (arith, e); head = record { tag_is = refl; vr_is = refl; whole = lit≤ tt; length_is = refl; after_is = refl } }, ([], refl, refl, refl), refl), refl, refl, refl)

pub empty_stop : stop_at no_bar Little 172 empty_front 184 [] ≡ Some complete
unfolding all
empty_stop = refl

-- ---- an item of known length in a sequence of undefined length

abbrev pub instance : Tag
instance = record { group = 0x0008; element = 0x1155 }

abbrev pub leaf_bytes : List ℕ
leaf_bytes = 0x08 ∷ 0x00 ∷ 0x55 ∷ 0x11 ∷ 0x55 ∷ 0x49 ∷ 0x04 ∷ 0x00 ∷ 0x31 ∷ 0x2E ∷ 0x32 ∷ 0x00 ∷ []

abbrev pub end_bytes : List ℕ
end_bytes = 0xFE ∷ 0xFF ∷ 0xDD ∷ 0xE0 ∷ 0x00 ∷ 0x00 ∷ 0x00 ∷ 0x00 ∷ []

abbrev pub item_bytes : List ℕ
item_bytes = (0xFE ∷ 0xFF ∷ 0x00 ∷ 0xE0 ∷ 0x0C ∷ 0x00 ∷ 0x00 ∷ 0x00 ∷ []) ++ leaf_bytes

abbrev pub sequence_bytes : List ℕ
sequence_bytes = (0x08 ∷ 0x00 ∷ 0x40 ∷ 0x11 ∷ 0x53 ∷ 0x51 ∷ 0x00 ∷ 0x00 ∷ 0xFF ∷ 0xFF ∷ 0xFF ∷ 0xFF ∷ []) ++ item_bytes ++ end_bytes

abbrev pub instance_leaf : Trees
instance_leaf = leaf instance UI (0x31 ∷ 0x2E ∷ 0x32 ∷ 0x00 ∷ []) no_tree

abbrev pub sequence_front : Front
sequence_front = front (sequence images SQ Undefined (item (Known 12) instance_leaf no_item) no_tree) nothing_open (Some images) false

pub leaf_spelled : TreesAt Little instance_leaf leaf_bytes []
unfolding all
leaf_spelled = ([], refl, record { no_item = λ e. omega (arith, e); head = record { tag_is = refl; vr_is = refl; whole = lit≤ tt; length_is = refl; after_is = refl } }, refl)

pub items_spelled : ItemsAt Little (item (Known 12) instance_leaf no_item) (item_bytes ++ end_bytes) end_bytes
unfolding all
items_spelled = (leaf_bytes ++ end_bytes, end_bytes, record { tag_is = refl; whole = lit≤ tt; length_is = refl; after_is = refl }, (leaf_bytes, refl, refl, leaf_spelled), refl)

pub sequence_spelled : SpellsFront Little sequence_front sequence_bytes
unfolding all
sequence_spelled = (
  [],
  (
    item_bytes ++ end_bytes,
    [],
    refl,
    record { no_item = λ e. omega (arith, e); head = record { tag_is = refl; vr_is = refl; whole = lit≤ tt; length_is = refl; after_is = refl } },
    (end_bytes, items_spelled, record { tag_is = refl; whole = lit≤ tt; after_is = refl }),
    refl,
  ),
  refl,
  refl,
  refl,
)

pub sequence_stop : stop_at no_bar Little 172 sequence_front 212 [] ≡ Some complete
unfolding all
sequence_stop = refl

-- ---- an item that passes its sequence, and one that has no room for its end

abbrev pub open_front : Length → OpenItem → Front
open_front declared last = front no_tree (open_sequence images SQ declared no_item last) (Some images) false

pub known_spelled : SpellsFront Little (open_front (Known 16) no_open_item) (0x08 ∷ 0x00 ∷ 0x40 ∷ 0x11 ∷ 0x53 ∷ 0x51 ∷ 0x00 ∷ 0x00 ∷ 0x10 ∷ 0x00 ∷ 0x00 ∷ 0x00 ∷ [])
unfolding all
known_spelled = (
  0x08 ∷ 0x00 ∷ 0x40 ∷ 0x11 ∷ 0x53 ∷ 0x51 ∷ 0x00 ∷ 0x00 ∷ 0x10 ∷ 0x00 ∷ 0x00 ∷ 0x00 ∷ [],
  refl,
  ([], [], refl, record { no_item = λ e. omega (arith, e); head = record { tag_is = refl; vr_is = refl; whole = lit≤ tt; length_is = refl; after_is = refl } }, lit≤ tt, refl, refl),
  refl,
  refl,
)

pub known_stop : stop_at no_bar Little 172 (open_front (Known 16) no_open_item) 184 (0xFE ∷ 0xFF ∷ 0x00 ∷ 0xE0 ∷ 0x14 ∷ 0x00 ∷ 0x00 ∷ 0x00 ∷ []) ≡ Some (refused PassesEnd 184)
unfolding all
known_stop = refl

pub full_spelled : SpellsFront Little (open_front (Known 8) (open_item Undefined (front no_tree nothing_open None false)))
    (0x08 ∷ 0x00 ∷ 0x40 ∷ 0x11 ∷ 0x53 ∷ 0x51 ∷ 0x00 ∷ 0x00 ∷ 0x08 ∷ 0x00 ∷ 0x00 ∷ 0x00 ∷ 0xFE ∷ 0xFF ∷ 0x00 ∷ 0xE0 ∷ 0xFF ∷ 0xFF ∷ 0xFF ∷ 0xFF ∷ [])
unfolding all
full_spelled = (
  _,
  refl,
  (
    0xFE ∷ 0xFF ∷ 0x00 ∷ 0xE0 ∷ 0xFF ∷ 0xFF ∷ 0xFF ∷ 0xFF ∷ [],
    _,
    refl,
    record { no_item = λ e. omega (arith, e); head = record { tag_is = refl; vr_is = refl; whole = lit≤ tt; length_is = refl; after_is = refl } },
    lit≤ tt,
    refl,
    ([], record { tag_is = refl; whole = lit≤ tt; length_is = refl; after_is = refl }, tt, ([], refl, refl, refl, refl)),
  ),
  refl,
  refl,
)

pub full_stop : stop_at no_bar Little 172 (open_front (Known 8) (open_item Undefined (front no_tree nothing_open None false))) 192 [] ≡ Some (refused PassesEnd 192)
unfolding all
full_stop = refl

-- ---- a big endian value with a byte behind its last unit

abbrev pub rows : Tag
rows = record { group = 0x0028; element = 0x0010 }

pub big_spelled : SpellsFront Big (front (leaf rows US (0x01 ∷ 0x00 ∷ 0x00 ∷ 0x02 ∷ 0x05 ∷ []) no_tree) nothing_open (Some rows) false)
    (0x00 ∷ 0x28 ∷ 0x00 ∷ 0x10 ∷ 0x55 ∷ 0x53 ∷ 0x00 ∷ 0x05 ∷ 0x00 ∷ 0x01 ∷ 0x02 ∷ 0x00 ∷ 0x05 ∷ [])
unfolding all
big_spelled = ([], ([], refl, record { no_item = λ e. omega (arith, e); head = record { tag_is = refl; vr_is = refl; whole = lit≤ tt; length_is = refl; after_is = refl } }, refl), refl, refl, refl)

pub big_stop : stop_at no_bar Big 172 (front (leaf rows US (0x01 ∷ 0x00 ∷ 0x00 ∷ 0x02 ∷ 0x05 ∷ []) no_tree) nothing_open (Some rows) false) 185 [] ≡ Some complete
unfolding all
big_stop = refl

-- ---- UN of undefined length in big endian holds implicit little endian

abbrev pub private : Tag
private = record { group = 0x0009; element = 0x1010 }

abbrev pub in_private : Items
in_private = item Undefined (leaf patient_name PN (0x41 ∷ 0x42 ∷ []) no_tree) no_item

abbrev pub item_end : List ℕ
item_end = 0xFE ∷ 0xFF ∷ 0x0D ∷ 0xE0 ∷ 0x00 ∷ 0x00 ∷ 0x00 ∷ 0x00 ∷ []

abbrev pub in_item : List ℕ
in_item = 0x10 ∷ 0x00 ∷ 0x10 ∷ 0x00 ∷ 0x02 ∷ 0x00 ∷ 0x00 ∷ 0x00 ∷ 0x41 ∷ 0x42 ∷ []

abbrev pub opening : List ℕ
opening = 0xFE ∷ 0xFF ∷ 0x00 ∷ 0xE0 ∷ 0xFF ∷ 0xFF ∷ 0xFF ∷ 0xFF ∷ []

pub private_spelled : SpellsFront Big (front (sequence private UN Undefined in_private no_tree) nothing_open (Some private) false)
    ((0x00 ∷ 0x09 ∷ 0x10 ∷ 0x10 ∷ 0x55 ∷ 0x4E ∷ 0x00 ∷ 0x00 ∷ 0xFF ∷ 0xFF ∷ 0xFF ∷ 0xFF ∷ []) ++ opening ++ in_item ++ item_end ++ end_bytes)
unfolding all
private_spelled = (
  [],
  (
    opening ++ in_item ++ item_end ++ end_bytes,
    [],
    refl,
    record { no_item = λ e. omega (arith, e); head = record { tag_is = refl; vr_is = refl; whole = lit≤ tt; length_is = refl; after_is = refl } },
    (
      end_bytes,
      (
        in_item ++ item_end ++ end_bytes,
        end_bytes,
        record { tag_is = refl; whole = lit≤ tt; length_is = refl; after_is = refl },
        (
          item_end ++ end_bytes,
          (item_end ++ end_bytes, refl, record { no_item = λ e. omega (arith, e); head = record { tag_is = refl; vr_is = refl; whole = lit≤ tt; length_is = refl; after_is = refl } }, refl),
          record { tag_is = refl; whole = lit≤ tt; after_is = refl },
        ),
        refl,
      ),
      record { tag_is = refl; whole = lit≤ tt; after_is = refl },
    ),
    refl,
  ),
  refl,
  refl,
  refl,
)

pub private_stop : stop_at no_bar Big 172 (front (sequence private UN Undefined in_private no_tree) nothing_open (Some private) false) 218 [] ≡ Some complete
unfolding all
private_stop = refl

-- ---- a fragment list

abbrev pub pixels : Tag
pixels = record { group = 0x7FE0; element = 0x0010 }

abbrev pub fragment_bytes : List ℕ
fragment_bytes = 0xFE ∷ 0xFF ∷ 0x00 ∷ 0xE0 ∷ 0x02 ∷ 0x00 ∷ 0x00 ∷ 0x00 ∷ 0xFF ∷ 0xD8 ∷ []

pub pixels_spelled : SpellsFront Little (front (fragments pixels OB ([] ∷ (0xFF ∷ 0xD8 ∷ []) ∷ []) no_tree) nothing_open (Some pixels) false)
    ((0xE0 ∷ 0x7F ∷ 0x10 ∷ 0x00 ∷ 0x4F ∷ 0x42 ∷ 0x00 ∷ 0x00 ∷ 0xFF ∷ 0xFF ∷ 0xFF ∷ 0xFF ∷ []) ++ (0xFE ∷ 0xFF ∷ 0x00 ∷ 0xE0 ∷ 0x00 ∷ 0x00 ∷ 0x00 ∷ 0x00 ∷ []) ++ fragment_bytes ++ end_bytes)
unfolding all
pixels_spelled = (
  [],
  (
    (0xFE ∷ 0xFF ∷ 0x00 ∷ 0xE0 ∷ 0x00 ∷ 0x00 ∷ 0x00 ∷ 0x00 ∷ []) ++ fragment_bytes ++ end_bytes,
    [],
    refl,
    record { no_item = λ e. omega (arith, e); head = record { tag_is = refl; vr_is = refl; whole = lit≤ tt; length_is = refl; after_is = refl } },
    (
      end_bytes,
      (
        fragment_bytes ++ end_bytes,
        record { tag_is = refl; whole = lit≤ tt; length_is = refl; after_is = refl },
        (end_bytes, record { tag_is = refl; whole = lit≤ tt; length_is = refl; after_is = refl }, refl),
      ),
      record { tag_is = refl; whole = lit≤ tt; after_is = refl },
    ),
    refl,
  ),
  refl,
  refl,
  refl,
)

pub pixels_stop : stop_at no_bar Little 174 (front (fragments pixels OB ([] ∷ (0xFF ∷ 0xD8 ∷ []) ∷ []) no_tree) nothing_open (Some pixels) false) 212 [] ≡ Some complete
unfolding all
pixels_stop = refl

-- and where the target has no such lists
pub pixels_barred : stop_at fragments_bar Little 172 nothing_read 172 (0xE0 ∷ 0x7F ∷ 0x10 ∷ 0x00 ∷ 0x4F ∷ 0x42 ∷ 0x00 ∷ 0x00 ∷ 0xFF ∷ 0xFF ∷ 0xFF ∷ 0xFF ∷ []) ≡ Some (refused FragmentsBarred 172)
unfolding all
pixels_barred = refl

-- ---- letters that are no capitals, and other capitals

pub no_letters_stop : stop_at no_bar Little 172 nothing_read 172 (0x10 ∷ 0x00 ∷ 0x10 ∷ 0x00 ∷ 0x70 ∷ 0x6E ∷ 0x02 ∷ 0x00 ∷ []) ≡ Some (refused UnknownRepresentation 172)
unfolding all
no_letters_stop = refl

-- other capitals are UN in the long form, whatever the reserved bytes are
pub capitals_spelled : SpellsFront Little (whole_set (leaf (tag 0x0009 0x1001) UN (0x41 ∷ 0x42 ∷ []) no_tree) (tag 0x0009 0x1001)) (0x09 ∷ 0x00 ∷ 0x01 ∷ 0x10 ∷ 0x5A ∷ 0x5A ∷ 0x01 ∷ 0x02 ∷ 0x02 ∷ 0x00 ∷ 0x00 ∷ 0x00 ∷ 0x41 ∷ 0x42 ∷ [])
unfolding all
capitals_spelled = ([], ([], refl, record { no_item = λ e. omega (arith, e); head = record { tag_is = refl; vr_is = refl; whole = lit≤ tt; length_is = refl; after_is = refl } }, refl), refl, refl, refl)

pub capitals_stop : stop_at no_bar Little 172 (whole_set (leaf (tag 0x0009 0x1001) UN (0x41 ∷ 0x42 ∷ []) no_tree) (tag 0x0009 0x1001)) 186 [] ≡ Some complete
unfolding all
capitals_stop = refl

-- ---- elements of other kinds

-- the dictionary lacks the tag
pub implicit_spelled : SpellsFront Implicit (whole_set (leaf (tag 0x0009 0x1001) UN (0x41 ∷ 0x42 ∷ []) no_tree) (tag 0x0009 0x1001)) (0x09 ∷ 0x00 ∷ 0x01 ∷ 0x10 ∷ 0x02 ∷ 0x00 ∷ 0x00 ∷ 0x00 ∷ 0x41 ∷ 0x42 ∷ [])
unfolding all
implicit_spelled = ([], ([], refl, record { no_item = λ e. omega (arith, e); head = record { tag_is = refl; vr_is = refl; whole = lit≤ tt; length_is = refl; after_is = refl } }, refl), refl, refl, refl)

pub implicit_stop : stop_at no_bar Implicit 170 (whole_set (leaf (tag 0x0009 0x1001) UN (0x41 ∷ 0x42 ∷ []) no_tree) (tag 0x0009 0x1001)) 180 [] ≡ Some complete
unfolding all
implicit_stop = refl

-- a data set alone begins at 0
pub bare_spelled : SpellsFront Implicit (whole_set (leaf (tag 0x0010 0x0010) PN (0x41 ∷ 0x42 ∷ []) no_tree) (tag 0x0010 0x0010)) (0x10 ∷ 0x00 ∷ 0x10 ∷ 0x00 ∷ 0x02 ∷ 0x00 ∷ 0x00 ∷ 0x00 ∷ 0x41 ∷ 0x42 ∷ [])
unfolding all
bare_spelled = ([], ([], refl, record { no_item = λ e. omega (arith, e); head = record { tag_is = refl; vr_is = refl; whole = lit≤ tt; length_is = refl; after_is = refl } }, refl), refl, refl, refl)

pub bare_stop : stop_at no_bar Implicit 0 (whole_set (leaf (tag 0x0010 0x0010) PN (0x41 ∷ 0x42 ∷ []) no_tree) (tag 0x0010 0x0010)) 10 [] ≡ Some complete
unfolding all
bare_stop = refl

pub odd_value_spelled : SpellsFront Little (whole_set (leaf (tag 0x0010 0x4000) LT (0x20 ∷ []) no_tree) (tag 0x0010 0x4000)) (0x10 ∷ 0x00 ∷ 0x00 ∷ 0x40 ∷ 0x4C ∷ 0x54 ∷ 0x01 ∷ 0x00 ∷ 0x20 ∷ [])
unfolding all
odd_value_spelled = ([], ([], refl, record { no_item = λ e. omega (arith, e); head = record { tag_is = refl; vr_is = refl; whole = lit≤ tt; length_is = refl; after_is = refl } }, refl), refl, refl, refl)

pub odd_value_stop : stop_at no_bar Little 172 (whole_set (leaf (tag 0x0010 0x4000) LT (0x20 ∷ []) no_tree) (tag 0x0010 0x4000)) 181 [] ≡ Some complete
unfolding all
odd_value_stop = refl

pub pointer_spelled : SpellsFront Little (whole_set (leaf (tag 0x0028 0x0009) AT (0x18 ∷ 0x00 ∷ 0x63 ∷ 0x10 ∷ []) no_tree) (tag 0x0028 0x0009)) (0x28 ∷ 0x00 ∷ 0x09 ∷ 0x00 ∷ 0x41 ∷ 0x54 ∷ 0x04 ∷ 0x00 ∷ 0x18 ∷ 0x00 ∷ 0x63 ∷ 0x10 ∷ [])
unfolding all
pointer_spelled = ([], ([], refl, record { no_item = λ e. omega (arith, e); head = record { tag_is = refl; vr_is = refl; whole = lit≤ tt; length_is = refl; after_is = refl } }, refl), refl, refl, refl)

pub pointer_stop : stop_at no_bar Little 172 (whole_set (leaf (tag 0x0028 0x0009) AT (0x18 ∷ 0x00 ∷ 0x63 ∷ 0x10 ∷ []) no_tree) (tag 0x0028 0x0009)) 184 [] ≡ Some complete
unfolding all
pointer_stop = refl

pub long_number_spelled : SpellsFront Little (whole_set (leaf (tag 0x0009 0x1001) UV (0x02 ∷ 0x01 ∷ 0x00 ∷ 0x00 ∷ 0x00 ∷ 0x00 ∷ 0x00 ∷ 0x00 ∷ []) no_tree) (tag 0x0009 0x1001)) (0x09 ∷ 0x00 ∷ 0x01 ∷ 0x10 ∷ 0x55 ∷ 0x56 ∷ 0x00 ∷ 0x00 ∷ 0x08 ∷ 0x00 ∷ 0x00 ∷ 0x00 ∷ 0x02 ∷ 0x01 ∷ 0x00 ∷ 0x00 ∷ 0x00 ∷ 0x00 ∷ 0x00 ∷ 0x00 ∷ [])
unfolding all
long_number_spelled = ([], ([], refl, record { no_item = λ e. omega (arith, e); head = record { tag_is = refl; vr_is = refl; whole = lit≤ tt; length_is = refl; after_is = refl } }, refl), refl, refl, refl)

pub long_number_stop : stop_at no_bar Little 172 (whole_set (leaf (tag 0x0009 0x1001) UV (0x02 ∷ 0x01 ∷ 0x00 ∷ 0x00 ∷ 0x00 ∷ 0x00 ∷ 0x00 ∷ 0x00 ∷ []) no_tree) (tag 0x0009 0x1001)) 192 [] ≡ Some complete
unfolding all
long_number_stop = refl

pub long_negative_spelled : SpellsFront Little (whole_set (leaf (tag 0x0009 0x1001) SV (0xFF ∷ 0xFF ∷ 0xFF ∷ 0xFF ∷ 0xFF ∷ 0xFF ∷ 0xFF ∷ 0xFF ∷ []) no_tree) (tag 0x0009 0x1001)) (0x09 ∷ 0x00 ∷ 0x01 ∷ 0x10 ∷ 0x53 ∷ 0x56 ∷ 0x00 ∷ 0x00 ∷ 0x08 ∷ 0x00 ∷ 0x00 ∷ 0x00 ∷ 0xFF ∷ 0xFF ∷ 0xFF ∷ 0xFF ∷ 0xFF ∷ 0xFF ∷ 0xFF ∷ 0xFF ∷ [])
unfolding all
long_negative_spelled = ([], ([], refl, record { no_item = λ e. omega (arith, e); head = record { tag_is = refl; vr_is = refl; whole = lit≤ tt; length_is = refl; after_is = refl } }, refl), refl, refl, refl)

pub long_negative_stop : stop_at no_bar Little 172 (whole_set (leaf (tag 0x0009 0x1001) SV (0xFF ∷ 0xFF ∷ 0xFF ∷ 0xFF ∷ 0xFF ∷ 0xFF ∷ 0xFF ∷ 0xFF ∷ []) no_tree) (tag 0x0009 0x1001)) 192 [] ≡ Some complete
unfolding all
long_negative_stop = refl

pub long_words_spelled : SpellsFront Little (whole_set (leaf (tag 0x0009 0x1001) OV (0x01 ∷ 0x02 ∷ 0x03 ∷ 0x04 ∷ 0x05 ∷ 0x06 ∷ 0x07 ∷ 0x08 ∷ []) no_tree) (tag 0x0009 0x1001)) (0x09 ∷ 0x00 ∷ 0x01 ∷ 0x10 ∷ 0x4F ∷ 0x56 ∷ 0x00 ∷ 0x00 ∷ 0x08 ∷ 0x00 ∷ 0x00 ∷ 0x00 ∷ 0x01 ∷ 0x02 ∷ 0x03 ∷ 0x04 ∷ 0x05 ∷ 0x06 ∷ 0x07 ∷ 0x08 ∷ [])
unfolding all
long_words_spelled = ([], ([], refl, record { no_item = λ e. omega (arith, e); head = record { tag_is = refl; vr_is = refl; whole = lit≤ tt; length_is = refl; after_is = refl } }, refl), refl, refl, refl)

pub long_words_stop : stop_at no_bar Little 172 (whole_set (leaf (tag 0x0009 0x1001) OV (0x01 ∷ 0x02 ∷ 0x03 ∷ 0x04 ∷ 0x05 ∷ 0x06 ∷ 0x07 ∷ 0x08 ∷ []) no_tree) (tag 0x0009 0x1001)) 192 [] ≡ Some complete
unfolding all
long_words_stop = refl

pub words_spelled : SpellsFront Little (whole_set (leaf (tag 0x7FE0 0x0010) OW (0x01 ∷ 0x02 ∷ 0x03 ∷ 0x04 ∷ []) no_tree) (tag 0x7FE0 0x0010)) (0xE0 ∷ 0x7F ∷ 0x10 ∷ 0x00 ∷ 0x4F ∷ 0x57 ∷ 0x00 ∷ 0x00 ∷ 0x04 ∷ 0x00 ∷ 0x00 ∷ 0x00 ∷ 0x01 ∷ 0x02 ∷ 0x03 ∷ 0x04 ∷ [])
unfolding all
words_spelled = ([], ([], refl, record { no_item = λ e. omega (arith, e); head = record { tag_is = refl; vr_is = refl; whole = lit≤ tt; length_is = refl; after_is = refl } }, refl), refl, refl, refl)

pub words_stop : stop_at no_bar Little 172 (whole_set (leaf (tag 0x7FE0 0x0010) OW (0x01 ∷ 0x02 ∷ 0x03 ∷ 0x04 ∷ []) no_tree) (tag 0x7FE0 0x0010)) 188 [] ≡ Some complete
unfolding all
words_stop = refl

pub undefined_long_words : stop_at no_bar Little 172 nothing_read 172 (0x09 ∷ 0x00 ∷ 0x01 ∷ 0x10 ∷ 0x4F ∷ 0x56 ∷ 0x00 ∷ 0x00 ∷ 0xFF ∷ 0xFF ∷ 0xFF ∷ 0xFF ∷ []) ≡ Some (refused UndefinedLength 172)
unfolding all
undefined_long_words = refl

-- the length of a group, and an element behind it
pub group_spelled : SpellsFront Little (whole_set (leaf (tag 0x0008 0x0000) UL (0x0A ∷ 0x00 ∷ 0x00 ∷ 0x00 ∷ []) (leaf (tag 0x0008 0x0060) CS (0x4D ∷ 0x52 ∷ []) no_tree)) (tag 0x0008 0x0060)) (0x08 ∷ 0x00 ∷ 0x00 ∷ 0x00 ∷ 0x55 ∷ 0x4C ∷ 0x04 ∷ 0x00 ∷ 0x0A ∷ 0x00 ∷ 0x00 ∷ 0x00 ∷ 0x08 ∷ 0x00 ∷ 0x60 ∷ 0x00 ∷ 0x43 ∷ 0x53 ∷ 0x02 ∷ 0x00 ∷ 0x4D ∷ 0x52 ∷ [])
unfolding all
group_spelled = (
  [],
  (0x08 ∷ 0x00 ∷ 0x60 ∷ 0x00 ∷ 0x43 ∷ 0x53 ∷ 0x02 ∷ 0x00 ∷ 0x4D ∷ 0x52 ∷ [], refl, record { no_item = λ e. omega (arith, e); head = record { tag_is = refl; vr_is = refl; whole = lit≤ tt; length_is = refl; after_is = refl } }, ([], refl, record { no_item = λ e. omega (arith, e); head = record { tag_is = refl; vr_is = refl; whole = lit≤ tt; length_is = refl; after_is = refl } }, refl)),
  refl,
  refl,
  refl,
)
