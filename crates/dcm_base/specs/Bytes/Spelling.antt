-- How trees, and a data set as far as it was read, stand in bytes (PS3.5 7.5, A.4).
use Rattle.std.specs.Prelude.{◌≡◌, ℕ, ◌≤◌, ◌<◌, List, [], ◌∷◌, ◌++◌, length, take, bytes_eq, Bool, true, false, ◌==◌}
use Rattle.std.specs.Prelude.{◌&&◌, if◌then◌else◌, Option, Some, None}
use Rattle.dcm_base.specs.declared.tag.Tag.{Tag}
use Rattle.dcm_base.specs.declared.vr.Vr.{Vr}
use Rattle.dcm_base.specs.declared.vr.Vr.TheVariants.{SQ, UN, OB, OW}
use Rattle.dcm_base.specs.declared.syntax.Syntax.{Syntax}
use Rattle.dcm_base.specs.declared.syntax.Syntax.TheVariants.{Implicit as implicit_in, Little as little_in}
use Rattle.dcm_base.specs.declared.dictionary.Dictionary.{Dictionary}
use Rattle.dcm_base.specs.declared.dictionary.Dictionary.TheVariants.{Extract}
use Rattle.dcm_base.specs.Tables.Dictionary.{if_signed, vr_in}
use Rattle.dcm_base.specs.Tables.Representation.{pad, is_sequence}
use Rattle.dcm_base.specs.Tables.Syntax.{dictionary_of, read_by}
use Rattle.dcm_base.specs.declared.length.Length.{Length}
use Rattle.dcm_base.specs.declared.length.Length.TheVariants.{Known, Undefined}
use Rattle.dcm_base.specs.Tree.Tree.{Trees, no_tree, leaf, sequence, fragments, Items, no_item, item}
use Rattle.dcm_base.specs.Tree.Front.{Front, front, OpenTree, nothing_open, open_leaf, open_sequence, open_fragments}
use Rattle.dcm_base.specs.Tree.Front.{OpenItem, no_open_item, open_item}
use Rattle.dcm_base.specs.Bytes.Head.{ElementHead, ItemHead, Delimiter}
use Rattle.dcm_base.specs.Tables.Tag.{item_end_tag, sequence_end_tag}
use Rattle.dcm_base.specs.Tree.Value.{order, evened}
-- what a head says that follows it
pub use Rattle.dcm_base.specs.declared.form.Form.{Form}
pub use Rattle.dcm_base.specs.declared.form.Form.TheVariants.{Value as a_value, Sequence as a_sequence}
pub use Rattle.dcm_base.specs.declared.form.Form.TheVariants.{FragmentList as a_fragment_list, Nothing as no_form}

unfoldable pub form : Syntax → Vr → Length → Form
form s SQ declared = a_sequence
form s UN Undefined = a_sequence
form (little_in d) OB Undefined = a_fragment_list
form (little_in d) OW Undefined = a_fragment_list
form s vr (Known size) = a_value
form s vr Undefined = no_form

-- UN of a tag that the dictionary calls a sequence is one (PS3.5 6.2.2); the extract leaves UN of known length unknown
abbrev pub read_in : Dictionary → Tag → Vr → Vr
read_in Extract tag vr = vr
read_in d tag UN = if is_sequence (vr_in d tag) then SQ else UN
read_in d tag vr = vr

-- the representation by which the contents of an element are read; an implicit head has the dictionary's already
abbrev pub read_as : Syntax → Tag → Vr → Vr
read_as (implicit_in d) tag vr = vr
read_as s tag vr = read_in (dictionary_of s) tag vr

-- a sequence that is spelled as UN holds implicit VR little endian, read by the same dictionary (PS3.5 6.2.2)
unfoldable pub inside : Syntax → Vr → Syntax
inside s UN = implicit_in (dictionary_of s)
inside s vr = s

-- PixelRepresentation, which says whether pixels are signed (PS3.3 C.7.6.3.1.4)
abbrev pub says_sign : Tag → Bool
says_sign t = (t.group == 0x28) && (t.element == 0x103)

-- a value that is written in little endian order, with its pad byte, as 01 00 and whatever follows
abbrev pub is_one : Vr → List ℕ → Bool
is_one vr value = bytes_eq (take 2 (evened (pad vr) value)) (1 ∷ 0 ∷ [])

unfoldable pub sign_after : Dictionary → Tag → Vr → List ℕ → Dictionary
sign_after d tag vr value = if says_sign tag then if_signed (is_one vr value) d else d

-- the dictionary after a leaf; the extract has no elements that depend on the sign
abbrev pub dictionary_after : Dictionary → Tag → Vr → List ℕ → Dictionary
dictionary_after Extract tag vr value = Extract
dictionary_after d tag vr value = sign_after d tag vr value

-- the syntax of what comes after a leaf in its data set
abbrev pub after : Syntax → Tag → Vr → List ℕ → Syntax
after s tag vr value = read_by (dictionary_after (dictionary_of s) tag vr value) s

-- the syntax after trees: a sequence changes nothing, whatever its items hold
abbrev pub after_trees : Syntax → Trees → Syntax
after_trees s no_tree = s
after_trees s (leaf tag vr value rest) = after_trees (after s tag vr value) rest
after_trees s (sequence tag vr declared items rest) = after_trees s rest
after_trees s (fragments tag vr values rest) = after_trees s rest

-- Contents stand in bytes as the declared length says: in just so many bytes, or up to the delimiter
abbrev pub Enclosed : Syntax → Tag → Length → (List ℕ → List ℕ → Type 0) → List ℕ → List ℕ → Type 0
Enclosed s end_tag (Known size) Contents bytes after = (inner : List ℕ) × (bytes ≡ inner ++ after)
    × (length inner ≡ size) × Contents inner []
Enclosed s end_tag Undefined Contents bytes after = (behind : List ℕ) × Contents bytes behind
    × Delimiter s end_tag behind after

-- bytes begin with items of these values, and after follows them
unfoldable pub FragmentsAt : Syntax → List (List ℕ) → List ℕ → List ℕ → Type 0
FragmentsAt s [] bytes after = bytes ≡ after
FragmentsAt s (value ∷ rest) bytes after = (others : List ℕ)
    × ItemHead s (Known (length value)) bytes (value ++ others) × FragmentsAt s rest others after

-- bytes begin with the spelling of these trees or items, and after follows it
unfoldable mutual
  pub TreesAt : Syntax → Trees → List ℕ → List ℕ → Type 0
  TreesAt s no_tree bytes after = bytes ≡ after
  TreesAt s (leaf tag vr value rest) bytes behind =
      (others : List ℕ) × (form s (read_as s tag vr) (Known (length value)) ≡ a_value)
      × ElementHead s tag vr (Known (length value)) bytes (order s vr value ++ others)
      × TreesAt (after s tag vr value) rest others behind
  TreesAt s (sequence tag vr declared items rest) bytes after =
      (contents others : List ℕ) × (form s (read_as s tag vr) declared ≡ a_sequence)
      × ElementHead s tag vr declared bytes contents
      × Enclosed (inside s vr) sequence_end_tag declared (ItemsAt (inside s vr) items) contents others
      × TreesAt s rest others after
  TreesAt s (fragments tag vr values rest) bytes after =
      (contents others : List ℕ) × (form s (read_as s tag vr) Undefined ≡ a_fragment_list)
      × ElementHead s tag vr Undefined bytes contents
      × Enclosed s sequence_end_tag Undefined (FragmentsAt s values) contents others
      × TreesAt s rest others after

  pub ItemsAt : Syntax → Items → List ℕ → List ℕ → Type 0
  ItemsAt s no_item bytes after = bytes ≡ after
  ItemsAt s (item declared set rest) bytes after =
      (contents others : List ℕ) × ItemHead s declared bytes contents
      × Enclosed s item_end_tag declared (TreesAt s set) contents others
      × ItemsAt s rest others after

-- bytes are the spelling of these trees
abbrev pub Spells : Syntax → Trees → List ℕ → Type 0
Spells s trees bytes = TreesAt s trees bytes []

-- the tag of the last of these trees
unfoldable pub last_tag : Option Tag → Trees → Option Tag
last_tag before no_tree = before
last_tag before (leaf tag vr value rest) = last_tag (Some tag) rest
last_tag before (sequence tag vr declared items rest) = last_tag (Some tag) rest
last_tag before (fragments tag vr values rest) = last_tag (Some tag) rest

-- the tag of the last head of a set
abbrev pub reached_tag : Trees → OpenTree → Option Tag
reached_tag whole nothing_open = last_tag None whole
reached_tag whole (open_leaf tag vr size value) = Some tag
reached_tag whole (open_sequence tag vr declared items last) = Some tag
reached_tag whole (open_fragments tag vr values last) = Some tag

abbrev pub is_open : OpenTree → Bool
is_open nothing_open = false
is_open (open_leaf tag vr size value) = true
is_open (open_sequence tag vr declared items last) = true
is_open (open_fragments tag vr values last) = true

abbrev pub is_open_item : OpenItem → Bool
is_open_item no_open_item = false
is_open_item (open_item declared set) = true

abbrev pub holds_open : Front → Bool
holds_open (front whole open_tree reached closed) = is_open open_tree

-- what is open doesn't pass its declared length, and reaches it only with something open in it
abbrev pub StaysOpen : Length → Bool → List ℕ → Type 0
StaysOpen Undefined holds contents = Unit {0}
StaysOpen (Known size) true contents = length contents ≤ size
StaysOpen (Known size) false contents = length contents < size

-- bytes are the open fragment as far as it goes
abbrev pub SpellsOpenFragment : Syntax → Option (ℕ × List ℕ) → List ℕ → Type 0
SpellsOpenFragment s None bytes = bytes ≡ []
SpellsOpenFragment s (Some fragment) bytes = (length fragment.1 < fragment.0)
    × ItemHead s (Known fragment.0) bytes fragment.1

-- bytes are the spelling of a data set as far as it was read
unfoldable mutual
  pub SpellsFront : Syntax → Front → List ℕ → Type 0
  SpellsFront s (front whole open_tree reached closed) bytes =
      (others : List ℕ) × TreesAt s whole bytes others × SpellsOpen (after_trees s whole) open_tree others
      × (reached ≡ reached_tag whole open_tree) × (closed ≡ false)

  pub SpellsOpen : Syntax → OpenTree → List ℕ → Type 0
  SpellsOpen s nothing_open bytes = bytes ≡ []
  SpellsOpen s (open_leaf tag vr size value) bytes =
      (form s (read_as s tag vr) (Known size) ≡ a_value) × (length value < size)
      × ElementHead s tag vr (Known size) bytes (order s vr value)
  SpellsOpen s (open_sequence tag vr declared items last) bytes =
      (contents others : List ℕ) × (form s (read_as s tag vr) declared ≡ a_sequence)
      × ElementHead s tag vr declared bytes contents
      × StaysOpen declared (is_open_item last) contents
      × ItemsAt (inside s vr) items contents others
      × SpellsOpenItem (inside s vr) last others
  SpellsOpen s (open_fragments tag vr values last) bytes =
      (contents others : List ℕ) × (form s (read_as s tag vr) Undefined ≡ a_fragment_list)
      × ElementHead s tag vr Undefined bytes contents
      × FragmentsAt s values contents others
      × SpellsOpenFragment s last others

  pub SpellsOpenItem : Syntax → OpenItem → List ℕ → Type 0
  SpellsOpenItem s no_open_item bytes = bytes ≡ []
  SpellsOpenItem s (open_item declared set) bytes =
      (contents : List ℕ) × ItemHead s declared bytes contents
      × StaysOpen declared (holds_open set) contents
      × SpellsFront s set contents
