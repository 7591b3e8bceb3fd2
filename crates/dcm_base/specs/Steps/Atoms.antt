-- A data set as a row of atoms: tokens, with one atom for each byte of a value.
use Rattle.std.specs.Prelude.{◌≡◌, ℕ, ◌<◌, List, [], ◌∷◌, ◌++◌, length, map, Bool, true, false, Option, Some, None}
use Rattle.dcm_base.specs.declared.tag.Tag.{Tag}
use Rattle.dcm_base.specs.declared.vr.Vr.{Vr}
use Rattle.dcm_base.specs.declared.syntax.Syntax.{Syntax}
use Rattle.dcm_base.specs.declared.length.Length.{Length}
use Rattle.dcm_base.specs.declared.length.Length.TheVariants.{Known, Undefined}
use Rattle.dcm_base.specs.Tree.Tree.{Trees, no_tree, leaf, sequence, fragments, Items, no_item, item}
use Rattle.dcm_base.specs.Tree.Front.{Front, front, OpenTree, nothing_open, open_leaf, open_sequence, open_fragments}
use Rattle.dcm_base.specs.Tree.Front.{OpenItem, no_open_item, open_item}
use Rattle.dcm_base.specs.Tree.Value.{order}
use Rattle.dcm_base.specs.Bytes.Spelling.{a_value, a_sequence, a_fragment_list, form, inside, reached_tag, after}
use Rattle.dcm_base.specs.Bytes.Spelling.{after_trees, read_as}

pub data Atom : Type 0 where
  opens : (tag : Tag) (vr : Vr) (declared : Length) (s : Syntax) → Atom
  value_byte : (byte : ℕ) → Atom
  closes_leaf : Atom
  opens_item : (declared : Length) → Atom
  closes_item : Atom
  closes_sequence : Atom
  opens_fragment : (size : ℕ) → Atom
  ends : Atom

-- the atoms of whole fragments, and then others
unfoldable pub fragments_then : List (List ℕ) → List Atom → List Atom
fragments_then [] others = others
fragments_then (value ∷ rest) others =
    opens_fragment (length value) ∷ (map value_byte value ++ closes_leaf ∷ fragments_then rest others)

-- atoms begin with those of these trees or items, each element in some syntax, and after follows them
unfoldable mutual
  pub ShowTrees : Trees → List Atom → List Atom → Type 0
  ShowTrees no_tree atoms after = atoms ≡ after
  ShowTrees (leaf tag vr value rest) atoms after =
      (s : Syntax) × (others : List Atom) × (form s (read_as s tag vr) (Known (length value)) ≡ a_value)
      × (atoms ≡ opens tag vr (Known (length value)) s ∷ (map value_byte (order s vr value) ++ closes_leaf ∷ others))
      × ShowTrees rest others after
  ShowTrees (sequence tag vr declared items rest) atoms after =
      (s : Syntax) × (contents others : List Atom) × (form s (read_as s tag vr) declared ≡ a_sequence)
      × (atoms ≡ opens tag vr declared s ∷ contents)
      × ShowItems items contents (closes_sequence ∷ others)
      × ShowTrees rest others after
  ShowTrees (fragments tag vr values rest) atoms after =
      (s : Syntax) × (others : List Atom) × (form s (read_as s tag vr) Undefined ≡ a_fragment_list)
      × (atoms ≡ opens tag vr Undefined s ∷ fragments_then values (closes_sequence ∷ others))
      × ShowTrees rest others after

  pub ShowItems : Items → List Atom → List Atom → Type 0
  ShowItems no_item atoms after = atoms ≡ after
  ShowItems (item declared set rest) atoms after =
      (contents others : List Atom) × (atoms ≡ opens_item declared ∷ contents)
      × ShowTrees set contents (closes_item ∷ others)
      × ShowItems rest others after

-- the atoms of the open fragment as far as it goes
abbrev pub open_fragment_atoms : Option (ℕ × List ℕ) → List Atom
open_fragment_atoms None = []
open_fragment_atoms (Some fragment) = opens_fragment fragment.0 ∷ map value_byte fragment.1

abbrev pub end_atoms : Bool → List Atom
end_atoms false = []
end_atoms true = ends ∷ []

-- bytes of the open fragment are still to come
abbrev pub MissesFragment : Option (ℕ × List ℕ) → Type 0
MissesFragment None = Unit {0}
MissesFragment (Some fragment) = length fragment.1 < fragment.0

-- a set is closed only with nothing open in it
abbrev pub MayEnd : OpenTree → Bool → Type 0
MayEnd open_tree false = Unit {0}
MayEnd open_tree true = open_tree ≡ nothing_open

abbrev pub is_closed : Front → Bool
is_closed (front whole open_tree reached closed) = closed

-- the atoms are those of a data set as far as it was read; of an open value or fragment bytes are still to come
unfoldable mutual
  pub Shows : Front → List Atom → Type 0
  Shows (front whole open_tree reached closed) atoms =
      (others : List Atom) × ShowTrees whole atoms others × ShowsOpen open_tree (end_atoms closed) others
      × MayEnd open_tree closed × (reached ≡ reached_tag whole open_tree)

  pub ShowsOpen : OpenTree → List Atom → List Atom → Type 0
  ShowsOpen nothing_open at_end atoms = atoms ≡ at_end
  ShowsOpen (open_leaf tag vr size value) at_end atoms =
      (s : Syntax) × (form s (read_as s tag vr) (Known size) ≡ a_value) × (length value < size)
      × (atoms ≡ opens tag vr (Known size) s ∷ map value_byte (order s vr value))
  ShowsOpen (open_sequence tag vr declared items last) at_end atoms =
      (s : Syntax) × (contents others : List Atom) × (form s (read_as s tag vr) declared ≡ a_sequence)
      × (atoms ≡ opens tag vr declared s ∷ contents)
      × ShowItems items contents others × ShowsOpenItem last others
  ShowsOpen (open_fragments tag vr values last) at_end atoms =
      (s : Syntax) × (form s (read_as s tag vr) Undefined ≡ a_fragment_list) × MissesFragment last
      × (atoms ≡ opens tag vr Undefined s ∷ fragments_then values (open_fragment_atoms last))

  pub ShowsOpenItem : OpenItem → List Atom → Type 0
  ShowsOpenItem no_open_item atoms = atoms ≡ []
  ShowsOpenItem (open_item declared set) atoms =
      (contents : List Atom) × (atoms ≡ opens_item declared ∷ contents) × (is_closed set ≡ false) × Shows set contents

-- the atoms of trees that are spelled in this syntax, and then others
unfoldable mutual
  pub trees_then : Syntax → Trees → List Atom → List Atom
  trees_then s no_tree others = others
  trees_then s (leaf tag vr value rest) others =
      opens tag vr (Known (length value)) s ∷ (map value_byte (order s vr value)
      ++ closes_leaf ∷ trees_then (after s tag vr value) rest others)
  trees_then s (sequence tag vr declared items rest) others =
      opens tag vr declared s ∷ items_then (inside s vr) items (closes_sequence ∷ trees_then s rest others)
  trees_then s (fragments tag vr values rest) others =
      opens tag vr Undefined s ∷ fragments_then values (closes_sequence ∷ trees_then s rest others)

  pub items_then : Syntax → Items → List Atom → List Atom
  items_then s no_item others = others
  items_then s (item declared set rest) others =
      opens_item declared ∷ trees_then s set (closes_item ∷ items_then s rest others)

-- the atoms of a data set that is spelled in this syntax, as far as it was read
unfoldable mutual
  pub front_atoms : Syntax → Front → List Atom
  front_atoms s (front whole open_tree reached closed) =
      trees_then s whole (open_atoms (after_trees s whole) open_tree (end_atoms closed))

  pub open_atoms : Syntax → OpenTree → List Atom → List Atom
  open_atoms s nothing_open at_end = at_end
  open_atoms s (open_leaf tag vr size value) at_end = opens tag vr (Known size) s ∷ map value_byte (order s vr value)
  open_atoms s (open_sequence tag vr declared items last) at_end =
      opens tag vr declared s ∷ items_then (inside s vr) items (open_item_atoms (inside s vr) last)
  open_atoms s (open_fragments tag vr values last) at_end =
      opens tag vr Undefined s ∷ fragments_then values (open_fragment_atoms last)

  pub open_item_atoms : Syntax → OpenItem → List Atom
  open_item_atoms s no_open_item = []
  open_item_atoms s (open_item declared set) = opens_item declared ∷ front_atoms s set
