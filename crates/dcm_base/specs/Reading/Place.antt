-- Where a data set that is being read stands: what is open, and which heads may come there.
use Rattle.std.specs.Prelude.{ℕ, ◌+◌, ◌-◌, min, List, [], ◌∷◌, Bool, true, false, ◌&&◌, ◌||◌, not, nat_lt, ◌==◌, Option}
use Rattle.std.specs.Prelude.{Some, None, is_some}
use Rattle.dcm_base.specs.declared.tag.Tag.{Tag}
use Rattle.dcm_base.specs.declared.syntax.Syntax.{Syntax}
use Rattle.dcm_base.specs.declared.length.Length.{Length}
use Rattle.dcm_base.specs.declared.length.Length.TheVariants.{Known, Undefined}
use Rattle.dcm_base.specs.Tree.Front.{Front, front, OpenTree, nothing_open, open_leaf, open_sequence, open_fragments}
use Rattle.dcm_base.specs.Tree.Front.{OpenItem, no_open_item, open_item}
use Rattle.dcm_base.specs.Bytes.Head.{head_size}
use Rattle.dcm_base.specs.Tables.Tag.{is_item, is_item_end, is_sequence_end}
use Rattle.dcm_base.specs.Bytes.Spelling.{inside, after_trees}
use Rattle.dcm_base.specs.Reading.Size.{trees_size, items_size}
pub use Rattle.dcm_base.specs.declared.level.Container.{Container}
pub use Rattle.dcm_base.specs.declared.level.Container.TheVariants.{DataSet as the_data_set, Item as an_item}
pub use Rattle.dcm_base.specs.declared.level.Container.TheVariants.{Sequence as a_sequence}
pub use Rattle.dcm_base.specs.declared.level.Container.TheVariants.{FragmentList as a_fragment_list}
-- a container that stands open: the syntax of what it holds, its length, and the offset of its end where that is known
pub use Rattle.dcm_base.specs.declared.level.Level.{Level}

abbrev pub end_of : Length → ℕ → Option ℕ
end_of (Known size) begin = Some (begin + size)
end_of Undefined begin = None

abbrev pub level : Container → Syntax → Length → ℕ → Level
level container s declared begin =
    record { container = container; syntax = s; declared = declared; end_offset = end_of declared begin }

-- the open containers, the innermost first, of a set whose contents begin at this offset
unfoldable mutual
  pub set_levels : Syntax → Container → Length → (begin : ℕ) → (outer : List Level) → Front → List Level
  set_levels s container declared begin outer (front whole open_tree reached closed) =
      tree_levels (after_trees s whole) (begin + trees_size s whole)
      (level container (after_trees s whole) declared begin ∷ outer) open_tree

  pub tree_levels : Syntax → (begin : ℕ) → (outer : List Level) → OpenTree → List Level
  tree_levels s begin outer nothing_open = outer
  tree_levels s begin outer (open_leaf tag vr size value) = outer
  tree_levels s begin outer (open_sequence tag vr declared items last) =
      item_levels (inside s vr) (begin + head_size s vr + items_size (inside s vr) items)
      (level a_sequence (inside s vr) declared (begin + head_size s vr) ∷ outer) last
  tree_levels s begin outer (open_fragments tag vr values last) =
      level a_fragment_list s Undefined (begin + head_size s vr) ∷ outer

  pub item_levels : Syntax → (begin : ℕ) → (outer : List Level) → OpenItem → List Level
  item_levels s begin outer no_open_item = outer
  item_levels s begin outer (open_item declared set) = set_levels s an_item declared (begin + 8) outer set

unfoldable pub levels : Syntax → (start : ℕ) → Front → List Level
levels s start f = set_levels s the_data_set Undefined start [] f

-- whether a value or a fragment stands open
unfoldable mutual
  pub value_open : Front → Bool
  value_open (front whole open_tree reached closed) = value_open_in_tree open_tree

  pub value_open_in_tree : OpenTree → Bool
  value_open_in_tree nothing_open = false
  value_open_in_tree (open_leaf tag vr size value) = true
  value_open_in_tree (open_sequence tag vr declared items last) = value_open_in_item last
  value_open_in_tree (open_fragments tag vr values last) = is_some last

  pub value_open_in_item : OpenItem → Bool
  value_open_in_item no_open_item = false
  value_open_in_item (open_item declared set) = value_open set

abbrev pub least : Option ℕ → Option ℕ → Option ℕ
least None b = b
least (Some a) None = Some a
least (Some a) (Some b) = Some (min a b)

abbrev pub distance : ℕ → Option ℕ → Option ℕ
distance position None = None
distance position (Some end) = Some (end - position)

-- the least distance to the end of an open container, where one is known
unfoldable pub room : ℕ → List Level → Option ℕ
room position [] = None
room position (inner ∷ outer) = least (distance position inner.end_offset) (room position outer)

abbrev pub passes : ℕ → Option ℕ → Bool
passes size None = false
passes size (Some room) = nat_lt room size

abbrev pub counts : Container → ℕ
counts a_sequence = 1
counts a_fragment_list = 1
counts the_data_set = 0
counts an_item = 0

-- how many sequences and fragment lists are open
unfoldable pub depth : List Level → ℕ
depth [] = 0
depth (inner ∷ outer) = counts inner.container + depth outer

abbrev pub is_undefined : Length → Bool
is_undefined (Known size) = false
is_undefined Undefined = true

-- elements but those of the groups 0002 and FFFE
abbrev pub is_data : Tag → Bool
is_data tag = not (tag.group == 0xFFFE) && not (tag.group == 0x0002)

-- whether a head of this tag may come in a container (PS3.5 7.5)
unfoldable pub is_allowed : Container → Length → Tag → Bool
is_allowed the_data_set declared tag = is_data tag
is_allowed an_item declared tag = is_data tag || (is_undefined declared && is_item_end tag)
is_allowed a_sequence declared tag = is_item tag || (is_undefined declared && is_sequence_end tag)
is_allowed a_fragment_list declared tag = is_item tag || is_sequence_end tag
