-- How much a machine holds.
use Rattle.std.specs.Prelude.{◌≡◌, ℕ, ◌≤◌, ◌<◌, List, [], ◌∷◌, length, Bool, None, true, false, ◌&&◌, not, is_some}
use Rattle.dcm_base.specs.declared.tag.Tag.{Tag}
use Rattle.dcm_base.specs.declared.vr.Vr.{Vr}
use Rattle.dcm_base.specs.declared.length.Length.{Length}
use Rattle.dcm_base.specs.declared.level.Container.{Container}
use Rattle.dcm_base.specs.declared.level.Level.{Level}
use Rattle.dcm_base.specs.declared.level.Container.TheVariants.{DataSet as the_data_set, Item as an_item}
use Rattle.dcm_base.specs.declared.level.Container.TheVariants.{Sequence as a_sequence, FragmentList as a_fragment_list}
use Rattle.dcm_base.specs.Reading.Place.{depth, room, passes}
use Rattle.dcm_base.specs.Reading.Stop.{HeadBar, is_the_data_set, is_early_bar}
use Rattle.dcm_stream.specs.Reading.{Reading, read_byte}

-- which container may be directly in which (PS3.5 7.5, A.4)
abbrev pub may_hold : (outer inner : Container) → Bool
may_hold a_sequence an_item = true
may_hold the_data_set a_sequence = true
may_hold the_data_set a_fragment_list = true
may_hold an_item a_sequence = true
may_hold an_item a_fragment_list = true
may_hold _ _ = false

-- the outermost container is the data set, which has no known end, and each other is in the next
unfoldable pub are_nested : List Level → Bool
are_nested [] = false
are_nested (inner ∷ []) = is_the_data_set inner.container && not (is_some inner.end_offset)
are_nested (inner ∷ next ∷ outer) = may_hold next.container inner.container && are_nested (next ∷ outer)

-- a head is never held whole, nor with a value open, and where one may come there is room for it; no more than 64
-- sequences and fragment lists are open
pub record IsSmall (r : Reading) : Type 0 where
  pub head_is : length r.head < 12
  pub nested : are_nested r.levels ≡ true
  pub shallow : depth r.levels ≤ 64
  pub no_head : 0 < r.left → r.head ≡ []
  pub room_for : r.halt ≡ None → r.left ≡ 0 → passes 8 (room r.position r.levels) ≡ false

-- what is small takes few containers, and stays small at each byte
pub record StaysSmall (r : Reading) : Type 0 where
  pub containers : length r.levels ≤ 129
  pub next : (bar : HeadBar) (b : ℕ)
      → ((tag : Tag) (vr : Vr) (declared : Length) → is_early_bar (bar tag vr declared) ≡ false)
      → IsSmall (read_byte bar r b).0
