-- What is open of a data set that is built line by line.
use Rattle.std.specs.Prelude.{ℕ, suc, List, [], ◌∷◌, Option, Some, None}
use Rattle.dcm_base.specs.declared.tag.Tag.{Tag}
use Rattle.dcm_base.specs.declared.level.Container.{Container}
use Rattle.dcm_base.specs.declared.level.Container.TheVariants.{DataSet as the_data_set, Item as an_item}
use Rattle.dcm_base.specs.declared.level.Container.TheVariants.{Sequence as a_sequence, FragmentList as a_fragment_list}
use Rattle.dcm_base.specs.Lines.Line.{Step, show_leaf, begin_sequence, begin_fragments, begin_item, show_fragment}
use Rattle.dcm_base.specs.Lines.Line.{end_item, end_sequence}
use Rattle.dcm_build.specs.declared.open_containers.Open.{Open}
use Rattle.dcm_build.specs.declared.open_containers.Open.TheVariants.{Sequence, FragmentList, Item}

-- the tag of the last element of the top data set, and what is open in it, the innermost first
pub record OpenContainers : Type 0 where
  pub reached : Option Tag
  pub containers : List Open

abbrev pub at_top : OpenContainers
at_top = record { reached = None; containers = [] }

abbrev pub container_of : List Open → Container
container_of [] = the_data_set
container_of (Sequence ∷ outer) = a_sequence
container_of (FragmentList ∷ outer) = a_fragment_list
container_of (Item reached ∷ outer) = an_item

-- the tag of the last element of the innermost data set
abbrev pub reached_in : Option Tag → List Open → Option Tag
reached_in top [] = top
reached_in top (Sequence ∷ outer) = reached_in top outer
reached_in top (FragmentList ∷ outer) = reached_in top outer
reached_in top (Item reached ∷ outer) = reached

-- how many sequences and fragment lists are open
abbrev pub lists_open : List Open → ℕ
lists_open [] = 0
lists_open (Sequence ∷ outer) = suc (lists_open outer)
lists_open (FragmentList ∷ outer) = suc (lists_open outer)
lists_open (Item reached ∷ outer) = lists_open outer

-- an element of the innermost data set
abbrev pub reaching : Tag → OpenContainers → OpenContainers
reaching tag s = elim s.containers [
  | Item reached ∷ outer ↦ record s { containers = Item (Some tag) ∷ outer }
  | others ↦ record s { reached = Some tag }
]

abbrev pub entering : Open → OpenContainers → OpenContainers
entering o s = record s { containers = o ∷ s.containers }

abbrev pub without_innermost : List Open → List Open
without_innermost [] = []
without_innermost (o ∷ outer) = outer

abbrev pub leaving : OpenContainers → OpenContainers
leaving s = record s { containers = without_innermost s.containers }

-- with one step more, which has its place there
abbrev pub standing_with : Step → OpenContainers → OpenContainers
standing_with (show_leaf tag vr value) s = reaching tag s
standing_with (begin_sequence tag vr) s = entering Sequence (reaching tag s)
standing_with (begin_fragments tag vr) s = entering FragmentList (reaching tag s)
standing_with begin_item s = entering (Item None) s
standing_with (show_fragment value) s = s
standing_with end_item s = leaving s
standing_with end_sequence s = leaving s
