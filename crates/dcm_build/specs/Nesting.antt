-- How what is open of a data set is nested.
use Rattle.std.specs.Prelude.{◌≡◌, ◌≤◌, List, [], ◌∷◌, Bool, true, false, ⊤}
use Rattle.dcm_base.specs.declared.level.Container.TheVariants.{Sequence as a_sequence}
use Rattle.dcm_base.specs.declared.level.TheConstants.{MOST_LISTS}
use Rattle.dcm_build.specs.declared.open_containers.Open.{Open}
use Rattle.dcm_build.specs.declared.open_containers.Open.TheVariants.{Sequence, FragmentList, Item}
use Rattle.dcm_build.specs.OpenContainers.{container_of, lists_open}

abbrev pub is_list : Open → Bool
is_list Sequence = true
is_list FragmentList = true
is_list (Item reached) = false

-- each item is in a sequence
abbrev pub InSequences : List Open → Type 0
InSequences [] = ⊤
InSequences (Sequence ∷ outer) = InSequences outer
InSequences (FragmentList ∷ outer) = InSequences outer
InSequences (Item reached ∷ outer) = (container_of outer ≡ a_sequence) × InSequences outer

-- and no more than 64 sequences and fragment lists are open
pub record Nests (open_ones : List Open) : Type 0 where
  pub items : InSequences open_ones
  pub few : lists_open open_ones ≤ MOST_LISTS
