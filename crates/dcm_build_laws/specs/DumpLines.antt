-- What the lines of a full dump show, one after another.
use Rattle.std.specs.Prelude.{◌≡◌, ◌≢◌, ◌≤◌, ◌%◌, ℕ, List, [], ◌∷◌, ◌++◌, length, map, Some, true, false, nat_le}
use Rattle.std.specs.List.{list_all}
use Rattle.dcm_base.specs.declared.tag.Tag.{Tag}
use Rattle.dcm_base.specs.declared.tag.TheConstants.{ITEM_GROUP}
use Rattle.dcm_base.specs.declared.vr.Vr.{Vr}
use Rattle.dcm_base.specs.declared.vr.Vr.TheVariants.{OB}
use Rattle.dcm_base.specs.Tables.Number.{AreBytes, HasLength, IsLength, IsTag}
use Rattle.dcm_base.specs.Tables.Representation.{is_sequence}
use Rattle.dcm_base.specs.Tree.Tree.{Trees, no_tree, leaf, sequence, fragments, Items, no_item, item}
use Rattle.dcm_base.specs.Dump.ValueText.{shown_unit}
use Rattle.dcm_base.specs.Lines.ReadValue.{value_shown}
use Rattle.dcm_base.specs.Lines.Line.{Step, show_leaf, begin_sequence, begin_fragments, begin_item, show_fragment}
use Rattle.dcm_base.specs.Lines.Line.{end_item, end_sequence, one, means, may_be_sequence, may_be_fragments}

-- ---- steps

abbrev pub fragment_step : List ℕ → Step
fragment_step value = show_fragment (Some value)

-- of the elements of a data set, and of the items of a sequence
unfoldable mutual
  pub set_steps : Trees → List Step
  set_steps no_tree = []
  set_steps (leaf tag vr value rest) = show_leaf tag vr (Some (value_shown vr value)) ∷ set_steps rest
  set_steps (sequence tag vr declared items rest) =
      begin_sequence tag vr ∷ (items_steps items ++ end_sequence ∷ set_steps rest)
  set_steps (fragments tag vr values rest) =
      begin_fragments tag vr ∷ (map fragment_step values ++ end_sequence ∷ set_steps rest)

  pub items_steps : Items → List Step
  items_steps no_item = []
  items_steps (item declared set rest) = begin_item ∷ (set_steps set ++ end_item ∷ items_steps rest)

-- ---- lines

-- lines, each with its newline
abbrev pub joined : List (List ℕ) → List ℕ
joined [] = []
joined (line ∷ lines) = line ++ 10 ∷ joined lines

-- none of these lines passes a limit
abbrev pub AllWithin : ℕ → List (List ℕ) → Type 0
AllWithin limit [] = Unit {0}
AllWithin limit (line ∷ lines) = (length line ≤ limit) × AllWithin limit lines

-- none holds a control
abbrev pub ArePrinted : List (List ℕ) → Type 0
ArePrinted [] = Unit {0}
ArePrinted (line ∷ lines) = (list_all (λ c. nat_le 32 c) line ≡ true) × ArePrinted lines

-- each means its step
abbrev pub EachMeans : List (List ℕ) → List Step → Type 0
EachMeans [] [] = Unit {0}
EachMeans (line ∷ lines) (step ∷ steps) = (means line ≡ one step) × EachMeans lines steps
EachMeans [] (step ∷ steps) = ⊥
EachMeans (line ∷ lines) [] = ⊥

-- a text is lines that mean these steps
pub record TextMeans (text : List ℕ) (steps : List Step) : Type 0 where
  pub lines : List (List ℕ)
  pub is : text ≡ joined lines
  pub printed : ArePrinted lines
  pub mean : EachMeans lines steps

-- ---- data sets whose full dump can be read back, where none of its lines is too long

abbrev pub IsElement : Tag → Type 0
IsElement tag = IsTag tag × (tag.group ≢ ITEM_GROUP)

-- a value of whole units
pub record ReadsBack (vr : Vr) (value : List ℕ) : Type 0 where
  pub no_sequence : is_sequence vr ≡ false
  pub bytes : AreBytes value
  pub size : IsLength (length value)
  pub units : length value % shown_unit vr ≡ 0

abbrev pub AllReadBack : List (List ℕ) → Type 0
AllReadBack [] = Unit {0}
AllReadBack (value ∷ values) = ReadsBack OB value × AllReadBack values

unfoldable mutual
  pub SetReadsBack : Trees → Type 0
  SetReadsBack no_tree = Unit {0}
  SetReadsBack (leaf tag vr value rest) = IsElement tag × ReadsBack vr value × SetReadsBack rest
  SetReadsBack (sequence tag vr declared items rest) =
      IsElement tag × (may_be_sequence vr ≡ true) × HasLength declared × ItemsReadBack items × SetReadsBack rest
  SetReadsBack (fragments tag vr values rest) = IsElement tag × (may_be_fragments vr ≡ true) × AllReadBack values
      × SetReadsBack rest

  pub ItemsReadBack : Items → Type 0
  ItemsReadBack no_item = Unit {0}
  ItemsReadBack (item declared set rest) = HasLength declared × SetReadsBack set × ItemsReadBack rest
