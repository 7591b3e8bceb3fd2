-- The dump of a data set, whole or as far as it was read.
use Rattle.std.specs.Prelude.{ℕ, ◌+◌, ◌-◌, ◌*◌, List, [], ◌∷◌, ◌++◌, length, flat_map, replicate, codes, decimal}
use Rattle.std.specs.Prelude.{Option, Some, None}
use Rattle.dcm_base.specs.declared.tag.Tag.{Tag}
use Rattle.dcm_base.specs.Tables.Tag.{item_tag, item_end_tag, sequence_end_tag}
use Rattle.dcm_base.specs.declared.vr.Vr.{Vr}
use Rattle.dcm_base.specs.declared.vr.Vr.TheVariants.{OB}
use Rattle.dcm_base.specs.declared.mode.Mode.{Mode}
use Rattle.dcm_base.specs.declared.mode.Mode.TheVariants.{Short, Full}
use Rattle.dcm_base.specs.Tables.Representation.{letters}
use Rattle.dcm_base.specs.Tables.Dictionary.{keyword_in}
use Rattle.dcm_base.specs.declared.length.Length.{Length}
use Rattle.dcm_base.specs.declared.length.Length.TheVariants.{Known, Undefined}
use Rattle.dcm_base.specs.Tree.Tree.{Trees, no_tree, leaf, sequence, fragments, Items, no_item, item}
use Rattle.dcm_base.specs.Tree.Front.{Front, front, OpenTree, nothing_open, open_leaf, open_sequence, open_fragments}
use Rattle.dcm_base.specs.Tree.Front.{OpenItem, no_open_item, open_item}
use Rattle.dcm_base.specs.Dump.ValueText.{shape, hexadecimal, count, display, shortened, padded, tag_text, shown_so_far}
use Rattle.dcm_base.specs.declared.dictionary.Dictionary.{Dictionary}

-- right in three places
abbrev pub length_text : Length → List ℕ
length_text (Known n) = replicate (3 - length (decimal n)) 32 ++ decimal n
length_text Undefined = codes "u/l"

-- the line up to the space before the display
abbrev pub line_start : ℕ → Tag → List ℕ → List ℕ
line_start level t vr = replicate (2 * level) 32 ++ tag_text t.group t.element ++ codes " " ++ vr ++ codes " "

abbrev pub line : Dictionary → ℕ → Tag → List ℕ → List ℕ → Length → ℕ → List ℕ
line d level t vr display size n =
    line_start level t vr ++ padded display ++ codes " # " ++ length_text size ++ codes ", " ++ decimal n ++ codes " "
    ++ keyword_in d t ++ 10 ∷ []

abbrev pub leaf_line : Dictionary → Mode → ℕ → Tag → Vr → List ℕ → List ℕ
leaf_line d mode level t vr v = line d level t (letters vr) (shortened mode (display vr v)) (Known (length v))
    (count vr v)

-- a fragment shows its bytes
abbrev pub fragment_line : Dictionary → Mode → ℕ → List ℕ → List ℕ
fragment_line d mode level v = line d level item_tag (codes "pi") (shortened mode (display OB v)) (Known (length v)) 1

-- openings and ends
abbrev pub sequence_opening : Length → List ℕ
sequence_opening (Known n) = codes "(Sequence with explicit length)"
sequence_opening Undefined = codes "(Sequence with undefined length)"

abbrev pub item_opening : Length → List ℕ
item_opening (Known n) = codes "(Item with explicit length)"
item_opening Undefined = codes "(Item with undefined length)"

abbrev pub sequence_end : Length → List ℕ
sequence_end (Known n) = codes "(SequenceDelimitationItem for re-encod.)"
sequence_end Undefined = codes "(SequenceDelimitationItem)"

abbrev pub item_end : Length → List ℕ
item_end (Known n) = codes "(ItemDelimitationItem for re-encoding)"
item_end Undefined = codes "(ItemDelimitationItem)"

abbrev pub sequence_line : Dictionary → ℕ → Tag → Vr → Length → List ℕ
sequence_line d level t vr size = line d level t (letters vr) (sequence_opening size) size 1

abbrev pub item_line : Dictionary → ℕ → Length → List ℕ
item_line d level size = line d level item_tag (codes "na") (item_opening size) size 1

abbrev pub sequence_end_line : Dictionary → ℕ → Length → List ℕ
sequence_end_line d level size = line d level sequence_end_tag (codes "na") (sequence_end size) (Known 0) 0

abbrev pub item_end_line : Dictionary → ℕ → Length → List ℕ
item_end_line d level size = line d level item_end_tag (codes "na") (item_end size) (Known 0) 0

-- the opening line of a fragment list and its fragments
abbrev pub fragment_lines : Dictionary → Mode → ℕ → Tag → Vr → List (List ℕ) → List ℕ
fragment_lines d mode level t vr values = line d level t (letters vr) (codes "(PixelSequence)") Undefined 1
    ++ flat_map (fragment_line d mode (level + 1)) values

-- the elements of a data set at a level, and the items of a sequence at a level
unfoldable mutual
  pub dump_set : Dictionary → Mode → ℕ → Trees → List ℕ
  dump_set d mode level no_tree = []
  dump_set d mode level (leaf t vr v rest) = leaf_line d mode level t vr v ++ dump_set d mode level rest
  dump_set d mode level (sequence t vr size items rest) =
      sequence_line d level t vr size ++ dump_items d mode (level + 1) items ++ sequence_end_line d level size
      ++ dump_set d mode level rest
  dump_set d mode level (fragments t vr values rest) =
      fragment_lines d mode level t vr values ++ sequence_end_line d level Undefined ++ dump_set d mode level rest

  pub dump_items : Dictionary → Mode → ℕ → Items → List ℕ
  dump_items d mode level no_item = []
  dump_items d mode level (item size set rest) =
      item_line d level size ++ dump_set d mode (level + 1) set ++ item_end_line d level size
      ++ dump_items d mode level rest

-- the part of a line whose value is still open
abbrev pub open_line : Mode → List ℕ → List ℕ → List ℕ
open_line Short start shown = []
open_line Full start shown = start ++ shown

abbrev pub open_fragment : Mode → ℕ → Option (ℕ × List ℕ) → List ℕ
open_fragment mode level None = []
open_fragment mode level (Some v) =
    open_line mode (line_start level item_tag (codes "pi")) (shown_so_far hexadecimal OB v.0 v.1)

-- what stands of a data set that was read so far
unfoldable mutual
  pub dump_front : Dictionary → Mode → ℕ → Front → List ℕ
  dump_front d mode level (front whole last reached closed) = dump_set d mode level whole ++ dump_open d mode level last

  pub dump_open : Dictionary → Mode → ℕ → OpenTree → List ℕ
  dump_open d mode level nothing_open = []
  dump_open d mode level (open_leaf t vr size v) =
      open_line mode (line_start level t (letters vr)) (shown_so_far (shape vr) vr size v)
  dump_open d mode level (open_sequence t vr size items last) =
      sequence_line d level t vr size ++ dump_items d mode (level + 1) items ++ dump_open_item d mode (level + 1) last
  dump_open d mode level (open_fragments t vr values last) = fragment_lines d mode level t vr values
      ++ open_fragment mode (level + 1) last

  pub dump_open_item : Dictionary → Mode → ℕ → OpenItem → List ℕ
  dump_open_item d mode level no_open_item = []
  dump_open_item d mode level (open_item size set) = item_line d level size ++ dump_front d mode (level + 1) set
