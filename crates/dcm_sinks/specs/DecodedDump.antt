-- The dump of a data set whose texts are shown by characters, whole or as far as it was read.
use Rattle.std.specs.Prelude.{ℕ, ◌+◌, Bool, if◌then◌else◌, List, [], ◌++◌, length}
use Rattle.dcm_base.specs.declared.tag.Tag.{Tag}
use Rattle.dcm_base.specs.declared.vr.Vr.{Vr}
use Rattle.dcm_base.specs.declared.mode.Mode.{Mode}
use Rattle.dcm_base.specs.declared.length.Length.TheVariants.{Known, Undefined}
use Rattle.dcm_base.specs.declared.dictionary.Dictionary.{Dictionary}
use Rattle.dcm_base.specs.Tables.Representation.{letters}
use Rattle.dcm_base.specs.Tree.Tree.{Trees, no_tree, leaf, sequence, fragments, Items, no_item, item}
use Rattle.dcm_base.specs.Tree.Front.{Front, front, OpenTree, nothing_open, open_leaf, open_sequence, open_fragments}
use Rattle.dcm_base.specs.Tree.Front.{OpenItem, no_open_item, open_item}
use Rattle.dcm_base.specs.Dump.ValueText.{shape, shown_so_far}
use Rattle.dcm_base.specs.Dump.Dump.{line, line_start, leaf_line, fragment_lines, sequence_line, sequence_end_line}
use Rattle.dcm_base.specs.Dump.Dump.{item_line, item_end_line, open_line, open_fragment}
use Rattle.dcm_base.specs.Lines.ReadValue.{takes_bytes}
use Rattle.dcm_text.specs.declared.sets.Sets.{Sets}
use Rattle.dcm_value.specs.DecodedDisplay.{decoded_display, decoded_shortened, decoded_count, decoded_so_far}
use Rattle.dcm_sinks.specs.InForce.{set_by, sets_after}

-- whether a value is shown by characters: texts and unique identifiers are, numbers and bytes are not
abbrev pub is_decoded : Vr → Bool
is_decoded vr = takes_bytes (shape vr)

-- the line of an element where these sets are in force
abbrev pub text_line : Dictionary → Mode → Sets → ℕ → Tag → Vr → List ℕ → List ℕ
text_line d mode sets level t vr v =
    line d level t (letters vr) (decoded_shortened mode (decoded_display vr sets v)) (Known (length v))
    (decoded_count vr sets v)

abbrev pub decoded_line : Dictionary → Mode → Sets → ℕ → Tag → Vr → List ℕ → List ℕ
decoded_line d mode sets level t vr v =
    if is_decoded vr then text_line d mode sets level t vr v else leaf_line d mode level t vr v

-- the elements of a data set at a level, and the items of a sequence at a level, by what is in force in front of them
unfoldable mutual
  pub decoded_set : Dictionary → Mode → Sets → ℕ → Trees → List ℕ
  decoded_set d mode sets level no_tree = []
  decoded_set d mode sets level (leaf t vr v rest) =
      decoded_line d mode sets level t vr v ++ decoded_set d mode (set_by t vr v sets) level rest
  decoded_set d mode sets level (sequence t vr size items rest) =
      sequence_line d level t vr size ++ decoded_items d mode sets (level + 1) items ++ sequence_end_line d level size
      ++ decoded_set d mode sets level rest
  decoded_set d mode sets level (fragments t vr values rest) =
      fragment_lines d mode level t vr values ++ sequence_end_line d level Undefined
      ++ decoded_set d mode sets level rest

  pub decoded_items : Dictionary → Mode → Sets → ℕ → Items → List ℕ
  decoded_items d mode sets level no_item = []
  decoded_items d mode sets level (item size set rest) =
      item_line d level size ++ decoded_set d mode sets (level + 1) set ++ item_end_line d level size
      ++ decoded_items d mode sets level rest

-- what is shown of a value while bytes of it are missing
abbrev pub decoded_open_value : Vr → Sets → ℕ → List ℕ → List ℕ
decoded_open_value vr sets size v =
    if is_decoded vr then decoded_so_far vr sets size v else shown_so_far (shape vr) vr size v

-- what stands of a data set that was read so far: what is open is read by what the whole elements before it set
unfoldable mutual
  pub decoded_front : Dictionary → Mode → Sets → ℕ → Front → List ℕ
  decoded_front d mode sets level (front whole last reached closed) =
      decoded_set d mode sets level whole ++ decoded_open d mode (sets_after sets whole) level last

  pub decoded_open : Dictionary → Mode → Sets → ℕ → OpenTree → List ℕ
  decoded_open d mode sets level nothing_open = []
  decoded_open d mode sets level (open_leaf t vr size v) =
      open_line mode (line_start level t (letters vr)) (decoded_open_value vr sets size v)
  decoded_open d mode sets level (open_sequence t vr size items last) =
      sequence_line d level t vr size ++ decoded_items d mode sets (level + 1) items
      ++ decoded_open_item d mode sets (level + 1) last
  decoded_open d mode sets level (open_fragments t vr values last) = fragment_lines d mode level t vr values
      ++ open_fragment mode (level + 1) last

  pub decoded_open_item : Dictionary → Mode → Sets → ℕ → OpenItem → List ℕ
  decoded_open_item d mode sets level no_open_item = []
  decoded_open_item d mode sets level (open_item size set) =
      item_line d level size ++ decoded_front d mode sets (level + 1) set
