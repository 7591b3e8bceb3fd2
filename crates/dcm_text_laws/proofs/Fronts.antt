-- The dump of a data set is valid UTF-8 where its values are bytes and its tags are tags, whole or as far as it was read.
use Rattle.std.proofs.Common.{ℕ, ◌+◌}
use Rattle.std.specs.Prelude.{IsUtf8}
use Rattle.std.proofs.lemmas.Str.{IsUtf8-nil}
use Rattle.dcm_base.specs.declared.mode.Mode.{Mode}
use Rattle.dcm_base.specs.declared.length.Length.TheVariants.{Undefined}
use Rattle.dcm_base.specs.declared.dictionary.Dictionary.{Dictionary}
use Rattle.dcm_base.specs.Tables.Number.{IsTag}
use Rattle.dcm_base.specs.Tree.Tree.{Trees, no_tree, leaf, sequence, fragments, Items, no_item, item}
use Rattle.dcm_base.specs.Tree.Front.{Front, front, OpenTree, nothing_open, open_leaf, open_sequence, open_fragments}
use Rattle.dcm_base.specs.Tree.Front.{OpenItem, no_open_item, open_item}
use Rattle.dcm_base.proofs.DumpsBack.Texts.{Bytes}
use Rattle.dcm_text.specs.declared.sets.Sets.{Sets}
use Rattle.dcm_sinks.specs.InForce.{set_by, sets_after}
use Rattle.dcm_sinks.specs.DecodedDump.{decoded_set, decoded_items, decoded_front, decoded_open, decoded_open_item}
use Rattle.dcm_text_laws.proofs.Lines.{EachBytes, FragmentOfBytes, both, leaf_utf8, sequence_utf8, sequence_end_utf8, item_utf8, item_end_utf8, fragments_utf8, open_leaf_utf8, open_fragment_utf8}

-- each value of a data set is of bytes, and each tag a tag
abbrev mutual
  pub OfBytes : Trees → Type 0
  OfBytes no_tree = Unit {0}
  OfBytes (leaf t vr v rest) = IsTag t × Bytes v × OfBytes rest
  OfBytes (sequence t vr declared items rest) = IsTag t × ItemsOfBytes items × OfBytes rest
  OfBytes (fragments t vr values rest) = IsTag t × EachBytes values × OfBytes rest

  pub ItemsOfBytes : Items → Type 0
  ItemsOfBytes no_item = Unit {0}
  ItemsOfBytes (item declared set rest) = OfBytes set × ItemsOfBytes rest

-- and so of one as far as it was read
abbrev mutual
  pub FrontOfBytes : Front → Type 0
  FrontOfBytes (front whole last reached closed) = OfBytes whole × OpenOfBytes last

  pub OpenOfBytes : OpenTree → Type 0
  OpenOfBytes nothing_open = Unit {0}
  OpenOfBytes (open_leaf t vr size v) = IsTag t × Bytes v
  OpenOfBytes (open_sequence t vr declared items last) = IsTag t × ItemsOfBytes items × OpenItemOfBytes last
  OpenOfBytes (open_fragments t vr values last) = IsTag t × EachBytes values × FragmentOfBytes last

  pub OpenItemOfBytes : OpenItem → Type 0
  OpenItemOfBytes no_open_item = Unit {0}
  OpenItemOfBytes (open_item declared set) = FrontOfBytes set

mutual
  unfolding decoded_set

  pub set_utf8 : (d : Dictionary) (mode : Mode) (sets : Sets) (level : ℕ) (x : Trees) → OfBytes x → IsUtf8 (decoded_set d mode sets level x)
  set_utf8 d mode sets level no_tree h = IsUtf8-nil
  set_utf8 d mode sets level (leaf t vr v rest) h = both (leaf_utf8 d mode sets level t vr v h.0 h.1) (set_utf8 d mode (set_by t vr v sets) level rest h.2)
  set_utf8 d mode sets level (sequence t vr declared items rest) h =
      both (both (both (sequence_utf8 d level t vr declared h.0) (items_utf8 d mode sets (level + 1) items h.1)) (sequence_end_utf8 d level declared)) (set_utf8 d mode sets level rest h.2)
  set_utf8 d mode sets level (fragments t vr values rest) h =
      both (both (fragments_utf8 d mode level t vr values h.0 h.1) (sequence_end_utf8 d level Undefined)) (set_utf8 d mode sets level rest h.2)

  pub items_utf8 : (d : Dictionary) (mode : Mode) (sets : Sets) (level : ℕ) (x : Items) → ItemsOfBytes x → IsUtf8 (decoded_items d mode sets level x)
  items_utf8 d mode sets level no_item h = IsUtf8-nil
  items_utf8 d mode sets level (item declared set rest) h =
      both (both (both (item_utf8 d level declared) (set_utf8 d mode sets (level + 1) set h.0)) (item_end_utf8 d level declared)) (items_utf8 d mode sets level rest h.1)

mutual
  unfolding decoded_front

  pub front_utf8 : (d : Dictionary) (mode : Mode) (sets : Sets) (level : ℕ) (f : Front) → FrontOfBytes f → IsUtf8 (decoded_front d mode sets level f)
  front_utf8 d mode sets level (front whole last reached closed) h = both (set_utf8 d mode sets level whole h.0) (open_utf8 d mode (sets_after sets whole) level last h.1)

  open_utf8 : (d : Dictionary) (mode : Mode) (sets : Sets) (level : ℕ) (o : OpenTree) → OpenOfBytes o → IsUtf8 (decoded_open d mode sets level o)
  open_utf8 d mode sets level nothing_open h = IsUtf8-nil
  open_utf8 d mode sets level (open_leaf t vr size v) h = open_leaf_utf8 mode sets level t vr size v h.0 h.1
  open_utf8 d mode sets level (open_sequence t vr declared items last) h =
      both (both (sequence_utf8 d level t vr declared h.0) (items_utf8 d mode sets (level + 1) items h.1)) (open_item_utf8 d mode sets (level + 1) last h.2)
  open_utf8 d mode sets level (open_fragments t vr values last) h =
      both (fragments_utf8 d mode level t vr values h.0 h.1) (open_fragment_utf8 mode (level + 1) last h.2)

  open_item_utf8 : (d : Dictionary) (mode : Mode) (sets : Sets) (level : ℕ) (o : OpenItem) → OpenItemOfBytes o → IsUtf8 (decoded_open_item d mode sets level o)
  open_item_utf8 d mode sets level no_open_item h = IsUtf8-nil
  open_item_utf8 d mode sets level (open_item declared set) h = both (item_utf8 d level declared) (front_utf8 d mode sets (level + 1) set h)
