-- A data set, whole or as far as it was read, in a target syntax (PS3.5 7.1, 7.5, A.4).
use Rattle.std.specs.Prelude.{ℕ, ◌+◌, ◌%◌, ◌==◌, ◌&&◌, not, nat_lt, Bool, true, false, if◌then◌else◌, List, [], ◌∷◌}
use Rattle.std.specs.Prelude.{◌++◌, length, flat_map, Option, Some, None}
use Rattle.std.specs.Int.{Width, w16, w32, to_le_bytes, to_be_bytes}
use Rattle.dcm_base.specs.declared.tag.Tag.{Tag}
use Rattle.dcm_base.specs.declared.vr.Vr.{Vr}
use Rattle.dcm_base.specs.declared.vr.Vr.TheVariants.{SQ, UN}
use Rattle.dcm_base.specs.declared.syntax.Syntax.{Syntax}
use Rattle.dcm_base.specs.declared.syntax.Syntax.TheVariants.{Implicit as implicit_in, Big as big_in}
use Rattle.dcm_base.specs.Tables.Representation.{letters, is_long, pad, unit}
use Rattle.dcm_base.specs.Tree.Value.{order, evened, whole_part}
use Rattle.dcm_base.specs.declared.length.Length.{Length}
use Rattle.dcm_base.specs.declared.length.Length.TheVariants.{Known, Undefined}
use Rattle.dcm_base.specs.Tree.Tree.{Trees, no_tree, leaf, sequence, fragments, Items, no_item, item}
use Rattle.dcm_base.specs.Tree.Front.{Front, front, OpenTree, nothing_open, open_leaf, open_sequence, open_fragments}
use Rattle.dcm_base.specs.Tree.Front.{OpenItem, no_open_item, open_item}
use Rattle.dcm_base.specs.Tables.Tag.{item_tag, item_end_tag, sequence_end_tag}

-- a number of two or four bytes
abbrev pub number_bytes : Syntax → Width → ℕ → List ℕ
number_bytes (big_in d) w n = to_be_bytes w n
number_bytes _ w n = to_le_bytes w n

abbrev pub tag_bytes : Syntax → Tag → List ℕ
tag_bytes s t = number_bytes s w16 t.group ++ number_bytes s w16 t.element

-- FFFFFFFF stands for the undefined length
abbrev pub length_number : Length → ℕ
length_number (Known n) = n
length_number Undefined = 4294967295

-- a head without letters: implicit, or an item or delimiter
abbrev pub plain_head : Syntax → Tag → Length → List ℕ
plain_head s t size = tag_bytes s t ++ number_bytes s w32 (length_number size)

-- the head of an element (PS3.5 7.1.2, 7.1.3)
abbrev pub head : Syntax → Tag → Vr → Length → List ℕ
head (implicit_in d) t vr size = plain_head (implicit_in d) t size
head s t vr size = tag_bytes s t ++ letters vr ++ (if is_long vr then 0 ∷ 0 ∷ number_bytes s w32 (length_number size)
    else number_bytes s w16 (length_number size))

-- with the pad byte
abbrev pub even : ℕ → ℕ
even n = n + n % 2

abbrev pub is_explicit : Syntax → Bool
is_explicit (implicit_in d) = false
is_explicit _ = true

-- whether a value of this size is too long for the short form
abbrev pub too_long : Syntax → Vr → ℕ → Bool
too_long s vr size = is_explicit s && (not (is_long vr) && nat_lt 65534 (even size))

-- the head of a value of this size, and its bytes: one that is too long is unknown, in little endian order
abbrev pub leaf_head : Syntax → Tag → Vr → ℕ → List ℕ
leaf_head s t vr size = head s t (if too_long s vr size then UN else vr) (Known (even size))

abbrev pub leaf_bytes : Syntax → Vr → ℕ → List ℕ → List ℕ
leaf_bytes s vr size v = if too_long s vr size then v else order s vr v

abbrev pub recoded_leaf : Syntax → Tag → Vr → List ℕ → List ℕ
recoded_leaf s t vr v = leaf_head s t vr (length v) ++ evened (pad vr) (leaf_bytes s vr (length v) v)

abbrev pub item_head : Syntax → Length → List ℕ
item_head s size = plain_head s item_tag size

abbrev pub item_delimiter : Syntax → List ℕ
item_delimiter s = plain_head s item_end_tag (Known 0)

abbrev pub sequence_delimiter : Syntax → List ℕ
sequence_delimiter s = plain_head s sequence_end_tag (Known 0)

abbrev pub recoded_fragment : Syntax → List ℕ → List ℕ
recoded_fragment s v = item_head s (Known (even (length v))) ++ evened 0 v

-- the lengths of groups are dropped (PS3.5 7.2)
abbrev pub unless_dropped : Tag → List ℕ → List ℕ
unless_dropped t bytes = if t.element == 0 then [] else bytes

-- sequences and items have undefined lengths, and each sequence is an SQ
unfoldable mutual
  pub recode_set : Syntax → Trees → List ℕ
  recode_set s no_tree = []
  recode_set s (leaf t vr v rest) = unless_dropped t (recoded_leaf s t vr v) ++ recode_set s rest
  recode_set s (sequence t vr size items rest) =
      unless_dropped t (head s t SQ Undefined ++ recode_items s items ++ sequence_delimiter s) ++ recode_set s rest
  recode_set s (fragments t vr values rest) =
      unless_dropped t (head s t vr Undefined ++ flat_map (recoded_fragment s) values ++ sequence_delimiter s)
      ++ recode_set s rest

  pub recode_items : Syntax → Items → List ℕ
  recode_items s no_item = []
  recode_items s (item size set rest) = item_head s Undefined ++ recode_set s set ++ item_delimiter s
      ++ recode_items s rest

abbrev pub recode_open_fragment : Syntax → Option (ℕ × List ℕ) → List ℕ
recode_open_fragment s None = []
recode_open_fragment s (Some v) = item_head s (Known (even v.0)) ++ v.1

-- of a data set that was read so far: an open value is its head and its whole units
unfoldable mutual
  pub recode : Syntax → Front → List ℕ
  recode s (front whole last reached closed) = recode_set s whole ++ recode_open s last

  pub recode_open : Syntax → OpenTree → List ℕ
  recode_open s nothing_open = []
  recode_open s (open_leaf t vr size v) =
      unless_dropped t (leaf_head s t vr size ++ leaf_bytes s vr size (whole_part (unit vr) v))
  recode_open s (open_sequence t vr size items last) =
      unless_dropped t (head s t SQ Undefined ++ recode_items s items ++ recode_open_item s last)
  recode_open s (open_fragments t vr values last) =
      unless_dropped t (head s t vr Undefined ++ flat_map (recoded_fragment s) values ++ recode_open_fragment s last)

  pub recode_open_item : Syntax → OpenItem → List ℕ
  recode_open_item s no_open_item = []
  recode_open_item s (open_item size set) = item_head s Undefined ++ recode s set
