-- Worked rows: an unknown element of known length that the dictionary calls a sequence (PS3.5 6.2.2).
use Rattle.std.proofs.Common.{◌≡◌, ℕ, List, [], ◌∷◌, ◌++◌, refl, arith, lit≤}
use Rattle.dcm_base.specs.declared.tag.Tag.{Tag}
use Rattle.dcm_base.specs.declared.vr.Vr.{Vr}
use Rattle.dcm_base.specs.declared.vr.Vr.TheVariants.{LO, OB, SQ, UN}
use Rattle.dcm_base.specs.declared.dictionary.Dictionary.TheVariants.{Extract, Standard}
use Rattle.dcm_base.specs.declared.syntax.Syntax.TheVariants.{Implicit as implicit_in, Little as little_in, Big as big_in}
use Rattle.dcm_base.specs.declared.length.Length.TheVariants.{Known}
use Rattle.dcm_base.specs.Tree.Tree.{Trees, no_tree, leaf, sequence, no_item, item}
use Rattle.dcm_base.specs.Tables.Dictionary.{vr_in, element_in, elements_in, elements, entries, keywords, ambiguous}
use Rattle.dcm_base.specs.Tables.Representation.{vr_of}
use Rattle.dcm_base.specs.Bytes.Head.{vr_at, length_at}
use Rattle.dcm_base.specs.Bytes.Spelling.{form, inside, read_as, TreesAt, ItemsAt, Spells, sign_after}

-- all that a row computes with
unfoldable all : ℕ
unfolding vr_of vr_in element_in elements_in elements entries keywords ambiguous vr_at length_at form inside TreesAt ItemsAt sign_after
all = 0

abbrev images : Tag
images = record { group = 0x0008; element = 0x1140 }

abbrev patient : Tag
patient = record { group = 0x0010; element = 0x0020 }

-- PatientID with an implicit head, and an item that holds it
abbrev patient_bytes : List ℕ
patient_bytes = 0x10 ∷ 0x00 ∷ 0x20 ∷ 0x00 ∷ 0x02 ∷ 0x00 ∷ 0x00 ∷ 0x00 ∷ 0x31 ∷ 0x32 ∷ []

abbrev item_bytes : List ℕ
item_bytes = 0xFE ∷ 0xFF ∷ 0x00 ∷ 0xE0 ∷ 0x0A ∷ 0x00 ∷ 0x00 ∷ 0x00 ∷ patient_bytes

abbrev images_bytes : List ℕ
images_bytes = 0x08 ∷ 0x00 ∷ 0x40 ∷ 0x11 ∷ 0x55 ∷ 0x4E ∷ 0x00 ∷ 0x00 ∷ 0x12 ∷ 0x00 ∷ 0x00 ∷ 0x00 ∷ item_bytes

-- its items are implicit, in an explicit data set
sequence_spelled : Spells (little_in Standard) (sequence images UN (Known 18) (item (Known 10) (leaf patient LO (0x31 ∷ 0x32 ∷ []) no_tree) no_item) no_tree) images_bytes
unfolding all
sequence_spelled = (
  item_bytes,
  [],
  refl,
  record { no_item = λ e. omega (arith, e); head = record { tag_is = refl; vr_is = refl; whole = lit≤ tt; length_is = refl; after_is = refl } },
  (
    item_bytes,
    refl,
    refl,
    (
      patient_bytes,
      [],
      record { tag_is = refl; whole = lit≤ tt; length_is = refl; after_is = refl },
      (patient_bytes, refl, refl, ([], refl, record { no_item = λ e. omega (arith, e); head = record { tag_is = refl; vr_is = refl; whole = lit≤ tt; length_is = refl; after_is = refl } }, refl)),
      refl,
    ),
  ),
  refl,
)

-- by the extract it is a value
value_spelled : Spells (little_in Extract) (leaf images UN item_bytes no_tree) images_bytes
unfolding all
value_spelled = ([], refl, record { no_item = λ e. omega (arith, e); head = record { tag_is = refl; vr_is = refl; whole = lit≤ tt; length_is = refl; after_is = refl } }, refl)

-- so are other tags, and other representations
other_tag : read_as (little_in Standard) patient UN ≡ UN
unfolding all
other_tag = refl

private_tag : read_as (big_in Standard) (record { group = 0x0009; element = 0x1001 }) UN ≡ UN
unfolding all
private_tag = refl

other_representation : read_as (little_in Standard) images OB ≡ OB
unfolding all
other_representation = refl

big_sequence : read_as (big_in Standard) images UN ≡ SQ
unfolding all
big_sequence = refl
