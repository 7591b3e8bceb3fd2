-- What a data set that was converted to a target syntax reads back as (PS3.5 6.2, 7.1, 7.5).
use Rattle.std.specs.Prelude.{◌≡◌, ◌≢◌, ℕ, true, false, ◌==◌, if◌then◌else◌, List, length, map, None}
use Rattle.dcm_base.specs.declared.tag.Tag.{Tag}
use Rattle.dcm_base.specs.declared.vr.Vr.{Vr}
use Rattle.dcm_base.specs.declared.vr.Vr.TheVariants.{SQ, UN}
use Rattle.dcm_base.specs.declared.syntax.Syntax.{Syntax}
use Rattle.dcm_base.specs.declared.syntax.Syntax.TheVariants.{Implicit as implicit_in}
use Rattle.dcm_base.specs.declared.length.Length.TheVariants.{Undefined}
use Rattle.dcm_base.specs.Tree.Tree.{Trees, no_tree, leaf, sequence, fragments, Items, no_item, item}
use Rattle.dcm_base.specs.Tree.Front.{Front, front, nothing_open}
use Rattle.dcm_base.specs.Tables.Dictionary.{vr_in}
use Rattle.dcm_base.specs.Tables.Representation.{pad}
use Rattle.dcm_base.specs.Tree.Value.{order, evened}
use Rattle.dcm_base.specs.Bytes.Spelling.{a_sequence, form, last_tag, after, read_as}
use Rattle.dcm_base.specs.Conversion.Recode.{too_long, leaf_bytes}

-- an implicit head leaves the representation to the dictionary, and a value that is too long for the short form is
-- unknown
abbrev pub normal_vr : Syntax → Tag → Vr → ℕ → Vr
normal_vr (implicit_in d) t vr size = vr_in d t
normal_vr s t vr size = if too_long s vr size then UN else vr

abbrev pub normal_sequence_vr : Syntax → Tag → Vr
normal_sequence_vr (implicit_in d) t = vr_in d t
normal_sequence_vr s t = SQ

-- the value of the bytes that are written, with the pad byte
abbrev pub normal_value : Syntax → Tag → Vr → List ℕ → List ℕ
normal_value s t vr v = order s (normal_vr s t vr (length v)) (evened (pad vr) (leaf_bytes s vr (length v) v))

-- the lengths of groups are dropped (PS3.5 7.2)
abbrev pub unless_group_length : Tag → (tree : Trees → Trees) → (rest : Trees) → Trees
unless_group_length t tree rest = if t.element == 0 then rest else tree rest

-- sequences and items have undefined lengths; the representations after a leaf are those that its normal form leads to
unfoldable mutual
  pub normal : Syntax → Trees → Trees
  normal s no_tree = no_tree
  normal s (leaf t vr v rest) = unless_group_length t (leaf t (normal_vr s t vr (length v)) (normal_value s t vr v))
      (normal (after s t (normal_vr s t vr (length v)) (normal_value s t vr v)) rest)
  normal s (sequence t vr size items rest) =
      unless_group_length t (sequence t (normal_sequence_vr s t) Undefined (normal_items s items)) (normal s rest)
  normal s (fragments t vr values rest) = unless_group_length t (fragments t vr (map (evened 0) values)) (normal s rest)

  pub normal_items : Syntax → Items → Items
  normal_items s no_item = no_item
  normal_items s (item size set rest) = item Undefined (normal s set) (normal_items s rest)

-- a data set that ended without fault
abbrev pub whole_front : Trees → Front
whole_front trees = front trees nothing_open (last_tag None trees) true

abbrev pub normal_front : Syntax → Front → Front
normal_front s (front whole open_tree reached closed) = whole_front (normal s whole)

-- ---- where the bytes tell what was written

-- an implicit head tells a value from a sequence by the dictionary alone, and so does an unknown one
abbrev pub TellsValue : Syntax → Tag → Vr → ℕ → Type 0
TellsValue (implicit_in d) t vr size = vr_in d t ≢ SQ
TellsValue s t vr size = read_as s t (normal_vr s t vr size) ≡ normal_vr s t vr size

abbrev pub TellsSequence : Syntax → Tag → Type 0
TellsSequence (implicit_in d) t = form (implicit_in d) (vr_in d t) Undefined ≡ a_sequence
TellsSequence s t = Unit {0}

abbrev pub UnlessGroupLength : Tag → Type 0 → Type 0
UnlessGroupLength t P = (t.element == 0) ≡ false → P

-- so it does with all elements of a data set
unfoldable mutual
  pub FitsTarget : Syntax → Trees → Type 0
  FitsTarget s no_tree = Unit {0}
  FitsTarget s (leaf t vr v rest) = UnlessGroupLength t (TellsValue s t vr (length v)) × FitsTarget s rest
  FitsTarget s (sequence t vr size items rest) = UnlessGroupLength t (TellsSequence s t × ItemsFit s items)
      × FitsTarget s rest
  FitsTarget s (fragments t vr values rest) = FitsTarget s rest

  pub ItemsFit : Syntax → Items → Type 0
  ItemsFit s no_item = Unit {0}
  ItemsFit s (item size set rest) = FitsTarget s set × ItemsFit s rest

abbrev pub FrontFits : Syntax → Front → Type 0
FrontFits s (front whole open_tree reached closed) = FitsTarget s whole

-- a value that is too long for its representation is written as UN; of a tag that the dictionary calls a sequence, it
-- would be read as one
abbrev pub StaysValue : Syntax → Tag → Vr → ℕ → Type 0
StaysValue s t vr size = too_long s vr size ≡ true → read_as s t UN ≡ UN

-- the values of a data set are no such ones
unfoldable mutual
  pub StayValues : Syntax → Trees → Type 0
  StayValues s no_tree = Unit {0}
  StayValues s (leaf t vr v rest) = StaysValue s t vr (length v) × StayValues s rest
  StayValues s (sequence t vr size items rest) = ItemsStay s items × StayValues s rest
  StayValues s (fragments t vr values rest) = StayValues s rest

  pub ItemsStay : Syntax → Items → Type 0
  ItemsStay s no_item = Unit {0}
  ItemsStay s (item size set rest) = StayValues s set × ItemsStay s rest

abbrev pub FrontStays : Syntax → Front → Type 0
FrontStays s (front whole open_tree reached closed) = StayValues s whole
