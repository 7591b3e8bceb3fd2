-- Worked rows: representations that the sign of the pixels tells (PS3.6 section 6, PS3.3 C.7.6.3.1.4).
use Rattle.std.proofs.Common.{◌≡◌, ℕ, List, [], ◌∷◌, ◌++◌, refl, arith, lit≤}
use Rattle.dcm_base.specs.declared.tag.Tag.{Tag}
use Rattle.dcm_base.specs.declared.vr.Vr.{Vr}
use Rattle.dcm_base.specs.declared.vr.Vr.TheVariants.{LO, SS, UL, UN, US}
use Rattle.dcm_base.specs.declared.dictionary.Dictionary.TheVariants.{Extract, Standard, Signed}
use Rattle.dcm_base.specs.declared.syntax.Syntax.TheVariants.{Implicit as implicit_in, Big as big_in}
use Rattle.dcm_base.specs.declared.length.Length.TheVariants.{Known}
use Rattle.dcm_base.specs.Tree.Tree.{Trees, no_tree, leaf, sequence, no_item, item}
use Rattle.dcm_base.specs.Tables.Dictionary.{vr_in, element_in, elements_in, elements, entries, keywords, ambiguous}
use Rattle.dcm_base.specs.Bytes.Head.{vr_at, length_at}
use Rattle.dcm_base.specs.Bytes.Spelling.{form, inside, TreesAt, ItemsAt, Spells, sign_after, after}

-- all that a row computes with
unfoldable all : ℕ
unfolding vr_in element_in elements_in elements entries keywords ambiguous vr_at length_at form inside TreesAt ItemsAt sign_after
all = 0

abbrev sign : Tag
sign = record { group = 0x0028; element = 0x0103 }

abbrev least : Tag
least = record { group = 0x0028; element = 0x0106 }

abbrev one : List ℕ
one = 1 ∷ 0 ∷ []

abbrev minus_one : List ℕ
minus_one = 0xFF ∷ 0xFF ∷ []

abbrev sign_bytes : List ℕ
sign_bytes = 0x28 ∷ 0x00 ∷ 0x03 ∷ 0x01 ∷ 0x02 ∷ 0x00 ∷ 0x00 ∷ 0x00 ∷ 0x01 ∷ 0x00 ∷ []

abbrev least_bytes : List ℕ
least_bytes = 0x28 ∷ 0x00 ∷ 0x06 ∷ 0x01 ∷ 0x02 ∷ 0x00 ∷ 0x00 ∷ 0x00 ∷ 0xFF ∷ 0xFF ∷ []

-- before PixelRepresentation pixels are not signed
unsigned_spelled : Spells (implicit_in Standard) (leaf least US minus_one no_tree) least_bytes
unfolding all
unsigned_spelled = ([], refl, record { no_item = λ e. omega (arith, e); head = record { tag_is = refl; vr_is = refl; whole = lit≤ tt; length_is = refl; after_is = refl } }, refl)

-- after it they are, where it is 1
signed_spelled : Spells (implicit_in Standard) (leaf sign US one (leaf least SS minus_one no_tree)) (sign_bytes ++ least_bytes)
unfolding all
signed_spelled = (
  least_bytes,
  refl,
  record { no_item = λ e. omega (arith, e); head = record { tag_is = refl; vr_is = refl; whole = lit≤ tt; length_is = refl; after_is = refl } },
  ([], refl, record { no_item = λ e. omega (arith, e); head = record { tag_is = refl; vr_is = refl; whole = lit≤ tt; length_is = refl; after_is = refl } }, refl),
)

-- the value counts as explicit little endian writes it, by its own representation, with its pad byte
big_after : after (big_in Standard) sign US one ≡ big_in Signed
unfolding all
big_after = refl

zero_after : after (implicit_in Signed) sign US (0 ∷ 0 ∷ []) ≡ implicit_in Standard
unfolding all
zero_after = refl

empty_after : after (implicit_in Signed) sign US [] ≡ implicit_in Standard
unfolding all
empty_after = refl

padded_after : after (implicit_in Standard) sign UN (1 ∷ []) ≡ implicit_in Signed
unfolding all
padded_after = refl

text_after : after (implicit_in Standard) sign LO (1 ∷ []) ≡ implicit_in Standard
unfolding all
text_after = refl

longer_after : after (implicit_in Standard) sign UL (1 ∷ 0 ∷ 5 ∷ 7 ∷ []) ≡ implicit_in Signed
unfolding all
longer_after = refl

-- other elements say nothing, and the extract has no use for it
other_after : after (implicit_in Signed) least SS (0 ∷ 0 ∷ []) ≡ implicit_in Signed
unfolding all
other_after = refl

extract_after : after (implicit_in Extract) sign US one ≡ implicit_in Extract
extract_after = refl
