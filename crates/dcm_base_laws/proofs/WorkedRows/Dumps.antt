-- Worked rows: the dump of data sets.
use Rattle.std.proofs.Common.{◌≡◌, ℕ, List, [], ◌∷◌, ◌++◌, codes, refl, Some, false, replicate}
use Rattle.std.specs.Fmt.{digits}
use Rattle.dcm_base.specs.declared.tag.Tag.{Tag}
use Rattle.dcm_base.specs.declared.vr.Vr.{Vr}
use Rattle.dcm_base.specs.declared.vr.Vr.TheVariants.{UL, UI, PN, LT, LO, UN, SQ, US, OB, OW, AT, FD, SS, UV, SV, OV}
use Rattle.dcm_base.specs.declared.mode.Mode.TheVariants.{Short, Full}
use Rattle.dcm_base.specs.declared.length.Length.{Length}
use Rattle.dcm_base.specs.declared.length.Length.TheVariants.{Known, Undefined}
use Rattle.dcm_base.specs.Tree.Tree.{Trees, no_tree, leaf, sequence, fragments, no_item, item}
use Rattle.dcm_base.specs.Tree.Front.{Front, front, nothing_open, open_leaf, open_sequence, open_fragments, OpenItem, no_open_item, open_item}
use Rattle.dcm_base.specs.Tables.Dictionary.{keyword_in, element_in, elements_in, elements}
use Rattle.dcm_base.specs.Tables.Representation.{letters}
use Rattle.dcm_base.specs.Tables.Uid.{uid_name, uids}
use Rattle.dcm_base.specs.Dump.Dump.{dump_set, dump_front}
use Rattle.dcm_base.specs.Dump.Header.{meta_header, set_header}
use Rattle.dcm_base.specs.declared.dictionary.Dictionary.TheVariants.{Extract}

-- all that a row computes with
unfoldable all : ℕ
unfolding dump_set dump_front keyword_in element_in elements_in elements letters uid_name uids digits
all = 0

abbrev tag : ℕ → ℕ → Tag
tag g e = record { group = g; element = e }

abbrev images : Tag
images = tag 0x0008 0x1140

abbrev pixels : Tag
pixels = tag 0x7FE0 0x0010

abbrev instance : Trees
instance = leaf (tag 0x0008 0x1155) UI (codes "1.2\0") no_tree

abbrev open_images : Length → OpenItem → Front
open_images declared last = front no_tree (open_sequence images SQ declared no_item last) (Some images) false

abbrev open_value : Tag → Vr → ℕ → List ℕ → Front
open_value t vr size value = front no_tree (open_leaf t vr size value) (Some t) false

-- text, without its pad byte
name : dump_set Extract Short 0 (leaf (tag 0x0010 0x0010) PN (codes "AB^CD ") no_tree) ≡ codes "(0010,0010) PN [AB^CD]                                  #   6, 1 PatientName\n"
unfolding all
name = refl

-- an odd text has no pad byte
odd_text : dump_set Extract Short 0 (leaf (tag 0x0010 0x4000) LT (codes " ") no_tree) ≡ codes "(0010,4000) LT [ ]                                      #   1, 1 PatientComments\n"
unfolding all
odd_text = refl

-- three values, and a byte shown by its number
escaped_text : dump_set Extract Short 0 (leaf (tag 0x0008 0x0070) LO (codes "a\\b\\c\n") no_tree) ≡ codes "(0008,0070) LO [a\\b\\c%0A]                               #   6, 3 Manufacturer\n"
unfolding all
escaped_text = refl

-- bytes
unknown_bytes : dump_set Extract Short 0 (leaf (tag 0x0009 0x1001) UN (0x41 ∷ 0x42 ∷ []) no_tree) ≡ codes "(0009,1001) UN 41\\42                                    #   2, 1 Unknown Tag & Data\n"
unfolding all
unknown_bytes = refl

-- numbers
meta_length : dump_set Extract Short 0 (leaf (tag 0x0002 0x0000) UL (0x1C ∷ 0x00 ∷ 0x00 ∷ 0x00 ∷ []) no_tree) ≡ codes "(0002,0000) UL 28                                       #   4, 1 FileMetaInformationGroupLength\n"
unfolding all
meta_length = refl

meta_version : dump_set Extract Short 0 (leaf (tag 0x0002 0x0001) OB (0x00 ∷ 0x01 ∷ []) no_tree) ≡ codes "(0002,0001) OB 00\\01                                    #   2, 1 FileMetaInformationVersion\n"
unfolding all
meta_version = refl

-- an identifier that has a name
transfer_syntax : dump_set Extract Short 0 (leaf (tag 0x0002 0x0010) UI (codes "1.2.840.10008.1.2.1\0") no_tree) ≡ codes "(0002,0010) UI =LittleEndianExplicit                    #  20, 1 TransferSyntaxUID\n"
unfolding all
transfer_syntax = refl

-- a byte behind the last whole unit is not shown
rest_byte : dump_set Extract Short 0 (leaf (tag 0x0028 0x0010) US (0x01 ∷ 0x00 ∷ 0x00 ∷ 0x02 ∷ 0x05 ∷ []) no_tree) ≡ codes "(0028,0010) US 1\\512                                    #   5, 2 Rows\n"
unfolding all
rest_byte = refl

a_tag : dump_set Extract Short 0 (leaf (tag 0x0028 0x0009) AT (0x18 ∷ 0x00 ∷ 0x63 ∷ 0x10 ∷ []) no_tree) ≡ codes "(0028,0009) AT (0018,1063)                              #   4, 1 FrameIncrementPointer\n"
unfolding all
a_tag = refl

a_double : dump_set Extract Short 0 (leaf (tag 0x0018 0x9087) FD (0x00 ∷ 0x00 ∷ 0x00 ∷ 0x00 ∷ 0x00 ∷ 0x40 ∷ 0x8F ∷ 0x40 ∷ []) no_tree) ≡ codes "(0018,9087) FD 408f400000000000                         #   8, 1 DiffusionBValue\n"
unfolding all
a_double = refl

minus_one : dump_set Extract Short 0 (leaf (tag 0x0009 0x1001) SS (0xFF ∷ 0xFF ∷ []) no_tree) ≡ codes "(0009,1001) SS -1                                       #   2, 1 Unknown Tag & Data\n"
unfolding all
minus_one = refl

words : dump_set Extract Short 0 (leaf (tag 0x7FE0 0x0010) OW (0x01 ∷ 0x02 ∷ 0x03 ∷ 0x04 ∷ []) no_tree) ≡ codes "(7fe0,0010) OW 0201\\0403                                #   4, 1 PixelData\n"
unfolding all
words = refl

-- numbers of eight bytes
long_number : dump_set Extract Short 0 (leaf (tag 0x0009 0x1001) UV (0x02 ∷ 0x01 ∷ 0x00 ∷ 0x00 ∷ 0x00 ∷ 0x00 ∷ 0x00 ∷ 0x00 ∷ []) no_tree) ≡ codes "(0009,1001) UV 258                                      #   8, 1 Unknown Tag & Data\n"
unfolding all
long_number = refl

long_minus_one : dump_set Extract Short 0 (leaf (tag 0x0009 0x1001) SV (0xFF ∷ 0xFF ∷ 0xFF ∷ 0xFF ∷ 0xFF ∷ 0xFF ∷ 0xFF ∷ 0xFF ∷ []) no_tree) ≡ codes "(0009,1001) SV -1                                       #   8, 1 Unknown Tag & Data\n"
unfolding all
long_minus_one = refl

long_words : dump_set Extract Short 0 (leaf (tag 0x0009 0x1001) OV (0x01 ∷ 0x02 ∷ 0x03 ∷ 0x04 ∷ 0x05 ∷ 0x06 ∷ 0x07 ∷ 0x08 ∷ []) no_tree) ≡ codes "(0009,1001) OV 0807060504030201                         #   8, 1 Unknown Tag & Data\n"
unfolding all
long_words = refl

-- the length of a group is shown
group_length : dump_set Extract Short 0 (leaf (tag 0x0008 0x0000) UL (0x0A ∷ 0x00 ∷ 0x00 ∷ 0x00 ∷ []) no_tree) ≡ codes "(0008,0000) UL 10                                       #   4, 1 GenericGroupLength\n"
unfolding all
group_length = refl

-- 66 bytes are shown whole
just_whole : dump_set Extract Short 0 (leaf (tag 0x0010 0x4000) LT (replicate 64 97) no_tree) ≡ codes "(0010,4000) LT [" ++ replicate 64 97 ++ codes "] #  64, 1 PatientComments\n"
unfolding all
just_whole = refl

-- and of 67 the first 63
shortened_text : dump_set Extract Short 0 (leaf (tag 0x0010 0x4000) LT (replicate 65 97) no_tree) ≡ codes "(0010,4000) LT [" ++ replicate 62 97 ++ codes "... #  65, 1 PatientComments\n"
unfolding all
shortened_text = refl

whole_text : dump_set Extract Full 0 (leaf (tag 0x0010 0x4000) LT (replicate 65 97) no_tree) ≡ codes "(0010,4000) LT [" ++ replicate 65 97 ++ codes "] #  65, 1 PatientComments\n"
unfolding all
whole_text = refl

-- sequences and items
empty_sequence : dump_set Extract Short 0 (sequence images SQ (Known 0) no_item no_tree) ≡ codes "(0008,1140) SQ (Sequence with explicit length)          #   0, 1 ReferencedImageSequence\n" ++ codes "(fffe,e0dd) na (SequenceDelimitationItem for re-encod.) #   0, 0 SequenceDelimitationItem\n"
unfolding all
empty_sequence = refl

one_item : dump_set Extract Short 0 (sequence images SQ Undefined (item (Known 12) instance no_item) no_tree) ≡ codes "(0008,1140) SQ (Sequence with undefined length)         # u/l, 1 ReferencedImageSequence\n" ++ codes "  (fffe,e000) na (Item with explicit length)              #  12, 1 Item\n" ++ codes "    (0008,1155) UI [1.2]                                    #   4, 1 ReferencedSOPInstanceUID\n" ++ codes "  (fffe,e00d) na (ItemDelimitationItem for re-encoding)   #   0, 0 ItemDelimitationItem\n" ++ codes "(fffe,e0dd) na (SequenceDelimitationItem)               #   0, 0 SequenceDelimitationItem\n"
unfolding all
one_item = refl

-- what stands open has no end
open_item_lines : dump_front Extract Short 0 (open_images (Known 100) (open_item Undefined (front instance nothing_open (Some (tag 0x0008 0x1155)) false))) ≡ codes "(0008,1140) SQ (Sequence with explicit length)          # 100, 1 ReferencedImageSequence\n" ++ codes "  (fffe,e000) na (Item with undefined length)             # u/l, 1 Item\n" ++ codes "    (0008,1155) UI [1.2]                                    #   4, 1 ReferencedSOPInstanceUID\n"
unfolding all
open_item_lines = refl

open_sequence_line : dump_front Extract Short 0 (open_images (Known 16) no_open_item) ≡ codes "(0008,1140) SQ (Sequence with explicit length)          #  16, 1 ReferencedImageSequence\n"
unfolding all
open_sequence_line = refl

-- a fragment list
two_fragments : dump_set Extract Short 0 (fragments pixels OB ([] ∷ (0xFF ∷ 0xD8 ∷ []) ∷ []) no_tree) ≡ codes "(7fe0,0010) OB (PixelSequence)                          # u/l, 1 PixelData\n" ++ codes "  (fffe,e000) pi (no value available)                     #   0, 1 Item\n" ++ codes "  (fffe,e000) pi ff\\d8                                    #   2, 1 Item\n" ++ codes "(fffe,e0dd) na (SequenceDelimitationItem)               #   0, 0 SequenceDelimitationItem\n"
unfolding all
two_fragments = refl

open_fragment_line : dump_front Extract Full 0 (front no_tree (open_fragments pixels OB ([] ∷ []) (Some (4, 0xFF ∷ []))) (Some pixels) false) ≡ codes "(7fe0,0010) OB (PixelSequence)                          # u/l, 1 PixelData\n" ++ codes "  (fffe,e000) pi (no value available)                     #   0, 1 Item\n" ++ codes "  (fffe,e000) pi ff"
unfolding all
open_fragment_line = refl

-- of an open value what has come
open_text : dump_front Extract Full 0 (open_value (tag 0x0010 0x0010) PN 6 (codes "AB")) ≡ codes "(0010,0010) PN [AB"
unfolding all
open_text = refl

open_text_short : dump_front Extract Short 0 (open_value (tag 0x0010 0x0010) PN 6 (codes "AB")) ≡ []
unfolding all
open_text_short = refl

open_words : dump_front Extract Full 0 (open_value pixels OW 0xFFFFFFFE []) ≡ codes "(7fe0,0010) OW "
unfolding all
open_words = refl

open_numbers : dump_front Extract Full 0 (open_value (tag 0x0028 0x0010) US 6 (0x01 ∷ 0x00 ∷ 0x00 ∷ 0x02 ∷ 0x05 ∷ [])) ≡ codes "(0028,0010) US 1\\512"
unfolding all
open_numbers = refl

-- an identifier that may have a name is not shown before it is whole
open_identifier : dump_front Extract Full 0 (open_value (tag 0x0008 0x0016) UI 6 (codes "1.")) ≡ codes "(0008,0016) UI "
unfolding all
open_identifier = refl

-- ---- headers

meta_elements : Trees
meta_elements = leaf (tag 0x0002 0x0000) UL (0x1C ∷ 0x00 ∷ 0x00 ∷ 0x00 ∷ []) (leaf (tag 0x0002 0x0010) UI (codes "1.2.840.10008.1.2.1\0") no_tree)

file_header : meta_header Extract Short meta_elements ++ set_header (codes "1.2.840.10008.1.2.1") ≡ codes "# Dicom-File-Format\n"
    ++ codes "\n"
    ++ codes "# Dicom-Meta-Information-Header\n"
    ++ codes "# Used TransferSyntax: LittleEndianExplicit\n"
    ++ codes "(0002,0000) UL 28                                       #   4, 1 FileMetaInformationGroupLength\n"
    ++ codes "(0002,0010) UI =LittleEndianExplicit                    #  20, 1 TransferSyntaxUID\n"
    ++ codes "\n"
    ++ codes "# Dicom-Data-Set\n"
    ++ codes "# Used TransferSyntax: LittleEndianExplicit\n"
unfolding all meta_elements
file_header = refl

-- a transfer syntax without a name
unnamed_syntax : set_header (codes "1.2.3]") ≡ codes "# Dicom-Data-Set\n" ++ codes "# Used TransferSyntax: 1.2.3%5D\n"
unfolding all
unnamed_syntax = refl

-- its line says nothing of characters
closed_syntax : set_header (codes "(texts in UTF-8)") ≡ codes "# Dicom-Data-Set\n" ++ codes "# Used TransferSyntax: (texts in UTF-8%29\n"
unfolding all
closed_syntax = refl
