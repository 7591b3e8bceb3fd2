-- Worked rows of the dictionaries (PS3.6 sections 6 and 7).
use Rattle.std.proofs.Common.{◌≡◌, Some, None, refl}
use Rattle.std.specs.Prelude.{ℕ, codes}
use Rattle.dcm_base.specs.declared.dictionary.Dictionary.TheVariants.{Extract, Standard, Signed}
use Rattle.dcm_base.specs.declared.vr.Vr.TheVariants.{AE, LO, OW, PN, SQ, SS, UL, UN, US}
use Rattle.dcm_base.specs.Tables.Dictionary.{elements, entries, keywords, ambiguous, elements_in, element_in, vr_in, keyword_in, tag_in}

-- all that a row computes with
unfoldable all : ℕ
unfolding elements entries keywords ambiguous elements_in element_in vr_in keyword_in tag_in
all = 0

-- an element of both
name_of_extract : element_in Extract (record { group = 0x0010; element = 0x0010 }) ≡ Some (PN, codes "PatientName")
unfolding all
name_of_extract = refl

name_of_standard : element_in Standard (record { group = 0x0010; element = 0x0010 }) ≡ Some (PN, codes "PatientName")
unfolding all
name_of_standard = refl

-- elements of the standard alone
sequence_of_extract : element_in Extract (record { group = 0x300A; element = 0x0010 }) ≡ None
unfolding all
sequence_of_extract = refl

sequence_of_standard : element_in Standard (record { group = 0x300A; element = 0x0010 }) ≡ Some (SQ, codes "DoseReferenceSequence")
unfolding all
sequence_of_standard = refl

sender_of_extract : tag_in Extract (codes "SendingApplicationEntityTitle") ≡ None
unfolding all
sender_of_extract = refl

sender_of_standard : element_in Standard (record { group = 0x0002; element = 0x0017 }) ≡ Some (AE, codes "SendingApplicationEntityTitle")
unfolding all
sender_of_standard = refl

sender_called : tag_in Standard (codes "SendingApplicationEntityTitle") ≡ Some (record { group = 0x0002; element = 0x0017 })
unfolding all
sender_called = refl

-- an element between US and SS is none that edits name; its representation is by the sign of the pixels, and PixelData,
-- between OB and OW, is OW
least_value : element_in Standard (record { group = 0x0028; element = 0x0106 }) ≡ None
unfolding all
least_value = refl

least_value_vr : vr_in Standard (record { group = 0x0028; element = 0x0106 }) ≡ US
unfolding all
least_value_vr = refl

signed_value_vr : vr_in Signed (record { group = 0x0028; element = 0x0106 }) ≡ SS
unfolding all
signed_value_vr = refl

least_value_keyword : keyword_in Standard (record { group = 0x0028; element = 0x0106 }) ≡ codes "SmallestImagePixelValue"
unfolding all
least_value_keyword = refl

signed_value_keyword : keyword_in Signed (record { group = 0x0028; element = 0x0106 }) ≡ codes "SmallestImagePixelValue"
unfolding all
signed_value_keyword = refl

least_value_of_extract : vr_in Extract (record { group = 0x0028; element = 0x0106 }) ≡ UN
unfolding all
least_value_of_extract = refl

-- one that comes before PixelRepresentation stays unknown, and US that is no such element stays US
perimeter_vr : vr_in Signed (record { group = 0x0028; element = 0x0071 }) ≡ UN
unfolding all
perimeter_vr = refl

table_data_vr : vr_in Signed (record { group = 0x0028; element = 0x3006 }) ≡ OW
unfolding all
table_data_vr = refl

rows_vr : vr_in Signed (record { group = 0x0028; element = 0x0010 }) ≡ US
unfolding all
rows_vr = refl

pixel_data : element_in Standard (record { group = 0x7FE0; element = 0x0010 }) ≡ Some (OW, codes "PixelData")
unfolding all
pixel_data = refl

-- an element of a repeating group is in neither
overlay_rows : element_in Standard (record { group = 0x6000; element = 0x0010 }) ≡ None
unfolding all
overlay_rows = refl

-- private creators, lengths of groups, items
creator_vr : vr_in Standard (record { group = 0x0009; element = 0x0010 }) ≡ LO
unfolding all
creator_vr = refl

creator_keyword : keyword_in Standard (record { group = 0x0009; element = 0x0010 }) ≡ codes "PrivateCreator"
unfolding all
creator_keyword = refl

length_vr : vr_in Standard (record { group = 0x0008; element = 0x0000 }) ≡ UL
unfolding all
length_vr = refl

length_keyword : keyword_in Standard (record { group = 0x0008; element = 0x0000 }) ≡ codes "GenericGroupLength"
unfolding all
length_keyword = refl

meta_length_keyword : keyword_in Standard (record { group = 0x0002; element = 0x0000 }) ≡ codes "FileMetaInformationGroupLength"
unfolding all
meta_length_keyword = refl

item_keyword : keyword_in Standard (record { group = 0xFFFE; element = 0xE000 }) ≡ codes "Item"
unfolding all
item_keyword = refl
