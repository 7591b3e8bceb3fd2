-- Worked rows: what single lines mean.
use Rattle.std.proofs.Common.{◌≡◌, ℕ, [], ◌∷◌, Some, None, refl}
use Rattle.std.specs.Prelude.{codes}
use Rattle.dcm_base.specs.declared.tag.Tag.{Tag}
use Rattle.dcm_base.specs.declared.vr.Vr.TheVariants.{AT, OB, OW, PN, SQ, UN}
use Rattle.dcm_base.specs.Tables.Representation.{vr_of}
use Rattle.dcm_base.specs.Lines.Line.{show_leaf, begin_sequence, begin_fragments, begin_item, show_fragment, end_item, end_sequence, nothing, one, by_characters, no_line, means}

abbrev tag : ℕ → ℕ → Tag
tag g e = record { group = g; element = e }

-- lines that are skipped
blank : means (codes "   ") ≡ nothing
unfolding vr_of
blank = refl

comment : means (codes "  # (0010,0010) PN [A]") ≡ nothing
unfolding vr_of
comment = refl

empty : means (codes "") ≡ nothing
unfolding vr_of
empty = refl

-- comments that say that texts are shown as characters
marked : means (codes "# Dicom-File-Format (texts in UTF-8)") ≡ by_characters
unfolding vr_of
marked = refl

marked_before_spaces : means (codes "  #(texts in UTF-8)  ") ≡ by_characters
unfolding vr_of
marked_before_spaces = refl

mark_inside : means (codes "# (texts in UTF-8) x") ≡ nothing
unfolding vr_of
mark_inside = refl

mark_before_return : means (codes "# (texts in UTF-8)\r") ≡ nothing
unfolding vr_of
mark_before_return = refl

mark_of_no_comment : means (codes "(texts in UTF-8)") ≡ no_line
unfolding vr_of
mark_of_no_comment = refl

mark_of_an_element : means (codes "(0010,0010) PN [A] # (texts in UTF-8)") ≡ one (show_leaf (tag 0x0010 0x0010) PN (Some (codes "A")))
unfolding vr_of
mark_of_an_element = refl

-- elements
an_element : means (codes "(0010,0010) PN [AB^CD]                                  #   6, 1 PatientName") ≡ one (show_leaf (tag 0x0010 0x0010) PN (Some (codes "AB^CD")))
unfolding vr_of
an_element = refl

indented : means (codes "    (0010,0010)   PN   [A] ") ≡ one (show_leaf (tag 0x0010 0x0010) PN (Some (codes "A")))
unfolding vr_of
indented = refl

capital_digits : means (codes "(7FE0,0010) OW 0201") ≡ one (show_leaf (tag 0x7FE0 0x0010) OW (Some (1 ∷ 2 ∷ [])))
unfolding vr_of
capital_digits = refl

-- a comment may stand right behind a bracket
comment_behind_bracket : means (codes "(0010,0010) PN [A]#x") ≡ one (show_leaf (tag 0x0010 0x0010) PN (Some (codes "A")))
unfolding vr_of
comment_behind_bracket = refl

-- but is part of a field without brackets
comment_behind_bytes : means (codes "(0009,1001) OB 00\\01#x") ≡ one (show_leaf (tag 0x0009 0x1001) OB None)
unfolding vr_of
comment_behind_bytes = refl

bytes_behind_bracket : means (codes "(0010,0010) PN [A]x") ≡ no_line
unfolding vr_of
bytes_behind_bracket = refl

words_behind_value : means (codes "(0028,0010) US 1 2") ≡ no_line
unfolding vr_of
words_behind_value = refl

no_space : means (codes "(0010,0010)PN [A]") ≡ no_line
unfolding vr_of
no_space = refl

three_letters : means (codes "(0010,0010) PNX [A]") ≡ no_line
unfolding vr_of
three_letters = refl

unknown_letters : means (codes "(0010,0010) ZZ [A]") ≡ no_line
unfolding vr_of
unknown_letters = refl

small_letters : means (codes "(0010,0010) pn [A]") ≡ no_line
unfolding vr_of
small_letters = refl

no_field : means (codes "(0010,0010) PN") ≡ no_line
unfolding vr_of
no_field = refl

comment_for_field : means (codes "(0010,0010) PN # 0") ≡ no_line
unfolding vr_of
comment_for_field = refl

no_value : means (codes "(0010,0010) PN (no value available) #   0, 0 PatientName") ≡ one (show_leaf (tag 0x0010 0x0010) PN (Some []))
unfolding vr_of
no_value = refl

two_tags : means (codes "(0028,0009) AT (0018,1063)\\(0028,0010) # 8, 2 FrameIncrementPointer") ≡ one (show_leaf (tag 0x0028 0x0009) AT (Some (0x18 ∷ 0x00 ∷ 0x63 ∷ 0x10 ∷ 0x28 ∷ 0x00 ∷ 0x10 ∷ 0x00 ∷ [])))
unfolding vr_of
two_tags = refl

bad_value : means (codes "(0010,0010) PN [AB...") ≡ one (show_leaf (tag 0x0010 0x0010) PN None)
unfolding vr_of
bad_value = refl

-- sequences; behind their beginning the line has no meaning
a_sequence : means (codes "(0008,1140) SQ (Sequence with undefined length)         # u/l, 1 ReferencedImageSequence") ≡ one (begin_sequence (tag 0x0008 0x1140) SQ)
unfolding vr_of
a_sequence = refl

only_its_beginning : means (codes "(0008,1140) SQ (Sequence with") ≡ one (begin_sequence (tag 0x0008 0x1140) SQ)
unfolding vr_of
only_its_beginning = refl

unknown_sequence : means (codes "(0009,1010) UN (Sequence with undefined length)") ≡ one (begin_sequence (tag 0x0009 0x1010) UN)
unfolding vr_of
unknown_sequence = refl

-- a sequence with any other value is an element whose value does not fit
sequence_with_text : means (codes "(0008,1140) SQ [x]") ≡ one (show_leaf (tag 0x0008 0x1140) SQ None)
unfolding vr_of
sequence_with_text = refl

sequence_without_value : means (codes "(0008,1140) SQ (no value available)") ≡ one (show_leaf (tag 0x0008 0x1140) SQ None)
unfolding vr_of
sequence_without_value = refl

-- fragment lists
a_fragment_list : means (codes "(7fe0,0010) OB (PixelSequence)") ≡ one (begin_fragments (tag 0x7FE0 0x0010) OB)
unfolding vr_of
a_fragment_list = refl

fragments_of_text : means (codes "(0010,0010) PN (PixelSequence)") ≡ one (show_leaf (tag 0x0010 0x0010) PN None)
unfolding vr_of
fragments_of_text = refl

-- items, fragments and ends
an_item : means (codes "(fffe,e000) na (Item with explicit length)              #  12, 1 Item") ≡ one begin_item
unfolding vr_of
an_item = refl

a_fragment : means (codes "(FFFE,E000) pi ff\\d8") ≡ one (show_fragment (Some (0xFF ∷ 0xD8 ∷ [])))
unfolding vr_of
a_fragment = refl

empty_fragment : means (codes "(fffe,e000) pi (no value available)") ≡ one (show_fragment (Some []))
unfolding vr_of
empty_fragment = refl

bad_fragment : means (codes "(fffe,e000) pi zz") ≡ one (show_fragment None)
unfolding vr_of
bad_fragment = refl

item_end : means (codes "(fffe,e00d) na (ItemDelimitationItem for re-encoding)") ≡ one end_item
unfolding vr_of
item_end = refl

sequence_end : means (codes "(fffe,e0dd) na (SequenceDelimitationItem) x") ≡ one end_sequence
unfolding vr_of
sequence_end = refl

item_of_letters : means (codes "(fffe,e000) SQ (Item with undefined length)") ≡ no_line
unfolding vr_of
item_of_letters = refl

other_of_the_group : means (codes "(fffe,e001) na (Item with undefined length)") ≡ no_line
unfolding vr_of
other_of_the_group = refl

a_tabulator : means (9 ∷ codes "(0010,0010) PN [A]") ≡ no_line
unfolding vr_of
a_tabulator = refl
