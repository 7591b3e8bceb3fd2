-- Worked rows of lines: what they build, and the fault that is told.
use Rattle.std.proofs.Common.{◌≡◌, ℕ, zero, suc, flat_map, List, [], ◌∷◌, ◌++◌, Option, Some, None, true, false, refl, replicate}
use Rattle.std.specs.Prelude.{codes}
use Rattle.dcm_base.specs.declared.tag.Tag.{Tag}
use Rattle.dcm_base.specs.declared.vr.Vr.TheVariants.{UI, PN, LO, SQ, LT, UL, UV, OB, UN, SH}
use Rattle.dcm_base.specs.declared.fault.LineFault.{LineFault}
use Rattle.dcm_base.specs.declared.fault.LineFault.TheVariants.{LineTooLong, NotALine, ValueDoesNotFit, NotAllowed, NotAscending, BadMetaGroup, NoTransferSyntax, TooDeep, EndsEarly, ByCharacters}
use Rattle.dcm_base.specs.declared.length.Length.TheVariants.{Undefined}
use Rattle.dcm_base.specs.Tree.Tree.{Trees, no_tree, leaf, sequence, fragments, no_item, item}
use Rattle.dcm_base.specs.Tree.Front.{Front, front, nothing_open, open_sequence, no_open_item, open_item}
use Rattle.dcm_base.specs.Tables.Representation.{vr_of}
use Rattle.dcm_base.specs.Tables.Uid.{uid_of, uids}
use Rattle.dcm_base.specs.Tables.Transfer.{without_pads, coding_of}
use Rattle.dcm_base.specs.Reading.Size.{trees_size}
use Rattle.dcm_base.specs.Reading.Place.{set_levels, levels, depth}
use Rattle.dcm_base.specs.Reading.Bars.{innermost_reached}
use Rattle.dcm_base.specs.Lines.Build.{built, Built, Progress, with_step, no_elements}
use Rattle.dcm_base.specs.declared.fault.LineStop.{LineStop}

-- all that a row computes with
unfoldable pub all : ℕ
unfolding vr_of uid_of uids without_pads coding_of trees_size set_levels levels depth innermost_reached with_step built
all = 0

-- the lines before the first fault build this, and the fault is told so
abbrev Builds : Progress → Built → Option LineStop → Type 0
Builds p b t = (p.built ≡ b) × (p.told ≡ t)

abbrev tag : ℕ → ℕ → Tag
tag g e = record { group = g; element = e }

abbrev at_line : LineFault → ℕ → ℕ → Option LineStop
at_line fault offset line = Some (record { fault = fault; offset = offset; line = line })

abbrev syntax_line : List ℕ
syntax_line = codes "(0002,0010) UI =LittleEndianExplicit\n"

abbrev syntax_leaf : Trees
syntax_leaf = leaf (tag 2 0x10) UI (codes "1.2.840.10008.1.2.1") no_tree

-- the meta group of one element, behind which these elements stand
abbrev shown : Front → Built
shown f = record { meta = syntax_leaf; meta_ended = true; set = f }

abbrev unended : Trees → Built
unended meta = record { meta = meta; meta_ended = false; set = no_elements }

abbrev set_of : Trees → Tag → Front
set_of whole reached = front whole nothing_open (Some reached) false

name_line : Builds (built 4096 (syntax_line ++ codes "(0010,0010) PN [AB^CD]                                  #   6, 1 PatientName\n"))
    (shown (set_of (leaf (tag 0x10 0x10) PN (codes "AB^CD") no_tree) (tag 0x10 0x10))) None
unfolding all
name_line = (refl, refl)

empty_input : Builds (built 4096 []) (unended no_tree) (at_line NoTransferSyntax 0 1)
unfolding all
empty_input = (refl, refl)

no_syntax : Builds (built 4096 (codes "(0010,0010) PN [A]")) (unended no_tree) (at_line NoTransferSyntax 0 1)
unfolding all
no_syntax = (refl, refl)

no_value_field : Builds (built 4096 (syntax_line ++ codes "(0010,0010) PN")) (unended syntax_leaf) (at_line NotALine 37 2)
unfolding all
no_value_field = (refl, refl)

-- the end of no item; the meta group has ended
end_of_nothing : Builds (built 4096 (syntax_line ++ codes "(fffe,e00d) na (ItemDelimitationItem)")) (shown no_elements) (at_line NotAllowed 37 2)
unfolding all
end_of_nothing = (refl, refl)

descending_tag : Builds (built 4096 (syntax_line ++ codes "(0010,0020) LO [7]\n(0010,0010) PN [A]"))
    (shown (set_of (leaf (tag 0x10 0x20) LO (codes "7") no_tree) (tag 0x10 0x20))) (at_line NotAscending 56 3)
unfolding all
descending_tag = (refl, refl)

-- a line of the meta group behind one of the data set
late_meta_line : Builds (built 4096 (syntax_line ++ codes "(0010,0010) PN [A]\n" ++ syntax_line))
    (shown (set_of (leaf (tag 0x10 0x10) PN (codes "A") no_tree) (tag 0x10 0x10))) (at_line BadMetaGroup 56 3)
unfolding all
late_meta_line = (refl, refl)

open_at_the_end : Builds (built 4096 (syntax_line ++ codes "(0008,1140) SQ (Sequence with undefined length)\n"))
    (shown (front no_tree (open_sequence (tag 8 0x1140) SQ Undefined no_item no_open_item) (Some (tag 8 0x1140)) false)) (at_line EndsEarly 85 3)
unfolding all
open_at_the_end = (refl, refl)

-- a line of just the usual limit, one past it, and a value without its bracket
longest_line : Builds (built 4096 (syntax_line ++ codes "(0010,4000) LT [" ++ replicate 4079 97 ++ codes "]"))
    (shown (set_of (leaf (tag 0x10 0x4000) LT (replicate 4079 97) no_tree) (tag 0x10 0x4000))) None
unfolding all
longest_line = (refl, refl)

too_long_line : Builds (built 4096 (syntax_line ++ codes "(0010,4000) LT [" ++ replicate 4080 97 ++ codes "]")) (unended syntax_leaf) (at_line LineTooLong 37 2)
unfolding all
too_long_line = (refl, refl)

shortened_value : Builds (built 4096 (syntax_line ++ codes "(0010,0010) PN [AB...")) (shown no_elements) (at_line ValueDoesNotFit 37 2)
unfolding all
shortened_value = (refl, refl)

-- the greatest number of eight bytes, and one more
greatest_number : Builds (built 4096 (syntax_line ++ codes "(0009,1001) UV 18446744073709551615"))
    (shown (set_of (leaf (tag 9 0x1001) UV (replicate 8 255) no_tree) (tag 9 0x1001))) None
unfolding all
greatest_number = (refl, refl)

number_too_great : Builds (built 4096 (syntax_line ++ codes "(0009,1001) UV 18446744073709551616")) (shown no_elements) (at_line ValueDoesNotFit 37 2)
unfolding all
number_too_great = (refl, refl)

-- a whole dump, with its header, a carriage return and an item
whole_dump : Builds
    (built 4096 (codes "# Dicom-File-Format\n\n# Dicom-Meta-Information-Header\n(0002,0000) UL 28                                       #   4, 1 FileMetaInformationGroupLength\n(0002,0010) UI =LittleEndianExplicit                    #  20, 1 TransferSyntaxUID\r\n\n(0008,1140) SQ (Sequence with undefined length)         # u/l, 1 ReferencedImageSequence\n  (fffe,e000) na (Item with explicit length)              #  12, 1 Item\n    (0008,1155) UI [1.2]                                    #   4, 1 ReferencedSOPInstanceUID\n  (fffe,e00d) na (ItemDelimitationItem for re-encoding)   #   0, 0 ItemDelimitationItem\n(fffe,e0dd) na (SequenceDelimitationItem)               #   0, 0 SequenceDelimitationItem\n"))
    (record {
      meta = leaf (tag 2 0) UL (28 ∷ 0 ∷ 0 ∷ 0 ∷ []) syntax_leaf;
      meta_ended = true;
      set = set_of (sequence (tag 8 0x1140) SQ Undefined (item Undefined (leaf (tag 8 0x1155) UI (codes "1.2") no_tree) no_item) no_tree) (tag 8 0x1140);
    })
    None
unfolding all
whole_dump = (refl, refl)

-- ---- a dump by characters

-- what stands is what the lines before it have built; one carriage return and then spaces do not count
by_characters : Builds (built 4096 (syntax_line ++ codes "(0010,0010) PN [AB^CD]\n# Dicom-Data-Set (texts in UTF-8) \r\n(0010,0020) LO [7]\n"))
    (shown (set_of (leaf (tag 0x10 0x10) PN (codes "AB^CD") no_tree) (tag 0x10 0x10))) (at_line ByCharacters 60 3)
unfolding all
by_characters = (refl, refl)

-- it is told after a line that is too long
long_mark : Builds (built 80 (codes "#" ++ replicate 64 32 ++ codes "(texts in UTF-8)\n")) (unended no_tree) (at_line LineTooLong 0 1)
unfolding all
long_mark = (refl, refl)

-- ---- limits

-- a comment past the limit, and a carriage return that counts against it
long_comment : Builds (built 80 (codes "#" ++ replicate 80 97 ++ codes "\n")) (unended no_tree) (at_line LineTooLong 0 1)
unfolding all
long_comment = (refl, refl)

return_counts : Builds (built 80 (syntax_line ++ codes "(0010,4000) LT [" ++ replicate 63 97 ++ codes "]\r\n")) (unended syntax_leaf) (at_line LineTooLong 37 2)
unfolding all
return_counts = (refl, refl)

return_is_dropped : Builds (built 80 (syntax_line ++ codes "(0010,4000) LT [" ++ replicate 62 97 ++ codes "]\r"))
    (shown (set_of (leaf (tag 0x10 0x4000) LT (replicate 62 97) no_tree) (tag 0x10 0x4000))) None
unfolding all
return_is_dropped = (refl, refl)

-- a group of just 16,384 bytes, heads among them, and one of a byte more
abbrev version_line : ℕ → List ℕ
version_line n = codes "(0002,0013) SH [" ++ replicate n 97 ++ codes "]\n"

abbrev version_leaf : ℕ → Trees → Trees
version_leaf n rest = leaf (tag 2 0x13) SH (replicate n 97) rest

largest_group : Builds (built 16384 (syntax_line ++ version_line 10000 ++ version_line 6341))
    (record { meta = leaf (tag 2 0x10) UI (codes "1.2.840.10008.1.2.1") (version_leaf 10000 (version_leaf 6341 no_tree)); meta_ended = true; set = no_elements }) None
unfolding all
largest_group = (refl, refl)

group_too_large : Builds (built 16384 (syntax_line ++ version_line 10000 ++ version_line 6342))
    (record { meta = leaf (tag 2 0x10) UI (codes "1.2.840.10008.1.2.1") (version_leaf 10000 no_tree); meta_ended = false; set = no_elements }) (at_line BadMetaGroup 10055 3)
unfolding all
group_too_large = (refl, refl)

-- 64 sequences in one another, and one more
abbrev sequence_line : List ℕ
sequence_line = codes "(0008,1140) SQ (Sequence with undefined length)\n"

abbrev deep_lines : List ℕ
deep_lines = syntax_line ++ flat_map {X = ℕ} (λ n. sequence_line ++ codes "(fffe,e000) na (Item with undefined length)\n") (replicate 64 0)

deep : ℕ → Front
deep zero = no_elements
deep (suc n) = front no_tree (open_sequence (tag 8 0x1140) SQ Undefined no_item (open_item Undefined (deep n))) (Some (tag 8 0x1140)) false

deepest_lines : Builds (built 4096 deep_lines) (shown (deep 64)) (at_line EndsEarly 5925 130)
unfolding all deep
deepest_lines = (refl, refl)

too_deep : Builds (built 4096 (deep_lines ++ sequence_line)) (shown (deep 64)) (at_line TooDeep 5925 130)
unfolding all deep
too_deep = (refl, refl)

-- ---- the order of checks

-- the group's end is told before the line's own fault, and the place of a step before its value
group_before_place : Builds (built 4096 (codes "(fffe,e000) pi zz")) (unended no_tree) (at_line NoTransferSyntax 0 1)
unfolding all
group_before_place = (refl, refl)

place_before_value : Builds (built 4096 (syntax_line ++ codes "(fffe,e000) pi zz")) (shown no_elements) (at_line NotAllowed 37 2)
unfolding all
place_before_value = (refl, refl)

order_before_value : Builds (built 4096 (syntax_line ++ codes "(0010,0020) LO [7]\n(0008,1140) SQ [x]"))
    (shown (set_of (leaf (tag 0x10 0x20) LO (codes "7") no_tree) (tag 0x10 0x20))) (at_line NotAscending 56 3)
unfolding all
order_before_value = (refl, refl)

sequence_without_value : Builds (built 4096 (syntax_line ++ codes "(0008,1140) SQ [x]")) (shown no_elements) (at_line ValueDoesNotFit 37 2)
unfolding all
sequence_without_value = (refl, refl)

-- an opening in the meta group, before its end and behind it
opening_in_group : Builds (built 4096 (syntax_line ++ codes "(0002,0102) SQ (Sequence with undefined length)")) (unended syntax_leaf) (at_line NotAllowed 37 2)
unfolding all
opening_in_group = (refl, refl)

late_opening : Builds (built 4096 (syntax_line ++ codes "(0010,0010) PN [A]\n(0002,0102) SQ (Sequence with undefined length)"))
    (shown (set_of (leaf (tag 0x10 0x10) PN (codes "A") no_tree) (tag 0x10 0x10))) (at_line BadMetaGroup 56 3)
unfolding all
late_opening = (refl, refl)

bad_meta_value : Builds (built 4096 (syntax_line ++ codes "(0002,0102) OB zz")) (unended syntax_leaf) (at_line ValueDoesNotFit 37 2)
unfolding all
bad_meta_value = (refl, refl)

-- a deflated transfer syntax, and one that is empty
deflated_syntax : Builds (built 4096 (codes "(0002,0010) UI =DeflatedLittleEndianExplicit\n"))
    (unended (leaf (tag 2 0x10) UI (codes "1.2.840.10008.1.2.1.99") no_tree)) (at_line NoTransferSyntax 45 2)
unfolding all
deflated_syntax = (refl, refl)

empty_syntax : Builds (built 4096 (codes "(0002,0010) UI [ ]\n(0010,0010) PN [A]")) (unended (leaf (tag 2 0x10) UI (codes " ") no_tree)) (at_line NoTransferSyntax 19 2)
unfolding all
empty_syntax = (refl, refl)

-- ---- fragment lists

fragment_lines : Builds
    (built 4096 (codes "(0002,0010) UI =JPEGBaseline\n(7fe0,0010) OB (PixelSequence)\n  (fffe,e000) pi (no value available)\n  (fffe,e000) pi ff\\d8\n(fffe,e0dd) na (SequenceDelimitationItem)\n"))
    (record {
      meta = leaf (tag 2 0x10) UI (codes "1.2.840.10008.1.2.4.50") no_tree;
      meta_ended = true;
      set = set_of (fragments (tag 0x7FE0 0x10) OB ([] ∷ (0xFF ∷ 0xD8 ∷ []) ∷ []) no_tree) (tag 0x7FE0 0x10);
    })
    None
unfolding all
fragment_lines = (refl, refl)

-- they stand in explicit little endian alone
fragments_in_big : Builds (built 4096 (codes "(0002,0010) UI =BigEndianExplicit\n(7fe0,0010) OB (PixelSequence)"))
    (record { meta = leaf (tag 2 0x10) UI (codes "1.2.840.10008.1.2.2") no_tree; meta_ended = true; set = no_elements }) (at_line NotAllowed 34 2)
unfolding all
fragments_in_big = (refl, refl)

-- UN of undefined length is a sequence
unknown_sequence : Builds (built 4096 (syntax_line ++ codes "(0009,1010) UN (Sequence with undefined length)\n(fffe,e0dd) na (SequenceDelimitationItem)"))
    (shown (set_of (sequence (tag 9 0x1010) UN Undefined no_item no_tree) (tag 9 0x1010))) None
unfolding all
unknown_sequence = (refl, refl)
