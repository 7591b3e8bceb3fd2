-- Worked rows: the files that lines build, behind their preamble.
use Rattle.std.proofs.Common.{◌≡◌, ℕ, List, [], ◌∷◌, ◌++◌, length, take, drop, refl, replicate}
use Rattle.std.specs.Prelude.{codes}
use Rattle.dcm_base.specs.Tables.Representation.{letters}
use Rattle.dcm_base.specs.Conversion.Recode.{recode, recode_set}
use Rattle.dcm_base.specs.Lines.Build.{built, built_bytes, written_so_far}
use Rattle.dcm_base_laws.proofs.WorkedRows.Lines.{all as lines}

-- all that a row computes with
unfoldable all : ℕ
unfolding lines letters recode recode_set
all = 0

abbrev syntax_line : List ℕ
syntax_line = codes "(0002,0010) UI =LittleEndianExplicit\n"

-- without the preamble of zeros
abbrev file_of : ℕ → List ℕ → List ℕ
file_of limit text = drop 128 (built_bytes (built limit text).built)

-- the prefix, and the group of that line
abbrev group : List ℕ
group = (0x44 ∷ 0x49 ∷ 0x43 ∷ 0x4D ∷ 0x02 ∷ 0x00 ∷ 0x00 ∷ 0x00 ∷ 0x55 ∷ 0x4C ∷ 0x04 ∷ 0x00 ∷ 0x1C ∷ 0x00 ∷ 0x00 ∷ 0x00 ∷ 0x02 ∷ 0x00 ∷ 0x10 ∷ 0x00 ∷ 0x55 ∷ 0x49 ∷ 0x14 ∷ 0x00 ∷ []) ++ codes "1.2.840.10008.1.2.1\0"

preamble : take 128 (built_bytes (built 4096 syntax_line).built) ≡ replicate 128 0
unfolding all
preamble = refl

-- nothing is written before the meta group has ended
nothing : file_of 4096 ([]) ≡ []
unfolding all
nothing = refl

no_syntax : file_of 4096 (codes "(0010,0010) PN [A]") ≡ []
unfolding all
no_syntax = refl

no_value_field : file_of 4096 (syntax_line ++ codes "(0010,0010) PN") ≡ []
unfolding all
no_value_field = refl

-- then the lines before the fault
end_of_nothing : file_of 4096 (syntax_line ++ codes "(fffe,e00d) na (ItemDelimitationItem)") ≡ group
unfolding all
end_of_nothing = refl

descending_tag : file_of 4096 (syntax_line ++ codes "(0010,0020) LO [7]\n(0010,0010) PN [A]") ≡ group ++ 0x10 ∷ 0x00 ∷ 0x20 ∷ 0x00 ∷ 0x4C ∷ 0x4F ∷ 0x02 ∷ 0x00 ∷ 0x37 ∷ 0x20 ∷ []
unfolding all
descending_tag = refl

late_meta_line : file_of 4096 (syntax_line ++ codes "(0010,0010) PN [A]\n" ++ syntax_line) ≡ group ++ 0x10 ∷ 0x00 ∷ 0x10 ∷ 0x00 ∷ 0x50 ∷ 0x4E ∷ 0x02 ∷ 0x00 ∷ 0x41 ∷ 0x20 ∷ []
unfolding all
late_meta_line = refl

-- what stands open has its opening
open_at_the_end : file_of 4096 (syntax_line ++ codes "(0008,1140) SQ (Sequence with undefined length)\n") ≡ group ++ 0x08 ∷ 0x00 ∷ 0x40 ∷ 0x11 ∷ 0x53 ∷ 0x51 ∷ 0x00 ∷ 0x00 ∷ 0xFF ∷ 0xFF ∷ 0xFF ∷ 0xFF ∷ []
unfolding all
open_at_the_end = refl

shortened_value : file_of 4096 (syntax_line ++ codes "(0010,0010) PN [AB...") ≡ group
unfolding all
shortened_value = refl

-- a dump built again
a_name : file_of 4096 (syntax_line ++ codes "(0010,0010) PN [AB^CD]                                  #   6, 1 PatientName\n") ≡ group ++ 0x10 ∷ 0x00 ∷ 0x10 ∷ 0x00 ∷ 0x50 ∷ 0x4E ∷ 0x06 ∷ 0x00 ∷ 0x41 ∷ 0x42 ∷ 0x5E ∷ 0x43 ∷ 0x44 ∷ 0x20 ∷ []
unfolding all
a_name = refl

-- the length of the group is computed
old_group_length : file_of 4096 (codes "(0002,0000) UL 99\n" ++ syntax_line ++ codes "(0010,0010) PN [A]\n") ≡ group ++ 0x10 ∷ 0x00 ∷ 0x10 ∷ 0x00 ∷ 0x50 ∷ 0x4E ∷ 0x02 ∷ 0x00 ∷ 0x41 ∷ 0x20 ∷ []
unfolding all
old_group_length = refl

-- lengths are undefined
an_item : file_of 4096 (syntax_line ++ codes "(0008,1140) SQ (Sequence with explicit length)\n  (fffe,e000) na (Item with explicit length)\n    (0008,1155) UI [1.2]\n  (fffe,e00d) na (ItemDelimitationItem)\n(fffe,e0dd) na (SequenceDelimitationItem)\n") ≡ group ++ 0x08 ∷ 0x00 ∷ 0x40 ∷ 0x11 ∷ 0x53 ∷ 0x51 ∷ 0x00 ∷ 0x00 ∷ 0xFF ∷ 0xFF ∷ 0xFF ∷ 0xFF ∷ 0xFE ∷ 0xFF ∷ 0x00 ∷ 0xE0 ∷ 0xFF ∷ 0xFF ∷ 0xFF ∷ 0xFF ∷ 0x08 ∷ 0x00 ∷ 0x55 ∷ 0x11 ∷ 0x55 ∷ 0x49 ∷ 0x04 ∷ 0x00 ∷ 0x31 ∷ 0x2E ∷ 0x32 ∷ 0x00 ∷ 0xFE ∷ 0xFF ∷ 0x0D ∷ 0xE0 ∷ 0x00 ∷ 0x00 ∷ 0x00 ∷ 0x00 ∷ 0xFE ∷ 0xFF ∷ 0xDD ∷ 0xE0 ∷ 0x00 ∷ 0x00 ∷ 0x00 ∷ 0x00 ∷ []
unfolding all
an_item = refl

greatest_number : file_of 4096 (syntax_line ++ codes "(0009,1001) UV 18446744073709551615") ≡ group ++ 0x09 ∷ 0x00 ∷ 0x01 ∷ 0x10 ∷ 0x55 ∷ 0x56 ∷ 0x00 ∷ 0x00 ∷ 0x08 ∷ 0x00 ∷ 0x00 ∷ 0x00 ∷ 0xFF ∷ 0xFF ∷ 0xFF ∷ 0xFF ∷ 0xFF ∷ 0xFF ∷ 0xFF ∷ 0xFF ∷ []
unfolding all
greatest_number = refl

longest_line : file_of 4096 (syntax_line ++ codes "(0010,4000) LT [" ++ replicate 4079 97 ++ codes "]") ≡ group ++ (0x10 ∷ 0x00 ∷ 0x00 ∷ 0x40 ∷ 0x4C ∷ 0x54 ∷ 0xF0 ∷ 0x0F ∷ []) ++ replicate 4079 97 ++ 0x20 ∷ []
unfolding all
longest_line = refl

longest_file : length (built_bytes (built 4096 (syntax_line ++ codes "(0010,4000) LT [" ++ replicate 4079 97 ++ codes "]")).built) ≡ 4260
unfolding all
longest_file = refl

-- after each piece the lines that have ended stand written
group_alone : written_so_far 80 syntax_line ≡ []
unfolding all
group_alone = refl

line_not_ended : written_so_far 80 (syntax_line ++ codes "(0010,0010) PN [A]") ≡ []
unfolding all
line_not_ended = refl

line_ended : drop 128 (written_so_far 80 (syntax_line ++ codes "(0010,0010) PN [A]\n")) ≡ group ++ 0x10 ∷ 0x00 ∷ 0x10 ∷ 0x00 ∷ 0x50 ∷ 0x4E ∷ 0x02 ∷ 0x00 ∷ 0x41 ∷ 0x20 ∷ []
unfolding all
line_ended = refl
