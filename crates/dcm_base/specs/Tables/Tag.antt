-- Tags (PS3.5 7.1.1), and those of items and delimiters (PS3.5 7.5).
use Rattle.std.specs.Prelude.{ℕ, ◌+◌, ◌*◌, ◌/◌, ◌%◌, Bool, true, ◌&&◌, ◌||◌, ◌==◌, nat_lt, Option, Some, None}
use Rattle.dcm_base.specs.declared.tag.Tag.{Tag}

-- the group and the element as one number
abbrev pub tag_number : Tag → ℕ
tag_number t = t.group * 65536 + t.element

-- the tag of a number
abbrev pub tag_of_number : ℕ → Tag
tag_of_number n = record { group = n / 65536; element = n % 65536 }

abbrev pub is_tag : ℕ → ℕ → Tag → Bool
is_tag group element tag = (tag.group == group) && (tag.element == element)

abbrev pub same_tag : Tag → Tag → Bool
same_tag a b = is_tag b.group b.element a

-- tags are ordered by their groups, and in a group by their elements
abbrev pub below : Tag → Tag → Bool
below a b = nat_lt a.group b.group || ((a.group == b.group) && nat_lt a.element b.element)

-- whether the tag is above the one before it, if there is one
abbrev pub is_above : Tag → Option Tag → Bool
is_above tag None = true
is_above tag (Some before) = below before tag

-- the elements of odd groups are private (PS3.5 7.8)
abbrev pub is_private : Tag → Bool
is_private tag = tag.group % 2 == 1

abbrev pub item_tag : Tag
item_tag = record { group = 0xFFFE; element = 0xE000 }

abbrev pub item_end_tag : Tag
item_end_tag = record { group = 0xFFFE; element = 0xE00D }

abbrev pub sequence_end_tag : Tag
sequence_end_tag = record { group = 0xFFFE; element = 0xE0DD }

abbrev pub is_item : Tag → Bool
is_item tag = is_tag 0xFFFE 0xE000 tag

abbrev pub is_item_end : Tag → Bool
is_item_end tag = is_tag 0xFFFE 0xE00D tag

abbrev pub is_sequence_end : Tag → Bool
is_sequence_end tag = is_tag 0xFFFE 0xE0DD tag
