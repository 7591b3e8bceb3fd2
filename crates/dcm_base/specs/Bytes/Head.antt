-- Heads of elements, items and delimiters, as they stand at the front of bytes (PS3.5 7.1.2, 7.1.3, 7.5).
use Rattle.std.specs.Prelude.{◌≡◌, ◌≢◌, ℕ, ◌≤◌, List, length, drop, [], slice_index, Option, Some, ◌==◌, ◌||◌}
use Rattle.std.specs.Prelude.{if◌then◌else◌}
use Rattle.std.specs.Bool.{MatchBool}
use Rattle.dcm_base.specs.declared.tag.Tag.{Tag}
use Rattle.dcm_base.specs.Tables.Tag.{item_tag, is_item, is_item_end, is_sequence_end}
use Rattle.dcm_base.specs.declared.vr.Vr.{Vr}
use Rattle.dcm_base.specs.declared.vr.Vr.TheVariants.{UN}
use Rattle.dcm_base.specs.declared.syntax.Syntax.{Syntax}
use Rattle.dcm_base.specs.declared.syntax.Syntax.TheVariants.{Implicit as implicit_in, Little as little_in}
use Rattle.dcm_base.specs.declared.syntax.Syntax.TheVariants.{Big as big_in}
use Rattle.dcm_base.specs.declared.length.Length.{Length}
use Rattle.dcm_base.specs.declared.length.Length.TheVariants.{Known, Undefined}
use Rattle.dcm_base.specs.Tables.Number.{number}
use Rattle.dcm_base.specs.Tables.Representation.{vr_read, is_long}
use Rattle.dcm_base.specs.Tables.Dictionary.{vr_in}

-- group and element, two bytes each
abbrev pub tag_at : Syntax → List ℕ → Tag
tag_at s bytes = record { group = number s 2 bytes; element = number s 2 (drop 2 bytes) }

-- four bytes of length
abbrev pub long_length : ℕ → Length
long_length n = if n == 0xFFFFFFFF then Undefined else Known n

-- that of the dictionary in an implicit head, else that of the letters after the tag
unfoldable pub vr_at : Syntax → List ℕ → Option Vr
vr_at (implicit_in d) bytes = Some (vr_in d (tag_at (implicit_in d) bytes))
vr_at (little_in d) bytes = vr_read (slice_index bytes 4) (slice_index bytes 5)
vr_at (big_in d) bytes = vr_read (slice_index bytes 4) (slice_index bytes 5)

-- the long form has two reserved bytes, and two more of length
abbrev pub head_size : Syntax → Vr → ℕ
head_size (implicit_in d) vr = 8
head_size (little_in d) vr = if is_long vr then 12 else 8
head_size (big_in d) vr = if is_long vr then 12 else 8

abbrev pub explicit_length : Syntax → Vr → List ℕ → Length
explicit_length s vr bytes = if is_long vr then long_length (number s 4 (drop 8 bytes))
    else Known (number s 2 (drop 6 bytes))

-- the length that a head of this representation declares
unfoldable pub length_at : Syntax → Vr → List ℕ → Length
length_at (implicit_in d) vr bytes = long_length (number (implicit_in d) 4 (drop 4 bytes))
length_at (little_in d) vr bytes = explicit_length (little_in d) vr bytes
length_at (big_in d) vr bytes = explicit_length (big_in d) vr bytes

-- bytes begin with a head that has a representation, and after follows it (PS3.5 7.1.2, 7.1.3)
pub record PlainHead (s : Syntax) (tag : Tag) (vr : Vr) (declared : Length) (bytes after : List ℕ) : Type 0 where
  pub tag_is : tag ≡ tag_at s bytes
  pub vr_is : Some vr ≡ vr_at s bytes
  pub whole : head_size s vr ≤ length bytes
  pub length_is : declared ≡ length_at s vr bytes
  pub after_is : after ≡ drop (head_size s vr) bytes

-- bytes begin with the head of an element
pub record ElementHead (s : Syntax) (tag : Tag) (vr : Vr) (declared : Length) (bytes after : List ℕ) : Type 0 where
  pub no_item : tag.group ≢ 0xFFFE
  pub head : PlainHead s tag vr declared bytes after
  pub open head use *

-- bytes begin with the head of an item
pub record ItemHead (s : Syntax) (declared : Length) (bytes after : List ℕ) : Type 0 where
  pub tag_is : item_tag ≡ tag_at s bytes
  pub whole : 8 ≤ length bytes
  pub length_is : declared ≡ long_length (number s 4 (drop 4 bytes))
  pub after_is : after ≡ drop 8 bytes

-- bytes begin with this delimiter, whose length may be any
pub record Delimiter (s : Syntax) (tag : Tag) (bytes after : List ℕ) : Type 0 where
  pub tag_is : tag ≡ tag_at s bytes
  pub whole : 8 ≤ length bytes
  pub after_is : after ≡ drop 8 bytes

-- bytes begin with this head, of an item, a delimiter or any other tag; a head with no representation is UN
abbrev pub HeadAt : Syntax → Tag → Vr → Length → List ℕ → List ℕ → Type 0
HeadAt s tag vr declared bytes after =
    MatchBool (is_item tag) ((vr ≡ UN) × ItemHead s declared bytes after)
    (MatchBool (is_item_end tag || is_sequence_end tag) ((vr ≡ UN) × (declared ≡ Known 0) × Delimiter s tag bytes after)
    (PlainHead s tag vr declared bytes after))

-- these bytes are the spelling of this head
abbrev pub HeadSpells : Syntax → Tag → Vr → Length → List ℕ → Type 0
HeadSpells s tag vr declared bytes = HeadAt s tag vr declared bytes []
