-- What the front of bytes is read as (PS3.5 7.1.2, 7.1.3, 7.5).
use Rattle.std.specs.Prelude.{◌≡◌, true, ◌≤◌, ◌<◌, ◌⊎◌, ℕ, Bool, false, ◌||◌, ◌&&◌, nat_lt, if◌then◌else◌, List, length}
use Rattle.std.specs.Prelude.{drop, slice_index, Option, Some, None}
use Rattle.dcm_base.specs.declared.tag.Tag.{Tag}
use Rattle.dcm_base.specs.declared.vr.Vr.{Vr}
use Rattle.dcm_base.specs.declared.vr.Vr.TheVariants.{UN}
use Rattle.dcm_base.specs.declared.syntax.Syntax.{Syntax}
use Rattle.dcm_base.specs.declared.length.Length.TheVariants.{Known}
use Rattle.dcm_base.specs.Tables.Number.{number}
use Rattle.dcm_base.specs.Tables.Tag.{is_item, is_item_end, is_sequence_end}
use Rattle.dcm_base.specs.Bytes.Head.{tag_at, vr_at, length_at, head_size, long_length, HeadAt}
use Rattle.dcm_base.specs.Tables.Representation.{is_capital, is_long}
use Rattle.dcm_base.specs.Reading.Place.{is_data}
use Rattle.dcm_base.specs.Conversion.Recode.{is_explicit}
use Rattle.dcm_head.specs.declared.head.Head.{Head}
use Rattle.dcm_head.specs.declared.head.HeadRead.{HeadRead}
use Rattle.dcm_head.specs.declared.head.HeadRead.TheVariants.{Done, More, BadVr}

abbrev pub is_delimiter : Tag → Bool
is_delimiter tag = is_item_end tag || is_sequence_end tag

-- the head of an element of this representation
abbrev pub element_done : Syntax → List ℕ → Vr → HeadRead
element_done s bytes vr =
    if nat_lt (length bytes) (head_size s vr) then More (head_size s vr)
    else Done (record { tag = tag_at s bytes; vr = vr; length = length_at s vr bytes }) (head_size s vr)

-- the head of an element, whose representation is that of its letters or the dictionary, or unknown
abbrev pub element_read : Syntax → List ℕ → Option Vr → HeadRead
element_read s bytes None = BadVr
element_read s bytes (Some vr) = element_done s bytes vr

-- the head with this tag
abbrev pub tag_read : Syntax → List ℕ → Tag → HeadRead
tag_read s bytes tag =
    if is_item tag then Done (record { tag = tag; vr = UN; length = long_length (number s 4 (drop 4 bytes)) }) 8
    else if is_delimiter tag then Done (record { tag = tag; vr = UN; length = Known 0 }) 8
    else element_read s bytes (vr_at s bytes)

-- they begin with the head of an element that is of neither an item nor the meta group, with a length of two bytes
pub record BeginsShort (s : Syntax) (bytes : List ℕ) (head : Head) : Type 0 where
  pub read : Done head 8 ≡ tag_read s bytes (tag_at s bytes)
  pub tag_is : head.tag ≡ tag_at s bytes
  pub of_data : is_data head.tag ≡ true
  pub short : is_long head.vr ≡ false
  pub known : (n : ℕ) × (head.length ≡ Known n)

-- the head that the bytes begin with, or what is missing to it
unfoldable pub head_read : Syntax → List ℕ → HeadRead
head_read s bytes = if nat_lt (length bytes) 8 then More 8 else tag_read s bytes (tag_at s bytes)

-- ---- the same, in the words of the definition of heads

-- an element begins here: neither an item nor a delimiter
pub record BeginsElement (s : Syntax) (bytes : List ℕ) : Type 0 where
  pub eight : 8 ≤ length bytes
  pub no_item : is_item (tag_at s bytes) ≡ false
  pub no_delimiter : is_delimiter (tag_at s bytes) ≡ false

-- an element begins here whose head has 12 bytes
abbrev pub BeginsLong : Syntax → List ℕ → Type 0
BeginsLong s bytes = BeginsElement s bytes × (vr : Vr) × (vr_at s bytes ≡ Some vr) × (head_size s vr ≡ 12)

-- so many bytes are needed, and are not there
abbrev pub IsShort : Syntax → List ℕ → ℕ → Type 0
IsShort s bytes size = ((size ≡ 8) × (length bytes < 8)) ⊎ ((size ≡ 12) × (length bytes < 12) × BeginsLong s bytes)

-- an element begins here, in an explicit syntax, and has no two capitals for its representation
abbrev pub HasBadVr : Syntax → List ℕ → Type 0
HasBadVr s bytes = BeginsElement s bytes × (is_explicit s ≡ true)
    × ((is_capital (slice_index bytes 4) && is_capital (slice_index bytes 5)) ≡ false)

-- so many bytes spell this head
abbrev pub Begins : Syntax → List ℕ → Head → ℕ → Type 0
Begins s bytes head size = (size ≤ length bytes) × HeadAt s head.tag head.vr head.length bytes (drop size bytes)
