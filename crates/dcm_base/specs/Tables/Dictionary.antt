-- The data dictionary (PS3.6 section 6), and the extract of it.
use Rattle.std.specs.Prelude.{◌≡◌, ℕ, ◌+◌, Bool, true, false, ◌&&◌, ◌==◌, nat_le, if◌then◌else◌, List, map, find}
use Rattle.std.specs.Prelude.{[], ◌∷◌, ◌%◌, length, codes, Option, Some, None, option_map, bytes_eq}
use Rattle.std.specs.List.{slice_index, slice_range, list_all}
use Rattle.std.specs.Option.{option_map_or}
use Rattle.dcm_base.specs.declared.tag.Tag.{Tag}
use Rattle.dcm_base.specs.declared.vr.Vr.{Vr}
use Rattle.dcm_base.specs.declared.vr.Vr.TheVariants.{UL, LO, UN, US, SS}
use Rattle.dcm_base.specs.declared.dictionary.ambiguous.TheConstants.{AMBIGUOUS}
use Rattle.dcm_base.specs.declared.dictionary.extract.TheConstants.{ELEMENTS}
use Rattle.dcm_base.specs.declared.dictionary.Dictionary.{Dictionary}
use Rattle.dcm_base.specs.declared.dictionary.Dictionary.TheVariants.{Extract, Standard, Signed}
use Rattle.dcm_base.specs.declared.dictionary.standard.TheConstants.{KEYWORDS, STANDARD}
use Rattle.dcm_base.specs.Tables.Tag.{tag_number, tag_of_number, is_private, is_item, is_item_end, is_sequence_end}

-- the number of a tag, its value representation and its keyword
abbrev pub Element : Type 0
Element = ℕ × Vr × List ℕ

unfoldable pub elements : List Element
elements = map (λ e. (e.0, e.1, e.2.now)) ELEMENTS

-- the value representation and the keyword of a number
abbrev pub numbered : List Element → ℕ → Option (Vr × List ℕ)
numbered es n = option_map (λ e. (e.1, e.2)) (find (λ e. e.0 == n) es)

-- of these numbers, the first of which has this index, each has its index at the place of its remainder
abbrev pub are_placed : List ℕ → ℕ → List ℕ → Bool
are_placed places i [] = true
are_placed places i (n ∷ ns) = (slice_index places (n % length places) == i) && are_placed places (i + 1) ns

-- the number that has a keyword
abbrev pub called : List Element → List ℕ → Option ℕ
called es k = option_map (λ e. e.0) (find (λ e. bytes_eq e.2 k) es)

-- the length of a group, in its element 0000
abbrev pub is_group_length : Tag → Bool
is_group_length t = t.element == 0

-- a block of private elements is reserved by an element 0010 to 00FF of an odd group (PS3.5 7.8.1)
abbrev pub is_private_creator : Tag → Bool
is_private_creator t = is_private t && (nat_le 16 t.element && nat_le t.element 255)

-- what items and delimiters are called, and what all other tags are
abbrev pub other_keyword : Tag → List ℕ
other_keyword t = if is_item t then codes "Item" else if is_item_end t then codes "ItemDelimitationItem"
    else if is_sequence_end t then codes "SequenceDelimitationItem" else codes "Unknown Tag & Data"

-- the keyword of a tag that no dictionary has
abbrev pub unlisted_keyword : Tag → List ℕ
unlisted_keyword t = if is_group_length t then codes "GenericGroupLength"
    else if is_private_creator t then codes "PrivateCreator" else other_keyword t

-- an element of the standard's table: its number, its value representation, and where its keyword begins in the text
-- of all keywords and how long it is
abbrev pub Entry : Type 0
Entry = ℕ × Vr × ℕ × ℕ

unfoldable pub entries : List Entry
entries = STANDARD

-- the text of the keywords
unfoldable pub keywords : List ℕ
keywords = KEYWORDS.now

abbrev pub keyword_of : List ℕ → Entry → List ℕ
keyword_of text e = slice_range text e.2 (e.2 + e.3)

abbrev pub element_of : List ℕ → Entry → Element
element_of text e = (e.0, e.1, keyword_of text e)

-- the elements of a dictionary that have one value representation, in tag order; edits name these alone
unfoldable pub elements_in : Dictionary → List Element
elements_in Extract = elements
elements_in Standard = map (element_of keywords) entries
elements_in Signed = map (element_of keywords) entries

-- the value representation and the keyword of a tag of the dictionary
unfoldable pub element_in : Dictionary → Tag → Option (Vr × List ℕ)
element_in d t = numbered (elements_in d) (tag_number t)

-- the elements that the standard leaves between two value representations (PS3.6 section 6), each with the one that it
-- has where pixels are not signed
unfoldable pub ambiguous : List Element
ambiguous = map (λ e. (e.0, e.1, e.2.now)) AMBIGUOUS

-- where pixels are signed, such an element is SS and not US
abbrev pub signed_vr : Vr → Vr
signed_vr US = SS
signed_vr vr = vr

-- the value representation and the keyword of a tag of such an element; the extract has none
abbrev pub ambiguous_in : Dictionary → Tag → Option (Vr × List ℕ)
ambiguous_in Extract t = None
ambiguous_in Standard t = numbered ambiguous (tag_number t)
ambiguous_in Signed t = option_map (λ e. (signed_vr e.0, e.1)) (numbered ambiguous (tag_number t))

-- a dictionary where pixels are signed, or are not
abbrev pub if_signed : Bool → Dictionary → Dictionary
if_signed signed Extract = Extract
if_signed true Standard = Signed
if_signed false Standard = Standard
if_signed true Signed = Signed
if_signed false Signed = Standard

-- the value representation of a tag that the dictionary has, where pixels are not signed or are, as it says
abbrev pub first_vr : Option (Vr × List ℕ) → Option (Vr × List ℕ) → Option Vr
first_vr None other = option_map (λ e. e.0) other
first_vr (Some e) other = Some e.0

abbrev pub known_vr_in : Dictionary → Tag → Option Vr
known_vr_in d t = first_vr (element_in d t) (ambiguous_in d t)

-- the value representation of a tag that no dictionary has
abbrev pub unlisted_vr : Tag → Vr
unlisted_vr t = if is_group_length t then UL else if is_private_creator t then LO else UN

-- the value representation of an implicit head, by the dictionary
unfoldable pub vr_in : Dictionary → Tag → Vr
vr_in d t = option_map_or (λ e. e.0) (element_in d t) (option_map_or (λ e. e.0) (ambiguous_in d t) (unlisted_vr t))

unfoldable pub keyword_in : Dictionary → Tag → List ℕ
keyword_in d t = option_map_or (λ e. e.1) (element_in d t)
    (option_map_or (λ e. e.1) (ambiguous_in d t) (unlisted_keyword t))

-- the tag of the dictionary's element that has the keyword
unfoldable pub tag_in : Dictionary → List ℕ → Option Tag
tag_in d k = option_map tag_of_number (called (elements_in d) k)

-- the first entry with a number
abbrev pub entry_of : List Entry → ℕ → Option Entry
entry_of es n = find (λ e. e.0 == n) es

-- the keyword lies within the text
abbrev pub fits : List ℕ → Entry → Bool
fits text e = nat_le (e.2 + e.3) (length text)

abbrev pub AllFit : List ℕ → List Entry → Type 0
AllFit text es = list_all (fits text) es ≡ true
