-- Forms: which bytes may be a character together.
use Rattle.std.specs.Prelude.{ℕ, ◌==◌, nat_lt, List, [], ◌∷◌, length, Option, Some, None, if◌then◌else◌}
use Rattle.std.specs.List.{slice_index}
use Rattle.dcm_text.specs.declared.set.Left.{Left}
use Rattle.dcm_text.specs.declared.set.Left.TheVariants as left
use Rattle.dcm_text.specs.declared.set.Right.{Right}
use Rattle.dcm_text.specs.declared.set.Right.TheVariants as right
use Rattle.dcm_text.specs.declared.form.Fit.{Fit}
use Rattle.dcm_text.specs.declared.form.Fit.TheVariants.{Whole, Part, Not}
use Rattle.dcm_text.specs.declared.form.Form.{Form}
use Rattle.dcm_text.specs.declared.form.Form.TheVariants as form
use Rattle.dcm_text.specs.declared.form.Opening.{Opening}
use Rattle.dcm_text.specs.declared.form.Opening.TheVariants as opening
use Rattle.dcm_text.specs.Characters.{is_between, single_character, character_87, character_149, character_58, character_159, character_utf8}
use Rattle.dcm_text.specs.Gb18030.{pair_character, four_character}

-- the least and the greatest of the bytes that may stand at a place
abbrev pub Range : Type 0
Range = ℕ × ℕ

-- how bytes fit ranges, one after another: all of them, or as far as the bytes go, or not
abbrev pub fit_of : List Range → List ℕ → Fit
fit_of [] bytes = Whole
fit_of (range ∷ ranges) [] = Part
fit_of (range ∷ ranges) (b ∷ bytes) = if is_between range.0 range.1 b then fit_of ranges bytes else Not

-- how they fit given bytes
abbrev pub starts : (wanted bytes : List ℕ) → Fit
starts [] bytes = Whole
starts (w ∷ wanted) [] = Part
starts (w ∷ wanted) (b ∷ bytes) = if b == w then starts wanted bytes else Not

-- ---- what a byte begins

-- in ISO-IR 87 and 159 bytes from 21 to 7E begin a pair; all others below 80 are ASCII
abbrev pub left_opening : Left → ℕ → Opening
left_opening left.Ascii b = opening.Byte (Some b)
left_opening left.Ir87 b = if is_between 0x21 0x7E b then opening.Form form.Ir87 else opening.Byte (Some b)
left_opening left.Ir159 b = if is_between 0x21 0x7E b then opening.Form form.Ir159 else opening.Byte (Some b)

abbrev pub pair_or_none : Form → ℕ → Opening
pair_or_none f b = if is_between 0xA1 0xFE b then opening.Form f else opening.Byte None

-- bytes from 80 on have a character by themselves, or begin a form, or have none
abbrev pub right_opening : Right → ℕ → Opening
right_opening right.Nothing b = opening.Byte None
right_opening (right.Single s) b = opening.Byte (single_character s b)
right_opening right.Ir149 b = pair_or_none form.Ir149 b
right_opening right.Ir58 b = pair_or_none form.Ir58 b
right_opening right.Gb18030 b = if is_between 0x81 0xFE b then opening.Form form.Gb18030 else opening.Byte None
right_opening right.Utf8 b = if is_between 0xC2 0xF4 b then opening.Form form.Utf8 else opening.Byte None

-- ---- what may follow the first byte

abbrev pub NEXT : Range
NEXT = (0x80, 0xBF)

-- in UTF-8 (Unicode, table 3-7): none overlong, no surrogate, and nothing above 10FFFF
abbrev pub utf8_ranges : (first : ℕ) → List Range
utf8_ranges first =
    if nat_lt first 0xE0 then NEXT ∷ []
    else if first == 0xE0 then (0xA0, 0xBF) ∷ NEXT ∷ []
    else if first == 0xED then (0x80, 0x9F) ∷ NEXT ∷ []
    else if nat_lt first 0xF0 then NEXT ∷ NEXT ∷ []
    else if first == 0xF0 then (0x90, 0xBF) ∷ NEXT ∷ NEXT ∷ []
    else if first == 0xF4 then (0x80, 0x8F) ∷ NEXT ∷ NEXT ∷ []
    else NEXT ∷ NEXT ∷ NEXT ∷ []

-- in GB18030 four bytes, or two, whose second byte is no digit
abbrev pub ranges : Form → (first : ℕ) → List Range
ranges form.Ir87 first = (0x21, 0x7E) ∷ []
ranges form.Ir159 first = (0x21, 0x7E) ∷ []
ranges form.Ir149 first = (0xA1, 0xFE) ∷ []
ranges form.Ir58 first = (0xA1, 0xFE) ∷ []
ranges form.Gb18030 first = (0x30, 0x39) ∷ (0x81, 0xFE) ∷ (0x30, 0x39) ∷ []
ranges form.Utf8 first = utf8_ranges first

abbrev pub low_pair : List Range
low_pair = (0x40, 0x7E) ∷ []

abbrev pub high_pair : List Range
high_pair = (0x80, 0xFE) ∷ []

abbrev pub other_forms : Form → List (List Range)
other_forms form.Ir87 = []
other_forms form.Ir159 = []
other_forms form.Ir149 = []
other_forms form.Ir58 = []
other_forms form.Gb18030 = low_pair ∷ high_pair ∷ []
other_forms form.Utf8 = []

-- the forms, in the order in which they are tried
abbrev pub forms : Form → (first : ℕ) → List (List Range)
forms f first = ranges f first ∷ other_forms f

-- the character of the bytes of a form, where its table has one for them
abbrev pub character_of : Form → List ℕ → Option ℕ
character_of form.Ir87 bytes = character_87 (slice_index bytes 0) (slice_index bytes 1)
character_of form.Ir149 bytes = character_149 (slice_index bytes 0) (slice_index bytes 1)
character_of form.Ir58 bytes = character_58 (slice_index bytes 0) (slice_index bytes 1)
character_of form.Ir159 bytes = character_159 (slice_index bytes 0) (slice_index bytes 1)
character_of form.Gb18030 bytes =
    if length bytes == 2 then pair_character (slice_index bytes 0) (slice_index bytes 1)
    else four_character (slice_index bytes 0) (slice_index bytes 1) (slice_index bytes 2) (slice_index bytes 3)
character_of form.Utf8 bytes =
    character_utf8 (slice_index bytes 0) (slice_index bytes 1) (slice_index bytes 2) (slice_index bytes 3)
