-- Worked rows: values from their texts.
use Rattle.std.proofs.Common.{◌≡◌, ℕ, [], ◌∷◌, Some, None, refl, replicate}
use Rattle.std.specs.Prelude.{codes}
use Rattle.dcm_base.specs.declared.vr.Vr.TheVariants.{AT, FD, LO, LT, OB, OV, OW, PN, SQ, SS, SV, UI, UL, US, UV}
use Rattle.dcm_base.specs.Tables.Uid.{uid_of, uids}
use Rattle.dcm_base.specs.Lines.ReadValue.{value_of_text, value_of_word}

-- all that a row computes with
unfoldable all : ℕ
unfolding uid_of uids
all = 0

-- numbers within their range
numbers : value_of_text US (codes "1\\512") ≡ Some (0x01 ∷ 0x00 ∷ 0x00 ∷ 0x02 ∷ [])
unfolding all
numbers = refl

greatest_short : value_of_text US (codes "65535") ≡ Some (0xFF ∷ 0xFF ∷ [])
unfolding all
greatest_short = refl

past_the_greatest : value_of_text US (codes "65536") ≡ None
unfolding all
past_the_greatest = refl

-- 1 to 20 digits
zeros_in_front : value_of_text US (codes "00000000000000000001") ≡ Some (0x01 ∷ 0x00 ∷ [])
unfolding all
zeros_in_front = refl

too_many_digits : value_of_text US (codes "000000000000000000001") ≡ None
unfolding all
too_many_digits = refl

no_digits : value_of_text US (codes "1\\") ≡ None
unfolding all
no_digits = refl

minus_one : value_of_text SS (codes "-1") ≡ Some (0xFF ∷ 0xFF ∷ [])
unfolding all
minus_one = refl

least : value_of_text SS (codes "-32768") ≡ Some (0x00 ∷ 0x80 ∷ [])
unfolding all
least = refl

below_the_least : value_of_text SS (codes "-32769") ≡ None
unfolding all
below_the_least = refl

past_the_greatest_signed : value_of_text SS (codes "32768") ≡ None
unfolding all
past_the_greatest_signed = refl

minus_zero : value_of_text SS (codes "-0") ≡ Some (0x00 ∷ 0x00 ∷ [])
unfolding all
minus_zero = refl

minus_unsigned : value_of_text UL (codes "-1") ≡ None
unfolding all
minus_unsigned = refl

long_number : value_of_text UV (codes "258") ≡ Some (0x02 ∷ 0x01 ∷ 0x00 ∷ 0x00 ∷ 0x00 ∷ 0x00 ∷ 0x00 ∷ 0x00 ∷ [])
unfolding all
long_number = refl

long_minus_one : value_of_text SV (codes "-1") ≡ Some (0xFF ∷ 0xFF ∷ 0xFF ∷ 0xFF ∷ 0xFF ∷ 0xFF ∷ 0xFF ∷ 0xFF ∷ [])
unfolding all
long_minus_one = refl

-- tags, in either case
a_tag : value_of_text AT (codes "(0018,1063)\\(FFFE,e0dd)") ≡ Some (0x18 ∷ 0x00 ∷ 0x63 ∷ 0x10 ∷ 0xFE ∷ 0xFF ∷ 0xDD ∷ 0xE0 ∷ [])
unfolding all
a_tag = refl

half_a_tag : value_of_text AT (codes "(0018,106)") ≡ None
unfolding all
half_a_tag = refl

-- digits of each unit, in either case
bytes : value_of_text OB (codes "00\\fF") ≡ Some (0x00 ∷ 0xFF ∷ [])
unfolding all
bytes = refl

words : value_of_text OW (codes "0201\\0403") ≡ Some (0x01 ∷ 0x02 ∷ 0x03 ∷ 0x04 ∷ [])
unfolding all
words = refl

short_word : value_of_text OW (codes "201") ≡ None
unfolding all
short_word = refl

a_double : value_of_text FD (codes "408f400000000000") ≡ Some (0x00 ∷ 0x00 ∷ 0x00 ∷ 0x00 ∷ 0x00 ∷ 0x40 ∷ 0x8F ∷ 0x40 ∷ [])
unfolding all
a_double = refl

long_words : value_of_text OV (codes "0807060504030201") ≡ Some (0x01 ∷ 0x02 ∷ 0x03 ∷ 0x04 ∷ 0x05 ∷ 0x06 ∷ 0x07 ∷ 0x08 ∷ [])
unfolding all
long_words = refl

-- text between brackets
text : value_of_text PN (codes "[AB^CD]") ≡ Some (codes "AB^CD")
unfolding all
text = refl

empty_text : value_of_text PN (codes "[]") ≡ Some ([])
unfolding all
empty_text = refl

escaped : value_of_text LO (codes "[a\\b%0A%5d]") ≡ Some (codes "a\\b\n]")
unfolding all
escaped = refl

bracket_inside : value_of_text LO (codes "[a]b]") ≡ None
unfolding all
bracket_inside = refl

half_an_escape : value_of_text LO (codes "[%4]") ≡ None
unfolding all
half_an_escape = refl

no_escape : value_of_text LO (codes "[%zz]") ≡ None
unfolding all
no_escape = refl

no_end : value_of_text PN (codes "[AB...") ≡ None
unfolding all
no_end = refl

no_beginning : value_of_text PN (codes "AB]") ≡ None
unfolding all
no_beginning = refl

-- an identifier by its name
name_of_identifier : value_of_text UI (codes "=LittleEndianExplicit") ≡ Some (codes "1.2.840.10008.1.2.1")
unfolding all
name_of_identifier = refl

no_such_name : value_of_text UI (codes "=LittleEndian") ≡ None
unfolding all
no_such_name = refl

identifier : value_of_text UI (codes "[1.2]") ≡ Some (codes "1.2")
unfolding all
identifier = refl

-- no value, for each representation but SQ
no_value : value_of_text OB (codes "(no value available)") ≡ Some ([])
unfolding all
no_value = refl

no_text : value_of_text PN (codes "(no value available)") ≡ Some ([])
unfolding all
no_text = refl

no_sequence : value_of_text SQ (codes "(no value available)") ≡ None
unfolding all
no_sequence = refl

sequence_text : value_of_text SQ (codes "[x]") ≡ None
unfolding all
sequence_text = refl

-- in an edit a text is the word itself
word_of_text : value_of_word PN (codes "[A]%41") ≡ Some (codes "[A]%41")
unfolding all
word_of_text = refl

word_of_number : value_of_word US (codes "70000") ≡ None
unfolding all
word_of_number = refl

word_of_no_value : value_of_word US (codes "(no value available)") ≡ Some ([])
unfolding all
word_of_no_value = refl

no_word_text : value_of_word PN (codes "(no value available)") ≡ Some (codes "(no value available)")
unfolding all
no_word_text = refl

empty_word : value_of_word US (codes "") ≡ Some ([])
unfolding all
empty_word = refl

-- 65,536 bytes and no more
longest_word : value_of_word LT (replicate 65536 97) ≡ Some (replicate 65536 97)
unfolding all
longest_word = refl

too_long_word : value_of_word LT (replicate 65537 97) ≡ None
unfolding all
too_long_word = refl
