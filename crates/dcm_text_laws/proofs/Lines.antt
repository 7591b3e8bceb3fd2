-- Lines of a dump whose texts are shown by characters are valid UTF-8.
use Rattle.std.proofs.Common.{◌≡◌, sym, refl, subst, ℕ, ◌+◌, ◌-◌, ◌*◌, List, [], ◌∷◌, ◌++◌, length, take, Bool, true, false, Option, None, Some, arith}
use Rattle.std.specs.Prelude.{nat_lt, if◌then◌else◌, decimal, codes, flat_map, replicate, IsUtf8, IsAscii}
use Rattle.std.specs.List.{list_all}
use Rattle.std.proofs.lemmas.Str.{IsUtf8-append, IsUtf8-nil, IsUtf8-from_ascii, IsAscii-take, IsAscii-append}
use Rattle.dcm_base.specs.declared.tag.Tag.{Tag}
use Rattle.dcm_base.specs.declared.vr.Vr.{Vr}
use Rattle.dcm_base.specs.declared.vr.Vr.TheVariants.{OB}
use Rattle.dcm_base.specs.declared.mode.Mode.{Mode}
use Rattle.dcm_base.specs.declared.mode.Mode.TheVariants.{Short, Full}
use Rattle.dcm_base.specs.declared.length.Length.{Length}
use Rattle.dcm_base.specs.declared.length.Length.TheVariants.{Known, Undefined}
use Rattle.dcm_base.specs.declared.dictionary.Dictionary.{Dictionary}
use Rattle.dcm_base.specs.Tables.Number.{IsTag}
use Rattle.dcm_base.specs.Tables.Tag.{item_tag, item_end_tag, sequence_end_tag}
use Rattle.dcm_base.specs.Tables.Representation.{letters}
use Rattle.dcm_base.specs.Tables.Dictionary.{keyword_in}
use Rattle.dcm_base.specs.Dump.ValueText.{Shape, text, identifier, unsigned, signed, tags, hexadecimal, shape, shown, shown_unit, shown_so_far, count, display, shortened, padded, tag_text, units_text}
use Rattle.dcm_base.specs.Dump.Dump.{length_text, line, line_start, leaf_line, fragment_line, fragment_lines, sequence_opening, item_opening, sequence_end, item_end, sequence_line, item_line, sequence_end_line, item_end_line, open_line, open_fragment}
use Rattle.dcm_base.proofs.DumpsBack.Texts.{Bytes}
use Rattle.dcm_table.proofs.ValidRows.{listed}
use Rattle.dcm_text.specs.declared.sets.Sets.{Sets}
use Rattle.dcm_value.specs.DecodedDisplay.{decoded_display, decoded_shortened, decoded_count, decoded_so_far}
use Rattle.dcm_value.proofs.Displays.DecodedAsBefore.{low, low_ascii}
use Rattle.dcm_value.proofs.Displays.DecodedUtf8.{decoded_text_is_utf8, decoded_so_far_is_utf8, low_utf8, padded_utf8, spaces_low}
use Rattle.dcm_sinks.specs.DecodedDump.{is_decoded, text_line, decoded_line, decoded_open_value}
use Rattle.dcm_text_laws.proofs.Numbers.{IsNumber, decimal_ascii, is_number, tag_ascii, value_ascii}
use Rattle.dcm_text_laws.proofs.Keywords.{keyword_low, letters_low}

-- ---- parts

-- one text behind the other
pub both : {a b : List ℕ} → IsUtf8 a → IsUtf8 b → IsUtf8 (a ++ b)
both {a} {b} h k = IsUtf8-append a b h k

spaces_utf8 : (n : ℕ) → IsUtf8 (replicate n 32)
spaces_utf8 n = low_utf8 (replicate n 32) (spaces_low n)

pub decimal_utf8 : (n : ℕ) → IsUtf8 (decimal n)
decimal_utf8 n = IsUtf8-from_ascii (decimal n) (decimal_ascii n)

length_utf8 : (size : Length) → IsUtf8 (length_text size)
length_utf8 (Known n) = both (spaces_utf8 (3 - length (decimal n))) (decimal_utf8 n)
length_utf8 Undefined = low_utf8 (codes "u/l") refl

letters_utf8 : (vr : Vr) → IsUtf8 (letters vr)
letters_utf8 vr = low_utf8 (letters vr) (letters_low vr)

start_utf8 : (level : ℕ) (t : Tag) (vr : List ℕ) → IsTag t → IsUtf8 vr → IsUtf8 (line_start level t vr)
start_utf8 level t vr h k =
    both (both (both (both (spaces_utf8 (2 * level)) (IsUtf8-from_ascii (tag_text t.group t.element) (tag_ascii t h))) (low_utf8 (codes " ") refl)) k) (low_utf8 (codes " ") refl)

line_utf8 : (d : Dictionary) (level : ℕ) (t : Tag) (vr shown : List ℕ) (size : Length) (n : ℕ) → IsTag t → IsUtf8 vr → IsUtf8 (padded shown) → IsUtf8 (line d level t vr shown size n)
line_utf8 d level t vr shown size n h k p =
    both (both (both (both (both (both (both (both (start_utf8 level t vr h k) p) (low_utf8 (codes " # ") refl)) (length_utf8 size)) (low_utf8 (codes ", ") refl)) (decimal_utf8 n)) (low_utf8 (codes " ") refl))
    (low_utf8 (keyword_in d t) (keyword_low d t)))
    (low_utf8 (10 ∷ []) refl)

-- a line whose display is this text of ASCII
said_utf8 : (d : Dictionary) (level : ℕ) (t : Tag) (vr said : List ℕ) (size : Length) (n : ℕ) → IsTag t → IsUtf8 vr → list_all low said ≡ true → IsUtf8 (line d level t vr said size n)
said_utf8 d level t vr said size n h k e = line_utf8 d level t vr said size n h k (padded_utf8 said (low_utf8 said e))

-- ---- lines of values

number_shown : (s : Shape) (vr : Vr) (v : List ℕ) → IsNumber s → shown s vr v ≡ units_text s (shown_unit vr) v
number_shown text vr v h = absurd h
number_shown identifier vr v h = absurd h
number_shown unsigned vr v h = refl
number_shown signed vr v h = refl
number_shown tags vr v h = refl
number_shown hexadecimal vr v h = refl

number_so_far : (s : Shape) (vr : Vr) (size : ℕ) (v : List ℕ) → IsNumber s → shown_so_far s vr size v ≡ units_text s (shown_unit vr) v
number_so_far text vr size v h = absurd h
number_so_far identifier vr size v h = absurd h
number_so_far unsigned vr size v h = refl
number_so_far signed vr size v h = refl
number_so_far tags vr size v h = refl
number_so_far hexadecimal vr size v h = refl

display_ascii : (vr : Vr) (v : List ℕ) → IsNumber (shape vr) → Bytes v → IsAscii (display vr v)
display_ascii vr [] n h = low_ascii (codes "(no value available)") refl
display_ascii vr (b ∷ bs) n h = subst IsAscii (sym (number_shown (shape vr) vr (b ∷ bs) n)) (value_ascii vr (b ∷ bs) n h)

shortened_ascii : (mode : Mode) (shown : List ℕ) → IsAscii shown → IsAscii (shortened mode shown)
shortened_ascii Full shown h = h
shortened_ascii Short shown h = go (nat_lt 66 (length shown))
  where
    go : (t : Bool) → IsAscii (if t then take 63 shown ++ codes "..." else shown)
    go true = IsAscii-append (take 63 shown) (codes "...") (IsAscii-take shown 63 h) (low_ascii (codes "...") refl)
    go false = h

number_utf8 : (mode : Mode) (vr : Vr) (v : List ℕ) → IsNumber (shape vr) → Bytes v → IsUtf8 (padded (shortened mode (display vr v)))
number_utf8 mode vr v n h = padded_utf8 (shortened mode (display vr v)) (IsUtf8-from_ascii (shortened mode (display vr v)) (shortened_ascii mode (display vr v) (display_ascii vr v n h)))

pub leaf_utf8 : (d : Dictionary) (mode : Mode) (sets : Sets) (level : ℕ) (t : Tag) (vr : Vr) (v : List ℕ) → IsTag t → Bytes v → IsUtf8 (decoded_line d mode sets level t vr v)
leaf_utf8 d mode sets level t vr v h k = go (is_decoded vr) refl
  where
    go : (x : Bool) → is_decoded vr ≡ x → IsUtf8 (if x then text_line d mode sets level t vr v else leaf_line d mode level t vr v)
    go true e =
        line_utf8 d level t (letters vr) (decoded_shortened mode (decoded_display vr sets v)) (Known (length v)) (decoded_count vr sets v) h (letters_utf8 vr)
        (decoded_text_is_utf8 mode vr sets v (listed v k))
    go false e =
        line_utf8 d level t (letters vr) (shortened mode (display vr v)) (Known (length v)) (count vr v) h (letters_utf8 vr)
        (number_utf8 mode vr v (is_number (shape vr) e) k)

-- ---- lines of sequences, items and fragments

item_is_tag : IsTag item_tag
item_is_tag = (omega arith, omega arith)

item_end_is_tag : IsTag item_end_tag
item_end_is_tag = (omega arith, omega arith)

sequence_end_is_tag : IsTag sequence_end_tag
sequence_end_is_tag = (omega arith, omega arith)

opening_low : (size : Length) → list_all low (sequence_opening size) ≡ true
opening_low (Known n) = refl
opening_low Undefined = refl

item_opening_low : (size : Length) → list_all low (item_opening size) ≡ true
item_opening_low (Known n) = refl
item_opening_low Undefined = refl

end_low : (size : Length) → list_all low (sequence_end size) ≡ true
end_low (Known n) = refl
end_low Undefined = refl

item_end_low : (size : Length) → list_all low (item_end size) ≡ true
item_end_low (Known n) = refl
item_end_low Undefined = refl

pub sequence_utf8 : (d : Dictionary) (level : ℕ) (t : Tag) (vr : Vr) (size : Length) → IsTag t → IsUtf8 (sequence_line d level t vr size)
sequence_utf8 d level t vr size h = said_utf8 d level t (letters vr) (sequence_opening size) size 1 h (letters_utf8 vr) (opening_low size)

pub item_utf8 : (d : Dictionary) (level : ℕ) (size : Length) → IsUtf8 (item_line d level size)
item_utf8 d level size = said_utf8 d level item_tag (codes "na") (item_opening size) size 1 item_is_tag (low_utf8 (codes "na") refl) (item_opening_low size)

pub sequence_end_utf8 : (d : Dictionary) (level : ℕ) (size : Length) → IsUtf8 (sequence_end_line d level size)
sequence_end_utf8 d level size = said_utf8 d level sequence_end_tag (codes "na") (sequence_end size) (Known 0) 0 sequence_end_is_tag (low_utf8 (codes "na") refl) (end_low size)

pub item_end_utf8 : (d : Dictionary) (level : ℕ) (size : Length) → IsUtf8 (item_end_line d level size)
item_end_utf8 d level size = said_utf8 d level item_end_tag (codes "na") (item_end size) (Known 0) 0 item_end_is_tag (low_utf8 (codes "na") refl) (item_end_low size)

fragment_utf8 : (d : Dictionary) (mode : Mode) (level : ℕ) (v : List ℕ) → Bytes v → IsUtf8 (fragment_line d mode level v)
fragment_utf8 d mode level v h =
    line_utf8 d level item_tag (codes "pi") (shortened mode (display OB v)) (Known (length v)) 1 item_is_tag (low_utf8 (codes "pi") refl) (number_utf8 mode OB v tt h)

abbrev pub EachBytes : List (List ℕ) → Type 0
EachBytes [] = Unit {0}
EachBytes (v ∷ values) = Bytes v × EachBytes values

values_utf8 : (d : Dictionary) (mode : Mode) (level : ℕ) (values : List (List ℕ)) → EachBytes values → IsUtf8 (flat_map (fragment_line d mode level) values)
values_utf8 d mode level [] h = IsUtf8-nil
values_utf8 d mode level (v ∷ values) h = both (fragment_utf8 d mode level v h.0) (values_utf8 d mode level values h.1)

pub fragments_utf8 : (d : Dictionary) (mode : Mode) (level : ℕ) (t : Tag) (vr : Vr) (values : List (List ℕ)) → IsTag t → EachBytes values → IsUtf8 (fragment_lines d mode level t vr values)
fragments_utf8 d mode level t vr values h k =
    both (said_utf8 d level t (letters vr) (codes "(PixelSequence)") Undefined 1 h (letters_utf8 vr) refl) (values_utf8 d mode (level + 1) values k)

-- ---- what is open

begun_utf8 : (mode : Mode) (start shown : List ℕ) → IsUtf8 start → IsUtf8 shown → IsUtf8 (open_line mode start shown)
begun_utf8 Short start shown h k = IsUtf8-nil
begun_utf8 Full start shown h k = both h k

so_far_utf8 : (vr : Vr) (size : ℕ) (v : List ℕ) → IsNumber (shape vr) → Bytes v → IsUtf8 (shown_so_far (shape vr) vr size v)
so_far_utf8 vr size v n h = subst IsUtf8 (sym (number_so_far (shape vr) vr size v n)) (IsUtf8-from_ascii (units_text (shape vr) (shown_unit vr) v) (value_ascii vr v n h))

open_value_utf8 : (vr : Vr) (sets : Sets) (size : ℕ) (v : List ℕ) → Bytes v → IsUtf8 (decoded_open_value vr sets size v)
open_value_utf8 vr sets size v h = go (is_decoded vr) refl
  where
    go : (x : Bool) → is_decoded vr ≡ x → IsUtf8 (if x then decoded_so_far vr sets size v else shown_so_far (shape vr) vr size v)
    go true e = decoded_so_far_is_utf8 vr sets size v (listed v h)
    go false e = so_far_utf8 vr size v (is_number (shape vr) e) h

pub open_leaf_utf8 : (mode : Mode) (sets : Sets) (level : ℕ) (t : Tag) (vr : Vr) (size : ℕ) (v : List ℕ) → IsTag t → Bytes v → IsUtf8 (open_line mode (line_start level t (letters vr)) (decoded_open_value vr sets size v))
open_leaf_utf8 mode sets level t vr size v h k =
    begun_utf8 mode (line_start level t (letters vr)) (decoded_open_value vr sets size v) (start_utf8 level t (letters vr) h (letters_utf8 vr)) (open_value_utf8 vr sets size v k)

abbrev pub FragmentOfBytes : Option (ℕ × List ℕ) → Type 0
FragmentOfBytes None = Unit {0}
FragmentOfBytes (Some v) = Bytes v.1

pub open_fragment_utf8 : (mode : Mode) (level : ℕ) (last : Option (ℕ × List ℕ)) → FragmentOfBytes last → IsUtf8 (open_fragment mode level last)
open_fragment_utf8 mode level None h = IsUtf8-nil
open_fragment_utf8 mode level (Some v) h =
    begun_utf8 mode (line_start level item_tag (codes "pi")) (shown_so_far hexadecimal OB v.0 v.1) (start_utf8 level item_tag (codes "pi") item_is_tag (low_utf8 (codes "pi") refl)) (so_far_utf8 OB v.0 v.1 tt h)
