-- What is shown is valid UTF-8.
use Rattle.std.proofs.Common.{◌≡◌, ℕ, zero, suc, ◌+◌, ◌-◌, ◌*◌, ◌/◌, ◌%◌, ◌<◌, Bool, true, false, cond, List, [], ◌∷◌, ◌++◌, length, take, drop, get_or, Option, Some, None}
use Rattle.std.proofs.Common.{refl, sym, ap, subst, ◌∙◌, arith}
use Rattle.std.specs.Prelude.{◌==◌, nat_lt, flat_map, option_and_then, IsUtf8}
use Rattle.std.specs.Char.{encode_utf8}
use Rattle.std.specs.List.{list_all}
use Rattle.std.proofs.lemmas.Bool.{and_parts}
use Rattle.std.proofs.lemmas.Bool.Decides.{nat_tests}
use Rattle.std.proofs.lemmas.List.{take-append-drop}
use Rattle.std.proofs.lemmas.List.Folds.{list_all-append}
use Rattle.std.proofs.lemmas.Str.{IsUtf8-append, IsUtf8-nil, IsUtf8-encode, encode_ascii}
use lib.Utf8.{scalar, low_scalar}
use Rattle.dcm_text.specs.declared.characters.Single.{Single}
use Rattle.dcm_text.specs.declared.set.Halves.{Halves}
use Rattle.dcm_text.specs.declared.set.Left.{Left}
use Rattle.dcm_text.specs.declared.set.Left.TheVariants as left
use Rattle.dcm_text.specs.declared.set.Right.{Right}
use Rattle.dcm_text.specs.declared.set.Right.TheVariants as right
use Rattle.dcm_text.specs.declared.set.TextKind.{TextKind}
use Rattle.dcm_text.specs.declared.sets.Sets.{Sets}
use Rattle.dcm_text.specs.declared.form.Fit.{Fit}
use Rattle.dcm_text.specs.declared.form.Fit.TheVariants.{Whole, Part, Not}
use Rattle.dcm_text.specs.declared.form.Form.{Form}
use Rattle.dcm_text.specs.declared.form.Form.TheVariants as form
use Rattle.dcm_text.specs.declared.form.Opening.{Opening}
use Rattle.dcm_text.specs.declared.form.Opening.TheVariants as opening
use Rattle.dcm_text.specs.declared.first.Found.{Found}
use Rattle.dcm_text.specs.declared.first.Meaning.{Meaning}
use Rattle.dcm_text.specs.declared.first.Meaning.TheVariants as meaning
use Rattle.dcm_text.specs.Characters.{numbered, entry, in_row, single_character, right_half, rows_87, rows_149, rows_58, rows_159, place_87, place_149, place_58, place_159, character_utf8, number_utf8, is_between}
use Rattle.dcm_text.specs.Gb18030.{pairs, column, pair_character, number, numbered_four, four_character}
use Rattle.dcm_text.specs.Forms.{Range, character_of, left_opening, right_opening, pair_or_none, forms, fit_of}
use Rattle.dcm_text.specs.First.{Designation, by_fit, fits, as_designation, designated, designations, formed, of_forms, of_form, meaning_of, opened, opening_of, is_escape, first_of, start_of}
use Rattle.dcm_text.specs.Decoding.{Piece, or_unknown, decoded_by, decoded_from, decoded}
use Rattle.dcm_text.specs.Shown.{digit, percent, backslashed, is_dumped, dumped_piece, cell_piece, dumped, cell}
use Rattle.dcm_text.specs.Laws.{is_byte}

-- ---- each character is one of Unicode

abbrev pub Fair : Meaning → Type 0
Fair (meaning.Character c) = scalar c ≡ true
Fair meaning.Unknown = Unit {0}
Fair meaning.Designation = Unit {0}

abbrev pub FairFound : Option Found → Type 0
FairFound None = Unit {0}
FairFound (Some f) = Fair f.meaning

abbrev pub FairNumber : Option ℕ → Type 0
FairNumber None = Unit {0}
FairNumber (Some c) = scalar c ≡ true

abbrev pub FairOpening : Opening → Type 0
FairOpening (opening.Byte o) = FairNumber o
FairOpening (opening.Form f) = Unit {0}

numbered_fair : (n : ℕ) → FairNumber (numbered n)
numbered_fair n = of_test (scalar n) refl
  where
    of_test : (t : Bool) → scalar n ≡ t → FairNumber (cond t (Some n) None)
    of_test true e = e
    of_test false e = tt

entry_fair : (table : List ℕ) (at : ℕ) → FairNumber (entry table at)
entry_fair table at = of_test (get_or table at 0 == 0) (numbered_fair (get_or table at 0))
  where
    of_test : (t : Bool) → FairNumber (numbered (get_or table at 0)) → FairNumber (cond t None (numbered (get_or table at 0)))
    of_test true h = tt
    of_test false h = h

single_fair : (s : Single) (b : ℕ) → FairNumber (single_character s b)
single_fair s b = of_test (nat_lt b 0xA0) (entry_fair (right_half s) (b - 0xA0))
  where
    of_test : (t : Bool) → FairNumber (entry (right_half s) (b - 0xA0)) → FairNumber (cond t None (entry (right_half s) (b - 0xA0)))
    of_test true h = tt
    of_test false h = h

row_fair : (table : List ℕ) (place : Option ℕ) (column : ℕ) → FairNumber (in_row table place column)
row_fair table None column = tt
row_fair table (Some p) column = entry_fair table (94 * p + (column - 1))

utf8_fair : (b d e f : ℕ) → FairNumber (character_utf8 b d e f)
unfolding character_utf8
utf8_fair b d e f = numbered_fair (number_utf8 b d e f)

pair_fair_at : (first : ℕ) (c : Option ℕ) → FairNumber (option_and_then (λ k. entry (pairs first) (190 * ((first - 0x81) % 42) + k)) c)
pair_fair_at first None = tt
pair_fair_at first (Some c) = entry_fair (pairs first) (190 * ((first - 0x81) % 42) + c)

four_fair_at : (n : Option ℕ) → FairNumber (option_and_then numbered n)
four_fair_at None = tt
four_fair_at (Some n) = numbered_fair n

gb_fair : (bytes : List ℕ) → FairNumber (character_of form.Gb18030 bytes)
gb_fair bytes = of_test (length bytes == 2) (pair_fair_at (get_or bytes 0 0) (column (get_or bytes 1 0)))
    (four_fair_at (numbered_four (number (get_or bytes 0 0) (get_or bytes 1 0) (get_or bytes 2 0) (get_or bytes 3 0))))
  where
    of_test : (t : Bool) → FairNumber (pair_character (get_or bytes 0 0) (get_or bytes 1 0)) → FairNumber (four_character (get_or bytes 0 0) (get_or bytes 1 0) (get_or bytes 2 0) (get_or bytes 3 0))
        → FairNumber (cond t (pair_character (get_or bytes 0 0) (get_or bytes 1 0)) (four_character (get_or bytes 0 0) (get_or bytes 1 0) (get_or bytes 2 0) (get_or bytes 3 0)))
    of_test true h k = h
    of_test false h k = k

form_fair : (f : Form) (bytes : List ℕ) → FairNumber (character_of f bytes)
form_fair form.Ir87 bytes = row_fair rows_87 (place_87 (get_or bytes 0 0 - 0x20)) (get_or bytes 1 0 - 0x20)
form_fair form.Ir149 bytes = row_fair rows_149 (place_149 (get_or bytes 0 0 - 0xA0)) (get_or bytes 1 0 - 0xA0)
form_fair form.Ir58 bytes = row_fair rows_58 (place_58 (get_or bytes 0 0 - 0xA0)) (get_or bytes 1 0 - 0xA0)
form_fair form.Ir159 bytes = row_fair rows_159 (place_159 (get_or bytes 0 0 - 0x20)) (get_or bytes 1 0 - 0x20)
form_fair form.Gb18030 bytes = gb_fair bytes
form_fair form.Utf8 bytes = utf8_fair (get_or bytes 0 0) (get_or bytes 1 0) (get_or bytes 2 0) (get_or bytes 3 0)

left_fair : (l : Left) (b : ℕ) → b < 128 → FairOpening (left_opening l b)
left_fair left.Ascii b h = low_scalar b (omega arith)
left_fair left.Ir87 b h = of_test (is_between 0x21 0x7E b)
  where
    of_test : (t : Bool) → FairOpening (cond t (opening.Form form.Ir87) (opening.Byte (Some b)))
    of_test true = tt
    of_test false = low_scalar b (omega arith)
left_fair left.Ir159 b h = of_test (is_between 0x21 0x7E b)
  where
    of_test : (t : Bool) → FairOpening (cond t (opening.Form form.Ir159) (opening.Byte (Some b)))
    of_test true = tt
    of_test false = low_scalar b (omega arith)

pair_fair : (f : Form) (b : ℕ) → FairOpening (pair_or_none f b)
pair_fair f b = of_test (is_between 0xA1 0xFE b)
  where
    of_test : (t : Bool) → FairOpening (cond t (opening.Form f) (opening.Byte None))
    of_test true = tt
    of_test false = tt

right_fair : (r : Right) (b : ℕ) → FairOpening (right_opening r b)
right_fair right.Nothing b = tt
right_fair (right.Single s) b = single_fair s b
right_fair right.Ir149 b = pair_fair form.Ir149 b
right_fair right.Ir58 b = pair_fair form.Ir58 b
right_fair right.Gb18030 b = of_test (is_between 0x81 0xFE b)
  where
    of_test : (t : Bool) → FairOpening (cond t (opening.Form form.Gb18030) (opening.Byte None))
    of_test true = tt
    of_test false = tt
right_fair right.Utf8 b = of_test (is_between 0xC2 0xF4 b)
  where
    of_test : (t : Bool) → FairOpening (cond t (opening.Form form.Utf8) (opening.Byte None))
    of_test true = tt
    of_test false = tt

opening_fair : (halves : Halves) (b : ℕ) → FairOpening (opening_of halves b)
opening_fair halves b = of_test (nat_lt b 0x80) refl
  where
    of_test : (t : Bool) → nat_lt b 0x80 ≡ t → FairOpening (cond t (left_opening halves.left b) (right_opening halves.right b))
    of_test true e = left_fair halves.left b (grind (arith, nat_tests))
    of_test false e = right_fair halves.right b

meaning_fair : (o : Option ℕ) → FairNumber o → Fair (meaning_of o)
meaning_fair None h = tt
meaning_fair (Some c) h = h

by_fit_fair : (x : Fit) (whole other : Option Found) → FairFound whole → FairFound other → FairFound (by_fit x whole other)
by_fit_fair Whole whole other h k = h
by_fit_fair Part whole other h k = tt
by_fit_fair Not whole other h k = k

designated_fair : (sets : Sets) (ds : List Designation) (halves : Halves) (bs : List ℕ) → FairFound (designated sets ds halves bs)
designated_fair sets [] halves bs = tt
designated_fair sets (d ∷ ds) halves bs =
    by_fit_fair (fits sets d bs) (as_designation halves d) (designated sets ds halves bs) tt (designated_fair sets ds halves bs)

of_forms_fair : (f : Form) (halves : Halves) (bytes bs : List ℕ) (others : List (List Range)) → FairFound (of_forms f halves bytes bs others)
of_forms_fair f halves bytes bs [] = tt
of_forms_fair f halves bytes bs (rs ∷ others) =
    by_fit_fair (fit_of rs bs) (Some (formed f halves bytes (1 + length rs))) (of_forms f halves bytes bs others)
    (meaning_fair (character_of f (take (1 + length rs) bytes)) (form_fair f (take (1 + length rs) bytes))) (of_forms_fair f halves bytes bs others)

of_form_fair : (f : Form) (halves : Halves) (bs : List ℕ) → FairFound (of_form f halves bs)
of_form_fair f halves [] = tt
of_form_fair f halves (b ∷ bs) = of_forms_fair f halves (b ∷ bs) bs (forms f b)

opened_fair : (o : Opening) (sets : Sets) (kind : TextKind) (halves : Halves) (bs : List ℕ) → FairOpening o → FairFound (opened o sets kind halves bs)
opened_fair (opening.Byte c) sets kind halves [] h = tt
opened_fair (opening.Byte c) sets kind halves (b ∷ bs) h = meaning_fair c h
opened_fair (opening.Form f) sets kind halves bs h = of_form_fair f halves bs

first_fair : (sets : Sets) (kind : TextKind) (halves : Halves) (bs : List ℕ) → FairFound (first_of sets kind halves bs)
unfolding first_of
first_fair sets kind halves [] = tt
first_fair sets kind halves (b ∷ bs) =
    of_test (is_escape sets b) (designated_fair sets designations halves bs)
    (opened_fair (opening_of halves b) sets kind halves (b ∷ bs) (opening_fair halves b))
  where
    of_test : (t : Bool) → FairFound (designated sets designations halves bs) → FairFound (opened (opening_of halves b) sets kind halves (b ∷ bs))
        → FairFound (cond t (designated sets designations halves bs) (opened (opening_of halves b) sets kind halves (b ∷ bs)))
    of_test true h k = h
    of_test false h k = k

or_fair : (halves : Halves) (o : Option Found) → FairFound o → Fair (or_unknown halves o).meaning
or_fair halves None h = tt
or_fair halves (Some f) h = h

-- ---- escapes

ascii_one : (b : ℕ) → b < 128 → IsUtf8 (b ∷ [])
ascii_one b l = subst IsUtf8 (encode_ascii b l) (IsUtf8-encode b (low_scalar b (omega arith)))

with_ascii : (b : ℕ) (bs : List ℕ) → b < 128 → IsUtf8 bs → IsUtf8 (b ∷ bs)
with_ascii b bs l u = IsUtf8-append (b ∷ []) bs (ascii_one b l) u

small_digit : (n ten : ℕ) → n < 16 → ten < 100 → digit n ten < 128
small_digit n ten l m = of_test (nat_lt n 10) refl
  where
    of_test : (t : Bool) → nat_lt n 10 ≡ t → cond t (48 + n) (ten + (n - 10)) < 128
    of_test true e = omega arith
    of_test false e = omega arith

percents_utf8 : (bs : List ℕ) → list_all is_byte bs ≡ true → IsUtf8 (flat_map percent bs)
percents_utf8 [] e = IsUtf8-nil
percents_utf8 (b ∷ bs) e =
    let both = and_parts (is_byte b) (list_all is_byte bs) e in
    let l : b < 256 = byte_small b both.0 in
    with_ascii 37 _ (omega arith) (with_ascii (digit (b / 16) 65) _ (small_digit (b / 16) 65 (omega arith) (omega arith))
    (with_ascii (digit (b % 16) 65) _ (small_digit (b % 16) 65 (omega arith) (omega arith)) (percents_utf8 bs both.1)))
  where
    byte_small : (b : ℕ) → is_byte b ≡ true → b < 256
    byte_small b e = let h : nat_lt b 0x100 ≡ true = e in grind (arith, nat_tests)

backslashed_utf8 : (bs : List ℕ) → list_all is_byte bs ≡ true → IsUtf8 (flat_map backslashed bs)
backslashed_utf8 [] e = IsUtf8-nil
backslashed_utf8 (b ∷ bs) e =
    let both = and_parts (is_byte b) (list_all is_byte bs) e in
    let l : b < 256 = byte_small b both.0 in
    with_ascii 92 _ (omega arith) (with_ascii 120 _ (omega arith) (with_ascii (digit (b / 16) 97) _ (small_digit (b / 16) 97 (omega arith) (omega arith))
    (with_ascii (digit (b % 16) 97) _ (small_digit (b % 16) 97 (omega arith) (omega arith)) (backslashed_utf8 bs both.1))))
  where
    byte_small : (b : ℕ) → is_byte b ≡ true → b < 256
    byte_small b e = let h : nat_lt b 0x100 ≡ true = e in grind (arith, nat_tests)

dumped_utf8 : (bytes : List ℕ) (m : Meaning) → list_all is_byte bytes ≡ true → Fair m → IsUtf8 (dumped_piece (bytes, m))
dumped_utf8 bytes (meaning.Character c) e f = of_test (is_dumped c)
  where
    of_test : (t : Bool) → IsUtf8 (cond t (encode_utf8 c) (flat_map percent bytes))
    of_test true = IsUtf8-encode c f
    of_test false = percents_utf8 bytes e
dumped_utf8 bytes meaning.Unknown e f = percents_utf8 bytes e
dumped_utf8 bytes meaning.Designation e f = IsUtf8-nil

cell_utf8 : (bytes : List ℕ) (m : Meaning) → list_all is_byte bytes ≡ true → Fair m → IsUtf8 (cell_piece (bytes, m))
cell_utf8 bytes (meaning.Character c) e f = IsUtf8-encode c f
cell_utf8 bytes meaning.Unknown e f = backslashed_utf8 bytes e
cell_utf8 bytes meaning.Designation e f = IsUtf8-nil

-- ---- whole texts

all_parts : (n : ℕ) (bs : List ℕ) → list_all is_byte bs ≡ true → (list_all is_byte (take n bs) ≡ true) × (list_all is_byte (drop n bs) ≡ true)
all_parts n bs e =
    and_parts (list_all is_byte (take n bs)) (list_all is_byte (drop n bs))
    (sym (list_all-append is_byte (take n bs) (drop n bs)) ∙ ap (list_all is_byte) (take-append-drop n bs) ∙ e)

-- what holds of nothing, and of both of two parts, and of what each piece shows, holds of all that is shown
module _ (Holds : List ℕ → Type 0) (none : Holds []) (both : (xs ys : List ℕ) → Holds xs → Holds ys → Holds (xs ++ ys)) (show : Piece → List ℕ) (valid : (bytes : List ℕ) (m : Meaning) → list_all is_byte bytes ≡ true → Fair m → Holds (show (bytes, m))) where
  by_pieces : (n : ℕ) (sets : Sets) (kind : TextKind) (halves : Halves) (text : List ℕ) → list_all is_byte text ≡ true
      → Holds (flat_map show (decoded_by n sets kind halves text))
  by_pieces zero sets kind halves text e = none
  by_pieces (suc n) sets kind halves [] e = none
  by_pieces (suc n) sets kind halves (b ∷ rest) e =
      let f : Found = or_unknown halves (first_of sets kind halves (b ∷ rest)) in
      let parts = all_parts f.size (b ∷ rest) e in
      both _ _ (valid (take f.size (b ∷ rest)) f.meaning parts.0 (or_fair halves (first_of sets kind halves (b ∷ rest)) (first_fair sets kind halves (b ∷ rest))))
      (by_pieces n sets kind f.halves (drop f.size (b ∷ rest)) parts.1)

  pub whole_shown : (sets : Sets) (kind : TextKind) (text : List ℕ) → list_all is_byte text ≡ true → Holds (flat_map show (decoded sets kind text))
  unfolding decoded decoded_from
  whole_shown sets kind text e = by_pieces (length text) sets kind (start_of sets) text e

pub dump_utf8 : (sets : Sets) (kind : TextKind) (text : List ℕ) → list_all is_byte text ≡ true → IsUtf8 (dumped sets kind text)
unfolding dumped
dump_utf8 = whole_shown IsUtf8 IsUtf8-nil IsUtf8-append dumped_piece dumped_utf8

pub table_utf8 : (sets : Sets) (kind : TextKind) (text : List ℕ) → list_all is_byte text ≡ true → IsUtf8 (cell sets kind text)
unfolding cell
table_utf8 = whole_shown IsUtf8 IsUtf8-nil IsUtf8-append cell_piece cell_utf8
