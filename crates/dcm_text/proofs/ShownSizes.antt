-- How many bytes a dump shows of a text: at most three for each byte.
use Rattle.std.proofs.Common.{◌≡◌, ℕ, zero, suc, ◌+◌, ◌-◌, ◌*◌, ◌≤◌, ◌<◌, Bool, true, false, cond, List, [], ◌∷◌, length, take, drop, get_or, Option, Some, None}
use Rattle.std.proofs.Common.{refl, sym, subst, arith, length-append, length-drop}
use Rattle.std.specs.Prelude.{◌==◌, nat_lt, flat_map}
use Rattle.std.specs.Char.{encode_utf8}
use Rattle.std.specs.List.{list_all}
use Rattle.std.proofs.lemmas.Bool.{and_parts}
use Rattle.std.proofs.lemmas.Bool.Decides.{nat_tests}
use Rattle.std.proofs.lemmas.List.{length-take-le}
use Rattle.std.proofs.lemmas.Str.{length-encode, len_utf8_bounds}
use lib.Utf8.{scalar}
use Rattle.dcm_text.specs.declared.characters.Single.{Single}
use Rattle.dcm_text.specs.declared.characters.Single.TheVariants.{Ir13, Ir100, Ir101, Ir109, Ir110, Ir126, Ir127, Ir138, Ir144, Ir148, Ir166, Ir203}
use Rattle.dcm_text.specs.declared.set.Halves.{Halves}
use Rattle.dcm_text.specs.declared.set.Left.{Left}
use Rattle.dcm_text.specs.declared.set.Left.TheVariants as left
use Rattle.dcm_text.specs.declared.set.Right.{Right}
use Rattle.dcm_text.specs.declared.set.Right.TheVariants as right
use Rattle.dcm_text.specs.declared.set.TextKind.{TextKind}
use Rattle.dcm_text.specs.declared.sets.Sets.{Sets}
use Rattle.dcm_text.specs.declared.form.Fit.{Fit}
use Rattle.dcm_text.specs.declared.form.Fit.TheVariants.{Whole, Part, Not}
use Rattle.dcm_text.specs.declared.form.Form.{Form}
use Rattle.dcm_text.specs.declared.form.Form.TheVariants as form
use Rattle.dcm_text.specs.declared.form.Opening.{Opening}
use Rattle.dcm_text.specs.declared.form.Opening.TheVariants as opening
use Rattle.dcm_text.specs.declared.first.Found.{Found}
use Rattle.dcm_text.specs.declared.first.Meaning.{Meaning}
use Rattle.dcm_text.specs.declared.first.Meaning.TheVariants as meaning
use Rattle.dcm_text.specs.Characters.{is_between, entry, right_half, single_character}
use Rattle.dcm_text.specs.Forms.{Range, character_of, left_opening, right_opening, utf8_ranges, forms, fit_of}
use Rattle.dcm_text.specs.First.{Designation, by_fit, fits, as_designation, designated, designations, formed, of_forms, of_form, meaning_of, opened, opening_of, is_escape, first_of, start_of}
use Rattle.dcm_text.specs.Decoding.{or_unknown, decoded_by, decoded_from, decoded}
use Rattle.dcm_text.specs.Shown.{percent, is_dumped, dumped_piece, dumped}
use Rattle.dcm_text.proofs.Pieces.{all_sized}

-- ---- what so many bytes mean has at most three times as many bytes of UTF-8

abbrev pub Short : Meaning → (size : ℕ) → Type 0
Short (meaning.Character c) size = length (encode_utf8 c) ≤ 3 * size
Short meaning.Unknown size = Unit {0}
Short meaning.Designation size = Unit {0}

abbrev pub ShortFound : Option Found → Type 0
ShortFound None = Unit {0}
ShortFound (Some f) = Short f.meaning f.size

-- a character below 10000 has at most three, any other four
four_at_most : (c : ℕ) → length (encode_utf8 c) ≤ 4
four_at_most c = omega (arith, length-encode c, len_utf8_bounds c)

three_at_most : (c : ℕ) → c < 0x10000 → length (encode_utf8 c) ≤ 3
three_at_most c l = grind (arith, nat_tests, length-encode c)

-- ---- one byte: the tables of one byte a character end below 10000

abbrev pub Low : Option ℕ → Type 0
Low None = Unit {0}
Low (Some c) = c < 0x10000

abbrev pub LowOpening : Opening → Type 0
LowOpening (opening.Byte o) = Low o
LowOpening (opening.Form f) = Unit {0}

is_low : ℕ → Bool
is_low n = nat_lt n 0x10000

all_low : (s : Single) → list_all is_low (right_half s) ≡ true
unfolding right_half is_low
all_low Ir13 = refl
all_low Ir100 = refl
all_low Ir101 = refl
all_low Ir109 = refl
all_low Ir110 = refl
all_low Ir126 = refl
all_low Ir127 = refl
all_low Ir138 = refl
all_low Ir144 = refl
all_low Ir148 = refl
all_low Ir166 = refl
all_low Ir203 = refl

low_at : (table : List ℕ) (at : ℕ) → list_all is_low table ≡ true → get_or table at 0 < 0x10000
unfolding is_low
low_at [] at e = omega arith
low_at (x ∷ xs) zero e =
    let this : nat_lt x 0x10000 ≡ true = (and_parts (is_low x) (list_all is_low xs) e).0 in
    grind (arith, nat_tests)
low_at (x ∷ xs) (suc at) e = low_at xs at (and_parts (is_low x) (list_all is_low xs) e).1

entry_low : (table : List ℕ) (at : ℕ) → list_all is_low table ≡ true → Low (entry table at)
entry_low table at e = of_tests (get_or table at 0 == 0) (scalar (get_or table at 0)) (low_at table at e)
  where
    of_tests : (s t : Bool) → get_or table at 0 < 0x10000 → Low (cond s None (cond t (Some (get_or table at 0)) None))
    of_tests true t l = tt
    of_tests false true l = l
    of_tests false false l = tt

single_low : (s : Single) (b : ℕ) → Low (single_character s b)
single_low s b = of_test (nat_lt b 0xA0) (entry_low (right_half s) (b - 0xA0) (all_low s))
  where
    of_test : (t : Bool) → Low (entry (right_half s) (b - 0xA0)) → Low (cond t None (entry (right_half s) (b - 0xA0)))
    of_test true h = tt
    of_test false h = h

form_or : (t : Bool) (f : Form) (o : Option ℕ) → Low o → LowOpening (cond t (opening.Form f) (opening.Byte o))
form_or true f o h = tt
form_or false f o h = h

left_low : (l : Left) (b : ℕ) → b < 0x10000 → LowOpening (left_opening l b)
left_low left.Ascii b h = h
left_low left.Ir87 b h = form_or (is_between 0x21 0x7E b) form.Ir87 (Some b) h
left_low left.Ir159 b h = form_or (is_between 0x21 0x7E b) form.Ir159 (Some b) h

right_low : (r : Right) (b : ℕ) → LowOpening (right_opening r b)
right_low right.Nothing b = tt
right_low (right.Single s) b = single_low s b
right_low right.Ir149 b = form_or (is_between 0xA1 0xFE b) form.Ir149 None tt
right_low right.Ir58 b = form_or (is_between 0xA1 0xFE b) form.Ir58 None tt
right_low right.Gb18030 b = form_or (is_between 0x81 0xFE b) form.Gb18030 None tt
right_low right.Utf8 b = form_or (is_between 0xC2 0xF4 b) form.Utf8 None tt

opening_low : (halves : Halves) (b : ℕ) → LowOpening (opening_of halves b)
opening_low halves b = of_test (nat_lt b 0x80) refl
  where
    of_test : (t : Bool) → nat_lt b 0x80 ≡ t → LowOpening (cond t (left_opening halves.left b) (right_opening halves.right b))
    of_test true e = left_low halves.left b (grind (arith, nat_tests))
    of_test false e = right_low halves.right b

byte_short : (o : Option ℕ) → Low o → Short (meaning_of o) 1
byte_short None h = tt
byte_short (Some c) h = omega (arith, three_at_most c h)

-- ---- forms: each has two bytes at least

abbrev pub AreMore : List (List Range) → Type 0
AreMore [] = Unit {0}
AreMore (rs ∷ others) = (1 ≤ length rs) × AreMore others

one_or : (t : Bool) (rs others : List Range) → 1 ≤ length rs → 1 ≤ length others → 1 ≤ length (cond t rs others)
one_or true rs others h k = h
one_or false rs others h k = k

more_utf8 : (b : ℕ) → 1 ≤ length (utf8_ranges b)
more_utf8 b =
    one_or (nat_lt b 0xE0) _ _ (omega arith) (one_or (b == 0xE0) _ _ (omega arith) (one_or (b == 0xED) _ _ (omega arith)
    (one_or (nat_lt b 0xF0) _ _ (omega arith) (one_or (b == 0xF0) _ _ (omega arith) (one_or (b == 0xF4) _ _ (omega arith) (omega arith))))))

more_forms : (f : Form) (b : ℕ) → AreMore (forms f b)
more_forms form.Ir87 b = (omega arith, tt)
more_forms form.Ir159 b = (omega arith, tt)
more_forms form.Ir149 b = (omega arith, tt)
more_forms form.Ir58 b = (omega arith, tt)
more_forms form.Gb18030 b = (omega arith, (omega arith, (omega arith, tt)))
more_forms form.Utf8 b = (more_utf8 b, tt)

form_short : (o : Option ℕ) (size : ℕ) → 2 ≤ size → Short (meaning_of o) size
form_short None size l = tt
form_short (Some c) size l = omega (arith, four_at_most c)

by_fit_short : (x : Fit) (whole other : Option Found) → ShortFound whole → ShortFound other → ShortFound (by_fit x whole other)
by_fit_short Whole whole other h k = h
by_fit_short Part whole other h k = tt
by_fit_short Not whole other h k = k

of_forms_short : (f : Form) (halves : Halves) (bytes bs : List ℕ) (others : List (List Range)) → AreMore others
    → ShortFound (of_forms f halves bytes bs others)
of_forms_short f halves bytes bs [] more = tt
of_forms_short f halves bytes bs (rs ∷ others) more =
    by_fit_short (fit_of rs bs) (Some (formed f halves bytes (1 + length rs))) (of_forms f halves bytes bs others)
    (form_short (character_of f (take (1 + length rs) bytes)) (1 + length rs) (omega (arith, more.0))) (of_forms_short f halves bytes bs others more.1)

of_form_short : (f : Form) (halves : Halves) (bs : List ℕ) → ShortFound (of_form f halves bs)
of_form_short f halves [] = tt
of_form_short f halves (b ∷ bs) = of_forms_short f halves (b ∷ bs) bs (forms f b) (more_forms f b)

-- ---- the first of a text

opened_short : (o : Opening) (sets : Sets) (kind : TextKind) (halves : Halves) (bs : List ℕ) → LowOpening o → ShortFound (opened o sets kind halves bs)
opened_short (opening.Byte c) sets kind halves [] h = tt
opened_short (opening.Byte c) sets kind halves (b ∷ bs) h = byte_short c h
opened_short (opening.Form f) sets kind halves bs h = of_form_short f halves bs

designated_short : (sets : Sets) (ds : List Designation) (halves : Halves) (bs : List ℕ) → ShortFound (designated sets ds halves bs)
designated_short sets [] halves bs = tt
designated_short sets (d ∷ ds) halves bs =
    by_fit_short (fits sets d bs) (as_designation halves d) (designated sets ds halves bs) tt (designated_short sets ds halves bs)

first_short : (sets : Sets) (kind : TextKind) (halves : Halves) (bs : List ℕ) → ShortFound (first_of sets kind halves bs)
unfolding first_of
first_short sets kind halves [] = tt
first_short sets kind halves (b ∷ bs) =
    of_test (is_escape sets b) (designated_short sets designations halves bs)
    (opened_short (opening_of halves b) sets kind halves (b ∷ bs) (opening_low halves b))
  where
    of_test : (t : Bool) → ShortFound (designated sets designations halves bs) → ShortFound (opened (opening_of halves b) sets kind halves (b ∷ bs))
        → ShortFound (cond t (designated sets designations halves bs) (opened (opening_of halves b) sets kind halves (b ∷ bs)))
    of_test true h k = h
    of_test false h k = k

or_short : (halves : Halves) (o : Option Found) → ShortFound o → Short (or_unknown halves o).meaning (or_unknown halves o).size
or_short halves None h = tt
or_short halves (Some f) h = h

-- ---- what is shown

percents_sized : (bs : List ℕ) → length (flat_map percent bs) ≤ 3 * length bs
percents_sized [] = omega arith
percents_sized (b ∷ bs) = omega (arith, percents_sized bs)

piece_sized : (bytes : List ℕ) (m : Meaning) → Short m (length bytes) → length (dumped_piece (bytes, m)) ≤ 3 * length bytes
piece_sized bytes (meaning.Character c) h = of_test (is_dumped c)
  where
    of_test : (t : Bool) → length (cond t (encode_utf8 c) (flat_map percent bytes)) ≤ 3 * length bytes
    of_test true = h
    of_test false = percents_sized bytes
piece_sized bytes meaning.Unknown h = percents_sized bytes
piece_sized bytes meaning.Designation h = omega arith

pieces_sized : (n : ℕ) (sets : Sets) (kind : TextKind) (halves : Halves) (text : List ℕ)
    → length (flat_map dumped_piece (decoded_by n sets kind halves text)) ≤ 3 * length text
pieces_sized zero sets kind halves text = omega arith
pieces_sized (suc n) sets kind halves [] = omega arith
pieces_sized (suc n) sets kind halves (b ∷ rest) =
    let f : Found = or_unknown halves (first_of sets kind halves (b ∷ rest)) in
    let s = all_sized true sets kind halves (b ∷ rest) in
    let front : List ℕ = take f.size (b ∷ rest) in
    let back : List ℕ = drop f.size (b ∷ rest) in
    let size : length front ≡ f.size = length-take-le f.size (b ∷ rest) s.1 in
    let short : Short f.meaning (length front) =
    subst (Short f.meaning) (sym size) (or_short halves (first_of sets kind halves (b ∷ rest)) (first_short sets kind halves (b ∷ rest))) in
    let this = piece_sized front f.meaning short in
    let others = pieces_sized n sets kind f.halves back in
    omega (
      arith,
      length-append (dumped_piece (front, f.meaning)) (flat_map dumped_piece (decoded_by n sets kind f.halves back)),
      length-drop f.size (b ∷ rest),
      size,
      this,
      others,
      s.1,
    )

pub dump_sized : (sets : Sets) (kind : TextKind) (text : List ℕ) → length (dumped sets kind text) ≤ 3 * length text
unfolding dumped decoded decoded_from
dump_sized sets kind text = pieces_sized (length text) sets kind (start_of sets) text
