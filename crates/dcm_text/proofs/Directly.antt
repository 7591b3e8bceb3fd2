-- What a text begins with, where it is read directly.
use Rattle.std.proofs.Common.{◌≡◌, ℕ, ◌+◌, ◌≤◌, Bool, true, false, cond, List, [], ◌∷◌, length, take, drop, Option, Some}
use Rattle.std.proofs.Common.{refl, ap, ◌∙◌, arith}
use Rattle.std.specs.Prelude.{nat_lt, ◌==◌, ◌&&◌, not, slice_index_or}
use Rattle.std.proofs.lemmas.Bool.{cond-true, cond-false, and_parts}
use Rattle.std.proofs.lemmas.Bool.Decides.{nat_tests}
use Rattle.dcm_lemmas.proofs.Truth.{not_true}
use Rattle.dcm_text.specs.declared.set.Halves.{Halves}
use Rattle.dcm_text.specs.declared.set.Left.{Left}
use Rattle.dcm_text.specs.declared.set.Left.TheVariants as left
use Rattle.dcm_text.specs.declared.set.Right.{Right}
use Rattle.dcm_text.specs.declared.set.Right.TheVariants as right
use Rattle.dcm_text.specs.declared.set.Set.{Set}
use Rattle.dcm_text.specs.declared.set.Set.TheVariants as set
use Rattle.dcm_text.specs.declared.set.Effect.TheVariants as effect
use Rattle.dcm_text.specs.declared.characters.Single.TheVariants.{Ir13}
use Rattle.dcm_text.specs.declared.sets.Sets.{Sets}
use Rattle.dcm_text.specs.declared.first.Found.{Found}
use Rattle.dcm_text.specs.declared.form.Fit.{Fit}
use Rattle.dcm_text.specs.declared.form.Fit.TheVariants.{Whole, Not}
use Rattle.dcm_text.specs.declared.form.Form.{Form}
use Rattle.dcm_text.specs.declared.form.Form.TheVariants as form
use Rattle.dcm_text.specs.declared.form.Opening.{Opening}
use Rattle.dcm_text.specs.declared.form.Opening.TheVariants as opening
use Rattle.dcm_text.specs.Characters.{is_between, character_87, character_utf8}
use Rattle.dcm_text.specs.Forms.{Range, NEXT, fit_of, utf8_ranges, starts, character_of, left_opening, right_opening}
use Rattle.dcm_text.specs.First.{first_of, opening_of, opened, of_form, by_fit, one_unknown, Designation, fits, as_designation, designated, designations}
use Rattle.dcm_text.specs.Sets.{has}
use Rattle.dcm_text.specs.Quick.{IsFirst, Designates, designated_left, read}
use Rattle.dcm_text.proofs.Utf8.{between, fits_one, fits_two, ranges_two, ranges_three, second_three}

-- ---- forms

-- a byte that is no ESC and begins a form
form_first : (halves : Halves) (b : ℕ) (rest : List ℕ) (f : Form) (x : Found) → 0x20 ≤ b
    → opening_of halves b ≡ opening.Form f → of_form f halves (b ∷ rest) ≡ Some x → IsFirst halves (b ∷ rest) x
unfolding first_of
form_first halves b rest f x l o e = λ sets kind.
    ap (λ (t : Bool). cond (t && sets.extended) (designated sets designations halves rest) (opened (opening_of halves b) sets kind halves (b ∷ rest)))
    (let t : (b == 0x1B) ≡ false = grind (arith, nat_tests) in t)
    ∙ ap (λ (y : Opening). opened y sets kind halves (b ∷ rest)) o
    ∙ e

pub at_least : (least most b : ℕ) → is_between least most b ≡ true → least ≤ b
at_least least most b e = grind (arith, nat_tests)

pub at_most : (least most b : ℕ) → is_between least most b ≡ true → b ≤ most
at_most least most b e = grind (arith, nat_tests)

pair_first : (halves : Halves) (a b : ℕ) (rest : List ℕ) → halves.left ≡ left.Ir87 → is_between 0x21 0x7E a ≡ true
    → is_between 0x21 0x7E b ≡ true → IsFirst halves (a ∷ b ∷ rest) (read 2 (character_87 a b) halves)
pair_first halves a b rest g i j =
    let l = at_least 0x21 0x7E a i in
    let m = at_most 0x21 0x7E a i in
    form_first halves a (b ∷ rest) form.Ir87 (read 2 (character_87 a b) halves) (omega arith)
    (cond-true _ _ _ (let t : nat_lt a 0x80 ≡ true = grind (arith, nat_tests) in t)
    ∙ ap (λ (x : Left). left_opening x a) g
    ∙ cond-true _ _ _ i)
    (ap (λ (x : Fit). by_fit x (Some (read 2 (character_87 a b) halves)) (Some (one_unknown halves))) (fits_one (0x21, 0x7E) b rest j))

utf8_first : (halves : Halves) (b : ℕ) (rest : List ℕ) (x : Found) → halves.right ≡ right.Utf8 → 0xC2 ≤ b → b ≤ 0xF4
    → of_form form.Utf8 halves (b ∷ rest) ≡ Some x → IsFirst halves (b ∷ rest) x
utf8_first halves b rest x g l m e =
    form_first halves b rest form.Utf8 x (omega arith)
    (cond-false _ _ _ (let t : nat_lt b 0x80 ≡ false = grind (arith, nat_tests) in t)
    ∙ ap (λ (y : Right). right_opening y b) g
    ∙ cond-true _ _ _ (between 0xC2 0xF4 b l m))
    e

-- bytes of UTF-8 by what may follow the first
utf8_formed : (halves : Halves) (b : ℕ) (rest : List ℕ) (rs : List Range) → utf8_ranges b ≡ rs → fit_of rs rest ≡ Whole
    → of_form form.Utf8 halves (b ∷ rest) ≡ Some (read (1 + length rs) (character_of form.Utf8 (take (1 + length rs) (b ∷ rest))) halves)
utf8_formed halves b rest rs r fits =
    let other : Option Found = Some (one_unknown halves) in
    let whole : List Range → Option Found = λ x. Some (read (1 + length x) (character_of form.Utf8 (take (1 + length x) (b ∷ rest))) halves) in
    ap (λ (x : List Range). by_fit (fit_of x rest) (whole x) other) r
    ∙ ap (λ (x : Fit). by_fit x (whole rs) other) fits

two_first : (halves : Halves) (a b : ℕ) (rest : List ℕ) → halves.right ≡ right.Utf8 → is_between 0xC2 0xDF a ≡ true
    → is_between 0x80 0xBF b ≡ true → IsFirst halves (a ∷ b ∷ rest) (read 2 (character_utf8 a b 0 0) halves)
two_first halves a b rest g i j =
    let l = at_least 0xC2 0xDF a i in
    let m = at_most 0xC2 0xDF a i in
    utf8_first halves a (b ∷ rest) (read 2 (character_utf8 a b 0 0) halves) g l (omega arith)
    (utf8_formed halves a (b ∷ rest) (NEXT ∷ []) (ranges_two a (omega arith)) (fits_one NEXT b rest j))

three_first : (halves : Halves) (a b c : ℕ) (rest : List ℕ) → halves.right ≡ right.Utf8
    → (is_between 0xE1 0xEF a && not (a == 0xED)) ≡ true → is_between 0x80 0xBF b ≡ true → is_between 0x80 0xBF c ≡ true
    → IsFirst halves (a ∷ b ∷ c ∷ rest) (read 3 (character_utf8 a b c 0) halves)
three_first halves a b c rest g i j k =
    let both = and_parts (is_between 0xE1 0xEF a) (not (a == 0xED)) i in
    let l = at_least 0xE1 0xEF a both.0 in
    let m = at_most 0xE1 0xEF a both.0 in
    let second : second_three a ≡ NEXT =
    cond-false _ _ _ (let t : (a == 0xE0) ≡ false = grind (arith, nat_tests) in t)
    ∙ cond-false _ _ _ (not_true (a == 0xED) both.1) in
    utf8_first halves a (b ∷ c ∷ rest) (read 3 (character_utf8 a b c 0) halves) g (omega arith) (omega arith)
    (utf8_formed halves a (b ∷ c ∷ rest) (NEXT ∷ NEXT ∷ [])
    (ranges_three a (omega arith) (omega arith) ∙ ap (λ (r : Range). r ∷ NEXT ∷ []) second)
    (fits_two NEXT NEXT b c rest j k))

-- ---- bytes by their places

pub pair_at : (halves : Halves) (a : ℕ) (after : List ℕ) → 1 ≤ length after → halves.left ≡ left.Ir87 → is_between 0x21 0x7E a ≡ true
    → is_between 0x21 0x7E (slice_index_or after 0 0) ≡ true
    → IsFirst halves (a ∷ after) (read 2 (character_87 a (slice_index_or after 0 0)) halves)
pair_at halves a [] l g i j = absurd (omega arith)
pair_at halves a (b ∷ rest) l g i j = pair_first halves a b rest g i j

pub two_at : (halves : Halves) (a : ℕ) (after : List ℕ) → 1 ≤ length after → halves.right ≡ right.Utf8 → is_between 0xC2 0xDF a ≡ true
    → is_between 0x80 0xBF (slice_index_or after 0 0) ≡ true
    → IsFirst halves (a ∷ after) (read 2 (character_utf8 a (slice_index_or after 0 0) 0 0) halves)
two_at halves a [] l g i j = absurd (omega arith)
two_at halves a (b ∷ rest) l g i j = two_first halves a b rest g i j

pub three_at : (halves : Halves) (a : ℕ) (after : List ℕ) → 2 ≤ length after → halves.right ≡ right.Utf8
    → (is_between 0xE1 0xEF a && not (a == 0xED)) ≡ true → is_between 0x80 0xBF (slice_index_or after 0 0) ≡ true
    → is_between 0x80 0xBF (slice_index_or after 1 0) ≡ true
    → IsFirst halves (a ∷ after) (read 3 (character_utf8 a (slice_index_or after 0 0) (slice_index_or after 1 0) 0) halves)
three_at halves a [] l g i j k = absurd (omega arith)
three_at halves a (b ∷ []) l g i j k = absurd (omega arith)
three_at halves a (b ∷ c ∷ rest) l g i j k = three_first halves a b c rest g i j k

-- ---- designations

not_fitting : (sets : Sets) (d : Designation) (b : ℕ) (bytes : List ℕ) → starts d.0 (b ∷ bytes) ≡ Not → fits sets d (b ∷ bytes) ≡ Not
not_fitting sets d b bytes e = of_test (has sets d.1) (starts d.0 (b ∷ bytes)) e
  where
    of_test : (t : Bool) (x : Fit) → x ≡ Not → cond t x Not ≡ Not
    of_test true x e = e
    of_test false x e = refl

-- a row that does not fit is passed over
passed : (sets : Sets) (d : Designation) (ds : List Designation) (halves : Halves) (b : ℕ) (bytes : List ℕ) (f : Found)
    → starts d.0 (b ∷ bytes) ≡ Not → designated sets ds halves (b ∷ bytes) ≡ Some f → designated sets (d ∷ ds) halves (b ∷ bytes) ≡ Some f
passed sets d ds halves b bytes f n e =
    ap (λ (x : Fit). by_fit x (as_designation halves d) (designated sets ds halves (b ∷ bytes))) (not_fitting sets d b bytes n) ∙ e

-- one that fits is taken
taken : (sets : Sets) (d : Designation) (ds : List Designation) (halves : Halves) (bytes : List ℕ)
    → has sets d.1 ≡ true → starts d.0 bytes ≡ Whole → designated sets (d ∷ ds) halves bytes ≡ as_designation halves d
taken sets d ds halves bytes h s =
    ap (λ (x : Fit). by_fit x (as_designation halves d) (designated sets ds halves bytes)) (cond-true _ _ _ h ∙ s)

-- the first rows
abbrev ascii_row : Designation
ascii_row = (0x28 ∷ 0x42 ∷ [], set.Ascii, effect.Left left.Ascii)

-- which end kanji
abbrev back_row : Set → Designation
back_row s = (0x28 ∷ 0x4A ∷ [], s, effect.Left left.Ascii)

abbrev kanji_row : Designation
kanji_row = (0x24 ∷ 0x42 ∷ [], set.Ir87, effect.Left left.Ir87)

abbrev behind_one : List Designation
behind_one = back_row (set.Single Ir13) ∷ back_row set.Ir87 ∷ back_row set.Ir159 ∷ kanji_row ∷ drop 5 designations

first_five : designations ≡ ascii_row ∷ behind_one
unfolding designations
first_five = refl

ascii_named : (sets : Sets) (halves : Halves) (rest : List ℕ) → has sets set.Ascii ≡ true
    → Designates sets halves (0x28 ∷ 0x42 ∷ rest) (designated_left halves left.Ascii)
ascii_named sets halves rest h =
    ap (λ (ds : List Designation). designated sets ds halves (0x28 ∷ 0x42 ∷ rest)) first_five
    ∙ taken sets ascii_row behind_one halves (0x28 ∷ 0x42 ∷ rest) h refl

kanji_named : (sets : Sets) (halves : Halves) (rest : List ℕ) → has sets set.Ir87 ≡ true
    → Designates sets halves (0x24 ∷ 0x42 ∷ rest) (designated_left halves left.Ir87)
kanji_named sets halves rest h =
    let f : Found = designated_left halves left.Ir87 in
    let bytes : List ℕ = 0x42 ∷ rest in
    let row : Designation = kanji_row in
    let others : List Designation = drop 5 designations in
    let one = taken sets row others halves (0x24 ∷ bytes) h refl in
    let two = passed sets (back_row set.Ir159) (row ∷ others) halves 0x24 bytes f refl one in
    let three = passed sets (back_row set.Ir87) (back_row set.Ir159 ∷ row ∷ others) halves 0x24 bytes f refl two in
    let four = passed sets (back_row (set.Single Ir13)) (back_row set.Ir87 ∷ back_row set.Ir159 ∷ row ∷ others) halves 0x24 bytes f refl three in
    ap (λ (ds : List Designation). designated sets ds halves (0x24 ∷ bytes)) first_five
    ∙ passed sets ascii_row behind_one halves 0x24 bytes f refl four

pub ascii_at : (sets : Sets) (halves : Halves) (bytes : List ℕ) → 2 ≤ length bytes → slice_index_or bytes 0 0 ≡ 0x28
    → slice_index_or bytes 1 0 ≡ 0x42 → has sets set.Ascii ≡ true → Designates sets halves bytes (designated_left halves left.Ascii)
ascii_at sets halves [] l i j h = absurd (omega arith)
ascii_at sets halves (a ∷ []) l i j h = absurd (omega arith)
ascii_at sets halves (a ∷ b ∷ rest) l i j h =
    ap (λ (x : ℕ). designated sets designations halves (x ∷ b ∷ rest)) i
    ∙ ap (λ (x : ℕ). designated sets designations halves (0x28 ∷ x ∷ rest)) j
    ∙ ascii_named sets halves rest h

pub kanji_at : (sets : Sets) (halves : Halves) (bytes : List ℕ) → 2 ≤ length bytes → slice_index_or bytes 0 0 ≡ 0x24
    → slice_index_or bytes 1 0 ≡ 0x42 → has sets set.Ir87 ≡ true → Designates sets halves bytes (designated_left halves left.Ir87)
kanji_at sets halves [] l i j h = absurd (omega arith)
kanji_at sets halves (a ∷ []) l i j h = absurd (omega arith)
kanji_at sets halves (a ∷ b ∷ rest) l i j h =
    ap (λ (x : ℕ). designated sets designations halves (x ∷ b ∷ rest)) i
    ∙ ap (λ (x : ℕ). designated sets designations halves (0x24 ∷ x ∷ rest)) j
    ∙ kanji_named sets halves rest h
