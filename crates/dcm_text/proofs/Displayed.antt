-- What a dump shows stands within the brackets of its line.
use Rattle.std.proofs.Common.{◌≡◌, ℕ, ◌+◌, ◌-◌, ◌/◌, ◌%◌, ◌<◌, ◌≤◌, Bool, true, false, cond, List, [], ◌∷◌, ◌++◌, append_assoc}
use Rattle.std.proofs.Common.{refl, sym, ap, subst, ◌∙◌, arith}
use Rattle.std.specs.Prelude.{◌==◌, ◌&&◌, ◌||◌, not, nat_lt, nat_le, flat_map, encode_utf8_all}
use Rattle.std.specs.Char.{encode_utf8}
use Rattle.std.specs.List.{list_all}
use Rattle.std.proofs.lemmas.Bool.{and_parts}
use Rattle.std.proofs.lemmas.Bool.Decides.{nat_tests}
use Rattle.std.proofs.lemmas.List.{append-nil}
use Rattle.std.proofs.lemmas.List.Folds.{list_all-append}
use Rattle.std.proofs.lemmas.Str.{encode_ascii}
use lib.Utf8.{scalar, low_scalar}
use Rattle.dcm_text.specs.declared.set.TextKind.{TextKind}
use Rattle.dcm_text.specs.declared.sets.Sets.{Sets}
use Rattle.dcm_text.specs.declared.first.Meaning.{Meaning}
use Rattle.dcm_text.specs.declared.first.Meaning.TheVariants as meaning
use Rattle.dcm_text.specs.Characters.{is_between}
use Rattle.dcm_text.specs.Shown.{digit, hidden, percent, is_dumped, is_hidden, dumped_piece, dumped}
use Rattle.dcm_text.specs.Laws.{is_byte}
use Rattle.dcm_text.specs.Within.{breaks_line, is_within_brackets, StandsWithinBrackets}
use Rattle.dcm_text.proofs.Displays.{ascii_hidden}
use Rattle.dcm_text.proofs.Sound.{Fair, whole_shown}

-- ---- parts

all_encoded : (xs ys : List ℕ) → encode_utf8_all (xs ++ ys) ≡ encode_utf8_all xs ++ encode_utf8_all ys
all_encoded [] ys = refl
all_encoded (x ∷ xs) ys = ap (λ (z : List ℕ). encode_utf8 x ++ z) (all_encoded xs ys) ∙ sym (append_assoc (encode_utf8 x) (encode_utf8_all xs) (encode_utf8_all ys))

both_true : (s t : Bool) → s ≡ true → t ≡ true → (s && t) ≡ true
both_true true t p q = q
both_true false t p q = p

none_stands : StandsWithinBrackets []
none_stands = ([], refl, refl)

both_stand : (xs ys : List ℕ) → StandsWithinBrackets xs → StandsWithinBrackets ys → StandsWithinBrackets (xs ++ ys)
both_stand xs ys (cs, p, e) (ds, q, f) = (
  cs ++ ds,
  list_all-append is_within_brackets cs ds ∙ both_true (list_all is_within_brackets cs) (list_all is_within_brackets ds) p q,
  all_encoded cs ds ∙ ap (λ (z : List ℕ). z ++ encode_utf8_all ds) e ∙ ap (λ (z : List ℕ). xs ++ z) f,
)

one_stands : (c : ℕ) → is_within_brackets c ≡ true → StandsWithinBrackets (encode_utf8 c)
one_stands c h = (c ∷ [], both_true (is_within_brackets c) true h refl, append-nil (encode_utf8 c))

-- ---- ASCII

four : (s t u v : Bool) → s ≡ true → t ≡ false → u ≡ false → v ≡ false → (s && not t && not u && not v) ≡ true
four true false false false a b c d = refl
four s t u v a b c d = absurd (cc)

printed_hidden : (b : ℕ) → 32 ≤ b → b < 127 → is_hidden b ≡ false
printed_hidden b l m = ascii_hidden b (omega arith) ∙ (let t : nat_lt b 32 || (b == 127) ≡ false = grind (arith, nat_tests) in t)

no_break : (b : ℕ) → 32 ≤ b → b < 127 → breaks_line b ≡ false
no_break b l m = grind (arith, nat_tests)

ascii_stands : (b : ℕ) → 32 ≤ b → b < 127 → (b == 93) ≡ false → StandsWithinBrackets (b ∷ [])
ascii_stands b l m e =
    subst StandsWithinBrackets (encode_ascii b (omega arith))
    (one_stands b (four (scalar b) (breaks_line b) (b == 93) (is_hidden b) (low_scalar b (omega arith)) (no_break b l m) e (printed_hidden b l m)))

digit_stands : (n : ℕ) → n < 16 → StandsWithinBrackets (digit n 65 ∷ [])
digit_stands n l = of_test (nat_lt n 10) refl
  where
    of_test : (t : Bool) → nat_lt n 10 ≡ t → StandsWithinBrackets (cond t (48 + n) (65 + (n - 10)) ∷ [])
    of_test true e = ascii_stands (48 + n) (omega arith) (omega arith) (grind (arith, nat_tests))
    of_test false e = ascii_stands (65 + (n - 10)) (omega arith) (omega arith) (grind (arith, nat_tests))

byte_small : (b : ℕ) → is_byte b ≡ true → b < 256
byte_small b e = let h : nat_lt b 0x100 ≡ true = e in grind (arith, nat_tests)

percents_stand : (bs : List ℕ) → list_all is_byte bs ≡ true → StandsWithinBrackets (flat_map percent bs)
percents_stand [] e = none_stands
percents_stand (b ∷ bs) e =
    let all = and_parts (is_byte b) (list_all is_byte bs) e in
    let l : b < 256 = byte_small b all.0 in
    both_stand (37 ∷ []) _ (ascii_stands 37 (omega arith) (omega arith) refl)
    (both_stand (digit (b / 16) 65 ∷ []) _ (digit_stands (b / 16) (omega (arith, l)))
    (both_stand (digit (b % 16) 65 ∷ []) _ (digit_stands (b % 16) (omega arith)) (percents_stand bs all.1)))

-- ---- characters

-- what breaks a line is hidden
next_line : is_hidden 0x85 ≡ true
unfolding hidden
next_line = refl

line_separator : is_hidden 0x2028 ≡ true
unfolding hidden
line_separator = refl

paragraph_separator : is_hidden 0x2029 ≡ true
unfolding hidden
paragraph_separator = refl

is_number : (c n : ℕ) → (c == n) ≡ true → c ≡ n
is_number c n e = grind (arith, nat_tests)

small_control : (c : ℕ) → is_between 0x0A 0x0D c ≡ true → c < 32
small_control c e = grind (arith, nat_tests)

control_hidden : (c : ℕ) → c < 32 → is_hidden c ≡ true
control_hidden c l = ascii_hidden c (omega arith) ∙ (let t : nat_lt c 32 || (c == 127) ≡ true = grind (arith, nat_tests) in t)

break_hidden : (c : ℕ) → breaks_line c ≡ true → is_hidden c ≡ true
break_hidden c e = of_tests (is_between 0x0A 0x0D c) (c == 0x85) (c == 0x2028) (c == 0x2029) refl refl refl refl e
  where
    of_tests : (s t u v : Bool) → is_between 0x0A 0x0D c ≡ s → (c == 0x85) ≡ t → (c == 0x2028) ≡ u → (c == 0x2029) ≡ v → (s || t || u || v) ≡ true → is_hidden c ≡ true
    of_tests true t u v p q r w h = control_hidden c (small_control c p)
    of_tests false true u v p q r w h = ap is_hidden (is_number c 0x85 q) ∙ next_line
    of_tests false false true v p q r w h = ap is_hidden (is_number c 0x2028 r) ∙ line_separator
    of_tests false false false true p q r w h = ap is_hidden (is_number c 0x2029 w) ∙ paragraph_separator
    of_tests false false false false p q r w h = absurd (let no : false ≡ true = h in cc)

not_hidden : (c : ℕ) → is_hidden c ≡ false → breaks_line c ≡ false
not_hidden c e = of_test (breaks_line c) refl
  where
    of_test : (t : Bool) → breaks_line c ≡ t → t ≡ false
    of_test true h = absurd (let k = break_hidden c h in cc)
    of_test false h = refl

-- what a dump shows as it is
dumped_parts : (s t u : Bool) → (not s && not t && not u) ≡ true → (t ≡ false) × (u ≡ false)
dumped_parts false false false e = (refl, refl)
dumped_parts s t u e = absurd (cc)

piece_stands : (bytes : List ℕ) (m : Meaning) → list_all is_byte bytes ≡ true → Fair m → StandsWithinBrackets (dumped_piece (bytes, m))
piece_stands bytes (meaning.Character c) e f = of_test (is_dumped c) refl
  where
    of_test : (t : Bool) → is_dumped c ≡ t → StandsWithinBrackets (cond t (encode_utf8 c) (flat_map percent bytes))
    of_test true h =
        let k = dumped_parts (c == 37) (c == 93) (is_hidden c) h in
        one_stands c (four (scalar c) (breaks_line c) (c == 93) (is_hidden c) f (not_hidden c k.1) k.0 k.1)
    of_test false h = percents_stand bytes e
piece_stands bytes meaning.Unknown e f = percents_stand bytes e
piece_stands bytes meaning.Designation e f = none_stands

pub dump_stands : (sets : Sets) (kind : TextKind) (text : List ℕ) → list_all is_byte text ≡ true → StandsWithinBrackets (dumped sets kind text)
unfolding dumped
dump_stands = whole_shown StandsWithinBrackets none_stands both_stand dumped_piece piece_stands
