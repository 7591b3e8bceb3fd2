-- What is shown of ASCII and of UTF-8.
use Rattle.std.proofs.Common.{◌≡◌, ℕ, ◌≤◌, ◌<◌, Bool, true, false, cond, List, [], ◌∷◌, ◌++◌, map}
use Rattle.std.proofs.Common.{refl, sym, ap, ◌∙◌, arith, inl, inr, drop}
use Rattle.std.specs.Prelude.{◌==◌, ◌&&◌, ◌||◌, not, nat_lt, nat_le, ◌%◌, flat_map, encode_utf8_all}
use Rattle.std.specs.Char.{encode_utf8}
use Rattle.std.specs.List.{list_all, list_any}
use Rattle.std.specs.Str.{all_scalars}
use Rattle.std.proofs.lemmas.Bool.{and_parts, cond-true, cases_lt}
use Rattle.std.proofs.lemmas.Bool.Decides.{nat_tests}
use Rattle.std.proofs.lemmas.Str.{encode_ascii}
use Rattle.dcm_text.specs.declared.set.TextKind.{TextKind}
use Rattle.dcm_text.specs.declared.sets.Sets.{Sets}
use Rattle.dcm_text.specs.Characters.{is_between}
use Rattle.dcm_text.specs.First.{is_escape}
use Rattle.dcm_text.specs.Shown.{hidden, is_hidden, is_dumped, percent, dumped_piece, cell_piece, dumped, cell}
use Rattle.dcm_text.specs.Laws.{IsUtf8InForce, is_plain, as_itself, ascii_dumped, encoded}
use Rattle.dcm_text.proofs.Whole.{plain_decoded}
use Rattle.dcm_text.proofs.Utf8.{chars_decoded}

-- ---- ASCII

high_none : (b : ℕ) (rs : List (ℕ × ℕ)) → list_all (λ r. nat_le 128 r.0) rs ≡ true → b < 128
    → list_any (λ r. is_between r.0 r.1 b) rs ≡ false
high_none b [] e l = refl
high_none b (r ∷ rs) e l =
    let both = and_parts (nat_le 128 r.0) (list_all (λ (x : ℕ × ℕ). nat_le 128 x.0) rs) e in
    let high : 128 ≤ r.0 = le_of r.0 both.0 in
    let this : is_between r.0 r.1 b ≡ false = out r.0 r.1 b (omega arith) in
    ap (λ (t : Bool). t || list_any (λ (x : ℕ × ℕ). is_between x.0 x.1 b) rs) this ∙ high_none b rs both.1 l
  where
    le_of : (n : ℕ) → nat_le 128 n ≡ true → 128 ≤ n
    le_of n e = grind (arith, nat_tests)

    out : (least most n : ℕ) → n < least → is_between least most n ≡ false
    out least most n l = grind (arith, nat_tests)

in_first : (b : ℕ) → b < 32 → is_between 0 31 b ≡ true
in_first b l = grind (arith, nat_tests)

not_first : (b : ℕ) → 32 ≤ b → is_between 0 31 b ≡ false
not_first b l = grind (arith, nat_tests)

not_second : (b : ℕ) → b < 127 → is_between 127 159 b ≡ false
not_second b l = grind (arith, nat_tests)

no_plane : (b : ℕ) → b < 128 → nat_le 0xFFFE (b % 0x10000) ≡ false
no_plane b l = grind (arith, nat_tests)

others_high : list_all (λ (r : ℕ × ℕ). nat_le 128 r.0) (drop 2 hidden) ≡ true
unfolding hidden
others_high = refl

first_two : hidden ≡ (0, 31) ∷ (127, 159) ∷ drop 2 hidden
unfolding hidden
first_two = refl

-- which of ASCII are hidden
pub ascii_hidden : (b : ℕ) → b < 128 → is_hidden b ≡ (nat_lt b 32 || (b == 127))
ascii_hidden b l =
    ap (λ (t : Bool). t || list_any (λ (r : ℕ × ℕ). is_between r.0 r.1 b) hidden) (no_plane b l)
    ∙ ap (list_any (λ (r : ℕ × ℕ). is_between r.0 r.1 b)) first_two
    ∙ ap (λ (t : Bool). is_between 0 31 b || (is_between 127 159 b || t)) (high_none b (drop 2 hidden) others_high l)
    ∙ (elim (cases_lt b 32) [
      | inl low ↦ ap (λ (t : Bool). t || (is_between 127 159 b || false)) (in_first b low)
          ∙ sym (ap (λ (t : Bool). t || (b == 127)) (let t : nat_lt b 32 ≡ true = grind (arith, nat_tests) in t))
      | inr high ↦ ap (λ (t : Bool). t || (is_between 127 159 b || false)) (not_first b high)
          ∙ at_last b l
          ∙ sym (ap (λ (t : Bool). t || (b == 127)) (let t : nat_lt b 32 ≡ false = grind (arith, nat_tests) in t))
    ])
  where
    at_last : (b : ℕ) → b < 128 → is_between 127 159 b || false ≡ (b == 127)
    at_last b l = elim (cases_lt b 127) [
      | inl low ↦ ap (λ (t : Bool). t || false) (not_second b low) ∙ sym (let t : (b == 127) ≡ false = grind (arith, nat_tests) in t)
      | inr high ↦ let e : b ≡ 127 = omega arith in ap (λ (x : ℕ). is_between 127 159 x || false) e ∙ sym (ap (λ (x : ℕ). x == 127) e)
    ]

bool_piece : (s t u v : Bool) (x y : List ℕ) → cond (not u && not v && not (s || t)) x y ≡ cond (s || t || u || v) y x
bool_piece true t true v x y = refl
bool_piece true t false true x y = refl
bool_piece true t false false x y = refl
bool_piece false true true v x y = refl
bool_piece false true false true x y = refl
bool_piece false true false false x y = refl
bool_piece false false true v x y = refl
bool_piece false false false true x y = refl
bool_piece false false false false x y = refl

small_piece : (b : ℕ) → b < 128 → dumped_piece (as_itself b) ≡ ascii_dumped b
small_piece b l =
    ap (λ (t : Bool). cond (not (b == 37) && not (b == 93) && not t) (encode_utf8 b) (percent b)) (ascii_hidden b l)
    ∙ bool_piece (nat_lt b 32) (b == 127) (b == 37) (b == 93) (encode_utf8 b) (percent b)
    ∙ ap (λ (x : List ℕ). cond (nat_lt b 32 || (b == 127) || (b == 37) || (b == 93)) (percent b) x) (encode_ascii b l)

small : (sets : Sets) (b : ℕ) → is_plain sets b ≡ true → b < 128
small sets b e = let both = and_parts (nat_lt b 0x80) (not (is_escape sets b)) e in let h : nat_lt b 0x80 ≡ true = both.0 in grind (arith, nat_tests)

ascii_pieces : (sets : Sets) (text : List ℕ) → list_all (is_plain sets) text ≡ true
    → flat_map dumped_piece (map as_itself text) ≡ flat_map ascii_dumped text
ascii_pieces sets [] e = refl
ascii_pieces sets (b ∷ text) e =
    let both = and_parts (is_plain sets b) (list_all (is_plain sets) text) e in
    ap (λ (x : List ℕ). x ++ flat_map dumped_piece (map as_itself text)) (small_piece b (small sets b both.0))
    ∙ ap (λ (x : List ℕ). ascii_dumped b ++ x) (ascii_pieces sets text both.1)

pub ascii_dump : (sets : Sets) (kind : TextKind) (text : List ℕ) → list_all (is_plain sets) text ≡ true
    → dumped sets kind text ≡ flat_map ascii_dumped text
unfolding dumped
ascii_dump sets kind text e = ap (flat_map dumped_piece) (plain_decoded sets kind text e) ∙ ascii_pieces sets text e

ascii_cells : (sets : Sets) (text : List ℕ) → list_all (is_plain sets) text ≡ true → flat_map cell_piece (map as_itself text) ≡ text
ascii_cells sets [] e = refl
ascii_cells sets (b ∷ text) e =
    let both = and_parts (is_plain sets b) (list_all (is_plain sets) text) e in
    ap (λ (x : List ℕ). x ++ flat_map cell_piece (map as_itself text)) (encode_ascii b (small sets b both.0))
    ∙ ap (λ (x : List ℕ). b ∷ x) (ascii_cells sets text both.1)

pub ascii_cell : (sets : Sets) (kind : TextKind) (text : List ℕ) → list_all (is_plain sets) text ≡ true → cell sets kind text ≡ text
unfolding cell
ascii_cell sets kind text e = ap (flat_map cell_piece) (plain_decoded sets kind text e) ∙ ascii_cells sets text e

-- ---- UTF-8

pub utf8_pieces : (cs : List ℕ) → list_all is_dumped cs ≡ true → flat_map dumped_piece (map encoded cs) ≡ encode_utf8_all cs
utf8_pieces [] e = refl
utf8_pieces (c ∷ cs) e =
    let both = and_parts (is_dumped c) (list_all is_dumped cs) e in
    ap (λ (x : List ℕ). x ++ flat_map dumped_piece (map encoded cs)) (cond-true _ _ _ both.0)
    ∙ ap (λ (x : List ℕ). encode_utf8 c ++ x) (utf8_pieces cs both.1)

pub utf8_dump : (sets : Sets) (kind : TextKind) (cs : List ℕ) → IsUtf8InForce sets → all_scalars cs ≡ true → list_all is_dumped cs ≡ true
    → dumped sets kind (encode_utf8_all cs) ≡ encode_utf8_all cs
unfolding dumped
utf8_dump sets kind cs u s e = ap (flat_map dumped_piece) (chars_decoded sets kind cs u s) ∙ utf8_pieces cs e

utf8_cells : (cs : List ℕ) → flat_map cell_piece (map encoded cs) ≡ encode_utf8_all cs
utf8_cells [] = refl
utf8_cells (c ∷ cs) = ap (λ (x : List ℕ). encode_utf8 c ++ x) (utf8_cells cs)

pub utf8_cell : (sets : Sets) (kind : TextKind) (cs : List ℕ) → IsUtf8InForce sets → all_scalars cs ≡ true
    → cell sets kind (encode_utf8_all cs) ≡ encode_utf8_all cs
unfolding cell
utf8_cell sets kind cs u s = ap (flat_map cell_piece) (chars_decoded sets kind cs u s) ∙ utf8_cells cs
