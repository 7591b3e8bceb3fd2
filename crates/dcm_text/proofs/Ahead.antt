-- Characters in front of a text in UTF-8 that a dump shows as they are.
use Rattle.std.proofs.Common.{◌≡◌, ℕ, ◌+◌, ◌-◌, ◌*◌, ◌/◌, ◌%◌, ◌≤◌, Bool, true, false, cond, List, [], ◌∷◌, ◌++◌, length, take, drop, map, Option, Some, None}
use Rattle.std.proofs.Common.{refl, sym, ap, zero, suc, subst, ◌∙◌, arith, append_assoc}
use Rattle.std.specs.Prelude.{◌==◌, ◌&&◌, not, slice_index_or, encode_utf8_all}
use Rattle.std.specs.Char.{encode_utf8}
use Rattle.std.specs.List.{list_all}
use Rattle.std.specs.Str.{all_scalars}
use Rattle.std.proofs.Math.Seq.{take-append_seam, drop-append_seam}
use Rattle.std.proofs.lemmas.Bool.{cond-true, cond-false, and_parts}
use Rattle.std.proofs.lemmas.Bool.Decides.{nat_tests}
use Rattle.std.proofs.lemmas.List.{length-append, take_rest}
use Rattle.std.proofs.lemmas.Str.{encode_ascii}
use lib.Dec.{ltb}
use lib.Utf8.{scalar}
use Rattle.dcm_lemmas.proofs.Truth.{not_true}
use Rattle.dcm_text.specs.declared.set.Halves.{Halves}
use Rattle.dcm_text.specs.declared.set.TextKind.{TextKind}
use Rattle.dcm_text.specs.declared.sets.Sets.{Sets}
use Rattle.dcm_text.specs.Ascii.{is_ascii_byte}
use Rattle.dcm_text.specs.Characters.{is_between, number_utf8, character_utf8, low_bits}
use Rattle.dcm_text.specs.Decoding.{Piece, decoded_from}
use Rattle.dcm_text.specs.First.{start_of}
use Rattle.dcm_text.specs.Fronts.{is_shown, IsShown, IsBehind, AreBehind, ArePassed}
use Rattle.dcm_text.specs.Laws.{IsUtf8InForce, encoded}
use Rattle.dcm_text.specs.Shown.{is_dumped, is_hidden}
use Rattle.dcm_text.proofs.Gaps.{of_ascii}
use Rattle.dcm_text.proofs.Utf8.{number_of_two, number_of_three, chars_ahead}

-- ---- one character

shown_as : (s t u : Bool) → s ≡ false → t ≡ false → u ≡ false → (not s && not t && not u) ≡ true
shown_as s t u e f g = ap (λ (x : Bool). not x && not t && not u) e ∙ ap (λ (x : Bool). not x && not u) f ∙ ap not g

pub one_shown : (b : ℕ) → is_between 0x20 0x7E b ≡ true → (b ≡ 37 → ⊥) → not (b == 93) ≡ true → IsShown (b ∷ [])
one_shown b i p q =
    let l : 0x20 ≤ b = grind (arith, nat_tests) in
    let m : b ≤ 0x7E = grind (arith, nat_tests) in
    record {
      character = b;
      is_scalar = grind (arith, nat_tests);
      is_dumped = shown_as (b == 37) (b == 93) (is_hidden b) (grind (arith, nat_tests)) (not_true (b == 93) q) (of_ascii b l m);
      is_bytes = encode_ascii b (omega arith);
    }

-- a number is a character, where it is shown
abbrev pub numbered_as : ℕ → Bool → Option ℕ
numbered_as n t = cond t (Some n) None

shown_number : (n : ℕ) (bytes : List ℕ) → encode_utf8 n ≡ bytes → (t : Bool) → scalar n ≡ t → is_shown (numbered_as n t) ≡ true → IsShown bytes
shown_number n bytes e true s h = record { character = n; is_scalar = s; is_dumped = h; is_bytes = e }
shown_number n bytes e false s h = absurd (let no : false ≡ true → ⊥ = λ x. cc in no h)

two_bytes : (n a b : ℕ) → 0xC2 ≤ a → a ≤ 0xDF → 0x80 ≤ b → b ≤ 0xBF → n ≡ (a - 0xC0) * 64 + low_bits b → encode_utf8 n ≡ a ∷ b ∷ []
unfolding encode_utf8
two_bytes n a b l m p q e =
    cond-false _ _ _ (let t : ltb n 128 ≡ false = grind (arith, nat_tests) in t)
    ∙ cond-true _ _ _ (let t : ltb n 2048 ≡ true = grind (arith, nat_tests) in t)
    ∙ ap (λ (x : ℕ). x ∷ (128 + n % 64) ∷ []) (let x : 192 + n / 64 ≡ a = omega arith in x)
    ∙ ap (λ (x : ℕ). a ∷ x ∷ []) (let x : 128 + n % 64 ≡ b = omega arith in x)

pub two_shown : (a b : ℕ) → is_between 0xC2 0xDF a ≡ true → is_between 0x80 0xBF b ≡ true → is_shown (character_utf8 a b 0 0) ≡ true
    → IsShown (a ∷ b ∷ [])
unfolding character_utf8
two_shown a b i j h =
    let n = number_utf8 a b 0 0 in
    let l : 0xC2 ≤ a = grind (arith, nat_tests) in
    let m : a ≤ 0xDF = grind (arith, nat_tests) in
    let p : 0x80 ≤ b = grind (arith, nat_tests) in
    let q : b ≤ 0xBF = grind (arith, nat_tests) in
    shown_number n (a ∷ b ∷ []) (two_bytes n a b l m p q (number_of_two a b 0 0 (omega arith))) (scalar n) refl h

three_bytes : (n a b c : ℕ) → 0xE1 ≤ a → a ≤ 0xEF → 0x80 ≤ b → b ≤ 0xBF → 0x80 ≤ c → c ≤ 0xBF
    → n ≡ ((a - 0xE0) * 64 + low_bits b) * 64 + low_bits c → encode_utf8 n ≡ a ∷ b ∷ c ∷ []
unfolding encode_utf8
three_bytes n a b c l m p q r s e =
    cond-false _ _ _ (let t : ltb n 128 ≡ false = grind (arith, nat_tests) in t)
    ∙ cond-false _ _ _ (let t : ltb n 2048 ≡ false = grind (arith, nat_tests) in t)
    ∙ cond-true _ _ _ (let t : ltb n 65536 ≡ true = grind (arith, nat_tests) in t)
    ∙ ap (λ (x : ℕ). x ∷ (128 + (n / 64) % 64) ∷ (128 + n % 64) ∷ []) (let x : 224 + n / 4096 ≡ a = omega arith in x)
    ∙ ap (λ (x : ℕ). a ∷ x ∷ (128 + n % 64) ∷ []) (let x : 128 + (n / 64) % 64 ≡ b = omega arith in x)
    ∙ ap (λ (x : ℕ). a ∷ b ∷ x ∷ []) (let x : 128 + n % 64 ≡ c = omega arith in x)

pub three_shown : (a b c : ℕ) → (is_between 0xE1 0xEF a && not (a == 0xED)) ≡ true → is_between 0x80 0xBF b ≡ true → is_between 0x80 0xBF c ≡ true
    → is_shown (character_utf8 a b c 0) ≡ true → IsShown (a ∷ b ∷ c ∷ [])
unfolding character_utf8
three_shown a b c i j k h =
    let n = number_utf8 a b c 0 in
    let first = (and_parts (is_between 0xE1 0xEF a) (not (a == 0xED)) i).0 in
    let l : 0xE1 ≤ a = grind (arith, nat_tests) in
    let m : a ≤ 0xEF = grind (arith, nat_tests) in
    let p : 0x80 ≤ b = grind (arith, nat_tests) in
    let q : b ≤ 0xBF = grind (arith, nat_tests) in
    let r : 0x80 ≤ c = grind (arith, nat_tests) in
    let s : c ≤ 0xBF = grind (arith, nat_tests) in
    shown_number n (a ∷ b ∷ c ∷ []) (three_bytes n a b c l m p q r s (number_of_three a b c 0 (omega arith) (omega arith))) (scalar n) refl h

-- ---- characters in front

-- a text is its first byte and those after it
pub after_first : (text : List ℕ) → 1 ≤ length text → text ≡ slice_index_or text 0 0 ∷ take (length text - 1) (drop 1 text)
after_first [] l = absurd (omega (arith, l))
after_first (b ∷ bs) l = ap (λ (x : List ℕ). b ∷ x) (sym (take_rest (b ∷ bs) 1))

pub none_behind : (text : List ℕ) → AreBehind text text
none_behind text = record { characters = []; are_scalars = refl; are_dumped = refl; whole = refl }

pub one_more : (text mid after : List ℕ) → IsBehind text mid → AreBehind mid after → AreBehind text after
one_more text mid after one more =
    let c = one.is_shown.character in
    record {
      characters = c ∷ more.characters;
      are_scalars = ap (λ (t : Bool). t && all_scalars more.characters) one.is_shown.is_scalar ∙ more.are_scalars;
      are_dumped = ap (λ (t : Bool). t && list_all is_dumped more.characters) one.is_shown.is_dumped ∙ more.are_dumped;
      whole =
          one.whole ∙ ap (λ (x : List ℕ). x ++ mid) (sym one.is_shown.is_bytes) ∙ ap (λ (x : List ℕ). encode_utf8 c ++ x) more.whole
          ∙ sym (append_assoc (encode_utf8 c) (encode_utf8_all more.characters) after);
    }

-- one of them
pub one_behind : (text after : List ℕ) → IsBehind text after → AreBehind text after
one_behind text after one = one_more text after after one (none_behind after)

-- these, and as many as there are behind them
so_many : (cs : List ℕ) (text mid after : List ℕ) → all_scalars cs ≡ true → list_all is_dumped cs ≡ true → text ≡ encode_utf8_all cs ++ mid
    → AreBehind mid after → AreBehind text after
so_many [] text mid after s d w more = subst (λ (t : List ℕ). AreBehind t after) (sym w) more
so_many (c ∷ cs) text mid after s d w more =
    let scalars = and_parts (scalar c) (all_scalars cs) s in
    let dumped = and_parts (is_dumped c) (list_all is_dumped cs) d in
    let rest : List ℕ = encode_utf8_all cs ++ mid in
    let shown : IsShown (encode_utf8 c) = record { character = c; is_scalar = scalars.0; is_dumped = dumped.0; is_bytes = refl } in
    let one : IsBehind text rest = record {
      front = encode_utf8 c;
      is_shown = shown;
      whole = w ∙ append_assoc (encode_utf8 c) (encode_utf8_all cs) mid;
    } in
    one_more text rest after one (so_many cs rest mid after scalars.1 dumped.1 refl more)

pub many_more : (text mid after : List ℕ) → AreBehind text mid → AreBehind mid after → AreBehind text after
many_more text mid after many more = so_many many.characters text mid after many.are_scalars many.are_dumped many.whole more

-- a text whose first byte is a character
pub one_front : (text rest : List ℕ) → 1 ≤ length text → IsShown (slice_index_or text 0 0 ∷ [])
    → AreBehind (take (length text - 1) (drop 1 text)) rest → AreBehind text rest
one_front text rest l shown more =
    let after : List ℕ = take (length text - 1) (drop 1 text) in
    let one : IsBehind text after = record { front = slice_index_or text 0 0 ∷ []; is_shown = shown; whole = after_first text l } in
    one_more text after rest one more

-- the same of one of more bytes, where there is one in front
pub few_front : (text : List ℕ) (rest : List ℕ) → 1 ≤ length text
    → IsBehind (slice_index_or text 0 0 ∷ take (length text - 1) (drop 1 text)) rest → AreBehind text rest
few_front text rest l one = one_behind text rest (subst (λ (t : List ℕ). IsBehind t rest) (sym (after_first text l)) one)

-- ---- bytes of ASCII in front

one_ascii : (b : ℕ) → is_ascii_byte b ≡ true → IsShown (b ∷ [])
one_ascii b i = one_shown b (grind (arith, nat_tests)) (grind (arith, nat_tests)) (grind (arith, nat_tests))

pub ascii_behind : (n : ℕ) (v : List ℕ) → list_all is_ascii_byte (take n v) ≡ true → AreBehind v (drop n v)
ascii_behind zero v e = none_behind v
ascii_behind (suc n) [] e = none_behind []
ascii_behind (suc n) (b ∷ bs) e =
    let both = and_parts (is_ascii_byte b) (list_all is_ascii_byte (take n bs)) e in
    let one : IsBehind (b ∷ bs) bs = record { front = b ∷ []; is_shown = one_ascii b both.0; whole = refl } in
    one_more (b ∷ bs) bs (drop n bs) one (ascii_behind n bs both.1)

-- they are the pieces in front of what is behind them
pub are_passed : (sets : Sets) (kind : TextKind) (halves : Halves) (text window others after : List ℕ) (size : ℕ)
    → IsUtf8InForce sets → halves ≡ start_of sets → text ≡ window ++ others → AreBehind window after → size + length after ≡ length window
    → ArePassed (decoded_from sets kind halves text) (decoded_from sets kind halves (drop size text)) (take size text)
are_passed sets kind halves text window others after size u h w b s =
    let bytes : List ℕ = encode_utf8_all b.characters in
    let rest : List ℕ = after ++ others in
    let whole : text ≡ bytes ++ rest = w ∙ ap (λ (x : List ℕ). x ++ others) b.whole ∙ append_assoc bytes after others in
    let length_is : size ≡ length bytes = omega (arith, s, ap length b.whole, length-append bytes after) in
    let front : take size text ≡ bytes = ap (λ (n : ℕ). take n text) length_is ∙ ap (take (length bytes)) whole ∙ take-append_seam bytes rest in
    let back : drop size text ≡ rest = ap (λ (n : ℕ). drop n text) length_is ∙ ap (drop (length bytes)) whole ∙ drop-append_seam bytes rest in
    let start : Halves = start_of sets in
    record {
      characters = b.characters;
      are_dumped = b.are_dumped;
      are_bytes = sym front;
      pieces =
          ap (λ (x : Halves). decoded_from sets kind x text) h
          ∙ ap (decoded_from sets kind start) whole
          ∙ chars_ahead sets kind b.characters rest u b.are_scalars
          ∙ ap (λ (x : Halves). map encoded b.characters ++ decoded_from sets kind x rest) (sym h)
          ∙ ap (λ (x : List ℕ). map encoded b.characters ++ decoded_from sets kind halves x) (sym back);
    }

pub none_passed : (old new : List Piece) (bytes : List ℕ) → old ≡ new → bytes ≡ [] → ArePassed old new bytes
none_passed old new bytes e f = record { characters = []; are_dumped = refl; are_bytes = sym f; pieces = e }
