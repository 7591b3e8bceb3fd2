-- A line of a dump means what it shows: value fields.
use Rattle.std.proofs.Common.{◌≡◌, ◌≤◌, ℕ, zero, suc, ◌<◌, ◌+◌, ◌/◌, ◌%◌, ◌^◌, List, [], ◌∷◌, ◌++◌, map, flat_map, Bool, true, false, ◌&&◌, ◌||◌, refl, sym, ◌∙◌, ap, subst, arith, append_assoc, decimal}
use Rattle.std.specs.Prelude.{if◌then◌else◌, ◌==◌, nat_lt, nat_le}
use Rattle.std.specs.Fmt.{digits}
use Rattle.std.specs.List.{join_with_byte, list_all}
use Rattle.std.specs.Int.Digits.{AllBelowBase, digits_of}
use Rattle.std.proofs.lemmas.Bool.Decides.{nat_tests}
use Rattle.std.proofs.lemmas.Fmt.{decimal-digits_of}
use Rattle.std.proofs.lemmas.Int.Digits.{all_below_base_digits_of}
use Rattle.dcm_lemmas.proofs.Choice.{if_false}
use Rattle.dcm_lemmas.proofs.Truth.{and_first, and_first_false, and_second, or_last_false}
use Rattle.dcm_base.specs.Dump.ValueText.{lower, upper, hex_byte, hex_word, tag_text, escape, escaped, bracketed}
use Rattle.dcm_base.specs.Lines.Line.{Field, field, with_front, value_field, through_bracket, through_parenthesis, up_to_space, at_space_or_end}
use Rattle.dcm_base.proofs.DumpsBack.Texts.{Bytes}
use Rattle.dcm_base.proofs.DumpsBack.Parts.{Each}

-- each byte has a property
abbrev pub Bytewise : (ℕ → Type 0) → List ℕ → Type 0
Bytewise P [] = Unit {0}
Bytewise P (c ∷ cs) = P c × Bytewise P cs

pub Bytewise-append : (P : ℕ → Type 0) (p q : List ℕ) → Bytewise P p → Bytewise P q → Bytewise P (p ++ q)
Bytewise-append P [] q h k = k
Bytewise-append P (c ∷ p) q h k = (h.0, Bytewise-append P p q h.1 k)

Bytewise-digits : (P : ℕ → Type 0) → ((d : ℕ) → d < 10 → P (48 + d)) → (ds : List ℕ) → AllBelowBase 10 ds → Bytewise P (map (λ d. 48 + d) ds)
Bytewise-digits P f [] h = tt
Bytewise-digits P f (d ∷ ds) h = (f d h.0, Bytewise-digits P f ds h.1)

pub Bytewise-decimal : (P : ℕ → Type 0) → ((d : ℕ) → d < 10 → P (48 + d)) → (n : ℕ) → n < 2 ^ 64 → Bytewise P (decimal n)
unfolding digits
Bytewise-decimal P f zero l = (f 0 (omega arith), tt)
Bytewise-decimal P f (suc n) l =
    subst (Bytewise P) (sym (decimal-digits_of (suc n) (omega arith) l)) (Bytewise-digits P f (digits_of 10 (suc n)) (all_below_base_digits_of 10 (suc n) (omega arith)))

pub Bytewise-hex : (P : ℕ → Type 0) → ((d : ℕ) → d < 16 → P (lower d)) → (w : List ℕ) → Bytes w → Bytewise P (flat_map hex_byte w)
Bytewise-hex P f [] h = tt
Bytewise-hex P f (b ∷ w) h = (f (b / 16) (omega (arith, h.0)), (f (b % 16) (omega arith), Bytewise-hex P f w h.1))

Bytewise-word : (P : ℕ → Type 0) → ((d : ℕ) → d < 16 → P (lower d)) → (n : ℕ) (r : List ℕ) → n < 65536 → Bytewise P r → Bytewise P (hex_word n ++ r)
Bytewise-word P f n r l h =
    (f (n / 256 / 16) (omega (arith, l)), (f (n / 256 % 16) (omega arith), (f (n % 256 / 16) (omega arith), (f (n % 256 % 16) (omega arith), h))))

-- ---- bytes that are no controls

abbrev pub IsPrinted : ℕ → Type 0
IsPrinted c = 32 ≤ c

least : (c : ℕ) → nat_le 32 c ≡ true → IsPrinted c
least c p = grind (arith, nat_tests, p)

pub printed_text : (cs : List ℕ) → list_all (λ c. nat_le 32 c) cs ≡ true → Bytewise IsPrinted cs
printed_text [] p = tt
printed_text (c ∷ cs) p = (least c (and_first (nat_le 32 c) _ p), printed_text cs (and_second (nat_le 32 c) _ p))

at_least : (c : ℕ) → IsPrinted c → nat_le 32 c ≡ true
at_least c l = grind (arith, nat_tests, l)

pub all_printed : (cs : List ℕ) → Bytewise IsPrinted cs → list_all (λ c. nat_le 32 c) cs ≡ true
all_printed [] h = refl
all_printed (c ∷ cs) h = let first : nat_le 32 c ≡ true = at_least c h.0 in let more : list_all (λ x. nat_le 32 x) cs ≡ true = all_printed cs h.1 in cc

lower_is_printed : (d : ℕ) → d < 16 → IsPrinted (lower d)
lower_is_printed d l = grind (arith, nat_tests)

upper_is_printed : (d : ℕ) → d < 16 → IsPrinted (upper d)
upper_is_printed d l = grind (arith, nat_tests)

pub tag_is_printed : (g e : ℕ) (r : List ℕ) → g < 65536 → e < 65536 → Bytewise IsPrinted r → Bytewise IsPrinted (tag_text g e ++ r)
tag_is_printed g e r l m h =
    (omega arith, Bytewise-word IsPrinted lower_is_printed g (44 ∷ (hex_word e ++ 41 ∷ r)) l (omega arith, Bytewise-word IsPrinted lower_is_printed e (41 ∷ r) m (omega arith, h)))

-- ---- fields

-- a display that a value field takes whole, and that is no space and no comment
pub record Shows (d : List ℕ) : Type 0 where
  pub first : ℕ
  pub more : List ℕ
  pub is : d ≡ first ∷ more
  pub no_space : (first == 32) ≡ false
  pub no_comment : (first == 35) ≡ false
  pub printed : Bytewise IsPrinted d
  pub field_is : (tail : List ℕ) → value_field (d ++ 32 ∷ tail) ≡ field d (32 ∷ tail)

abbrev pub IsNot : ℕ → ℕ → Type 0
IsNot b c = (c == b) ≡ false

-- up to a bracket
to_bracket : (p tail : List ℕ) → Bytewise (IsNot 93) p → through_bracket (p ++ 93 ∷ tail) ≡ field (p ++ 93 ∷ []) tail
to_bracket [] tail h = refl
to_bracket (c ∷ p) tail h = if_false (c == 93) _ _ h.0 ∙ ap (with_front c) (to_bracket p tail h.1)

upper_ends_not : (d : ℕ) → d < 16 → IsNot 93 (upper d)
upper_ends_not d l = grind (arith, nat_tests)

escape_ends_not : (b : ℕ) → b < 256 → Bytewise (IsNot 93) (escape b)
escape_ends_not b l = by_test (nat_lt b 32 || b == 127 || b == 37 || b == 93) refl
  where
    by_test : (t : Bool) → (nat_lt b 32 || b == 127 || b == 37 || b == 93) ≡ t → Bytewise (IsNot 93) (if t then 37 ∷ upper (b / 16) ∷ upper (b % 16) ∷ [] else b ∷ [])
    by_test true e = (refl, (upper_ends_not (b / 16) (omega (arith, l)), (upper_ends_not (b % 16) (omega arith), tt)))
    by_test false e = (or_last_false (nat_lt b 32) (b == 127) (b == 37) (b == 93) e, tt)

escaped_ends_not : (v : List ℕ) → Bytes v → Bytewise (IsNot 93) (escaped v)
escaped_ends_not [] h = tt
escaped_ends_not (b ∷ v) h = Bytewise-append (IsNot 93) (escape b) (escaped v) (escape_ends_not b h.0) (escaped_ends_not v h.1)

or_first : (a b c d : Bool) → (a || b || c || d) ≡ false → a ≡ false
or_first true b c d p = cc
or_first false b c d p = refl

pub escape_is_printed : (b : ℕ) → b < 256 → Bytewise IsPrinted (escape b)
escape_is_printed b l = by_test (nat_lt b 32 || b == 127 || b == 37 || b == 93) refl
  where
    no_control : (b : ℕ) → nat_lt b 32 ≡ false → 32 ≤ b
    no_control b e = grind (arith, nat_tests, e)

    by_test : (t : Bool) → (nat_lt b 32 || b == 127 || b == 37 || b == 93) ≡ t → Bytewise IsPrinted (if t then 37 ∷ upper (b / 16) ∷ upper (b % 16) ∷ [] else b ∷ [])
    by_test true e = (omega arith, (upper_is_printed (b / 16) (omega (arith, l)), (upper_is_printed (b % 16) (omega arith), tt)))
    by_test false e = (no_control b (or_first (nat_lt b 32) (b == 127) (b == 37) (b == 93) e), tt)

escaped_is_printed : (v : List ℕ) → Bytes v → Bytewise IsPrinted (escaped v)
escaped_is_printed [] h = tt
escaped_is_printed (b ∷ v) h = Bytewise-append IsPrinted (escape b) (escaped v) (escape_is_printed b h.0) (escaped_is_printed v h.1)

pub text_shows : (v : List ℕ) → Bytes v → Shows (bracketed v)
text_shows v h =
    record {
      first = 91;
      more = escaped v ++ 93 ∷ [];
      is = refl;
      no_space = refl;
      no_comment = refl;
      printed = (omega arith, Bytewise-append IsPrinted (escaped v) (93 ∷ []) (escaped_is_printed v h) (omega arith, tt));
      field_is = λ tail. ap (λ z. with_front 91 (through_bracket z)) (append_assoc (escaped v) (93 ∷ []) (32 ∷ tail)) ∙ ap (with_front 91) (to_bracket (escaped v) (32 ∷ tail) (escaped_ends_not v h));
    }

-- up to a space
to_space : (p tail : List ℕ) → Bytewise (IsNot 32) p → up_to_space (p ++ 32 ∷ tail) ≡ field p (32 ∷ tail)
to_space [] tail h = refl
to_space (c ∷ p) tail h = if_false (c == 32) _ _ h.0 ∙ ap (with_front c) (to_space p tail h.1)

-- no byte of it begins or ends another field
pub record IsPlain (c : ℕ) : Type 0 where
  pub no_space : (c == 32) ≡ false
  pub no_comment : (c == 35) ≡ false
  pub no_bracket : (c == 91) ≡ false
  pub no_parenthesis : (c == 40) ≡ false
  pub printed : IsPrinted c

without_space : (p : List ℕ) → Bytewise IsPlain p → Bytewise (IsNot 32) p
without_space [] h = tt
without_space (c ∷ p) h = (h.0.no_space, without_space p h.1)

printed_if_plain : (p : List ℕ) → Bytewise IsPlain p → Bytewise IsPrinted p
printed_if_plain [] h = tt
printed_if_plain (c ∷ p) h = (h.0.printed, printed_if_plain p h.1)

pub plain_shows : (c : ℕ) (p : List ℕ) → Bytewise IsPlain (c ∷ p) → Shows (c ∷ p)
plain_shows c p h =
    record {
      first = c;
      more = p;
      is = refl;
      no_space = h.0.no_space;
      no_comment = h.0.no_comment;
      printed = printed_if_plain (c ∷ p) h;
      field_is = λ tail. if_false (c == 91) _ _ h.0.no_bracket ∙ if_false (c == 40) _ _ h.0.no_parenthesis ∙ to_space (c ∷ p) tail (without_space (c ∷ p) h);
    }

digit_is_plain : (d : ℕ) → d < 10 → IsPlain (48 + d)
digit_is_plain d l = record { no_space = grind (arith, nat_tests); no_comment = grind (arith, nat_tests); no_bracket = grind (arith, nat_tests); no_parenthesis = grind (arith, nat_tests); printed = omega arith }

lower_is_plain : (d : ℕ) → d < 16 → IsPlain (lower d)
lower_is_plain d l = record { no_space = grind (arith, nat_tests); no_comment = grind (arith, nat_tests); no_bracket = grind (arith, nat_tests); no_parenthesis = grind (arith, nat_tests); printed = lower_is_printed d l }

pub decimal_is_plain : (n : ℕ) → n < 2 ^ 64 → Bytewise IsPlain (decimal n)
decimal_is_plain n l = Bytewise-decimal IsPlain digit_is_plain n l

pub minus_is_plain : (n : ℕ) → n < 2 ^ 64 → Bytewise IsPlain (45 ∷ decimal n)
minus_is_plain n l = (record { no_space = refl; no_comment = refl; no_bracket = refl; no_parenthesis = refl; printed = omega arith }, decimal_is_plain n l)

pub hex_is_plain : (w : List ℕ) → Bytes w → Bytewise IsPlain (flat_map hex_byte w)
hex_is_plain w h = Bytewise-hex IsPlain lower_is_plain w h

pub joined_is_plain : (write : List ℕ → List ℕ) (u : List ℕ) (us : List (List ℕ)) → Each (λ x. Bytewise IsPlain (write x)) (u ∷ us) → Bytewise IsPlain (join_with_byte 92 (map write (u ∷ us)))
joined_is_plain write u [] h = h.0
joined_is_plain write u (w ∷ us) h =
    Bytewise-append IsPlain (write u) (92 ∷ join_with_byte 92 (map write (w ∷ us))) h.0
    (record { no_space = refl; no_comment = refl; no_bracket = refl; no_parenthesis = refl; printed = omega arith }, joined_is_plain write w us h.1)

-- up to a parenthesis
past : List ℕ → Field → Field
past p f = field (p ++ f.value) f.rest

to_parenthesis : (p rest : List ℕ) → Bytewise (IsNot 41) p → through_parenthesis (p ++ rest) ≡ past p (through_parenthesis rest)
unfolding past
to_parenthesis [] rest h = refl
to_parenthesis (c ∷ p) rest h = if_false (c == 41 && at_space_or_end (p ++ rest)) _ _ (and_first_false (c == 41) _ h.0) ∙ ap (with_front c) (to_parenthesis p rest h.1)

lower_ends_not : (d : ℕ) → d < 16 → IsNot 41 (lower d)
lower_ends_not d l = grind (arith, nat_tests)

-- a tag without its closing parenthesis
abbrev pub tag_front : ℕ → ℕ → List ℕ
tag_front g e = 40 ∷ (hex_word g ++ 44 ∷ hex_word e)

tag_front_ends_not : (g e : ℕ) → g < 65536 → e < 65536 → Bytewise (IsNot 41) (tag_front g e)
tag_front_ends_not g e l m = (refl, Bytewise-word (IsNot 41) lower_ends_not g (44 ∷ hex_word e) l (refl, Bytewise-word (IsNot 41) lower_ends_not e [] m tt))

-- the text of a unit of four bytes
pub record IsTagText (t : List ℕ) : Type 0 where
  pub group : ℕ
  pub element : ℕ
  pub group_small : group < 65536
  pub element_small : element < 65536
  pub is : t ≡ tag_text group element

tag_ends : (t : List ℕ) → IsTagText t → (p : List ℕ) × (t ≡ p ++ 41 ∷ []) × Bytewise (IsNot 41) p
tag_ends t h = (tag_front h.group h.element, h.is, tag_front_ends_not h.group h.element h.group_small h.element_small)

module _ (write : List ℕ → List ℕ) where
  tags_to_parenthesis : (u : List ℕ) (us : List (List ℕ)) (tail : List ℕ) → Each (λ x. IsTagText (write x)) (u ∷ us)
      → through_parenthesis (join_with_byte 92 (map write (u ∷ us)) ++ 32 ∷ tail) ≡ field (join_with_byte 92 (map write (u ∷ us))) (32 ∷ tail)
  unfolding past
  tags_to_parenthesis u [] tail h =
      let e = tag_ends (write u) h.0 in
      ap (λ t. through_parenthesis (t ++ 32 ∷ tail)) e.1
      ∙ ap through_parenthesis (append_assoc e.0 (41 ∷ []) (32 ∷ tail))
      ∙ to_parenthesis e.0 (41 ∷ 32 ∷ tail) e.2
      ∙ ap (λ t. field t (32 ∷ tail)) (sym e.1)
  tags_to_parenthesis u (w ∷ us) tail h =
      let e = tag_ends (write u) h.0 in
      let j : List ℕ = join_with_byte 92 (map write (w ∷ us)) in
      ap through_parenthesis (append_assoc (write u) (92 ∷ j) (32 ∷ tail))
      ∙ ap (λ t. through_parenthesis (t ++ 92 ∷ (j ++ 32 ∷ tail))) e.1
      ∙ ap through_parenthesis (append_assoc e.0 (41 ∷ []) (92 ∷ (j ++ 32 ∷ tail)))
      ∙ to_parenthesis e.0 (41 ∷ 92 ∷ (j ++ 32 ∷ tail)) e.2
      ∙ ap (λ f. past e.0 (with_front 41 (with_front 92 f))) (tags_to_parenthesis w us tail h.1)
      ∙ ap (λ t. field t (32 ∷ tail)) (sym (append_assoc e.0 (41 ∷ []) (92 ∷ j)) ∙ ap (λ t. t ++ 92 ∷ j) (sym e.1))

  begins_with_tag : (u : List ℕ) (us : List (List ℕ)) → IsTagText (write u) → (more : List ℕ) × (join_with_byte 92 (map write (u ∷ us)) ≡ 40 ∷ more)
  begins_with_tag u [] h = (_, h.is)
  begins_with_tag u (w ∷ us) h = (_, ap (λ t. t ++ 92 ∷ join_with_byte 92 (map write (w ∷ us))) h.is)

  tags_are_printed : (u : List ℕ) (us : List (List ℕ)) → Each (λ x. IsTagText (write x)) (u ∷ us) → Bytewise IsPrinted (join_with_byte 92 (map write (u ∷ us)))
  tags_are_printed u [] h = subst (Bytewise IsPrinted) (sym h.0.is) (tag_is_printed h.0.group h.0.element [] h.0.group_small h.0.element_small tt)
  tags_are_printed u (w ∷ us) h =
      let j : List ℕ = join_with_byte 92 (map write (w ∷ us)) in
      subst (λ t. Bytewise IsPrinted (t ++ 92 ∷ j)) (sym h.0.is) (tag_is_printed h.0.group h.0.element (92 ∷ j) h.0.group_small h.0.element_small (omega arith, tags_are_printed w us h.1))

  pub tags_show : (u : List ℕ) (us : List (List ℕ)) → Each (λ x. IsTagText (write x)) (u ∷ us) → Shows (join_with_byte 92 (map write (u ∷ us)))
  tags_show u us h =
      let b = begins_with_tag u us h.0 in
      record {
        first = 40;
        more = b.0;
        is = b.1;
        no_space = refl;
        no_comment = refl;
        printed = tags_are_printed u us h;
        field_is = λ tail. ap (λ t. value_field (t ++ 32 ∷ tail)) b.1 ∙ ap (λ t. through_parenthesis (t ++ 32 ∷ tail)) (sym b.1) ∙ tags_to_parenthesis u us tail h;
      }
