-- The text of the tokens of values.
use Rattle.std.proofs.Common.{◌≡◌, ◌∙◌, ℕ, Bool, true, false, cond, List, [], ◌∷◌, ◌++◌, map, refl, sym, ap, ap₂, append_assoc}
use Rattle.std.specs.Prelude.{if◌then◌else◌, codes, flat_map}
use Rattle.std.specs.List.{concat, before_first, after_first}
use Rattle.std.proofs.lemmas.Grind.{flat_map-append}
use Rattle.dcm_lemmas.proofs.Truth.{and_true}
use Rattle.json.specs.Token.{Token, end_object, end_array, key, string, number, null}
use Rattle.json.specs.Print.{escape, escape_byte, print_from, quoted}
use Rattle.dcm_json.specs.declared.shape.TextShape.{TextShape}
use Rattle.dcm_json.specs.declared.shape.Group.{Group}
use Rattle.dcm_json.specs.declared.shape.Group.TheVariants.{Alphabetic, Ideographic, Phonetic}
use Rattle.dcm_json.specs.NumberText.{is_number}
use Rattle.dcm_json.specs.Shape.{group_key, is_names, is_numeric}
use Rattle.dcm_json.specs.Values.{group_opening, is_empty, null_or_digits}
use Rattle.dcm_json.specs.Texts.{Parts, array_of, is_equals, is_null, name_members, name_of, text_of, text_token, tokens_by, value_tokens, without_spaces}
use Rattle.dcm_json.proofs.NameSteps.{commas, enclosed, no_texts, texts_from}

-- a comma stands behind another value
abbrev pub comma : Bool → List ℕ
comma after = cond after (44 ∷ []) []

-- ---- members of a name, by their keys and texts

abbrev pub Pairs : Type 0
Pairs = List (List ℕ × List ℕ)

abbrev pair_of : Bool → Group → List ℕ → Pairs
pair_of is_none group text = if is_none then [] else (group_key group, text) ∷ []

abbrev tokens_of : Pairs → List Token
tokens_of pairs = flat_map (λ (p : List ℕ × List ℕ). key p.0 ∷ string p.1 ∷ []) pairs

abbrev text_of_pair : (List ℕ × List ℕ) → List ℕ
text_of_pair p = quoted p.0 ++ (58 ∷ quoted p.1)

abbrev texts_of : Pairs → List (List ℕ)
texts_of pairs = map text_of_pair pairs

pairs_tokens : (t : Bool) (group : Group) (text : List ℕ) → (if t then [] else key (group_key group) ∷ string text ∷ []) ≡ tokens_of (pair_of t group text)
pairs_tokens true group text = refl
pairs_tokens false group text = refl

opening_is : (group : Group) (text : List ℕ) → group_opening group ++ (escape text ++ codes "\"") ≡ text_of_pair (group_key group, text)
unfolding escape_byte
opening_is Alphabetic text = refl
opening_is Ideographic text = refl
opening_is Phonetic text = refl

pairs_texts : (t : Bool) (group : Group) (text : List ℕ) → (if t then [] else (group_opening group ++ (escape text ++ codes "\"")) ∷ []) ≡ texts_of (pair_of t group text)
pairs_texts true group text = refl
pairs_texts false group text = ap (λ (x : List ℕ). x ∷ []) (opening_is group text)

abbrev pair_at : Group → Parts → Pairs
pair_at group w = pair_of (is_empty (text_of w)) group (text_of w)

abbrev pairs_of : Parts → Pairs
pairs_of w =
    let rest : Parts = after_first is_equals w in
    pair_at Alphabetic (before_first is_equals w) ++ (pair_at Ideographic (before_first is_equals rest) ++ pair_at Phonetic (after_first is_equals rest))

map-append : (a b : Pairs) → texts_of (a ++ b) ≡ texts_of a ++ texts_of b
map-append [] b = refl
map-append (x ∷ a) b = ap (λ (t : List (List ℕ)). text_of_pair x ∷ t) (map-append a b)

members_are : (w : Parts) → name_members w ≡ tokens_of (pairs_of w)
members_are w =
    let rest : Parts = after_first is_equals w in
    let one : Parts = before_first is_equals w in
    let two : Parts = before_first is_equals rest in
    let three : Parts = after_first is_equals rest in
    let toks : (List ℕ × List ℕ) → List Token = λ p. key p.0 ∷ string p.1 ∷ [] in
    ap₂ (λ (a b : List Token). a ++ b) (pairs_tokens (is_empty (text_of one)) Alphabetic (text_of one))
    (ap₂ (λ (a b : List Token). a ++ b) (pairs_tokens (is_empty (text_of two)) Ideographic (text_of two)) (pairs_tokens (is_empty (text_of three)) Phonetic (text_of three))
    ∙ sym (flat_map-append toks (pair_at Ideographic two) (pair_at Phonetic three)))
    ∙ sym (flat_map-append toks (pair_at Alphabetic one) (pair_at Ideographic two ++ pair_at Phonetic three))

texts_are : (w : Parts) → texts_from Alphabetic w ≡ texts_of (pairs_of w)
texts_are w =
    let rest : Parts = after_first is_equals w in
    let one : Parts = before_first is_equals w in
    let two : Parts = before_first is_equals rest in
    let three : Parts = after_first is_equals rest in
    ap₂ (λ (a b : List (List ℕ)). a ++ b) (pairs_texts (is_empty (text_of one)) Alphabetic (text_of one))
    (ap₂ (λ (a b : List (List ℕ)). a ++ b) (pairs_texts (is_empty (text_of two)) Ideographic (text_of two)) (pairs_texts (is_empty (text_of three)) Phonetic (text_of three))
    ∙ sym (map-append (pair_at Ideographic two) (pair_at Phonetic three)))
    ∙ sym (map-append (pair_at Alphabetic one) (pair_at Ideographic two ++ pair_at Phonetic three))

-- behind another member
print_later : (pairs : Pairs) (ts : List Token) → print_from true (tokens_of pairs ++ ts) ≡ commas (texts_of pairs) ++ print_from true ts
unfolding print_from
print_later [] ts = refl
print_later (p ∷ pairs) ts =
    ap (λ (x : List ℕ). 44 ∷ ((quoted p.0 ++ 58 ∷ []) ++ (quoted p.1 ++ x))) (print_later pairs ts)
    ∙ joined (quoted p.0) (quoted p.1) (commas (texts_of pairs)) (print_from true ts)
  where
    joined : (k s c r : List ℕ) → 44 ∷ ((k ++ 58 ∷ []) ++ (s ++ (c ++ r))) ≡ ((44 ∷ (k ++ (58 ∷ s))) ++ c) ++ r
    joined k s c r = simp append_assoc

print_first : (p : List ℕ × List ℕ) (pairs : Pairs) (ts : List Token) → print_from false (tokens_of (p ∷ pairs) ++ ts) ≡ text_of_pair p ++ (commas (texts_of pairs) ++ print_from true ts)
unfolding print_from
print_first p pairs ts =
    ap (λ (x : List ℕ). (quoted p.0 ++ 58 ∷ []) ++ (quoted p.1 ++ x)) (print_later pairs ts)
    ∙ joined (quoted p.0) (quoted p.1) (commas (texts_of pairs) ++ print_from true ts)
  where
    joined : (k s r : List ℕ) → (k ++ 58 ∷ []) ++ (s ++ r) ≡ (k ++ (58 ∷ s)) ++ r
    joined k s r = simp append_assoc

-- ---- one value

abbrev pub value_text : TextShape → Parts → List ℕ
value_text shape w = if is_names shape then enclosed (texts_from Alphabetic w) else null_or_digits shape (concat (without_spaces (is_numeric shape) w))

print_pairs : (c : Bool) (pairs : Pairs) (ts : List Token) → print_from c (name_of (tokens_of pairs) ++ ts) ≡ comma c ++ (enclosed (texts_of pairs) ++ print_from true ts)
unfolding print_from
print_pairs c [] ts = ap (λ (t : Bool). cond t (44 ∷ []) [] ++ (codes "null" ++ print_from true ts)) (and_true c)
print_pairs c (p ∷ pairs) ts =
    ap (λ (t : Bool). cond t (44 ∷ []) [] ++ (123 ∷ print_from false ((tokens_of (p ∷ pairs) ++ end_object ∷ []) ++ ts))) (and_true c)
    ∙ ap (λ (x : List ℕ). comma c ++ (123 ∷ x)) (ap (print_from false) (append_assoc (tokens_of (p ∷ pairs)) (end_object ∷ []) ts) ∙ print_first p pairs (end_object ∷ ts) ∙ joined (text_of_pair p) (commas (texts_of pairs)) (print_from true ts))
  where
    joined : (t c r : List ℕ) → t ++ (c ++ (125 ∷ r)) ≡ (t ++ (c ++ 125 ∷ [])) ++ r
    joined t c r = simp append_assoc

print_text : (c : Bool) (shape : TextShape) (text : List ℕ) (ts : List Token) → print_from c (text_token shape text ∷ ts) ≡ comma c ++ (null_or_digits shape text ++ print_from true ts)
unfolding print_from
print_text c shape text ts = by_tests (is_empty text) (is_number shape text)
  where
    by_tests : (e n : Bool) → print_from c ((if e then null else if n then number text else string text) ∷ ts) ≡ comma c ++ ((if e then codes "null" else if n then text else quoted text) ++ print_from true ts)
    by_tests true n = ap (λ (t : Bool). cond t (44 ∷ []) [] ++ (codes "null" ++ print_from true ts)) (and_true c)
    by_tests false true = ap (λ (t : Bool). cond t (44 ∷ []) [] ++ (text ++ print_from true ts)) (and_true c)
    by_tests false false = ap (λ (t : Bool). cond t (44 ∷ []) [] ++ (quoted text ++ print_from true ts)) (and_true c)

pub print_value : (c : Bool) (shape : TextShape) (w : Parts) (ts : List Token) → print_from c (value_tokens shape w ++ ts) ≡ comma c ++ (value_text shape w ++ print_from true ts)
print_value c shape w ts = by_names (is_names shape)
  where
    by_names : (t : Bool) → print_from c (tokens_by t shape w ++ ts)
        ≡ comma c ++ ((if t then enclosed (texts_from Alphabetic w) else null_or_digits shape (concat (without_spaces (is_numeric shape) w))) ++ print_from true ts)
    by_names true =
        ap (λ (m : List Token). print_from c (name_of m ++ ts)) (members_are w) ∙ print_pairs c (pairs_of w) ts
        ∙ ap (λ (x : List (List ℕ)). comma c ++ (enclosed x ++ print_from true ts)) (sym (texts_are w))
    by_names false = print_text c shape (concat (without_spaces (is_numeric shape) w)) ts

-- a name without members
pub null_name : (w : Parts) → is_null (name_of (name_members w)) ≡ no_texts (texts_from Alphabetic w)
null_name w = ap (λ (m : List Token). is_null (name_of m)) (members_are w) ∙ by_pairs (pairs_of w) ∙ ap no_texts (sym (texts_are w))
  where
    by_pairs : (pairs : Pairs) → is_null (name_of (tokens_of pairs)) ≡ no_texts (texts_of pairs)
    by_pairs [] = refl
    by_pairs (p ∷ pairs) = refl

pub null_text : (shape : TextShape) (text : List ℕ) → is_null (text_token shape text ∷ []) ≡ is_empty text
null_text shape text = by_tests (is_empty text) (is_number shape text)
  where
    by_tests : (e n : Bool) → is_null ((if e then null else if n then number text else string text) ∷ []) ≡ e
    by_tests true n = refl
    by_tests false true = refl
    by_tests false false = refl

-- ---- an array

pub print_rest : (shape : TextShape) (ws : List Parts) → print_from true (flat_map (λ (tokens : List Token). tokens) (map (value_tokens shape) ws) ++ end_array ∷ [])
    ≡ flat_map (λ (w : Parts). codes "," ++ value_text shape w) ws ++ codes "]"
unfolding print_from
print_rest shape [] = refl
print_rest shape (w ∷ ws) =
    let others : List Token = flat_map (λ (tokens : List Token). tokens) (map (value_tokens shape) ws) in
    ap (print_from true) (append_assoc (value_tokens shape w) others (end_array ∷ []))
    ∙ print_value true shape w (others ++ end_array ∷ [])
    ∙ ap (λ (x : List ℕ). 44 ∷ (value_text shape w ++ x)) (print_rest shape ws)
    ∙ sym (append_assoc (44 ∷ value_text shape w) (flat_map (λ (w : Parts). codes "," ++ value_text shape w) ws) (codes "]"))

pub print_array : (shape : TextShape) (w : Parts) (ws : List Parts) → print_from true (array_of (map (value_tokens shape) (w ∷ ws)))
    ≡ (codes ",\"Value\":[" ++ value_text shape w) ++ (flat_map (λ (w : Parts). codes "," ++ value_text shape w) ws ++ codes "]")
unfolding print_from escape_byte
print_array shape w ws =
    let others : List Token = flat_map (λ (tokens : List Token). tokens) (map (value_tokens shape) ws) in
    ap (λ (x : List ℕ). codes ",\"Value\":[" ++ x)
    (ap (print_from false) (append_assoc (value_tokens shape w) others (end_array ∷ []))
    ∙ print_value false shape w (others ++ end_array ∷ [])
    ∙ ap (λ (x : List ℕ). value_text shape w ++ x) (print_rest shape ws))
    ∙ sym (append_assoc (codes ",\"Value\":[") (value_text shape w) (flat_map (λ (w : Parts). codes "," ++ value_text shape w) ws ++ codes "]"))
