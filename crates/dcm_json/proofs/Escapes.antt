-- What stands in a string for its bytes.
use Rattle.std.proofs.Common.{◌≡◌, ◌≤◌, ◌<◌, ℕ, ◌==◌, ◌||◌, true, List, [], ◌∷◌, ◌++◌, take, drop, refl, sym, ap, ap₂, ◌∙◌}
use Rattle.std.specs.Prelude.{nat_lt, flat_map}
use Rattle.std.specs.List.{list_all}
use Rattle.std.proofs.lemmas.Bool.{and_parts, eqb-false, ltb-false, lt-ltb, le-ltb}
use Rattle.std.proofs.lemmas.Grind.{flat_map-append}
use Rattle.std.proofs.lemmas.List.{take-append-drop}
use Rattle.dcm_lemmas.proofs.Truth.{or_parts, not_true}
use Rattle.dcm_base.specs.Dump.ValueText.{hex_byte}
use Rattle.json.specs.Print.{escape, escape_byte, escape_letter}
use Rattle.json.proofs.Printed.Strings.{escape_byte_plain}
use Rattle.dcm_json.specs.Escaped.{is_plain_byte, plain_size}
use Rattle.dcm_json.proofs.PlainFronts.{front_plain}

-- ---- one byte

pub escaped_by_letter : (b l : ℕ) → l ≡ escape_letter b → 0 < l → 92 ∷ l ∷ [] ≡ escape_byte b
unfolding escape_byte
escaped_by_letter b l e h = rw (sym e, lt-ltb 0 l h) refl

pub escaped_as_itself : (b l : ℕ) → l ≡ escape_letter b → l ≡ 0 → 32 ≤ b → b ∷ [] ≡ escape_byte b
unfolding escape_byte
escaped_as_itself b l e z h = rw (sym e, z, le-ltb b 32 h) refl

pub escaped_by_number : (b l : ℕ) → l ≡ escape_letter b → l ≡ 0 → b < 32 → 92 ∷ 117 ∷ 48 ∷ 48 ∷ hex_byte b ≡ escape_byte b
unfolding escape_byte
escaped_by_number b l e z h = rw (sym e, z, lt-ltb b 32 h) refl

-- ---- plain bytes

plain_itself : (b : ℕ) → is_plain_byte b ≡ true → escape_byte b ≡ b ∷ []
plain_itself b e =
    let low = or_parts (nat_lt b 32 || b == 34) (b == 92) (not_true _ e) in
    let high = or_parts (nat_lt b 32) (b == 34) low.0 in
    escape_byte_plain b (eqb-false b 34 high.1) (eqb-false b 92 low.1) (ltb-false b 32 high.0)

pub plain_escaped : (v : List ℕ) → list_all is_plain_byte v ≡ true → escape v ≡ v
plain_escaped [] e = refl
plain_escaped (b ∷ bs) e =
    let both = and_parts (is_plain_byte b) (list_all is_plain_byte bs) e in
    ap₂ (λ (x y : List ℕ). x ++ y) (plain_itself b both.0) (plain_escaped bs both.1)

-- a run of them, and what is behind
pub escape_run : (rest run after : List ℕ) (n : ℕ) → n ≡ plain_size rest → run ≡ take n rest → after ≡ drop n rest → escape rest ≡ run ++ escape after
escape_run rest run after n is r a =
    let plain : list_all is_plain_byte run ≡ true = ap (list_all is_plain_byte) (r ∙ ap (λ (k : ℕ). take k rest) is) ∙ front_plain rest in
    let whole : run ++ after ≡ rest = ap₂ (λ (x y : List ℕ). x ++ y) r a ∙ take-append-drop n rest in
    ap escape (sym whole) ∙ flat_map-append escape_byte run after ∙ ap (λ (x : List ℕ). x ++ escape after) (plain_escaped run plain)

-- ---- pieces

pub in_pieces : (pieces : List (List ℕ)) → flat_map escape pieces ≡ escape (flat_map (λ (piece : List ℕ). piece) pieces)
in_pieces [] = refl
in_pieces (p ∷ pieces) =
    ap (λ (x : List ℕ). escape p ++ x) (in_pieces pieces)
    ∙ sym (flat_map-append escape_byte p (flat_map (λ (piece : List ℕ). piece) pieces))
