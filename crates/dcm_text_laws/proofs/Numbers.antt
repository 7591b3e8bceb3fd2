-- What a dump shows of numbers, tags and bytes is ASCII.
use Rattle.std.proofs.Common.{◌≡◌, ℕ, zero, suc, ◌+◌, ◌-◌, ◌*◌, ◌/◌, ◌%◌, ◌^◌, ◌<◌, ◌≤◌, List, [], ◌∷◌, ◌++◌, length, take, drop, Bool, true, false, arith}
use Rattle.std.specs.Prelude.{◌==◌, nat_lt, if◌then◌else◌, decimal, codes, map, flat_map, reverse, IsAscii}
use Rattle.std.specs.Fmt.{digit_glyph, digits, digits_onto}
use Rattle.std.specs.List.{join_with_byte}
use Rattle.std.proofs.lemmas.List.{length-take, length-drop}
use Rattle.std.proofs.lemmas.Str.{IsAscii-append}
use Rattle.std.proofs.lemmas.Str.Ascii.{IsAscii-nil, IsAscii-cons}
use Rattle.dcm_base.specs.declared.vr.Vr.{Vr}
use Rattle.dcm_base.specs.declared.vr.Vr.TheVariants.{AT}
use Rattle.dcm_base.specs.Dump.ValueText.{Shape, text, identifier, unsigned, signed, tags, hexadecimal, shape, shown_unit, lower, hex_byte, hex_word, tag_text, unit_text, units_text}
use Rattle.dcm_base.specs.Lines.ReadValue.{takes_bytes}
use Rattle.dcm_base.specs.Tables.Number.{IsTag}
use Rattle.dcm_base.specs.declared.tag.Tag.{Tag}
use Rattle.dcm_base.specs.Tree.Value.{number_of, pieces}
use Rattle.dcm_base.proofs.DumpsBack.Texts.{Bytes}
use Rattle.dcm_base.proofs.DumpsBack.Numbers.{Bytes-reverse}
use Rattle.dcm_base.proofs.DumpsBack.Parts.{Bytes-take, Bytes-drop}
use Rattle.dcm_table.proofs.ValidTexts.{digit_low}

pub either : (t : Bool) (a b : List ℕ) → IsAscii a → IsAscii b → IsAscii (if t then a else b)
either true a b h k = h
either false a b h k = k

-- ---- decimals, of whatever number

glyph_low : (n : ℕ) → digit_glyph false (n % 10) < 128
glyph_low n = go (nat_lt (n % 10) 10)
  where
    go : (t : Bool) → (if t then 48 + n % 10 else 87 + n % 10) < 128
    go true = omega arith
    go false = omega arith

onto_ascii : (k n : ℕ) (behind : List ℕ) → IsAscii behind → IsAscii (digits_onto k 10 false n behind)
onto_ascii zero n behind h = h
onto_ascii (suc k) n behind h =
    let one : IsAscii (digit_glyph false (n % 10) ∷ behind) = IsAscii-cons (digit_glyph false (n % 10)) behind (glyph_low n) h in
    either (n / 10 == 0) (digit_glyph false (n % 10) ∷ behind) (digits_onto k 10 false (n / 10) (digit_glyph false (n % 10) ∷ behind)) one (onto_ascii k (n / 10) (digit_glyph false (n % 10) ∷ behind) one)

pub decimal_ascii : (n : ℕ) → IsAscii (decimal n)
unfolding digits
decimal_ascii n = onto_ascii 64 n [] IsAscii-nil

-- ---- hexadecimal digits

byte_ascii : (b : ℕ) → b < 256 → IsAscii (hex_byte b)
byte_ascii b h = IsAscii-cons (lower (b / 16)) (lower (b % 16) ∷ []) (digit_low (b / 16) (omega (arith, h))) (IsAscii-cons (lower (b % 16)) [] (digit_low (b % 16) (omega arith)) IsAscii-nil)

word_ascii : (n : ℕ) → n < 65536 → IsAscii (hex_word n)
word_ascii n h = IsAscii-append (hex_byte (n / 256)) (hex_byte (n % 256)) (byte_ascii (n / 256) (omega (arith, h))) (byte_ascii (n % 256) (omega arith))

bytes_ascii : (v : List ℕ) → Bytes v → IsAscii (flat_map hex_byte v)
bytes_ascii [] h = IsAscii-nil
bytes_ascii (b ∷ v) h = IsAscii-append (hex_byte b) (flat_map hex_byte v) (byte_ascii b h.0) (bytes_ascii v h.1)

-- ---- tags

numbers_ascii : (group element : ℕ) → group < 65536 → element < 65536 → IsAscii (tag_text group element)
numbers_ascii group element h k =
    IsAscii-append (codes "(" ++ hex_word group ++ codes "," ++ hex_word element) (codes ")")
    (IsAscii-append (codes "(" ++ hex_word group ++ codes ",") (hex_word element)
    (IsAscii-append (codes "(" ++ hex_word group) (codes ",")
    (IsAscii-append (codes "(") (hex_word group) (one_ascii 40 (omega arith)) (word_ascii group h))
    (one_ascii 44 (omega arith)))
    (word_ascii element k))
    (one_ascii 41 (omega arith))
  where
    one_ascii : (b : ℕ) → b < 128 → IsAscii (b ∷ [])
    one_ascii b l = IsAscii-cons b [] l IsAscii-nil

pub tag_ascii : (t : Tag) → IsTag t → IsAscii (tag_text t.group t.element)
tag_ascii t h = let g = h.0 in let e = h.1 in numbers_ascii t.group t.element (omega (arith, g)) (omega (arith, e))

two_below : (u : List ℕ) → length u ≤ 2 → Bytes u → number_of u < 65536
two_below [] l h = omega arith
two_below (a ∷ []) l h = let x = h.0 in omega (arith, x)
two_below (a ∷ b ∷ []) l h = let x = h.0 in let y = h.1.0 in omega (arith, x, y)
two_below (a ∷ b ∷ c ∷ u) l h = absurd (omega (arith, l))

-- ---- units

-- shown as numbers
abbrev pub IsNumber : Shape → Type 0
IsNumber text = ⊥
IsNumber identifier = ⊥
IsNumber _ = Unit {0}

-- a tag has four bytes at most
abbrev Fits : Shape → ℕ → Type 0
Fits tags k = k ≤ 4
Fits _ k = Unit {0}

unit_ascii : (s : Shape) (k : ℕ) (u : List ℕ) → IsNumber s → Fits s k → length u ≤ k → Bytes u → IsAscii (unit_text s u)
unit_ascii text k u n f l h = absurd n
unit_ascii identifier k u n f l h = absurd n
unit_ascii unsigned k u n f l h = decimal_ascii (number_of u)
unit_ascii signed k u n f l h =
    either (nat_lt (number_of u) (2 ^ (8 * length u - 1))) (decimal (number_of u)) (45 ∷ decimal (2 ^ (8 * length u) - number_of u)) (decimal_ascii (number_of u))
    (IsAscii-cons 45 (decimal (2 ^ (8 * length u) - number_of u)) (omega arith) (decimal_ascii (2 ^ (8 * length u) - number_of u)))
unit_ascii tags k u n f l h =
    numbers_ascii (number_of (take 2 u)) (number_of (drop 2 u))
    (two_below (take 2 u) (omega (arith, length-take 2 u)) (Bytes-take 2 u h))
    (two_below (drop 2 u) (omega (arith, length-drop 2 u, f, l)) (Bytes-drop 2 u h))
unit_ascii hexadecimal k u n f l h = bytes_ascii (reverse u) (Bytes-reverse u h)

abbrev AllSmall : ℕ → List (List ℕ) → Type 0
AllSmall k [] = Unit {0}
AllSmall k (u ∷ us) = (length u ≤ k) × Bytes u × AllSmall k us

pieces_small : (n k : ℕ) (v : List ℕ) → Bytes v → AllSmall k (pieces n k v)
pieces_small zero k v h = tt
pieces_small (suc n) k v h = (omega (arith, length-take k v), Bytes-take k v h, pieces_small n k (drop k v) (Bytes-drop k v h))

module _ (s : Shape) (k : ℕ) (is_number : IsNumber s) (fits : Fits s k) where
  joined_ascii : (us : List (List ℕ)) → AllSmall k us → IsAscii (join_with_byte 92 (map (unit_text s) us))
  joined_ascii [] h = IsAscii-nil
  joined_ascii (u ∷ []) h = unit_ascii s k u is_number fits h.0 h.1
  joined_ascii (u ∷ w ∷ us) h =
      IsAscii-append (unit_text s u) (92 ∷ join_with_byte 92 (map (unit_text s) (w ∷ us))) (unit_ascii s k u is_number fits h.0 h.1)
      (IsAscii-cons 92 (join_with_byte 92 (map (unit_text s) (w ∷ us))) (omega arith) (joined_ascii (w ∷ us) h.2))

  pub units_ascii : (v : List ℕ) → Bytes v → IsAscii (units_text s k v)
  units_ascii v h = joined_ascii (pieces (length v / k) k v) (pieces_small (length v / k) k v h)

fits_unit : (vr : Vr) → Fits (shape vr) (shown_unit vr)
fits_unit AT = omega arith
fits_unit vr = tt

pub is_number : (s : Shape) → takes_bytes s ≡ false → IsNumber s
is_number text e = absurd (cc)
is_number identifier e = absurd (cc)
is_number unsigned e = tt
is_number signed e = tt
is_number tags e = tt
is_number hexadecimal e = tt

pub value_ascii : (vr : Vr) (v : List ℕ) → IsNumber (shape vr) → Bytes v → IsAscii (units_text (shape vr) (shown_unit vr) v)
value_ascii vr v n h = units_ascii (shape vr) (shown_unit vr) n (fits_unit vr) v h
