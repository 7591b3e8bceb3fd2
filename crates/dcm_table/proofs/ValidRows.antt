-- Rows are valid UTF-8.
use Rattle.std.proofs.Common.{◌≡◌, sym, refl, subst, ℕ, zero, suc, ◌-◌, ◌*◌, ◌/◌, ◌%◌, ◌^◌, ◌<◌, ◌≤◌, List, [], ◌∷◌, ◌++◌, length, take, drop, Bool, true, false, arith, suc-mul, lit≤}
use Rattle.std.specs.Prelude.{nat_lt, ◌&&◌, if◌then◌else◌, decimal, codes, IsUtf8, IsAscii}
use Rattle.std.proofs.lemmas.Fmt.{IsAscii-decimal, IsAscii-decimal_wide}
use Rattle.std.proofs.lemmas.List.{length-take-le, length-drop}
use Rattle.std.proofs.lemmas.Str.{IsUtf8-append, IsUtf8-nil, IsUtf8-from_ascii}
use Rattle.std.proofs.lemmas.Str.Ascii.{IsAscii-nil, IsAscii-cons}
use lib.Ieee.{nan_bits}
use Rattle.dcm_base.specs.declared.vr.Vr.{Vr}
use Rattle.dcm_base.specs.declared.vr.Vr.TheVariants.{AT, FD, FL, SL, SS, SV, UI, UL, US, UV}
use Rattle.dcm_base.specs.Dump.ValueText.{hex_byte, hex_word, lower, shown_unit, signed_text, tag_text}
use Rattle.dcm_base.specs.Tables.Number.{AreBytes}
use Rattle.dcm_base.specs.Tables.Transfer.{before_pads, is_pad, without_pads}
use Rattle.dcm_base.specs.Tree.Value.{number_of, pieces, units}
use Rattle.dcm_base.proofs.DumpsBack.Texts.{Bytes, bytes_of}
use Rattle.dcm_base.proofs.DumpsBack.Parts.{Bytes-take, Bytes-drop}
use Rattle.dcm_base.proofs.DumpsBack.Values.{below_64, two_below}
use Rattle.std.specs.Prelude.{Option, Some, None}
use Rattle.std.specs.List.{list_all}
use Rattle.std.proofs.lemmas.Bool.{lt-ltb}
use Rattle.dcm_text.specs.declared.set.TextKind.{TextKind}
use Rattle.dcm_text.specs.declared.sets.Sets.{Sets}
use Rattle.dcm_text.specs.Laws.{is_byte}
use Rattle.dcm_text.specs.Shown.{cell}
use Rattle.dcm_text.proofs.Sound.{table_utf8}
use Rattle.dcm_table.specs.declared.quoted.TextForm.{TextForm}
use Rattle.dcm_table.specs.declared.quoted.TextForm.TheVariants.{ValidUtf8, AsItIs, Decoded}
use Rattle.dcm_table.specs.Cell.{Cell, missing, open_value, open_too_long, whole, too_long, not_shown, is_shown}
use Rattle.dcm_table.specs.Parts.{Part, some_bytes, a_float, float_part, single, double, Width, format_of, SpellsPart, SpellsParts}
use Rattle.dcm_table.specs.Quoted.{quoted, text_in}
use Rattle.dcm_table.specs.Row.{cell_parts, cells_parts, is_quoted_list, is_quoted_text, joined, newline, next_units_parts, numbers_parts, row_parts, decoded_kind, shown_text, text_by, unit_part, units_parts, value_parts}
use Rattle.dcm_table.specs.Laws.{HoldsBytes, AllHoldBytes, is_valid_form}
use Rattle.dcm_table.specs.TableSink.{Slot}
use Rattle.dcm_table.proofs.ValidTexts.{text_valid, quoted_valid, digit_low}

-- ---- parts whose texts are valid

abbrev ValidPart : Part → Type 0
ValidPart p = (text : List ℕ) → SpellsPart p text → IsUtf8 text

abbrev AllValid : List Part → Type 0
AllValid [] = Unit {0}
AllValid (p ∷ parts) = ValidPart p × AllValid parts

spelled_valid : (parts : List Part) → AllValid parts → (text : List ℕ) → SpellsParts parts text → IsUtf8 text
spelled_valid [] h text e = subst IsUtf8 (sym e) IsUtf8-nil
spelled_valid (p ∷ parts) h text (first, rest, is, one, more) =
    subst IsUtf8 (sym is) (IsUtf8-append first rest (h.0 first one) (spelled_valid parts h.1 rest more))

all_both : (ps qs : List Part) → AllValid ps → AllValid qs → AllValid (ps ++ qs)
all_both [] qs h k = k
all_both (p ∷ ps) qs h k = (h.0, all_both ps qs h.1 k)

bytes_valid : (bytes : List ℕ) → IsUtf8 bytes → ValidPart (some_bytes bytes)
bytes_valid bytes h = λ text e. subst IsUtf8 (sym e) h

ascii_valid : (bytes : List ℕ) → IsAscii bytes → ValidPart (some_bytes bytes)
ascii_valid bytes h = bytes_valid bytes (IsUtf8-from_ascii bytes h)

one_valid : (b : ℕ) → b < 128 → ValidPart (some_bytes (b ∷ []))
one_valid b h = ascii_valid (b ∷ []) (IsAscii-cons b [] h IsAscii-nil)

-- ---- units

float_if : (t : Bool) (w : Width) (bits : ℕ) → ValidPart (if t then some_bytes (codes "NaN") else a_float w bits)
float_if true w bits = ascii_valid (78 ∷ 97 ∷ 78 ∷ []) (IsAscii-cons 78 (97 ∷ 78 ∷ []) (omega arith) (IsAscii-cons 97 (78 ∷ []) (omega arith) (IsAscii-cons 78 [] (omega arith) IsAscii-nil)))
float_if false w bits = λ text h. IsUtf8-from_ascii text h.ascii

float_valid : (w : Width) (bits : ℕ) → ValidPart (float_part w bits)
float_valid w bits = float_if (nan_bits (format_of w) bits) w bits

unsigned_ascii : (k : ℕ) (u : List ℕ) → 256 ^ k ≤ 2 ^ 64 → length u ≡ k → Bytes u → IsAscii (decimal (number_of u))
unsigned_ascii k u most l h = IsAscii-decimal (number_of u) (below_64 u k most l h)

signed_ascii : (k : ℕ) (u : List ℕ) → 256 ^ k ≤ 2 ^ 64 → 2 ^ (8 * k) ≤ 2 ^ 64 → length u ≡ k → Bytes u → IsAscii (signed_text (length u) (number_of u))
signed_ascii k u most full l h = by_test (nat_lt (number_of u) (2 ^ (8 * length u - 1)))
  where
    rest : ℕ
    rest = 2 ^ (8 * length u) - number_of u

    size : 2 ^ (8 * length u) ≤ 2 ^ 64
    size = subst (λ (n : ℕ). 2 ^ (8 * n) ≤ 2 ^ 64) (sym l) full

    by_test : (t : Bool) → IsAscii (if t then decimal (number_of u) else 45 ∷ decimal rest)
    by_test true = unsigned_ascii k u most l h
    by_test false = IsAscii-cons 45 (decimal rest) (omega arith) (IsAscii-decimal_wide rest (omega (arith, size)))

byte_ascii : (b : ℕ) (more : List ℕ) → b < 256 → IsAscii more → IsAscii (hex_byte b ++ more)
byte_ascii b more h k =
    IsAscii-cons (lower (b / 16)) (lower (b % 16) ∷ more) (digit_low (b / 16) (omega (arith, h))) (IsAscii-cons (lower (b % 16)) more (digit_low (b % 16) (omega arith)) k)

word_ascii : (n : ℕ) (more : List ℕ) → n < 65536 → IsAscii more → IsAscii (hex_word n ++ more)
word_ascii n more h k = byte_ascii (n / 256) (hex_byte (n % 256) ++ more) (omega (arith, h)) (byte_ascii (n % 256) more (omega arith) k)

tag_ascii : (u : List ℕ) → length u ≡ 4 → Bytes u → IsAscii (tag_text (number_of (take 2 u)) (number_of (drop 2 u)))
tag_ascii u l h =
    let group : number_of (take 2 u) < 65536 = two_below (take 2 u) (length-take-le 2 u (omega (arith, l))) (Bytes-take 2 u h) in
    let element : number_of (drop 2 u) < 65536 = two_below (drop 2 u) (omega (arith, l, length-drop 2 u)) (Bytes-drop 2 u h) in
    IsAscii-cons 40 (hex_word (number_of (take 2 u)) ++ (44 ∷ (hex_word (number_of (drop 2 u)) ++ 41 ∷ []))) (omega arith)
    (word_ascii (number_of (take 2 u)) (44 ∷ (hex_word (number_of (drop 2 u)) ++ 41 ∷ [])) group
    (IsAscii-cons 44 (hex_word (number_of (drop 2 u)) ++ 41 ∷ []) (omega arith) (word_ascii (number_of (drop 2 u)) (41 ∷ []) element (IsAscii-cons 41 [] (omega arith) IsAscii-nil))))

-- ---- values

abbrev UnitsAre : ℕ → List (List ℕ) → Type 0
UnitsAre k [] = Unit {0}
UnitsAre k (u ∷ us) = (length u ≡ k) × Bytes u × UnitsAre k us

pieces_are : (n k : ℕ) (v : List ℕ) → n * k ≤ length v → Bytes v → UnitsAre k (pieces n k v)
pieces_are zero k v le h = tt
pieces_are (suc n) k v le h =
    let first : k ≤ length v = omega (arith, le, suc-mul n k) in
    let others : n * k ≤ length (drop k v) = omega (arith, le, suc-mul n k, length-drop k v) in
    (length-take-le k v first, Bytes-take k v h, pieces_are n k (drop k v) others (Bytes-drop k v h))

module _ (vr : Vr) (unit_valid : (u : List ℕ) → length u ≡ shown_unit vr → Bytes u → ValidPart (unit_part vr u)) where
  next_valid : (us : List (List ℕ)) → UnitsAre (shown_unit vr) us → AllValid (next_units_parts vr us)
  next_valid [] h = tt
  next_valid (u ∷ us) h = (one_valid 92 (omega arith), (unit_valid u h.0 h.1, next_valid us h.2))

  joined_valid : (us : List (List ℕ)) → UnitsAre (shown_unit vr) us → AllValid (joined vr us)
  joined_valid [] h = tt
  joined_valid (u ∷ us) h = (unit_valid u h.0 h.1, next_valid us h.2)

  units_valid : (t : Bool) (us : List (List ℕ)) → UnitsAre (shown_unit vr) us → AllValid (units_parts t vr us)
  units_valid true us h = (one_valid 34 (omega arith), all_both (joined vr us) (some_bytes (codes "\"") ∷ []) (joined_valid us h) (one_valid 34 (omega arith), tt))
  units_valid false us h = joined_valid us h

  numbers_valid : (v : List ℕ) → length v / shown_unit vr * shown_unit vr ≤ length v → Bytes v → AllValid (numbers_parts vr v)
  numbers_valid v le h = units_valid (is_quoted_list vr (length v / shown_unit vr)) (units (shown_unit vr) v) (pieces_are (length v / shown_unit vr) (shown_unit vr) v le h)

-- a value without pads has bytes
pads_bytes : (t : Bool) (b : ℕ) → b < 256 → Bytes (if t then [] else b ∷ [])
pads_bytes true b h = tt
pads_bytes false b h = (h, tt)

before_bytes : (b : ℕ) (rest : List ℕ) → b < 256 → Bytes rest → Bytes (before_pads b rest)
before_bytes b [] h k = pads_bytes (is_pad b) b h
before_bytes b (c ∷ rest) h k = (h, k)

kept_bytes : (v : List ℕ) → Bytes v → Bytes (without_pads v)
unfolding without_pads
kept_bytes [] h = tt
kept_bytes (b ∷ v) h = before_bytes b (without_pads v) h.0 (kept_bytes v h.1)

are_bytes : (v : List ℕ) → Bytes v → AreBytes v
are_bytes [] h i = omega arith
are_bytes (b ∷ v) h zero = h.0
are_bytes (b ∷ v) h (suc i) = are_bytes v h.1 i

pub listed : (v : List ℕ) → Bytes v → list_all is_byte v ≡ true
listed [] h = refl
listed (b ∷ v) h = both_listed (is_byte b) (list_all is_byte v) (lt-ltb b 256 h.0) (listed v h.1)
  where
    both_listed : (x y : Bool) → x ≡ true → y ≡ true → (x && y) ≡ true
    both_listed x y e k = rw (e, k) refl

-- a name, or a text that is not decoded
pub text_in_valid : (form : TextForm) (v : List ℕ) → is_valid_form form ≡ true → AreBytes v → IsUtf8 (quoted (text_in form v))
text_in_valid ValidUtf8 v e h = text_valid v h
text_in_valid AsItIs v e h = cc
text_in_valid Decoded v e h = text_valid v h

by_kind_valid : (kind : Option TextKind) (form : TextForm) (sets : Sets) (v : List ℕ) → is_valid_form form ≡ true → Bytes v → IsUtf8 (quoted (text_by kind form sets v))
by_kind_valid (Some kind) form sets v e h = quoted_valid (cell sets kind v) (table_utf8 sets kind v (listed v h))
by_kind_valid None form sets v e h = text_in_valid form v e (are_bytes v h)

module _ (form : TextForm) (sets : Sets) (valid : is_valid_form form ≡ true) where
  text_parts_valid : (t : Bool) (vr : Vr) (v : List ℕ) → t ≡ true → Bytes v → AllValid (value_parts t form sets vr v)
  text_parts_valid true vr v e h = (bytes_valid (quoted (shown_text form sets vr (without_pads v))) (by_kind_valid (decoded_kind form vr) form sets (without_pads v) valid (kept_bytes v h)), tt)
  text_parts_valid false vr v e h = cc

  some_text : (vr : Vr) (t : List ℕ) → IsAscii t → ValidPart (some_bytes t)
  some_text vr t h = ascii_valid t h

  value_valid : (vr : Vr) (v : List ℕ) → is_shown vr ≡ true → Bytes v → AllValid (value_parts (is_quoted_text vr) form sets vr v)
  value_valid AT v e h = numbers_valid AT (λ u l k. ascii_valid _ (tag_ascii u l k)) v (omega arith) h
  value_valid FD v e h = numbers_valid FD (λ u l k. float_valid double (number_of u)) v (omega arith) h
  value_valid FL v e h = numbers_valid FL (λ u l k. float_valid single (number_of u)) v (omega arith) h
  value_valid SL v e h = numbers_valid SL (λ u l k. ascii_valid _ (signed_ascii 4 u (lit≤ tt) (lit≤ tt) l k)) v (omega arith) h
  value_valid SS v e h = numbers_valid SS (λ u l k. ascii_valid _ (signed_ascii 2 u (lit≤ tt) (lit≤ tt) l k)) v (omega arith) h
  value_valid SV v e h = numbers_valid SV (λ u l k. ascii_valid _ (signed_ascii 8 u (lit≤ tt) (lit≤ tt) l k)) v (omega arith) h
  value_valid UL v e h = numbers_valid UL (λ u l k. ascii_valid _ (unsigned_ascii 4 u (lit≤ tt) l k)) v (omega arith) h
  value_valid US v e h = numbers_valid US (λ u l k. ascii_valid _ (unsigned_ascii 2 u (lit≤ tt) l k)) v (omega arith) h
  value_valid UV v e h = numbers_valid UV (λ u l k. ascii_valid _ (unsigned_ascii 8 u (lit≤ tt) l k)) v (omega arith) h
  value_valid UI v e h = text_parts_valid true UI v refl h
  value_valid vr v e h = text_parts_valid (is_quoted_text vr) vr v e h

  pub cell_valid : (c : Cell) → HoldsBytes c → AllValid (cell_parts form sets c)
  cell_valid missing h = tt
  cell_valid (open_value vr shown s bytes) h = tt
  cell_valid open_too_long h = tt
  cell_valid (whole vr v) h = value_valid vr v h.0 (bytes_of v h.1)
  cell_valid too_long h = tt
  cell_valid not_shown h = tt

-- ---- a row

cells_valid : (form : TextForm) → is_valid_form form ≡ true → (slots : List Slot) → AllHoldBytes slots → AllValid (cells_parts form slots)
cells_valid form e [] h = tt
cells_valid form e (c ∷ slots) h =
    (one_valid 44 (omega arith), all_both (cell_parts form c.2 c.1) (cells_parts form slots) (cell_valid form c.2 e c.1 h.0) (cells_valid form e slots h.1))

pub row_valid : (form : TextForm) (name : List ℕ) (slots : List Slot) (text : List ℕ) → is_valid_form form ≡ true → AreBytes name → AllHoldBytes slots → SpellsParts (row_parts form name slots) text → IsUtf8 text
row_valid form name slots text e named held spelled =
    spelled_valid (row_parts form name slots)
    (bytes_valid (quoted (text_in form name)) (text_in_valid form name e named), all_both (cells_parts form slots) (some_bytes newline ∷ []) (cells_valid form e slots held) (one_valid 10 (omega arith), tt))
    text spelled
