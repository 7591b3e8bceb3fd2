-- The names of files that are opened in memory are valid UTF-8, and so is what is shown of them.
use Rattle.std.proofs.Common.{◌≡◌, ◌∙◌, ap, sym, refl, subst, ℕ, ◌+◌, ◌/◌, ◌%◌, ◌<◌, ◌≤◌, List, [], ◌∷◌, ◌++◌, flat_map, Bool, true, false, cond, Some, None, arith}
use Rattle.std.specs.Prelude.{nat_lt, if◌then◌else◌, codes, bytes_eq, IsUtf8}
use Rattle.std.specs.Str.{is_utf8}
use Rattle.std.specs.Option.{option_map}
use Rattle.std.proofs.lemmas.Bool.{cases_lt, ltb-true}
use Rattle.std.proofs.lemmas.Bool.Decides.{nat_tests}
use Rattle.std.proofs.lemmas.Grind.{flat_map-append}
use Rattle.std.proofs.lemmas.Str.{IsUtf8-append, IsUtf8-nil, IsUtf8-encode, IsUtf8-from_ascii, IsUtf8-from_is_utf8, encode_ascii}
use Rattle.std.proofs.lemmas.Str.Ascii.{IsAscii-nil, IsAscii-cons}
use lib.Utf8.{scalar, scalars, encode, encodes, scalar_cases}
use mathlib.Core.Logic.{⊎_elim}
use Rattle.dcm_each.proofs.Names.{openable_whole}
use Rattle.dcm_lemmas.proofs.Lists.{bytes_same}
use Rattle.dcm_lemmas.proofs.Numbers.{not_below}
use Rattle.dcm_lemmas.proofs.Truth.{and_parts}
use Rattle.dcm_base.specs.Dump.ValueText.{lower, hex_byte}
use Rattle.dcm_base.specs.Tables.Number.{AreBytes}
use Rattle.dcm_base.proofs.DumpsBack.Numbers.{Bytes-append}
use Rattle.dcm_base.proofs.DumpsBack.Texts.{Bytes}
use Rattle.dcm_files.specs.declared.memory.MemSystem.{MemSystem}
use Rattle.dcm_files.specs.Devices.{standard}
use Rattle.dcm_files.specs.Memory.{file_named}
use Rattle.dcm_names.specs.Names.{can_be_opened, is_shown_by_number, shown_byte, shown_name}
use Rattle.dcm_sinks.proofs.ReadBack.Sources.{a_byte}
use Rattle.dcm_table.proofs.ValidTexts.{digit_low}
use Rattle.dcm_cli.specs.InMemory.{bytes_at}
use Rattle.dcm_each.specs.Each.{listed_path}
use Rattle.dcm_each.specs.InMemory.{file_of}
use Rattle.dcm_text_laws.specs.Laws.{HoldsBytes}

-- ---- characters

-- the bytes of a character
character_bytes : (t u v : Bool) (c : ℕ) → c < 1114112 → nat_lt c 128 ≡ t → nat_lt c 2048 ≡ u → nat_lt c 65536 ≡ v
    → Bytes (cond t (c ∷ []) (cond u ((192 + c / 64) ∷ (128 + c % 64) ∷ []) (cond v ((224 + c / 4096) ∷ (128 + c / 64 % 64) ∷ (128 + c % 64) ∷ []) ((240 + c / 262144) ∷ (128 + c / 4096 % 64) ∷ (128 + c / 64 % 64) ∷ (128 + c % 64) ∷ []))))
character_bytes true u v c h e f g = (omega (arith, ltb-true c 128 e), tt)
character_bytes false true v c h e f g = (omega (arith, ltb-true c 2048 f), (omega arith, tt))
character_bytes false false true c h e f g = (omega (arith, ltb-true c 65536 g), (omega arith, (omega arith, tt)))
character_bytes false false false c h e f g = (omega (arith, h), (omega arith, (omega arith, (omega arith, tt))))

below_last : (c : ℕ) → scalar c ≡ true → c < 1114112
below_last c e = ⊎_elim (λ (h : c < 55296). omega (arith, h)) (λ (h : (57344 ≤ c) × (c < 1114112)). h.1) (scalar_cases c e)

encode_bytes : (c : ℕ) → scalar c ≡ true → Bytes (encode c)
unfolding encode
encode_bytes c e = character_bytes (nat_lt c 128) (nat_lt c 2048) (nat_lt c 65536) c (below_last c e) refl refl refl

encodes_bytes : (cs : List ℕ) → scalars cs ≡ true → Bytes (encodes cs)
encodes_bytes [] e = tt
encodes_bytes (c ∷ cs) e =
    let w = and_parts (scalar c) (scalars cs) e in
    Bytes-append (encode c) (encodes cs) (encode_bytes c w.0) (encodes_bytes cs w.1)

-- a text has bytes
pub text_bytes : (text : List ℕ) → IsUtf8 text → AreBytes text
text_bytes text h = λ i. a_byte text i (subst Bytes h.1.1 (encodes_bytes h.0 h.1.0))

-- ---- names of files that are opened

pub dash_utf8 : IsUtf8 (codes "-")
dash_utf8 = IsUtf8-from_ascii (codes "-") (IsAscii-cons 45 [] (omega arith) IsAscii-nil)

-- a path at which something can be read is a text
path_utf8 : (s : MemSystem) (path bytes : List ℕ) → bytes_at s path ≡ Some bytes → IsUtf8 path
path_utf8 s path bytes e = by (bytes_eq path standard) (is_utf8 path) refl refl e
  where
    by : (t u : Bool) → bytes_eq path standard ≡ t → is_utf8 path ≡ u
        → (if t then Some s.stdin.now else if u then option_map (λ f. f.bytes.now) (file_named s.files.now path) else None) ≡ Some bytes
        → IsUtf8 path
    by true u p q e = subst IsUtf8 (sym (bytes_same path standard p)) dash_utf8
    by false true p q e = IsUtf8-from_is_utf8 path q
    by false false p q e = cc

opened : (s : MemSystem) (name path bytes : List ℕ) → file_of s name path ≡ Some bytes → (can_be_opened name ≡ true) × (bytes_at s path ≡ Some bytes)
opened s name path bytes e = by (can_be_opened name) refl e
  where
    by : (t : Bool) → can_be_opened name ≡ t → (if t then bytes_at s path else None) ≡ Some bytes → (can_be_opened name ≡ true) × (bytes_at s path ≡ Some bytes)
    by true p e = (p, e)
    by false p e = cc

pub listed_utf8 : (name : List ℕ) → IsUtf8 (listed_path name) → IsUtf8 name
listed_utf8 name h = by (bytes_eq name (codes "-")) refl h
  where
    by : (t : Bool) → bytes_eq name (codes "-") ≡ t → IsUtf8 (if t then codes "./-" else name) → IsUtf8 name
    by true p h = subst IsUtf8 (sym (bytes_same name (codes "-") p)) dash_utf8
    by false p h = h

-- what an opened file is called and what it has
pub record IsOpened (name bytes : List ℕ) : Type 0 where
  pub named : IsUtf8 name
  pub short : can_be_opened name ≡ true
  pub are : AreBytes bytes

pub file_opened : (s : MemSystem) (path bytes : List ℕ) → HoldsBytes s → file_of s path path ≡ Some bytes → IsOpened path bytes
file_opened s path bytes h e =
    let o = opened s path path bytes e in
    record { named = path_utf8 s path bytes o.1; short = o.0; are = h path bytes o.1 }

pub listed_opened : (s : MemSystem) (name bytes : List ℕ) → HoldsBytes s → file_of s name (listed_path name) ≡ Some bytes → IsOpened name bytes
listed_opened s name bytes h e =
    let o = opened s name (listed_path name) bytes e in
    record { named = listed_utf8 name (path_utf8 s (listed_path name) bytes o.1); short = o.0; are = h (listed_path name) bytes o.1 }

-- ---- what is shown of a name

abbrev AllHigh : List ℕ → Type 0
AllHigh [] = Unit {0}
AllHigh (b ∷ bytes) = (128 ≤ b) × AllHigh bytes

high_shown : (b : ℕ) → 128 ≤ b → shown_byte b ≡ b ∷ []
high_shown b h = by (is_shown_by_number b) (grind (arith, nat_tests))
  where
    by : (t : Bool) → t ≡ false → (if t then 92 ∷ hex_byte b else b ∷ []) ≡ b ∷ []
    by t e = rw e refl

high_stay : (bytes : List ℕ) → AllHigh bytes → flat_map shown_byte bytes ≡ bytes
high_stay [] h = refl
high_stay (b ∷ bytes) h = ap (λ (x : List ℕ). x ++ flat_map shown_byte bytes) (high_shown b h.0) ∙ ap (λ (x : List ℕ). b ∷ x) (high_stay bytes h.1)

-- a character of more than one byte has none below 128
wide_high : (t u v : Bool) (a b c d e f g h i j : ℕ) → t ≡ false
    → AllHigh (cond t (a ∷ []) (cond u ((192 + b) ∷ (128 + c) ∷ []) (cond v ((224 + d) ∷ (128 + e) ∷ (128 + f) ∷ []) ((240 + g) ∷ (128 + h) ∷ (128 + i) ∷ (128 + j) ∷ []))))
wide_high true u v a b c d e f g h i j is = cc
wide_high false true v a b c d e f g h i j is = (omega arith, (omega arith, tt))
wide_high false false true a b c d e f g h i j is = (omega arith, (omega arith, (omega arith, tt)))
wide_high false false false a b c d e f g h i j is = (omega arith, (omega arith, (omega arith, (omega arith, tt))))

encode_high : (c : ℕ) → 128 ≤ c → AllHigh (encode c)
unfolding encode
encode_high c h = wide_high (nat_lt c 128) (nat_lt c 2048) (nat_lt c 65536) c (c / 64) (c % 64) (c / 4096) (c / 64 % 64) (c % 64) (c / 262144) (c / 4096 % 64) (c / 64 % 64) (c % 64) (not_below c 128 h)

low_shown : (t : Bool) (c : ℕ) → c < 128 → IsUtf8 ((if t then 92 ∷ hex_byte c else c ∷ []) ++ [])
low_shown true c h =
    IsUtf8-from_ascii (92 ∷ hex_byte c)
    (IsAscii-cons 92 (hex_byte c) (omega arith) (IsAscii-cons (lower (c / 16)) (lower (c % 16) ∷ []) (digit_low (c / 16) (omega (arith, h))) (IsAscii-cons (lower (c % 16)) [] (digit_low (c % 16) (omega arith)) IsAscii-nil)))
low_shown false c h = IsUtf8-from_ascii (c ∷ []) (IsAscii-cons c [] h IsAscii-nil)

one_shown : (c : ℕ) → scalar c ≡ true → IsUtf8 (flat_map shown_byte (encode c))
one_shown c e =
    ⊎_elim
    (λ (low : c < 128). subst (λ x. IsUtf8 (flat_map shown_byte x)) (sym (encode_ascii c low)) (low_shown (is_shown_by_number c) c low))
    (λ (high : 128 ≤ c). subst IsUtf8 (sym (high_stay (encode c) (encode_high c high))) (IsUtf8-encode c e))
    (cases_lt c 128)

all_shown : (cs : List ℕ) → scalars cs ≡ true → IsUtf8 (flat_map shown_byte (encodes cs))
all_shown [] e = IsUtf8-nil
all_shown (c ∷ cs) e =
    let w = and_parts (scalar c) (scalars cs) e in
    subst IsUtf8 (sym (flat_map-append shown_byte (encode c) (encodes cs)))
    (IsUtf8-append (flat_map shown_byte (encode c)) (flat_map shown_byte (encodes cs)) (one_shown c w.0) (all_shown cs w.1))

pub shown_utf8 : (name : List ℕ) → IsUtf8 name → can_be_opened name ≡ true → IsUtf8 (shown_name name)
unfolding shown_name
shown_utf8 name h e =
    subst (λ x. IsUtf8 (flat_map shown_byte x)) (sym (openable_whole name e))
    (subst (λ x. IsUtf8 (flat_map shown_byte x)) h.1.1 (all_shown h.0 h.1.0))
