-- A line of a dump means what it shows: displays.
use Rattle.std.proofs.Common.{◌≡◌, ℕ, suc, ◌≤◌, ◌<◌, ◌-◌, ◌*◌, ◌/◌, ◌%◌, ◌^◌, List, [], ◌∷◌, ◌++◌, length, map, take, drop, reverse, Option, Some, None, Bool, true, false, not, ◌&&◌, refl, sym, ◌∙◌, ap, subst, arith, decimal, codes, flat_map}
use Rattle.std.specs.Prelude.{if◌then◌else◌, ◌==◌, nat_lt, nat_le, find, bytes_eq}
use Rattle.std.specs.List.{join_with_byte, list_all}
use Rattle.std.specs.Option.{option_map_or}
use Rattle.std.proofs.lemmas.Bool.Decides.{nat_tests}
use Rattle.std.proofs.lemmas.List.{length-take-le, length-drop, length-reverse}
use Rattle.std.proofs.lemmas.Fmt.{decimal_nonempty}
use Rattle.dcm_lemmas.proofs.Options.{mapped}
use Rattle.dcm_lemmas.proofs.Truth.{and_first, and_second}
use Rattle.dcm_base.specs.declared.vr.Vr.{Vr}
use Rattle.dcm_base.specs.declared.vr.Vr.TheVariants.{AE, AS, AT, CS, DA, DS, DT, FD, FL, IS, LO, LT, OB, OD, OF, OL, OV, OW, PN, SH, SL, SQ, SS, ST, SV, TM, UC, UI, UL, UN, UR, US, UT, UV}
use Rattle.dcm_base.specs.Tables.Representation.{is_sequence}
use Rattle.dcm_base.specs.Tables.Uid.{uids, uid_name, Named}
use Rattle.dcm_base.specs.Tree.Value.{pieces, units, number_of}
use Rattle.dcm_base.specs.Dump.ValueText.{Shape, hex_byte, unsigned, signed, tags, hexadecimal, shown_unit, unpadded, bracketed, identified, unit_text, units_text, display}
use Rattle.dcm_base.proofs.DumpsBack.Texts.{Bytes}
use Rattle.dcm_base.proofs.DumpsBack.Numbers.{Bytes-reverse, length-hex}
use Rattle.dcm_base.proofs.DumpsBack.Parts.{Each, each_piece, Bytes-take, Bytes-drop}
use Rattle.dcm_base.proofs.DumpsBack.Values.{Bytes-unpadded, found, below_64, whole, units_are, more_than_none, two_below}
use Rattle.dcm_base_laws.proofs.DumpsBack.Fields.{printed_text, Bytewise, Shows, IsPlain, IsTagText, text_shows, plain_shows, decimal_is_plain, minus_is_plain, hex_is_plain, joined_is_plain, tags_show}

-- ---- names of unique identifiers

is_plain_byte : ℕ → Bool
is_plain_byte c = not (c == 32) && not (c == 35) && not (c == 91) && not (c == 40) && nat_le 32 c

has_plain_name : Named → Bool
has_plain_name u = list_all is_plain_byte u.1

all_plain : list_all has_plain_name uids ≡ true
unfolding uids has_plain_name is_plain_byte
all_plain = refl

plain_byte : (c : ℕ) → is_plain_byte c ≡ true → IsPlain c
unfolding is_plain_byte
plain_byte c p = record { no_space = grind (arith, nat_tests, p); no_comment = grind (arith, nat_tests, p); no_bracket = grind (arith, nat_tests, p); no_parenthesis = grind (arith, nat_tests, p); printed = grind (arith, nat_tests, p) }

plain_bytes : (cs : List ℕ) → list_all is_plain_byte cs ≡ true → Bytewise IsPlain cs
plain_bytes [] p = tt
plain_bytes (c ∷ cs) p = (plain_byte c (and_first (is_plain_byte c) _ p), plain_bytes cs (and_second (is_plain_byte c) _ p))

name_is_plain : (uid name : List ℕ) → uid_name uid ≡ Some name → Bytewise IsPlain name
unfolding uid_name has_plain_name
name_is_plain uid name p =
    let m = mapped (λ (u : Named). u.1) (find (λ (u : Named). bytes_eq u.0 uid) uids) name p in
    let q = found (λ u. bytes_eq u.0 uid) has_plain_name uids m.0 all_plain m.1 in
    plain_bytes name (subst (λ n. list_all is_plain_byte n ≡ true) m.2 q.0)

identifier_shows : (v : List ℕ) → Bytes v → Shows (identified v)
identifier_shows v h = by_name (uid_name v) refl
  where
    by_name : (o : Option (List ℕ)) → uid_name v ≡ o → Shows (option_map_or (λ name. 61 ∷ name) o (bracketed v))
    by_name None e = text_shows v h
    by_name (Some name) e = plain_shows 61 name (record { no_space = refl; no_comment = refl; no_bracket = refl; no_parenthesis = refl; printed = omega arith }, name_is_plain v name e)

-- ---- units

-- the text of a unit is plain and has a byte
pub record IsPlainText (t : List ℕ) : Type 0 where
  pub first : ℕ
  pub more : List ℕ
  pub is : t ≡ first ∷ more
  pub plain : Bytewise IsPlain t

some_text : (t : List ℕ) → 0 < length t → Bytewise IsPlain t → IsPlainText t
some_text [] l h = absurd (omega (arith, l))
some_text (c ∷ t) l h = record { first = c; more = t; is = refl; plain = h }

-- what the texts of units of a size are
abbrev AreTexts : (List ℕ → Type 0) → Shape → ℕ → Type 0
AreTexts P s k = (u : List ℕ) → length u ≡ k → Bytes u → P (unit_text s u)

unsigned_texts : (k : ℕ) → 256 ^ k ≤ 2 ^ 64 → AreTexts IsPlainText unsigned k
unsigned_texts k most u l h =
    let n : number_of u < 2 ^ 64 = below_64 u k most l h in some_text (decimal (number_of u)) (decimal_nonempty (number_of u) n) (decimal_is_plain (number_of u) n)

-- a number of a sign is at most half of all
signed_texts : (k : ℕ) → 256 ^ k ≤ 2 ^ 64 → 2 ^ (8 * k) ≡ 256 ^ k → 0 < 2 ^ (8 * k - 1) → AreTexts IsPlainText signed k
signed_texts k most full half u l h = by_test (nat_lt n (2 ^ (8 * length u - 1))) refl
  where
    n : ℕ
    n = number_of u

    below : n < 2 ^ 64
    below = below_64 u k most l h

    is_past : (a b : ℕ) → nat_lt a b ≡ false → b ≤ a
    is_past a b e = grind (arith, nat_tests, e)

    m : ℕ
    m = 2 ^ (8 * length u) - n

    by_test : (t : Bool) → nat_lt n (2 ^ (8 * length u - 1)) ≡ t → IsPlainText (if t then decimal n else 45 ∷ decimal m)
    by_test true e = some_text (decimal n) (decimal_nonempty n below) (decimal_is_plain n below)
    by_test false e =
        let f : 2 ^ (8 * length u) ≡ 256 ^ k = ap (λ x. 2 ^ (8 * x)) l ∙ full in
        let g : 0 < 2 ^ (8 * length u - 1) = subst (λ x. 0 < 2 ^ (8 * x - 1)) (sym l) half in
        let some : 2 ^ (8 * length u - 1) ≤ n = is_past n (2 ^ (8 * length u - 1)) e in
        let small : m < 2 ^ 64 = omega (arith, f, g, some, most) in
        some_text (45 ∷ decimal m) (omega arith) (minus_is_plain m small)

hex_texts : (k : ℕ) → 0 < k → AreTexts IsPlainText hexadecimal k
hex_texts k some u l h =
    some_text (flat_map hex_byte (reverse u)) (omega (arith, some, l, length-hex (reverse u), length-reverse u)) (hex_is_plain (reverse u) (Bytes-reverse u h))

tag_texts : AreTexts IsTagText tags 4
tag_texts u l h =
    record {
      group = number_of (take 2 u);
      element = number_of (drop 2 u);
      group_small = two_below (take 2 u) (length-take-le 2 u (omega (arith, l))) (Bytes-take 2 u h);
      element_small = two_below (drop 2 u) (omega (arith, l, length-drop 2 u)) (Bytes-drop 2 u h);
      is = refl;
    }

each_plain : (write : List ℕ → List ℕ) (us : List (List ℕ)) → Each (λ x. IsPlainText (write x)) us → Each (λ x. Bytewise IsPlain (write x)) us
each_plain write [] h = tt
each_plain write (u ∷ us) h = (h.0.plain, each_plain write us h.1)

begins : (write : List ℕ → List ℕ) (u : List ℕ) (us : List (List ℕ)) → IsPlainText (write u) → (c : ℕ) × (more : List ℕ) × (join_with_byte 92 (map write (u ∷ us)) ≡ c ∷ more)
begins write u [] h = (h.first, h.more, h.is)
begins write u (w ∷ us) h = (h.first, _, ap (λ t. t ++ 92 ∷ join_with_byte 92 (map write (w ∷ us))) h.is)

plain_show : (write : List ℕ → List ℕ) (u : List ℕ) (us : List (List ℕ)) → Each (λ x. IsPlainText (write x)) (u ∷ us) → Shows (join_with_byte 92 (map write (u ∷ us)))
plain_show write u us h =
    let b = begins write u us h.0 in
    subst Shows (sym b.2) (plain_shows b.0 b.1 (subst (Bytewise IsPlain) b.2 (joined_is_plain write u us (each_plain write (u ∷ us) h))))

-- the text of a value of whole units
units_have : (Q P : List ℕ → Type 0) (s : Shape) (k b : ℕ) (v : List ℕ) → 0 < k → AreTexts P s k
    → ((u : List ℕ) (us : List (List ℕ)) → Each (λ x. P (unit_text s x)) (u ∷ us) → Q (join_with_byte 92 (map (unit_text s) (u ∷ us))))
    → Bytes (b ∷ v) → length (b ∷ v) % k ≡ 0 → Q (units_text s k (b ∷ v))
units_have Q P s k b v some texts show h e = with_parts (more_than_none (length w / k) k b v is)
  where
    w : List ℕ
    w = b ∷ v

    is : length w ≡ length w / k * k
    is = whole (length w) k some e

    with_parts : (j : ℕ) × (length w / k ≡ suc j) → Q (units_text s k w)
    with_parts m =
        let l : length w ≡ suc m.0 * k = is ∙ ap (λ n. n * k) m.1 in
        let u : units k w ≡ pieces (suc m.0) k w = units_are k (suc m.0) w some l in
        let each : Each (λ x. P (unit_text s x)) (pieces (suc m.0) k w) = each_piece (λ x. P (unit_text s x)) (suc m.0) k w texts l h in
        subst (λ us. Q (join_with_byte 92 (map (unit_text s) us))) (sym u) (show (take k w) (pieces m.0 k (drop k w)) each)

-- bytes begin with a plain one
pub record BeginsPlain (d : List ℕ) : Type 0 where
  pub first : ℕ
  pub more : List ℕ
  pub is : d ≡ first ∷ more
  pub plain : IsPlain first

first_is_plain : (c : ℕ) (cs t : List ℕ) → t ≡ c ∷ cs → Bytewise IsPlain t → IsPlain c
first_is_plain c cs [] e h = cc
first_is_plain c cs (b ∷ t) e h = let same : b ≡ c = cc in subst IsPlain same h.0

begins_plain : (write : List ℕ → List ℕ) (u : List ℕ) (us : List (List ℕ)) → Each (λ x. IsPlainText (write x)) (u ∷ us) → BeginsPlain (join_with_byte 92 (map write (u ∷ us)))
begins_plain write u us h =
    let b = begins write u us h.0 in
    record { first = b.0; more = b.1; is = b.2; plain = first_is_plain b.0 b.1 _ b.2 (joined_is_plain write u us (each_plain write (u ∷ us) h)) }

pub hex_begins_plain : (k b : ℕ) (v : List ℕ) → 0 < k → Bytes (b ∷ v) → length (b ∷ v) % k ≡ 0 → BeginsPlain (units_text hexadecimal k (b ∷ v))
hex_begins_plain k b v some h e = units_have BeginsPlain IsPlainText hexadecimal k b v some (hex_texts k some) (begins_plain (unit_text hexadecimal)) h e

unsigned_shows : (k b : ℕ) (v : List ℕ) → 0 < k → 256 ^ k ≤ 2 ^ 64 → Bytes (b ∷ v) → length (b ∷ v) % k ≡ 0 → Shows (units_text unsigned k (b ∷ v))
unsigned_shows k b v some most h e = units_have Shows IsPlainText unsigned k b v some (unsigned_texts k most) (plain_show (unit_text unsigned)) h e

signed_shows : (k b : ℕ) (v : List ℕ) → 0 < k → 256 ^ k ≤ 2 ^ 64 → 2 ^ (8 * k) ≡ 256 ^ k → 0 < 2 ^ (8 * k - 1) → Bytes (b ∷ v) → length (b ∷ v) % k ≡ 0 → Shows (units_text signed k (b ∷ v))
signed_shows k b v some most full half h e = units_have Shows IsPlainText signed k b v some (signed_texts k most full half) (plain_show (unit_text signed)) h e

hex_shows : (k b : ℕ) (v : List ℕ) → 0 < k → Bytes (b ∷ v) → length (b ∷ v) % k ≡ 0 → Shows (units_text hexadecimal k (b ∷ v))
hex_shows k b v some h e = units_have Shows IsPlainText hexadecimal k b v some (hex_texts k some) (plain_show (unit_text hexadecimal)) h e

tag_shows : (b : ℕ) (v : List ℕ) → Bytes (b ∷ v) → length (b ∷ v) % 4 ≡ 0 → Shows (units_text tags 4 (b ∷ v))
tag_shows b v h e = units_have Shows IsTagText tags 4 b v (omega arith) tag_texts (tags_show (unit_text tags)) h e

-- ---- displays

nothing_shows : Shows (codes "(no value available)")
nothing_shows = record { first = 40; more = codes "no value available)"; is = refl; no_space = refl; no_comment = refl; printed = printed_text (codes "(no value available)") refl; field_is = λ tail. refl }

texts_show : (vr : Vr) (v : List ℕ) → Bytes v → Shows (bracketed (unpadded vr v))
texts_show vr v h = text_shows (unpadded vr v) (Bytes-unpadded vr v h)

pub display_shows : (vr : Vr) (v : List ℕ) → is_sequence vr ≡ false → Bytes v → length v % shown_unit vr ≡ 0 → Shows (display vr v)
display_shows vr [] s h e = nothing_shows
display_shows SQ (b ∷ v) s h e = cc
display_shows UI (b ∷ v) s h e = identifier_shows (unpadded UI (b ∷ v)) (Bytes-unpadded UI (b ∷ v) h)
display_shows US (b ∷ v) s h e = unsigned_shows 2 b v (omega arith) (omega arith) h e
display_shows UL (b ∷ v) s h e = unsigned_shows 4 b v (omega arith) (omega arith) h e
display_shows UV (b ∷ v) s h e = unsigned_shows 8 b v (omega arith) (omega arith) h e
display_shows SS (b ∷ v) s h e = signed_shows 2 b v (omega arith) (omega arith) refl (omega arith) h e
display_shows SL (b ∷ v) s h e = signed_shows 4 b v (omega arith) (omega arith) refl (omega arith) h e
display_shows SV (b ∷ v) s h e = signed_shows 8 b v (omega arith) (omega arith) refl (omega arith) h e
display_shows AT (b ∷ v) s h e = tag_shows b v h e
display_shows OB (b ∷ v) s h e = hex_shows 1 b v (omega arith) h e
display_shows UN (b ∷ v) s h e = hex_shows 1 b v (omega arith) h e
display_shows OW (b ∷ v) s h e = hex_shows 2 b v (omega arith) h e
display_shows OL (b ∷ v) s h e = hex_shows 4 b v (omega arith) h e
display_shows FL (b ∷ v) s h e = hex_shows 4 b v (omega arith) h e
display_shows OF (b ∷ v) s h e = hex_shows 4 b v (omega arith) h e
display_shows FD (b ∷ v) s h e = hex_shows 8 b v (omega arith) h e
display_shows OD (b ∷ v) s h e = hex_shows 8 b v (omega arith) h e
display_shows OV (b ∷ v) s h e = hex_shows 8 b v (omega arith) h e
display_shows AE (b ∷ v) s h e = texts_show AE (b ∷ v) h
display_shows AS (b ∷ v) s h e = texts_show AS (b ∷ v) h
display_shows CS (b ∷ v) s h e = texts_show CS (b ∷ v) h
display_shows DA (b ∷ v) s h e = texts_show DA (b ∷ v) h
display_shows DS (b ∷ v) s h e = texts_show DS (b ∷ v) h
display_shows DT (b ∷ v) s h e = texts_show DT (b ∷ v) h
display_shows IS (b ∷ v) s h e = texts_show IS (b ∷ v) h
display_shows LO (b ∷ v) s h e = texts_show LO (b ∷ v) h
display_shows LT (b ∷ v) s h e = texts_show LT (b ∷ v) h
display_shows PN (b ∷ v) s h e = texts_show PN (b ∷ v) h
display_shows SH (b ∷ v) s h e = texts_show SH (b ∷ v) h
display_shows ST (b ∷ v) s h e = texts_show ST (b ∷ v) h
display_shows TM (b ∷ v) s h e = texts_show TM (b ∷ v) h
display_shows UC (b ∷ v) s h e = texts_show UC (b ∷ v) h
display_shows UR (b ∷ v) s h e = texts_show UR (b ∷ v) h
display_shows UT (b ∷ v) s h e = texts_show UT (b ∷ v) h
