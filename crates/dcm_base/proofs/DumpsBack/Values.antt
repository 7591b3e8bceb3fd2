-- The text of a value stands for the value.
use Rattle.std.proofs.Common.{◌≡◌, ℕ, zero, suc, ◌≤◌, ◌<◌, ◌+◌, ◌-◌, ◌*◌, ◌/◌, ◌%◌, ◌^◌, List, [], ◌∷◌, ◌++◌, length, map, take, drop, reverse, Option, Some, None, Bool, true, false, ◌&&◌, ◌||◌, cond, refl, sym, ◌∙◌, ap, subst, arith, decimal, flat_map, length-append, codes}
use Rattle.std.specs.Prelude.{if◌then◌else◌, ◌==◌, nat_le, nat_lt, slice_index, find, bytes_eq}
use Rattle.std.specs.Fmt.{digits}
use Rattle.std.specs.List.{join_with_byte, list_all}
use Rattle.std.specs.Option.{option_map_or}
use Rattle.std.specs.Int.Digits.{AllBelowBase, digits_of}
use Rattle.std.proofs.lemmas.Bool.Decides.{nat_tests}
use Rattle.std.proofs.lemmas.Fmt.{decimal-digits_of, decimal_nonempty}
use Rattle.std.proofs.lemmas.Int.Digits.{all_below_base_digits_of}
use Rattle.std.proofs.lemmas.List.{length-reverse, length-take-le, length-drop}
use Rattle.std.proofs.lemmas.Slice.Eq.{bytes_eq-Decides}
use Rattle.std.proofs.Math.Nat.{mul-div_cancel, mul-le-mul, mul_comm, div-add-mod}
use Rattle.dcm_lemmas.proofs.Numbers.{is_within}
use Rattle.dcm_lemmas.proofs.Options.{mapped}
use Rattle.dcm_lemmas.proofs.Choice.{if_true}
use Rattle.dcm_lemmas.proofs.Truth.{and_first, and_second}
use Rattle.dcm_base.specs.declared.vr.Vr.{Vr}
use Rattle.dcm_base.specs.declared.vr.Vr.TheVariants.{AE, AS, AT, CS, DA, DS, DT, FD, FL, IS, LO, LT, OB, OD, OF, OL, OV, OW, PN, SH, SL, SQ, SS, ST, SV, TM, UC, UI, UL, UN, UR, US, UT, UV}
use Rattle.dcm_base.specs.Tables.Representation.{is_sequence, pad}
use Rattle.dcm_base.specs.Tables.Uid.{uids, uid_in, uid_name, uid_of, Named}
use Rattle.dcm_base.specs.Tree.Value.{pieces, units, number_of}
use Rattle.dcm_base.specs.Dump.ValueText.{Shape, text, identifier, unsigned, signed, tags, hexadecimal, shown_unit, lower, upper, hex_byte, hex_word, escape, escaped, unpadded, bracketed, identified, signed_text, tag_text, unit_text, units_text, display}
use Rattle.dcm_base.specs.Lines.ReadValue.{◌>>=◌, joined, is_no_value, within_limit, value_in, value_of_text, value_shown, hex_value, unsigned_value, signed_value, tag_value}
use Rattle.dcm_base.proofs.DumpsBack.Texts.{Bytes, escaped_back}
use Rattle.dcm_base.proofs.DumpsBack.Numbers.{hex_back, signed_back, unsigned_back, tag_back, number_below, length-hex, Bytes-reverse}
use Rattle.dcm_base.proofs.DumpsBack.Parts.{Apart, Apart-append, IsPart, Each, Bytes-take, Bytes-drop, each_piece, parts_back, parts_within}

-- ---- what a value reads as

abbrev none_text : List ℕ
none_text = codes "(no value available)"

-- a text that reads as a value is not the one of an empty value
read_is : (s : Shape) (size : ℕ) (cs v : List ℕ) → value_in s size none_text ≡ None → value_in s size cs ≡ Some v → length v ≤ 65536
    → (if is_no_value cs then Some [] else (value_in s size cs >>= within_limit)) ≡ Some v
read_is s size cs v none is small = by_test (is_no_value cs) refl
  where
    fits : (n : ℕ) → n ≤ 65536 → nat_le n 65536 ≡ true
    fits n l = grind (arith, nat_tests, l)

    by_test : (t : Bool) → is_no_value cs ≡ t → (if t then Some [] else (value_in s size cs >>= within_limit)) ≡ Some v
    by_test true e =
        let same : cs ≡ none_text = (bytes_eq-Decides cs none_text).0 e in
        let apart : Some v ≡ None = sym is ∙ ap (value_in s size) same ∙ none in
        cc
    by_test false e = ap (λ o. o >>= within_limit) is ∙ if_true (nat_le (length v) 65536) (Some v) None (fits (length v) small)

-- ---- texts

pub Bytes-unpadded : (vr : Vr) (v : List ℕ) → Bytes v → Bytes (unpadded vr v)
Bytes-unpadded vr v h = by_test (length v % 2 == 0 && slice_index v (length v - 1) == pad vr)
  where
    by_test : (t : Bool) → Bytes (if t then take (length v - 1) v else v)
    by_test true = Bytes-take (length v - 1) v h
    by_test false = h

length-escape : (b : ℕ) → 1 ≤ length (escape b)
length-escape b = by_test (nat_lt b 32 || b == 127 || b == 37 || b == 93)
  where
    by_test : (t : Bool) → 1 ≤ length (if t then 37 ∷ upper (b / 16) ∷ upper (b % 16) ∷ [] else b ∷ [])
    by_test true = omega arith
    by_test false = omega arith

pub length-escaped : (v : List ℕ) → length v ≤ length (escaped v)
length-escaped [] = omega arith
length-escaped (b ∷ v) =
    let e : length (escape b ++ escaped v) ≡ length (escape b) + length (escaped v) = length-append (escape b) (escaped v) in
    omega (arith, e, length-escaped v, length-escape b)

small_text : (v : List ℕ) → length (bracketed v) ≤ 16384 → length v ≤ 65536
small_text v l =
    let e : length (escaped v ++ 93 ∷ []) ≡ length (escaped v) + 1 = length-append (escaped v) (93 ∷ []) in
    omega (arith, e, l, length-escaped v)

-- text and unique identifiers in brackets
text_is : (v : List ℕ) → Bytes v → value_in text 1 (bracketed v) ≡ Some v
text_is v h = escaped_back v h

-- ---- names of unique identifiers

reads_back : Named → Bool
reads_back u = elim (uid_in uids u.1) [ None ↦ false | Some uid ↦ bytes_eq uid u.0 && nat_le (length uid) 64 ]

all_read_back : list_all reads_back uids ≡ true
unfolding uids reads_back
all_read_back = refl

pub found : (p q : Named → Bool) (l : List Named) (e : Named) → list_all q l ≡ true → find p l ≡ Some e → (q e ≡ true) × (p e ≡ true)
found p q [] e a f = cc
found p q (x ∷ l) e a f = by_test (p x) refl f (found p q l e (and_second (q x) _ a))
  where
    by_test : (t : Bool) → t ≡ p x → cond t (Some x) (find p l) ≡ Some e → (find p l ≡ Some e → (q e ≡ true) × (p e ≡ true)) → (q e ≡ true) × (p e ≡ true)
    by_test true t g more = let same : x ≡ e = cc in let P : Named → Type 0 = λ y. (q y ≡ true) × (p y ≡ true) in subst P same (and_first _ _ a, sym t)
    by_test false t g more = more g

-- the name of an identifier leads back to it
name_back : (uid name : List ℕ) → uid_name uid ≡ Some name → (uid_of name ≡ Some uid) × (length uid ≤ 64)
unfolding uid_name uid_of reads_back
name_back uid name p =
    let m = mapped (λ (u : Named). u.1) (find (λ (u : Named). bytes_eq u.0 uid) uids) name p in
    let q = found (λ u. bytes_eq u.0 uid) reads_back uids m.0 all_read_back m.1 in
    let is : m.0.0 ≡ uid = (bytes_eq-Decides m.0.0 uid).0 q.1 in
    by_answer (uid_in uids m.0.1) m.0 is m.2 refl q.0
  where
    by_answer : (o : Option (List ℕ)) (u : Named) → u.0 ≡ uid → u.1 ≡ name → uid_in uids u.1 ≡ o → (let b : Bool = elim o [ None ↦ false | Some x ↦ bytes_eq x u.0 && nat_le (length x) 64 ] in b ≡ true)
        → (uid_in uids name ≡ Some uid) × (length uid ≤ 64)
    by_answer None u is named e t = cc
    by_answer (Some x) u is named e t =
        let same : x ≡ uid = (bytes_eq-Decides x u.0).0 (and_first _ _ t) ∙ is in
        (ap (uid_in uids) (sym named) ∙ e ∙ ap Some same, subst (λ (y : List ℕ). length y ≤ 64) same (is_within (length x) 64 (and_second (bytes_eq x u.0) _ t)))

-- ---- units

Apart-digits : (ds : List ℕ) → AllBelowBase 10 ds → Apart (map (λ d. 48 + d) ds)
Apart-digits [] h = tt
Apart-digits (d ∷ ds) h = (is_apart d h.0, Apart-digits ds h.1)
  where
    is_apart : (d : ℕ) → d < 10 → (48 + d == 92) ≡ false
    is_apart d l = grind (arith, nat_tests)

Apart-decimal : (n : ℕ) → n < 2 ^ 64 → Apart (decimal n)
unfolding digits
Apart-decimal zero l = (refl, tt)
Apart-decimal (suc n) l = subst Apart (sym (decimal-digits_of (suc n) (omega arith) l)) (Apart-digits (digits_of 10 (suc n)) (all_below_base_digits_of 10 (suc n) (omega arith)))

lower_apart : (d : ℕ) → d < 16 → (lower d == 92) ≡ false
lower_apart d l = grind (arith, nat_tests)

Apart-hex : (b : ℕ) (r : List ℕ) → b < 256 → Apart r → Apart (hex_byte b ++ r)
Apart-hex b r l h = (lower_apart (b / 16) (omega (arith, l)), (lower_apart (b % 16) (omega arith), h))

Apart-bytes : (w : List ℕ) → Bytes w → Apart (flat_map hex_byte w)
Apart-bytes [] h = tt
Apart-bytes (b ∷ w) h = Apart-hex b (flat_map hex_byte w) h.0 (Apart-bytes w h.1)

-- what the definitions say of units of a size
abbrev pub HasParts : Shape → (List ℕ → Option (List ℕ)) → ℕ → Type 0
HasParts s read k = (u : List ℕ) → length u ≡ k → Bytes u → IsPart read (unit_text s) u

pub below_64 : (u : List ℕ) (k : ℕ) → 256 ^ k ≤ 2 ^ 64 → length u ≡ k → Bytes u → number_of u < 2 ^ 64
below_64 u k most l h = let e : number_of u < 256 ^ k = subst (λ n. number_of u < 256 ^ n) l (number_below u h) in omega (arith, e, most)

pub unsigned_parts : (k : ℕ) → 256 ^ k ≤ 2 ^ 64 → HasParts unsigned (unsigned_value k) k
unsigned_parts k most u l h =
    let n : number_of u < 2 ^ 64 = below_64 u k most l h in
    record { back = unsigned_back k u most l h; some = decimal_nonempty (number_of u) n; apart = Apart-decimal (number_of u) n }

pub hex_parts : (k : ℕ) → 0 < k → HasParts hexadecimal (hex_value k) k
hex_parts k some u l h =
    record {
      back = hex_back k u l h;
      some = omega (arith, some, l, length-hex (reverse u), length-reverse u);
      apart = Apart-bytes (reverse u) (Bytes-reverse u h);
    }

pub two_below : (x : List ℕ) → length x ≡ 2 → Bytes x → number_of x < 65536
two_below x m b = subst (λ n. number_of x < 256 ^ n) m (number_below x b)

Apart-word : (n : ℕ) (r : List ℕ) → n < 65536 → Apart r → Apart (hex_word n ++ r)
Apart-word n r l h = Apart-append (hex_word n) r (Apart-hex (n / 256) (hex_byte (n % 256)) (omega (arith, l)) (Apart-hex (n % 256) [] (omega arith) tt)) h

Apart-tag : (g e : ℕ) → g < 65536 → e < 65536 → Apart (tag_text g e)
Apart-tag g e l m = (refl, Apart-word g (44 ∷ (hex_word e ++ 41 ∷ [])) l (refl, Apart-word e (41 ∷ []) m (refl, tt)))

pub tag_parts : HasParts tags tag_value 4
tag_parts u l h =
    record {
      back = tag_back u l h;
      some = omega arith;
      apart = Apart-tag _ _ (two_below (take 2 u) (length-take-le 2 u (omega (arith, l))) (Bytes-take 2 u h)) (two_below (drop 2 u) (omega (arith, l, length-drop 2 u)) (Bytes-drop 2 u h));
    }

pub signed_parts : (k half full : ℕ) → 2 ^ (8 * k - 1) ≡ half → 2 ^ (8 * k) ≡ full → 256 ^ k ≡ full → full ≡ 2 * half → full ≤ 2 ^ 64 → HasParts signed (signed_value k) k
signed_parts k half full p q r t most u l h =
    let is = by_test (nat_lt n (2 ^ (8 * length u - 1))) refl in
    record { back = ap (λ i. signed_value k (signed_text i n)) l ∙ signed_back k half full u p q r t most l h; some = is.0; apart = is.1 }
  where
    n : ℕ
    n = number_of u

    m : ℕ
    m = 2 ^ (8 * length u) - n

    below : n < full
    below = subst (λ i. n < i) (ap (λ i. 256 ^ i) l ∙ r) (number_below u h)

    is_past : (a b : ℕ) → nat_lt a b ≡ false → b ≤ a
    is_past a b e = grind (arith, nat_tests, e)

    m_below : half ≤ n → m < 2 ^ 64
    m_below g = let e : 2 ^ (8 * length u) ≡ full = ap (λ x. 2 ^ (8 * x)) l ∙ q in omega (arith, e, most, g, below, t)

    by_test : (b : Bool) → nat_lt n (2 ^ (8 * length u - 1)) ≡ b → (0 < length (if b then decimal n else 45 ∷ decimal m)) × Apart (if b then decimal n else 45 ∷ decimal m)
    by_test true e = let i : n < 2 ^ 64 = omega (arith, below, most) in (decimal_nonempty n i, Apart-decimal n i)
    by_test false e =
        let at_least : half ≤ n = subst (λ i. i ≤ n) (ap (λ x. 2 ^ (8 * x - 1)) l ∙ p) (is_past n (2 ^ (8 * length u - 1)) e) in
        (omega arith, (refl, Apart-decimal m (m_below at_least)))

-- ---- values of whole units

pub whole : (n k : ℕ) → 0 < k → n % k ≡ 0 → n ≡ n / k * k
whole n k some e = let d : k * (n / k) + n % k ≡ n = div-add-mod n k in let c : k * (n / k) ≡ n / k * k = mul_comm k (n / k) in omega (arith, d, c, e)

pub units_are : (k m : ℕ) (v : List ℕ) → 0 < k → length v ≡ m * k → units k v ≡ pieces m k v
units_are k m v some l = ap (λ n. pieces n k v) (ap (λ n. n / k) l ∙ mul-div_cancel m some)

pub more_than_none : (m k : ℕ) (b : ℕ) (v : List ℕ) → length (b ∷ v) ≡ m * k → (j : ℕ) × (m ≡ suc j)
more_than_none zero k b v l = absurd (omega (arith, l))
more_than_none (suc j) k b v l = (j, refl)

-- the text of a value of whole units, read by units of this size
units_back : (s : Shape) (read : List ℕ → Option (List ℕ)) (k b : ℕ) (v : List ℕ) → 0 < k → k ≤ 8 → HasParts s read k → Bytes (b ∷ v) → length (b ∷ v) % k ≡ 0
    → length (units_text s k (b ∷ v)) ≤ 16384 → (joined read (units_text s k (b ∷ v)) ≡ Some (b ∷ v)) × (length (b ∷ v) ≤ 65536)
units_back s read k b v some small parts h e long = with_parts (more_than_none (length w / k) k b v is)
  where
    w : List ℕ
    w = b ∷ v

    is : length w ≡ length w / k * k
    is = whole (length w) k some e

    with_parts : (j : ℕ) × (length w / k ≡ suc j) → (joined read (units_text s k w) ≡ Some w) × (length w ≤ 65536)
    with_parts m =
        let l : length w ≡ suc m.0 * k = is ∙ ap (λ n. n * k) m.1 in
        let u : units k w ≡ pieces (suc m.0) k w = units_are k (suc m.0) w some l in
        let t : units_text s k w ≡ join_with_byte 92 (map (unit_text s) (pieces (suc m.0) k w)) = ap (λ us. join_with_byte 92 (map (unit_text s) us)) u in
        let each : Each (IsPart read (unit_text s)) (pieces (suc m.0) k w) = each_piece (IsPart read (unit_text s)) (suc m.0) k w parts l h in
        let few : 2 * suc m.0 ≤ length (join_with_byte 92 (map (unit_text s) (pieces (suc m.0) k w))) + 1 = parts_within read (unit_text s) m.0 k w each in
        let count : suc m.0 ≤ 8192 = omega (arith, few, long, ap length t) in
        let size : suc m.0 * k ≤ 8192 * 8 = mul-le-mul count small in
        (ap (joined read) t ∙ parts_back read (unit_text s) m.0 k w l each, omega (arith, l, size))

-- ---- the law

abbrev Read : Shape → ℕ → List ℕ → List ℕ → Type 0
Read s size cs v = (if is_no_value cs then Some [] else (value_in s size cs >>= within_limit)) ≡ Some v

text_case : (v : List ℕ) → Bytes v → length (bracketed v) ≤ 16384 → Read text 1 (bracketed v) v
text_case v h l = read_is text 1 (bracketed v) v refl (text_is v h) (small_text v l)

identifier_case : (v : List ℕ) → Bytes v → length (identified v) ≤ 16384 → Read identifier 1 (identified v) v
identifier_case v h = by_name (uid_name v) refl
  where
    by_name : (o : Option (List ℕ)) → uid_name v ≡ o → length (option_map_or (λ name. 61 ∷ name) o (bracketed v)) ≤ 16384 → Read identifier 1 (option_map_or (λ name. 61 ∷ name) o (bracketed v)) v
    by_name None e l = read_is identifier 1 (bracketed v) v refl (text_is v h) (small_text v l)
    by_name (Some name) e l = let n = name_back v name e in read_is identifier 1 (61 ∷ name) v refl n.0 (omega (arith, n.1))

unsigned_case : (k b : ℕ) (v : List ℕ) → value_in unsigned k none_text ≡ None → 256 ^ k ≤ 2 ^ 64 → 0 < k → k ≤ 8 → Bytes (b ∷ v) → length (b ∷ v) % k ≡ 0 → length (units_text unsigned k (b ∷ v)) ≤ 16384
    → Read unsigned k (units_text unsigned k (b ∷ v)) (b ∷ v)
unsigned_case k b v none most some small h e l =
    let r = units_back unsigned (unsigned_value k) k b v some small (unsigned_parts k most) h e l in read_is unsigned k (units_text unsigned k (b ∷ v)) (b ∷ v) none r.0 r.1

signed_case : (k half full b : ℕ) (v : List ℕ) → value_in signed k none_text ≡ None → 2 ^ (8 * k - 1) ≡ half → 2 ^ (8 * k) ≡ full → 256 ^ k ≡ full → full ≡ 2 * half → full ≤ 2 ^ 64 → 0 < k → k ≤ 8
    → Bytes (b ∷ v) → length (b ∷ v) % k ≡ 0 → length (units_text signed k (b ∷ v)) ≤ 16384 → Read signed k (units_text signed k (b ∷ v)) (b ∷ v)
signed_case k half full b v none p q t two most some small h e l =
    let r = units_back signed (signed_value k) k b v some small (signed_parts k half full p q t two most) h e l in read_is signed k (units_text signed k (b ∷ v)) (b ∷ v) none r.0 r.1

hex_case : (k b : ℕ) (v : List ℕ) → value_in hexadecimal k none_text ≡ None → 0 < k → k ≤ 8 → Bytes (b ∷ v) → length (b ∷ v) % k ≡ 0 → length (units_text hexadecimal k (b ∷ v)) ≤ 16384
    → Read hexadecimal k (units_text hexadecimal k (b ∷ v)) (b ∷ v)
hex_case k b v none some small h e l =
    let r = units_back hexadecimal (hex_value k) k b v some small (hex_parts k some) h e l in read_is hexadecimal k (units_text hexadecimal k (b ∷ v)) (b ∷ v) none r.0 r.1

tag_case : (b : ℕ) (v : List ℕ) → Bytes (b ∷ v) → length (b ∷ v) % 4 ≡ 0 → length (units_text tags 4 (b ∷ v)) ≤ 16384 → Read tags 2 (units_text tags 4 (b ∷ v)) (b ∷ v)
tag_case b v h e l = let r = units_back tags tag_value 4 b v (omega arith) (omega arith) tag_parts h e l in read_is tags 2 (units_text tags 4 (b ∷ v)) (b ∷ v) refl r.0 r.1

nothing_back : (vr : Vr) → is_sequence vr ≡ false → value_of_text vr (display vr []) ≡ Some (value_shown vr [])
nothing_back SQ s = cc
nothing_back _ s = refl

pub value_back : (vr : Vr) (v : List ℕ) → is_sequence vr ≡ false → Bytes v → length v % shown_unit vr ≡ 0 → length (display vr v) ≤ 16384 → value_of_text vr (display vr v) ≡ Some (value_shown vr v)
value_back vr [] s h e l = nothing_back vr s
value_back SQ (b ∷ v) s h e l = cc
value_back UI (b ∷ v) s h e l = identifier_case (unpadded UI (b ∷ v)) (Bytes-unpadded UI (b ∷ v) h) l
value_back US (b ∷ v) s h e l = unsigned_case 2 b v refl (omega arith) (omega arith) (omega arith) h e l
value_back UL (b ∷ v) s h e l = unsigned_case 4 b v refl (omega arith) (omega arith) (omega arith) h e l
value_back UV (b ∷ v) s h e l = unsigned_case 8 b v refl (omega arith) (omega arith) (omega arith) h e l
value_back SS (b ∷ v) s h e l = signed_case 2 32768 65536 b v refl refl refl refl refl (omega arith) (omega arith) (omega arith) h e l
value_back SL (b ∷ v) s h e l = signed_case 4 2147483648 4294967296 b v refl refl refl refl refl (omega arith) (omega arith) (omega arith) h e l
value_back SV (b ∷ v) s h e l = signed_case 8 9223372036854775808 18446744073709551616 b v refl refl refl refl refl (omega arith) (omega arith) (omega arith) h e l
value_back AT (b ∷ v) s h e l = tag_case b v h e l
value_back OB (b ∷ v) s h e l = hex_case 1 b v refl (omega arith) (omega arith) h e l
value_back UN (b ∷ v) s h e l = hex_case 1 b v refl (omega arith) (omega arith) h e l
value_back OW (b ∷ v) s h e l = hex_case 2 b v refl (omega arith) (omega arith) h e l
value_back OL (b ∷ v) s h e l = hex_case 4 b v refl (omega arith) (omega arith) h e l
value_back FL (b ∷ v) s h e l = hex_case 4 b v refl (omega arith) (omega arith) h e l
value_back OF (b ∷ v) s h e l = hex_case 4 b v refl (omega arith) (omega arith) h e l
value_back FD (b ∷ v) s h e l = hex_case 8 b v refl (omega arith) (omega arith) h e l
value_back OD (b ∷ v) s h e l = hex_case 8 b v refl (omega arith) (omega arith) h e l
value_back OV (b ∷ v) s h e l = hex_case 8 b v refl (omega arith) (omega arith) h e l
value_back AE (b ∷ v) s h e l = text_case (unpadded AE (b ∷ v)) (Bytes-unpadded AE (b ∷ v) h) l
value_back AS (b ∷ v) s h e l = text_case (unpadded AS (b ∷ v)) (Bytes-unpadded AS (b ∷ v) h) l
value_back CS (b ∷ v) s h e l = text_case (unpadded CS (b ∷ v)) (Bytes-unpadded CS (b ∷ v) h) l
value_back DA (b ∷ v) s h e l = text_case (unpadded DA (b ∷ v)) (Bytes-unpadded DA (b ∷ v) h) l
value_back DS (b ∷ v) s h e l = text_case (unpadded DS (b ∷ v)) (Bytes-unpadded DS (b ∷ v) h) l
value_back DT (b ∷ v) s h e l = text_case (unpadded DT (b ∷ v)) (Bytes-unpadded DT (b ∷ v) h) l
value_back IS (b ∷ v) s h e l = text_case (unpadded IS (b ∷ v)) (Bytes-unpadded IS (b ∷ v) h) l
value_back LO (b ∷ v) s h e l = text_case (unpadded LO (b ∷ v)) (Bytes-unpadded LO (b ∷ v) h) l
value_back LT (b ∷ v) s h e l = text_case (unpadded LT (b ∷ v)) (Bytes-unpadded LT (b ∷ v) h) l
value_back PN (b ∷ v) s h e l = text_case (unpadded PN (b ∷ v)) (Bytes-unpadded PN (b ∷ v) h) l
value_back SH (b ∷ v) s h e l = text_case (unpadded SH (b ∷ v)) (Bytes-unpadded SH (b ∷ v) h) l
value_back ST (b ∷ v) s h e l = text_case (unpadded ST (b ∷ v)) (Bytes-unpadded ST (b ∷ v) h) l
value_back TM (b ∷ v) s h e l = text_case (unpadded TM (b ∷ v)) (Bytes-unpadded TM (b ∷ v) h) l
value_back UC (b ∷ v) s h e l = text_case (unpadded UC (b ∷ v)) (Bytes-unpadded UC (b ∷ v) h) l
value_back UR (b ∷ v) s h e l = text_case (unpadded UR (b ∷ v)) (Bytes-unpadded UR (b ∷ v) h) l
value_back UT (b ∷ v) s h e l = text_case (unpadded UT (b ∷ v)) (Bytes-unpadded UT (b ∷ v) h) l
