-- A text of ASCII is shown as without Specific Character Set.
use Rattle.std.proofs.Common.{◌≡◌, ◌<◌, ◌≤◌, ℕ, ◌+◌, ◌-◌, ◌/◌, ◌%◌, ◌==◌, ◌&&◌, ◌||◌, not, nat_lt, Bool, true, false, cond, List, [], ◌∷◌, ◌++◌, length, take, drop, slice_index, get_or, codes, map, Option, Some, None, ap, sym, ◌∙◌, refl, arith, subst}
use Rattle.std.specs.Prelude.{nat_le, count_by, flat_map, bytes_eq, find, option_map, IsAscii}
use Rattle.std.specs.List.{list_all}
use Rattle.std.specs.Option.{option_map_or}
use Rattle.std.proofs.lemmas.Bool.{and_parts, false≢true, cases_Bool}
use Rattle.std.proofs.lemmas.Bool.{lt-ltb, le-ltb, cases_lt}
use Rattle.std.proofs.lemmas.Bool.Decides.{nat_tests, leb_tells}
use Rattle.std.proofs.lemmas.List.{take-append-drop}
use Rattle.std.proofs.lemmas.List.Folds.{list_all-append, list_all_at}
use Rattle.std.proofs.lemmas.List.Sums.{sum_by-cons, sum_by-append}
use Rattle.std.proofs.lemmas.Str.Ascii.{IsAscii-from_all}
use mathlib.Core.Logic.{⊎_elim}
use Rattle.dcm_base.specs.declared.vr.Vr.{Vr}
use Rattle.dcm_base.specs.declared.vr.Vr.TheVariants.{UI}
use Rattle.dcm_base.specs.declared.mode.Mode.{Mode}
use Rattle.dcm_base.specs.declared.mode.Mode.TheVariants.{Short, Full}
use Rattle.dcm_base.specs.Tables.Representation.{is_text, pad}
use Rattle.dcm_base.specs.Tables.Uid.{Named, uid_name, uids, name_in}
use Rattle.dcm_base.specs.Lines.ReadValue.{takes_bytes}
use Rattle.dcm_base.specs.Dump.ValueText.{Shape, text, identifier, unsigned, signed, tags, hexadecimal, shape, is_single, escape, escaped, upper, unpadded, bracketed, identified, shown, display, shortened, padded, text_of, counted, count}
use Rattle.dcm_text.specs.declared.set.TextKind.{TextKind}
use Rattle.dcm_text.specs.declared.set.TextKind.TheVariants.{OneValue}
use Rattle.dcm_text.specs.declared.sets.Sets.{Sets}
use Rattle.dcm_text.specs.Sets.{sets_of}
use Rattle.dcm_text.specs.First.{is_escape}
use Rattle.dcm_text.specs.Decoding.{Piece, decoded}
use Rattle.dcm_text.specs.Shown.{digit, dumped, percent}
use Rattle.dcm_text.specs.Laws.{is_plain, as_itself, ascii_dumped}
use Rattle.dcm_text.proofs.Displays.{ascii_dump}
use Rattle.dcm_text.proofs.Whole.{plain_decoded}
use Rattle.dcm_value.specs.Way.{without_pad}
use Rattle.dcm_value.specs.Plain.{is_plain_byte, is_ascii_byte}
use Rattle.dcm_value.specs.Decoded.{is_backslash, backslashes, goes_on, cut_size}
use Rattle.dcm_value.specs.DecodedProgress.{sets_for, kind_of, is_named, decoded_identified}
use Rattle.dcm_value.specs.DecodedDisplay.{decoded_display, decoded_count, decoded_shortened, decoded_text_of}
use Rattle.dcm_value.specs.DecodedLaws.{AsciiAsBefore, DecodedAsBefore}
use Rattle.dcm_value.proofs.Displays.PlainTexts.{plain_escaped}
use Rattle.dcm_value.proofs.Displays.TextEnds.{without_last, without_none}
use Rattle.dcm_value.proofs.Displays.DecodedAscii.{is_identifier, named_shape}
use Rattle.dcm_value.proofs.Displays.TextSteps.{Sort, of_text, of_name, of_number, IsNumber, sort, long_unnamed, length_unpadded, last_of}

-- ---- one byte

abbrev pub low : ℕ → Bool
low b = nat_lt b 128

none_of : (a b c d : Bool) → not (a || b || c || d) ≡ true → (a ≡ false) × (b ≡ false) × (c ≡ false) × (d ≡ false)
none_of true b c d e = absurd (false≢true e)
none_of false true c d e = absurd (false≢true e)
none_of false false true d e = absurd (false≢true e)
none_of false false false true e = absurd (false≢true e)
none_of false false false false e = (refl, refl, refl, refl)

byte_low : (b : ℕ) → nat_lt 126 b ≡ false → low b ≡ true
byte_low b e = grind (arith, nat_tests)

byte_no_escape : (b : ℕ) → nat_lt b 32 ≡ false → (b == 0x1B) ≡ false
byte_no_escape b e = grind (arith, nat_tests)

byte_not_deleted : (b : ℕ) → nat_lt 126 b ≡ false → (b == 127) ≡ false
byte_not_deleted b e = grind (arith, nat_tests)

-- a byte of such a text is low, is plain by all sets and without them, and is shown as it is
pub record Alike (sets : Sets) (b : ℕ) : Type 0 where
  pub is_low : low b ≡ true
  pub plain : is_plain sets b ≡ true
  pub before : is_plain_byte b ≡ true
  pub shown : ascii_dumped b ≡ b ∷ []

pub alike : (sets : Sets) (b : ℕ) → is_ascii_byte b ≡ true → Alike sets b
alike sets b e =
    let n = none_of (nat_lt b 32) (nat_lt 126 b) (b == 37) (b == 93) e in
    let deleted : (b == 127) ≡ false = byte_not_deleted b n.1 in record {
      is_low = byte_low b n.1;
      plain =
          ap (λ t. t && not (is_escape sets b)) (byte_low b n.1)
          ∙ ap (λ t. not (t && sets.extended)) (byte_no_escape b n.0);
      before =
          ap (λ t. not (t || b == 127 || b == 37 || b == 93)) n.0
          ∙ ap (λ t. not (t || b == 37 || b == 93)) deleted
          ∙ ap (λ t. not (t || b == 93)) n.2
          ∙ ap not n.3;
      shown =
          ap (λ t. cond (t || (b == 127) || (b == 37) || (b == 93)) (percent b) (b ∷ [])) n.0
          ∙ ap (λ t. cond (t || (b == 37) || (b == 93)) (percent b) (b ∷ [])) deleted
          ∙ ap (λ t. cond (t || (b == 93)) (percent b) (b ∷ [])) n.2
          ∙ ap (λ t. cond t (percent b) (b ∷ [])) n.3;
    }

-- ---- a text

pub all_as : (p q : ℕ → Bool) → ((b : ℕ) → p b ≡ true → q b ≡ true) → (t : List ℕ) → list_all p t ≡ true → list_all q t ≡ true
all_as p q f [] e = refl
all_as p q f (b ∷ bs) e =
    let both = and_parts (p b) (list_all p bs) e in
    ap (λ x. x && list_all q bs) (f b both.0) ∙ all_as p q f bs both.1

all_shown : (sets : Sets) (t : List ℕ) → list_all is_ascii_byte t ≡ true → flat_map ascii_dumped t ≡ t
all_shown sets [] e = refl
all_shown sets (b ∷ bs) e =
    let both = and_parts (is_ascii_byte b) (list_all is_ascii_byte bs) e in
    ap (λ (x : List ℕ). x ++ flat_map ascii_dumped bs) (alike sets b both.0).shown ∙ ap (λ (x : List ℕ). b ∷ x) (all_shown sets bs both.1)

pub text_low : (sets : Sets) (t : List ℕ) → list_all is_ascii_byte t ≡ true → list_all low t ≡ true
text_low sets t e = all_as is_ascii_byte low (λ b f. (alike sets b f).is_low) t e

pub text_plain : (sets : Sets) (t : List ℕ) → list_all is_ascii_byte t ≡ true → list_all (is_plain sets) t ≡ true
text_plain sets t e = all_as is_ascii_byte (is_plain sets) (λ b f. (alike sets b f).plain) t e

pub text_itself : (sets : Sets) (kind : TextKind) (t : List ℕ) → list_all is_ascii_byte t ≡ true → dumped sets kind t ≡ t
text_itself sets kind t e = ascii_dump sets kind t (text_plain sets t e) ∙ all_shown sets t e

pub text_dumped : (sets : Sets) (kind : TextKind) (t : List ℕ) → list_all is_ascii_byte t ≡ true → dumped sets kind t ≡ escaped t
text_dumped sets kind t e =
    text_itself sets kind t e
    ∙ sym (plain_escaped t (all_as is_ascii_byte is_plain_byte (λ b f. (alike sets b f).before) t e))

-- ---- a text of any bytes below 80 that designates nothing

digit_upper : (n : ℕ) → digit n 65 ≡ upper n
digit_upper n = ⊎_elim (λ l. decimal_one (lt-ltb n 10 l)) (λ l. letter (le-ltb n 10 l) l) (cases_lt n 10)
  where
    decimal_one : nat_lt n 10 ≡ true → digit n 65 ≡ upper n
    decimal_one e = ap (λ t. cond t (48 + n) (65 + (n - 10))) e ∙ sym (ap (λ t. cond t (48 + n) (55 + n)) e)

    letter : nat_lt n 10 ≡ false → 10 ≤ n → digit n 65 ≡ upper n
    letter e l =
        let same : 65 + (n - 10) ≡ 55 + n = omega (arith, l) in
        ap (λ t. cond t (48 + n) (65 + (n - 10))) e ∙ same ∙ sym (ap (λ t. cond t (48 + n) (55 + n)) e)

-- what dumps show of a byte of ASCII is what they show of it without sets
byte_escaped : (b : ℕ) → ascii_dumped b ≡ escape b
byte_escaped b =
    ap (λ x. cond (nat_lt b 32 || b == 127 || b == 37 || b == 93) (37 ∷ x ∷ digit (b % 16) 65 ∷ []) (b ∷ [])) (digit_upper (b / 16))
    ∙ ap (λ x. cond (nat_lt b 32 || b == 127 || b == 37 || b == 93) (37 ∷ upper (b / 16) ∷ x ∷ []) (b ∷ [])) (digit_upper (b % 16))

all_escaped : (t : List ℕ) → flat_map ascii_dumped t ≡ escaped t
all_escaped [] = refl
all_escaped (b ∷ bs) = ap (λ (x : List ℕ). x ++ flat_map ascii_dumped bs) (byte_escaped b) ∙ ap (λ (x : List ℕ). escape b ++ x) (all_escaped bs)

pub plain_dumped : (sets : Sets) (kind : TextKind) (t : List ℕ) → list_all (is_plain sets) t ≡ true → dumped sets kind t ≡ escaped t
plain_dumped sets kind t e = ascii_dump sets kind t e ∙ all_escaped t

digit_low : (d : ℕ) → d < 16 → low (upper d) ≡ true
digit_low d l = ⊎_elim (λ h. decimal_low (lt-ltb d 10 h)) (λ h. letter_low (le-ltb d 10 h)) (cases_lt d 10)
  where
    decimal_low : nat_lt d 10 ≡ true → low (upper d) ≡ true
    decimal_low e = ap (λ t. low (cond t (48 + d) (55 + d))) e ∙ lt-ltb (48 + d) 128 (omega (arith, l))

    letter_low : nat_lt d 10 ≡ false → low (upper d) ≡ true
    letter_low e = ap (λ t. low (cond t (48 + d) (55 + d))) e ∙ lt-ltb (55 + d) 128 (omega (arith, l))

escape_low : (b : ℕ) → low b ≡ true → list_all low (escape b) ≡ true
escape_low b e = go (nat_lt b 32 || b == 127 || b == 37 || b == 93)
  where
    below : (n : ℕ) → low n ≡ true → n < 128
    below n h = grind (arith, nat_tests)

    high : b / 16 < 16
    high = let small : b < 128 = below b e in omega (arith, small)

    go : (t : Bool) → list_all low (cond t (37 ∷ upper (b / 16) ∷ upper (b % 16) ∷ []) (b ∷ [])) ≡ true
    go true = ap (λ t. t && (low (upper (b % 16)) && true)) (digit_low (b / 16) high) ∙ ap (λ t. t && true) (digit_low (b % 16) (omega arith))
    go false = ap (λ t. t && true) e

plain_low : (sets : Sets) (b : ℕ) → is_plain sets b ≡ true → low b ≡ true
plain_low sets b e = (and_parts (low b) (not (is_escape sets b)) e).0

pub escaped_low : (t : List ℕ) → list_all low t ≡ true → list_all low (escaped t) ≡ true
escaped_low [] e = refl
escaped_low (b ∷ bs) e =
    let both = and_parts (low b) (list_all low bs) e in
    list_all-append low (escape b) (escaped bs) ∙ ap (λ t. t && list_all low (escaped bs)) (escape_low b both.0) ∙ escaped_low bs both.1

pub itself_counted : (t : List ℕ) → backslashes (map as_itself t) ≡ count_by (λ b. b == 92) t
itself_counted [] = refl
itself_counted (b ∷ bs) =
    sum_by-cons (λ (p : Piece). cond (is_backslash p.1) 1 0) (as_itself b) (map as_itself bs)
    ∙ ap (λ n. cond (b == 92) 1 0 + n) (itself_counted bs)
    ∙ sym (sum_by-cons (λ (x : ℕ). cond (x == 92) 1 0) b bs)

plain_counted : (sets : Sets) (kind : TextKind) (t : List ℕ) → list_all (is_plain sets) t ≡ true → backslashes (decoded sets kind t) ≡ count_by (λ b. b == 92) t
plain_counted sets kind t e = ap backslashes (plain_decoded sets kind t e) ∙ itself_counted t

pub text_counted : (sets : Sets) (kind : TextKind) (t : List ℕ) → list_all is_ascii_byte t ≡ true → backslashes (decoded sets kind t) ≡ count_by (λ b. b == 92) t
text_counted sets kind t e = plain_counted sets kind t (text_plain sets t e)

-- ---- the pad byte is no backslash

pad_other : (vr : Vr) → (pad vr == 92) ≡ false
pad_other vr = go (is_text vr)
  where
    go : (t : Bool) → ((cond t 32 0) == 92) ≡ false
    go true = refl
    go false = refl

last_counted : (vr : Vr) (init : List ℕ) (b : ℕ) (t : Bool) → (t && b == pad vr) ≡ true → count_by (λ x. x == 92) init ≡ count_by (λ x. x == 92) (init ++ b ∷ [])
last_counted vr init b t e =
    let is : b ≡ pad vr = same b (pad vr) (and_parts t (b == pad vr) e).1 in
    let none : (b == 92) ≡ false = ap (λ x. x == 92) is ∙ pad_other vr in
    let one : count_by (λ x. x == 92) (b ∷ []) ≡ cond (b == 92) 1 0 + 0 = sum_by-cons (λ (x : ℕ). cond (x == 92) 1 0) b [] in
    let zero_ : (cond (b == 92) 1 0) + 0 ≡ 0 = ap (λ x. cond x 1 0 + 0) none in
    let all : count_by (λ x. x == 92) (init ++ b ∷ []) ≡ count_by (λ x. x == 92) init + count_by (λ x. x == 92) (b ∷ []) = sum_by-append (λ (x : ℕ). cond (x == 92) 1 0) init (b ∷ []) in
    omega (arith, one, all, zero_)
  where
    same : (m n : ℕ) → (m == n) ≡ true → m ≡ n
    same m n e = grind (arith, nat_tests)

-- without the pad byte, as many
last_without : (vr : Vr) (t : Bool) (init : List ℕ) (b : ℕ) → count_by (λ x. x == 92) (without_pad vr t (init ++ b ∷ [])) ≡ count_by (λ x. x == 92) (init ++ b ∷ [])
last_without vr t init b =
    ap (count_by (λ x. x == 92)) (without_last vr t init b)
    ∙ ⊎_elim
    (λ e. ap (λ x. count_by (λ x. x == 92) (cond x init (init ++ b ∷ []))) e ∙ last_counted vr init b t e)
    (λ e. ap (λ x. count_by (λ x. x == 92) (cond x init (init ++ b ∷ []))) e)
    (cases_Bool (t && b == pad vr))

without_counted : (vr : Vr) (t : Bool) (v : List ℕ) → count_by (λ x. x == 92) (without_pad vr t v) ≡ count_by (λ x. x == 92) v
without_counted vr t [] = ap (count_by (λ x. x == 92)) (without_none (t && slice_index [] 0 == pad vr) [] refl)
without_counted vr t (b ∷ bs) =
    let r = last_of b bs in
    subst (λ w. count_by (λ x. x == 92) (without_pad vr t w) ≡ count_by (λ x. x == 92) w) (sym r.is) (last_without vr t r.init r.last)

pub unpadded_counted : (vr : Vr) (v : List ℕ) → count_by (λ x. x == 92) (unpadded vr v) ≡ count_by (λ x. x == 92) v
unpadded_counted vr v = without_counted vr (length v % 2 == 0) v

-- ---- names are of ASCII

abbrev are_low : List Named → Bool
are_low [] = true
are_low (u ∷ us) = list_all low u.1 && are_low us

low_uids : are_low uids ≡ true
unfolding uids
low_uids = refl

low_named : (us : List Named) (uid name : List ℕ) → are_low us ≡ true → name_in us uid ≡ Some name → list_all low name ≡ true
low_named [] uid name e h = absurd (no_name name h)
  where
    no_name : (name : List ℕ) → (let o : Option (List ℕ) = None in o ≡ Some name) → ⊥
    no_name name h = cc
low_named (u ∷ us) uid name e h =
    let both = and_parts (list_all low u.1) (are_low us) e in
    of_test (bytes_eq u.0 uid) both.0 (λ k. low_named us uid name both.1 k) h
  where
    of_test : (t : Bool) → list_all low u.1 ≡ true → (name_in us uid ≡ Some name → list_all low name ≡ true)
        → option_map (λ (x : Named). x.1) (cond t (Some u) (find (λ x. bytes_eq x.0 uid) us)) ≡ Some name → list_all low name ≡ true
    of_test true first rest h = let same : u.1 ≡ name = cc in ap (list_all low) (sym same) ∙ first
    of_test false first rest h = rest h

pub low_name : (uid name : List ℕ) → uid_name uid ≡ Some name → list_all low name ≡ true
unfolding uid_name
low_name uid name h = low_named uids uid name low_uids h

-- ---- such a display is cut as without Specific Character Set

low_pair : (xs ys : List ℕ) → list_all low xs ≡ true → list_all low ys ≡ true → list_all low (xs ++ ys) ≡ true
low_pair xs ys e f = list_all-append low xs ys ∙ ap (λ t. t && list_all low ys) e ∙ f

pub low_ascii : (xs : List ℕ) → list_all low xs ≡ true → IsAscii xs
low_ascii xs e = IsAscii-from_all xs (λ k d l. ⊎_elim (λ h. small (get_or xs k d) h) (λ h. absurd (false≢true (sym (list_all_at low xs k d l h) ∙ e))) (cases_Bool (low (get_or xs k d))))
  where
    small : (b : ℕ) → low b ≡ true → b < 128
    small b h = grind (arith, nat_tests)

cut_last : (d : List ℕ) → list_all low d ≡ true → cut_size d ≡ 63
cut_last d e = ap (λ t. cond (not t) 63 (cond (not (goes_on (slice_index d 62))) 62 (cond (not (goes_on (slice_index d 61))) 61 60))) (stays (slice_index d 63) (low_ascii d e 63))
  where
    stays : (b : ℕ) → b < 128 → goes_on b ≡ false
    stays b l = grind (arith, nat_tests)

shortened_alike : (mode : Mode) (d : List ℕ) → list_all low d ≡ true → decoded_shortened mode d ≡ shortened mode d
shortened_alike Short d e = ap (λ n. cond (nat_lt 66 (length d)) (take n d ++ codes "...") d) (cut_last d e)
shortened_alike Full d e = refl

-- ---- what is shown of a value

abbrev Same : Mode → Vr → Sets → List ℕ → Type 0
Same mode vr sets v = (decoded_text_of mode vr sets v ≡ text_of mode vr v) × (decoded_count vr sets v ≡ count vr v)

bracketed_low : (sets : Sets) (t : List ℕ) → list_all (is_plain sets) t ≡ true → list_all low (bracketed t) ≡ true
bracketed_low sets t e =
    low_pair (codes "[" ++ escaped t) (codes "]")
    (low_pair (codes "[") (escaped t) refl (escaped_low t (all_as (is_plain sets) low (plain_low sets) t e))) refl

named_alike : (uid : List ℕ) → list_all (is_plain (sets_of [])) uid ≡ true → decoded_identified uid ≡ identified uid
named_alike uid e = ap (λ x. option_map_or (λ name. codes "=" ++ name) (uid_name uid) (codes "[" ++ x ++ codes "]")) (plain_dumped (sets_of []) OneValue uid e)

-- what may have a name is read by what the empty value names
named_sets : (vr : Vr) (sets : Sets) (size : ℕ) → is_named vr size ≡ true → sets_for vr sets ≡ sets_of []
named_sets UI sets size e = refl
named_sets vr sets size e = absurd (false≢true e)

named_low : (uid : List ℕ) → list_all (is_plain (sets_of [])) uid ≡ true → list_all low (identified uid) ≡ true
named_low uid e = go (uid_name uid) refl
  where
    go : (o : Option (List ℕ)) → uid_name uid ≡ o → list_all low (option_map_or (λ name. codes "=" ++ name) o (bracketed uid)) ≡ true
    go None h = bracketed_low (sets_of []) uid e
    go (Some name) h = low_name uid name h

-- a value by what is shown of it
module _ (mode : Mode) (vr : Vr) (sets : Sets) (b : ℕ) (bs : List ℕ) (plain : list_all (is_plain (sets_for vr sets)) (unpadded vr (b ∷ bs)) ≡ true) where
  abbrev v : List ℕ
  v = b ∷ bs

  abbrev t : List ℕ
  t = unpadded vr v

  by_display : decoded_display vr sets v ≡ display vr v → list_all low (display vr v) ≡ true → decoded_text_of mode vr sets v ≡ text_of mode vr v
  by_display e f = ap (λ d. padded (decoded_shortened mode d)) e ∙ ap padded (shortened_alike mode (display vr v) f)

  in_brackets : shown (shape vr) vr v ≡ bracketed t → is_named vr (length v) ≡ false → decoded_text_of mode vr sets v ≡ text_of mode vr v
  in_brackets is in_text =
      by_display
      (ap (λ x. cond x (decoded_identified t) (codes "[" ++ dumped (sets_for vr sets) (kind_of vr) t ++ codes "]")) in_text
      ∙ ap (λ x. codes "[" ++ x ++ codes "]") (plain_dumped (sets_for vr sets) (kind_of vr) t plain)
      ∙ sym is)
      (ap (list_all low) is ∙ bracketed_low (sets_for vr sets) t plain)

  by_default : is_named vr (length v) ≡ true → list_all (is_plain (sets_of [])) t ≡ true
  by_default name = subst (λ (s : Sets). list_all (is_plain s) t ≡ true) (named_sets vr sets (length v) name) plain

  by_name : shown (shape vr) vr v ≡ identified t → is_named vr (length v) ≡ true → decoded_text_of mode vr sets v ≡ text_of mode vr v
  by_name is name =
      by_display
      (ap (λ x. cond x (decoded_identified t) (codes "[" ++ dumped (sets_for vr sets) (kind_of vr) t ++ codes "]")) name
      ∙ named_alike t (by_default name) ∙ sym is)
      (ap (list_all low) is ∙ named_low t (by_default name))

  counts : counted (shape vr) vr v ≡ 1 + count_by (λ x. x == 92) v → decoded_count vr sets v ≡ count vr v
  counts is =
      ap (λ n. cond (is_single vr) 1 (1 + n)) (plain_counted (sets_for vr sets) (kind_of vr) t plain ∙ unpadded_counted vr v)
      ∙ ap (cond (is_single vr) 1) (sym is)

-- ---- all values

number_takes : (s : Shape) → IsNumber s → takes_bytes s ≡ false
number_takes text h = absurd h
number_takes identifier h = absurd h
number_takes unsigned h = refl
number_takes signed h = refl
number_takes tags h = refl
number_takes hexadecimal h = refl

some_as_before : (mode : Mode) (vr : Vr) (sets : Sets) (b : ℕ) (bs : List ℕ) → takes_bytes (shape vr) ≡ true
    → list_all (is_plain (sets_for vr sets)) (unpadded vr (b ∷ bs)) ≡ true → Same mode vr sets (b ∷ bs)
some_as_before mode vr sets b bs takes plain = go (sort vr)
  where
    as_name : shape vr ≡ identifier → decoded_text_of mode vr sets (b ∷ bs) ≡ text_of mode vr (b ∷ bs)
    as_name is =
        let size : is_named vr (length (b ∷ bs)) ≡ nat_le (length (b ∷ bs)) 64 = named_shape vr (length (b ∷ bs)) ∙ ap (λ s. is_identifier s && nat_le (length (b ∷ bs)) 64) is in
        let same : shown (shape vr) vr (b ∷ bs) ≡ identified (unpadded vr (b ∷ bs)) = ap (λ s. shown s vr (b ∷ bs)) is in
        ⊎_elim
        (λ few. by_name mode vr sets b bs plain same (size ∙ few.0))
        (λ many. in_brackets mode vr sets b bs plain (same ∙ long_unnamed (unpadded vr (b ∷ bs)) (omega (arith, length_unpadded vr (b ∷ bs), many.1))) (size ∙ many.0))
        (leb_tells (length (b ∷ bs)) 64)

    go : Sort vr → Same mode vr sets (b ∷ bs)
    go (of_text is one) = (
      in_brackets mode vr sets b bs plain (ap (λ s. shown s vr (b ∷ bs)) is) (named_shape vr (length (b ∷ bs)) ∙ ap (λ s. is_identifier s && nat_le (length (b ∷ bs)) 64) is),
      counts mode vr sets b bs plain (ap (λ s. counted s vr (b ∷ bs)) is),
    )
    go (of_name is one) = (as_name is, counts mode vr sets b bs plain (ap (λ s. counted s vr (b ∷ bs)) is))
    go (of_number is) = absurd (false≢true (sym (number_takes (shape vr) is) ∙ takes))

pub decoded_as_before : DecodedAsBefore
decoded_as_before mode vr sets [] takes plain = (ap padded (shortened_alike mode (codes "(no value available)") refl), refl)
decoded_as_before mode vr sets (b ∷ bs) takes plain = some_as_before mode vr sets b bs takes plain

-- also where the pad byte is one of them
plain_unpadded : (p : ℕ → Bool) (vr : Vr) (v : List ℕ) → list_all p v ≡ true → list_all p (unpadded vr v) ≡ true
plain_unpadded p vr v e = go (length v % 2 == 0 && slice_index v (length v - 1) == pad vr)
  where
    front : (n : ℕ) → list_all p (take n v) ≡ true
    front n =
        (and_parts (list_all p (take n v)) (list_all p (drop n v))
        (sym (list_all-append p (take n v) (drop n v)) ∙ ap (list_all p) (take-append-drop n v) ∙ e)).0

    go : (t : Bool) → list_all p (cond t (take (length v - 1) v) v) ≡ true
    go true = front (length v - 1)
    go false = e

pub ascii_as_before : AsciiAsBefore
ascii_as_before mode vr sets v takes plain = decoded_as_before mode vr sets v takes (plain_unpadded (is_plain (sets_for vr sets)) vr v plain)
