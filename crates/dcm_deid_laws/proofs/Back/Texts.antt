-- A text that can be moved has no padding, so it comes back as it was.
use Rattle.std.proofs.Common.{◌≡◌, ◌≢◌, ◌∙◌, ap, sym, refl, subst, ℕ, ℤ, ◌+◌, ◌*◌, ◌-◌, ◌<◌, ◌≤◌, List, [], ◌∷◌, ◌++◌, length, take, drop, take-append-drop, Bool, true, false, Some, None, inl, inr, arith}
use Rattle.std.specs.Prelude.{◌==◌, ◌&&◌, ◌||◌, not, nat_le, neg_ℤ, cond, if◌then◌else◌}
use Rattle.std.specs.List.{AllZip, join_with_byte, list_all}
use Rattle.std.proofs.lemmas.Bool.{and_parts, leb-true, eqb-true}
use Rattle.std.proofs.lemmas.List.Splits.{join_with_byte-slice_split}
use Rattle.dcm_lemmas.proofs.Numbers.{one_after}
use Rattle.dcm_base.specs.Tables.Transfer.{before_pads, is_pad, without_pads}
use Rattle.dcm_base.proofs.DumpsBack.Texts.{Bytes}
use Rattle.dcm_dates.specs.declared.moving.DateKind.{DateKind}
use Rattle.dcm_dates.specs.declared.moving.DateKind.TheVariants.{Da, Dt}
use Rattle.dcm_dates.specs.DateText.{after_pair, digits_before, is_after_hours, is_after_minutes, is_after_seconds, is_digit, is_fraction, is_nothing, is_pair, is_point_and_fraction, is_rest, is_zone, is_zone_minutes, passes}
use Rattle.dcm_dates.specs.Calendar.{is_between}
use Rattle.dcm_dates.specs.Moved.{all_moved, may_follow, moved, parts_of}
use Rattle.dcm_dates.specs.Laws.{IsPartMoved}
use Rattle.dcm_dates.proofs.Digits.{shows_is}
use Rattle.dcm_dates.proofs.Texts.{back_moved, text_is_moved}

-- ---- no byte of a text is padding

abbrev IsPlain : ℕ → Type 0
IsPlain b = (is_pad b ≡ false) × (b < 256)

abbrev ArePlain : List ℕ → Type 0
ArePlain [] = Unit {0}
ArePlain (b ∷ bs) = IsPlain b × ArePlain bs

before_others : (b : ℕ) (bs : List ℕ) → is_pad b ≡ false → before_pads b bs ≡ b ∷ bs
before_others b [] e = ap (λ (c : Bool). if c then [] else b ∷ []) e
before_others b (next ∷ bs) e = refl

unpadded : (text : List ℕ) → ArePlain text → without_pads text ≡ text
unfolding without_pads
unpadded [] h = refl
unpadded (b ∷ bs) h = ap (before_pads b) (unpadded bs h.1) ∙ before_others b bs h.0.0

joined : (front rest : List ℕ) → ArePlain front → ArePlain rest → ArePlain (front ++ rest)
joined [] rest h k = k
joined (b ∷ bs) rest h k = (h.0, joined bs rest h.1 k)

neither : (b : ℕ) (x y : Bool) → (b == 0) ≡ x → (b == 32) ≡ y → 33 ≤ b → (x || y) ≡ false
neither b true y e f h = let is = eqb-true b 0 e in absurd (omega (arith, is, h))
neither b false true e f h = let is = eqb-true b 32 f in absurd (omega (arith, is, h))
neither b false false e f h = refl

above : (b : ℕ) → 33 ≤ b → b < 256 → IsPlain b
above b h l = (neither b (b == 0) (b == 32) refl refl h, l)

digit : (b : ℕ) → is_digit b ≡ true → IsPlain b
digit b e =
    let parts = and_parts (nat_le 48 b) (nat_le b 57) e in
    let low = leb-true 48 b parts.0 in
    let high = leb-true b 57 parts.1 in above b (omega (arith, low)) (omega (arith, high))

digits : (text : List ℕ) → list_all is_digit text ≡ true → ArePlain text
digits [] e = tt
digits (b ∷ bs) e = let parts = and_parts (is_digit b) (list_all is_digit bs) e in (digit b parts.0, digits bs parts.1)

-- ---- what may follow a date

nothing : (text : List ℕ) → is_nothing text ≡ true → ArePlain text
nothing [] e = tt
nothing (b ∷ bs) e = let none = eqb-true (length (b ∷ bs)) 0 e in absurd (omega (arith, none))

module _ (test : List ℕ → Bool) (most : ℕ) (so : (text : List ℕ) → test text ≡ true → ArePlain text) where
  behind_pair : (high low : ℕ) (rest : List ℕ) (c : Bool) → is_pair most high low ≡ c → passes test (if c then Some rest else None) ≡ true → ArePlain (high ∷ low ∷ rest)
  behind_pair high low rest true is e =
      let parts = and_parts (is_digit high) (is_digit low && nat_le (10 * (high - 48) + (low - 48)) most) is in
      let others = and_parts (is_digit low) (nat_le (10 * (high - 48) + (low - 48)) most) parts.1 in
      (digit high parts.0, (digit low others.0, so rest e))
  behind_pair high low rest false is e = absurd (cc)

  two_digits : (text : List ℕ) → passes test (after_pair most text) ≡ true → ArePlain text
  two_digits [] e = tt
  two_digits (high ∷ []) e = absurd (cc)
  two_digits (high ∷ low ∷ rest) e = behind_pair high low rest (is_pair most high low) refl e

zone_minutes : (text : List ℕ) → is_zone_minutes text ≡ true → ArePlain text
zone_minutes text e = two_digits is_nothing 59 nothing text e

sign : (b : ℕ) (x y : Bool) → (b == 43) ≡ x → (b == 45) ≡ y → (x || y) ≡ true → IsPlain b
sign b true y e f h = let is = eqb-true b 43 e in above b (omega (arith, is)) (omega (arith, is))
sign b false true e f h = let is = eqb-true b 45 f in above b (omega (arith, is)) (omega (arith, is))
sign b false false e f h = absurd (cc)

zone : (text : List ℕ) → is_zone text ≡ true → ArePlain text
zone [] e = tt
zone (b ∷ rest) e =
    let parts = and_parts ((b == 43) || (b == 45)) (passes is_zone_minutes (after_pair 14 rest)) e in
    (sign b (b == 43) (b == 45) refl refl parts.0, two_digits is_zone_minutes 14 zone_minutes rest parts.1)

behind_digit : (b : ℕ) (bs : List ℕ) (c : Bool) → is_digit b ≡ c → (is_zone (drop (digits_before bs) bs) ≡ true → ArePlain bs) → is_zone (drop (cond (not (not c)) (1 + digits_before bs) 0) (b ∷ bs)) ≡ true → ArePlain (b ∷ bs)
behind_digit b bs true is more e = (digit b is, more (ap (λ (k : ℕ). is_zone (drop k (b ∷ bs))) (one_after (digits_before bs)) ∙ e))
behind_digit b bs false is more e = zone (b ∷ bs) e

digits_and_zone : (text : List ℕ) → is_zone (drop (digits_before text) text) ≡ true → ArePlain text
digits_and_zone [] e = tt
digits_and_zone (b ∷ bs) e = behind_digit b bs (is_digit b) refl (digits_and_zone bs) e

fraction : (text : List ℕ) → is_fraction text ≡ true → ArePlain text
fraction text e = digits_and_zone text (and_parts (is_between 1 6 (digits_before text)) (is_zone (drop (digits_before text) text)) e).1

point_and_fraction : (text : List ℕ) → is_point_and_fraction text ≡ true → ArePlain text
point_and_fraction [] e = tt
point_and_fraction (point ∷ rest) e =
    let parts = and_parts (point == 46) (is_fraction rest) e in
    let is = eqb-true point 46 parts.0 in (above point (omega (arith, is)) (omega (arith, is)), fraction rest parts.1)

one_of : (text : List ℕ) (a b : Bool) → (a ≡ true → ArePlain text) → (b ≡ true → ArePlain text) → (a || b) ≡ true → ArePlain text
one_of text true b h k e = h refl
one_of text false b h k e = k e

after_seconds : (text : List ℕ) → is_after_seconds text ≡ true → ArePlain text
after_seconds text e = one_of text (is_zone text) (is_point_and_fraction text) (zone text) (point_and_fraction text) e

after_minutes : (text : List ℕ) → is_after_minutes text ≡ true → ArePlain text
after_minutes text e = one_of text (is_zone text) (passes is_after_seconds (after_pair 60 text)) (zone text) (two_digits is_after_seconds 60 after_seconds text) e

after_hours : (text : List ℕ) → is_after_hours text ≡ true → ArePlain text
after_hours text e = one_of text (is_zone text) (passes is_after_minutes (after_pair 59 text)) (zone text) (two_digits is_after_minutes 59 after_minutes text) e

after_date : (text : List ℕ) → is_rest text ≡ true → ArePlain text
after_date text e = one_of text (is_zone text) (passes is_after_hours (after_pair 23 text)) (zone text) (two_digits is_after_hours 23 after_hours text) e

follows : (kind : DateKind) (text : List ℕ) → may_follow kind text ≡ true → ArePlain text
follows Da text e = nothing text e
follows Dt text e = after_date text e

-- ---- a whole text

part_unpadded : (kind : DateKind) (days : ℤ) (part new : List ℕ) → IsPartMoved kind days part new → ArePlain part
part_unpadded kind days part new (inl none) = subst ArePlain (sym none.0) tt
part_unpadded kind days part new (inr later) =
    subst ArePlain (take-append-drop 8 part)
    (joined (take 8 part) (drop 8 part) (digits (take 8 part) (shows_is (take 8 part) later.shows).digits) (follows kind (drop 8 part) later.follows))

parts_unpadded : (kind : DateKind) (days : ℤ) (parts news : List (List ℕ)) → AllZip (IsPartMoved kind days) parts news → ArePlain (join_with_byte 92 parts)
parts_unpadded kind days [] [] h = tt
parts_unpadded kind days [] (new ∷ news) h = absurd h
parts_unpadded kind days (part ∷ parts) [] h = absurd h
parts_unpadded kind days (part ∷ []) (new ∷ news) h = part_unpadded kind days part new h.0
parts_unpadded kind days (part ∷ other ∷ parts) (new ∷ news) h =
    joined part (92 ∷ join_with_byte 92 (other ∷ parts)) (part_unpadded kind days part new h.0) ((refl, omega arith), parts_unpadded kind days (other ∷ parts) news h.1)

movable_unpadded : (kind : DateKind) (days : ℤ) (text : List ℕ) → moved kind days text ≢ [] → without_pads text ≡ text
movable_unpadded kind days text some =
    unpadded text
    (subst ArePlain (join_with_byte-slice_split 92 text) (parts_unpadded kind days (parts_of text) (parts_of (moved kind days text)) (text_is_moved kind days text some).parts))

-- and what it was moved to
new_unpadded : (kind : DateKind) (days : ℤ) (part new : List ℕ) → IsPartMoved kind days part new → ArePlain new
new_unpadded kind days part new (inl none) = subst ArePlain (sym none.1) tt
new_unpadded kind days part new (inr later) =
    subst ArePlain (take-append-drop 8 new)
    (joined (take 8 new) (drop 8 new) (digits (take 8 new) (shows_is (take 8 new) later.shows_new).digits) (follows kind (drop 8 new) (ap (may_follow kind) later.rest ∙ later.follows)))

news_unpadded : (kind : DateKind) (days : ℤ) (parts news : List (List ℕ)) → AllZip (IsPartMoved kind days) parts news → ArePlain (join_with_byte 92 news)
news_unpadded kind days [] [] h = tt
news_unpadded kind days [] (new ∷ news) h = absurd h
news_unpadded kind days (part ∷ parts) [] h = absurd h
news_unpadded kind days (part ∷ parts) (new ∷ []) h = new_unpadded kind days part new h.0
news_unpadded kind days (part ∷ parts) (new ∷ other ∷ news) h =
    joined new (92 ∷ join_with_byte 92 (other ∷ news)) (new_unpadded kind days part new h.0) ((refl, omega arith), news_unpadded kind days parts (other ∷ news) h.1)

plain_bytes : (text : List ℕ) → ArePlain text → Bytes text
plain_bytes [] h = tt
plain_bytes (b ∷ bs) h = (h.0.1, plain_bytes bs h.1)

pub moved_bytes : (kind : DateKind) (days : ℤ) (text : List ℕ) → Bytes (moved kind days text)
moved_bytes kind days text = by_any (moved kind days text) refl
  where
    by_any : (new : List ℕ) → moved kind days text ≡ new → Bytes (moved kind days text)
    by_any [] e = subst Bytes (sym e) tt
    by_any (b ∷ bs) e =
        let some : moved kind days text ≢ [] = λ none. (let no : b ∷ bs ≡ [] = sym e ∙ none in cc) in
        plain_bytes (moved kind days text)
        (subst ArePlain (join_with_byte-slice_split 92 (moved kind days text)) (news_unpadded kind days (parts_of text) (parts_of (moved kind days text)) (text_is_moved kind days text some).parts))

-- ---- there, back and there again

nothing_moved : (kind : DateKind) (days : ℤ) → moved kind days [] ≡ []
unfolding moved all_moved
nothing_moved kind days = refl

-- what is made of a text without its padding
abbrev pub anew : DateKind → (days : ℤ) → List ℕ → List ℕ
anew kind days text = moved kind days (without_pads text)

module _ (kind : DateKind) (days : ℤ) (text : List ℕ) where
  nowhere : moved kind days text ≡ [] → anew kind days (anew kind (neg_ℤ days) (moved kind days text)) ≡ moved kind days text
  unfolding without_pads
  nowhere e =
      ap (λ (x : List ℕ). anew kind days (anew kind (neg_ℤ days) x)) e
      ∙ ap (anew kind days) (nothing_moved kind (neg_ℤ days))
      ∙ nothing_moved kind days ∙ sym e

  module _ (some : moved kind days text ≢ []) where
    back : moved kind (neg_ℤ days) (moved kind days text) ≡ text
    back = back_moved kind days text some

    some_back : moved kind (neg_ℤ days) (moved kind days text) ≢ []
    some_back = λ none. some (ap (moved kind days) (sym back ∙ none) ∙ nothing_moved kind days)

    pub came_back : anew kind (neg_ℤ days) (moved kind days text) ≡ text
    came_back = ap (moved kind (neg_ℤ days)) (movable_unpadded kind (neg_ℤ days) (moved kind days text) some_back) ∙ back

    somewhere : anew kind days (anew kind (neg_ℤ days) (moved kind days text)) ≡ moved kind days text
    somewhere = ap (anew kind days) came_back ∙ ap (moved kind days) (movable_unpadded kind days text some)

  by_new : (new : List ℕ) → moved kind days text ≡ new → anew kind days (anew kind (neg_ℤ days) (moved kind days text)) ≡ moved kind days text
  by_new [] e = nowhere e
  by_new (b ∷ bs) e = somewhere (λ none. (let no : b ∷ bs ≡ [] = sym e ∙ none in cc))

  pub there_again : anew kind days (anew kind (neg_ℤ days) (moved kind days text)) ≡ moved kind days text
  there_again = by_new (moved kind days text) refl

  -- and it is as long there as here
  size_by_new : (new : List ℕ) → moved kind days text ≡ new → length (anew kind (neg_ℤ days) (moved kind days text)) ≡ length (moved kind days text)
  unfolding without_pads
  size_by_new [] e =
      ap (λ (x : List ℕ). length (anew kind (neg_ℤ days) x)) e ∙ ap length (nothing_moved kind (neg_ℤ days)) ∙ sym (ap length e)
  size_by_new (b ∷ bs) e =
      let some : moved kind days text ≢ [] = λ none. (let no : b ∷ bs ≡ [] = sym e ∙ none in cc) in
      ap length (came_back some) ∙ sym (text_is_moved kind days text some).size

  pub back_size : length (anew kind (neg_ℤ days) (moved kind days text)) ≡ length (moved kind days text)
  back_size = size_by_new (moved kind days text) refl
