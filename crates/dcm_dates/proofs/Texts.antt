-- Whole texts that were moved.
use Rattle.std.proofs.Common.{◌≡◌, ◌≢◌, ◌≤◌, ℕ, Bool, true, false, Option, Some, None, List, [], ◌∷◌, length, drop, take, refl, arith, ap, ◌∙◌, sym, inl, inr}
use Rattle.std.specs.Prelude.{ℤ, ◌+ℤ◌, neg_ℤ, nat_le, unwrap_or, option_map, not, ◌==◌, if◌then◌else◌}
use Rattle.std.specs.List.{AllZip, join_with_byte, list_all}
use Rattle.std.proofs.lemmas.Bool.{leb-true, and_parts}
use Rattle.std.proofs.lemmas.Bool.Decides.{nat_tests}
use Rattle.std.proofs.lemmas.List.Splits.{join_with_byte-slice_split}
use Rattle.dcm_dates.specs.declared.moving.DateKind.{DateKind}
use Rattle.dcm_dates.specs.DateText.{is_digit}
use Rattle.dcm_dates.specs.Moved.{moved_part, each_moved, parts_of, all_moved, moved}
use Rattle.dcm_dates.specs.Laws.{IsPartMoved, IsTextMoved}
use Rattle.dcm_dates.proofs.Digits.{shows_is}
use Rattle.dcm_dates.proofs.Later.{date_later, part_is_later, later_is_part, parts_add_up, part_back}
use Rattle.dcm_dates.proofs.Joined.{is_free, are_free, Gives, parted_again, parts_free, free_behind, free_joined, each_gives, gives_each, zip_by, zip_back, same_size, stay_free, each_same}
use Rattle.dcm_dates.proofs.Parts.{part_moved, part_length, moved_some}
use Rattle.dcm_dates.proofs.Parts.{some_part}

-- a text that is moved, by its parts
record ByParts (kind : DateKind) (days : ℤ) (text new : List ℕ) : Type 0 where
  news : List (List ℕ)
  short : length text ≤ 256
  each : AllZip (Gives (moved_part kind days)) (parts_of text) news
  whole : new ≡ join_with_byte 92 news

joined_some : (o : Option (List (List ℕ))) (new : List ℕ) → option_map (join_with_byte 92) o ≡ Some new
    → (news : List (List ℕ)) × (o ≡ Some news) × (new ≡ join_with_byte 92 news)
joined_some None new e = absurd (cc)
joined_some (Some news) new e = (news, refl, cc)

some_moved : (short : Bool) (o : Option (List ℕ)) → (if short then unwrap_or o [] else []) ≢ []
    → (new : List ℕ) × (short ≡ true) × (o ≡ Some new) × ((if short then unwrap_or o [] else []) ≡ new)
some_moved false o e = absurd (e refl)
some_moved true None e = absurd (e refl)
some_moved true (Some new) e = (new, refl, refl, refl)

by_parts : (kind : DateKind) (days : ℤ) (text : List ℕ) → moved kind days text ≢ [] → ByParts kind days text (moved kind days text)
unfolding moved all_moved
by_parts kind days text e =
    let some = some_moved (nat_le (length text) 256) (all_moved kind days text) e in
    let joined = joined_some (each_moved (moved_part kind days) (parts_of text)) some.0 some.2 in
    record {
      news = joined.0;
      short = leb-true (length text) 256 some.1;
      each = each_gives (moved_part kind days) (parts_of text) joined.0 joined.1;
      whole = some.3 ∙ joined.2;
    }

-- a digit is no backslash
digit_free : (b : ℕ) → is_digit b ≡ true → not (b == 92) ≡ true
digit_free b e = grind (arith, nat_tests)

digits_free : (text : List ℕ) → list_all is_digit text ≡ true → is_free text ≡ true
digits_free [] e = refl
digits_free (b ∷ bs) e = let parts = and_parts (is_digit b) (list_all is_digit bs) e in
    rw (digit_free b parts.0, digits_free bs parts.1) refl

part_free : (kind : DateKind) (days : ℤ) (p q : List ℕ) → moved_part kind days p ≡ Some q → is_free p ≡ true → is_free q ≡ true
part_free kind days p q e free = elim (part_moved kind days p q e) [
  | inl none ↦ rw none.1 refl
  | inr m ↦
      let shows = shows_is m.date (date_later days (take 8 p) m.date m.moved).shows_new in
      ap is_free m.whole ∙ free_joined m.date (drop 8 p) (digits_free m.date shows.digits) (free_behind 8 p free)
]

-- the parts of what a text was moved to are those that its parts were moved to
parts_moved : (kind : DateKind) (days : ℤ) (text : List ℕ) (news : List (List ℕ))
    → AllZip (Gives (moved_part kind days)) (parts_of text) news → parts_of (join_with_byte 92 news) ≡ news
parts_moved kind days text news each =
    let some = some_part (λ b. b == 92) text in
    parted some.0 some.1 (parts_of text) news some.2 each
    (stay_free (parts_of text) news (zip_by (Gives (moved_part kind days)) (λ (p q : List ℕ). is_free p ≡ true → is_free q ≡ true) (part_free kind days) (parts_of text) news each) (parts_free text))
  where
    parted : (p : List ℕ) (ps parts news : List (List ℕ)) → parts ≡ p ∷ ps → AllZip (Gives (moved_part kind days)) parts news
        → are_free news ≡ true → parts_of (join_with_byte 92 news) ≡ news
    parted p ps [] news e z f = absurd (cc)
    parted p ps (o ∷ os) [] e z f = absurd z
    parted p ps (o ∷ os) (q ∷ qs) e z f = parted_again q qs f

size_moved : (kind : DateKind) (days : ℤ) (text : List ℕ) (news : List (List ℕ))
    → AllZip (Gives (moved_part kind days)) (parts_of text) news → length (join_with_byte 92 news) ≡ length text
size_moved kind days text news each =
    same_size (parts_of text) news (zip_by (Gives (moved_part kind days)) (λ (p q : List ℕ). length q ≡ length p) (part_length kind days) (parts_of text) news each)
    ∙ ap length (join_with_byte-slice_split 92 text)

-- ---- the laws

pub text_is_moved : (kind : DateKind) (days : ℤ) (text : List ℕ) → moved kind days text ≢ []
    → IsTextMoved kind days text (moved kind days text)
text_is_moved kind days text e =
    let h = by_parts kind days text e in
    let zip = zip_by (Gives (moved_part kind days)) (IsPartMoved kind days) (part_is_later kind days) (parts_of text) h.news h.each in
    let parts : parts_of (moved kind days text) ≡ h.news = ap parts_of h.whole ∙ parts_moved kind days text h.news h.each in
    record {
      size = ap length h.whole ∙ size_moved kind days text h.news h.each;
      parts = rw parts zip;
    }

pub only_moved : (kind : DateKind) (days : ℤ) (text new : List ℕ) → length text ≤ 256 → IsTextMoved kind days text new
    → moved kind days text ≡ new
unfolding all_moved
only_moved kind days text new short h =
    let zip = zip_by (IsPartMoved kind days) (Gives (moved_part kind days)) (later_is_part kind days) (parts_of text) (parts_of new) h.parts in
    moved_some kind days text new short
    (ap (option_map (join_with_byte 92)) (gives_each (moved_part kind days) (parts_of text) (parts_of new) zip)
    ∙ ap (λ (l : List ℕ). Some l) (join_with_byte-slice_split 92 new))

all_of : (kind : DateKind) (days : ℤ) (text : List ℕ) (news : List (List ℕ)) → parts_of text ≡ news
    → all_moved kind days text ≡ option_map (join_with_byte 92) (each_moved (moved_part kind days) news)
unfolding all_moved
all_of kind days text news e = ap (λ (ps : List (List ℕ)). option_map (join_with_byte 92) (each_moved (moved_part kind days) ps)) e

same_moved : (kind : DateKind) (a b : ℤ) (text other : List ℕ) → length text ≡ length other → all_moved kind a text ≡ all_moved kind b other
    → moved kind a text ≡ moved kind b other
unfolding moved
same_moved kind a b text other l e = rw (l, e) refl

pub sum_moved : (kind : DateKind) (days more : ℤ) (text : List ℕ) → moved kind days text ≢ []
    → moved kind more (moved kind days text) ≡ moved kind (days +ℤ more) text
sum_moved kind days more text e =
    let h = by_parts kind days text e in
    let parts : parts_of (moved kind days text) ≡ h.news = ap parts_of h.whole ∙ parts_moved kind days text h.news h.each in
    let zip = zip_by (Gives (moved_part kind days)) (λ (p q : List ℕ). moved_part kind more q ≡ moved_part kind (days +ℤ more) p) (parts_add_up kind days more) (parts_of text) h.news h.each in
    same_moved kind more (days +ℤ more) (moved kind days text) text (ap length h.whole ∙ size_moved kind days text h.news h.each)
    (all_of kind more (moved kind days text) h.news parts
    ∙ ap (option_map (join_with_byte 92)) (each_same (moved_part kind more) (moved_part kind (days +ℤ more)) (parts_of text) h.news zip)
    ∙ sym (all_of kind (days +ℤ more) text (parts_of text) refl))

pub back_moved : (kind : DateKind) (days : ℤ) (text : List ℕ) → moved kind days text ≢ []
    → moved kind (neg_ℤ days) (moved kind days text) ≡ text
back_moved kind days text e =
    let h = by_parts kind days text e in
    let parts : parts_of (moved kind days text) ≡ h.news = ap parts_of h.whole ∙ parts_moved kind days text h.news h.each in
    let size : length (moved kind days text) ≡ length text = ap length h.whole ∙ size_moved kind days text h.news h.each in
    let zip = zip_back (Gives (moved_part kind days)) (Gives (moved_part kind (neg_ℤ days))) (part_back kind days) (parts_of text) h.news h.each in
    moved_some kind (neg_ℤ days) (moved kind days text) text (omega (arith, h.short))
    (all_of kind (neg_ℤ days) (moved kind days text) h.news parts
    ∙ ap (option_map (join_with_byte 92)) (gives_each (moved_part kind (neg_ℤ days)) h.news (parts_of text) zip)
    ∙ ap (λ (l : List ℕ). Some l) (join_with_byte-slice_split 92 text))

-- what a text was moved to is not longer than what is held
pub moved_short : (kind : DateKind) (days : ℤ) (text : List ℕ) → length (moved kind days text) ≤ 256
moved_short kind days text = by_any (moved kind days text) refl
  where
    by_any : (new : List ℕ) → moved kind days text ≡ new → length (moved kind days text) ≤ 256
    by_any [] e = omega (arith, ap length e)
    by_any (b ∷ bs) e =
        let some : moved kind days text ≢ [] = λ none. (let no : b ∷ bs ≡ [] = sym e ∙ none in cc) in
        let h = by_parts kind days text some in
        omega (arith, h.short, ap length h.whole, size_moved kind days text h.news h.each)
