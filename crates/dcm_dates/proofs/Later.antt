-- Parts that were moved, by the numbers of their days.
use Rattle.std.proofs.Common.{◌≡◌, ◌≤◌, inl, inr, ℕ, ◌+◌, true, false, Option, Some, List, [], ◌∷◌, ◌++◌, length, take, drop, refl, arith, ap, ◌∙◌, sym}
use Rattle.std.specs.Prelude.{ℤ, pos, ◌+ℤ◌, neg_ℤ, option_map}
use Rattle.std.proofs.lemmas.Bool.{ne_eqb}
use Rattle.std.proofs.lemmas.List.{take-append-drop}
use Rattle.std.proofs.Math.Seq.{take-append_seam, drop-append_seam}
use Rattle.dcm_dates.specs.declared.moving.DateKind.{DateKind}
use Rattle.dcm_dates.specs.Numbered.{date_of, number_of}
use Rattle.dcm_dates.specs.DateText.{shown, shows_day, digits_of, is_nothing}
use Rattle.dcm_dates.specs.Moved.{in_calendar, moved_number, moved_date, moved_part, may_follow}
use Rattle.dcm_dates.specs.Laws.{number_shown, IsLater, IsPartMoved}
use Rattle.dcm_dates.proofs.Numbers.{number_is_of_date, date_by_number, number_within}
use Rattle.dcm_dates.proofs.Dates.{date_moved, date_is_moved}
use Rattle.dcm_dates.proofs.Digits.{shown_digits, digits_shown, digits_show, shows_is}
use Rattle.dcm_dates.proofs.Calculated.{in_calendar_is, is_in_calendar, numbers_add_up, not_moved, intervals_of}
use Rattle.dcm_dates.proofs.Parts.{IsMovedPart, part_moved, part_is_moved}

pub record LaterDate (days : ℤ) (text new : List ℕ) : Type 0 where
  pub shows : shows_day text ≡ true
  pub shows_new : shows_day new ≡ true
  pub number : moved_number days (number_shown text) ≡ Some (number_shown new)

digits_number : (n : ℕ) (new : List ℕ) → 1 ≤ n → n ≤ 3652059 → new ≡ digits_of (date_of n)
    → (shows_day new ≡ true) × (number_shown new ≡ n)
digits_number n new low high e =
    let day = number_is_of_date n low high in
    (ap shows_day e ∙ digits_show (date_of n) day.0, ap number_shown e ∙ ap number_of (shown_digits (date_of n) day.0) ∙ day.1)

-- a date that was moved shows the day so many days later
pub date_later : (days : ℤ) (text new : List ℕ) → moved_date days text ≡ Some new → LaterDate days text new
date_later days text new e =
    let moved = date_moved days text new e in
    let inside = in_calendar_is (pos (number_shown text) +ℤ days) moved.number moved.later in
    let digits = digits_number moved.number new inside.first inside.last moved.digits in
    record { shows = moved.shows; shows_new = digits.0; number = moved.later ∙ ap (λ (n : ℕ). Some n) (sym digits.1) }

-- and such a date is the one
pub date_from_later : (days : ℤ) (text new : List ℕ) → LaterDate days text new → moved_date days text ≡ Some new
date_from_later days text new h =
    let shows = shows_is new h.shows_new in
    date_is_moved days text (number_shown new) h.shows h.number
    ∙ ap (λ (l : List ℕ). Some l) (ap digits_of (date_by_number (shown new) (number_shown new) shows.day refl) ∙ digits_shown new h.shows_new)

-- ---- moved twice

pub dates_add_up : (days more : ℤ) (text new : List ℕ) → moved_date days text ≡ Some new
    → moved_date more new ≡ moved_date (days +ℤ more) text
dates_add_up days more text new e =
    let later = date_later days text new e in
    let both = numbers_add_up (number_shown text) (number_shown new) days more later.number in
    rw (later.shows_new, later.shows, both) refl

-- moved there and back, it is as it was
pub date_back : (days : ℤ) (text new : List ℕ) → moved_date days text ≡ Some new → moved_date (neg_ℤ days) new ≡ Some text
date_back days text new e =
    let later = date_later days text new e in
    let range = number_within (shown text) (shows_is text later.shows).day in
    dates_add_up days (neg_ℤ days) text new e
    ∙ date_from_later (days +ℤ neg_ℤ days) text text
    (record { shows = later.shows; shows_new = later.shows; number = not_moved (number_shown text) days range.0 range.1 })

-- ---- parts

take_front : (xs ys : List ℕ) → length xs ≡ 8 → take 8 (xs ++ ys) ≡ xs
take_front xs ys e = rw (← e) (take-append_seam xs ys)

drop_front : (xs ys : List ℕ) → length xs ≡ 8 → drop 8 (xs ++ ys) ≡ ys
drop_front xs ys e = rw (← e) (drop-append_seam xs ys)

part_later : (kind : DateKind) (days : ℤ) (part new : List ℕ) → IsMovedPart kind days part new → IsLater kind days part new
part_later kind days part new h =
    let later = date_later days (take 8 part) h.date h.moved in
    let size = (shows_is h.date later.shows_new).size in
    let front : take 8 new ≡ h.date = ap (take 8) h.whole ∙ take_front h.date (drop 8 part) size in
    let back : drop 8 new ≡ drop 8 part = ap (drop 8) h.whole ∙ drop_front h.date (drop 8 part) size in
    record {
      shows = later.shows;
      shows_new = ap shows_day front ∙ later.shows_new;
      later = ap (λ (l : List ℕ). pos (number_shown l)) front
          ∙ sym (in_calendar_is (pos (number_shown (take 8 part)) +ℤ days) (number_shown h.date) later.number).value;
      rest = back;
      follows = h.follows;
    }

pub part_is_later : (kind : DateKind) (days : ℤ) (part new : List ℕ) → moved_part kind days part ≡ Some new
    → IsPartMoved kind days part new
part_is_later kind days part new e = elim (part_moved kind days part new e) [
  | inl none ↦ inl none
  | inr moved ↦ inr (part_later kind days part new moved)
]

-- a part that shows a date is not nothing
some_part : (part : List ℕ) → shows_day (take 8 part) ≡ true → is_nothing part ≡ false
some_part [] e = absurd (omega (arith, (shows_is [] e).size))
some_part (b ∷ bs) e = ne_eqb (length (b ∷ bs)) 0 (λ h. omega (arith, h))

pub later_is_part : (kind : DateKind) (days : ℤ) (part new : List ℕ) → IsPartMoved kind days part new
    → moved_part kind days part ≡ Some new
later_is_part kind days part new (inl none) = rw (none.0, none.1) refl
later_is_part kind days part new (inr h) =
    let shows = shows_is (take 8 new) h.shows_new in
    let range = number_within (shown (take 8 new)) shows.day in
    let number : moved_number days (number_shown (take 8 part)) ≡ Some (number_shown (take 8 new)) =
    ap in_calendar (sym h.later) ∙ is_in_calendar (number_shown (take 8 new)) range.0 range.1 in
    let date = date_from_later days (take 8 part) (take 8 new) (record { shows = h.shows; shows_new = h.shows_new; number = number }) in
    part_is_moved kind days part (take 8 new) (some_part part h.shows) h.follows date
    ∙ ap (λ (l : List ℕ). Some l) (ap (λ (r : List ℕ). take 8 new ++ r) (sym h.rest) ∙ take-append-drop 8 new)

-- ---- parts that are moved twice

none_moved : (kind : DateKind) (days : ℤ) → moved_part kind days [] ≡ Some []
none_moved kind days = refl

with_rest : (o : Option (List ℕ)) (p : Option (List ℕ)) (rest : List ℕ) → o ≡ p
    → option_map (λ date. date ++ rest) o ≡ option_map (λ date. date ++ rest) p
with_rest o p rest e = ap (option_map (λ date. date ++ rest)) e

pub parts_add_up : (kind : DateKind) (days more : ℤ) (part new : List ℕ) → moved_part kind days part ≡ Some new
    → moved_part kind more new ≡ moved_part kind (days +ℤ more) part
parts_add_up kind days more part new e = elim (part_moved kind days part new e) [
  | inl none ↦ rw (none.0, none.1) refl
  | inr h ↦
      let later = date_later days (take 8 part) h.date h.moved in
      let size = (shows_is h.date later.shows_new).size in
      let front : take 8 new ≡ h.date = ap (take 8) h.whole ∙ take_front h.date (drop 8 part) size in
      let back : drop 8 new ≡ drop 8 part = ap (drop 8) h.whole ∙ drop_front h.date (drop 8 part) size in
      let some : is_nothing part ≡ false = some_part part later.shows in
      let some_new : is_nothing new ≡ false = some_part new (ap shows_day front ∙ later.shows_new) in
      let follows : may_follow kind (drop 8 part) ≡ true = h.follows in
      let both = dates_add_up days more (take 8 part) h.date h.moved in
      rw (some_new, some, front, back, follows) (with_rest (moved_date more h.date) (moved_date (days +ℤ more) (take 8 part)) (drop 8 part) both)
]

pub part_back : (kind : DateKind) (days : ℤ) (part new : List ℕ) → moved_part kind days part ≡ Some new
    → moved_part kind (neg_ℤ days) new ≡ Some part
part_back kind days part new e = elim (part_moved kind days part new e) [
  | inl none ↦ rw (none.0, none.1) refl
  | inr h ↦
      let later = date_later days (take 8 part) h.date h.moved in
      let size = (shows_is h.date later.shows_new).size in
      let front : take 8 new ≡ h.date = ap (take 8) h.whole ∙ take_front h.date (drop 8 part) size in
      let back : drop 8 new ≡ drop 8 part = ap (drop 8) h.whole ∙ drop_front h.date (drop 8 part) size in
      let some_new : is_nothing new ≡ false = some_part new (ap shows_day front ∙ later.shows_new) in
      let moved : moved_date (neg_ℤ days) (take 8 new) ≡ Some (take 8 part) = ap (moved_date (neg_ℤ days)) front ∙ date_back days (take 8 part) h.date h.moved in
      part_is_moved kind (neg_ℤ days) new (take 8 part) some_new (ap (may_follow kind) back ∙ h.follows) moved
      ∙ ap (λ (l : List ℕ). Some l) (ap (λ (r : List ℕ). take 8 part ++ r) back ∙ take-append-drop 8 part)
]

-- ---- intervals

pub intervals_kept : (days : ℤ) (one other new newer : List ℕ) → moved_date days one ≡ Some new → moved_date days other ≡ Some newer
    → number_shown newer + number_shown one ≡ number_shown new + number_shown other
intervals_kept days one other new newer e f =
    intervals_of (number_shown one) (number_shown new) (number_shown other) (number_shown newer) days (date_later days one new e).number (date_later days other newer f).number
