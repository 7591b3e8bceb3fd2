-- A date, moved.
use Rattle.std.proofs.Common.{◌≡◌, ℕ, ℤ, Bool, true, false, List, length, Option, Some, None, refl, ap, ◌∙◌, sym}
use Rattle.std.specs.Prelude.{option_map, if◌then◌else◌, ◌&&◌, ◌==◌}
use Rattle.std.specs.List.{list_all}
use Rattle.std.proofs.lemmas.Bool.{and_parts, eqb-true}
use Rattle.dcm_dates.specs.declared.date.Date.{Date}
use Rattle.dcm_dates.specs.Numbered.{date_of, number_of, is_day}
use Rattle.dcm_dates.specs.DateText.{shown, shows_day, digits_of, is_digit}
use Rattle.dcm_dates.specs.Moved.{moved_date, moved_number}

-- what a text shows, or that it shows no day
read_some : (shows : Bool) (day date : Date) → Some date ≡ (if shows then Some day else None) → (shows ≡ true) × (date ≡ day)
read_some true day date e = (refl, cc)
read_some false day date e = absurd (cc)

read_none : (shows : Bool) (day : Date) → (let none : Option Date = None in none ≡ (if shows then Some day else None)) → shows ≡ false
read_none true day e = absurd (cc)
read_none false day e = refl

pub shows_none : (days : ℤ) (text : List ℕ) → (let none : Option Date = None in none ≡ (if shows_day text then Some (shown text) else None))
    → moved_date days text ≡ None
shows_none days text e = rw (read_none (shows_day text) (shown text) e) refl

pub shows_some : (days : ℤ) (text : List ℕ) (date : Date) → Some date ≡ (if shows_day text then Some (shown text) else None)
    → moved_date days text ≡ option_map (λ n. digits_of (date_of n)) (moved_number days (number_of date))
shows_some days text date e = let read = read_some (shows_day text) (shown text) date e in rw (read.0, read.1) refl

-- the day so many days later, if there is one
pub moved_none : (days : ℤ) (text : List ℕ) (date : Date) (n : ℕ) → Some date ≡ (if shows_day text then Some (shown text) else None)
    → n ≡ number_of date → (let none : Option ℕ = None in none ≡ moved_number days n) → moved_date days text ≡ None
moved_none days text date n e number none =
    shows_some days text date e ∙ ap (option_map (λ k. digits_of (date_of k))) (ap (moved_number days) (sym number) ∙ sym none)

pub moved_some : (days : ℤ) (text new : List ℕ) (date later : Date) (n m : ℕ)
    → Some date ≡ (if shows_day text then Some (shown text) else None) → n ≡ number_of date → Some m ≡ moved_number days n
    → later ≡ date_of m → new ≡ digits_of later → Some new ≡ moved_date days text
moved_some days text new date later n m e number some day digits =
    sym (shows_some days text date e ∙ ap (option_map (λ k. digits_of (date_of k))) (ap (moved_number days) (sym number) ∙ sym some)
    ∙ ap (λ (d : Date). Some (digits_of d)) (sym day) ∙ ap (λ (l : List ℕ). Some l) (sym digits))

-- ---- what a date that was moved was and is

pub record IsMoved (days : ℤ) (text new : List ℕ) : Type 0 where
  pub number : ℕ
  pub shows : shows_day text ≡ true
  pub later : moved_number days (number_of (shown text)) ≡ Some number
  pub digits : new ≡ digits_of (date_of number)

digits_some : (n : Option ℕ) (new : List ℕ) → option_map (λ k. digits_of (date_of k)) n ≡ Some new
    → (k : ℕ) × (n ≡ Some k) × (new ≡ digits_of (date_of k))
digits_some None new e = absurd (cc)
digits_some (Some k) new e = (k, refl, cc)

pub date_moved : (days : ℤ) (text new : List ℕ) → moved_date days text ≡ Some new → IsMoved days text new
date_moved days text new e = by_test (shows_day text) (moved_number days (number_of (shown text))) refl refl e
  where
    by_test : (shows : Bool) (later : Option ℕ) → shows_day text ≡ shows → moved_number days (number_of (shown text)) ≡ later
        → (if shows then option_map (λ n. digits_of (date_of n)) later else None) ≡ Some new → IsMoved days text new
    by_test true later s l h = let some = digits_some later new h in record {
      number = some.0;
      shows = s;
      later = l ∙ some.1;
      digits = some.2;
    }
    by_test false later s l h = absurd (cc)

pub date_is_moved : (days : ℤ) (text : List ℕ) (number : ℕ) → shows_day text ≡ true
    → moved_number days (number_of (shown text)) ≡ Some number → moved_date days text ≡ Some (digits_of (date_of number))
date_is_moved days text number shows later = rw (shows, later) refl

pub digits_length : (date : Date) → length (digits_of date) ≡ 8
unfolding digits_of
digits_length date = refl

pub shown_length : (text : List ℕ) → shows_day text ≡ true → length text ≡ 8
shown_length text e = eqb-true (length text) 8 (and_parts (length text == 8) (list_all is_digit text && is_day (shown text)) e).0
