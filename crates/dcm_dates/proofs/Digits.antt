-- Days as eight digits, and eight digits as days.
use Rattle.std.proofs.Common.{◌≡◌, ◌<◌, ◌≤◌, ℕ, ◌+◌, ◌-◌, ◌*◌, ◌/◌, ◌%◌, Bool, true, List, [], ◌∷◌, length, refl, arith, ap, ◌∙◌, sym}
use Rattle.std.specs.Prelude.{◌&&◌, ◌==◌, nat_le}
use Rattle.std.specs.List.{list_all}
use Rattle.std.proofs.lemmas.Bool.{and_parts, eqb-true, leb-true, le-leb}
use Rattle.dcm_dates.specs.declared.date.Date.{Date}
use Rattle.dcm_dates.specs.Numbered.{is_day}
use Rattle.dcm_dates.specs.Calendar.{days_of_month}
use Rattle.dcm_dates.specs.DateText.{is_digit, shown, shows_day, digits_of}
use Rattle.dcm_dates.proofs.Numbers.{date_is}
use Rattle.dcm_dates.proofs.Dates.{digits_length}
use Rattle.std.proofs.lemmas.Bool.Decides.{nat_tests}

same_date : (date : Date) (y m d : ℕ) → y ≡ date.year → m ≡ date.month → d ≡ date.day
    → record { year = y; month = m; day = d } ≡ date
same_date date y m d e f g = rw (e, f, g) refl

pub shown_digits : (date : Date) → is_day date ≡ true → shown (digits_of date) ≡ date
unfolding shown digits_of
shown_digits date e =
    let h = date_is date.year date.month date.day e in
    same_date date _ _ _ (omega (arith, h.last_year)) (omega arith) (omega arith)

-- ---- eight digits

digit_is : (b : ℕ) → is_digit b ≡ true → (48 ≤ b) × (b ≤ 57)
digit_is b e = let parts = and_parts (nat_le 48 b) (nat_le b 57) e in (leb-true 48 b parts.0, leb-true b 57 parts.1)

is_a_digit : (b : ℕ) → 48 ≤ b → b ≤ 57 → is_digit b ≡ true
is_a_digit b low high = rw (le-leb 48 b low, le-leb b 57 high) refl

pub record Eight (text : List ℕ) : Type 0 where
  pub a : ℕ
  pub b : ℕ
  pub c : ℕ
  pub d : ℕ
  pub e : ℕ
  pub f : ℕ
  pub g : ℕ
  pub h : ℕ
  pub whole : text ≡ a ∷ b ∷ c ∷ d ∷ e ∷ f ∷ g ∷ h ∷ []

-- a text of eight bytes
eight : (text : List ℕ) → length text ≡ 8 → Eight text
eight (a ∷ b ∷ c ∷ d ∷ e ∷ f ∷ g ∷ h ∷ []) l = record { a = a; b = b; c = c; d = d; e = e; f = f; g = g; h = h; whole = refl }
eight [] l = absurd (omega arith)
eight (a ∷ []) l = absurd (omega arith)
eight (a ∷ b ∷ []) l = absurd (omega arith)
eight (a ∷ b ∷ c ∷ []) l = absurd (omega arith)
eight (a ∷ b ∷ c ∷ d ∷ []) l = absurd (omega arith)
eight (a ∷ b ∷ c ∷ d ∷ e ∷ []) l = absurd (omega arith)
eight (a ∷ b ∷ c ∷ d ∷ e ∷ f ∷ []) l = absurd (omega arith)
eight (a ∷ b ∷ c ∷ d ∷ e ∷ f ∷ g ∷ []) l = absurd (omega arith)
eight (a ∷ b ∷ c ∷ d ∷ e ∷ f ∷ g ∷ h ∷ i ∷ rest) l = absurd (omega arith)

first_and : (b : ℕ) (q : Bool) → (is_digit b && q) ≡ true → (48 ≤ b) × (b ≤ 57) × (q ≡ true)
first_and b q e = let parts = and_parts (is_digit b) q e in let digit = digit_is b parts.0 in (digit.0, digit.1, parts.1)

-- each byte that shows a number is that number's digit
thousands : (a b c d : ℕ) → 48 ≤ a → 48 ≤ b → b ≤ 57 → 48 ≤ c → c ≤ 57 → 48 ≤ d → d ≤ 57
    → 48 + (1000 * (a - 48) + 100 * (b - 48) + 10 * (c - 48) + (d - 48)) / 1000 ≡ a
thousands a b c d h1 h2 h3 h4 h5 h6 h7 = omega arith

hundreds : (a b c d : ℕ) → 48 ≤ a → 48 ≤ b → b ≤ 57 → 48 ≤ c → c ≤ 57 → 48 ≤ d → d ≤ 57
    → 48 + (1000 * (a - 48) + 100 * (b - 48) + 10 * (c - 48) + (d - 48)) / 100 % 10 ≡ b
hundreds a b c d h1 h2 h3 h4 h5 h6 h7 = omega arith

tens : (a b c d : ℕ) → 48 ≤ a → 48 ≤ b → b ≤ 57 → 48 ≤ c → c ≤ 57 → 48 ≤ d → d ≤ 57
    → 48 + (1000 * (a - 48) + 100 * (b - 48) + 10 * (c - 48) + (d - 48)) / 10 % 10 ≡ c
tens a b c d h1 h2 h3 h4 h5 h6 h7 = omega arith

ones : (a b c d : ℕ) → 48 ≤ d → d ≤ 57
    → 48 + (1000 * (a - 48) + 100 * (b - 48) + 10 * (c - 48) + (d - 48)) % 10 ≡ d
ones a b c d h1 h2 = omega arith

high : (a b : ℕ) → 48 ≤ a → 48 ≤ b → b ≤ 57 → 48 + (10 * (a - 48) + (b - 48)) / 10 ≡ a
high a b h1 h2 h3 = omega arith

low : (a b : ℕ) → 48 ≤ a → 48 ≤ b → b ≤ 57 → 48 + (10 * (a - 48) + (b - 48)) % 10 ≡ b
low a b h1 h2 h3 = omega arith

digits_shown_of : (a b c d e f g h : ℕ) → list_all is_digit (a ∷ b ∷ c ∷ d ∷ e ∷ f ∷ g ∷ h ∷ []) ≡ true
    → digits_of (shown (a ∷ b ∷ c ∷ d ∷ e ∷ f ∷ g ∷ h ∷ [])) ≡ a ∷ b ∷ c ∷ d ∷ e ∷ f ∷ g ∷ h ∷ []
unfolding shown digits_of
digits_shown_of a b c d e f g h all =
    let ia = first_and a (list_all is_digit (b ∷ c ∷ d ∷ e ∷ f ∷ g ∷ h ∷ [])) all in
    let ib = first_and b (list_all is_digit (c ∷ d ∷ e ∷ f ∷ g ∷ h ∷ [])) ia.2 in
    let ic = first_and c (list_all is_digit (d ∷ e ∷ f ∷ g ∷ h ∷ [])) ib.2 in
    let id = first_and d (list_all is_digit (e ∷ f ∷ g ∷ h ∷ [])) ic.2 in
    let ie = first_and e (list_all is_digit (f ∷ g ∷ h ∷ [])) id.2 in
    let if' = first_and f (list_all is_digit (g ∷ h ∷ [])) ie.2 in
    let ig = first_and g (list_all is_digit (h ∷ [])) if'.2 in
    let ih = first_and h true ig.2 in
    rw (
      thousands a b c d ia.0 ib.0 ib.1 ic.0 ic.1 id.0 id.1,
      hundreds a b c d ia.0 ib.0 ib.1 ic.0 ic.1 id.0 id.1,
      tens a b c d ia.0 ib.0 ib.1 ic.0 ic.1 id.0 id.1,
      ones a b c d id.0 id.1,
      high e f ie.0 if'.0 if'.1,
      low e f ie.0 if'.0 if'.1,
      high g h ig.0 ih.0 ih.1,
      low g h ig.0 ih.0 ih.1,
    ) refl

pub record ShowsDay (text : List ℕ) : Type 0 where
  pub size : length text ≡ 8
  pub digits : list_all is_digit text ≡ true
  pub day : is_day (shown text) ≡ true

pub shows_is : (text : List ℕ) → shows_day text ≡ true → ShowsDay text
shows_is text e =
    let parts = and_parts (length text == 8) (list_all is_digit text && is_day (shown text)) e in
    let others = and_parts (list_all is_digit text) (is_day (shown text)) parts.1 in
    record { size = eqb-true (length text) 8 parts.0; digits = others.0; day = others.1 }

-- the digits of the day that a text shows are the text
pub digits_shown : (text : List ℕ) → shows_day text ≡ true → digits_of (shown text) ≡ text
digits_shown text e =
    let shows = shows_is text e in
    let t = eight text shows.size in
    let all : list_all is_digit (t.a ∷ t.b ∷ t.c ∷ t.d ∷ t.e ∷ t.f ∷ t.g ∷ t.h ∷ []) ≡ true = ap (list_all is_digit) (sym t.whole) ∙ shows.digits in
    ap (λ (l : List ℕ). digits_of (shown l)) t.whole ∙ digits_shown_of t.a t.b t.c t.d t.e t.f t.g t.h all ∙ sym t.whole

-- a month has at most 31 days
month_most : (y m : ℕ) → days_of_month y m ≤ 31
month_most y m = grind (arith, nat_tests)

-- the digits of a day show it
digit_of : (n : ℕ) → n < 10 → is_digit (48 + n) ≡ true
digit_of n low = is_a_digit (48 + n) (omega arith) (omega arith)

all_digits : (date : Date) → is_day date ≡ true → list_all is_digit (digits_of date) ≡ true
unfolding digits_of
all_digits date e =
    let h = date_is date.year date.month date.day e in
    let short : days_of_month date.year date.month ≤ 31 = month_most date.year date.month in
    rw (
      digit_of (date.year / 1000) (omega (arith, h.last_year)),
      digit_of (date.year / 100 % 10) (omega arith),
      digit_of (date.year / 10 % 10) (omega arith),
      digit_of (date.year % 10) (omega arith),
      digit_of (date.month / 10) (omega (arith, h.last_month)),
      digit_of (date.month % 10) (omega arith),
      digit_of (date.day / 10) (omega (arith, h.last_day, short)),
      digit_of (date.day % 10) (omega arith),
    ) refl

pub digits_show : (date : Date) → is_day date ≡ true → shows_day (digits_of date) ≡ true
digits_show date e =
    rw (digits_length date, all_digits date e, shown_digits date e, e) refl
