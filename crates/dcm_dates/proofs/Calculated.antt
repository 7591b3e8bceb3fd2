-- Numbers of days that were moved.
use Rattle.std.proofs.Common.{◌≡◌, ◌≤◌, ℕ, ◌+◌, Bool, true, false, Some, None, refl, arith, ap, ◌∙◌, sym}
use Rattle.std.specs.Prelude.{ℤ, pos, negsuc, ◌+ℤ◌, neg_ℤ, if◌then◌else◌}
use Rattle.std.proofs.lemmas.Int.{ints}
use Rattle.dcm_dates.specs.Calendar.{is_between}
use Rattle.dcm_dates.specs.Moved.{in_calendar, moved_number}
use Rattle.dcm_dates.proofs.Numbers.{between, within}

pub record InCalendar (z : ℤ) (m : ℕ) : Type 0 where
  pub value : z ≡ pos m
  pub first : 1 ≤ m
  pub last : m ≤ 3652059

pub in_calendar_is : (z : ℤ) (m : ℕ) → in_calendar z ≡ Some m → InCalendar z m
in_calendar_is (negsuc n) m e = absurd (cc)
in_calendar_is (pos n) m e = by_test (is_between 1 3652059 n) refl e
  where
    by_test : (t : Bool) → is_between 1 3652059 n ≡ t → (if t then Some n else None) ≡ Some m → InCalendar (pos n) m
    by_test true b h =
        let same : n ≡ m = cc in
        let range = between 1 3652059 n b in
        record { value = ap pos same; first = omega (arith, range); last = omega (arith, range) }
    by_test false b h = absurd (cc)

pub is_in_calendar : (m : ℕ) → 1 ≤ m → m ≤ 3652059 → in_calendar (pos m) ≡ Some m
is_in_calendar m low high = rw (within 1 3652059 m low high) refl

sums : (k a : ℕ) (n m : ℤ) → pos k +ℤ n ≡ pos a → pos k +ℤ (n +ℤ m) ≡ pos a +ℤ m
sums k a n m e = omega (arith, ints)

-- moving by one number of days and then by another is moving by their sum
pub numbers_add_up : (k a : ℕ) (n m : ℤ) → moved_number n k ≡ Some a → moved_number m a ≡ moved_number (n +ℤ m) k
numbers_add_up k a n m e = ap in_calendar (sym (sums k a n m (in_calendar_is (pos k +ℤ n) a e).value))

nowhere : (k : ℕ) (n : ℤ) → pos k +ℤ (n +ℤ neg_ℤ n) ≡ pos k
nowhere k n = omega (arith, ints)

pub not_moved : (k : ℕ) (n : ℤ) → 1 ≤ k → k ≤ 3652059 → moved_number (n +ℤ neg_ℤ n) k ≡ Some k
not_moved k n low high = ap in_calendar (nowhere k n) ∙ is_in_calendar k low high

intervals : (a b c d : ℕ) (n : ℤ) → pos a +ℤ n ≡ pos b → pos c +ℤ n ≡ pos d → d + a ≡ b + c
intervals a b c d n e f = omega (arith, ints)

pub intervals_of : (a b c d : ℕ) (n : ℤ) → moved_number n a ≡ Some b → moved_number n c ≡ Some d → d + a ≡ b + c
intervals_of a b c d n e f = intervals a b c d n (in_calendar_is (pos a +ℤ n) b e).value (in_calendar_is (pos c +ℤ n) d f).value
