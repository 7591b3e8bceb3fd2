-- The first bytes of a line that is taken part by part.
use Rattle.std.proofs.Common.{◌≡◌, ◌∙◌, ap, sym, ℕ, ◌+◌, ◌-◌, ◌<◌, ◌≤◌, List, [], ◌∷◌, ◌++◌, length, take, Bool, true, false, arith, inl, inr, ◌⊎◌, length-append, min}
use Rattle.std.specs.Prelude.{nat_lt}
use Rattle.std.proofs.lemmas.Bool.{cases_lt, lt-ltb}
use Rattle.std.proofs.lemmas.Bool.Decides.{nat_tests}
use Rattle.std.proofs.lemmas.List.{append-nil, take_all, take-append-le, length-take, length-take-le}
use Rattle.std.proofs.Math.Seq.{take-append-add}
use Rattle.dcm_names.specs.Names.{NAME_LIMIT, can_be_opened}

-- a line within the limit is kept whole
kept_whole : (limit : ℕ) (kept line : List ℕ) → kept ≡ take limit line → length line ≤ limit → kept ≡ line
kept_whole limit kept line is short = is ∙ take_all limit line short

-- of a longer one so much
kept_full : (limit : ℕ) (kept line : List ℕ) → kept ≡ take limit line → limit ≤ length line → length kept ≡ limit
kept_full limit kept line is long = ap length is ∙ length-take-le limit line long

-- ---- all of the bytes have room

pub all_kept : (limit : ℕ) (kept line bytes : List ℕ) → kept ≡ take limit line → length kept + length bytes ≤ limit → kept ++ bytes ≡ take limit (line ++ bytes)
all_kept limit kept line bytes is room = by_length (cases_lt limit (length line)) bytes room
  where
    by_length : (limit < length line) ⊎ (length line ≤ limit) → (bs : List ℕ) → length kept + length bs ≤ limit → kept ++ bs ≡ take limit (line ++ bs)
    by_length (inl long) [] fits = append-nil kept ∙ is ∙ ap (take limit) (sym (append-nil line))
    by_length (inl long) (b ∷ bs) fits = let full = kept_full limit kept line is (omega (arith, long)) in absurd (omega (arith, full, fits))
    by_length (inr short) bs fits =
        let whole = kept_whole limit kept line is short in
        let size = length-append line bs in
        let same = ap length whole in
        ap (λ l. l ++ bs) whole ∙ sym (take_all limit (line ++ bs) (omega (arith, size, same, fits)))

pub as_long : (limit : ℕ) (kept line bytes : List ℕ) → kept ≡ take limit line → length kept + length bytes ≤ limit → nat_lt limit (length line) ≡ nat_lt limit (length (line ++ bytes))
as_long limit kept line bytes is room = by_length (cases_lt limit (length line)) bytes room
  where
    by_length : (limit < length line) ⊎ (length line ≤ limit) → (bs : List ℕ) → length kept + length bs ≤ limit → nat_lt limit (length line) ≡ nat_lt limit (length (line ++ bs))
    by_length (inl long) [] fits = ap (λ l. nat_lt limit (length l)) (sym (append-nil line))
    by_length (inl long) (b ∷ bs) fits = let full = kept_full limit kept line is (omega (arith, long)) in absurd (omega (arith, full, fits))
    by_length (inr short) bs fits =
        let size = length-append line bs in
        let same = ap length (kept_whole limit kept line is short) in
        grind (arith, nat_tests, size, same)

-- ---- some of them have not

pub front_kept : (limit : ℕ) (kept line bytes : List ℕ) → kept ≡ take limit line → kept ++ take (limit - length kept) bytes ≡ take limit (line ++ bytes)
front_kept limit kept line bytes is = by_length (cases_lt limit (length line))
  where
    by_length : (limit < length line) ⊎ (length line ≤ limit) → kept ++ take (limit - length kept) bytes ≡ take limit (line ++ bytes)
    by_length (inl long) =
        let none : limit - length kept ≡ 0 = let full = kept_full limit kept line is (omega (arith, long)) in omega (arith, full) in
        ap (λ n. kept ++ take n bytes) none ∙ append-nil kept ∙ is ∙ sym (take-append-le limit line bytes (omega (arith, long)))
    by_length (inr short) =
        let whole = kept_whole limit kept line is short in
        let all : length line + (limit - length line) ≡ limit = omega (arith, short) in
        ap (λ l. l ++ take (limit - length l) bytes) whole ∙ sym (take-append-add line bytes (limit - length line)) ∙ ap (λ n. take n (line ++ bytes)) all

pub longer_now : (limit : ℕ) (kept line bytes : List ℕ) → kept ≡ take limit line → limit < length kept + length bytes → true ≡ nat_lt limit (length (line ++ bytes))
longer_now limit kept line bytes is more =
    let size = length-append line bytes in
    let same = ap length is ∙ length-take limit line in
    sym (lt-ltb limit (length (line ++ bytes)) (omega (arith, size, same, more)))

-- ---- whether it can be opened

short_opens : (line : List ℕ) → nat_lt NAME_LIMIT (length line) ≡ false → can_be_opened (take NAME_LIMIT line) ≡ can_be_opened line
short_opens line short = ap can_be_opened (take_all NAME_LIMIT line (grind (arith, nat_tests, short)))

pub opens_as : (kept line : List ℕ) (is_longer : Bool) → kept ≡ take NAME_LIMIT line → is_longer ≡ nat_lt NAME_LIMIT (length line) → is_longer ≡ false → can_be_opened kept ≡ can_be_opened line
opens_as kept line is_longer is longer short = ap can_be_opened is ∙ short_opens line (sym longer ∙ short)

-- ---- the first bytes of a name

pub first_bytes : (limit : ℕ) (name : List ℕ) (n : ℕ) → n ≡ min (length name) limit → take n name ≡ take limit name
first_bytes limit name n is = by_length (cases_lt limit (length name))
  where
    by_length : (limit < length name) ⊎ (length name ≤ limit) → take n name ≡ take limit name
    by_length (inl long) = let e : n ≡ limit = omega (arith, is, long) in ap (λ k. take k name) e
    by_length (inr short) = take_all n name (omega (arith, is, short)) ∙ sym (take_all limit name short)
