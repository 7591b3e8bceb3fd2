-- The text of a value stands for the value: numbers.
use Rattle.std.proofs.Common.{◌≡◌, ℕ, zero, suc, ◌≤◌, ◌<◌, ◌+◌, ◌-◌, ◌*◌, ◌/◌, ◌%◌, ◌^◌, List, [], ◌∷◌, ◌++◌, length, map, take, drop, reverse, Some, None, Bool, true, false, refl, sym, ◌∙◌, ap, subst, arith, decimal, fold, flat_map}
use Rattle.std.specs.Prelude.{if◌then◌else◌, nat_lt, nat_le, ◌==◌, ◌&&◌}
use Rattle.std.specs.Fmt.{digits}
use Rattle.std.specs.Int.{bytes_low_first}
use Rattle.std.specs.Int.Digits.{AllBelowBase, digits_of, number_from_digits_after}
use Rattle.std.proofs.lemmas.Bool.Decides.{nat_tests}
use Rattle.std.proofs.lemmas.Fmt.{decimal-digits_of, decimal_nonempty, length-decimal-le}
use Rattle.std.proofs.lemmas.Int.Digits.{all_below_base_digits_of, number_digits_of}
use Rattle.std.proofs.lemmas.List.{length-reverse, length-map, reverse-append}
use Rattle.std.proofs.lemmas.List.Sums.{fold-append}
use Rattle.std.proofs.Math.Nat.{pow-suc, div-div-eq-div-mul, mod-eq_of_lt}
use Rattle.byteorder.specs.Endian.{little_bytes}
use Rattle.dcm_lemmas.proofs.Lists.{cons_alike}
use Rattle.dcm_lemmas.proofs.Numbers.{byte_is}
use Rattle.dcm_lemmas.proofs.Choice.{if_false, if_true}
use Rattle.dcm_base.specs.Lines.ReadValue.{◌>>=◌, tag_value, digit, number_in, decimal_number, hex_number, hex_value, signed_value, positive_value, negative_value, unsigned_value, only_if}
use Rattle.dcm_base.specs.declared.tag.Tag.{Tag}
use Rattle.dcm_base.specs.Tree.Value.{number_of}
use Rattle.dcm_base.specs.Dump.ValueText.{lower, hex_byte, hex_word, signed_text, tag_text}
use Rattle.dcm_base.proofs.DumpsBack.Texts.{Bytes, lower_digit}

-- ---- the bytes of a number

-- ---- decimal numbers

pub digit_goes : (base so_far c d : ℕ) (cs : List ℕ) → digit base c ≡ Some d → number_in base so_far (c ∷ cs) ≡ number_in base (so_far * base + d) cs
digit_goes base so_far c d cs p = ap (λ o. o >>= λ x. number_in base (so_far * base + x) cs) p

decimal_digit : (d : ℕ) → d < 10 → digit 10 (48 + d) ≡ Some d
decimal_digit d l = grind (arith, nat_tests)

digits_in : (so_far : ℕ) (ds : List ℕ) → AllBelowBase 10 ds → number_in 10 so_far (map (λ d. 48 + d) ds) ≡ Some (number_from_digits_after 10 so_far ds)
digits_in so_far [] h = refl
digits_in so_far (d ∷ ds) h = digit_goes 10 so_far (48 + d) d (map (λ x. 48 + x) ds) (decimal_digit d h.0) ∙ digits_in (so_far * 10 + d) ds h.1

decimal_in : (n : ℕ) → n < 2 ^ 64 → number_in 10 0 (decimal n) ≡ Some n
unfolding digits
decimal_in zero l = refl
decimal_in (suc n) l =
    ap (number_in 10 0) (decimal-digits_of (suc n) (omega arith) l)
    ∙ digits_in 0 (digits_of 10 (suc n)) (all_below_base_digits_of 10 (suc n) (omega arith))
    ∙ ap Some (number_digits_of 10 (suc n) (omega arith))

between : (l : ℕ) → 0 < l → l ≤ 20 → (nat_le 1 l && nat_le l 20) ≡ true
between l p q = grind (arith, nat_tests)

pub decimal_back : (n : ℕ) → n < 2 ^ 64 → decimal_number (decimal n) ≡ Some n
decimal_back n l =
    if_true _ _ _ (between (length (decimal n)) (decimal_nonempty n l) (length-decimal-le 20 n (omega arith) (omega (arith, l)) l)) ∙ decimal_in n l

-- ---- hexadecimal numbers

byte_goes : (so_far b : ℕ) (cs : List ℕ) → b < 256 → number_in 16 so_far (hex_byte b ++ cs) ≡ number_in 16 (so_far * 256 + b) cs
byte_goes so_far b cs l =
    digit_goes 16 so_far (lower (b / 16)) (b / 16) (lower (b % 16) ∷ cs) (lower_digit (b / 16) (omega (arith, l)))
    ∙ digit_goes 16 (so_far * 16 + b / 16) (lower (b % 16)) (b % 16) cs (lower_digit (b % 16) (omega arith))
    ∙ ap (λ n. number_in 16 n cs) (let e : (so_far * 16 + b / 16) * 16 + b % 16 ≡ so_far * 256 + b = omega arith in e)

-- the number of bytes of which the highest is first
abbrev pushed : ℕ → ℕ → ℕ
pushed n b = n * 256 + b

bytes_go : (so_far : ℕ) (w : List ℕ) → Bytes w → number_in 16 so_far (flat_map hex_byte w) ≡ Some (fold pushed so_far w)
bytes_go so_far [] h = refl
bytes_go so_far (b ∷ w) h = byte_goes so_far b (flat_map hex_byte w) h.0 ∙ bytes_go (so_far * 256 + b) w h.1

reverse_cons : (b : ℕ) (u : List ℕ) → reverse (b ∷ u) ≡ reverse u ++ b ∷ []
reverse_cons b u = reverse-append (b ∷ []) u

fold_reverse : (u : List ℕ) → fold pushed 0 (reverse u) ≡ number_of u
fold_reverse [] = refl
fold_reverse (b ∷ u) =
    ap (fold pushed 0) (reverse_cons b u)
    ∙ fold-append pushed 0 (reverse u) (b ∷ [])
    ∙ ap (λ n. n * 256 + b) (fold_reverse u)
    ∙ (let e : number_of u * 256 + b ≡ b + 256 * number_of u = omega arith in e)

pub Bytes-append : (u v : List ℕ) → Bytes u → Bytes v → Bytes (u ++ v)
Bytes-append [] v h k = k
Bytes-append (b ∷ u) v h k = (h.0, Bytes-append u v h.1 k)

pub Bytes-reverse : (u : List ℕ) → Bytes u → Bytes (reverse u)
Bytes-reverse [] h = tt
Bytes-reverse (b ∷ u) h = subst Bytes (sym (reverse_cons b u)) (Bytes-append (reverse u) (b ∷ []) (Bytes-reverse u h.1) (h.0, tt))

pub length-hex : (w : List ℕ) → length (flat_map hex_byte w) ≡ 2 * length w
length-hex [] = refl
length-hex (b ∷ w) = let e : length (flat_map hex_byte w) ≡ 2 * length w = length-hex w in omega (arith, e)

pub number_below : (u : List ℕ) → Bytes u → number_of u < 256 ^ length u
number_below [] h = omega arith
number_below (b ∷ u) h =
    let e : number_of u < 256 ^ length u = number_below u h.1 in
    let p : 256 ^ suc (length u) ≡ 256 ^ length u * 256 = pow-suc 256 (length u) in
    omega (arith, e, p, h.0)

low_back : (i : ℕ) (u : List ℕ) (n : ℕ) → Bytes u → n / 256 ^ i ≡ number_of u → bytes_low_first i (length u) n ≡ u
low_back i [] n h e = refl
low_back i (b ∷ u) n h e =
    let q : n / 256 ^ suc i ≡ number_of u = ap (λ k. n / k) (pow-suc 256 i) ∙ sym (div-div-eq-div-mul n (256 ^ i) 256) ∙ ap (λ k. k / 256) e ∙ rest_is b (number_of u) h.0 in
    cons_alike _ _ _ _ (byte_is i n ∙ ap (λ k. k % 256) e ∙ first_is b (number_of u) h.0) (low_back (suc i) u n h.1 q)
  where
    rest_is : (b m : ℕ) → b < 256 → (b + 256 * m) / 256 ≡ m
    rest_is b m l = omega arith

    first_is : (b m : ℕ) → b < 256 → (b + 256 * m) % 256 ≡ b
    first_is b m l = omega arith

pub bytes_back : (size : ℕ) (u : List ℕ) → length u ≡ size → Bytes u → little_bytes size (number_of u) ≡ u
bytes_back size u l h =
    ap (λ k. little_bytes k (number_of u)) (sym l)
    ∙ low_back 0 u (number_of u) h (let e : number_of u / 1 ≡ number_of u = omega arith in e)

pub hex_back : (size : ℕ) (u : List ℕ) → length u ≡ size → Bytes u → hex_value size (flat_map hex_byte (reverse u)) ≡ Some u
hex_back size u l h =
    let w : List ℕ = flat_map hex_byte (reverse u) in
    let long : length w ≡ 2 * size = length-hex (reverse u) ∙ ap (λ n. 2 * n) (length-reverse u ∙ l) in
    let is : number_in 16 0 w ≡ Some (number_of u) = bytes_go 0 (reverse u) (Bytes-reverse u h) ∙ ap Some (fold_reverse u) in
    ap (λ o. o >>= λ n. Some (little_bytes size n)) (if_true (length w == 2 * size) (number_in 16 0 w) None (same_length _ _ long) ∙ is)
    ∙ ap Some (bytes_back size u l h)
  where
    same_length : (m n : ℕ) → m ≡ n → (m == n) ≡ true
    same_length m n e = grind (arith, nat_tests)

-- ---- signs

NoSign : List ℕ → Type 0
NoSign [] = (false ≡ true)
NoSign (c ∷ cs) = (c == 45) ≡ false

digit_is_no_sign : (d : ℕ) → (48 + d == 45) ≡ false
digit_is_no_sign d = grind (arith, nat_tests)

digits_no_sign : (ds : List ℕ) → 0 < length ds → NoSign (map (λ d. 48 + d) ds)
unfolding NoSign
digits_no_sign [] l = absurd (omega (arith, l))
digits_no_sign (d ∷ ds) l = digit_is_no_sign d

decimal_no_sign : (n : ℕ) → n < 2 ^ 64 → NoSign (decimal n)
unfolding NoSign digits
decimal_no_sign zero l = refl
decimal_no_sign (suc n) l =
    let ds : List ℕ = digits_of 10 (suc n) in
    let e : decimal (suc n) ≡ map (λ d. 48 + d) ds = decimal-digits_of (suc n) (omega arith) l in
    let some : 0 < length ds = omega (arith, decimal_nonempty (suc n) l, ap length e, length-map ds (λ d. 48 + d)) in
    subst NoSign (sym e) (digits_no_sign ds some)

signed_plain : (size : ℕ) (cs : List ℕ) → NoSign cs → signed_value size cs ≡ positive_value size cs
unfolding NoSign
signed_plain size [] h = cc
signed_plain size (c ∷ cs) h = if_false (c == 45) _ _ h

positive_back : (size full n : ℕ) (u : List ℕ) → 256 ^ size ≡ full → 2 * n < full → n < 2 ^ 64 → little_bytes size n ≡ u → positive_value size (decimal n) ≡ Some u
positive_back size full n u f l m e =
    ap (λ o. o >>= λ k. only_if (nat_lt (2 * k) (256 ^ size)) (Some (little_bytes size k))) (decimal_back n m)
    ∙ if_true (nat_lt (2 * n) (256 ^ size)) (Some (little_bytes size n)) None (ap (nat_lt (2 * n)) f ∙ is_below (2 * n) full l)
    ∙ ap Some e
  where
    is_below : (a b : ℕ) → a < b → nat_lt a b ≡ true
    is_below a b h = grind (arith, nat_tests, h)

negative_back : (size full n m : ℕ) (u : List ℕ) → 256 ^ size ≡ full → 2 * m ≤ full → m < 2 ^ 64 → (full - m) % full ≡ n → little_bytes size n ≡ u → negative_value size (decimal m) ≡ Some u
negative_back size full n m u f l k r e =
    ap (λ o. o >>= λ i. only_if (nat_le (2 * i) (256 ^ size)) (Some (little_bytes size ((256 ^ size - i) % 256 ^ size)))) (decimal_back m k)
    ∙ if_true (nat_le (2 * m) (256 ^ size)) (Some (little_bytes size ((256 ^ size - m) % 256 ^ size))) None (ap (nat_le (2 * m)) f ∙ is_within (2 * m) full l)
    ∙ ap (λ q. Some (little_bytes size ((q - m) % q))) f
    ∙ ap (λ q. Some (little_bytes size q)) r
    ∙ ap Some e
  where
    is_within : (a b : ℕ) → a ≤ b → nat_le a b ≡ true
    is_within a b h = grind (arith, nat_tests, h)

-- half of the numbers of a size have no sign
pub signed_back : (size half full : ℕ) (u : List ℕ) → 2 ^ (8 * size - 1) ≡ half → 2 ^ (8 * size) ≡ full → 256 ^ size ≡ full → full ≡ 2 * half → full ≤ 2 ^ 64
    → length u ≡ size → Bytes u → signed_value size (signed_text size (number_of u)) ≡ Some u
signed_back size half full u h f g two most l bytes = by_test (nat_lt n (2 ^ (8 * size - 1))) refl
  where
    n : ℕ
    n = number_of u

    below : n < full
    below = subst (λ k. n < k) (ap (λ k. 256 ^ k) l ∙ g) (number_below u bytes)

    unsigned : (nat_lt n (2 ^ (8 * size - 1)) ≡ true) → 2 * n < full
    unsigned t = let q : nat_lt n half ≡ true = ap (nat_lt n) (sym h) ∙ t in omega (arith, two, is_below n half q)
      where
        is_below : (a b : ℕ) → nat_lt a b ≡ true → a < b
        is_below a b p = grind (arith, nat_tests, p)

    by_test : (t : Bool) → nat_lt n (2 ^ (8 * size - 1)) ≡ t → signed_value size (if t then decimal n else 45 ∷ decimal (2 ^ (8 * size) - n)) ≡ Some u
    by_test true t = signed_plain size (decimal n) (decimal_no_sign n (omega (arith, below, most))) ∙ positive_back size full n u g (unsigned t) (omega (arith, below, most)) (bytes_back size u l bytes)
    by_test false t =
        let q : nat_lt n half ≡ false = ap (nat_lt n) (sym h) ∙ t in
        let at_least : half ≤ n = is_past n half q in
        let m : ℕ = full - n in
        ap (λ k. negative_value size (decimal (k - n))) f
        ∙ negative_back size full n m u g (omega (arith, at_least, two, below)) (omega (arith, below, most, at_least, two)) (ap (λ k. k % full) (back n full below) ∙ mod-eq_of_lt below) (bytes_back size u l bytes)
      where
        is_past : (a b : ℕ) → nat_lt a b ≡ false → b ≤ a
        is_past a b p = grind (arith, nat_tests, p)

        back : (a b : ℕ) → a < b → b - (b - a) ≡ a
        back a b p = omega (arith, p)

pub unsigned_back : (size : ℕ) (u : List ℕ) → 256 ^ size ≤ 2 ^ 64 → length u ≡ size → Bytes u → unsigned_value size (decimal (number_of u)) ≡ Some u
unsigned_back size u most l bytes =
    ap (λ o. o >>= λ k. only_if (nat_lt k (256 ^ size)) (Some (little_bytes size k))) (decimal_back n (omega (arith, below, most)))
    ∙ if_true (nat_lt n (256 ^ size)) (Some (little_bytes size n)) None (is_below n (256 ^ size) below)
    ∙ ap Some (bytes_back size u l bytes)
  where
    n : ℕ
    n = number_of u

    below : n < 256 ^ size
    below = subst (λ k. n < 256 ^ k) l (number_below u bytes)

    is_below : (a b : ℕ) → a < b → nat_lt a b ≡ true
    is_below a b h = grind (arith, nat_tests, h)

-- ---- tags

pub word_back : (n : ℕ) → n < 65536 → hex_number 4 (hex_word n) ≡ Some n
word_back n l =
    byte_goes 0 (n / 256) (hex_byte (n % 256)) (omega (arith, l))
    ∙ byte_goes (0 * 256 + n / 256) (n % 256) [] (omega arith)
    ∙ ap Some (let e : (0 * 256 + n / 256) * 256 + n % 256 ≡ n = omega arith in e)

text_back : (g e : ℕ) → g < 65536 → e < 65536 → tag_value (tag_text g e) ≡ Some (little_bytes 2 g ++ little_bytes 2 e)
text_back g e l m =
    ap (λ o. (o >>= λ group. hex_number 4 (hex_word e) >>= λ element. Some (tag_from group element)) >>= λ tag. Some (little_bytes 2 tag.group ++ little_bytes 2 tag.element)) (word_back g l)
    ∙ ap (λ o. (o >>= λ element. Some (tag_from g element)) >>= λ tag. Some (little_bytes 2 tag.group ++ little_bytes 2 tag.element)) (word_back e m)
  where
    tag_from : ℕ → ℕ → Tag
    tag_from group element = record { group = group; element = element }

pub tag_back : (u : List ℕ) → length u ≡ 4 → Bytes u → tag_value (tag_text (number_of (take 2 u)) (number_of (drop 2 u))) ≡ Some u
tag_back (a ∷ b ∷ c ∷ d ∷ []) l h =
    let first : Bytes (a ∷ b ∷ []) = (h.0, (h.1.0, tt)) in
    let second : Bytes (c ∷ d ∷ []) = h.1.1 in
    text_back (number_of (a ∷ b ∷ [])) (number_of (c ∷ d ∷ [])) (number_below (a ∷ b ∷ []) first) (number_below (c ∷ d ∷ []) second)
    ∙ ap (λ x. Some (x ++ little_bytes 2 (number_of (c ∷ d ∷ [])))) (bytes_back 2 (a ∷ b ∷ []) refl first)
    ∙ ap (λ x. Some ((a ∷ b ∷ []) ++ x)) (bytes_back 2 (c ∷ d ∷ []) refl second)
tag_back [] l h = cc
tag_back (a ∷ []) l h = cc
tag_back (a ∷ b ∷ []) l h = cc
tag_back (a ∷ b ∷ c ∷ []) l h = cc
tag_back (a ∷ b ∷ c ∷ d ∷ e ∷ u) l h = absurd (omega (arith, l))
