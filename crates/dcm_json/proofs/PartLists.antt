-- Parts of a text: spaces that wait before more, and what stands before and behind a `=`.
use Rattle.std.proofs.Common.{◌≡◌, ◌∙◌, ℕ, zero, suc, ◌+◌, Bool, true, false, not, cond, List, [], ◌∷◌, ◌++◌, replicate, take, drop, refl, ap, ap₂, arith}
use Rattle.std.specs.List.{concat, before_first, after_first, position_or_len}
use Rattle.std.proofs.lemmas.Grind.{flat_map-append}
use Rattle.dcm_lemmas.proofs.Choice.{if_false}
use Rattle.dcm_lemmas.proofs.Numbers.{equal_numbers}
use Rattle.json.specs.Print.{escape, escape_byte}
use Rattle.dcm_json.specs.Values.{is_empty, is_one}
use Rattle.dcm_json.specs.Texts.{Parts, before_end, is_equals, is_space, text_of, without_end_spaces}

-- ---- spaces that wait

abbrev pub waiting : ℕ → Parts
waiting n = replicate n (32 ∷ [])

pub one_is : (c : ℕ) (x : List ℕ) → is_one c x ≡ true → x ≡ c ∷ []
one_is c [] e = absurd (cc)
one_is c (b ∷ []) e = ap (λ (d : ℕ). d ∷ []) (equal_numbers b c e)
one_is c (b ∷ d ∷ bytes) e = absurd (cc)

pub one_more_waits : (n : ℕ) (w : Parts) → waiting n ++ ((32 ∷ []) ∷ w) ≡ waiting (n + 1) ++ w
one_more_waits n w = let e : suc n ≡ n + 1 = omega arith in moved n w ∙ ap (λ (k : ℕ). waiting k ++ w) e
  where
    moved : (n : ℕ) (w : Parts) → waiting n ++ ((32 ∷ []) ∷ w) ≡ waiting (suc n) ++ w
    moved zero w = refl
    moved (suc n) w = ap (λ (p : Parts). (32 ∷ []) ∷ p) (moved n w)

pub only_spaces : (n : ℕ) → without_end_spaces (waiting n) ≡ []
only_spaces zero = refl
only_spaces (suc n) = ap (before_end (32 ∷ [])) (only_spaces n)

no_end : (x : List ℕ) (xs : Parts) (y : List ℕ) (ys : Parts) → before_end x (xs ++ (y ∷ ys)) ≡ x ∷ (xs ++ (y ∷ ys))
no_end x [] y ys = refl
no_end x (z ∷ xs) y ys = refl

kept : (x : List ℕ) (xs : Parts) → is_space x ≡ false → before_end x xs ≡ x ∷ xs
kept x [] e = if_false (is_space x) [] (x ∷ []) e
kept x (y ∷ ys) e = refl

pub spaces_before : (n : ℕ) (x : List ℕ) (w : Parts) → is_space x ≡ false
    → without_end_spaces (waiting n ++ (x ∷ w)) ≡ waiting n ++ (x ∷ without_end_spaces w)
spaces_before zero x w e = kept x (without_end_spaces w) e
spaces_before (suc n) x w e = ap (before_end (32 ∷ [])) (spaces_before n x w e) ∙ no_end (32 ∷ []) (waiting n) x (without_end_spaces w)

pub spaces_joined : (n : ℕ) (w : Parts) → concat (waiting n ++ w) ≡ replicate n 32 ++ concat w
spaces_joined zero w = refl
spaces_joined (suc n) w = ap (λ (t : List ℕ). 32 ∷ t) (spaces_joined n w)

-- the text of spaces and what follows them
pub text_behind : (n : ℕ) (x : List ℕ) (w : Parts) → is_space x ≡ false → text_of (waiting n ++ (x ∷ w)) ≡ replicate n 32 ++ (x ++ text_of w)
text_behind n x w e = ap concat (spaces_before n x w e) ∙ spaces_joined n (x ∷ without_end_spaces w)

pub no_text : (n : ℕ) → text_of (waiting n) ≡ []
no_text n = ap concat (only_spaces n)

pub not_empty : (n : ℕ) (x t : List ℕ) → is_empty x ≡ false → is_empty (replicate n 32 ++ (x ++ t)) ≡ false
not_empty zero [] t e = absurd (cc)
not_empty zero (b ∷ x) t e = refl
not_empty (suc n) x t e = refl

-- spaces stand in a string as they are
spaces_escaped : (n : ℕ) → escape (replicate n 32) ≡ replicate n 32
unfolding escape_byte
spaces_escaped zero = refl
spaces_escaped (suc n) = ap (λ (t : List ℕ). 32 ∷ t) (spaces_escaped n)

pub escaped_behind : (n : ℕ) (x t : List ℕ) → escape (replicate n 32 ++ (x ++ t)) ≡ replicate n 32 ++ (escape x ++ escape t)
escaped_behind n x t =
    flat_map-append escape_byte (replicate n 32) (x ++ t)
    ∙ ap₂ (λ (a b : List ℕ). a ++ b) (spaces_escaped n) (flat_map-append escape_byte x t)

-- ---- before and behind a `=`

pub before_equals : (w : Parts) → before_first is_equals ((61 ∷ []) ∷ w) ≡ []
before_equals w = refl

pub behind_equals : (w : Parts) → after_first is_equals ((61 ∷ []) ∷ w) ≡ w
behind_equals w = refl

pub before_more : (x : List ℕ) (w : Parts) → is_equals x ≡ false → before_first is_equals (x ∷ w) ≡ x ∷ before_first is_equals w
before_more x w e =
    let n : ℕ = position_or_len is_equals w in
    let one : 1 + n ≡ suc n = omega arith in
    ap (λ (t : Bool). take (cond (not t) (1 + n) 0) (x ∷ w)) e ∙ ap (λ (k : ℕ). take k (x ∷ w)) one

pub behind_more : (x : List ℕ) (w : Parts) → is_equals x ≡ false → after_first is_equals (x ∷ w) ≡ after_first is_equals w
behind_more x w e =
    let n : ℕ = position_or_len is_equals w in
    let one : 1 + n + 1 ≡ suc (n + 1) = omega arith in
    ap (λ (t : Bool). drop (cond (not t) (1 + n) 0 + 1) (x ∷ w)) e ∙ ap (λ (k : ℕ). drop k (x ∷ w)) one

pub before_with_spaces : (n : ℕ) (w : Parts) → before_first is_equals (waiting n ++ w) ≡ waiting n ++ before_first is_equals w
before_with_spaces zero w = refl
before_with_spaces (suc n) w = before_more (32 ∷ []) (waiting n ++ w) refl ∙ ap (λ (p : Parts). (32 ∷ []) ∷ p) (before_with_spaces n w)

pub behind_with_spaces : (n : ℕ) (w : Parts) → after_first is_equals (waiting n ++ w) ≡ after_first is_equals w
behind_with_spaces zero w = refl
behind_with_spaces (suc n) w = behind_more (32 ∷ []) (waiting n ++ w) refl ∙ behind_with_spaces n w
