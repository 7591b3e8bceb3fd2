-- No two elements of a dictionary have the same keyword, so that a keyword gives its element's number back.
use Rattle.std.proofs.Common.{◌≡◌, ◌≢◌, ℕ, zero, suc, ◌+◌, ◌*◌, ◌%◌, ◌<◌, Bool, true, false, ◌&&◌, ◌==◌, ◌⊎◌, inl, inr, if◌then◌else◌, List, [], ◌∷◌, length, map, get_or, refl, ◌∙◌, sym, ap, subst, arith, eqb-true, le_of_suc-le-suc}
use mathlib.Core.Bool.{false≢true}
use Rattle.std.specs.List.{AllPairs, find}
use Rattle.std.specs.Prelude.{bytes_eq, Option, Some, None, option_map}
use Rattle.std.proofs.lemmas.Slice.Eq.{bytes_eq-Decides}
use Rattle.std.proofs.lemmas.List.Recursion.{found_at}
use Rattle.std.proofs.lemmas.Bool.Decides.{nat_tests}
use Rattle.std.proofs.lemmas.List.{get_or-map, length-map}
use Rattle.dcm_lemmas.proofs.Numbers.{equals_itself}
use Rattle.dcm_lemmas.proofs.Truth.{and_both, and_first, and_second, is_false}
use Rattle.dcm_base.specs.declared.vr.Vr.{Vr}
use Rattle.dcm_base.specs.declared.dictionary.Dictionary.{Dictionary}
use Rattle.dcm_base.specs.declared.dictionary.Dictionary.TheVariants.{Extract, Standard, Signed}
use Rattle.dcm_base.specs.Tables.Dictionary.{Element, Entry, elements, entries, keywords, keyword_of, element_of, elements_in, numbered, called}
use Rattle.dcm_base.proofs.Dictionaries.Lines.{standard_keywords, standard_keywords_are}

-- a keyword as a number in base 256
abbrev number_from : ℕ → List ℕ → ℕ
number_from n [] = n
number_from n (x ∷ xs) = number_from (n * 256 + x) xs

abbrev differs : ℕ → List ℕ → Bool
differs n [] = true
differs n (x ∷ xs) = if n == x then false else differs n xs

abbrev apart : List ℕ → Bool
apart [] = true
apart (x ∷ xs) = differs x xs && apart xs

-- the numbers of one class: of all pairs only those within a class are compared
abbrev keep : Bool → ℕ → List ℕ → List ℕ
keep true x xs = x ∷ xs
keep false x xs = xs

abbrev in_class : ℕ → List ℕ → List ℕ
in_class c [] = []
in_class c (x ∷ xs) = keep (x % 61 == c) x (in_class c xs)

abbrev apart_below : ℕ → List ℕ → Bool
apart_below zero xs = true
apart_below (suc c) xs = apart (in_class c xs) && apart_below c xs

else_false : (t b : Bool) → (if t then false else b) ≡ true → t ≡ false
else_false true b p = absurd (false≢true p)
else_false false b p = refl

else_rest : (t b : Bool) → (if t then false else b) ≡ true → b ≡ true
else_rest true b p = absurd (false≢true p)
else_rest false b p = p

else_both : (t b : Bool) → t ≡ false → b ≡ true → (if t then false else b) ≡ true
else_both true b p q = sym p
else_both false b p q = q

same_class : (n x : ℕ) → n ≡ x → (x % 61 == n % 61) ≡ true
same_class n x is = subst (λ x. (x % 61 == n % 61) ≡ true) is (equals_itself (n % 61))

not_eq : (n x : ℕ) → (n ≡ x → false ≡ true) → (n == x) ≡ false
not_eq n x must = let other : n ≢ x = λ is. false≢true (must is) in grind (arith, nat_tests)

eq_not : (n x : ℕ) → (n == x) ≡ false → n ≢ x
eq_not n x p = λ is. false≢true (sym p ∙ subst (λ x. (n == x) ≡ true) is (equals_itself n))

class_apart : (k c : ℕ) (xs : List ℕ) → c < k → apart_below k xs ≡ true → apart (in_class c xs) ≡ true
class_apart zero c xs lt p = absurd (omega arith)
class_apart (suc k) c xs lt p =
    let last_or_less : (c ≡ k) ⊎ (c < k) = grind arith in
    elim last_or_less [
      | inl is ↦ subst (λ c. apart (in_class c xs) ≡ true) (sym is) (and_first _ _ p)
      | inr less ↦ class_apart k c xs less (and_second _ _ p)
    ]

differs_step : (n x : ℕ) (t : Bool) (kept rest : List ℕ) → (n ≡ x → t ≡ true) → differs n (keep t x kept) ≡ true → (differs n kept ≡ true → differs n rest ≡ true) → differs n (x ∷ rest) ≡ true
differs_step n x true kept rest same p q = else_both _ _ (else_false _ _ p) (q (else_rest _ _ p))
differs_step n x false kept rest same p q = else_both _ _ (not_eq n x same) (q p)

differs_all : (n : ℕ) (xs : List ℕ) → differs n (in_class (n % 61) xs) ≡ true → differs n xs ≡ true
differs_all n [] p = refl
differs_all n (x ∷ xs) p = differs_step n x (x % 61 == n % 61) (in_class (n % 61) xs) xs (same_class n x) p (differs_all n xs)

apart_here : (t : Bool) (x : ℕ) (xs : List ℕ) → t ≡ true → apart (keep t x xs) ≡ true → differs x xs ≡ true
apart_here true x xs is p = and_first _ _ p
apart_here false x xs is p = absurd (false≢true is)

apart_rest : (t : Bool) (x : ℕ) (xs : List ℕ) → apart (keep t x xs) ≡ true → apart xs ≡ true
apart_rest true x xs p = and_second _ _ p
apart_rest false x xs p = p

apart_all : (xs : List ℕ) → ((c : ℕ) → c < 61 → apart (in_class c xs) ≡ true) → apart xs ≡ true
apart_all [] f = refl
apart_all (x ∷ xs) f =
    let below : x % 61 < 61 = omega arith in
    and_both _ _ (differs_all x xs (apart_here _ x _ (equals_itself (x % 61)) (f (x % 61) below))) (apart_all xs (λ c lt. apart_rest (x % 61 == c) x (in_class c xs) (f c lt)))

apart_of : (xs : List ℕ) → apart_below 61 xs ≡ true → apart xs ≡ true
apart_of xs p = apart_all xs (λ c lt. class_apart 61 c xs lt p)

differs_at : (n : ℕ) (xs : List ℕ) (j d : ℕ) → differs n xs ≡ true → j < length xs → n ≢ get_or xs j d
differs_at n [] j d p lt = absurd (omega arith)
differs_at n (x ∷ xs) zero d p lt = eq_not n x (else_false _ _ p)
differs_at n (x ∷ xs) (suc j) d p lt = differs_at n xs j d (else_rest _ _ p) (le_of_suc-le-suc lt)

apart_at : (xs : List ℕ) (i j d : ℕ) → apart xs ≡ true → i < j → j < length xs → get_or xs i d ≢ get_or xs j d
apart_at [] i j d p lt within = absurd (omega arith)
apart_at (x ∷ xs) i zero d p lt within = absurd (omega arith)
apart_at (x ∷ xs) zero (suc j) d p lt within = differs_at x xs j d (and_first _ _ p) (le_of_suc-le-suc within)
apart_at (x ∷ xs) (suc i) (suc j) d p lt within = apart_at xs i j d (and_second _ _ p) (le_of_suc-le-suc lt) (le_of_suc-le-suc within)

-- the keywords of each dictionary are apart
abbrev key : Element → ℕ
key e = number_from 0 e.2

extract_apart : apart_below 61 (map key elements) ≡ true
unfolding elements
extract_apart = refl

standard_apart : apart_below 61 (map (number_from 0) standard_keywords) ≡ true
unfolding entries keywords
standard_apart = refl

keyed : (text : List ℕ) (es : List Entry) → map (number_from 0) (map (keyword_of text) es) ≡ map key (map (element_of text) es)
keyed text [] = refl
keyed text (e ∷ es) = ap (λ ns. number_from 0 (keyword_of text e) ∷ ns) (keyed text es)

keys_apart : (d : Dictionary) → apart (map key (elements_in d)) ≡ true
unfolding elements_in
keys_apart Extract = apart_of (map key elements) extract_apart
keys_apart Standard =
    let same = ap (map (number_from 0)) standard_keywords_are ∙ keyed keywords entries in
    subst (λ ns. apart ns ≡ true) same (apart_of (map (number_from 0) standard_keywords) standard_apart)
keys_apart Signed =
    let same = ap (map (number_from 0)) standard_keywords_are ∙ keyed keywords entries in
    subst (λ ns. apart ns ≡ true) same (apart_of (map (number_from 0) standard_keywords) standard_apart)

-- no two elements have the same keyword
pub keywords_differ : (d : Dictionary) → AllPairs (λ (x y : Element). x.2 ≢ y.2) (elements_in d)
keywords_differ d i j e lt within =
    let long : length (map key (elements_in d)) ≡ length (elements_in d) = length-map (elements_in d) key in
    let other = apart_at (map key (elements_in d)) i j 0 (keys_apart d) lt (omega arith) in
    λ same. other (get_or-map key (elements_in d) i e 0 (omega arith) ∙ ap (number_from 0) same ∙ sym (get_or-map key (elements_in d) j e 0 within))

module _ (k : List ℕ) where
  first_or_rest : (b : Bool) (e : Element) (rest : Option Element) → option_map (λ e. e.0) (if b then Some e else rest) ≡ (if b then Some e.0 else option_map (λ e. e.0) rest)
  first_or_rest true e rest = refl
  first_or_rest false e rest = refl

  looks_on : (e : Element) (es : List Element) → called (e ∷ es) k ≡ (if bytes_eq e.2 k then Some e.0 else called es k)
  looks_on e es = first_or_rest (bytes_eq e.2 k) e (find (λ e. bytes_eq e.2 k) es)

called_first : (es : List Element) → AllPairs (λ (x y : Element). x.2 ≢ y.2) es → (i : ℕ) (e : Element) → i < length es → called es (get_or es i e).2 ≡ Some (get_or es i e).0
called_first es differ i e within =
    let k : List ℕ = (get_or es i e).2 in
    found_at (λ es. called es k) (λ (x : Element). bytes_eq x.2 k) (λ x. Some x.0) None refl (looks_on k) es i e within
    (λ j lt. is_false _ (λ p. differ j i e lt within ((bytes_eq-Decides (get_or es j e).2 k).0 p)))
    ((bytes_eq-Decides k k).1 refl)

-- what is found of a number is in a place
module _ (n : ℕ) (e : Vr × List ℕ) (d : Element) where
  abbrev Placed : List Element → Type 0
  Placed es = (i : ℕ) × (i < length es) × ((get_or es i d).0 ≡ n) × ((get_or es i d).2 ≡ e.1)

  placed_step : (b : Bool) (x : Element) (es : List Element) → (b ≡ true → x.0 ≡ n) → (numbered es n ≡ Some e → Placed es) → option_map (λ e. (e.1, e.2)) (if b then Some x else find (λ e. e.0 == n) es) ≡ Some e → Placed (x ∷ es)
  placed_step true x es same later p = let whole : (x.1, x.2) ≡ e = cc in (0, omega arith, same refl, ap (λ (e : Vr × List ℕ). e.1) whole)
  placed_step false x es same later p = let r = later p in (suc r.0, omega (arith, r.1), r.2, r.3)

  pub placed : (es : List Element) → numbered es n ≡ Some e → Placed es
  placed [] p = absurd cc
  placed (x ∷ es) p = placed_step (x.0 == n) x es (eqb-true x.0 n) (placed es) p

back_from : (es : List Element) (n : ℕ) (k : List ℕ) (x : Element) → called es x.2 ≡ Some x.0 → x.0 ≡ n → x.2 ≡ k → called es k ≡ Some n
back_from es n k x p number keyword = subst (λ (k : List ℕ). called es k ≡ Some n) keyword (p ∙ ap (λ (n : ℕ). Some n) number)

-- the keyword of an element gives its number back
pub called_back : (d : Dictionary) (n : ℕ) (e : Vr × List ℕ) → numbered (elements_in d) n ≡ Some e → called (elements_in d) e.1 ≡ Some n
called_back d n e p =
    let none : Element = (n, e.0, e.1) in
    let at = placed n e none (elements_in d) p in
    back_from (elements_in d) n e.1 (get_or (elements_in d) at.0 none) (called_first (elements_in d) (keywords_differ d) at.0 none at.1) at.2 at.3
