-- Parts, joined and parted again.
use Rattle.std.proofs.Common.{◌≡◌, ℕ, Bool, true, false, Option, Some, None, List, [], ◌∷◌, ◌++◌, length, take, drop, refl, arith, ap, ◌∙◌, sym, length-append, take-append-drop}
use Rattle.std.specs.Prelude.{◌==◌, not, cond, option_map, option_and_then}
use Rattle.std.specs.List.{AllZip, onto_first, join_with_byte, list_all}
use Rattle.std.proofs.lemmas.Bool.{and_parts, not-true}
use Rattle.std.proofs.lemmas.List.Folds.{list_all-append}
use Rattle.dcm_dates.specs.Moved.{each_moved, parts_of}

-- no backslash is in a part
abbrev pub is_free : List ℕ → Bool
is_free part = list_all (λ b. not (b == 92)) part

abbrev pub are_free : List (List ℕ) → Bool
are_free parts = list_all is_free parts

split_step : (t : Bool) (x : ℕ) (q : List ℕ) (qs parts : List (List ℕ)) → t ≡ false → parts ≡ q ∷ qs
    → cond t ([] ∷ parts) (onto_first x parts) ≡ (x ∷ q) ∷ qs
split_step t x q qs parts f e = rw (f, e) refl

-- a free part before a backslash is the first
first_free : (q rest : List ℕ) → is_free q ≡ true → parts_of (q ++ 92 ∷ rest) ≡ q ∷ parts_of rest
first_free [] rest e = refl
first_free (x ∷ q) rest e =
    let parts = and_parts (not (x == 92)) (is_free q) e in
    split_step (x == 92) x q (parts_of rest) (parts_of (q ++ 92 ∷ rest)) (not-true (x == 92) parts.0) (first_free q rest parts.1)

last_free : (q : List ℕ) → is_free q ≡ true → parts_of q ≡ q ∷ []
last_free [] e = refl
last_free (x ∷ q) e =
    let parts = and_parts (not (x == 92)) (is_free q) e in
    split_step (x == 92) x q [] (parts_of q) (not-true (x == 92) parts.0) (last_free q parts.1)

-- parts that were joined are parted again
pub parted_again : (q : List ℕ) (qs : List (List ℕ)) → are_free (q ∷ qs) ≡ true
    → parts_of (join_with_byte 92 (q ∷ qs)) ≡ q ∷ qs
parted_again q [] e = last_free q (and_parts (is_free q) true e).0
parted_again q (r ∷ qs) e =
    let parts = and_parts (is_free q) (are_free (r ∷ qs)) e in
    first_free q (join_with_byte 92 (r ∷ qs)) parts.0 ∙ ap (λ (ps : List (List ℕ)). q ∷ ps) (parted_again r qs parts.1)

-- the parts of a text are free
onto_free : (t : Bool) (x : ℕ) (parts : List (List ℕ)) → (x == 92) ≡ t → are_free parts ≡ true
    → are_free (cond t ([] ∷ parts) (onto_first x parts)) ≡ true
onto_free true x parts e h = h
onto_free false x [] e h = rw e refl
onto_free false x (q ∷ qs) e h = let both = and_parts (is_free q) (are_free qs) h in rw (e, both.0, both.1) refl

pub parts_free : (text : List ℕ) → are_free (parts_of text) ≡ true
parts_free [] = refl
parts_free (x ∷ xs) = onto_free (x == 92) x (parts_of xs) refl (parts_free xs)

-- and what follows a place in a free part is free
pub free_behind : (n : ℕ) (part : List ℕ) → is_free part ≡ true → is_free (drop n part) ≡ true
free_behind n part e = (and_parts (is_free (take n part)) (is_free (drop n part)) (sym (list_all-append (λ b. not (b == 92)) (take n part) (drop n part)) ∙ ap is_free (take-append-drop n part) ∙ e)).1

pub free_joined : (xs ys : List ℕ) → is_free xs ≡ true → is_free ys ≡ true → is_free (xs ++ ys) ≡ true
free_joined xs ys e f = list_all-append (λ b. not (b == 92)) xs ys ∙ rw (e, f) refl

-- ---- each part

abbrev pub Gives : (List ℕ → Option (List ℕ)) → List ℕ → List ℕ → Type 0
Gives move part new = move part ≡ Some new

each_step : (move : List ℕ → Option (List ℕ)) (part : List ℕ) (new : Option (List ℕ)) (others : Option (List (List ℕ))) (news : List (List ℕ))
    → move part ≡ new → option_and_then (λ n. option_map (λ os. n ∷ os) others) new ≡ Some news
    → (n : List ℕ) × (ns : List (List ℕ)) × (move part ≡ Some n) × (others ≡ Some ns) × (news ≡ n ∷ ns)
each_step move part None others news m e = absurd (cc)
each_step move part (Some n) None news m e = absurd (cc)
each_step move part (Some n) (Some ns) news m e = (n, ns, m, refl, cc)

pub each_gives : (move : List ℕ → Option (List ℕ)) (parts news : List (List ℕ)) → each_moved move parts ≡ Some news
    → AllZip (Gives move) parts news
each_gives move [] [] e = tt
each_gives move [] (n ∷ ns) e = absurd (cc)
each_gives move (p ∷ ps) news e = zip_along (p ∷ ps) news (s.0 ∷ s.1) s.4 (s.2, each_gives move ps s.1 s.3)
  where
    s : (n : List ℕ) × (ns : List (List ℕ)) × (move p ≡ Some n) × (each_moved move ps ≡ Some ns) × (news ≡ n ∷ ns)
    s = each_step move p (move p) (each_moved move ps) news refl e

    zip_along : (ps news others : List (List ℕ)) → news ≡ others → AllZip (Gives move) ps others → AllZip (Gives move) ps news
    zip_along ps news others e h = rw e h

pub gives_each : (move : List ℕ → Option (List ℕ)) (parts news : List (List ℕ)) → AllZip (Gives move) parts news
    → each_moved move parts ≡ Some news
gives_each move [] [] h = refl
gives_each move [] (n ∷ ns) h = absurd h
gives_each move (p ∷ ps) [] h = absurd h
gives_each move (p ∷ ps) (n ∷ ns) h = rw (h.0, gives_each move ps ns h.1) refl

pub zip_by : (R S : List ℕ → List ℕ → Type 0) → ((p q : List ℕ) → R p q → S p q) → (ps qs : List (List ℕ))
    → AllZip R ps qs → AllZip S ps qs
zip_by R S f [] [] h = tt
zip_by R S f [] (q ∷ qs) h = absurd h
zip_by R S f (p ∷ ps) [] h = absurd h
zip_by R S f (p ∷ ps) (q ∷ qs) h = (f p q h.0, zip_by R S f ps qs h.1)

pub zip_back : (R S : List ℕ → List ℕ → Type 0) → ((p q : List ℕ) → R p q → S q p) → (ps qs : List (List ℕ))
    → AllZip R ps qs → AllZip S qs ps
zip_back R S f [] [] h = tt
zip_back R S f [] (q ∷ qs) h = absurd h
zip_back R S f (p ∷ ps) [] h = absurd h
zip_back R S f (p ∷ ps) (q ∷ qs) h = (f p q h.0, zip_back R S f ps qs h.1)

-- parts of the same lengths are as long together
pub same_size : (ps qs : List (List ℕ)) → AllZip (λ (p q : List ℕ). length q ≡ length p) ps qs
    → length (join_with_byte 92 qs) ≡ length (join_with_byte 92 ps)
same_size [] [] h = refl
same_size [] (q ∷ qs) h = absurd h
same_size (p ∷ ps) [] h = absurd h
same_size (p ∷ []) (q ∷ []) h = h.0
same_size (p ∷ []) (q ∷ r ∷ qs) h = absurd h.1
same_size (p ∷ o ∷ ps) (q ∷ []) h = absurd h.1
same_size (p ∷ o ∷ ps) (q ∷ r ∷ qs) h =
    let others = same_size (o ∷ ps) (r ∷ qs) h.1 in
    omega (arith, h.0, length-append p (92 ∷ join_with_byte 92 (o ∷ ps)), length-append q (92 ∷ join_with_byte 92 (r ∷ qs)))

-- free parts stay free where each becomes a free one
pub stay_free : (ps qs : List (List ℕ)) → AllZip (λ (p q : List ℕ). is_free p ≡ true → is_free q ≡ true) ps qs
    → are_free ps ≡ true → are_free qs ≡ true
stay_free [] [] h e = refl
stay_free [] (q ∷ qs) h e = absurd h
stay_free (p ∷ ps) [] h e = absurd h
stay_free (p ∷ ps) (q ∷ qs) h e =
    let both = and_parts (is_free p) (are_free ps) e in rw (h.0 both.0, stay_free ps qs h.1 both.1) refl

-- parts that each become the same become the same
pub each_same : (move other : List ℕ → Option (List ℕ)) (ps qs : List (List ℕ)) → AllZip (λ (p q : List ℕ). move q ≡ other p) ps qs
    → each_moved move qs ≡ each_moved other ps
each_same move other [] [] h = refl
each_same move other [] (q ∷ qs) h = absurd h
each_same move other (p ∷ ps) [] h = absurd h
each_same move other (p ∷ ps) (q ∷ qs) h = rw (h.0, each_same move other ps qs h.1) refl
