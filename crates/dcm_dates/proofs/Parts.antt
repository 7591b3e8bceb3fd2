-- A text whose dates are moved, by its parts.
use Rattle.std.proofs.Common.{◌≡◌, ◌<◌, ◌≤◌, ℕ, ℤ, ◌+◌, Bool, true, false, List, [], ◌∷◌, ◌++◌, length, take, drop, Option, Some, None, refl, arith, ap, ◌∙◌, sym, ◌⊎◌, inl, inr, length-append, append_assoc}
use Rattle.std.specs.Prelude.{option_map, option_and_then, position, cond, ◌==◌, if◌then◌else◌}
use Rattle.std.specs.List.{slice_split, onto_first, join_with_byte}
use Rattle.dcm_dates.specs.declared.moving.DateKind.{DateKind}
use Rattle.std.proofs.lemmas.Bool.{eqb-true, lt-leb, le-leb}
use Rattle.std.proofs.lemmas.List.{take-append-drop}
use Rattle.dcm_dates.specs.Numbered.{date_of}
use Rattle.dcm_dates.specs.DateText.{is_nothing}
use Rattle.dcm_dates.specs.Moved.{moved_date, moved_part, may_follow, each_moved, parts_of, all_moved, Adds, moved}
use Rattle.dcm_dates.proofs.Dates.{date_moved, digits_length, shown_length}
use Rattle.dcm_dates.proofs.Places.{parts_first, parts_last}

-- there is a first part
pub some_part : (p : ℕ → Bool) (xs : List ℕ) → (q : List ℕ) × (qs : List (List ℕ)) × (slice_split p xs ≡ q ∷ qs)
some_part p [] = ([], [], refl)
some_part p (x ∷ xs) = by_test (p x) (slice_split p xs)
  where
    by_test : (t : Bool) (parts : List (List ℕ)) → (q : List ℕ) × (qs : List (List ℕ)) × (cond t ([] ∷ parts) (onto_first x parts) ≡ q ∷ qs)
    by_test true parts = ([], parts, refl)
    by_test false [] = (x ∷ [], [], refl)
    by_test false (q ∷ qs) = (x ∷ q, qs, refl)

-- a part, a backslash and the others
abbrev pub before_others : List ℕ → Option (List ℕ) → Option (List ℕ)
before_others new others = option_map (λ r. new ++ 92 ∷ r) others

joined_others : (new : List ℕ) (first : Option (List ℕ)) (others : Option (List (List ℕ)))
    → option_map (join_with_byte 92) (option_map (λ os. new ∷ os) (option_and_then (λ q. option_map (λ qs. q ∷ qs) others) first))
    ≡ before_others new (option_map (join_with_byte 92) (option_and_then (λ q. option_map (λ qs. q ∷ qs) others) first))
joined_others new None others = refl
joined_others new (Some q) None = refl
joined_others new (Some q) (Some qs) = refl

first_joined : (new : Option (List ℕ)) (first : Option (List ℕ)) (others : Option (List (List ℕ)))
    → option_map (join_with_byte 92) (option_and_then (λ n. option_map (λ os. n ∷ os) (option_and_then (λ q. option_map (λ qs. q ∷ qs) others) first)) new)
    ≡ option_and_then (λ n. before_others n (option_map (join_with_byte 92) (option_and_then (λ q. option_map (λ qs. q ∷ qs) others) first))) new
first_joined None first others = refl
first_joined (Some n) first others = joined_others n first others

more_joined : (move : List ℕ → Option (List ℕ)) (part : List ℕ) (q : List ℕ) (qs parts : List (List ℕ)) → parts ≡ q ∷ qs
    → option_map (join_with_byte 92) (each_moved move (part ∷ parts))
    ≡ option_and_then (λ n. before_others n (option_map (join_with_byte 92) (each_moved move parts))) (move part)
more_joined move part q qs parts e = rw e (first_joined (move part) (move q) (each_moved move qs))

pub all_first : (kind : DateKind) (days : ℤ) (v : List ℕ) (at : ℕ) → position (λ b. b == 92) v ≡ Some at
    → all_moved kind days v
    ≡ option_and_then (λ n. before_others n (all_moved kind days (drop (at + 1) v))) (moved_part kind days (take at v))
unfolding all_moved
all_first kind days v at e =
    let rest = drop (at + 1) v in
    let some = some_part (λ b. b == 92) rest in
    ap (λ (ps : List (List ℕ)). option_map (join_with_byte 92) (each_moved (moved_part kind days) ps)) (parts_first (λ b. b == 92) v at e)
    ∙ more_joined (moved_part kind days) (take at v) some.0 some.1 (parts_of rest) some.2

one_joined : (new : Option (List ℕ)) → option_map (join_with_byte 92) (option_and_then (λ n. option_map (λ os. n ∷ os) (Some [])) new) ≡ new
one_joined None = refl
one_joined (Some n) = refl

pub all_last : (kind : DateKind) (days : ℤ) (v : List ℕ) → position (λ b. b == 92) v ≡ None
    → all_moved kind days v ≡ moved_part kind days v
unfolding all_moved
all_last kind days v e =
    ap (λ (ps : List (List ℕ)). option_map (join_with_byte 92) (each_moved (moved_part kind days) ps)) (parts_last (λ b. b == 92) v e)
    ∙ one_joined (moved_part kind days v)

-- ---- one part

pub record IsMovedPart (kind : DateKind) (days : ℤ) (part new : List ℕ) : Type 0 where
  pub date : List ℕ
  pub follows : may_follow kind (drop 8 part) ≡ true
  pub moved : moved_date days (take 8 part) ≡ Some date
  pub whole : new ≡ date ++ drop 8 part

with_rest_some : (date : Option (List ℕ)) (rest new : List ℕ) → option_map (λ d. d ++ rest) date ≡ Some new
    → (d : List ℕ) × (date ≡ Some d) × (new ≡ d ++ rest)
with_rest_some None rest new e = absurd (cc)
with_rest_some (Some d) rest new e = (d, refl, cc)

nothing_is : (part : List ℕ) → is_nothing part ≡ true → part ≡ []
nothing_is [] e = refl
nothing_is (b ∷ bs) e = absurd (omega (arith, eqb-true (length (b ∷ bs)) 0 e))

-- a part that can be moved is nothing, or a date and what follows it
pub part_moved : (kind : DateKind) (days : ℤ) (part new : List ℕ) → moved_part kind days part ≡ Some new
    → ((part ≡ []) × (new ≡ [])) ⊎ IsMovedPart kind days part new
part_moved kind days part new e = by_tests (is_nothing part) (may_follow kind (drop 8 part)) refl refl e
  where
    by_tests : (nothing follows : Bool) → is_nothing part ≡ nothing → may_follow kind (drop 8 part) ≡ follows
        → (if nothing then Some [] else if follows then option_map (λ d. d ++ drop 8 part) (moved_date days (take 8 part)) else None) ≡ Some new
        → ((part ≡ []) × (new ≡ [])) ⊎ IsMovedPart kind days part new
    by_tests true follows n f h = inl (nothing_is part n, cc)
    by_tests false true n f h =
        let some = with_rest_some (moved_date days (take 8 part)) (drop 8 part) new h in
        inr (record { date = some.0; follows = f; moved = some.1; whole = some.2 })
    by_tests false false n f h = absurd (cc)

pub part_is_moved : (kind : DateKind) (days : ℤ) (part date : List ℕ) → is_nothing part ≡ false
    → may_follow kind (drop 8 part) ≡ true → moved_date days (take 8 part) ≡ Some date
    → moved_part kind days part ≡ Some (date ++ drop 8 part)
part_is_moved kind days part date some follows moved = rw (some, follows, moved) refl

-- it keeps its length
pub part_length : (kind : DateKind) (days : ℤ) (part new : List ℕ) → moved_part kind days part ≡ Some new
    → length new ≡ length part
part_length kind days part new e = elim (part_moved kind days part new e) [
  | inl none ↦ ap length none.1 ∙ sym (ap length none.0)
  | inr m ↦
      let moved = date_moved days (take 8 part) m.date m.moved in
      let eight = shown_length (take 8 part) moved.shows in
      let date : length m.date ≡ 8 = ap length moved.digits ∙ digits_length (date_of moved.number) in
      let all : length part ≡ length (take 8 part) + length (drop 8 part) = ap length (sym (take-append-drop 8 part)) ∙ length-append (take 8 part) (drop 8 part) in
      omega (arith, ap length m.whole, length-append m.date (drop 8 part))
]

-- ---- all parts, one after another

abbrev pub behind : List ℕ → Option (List ℕ) → Option (List ℕ)
behind front rest = option_map (λ r. front ++ r) rest

pub took : (whole part rest : Option (List ℕ)) (out bytes : List ℕ)
    → whole ≡ behind out (option_and_then (λ n. before_others n rest) part) → part ≡ Some bytes
    → whole ≡ behind ((out ++ bytes) ++ 92 ∷ []) rest
took whole None rest out bytes w p = absurd (cc)
took whole (Some b) None out bytes w p = w
took whole (Some b) (Some r) out bytes w p =
    let same : b ≡ bytes = cc in
    w ∙ ap (λ (l : List ℕ). Some l) (rw same (simp append_assoc))

pub failed : (whole part rest : Option (List ℕ)) (out : List ℕ)
    → whole ≡ behind out (option_and_then (λ n. before_others n rest) part) → part ≡ None → whole ≡ None
failed whole None rest out w p = w
failed whole (Some b) rest out w p = absurd (cc)

pub ends : {T : Type 0} (whole part : Option (List ℕ)) (out new : List ℕ) (result : Option T) → whole ≡ behind out part
    → Adds part out new result → Adds whole [] new result
ends whole part out new None w a = w ∙ ap (behind out) a
ends whole part out new (Some t) w a = (out ++ a.0, w ∙ ap (behind out) a.1, a.2)

pub fails : {T : Type 0} (whole : Option (List ℕ)) (new : List ℕ) (result : Option T) → result ≡ None → whole ≡ None → Adds whole [] new result
fails whole new None r e = e
fails whole new (Some t) r e = absurd (cc)

pub none_before : (o : Option (List ℕ)) → o ≡ behind [] o
none_before None = refl
none_before (Some l) = refl

-- ---- a whole text

pub moved_long : (kind : DateKind) (days : ℤ) (text : List ℕ) → 256 < length text → moved kind days text ≡ []
unfolding moved
moved_long kind days text long = rw (lt-leb (length text) 256 long) refl

pub moved_some : (kind : DateKind) (days : ℤ) (text new : List ℕ) → length text ≤ 256 → all_moved kind days text ≡ Some new
    → moved kind days text ≡ new
unfolding moved
moved_some kind days text new short e = rw (le-leb (length text) 256 short, e) refl

pub moved_none : (kind : DateKind) (days : ℤ) (text : List ℕ) → length text ≤ 256 → all_moved kind days text ≡ None
    → moved kind days text ≡ []
unfolding moved
moved_none kind days text short e = rw (le-leb (length text) 256 short, e) refl
