-- The parts of a path, one after another.
use Rattle.std.proofs.Common.{◌≡◌, ℕ, suc, ◌+◌, ◌<◌, ◌≤◌, List, [], ◌∷◌, ◌++◌, length, map, Option, None, Some, Bool, true, false, cond, ◌==◌, refl, sym, ◌∙◌, ap, arith, length-append}
use Rattle.std.specs.Prelude.{nat_le}
use Rattle.std.specs.List.{slice_split, onto_first}
use Rattle.std.specs.Str.{byte}
use Rattle.std.proofs.lemmas.Bool.Decides.{nat_tests}
use Rattle.dcm_edits.specs.EditWords.{Cut, cut, onto, cut_at, PathPart, part_of, parts_of, prepended}
use Rattle.dcm_edits.specs.Parts.{few, after_parts, rest_parts, rest_length, PART_LIMIT}

-- ---- a text between bytes

abbrev pieces : ℕ → Option (List ℕ) → List (List ℕ)
pieces b None = []
pieces b (Some rest) = slice_split (λ c. c == b) rest

abbrev cut_pieces : ℕ → Cut → List (List ℕ)
cut_pieces b k = k.before ∷ pieces b k.after

split_by : (t : Bool) (b c : ℕ) (cs : List ℕ) → slice_split (λ x. x == b) cs ≡ cut_pieces b (cut_at b cs)
    → cond t ([] ∷ slice_split (λ x. x == b) cs) (onto_first c (slice_split (λ x. x == b) cs)) ≡ cut_pieces b (cond t (cut [] (Some cs)) (onto c (cut_at b cs)))
split_by true b c cs e = refl
split_by false b c cs e = ap (onto_first c) e

split_cut : (b : ℕ) (text : List ℕ) → slice_split (λ x. x == b) text ≡ cut_pieces b (cut_at b text)
split_cut b [] = refl
split_cut b (c ∷ cs) = split_by (c == b) b c cs (split_cut b cs)

rest_of : (after : Option (List ℕ)) → parts_of (pieces (byte ".") after) ≡ rest_parts after
rest_of None = refl
rest_of (Some rest) = refl

first_part : (m : Option PathPart) (before : List ℕ) (after : Option (List ℕ)) → part_of before ≡ m
    → parts_of (before ∷ pieces (byte ".") after) ≡ elim m [ None ↦ None | Some x ↦ prepended x (rest_parts after) ]
first_part None before after e = rw (e, parts_of) refl
first_part (Some x) before after e = rw (e, parts_of) (ap (prepended x) (rest_of after))

pieces_of : (k : Cut) (before : List ℕ) (after : Option (List ℕ)) → k ≡ cut before after → cut_pieces (byte ".") k ≡ before ∷ pieces (byte ".") after
pieces_of k before after e = ap (cut_pieces (byte ".")) e

pub no_part : (text before : List ℕ) (after : Option (List ℕ)) → cut_at (byte ".") text ≡ cut before after → part_of before ≡ None → rest_parts (Some text) ≡ None
no_part text before after e p = ap parts_of (split_cut (byte ".") text ∙ pieces_of _ before after e) ∙ first_part None before after p

pub one_part : (text before : List ℕ) (after : Option (List ℕ)) (m : PathPart) → cut_at (byte ".") text ≡ cut before after → part_of before ≡ Some m
    → rest_parts (Some text) ≡ prepended m (rest_parts after)
one_part text before after m e p = ap parts_of (split_cut (byte ".") text ∙ pieces_of _ before after e) ∙ first_part (Some m) before after p

-- what is left grows shorter
shorter_by : (t : Bool) (c : ℕ) (cs : List ℕ) (k : Cut) → rest_length k.after ≤ length cs → rest_length (cond t (cut [] (Some cs)) (onto c k)).after ≤ suc (length cs)
shorter_by true c cs k h = omega arith
shorter_by false c cs k h = omega arith

shorter : (b : ℕ) (text : List ℕ) → rest_length (cut_at b text).after ≤ length text
shorter b [] = omega arith
shorter b (c ∷ cs) = shorter_by (c == b) c cs (cut_at b cs) (shorter b cs)

pub rest_shorter : (b : ℕ) (text before : List ℕ) (after : Option (List ℕ)) → cut_at b text ≡ cut before after → rest_length after < suc (length text)
rest_shorter b text before after e = let s = shorter b text in let same : rest_length (cut_at b text).after ≡ rest_length after = ap (λ (k : Cut). rest_length k.after) e in omega arith

-- ---- parts before others

pub after_more : (ms : List PathPart) (m : PathPart) (o : Option (List PathPart)) → after_parts (ms ++ m ∷ []) o ≡ after_parts ms (prepended m o)
after_more [] m o = refl
after_more (x ∷ ms) m o = ap (prepended x) (after_more ms m o)

after_none : (ms : List PathPart) → after_parts ms None ≡ None
after_none [] = refl
after_none (m ∷ ms) = ap (prepended m) (after_none ms)

after_some : (ms l : List PathPart) → after_parts ms (Some l) ≡ Some (ms ++ l)
after_some [] l = refl
after_some (m ∷ ms) l = ap (prepended m) (after_some ms l)

many_by : (t : Bool) (ms : List PathPart) → t ≡ false → cond t (Some ms) None ≡ None
many_by true ms p = cc
many_by false ms p = refl

few_by : (t : Bool) (ms : List PathPart) → t ≡ true → cond t (Some ms) None ≡ Some ms
few_by true ms p = refl
few_by false ms p = cc

too_many : (n : ℕ) → PART_LIMIT < n → nat_le n PART_LIMIT ≡ false
too_many n h = grind (arith, nat_tests)

not_many : (n : ℕ) → n ≤ PART_LIMIT → nat_le n PART_LIMIT ≡ true
not_many n h = grind (arith, nat_tests)

long : (ms : List PathPart) (o : Option (List PathPart)) → PART_LIMIT < length ms → few (after_parts ms o) ≡ None
long ms None h = ap few (after_none ms)
long ms (Some l) h = ap few (after_some ms l) ∙ many_by (nat_le (length (ms ++ l)) PART_LIMIT) (ms ++ l) (too_many (length (ms ++ l)) (omega (arith, length-append ms l)))

pub refused : (ms : List PathPart) (o : Option (List PathPart)) → o ≡ None → few (after_parts ms o) ≡ None
refused ms o e = ap (λ x. few (after_parts ms x)) e ∙ ap few (after_none ms)

pub too_long : (ms : List PathPart) (m : PathPart) (o : Option (List PathPart)) → length ms ≡ PART_LIMIT → few (after_parts ms (prepended m o)) ≡ None
too_long ms m o h = ap few (sym (after_more ms m o)) ∙ long (ms ++ m ∷ []) o (omega (arith, length-append ms (m ∷ [])))

append_nil : (ms : List PathPart) → ms ++ [] ≡ ms
append_nil [] = refl
append_nil (m ∷ ms) = ap (λ l. m ∷ l) (append_nil ms)

pub ended : (ms : List PathPart) → length ms ≤ PART_LIMIT → few (after_parts ms (Some [])) ≡ Some ms
ended ms h = ap few (after_some ms [] ∙ ap Some (append_nil ms)) ∙ few_by (nat_le (length ms) PART_LIMIT) ms (not_many (length ms) h)

pub room : (n m : ℕ) → false ≡ (n == 65) → n ≤ 65 → m ≡ n + 1 → m ≤ 65
room n m p h e = grind (arith, nat_tests)

pub map_length : {A B : Type 0} (f : A → B) (xs : List A) → length (map f xs) ≡ length xs
map_length f [] = refl
map_length f (x ∷ xs) = ap suc (map_length f xs)
