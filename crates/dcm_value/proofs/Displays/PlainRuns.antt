-- Runs over ASCII that is shown as it is, where a text goes on as it began.
use Rattle.std.proofs.Common.{◌≡◌, ◌≤◌, ℕ, zero, suc, ◌+◌, ◌==◌, Bool, true, false, cond, List, [], ◌∷◌, ◌++◌, length, take, drop, map, Option, Some, None, refl, sym, ap, subst, ◌∙◌, arith}
use Rattle.std.specs.Prelude.{not, nat_lt, count_by, flat_map}
use Rattle.std.specs.List.{list_all, position}
use Rattle.std.proofs.lemmas.Bool.{and_parts}
use Rattle.std.proofs.lemmas.Bool.Decides.{nat_tests}
use Rattle.std.proofs.lemmas.List.Sums.{count_by-le-length}
use Rattle.std.proofs.lemmas.List.{take-append-drop}
use Rattle.dcm_text.specs.declared.set.TextKind.{TextKind}
use Rattle.dcm_text.specs.declared.set.TextKind.TheVariants.{OneValue}
use Rattle.dcm_text.specs.declared.sets.Sets.{Sets}
use Rattle.dcm_text.specs.Sets.{sets_of}
use Rattle.dcm_text.specs.First.{is_escape}
use Rattle.dcm_text.specs.Runs.{State, Run, begun, with_bytes, run, joined}
use Rattle.dcm_text.specs.Shown.{dumped, dumped_piece}
use Rattle.dcm_text.specs.Laws.{as_itself}
use Rattle.dcm_text.proofs.Runs.{two_pieces}
use Rattle.dcm_text.proofs.Whole.{plain_first, plain_decoded}
use Rattle.dcm_value.specs.Plain.{is_plain_byte, is_ascii_byte, ascii_size}
use Rattle.dcm_text.proofs.AsciiFronts.{ascii_front, size_within}
use Rattle.dcm_value.specs.Decoded.{backslashes}
use Rattle.dcm_value.specs.DecodedProgress.{shown_pieces}
use Rattle.dcm_value.proofs.Displays.PlainTexts.{plain_escaped}
use Rattle.dcm_value.proofs.Displays.DecodedRuns.{step_of, shown_joined, backslashes_joined}
use Rattle.dcm_value.proofs.Displays.DecodedAsBefore.{alike, all_as, text_plain, text_dumped, itself_counted}

-- ---- the bytes in front

-- behind some of them
pub size_behind : (v : List ℕ) (n : ℕ) → n ≤ length v → list_all is_ascii_byte (take n v) ≡ true → n + ascii_size (drop n v) ≡ ascii_size v
size_behind [] zero l e = omega arith
size_behind [] (suc n) l e = absurd (omega (arith, l))
size_behind (b ∷ bs) zero l e = omega arith
size_behind (b ∷ bs) (suc n) l e =
    let both = and_parts (is_ascii_byte b) (list_all is_ascii_byte (take n bs)) e in
    let rest : n + ascii_size (drop n bs) ≡ ascii_size bs = size_behind bs n (omega (arith, l)) both.1 in
    let more : suc n + ascii_size (drop n bs) ≡ 1 + ascii_size bs = omega (arith, rest) in
    more ∙ sym (ap (λ (t : Bool). cond (not (not t)) (1 + ascii_size bs) 0) both.0)

-- ---- runs

one_plain : (sets : Sets) (kind : TextKind) (b : ℕ) → is_ascii_byte b ≡ true → run false (begun sets kind) (b ∷ []) ≡ (as_itself b ∷ [], begun sets kind)
unfolding run
one_plain sets kind b e =
    let both = and_parts (nat_lt b 0x80) (not (is_escape sets b)) (alike sets b e).plain in
    ap (step_of 0 false (with_bytes (begun sets kind) (b ∷ []))) (plain_first sets kind b [] both.0 (not_true (is_escape sets b) both.1))
  where
    not_true : (t : Bool) → not t ≡ true → t ≡ false
    not_true true h = sym h
    not_true false h = refl

plain_run : (at_end : Bool) (sets : Sets) (kind : TextKind) (v w : List ℕ) → list_all is_ascii_byte v ≡ true
    → run at_end (begun sets kind) (v ++ w) ≡ joined (map as_itself v, begun sets kind) (run at_end (begun sets kind) w)
plain_run at_end sets kind [] w e = refl
plain_run at_end sets kind (b ∷ bs) w e =
    let both = and_parts (is_ascii_byte b) (list_all is_ascii_byte bs) e in
    let s : State = begun sets kind in
    two_pieces at_end s (b ∷ []) (bs ++ w)
    ∙ ap (λ (r : Run). joined r (run at_end r.1 (bs ++ w))) (one_plain sets kind b both.0)
    ∙ ap (joined (as_itself b ∷ [], s)) (plain_run at_end sets kind bs w both.1)

-- what is shown of them, and the backslashes among them
pub plain_shown : (v : List ℕ) → list_all is_ascii_byte v ≡ true → flat_map dumped_piece (map as_itself v) ≡ v
unfolding dumped
plain_shown v e =
    let sets : Sets = sets_of [] in
    ap (flat_map dumped_piece) (sym (plain_decoded sets OneValue v (text_plain sets v e)))
    ∙ text_dumped sets OneValue v e
    ∙ plain_escaped v (all_as is_ascii_byte is_plain_byte (λ b f. (alike sets b f).before) v e)

-- ---- a call

pub record PlainStep (at_end : Bool) (s : State) (input front after : List ℕ) : Type 0 where
  pub shown : shown_pieces (run at_end s input) ≡ front ++ shown_pieces (run at_end s after)
  pub state : (run at_end s input).1 ≡ (run at_end s after).1
  pub count : backslashes (run at_end s input).0 ≡ count_by (λ b. b == 92) front + backslashes (run at_end s after).0

pub plain_step : (at_end : Bool) (s : State) (sets : Sets) (kind : TextKind) (input front after : List ℕ) → s ≡ begun sets kind
    → front ≡ take (ascii_size input) input → after ≡ drop (ascii_size input) input → PlainStep at_end s input front after
plain_step at_end s sets kind input front after is f a =
    let plain : list_all is_ascii_byte front ≡ true = ap (list_all is_ascii_byte) f ∙ ascii_front input in
    let whole : front ++ after ≡ input = ap (λ (x : List ℕ). x ++ after) f ∙ ap (λ (x : List ℕ). take (ascii_size input) input ++ x) a ∙ take-append-drop (ascii_size input) input in
    let r : Run = (map as_itself front, s) in
    let q : Run = run at_end s after in
    let both : run at_end s input ≡ joined r q =
    ap (run at_end s) (sym whole)
    ∙ subst (λ (t : State). run at_end t (front ++ after) ≡ joined (map as_itself front, t) (run at_end t after)) (sym is) (plain_run at_end sets kind front after plain)
    in record {
      shown = ap shown_pieces both ∙ shown_joined r q ∙ ap (λ (x : List ℕ). x ++ shown_pieces q) (plain_shown front plain);
      state = ap (λ (x : Run). x.1) both;
      count = ap (λ (x : Run). backslashes x.0) both ∙ backslashes_joined r q ∙ ap (λ n. n + backslashes q.0) (itself_counted front);
    }

-- the place of the first other byte
pub size_found : (v : List ℕ) (at : ℕ) → position (λ b. not (is_ascii_byte b)) v ≡ Some at → at ≡ ascii_size v
size_found v at e = go (nat_lt (ascii_size v) (length v)) e
  where
    go : (t : Bool) → cond t (Some (ascii_size v)) None ≡ Some at → at ≡ ascii_size v
    go true h = let same : ascii_size v ≡ at = cc in sym same
    go false h = let e : at ≡ ascii_size v = cc in e

pub size_none : (v : List ℕ) → position (λ b. not (is_ascii_byte b)) v ≡ None → length v ≡ ascii_size v
size_none v e = let h = not_less (ascii_size v) (length v) (go (nat_lt (ascii_size v) (length v)) refl e) in omega (arith, h, size_within v)
  where
    go : (t : Bool) → nat_lt (ascii_size v) (length v) ≡ t → cond t (Some (ascii_size v)) None ≡ None → nat_lt (ascii_size v) (length v) ≡ false
    go true f h = absurd (some_none (ascii_size v) h)
      where
        some_none : (n : ℕ) → (let o : Option ℕ = Some n in o ≡ None) → ⊥
        some_none n h = cc
    go false f h = f

    not_less : (m n : ℕ) → nat_lt m n ≡ false → n ≤ m
    not_less m n e = grind (arith, nat_tests)

-- no more backslashes than bytes
pub count_within : (v : List ℕ) → count_by (λ b. b == 92) v ≤ length v
count_within v = count_by-le-length (λ b. b == 92) v
