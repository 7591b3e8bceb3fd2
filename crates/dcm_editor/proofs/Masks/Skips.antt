-- The edits that a mask lacks ask nothing: to skip them changes no answer.
use Rattle.std.proofs.Common.{◌≡◌, ℕ, zero, suc, ◌+◌, ◌%◌, ◌/◌, ◌^◌, ◌<◌, ◌≤◌, List, [], ◌∷◌, length, map, drop, Bool, true, false, ◌||◌, refl, sym, ◌∙◌, ap, subst, inl, inr, arith}
use Rattle.std.specs.Prelude.{◌==◌, if◌then◌else◌}
use Rattle.std.specs.Int.{bit_at, w64, trailing_zeros}
use Rattle.std.proofs.lemmas.Nat.Bits.{bit_at-trailing_zeros, bit_at-zero}
use Rattle.std.proofs.lemmas.Nat.{pow-add}
use Rattle.std.proofs.lemmas.List.{drop-map}
use Rattle.std.proofs.Math.Nat.{div-div-eq-div-mul}
use Rattle.dcm_base.specs.declared.tag.Tag.{Tag}
use Rattle.dcm_edits.specs.Edit.{Edit, elsewhere, fate, Fate, stays, element_of}
use Rattle.dcm_edits.specs.Together.{first_fate, or_else}
use Rattle.dcm_editor.specs.Masks.{is_set, bits, at_depth, asked, Skips}
use Rattle.dcm_editor.specs.Asking.{answer_of, any_answer, asked_one, Seen, seen, seen_in, lesser, least_new}
use Rattle.dcm_editor.specs.declared.asked.Question.{Question}
use Rattle.dcm_editor.specs.declared.asked.Question.TheVariants.{AtHead, Meets, AtItem, AtTop, AtEnd, GoesAlong, Erases, IsEverywhere}
use Rattle.dcm_editor.specs.declared.asked.Gap.{Gap}
use Rattle.dcm_editor.proofs.Masks.Bits.{SoFar}

-- ---- an edit that the mask lacks

no_answer : (q : Question) → answer_of q elsewhere ≡ false
no_answer (AtHead tag last) = refl
no_answer (Meets tag last) = refl
no_answer (AtItem tag n) = refl
no_answer AtTop = refl
no_answer (AtEnd last) = refl
no_answer (GoesAlong tag n) = refl
no_answer (Erases tag n) = refl
no_answer IsEverywhere = refl

lacking : (depth mask k : ℕ) (e : Edit) → is_set mask k ≡ false → asked_one depth mask k e ≡ elsewhere
lacking depth mask k e unset = ap (λ (b : Bool). if b then at_depth depth e else elsewhere) unset

answers_no : (q : Question) (depth mask k : ℕ) (e : Edit) → is_set mask k ≡ false → answer_of q (asked_one depth mask k e) ≡ false
answers_no q depth mask k e unset = ap (answer_of q) (lacking depth mask k e unset) ∙ no_answer q

-- ---- whether any answers yes

or_no : (a b c : Bool) → a ≡ false → c ≡ b → c ≡ (a || b)
or_no a b c p q = rw p q

pub any_skips : (q : Question) (depth mask k : ℕ) (es : List Edit) (j : ℕ) (left : List Edit) → Skips mask k es j left → any_answer q (asked depth mask j left) ≡ any_answer q (asked depth mask k es)
any_skips q depth mask k [] j left (same, none) = cc
any_skips q depth mask k (e ∷ es) j left (inl (same, all)) = cc
any_skips q depth mask k (e ∷ es) j left (inr (unset, later)) = or_no _ _ _ (answers_no q depth mask k e unset) (any_skips q depth mask (suc k) es j left later)

pub any_next : (q : Question) (depth mask k : ℕ) (e : Edit) (es : List Edit) → answer_of q (asked_one depth mask k e) ≡ false → any_answer q (asked depth mask (k + 1) es) ≡ any_answer q (asked depth mask k (e ∷ es))
any_next q depth mask k e es no_here = or_no _ _ _ no_here (ap (λ (n : ℕ). any_answer q (asked depth mask n es)) (omega arith))

-- as the edits of a slice are taken one by one
module _ {X : Type 0} (f : X → Edit) (q : Question) (depth mask k : ℕ) where
  pub any_on : (e : X) (after edits : List X) (j : ℕ) (left : List Edit) → edits ≡ e ∷ after → answer_of q (asked_one depth mask k (f e)) ≡ false → Skips mask (k + 1) (map f after) j left → any_answer q (asked depth mask j left) ≡ any_answer q (asked depth mask k (map f edits))
  any_on e after edits j left is unmet skipped =
      any_skips q depth mask (k + 1) (map f after) j left skipped ∙ any_next q depth mask k (f e) (map f after) unmet ∙ ap (λ (xs : List X). any_answer q (asked depth mask k (map f xs))) (sym is)

  pub any_here : (e : X) (after edits : List X) → edits ≡ e ∷ after → answer_of q (asked_one depth mask k (f e)) ≡ true → any_answer q (asked depth mask k (map f edits)) ≡ true
  any_here e after edits is met =
      ap (λ (xs : List X). any_answer q (asked depth mask k (map f xs))) is ∙ ap (λ (b : Bool). b || any_answer q (asked depth mask (suc k) (map f after))) met

  pub any_none : (edits : List X) → length edits ≡ 0 → any_answer q (asked depth mask k (map f edits)) ≡ false
  any_none [] l = refl
  any_none (e ∷ edits) l = absurd (omega arith)

-- ---- the first fate

or_stays : (a b c : Fate) → a ≡ stays → c ≡ b → c ≡ or_else a b
or_stays a b c p q = rw p q

pub fate_skips : (t : Tag) (depth mask k : ℕ) (es : List Edit) (j : ℕ) (left : List Edit) → Skips mask k es j left → first_fate (asked depth mask j left) t ≡ first_fate (asked depth mask k es) t
fate_skips t depth mask k [] j left (same, none) = cc
fate_skips t depth mask k (e ∷ es) j left (inl (same, all)) = cc
fate_skips t depth mask k (e ∷ es) j left (inr (unset, later)) =
    or_stays _ _ _ (ap (λ (x : Edit). fate x t) (lacking depth mask k e unset)) (fate_skips t depth mask (suc k) es j left later)

pub fate_next : (t : Tag) (depth mask k : ℕ) (e : Edit) (es : List Edit) → fate (asked_one depth mask k e) t ≡ stays → first_fate (asked depth mask (k + 1) es) t ≡ first_fate (asked depth mask k (e ∷ es)) t
fate_next t depth mask k e es stays_here = or_stays _ _ _ stays_here (ap (λ (n : ℕ). first_fate (asked depth mask n es) t) (omega arith))

-- ---- the least new element

no_lesser : (gap : Gap) (least : Seen) (e : Edit) → e ≡ elsewhere → lesser least (seen_in gap (seen (element_of e))) ≡ least
no_lesser gap least e is = ap (λ (x : Edit). lesser least (seen_in gap (seen (element_of x)))) is

pub least_skips : (gap : Gap) (least : Seen) (depth mask k : ℕ) (es : List Edit) (j : ℕ) (left : List Edit) → Skips mask k es j left → least_new gap least (asked depth mask j left) ≡ least_new gap least (asked depth mask k es)
least_skips gap least depth mask k [] j left (same, none) = cc
least_skips gap least depth mask k (e ∷ es) j left (inl (same, all)) = cc
least_skips gap least depth mask k (e ∷ es) j left (inr (unset, later)) =
    least_skips gap least depth mask (suc k) es j left later ∙ ap (λ (x : Seen). least_new gap x (asked depth mask (suc k) es)) (sym (no_lesser gap least _ (lacking depth mask k e unset)))

pub least_next : (gap : Gap) (least new : Seen) (depth mask k : ℕ) (e : Edit) (es : List Edit) → new ≡ lesser least (seen_in gap (seen (element_of (asked_one depth mask k e)))) → least_new gap new (asked depth mask (k + 1) es) ≡ least_new gap least (asked depth mask k (e ∷ es))
least_next gap least new depth mask k e es is = ap (λ (x : Seen). least_new gap x (asked depth mask (k + 1) es)) is ∙ ap (λ (n : ℕ). least_new gap (lesser least (seen_in gap (seen (element_of (asked_one depth mask k e))))) (asked depth mask n es)) (omega arith)

-- ---- the bits of answers

module _ (q : Question) (depth mask : ℕ) where
  heads_alike : (a b : Bool) (xs ys : List Bool) → a ≡ b → xs ≡ ys → a ∷ xs ≡ b ∷ ys
  heads_alike a b xs ys p r = cc

  pub bits_skip : (final k : ℕ) (es : List Edit) (j : ℕ) (left : List Edit) → Skips mask k es j left → ((i : ℕ) → k ≤ i → i < j → is_set final i ≡ false)
      → bits final j left ≡ map (answer_of q) (asked depth mask j left) → bits final k es ≡ map (answer_of q) (asked depth mask k es)
  bits_skip final k [] j left (same, none) low right = cc
  bits_skip final k (e ∷ es) j left (inl (same, all)) low right = cc
  bits_skip final k (e ∷ es) j left (inr (unset, later)) low right =
      heads_alike _ _ _ _ (low k (omega arith) (above (suc k) es j left later (omega arith)) ∙ sym (answers_no q depth mask k e unset)) (bits_skip final (suc k) es j left later (λ i from to. low i (omega (arith, from)) to) right)
    where
      above : (n : ℕ) (xs : List Edit) (m : ℕ) (rest : List Edit) → Skips mask n xs m rest → k < n → k < m
      above n [] m rest (same, none) l = omega (arith, same, l)
      above n (x ∷ xs) m rest (inl (same, all)) l = omega (arith, same, l)
      above n (x ∷ xs) m rest (inr (u, further)) l = above (suc n) xs m rest further (omega (arith, l))

-- ---- answers so far

pub none_set : (i : ℕ) → is_set 0 i ≡ false
none_set i = ap (λ (b : ℕ). b == 1) (bit_at-zero i)

up : (mask k : ℕ) (es : List Edit) (j : ℕ) (left : List Edit) → Skips mask k es j left → k ≤ j
up mask k [] j left (same, none) = omega (arith, same)
up mask k (e ∷ es) j left (inl (same, all)) = omega (arith, same)
up mask k (e ∷ es) j left (inr (unset, later)) = let more : suc k ≤ j = up mask (suc k) es j left later in omega (arith, more)

-- no bit is set from a place on, and so none from a later one on
pub high_skips : (mask now k : ℕ) (es : List Edit) (j : ℕ) (left : List Edit) → Skips mask k es j left → ((i : ℕ) → k ≤ i → is_set now i ≡ false) → (i : ℕ) → j ≤ i → is_set now i ≡ false
high_skips mask now k es j left h high i l = let from : k ≤ j = up mask k es j left h in high i (omega (arith, from, l))

pub so_far_skips : (q : Question) (depth mask : ℕ) (all : List Edit) (now k : ℕ) (es : List Edit) (j : ℕ) (left : List Edit) → Skips mask k es j left → ((i : ℕ) → k ≤ i → is_set now i ≡ false)
    → SoFar (answer_of q) depth mask all now k es → SoFar (answer_of q) depth mask all now j left
so_far_skips q depth mask all now k es j left h high so_far = λ final agrees right.
    let from : k ≤ j = up mask k es j left h in
    so_far final (λ i l. agrees i (omega (arith, from, l))) (bits_skip q depth mask final k es j left h (λ i above below. agrees i below ∙ high i above) right)

-- ---- how many the mask lacks

pub skips : (mask k n : ℕ) (es : List Edit) → n ≤ length es → ((i : ℕ) → i < n → is_set mask (k + i) ≡ false) → Skips mask k es (k + n) (drop n es)
skips mask k zero [] le unset = (omega arith, refl)
skips mask k (suc n) [] le unset = absurd (omega (arith, le))
skips mask k zero (e ∷ es) le unset = inl (omega arith, refl)
skips mask k (suc n) (e ∷ es) le unset =
    inr (here, subst (λ (m : ℕ). Skips mask (suc k) es m (drop n es)) (omega arith) (skips mask (suc k) n es (omega (arith, le)) inner))
  where
    here : is_set mask k ≡ false
    here = subst (λ (m : ℕ). is_set mask m ≡ false) (omega arith) (unset 0 (omega arith))

    inner : (i : ℕ) → i < n → is_set mask (suc k + i) ≡ false
    inner i l = subst (λ (m : ℕ). is_set mask m ≡ false) (omega arith) (unset (suc i) (omega (arith, l)))

shifted : (mask p i : ℕ) → bit_at mask (p + i) ≡ bit_at (mask / 2 ^ p) i
shifted mask p i = ap (λ (x : ℕ). mask / x % 2) (pow-add 2 p i) ∙ ap (λ (x : ℕ). x % 2) (sym (div-div-eq-div-mul mask (2 ^ p) (2 ^ i)))

low : (m i : ℕ) → m < 18446744073709551616 → i < trailing_zeros w64 m → bit_at m i ≡ 0
low zero i l h = bit_at-zero i
low (suc m) i l h = (bit_at-trailing_zeros w64 (suc m) (omega arith) l).2 i h

-- the bits from a place on up to the first one that is set
pub lacking_skips : {X : Type 0} (f : X → Edit) (mask k n : ℕ) (xs left : List X) → mask / 2 ^ k < 18446744073709551616 → n ≤ trailing_zeros w64 (mask / 2 ^ k) → n ≤ length (map f xs) → left ≡ drop n xs → Skips mask k (map f xs) (k + n) (map f left)
lacking_skips f mask k n xs left l t within is =
    subst (λ (es : List Edit). Skips mask k (map f xs) (k + n) es) (drop-map f n xs ∙ ap (map f) (sym is))
    (skips mask k n (map f xs) within (λ i less. ap (λ (b : ℕ). b == 1) (shifted mask k i ∙ low (mask / 2 ^ k) i l (omega (arith, less, t)))))

pub size_of_map : {X : Type 0} (f : X → Edit) (xs : List X) → length (map f xs) ≡ length xs
size_of_map f [] = refl
size_of_map f (x ∷ xs) = ap suc (size_of_map f xs)
