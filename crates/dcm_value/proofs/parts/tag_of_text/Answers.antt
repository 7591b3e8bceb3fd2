use Rattle.std.proofs.Common.{◌≡◌, ◌<◌, ℕ, ◌+◌, List, [], ◌∷◌, length, take, drop, get_or, Option, Some, None, Bool, true, false, ◌&&◌, ◌==◌, refl, ap, sym, ◌∙◌, arith, eq-eqb, eqb-true}
use Rattle.std.specs.Prelude.{if◌then◌else◌, bytes_eq, codes}
use Rattle.std.proofs.lemmas.Bool.{false≢true}
use Rattle.std.proofs.lemmas.List.{length-drop, get_or-drop}
use Rattle.std.proofs.lemmas.Slice.Eq.{bytes_eq-Decides}
use Rattle.dcm_base.specs.Lines.ReadValue.{◌>>=◌, hex_number, tag_of_text}
use Rattle.dcm_base.specs.declared.tag.Tag.{Tag}
use Rattle.dcm_value.proofs.parts.tag_of_text.Goals.{then-text-ne11-via-then-text-ne11, then-text-ne11-via-else-text-ne11+then-text-ne40, then-text-ne11-via-else-text-ne11+else-text-ne40+then-text-ne44, then-text-ne11-via-else-text-ne11+else-text-ne40+else-text-ne44+then-text-ne41}
use Rattle.dcm_value.proofs.parts.tag_of_text.Goals as goal

-- a tag where four tests hold
abbrev if_all : Bool → Bool → Bool → Bool → Option Tag → Option Tag
if_all a b c d o = if a && b && c && d then o else None

if_not : (a b c d : Bool) (o : Option Tag) → (a ≡ true → b ≡ true → c ≡ true → d ≡ true → ⊥) → None ≡ if_all a b c d o
if_not false b c d o n = refl
if_not true false c d o n = refl
if_not true true false d o n = refl
if_not true true true false o n = refl
if_not true true true true o n = absurd (n refl refl refl refl)

if_so : (a b c d : Bool) (o : Option Tag) → a ≡ true → b ≡ true → c ≡ true → d ≡ true → if_all a b c d o ≡ o
if_so true true true true o _ _ _ _ = refl
if_so false b c d o e _ _ _ = absurd (false≢true e)
if_so true false c d o _ e _ _ = absurd (false≢true e)
if_so true true false d o _ _ e _ = absurd (false≢true e)
if_so true true true false o _ _ _ e = absurd (false≢true e)

-- the digits of both numbers
abbrev numbers : List ℕ → Option Tag
numbers v = hex_number 4 (take 4 (drop 1 v)) >>= λ group. hex_number 4 (take 4 (drop 6 v)) >>= λ element. Some (record { group = group; element = element })

head_of : (v : List ℕ) → get_or (take 1 v) 0 0 ≡ get_or v 0 0
head_of [] = refl
head_of (x ∷ v) = refl

one_long : (v : List ℕ) (c : ℕ) → 0 < length v → get_or v 0 0 ≡ c → take 1 v ≡ c ∷ []
one_long [] c l e = absurd (omega arith)
one_long (x ∷ v) c l e = ap (λ y. y ∷ []) e

whole_one : (v : List ℕ) (c : ℕ) → length v ≡ 1 → get_or v 0 0 ≡ c → v ≡ c ∷ []
whole_one [] c l e = absurd (omega arith)
whole_one (x ∷ []) c l e = ap (λ y. y ∷ []) e
whole_one (x ∷ y ∷ v) c l e = absurd (omega arith)

-- the byte at a place, by the test of the definition
stands : (k : ℕ) (v : List ℕ) (c : ℕ) → bytes_eq (take 1 (drop k v)) (c ∷ []) ≡ true → get_or v (k + 0) 0 ≡ c
stands k v c e = sym (get_or-drop k v 0 0) ∙ sym (head_of (drop k v)) ∙ ap (λ l. get_or l 0 0) ((bytes_eq-Decides (take 1 (drop k v)) (c ∷ [])).0 e)

stands_last : (k : ℕ) (v : List ℕ) (c : ℕ) → bytes_eq (drop k v) (c ∷ []) ≡ true → get_or v (k + 0) 0 ≡ c
stands_last k v c e = sym (get_or-drop k v 0 0) ∙ ap (λ l. get_or l 0 0) ((bytes_eq-Decides (drop k v) (c ∷ [])).0 e)

tested : (k : ℕ) (v : List ℕ) (c : ℕ) → k < length v → get_or v (k + 0) 0 ≡ c → bytes_eq (take 1 (drop k v)) (c ∷ []) ≡ true
tested k v c l e = (bytes_eq-Decides (take 1 (drop k v)) (c ∷ [])).1 (one_long (drop k v) c (omega (arith, length-drop k v)) (get_or-drop k v 0 0 ∙ e))

tested_last : (k : ℕ) (v : List ℕ) (c : ℕ) → length v ≡ k + 1 → get_or v (k + 0) 0 ≡ c → bytes_eq (drop k v) (c ∷ []) ≡ true
tested_last k v c l e = (bytes_eq-Decides (drop k v) (c ∷ [])).1 (whole_one (drop k v) c (omega (arith, length-drop k v)) (get_or-drop k v 0 0 ∙ e))

-- no tag, since a test fails
no_tag : (v : List ℕ) → (length v ≡ 11 → get_or v 0 0 ≡ 40 → get_or v 5 0 ≡ 44 → get_or v 10 0 ≡ 41 → ⊥) → None ≡ tag_of_text v
no_tag v n =
    if_not (length v == 11) (bytes_eq (take 1 v) (codes "(")) (bytes_eq (take 1 (drop 5 v)) (codes ",")) (bytes_eq (drop 10 v) (codes ")")) (numbers v)
    (λ a b c d. n (eqb-true (length v) 11 a) (stands 0 v 40 b) (stands 5 v 44 c) (stands_last 10 v 41 d))

-- the tag of its two numbers, since all tests hold
a_tag : (v : List ℕ) → length v ≡ 11 → get_or v 0 0 ≡ 40 → get_or v 5 0 ≡ 44 → get_or v 10 0 ≡ 41 → tag_of_text v ≡ numbers v
a_tag v a b c d =
    if_so (length v == 11) (bytes_eq (take 1 v) (codes "(")) (bytes_eq (take 1 (drop 5 v)) (codes ",")) (bytes_eq (drop 10 v) (codes ")")) (numbers v)
    (eq-eqb (length v) 11 a) (tested 0 v 40 (omega arith) b) (tested 5 v 44 (omega arith) c) (tested_last 10 v 41 a d)

pub returns-then-text-ne11 : goal.returns-then-text-ne11
returns-then-text-ne11 c =
    no_tag c.args.text.now
    (elim c.then-text-ne11.branch [
      | then-text-ne11-via-then-text-ne11 w ↦ λ a _ _ _. w.if-text-ne11.true a
      | then-text-ne11-via-else-text-ne11+then-text-ne40 w ↦ λ _ b _ _. w.if-text-ne40.true b
      | then-text-ne11-via-else-text-ne11+else-text-ne40+then-text-ne44 w ↦ λ _ _ c _. w.if-text-ne44.true c
      | then-text-ne11-via-else-text-ne11+else-text-ne40+else-text-ne44+then-text-ne41 w ↦ λ _ _ _ d. w.if-text-ne41.true d
    ])

pub returns-in_err-group : goal.returns-in_err-group
returns-in_err-group c =
    let v = c.args.text.now in
    c.from_residual.ensures
    ∙ ap (λ o. o >>= λ group. hex_number 4 (take 4 (drop 6 v)) >>= λ element. Some (record { group = group; element = element })) c.in_err-group.ensures.value
    ∙ sym (a_tag v c.if-text-ne11.false c.if-text-ne40.false c.if-text-ne44.false c.if-text-ne41.false)

pub returns : goal.returns
returns c =
    let v = c.args.text.now in
    ap (λ o. o >>= λ element. Some (record { group = c.in_ok-group.field-0; element = element })) c.in_ok-element.ensures.value
    ∙ ap (λ o. o >>= λ group. hex_number 4 (take 4 (drop 6 v)) >>= λ element. Some (record { group = group; element = element })) c.in_ok-group.ensures.value
    ∙ sym (a_tag v c.if-text-ne11.false c.if-text-ne40.false c.if-text-ne44.false c.if-text-ne41.false)
