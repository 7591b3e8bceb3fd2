-- Elements that are put beside one another.
use Rattle.std.proofs.Common.{◌≡◌, ◌∙◌, ap, sym, refl, Bool, true, false, ◌||◌, if◌then◌else◌}
use Rattle.dcm_lemmas.proofs.Truth.{or_true}
use Rattle.dcm_base.specs.declared.tag.Tag.{Tag}
use Rattle.dcm_base.specs.Tables.Tag.{below, same_tag}
use Rattle.dcm_base.specs.Tree.Tree.{Trees, no_tree, leaf, sequence, fragments, then_trees}
use Rattle.dcm_base.proofs.Dictionaries.TagOrder.{below_trans}
use Rattle.dcm_edits.specs.Edit.{has}
use Rattle.dcm_deid.specs.Saying.{put_in}
use Rattle.dcm_deid.proofs.Trees.Said.{set_with}

-- ---- what is there

has_if : (t : Tag) (c h : Bool) (x y : Trees) → has t x ≡ h → has t y ≡ h → has t (if c then x else y) ≡ h
has_if t true h x y e f = e
has_if t false h x y e f = f

-- an element of a tag, alone
pub record IsOf (t : Tag) (e : Trees) : Type 0 where
  pub is_there : (x : Trees) → has t (then_trees e x) ≡ true
  pub alone : has t e ≡ true

has_put : (t : Tag) (e x : Trees) → IsOf t e → has t (put_in t e x) ≡ true
has_put t e no_tree h = h.alone
has_put t e (leaf u vr v rest) h = has_if t (below t u) true _ _ (h.is_there (leaf u vr v rest)) (ap (λ (c : Bool). same_tag t u || c) (has_put t e rest h) ∙ or_true (same_tag t u))
has_put t e (sequence u vr declared items rest) h = has_if t (below t u) true _ _ (h.is_there (sequence u vr declared items rest)) (ap (λ (c : Bool). same_tag t u || c) (has_put t e rest h) ∙ or_true (same_tag t u))
has_put t e (fragments u vr parts rest) h = has_if t (below t u) true _ _ (h.is_there (fragments u vr parts rest)) (ap (λ (c : Bool). same_tag t u || c) (has_put t e rest h) ∙ or_true (same_tag t u))

there_or_put : (t : Tag) (e x : Trees) (c : Bool) → has t x ≡ c → IsOf t e → has t (if c then x else put_in t e x) ≡ true
there_or_put t e x true is h = is
there_or_put t e x false is h = has_put t e x h

put_once : (t : Tag) (e y : Trees) (c : Bool) → c ≡ true → (if c then y else put_in t e y) ≡ y
put_once t e y true is = refl
put_once t e y false is = absurd (cc)

-- it is put once
pub with_once : (new : Tag × Trees) (x : Trees) → IsOf new.0 new.1 → set_with new (set_with new x) ≡ set_with new x
with_once new x h = put_once new.0 new.1 (set_with new x) (has new.0 (set_with new x)) (there_or_put new.0 new.1 x (has new.0 x) refl h)

-- ---- two of them

-- the first one has the lower tag
pub record InOrder (a b : Tag × Trees) : Type 0 where
  pub order : below a.0 b.0 ≡ true
  pub first_misses : (x : Trees) → has b.0 (then_trees a.1 x) ≡ has b.0 x
  pub first_alone : has b.0 a.1 ≡ false
  pub second_misses : (x : Trees) → has a.0 (then_trees b.1 x) ≡ has a.0 x
  pub second_alone : has a.0 b.1 ≡ false
  pub before : (x : Trees) → put_in a.0 a.1 (then_trees b.1 x) ≡ then_trees a.1 (then_trees b.1 x)
  pub before_alone : put_in a.0 a.1 b.1 ≡ then_trees a.1 b.1
  pub behind : (x : Trees) → put_in b.0 b.1 (then_trees a.1 x) ≡ then_trees a.1 (put_in b.0 b.1 x)
  pub behind_alone : put_in b.0 b.1 a.1 ≡ then_trees a.1 b.1

has_other : (t u : Tag) (e x : Trees) → ((r : Trees) → has t (then_trees e r) ≡ has t r) → has t e ≡ false → has t (put_in u e x) ≡ has t x
has_other t u e no_tree h k = k
has_other t u e (leaf w vr v rest) h k = has_if t (below u w) _ _ _ (h (leaf w vr v rest)) (ap (λ (c : Bool). same_tag t w || c) (has_other t u e rest h k))
has_other t u e (sequence w vr declared items rest) h k = has_if t (below u w) _ _ _ (h (sequence w vr declared items rest)) (ap (λ (c : Bool). same_tag t w || c) (has_other t u e rest h k))
has_other t u e (fragments w vr parts rest) h k = has_if t (below u w) _ _ _ (h (fragments w vr parts rest)) (ap (λ (c : Bool). same_tag t w || c) (has_other t u e rest h k))

module _ (a b : Tag × Trees) (o : InOrder a b) where
  -- before an element of tag u, whose other elements are rest
  at_element : (u : Tag) (tree : Trees → Trees) (rest : Trees) (c d : Bool) → below a.0 u ≡ c → below b.0 u ≡ d
      → ((x : Trees) → put_in a.0 a.1 (tree x) ≡ (if below a.0 u then then_trees a.1 (tree x) else tree (put_in a.0 a.1 x)))
      → ((x : Trees) → put_in b.0 b.1 (tree x) ≡ (if below b.0 u then then_trees b.1 (tree x) else tree (put_in b.0 b.1 x)))
      → put_in a.0 a.1 (put_in b.0 b.1 rest) ≡ put_in b.0 b.1 (put_in a.0 a.1 rest) → put_in a.0 a.1 (put_in b.0 b.1 (tree rest)) ≡ put_in b.0 b.1 (put_in a.0 a.1 (tree rest))
  at_element u tree rest true true e f p q h =
      let second : put_in b.0 b.1 (tree rest) ≡ then_trees b.1 (tree rest) = q rest ∙ ap (λ (g : Bool). if g then then_trees b.1 (tree rest) else tree (put_in b.0 b.1 rest)) f in
      let first : put_in a.0 a.1 (tree rest) ≡ then_trees a.1 (tree rest) = p rest ∙ ap (λ (g : Bool). if g then then_trees a.1 (tree rest) else tree (put_in a.0 a.1 rest)) e in
      ap (put_in a.0 a.1) second ∙ o.before (tree rest) ∙ sym (ap (put_in b.0 b.1) first ∙ o.behind (tree rest) ∙ ap (then_trees a.1) second)
  at_element u tree rest true false e f p q h =
      let second : put_in b.0 b.1 (tree rest) ≡ tree (put_in b.0 b.1 rest) = q rest ∙ ap (λ (g : Bool). if g then then_trees b.1 (tree rest) else tree (put_in b.0 b.1 rest)) f in
      let first : (x : Trees) → put_in a.0 a.1 (tree x) ≡ then_trees a.1 (tree x) = λ x. p x ∙ ap (λ (g : Bool). if g then then_trees a.1 (tree x) else tree (put_in a.0 a.1 x)) e in
      ap (put_in a.0 a.1) second ∙ first (put_in b.0 b.1 rest) ∙ sym (ap (put_in b.0 b.1) (first rest) ∙ o.behind (tree rest) ∙ ap (then_trees a.1) second)
  at_element u tree rest false true e f p q h = absurd (let never : below a.0 u ≡ true = below_trans a.0 b.0 u o.order f in let no : false ≡ true = sym e ∙ never in cc)
  at_element u tree rest false false e f p q h =
      let second : (x : Trees) → put_in b.0 b.1 (tree x) ≡ tree (put_in b.0 b.1 x) = λ x. q x ∙ ap (λ (g : Bool). if g then then_trees b.1 (tree x) else tree (put_in b.0 b.1 x)) f in
      let first : (x : Trees) → put_in a.0 a.1 (tree x) ≡ tree (put_in a.0 a.1 x) = λ x. p x ∙ ap (λ (g : Bool). if g then then_trees a.1 (tree x) else tree (put_in a.0 a.1 x)) e in
      ap (put_in a.0 a.1) (second rest) ∙ first (put_in b.0 b.1 rest) ∙ ap tree h ∙ sym (ap (put_in b.0 b.1) (first rest) ∙ second (put_in a.0 a.1 rest))

  both_put : (x : Trees) → put_in a.0 a.1 (put_in b.0 b.1 x) ≡ put_in b.0 b.1 (put_in a.0 a.1 x)
  both_put no_tree = o.before_alone ∙ sym o.behind_alone
  both_put (leaf u vr v rest) = at_element u (leaf u vr v) rest (below a.0 u) (below b.0 u) refl refl (λ x. refl) (λ x. refl) (both_put rest)
  both_put (sequence u vr declared items rest) = at_element u (sequence u vr declared items) rest (below a.0 u) (below b.0 u) refl refl (λ x. refl) (λ x. refl) (both_put rest)
  both_put (fragments u vr parts rest) = at_element u (fragments u vr parts) rest (below a.0 u) (below b.0 u) refl refl (λ x. refl) (λ x. refl) (both_put rest)

  by_tests : (x : Trees) (c d e f : Bool) → e ≡ c → f ≡ d → (c ≡ false → d ≡ false → put_in a.0 a.1 (put_in b.0 b.1 x) ≡ put_in b.0 b.1 (put_in a.0 a.1 x))
      → (if e then (if d then x else put_in b.0 b.1 x) else put_in a.0 a.1 (if d then x else put_in b.0 b.1 x)) ≡ (if f then (if c then x else put_in a.0 a.1 x) else put_in b.0 b.1 (if c then x else put_in a.0 a.1 x))
  by_tests x true true true true p q h = refl
  by_tests x true false true false p q h = refl
  by_tests x false true false true p q h = refl
  by_tests x false false false false p q h = h refl refl
  by_tests x true d false f p q h = absurd (cc)
  by_tests x false d true f p q h = absurd (cc)
  by_tests x c true e false p q h = absurd (cc)
  by_tests x c false e true p q h = absurd (cc)

  has_with : (t : Tag) (new : Tag × Trees) (x : Trees) (c : Bool) → ((r : Trees) → has t (then_trees new.1 r) ≡ has t r) → has t new.1 ≡ false → has t (if c then x else put_in new.0 new.1 x) ≡ has t x
  has_with t new x true h k = refl
  has_with t new x false h k = has_other t new.0 new.1 x h k

  -- their order is all one
  pub two_with : (x : Trees) → set_with a (set_with b x) ≡ set_with b (set_with a x)
  two_with x =
      by_tests x (has a.0 x) (has b.0 x) (has a.0 (set_with b x)) (has b.0 (set_with a x)) (has_with a.0 b x (has b.0 x) o.second_misses o.second_alone) (has_with b.0 a x (has a.0 x) o.first_misses o.first_alone) (λ c d. both_put x)
