-- The normal form without the elements that say what was done is that of the data set without them.
use Rattle.std.proofs.Common.{◌≡◌, ◌∙◌, ap, sym, refl, ℕ, List, length, map, Bool, true, false, if◌then◌else◌}
use Rattle.std.specs.Prelude.{◌==◌}
use Rattle.dcm_base.specs.declared.length.Length.TheVariants.{Undefined}
use Rattle.dcm_base.specs.declared.syntax.Syntax.{Syntax}
use Rattle.dcm_base.specs.declared.tag.Tag.{Tag}
use Rattle.dcm_base.specs.declared.vr.Vr.{Vr}
use Rattle.dcm_base.specs.Bytes.Spelling.{after, says_sign}
use Rattle.dcm_base.specs.Conversion.Normal.{normal, normal_items, normal_sequence_vr, normal_value, normal_vr}
use Rattle.dcm_base.specs.Tree.Tree.{Trees, no_tree, leaf, sequence, fragments}
use Rattle.dcm_base.specs.Tree.Value.{evened}
use Rattle.dcm_base.proofs.Dictionaries.TagOrder.{tag_is}
use Rattle.dcm_deid.specs.Saying.{says, tag_at, unsaid}
use Rattle.dcm_deid_laws.proofs.Named.{same_after}

-- none of them says the sign of pixels
by_sign : (t : Tag) (b : Bool) → says_sign t ≡ b → says t ≡ true → b ≡ false
by_sign t true e h = absurd (let never : says (tag_at 0x0028 0x0103) ≡ true = sym (ap says (tag_is t (tag_at 0x0028 0x0103) e)) ∙ h in cc)
by_sign t false e h = refl

pub said_no_sign : (t : Tag) → says t ≡ true → says_sign t ≡ false
said_no_sign t h = by_sign t (says_sign t) refl h

-- an element is left out, or dropped, or there in both
tree_unsaid : (dropped said : Bool) (tree : Trees → Trees) (x y : Trees) → ((r : Trees) → unsaid (tree r) ≡ (if said then unsaid r else tree (unsaid r))) → unsaid x ≡ y → unsaid (if dropped then x else tree x) ≡ (if said then y else (if dropped then y else tree y))
tree_unsaid true true tree x y is h = h
tree_unsaid true false tree x y is h = h
tree_unsaid false true tree x y is h = is x ∙ h
tree_unsaid false false tree x y is h = is x ∙ ap tree h

module _ (s : Syntax) (t : Tag) (vr : Vr) (v : List ℕ) where
  abbrev w : Vr
  w = normal_vr s t vr (length v)

  abbrev x : List ℕ
  x = normal_value s t vr v

  abbrev next : Syntax
  next = after s t w x

  leaf_unsaid : (rest : Trees) (said : Bool) → says t ≡ said → ((k : Syntax) → unsaid (normal k rest) ≡ normal k (unsaid rest))
      → unsaid (if t.element == 0 then normal next rest else leaf t w x (normal next rest)) ≡ normal s (if said then unsaid rest else leaf t vr v (unsaid rest))
  unfolding normal
  leaf_unsaid rest true e h =
      tree_unsaid (t.element == 0) true (leaf t w x) (normal next rest) (normal next (unsaid rest)) (λ r. ap (λ (b : Bool). if b then unsaid r else leaf t w x (unsaid r)) e) (h next)
      ∙ ap (λ (k : Syntax). normal k (unsaid rest)) (same_after s t w x (said_no_sign t e))
  leaf_unsaid rest false e h = tree_unsaid (t.element == 0) false (leaf t w x) (normal next rest) (normal next (unsaid rest)) (λ r. ap (λ (b : Bool). if b then unsaid r else leaf t w x (unsaid r)) e) (h next)

other_unsaid : (s : Syntax) (t : Tag) (was tree : Trees → Trees) (rest : Trees) (said : Bool) → says t ≡ said → ((r : Trees) → normal s (was r) ≡ (if t.element == 0 then normal s r else tree (normal s r)))
    → ((r : Trees) → unsaid (tree r) ≡ (if says t then unsaid r else tree (unsaid r))) → unsaid (normal s rest) ≡ normal s (unsaid rest) → unsaid (normal s (was rest)) ≡ normal s (if said then unsaid rest else was (unsaid rest))
other_unsaid s t was tree rest true e one two h =
    ap unsaid (one rest) ∙ tree_unsaid (t.element == 0) true tree (normal s rest) (normal s (unsaid rest)) (λ r. two r ∙ ap (λ (b : Bool). if b then unsaid r else tree (unsaid r)) e) h
other_unsaid s t was tree rest false e one two h =
    ap unsaid (one rest) ∙ tree_unsaid (t.element == 0) false tree (normal s rest) (normal s (unsaid rest)) (λ r. two r ∙ ap (λ (b : Bool). if b then unsaid r else tree (unsaid r)) e) h ∙ sym (one (unsaid rest))

pub unsaid_normal : (s : Syntax) (x : Trees) → unsaid (normal s x) ≡ normal s (unsaid x)
unfolding normal
unsaid_normal s no_tree = refl
unsaid_normal s (leaf t vr v rest) = leaf_unsaid s t vr v rest (says t) refl (λ k. unsaid_normal k rest)
unsaid_normal s (sequence t vr declared items rest) =
    other_unsaid s t (sequence t vr declared items) (sequence t (normal_sequence_vr s t) Undefined (normal_items s items)) rest (says t) refl (λ r. refl) (λ r. refl) (unsaid_normal s rest)
unsaid_normal s (fragments t vr parts rest) = other_unsaid s t (fragments t vr parts) (fragments t vr (map (evened 0) parts)) rest (says t) refl (λ r. refl) (λ r. refl) (unsaid_normal s rest)
