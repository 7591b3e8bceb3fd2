-- A new element that is put into a whole data set is put between its elements.
use Rattle.std.proofs.Common.{◌≡◌, ℕ, List, [], ◌∷◌, ◌++◌, Option, Some, Bool, true, false, ◌||◌, not, refl}
use Rattle.std.proofs.lemmas.Bool.{cases_Bool}
use mathlib.Core.Logic.{⊎_elim}
use Rattle.dcm_lemmas.proofs.Truth.{or_neither}
use Rattle.dcm_base.specs.declared.tag.Tag.{Tag}
use Rattle.dcm_base.specs.Tables.Tag.{same_tag, below}
use Rattle.dcm_base.specs.Bytes.Spelling.{last_tag}
use Rattle.dcm_base.specs.Lines.Ascending.{Ascend}
use Rattle.dcm_base.specs.Tree.Tree.{Trees, no_tree, leaf, sequence, fragments, then_trees}
use Rattle.dcm_base.specs.Tree.Front.{OpenTree, nothing_open, open_leaf, open_sequence, open_fragments}
use Rattle.dcm_base.proofs.Dictionaries.TagOrder.{below_trans, below_other_way}
use Rattle.dcm_edits.specs.Edit.{has, has_open, is_passed}
use Rattle.dcm_deid.specs.MadeNew.{made_new}
use Rattle.dcm_deid.specs.declared.fate.Options.{Options}
use Rattle.dcm_deid.specs.declared.fate.Fate.{Fate}
use Rattle.dcm_deid.specs.declared.fate.Fate.TheVariants.{Remove, Empty, Replace, Anew, Keep}
use Rattle.dcm_deid.specs.declared.fate.Depth.TheVariants.{Outermost}
use Rattle.dcm_deid.specs.declared.fate.ReadAs.TheVariants.{AsBytes, AsItems}
use Rattle.dcm_deid.specs.Fate.{fate_as}
use Rattle.dcm_deid.specs.Deidentify.{value_by}
use Rattle.dcm_deid.specs.Saying.{open_by_fate, while_kept}
use Rattle.dcm_deid.specs.DeidentifySink.{is_due, is_after, is_there}
use Rattle.dcm_deid.proofs.Walked.{due_trees}
use Rattle.dcm_deid.proofs.PutOnes.{Part, AllLess, put_if, put_here, put_later, put_never}
use Rattle.dcm_deid.proofs.Woven.{OpenAbove, First}

abbrev pub reach : Option Tag → OpenTree → Option Tag
reach last nothing_open = last
reach last (open_leaf tag vr size value) = Some tag
reach last (open_sequence tag vr declared items last') = Some tag
reach last (open_fragments tag vr values last') = Some tag

-- it is open, or was not passed
abbrev pub opens_of : Options → List ℕ → OpenTree → Bool → Tag → Option Tag → Bool
opens_of o k p c t last = has_open t (open_by_fate (fate_as o) (value_by (made_new o k)) Outermost p) || not (is_passed t (reach last p) c)

is_not : (a b : Bool) → a ≡ true → not (a || b) ≡ false
is_not a b p = rw p refl

pub kept_other : (fate : Fate) (t tag : Tag) (p : OpenTree) → has_open t p ≡ false → has_open t (while_kept fate p) ≡ false
kept_other Remove t tag p h = refl
kept_other Empty t tag p h = refl
kept_other Replace t tag p h = refl
kept_other (Anew made) t tag p h = refl
kept_other Keep t tag p h = h

pub opens_none : (o : Options) (k : List ℕ) (p : OpenTree) (c : Bool) (t : Tag) (rest : Trees) (u : Tag) → below t u ≡ true → Ascend (Some u) rest → OpenAbove (last_tag (Some u) rest) p → opens_of o k p c t (last_tag (Some u) rest) ≡ false
unfolding last_tag
opens_none o k nothing_open c t no_tree u low a up = is_not (below t u) c low
opens_none o k (open_leaf tag vr size value) c t no_tree u low a up =
    let here : below t tag ≡ true = below_trans t u tag low up in
    or_neither _ _ (kept_other (fate_as o Outermost AsBytes tag) t tag (open_leaf tag vr size value) (below_other_way t tag here)) (is_not (below t tag) c here)
opens_none o k (open_sequence tag vr declared items last') c t no_tree u low a up =
    let here : below t tag ≡ true = below_trans t u tag low up in
    or_neither _ _ (kept_other (fate_as o Outermost AsItems tag) t tag (open_sequence tag vr _ _ _) (below_other_way t tag here)) (is_not (below t tag) c here)
opens_none o k (open_fragments tag vr values last') c t no_tree u low a up =
    let here : below t tag ≡ true = below_trans t u tag low up in
    or_neither _ _ (kept_other (fate_as o Outermost AsBytes tag) t tag (open_fragments tag vr values last') (below_other_way t tag here)) (is_not (below t tag) c here)
opens_none o k p c t (leaf tag vr value rest) u low a up = opens_none o k p c t rest tag (below_trans t u tag low a.0) a.1 up
opens_none o k p c t (sequence tag vr declared items rest) u low a up = opens_none o k p c t rest tag (below_trans t u tag low a.0) a.2 up
opens_none o k p c t (fragments tag vr values rest) u low a up = opens_none o k p c t rest tag (below_trans t u tag low a.0) a.1 up

-- ---- one element

after_is : (o : Options) (u t : Tag) → below t u ≡ false → is_there o u t ≡ false → is_after o (Some u) t ≡ true
after_is o u t p q = rw (p, q) refl

after_not : (o : Options) (u t : Tag) → below t u ≡ false → is_there o u t ≡ true → is_after o (Some u) t ≡ false
after_not o u t p q = rw (p, q) refl

module _ (o : Options) (k : List ℕ) (news : List (Tag × Trees)) (n : Tag × Trees) (less : AllLess news n.0) (alone : then_trees n.1 no_tree ≡ n.1) where
  pub element : (last : Option Tag) (tag : Tag) (part : Trees → Trees) (x more : Trees) (opens : Bool) → Part tag part
      → (is_there o tag n.0 ≡ false → same_tag n.0 tag ≡ true → has n.0 (part x) ≡ has n.0 x)
      → (is_there o tag n.0 ≡ true → has n.0 (part x) ≡ true)
      → (below n.0 tag ≡ true → (more ≡ x) × First o k news n less alone x × (opens ≡ false))
      → (is_after o (Some tag) n.0 ≡ false → more ≡ x)
      → (is_after o (Some tag) n.0 ≡ true → more ≡ put_if (has n.0 x || opens) n.0 n.1 x)
      → is_after o last n.0 ≡ true
      → due_trees (is_due o last (Some tag)) (news ++ n ∷ []) (part more)
      ≡ put_if (has n.0 (due_trees (is_due o last (Some tag)) news (part x)) || opens) n.0 n.1 (due_trees (is_due o last (Some tag)) news (part x))
  element last tag part x more opens is gone there at_low at_past at_later after =
      ⊎_elim
      (λ (low : below n.0 tag ≡ true). let f = at_low low in put_here o news n less last tag part is x more opens after low f.0 f.1.0 f.1.1 f.2)
      (λ (high : below n.0 tag ≡ false).
      ⊎_elim
      (λ (so : is_there o tag n.0 ≡ true). put_never o news n less last tag part is x more opens high (there so) (at_past (after_not o tag n.0 high so)))
      (λ (not_so : is_there o tag n.0 ≡ false).
      put_later o news n less last tag part is x more opens high
      (⊎_elim (λ (same : same_tag n.0 tag ≡ true). gone not_so same) (λ (apart : same_tag n.0 tag ≡ false). is.other n.0 x apart) (cases_Bool (same_tag n.0 tag)))
      (at_later (after_is o tag n.0 high not_so)))
      (cases_Bool (is_there o tag n.0)))
      (cases_Bool (below n.0 tag))
