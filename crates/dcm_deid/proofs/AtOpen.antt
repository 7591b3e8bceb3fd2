-- A new element before an open one.
use Rattle.std.proofs.Common.{◌≡◌, ℕ, List, [], ◌∷◌, ◌++◌, Option, Some, Bool, true, false, ◌||◌, ◌&&◌, not, refl, sym, ap, subst, ◌∙◌}
use Rattle.std.proofs.lemmas.Bool.{cases_Bool}
use mathlib.Core.Logic.{⊎_elim}
use Rattle.dcm_base.specs.declared.tag.Tag.{Tag}
use Rattle.dcm_base.specs.declared.vr.Vr.{Vr}
use Rattle.dcm_base.specs.declared.length.Length.{Length}
use Rattle.dcm_base.specs.Tables.Tag.{below}
use Rattle.dcm_base.specs.Steps.Atoms.{MayEnd}
use Rattle.dcm_base.specs.Tree.Tree.{Trees, no_tree, Items}
use Rattle.dcm_base.specs.Tree.Front.{OpenTree, nothing_open, open_leaf, open_sequence, open_fragments, OpenItem}
use Rattle.dcm_base.proofs.Dictionaries.TagOrder.{below_other_way}
use Rattle.dcm_edits.specs.Edit.{has, has_open}
use Rattle.dcm_deid.specs.declared.fate.Options.{Options}
use Rattle.dcm_deid.specs.declared.fate.Depth.TheVariants.{Outermost}
use Rattle.dcm_deid.specs.declared.fate.ReadAs.TheVariants.{AsBytes, AsItems}
use Rattle.dcm_deid.specs.Fate.{fate_as}
use Rattle.dcm_deid.specs.DeidentifySink.{is_due, is_after}
use Rattle.dcm_deid.proofs.Walked.{due_trees, then_if}
use Rattle.dcm_deid.proofs.PutOnes.{Part, AllLess, put_if, put_here, due_append}
use Rattle.dcm_deid.proofs.Weave.{end_of}
use Rattle.dcm_deid.specs.MadeNew.{made_new}
use Rattle.dcm_deid.proofs.Woven.{End, leaf_end, sequence_end, fragments_end}
use Rattle.dcm_deid.proofs.Placing.{opens_of, kept_other}
use Rattle.dcm_deid.proofs.PutInPlace.{New}
use Rattle.dcm_deid.proofs.AtEnd.{at_the_end, so_far}

none_open : (a b : Bool) → a ≡ false → b ≡ true → (a || not (b || false)) ≡ false
none_open a b p q = rw (p, q) refl

is_kept_there : (a b c : Bool) (t : Tag) (e w : Trees) → c ≡ false → put_if (a || (b || not (c || false))) t e w ≡ w
is_kept_there true b c t e w p = refl
is_kept_there false true c t e w p = refl
is_kept_there false false c t e w p = rw p refl

not_put : (a b : Bool) (e x : Trees) → b ≡ false → then_if (a && b) e x ≡ x
not_put true b e x p = rw p refl
not_put false b e x p = refl

module _ (o : Options) (k : List ℕ) (news : List (Tag × Trees)) (n : Tag × Trees) (less : AllLess news n.0) (new : New o n) where
  -- what an open element becomes, with what is put before it
  abbrev Before : Option Tag → Tag → Trees → OpenTree → Type 0
  Before last tag t left =
      (open_other : below n.0 tag ≡ true → has_open n.0 left ≡ false) → is_after o last n.0 ≡ true
      → due_trees (is_due o last (Some tag)) (news ++ n ∷ []) t
      ≡ put_if (has n.0 (due_trees (is_due o last (Some tag)) news t) || (has_open n.0 left || not (below n.0 tag || false))) n.0 n.1
      (due_trees (is_due o last (Some tag)) news t)

  whole_before : (last : Option Tag) (tag : Tag) (part : Trees → Trees) (left : OpenTree) → Part tag part → Before last tag (part no_tree) left
  whole_before last tag part left is other after =
      ⊎_elim
      (λ (low : below n.0 tag ≡ true).
      put_here o news n less last tag part is no_tree no_tree (has_open n.0 left || not (below n.0 tag || false)) after low refl refl (sym new.alone)
      (none_open _ _ (other low) low))
      (λ (high : below n.0 tag ≡ false).
      due_append (is_due o last (Some tag)) news n (part no_tree)
      ∙ ap (due_trees (is_due o last (Some tag)) news) (not_put (is_after o last n.0) (below n.0 tag) n.1 (part no_tree) high)
      ∙ sym (is_kept_there (has n.0 (due_trees (is_due o last (Some tag)) news (part no_tree))) (has_open n.0 left) (below n.0 tag) n.0 n.1 _ high))
      (cases_Bool (below n.0 tag))

  open_before : (last : Option Tag) (tag : Tag) (t : Trees) (left : OpenTree) → End tag t → Before last tag t left
  open_before last tag t left e = subst (λ (x : Trees). Before last tag x left) (sym e.whole) (whole_before last tag e.part left e.is)

  -- so it is at each end
  abbrev pub AtEndOf : OpenTree → Bool → Option Tag → Type 0
  AtEndOf p c last =
      is_after o last n.0 ≡ true
      → end_of o k p c (news ++ n ∷ []) last ≡ put_if (has n.0 (end_of o k p c news last) || opens_of o k p c n.0 last) n.0 n.1 (end_of o k p c news last)

  pub at_open_leaf : (tag : Tag) (vr : Vr) (size : ℕ) (value : List ℕ) (last : Option Tag) → AtEndOf (open_leaf tag vr size value) false last
  at_open_leaf tag vr size value last =
      open_before last tag _ _ (leaf_end (fate_as o Outermost AsBytes tag) (made_new o k) tag vr)
      (λ low. kept_other (fate_as o Outermost AsBytes tag) n.0 tag (open_leaf tag vr size value) (below_other_way n.0 tag low))

  pub at_open_sequence : (tag : Tag) (vr : Vr) (declared : Length) (items : Items) (last' : OpenItem) (last : Option Tag) → AtEndOf (open_sequence tag vr declared items last') false last
  at_open_sequence tag vr declared items last' last =
      open_before last tag _ _ (sequence_end (fate_as o Outermost AsItems tag) tag vr)
      (λ low. kept_other (fate_as o Outermost AsItems tag) n.0 tag (open_sequence tag vr _ _ _) (below_other_way n.0 tag low))

  pub at_open_fragments : (tag : Tag) (vr : Vr) (values : List (List ℕ)) (last' : Option (ℕ × List ℕ)) (last : Option Tag) → AtEndOf (open_fragments tag vr values last') false last
  at_open_fragments tag vr values last' last =
      open_before last tag _ _ (fragments_end tag)
      (λ low. kept_other (fate_as o Outermost AsBytes tag) n.0 tag (open_fragments tag vr values last') (below_other_way n.0 tag low))

  -- only a data set in which nothing is open may have ended
  pub at_an_end : (p : OpenTree) (c : Bool) (last : Option Tag) → MayEnd p c → AtEndOf p c last
  at_an_end nothing_open true last may = at_the_end o k news n less new last
  at_an_end nothing_open false last may = so_far o k news n less new last
  at_an_end (open_leaf tag vr size value) false last may = at_open_leaf tag vr size value last
  at_an_end (open_sequence tag vr declared items last') false last may = at_open_sequence tag vr declared items last' last
  at_an_end (open_fragments tag vr values last') false last may = at_open_fragments tag vr values last' last
  at_an_end (open_leaf tag vr size value) true last may = absurd cc
  at_an_end (open_sequence tag vr declared items last') true last may = absurd cc
  at_an_end (open_fragments tag vr values last') true last may = absurd cc
