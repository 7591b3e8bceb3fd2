-- A new element, put into a whole data set, comes to its place between the others.
use Rattle.std.proofs.Common.{◌≡◌, ℕ, List, [], Option, Some, None, Bool, true, false, refl, sym, subst, ◌∙◌}
use Rattle.dcm_base.specs.declared.tag.Tag.{Tag}
use Rattle.dcm_base.specs.declared.vr.Vr.{Vr}
use Rattle.dcm_base.specs.declared.length.Length.TheVariants.{Undefined}
use Rattle.dcm_base.specs.Tables.Tag.{below, is_above}
use Rattle.dcm_base.specs.Bytes.Spelling.{last_tag}
use Rattle.dcm_base.specs.Lines.Ascending.{Ascend}
use Rattle.dcm_base.specs.Tree.Tree.{Trees, no_tree, leaf, sequence, fragments, no_item, then_trees}
use Rattle.dcm_base.specs.Tree.Front.{OpenTree, nothing_open, open_leaf, open_sequence, open_fragments}
use Rattle.dcm_base.proofs.Dictionaries.TagOrder.{below_trans, below_other_way}
use Rattle.dcm_edits.specs.Edit.{has}
use Rattle.dcm_deid.specs.MadeNew.{made_new}
use Rattle.dcm_deid.specs.declared.fate.Options.{Options}
use Rattle.dcm_deid.specs.declared.fate.Fate.{Fate}
use Rattle.dcm_deid.specs.declared.fate.Fate.TheVariants.{Remove, Empty, Replace, Anew, Keep}
use Rattle.dcm_deid.specs.declared.fate.Depth.TheVariants.{Outermost}
use Rattle.dcm_deid.specs.declared.fate.ReadAs.TheVariants.{AsBytes, AsItems}
use Rattle.dcm_deid.specs.Fate.{fate_as}
use Rattle.dcm_deid.specs.Deidentify.{Renaming, dummy, value_by}
use Rattle.dcm_deid.specs.Saying.{put_in, open_leaf_by, open_sequence_by}
use Rattle.dcm_deid.specs.DeidentifySink.{is_due}
use Rattle.dcm_deid.proofs.Walked.{due_trees}
use Rattle.dcm_deid.proofs.PutOnes.{Part, none_part, leaf_part, sequence_part, leaf_by_part, sequence_by_part, fragments_by_part, AllLess}
use Rattle.dcm_deid.proofs.Weave.{none_due, end_of, woven}

-- the open element is above the last whole one
abbrev pub OpenAbove : Option Tag → OpenTree → Type 0
OpenAbove last nothing_open = Unit {0}
OpenAbove last (open_leaf tag vr size value) = is_above tag last ≡ true
OpenAbove last (open_sequence tag vr declared items last') = is_above tag last ≡ true
OpenAbove last (open_fragments tag vr values last') = is_above tag last ≡ true

-- what an open element becomes comes before nothing
pub record End (tag : Tag) (t : Trees) : Type 0 where
  pub part : Trees → Trees
  pub is : Part tag part
  pub whole : t ≡ part no_tree

pub leaf_end : (fate : Fate) (k : Renaming) (tag : Tag) (vr : Vr) → End tag (open_leaf_by fate (value_by k) tag vr)
leaf_end Remove k tag vr = record { part = λ x. x; is = none_part tag; whole = refl }
leaf_end Empty k tag vr = record { part = leaf tag vr []; is = leaf_part tag vr []; whole = refl }
leaf_end Replace k tag vr = record { part = leaf tag vr (dummy vr); is = leaf_part tag vr (dummy vr); whole = refl }
leaf_end (Anew made) k tag vr = record { part = λ x. x; is = none_part tag; whole = refl }
leaf_end Keep k tag vr = record { part = λ x. x; is = none_part tag; whole = refl }

pub sequence_end : (fate : Fate) (tag : Tag) (vr : Vr) → End tag (open_sequence_by fate tag vr)
sequence_end Remove tag vr = record { part = λ x. x; is = none_part tag; whole = refl }
sequence_end Empty tag vr = record { part = sequence tag vr Undefined no_item; is = sequence_part tag vr Undefined no_item; whole = refl }
sequence_end Replace tag vr = record { part = sequence tag vr Undefined no_item; is = sequence_part tag vr Undefined no_item; whole = refl }
sequence_end (Anew made) tag vr = record { part = sequence tag vr Undefined no_item; is = sequence_part tag vr Undefined no_item; whole = refl }
sequence_end Keep tag vr = record { part = λ x. x; is = none_part tag; whole = refl }

pub fragments_end : (tag : Tag) → End tag no_tree
fragments_end tag = record { part = λ x. x; is = none_part tag; whole = refl }

-- ---- all is above the new element

module _ (o : Options) (k : List ℕ) (news : List (Tag × Trees)) (n : Tag × Trees) (less : AllLess news n.0) (alone : then_trees n.1 no_tree ≡ n.1) where
  -- it is not there, and comes before the first
  abbrev pub First : Trees → Type 0
  First x = (has n.0 x ≡ false) × (put_in n.0 n.1 x ≡ then_trees n.1 x)

  first_none : First no_tree
  first_none = (refl, sym alone)

  first_part : (tag : Tag) (part : Trees → Trees) (x : Trees) → Part tag part → below n.0 tag ≡ true → First x → First (part x)
  first_part tag part x is low h = (is.other n.0 x (below_other_way n.0 tag low) ∙ h.0, is.stops n.0 n.1 x low h.1)

  first_after : (u : Tag) (next : Option Tag) (x : Trees) → below n.0 u ≡ true → First x → First (due_trees (is_due o (Some u) next) news x)
  first_after u next x low h = subst First (sym (none_due o u next news n.0 x less low)) h

  first_end : (u tag : Tag) (t : Trees) → End tag t → below n.0 u ≡ true → below u tag ≡ true → First (due_trees (is_due o (Some u) (Some tag)) news t)
  first_end u tag t e low up = first_after u (Some tag) t low (subst First (sym e.whole) (first_part tag e.part no_tree e.is (below_trans n.0 u tag low up) first_none))

  end_first : (p : OpenTree) (c : Bool) (u : Tag) → below n.0 u ≡ true → OpenAbove (Some u) p → First (end_of o k p c news (Some u))
  end_first nothing_open true u low up = first_after u None no_tree low first_none
  end_first nothing_open false u low up = first_none
  end_first (open_leaf tag vr size value) c u low up = first_end u tag _ (leaf_end (fate_as o Outermost AsBytes tag) (made_new o k) tag vr) low up
  end_first (open_sequence tag vr declared items last') c u low up = first_end u tag _ (sequence_end (fate_as o Outermost AsItems tag) tag vr) low up
  end_first (open_fragments tag vr values last') c u low up = first_end u tag _ (fragments_end tag) low up

  pub all_first : (p : OpenTree) (c : Bool) (rest : Trees) (u : Tag) → below n.0 u ≡ true → Ascend (Some u) rest → OpenAbove (last_tag (Some u) rest) p → First (woven o k p c news (Some u) rest)
  unfolding last_tag
  all_first p c no_tree u low a up = end_first p c u low up
  all_first p c (leaf tag vr value rest) u low a up =
      let here : below n.0 tag ≡ true = below_trans n.0 u tag low a.0 in
      first_after u (Some tag) _ low (first_part tag _ _ (leaf_by_part (fate_as o Outermost AsBytes tag) tag vr _) here (all_first p c rest tag here a.1 up))
  all_first p c (sequence tag vr declared items rest) u low a up =
      let here : below n.0 tag ≡ true = below_trans n.0 u tag low a.0 in
      first_after u (Some tag) _ low (first_part tag _ _ (sequence_by_part (fate_as o Outermost AsItems tag) tag vr _) here (all_first p c rest tag here a.2 up))
  all_first p c (fragments tag vr values rest) u low a up =
      let here : below n.0 tag ≡ true = below_trans n.0 u tag low a.0 in
      first_after u (Some tag) _ low (first_part tag _ _ (fragments_by_part (fate_as o Outermost AsBytes tag) tag vr values) here (all_first p c rest tag here a.1 up))
