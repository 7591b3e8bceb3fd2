-- What says what was done, put into a whole data set, is put between its elements.
use Rattle.std.proofs.Common.{◌≡◌, ℕ, List, [], ◌∷◌, ◌++◌, Option, Some, None, Bool, true, false, ◌&&◌, not, refl, sym, ap, subst, arith, ◌∙◌}
use Rattle.std.proofs.lemmas.Bool.{cases_Bool}
use Rattle.std.proofs.lemmas.Bool.Decides.{nat_tests}
use mathlib.Core.Logic.{⊎_elim}
use Rattle.dcm_base.specs.declared.tag.Tag.{Tag}
use Rattle.dcm_base.specs.Tables.Tag.{same_tag, below}
use Rattle.dcm_base.specs.Lines.Ascending.{Ascend}
use Rattle.dcm_base.specs.Tree.Tree.{Trees, no_tree, leaf, sequence, fragments}
use Rattle.dcm_base.specs.Tree.Front.{OpenTree, nothing_open, open_leaf, open_sequence, open_fragments}
use Rattle.dcm_base.proofs.Dictionaries.TagOrder.{below_trans, tag_is}
use Rattle.dcm_deid.specs.MadeNew.{made_new}
use Rattle.dcm_deid.specs.declared.fate.Options.{Options}
use Rattle.dcm_deid.specs.declared.fate.Depth.TheVariants.{Outermost}
use Rattle.dcm_deid.specs.declared.fate.ReadAs.TheVariants.{AsBytes, AsItems}
use Rattle.dcm_deid.specs.Fate.{fate_as}
use Rattle.dcm_deid.specs.Deidentify.{value_by, leaf_by, sequence_by, fragments_by, items_by_fate}
use Rattle.dcm_deid.specs.Saying.{open_leaf_by, open_sequence_by}
use Rattle.dcm_deid.specs.DeidentifySink.{is_due, is_after, is_there}
use Rattle.dcm_deid.proofs.Walked.{due_trees, then_if}
use Rattle.dcm_deid.proofs.PutOnes.{AllLess, due_append}

-- ---- what is due after a tag

pub after_less : (o : Options) (u t : Tag) → below t u ≡ true → is_after o (Some u) t ≡ false
after_less o u t h = rw h refl

pub there_same : (o : Options) (u t : Tag) → is_there o u t ≡ true → same_tag t u ≡ true
there_same o u t h = grind (arith, nat_tests)

-- what is not due after a tag is not due after a greater one
after_later : (o : Options) (u w t : Tag) → is_after o (Some u) t ≡ false → below u w ≡ true → is_after o (Some w) t ≡ false
after_later o u w t h l =
    ⊎_elim
    (λ (low : below t u ≡ true). after_less o w t (below_trans t u w low l))
    (λ (high : below t u ≡ false). after_less o w t (subst (λ (x : Tag). below x w ≡ true) (sym (tag_is t u (there_same o u t (left_there (below t u) (is_there o u t) high h)))) l))
    (cases_Bool (below t u))
  where
    left_there : (a b : Bool) → a ≡ false → (not a && not b) ≡ false → b ≡ true
    left_there true b p q = cc
    left_there false true p q = refl
    left_there false false p q = cc

pub none_due : (o : Options) (u : Tag) (next : Option Tag) (news : List (Tag × Trees)) (t : Tag) (x : Trees) → AllLess news t → below t u ≡ true → due_trees (is_due o (Some u) next) news x ≡ x
none_due o u next [] t x a h = refl
none_due o u next (m ∷ news) t x a h = not_first (is_after o (Some u) m.0) _ (after_less o u m.0 (below_trans m.0 t u a.1 h)) (none_due o u next news t x a.2 h)
  where
    not_first : (b c : Bool) → b ≡ false → due_trees (is_due o (Some u) next) news x ≡ x → then_if (b && c) m.1 (due_trees (is_due o (Some u) next) news x) ≡ x
    not_first b c p q = rw p q

-- ---- the whole data set with what is put between

abbrev pub end_of : Options → List ℕ → OpenTree → Bool → List (Tag × Trees) → Option Tag → Trees
end_of o k nothing_open true news last = due_trees (is_due o last None) news no_tree
end_of o k nothing_open false news last = no_tree
end_of o k (open_leaf tag vr size value) c news last = due_trees (is_due o last (Some tag)) news (open_leaf_by (fate_as o Outermost AsBytes tag) (value_by (made_new o k)) tag vr)
end_of o k (open_sequence tag vr declared items last') c news last = due_trees (is_due o last (Some tag)) news (open_sequence_by (fate_as o Outermost AsItems tag) tag vr)
end_of o k (open_fragments tag vr values last') c news last = due_trees (is_due o last (Some tag)) news no_tree

abbrev pub woven : Options → List ℕ → OpenTree → Bool → List (Tag × Trees) → Option Tag → Trees → Trees
woven o k p c news last no_tree = end_of o k p c news last
woven o k p c news last (leaf tag vr value rest) =
    due_trees (is_due o last (Some tag)) news (leaf_by (fate_as o Outermost AsBytes tag) tag vr (value_by (made_new o k) (fate_as o Outermost AsBytes tag) vr value) (woven o k p c news (Some tag) rest))
woven o k p c news last (sequence tag vr declared items rest) =
    due_trees (is_due o last (Some tag)) news (sequence_by (fate_as o Outermost AsItems tag) tag vr (items_by_fate (fate_as o) (value_by (made_new o k)) items) (woven o k p c news (Some tag) rest))
woven o k p c news last (fragments tag vr values rest) =
    due_trees (is_due o last (Some tag)) news (fragments_by (fate_as o Outermost AsBytes tag) tag vr values (woven o k p c news (Some tag) rest))

-- ---- after its place a new element changes nothing

not_due : (o : Options) (u : Tag) (next : Option Tag) (news : List (Tag × Trees)) (n : Tag × Trees) (x y : Trees) → is_after o (Some u) n.0 ≡ false → x ≡ y
    → due_trees (is_due o (Some u) next) (news ++ n ∷ []) x ≡ due_trees (is_due o (Some u) next) news y
not_due o u next news n x y h e = due_append (is_due o (Some u) next) news n x ∙ ap (due_trees (is_due o (Some u) next) news) (not_one (is_after o (Some u) n.0) _ h ∙ e)
  where
    not_one : (b c : Bool) → b ≡ false → then_if (b && c) n.1 x ≡ x
    not_one b c p = rw p refl

module _ (o : Options) (k : List ℕ) (p : OpenTree) (c : Bool) (news : List (Tag × Trees)) (n : Tag × Trees) where
  end_past : (q : OpenTree) (d : Bool) (u : Tag) → is_after o (Some u) n.0 ≡ false → end_of o k q d (news ++ n ∷ []) (Some u) ≡ end_of o k q d news (Some u)
  end_past nothing_open true u h = not_due o u None news n no_tree no_tree h refl
  end_past nothing_open false u h = refl
  end_past (open_leaf tag vr size value) d u h = not_due o u (Some tag) news n _ _ h refl
  end_past (open_sequence tag vr declared items last') d u h = not_due o u (Some tag) news n _ _ h refl
  end_past (open_fragments tag vr values last') d u h = not_due o u (Some tag) news n no_tree no_tree h refl

  pub past : (rest : Trees) (u : Tag) → Ascend (Some u) rest → is_after o (Some u) n.0 ≡ false → woven o k p c (news ++ n ∷ []) (Some u) rest ≡ woven o k p c news (Some u) rest
  past no_tree u a h = end_past p c u h
  past (leaf tag vr value rest) u a h = not_due o u (Some tag) news n _ _ h (ap (leaf_by (fate_as o Outermost AsBytes tag) tag vr _) (past rest tag a.1 (after_later o u tag n.0 h a.0)))
  past (sequence tag vr declared items rest) u a h = not_due o u (Some tag) news n _ _ h (ap (sequence_by (fate_as o Outermost AsItems tag) tag vr _) (past rest tag a.2 (after_later o u tag n.0 h a.0)))
  past (fragments tag vr values rest) u a h = not_due o u (Some tag) news n _ _ h (ap (fragments_by (fate_as o Outermost AsBytes tag) tag vr values) (past rest tag a.1 (after_later o u tag n.0 h a.0)))
