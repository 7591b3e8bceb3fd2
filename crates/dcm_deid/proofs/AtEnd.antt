-- A new element at the end of a data set, or before its open element.
use Rattle.std.proofs.Common.{◌≡◌, ℕ, List, [], ◌∷◌, ◌++◌, Option, Some, None, Bool, true, false, ◌||◌, ◌&&◌, not, refl, sym, ap, ◌∙◌}
use Rattle.dcm_lemmas.proofs.Choice.{if_false}
use Rattle.dcm_lemmas.proofs.Truth.{or_true}
use Rattle.dcm_base.specs.declared.tag.Tag.{Tag}
use Rattle.dcm_base.specs.Tables.Tag.{below}
use Rattle.dcm_base.specs.Tree.Tree.{Trees, no_tree, then_trees}
use Rattle.dcm_base.specs.Tree.Front.{nothing_open}
use Rattle.dcm_edits.specs.Edit.{has, is_passed}
use Rattle.dcm_deid.specs.declared.fate.Options.{Options}
use Rattle.dcm_deid.specs.DeidentifySink.{is_due, is_after, is_there}
use Rattle.dcm_deid.proofs.Walked.{due_trees, then_if}
use Rattle.dcm_deid.proofs.PutOnes.{AllLess, put_if, due_append, due_skips, due_other}
use Rattle.dcm_deid.proofs.Weave.{end_of}
use Rattle.dcm_deid.proofs.Placing.{opens_of}
use Rattle.dcm_deid.proofs.PutInPlace.{New}

passed_end : (t : Tag) (last : Option Tag) → is_passed t last true ≡ true
passed_end t None = refl
passed_end t (Some l) = or_true (below t l)

none_of : (a b : Bool) → a ≡ false → b ≡ true → (a || (false || not b)) ≡ false
none_of a b p q = rw (p, q) refl

chosen : (b : Bool) (e x : Trees) → b ≡ true → then_if (b && true) e x ≡ then_trees e x
chosen b e x p = rw p refl

not_below : (a b : Bool) → (not a && not b) ≡ true → a ≡ false
not_below true b p = cc
not_below false b p = refl

still : (a : Bool) (e : Trees) (t : Tag) → a ≡ false → no_tree ≡ put_if (false || (false || not (a || false))) t e no_tree
still a e t p = rw p refl

module _ (o : Options) (k : List ℕ) (news : List (Tag × Trees)) (n : Tag × Trees) (less : AllLess news n.0) (new : New o n) where
  pub at_the_end : (last : Option Tag) → is_after o last n.0 ≡ true
      → end_of o k nothing_open true (news ++ n ∷ []) last ≡ put_if (has n.0 (end_of o k nothing_open true news last) || opens_of o k nothing_open true n.0 last) n.0 n.1 (end_of o k nothing_open true news last)
  at_the_end last after =
      due_append (is_due o last None) news n no_tree
      ∙ ap (due_trees (is_due o last None) news) (chosen (is_after o last n.0) n.1 no_tree after ∙ new.alone)
      ∙ sym (due_skips (is_due o last None) news n.0 n.1 no_tree less)
      ∙ sym (if_false _ _ _ (none_of _ _ (due_other (is_due o last None) news n.0 no_tree less) (passed_end n.0 last)))

  pub so_far : (last : Option Tag) → is_after o last n.0 ≡ true
      → end_of o k nothing_open false (news ++ n ∷ []) last ≡ put_if (has n.0 (end_of o k nothing_open false news last) || opens_of o k nothing_open false n.0 last) n.0 n.1 (end_of o k nothing_open false news last)
  so_far None after = refl
  so_far (Some l) after = still (below n.0 l) n.1 n.0 (not_below (below n.0 l) (is_there o l n.0) after)
