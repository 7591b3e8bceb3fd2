-- What is written of a data set does not depend on its reached tags.
use Rattle.std.proofs.Common.{◌≡◌, refl, ap, List, ℕ, ◌++◌}
use Rattle.dcm_base.specs.declared.syntax.Syntax.{Syntax}
use Rattle.dcm_base.specs.declared.vr.Vr.TheVariants.{SQ}
use Rattle.dcm_base.specs.declared.length.Length.TheVariants.{Undefined}
use Rattle.dcm_base.specs.Tree.Front.{Front, front, OpenTree, nothing_open, open_leaf, open_sequence, open_fragments, OpenItem, no_open_item, open_item}
use Rattle.dcm_base.specs.Conversion.Recode.{head, item_head, unless_dropped, recode_set, recode_items, recode, recode_open, recode_open_item}
use Rattle.dcm_base.specs.Steps.Anew.{reached_anew, open_anew, item_anew}

mutual
  unfolding recode

  pub recode_anew : (s : Syntax) (f : Front) → recode s (reached_anew f) ≡ recode s f
  recode_anew s (front whole o reached closed) = ap (λ (b : List ℕ). recode_set s whole ++ b) (recode_open_anew s o)

  recode_open_anew : (s : Syntax) (o : OpenTree) → recode_open s (open_anew o) ≡ recode_open s o
  recode_open_anew s nothing_open = refl
  recode_open_anew s (open_leaf tag vr size value) = refl
  recode_open_anew s (open_sequence tag vr declared items last) =
      ap (λ (b : List ℕ). unless_dropped tag (head s tag SQ Undefined ++ recode_items s items ++ b)) (recode_item_anew s last)
  recode_open_anew s (open_fragments tag vr values last) = refl

  recode_item_anew : (s : Syntax) (o : OpenItem) → recode_open_item s (item_anew o) ≡ recode_open_item s o
  recode_item_anew s no_open_item = refl
  recode_item_anew s (open_item declared set) = ap (λ (b : List ℕ). item_head s Undefined ++ b) (recode_anew s set)
