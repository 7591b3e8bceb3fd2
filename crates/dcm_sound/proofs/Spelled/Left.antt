-- What is left of whole trees, items and fragments after the first of them.
use Rattle.std.proofs.Common.{◌≡◌, sym, subst, ℕ, suc, ◌<◌, List, [], ◌∷◌, ◌++◌, length, None, true}
use Rattle.dcm_base.specs.declared.syntax.Syntax.{Syntax}
use Rattle.dcm_base.specs.declared.length.Length.{Length}
use Rattle.dcm_base.specs.declared.length.Length.TheVariants.{Known, Undefined}
use Rattle.dcm_base.specs.Tree.Tree.{Trees, no_tree, leaf, sequence, fragments, Items, no_item, item}
use Rattle.dcm_base.specs.Tables.Tag.{item_end_tag, sequence_end_tag}
use Rattle.dcm_base.specs.Bytes.Spelling.{inside, Enclosed, FragmentsAt, TreesAt, ItemsAt, after, after_trees}
use Rattle.dcm_base.specs.Reading.Place.{is_data}
use Rattle.dcm_base.specs.Reading.Stop.{HeadBar}
use Rattle.dcm_base.proofs.DataSets.After.{none_after, behind_same}
use Rattle.dcm_base.proofs.DataSets.Heads.{known_same, element_same, item_same, NoElement, NoItem, element_begins, item_begins}
use Rattle.dcm_base.proofs.DataSets.Whole.{append_same, at_end_NoElement, at_end_NoItem, delimiter_NoElement, delimiter_NoItem, enclosed_same, enclosed_along, fragments_same, forms_same, value_sequence, value_fragments, sequence_fragments, leaf_same, trees_same, items_same}

-- the heads may come in a data set, none is barred, and so many lists are around them
unfoldable mutual
  pub MayCome : HeadBar → (around : ℕ) → Trees → Type 0
  MayCome bar n no_tree = Unit {0}
  MayCome bar n (leaf tag vr value rest) = (is_data tag ≡ true) × (bar tag vr (Known (length value)) ≡ None) × MayCome bar n rest
  MayCome bar n (sequence tag vr declared items rest) = (is_data tag ≡ true) × (bar tag vr declared ≡ None) × (n < 64) × ItemsMayCome bar (suc n) items × MayCome bar n rest
  MayCome bar n (fragments tag vr values rest) = (is_data tag ≡ true) × (bar tag vr Undefined ≡ None) × (n < 64) × MayCome bar n rest

  pub ItemsMayCome : HeadBar → (around : ℕ) → Items → Type 0
  ItemsMayCome bar n no_item = Unit {0}
  ItemsMayCome bar n (item declared set rest) = MayCome bar n set × ItemsMayCome bar n rest

-- the other trees
pub record LeftTrees (bar : HeadBar) (n : ℕ) (s : Syntax) (q p : List ℕ) : Type 0 where
  pub trees : Trees
  pub spelled : TreesAt s trees q p
  pub may : MayCome bar n trees

pub record LeftItems (bar : HeadBar) (n : ℕ) (s : Syntax) (q p : List ℕ) : Type 0 where
  pub items : Items
  pub spelled : ItemsAt s items q p
  pub may : ItemsMayCome bar n items

pub left_fragments : (s : Syntax) (x values : List (List ℕ)) (b q p : List ℕ) → FragmentsAt s x b q → FragmentsAt s values b p → NoItem s p → (more : List (List ℕ)) × FragmentsAt s more q p
unfolding FragmentsAt
left_fragments s [] values b q p h k none = (values, subst (λ (z : List ℕ). FragmentsAt s values z p) h k)
left_fragments s (v ∷ vs) [] b q p (others, head, more) k none = absurd (item_begins s _ b _ head (subst (NoItem s) (sym k) none))
left_fragments s (v ∷ vs) (w ∷ ws) b q p (others, head, more) (others', head', more') none =
    let h = item_same s (Known (length v)) (Known (length w)) b (v ++ others) (w ++ others') head head' in
    let both = append_same v w others others' (known_same _ _ h.0) h.1 in
    left_fragments s vs ws others q p more (subst (λ (z : List ℕ). FragmentsAt s ws z p) (sym both.1) more') none

module _ (bar : HeadBar) (n : ℕ) where
  pub left_items : (s : Syntax) (x items : Items) (b q p : List ℕ) → ItemsAt s x b q → ItemsAt s items b p → NoItem s p → ItemsMayCome bar n items → LeftItems bar n s q p
  unfolding TreesAt MayCome
  left_items s no_item items b q p h k none may = record { items = items; spelled = subst (λ (z : List ℕ). ItemsAt s items z p) h k; may = may }
  left_items s (item declared set rest) no_item b q p (contents, others, head, inner, more) k none may = absurd (item_begins s _ b _ head (subst (NoItem s) (sym k) none))
  left_items s (item declared set rest) (item declared' set' rest') b q p (contents, others, head, inner, more) (contents', others', head', inner', more') none may =
      let h = item_same s declared declared' b contents contents' head head' in
      let inner1 = subst (λ (z : Length). Enclosed s item_end_tag z (TreesAt s set') contents' others') (sym h.0) inner' in
      let inner2 = subst (λ (z : List ℕ). Enclosed s item_end_tag declared (TreesAt s set') z others') (sym h.1) inner1 in
      let one = enclosed_same s item_end_tag (NoElement s) (at_end_NoElement s) (delimiter_NoElement s) declared
      (TreesAt s set) (TreesAt s set') (set ≡ set')
      (λ c e f r r' ne nf. trees_same s set set' c e f r r' ne nf)
      contents others others' inner inner2 in
      left_items s rest rest' others q p more (subst (λ (z : List ℕ). ItemsAt s rest' z p) (sym one.1) more') none may.1

  pub left_trees : (s : Syntax) (x set : Trees) (b q p : List ℕ) → TreesAt s x b q → TreesAt s set b p → NoElement s p → MayCome bar n set → LeftTrees bar n (after_trees s x) q p
  unfolding TreesAt MayCome
  left_trees s no_tree set b q p h k none may = record { trees = set; spelled = subst (λ (z : List ℕ). TreesAt s set z p) h k; may = may }
  left_trees s (leaf tag vr value rest) no_tree b q p (others, fo, head, more) k none may = absurd (element_begins s _ _ _ b _ head (subst (NoElement s) (sym k) none))
  left_trees s (sequence tag vr declared items rest) no_tree b q p (contents, others, fo, head, inner, more) k none may = absurd (element_begins s _ _ _ b _ head (subst (NoElement s) (sym k) none))
  left_trees s (fragments tag vr values rest) no_tree b q p (contents, others, fo, head, inner, more) k none may = absurd (element_begins s _ _ _ b _ head (subst (NoElement s) (sym k) none))
  left_trees s (leaf tag vr value rest) (leaf tag' vr' value' rest') b q p (others, fo, head, more) (others', fo', head', more') none may =
      let h = leaf_same s tag tag' vr vr' value value' b others others' head head' in
      left_trees (after s tag vr value) rest rest' others q p more (behind_same s tag tag' vr vr' value value' others others' p rest' h more') (none_after s tag vr value p none) may.2
  left_trees s (leaf tag vr value rest) (sequence tag' vr' declared' items' rest') b q p (others, fo, head, more) (contents', others', fo', head', inner', more') none may =
      absurd (value_sequence (forms_same s _ _ _ _ _ _ b _ _ _ _ fo fo' head head'))
  left_trees s (leaf tag vr value rest) (fragments tag' vr' values' rest') b q p (others, fo, head, more) (contents', others', fo', head', inner', more') none may =
      absurd (value_fragments (forms_same s _ _ _ _ _ _ b _ _ _ _ fo fo' head head'))
  left_trees s (sequence tag vr declared items rest) (leaf tag' vr' value' rest') b q p (contents, others, fo, head, inner, more) (others', fo', head', more') none may =
      absurd (value_sequence (forms_same s _ _ _ _ _ _ b _ _ _ _ fo' fo head' head))
  left_trees s (sequence tag vr declared items rest) (sequence tag' vr' declared' items' rest') b q p (contents, others, fo, head, inner, more) (contents', others', fo', head', inner', more') none may =
      let h = element_same s tag tag' vr vr' declared declared' b contents contents' head head' in
      let one = enclosed_same (inside s vr) sequence_end_tag (NoItem (inside s vr)) (at_end_NoItem (inside s vr)) (delimiter_NoItem (inside s vr)) declared
      (ItemsAt (inside s vr) items) (ItemsAt (inside s vr) items') (items ≡ items')
      (λ c e f r r' ne nf. items_same (inside s vr) items items' c e f r r' ne nf)
      contents others others' inner (enclosed_along s vr vr' declared declared' items' contents contents' others' h.vrs h.lengths h.contents inner') in
      left_trees s rest rest' others q p more (subst (λ (z : List ℕ). TreesAt s rest' z p) (sym one.1) more') none may.4
  left_trees s (sequence tag vr declared items rest) (fragments tag' vr' values' rest') b q p (contents, others, fo, head, inner, more) (contents', others', fo', head', inner', more') none may =
      absurd (sequence_fragments (forms_same s _ _ _ _ _ _ b _ _ _ _ fo fo' head head'))
  left_trees s (fragments tag vr values rest) (leaf tag' vr' value' rest') b q p (contents, others, fo, head, inner, more) (others', fo', head', more') none may =
      absurd (value_fragments (forms_same s _ _ _ _ _ _ b _ _ _ _ fo' fo head' head))
  left_trees s (fragments tag vr values rest) (sequence tag' vr' declared' items' rest') b q p (contents, others, fo, head, inner, more) (contents', others', fo', head', inner', more') none may =
      absurd (sequence_fragments (forms_same s _ _ _ _ _ _ b _ _ _ _ fo' fo head' head))
  left_trees s (fragments tag vr values rest) (fragments tag' vr' values' rest') b q p (contents, others, fo, head, inner, more) (contents', others', fo', head', inner', more') none may =
      let h = element_same s tag tag' vr vr' Undefined Undefined b contents contents' head head' in
      let one = enclosed_same s sequence_end_tag (NoItem s) (at_end_NoItem s) (delimiter_NoItem s) Undefined
      (FragmentsAt s values) (FragmentsAt s values') (values ≡ values')
      (λ c e f r r' ne nf. fragments_same s values values' c e f r r' ne nf)
      contents others others' inner (subst (λ (z : List ℕ). Enclosed s sequence_end_tag Undefined (FragmentsAt s values') z others') (sym h.contents) inner') in
      left_trees s rest rest' others q p more (subst (λ (z : List ℕ). TreesAt s rest' z p) (sym one.1) more') none may.3
