-- Bytes spell one front.
use Rattle.std.proofs.Common.{◌≡◌, ℕ, List, [], ◌∷◌, ◌++◌, length, Option, Some, None, refl, sym, ap, ◌∙◌, subst}
use Rattle.dcm_base.specs.declared.vr.Vr.{Vr}
use Rattle.dcm_base.specs.declared.syntax.Syntax.{Syntax}
use Rattle.dcm_base.specs.declared.length.Length.{Length}
use Rattle.dcm_base.specs.declared.length.Length.TheVariants.{Known, Undefined}
use Rattle.dcm_base.specs.Tree.Tree.{Trees, no_tree, leaf, sequence, fragments, Items, no_item, item}
use Rattle.dcm_base.specs.Tree.Front.{Front, front, OpenTree, nothing_open, open_leaf, open_sequence, open_fragments, OpenItem, no_open_item, open_item}
use Rattle.dcm_base.specs.Tables.Tag.{item_end_tag, sequence_end_tag}
use Rattle.dcm_base.specs.Tree.Value.{order}
use Rattle.dcm_base.specs.Bytes.Spelling.{inside, Enclosed, FragmentsAt, TreesAt, ItemsAt, reached_tag, SpellsOpenFragment, SpellsFront, SpellsOpen, SpellsOpenItem, after, after_trees}
use Rattle.dcm_base.proofs.DataSets.Heads.{known_same, element_same, item_same, NoElement, NoItem, element_begins, item_begins}
use Rattle.dcm_base.proofs.Conversions.Order.{order_same}
use Rattle.dcm_base.proofs.DataSets.After.{behind_same, open_behind_same}
use Rattle.dcm_base.proofs.DataSets.Whole.{append_same, at_end_NoElement, at_end_NoItem, delimiter_NoElement, delimiter_NoItem, enclosed_same, fragments_same, forms_same, value_sequence, value_fragments, sequence_fragments, leaf_same, enclosed_along, trees_same, items_same}
use Rattle.dcm_base.proofs.DataSets.Apart.{leaf_first, sequence_first, fragments_first, fragment_first, item_first, trees_apart, items_apart}

-- ---- the whole part

pub whole_same : (s : Syntax) (x y : Trees) (o o' : OpenTree) (b c d : List ℕ) → TreesAt s x b c → SpellsOpen (after_trees s x) o c → TreesAt s y b d → SpellsOpen (after_trees s y) o' d → (x ≡ y) × (c ≡ d)
unfolding TreesAt
whole_same s no_tree no_tree o o' b c d h l k m = (refl, sym h ∙ k)
whole_same s no_tree (leaf tag vr value rest) o o' b c d h l (others, fo, head, more) m =
    absurd (leaf_first s tag vr value o b others fo head (subst (SpellsOpen s o) (sym h) l))
whole_same s no_tree (sequence tag vr declared items rest) o o' b c d h l (contents, others, fo, head, inner, more) m =
    absurd (sequence_first s tag vr declared items o b contents others fo head inner (λ s' y last b p c. items_apart s' items y last b p c) (subst (SpellsOpen s o) (sym h) l))
whole_same s no_tree (fragments tag vr values rest) o o' b c d h l (contents, others, fo, head, inner, more) m =
    absurd (fragments_first s tag vr values o b contents others fo head inner (subst (SpellsOpen s o) (sym h) l))
whole_same s (leaf tag vr value rest) no_tree o o' b c d (others, fo, head, more) l k m =
    absurd (leaf_first s tag vr value o' b others fo head (subst (SpellsOpen s o') (sym k) m))
whole_same s (sequence tag vr declared items rest) no_tree o o' b c d (contents, others, fo, head, inner, more) l k m =
    absurd (sequence_first s tag vr declared items o' b contents others fo head inner (λ s' y last b p c. items_apart s' items y last b p c) (subst (SpellsOpen s o') (sym k) m))
whole_same s (fragments tag vr values rest) no_tree o o' b c d (contents, others, fo, head, inner, more) l k m =
    absurd (fragments_first s tag vr values o' b contents others fo head inner (subst (SpellsOpen s o') (sym k) m))
whole_same s (leaf tag vr value rest) (leaf tag' vr' value' rest') o o' b c d (others, fo, head, more) l (others', fo', head', more') m =
    let h = leaf_same s tag tag' vr vr' value value' b others others' head head' in
    let h0 = h.0 in
    let h1 = h.1 in
    let h2 = h.2 in
    let ih = whole_same (after s tag vr value) rest rest' o o' others c d more l (behind_same s tag tag' vr vr' value value' others others' d rest' h more') (open_behind_same s tag tag' vr vr' value value' others others' d rest' o' h m) in
    let ih0 = ih.0 in
    (cc, ih.1)
whole_same s (leaf tag vr value rest) (sequence tag' vr' declared' items' rest') o o' b c d (others, fo, head, more) l (contents', others', fo', head', inner', more') m =
    absurd (value_sequence (forms_same s _ _ _ _ _ _ b _ _ _ _ fo fo' head head'))
whole_same s (leaf tag vr value rest) (fragments tag' vr' values' rest') o o' b c d (others, fo, head, more) l (contents', others', fo', head', inner', more') m =
    absurd (value_fragments (forms_same s _ _ _ _ _ _ b _ _ _ _ fo fo' head head'))
whole_same s (sequence tag vr declared items rest) (leaf tag' vr' value' rest') o o' b c d (contents, others, fo, head, inner, more) l (others', fo', head', more') m =
    absurd (value_sequence (forms_same s _ _ _ _ _ _ b _ _ _ _ fo' fo head' head))
whole_same s (sequence tag vr declared items rest) (sequence tag' vr' declared' items' rest') o o' b c d (contents, others, fo, head, inner, more) l (contents', others', fo', head', inner', more') m =
    let h = element_same s tag tag' vr vr' declared declared' b contents contents' head head' in
    let h0 = h.tags in
    let h1 = h.vrs in
    let h2 = h.lengths in
    let one = enclosed_same (inside s vr) sequence_end_tag (NoItem (inside s vr)) (at_end_NoItem (inside s vr)) (delimiter_NoItem (inside s vr)) declared
    (ItemsAt (inside s vr) items) (ItemsAt (inside s vr) items') (items ≡ items')
    (λ c e f r r' ne nf. items_same (inside s vr) items items' c e f r r' ne nf)
    contents others others' inner (enclosed_along s vr vr' declared declared' items' contents contents' others' h.vrs h.lengths h.contents inner') in
    let h3 = one.0 in
    let ih = whole_same s rest rest' o o' others c d more l (subst (λ (z : List ℕ). TreesAt s rest' z d) (sym one.1) more') m in
    let ih0 = ih.0 in
    (cc, ih.1)
whole_same s (sequence tag vr declared items rest) (fragments tag' vr' values' rest') o o' b c d (contents, others, fo, head, inner, more) l (contents', others', fo', head', inner', more') m =
    absurd (sequence_fragments (forms_same s _ _ _ _ _ _ b _ _ _ _ fo fo' head head'))
whole_same s (fragments tag vr values rest) (leaf tag' vr' value' rest') o o' b c d (contents, others, fo, head, inner, more) l (others', fo', head', more') m =
    absurd (value_fragments (forms_same s _ _ _ _ _ _ b _ _ _ _ fo' fo head' head))
whole_same s (fragments tag vr values rest) (sequence tag' vr' declared' items' rest') o o' b c d (contents, others, fo, head, inner, more) l (contents', others', fo', head', inner', more') m =
    absurd (sequence_fragments (forms_same s _ _ _ _ _ _ b _ _ _ _ fo' fo head' head))
whole_same s (fragments tag vr values rest) (fragments tag' vr' values' rest') o o' b c d (contents, others, fo, head, inner, more) l (contents', others', fo', head', inner', more') m =
    let h = element_same s tag tag' vr vr' Undefined Undefined b contents contents' head head' in
    let h0 = h.tags in
    let h1 = h.vrs in
    let one = enclosed_same s sequence_end_tag (NoItem s) (at_end_NoItem s) (delimiter_NoItem s) Undefined
    (FragmentsAt s values) (FragmentsAt s values') (values ≡ values')
    (λ c e f r r' ne nf. fragments_same s values values' c e f r r' ne nf)
    contents others others' inner (subst (λ (z : List ℕ). Enclosed s sequence_end_tag Undefined (FragmentsAt s values') z others') (sym h.contents) inner') in
    let h3 = one.0 in
    let ih = whole_same s rest rest' o o' others c d more l (subst (λ (z : List ℕ). TreesAt s rest' z d) (sym one.1) more') m in
    let ih0 = ih.0 in
    (cc, ih.1)

pub whole_items_same : (s : Syntax) (x y : Items) (o o' : OpenItem) (b c d : List ℕ) → ItemsAt s x b c → SpellsOpenItem s o c → ItemsAt s y b d → SpellsOpenItem s o' d → (x ≡ y) × (c ≡ d)
unfolding ItemsAt
whole_items_same s no_item no_item o o' b c d h l k m = (refl, sym h ∙ k)
whole_items_same s no_item (item declared set rest) o o' b c d h l (contents, others, head, inner, more) m =
    absurd (item_first s declared set o b contents others head inner (λ y o b p c. trees_apart s set y o b p c) (subst (SpellsOpenItem s o) (sym h) l))
whole_items_same s (item declared set rest) no_item o o' b c d (contents, others, head, inner, more) l k m =
    absurd (item_first s declared set o' b contents others head inner (λ y o b p c. trees_apart s set y o b p c) (subst (SpellsOpenItem s o') (sym k) m))
whole_items_same s (item declared set rest) (item declared' set' rest') o o' b c d (contents, others, head, inner, more) l (contents', others', head', inner', more') m =
    let h = item_same s declared declared' b contents contents' head head' in
    let h0 = h.0 in
    let inner1 = subst (λ (z : Length). Enclosed s item_end_tag z (TreesAt s set') contents' others') (sym h.0) inner' in
    let inner2 = subst (λ (z : List ℕ). Enclosed s item_end_tag declared (TreesAt s set') z others') (sym h.1) inner1 in
    let one = enclosed_same s item_end_tag (NoElement s) (at_end_NoElement s) (delimiter_NoElement s) declared
    (TreesAt s set) (TreesAt s set') (set ≡ set')
    (λ c e f r r' ne nf. trees_same s set set' c e f r r' ne nf)
    contents others others' inner inner2 in
    let h3 = one.0 in
    let ih = whole_items_same s rest rest' o o' others c d more l (subst (λ (z : List ℕ). ItemsAt s rest' z d) (sym one.1) more') m in
    let ih0 = ih.0 in
    (cc, ih.1)

pub whole_fragments_same : (s : Syntax) (x y : List (List ℕ)) (o o' : Option (ℕ × List ℕ)) (b c d : List ℕ) → FragmentsAt s x b c → SpellsOpenFragment s o c → FragmentsAt s y b d → SpellsOpenFragment s o' d → (x ≡ y) × (c ≡ d)
unfolding FragmentsAt
whole_fragments_same s [] [] o o' b c d h l k m = (refl, sym h ∙ k)
whole_fragments_same s [] (w ∷ ws) o o' b c d h l (others, head, more) m = absurd (fragment_first s w o b others head (subst (SpellsOpenFragment s o) (sym h) l))
whole_fragments_same s (v ∷ vs) [] o o' b c d (others, head, more) l k m = absurd (fragment_first s v o' b others head (subst (SpellsOpenFragment s o') (sym k) m))
whole_fragments_same s (v ∷ vs) (w ∷ ws) o o' b c d (others, head, more) l (others', head', more') m =
    let h = item_same s (Known (length v)) (Known (length w)) b (v ++ others) (w ++ others') head head' in
    let both = append_same v w others others' (known_same _ _ h.0) h.1 in
    let both0 = both.0 in
    let ih = whole_fragments_same s vs ws o o' others c d more l (subst (λ (z : List ℕ). FragmentsAt s ws z d) (sym both.1) more') m in
    let ih0 = ih.0 in
    (cc, ih.1)

open_fragment_same : (s : Syntax) (o o' : Option (ℕ × List ℕ)) (b : List ℕ) → SpellsOpenFragment s o b → SpellsOpenFragment s o' b → o ≡ o'
open_fragment_same s None None b l m = refl
open_fragment_same s None (Some (n, v)) b l m = absurd (item_begins s _ b _ m.1 (subst (NoItem s) (sym l) (at_end_NoItem s)))
open_fragment_same s (Some (n, v)) None b l m = absurd (item_begins s _ b _ l.1 (subst (NoItem s) (sym m) (at_end_NoItem s)))
open_fragment_same s (Some (n, v)) (Some (n', v')) b l m =
    let h = item_same s (Known n) (Known n') b v v' l.1 m.1 in
    let sizes = known_same _ _ h.0 in
    let values = h.1 in
    ap (λ (k : ℕ). Some (k, v)) sizes ∙ ap (λ (w : List ℕ). Some (n', w)) values

-- ---- fronts

mutual
  unfolding SpellsFront

  pub front_same : (s : Syntax) (f g : Front) (b : List ℕ) → SpellsFront s f b → SpellsFront s g b → f ≡ g
  front_same s (front whole o reached closed) (front whole' o' reached' closed') b (others, at, op, re, cl) (others', at', op', re', cl') =
      let w = whole_same s whole whole' o o' b others others' at op at' op' in
      let w0 = w.0 in
      let op1 = subst (SpellsOpen (after_trees s whole') o') (sym w.1) op' in
      let oo = open_same (after_trees s whole) o o' others op (subst (λ (k : Trees). SpellsOpen (after_trees s k) o' others) (sym w.0) op1) in
      let rr : reached ≡ reached' = re ∙ ap (λ (z : Trees). reached_tag z o) w.0 ∙ ap (λ (z : OpenTree). reached_tag whole' z) oo ∙ sym re' in
      let cc' : closed ≡ closed' = cl ∙ sym cl' in
      cc

  pub open_same : (s : Syntax) (o o' : OpenTree) (b : List ℕ) → SpellsOpen s o b → SpellsOpen s o' b → o ≡ o'
  open_same s nothing_open nothing_open b l m = refl
  open_same s nothing_open (open_leaf tag vr size value) b l (fo, lt, head) = absurd (element_begins s _ _ _ b _ head (subst (NoElement s) (sym l) (at_end_NoElement s)))
  open_same s nothing_open (open_sequence tag vr declared items last) b l (contents, others, fo, head, stays, inner, more) = absurd (element_begins s _ _ _ b _ head (subst (NoElement s) (sym l) (at_end_NoElement s)))
  open_same s nothing_open (open_fragments tag vr values last) b l (contents, others, fo, head, inner, more) = absurd (element_begins s _ _ _ b _ head (subst (NoElement s) (sym l) (at_end_NoElement s)))
  open_same s (open_leaf tag vr size value) nothing_open b (fo, lt, head) m = absurd (element_begins s _ _ _ b _ head (subst (NoElement s) (sym m) (at_end_NoElement s)))
  open_same s (open_leaf tag vr size value) (open_leaf tag' vr' size' value') b (fo, lt, head) (fo', lt', head') =
      let h = element_same s tag tag' vr vr' (Known size) (Known size') b (order s vr value) (order s vr' value') head head' in
      let h0 = h.tags in
      let h1 = h.vrs in
      let h2 = known_same _ _ h.lengths in
      let h3 = order_same s vr value value' (h.contents ∙ ap (λ (z : Vr). order s z value') (sym h.vrs)) in
      cc
  open_same s (open_leaf tag vr size value) (open_sequence tag' vr' declared' items' last') b (fo, lt, head) (contents', others', fo', head', stays', inner', more') =
      absurd (value_sequence (forms_same s _ _ _ _ _ _ b _ _ _ _ fo fo' head head'))
  open_same s (open_leaf tag vr size value) (open_fragments tag' vr' values' last') b (fo, lt, head) (contents', others', fo', head', inner', more') =
      absurd (value_fragments (forms_same s _ _ _ _ _ _ b _ _ _ _ fo fo' head head'))
  open_same s (open_sequence tag vr declared items last) nothing_open b (contents, others, fo, head, stays, inner, more) m = absurd (element_begins s _ _ _ b _ head (subst (NoElement s) (sym m) (at_end_NoElement s)))
  open_same s (open_sequence tag vr declared items last) (open_leaf tag' vr' size' value') b (contents, others, fo, head, stays, inner, more) (fo', lt', head') =
      absurd (value_sequence (forms_same s _ _ _ _ _ _ b _ _ _ _ fo' fo head' head))
  open_same s (open_sequence tag vr declared items last) (open_sequence tag' vr' declared' items' last') b (contents, others, fo, head, stays, inner, more) (contents', others', fo', head', stays', inner', more') =
      let h = element_same s tag tag' vr vr' declared declared' b contents contents' head head' in
      let h0 = h.tags in
      let h1 = h.vrs in
      let h2 = h.lengths in
      let inner1 = subst (λ (z : Vr). ItemsAt (inside s z) items' contents' others') (sym h.vrs) inner' in
      let inner2 = subst (λ (z : List ℕ). ItemsAt (inside s vr) items' z others') (sym h.contents) inner1 in
      let more1 = subst (λ (z : Vr). SpellsOpenItem (inside s z) last' others') (sym h.vrs) more' in
      let w = whole_items_same (inside s vr) items items' last last' contents others others' inner more inner2 more1 in
      let w0 = w.0 in
      let oo = open_item_same (inside s vr) last last' others more (subst (SpellsOpenItem (inside s vr) last') (sym w.1) more1) in
      cc
  open_same s (open_sequence tag vr declared items last) (open_fragments tag' vr' values' last') b (contents, others, fo, head, stays, inner, more) (contents', others', fo', head', inner', more') =
      absurd (sequence_fragments (forms_same s _ _ _ _ _ _ b _ _ _ _ fo fo' head head'))
  open_same s (open_fragments tag vr values last) nothing_open b (contents, others, fo, head, inner, more) m = absurd (element_begins s _ _ _ b _ head (subst (NoElement s) (sym m) (at_end_NoElement s)))
  open_same s (open_fragments tag vr values last) (open_leaf tag' vr' size' value') b (contents, others, fo, head, inner, more) (fo', lt', head') =
      absurd (value_fragments (forms_same s _ _ _ _ _ _ b _ _ _ _ fo' fo head' head))
  open_same s (open_fragments tag vr values last) (open_sequence tag' vr' declared' items' last') b (contents, others, fo, head, inner, more) (contents', others', fo', head', stays', inner', more') =
      absurd (sequence_fragments (forms_same s _ _ _ _ _ _ b _ _ _ _ fo' fo head' head))
  open_same s (open_fragments tag vr values last) (open_fragments tag' vr' values' last') b (contents, others, fo, head, inner, more) (contents', others', fo', head', inner', more') =
      let h = element_same s tag tag' vr vr' Undefined Undefined b contents contents' head head' in
      let h0 = h.tags in
      let h1 = h.vrs in
      let inner1 = subst (λ (z : List ℕ). FragmentsAt s values' z others') (sym h.contents) inner' in
      let w = whole_fragments_same s values values' last last' contents others others' inner more inner1 more' in
      let w0 = w.0 in
      let oo = open_fragment_same s last last' others more (subst (SpellsOpenFragment s last') (sym w.1) more') in
      cc

  pub open_item_same : (s : Syntax) (o o' : OpenItem) (b : List ℕ) → SpellsOpenItem s o b → SpellsOpenItem s o' b → o ≡ o'
  open_item_same s no_open_item no_open_item b l m = refl
  open_item_same s no_open_item (open_item declared set) b l (contents, head, stays, more) = absurd (item_begins s _ b _ head (subst (NoItem s) (sym l) (at_end_NoItem s)))
  open_item_same s (open_item declared set) no_open_item b (contents, head, stays, more) m = absurd (item_begins s _ b _ head (subst (NoItem s) (sym m) (at_end_NoItem s)))
  open_item_same s (open_item declared set) (open_item declared' set') b (contents, head, stays, more) (contents', head', stays', more') =
      let h = item_same s declared declared' b contents contents' head head' in
      let h0 = h.0 in
      let ff = front_same s set set' contents more (subst (SpellsFront s set') (sym h.1) more') in
      cc
