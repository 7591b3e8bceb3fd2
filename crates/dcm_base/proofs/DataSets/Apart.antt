-- Bytes that begin with whole trees are not those of trees that end in an open one, and likewise items.
use Rattle.std.proofs.Common.{◌≡◌, ℕ, ◌<◌, List, [], ◌∷◌, ◌++◌, length, Option, Some, None, Bool, true, false, refl, sym, ap, ◌∙◌, subst, arith, length-append}
use Rattle.std.specs.Prelude.{is_some}
use Rattle.std.proofs.lemmas.List.{append-nil, nil_from_length}
use Rattle.dcm_base.specs.declared.tag.Tag.{Tag}
use Rattle.dcm_base.specs.declared.vr.Vr.{Vr}
use Rattle.dcm_base.specs.declared.syntax.Syntax.{Syntax}
use Rattle.dcm_base.specs.declared.length.Length.{Length}
use Rattle.dcm_base.specs.declared.length.Length.TheVariants.{Known, Undefined}
use Rattle.dcm_base.specs.Tree.Tree.{Trees, no_tree, leaf, sequence, fragments, Items, no_item, item}
use Rattle.dcm_base.specs.Tree.Front.{front, OpenTree, nothing_open, open_leaf, open_sequence, open_fragments, OpenItem, no_open_item, open_item}
use Rattle.dcm_base.specs.Bytes.Head.{ElementHead, ItemHead, Delimiter}
use Rattle.dcm_base.specs.Tables.Tag.{item_end_tag, sequence_end_tag}
use Rattle.dcm_base.specs.Tree.Value.{order}
use Rattle.dcm_base.specs.Bytes.Spelling.{a_value, a_sequence, a_fragment_list, form, inside, Enclosed, FragmentsAt, TreesAt, ItemsAt, is_open, is_open_item, StaysOpen, SpellsOpenFragment, SpellsOpen, SpellsOpenItem, after, after_trees, read_as}
use Rattle.dcm_base.proofs.DataSets.Heads.{known_same, element_same, item_same, NoElement, NoItem, element_begins, item_begins}
use Rattle.dcm_base.proofs.Conversions.Order.{length-order}
use Rattle.dcm_base.proofs.DataSets.After.{none_after, behind_same, open_behind_same}
use Rattle.dcm_base.proofs.DataSets.Whole.{append_same, at_end_NoElement, at_end_NoItem, delimiter_NoElement, delimiter_NoItem, enclosed_same, fragments_same, forms_same, value_sequence, value_fragments, sequence_fragments, leaf_same, enclosed_along, trees_same, items_same}

pub enclosed_apart : (s : Syntax) (end_tag : Tag) (Stop : List ℕ → Type 0) → Stop [] → ((d e : List ℕ) → Delimiter s end_tag d e → Stop d)
    → (declared : Length) (R : List ℕ → List ℕ → Type 0) (held : Bool) (c e : List ℕ)
    → ((p : List ℕ) → R c p → Stop p → held ≡ true → ⊥)
    → ((p : List ℕ) → R c p → Stop p → held ≡ false → p ≡ [])
    → Enclosed s end_tag declared R c e → StaysOpen declared held c → ⊥
enclosed_apart s end_tag Stop nil delim (Known size) R true c e apart ends (i, ci, li, r) le =
    let e-nil : e ≡ [] = nil_from_length e (omega (arith, ap length ci, length-append i e)) in
    let same : c ≡ i = ci ∙ ap (λ (z : List ℕ). i ++ z) e-nil ∙ append-nil i in
    apart [] (subst (λ (z : List ℕ). R z []) (sym same) r) nil refl
enclosed_apart s end_tag Stop nil delim (Known size) R false c e apart ends (i, ci, li, r) lt =
    omega (arith, ap length ci, length-append i e)
enclosed_apart s end_tag Stop nil delim Undefined R true c e apart ends (d, r, x) u = apart d r (delim d e x) refl
enclosed_apart s end_tag Stop nil delim Undefined R false c e apart ends (d, r, x) u =
    let d-nil : length d ≡ 0 = ap length (ends d r (delim d e x) refl) in
    omega (arith, x.whole)

pub leaf_apart : (s : Syntax) (t u : Tag) (v w : Vr) (x y : List ℕ) (size : ℕ) (b c : List ℕ)
    → ElementHead s t v (Known (length x)) b (order s v x ++ c) → ElementHead s u w (Known size) b (order s w y) → length y < size → ⊥
leaf_apart s t u v w x y size b c p q lt =
    let h = element_same s t u v w (Known (length x)) (Known size) b (order s v x ++ c) (order s w y) p q in
    let len : length x ≡ size = known_same _ _ h.lengths in
    omega (arith, ap length h.contents, length-append (order s v x) c, length-order s v x, length-order s w y)

pub closed_at_end : (s : Syntax) (o : OpenTree) (c : List ℕ) → SpellsOpen s o c → is_open o ≡ false → c ≡ []
unfolding SpellsOpen
closed_at_end s nothing_open c h e = h
closed_at_end s (open_leaf tag vr size value) c h e = absurd cc
closed_at_end s (open_sequence tag vr declared items last) c h e = absurd cc
closed_at_end s (open_fragments tag vr values last) c h e = absurd cc

pub closed_item_at_end : (s : Syntax) (o : OpenItem) (c : List ℕ) → SpellsOpenItem s o c → is_open_item o ≡ false → c ≡ []
unfolding SpellsOpenItem
closed_item_at_end s no_open_item c h e = h
closed_item_at_end s (open_item declared set) c h e = absurd cc

pub closed_fragment_at_end : (s : Syntax) (o : Option (ℕ × List ℕ)) (c : List ℕ) → SpellsOpenFragment s o c → is_some o ≡ false → c ≡ []
closed_fragment_at_end s None c h e = h
closed_fragment_at_end s (Some x) c h e = absurd cc

pub open_begins : (s : Syntax) (o : OpenTree) (c : List ℕ) → SpellsOpen s o c → is_open o ≡ true → NoElement s c → ⊥
unfolding SpellsOpen
open_begins s nothing_open c h e none = absurd cc
open_begins s (open_leaf tag vr size value) c (fo, lt, head) e none = element_begins s _ _ _ c _ head none
open_begins s (open_sequence tag vr declared items last) c (contents, others, fo, head, stays, inner, more) e none = element_begins s _ _ _ c _ head none
open_begins s (open_fragments tag vr values last) c (contents, others, fo, head, inner, more) e none = element_begins s _ _ _ c _ head none

pub open_item_begins : (s : Syntax) (o : OpenItem) (c : List ℕ) → SpellsOpenItem s o c → is_open_item o ≡ true → NoItem s c → ⊥
unfolding SpellsOpenItem
open_item_begins s no_open_item c h e none = absurd cc
open_item_begins s (open_item declared set) c (contents, head, stays, more) e none = item_begins s _ c _ head none

-- one whole fragment isn't an open one
pub fragment_first : (s : Syntax) (value : List ℕ) (last : Option (ℕ × List ℕ)) (b others : List ℕ) → ItemHead s (Known (length value)) b (value ++ others) → SpellsOpenFragment s last b → ⊥
fragment_first s value None b others head l = item_begins s _ b _ head (subst (NoItem s) (sym l) (at_end_NoItem s))
fragment_first s value (Some fragment) b others head l =
    let both = item_same s (Known (length value)) (Known fragment.0) b (value ++ others) fragment.1 head l.1 in
    let len : length value ≡ fragment.0 = known_same _ _ both.0 in
    omega (arith, ap length both.1, length-append value others, l.0)

pub fragments_apart : (s : Syntax) (x y : List (List ℕ)) (last : Option (ℕ × List ℕ)) (b p c : List ℕ) → FragmentsAt s x b p → NoItem s p → FragmentsAt s y b c → SpellsOpenFragment s last c → is_some last ≡ true → ⊥
unfolding FragmentsAt
fragments_apart s x y None b p c h np k l e = absurd cc
fragments_apart s [] [] (Some fragment) b p c h np k l e = item_begins s _ c _ l.1 (subst (NoItem s) (sym h ∙ k) np)
fragments_apart s [] (w ∷ ws) (Some fragment) b p c h np k l e = item_begins s _ b _ k.1 (subst (NoItem s) (sym h) np)
fragments_apart s (v ∷ vs) [] (Some fragment) b p c (others, head, more) np k l e =
    fragment_first s v (Some fragment) b others head (subst (SpellsOpenFragment s (Some fragment)) (sym k) l)
fragments_apart s (v ∷ vs) (w ∷ ws) (Some fragment) b p c (others, head, more) np (others', head', more') l e =
    let h = item_same s (Known (length v)) (Known (length w)) b (v ++ others) (w ++ others') head head' in
    let both = append_same v w others others' (known_same _ _ h.0) h.1 in
    fragments_apart s vs ws (Some fragment) others p c more np (subst (λ (z : List ℕ). FragmentsAt s ws z c) (sym both.1) more') l e

-- one whole leaf is no open tree
pub leaf_first : (s : Syntax) (tag : Tag) (vr : Vr) (value : List ℕ) (o : OpenTree) (b others : List ℕ) → form s (read_as s tag vr) (Known (length value)) ≡ a_value
    → ElementHead s tag vr (Known (length value)) b (order s vr value ++ others) → SpellsOpen s o b → ⊥
unfolding SpellsOpen
leaf_first s tag vr value nothing_open b others fo head l = element_begins s _ _ _ b _ head (subst (NoElement s) (sym l) (at_end_NoElement s))
leaf_first s tag vr value (open_leaf tag' vr' size' value') b others fo head (fo', lt', head') = leaf_apart s tag tag' vr vr' value value' size' b others head head' lt'
leaf_first s tag vr value (open_sequence tag' vr' declared' items' last') b others fo head (contents', others', fo', head', stays', inner', more') =
    value_sequence (forms_same s _ _ _ _ _ _ b _ _ _ _ fo fo' head head')
leaf_first s tag vr value (open_fragments tag' vr' values' last') b others fo head (contents', others', fo', head', inner', more') =
    value_fragments (forms_same s _ _ _ _ _ _ b _ _ _ _ fo fo' head head')

-- nor is one whole sequence, whose items are apart from items that end in an open one
pub sequence_first : (s : Syntax) (tag : Tag) (vr : Vr) (declared : Length) (items : Items) (o : OpenTree) (b contents others : List ℕ) → form s (read_as s tag vr) declared ≡ a_sequence
    → ElementHead s tag vr declared b contents → Enclosed (inside s vr) sequence_end_tag declared (ItemsAt (inside s vr) items) contents others
    → ((s' : Syntax) (y : Items) (last : OpenItem) (b p c : List ℕ) → ItemsAt s' items b p → NoItem s' p → ItemsAt s' y b c → SpellsOpenItem s' last c → is_open_item last ≡ true → ⊥)
    → SpellsOpen s o b → ⊥
unfolding SpellsOpen
sequence_first s tag vr declared items nothing_open b contents others fo head inner apart l = element_begins s _ _ _ b _ head (subst (NoElement s) (sym l) (at_end_NoElement s))
sequence_first s tag vr declared items (open_leaf tag' vr' size' value') b contents others fo head inner apart (fo', lt', head') =
    value_sequence (forms_same s _ _ _ _ _ _ b _ _ _ _ fo' fo head' head)
sequence_first s tag vr declared items (open_sequence tag' vr' declared' items' last') b contents others fo head inner apart (contents', others', fo', head', stays', inner', more') =
    let h = element_same s tag tag' vr vr' declared declared' b contents contents' head head' in
    let moved = enclosed_along s vr' vr declared' declared items contents' contents others (sym h.vrs) (sym h.lengths) (sym h.contents) inner in
    enclosed_apart (inside s vr') sequence_end_tag (NoItem (inside s vr')) (at_end_NoItem (inside s vr')) (delimiter_NoItem (inside s vr')) declared' (ItemsAt (inside s vr') items) (is_open_item last') contents' others
    (λ q r nq held. apart (inside s vr') items' last' contents' q others' r nq inner' more' held)
    (λ q r nq held. let at_end = closed_item_at_end (inside s vr') last' others' more' held in
    (items_same (inside s vr') items items' contents' q others' r inner' nq (subst (NoItem (inside s vr')) (sym at_end) (at_end_NoItem (inside s vr')))).1 ∙ at_end)
    moved stays'
sequence_first s tag vr declared items (open_fragments tag' vr' values' last') b contents others fo head inner apart (contents', others', fo', head', inner', more') =
    sequence_fragments (forms_same s _ _ _ _ _ _ b _ _ _ _ fo fo' head head')

-- nor is one whole fragment list
pub fragments_first : (s : Syntax) (tag : Tag) (vr : Vr) (values : List (List ℕ)) (o : OpenTree) (b contents others : List ℕ) → form s (read_as s tag vr) Undefined ≡ a_fragment_list
    → ElementHead s tag vr Undefined b contents → Enclosed s sequence_end_tag Undefined (FragmentsAt s values) contents others
    → SpellsOpen s o b → ⊥
unfolding SpellsOpen
fragments_first s tag vr values nothing_open b contents others fo head inner l = element_begins s _ _ _ b _ head (subst (NoElement s) (sym l) (at_end_NoElement s))
fragments_first s tag vr values (open_leaf tag' vr' size' value') b contents others fo head inner (fo', lt', head') =
    value_fragments (forms_same s _ _ _ _ _ _ b _ _ _ _ fo' fo head' head)
fragments_first s tag vr values (open_sequence tag' vr' declared' items' last') b contents others fo head inner (contents', others', fo', head', stays', inner', more') =
    sequence_fragments (forms_same s _ _ _ _ _ _ b _ _ _ _ fo' fo head' head)
fragments_first s tag vr values (open_fragments tag' vr' values' last') b contents others fo head inner (contents', others', fo', head', inner', more') =
    let h = element_same s tag tag' vr vr' Undefined Undefined b contents contents' head head' in
    enclosed_apart s sequence_end_tag (NoItem s) (at_end_NoItem s) (delimiter_NoItem s) Undefined (FragmentsAt s values) (is_some last') contents' others
    (λ q r nq held. fragments_apart s values values' last' contents' q others' r nq inner' more' held)
    (λ q r nq held. let at_end = closed_fragment_at_end s last' others' more' held in
    (fragments_same s values values' contents' q others' r inner' nq (subst (NoItem s) (sym at_end) (at_end_NoItem s))).1 ∙ at_end)
    (subst (λ (z : List ℕ). Enclosed s sequence_end_tag Undefined (FragmentsAt s values) z others) h.contents inner) tt

-- one whole item isn't an open one, where its trees are apart from trees that end in an open one
pub item_first : (s : Syntax) (declared : Length) (set : Trees) (last : OpenItem) (b contents others : List ℕ)
    → ItemHead s declared b contents → Enclosed s item_end_tag declared (TreesAt s set) contents others
    → ((y : Trees) (o : OpenTree) (b p c : List ℕ) → TreesAt s set b p → NoElement s p → TreesAt s y b c → SpellsOpen (after_trees s y) o c → is_open o ≡ true → ⊥)
    → SpellsOpenItem s last b → ⊥
unfolding SpellsOpen
item_first s declared set no_open_item b contents others head inner apart l = item_begins s _ b _ head (subst (NoItem s) (sym l) (at_end_NoItem s))
item_first s declared set (open_item declared' (front whole' open' reached' closed')) b contents others head inner apart (contents', head', stays', spelled') =
    let h = item_same s declared declared' b contents contents' head head' in
    let inner1 = subst (λ (z : Length). Enclosed s item_end_tag z (TreesAt s set) contents others) h.0 inner in
    let inner2 = subst (λ (z : List ℕ). Enclosed s item_end_tag declared' (TreesAt s set) z others) h.1 inner1 in
    enclosed_apart s item_end_tag (NoElement s) (at_end_NoElement s) (delimiter_NoElement s) declared' (TreesAt s set) (is_open open') contents' others
    (λ q r nq held. apart whole' open' contents' q spelled'.0 r nq spelled'.1 spelled'.2 held)
    (λ q r nq held. let at_end = closed_at_end (after_trees s whole') open' spelled'.0 spelled'.2 held in
    (trees_same s set whole' contents' q spelled'.0 r spelled'.1 nq (subst (NoElement s) (sym at_end) (at_end_NoElement s))).1 ∙ at_end)
    inner2 stays'

mutual
  unfolding TreesAt

  pub trees_apart : (s : Syntax) (x y : Trees) (o : OpenTree) (b p c : List ℕ) → TreesAt s x b p → NoElement s p → TreesAt s y b c → SpellsOpen (after_trees s y) o c → is_open o ≡ true → ⊥
  trees_apart s no_tree no_tree o b p c h np k l e = open_begins s o c l e (subst (NoElement s) (sym h ∙ k) np)
  trees_apart s no_tree (leaf tag vr value rest) o b p c h np (others, fo, head, more) l e = element_begins s _ _ _ b _ head (subst (NoElement s) (sym h) np)
  trees_apart s no_tree (sequence tag vr declared items rest) o b p c h np (contents, others, fo, head, inner, more) l e = element_begins s _ _ _ b _ head (subst (NoElement s) (sym h) np)
  trees_apart s no_tree (fragments tag vr values rest) o b p c h np (contents, others, fo, head, inner, more) l e = element_begins s _ _ _ b _ head (subst (NoElement s) (sym h) np)
  trees_apart s (leaf tag vr value rest) no_tree o b p c (others, fo, head, more) np k l e =
      leaf_first s tag vr value o b others fo head (subst (SpellsOpen s o) (sym k) l)
  trees_apart s (leaf tag vr value rest) (leaf tag' vr' value' rest') o b p c (others, fo, head, more) np (others', fo', head', more') l e =
      let h = leaf_same s tag tag' vr vr' value value' b others others' head head' in
      trees_apart (after s tag vr value) rest rest' o others p c more (none_after s tag vr value p np) (behind_same s tag tag' vr vr' value value' others others' c rest' h more') (open_behind_same s tag tag' vr vr' value value' others others' c rest' o h l) e
  trees_apart s (leaf tag vr value rest) (sequence tag' vr' declared' items' rest') o b p c (others, fo, head, more) np (contents', others', fo', head', inner', more') l e =
      value_sequence (forms_same s _ _ _ _ _ _ b _ _ _ _ fo fo' head head')
  trees_apart s (leaf tag vr value rest) (fragments tag' vr' values' rest') o b p c (others, fo, head, more) np (contents', others', fo', head', inner', more') l e =
      value_fragments (forms_same s _ _ _ _ _ _ b _ _ _ _ fo fo' head head')
  trees_apart s (sequence tag vr declared items rest) no_tree o b p c (contents, others, fo, head, inner, more) np k l e =
      sequence_first s tag vr declared items o b contents others fo head inner
      (λ s' y last b p c. items_apart s' items y last b p c) (subst (SpellsOpen s o) (sym k) l)
  trees_apart s (sequence tag vr declared items rest) (leaf tag' vr' value' rest') o b p c (contents, others, fo, head, inner, more) np (others', fo', head', more') l e =
      value_sequence (forms_same s _ _ _ _ _ _ b _ _ _ _ fo' fo head' head)
  trees_apart s (sequence tag vr declared items rest) (sequence tag' vr' declared' items' rest') o b p c (contents, others, fo, head, inner, more) np (contents', others', fo', head', inner', more') l e =
      let h = element_same s tag tag' vr vr' declared declared' b contents contents' head head' in
      let one = enclosed_same (inside s vr) sequence_end_tag (NoItem (inside s vr)) (at_end_NoItem (inside s vr)) (delimiter_NoItem (inside s vr)) declared
      (ItemsAt (inside s vr) items) (ItemsAt (inside s vr) items') (items ≡ items')
      (λ c e f r r' ne nf. items_same (inside s vr) items items' c e f r r' ne nf)
      contents others others' inner (enclosed_along s vr vr' declared declared' items' contents contents' others' h.vrs h.lengths h.contents inner') in
      trees_apart s rest rest' o others p c more np (subst (λ (z : List ℕ). TreesAt s rest' z c) (sym one.1) more') l e
  trees_apart s (sequence tag vr declared items rest) (fragments tag' vr' values' rest') o b p c (contents, others, fo, head, inner, more) np (contents', others', fo', head', inner', more') l e =
      sequence_fragments (forms_same s _ _ _ _ _ _ b _ _ _ _ fo fo' head head')
  trees_apart s (fragments tag vr values rest) no_tree o b p c (contents, others, fo, head, inner, more) np k l e =
      fragments_first s tag vr values o b contents others fo head inner (subst (SpellsOpen s o) (sym k) l)
  trees_apart s (fragments tag vr values rest) (leaf tag' vr' value' rest') o b p c (contents, others, fo, head, inner, more) np (others', fo', head', more') l e =
      value_fragments (forms_same s _ _ _ _ _ _ b _ _ _ _ fo' fo head' head)
  trees_apart s (fragments tag vr values rest) (sequence tag' vr' declared' items' rest') o b p c (contents, others, fo, head, inner, more) np (contents', others', fo', head', inner', more') l e =
      sequence_fragments (forms_same s _ _ _ _ _ _ b _ _ _ _ fo' fo head' head)
  trees_apart s (fragments tag vr values rest) (fragments tag' vr' values' rest') o b p c (contents, others, fo, head, inner, more) np (contents', others', fo', head', inner', more') l e =
      let h = element_same s tag tag' vr vr' Undefined Undefined b contents contents' head head' in
      let one = enclosed_same s sequence_end_tag (NoItem s) (at_end_NoItem s) (delimiter_NoItem s) Undefined
      (FragmentsAt s values) (FragmentsAt s values') (values ≡ values')
      (λ c e f r r' ne nf. fragments_same s values values' c e f r r' ne nf)
      contents others others' inner (subst (λ (z : List ℕ). Enclosed s sequence_end_tag Undefined (FragmentsAt s values') z others') (sym h.contents) inner') in
      trees_apart s rest rest' o others p c more np (subst (λ (z : List ℕ). TreesAt s rest' z c) (sym one.1) more') l e

  pub items_apart : (s : Syntax) (x y : Items) (o : OpenItem) (b p c : List ℕ) → ItemsAt s x b p → NoItem s p → ItemsAt s y b c → SpellsOpenItem s o c → is_open_item o ≡ true → ⊥
  items_apart s no_item no_item o b p c h np k l e = open_item_begins s o c l e (subst (NoItem s) (sym h ∙ k) np)
  items_apart s no_item (item declared set rest) o b p c h np (contents, others, head, inner, more) l e = item_begins s _ b _ head (subst (NoItem s) (sym h) np)
  items_apart s (item declared set rest) no_item o b p c (contents, others, head, inner, more) np k l e =
      item_first s declared set o b contents others head inner
      (λ y o b p c. trees_apart s set y o b p c) (subst (SpellsOpenItem s o) (sym k) l)
  items_apart s (item declared set rest) (item declared' set' rest') o b p c (contents, others, head, inner, more) np (contents', others', head', inner', more') l e =
      let h = item_same s declared declared' b contents contents' head head' in
      let inner1 = subst (λ (z : Length). Enclosed s item_end_tag z (TreesAt s set') contents' others') (sym h.0) inner' in
      let inner2 = subst (λ (z : List ℕ). Enclosed s item_end_tag declared (TreesAt s set') z others') (sym h.1) inner1 in
      let one = enclosed_same s item_end_tag (NoElement s) (at_end_NoElement s) (delimiter_NoElement s) declared
      (TreesAt s set) (TreesAt s set') (set ≡ set')
      (λ c e f r r' ne nf. trees_same s set set' c e f r r' ne nf)
      contents others others' inner inner2 in
      items_apart s rest rest' o others p c more np (subst (λ (z : List ℕ). ItemsAt s rest' z c) (sym one.1) more') l e
