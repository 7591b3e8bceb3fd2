-- Bytes begin with one list of whole trees, and with one list of whole items.
use Rattle.std.proofs.Common.{◌≡◌, ℕ, List, [], ◌∷◌, ◌++◌, length, take, drop, refl, sym, ap, ◌∙◌, subst, arith}
use Rattle.std.proofs.lemmas.List.{take_at, drop_at}
use Rattle.dcm_base.specs.declared.tag.Tag.{Tag}
use Rattle.dcm_base.specs.declared.vr.Vr.{Vr}
use Rattle.dcm_base.specs.declared.syntax.Syntax.{Syntax}
use Rattle.dcm_base.specs.declared.length.Length.{Length}
use Rattle.dcm_base.specs.declared.length.Length.TheVariants.{Known, Undefined}
use Rattle.dcm_base.specs.Tree.Tree.{Trees, no_tree, leaf, sequence, fragments, Items, no_item, item}
use Rattle.dcm_base.specs.Bytes.Head.{ElementHead, Delimiter}
use Rattle.dcm_base.specs.Tables.Tag.{item_end_tag, sequence_end_tag}
use Rattle.dcm_base.specs.Tree.Value.{order}
use Rattle.dcm_base.specs.Bytes.Spelling.{Form, a_value, a_sequence, a_fragment_list, form, inside, Enclosed, FragmentsAt, TreesAt, ItemsAt, after, read_as}
use Rattle.dcm_base.proofs.DataSets.Heads.{known_same, element_same, item_same, delimiter_same, NoElement, NoItem, element_begins, item_begins}
use Rattle.dcm_base.proofs.DataSets.After.{none_after, behind_same}
use Rattle.dcm_base.proofs.Conversions.Order.{length-order, order_same}

pub append_same : (a b x y : List ℕ) → length a ≡ length b → a ++ x ≡ b ++ y → (a ≡ b) × (x ≡ y)
append_same a b x y len e = (
  sym (take_at a x (length b) len) ∙ ap (take (length b)) e ∙ take_at b y (length b) refl,
  sym (drop_at a x (length b) len) ∙ ap (drop (length b)) e ∙ drop_at b y (length b) refl,
)

-- ---- what ends a list

pub at_end_NoElement : (s : Syntax) → NoElement s []
at_end_NoElement s le = absurd (omega arith)

pub at_end_NoItem : (s : Syntax) → NoItem s []
at_end_NoItem s le = absurd (omega arith)

pub delimiter_NoElement : (s : Syntax) (d e : List ℕ) → Delimiter s item_end_tag d e → NoElement s d
delimiter_NoElement s d e p le = ap (λ (t : Tag). t.group) (sym p.tag_is)

pub delimiter_NoItem : (s : Syntax) (d e : List ℕ) → Delimiter s sequence_end_tag d e → NoItem s d
delimiter_NoItem s d e p le same =
    let wrong : 0xE0DD ≡ 0xE000 = ap (λ (t : Tag). t.element) (p.tag_is ∙ same) in
    absurd (omega (arith, wrong))

-- ---- one form

pub form_differs : (s : Syntax) (t u : Tag) (v w : Vr) (l m : Length) (f g : Form) → form s (read_as s t v) l ≡ f → form s (read_as s u w) m ≡ g → t ≡ u → v ≡ w → l ≡ m → f ≡ g
form_differs s t u v w l m f g p q tags vrs lengths =
    sym p ∙ ap (λ (x : Tag). form s (read_as s x v) l) tags ∙ ap (λ (x : Vr). form s (read_as s u x) l) vrs ∙ ap (λ (x : Length). form s (read_as s u w) x) lengths ∙ q

-- ---- what a declared length encloses

pub enclosed_same : (s : Syntax) (end_tag : Tag) (Stop : List ℕ → Type 0) → Stop [] → ((d e : List ℕ) → Delimiter s end_tag d e → Stop d)
    → (declared : Length) (R Q : List ℕ → List ℕ → Type 0) (P : Type 0)
    → ((b p q : List ℕ) → R b p → Q b q → Stop p → Stop q → P × (p ≡ q))
    → (c e f : List ℕ) → Enclosed s end_tag declared R c e → Enclosed s end_tag declared Q c f → P × (e ≡ f)
enclosed_same s end_tag Stop nil delim (Known size) R Q P one c e f (i, ci, li, r) (j, cj, lj, q) =
    let both = append_same i j e f (li ∙ sym lj) (sym ci ∙ cj) in
    let r' : R j [] = subst (λ (x : List ℕ). R x []) both.0 r in
    ((one j [] [] r' q nil nil).0, both.1)
enclosed_same s end_tag Stop nil delim Undefined R Q P one c e f (d, r, x) (d', q, y) =
    let both = one c d d' r q (delim d e x) (delim d' f y) in
    let x' : Delimiter s end_tag d' e = subst (λ (z : List ℕ). Delimiter s end_tag z e) both.1 x in
    (both.0, delimiter_same s end_tag d' e f x' y)

-- ---- fragments

pub fragments_same : (s : Syntax) (vs ws : List (List ℕ)) (b p q : List ℕ) → FragmentsAt s vs b p → FragmentsAt s ws b q → NoItem s p → NoItem s q → (vs ≡ ws) × (p ≡ q)
unfolding FragmentsAt
fragments_same s [] [] b p q x y np nq = (refl, sym x ∙ y)
fragments_same s [] (w ∷ ws) b p q x y np nq = absurd (item_begins s _ b _ y.1 (subst (NoItem s) (sym x) np))
fragments_same s (v ∷ vs) [] b p q x y np nq = absurd (item_begins s _ b _ x.1 (subst (NoItem s) (sym y) nq))
fragments_same s (v ∷ vs) (w ∷ ws) b p q (others, head, more) (others', head', more') np nq =
    let h = item_same s (Known (length v)) (Known (length w)) b (v ++ others) (w ++ others') head head' in
    let both = append_same v w others others' (known_same _ _ h.0) h.1 in
    let more'' : FragmentsAt s vs others' p = subst (λ (z : List ℕ). FragmentsAt s vs z p) both.1 more in
    let ih = fragments_same s vs ws others' p q more'' more' np nq in
    (cc, ih.1)

-- ---- one tree

pub forms_same : (s : Syntax) (t u : Tag) (v w : Vr) (l m : Length) (b c d : List ℕ) (f g : Form) → form s (read_as s t v) l ≡ f → form s (read_as s u w) m ≡ g → ElementHead s t v l b c → ElementHead s u w m b d → f ≡ g
forms_same s t u v w l m b c d f g p q x y =
    let h = element_same s t u v w l m b c d x y in
    form_differs s t u v w l m f g p q h.tags h.vrs h.lengths

pub value_sequence : a_value ≡ a_sequence → ⊥
value_sequence e = cc

pub value_fragments : a_value ≡ a_fragment_list → ⊥
value_fragments e = cc

pub sequence_fragments : a_sequence ≡ a_fragment_list → ⊥
sequence_fragments e = cc

pub leaf_same : (s : Syntax) (t u : Tag) (v w : Vr) (x y : List ℕ) (b c d : List ℕ)
    → ElementHead s t v (Known (length x)) b (order s v x ++ c) → ElementHead s u w (Known (length y)) b (order s w y ++ d)
    → (t ≡ u) × (v ≡ w) × (x ≡ y) × (c ≡ d)
leaf_same s t u v w x y b c d p q =
    let h = element_same s t u v w (Known (length x)) (Known (length y)) b (order s v x ++ c) (order s w y ++ d) p q in
    let len : length x ≡ length y = known_same _ _ h.lengths in
    let both = append_same (order s v x) (order s w y) c d (length-order s v x ∙ len ∙ sym (length-order s w y)) h.contents in
    (h.tags, h.vrs, order_same s v x y (both.0 ∙ ap (λ (z : Vr). order s z y) (sym h.vrs)), both.1)

-- an enclosed sequence at the other names of its head
pub enclosed_along : (s : Syntax) (v w : Vr) (l m : Length) (items : Items) (c d e : List ℕ) → v ≡ w → l ≡ m → c ≡ d
    → Enclosed (inside s w) sequence_end_tag m (ItemsAt (inside s w) items) d e → Enclosed (inside s v) sequence_end_tag l (ItemsAt (inside s v) items) c e
enclosed_along s v w l m items c d e vrs lengths contents x =
    let x1 = subst (λ (z : Vr). Enclosed (inside s z) sequence_end_tag m (ItemsAt (inside s z) items) d e) (sym vrs) x in
    let x2 = subst (λ (z : Length). Enclosed (inside s v) sequence_end_tag z (ItemsAt (inside s v) items) d e) (sym lengths) x1 in
    subst (λ (z : List ℕ). Enclosed (inside s v) sequence_end_tag l (ItemsAt (inside s v) items) z e) (sym contents) x2

mutual
  unfolding TreesAt

  pub trees_same : (s : Syntax) (x y : Trees) (b p q : List ℕ) → TreesAt s x b p → TreesAt s y b q → NoElement s p → NoElement s q → (x ≡ y) × (p ≡ q)
  trees_same s no_tree no_tree b p q h k np nq = (refl, sym h ∙ k)
  trees_same s no_tree (leaf tag vr value rest) b p q h (others, fo, head, more) np nq = absurd (element_begins s _ _ _ b _ head (subst (NoElement s) (sym h) np))
  trees_same s no_tree (sequence tag vr declared items rest) b p q h (contents, others, fo, head, inner, more) np nq = absurd (element_begins s _ _ _ b _ head (subst (NoElement s) (sym h) np))
  trees_same s no_tree (fragments tag vr values rest) b p q h (contents, others, fo, head, inner, more) np nq = absurd (element_begins s _ _ _ b _ head (subst (NoElement s) (sym h) np))
  trees_same s (leaf tag vr value rest) no_tree b p q (others, fo, head, more) k np nq = absurd (element_begins s _ _ _ b _ head (subst (NoElement s) (sym k) nq))
  trees_same s (sequence tag vr declared items rest) no_tree b p q (contents, others, fo, head, inner, more) k np nq = absurd (element_begins s _ _ _ b _ head (subst (NoElement s) (sym k) nq))
  trees_same s (fragments tag vr values rest) no_tree b p q (contents, others, fo, head, inner, more) k np nq = absurd (element_begins s _ _ _ b _ head (subst (NoElement s) (sym k) nq))
  trees_same s (leaf tag vr value rest) (leaf tag' vr' value' rest') b p q (others, fo, head, more) (others', fo', head', more') np nq =
      let h = leaf_same s tag tag' vr vr' value value' b others others' head head' in
      let h0 = h.0 in
      let h1 = h.1 in
      let h2 = h.2 in
      let ih = trees_same (after s tag vr value) rest rest' others p q more (behind_same s tag tag' vr vr' value value' others others' q rest' h more') (none_after s tag vr value p np) (none_after s tag vr value q nq) in
      let ih0 = ih.0 in
      (cc, ih.1)
  trees_same s (leaf tag vr value rest) (sequence tag' vr' declared' items' rest') b p q (others, fo, head, more) (contents', others', fo', head', inner', more') np nq =
      absurd (value_sequence (forms_same s _ _ _ _ _ _ b _ _ _ _ fo fo' head head'))
  trees_same s (leaf tag vr value rest) (fragments tag' vr' values' rest') b p q (others, fo, head, more) (contents', others', fo', head', inner', more') np nq =
      absurd (value_fragments (forms_same s _ _ _ _ _ _ b _ _ _ _ fo fo' head head'))
  trees_same s (sequence tag vr declared items rest) (leaf tag' vr' value' rest') b p q (contents, others, fo, head, inner, more) (others', fo', head', more') np nq =
      absurd (value_sequence (forms_same s _ _ _ _ _ _ b _ _ _ _ fo' fo head' head))
  trees_same s (sequence tag vr declared items rest) (sequence tag' vr' declared' items' rest') b p q (contents, others, fo, head, inner, more) (contents', others', fo', head', inner', more') np nq =
      let h = element_same s tag tag' vr vr' declared declared' b contents contents' head head' in
      let h0 = h.tags in
      let h1 = h.vrs in
      let h2 = h.lengths in
      let one = enclosed_same (inside s vr) sequence_end_tag (NoItem (inside s vr)) (at_end_NoItem (inside s vr)) (delimiter_NoItem (inside s vr)) declared
      (ItemsAt (inside s vr) items) (ItemsAt (inside s vr) items') (items ≡ items')
      (λ c e f r r' ne nf. items_same (inside s vr) items items' c e f r r' ne nf)
      contents others others' inner (enclosed_along s vr vr' declared declared' items' contents contents' others' h.vrs h.lengths h.contents inner') in
      let h3 = one.0 in
      let ih = trees_same s rest rest' others p q more (subst (λ (z : List ℕ). TreesAt s rest' z q) (sym one.1) more') np nq in
      let ih0 = ih.0 in
      (cc, ih.1)
  trees_same s (sequence tag vr declared items rest) (fragments tag' vr' values' rest') b p q (contents, others, fo, head, inner, more) (contents', others', fo', head', inner', more') np nq =
      absurd (sequence_fragments (forms_same s _ _ _ _ _ _ b _ _ _ _ fo fo' head head'))
  trees_same s (fragments tag vr values rest) (leaf tag' vr' value' rest') b p q (contents, others, fo, head, inner, more) (others', fo', head', more') np nq =
      absurd (value_fragments (forms_same s _ _ _ _ _ _ b _ _ _ _ fo' fo head' head))
  trees_same s (fragments tag vr values rest) (sequence tag' vr' declared' items' rest') b p q (contents, others, fo, head, inner, more) (contents', others', fo', head', inner', more') np nq =
      absurd (sequence_fragments (forms_same s _ _ _ _ _ _ b _ _ _ _ fo' fo head' head))
  trees_same s (fragments tag vr values rest) (fragments tag' vr' values' rest') b p q (contents, others, fo, head, inner, more) (contents', others', fo', head', inner', more') np nq =
      let h = element_same s tag tag' vr vr' Undefined Undefined b contents contents' head head' in
      let h0 = h.tags in
      let h1 = h.vrs in
      let one = enclosed_same s sequence_end_tag (NoItem s) (at_end_NoItem s) (delimiter_NoItem s) Undefined
      (FragmentsAt s values) (FragmentsAt s values') (values ≡ values')
      (λ c e f r r' ne nf. fragments_same s values values' c e f r r' ne nf)
      contents others others' inner (subst (λ (z : List ℕ). Enclosed s sequence_end_tag Undefined (FragmentsAt s values') z others') (sym h.contents) inner') in
      let h3 = one.0 in
      let ih = trees_same s rest rest' others p q more (subst (λ (z : List ℕ). TreesAt s rest' z q) (sym one.1) more') np nq in
      let ih0 = ih.0 in
      (cc, ih.1)

  pub items_same : (s : Syntax) (x y : Items) (b p q : List ℕ) → ItemsAt s x b p → ItemsAt s y b q → NoItem s p → NoItem s q → (x ≡ y) × (p ≡ q)
  items_same s no_item no_item b p q h k np nq = (refl, sym h ∙ k)
  items_same s no_item (item declared set rest) b p q h (contents, others, head, inner, more) np nq = absurd (item_begins s _ b _ head (subst (NoItem s) (sym h) np))
  items_same s (item declared set rest) no_item b p q (contents, others, head, inner, more) k np nq = absurd (item_begins s _ b _ head (subst (NoItem s) (sym k) nq))
  items_same s (item declared set rest) (item declared' set' rest') b p q (contents, others, head, inner, more) (contents', others', head', inner', more') np nq =
      let h = item_same s declared declared' b contents contents' head head' in
      let h0 = h.0 in
      let inner1 = subst (λ (z : Length). Enclosed s item_end_tag z (TreesAt s set') contents' others') (sym h.0) inner' in
      let inner2 = subst (λ (z : List ℕ). Enclosed s item_end_tag declared (TreesAt s set') z others') (sym h.1) inner1 in
      let one = enclosed_same s item_end_tag (NoElement s) (at_end_NoElement s) (delimiter_NoElement s) declared
      (TreesAt s set) (TreesAt s set') (set ≡ set')
      (λ c e f r r' ne nf. trees_same s set set' c e f r r' ne nf)
      contents others others' inner inner2 in
      let h3 = one.0 in
      let ih = items_same s rest rest' others p q more (subst (λ (z : List ℕ). ItemsAt s rest' z q) (sym one.1) more') np nq in
      let ih0 = ih.0 in
      (cc, ih.1)
