-- Edits that have done what they do write the same again, of the data set and of its normal form.
use Rattle.std.proofs.Common.{◌≡◌, ℕ, zero, suc, ◌≤◌, List, [], ◌∷◌, length, map, Option, Some, None, Bool, true, false, Ok, refl, sym, ◌∙◌, ap, subst, append-nil}
use Rattle.std.specs.Prelude.{if◌then◌else◌, not, ◌||◌, ◌==◌}
use Rattle.dcm_lemmas.proofs.Truth.{or_true}
use Rattle.dcm_base.specs.declared.tag.Tag.{Tag}
use Rattle.dcm_base.specs.declared.vr.Vr.{Vr}
use Rattle.dcm_base.specs.declared.syntax.Syntax.{Syntax}
use Rattle.dcm_base.specs.declared.length.Length.{Length}
use Rattle.dcm_base.specs.declared.length.Length.TheVariants.{Undefined}
use Rattle.dcm_base.specs.Tables.Tag.{below, same_tag}
use Rattle.dcm_base.specs.Tables.Number.{AreBytes}
use Rattle.dcm_base.specs.Tree.Tree.{Trees, no_tree, leaf, sequence, fragments, Items, no_item, item}
use Rattle.dcm_base.specs.Tree.Front.{Front, front, nothing_open}
use Rattle.dcm_base.specs.Tree.Value.{evened}
use Rattle.dcm_base.specs.Reading.Stop.{complete}
use Rattle.dcm_base.specs.Reading.Bars.{ascending_bar}
use Rattle.dcm_base.specs.Reading.Reads.{INPUT_LIMIT, Reads}
use Rattle.dcm_base.specs.Conversion.Recode.{recode, recode_set}
use Rattle.dcm_base.specs.Conversion.Normal.{normal_vr, normal_sequence_vr, normal_value, normal, normal_items, normal_front, UnlessGroupLength}
use Rattle.dcm_base.specs.Bytes.Spelling.{last_tag, after, dictionary_after}
use Rattle.dcm_base.proofs.Conversions.NormalForm.{recodes_normal, normal_once, dropped_own, own_dictionary, leaf_once, items_alike}
use Rattle.dcm_base.proofs.Dictionaries.TagOrder.{same_tag_self, tag_is}
use Rattle.dcm_base.specs.Tables.Syntax.{dictionary_of, read_by}
use Rattle.dcm_edits.specs.Edit.{number, every, step, insert, modify, erase, erase_item, Edit, on_path, modify_all, erase_all, erase_private, elsewhere, within, Fate, stays, becomes, goes, fate, settled, erases, has, put, NewElement, no_element, new_leaf, new_sequence, before, new_element, element_of, with_new, is_passed, with_new_so_far, changed, changed_items, edited_set, edited_sets, edited_by, edited}
use Rattle.dcm_edits.specs.EditWords.{meant_edits_in}
use Rattle.dcm_edits.specs.Overlap.{AreApart, ArePublic}
use Rattle.dcm_editor_laws.specs.Repeating.{EraseByNoNumber}
use Rattle.dcm_edits.proofs.Trees.Laws.{chosen, then_trees-none}
use Rattle.dcm_edits.proofs.Words.EditWordLemmas.{edits_are_apart}
use Rattle.dcm_editor_laws.proofs.ReadBack.EditedReads.{front_whole}
use Rattle.dcm_editor_laws.proofs.ReadBack.TwiceDone.{LeafDone, IsThere, Done, ItemsDone, SetDone}
use Rattle.dcm_editor_laws.proofs.ReadBack.TwiceKept.{OfTag, of_around, IsNotErased, as_it_stays, there_changed, AllDone, all_done, all_keep}
use Rattle.dcm_base.specs.declared.dictionary.Dictionary.{Dictionary}
use Rattle.dcm_base.specs.declared.syntax.Syntax.TheVariants.{Implicit as implicit_in, Little as little_in, Big as big_in}
use Rattle.dcm_base.proofs.DataSets.After.{after_same}

-- ---- tests

if_alike : (b : Bool) (x y p q : Trees) → (b ≡ true → x ≡ p) → (b ≡ false → y ≡ q) → (if b then x else y) ≡ (if b then p else q)
if_alike true x y p q h k = h refl
if_alike false x y p q h k = k refl

if_either : (b : Bool) (x p q : Trees) → (b ≡ true → x ≡ p) → (b ≡ false → x ≡ q) → x ≡ (if b then p else q)
if_either true x p q h k = h refl
if_either false x p q h k = k refl

leaves_alike : (t : Tag) (v w : Vr) (x y : List ℕ) (a b : Trees) → v ≡ w → x ≡ y → a ≡ b → leaf t v x a ≡ leaf t w y b
leaves_alike t v w x y a b p q r = cc

lists_alike : (t : Tag) (vr : Vr) (i j : Items) (a b : Trees) → i ≡ j → a ≡ b → sequence t vr Undefined i a ≡ sequence t vr Undefined j b
lists_alike t vr i j a b p q = cc

-- what is done is done by each dictionary
pub done_by : (e : Dictionary) (s : Syntax) (t : Tag) (vr : Vr) (v : List ℕ) (f : Fate) → LeafDone s t vr v f → LeafDone (read_by e s) t vr v f
done_by e s t vr v stays h = tt
done_by e (implicit_in d) t vr v (becomes w x) h = (refl, h.1)
done_by e (little_in d) t vr v (becomes w x) h = h
done_by e (big_in d) t vr v (becomes w x) h = h
done_by e s t vr v goes h = h

mutual
  pub all_done_by : (d : Dictionary) (s : Syntax) (e : Edit) (x : Trees) → Done s e x → Done (read_by d s) e x
  all_done_by d s e no_tree h = tt
  all_done_by d s e (leaf t vr v rest) h = (λ g. done_by d s t vr v (fate e t) (h.0 g), all_done_by d s e rest h.1)
  all_done_by d s e (sequence t vr declared items rest) h = (λ g. ((h.0 g).0, items_done_by d s e t 0 items (h.0 g).1), all_done_by d s e rest h.1)
  all_done_by d s e (fragments t vr values rest) h = (h.0, all_done_by d s e rest h.1)

  items_done_by : (d : Dictionary) (s : Syntax) (e : Edit) (t : Tag) (n : ℕ) (x : Items) → ItemsDone s e t n x → ItemsDone (read_by d s) e t n x
  items_done_by d s e t n no_item h = tt
  items_done_by d s e t n (item declared set rest) h = (h.0, all_done_by d s (within e t n) set h.1, h.2, items_done_by d s e t (suc n) rest h.3)

-- so they are after a leaf
done_after : (s : Syntax) (t : Tag) (vr : Vr) (v : List ℕ) (e : Edit) (x : Trees) → Done s e x → Done (after s t vr v) e x
done_after s t vr v e x h = all_done_by (dictionary_after (dictionary_of s) t vr v) s e x h

-- the dictionary of the syntax, and back
own : (d : Dictionary) (s : Syntax) → read_by (dictionary_of s) (read_by d s) ≡ s
own d (implicit_in e) = refl
own d (little_in e) = refl
own d (big_in e) = refl

-- after a leaf whose length is not written
dropped_after : (s : Syntax) (t : Tag) (vr : Vr) (v : List ℕ) (x : Trees) → (t.element == 0) ≡ true → normal (after s t vr v) x ≡ normal s x
dropped_after s t vr v x g = ap (λ (k : Syntax). normal k x) (dropped_own s t vr v g)

-- ---- an edit that is done leaves the normal form

-- of a leaf
abbrev vr_of : Syntax → Tag → Vr → List ℕ → Vr
vr_of s t vr v = normal_vr s t vr (length v)

abbrev later : Syntax → Tag → Vr → List ℕ → Syntax
later s t vr v = after s t (vr_of s t vr v) (normal_value s t vr v)

later_same : (s : Syntax) (t : Tag) (vr w : Vr) (v x : List ℕ) → (vr_of s t w x ≡ vr_of s t vr v) → (normal_value s t w x ≡ normal_value s t vr v) → later s t w x ≡ later s t vr v
later_same s t vr w v x p q = after_same s t t _ _ _ _ [] [] (refl, p, q, refl)

leaf_same : (s : Syntax) (t : Tag) (vr : Vr) (v : List ℕ) (rest more : Trees) (f : Fate) → UnlessGroupLength t (LeafDone s t vr v f) → ((k : Dictionary) → normal (read_by k s) more ≡ normal (read_by k s) rest)
    → normal s (settled f t (leaf t vr v) more) ≡ normal s (leaf t vr v rest)
unfolding normal
leaf_same s t vr v rest more stays h e =
    if_alike (t.element == 0) _ _ _ _ (λ g. e (dictionary_after (dictionary_of s) t (vr_of s t vr v) (normal_value s t vr v)))
    (λ g. leaves_alike t _ _ _ _ _ _ refl refl (e (dictionary_after (dictionary_of s) t (vr_of s t vr v) (normal_value s t vr v))))
leaf_same s t vr v rest more (becomes w x) h e =
    if_alike (t.element == 0) _ _ _ _
    (λ g. dropped_after s t (vr_of s t w x) (normal_value s t w x) more g ∙ here ∙ sym (dropped_after s t (vr_of s t vr v) (normal_value s t vr v) rest g))
    (λ g. leaves_alike t _ _ _ _ _ _ (h g).0 (h g).1 (e (dictionary_after (dictionary_of s) t (vr_of s t w x) (normal_value s t w x)) ∙ ap (λ (k : Syntax). normal k rest) (later_same s t vr w v x (h g).0 (h g).1)))
  where
    here : normal s more ≡ normal s rest
    here = subst (λ (k : Syntax). normal k more ≡ normal k rest) (own_dictionary s) (e (dictionary_of s))
leaf_same s t vr v rest more goes h e =
    if_either (t.element == 0) _ _ _ (λ g. here ∙ sym (dropped_after s t (vr_of s t vr v) (normal_value s t vr v) rest g)) (λ g. absurd (h g))
  where
    here : normal s more ≡ normal s rest
    here = subst (λ (k : Syntax). normal k more ≡ normal k rest) (own_dictionary s) (e (dictionary_of s))

sequence_same : (s : Syntax) (t : Tag) (vr : Vr) (declared : Length) (i j : Items) (rest more : Trees) (f : Fate) → UnlessGroupLength t ((f ≡ stays) × (normal_items s j ≡ normal_items s i)) → normal s more ≡ normal s rest
    → normal s (settled f t (sequence t vr declared j) more) ≡ normal s (sequence t vr declared i rest)
unfolding normal
sequence_same s t vr declared i j rest more stays h e = if_alike (t.element == 0) _ _ _ _ (λ g. e) (λ g. lists_alike t _ _ _ _ _ (h g).1 e)
sequence_same s t vr declared i j rest more (becomes w x) h e = if_alike (t.element == 0) _ _ _ _ (λ g. dropped_after s t (vr_of s t w x) (normal_value s t w x) more g ∙ e) (λ g. absurd (let is = (h g).0 in cc))
sequence_same s t vr declared i j rest more goes h e = if_either (t.element == 0) _ _ _ (λ g. e) (λ g. absurd (let is = (h g).0 in cc))

fragments_same : (s : Syntax) (t : Tag) (vr : Vr) (values : List (List ℕ)) (rest more : Trees) (f : Fate) → UnlessGroupLength t (f ≡ stays) → normal s more ≡ normal s rest
    → normal s (settled f t (fragments t vr values) more) ≡ normal s (fragments t vr values rest)
unfolding normal
fragments_same s t vr values rest more stays h e = if_alike (t.element == 0) _ _ _ _ (λ g. e) (λ g. ap (fragments t vr (map (evened 0) values)) e)
fragments_same s t vr values rest more (becomes w x) h e = if_alike (t.element == 0) _ _ _ _ (λ g. dropped_after s t (vr_of s t w x) (normal_value s t w x) more g ∙ e) (λ g. absurd (let is = h g in cc))
fragments_same s t vr values rest more goes h e = if_either (t.element == 0) _ _ _ (λ g. e) (λ g. absurd (let is = h g in cc))

-- a new group length is not written
drops : (s : Syntax) (t : Tag) (tree : Trees → Trees) (y : Trees) (rest : Trees) → y ≡ normal s rest → (t.element == 0) ≡ true → (if t.element == 0 then y else tree y) ≡ normal s rest
drops s t tree y rest e g = ap (λ (b : Bool). if b then y else tree y) g ∙ e

put_same : (s : Syntax) (t : Tag) (x : NewElement) (set : Trees) → ((k : Syntax) (rest : Trees) → normal k (before x rest) ≡ normal k rest) → normal s (put t x set) ≡ normal s set
unfolding normal
put_same s t x no_tree h = h s no_tree
put_same s t x (leaf u vr v rest) h =
    let k : Syntax = later s u vr v in
    chosen (λ (y : Trees). normal s y ≡ normal s (leaf u vr v rest)) (below t u) _ _ (λ p. h s _)
    (λ p. if_alike (u.element == 0) _ _ _ _ (λ g. put_same k t x rest h) (λ g. ap (leaf u (normal_vr s u vr (length v)) (normal_value s u vr v)) (put_same k t x rest h)))
put_same s t x (sequence u vr declared items rest) h =
    chosen (λ (y : Trees). normal s y ≡ normal s (sequence u vr declared items rest)) (below t u) _ _ (λ p. h s _)
    (λ p. if_alike (u.element == 0) _ _ _ _ (λ g. put_same s t x rest h) (λ g. ap (sequence u (normal_sequence_vr s u) Undefined (normal_items s items)) (put_same s t x rest h)))
put_same s t x (fragments u vr values rest) h =
    chosen (λ (y : Trees). normal s y ≡ normal s (fragments u vr values rest)) (below t u) _ _ (λ p. h s _)
    (λ p. if_alike (u.element == 0) _ _ _ _ (λ g. put_same s t x rest h) (λ g. ap (fragments u vr (map (evened 0) values)) (put_same s t x rest h)))

-- it is there, or a group length
put_unless : (s : Syntax) (t : Tag) (x : NewElement) (set : Trees) (c : Bool) → (t.element == 0) ≡ c → UnlessGroupLength t (has t set ≡ true) → has t set ≡ false
    → ((t.element == 0) ≡ true → (k : Syntax) (rest : Trees) → normal k (before x rest) ≡ normal k rest) → normal s (put t x set) ≡ normal s set
put_unless s t x set true g there out h = put_same s t x set (h g)
put_unless s t x set false g there out h = absurd (let is : has t set ≡ true = there g in cc)

with_same : (s : Syntax) (x : NewElement) (set : Trees) → IsThere x set → normal s (with_new x set) ≡ normal s set
unfolding normal
with_same s no_element set h = refl
with_same s (new_leaf t vr v) set h =
    chosen (λ (y : Trees). normal s y ≡ normal s set) (has t set) _ _ (λ p. refl)
    (λ p. put_unless s t (new_leaf t vr v) set (t.element == 0) refl h p (λ g k rest. drops k t (leaf t (vr_of k t vr v) (normal_value k t vr v)) (normal (later k t vr v) rest) rest (dropped_after k t (vr_of k t vr v) (normal_value k t vr v) rest g) g))
with_same s (new_sequence t held) set h =
    chosen (λ (y : Trees). normal s y ≡ normal s set) (has t set) _ _ (λ p. refl)
    (λ p. put_unless s t (new_sequence t held) set (t.element == 0) refl h p
    (λ g k rest. drops k t (sequence t (normal_sequence_vr k t) Undefined (normal_items k (item Undefined held no_item))) (normal k rest) rest refl g))

-- an edit does not erase its own element
own_stays : (t : Tag) (vr : Vr) (v : List ℕ) → IsNotErased (on_path (insert t vr v)) t
own_stays t vr v h = absurd (let is : becomes vr v ≡ goes = ap (λ (c : Bool). if c then becomes vr v else stays) (sym (same_tag_self t)) ∙ h in cc)

of_own : (e : Edit) → OfTag (IsNotErased e) (element_of e)
of_own (on_path (insert t vr v)) = own_stays t vr v
of_own (on_path (step t (number zero) p)) = of_around (IsNotErased (on_path (step t (number zero) p))) t (new_element p) (as_it_stays (on_path (step t (number zero) p)) t refl)
of_own (on_path (step t (number (suc n)) p)) = tt
of_own (on_path (step t every p)) = tt
of_own (on_path (modify t vr v)) = tt
of_own (on_path (erase t)) = tt
of_own (on_path (erase_item t index)) = tt
of_own (modify_all t vr v) = tt
of_own (erase_all t) = tt
of_own erase_private = tt
of_own elsewhere = tt

kept_item : (s : Syntax) (b : Bool) (x y z : Items) → b ≡ false → normal_items s y ≡ z → normal_items s (if b then x else y) ≡ z
kept_item s true x y z e h = absurd (cc)
kept_item s false x y z e h = h

mutual
  unfolding normal

  changed_same : (s : Syntax) (e : Edit) (set : Trees) → Done s e set → normal s (changed e set) ≡ normal s set
  changed_same s e no_tree d = refl
  changed_same s e (leaf t vr v rest) d = leaf_same s t vr v rest (changed e rest) (fate e t) d.0 (λ k. changed_same (read_by k s) e rest (all_done_by k s e rest d.1))
  changed_same s e (sequence t vr declared items rest) d =
      sequence_same s t vr declared items (changed_items e t 0 items) rest (changed e rest) (fate e t) (λ g. ((d.0 g).0, items_same s e t 0 items (d.0 g).1)) (changed_same s e rest d.1)
  changed_same s e (fragments t vr values rest) d = fragments_same s t vr values rest (changed e rest) (fate e t) d.0 (changed_same s e rest d.1)

  items_same : (s : Syntax) (e : Edit) (t : Tag) (n : ℕ) (items : Items) → ItemsDone s e t n items → normal_items s (changed_items e t n items) ≡ normal_items s items
  items_same s e t n no_item d = refl
  items_same s e t n (item declared set rest) d =
      let inner : Edit = within e t n in
      kept_item s (erases e t n) _ _ _ d.0
      (items_alike _ _ _ _ (with_same s (element_of inner) (changed inner set) (there_changed (element_of inner) inner set (of_own inner) d.2) ∙ changed_same s inner set d.1) (items_same s e t (suc n) rest d.3))

edit_same : (s : Syntax) (e : Edit) (set : Trees) → SetDone s e set → normal s (edited_set e set) ≡ normal s set
edit_same s e set d = with_same s (element_of e) (changed e set) (there_changed (element_of e) e set (of_own e) d.1) ∙ changed_same s e set d.0

module _ (s : Syntax) where
  edits_same : (es : List Edit) (set : Trees) → AreApart es → ArePublic es → EraseByNoNumber es → AllDone s es set → normal s (edited_sets es set) ≡ normal s set
  edits_same [] set a p r d = refl
  edits_same (e ∷ es) set a p r d = edits_same es (edited_set e set) a.1 p.1 r.1 (all_keep s e es set a.0 p.0 p.1 r.0 d.1) ∙ edit_same s e set d.0

  -- ---- what is done in a data set is done in its normal form

  -- the normal form of a value, once more
  leaf_still : (k : Syntax) (t : Tag) (vr : Vr) (v : List ℕ) (f : Fate) → LeafDone k t vr v f → LeafDone k t (vr_of k t vr v) (normal_value k t vr v) f
  leaf_still k t vr v stays h = tt
  leaf_still k t vr v (becomes w x) h = let a = leaf_once k t vr v in (h.0 ∙ sym a.vrs, h.1 ∙ sym a.values)
  leaf_still k t vr v goes h = h

  if_done : (e : Edit) (b : Bool) (x y : Trees) → Done s e x → (b ≡ false → Done s e y) → Done s e (if b then x else y)
  if_done e true x y h k = h
  if_done e false x y h k = k refl

  has_either : (t u : Tag) (k : Trees → Trees) (more rest : Trees) → (t.element == 0) ≡ false → has t (k more) ≡ (same_tag t u || has t more) → has t more ≡ has t rest
      → has t (if u.element == 0 then more else k more) ≡ (same_tag t u || has t rest)
  has_either t u k more rest g is e = by_test (same_tag t u) (u.element == 0) refl refl
    where
      other : same_tag t u ≡ true → (u.element == 0) ≡ true → ⊥
      other p q = absurd (let f : (u.element == 0) ≡ false = subst (λ (x : Tag). (x.element == 0) ≡ false) (tag_is t u p) g in cc)

      by_test : (c b : Bool) → same_tag t u ≡ c → (u.element == 0) ≡ b → has t (if b then more else k more) ≡ (same_tag t u || has t rest)
      by_test true true p q = absurd (other p q)
      by_test false true p q = e ∙ ap (λ (c : Bool). c || has t rest) (sym p)
      by_test c false p q = is ∙ ap (λ (b : Bool). same_tag t u || b) e

  has_normal : (k : Syntax) (t : Tag) (set : Trees) → (t.element == 0) ≡ false → has t (normal k set) ≡ has t set
  unfolding normal
  has_normal k t no_tree g = refl
  has_normal k t (leaf u vr v rest) g =
      has_either t u (leaf u (normal_vr k u vr (length v)) (normal_value k u vr v)) (normal (later k u vr v) rest) rest g refl (has_normal (later k u vr v) t rest g)
  has_normal k t (sequence u vr declared items rest) g = has_either t u (sequence u (normal_sequence_vr k u) Undefined (normal_items k items)) (normal k rest) rest g refl (has_normal k t rest g)
  has_normal k t (fragments u vr values rest) g = has_either t u (fragments u vr (map (evened 0) values)) (normal k rest) rest g refl (has_normal k t rest g)

  there_normal : (k : Syntax) (x : NewElement) (set : Trees) → IsThere x set → IsThere x (normal k set)
  there_normal k no_element set h = tt
  there_normal k (new_leaf t vr v) set h = λ g. has_normal k t set g ∙ h g
  there_normal k (new_sequence t held) set h = λ g. has_normal k t set g ∙ h g

mutual
  unfolding normal

  normal_done : (s : Syntax) (e : Edit) (set : Trees) → Done s e set → Done s e (normal s set)
  normal_done s e no_tree d = tt
  normal_done s e (leaf t vr v rest) d =
      let k : Dictionary = dictionary_after (dictionary_of s) t (vr_of s t vr v) (normal_value s t vr v) in
      let x : Trees = normal (read_by k s) rest in
      let more : Done s e x = subst (λ (r : Syntax). Done r e x) (own k s) (all_done_by (dictionary_of s) (read_by k s) e x (normal_done (read_by k s) e rest (all_done_by k s e rest d.1))) in
      if_done s e (t.element == 0) _ _ more (λ g. (λ u. leaf_still s s t vr v (fate e t) (d.0 g), more))
  normal_done s e (sequence t vr declared items rest) d =
      let more = normal_done s e rest d.1 in
      if_done s e (t.element == 0) _ _ more (λ g. (λ u. ((d.0 g).0, normal_items_done s e t 0 items (d.0 g).1), more))
  normal_done s e (fragments t vr values rest) d =
      let more = normal_done s e rest d.1 in
      if_done s e (t.element == 0) _ _ more (λ g. (λ u. d.0 g, more))

  normal_items_done : (s : Syntax) (e : Edit) (t : Tag) (n : ℕ) (items : Items) → ItemsDone s e t n items → ItemsDone s e t n (normal_items s items)
  normal_items_done s e t n no_item d = tt
  normal_items_done s e t n (item declared set rest) d =
      (d.0, normal_done s (within e t n) set d.1, there_normal s s (element_of (within e t n)) set d.2, normal_items_done s e t (suc n) rest d.3)

module _ (s : Syntax) where
  all_normal : (es : List Edit) (set : Trees) → AllDone s es set → AllDone s es (normal s set)
  all_normal [] set d = tt
  all_normal (e ∷ es) set d = ((normal_done s e set d.0.0, there_normal s s (element_of e) set d.0.1), all_normal es set d.1)

  -- ---- whole data sets

  set_twice : (es : List Edit) (set : Trees) → AreApart es → ArePublic es → EraseByNoNumber es
      → recode_set s (edited_sets es (normal s (edited_sets es set))) ≡ recode_set s (edited_sets es set)
  set_twice es set a p r =
      let once : Trees = edited_sets es set in
      let again : normal s (edited_sets es (normal s once)) ≡ normal s (normal s once) = edits_same s es (normal s once) a p r (all_normal es once (all_done s es set a p r)) in
      sym (recodes_normal s (edited_sets es (normal s once))) ∙ ap (recode_set s) (again ∙ normal_once s once) ∙ recodes_normal s once

-- ---- data sets that were read

if_whole : (h p : Bool) (x y : Trees) (reached : Option Tag) → p ≡ true
    → (if h || false || not p then front x nothing_open reached true else front y nothing_open reached true) ≡ front (if h then x else y) nothing_open reached true
if_whole true p x y reached e = refl
if_whole false true x y reached e = refl
if_whole false false x y reached e = absurd (cc)

always_passed : (t : Tag) (reached : Option Tag) → is_passed t reached true ≡ true
always_passed t None = refl
always_passed t (Some u) = or_true (below t u)

with_whole : (x : NewElement) (set : Trees) (reached : Option Tag) → with_new_so_far x (front set nothing_open reached true) ≡ front (with_new x set) nothing_open reached true
with_whole no_element set reached = refl
with_whole (new_leaf t vr v) set reached = if_whole (has t set) (is_passed t reached true) _ _ reached (always_passed t reached)
with_whole (new_sequence t held) set reached = if_whole (has t set) (is_passed t reached true) _ _ reached (always_passed t reached)

edit_whole : (e : Edit) (set : Trees) (reached : Option Tag) → edited_by e (front set nothing_open reached true) ≡ front (edited_set e set) nothing_open reached true
edit_whole e set reached =
    ap (λ (x : Trees). with_new_so_far (element_of e) (front x nothing_open reached true)) (then_trees-none (changed e set)) ∙ with_whole (element_of e) (changed e set) reached

pub edits_whole : (es : List Edit) (set : Trees) (reached : Option Tag) → edited es (front set nothing_open reached true) ≡ front (edited_sets es set) nothing_open reached true
edits_whole [] set reached = refl
edits_whole (e ∷ es) set reached = ap (edited es) (edit_whole e set reached) ∙ edits_whole es (edited_set e set) reached

pub front_recodes : (s : Syntax) (es : List Edit) (set : Trees) (reached : Option Tag) → recode s (edited es (front set nothing_open reached true)) ≡ recode_set s (edited_sets es set)
unfolding recode
front_recodes s es set reached = ap (recode s) (edits_whole es set reached) ∙ append-nil (recode_set s (edited_sets es set))

front_twice : (s : Syntax) (es : List Edit) (set : Trees) (reached : Option Tag) → AreApart es → ArePublic es → EraseByNoNumber es
    → recode s (edited es (normal_front s (edited es (front set nothing_open reached true)))) ≡ recode s (edited es (front set nothing_open reached true))
front_twice s es set reached a p r =
    let once : Trees = normal s (edited_sets es set) in
    ap (λ (f : Front). recode s (edited es (normal_front s f))) (edits_whole es set reached)
    ∙ front_recodes s es once (last_tag None once)
    ∙ set_twice s es set a p r
    ∙ sym (front_recodes s es set reached)

-- the law
pub edited_twice : (s : Syntax) (words : List (List ℕ)) (edits : List Edit) → meant_edits_in (dictionary_of s) words ≡ Ok edits → EraseByNoNumber edits → (start : ℕ) (bytes : List ℕ) (f : Front)
    → start ≤ INPUT_LIMIT → AreBytes bytes → Reads ascending_bar s start bytes f complete → recode s (edited edits (normal_front s (edited edits f))) ≡ recode s (edited edits f)
edited_twice s words edits mean r start bytes f le are reads =
    let w = front_whole s start bytes f le are reads in
    let apart = edits_are_apart (dictionary_of s) words edits mean in
    subst (λ (x : Front). recode s (edited edits (normal_front s (edited edits x))) ≡ recode s (edited edits x)) (sym w.is)
    (front_twice s edits w.trees (last_tag None w.trees) apart.0 apart.1 r)
