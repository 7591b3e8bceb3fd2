-- What an edit has done to a data set, it need not do again.
use Rattle.std.proofs.Common.{◌≡◌, ℕ, zero, suc, List, length, Bool, true, false, refl, sym, ap, subst}
use Rattle.std.specs.Prelude.{if◌then◌else◌, ◌&&◌, ◌||◌}
use Rattle.dcm_lemmas.proofs.Truth.{or_second}
use Rattle.dcm_base.specs.declared.tag.Tag.{Tag}
use Rattle.dcm_base.specs.declared.vr.Vr.{Vr}
use Rattle.dcm_base.specs.declared.syntax.Syntax.{Syntax}
use Rattle.dcm_base.specs.Tables.Tag.{below, same_tag}
use Rattle.dcm_base.specs.Tree.Tree.{Trees, no_tree, leaf, sequence, fragments, Items, no_item, item}
use Rattle.dcm_base.specs.Conversion.Normal.{normal_vr, normal_value, UnlessGroupLength}
use Rattle.dcm_base.proofs.Dictionaries.TagOrder.{same_tag_self}
use Rattle.dcm_edits.specs.Edit.{number, every, PathEdit, step, insert, modify, erase, erase_item, Edit, on_path, modify_all, erase_all, erase_private, elsewhere, within, selects, Fate, stays, becomes, goes, fate, settled, erases, has, put, NewElement, no_element, new_leaf, new_sequence, before, around, new_element, element_of, with_new, changed, changed_items, edited_set}
use Rattle.dcm_editor_laws.specs.Repeating.{ends_in_number, erases_by_number}
use Rattle.dcm_edits.proofs.Trees.Laws.{chosen}

-- the value that the edit makes of an element is written as the one that is there
abbrev pub LeafDone : Syntax → Tag → Vr → List ℕ → Fate → Type 0
LeafDone s t vr v stays = Unit {0}
LeafDone s t vr v (becomes w x) = (normal_vr s t w (length x) ≡ normal_vr s t vr (length v)) × (normal_value s t w x ≡ normal_value s t vr v)
LeafDone s t vr v goes = ⊥

-- the new element is there
abbrev pub IsThere : NewElement → Trees → Type 0
IsThere no_element set = Unit {0}
IsThere (new_leaf t vr v) set = UnlessGroupLength t (has t set ≡ true)
IsThere (new_sequence t held) set = UnlessGroupLength t (has t set ≡ true)

-- the edit leaves each element as it is written; the lengths of groups are not written
abbrev mutual
  pub Done : Syntax → Edit → Trees → Type 0
  Done s e no_tree = Unit {0}
  Done s e (leaf t vr v rest) = UnlessGroupLength t (LeafDone s t vr v (fate e t)) × Done s e rest
  Done s e (sequence t vr declared items rest) = UnlessGroupLength t ((fate e t ≡ stays) × ItemsDone s e t 0 items) × Done s e rest
  Done s e (fragments t vr values rest) = UnlessGroupLength t (fate e t ≡ stays) × Done s e rest

  pub ItemsDone : Syntax → Edit → Tag → ℕ → Items → Type 0
  ItemsDone s e t n no_item = Unit {0}
  ItemsDone s e t n (item declared set rest) =
      (erases e t n ≡ false) × Done s (within e t n) set × IsThere (element_of (within e t n)) set × ItemsDone s e t (suc n) rest

-- and puts nothing
abbrev pub SetDone : Syntax → Edit → Trees → Type 0
SetDone s e set = Done s e set × IsThere (element_of e) set

-- ---- tests

pub here : (t : Tag) (b : Bool) → (same_tag t t || b) ≡ true
here t b = ap (λ (c : Bool). c || b) (same_tag_self t)

-- ---- items

number_in : (c : Bool) (p : PathEdit) → ends_in_number p ≡ false → erases_by_number (if c then on_path p else elsewhere) ≡ false
number_in true p h = h
number_in false p h = refl

pub number_within : (e : Edit) (t : Tag) (n : ℕ) → erases_by_number e ≡ false → erases_by_number (within e t n) ≡ false
number_within (on_path (step u index p)) t n h = number_in (same_tag u t && selects index n) p h
number_within (on_path (insert u vr v)) t n h = refl
number_within (on_path (modify u vr v)) t n h = refl
number_within (on_path (erase u)) t n h = refl
number_within (on_path (erase_item u index)) t n h = refl
number_within (modify_all u vr v) t n h = refl
number_within (erase_all u) t n h = refl
number_within erase_private t n h = refl
number_within elsewhere t n h = refl

each_goes : (e : Edit) (t : Tag) (m n : ℕ) → erases_by_number e ≡ false → erases e t m ≡ true → erases e t n ≡ true
each_goes (on_path (erase_item u (number k))) t m n h p = absurd (cc)
each_goes (on_path (erase_item u every)) t m n h p = p
each_goes (on_path (step u index q)) t m n h p = absurd (cc)
each_goes (on_path (insert u vr v)) t m n h p = absurd (cc)
each_goes (on_path (modify u vr v)) t m n h p = absurd (cc)
each_goes (on_path (erase u)) t m n h p = absurd (cc)
each_goes (modify_all u vr v) t m n h p = absurd (cc)
each_goes (erase_all u) t m n h p = absurd (cc)
each_goes erase_private t m n h p = absurd (cc)
each_goes elsewhere t m n h p = absurd (cc)

if_gone : (b : Bool) (x y : Items) → b ≡ true → x ≡ no_item → (if b then x else y) ≡ no_item
if_gone true x y e h = h
if_gone false x y e h = absurd (cc)

-- where an item goes, all of them do
pub all_go : (e : Edit) (t : Tag) (m n : ℕ) (items : Items) → erases_by_number e ≡ false → erases e t m ≡ true → changed_items e t n items ≡ no_item
all_go e t m n no_item h p = refl
all_go e t m n (item declared set rest) h p = if_gone (erases e t n) _ _ (each_goes e t m n h p) (all_go e t m (suc n) rest h p)

module _ (s : Syntax) where
  -- ---- an element that is put

  put_done : (e : Edit) (t : Tag) (x : NewElement) (set : Trees) → ((rest : Trees) → Done s e rest → Done s e (before x rest)) → Done s e set → Done s e (put t x set)
  put_done e t x no_tree h k = h no_tree tt
  put_done e t x (leaf u vr v rest) h k = chosen (Done s e) (below t u) _ _ (λ p. h (leaf u vr v rest) k) (λ p. (k.0, put_done e t x rest h k.1))
  put_done e t x (sequence u vr declared items rest) h k = chosen (Done s e) (below t u) _ _ (λ p. h (sequence u vr declared items rest) k) (λ p. (k.0, put_done e t x rest h k.1))
  put_done e t x (fragments u vr values rest) h k = chosen (Done s e) (below t u) _ _ (λ p. h (fragments u vr values rest) k) (λ p. (k.0, put_done e t x rest h k.1))

  pub new_leaf_done : (e : Edit) (t : Tag) (vr : Vr) (v : List ℕ) (set : Trees) → UnlessGroupLength t (LeafDone s t vr v (fate e t)) → Done s e set → Done s e (with_new (new_leaf t vr v) set)
  new_leaf_done e t vr v set h k = chosen (Done s e) (has t set) _ _ (λ p. k) (λ p. put_done e t (new_leaf t vr v) set (λ rest d. (h, d)) k)

  -- an item that holds this
  abbrev pub HeldDone : Edit → Tag → Trees → Type 0
  HeldDone e t held = (fate e t ≡ stays) × (erases e t 0 ≡ false) × Done s (within e t 0) held × IsThere (element_of (within e t 0)) held

  pub new_sequence_done : (e : Edit) (t : Tag) (held : Trees) (set : Trees) → (has t set ≡ false → UnlessGroupLength t (HeldDone e t held)) → Done s e set → Done s e (with_new (new_sequence t held) set)
  new_sequence_done e t held set h k =
      chosen (Done s e) (has t set) _ _ (λ p. k)
      (λ p. put_done e t (new_sequence t held) set (λ rest d. (λ g. ((h p g).0, ((h p g).1, (h p g).2, (h p g).3, tt)), d)) k)

-- ---- it is there

has_put : (t : Tag) (x : NewElement) (set : Trees) → ((rest : Trees) → has t (before x rest) ≡ true) → has t (put t x set) ≡ true
has_put t x no_tree h = h no_tree
has_put t x (leaf u vr v rest) h = chosen (λ (y : Trees). has t y ≡ true) (below t u) _ _ (λ p. h _) (λ p. or_second (same_tag t u) _ (has_put t x rest h))
has_put t x (sequence u vr declared items rest) h = chosen (λ (y : Trees). has t y ≡ true) (below t u) _ _ (λ p. h _) (λ p. or_second (same_tag t u) _ (has_put t x rest h))
has_put t x (fragments u vr values rest) h = chosen (λ (y : Trees). has t y ≡ true) (below t u) _ _ (λ p. h _) (λ p. or_second (same_tag t u) _ (has_put t x rest h))

pub is_there : (x : NewElement) (set : Trees) → IsThere x (with_new x set)
is_there no_element set = tt
is_there (new_leaf t vr v) set = λ g. chosen (λ (y : Trees). has t y ≡ true) (has t set) _ _ (λ p. p) (λ p. has_put t (new_leaf t vr v) set (λ rest. here t (has t rest)))
is_there (new_sequence t held) set = λ g. chosen (λ (y : Trees). has t y ≡ true) (has t set) _ _ (λ p. p) (λ p. has_put t (new_sequence t held) set (λ rest. here t (has t rest)))

-- ---- an edit has done what it does

module _ (s : Syntax) where
  settled_done : (e : Edit) (t : Tag) (k : Trees → Trees) (rest : Trees) (f : Fate) → fate e t ≡ f → Done s e rest → (fate e t ≡ stays → Done s e (k rest)) → Done s e (settled f t k rest)
  settled_done e t k rest stays q d h = h q
  settled_done e t k rest (becomes w x) q d h = (λ g. subst (LeafDone s t w x) (sym q) (refl, refl), d)
  settled_done e t k rest goes q d h = d

  own_leaf : (t : Tag) (vr : Vr) (v : List ℕ) → LeafDone s t vr v (fate (on_path (insert t vr v)) t)
  own_leaf t vr v = subst (λ (c : Bool). LeafDone s t vr v (if c then becomes vr v else stays)) (sym (same_tag_self t)) (refl, refl)

  own_item : (t : Tag) (p : PathEdit) (held : Trees) → Done s (on_path p) held → IsThere (new_element p) held → HeldDone s (on_path (step t (number zero) p)) t held
  own_item t p held h k = (refl, refl, both.0, both.1)
    where
      both : SetDone s (within (on_path (step t (number zero) p)) t 0) held
      both = subst (λ (c : Bool). SetDone s (if c && true then on_path p else elsewhere) held) (sym (same_tag_self t)) (h, k)

  step_done : (t : Tag) (p : PathEdit) (x : NewElement) (set : Trees) → Done s (on_path p) (with_new x no_tree) → IsThere (new_element p) (with_new x no_tree)
      → Done s (on_path (step t (number zero) p)) set → Done s (on_path (step t (number zero) p)) (with_new (around t x) set)
  step_done t p no_element set h k d = d
  step_done t p (new_leaf u vr v) set h k d = new_sequence_done s (on_path (step t (number zero) p)) t _ set (λ out g. own_item t p _ h k) d
  step_done t p (new_sequence u held) set h k d = new_sequence_done s (on_path (step t (number zero) p)) t _ set (λ out g. own_item t p _ h k) d

  new_done : (p : PathEdit) (set : Trees) → Done s (on_path p) set → Done s (on_path p) (with_new (new_element p) set)
  new_done (insert t vr v) set d = new_leaf_done s (on_path (insert t vr v)) t vr v set (λ g. own_leaf t vr v) d
  new_done (step t (number zero) p) set d = step_done t p (new_element p) set (new_done p no_tree tt) (is_there (new_element p) no_tree) d
  new_done (step t (number (suc n)) p) set d = d
  new_done (step t every p) set d = d
  new_done (modify t vr v) set d = d
  new_done (erase t) set d = d
  new_done (erase_item t index) set d = d

  with_done : (e : Edit) (set : Trees) → Done s e set → Done s e (with_new (element_of e) set)
  with_done (on_path p) set d = new_done p set d
  with_done (modify_all t vr v) set d = d
  with_done (erase_all t) set d = d
  with_done erase_private set d = d
  with_done elsewhere set d = d

  mutual
    changed_done : (e : Edit) (set : Trees) → erases_by_number e ≡ false → Done s e (changed e set)
    changed_done e no_tree r = tt
    changed_done e (leaf t vr v rest) r =
        let more = changed_done e rest r in
        settled_done e t (leaf t vr v) (changed e rest) (fate e t) refl more (λ q. (λ g. subst (LeafDone s t vr v) (sym q) tt, more))
    changed_done e (sequence t vr declared items rest) r =
        let more = changed_done e rest r in
        settled_done e t (sequence t vr declared (changed_items e t 0 items)) (changed e rest) (fate e t) refl more (λ q. (λ g. (q, items_done e t 0 items r), more))
    changed_done e (fragments t vr values rest) r =
        let more = changed_done e rest r in
        settled_done e t (fragments t vr values) (changed e rest) (fate e t) refl more (λ q. (λ g. q, more))

    items_done : (e : Edit) (t : Tag) (n : ℕ) (items : Items) → erases_by_number e ≡ false → ItemsDone s e t n (changed_items e t n items)
    items_done e t n no_item r = tt
    items_done e t n (item declared set rest) r =
        let inner : Edit = within e t n in
        let more = items_done e t (suc n) rest r in
        let inside = with_done inner (changed inner set) (changed_done inner set (number_within e t n r)) in
        chosen (ItemsDone s e t n) (erases e t n) _ _ (λ p. subst (ItemsDone s e t n) (sym (all_go e t n (suc n) rest r p)) tt)
        (λ p. (p, inside, is_there (element_of inner) (changed inner set), more))

  pub edit_done : (e : Edit) (set : Trees) → erases_by_number e ≡ false → SetDone s e (edited_set e set)
  edit_done e set r = (with_done e (changed e set) (changed_done e set r), is_there (element_of e) (changed e set))
