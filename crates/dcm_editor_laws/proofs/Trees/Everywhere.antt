-- What holds of each element of a data set still does after edits, where it holds of their new elements.
use Rattle.std.proofs.Common.{◌≡◌, ℕ, zero, suc, List, [], ◌∷◌, Bool, true, false, refl, sym, subst}
use Rattle.std.specs.Prelude.{if◌then◌else◌, ◌&&◌, ◌||◌, not}
use Rattle.dcm_base.specs.declared.tag.Tag.{Tag}
use Rattle.dcm_base.specs.declared.vr.Vr.{Vr}
use Rattle.dcm_base.specs.Tables.Tag.{below, same_tag, is_private}
use Rattle.dcm_base.specs.Tree.Tree.{Trees, no_tree, leaf, sequence, fragments, Items, no_item, item, then_trees}
use Rattle.dcm_base.specs.Tree.Front.{Front, front, nothing_open, open_leaf, open_sequence, open_fragments}
use Rattle.dcm_base.proofs.Dictionaries.TagOrder.{tag_is}
use Rattle.dcm_edits.specs.Edit.{number, every, PathEdit, step, insert, modify, erase, erase_item, Edit, on_path, modify_all, erase_all, erase_private, elsewhere, step_into, within, selects, Fate, stays, becomes, goes, path_fate, fate, settled, erases, has, has_open, put, NewElement, no_element, new_leaf, new_sequence, before, around, new_element, element_of, with_new, changed, changed_items, is_passed, with_tag, with_new_so_far, edited_by, edited}
use Rattle.dcm_editor_laws.specs.Everywhere.{Content, a_value, a_list, Everywhere, InEachItem}

-- nothing is open, and so it is with each element
abbrev pub WholeWith : (Tag → Content → Type 0) → Front → Type 0
WholeWith P (front whole o reached closed) = Everywhere P whole × (o ≡ nothing_open)

module _ (P : Tag → Content → Type 0) where
  -- ---- the elements that edits put

  abbrev pub PathFits : PathEdit → Type 0
  PathFits (step tag index edit) = P tag a_list × PathFits edit
  PathFits (insert tag vr value) = P tag (a_value vr value)
  PathFits (modify tag vr value) = P tag (a_value vr value)
  PathFits (erase tag) = Unit {0}
  PathFits (erase_item tag index) = Unit {0}

  abbrev pub Fits : Edit → Type 0
  Fits (on_path edit) = PathFits edit
  Fits (modify_all tag vr value) = P tag (a_value vr value)
  Fits (erase_all tag) = Unit {0}
  Fits erase_private = Unit {0}
  Fits elsewhere = Unit {0}

  abbrev pub AllFit : List Edit → Type 0
  AllFit [] = Unit {0}
  AllFit (e ∷ es) = Fits e × AllFit es

  abbrev pub NewFits : NewElement → Type 0
  NewFits no_element = Unit {0}
  NewFits (new_leaf tag vr value) = P tag (a_value vr value)
  NewFits (new_sequence tag held) = P tag a_list × Everywhere P held

  -- what an element of this tag becomes
  abbrev pub FateFits : Tag → Fate → Type 0
  FateFits t stays = Unit {0}
  FateFits t (becomes vr value) = P t (a_value vr value)
  FateFits t goes = Unit {0}

  around_fits : (tag : Tag) (x : NewElement) → P tag a_list → NewFits x → NewFits (around tag x)
  around_fits tag no_element r h = tt
  around_fits tag (new_leaf t vr value) r h = (r, (h, tt))
  around_fits tag (new_sequence t held) r h = (r, (h.0, (h.1, tt), tt))

  new_fits : (edit : PathEdit) → PathFits edit → NewFits (new_element edit)
  new_fits (insert tag vr value) r = r
  new_fits (step tag (number zero) edit) r = around_fits tag (new_element edit) r.0 (new_fits edit r.1)
  new_fits (step tag (number (suc k)) edit) r = tt
  new_fits (step tag every edit) r = tt
  new_fits (modify tag vr value) r = tt
  new_fits (erase tag) r = tt
  new_fits (erase_item tag index) r = tt

  element_fits : (e : Edit) → Fits e → NewFits (element_of e)
  element_fits (on_path edit) r = new_fits edit r
  element_fits (modify_all tag vr value) r = tt
  element_fits (erase_all tag) r = tt
  element_fits erase_private r = tt
  element_fits elsewhere r = tt

  before_fits : (x : NewElement) (set : Trees) → NewFits x → Everywhere P set → Everywhere P (before x set)
  before_fits no_element set h k = k
  before_fits (new_leaf tag vr value) set h k = (h, k)
  before_fits (new_sequence tag held) set h k = (h.0, (h.1, tt), k)

  if_fits : (b : Bool) (x y : Trees) → Everywhere P x → Everywhere P y → Everywhere P (if b then x else y)
  if_fits true x y h k = h
  if_fits false x y h k = k

  put_fits : (t : Tag) (x : NewElement) (set : Trees) → NewFits x → Everywhere P set → Everywhere P (put t x set)
  put_fits t x no_tree h k = before_fits x no_tree h tt
  put_fits t x (leaf tag vr value rest) h k = if_fits (below t tag) _ _ (before_fits x (leaf tag vr value rest) h k) (k.0, put_fits t x rest h k.1)
  put_fits t x (sequence tag vr declared items rest) h k = if_fits (below t tag) _ _ (before_fits x (sequence tag vr declared items rest) h k) (k.0, k.1, put_fits t x rest h k.2)
  put_fits t x (fragments tag vr values rest) h k = if_fits (below t tag) _ _ (before_fits x (fragments tag vr values rest) h k) (k.0, put_fits t x rest h k.1)

  with_fits : (x : NewElement) (set : Trees) → NewFits x → Everywhere P set → Everywhere P (with_new x set)
  with_fits no_element set h k = k
  with_fits (new_leaf tag vr value) set h k = if_fits (has tag set) _ _ k (put_fits tag (new_leaf tag vr value) set h k)
  with_fits (new_sequence tag held) set h k = if_fits (has tag set) _ _ k (put_fits tag (new_sequence tag held) set h k)

  -- ---- fates

  same_fits : (tag t : Tag) (vr : Vr) (value : List ℕ) (c : Bool) → same_tag tag t ≡ c → P tag (a_value vr value) → FateFits t (if c then becomes vr value else stays)
  same_fits tag t vr value true e h = subst (λ (x : Tag). P x (a_value vr value)) (tag_is tag t e) h
  same_fits tag t vr value false e h = tt

  gone_fits : (t : Tag) (c : Bool) → FateFits t (if c then goes else stays)
  gone_fits t true = tt
  gone_fits t false = tt

  path_fate_fits : (edit : PathEdit) (t : Tag) → PathFits edit → FateFits t (path_fate edit t)
  path_fate_fits (insert tag vr value) t h = same_fits tag t vr value (same_tag tag t) refl h
  path_fate_fits (modify tag vr value) t h = same_fits tag t vr value (same_tag tag t) refl h
  path_fate_fits (erase tag) t h = gone_fits t (same_tag tag t)
  path_fate_fits (step tag index edit) t h = tt
  path_fate_fits (erase_item tag index) t h = tt

  fate_fits : (e : Edit) (t : Tag) → Fits e → FateFits t (fate e t)
  fate_fits (on_path edit) t h = path_fate_fits edit t h
  fate_fits (modify_all tag vr value) t h = same_fits tag t vr value (same_tag tag t) refl h
  fate_fits (erase_all tag) t h = gone_fits t (same_tag tag t)
  fate_fits erase_private t h = gone_fits t (is_private t)
  fate_fits elsewhere t h = tt

  settled_fits : (f : Fate) (tag : Tag) (k : Trees → Trees) (rest : Trees) → FateFits tag f → Everywhere P (k rest) → Everywhere P rest → Everywhere P (settled f tag k rest)
  settled_fits stays tag k rest f h g = h
  settled_fits (becomes vr value) tag k rest f h g = (f, g)
  settled_fits goes tag k rest f h g = g

  -- ---- data sets

  step_inside : (edit : PathEdit) (tag : Tag) (i : ℕ) → PathFits edit → Fits (step_into edit tag i)
  step_inside (step t index edit) tag i h = by_test (same_tag t tag) (selects index i)
    where
      by_test : (a b : Bool) → Fits (if a && b then on_path edit else elsewhere)
      by_test true true = h.1
      by_test true false = tt
      by_test false b = tt
  step_inside (insert t vr value) tag i h = tt
  step_inside (modify t vr value) tag i h = tt
  step_inside (erase t) tag i h = tt
  step_inside (erase_item t index) tag i h = tt

  inside : (e : Edit) (tag : Tag) (i : ℕ) → Fits e → Fits (within e tag i)
  inside (on_path edit) tag i h = step_inside edit tag i h
  inside (modify_all t vr value) tag i h = h
  inside (erase_all t) tag i h = tt
  inside erase_private tag i h = tt
  inside elsewhere tag i h = tt

  items_if : (b : Bool) (x y : Items) → InEachItem P x → InEachItem P y → InEachItem P (if b then x else y)
  items_if true x y h k = h
  items_if false x y h k = k

  mutual
    changed_fits : (e : Edit) (set : Trees) → Fits e → Everywhere P set → Everywhere P (changed e set)
    changed_fits e no_tree r k = tt
    changed_fits e (leaf tag vr value rest) r k =
        let more = changed_fits e rest r k.1 in
        settled_fits (fate e tag) tag (leaf tag vr value) (changed e rest) (fate_fits e tag r) (k.0, more) more
    changed_fits e (sequence tag vr declared items rest) r k =
        let more = changed_fits e rest r k.2 in
        settled_fits (fate e tag) tag (sequence tag vr declared (changed_items e tag 0 items)) (changed e rest) (fate_fits e tag r) (k.0, changed_items_fit e tag 0 items r k.1, more) more
    changed_fits e (fragments tag vr values rest) r k =
        let more = changed_fits e rest r k.1 in
        settled_fits (fate e tag) tag (fragments tag vr values) (changed e rest) (fate_fits e tag r) (k.0, more) more

    changed_items_fit : (e : Edit) (tag : Tag) (i : ℕ) (items : Items) → Fits e → InEachItem P items → InEachItem P (changed_items e tag i items)
    changed_items_fit e tag i no_item r k = tt
    changed_items_fit e tag i (item declared set rest) r k =
        let inner : Fits (within e tag i) = inside e tag i r in
        let more = changed_items_fit e tag (suc i) rest r k.1 in
        items_if (erases e tag i) _ _ more
        (with_fits (element_of (within e tag i)) (changed (within e tag i) set) (element_fits (within e tag i) inner) (changed_fits (within e tag i) set inner k.0), more)

  then_fits : (a : Trees) → Everywhere P a → Everywhere P (then_trees a no_tree)
  then_fits no_tree h = tt
  then_fits (leaf tag vr value rest) h = (h.0, then_fits rest h.1)
  then_fits (sequence tag vr declared items rest) h = (h.0, h.1, then_fits rest h.2)
  then_fits (fragments tag vr values rest) h = (h.0, then_fits rest h.1)

  front_if : (b : Bool) (x y : Front) → WholeWith P x → WholeWith P y → WholeWith P (if b then x else y)
  front_if true x y h k = h
  front_if false x y h k = k

  tag_fits : (tag : Tag) (x : NewElement) (f : Front) → NewFits x → WholeWith P f → WholeWith P (with_tag tag x f)
  tag_fits tag x (front whole o reached closed) h k =
      front_if (has tag whole || has_open tag o || not (is_passed tag reached closed)) _ _ k (put_fits tag x whole h k.0, k.1)

  new_so_far_fits : (x : NewElement) (f : Front) → NewFits x → WholeWith P f → WholeWith P (with_new_so_far x f)
  new_so_far_fits no_element f h k = k
  new_so_far_fits (new_leaf tag vr value) f h k = tag_fits tag (new_leaf tag vr value) f h k
  new_so_far_fits (new_sequence tag held) f h k = tag_fits tag (new_sequence tag held) f h k

  pub edited_by_fits : (e : Edit) (f : Front) → Fits e → WholeWith P f → WholeWith P (edited_by e f)
  edited_by_fits e (front whole nothing_open reached closed) r k =
      new_so_far_fits (element_of e) _ (element_fits e r) (then_fits (changed e whole) (changed_fits e whole r k.0), refl)
  edited_by_fits e (front whole (open_leaf tag vr size value) reached closed) r k = absurd (let none = k.1 in cc)
  edited_by_fits e (front whole (open_sequence tag vr declared items last) reached closed) r k = absurd (let none = k.1 in cc)
  edited_by_fits e (front whole (open_fragments tag vr values last) reached closed) r k = absurd (let none = k.1 in cc)

  pub edited_fits : (es : List Edit) (f : Front) → AllFit es → WholeWith P f → WholeWith P (edited es f)
  edited_fits [] f r k = k
  edited_fits (e ∷ es) f r k = edited_fits es (edited_by e f) r.1 (edited_by_fits e f r.0 k)

  -- ---- an edit of all depths makes it so

  -- what an element of this tag and content has after it
  abbrev pub SettledAs : Tag → Content → Fate → Type 0
  SettledAs t c stays = P t c
  SettledAs t c (becomes vr value) = P t (a_value vr value)
  SettledAs t c goes = Unit {0}

  abbrev pub Settles : Edit → Type 0
  Settles e = (t : Tag) (c : Content) → SettledAs t c (fate e t)

  settled_so : (f : Fate) (tag : Tag) (c : Content) (k : Trees → Trees) (rest : Trees) → SettledAs tag c f
      → (P tag c → Everywhere P (k rest)) → Everywhere P rest → Everywhere P (settled f tag k rest)
  settled_so stays tag c k rest f h g = h f
  settled_so (becomes vr value) tag c k rest f h g = (f, g)
  settled_so goes tag c k rest f h g = g

  module _ (e : Edit) (same : (tag : Tag) (i : ℕ) → within e tag i ≡ e) (keeps : (tag : Tag) (i : ℕ) → erases e tag i ≡ false) (puts_none : element_of e ≡ no_element) (so : Settles e) where
    item_so : (tag : Tag) (i : ℕ) (set : Trees) → Everywhere P (changed e set) → Everywhere P (with_new (element_of (within e tag i)) (changed (within e tag i) set))
    item_so tag i set h = subst (λ (x : Edit). Everywhere P (with_new (element_of x) (changed x set))) (sym (same tag i)) (subst (λ (x : NewElement). Everywhere P (with_new x (changed e set))) (sym puts_none) h)

    kept_items : (b : Bool) (x y : Items) → b ≡ false → InEachItem P y → InEachItem P (if b then x else y)
    kept_items true x y e h = absurd (cc)
    kept_items false x y e h = h

    mutual
      all_so : (set : Trees) → Everywhere P (changed e set)
      all_so no_tree = tt
      all_so (leaf tag vr value rest) = settled_so (fate e tag) tag (a_value vr value) (leaf tag vr value) (changed e rest) (so tag (a_value vr value)) (λ p. (p, all_so rest)) (all_so rest)
      all_so (sequence tag vr declared items rest) =
          settled_so (fate e tag) tag a_list (sequence tag vr declared (changed_items e tag 0 items)) (changed e rest) (so tag a_list) (λ p. (p, items_so tag 0 items, all_so rest)) (all_so rest)
      all_so (fragments tag vr values rest) = settled_so (fate e tag) tag a_list (fragments tag vr values) (changed e rest) (so tag a_list) (λ p. (p, all_so rest)) (all_so rest)

      items_so : (tag : Tag) (i : ℕ) (items : Items) → InEachItem P (changed_items e tag i items)
      items_so tag i no_item = tt
      items_so tag i (item declared set rest) = kept_items (erases e tag i) _ _ (keeps tag i) (item_so tag i set (all_so set), items_so tag (suc i) rest)

    new_so : (x : NewElement) (f : Front) → x ≡ no_element → WholeWith P f → WholeWith P (with_new_so_far x f)
    new_so x f none k = subst (λ (y : NewElement). WholeWith P (with_new_so_far y f)) (sym none) k

    pub edited_by_so : (f : Front) → WholeWith (λ t c. Unit {0}) f → WholeWith P (edited_by e f)
    edited_by_so (front whole nothing_open reached closed) k = new_so (element_of e) _ puts_none (then_fits (changed e whole) (all_so whole), refl)
    edited_by_so (front whole (open_leaf tag vr size value) reached closed) k = absurd (let none = k.1 in cc)
    edited_by_so (front whole (open_sequence tag vr declared items last) reached closed) k = absurd (let none = k.1 in cc)
    edited_by_so (front whole (open_fragments tag vr values last) reached closed) k = absurd (let none = k.1 in cc)
