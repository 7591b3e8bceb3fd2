-- What no edit names stays as it was.
use Rattle.std.proofs.Common.{◌≡◌, ◌∙◌, ap, sym, refl, subst, ℕ, zero, suc, List, [], ◌∷◌, Bool, true, false, inl, inr, ◌⊎◌}
use Rattle.std.specs.Prelude.{◌&&◌, ◌||◌, not, if◌then◌else◌}
use Rattle.dcm_lemmas.proofs.Choice.{if_true}
use Rattle.dcm_lemmas.proofs.Truth.{and_first, or_first, or_second}
use Rattle.dcm_base.specs.declared.tag.Tag.{Tag}
use Rattle.dcm_base.specs.declared.vr.Vr.{Vr}
use Rattle.dcm_base.specs.declared.length.Length.{Length}
use Rattle.dcm_base.specs.Tables.Tag.{below, same_tag, is_private}
use Rattle.dcm_base.specs.Tree.Tree.{Trees, no_tree, leaf, sequence, fragments, Items, no_item, item, then_trees}
use Rattle.dcm_base.specs.Tree.Front.{Front, front, nothing_open, open_leaf, open_sequence, open_fragments}
use Rattle.dcm_edits.specs.Edit.{number, every, PathEdit, step, insert, modify, erase, erase_item, Edit, on_path, modify_all, erase_all, erase_private, elsewhere, within, selects, Fate, stays, becomes, goes, fate, settled, erases, has, has_open, put, NewElement, no_element, new_leaf, new_sequence, before, around, new_element, element_of, with_new, changed, changed_items, is_passed, with_tag, with_new_so_far, acts, edited_by, edited}
use Rattle.dcm_base.proofs.Dictionaries.TagOrder.{same_tag_self}
use Rattle.dcm_editor_laws.proofs.Trees.Everywhere.{WholeWith, edited_by_fits}
use Rattle.dcm_editor_laws.proofs.Trees.Gone.{Anything, any_fits}
use Rattle.dcm_editor_laws.specs.Others.{inserts, path_changes, changes, any_changes, without, items_without, set_without}

-- ---- tests

-- the edit changes only elements whose tags pass
abbrev pub Only : (Tag → Bool) → Edit → Type 0
Only p e = (t : Tag) → changes e t ≡ true → p t ≡ true

abbrev pub AllOnly : (Tag → Bool) → List Edit → Type 0
AllOnly p [] = Unit {0}
AllOnly p (e ∷ es) = Only p e × AllOnly p es

more_pass : (p q : Tag → Bool) (es : List Edit) → ((t : Tag) → p t ≡ true → q t ≡ true) → AllOnly p es → AllOnly q es
more_pass p q [] h a = tt
more_pass p q (e ∷ es) h a = (λ t c. h t (a.0 t c), more_pass p q es h a.1)

pub all_only : (es : List Edit) → AllOnly (any_changes es) es
all_only [] = tt
all_only (e ∷ es) =
    (λ t c. or_first (changes e t) (any_changes es t) c, more_pass (any_changes es) (λ t. changes e t || any_changes es t) es (λ t h. or_second (changes e t) (any_changes es t) h) (all_only es))

-- ---- what an edit asks of an item

inner_path : (b : Bool) (edit : PathEdit) (t : Tag) (tag : Tag) → (changes (if b then on_path edit else elsewhere) t ≡ true) → ((inserts edit && same_tag tag t) || path_changes edit t) ≡ true
inner_path true edit t tag h = or_second (inserts edit && same_tag tag t) (path_changes edit t) h
inner_path false edit t tag h = absurd (cc)

inner_changes : (e : Edit) (tag : Tag) (n : ℕ) (t : Tag) → changes (within e tag n) t ≡ true → changes e t ≡ true
inner_changes (on_path (step s index edit)) tag n t h = inner_path (same_tag s tag && selects index n) edit t s h
inner_changes (on_path (insert s vr value)) tag n t h = absurd (cc)
inner_changes (on_path (modify s vr value)) tag n t h = absurd (cc)
inner_changes (on_path (erase s)) tag n t h = absurd (cc)
inner_changes (on_path (erase_item s index)) tag n t h = absurd (cc)
inner_changes (modify_all s vr value) tag n t h = h
inner_changes (erase_all s) tag n t h = h
inner_changes erase_private tag n t h = h
inner_changes elsewhere tag n t h = h

inner_only : (p : Tag → Bool) (e : Edit) (tag : Tag) (n : ℕ) → Only p e → Only p (within e tag n)
inner_only p e tag n only = λ t h. only t (inner_changes e tag n t h)

erases_changes : (e : Edit) (t : Tag) (n : ℕ) → erases e t n ≡ true → changes e t ≡ true
erases_changes (on_path (step s index edit)) t n h = absurd (cc)
erases_changes (on_path (insert s vr value)) t n h = absurd (cc)
erases_changes (on_path (modify s vr value)) t n h = absurd (cc)
erases_changes (on_path (erase s)) t n h = absurd (cc)
erases_changes (on_path (erase_item s index)) t n h = and_first (same_tag s t) (selects index n) h
erases_changes (modify_all s vr value) t n h = absurd (cc)
erases_changes (erase_all s) t n h = absurd (cc)
erases_changes erase_private t n h = absurd (cc)
erases_changes elsewhere t n h = absurd (cc)

acts_if : (b : Bool) (f : Fate) → acts (if b then f else stays) ≡ true → b ≡ true
acts_if true f h = refl
acts_if false f h = absurd (cc)

fate_changes : (e : Edit) (t : Tag) → acts (fate e t) ≡ true → changes e t ≡ true
fate_changes (on_path (step s index edit)) t h = absurd (cc)
fate_changes (on_path (insert s vr value)) t h = acts_if (same_tag s t) (becomes vr value) h
fate_changes (on_path (modify s vr value)) t h = acts_if (same_tag s t) (becomes vr value) h
fate_changes (on_path (erase s)) t h = acts_if (same_tag s t) goes h
fate_changes (on_path (erase_item s index)) t h = absurd (cc)
fate_changes (modify_all s vr value) t h = acts_if (same_tag s t) (becomes vr value) h
fate_changes (erase_all s) t h = acts_if (same_tag s t) goes h
fate_changes erase_private t h = acts_if (is_private t) goes h
fate_changes elsewhere t h = absurd (cc)

-- ---- what an edit puts

makes : (edit : PathEdit) → (new_element edit ≡ no_element) ⊎ (inserts edit ≡ true)
makes (step tag (number zero) edit) = elim (makes edit) [ inl none ↦ inl (ap (around tag) none) | inr is ↦ inr is ]
makes (step tag (number (suc n)) edit) = inl refl
makes (step tag every edit) = inl refl
makes (insert tag vr value) = inr refl
makes (modify tag vr value) = inl refl
makes (erase tag) = inl refl
makes (erase_item tag index) = inl refl

module _ (p : Tag → Bool) where
  abbrev NewOnly : NewElement → Type 0
  NewOnly no_element = Unit {0}
  NewOnly (new_leaf tag vr value) = p tag ≡ true
  NewOnly (new_sequence tag held) = p tag ≡ true

  around_only : (tag : Tag) (x : NewElement) → p tag ≡ true → NewOnly (around tag x)
  around_only tag no_element h = tt
  around_only tag (new_leaf t vr value) h = h
  around_only tag (new_sequence t held) h = h

  on_way : (tag : Tag) (edit : PathEdit) → inserts edit ≡ true → ((inserts edit && same_tag tag tag) || path_changes edit tag) ≡ true
  on_way tag edit is = or_first (inserts edit && same_tag tag tag) (path_changes edit tag) (ap (λ (b : Bool). b && same_tag tag tag) is ∙ same_tag_self tag)

  new_only : (edit : PathEdit) → Only p (on_path edit) → NewOnly (new_element edit)
  new_only (insert tag vr value) only = only tag (same_tag_self tag)
  new_only (step tag (number zero) edit) only = elim (makes edit) [
    | inl none ↦ subst (λ (x : NewElement). NewOnly (around tag x)) (sym none) tt
    | inr is ↦ around_only tag (new_element edit) (only tag (on_way tag edit is))
  ]
  new_only (step tag (number (suc k)) edit) only = tt
  new_only (step tag every edit) only = tt
  new_only (modify tag vr value) only = tt
  new_only (erase tag) only = tt
  new_only (erase_item tag index) only = tt

  element_only : (e : Edit) → Only p e → NewOnly (element_of e)
  element_only (on_path edit) only = new_only edit only
  element_only (modify_all tag vr value) only = tt
  element_only (erase_all tag) only = tt
  element_only erase_private only = tt
  element_only elsewhere only = tt

  before_same : (x : NewElement) (set : Trees) → NewOnly x → without p (before x set) ≡ without p set
  before_same no_element set h = refl
  before_same (new_leaf tag vr value) set h = if_true (p tag) _ _ h
  before_same (new_sequence tag held) set h = if_true (p tag) _ _ h

  either_same : (b : Bool) (x y set : Trees) → without p x ≡ without p set → without p y ≡ without p set → without p (if b then x else y) ≡ without p set
  either_same true x y set h k = h
  either_same false x y set h k = k

  put_same : (t : Tag) (x : NewElement) (set : Trees) → NewOnly x → without p (put t x set) ≡ without p set
  put_same t x no_tree h = before_same x no_tree h
  put_same t x (leaf tag vr value rest) h =
      either_same (below t tag) _ _ (leaf tag vr value rest) (before_same x (leaf tag vr value rest) h) (ap (λ (r : Trees). if p tag then r else leaf tag vr value r) (put_same t x rest h))
  put_same t x (sequence tag vr declared items rest) h =
      either_same (below t tag) _ _ (sequence tag vr declared items rest) (before_same x (sequence tag vr declared items rest) h) (ap (λ (r : Trees). if p tag then r else sequence tag vr declared (items_without p items) r) (put_same t x rest h))
  put_same t x (fragments tag vr values rest) h =
      either_same (below t tag) _ _ (fragments tag vr values rest) (before_same x (fragments tag vr values rest) h) (ap (λ (r : Trees). if p tag then r else fragments tag vr values r) (put_same t x rest h))

  with_same : (x : NewElement) (set : Trees) → NewOnly x → without p (with_new x set) ≡ without p set
  with_same no_element set h = refl
  with_same (new_leaf tag vr value) set h = either_same (has tag set) _ _ set refl (put_same tag (new_leaf tag vr value) set h)
  with_same (new_sequence tag held) set h = either_same (has tag set) _ _ set refl (put_same tag (new_sequence tag held) set h)

  -- ---- what an edit changes

  -- an element that stays is there without the others as it was, and one that does not is left out
  settled_same : (f : Fate) (tag : Tag) (element other : Trees → Trees) (rest changed_rest : Trees) → (acts f ≡ true → p tag ≡ true) → without p changed_rest ≡ without p rest
      → (p tag ≡ true → without p (other rest) ≡ without p rest)
      → without p (element changed_rest) ≡ without p (other rest) → without p (settled f tag element changed_rest) ≡ without p (other rest)
  settled_same stays tag element other rest changed_rest only more out kept = kept
  settled_same (becomes vr value) tag element other rest changed_rest only more out kept = if_true (p tag) _ _ (only refl) ∙ more ∙ sym (out (only refl))
  settled_same goes tag element other rest changed_rest only more out kept = more ∙ sym (out (only refl))

  kept_sequence : (b : Bool) (tag : Tag) (vr : Vr) (declared : Length) (items others : Items) (rest changed_rest : Trees) → p tag ≡ b → (p tag ≡ false → items_without p items ≡ items_without p others) → without p changed_rest ≡ without p rest
      → (if b then without p changed_rest else sequence tag vr declared (items_without p items) (without p changed_rest)) ≡ (if b then without p rest else sequence tag vr declared (items_without p others) (without p rest))
  kept_sequence true tag vr declared items others rest changed_rest is same more = more
  kept_sequence false tag vr declared items others rest changed_rest is same more = let held = same is in cc

  items_alike : (declared : Length) (a b : Trees) (c d : Items) → a ≡ b → c ≡ d → item declared a c ≡ item declared b d
  items_alike declared a b c d h k = cc

  kept_item : (b : Bool) (x y others : Items) → b ≡ false → items_without p y ≡ others → items_without p (if b then x else y) ≡ others
  kept_item true x y others e h = absurd (cc)
  kept_item false x y others e h = h

  never : (b c : Bool) → (b ≡ true → c ≡ true) → c ≡ false → b ≡ false
  never true c h e = absurd (let up = h refl in cc)
  never false c h e = refl

  mutual
    changed_same : (e : Edit) (set : Trees) → Only p e → without p (changed e set) ≡ without p set
    changed_same e no_tree only = refl
    changed_same e (leaf tag vr value rest) only =
        let more = changed_same e rest only in
        settled_same (fate e tag) tag (leaf tag vr value) (leaf tag vr value) rest (changed e rest) (λ h. only tag (fate_changes e tag h)) more (if_true (p tag) _ _) (ap (λ (r : Trees). if p tag then r else leaf tag vr value r) more)
    changed_same e (sequence tag vr declared items rest) only =
        let more = changed_same e rest only in
        settled_same (fate e tag) tag (sequence tag vr declared (changed_items e tag 0 items)) (sequence tag vr declared items) rest (changed e rest) (λ h. only tag (fate_changes e tag h)) more (if_true (p tag) _ _)
        (kept_sequence (p tag) tag vr declared (changed_items e tag 0 items) items rest (changed e rest) refl (λ stays_in. items_same e tag 0 items only stays_in) more)
    changed_same e (fragments tag vr values rest) only =
        let more = changed_same e rest only in
        settled_same (fate e tag) tag (fragments tag vr values) (fragments tag vr values) rest (changed e rest) (λ h. only tag (fate_changes e tag h)) more (if_true (p tag) _ _) (ap (λ (r : Trees). if p tag then r else fragments tag vr values r) more)

    items_same : (e : Edit) (tag : Tag) (n : ℕ) (items : Items) → Only p e → p tag ≡ false → items_without p (changed_items e tag n items) ≡ items_without p items
    items_same e tag n no_item only stays_in = refl
    items_same e tag n (item declared set rest) only stays_in =
        let inner : Only p (within e tag n) = inner_only p e tag n only in
        kept_item (erases e tag n) _ _ (items_without p (item declared set rest)) (never (erases e tag n) (p tag) (λ h. only tag (erases_changes e tag n h)) stays_in)
        (items_alike declared _ _ _ _ (with_same (element_of (within e tag n)) (changed (within e tag n) set) (element_only (within e tag n) inner) ∙ changed_same (within e tag n) set inner) (items_same e tag (suc n) rest only stays_in))

  -- ---- data sets in which nothing is open

  then_none : (a : Trees) → then_trees a no_tree ≡ a
  then_none no_tree = refl
  then_none (leaf tag vr value rest) = ap (leaf tag vr value) (then_none rest)
  then_none (sequence tag vr declared items rest) = ap (sequence tag vr declared items) (then_none rest)
  then_none (fragments tag vr values rest) = ap (fragments tag vr values) (then_none rest)

  front_either : (b : Bool) (x y : Front) (set : Trees) → set_without p x ≡ set → set_without p y ≡ set → set_without p (if b then x else y) ≡ set
  front_either true x y set h k = h
  front_either false x y set h k = k

  tag_same : (tag : Tag) (x : NewElement) (f : Front) → NewOnly x → set_without p (with_tag tag x f) ≡ set_without p f
  tag_same tag x (front whole o reached closed) h = front_either (has tag whole || has_open tag o || not (is_passed tag reached closed)) _ _ (without p whole) refl (put_same tag x whole h)

  new_same : (x : NewElement) (f : Front) → NewOnly x → set_without p (with_new_so_far x f) ≡ set_without p f
  new_same no_element f h = refl
  new_same (new_leaf tag vr value) f h = tag_same tag (new_leaf tag vr value) f h
  new_same (new_sequence tag held) f h = tag_same tag (new_sequence tag held) f h

  edited_by_same : (e : Edit) (f : Front) → Only p e → WholeWith Anything f → set_without p (edited_by e f) ≡ set_without p f
  edited_by_same e (front whole nothing_open reached closed) only w = new_same (element_of e) _ (element_only e only) ∙ ap (without p) (then_none (changed e whole)) ∙ changed_same e whole only
  edited_by_same e (front whole (open_leaf tag vr size value) reached closed) only w = absurd (let none = w.1 in cc)
  edited_by_same e (front whole (open_sequence tag vr declared items last) reached closed) only w = absurd (let none = w.1 in cc)
  edited_by_same e (front whole (open_fragments tag vr values last) reached closed) only w = absurd (let none = w.1 in cc)

  pub edited_same : (es : List Edit) (f : Front) → AllOnly p es → WholeWith Anything f → set_without p (edited es f) ≡ set_without p f
  edited_same [] f only w = refl
  edited_same (e ∷ es) f only w = edited_same es (edited_by e f) only.1 (edited_by_fits Anything e f (any_fits e) w) ∙ edited_by_same e f only.0 w

-- the law
pub others_stay : (es : List Edit) (f : Front) → WholeWith Anything f → set_without (any_changes es) (edited es f) ≡ set_without (any_changes es) f
others_stay es f w = edited_same (any_changes es) es f (all_only es) w
