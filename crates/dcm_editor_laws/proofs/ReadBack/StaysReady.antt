-- What a target syntax has room for, it has room for after edits, where it has room for their new elements.
use Rattle.std.proofs.Common.{◌≡◌, ℕ, zero, suc, pred, ◌+◌, ◌≤◌, ◌<◌, List, [], ◌∷◌, length, Bool, true, false, refl, subst, arith}
use Rattle.std.specs.Prelude.{if◌then◌else◌, ◌&&◌, ◌||◌, not}
use Rattle.dcm_base.specs.declared.tag.Tag.{Tag}
use Rattle.dcm_base.specs.declared.vr.Vr.{Vr}
use Rattle.dcm_base.specs.declared.syntax.Syntax.{Syntax}
use Rattle.dcm_base.specs.declared.length.Length.TheVariants.{Known, Undefined}
use Rattle.dcm_base.specs.declared.form.Form.TheVariants.{Value as a_value, Sequence as a_sequence}
use Rattle.dcm_base.specs.Tables.Tag.{below, same_tag, is_private}
use Rattle.dcm_base.specs.Tree.Tree.{Trees, no_tree, leaf, sequence, fragments, Items, no_item, item, then_trees}
use Rattle.dcm_base.specs.Tree.Front.{Front, front, nothing_open, open_leaf, open_sequence, open_fragments}
use Rattle.dcm_base.specs.Bytes.Spelling.{form, read_as}
use Rattle.dcm_base.specs.Conversion.Recode.{even}
use Rattle.dcm_base.specs.Conversion.Normal.{normal_vr, normal_sequence_vr}
use Rattle.dcm_base.proofs.Dictionaries.TagOrder.{tag_is}
use Rattle.dcm_sinks.proofs.ReadBack.HasRoom.{IsElement, Ready, ReadyItems}
use Rattle.dcm_edits.specs.Edit.{number, every, PathEdit, step, insert, modify, erase, erase_item, Edit, on_path, modify_all, erase_all, erase_private, elsewhere, step_into, within, selects, Fate, stays, becomes, goes, path_fate, fate, settled, erases, has, has_open, put, NewElement, no_element, new_leaf, new_sequence, before, around, new_element, element_of, with_new, changed, changed_items, is_passed, with_tag, with_new_so_far, edited_by, edited}
use Rattle.dcm_edits.specs.Bounds.{steps, depth, AreWithin}
use Rattle.dcm_edits.proofs.Overlapping.Items.{depth-within}
use Rattle.dcm_base.specs.Tables.Dictionary.{vr_in}
use Rattle.dcm_base.specs.declared.dictionary.Dictionary.TheVariants.{Standard, Signed}

-- ---- the elements that edits name

-- a value of this tag
abbrev pub LeafReady : Syntax → Tag → Vr → List ℕ → Type 0
LeafReady s t vr v = IsElement t × (length v < 0xFFFFFFFF) × (form s (read_as s t (normal_vr s t vr (length v))) (Known (even (length v))) ≡ a_value)

-- a sequence of this tag
abbrev pub StepReady : Syntax → Tag → Type 0
StepReady s t = IsElement t × (form s (normal_sequence_vr s t) Undefined ≡ a_sequence)

-- whatever the sign of the pixels, it has one representation
abbrev pub Steady : Tag → Type 0
Steady t = vr_in Signed t ≡ vr_in Standard t

abbrev pub PathReady : Syntax → PathEdit → Type 0
PathReady s (step tag index edit) = StepReady s tag × PathReady s edit
PathReady s (insert tag vr value) = LeafReady s tag vr value
PathReady s (modify tag vr value) = LeafReady s tag vr value
PathReady s (erase tag) = Unit {0}
PathReady s (erase_item tag index) = Unit {0}

abbrev pub EditReady : Syntax → Edit → Type 0
EditReady s (on_path edit) = PathReady s edit
EditReady s (modify_all tag vr value) = LeafReady s tag vr value × Steady tag
EditReady s (erase_all tag) = Unit {0}
EditReady s erase_private = Unit {0}
EditReady s elsewhere = Unit {0}

abbrev pub AreReady : Syntax → List Edit → Type 0
AreReady s [] = Unit {0}
AreReady s (e ∷ es) = EditReady s e × AreReady s es

-- ---- new elements

abbrev NewReady : Syntax → ℕ → NewElement → Type 0
NewReady s n no_element = Unit {0}
NewReady s n (new_leaf tag vr value) = LeafReady s tag vr value
NewReady s n (new_sequence tag held) = StepReady s tag × (n < 64) × Ready s (suc n) held

-- what an element of this tag becomes
abbrev FateReady : Syntax → Tag → Fate → Type 0
FateReady s t stays = Unit {0}
FateReady s t (becomes vr value) = LeafReady s t vr value
FateReady s t goes = Unit {0}

module _ (s : Syntax) where
  around_ready : (n : ℕ) (tag : Tag) (x : NewElement) → n < 64 → StepReady s tag → NewReady s (suc n) x → NewReady s n (around tag x)
  unfolding Ready
  around_ready n tag no_element p r h = tt
  around_ready n tag (new_leaf t vr value) p r h = (r, p, (λ k. h, tt))
  around_ready n tag (new_sequence t held) p r (step_is, deep, set) = (r, p, (λ k. (step_is.0, deep, step_is.1, (set, tt)), tt))

  new_ready : (n : ℕ) (edit : PathEdit) → steps edit + n ≤ 64 → PathReady s edit → NewReady s n (new_element edit)
  new_ready n (insert tag vr value) h r = r
  new_ready n (step tag (number zero) edit) h (first, more) = around_ready n tag (new_element edit) (omega arith) first (new_ready (suc n) edit (omega arith) more)
  new_ready n (step tag (number (suc k)) edit) h r = tt
  new_ready n (step tag every edit) h r = tt
  new_ready n (modify tag vr value) h r = tt
  new_ready n (erase tag) h r = tt
  new_ready n (erase_item tag index) h r = tt

  element_ready : (n : ℕ) (e : Edit) → depth e + n ≤ 64 → EditReady s e → NewReady s n (element_of e)
  element_ready n (on_path edit) h r = new_ready n edit h r
  element_ready n (modify_all tag vr value) h r = tt
  element_ready n (erase_all tag) h r = tt
  element_ready n erase_private h r = tt
  element_ready n elsewhere h r = tt

  before_ready : (n : ℕ) (x : NewElement) (set : Trees) → NewReady s n x → Ready s n set → Ready s n (before x set)
  unfolding Ready
  before_ready n no_element set h k = k
  before_ready n (new_leaf tag vr value) set h k = (λ e. h, k)
  before_ready n (new_sequence tag held) set (step_is, deep, inner) k = (λ e. (step_is.0, deep, step_is.1, (inner, tt)), k)

  if_ready : (n : ℕ) (b : Bool) (x y : Trees) → Ready s n x → Ready s n y → Ready s n (if b then x else y)
  if_ready n true x y h k = h
  if_ready n false x y h k = k

  put_ready : (n : ℕ) (t : Tag) (x : NewElement) (set : Trees) → NewReady s n x → Ready s n set → Ready s n (put t x set)
  unfolding Ready
  put_ready n t x no_tree h k = before_ready n x no_tree h tt
  put_ready n t x (leaf tag vr value rest) h k = if_ready n (below t tag) _ _ (before_ready n x (leaf tag vr value rest) h k) (k.0, put_ready n t x rest h k.1)
  put_ready n t x (sequence tag vr declared items rest) h k =
      if_ready n (below t tag) _ _ (before_ready n x (sequence tag vr declared items rest) h k) (k.0, put_ready n t x rest h k.1)
  put_ready n t x (fragments tag vr values rest) h k = if_ready n (below t tag) _ _ (before_ready n x (fragments tag vr values rest) h k) (k.0, put_ready n t x rest h k.1)

  with_ready : (n : ℕ) (x : NewElement) (set : Trees) → NewReady s n x → Ready s n set → Ready s n (with_new x set)
  with_ready n no_element set h k = k
  with_ready n (new_leaf tag vr value) set h k = if_ready n (has tag set) _ _ k (put_ready n tag (new_leaf tag vr value) set h k)
  with_ready n (new_sequence tag held) set h k = if_ready n (has tag set) _ _ k (put_ready n tag (new_sequence tag held) set h k)

  -- ---- fates

  same_ready : (tag t : Tag) (vr : Vr) (value : List ℕ) (c : Bool) → same_tag tag t ≡ c → LeafReady s tag vr value → FateReady s t (if c then becomes vr value else stays)
  same_ready tag t vr value true e h = subst (λ (x : Tag). LeafReady s x vr value) (tag_is tag t e) h
  same_ready tag t vr value false e h = tt

  gone_ready : (t : Tag) (c : Bool) → FateReady s t (if c then goes else stays)
  gone_ready t true = tt
  gone_ready t false = tt

  path_fate_ready : (edit : PathEdit) (t : Tag) → PathReady s edit → FateReady s t (path_fate edit t)
  path_fate_ready (insert tag vr value) t h = same_ready tag t vr value (same_tag tag t) refl h
  path_fate_ready (modify tag vr value) t h = same_ready tag t vr value (same_tag tag t) refl h
  path_fate_ready (erase tag) t h = gone_ready t (same_tag tag t)
  path_fate_ready (step tag index edit) t h = tt
  path_fate_ready (erase_item tag index) t h = tt

  fate_ready : (e : Edit) (t : Tag) → EditReady s e → FateReady s t (fate e t)
  fate_ready (on_path edit) t h = path_fate_ready edit t h
  fate_ready (modify_all tag vr value) t h = same_ready tag t vr value (same_tag tag t) refl h.0
  fate_ready (erase_all tag) t h = gone_ready t (same_tag tag t)
  fate_ready erase_private t h = gone_ready t (is_private t)
  fate_ready elsewhere t h = tt

  settled_ready : (n : ℕ) (f : Fate) (tag : Tag) (k : Trees → Trees) (rest : Trees) → FateReady s tag f → Ready s n (k rest) → Ready s n rest → Ready s n (settled f tag k rest)
  unfolding Ready
  settled_ready n stays tag k rest f h g = h
  settled_ready n (becomes vr value) tag k rest f h g = (λ e. f, g)
  settled_ready n goes tag k rest f h g = g

  -- ---- closed data sets

  step_inside : (edit : PathEdit) (tag : Tag) (i : ℕ) → PathReady s edit → EditReady s (step_into edit tag i)
  step_inside (step t index edit) tag i h = by_test (same_tag t tag) (selects index i)
    where
      by_test : (a b : Bool) → EditReady s (if a && b then on_path edit else elsewhere)
      by_test true true = h.1
      by_test true false = tt
      by_test false b = tt
  step_inside (insert t vr value) tag i h = tt
  step_inside (modify t vr value) tag i h = tt
  step_inside (erase t) tag i h = tt
  step_inside (erase_item t index) tag i h = tt

  ready_inside : (e : Edit) (tag : Tag) (i : ℕ) → EditReady s e → EditReady s (within e tag i)
  ready_inside (on_path edit) tag i h = step_inside edit tag i h
  ready_inside (modify_all t vr value) tag i h = h
  ready_inside (erase_all t) tag i h = tt
  ready_inside erase_private tag i h = tt
  ready_inside elsewhere tag i h = tt

  items_if : (n : ℕ) (b : Bool) (x y : Items) → ReadyItems s n x → ReadyItems s n y → ReadyItems s n (if b then x else y)
  items_if n true x y h k = h
  items_if n false x y h k = k

  depth_inside : (n : ℕ) (e : Edit) (tag : Tag) (k : ℕ) → depth e + n ≤ 64 → n < 64 → depth (within e tag k) + suc n ≤ 64
  depth_inside n e tag k h p = less (depth e) (depth (within e tag k)) h (depth-within e tag k (depth e) (omega arith))
    where
      less : (d i : ℕ) → d + n ≤ 64 → i ≤ pred d → i + suc n ≤ 64
      less zero i h q = omega arith
      less (suc d) i h q = omega arith

  mutual
    unfolding Ready

    changed_ready : (n : ℕ) (e : Edit) (set : Trees) → depth e + n ≤ 64 → EditReady s e → Ready s n set → Ready s n (changed e set)
    changed_ready n e no_tree h r k = tt
    changed_ready n e (leaf tag vr value rest) h r k =
        let more = changed_ready n e rest h r k.1 in
        settled_ready n (fate e tag) tag (leaf tag vr value) (changed e rest) (fate_ready e tag r) (k.0, more) more
    changed_ready n e (sequence tag vr declared items rest) h r k =
        let more = changed_ready n e rest h r k.1 in
        settled_ready n (fate e tag) tag (sequence tag vr declared (changed_items e tag 0 items)) (changed e rest) (fate_ready e tag r)
        (λ u. ((k.0 u).0, (k.0 u).1, (k.0 u).2, changed_items_ready n e tag 0 items h (k.0 u).1 r (k.0 u).3), more) more
    changed_ready n e (fragments tag vr values rest) h r k =
        let more = changed_ready n e rest h r k.1 in
        settled_ready n (fate e tag) tag (fragments tag vr values) (changed e rest) (fate_ready e tag r) (k.0, more) more

    changed_items_ready : (n : ℕ) (e : Edit) (tag : Tag) (i : ℕ) (items : Items) → depth e + n ≤ 64 → n < 64 → EditReady s e → ReadyItems s (suc n) items → ReadyItems s (suc n) (changed_items e tag i items)
    changed_items_ready n e tag i no_item h p r k = tt
    changed_items_ready n e tag i (item declared set rest) h p r k =
        let inside : depth (within e tag i) + suc n ≤ 64 = depth_inside n e tag i h p in
        let inner : EditReady s (within e tag i) = ready_inside e tag i r in
        let more = changed_items_ready n e tag (suc i) rest h p r k.1 in
        items_if (suc n) (erases e tag i) _ _ more
        (with_ready (suc n) (element_of (within e tag i)) (changed (within e tag i) set) (element_ready (suc n) (within e tag i) inside inner) (changed_ready (suc n) (within e tag i) set inside inner k.0), more)

  -- ---- data sets in which nothing is open

  then_ready : (n : ℕ) (a : Trees) → Ready s n a → Ready s n (then_trees a no_tree)
  unfolding Ready
  then_ready n no_tree h = tt
  then_ready n (leaf tag vr value rest) h = (h.0, then_ready n rest h.1)
  then_ready n (sequence tag vr declared items rest) h = (h.0, then_ready n rest h.1)
  then_ready n (fragments tag vr values rest) h = (h.0, then_ready n rest h.1)

-- nothing is open, and the target has room for what is there
abbrev pub FrontReady : Syntax → Front → Type 0
FrontReady s (front whole o reached closed) = Ready s 0 whole × (o ≡ nothing_open)

module _ (s : Syntax) where
  front_if : (b : Bool) (x y : Front) → FrontReady s x → FrontReady s y → FrontReady s (if b then x else y)
  front_if true x y h k = h
  front_if false x y h k = k

  tag_ready : (tag : Tag) (x : NewElement) (f : Front) → NewReady s 0 x → FrontReady s f → FrontReady s (with_tag tag x f)
  tag_ready tag x (front whole o reached closed) h k =
      front_if (has tag whole || has_open tag o || not (is_passed tag reached closed)) _ _ k (put_ready s 0 tag x whole h k.0, k.1)

  new_so_far_ready : (x : NewElement) (f : Front) → NewReady s 0 x → FrontReady s f → FrontReady s (with_new_so_far x f)
  new_so_far_ready no_element f h k = k
  new_so_far_ready (new_leaf tag vr value) f h k = tag_ready tag (new_leaf tag vr value) f h k
  new_so_far_ready (new_sequence tag held) f h k = tag_ready tag (new_sequence tag held) f h k

  edited_by_ready : (e : Edit) (f : Front) → depth e + 0 ≤ 64 → EditReady s e → FrontReady s f → FrontReady s (edited_by e f)
  edited_by_ready e (front whole nothing_open reached closed) h r k =
      new_so_far_ready (element_of e) _ (element_ready s 0 e h r) (then_ready s 0 (changed e whole) (changed_ready s 0 e whole h r k.0), refl)
  edited_by_ready e (front whole (open_leaf tag vr size value) reached closed) h r k = absurd (let none = k.1 in cc)
  edited_by_ready e (front whole (open_sequence tag vr declared items last) reached closed) h r k = absurd (let none = k.1 in cc)
  edited_by_ready e (front whole (open_fragments tag vr values last) reached closed) h r k = absurd (let none = k.1 in cc)

  pub edited_ready : (es : List Edit) (f : Front) → AreWithin 64 es → AreReady s es → FrontReady s f → FrontReady s (edited es f)
  edited_ready [] f h r k = k
  edited_ready (e ∷ es) f h r k = let short : depth e ≤ 64 = h.0 in edited_ready es (edited_by e f) h.1 r.1 (edited_by_ready e f (omega (arith, short)) r.0 k)
