-- How deep a data set is, and that edits make it no deeper than their paths.
use Rattle.std.proofs.Common.{ℕ, zero, suc, pred, ◌+◌, ◌≤◌, List, [], ◌∷◌, Bool, true, false, arith}
use Rattle.std.specs.Prelude.{if◌then◌else◌, ◌||◌, not}
use Rattle.dcm_base.specs.declared.tag.Tag.{Tag}
use Rattle.dcm_base.specs.Tables.Tag.{below}
use Rattle.dcm_base.specs.Tree.Tree.{Trees, no_tree, leaf, sequence, fragments, Items, no_item, item, then_trees, item_count}
use Rattle.dcm_base.specs.Tree.Front.{Front, front, OpenTree, nothing_open, open_leaf, open_sequence, open_fragments, OpenItem, no_open_item, open_item}
use Rattle.dcm_edits.specs.Edit.{number, every, PathEdit, step, insert, modify, erase, erase_item, Edit, on_path, modify_all, erase_all, erase_private, elsewhere, within, Fate, stays, becomes, goes, fate, settled, erases, has, has_open, put, NewElement, no_element, new_leaf, new_sequence, before, around, new_element, element_of, with_new, changed, changed_items, is_passed, with_tag, with_new_so_far, made_whole, open_made_whole, while_it_stays, edited_by, still_open, open_item_by, edited}
use Rattle.dcm_edits.proofs.Overlapping.Items.{steps, depth, AreWithin, depth-within}

-- no more than 64 sequences and fragment lists are open at a time, where so many are around
abbrev mutual
  pub IsShallow : ℕ → Trees → Type 0
  IsShallow n no_tree = Unit {0}
  IsShallow n (leaf tag vr value rest) = IsShallow n rest
  IsShallow n (sequence tag vr declared items rest) = (suc n ≤ 64) × AreShallow (suc n) items × IsShallow n rest
  IsShallow n (fragments tag vr values rest) = (suc n ≤ 64) × IsShallow n rest

  pub AreShallow : ℕ → Items → Type 0
  AreShallow n no_item = Unit {0}
  AreShallow n (item declared set rest) = IsShallow n set × AreShallow n rest

abbrev mutual
  pub FrontShallow : ℕ → Front → Type 0
  FrontShallow n (front whole o reached closed) = IsShallow n whole × OpenShallow n o

  pub OpenShallow : ℕ → OpenTree → Type 0
  OpenShallow n nothing_open = Unit {0}
  OpenShallow n (open_leaf tag vr size value) = Unit {0}
  OpenShallow n (open_sequence tag vr declared items last) = (suc n ≤ 64) × AreShallow (suc n) items × ItemShallow (suc n) last
  OpenShallow n (open_fragments tag vr values last) = suc n ≤ 64

  pub ItemShallow : ℕ → OpenItem → Type 0
  ItemShallow n no_open_item = Unit {0}
  ItemShallow n (open_item declared set) = FrontShallow n set

-- ---- new elements

abbrev pub NewShallow : ℕ → NewElement → Type 0
NewShallow n no_element = Unit {0}
NewShallow n (new_leaf tag vr value) = Unit {0}
NewShallow n (new_sequence tag held) = (suc n ≤ 64) × IsShallow (suc n) held

around_shallow : (n : ℕ) (tag : Tag) (x : NewElement) → suc n ≤ 64 → NewShallow (suc n) x → NewShallow n (around tag x)
around_shallow n tag no_element p h = tt
around_shallow n tag (new_leaf t vr value) p h = (p, tt)
around_shallow n tag (new_sequence t held) p h = (p, (h.0, (h.1, tt), tt))

new_shallow : (n : ℕ) (edit : PathEdit) → steps edit + n ≤ 64 → NewShallow n (new_element edit)
new_shallow n (insert tag vr value) h = tt
new_shallow n (step tag (number zero) edit) h = around_shallow n tag (new_element edit) (omega arith) (new_shallow (suc n) edit (omega arith))
new_shallow n (step tag (number (suc k)) edit) h = tt
new_shallow n (step tag every edit) h = tt
new_shallow n (modify tag vr value) h = tt
new_shallow n (erase tag) h = tt
new_shallow n (erase_item tag index) h = tt

element_shallow : (n : ℕ) (e : Edit) → depth e + n ≤ 64 → NewShallow n (element_of e)
element_shallow n (on_path edit) h = new_shallow n edit h
element_shallow n (modify_all tag vr value) h = tt
element_shallow n (erase_all tag) h = tt
element_shallow n erase_private h = tt
element_shallow n elsewhere h = tt

before_shallow : (n : ℕ) (x : NewElement) (set : Trees) → NewShallow n x → IsShallow n set → IsShallow n (before x set)
before_shallow n no_element set h k = k
before_shallow n (new_leaf tag vr value) set h k = k
before_shallow n (new_sequence tag held) set h k = (h.0, (h.1, tt), k)

if_shallow : (n : ℕ) (b : Bool) (x y : Trees) → IsShallow n x → IsShallow n y → IsShallow n (if b then x else y)
if_shallow n true x y h k = h
if_shallow n false x y h k = k

put_shallow : (n : ℕ) (t : Tag) (x : NewElement) (set : Trees) → NewShallow n x → IsShallow n set → IsShallow n (put t x set)
put_shallow n t x no_tree h k = before_shallow n x no_tree h tt
put_shallow n t x (leaf tag vr value rest) h k = if_shallow n (below t tag) _ _ (before_shallow n x (leaf tag vr value rest) h k) (put_shallow n t x rest h k)
put_shallow n t x (sequence tag vr declared items rest) h k =
    if_shallow n (below t tag) _ _ (before_shallow n x (sequence tag vr declared items rest) h k) (k.0, k.1, put_shallow n t x rest h k.2)
put_shallow n t x (fragments tag vr values rest) h k = if_shallow n (below t tag) _ _ (before_shallow n x (fragments tag vr values rest) h k) (k.0, put_shallow n t x rest h k.1)

with_shallow : (n : ℕ) (x : NewElement) (set : Trees) → NewShallow n x → IsShallow n set → IsShallow n (with_new x set)
with_shallow n no_element set h k = k
with_shallow n (new_leaf tag vr value) set h k = if_shallow n (has tag set) _ _ k (put_shallow n tag (new_leaf tag vr value) set h k)
with_shallow n (new_sequence tag held) set h k = if_shallow n (has tag set) _ _ k (put_shallow n tag (new_sequence tag held) set h k)

-- ---- closed data sets

settled_shallow : (n : ℕ) (f : Fate) (tag : Tag) (k : Trees → Trees) (rest : Trees) → IsShallow n (k rest) → IsShallow n rest → IsShallow n (settled f tag k rest)
settled_shallow n stays tag k rest h g = h
settled_shallow n (becomes vr value) tag k rest h g = g
settled_shallow n goes tag k rest h g = g

items_if : (n : ℕ) (b : Bool) (x y : Items) → AreShallow n x → AreShallow n y → AreShallow n (if b then x else y)
items_if n true x y h k = h
items_if n false x y h k = k

depth_inside : (n : ℕ) (e : Edit) (tag : Tag) (k : ℕ) → depth e + n ≤ 64 → suc n ≤ 64 → depth (within e tag k) + suc n ≤ 64
depth_inside n e tag k h p = less (depth e) (depth (within e tag k)) h (depth-within e tag k (depth e) (omega arith))
  where
    less : (d i : ℕ) → d + n ≤ 64 → i ≤ pred d → i + suc n ≤ 64
    less zero i h q = omega arith
    less (suc d) i h q = omega arith

mutual
  changed_shallow : (n : ℕ) (e : Edit) (set : Trees) → depth e + n ≤ 64 → IsShallow n set → IsShallow n (changed e set)
  changed_shallow n e no_tree h k = tt
  changed_shallow n e (leaf tag vr value rest) h k =
      let more = changed_shallow n e rest h k in
      settled_shallow n (fate e tag) tag (leaf tag vr value) (changed e rest) more more
  changed_shallow n e (sequence tag vr declared items rest) h k =
      let more = changed_shallow n e rest h k.2 in
      settled_shallow n (fate e tag) tag (sequence tag vr declared (changed_items e tag 0 items)) (changed e rest) (k.0, changed_items_shallow n e tag 0 items h k.0 k.1, more) more
  changed_shallow n e (fragments tag vr values rest) h k =
      let more = changed_shallow n e rest h k.1 in
      settled_shallow n (fate e tag) tag (fragments tag vr values) (changed e rest) (k.0, more) more

  changed_items_shallow : (n : ℕ) (e : Edit) (tag : Tag) (i : ℕ) (items : Items) → depth e + n ≤ 64 → suc n ≤ 64 → AreShallow (suc n) items → AreShallow (suc n) (changed_items e tag i items)
  changed_items_shallow n e tag i no_item h p k = tt
  changed_items_shallow n e tag i (item declared set rest) h p k =
      let inside : depth (within e tag i) + suc n ≤ 64 = depth_inside n e tag i h p in
      let more = changed_items_shallow n e tag (suc i) rest h p k.1 in
      items_if (suc n) (erases e tag i) _ _ more
      (with_shallow (suc n) (element_of (within e tag i)) (changed (within e tag i) set) (element_shallow (suc n) (within e tag i) inside) (changed_shallow (suc n) (within e tag i) set inside k.0), more)

-- ---- data sets as far as they were read

then_shallow : (n : ℕ) (a b : Trees) → IsShallow n a → IsShallow n b → IsShallow n (then_trees a b)
then_shallow n no_tree b h k = k
then_shallow n (leaf tag vr value rest) b h k = then_shallow n rest b h k
then_shallow n (sequence tag vr declared items rest) b h k = (h.0, h.1, then_shallow n rest b h.2 k)
then_shallow n (fragments tag vr values rest) b h k = (h.0, then_shallow n rest b h.1 k)

made_shallow : (n : ℕ) (f : Fate) (tag : Tag) → IsShallow n (made_whole f tag)
made_shallow n stays tag = tt
made_shallow n (becomes vr value) tag = tt
made_shallow n goes tag = tt

open_made_shallow : (n : ℕ) (e : Edit) (o : OpenTree) → IsShallow n (open_made_whole e o)
open_made_shallow n e nothing_open = tt
open_made_shallow n e (open_leaf tag vr size value) = made_shallow n (fate e tag) tag
open_made_shallow n e (open_sequence tag vr declared items last) = made_shallow n (fate e tag) tag
open_made_shallow n e (open_fragments tag vr values last) = made_shallow n (fate e tag) tag

while_shallow : (n : ℕ) (f : Fate) (o : OpenTree) → OpenShallow n o → OpenShallow n (while_it_stays f o)
while_shallow n stays o h = h
while_shallow n (becomes vr value) o h = tt
while_shallow n goes o h = tt

front_if : (n : ℕ) (b : Bool) (x y : Front) → FrontShallow n x → FrontShallow n y → FrontShallow n (if b then x else y)
front_if n true x y h k = h
front_if n false x y h k = k

tag_shallow : (n : ℕ) (tag : Tag) (x : NewElement) (f : Front) → NewShallow n x → FrontShallow n f → FrontShallow n (with_tag tag x f)
tag_shallow n tag x (front whole o reached closed) h k =
    front_if n (has tag whole || has_open tag o || not (is_passed tag reached closed)) _ _ k (put_shallow n tag x whole h k.0, k.1)

new_so_far_shallow : (n : ℕ) (x : NewElement) (f : Front) → NewShallow n x → FrontShallow n f → FrontShallow n (with_new_so_far x f)
new_so_far_shallow n no_element f h k = k
new_so_far_shallow n (new_leaf tag vr value) f h k = tag_shallow n tag (new_leaf tag vr value) f h k
new_so_far_shallow n (new_sequence tag held) f h k = tag_shallow n tag (new_sequence tag held) f h k

open_if : (n : ℕ) (b : Bool) (x : OpenItem) → ItemShallow n x → ItemShallow n (if b then no_open_item else x)
open_if n true x h = tt
open_if n false x h = h

mutual
  edited_by_shallow : (n : ℕ) (e : Edit) (f : Front) → depth e + n ≤ 64 → FrontShallow n f → FrontShallow n (edited_by e f)
  edited_by_shallow n e (front whole o reached closed) h k =
      new_so_far_shallow n (element_of e) _ (element_shallow n e h)
      (then_shallow n (changed e whole) (open_made_whole e o) (changed_shallow n e whole h k.0) (open_made_shallow n e o), still_shallow n e o h k.1)

  still_shallow : (n : ℕ) (e : Edit) (o : OpenTree) → depth e + n ≤ 64 → OpenShallow n o → OpenShallow n (still_open e o)
  still_shallow n e nothing_open h k = tt
  still_shallow n e (open_leaf tag vr size value) h k = while_shallow n (fate e tag) (open_leaf tag vr size value) k
  still_shallow n e (open_sequence tag vr declared items last) h k =
      while_shallow n (fate e tag) (open_sequence tag vr declared (changed_items e tag 0 items) (open_item_by e tag (item_count items) last))
      (k.0, changed_items_shallow n e tag 0 items h k.0 k.1, open_item_shallow n e tag (item_count items) last h k.0 k.2)
  still_shallow n e (open_fragments tag vr values last) h k = while_shallow n (fate e tag) (open_fragments tag vr values last) k

  open_item_shallow : (n : ℕ) (e : Edit) (tag : Tag) (i : ℕ) (o : OpenItem) → depth e + n ≤ 64 → suc n ≤ 64 → ItemShallow (suc n) o → ItemShallow (suc n) (open_item_by e tag i o)
  open_item_shallow n e tag i no_open_item h p k = tt
  open_item_shallow n e tag i (open_item declared set) h p k =
      open_if (suc n) (erases e tag i) (open_item declared (edited_by (within e tag i) set)) (edited_by_shallow (suc n) (within e tag i) set (depth_inside n e tag i h p) k)

pub edited_shallow : (es : List Edit) (f : Front) → AreWithin 64 es → FrontShallow 0 f → FrontShallow 0 (edited es f)
edited_shallow [] f h k = k
edited_shallow (e ∷ es) f h k = let short : depth e ≤ 64 = h.0 in edited_shallow es (edited_by e f) h.1 (edited_by_shallow 0 e f (omega arith) k)
