-- What is written of edited bytes is bytes, where the new values are.
use Rattle.std.proofs.Common.{ℕ, zero, suc, ◌<◌, ◌%◌, List, [], ◌∷◌, ◌++◌, length, Bool, true, false, arith}
use Rattle.std.specs.Prelude.{if◌then◌else◌, ◌&&◌, ◌==◌, flat_map}
use Rattle.std.specs.Int.{Width, w16, w32, byte_len, bytes_low_first, bytes_high_first}
use Rattle.dcm_lemmas.proofs.Numbers.{byte_below}
use Rattle.dcm_base.specs.declared.tag.Tag.{Tag}
use Rattle.dcm_base.specs.declared.vr.Vr.{Vr}
use Rattle.dcm_base.specs.declared.vr.Vr.TheVariants.{AE, SQ, UN}
use Rattle.dcm_base.specs.declared.syntax.Syntax.{Syntax}
use Rattle.dcm_base.specs.declared.syntax.Syntax.TheVariants.{Implicit as implicit_in, Little as little_in, Big as big_in}
use Rattle.dcm_base.specs.declared.length.Length.{Length}
use Rattle.dcm_base.specs.declared.length.Length.TheVariants.{Known, Undefined}
use Rattle.dcm_base.specs.Tables.Tag.{below, same_tag, is_private, item_tag, item_end_tag, sequence_end_tag}
use Rattle.dcm_base.specs.Tree.Tree.{Trees, no_tree, leaf, sequence, fragments, Items, no_item, item}
use Rattle.dcm_base.specs.Tree.Value.{order, evened}
use Rattle.dcm_base.specs.Tables.Representation.{letters, is_long, pad}
use Rattle.dcm_base.specs.Conversion.Recode.{number_bytes, tag_bytes, length_number, plain_head, head, even, too_long, leaf_head, leaf_bytes, recoded_leaf, item_head, item_delimiter, recoded_fragment, recode_set, recode_items}
use Rattle.dcm_base.proofs.DumpsBack.Texts.{Bytes}
use Rattle.dcm_base.proofs.DumpsBack.Numbers.{Bytes-append}
use Rattle.dcm_edits.specs.Edit.{number, every, PathEdit, step, insert, modify, erase, erase_item, Edit, on_path, modify_all, erase_all, erase_private, elsewhere, step_into, within, selects, Fate, stays, becomes, goes, path_fate, fate, settled, erases, has, put, NewElement, no_element, new_leaf, new_sequence, before, around, new_element, element_of, with_new, changed, changed_items, edited_set, edited_sets}
use Rattle.dcm_editor.proofs.ReadBack.BytesRead.{EachBytes, HoldsBytes, HoldBytes, order_bytes}

-- ---- new values of bytes

-- the new value of an edit is of bytes
abbrev pub PathBytes : PathEdit → Type 0
PathBytes (step t index edit) = PathBytes edit
PathBytes (insert t vr v) = Bytes v
PathBytes (modify t vr v) = Bytes v
PathBytes (erase t) = Unit {0}
PathBytes (erase_item t index) = Unit {0}

abbrev pub EditBytes : Edit → Type 0
EditBytes (on_path edit) = PathBytes edit
EditBytes (modify_all t vr v) = Bytes v
EditBytes (erase_all t) = Unit {0}
EditBytes erase_private = Unit {0}
EditBytes elsewhere = Unit {0}

abbrev NewBytes : NewElement → Type 0
NewBytes no_element = Unit {0}
NewBytes (new_leaf t vr v) = Bytes v
NewBytes (new_sequence t held) = HoldsBytes held

abbrev FateBytes : Fate → Type 0
FateBytes stays = Unit {0}
FateBytes (becomes vr v) = Bytes v
FateBytes goes = Unit {0}

-- ---- new elements

around_bytes : (t : Tag) (x : NewElement) → NewBytes x → NewBytes (around t x)
around_bytes t no_element h = tt
around_bytes t (new_leaf u vr v) h = (h, tt)
around_bytes t (new_sequence u held) h = ((h, tt), tt)

new_bytes : (edit : PathEdit) → PathBytes edit → NewBytes (new_element edit)
new_bytes (insert t vr v) h = h
new_bytes (step t (number zero) edit) h = around_bytes t (new_element edit) (new_bytes edit h)
new_bytes (step t (number (suc k)) edit) h = tt
new_bytes (step t every edit) h = tt
new_bytes (modify t vr v) h = tt
new_bytes (erase t) h = tt
new_bytes (erase_item t index) h = tt

element_bytes : (e : Edit) → EditBytes e → NewBytes (element_of e)
element_bytes (on_path edit) h = new_bytes edit h
element_bytes (modify_all t vr v) h = tt
element_bytes (erase_all t) h = tt
element_bytes erase_private h = tt
element_bytes elsewhere h = tt

before_bytes : (x : NewElement) (set : Trees) → NewBytes x → HoldsBytes set → HoldsBytes (before x set)
before_bytes no_element set h k = k
before_bytes (new_leaf t vr v) set h k = (h, k)
before_bytes (new_sequence t held) set h k = ((h, tt), k)

pub if_holds : (b : Bool) (x y : Trees) → HoldsBytes x → HoldsBytes y → HoldsBytes (if b then x else y)
if_holds true x y h k = h
if_holds false x y h k = k

put_bytes : (t : Tag) (x : NewElement) (set : Trees) → NewBytes x → HoldsBytes set → HoldsBytes (put t x set)
put_bytes t x no_tree h k = before_bytes x no_tree h tt
put_bytes t x (leaf u vr v rest) h k = if_holds (below t u) _ _ (before_bytes x (leaf u vr v rest) h k) (k.0, put_bytes t x rest h k.1)
put_bytes t x (sequence u vr declared items rest) h k = if_holds (below t u) _ _ (before_bytes x (sequence u vr declared items rest) h k) (k.0, put_bytes t x rest h k.1)
put_bytes t x (fragments u vr values rest) h k = if_holds (below t u) _ _ (before_bytes x (fragments u vr values rest) h k) (k.0, put_bytes t x rest h k.1)

with_bytes : (x : NewElement) (set : Trees) → NewBytes x → HoldsBytes set → HoldsBytes (with_new x set)
with_bytes no_element set h k = k
with_bytes (new_leaf t vr v) set h k = if_holds (has t set) _ _ k (put_bytes t (new_leaf t vr v) set h k)
with_bytes (new_sequence t held) set h k = if_holds (has t set) _ _ k (put_bytes t (new_sequence t held) set h k)

-- ---- fates

if_becomes : (c : Bool) (vr : Vr) (v : List ℕ) → Bytes v → FateBytes (if c then becomes vr v else stays)
if_becomes true vr v h = h
if_becomes false vr v h = tt

if_goes : (c : Bool) → FateBytes (if c then goes else stays)
if_goes true = tt
if_goes false = tt

path_fate_bytes : (edit : PathEdit) (t : Tag) → PathBytes edit → FateBytes (path_fate edit t)
path_fate_bytes (insert u vr v) t h = if_becomes (same_tag u t) vr v h
path_fate_bytes (modify u vr v) t h = if_becomes (same_tag u t) vr v h
path_fate_bytes (erase u) t h = if_goes (same_tag u t)
path_fate_bytes (step u index edit) t h = tt
path_fate_bytes (erase_item u index) t h = tt

fate_bytes : (e : Edit) (t : Tag) → EditBytes e → FateBytes (fate e t)
fate_bytes (on_path edit) t h = path_fate_bytes edit t h
fate_bytes (modify_all u vr v) t h = if_becomes (same_tag u t) vr v h
fate_bytes (erase_all u) t h = if_goes (same_tag u t)
fate_bytes erase_private t h = if_goes (is_private t)
fate_bytes elsewhere t h = tt

settled_bytes : (f : Fate) (t : Tag) (k : Trees → Trees) (rest : Trees) → FateBytes f → HoldsBytes (k rest) → HoldsBytes rest → HoldsBytes (settled f t k rest)
settled_bytes stays t k rest f h g = h
settled_bytes (becomes vr v) t k rest f h g = (f, g)
settled_bytes goes t k rest f h g = g

-- ---- data sets

if_inside : (c : Bool) (edit : PathEdit) → PathBytes edit → EditBytes (if c then on_path edit else elsewhere)
if_inside true edit h = h
if_inside false edit h = tt

step_bytes : (edit : PathEdit) (t : Tag) (n : ℕ) → PathBytes edit → EditBytes (step_into edit t n)
step_bytes (step u index edit) t n h = if_inside (same_tag u t && selects index n) edit h
step_bytes (insert u vr v) t n h = tt
step_bytes (modify u vr v) t n h = tt
step_bytes (erase u) t n h = tt
step_bytes (erase_item u index) t n h = tt

within_bytes : (e : Edit) (t : Tag) (n : ℕ) → EditBytes e → EditBytes (within e t n)
within_bytes (on_path edit) t n h = step_bytes edit t n h
within_bytes (modify_all u vr v) t n h = h
within_bytes (erase_all u) t n h = tt
within_bytes erase_private t n h = tt
within_bytes elsewhere t n h = tt

if_hold : (b : Bool) (x y : Items) → HoldBytes x → HoldBytes y → HoldBytes (if b then x else y)
if_hold true x y h k = h
if_hold false x y h k = k

mutual
  changed_bytes : (e : Edit) (set : Trees) → EditBytes e → HoldsBytes set → HoldsBytes (changed e set)
  changed_bytes e no_tree r k = tt
  changed_bytes e (leaf t vr v rest) r k =
      let more = changed_bytes e rest r k.1 in
      settled_bytes (fate e t) t (leaf t vr v) (changed e rest) (fate_bytes e t r) (k.0, more) more
  changed_bytes e (sequence t vr declared items rest) r k =
      let more = changed_bytes e rest r k.1 in
      settled_bytes (fate e t) t (sequence t vr declared (changed_items e t 0 items)) (changed e rest) (fate_bytes e t r) (changed_items_bytes e t 0 items r k.0, more) more
  changed_bytes e (fragments t vr values rest) r k =
      let more = changed_bytes e rest r k.1 in
      settled_bytes (fate e t) t (fragments t vr values) (changed e rest) (fate_bytes e t r) (k.0, more) more

  changed_items_bytes : (e : Edit) (t : Tag) (n : ℕ) (items : Items) → EditBytes e → HoldBytes items → HoldBytes (changed_items e t n items)
  changed_items_bytes e t n no_item r k = tt
  changed_items_bytes e t n (item declared set rest) r k =
      let inner : EditBytes (within e t n) = within_bytes e t n r in
      let more = changed_items_bytes e t (suc n) rest r k.1 in
      if_hold (erases e t n) _ _ more
      (with_bytes (element_of (within e t n)) (changed (within e t n) set) (element_bytes (within e t n) inner) (changed_bytes (within e t n) set inner k.0), more)

abbrev pub AllEditBytes : List Edit → Type 0
AllEditBytes [] = Unit {0}
AllEditBytes (e ∷ es) = EditBytes e × AllEditBytes es

pub edited_bytes : (es : List Edit) (set : Trees) → AllEditBytes es → HoldsBytes set → HoldsBytes (edited_sets es set)
edited_bytes [] set r k = k
edited_bytes (e ∷ es) set r k = edited_bytes es (edited_set e set) r.1 (with_bytes (element_of e) (changed e set) (element_bytes e r.0) (changed_bytes e set r.0 k))

-- ---- what is written

pub low_bytes : (i k n : ℕ) → Bytes (bytes_low_first i k n)
low_bytes i zero n = tt
low_bytes i (suc k) n = (byte_below i n, low_bytes (suc i) k n)

high_bytes : (k n : ℕ) → Bytes (bytes_high_first k n)
high_bytes zero n = tt
high_bytes (suc k) n = (byte_below k n, high_bytes k n)

number_of_bytes : (s : Syntax) (w : Width) (n : ℕ) → Bytes (number_bytes s w n)
number_of_bytes (implicit_in d) w n = low_bytes 0 (byte_len w) n
number_of_bytes (little_in d) w n = low_bytes 0 (byte_len w) n
number_of_bytes (big_in d) w n = high_bytes (byte_len w) n

letter_bytes : (vr : Vr) → Bytes (letters vr)
unfolding letters
letter_bytes AE = (omega arith, (omega arith, tt))
letter_bytes _ = (omega arith, (omega arith, tt))

tag_is_bytes : (s : Syntax) (t : Tag) → Bytes (tag_bytes s t)
tag_is_bytes s t = Bytes-append (number_bytes s w16 t.group) _ (number_of_bytes s w16 t.group) (number_of_bytes s w16 t.element)

plain_bytes : (s : Syntax) (t : Tag) (l : Length) → Bytes (plain_head s t l)
plain_bytes s t l = Bytes-append (tag_bytes s t) _ (tag_is_bytes s t) (number_of_bytes s w32 (length_number l))

length_bytes : (s : Syntax) (n : ℕ) (c : Bool) → Bytes (if c then 0 ∷ 0 ∷ number_bytes s w32 n else number_bytes s w16 n)
length_bytes s n true = (omega arith, (omega arith, number_of_bytes s w32 n))
length_bytes s n false = number_of_bytes s w16 n

explicit_bytes : (s : Syntax) (t : Tag) (vr : Vr) (n : ℕ) → Bytes (tag_bytes s t ++ letters vr ++ (if is_long vr then 0 ∷ 0 ∷ number_bytes s w32 n else number_bytes s w16 n))
explicit_bytes s t vr n = Bytes-append (tag_bytes s t ++ letters vr) _ (Bytes-append (tag_bytes s t) _ (tag_is_bytes s t) (letter_bytes vr)) (length_bytes s n (is_long vr))

head_bytes : (s : Syntax) (t : Tag) (vr : Vr) (l : Length) → Bytes (head s t vr l)
head_bytes (implicit_in d) t vr l = plain_bytes (implicit_in d) t l
head_bytes (little_in d) t vr l = explicit_bytes (little_in d) t vr (length_number l)
head_bytes (big_in d) t vr l = explicit_bytes (big_in d) t vr (length_number l)

pad_byte : (vr : Vr) → pad vr < 256
pad_byte AE = omega arith
pad_byte _ = omega arith

pub if_bytes : (c : Bool) (x y : List ℕ) → Bytes x → Bytes y → Bytes (if c then x else y)
if_bytes true x y h k = h
if_bytes false x y h k = k

even_bytes : (p : ℕ) (v : List ℕ) → p < 256 → Bytes v → Bytes (evened p v)
even_bytes p v h k = if_bytes (length v % 2 == 0) _ _ k (Bytes-append v (p ∷ []) k (h, tt))

leaf_written : (s : Syntax) (t : Tag) (vr : Vr) (v : List ℕ) → Bytes v → Bytes (recoded_leaf s t vr v)
leaf_written s t vr v h =
    Bytes-append (leaf_head s t vr (length v)) _ (head_bytes s t (if too_long s vr (length v) then UN else vr) (Known (even (length v))))
    (even_bytes (pad vr) (leaf_bytes s vr (length v) v) (pad_byte vr) (if_bytes (too_long s vr (length v)) v (order s vr v) h (order_bytes s vr v h)))

fragments_written : (s : Syntax) (values : List (List ℕ)) → EachBytes values → Bytes (flat_map (recoded_fragment s) values)
fragments_written s [] h = tt
fragments_written s (v ∷ values) h =
    Bytes-append (recoded_fragment s v) _ (Bytes-append (item_head s (Known (even (length v)))) _ (plain_bytes s item_tag (Known (even (length v)))) (even_bytes 0 v (omega arith) h.0)) (fragments_written s values h.1)

unless_bytes : (c : Bool) (x rest : List ℕ) → Bytes x → Bytes rest → Bytes ((if c then [] else x) ++ rest)
unless_bytes true x rest h k = k
unless_bytes false x rest h k = Bytes-append x rest h k

mutual
  unfolding recode_set

  pub set_written : (s : Syntax) (x : Trees) → HoldsBytes x → Bytes (recode_set s x)
  set_written s no_tree h = tt
  set_written s (leaf t vr v rest) h = unless_bytes (t.element == 0) (recoded_leaf s t vr v) (recode_set s rest) (leaf_written s t vr v h.0) (set_written s rest h.1)
  set_written s (sequence t vr declared items rest) h =
      unless_bytes (t.element == 0) _ (recode_set s rest)
      (Bytes-append (head s t SQ Undefined ++ recode_items s items) _ (Bytes-append (head s t SQ Undefined) _ (head_bytes s t SQ Undefined) (items_written s items h.0)) (plain_bytes s sequence_end_tag (Known 0))) (set_written s rest h.1)
  set_written s (fragments t vr values rest) h =
      unless_bytes (t.element == 0) _ (recode_set s rest)
      (Bytes-append (head s t vr Undefined ++ flat_map (recoded_fragment s) values) _ (Bytes-append (head s t vr Undefined) _ (head_bytes s t vr Undefined) (fragments_written s values h.0)) (plain_bytes s sequence_end_tag (Known 0))) (set_written s rest h.1)

  items_written : (s : Syntax) (x : Items) → HoldBytes x → Bytes (recode_items s x)
  items_written s no_item h = tt
  items_written s (item declared set rest) h =
      Bytes-append (item_head s Undefined ++ recode_set s set ++ item_delimiter s) _
      (Bytes-append (item_head s Undefined ++ recode_set s set) _ (Bytes-append (item_head s Undefined) _ (plain_bytes s item_tag Undefined) (set_written s set h.0)) (plain_bytes s item_end_tag (Known 0))) (items_written s rest h.1)
