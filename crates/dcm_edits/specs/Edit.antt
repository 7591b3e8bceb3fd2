-- One edit of a data set.
use Rattle.std.specs.Prelude.{ℕ, List, [], ◌∷◌, Option, Some, None, Bool, true, false, ◌&&◌, ◌||◌, not, ◌==◌}
use Rattle.std.specs.Prelude.{if◌then◌else◌, zero, suc}
use Rattle.dcm_base.specs.declared.tag.Tag.{Tag}
use Rattle.dcm_base.specs.declared.vr.Vr.{Vr}
use Rattle.dcm_base.specs.declared.vr.Vr.TheVariants.{SQ}
use Rattle.dcm_base.specs.declared.length.Length.TheVariants.{Undefined}
use Rattle.dcm_base.specs.Tree.Tree.{Trees, no_tree, leaf, sequence, fragments, Items, no_item, item, then_trees}
use Rattle.dcm_base.specs.Tree.Tree.{item_count}
use Rattle.dcm_base.specs.Tree.Front.{Front, front, OpenTree, nothing_open, open_leaf, open_sequence, open_fragments}
use Rattle.dcm_base.specs.Tree.Front.{OpenItem, no_open_item, open_item}
use Rattle.dcm_base.specs.Tables.Tag.{same_tag, below, is_private}

-- which items of a sequence a step selects
pub data Index : Type 0 where
  number : (n : ℕ) → Index
  every : Index

abbrev pub selects : Index → ℕ → Bool
selects (number k) n = k == n
selects every n = true

-- an edit at the end of a path; each step of the path leads from a data set into the items of one of its sequences
pub data PathEdit : Type 0 where
  step : (tag : Tag) (index : Index) (edit : PathEdit) → PathEdit
  insert : (tag : Tag) (vr : Vr) (value : List ℕ) → PathEdit
  modify : (tag : Tag) (vr : Vr) (value : List ℕ) → PathEdit
  erase : (tag : Tag) → PathEdit
  erase_item : (tag : Tag) (index : Index) → PathEdit

-- what an edit asks of a data set; nothing, where it acts elsewhere
pub data Edit : Type 0 where
  on_path : (edit : PathEdit) → Edit
  modify_all : (tag : Tag) (vr : Vr) (value : List ℕ) → Edit
  erase_all : (tag : Tag) → Edit
  erase_private : Edit
  elsewhere : Edit

-- what an edit asks of the data set in item n of a sequence
abbrev pub step_into : PathEdit → Tag → ℕ → Edit
step_into (step tag index edit) sequence_tag n =
    if same_tag tag sequence_tag && selects index n then on_path edit else elsewhere
step_into _ sequence_tag n = elsewhere

abbrev pub within : Edit → Tag → ℕ → Edit
within (on_path edit) tag n = step_into edit tag n
within edit tag n = edit

-- what becomes of an element
pub data Fate : Type 0 where
  stays : Fate
  becomes : (vr : Vr) (value : List ℕ) → Fate
  goes : Fate

abbrev pub path_fate : PathEdit → Tag → Fate
path_fate (insert tag vr value) t = if same_tag tag t then becomes vr value else stays
path_fate (modify tag vr value) t = if same_tag tag t then becomes vr value else stays
path_fate (erase tag) t = if same_tag tag t then goes else stays
path_fate (step tag index edit) t = stays
path_fate (erase_item tag index) t = stays

abbrev pub fate : Edit → Tag → Fate
fate (on_path edit) t = path_fate edit t
fate (modify_all tag vr value) t = if same_tag tag t then becomes vr value else stays
fate (erase_all tag) t = if same_tag tag t then goes else stays
fate erase_private t = if is_private t then goes else stays
fate elsewhere t = stays

-- an element whose fate is known, before the elements that follow it
abbrev pub settled : Fate → Tag → (Trees → Trees) → Trees → Trees
settled stays tag element rest = element rest
settled (becomes vr value) tag element rest = leaf tag vr value rest
settled goes tag element rest = rest

-- whether item n of a sequence is erased
abbrev pub erases : Edit → Tag → ℕ → Bool
erases (on_path (erase_item tag index)) t n = same_tag tag t && selects index n
erases (on_path _) t n = false
erases _ t n = false

-- whether an element of the tag is there
abbrev pub has : Tag → Trees → Bool
has t no_tree = false
has t (leaf tag vr value rest) = same_tag t tag || has t rest
has t (sequence tag vr declared items rest) = same_tag t tag || has t rest
has t (fragments tag vr values rest) = same_tag t tag || has t rest

-- what an edit puts where the first tag of its path is missing: its leaf, or a sequence with one item that leads to it
pub data NewElement : Type 0 where
  no_element : NewElement
  new_leaf : (tag : Tag) (vr : Vr) (value : List ℕ) → NewElement
  new_sequence : (tag : Tag) (set : Trees) → NewElement

abbrev pub before : NewElement → Trees → Trees
before no_element rest = rest
before (new_leaf tag vr value) rest = leaf tag vr value rest
before (new_sequence tag set) rest = sequence tag SQ Undefined (item Undefined set no_item) rest

abbrev pub around : Tag → NewElement → NewElement
around tag no_element = no_element
around tag (new_leaf t vr value) = new_sequence tag (leaf t vr value no_tree)
around tag (new_sequence t set) = new_sequence tag (sequence t SQ Undefined (item Undefined set no_item) no_tree)

abbrev pub new_element : PathEdit → NewElement
new_element (insert tag vr value) = new_leaf tag vr value
new_element (step tag (number zero) edit) = around tag (new_element edit)
new_element (step tag (number (suc n)) edit) = no_element
new_element (step tag every edit) = no_element
new_element (modify tag vr value) = no_element
new_element (erase tag) = no_element
new_element (erase_item tag index) = no_element

abbrev pub element_of : Edit → NewElement
element_of (on_path edit) = new_element edit
element_of (modify_all tag vr value) = no_element
element_of (erase_all tag) = no_element
element_of erase_private = no_element
element_of elsewhere = no_element

-- a new element, before the first greater tag that is there, else at the end
abbrev pub put : Tag → NewElement → Trees → Trees
put t x no_tree = before x no_tree
put t x (leaf tag vr value rest) = if below t tag then before x (leaf tag vr value rest)
    else leaf tag vr value (put t x rest)
put t x (sequence tag vr declared items rest) =
    if below t tag then before x (sequence tag vr declared items rest)
    else sequence tag vr declared items (put t x rest)
put t x (fragments tag vr values rest) =
    if below t tag then before x (fragments tag vr values rest) else fragments tag vr values (put t x rest)

-- a new element in a closed data set, where its tag is missing
abbrev pub with_new : NewElement → Trees → Trees
with_new no_element set = set
with_new (new_leaf tag vr value) set = if has tag set then set else put tag (new_leaf tag vr value) set
with_new (new_sequence tag held) set = if has tag set then set else put tag (new_sequence tag held) set

abbrev pub with_missing : Edit → Trees → Trees
with_missing e set = with_new (element_of e) set

-- replaced and erased elements, here and in the items
abbrev mutual
  pub changed : Edit → Trees → Trees
  changed e no_tree = no_tree
  changed e (leaf tag vr value rest) = settled (fate e tag) tag (leaf tag vr value) (changed e rest)
  changed e (sequence tag vr declared items rest) =
      settled (fate e tag) tag (sequence tag vr declared (changed_items e tag 0 items)) (changed e rest)
  changed e (fragments tag vr values rest) = settled (fate e tag) tag (fragments tag vr values) (changed e rest)

  pub changed_items : Edit → Tag → ℕ → Items → Items
  changed_items e tag n no_item = no_item
  changed_items e tag n (item declared set rest) =
      if erases e tag n
      then changed_items e tag (suc n) rest
      else item declared (with_missing (within e tag n) (changed (within e tag n) set))
      (changed_items e tag (suc n) rest)

-- the edit of a closed data set
abbrev pub edited_set : Edit → Trees → Trees
edited_set e set = with_missing e (changed e set)

-- the edits of a closed data set, one after another
abbrev pub edited_sets : List Edit → Trees → Trees
edited_sets [] set = set
edited_sets (e ∷ es) set = edited_sets es (edited_set e set)

abbrev pub has_open : Tag → OpenTree → Bool
has_open t nothing_open = false
has_open t (open_leaf tag vr size value) = same_tag t tag
has_open t (open_sequence tag vr declared items last) = same_tag t tag
has_open t (open_fragments tag vr values last) = same_tag t tag

-- an element is above the tag: it is there, or its head was accepted and it was erased, or the data set has ended
abbrev pub is_passed : Tag → Option Tag → Bool → Bool
is_passed t None closed = closed
is_passed t (Some reached) closed = below t reached || closed

-- the same in a data set as far as it was read
abbrev pub with_tag : Tag → NewElement → Front → Front
with_tag tag x (front whole open_tree reached closed) =
    if has tag whole || has_open tag open_tree || not (is_passed tag reached closed)
    then front whole open_tree reached closed
    else front (put tag x whole) open_tree reached closed

abbrev pub with_new_so_far : NewElement → Front → Front
with_new_so_far no_element f = f
with_new_so_far (new_leaf tag vr value) f = with_tag tag (new_leaf tag vr value) f
with_new_so_far (new_sequence tag held) f = with_tag tag (new_sequence tag held) f

abbrev pub with_missing_so_far : Edit → Front → Front
with_missing_so_far e f = with_new_so_far (element_of e) f

-- a replaced open element, which is whole
abbrev pub made_whole : Fate → Tag → Trees
made_whole stays tag = no_tree
made_whole (becomes vr value) tag = leaf tag vr value no_tree
made_whole goes tag = no_tree

abbrev pub open_made_whole : Edit → OpenTree → Trees
open_made_whole e nothing_open = no_tree
open_made_whole e (open_leaf tag vr size value) = made_whole (fate e tag) tag
open_made_whole e (open_sequence tag vr declared items last) = made_whole (fate e tag) tag
open_made_whole e (open_fragments tag vr values last) = made_whole (fate e tag) tag

abbrev pub while_it_stays : Fate → OpenTree → OpenTree
while_it_stays stays open_tree = open_tree
while_it_stays (becomes vr value) open_tree = nothing_open
while_it_stays goes open_tree = nothing_open

-- one edit of a data set as far as it was read
abbrev mutual
  pub edited_by : Edit → Front → Front
  edited_by e (front whole open_tree reached closed) =
      with_missing_so_far e
      (front (then_trees (changed e whole) (open_made_whole e open_tree)) (still_open e open_tree) reached closed)

  pub still_open : Edit → OpenTree → OpenTree
  still_open e nothing_open = nothing_open
  still_open e (open_leaf tag vr size value) = while_it_stays (fate e tag) (open_leaf tag vr size value)
  still_open e (open_sequence tag vr declared items last) =
      while_it_stays (fate e tag)
      (open_sequence tag vr declared (changed_items e tag 0 items) (open_item_by e tag (item_count items) last))
  still_open e (open_fragments tag vr values last) = while_it_stays (fate e tag) (open_fragments tag vr values last)

  pub open_item_by : Edit → Tag → ℕ → OpenItem → OpenItem
  open_item_by e tag n no_open_item = no_open_item
  open_item_by e tag n (open_item declared set) =
      if erases e tag n then no_open_item else open_item declared (edited_by (within e tag n) set)

-- the edits one after another, in the order of the words
abbrev pub edited : List Edit → Front → Front
edited [] f = f
edited (e ∷ es) f = edited es (edited_by e f)

abbrev pub acts : Fate → Bool
acts stays = false
acts (becomes vr value) = true
acts goes = true

-- a data set in which an edit puts its element has a place for it, and so has one that lacks the sequence on its way
abbrev pub has_place_in : NewElement → Trees → Bool
has_place_in no_element set = false
has_place_in (new_leaf tag vr value) set = true
has_place_in (new_sequence tag held) set = not (has tag set)

abbrev pub has_place_so_far : NewElement → Front → Bool
has_place_so_far no_element f = false
has_place_so_far (new_leaf tag vr value) f = true
has_place_so_far (new_sequence tag held) (front whole open_tree reached closed) =
    not (has tag whole || has_open tag open_tree || not (is_passed tag reached closed))

-- whether the edit finds its place: its element or item, or for a new element the data set
abbrev mutual
  pub found_in : Edit → Trees → Bool
  found_in e no_tree = false
  found_in e (leaf tag vr value rest) = acts (fate e tag) || found_in e rest
  found_in e (sequence tag vr declared items rest) = acts (fate e tag) || found_in_items e tag 0 items
      || found_in e rest
  found_in e (fragments tag vr values rest) = acts (fate e tag) || found_in e rest

  pub found_in_items : Edit → Tag → ℕ → Items → Bool
  found_in_items e tag n no_item = false
  found_in_items e tag n (item declared set rest) =
      erases e tag n || has_place_in (element_of (within e tag n)) set || found_in (within e tag n) set
      || found_in_items e tag (suc n) rest

abbrev mutual
  pub found : Edit → Front → Bool
  found e (front whole open_tree reached closed) =
      has_place_so_far (element_of e) (front whole open_tree reached closed) || found_in e whole
      || found_open e open_tree

  pub found_open : Edit → OpenTree → Bool
  found_open e nothing_open = false
  found_open e (open_leaf tag vr size value) = acts (fate e tag)
  found_open e (open_sequence tag vr declared items last) =
      acts (fate e tag) || found_in_items e tag 0 items || found_open_item e tag (item_count items) last
  found_open e (open_fragments tag vr values last) = acts (fate e tag)

  pub found_open_item : Edit → Tag → ℕ → OpenItem → Bool
  found_open_item e tag n no_open_item = false
  found_open_item e tag n (open_item declared set) = erases e tag n || found (within e tag n) set
