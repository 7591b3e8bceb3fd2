-- All edits of a data set at once.
use Rattle.std.specs.Prelude.{ℕ, List, [], ◌∷◌, Bool, false, ◌||◌, map, if◌then◌else◌, suc}
use Rattle.dcm_base.specs.declared.tag.Tag.{Tag}
use Rattle.dcm_base.specs.Tree.Tree.{Trees, no_tree, leaf, sequence, fragments, Items, no_item, item, then_trees}
use Rattle.dcm_base.specs.Tree.Tree.{item_count}
use Rattle.dcm_base.specs.Tree.Front.{Front, front, OpenTree, nothing_open, open_leaf, open_sequence, open_fragments}
use Rattle.dcm_base.specs.Tree.Front.{OpenItem, no_open_item, open_item}
use Rattle.dcm_edits.specs.Edit.{Edit, within, Fate, stays, becomes, goes, fate, settled, erases, NewElement}
use Rattle.dcm_edits.specs.Edit.{no_element, new_leaf, new_sequence, element_of, with_new, with_new_so_far, edited_sets}
use Rattle.dcm_edits.specs.Edit.{made_whole, while_it_stays}

-- the first fate that changes anything
abbrev pub or_else : Fate → Fate → Fate
or_else stays f = f
or_else (becomes vr value) f = becomes vr value
or_else goes f = goes

-- what the first edit that selects the element makes of it
abbrev pub first_fate : List Edit → Tag → Fate
first_fate [] t = stays
first_fate (e ∷ es) t = or_else (fate e t) (first_fate es t)

abbrev pub any_erases : List Edit → Tag → ℕ → Bool
any_erases [] t n = false
any_erases (e ∷ es) t n = erases e t n || any_erases es t n

-- what the edits ask of the data set in item n
abbrev pub all_within : List Edit → Tag → ℕ → List Edit
all_within es tag n = map (λ e. within e tag n) es

-- a new element as the later edits leave it
abbrev pub completed : List Edit → NewElement → NewElement
completed es no_element = no_element
completed es (new_leaf tag vr value) = new_leaf tag vr value
completed es (new_sequence tag held) = new_sequence tag (edited_sets (all_within es tag 0) held)

-- the missing elements, each in its place by tag order
abbrev pub with_all_missing : List Edit → Trees → Trees
with_all_missing [] set = set
with_all_missing (e ∷ es) set = with_all_missing es (with_new (completed es (element_of e)) set)

abbrev pub with_all_missing_so_far : List Edit → Front → Front
with_all_missing_so_far [] f = f
with_all_missing_so_far (e ∷ es) f = with_all_missing_so_far es (with_new_so_far (completed es (element_of e)) f)

abbrev mutual
  pub all_changed : List Edit → Trees → Trees
  all_changed es no_tree = no_tree
  all_changed es (leaf tag vr value rest) = settled (first_fate es tag) tag (leaf tag vr value) (all_changed es rest)
  all_changed es (sequence tag vr declared items rest) =
      settled (first_fate es tag) tag (sequence tag vr declared (all_changed_items es tag 0 items))
      (all_changed es rest)
  all_changed es (fragments tag vr values rest) =
      settled (first_fate es tag) tag (fragments tag vr values) (all_changed es rest)

  pub all_changed_items : List Edit → Tag → ℕ → Items → Items
  all_changed_items es tag n no_item = no_item
  all_changed_items es tag n (item declared set rest) =
      if any_erases es tag n
      then all_changed_items es tag (suc n) rest
      else item declared (with_all_missing (all_within es tag n) (all_changed (all_within es tag n) set))
      (all_changed_items es tag (suc n) rest)

abbrev pub all_open_made_whole : List Edit → OpenTree → Trees
all_open_made_whole es nothing_open = no_tree
all_open_made_whole es (open_leaf tag vr size value) = made_whole (first_fate es tag) tag
all_open_made_whole es (open_sequence tag vr declared items last) = made_whole (first_fate es tag) tag
all_open_made_whole es (open_fragments tag vr values last) = made_whole (first_fate es tag) tag

-- each element and item is replaced or erased by the first edit that selects it, and the missing ones are put
abbrev mutual
  pub together : List Edit → Front → Front
  together es (front whole open_tree reached closed) =
      with_all_missing_so_far es
      (front (then_trees (all_changed es whole) (all_open_made_whole es open_tree))
      (all_still_open es open_tree) reached closed)

  pub all_still_open : List Edit → OpenTree → OpenTree
  all_still_open es nothing_open = nothing_open
  all_still_open es (open_leaf tag vr size value) = while_it_stays (first_fate es tag) (open_leaf tag vr size value)
  all_still_open es (open_sequence tag vr declared items last) =
      while_it_stays (first_fate es tag)
      (open_sequence tag vr declared (all_changed_items es tag 0 items) (all_open_item es tag (item_count items) last))
  all_still_open es (open_fragments tag vr values last) =
      while_it_stays (first_fate es tag) (open_fragments tag vr values last)

  pub all_open_item : List Edit → Tag → ℕ → OpenItem → OpenItem
  all_open_item es tag n no_open_item = no_open_item
  all_open_item es tag n (open_item declared set) =
      if any_erases es tag n then no_open_item else open_item declared (together (all_within es tag n) set)
