-- The edits that ask something of an open data set, as a mask of the edits of the command line.
use Rattle.std.specs.Prelude.{◌≡◌, ◌⊎◌, ℕ, zero, suc, min, nat_lt, List, [], ◌∷◌, length, Option, Some, None, Bool, true, false}
use Rattle.std.specs.Prelude.{◌&&◌, ◌==◌, if◌then◌else◌}
use Rattle.std.specs.Int.{bit_at}
use Rattle.dcm_base.specs.declared.tag.Tag.{Tag}
use Rattle.dcm_base.specs.Tables.Tag.{same_tag}
use Rattle.dcm_edits.specs.Edit.{number, every, selects, PathEdit, step, insert, modify, erase, erase_item, Edit}
use Rattle.dcm_edits.specs.Edit.{on_path, modify_all, erase_all, erase_private, elsewhere, acts}
use Rattle.dcm_edits.specs.Together.{first_fate, any_erases}
use Rattle.dcm_editor.specs.EditSink.{Level, State, MOST_AROUND, MOST_COUNTED, dropped_after_head, dropped_after_end}

-- bit k of a mask is for the edit with k others before it
abbrev pub is_set : ℕ → ℕ → Bool
is_set mask k = bit_at mask k == 1

-- what is left of a path after its first steps
abbrev pub rest_of_path : ℕ → PathEdit → PathEdit
rest_of_path zero edit = edit
rest_of_path (suc n) (step tag index edit) = rest_of_path n edit
rest_of_path (suc n) (insert tag vr value) = insert tag vr value
rest_of_path (suc n) (modify tag vr value) = modify tag vr value
rest_of_path (suc n) (erase tag) = erase tag
rest_of_path (suc n) (erase_item tag index) = erase_item tag index

-- what an edit that has gone along into each item on the way asks of a data set within so many items
abbrev pub at_depth : ℕ → Edit → Edit
at_depth depth (on_path edit) = on_path (rest_of_path depth edit)
at_depth depth (modify_all tag vr value) = modify_all tag vr value
at_depth depth (erase_all tag) = erase_all tag
at_depth depth erase_private = erase_private
at_depth depth elsewhere = elsewhere

-- what a mask means at a depth, for the edits from number k on
abbrev pub asked : ℕ → ℕ → ℕ → List Edit → List Edit
asked depth mask k [] = []
asked depth mask k (e ∷ es) = (if is_set mask k then at_depth depth e else elsewhere) ∷ asked depth mask (suc k) es

-- from number k on, the mask lacks the edits up to number j, and these are left then
abbrev pub Skips : ℕ → ℕ → List Edit → ℕ → List Edit → Type 0
Skips mask k [] j left = (j ≡ k) × (left ≡ [])
Skips mask k (e ∷ es) j left = ((j ≡ k) × (left ≡ e ∷ es)) ⊎ ((is_set mask k ≡ false) × Skips mask (suc k) es j left)

-- whether an edit goes along into item n of the sequence with this tag
abbrev pub goes_along : Edit → Tag → ℕ → Bool
goes_along (on_path (step tag index edit)) t n = same_tag tag t && selects index n
goes_along (on_path _) t n = false
goes_along (modify_all tag vr value) t n = true
goes_along (erase_all tag) t n = true
goes_along erase_private t n = true
goes_along elsewhere t n = false

-- the mask of an item has the edits of the mask around it that go along
abbrev pub GoAlong : ℕ → ℕ → ℕ → Tag → ℕ → ℕ → List Edit → Type 0
GoAlong depth mask inner tag n k [] = Unit {0}
GoAlong depth mask inner tag n k (e ∷ es) =
    (is_set inner k ≡ (is_set mask k && goes_along (at_depth depth e) tag n))
    × GoAlong depth mask inner tag n (suc k) es

-- the bits of the edits from number k on
abbrev pub bits : ℕ → ℕ → List Edit → List Bool
bits mask k [] = []
bits mask k (e ∷ es) = is_set mask k ∷ bits mask (suc k) es

abbrev pub AllSet : ℕ → ℕ → List Edit → Type 0
AllSet mask k [] = Unit {0}
AllSet mask k (e ∷ es) = (is_set mask k ≡ true) × AllSet mask (suc k) es

-- ---- new elements of paths

-- the first tag of a path
abbrev pub first_tag : PathEdit → Tag
first_tag (step tag index edit) = tag
first_tag (insert tag vr value) = tag
first_tag (modify tag vr value) = tag
first_tag (erase tag) = tag
first_tag (erase_item tag index) = tag

abbrev pub is_insert : PathEdit → Bool
is_insert (insert tag vr value) = true
is_insert (step tag index edit) = false
is_insert (modify tag vr value) = false
is_insert (erase tag) = false
is_insert (erase_item tag index) = false

-- an insertion after steps into first items: the only path that makes an element where its first tag is missing
abbrev pub makes_element : PathEdit → Bool
makes_element (step tag (number zero) edit) = makes_element edit
makes_element (step tag (number (suc n)) edit) = false
makes_element (step tag every edit) = false
makes_element (insert tag vr value) = true
makes_element (modify tag vr value) = false
makes_element (erase tag) = false
makes_element (erase_item tag index) = false

-- whether a path makes a sequence whose tag passes
abbrev pub makes_sequence : (Tag → Bool) → PathEdit → Bool
makes_sequence p (step tag index edit) = makes_element (step tag index edit) && p tag
makes_sequence p (insert tag vr value) = false
makes_sequence p (modify tag vr value) = false
makes_sequence p (erase tag) = false
makes_sequence p (erase_item tag index) = false

-- ---- the state

-- an open data set, with the mask of what the edits ask of it
pub record MaskLevel : Type 0 where
  pub mask : ℕ
  pub last : Option Tag
  pub count : ℕ

pub record MaskState : Type 0 where
  pub level : MaskLevel
  pub outer : List MaskLevel
  pub dropped : ℕ
  pub found : ℕ

abbrev pub level_meant : List Edit → ℕ → MaskLevel → Level
level_meant edits depth level = record {
  edits = asked depth level.mask 0 edits;
  last = level.last;
  count = level.count;
}

-- a data set is within as many items as there are data sets around it
abbrev pub outer_meant : List Edit → List MaskLevel → List Level
outer_meant edits [] = []
outer_meant edits (level ∷ outer) = level_meant edits (length outer) level ∷ outer_meant edits outer

abbrev pub meant : List Edit → MaskState → State
meant edits s = record {
  level = level_meant edits (length s.outer) s.level;
  outer = outer_meant edits s.outer;
  dropped = s.dropped;
  found = bits s.found 0 edits;
}

-- what the edits ask of the innermost open data set
abbrev pub asked_here : List Edit → MaskState → List Edit
asked_here edits s = asked (length s.outer) s.level.mask 0 edits

-- before the first atom, with the masks of all edits and of those that have found their place
abbrev pub masks_begun : ℕ → ℕ → MaskState
masks_begun all found = record {
  level = record { mask = all; last = None; count = 0 };
  outer = [];
  dropped = 0;
  found = found;
}

-- after the head of an element, with the mask of what is found
abbrev pub masks_after_head : List Edit → MaskState → Tag → ℕ → MaskState
masks_after_head edits s tag found = record {
  level = record { mask = s.level.mask; last = Some tag; count = 0 };
  outer = s.outer;
  dropped = dropped_after_head s.dropped (acts (first_fate (asked_here edits s) tag));
  found = found;
}

-- after the head of an element that the edits leave as it is
abbrev pub masks_passed_by : MaskState → Tag → MaskState
masks_passed_by s tag = record {
  level = record { mask = s.level.mask; last = Some tag; count = 0 };
  outer = s.outer;
  dropped = dropped_after_head s.dropped false;
  found = s.found;
}

-- after the head of an item that no edit names, with its mask
abbrev pub masks_entered : ℕ → MaskState → MaskState
masks_entered inner s = record {
  level = record { mask = inner; last = None; count = 0 };
  outer = record { mask = s.level.mask; last = s.level.last; count = min MOST_COUNTED (suc s.level.count) } ∷ s.outer;
  dropped = dropped_after_head s.dropped false;
  found = s.found;
}

abbrev pub masks_item_passed : ℕ → MaskState → Option Tag → MaskState
masks_item_passed inner s None = s
masks_item_passed inner s (Some tag) = if nat_lt (length s.outer) MOST_AROUND then masks_entered inner s else s

-- after the end of an item above whose last element no edit puts something
abbrev pub masks_item_left : MaskState → List MaskLevel → MaskState
masks_item_left s [] = record { level = s.level; outer = []; dropped = dropped_after_end s.dropped; found = s.found }
masks_item_left s (level ∷ outer) = record {
  level = level;
  outer = outer;
  dropped = dropped_after_end s.dropped;
  found = s.found;
}

-- after the head of an item, with its mask
abbrev pub masks_in_item : List Edit → MaskState → Tag → ℕ → ℕ → MaskState
masks_in_item edits s tag inner found = record {
  level = record { mask = inner; last = None; count = 0 };
  outer = record { mask = s.level.mask; last = s.level.last; count = min MOST_COUNTED (suc s.level.count) } ∷ s.outer;
  dropped = dropped_after_head s.dropped (any_erases (asked_here edits s) tag s.level.count);
  found = found;
}

abbrev pub masks_after_item : MaskState → MaskLevel → List MaskLevel → ℕ → MaskState
masks_after_item s level outer found = record {
  level = level;
  outer = outer;
  dropped = dropped_after_end s.dropped;
  found = found;
}

-- after the end of a value, a sequence or a fragment list
abbrev pub masks_after_end : MaskState → MaskState
masks_after_end s = record { level = s.level; outer = s.outer; dropped = dropped_after_end s.dropped; found = s.found }

abbrev pub masks_in_fragment : MaskState → MaskState
masks_in_fragment s = record {
  level = s.level;
  outer = s.outer;
  dropped = dropped_after_head s.dropped false;
  found = s.found;
}

-- at the end of the data set
abbrev pub masks_at_end : MaskState → ℕ → MaskState
masks_at_end s found = record { level = s.level; outer = s.outer; dropped = s.dropped; found = found }
