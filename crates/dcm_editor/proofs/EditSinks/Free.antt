-- An item that no edit names is passed on as it is, and so is the end of a data set in which no edit puts something.
use Rattle.std.proofs.Common.{◌≡◌, ℕ, List, [], ◌∷◌, ◌++◌, map, length, reverse, Option, Some, None, Bool, true, false, not, refl, sym, ◌∙◌, ap, inl}
use Rattle.std.specs.Prelude.{if◌then◌else◌, nat_lt}
use Rattle.std.specs.Int.Bits.{bit_and}
use Rattle.std.proofs.lemmas.Bool.{eqb-true, false≢true}
use Rattle.dcm_base.specs.declared.tag.Tag.{Tag}
use Rattle.dcm_base.specs.declared.length.Length.{Length}
use Rattle.dcm_base.specs.Tables.Syntax.{Little}
use Rattle.dcm_base.specs.Steps.Atoms.{Atom, opens_item, closes_item, trees_then}
use Rattle.dcm_base.specs.Steps.Steps.{outputs}
use Rattle.dcm_base.specs.Tree.Tree.{Trees, no_tree}
use Rattle.dcm_stream.specs.Skip.{depth, is_open}
use Rattle.dcm_stream.proofs.Runs.Skipped.{none_open}
use Rattle.dcm_edits.specs.Edit.{Edit}
use Rattle.dcm_edits.specs.NewOnes.{above_last}
use Rattle.dcm_edits.specs.Meaning.{edit_of}
use Rattle.dcm_edits.specs.declared.edit.Edit.{Edit as AnEdit}
use Rattle.dcm_editor.specs.declared.editor.Editor.{Editor}
use Rattle.dcm_editor.specs.EditSink.{MOST_AROUND, dropped_after_head, next, passed}
use Rattle.dcm_editor.specs.Indexes.{item_mask_at, has_all, tells_everywhere, makes_nothing, enters_nothing}
use Rattle.dcm_editor.specs.Masks.{bits, MaskLevel, MaskState, meant as meaning, masks_entered, masks_item_passed, masks_item_left}
use Rattle.dcm_editor.specs.declared.index.TagIndex.{TagIndex}
use Rattle.dcm_editor.specs.Editing.{meant, state, erases_next, puts_nothing, passes_item}
use Rattle.dcm_editor.proofs.Masks.Meaning.{meant_opens_item, meant_stays_full, meant_closes_item, meant_closes_top}
use Rattle.dcm_editor.proofs.EditSinks.Passing.{item_passed, end_passed}
use Rattle.dcm_editor.proofs.EditSinks.Unmet.{both, is_not}
use Rattle.dcm_editor.proofs.Masks.Indexed.{none_made, none_found, none_erased, none_placed, others_along}

-- ---- the state after the head of an item, and after its end

abbrev with_dropped : List Edit → ℕ → MaskState → ℕ → MaskState
with_dropped es inner s d = record { level = (masks_entered inner s).level; outer = (masks_entered inner s).outer; dropped = d; found = s.found }

entered : (index : TagIndex) (es : List Edit) (s : MaskState) (tag : Tag) (declared : Length) → has_all index 0 es ≡ true → tells_everywhere index es → s.level.last ≡ Some tag → bit_and s.level.mask (item_mask_at index.steps tag s.level.count) ≡ 0
    → meaning es (masks_item_passed (bit_and s.level.mask index.everywhere) s s.level.last) ≡ next (meaning es s) (opens_item declared)
entered index es s tag declared has tells l nothing = ap (λ (x : Option Tag). meaning es (masks_item_passed inner s x)) l ∙ in_room (nat_lt (length s.outer) MOST_AROUND) refl
  where
    inner : ℕ
    inner = bit_and s.level.mask index.everywhere

    in_room : (b : Bool) → nat_lt (length s.outer) MOST_AROUND ≡ b → meaning es (if b then masks_entered inner s else s) ≡ next (meaning es s) (opens_item declared)
    in_room false room = meant_stays_full es s declared room
    in_room true room =
        ap (λ (b : Bool). meaning es (with_dropped es inner s (dropped_after_head s.dropped b))) (sym (none_erased index (length s.outer) s.level.mask tag s.level.count nothing 0 es has))
        ∙ meant_opens_item es s tag declared inner s.found l room (others_along index (length s.outer) s.level.mask tag s.level.count nothing 0 es has tells)
        (none_placed index (length s.outer) s.level.mask tag s.level.count nothing (bits s.found 0 es) 0 es has)

left : (index : TagIndex) (es : List Edit) (s : MaskState) → has_all index 0 es ≡ true → bit_and s.level.mask index.makers ≡ 0 → meaning es (masks_item_left s s.outer) ≡ next (meaning es s) closes_item
left index es s has nothing = by_outer s.outer refl
  where
    by_outer : (o : List MaskLevel) → s.outer ≡ o → meaning es (masks_item_left s o) ≡ next (meaning es s) closes_item
    by_outer [] e =
        ap (λ (x : List MaskLevel). meaning es (record { level = s.level; outer = x; dropped = (masks_item_left s []).dropped; found = s.found })) (sym e)
        ∙ meant_closes_top es s e
    by_outer (l ∷ o) e =
        meant_closes_item es s l o s.found e
        (none_found index (length s.outer) s.level.mask nothing (above_last s.level.last) (bits s.found 0 es) 0 es has)

-- ---- the tokens that are passed on

module _ {A : Type 0} (edits : List (AnEdit A)) (e : Editor) (index : TagIndex) (has : has_all index 0 (map edit_of edits) ≡ true) where
  abbrev depth_here : ℕ
  depth_here = length (reverse e.outermost_first.items)

  module _ (tells : tells_everywhere index (map edit_of edits)) (free : true ≡ passes_item index e e.level.last) where
    parts : (tag : Tag) → true ≡ passes_item index e (Some tag) → (true ≡ not (is_open (depth e.skip))) × (true ≡ enters_nothing index e.level.mask tag e.level.items)
    parts tag f = both (not (is_open (depth e.skip))) (enters_nothing index e.level.mask tag e.level.items) f

    no_bits : (tag : Tag) → true ≡ passes_item index e (Some tag) → bit_and e.level.mask (item_mask_at index.steps tag e.level.items) ≡ 0
    no_bits tag f = eqb-true (bit_and e.level.mask (item_mask_at index.steps tag e.level.items)) 0 (sym (parts tag f).1)

    none_open_here : (l : Option Tag) → true ≡ passes_item index e l → depth e.skip ≡ 0
    none_open_here None f = absurd (false≢true (sym f))
    none_open_here (Some tag) f = none_open (depth e.skip) (is_not (is_open (depth e.skip)) (parts tag f).0)

    pub item_state : (t : MaskState) (inner : ℕ) (declared : Length) → t ≡ masks_item_passed inner (state e) (state e).level.last → inner ≡ bit_and e.level.mask index.everywhere → meaning (map edit_of edits) t ≡ next (meant edits e) (opens_item declared)
    item_state t inner declared is same =
        ap (meaning (map edit_of edits)) is
        ∙ ap (λ (m : ℕ). meaning (map edit_of edits) (masks_item_passed m (state e) (state e).level.last)) same
        ∙ by_last e.level.last refl free
      where
        by_last : (l : Option Tag) → e.level.last ≡ l → true ≡ passes_item index e l → meaning (map edit_of edits) (masks_item_passed (bit_and e.level.mask index.everywhere) (state e) (state e).level.last) ≡ next (meant edits e) (opens_item declared)
        by_last None l f = absurd (false≢true (sym f))
        by_last (Some tag) l f = entered index (map edit_of edits) (state e) tag declared has tells l (no_bits tag f)

    pub item_atoms : (declared : Length) → opens_item declared ∷ [] ≡ outputs next passed (meant edits e) (opens_item declared ∷ [])
    item_atoms declared = sym (ap (λ (xs : List Atom). xs ++ []) (item_passed edits e declared false (none_open_here e.level.last free) (by_last e.level.last free)))
      where
        by_last : (l : Option Tag) → true ≡ passes_item index e l → false ≡ erases_next edits e l
        by_last None f = refl
        by_last (Some tag) f = sym (none_erased index depth_here e.level.mask tag e.level.items (no_bits tag f) 0 (map edit_of edits) has)

  module _ (free : true ≡ puts_nothing index e) where
    none_dropped : depth e.skip ≡ 0
    none_dropped = none_open (depth e.skip) (is_not (is_open (depth e.skip)) (both (not (is_open (depth e.skip))) (makes_nothing index e.level.mask) free).0)

    no_makers : bit_and e.level.mask index.makers ≡ 0
    no_makers = eqb-true (bit_and e.level.mask index.makers) 0 (sym (both (not (is_open (depth e.skip))) (makes_nothing index e.level.mask) free).1)

    pub end_state : (t : MaskState) → t ≡ masks_item_left (state e) (state e).outer → meaning (map edit_of edits) t ≡ next (meant edits e) closes_item
    end_state t is = ap (meaning (map edit_of edits)) is ∙ left index (map edit_of edits) (state e) has no_makers

    pub end_atoms : closes_item ∷ [] ≡ outputs next passed (meant edits e) (closes_item ∷ [])
    unfolding trees_then
    end_atoms =
        ap (λ (x : Trees). trees_then Little x [] ++ closes_item ∷ []) (sym (none_made index depth_here e.level.mask no_makers (above_last e.level.last) 0 (map edit_of edits) no_tree has))
        ∙ end_passed edits e (closes_item ∷ []) none_dropped (inl refl)
