-- How the logic stores an edit.
use Rattle.std.specs.Prelude.{◌≡◌, ◌⊎◌, ℕ, List, [], ◌∷◌, Option, Some, None, Bool, true, false, refl}
use Rattle.std.specs.Coded.{Coded, code_by, coded_ℕ, coded_bool, coded_list, coded_option, coded×, coded⊎}
use Rattle.std.proofs.Common.{inl, inr}
use Rattle.dcm_base.specs.declared.tag.Tag.{Tag}
use Rattle.dcm_base.specs.declared.vr.Vr.{Vr}
use Rattle.dcm_base.specs.contracts.tag.Tag.{the_row as tag_row}
use Rattle.dcm_base.specs.contracts.vr.Vr.{the_row as vr_row}
use Rattle.dcm_edits.specs.Edit.{Index, number, every, PathEdit, step, insert, modify, erase, erase_item, Edit, on_path}
use Rattle.dcm_edits.specs.Edit.{modify_all, erase_all, erase_private, elsewhere}

-- a number, or none for every item
abbrev pub number_at : Index → Option ℕ
number_at (number n) = Some n
number_at every = None

abbrev pub index_at : Option ℕ → Index
index_at (Some n) = number n
index_at None = every

index_back : (i : Index) → index_at (number_at i) ≡ i
index_back (number n) = refl
index_back every = refl

-- a step, and a new element
abbrev pub Marked : Type 0
Marked = Tag × Option ℕ

abbrev pub Element : Type 0
Element = Tag × (Vr × List ℕ)

-- the end of a path
abbrev pub End : Type 0
End = Element ⊎ (Element ⊎ (Tag ⊎ Marked))

abbrev pub steps_of : PathEdit → List Marked
steps_of (step tag index edit) = (tag, number_at index) ∷ steps_of edit
steps_of (insert tag vr value) = []
steps_of (modify tag vr value) = []
steps_of (erase tag) = []
steps_of (erase_item tag index) = []

abbrev pub end_of : PathEdit → End
end_of (step tag index edit) = end_of edit
end_of (insert tag vr value) = inl (tag, (vr, value))
end_of (modify tag vr value) = inr (inl (tag, (vr, value)))
end_of (erase tag) = inr (inr (inl tag))
end_of (erase_item tag index) = inr (inr (inr (tag, number_at index)))

abbrev pub at_end : End → PathEdit
at_end (inl e) = insert e.0 e.1.0 e.1.1
at_end (inr (inl e)) = modify e.0 e.1.0 e.1.1
at_end (inr (inr (inl tag))) = erase tag
at_end (inr (inr (inr m))) = erase_item m.0 (index_at m.1)

abbrev pub path_at : List Marked → PathEdit → PathEdit
path_at [] edit = edit
path_at (m ∷ ms) edit = step m.0 (index_at m.1) (path_at ms edit)

step_back : (tag : Tag) (i j : Index) (a b : PathEdit) → i ≡ j → a ≡ b → step tag i a ≡ step tag j b
step_back tag i j a b p q = cc

item_back : (tag : Tag) (i j : Index) → i ≡ j → erase_item tag i ≡ erase_item tag j
item_back tag i j p = cc

path_back : (p : PathEdit) → path_at (steps_of p) (at_end (end_of p)) ≡ p
path_back (step tag index edit) = step_back tag _ index _ edit (index_back index) (path_back edit)
path_back (insert tag vr value) = refl
path_back (modify tag vr value) = refl
path_back (erase tag) = refl
path_back (erase_item tag index) = item_back tag _ index (index_back index)

-- an edit: on a path, of all elements of a tag, or one that is private or elsewhere
abbrev pub Stored : Type 0
Stored = (List Marked × End) ⊎ (Element ⊎ (Tag ⊎ Bool))

abbrev pub stored : Edit → Stored
stored (on_path edit) = inl (steps_of edit, end_of edit)
stored (modify_all tag vr value) = inr (inl (tag, (vr, value)))
stored (erase_all tag) = inr (inr (inl tag))
stored erase_private = inr (inr (inr true))
stored elsewhere = inr (inr (inr false))

abbrev pub edit_at : Stored → Edit
edit_at (inl p) = on_path (path_at p.0 (at_end p.1))
edit_at (inr (inl e)) = modify_all e.0 e.1.0 e.1.1
edit_at (inr (inr (inl tag))) = erase_all tag
edit_at (inr (inr (inr true))) = erase_private
edit_at (inr (inr (inr false))) = elsewhere

path_of_edit : (a b : PathEdit) → a ≡ b → on_path a ≡ on_path b
path_of_edit a b p = cc

pub edit_back : (e : Edit) → edit_at (stored e) ≡ e
edit_back (on_path edit) = path_of_edit _ edit (path_back edit)
edit_back (modify_all tag vr value) = refl
edit_back (erase_all tag) = refl
edit_back erase_private = refl
edit_back elsewhere = refl

abbrev pub marked_code : Coded Marked
marked_code = coded× tag_row.coded (coded_option coded_ℕ)

abbrev pub element_code : Coded Element
element_code = coded× tag_row.coded (coded× vr_row.coded (coded_list coded_ℕ))

abbrev pub end_code : Coded End
end_code = coded⊎ element_code (coded⊎ element_code (coded⊎ tag_row.coded marked_code))

abbrev pub edit_code : Coded Edit
edit_code =
    code_by Stored (coded⊎ (coded× (coded_list marked_code) end_code)
    (coded⊎ element_code (coded⊎ tag_row.coded coded_bool))) stored edit_at edit_back
