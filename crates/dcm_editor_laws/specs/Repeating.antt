-- Edits that make the same of what they have made.
use Rattle.std.specs.Prelude.{◌≡◌, List, [], ◌∷◌, Bool, true, false}
use Rattle.dcm_edits.specs.Edit.{number, every, PathEdit, step, insert, modify, erase, erase_item, Edit, on_path}
use Rattle.dcm_edits.specs.Edit.{modify_all, erase_all, erase_private, elsewhere}

-- whether the path ends in the number of an item: the items after it then get lower ones
abbrev pub ends_in_number : PathEdit → Bool
ends_in_number (step tag index edit) = ends_in_number edit
ends_in_number (insert tag vr value) = false
ends_in_number (modify tag vr value) = false
ends_in_number (erase tag) = false
ends_in_number (erase_item tag (number n)) = true
ends_in_number (erase_item tag every) = false

abbrev pub erases_by_number : Edit → Bool
erases_by_number (on_path edit) = ends_in_number edit
erases_by_number (modify_all tag vr value) = false
erases_by_number (erase_all tag) = false
erases_by_number erase_private = false
erases_by_number elsewhere = false

-- no edit erases an item by its number
abbrev pub EraseByNoNumber : List Edit → Type 0
EraseByNoNumber [] = Unit {0}
EraseByNoNumber (e ∷ edits) = (erases_by_number e ≡ false) × EraseByNoNumber edits
