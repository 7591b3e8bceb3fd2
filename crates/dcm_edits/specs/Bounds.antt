-- How large the edits of a command line are: no new element is a sequence, indexes have nine digits, paths so many
-- steps.
use Rattle.std.specs.Prelude.{◌≡◌, ◌<◌, ◌≤◌, ℕ, suc, List, [], ◌∷◌}
use Rattle.dcm_base.specs.declared.length.Length.TheVariants.{Known}
use Rattle.dcm_base.specs.Tables.Syntax.{Little}
use Rattle.dcm_base.specs.declared.form.Form.TheVariants.{Value as a_value}
use Rattle.dcm_base.specs.Bytes.Spelling.{form}
use Rattle.dcm_edits.specs.Edit.{Index, number, every, PathEdit, step, insert, modify, erase, erase_item, Edit, on_path}
use Rattle.dcm_edits.specs.Edit.{modify_all, erase_all, erase_private, elsewhere}

-- an edit's new element is no sequence
abbrev pub PathHasValue : PathEdit → Type 0
PathHasValue (step tag index edit) = PathHasValue edit
PathHasValue (insert tag vr value) = form Little vr (Known 0) ≡ a_value
PathHasValue (modify tag vr value) = form Little vr (Known 0) ≡ a_value
PathHasValue (erase tag) = Unit {0}
PathHasValue (erase_item tag index) = Unit {0}

abbrev pub HasValue : Edit → Type 0
HasValue (on_path edit) = PathHasValue edit
HasValue (modify_all tag vr value) = form Little vr (Known 0) ≡ a_value
HasValue (erase_all tag) = Unit {0}
HasValue erase_private = Unit {0}
HasValue elsewhere = Unit {0}

abbrev pub HaveValues : List Edit → Type 0
HaveValues [] = Unit {0}
HaveValues (e ∷ es) = HasValue e × HaveValues es

-- an index has at most nine digits, so that no count that has come to its most selects an item by a number
abbrev pub HasShortIndex : Index → Type 0
HasShortIndex (number n) = n < 1000000000
HasShortIndex every = Unit {0}

abbrev pub PathHasShortIndexes : PathEdit → Type 0
PathHasShortIndexes (step tag index edit) = HasShortIndex index × PathHasShortIndexes edit
PathHasShortIndexes (insert tag vr value) = Unit {0}
PathHasShortIndexes (modify tag vr value) = Unit {0}
PathHasShortIndexes (erase tag) = Unit {0}
PathHasShortIndexes (erase_item tag index) = HasShortIndex index

abbrev pub HasShortIndexes : Edit → Type 0
HasShortIndexes (on_path edit) = PathHasShortIndexes edit
HasShortIndexes (modify_all tag vr value) = Unit {0}
HasShortIndexes (erase_all tag) = Unit {0}
HasShortIndexes erase_private = Unit {0}
HasShortIndexes elsewhere = Unit {0}

abbrev pub HaveShortIndexes : List Edit → Type 0
HaveShortIndexes [] = Unit {0}
HaveShortIndexes (e ∷ es) = HasShortIndexes e × HaveShortIndexes es

-- how many steps a path has
abbrev pub steps : PathEdit → ℕ
steps (step tag index edit) = suc (steps edit)
steps (insert tag vr value) = 0
steps (modify tag vr value) = 0
steps (erase tag) = 0
steps (erase_item tag index) = 0

abbrev pub depth : Edit → ℕ
depth (on_path edit) = steps edit
depth (modify_all tag vr value) = 0
depth (erase_all tag) = 0
depth erase_private = 0
depth elsewhere = 0

-- no path has more than n steps
abbrev pub AreWithin : ℕ → List Edit → Type 0
AreWithin n [] = Unit {0}
AreWithin n (e ∷ es) = (depth e ≤ n) × AreWithin n es
