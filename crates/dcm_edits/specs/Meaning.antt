-- The edits of the program, as the definitions have them.
use Rattle.std.specs.Prelude.{◌≡◌, ℕ, List, [], ◌∷◌, Ok}
use Rattle.dcm_base.specs.declared.dictionary.Dictionary.{Dictionary}
use Rattle.dcm_base.specs.declared.tag.Tag.{Tag}
use Rattle.dcm_edits.specs.declared.edit.Index.{Index}
use Rattle.dcm_edits.specs.declared.edit.Index.TheVariants.{Number, Every}
use Rattle.dcm_edits.specs.declared.edit.Step.{Step}
use Rattle.dcm_edits.specs.declared.edit.Action.{Action}
use Rattle.dcm_edits.specs.declared.edit.Action.TheVariants.{Insert, Modify, Erase, EraseItem}
use Rattle.dcm_edits.specs.declared.edit.PathEdit.{PathEdit}
use Rattle.dcm_edits.specs.declared.edit.Edit.{Edit}
use Rattle.dcm_edits.specs.declared.edit.Edit.TheVariants.{OnPath, ModifyAll, EraseAll, ErasePrivate}
use Rattle.dcm_edits.specs.Edit as spec
use Rattle.dcm_edits.specs.EditWords.{meant_edits_in}

abbrev pub index_of : Index → spec.Index
index_of (Number n) = spec.number n
index_of Every = spec.every

abbrev pub action_of : {A : Type 0} → Action A → spec.PathEdit
action_of (Insert e) = spec.insert e.tag e.vr e.value.items
action_of (Modify e) = spec.modify e.tag e.vr e.value.items
action_of (Erase tag) = spec.erase tag
action_of (EraseItem s) = spec.erase_item s.tag (index_of s.index)

-- the steps of a path, before what is done at its end
abbrev pub along : List Step → spec.PathEdit → spec.PathEdit
along [] edit = edit
along (s ∷ steps) edit = spec.step s.tag (index_of s.index) (along steps edit)

abbrev pub path_edit_of : {A : Type 0} → PathEdit A → spec.PathEdit
path_edit_of p = along p.steps.items (action_of p.action)

abbrev pub edit_of : {A : Type 0} → Edit A → spec.Edit
edit_of (OnPath p) = spec.on_path (path_edit_of p)
edit_of (ModifyAll e) = spec.modify_all e.tag e.vr e.value.items
edit_of (EraseAll tag) = spec.erase_all tag
edit_of ErasePrivate = spec.erase_private

-- the first tag of a path
abbrev pub first_tag : spec.PathEdit → Tag
first_tag (spec.step tag index edit) = tag
first_tag (spec.insert tag vr value) = tag
first_tag (spec.modify tag vr value) = tag
first_tag (spec.erase tag) = tag
first_tag (spec.erase_item tag index) = tag

-- some words mean the edits, by a dictionary
pub record AreMeant (edits : List spec.Edit) : Type 0 where
  pub dictionary : Dictionary
  pub words : List (List ℕ)
  pub mean : meant_edits_in dictionary words ≡ Ok edits
