-- The elements that no edit names.
use Rattle.std.specs.Prelude.{Bool, true, false, ◌&&◌, ◌||◌, if◌then◌else◌, List, [], ◌∷◌, ◌≡◌}
use Rattle.dcm_base.specs.declared.tag.Tag.{Tag}
use Rattle.dcm_base.specs.Tables.Tag.{same_tag, is_private}
use Rattle.dcm_base.specs.Tree.Tree.{Trees, no_tree, leaf, sequence, fragments, Items, no_item, item}
use Rattle.dcm_base.specs.Tree.Front.{Front, front}
use Rattle.dcm_edits.specs.Edit.{PathEdit, step, insert, modify, erase, erase_item, Edit, on_path, modify_all}
use Rattle.dcm_edits.specs.Edit.{erase_all, erase_private, elsewhere}
use Rattle.dcm_base.specs.declared.dictionary.Dictionary.TheVariants.{Extract}
use Rattle.dcm_base.specs.declared.syntax.Syntax.{Syntax}
use Rattle.dcm_base.specs.declared.syntax.Syntax.TheVariants.{Implicit as implicit_in}
use Rattle.dcm_base.specs.Bytes.Spelling.{says_sign}

-- whether a path ends in an insertion
abbrev pub inserts : PathEdit → Bool
inserts (step tag index edit) = inserts edit
inserts (insert tag vr value) = true
inserts (modify tag vr value) = false
inserts (erase tag) = false
inserts (erase_item tag index) = false

-- the last tag of a path, and of an insertion each one, since it may make the sequences on its way
abbrev pub path_changes : PathEdit → Tag → Bool
path_changes (step tag index edit) t = (inserts edit && same_tag tag t) || path_changes edit t
path_changes (insert tag vr value) t = same_tag tag t
path_changes (modify tag vr value) t = same_tag tag t
path_changes (erase tag) t = same_tag tag t
path_changes (erase_item tag index) t = same_tag tag t

-- whether an edit may change elements of a tag
abbrev pub changes : Edit → Tag → Bool
changes (on_path edit) t = path_changes edit t
changes (modify_all tag vr value) t = same_tag tag t
changes (erase_all tag) t = same_tag tag t
changes erase_private t = is_private t
changes elsewhere t = false

abbrev pub any_changes : List Edit → Tag → Bool
any_changes [] t = false
any_changes (e ∷ edits) t = changes e t || any_changes edits t

-- a data set without the elements whose tags pass, at every depth
abbrev mutual
  pub without : (Tag → Bool) → Trees → Trees
  without p no_tree = no_tree
  without p (leaf tag vr value rest) = if p tag then without p rest else leaf tag vr value (without p rest)
  without p (sequence tag vr declared items rest) = if p tag then without p rest
      else sequence tag vr declared (items_without p items) (without p rest)
  without p (fragments tag vr values rest) = if p tag then without p rest else fragments tag vr values (without p rest)

  pub items_without : (Tag → Bool) → Items → Items
  items_without p no_item = no_item
  items_without p (item declared set rest) = item declared (without p set) (items_without p rest)

-- of a data set that was read without fault
abbrev pub set_without : (Tag → Bool) → Front → Trees
set_without p (front whole open_tree reached closed) = without p whole

-- no edit changes PixelRepresentation, on which the representations of an implicit data set depend; by the extract they
-- depend on nothing
abbrev pub KeepsSign : Syntax → List Edit → Type 0
KeepsSign (implicit_in Extract) edits = Unit {0}
KeepsSign (implicit_in d) edits = (t : Tag) → says_sign t ≡ true → any_changes edits t ≡ false
KeepsSign s edits = Unit {0}
