-- What holds of each element of a data set, at every depth.
use Rattle.std.specs.Prelude.{◌≡◌, ◌⊎◌, ℕ, List, [], ◌∷◌, length, true, false}
use Rattle.dcm_base.specs.declared.tag.Tag.{Tag}
use Rattle.dcm_base.specs.declared.vr.Vr.{Vr}
use Rattle.dcm_base.specs.declared.syntax.Syntax.{Syntax}
use Rattle.dcm_base.specs.Tables.Tag.{same_tag, is_private}
use Rattle.dcm_base.specs.Tree.Tree.{Trees, no_tree, leaf, sequence, fragments, Items, no_item, item}
use Rattle.dcm_base.specs.Tree.Front.{Front, front}
use Rattle.dcm_base.specs.Conversion.Normal.{normal_vr, normal_value}
use Rattle.dcm_edits.specs.Edit.{Edit}

-- what an element has: a value, or items or fragments
pub data Content : Type 0 where
  a_value : (vr : Vr) (value : List ℕ) → Content
  a_list : Content

-- so it is with each element of a data set, and of the data sets in its items
abbrev mutual
  pub Everywhere : (Tag → Content → Type 0) → Trees → Type 0
  Everywhere P no_tree = Unit {0}
  Everywhere P (leaf tag vr value rest) = P tag (a_value vr value) × Everywhere P rest
  Everywhere P (sequence tag vr declared items rest) = P tag a_list × InEachItem P items × Everywhere P rest
  Everywhere P (fragments tag vr values rest) = P tag a_list × Everywhere P rest

  pub InEachItem : (Tag → Content → Type 0) → Items → Type 0
  InEachItem P no_item = Unit {0}
  InEachItem P (item declared set rest) = Everywhere P set × InEachItem P rest

-- and with a data set that was read without fault
abbrev pub EverywhereIn : (Tag → Content → Type 0) → Front → Type 0
EverywhereIn P (front whole open_tree reached closed) = Everywhere P whole

-- the element is another one
abbrev pub IsOther : Tag → Tag → Content → Type 0
IsOther tag t content = same_tag tag t ≡ false

-- it is not private (PS3.5 7.8)
abbrev pub IsPublic : Tag → Content → Type 0
IsPublic t content = is_private t ≡ false

-- it is another one, or has this value
abbrev pub HasJust : Tag → Vr → List ℕ → Tag → Content → Type 0
HasJust tag vr value t (a_value w v) = same_tag tag t ≡ true → (w ≡ vr) × (v ≡ value)
HasJust tag vr value t a_list = same_tag tag t ≡ false

-- the same as it is written in a syntax: in its order, with its pad byte
abbrev pub IsWrittenJust : Syntax → Tag → Vr → List ℕ → Tag → Content → Type 0
IsWrittenJust s tag vr value = HasJust tag (normal_vr s tag vr (length value)) (normal_value s tag vr value)

-- an edit of the command line
abbrev pub Among : Edit → List Edit → Type 0
Among e [] = ⊥
Among e (x ∷ edits) = (x ≡ e) ⊎ Among e edits
