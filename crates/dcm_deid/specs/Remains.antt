-- What is left of a data set without identity.
use Rattle.std.specs.Prelude.{◌≡◌, ℕ, List, []}
use Rattle.dcm_base.specs.declared.vr.Vr.{Vr}
use Rattle.dcm_base.specs.Tree.Tree.{Trees, no_tree, leaf, sequence, fragments, Items, no_item, item}
use Rattle.dcm_base.specs.Tables.Representation.{pad}
use Rattle.dcm_base.specs.Tree.Value.{evened}
use Rattle.dcm_deid.specs.declared.fate.Fate.{Fate}
use Rattle.dcm_deid.specs.declared.fate.Fate.TheVariants.{Remove, Empty, Replace, Anew, Keep}
use Rattle.dcm_deid.specs.declared.fate.NewValue.{NewValue}
use Rattle.dcm_deid.specs.declared.fate.Options.{Options}
use Rattle.dcm_deid.specs.declared.fate.Depth.{Depth}
use Rattle.dcm_deid.specs.declared.fate.Depth.TheVariants.{Inside}
use Rattle.dcm_deid.specs.declared.fate.ReadAs.TheVariants.{AsBytes, AsItems}
use Rattle.dcm_deid.specs.Fate.{fate_as}
use Rattle.dcm_deid.specs.Deidentify.{Renaming, dummy, Fates, by_fate}
use Rattle.dcm_deid.specs.MadeForms.{HasForm}
use Rattle.dcm_deid.specs.MadeNew.{made_new}

-- what was made of some value, with its pad byte
abbrev pub IsRenamed : (List ℕ → List ℕ) → Vr → List ℕ → Type 0
IsRenamed new vr value = (old : List ℕ) × (value ≡ evened (pad vr) (new old))

-- nothing that was taken is in a value, by the fate of its element
abbrev pub ValueIsClean : Renaming → Fate → Vr → List ℕ → Type 0
ValueIsClean new Remove vr value = ⊥
ValueIsClean new Empty vr value = value ≡ []
ValueIsClean new Replace vr value = value ≡ dummy vr
ValueIsClean new (Anew made) vr value = IsRenamed (new made) vr value
ValueIsClean new Keep vr value = Unit {0}

-- what was made of some value, of the form that is made, with its pad byte
abbrev pub IsMadeAnew : Options → (key : List ℕ) → NewValue → Vr → List ℕ → Type 0
IsMadeAnew options key made vr value = (old : List ℕ) × HasForm made (made_new options key made old)
    × (value ≡ evened (pad vr) (made_new options key made old))

-- so is a value that is made anew, by the fate of its element
abbrev pub ValueIsMade : Options → (key : List ℕ) → Fate → Vr → List ℕ → Type 0
ValueIsMade options key (Anew made) vr value = IsMadeAnew options key made vr value
ValueIsMade options key fate vr value = Unit {0}

-- a sequence whose items, if it is kept, are clean
abbrev pub SequenceIsClean : Fate → Items → (clean : Type 0) → Type 0
SequenceIsClean Remove items clean = ⊥
SequenceIsClean Keep items clean = clean
SequenceIsClean _ items clean = items ≡ no_item

abbrev pub IsKept : Fate → Type 0
IsKept Keep = Unit {0}
IsKept _ = ⊥

-- the same of all elements of a data set, at any depth
abbrev mutual
  pub AreClean : (Fate → Vr → List ℕ → Type 0) → Fates → Depth → Trees → Type 0
  AreClean clean fates depth no_tree = Unit {0}
  AreClean clean fates depth (leaf tag vr value rest) = clean (fates depth AsBytes tag) vr value
      × AreClean clean fates depth rest
  AreClean clean fates depth (sequence tag vr declared items rest) =
      SequenceIsClean (fates depth AsItems tag) items (ItemsAreClean clean fates items) × AreClean clean fates depth rest
  AreClean clean fates depth (fragments tag vr parts rest) = IsKept (fates depth AsBytes tag)
      × AreClean clean fates depth rest

  pub ItemsAreClean : (Fate → Vr → List ℕ → Type 0) → Fates → Items → Type 0
  ItemsAreClean clean fates no_item = Unit {0}
  ItemsAreClean clean fates (item declared set rest) = AreClean clean fates Inside set × ItemsAreClean clean fates rest

-- nothing that was taken is in a data set, at any depth
abbrev pub IsClean : Fates → Renaming → Depth → Trees → Type 0
IsClean fates new depth set = AreClean (ValueIsClean new) fates depth set

-- each value that is made anew has the form that is made, at any depth
abbrev pub AreMadeAnew : Options → (key : List ℕ) → Depth → Trees → Type 0
AreMadeAnew options key depth set = AreClean (ValueIsMade options key) (fate_as options) depth set

-- what is not kept goes
abbrev pub kept_or_removed : Fate → Fate
kept_or_removed Keep = Keep
kept_or_removed _ = Remove

abbrev pub value_itself : Fate → Vr → List ℕ → List ℕ
value_itself fate vr value = value

-- the elements of fate keep alone, at every depth; lengths aside
abbrev pub kept_of : Options → Depth → Trees → Trees
kept_of options depth set = by_fate (λ at form tag. kept_or_removed (fate_as options at form tag)) value_itself depth
    set
