-- A data set without identity (PS3.15 annex E).
use Rattle.std.specs.Prelude.{ℕ, List, [], codes, replicate}
use Rattle.dcm_base.specs.declared.tag.Tag.{Tag}
use Rattle.dcm_base.specs.declared.vr.Vr.{Vr}
use Rattle.dcm_base.specs.declared.vr.Vr.TheVariants.{AE, AS, AT, CS, DA, DS, DT, IS, LO, LT, OB}
use Rattle.dcm_base.specs.declared.vr.Vr.TheVariants.{PN, SH, SQ, ST, TM, UC, UI, UN, UR}
use Rattle.dcm_base.specs.declared.vr.Vr.TheVariants.{UT}
use Rattle.dcm_base.specs.declared.length.Length.TheVariants.{Undefined}
use Rattle.dcm_base.specs.Tree.Tree.{Trees, no_tree, leaf, sequence, fragments, Items, no_item, item}
use Rattle.dcm_base.specs.Tables.Representation.{pad, unit}
use Rattle.dcm_base.specs.Tree.Value.{evened}
use Rattle.dcm_base.specs.Tables.Transfer.{without_pads}
use Rattle.dcm_deid.specs.declared.fate.Fate.{Fate}
use Rattle.dcm_deid.specs.declared.fate.Fate.TheVariants.{Remove, Empty, Replace, Anew, Keep}
use Rattle.dcm_deid.specs.declared.fate.NewValue.{NewValue}
use Rattle.dcm_deid.specs.declared.fate.Options.{Options}
use Rattle.dcm_deid.specs.declared.fate.Depth.{Depth}
use Rattle.dcm_deid.specs.declared.fate.Depth.TheVariants.{Inside}
use Rattle.dcm_deid.specs.declared.fate.ReadAs.{ReadAs}
use Rattle.dcm_deid.specs.declared.fate.ReadAs.TheVariants.{AsBytes, AsItems}
use Rattle.dcm_deid.specs.Fate.{fate_as}

-- the value that is put for another one; an unknown one has none
unfoldable pub dummy : Vr → List ℕ
dummy AE = codes "ANONYMIZED"
dummy CS = codes "ANONYMIZED"
dummy LO = codes "ANONYMIZED"
dummy SH = codes "ANONYMIZED"
dummy ST = codes "ANONYMIZED"
dummy LT = codes "ANONYMIZED"
dummy PN = codes "ANONYMIZED"
dummy UC = codes "ANONYMIZED"
dummy UR = codes "ANONYMIZED"
dummy UT = codes "ANONYMIZED"
dummy AS = codes "000Y"
dummy DA = codes "19000101"
dummy TM = codes "000000"
dummy DT = codes "19000101000000"
dummy IS = codes "0"
dummy DS = codes "0"
dummy UI = codes "2.25.0"
dummy AT = replicate 4 0
dummy OB = replicate 2 0
dummy UN = []
dummy SQ = []
dummy vr = replicate (unit vr) 0

-- what is made of a value without its padding, by what it is
abbrev pub Renaming : Type 0
Renaming = NewValue → List ℕ → List ℕ

-- the value of an element that stays
abbrev pub value_by : Renaming → Fate → Vr → List ℕ → List ℕ
value_by new Remove vr value = []
value_by new Empty vr value = []
value_by new Replace vr value = dummy vr
value_by new (Anew made) vr value = evened (pad vr) (new made (without_pads value))
value_by new Keep vr value = value

-- an element by its fate, before the elements that follow it: only what is kept has items or fragments
abbrev pub leaf_by : Fate → Tag → Vr → List ℕ → Trees → Trees
leaf_by Remove tag vr value rest = rest
leaf_by _ tag vr value rest = leaf tag vr value rest

abbrev pub sequence_by : Fate → Tag → Vr → Items → Trees → Trees
sequence_by Remove tag vr items rest = rest
sequence_by Keep tag vr items rest = sequence tag vr Undefined items rest
sequence_by _ tag vr items rest = sequence tag vr Undefined no_item rest

abbrev pub fragments_by : Fate → Tag → Vr → List (List ℕ) → Trees → Trees
fragments_by Keep tag vr values rest = fragments tag vr values rest
fragments_by _ tag vr values rest = rest

-- the fate of an element, and the value of one that stays
abbrev pub Fates : Type 0
Fates = Depth → ReadAs → Tag → Fate

abbrev pub Values : Type 0
Values = Fate → Vr → List ℕ → List ℕ

-- the elements of a data set, each by its fate, here and in the items of what is kept; lengths are not kept
abbrev mutual
  pub by_fate : Fates → Values → Depth → Trees → Trees
  by_fate fates values depth no_tree = no_tree
  by_fate fates values depth (leaf tag vr value rest) =
      leaf_by (fates depth AsBytes tag) tag vr (values (fates depth AsBytes tag) vr value)
      (by_fate fates values depth rest)
  by_fate fates values depth (sequence tag vr declared items rest) =
      sequence_by (fates depth AsItems tag) tag vr (items_by_fate fates values items) (by_fate fates values depth rest)
  by_fate fates values depth (fragments tag vr parts rest) =
      fragments_by (fates depth AsBytes tag) tag vr parts (by_fate fates values depth rest)

  pub items_by_fate : Fates → Values → Items → Items
  items_by_fate fates values no_item = no_item
  items_by_fate fates values (item declared set rest) =
      item Undefined (by_fate fates values Inside set) (items_by_fate fates values rest)

-- without what section 6 puts
abbrev pub deidentified_set : Options → Renaming → Depth → Trees → Trees
deidentified_set options new depth set = by_fate (fate_as options) (value_by new) depth set
