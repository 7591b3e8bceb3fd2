-- What is made anew has its form.
use Rattle.std.proofs.Common.{ℕ, List}
use Rattle.dcm_base.specs.declared.vr.Vr.{Vr}
use Rattle.dcm_base.specs.Tree.Tree.{Trees, no_tree, leaf, sequence, fragments, Items, no_item, item}
use Rattle.dcm_deid.specs.declared.fate.Fate.{Fate}
use Rattle.dcm_deid.specs.declared.fate.Fate.TheVariants.{Remove, Empty, Replace, Anew, Keep}
use Rattle.dcm_deid.specs.declared.fate.Depth.{Depth}
use Rattle.dcm_deid.specs.declared.fate.Depth.TheVariants.{Inside}
use Rattle.dcm_deid.specs.declared.fate.Options.{Options}
use Rattle.dcm_deid.specs.declared.fate.ReadAs.TheVariants.{AsItems}
use Rattle.dcm_deid.specs.Deidentify.{Fates, deidentified_set}
use Rattle.dcm_deid.specs.Fate.{fate_as}
use Rattle.dcm_deid.specs.MadeNew.{made_new}
use Rattle.dcm_deid.specs.Remains.{AreClean, AreMadeAnew, ItemsAreClean, SequenceIsClean, ValueIsClean, ValueIsMade}
use Rattle.dcm_deid.proofs.Formed.{made_form}
use Rattle.dcm_deid.proofs.Trees.Clean.{clean}

-- what follows for each value follows for all
sequence_by : (fate : Fate) (items : Items) (A B : Type 0) → (A → B) → SequenceIsClean fate items A → SequenceIsClean fate items B
sequence_by Remove items A B f h = h
sequence_by Empty items A B f h = h
sequence_by Replace items A B f h = h
sequence_by (Anew made) items A B f h = h
sequence_by Keep items A B f h = f h

module _ (P Q : Fate → Vr → List ℕ → Type 0) (each : (fate : Fate) (vr : Vr) (value : List ℕ) → P fate vr value → Q fate vr value) (fates : Fates) where
  mutual
    pub all_by : (depth : Depth) (x : Trees) → AreClean P fates depth x → AreClean Q fates depth x
    all_by depth no_tree h = tt
    all_by depth (leaf tag vr value rest) h = (each _ vr value h.0, all_by depth rest h.1)
    all_by depth (sequence tag vr declared items rest) h =
        (sequence_by (fates depth AsItems tag) items (ItemsAreClean P fates items) (ItemsAreClean Q fates items) (items_by items) h.0, all_by depth rest h.1)
    all_by depth (fragments tag vr values rest) h = (h.0, all_by depth rest h.1)

    items_by : (x : Items) → ItemsAreClean P fates x → ItemsAreClean Q fates x
    items_by no_item h = tt
    items_by (item declared set rest) h = (all_by Inside set h.0, items_by rest h.1)

value_made : (options : Options) (key : List ℕ) (fate : Fate) (vr : Vr) (value : List ℕ) → ValueIsClean (made_new options key) fate vr value → ValueIsMade options key fate vr value
value_made options key Remove vr value h = tt
value_made options key Empty vr value h = tt
value_made options key Replace vr value h = tt
value_made options key (Anew made) vr value h = (h.0, made_form options key made h.0, h.1)
value_made options key Keep vr value h = tt

pub made_anew : (options : Options) (key : List ℕ) (depth : Depth) (f : Trees) → AreMadeAnew options key depth (deidentified_set options (made_new options key) depth f)
made_anew options key depth f =
    all_by (ValueIsClean (made_new options key)) (ValueIsMade options key) (value_made options key) (fate_as options) depth (deidentified_set options (made_new options key) depth f)
    (clean (fate_as options) (made_new options key) depth f)
