-- Data sets whose elements pair off, but for what is taken out of them.
use Rattle.std.specs.Prelude.{◌≡◌, ℕ, List, true}
use Rattle.dcm_base.specs.declared.tag.Tag.{Tag}
use Rattle.dcm_base.specs.declared.vr.Vr.{Vr}
use Rattle.dcm_base.specs.declared.length.Length.{Length}
use Rattle.dcm_base.specs.Tree.Tree.{Trees, no_tree, leaf, sequence, fragments, Items, no_item, item}
use Rattle.dcm_base.specs.Tables.Transfer.{without_pads}
use Rattle.dcm_deid.specs.declared.fate.Fate.{Fate}
use Rattle.dcm_deid.specs.declared.fate.Fate.TheVariants.{Remove, Empty, Replace, Anew, Keep}
use Rattle.dcm_deid.specs.declared.fate.NewValue.{NewValue}
use Rattle.dcm_deid.specs.declared.fate.Depth.{Depth}
use Rattle.dcm_deid.specs.declared.fate.Depth.TheVariants.{Inside}
use Rattle.dcm_deid.specs.declared.fate.ReadAs.{ReadAs}
use Rattle.dcm_deid.specs.declared.fate.ReadAs.TheVariants.{AsBytes, AsItems}
use Rattle.dcm_deid.specs.Deidentify.{Fates, Renaming}
use Rattle.dcm_deid.specs.Emptied.{has_bytes, is_moved}

-- of two values of dates that are moved, both or none have more than padding
abbrev pub BothHaveBytes : NewValue → (v w : List ℕ) → Type 0
BothHaveBytes made v w = is_moved made ≡ true → has_bytes (without_pads v) ≡ has_bytes (without_pads w)

-- what is asked of two values: nothing where they are taken, of those that are made anew that the same has an influence
abbrev pub SameValue : (one other : Renaming) → Fate → List ℕ → List ℕ → Type 0
SameValue one other Remove v w = ⊥
SameValue one other Empty v w = Unit {0}
SameValue one other Replace v w = Unit {0}
SameValue one other (Anew made) v w = (one made (without_pads v) ≡ other made (without_pads w)) × BothHaveBytes made v w
SameValue one other Keep v w = v ≡ w

-- the items of two sequences are asked for where they are kept
abbrev pub SameItems : Fate → (alike : Type 0) → Type 0
SameItems Remove alike = ⊥
SameItems Keep alike = alike
SameItems _ alike = Unit {0}

-- whether an element goes, by how it was read
abbrev pub GoesAt : Fates → Depth → ReadAs → Tag → Type 0
GoesAt fates depth form tag = fates depth form tag ≡ Remove

abbrev pub IsNotKept : Fate → Type 0
IsNotKept Keep = ⊥
IsNotKept _ = Unit {0}

-- an element that goes stands before either; what stays pairs off, in order, with the same tags, representations and
-- kinds
mutual
  pub data Pairs : (one other : Renaming) → Fates → Depth → Trees → Trees → Type 0 where
    both_end : (one other : Renaming) (fates : Fates) (depth : Depth) → Pairs one other fates depth no_tree no_tree
    leaf_goes : (one other : Renaming) (fates : Fates) (depth : Depth) (tag : Tag) (vr : Vr) (value : List ℕ) (f g : Trees)
        → GoesAt fates depth AsBytes tag → Pairs one other fates depth f g → Pairs one other fates depth (leaf tag vr value f) g
    sequence_goes : (one other : Renaming) (fates : Fates) (depth : Depth) (tag : Tag) (vr : Vr) (declared : Length) (items : Items)
        (f g : Trees) → GoesAt fates depth AsItems tag → Pairs one other fates depth f g
        → Pairs one other fates depth (sequence tag vr declared items f) g
    fragments_go : (one other : Renaming) (fates : Fates) (depth : Depth) (tag : Tag) (vr : Vr) (parts : List (List ℕ)) (f g : Trees)
        → IsNotKept (fates depth AsBytes tag) → Pairs one other fates depth f g → Pairs one other fates depth (fragments tag vr parts f) g
    other_way : (one other : Renaming) (fates : Fates) (depth : Depth) (f g : Trees) → Pairs other one fates depth g f → Pairs one other fates depth f g
    leaves : (one other : Renaming) (fates : Fates) (depth : Depth) (tag : Tag) (vr : Vr) (v w : List ℕ) (f g : Trees)
        → SameValue one other (fates depth AsBytes tag) v w → Pairs one other fates depth f g
        → Pairs one other fates depth (leaf tag vr v f) (leaf tag vr w g)
    sequences_kept : (one other : Renaming) (fates : Fates) (depth : Depth) (tag : Tag) (vr : Vr) (m n : Length) (items others : Items)
        (f g : Trees) → PairItems one other fates items others → Pairs one other fates depth f g
        → Pairs one other fates depth (sequence tag vr m items f) (sequence tag vr n others g)
    sequences_emptied : (one other : Renaming) (fates : Fates) (depth : Depth) (tag : Tag) (vr : Vr) (m n : Length) (items others : Items)
        (f g : Trees) → IsNotKept (fates depth AsItems tag) → Pairs one other fates depth f g
        → Pairs one other fates depth (sequence tag vr m items f) (sequence tag vr n others g)
    same_fragments : (one other : Renaming) (fates : Fates) (depth : Depth) (tag : Tag) (vr : Vr) (parts : List (List ℕ)) (f g : Trees)
        → Pairs one other fates depth f g → Pairs one other fates depth (fragments tag vr parts f) (fragments tag vr parts g)

  pub data PairItems : (one other : Renaming) → Fates → Items → Items → Type 0 where
    no_items : (one other : Renaming) (fates : Fates) → PairItems one other fates no_item no_item
    items_pair : (one other : Renaming) (fates : Fates) (m n : Length) (f g : Trees) (items others : Items) → Pairs one other fates Inside f g
        → PairItems one other fates items others → PairItems one other fates (item m f items) (item n g others)
