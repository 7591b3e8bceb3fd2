-- The unique identifier of an instance in the head of a file and in its data set.
use Rattle.std.proofs.Common.{◌≡◌, ◌∙◌, ap, sym, refl, ℕ, List, [], ◌∷◌, ◌++◌, length, Bool, true, false, ◌||◌, Option, Some, None, if◌then◌else◌}
use Rattle.std.specs.Prelude.{option_map, ◌==◌, ◌%◌}
use Rattle.dcm_base.specs.declared.tag.Tag.{Tag}
use Rattle.dcm_base.specs.declared.vr.Vr.{Vr}
use Rattle.dcm_base.specs.Conversion.NewMeta.{leaf_if, renewed}
use Rattle.dcm_base.specs.Tables.Dictionary as D
use Rattle.dcm_base.specs.Tables.Representation.{pad, is_text}
use Rattle.dcm_base.specs.Tables.Tag.{below, same_tag}
use Rattle.dcm_base.specs.Tables.Transfer.{is_pad, without_pads}
use Rattle.dcm_base.specs.Tree.Tree.{Trees, no_tree, leaf, sequence, fragments, Items, then_trees}
use Rattle.dcm_base.specs.Tree.Value.{evened}
use Rattle.dcm_base.proofs.Dictionaries.TagOrder.{tag_is}
use Rattle.dcm_head.proofs.MetaGroups.Transfers.{pads_more}
use Rattle.dcm_uid.specs.Uid.{new_value, replaced}
use Rattle.dcm_deid.specs.declared.fate.Fate.{Fate}
use Rattle.dcm_deid.specs.declared.fate.Fate.TheVariants.{Remove, Empty, Replace, Anew, Keep}
use Rattle.dcm_deid.specs.declared.fate.Options.{Options}
use Rattle.dcm_deid.specs.declared.fate.Depth.TheVariants.{Outermost}
use Rattle.dcm_deid.specs.declared.fate.ReadAs.TheVariants.{AsBytes, AsItems}
use Rattle.dcm_deid.specs.declared.meta.MetaFate.TheVariants.{Keep as meta_stays, Uid as meta_new}
use Rattle.dcm_deid.specs.declared.fate.NewValue.TheVariants.{Uid}
use Rattle.dcm_base.specs.declared.vr.Vr.TheVariants.{UI}
use Rattle.dcm_deid.specs.MadeNew.{left_of, made_new}
use Rattle.dcm_deid.specs.Fate.{actions, fate_as, moved_if}
use Rattle.dcm_deid.specs.Deidentify.{value_by, leaf_by, sequence_by, fragments_by, items_by_fate, deidentified_set}
use Rattle.dcm_deid.specs.Meta.{implementation, meta_fate, meta_renewing, value_by_fate}
use Rattle.dcm_deid.specs.Saying.{put_in, said, tag_at, whole_of}
use Rattle.dcm_deid.specs.Uids.{unpadded, instance_by, HeadsBy, NewByKey, SetsBy, UidsAgree}
use Rattle.dcm_deid.proofs.Trees.Said.{of_whole, set_with, set_with_all}

-- ---- values

pub new_by_key : NewByKey
unfolding new_value
new_by_key key v w same = ap (replaced key) same

pub text_pads : (b : Bool) → is_pad (if b then 32 else 0) ≡ true
text_pads true = refl
text_pads false = refl

evened_or_not : (p : ℕ) (v : List ℕ) (b : Bool) → is_pad p ≡ true → without_pads (if b then v else v ++ p ∷ []) ≡ without_pads v
evened_or_not p v true e = refl
evened_or_not p v false e = pads_more v p e

pub without_pad : (vr : Vr) (v : List ℕ) → without_pads (evened (pad vr) v) ≡ without_pads v
without_pad vr v = evened_or_not (pad vr) v (length v % 2 == 0) (text_pads (is_text vr))

-- ---- in the head of a file

abbrev instance : Tag
instance = tag_at 0x0002 0x0003

renamed_or_not : (b : Bool) (key value : List ℕ) (tag : Tag) (vr : Vr) (more : Trees) → same_tag tag instance ≡ true
    → unpadded instance (leaf_if (value_by_fate (if b then meta_stays else meta_new) key value) tag vr more) ≡ Some (if b then without_pads value else without_pads (replaced key (without_pads value)))
unfolding new_value
renamed_or_not true key value tag vr more e = ap (λ (c : Bool). if c then Some (without_pads value) else unpadded instance more) e
renamed_or_not false key value tag vr more e = ap (λ (c : Bool). if c then Some (without_pads (replaced key (without_pads value))) else unpadded instance more) e

other_leaf : (left : Option (List ℕ)) (tag : Tag) (vr : Vr) (more : Trees) → same_tag tag instance ≡ false → unpadded instance (leaf_if left tag vr more) ≡ unpadded instance more
other_leaf None tag vr more e = refl
other_leaf (Some v) tag vr more e = ap (λ (c : Bool). if c then Some (without_pads v) else unpadded instance more) e

module _ (options : Options) (key : List ℕ) where
  head_leaf : (tag : Tag) (vr : Vr) (value : List ℕ) (rest more : Trees) (c : Bool) → same_tag tag instance ≡ c → unpadded instance more ≡ option_map (instance_by options key) (unpadded instance rest)
      → unpadded instance (leaf_if (meta_renewing options key tag vr value) tag vr more) ≡ option_map (instance_by options key) (if c then Some (without_pads value) else unpadded instance rest)
  head_leaf tag vr value rest more true e h =
      ap (λ (t : Tag). unpadded instance (leaf_if (value_by_fate (meta_fate options t) key value) tag vr more)) (tag_is tag instance e) ∙ renamed_or_not options.uids key value tag vr more e
  head_leaf tag vr value rest more false e h = other_leaf (meta_renewing options key tag vr value) tag vr more e ∙ h

  head_by : (elements : Trees) → unpadded instance (renewed (meta_renewing options key) implementation elements) ≡ option_map (instance_by options key) (unpadded instance elements)
  head_by no_tree = refl
  head_by (leaf tag vr value rest) = head_leaf tag vr value rest (renewed (meta_renewing options key) implementation rest) (same_tag tag instance) refl (head_by rest)
  head_by (sequence tag vr declared items rest) = head_by rest
  head_by (fragments tag vr parts rest) = head_by rest

pub heads_by : HeadsBy
heads_by options key m = head_by options key m.elements

-- ---- in its data set

abbrev own : Tag
own = tag_at 0x0008 0x0018

by_uids : (b : Bool) → moved_if false UI (if b || false then Keep else Anew Uid) ≡ (if b then Keep else Anew Uid)
by_uids true = refl
by_uids false = refl

pub own_fate : (options : Options) → fate_as options Outermost AsBytes own ≡ (if options.uids then Keep else Anew Uid)
unfolding fate_as D.vr_in D.element_in D.elements_in D.entries D.ambiguous actions
own_fate options = by_uids options.uids

own_value : (b : Bool) (options : Options) (key value : List ℕ) (tag : Tag) (vr : Vr) (more : Trees) (fate : Fate) → fate ≡ (if b then Keep else Anew Uid) → same_tag tag own ≡ true
    → unpadded own (leaf_by fate tag vr (value_by (made_new options key) fate vr value) more) ≡ Some (if b then without_pads value else without_pads (replaced key (without_pads value)))
unfolding made_new left_of
own_value true options key value tag vr more fate e at =
    ap (λ (f : Fate). unpadded own (leaf_by f tag vr (value_by (made_new options key) f vr value) more)) e ∙ ap (λ (c : Bool). if c then Some (without_pads value) else unpadded own more) at
own_value false options key value tag vr more fate e at =
    let new : List ℕ = evened (pad vr) (replaced key (without_pads value)) in
    ap (λ (f : Fate). unpadded own (leaf_by f tag vr (value_by (made_new options key) f vr value) more)) e ∙ ap (λ (c : Bool). if c then Some (without_pads new) else unpadded own more) at
    ∙ ap (λ (bytes : List ℕ). Some bytes) (without_pad vr (replaced key (without_pads value)))

other_value : (fate : Fate) (tag : Tag) (vr : Vr) (value : List ℕ) (more : Trees) → same_tag tag own ≡ false → unpadded own (leaf_by fate tag vr value more) ≡ unpadded own more
other_value Remove tag vr value more e = refl
other_value Empty tag vr value more e = ap (λ (c : Bool). if c then Some (without_pads value) else unpadded own more) e
other_value Replace tag vr value more e = ap (λ (c : Bool). if c then Some (without_pads value) else unpadded own more) e
other_value (Anew made) tag vr value more e = ap (λ (c : Bool). if c then Some (without_pads value) else unpadded own more) e
other_value Keep tag vr value more e = ap (λ (c : Bool). if c then Some (without_pads value) else unpadded own more) e

no_sequence : (fate : Fate) (tag : Tag) (vr : Vr) (items : Items) (more : Trees) → unpadded own (sequence_by fate tag vr items more) ≡ unpadded own more
no_sequence Remove tag vr items more = refl
no_sequence Empty tag vr items more = refl
no_sequence Replace tag vr items more = refl
no_sequence (Anew made) tag vr items more = refl
no_sequence Keep tag vr items more = refl

no_fragments : (fate : Fate) (tag : Tag) (vr : Vr) (parts : List (List ℕ)) (more : Trees) → unpadded own (fragments_by fate tag vr parts more) ≡ unpadded own more
no_fragments Remove tag vr parts more = refl
no_fragments Empty tag vr parts more = refl
no_fragments Replace tag vr parts more = refl
no_fragments (Anew made) tag vr parts more = refl
no_fragments Keep tag vr parts more = refl

module _ (options : Options) (key : List ℕ) where
  abbrev left : Trees → Trees
  left set = deidentified_set options (made_new options key) Outermost set

  abbrev anew : Option (List ℕ) → Option (List ℕ)
  anew uid = option_map (instance_by options key) uid

  set_leaf : (tag : Tag) (vr : Vr) (value : List ℕ) (rest : Trees) (c : Bool) → same_tag tag own ≡ c → unpadded own (left rest) ≡ anew (unpadded own rest)
      → unpadded own (leaf_by (fate_as options Outermost AsBytes tag) tag vr (value_by (made_new options key) (fate_as options Outermost AsBytes tag) vr value) (left rest)) ≡ anew (if c then Some (without_pads value) else unpadded own rest)
  set_leaf tag vr value rest true e h =
      own_value options.uids options key value tag vr (left rest) (fate_as options Outermost AsBytes tag) (ap (fate_as options Outermost AsBytes) (tag_is tag own e) ∙ own_fate options) e
  set_leaf tag vr value rest false e h =
      other_value (fate_as options Outermost AsBytes tag) tag vr (value_by (made_new options key) (fate_as options Outermost AsBytes tag) vr value) (left rest) e ∙ h

  set_by : (set : Trees) → unpadded own (left set) ≡ anew (unpadded own set)
  set_by no_tree = refl
  set_by (leaf tag vr value rest) = set_leaf tag vr value rest (same_tag tag own) refl (set_by rest)
  set_by (sequence tag vr declared items rest) = no_sequence (fate_as options Outermost AsItems tag) tag vr (items_by_fate (fate_as options) (value_by (made_new options key)) items) (left rest) ∙ set_by rest
  set_by (fragments tag vr parts rest) = no_fragments (fate_as options Outermost AsBytes tag) tag vr parts (left rest) ∙ set_by rest

-- ---- what is put is another element

abbrev IsOther : Trees → Type 0
IsOther element = (set : Trees) → unpadded own (then_trees element set) ≡ unpadded own set

either_set : (b : Bool) (x y set : Trees) → unpadded own x ≡ unpadded own set → unpadded own y ≡ unpadded own set → unpadded own (if b then x else y) ≡ unpadded own set
either_set true x y set h k = h
either_set false x y set h k = k

put_other : (t : Tag) (element set : Trees) → IsOther element → unpadded own element ≡ None → unpadded own (put_in t element set) ≡ unpadded own set
put_other t element no_tree h none = none
put_other t element (leaf tag vr value rest) h none =
    either_set (below t tag) _ _ (leaf tag vr value rest) (h (leaf tag vr value rest)) (ap (λ (r : Option (List ℕ)). if same_tag tag own then Some (without_pads value) else r) (put_other t element rest h none))
put_other t element (sequence tag vr declared items rest) h none = either_set (below t tag) _ _ (sequence tag vr declared items rest) (h (sequence tag vr declared items rest)) (put_other t element rest h none)
put_other t element (fragments tag vr parts rest) h none = either_set (below t tag) _ _ (fragments tag vr parts rest) (h (fragments tag vr parts rest)) (put_other t element rest h none)

with_other : (b : Bool) (t : Tag) (element set : Trees) → IsOther element → unpadded own element ≡ None → unpadded own (if b then set else put_in t element set) ≡ unpadded own set
with_other true t element set h none = refl
with_other false t element set h none = put_other t element set h none

abbrev AreOther : List (Tag × Trees) → Type 0
AreOther [] = Unit {0}
AreOther (new ∷ news) = IsOther new.1 × (unpadded own new.1 ≡ None) × AreOther news

all_other : (news : List (Tag × Trees)) (set : Trees) → AreOther news → unpadded own (set_with_all news set) ≡ unpadded own set
all_other [] set h = refl
all_other (new ∷ news) set h = all_other news (set_with new set) h.2 ∙ with_other _ new.0 new.1 set h.0 h.1

said_other : (options : Options) → AreOther (said options)
said_other options = (λ set. refl, refl, (λ set. refl, refl, (λ set. refl, refl, (λ set. refl, refl, tt))))

pub sets_by : SetsBy
sets_by options key reached set =
    ap (λ f. unpadded own (whole_of f)) (of_whole options (made_new options key) reached set) ∙ all_other (said options) (deidentified_set options (made_new options key) Outermost set) (said_other options) ∙ set_by options key set

pub uids_agree : UidsAgree
uids_agree options key m reached set same = heads_by options key m ∙ ap (option_map (instance_by options key)) same ∙ sym (sets_by options key reached set)
