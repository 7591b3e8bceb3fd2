-- Data sets whose elements pair off have the same left.
use Rattle.std.proofs.Common.{◌≡◌, ◌∙◌, ap, sym, refl, ℕ, List, []}
use Rattle.dcm_base.proofs.Conversions.NormalForm.{items_alike}
use Rattle.dcm_base.specs.declared.tag.Tag.{Tag}
use Rattle.dcm_base.specs.declared.vr.Vr.{Vr}
use Rattle.dcm_base.specs.declared.length.Length.TheVariants.{Undefined}
use Rattle.dcm_base.specs.Tree.Tree.{Trees, leaf, sequence, Items, no_item}
use Rattle.dcm_deid.specs.declared.fate.Fate.{Fate}
use Rattle.dcm_deid.specs.declared.fate.Fate.TheVariants.{Remove, Empty, Replace, Anew, Keep}
use Rattle.dcm_deid.specs.declared.fate.Depth.{Depth}
use Rattle.dcm_deid.specs.declared.fate.Depth.TheVariants.{Inside}
use Rattle.dcm_deid.specs.declared.fate.ReadAs.TheVariants.{AsBytes, AsItems}
use Rattle.dcm_deid.specs.Deidentify.{Renaming, leaf_by, sequence_by, fragments_by, Fates, by_fate, items_by_fate}
use Rattle.dcm_deid.specs.Alike.{value_left}
use Rattle.dcm_deid.specs.Pairs.{SameValue, IsNotKept, Pairs, both_end, leaf_goes, sequence_goes, fragments_go, other_way, leaves, sequences_kept, sequences_emptied, same_fragments, PairItems, no_items, items_pair}

gone_leaf : (one : Renaming) (fate : Fate) (tag : Tag) (vr : Vr) (value : List ℕ) (f g : Trees) → fate ≡ Remove → f ≡ g → leaf_by fate tag vr (value_left one fate vr value) f ≡ g
gone_leaf one fate tag vr value f g e h = rw e h

gone_sequence : (fate : Fate) (tag : Tag) (vr : Vr) (items : Items) (f g : Trees) → fate ≡ Remove → f ≡ g → sequence_by fate tag vr items f ≡ g
gone_sequence fate tag vr items f g e h = rw e h

gone_fragments : (fate : Fate) (tag : Tag) (vr : Vr) (parts : List (List ℕ)) (f g : Trees) → IsNotKept fate → f ≡ g → fragments_by fate tag vr parts f ≡ g
gone_fragments Remove tag vr parts f g n h = h
gone_fragments Empty tag vr parts f g n h = h
gone_fragments Replace tag vr parts f g n h = h
gone_fragments (Anew made) tag vr parts f g n h = h
gone_fragments Keep tag vr parts f g n h = absurd (n)

two_leaves : (one other : Renaming) (fate : Fate) (tag : Tag) (vr : Vr) (v w : List ℕ) (f g : Trees) → SameValue one other fate v w → f ≡ g → leaf_by fate tag vr (value_left one fate vr v) f ≡ leaf_by fate tag vr (value_left other fate vr w) g
two_leaves one other Remove tag vr v w f g s h = h
two_leaves one other Empty tag vr v w f g s h = ap (leaf tag vr []) h
two_leaves one other Replace tag vr v w f g s h = ap (leaf tag vr []) h
two_leaves one other (Anew made) tag vr v w f g s h = rw (s.0, h) refl
two_leaves one other Keep tag vr v w f g s h = rw (s, h) refl

two_emptied : (fate : Fate) (tag : Tag) (vr : Vr) (items others : Items) (f g : Trees) → IsNotKept fate → f ≡ g → sequence_by fate tag vr items f ≡ sequence_by fate tag vr others g
two_emptied Remove tag vr items others f g n h = h
two_emptied Empty tag vr items others f g n h = ap (sequence tag vr Undefined no_item) h
two_emptied Replace tag vr items others f g n h = ap (sequence tag vr Undefined no_item) h
two_emptied (Anew made) tag vr items others f g n h = ap (sequence tag vr Undefined no_item) h
two_emptied Keep tag vr items others f g n h = absurd (n)

two_kept : (fate : Fate) (tag : Tag) (vr : Vr) (items others : Items) (f g : Trees) → items ≡ others → f ≡ g → sequence_by fate tag vr items f ≡ sequence_by fate tag vr others g
two_kept fate tag vr items others f g i h = ap (λ (x : Items). sequence_by fate tag vr x f) i ∙ ap (sequence_by fate tag vr others) h

mutual
  pub same_left : (one other : Renaming) (fates : Fates) (depth : Depth) (f g : Trees) → Pairs one other fates depth f g → by_fate fates (value_left one) depth f ≡ by_fate fates (value_left other) depth g
  same_left _ _ _ _ _ _ (both_end one other fates depth) = refl
  same_left _ _ _ _ _ _ (leaf_goes one other fates depth tag vr value rest g e p) = gone_leaf one (fates depth AsBytes tag) tag vr value _ _ e (same_left one other fates depth rest g p)
  same_left _ _ _ _ _ _ (sequence_goes one other fates depth tag vr declared items rest g e p) = gone_sequence (fates depth AsItems tag) tag vr _ _ _ e (same_left one other fates depth rest g p)
  same_left _ _ _ _ _ _ (fragments_go one other fates depth tag vr parts rest g n p) = gone_fragments (fates depth AsBytes tag) tag vr parts _ _ n (same_left one other fates depth rest g p)
  same_left _ _ _ _ _ _ (other_way one other fates depth f g p) = sym (same_left other one fates depth g f p)
  same_left _ _ _ _ _ _ (leaves one other fates depth tag vr v w a b s p) = two_leaves one other (fates depth AsBytes tag) tag vr v w _ _ s (same_left one other fates depth a b p)
  same_left _ _ _ _ _ _ (sequences_kept one other fates depth tag vr m n items others a b i p) = two_kept (fates depth AsItems tag) tag vr _ _ _ _ (same_items one other fates items others i) (same_left one other fates depth a b p)
  same_left _ _ _ _ _ _ (sequences_emptied one other fates depth tag vr m n items others a b e p) = two_emptied (fates depth AsItems tag) tag vr _ _ _ _ e (same_left one other fates depth a b p)
  same_left _ _ _ _ _ _ (same_fragments one other fates depth tag vr parts a b p) = ap (fragments_by (fates depth AsBytes tag) tag vr parts) (same_left one other fates depth a b p)

  pub same_items : (one other : Renaming) (fates : Fates) (items others : Items) → PairItems one other fates items others → items_by_fate fates (value_left one) items ≡ items_by_fate fates (value_left other) others
  same_items _ _ _ _ _ (no_items one other fates) = refl
  same_items _ _ _ _ _ (items_pair one other fates m n f g rest more p i) = items_alike _ _ _ _ (same_left one other fates Inside f g p) (same_items one other fates rest more i)
