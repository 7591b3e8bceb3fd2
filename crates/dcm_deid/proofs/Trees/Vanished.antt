-- How many dates of data sets have nothing left.
use Rattle.std.proofs.Common.{◌≡◌, ◌∙◌, ap, sym, refl, ℕ, ◌+◌, List, Bool, true, false, ◌&&◌, not, arith}
use Rattle.dcm_base.specs.declared.vr.Vr.{Vr}
use Rattle.dcm_base.specs.Tables.Representation.{pad}
use Rattle.dcm_base.specs.Tables.Transfer.{without_pads}
use Rattle.dcm_base.specs.Tree.Tree.{Trees, no_tree, leaf, sequence, fragments, Items, no_item, item}
use Rattle.dcm_base.specs.Tree.Value.{evened}
use Rattle.dcm_base.specs.declared.tag.Tag.{Tag}
use Rattle.dcm_deid.specs.declared.fate.Fate.{Fate}
use Rattle.dcm_deid.specs.declared.fate.Fate.TheVariants.{Remove, Empty, Replace, Anew, Keep}
use Rattle.dcm_deid.specs.declared.fate.NewValue.{NewValue}
use Rattle.dcm_deid.specs.declared.fate.NewValue.TheVariants.{Uid, Pseudonym, MovedDate, MovedDateTime}
use Rattle.dcm_deid.specs.declared.fate.Options.{Options}
use Rattle.dcm_deid.specs.declared.fate.Depth.{Depth}
use Rattle.dcm_deid.specs.declared.fate.Depth.TheVariants.{Inside}
use Rattle.dcm_deid.specs.declared.fate.ReadAs.{ReadAs}
use Rattle.dcm_deid.specs.declared.fate.ReadAs.TheVariants.{AsBytes, AsItems}
use Rattle.dcm_deid.specs.Deidentify.{Fates, Renaming}
use Rattle.dcm_deid.specs.Emptied.{emptied, emptied_in_items, empties, has_bytes, inside_kept, is_moved, one_if}
use Rattle.dcm_deid.specs.MadeNew.{left_of, made_new}
use Rattle.dcm_deid.specs.Pairs.{BothHaveBytes, SameValue, IsNotKept, Pairs, both_end, leaf_goes, sequence_goes, fragments_go, other_way, leaves, sequences_kept, sequences_emptied, same_fragments, PairItems, no_items, items_pair}

-- ---- the key has no influence

left_empties : (options : Options) (key : List ℕ) (fate : Fate) (vr : Vr) (value : List ℕ) → empties (made_new options key) fate vr value ≡ empties (left_of options) fate vr value
unfolding made_new
left_empties options key Remove vr value = refl
left_empties options key Empty vr value = refl
left_empties options key Replace vr value = refl
left_empties options key (Anew Uid) vr value = refl
left_empties options key (Anew Pseudonym) vr value = refl
left_empties options key (Anew MovedDate) vr value = refl
left_empties options key (Anew MovedDateTime) vr value = refl
left_empties options key Keep vr value = refl

both_more : (a b m n : ℕ) → a ≡ b → m ≡ n → a + m ≡ b + n
both_more a b m n e h = ap (λ (x : ℕ). x + m) e ∙ ap (λ (x : ℕ). b + x) h

module _ (options : Options) (key : List ℕ) (fates : Fates) where
  mutual
    pub by_left : (depth : Depth) (f : Trees) → emptied fates (made_new options key) depth f ≡ emptied fates (left_of options) depth f
    by_left depth no_tree = refl
    by_left depth (leaf tag vr value rest) = both_more _ _ _ _ (ap one_if (left_empties options key (fates depth AsBytes tag) vr value)) (by_left depth rest)
    by_left depth (sequence tag vr declared items rest) = both_more _ _ _ _ (ap (inside_kept (fates depth AsItems tag)) (items_by_left items)) (by_left depth rest)
    by_left depth (fragments tag vr values rest) = by_left depth rest

    items_by_left : (items : Items) → emptied_in_items fates (made_new options key) items ≡ emptied_in_items fates (left_of options) items
    items_by_left no_item = refl
    items_by_left (item declared set rest) = both_more _ _ _ _ (by_left Inside set) (items_by_left rest)

-- ---- by the same fates

module _ (one other : Fates) (new : Renaming) (same : (depth : Depth) (read : ReadAs) (tag : Tag) → one depth read tag ≡ other depth read tag) where
  mutual
    pub vanished_by_same : (depth : Depth) (f : Trees) → emptied one new depth f ≡ emptied other new depth f
    vanished_by_same depth no_tree = refl
    vanished_by_same depth (leaf tag vr value rest) = both_more _ _ _ _ (ap (λ (fate : Fate). one_if (empties new fate vr value)) (same depth AsBytes tag)) (vanished_by_same depth rest)
    vanished_by_same depth (sequence tag vr declared items rest) =
        both_more _ _ _ _ (ap (λ (fate : Fate). inside_kept fate (emptied_in_items one new items)) (same depth AsItems tag) ∙ ap (inside_kept (other depth AsItems tag)) (items_by_same items)) (vanished_by_same depth rest)
    vanished_by_same depth (fragments tag vr values rest) = vanished_by_same depth rest

    items_by_same : (items : Items) → emptied_in_items one new items ≡ emptied_in_items other new items
    items_by_same no_item = refl
    items_by_same (item declared set rest) = both_more _ _ _ _ (vanished_by_same Inside set) (items_by_same rest)

-- ---- pairs

gone_leaf : (new : Renaming) (fate : Fate) (vr : Vr) (value : List ℕ) (m n : ℕ) → fate ≡ Remove → m ≡ n → one_if (empties new fate vr value) + m ≡ n
gone_leaf new fate vr value m n e h = let none : one_if (empties new fate vr value) ≡ 0 = ap (λ (f : Fate). one_if (empties new f vr value)) e in omega (arith, none, h)

gone_sequence : (fate : Fate) (count m n : ℕ) → fate ≡ Remove → m ≡ n → inside_kept fate count + m ≡ n
gone_sequence fate count m n e h = let none : inside_kept fate count ≡ 0 = ap (λ (f : Fate). inside_kept f count) e in omega (arith, none, h)

not_inside : (fate : Fate) (a b : ℕ) → IsNotKept fate → inside_kept fate a ≡ inside_kept fate b
not_inside Remove a b n = refl
not_inside Empty a b n = refl
not_inside Replace a b n = refl
not_inside (Anew made) a b n = refl
not_inside Keep a b n = absurd (n)

where_moved : (is : Bool) (a b c d : Bool) → (is ≡ true → a ≡ b) → c ≡ d → (is && (a && c)) ≡ (is && (b && d))
where_moved true a b c d e h = ap (λ (x : Bool). x && c) (e refl) ∙ ap (λ (x : Bool). b && x) h
where_moved false a b c d e h = refl

two_values : (one other : Renaming) (fate : Fate) (vr : Vr) (v w : List ℕ) → SameValue one other fate v w → empties one fate vr v ≡ empties other fate vr w
two_values one other Remove vr v w s = refl
two_values one other Empty vr v w s = refl
two_values one other Replace vr v w s = refl
two_values one other (Anew made) vr v w s =
    where_moved (is_moved made) (has_bytes (without_pads v)) (has_bytes (without_pads w)) (not (has_bytes (evened (pad vr) (one made (without_pads v))))) (not (has_bytes (evened (pad vr) (other made (without_pads w))))) s.1
    (ap (λ (x : List ℕ). not (has_bytes (evened (pad vr) x))) s.0)
two_values one other Keep vr v w s = refl

mutual
  pub same_vanished : (one other : Renaming) (fates : Fates) (depth : Depth) (f g : Trees) → Pairs one other fates depth f g → emptied fates one depth f ≡ emptied fates other depth g
  same_vanished _ _ _ _ _ _ (both_end one other fates depth) = refl
  same_vanished _ _ _ _ _ _ (leaf_goes one other fates depth tag vr value rest g e p) = gone_leaf one (fates depth AsBytes tag) vr value _ _ e (same_vanished one other fates depth rest g p)
  same_vanished _ _ _ _ _ _ (sequence_goes one other fates depth tag vr declared items rest g e p) = gone_sequence (fates depth AsItems tag) (emptied_in_items fates one items) _ _ e (same_vanished one other fates depth rest g p)
  same_vanished _ _ _ _ _ _ (fragments_go one other fates depth tag vr parts rest g n p) = same_vanished one other fates depth rest g p
  same_vanished _ _ _ _ _ _ (other_way one other fates depth f g p) = sym (same_vanished other one fates depth g f p)
  same_vanished _ _ _ _ _ _ (leaves one other fates depth tag vr v w a b s p) =
      both_more _ _ _ _ (ap one_if (two_values one other (fates depth AsBytes tag) vr v w s)) (same_vanished one other fates depth a b p)
  same_vanished _ _ _ _ _ _ (sequences_kept one other fates depth tag vr m n items others a b i p) =
      both_more _ _ _ _ (ap (inside_kept (fates depth AsItems tag)) (same_in_items one other fates items others i)) (same_vanished one other fates depth a b p)
  same_vanished _ _ _ _ _ _ (sequences_emptied one other fates depth tag vr m n items others a b e p) =
      both_more _ _ _ _ (not_inside (fates depth AsItems tag) (emptied_in_items fates one items) (emptied_in_items fates other others) e) (same_vanished one other fates depth a b p)
  same_vanished _ _ _ _ _ _ (same_fragments one other fates depth tag vr parts a b p) = same_vanished one other fates depth a b p

  pub same_in_items : (one other : Renaming) (fates : Fates) (items others : Items) → PairItems one other fates items others → emptied_in_items fates one items ≡ emptied_in_items fates other others
  same_in_items _ _ _ _ _ (no_items one other fates) = refl
  same_in_items _ _ _ _ _ (items_pair one other fates m n f g rest more p i) = both_more _ _ _ _ (same_vanished one other fates Inside f g p) (same_in_items one other fates rest more i)
