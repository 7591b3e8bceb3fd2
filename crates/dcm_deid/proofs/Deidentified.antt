-- What the sink passes on of a data set is that of the data set without identity.
use Rattle.std.proofs.Common.{◌≡◌, ℕ, List, [], ◌∷◌, ◌++◌, Option, Some, None, Bool, true, false, ◌||◌, not, refl, sym, ap, subst, ◌∙◌}
use Rattle.std.specs.Prelude.{if◌then◌else◌}
use Rattle.dcm_base.specs.declared.tag.Tag.{Tag}
use Rattle.dcm_base.specs.declared.vr.Vr.{Vr}
use Rattle.dcm_base.specs.Tables.Tag.{is_above}
use Rattle.dcm_base.specs.Bytes.Spelling.{last_tag, reached_tag}
use Rattle.dcm_base.specs.Lines.Ascending.{Ascend, AllBelow, FrontAscends, OpenAscends}
use Rattle.dcm_base.specs.Tree.Tree.{Trees, no_tree, leaf, sequence, fragments, Items, then_trees}
use Rattle.dcm_base.specs.Tree.Front.{Front, front, OpenTree, nothing_open, open_leaf, open_sequence, open_fragments}
use Rattle.dcm_base.specs.Steps.Atoms.{Atom, MayEnd, Shows}
use Rattle.dcm_base.specs.Steps.Steps.{outputs}
use Rattle.dcm_sinks.specs.Laws.{StaysShallow}
use Rattle.dcm_edits.specs.Edit.{has, has_open, is_passed}
use Rattle.dcm_edits.proofs.Trees.FrontEdits.{then_trees-assoc}
use Rattle.dcm_deid.specs.MadeNew.{made_new}
use Rattle.dcm_deid.specs.declared.fate.Fate.{Fate}
use Rattle.dcm_deid.specs.declared.fate.Fate.TheVariants.{Remove, Empty, Replace, Anew, Keep}
use Rattle.dcm_deid.specs.declared.fate.Options.{Options}
use Rattle.dcm_deid.specs.declared.fate.Depth.TheVariants.{Outermost}
use Rattle.dcm_deid.specs.declared.fate.ReadAs.TheVariants.{AsBytes, AsItems}
use Rattle.dcm_deid.specs.Fate.{fate_as}
use Rattle.dcm_deid.specs.Deidentify.{value_by, leaf_by, sequence_by, fragments_by, by_fate}
use Rattle.dcm_deid.specs.Saying.{put_in, with_put, all_put, said, made_whole, open_by_fate, deidentified}
use Rattle.dcm_deid.specs.DeidentifySink.{nothing_seen, begun, next, passed, is_due}
use Rattle.dcm_base.specs.Steps.Anew.{reached_anew}
use Rattle.dcm_deid.proofs.Walked.{due_trees, then_if, written}
use Rattle.dcm_deid.proofs.OpenParts.{tail, front_written, passes_front}
use Rattle.dcm_deid.proofs.PutOnes.{AllLess, put_if}
use Rattle.dcm_deid.proofs.Weave.{end_of, woven}
use Rattle.dcm_deid.proofs.Woven.{OpenAbove}
use Rattle.dcm_deid.proofs.Placing.{reach}
use Rattle.dcm_deid.proofs.PutInPlace.{New, placed}
use Rattle.dcm_deid.proofs.AtOpen.{at_an_end}
use Rattle.dcm_deid.proofs.SaidOnes.{removed_said, method_said, codes_said, times_said, before_method, before_codes, before_times, removed_new, method_new, codes_new, times_new}

-- ---- elements, and then others

if_then : (b : Bool) (e x y : Trees) → then_trees (then_if b e x) y ≡ then_if b e (then_trees x y)
if_then true e x y = then_trees-assoc e x y
if_then false e x y = refl

due_then : (passes : Tag → Bool) (news : List (Tag × Trees)) (x y : Trees) → then_trees (due_trees passes news x) y ≡ due_trees passes news (then_trees x y)
due_then passes [] x y = refl
due_then passes (n ∷ news) x y = if_then (passes n.0) n.1 (due_trees passes news x) y ∙ ap (then_if (passes n.0) n.1) (due_then passes news x y)

leaf_then : (fate : Fate) (tag : Tag) (vr : Vr) (v : List ℕ) (x y : Trees) → then_trees (leaf_by fate tag vr v x) y ≡ leaf_by fate tag vr v (then_trees x y)
leaf_then Remove tag vr v x y = refl
leaf_then Empty tag vr v x y = refl
leaf_then Replace tag vr v x y = refl
leaf_then (Anew made) tag vr v x y = refl
leaf_then Keep tag vr v x y = refl

sequence_then : (fate : Fate) (tag : Tag) (vr : Vr) (items : Items) (x y : Trees) → then_trees (sequence_by fate tag vr items x) y ≡ sequence_by fate tag vr items (then_trees x y)
sequence_then Remove tag vr items x y = refl
sequence_then Empty tag vr items x y = refl
sequence_then Replace tag vr items x y = refl
sequence_then (Anew made) tag vr items x y = refl
sequence_then Keep tag vr items x y = refl

fragments_then : (fate : Fate) (tag : Tag) (vr : Vr) (values : List (List ℕ)) (x y : Trees) → then_trees (fragments_by fate tag vr values x) y ≡ fragments_by fate tag vr values (then_trees x y)
fragments_then Remove tag vr values x y = refl
fragments_then Empty tag vr values x y = refl
fragments_then Replace tag vr values x y = refl
fragments_then (Anew made) tag vr values x y = refl
fragments_then Keep tag vr values x y = refl

module _ (o : Options) (k : List ℕ) (p : OpenTree) (c : Bool) where
  -- ---- with all four, between the elements

  end_is : (q : OpenTree) (d : Bool) (last : Option Tag) → tail o k [] last q d ≡ end_of o k q d (said o) last
  end_is nothing_open true last = refl
  end_is nothing_open false last = refl
  end_is (open_leaf tag vr size value) d last = refl
  end_is (open_sequence tag vr declared items last') d last = refl
  end_is (open_fragments tag vr values last') d last = refl

  one_then : (last : Option Tag) (tag : Tag) (part : Trees → Trees) (x y z : Trees) → then_trees (part x) y ≡ part (then_trees x y) → then_trees x y ≡ z
      → then_trees (due_trees (is_due o last (Some tag)) (said o) (part x)) y ≡ due_trees (is_due o last (Some tag)) (said o) (part z)
  one_then last tag part x y z e h =
      due_then (is_due o last (Some tag)) (said o) (part x) y ∙ ap (due_trees (is_due o last (Some tag)) (said o)) (e ∙ ap part h)

  all_woven : (whole : Trees) (last : Option Tag) → then_trees (written o k [] last whole) (tail o k [] (last_tag last whole) p c) ≡ woven o k p c (said o) last whole
  unfolding last_tag
  all_woven no_tree last = end_is p c last
  all_woven (leaf tag vr value rest) last =
      let fate = fate_as o Outermost AsBytes tag in
      one_then last tag (leaf_by fate tag vr _) _ _ _ (leaf_then fate tag vr _ _ _) (all_woven rest (Some tag))
  all_woven (sequence tag vr declared items rest) last =
      let fate = fate_as o Outermost AsItems tag in
      one_then last tag (sequence_by fate tag vr _) _ _ _ (sequence_then fate tag vr _ _ _) (all_woven rest (Some tag))
  all_woven (fragments tag vr values rest) last =
      let fate = fate_as o Outermost AsBytes tag in
      one_then last tag (fragments_by fate tag vr values) _ _ _ (fragments_then fate tag vr values _ _) (all_woven rest (Some tag))

  -- ---- with none of them

  end_alone : (q : OpenTree) (d : Bool) (last : Option Tag) → made_whole (fate_as o) (value_by (made_new o k)) Outermost q ≡ end_of o k q d [] last
  end_alone nothing_open true last = refl
  end_alone nothing_open false last = refl
  end_alone (open_leaf tag vr size value) d last = refl
  end_alone (open_sequence tag vr declared items last') d last = refl
  end_alone (open_fragments tag vr values last') d last = refl

  none_woven : (whole : Trees) (last : Option Tag)
      → then_trees (by_fate (fate_as o) (value_by (made_new o k)) Outermost whole) (made_whole (fate_as o) (value_by (made_new o k)) Outermost p) ≡ woven o k p c [] last whole
  none_woven no_tree last = end_alone p c last
  none_woven (leaf tag vr value rest) last =
      let fate = fate_as o Outermost AsBytes tag in
      leaf_then fate tag vr _ _ _ ∙ ap (leaf_by fate tag vr _) (none_woven rest (Some tag))
  none_woven (sequence tag vr declared items rest) last =
      let fate = fate_as o Outermost AsItems tag in
      sequence_then fate tag vr _ _ _ ∙ ap (sequence_by fate tag vr _) (none_woven rest (Some tag))
  none_woven (fragments tag vr values rest) last =
      let fate = fate_as o Outermost AsBytes tag in
      fragments_then fate tag vr values _ _ ∙ ap (fragments_by fate tag vr values) (none_woven rest (Some tag))

  -- ---- with one more

  abbrev left_open : OpenTree
  left_open = open_by_fate (fate_as o) (value_by (made_new o k)) Outermost p

  put_by : (a b d : Bool) (t : Tag) (e w : Trees) (r : Option Tag)
      → (if a || b || d then front w left_open r c else front (put_in t e w) left_open r c) ≡ front (put_if (a || (b || d)) t e w) left_open r c
  put_by true b d t e w r = refl
  put_by false true d t e w r = refl
  put_by false false true t e w r = refl
  put_by false false false t e w r = refl

  abbrev Woven : List (Tag × Trees) → Trees → Option Tag → Front
  Woven news whole r = front (woven o k p c news None whole) left_open r c

  one_more : (news : List (Tag × Trees)) (n : Tag × Trees) (whole : Trees) (r : Option Tag) → AllLess news n.0 → New o n → MayEnd p c → Ascend None whole → OpenAbove (last_tag None whole) p
      → r ≡ reach (last_tag None whole) p → with_put n (Woven news whole r) ≡ Woven (news ++ n ∷ []) whole r
  one_more news n whole r less new may a up e =
      let w : Trees = woven o k p c news None whole in
      put_by (has n.0 w) (has_open n.0 left_open) (not (is_passed n.0 r c)) n.0 n.1 w r
      ∙ ap (λ (x : Trees). front x left_open r c)
      (ap (λ (l : Option Tag). put_if (has n.0 w || (has_open n.0 left_open || not (is_passed n.0 l c))) n.0 n.1 w) e
      ∙ sym (placed o k news n less new p c (λ last over. at_an_end o k news n less new p c last may) whole None a up refl))

  pub all_placed : (whole : Trees) (r : Option Tag) → MayEnd p c → Ascend None whole → OpenAbove (last_tag None whole) p → r ≡ reach (last_tag None whole) p
      → front_written o k [] (front whole p r c) ≡ deidentified o (made_new o k) (front whole p r c)
  unfolding deidentified
  all_placed whole r may a up e =
      let one : List (Tag × Trees) = removed_said ∷ [] in
      let two : List (Tag × Trees) = removed_said ∷ method_said ∷ [] in
      let three : List (Tag × Trees) = removed_said ∷ method_said ∷ codes_said o ∷ [] in
      ap (λ (x : Trees). front x left_open r c) (all_woven whole None)
      ∙ sym
      (ap (λ (x : Trees). all_put (said o) (front x left_open r c)) (none_woven whole None)
      ∙ ap (all_put (method_said ∷ codes_said o ∷ times_said o ∷ [])) (one_more [] removed_said whole r tt (removed_new o) may a up e)
      ∙ ap (all_put (codes_said o ∷ times_said o ∷ [])) (one_more one method_said whole r before_method (method_new o) may a up e)
      ∙ ap (all_put (times_said o ∷ [])) (one_more two (codes_said o) whole r before_codes (codes_new o) may a up e)
      ∙ one_more three (times_said o) whole r (before_times o) (times_new o) may a up e)

-- ---- the open element is above the last whole one

all_above : (tag : Tag) (whole : Trees) (last : Option Tag) → is_above tag last ≡ true → AllBelow tag whole → is_above tag (last_tag last whole) ≡ true
unfolding last_tag
all_above tag no_tree last h a = h
all_above tag (leaf t vr value rest) last h a = all_above tag rest (Some t) a.0 a.1
all_above tag (sequence t vr declared items rest) last h a = all_above tag rest (Some t) a.0 a.1
all_above tag (fragments t vr values rest) last h a = all_above tag rest (Some t) a.0 a.1

open_above : (p : OpenTree) (whole : Trees) (r : Option Tag) (c : Bool) → OpenAscends whole r c p → OpenAbove (last_tag None whole) p
open_above nothing_open whole r c a = tt
open_above (open_leaf tag vr size value) whole r c a = all_above tag whole None refl a.above
open_above (open_sequence tag vr declared items last') whole r c a = all_above tag whole None refl a.0.above
open_above (open_fragments tag vr values last') whole r c a = all_above tag whole None refl a.above

reach_is : (p : OpenTree) (whole : Trees) → reached_tag whole p ≡ reach (last_tag None whole) p
reach_is nothing_open whole = refl
reach_is (open_leaf tag vr size value) whole = refl
reach_is (open_sequence tag vr declared items last') whole = refl
reach_is (open_fragments tag vr values last') whole = refl

-- ---- the law

written_is : (o : Options) (k : List ℕ) (f : Front) (atoms : List Atom) → FrontAscends f → Shows f atoms → front_written o k [] f ≡ deidentified o (made_new o k) f
unfolding Shows
written_is o k (front whole p r c) atoms a (others, shown, more, may, re) =
    all_placed o k p c whole r may a.0 (open_above p whole r c a.1) (re ∙ reach_is p whole)

pub deidentify_steps : (o : Options) (k : List ℕ) (f : Front) (atoms : List Atom) → FrontAscends f → StaysShallow 0 atoms → Shows f atoms
    → Shows (reached_anew (deidentified o (made_new o k) f)) (outputs next passed (begun o k) atoms)
deidentify_steps o k f atoms a h shown =
    subst (λ (g : Front). Shows (reached_anew g) (outputs next passed (begun o k) atoms)) (written_is o k f atoms a shown)
    (passes_front f 0 o k [] nothing_seen atoms shown h refl)
