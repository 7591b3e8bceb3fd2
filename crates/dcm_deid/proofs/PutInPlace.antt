-- A new element that is put into a data set, whole or as far as it was read, comes to its place.
use Rattle.std.proofs.Common.{◌≡◌, ℕ, List, [], ◌∷◌, ◌++◌, Option, Some, Bool, true, false, ◌||◌, refl, sym, ap, subst, ◌∙◌}
use Rattle.dcm_lemmas.proofs.Truth.{or_first}
use Rattle.dcm_base.specs.declared.tag.Tag.{Tag}
use Rattle.dcm_base.specs.declared.vr.Vr.{Vr}
use Rattle.dcm_base.specs.Tables.Tag.{same_tag}
use Rattle.dcm_base.specs.Bytes.Spelling.{last_tag}
use Rattle.dcm_base.specs.Lines.Ascending.{Ascend}
use Rattle.dcm_base.specs.Tree.Tree.{Trees, no_tree, leaf, sequence, fragments, Items, then_trees}
use Rattle.dcm_base.specs.Tree.Front.{OpenTree}
use Rattle.dcm_base.proofs.Dictionaries.TagOrder.{tag_is}
use Rattle.dcm_edits.specs.Edit.{has}
use Rattle.dcm_deid.specs.declared.fate.Options.{Options}
use Rattle.dcm_deid.specs.declared.fate.Fate.{Fate}
use Rattle.dcm_deid.specs.declared.fate.Fate.TheVariants.{Remove, Keep}
use Rattle.dcm_deid.specs.declared.fate.Depth.TheVariants.{Outermost}
use Rattle.dcm_deid.specs.declared.fate.ReadAs.{ReadAs}
use Rattle.dcm_deid.specs.declared.fate.ReadAs.TheVariants.{AsBytes, AsItems}
use Rattle.dcm_deid.specs.Fate.{fate_as}
use Rattle.dcm_deid.specs.Deidentify.{leaf_by, sequence_by, fragments_by}
use Rattle.dcm_deid.specs.DeidentifySink.{is_after, is_there}
use Rattle.dcm_deid.proofs.PutOnes.{leaf_by_part, sequence_by_part, fragments_by_part, AllLess, put_if}
use Rattle.dcm_deid.proofs.Weave.{there_same, past, woven, end_of}
use Rattle.dcm_deid.proofs.Woven.{OpenAbove, all_first}
use Rattle.dcm_deid.proofs.Placing.{opens_of, opens_none, element}

-- an element that says what was done: one of its tag goes, or stays where dates do
pub record New (o : Options) (n : Tag × Trees) : Type 0 where
  pub alone : then_trees n.1 no_tree ≡ n.1
  pub gone : (read : ReadAs) → is_there o n.0 n.0 ≡ false → fate_as o Outermost read n.0 ≡ Remove
  pub stays : (read : ReadAs) → is_there o n.0 n.0 ≡ true → fate_as o Outermost read n.0 ≡ Keep

module _ (o : Options) (k : List ℕ) (news : List (Tag × Trees)) (n : Tag × Trees) (less : AllLess news n.0) (new : New o n) where
  gone_at : (read : ReadAs) (tag : Tag) → is_there o tag n.0 ≡ false → same_tag n.0 tag ≡ true → fate_as o Outermost read tag ≡ Remove
  gone_at read tag h same =
      let e = tag_is n.0 tag same in
      subst (λ (u : Tag). fate_as o Outermost read u ≡ Remove) e (new.gone read (subst (λ (u : Tag). is_there o u n.0 ≡ false) (sym e) h))

  stays_at : (read : ReadAs) (tag : Tag) → is_there o tag n.0 ≡ true → fate_as o Outermost read tag ≡ Keep
  stays_at read tag h =
      let e = tag_is n.0 tag (there_same o tag n.0 h) in
      subst (λ (u : Tag). fate_as o Outermost read u ≡ Keep) e (new.stays read (subst (λ (u : Tag). is_there o u n.0 ≡ true) (sym e) h))

  leaf_gone : (fate : Fate) (tag : Tag) (vr : Vr) (v : List ℕ) (x : Trees) → fate ≡ Remove → has n.0 (leaf_by fate tag vr v x) ≡ has n.0 x
  leaf_gone fate tag vr v x e = ap (λ (f : Fate). has n.0 (leaf_by f tag vr v x)) e

  leaf_there : (fate : Fate) (tag : Tag) (vr : Vr) (v : List ℕ) (x : Trees) → fate ≡ Keep → same_tag n.0 tag ≡ true → has n.0 (leaf_by fate tag vr v x) ≡ true
  leaf_there fate tag vr v x e same = ap (λ (f : Fate). has n.0 (leaf_by f tag vr v x)) e ∙ or_first _ _ same

  sequence_gone : (fate : Fate) (tag : Tag) (vr : Vr) (items : Items) (x : Trees) → fate ≡ Remove → has n.0 (sequence_by fate tag vr items x) ≡ has n.0 x
  sequence_gone fate tag vr items x e = ap (λ (f : Fate). has n.0 (sequence_by f tag vr items x)) e

  sequence_there : (fate : Fate) (tag : Tag) (vr : Vr) (items : Items) (x : Trees) → fate ≡ Keep → same_tag n.0 tag ≡ true → has n.0 (sequence_by fate tag vr items x) ≡ true
  sequence_there fate tag vr items x e same = ap (λ (f : Fate). has n.0 (sequence_by f tag vr items x)) e ∙ or_first _ _ same

  fragments_gone : (fate : Fate) (tag : Tag) (vr : Vr) (values : List (List ℕ)) (x : Trees) → fate ≡ Remove → has n.0 (fragments_by fate tag vr values x) ≡ has n.0 x
  fragments_gone fate tag vr values x e = ap (λ (f : Fate). has n.0 (fragments_by f tag vr values x)) e

  fragments_there : (fate : Fate) (tag : Tag) (vr : Vr) (values : List (List ℕ)) (x : Trees) → fate ≡ Keep → same_tag n.0 tag ≡ true → has n.0 (fragments_by fate tag vr values x) ≡ true
  fragments_there fate tag vr values x e same = ap (λ (f : Fate). has n.0 (fragments_by f tag vr values x)) e ∙ or_first _ _ same

  pub placed : (p : OpenTree) (c : Bool) (at_end : (last : Option Tag) → OpenAbove last p → is_after o last n.0 ≡ true → end_of o k p c (news ++ n ∷ []) last ≡ put_if (has n.0 (end_of o k p c news last) || opens_of o k p c n.0 last) n.0 n.1 (end_of o k p c news last))
      (whole : Trees) (last : Option Tag) → Ascend last whole → OpenAbove (last_tag last whole) p → is_after o last n.0 ≡ true
      → woven o k p c (news ++ n ∷ []) last whole ≡ put_if (has n.0 (woven o k p c news last whole) || opens_of o k p c n.0 (last_tag last whole)) n.0 n.1 (woven o k p c news last whole)
  unfolding last_tag
  placed p c at_end no_tree last a up after = at_end last up after
  placed p c at_end (leaf tag vr value rest) last a up after =
      let fate = fate_as o Outermost AsBytes tag in
      element o k news n less new.alone last tag (leaf_by fate tag vr _) _ _ (opens_of o k p c n.0 (last_tag (Some tag) rest)) (leaf_by_part fate tag vr _)
      (λ so same. leaf_gone fate tag vr _ _ (gone_at AsBytes tag so same))
      (λ so. leaf_there fate tag vr _ _ (stays_at AsBytes tag so) (there_same o tag n.0 so))
      (λ low. (past o k p c news n rest tag a.1 (rw low refl), all_first o k news n less new.alone p c rest tag low a.1 up, opens_none o k p c n.0 rest tag low a.1 up))
      (past o k p c news n rest tag a.1)
      (placed p c at_end rest (Some tag) a.1 up)
      after
  placed p c at_end (sequence tag vr declared items rest) last a up after =
      let fate = fate_as o Outermost AsItems tag in
      element o k news n less new.alone last tag (sequence_by fate tag vr _) _ _ (opens_of o k p c n.0 (last_tag (Some tag) rest)) (sequence_by_part fate tag vr _)
      (λ so same. sequence_gone fate tag vr _ _ (gone_at AsItems tag so same))
      (λ so. sequence_there fate tag vr _ _ (stays_at AsItems tag so) (there_same o tag n.0 so))
      (λ low. (past o k p c news n rest tag a.2 (rw low refl), all_first o k news n less new.alone p c rest tag low a.2 up, opens_none o k p c n.0 rest tag low a.2 up))
      (past o k p c news n rest tag a.2)
      (placed p c at_end rest (Some tag) a.2 up)
      after
  placed p c at_end (fragments tag vr values rest) last a up after =
      let fate = fate_as o Outermost AsBytes tag in
      element o k news n less new.alone last tag (fragments_by fate tag vr values) _ _ (opens_of o k p c n.0 (last_tag (Some tag) rest)) (fragments_by_part fate tag vr values)
      (λ so same. fragments_gone fate tag vr values _ (gone_at AsBytes tag so same))
      (λ so. fragments_there fate tag vr values _ (stays_at AsBytes tag so) (there_same o tag n.0 so))
      (λ low. (past o k p c news n rest tag a.1 (rw low refl), all_first o k news n less new.alone p c rest tag low a.1 up, opens_none o k p c n.0 rest tag low a.1 up))
      (past o k p c news n rest tag a.1)
      (placed p c at_end rest (Some tag) a.1 up)
      after
