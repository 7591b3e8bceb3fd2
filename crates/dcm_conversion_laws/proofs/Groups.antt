-- A meta group that was written with one transfer syntax is written with another one as the group that was read.
use Rattle.std.proofs.Common.{◌≡◌, ◌∙◌, ap, ℕ, List, [], ◌++◌, length, Bool, true, false, cond, refl}
use Rattle.std.specs.Prelude.{◌==◌}
use Rattle.dcm_lemmas.proofs.Lists.{joined_alike}
use Rattle.dcm_base.specs.Tables.Syntax.{Little}
use Rattle.dcm_base.specs.Tables.Tag.{is_tag}
use Rattle.dcm_base.specs.declared.tag.Tag.{Tag}
use Rattle.dcm_base.specs.declared.vr.Vr.{Vr}
use Rattle.dcm_base.specs.declared.vr.Vr.TheVariants.{UI}
use Rattle.dcm_base.specs.File.MetaGroup.{AreMeta}
use Rattle.dcm_base.specs.Conversion.NewMeta.{group_length, new_meta, with_syntax, without_syntax}
use Rattle.dcm_base.specs.Conversion.Normal.{normal, normal_value, normal_vr}
use Rattle.dcm_base.specs.Conversion.Recode.{recode_set, recoded_leaf}
use Rattle.dcm_base.specs.Tree.Tree.{Trees, no_tree, leaf, sequence, fragments}
use Rattle.dcm_base.proofs.Conversions.NormalForm.{leaf_again}
use Rattle.dcm_run_laws.proofs.ReadBack.ModifiedTwice.{never}
use Rattle.dcm_sinks.specs.MetaAgain.{elements_again}

-- an element that is read again is written alike, and a group length is dropped, by a change of the elements that keeps this one
module _ (t : Tag) (vr : Vr) (v : List ℕ) where
  abbrev read_vr : Vr
  read_vr = normal_vr Little t vr (length v)

  abbrev read_value : List ℕ
  read_value = normal_value Little t vr v

  kept : (change : Trees → Trees) (more : Trees) (others : List ℕ) (d : Bool) → (t.element == 0) ≡ d → change (leaf t read_vr read_value more) ≡ leaf t read_vr read_value (change more) → recode_set Little (change more) ≡ others
      → recode_set Little (change (cond d more (leaf t read_vr read_value more))) ≡ cond d [] (recoded_leaf Little t vr v) ++ others
  unfolding recode_set
  kept change more others true e is h = h
  kept change more others false e is h =
      ap (recode_set Little) is
      ∙ ap (λ (d : Bool). cond d [] (recoded_leaf Little t read_vr read_value) ++ recode_set Little (change more)) e
      ∙ joined_alike (leaf_again Little t vr v) h

  without_at : (rest : Trees) (c : Bool) → is_tag 2 0x10 t ≡ c → recode_set Little (without_syntax (normal Little (without_syntax rest))) ≡ recode_set Little (without_syntax rest)
      → recode_set Little (without_syntax (normal Little (cond c (without_syntax rest) (leaf t vr v (without_syntax rest))))) ≡ recode_set Little (cond c (without_syntax rest) (leaf t vr v (without_syntax rest)))
  unfolding normal recode_set
  without_at rest true e h = h
  without_at rest false e h =
      let more : Trees = normal Little (without_syntax rest) in
      kept without_syntax more (recode_set Little (without_syntax rest)) (t.element == 0) refl (ap (λ (c : Bool). cond c (without_syntax more) (leaf t read_vr read_value (without_syntax more))) e) h

without_twice : (x : Trees) → AreMeta x → recode_set Little (without_syntax (normal Little (without_syntax x))) ≡ recode_set Little (without_syntax x)
unfolding AreMeta normal recode_set
without_twice no_tree m = refl
without_twice (leaf t vr v rest) m = without_at t vr v rest (is_tag 2 0x10 t) refl (without_twice rest m.1)
without_twice (sequence t vr declared items rest) m = absurd m
without_twice (fragments t vr values rest) m = absurd m

module _ (uid other : List ℕ) (t : Tag) (rest : Trees) (same : recode_set Little (without_syntax (normal Little (without_syntax rest))) ≡ recode_set Little (without_syntax rest)) where
  abbrev more : Trees
  more = normal Little (without_syntax rest)

  named_at : (d : Bool) → (t.element == 0) ≡ d → is_tag 2 0x10 t ≡ true
      → recode_set Little (with_syntax other (cond d more (leaf t (normal_vr Little t UI (length uid)) (normal_value Little t UI uid) more))) ≡ cond d [] (recoded_leaf Little t UI other) ++ recode_set Little (without_syntax rest)
  unfolding recode_set
  named_at true e h = absurd (never t.element (t.group == 2) (t.element == 16) refl h e)
  named_at false e h =
      ap (λ (c : Bool). recode_set Little (cond c (leaf t UI other (without_syntax more)) (leaf t (normal_vr Little t UI (length uid)) (normal_value Little t UI uid) (with_syntax other more)))) h
      ∙ ap (λ (d : Bool). cond d [] (recoded_leaf Little t UI other) ++ recode_set Little (without_syntax more)) e
      ∙ ap (λ (others : List ℕ). recoded_leaf Little t UI other ++ others) same

  with_at : (vr : Vr) (v : List ℕ) (c : Bool) → is_tag 2 0x10 t ≡ c → recode_set Little (with_syntax other (normal Little (with_syntax uid rest))) ≡ recode_set Little (with_syntax other rest)
      → recode_set Little (with_syntax other (normal Little (cond c (leaf t UI uid (without_syntax rest)) (leaf t vr v (with_syntax uid rest))))) ≡ recode_set Little (cond c (leaf t UI other (without_syntax rest)) (leaf t vr v (with_syntax other rest)))
  unfolding normal recode_set
  with_at vr v true e h = named_at (t.element == 0) refl e
  with_at vr v false e h =
      let others : Trees = normal Little (with_syntax uid rest) in
      kept t vr v (with_syntax other) others (recode_set Little (with_syntax other rest)) (t.element == 0) refl
      (ap (λ (c : Bool). cond c (leaf t UI other (without_syntax others)) (leaf t (normal_vr Little t vr (length v)) (normal_value Little t vr v) (with_syntax other others))) e) h

with_composes : (uid other : List ℕ) (x : Trees) → AreMeta x → recode_set Little (with_syntax other (normal Little (with_syntax uid x))) ≡ recode_set Little (with_syntax other x)
unfolding AreMeta normal recode_set
with_composes uid other no_tree m = refl
with_composes uid other (leaf t vr v rest) m = with_at uid other t rest (without_twice rest m.1) vr v (is_tag 2 0x10 t) refl (with_composes uid other rest m.1)
with_composes uid other (sequence t vr declared items rest) m = absurd m
with_composes uid other (fragments t vr values rest) m = absurd m

pub group_composes : (uid other : List ℕ) (x : Trees) → AreMeta x → new_meta (elements_again x uid) other ≡ new_meta x other
unfolding recode_set
group_composes uid other x m = ap (λ (bytes : List ℕ). group_length (length bytes) ++ bytes) (with_composes uid other x m)
