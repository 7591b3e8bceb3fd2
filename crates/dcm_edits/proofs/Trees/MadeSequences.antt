-- What a made sequence holds is what the edits put into its item.
use Rattle.std.proofs.Common.{◌≡◌, ℕ, zero, suc, List, [], ◌∷◌, None, Bool, true, false, ◌&&◌, refl, sym, ◌∙◌, ap, subst, arith}
use Rattle.std.specs.Prelude.{if◌then◌else◌, ◌==◌}
use Rattle.std.proofs.Math.Dec.{eqb-suc-zero}
use Rattle.dcm_lemmas.proofs.Truth.{false_true, true_false}
use Rattle.dcm_base.specs.declared.tag.Tag.{Tag}
use Rattle.dcm_base.specs.Tables.Tag.{same_tag}
use Rattle.dcm_base.specs.declared.vr.Vr.{Vr}
use Rattle.dcm_base.specs.declared.vr.Vr.TheVariants.{SQ}
use Rattle.dcm_base.specs.declared.length.Length.TheVariants.{Undefined}
use Rattle.dcm_base.specs.Tables.Syntax.{Little}
use Rattle.dcm_base.specs.Steps.Atoms.{Atom, opens, opens_item, closes_item, closes_sequence, trees_then}
use Rattle.dcm_base.specs.Bytes.Spelling.{inside}
use Rattle.dcm_base.specs.Tree.Tree.{Trees, no_tree, leaf}
use Rattle.dcm_base.specs.Lines.Ascending.{Ascend}
use Rattle.dcm_base.proofs.Dictionaries.TagOrder.{same_tag_sym, same_tag_trans, same_tag_self}
use Rattle.dcm_edits.specs.Edit.{number, every, PathEdit, step, insert, modify, erase, erase_item, Edit, on_path, modify_all, erase_all, erase_private, elsewhere, within, NewElement, no_element, new_leaf, new_sequence, before, around, new_element, element_of, edited_sets}
use Rattle.dcm_edits.specs.Together.{completed, all_within, all_changed}
use Rattle.dcm_edits.specs.Overlap.{overlaps, ApartFrom, AreApart, ArePublic}
use Rattle.dcm_edits.specs.NewOnes.{put_new, puts, above_last, passes_new, first_new}
use Rattle.dcm_edits.proofs.Trees.Laws.{NewAscends}
use Rattle.dcm_edits.proofs.Overlapping.Items.{all_within_all_apart, all_within_public}
use Rattle.dcm_edits.proofs.Trees.OneByOne.{Quiet, Turns-new, always_quiet, sets_agree, NewAscends-new_element}
use Rattle.dcm_edits.proofs.Trees.OneByOneFront.{all_steps, AreWithin-all_steps, good}
use Rattle.dcm_edits.proofs.Trees.Kept.{all_missing_puts}

-- ---- a set that a path makes, as the later edits leave it

before_ascends : (x : NewElement) → NewAscends x → Ascend None (before x no_tree)
before_ascends no_element h = tt
before_ascends (new_leaf tag vr value) h = (refl, tt)
before_ascends (new_sequence tag held) h = (refl, (h, tt), tt)

put_alone : (x : NewElement) → put_new (λ t. true) x no_tree ≡ before x no_tree
put_alone no_element = refl
put_alone (new_leaf tag vr value) = refl
put_alone (new_sequence tag held) = refl

-- a path's new element alone, and then the other edits
alone : (edit : PathEdit) (es : List Edit) → AreApart (on_path edit ∷ es) → ArePublic (on_path edit ∷ es)
    → edited_sets es (before (new_element edit) no_tree) ≡ puts (λ t. true) (on_path edit ∷ es) no_tree
alone edit es p n =
    let x : NewElement = new_element edit in
    let quiet : Quiet es x = always_quiet (all_steps (on_path edit ∷ es)) (all_steps (on_path edit ∷ es)) (omega arith) (on_path edit) es (good (on_path edit) es p n) in
    sym (sets_agree (all_steps es) (always_quiet (all_steps es)) es (before x no_tree) p.1 n.1 (AreWithin-all_steps es) (before_ascends x (NewAscends-new_element edit)))
    ∙ all_missing_puts es (all_changed es (before x no_tree))
    ∙ ap (λ (s : Trees). puts (λ t. true) es s) (Turns-new es x quiet no_tree ∙ sym (put_alone (completed es x)))

-- ---- the edit that makes the sequence

-- a step to the first item of the sequence of this tag, apart from the edit
record StepBeside (t : Tag) (e : Edit) : Type 0 where
  pub tag : Tag
  pub rest : PathEdit
  pub same : same_tag t tag ≡ true
  pub apart : overlaps e (on_path (step tag (number zero) rest)) ≡ false

around_tag : (t u : Tag) (x : NewElement) → passes_new (same_tag t) (around u x) ≡ true → same_tag t u ≡ true
around_tag t u no_element e = absurd (cc)
around_tag t u (new_leaf tag vr value) e = e
around_tag t u (new_sequence tag held) e = e

around_none : (t u : Tag) (x : NewElement) → passes_new (same_tag t) (around u x) ≡ false → same_tag t u ≡ true → x ≡ no_element
around_none t u no_element e f = refl
around_none t u (new_leaf tag vr value) e f = absurd (true_false (same_tag t u) f e)
around_none t u (new_sequence tag held) e f = absurd (true_false (same_tag t u) f e)

around_held : (es : List Edit) (t u : Tag) (x : NewElement) (held : Trees) → completed es (around u x) ≡ new_sequence t held → (u ≡ t) × (edited_sets (all_within es u 0) (before x no_tree) ≡ held)
around_held es t u no_element held e = absurd (cc)
around_held es t u (new_leaf tag vr value) held e = (cc, cc)
around_held es t u (new_sequence tag set) held e = (cc, cc)

step_beside : (t : Tag) (held : Trees) (e d : Edit) (es : List Edit) → passes_new (same_tag t) (element_of d) ≡ true → completed es (element_of d) ≡ new_sequence t held → overlaps e d ≡ false → StepBeside t e
step_beside t held e (on_path (step tag (number zero) rest)) es p c o = record { tag = tag; rest = rest; same = around_tag t tag (new_element rest) p; apart = o }
step_beside t held e (on_path (step tag (number (suc n)) rest)) es p c o = absurd (false_true p)
step_beside t held e (on_path (step tag every rest)) es p c o = absurd (false_true p)
step_beside t held e (on_path (insert tag vr value)) es p c o = absurd (cc)
step_beside t held e (on_path (modify tag vr value)) es p c o = absurd (false_true p)
step_beside t held e (on_path (erase tag)) es p c o = absurd (false_true p)
step_beside t held e (on_path (erase_item tag index)) es p c o = absurd (false_true p)
step_beside t held e (modify_all tag vr value) es p c o = absurd (false_true p)
step_beside t held e (erase_all tag) es p c o = absurd (false_true p)
step_beside t held e erase_private es p c o = absurd (false_true p)
step_beside t held e elsewhere es p c o = absurd (false_true p)

is_chosen : (b : Bool) (x y z : NewElement) → (if b then x else y) ≡ z → b ≡ true → x ≡ z
is_chosen true x y z e f = e
is_chosen false x y z e f = absurd (false_true f)

is_other : (b : Bool) (x y z : NewElement) → (if b then x else y) ≡ z → b ≡ false → y ≡ z
is_other true x y z e f = absurd (false_true (sym f))
is_other false x y z e f = e

beside : (t : Tag) (held : Trees) (e : Edit) (es : List Edit) → first_new t es ≡ new_sequence t held → ApartFrom e es → StepBeside t e
beside t held e [] f a = absurd (cc)
beside t held e (d ∷ es) f a =
    by_test (passes_new (same_tag t) (element_of d)) refl (λ g. beside t held e es g a.1)
  where
    by_test : (b : Bool) → passes_new (same_tag t) (element_of d) ≡ b → (first_new t es ≡ new_sequence t held → StepBeside t e) → StepBeside t e
    by_test true p more = step_beside t held e d es p (is_chosen (passes_new (same_tag t) (element_of d)) _ _ _ f p) a.0
    by_test false p more = more (is_other (passes_new (same_tag t) (element_of d)) (completed es (element_of d)) _ _ f p)

-- ---- the other edits put nothing into the first item

clashes : (b : Bool) → b ≡ true → (if b then true else false) ≡ false → ⊥
clashes b e f = let g : (if b then true else false) ≡ true = rw e refl in cc

later_item : (b : Bool) (k : ℕ) (x : Edit) → element_of (if b && (suc k == 0) then x else elsewhere) ≡ no_element
later_item b k x = ap (λ (c : Bool). element_of (if b && c then x else elsewhere)) (eqb-suc-zero k) ∙ no_item_at b
  where
    no_item_at : (b : Bool) → element_of (if b && false then x else elsewhere) ≡ no_element
    no_item_at true = refl
    no_item_at false = refl

quiet_item : (t : Tag) (e : Edit) → StepBeside t e → passes_new (same_tag t) (element_of e) ≡ false → element_of (within e t 0) ≡ no_element
quiet_item t (on_path (step u (number zero) rest)) s p = by_test (same_tag u t) refl
  where
    by_test : (b : Bool) → same_tag u t ≡ b → element_of (if b && (0 == 0) then on_path rest else elsewhere) ≡ no_element
    by_test true e = around_none t u (new_element rest) p (same_tag_sym u t e)
    by_test false e = refl
quiet_item t (on_path (step u (number (suc k)) rest)) s p = later_item (same_tag u t) k (on_path rest)
quiet_item t (on_path (step u every rest)) s p = by_test (same_tag u t) refl
  where
    by_test : (b : Bool) → same_tag u t ≡ b → element_of (if b && true then on_path rest else elsewhere) ≡ no_element
    by_test true e = absurd (clashes (same_tag u s.tag) (same_tag_trans u t s.tag e s.same) s.apart)
    by_test false e = refl
quiet_item t (on_path (insert tag vr value)) s p = refl
quiet_item t (on_path (modify tag vr value)) s p = refl
quiet_item t (on_path (erase tag)) s p = refl
quiet_item t (on_path (erase_item tag index)) s p = refl
quiet_item t (modify_all tag vr value) s p = refl
quiet_item t (erase_all tag) s p = refl
quiet_item t erase_private s p = refl
quiet_item t elsewhere s p = refl

-- ---- the edit that makes the sequence

-- what the edits put into the first item
abbrev puts_within : List Edit → Tag → Trees
puts_within es t = puts (above_last None) (all_within es t 0) no_tree

made_by_step : (t u : Tag) (held : Trees) (rest : PathEdit) (es : List Edit) → AreApart (on_path (step u (number zero) rest) ∷ es) → ArePublic (on_path (step u (number zero) rest) ∷ es)
    → completed es (around u (new_element rest)) ≡ new_sequence t held → held ≡ puts_within (on_path (step u (number zero) rest) ∷ es) t
made_by_step t u held rest es p n c =
    let made = around_held es t u (new_element rest) held c in
    let inner : List Edit = all_within es t 0 in
    let same : within (on_path (step u (number zero) rest)) t 0 ≡ on_path rest =
    ap (λ (b : Bool). if b && (0 == 0) then on_path rest else elsewhere) (ap (λ (v : Tag). same_tag u v) (sym made.0) ∙ same_tag_self u) in
    let apart : AreApart (on_path rest ∷ inner) = subst (λ (x : Edit). AreApart (x ∷ inner)) same (all_within_all_apart (on_path (step u (number zero) rest) ∷ es) t 0 p) in
    let public : ArePublic (on_path rest ∷ inner) = subst (λ (x : Edit). ArePublic (x ∷ inner)) same (all_within_public (on_path (step u (number zero) rest) ∷ es) t 0 n) in
    sym made.1
    ∙ ap (λ (v : Tag). edited_sets (all_within es v 0) (before (new_element rest) no_tree)) made.0
    ∙ alone rest inner apart public
    ∙ ap (λ (x : Edit). puts (above_last None) (x ∷ inner) no_tree) (sym same)

made_by : (t : Tag) (held : Trees) (e : Edit) (es : List Edit) → AreApart (e ∷ es) → ArePublic (e ∷ es) → passes_new (same_tag t) (element_of e) ≡ true → completed es (element_of e) ≡ new_sequence t held
    → held ≡ puts_within (e ∷ es) t
made_by t held (on_path (step u (number zero) rest)) es p n h c = made_by_step t u held rest es p n c
made_by t held (on_path (step u (number (suc k)) rest)) es p n h c = absurd (false_true h)
made_by t held (on_path (step u every rest)) es p n h c = absurd (false_true h)
made_by t held (on_path (insert tag vr value)) es p n h c = absurd (cc)
made_by t held (on_path (modify tag vr value)) es p n h c = absurd (false_true h)
made_by t held (on_path (erase tag)) es p n h c = absurd (false_true h)
made_by t held (on_path (erase_item tag index)) es p n h c = absurd (false_true h)
made_by t held (modify_all tag vr value) es p n h c = absurd (false_true h)
made_by t held (erase_all tag) es p n h c = absurd (false_true h)
made_by t held erase_private es p n h c = absurd (false_true h)
made_by t held elsewhere es p n h c = absurd (false_true h)

pub made_holds : (t : Tag) (held : Trees) (es : List Edit) → AreApart es → ArePublic es → first_new t es ≡ new_sequence t held → held ≡ puts (above_last None) (all_within es t 0) no_tree
made_holds t held [] p n f = absurd (cc)
made_holds t held (e ∷ es) p n f = by_test (passes_new (same_tag t) (element_of e)) refl (λ g. made_holds t held es p.1 n.1 g)
  where
    by_test : (b : Bool) → passes_new (same_tag t) (element_of e) ≡ b → (first_new t es ≡ new_sequence t held → held ≡ puts_within es t) → held ≡ puts_within (e ∷ es) t
    by_test true h more = made_by t held e es p n h (is_chosen (passes_new (same_tag t) (element_of e)) _ _ _ f h)
    by_test false h more =
        let g : first_new t es ≡ new_sequence t held = is_other (passes_new (same_tag t) (element_of e)) (completed es (element_of e)) _ _ f h in
        more g
        ∙ ap (λ (w : NewElement). puts (above_last None) (all_within es t 0) (put_new (above_last None) (completed (all_within es t 0) w) no_tree)) (sym (quiet_item t e (beside t held e es g p.0) h))

-- ---- the atoms of new elements

pub new_leaf_atoms : (tag : Tag) (vr : Vr) (value : List ℕ) (rest : Trees) (others : List Atom)
    → trees_then Little (before (new_leaf tag vr value) rest) others ≡ trees_then Little (leaf tag vr value no_tree) (trees_then Little rest others)
unfolding trees_then
new_leaf_atoms tag vr value rest others = refl

-- a made sequence has one item
pub new_sequence_atoms : (tag : Tag) (held rest : Trees) (others : List Atom)
    → trees_then Little (before (new_sequence tag held) rest) others
    ≡ opens tag SQ Undefined Little ∷ opens_item Undefined ∷ trees_then Little held (closes_item ∷ closes_sequence ∷ trees_then Little rest others)
unfolding trees_then inside
new_sequence_atoms tag held rest others = refl
