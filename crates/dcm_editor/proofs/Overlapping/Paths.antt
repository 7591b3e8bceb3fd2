-- What is left of a path after some of its steps.
use Rattle.std.proofs.Common.{◌≡◌, ℕ, zero, suc, ◌+◌, ◌<◌, ◌≤◌, List, [], ◌∷◌, length, drop, Option, Some, None, Bool, true, false, ◌&&◌, cond, refl, sym, ◌∙◌, ap, subst, arith}
use Rattle.std.specs.List.{list_all}
use Rattle.std.specs.Prelude.{◌==◌}
use Rattle.std.proofs.lemmas.Bool.Decides.{nat_tests}
use Rattle.dcm_lemmas.proofs.Choice.{if_false, if_true}
use Rattle.dcm_base.specs.declared.tag.Tag.{Tag}
use Rattle.dcm_edits.specs.declared.edit.Index.{Index as AnIndex}
use Rattle.dcm_edits.specs.declared.edit.Index.TheVariants as indexes
use Rattle.dcm_edits.specs.declared.edit.Step.{Step}
use Rattle.dcm_edits.specs.declared.edit.Action.{Action}
use Rattle.dcm_edits.specs.declared.edit.Action.TheVariants as actions
use Rattle.dcm_base.specs.declared.vr.Vr.{Vr}
use Rattle.dcm_base.specs.Tables.Tag.{same_tag}
use Rattle.dcm_edits.specs.Edit.{Index, selects, PathEdit, step, insert, modify, erase, erase_item, Edit, on_path, modify_all, erase_all, erase_private, elsewhere, within, stays, path_fate, erases, NewElement, no_element, new_leaf, new_sequence, new_element, around}
use Rattle.dcm_edits.specs.Meaning.{index_of, action_of, along}
use Rattle.dcm_editor.specs.Masks.{rest_of_path, at_depth, goes_along}
use Rattle.dcm_editor.specs.Asking.{is_first, sequence_on, Seen, nothing_new, a_value, a_sequence, seen}

rest_of_action : {A : Type 0} (d : ℕ) (a : Action A) → rest_of_path d (action_of a) ≡ action_of a
rest_of_action zero a = refl
rest_of_action (suc d) (actions.Insert e) = refl
rest_of_action (suc d) (actions.Modify e) = refl
rest_of_action (suc d) (actions.Erase tag) = refl
rest_of_action (suc d) (actions.EraseItem s) = refl

-- the steps that are left
pub rest_along : {A : Type 0} (d : ℕ) (steps : List Step) (a : Action A) → rest_of_path d (along steps (action_of a)) ≡ along (drop d steps) (action_of a)
rest_along zero steps a = refl
rest_along (suc d) [] a = rest_of_action (suc d) a
rest_along (suc d) (s ∷ steps) a = rest_along d steps a

-- none
pub rest_at_end : {A : Type 0} (d : ℕ) (steps : List Step) (a : Action A) → length steps ≤ d → rest_of_path d (along steps (action_of a)) ≡ action_of a
rest_at_end d [] a l = rest_of_action d a
rest_at_end zero (s ∷ steps) a l = absurd (omega (arith, l))
rest_at_end (suc d) (s ∷ steps) a l = rest_at_end d steps a (omega (arith, l))

-- a step more
pub record StepAt (d : ℕ) (steps : List Step) : Type 0 where
  pub at : Step
  pub others : List Step
  pub is : drop d steps ≡ at ∷ others

pub step_at : (d : ℕ) (steps : List Step) → d < length steps → StepAt d steps
step_at d [] l = absurd (omega (arith, l))
step_at zero (s ∷ steps) l = record { at = s; others = steps; is = refl }
step_at (suc d) (s ∷ steps) l = let k = step_at d steps (omega (arith, l)) in record { at = k.at; others = k.others; is = k.is }

-- the same, of a slice of the steps
pub left_none : {A : Type 0} (d : ℕ) (slice steps : List Step) (a : Action A) → slice ≡ steps → length slice ≤ d → rest_of_path d (along steps (action_of a)) ≡ action_of a
left_none d slice steps a is l = rest_at_end d steps a (subst (λ (x : List Step). length x ≤ d) is l)

pub left_some : {A : Type 0} (d : ℕ) (slice steps left : List Step) (a : Action A) → slice ≡ steps → left ≡ drop d slice → rest_of_path d (along steps (action_of a)) ≡ along left (action_of a)
left_some d slice steps left a is from = rest_along d steps a ∙ ap (λ (x : List Step). along x (action_of a)) (sym (from ∙ ap (drop d) is))

-- nothing is done at an element or item where steps are left
pub stays_with_steps : (p : PathEdit) (left : List Step) (edit : PathEdit) (t : Tag) → p ≡ along left edit → 1 ≤ length left → stays ≡ path_fate p t
stays_with_steps p [] edit t is l = absurd (omega (arith, l))
stays_with_steps p (s ∷ left) edit t is l = sym (ap (λ (q : PathEdit). path_fate q t) is)

pub erases_with_steps : (p : PathEdit) (left : List Step) (edit : PathEdit) (t : Tag) (n : ℕ) → p ≡ along left edit → 1 ≤ length left → false ≡ erases (on_path p) t n
erases_with_steps p [] edit t n is l = absurd (omega (arith, l))
erases_with_steps p (s ∷ left) edit t n is l = sym (ap (λ (q : PathEdit). erases (on_path q) t n) is)

-- ---- within an item

step_more : (d : ℕ) (p edit : PathEdit) (t : Tag) (i : Index) → rest_of_path d p ≡ step t i edit → rest_of_path (suc d) p ≡ edit
step_more zero (step t i edit) other u j e = cc
step_more zero (insert t vr value) other u j e = cc
step_more zero (modify t vr value) other u j e = cc
step_more zero (erase t) other u j e = cc
step_more zero (erase_item t i) other u j e = cc
step_more (suc d) (step t i edit) other u j e = step_more d edit other u j e
step_more (suc d) (insert t vr value) other u j e = cc
step_more (suc d) (modify t vr value) other u j e = cc
step_more (suc d) (erase t) other u j e = cc
step_more (suc d) (erase_item t i) other u j e = cc

along_path : (d : ℕ) (p q : PathEdit) (t : Tag) (n : ℕ) → rest_of_path d p ≡ q → goes_along (on_path q) t n ≡ true → within (on_path q) t n ≡ on_path (rest_of_path (suc d) p)
along_path d p (step u i edit) t n is e = if_true (same_tag u t && selects i n) (on_path edit) elsewhere e ∙ ap on_path (sym (step_more d p edit u i is))
along_path d p (insert u vr value) t n is e = absurd (let no : false ≡ true = e in cc)
along_path d p (modify u vr value) t n is e = absurd (let no : false ≡ true = e in cc)
along_path d p (erase u) t n is e = absurd (let no : false ≡ true = e in cc)
along_path d p (erase_item u i) t n is e = absurd (let no : false ≡ true = e in cc)

-- an edit that goes along asks one step less of the item
pub within_along : (d : ℕ) (e : Edit) (t : Tag) (n : ℕ) → goes_along (at_depth d e) t n ≡ true → within (at_depth d e) t n ≡ at_depth (d + 1) e
within_along d e t n g = within_step d e t n g ∙ ap (λ (k : ℕ). at_depth k e) (let one : suc d ≡ d + 1 = omega arith in one)
  where
    within_step : (d : ℕ) (e : Edit) (t : Tag) (n : ℕ) → goes_along (at_depth d e) t n ≡ true → within (at_depth d e) t n ≡ at_depth (suc d) e
    within_step d (on_path p) t n g = along_path d p (rest_of_path d p) t n refl g
    within_step d (modify_all u vr value) t n g = refl
    within_step d (erase_all u) t n g = refl
    within_step d erase_private t n g = refl
    within_step d elsewhere t n g = refl

apart_path : (q : PathEdit) (t : Tag) (n : ℕ) → goes_along (on_path q) t n ≡ false → within (on_path q) t n ≡ elsewhere
apart_path (step u i edit) t n e = if_false (same_tag u t && selects i n) (on_path edit) elsewhere e
apart_path (insert u vr value) t n e = refl
apart_path (modify u vr value) t n e = refl
apart_path (erase u) t n e = refl
apart_path (erase_item u i) t n e = refl

-- one that does not asks nothing of it
pub within_apart : (e : Edit) (t : Tag) (n : ℕ) → goes_along e t n ≡ false → within e t n ≡ elsewhere
within_apart (on_path q) t n g = apart_path q t n g
within_apart (modify_all u vr value) t n g = absurd (let no : true ≡ false = g in cc)
within_apart (erase_all u) t n g = absurd (let no : true ≡ false = g in cc)
within_apart erase_private t n g = absurd (let no : true ≡ false = g in cc)
within_apart elsewhere t n g = refl

-- ---- a new element at the end of steps

abbrev leads : List Step → Bool
leads steps = list_all (λ s. is_first (index_of s.index)) steps

-- a sequence around what is seen
abbrev lifted : Tag → Seen → Seen
lifted tag nothing_new = nothing_new
lifted tag (a_value t vr value) = a_sequence tag
lifted tag (a_sequence t) = a_sequence tag

abbrev sequence_if : Bool → Tag → Seen → Seen
sequence_if true tag x = lifted tag x
sequence_if false tag x = nothing_new

-- what is seen of it before the steps
abbrev before_steps : List Step → Seen → Seen
before_steps [] x = x
before_steps (s ∷ steps) x = sequence_if (leads (s ∷ steps)) s.tag x

around_seen : (tag : Tag) (x : NewElement) → seen (around tag x) ≡ lifted tag (seen x)
around_seen tag no_element = refl
around_seen tag (new_leaf t vr value) = refl
around_seen tag (new_sequence t held) = refl

lifted_twice : (b : Bool) (tag t : Tag) (x : Seen) → lifted tag (sequence_if b t x) ≡ sequence_if b tag x
lifted_twice true tag t nothing_new = refl
lifted_twice true tag t (a_value u vr value) = refl
lifted_twice true tag t (a_sequence u) = refl
lifted_twice false tag t x = refl

lifted_before : (tag : Tag) (steps : List Step) (x : Seen) → lifted tag (before_steps steps x) ≡ sequence_if (leads steps) tag x
lifted_before tag [] x = refl
lifted_before tag (s ∷ steps) x = lifted_twice (leads (s ∷ steps)) tag s.tag x

not_first : (n : ℕ) → (suc n == 0) ≡ false
not_first n = grind (arith, nat_tests)

by_index : (i : AnIndex) (tag : Tag) (steps : List Step) (edit : PathEdit) (x : Seen) → seen (new_element edit) ≡ before_steps steps x
    → seen (new_element (step tag (index_of i) edit)) ≡ sequence_if (is_first (index_of i) && leads steps) tag x
by_index (indexes.Number zero) tag steps edit x e = around_seen tag (new_element edit) ∙ ap (lifted tag) e ∙ lifted_before tag steps x
by_index (indexes.Number (suc n)) tag steps edit x e = sym (ap (λ (b : Bool). sequence_if (b && leads steps) tag x) (not_first n))
by_index indexes.Every tag steps edit x e = refl

new_before : {A : Type 0} (steps : List Step) (a : Action A) → seen (new_element (along steps (action_of a))) ≡ before_steps steps (seen (new_element (action_of a)))
new_before [] a = refl
new_before (s ∷ steps) a = by_index s.index s.tag steps (along steps (action_of a)) (seen (new_element (action_of a))) (new_before steps a)

nothing_before : (steps : List Step) → before_steps steps nothing_new ≡ nothing_new
nothing_before [] = refl
nothing_before (s ∷ steps) = by_test (leads (s ∷ steps))
  where
    by_test : (b : Bool) → sequence_if b s.tag nothing_new ≡ nothing_new
    by_test true = refl
    by_test false = refl

abbrev pub sequence_or : Option Tag → Seen
sequence_or None = nothing_new
sequence_or (Some tag) = a_sequence tag

value_before : (steps : List Step) (t : Tag) (vr : Vr) (value : List ℕ) → 0 < length steps → before_steps steps (a_value t vr value) ≡ sequence_or (sequence_on steps)
value_before [] t vr value l = absurd (omega (arith, l))
value_before (s ∷ steps) t vr value l = by_test (leads (s ∷ steps))
  where
    by_test : (b : Bool) → sequence_if b s.tag (a_value t vr value) ≡ sequence_or (cond b (Some s.tag) None)
    by_test true = refl
    by_test false = refl

abbrev at_path : {A : Type 0} → ℕ → List Step → Action A → Seen
at_path d steps a = seen (new_element (rest_of_path d (along steps (action_of a))))

-- what is seen where these steps are left
pub left_seen : {A : Type 0} (p : PathEdit) (left : List Step) (a : Action A) (x : Seen) → p ≡ along left (action_of a) → x ≡ seen (new_element (action_of a)) → seen (new_element p) ≡ before_steps left x
left_seen p left a x is e = ap (λ (q : PathEdit). seen (new_element q)) is ∙ new_before left a ∙ ap (before_steps left) (sym e)

pub none_left : {A : Type 0} (p : PathEdit) (left : List Step) (a : Action A) → p ≡ along left (action_of a) → nothing_new ≡ seen (new_element (action_of a)) → nothing_new ≡ seen (new_element p)
none_left p left a is e = sym (left_seen p left a nothing_new is e ∙ nothing_before left)

pub value_left : {A : Type 0} (p : PathEdit) (left : List Step) (a : Action A) (x : Seen) → p ≡ along left (action_of a) → x ≡ seen (new_element (action_of a)) → left ≡ [] → x ≡ seen (new_element p)
value_left p left a x is e none = sym (left_seen p left a x is e ∙ ap (λ (l : List Step). before_steps l x) none)

pub sequence_left : {A : Type 0} (p : PathEdit) (left : List Step) (a : Action A) (t : Tag) (vr : Vr) (value : List ℕ) (o : Option Tag) → p ≡ along left (action_of a) → a_value t vr value ≡ seen (new_element (action_of a)) → false ≡ (length left == 0) → o ≡ sequence_on left
    → sequence_or o ≡ seen (new_element p)
sequence_left p left a t vr value o is e some found = ap sequence_or found ∙ sym (left_seen p left a (a_value t vr value) is e ∙ value_before left t vr value (some_length (length left) some))
  where
    some_length : (n : ℕ) → false ≡ (n == 0) → 0 < n
    some_length zero e = absurd (let bad : false ≡ true = e in cc)
    some_length (suc n) e = omega arith
