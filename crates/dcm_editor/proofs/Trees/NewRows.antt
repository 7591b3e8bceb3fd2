-- The atoms of new elements, one by one.
use Rattle.std.proofs.Common.{◌≡◌, ℕ, zero, suc, ◌+◌, ◌<◌, ◌≤◌, List, [], ◌∷◌, ◌++◌, Option, Some, None, Bool, true, false, ◌&&◌, ◌||◌, refl, sym, ◌∙◌, ap, arith}
use Rattle.std.specs.Prelude.{if◌then◌else◌}
use Rattle.dcm_base.specs.declared.tag.Tag.{Tag}
use Rattle.dcm_base.specs.declared.vr.Vr.{Vr}
use Rattle.dcm_base.specs.declared.vr.Vr.TheVariants.{SQ}
use Rattle.dcm_base.specs.declared.length.Length.TheVariants.{Undefined}
use Rattle.dcm_base.specs.Tables.Syntax.{Little}
use Rattle.dcm_base.specs.Tables.Tag.{same_tag, below, is_above}
use Rattle.dcm_base.specs.Steps.Atoms.{Atom, opens, opens_item, closes_item, closes_sequence, trees_then, items_then}
use Rattle.dcm_base.specs.Bytes.Spelling.{inside}
use Rattle.dcm_base.specs.Tree.Tree.{Trees, no_tree, leaf, then_trees}
use Rattle.dcm_base.proofs.DataSets.Row.{trees_then-append, trees_then-then}
use Rattle.dcm_base.proofs.Dictionaries.TagOrder.{tag_is}
use Rattle.dcm_editor.proofs.Masks.LeastNew.{completed_seen}
use Rattle.dcm_edits.proofs.Trees.NewOnes.{same_not_above}
use Rattle.dcm_edits.specs.Edit.{PathEdit, step, insert, modify, erase, erase_item, Edit, on_path, modify_all, erase_all, erase_private, elsewhere, NewElement, no_element, new_leaf, new_sequence, new_element, element_of, before}
use Rattle.dcm_edits.specs.Together.{completed}
use Rattle.dcm_edits.specs.NewOnes.{puts, passes_new, any_new, least_new, first_new}
use Rattle.dcm_editor.specs.Masks.{is_set, rest_of_path, at_depth, asked}
use Rattle.dcm_editor.specs.Asking.{nothing_new, a_value, a_sequence, seen, lies_in, in_gap, path_size, edit_size, AreShort}
use Rattle.dcm_editor.specs.declared.asked.Gap.{Gap}
use Rattle.dcm_edits.proofs.Trees.Selection.{Above, is_least, puts_none_new, puts_between, puts_above, above_between, above_above}
use Rattle.dcm_base.proofs.DataSets.After.{after_little}
use Rattle.dcm_base.specs.declared.syntax.Syntax.{Syntax}

-- the new elements of a gap
abbrev pub row : Gap → List Edit → List Atom
row gap es = trees_then Little (puts (in_gap gap) es no_tree) []

-- the first new element of this tag
abbrev pub one_row : Tag → List Edit → List Atom
one_row t es = trees_then Little (before (first_new t es) no_tree) []

before_then : (x : NewElement) (rest : Trees) → before x rest ≡ then_trees (before x no_tree) rest
before_then no_element rest = refl
before_then (new_leaf tag vr value) rest = refl
before_then (new_sequence tag held) rest = refl

one_then : (x : NewElement) (rest : Trees) → trees_then Little (before x rest) [] ≡ trees_then Little (before x no_tree) [] ++ trees_then Little rest []
one_then x rest =
    ap (λ (t : Trees). trees_then Little t []) (before_then x rest)
    ∙ trees_then-then Little (before x no_tree) rest []
    ∙ ap (λ (k : Syntax). trees_then Little (before x no_tree) (trees_then k rest [])) (after_little (before x no_tree))
    ∙ trees_then-append Little (before x no_tree) [] (trees_then Little rest [])

puts_in : (last next : Option Tag) (t : Tag) (es : List Edit) → least_new (lies_in last next) es ≡ Some t → puts (lies_in last next) es no_tree ≡ before (first_new t es) (puts (lies_in (Some t) next) es no_tree)
puts_in last None t es e = puts_above last t es e
puts_in last (Some next) t es e = puts_between last next t es e

-- the least new element, and then those above it
pub row_next : (last next : Option Tag) (t : Tag) (es : List Edit) → least_new (lies_in last next) es ≡ Some t
    → row (record { last = last; next = next }) es ≡ one_row t es ++ row (record { last = Some t; next = next }) es
row_next last next t es e = ap (λ (x : Trees). trees_then Little x []) (puts_in last next t es e) ∙ one_then (first_new t es) (puts (lies_in (Some t) next) es no_tree)

-- no more
pub row_ends : (gap : Gap) (es : List Edit) → least_new (in_gap gap) es ≡ None → row gap es ≡ []
unfolding trees_then
row_ends gap es e = ap (λ (x : Trees). trees_then Little x []) (puts_none_new (in_gap gap) es e)

-- ---- a new sequence

pub seen_leaf : (x : NewElement) (tag : Tag) (vr : Vr) (value : List ℕ) → seen x ≡ a_value tag vr value → x ≡ new_leaf tag vr value
seen_leaf no_element tag vr value e = absurd cc
seen_leaf (new_leaf t v b) tag vr value e = cc
seen_leaf (new_sequence t held) tag vr value e = absurd cc

pub seen_sequence : (x : NewElement) (tag : Tag) → seen x ≡ a_sequence tag → (held : Trees) × (x ≡ new_sequence tag held)
seen_sequence no_element tag e = absurd cc
seen_sequence (new_leaf t v b) tag e = absurd cc
seen_sequence (new_sequence t held) tag e = (held, cc)

pub leaf_one : (x : NewElement) (tag : Tag) (vr : Vr) (value : List ℕ) → seen x ≡ a_value tag vr value → trees_then Little (leaf tag vr value no_tree) [] ≡ trees_then Little (before x no_tree) []
leaf_one x tag vr value e = ap (λ (y : NewElement). trees_then Little (before y no_tree) []) (sym (seen_leaf x tag vr value e))

abbrev pub opened : Tag → List Atom
opened tag = opens tag SQ Undefined Little ∷ opens_item Undefined ∷ []

abbrev pub closed : List Atom
closed = closes_item ∷ closes_sequence ∷ []

pub made_row : (x : NewElement) (tag : Tag) (held set : Trees) → x ≡ new_sequence tag held → held ≡ set → opened tag ++ (trees_then Little set [] ++ closed) ≡ trees_then Little (before x no_tree) []
unfolding trees_then items_then inside
made_row x tag held set e f =
    ap (λ (xs : List Atom). opened tag ++ xs) (ap (λ (s : Trees). trees_then Little s [] ++ closed) (sym f) ∙ sym (trees_then-append Little held [] closed))
    ∙ ap (λ (y : NewElement). trees_then Little (before y no_tree) []) (sym e)

-- ---- a sequence is made only where a step is left

no_sequence : (tag : Tag) → nothing_new ≡ a_sequence tag → ⊥
no_sequence tag e = cc

no_value : (tag t : Tag) (vr : Vr) (value : List ℕ) → a_value t vr value ≡ a_sequence tag → ⊥
no_value tag t vr value e = cc

step_left : (depth : ℕ) (tag : Tag) (p : PathEdit) → seen (new_element (rest_of_path depth p)) ≡ a_sequence tag → depth < path_size p
step_left zero tag (step t index edit) e = omega arith
step_left zero tag (insert t vr value) e = absurd (no_value tag t vr value e)
step_left zero tag (modify t vr value) e = absurd (no_sequence tag e)
step_left zero tag (erase t) e = absurd (no_sequence tag e)
step_left zero tag (erase_item t index) e = absurd (no_sequence tag e)
step_left (suc n) tag (step t index edit) e = let h = step_left n tag edit e in omega (arith, h)
step_left (suc n) tag (insert t vr value) e = absurd (no_value tag t vr value e)
step_left (suc n) tag (modify t vr value) e = absurd (no_sequence tag e)
step_left (suc n) tag (erase t) e = absurd (no_sequence tag e)
step_left (suc n) tag (erase_item t index) e = absurd (no_sequence tag e)

edit_left : (depth : ℕ) (tag : Tag) (b : Bool) (e : Edit) → seen (element_of (if b then at_depth depth e else elsewhere)) ≡ a_sequence tag → depth < edit_size e
edit_left depth tag false e q = absurd (no_sequence tag q)
edit_left depth tag true (on_path p) q = step_left depth tag p q
edit_left depth tag true (modify_all t vr value) q = absurd (no_sequence tag q)
edit_left depth tag true (erase_all t) q = absurd (no_sequence tag q)
edit_left depth tag true erase_private q = absurd (no_sequence tag q)
edit_left depth tag true elsewhere q = absurd (no_sequence tag q)

pub short_of : (depth mask k : ℕ) (tag : Tag) (es : List Edit) → AreShort es → seen (first_new tag (asked depth mask k es)) ≡ a_sequence tag → depth < 64
short_of depth mask k tag [] s q = absurd (no_sequence tag q)
short_of depth mask k tag (e ∷ es) s q =
    by_test (passes_new (same_tag tag) (element_of (if is_set mask k then at_depth depth e else elsewhere))) q (λ p. short_of depth mask (suc k) tag es s.1 p)
  where
    deep : depth < edit_size e → depth < 64
    deep h = let fits : edit_size e ≤ 64 = s.0 in omega (arith, h, fits)

    by_test : (b : Bool)
        → seen (if b then completed (asked depth mask (suc k) es) (element_of (if is_set mask k then at_depth depth e else elsewhere)) else first_new tag (asked depth mask (suc k) es)) ≡ a_sequence tag
        → (seen (first_new tag (asked depth mask (suc k) es)) ≡ a_sequence tag → depth < 64) → depth < 64
    by_test true p more = deep (edit_left depth tag (is_set mask k) e (sym (completed_seen (asked depth mask (suc k) es) (element_of (if is_set mask k then at_depth depth e else elsewhere))) ∙ p))
    by_test false p more = more p

-- ---- how many there are

abbrev one_if : Bool → ℕ
one_if true = 1
one_if false = 0

abbrev pub new_count : (Tag → Bool) → List Edit → ℕ
new_count passes [] = 0
new_count passes (e ∷ es) = one_if (passes_new passes (element_of e)) + new_count passes es

fewer_if : (a b c : Bool) → c ≡ (a && b) → one_if c ≤ one_if a
fewer_if true b true e = omega arith
fewer_if true b false e = omega arith
fewer_if false b true e = absurd cc
fewer_if false b false e = omega arith

one_fewer : (p q : Tag → Bool) (t : Tag) (w : NewElement) → Above q p t → one_if (passes_new q w) ≤ one_if (passes_new p w)
one_fewer p q t no_element above = omega arith
one_fewer p q t (new_leaf u vr value) above = fewer_if (p u) (below t u) (q u) (above u)
one_fewer p q t (new_sequence u held) above = fewer_if (p u) (below t u) (q u) (above u)

no_more : (p q : Tag → Bool) (t : Tag) (es : List Edit) → Above q p t → new_count q es ≤ new_count p es
no_more p q t [] above = omega arith
no_more p q t (e ∷ es) above =
    let one = one_fewer p q t (element_of e) above in
    let rest = no_more p q t es above in
    omega (arith, one, rest)

less_if : (a b c : Bool) → c ≡ (a && b) → a ≡ true → b ≡ false → one_if c < one_if a
less_if true b true e f g = absurd cc
less_if true b false e f g = omega arith
less_if false b c e f g = absurd cc

one_less : (p q : Tag → Bool) (t : Tag) (w : NewElement) → Above q p t → p t ≡ true → passes_new (same_tag t) w ≡ true → one_if (passes_new q w) < one_if (passes_new p w)
one_less p q t no_element above h e = absurd cc
one_less p q t (new_leaf u vr value) above h e = less_if (p u) (below t u) (q u) (above u) (ap p (sym (tag_is t u e)) ∙ h) (same_not_above t u e)
one_less p q t (new_sequence u held) above h e = less_if (p u) (below t u) (q u) (above u) (ap p (sym (tag_is t u e)) ∙ h) (same_not_above t u e)

fewer : (p q : Tag → Bool) (t : Tag) (es : List Edit) → Above q p t → p t ≡ true → any_new (same_tag t) es ≡ true → new_count q es < new_count p es
fewer p q t [] above h e = absurd cc
fewer p q t (d ∷ es) above h e =
    by_test (passes_new (same_tag t) (element_of d)) refl e (no_more p q t es above) (λ k. fewer p q t es above h k)
  where
    by_test : (b : Bool) → passes_new (same_tag t) (element_of d) ≡ b → (b || any_new (same_tag t) es) ≡ true → new_count q es ≤ new_count p es → (any_new (same_tag t) es ≡ true → new_count q es < new_count p es)
        → one_if (passes_new q (element_of d)) + new_count q es < one_if (passes_new p (element_of d)) + new_count p es
    by_test true f k rest more = let one = one_less p q t (element_of d) above h f in omega (arith, one, rest)
    by_test false f k rest more =
        let one = one_fewer p q t (element_of d) above in
        let less = more k in
        omega (arith, one, less)

above_in : (last next : Option Tag) (t : Tag) → lies_in last next t ≡ true → Above (lies_in (Some t) next) (lies_in last next) t
above_in last None t h = above_above last t h
above_in last (Some next) t h = above_between last next t (and_left (is_above t last) (below t next) h)
  where
    and_left : (a b : Bool) → (a && b) ≡ true → a ≡ true
    and_left true b p = refl
    and_left false b p = absurd cc

-- above the least there are fewer
pub fewer_above : (last next : Option Tag) (t : Tag) (es : List Edit) → least_new (lies_in last next) es ≡ Some t → new_count (lies_in (Some t) next) es < new_count (lies_in last next) es
fewer_above last next t es e =
    let least = is_least (lies_in last next) es t e in
    fewer (lies_in last next) (lies_in (Some t) next) t es (above_in last next t least.passes) least.passes least.is_there
