-- A mask means what the edits ask, item by item.
use Rattle.std.proofs.Common.{◌≡◌, ℕ, zero, suc, List, [], ◌∷◌, length, Option, Some, None, Bool, true, false, ◌&&◌, ◌||◌, refl, sym, ◌∙◌, ap, subst}
use Rattle.std.specs.Prelude.{map, nat_lt, if◌then◌else◌}
use Rattle.dcm_lemmas.proofs.Lists.{cons_alike}
use Rattle.dcm_lemmas.proofs.Truth.{and_true}
use Rattle.dcm_base.specs.declared.tag.Tag.{Tag}
use Rattle.dcm_base.specs.declared.vr.Vr.{Vr}
use Rattle.dcm_base.specs.declared.syntax.Syntax.{Syntax}
use Rattle.dcm_base.specs.declared.length.Length.{Length}
use Rattle.dcm_base.specs.Tables.Tag.{same_tag}
use Rattle.dcm_base.specs.Tree.Tree.{Trees, no_tree}
use Rattle.dcm_base.specs.Steps.Atoms.{opens, closes_leaf, opens_item, closes_item, closes_sequence, opens_fragment, ends}
use Rattle.dcm_edits.specs.Edit.{number, every, selects, PathEdit, step, insert, modify, erase, erase_item, Edit, on_path, modify_all, erase_all, erase_private, elsewhere, within, acts, fate, NewElement, no_element, new_leaf, new_sequence, around, new_element, element_of}
use Rattle.dcm_edits.specs.Together.{first_fate, all_within}
use Rattle.dcm_edits.specs.Overlap.{AreApart, ArePublic}
use Rattle.dcm_edits.specs.NewOnes.{puts, above_last, is_between, passes_new, passing, first_new}
use Rattle.dcm_editor.specs.EditSink.{Level, State, MOST_AROUND, begun, has_place, makes, dropped_after_head, either, in_item, item_in, after_item, next, found_by_item}
use Rattle.dcm_editor.specs.Masks.{is_set, rest_of_path, at_depth, asked, goes_along, GoAlong, bits, AllSet, first_tag, is_insert, makes_element, makes_sequence, MaskLevel, MaskState, level_meant, outer_meant, meant, asked_here, masks_begun, masks_after_head, masks_in_item, masks_after_item, masks_after_end, masks_in_fragment, masks_at_end}
use Rattle.dcm_edits.proofs.Overlapping.Items.{all_within_all_apart, all_within_public}
use Rattle.dcm_edits.proofs.Trees.MadeSequences.{made_holds}

rest_more : (d : ℕ) (p : PathEdit) → rest_of_path (suc d) p ≡ rest_of_path (suc zero) (rest_of_path d p)
rest_more zero p = refl
rest_more (suc d) (step tag index edit) = rest_more d edit
rest_more (suc d) (insert tag vr value) = refl
rest_more (suc d) (modify tag vr value) = refl
rest_more (suc d) (erase tag) = refl
rest_more (suc d) (erase_item tag index) = refl

path_goes_along : (p q : PathEdit) (tag : Tag) (n : ℕ) → q ≡ rest_of_path (suc zero) p → within (on_path p) tag n ≡ (if goes_along (on_path p) tag n then on_path q else elsewhere)
path_goes_along (step t index edit) q tag n e = ap (λ (x : PathEdit). if same_tag t tag && selects index n then on_path x else elsewhere) (sym e)
path_goes_along (insert t vr value) q tag n e = refl
path_goes_along (modify t vr value) q tag n e = refl
path_goes_along (erase t) q tag n e = refl
path_goes_along (erase_item t index) q tag n e = refl

edit_goes_along : (d : ℕ) (e : Edit) (tag : Tag) (n : ℕ) → within (at_depth d e) tag n ≡ (if goes_along (at_depth d e) tag n then at_depth (suc d) e else elsewhere)
edit_goes_along d (on_path p) tag n = path_goes_along (rest_of_path d p) (rest_of_path (suc d) p) tag n (rest_more d p)
edit_goes_along d (modify_all t vr value) tag n = refl
edit_goes_along d (erase_all t) tag n = refl
edit_goes_along d erase_private tag n = refl
edit_goes_along d elsewhere tag n = refl

one_bit : (b g : Bool) (x : Bool) (d : ℕ) (e : Edit) (tag : Tag) (n : ℕ) → x ≡ (b && g) → g ≡ goes_along (at_depth d e) tag n
    → (if x then at_depth (suc d) e else elsewhere) ≡ within (if b then at_depth d e else elsewhere) tag n
one_bit true g x d e tag n p q = ap (λ (y : Bool). if y then at_depth (suc d) e else elsewhere) (p ∙ q) ∙ sym (edit_goes_along d e tag n)
one_bit false g x d e tag n p q = ap (λ (y : Bool). if y then at_depth (suc d) e else elsewhere) p

-- the mask of an item means what the edits ask of it
pub asked_within : (depth mask inner k : ℕ) (tag : Tag) (n : ℕ) (es : List Edit) → GoAlong depth mask inner tag n k es
    → asked (suc depth) inner k es ≡ all_within (asked depth mask k es) tag n
asked_within depth mask inner k tag n [] g = refl
asked_within depth mask inner k tag n (e ∷ es) g =
    cons_alike _ _ _ _ (one_bit (is_set mask k) (goes_along (at_depth depth e) tag n) (is_set inner k) depth e tag n g.0 refl) (asked_within depth mask inner (suc k) tag n es g.1)

at_top : (e : Edit) → at_depth 0 e ≡ e
at_top (on_path p) = refl
at_top (modify_all t vr value) = refl
at_top (erase_all t) = refl
at_top erase_private = refl
at_top elsewhere = refl

if_set : (b : Bool) (e f : Edit) → b ≡ true → e ≡ f → (if b then e else elsewhere) ≡ f
if_set true e f p q = q
if_set false e f p q = absurd cc

-- at the top every edit is asked
pub asked_first : (mask k : ℕ) (es : List Edit) → AllSet mask k es → asked 0 mask k es ≡ es
asked_first mask k [] a = refl
asked_first mask k (e ∷ es) a = cons_alike _ _ _ _ (if_set (is_set mask k) (at_depth 0 e) e a.0 (at_top e)) (asked_first mask (suc k) es a.1)

-- edits that are apart and public stay so within items
pub asked_apart : (depth mask inner : ℕ) (tag : Tag) (n : ℕ) (es : List Edit) → GoAlong depth mask inner tag n 0 es → AreApart (asked depth mask 0 es) → AreApart (asked (suc depth) inner 0 es)
asked_apart depth mask inner tag n es g a = subst (λ (x : List Edit). AreApart x) (sym (asked_within depth mask inner 0 tag n es g)) (all_within_all_apart (asked depth mask 0 es) tag n a)

pub asked_public : (depth mask inner : ℕ) (tag : Tag) (n : ℕ) (es : List Edit) → GoAlong depth mask inner tag n 0 es → ArePublic (asked depth mask 0 es) → ArePublic (asked (suc depth) inner 0 es)
asked_public depth mask inner tag n es g a = subst (λ (x : List Edit). ArePublic x) (sym (asked_within depth mask inner 0 tag n es g)) (all_within_public (asked depth mask 0 es) tag n a)

-- ---- new elements

-- what a made sequence holds is put by the edits that go along into its first item
pub made_within : (depth mask inner : ℕ) (tag : Tag) (held : Trees) (es : List Edit) → AreApart (asked depth mask 0 es) → ArePublic (asked depth mask 0 es) → GoAlong depth mask inner tag 0 0 es
    → first_new tag (asked depth mask 0 es) ≡ new_sequence tag held → held ≡ puts (above_last None) (asked (suc depth) inner 0 es) no_tree
made_within depth mask inner tag held es a p g f =
    made_holds tag held (asked depth mask 0 es) a p f ∙ ap (λ (x : List Edit). puts (above_last None) x no_tree) (sym (asked_within depth mask inner 0 tag 0 es g))

around_passes : (p : Tag → Bool) (tag : Tag) (x : NewElement) (m : Bool) → passes_new (λ t. true) x ≡ m → passes_new p (around tag x) ≡ (m && p tag)
around_passes p tag no_element m e = ap (λ (b : Bool). b && p tag) e
around_passes p tag (new_leaf t vr value) m e = ap (λ (b : Bool). b && p tag) e
around_passes p tag (new_sequence t held) m e = ap (λ (b : Bool). b && p tag) e

-- whether the tag of a path's new element passes
pub path_passes : (p : Tag → Bool) (edit : PathEdit) → passes_new p (new_element edit) ≡ (makes_element edit && p (first_tag edit))
path_passes p (step tag (number zero) edit) = around_passes p tag (new_element edit) (makes_element edit) (path_passes (λ t. true) edit ∙ and_true (makes_element edit))
path_passes p (step tag (number (suc n)) edit) = refl
path_passes p (step tag every edit) = refl
path_passes p (insert tag vr value) = refl
path_passes p (modify tag vr value) = refl
path_passes p (erase tag) = refl
path_passes p (erase_item tag index) = refl

abbrev if_makes : Bool → Tag → Option Tag
if_makes b tag = if b then Some tag else None

around_passing : (p : Tag → Bool) (tag : Tag) (x : NewElement) (m : Bool) → passes_new (λ t. true) x ≡ m → passing p (around tag x) ≡ if_makes (m && p tag) tag
around_passing p tag no_element m e = ap (λ (b : Bool). if_makes (b && p tag) tag) e
around_passing p tag (new_leaf t vr value) m e = ap (λ (b : Bool). if_makes (b && p tag) tag) e
around_passing p tag (new_sequence t held) m e = ap (λ (b : Bool). if_makes (b && p tag) tag) e

-- the tag of a path's new element, where it passes
pub path_passing : (p : Tag → Bool) (edit : PathEdit) → passing p (new_element edit) ≡ if_makes (makes_element edit && p (first_tag edit)) (first_tag edit)
path_passing p (step tag (number zero) edit) = around_passing p tag (new_element edit) (makes_element edit) (path_passes (λ t. true) edit ∙ and_true (makes_element edit))
path_passing p (step tag (number (suc n)) edit) = refl
path_passing p (step tag every edit) = refl
path_passing p (insert tag vr value) = refl
path_passing p (modify tag vr value) = refl
path_passing p (erase tag) = refl
path_passing p (erase_item tag index) = refl

around_place : (tag : Tag) (x : NewElement) → has_place (around tag x) ≡ false
around_place tag no_element = refl
around_place tag (new_leaf t vr value) = refl
around_place tag (new_sequence t held) = refl

-- whether a data set has a place for a path's new leaf
pub path_has_place : (edit : PathEdit) → has_place (new_element edit) ≡ is_insert edit
path_has_place (step tag (number zero) edit) = around_place tag (new_element edit)
path_has_place (step tag (number (suc n)) edit) = refl
path_has_place (step tag every edit) = refl
path_has_place (insert tag vr value) = refl
path_has_place (modify tag vr value) = refl
path_has_place (erase tag) = refl
path_has_place (erase_item tag index) = refl

around_makes : (p : Tag → Bool) (tag : Tag) (x : NewElement) → makes p (around tag x) ≡ passes_new p (around tag x)
around_makes p tag no_element = refl
around_makes p tag (new_leaf t vr value) = refl
around_makes p tag (new_sequence t held) = refl

pub path_makes : (p : Tag → Bool) (edit : PathEdit) → makes p (new_element edit) ≡ makes_sequence p edit
path_makes p (step tag (number zero) edit) = around_makes p tag (new_element edit) ∙ path_passes p (step tag (number zero) edit)
path_makes p (step tag (number (suc n)) edit) = refl
path_makes p (step tag every edit) = refl
path_makes p (insert tag vr value) = refl
path_makes p (modify tag vr value) = refl
path_makes p (erase tag) = refl
path_makes p (erase_item tag index) = refl

-- ---- steps of the state

abbrev state_from : List Edit → Option Tag → ℕ → List Level → ℕ → List Bool → State
state_from es last n up d bs = record { level = record { edits = es; last = last; count = n }; outer = up; dropped = d; found = bs }

state_alike : (up : List Level) (d : ℕ) (es fs : List Edit) (bs cs : List Bool) → es ≡ fs → bs ≡ cs → state_from es None 0 up d bs ≡ state_from fs None 0 up d cs
state_alike up d es fs bs cs p q = cc

-- before the first atom
pub meant_begun : (edits : List Edit) (all found : ℕ) → AllSet all 0 edits → bits found 0 edits ≡ map (λ e. has_place (element_of e)) edits → meant edits (masks_begun all found) ≡ begun edits
meant_begun edits all found a p = state_alike [] 0 _ _ _ _ (asked_first all 0 edits a) p

-- a head
pub meant_opens : (edits : List Edit) (s : MaskState) (tag : Tag) (vr : Vr) (declared : Length) (syntax : Syntax) (found : ℕ)
    → bits found 0 edits ≡ either (bits s.found 0 edits) (map (λ e. acts (fate e tag) || makes (is_between s.level.last tag) (element_of e)) (asked_here edits s))
    → meant edits (masks_after_head edits s tag found) ≡ next (meant edits s) (opens tag vr declared syntax)
meant_opens edits s tag vr declared syntax found p =
    ap (λ (bs : List Bool). state_from (asked_here edits s) (Some tag) 0 (outer_meant edits s.outer) (dropped_after_head s.dropped (acts (first_fate (asked_here edits s) tag))) bs) p

length-outer_meant : (edits : List Edit) (outer : List MaskLevel) → length (outer_meant edits outer) ≡ length outer
length-outer_meant edits [] = refl
length-outer_meant edits (level ∷ outer) = ap suc (length-outer_meant edits outer)

if_room : (b : Bool) (x y : State) → b ≡ true → x ≡ (if b then x else y)
if_room true x y e = refl
if_room false x y e = absurd cc

if_full : (b : Bool) (x y : State) → b ≡ false → y ≡ (if b then x else y)
if_full true x y e = absurd cc
if_full false x y e = refl

-- the head of an item, where there is room for its data set
pub meant_opens_item : (edits : List Edit) (s : MaskState) (tag : Tag) (declared : Length) (inner found : ℕ)
    → s.level.last ≡ Some tag → nat_lt (length s.outer) MOST_AROUND ≡ true → GoAlong (length s.outer) s.level.mask inner tag s.level.count 0 edits
    → bits found 0 edits ≡ either (bits s.found 0 edits) (found_by_item (level_meant edits (length s.outer) s.level) tag)
    → meant edits (masks_in_item edits s tag inner found) ≡ next (meant edits s) (opens_item declared)
meant_opens_item edits s tag declared inner found l room g p =
    state_alike _ _ _ _ _ _ (asked_within (length s.outer) s.level.mask inner 0 tag s.level.count edits g) p
    ∙ if_room (nat_lt (length (outer_meant edits s.outer)) MOST_AROUND) (in_item (meant edits s) tag) (meant edits s) (ap (λ (n : ℕ). nat_lt n MOST_AROUND) (length-outer_meant edits s.outer) ∙ room)
    ∙ ap (λ (x : Option Tag). item_in (meant edits s) x) (sym l)

-- where there is none, or no element around it, the state stays as it is
pub meant_stays_full : (edits : List Edit) (s : MaskState) (declared : Length) → nat_lt (length s.outer) MOST_AROUND ≡ false → meant edits s ≡ next (meant edits s) (opens_item declared)
meant_stays_full edits s declared full = by_last s.level.last
  where
    by_last : (l : Option Tag) → meant edits s ≡ item_in (meant edits s) l
    by_last None = refl
    by_last (Some tag) = if_full (nat_lt (length (outer_meant edits s.outer)) MOST_AROUND) (in_item (meant edits s) tag) (meant edits s) (ap (λ (n : ℕ). nat_lt n MOST_AROUND) (length-outer_meant edits s.outer) ∙ full)

pub meant_stays_alone : (edits : List Edit) (s : MaskState) (declared : Length) → s.level.last ≡ None → meant edits s ≡ next (meant edits s) (opens_item declared)
meant_stays_alone edits s declared l = ap (λ (x : Option Tag). item_in (meant edits s) x) (sym l)

-- the end of an item
pub meant_closes_item : (edits : List Edit) (s : MaskState) (level : MaskLevel) (outer : List MaskLevel) (found : ℕ) → s.outer ≡ level ∷ outer
    → bits found 0 edits ≡ either (bits s.found 0 edits) (map (λ e. makes (above_last s.level.last) (element_of e)) (asked_here edits s))
    → meant edits (masks_after_item s level outer found) ≡ next (meant edits s) closes_item
meant_closes_item edits s level outer found e p =
    ap (λ (bs : List Bool). record { level = level_meant edits (length outer) level; outer = outer_meant edits outer; dropped = (masks_after_end s).dropped; found = bs }) p
    ∙ ap (λ (x : List MaskLevel). after_item (meant edits s) (outer_meant edits x)) (sym e)

pub meant_closes_top : (edits : List Edit) (s : MaskState) → s.outer ≡ [] → meant edits (masks_after_end s) ≡ next (meant edits s) closes_item
meant_closes_top edits s e = top s.level s.outer s.dropped s.found e
  where
    top : (l : MaskLevel) (o : List MaskLevel) (d f : ℕ) → o ≡ [] → meant edits (masks_after_end (record { level = l; outer = o; dropped = d; found = f })) ≡ next (meant edits (record { level = l; outer = o; dropped = d; found = f })) closes_item
    top l [] d f e = refl
    top l (x ∷ o) d f e = absurd cc

-- other ends, and the head of a fragment
pub meant_closes_leaf : (edits : List Edit) (s : MaskState) → meant edits (masks_after_end s) ≡ next (meant edits s) closes_leaf
meant_closes_leaf edits s = refl

pub meant_closes_sequence : (edits : List Edit) (s : MaskState) → meant edits (masks_after_end s) ≡ next (meant edits s) closes_sequence
meant_closes_sequence edits s = refl

pub meant_opens_fragment : (edits : List Edit) (s : MaskState) (size : ℕ) → meant edits (masks_in_fragment s) ≡ next (meant edits s) (opens_fragment size)
meant_opens_fragment edits s size = refl

pub meant_ends : (edits : List Edit) (s : MaskState) (found : ℕ) → bits found 0 edits ≡ either (bits s.found 0 edits) (map (λ e. makes (above_last s.level.last) (element_of e)) (asked_here edits s))
    → meant edits (masks_at_end s found) ≡ next (meant edits s) ends
meant_ends edits s found p =
    ap (λ (bs : List Bool). record { level = level_meant edits (length s.outer) s.level; outer = outer_meant edits s.outer; dropped = s.dropped; found = bs }) p
