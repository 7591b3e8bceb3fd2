-- What an edit has done stays done where an edit that does not overlap it comes after it.
use Rattle.std.proofs.Common.{◌≡◌, ℕ, zero, suc, List, [], ◌∷◌, Bool, true, false, refl, sym, ◌∙◌, ap, subst, arith}
use Rattle.std.specs.Prelude.{if◌then◌else◌, not, ◌&&◌, ◌||◌, ◌==◌}
use Rattle.std.proofs.lemmas.Bool.Decides.{nat_tests}
use Rattle.dcm_lemmas.proofs.Numbers.{after_is_not_zero}
use Rattle.dcm_lemmas.proofs.Truth.{and_first, and_second, not_true, or_second}
use Rattle.dcm_base.specs.declared.tag.Tag.{Tag}
use Rattle.dcm_base.specs.declared.vr.Vr.{Vr}
use Rattle.dcm_base.specs.declared.syntax.Syntax.{Syntax}
use Rattle.dcm_base.specs.Tables.Tag.{below, same_tag, is_private}
use Rattle.dcm_base.specs.Tree.Tree.{Trees, no_tree, leaf, sequence, fragments, Items, no_item, item}
use Rattle.dcm_base.proofs.Dictionaries.TagOrder.{same_tag_self, same_tag_sym, tag_is}
use Rattle.dcm_edits.specs.Edit.{Index, number, every, PathEdit, step, insert, modify, erase, erase_item, Edit, on_path, modify_all, erase_all, erase_private, elsewhere, within, Fate, stays, becomes, goes, fate, settled, erases, has, put, NewElement, no_element, new_leaf, new_sequence, before, around, new_element, element_of, with_new, changed, changed_items, edited_set, edited_sets}
use Rattle.dcm_edits.specs.Overlap.{Mark, at_tag, at_index, path, same_index, same_mark, ends, is_every, clash, meets, overlaps, ApartFrom, AreApart, is_public, ArePublic}
use Rattle.dcm_editor_laws.specs.Repeating.{erases_by_number, EraseByNoNumber}
use Rattle.dcm_edits.proofs.Trees.Laws.{chosen, cond_alike}
use Rattle.dcm_edits.proofs.Overlapping.Places.{IfBecomes, quiet, quiet_ends, within_apart, within_public, same_tag_false}
use Rattle.dcm_edits.proofs.Overlapping.Items.{quiet_step, keeps_items}
use Rattle.dcm_editor_laws.proofs.ReadBack.TwiceDone.{LeafDone, IsThere, Done, ItemsDone, SetDone, number_within, all_go, new_leaf_done, new_sequence_done, edit_done}

-- ---- whether edits overlap does not depend on their order

alike_tests : (a b : Bool) → (a ≡ true → b ≡ true) → (a ≡ false → b ≡ false) → a ≡ b
alike_tests true b h k = sym (h refl)
alike_tests false b h k = sym (k refl)

tags_alike : (a b : Tag) → same_tag a b ≡ same_tag b a
tags_alike a b = alike_tests (same_tag a b) (same_tag b a) (same_tag_sym a b) (same_tag_false a b)

numbers_alike : (m n : ℕ) → (m == n) ≡ (n == m)
numbers_alike m n = alike_tests (m == n) (n == m) (λ e. grind (arith, nat_tests)) (λ e. grind (arith, nat_tests))

indexes_alike : (i j : Index) → same_index i j ≡ same_index j i
indexes_alike (number m) (number n) = numbers_alike m n
indexes_alike (number m) every = refl
indexes_alike every (number n) = refl
indexes_alike every every = refl

marks_alike : (a b : Mark) → same_mark a b ≡ same_mark b a
marks_alike (at_tag a) (at_tag b) = tags_alike a b
marks_alike (at_tag a) (at_index j) = refl
marks_alike (at_index i) (at_tag b) = refl
marks_alike (at_index i) (at_index j) = indexes_alike i j

swapped : (a b c d : Bool) → (a || b || c || d) ≡ (b || a || d || c)
swapped true true c d = refl
swapped true false c d = refl
swapped false true c d = refl
swapped false false true true = refl
swapped false false true false = refl
swapped false false false true = refl
swapped false false false false = refl

clashes_alike : (a : Mark) (p : List Mark) (b : Mark) (q : List Mark) → clash a p b q ≡ clash b q a p
clashes_alike (at_tag a) p (at_tag b) q = refl
clashes_alike (at_tag a) p (at_index j) q = refl
clashes_alike (at_index i) p (at_tag b) q = refl
clashes_alike (at_index i) p (at_index j) q = swapped (is_every i) (is_every j) (ends p) (ends q)

paths_alike : (p q : List Mark) → meets p q ≡ meets q p
paths_alike [] [] = refl
paths_alike [] (b ∷ q) = refl
paths_alike (a ∷ p) [] = refl
paths_alike (a ∷ p) (b ∷ q) = cond_alike _ _ _ _ _ _ (marks_alike a b) (paths_alike p q) (clashes_alike a p b q)

overlaps_alike : (a b : Edit) → overlaps a b ≡ overlaps b a
overlaps_alike (on_path a) (on_path b) = paths_alike (path a) (path b)
overlaps_alike (on_path a) (modify_all t vr v) = refl
overlaps_alike (on_path a) (erase_all t) = refl
overlaps_alike (on_path a) erase_private = refl
overlaps_alike (on_path a) elsewhere = refl
overlaps_alike (modify_all t vr v) (on_path b) = refl
overlaps_alike (modify_all t vr v) (modify_all u w x) = tags_alike t u
overlaps_alike (modify_all t vr v) (erase_all u) = tags_alike t u
overlaps_alike (modify_all t vr v) erase_private = refl
overlaps_alike (modify_all t vr v) elsewhere = refl
overlaps_alike (erase_all t) (on_path b) = refl
overlaps_alike (erase_all t) (modify_all u w x) = tags_alike t u
overlaps_alike (erase_all t) (erase_all u) = tags_alike t u
overlaps_alike (erase_all t) erase_private = refl
overlaps_alike (erase_all t) elsewhere = refl
overlaps_alike erase_private (on_path b) = refl
overlaps_alike erase_private (modify_all u w x) = refl
overlaps_alike erase_private (erase_all u) = refl
overlaps_alike erase_private erase_private = refl
overlaps_alike erase_private elsewhere = refl
overlaps_alike elsewhere (on_path b) = refl
overlaps_alike elsewhere (modify_all u w x) = refl
overlaps_alike elsewhere (erase_all u) = refl
overlaps_alike elsewhere erase_private = refl
overlaps_alike elsewhere elsewhere = refl

-- two edits that do not overlap, of public tags
abbrev pub Beside : Edit → Edit → Type 0
Beside e b = (overlaps e b ≡ false) × (overlaps b e ≡ false) × (is_public e ≡ true) × (is_public b ≡ true)

beside_within : (e b : Edit) (t : Tag) (n : ℕ) → Beside e b → Beside (within e t n) (within b t n)
beside_within e b t n w = (within_apart e b t n w.0, within_apart b e t n w.1, within_public e t n w.2, within_public b t n w.3)

-- ---- an element stays there

still : (c a b : Bool) → (a ≡ true → b ≡ true) → (c || a) ≡ true → (c || b) ≡ true
still true a b h k = refl
still false a b h k = h k

settled_has : (b : Edit) (t u : Tag) (k : Trees → Trees) (q : Trees) (a c : Bool) (f : Fate) → (fate b t ≡ goes → ⊥) → fate b u ≡ f → has t (k q) ≡ (same_tag t u || has t q)
    → same_tag t u ≡ c → (a ≡ true → has t q ≡ true) → (c || a) ≡ true → has t (settled f u k q) ≡ true
settled_has b t u k q a c stays never is kept same h there = kept ∙ ap (λ (x : Bool). x || has t q) same ∙ still c a (has t q) h there
settled_has b t u k q a c (becomes w x) never is kept same h there = ap (λ (x : Bool). x || has t q) same ∙ still c a (has t q) h there
settled_has b t u k q a false goes never is kept same h there = h there
settled_has b t u k q a true goes never is kept same h there = absurd (never (ap (fate b) (tag_is t u same) ∙ is))

has_changed : (b : Edit) (t : Tag) (set : Trees) → (fate b t ≡ goes → ⊥) → has t set ≡ true → has t (changed b set) ≡ true
has_changed b t no_tree never h = h
has_changed b t (leaf u vr v rest) never h = settled_has b t u (leaf u vr v) (changed b rest) (has t rest) (same_tag t u) (fate b u) never refl refl refl (has_changed b t rest never) h
has_changed b t (sequence u vr declared items rest) never h =
    settled_has b t u (sequence u vr declared (changed_items b u 0 items)) (changed b rest) (has t rest) (same_tag t u) (fate b u) never refl refl refl (has_changed b t rest never) h
has_changed b t (fragments u vr values rest) never h = settled_has b t u (fragments u vr values) (changed b rest) (has t rest) (same_tag t u) (fate b u) never refl refl refl (has_changed b t rest never) h

has_before : (t : Tag) (x : NewElement) (set : Trees) → has t set ≡ true → has t (before x set) ≡ true
has_before t no_element set h = h
has_before t (new_leaf u vr v) set h = or_second (same_tag t u) _ h
has_before t (new_sequence u held) set h = or_second (same_tag t u) _ h

has_put : (t u : Tag) (x : NewElement) (set : Trees) → has t set ≡ true → has t (put u x set) ≡ true
has_put t u x no_tree h = absurd (cc)
has_put t u x (leaf w vr v rest) h = chosen (λ (y : Trees). has t y ≡ true) (below u w) _ _ (λ p. has_before t x _ h) (λ p. still (same_tag t w) (has t rest) _ (has_put t u x rest) h)
has_put t u x (sequence w vr declared items rest) h = chosen (λ (y : Trees). has t y ≡ true) (below u w) _ _ (λ p. has_before t x _ h) (λ p. still (same_tag t w) (has t rest) _ (has_put t u x rest) h)
has_put t u x (fragments w vr values rest) h = chosen (λ (y : Trees). has t y ≡ true) (below u w) _ _ (λ p. has_before t x _ h) (λ p. still (same_tag t w) (has t rest) _ (has_put t u x rest) h)

has_with : (t : Tag) (x : NewElement) (set : Trees) → has t set ≡ true → has t (with_new x set) ≡ true
has_with t no_element set h = h
has_with t (new_leaf u vr v) set h = chosen (λ (y : Trees). has t y ≡ true) (has u set) _ _ (λ p. h) (λ p. has_put t u (new_leaf u vr v) set h)
has_with t (new_sequence u held) set h = chosen (λ (y : Trees). has t y ≡ true) (has u set) _ _ (λ p. h) (λ p. has_put t u (new_sequence u held) set h)

-- what holds of the tag of a new element
abbrev pub OfTag : (Tag → Type 0) → NewElement → Type 0
OfTag P no_element = Unit {0}
OfTag P (new_leaf t vr v) = P t
OfTag P (new_sequence t held) = P t

pub of_around : (P : Tag → Type 0) (t : Tag) (x : NewElement) → P t → OfTag P (around t x)
of_around P t no_element h = tt
of_around P t (new_leaf u vr v) h = h
of_around P t (new_sequence u held) h = h

abbrev pub IsNotErased : Edit → Tag → Type 0
IsNotErased b t = fate b t ≡ goes → ⊥

pub there_changed : (x : NewElement) (b : Edit) (set : Trees) → OfTag (IsNotErased b) x → IsThere x set → IsThere x (changed b set)
there_changed no_element b set o h = tt
there_changed (new_leaf t vr v) b set o h = λ g. has_changed b t set o (h g)
there_changed (new_sequence t held) b set o h = λ g. has_changed b t set o (h g)

there_with : (x y : NewElement) (set : Trees) → IsThere x set → IsThere x (with_new y set)
there_with no_element y set h = tt
there_with (new_leaf t vr v) y set h = λ g. has_with t y set (h g)
there_with (new_sequence t held) y set h = λ g. has_with t y set (h g)

pub as_it_stays : (b : Edit) (t : Tag) → fate b t ≡ stays → IsNotErased b t
as_it_stays b t h g = absurd (let e : stays ≡ goes = sym h ∙ g in cc)

first_public : (t : Tag) (c : Bool) → (not (is_private t) && c) ≡ true → is_private t ≡ false
first_public t c h = not_true (is_private t) (and_first (not (is_private t)) c h)

insert_stays : (t : Tag) (vr : Vr) (v : List ℕ) (b : Edit) → Beside (on_path (insert t vr v)) b → fate b t ≡ stays
insert_stays t vr v b w = quiet_ends t t (insert t vr v) b refl (same_tag_self t) (first_public t true w.2) w.0

step_stays : (t : Tag) (index : Index) (p : PathEdit) (b : Edit) → Beside (on_path (step t index p)) b → fate b t ≡ stays
step_stays t index p b w = quiet_step t index p b w.0 (first_public t _ w.2)

-- an edit does not erase the new element of another one
of_other : (e b : Edit) → Beside e b → OfTag (IsNotErased b) (element_of e)
of_other (on_path (insert t vr v)) b w = as_it_stays b t (insert_stays t vr v b w)
of_other (on_path (step t (number zero) p)) b w = of_around (IsNotErased b) t (new_element p) (as_it_stays b t (step_stays t (number zero) p b w))
of_other (on_path (step t (number (suc n)) p)) b w = tt
of_other (on_path (step t every p)) b w = tt
of_other (on_path (modify t vr v)) b w = tt
of_other (on_path (erase t)) b w = tt
of_other (on_path (erase_item t index)) b w = tt
of_other (modify_all t vr v) b w = tt
of_other (erase_all t) b w = tt
of_other erase_private b w = tt
of_other elsewhere b w = tt

-- ---- inside an item that is put, the other edit puts nothing

around_empty : (t : Tag) (x : NewElement) (set : Trees) → (t.element == 0) ≡ false → has t set ≡ false → IsThere (around t x) set → IsThere x no_tree
around_empty t no_element set g out h = tt
around_empty t (new_leaf u vr v) set g out h = absurd (let there : has t set ≡ true = h g in cc)
around_empty t (new_sequence u held) set g out h = absurd (let there : has t set ≡ true = h g in cc)

if_selected : (c : Bool) (q : PathEdit) → (c ≡ true → IsThere (new_element q) no_tree) → IsThere (element_of (if c then on_path q else elsewhere)) no_tree
if_selected true q h = h refl
if_selected false q h = tt

every_clashes : (c : Bool) → (if c then true else false) ≡ false → c ≡ true → ⊥
every_clashes true h e = absurd (cc)
every_clashes false h e = absurd (cc)

empty_inside : (e : Edit) (t : Tag) (p : PathEdit) (set : Trees) → overlaps (on_path (step t (number zero) p)) e ≡ false → (t.element == 0) ≡ false → has t set ≡ false
    → IsThere (element_of e) set → IsThere (element_of (within e t 0)) no_tree
empty_inside (on_path (step u (number zero) q)) t p set o g out h =
    if_selected (same_tag u t && (zero == 0)) q
    (λ c. let is : u ≡ t = tag_is u t (and_first _ _ c) in
    around_empty t (new_element q) set g out (subst (λ (x : Tag). IsThere (around x (new_element q)) set) is h))
empty_inside (on_path (step u (number (suc k)) q)) t p set o g out h = if_selected (same_tag u t && (suc k == 0)) q (λ c. absurd (after_is_not_zero k (and_second _ _ c)))
empty_inside (on_path (step u every q)) t p set o g out h =
    if_selected (same_tag u t && true) q (λ c. absurd (every_clashes (same_tag t u) o (same_tag_sym u t (and_first _ _ c))))
empty_inside (on_path (insert u vr v)) t p set o g out h = tt
empty_inside (on_path (modify u vr v)) t p set o g out h = tt
empty_inside (on_path (erase u)) t p set o g out h = tt
empty_inside (on_path (erase_item u index)) t p set o g out h = tt
empty_inside (modify_all u vr v) t p set o g out h = tt
empty_inside (erase_all u) t p set o g out h = tt
empty_inside erase_private t p set o g out h = tt
empty_inside elsewhere t p set o g out h = tt

inside_first : (e : Edit) (t : Tag) (p : PathEdit) → Beside e (on_path (step t (number zero) p)) → Beside (within e t 0) (on_path p)
inside_first e t p w =
    subst (λ (c : Bool). Beside (within e t 0) (if c && true then on_path p else elsewhere)) (same_tag_self t) (beside_within e (on_path (step t (number zero) p)) t 0 w)

-- ---- what is done stays done

module _ (s : Syntax) where
  settled_keeps : (e : Edit) (t : Tag) (k : Trees → Trees) (rest : Trees) (f : Fate) → IfBecomes f (fate e t ≡ stays) → Done s e rest → Done s e (k rest) → Done s e (settled f t k rest)
  settled_keeps e t k rest stays q d h = h
  settled_keeps e t k rest (becomes w x) q d h = (λ g. subst (LeafDone s t w x) (sym q) tt, d)
  settled_keeps e t k rest goes q d h = d

  step_keeps : (e : Edit) (t : Tag) (x : NewElement) (set : Trees) → fate e t ≡ stays → erases e t 0 ≡ false
      → ((t.element == 0) ≡ false → has t set ≡ false → SetDone s (within e t 0) (with_new x no_tree)) → Done s e set → Done s e (with_new (around t x) set)
  step_keeps e t no_element set q r h d = d
  step_keeps e t (new_leaf u vr v) set q r h d = new_sequence_done s e t _ set (λ out g. (q, r, (h g out).0, (h g out).1)) d
  step_keeps e t (new_sequence u held) set q r h d = new_sequence_done s e t _ set (λ out g. (q, r, (h g out).0, (h g out).1)) d

  path_keeps : (p : PathEdit) (e : Edit) (set : Trees) → Beside e (on_path p) → Done s e set → IsThere (element_of e) set → Done s e (with_new (new_element p) set)
  path_keeps (insert t vr v) e set w d h =
      new_leaf_done s e t vr v set (λ g. subst (LeafDone s t vr v) (sym (insert_stays t vr v e (w.1, w.0, w.3, w.2))) tt) d
  path_keeps (step t (number zero) p) e set w d h =
      step_keeps e t (new_element p) set (step_stays t (number zero) p e (w.1, w.0, w.3, w.2)) (keeps_items t (number zero) p e 0 w.1)
      (λ g out.
      let empty : IsThere (element_of (within e t 0)) no_tree = empty_inside e t p set w.1 g out h in
      (path_keeps p (within e t 0) no_tree (inside_first e t p w) tt empty, there_with (element_of (within e t 0)) (new_element p) no_tree empty)) d
  path_keeps (step t (number (suc n)) p) e set w d h = d
  path_keeps (step t every p) e set w d h = d
  path_keeps (modify t vr v) e set w d h = d
  path_keeps (erase t) e set w d h = d
  path_keeps (erase_item t index) e set w d h = d

  with_keeps : (b e : Edit) (set : Trees) → Beside e b → Done s e set → IsThere (element_of e) set → Done s e (with_new (element_of b) set)
  with_keeps (on_path p) e set w d h = path_keeps p e set w d h
  with_keeps (modify_all t vr v) e set w d h = d
  with_keeps (erase_all t) e set w d h = d
  with_keeps erase_private e set w d h = d
  with_keeps elsewhere e set w d h = d

  mutual
    changed_keeps : (e b : Edit) (set : Trees) → Beside e b → erases_by_number b ≡ false → Done s e set → Done s e (changed b set)
    changed_keeps e b no_tree w r d = tt
    changed_keeps e b (leaf t vr v rest) w r d =
        let more = changed_keeps e b rest w r d.1 in
        settled_keeps e t (leaf t vr v) (changed b rest) (fate b t) (quiet b e t w.1 w.3) more (d.0, more)
    changed_keeps e b (sequence t vr declared items rest) w r d =
        let more = changed_keeps e b rest w r d.1 in
        settled_keeps e t (sequence t vr declared (changed_items b t 0 items)) (changed b rest) (fate b t) (quiet b e t w.1 w.3) more
        (λ g. ((d.0 g).0, items_keep e b t 0 items w r (d.0 g).1), more)
    changed_keeps e b (fragments t vr values rest) w r d =
        let more = changed_keeps e b rest w r d.1 in
        settled_keeps e t (fragments t vr values) (changed b rest) (fate b t) (quiet b e t w.1 w.3) more (d.0, more)

    items_keep : (e b : Edit) (t : Tag) (n : ℕ) (items : Items) → Beside e b → erases_by_number b ≡ false → ItemsDone s e t n items → ItemsDone s e t n (changed_items b t n items)
    items_keep e b t n no_item w r d = tt
    items_keep e b t n (item declared set rest) w r d =
        let e1 : Edit = within e t n in
        let b1 : Edit = within b t n in
        let inner : Beside e1 b1 = beside_within e b t n w in
        let there : IsThere (element_of e1) (changed b1 set) = there_changed (element_of e1) b1 set (of_other e1 b1 inner) d.2 in
        let kept = with_keeps b1 e1 (changed b1 set) inner (changed_keeps e1 b1 set inner (number_within b t n r) d.1) there in
        let more = items_keep e b t (suc n) rest w r d.3 in
        chosen (ItemsDone s e t n) (erases b t n) _ _ (λ p. subst (ItemsDone s e t n) (sym (all_go b t n (suc n) rest r p)) tt)
        (λ p. (d.0, kept, there_with (element_of e1) (element_of b1) (changed b1 set) there, more))

  pub edit_keeps : (e b : Edit) (set : Trees) → Beside e b → erases_by_number b ≡ false → SetDone s e set → SetDone s e (edited_set b set)
  edit_keeps e b set w r d =
      let there : IsThere (element_of e) (changed b set) = there_changed (element_of e) b set (of_other e b w) d.1 in
      (with_keeps b e (changed b set) w (changed_keeps e b set w r d.0) there, there_with (element_of e) (element_of b) (changed b set) there)

  -- ---- all edits

  abbrev pub AllDone : List Edit → Trees → Type 0
  AllDone [] set = Unit {0}
  AllDone (e ∷ es) set = SetDone s e set × AllDone es set

  pub beside : (e b : Edit) → overlaps e b ≡ false → is_public e ≡ true → is_public b ≡ true → Beside e b
  beside e b o p q = (o, sym (overlaps_alike e b) ∙ o, p, q)

  edits_keep : (e : Edit) (es : List Edit) (set : Trees) → ApartFrom e es → is_public e ≡ true → ArePublic es → EraseByNoNumber es → SetDone s e set → SetDone s e (edited_sets es set)
  edits_keep e [] set a p q r d = d
  edits_keep e (b ∷ es) set a p q r d = edits_keep e es (edited_set b set) a.1 p q.1 r.1 (edit_keeps e b set (beside e b a.0 p q.0) r.0 d)

  pub all_done : (es : List Edit) (set : Trees) → AreApart es → ArePublic es → EraseByNoNumber es → AllDone es (edited_sets es set)
  all_done [] set a p r = tt
  all_done (e ∷ es) set a p r = (edits_keep e es (edited_set e set) a.0 p.0 p.1 r.1 (edit_done s e set r.0), all_done es (edited_set e set) a.1 p.1 r.1)

  -- an edit that comes again leaves done what the later ones have done
  pub all_keep : (b : Edit) (es : List Edit) (set : Trees) → ApartFrom b es → is_public b ≡ true → ArePublic es → erases_by_number b ≡ false → AllDone es set → AllDone es (edited_set b set)
  all_keep b [] set a p q r d = tt
  all_keep b (e ∷ es) set a p q r d =
      let w : Beside b e = beside b e a.0 p q.0 in
      (edit_keeps e b set (w.1, w.0, w.3, w.2) r d.0, all_keep b es set a.1 p q.1 r d.1)
