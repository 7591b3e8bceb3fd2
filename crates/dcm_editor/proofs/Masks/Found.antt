-- What the sink finds on its way is what the edits find in the whole.
use Rattle.std.proofs.Common.{◌≡◌, ℕ, suc, List, [], ◌∷◌, Option, Some, None, Bool, true, false, not, ◌||◌, ◌&&◌, refl, sym, ◌∙◌, ap}
use Rattle.std.specs.Prelude.{map, fold}
use Rattle.dcm_lemmas.proofs.Lists.{bits_alike}
use Rattle.dcm_lemmas.proofs.Truth.{and_both, and_second_false, or_first, or_group, or_neither}
use Rattle.dcm_base.specs.declared.tag.Tag.{Tag}
use Rattle.dcm_base.specs.Tree.Tree.{Trees, no_tree, leaf, sequence, fragments, Items, no_item, item, item_count}
use Rattle.dcm_base.specs.Tree.Front.{Front, front, OpenTree, nothing_open, open_leaf, open_sequence, open_fragments, OpenItem, no_open_item, open_item}
use Rattle.dcm_base.specs.Tables.Tag.{same_tag, below}
use Rattle.dcm_edits.specs.NewOnes.{above_last, is_between}
use Rattle.dcm_edits.specs.Edit.{Edit, within, fate, erases, acts, has, is_passed, NewElement, no_element, new_leaf, new_sequence, element_of, has_place_in, has_place_so_far, found_in, found_in_items, found, found_open, found_open_item, edited}
use Rattle.dcm_edits.specs.Overlap.{AreApart, ArePublic}
use Rattle.dcm_base.specs.Lines.Ascending.{Ascend, ItemsAscend, ReachedLast, FrontAscends, OpenAscends, OpenItemAscends}
use Rattle.dcm_base.proofs.Dictionaries.TagOrder.{below_other, below_other_way, is_above_below}
use Rattle.dcm_base.specs.Bytes.Spelling.{last_tag, reached_tag}
use Rattle.dcm_base.specs.Steps.Atoms.{Atom, end_atoms, Shows, ShowsOpen, ShowsOpenItem}
use Rattle.dcm_base.specs.Steps.Anew.{reached_anew}
use Rattle.dcm_editor.specs.EditSink.{begun, has_place, makes, either}
use Rattle.dcm_edits.specs.Bounds.{HaveValues}
use Rattle.dcm_editor.proofs.EditSinks.Unbounded.{next_unbounded}
use Rattle.dcm_edits.proofs.Trees.NewOnes.{has-above, below_not_back, same_not_below, and_all}
use Rattle.dcm_edits.proofs.Trees.Kept.{AllUnder, under_tag, under_last}
use Rattle.dcm_editor.proofs.EditSinks.Runs.{out, head_seen, item_seen, seen, seen_items}
use Rattle.dcm_editor.proofs.Trees.SoFar.{last_some, passed_closed}
use Rattle.dcm_editor.proofs.Trees.Fronts.{seen_front, seen_open, seen_open_item, found_front, edit_passes}

-- whether a new element is put on the way over these trees
abbrev pub marked : Option Tag → NewElement → Trees → Bool
marked last w no_tree = false
marked last w (leaf tag vr value rest) = makes (is_between last tag) w || marked (Some tag) w rest
marked last w (sequence tag vr declared items rest) = makes (is_between last tag) w || marked (Some tag) w rest
marked last w (fragments tag vr values rest) = makes (is_between last tag) w || marked (Some tag) w rest

marked_none : (last : Option Tag) (set : Trees) → marked last no_element set ≡ false
marked_none last no_tree = refl
marked_none last (leaf tag vr value rest) = marked_none (Some tag) rest
marked_none last (sequence tag vr declared items rest) = marked_none (Some tag) rest
marked_none last (fragments tag vr values rest) = marked_none (Some tag) rest

marked_leaf : (last : Option Tag) (t : Tag) (w : NewElement) (set : Trees) → has_place w ≡ true → marked last w set ≡ false
marked_leaf last t no_element set p = marked_none last set
marked_leaf last t (new_leaf g vr value) no_tree p = refl
marked_leaf last t (new_leaf g vr value) (leaf tag vr' value' rest) p = marked_leaf (Some tag) t (new_leaf g vr value) rest p
marked_leaf last t (new_leaf g vr value) (sequence tag vr' declared items rest) p = marked_leaf (Some tag) t (new_leaf g vr value) rest p
marked_leaf last t (new_leaf g vr value) (fragments tag vr' values rest) p = marked_leaf (Some tag) t (new_leaf g vr value) rest p
marked_leaf last t (new_sequence g held) set p = absurd cc

not_false : (x : Bool) → x ≡ false → not x ≡ true
not_false x p = cc

not_true : (x : Bool) → x ≡ true → not x ≡ false
not_true x p = cc

or_after : (x y z : Bool) → x ≡ false → ((x || y) || z) ≡ (y || z)
or_after x y z p = cc

if_above : (last : Option Tag) (tag t : Tag) → above_last last tag ≡ true → above_last last t ≡ false → below tag t ≡ false
if_above last tag t p q = by_test (below tag t) refl
  where
    by_test : (b : Bool) → below tag t ≡ b → below tag t ≡ false
    by_test true e = absurd (let r : above_last last t ≡ true = is_above_below last tag t p e in (cc))
    by_test false e = e

-- the tests of a tag that is not above the last one
not_after : (last : Option Tag) (t : Tag) (held set : Trees) → Ascend last set → above_last last t ≡ false
    → (marked last (new_sequence t held) set || above_last (last_tag last set) t) ≡ false
unfolding last_tag
not_after last t held no_tree a p = p
not_after last t held (leaf tag vr value rest) a p =
    or_after (is_between last tag t) _ _ (ap (λ (b : Bool). b && below t tag) p) ∙ not_after (Some tag) t held rest a.1 (if_above last tag t a.0 p)
not_after last t held (sequence tag vr declared items rest) a p =
    or_after (is_between last tag t) _ _ (ap (λ (b : Bool). b && below t tag) p) ∙ not_after (Some tag) t held rest a.2 (if_above last tag t a.0 p)
not_after last t held (fragments tag vr values rest) a p =
    or_after (is_between last tag t) _ _ (ap (λ (b : Bool). b && below t tag) p) ∙ not_after (Some tag) t held rest a.1 (if_above last tag t a.0 p)

-- one element, by the order of its tag and the new one's
missing_step : (last : Option Tag) (tag t : Tag) (hr m l : Bool) → above_last last t ≡ true → above_last last tag ≡ true
    → (below t tag ≡ true → hr ≡ false) → (below tag t ≡ false → (m || l) ≡ false) → (below tag t ≡ true → not hr ≡ (m || l))
    → not (same_tag t tag || hr) ≡ ((is_between last tag t || m) || l)
missing_step last tag t hr m l p q low same high = by_order (below t tag) (same_tag t tag) refl refl
  where
    by_order : (d e : Bool) → below t tag ≡ d → same_tag t tag ≡ e → not (same_tag t tag || hr) ≡ ((is_between last tag t || m) || l)
    by_order true e d f =
        not_false (same_tag t tag || hr) (or_neither (same_tag t tag) hr (below_other_way t tag d) (low d))
        ∙ sym (or_first (is_between last tag t || m) l (or_first (is_between last tag t) m (and_both (above_last last t) (below t tag) p d)))
    by_order false true d f =
        not_true (same_tag t tag || hr) (or_first (same_tag t tag) hr f)
        ∙ sym (or_after (is_between last tag t) m l (and_second_false (above_last last t) (below t tag) d) ∙ same (same_not_below t tag f))
    by_order false false d f =
        ap (λ (b : Bool). not (b || hr)) f ∙ high (below_other t tag d f)
        ∙ sym (or_after (is_between last tag t) m l (and_second_false (above_last last t) (below t tag) d))

missing_sequence : (last : Option Tag) (t : Tag) (held set : Trees) → Ascend last set → above_last last t ≡ true
    → not (has t set) ≡ (marked last (new_sequence t held) set || above_last (last_tag last set) t)
unfolding last_tag
missing_sequence last t held no_tree a p = sym p
missing_sequence last t held (leaf tag vr value rest) a p =
    missing_step last tag t (has t rest) _ _ p a.0 (λ q. has-above t tag rest a.1 q) (λ q. not_after (Some tag) t held rest a.1 q) (λ q. missing_sequence (Some tag) t held rest a.1 q)
missing_sequence last t held (sequence tag vr declared items rest) a p =
    missing_step last tag t (has t rest) _ _ p a.0 (λ q. has-above t tag rest a.2 q) (λ q. not_after (Some tag) t held rest a.2 q) (λ q. missing_sequence (Some tag) t held rest a.2 q)
missing_sequence last t held (fragments tag vr values rest) a p =
    missing_step last tag t (has t rest) _ _ p a.0 (λ q. has-above t tag rest a.1 q) (λ q. not_after (Some tag) t held rest a.1 q) (λ q. missing_sequence (Some tag) t held rest a.1 q)

missing_marked : (w : NewElement) (set : Trees) → Ascend None set → has_place_in w set ≡ (has_place w || (marked None w set || makes (above_last (last_tag None set)) w))
missing_marked no_element set a = sym (or_neither (marked None no_element set) false (marked_none None set) refl)
missing_marked (new_leaf tag vr value) set a = refl
missing_marked (new_sequence t held) set a = missing_sequence None t held set a refl

-- ---- elements

or_swap : (a m f k : Bool) → ((a || m) || (f || k)) ≡ ((a || f) || (m || k))
or_swap true m f k = refl
or_swap false true true k = refl
or_swap false true false k = refl
or_swap false false f k = refl

or_swap_items : (a m i f k : Bool) → (((a || m) || i) || (f || k)) ≡ (((a || i) || f) || (m || k))
or_swap_items true m i f k = refl
or_swap_items false true true f k = refl
or_swap_items false true false true k = refl
or_swap_items false true false false k = refl
or_swap_items false false true f k = refl
or_swap_items false false false f k = refl

or_item : (e h f k c r : Bool) → ((((e || h) || (f || k)) || c) || r) ≡ (((e || (h || (k || c))) || f) || r)
or_item true h f k c r = refl
or_item false true f k c r = refl
or_item false false true true c r = refl
or_item false false true false true r = refl
or_item false false true false false r = refl
or_item false false false true c r = refl
or_item false false false false true r = refl
or_item false false false false false r = refl

mutual
  seen_is : (e : Edit) (last : Option Tag) (set : Trees) → Ascend last set → seen e last set ≡ (found_in e set || marked last (element_of e) set)
  seen_is e last no_tree a = refl
  seen_is e last (leaf tag vr value rest) a =
      ap (λ (b : Bool). head_seen e last tag || b) (seen_is e (Some tag) rest a.1)
      ∙ or_swap (acts (fate e tag)) (makes (is_between last tag) (element_of e)) (found_in e rest) (marked (Some tag) (element_of e) rest)
  seen_is e last (sequence tag vr declared items rest) a =
      ap (λ (b : Bool). (head_seen e last tag || b) || seen e (Some tag) rest) (seen_items_are e tag 0 items a.1)
      ∙ ap (λ (b : Bool). (head_seen e last tag || found_in_items e tag 0 items) || b) (seen_is e (Some tag) rest a.2)
      ∙ or_swap_items (acts (fate e tag)) (makes (is_between last tag) (element_of e)) (found_in_items e tag 0 items) (found_in e rest) (marked (Some tag) (element_of e) rest)
  seen_is e last (fragments tag vr values rest) a =
      ap (λ (b : Bool). head_seen e last tag || b) (seen_is e (Some tag) rest a.1)
      ∙ or_swap (acts (fate e tag)) (makes (is_between last tag) (element_of e)) (found_in e rest) (marked (Some tag) (element_of e) rest)

  seen_items_are : (e : Edit) (tag : Tag) (n : ℕ) (items : Items) → ItemsAscend items → seen_items e tag n items ≡ found_in_items e tag n items
  seen_items_are e tag n no_item a = refl
  seen_items_are e tag n (item declared set rest) a =
      let w : NewElement = element_of (within e tag n) in
      let closing : Bool = makes (above_last (last_tag None set)) w in
      ap (λ (b : Bool). ((item_seen e tag n || b) || closing) || seen_items e tag (suc n) rest) (seen_is (within e tag n) None set a.0)
      ∙ ap (λ (b : Bool). ((item_seen e tag n || (found_in (within e tag n) set || marked None w set)) || closing) || b) (seen_items_are e tag (suc n) rest a.1)
      ∙ or_item (erases e tag n) (has_place w) (found_in (within e tag n) set) (marked None w set) closing (found_in_items e tag (suc n) rest)
      ∙ ap (λ (b : Bool). ((erases e tag n || b) || found_in (within e tag n) set) || found_in_items e tag (suc n) rest) (sym (missing_marked w set a.0))

-- ---- a data set as far as it was read

abbrev pub open_marked : Option Tag → NewElement → OpenTree → Bool → Bool
open_marked last w nothing_open false = false
open_marked last w nothing_open true = makes (above_last last) w
open_marked last w (open_leaf tag vr size value) c = makes (is_between last tag) w
open_marked last w (open_sequence tag vr declared items more) c = makes (is_between last tag) w
open_marked last w (open_fragments tag vr values more) c = makes (is_between last tag) w

open_marked_none : (last : Option Tag) (o : OpenTree) (c : Bool) → open_marked last no_element o c ≡ false
open_marked_none last nothing_open true = refl
open_marked_none last nothing_open false = refl
open_marked_none last (open_leaf tag vr size value) c = refl
open_marked_none last (open_sequence tag vr declared items more) c = refl
open_marked_none last (open_fragments tag vr values more) c = refl

unmarked : (q : Tag → Bool) (last : Option Tag) (t : Tag) (held set : Trees) → AllUnder q set → q t ≡ false → marked last (new_sequence t held) set ≡ false
unmarked q last t held no_tree u p = refl
unmarked q last t held (leaf tag vr value rest) u p =
    or_neither (is_between last tag t) _ (and_second_false (above_last last t) (below t tag) (under_not (below t tag) (q t) (u.0 t) p)) (unmarked q (Some tag) t held rest u.1 p)
  where
    under_not : (a b : Bool) → (a ≡ true → b ≡ true) → b ≡ false → a ≡ false
    under_not true b h e = let r : b ≡ true = h refl in cc
    under_not false b h e = refl
unmarked q last t held (sequence tag vr declared items rest) u p =
    or_neither (is_between last tag t) _ (and_second_false (above_last last t) (below t tag) (under_not (below t tag) (q t) (u.0 t) p)) (unmarked q (Some tag) t held rest u.1 p)
  where
    under_not : (a b : Bool) → (a ≡ true → b ≡ true) → b ≡ false → a ≡ false
    under_not true b h e = let r : b ≡ true = h refl in cc
    under_not false b h e = refl
unmarked q last t held (fragments tag vr values rest) u p =
    or_neither (is_between last tag t) _ (and_second_false (above_last last t) (below t tag) (under_not (below t tag) (q t) (u.0 t) p)) (unmarked q (Some tag) t held rest u.1 p)
  where
    under_not : (a b : Bool) → (a ≡ true → b ≡ true) → b ≡ false → a ≡ false
    under_not true b h e = let r : b ≡ true = h refl in cc
    under_not false b h e = refl

where_passed : (h o p : Bool) → o ≡ false → p ≡ true → not (h || o || not p) ≡ not h
where_passed true o p d e = refl
where_passed false true p d e = absurd cc
where_passed false false true d e = refl
where_passed false false false d e = absurd cc

where_not_passed : (h o p : Bool) → p ≡ false → not (h || o || not p) ≡ false
where_not_passed true o p e = refl
where_not_passed false true p e = refl
where_not_passed false false true e = absurd cc
where_not_passed false false false e = refl

none_marked : (t : Tag) (held whole : Trees) → last_tag None whole ≡ None → marked None (new_sequence t held) whole ≡ false
unfolding last_tag
none_marked t held no_tree e = refl
none_marked t held (leaf tag vr value rest) e = absurd (last_some tag rest e)
none_marked t held (sequence tag vr declared items rest) e = absurd (last_some tag rest e)
none_marked t held (fragments tag vr values rest) e = absurd (last_some tag rest e)

unfinished_missing : (t : Tag) (held whole : Trees) (r : Option Tag) → last_tag None whole ≡ r → Ascend None whole
    → not (has t whole || false || not (is_passed t r false)) ≡ (marked None (new_sequence t held) whole || false)
unfinished_missing t held whole None e a =
    where_not_passed (has t whole) false false refl ∙ sym (or_neither (marked None (new_sequence t held) whole) false (none_marked t held whole e) refl)
unfinished_missing t held whole (Some u) e a = by_test (below t u) refl
  where
    by_test : (b : Bool) → below t u ≡ b → not (has t whole || false || not (is_passed t (Some u) false)) ≡ (marked None (new_sequence t held) whole || false)
    by_test true d =
        where_passed (has t whole) false (below t u || false) refl (or_first (below t u) false d)
        ∙ missing_sequence None t held whole a refl
        ∙ ap (λ (b : Bool). marked None (new_sequence t held) whole || b) (ap (λ (l : Option Tag). above_last l t) e ∙ below_not_back t u d)
    by_test false d =
        where_not_passed (has t whole) false (below t u || false) (or_neither (below t u) false d refl)
        ∙ sym (or_neither (marked None (new_sequence t held) whole) false (unmarked (λ g. below g u) None t held whole (under_last None u whole a e) d) refl)

open_missing : (tag t : Tag) (held whole : Trees) (r : Option Tag) (c : Bool) → Ascend None whole → ReachedLast tag whole r c
    → not (has t whole || same_tag t tag || not (is_passed t r c)) ≡ (marked None (new_sequence t held) whole || is_between (last_tag None whole) tag t)
open_missing tag t held whole r c a l =
    ap (λ (x : Option Tag). not (has t whole || same_tag t tag || not (is_passed t x c))) l.last
    ∙ ap (λ (x : Bool). not (has t whole || same_tag t tag || not (is_passed t (Some tag) x))) l.unfinished
    ∙ by_test (below t tag) refl
  where
    by_test : (b : Bool) → below t tag ≡ b
        → not (has t whole || same_tag t tag || not (is_passed t (Some tag) false)) ≡ (marked None (new_sequence t held) whole || is_between (last_tag None whole) tag t)
    by_test true d =
        where_passed (has t whole) (same_tag t tag) (below t tag || false) (below_other_way t tag d) (or_first (below t tag) false d)
        ∙ missing_sequence None t held whole a refl
        ∙ ap (λ (b : Bool). marked None (new_sequence t held) whole || b) (sym (and_all (above_last (last_tag None whole) t) (below t tag) d))
    by_test false d =
        where_not_passed (has t whole) (same_tag t tag) (below t tag || false) (or_neither (below t tag) false d refl)
        ∙ sym (or_neither (marked None (new_sequence t held) whole) (is_between (last_tag None whole) tag t)
        (unmarked (λ g. below g tag) None t held whole (under_tag tag whole l.above) d) (and_second_false (above_last (last_tag None whole) t) (below t tag) d))

front_missing : (w : NewElement) (whole : Trees) (o : OpenTree) (r : Option Tag) (c : Bool) → Ascend None whole → OpenAscends whole r c o → r ≡ reached_tag whole o
    → has_place_so_far w (front whole o r c) ≡ (has_place w || (marked None w whole || open_marked (last_tag None whole) w o c))
front_missing no_element whole o r c a l e = sym (or_neither _ _ (marked_none None whole) (open_marked_none (last_tag None whole) o c))
front_missing (new_leaf t vr value) whole o r c a l e = refl
front_missing (new_sequence t held) whole nothing_open r true a l e =
    where_passed (has t whole) false (is_passed t r true) refl (passed_closed t r) ∙ missing_sequence None t held whole a refl
front_missing (new_sequence t held) whole nothing_open r false a l e = unfinished_missing t held whole r (sym e) a
front_missing (new_sequence t held) whole (open_leaf tag vr size value) r c a l e = open_missing tag t held whole r c a l
front_missing (new_sequence t held) whole (open_sequence tag vr declared items more) r c a l e = open_missing tag t held whole r c a l.0
front_missing (new_sequence t held) whole (open_fragments tag vr values more) r c a l e = open_missing tag t held whole r c a l

or_front : (h f k g m : Bool) → (h || ((f || k) || (g || m))) ≡ (((h || (k || m)) || f) || g)
or_front true f k g m = refl
or_front false true true g m = refl
or_front false true false g true = refl
or_front false true false g false = refl
or_front false false true g m = refl
or_front false false false true true = refl
or_front false false false true false = refl
or_front false false false false true = refl
or_front false false false false false = refl

or_open : (a m i g : Bool) → (((a || m) || i) || g) ≡ (((a || i) || g) || m)
or_open true m i g = refl
or_open false true true g = refl
or_open false true false true = refl
or_open false true false false = refl
or_open false false true g = refl
or_open false false false true = refl
or_open false false false false = refl

mutual
  unfolding Shows

  front_seen : (e : Edit) (f : Front) (atoms : List Atom) → FrontAscends f → Shows f atoms → (has_place (element_of e) || seen_front e f) ≡ found e f
  front_seen e (front whole o r c) atoms a (others, shown, more, may, re) =
      let w : NewElement = element_of e in
      let last : Option Tag = last_tag None whole in
      ap (λ (b : Bool). has_place w || (b || seen_open e last o c)) (seen_is e None whole a.0)
      ∙ ap (λ (b : Bool). has_place w || ((found_in e whole || marked None w whole) || b)) (open_seen e o whole r last c others a.1 more)
      ∙ or_front (has_place w) (found_in e whole) (marked None w whole) (found_open e o) (open_marked last w o c)
      ∙ ap (λ (b : Bool). (b || found_in e whole) || found_open e o) (sym (front_missing w whole o r c a.0 a.1 re))

  open_seen : (e : Edit) (o : OpenTree) (whole : Trees) (r last : Option Tag) (c : Bool) (atoms : List Atom) → OpenAscends whole r c o → ShowsOpen o (end_atoms c) atoms
      → seen_open e last o c ≡ (found_open e o || open_marked last (element_of e) o c)
  open_seen e nothing_open whole r last false atoms a shown = refl
  open_seen e nothing_open whole r last true atoms a shown = refl
  open_seen e (open_leaf tag vr size value) whole r last c atoms a shown = refl
  open_seen e (open_sequence tag vr declared items more) whole r last c atoms a (s, contents, others, fo, is, inner, at_last) =
      ap (λ (b : Bool). (head_seen e last tag || b) || seen_open_item e tag (item_count items) more) (seen_items_are e tag 0 items a.1)
      ∙ ap (λ (b : Bool). (head_seen e last tag || found_in_items e tag 0 items) || b) (open_item_seen e more tag (item_count items) others a.2 at_last)
      ∙ or_open (acts (fate e tag)) (makes (is_between last tag) (element_of e)) (found_in_items e tag 0 items) (found_open_item e tag (item_count items) more)
  open_seen e (open_fragments tag vr values more) whole r last c atoms a shown = refl

  open_item_seen : (e : Edit) (o : OpenItem) (tag : Tag) (n : ℕ) (atoms : List Atom) → OpenItemAscends o → ShowsOpenItem o atoms → seen_open_item e tag n o ≡ found_open_item e tag n o
  open_item_seen e no_open_item tag n atoms a shown = refl
  open_item_seen e (open_item declared set) tag n atoms a (contents, is, still, more) =
      or_group (erases e tag n) (has_place (element_of (within e tag n))) (seen_front (within e tag n) set)
      ∙ ap (λ (b : Bool). erases e tag n || b) (front_seen (within e tag n) set contents a more)

-- the law, of the steps without bounds
pub edit_unbounded : (es : List Edit) (f : Front) (atoms : List Atom) → AreApart es → ArePublic es → HaveValues es → FrontAscends f → Shows f atoms
    → Shows (reached_anew (edited es f)) (out (begun es) atoms) × ((fold next_unbounded (begun es) atoms).found ≡ map (λ e. found e f) es)
edit_unbounded es f atoms p b h a shown = (
  edit_passes es f atoms p b h a shown,
  found_front f es [] 0 (map (λ e. has_place (element_of e)) es) atoms shown ∙ all_seen es,
)
  where
    all_seen : (es : List Edit) → either (map (λ e. has_place (element_of e)) es) (map (λ e. seen_front e f) es) ≡ map (λ e. found e f) es
    all_seen [] = refl
    all_seen (e ∷ es) = bits_alike _ _ _ _ (front_seen e f atoms a shown) (all_seen es)
