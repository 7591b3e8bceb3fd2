-- A data set as far as it was read, as all edits at once leave it, in the order of its elements.
use Rattle.std.proofs.Common.{◌≡◌, List, [], ◌∷◌, Option, Some, None, Bool, true, false, not, ◌||◌, ◌&&◌, refl, sym, ◌∙◌, ap}
use Rattle.std.specs.Prelude.{if◌then◌else◌}
use Rattle.dcm_lemmas.proofs.Choice.{if_true}
use Rattle.dcm_lemmas.proofs.Truth.{and_second_false, or_false}
use Rattle.dcm_base.specs.declared.tag.Tag.{Tag}
use Rattle.dcm_base.specs.Tree.Tree.{Trees, no_tree, leaf, sequence, fragments, then_trees}
use Rattle.dcm_base.specs.Tree.Front.{Front, front, OpenTree, nothing_open, open_leaf, open_sequence, open_fragments}
use Rattle.dcm_base.specs.Tables.Tag.{same_tag, below}
use Rattle.dcm_edits.specs.NewOnes.{above_last, put_at, put_new, puts, is_between}
use Rattle.dcm_edits.specs.Edit.{Edit, Fate, stays, becomes, goes, has, put, NewElement, no_element, new_leaf, new_sequence, before, element_of, with_new_so_far, made_whole, while_it_stays, has_open, is_passed}
use Rattle.dcm_edits.specs.Together.{completed, first_fate, all_changed, all_open_made_whole, all_still_open, together, with_all_missing_so_far}
use Rattle.dcm_edits.specs.Overlap.{AreApart, ArePublic}
use Rattle.dcm_base.specs.Lines.Ascending.{Ascend, ReachedLast, OpenAscends}
use Rattle.dcm_base.proofs.Dictionaries.TagOrder.{below_other_way}
use Rattle.dcm_edits.proofs.Trees.Laws.{then_trees-none}
use Rattle.dcm_base.specs.Bytes.Spelling.{last_tag, reached_tag}
use Rattle.dcm_base.specs.Steps.Atoms.{is_closed}
use Rattle.dcm_base.specs.Steps.Anew.{reached_anew}
use Rattle.dcm_edits.proofs.Trees.NewOnes.{below_not_back, has_more, off, and_all}
use Rattle.dcm_edits.proofs.Trees.Kept.{kept, puts_alike, puts_none, kept_within, followed_twice, under_all, under_tag, under_last}

-- ---- which new ones pass

abbrev pub passes : OpenTree → Option Tag → Bool → Tag → Bool
passes o r c t = not (has_open t o) && is_passed t r c

if_flip : (h o p : Bool) (a b : Trees) (ot : OpenTree) (r : Option Tag) (c : Bool)
    → (if h || o || not p then front a ot r c else front b ot r c) ≡ front (if (not o && p) && not h then b else a) ot r c
if_flip true true true a b ot r c = refl
if_flip true true false a b ot r c = refl
if_flip true false true a b ot r c = refl
if_flip true false false a b ot r c = refl
if_flip false true true a b ot r c = refl
if_flip false true false a b ot r c = refl
if_flip false false true a b ot r c = refl
if_flip false false false a b ot r c = refl

missing_if : (w : NewElement) (whole : Trees) (o : OpenTree) (r : Option Tag) (c : Bool) → with_new_so_far w (front whole o r c) ≡ front (put_new (passes o r c) w whole) o r c
missing_if no_element whole o r c = refl
missing_if (new_leaf t v new) whole o r c = if_flip (has t whole) (has_open t o) (is_passed t r c) whole (put t (new_leaf t v new) whole) o r c
missing_if (new_sequence t held) whole o r c = if_flip (has t whole) (has_open t o) (is_passed t r c) whole (put t (new_sequence t held) whole) o r c

pub all_missing_if : (es : List Edit) (whole : Trees) (o : OpenTree) (r : Option Tag) (c : Bool) → with_all_missing_so_far es (front whole o r c) ≡ front (puts (passes o r c) es whole) o r c
all_missing_if [] whole o r c = refl
all_missing_if (e ∷ es) whole o r c =
    let w : NewElement = completed es (element_of e) in
    ap (λ (f : Front). with_all_missing_so_far es f) (missing_if w whole o r c) ∙ all_missing_if es (put_new (passes o r c) w whole) o r c

pub closed_same : (es : List Edit) (f : Front) → is_closed (reached_anew (together es f)) ≡ is_closed f
closed_same es (front whole o r c) =
    ap (λ (g : Front). is_closed (reached_anew g))
    (all_missing_if es (then_trees (all_changed es whole) (all_open_made_whole es o)) (all_still_open es o) r c)

-- ---- new ones before an element that is open

low_put : (u : Tag) (t : Tag) (w : NewElement) (a m : Trees) → (below t u ≡ true → has t m ≡ false) → (below t u ≡ true → put t w m ≡ before w m)
    → put_at (λ g. below g u) t w (then_trees a m) ≡ then_trees (put_at (λ g. below g u) t w a) m
low_put u t w a m h p = by_test (below t u) refl
  where
    by_test : (b : Bool) → below t u ≡ b → put_at (λ g. below g u) t w (then_trees a m) ≡ then_trees (put_at (λ g. below g u) t w a) m
    by_test true e = has_more (λ g. below g u) t w a m (h e) (p e)
    by_test false e = off (λ g. below g u) t w (then_trees a m) e ∙ ap (λ (y : Trees). then_trees y m) (sym (off (λ g. below g u) t w a e))

abbrev pub IsHigh : Tag → Trees → Type 0
IsHigh u m = ((t : Tag) → below t u ≡ true → has t m ≡ false) × ((t : Tag) (w : NewElement) → below t u ≡ true → put t w m ≡ before w m)

low_puts : (u : Tag) (es : List Edit) (a m : Trees) → IsHigh u m → puts (λ g. below g u) es (then_trees a m) ≡ then_trees (puts (λ g. below g u) es a) m
low_puts u [] a m h = refl
low_puts u (e ∷ es) a m h =
    let w : NewElement = completed es (element_of e) in
    ap (λ (y : Trees). puts (λ g. below g u) es y) (one w) ∙ low_puts u es (put_new (λ g. below g u) w a) m h
  where
    one : (w : NewElement) → put_new (λ g. below g u) w (then_trees a m) ≡ then_trees (put_new (λ g. below g u) w a) m
    one no_element = refl
    one (new_leaf t v new) = low_put u t (new_leaf t v new) a m (h.0 t) (h.1 t (new_leaf t v new))
    one (new_sequence t held) = low_put u t (new_sequence t held) a m (h.0 t) (h.1 t (new_sequence t held))

or_both_false : (a : Bool) → a ≡ false → (a || false) ≡ false
or_both_false a p = cc

made_high : (f : Fate) (u : Tag) → IsHigh u (made_whole f u)
made_high stays u = ((λ t p. refl), (λ t w p. refl))
made_high (becomes vr value) u = ((λ t p. or_both_false (same_tag t u) (below_other_way t u p)), (λ t w p. if_true (below t u) _ _ p))
made_high goes u = ((λ t p. refl), (λ t w p. refl))

-- ---- what follows the whole elements

abbrev pub tail_by : List Edit → Option Tag → Tag → Trees
tail_by es last tag = then_trees (puts (is_between last tag) es no_tree) (made_whole (first_fate es tag) tag)

abbrev pub tail : List Edit → Option Tag → OpenTree → Bool → Trees
tail es last nothing_open false = no_tree
tail es last nothing_open true = puts (above_last last) es no_tree
tail es last (open_leaf tag vr size value) c = tail_by es last tag
tail es last (open_sequence tag vr declared items more) c = tail_by es last tag
tail es last (open_fragments tag vr values more) c = tail_by es last tag

pub passed_closed : (t : Tag) (r : Option Tag) → is_passed t r true ≡ true
passed_closed t None = refl
passed_closed t (Some u) = or_true (below t u)
  where
    or_true : (b : Bool) → (b || true) ≡ true
    or_true true = refl
    or_true false = refl

closed_tail : (es : List Edit) (whole : Trees) (r : Option Tag) → AreApart es → ArePublic es → Ascend None whole
    → puts (λ t. is_passed t r true) es (then_trees (all_changed es whole) no_tree) ≡ then_trees (kept es None whole) (puts (above_last (last_tag None whole)) es no_tree)
closed_tail es whole r o n a =
    ap (λ (y : Trees). puts (λ t. is_passed t r true) es y) (then_trees-none (all_changed es whole))
    ∙ puts_alike (λ t. is_passed t r true) (λ t. true) es (all_changed es whole) (λ t. passed_closed t r)
    ∙ kept_within es (λ t. true) None whole o n a (under_all whole)
    ∙ ap (λ (y : Trees). then_trees (kept es None whole) y)
    (puts_alike (λ t. above_last (last_tag None whole) t && true) (above_last (last_tag None whole)) es no_tree (λ t. and_all (above_last (last_tag None whole) t) true refl))

pub last_some : (t : Tag) (rest : Trees) → last_tag (Some t) rest ≡ None → ⊥
unfolding last_tag
last_some t no_tree e = cc
last_some t (leaf tag vr value rest) e = last_some tag rest e
last_some t (sequence tag vr declared items rest) e = last_some tag rest e
last_some t (fragments tag vr values rest) e = last_some tag rest e

none_kept : (es : List Edit) (whole : Trees) → last_tag None whole ≡ None → all_changed es whole ≡ kept es None whole
unfolding last_tag
none_kept es no_tree e = refl
none_kept es (leaf tag vr value rest) e = absurd (last_some tag rest e)
none_kept es (sequence tag vr declared items rest) e = absurd (last_some tag rest e)
none_kept es (fragments tag vr values rest) e = absurd (last_some tag rest e)

not_between : (t u : Tag) → (below u t && below t u) ≡ false
not_between t u = by_test (below u t) refl
  where
    by_test : (b : Bool) → below u t ≡ b → (below u t && below t u) ≡ false
    by_test true e = and_second_false (below u t) (below t u) (below_not_back u t e)
    by_test false e = rw e refl

unfinished_by : (es : List Edit) (whole : Trees) (r : Option Tag) → last_tag None whole ≡ r → AreApart es → ArePublic es → Ascend None whole
    → puts (λ t. is_passed t r false) es (all_changed es whole) ≡ kept es None whole
unfinished_by es whole None e o n a = puts_none (λ t. false) es (all_changed es whole) (λ t. refl) ∙ none_kept es whole e
unfinished_by es whole (Some u) e o n a =
    puts_alike (λ t. is_passed t (Some u) false) (λ t. below t u) es (all_changed es whole) (λ t. or_false (below t u))
    ∙ kept_within es (λ t. below t u) None whole o n a (under_last None u whole a e)
    ∙ ap (λ (y : Trees). then_trees (kept es None whole) y)
    (puts_none (λ t. above_last (last_tag None whole) t && below t u) es no_tree (λ t. ap (λ (l : Option Tag). above_last l t && below t u) e ∙ not_between t u))
    ∙ then_trees-none (kept es None whole)

unfinished_tail : (es : List Edit) (whole : Trees) (r : Option Tag) → r ≡ last_tag None whole → AreApart es → ArePublic es → Ascend None whole
    → puts (λ t. is_passed t r false) es (then_trees (all_changed es whole) no_tree) ≡ then_trees (kept es None whole) no_tree
unfinished_tail es whole r e o n a =
    ap (λ (y : Trees). puts (λ t. is_passed t r false) es y) (then_trees-none (all_changed es whole))
    ∙ unfinished_by es whole r (sym e) o n a ∙ sym (then_trees-none (kept es None whole))

-- ---- an open element

abbrev pub NotLow : Tag → OpenTree → Type 0
NotLow u o = (t : Tag) → below t u ≡ true → has_open t o ≡ false

open_passes : (o : OpenTree) (tag : Tag) (whole : Trees) (r : Option Tag) (c : Bool) (t : Tag) → NotLow tag o → ReachedLast tag whole r c → passes o r c t ≡ below t tag
open_passes o tag whole r c t h l =
    ap (λ (x : Option Tag). not (has_open t o) && is_passed t x c) l.last
    ∙ ap (λ (x : Bool). not (has_open t o) && is_passed t (Some tag) x) l.unfinished
    ∙ by_test (below t tag) refl
  where
    by_test : (b : Bool) → below t tag ≡ b → (not (has_open t o) && (below t tag || false)) ≡ below t tag
    by_test true e = let f : has_open t o ≡ false = h t e in rw (f, e) refl
    by_test false e = and_second_false (not (has_open t o)) (below t tag || false) (or_both_false (below t tag) e) ∙ sym e

open_tail : (es : List Edit) (o : OpenTree) (tag : Tag) (whole : Trees) (r : Option Tag) (c : Bool) → AreApart es → ArePublic es → Ascend None whole → ReachedLast tag whole r c → NotLow tag o
    → puts (passes o r c) es (then_trees (all_changed es whole) (made_whole (first_fate es tag) tag)) ≡ then_trees (kept es None whole) (tail_by es (last_tag None whole) tag)
open_tail es o tag whole r c ap' pb a l h =
    puts_alike (passes o r c) (λ t. below t tag) es (then_trees (all_changed es whole) (made_whole (first_fate es tag) tag)) (λ t. open_passes o tag whole r c t h l)
    ∙ low_puts tag es (all_changed es whole) (made_whole (first_fate es tag) tag) (made_high (first_fate es tag) tag)
    ∙ ap (λ (y : Trees). then_trees y (made_whole (first_fate es tag) tag)) (kept_within es (λ t. below t tag) None whole ap' pb a (under_tag tag whole l.above))
    ∙ sym (followed_twice (kept es None whole) (puts (is_between (last_tag None whole) tag) es no_tree) (made_whole (first_fate es tag) tag))

-- what an open element becomes
still_not_low : (f : Fate) (tag : Tag) (o : OpenTree) → NotLow tag o → NotLow tag (while_it_stays f o)
still_not_low stays tag o h = h
still_not_low (becomes w value) tag o h = λ t p. refl
still_not_low goes tag o h = λ t p. refl

-- a data set as far as it was read, in the order of its elements
pub together_is : (es : List Edit) (whole : Trees) (o : OpenTree) (r : Option Tag) (c : Bool) → AreApart es → ArePublic es → Ascend None whole → OpenAscends whole r c o → r ≡ reached_tag whole o
    → together es (front whole o r c) ≡ front (then_trees (kept es None whole) (tail es (last_tag None whole) o c)) (all_still_open es o) r c
together_is es whole nothing_open r true ap' pb a l e =
    all_missing_if es (then_trees (all_changed es whole) no_tree) nothing_open r true
    ∙ ap (λ (y : Trees). front y nothing_open r true) (closed_tail es whole r ap' pb a)
together_is es whole nothing_open r false ap' pb a l e =
    all_missing_if es (then_trees (all_changed es whole) no_tree) nothing_open r false
    ∙ ap (λ (y : Trees). front y nothing_open r false) (unfinished_tail es whole r e ap' pb a)
together_is es whole (open_leaf tag vr size value) r c ap' pb a l e =
    let o : OpenTree = while_it_stays (first_fate es tag) (open_leaf tag vr size value) in
    all_missing_if es (then_trees (all_changed es whole) (made_whole (first_fate es tag) tag)) o r c
    ∙ ap (λ (y : Trees). front y o r c)
    (open_tail es o tag whole r c ap' pb a l (still_not_low (first_fate es tag) tag (open_leaf tag vr size value) (λ t p. below_other_way t tag p)))
together_is es whole (open_sequence tag vr declared items more) r c ap' pb a l e =
    let o : OpenTree = all_still_open es (open_sequence tag vr declared items more) in
    all_missing_if es (then_trees (all_changed es whole) (made_whole (first_fate es tag) tag)) o r c
    ∙ ap (λ (y : Trees). front y o r c)
    (open_tail es o tag whole r c ap' pb a l.0 (still_not_low (first_fate es tag) tag _ (λ t p. below_other_way t tag p)))
together_is es whole (open_fragments tag vr values more) r c ap' pb a l e =
    let o : OpenTree = while_it_stays (first_fate es tag) (open_fragments tag vr values more) in
    all_missing_if es (then_trees (all_changed es whole) (made_whole (first_fate es tag) tag)) o r c
    ∙ ap (λ (y : Trees). front y o r c)
    (open_tail es o tag whole r c ap' pb a l (still_not_low (first_fate es tag) tag (open_fragments tag vr values more) (λ t p. below_other_way t tag p)))
