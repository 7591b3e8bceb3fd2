-- What the first edit and the others do to a data set as far as it was read.
use Rattle.std.proofs.Common.{◌≡◌, ℕ, suc, List, [], ◌∷◌, Option, Some, None, Bool, true, false, not, ◌||◌, refl, sym, ◌∙◌, ap, subst, inl, inr}
use Rattle.std.specs.Prelude.{if◌then◌else◌}
use Rattle.dcm_lemmas.proofs.Truth.{not_false, or_alike, or_false, or_first_false, or_group, or_second_false}
use Rattle.dcm_base.specs.declared.tag.Tag.{Tag}
use Rattle.dcm_base.specs.declared.length.Length.{Length}
use Rattle.dcm_base.specs.Tree.Tree.{Trees, no_tree, leaf, sequence, fragments, Items, no_item, item, then_trees, item_count}
use Rattle.dcm_base.specs.Tree.Front.{Front, front, OpenTree, nothing_open, open_leaf, open_sequence, open_fragments, OpenItem, no_open_item, open_item}
use Rattle.dcm_base.specs.Tables.Tag.{same_tag, below, is_above}
use Rattle.dcm_edits.specs.Edit.{NewElement, no_element, new_leaf, new_sequence, before, element_of, with_new_so_far, with_tag, Edit, Fate, stays, becomes, goes, fate, settled, erases, has, has_open, put, is_passed, made_whole, while_it_stays}
use Rattle.dcm_edits.specs.Together.{completed, or_else, first_fate, any_erases, all_within, with_all_missing, with_all_missing_so_far, all_changed, all_changed_items, together, all_still_open, all_open_item, all_open_made_whole}
use Rattle.dcm_edits.specs.Overlap.{ApartFrom, is_public}
use Rattle.dcm_base.specs.Lines.Ascending.{Ascend, AllBelow, ReachedLast, FrontAscends, OpenAscends}
use Rattle.dcm_edits.proofs.Trees.Laws.{chosen, Ascend-put, Leads, NewAscends, then_trees-none, front_alike}
use Rattle.dcm_edits.proofs.Overlapping.Places.{IfBecomes, quiet_all_after, CountsAlike, AreBlind}
use Rattle.dcm_edits.proofs.Trees.OneByOne.{Ascend-all_changed, all_changed-put, has-all_changed, Turns, Turns-new, Quiet, NewAscends-element_of, NewAscends-completed, quiet_there}

-- every element but the missing ones
abbrev pub touched : List Edit → Front → Front
touched es (front whole open_tree reached closed) =
    front (then_trees (all_changed es whole) (all_open_made_whole es open_tree)) (all_still_open es open_tree) reached closed

pub together-touched : (es : List Edit) (f : Front) → together es f ≡ with_all_missing_so_far es (touched es f)
together-touched es (front whole open_tree reached closed) = refl

-- trees that follow others
pub then_trees-assoc : (a b c : Trees) → then_trees (then_trees a b) c ≡ then_trees a (then_trees b c)
then_trees-assoc no_tree b c = refl
then_trees-assoc (leaf tag vr value rest) b c = ap (λ (r : Trees). leaf tag vr value r) (then_trees-assoc rest b c)
then_trees-assoc (sequence tag vr declared items rest) b c = ap (λ (r : Trees). sequence tag vr declared items r) (then_trees-assoc rest b c)
then_trees-assoc (fragments tag vr values rest) b c = ap (λ (r : Trees). fragments tag vr values r) (then_trees-assoc rest b c)

pub settled-then_trees : (f : Fate) (tag : Tag) (k : Trees → Trees) (r s b : Trees) → then_trees (k r) b ≡ k (then_trees r b) → s ≡ then_trees r b
    → settled f tag k s ≡ then_trees (settled f tag k r) b
settled-then_trees stays tag k r s b p e = ap k e ∙ sym p
settled-then_trees (becomes vr value) tag k r s b p e = ap (λ (x : Trees). leaf tag vr value x) e
settled-then_trees goes tag k r s b p e = e

pub all_changed-then_trees : (es : List Edit) (a b : Trees) → all_changed es (then_trees a b) ≡ then_trees (all_changed es a) (all_changed es b)
all_changed-then_trees es no_tree b = refl
all_changed-then_trees es (leaf tag vr value rest) b =
    settled-then_trees (first_fate es tag) tag (leaf tag vr value) _ _ _ refl (all_changed-then_trees es rest b)
all_changed-then_trees es (sequence tag vr declared items rest) b =
    settled-then_trees (first_fate es tag) tag (sequence tag vr declared (all_changed_items es tag 0 items)) _ _ _ refl (all_changed-then_trees es rest b)
all_changed-then_trees es (fragments tag vr values rest) b =
    settled-then_trees (first_fate es tag) tag (fragments tag vr values) _ _ _ refl (all_changed-then_trees es rest b)

pub has-then_trees : (t : Tag) (a b : Trees) → has t (then_trees a b) ≡ (has t a || has t b)
has-then_trees t no_tree b = refl
has-then_trees t (leaf tag vr value rest) b = or_more (same_tag t tag) _ _ _ (has-then_trees t rest b)
  where
    or_more : (x y z w : Bool) → y ≡ (z || w) → (x || y) ≡ ((x || z) || w)
    or_more true y z w p = refl
    or_more false y z w p = p
has-then_trees t (sequence tag vr declared items rest) b = or_more (same_tag t tag) _ _ _ (has-then_trees t rest b)
  where
    or_more : (x y z w : Bool) → y ≡ (z || w) → (x || y) ≡ ((x || z) || w)
    or_more true y z w p = refl
    or_more false y z w p = p
has-then_trees t (fragments tag vr values rest) b = or_more (same_tag t tag) _ _ _ (has-then_trees t rest b)
  where
    or_more : (x y z w : Bool) → y ≡ (z || w) → (x || y) ≡ ((x || z) || w)
    or_more true y z w p = refl
    or_more false y z w p = p

-- the open element, by the first edit and then by the others
pub made_step : (es : List Edit) (f : Fate) (tag : Tag) (o : OpenTree) → all_open_made_whole es o ≡ made_whole (first_fate es tag) tag
    → IfBecomes f (first_fate es tag ≡ stays)
    → then_trees (all_changed es (made_whole (or_else f stays) tag)) (all_open_made_whole es (while_it_stays (or_else f stays) o))
    ≡ made_whole (or_else f (first_fate es tag)) tag
made_step es stays tag o p q = p
made_step es (becomes vr value) tag o p q =
    ap (λ (g : Fate). then_trees (settled g tag (leaf tag vr value) no_tree) no_tree) q
made_step es goes tag o p q = refl

pub all_open_made_whole-after : (e : Edit) (es : List Edit) (o : OpenTree) → ApartFrom e es → is_public e ≡ true
    → then_trees (all_changed es (all_open_made_whole (e ∷ []) o)) (all_open_made_whole es (all_still_open (e ∷ []) o)) ≡ all_open_made_whole (e ∷ es) o
all_open_made_whole-after e es nothing_open a n = refl
all_open_made_whole-after e es (open_leaf tag vr size value) a n =
    made_step es (fate e tag) tag (open_leaf tag vr size value) refl (quiet_all_after e es tag a n)
all_open_made_whole-after e es (open_sequence tag vr declared items last) a n =
    made_step es (fate e tag) tag
    (open_sequence tag vr declared (all_changed_items (e ∷ []) tag 0 items) (all_open_item (e ∷ []) tag (item_count items) last))
    refl (quiet_all_after e es tag a n)
all_open_made_whole-after e es (open_fragments tag vr values last) a n =
    made_step es (fate e tag) tag (open_fragments tag vr values last) refl (quiet_all_after e es tag a n)

pub still_step : (es : List Edit) (f : Fate) (tag : Tag) (o p : OpenTree) → all_still_open es o ≡ while_it_stays (first_fate es tag) p
    → all_still_open es (while_it_stays (or_else f stays) o) ≡ while_it_stays (or_else f (first_fate es tag)) p
still_step es stays tag o p e = e
still_step es (becomes vr value) tag o p e = refl
still_step es goes tag o p e = refl

-- the number of an open item, where the first edit erases none before it or the others number none
pub count_kept : (e : Edit) (tag : Tag) (n : ℕ) (items : Items) → ((m : ℕ) → erases e tag m ≡ false) → item_count (all_changed_items (e ∷ []) tag n items) ≡ item_count items
count_kept e tag n no_item never = refl
count_kept e tag n (item declared set rest) never =
    ap (λ (b : Bool). item_count (if (b || false) then all_changed_items (e ∷ []) tag (suc n) rest
    else item declared (with_all_missing (all_within (e ∷ []) tag n) (all_changed (all_within (e ∷ []) tag n) set)) (all_changed_items (e ∷ []) tag (suc n) rest))) (never n)
    ∙ ap (λ (m : ℕ). suc m) (count_kept e tag (suc n) rest never)

pub all_open_item-blind : (es : List Edit) (tag : Tag) (m n : ℕ) (i : OpenItem) → AreBlind es tag → all_open_item es tag m i ≡ all_open_item es tag n i
all_open_item-blind es tag m n no_open_item b = refl
all_open_item-blind es tag m n (open_item declared set) b = item_alike _ _ _ _ (b.0 m n) (ap (λ (w : List Edit). open_item declared (together w set)) (b.1 m n))
  where
    item_alike : (b c : Bool) (x y : OpenItem) → b ≡ c → x ≡ y → (if b then no_open_item else x) ≡ (if c then no_open_item else y)
    item_alike b c x y p q = cc

pub same_number : (e : Edit) (es : List Edit) (tag : Tag) (items : Items) (i : OpenItem) → CountsAlike e es tag
    → all_open_item es tag (item_count (all_changed_items (e ∷ []) tag 0 items)) i ≡ all_open_item es tag (item_count items) i
same_number e es tag items i (inl never) = ap (λ (m : ℕ). all_open_item es tag m i) (count_kept e tag 0 items never)
same_number e es tag items i (inr blind) = all_open_item-blind es tag _ _ i blind

pub open_item_step : (es : List Edit) (tag : Tag) (n : ℕ) (b : Bool) (declared : Length) (f g : Front)
    → together (all_within es tag n) f ≡ g
    → all_open_item es tag n (if (b || false) then no_open_item else open_item declared f)
    ≡ (if (b || any_erases es tag n) then no_open_item else open_item declared g)
open_item_step es tag n true declared f g e = refl
open_item_step es tag n false declared f g e = ap (λ (x : Front). if any_erases es tag n then no_open_item else open_item declared x) e

-- what is there of the tag is there before and after
pub has-made : (t tag : Tag) (f : Fate) (o : OpenTree) → has_open t o ≡ same_tag t tag → (same_tag t tag ≡ true → f ≡ stays)
    → (has t (made_whole f tag) || has_open t (while_it_stays f o)) ≡ same_tag t tag
has-made t tag stays o p h = p
has-made t tag (becomes vr value) o p h = or_false _ ∙ or_false _
has-made t tag goes o p h = go (same_tag t tag) refl
  where
    go : (b : Bool) → same_tag t tag ≡ b → false ≡ same_tag t tag
    go true q = absurd (let c : goes ≡ stays = h q in (cc))
    go false q = sym q

pub has-open : (es : List Edit) (t : Tag) (o : OpenTree) → first_fate es t ≡ stays
    → (has t (all_open_made_whole es o) || has_open t (all_still_open es o)) ≡ has_open t o
has-open es t nothing_open p = refl
has-open es t (open_leaf tag vr size value) p = has-made t tag (first_fate es tag) (open_leaf tag vr size value) refl (quiet_there es t tag p)
has-open es t (open_sequence tag vr declared items last) p =
    has-made t tag (first_fate es tag) (open_sequence tag vr declared (all_changed_items es tag 0 items) (all_open_item es tag (item_count items) last)) refl (quiet_there es t tag p)
has-open es t (open_fragments tag vr values last) p = has-made t tag (first_fate es tag) (open_fragments tag vr values last) refl (quiet_there es t tag p)

pub has-touched : (es : List Edit) (t : Tag) (whole : Trees) (o : OpenTree) → first_fate es t ≡ stays
    → (has t (then_trees (all_changed es whole) (all_open_made_whole es o)) || has_open t (all_still_open es o)) ≡ (has t whole || has_open t o)
has-touched es t whole o p =
    or_alike _ _ _ _ (has-then_trees t (all_changed es whole) (all_open_made_whole es o)) refl
    ∙ (or_group (has t (all_changed es whole)) (has t (all_open_made_whole es o)) (has_open t (all_still_open es o)) ∙ or_alike _ _ _ _ (has-all_changed es t whole p) (has-open es t o p))

-- a new element comes before the open one
pub followed_if : (c : Bool) (x y u w b : Trees) → x ≡ then_trees u b → y ≡ then_trees w b → (if c then x else y) ≡ then_trees (if c then u else w) b
followed_if true x y u w b p q = p
followed_if false x y u w b p q = q

pub before-then_trees : (x : NewElement) (r b : Trees) → before x (then_trees r b) ≡ then_trees (before x r) b
before-then_trees no_element r b = refl
before-then_trees (new_leaf tag vr value) r b = refl
before-then_trees (new_sequence tag held) r b = refl

pub put-then_trees : (t : Tag) (x : NewElement) (a b : Trees) → put t x b ≡ before x b → put t x (then_trees a b) ≡ then_trees (put t x a) b
put-then_trees t x no_tree b p = p ∙ before-then_trees x no_tree b
put-then_trees t x (leaf tag vr value rest) b p =
    followed_if (below t tag) _ _ (before x (leaf tag vr value rest)) (leaf tag vr value (put t x rest)) b (before-then_trees x _ b)
    (ap (λ (y : Trees). leaf tag vr value y) (put-then_trees t x rest b p))
put-then_trees t x (sequence tag vr declared items rest) b p =
    followed_if (below t tag) _ _ (before x (sequence tag vr declared items rest)) (sequence tag vr declared items (put t x rest)) b (before-then_trees x _ b)
    (ap (λ (y : Trees). sequence tag vr declared items y) (put-then_trees t x rest b p))
put-then_trees t x (fragments tag vr values rest) b p =
    followed_if (below t tag) _ _ (before x (fragments tag vr values rest)) (fragments tag vr values (put t x rest)) b (before-then_trees x _ b)
    (ap (λ (y : Trees). fragments tag vr values y) (put-then_trees t x rest b p))

pub made-put : (t tag : Tag) (x : NewElement) (f : Fate) → below t tag ≡ true → put t x (made_whole f tag) ≡ before x (made_whole f tag)
made-put t tag x stays p = refl
made-put t tag x (becomes vr value) p = ap (λ (b : Bool). if b then before x (leaf tag vr value no_tree) else leaf tag vr value (before x no_tree)) p
made-put t tag x goes p = refl

pub passed_open : (t tag : Tag) (whole : Trees) (reached : Option Tag) (closed : Bool) → ReachedLast tag whole reached closed → is_passed t reached closed ≡ true
    → below t tag ≡ true
passed_open t tag whole reached closed r p =
    let P : Option Tag → Type 0 = λ o. is_passed t o closed ≡ true in
    let q : (below t tag || closed) ≡ true = subst P r.last p in
    let Q : Bool → Type 0 = λ c. (below t tag || c) ≡ true in
    sym (or_false (below t tag)) ∙ subst Q r.unfinished q

pub open-put : (es : List Edit) (t : Tag) (x : NewElement) (whole : Trees) (reached : Option Tag) (closed : Bool) (o : OpenTree)
    → OpenAscends whole reached closed o → is_passed t reached closed ≡ true
    → put t x (all_open_made_whole es o) ≡ before x (all_open_made_whole es o)
open-put es t x whole reached closed nothing_open a p = refl
open-put es t x whole reached closed (open_leaf tag vr size value) a p =
    made-put t tag x (first_fate es tag) (passed_open t tag whole reached closed a p)
open-put es t x whole reached closed (open_sequence tag vr declared items last) a p =
    made-put t tag x (first_fate es tag) (passed_open t tag whole reached closed a.0 p)
open-put es t x whole reached closed (open_fragments tag vr values last) a p =
    made-put t tag x (first_fate es tag) (passed_open t tag whole reached closed a p)

-- the choice at a test, on both sides of an equation
pub chosen_both : {A : Type 0} (b c : Bool) (x y : A) (F : A → Front) (u w : Front) → b ≡ c → (b ≡ true → F x ≡ u) → (b ≡ false → F y ≡ w)
    → F (if b then x else y) ≡ (if c then u else w)
chosen_both true true x y F u w e p q = p refl
chosen_both true false x y F u w e p q = cc
chosen_both false true x y F u w e p q = cc
chosen_both false false x y F u w e p q = q refl

pub touched-with_tag : (es : List Edit) (tag : Tag) (x y : NewElement) (f : Front) → first_fate es tag ≡ stays → Turns es x y → FrontAscends f
    → touched es (with_tag tag x f) ≡ with_tag tag y (touched es f)
touched-with_tag es tag x y (front whole o reached closed) q u a =
    chosen_both (has tag whole || has_open tag o || not (is_passed tag reached closed)) _ _ _ (touched es) _ _
    (ap (λ (b : Bool). b || not (is_passed tag reached closed)) (sym (has-touched es tag whole o q)))
    (λ p. refl)
    (λ p. let passed : is_passed tag reached closed ≡ true = not_false _ (or_second_false (has tag whole || has_open tag o) _ p) in
    front_alike _ _ _ _ reached closed
    (ap (λ (t : Trees). then_trees t (all_open_made_whole es o)) (all_changed-put None es tag x y whole u a.0)
    ∙ sym (put-then_trees tag y (all_changed es whole) (all_open_made_whole es o) (open-put es tag y whole reached closed o a.1 passed)))
    refl)

pub touched-with_new : (es : List Edit) (x : NewElement) (f : Front) → Quiet es x → FrontAscends f
    → touched es (with_new_so_far x f) ≡ with_new_so_far (completed es x) (touched es f)
touched-with_new es no_element f q a = refl
touched-with_new es (new_leaf tag vr value) f q a = touched-with_tag es tag (new_leaf tag vr value) (new_leaf tag vr value) f q (Turns-new es (new_leaf tag vr value) q) a
touched-with_new es (new_sequence tag held) f q a = touched-with_tag es tag (new_sequence tag held) (completed es (new_sequence tag held)) f q.0 (Turns-new es (new_sequence tag held) q) a

-- all that ascends goes on to ascend
pub AllBelow-settled : (t : Tag) (f : Fate) (tag : Tag) (k : Trees → Trees) (r : Trees) → below tag t ≡ true → AllBelow t r → AllBelow t (k r) → AllBelow t (settled f tag k r)
AllBelow-settled t stays tag k r p a b = b
AllBelow-settled t (becomes vr value) tag k r p a b = (p, a)
AllBelow-settled t goes tag k r p a b = a

pub AllBelow-all_changed : (t : Tag) (es : List Edit) (set : Trees) → AllBelow t set → AllBelow t (all_changed es set)
AllBelow-all_changed t es no_tree a = tt
AllBelow-all_changed t es (leaf tag vr value rest) a =
    let more : AllBelow t (all_changed es rest) = AllBelow-all_changed t es rest a.1 in
    AllBelow-settled t (first_fate es tag) tag _ _ a.0 more (a.0, more)
AllBelow-all_changed t es (sequence tag vr declared items rest) a =
    let more : AllBelow t (all_changed es rest) = AllBelow-all_changed t es rest a.1 in
    AllBelow-settled t (first_fate es tag) tag _ _ a.0 more (a.0, more)
AllBelow-all_changed t es (fragments tag vr values rest) a =
    let more : AllBelow t (all_changed es rest) = AllBelow-all_changed t es rest a.1 in
    AllBelow-settled t (first_fate es tag) tag _ _ a.0 more (a.0, more)

pub AllBelow-put : (t u : Tag) (x : NewElement) (set : Trees) → ((rest : Trees) → AllBelow t rest → AllBelow t (before x rest)) → AllBelow t set → AllBelow t (put u x set)
AllBelow-put t u x no_tree p a = p no_tree tt
AllBelow-put t u x (leaf tag vr value rest) p a =
    chosen (AllBelow t) (below u tag) _ _ (λ q. p _ (a.0, a.1)) (λ q. (a.0, AllBelow-put t u x rest p a.1))
AllBelow-put t u x (sequence tag vr declared items rest) p a =
    chosen (AllBelow t) (below u tag) _ _ (λ q. p _ (a.0, a.1)) (λ q. (a.0, AllBelow-put t u x rest p a.1))
AllBelow-put t u x (fragments tag vr values rest) p a =
    chosen (AllBelow t) (below u tag) _ _ (λ q. p _ (a.0, a.1)) (λ q. (a.0, AllBelow-put t u x rest p a.1))

-- a leaf behind trees that are all below it
pub Ascend-made : (last : Option Tag) (whole : Trees) (f : Fate) (tag : Tag) → Ascend last whole → AllBelow tag whole → is_above tag last ≡ true
    → Ascend last (then_trees whole (made_whole f tag))
Ascend-made last no_tree stays tag a b p = tt
Ascend-made last no_tree (becomes vr value) tag a b p = (p, tt)
Ascend-made last no_tree goes tag a b p = tt
Ascend-made last (leaf t vr value rest) f tag a b p = (a.0, Ascend-made (Some t) rest f tag a.1 b.1 b.0)
Ascend-made last (sequence t vr declared items rest) f tag a b p = (a.0, a.1, Ascend-made (Some t) rest f tag a.2 b.1 b.0)
Ascend-made last (fragments t vr values rest) f tag a b p = (a.0, Ascend-made (Some t) rest f tag a.1 b.1 b.0)

pub reached_still : (es : List Edit) (f : Fate) (tag : Tag) (whole : Trees) (reached : Option Tag) (closed : Bool) → ReachedLast tag whole reached closed
    → ReachedLast tag (then_trees (all_changed es whole) no_tree) reached closed
reached_still es f tag whole reached closed a =
    let below_it : AllBelow tag (all_changed es whole) = AllBelow-all_changed tag es whole a.above in
    record { above = rw (then_trees-none (all_changed es whole)) below_it; last = a.last; unfinished = a.unfinished }

pub Ascend-touched : (es : List Edit) (whole : Trees) (o : OpenTree) (reached : Option Tag) (closed : Bool) → Ascend None whole → OpenAscends whole reached closed o
    → Ascend None (then_trees (all_changed es whole) (all_open_made_whole es o))
Ascend-touched es whole nothing_open reached closed a b = rw (then_trees-none (all_changed es whole)) (Ascend-all_changed None es whole a)
Ascend-touched es whole (open_leaf tag vr size value) reached closed a b =
    Ascend-made None (all_changed es whole) (first_fate es tag) tag (Ascend-all_changed None es whole a) (AllBelow-all_changed tag es whole b.above) refl
Ascend-touched es whole (open_sequence tag vr declared items last) reached closed a b =
    Ascend-made None (all_changed es whole) (first_fate es tag) tag (Ascend-all_changed None es whole a) (AllBelow-all_changed tag es whole b.0.above) refl
Ascend-touched es whole (open_fragments tag vr values last) reached closed a b =
    Ascend-made None (all_changed es whole) (first_fate es tag) tag (Ascend-all_changed None es whole a) (AllBelow-all_changed tag es whole b.above) refl

-- how an element of the tag comes before what is below a greater tag
abbrev pub StaysBelow : Tag → NewElement → Type 0
StaysBelow t x = (u : Tag) (rest : Trees) → below t u ≡ true → AllBelow u rest → AllBelow u (before x rest)

pub reached_put : (t : Tag) (x : NewElement) (tag : Tag) (whole : Trees) (reached : Option Tag) (closed : Bool) → StaysBelow t x → is_passed t reached closed ≡ true
    → ReachedLast tag whole reached closed → ReachedLast tag (put t x whole) reached closed
reached_put t x tag whole reached closed s p a =
    record { above = AllBelow-put tag t x whole (λ r b. s tag r (passed_open t tag whole reached closed a p) b) a.above; last = a.last; unfinished = a.unfinished }

pub OpenAscends-put : (t : Tag) (x : NewElement) (whole : Trees) (reached : Option Tag) (closed : Bool) (o : OpenTree) → StaysBelow t x → is_passed t reached closed ≡ true
    → OpenAscends whole reached closed o → OpenAscends (put t x whole) reached closed o
OpenAscends-put t x whole reached closed nothing_open s p a = tt
OpenAscends-put t x whole reached closed (open_leaf tag vr size value) s p a = reached_put t x tag whole reached closed s p a
OpenAscends-put t x whole reached closed (open_sequence tag vr declared items last) s p a = (reached_put t x tag whole reached closed s p a.0, a.1, a.2)
OpenAscends-put t x whole reached closed (open_fragments tag vr values last) s p a = reached_put t x tag whole reached closed s p a

pub FrontAscends-with_tag : (tag : Tag) (x : NewElement) (f : Front) → Leads tag x → StaysBelow tag x → FrontAscends f → FrontAscends (with_tag tag x f)
FrontAscends-with_tag tag x (front whole o reached closed) l s a =
    chosen FrontAscends (has tag whole || has_open tag o || not (is_passed tag reached closed)) _ _ (λ p. a)
    (λ p. (
      Ascend-put None tag x whole l refl (or_first_false _ _ (or_first_false (has tag whole || has_open tag o) _ p)) a.0,
      OpenAscends-put tag x whole reached closed o s (not_false _ (or_second_false (has tag whole || has_open tag o) _ p)) a.1,
    ))

pub FrontAscends-with_new : (x : NewElement) (f : Front) → NewAscends x → FrontAscends f → FrontAscends (with_new_so_far x f)
FrontAscends-with_new no_element f n a = a
FrontAscends-with_new (new_leaf tag vr value) f n a = FrontAscends-with_tag tag (new_leaf tag vr value) f (λ l r p b. (p, b)) (λ u r p b. (p, b)) a
FrontAscends-with_new (new_sequence tag held) f n a = FrontAscends-with_tag tag (new_sequence tag held) f (λ l r p b. (p, (n, tt), b)) (λ u r p b. (p, b)) a

pub FrontAscends-with_all_missing : (es : List Edit) (f : Front) → FrontAscends f → FrontAscends (with_all_missing_so_far es f)
FrontAscends-with_all_missing [] f a = a
FrontAscends-with_all_missing (e ∷ es) f a =
    FrontAscends-with_all_missing es _ (FrontAscends-with_new (completed es (element_of e)) f (NewAscends-completed es (element_of e) (NewAscends-element_of e)) a)
