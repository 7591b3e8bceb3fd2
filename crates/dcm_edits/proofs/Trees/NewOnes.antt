-- New elements around the element of a tag.
use Rattle.std.proofs.Common.{◌≡◌, ℕ, zero, suc, List, [], ◌∷◌, Option, Some, Bool, true, false, not, ◌||◌, ◌&&◌, refl, sym, ◌∙◌, ap, arith, ◌⊎◌, inl, inr}
use Rattle.std.specs.Prelude.{if◌then◌else◌}
use Rattle.std.proofs.lemmas.Bool.Decides.{nat_tests}
use Rattle.dcm_edits.proofs.Overlapping.Places.{not_both}
use Rattle.dcm_lemmas.proofs.Choice.{chosen_false, if_false, if_true}
use Rattle.dcm_lemmas.proofs.Truth.{and_first, and_second, and_second_false, not_true, or_before_false, or_first, or_first_false, or_neither}
use Rattle.dcm_base.specs.declared.tag.Tag.{Tag}
use Rattle.dcm_base.specs.declared.vr.Vr.{Vr}
use Rattle.dcm_base.specs.declared.length.Length.{Length}
use Rattle.dcm_base.specs.Tree.Tree.{Trees, no_tree, leaf, sequence, fragments, Items, then_trees}
use Rattle.dcm_base.specs.Tables.Tag.{same_tag, below, is_private}
use Rattle.dcm_edits.specs.NewOnes.{above_last, put_at, put_new, puts, is_between}
use Rattle.dcm_edits.specs.Edit.{Index, number, every, PathEdit, step, insert, modify, erase, erase_item, Edit, on_path, modify_all, erase_all, erase_private, elsewhere, Fate, stays, becomes, goes, fate, settled, has, put, NewElement, no_element, new_leaf, new_sequence, before, around, new_element, element_of}
use Rattle.dcm_edits.specs.Together.{completed, or_else, first_fate}
use Rattle.dcm_edits.specs.Overlap.{overlaps, ApartFrom, AreApart, is_public, ArePublic}
use Rattle.dcm_base.specs.Lines.Ascending.{Ascend, AllBelow}
use Rattle.dcm_base.proofs.Dictionaries.TagOrder.{below_trans, below_other, below_other_way, tag_is, is_above_below}
use Rattle.dcm_edits.proofs.Trees.Laws.{chosen, Ascend-weaker, Ascend-put, NewAscends}
use Rattle.dcm_edits.proofs.Overlapping.Items.{quiet_all_step}
use Rattle.dcm_edits.proofs.Trees.OneByOne.{put-front, NewAscends-element_of, NewAscends-completed}
use Rattle.dcm_edits.proofs.Trees.FrontEdits.{put-then_trees, has-then_trees, followed_if, AllBelow-put}

-- what is above a tag does not have a lesser one
pub has-above : (t u : Tag) (set : Trees) → Ascend (Some u) set → below t u ≡ true → has t set ≡ false
has-above t u no_tree a p = refl
has-above t u (leaf tag vr value rest) a p =
    or_neither _ _ (below_other_way t tag (below_trans t u tag p a.0)) (has-above t tag rest a.1 (below_trans t u tag p a.0))
has-above t u (sequence tag vr declared items rest) a p =
    or_neither _ _ (below_other_way t tag (below_trans t u tag p a.0)) (has-above t tag rest a.2 (below_trans t u tag p a.0))
has-above t u (fragments tag vr values rest) a p =
    or_neither _ _ (below_other_way t tag (below_trans t u tag p a.0)) (has-above t tag rest a.1 (below_trans t u tag p a.0))

pub below_not_back : (t u : Tag) → below t u ≡ true → below u t ≡ false
below_not_back t u p = grind (arith, nat_tests)

pub same_above : (t u : Tag) → below u t ≡ true → same_tag t u ≡ false
same_above t u p = grind (arith, nat_tests)

pub same_not_below : (t u : Tag) → same_tag t u ≡ true → below u t ≡ false
same_not_below t u p = grind (arith, nat_tests)

pub same_not_above : (t u : Tag) → same_tag t u ≡ true → below t u ≡ false
same_not_above t u p = grind (arith, nat_tests)

-- a greater new element goes past what is below it
put-past : (t u : Tag) (w : NewElement) (a b : Trees) → AllBelow u a → below u t ≡ true → put t w (then_trees a b) ≡ then_trees a (put t w b)
put-past t u w no_tree b p q = refl
put-past t u w (leaf tag vr value rest) b p q =
    if_false (below t tag) _ _ (below_not_back tag t (below_trans tag u t p.0 q)) ∙ ap (λ (x : Trees). leaf tag vr value x) (put-past t u w rest b p.1 q)
put-past t u w (sequence tag vr declared items rest) b p q =
    if_false (below t tag) _ _ (below_not_back tag t (below_trans tag u t p.0 q)) ∙ ap (λ (x : Trees). sequence tag vr declared items x) (put-past t u w rest b p.1 q)
put-past t u w (fragments tag vr values rest) b p q =
    if_false (below t tag) _ _ (below_not_back tag t (below_trans tag u t p.0 q)) ∙ ap (λ (x : Trees). fragments tag vr values x) (put-past t u w rest b p.1 q)

has-below : (t u : Tag) (a : Trees) → AllBelow u a → below u t ≡ true → has t a ≡ false
has-below t u no_tree p q = refl
has-below t u (leaf tag vr value rest) p q = or_neither _ _ (same_above t tag (below_trans tag u t p.0 q)) (has-below t u rest p.1 q)
has-below t u (sequence tag vr declared items rest) p q = or_neither _ _ (same_above t tag (below_trans tag u t p.0 q)) (has-below t u rest p.1 q)
has-below t u (fragments tag vr values rest) p q = or_neither _ _ (same_above t tag (below_trans tag u t p.0 q)) (has-below t u rest p.1 q)

-- what the element of a tag does to the new ones: the lesser come before it, the greater after it
pub record Heads (tag : Tag) (k : Trees → Trees) : Type 0 where
  pub low_has : (t : Tag) (x : Trees) → Ascend (Some tag) x → below t tag ≡ true → has t (k x) ≡ false
  pub low_put : (t : Tag) (w : NewElement) (x : Trees) → Ascend (Some tag) x → below t tag ≡ true → put t w (k x) ≡ before w (k x)
  pub high_has : (t : Tag) (x : Trees) → below tag t ≡ true → has t (k x) ≡ has t x
  pub high_put : (t : Tag) (w : NewElement) (x : Trees) → below tag t ≡ true → put t w (k x) ≡ k (put t w x)

or_same : (x y z : Bool) → x ≡ false → y ≡ z → (x || y) ≡ z
or_same x y z p q = cc

pub leaf_heads : (tag : Tag) (vr : Vr) (value : List ℕ) → Heads tag (leaf tag vr value)
leaf_heads tag vr value = record {
  low_has = λ t x a p. or_neither _ _ (below_other_way t tag p) (has-above t tag x a p);
  low_put = λ t w x a p. if_true (below t tag) _ _ p;
  high_has = λ t x p. or_same _ _ _ (same_above t tag p) refl;
  high_put = λ t w x p. if_false (below t tag) _ _ (below_not_back tag t p);
}

pub sequence_heads : (tag : Tag) (vr : Vr) (declared : Length) (items : Items) → Heads tag (sequence tag vr declared items)
sequence_heads tag vr declared items = record {
  low_has = λ t x a p. or_neither _ _ (below_other_way t tag p) (has-above t tag x a p);
  low_put = λ t w x a p. if_true (below t tag) _ _ p;
  high_has = λ t x p. or_same _ _ _ (same_above t tag p) refl;
  high_put = λ t w x p. if_false (below t tag) _ _ (below_not_back tag t p);
}

pub fragments_heads : (tag : Tag) (vr : Vr) (values : List (List ℕ)) → Heads tag (fragments tag vr values)
fragments_heads tag vr values = record {
  low_has = λ t x a p. or_neither _ _ (below_other_way t tag p) (has-above t tag x a p);
  low_put = λ t w x a p. if_true (below t tag) _ _ p;
  high_has = λ t x p. or_same _ _ _ (same_above t tag p) refl;
  high_put = λ t w x p. if_false (below t tag) _ _ (below_not_back tag t p);
}

none_heads : (tag : Tag) → Heads tag (λ x. x)
none_heads tag = record {
  low_has = λ t x a p. has-above t tag x a p;
  low_put = λ t w x a p. put-front t w x (Ascend-weaker (Some t) tag x p a);
  high_has = λ t x p. refl;
  high_put = λ t w x p. refl;
}

pub settled_heads : (f : Fate) (tag : Tag) (k : Trees → Trees) → Heads tag k → Heads tag (λ r. settled f tag k r)
settled_heads stays tag k h = h
settled_heads (becomes vr value) tag k h = leaf_heads tag vr value
settled_heads goes tag k h = none_heads tag

-- ---- one new element, around the element of a tag

pub and_all : (a b : Bool) → b ≡ true → (a && b) ≡ a
and_all true b p = p
and_all false b p = refl

not_as : (a b : Bool) → a ≡ b → not a ≡ not b
not_as a b p = ap not p

-- a test of a tag at which nothing is put
pub off : (p : Tag → Bool) (t : Tag) (w : NewElement) (set : Trees) → p t ≡ false → put_at p t w set ≡ set
off p t w set e = ap (λ (b : Bool). if b && not (has t set) then put t w set else set) e

there : (p : Tag → Bool) (t : Tag) (w : NewElement) (set : Trees) → has t set ≡ true → put_at p t w set ≡ set
there p t w set e = if_false (p t && not (has t set)) _ _ (and_second_false (p t) (not (has t set)) (ap not e))

pub alike : (p q : Tag → Bool) (t : Tag) (w : NewElement) (set : Trees) → p t ≡ q t → put_at p t w set ≡ put_at q t w set
alike p q t w set e = ap (λ (b : Bool). if b && not (has t set) then put t w set else set) e

pub has_more : (p : Tag → Bool) (t : Tag) (w : NewElement) (a b : Trees) → has t b ≡ false → put t w b ≡ before w b → put_at p t w (then_trees a b) ≡ then_trees (put_at p t w a) b
has_more p t w a b h e =
    ap (λ (c : Bool). if p t && not c then put t w (then_trees a b) else then_trees a b) (has-then_trees t a b ∙ or_before_false (has t a) (has t b) h)
    ∙ followed_if (p t && not (has t a)) _ _ (put t w a) a b (put-then_trees t w a b e) refl

if_within : (c : Bool) (a x y : Trees) (k : Trees → Trees) → (if c then then_trees a (k x) else then_trees a (k y)) ≡ then_trees a (k (if c then x else y))
if_within true a x y k = refl
if_within false a x y k = refl

has_less : (p : Tag → Bool) (t tag : Tag) (w : NewElement) (a x : Trees) (k : Trees → Trees) → Heads tag k → AllBelow tag a → below tag t ≡ true
    → put_at p t w (then_trees a (k x)) ≡ then_trees a (k (put_at p t w x))
has_less p t tag w a x k h b e =
    ap (λ (c : Bool). if p t && not c then put t w (then_trees a (k x)) else then_trees a (k x))
    (has-then_trees t a (k x) ∙ or_same _ _ _ (has-below t tag a b e) (h.high_has t x e))
    ∙ ap (λ (y : Trees). if p t && not (has t x) then y else then_trees a (k x))
    (put-past t tag w a (k x) b e ∙ ap (λ (y : Trees). then_trees a y) (h.high_put t w x e))
    ∙ if_within (p t && not (has t x)) a (put t w x) x k

-- with a test of the tags that no lesser one fails
abbrev pub within_test : Option Tag → (Tag → Bool) → Tag → Bool
within_test last q t = above_last last t && q t

put_round : (last : Option Tag) (q : Tag → Bool) (tag t : Tag) (k : Trees → Trees) (w : NewElement) (a x : Trees) → Heads tag k → (same_tag t tag ≡ true → has t (k x) ≡ true) → AllBelow tag a
    → Ascend (Some tag) x → above_last last tag ≡ true → ((g : Tag) → below g tag ≡ true → q g ≡ true)
    → put_at (within_test last q) t w (then_trees a (k x)) ≡ then_trees (put_at (is_between last tag) t w a) (k (put_at (within_test (Some tag) q) t w x))
put_round last q tag t k w a x h c b s l u = by_order (below t tag) (same_tag t tag) refl refl
  where
    by_order : (d e : Bool) → below t tag ≡ d → same_tag t tag ≡ e
        → put_at (within_test last q) t w (then_trees a (k x)) ≡ then_trees (put_at (is_between last tag) t w a) (k (put_at (within_test (Some tag) q) t w x))
    by_order true e d f =
        has_more (within_test last q) t w a (k x) (h.low_has t x s d) (h.low_put t w x s d)
        ∙ ap (λ (y : Trees). then_trees y (k x)) (alike (within_test last q) (is_between last tag) t w a
        (and_all (above_last last t) (q t) (u t d) ∙ sym (and_all (above_last last t) (below t tag) d)))
        ∙ ap (λ (y : Trees). then_trees (put_at (is_between last tag) t w a) (k y))
        (sym (off (within_test (Some tag) q) t w x (ap (λ (z : Bool). z && q t) (below_not_back t tag d))))
    by_order false true d f =
        there (within_test last q) t w (then_trees a (k x)) (has-then_trees t a (k x) ∙ or_second (has t a) (has t (k x)) (c f))
        ∙ ap (λ (y : Trees). then_trees y (k x)) (sym (off (is_between last tag) t w a (and_second_false (above_last last t) (below t tag) d)))
        ∙ ap (λ (y : Trees). then_trees (put_at (is_between last tag) t w a) (k y))
        (sym (off (within_test (Some tag) q) t w x (ap (λ (z : Bool). z && q t) (same_not_below t tag f))))
      where
        or_second : (a b : Bool) → b ≡ true → (a || b) ≡ true
        or_second true b p = refl
        or_second false b p = p
    by_order false false d f =
        let e : below tag t ≡ true = below_other t tag d f in
        has_less (within_test last q) t tag w a x k h b e
        ∙ ap (λ (y : Trees). then_trees a (k y)) (alike (within_test last q) (within_test (Some tag) q) t w x
        (ap (λ (z : Bool). z && q t) (is_above_below last tag t l e ∙ sym e)))
        ∙ ap (λ (y : Trees). then_trees y (k (put_at (within_test (Some tag) q) t w x))) (sym (off (is_between last tag) t w a (and_second_false (above_last last t) (below t tag) d)))

-- ---- no edit puts an element where one goes

abbrev pub makes_at : Tag → NewElement → Bool
makes_at t no_element = false
makes_at t (new_leaf tag vr value) = same_tag tag t
makes_at t (new_sequence tag held) = same_tag tag t

abbrev pub NoNew : Tag → List Edit → Type 0
NoNew t [] = Unit {0}
NoNew t (e ∷ es) = (makes_at t (element_of e) ≡ false) × NoNew t es

abbrev pub Covers : Tag → (Trees → Trees) → List Edit → Type 0
Covers tag k es = ((t : Tag) (x : Trees) → same_tag t tag ≡ true → has t (k x) ≡ true) ⊎ NoNew tag es

covers_rest : (tag : Tag) (k : Trees → Trees) (e : Edit) (es : List Edit) → Covers tag k (e ∷ es) → Covers tag k es
covers_rest tag k e es (inl there) = inl there
covers_rest tag k e es (inr none) = inr none.1

makes_completed : (t : Tag) (es : List Edit) (x : NewElement) → makes_at t (completed es x) ≡ makes_at t x
makes_completed t es no_element = refl
makes_completed t es (new_leaf tag vr value) = refl
makes_completed t es (new_sequence tag held) = refl

makes_around : (u t : Tag) (x : NewElement) → same_tag u t ≡ false → makes_at t (around u x) ≡ false
makes_around u t no_element p = refl
makes_around u t (new_leaf tag vr value) p = p
makes_around u t (new_sequence tag held) p = p

makes_step : (u t : Tag) (i : Index) (x : PathEdit) → same_tag u t ≡ false → makes_at t (new_element (step u i x)) ≡ false
makes_step u t (number zero) x p = makes_around u t (new_element x) p
makes_step u t (number (suc n)) x p = refl
makes_step u t every x p = refl

if_stays : (c : Bool) (vr : Vr) (value : List ℕ) → (if c then becomes vr value else stays) ≡ stays → c ≡ false
if_stays true vr value p = cc
if_stays false vr value p = refl

if_goes : (c : Bool) → (if c then goes else stays) ≡ goes → c ≡ true
if_goes true p = refl
if_goes false p = cc

not_kind : (vr : Vr) (value : List ℕ) (c : Bool) → (if c then becomes vr value else stays) ≡ goes → ⊥
not_kind vr value true p = cc
not_kind vr value false p = cc

private_not : (u v : Tag) → is_private u ≡ false → is_private v ≡ true → same_tag u v ≡ false
private_not u v p q = by_test (same_tag u v) refl
  where
    by_test : (b : Bool) → same_tag u v ≡ b → same_tag u v ≡ false
    by_test true e = absurd (let r : is_private u ≡ is_private v = ap (λ (t : Tag). is_private t) (tag_is u v e) in (cc))
    by_test false e = e

stays_goes : stays ≡ goes → ⊥
stays_goes p = cc

goes_apart : (e b : Edit) (v : Tag) → overlaps e b ≡ false → is_public b ≡ true → fate e v ≡ goes → makes_at v (element_of b) ≡ false
goes_apart (on_path (erase t)) (on_path (insert u vr value)) v o n p = not_both t u v (if_goes _ p) (chosen_false _ o)
goes_apart (erase_all t) (on_path (insert u vr value)) v o n p = not_both t u v (if_goes _ p) (or_first_false _ _ o)
goes_apart erase_private (on_path (insert u vr value)) v o n p = private_not u v (not_true _ (and_first _ _ n)) (if_goes _ p)
goes_apart (on_path (insert t w new)) (on_path (insert u vr value)) v o n p = absurd (not_kind w new _ p)
goes_apart (on_path (modify t w new)) (on_path (insert u vr value)) v o n p = absurd (not_kind w new _ p)
goes_apart (modify_all t w new) (on_path (insert u vr value)) v o n p = absurd (not_kind w new _ p)
goes_apart (on_path (step t i x)) (on_path (insert u vr value)) v o n p = absurd (stays_goes p)
goes_apart (on_path (erase_item t i)) (on_path (insert u vr value)) v o n p = absurd (stays_goes p)
goes_apart elsewhere (on_path (insert u vr value)) v o n p = absurd (stays_goes p)
goes_apart (on_path (erase t)) (on_path (step u j y)) v o n p = makes_step u v j y (not_both t u v (if_goes _ p) (chosen_false _ o))
goes_apart (erase_all t) (on_path (step u j y)) v o n p = makes_step u v j y (not_both t u v (if_goes _ p) (or_first_false _ _ o))
goes_apart erase_private (on_path (step u j y)) v o n p = makes_step u v j y (private_not u v (not_true _ (and_first _ _ n)) (if_goes _ p))
goes_apart (on_path (insert t w new)) (on_path (step u j y)) v o n p = absurd (not_kind w new _ p)
goes_apart (on_path (modify t w new)) (on_path (step u j y)) v o n p = absurd (not_kind w new _ p)
goes_apart (modify_all t w new) (on_path (step u j y)) v o n p = absurd (not_kind w new _ p)
goes_apart (on_path (step t i x)) (on_path (step u j y)) v o n p = absurd (stays_goes p)
goes_apart (on_path (erase_item t i)) (on_path (step u j y)) v o n p = absurd (stays_goes p)
goes_apart elsewhere (on_path (step u j y)) v o n p = absurd (stays_goes p)
goes_apart e (on_path (modify u vr value)) v o n p = refl
goes_apart e (on_path (erase u)) v o n p = refl
goes_apart e (on_path (erase_item u j)) v o n p = refl
goes_apart e (modify_all u vr value) v o n p = refl
goes_apart e (erase_all u) v o n p = refl
goes_apart e erase_private v o n p = refl
goes_apart e elsewhere v o n p = refl

all_goes_apart : (e : Edit) (es : List Edit) (v : Tag) → ApartFrom e es → ArePublic es → fate e v ≡ goes → NoNew v es
all_goes_apart e [] v o n p = tt
all_goes_apart e (b ∷ es) v o n p = (goes_apart e b v o.0 n.0 p, all_goes_apart e es v o.1 n.1 p)

no_new_goes : (e : Edit) (v : Tag) → fate e v ≡ goes → makes_at v (element_of e) ≡ false
no_new_goes (on_path (insert t vr value)) v p = absurd (not_kind vr value _ p)
no_new_goes (on_path (step t i x)) v p = absurd (stays_goes p)
no_new_goes (on_path (modify t vr value)) v p = refl
no_new_goes (on_path (erase t)) v p = refl
no_new_goes (on_path (erase_item t i)) v p = refl
no_new_goes (modify_all t vr value) v p = refl
no_new_goes (erase_all t) v p = refl
no_new_goes erase_private v p = refl
no_new_goes elsewhere v p = refl

-- an edit that leaves an element alone, where a later one erases it
no_new_stays : (e : Edit) (es : List Edit) (v : Tag) → ApartFrom e es → is_public e ≡ true → fate e v ≡ stays → first_fate es v ≡ goes → makes_at v (element_of e) ≡ false
no_new_stays (on_path (insert t vr value)) es v o n p g = if_stays (same_tag t v) vr value p
no_new_stays (on_path (step t i x)) es v o n p g = makes_step t v i x (by_test (same_tag t v) refl)
  where
    by_test : (b : Bool) → same_tag t v ≡ b → same_tag t v ≡ false
    by_test true e =
        let r : first_fate es t ≡ stays = quiet_all_step t i x es o (not_true _ (and_first _ _ n)) in
        absurd (stays_goes (sym r ∙ ap (λ (y : Tag). first_fate es y) (tag_is t v e) ∙ g))
    by_test false e = e
no_new_stays (on_path (modify t vr value)) es v o n p g = refl
no_new_stays (on_path (erase t)) es v o n p g = refl
no_new_stays (on_path (erase_item t i)) es v o n p g = refl
no_new_stays (modify_all t vr value) es v o n p g = refl
no_new_stays (erase_all t) es v o n p g = refl
no_new_stays erase_private es v o n p g = refl
no_new_stays elsewhere es v o n p g = refl

unless_goes : (f g : Fate) → or_else f g ≡ goes → (f ≡ stays) × (g ≡ goes) ⊎ (f ≡ goes)
unless_goes stays g p = inl (refl, p)
unless_goes (becomes vr value) g p = cc
unless_goes goes g p = inr refl

pub no_new : (es : List Edit) (v : Tag) → AreApart es → ArePublic es → first_fate es v ≡ goes → NoNew v es
no_new [] v o n p = tt
no_new (e ∷ es) v o n p = by_fate (unless_goes (fate e v) (first_fate es v) p) (no_new es v o.1 n.1)
  where
    by_fate : (fate e v ≡ stays) × (first_fate es v ≡ goes) ⊎ (fate e v ≡ goes) → (first_fate es v ≡ goes → NoNew v es) → NoNew v (e ∷ es)
    by_fate (inl q) more = (no_new_stays e es v o.0 n.0 q.0 q.1, more q.1)
    by_fate (inr q) more = (no_new_goes e v q, all_goes_apart e es v o.0 n.1 q)

pub settled_covers : (f : Fate) (tag : Tag) (k : Trees → Trees) (es : List Edit) → ((t : Tag) (x : Trees) → same_tag t tag ≡ true → has t (k x) ≡ true) → (f ≡ goes → NoNew tag es)
    → Covers tag (λ r. settled f tag k r) es
settled_covers stays tag k es there none = inl there
settled_covers (becomes vr value) tag k es there none = inl (λ t x p. or_first _ _ p)
settled_covers goes tag k es there none = inr (none refl)

-- ---- all new elements, around the element of a tag

covers_new : (tag : Tag) (k : Trees → Trees) (w : NewElement) (t : Tag) (x : Trees) → ((u : Tag) (y : Trees) → same_tag u tag ≡ true → has u (k y) ≡ true) ⊎ (same_tag t tag ≡ false)
    → same_tag t tag ≡ true → has t (k x) ≡ true
covers_new tag k w t x (inl there) p = there t x p
covers_new tag k w t x (inr none) p = absurd (let q : same_tag t tag ≡ false = none in (cc))

new_round : (last : Option Tag) (q : Tag → Bool) (tag : Tag) (k : Trees → Trees) (w : NewElement) (a x : Trees) → Heads tag k
    → ((u : Tag) (y : Trees) → same_tag u tag ≡ true → has u (k y) ≡ true) ⊎ (makes_at tag w ≡ false) → AllBelow tag a
    → Ascend (Some tag) x → above_last last tag ≡ true → ((g : Tag) → below g tag ≡ true → q g ≡ true)
    → put_new (within_test last q) w (then_trees a (k x)) ≡ then_trees (put_new (is_between last tag) w a) (k (put_new (within_test (Some tag) q) w x))
new_round last q tag k no_element a x h c b s l u = refl
new_round last q tag k (new_leaf t vr value) a x h c b s l u =
    put_round last q tag t k (new_leaf t vr value) a x h (covers_new tag k (new_leaf t vr value) t x c) b s l u
new_round last q tag k (new_sequence t held) a x h c b s l u =
    put_round last q tag t k (new_sequence t held) a x h (covers_new tag k (new_sequence t held) t x c) b s l u

covers_first : (tag : Tag) (k : Trees → Trees) (e : Edit) (es : List Edit) → Covers tag k (e ∷ es)
    → ((u : Tag) (y : Trees) → same_tag u tag ≡ true → has u (k y) ≡ true) ⊎ (makes_at tag (completed es (element_of e)) ≡ false)
covers_first tag k e es (inl there) = inl there
covers_first tag k e es (inr none) = inr (makes_completed tag es (element_of e) ∙ none.0)

AllBelow-new : (last : Option Tag) (tag : Tag) (w : NewElement) (a : Trees) → AllBelow tag a → AllBelow tag (put_new (is_between last tag) w a)
AllBelow-new last tag no_element a b = b
AllBelow-new last tag (new_leaf t vr value) a b =
    chosen (AllBelow tag) (is_between last tag t && not (has t a)) _ _
    (λ p. AllBelow-put tag t (new_leaf t vr value) a (λ r c. (and_second (above_last last t) _ (and_first (is_between last tag t) _ p), c)) b) (λ p. b)
AllBelow-new last tag (new_sequence t held) a b =
    chosen (AllBelow tag) (is_between last tag t && not (has t a)) _ _
    (λ p. AllBelow-put tag t (new_sequence t held) a (λ r c. (and_second (above_last last t) _ (and_first (is_between last tag t) _ p), c)) b) (λ p. b)

Ascend-new : (tag : Tag) (q : Tag → Bool) (w : NewElement) (x : Trees) → NewAscends w → Ascend (Some tag) x → Ascend (Some tag) (put_new (within_test (Some tag) q) w x)
Ascend-new tag q no_element x n s = s
Ascend-new tag q (new_leaf t vr value) x n s =
    chosen (Ascend (Some tag)) ((below tag t && q t) && not (has t x)) _ _
    (λ p. Ascend-put (Some tag) t (new_leaf t vr value) x (λ l r e b. (e, b)) (and_first (below tag t) _ (and_first (below tag t && q t) _ p)) (not_true _ (and_second (below tag t && q t) _ p)) s) (λ p. s)
Ascend-new tag q (new_sequence t held) x n s =
    chosen (Ascend (Some tag)) ((below tag t && q t) && not (has t x)) _ _
    (λ p. Ascend-put (Some tag) t (new_sequence t held) x (λ l r e b. (e, (n, tt), b)) (and_first (below tag t) _ (and_first (below tag t && q t) _ p)) (not_true _ (and_second (below tag t && q t) _ p)) s) (λ p. s)

pub puts_round : (last : Option Tag) (q : Tag → Bool) (tag : Tag) (k : Trees → Trees) (es : List Edit) (a x : Trees) → Heads tag k → Covers tag k es → AllBelow tag a
    → Ascend (Some tag) x → above_last last tag ≡ true → ((g : Tag) → below g tag ≡ true → q g ≡ true)
    → puts (within_test last q) es (then_trees a (k x)) ≡ then_trees (puts (is_between last tag) es a) (k (puts (within_test (Some tag) q) es x))
puts_round last q tag k [] a x h c b s l u = refl
puts_round last q tag k (e ∷ es) a x h c b s l u =
    let w : NewElement = completed es (element_of e) in
    ap (λ (t : Trees). puts (within_test last q) es t) (new_round last q tag k w a x h (covers_first tag k e es c) b s l u)
    ∙ puts_round last q tag k es (put_new (is_between last tag) w a) (put_new (within_test (Some tag) q) w x) h (covers_rest tag k e es c)
    (AllBelow-new last tag w a b) (Ascend-new tag q w x (NewAscends-completed es (element_of e) (NewAscends-element_of e)) s) l u
