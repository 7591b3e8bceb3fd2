-- The new element that is seen with the least tag is the first one of that tag.
use Rattle.std.proofs.Common.{◌≡◌, List, [], ◌∷◌, Option, Some, None, Bool, true, false, refl, sym, ◌∙◌, ap, subst, inl, inr, ◌⊎◌, arith}
use Rattle.std.specs.Prelude.{if◌then◌else◌}
use Rattle.std.proofs.lemmas.Bool.Decides.{nat_tests}
use Rattle.dcm_edits.proofs.Trees.Selection.{below_self, lesser_assoc, lesser_none}
use Rattle.dcm_lemmas.proofs.Options.{some_same}
use Rattle.dcm_lemmas.proofs.Choice.{if_false, if_true}
use Rattle.dcm_lemmas.proofs.Truth.{true_false}
use Rattle.dcm_base.specs.declared.tag.Tag.{Tag}
use Rattle.dcm_base.specs.Tables.Tag.{same_tag, below}
use Rattle.dcm_base.proofs.Dictionaries.TagOrder.{below_trans, tag_is, same_tag_self}
use Rattle.dcm_edits.specs.Edit.{Edit, NewElement, no_element, new_leaf, new_sequence, element_of}
use Rattle.dcm_edits.specs.Together.{completed}
use Rattle.dcm_edits.specs.NewOnes.{passes_new, passing, lesser, least_new, first_new}
use Rattle.dcm_editor.specs.Asking as asking
use Rattle.dcm_editor.specs.Asking.{Seen, nothing_new, a_value, a_sequence, seen, seen_of, new_tag, in_gap, seen_in, is_above_seen}
use Rattle.dcm_editor.specs.declared.asked.Gap.{Gap}
use Rattle.dcm_editor.specs.declared.asked.New.{New}
use Rattle.dcm_editor.specs.declared.asked.New.TheVariants as news

-- ---- its tag

abbrev tag_seen : Seen → Option Tag
tag_seen nothing_new = None
tag_seen (a_value tag vr value) = Some tag
tag_seen (a_sequence tag) = Some tag

if_tag : (b : Bool) (x y : Seen) → tag_seen (if b then x else y) ≡ (if b then tag_seen x else tag_seen y)
if_tag true x y = refl
if_tag false x y = refl

lesser_tag : (a x : Seen) → tag_seen (asking.lesser a x) ≡ lesser (tag_seen a) (tag_seen x)
lesser_tag nothing_new nothing_new = refl
lesser_tag nothing_new (a_value u vr value) = refl
lesser_tag nothing_new (a_sequence u) = refl
lesser_tag (a_value t vr value) nothing_new = refl
lesser_tag (a_value t vr value) (a_value u other_vr other) = if_tag (below u t) _ _
lesser_tag (a_value t vr value) (a_sequence u) = if_tag (below u t) _ _
lesser_tag (a_sequence t) nothing_new = refl
lesser_tag (a_sequence t) (a_value u vr value) = if_tag (below u t) _ _
lesser_tag (a_sequence t) (a_sequence u) = if_tag (below u t) _ _

passing_tag : (gap : Gap) (w : NewElement) → tag_seen (seen_in gap (seen w)) ≡ passing (in_gap gap) w
passing_tag gap no_element = refl
passing_tag gap (new_leaf tag vr value) = if_tag (in_gap gap tag) _ _
passing_tag gap (new_sequence tag held) = if_tag (in_gap gap tag) _ _

not_lower : (c b a : Tag) → below c b ≡ false → below b a ≡ false → below c a ≡ false
not_lower c b a e f = grind (arith, nat_tests)

lesser_three : (a b c : Tag) (x y : Bool) → below b a ≡ x → below c b ≡ y → lesser (if x then Some b else Some a) (Some c) ≡ lesser (Some a) (if y then Some c else Some b)
lesser_three a b c true true e f = if_true (below c b) (Some c) (Some b) f ∙ sym (if_true (below c a) (Some c) (Some a) (below_trans c b a f e))
lesser_three a b c true false e f = if_false (below c b) (Some c) (Some b) f ∙ sym (if_true (below b a) (Some b) (Some a) e)
lesser_three a b c false true e f = refl
lesser_three a b c false false e f = if_false (below c a) (Some c) (Some a) (not_lower c b a f e) ∙ sym (if_false (below b a) (Some b) (Some a) e)

least_tag : (gap : Gap) (least : Seen) (es : List Edit) → tag_seen (asking.least_new gap least es) ≡ lesser (tag_seen least) (least_new (in_gap gap) es)
least_tag gap least [] = sym (lesser_none (tag_seen least))
least_tag gap least (e ∷ es) =
    let x : Seen = seen_in gap (seen (element_of e)) in
    least_tag gap (asking.lesser least x) es
    ∙ ap (λ (a : Option Tag). lesser a (least_new (in_gap gap) es)) (lesser_tag least x ∙ ap (λ (a : Option Tag). lesser (tag_seen least) a) (passing_tag gap (element_of e)))
    ∙ lesser_assoc (tag_seen least) (passing (in_gap gap) (element_of e)) (least_new (in_gap gap) es)

-- ---- it is the first of its tag

-- it is the first one of a tag in the gap that is below what was seen before
record IsFirst (gap : Gap) (least : Seen) (es : List Edit) (s : Seen) : Type 0 where
  pub tag : Tag
  pub above : is_above_seen least tag ≡ true
  pub inside : in_gap gap tag ≡ true
  pub is_first : s ≡ seen (first_new tag es)
  pub has_tag : tag_seen s ≡ Some tag

abbrev Picked : Gap → Seen → List Edit → Seen → Type 0
Picked gap least es s = (s ≡ least) ⊎ IsFirst gap least es s

pub completed_seen : (es : List Edit) (w : NewElement) → seen (completed es w) ≡ seen w
completed_seen es no_element = refl
completed_seen es (new_leaf tag vr value) = refl
completed_seen es (new_sequence tag held) = refl

chosen : (b : Bool) (x y : NewElement) → b ≡ true → seen (if b then x else y) ≡ seen x
chosen true x y e = refl
chosen false x y e = absurd cc

other : (b : Bool) (x y : NewElement) → b ≡ false → seen (if b then x else y) ≡ seen y
other true x y e = absurd cc
other false x y e = refl

first_at : (t : Tag) (e : Edit) (es : List Edit) (w : NewElement) → element_of e ≡ w → passes_new (same_tag t) w ≡ true → seen (first_new t (e ∷ es)) ≡ seen w
first_at t e es w q p =
    chosen (passes_new (same_tag t) (element_of e)) (completed es (element_of e)) (first_new t es) (ap (λ (x : NewElement). passes_new (same_tag t) x) q ∙ p)
    ∙ completed_seen es (element_of e)
    ∙ ap seen q

-- a new element of one edit, with the tag t
one_seen : (gap : Gap) (least s : Seen) (t : Tag) (es : List Edit) → asking.lesser least s ≡ (if is_above_seen least t then s else least) → s ≡ seen (first_new t es) → tag_seen s ≡ Some t
    → Picked gap least es (asking.lesser least (if in_gap gap t then s else nothing_new))
one_seen gap least s t es q f h = by_gap (in_gap gap t) refl
  where
    by_above : (a : Bool) → in_gap gap t ≡ true → is_above_seen least t ≡ a → Picked gap least es (if a then s else least)
    by_above true i a = inr (record { tag = t; above = a; inside = i; is_first = f; has_tag = h })
    by_above false i a = inl refl

    by_gap : (g : Bool) → in_gap gap t ≡ g → Picked gap least es (asking.lesser least (if g then s else nothing_new))
    by_gap true i = subst (λ (x : Seen). Picked gap least es x) (sym q) (by_above (is_above_seen least t) i refl)
    by_gap false i = inl refl

seen_here : (gap : Gap) (least : Seen) (e : Edit) (es : List Edit) (w : NewElement) → element_of e ≡ w → Picked gap least (e ∷ es) (asking.lesser least (seen_in gap (seen w)))
seen_here gap least e es no_element q = inl refl
seen_here gap least e es (new_leaf t vr value) q = one_seen gap least (a_value t vr value) t (e ∷ es) refl (sym (first_at t e es (new_leaf t vr value) q (same_tag_self t))) refl
seen_here gap least e es (new_sequence t held) q = one_seen gap least (a_sequence t) t (e ∷ es) refl (sym (first_at t e es (new_sequence t held) q (same_tag_self t))) refl

above_trans : (least : Seen) (u t : Tag) → is_above_seen least u ≡ true → below t u ≡ true → is_above_seen least t ≡ true
above_trans nothing_new u t e p = refl
above_trans (a_value w vr value) u t e p = below_trans t u w p e
above_trans (a_sequence w) u t e p = below_trans t u w p e

above_if : (least s : Seen) (u t : Tag) (a : Bool) → is_above_seen least u ≡ a → is_above_seen s t ≡ below t u → is_above_seen (if a then s else least) t ≡ true → is_above_seen least t ≡ true
above_if least s u t true e q p = above_trans least u t e (sym q ∙ p)
above_if least s u t false e q p = p

above_lesser : (least x : Seen) (t : Tag) → is_above_seen (asking.lesser least x) t ≡ true → is_above_seen least t ≡ true
above_lesser least nothing_new t p = p
above_lesser least (a_value u vr value) t p = above_if least (a_value u vr value) u t (is_above_seen least u) refl refl p
above_lesser least (a_sequence u) t p = above_if least (a_sequence u) u t (is_above_seen least u) refl refl p

not_above_itself : (least s : Seen) (u : Tag) (a : Bool) → is_above_seen least u ≡ a → is_above_seen s u ≡ below u u → is_above_seen (if a then s else least) u ≡ true → ⊥
not_above_itself least s u true e q p = true_false (is_above_seen s u) p (q ∙ below_self u)
not_above_itself least s u false e q p = true_false (is_above_seen least u) p e

not_same : (gap : Gap) (least s : Seen) (u t : Tag) → asking.lesser least s ≡ (if is_above_seen least u then s else least) → is_above_seen s u ≡ below u u → in_gap gap t ≡ true
    → is_above_seen (asking.lesser least (if in_gap gap u then s else nothing_new)) t ≡ true → same_tag t u ≡ false
not_same gap least s u t q h i p = by_same (same_tag t u) refl
  where
    here : (g : Bool) → in_gap gap u ≡ g → g ≡ true → is_above_seen (asking.lesser least (if g then s else nothing_new)) u ≡ true → ⊥
    here true e f p = not_above_itself least s u (is_above_seen least u) refl h (ap (λ (x : Seen). is_above_seen x u) (sym q) ∙ p)
    here false e f p = absurd cc

    by_same : (b : Bool) → same_tag t u ≡ b → b ≡ false
    by_same false e = refl
    by_same true e =
        let same : t ≡ u = tag_is t u e in
        absurd (here (in_gap gap u) refl (subst (λ (v : Tag). in_gap gap v ≡ true) same i) (subst (λ (v : Tag). is_above_seen (asking.lesser least (if in_gap gap u then s else nothing_new)) v ≡ true) same p))

not_at : (gap : Gap) (least : Seen) (w : NewElement) (t : Tag) → in_gap gap t ≡ true → is_above_seen (asking.lesser least (seen_in gap (seen w))) t ≡ true → passes_new (same_tag t) w ≡ false
not_at gap least no_element t i p = refl
not_at gap least (new_leaf u vr value) t i p = not_same gap least (a_value u vr value) u t refl refl i p
not_at gap least (new_sequence u held) t i p = not_same gap least (a_sequence u) u t refl refl i p

seen_later : (gap : Gap) (least : Seen) (e : Edit) (es : List Edit) (s : Seen) → IsFirst gap (asking.lesser least (seen_in gap (seen (element_of e)))) es s → IsFirst gap least (e ∷ es) s
seen_later gap least e es s k = record {
  tag = k.tag;
  above = above_lesser least (seen_in gap (seen (element_of e))) k.tag k.above;
  inside = k.inside;
  is_first = k.is_first ∙ sym (other (passes_new (same_tag k.tag) (element_of e)) (completed es (element_of e)) (first_new k.tag es) (not_at gap least (element_of e) k.tag k.inside k.above));
  has_tag = k.has_tag;
}

picked_before : (gap : Gap) (least : Seen) (e : Edit) (es : List Edit) (s : Seen) → Picked gap (asking.lesser least (seen_in gap (seen (element_of e)))) es s → Picked gap least (e ∷ es) s
picked_before gap least e es s (inl q) = subst (λ (x : Seen). Picked gap least (e ∷ es) x) (sym q) (seen_here gap least e es (element_of e) refl)
picked_before gap least e es s (inr k) = inr (seen_later gap least e es s k)

picked : (gap : Gap) (least : Seen) (es : List Edit) → Picked gap least es (asking.least_new gap least es)
picked gap least [] = inl refl
picked gap least (e ∷ es) = picked_before gap least e es _ (picked gap (asking.lesser least (seen_in gap (seen (element_of e)))) es)

-- ---- what the program finds

tag_of_new : {A : Type 0} (new : New A) → tag_seen (seen_of (Some new)) ≡ Some (new_tag new)
tag_of_new (news.Leaf e) = refl
tag_of_new (news.Sequence tag) = refl

some_new : {A : Type 0} (new : New A) → seen_of (Some new) ≡ nothing_new → ⊥
some_new (news.Leaf e) q = cc
some_new (news.Sequence tag) q = cc

-- nothing new lies in the gap
pub none_in_gap : (gap : Gap) (es : List Edit) → nothing_new ≡ asking.least_new gap nothing_new es → least_new (in_gap gap) es ≡ None
none_in_gap gap es q = sym (least_tag gap nothing_new es) ∙ ap tag_seen (sym q)

-- its tag is the least one
pub least_in_gap : {A : Type 0} (gap : Gap) (es : List Edit) (new : New A) → seen_of (Some new) ≡ asking.least_new gap nothing_new es → least_new (in_gap gap) es ≡ Some (new_tag new)
least_in_gap gap es new q = sym (least_tag gap nothing_new es) ∙ ap tag_seen (sym q) ∙ tag_of_new new

-- it is the first of its tag
pub first_in_gap : {A : Type 0} (gap : Gap) (es : List Edit) (new : New A) → seen_of (Some new) ≡ asking.least_new gap nothing_new es → seen (first_new (new_tag new) es) ≡ seen_of (Some new)
first_in_gap gap es new q = by_picked (picked gap nothing_new es)
  where
    by_picked : Picked gap nothing_new es (asking.least_new gap nothing_new es) → seen (first_new (new_tag new) es) ≡ seen_of (Some new)
    by_picked (inl p) = absurd (some_new new (q ∙ p))
    by_picked (inr k) =
        let same : k.tag ≡ new_tag new = some_same k.tag (new_tag new) (sym k.has_tag ∙ ap tag_seen (sym q) ∙ tag_of_new new) in
        ap (λ (t : Tag). seen (first_new t es)) (sym same) ∙ sym k.is_first ∙ sym q

-- a sequence of this tag
pub is_sequence_at : {A : Type 0} (new : New A) (tag : Tag) (es : List Edit) → new ≡ news.Sequence tag → seen (first_new (new_tag new) es) ≡ seen_of (Some new) → seen (first_new tag es) ≡ a_sequence tag
is_sequence_at {A} new tag es e h = subst (λ (n : New A). seen (first_new (new_tag n) es) ≡ seen_of (Some n)) e h
