-- New elements are put one by one, the least tag first.
use Rattle.std.proofs.Common.{◌≡◌, List, [], ◌∷◌, Option, Some, None, Bool, true, false, not, ◌||◌, ◌&&◌, refl, sym, ◌∙◌, ap, subst, arith}
use Rattle.std.specs.Prelude.{if◌then◌else◌}
use Rattle.std.proofs.lemmas.Bool.Decides.{nat_tests}
use Rattle.dcm_lemmas.proofs.Choice.{if_true}
use Rattle.dcm_lemmas.proofs.Truth.{false_true, or_first, or_first as or_left, or_neither, or_parts, or_second as or_right, true_false}
use Rattle.dcm_base.specs.declared.tag.Tag.{Tag}
use Rattle.dcm_base.specs.declared.vr.Vr.TheVariants.{SQ}
use Rattle.dcm_base.specs.declared.length.Length.TheVariants.{Undefined}
use Rattle.dcm_base.specs.Tables.Tag.{same_tag, below, is_above}
use Rattle.dcm_base.specs.Tree.Tree.{Trees, no_tree, leaf, sequence, fragments}
use Rattle.dcm_base.proofs.Dictionaries.TagOrder.{below_trans, below_other, below_other_way, tag_is, same_tag_self}
use Rattle.dcm_edits.specs.Edit.{Edit, has, put, before, NewElement, no_element, new_leaf, new_sequence, element_of}
use Rattle.dcm_edits.specs.Together.{completed}
use Rattle.dcm_edits.specs.NewOnes.{put_at, put_new, puts, above_last, is_between, passes_new, any_new, passing, lesser, least_new, first_new}
use Rattle.dcm_edits.proofs.Trees.NewOnes.{Heads, leaf_heads, sequence_heads, off, alike, below_not_back, same_not_above, same_not_below}

-- ---- where none passes

pub new_off : (p : Tag → Bool) (es : List Edit) (w : NewElement) (set : Trees) → passes_new p w ≡ false → put_new p (completed es w) set ≡ set
new_off p es no_element set e = refl
new_off p es (new_leaf tag vr value) set e = off p tag (new_leaf tag vr value) set e
new_off p es (new_sequence tag held) set e = off p tag (completed es (new_sequence tag held)) set e

pub puts_nothing : (p : Tag → Bool) (es : List Edit) (set : Trees) → any_new p es ≡ false → puts p es set ≡ set
puts_nothing p [] set e = refl
puts_nothing p (d ∷ es) set e =
    let k = or_parts (passes_new p (element_of d)) (any_new p es) e in
    ap (λ (s : Trees). puts p es s) (new_off p es (element_of d) set k.0) ∙ puts_nothing p es set k.1

-- ---- after an element of the least tag

-- the element of this tag is found
abbrev Finds : Tag → (Trees → Trees) → Type 0
Finds tag k = (u : Tag) (x : Trees) → same_tag u tag ≡ true → has u (k x) ≡ true

abbrev AtLeast : (Tag → Bool) → Tag → NewElement → Type 0
AtLeast p t no_element = Unit {0}
AtLeast p t (new_leaf tag vr value) = p tag ≡ true → below tag t ≡ false
AtLeast p t (new_sequence tag held) = p tag ≡ true → below tag t ≡ false

-- no new element whose tag passes is below the tag
abbrev pub NoneBelow : (Tag → Bool) → Tag → List Edit → Type 0
NoneBelow p t [] = Unit {0}
NoneBelow p t (e ∷ es) = AtLeast p t (element_of e) × NoneBelow p t es

-- of what passes, what is above the tag
abbrev pub Above : (Tag → Bool) → (Tag → Bool) → Tag → Type 0
Above q p t = (u : Tag) → q u ≡ (p u && below t u)

and_first : (a b c : Bool) → c ≡ (a && b) → a ≡ false → c ≡ false
and_first a b c e f = cc

and_second : (a b c : Bool) → c ≡ (a && b) → a ≡ true → c ≡ b
and_second a b c e f = cc

not_put : (p : Bool) (h : Bool) (x y : Trees) → h ≡ true → (if p && not h then x else y) ≡ y
not_put true h x y e = rw e refl
not_put false h x y e = refl

is_put : (p h : Bool) (x y : Trees) → p ≡ true → h ≡ false → (if p && not h then x else y) ≡ x
is_put p h x y e f = rw (e, f) refl

pick_both : (b h : Bool) (a c x y : Trees) (k : Trees → Trees) → a ≡ k x → c ≡ k y → (if b && not h then a else c) ≡ k (if b && not h then x else y)
pick_both true true a c x y k e f = f
pick_both true false a c x y k e f = e
pick_both false h a c x y k e f = f

one_after : (p q : Tag → Bool) (t u : Tag) (w : NewElement) (k : Trees → Trees) (set : Trees) → Heads t k → Finds t k → (p u ≡ true → below u t ≡ false) → Above q p t
    → put_at p u w (k set) ≡ k (put_at q u w set)
one_after p q t u w k set h finds least above = by_pass (p u) (same_tag u t) refl refl
  where
    by_pass : (b s : Bool) → p u ≡ b → same_tag u t ≡ s → put_at p u w (k set) ≡ k (put_at q u w set)
    by_pass false s e f = off p u w (k set) e ∙ ap k (sym (off q u w set (and_first (p u) (below t u) (q u) (above u) e)))
    by_pass true true e f =
        not_put (p u) (has u (k set)) _ _ (finds u set f) ∙ ap k (sym (off q u w set (and_second (p u) (below t u) (q u) (above u) e ∙ same_not_below u t f)))
    by_pass true false e f =
        let higher : below t u ≡ true = below_other u t (least e) f in
        pick_both (p u) (has u (k set)) _ _ (put u w set) set k (h.high_put u w set higher) refl
        ∙ ap (λ (x : Bool). k (if p u && not x then put u w set else set)) (h.high_has u set higher)
        ∙ ap k (alike p q u w set (e ∙ sym (and_second (p u) (below t u) (q u) (above u) e ∙ higher)))

new_after : (p q : Tag → Bool) (t : Tag) (es : List Edit) (w : NewElement) (k : Trees → Trees) (set : Trees) → Heads t k → Finds t k → AtLeast p t w → Above q p t
    → put_new p (completed es w) (k set) ≡ k (put_new q (completed es w) set)
new_after p q t es no_element k set h finds least above = refl
new_after p q t es (new_leaf tag vr value) k set h finds least above = one_after p q t tag (new_leaf tag vr value) k set h finds least above
new_after p q t es (new_sequence tag held) k set h finds least above = one_after p q t tag (completed es (new_sequence tag held)) k set h finds least above

puts_after : (p q : Tag → Bool) (t : Tag) (es : List Edit) (k : Trees → Trees) (set : Trees) → Heads t k → Finds t k → NoneBelow p t es → Above q p t
    → puts p es (k set) ≡ k (puts q es set)
puts_after p q t [] k set h finds least above = refl
puts_after p q t (e ∷ es) k set h finds least above =
    ap (λ (s : Trees). puts p es s) (new_after p q t es (element_of e) k set h finds least.0 above)
    ∙ puts_after p q t es k (put_new q (completed es (element_of e)) set) h finds least.1 above

-- ---- up to the first element of the least tag

abbrev AllAbove : Tag → Trees → Type 0
AllAbove t no_tree = Unit {0}
AllAbove t (leaf tag vr value rest) = (below t tag ≡ true) × AllAbove t rest
AllAbove t (sequence tag vr declared items rest) = (below t tag ≡ true) × AllAbove t rest
AllAbove t (fragments tag vr values rest) = (below t tag ≡ true) × AllAbove t rest

above_has : (t : Tag) (set : Trees) → AllAbove t set → has t set ≡ false
above_has t no_tree a = refl
above_has t (leaf tag vr value rest) a = or_neither _ _ (below_other_way t tag a.0) (above_has t rest a.1)
above_has t (sequence tag vr declared items rest) a = or_neither _ _ (below_other_way t tag a.0) (above_has t rest a.1)
above_has t (fragments tag vr values rest) a = or_neither _ _ (below_other_way t tag a.0) (above_has t rest a.1)

above_put : (t : Tag) (x : NewElement) (set : Trees) → AllAbove t set → put t x set ≡ before x set
above_put t x no_tree a = refl
above_put t x (leaf tag vr value rest) a = if_true (below t tag) _ _ a.0
above_put t x (sequence tag vr declared items rest) a = if_true (below t tag) _ _ a.0
above_put t x (fragments tag vr values rest) a = if_true (below t tag) _ _ a.0

abbrev StaysAbove : Tag → NewElement → Type 0
StaysAbove t x = (rest : Trees) → AllAbove t rest → AllAbove t (before x rest)

by_test_above : (t : Tag) (b : Bool) (x y : Trees) → AllAbove t x → AllAbove t y → AllAbove t (if b then x else y)
by_test_above t true x y h k = h
by_test_above t false x y h k = k

put_above : (t u : Tag) (x : NewElement) (set : Trees) → StaysAbove t x → AllAbove t set → AllAbove t (put u x set)
put_above t u x no_tree h a = h no_tree tt
put_above t u x (leaf tag vr value rest) h a = by_test_above t (below u tag) _ _ (h (leaf tag vr value rest) a) (a.0, put_above t u x rest h a.1)
put_above t u x (sequence tag vr declared items rest) h a = by_test_above t (below u tag) _ _ (h (sequence tag vr declared items rest) a) (a.0, put_above t u x rest h a.1)
put_above t u x (fragments tag vr values rest) h a = by_test_above t (below u tag) _ _ (h (fragments tag vr values rest) a) (a.0, put_above t u x rest h a.1)

put_at_above : (q : Tag → Bool) (t u : Tag) (x : NewElement) (set : Trees) → StaysAbove t x → AllAbove t set → AllAbove t (put_at q u x set)
put_at_above q t u x set h a = by_test (q u && not (has u set))
  where
    by_test : (b : Bool) → AllAbove t (if b then put u x set else set)
    by_test true = put_above t u x set h a
    by_test false = a

-- what holds of the edits that follow, for any set above the tag
abbrev Then : (Tag → Bool) → (Tag → Bool) → Tag → List Edit → Type 0
Then p q t es = (set : Trees) → AllAbove t set → any_new (same_tag t) es ≡ true → puts p es set ≡ before (first_new t es) (puts q es set)

or_second : (a b : Bool) → a ≡ false → (a || b) ≡ true → b ≡ true
or_second a b e f = cc

chosen : (b : Bool) (x y z : NewElement) (set : Trees) → b ≡ false → before y set ≡ before (if b then x else y) set
chosen b x y z set e = rw e refl

chosen_first : (b : Bool) (x y : NewElement) (set : Trees) → b ≡ true → before x set ≡ before (if b then x else y) set
chosen_first b x y set e = rw e refl

-- one new element of the tag u
one_first : (p q : Tag → Bool) (t u : Tag) (x : NewElement) (es : List Edit) (set : Trees) → Heads u (before x) → Finds u (before x) → (below t u ≡ true → StaysAbove t x)
    → Then p q t es → p t ≡ true → (same_tag t u || any_new (same_tag t) es) ≡ true → (p u ≡ true → below u t ≡ false) → NoneBelow p t es → Above q p t → AllAbove t set
    → puts p es (put_at p u x set) ≡ before (if same_tag t u then x else first_new t es) (puts q es (put_at q u x set))
one_first p q t u x es set h finds stays then_so passes there least more above a = by_pass (p u) (same_tag t u) refl refl
  where
    by_pass : (b s : Bool) → p u ≡ b → same_tag t u ≡ s → puts p es (put_at p u x set) ≡ before (if same_tag t u then x else first_new t es) (puts q es (put_at q u x set))
    by_pass false true e f = absurd (false_true (sym e ∙ ap p (sym (tag_is t u f)) ∙ passes))
    by_pass false false e f =
        ap (λ (s : Trees). puts p es s) (off p u x set e)
        ∙ then_so set a (or_second (same_tag t u) _ f there)
        ∙ ap (λ (s : Trees). before (first_new t es) (puts q es s)) (sym (off q u x set (and_first (p u) (below t u) (q u) (above u) e)))
        ∙ chosen (same_tag t u) x (first_new t es) x _ f
    by_pass true true e f =
        let same : t ≡ u = tag_is t u f in
        let a' : AllAbove u set = subst (λ (v : Tag). AllAbove v set) same a in
        ap (λ (s : Trees). puts p es s) (is_put (p u) (has u set) _ _ e (above_has u set a') ∙ above_put u x set a')
        ∙ puts_after p q u es (before x) set h finds (subst (λ (v : Tag). NoneBelow p v es) same more) (subst (λ (v : Tag). Above q p v) same above)
        ∙ ap (λ (s : Trees). before x (puts q es s)) (sym (off q u x set (and_second (p u) (below t u) (q u) (above u) e ∙ same_not_above t u f)))
        ∙ chosen_first (same_tag t u) x (first_new t es) _ f
    by_pass true false e f =
        let higher : below t u ≡ true = higher_than (least e) f in
        let passes_too : q u ≡ true = and_second (p u) (below t u) (q u) (above u) e ∙ higher in
        ap (λ (s : Trees). puts p es s) (alike p q u x set (e ∙ sym passes_too))
        ∙ then_so (put_at q u x set) (put_at_above q t u x set (stays higher) a) (or_second (same_tag t u) _ f there)
        ∙ chosen (same_tag t u) x (first_new t es) x _ f
      where
        higher_than : below u t ≡ false → same_tag t u ≡ false → below t u ≡ true
        higher_than r s = grind (arith, nat_tests)

new_first : (p q : Tag → Bool) (t : Tag) (w : NewElement) (es : List Edit) (set : Trees) → Then p q t es → p t ≡ true → (passes_new (same_tag t) w || any_new (same_tag t) es) ≡ true → AtLeast p t w → NoneBelow p t es
    → Above q p t → AllAbove t set
    → puts p es (put_new p (completed es w) set) ≡ before (if passes_new (same_tag t) w then completed es w else first_new t es) (puts q es (put_new q (completed es w) set))
new_first p q t no_element es set then_so passes there least more above a = then_so set a there
new_first p q t (new_leaf u vr value) es set then_so passes there least more above a =
    one_first p q t u (new_leaf u vr value) es set (leaf_heads u vr value) (λ v s e. or_first _ _ e) (λ higher rest b. (higher, b)) then_so passes there least more above a
new_first p q t (new_sequence u held) es set then_so passes there least more above a =
    one_first p q t u (completed es (new_sequence u held)) es set (sequence_heads u SQ Undefined _) (λ v s e. or_first _ _ e) (λ higher rest b. (higher, b)) then_so passes there least more above a

pub puts_first : (p q : Tag → Bool) (t : Tag) (es : List Edit) (set : Trees) → p t ≡ true → any_new (same_tag t) es ≡ true → NoneBelow p t es → Above q p t → AllAbove t set
    → puts p es set ≡ before (first_new t es) (puts q es set)
puts_first p q t [] set passes there least above a = absurd (false_true there)
puts_first p q t (e ∷ es) set passes there least above a =
    new_first p q t (element_of e) es set (λ s b there_too. puts_first p q t es s passes there_too least.1 above b) passes there least.0 least.1 above a

-- ---- the least tag

pub record IsLeast (p : Tag → Bool) (t : Tag) (es : List Edit) : Type 0 where
  pub passes : p t ≡ true
  pub is_there : any_new (same_tag t) es ≡ true
  pub none_below : NoneBelow p t es

-- the tag of a new element, where it passes, and otherwise nothing
abbrev Passing : (Tag → Bool) → NewElement → Option Tag → Type 0
Passing p w None = passes_new p w ≡ false
Passing p w (Some u) = (p u ≡ true) × (passes_new (same_tag u) w ≡ true) × AtLeast p u w

pub below_self : (u : Tag) → below u u ≡ false
below_self u = grind (arith, nat_tests)

passing_is : (p : Tag → Bool) (w : NewElement) → Passing p w (passing p w)
passing_is p no_element = refl
passing_is p (new_leaf tag vr value) = by_test (p tag) refl
  where
    by_test : (b : Bool) → p tag ≡ b → Passing p (new_leaf tag vr value) (if b then Some tag else None)
    by_test true e = (e, same_tag_self tag, (λ h. below_self tag))
    by_test false e = e
passing_is p (new_sequence tag held) = by_test (p tag) refl
  where
    by_test : (b : Bool) → p tag ≡ b → Passing p (new_sequence tag held) (if b then Some tag else None)
    by_test true e = (e, same_tag_self tag, (λ h. below_self tag))
    by_test false e = e

none_at : (p : Tag → Bool) (t : Tag) (w : NewElement) → passes_new p w ≡ false → AtLeast p t w
none_at p t no_element e = tt
none_at p t (new_leaf tag vr value) e = λ h. absurd (true_false (p tag) h e)
none_at p t (new_sequence tag held) e = λ h. absurd (true_false (p tag) h e)

none_below : (p : Tag → Bool) (t : Tag) (es : List Edit) → any_new p es ≡ false → NoneBelow p t es
none_below p t [] e = tt
none_below p t (d ∷ es) e = let k = or_parts (passes_new p (element_of d)) (any_new p es) e in (none_at p t (element_of d) k.0, none_below p t es k.1)

-- not below the lesser of two tags, where not below the other
lower : (w u v : Tag) → below w v ≡ false → below v u ≡ false → below w u ≡ false
lower w u v e f = grind (arith, nat_tests)

least_lower : (p : Tag → Bool) (u v : Tag) (w : NewElement) → below v u ≡ false → AtLeast p v w → AtLeast p u w
least_lower p u v no_element e a = tt
least_lower p u v (new_leaf tag vr value) e a = λ h. lower tag u v (a h) e
least_lower p u v (new_sequence tag held) e a = λ h. lower tag u v (a h) e

all_lower : (p : Tag → Bool) (u v : Tag) (es : List Edit) → below v u ≡ false → NoneBelow p v es → NoneBelow p u es
all_lower p u v [] e a = tt
all_lower p u v (d ∷ es) e a = (least_lower p u v (element_of d) e a.0, all_lower p u v es e a.1)

abbrev Least : (Tag → Bool) → List Edit → Option Tag → Type 0
Least p es None = any_new p es ≡ false
Least p es (Some t) = IsLeast p t es

lesser_is : (p : Tag → Bool) (d : Edit) (es : List Edit) (a b : Option Tag) → Passing p (element_of d) a → Least p es b → Least p (d ∷ es) (lesser a b)
lesser_is p d es None None h k = or_neither _ _ h k
lesser_is p d es None (Some t) h k = record { passes = k.passes; is_there = or_right _ _ k.is_there; none_below = (none_at p t (element_of d) h, k.none_below) }
lesser_is p d es (Some u) None h k = record { passes = h.0; is_there = or_left _ _ h.1; none_below = (h.2, none_below p u es k) }
lesser_is p d es (Some u) (Some v) h k = by_test (below v u) refl
  where
    by_test : (b : Bool) → below v u ≡ b → Least p (d ∷ es) (if b then Some v else Some u)
    by_test true e = record { passes = k.passes; is_there = or_right _ _ k.is_there; none_below = (least_lower p v u (element_of d) (below_not_back v u e) h.2, k.none_below) }
    by_test false e = record { passes = h.0; is_there = or_left _ _ h.1; none_below = (h.2, all_lower p u v es e k.none_below) }

pub least_is : (p : Tag → Bool) (es : List Edit) → Least p es (least_new p es)
least_is p [] = refl
least_is p (d ∷ es) = lesser_is p d es (passing p (element_of d)) (least_new p es) (passing_is p (element_of d)) (least_is p es)

pub is_least : (p : Tag → Bool) (es : List Edit) (t : Tag) → least_new p es ≡ Some t → IsLeast p t es
is_least p es t e = subst (Least p es) e (least_is p es)

pub none_new : (p : Tag → Bool) (es : List Edit) → least_new p es ≡ None → any_new p es ≡ false
none_new p es e = subst (Least p es) e (least_is p es)

-- ---- new elements between two tags, and above the last one

pub puts_none_new : (p : Tag → Bool) (es : List Edit) → least_new p es ≡ None → puts p es no_tree ≡ no_tree
puts_none_new p es e = puts_nothing p es no_tree (none_new p es e)

pub above_between : (last : Option Tag) (next t : Tag) → is_above t last ≡ true → Above (is_between (Some t) next) (is_between last next) t
above_between None next t e u = swapped (below t u) (below u next)
  where
    swapped : (a b : Bool) → (a && b) ≡ (b && a)
    swapped true true = refl
    swapped true false = refl
    swapped false true = refl
    swapped false false = refl
above_between (Some last) next t e u = grind (arith, nat_tests)

pub puts_between : (last : Option Tag) (next t : Tag) (es : List Edit) → least_new (is_between last next) es ≡ Some t
    → puts (is_between last next) es no_tree ≡ before (first_new t es) (puts (is_between (Some t) next) es no_tree)
puts_between last next t es e =
    let h = is_least (is_between last next) es t e in
    puts_first (is_between last next) (is_between (Some t) next) t es no_tree h.passes h.is_there h.none_below (above_between last next t (and_left (is_above t last) (below t next) h.passes)) tt
  where
    and_left : (a b : Bool) → (a && b) ≡ true → a ≡ true
    and_left true b p = refl
    and_left false b p = absurd (false_true p)

pub above_above : (last : Option Tag) (t : Tag) → is_above t last ≡ true → Above (above_last (Some t)) (above_last last) t
above_above None t e u = refl
above_above (Some last) t e u = grind (arith, nat_tests)

pub puts_above : (last : Option Tag) (t : Tag) (es : List Edit) → least_new (above_last last) es ≡ Some t
    → puts (above_last last) es no_tree ≡ before (first_new t es) (puts (above_last (Some t)) es no_tree)
puts_above last t es e =
    let h = is_least (above_last last) es t e in
    puts_first (above_last last) (above_last (Some t)) t es no_tree h.passes h.is_there h.none_below (above_above last t h.passes) tt

-- ---- the least tag, edit by edit

pub lesser_none : (a : Option Tag) → lesser a None ≡ a
lesser_none None = refl
lesser_none (Some t) = refl

if_lesser : (b : Bool) (x y : Tag) (c : Bool) → b ≡ c → (if b then Some y else Some x) ≡ (if c then Some y else Some x)
if_lesser b x y c e = ap (λ (d : Bool). if d then Some y else Some x) e

lesser_three : (x y z : Tag) (p q r : Bool) → below y x ≡ p → below z y ≡ q → below z x ≡ r → lesser (if p then Some y else Some x) (Some z) ≡ lesser (Some x) (if q then Some z else Some y)
lesser_three x y z true true true e f g = if_lesser (below z y) y z true f ∙ sym (if_lesser (below z x) x z true g)
lesser_three x y z true true false e f g = absurd (true_false (below z x) (below_trans z y x f e) g)
lesser_three x y z true false r e f g = if_lesser (below z y) y z false f ∙ sym (if_lesser (below y x) x y true e)
lesser_three x y z false true r e f g = refl
lesser_three x y z false false true e f g = absurd (true_false (below z x) g (lower z x y f e))
lesser_three x y z false false false e f g = if_lesser (below z x) x z false g ∙ sym (if_lesser (below y x) x y false e)

-- the least of what comes first, and then the least of the rest
pub lesser_assoc : (a b c : Option Tag) → lesser (lesser a b) c ≡ lesser a (lesser b c)
lesser_assoc None b c = refl
lesser_assoc (Some x) None c = refl
lesser_assoc (Some x) (Some y) None = lesser_none (lesser (Some x) (Some y))
lesser_assoc (Some x) (Some y) (Some z) = lesser_three x y z (below y x) (below z y) (below z x) refl refl refl
