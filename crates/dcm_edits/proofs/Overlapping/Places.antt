-- What edits that do not overlap do to each other's places.
use Rattle.std.proofs.Common.{◌≡◌, ℕ, List, [], ◌∷◌, Bool, true, false, not, ◌||◌, ◌&&◌, refl, sym, ◌∙◌, ap, subst, arith, ◌⊎◌, inl, inr}
use Rattle.std.specs.Prelude.{if◌then◌else◌, nat_eq}
use Rattle.std.proofs.lemmas.Bool.Decides.{nat_tests}
use Rattle.dcm_lemmas.proofs.Lists.{cons_alike}
use Rattle.dcm_lemmas.proofs.Choice.{chosen_false}
use Rattle.dcm_lemmas.proofs.Truth.{and_first, and_first_false, and_second, not_true, or_alike, or_first_false, or_second_false}
use Rattle.dcm_base.specs.declared.tag.Tag.{Tag}
use Rattle.dcm_base.specs.declared.vr.Vr.{Vr}
use Rattle.dcm_base.specs.Tables.Tag.{same_tag, is_private}
use Rattle.dcm_edits.specs.Edit.{Index, number, every, selects, PathEdit, step, insert, modify, erase, erase_item, Edit, on_path, modify_all, erase_all, erase_private, elsewhere, within, Fate, stays, becomes, goes, fate, path_fate, erases}
use Rattle.dcm_edits.specs.Together.{or_else, first_fate, any_erases, all_within}
use Rattle.dcm_edits.specs.Overlap.{Mark, at_tag, at_index, path, same_index, ends, is_every, clash, meets, is_on, is_named, overlaps, ApartFrom, is_public}
use Rattle.dcm_base.proofs.Dictionaries.TagOrder.{tag_is, same_tag_both, number_is, number_self}

abbrev pub IfBecomes : Fate → Type 0 → Type 0
IfBecomes stays P = Unit {0}
IfBecomes (becomes vr value) P = P
IfBecomes goes P = Unit {0}

pub not_both : (t u v : Tag) → same_tag t v ≡ true → same_tag t u ≡ false → same_tag u v ≡ false
not_both t u v p q = grind (arith, nat_tests)

-- the tag that a path begins with
abbrev pub first_tag : PathEdit → Tag
first_tag (step tag index edit) = tag
first_tag (insert tag vr value) = tag
first_tag (modify tag vr value) = tag
first_tag (erase tag) = tag
first_tag (erase_item tag index) = tag

pub or_true : (b c : Bool) → ((b || true) || c) ≡ true
or_true true c = refl
or_true false c = refl

-- two paths that do not meet, of which one ends at its first tag
pub meets-ends : (t : Tag) (b : PathEdit) → meets (at_tag t ∷ []) (path b) ≡ false → same_tag t (first_tag b) ≡ false
meets-ends t (step tag index edit) p = chosen_false _ p
meets-ends t (insert tag vr value) p = chosen_false _ p
meets-ends t (modify tag vr value) p = chosen_false _ p
meets-ends t (erase tag) p = chosen_false _ p
meets-ends t (erase_item tag index) p = chosen_false _ p

pub is_on-first : (t : Tag) (b : PathEdit) → is_on t (path b) ≡ false → same_tag t (first_tag b) ≡ false
is_on-first t (step tag index edit) p = or_first_false _ _ p
is_on-first t (insert tag vr value) p = or_first_false _ _ p
is_on-first t (modify tag vr value) p = or_first_false _ _ p
is_on-first t (erase tag) p = or_first_false _ _ p
is_on-first t (erase_item tag index) p = or_first_false _ _ p

pub path_fate-other : (b : PathEdit) (t : Tag) → same_tag (first_tag b) t ≡ false → path_fate b t ≡ stays
path_fate-other (step tag index edit) t p = refl
path_fate-other (insert tag vr value) t p = ap (λ (c : Bool). if c then becomes vr value else stays) p
path_fate-other (modify tag vr value) t p = ap (λ (c : Bool). if c then becomes vr value else stays) p
path_fate-other (erase tag) t p = ap (λ (c : Bool). if c then goes else stays) p
path_fate-other (erase_item tag index) t p = refl

-- An edit of the tag t that does not overlap another one, which is public.
pub is_not_private : (t v : Tag) → same_tag t v ≡ true → is_private t ≡ false → is_private v ≡ false
is_not_private t v p q = rw (← (tag_is t v p)) q

pub quiet_path : (t v : Tag) (b : PathEdit) → same_tag t v ≡ true → same_tag t (first_tag b) ≡ false → path_fate b v ≡ stays
quiet_path t v b p q = path_fate-other b v (not_both t (first_tag b) v p q)

pub quiet_all : (t u v : Tag) (f : Fate) → same_tag t v ≡ true → same_tag t u ≡ false → (if same_tag u v then f else stays) ≡ stays
quiet_all t u v f p q = ap (λ (c : Bool). if c then f else stays) (not_both t u v p q)

pub same_tag_false : (a b : Tag) → same_tag a b ≡ false → same_tag b a ≡ false
same_tag_false a b p = grind (arith, nat_tests)

-- where an edit whose path is its tag alone replaces the element, an edit apart from it leaves it
pub quiet_ends : (t v : Tag) (a : PathEdit) (b : Edit) → path a ≡ at_tag t ∷ [] → same_tag t v ≡ true → is_private t ≡ false
    → overlaps (on_path a) b ≡ false → fate b v ≡ stays
quiet_ends t v a (on_path q) e p n o = quiet_path t v q p (meets-ends t q (let P : List Mark → Type 0 = λ l. meets l (path q) ≡ false in subst P e o))
quiet_ends t v a (modify_all u vr value) e p n o =
    quiet_all t u v _ p (same_tag_false u t (or_first_false _ _ (let P : List Mark → Type 0 = λ l. is_on u l ≡ false in subst P e o)))
quiet_ends t v a (erase_all u) e p n o =
    quiet_all t u v _ p (same_tag_false u t (or_first_false _ _ (let P : List Mark → Type 0 = λ l. is_on u l ≡ false in subst P e o)))
quiet_ends t v a erase_private e p n o = ap (λ (c : Bool). if c then goes else stays) (is_not_private t v p n)
quiet_ends t v a elsewhere e p n o = refl

-- the same, for an edit of every element of its tag
pub quiet_named : (t v : Tag) (b : Edit) → same_tag t v ≡ true → is_private t ≡ false → is_named t b ≡ false → fate b v ≡ stays
quiet_named t v (on_path q) p n o = quiet_path t v q p (is_on-first t q o)
quiet_named t v (modify_all u vr value) p n o = quiet_all t u v _ p o
quiet_named t v (erase_all u) p n o = quiet_all t u v _ p o
quiet_named t v erase_private p n o = ap (λ (c : Bool). if c then goes else stays) (is_not_private t v p n)
quiet_named t v elsewhere p n o = refl

-- from the fate of an element to its tag
pub if_becomes : (c : Bool) (vr : Vr) (value : List ℕ) (P : Type 0) → (c ≡ true → P) → IfBecomes (if c then becomes vr value else stays) P
if_becomes true vr value P h = h refl
if_becomes false vr value P h = tt

pub if_goes : (c : Bool) (P : Type 0) → IfBecomes (if c then goes else stays) P
if_goes true P = tt
if_goes false P = tt

pub quiet : (a b : Edit) (v : Tag) → overlaps a b ≡ false → is_public a ≡ true → IfBecomes (fate a v) (fate b v ≡ stays)
quiet (on_path (step tag index edit)) b v o n = tt
quiet (on_path (insert tag vr value)) b v o n =
    if_becomes (same_tag tag v) vr value _ (λ p. quiet_ends tag v (insert tag vr value) b refl p (not_true _ (and_first _ _ n)) o)
quiet (on_path (modify tag vr value)) b v o n =
    if_becomes (same_tag tag v) vr value _ (λ p. quiet_ends tag v (modify tag vr value) b refl p (not_true _ (and_first _ _ n)) o)
quiet (on_path (erase tag)) b v o n = if_goes _ _
quiet (on_path (erase_item tag index)) b v o n = tt
quiet (modify_all tag vr value) b v o n =
    if_becomes (same_tag tag v) vr value _ (λ p. quiet_named tag v b p (not_true _ n) o)
quiet (erase_all tag) b v o n = if_goes _ _
quiet erase_private b v o n = if_goes _ _
quiet elsewhere b v o n = tt

pub if_becomes_with : (f : Fate) (P Q R : Type 0) → (P → Q → R) → IfBecomes f P → IfBecomes f Q → IfBecomes f R
if_becomes_with stays P Q R h p q = tt
if_becomes_with (becomes vr value) P Q R h p q = h p q
if_becomes_with goes P Q R h p q = tt

pub if_becomes_always : (f : Fate) (P : Type 0) → P → IfBecomes f P
if_becomes_always stays P p = tt
if_becomes_always (becomes vr value) P p = p
if_becomes_always goes P p = tt

pub or_else_quiet : (f g : Fate) → f ≡ stays → g ≡ stays → or_else f g ≡ stays
or_else_quiet f g p q = cc

pub quiet_all_after : (a : Edit) (es : List Edit) (v : Tag) → ApartFrom a es → is_public a ≡ true → IfBecomes (fate a v) (first_fate es v ≡ stays)
quiet_all_after a [] v o n = if_becomes_always (fate a v) _ refl
quiet_all_after a (b ∷ es) v o n =
    if_becomes_with (fate a v) _ _ _ (λ p q. or_else_quiet (fate b v) (first_fate es v) p q) (quiet a b v o.0 n) (quiet_all_after a es v o.1 n)

-- what edits apart ask of the sets within items
pub within_case : (c : Bool) (x b : Edit) → (c ≡ true → overlaps x b ≡ false) → overlaps (if c then x else elsewhere) b ≡ false
within_case true x b h = h refl
within_case false x b h = refl

pub elsewhere_after : (x : Edit) → overlaps x elsewhere ≡ false
elsewhere_after (on_path a) = refl
elsewhere_after (modify_all tag vr value) = refl
elsewhere_after (erase_all tag) = refl
elsewhere_after erase_private = refl
elsewhere_after elsewhere = refl

pub private_after : (x : Edit) → overlaps x erase_private ≡ false
private_after (on_path a) = refl
private_after (modify_all tag vr value) = refl
private_after (erase_all tag) = refl
private_after erase_private = refl
private_after elsewhere = refl

pub within_case_after : (c : Bool) (x b : Edit) → (c ≡ true → overlaps x b ≡ false) → overlaps x (if c then b else elsewhere) ≡ false
within_case_after true x b h = h refl
within_case_after false x b h = elsewhere_after x

pub same_index_both : (i j : Index) (n : ℕ) → selects i n ≡ true → selects j n ≡ true → same_index i j ≡ false → (is_every i || is_every j) ≡ true
same_index_both (number k) (number m) n p q r =
    absurd (let e : k ≡ m = number_is k n p ∙ sym (number_is m n q) in
    let P : ℕ → Type 0 = λ x. nat_eq k x ≡ true in
    let s : nat_eq k m ≡ true = subst P e (number_self k) in (cc))
same_index_both (number k) every n p q r = refl
same_index_both every (number m) n p q r = refl
same_index_both every every n p q r = cc

pub or_first : (a b c : Bool) → a ≡ true → ((a || b) || c) ≡ true
or_first true b c p = refl
or_first false b c p = cc

-- two steps that select one item lead on to paths that do not meet
pub steps_meet : (s t : Bool) (i j : Index) (n : ℕ) (a b : List Mark) → s ≡ true → selects i n ≡ true → selects j n ≡ true
    → (if s then (if same_index i j then meets a b else clash (at_index i) a (at_index j) b) else false) ≡ false → meets a b ≡ false
steps_meet s t i j n a b p q r h =
    go (same_index i j) refl
    (let P : Bool → Type 0 = λ c. (if c then (if same_index i j then meets a b else clash (at_index i) a (at_index j) b) else false) ≡ false in subst P p h)
  where
    go : (c : Bool) → same_index i j ≡ c → (if c then meets a b else clash (at_index i) a (at_index j) b) ≡ false → meets a b ≡ false
    go true e k = k
    go false e k = absurd (let m : ((is_every i || is_every j) || ends a || ends b) ≡ true = or_first (is_every i || is_every j) (ends a) (ends b) (same_index_both i j n q r e) in (cc))

pub unnamed_case : (c : Bool) (t : Tag) (x : Edit) → is_named t x ≡ false → is_named t (if c then x else elsewhere) ≡ false
unnamed_case true t x p = p
unnamed_case false t x p = refl

pub within_named : (t : Tag) (b : Edit) (v : Tag) (n : ℕ) → is_named t b ≡ false → is_named t (within b v n) ≡ false
within_named t (on_path (step u j y)) v n o = unnamed_case (same_tag u v && selects j n) t (on_path y) (or_second_false _ _ o)
within_named t (on_path (insert u vr value)) v n o = refl
within_named t (on_path (modify u vr value)) v n o = refl
within_named t (on_path (erase u)) v n o = refl
within_named t (on_path (erase_item u j)) v n o = refl
within_named t (modify_all u vr value) v n o = o
within_named t (erase_all u) v n o = o
within_named t erase_private v n o = o
within_named t elsewhere v n o = o

pub within_apart : (a b : Edit) (v : Tag) (n : ℕ) → overlaps a b ≡ false → overlaps (within a v n) (within b v n) ≡ false
within_apart (on_path (step t i x)) (on_path (step u j y)) v n o =
    within_case (same_tag t v && selects i n) (on_path x) _
    (λ p. within_case_after (same_tag u v && selects j n) (on_path x) (on_path y)
    (λ q. steps_meet (same_tag t u) true i j n (path x) (path y)
    (same_tag_both t u v (and_first _ _ p) (and_first _ _ q)) (and_second _ _ p) (and_second _ _ q) o))
within_apart (on_path (step t i x)) (on_path (insert u vr value)) v n o = elsewhere_after _
within_apart (on_path (step t i x)) (on_path (modify u vr value)) v n o = elsewhere_after _
within_apart (on_path (step t i x)) (on_path (erase u)) v n o = elsewhere_after _
within_apart (on_path (step t i x)) (on_path (erase_item u j)) v n o = elsewhere_after _
within_apart (on_path (step t i x)) (modify_all u vr value) v n o = within_case (same_tag t v && selects i n) (on_path x) _ (λ p. or_second_false _ _ o)
within_apart (on_path (step t i x)) (erase_all u) v n o = within_case (same_tag t v && selects i n) (on_path x) _ (λ p. or_second_false _ _ o)
within_apart (on_path (step t i x)) erase_private v n o = private_after _
within_apart (on_path (step t i x)) elsewhere v n o = elsewhere_after _
within_apart (on_path (insert t vr value)) b v n o = refl
within_apart (on_path (modify t vr value)) b v n o = refl
within_apart (on_path (erase t)) b v n o = refl
within_apart (on_path (erase_item t i)) b v n o = refl
within_apart (modify_all t vr value) b v n o = within_named t b v n o
within_apart (erase_all t) b v n o = within_named t b v n o
within_apart erase_private b v n o = refl
within_apart elsewhere b v n o = refl

pub public_case : (c : Bool) (x : Edit) → is_public x ≡ true → is_public (if c then x else elsewhere) ≡ true
public_case true x p = p
public_case false x p = refl

pub within_public : (a : Edit) (v : Tag) (n : ℕ) → is_public a ≡ true → is_public (within a v n) ≡ true
within_public (on_path (step t i x)) v n p = public_case (same_tag t v && selects i n) (on_path x) (and_second _ _ p)
within_public (on_path (insert t vr value)) v n p = refl
within_public (on_path (modify t vr value)) v n p = refl
within_public (on_path (erase t)) v n p = refl
within_public (on_path (erase_item t i)) v n p = refl
within_public (modify_all t vr value) v n p = p
within_public (erase_all t) v n p = p
within_public erase_private v n p = p
within_public elsewhere v n p = p

pub all_within_apart : (a : Edit) (es : List Edit) (v : Tag) (n : ℕ) → ApartFrom a es → ApartFrom (within a v n) (all_within es v n)
all_within_apart a [] v n o = tt
all_within_apart a (b ∷ es) v n o = (within_apart a b v n o.0, all_within_apart a es v n o.1)

-- an edit that asks the same of every item of the sequence
abbrev pub IsBlind : Edit → Tag → Type 0
IsBlind b v = ((m n : ℕ) → erases b v m ≡ erases b v n) × ((m n : ℕ) → within b v m ≡ within b v n)

abbrev pub AreBlind : List Edit → Tag → Type 0
AreBlind es v = ((m n : ℕ) → any_erases es v m ≡ any_erases es v n) × ((m n : ℕ) → all_within es v m ≡ all_within es v n)

pub blind_path : (b : PathEdit) (v : Tag) → same_tag (first_tag b) v ≡ false → IsBlind (on_path b) v
blind_path (step u j y) v p = (
  λ m n. refl,
  λ m n. ap (λ (c : Bool). if c then on_path y else elsewhere) (and_first_false _ (selects j m) p ∙ sym (and_first_false _ (selects j n) p)),
)
blind_path (insert u vr value) v p = (λ m n. refl, λ m n. refl)
blind_path (modify u vr value) v p = (λ m n. refl, λ m n. refl)
blind_path (erase u) v p = (λ m n. refl, λ m n. refl)
blind_path (erase_item u j) v p = (λ m n. and_first_false _ (selects j m) p ∙ sym (and_first_false _ (selects j n) p), λ m n. refl)

pub item_first : (t : Tag) (i : Index) (b : PathEdit) → meets (at_tag t ∷ at_index i ∷ []) (path b) ≡ false → same_tag t (first_tag b) ≡ false
item_first t i (step u j y) p = chosen_false _ (ap (λ (x : Bool). if same_tag t u then x else false) (sym (clashes (same_index i j) i j (path y))) ∙ p)
  where
    clashes : (c : Bool) (i j : Index) (q : List Mark) → (if c then meets [] q else clash (at_index i) [] (at_index j) q) ≡ true
    clashes true i j q = refl
    clashes false i j q = or_true (is_every i || is_every j) (ends q)
item_first t i (insert u vr value) p = chosen_false _ p
item_first t i (modify u vr value) p = chosen_false _ p
item_first t i (erase u) p = chosen_false _ p
item_first t i (erase_item u j) p = chosen_false _ (ap (λ (x : Bool). if same_tag t u then x else false) (sym (clashes (same_index i j) i j)) ∙ p)
  where
    clashes : (c : Bool) (i j : Index) → (if c then meets [] [] else clash (at_index i) [] (at_index j) []) ≡ true
    clashes true i j = refl
    clashes false i j = or_true (is_every i || is_every j) true

-- beside an edit that erases an item, the others number no items of that sequence
pub blind_beside : (t : Tag) (i : Index) (b : Edit) (v : Tag) → same_tag t v ≡ true → overlaps (on_path (erase_item t i)) b ≡ false → IsBlind b v
blind_beside t i (on_path b) v p o = blind_path b v (not_both t (first_tag b) v p (item_first t i b o))
blind_beside t i (modify_all u vr value) v p o = (λ m n. refl, λ m n. refl)
blind_beside t i (erase_all u) v p o = (λ m n. refl, λ m n. refl)
blind_beside t i erase_private v p o = (λ m n. refl, λ m n. refl)
blind_beside t i elsewhere v p o = (λ m n. refl, λ m n. refl)

pub all_blind_beside : (t : Tag) (i : Index) (es : List Edit) (v : Tag) → same_tag t v ≡ true → ApartFrom (on_path (erase_item t i)) es → AreBlind es v
all_blind_beside t i [] v p o = (λ m n. refl, λ m n. refl)
all_blind_beside t i (b ∷ es) v p o =
    let first : IsBlind b v = blind_beside t i b v p o.0 in
    let more : AreBlind es v = all_blind_beside t i es v p o.1 in
    (λ m n. or_alike _ _ _ _ (first.0 m n) (more.0 m n), λ m n. cons_alike _ _ _ _ (first.1 m n) (more.1 m n))

-- an edit erases no item of the sequence, or the others number none
abbrev pub CountsAlike : Edit → List Edit → Tag → Type 0
CountsAlike a es v = ((n : ℕ) → erases a v n ≡ false) ⊎ AreBlind es v

pub counts_alike : (a : Edit) (es : List Edit) (v : Tag) → ApartFrom a es → CountsAlike a es v
counts_alike (on_path (erase_item t i)) es v o = go (same_tag t v) refl
  where
    go : (c : Bool) → same_tag t v ≡ c → CountsAlike (on_path (erase_item t i)) es v
    go true e = inr (all_blind_beside t i es v e o)
    go false e = inl (λ n. and_first_false _ (selects i n) e)
counts_alike (on_path (step t i x)) es v o = inl (λ n. refl)
counts_alike (on_path (insert t vr value)) es v o = inl (λ n. refl)
counts_alike (on_path (modify t vr value)) es v o = inl (λ n. refl)
counts_alike (on_path (erase t)) es v o = inl (λ n. refl)
counts_alike (modify_all t vr value) es v o = inl (λ n. refl)
counts_alike (erase_all t) es v o = inl (λ n. refl)
counts_alike erase_private es v o = inl (λ n. refl)
counts_alike elsewhere es v o = inl (λ n. refl)
