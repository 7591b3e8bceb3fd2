-- Data sets whose elements have the same tags, in order, and bytes that are alike, each those of its other.
use Rattle.std.proofs.Common.{◌≡◌, ◌∙◌, ap, sym, refl, ℕ, List, [], ◌∷◌, ◌++◌, Bool, true, false, ◌||◌, if◌then◌else◌, append-nil}
use Rattle.dcm_base.specs.declared.length.Length.{Length}
use Rattle.dcm_base.specs.declared.syntax.Syntax.{Syntax}
use Rattle.dcm_base.specs.declared.tag.Tag.{Tag}
use Rattle.dcm_base.specs.declared.vr.Vr.{Vr}
use Rattle.dcm_base.specs.Conversion.Recode.{recode_set}
use Rattle.dcm_base.specs.Tables.Tag.{below, same_tag}
use Rattle.dcm_base.specs.Tree.Tree.{Trees, no_tree, leaf, sequence, fragments, Items, then_trees}
use Rattle.dcm_edits.specs.Edit.{has}
use Rattle.dcm_deid.specs.Saying.{put_in}
use Rattle.dcm_deid.proofs.Trees.Said.{set_with, set_with_all}

module _ (R : List ℕ → List ℕ → Type 0) where
  pub data ArePaired : Syntax → Trees → Trees → Type 0 where
    both_end : (s : Syntax) → ArePaired s no_tree no_tree
    two_leaves : (s : Syntax) (t : Tag) (vr wr : Vr) (v w : List ℕ) (a b : Trees) → R (recode_set s (leaf t vr v no_tree)) (recode_set s (leaf t wr w no_tree)) → ArePaired s a b → ArePaired s (leaf t vr v a) (leaf t wr w b)
    two_sequences : (s : Syntax) (t : Tag) (vr wr : Vr) (m n : Length) (i j : Items) (a b : Trees) → R (recode_set s (sequence t vr m i no_tree)) (recode_set s (sequence t wr n j no_tree)) → ArePaired s a b
        → ArePaired s (sequence t vr m i a) (sequence t wr n j b)
    two_lists : (s : Syntax) (t : Tag) (vr wr : Vr) (p q : List (List ℕ)) (a b : Trees) → R (recode_set s (fragments t vr p no_tree)) (recode_set s (fragments t wr q no_tree)) → ArePaired s a b → ArePaired s (fragments t vr p a) (fragments t wr q b)

  -- ---- with the elements that are put

  module _ (self : (x : List ℕ) → R x x) where
    paired_self : (s : Syntax) (x : Trees) → ArePaired s x x
    paired_self s no_tree = both_end s
    paired_self s (leaf t vr v rest) = two_leaves s t vr vr v v rest rest (self _) (paired_self s rest)
    paired_self s (sequence t vr declared items rest) = two_sequences s t vr vr declared declared items items rest rest (self _) (paired_self s rest)
    paired_self s (fragments t vr parts rest) = two_lists s t vr vr parts parts rest rest (self _) (paired_self s rest)

    then_paired : (s : Syntax) (e a b : Trees) → ArePaired s a b → ArePaired s (then_trees e a) (then_trees e b)
    then_paired s no_tree a b h = h
    then_paired s (leaf t vr v rest) a b h = two_leaves s t vr vr v v _ _ (self _) (then_paired s rest a b h)
    then_paired s (sequence t vr declared items rest) a b h = two_sequences s t vr vr declared declared items items _ _ (self _) (then_paired s rest a b h)
    then_paired s (fragments t vr parts rest) a b h = two_lists s t vr vr parts parts _ _ (self _) (then_paired s rest a b h)

    if_paired : (s : Syntax) (c : Bool) (x y p q : Trees) → ArePaired s x p → ArePaired s y q → ArePaired s (if c then x else y) (if c then p else q)
    if_paired s true x y p q h k = h
    if_paired s false x y p q h k = k

    put_paired : (s : Syntax) (t : Tag) (e a b : Trees) → ArePaired s a b → ArePaired s (put_in t e a) (put_in t e b)
    put_paired _ t e _ _ (both_end s) = paired_self s e
    put_paired _ t e _ _ (two_leaves s u vr wr v w a b is h) =
        if_paired s (below t u) _ _ _ _ (then_paired s e _ _ (two_leaves s u vr wr v w a b is h)) (two_leaves s u vr wr v w _ _ is (put_paired s t e a b h))
    put_paired _ t e _ _ (two_sequences s u vr wr m n i j a b is h) =
        if_paired s (below t u) _ _ _ _ (then_paired s e _ _ (two_sequences s u vr wr m n i j a b is h)) (two_sequences s u vr wr m n i j _ _ is (put_paired s t e a b h))
    put_paired _ t e _ _ (two_lists s u vr wr p q a b is h) =
        if_paired s (below t u) _ _ _ _ (then_paired s e _ _ (two_lists s u vr wr p q a b is h)) (two_lists s u vr wr p q _ _ is (put_paired s t e a b h))

    has_paired : (s : Syntax) (t : Tag) (a b : Trees) → ArePaired s a b → has t a ≡ has t b
    has_paired _ t _ _ (both_end s) = refl
    has_paired _ t _ _ (two_leaves s u vr wr v w a b is h) = ap (λ (c : Bool). same_tag t u || c) (has_paired s t a b h)
    has_paired _ t _ _ (two_sequences s u vr wr m n i j a b is h) = ap (λ (c : Bool). same_tag t u || c) (has_paired s t a b h)
    has_paired _ t _ _ (two_lists s u vr wr p q a b is h) = ap (λ (c : Bool). same_tag t u || c) (has_paired s t a b h)

    either_paired : (s : Syntax) (c d : Bool) (x y p q : Trees) → c ≡ d → ArePaired s x p → ArePaired s y q → ArePaired s (if c then x else y) (if d then p else q)
    either_paired s true true x y p q e h k = h
    either_paired s true false x y p q e h k = absurd (cc)
    either_paired s false true x y p q e h k = absurd (cc)
    either_paired s false false x y p q e h k = k

    with_paired : (s : Syntax) (new : Tag × Trees) (a b : Trees) → ArePaired s a b → ArePaired s (set_with new a) (set_with new b)
    with_paired s new a b h = either_paired s (has new.0 a) (has new.0 b) _ _ _ _ (has_paired s new.0 a b h) h (put_paired s new.0 new.1 a b h)

    pub all_paired : (s : Syntax) (news : List (Tag × Trees)) (a b : Trees) → ArePaired s a b → ArePaired s (set_with_all news a) (set_with_all news b)
    all_paired s [] a b h = h
    all_paired s (new ∷ news) a b h = all_paired s news (set_with new a) (set_with new b) (with_paired s new a b h)

  -- ---- their bytes

  -- it holds of no bytes, and of more bytes where it does of parts of them
  pub record Joins : Type 0 where
    pub none : R [] []
    pub more : (x y r q : List ℕ) → R (x ++ []) (y ++ []) → R r q → R (x ++ r) (y ++ q)

  pub recodes_paired : Joins → (s : Syntax) (a b : Trees) → ArePaired s a b → R (recode_set s a) (recode_set s b)
  unfolding recode_set
  recodes_paired j _ _ _ (both_end s) = j.none
  recodes_paired j _ _ _ (two_leaves s t vr wr v w a b e h) = j.more _ _ _ _ e (recodes_paired j s a b h)
  recodes_paired j _ _ _ (two_sequences s t vr wr m n i j2 a b e h) = j.more _ _ _ _ e (recodes_paired j s a b h)
  recodes_paired j _ _ _ (two_lists s t vr wr p q a b e h) = j.more _ _ _ _ e (recodes_paired j s a b h)

-- ---- they are written alike

abbrev pub Same : List ℕ → List ℕ → Type 0
Same x y = x ≡ y

abbrev pub AreAlike : Syntax → Trees → Trees → Type 0
AreAlike s a b = ArePaired Same s a b

one_more : (x y r q : List ℕ) → x ++ [] ≡ y ++ [] → r ≡ q → x ++ r ≡ y ++ q
one_more x y r q e f = let same : x ≡ y = sym (append-nil x) ∙ e ∙ append-nil y in cc

pub recodes_alike : (s : Syntax) (a b : Trees) → AreAlike s a b → recode_set s a ≡ recode_set s b
recodes_alike s a b h = recodes_paired Same (record { none = refl; more = one_more }) s a b h

pub all_alike : (s : Syntax) (news : List (Tag × Trees)) (a b : Trees) → AreAlike s a b → AreAlike s (set_with_all news a) (set_with_all news b)
all_alike s news a b h = all_paired Same (λ x. refl) s news a b h
