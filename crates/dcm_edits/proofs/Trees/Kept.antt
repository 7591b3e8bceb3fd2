-- The elements of a data set as the edits leave them, with the new ones that pass before them.
use Rattle.std.proofs.Common.{◌≡◌, ℕ, suc, List, [], ◌∷◌, Option, Some, None, Bool, true, false, not, ◌&&◌, refl, sym, ◌∙◌, ap}
use Rattle.std.specs.Prelude.{if◌then◌else◌}
use Rattle.dcm_lemmas.proofs.Truth.{or_first}
use Rattle.dcm_base.specs.declared.tag.Tag.{Tag}
use Rattle.dcm_base.specs.declared.length.Length.{Length}
use Rattle.dcm_base.specs.Tree.Tree.{Trees, no_tree, leaf, sequence, fragments, Items, no_item, item, then_trees}
use Rattle.dcm_base.specs.Tables.Tag.{same_tag, below}
use Rattle.dcm_edits.specs.NewOnes.{above_last, put_new, puts, is_between}
use Rattle.dcm_edits.specs.Edit.{Edit, Fate, stays, becomes, goes, settled, has, with_new, NewElement, no_element, new_leaf, new_sequence, element_of}
use Rattle.dcm_edits.specs.Together.{completed, first_fate, any_erases, all_within, with_all_missing, all_changed, all_changed_items}
use Rattle.dcm_edits.specs.Overlap.{AreApart, ArePublic}
use Rattle.dcm_base.specs.Lines.Ascending.{Ascend, ItemsAscend, AllBelow}
use Rattle.dcm_base.proofs.Dictionaries.TagOrder.{below_trans}
use Rattle.dcm_edits.proofs.Trees.Laws.{settled_alike}
use Rattle.dcm_edits.proofs.Overlapping.Items.{all_within_all_apart, all_within_public}
use Rattle.dcm_edits.proofs.Trees.OneByOne.{Ascend-all_changed}
use Rattle.dcm_base.specs.Bytes.Spelling.{last_tag}
use Rattle.dcm_edits.proofs.Trees.NewOnes.{Heads, leaf_heads, sequence_heads, fragments_heads, settled_heads, settled_covers, no_new, within_test, alike, off, and_all, puts_round}

abbrev mutual
  pub kept : List Edit → Option Tag → Trees → Trees
  kept es last no_tree = no_tree
  kept es last (leaf tag vr value rest) =
      then_trees (puts (is_between last tag) es no_tree) (settled (first_fate es tag) tag (leaf tag vr value) (kept es (Some tag) rest))
  kept es last (sequence tag vr declared items rest) =
      then_trees (puts (is_between last tag) es no_tree)
      (settled (first_fate es tag) tag (sequence tag vr declared (kept_items es tag 0 items)) (kept es (Some tag) rest))
  kept es last (fragments tag vr values rest) =
      then_trees (puts (is_between last tag) es no_tree) (settled (first_fate es tag) tag (fragments tag vr values) (kept es (Some tag) rest))

  pub kept_items : List Edit → Tag → ℕ → Items → Items
  kept_items es tag n no_item = no_item
  kept_items es tag n (item declared set rest) =
      if any_erases es tag n
      then kept_items es tag (suc n) rest
      else item declared (then_trees (kept (all_within es tag n) None set) (puts (above_last (last_tag None set)) (all_within es tag n) no_tree)) (kept_items es tag (suc n) rest)

-- every tag of the trees and each lesser one passes
abbrev pub AllUnder : (Tag → Bool) → Trees → Type 0
AllUnder q no_tree = Unit {0}
AllUnder q (leaf tag vr value rest) = ((t : Tag) → below t tag ≡ true → q t ≡ true) × AllUnder q rest
AllUnder q (sequence tag vr declared items rest) = ((t : Tag) → below t tag ≡ true → q t ≡ true) × AllUnder q rest
AllUnder q (fragments tag vr values rest) = ((t : Tag) → below t tag ≡ true → q t ≡ true) × AllUnder q rest

-- ---- tests that agree

new_same : (p q : Tag → Bool) (w : NewElement) (set : Trees) → ((t : Tag) → p t ≡ q t) → put_new p w set ≡ put_new q w set
new_same p q no_element set h = refl
new_same p q (new_leaf t vr value) set h = alike p q t (new_leaf t vr value) set (h t)
new_same p q (new_sequence t held) set h = alike p q t (new_sequence t held) set (h t)

pub puts_alike : (p q : Tag → Bool) (es : List Edit) (set : Trees) → ((t : Tag) → p t ≡ q t) → puts p es set ≡ puts q es set
puts_alike p q [] set h = refl
puts_alike p q (e ∷ es) set h =
    let w : NewElement = completed es (element_of e) in
    ap (λ (s : Trees). puts p es s) (new_same p q w set h) ∙ puts_alike p q es (put_new q w set) h

new_none : (p : Tag → Bool) (w : NewElement) (set : Trees) → ((t : Tag) → p t ≡ false) → put_new p w set ≡ set
new_none p no_element set h = refl
new_none p (new_leaf t vr value) set h = off p t (new_leaf t vr value) set (h t)
new_none p (new_sequence t held) set h = off p t (new_sequence t held) set (h t)

pub puts_none : (p : Tag → Bool) (es : List Edit) (set : Trees) → ((t : Tag) → p t ≡ false) → puts p es set ≡ set
puts_none p [] set h = refl
puts_none p (e ∷ es) set h =
    ap (λ (s : Trees). puts p es s) (new_none p (completed es (element_of e)) set h) ∙ puts_none p es set h

-- ---- a closed data set

if_other : (b : Bool) (x y : Trees) → (if b then x else y) ≡ (if true && not b then y else x)
if_other true x y = refl
if_other false x y = refl

missing_puts : (w : NewElement) (set : Trees) → with_new w set ≡ put_new (λ t. true) w set
missing_puts no_element set = refl
missing_puts (new_leaf t vr value) set = if_other (has t set) _ _
missing_puts (new_sequence t held) set = if_other (has t set) _ _

pub all_missing_puts : (es : List Edit) (set : Trees) → with_all_missing es set ≡ puts (λ t. true) es set
all_missing_puts [] set = refl
all_missing_puts (e ∷ es) set =
    let w : NewElement = completed es (element_of e) in
    ap (λ (s : Trees). with_all_missing es s) (missing_puts w set) ∙ all_missing_puts es (put_new (λ t. true) w set)

-- ---- all elements

pub followed_twice : (a b c : Trees) → then_trees a (then_trees b c) ≡ then_trees (then_trees a b) c
followed_twice no_tree b c = refl
followed_twice (leaf tag vr value rest) b c = ap (λ (r : Trees). leaf tag vr value r) (followed_twice rest b c)
followed_twice (sequence tag vr declared items rest) b c = ap (λ (r : Trees). sequence tag vr declared items r) (followed_twice rest b c)
followed_twice (fragments tag vr values rest) b c = ap (λ (r : Trees). fragments tag vr values r) (followed_twice rest b c)

settled_followed : (f : Fate) (tag : Tag) (k : Trees → Trees) (x y : Trees) → then_trees (k x) y ≡ k (then_trees x y) → settled f tag k (then_trees x y) ≡ then_trees (settled f tag k x) y
settled_followed stays tag k x y p = sym p
settled_followed (becomes vr value) tag k x y p = refl
settled_followed goes tag k x y p = refl

kept_step : (es : List Edit) (q : Tag → Bool) (last : Option Tag) (tag : Tag) (k l : Trees → Trees) (x w y : Trees) → Heads tag k → ((t : Tag) (z : Trees) → same_tag t tag ≡ true → has t (k z) ≡ true)
    → AreApart es → ArePublic es → Ascend (Some tag) x → above_last last tag ≡ true → ((t : Tag) → below t tag ≡ true → q t ≡ true)
    → k ≡ l → then_trees (l w) y ≡ l (then_trees w y) → puts (within_test (Some tag) q) es x ≡ then_trees w y
    → puts (within_test last q) es (settled (first_fate es tag) tag k x)
    ≡ then_trees (then_trees (puts (is_between last tag) es no_tree) (settled (first_fate es tag) tag l w)) y
kept_step es q last tag k l x w y h there o n s p u e m f =
    puts_round last q tag (λ r. settled (first_fate es tag) tag k r) es no_tree x (settled_heads (first_fate es tag) tag k h)
    (settled_covers (first_fate es tag) tag k es there (λ g. no_new es tag o n g)) tt s p u
    ∙ ap (λ (z : Trees). then_trees (puts (is_between last tag) es no_tree) z)
    (settled_alike _ _ tag k l _ _ refl e f ∙ settled_followed (first_fate es tag) tag l w y m)
    ∙ followed_twice (puts (is_between last tag) es no_tree) (settled (first_fate es tag) tag l w) y

pub under_all : (set : Trees) → AllUnder (λ t. true) set
under_all no_tree = tt
under_all (leaf tag vr value rest) = ((λ t p. refl), under_all rest)
under_all (sequence tag vr declared items rest) = ((λ t p. refl), under_all rest)
under_all (fragments tag vr values rest) = ((λ t p. refl), under_all rest)

if_items : (b : Bool) (declared : Length) (r q : Items) (s t : Trees) → r ≡ q → s ≡ t → (if b then r else item declared s r) ≡ (if b then q else item declared t q)
if_items b declared r q s t e f = cc

mutual
  unfolding last_tag

  pub kept_within : (es : List Edit) (q : Tag → Bool) (last : Option Tag) (set : Trees) → AreApart es → ArePublic es → Ascend last set → AllUnder q set
      → puts (within_test last q) es (all_changed es set) ≡ then_trees (kept es last set) (puts (within_test (last_tag last set) q) es no_tree)
  kept_within es q last no_tree o n a u = refl
  kept_within es q last (leaf tag vr value rest) o n a u =
      kept_step es q last tag (leaf tag vr value) (leaf tag vr value) _ _ _ (leaf_heads tag vr value) (λ t y p. or_first _ _ p) o n
      (Ascend-all_changed (Some tag) es rest a.1) a.0 u.0 refl refl (kept_within es q (Some tag) rest o n a.1 u.1)
  kept_within es q last (sequence tag vr declared items rest) o n a u =
      kept_step es q last tag (sequence tag vr declared (all_changed_items es tag 0 items)) (sequence tag vr declared (kept_items es tag 0 items)) _ _ _
      (sequence_heads tag vr declared (all_changed_items es tag 0 items)) (λ t y p. or_first _ _ p) o n
      (Ascend-all_changed (Some tag) es rest a.2) a.0 u.0
      (ap {B = Trees → Trees} (λ (i : Items). sequence tag vr declared i) (items_kept es tag 0 items o n a.1)) refl (kept_within es q (Some tag) rest o n a.2 u.1)
  kept_within es q last (fragments tag vr values rest) o n a u =
      kept_step es q last tag (fragments tag vr values) (fragments tag vr values) _ _ _ (fragments_heads tag vr values) (λ t y p. or_first _ _ p) o n
      (Ascend-all_changed (Some tag) es rest a.1) a.0 u.0 refl refl (kept_within es q (Some tag) rest o n a.1 u.1)

  pub items_kept : (es : List Edit) (tag : Tag) (m : ℕ) (items : Items) → AreApart es → ArePublic es → ItemsAscend items → all_changed_items es tag m items ≡ kept_items es tag m items
  items_kept es tag m no_item o n a = refl
  items_kept es tag m (item declared set rest) o n a =
      let inner : List Edit = all_within es tag m in
      if_items (any_erases es tag m) declared _ _ _ _ (items_kept es tag (suc m) rest o n a.1)
      (all_missing_puts inner (all_changed inner set)
      ∙ kept_within inner (λ t. true) None set (all_within_all_apart es tag m o) (all_within_public es tag m n) a.0 (under_all set)
      ∙ ap (λ (y : Trees). then_trees (kept inner None set) y)
      (puts_alike (within_test (last_tag None set) (λ t. true)) (above_last (last_tag None set)) inner no_tree (λ t. and_all (above_last (last_tag None set) t) true refl)))

-- ---- what passes

pub under_tag : (u : Tag) (set : Trees) → AllBelow u set → AllUnder (λ t. below t u) set
under_tag u no_tree b = tt
under_tag u (leaf tag vr value rest) b = ((λ t p. below_trans t tag u p b.0), under_tag u rest b.1)
under_tag u (sequence tag vr declared items rest) b = ((λ t p. below_trans t tag u p b.0), under_tag u rest b.1)
under_tag u (fragments tag vr values rest) b = ((λ t p. below_trans t tag u p b.0), under_tag u rest b.1)

some_is : (t u v : Tag) → Some t ≡ Some u → below v t ≡ true → below v u ≡ true
some_is t u v e p = let h : t ≡ u = cc in rw (← h) p

below_last : (t tag u : Tag) (rest : Trees) → Ascend (Some tag) rest → last_tag (Some tag) rest ≡ Some u → below t tag ≡ true → below t u ≡ true
unfolding last_tag
below_last t tag u no_tree a e p = some_is tag u t e p
below_last t tag u (leaf g vr value rest) a e p = below_last t g u rest a.1 e (below_trans t tag g p a.0)
below_last t tag u (sequence g vr declared items rest) a e p = below_last t g u rest a.2 e (below_trans t tag g p a.0)
below_last t tag u (fragments g vr values rest) a e p = below_last t g u rest a.1 e (below_trans t tag g p a.0)

pub under_last : (last : Option Tag) (u : Tag) (set : Trees) → Ascend last set → last_tag last set ≡ Some u → AllUnder (λ t. below t u) set
unfolding last_tag
under_last last u no_tree a e = tt
under_last last u (leaf tag vr value rest) a e = ((λ t p. below_last t tag u rest a.1 e p), under_last (Some tag) u rest a.1 e)
under_last last u (sequence tag vr declared items rest) a e = ((λ t p. below_last t tag u rest a.2 e p), under_last (Some tag) u rest a.2 e)
under_last last u (fragments tag vr values rest) a e = ((λ t p. below_last t tag u rest a.1 e p), under_last (Some tag) u rest a.1 e)
