-- Laws of the edits of trees.
use Rattle.std.proofs.Common.{◌≡◌, ℕ, suc, [], ◌∷◌, Option, Some, None, Bool, true, false, refl, ◌∙◌, ap}
use Rattle.std.specs.Prelude.{if◌then◌else◌}
use Rattle.dcm_lemmas.proofs.Truth.{or_false, or_first_false, or_second_false}
use Rattle.dcm_base.specs.declared.tag.Tag.{Tag}
use Rattle.dcm_base.specs.declared.vr.Vr.{Vr}
use Rattle.dcm_base.specs.declared.length.Length.{Length}
use Rattle.dcm_base.specs.Tree.Tree.{Trees, no_tree, leaf, sequence, fragments, Items, no_item, item, then_trees, item_count}
use Rattle.dcm_base.specs.Tree.Front.{Front, front, OpenTree, nothing_open, open_leaf, open_sequence, open_fragments, OpenItem, no_open_item, open_item}
use Rattle.dcm_base.specs.Tables.Tag.{below, is_above}
use Rattle.dcm_base.specs.Lines.Ascending.{Ascend}
use Rattle.dcm_base.proofs.Dictionaries.TagOrder.{below_other, is_above_below}
use Rattle.dcm_edits.specs.Edit.{NewElement, no_element, new_leaf, new_sequence, before, element_of, with_new, with_new_so_far, has, put, Edit, within, Fate, stays, becomes, goes, fate, settled, erases, made_whole, while_it_stays, changed, changed_items, edited_by, still_open, open_item_by, open_made_whole}
use Rattle.dcm_edits.specs.Together.{completed, or_else, all_changed, all_changed_items, together, all_still_open, all_open_item, all_open_made_whole}

pub or_else_stays : (f : Fate) → or_else f stays ≡ f
or_else_stays stays = refl
or_else_stays (becomes vr value) = refl
or_else_stays goes = refl

pub settled_alike : (f g : Fate) (tag : Tag) (k l : Trees → Trees) (r s : Trees) → f ≡ g → k ≡ l → r ≡ s → settled f tag k r ≡ settled g tag l s
settled_alike f g tag k l r s p q o = cc

pub cond_alike : {A : Type 0} (b c : Bool) (x y x' y' : A) → b ≡ c → x ≡ x' → y ≡ y' → (if b then x else y) ≡ (if c then x' else y')
cond_alike b c x y x' y' p q o = cc

pub item_alike : (declared : Length) (s t : Trees) (r q : Items) → s ≡ t → r ≡ q → item declared s r ≡ item declared t q
item_alike declared s t r q o p = cc

pub completed-none : (x : NewElement) → completed [] x ≡ x
completed-none no_element = refl
completed-none (new_leaf tag vr value) = refl
completed-none (new_sequence tag held) = refl

pub with_new_alike : (x y : NewElement) (s t : Trees) → x ≡ y → s ≡ t → with_new x s ≡ with_new y t
with_new_alike x y s t p q = cc

-- one edit, all at once
mutual
  pub all_changed-one : (e : Edit) (set : Trees) → all_changed (e ∷ []) set ≡ changed e set
  all_changed-one e no_tree = refl
  all_changed-one e (leaf tag vr value rest) =
      settled_alike _ _ tag _ _ _ _ (or_else_stays (fate e tag)) refl (all_changed-one e rest)
  all_changed-one e (sequence tag vr declared items rest) =
      settled_alike _ _ tag _ _ _ _ (or_else_stays (fate e tag))
      (ap (λ (i : Items). sequence tag vr declared i) (all_changed_items-one e tag 0 items))
      (all_changed-one e rest)
  all_changed-one e (fragments tag vr values rest) =
      settled_alike _ _ tag _ _ _ _ (or_else_stays (fate e tag)) refl (all_changed-one e rest)

  pub all_changed_items-one : (e : Edit) (tag : Tag) (n : ℕ) (items : Items) → all_changed_items (e ∷ []) tag n items ≡ changed_items e tag n items
  all_changed_items-one e tag n no_item = refl
  all_changed_items-one e tag n (item declared set rest) =
      cond_alike _ _ _ _ _ _ (or_false (erases e tag n)) (all_changed_items-one e tag (suc n) rest)
      (item_alike declared _ _ _ _ (with_new_alike _ _ _ _ (completed-none (element_of (within e tag n))) (all_changed-one (within e tag n) set)) (all_changed_items-one e tag (suc n) rest))

pub sequence_alike : (tag : Tag) (vr : Vr) (declared : Length) (i j : Items) (r s : Trees) → i ≡ j → r ≡ s
    → sequence tag vr declared i r ≡ sequence tag vr declared j s
sequence_alike tag vr declared i j r s p q = cc

pub made_whole_alike : (f g : Fate) (tag : Tag) → f ≡ g → made_whole f tag ≡ made_whole g tag
made_whole_alike f g tag p = ap (λ h. made_whole h tag) p

pub all_open_made_whole-one : (e : Edit) (o : OpenTree) → all_open_made_whole (e ∷ []) o ≡ open_made_whole e o
all_open_made_whole-one e nothing_open = refl
all_open_made_whole-one e (open_leaf tag vr size value) = made_whole_alike _ _ tag (or_else_stays (fate e tag))
all_open_made_whole-one e (open_sequence tag vr declared items last) = made_whole_alike _ _ tag (or_else_stays (fate e tag))
all_open_made_whole-one e (open_fragments tag vr values last) = made_whole_alike _ _ tag (or_else_stays (fate e tag))

pub while_it_stays_alike : (f g : Fate) (o p : OpenTree) → f ≡ g → o ≡ p → while_it_stays f o ≡ while_it_stays g p
while_it_stays_alike f g o p q r = cc

pub open_sequence_alike : (tag : Tag) (vr : Vr) (declared : Length) (i j : Items) (l m : OpenItem) → i ≡ j → l ≡ m
    → open_sequence tag vr declared i l ≡ open_sequence tag vr declared j m
open_sequence_alike tag vr declared i j l m p q = cc

pub front_alike : (w v : Trees) (o p : OpenTree) (reached : Option Tag) (closed : Bool) → w ≡ v → o ≡ p → front w o reached closed ≡ front v p reached closed
front_alike w v o p reached closed q r = cc

pub then_trees_alike : (a b c d : Trees) → a ≡ b → c ≡ d → then_trees a c ≡ then_trees b d
then_trees_alike a b c d p q = cc

pub with_new_so_far_alike : (x y : NewElement) (f g : Front) → x ≡ y → f ≡ g → with_new_so_far x f ≡ with_new_so_far y g
with_new_so_far_alike x y f g p q = cc

mutual
  pub together-one : (e : Edit) (f : Front) → together (e ∷ []) f ≡ edited_by e f
  together-one e (front whole open_tree reached closed) =
      with_new_so_far_alike _ _ _ _ (completed-none (element_of e))
      (front_alike _ _ _ _ reached closed
      (then_trees_alike _ _ _ _ (all_changed-one e whole) (all_open_made_whole-one e open_tree))
      (all_still_open-one e open_tree))

  pub all_still_open-one : (e : Edit) (o : OpenTree) → all_still_open (e ∷ []) o ≡ still_open e o
  all_still_open-one e nothing_open = refl
  all_still_open-one e (open_leaf tag vr size value) = while_it_stays_alike _ _ _ _ (or_else_stays (fate e tag)) refl
  all_still_open-one e (open_sequence tag vr declared items last) =
      while_it_stays_alike _ _ _ _ (or_else_stays (fate e tag))
      (open_sequence_alike tag vr declared _ _ _ _ (all_changed_items-one e tag 0 items) (all_open_item-one e tag (item_count items) last))
  all_still_open-one e (open_fragments tag vr values last) = while_it_stays_alike _ _ _ _ (or_else_stays (fate e tag)) refl

  pub all_open_item-one : (e : Edit) (tag : Tag) (n : ℕ) (i : OpenItem) → all_open_item (e ∷ []) tag n i ≡ open_item_by e tag n i
  all_open_item-one e tag n no_open_item = refl
  all_open_item-one e tag n (open_item declared set) =
      cond_alike _ _ _ _ _ _ (or_false (erases e tag n)) refl
      (ap (λ (f : Front). open_item declared f) (together-one (within e tag n) set))

-- no edits
mutual
  pub all_changed-none : (set : Trees) → all_changed [] set ≡ set
  all_changed-none no_tree = refl
  all_changed-none (leaf tag vr value rest) = ap (λ (r : Trees). leaf tag vr value r) (all_changed-none rest)
  all_changed-none (sequence tag vr declared items rest) = sequence_alike tag vr declared _ _ _ _ (all_changed_items-none tag 0 items) (all_changed-none rest)
  all_changed-none (fragments tag vr values rest) = ap (λ (r : Trees). fragments tag vr values r) (all_changed-none rest)

  pub all_changed_items-none : (tag : Tag) (n : ℕ) (items : Items) → all_changed_items [] tag n items ≡ items
  all_changed_items-none tag n no_item = refl
  all_changed_items-none tag n (item declared set rest) =
      item_alike declared _ _ _ _ (all_changed-none set) (all_changed_items-none tag (suc n) rest)

pub then_trees-none : (a : Trees) → then_trees a no_tree ≡ a
then_trees-none no_tree = refl
then_trees-none (leaf tag vr value rest) = ap (λ (r : Trees). leaf tag vr value r) (then_trees-none rest)
then_trees-none (sequence tag vr declared items rest) = ap (λ (r : Trees). sequence tag vr declared items r) (then_trees-none rest)
then_trees-none (fragments tag vr values rest) = ap (λ (r : Trees). fragments tag vr values r) (then_trees-none rest)

pub all_open_made_whole-none : (o : OpenTree) → all_open_made_whole [] o ≡ no_tree
all_open_made_whole-none nothing_open = refl
all_open_made_whole-none (open_leaf tag vr size value) = refl
all_open_made_whole-none (open_sequence tag vr declared items last) = refl
all_open_made_whole-none (open_fragments tag vr values last) = refl

mutual
  pub together-none : (f : Front) → together [] f ≡ f
  together-none (front whole open_tree reached closed) =
      front_alike _ _ _ _ reached closed
      (then_trees_alike _ _ _ _ (all_changed-none whole) (all_open_made_whole-none open_tree) ∙ then_trees-none whole)
      (all_still_open-none open_tree)

  all_still_open-none : (o : OpenTree) → all_still_open [] o ≡ o
  all_still_open-none nothing_open = refl
  all_still_open-none (open_leaf tag vr size value) = refl
  all_still_open-none (open_sequence tag vr declared items last) =
      open_sequence_alike tag vr declared _ _ _ _ (all_changed_items-none tag 0 items) (all_open_item-none tag (item_count items) last)
  all_still_open-none (open_fragments tag vr values last) = refl

  all_open_item-none : (tag : Tag) (n : ℕ) (i : OpenItem) → all_open_item [] tag n i ≡ i
  all_open_item-none tag n no_open_item = refl
  all_open_item-none tag n (open_item declared set) = ap (λ (f : Front). open_item declared f) (together-none set)

-- what ascends goes on to ascend
pub Ascend-weaker : (last : Option Tag) (t : Tag) (set : Trees) → is_above t last ≡ true → Ascend (Some t) set → Ascend last set
Ascend-weaker last t no_tree p a = tt
Ascend-weaker last t (leaf tag vr value rest) p a = (is_above_below last t tag p a.0, a.1)
Ascend-weaker last t (sequence tag vr declared items rest) p a = (is_above_below last t tag p a.0, a.1, a.2)
Ascend-weaker last t (fragments tag vr values rest) p a = (is_above_below last t tag p a.0, a.1)

-- the choice at a test
pub chosen : {A : Type 0} (P : A → Type 0) (b : Bool) (x y : A) → (b ≡ true → P x) → (b ≡ false → P y) → P (if b then x else y)
chosen P true x y p q = p refl
chosen P false x y p q = q refl

-- how an element of the tag comes before what ascends behind it
abbrev pub Leads : Tag → NewElement → Type 0
Leads t x = (last : Option Tag) (rest : Trees) → is_above t last ≡ true → Ascend (Some t) rest → Ascend last (before x rest)

pub Ascend-put : (last : Option Tag) (t : Tag) (x : NewElement) (set : Trees) → Leads t x → is_above t last ≡ true → has t set ≡ false
    → Ascend last set → Ascend last (put t x set)
Ascend-put last t x no_tree b p h a = b last no_tree p tt
Ascend-put last t x (leaf tag vr value rest) b p h a =
    chosen (Ascend last) (below t tag) _ _ (λ q. b last _ p (q, a.1))
    (λ q. (a.0, Ascend-put (Some tag) t x rest b (below_other t tag q (or_first_false _ _ h)) (or_second_false _ _ h) a.1))
Ascend-put last t x (sequence tag vr declared items rest) b p h a =
    chosen (Ascend last) (below t tag) _ _ (λ q. b last _ p (q, a.1, a.2))
    (λ q. (a.0, a.1, Ascend-put (Some tag) t x rest b (below_other t tag q (or_first_false _ _ h)) (or_second_false _ _ h) a.2))
Ascend-put last t x (fragments tag vr values rest) b p h a =
    chosen (Ascend last) (below t tag) _ _ (λ q. b last _ p (q, a.1))
    (λ q. (a.0, Ascend-put (Some tag) t x rest b (below_other t tag q (or_first_false _ _ h)) (or_second_false _ _ h) a.1))

-- what a new element holds ascends
abbrev pub NewAscends : NewElement → Type 0
NewAscends no_element = Unit {0}
NewAscends (new_leaf tag vr value) = Unit {0}
NewAscends (new_sequence tag held) = Ascend None held

pub Ascend-with_new : (x : NewElement) (set : Trees) → NewAscends x → Ascend None set → Ascend None (with_new x set)
Ascend-with_new no_element set n a = a
Ascend-with_new (new_leaf tag vr value) set n a =
    chosen (Ascend None) (has tag set) _ _ (λ h. a) (λ h. Ascend-put None tag (new_leaf tag vr value) set (λ l r p b. (p, b)) refl h a)
Ascend-with_new (new_sequence tag held) set n a =
    chosen (Ascend None) (has tag set) _ _ (λ h. a) (λ h. Ascend-put None tag (new_sequence tag held) set (λ l r p b. (p, (n, tt), b)) refl h a)
