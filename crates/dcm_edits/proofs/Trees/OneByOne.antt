-- All edits at once do what the edits do one after another.
use Rattle.std.proofs.Common.{◌≡◌, ℕ, zero, suc, pred, ◌≤◌, ◌<◌, List, [], ◌∷◌, Option, Some, None, Bool, true, false, ◌||◌, refl, sym, ◌∙◌, ap, subst, arith, inl, inr}
use Rattle.std.specs.Prelude.{if◌then◌else◌}
use Rattle.dcm_lemmas.proofs.Truth.{and_first, not_true}
use Rattle.dcm_base.specs.declared.tag.Tag.{Tag}
use Rattle.dcm_base.specs.declared.vr.Vr.{Vr}
use Rattle.dcm_base.specs.declared.vr.Vr.TheVariants.{SQ}
use Rattle.dcm_base.specs.declared.length.Length.{Length}
use Rattle.dcm_base.specs.declared.length.Length.TheVariants.{Undefined}
use Rattle.dcm_base.specs.Tree.Tree.{Trees, no_tree, leaf, sequence, fragments, Items, no_item, item}
use Rattle.dcm_base.specs.Tables.Tag.{same_tag, below, is_above}
use Rattle.dcm_edits.specs.Edit.{number, every, NewElement, no_element, new_leaf, new_sequence, before, around, new_element, element_of, with_new, edited_set, edited_sets, PathEdit, step, insert, modify, erase, erase_item, Edit, on_path, modify_all, erase_all, erase_private, elsewhere, within, Fate, stays, becomes, goes, fate, settled, erases, has, put, changed, changed_items}
use Rattle.dcm_edits.specs.Together.{completed, or_else, first_fate, any_erases, all_within, with_all_missing, all_changed, all_changed_items}
use Rattle.dcm_edits.specs.Overlap.{ApartFrom, AreApart, is_public, ArePublic}
use Rattle.dcm_base.specs.Lines.Ascending.{Ascend, ItemsAscend}
use Rattle.dcm_base.proofs.Dictionaries.TagOrder.{same_tag_self, tag_is}
use Rattle.dcm_edits.proofs.Trees.Laws.{chosen, Ascend-weaker, NewAscends, Ascend-with_new, completed-none, all_changed-one, all_changed-none, item_alike}
use Rattle.dcm_edits.proofs.Overlapping.Places.{IfBecomes, quiet_all_after, all_within_apart, within_public, counts_alike, CountsAlike, AreBlind}
use Rattle.dcm_edits.proofs.Overlapping.Items.{quiet_all_step, all_keep_items, all_within_all_apart, all_within_public, depth, AreWithin, depth-within, AreWithin-all_within, steps}

-- the new elements of edits, and what later edits make of them
pub NewAscends-around : (tag : Tag) (x : NewElement) → NewAscends x → NewAscends (around tag x)
NewAscends-around tag no_element n = tt
NewAscends-around tag (new_leaf t vr value) n = (refl, tt)
NewAscends-around tag (new_sequence t set) n = (refl, (n, tt), tt)

pub NewAscends-new_element : (p : PathEdit) → NewAscends (new_element p)
NewAscends-new_element (insert tag vr value) = tt
NewAscends-new_element (step tag (number zero) edit) = NewAscends-around tag (new_element edit) (NewAscends-new_element edit)
NewAscends-new_element (step tag (number (suc n)) edit) = tt
NewAscends-new_element (step tag every edit) = tt
NewAscends-new_element (modify tag vr value) = tt
NewAscends-new_element (erase tag) = tt
NewAscends-new_element (erase_item tag index) = tt

pub NewAscends-element_of : (e : Edit) → NewAscends (element_of e)
NewAscends-element_of (on_path p) = NewAscends-new_element p
NewAscends-element_of (modify_all tag vr value) = tt
NewAscends-element_of (erase_all tag) = tt
NewAscends-element_of erase_private = tt
NewAscends-element_of elsewhere = tt

-- one element that stays, is replaced or goes
pub Ascend-settled : (last : Option Tag) (f : Fate) (tag : Tag) (k : Trees → Trees) (r : Trees)
    → is_above tag last ≡ true → Ascend (Some tag) r → Ascend last (k r) → Ascend last (settled f tag k r)
Ascend-settled last stays tag k r p a b = b
Ascend-settled last (becomes vr value) tag k r p a b = (p, a)
Ascend-settled last goes tag k r p a b = Ascend-weaker last tag r p a

mutual
  pub Ascend-changed : (last : Option Tag) (e : Edit) (set : Trees) → Ascend last set → Ascend last (changed e set)
  Ascend-changed last e no_tree a = tt
  Ascend-changed last e (leaf tag vr value rest) a =
      let more : Ascend (Some tag) (changed e rest) = Ascend-changed (Some tag) e rest a.1 in
      Ascend-settled last (fate e tag) tag _ _ a.0 more (a.0, more)
  Ascend-changed last e (sequence tag vr declared items rest) a =
      let more : Ascend (Some tag) (changed e rest) = Ascend-changed (Some tag) e rest a.2 in
      Ascend-settled last (fate e tag) tag _ _ a.0 more (a.0, ItemsAscend-changed e tag 0 items a.1, more)
  Ascend-changed last e (fragments tag vr values rest) a =
      let more : Ascend (Some tag) (changed e rest) = Ascend-changed (Some tag) e rest a.1 in
      Ascend-settled last (fate e tag) tag _ _ a.0 more (a.0, more)

  pub ItemsAscend-changed : (e : Edit) (tag : Tag) (n : ℕ) (items : Items) → ItemsAscend items → ItemsAscend (changed_items e tag n items)
  ItemsAscend-changed e tag n no_item a = tt
  ItemsAscend-changed e tag n (item declared set rest) a =
      let more : ItemsAscend (changed_items e tag (suc n) rest) = ItemsAscend-changed e tag (suc n) rest a.1 in
      let first : Ascend None (changed (within e tag n) set) = Ascend-changed None (within e tag n) set a.0 in
      chosen ItemsAscend (erases e tag n) _ _ (λ p. more) (λ p. (Ascend-with_new (element_of (within e tag n)) _ (NewAscends-element_of (within e tag n)) first, more))

pub Ascend-edited_sets : (es : List Edit) (set : Trees) → Ascend None set → Ascend None (edited_sets es set)
Ascend-edited_sets [] set a = a
Ascend-edited_sets (e ∷ es) set a =
    Ascend-edited_sets es (edited_set e set) (Ascend-with_new (element_of e) _ (NewAscends-element_of e) (Ascend-changed None e set a))

pub NewAscends-completed : (es : List Edit) (x : NewElement) → NewAscends x → NewAscends (completed es x)
NewAscends-completed es no_element n = tt
NewAscends-completed es (new_leaf tag vr value) n = tt
NewAscends-completed es (new_sequence tag held) n = Ascend-edited_sets (all_within es tag 0) held n

pub Ascend-with_all_missing : (es : List Edit) (set : Trees) → Ascend None set → Ascend None (with_all_missing es set)
Ascend-with_all_missing [] set a = a
Ascend-with_all_missing (e ∷ es) set a =
    Ascend-with_all_missing es _ (Ascend-with_new (completed es (element_of e)) set (NewAscends-completed es (element_of e) (NewAscends-element_of e)) a)

mutual
  pub Ascend-all_changed : (last : Option Tag) (es : List Edit) (set : Trees) → Ascend last set → Ascend last (all_changed es set)
  Ascend-all_changed last es no_tree a = tt
  Ascend-all_changed last es (leaf tag vr value rest) a =
      let more : Ascend (Some tag) (all_changed es rest) = Ascend-all_changed (Some tag) es rest a.1 in
      Ascend-settled last (first_fate es tag) tag _ _ a.0 more (a.0, more)
  Ascend-all_changed last es (sequence tag vr declared items rest) a =
      let more : Ascend (Some tag) (all_changed es rest) = Ascend-all_changed (Some tag) es rest a.2 in
      Ascend-settled last (first_fate es tag) tag _ _ a.0 more (a.0, ItemsAscend-all_changed es tag 0 items a.1, more)
  Ascend-all_changed last es (fragments tag vr values rest) a =
      let more : Ascend (Some tag) (all_changed es rest) = Ascend-all_changed (Some tag) es rest a.1 in
      Ascend-settled last (first_fate es tag) tag _ _ a.0 more (a.0, more)

  pub ItemsAscend-all_changed : (es : List Edit) (tag : Tag) (n : ℕ) (items : Items) → ItemsAscend items → ItemsAscend (all_changed_items es tag n items)
  ItemsAscend-all_changed es tag n no_item a = tt
  ItemsAscend-all_changed es tag n (item declared set rest) a =
      let more : ItemsAscend (all_changed_items es tag (suc n) rest) = ItemsAscend-all_changed es tag (suc n) rest a.1 in
      let first : Ascend None (all_changed (all_within es tag n) set) = Ascend-all_changed None (all_within es tag n) set a.0 in
      chosen ItemsAscend (any_erases es tag n) _ _ (λ p. more) (λ p. (Ascend-with_all_missing (all_within es tag n) _ first, more))

-- a put, in a set that the other edits change
pub put-front : (t : Tag) (x : NewElement) (set : Trees) → Ascend (Some t) set → put t x set ≡ before x set
put-front t x no_tree a = refl
put-front t x (leaf tag vr value rest) a = ap (λ (b : Bool). if b then before x (leaf tag vr value rest) else leaf tag vr value (put t x rest)) a.0
put-front t x (sequence tag vr declared items rest) a = ap (λ (b : Bool). if b then before x (sequence tag vr declared items rest) else sequence tag vr declared items (put t x rest)) a.0
put-front t x (fragments tag vr values rest) a = ap (λ (b : Bool). if b then before x (fragments tag vr values rest) else fragments tag vr values (put t x rest)) a.0

-- an element kept or replaced where the new one comes later
pub put-settled : (t : Tag) (x : NewElement) (f : Fate) (tag : Tag) (k : Trees → Trees) (r s : Trees) → below t tag ≡ false
    → put t x (k r) ≡ k (put t x r) → s ≡ put t x r → settled f tag k s ≡ put t x (settled f tag k r)
put-settled t x stays tag k r s p q e = ap k e ∙ sym q
put-settled t x (becomes vr value) tag k r s p q e =
    ap (λ (y : Trees). leaf tag vr value y) e
    ∙ sym (ap (λ (b : Bool). if b then before x (leaf tag vr value r) else leaf tag vr value (put t x r)) p)
put-settled t x goes tag k r s p q e = e

pub all_changed-leaf : (es : List Edit) (t : Tag) (v : Vr) (new : List ℕ) (set : Trees) → first_fate es t ≡ stays
    → all_changed es (leaf t v new set) ≡ leaf t v new (all_changed es set)
all_changed-leaf es t v new set p = ap (λ (f : Fate). settled f t (leaf t v new) (all_changed es set)) p

-- what the edits do to a new element, as a whole
abbrev pub Turns : List Edit → NewElement → NewElement → Type 0
Turns es x y = (set : Trees) → all_changed es (before x set) ≡ before y (all_changed es set)

pub all_changed-put_first : (es : List Edit) (t : Tag) (x y : NewElement) (set : Trees) → Turns es x y → Ascend (Some t) set
    → all_changed es (before x set) ≡ put t y (all_changed es set)
all_changed-put_first es t x y set p a =
    p set ∙ sym (put-front t y (all_changed es set) (Ascend-all_changed (Some t) es set a))

-- the choice at a test, on the left of an equation
pub chosen_left : {A : Type 0} (b : Bool) (x y z : A) (F : A → Trees) (w : Trees) → (b ≡ true → F x ≡ w) → (b ≡ false → F y ≡ w) → F (if b then x else y) ≡ w
chosen_left true x y z F w p q = p refl
chosen_left false x y z F w p q = q refl

pub all_changed-put : (last : Option Tag) (es : List Edit) (t : Tag) (x y : NewElement) (set : Trees) → Turns es x y → Ascend last set
    → all_changed es (put t x set) ≡ put t y (all_changed es set)
all_changed-put last es t x y no_tree p a = p no_tree
all_changed-put last es t x y (leaf tag vr value rest) p a =
    chosen_left (below t tag) _ _ no_tree (all_changed es) _
    (λ q. all_changed-put_first es t x y (leaf tag vr value rest) p (q, a.1))
    (λ q. put-settled t y (first_fate es tag) tag (leaf tag vr value) (all_changed es rest) _ q
    (ap (λ (b : Bool). if b then before y (leaf tag vr value (all_changed es rest)) else leaf tag vr value (put t y (all_changed es rest))) q)
    (all_changed-put (Some tag) es t x y rest p a.1))
all_changed-put last es t x y (sequence tag vr declared items rest) p a =
    let inside : Items = all_changed_items es tag 0 items in
    chosen_left (below t tag) _ _ no_tree (all_changed es) _
    (λ q. all_changed-put_first es t x y (sequence tag vr declared items rest) p (q, a.1, a.2))
    (λ q. put-settled t y (first_fate es tag) tag (sequence tag vr declared inside) (all_changed es rest) _ q
    (ap (λ (b : Bool). if b then before y (sequence tag vr declared inside (all_changed es rest)) else sequence tag vr declared inside (put t y (all_changed es rest))) q)
    (all_changed-put (Some tag) es t x y rest p a.2))
all_changed-put last es t x y (fragments tag vr values rest) p a =
    chosen_left (below t tag) _ _ no_tree (all_changed es) _
    (λ q. all_changed-put_first es t x y (fragments tag vr values rest) p (q, a.1))
    (λ q. put-settled t y (first_fate es tag) tag (fragments tag vr values) (all_changed es rest) _ q
    (ap (λ (b : Bool). if b then before y (fragments tag vr values (all_changed es rest)) else fragments tag vr values (put t y (all_changed es rest))) q)
    (all_changed-put (Some tag) es t x y rest p a.1))

-- an element that no edit touches is there before and after
pub has-settled : (t : Tag) (f : Fate) (tag : Tag) (k : Trees → Trees) (r s : Trees) → has t (k r) ≡ (same_tag t tag || has t r) → has t r ≡ has t s
    → (same_tag t tag ≡ true → f ≡ stays) → has t (settled f tag k r) ≡ (same_tag t tag || has t s)
has-settled t stays tag k r s p e h = p ∙ ap (λ (b : Bool). same_tag t tag || b) e
has-settled t (becomes vr value) tag k r s p e h = ap (λ (b : Bool). same_tag t tag || b) e
has-settled t goes tag k r s p e h = go (same_tag t tag) refl
  where
    go : (b : Bool) → same_tag t tag ≡ b → has t r ≡ (same_tag t tag || has t s)
    go true q = absurd (let c : goes ≡ stays = h q in (cc))
    go false q = rw q e

pub quiet_there : (es : List Edit) (t tag : Tag) → first_fate es t ≡ stays → same_tag t tag ≡ true → first_fate es tag ≡ stays
quiet_there es t tag p q = rw (← (tag_is t tag q)) p

pub has-all_changed : (es : List Edit) (t : Tag) (set : Trees) → first_fate es t ≡ stays → has t (all_changed es set) ≡ has t set
has-all_changed es t no_tree p = refl
has-all_changed es t (leaf tag vr value rest) p =
    has-settled t (first_fate es tag) tag (leaf tag vr value) _ rest refl (has-all_changed es t rest p) (quiet_there es t tag p)
has-all_changed es t (sequence tag vr declared items rest) p =
    has-settled t (first_fate es tag) tag (sequence tag vr declared (all_changed_items es tag 0 items)) _ rest refl (has-all_changed es t rest p) (quiet_there es t tag p)
has-all_changed es t (fragments tag vr values rest) p =
    has-settled t (first_fate es tag) tag (fragments tag vr values) _ rest refl (has-all_changed es t rest p) (quiet_there es t tag p)

pub if_true : {A : Type 0} (b : Bool) (x y : A) → b ≡ true → x ≡ (if b then x else y)
if_true b x y p = rw p refl

pub if_false : {A : Type 0} (b : Bool) (x y : A) → b ≡ false → y ≡ (if b then x else y)
if_false b x y p = rw p refl

-- all at once in a closed data set
abbrev pub together_set : List Edit → Trees → Trees
together_set es set = with_all_missing es (all_changed es set)

-- the edits leave the element there, and do all at once in its item what they do one after another
abbrev pub Quiet : List Edit → NewElement → Type 0
Quiet es no_element = Unit {0}
Quiet es (new_leaf tag vr value) = first_fate es tag ≡ stays
Quiet es (new_sequence tag held) =
    (first_fate es tag ≡ stays) × (any_erases es tag 0 ≡ false) × (together_set (all_within es tag 0) held ≡ edited_sets (all_within es tag 0) held)

pub sequence_turns : (es : List Edit) (tag : Tag) (held : Trees) (set : Trees) (f : Fate) (b : Bool) (t : Trees) → f ≡ stays → b ≡ false → t ≡ edited_sets (all_within es tag 0) held
    → settled f tag (sequence tag SQ Undefined (if b then no_item else item Undefined t no_item)) set
    ≡ sequence tag SQ Undefined (item Undefined (edited_sets (all_within es tag 0) held) no_item) set
sequence_turns es tag held set f b t p q e = rw (p, q, e) refl

pub Turns-new : (es : List Edit) (x : NewElement) → Quiet es x → Turns es x (completed es x)
Turns-new es no_element q set = refl
Turns-new es (new_leaf tag vr value) q set = all_changed-leaf es tag vr value set q
Turns-new es (new_sequence tag held) q set = sequence_turns es tag held (all_changed es set) _ _ _ q.0 q.1 q.2

pub all_changed-with_new : (es : List Edit) (x : NewElement) (set : Trees) → Quiet es x → Ascend None set
    → all_changed es (with_new x set) ≡ with_new (completed es x) (all_changed es set)
all_changed-with_new es no_element set q a = refl
all_changed-with_new es (new_leaf tag vr value) set q a =
    chosen_left (has tag set) _ _ no_tree (all_changed es) _
    (λ p. if_true (has tag (all_changed es set)) _ _ (has-all_changed es tag set q ∙ p))
    (λ p. all_changed-put None es tag (new_leaf tag vr value) (new_leaf tag vr value) set (Turns-new es (new_leaf tag vr value) q) a
    ∙ if_false (has tag (all_changed es set)) _ _ (has-all_changed es tag set q ∙ p))
all_changed-with_new es (new_sequence tag held) set q a =
    chosen_left (has tag set) _ _ no_tree (all_changed es) _
    (λ p. if_true (has tag (all_changed es set)) _ _ (has-all_changed es tag set q.0 ∙ p))
    (λ p. all_changed-put None es tag (new_sequence tag held) (completed es (new_sequence tag held)) set (Turns-new es (new_sequence tag held) q) a
    ∙ if_false (has tag (all_changed es set)) _ _ (has-all_changed es tag set q.0 ∙ p))

-- edits that are apart, with paths of at most n steps
pub record Good (n : ℕ) (e : Edit) (es : List Edit) : Type 0 where
  pub apart : ApartFrom e es
  pub others_apart : AreApart es
  pub public : is_public e ≡ true
  pub others_public : ArePublic es
  pub short : depth e ≤ n
  pub others_short : AreWithin n es

pub Good-within : (n : ℕ) (e : Edit) (es : List Edit) (tag : Tag) (k : ℕ) → Good n e es → Good (pred n) (within e tag k) (all_within es tag k)
Good-within n e es tag k g =
    record {
      apart = all_within_apart e es tag k g.apart;
      others_apart = all_within_all_apart es tag k g.others_apart;
      public = within_public e tag k g.public;
      others_public = all_within_public es tag k g.others_public;
      short = depth-within e tag k n g.short;
      others_short = AreWithin-all_within es tag k n g.others_short;
    }

-- up to n steps, the other edits do to each new element at once what they do one after another
abbrev pub QuietUpTo : ℕ → Type 0
QuietUpTo n = (m : ℕ) → m ≤ n → (e : Edit) (es : List Edit) → Good m e es → Quiet es (element_of e)

-- one element, by the first edit and then by the others
pub element_step : (es : List Edit) (f : Fate) (tag : Tag) (k l : Trees → Trees) (r s : Trees)
    → ((x : Trees) → all_changed es (k x) ≡ settled (first_fate es tag) tag l (all_changed es x))
    → IfBecomes f (first_fate es tag ≡ stays) → all_changed es r ≡ s
    → all_changed es (settled (or_else f stays) tag k r) ≡ settled (or_else f (first_fate es tag)) tag l s
element_step es stays tag k l r s h q e = h r ∙ ap (λ (x : Trees). settled (first_fate es tag) tag l x) e
element_step es (becomes vr value) tag k l r s h q e =
    all_changed-leaf es tag vr value r q ∙ ap (λ (x : Trees). leaf tag vr value x) e
element_step es goes tag k l r s h q e = e

pub shifted_item : (b c : Bool) (x y p q r s : Items) → b ≡ c → x ≡ p → y ≡ q → (if b then x else y) ≡ (if c then p else q)
shifted_item b c x y p q r s e f g = cc

-- edits that ask the same of every item
pub all_changed_items-blind : (es : List Edit) (tag : Tag) (m n : ℕ) (items : Items) → AreBlind es tag
    → all_changed_items es tag m items ≡ all_changed_items es tag n items
all_changed_items-blind es tag m n no_item b = refl
all_changed_items-blind es tag m n (item declared set rest) b =
    let more : all_changed_items es tag (suc m) rest ≡ all_changed_items es tag (suc n) rest = all_changed_items-blind es tag (suc m) (suc n) rest b in
    shifted_item _ _ _ _ _ _ no_item no_item (b.0 m n) more
    (item_alike declared _ _ _ _ (ap (λ (w : List Edit). with_all_missing w (all_changed w set)) (b.1 m n)) more)

pub item_step : (es : List Edit) (tag : Tag) (n : ℕ) (b : Bool) (declared : Length) (r : Items) (s : Trees) (q : Items) (t : Trees)
    → (b ≡ true → all_changed_items es tag n r ≡ all_changed_items es tag (suc n) r)
    → all_changed_items es tag (suc n) r ≡ q
    → with_all_missing (all_within es tag n) (all_changed (all_within es tag n) s) ≡ t
    → all_changed_items es tag n (if (b || false) then r else item declared s r) ≡ (if (b || any_erases es tag n) then q else item declared t q)
item_step es tag n true declared r s q t h e f = h refl ∙ e
item_step es tag n false declared r s q t h e f = shifted_item (any_erases es tag n) _ _ _ _ _ no_item no_item refl e (item_alike declared _ _ _ _ f e)

pub shift_where : (e : Edit) (es : List Edit) (tag : Tag) (n : ℕ) (r : Items) → CountsAlike e es tag → erases e tag n ≡ true
    → all_changed_items es tag n r ≡ all_changed_items es tag (suc n) r
shift_where e es tag n r (inl never) p = absurd (let q : erases e tag n ≡ false = never n in (cc))
shift_where e es tag n r (inr blind) p = all_changed_items-blind es tag n (suc n) r blind

mutual
  pub all_changed-after : (n : ℕ) (e : Edit) (es : List Edit) (last : Option Tag) (set : Trees) → QuietUpTo n → Good n e es → Ascend last set
      → all_changed es (all_changed (e ∷ []) set) ≡ all_changed (e ∷ es) set
  all_changed-after n e es last no_tree h g a = refl
  all_changed-after n e es last (leaf tag vr value rest) h g a =
      element_step es (fate e tag) tag (leaf tag vr value) (leaf tag vr value) _ _ (λ x. refl) (quiet_all_after e es tag g.apart g.public)
      (all_changed-after n e es (Some tag) rest h g a.1)
  all_changed-after n e es last (sequence tag vr declared items rest) h g a =
      element_step es (fate e tag) tag (sequence tag vr declared (all_changed_items (e ∷ []) tag 0 items)) (sequence tag vr declared (all_changed_items (e ∷ es) tag 0 items)) _ _
      (λ x. ap (λ (i : Items). settled (first_fate es tag) tag (sequence tag vr declared i) (all_changed es x))
      (all_changed_items-after n e es tag 0 items h g (counts_alike e es tag g.apart) a.1))
      (quiet_all_after e es tag g.apart g.public)
      (all_changed-after n e es (Some tag) rest h g a.2)
  all_changed-after n e es last (fragments tag vr values rest) h g a =
      element_step es (fate e tag) tag (fragments tag vr values) (fragments tag vr values) _ _ (λ x. refl) (quiet_all_after e es tag g.apart g.public)
      (all_changed-after n e es (Some tag) rest h g a.1)

  pub all_changed_items-after : (n : ℕ) (e : Edit) (es : List Edit) (tag : Tag) (m : ℕ) (items : Items) → QuietUpTo n → Good n e es
      → CountsAlike e es tag → ItemsAscend items
      → all_changed_items es tag m (all_changed_items (e ∷ []) tag m items) ≡ all_changed_items (e ∷ es) tag m items
  all_changed_items-after n e es tag m no_item h g c a = refl
  all_changed_items-after n e es tag m (item declared set rest) h g c a =
      let one : Edit = within e tag m in
      let others : List Edit = all_within es tag m in
      let good : Good (pred n) one others = Good-within n e es tag m g in
      let lower : QuietUpTo (pred n) = λ j p. h j (let q : j ≤ n = omega arith in q) in
      item_step es tag m (erases e tag m) declared _ _ _ _
      (shift_where e es tag m (all_changed_items (e ∷ []) tag (suc m) rest) c)
      (all_changed_items-after n e es tag (suc m) rest h g c a.1)
      (ap (λ (s : Trees). with_all_missing others s)
      (ap (λ (x : NewElement). all_changed others (with_new x (all_changed (one ∷ []) set))) (completed-none (element_of one))
      ∙ (all_changed-with_new others (element_of one) (all_changed (one ∷ []) set) (h (pred n) (omega arith) one others good) (Ascend-all_changed None (one ∷ []) set a.0)
      ∙ ap (λ (s : Trees). with_new (completed others (element_of one)) s) (all_changed-after (pred n) one others None set lower good a.0))))

-- closed data sets: all at once is one after another
abbrev pub SetsAgree : ℕ → Type 0
SetsAgree n = (es : List Edit) (set : Trees) → AreApart es → ArePublic es → AreWithin n es → Ascend None set → together_set es set ≡ edited_sets es set

pub sets_agree : (n : ℕ) → QuietUpTo n → SetsAgree n
sets_agree n h [] set p q w a = all_changed-none set
sets_agree n h (e ∷ es) set p q w a =
    let good : Good n e es = record { apart = p.0; others_apart = p.1; public = q.0; others_public = q.1; short = w.0; others_short = w.1 } in
    let first : Ascend None (changed e set) = Ascend-changed None e set a in
    sym (ap (λ (s : Trees). with_all_missing es s)
    (all_changed-with_new es (element_of e) (changed e set) (h n (omega arith) e es good) first
    ∙ ap (λ (s : Trees). with_new (completed es (element_of e)) s)
    (ap (λ (s : Trees). all_changed es s) (sym (all_changed-one e set)) ∙ all_changed-after n e es None set h good a)))
    ∙ sets_agree n h es (edited_set e set) p.1 q.1 w.1 (Ascend-with_new (element_of e) _ (NewAscends-element_of e) first)

-- the new element of an edit is quiet, once shorter paths agree
pub quiet_around : (es : List Edit) (tag : Tag) (x : NewElement) → first_fate es tag ≡ stays → any_erases es tag 0 ≡ false
    → ((set : Trees) → Ascend None set → together_set (all_within es tag 0) set ≡ edited_sets (all_within es tag 0) set) → NewAscends x → Quiet es (around tag x)
quiet_around es tag no_element p q h n = tt
quiet_around es tag (new_leaf t vr value) p q h n = (p, q, h _ (refl, tt))
quiet_around es tag (new_sequence t held) p q h n = (p, q, h _ (refl, (n, tt), tt))

pub quiet_insert : (tag : Tag) (vr : Vr) (value : List ℕ) (es : List Edit) → ApartFrom (on_path (insert tag vr value)) es
    → is_public (on_path (insert tag vr value)) ≡ true → first_fate es tag ≡ stays
quiet_insert tag vr value es o n =
    let P : Bool → Type 0 = λ b. IfBecomes (if b then becomes vr value else stays) (first_fate es tag ≡ stays) in
    subst P (same_tag_self tag) (quiet_all_after (on_path (insert tag vr value)) es tag o n)

pub quiet_new : (n : ℕ) (e : Edit) (es : List Edit) → ((m : ℕ) → m < n → SetsAgree m) → Good n e es → Quiet es (element_of e)
quiet_new n (on_path (insert tag vr value)) es h g = quiet_insert tag vr value es g.apart g.public
quiet_new n (on_path (step tag (number zero) edit)) es h g =
    quiet_around es tag (new_element edit) (quiet_all_step tag (number zero) edit es g.apart (not_true _ (and_first _ _ g.public)))
    (all_keep_items tag (number zero) edit es 0 g.apart)
    (λ set b. h (pred n) (let s : suc (steps edit) ≤ n = g.short in omega arith) (all_within es tag 0) set
    (all_within_all_apart es tag 0 g.others_apart) (all_within_public es tag 0 g.others_public) (AreWithin-all_within es tag 0 n g.others_short) b)
    (NewAscends-new_element edit)
quiet_new n (on_path (step tag (number (suc k)) edit)) es h g = tt
quiet_new n (on_path (step tag every edit)) es h g = tt
quiet_new n (on_path (modify tag vr value)) es h g = tt
quiet_new n (on_path (erase tag)) es h g = tt
quiet_new n (on_path (erase_item tag index)) es h g = tt
quiet_new n (modify_all tag vr value) es h g = tt
quiet_new n (erase_all tag) es h g = tt
quiet_new n erase_private es h g = tt
quiet_new n elsewhere es h g = tt

-- by induction on the length of the paths
pub shorter_agree : (n m : ℕ) → m < n → SetsAgree m
shorter_agree zero m p = absurd (let q : ⊥ = omega arith in q)
shorter_agree (suc n) m p = sets_agree m (λ j q e es g. quiet_new j e es (λ k r. shorter_agree n k (omega arith)) g)

pub always_quiet : (n : ℕ) → QuietUpTo n
always_quiet n m p e es g = quiet_new m e es (λ k r. shorter_agree m k r) g
