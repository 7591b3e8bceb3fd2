-- Atoms of trees that follow one another, and of new elements.
use Rattle.std.proofs.Common.{◌≡◌, ℕ, zero, suc, List, [], ◌∷◌, ◌++◌, length, Bool, true, false, not, ◌&&◌, refl, sym, ◌∙◌, ap, subst}
use Rattle.std.specs.Prelude.{map, if◌then◌else◌}
use Rattle.dcm_base.specs.declared.tag.Tag.{Tag}
use Rattle.dcm_base.specs.declared.vr.Vr.{Vr}
use Rattle.dcm_base.specs.declared.vr.Vr.TheVariants.{SQ}
use Rattle.dcm_base.specs.declared.syntax.Syntax.{Syntax}
use Rattle.dcm_base.specs.Tables.Syntax.{Little}
use Rattle.dcm_base.specs.declared.length.Length.{Length}
use Rattle.dcm_base.specs.declared.length.Length.TheVariants.{Known, Undefined}
use Rattle.dcm_base.specs.Tree.Tree.{Trees, no_tree, leaf, sequence, fragments, Items, no_item, item, then_trees}
use Rattle.dcm_base.specs.Tree.Front.{OpenTree, nothing_open, open_leaf, open_sequence, open_fragments}
use Rattle.dcm_base.specs.Tables.Tag.{below}
use Rattle.dcm_edits.specs.Edit.{step, insert, modify, erase, erase_item, PathEdit, Edit, on_path, modify_all, erase_all, erase_private, elsewhere, within, Fate, stays, becomes, goes, fate, settled, erases, has, put, NewElement, no_element, new_leaf, new_sequence, before, around, new_element, element_of, with_new, changed, changed_items, edited_set, edited_sets, number, every}
use Rattle.dcm_edits.specs.Together.{or_else, first_fate, all_within, completed}
use Rattle.dcm_edits.specs.NewOnes.{put_new, puts}
use Rattle.dcm_edits.proofs.Trees.Laws.{chosen}
use Rattle.dcm_base.specs.declared.form.Form.TheVariants.{Value as a_value, Sequence as a_sequence}
use Rattle.dcm_base.specs.Bytes.Spelling.{form, inside, reached_tag, after}
use Rattle.dcm_base.specs.Tree.Value.{order}
use Rattle.dcm_base.specs.Steps.Atoms.{Atom, opens, value_byte, closes_leaf, opens_item, closes_item, closes_sequence, opens_fragment, fragments_then, ShowTrees, ShowItems, trees_then, items_then}
use Rattle.dcm_base.specs.Steps.Anew.{open_anew}
use Rattle.dcm_edits.specs.Bounds.{PathHasValue, HasValue, HaveValues}

-- ---- trees that follow one another

pub shown_after : (a b : Trees) (x y z : List Atom) → ShowTrees a x y → ShowTrees b y z → ShowTrees (then_trees a b) x z
unfolding ShowTrees
shown_after no_tree b x y z p q = subst (λ (w : List Atom). ShowTrees b w z) (sym p) q
shown_after (leaf tag vr value rest) b x y z (s, others, fo, is, more) q = (s, others, fo, is, shown_after rest b others y z more q)
shown_after (sequence tag vr declared items rest) b x y z (s, contents, others, fo, is, inner, more) q =
    (s, contents, others, fo, is, inner, shown_after rest b others y z more q)
shown_after (fragments tag vr values rest) b x y z (s, others, fo, is, more) q = (s, others, fo, is, shown_after rest b others y z more q)

-- ---- elements of the sink's own

abbrev mutual
  pub Own : Trees → Type 0
  Own no_tree = Unit {0}
  Own (leaf tag vr value rest) = (form Little vr (Known 0) ≡ a_value) × Own rest
  Own (sequence tag vr declared items rest) = (form Little vr declared ≡ a_sequence) × (inside Little vr ≡ Little) × OwnItems items × Own rest
  Own (fragments tag vr values rest) = (Known 0 ≡ Undefined)

  pub OwnItems : Items → Type 0
  OwnItems no_item = Unit {0}
  OwnItems (item declared set rest) = Own set × OwnItems rest

pub any_size : (vr : Vr) (n : ℕ) → form Little vr (Known 0) ≡ a_value → form Little vr (Known n) ≡ a_value
unfolding form
any_size SQ n e = e
any_size _ n e = refl

mutual
  unfolding ShowTrees trees_then

  pub own_shown : (a : Trees) (others : List Atom) → Own a → ShowTrees a (trees_then Little a others) others
  own_shown no_tree others o = refl
  own_shown (leaf tag vr value rest) others o =
      (Little, trees_then Little rest others, any_size vr (length value) o.0, refl, own_shown rest others o.1)
  own_shown (sequence tag vr declared items rest) others o =
      let behind : List Atom = trees_then Little rest others in (
        Little,
        items_then (inside Little vr) items (closes_sequence ∷ behind),
        behind,
        o.0,
        refl,
        subst (λ (s : Syntax). ShowItems items (items_then s items (closes_sequence ∷ behind)) (closes_sequence ∷ behind)) (sym o.1)
            (own_items_shown items (closes_sequence ∷ behind) o.2),
        own_shown rest others o.3,
      )
  own_shown (fragments tag vr values rest) others o = absurd cc

  pub own_items_shown : (a : Items) (others : List Atom) → OwnItems a → ShowItems a (items_then Little a others) others
  own_items_shown no_item others o = refl
  own_items_shown (item declared set rest) others o =
      let behind : List Atom = items_then Little rest others in
      (trees_then Little set (closes_item ∷ behind), behind, refl, own_shown set (closes_item ∷ behind) o.0, own_items_shown rest others o.1)

bytes_more : (u : List ℕ) (a x y : List Atom) → (a ++ x ≡ y) → (map value_byte u ++ closes_leaf ∷ a) ++ x ≡ map value_byte u ++ closes_leaf ∷ y
bytes_more [] a x y e = ap (λ (z : List Atom). closes_leaf ∷ z) e
bytes_more (b ∷ u) a x y e = ap (λ (z : List Atom). value_byte b ∷ z) (bytes_more u a x y e)

fragments_more : (values : List (List ℕ)) (a x y : List Atom) → (a ++ x ≡ y) → fragments_then values a ++ x ≡ fragments_then values y
unfolding fragments_then
fragments_more [] a x y e = e
fragments_more (value ∷ values) a x y e =
    ap (λ (z : List Atom). opens_fragment (length value) ∷ z) (bytes_more value (fragments_then values a) x (fragments_then values y) (fragments_more values a x y e))

mutual
  unfolding trees_then

  trees_more : (s : Syntax) (a : Trees) (x y : List Atom) → trees_then s a x ++ y ≡ trees_then s a (x ++ y)
  trees_more s no_tree x y = refl
  trees_more s (leaf tag vr value rest) x y =
      ap (λ (z : List Atom). opens tag vr (Known (length value)) s ∷ z)
      (bytes_more (order s vr value) (trees_then (after s tag vr value) rest x) y (trees_then (after s tag vr value) rest (x ++ y)) (trees_more (after s tag vr value) rest x y))
  trees_more s (sequence tag vr declared items rest) x y =
      ap (λ (z : List Atom). opens tag vr declared s ∷ z)
      (items_more (inside s vr) items (closes_sequence ∷ trees_then s rest x) y
      ∙ ap (λ (z : List Atom). items_then (inside s vr) items (closes_sequence ∷ z)) (trees_more s rest x y))
  trees_more s (fragments tag vr values rest) x y =
      ap (λ (z : List Atom). opens tag vr Undefined s ∷ z)
      (fragments_more values (closes_sequence ∷ trees_then s rest x) y (closes_sequence ∷ trees_then s rest (x ++ y))
      (ap (λ (z : List Atom). closes_sequence ∷ z) (trees_more s rest x y)))

  items_more : (s : Syntax) (a : Items) (x y : List Atom) → items_then s a x ++ y ≡ items_then s a (x ++ y)
  items_more s no_item x y = refl
  items_more s (item declared set rest) x y =
      ap (λ (z : List Atom). opens_item declared ∷ z)
      (trees_more s set (closes_item ∷ items_then s rest x) y
      ∙ ap (λ (z : List Atom). trees_then s set (closes_item ∷ z)) (items_more s rest x y))

pub own_more : (a : Trees) (x y : List Atom) → Own a → trees_then Little a x ++ y ≡ trees_then Little a (x ++ y)
own_more a x y o = trees_more Little a x y

-- ---- the edits within an item have values too

path_within : (b : Bool) (edit : PathEdit) → PathHasValue edit → HasValue (if b then on_path edit else elsewhere)
path_within true edit h = h
path_within false edit h = tt

within_has : (e : Edit) (tag : Tag) (n : ℕ) → HasValue e → HasValue (within e tag n)
within_has (on_path (step t i x)) tag n h = path_within _ x h
within_has (on_path (insert t v new)) tag n h = tt
within_has (on_path (modify t v new)) tag n h = tt
within_has (on_path (erase t)) tag n h = tt
within_has (on_path (erase_item t i)) tag n h = tt
within_has (modify_all t vr value) tag n h = h
within_has (erase_all t) tag n h = h
within_has erase_private tag n h = h
within_has elsewhere tag n h = h

pub all_within_have : (es : List Edit) (tag : Tag) (n : ℕ) → HaveValues es → HaveValues (all_within es tag n)
all_within_have [] tag n h = tt
all_within_have (e ∷ es) tag n h = (within_has e tag n h.0, all_within_have es tag n h.1)

-- what an element becomes has a value
abbrev pub FateHas : Fate → Type 0
FateHas stays = Unit {0}
FateHas (becomes vr value) = form Little vr (Known 0) ≡ a_value
FateHas goes = Unit {0}

if_has : (b : Bool) (vr : Vr) (value : List ℕ) → form Little vr (Known 0) ≡ a_value → FateHas (if b then becomes vr value else stays)
if_has true vr value h = h
if_has false vr value h = tt

if_goes_has : (b : Bool) → FateHas (if b then goes else stays)
if_goes_has true = tt
if_goes_has false = tt

fate_has : (e : Edit) (tag : Tag) → HasValue e → FateHas (fate e tag)
fate_has (on_path (step t i x)) tag h = tt
fate_has (on_path (insert t v new)) tag h = if_has _ v new h
fate_has (on_path (modify t v new)) tag h = if_has _ v new h
fate_has (on_path (erase t)) tag h = if_goes_has _
fate_has (on_path (erase_item t i)) tag h = tt
fate_has (modify_all t vr value) tag h = if_has _ vr value h
fate_has (erase_all t) tag h = if_goes_has _
fate_has erase_private tag h = if_goes_has _
fate_has elsewhere tag h = tt

or_else_has : (f g : Fate) → FateHas f → FateHas g → FateHas (or_else f g)
or_else_has stays g p q = q
or_else_has (becomes vr value) g p q = p
or_else_has goes g p q = p

pub first_fate_has : (es : List Edit) (tag : Tag) → HaveValues es → FateHas (first_fate es tag)
first_fate_has [] tag h = tt
first_fate_has (e ∷ es) tag h = or_else_has (fate e tag) (first_fate es tag) (fate_has e tag h.0) (first_fate_has es tag h.1)

-- ---- new elements

abbrev pub OwnNew : NewElement → Type 0
OwnNew no_element = Unit {0}
OwnNew (new_leaf tag vr value) = form Little vr (Known 0) ≡ a_value
OwnNew (new_sequence tag held) = Own held

own_before : (w : NewElement) (rest : Trees) → OwnNew w → Own rest → Own (before w rest)
unfolding form inside
own_before no_element rest h o = o
own_before (new_leaf tag vr value) rest h o = (h, o)
own_before (new_sequence tag held) rest h o = (refl, refl, (h, tt), o)

own_put : (t : Tag) (w : NewElement) (set : Trees) → OwnNew w → Own set → Own (put t w set)
own_put t w no_tree h o = own_before w no_tree h tt
own_put t w (leaf tag vr value rest) h o = chosen Own (below t tag) _ _ (λ p. own_before w _ h o) (λ p. (o.0, own_put t w rest h o.1))
own_put t w (sequence tag vr declared items rest) h o =
    chosen Own (below t tag) _ _ (λ p. own_before w _ h o) (λ p. (o.0, o.1, o.2, own_put t w rest h o.3))
own_put t w (fragments tag vr values rest) h o = absurd cc

own_with_new : (w : NewElement) (set : Trees) → OwnNew w → Own set → Own (with_new w set)
own_with_new no_element set h o = o
own_with_new (new_leaf t vr value) set h o = chosen Own (has t set) _ _ (λ q. o) (λ q. own_put t (new_leaf t vr value) set h o)
own_with_new (new_sequence t held) set h o = chosen Own (has t set) _ _ (λ q. o) (λ q. own_put t (new_sequence t held) set h o)

own_put_new : (p : Tag → Bool) (w : NewElement) (set : Trees) → OwnNew w → Own set → Own (put_new p w set)
own_put_new p no_element set h o = o
own_put_new p (new_leaf t vr value) set h o = chosen Own (p t && not (has t set)) _ _ (λ q. own_put t (new_leaf t vr value) set h o) (λ q. o)
own_put_new p (new_sequence t held) set h o = chosen Own (p t && not (has t set)) _ _ (λ q. own_put t (new_sequence t held) set h o) (λ q. o)

own_around : (tag : Tag) (w : NewElement) → OwnNew w → OwnNew (around tag w)
unfolding form inside
own_around tag no_element h = tt
own_around tag (new_leaf t vr value) h = (h, tt)
own_around tag (new_sequence t held) h = (refl, refl, (h, tt), tt)

own_new_element : (p : PathEdit) → PathHasValue p → OwnNew (new_element p)
own_new_element (insert tag vr value) h = h
own_new_element (step tag (number zero) edit) h = own_around tag (new_element edit) (own_new_element edit h)
own_new_element (step tag (number (suc n)) edit) h = tt
own_new_element (step tag every edit) h = tt
own_new_element (modify tag vr value) h = tt
own_new_element (erase tag) h = tt
own_new_element (erase_item tag index) h = tt

own_element_of : (e : Edit) → HasValue e → OwnNew (element_of e)
own_element_of (on_path p) h = own_new_element p h
own_element_of (modify_all t vr value) h = tt
own_element_of (erase_all t) h = tt
own_element_of erase_private h = tt
own_element_of elsewhere h = tt

own_settled : (f : Fate) (tag : Tag) (k : Trees → Trees) (r : Trees) → FateHas f → Own (k r) → Own r → Own (settled f tag k r)
own_settled stays tag k r h o p = o
own_settled (becomes vr value) tag k r h o p = (h, p)
own_settled goes tag k r h o p = p

own_item_if : (b : Bool) (declared : Length) (set : Trees) (rest : Items) → Own set → OwnItems rest → OwnItems (if b then rest else item declared set rest)
own_item_if true declared set rest o p = p
own_item_if false declared set rest o p = (o, p)

mutual
  own_changed : (e : Edit) (set : Trees) → HasValue e → Own set → Own (changed e set)
  own_changed e no_tree h o = tt
  own_changed e (leaf tag vr value rest) h o =
      let more : Own (changed e rest) = own_changed e rest h o.1 in
      own_settled (fate e tag) tag (leaf tag vr value) (changed e rest) (fate_has e tag h) (o.0, more) more
  own_changed e (sequence tag vr declared items rest) h o =
      let more : Own (changed e rest) = own_changed e rest h o.3 in
      own_settled (fate e tag) tag (sequence tag vr declared (changed_items e tag 0 items)) (changed e rest) (fate_has e tag h)
      (o.0, o.1, own_changed_items e tag 0 items h o.2, more) more
  own_changed e (fragments tag vr values rest) h o = absurd cc

  own_changed_items : (e : Edit) (tag : Tag) (n : ℕ) (items : Items) → HasValue e → OwnItems items → OwnItems (changed_items e tag n items)
  own_changed_items e tag n no_item h o = tt
  own_changed_items e tag n (item declared set rest) h o =
      own_item_if (erases e tag n) declared _ _
      (own_with_new (element_of (within e tag n)) (changed (within e tag n) set) (own_element_of (within e tag n) (within_has e tag n h))
      (own_changed (within e tag n) set (within_has e tag n h) o.0))
      (own_changed_items e tag (suc n) rest h o.1)

own_edited_sets : (es : List Edit) (set : Trees) → HaveValues es → Own set → Own (edited_sets es set)
own_edited_sets [] set h o = o
own_edited_sets (e ∷ es) set h o =
    own_edited_sets es (edited_set e set) h.1 (own_with_new (element_of e) (changed e set) (own_element_of e h.0) (own_changed e set h.0 o))

own_completed : (es : List Edit) (w : NewElement) → HaveValues es → OwnNew w → OwnNew (completed es w)
own_completed es no_element h o = tt
own_completed es (new_leaf tag vr value) h o = o
own_completed es (new_sequence tag held) h o = own_edited_sets (all_within es tag 0) held (all_within_have es tag 0 h) o

pub own_puts : (p : Tag → Bool) (es : List Edit) (set : Trees) → HaveValues es → Own set → Own (puts p es set)
own_puts p [] set h o = o
own_puts p (e ∷ es) set h o =
    own_puts p es (put_new p (completed es (element_of e)) set) h.1 (own_put_new p _ set (own_completed es (element_of e) h.1 (own_element_of e h.0)) o)

-- ---- the reached tag

pub anew_reached : (whole : Trees) (o : OpenTree) → reached_tag whole o ≡ reached_tag whole (open_anew o)
anew_reached whole nothing_open = refl
anew_reached whole (open_leaf tag vr size value) = refl
anew_reached whole (open_sequence tag vr declared items last) = refl
anew_reached whole (open_fragments tag vr values last) = refl
