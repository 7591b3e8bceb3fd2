-- The same in a data set as far as it was read.
use Rattle.std.proofs.Common.{◌≡◌, ℕ, pred, ◌≤◌, ◌+◌, List, [], ◌∷◌, Option, None, Bool, refl, sym, ◌∙◌, ap, subst, arith}
use Rattle.dcm_base.specs.declared.tag.Tag.{Tag}
use Rattle.dcm_base.specs.Tree.Tree.{Trees, no_tree, then_trees, item_count}
use Rattle.dcm_base.specs.Tree.Front.{Front, front, OpenTree, nothing_open, open_leaf, open_sequence, open_fragments, OpenItem, no_open_item, open_item}
use Rattle.dcm_edits.specs.Edit.{NewElement, element_of, with_new_so_far, Edit, within, Fate, stays, becomes, goes, fate, erases, made_whole, while_it_stays, edited_by, edited}
use Rattle.dcm_edits.specs.Together.{completed, first_fate, any_erases, all_within, with_all_missing_so_far, all_changed, all_changed_items, together, all_still_open, all_open_item, all_open_made_whole}
use Rattle.dcm_edits.specs.Overlap.{AreApart, ArePublic}
use Rattle.dcm_base.specs.Lines.Ascending.{FrontAscends, OpenAscends, OpenItemAscends}
use Rattle.dcm_edits.proofs.Trees.Laws.{chosen, completed-none, together-one, together-none, front_alike, open_sequence_alike, then_trees_alike}
use Rattle.dcm_edits.proofs.Overlapping.Places.{counts_alike}
use Rattle.dcm_edits.proofs.Overlapping.Items.{depth, AreWithin}
use Rattle.dcm_edits.proofs.Trees.OneByOne.{ItemsAscend-all_changed, all_changed-after, all_changed_items-after, Good, Good-within, always_quiet}
use Rattle.dcm_edits.proofs.Trees.FrontEdits.{touched, together-touched, then_trees-assoc, all_changed-then_trees, all_open_made_whole-after, still_step, same_number, open_item_step, touched-with_new, reached_still, Ascend-touched, FrontAscends-with_all_missing}

-- an open element that stays
pub OpenAscends-still : (f : Fate) (tag : Tag) (w : Trees) (reached : Option Tag) (closed : Bool) (o : OpenTree)
    → OpenAscends (then_trees w no_tree) reached closed o
    → OpenAscends (then_trees w (made_whole f tag)) reached closed (while_it_stays f o)
OpenAscends-still stays tag w reached closed o a = a
OpenAscends-still (becomes vr value) tag w reached closed o a = tt
OpenAscends-still goes tag w reached closed o a = tt

mutual
  FrontAscends-together : (es : List Edit) (f : Front) → FrontAscends f → FrontAscends (together es f)
  FrontAscends-together es (front whole o reached closed) a =
      FrontAscends-with_all_missing es (touched es (front whole o reached closed))
      (Ascend-touched es whole o reached closed a.0 a.1, OpenAscends-touched es whole reached closed o a.1)

  OpenAscends-touched : (es : List Edit) (whole : Trees) (reached : Option Tag) (closed : Bool) (o : OpenTree) → OpenAscends whole reached closed o
      → OpenAscends (then_trees (all_changed es whole) (all_open_made_whole es o)) reached closed (all_still_open es o)
  OpenAscends-touched es whole reached closed nothing_open a = tt
  OpenAscends-touched es whole reached closed (open_leaf tag vr size value) a =
      OpenAscends-still (first_fate es tag) tag (all_changed es whole) reached closed (open_leaf tag vr size value)
      (reached_still es (first_fate es tag) tag whole reached closed a)
  OpenAscends-touched es whole reached closed (open_sequence tag vr declared items last) a =
      OpenAscends-still (first_fate es tag) tag (all_changed es whole) reached closed
      (open_sequence tag vr declared (all_changed_items es tag 0 items) (all_open_item es tag (item_count items) last)) (
        reached_still es (first_fate es tag) tag whole reached closed a.0,
        ItemsAscend-all_changed es tag 0 items a.1,
        OpenItemAscends-all es tag (item_count items) last a.2,
      )
  OpenAscends-touched es whole reached closed (open_fragments tag vr values last) a =
      OpenAscends-still (first_fate es tag) tag (all_changed es whole) reached closed (open_fragments tag vr values last)
      (reached_still es (first_fate es tag) tag whole reached closed a)

  OpenItemAscends-all : (es : List Edit) (tag : Tag) (n : ℕ) (i : OpenItem) → OpenItemAscends i → OpenItemAscends (all_open_item es tag n i)
  OpenItemAscends-all es tag n no_open_item a = tt
  OpenItemAscends-all es tag n (open_item declared set) a =
      let more : FrontAscends (together (all_within es tag n) set) = FrontAscends-together (all_within es tag n) set a in
      chosen OpenItemAscends (any_erases es tag n) no_open_item (open_item declared (together (all_within es tag n) set)) (λ p. tt) (λ p. more)

pub FrontAscends-touched : (es : List Edit) (f : Front) → FrontAscends f → FrontAscends (touched es f)
FrontAscends-touched es (front whole o reached closed) a =
    (Ascend-touched es whole o reached closed a.0 a.1, OpenAscends-touched es whole reached closed o a.1)

pub after_front : (n : ℕ) (e : Edit) (es : List Edit) (f : Front) → Good n e es → FrontAscends f
    → touched es (touched (e ∷ []) f) ≡ touched (e ∷ es) f → together es (together (e ∷ []) f) ≡ together (e ∷ es) f
after_front n e es f g a t =
    ap (λ (h : Front). together es h) (together-touched (e ∷ []) f ∙ ap (λ (x : NewElement). with_new_so_far x (touched (e ∷ []) f)) (completed-none (element_of e)))
    ∙ (together-touched es (with_new_so_far (element_of e) (touched (e ∷ []) f))
    ∙ (ap (λ (h : Front). with_all_missing_so_far es h)
    (touched-with_new es (element_of e) (touched (e ∷ []) f) (always_quiet n n (omega arith) e es g) (FrontAscends-touched (e ∷ []) f a)
    ∙ ap (λ (h : Front). with_new_so_far (completed es (element_of e)) h) t)
    ∙ sym (together-touched (e ∷ es) f)))

-- the first edit and then the others
mutual
  touched-after : (n : ℕ) (e : Edit) (es : List Edit) (f : Front) → Good n e es → FrontAscends f
      → touched es (touched (e ∷ []) f) ≡ touched (e ∷ es) f
  touched-after n e es (front whole o reached closed) g a =
      let first : Trees = all_changed (e ∷ []) whole in
      let made : Trees = all_open_made_whole (e ∷ []) o in
      let last : Trees = all_open_made_whole es (all_still_open (e ∷ []) o) in
      front_alike _ _ _ _ reached closed
      (ap (λ (x : Trees). then_trees x last) (all_changed-then_trees es first made)
      ∙ (then_trees-assoc (all_changed es first) (all_changed es made) last
      ∙ then_trees_alike _ _ _ _ (all_changed-after n e es None whole (always_quiet n) g a.0) (all_open_made_whole-after e es o g.apart g.public)))
      (all_still_open-after n e es whole reached closed o g a.1)

  all_still_open-after : (n : ℕ) (e : Edit) (es : List Edit) (whole : Trees) (reached : Option Tag) (closed : Bool) (o : OpenTree) → Good n e es
      → OpenAscends whole reached closed o → all_still_open es (all_still_open (e ∷ []) o) ≡ all_still_open (e ∷ es) o
  all_still_open-after n e es whole reached closed nothing_open g a = refl
  all_still_open-after n e es whole reached closed (open_leaf tag vr size value) g a =
      still_step es (fate e tag) tag (open_leaf tag vr size value) (open_leaf tag vr size value) refl
  all_still_open-after n e es whole reached closed (open_sequence tag vr declared items last) g a =
      still_step es (fate e tag) tag
      (open_sequence tag vr declared (all_changed_items (e ∷ []) tag 0 items) (all_open_item (e ∷ []) tag (item_count items) last))
      (open_sequence tag vr declared (all_changed_items (e ∷ es) tag 0 items) (all_open_item (e ∷ es) tag (item_count items) last))
      (ap (λ (x : OpenTree). while_it_stays (first_fate es tag) x)
      (open_sequence_alike tag vr declared _ _ _ _
      (all_changed_items-after n e es tag 0 items (always_quiet n) g (counts_alike e es tag g.apart) a.1)
      (same_number e es tag items (all_open_item (e ∷ []) tag (item_count items) last) (counts_alike e es tag g.apart)
      ∙ all_open_item-after n e es tag (item_count items) last g a.2)))
  all_still_open-after n e es whole reached closed (open_fragments tag vr values last) g a =
      still_step es (fate e tag) tag (open_fragments tag vr values last) (open_fragments tag vr values last) refl

  all_open_item-after : (n : ℕ) (e : Edit) (es : List Edit) (tag : Tag) (m : ℕ) (i : OpenItem) → Good n e es → OpenItemAscends i
      → all_open_item es tag m (all_open_item (e ∷ []) tag m i) ≡ all_open_item (e ∷ es) tag m i
  all_open_item-after n e es tag m no_open_item g a = refl
  all_open_item-after n e es tag m (open_item declared set) g a =
      let one : Edit = within e tag m in
      let others : List Edit = all_within es tag m in
      let good : Good (pred n) one others = Good-within n e es tag m g in
      open_item_step es tag m (erases e tag m) declared _ _
      (after_front (pred n) one others set good a (touched-after (pred n) one others set good a))

pub together-after : (n : ℕ) (e : Edit) (es : List Edit) (f : Front) → Good n e es → FrontAscends f
    → together es (together (e ∷ []) f) ≡ together (e ∷ es) f
together-after n e es f g a = after_front n e es f g a (touched-after n e es f g a)

-- no path has more steps than all have together
pub all_steps : List Edit → ℕ
all_steps [] = 0
all_steps (e ∷ es) = depth e + all_steps es

pub AreWithin-more : (m n : ℕ) (es : List Edit) → m ≤ n → AreWithin m es → AreWithin n es
AreWithin-more m n [] p w = tt
AreWithin-more m n (e ∷ es) p w = (let q : depth e ≤ m = w.0 in omega arith, AreWithin-more m n es p w.1)

pub AreWithin-all_steps : (es : List Edit) → AreWithin (all_steps es) es
unfolding all_steps
AreWithin-all_steps [] = tt
AreWithin-all_steps (e ∷ es) = (omega arith, AreWithin-more (all_steps es) (depth e + all_steps es) es (omega arith) (AreWithin-all_steps es))

pub good : (e : Edit) (es : List Edit) → AreApart (e ∷ es) → ArePublic (e ∷ es) → Good (all_steps (e ∷ es)) e es
good e es p n =
    let w : AreWithin (all_steps (e ∷ es)) (e ∷ es) = AreWithin-all_steps (e ∷ es) in
    record { apart = p.0; others_apart = p.1; public = n.0; others_public = n.1; short = w.0; others_short = w.1 }

-- the law
pub one_by_one : (es : List Edit) (f : Front) → AreApart es → ArePublic es → FrontAscends f → together es f ≡ edited es f
one_by_one [] f p n a = together-none f
one_by_one (e ∷ es) f p n a =
    let ascends : FrontAscends (edited_by e f) = (let P : Front → Type 0 = λ g. FrontAscends g in subst P (together-one e f) (FrontAscends-together (e ∷ []) f a)) in
    sym (together-after _ e es f (good e es p n) a) ∙ (ap (λ (g : Front). together es g) (together-one e f) ∙ one_by_one es (edited_by e f) p.1 n.1 ascends)
