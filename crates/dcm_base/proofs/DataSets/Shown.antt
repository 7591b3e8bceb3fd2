-- The atoms of a spelled front show it.
use Rattle.std.proofs.Common.{◌≡◌, ℕ, List, [], ◌∷◌, Bool, true, false, Option, Some, None, refl}
use Rattle.dcm_base.specs.declared.syntax.Syntax.{Syntax}
use Rattle.dcm_base.specs.declared.length.Length.{Length}
use Rattle.dcm_base.specs.declared.length.Length.TheVariants.{Known, Undefined}
use Rattle.dcm_base.specs.Tree.Tree.{Trees, no_tree, leaf, sequence, fragments, Items, no_item, item}
use Rattle.dcm_base.specs.Tree.Front.{Front, front, OpenTree, nothing_open, open_leaf, open_sequence, open_fragments, OpenItem, no_open_item, open_item}
use Rattle.dcm_base.specs.Bytes.Spelling.{Enclosed, TreesAt, ItemsAt, inside, SpellsFront, SpellsOpen, SpellsOpenItem, SpellsOpenFragment, after, after_trees}
use Rattle.dcm_base.specs.declared.tag.Tag.{Tag}
use Rattle.dcm_base.specs.Tables.Tag.{item_end_tag, sequence_end_tag}
use Rattle.dcm_base.specs.Steps.Atoms.{Atom, closes_item, closes_sequence, ShowTrees, ShowItems, trees_then, items_then, end_atoms, MayEnd, MissesFragment, is_closed, Shows, ShowsOpen, ShowsOpenItem, front_atoms, open_atoms, open_item_atoms}

-- what shows the contents shows what encloses them
pub enclosed_shown : (s : Syntax) (end_tag : Tag) (declared : Length) (R : List ℕ → List ℕ → Type 0) (c e : List ℕ) (P : Type 0)
    → ((b p : List ℕ) → R b p → P) → Enclosed s end_tag declared R c e → P
enclosed_shown s end_tag (Known size) R c e P shown (i, ci, li, r) = shown i [] r
enclosed_shown s end_tag Undefined R c e P shown (d, r, x) = shown c d r

mutual
  unfolding TreesAt ShowTrees trees_then

  pub trees_shown : (s : Syntax) (x : Trees) (b p : List ℕ) (others : List Atom) → TreesAt s x b p → ShowTrees x (trees_then s x others) others
  trees_shown s no_tree b p others h = refl
  trees_shown s (leaf tag vr value rest) b p others (b', fo, head, more) = (s, trees_then (after s tag vr value) rest others, fo, refl, trees_shown (after s tag vr value) rest b' p others more)
  trees_shown s (sequence tag vr declared items rest) b p others (contents, b', fo, head, inner, more) = (
    s,
    items_then (inside s vr) items (closes_sequence ∷ trees_then s rest others),
    trees_then s rest others,
    fo,
    refl,
    enclosed_shown (inside s vr) sequence_end_tag declared (ItemsAt (inside s vr) items) contents b' (ShowItems items (items_then (inside s vr) items (closes_sequence ∷ trees_then s rest others)) (closes_sequence ∷ trees_then s rest others))
        (λ c d r. items_shown (inside s vr) items c d (closes_sequence ∷ trees_then s rest others) r) inner,
    trees_shown s rest b' p others more,
  )
  trees_shown s (fragments tag vr values rest) b p others (contents, b', fo, head, inner, more) = (s, trees_then s rest others, fo, refl, trees_shown s rest b' p others more)

  pub items_shown : (s : Syntax) (x : Items) (b p : List ℕ) (others : List Atom) → ItemsAt s x b p → ShowItems x (items_then s x others) others
  items_shown s no_item b p others h = refl
  items_shown s (item declared set rest) b p others (contents, b', head, inner, more) = (
    trees_then s set (closes_item ∷ items_then s rest others),
    items_then s rest others,
    refl,
    enclosed_shown s item_end_tag declared (TreesAt s set) contents b' (ShowTrees set (trees_then s set (closes_item ∷ items_then s rest others)) (closes_item ∷ items_then s rest others))
        (λ c d r. trees_shown s set c d (closes_item ∷ items_then s rest others) r) inner,
    items_shown s rest b' p others more,
  )

not_closed : (s : Syntax) (f : Front) (b : List ℕ) → SpellsFront s f b → is_closed f ≡ false
unfolding SpellsFront
not_closed s (front whole o reached closed) b h = h.4

may_end : (o : OpenTree) (closed : Bool) → closed ≡ false → MayEnd o closed
may_end o false e = tt
may_end o true e = absurd cc

fragment_misses : (s : Syntax) (last : Option (ℕ × List ℕ)) (b : List ℕ) → SpellsOpenFragment s last b → MissesFragment last
fragment_misses s None b h = tt
fragment_misses s (Some fragment) b h = h.0

mutual
  unfolding SpellsFront Shows front_atoms

  pub front_shown : (s : Syntax) (f : Front) (b : List ℕ) → SpellsFront s f b → Shows f (front_atoms s f)
  front_shown s (front whole o reached closed) b (others, at, op, re, cl) =
      (open_atoms (after_trees s whole) o (end_atoms closed), trees_shown s whole b others (open_atoms (after_trees s whole) o (end_atoms closed)) at, open_shown (after_trees s whole) o others (end_atoms closed) op, may_end o closed cl, re)

  pub open_shown : (s : Syntax) (o : OpenTree) (b : List ℕ) (at_end : List Atom) → SpellsOpen s o b → ShowsOpen o at_end (open_atoms s o at_end)
  open_shown s nothing_open b at_end h = refl
  open_shown s (open_leaf tag vr size value) b at_end (fo, lt, head) = (s, fo, lt, refl)
  open_shown s (open_sequence tag vr declared items last) b at_end (contents, others, fo, head, stays, inner, more) = (
    s,
    items_then (inside s vr) items (open_item_atoms (inside s vr) last),
    open_item_atoms (inside s vr) last,
    fo,
    refl,
    items_shown (inside s vr) items contents others (open_item_atoms (inside s vr) last) inner,
    open_item_shown (inside s vr) last others more,
  )
  open_shown s (open_fragments tag vr values last) b at_end (contents, others, fo, head, inner, more) = (s, fo, fragment_misses s last others more, refl)

  pub open_item_shown : (s : Syntax) (o : OpenItem) (b : List ℕ) → SpellsOpenItem s o b → ShowsOpenItem o (open_item_atoms s o)
  open_item_shown s no_open_item b h = refl
  open_item_shown s (open_item declared set) b (contents, head, stays, more) =
      (front_atoms s set, refl, not_closed s set contents more, front_shown s set contents more)
