-- No more dates are emptied than a data set has bytes.
use Rattle.std.proofs.Common.{◌≡◌, ◌≤◌, ℕ, ◌+◌, List, [], ◌++◌, length, Bool, true, false, ap, arith, length-append}
use Rattle.dcm_base.specs.declared.syntax.Syntax.{Syntax}
use Rattle.dcm_base.specs.declared.tag.Tag.{Tag}
use Rattle.dcm_base.specs.declared.length.Length.{Length}
use Rattle.dcm_base.specs.declared.length.Length.TheVariants.{Known, Undefined}
use Rattle.dcm_base.specs.Bytes.Spelling.{Enclosed, TreesAt, ItemsAt, SpellsFront, SpellsOpen, SpellsOpenItem, after, after_trees, inside}
use Rattle.dcm_base.specs.Tables.Tag.{item_end_tag, sequence_end_tag}
use Rattle.dcm_base.specs.Tree.Front.{Front, front, OpenTree, nothing_open, open_leaf, open_sequence, open_fragments, OpenItem, no_open_item, open_item}
use Rattle.dcm_base.specs.Tree.Tree.{Trees, no_tree, leaf, sequence, fragments, Items, no_item, item}
use Rattle.dcm_base.specs.Tree.Value.{order}
use Rattle.dcm_base.proofs.DataSets.Heads.{eight_le_head_size}
use Rattle.dcm_base.proofs.DataSets.Sizes.{delimiter_takes, element_takes, enclosed_takes, fragments_take, item_takes}
use Rattle.dcm_base.specs.Bytes.Spelling.{FragmentsAt}
use Rattle.dcm_base.specs.Reading.Size.{fragments_size}
use Rattle.dcm_deid.specs.declared.fate.Fate.{Fate}
use Rattle.dcm_deid.specs.declared.fate.Fate.TheVariants.{Remove, Empty, Replace, Anew, Keep}
use Rattle.dcm_deid.specs.declared.fate.Depth.{Depth}
use Rattle.dcm_deid.specs.declared.fate.Depth.TheVariants.{Inside}
use Rattle.dcm_deid.specs.declared.fate.ReadAs.TheVariants.{AsBytes, AsItems}
use Rattle.dcm_deid.specs.Deidentify.{Fates, Renaming}
use Rattle.dcm_deid.specs.Emptied.{emptied, emptied_in_front, emptied_in_items, emptied_in_open, emptied_in_open_item, empties, inside_kept, one_if}

one_at_most : (b : Bool) → one_if b ≤ 1
one_at_most true = omega arith
one_at_most false = omega arith

-- no more are inside than it has
no_more : (fate : Fate) (count : ℕ) → inside_kept fate count ≤ count
no_more Remove count = omega arith
no_more Empty count = omega arith
no_more Replace count = omega arith
no_more (Anew made) count = omega arith
no_more Keep count = omega arith

enclosed_holds : (s : Syntax) (end_tag : Tag) (declared : Length) (R : List ℕ → List ℕ → Type 0) (count : ℕ) (c e : List ℕ)
    → ((b p : List ℕ) → R b p → count + length p ≤ length b) → Enclosed s end_tag declared R c e → count + length e ≤ length c
enclosed_holds s end_tag (Known n) R count c e holds (i, ci, li, r) = omega (arith, ap length ci, length-append i e, holds i [] r)
enclosed_holds s end_tag Undefined R count c e holds (d, r, x) = omega (arith, holds c d r, delimiter_takes s end_tag d e x)

module _ (fates : Fates) (new : Renaming) where
  mutual
    unfolding TreesAt

    trees_hold : (depth : Depth) (s : Syntax) (x : Trees) (b p : List ℕ) → TreesAt s x b p → emptied fates new depth x + length p ≤ length b
    trees_hold depth s no_tree b p h = omega (arith, ap length h)
    trees_hold depth s (leaf tag vr value rest) b p (others, fo, head, more) =
        omega (
          arith,
          element_takes s tag vr (Known (length value)) b (order s vr value ++ others) head,
          eight_le_head_size s vr,
          length-append (order s vr value) others,
          one_at_most (empties new (fates depth AsBytes tag) vr value),
          trees_hold depth (after s tag vr value) rest others p more,
        )
    trees_hold depth s (sequence tag vr declared items rest) b p (contents, others, fo, head, inner, more) =
        let e = enclosed_holds (inside s vr) sequence_end_tag declared (ItemsAt (inside s vr) items) (emptied_in_items fates new items) contents others (λ b p r. items_hold (inside s vr) items b p r) inner in
        omega (arith, element_takes s tag vr declared b contents head, e, no_more (fates depth AsItems tag) (emptied_in_items fates new items), trees_hold depth s rest others p more)
    trees_hold depth s (fragments tag vr values rest) b p (contents, others, fo, head, inner, more) =
        let e = enclosed_takes s sequence_end_tag Undefined (FragmentsAt s values) (fragments_size values) contents others (λ b p r. fragments_take s values b p r) inner in
        omega (arith, element_takes s tag vr Undefined b contents head, e, trees_hold depth s rest others p more)

    items_hold : (s : Syntax) (x : Items) (b p : List ℕ) → ItemsAt s x b p → emptied_in_items fates new x + length p ≤ length b
    items_hold s no_item b p h = omega (arith, ap length h)
    items_hold s (item declared set rest) b p (contents, others, head, inner, more) =
        let e = enclosed_holds s item_end_tag declared (TreesAt s set) (emptied fates new Inside set) contents others (λ b p r. trees_hold Inside s set b p r) inner in
        omega (arith, item_takes s declared b contents head, e, items_hold s rest others p more)

  mutual
    unfolding SpellsFront

    pub front_holds : (depth : Depth) (s : Syntax) (f : Front) (b : List ℕ) → SpellsFront s f b → emptied_in_front fates new depth f ≤ length b
    front_holds depth s (front whole p r c) b (others, shown, more, re, cl) =
        omega (arith, trees_hold depth s whole b others shown, open_holds depth (after_trees s whole) p others more)

    open_holds : (depth : Depth) (s : Syntax) (p : OpenTree) (b : List ℕ) → SpellsOpen s p b → emptied_in_open fates new depth p ≤ length b
    open_holds depth s nothing_open b h = omega arith
    open_holds depth s (open_leaf tag vr size value) b h = omega arith
    open_holds depth s (open_sequence tag vr declared items last) b (contents, others, fo, head, stays, inner, more) =
        omega (
          arith,
          element_takes s tag vr declared b contents head,
          no_more (fates depth AsItems tag) (emptied_in_items fates new items + emptied_in_open_item fates new last),
          items_hold (inside s vr) items contents others inner,
          open_item_holds (inside s vr) last others more,
        )
    open_holds depth s (open_fragments tag vr values last) b h = omega arith

    open_item_holds : (s : Syntax) (p : OpenItem) (b : List ℕ) → SpellsOpenItem s p b → emptied_in_open_item fates new p ≤ length b
    open_item_holds s no_open_item b h = omega arith
    open_item_holds s (open_item declared set) b (contents, head, stays, more) =
        omega (arith, item_takes s declared b contents head, front_holds Inside s set contents more)
