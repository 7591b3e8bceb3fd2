-- Trees take their size.
use Rattle.std.proofs.Common.{◌≡◌, ℕ, ◌+◌, List, [], ◌∷◌, ◌++◌, length, ap, arith, length-append, length-drop}
use Rattle.dcm_base.specs.declared.tag.Tag.{Tag}
use Rattle.dcm_base.specs.declared.vr.Vr.{Vr}
use Rattle.dcm_base.specs.declared.syntax.Syntax.{Syntax}
use Rattle.dcm_base.specs.declared.length.Length.{Length}
use Rattle.dcm_base.specs.declared.length.Length.TheVariants.{Known, Undefined}
use Rattle.dcm_base.specs.Tree.Tree.{Trees, no_tree, leaf, sequence, fragments, Items, no_item, item}
use Rattle.dcm_base.specs.Bytes.Head.{ElementHead, ItemHead, Delimiter, head_size}
use Rattle.dcm_base.specs.Tables.Tag.{item_end_tag, sequence_end_tag}
use Rattle.dcm_base.specs.Tree.Value.{order}
use Rattle.dcm_base.specs.Bytes.Spelling.{inside, Enclosed, FragmentsAt, TreesAt, ItemsAt, after}
use Rattle.dcm_base.specs.Reading.Size.{end_size, fragments_size, trees_size, items_size}
use Rattle.dcm_base.proofs.Conversions.Order.{length-order}

pub element_takes : (s : Syntax) (t : Tag) (v : Vr) (l : Length) (b c : List ℕ) → ElementHead s t v l b c → length b ≡ head_size s v + length c
element_takes s t v l b c h = omega (arith, ap length h.after_is, length-drop (head_size s v) b, h.whole)

pub item_takes : (s : Syntax) (l : Length) (b c : List ℕ) → ItemHead s l b c → length b ≡ 8 + length c
item_takes s l b c h = omega (arith, ap length h.after_is, length-drop 8 b, h.whole)

pub delimiter_takes : (s : Syntax) (t : Tag) (b c : List ℕ) → Delimiter s t b c → length b ≡ 8 + length c
delimiter_takes s t b c h = omega (arith, ap length h.after_is, length-drop 8 b, h.whole)

pub enclosed_takes : (s : Syntax) (end_tag : Tag) (declared : Length) (R : List ℕ → List ℕ → Type 0) (size : ℕ) (c e : List ℕ)
    → ((b p : List ℕ) → R b p → length b ≡ size + length p) → Enclosed s end_tag declared R c e → length c ≡ size + end_size declared + length e
enclosed_takes s end_tag (Known n) R size c e takes (i, ci, li, r) = omega (arith, ap length ci, length-append i e, takes i [] r)
enclosed_takes s end_tag Undefined R size c e takes (d, r, x) = omega (arith, takes c d r, delimiter_takes s end_tag d e x)

pub fragments_take : (s : Syntax) (values : List (List ℕ)) (b p : List ℕ) → FragmentsAt s values b p → length b ≡ fragments_size values + length p
unfolding FragmentsAt fragments_size
fragments_take s [] b p h = omega (arith, ap length h)
fragments_take s (v ∷ vs) b p (others, head, more) =
    omega (arith, item_takes s (Known (length v)) b (v ++ others) head, length-append v others, fragments_take s vs others p more)

mutual
  unfolding TreesAt trees_size

  pub trees_take : (s : Syntax) (x : Trees) (b p : List ℕ) → TreesAt s x b p → length b ≡ trees_size s x + length p
  trees_take s no_tree b p h = omega (arith, ap length h)
  trees_take s (leaf tag vr value rest) b p (others, fo, head, more) =
      omega (arith, element_takes s tag vr (Known (length value)) b (order s vr value ++ others) head, length-append (order s vr value) others, length-order s vr value, trees_take (after s tag vr value) rest others p more)
  trees_take s (sequence tag vr declared items rest) b p (contents, others, fo, head, inner, more) =
      let e = enclosed_takes (inside s vr) sequence_end_tag declared (ItemsAt (inside s vr) items) (items_size (inside s vr) items) contents others (λ b p r. items_take (inside s vr) items b p r) inner in
      omega (arith, element_takes s tag vr declared b contents head, e, trees_take s rest others p more)
  trees_take s (fragments tag vr values rest) b p (contents, others, fo, head, inner, more) =
      let e = enclosed_takes s sequence_end_tag Undefined (FragmentsAt s values) (fragments_size values) contents others (λ b p r. fragments_take s values b p r) inner in
      omega (arith, element_takes s tag vr Undefined b contents head, e, trees_take s rest others p more)

  pub items_take : (s : Syntax) (x : Items) (b p : List ℕ) → ItemsAt s x b p → length b ≡ items_size s x + length p
  items_take s no_item b p h = omega (arith, ap length h)
  items_take s (item declared set rest) b p (contents, others, head, inner, more) =
      let e = enclosed_takes s item_end_tag declared (TreesAt s set) (trees_size s set) contents others (λ b p r. trees_take s set b p r) inner in
      omega (arith, item_takes s declared b contents head, e, items_take s rest others p more)
