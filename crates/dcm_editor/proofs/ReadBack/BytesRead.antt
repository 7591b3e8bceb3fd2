-- What is read of bytes holds bytes.
use Rattle.std.proofs.Common.{sym, subst, ℕ, zero, suc, ◌*◌, ◌/◌, List, [], ◌∷◌, ◌++◌, length, take, drop}
use Rattle.std.specs.Prelude.{flat_map, reverse}
use Rattle.dcm_base.specs.declared.vr.Vr.{Vr}
use Rattle.dcm_base.specs.declared.syntax.Syntax.{Syntax}
use Rattle.dcm_base.specs.declared.syntax.Syntax.TheVariants.{Implicit as implicit_in, Little as little_in, Big as big_in}
use Rattle.dcm_base.specs.declared.length.Length.TheVariants.{Known, Undefined}
use Rattle.dcm_base.specs.Tables.Tag.{item_end_tag, sequence_end_tag}
use Rattle.dcm_base.specs.Tree.Tree.{Trees, no_tree, leaf, sequence, fragments, Items, no_item, item}
use Rattle.dcm_base.specs.Tree.Value.{pieces, order}
use Rattle.dcm_base.specs.Tables.Representation.{unit}
use Rattle.dcm_base.specs.Bytes.Spelling.{inside, FragmentsAt, TreesAt, ItemsAt, after}
use Rattle.dcm_base.proofs.Conversions.Order.{order_twice}
use Rattle.dcm_base.proofs.DumpsBack.Texts.{Bytes}
use Rattle.dcm_base.proofs.DumpsBack.Numbers.{Bytes-append, Bytes-reverse}
use Rattle.dcm_base.proofs.DumpsBack.Parts.{Bytes-take, Bytes-drop, Bytes-drop as bytes_behind}
use Rattle.dcm_sinks.proofs.ReadBack.Sources.{bytes_parts, bytes_of_head, enclosed_ready}

-- ---- values of bytes

abbrev pub EachBytes : List (List ℕ) → Type 0
EachBytes [] = Unit {0}
EachBytes (v ∷ values) = Bytes v × EachBytes values

-- each value of a data set is of bytes
abbrev mutual
  pub HoldsBytes : Trees → Type 0
  HoldsBytes no_tree = Unit {0}
  HoldsBytes (leaf t vr v rest) = Bytes v × HoldsBytes rest
  HoldsBytes (sequence t vr declared items rest) = HoldBytes items × HoldsBytes rest
  HoldsBytes (fragments t vr values rest) = EachBytes values × HoldsBytes rest

  pub HoldBytes : Items → Type 0
  HoldBytes no_item = Unit {0}
  HoldBytes (item declared set rest) = HoldsBytes set × HoldBytes rest

-- ---- what is read of them

pieces_bytes : (n k : ℕ) (v : List ℕ) → Bytes v → Bytes (flat_map reverse (pieces n k v))
pieces_bytes zero k v h = tt
pieces_bytes (suc n) k v h = Bytes-append (reverse (take k v)) _ (Bytes-reverse (take k v) (Bytes-take k v h)) (pieces_bytes n k (drop k v) (Bytes-drop k v h))

pub order_bytes : (s : Syntax) (vr : Vr) (v : List ℕ) → Bytes v → Bytes (order s vr v)
order_bytes (implicit_in d) vr v h = h
order_bytes (little_in d) vr v h = h
order_bytes (big_in d) vr v h = Bytes-append _ _ (pieces_bytes (length v / unit vr) (unit vr) v h) (Bytes-drop (length v / unit vr * unit vr) v h)

ordered_bytes : (s : Syntax) (vr : Vr) (v : List ℕ) → Bytes (order s vr v) → Bytes v
ordered_bytes s vr v h = subst Bytes (order_twice s vr v) (order_bytes s vr (order s vr v) h)

fragments_read : (s : Syntax) (values : List (List ℕ)) (b p : List ℕ) → FragmentsAt s values b p → Bytes b → EachBytes values × Bytes p
unfolding FragmentsAt
fragments_read s [] b p h k = (tt, subst Bytes h k)
fragments_read s (v ∷ values) b p (o, head, more) k =
    let two = bytes_parts v o (subst Bytes (sym head.after_is) (bytes_behind 8 b k)) in
    let rest = fragments_read s values o p more two.1 in
    ((two.0, rest.0), rest.1)

mutual
  unfolding TreesAt

  pub trees_read : (s : Syntax) (x : Trees) (b p : List ℕ) → TreesAt s x b p → Bytes b → HoldsBytes x × Bytes p
  trees_read s no_tree b p h k = (tt, subst Bytes h k)
  trees_read s (leaf t vr v rest) b p (o, fo, head, more) k =
      let two = bytes_parts (order s vr v) o (bytes_of_head s t vr (Known (length v)) b (order s vr v ++ o) head k) in
      let later = trees_read (after s t vr v) rest o p more two.1 in
      ((ordered_bytes s vr v two.0, later.0), later.1)
  trees_read s (sequence t vr declared items rest) b p (contents, o, fo, head, inner, more) k =
      let held = enclosed_ready (inside s vr) sequence_end_tag declared (ItemsAt (inside s vr) items) contents o (HoldBytes items) (bytes_of_head s t vr declared b contents head k)
      (λ c d kc r. items_read (inside s vr) items c d r kc) inner in
      let after = trees_read s rest o p more held.1 in
      ((held.0, after.0), after.1)
  trees_read s (fragments t vr values rest) b p (contents, o, fo, head, inner, more) k =
      let held = enclosed_ready s sequence_end_tag Undefined (FragmentsAt s values) contents o (EachBytes values) (bytes_of_head s t vr Undefined b contents head k)
      (λ c d kc r. fragments_read s values c d r kc) inner in
      let after = trees_read s rest o p more held.1 in
      ((held.0, after.0), after.1)

  items_read : (s : Syntax) (x : Items) (b p : List ℕ) → ItemsAt s x b p → Bytes b → HoldBytes x × Bytes p
  items_read s no_item b p h k = (tt, subst Bytes h k)
  items_read s (item declared set rest) b p (contents, o, head, inner, more) k =
      let held = enclosed_ready s item_end_tag declared (TreesAt s set) contents o (HoldsBytes set) (subst Bytes (sym head.after_is) (bytes_behind 8 b k))
      (λ c d kc r. trees_read s set c d r kc) inner in
      let after = items_read s rest o p more held.1 in
      ((held.0, after.0), after.1)
