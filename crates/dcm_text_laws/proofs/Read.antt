-- What is read of bytes has values of bytes, and tags.
use Rattle.std.proofs.Common.{sym, subst, ℕ, ◌-◌, List, [], ◌∷◌, ◌++◌, length, Option, None, Some}
use Rattle.dcm_base.specs.declared.vr.Vr.{Vr}
use Rattle.dcm_base.specs.declared.syntax.Syntax.{Syntax}
use Rattle.dcm_base.specs.declared.length.Length.{Length}
use Rattle.dcm_base.specs.declared.length.Length.TheVariants.{Known, Undefined}
use Rattle.dcm_base.specs.Tables.Tag.{item_end_tag, sequence_end_tag}
use Rattle.dcm_base.specs.Tree.Tree.{Trees, no_tree, leaf, sequence, fragments, Items, no_item, item}
use Rattle.dcm_base.specs.Tree.Front.{Front, front, OpenTree, nothing_open, open_leaf, open_sequence, open_fragments}
use Rattle.dcm_base.specs.Tree.Front.{OpenItem, no_open_item, open_item}
use Rattle.dcm_base.specs.Tree.Value.{order}
use Rattle.dcm_base.specs.Bytes.Head.{ItemHead}
use Rattle.dcm_base.specs.Bytes.Spelling.{inside, FragmentsAt, TreesAt, ItemsAt, after, after_trees, SpellsFront, SpellsOpen, SpellsOpenItem, SpellsOpenFragment}
use Rattle.dcm_base.specs.Reading.Reads.{INPUT_LIMIT, Reads, ended}
use Rattle.dcm_base.specs.Reading.Stop.{Bar, Stop, complete, refused}
use Rattle.dcm_base.proofs.Conversions.Order.{order_twice}
use Rattle.dcm_base.proofs.DumpsBack.Texts.{Bytes}
use Rattle.dcm_base.proofs.DumpsBack.Parts.{Bytes-take, Bytes-drop}
use Rattle.dcm_sinks.proofs.ReadBack.Sources.{bytes_parts, bytes_of_head, element_tag, enclosed_ready}
use Rattle.dcm_editor.proofs.ReadBack.BytesRead.{order_bytes}
use Rattle.dcm_cli.specs.Answer.{going_on}
use Rattle.dcm_text_laws.proofs.Lines.{EachBytes, FragmentOfBytes}
use Rattle.dcm_text_laws.proofs.Fronts.{OfBytes, ItemsOfBytes, FrontOfBytes, OpenOfBytes, OpenItemOfBytes}

ordered_bytes : (s : Syntax) (vr : Vr) (v : List ℕ) → Bytes (order s vr v) → Bytes v
ordered_bytes s vr v h = subst Bytes (order_twice s vr v) (order_bytes s vr (order s vr v) h)

behind_item : (s : Syntax) (l : Length) (b c : List ℕ) → ItemHead s l b c → Bytes b → Bytes c
behind_item s l b c head h = subst Bytes (sym head.after_is) (Bytes-drop 8 b h)

fragments_read : (s : Syntax) (values : List (List ℕ)) (b p : List ℕ) → FragmentsAt s values b p → Bytes b → EachBytes values × Bytes p
unfolding FragmentsAt
fragments_read s [] b p h k = (tt, subst Bytes h k)
fragments_read s (v ∷ values) b p (o, head, more) k =
    let two = bytes_parts v o (behind_item s (Known (length v)) b (v ++ o) head k) in
    let rest = fragments_read s values o p more two.1 in
    ((two.0, rest.0), rest.1)

-- ---- whole trees

mutual
  unfolding TreesAt

  pub trees_read : (s : Syntax) (x : Trees) (b p : List ℕ) → TreesAt s x b p → Bytes b → OfBytes x × Bytes p
  trees_read s no_tree b p h k = (tt, subst Bytes h k)
  trees_read s (leaf t vr v rest) b p (o, fo, head, more) k =
      let two = bytes_parts (order s vr v) o (bytes_of_head s t vr (Known (length v)) b (order s vr v ++ o) head k) in
      let later = trees_read (after s t vr v) rest o p more two.1 in
      ((element_tag s t vr (Known (length v)) b (order s vr v ++ o) head k, ordered_bytes s vr v two.0, later.0), later.1)
  trees_read s (sequence t vr declared items rest) b p (contents, o, fo, head, inner, more) k =
      let held = enclosed_ready (inside s vr) sequence_end_tag declared (ItemsAt (inside s vr) items) contents o (ItemsOfBytes items) (bytes_of_head s t vr declared b contents head k)
      (λ c d kc r. items_read (inside s vr) items c d r kc) inner in
      let later = trees_read s rest o p more held.1 in
      ((element_tag s t vr declared b contents head k, held.0, later.0), later.1)
  trees_read s (fragments t vr values rest) b p (contents, o, fo, head, inner, more) k =
      let held = enclosed_ready s sequence_end_tag Undefined (FragmentsAt s values) contents o (EachBytes values) (bytes_of_head s t vr Undefined b contents head k)
      (λ c d kc r. fragments_read s values c d r kc) inner in
      let later = trees_read s rest o p more held.1 in
      ((element_tag s t vr Undefined b contents head k, held.0, later.0), later.1)

  items_read : (s : Syntax) (x : Items) (b p : List ℕ) → ItemsAt s x b p → Bytes b → ItemsOfBytes x × Bytes p
  items_read s no_item b p h k = (tt, subst Bytes h k)
  items_read s (item declared set rest) b p (contents, o, head, inner, more) k =
      let held = enclosed_ready s item_end_tag declared (TreesAt s set) contents o (OfBytes set) (behind_item s declared b contents head k)
      (λ c d kc r. trees_read s set c d r kc) inner in
      let later = items_read s rest o p more held.1 in
      ((held.0, later.0), later.1)

-- ---- as far as they were read

fragment_read : (s : Syntax) (last : Option (ℕ × List ℕ)) (b : List ℕ) → SpellsOpenFragment s last b → Bytes b → FragmentOfBytes last
fragment_read s None b h k = tt
fragment_read s (Some v) b (few, head) k = behind_item s (Known v.0) b v.1 head k

mutual
  unfolding SpellsFront

  front_read : (s : Syntax) (f : Front) (b : List ℕ) → SpellsFront s f b → Bytes b → FrontOfBytes f
  front_read s (front whole o reached closed) b (others, placed, more, re, cl) h =
      let two = trees_read s whole b others placed h in
      (two.0, open_read (after_trees s whole) o others more two.1)

  open_read : (s : Syntax) (o : OpenTree) (b : List ℕ) → SpellsOpen s o b → Bytes b → OpenOfBytes o
  open_read s nothing_open b h k = tt
  open_read s (open_leaf t vr size v) b (fo, few, head) k =
      (element_tag s t vr (Known size) b (order s vr v) head k, ordered_bytes s vr v (bytes_of_head s t vr (Known size) b (order s vr v) head k))
  open_read s (open_sequence t vr declared items last) b (contents, o, fo, head, stays, inner, more) k =
      let two = items_read (inside s vr) items contents o inner (bytes_of_head s t vr declared b contents head k) in
      (element_tag s t vr declared b contents head k, two.0, open_item_read (inside s vr) last o more two.1)
  open_read s (open_fragments t vr values last) b (contents, o, fo, head, inner, more) k =
      let two = fragments_read s values contents o inner (bytes_of_head s t vr Undefined b contents head k) in
      (element_tag s t vr Undefined b contents head k, two.0, fragment_read s last o more two.1)

  open_item_read : (s : Syntax) (o : OpenItem) (b : List ℕ) → SpellsOpenItem s o b → Bytes b → OpenItemOfBytes o
  open_item_read s no_open_item b h k = tt
  open_item_read s (open_item declared set) b (contents, head, stays, more) k = front_read s set contents more (behind_item s declared b contents head k)

ended_holds : (stop : Stop) (f : Front) → FrontOfBytes f → FrontOfBytes (ended stop f)
ended_holds complete (front whole o reached closed) h = h
ended_holds (refused fault offset) f h = h

pub on_holds : (f : Front) → FrontOfBytes f → FrontOfBytes (going_on f)
on_holds (front whole o reached closed) h = h

-- what is read of a data set
pub set_read : (bar : Bar) (s : Syntax) (start : ℕ) (bytes : List ℕ) (f : Front) (stop : Stop) → Reads bar s start bytes f stop → Bytes bytes → FrontOfBytes f
set_read bar s start bytes f stop (reached, why, first, said, is) h =
    let read : Bytes first.read = (bytes_parts first.read first.rest (subst Bytes first.parts (Bytes-take (INPUT_LIMIT - start) bytes h))).0 in
    subst FrontOfBytes (sym is) (ended_holds stop reached (front_read s reached first.read first.spelled read))
