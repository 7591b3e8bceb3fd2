-- A data set that was read without fault is one whose elements may come.
use Rattle.std.proofs.Common.{◌≡◌, ◌≢◌, ap, ℕ, suc, List, [], ◌∷◌, ◌++◌, length, map, true, false, not, arith}
use Rattle.std.specs.Prelude.{◌==◌, ◌&&◌}
use Rattle.dcm_base.specs.declared.tag.Tag.{Tag}
use Rattle.dcm_base.specs.declared.syntax.Syntax.{Syntax}
use Rattle.dcm_base.specs.declared.length.Length.TheVariants.{Known, Undefined}
use Rattle.dcm_base.specs.declared.form.Form.TheVariants.{Value as a_value, Sequence as a_sequence, FragmentList as a_fragment_list}
use Rattle.dcm_base.specs.Tree.Tree.{Trees, no_tree, leaf, sequence, fragments, Items, no_item, item}
use Rattle.dcm_base.specs.Tree.Value.{order}
use Rattle.dcm_base.specs.Tables.Tag.{item_end_tag, sequence_end_tag}
use Rattle.dcm_base.specs.Bytes.Spelling.{TreesAt, ItemsAt, inside, after}
use Rattle.dcm_base.specs.Reading.Place.{is_data}
use Rattle.dcm_base.specs.Reading.Stop.{HeadBar}
use Rattle.dcm_base.specs.Steps.Atoms.{Atom, value_byte, closes_leaf, closes_item, closes_sequence, fragments_then, trees_then, items_then}
use Rattle.dcm_sinks.proofs.ReadBack.Sources.{Fine, begun, fine_bytes, lists_of}
use Rattle.dcm_sound.specs.Sound.{IsDataSet, AreDataSets}
use Rattle.dcm_sound.proofs.Spelled.Free.{enclosed_at}

no_meta : (tag : Tag) → is_data tag ≡ true → tag.group ≢ 2
no_meta tag h e = let no : is_data tag ≡ false = ap (λ (n : ℕ). not (n == 0xFFFE) && not (n == 0x0002)) e in cc

module _ (bar : HeadBar) where
  fragments_fine : (n : ℕ) (values : List (List ℕ)) (others : List Atom) → Fine bar n (fragments_then values others) → Fine bar n others
  unfolding fragments_then
  fragments_fine n [] others f = f
  fragments_fine n (v ∷ values) others f = fragments_fine n values others (fine_bytes bar n v (closes_leaf ∷ fragments_then values others) f.2).2

mutual
  unfolding TreesAt trees_then IsDataSet

  pub are_data : (bar : HeadBar) (s : Syntax) (n : ℕ) (x : Trees) (b p : List ℕ) (others : List Atom) → TreesAt s x b p → Fine bar n (trees_then s x others) → IsDataSet n x × Fine bar n others
  are_data bar s n no_tree b p others at f = (tt, f)
  are_data bar s n (leaf t vr v rest) b p others (o, fo, head, more) f =
      let g = begun bar n n t vr (Known (length v)) s (map value_byte (order s vr v) ++ closes_leaf ∷ trees_then (after s t vr v) rest others) (lists_of n a_value t vr (Known (length v)) s fo) f in
      let later = are_data bar (after s t vr v) n rest o p others more (fine_bytes bar n (order s vr v) (closes_leaf ∷ trees_then (after s t vr v) rest others) g.more).2 in
      ((no_meta t g.accepted.0, later.0), later.1)
  are_data bar s n (sequence t vr declared items rest) b p others (contents, o, fo, head, inner, more) f =
      let g = begun bar n (suc n) t vr declared s (items_then (inside s vr) items (closes_sequence ∷ trees_then s rest others)) (lists_of n a_sequence t vr declared s fo) f in
      let held = enclosed_at (inside s vr) sequence_end_tag declared (ItemsAt (inside s vr) items) (AreDataSets (suc n) items × Fine bar (suc n) (closes_sequence ∷ trees_then s rest others)) contents o
      (λ c q r. are_items bar (inside s vr) (suc n) items c q (closes_sequence ∷ trees_then s rest others) r g.more) inner in
      let later = are_data bar s n rest o p others more held.1.2 in
      let few = g.few in
      ((no_meta t g.accepted.0, omega (arith, few), held.0, later.0), later.1)
  are_data bar s n (fragments t vr values rest) b p others (contents, o, fo, head, inner, more) f =
      let g = begun bar n (suc n) t vr Undefined s (fragments_then values (closes_sequence ∷ trees_then s rest others)) (lists_of n a_fragment_list t vr Undefined s fo) f in
      let later = are_data bar s n rest o p others more (fragments_fine bar (suc n) values (closes_sequence ∷ trees_then s rest others) g.more).2 in
      let few = g.few in
      ((no_meta t g.accepted.0, omega (arith, few), later.0), later.1)

  are_items : (bar : HeadBar) (s : Syntax) (n : ℕ) (x : Items) (b p : List ℕ) (others : List Atom) → ItemsAt s x b p → Fine bar n (items_then s x others) → AreDataSets n x × Fine bar n others
  are_items bar s n no_item b p others at f = (tt, f)
  are_items bar s n (item declared set rest) b p others (contents, o, head, inner, more) f =
      let held = enclosed_at s item_end_tag declared (TreesAt s set) (IsDataSet n set × Fine bar n (closes_item ∷ items_then s rest others)) contents o
      (λ c q r. are_data bar s n set c q (closes_item ∷ items_then s rest others) r f.2) inner in
      let later = are_items bar s n rest o p others more held.1.2 in
      ((held.0, later.0), later.1)
