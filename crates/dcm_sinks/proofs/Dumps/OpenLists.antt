-- How many sequences and fragment lists are open behind parts of a data set's atoms.
use Rattle.std.proofs.Common.{◌≡◌, ℕ, suc, List, [], ◌∷◌, ◌++◌, length, ap, subst, map, cond}
use Rattle.dcm_base.specs.declared.tag.Tag.{Tag}
use Rattle.dcm_base.specs.declared.vr.Vr.{Vr}
use Rattle.dcm_base.specs.declared.syntax.Syntax.{Syntax}
use Rattle.dcm_base.specs.declared.length.Length.{Length}
use Rattle.dcm_base.specs.declared.length.Length.TheVariants.{Known, Undefined}
use Rattle.dcm_base.specs.declared.form.Form.{Form}
use Rattle.dcm_base.specs.declared.form.Form.TheVariants.{Value as a_value, Sequence as a_sequence, FragmentList as a_fragment_list}
use Rattle.dcm_base.specs.Tree.Tree.{Trees, no_tree, leaf, sequence, fragments, Items, no_item, item}
use Rattle.dcm_base.specs.Bytes.Spelling.{form, read_as}
use Rattle.dcm_base.specs.Reading.Stop.{opens_list}
use Rattle.dcm_base.specs.Tree.Value.{order}
use Rattle.dcm_base.specs.Steps.Atoms.{Atom, opens, value_byte, closes_leaf, opens_item, closes_item, closes_sequence, opens_fragment, fragments_then, ShowTrees, ShowItems}
use Rattle.dcm_sinks.specs.Laws.{lists_behind, StaysShallow}

pub stays_on : (n : ℕ) (a : Atom) (atoms : List Atom) → StaysShallow n (a ∷ atoms) → StaysShallow (lists_behind n a) atoms
stays_on n a atoms h = λ first rest e. h (a ∷ first) rest (ap (λ xs. a ∷ xs) e)

pub stays_opened : (n : ℕ) (f : Form) (tag : Tag) (vr : Vr) (declared : Length) (s : Syntax) (atoms : List Atom) → form s (read_as s tag vr) declared ≡ f
    → StaysShallow n (opens tag vr declared s ∷ atoms) → StaysShallow (cond (opens_list f) (suc n) n) atoms
stays_opened n f tag vr declared s atoms e h = subst (λ (g : Form). StaysShallow (cond (opens_list g) (suc n) n) atoms) e (stays_on n (opens tag vr declared s) atoms h)

pub stays_bytes : (n : ℕ) (v : List ℕ) (others : List Atom) → StaysShallow n (map value_byte v ++ others) → StaysShallow n others
stays_bytes n [] others h = h
stays_bytes n (b ∷ bs) others h = stays_bytes n bs others (stays_on n (value_byte b) (map value_byte bs ++ others) h)

pub stays_fragments : (n : ℕ) (values : List (List ℕ)) (others : List Atom) → StaysShallow n (fragments_then values others) → StaysShallow n others
unfolding fragments_then
stays_fragments n [] others h = h
stays_fragments n (value ∷ rest) others h =
    stays_fragments n rest others
    (stays_on n closes_leaf (fragments_then rest others)
    (stays_bytes n value (closes_leaf ∷ fragments_then rest others)
    (stays_on n (opens_fragment (length value)) (map value_byte value ++ closes_leaf ∷ fragments_then rest others) h)))

pub stays_same : (n : ℕ) (xs ys : List Atom) → xs ≡ ys → StaysShallow n xs → StaysShallow n ys
stays_same n xs ys e h = subst (StaysShallow n) e h

mutual
  unfolding ShowTrees

  pub stays_trees : (n : ℕ) (x : Trees) (atoms after : List Atom) → ShowTrees x atoms after → StaysShallow n atoms → StaysShallow n after
  stays_trees n no_tree atoms after w h = stays_same n atoms after w h
  stays_trees n (leaf tag vr value rest) atoms after w h =
      stays_trees n rest w.1 after w.4
      (stays_on n closes_leaf w.1
      (stays_bytes n (order w.0 vr value) (closes_leaf ∷ w.1)
      (stays_opened n a_value tag vr (Known (length value)) w.0 (map value_byte (order w.0 vr value) ++ closes_leaf ∷ w.1) w.2 (stays_same n atoms _ w.3 h))))
  stays_trees n (sequence tag vr declared items rest) atoms after w h =
      stays_trees n rest w.2 after w.6
      (stays_on (suc n) closes_sequence w.2
      (stays_items (suc n) items w.1 (closes_sequence ∷ w.2) w.5
      (stays_opened n a_sequence tag vr declared w.0 w.1 w.3 (stays_same n atoms _ w.4 h))))
  stays_trees n (fragments tag vr values rest) atoms after w h =
      stays_trees n rest w.1 after w.4
      (stays_on (suc n) closes_sequence w.1
      (stays_fragments (suc n) values (closes_sequence ∷ w.1)
      (stays_opened n a_fragment_list tag vr Undefined w.0 (fragments_then values (closes_sequence ∷ w.1)) w.2 (stays_same n atoms _ w.3 h))))

  pub stays_items : (n : ℕ) (x : Items) (atoms after : List Atom) → ShowItems x atoms after → StaysShallow n atoms → StaysShallow n after
  stays_items n no_item atoms after w h = stays_same n atoms after w h
  stays_items n (item declared set rest) atoms after w h =
      stays_items n rest w.1 after w.4
      (stays_on n closes_item w.1
      (stays_trees n set w.0 (closes_item ∷ w.1) w.3
      (stays_on n (opens_item declared) w.0 (stays_same n atoms _ w.2 h))))
