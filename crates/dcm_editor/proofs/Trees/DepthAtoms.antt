-- How deep a data set is, by its atoms.
use Rattle.std.proofs.Common.{◌≡◌, ℕ, suc, ◌≤◌, List, [], ◌∷◌, ◌++◌, length, Option, Some, None, Bool, true, false, refl, sym, subst}
use Rattle.std.specs.Prelude.{map, fold}
use Rattle.dcm_base.specs.declared.length.Length.TheVariants.{Known, Undefined}
use Rattle.dcm_base.specs.declared.form.Form.TheVariants.{Value as a_value, Sequence as a_sequence, FragmentList as a_fragment_list}
use Rattle.dcm_base.specs.Tree.Tree.{Trees, no_tree, leaf, sequence, fragments, Items, no_item, item}
use Rattle.dcm_base.specs.Tree.Front.{Front, front, OpenTree, nothing_open, open_leaf, open_sequence, open_fragments, OpenItem, no_open_item, open_item}
use Rattle.dcm_base.specs.Tree.Value.{order}
use Rattle.dcm_base.specs.Steps.Atoms.{Atom, value_byte, closes_leaf, opens_item, closes_item, closes_sequence, opens_fragment, ends, fragments_then, ShowTrees, ShowItems, open_fragment_atoms, end_atoms, Shows, ShowsOpen, ShowsOpenItem}
use Rattle.dcm_sinks.specs.Laws.{lists_behind, StaysShallow}
use Rattle.dcm_sinks.proofs.Dumps.OpenLists.{stays_on, stays_opened, stays_bytes, stays_fragments, stays_same, stays_trees, stays_items}
use Rattle.dcm_sinks.proofs.ReadBack.Shallow.{leads_more, shallow_none}
use Rattle.dcm_sinks.proofs.ReadBack.Sources.{lists_of}
use Rattle.dcm_base.specs.Steps.Anew.{reached_anew, open_anew, item_anew}
use Rattle.dcm_edits.proofs.Trees.Depths.{IsShallow, AreShallow, FrontShallow, OpenShallow, ItemShallow}

-- ---- from the atoms

few : (n : ℕ) (atoms : List Atom) → StaysShallow n atoms → n ≤ 64
few n atoms h = h [] atoms refl

mutual
  unfolding ShowTrees

  trees_shallow : (x : Trees) (n : ℕ) (atoms after : List Atom) → ShowTrees x atoms after → StaysShallow n atoms → IsShallow n x
  trees_shallow no_tree n atoms after w h = tt
  trees_shallow (leaf tag vr value rest) n atoms after (s, others, fo, is, w) h =
      let in_h = stays_opened n a_value tag vr (Known (length value)) s _ fo (stays_same n atoms _ is h) in
      trees_shallow rest n others after w (stays_on n closes_leaf others (stays_bytes n (order s vr value) (closes_leaf ∷ others) in_h))
  trees_shallow (sequence tag vr declared items rest) n atoms after (s, contents, others, fo, is, inner, w) h =
      let in_h : StaysShallow (suc n) contents = stays_opened n a_sequence tag vr declared s contents fo (stays_same n atoms _ is h) in
      let rest_h : StaysShallow n others = stays_on (suc n) closes_sequence others (stays_items (suc n) items contents (closes_sequence ∷ others) inner in_h) in
      (few (suc n) contents in_h, items_shallow items (suc n) contents (closes_sequence ∷ others) inner in_h, trees_shallow rest n others after w rest_h)
  trees_shallow (fragments tag vr values rest) n atoms after (s, others, fo, is, w) h =
      let in_h : StaysShallow (suc n) (fragments_then values (closes_sequence ∷ others)) = stays_opened n a_fragment_list tag vr Undefined s _ fo (stays_same n atoms _ is h) in
      let rest_h : StaysShallow n others = stays_on (suc n) closes_sequence others (stays_fragments (suc n) values (closes_sequence ∷ others) in_h) in
      (few (suc n) _ in_h, trees_shallow rest n others after w rest_h)

  items_shallow : (x : Items) (n : ℕ) (atoms after : List Atom) → ShowItems x atoms after → StaysShallow n atoms → AreShallow n x
  items_shallow no_item n atoms after w h = tt
  items_shallow (item declared set rest) n atoms after (contents, others, is, inner, w) h =
      let in_h : StaysShallow n contents = stays_on n (opens_item declared) contents (stays_same n atoms _ is h) in
      let rest_h : StaysShallow n others = stays_on n closes_item others (stays_trees n set contents (closes_item ∷ others) inner in_h) in
      (trees_shallow set n contents (closes_item ∷ others) inner in_h, items_shallow rest n others after w rest_h)

mutual
  unfolding Shows

  pub front_shallow : (f : Front) (n : ℕ) (atoms : List Atom) → Shows f atoms → StaysShallow n atoms → FrontShallow n f
  front_shallow (front whole o reached closed) n atoms (others, w, shown, may, re) h =
      (trees_shallow whole n atoms others w h, open_shallow o n closed others shown (stays_trees n whole atoms others w h))

  open_shallow : (o : OpenTree) (n : ℕ) (c : Bool) (atoms : List Atom) → ShowsOpen o (end_atoms c) atoms → StaysShallow n atoms → OpenShallow n o
  open_shallow nothing_open n c atoms w h = tt
  open_shallow (open_leaf tag vr size value) n c atoms w h = tt
  open_shallow (open_sequence tag vr declared items last) n c atoms (s, contents, others, fo, is, inner, w) h =
      let in_h : StaysShallow (suc n) contents = stays_opened n a_sequence tag vr declared s contents fo (stays_same n atoms _ is h) in
      (few (suc n) contents in_h, items_shallow items (suc n) contents others inner in_h, open_item_shallow last (suc n) others w (stays_items (suc n) items contents others inner in_h))
  open_shallow (open_fragments tag vr values last) n c atoms (s, fo, mi, is) h =
      few (suc n) _ (stays_opened n a_fragment_list tag vr Undefined s (fragments_then values (open_fragment_atoms last)) fo (stays_same n atoms _ is h))

  open_item_shallow : (o : OpenItem) (n : ℕ) (atoms : List Atom) → ShowsOpenItem o atoms → StaysShallow n atoms → ItemShallow n o
  open_item_shallow no_open_item n atoms w h = tt
  open_item_shallow (open_item declared set) n atoms (contents, is, still, w) h =
      front_shallow set n contents w (stays_on n (opens_item declared) contents (stays_same n atoms _ is h))

-- ---- back to the atoms

stays_more : (n k : ℕ) (a : Atom) (atoms : List Atom) → n ≤ 64 → lists_behind n a ≡ k → StaysShallow k atoms → StaysShallow n (a ∷ atoms)
stays_more n k a atoms h e more = (leads_more n k (fold lists_behind k atoms) a atoms h e (record { comes = refl; shallow = more })).shallow

moved : (n : ℕ) (x y : List Atom) → x ≡ y → StaysShallow n y → StaysShallow n x
moved n x y e h = subst (λ (z : List Atom). StaysShallow n z) (sym e) h

bytes_stay : (n : ℕ) (v : List ℕ) (others : List Atom) → n ≤ 64 → StaysShallow n others → StaysShallow n (map value_byte v ++ others)
bytes_stay n [] others h more = more
bytes_stay n (b ∷ v) others h more = stays_more n n (value_byte b) _ h refl (bytes_stay n v others h more)

fragments_stay : (n : ℕ) (values : List (List ℕ)) (others : List Atom) → n ≤ 64 → StaysShallow n others → StaysShallow n (fragments_then values others)
unfolding fragments_then
fragments_stay n [] others h more = more
fragments_stay n (v ∷ values) others h more =
    stays_more n n (opens_fragment (length v)) _ h refl (bytes_stay n v _ h (stays_more n n closes_leaf _ h refl (fragments_stay n values others h more)))

mutual
  unfolding ShowTrees

  trees_stay : (x : Trees) (n : ℕ) (atoms after : List Atom) → ShowTrees x atoms after → n ≤ 64 → IsShallow n x → StaysShallow n after → StaysShallow n atoms
  trees_stay no_tree n atoms after w h d more = moved n atoms after w more
  trees_stay (leaf tag vr value rest) n atoms after (s, others, fo, is, w) h d more =
      moved n atoms _ is (stays_more n n _ _ h (lists_of n a_value tag vr (Known (length value)) s fo)
      (bytes_stay n (order s vr value) (closes_leaf ∷ others) h (stays_more n n closes_leaf others h refl (trees_stay rest n others after w h d more))))
  trees_stay (sequence tag vr declared items rest) n atoms after (s, contents, others, fo, is, inner, w) h d more =
      moved n atoms _ is (stays_more n (suc n) _ contents h (lists_of n a_sequence tag vr declared s fo)
      (items_stay items (suc n) contents (closes_sequence ∷ others) inner d.0 d.1 (stays_more (suc n) n closes_sequence others d.0 refl (trees_stay rest n others after w h d.2 more))))
  trees_stay (fragments tag vr values rest) n atoms after (s, others, fo, is, w) h d more =
      moved n atoms _ is (stays_more n (suc n) _ _ h (lists_of n a_fragment_list tag vr Undefined s fo)
      (fragments_stay (suc n) values (closes_sequence ∷ others) d.0 (stays_more (suc n) n closes_sequence others d.0 refl (trees_stay rest n others after w h d.1 more))))

  items_stay : (x : Items) (n : ℕ) (atoms after : List Atom) → ShowItems x atoms after → n ≤ 64 → AreShallow n x → StaysShallow n after → StaysShallow n atoms
  items_stay no_item n atoms after w h d more = moved n atoms after w more
  items_stay (item declared set rest) n atoms after (contents, others, is, inner, w) h d more =
      moved n atoms _ is (stays_more n n (opens_item declared) contents h refl
      (trees_stay set n contents (closes_item ∷ others) inner h d.0 (stays_more n n closes_item others h refl (items_stay rest n others after w h d.1 more))))

open_bytes_stay : (n : ℕ) (v : List ℕ) → n ≤ 64 → StaysShallow n (map value_byte v)
open_bytes_stay n [] h = shallow_none n h
open_bytes_stay n (b ∷ v) h = stays_more n n (value_byte b) _ h refl (open_bytes_stay n v h)

open_fragment_stays : (n : ℕ) (last : Option (ℕ × List ℕ)) → n ≤ 64 → StaysShallow n (open_fragment_atoms last)
open_fragment_stays n None h = shallow_none n h
open_fragment_stays n (Some fragment) h = stays_more n n (opens_fragment fragment.0) _ h refl (open_bytes_stay n fragment.1 h)

mutual
  unfolding Shows

  pub front_stays : (f : Front) (n : ℕ) (atoms : List Atom) → Shows f atoms → n ≤ 64 → FrontShallow n f → StaysShallow n atoms
  front_stays (front whole o reached closed) n atoms (others, w, shown, may, re) h d = trees_stay whole n atoms others w h d.0 (open_stays o n closed others shown h d.1)

  open_stays : (o : OpenTree) (n : ℕ) (c : Bool) (atoms : List Atom) → ShowsOpen o (end_atoms c) atoms → n ≤ 64 → OpenShallow n o → StaysShallow n atoms
  open_stays nothing_open n true atoms w h d = moved n atoms _ w (stays_more n n ends [] h refl (shallow_none n h))
  open_stays nothing_open n false atoms w h d = moved n atoms _ w (shallow_none n h)
  open_stays (open_leaf tag vr size value) n c atoms (s, fo, le, is) h d =
      moved n atoms _ is (stays_more n n _ _ h (lists_of n a_value tag vr (Known size) s fo) (open_bytes_stay n (order s vr value) h))
  open_stays (open_sequence tag vr declared items last) n c atoms (s, contents, others, fo, is, inner, w) h d =
      moved n atoms _ is (stays_more n (suc n) _ contents h (lists_of n a_sequence tag vr declared s fo)
      (items_stay items (suc n) contents others inner d.0 d.1 (open_item_stays last (suc n) others w d.0 d.2)))
  open_stays (open_fragments tag vr values last) n c atoms (s, fo, mi, is) h d =
      moved n atoms _ is (stays_more n (suc n) _ _ h (lists_of n a_fragment_list tag vr Undefined s fo)
      (fragments_stay (suc n) values (open_fragment_atoms last) d (open_fragment_stays (suc n) last d)))

  open_item_stays : (o : OpenItem) (n : ℕ) (atoms : List Atom) → ShowsOpenItem o atoms → n ≤ 64 → ItemShallow n o → StaysShallow n atoms
  open_item_stays no_open_item n atoms w h d = moved n atoms _ w (shallow_none n h)
  open_item_stays (open_item declared set) n atoms (contents, is, still, w) h d =
      moved n atoms _ is (stays_more n n (opens_item declared) contents h refl (front_stays set n contents w h d))

-- ---- reached tags aside

mutual
  pub anew_shallow : (n : ℕ) (f : Front) → FrontShallow n f → FrontShallow n (reached_anew f)
  anew_shallow n (front whole o reached closed) d = (d.0, open_anew_shallow n o d.1)

  open_anew_shallow : (n : ℕ) (o : OpenTree) → OpenShallow n o → OpenShallow n (open_anew o)
  open_anew_shallow n nothing_open d = tt
  open_anew_shallow n (open_leaf tag vr size value) d = tt
  open_anew_shallow n (open_sequence tag vr declared items last) d = (d.0, d.1, item_anew_shallow (suc n) last d.2)
  open_anew_shallow n (open_fragments tag vr values last) d = d

  item_anew_shallow : (n : ℕ) (o : OpenItem) → ItemShallow n o → ItemShallow n (item_anew o)
  item_anew_shallow n no_open_item d = tt
  item_anew_shallow n (open_item declared set) d = anew_shallow n set d
