-- Where no more than 64 sequences and fragment lists are open at a time, the sink has room.
use Rattle.std.proofs.Common.{◌≡◌, ℕ, suc, ◌+◌, ◌≤◌, List, [], ◌∷◌, ◌++◌, length, Option, Some, None, Bool, true, false, refl, sym, subst, arith}
use Rattle.std.specs.Prelude.{map}
use Rattle.dcm_base.specs.declared.length.Length.TheVariants.{Known, Undefined}
use Rattle.dcm_base.specs.declared.form.Form.TheVariants.{Value as a_value, Sequence as a_sequence, FragmentList as a_fragment_list}
use Rattle.dcm_base.specs.Tree.Tree.{Trees, no_tree, leaf, sequence, fragments, Items, no_item, item}
use Rattle.dcm_base.specs.Tree.Front.{Front, front, OpenTree, nothing_open, open_leaf, open_sequence, open_fragments, OpenItem, no_open_item, open_item}
use Rattle.dcm_base.specs.Tree.Value.{order}
use Rattle.dcm_base.specs.Steps.Atoms.{Atom, value_byte, closes_leaf, opens_item, closes_item, closes_sequence, fragments_then, ShowTrees, ShowItems, open_fragment_atoms, end_atoms, Shows, ShowsOpen, ShowsOpenItem}
use Rattle.dcm_sinks.specs.Laws.{StaysShallow}
use Rattle.dcm_sinks.proofs.Dumps.OpenLists.{stays_on, stays_opened, stays_bytes, stays_fragments, stays_same, stays_trees, stays_items}
use Rattle.dcm_editor.proofs.EditSinks.Bounds.{HasRoom}

-- so many data sets are around the innermost one, and so many things open: no more than a sequence and an item for each
pub record Room (n m k : ℕ) : Type 0 where
  pub lists : m ≤ n
  pub things : k ≤ m + m

few : (n : ℕ) (atoms : List Atom) → StaysShallow n atoms → n ≤ 64
few n atoms h = h [] atoms refl

bytes_room : (m k : ℕ) (v : List ℕ) (others : List Atom) → m ≤ 64 → k ≤ 200 → HasRoom m k others → HasRoom m k (map value_byte v ++ others)
bytes_room m k [] others p q h = h
bytes_room m k (b ∷ v) others p q h = (p, q, bytes_room m k v others p q h)

fragments_room : (m k : ℕ) (values : List (List ℕ)) (others : List Atom) → m ≤ 64 → suc k ≤ 200 → HasRoom m k others → HasRoom m k (fragments_then values others)
unfolding fragments_then
fragments_room m k [] others p q h = h
fragments_room m k (v ∷ values) others p q h = (p, q, bytes_room m (suc k) v _ p q (p, omega arith, fragments_room m k values others p q h))

moved_room : (m k : ℕ) (x y : List Atom) → x ≡ y → HasRoom m k y → HasRoom m k x
moved_room m k x y e h = subst (λ (z : List Atom). HasRoom m k z) (sym e) h

within : (n m k : ℕ) (atoms : List Atom) → StaysShallow n atoms → Room n m k → m ≤ 64
within n m k atoms h r = omega (arith, few n atoms h, r.lists)

things_within : (n m k : ℕ) (atoms : List Atom) → StaysShallow n atoms → Room n m k → suc k ≤ 200
things_within n m k atoms h r = omega (arith, few n atoms h, r.lists, r.things)

things_within_two : (n m k : ℕ) (atoms : List Atom) → StaysShallow n atoms → Room n m k → suc (suc k) ≤ 200
things_within_two n m k atoms h r = omega (arith, few n atoms h, r.lists, r.things)

room_deeper : (n m k : ℕ) → Room n m k → Room (suc n) (suc m) (suc (suc k))
room_deeper n m k r = record { lists = omega (arith, r.lists); things = omega (arith, r.things) }

mutual
  unfolding ShowTrees

  trees_room : (x : Trees) (n m k : ℕ) (atoms after : List Atom) → ShowTrees x atoms after → StaysShallow n atoms → Room n m k → HasRoom m k after → HasRoom m k atoms
  trees_room no_tree n m k atoms after w h r more = moved_room m k atoms after w more
  trees_room (leaf tag vr value rest) n m k atoms after (s, others, fo, is, w) h r more =
      let in_h = stays_opened n a_value tag vr (Known (length value)) s _ fo (stays_same n atoms _ is h) in
      let rest_h : StaysShallow n others = stays_on n closes_leaf others (stays_bytes n (order s vr value) (closes_leaf ∷ others) in_h) in
      let p : m ≤ 64 = within n m k atoms h r in
      let q : suc k ≤ 200 = things_within n m k atoms h r in
      moved_room m k atoms _ is (p, q, bytes_room m (suc k) (order s vr value) (closes_leaf ∷ others) p q (p, omega arith, trees_room rest n m k others after w rest_h r more))
  trees_room (sequence tag vr declared items rest) n m k atoms after (s, contents, others, fo, is, inner, w) h r more =
      let in_h : StaysShallow (suc n) contents = stays_opened n a_sequence tag vr declared s contents fo (stays_same n atoms _ is h) in
      let rest_h : StaysShallow n others = stays_on (suc n) closes_sequence others (stays_items (suc n) items contents (closes_sequence ∷ others) inner in_h) in
      let p : m ≤ 64 = within n m k atoms h r in
      let q : suc k ≤ 200 = things_within n m k atoms h r in
      moved_room m k atoms _ is (p, q, items_room items n m k contents (closes_sequence ∷ others) inner in_h r (p, omega arith, trees_room rest n m k others after w rest_h r more))
  trees_room (fragments tag vr values rest) n m k atoms after (s, others, fo, is, w) h r more =
      let in_h : StaysShallow (suc n) (fragments_then values (closes_sequence ∷ others)) = stays_opened n a_fragment_list tag vr Undefined s _ fo (stays_same n atoms _ is h) in
      let rest_h : StaysShallow n others = stays_on (suc n) closes_sequence others (stays_fragments (suc n) values (closes_sequence ∷ others) in_h) in
      let p : m ≤ 64 = within n m k atoms h r in
      let q : suc (suc k) ≤ 200 = things_within_two n m k atoms h r in
      moved_room m k atoms _ is (p, omega arith, fragments_room m (suc k) values (closes_sequence ∷ others) p q (p, omega arith, trees_room rest n m k others after w rest_h r more))

  items_room : (x : Items) (n m k : ℕ) (atoms after : List Atom) → ShowItems x atoms after → StaysShallow (suc n) atoms → Room n m k → HasRoom m (suc k) after → HasRoom m (suc k) atoms
  items_room no_item n m k atoms after w h r more = moved_room m (suc k) atoms after w more
  items_room (item declared set rest) n m k atoms after (contents, others, is, inner, w) h r more =
      let in_h : StaysShallow (suc n) contents = stays_on (suc n) (opens_item declared) contents (stays_same (suc n) atoms _ is h) in
      let rest_h : StaysShallow (suc n) others = stays_on (suc n) closes_item others (stays_trees (suc n) set contents (closes_item ∷ others) inner in_h) in
      let deeper : Room (suc n) (suc m) (suc (suc k)) = room_deeper n m k r in
      let p : suc m ≤ 64 = within (suc n) (suc m) (suc (suc k)) contents in_h deeper in
      let q : suc (suc (suc k)) ≤ 200 = things_within (suc n) (suc m) (suc (suc k)) contents in_h deeper in
      moved_room m (suc k) atoms _ is (
        p,
        omega arith,
        trees_room set (suc n) (suc m) (suc (suc k)) contents (closes_item ∷ others) inner in_h deeper
            (omega arith, omega arith, items_room rest n m k others after w rest_h r more),
      )

open_bytes_room : (m k : ℕ) (v : List ℕ) → m ≤ 64 → k ≤ 200 → HasRoom m k (map value_byte v)
open_bytes_room m k [] p q = tt
open_bytes_room m k (b ∷ v) p q = (p, q, open_bytes_room m k v p q)

open_fragment_room : (m k : ℕ) (last : Option (ℕ × List ℕ)) → m ≤ 64 → suc k ≤ 200 → HasRoom m k (open_fragment_atoms last)
open_fragment_room m k None p q = tt
open_fragment_room m k (Some fragment) p q = (p, q, open_bytes_room m (suc k) fragment.1 p q)

mutual
  unfolding Shows

  pub front_room : (f : Front) (n m k : ℕ) (atoms : List Atom) → Shows f atoms → StaysShallow n atoms → Room n m k → HasRoom m k atoms
  front_room (front whole o reached closed) n m k atoms (others, w, shown, may, re) h r =
      trees_room whole n m k atoms others w h r (open_room o n m k closed others shown (stays_trees n whole atoms others w h) r)

  open_room : (o : OpenTree) (n m k : ℕ) (c : Bool) (atoms : List Atom) → ShowsOpen o (end_atoms c) atoms → StaysShallow n atoms → Room n m k → HasRoom m k atoms
  open_room nothing_open n m k true atoms w h r = moved_room m k atoms _ w (within n m k atoms h r, omega (arith, things_within n m k atoms h r), tt)
  open_room nothing_open n m k false atoms w h r = moved_room m k atoms _ w tt
  open_room (open_leaf tag vr size value) n m k c atoms (s, fo, le, is) h r =
      let p : m ≤ 64 = within n m k atoms h r in
      let q : suc k ≤ 200 = things_within n m k atoms h r in
      moved_room m k atoms _ is (p, q, open_bytes_room m (suc k) (order s vr value) p q)
  open_room (open_sequence tag vr declared items last) n m k c atoms (s, contents, others, fo, is, inner, w) h r =
      let in_h : StaysShallow (suc n) contents = stays_opened n a_sequence tag vr declared s contents fo (stays_same n atoms _ is h) in
      let rest_h : StaysShallow (suc n) others = stays_items (suc n) items contents others inner in_h in
      let p : m ≤ 64 = within n m k atoms h r in
      let q : suc k ≤ 200 = things_within n m k atoms h r in
      moved_room m k atoms _ is (p, q, items_room items n m k contents others inner in_h r (open_item_room last n m k others w rest_h r))
  open_room (open_fragments tag vr values last) n m k c atoms (s, fo, mi, is) h r =
      let p : m ≤ 64 = within n m k atoms h r in
      let q : suc (suc k) ≤ 200 = things_within_two n m k atoms h r in
      moved_room m k atoms _ is (p, omega arith, fragments_room m (suc k) values (open_fragment_atoms last) p q (open_fragment_room m (suc k) last p q))

  open_item_room : (o : OpenItem) (n m k : ℕ) (atoms : List Atom) → ShowsOpenItem o atoms → StaysShallow (suc n) atoms → Room n m k → HasRoom m (suc k) atoms
  open_item_room no_open_item n m k atoms w h r = moved_room m (suc k) atoms _ w tt
  open_item_room (open_item declared set) n m k atoms (contents, is, still, w) h r =
      let in_h : StaysShallow (suc n) contents = stays_on (suc n) (opens_item declared) contents (stays_same (suc n) atoms _ is h) in
      let deeper : Room (suc n) (suc m) (suc (suc k)) = room_deeper n m k r in
      let p : suc m ≤ 64 = within (suc n) (suc m) (suc (suc k)) contents in_h deeper in
      let q : suc (suc (suc k)) ≤ 200 = things_within (suc n) (suc m) (suc (suc k)) contents in_h deeper in
      moved_room m (suc k) atoms _ is (p, omega arith, front_room set (suc n) (suc m) (suc (suc k)) contents w in_h deeper)
