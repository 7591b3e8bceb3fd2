-- The encode sink over the atoms of a data set.
use Rattle.std.proofs.Common.{◌≡◌, ℕ, suc, ◌+◌, ◌==◌, ◌≤◌, List, [], ◌∷◌, ◌++◌, length, ap, sym, subst, ◌∙◌, refl, append_assoc, arith, map, flat_map, Bool, true, false, cond, Option, Some, None}
use Rattle.std.specs.Prelude.{min}
use Rattle.std.proofs.lemmas.List.{append-nil}
use Rattle.dcm_lemmas.proofs.Lists.{five_joined}
use Rattle.dcm_base.specs.declared.tag.Tag.{Tag}
use Rattle.dcm_base.specs.declared.vr.Vr.{Vr}
use Rattle.dcm_base.specs.declared.vr.Vr.TheVariants.{SQ}
use Rattle.dcm_base.specs.declared.syntax.Syntax.{Syntax}
use Rattle.dcm_base.specs.declared.length.Length.{Length}
use Rattle.dcm_base.specs.declared.length.Length.TheVariants.{Known, Undefined}
use Rattle.dcm_base.specs.declared.form.Form.{Form}
use Rattle.dcm_base.specs.declared.form.Form.TheVariants.{Value as a_value, Sequence as a_sequence, FragmentList as a_fragment_list}
use Rattle.dcm_base.specs.Tables.Representation.{unit}
use Rattle.dcm_base.specs.Tree.Tree.{Trees, no_tree, leaf, sequence, fragments, Items, no_item, item}
use Rattle.dcm_base.specs.Tree.Front.{Front, front, OpenTree, nothing_open, open_leaf, open_sequence, open_fragments, OpenItem, no_open_item, open_item}
use Rattle.dcm_base.specs.Bytes.Spelling.{form, read_as}
use Rattle.dcm_base.specs.Tree.Value.{order, whole_part}
use Rattle.dcm_base.specs.Conversion.Recode.{head, even, leaf_head, leaf_bytes, recoded_leaf, item_head, item_delimiter, sequence_delimiter, recoded_fragment, recode_set, recode_items, recode, recode_open, recode_open_item, recode_open_fragment}
use Rattle.dcm_base.specs.Steps.Atoms.{Atom, value_byte, closes_leaf, opens_item, closes_item, closes_sequence, fragments_then, ShowTrees, ShowItems, Shows, ShowsOpen, ShowsOpenItem, open_fragment_atoms, end_atoms}
use Rattle.dcm_stream.specs.Skip.{MOST_DEEP}
use Rattle.dcm_sinks.specs.EncodeSink.{leaf_copy, fragment_copy, padding, encode_start, encode_opens, encode_opens_writes}
use Rattle.dcm_sinks.specs.Laws.{StaysShallow}
use Rattle.dcm_sinks.proofs.Dumps.OpenLists.{stays_on, stays_opened, stays_bytes, stays_fragments, stays_trees, stays_items}
use Rattle.dcm_sinks.proofs.Conversions.Values.{encodes, dropping, sending, evened_padding, copied_value, copied_leaf, copied_fragment}

three : (a b c d : List ℕ) → a ++ (b ++ (c ++ d)) ≡ ((a ++ b) ++ c) ++ d
three a b c d = simp append_assoc

-- a list and its items are two things that are open, and with a value or fragment in them one more
counted : (n k : ℕ) (atoms : List Atom) → n ≤ suc (k + k) → StaysShallow k atoms → min MOST_DEEP n ≡ n
counted n k atoms l h = let within : k ≤ 64 = h [] atoms refl in omega arith

-- what is open within an item, and with a list in it
within_item : (n k : ℕ) → suc n ≤ k + k → suc (suc n) ≤ suc (k + k)
within_item n k l = omega arith

within_list : (n k : ℕ) → suc n ≤ k + k → suc (suc n) ≤ suc (suc k + suc k)
within_list n k l = omega arith

item_deeper : (n k : ℕ) → suc n ≤ k + k → suc (suc (suc n)) ≤ suc k + suc k
item_deeper n k l = omega arith

fragment_deeper : (n k : ℕ) → suc n ≤ k + k → suc (suc (suc n)) ≤ suc (suc k + suc k)
fragment_deeper n k l = omega arith

item_within : (n k : ℕ) → suc (suc n) ≤ k + k → suc (suc n) ≤ suc (k + k)
item_within n k l = omega arith

module _ (target : Syntax) where
  -- ---- in a dropped element

  bytes_dropped : (n : ℕ) (v : List ℕ) (others : List Atom) → encodes (dropping target (suc n)) (map value_byte v ++ others) ≡ encodes (dropping target (suc n)) others
  bytes_dropped n [] others = refl
  bytes_dropped n (b ∷ bs) others = bytes_dropped n bs others

  last_bytes_dropped : (n : ℕ) (v : List ℕ) → encodes (dropping target (suc n)) (map value_byte v) ≡ []
  last_bytes_dropped n [] = refl
  last_bytes_dropped n (b ∷ bs) = last_bytes_dropped n bs

  fragments_dropped : (n : ℕ) (values : List (List ℕ)) (others : List Atom) → min MOST_DEEP (suc (suc n)) ≡ suc (suc n) → encodes (dropping target (suc n)) (fragments_then values others) ≡ encodes (dropping target (suc n)) others
  unfolding fragments_then
  fragments_dropped n [] others e = refl
  fragments_dropped n (value ∷ rest) others e =
      ap (λ (m : ℕ). encodes (dropping target m) (map value_byte value ++ closes_leaf ∷ fragments_then rest others)) e
      ∙ bytes_dropped (suc n) value (closes_leaf ∷ fragments_then rest others)
      ∙ fragments_dropped n rest others e

  -- where an element or item opens within it
  opened_within : (n k : ℕ) (contents : List Atom) → suc (suc n) ≤ suc (k + k) → StaysShallow k contents → encodes (dropping target (min MOST_DEEP (suc (suc n)))) contents ≡ encodes (dropping target (suc (suc n))) contents
  opened_within n k contents l h = ap (λ (m : ℕ). encodes (dropping target m) contents) (counted (suc (suc n)) k contents l h)

  mutual
    unfolding ShowTrees

    trees_dropped : (n k : ℕ) (x : Trees) (atoms after : List Atom) → suc n ≤ k + k → StaysShallow k atoms → ShowTrees x atoms after → encodes (dropping target (suc n)) atoms ≡ encodes (dropping target (suc n)) after
    trees_dropped n k no_tree atoms after l h w = ap (encodes (dropping target (suc n))) w
    trees_dropped n k (leaf tag vr value rest) atoms after l h w =
        let raw : List ℕ = order w.0 vr value in
        let in_h : StaysShallow k (map value_byte raw ++ closes_leaf ∷ w.1) = stays_opened k a_value tag vr (Known (length value)) w.0 (map value_byte raw ++ closes_leaf ∷ w.1) w.2 (subst (StaysShallow k) w.3 h) in
        let rest_h : StaysShallow k w.1 = stays_on k closes_leaf w.1 (stays_bytes k raw (closes_leaf ∷ w.1) in_h) in
        ap (encodes (dropping target (suc n))) w.3
        ∙ opened_within n k (map value_byte raw ++ closes_leaf ∷ w.1) (within_item n k l) in_h
        ∙ bytes_dropped (suc n) raw (closes_leaf ∷ w.1)
        ∙ trees_dropped n k rest w.1 after l rest_h w.4
    trees_dropped n k (sequence tag vr declared items rest) atoms after l h w =
        let in_h : StaysShallow (suc k) w.1 = stays_opened k a_sequence tag vr declared w.0 w.1 w.3 (subst (StaysShallow k) w.4 h) in
        let rest_h : StaysShallow k w.2 = stays_on (suc k) closes_sequence w.2 (stays_items (suc k) items w.1 (closes_sequence ∷ w.2) w.5 in_h) in
        ap (encodes (dropping target (suc n))) w.4
        ∙ opened_within n (suc k) w.1 (within_list n k l) in_h
        ∙ items_dropped (suc n) (suc k) items w.1 (closes_sequence ∷ w.2) (item_deeper n k l) in_h w.5
        ∙ trees_dropped n k rest w.2 after l rest_h w.6
    trees_dropped n k (fragments tag vr values rest) atoms after l h w =
        let contents : List Atom = fragments_then values (closes_sequence ∷ w.1) in
        let in_h : StaysShallow (suc k) contents = stays_opened k a_fragment_list tag vr Undefined w.0 contents w.2 (subst (StaysShallow k) w.3 h) in
        let rest_h : StaysShallow k w.1 = stays_on (suc k) closes_sequence w.1 (stays_fragments (suc k) values (closes_sequence ∷ w.1) in_h) in
        ap (encodes (dropping target (suc n))) w.3
        ∙ opened_within n (suc k) contents (within_list n k l) in_h
        ∙ fragments_dropped (suc n) values (closes_sequence ∷ w.1) (counted (suc (suc (suc n))) (suc k) contents (fragment_deeper n k l) in_h)
        ∙ trees_dropped n k rest w.1 after l rest_h w.4

    items_dropped : (n k : ℕ) (x : Items) (atoms after : List Atom) → suc (suc n) ≤ k + k → StaysShallow k atoms → ShowItems x atoms after → encodes (dropping target (suc n)) atoms ≡ encodes (dropping target (suc n)) after
    items_dropped n k no_item atoms after l h w = ap (encodes (dropping target (suc n))) w
    items_dropped n k (item declared set rest) atoms after l h w =
        let in_h : StaysShallow k w.0 = stays_on k (opens_item declared) w.0 (subst (StaysShallow k) w.2 h) in
        let rest_h : StaysShallow k w.1 = stays_on k closes_item w.1 (stays_trees k set w.0 (closes_item ∷ w.1) w.3 in_h) in
        ap (encodes (dropping target (suc n))) w.2
        ∙ opened_within n k w.0 (item_within n k l) in_h
        ∙ trees_dropped (suc n) k set w.0 (closes_item ∷ w.1) l in_h w.3
        ∙ items_dropped n k rest w.1 after l rest_h w.4

  fragment_dropped : (n : ℕ) (last : Option (ℕ × List ℕ)) → min MOST_DEEP (suc (suc n)) ≡ suc (suc n) → encodes (dropping target (suc n)) (open_fragment_atoms last) ≡ []
  fragment_dropped n None e = refl
  fragment_dropped n (Some f) e = ap (λ (m : ℕ). encodes (dropping target m) (map value_byte f.1)) e ∙ last_bytes_dropped (suc n) f.1

  end_dropped : (n : ℕ) (closed : Bool) → encodes (dropping target (suc n)) (end_atoms closed) ≡ []
  end_dropped n true = refl
  end_dropped n false = refl

  mutual
    unfolding Shows

    front_dropped : (n k : ℕ) (f : Front) (atoms : List Atom) → suc n ≤ k + k → StaysShallow k atoms → Shows f atoms → encodes (dropping target (suc n)) atoms ≡ []
    front_dropped n k (front whole open_tree reached closed) atoms l h w =
        trees_dropped n k whole atoms w.0 l h w.1
        ∙ open_dropped n k open_tree closed w.0 l (stays_trees k whole atoms w.0 w.1 h) w.2

    open_dropped : (n k : ℕ) (o : OpenTree) (closed : Bool) (atoms : List Atom) → suc n ≤ k + k → StaysShallow k atoms → ShowsOpen o (end_atoms closed) atoms → encodes (dropping target (suc n)) atoms ≡ []
    open_dropped n k nothing_open closed atoms l h w = ap (encodes (dropping target (suc n))) w ∙ end_dropped n closed
    open_dropped n k (open_leaf tag vr size value) closed atoms l h w =
        let contents : List Atom = map value_byte (order w.0 vr value) in
        let in_h : StaysShallow k contents = stays_opened k a_value tag vr (Known size) w.0 contents w.1 (subst (StaysShallow k) w.3 h) in
        ap (encodes (dropping target (suc n))) w.3
        ∙ opened_within n k contents (within_item n k l) in_h
        ∙ last_bytes_dropped (suc n) (order w.0 vr value)
    open_dropped n k (open_sequence tag vr declared items last) closed atoms l h w =
        let in_h : StaysShallow (suc k) w.1 = stays_opened k a_sequence tag vr declared w.0 w.1 w.3 (subst (StaysShallow k) w.4 h) in
        ap (encodes (dropping target (suc n))) w.4
        ∙ opened_within n (suc k) w.1 (within_list n k l) in_h
        ∙ items_dropped (suc n) (suc k) items w.1 w.2 (item_deeper n k l) in_h w.5
        ∙ open_item_dropped (suc n) (suc k) last w.2 (item_deeper n k l) (stays_items (suc k) items w.1 w.2 w.5 in_h) w.6
    open_dropped n k (open_fragments tag vr values last) closed atoms l h w =
        let contents : List Atom = fragments_then values (open_fragment_atoms last) in
        let in_h : StaysShallow (suc k) contents = stays_opened k a_fragment_list tag vr Undefined w.0 contents w.1 (subst (StaysShallow k) w.3 h) in
        let room : min MOST_DEEP (suc (suc (suc n))) ≡ suc (suc (suc n)) = counted (suc (suc (suc n))) (suc k) contents (fragment_deeper n k l) in_h in
        ap (encodes (dropping target (suc n))) w.3
        ∙ opened_within n (suc k) contents (within_list n k l) in_h
        ∙ fragments_dropped (suc n) values (open_fragment_atoms last) room
        ∙ fragment_dropped (suc n) last room

    open_item_dropped : (n k : ℕ) (o : OpenItem) (atoms : List Atom) → suc (suc n) ≤ k + k → StaysShallow k atoms → ShowsOpenItem o atoms → encodes (dropping target (suc n)) atoms ≡ []
    open_item_dropped n k no_open_item atoms l h w = ap (encodes (dropping target (suc n))) w
    open_item_dropped n k (open_item declared set) atoms l h w =
        let in_h : StaysShallow k w.0 = stays_on k (opens_item declared) w.0 (subst (StaysShallow k) w.1 h) in
        ap (encodes (dropping target (suc n))) w.1
        ∙ opened_within n k w.0 (item_within n k l) in_h
        ∙ front_dropped (suc n) k set w.0 l in_h w.3

  -- ---- in no dropped element

  abbrev ready : List Atom → List ℕ
  ready atoms = encodes (encode_start target) atoms

  -- an element that is written, of a form, or else dropped
  element_encodes : (t : Bool) (f g : Form) (tag : Tag) (vr : Vr) (declared : Length) (s : Syntax) (contents : List Atom) (bytes behind : List ℕ) → f ≡ g
      → encode_opens_writes g target tag vr declared ++ encodes (encode_opens g (encode_start target) vr declared s) contents ≡ bytes ++ behind
      → encodes (dropping target 1) contents ≡ behind
      → cond t [] (encode_opens_writes f target tag vr declared) ++ encodes (cond t (dropping target 1) (encode_opens f (encode_start target) vr declared s)) contents ≡ cond t [] bytes ++ behind
  element_encodes true f g tag vr declared s contents bytes behind e live dropped = dropped
  element_encodes false f g tag vr declared s contents bytes behind e live dropped =
      ap (λ (f : Form). encode_opens_writes f target tag vr declared ++ encodes (encode_opens f (encode_start target) vr declared s) contents) e ∙ live

  leaf_encodes : (tag : Tag) (vr : Vr) (value : List ℕ) (s : Syntax) (others : List Atom)
      → leaf_head target tag vr (length value) ++ encodes (sending target (leaf_copy s target vr (length value))) (map value_byte (order s vr value) ++ closes_leaf ∷ others) ≡ recoded_leaf target tag vr value ++ ready others
  leaf_encodes tag vr value s others =
      ap (λ z. leaf_head target tag vr (length value) ++ z) (copied_leaf target s vr (length value) value others refl)
      ∙ sym (append_assoc (leaf_head target tag vr (length value)) _ _)

  fragments_encode : (values : List (List ℕ)) (others : List Atom) → ready (fragments_then values others) ≡ flat_map (recoded_fragment target) values ++ ready others
  unfolding fragments_then
  fragments_encode [] others = refl
  fragments_encode (value ∷ rest) others =
      let n : ℕ = length value in
      let first : List ℕ = item_head target (Known (even n)) in
      ap (λ z. first ++ z) (copied_fragment target n value (closes_leaf ∷ fragments_then rest others))
      ∙ ap (λ z. first ++ (value ++ (padding n 0 ++ z))) (fragments_encode rest others)
      ∙ five_joined first value (padding n 0) (flat_map (recoded_fragment target) rest) (ready others)
      ∙ ap (λ z. (z ++ flat_map (recoded_fragment target) rest) ++ ready others) (append_assoc first value (padding n 0) ∙ ap (λ z. first ++ z) (sym (evened_padding 0 value)))

  within_itself : (k : ℕ) → 2 ≤ suc k + suc k
  within_itself k = omega arith

  mutual
    unfolding ShowTrees recode_set

    pub trees_encode : (k : ℕ) (x : Trees) (atoms after : List Atom) → StaysShallow k atoms → ShowTrees x atoms after → ready atoms ≡ recode_set target x ++ ready after
    trees_encode k no_tree atoms after h w = ap ready w
    trees_encode k (leaf tag vr value rest) atoms after h w =
        let s : Syntax = w.0 in
        let raw : List ℕ = order s vr value in
        let bytes : List ℕ = recoded_leaf target tag vr value in
        let in_h : StaysShallow k (map value_byte raw ++ closes_leaf ∷ w.1) = stays_opened k a_value tag vr (Known (length value)) s (map value_byte raw ++ closes_leaf ∷ w.1) w.2 (subst (StaysShallow k) w.3 h) in
        let rest_h : StaysShallow k w.1 = stays_on k closes_leaf w.1 (stays_bytes k raw (closes_leaf ∷ w.1) in_h) in
        ap ready w.3
        ∙ element_encodes (tag.element == 0) (form s (read_as s tag vr) (Known (length value))) a_value tag vr (Known (length value)) s (map value_byte raw ++ closes_leaf ∷ w.1) bytes (ready w.1) w.2
        (leaf_encodes tag vr value s w.1)
        (bytes_dropped 0 raw (closes_leaf ∷ w.1))
        ∙ ap (λ z. cond (tag.element == 0) [] bytes ++ z) (trees_encode k rest w.1 after rest_h w.4)
        ∙ sym (append_assoc (cond (tag.element == 0) [] bytes) _ _)
    trees_encode k (sequence tag vr declared items rest) atoms after h w =
        let first : List ℕ = head target tag SQ Undefined in
        let last : List ℕ = sequence_delimiter target in
        let bytes : List ℕ = (first ++ recode_items target items) ++ last in
        let in_h : StaysShallow (suc k) w.1 = stays_opened k a_sequence tag vr declared w.0 w.1 w.3 (subst (StaysShallow k) w.4 h) in
        let rest_h : StaysShallow k w.2 = stays_on (suc k) closes_sequence w.2 (stays_items (suc k) items w.1 (closes_sequence ∷ w.2) w.5 in_h) in
        ap ready w.4
        ∙ element_encodes (tag.element == 0) (form w.0 (read_as w.0 tag vr) declared) a_sequence tag vr declared w.0 w.1 bytes (ready w.2) w.3
        (ap (λ z. first ++ z) (items_encode (suc k) items w.1 (closes_sequence ∷ w.2) in_h w.5) ∙ three first (recode_items target items) last (ready w.2))
        (items_dropped 0 (suc k) items w.1 (closes_sequence ∷ w.2) (within_itself k) in_h w.5)
        ∙ ap (λ z. cond (tag.element == 0) [] bytes ++ z) (trees_encode k rest w.2 after rest_h w.6)
        ∙ sym (append_assoc (cond (tag.element == 0) [] bytes) _ _)
    trees_encode k (fragments tag vr values rest) atoms after h w =
        let first : List ℕ = head target tag vr Undefined in
        let last : List ℕ = sequence_delimiter target in
        let inner : List ℕ = flat_map (recoded_fragment target) values in
        let bytes : List ℕ = (first ++ inner) ++ last in
        let contents : List Atom = fragments_then values (closes_sequence ∷ w.1) in
        let in_h : StaysShallow (suc k) contents = stays_opened k a_fragment_list tag vr Undefined w.0 contents w.2 (subst (StaysShallow k) w.3 h) in
        let rest_h : StaysShallow k w.1 = stays_on (suc k) closes_sequence w.1 (stays_fragments (suc k) values (closes_sequence ∷ w.1) in_h) in
        ap ready w.3
        ∙ element_encodes (tag.element == 0) (form w.0 (read_as w.0 tag vr) Undefined) a_fragment_list tag vr Undefined w.0 contents bytes (ready w.1) w.2
        (ap (λ z. first ++ z) (fragments_encode values (closes_sequence ∷ w.1)) ∙ three first inner last (ready w.1))
        (fragments_dropped 0 values (closes_sequence ∷ w.1) refl)
        ∙ ap (λ z. cond (tag.element == 0) [] bytes ++ z) (trees_encode k rest w.1 after rest_h w.4)
        ∙ sym (append_assoc (cond (tag.element == 0) [] bytes) _ _)

    items_encode : (k : ℕ) (x : Items) (atoms after : List Atom) → StaysShallow k atoms → ShowItems x atoms after → ready atoms ≡ recode_items target x ++ ready after
    items_encode k no_item atoms after h w = ap ready w
    items_encode k (item declared set rest) atoms after h w =
        let first : List ℕ = item_head target Undefined in
        let last : List ℕ = item_delimiter target in
        let in_h : StaysShallow k w.0 = stays_on k (opens_item declared) w.0 (subst (StaysShallow k) w.2 h) in
        let rest_h : StaysShallow k w.1 = stays_on k closes_item w.1 (stays_trees k set w.0 (closes_item ∷ w.1) w.3 in_h) in
        ap ready w.2
        ∙ ap (λ z. first ++ z) (trees_encode k set w.0 (closes_item ∷ w.1) in_h w.3)
        ∙ ap (λ z. first ++ (recode_set target set ++ (last ++ z))) (items_encode k rest w.1 after rest_h w.4)
        ∙ five_joined first (recode_set target set) last (recode_items target rest) (ready after)

  fragment_open : (last : Option (ℕ × List ℕ)) → ready (open_fragment_atoms last) ≡ recode_open_fragment target last
  fragment_open None = refl
  fragment_open (Some f) =
      let first : List ℕ = item_head target (Known (even f.0)) in
      ap (λ (z : List Atom). first ++ encodes (sending target (fragment_copy f.0)) z) (sym (append-nil (map value_byte f.1)))
      ∙ ap (λ z. first ++ z) (copied_fragment target f.0 f.1 [])
      ∙ ap (λ z. first ++ z) (append-nil f.1)

  leaf_open : (tag : Tag) (vr : Vr) (size : ℕ) (value : List ℕ) (s : Syntax)
      → leaf_head target tag vr size ++ encodes (sending target (leaf_copy s target vr size)) (map value_byte (order s vr value)) ≡ leaf_head target tag vr size ++ leaf_bytes target vr size (whole_part (unit vr) value)
  leaf_open tag vr size value s =
      let first : List ℕ = leaf_head target tag vr size in
      ap (λ (z : List Atom). first ++ encodes (sending target (leaf_copy s target vr size)) z) (sym (append-nil (map value_byte (order s vr value))))
      ∙ ap (λ z. first ++ z) (copied_value target s vr size value [] ∙ append-nil (leaf_bytes target vr size (whole_part (unit vr) value)))

  end_encodes : (closed : Bool) → ready (end_atoms closed) ≡ []
  end_encodes true = refl
  end_encodes false = refl

  mutual
    unfolding Shows recode

    pub front_encodes : (k : ℕ) (f : Front) (atoms : List Atom) → StaysShallow k atoms → Shows f atoms → ready atoms ≡ recode target f
    front_encodes k (front whole open_tree reached closed) atoms h w =
        trees_encode k whole atoms w.0 h w.1
        ∙ ap (λ z. recode_set target whole ++ z) (open_encodes k open_tree closed w.0 (stays_trees k whole atoms w.0 w.1 h) w.2)

    pub open_encodes : (k : ℕ) (o : OpenTree) (closed : Bool) (atoms : List Atom) → StaysShallow k atoms → ShowsOpen o (end_atoms closed) atoms → ready atoms ≡ recode_open target o
    open_encodes k nothing_open closed atoms h w = ap ready w ∙ end_encodes closed
    open_encodes k (open_leaf tag vr size value) closed atoms h w =
        let s : Syntax = w.0 in
        let raw : List ℕ = order s vr value in
        let bytes : List ℕ = leaf_head target tag vr size ++ leaf_bytes target vr size (whole_part (unit vr) value) in
        ap ready w.3
        ∙ element_encodes (tag.element == 0) (form s (read_as s tag vr) (Known size)) a_value tag vr (Known size) s (map value_byte raw) bytes [] w.1
        (leaf_open tag vr size value s ∙ sym (append-nil bytes))
        (last_bytes_dropped 0 raw)
        ∙ append-nil (cond (tag.element == 0) [] bytes)
    open_encodes k (open_sequence tag vr declared items last) closed atoms h w =
        let first : List ℕ = head target tag SQ Undefined in
        let bytes : List ℕ = (first ++ recode_items target items) ++ recode_open_item target last in
        let in_h : StaysShallow (suc k) w.1 = stays_opened k a_sequence tag vr declared w.0 w.1 w.3 (subst (StaysShallow k) w.4 h) in
        let last_h : StaysShallow (suc k) w.2 = stays_items (suc k) items w.1 w.2 w.5 in_h in
        ap ready w.4
        ∙ element_encodes (tag.element == 0) (form w.0 (read_as w.0 tag vr) declared) a_sequence tag vr declared w.0 w.1 bytes [] w.3
        (ap (λ z. first ++ z) (items_encode (suc k) items w.1 w.2 in_h w.5)
        ∙ ap (λ z. first ++ (recode_items target items ++ z)) (open_item_encodes (suc k) last w.2 last_h w.6)
        ∙ sym (append_assoc first _ _)
        ∙ sym (append-nil bytes))
        (items_dropped 0 (suc k) items w.1 w.2 (within_itself k) in_h w.5 ∙ open_item_dropped 0 (suc k) last w.2 (within_itself k) last_h w.6)
        ∙ append-nil (cond (tag.element == 0) [] bytes)
    open_encodes k (open_fragments tag vr values last) closed atoms h w =
        let first : List ℕ = head target tag vr Undefined in
        let inner : List ℕ = flat_map (recoded_fragment target) values in
        let bytes : List ℕ = (first ++ inner) ++ recode_open_fragment target last in
        ap ready w.3
        ∙ element_encodes (tag.element == 0) (form w.0 (read_as w.0 tag vr) Undefined) a_fragment_list tag vr Undefined w.0 (fragments_then values (open_fragment_atoms last)) bytes [] w.1
        (ap (λ z. first ++ z) (fragments_encode values (open_fragment_atoms last))
        ∙ ap (λ z. first ++ (inner ++ z)) (fragment_open last)
        ∙ sym (append_assoc first _ _)
        ∙ sym (append-nil bytes))
        (fragments_dropped 0 values (open_fragment_atoms last) refl ∙ fragment_dropped 0 last refl)
        ∙ append-nil (cond (tag.element == 0) [] bytes)

    open_item_encodes : (k : ℕ) (o : OpenItem) (atoms : List Atom) → StaysShallow k atoms → ShowsOpenItem o atoms → ready atoms ≡ recode_open_item target o
    open_item_encodes k no_open_item atoms h w = ap ready w
    open_item_encodes k (open_item declared set) atoms h w =
        ap ready w.1
        ∙ ap (λ z. item_head target Undefined ++ z) (front_encodes k set w.0 (stays_on k (opens_item declared) w.0 (subst (StaysShallow k) w.1 h)) w.3)

pub encode_steps : (target : Syntax) (f : Front) (atoms : List Atom) → StaysShallow 0 atoms → Shows f atoms → encodes (encode_start target) atoms ≡ recode target f
encode_steps target f atoms h w = front_encodes target 0 f atoms h w
