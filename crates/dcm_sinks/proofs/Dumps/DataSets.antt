-- The dump over the atoms of a data set.
use Rattle.std.proofs.Common.{◌≡◌, ◌<◌, ◌≤◌, ℕ, suc, ◌+◌, List, [], ◌∷◌, ◌++◌, length, codes, ap, sym, ◌∙◌, refl, append_assoc, arith, map, flat_map, Bool, true, false, cond, Option, Some, None, subst}
use Rattle.std.specs.Prelude.{fold, nat_lt}
use Rattle.std.proofs.lemmas.Bool.Decides.{nat_tests}
use Rattle.dcm_lemmas.proofs.Lists.{five_joined}
use Rattle.dcm_base.specs.declared.tag.Tag.{Tag}
use Rattle.dcm_base.specs.declared.vr.Vr.{Vr}
use Rattle.dcm_base.specs.declared.vr.Vr.TheVariants.{OB}
use Rattle.dcm_base.specs.declared.syntax.Syntax.{Syntax}
use Rattle.dcm_base.specs.Tables.Syntax.{Little}
use Rattle.dcm_base.specs.declared.mode.Mode.{Mode}
use Rattle.dcm_base.specs.declared.mode.Mode.TheVariants.{Short, Full}
use Rattle.dcm_base.specs.declared.length.Length.{Length}
use Rattle.dcm_base.specs.declared.length.Length.TheVariants.{Known, Undefined}
use Rattle.dcm_base.specs.declared.form.Form.{Form}
use Rattle.dcm_base.specs.declared.form.Form.TheVariants.{Value as a_value, Sequence as a_sequence, FragmentList as a_fragment_list}
use Rattle.dcm_base.specs.Tables.Tag.{item_tag}
use Rattle.dcm_base.specs.Tables.Representation.{letters}
use Rattle.dcm_base.specs.Tree.Tree.{Trees, no_tree, leaf, sequence, fragments, Items, no_item, item}
use Rattle.dcm_base.specs.Tree.Front.{Front, front, OpenTree, nothing_open, open_leaf, open_sequence, open_fragments, OpenItem, no_open_item, open_item}
use Rattle.dcm_base.specs.Bytes.Spelling.{form, read_as}
use Rattle.dcm_base.specs.Tree.Value.{order}
use Rattle.dcm_base.specs.Dump.ValueText.{shape, hexadecimal, text_of, count, shown_so_far, padded, shortened, display}
use Rattle.dcm_base.specs.Dump.Dump.{line_start, line, leaf_line, fragment_line, open_line, sequence_line, item_line, sequence_end_line, item_end_line, dump_set, dump_items, dump_front, dump_open, dump_open_item, open_fragment}
use Rattle.dcm_base.specs.Steps.Atoms.{Atom, opens, value_byte, closes_leaf, opens_item, closes_item, closes_sequence, opens_fragment, fragments_then, ShowTrees, ShowItems, Shows, ShowsOpen, ShowsOpenItem, open_fragment_atoms, MissesFragment, end_atoms}
use Rattle.dcm_base.proofs.Conversions.Order.{order_twice, length-order}
use Rattle.dcm_base.specs.declared.dictionary.Dictionary.{Dictionary}
use Rattle.dcm_value.specs.Display.{at_once}
use Rattle.dcm_value.specs.Progress.{Progress, started, opened, step, feeds, finishes, multiplicity}
use Rattle.dcm_value.proofs.Displays.TextSteps.{whole_text, whole_count, text_so_far}
use Rattle.dcm_sinks.specs.declared.dump.lines.Owner.TheVariants.{Element, Fragment}
use Rattle.dcm_sinks.specs.Layout.{line_rest}
use Rattle.dcm_sinks.specs.DumpSink.{dump_start, deeper, dump_opens, dump_opens_writes}
use Rattle.dcm_sinks.specs.Laws.{StaysShallow}
use Rattle.dcm_sinks.proofs.Dumps.OpenLists.{stays_on, stays_opened, stays_bytes, stays_fragments, stays_same, stays_trees, stays_items}
use Rattle.dcm_sinks.proofs.Dumps.ValueBytes.{between, lost}
use Rattle.dcm_sinks.specs.DumpSink.{no_value}
use Rattle.dcm_sinks.proofs.Dumps.ValueRuns.{dumps, closes, stays, keeps_size}

-- ---- lines

line_joined : (d : Dictionary) (level : ℕ) (t : Tag) (vr display : List ℕ) (n count : ℕ) (behind : List ℕ) → line_start level t vr ++ (padded display ++ (line_rest d t (Known n) count ++ behind)) ≡ line d level t vr display (Known n) count ++ behind
line_joined d level t vr display n count behind = simp append_assoc

pub open_same : (mode : Mode) (start x : List ℕ) → open_line mode start (at_once mode x) ≡ open_line mode start x
open_same Short start x = refl
open_same Full start x = refl

pub deeper_level : (declared : Length) (lengths : List Length) → length (declared ∷ lengths) ≡ length lengths + 1
deeper_level declared lengths = omega arith

pub is_within : (n : ℕ) → n < 128 → nat_lt n 128 ≡ true
is_within n h = grind (arith, nat_tests)

module _ (d : Dictionary) (mode : Mode) where
  pub deepens : (lengths : List Length) (declared : Length) → length lengths < 128 → deeper (between d mode lengths) declared ≡ between d mode (declared ∷ lengths)
  deepens lengths declared h = ap (λ (t : Bool). cond t (between d mode (declared ∷ lengths)) (lost d mode lengths no_value)) (is_within (length lengths) h)

  -- the opening of an element of this form
  pub opening : (lengths : List Length) (f g : Form) (tag : Tag) (vr : Vr) (declared : Length) (s : Syntax) (atoms : List Atom) → f ≡ g
      → dump_opens_writes f (between d mode lengths) tag vr declared s ++ dumps (dump_opens f (between d mode lengths) tag vr declared s) atoms
      ≡ dump_opens_writes g (between d mode lengths) tag vr declared s ++ dumps (dump_opens g (between d mode lengths) tag vr declared s) atoms
  opening lengths f g tag vr declared s atoms e = ap (λ (f : Form). dump_opens_writes f (between d mode lengths) tag vr declared s ++ dumps (dump_opens f (between d mode lengths) tag vr declared s) atoms) e

  pub leaf_dumps : (lengths : List Length) (tag : Tag) (vr : Vr) (value : List ℕ) (s : Syntax) (others : List Atom) → form s (read_as s tag vr) (Known (length value)) ≡ a_value
      → dumps (between d mode lengths) (opens tag vr (Known (length value)) s ∷ (map value_byte (order s vr value) ++ closes_leaf ∷ others)) ≡ leaf_line d mode (length lengths) tag vr value ++ dumps (between d mode lengths) others
  leaf_dumps lengths tag vr value s others e =
      let n : ℕ = length value in
      let raw : List ℕ = order s vr value in
      let start : List ℕ = line_start (length lengths) tag (letters vr) in
      let behind : List ℕ = dumps (between d mode lengths) others in
      let same : length raw ≡ n = length-order s vr value in
      let last : Progress = fold step (opened (started vr s n mode)) raw in
      let shown : feeds (started vr s n mode) raw ++ finishes last ≡ text_of mode vr value =
      ap (λ (k : ℕ). feeds (started vr s k mode) raw ++ finishes (fold step (opened (started vr s k mode)) raw)) (sym same) ∙ whole_text vr s mode raw ∙ ap (text_of mode vr) (order_twice s vr value) in
      let counted : multiplicity last ≡ count vr value =
      ap (λ (k : ℕ). multiplicity (fold step (opened (started vr s k mode)) raw)) (sym same) ∙ whole_count vr s mode raw ∙ ap (count vr) (order_twice s vr value) in
      opening lengths (form s (read_as s tag vr) (Known n)) a_value tag vr (Known n) s (map value_byte raw ++ closes_leaf ∷ others) e
      ∙ closes d mode lengths (Element tag vr) vr s n raw (omega (arith, same)) others
      ∙ ap (λ z. start ++ (z ++ (line_rest d tag (Known last.size) (multiplicity last) ++ behind))) shown
      ∙ ap (λ k. start ++ (text_of mode vr value ++ (line_rest d tag (Known k) (multiplicity last) ++ behind))) (keeps_size d mode lengths (Element tag vr) vr s n raw (omega (arith, same)))
      ∙ ap (λ k. start ++ (text_of mode vr value ++ (line_rest d tag (Known n) k ++ behind))) counted
      ∙ line_joined d (length lengths) tag (letters vr) (shortened mode (display vr value)) n (count vr value) behind

  pub fragment_dumps : (lengths : List Length) (value : List ℕ) (others : List Atom)
      → dumps (between d mode lengths) (opens_fragment (length value) ∷ (map value_byte value ++ closes_leaf ∷ others)) ≡ fragment_line d mode (length lengths) value ++ dumps (between d mode lengths) others
  fragment_dumps lengths value others =
      let n : ℕ = length value in
      let start : List ℕ = line_start (length lengths) item_tag (codes "pi") in
      let last : Progress = fold step (opened (started OB Little n mode)) value in
      let behind : List ℕ = dumps (between d mode lengths) others in
      closes d mode lengths Fragment OB Little n value (omega arith) others
      ∙ ap (λ z. start ++ (z ++ (line_rest d item_tag (Known last.size) 1 ++ behind))) (whole_text OB Little mode value)
      ∙ ap (λ k. start ++ (text_of mode OB value ++ (line_rest d item_tag (Known k) 1 ++ behind))) (keeps_size d mode lengths Fragment OB Little n value (omega arith))
      ∙ line_joined d (length lengths) item_tag (codes "pi") (shortened mode (display OB value)) n 1 behind

  fragments_dump : (lengths : List Length) (values : List (List ℕ)) (others : List Atom)
      → dumps (between d mode lengths) (fragments_then values others) ≡ flat_map (fragment_line d mode (length lengths)) values ++ dumps (between d mode lengths) others
  unfolding fragments_then
  fragments_dump lengths [] others = refl
  fragments_dump lengths (value ∷ rest) others =
      fragment_dumps lengths value (fragments_then rest others)
      ∙ ap (λ z. fragment_line d mode (length lengths) value ++ z) (fragments_dump lengths rest others)
      ∙ sym (append_assoc (fragment_line d mode (length lengths) value) _ _)

  -- what a set at this level, and an item at this one, may hold
  pub set_fits : (n : ℕ) (level : ℕ) → level ≤ n + n → suc n ≤ 64 → level < 128
  set_fits n level e h = omega arith

  pub items_fit : (n : ℕ) (level : ℕ) → level + 1 ≤ n + n → n ≤ 64 → level < 128
  items_fit n level e h = omega arith

  pub in_list : (n : ℕ) (declared : Length) (lengths : List Length) → length lengths ≤ n + n → length (declared ∷ lengths) + 1 ≤ suc n + suc n
  in_list n declared lengths e = omega (arith, e)

  pub in_item : (n : ℕ) (declared : Length) (lengths : List Length) → length lengths + 1 ≤ n + n → length (declared ∷ lengths) ≤ n + n
  in_item n declared lengths e = omega (arith, e)

  -- an opening of a sequence or fragment list, and of an item
  pub open_shallow : (n : ℕ) (atoms : List Atom) → StaysShallow n atoms → n ≤ 64
  open_shallow n atoms h = h [] atoms refl

  sequence_opens : (n : ℕ) (lengths : List Length) (tag : Tag) (vr : Vr) (declared : Length) (s : Syntax) (contents : List Atom) → form s (read_as s tag vr) declared ≡ a_sequence → length lengths ≤ n + n → StaysShallow (suc n) contents
      → dumps (between d mode lengths) (opens tag vr declared s ∷ contents) ≡ sequence_line d (length lengths) tag vr declared ++ dumps (between d mode (declared ∷ lengths)) contents
  sequence_opens n lengths tag vr declared s contents f e h =
      opening lengths (form s (read_as s tag vr) declared) a_sequence tag vr declared s contents f
      ∙ ap (λ t. sequence_line d (length lengths) tag vr declared ++ dumps t contents) (deepens lengths declared (set_fits n (length lengths) e (open_shallow (suc n) contents h)))

  list_opens : (n : ℕ) (lengths : List Length) (tag : Tag) (vr : Vr) (s : Syntax) (contents : List Atom) → form s (read_as s tag vr) Undefined ≡ a_fragment_list → length lengths ≤ n + n → StaysShallow (suc n) contents
      → dumps (between d mode lengths) (opens tag vr Undefined s ∷ contents)
      ≡ line d (length lengths) tag (letters vr) (codes "(PixelSequence)") Undefined 1 ++ dumps (between d mode (Undefined ∷ lengths)) contents
  list_opens n lengths tag vr s contents f e h =
      opening lengths (form s (read_as s tag vr) Undefined) a_fragment_list tag vr Undefined s contents f
      ∙ ap (λ t. line d (length lengths) tag (letters vr) (codes "(PixelSequence)") Undefined 1 ++ dumps t contents) (deepens lengths Undefined (set_fits n (length lengths) e (open_shallow (suc n) contents h)))

  item_opens : (n : ℕ) (lengths : List Length) (declared : Length) (contents : List Atom) → length lengths + 1 ≤ n + n → StaysShallow n contents
      → dumps (between d mode lengths) (opens_item declared ∷ contents) ≡ item_line d (length lengths) declared ++ dumps (between d mode (declared ∷ lengths)) contents
  item_opens n lengths declared contents e h =
      ap (λ t. item_line d (length lengths) declared ++ dumps t contents) (deepens lengths declared (items_fit n (length lengths) e (open_shallow n contents h)))

  mutual
    unfolding ShowTrees dump_set

    pub trees_dump : (n : ℕ) (lengths : List Length) (x : Trees) (atoms after : List Atom) → length lengths ≤ n + n → StaysShallow n atoms → ShowTrees x atoms after
        → dumps (between d mode lengths) atoms ≡ dump_set d mode (length lengths) x ++ dumps (between d mode lengths) after
    trees_dump n lengths no_tree atoms after e h w = ap (dumps (between d mode lengths)) w
    trees_dump n lengths (leaf tag vr value rest) atoms after e h w =
        let opened_h = stays_opened n a_value tag vr (Known (length value)) w.0 (map value_byte (order w.0 vr value) ++ closes_leaf ∷ w.1) w.2 (stays_same n atoms _ w.3 h) in
        let rest_h : StaysShallow n w.1 = stays_on n closes_leaf w.1 (stays_bytes n (order w.0 vr value) (closes_leaf ∷ w.1) opened_h) in
        ap (dumps (between d mode lengths)) w.3
        ∙ leaf_dumps lengths tag vr value w.0 w.1 w.2
        ∙ ap (λ z. leaf_line d mode (length lengths) tag vr value ++ z) (trees_dump n lengths rest w.1 after e rest_h w.4)
        ∙ sym (append_assoc (leaf_line d mode (length lengths) tag vr value) _ _)
    trees_dump n lengths (sequence tag vr declared items rest) atoms after e h w =
        let level : ℕ = length lengths in
        let first : List ℕ = sequence_line d level tag vr declared in
        let last : List ℕ = sequence_end_line d level declared in
        let in_h : StaysShallow (suc n) w.1 = stays_opened n a_sequence tag vr declared w.0 w.1 w.3 (stays_same n atoms _ w.4 h) in
        let rest_h : StaysShallow n w.2 = stays_on (suc n) closes_sequence w.2 (stays_items (suc n) items w.1 (closes_sequence ∷ w.2) w.5 in_h) in
        ap (dumps (between d mode lengths)) w.4
        ∙ sequence_opens n lengths tag vr declared w.0 w.1 w.3 e in_h
        ∙ ap (λ z. first ++ z) (items_dump (suc n) (declared ∷ lengths) items w.1 (closes_sequence ∷ w.2) (in_list n declared lengths e) in_h w.5)
        ∙ ap (λ k. first ++ (dump_items d mode k items ++ (last ++ dumps (between d mode lengths) w.2))) (deeper_level declared lengths)
        ∙ ap (λ z. first ++ (dump_items d mode (level + 1) items ++ (last ++ z))) (trees_dump n lengths rest w.2 after e rest_h w.6)
        ∙ five_joined first (dump_items d mode (level + 1) items) last (dump_set d mode level rest) (dumps (between d mode lengths) after)
    trees_dump n lengths (fragments tag vr values rest) atoms after e h w =
        let level : ℕ = length lengths in
        let first : List ℕ = line d level tag (letters vr) (codes "(PixelSequence)") Undefined 1 in
        let last : List ℕ = sequence_end_line d level Undefined in
        let in_h : StaysShallow (suc n) (fragments_then values (closes_sequence ∷ w.1)) = stays_opened n a_fragment_list tag vr Undefined w.0 (fragments_then values (closes_sequence ∷ w.1)) w.2 (stays_same n atoms _ w.3 h) in
        let rest_h : StaysShallow n w.1 = stays_on (suc n) closes_sequence w.1 (stays_fragments (suc n) values (closes_sequence ∷ w.1) in_h) in
        ap (dumps (between d mode lengths)) w.3
        ∙ list_opens n lengths tag vr w.0 (fragments_then values (closes_sequence ∷ w.1)) w.2 e in_h
        ∙ ap (λ z. first ++ z) (fragments_dump (Undefined ∷ lengths) values (closes_sequence ∷ w.1))
        ∙ ap (λ k. first ++ (flat_map (fragment_line d mode k) values ++ (last ++ dumps (between d mode lengths) w.1))) (deeper_level Undefined lengths)
        ∙ ap (λ z. first ++ (flat_map (fragment_line d mode (level + 1)) values ++ (last ++ z))) (trees_dump n lengths rest w.1 after e rest_h w.4)
        ∙ five_joined first (flat_map (fragment_line d mode (level + 1)) values) last (dump_set d mode level rest) (dumps (between d mode lengths) after)

    items_dump : (n : ℕ) (lengths : List Length) (x : Items) (atoms after : List Atom) → length lengths + 1 ≤ n + n → StaysShallow n atoms → ShowItems x atoms after
        → dumps (between d mode lengths) atoms ≡ dump_items d mode (length lengths) x ++ dumps (between d mode lengths) after
    items_dump n lengths no_item atoms after e h w = ap (dumps (between d mode lengths)) w
    items_dump n lengths (item declared set rest) atoms after e h w =
        let level : ℕ = length lengths in
        let first : List ℕ = item_line d level declared in
        let last : List ℕ = item_end_line d level declared in
        let in_h : StaysShallow n w.0 = stays_on n (opens_item declared) w.0 (stays_same n atoms _ w.2 h) in
        let rest_h : StaysShallow n w.1 = stays_on n closes_item w.1 (stays_trees n set w.0 (closes_item ∷ w.1) w.3 in_h) in
        ap (dumps (between d mode lengths)) w.2
        ∙ item_opens n lengths declared w.0 e in_h
        ∙ ap (λ z. first ++ z) (trees_dump n (declared ∷ lengths) set w.0 (closes_item ∷ w.1) (in_item n declared lengths e) in_h w.3)
        ∙ ap (λ k. first ++ (dump_set d mode k set ++ (last ++ dumps (between d mode lengths) w.1))) (deeper_level declared lengths)
        ∙ ap (λ z. first ++ (dump_set d mode (level + 1) set ++ (last ++ z))) (items_dump n lengths rest w.1 after e rest_h w.4)
        ∙ five_joined first (dump_set d mode (level + 1) set) last (dump_items d mode level rest) (dumps (between d mode lengths) after)

  pub fragment_open : (lengths : List Length) (last : Option (ℕ × List ℕ)) → MissesFragment last → dumps (between d mode lengths) (open_fragment_atoms last) ≡ open_fragment mode (length lengths) last
  fragment_open lengths None h = refl
  fragment_open lengths (Some f) h =
      let start : List ℕ = line_start (length lengths) item_tag (codes "pi") in
      stays d mode lengths Fragment OB Little f.0 f.1 (omega (arith, h))
      ∙ ap (open_line mode start) (text_so_far OB Little f.0 mode f.1 h)
      ∙ open_same mode start (shown_so_far hexadecimal OB f.0 f.1)

  nothing_dumps : (lengths : List Length) (closed : Bool) → dumps (between d mode lengths) (end_atoms closed) ≡ []
  nothing_dumps lengths true = refl
  nothing_dumps lengths false = refl

  mutual
    unfolding Shows dump_front

    pub front_dump : (n : ℕ) (lengths : List Length) (f : Front) (atoms : List Atom) → length lengths ≤ n + n → StaysShallow n atoms → Shows f atoms
        → dumps (between d mode lengths) atoms ≡ dump_front d mode (length lengths) f
    front_dump n lengths (front whole open_tree reached closed) atoms e h w =
        trees_dump n lengths whole atoms w.0 e h w.1
        ∙ ap (λ z. dump_set d mode (length lengths) whole ++ z) (open_dump n lengths open_tree closed w.0 e (stays_trees n whole atoms w.0 w.1 h) w.2)

    pub open_dump : (n : ℕ) (lengths : List Length) (o : OpenTree) (closed : Bool) (atoms : List Atom) → length lengths ≤ n + n → StaysShallow n atoms → ShowsOpen o (end_atoms closed) atoms
        → dumps (between d mode lengths) atoms ≡ dump_open d mode (length lengths) o
    open_dump n lengths nothing_open closed atoms e h w = ap (dumps (between d mode lengths)) w ∙ nothing_dumps lengths closed
    open_dump n lengths (open_leaf tag vr size value) closed atoms e h w =
        let s : Syntax = w.0 in
        let raw : List ℕ = order s vr value in
        let start : List ℕ = line_start (length lengths) tag (letters vr) in
        let misses : length raw < size = subst (λ (n : ℕ). n < size) (sym (length-order s vr value)) w.2 in
        ap (dumps (between d mode lengths)) w.3
        ∙ opening lengths (form s (read_as s tag vr) (Known size)) a_value tag vr (Known size) s (map value_byte raw) w.1
        ∙ stays d mode lengths (Element tag vr) vr s size raw (omega (arith, misses))
        ∙ ap (open_line mode start) (text_so_far vr s size mode raw misses)
        ∙ open_same mode start (shown_so_far (shape vr) vr size (order s vr raw))
        ∙ ap (λ v. open_line mode start (shown_so_far (shape vr) vr size v)) (order_twice s vr value)
    open_dump n lengths (open_sequence tag vr declared items last) closed atoms e h w =
        let level : ℕ = length lengths in
        let first : List ℕ = sequence_line d level tag vr declared in
        let in_h : StaysShallow (suc n) w.1 = stays_opened n a_sequence tag vr declared w.0 w.1 w.3 (stays_same n atoms _ w.4 h) in
        let last_h : StaysShallow (suc n) w.2 = stays_items (suc n) items w.1 w.2 w.5 in_h in
        ap (dumps (between d mode lengths)) w.4
        ∙ sequence_opens n lengths tag vr declared w.0 w.1 w.3 e in_h
        ∙ ap (λ z. first ++ z) (items_dump (suc n) (declared ∷ lengths) items w.1 w.2 (in_list n declared lengths e) in_h w.5)
        ∙ ap (λ z. first ++ (dump_items d mode (length (declared ∷ lengths)) items ++ z)) (open_item_dump (suc n) (declared ∷ lengths) last w.2 (in_list n declared lengths e) last_h w.6)
        ∙ ap (λ n. first ++ (dump_items d mode n items ++ dump_open_item d mode n last)) (deeper_level declared lengths)
        ∙ sym (append_assoc first _ _)
    open_dump n lengths (open_fragments tag vr values last) closed atoms e h w =
        let level : ℕ = length lengths in
        let first : List ℕ = line d level tag (letters vr) (codes "(PixelSequence)") Undefined 1 in
        let contents : List Atom = fragments_then values (open_fragment_atoms last) in
        let in_h : StaysShallow (suc n) contents = stays_opened n a_fragment_list tag vr Undefined w.0 contents w.1 (stays_same n atoms _ w.3 h) in
        ap (dumps (between d mode lengths)) w.3
        ∙ list_opens n lengths tag vr w.0 contents w.1 e in_h
        ∙ ap (λ z. first ++ z) (fragments_dump (Undefined ∷ lengths) values (open_fragment_atoms last))
        ∙ ap (λ z. first ++ (flat_map (fragment_line d mode (length (Undefined ∷ lengths))) values ++ z)) (fragment_open (Undefined ∷ lengths) last w.2)
        ∙ ap (λ n. first ++ (flat_map (fragment_line d mode n) values ++ open_fragment mode n last)) (deeper_level Undefined lengths)
        ∙ sym (append_assoc first _ _)

    open_item_dump : (n : ℕ) (lengths : List Length) (o : OpenItem) (atoms : List Atom) → length lengths + 1 ≤ n + n → StaysShallow n atoms → ShowsOpenItem o atoms
        → dumps (between d mode lengths) atoms ≡ dump_open_item d mode (length lengths) o
    open_item_dump n lengths no_open_item atoms e h w = ap (dumps (between d mode lengths)) w
    open_item_dump n lengths (open_item declared set) atoms e h w =
        let first : List ℕ = item_line d (length lengths) declared in
        let in_h : StaysShallow n w.0 = stays_on n (opens_item declared) w.0 (stays_same n atoms _ w.1 h) in
        ap (dumps (between d mode lengths)) w.1
        ∙ item_opens n lengths declared w.0 e in_h
        ∙ ap (λ z. first ++ z) (front_dump n (declared ∷ lengths) set w.0 (in_item n declared lengths e) in_h w.3)
        ∙ ap (λ n. first ++ dump_front d mode n set) (deeper_level declared lengths)

pub dump_steps : (d : Dictionary) (mode : Mode) (f : Front) (atoms : List Atom) → StaysShallow 0 atoms → Shows f atoms → dumps (dump_start d mode) atoms ≡ dump_front d mode 0 f
dump_steps d mode f atoms h w = front_dump d mode 0 [] f atoms (omega arith) h w
