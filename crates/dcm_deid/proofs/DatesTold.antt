-- The sink knows how many dates were emptied, of a data set that is whole or as far as it was read.
use Rattle.std.proofs.Common.{◌≡◌, ◌≤◌, ◌<◌, ◌*◌, ℕ, zero, suc, ◌+◌, List, [], ◌∷◌, ◌++◌, length, map, fold, Option, Some, None, Bool, true, false, refl, ap, ◌∙◌, arith}
use Rattle.std.specs.Prelude.{nat_lt}
use Rattle.std.proofs.lemmas.Bool.{lt-ltb}
use Rattle.dcm_lemmas.proofs.Choice.{if_true}
use Rattle.dcm_base.specs.declared.tag.Tag.{Tag}
use Rattle.dcm_base.specs.declared.vr.Vr.{Vr}
use Rattle.dcm_base.specs.declared.syntax.Syntax.{Syntax}
use Rattle.dcm_base.specs.declared.length.Length.TheVariants.{Known, Undefined}
use Rattle.dcm_base.specs.declared.form.Form.TheVariants.{Value as a_value, Sequence as a_sequence, FragmentList as a_fragment_list}
use Rattle.dcm_base.specs.Bytes.Spelling.{last_tag}
use Rattle.dcm_base.specs.Tree.Tree.{Items}
use Rattle.dcm_base.specs.Tree.Front.{Front, front, OpenTree, nothing_open, open_leaf, open_sequence, open_fragments, OpenItem, no_open_item, open_item}
use Rattle.dcm_base.specs.Tree.Value.{order}
use Rattle.dcm_base.specs.Steps.Atoms.{Atom, opens, value_byte, closes_leaf, opens_item, opens_fragment, fragments_then, open_fragment_atoms, end_atoms, ShowItems, Shows, ShowsOpen, ShowsOpenItem}
use Rattle.dcm_sinks.proofs.Dumps.OpenLists.{stays_on, stays_same}
use Rattle.dcm_sinks.specs.Laws.{StaysShallow}
use Rattle.dcm_deid.specs.declared.deidentifier.Seen.{Seen}
use Rattle.dcm_deid.specs.declared.fate.Fate.{Fate}
use Rattle.dcm_deid.specs.declared.fate.Fate.TheVariants.{Remove, Empty, Replace, Anew, Keep}
use Rattle.dcm_deid.specs.declared.fate.Options.{Options}
use Rattle.dcm_deid.specs.Fate.{fate_as}
use Rattle.dcm_deid.specs.Deidentify.{value_by, by_fate, items_by_fate}
use Rattle.dcm_deid.specs.DeidentifySink.{MOST_COUNTED, State, begun, counted, depth_of, next, nothing_seen}
use Rattle.dcm_deid.specs.Emptied.{dates_emptied, emptied, emptied_in_front, emptied_in_items, emptied_in_open, emptied_in_open_item, inside_kept}
use Rattle.dcm_deid.specs.MadeNew.{made_new}
use Rattle.dcm_deid.specs.Pixels.{may_show, may_show_in}
use Rattle.dcm_deid.proofs.Dropped.{at, drop_head, drop_fragments, drop_item_head, drop_trees, drop_items, stays_here, head_stays, trees_stay, items_stay, entered}
use Rattle.dcm_deid.proofs.Kept.{judged_state, fate_here}
use Rattle.dcm_deid.proofs.SeenValues.{counted_by, counted_twice, head_state, items_tell, kept_value, seen_by, trees_tell}

abbrev emptied_at : State → List Atom → ℕ
emptied_at s atoms = (fold next s atoms).place.seen.emptied

same_count : (s t : State) → s ≡ t → s.place.seen.emptied ≡ t.place.seen.emptied
same_count s t e = ap (λ (u : State). u.place.seen.emptied) e

-- ---- values that are open

bytes_count : (s : State) (v : List ℕ) → emptied_at s (map value_byte v) ≡ s.place.seen.emptied
bytes_count s [] = refl
bytes_count s (b ∷ v) = bytes_count (next s (value_byte b)) v

fragment_counts : (s : State) (l : Option (ℕ × List ℕ)) → emptied_at s (open_fragment_atoms l) ≡ s.place.seen.emptied
fragment_counts s None = refl
fragment_counts s (Some f) = bytes_count (next s (opens_fragment f.0)) f.1

kept_fragments_count : (o : Options) (k : List ℕ) (last : Option Tag) (outer : List (Option Tag)) (m : Seen) (values : List (List ℕ)) (l : Option (ℕ × List ℕ))
    → emptied_at (at o k last outer 0 m) (fragments_then values (open_fragment_atoms l)) ≡ m.emptied
unfolding fragments_then
kept_fragments_count o k last outer m [] l = fragment_counts (at o k last outer 0 m) l
kept_fragments_count o k last outer m (v ∷ values) l =
    same_count _ _ (kept_value o k last outer m v (fragments_then values (open_fragment_atoms l))) ∙ kept_fragments_count o k last outer m values l

left_fragments_count : (o : Options) (k : List ℕ) (last : Option Tag) (outer : List (Option Tag)) (n : ℕ) (m : Seen) (values : List (List ℕ)) (l : Option (ℕ × List ℕ)) → n ≤ 1000
    → emptied_at (at o k last outer (suc n) m) (fragments_then values (open_fragment_atoms l)) ≡ m.emptied
left_fragments_count o k last outer n m values l small =
    same_count _ _ (drop_fragments o k last outer n m values (open_fragment_atoms l) small).states ∙ fragment_counts (at o k last outer (suc n) m) l

-- ---- what is left out

mutual
  unfolding Shows

  left_front : (f : Front) (lists : ℕ) (o : Options) (k : List ℕ) (outer : List (Option Tag)) (n : ℕ) (m : Seen) (atoms : List Atom) → Shows f atoms → StaysShallow lists atoms → length outer ≡ lists → n ≤ 2 * lists
      → emptied_at (at o k None outer (suc n) m) atoms ≡ m.emptied
  left_front (front whole opened_tree r c) lists o k outer n m atoms (others, shown, more, may, re) h same few =
      same_count _ _ (drop_trees whole lists o k None outer n m atoms others shown h same few).states
      ∙ left_open opened_tree lists o k (last_tag None whole) outer n m c others more (trees_stay whole lists atoms others shown h) same few

  left_open : (t : OpenTree) (lists : ℕ) (o : Options) (k : List ℕ) (last : Option Tag) (outer : List (Option Tag)) (n : ℕ) (m : Seen) (c : Bool) (atoms : List Atom) → ShowsOpen t (end_atoms c) atoms → StaysShallow lists atoms → length outer ≡ lists → n ≤ 2 * lists
      → emptied_at (at o k last outer (suc n) m) atoms ≡ m.emptied
  left_open nothing_open lists o k last outer n m true atoms shown h same few = ap (emptied_at (at o k last outer (suc n) m)) shown
  left_open nothing_open lists o k last outer n m false atoms shown h same few = ap (emptied_at (at o k last outer (suc n) m)) shown
  left_open (open_leaf tag vr size value) lists o k last outer n m c atoms (s, fo, le, is) h same few =
      ap (emptied_at (at o k last outer (suc n) m)) is ∙ bytes_count (next (at o k last outer (suc n) m) (opens tag vr (Known size) s)) (order s vr value)
  left_open (open_sequence tag vr declared items last') lists o k last outer n m c atoms (s, contents, others, fo, is, inner, more) h same few =
      let small : n ≤ 1000 = omega (arith, few, stays_here lists atoms h) in
      let within = head_stays lists tag vr declared s a_sequence contents fo (stays_same lists atoms _ is h) in
      ap (emptied_at (at o k last outer (suc n) m)) is
      ∙ same_count _ _ (drop_head o k last outer n m tag vr declared s contents small).states
      ∙ same_count _ _ (drop_items items (suc lists) o k (Some tag) outer (suc n) m contents others inner within (omega (arith, same)) (omega (arith, few))).states
      ∙ left_open_item last' (suc lists) o k (Some tag) outer (suc n) m others more (items_stay items (suc lists) contents others inner within) (omega (arith, same)) (omega (arith, few))
  left_open (open_fragments tag vr values last') lists o k last outer n m c atoms (s, fo, mi, is) h same few =
      let small : suc n ≤ 1000 = omega (arith, few, stays_here lists atoms h) in
      ap (emptied_at (at o k last outer (suc n) m)) is
      ∙ same_count _ _ (drop_head o k last outer n m tag vr Undefined s (fragments_then values (open_fragment_atoms last')) (omega (arith, small))).states
      ∙ left_fragments_count o k (Some tag) outer (suc n) m values last' small

  left_open_item : (t : OpenItem) (lists : ℕ) (o : Options) (k : List ℕ) (last : Option Tag) (outer : List (Option Tag)) (n : ℕ) (m : Seen) (atoms : List Atom) → ShowsOpenItem t atoms → StaysShallow lists atoms → suc (length outer) ≡ lists → suc n ≤ 2 * lists
      → emptied_at (at o k last outer (suc n) m) atoms ≡ m.emptied
  left_open_item no_open_item lists o k last outer n m atoms shown h same few = ap (emptied_at (at o k last outer (suc n) m)) shown
  left_open_item (open_item declared set) lists o k last outer n m atoms (contents, is, still, more) h same few =
      let most : lists ≤ 64 = stays_here lists atoms h in
      ap (emptied_at (at o k last outer (suc n) m)) is
      ∙ same_count _ _ (drop_item_head o k last outer n m declared contents (omega (arith, few, most)) (omega (arith, same, most))).states
      ∙ left_front set lists o k (last ∷ outer) (suc n) m contents more (stays_on lists (opens_item declared) contents (stays_same lists atoms _ is h)) (omega (arith, same)) few

-- ---- an open element, by its fate

module _ (o : Options) (k : List ℕ) (outer : List (Option Tag)) (m : Seen) (tag : Tag) (vr : Vr) (s : Syntax) where
  fragments_counted : (fate : Fate) (values : List (List ℕ)) (l : Option (ℕ × List ℕ))
      → emptied_at (judged_state o k outer m tag vr s fate a_fragment_list) (fragments_then values (open_fragment_atoms l)) ≡ m.emptied
  fragments_counted Remove values l = left_fragments_count o k (Some tag) outer 0 m values l (omega arith)
  fragments_counted Empty values l = left_fragments_count o k (Some tag) outer 0 m values l (omega arith)
  fragments_counted Replace values l = left_fragments_count o k (Some tag) outer 0 m values l (omega arith)
  fragments_counted (Anew made) values l = left_fragments_count o k (Some tag) outer 0 m values l (omega arith)
  fragments_counted Keep values l = kept_fragments_count o k (Some tag) outer m values l

  sequence_counted : (fate : Fate) (more : ℕ) (contents : List Atom) → emptied_at (at o k (Some tag) outer 1 m) contents ≡ m.emptied → emptied_at (at o k (Some tag) outer 0 m) contents ≡ counted_by more m.emptied
      → emptied_at (judged_state o k outer m tag vr s fate a_sequence) contents ≡ counted_by (inside_kept fate more) m.emptied
  sequence_counted Remove more contents dropped kept = dropped
  sequence_counted Empty more contents dropped kept = dropped
  sequence_counted Replace more contents dropped kept = dropped
  sequence_counted (Anew made) more contents dropped kept = dropped
  sequence_counted Keep more contents dropped kept = kept

-- ---- a data set

mutual
  unfolding Shows

  front_counts : (f : Front) (lists : ℕ) (o : Options) (k : List ℕ) (outer : List (Option Tag)) (m : Seen) (atoms : List Atom) → Shows f atoms → StaysShallow lists atoms → length outer ≡ lists
      → emptied_at (at o k None outer 0 m) atoms ≡ counted_by (emptied_in_front (fate_as o) (made_new o k) (depth_of outer) f) m.emptied
  front_counts (front whole p r c) lists o k outer m atoms (others, shown, more, may, re) h same =
      let one : ℕ = emptied (fate_as o) (made_new o k) (depth_of outer) whole in
      let says : Bool = may_show (by_fate (fate_as o) (value_by (made_new o k)) (depth_of outer) whole) in
      same_count _ _ (trees_tell whole lists o k None outer m atoms others shown h same)
      ∙ open_counts p lists o k (last_tag None whole) outer (seen_by m says one) c others more (trees_stay whole lists atoms others shown h) same
      ∙ counted_twice one (emptied_in_open (fate_as o) (made_new o k) (depth_of outer) p) m.emptied

  open_counts : (p : OpenTree) (lists : ℕ) (o : Options) (k : List ℕ) (last : Option Tag) (outer : List (Option Tag)) (m : Seen) (c : Bool) (atoms : List Atom) → ShowsOpen p (end_atoms c) atoms → StaysShallow lists atoms → length outer ≡ lists
      → emptied_at (at o k last outer 0 m) atoms ≡ counted_by (emptied_in_open (fate_as o) (made_new o k) (depth_of outer) p) m.emptied
  open_counts nothing_open lists o k last outer m true atoms shown h same = ap (emptied_at (at o k last outer 0 m)) shown
  open_counts nothing_open lists o k last outer m false atoms shown h same = ap (emptied_at (at o k last outer 0 m)) shown
  open_counts (open_leaf tag vr size value) lists o k last outer m c atoms (s, fo, le, is) h same =
      ap (emptied_at (at o k last outer 0 m)) is ∙ bytes_count (next (at o k last outer 0 m) (opens tag vr (Known size) s)) (order s vr value)
  open_counts (open_sequence tag vr declared items last') lists o k last outer m c atoms (s, contents, others, fo, is, inner, more) h same =
      let within = head_stays lists tag vr declared s a_sequence contents fo (stays_same lists atoms _ is h) in
      let there = items_stay items (suc lists) contents others inner within in
      let one : ℕ = emptied_in_items (fate_as o) (made_new o k) items in
      let says : Bool = may_show_in (items_by_fate (fate_as o) (value_by (made_new o k)) items) in
      ap (emptied_at (at o k last outer 0 m)) is
      ∙ same_count _ _ (head_state o k last outer m tag vr declared s contents a_sequence fo)
      ∙ sequence_counted o k outer m tag vr s (fate_here o outer a_sequence tag) (one + emptied_in_open_item (fate_as o) (made_new o k) last') contents
      (same_count _ _ (drop_items items (suc lists) o k (Some tag) outer 0 m contents others inner within (omega (arith, same)) (omega arith)).states
      ∙ left_open_item last' (suc lists) o k (Some tag) outer 0 m others more there (omega (arith, same)) (omega arith))
      (same_count _ _ (items_tell items (suc lists) o k (Some tag) outer m contents others inner within (omega (arith, same)))
      ∙ open_item_counts last' (suc lists) o k (Some tag) outer (seen_by m says one) others more there (omega (arith, same))
      ∙ counted_twice one (emptied_in_open_item (fate_as o) (made_new o k) last') m.emptied)
  open_counts (open_fragments tag vr values last') lists o k last outer m c atoms (s, fo, mi, is) h same =
      ap (emptied_at (at o k last outer 0 m)) is
      ∙ same_count _ _ (head_state o k last outer m tag vr Undefined s (fragments_then values (open_fragment_atoms last')) a_fragment_list fo)
      ∙ fragments_counted o k outer m tag vr s (fate_here o outer a_fragment_list tag) values last'

  open_item_counts : (p : OpenItem) (lists : ℕ) (o : Options) (k : List ℕ) (last : Option Tag) (outer : List (Option Tag)) (m : Seen) (atoms : List Atom) → ShowsOpenItem p atoms → StaysShallow lists atoms → suc (length outer) ≡ lists
      → emptied_at (at o k last outer 0 m) atoms ≡ counted_by (emptied_in_open_item (fate_as o) (made_new o k) p) m.emptied
  open_item_counts no_open_item lists o k last outer m atoms shown h same = ap (emptied_at (at o k last outer 0 m)) shown
  open_item_counts (open_item declared set) lists o k last outer m atoms (contents, is, still, more) h same =
      let most : lists ≤ 64 = stays_here lists atoms h in
      ap (emptied_at (at o k last outer 0 m)) is
      ∙ ap (λ (t : State). emptied_at t contents) (entered o k last outer 0 m declared (omega (arith, same, most)))
      ∙ front_counts set lists o k (last ∷ outer) m contents more (stays_on lists (opens_item declared) contents (stays_same lists atoms _ is h)) (omega (arith, same))

-- ---- the law

-- as many as there is room for are counted
all_counted : (more count : ℕ) → more + count ≤ MOST_COUNTED → counted_by more count ≡ more + count
all_counted zero count few = omega arith
all_counted (suc more) count few =
    let room : count < MOST_COUNTED = omega (arith, few) in
    ap (counted_by more) (if_true (nat_lt count MOST_COUNTED) (count + 1) count (lt-ltb count MOST_COUNTED room))
    ∙ all_counted more (count + 1) (omega (arith, few))
    ∙ (let same : more + (count + 1) ≡ suc more + count = omega arith in same)

pub date_steps : (o : Options) (k : List ℕ) (f : Front) (atoms : List Atom) → StaysShallow 0 atoms → Shows f atoms → dates_emptied o (made_new o k) f ≤ MOST_COUNTED
    → (fold next (begun o k) atoms).place.seen.emptied ≡ dates_emptied o (made_new o k) f
unfolding dates_emptied
date_steps o k f atoms h shown few =
    let all : ℕ = dates_emptied o (made_new o k) f in
    front_counts f 0 o k [] nothing_seen atoms shown h refl
    ∙ all_counted all 0 (omega (arith, few))
    ∙ (let same : all + 0 ≡ all = omega arith in same)
