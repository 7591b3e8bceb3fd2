-- What the sink makes of the atoms of a data set as far as it was read.
use Rattle.std.proofs.Common.{◌≡◌, ◌≤◌, ◌<◌, ◌*◌, ℕ, suc, List, [], ◌∷◌, ◌++◌, length, map, Option, Some, None, Bool, true, false, refl, sym, ap, subst, ◌∙◌, arith, append_assoc}
use Rattle.std.proofs.lemmas.List.{append-nil}
use Rattle.std.specs.Prelude.{option_map}
use Rattle.dcm_base.specs.declared.tag.Tag.{Tag}
use Rattle.dcm_base.specs.declared.vr.Vr.{Vr}
use Rattle.dcm_base.specs.declared.syntax.Syntax.{Syntax}
use Rattle.dcm_base.specs.Tables.Syntax.{Little}
use Rattle.dcm_base.specs.declared.length.Length.{Length}
use Rattle.dcm_base.specs.declared.length.Length.TheVariants.{Known, Undefined}
use Rattle.dcm_base.specs.declared.form.Form.TheVariants.{Value as a_value, Sequence as a_sequence, FragmentList as a_fragment_list}
use Rattle.dcm_base.specs.Bytes.Spelling.{form, read_as, last_tag, reached_tag}
use Rattle.dcm_base.specs.Tree.Tree.{Trees, no_tree, leaf, sequence, fragments, Items, then_trees}
use Rattle.dcm_base.specs.Tree.Front.{Front, front, OpenTree, nothing_open, open_leaf, open_sequence, open_fragments, OpenItem, no_open_item, open_item}
use Rattle.dcm_base.specs.Tree.Value.{order}
use Rattle.dcm_base.specs.Steps.Atoms.{Atom, opens, value_byte, closes_leaf, opens_item, opens_fragment, ends, fragments_then, open_fragment_atoms, end_atoms, MissesFragment, MayEnd, is_closed, ShowTrees, ShowItems, Shows, ShowsOpen, ShowsOpenItem}
use Rattle.dcm_sinks.proofs.Dumps.OpenLists.{stays_on, stays_same}
use Rattle.dcm_sinks.specs.Laws.{StaysShallow}
use Rattle.dcm_deid.specs.MadeNew.{made_new}
use Rattle.dcm_deid.specs.declared.deidentifier.Seen.{Seen}
use Rattle.dcm_deid.specs.declared.fate.Options.{Options}
use Rattle.dcm_deid.specs.declared.fate.Fate.{Fate}
use Rattle.dcm_deid.specs.declared.fate.Fate.TheVariants.{Remove, Empty, Replace, Anew, Keep}
use Rattle.dcm_deid.specs.declared.fate.Depth.TheVariants.{Inside}
use Rattle.dcm_deid.specs.declared.fate.ReadAs.TheVariants.{AsBytes, AsItems}
use Rattle.dcm_deid.specs.Fate.{fate_as}
use Rattle.dcm_deid.specs.Deidentify.{dummy, value_by, by_fate, items_by_fate}
use Rattle.dcm_deid.specs.Saying.{open_leaf_by, open_sequence_by, made_whole, while_kept, front_by_fate, open_by_fate, open_item_by_fate}
use Rattle.dcm_deid.specs.DeidentifySink.{nothing_seen, Held, State, nothing_held, held_with, head_by, depth_of, said_before}
use Rattle.dcm_base.specs.Steps.Anew.{reached_anew, open_anew, item_anew}
use Rattle.dcm_deid.proofs.Forms.{value_alone, undefined_sequence, sequence_alone}
use Rattle.dcm_deid.proofs.Dropped.{at, place_at, drop_bytes, drop_head, drop_fragment, drop_fragments, drop_item_head, drop_trees, drop_items, stays_here, head_stays, trees_stay, items_stay, entered}
use Rattle.dcm_deid.proofs.Kept.{out, head_out, judged_state, fate_here, held_at, leaf_then, uid_bytes, keep_value}
use Rattle.dcm_deid.proofs.Walked.{gap, gap_shown, written, inside_written, trees_pass, items_pass}

-- ---- what is left out

bytes_gone : (o : Options) (k : List ℕ) (last : Option Tag) (outer : List (Option Tag)) (n : ℕ) (m : Seen) (v : List ℕ) → out (at o k last outer (suc n) m) (map value_byte v) ≡ []
bytes_gone o k last outer n m v = ap (out (at o k last outer (suc n) m)) (sym (append-nil (map value_byte v))) ∙ (drop_bytes o k last outer n m v []).outs

open_fragments_gone : (o : Options) (k : List ℕ) (last : Option Tag) (outer : List (Option Tag)) (n : ℕ) (m : Seen) (values : List (List ℕ)) (l : Option (ℕ × List ℕ)) → n ≤ 1000 → out (at o k last outer (suc n) m) (fragments_then values (open_fragment_atoms l)) ≡ []
open_fragments_gone o k last outer n m values None small = (drop_fragments o k last outer n m values [] small).outs
open_fragments_gone o k last outer n m values (Some f) small =
    (drop_fragments o k last outer n m values (opens_fragment f.0 ∷ map value_byte f.1) small).outs
    ∙ (drop_fragment o k last outer n m f.0 (map value_byte f.1) small).outs
    ∙ bytes_gone o k last outer (suc n) m f.1

mutual
  unfolding Shows

  drop_front : (f : Front) (lists : ℕ) (o : Options) (k : List ℕ) (outer : List (Option Tag)) (n : ℕ) (m : Seen) (atoms : List Atom) → Shows f atoms → StaysShallow lists atoms → length outer ≡ lists → n ≤ 2 * lists
      → out (at o k None outer (suc n) m) atoms ≡ []
  drop_front (front whole opened_tree r c) lists o k outer n m atoms (others, shown, more, may, re) h same few =
      (drop_trees whole lists o k None outer n m atoms others shown h same few).outs
      ∙ drop_open opened_tree lists o k (last_tag None whole) outer n m c others more (trees_stay whole lists atoms others shown h) same few

  drop_open : (t : OpenTree) (lists : ℕ) (o : Options) (k : List ℕ) (last : Option Tag) (outer : List (Option Tag)) (n : ℕ) (m : Seen) (c : Bool) (atoms : List Atom) → ShowsOpen t (end_atoms c) atoms → StaysShallow lists atoms → length outer ≡ lists → n ≤ 2 * lists
      → out (at o k last outer (suc n) m) atoms ≡ []
  drop_open nothing_open lists o k last outer n m true atoms shown h same few = ap (out (at o k last outer (suc n) m)) shown
  drop_open nothing_open lists o k last outer n m false atoms shown h same few = ap (out (at o k last outer (suc n) m)) shown
  drop_open (open_leaf tag vr size value) lists o k last outer n m c atoms (s, fo, le, is) h same few =
      let small : n ≤ 1000 = omega (arith, few, stays_here lists atoms h) in
      ap (out (at o k last outer (suc n) m)) is
      ∙ (drop_head o k last outer n m tag vr (Known size) s (map value_byte (order s vr value)) small).outs
      ∙ bytes_gone o k (Some tag) outer (suc n) m (order s vr value)
  drop_open (open_sequence tag vr declared items last') lists o k last outer n m c atoms (s, contents, others, fo, is, inner, more) h same few =
      let small : n ≤ 1000 = omega (arith, few, stays_here lists atoms h) in
      let within = head_stays lists tag vr declared s a_sequence contents fo (stays_same lists atoms _ is h) in
      ap (out (at o k last outer (suc n) m)) is
      ∙ (drop_head o k last outer n m tag vr declared s contents small).outs
      ∙ (drop_items items (suc lists) o k (Some tag) outer (suc n) m contents others inner within (omega (arith, same)) (omega (arith, few))).outs
      ∙ drop_open_item last' (suc lists) o k (Some tag) outer (suc n) m others more (items_stay items (suc lists) contents others inner within) (omega (arith, same)) (omega (arith, few))
  drop_open (open_fragments tag vr values last') lists o k last outer n m c atoms (s, fo, mi, is) h same few =
      let small : suc n ≤ 1000 = omega (arith, few, stays_here lists atoms h) in
      ap (out (at o k last outer (suc n) m)) is
      ∙ (drop_head o k last outer n m tag vr Undefined s (fragments_then values (open_fragment_atoms last')) (omega (arith, small))).outs
      ∙ open_fragments_gone o k (Some tag) outer (suc n) m values last' small

  drop_open_item : (t : OpenItem) (lists : ℕ) (o : Options) (k : List ℕ) (last : Option Tag) (outer : List (Option Tag)) (n : ℕ) (m : Seen) (atoms : List Atom) → ShowsOpenItem t atoms → StaysShallow lists atoms → suc (length outer) ≡ lists → suc n ≤ 2 * lists
      → out (at o k last outer (suc n) m) atoms ≡ []
  drop_open_item no_open_item lists o k last outer n m atoms shown h same few = ap (out (at o k last outer (suc n) m)) shown
  drop_open_item (open_item declared set) lists o k last outer n m atoms (contents, is, still, more) h same few =
      let most : lists ≤ 64 = stays_here lists atoms h in
      ap (out (at o k last outer (suc n) m)) is
      ∙ (drop_item_head o k last outer n m declared contents (omega (arith, few, most)) (omega (arith, same, most))).outs
      ∙ drop_front set lists o k (last ∷ outer) (suc n) m contents more (stays_on lists (opens_item declared) contents (stays_same lists atoms _ is h)) (omega (arith, same)) few

-- ---- what is kept

keep_bytes : (o : Options) (k : List ℕ) (last : Option Tag) (outer : List (Option Tag)) (h : Option Held) (m : Seen) (v : List ℕ) → out (held_at o k last outer 0 h m) (map value_byte v) ≡ map value_byte v
keep_bytes o k last outer h m [] = refl
keep_bytes o k last outer h m (b ∷ v) = ap (λ (y : List Atom). value_byte b ∷ y) (keep_bytes o k last outer (option_map (λ g. held_with g b) h) m v)

keep_fragment : (o : Options) (k : List ℕ) (last : Option Tag) (outer : List (Option Tag)) (m : Seen) (l : Option (ℕ × List ℕ)) → out (at o k last outer 0 m) (open_fragment_atoms l) ≡ open_fragment_atoms l
keep_fragment o k last outer m None = refl
keep_fragment o k last outer m (Some f) = ap (λ (y : List Atom). opens_fragment f.0 ∷ y) (keep_bytes o k last outer None m f.1)

keep_open_fragments : (o : Options) (k : List ℕ) (last : Option Tag) (outer : List (Option Tag)) (m : Seen) (values : List (List ℕ)) (l : Option (ℕ × List ℕ))
    → out (at o k last outer 0 m) (fragments_then values (open_fragment_atoms l)) ≡ fragments_then values (open_fragment_atoms l)
unfolding fragments_then
keep_open_fragments o k last outer m [] l = keep_fragment o k last outer m l
keep_open_fragments o k last outer m (v ∷ values) l =
    ap (λ (y : List Atom). opens_fragment (length v) ∷ y)
    (keep_value o k last outer None m v (fragments_then values (open_fragment_atoms l))
    ∙ ap (λ (y : List Atom). map value_byte v ++ closes_leaf ∷ y) (keep_open_fragments o k last outer nothing_seen values l))

-- ---- an open element, by its fate

abbrev pub Passed : Trees → OpenTree → List Atom → List Atom → Type 0
Passed t o at_end x = (y : List Atom) × ShowTrees t x y × ShowsOpen o at_end y

module _ (o : Options) (k : List ℕ) (outer : List (Option Tag)) (m : Seen) (tag : Tag) (vr : Vr) (s : Syntax) where
  held_gone : (fate : Fate) (v : List ℕ) → out (held_at o k (Some tag) outer 1 (Some (nothing_held fate tag vr s)) m) (map value_byte v) ≡ []
  held_gone fate v = ap (out (held_at o k (Some tag) outer 1 (Some (nothing_held fate tag vr s)) m)) (sym (append-nil (map value_byte v))) ∙ uid_bytes o k (Some tag) outer (nothing_held fate tag vr s) m v []

  leaf_open : (fate : Fate) (size : ℕ) (value : List ℕ) → form s (read_as s tag vr) (Known size) ≡ a_value → length value < size
      → Passed (open_leaf_by fate (value_by (made_new o k)) tag vr) (open_anew (while_kept fate (open_leaf tag vr size value))) []
      (head_by fate a_value tag vr (Known size) s ++ out (judged_state o k outer m tag vr s fate a_value) (map value_byte (order s vr value)))
  unfolding ShowTrees ShowsOpen
  leaf_open Remove size value fo le = ([], bytes_gone o k (Some tag) outer 0 m (order s vr value), refl)
  leaf_open Empty size value fo le =
      ([], (Little, _, value_alone s tag vr size 0 fo, refl, bytes_gone o k (Some tag) outer 0 m (order s vr value)), refl)
  leaf_open Replace size value fo le =
      ([], (Little, _, value_alone s tag vr size (length (dummy vr)) fo, leaf_then tag vr (dummy vr) _, bytes_gone o k (Some tag) outer 0 m (order s vr value)), refl)
  leaf_open (Anew made) size value fo le = ([], held_gone (Anew made) (order s vr value), refl)
  leaf_open Keep size value fo le =
      (opens tag vr (Known size) s ∷ map value_byte (order s vr value), ap (λ (y : List Atom). opens tag vr (Known size) s ∷ y) (keep_bytes o k (Some tag) outer _ m (order s vr value)), (s, fo, le, refl))

  sequence_open : (fate : Fate) (declared : Length) (items : Items) (last' : OpenItem) (contents others : List Atom) → form s (read_as s tag vr) declared ≡ a_sequence
      → out (at o k (Some tag) outer 1 m) contents ≡ [] → ShowItems items (out (at o k (Some tag) outer 0 m) contents) others → ShowsOpenItem (item_anew last') others
      → Passed (open_sequence_by fate tag vr) (open_anew (while_kept fate (open_sequence tag vr Undefined items last'))) []
      (head_by fate a_sequence tag vr declared s ++ out (judged_state o k outer m tag vr s fate a_sequence) contents)
  unfolding ShowTrees ShowsOpen
  sequence_open Remove declared items last' contents others fo dropped kept more = ([], dropped, refl)
  sequence_open Empty declared items last' contents others fo dropped kept more = ([], (Little, _, _, sequence_alone s tag vr declared fo, refl, refl, dropped), refl)
  sequence_open Replace declared items last' contents others fo dropped kept more = ([], (Little, _, _, sequence_alone s tag vr declared fo, refl, refl, dropped), refl)
  sequence_open (Anew made) declared items last' contents others fo dropped kept more = ([], (Little, _, _, sequence_alone s tag vr declared fo, refl, refl, dropped), refl)
  sequence_open Keep declared items last' contents others fo dropped kept more =
      (opens tag vr Undefined s ∷ out (at o k (Some tag) outer 0 m) contents, refl, (s, out (at o k (Some tag) outer 0 m) contents, others, undefined_sequence s (read_as s tag vr) declared fo, refl, kept, more))

  fragments_open : (fate : Fate) (values : List (List ℕ)) (l : Option (ℕ × List ℕ)) → form s (read_as s tag vr) Undefined ≡ a_fragment_list → MissesFragment l
      → Passed no_tree (open_anew (while_kept fate (open_fragments tag vr values l))) []
      (head_by fate a_fragment_list tag vr Undefined s ++ out (judged_state o k outer m tag vr s fate a_fragment_list) (fragments_then values (open_fragment_atoms l)))
  unfolding ShowTrees ShowsOpen
  fragments_open Remove values l fo mi = ([], open_fragments_gone o k (Some tag) outer 0 m values l (omega arith), refl)
  fragments_open Empty values l fo mi = ([], open_fragments_gone o k (Some tag) outer 0 m values l (omega arith), refl)
  fragments_open Replace values l fo mi = ([], open_fragments_gone o k (Some tag) outer 0 m values l (omega arith), refl)
  fragments_open (Anew made) values l fo mi = ([], open_fragments_gone o k (Some tag) outer 0 m values l (omega arith), refl)
  fragments_open Keep values l fo mi =
      (opens tag vr Undefined s ∷ fragments_then values (open_fragment_atoms l), ap (λ (y : List Atom). opens tag vr Undefined s ∷ y) (keep_open_fragments o k (Some tag) outer m values l), (s, fo, mi, refl))

-- ---- a data set

-- what is put of an open element, and of what says what was done
abbrev pub tail : Options → List ℕ → List (Option Tag) → Option Tag → OpenTree → Bool → Trees
tail o k outer last nothing_open true = gap o outer last None no_tree
tail o k outer last nothing_open false = no_tree
tail o k outer last (open_leaf tag vr size value) c = gap o outer last (Some tag) (open_leaf_by (fate_as o (depth_of outer) AsBytes tag) (value_by (made_new o k)) tag vr)
tail o k outer last (open_sequence tag vr declared items last') c = gap o outer last (Some tag) (open_sequence_by (fate_as o (depth_of outer) AsItems tag) tag vr)
tail o k outer last (open_fragments tag vr values last') c = gap o outer last (Some tag) no_tree

abbrev pub front_written : Options → List ℕ → List (Option Tag) → Front → Front
front_written o k outer (front whole opened_tree r c) =
    front (then_trees (written o k outer None whole) (tail o k outer (last_tag None whole) opened_tree c)) (open_by_fate (fate_as o) (value_by (made_new o k)) (depth_of outer) opened_tree) r c

moved : (t : Trees) (p : OpenTree) (at_end x y : List Atom) → x ≡ y → Passed t p at_end y → Passed t p at_end x
moved t p at_end x y e h = subst (λ (z : List Atom). Passed t p at_end z) (sym e) h

-- with what is put before it
after_gap : (o : Options) (k : List ℕ) (last : Option Tag) (outer : List (Option Tag)) (m : Seen) (tag : Tag) (t : Trees) (p : OpenTree) (head x row : List Atom) → row ≡ (said_before o (place_at last outer 0 m) (Some tag) ++ head) ++ x
    → Passed t p [] (head ++ x) → Passed (gap o outer last (Some tag) t) p [] row
after_gap o k last outer m tag t p head x row is h =
    moved _ p [] row _ (is ∙ append_assoc (said_before o (place_at last outer 0 m) (Some tag)) head x) (h.0, gap_shown o outer last (Some tag) 0 m t (head ++ x) h.0 h.1, h.2)

shown_after : (a b : Trees) (x y z : List Atom) → ShowTrees a x y → ShowTrees b y z → ShowTrees (then_trees a b) x z
unfolding ShowTrees
shown_after no_tree b x y z p q = subst (λ (w : List Atom). ShowTrees b w z) (sym p) q
shown_after (leaf tag vr value rest) b x y z (s, others, fo, is, more) q = (s, others, fo, is, shown_after rest b others y z more q)
shown_after (sequence tag vr declared items rest) b x y z (s, contents, others, fo, is, inner, more) q = (s, contents, others, fo, is, inner, shown_after rest b others y z more q)
shown_after (fragments tag vr values rest) b x y z (s, others, fo, is, more) q = (s, others, fo, is, shown_after rest b others y z more q)

anew_reached : (w : Trees) (p : OpenTree) → reached_tag w p ≡ reached_tag w (open_anew p)
anew_reached w nothing_open = refl
anew_reached w (open_leaf tag vr size value) = refl
anew_reached w (open_sequence tag vr declared items last) = refl
anew_reached w (open_fragments tag vr values last) = refl

may_end : (o : Options) (k : List ℕ) (outer : List (Option Tag)) (p : OpenTree) (c : Bool) → MayEnd p c → MayEnd (open_anew (open_by_fate (fate_as o) (value_by (made_new o k)) (depth_of outer) p)) c
may_end o k outer p true e = ap (λ (q : OpenTree). open_anew (open_by_fate (fate_as o) (value_by (made_new o k)) (depth_of outer) q)) e
may_end o k outer p false e = tt

inside_tail : (o : Options) (k : List ℕ) (l : Option Tag) (outer : List (Option Tag)) (last : Option Tag) (p : OpenTree) (c : Bool) → tail o k (l ∷ outer) last p c ≡ made_whole (fate_as o) (value_by (made_new o k)) Inside p
inside_tail o k l outer last nothing_open true = refl
inside_tail o k l outer last nothing_open false = refl
inside_tail o k l outer last (open_leaf tag vr size value) c = refl
inside_tail o k l outer last (open_sequence tag vr declared items last') c = refl
inside_tail o k l outer last (open_fragments tag vr values last') c = refl

-- in an item nothing is put
inside_front : (o : Options) (k : List ℕ) (l : Option Tag) (outer : List (Option Tag)) (f : Front) → front_written o k (l ∷ outer) f ≡ front_by_fate (fate_as o) (value_by (made_new o k)) Inside f
inside_front o k l outer (front whole p r c) =
    ap (λ (t : Trees). front (then_trees t (tail o k (l ∷ outer) (last_tag None whole) p c)) (open_by_fate (fate_as o) (value_by (made_new o k)) Inside p) r c) (inside_written o k l outer None whole)
    ∙ ap (λ (t : Trees). front (then_trees (by_fate (fate_as o) (value_by (made_new o k)) Inside whole) t) (open_by_fate (fate_as o) (value_by (made_new o k)) Inside p) r c) (inside_tail o k l outer (last_tag None whole) p c)

still_open : (o : Options) (k : List ℕ) (f : Front) → is_closed f ≡ false → is_closed (reached_anew (front_by_fate (fate_as o) (value_by (made_new o k)) Inside f)) ≡ false
still_open o k (front whole p r c) e = e

mutual
  unfolding Shows ShowTrees

  pub passes_front : (f : Front) (lists : ℕ) (o : Options) (k : List ℕ) (outer : List (Option Tag)) (m : Seen) (atoms : List Atom) → Shows f atoms → StaysShallow lists atoms → length outer ≡ lists
      → Shows (reached_anew (front_written o k outer f)) (out (at o k None outer 0 m) atoms)
  passes_front (front whole p r c) lists o k outer m atoms (others, shown, more, may, re) h same =
      let last : Option Tag = last_tag None whole in
      let begins = trees_pass whole lists o k None outer m atoms others shown h same in
      let behind = passes_open p lists o k last outer nothing_seen c others may more (trees_stay whole lists atoms others shown h) same in
      (behind.0, shown_after (written o k outer None whole) (tail o k outer last p c) _ _ _ begins behind.1, behind.2, may_end o k outer p c may, anew_reached _ (open_by_fate (fate_as o) (value_by (made_new o k)) (depth_of outer) p))

  passes_open : (p : OpenTree) (lists : ℕ) (o : Options) (k : List ℕ) (last : Option Tag) (outer : List (Option Tag)) (m : Seen) (c : Bool) (atoms : List Atom) → MayEnd p c → ShowsOpen p (end_atoms c) atoms → StaysShallow lists atoms → length outer ≡ lists
      → Passed (tail o k outer last p c) (open_anew (open_by_fate (fate_as o) (value_by (made_new o k)) (depth_of outer) p)) (end_atoms c) (out (at o k last outer 0 m) atoms)
  passes_open nothing_open lists o k last outer m false atoms may shown h same = ([], ap (out (at o k last outer 0 m)) shown, refl)
  passes_open nothing_open lists o k last outer m true atoms may shown h same =
      moved _ nothing_open (ends ∷ []) _ (said_before o (place_at last outer 0 m) None ++ ends ∷ []) (ap (out (at o k last outer 0 m)) shown ∙ append-nil (said_before o (place_at last outer 0 m) None ++ ends ∷ []))
      (ends ∷ [], gap_shown o outer last None 0 m no_tree (ends ∷ []) (ends ∷ []) refl, refl)
  passes_open (open_leaf tag vr size value) lists o k last outer m true atoms may shown h same = absurd cc
  passes_open (open_leaf tag vr size value) lists o k last outer m false atoms may (s, fo, le, is) h same =
      let fate = fate_here o outer a_value tag in
      after_gap o k last outer m tag _ _ (head_by fate a_value tag vr (Known size) s) _ _
      (ap (out (at o k last outer 0 m)) is ∙ head_out o k last outer m tag vr (Known size) s (map value_byte (order s vr value)) a_value fo)
      (leaf_open o k outer m tag vr s fate size value fo le)
  passes_open (open_sequence tag vr declared items last') lists o k last outer m true atoms may shown h same = absurd cc
  passes_open (open_sequence tag vr declared items last') lists o k last outer m false atoms may (s, contents, others, fo, is, inner, more) h same =
      let fate = fate_here o outer a_sequence tag in
      let within = head_stays lists tag vr declared s a_sequence contents fo (stays_same lists atoms _ is h) in
      let there = items_stay items (suc lists) contents others inner within in
      let one : suc (length outer) ≡ suc lists = omega (arith, same) in
      after_gap o k last outer m tag _ _ (head_by fate a_sequence tag vr declared s) _ _
      (ap (out (at o k last outer 0 m)) is ∙ head_out o k last outer m tag vr declared s contents a_sequence fo)
      (sequence_open o k outer m tag vr s fate declared (items_by_fate (fate_as o) (value_by (made_new o k)) items) (open_item_by_fate (fate_as o) (value_by (made_new o k)) last') contents (out (at o k (Some tag) outer 0 nothing_seen) others) fo
      ((drop_items items (suc lists) o k (Some tag) outer 0 m contents others inner within one (omega arith)).outs
      ∙ drop_open_item last' (suc lists) o k (Some tag) outer 0 m others more there one (omega arith))
      (items_pass items (suc lists) o k (Some tag) outer m contents others inner within one)
      (passes_open_item last' (suc lists) o k (Some tag) outer nothing_seen others more there one))
  passes_open (open_fragments tag vr values last') lists o k last outer m true atoms may shown h same = absurd cc
  passes_open (open_fragments tag vr values last') lists o k last outer m false atoms may (s, fo, mi, is) h same =
      let fate = fate_here o outer a_fragment_list tag in
      after_gap o k last outer m tag _ _ (head_by fate a_fragment_list tag vr Undefined s) _ _
      (ap (out (at o k last outer 0 m)) is ∙ head_out o k last outer m tag vr Undefined s (fragments_then values (open_fragment_atoms last')) a_fragment_list fo)
      (fragments_open o k outer m tag vr s fate values last' fo mi)

  passes_open_item : (p : OpenItem) (lists : ℕ) (o : Options) (k : List ℕ) (last : Option Tag) (outer : List (Option Tag)) (m : Seen) (atoms : List Atom) → ShowsOpenItem p atoms → StaysShallow lists atoms → suc (length outer) ≡ lists
      → ShowsOpenItem (item_anew (open_item_by_fate (fate_as o) (value_by (made_new o k)) p)) (out (at o k last outer 0 m) atoms)
  passes_open_item no_open_item lists o k last outer m atoms shown h same = ap (out (at o k last outer 0 m)) shown
  passes_open_item (open_item declared set) lists o k last outer m atoms (contents, is, still, more) h same =
      let most : lists ≤ 64 = stays_here lists atoms h in
      let within = stays_on lists (opens_item declared) contents (stays_same lists atoms _ is h) in
      let mine : List Atom = out (at o k None (last ∷ outer) 0 m) contents in (
        mine,
        ap (out (at o k last outer 0 m)) is ∙ ap (λ (s : State). opens_item Undefined ∷ out s contents) (entered o k last outer 0 m declared (omega (arith, same, most))),
        still_open o k set still,
        subst (λ (f : Front). Shows (reached_anew f) mine) (inside_front o k last outer set) (passes_front set lists o k (last ∷ outer) m contents more within (omega (arith, same))),
      )
