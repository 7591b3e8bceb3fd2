-- All edits in one pass over the atoms of a data set as far as it was read.
use Rattle.std.proofs.Common.{◌≡◌, ℕ, suc, ◌+◌, List, [], ◌∷◌, ◌++◌, Option, Some, None, Bool, true, false, ◌||◌, refl, sym, ◌∙◌, ap, subst, arith}
use Rattle.std.specs.Prelude.{map, fold, if◌then◌else◌}
use Rattle.dcm_base.specs.declared.tag.Tag.{Tag}
use Rattle.dcm_base.specs.Tables.Syntax.{Little}
use Rattle.dcm_base.specs.declared.length.Length.{Length}
use Rattle.dcm_base.specs.declared.length.Length.TheVariants.{Known, Undefined}
use Rattle.dcm_base.specs.Tree.Tree.{Trees, no_tree, leaf, Items, no_item, item, then_trees, item_count}
use Rattle.dcm_base.specs.Tree.Front.{Front, front, OpenTree, nothing_open, open_leaf, open_sequence, open_fragments, OpenItem, no_open_item, open_item}
use Rattle.dcm_edits.specs.NewOnes.{above_last, puts, is_between}
use Rattle.dcm_edits.specs.Edit.{Edit, within, Fate, stays, becomes, goes, acts, element_of, made_whole, while_it_stays, edited}
use Rattle.dcm_edits.specs.Together.{first_fate, any_erases, all_within, all_changed_items, all_still_open, all_open_item, together}
use Rattle.dcm_edits.specs.Overlap.{AreApart, ArePublic}
use Rattle.dcm_base.specs.Lines.Ascending.{FrontAscends, OpenAscends, OpenItemAscends}
use Rattle.dcm_edits.proofs.Trees.OneByOneFront.{one_by_one}
use Rattle.dcm_edits.proofs.Overlapping.Items.{all_within_all_apart, all_within_public}
use Rattle.dcm_base.specs.Bytes.Spelling.{last_tag}
use Rattle.dcm_base.specs.Tree.Value.{order}
use Rattle.dcm_base.specs.Steps.Atoms.{Atom, opens, value_byte, opens_item, opens_fragment, ends, fragments_then, ShowTrees, ShowItems, open_fragment_atoms, end_atoms, MayEnd, is_closed, Shows, ShowsOpen, ShowsOpenItem, trees_then}
use Rattle.dcm_base.specs.Steps.Anew.{reached_anew, open_anew, item_anew}
use Rattle.dcm_editor.specs.EditSink.{Level, State, begun, has_place, either, head_by}
use Rattle.dcm_edits.specs.Bounds.{HaveValues}
use Rattle.dcm_editor.proofs.EditSinks.Unbounded.{dropped_unbounded, next_unbounded}
use Rattle.dcm_edits.proofs.Trees.Kept.{kept, items_kept}
use Rattle.dcm_editor.proofs.EditSinks.Shown.{shown_after, Own, own_shown, own_more, own_puts, all_within_have, FateHas, first_fate_has, anew_reached}
use Rattle.dcm_editor.proofs.EditSinks.Runs.{at, level, out, items_after, last_count, head_seen, item_seen, end_seen, seen, seen_items, either_none, either_twice, either_within, fold_fragments, fold_trees, fold_items, dropped_fragments, dropped_trees, dropped_items}
use Rattle.dcm_editor.proofs.EditSinks.Passes.{kept_fragments, new_before, leaf_instead, trees_pass, items_pass}
use Rattle.dcm_editor.proofs.Trees.SoFar.{tail, together_is, closed_same}

-- ---- an open value

kept_value : (u : List ℕ) (es : List Edit) (last : Option Tag) (n : ℕ) (up : List Level) (bs : List Bool) → out (at es last n up 0 bs) (map value_byte u) ≡ map value_byte u
kept_value [] es last n up bs = refl
kept_value (b ∷ u) es last n up bs = ap (λ (y : List Atom). value_byte b ∷ y) (kept_value u es last n up bs)

dropped_value : (u : List ℕ) (es : List Edit) (last : Option Tag) (n : ℕ) (up : List Level) (d : ℕ) (bs : List Bool) → out (at es last n up (suc d) bs) (map value_byte u) ≡ []
dropped_value [] es last n up d bs = refl
dropped_value (b ∷ u) es last n up d bs = dropped_value u es last n up d bs

kept_open_fragment : (last : Option (ℕ × List ℕ)) (es : List Edit) (before : Option Tag) (n : ℕ) (up : List Level) (bs : List Bool)
    → out (at es before n up 0 bs) (open_fragment_atoms last) ≡ open_fragment_atoms last
kept_open_fragment None es before n up bs = refl
kept_open_fragment (Some f) es before n up bs = ap (λ (y : List Atom). opens_fragment f.0 ∷ y) (kept_value f.1 es before n up bs)

dropped_open_fragment : (last : Option (ℕ × List ℕ)) (es : List Edit) (before : Option Tag) (n : ℕ) (up : List Level) (d : ℕ) (bs : List Bool)
    → out (at es before n up (suc d) bs) (open_fragment_atoms last) ≡ []
dropped_open_fragment None es before n up d bs = refl
dropped_open_fragment (Some f) es before n up d bs = dropped_value f.1 es before n up (suc d) bs

-- ---- within what is dropped nothing is passed on

mutual
  unfolding Shows

  dropped_front : (f : Front) (es : List Edit) (up : List Level) (d : ℕ) (bs : List Bool) (atoms : List Atom) → Shows f atoms → out (at es None 0 up (suc d) bs) atoms ≡ []
  dropped_front (front whole o r c) es up d bs atoms (others, shown, more, may, re) =
      dropped_trees whole es None 0 up d bs atoms others shown ∙ dropped_open o es (last_tag None whole) (last_count 0 whole) up d _ c others more

  dropped_open : (o : OpenTree) (es : List Edit) (last : Option Tag) (n : ℕ) (up : List Level) (d : ℕ) (bs : List Bool) (c : Bool) (atoms : List Atom) → ShowsOpen o (end_atoms c) atoms
      → out (at es last n up (suc d) bs) atoms ≡ []
  dropped_open nothing_open es last n up d bs false atoms p = ap (λ (x : List Atom). out (at es last n up (suc d) bs) x) p
  dropped_open nothing_open es last n up d bs true atoms p = ap (λ (x : List Atom). out (at es last n up (suc d) bs) x) p
  dropped_open (open_leaf tag vr size value) es last n up d bs c atoms (s, fo, le, is) =
      ap (λ (x : List Atom). out (at es last n up (suc d) bs) x) is ∙ dropped_value (order s vr value) es (Some tag) 0 up (suc d) _
  dropped_open (open_sequence tag vr declared items last') es last n up d bs c atoms (s, contents, others, fo, is, inner, more) =
      ap (λ (x : List Atom). out (at es last n up (suc d) bs) x) is
      ∙ dropped_items items es tag 0 up (suc d) _ contents others inner
      ∙ dropped_open_item last' es tag (items_after 0 items) up (suc d) _ others more
  dropped_open (open_fragments tag vr values last') es last n up d bs c atoms (s, fo, mi, is) =
      ap (λ (x : List Atom). out (at es last n up (suc d) bs) x) is
      ∙ dropped_fragments values es (Some tag) 0 up (suc d) _ (open_fragment_atoms last')
      ∙ dropped_open_fragment last' es (Some tag) 0 up (suc d) _

  dropped_open_item : (o : OpenItem) (es : List Edit) (tag : Tag) (n : ℕ) (up : List Level) (d : ℕ) (bs : List Bool) (atoms : List Atom) → ShowsOpenItem o atoms
      → out (at es (Some tag) n up (suc d) bs) atoms ≡ []
  dropped_open_item no_open_item es tag n up d bs atoms p = ap (λ (x : List Atom). out (at es (Some tag) n up (suc d) bs) x) p
  dropped_open_item (open_item declared set) es tag n up d bs atoms (contents, is, still, more) =
      ap (λ (x : List Atom). out (at es (Some tag) n up (suc d) bs) x) is
      ∙ dropped_front set (all_within es tag n) (level es (Some tag) (suc n) ∷ up) (suc d) _ contents more

-- ---- what is found

-- whether an edit finds its place on the way, but for the leaf of its own that the outermost data set has a place for
abbrev mutual
  pub seen_front : Edit → Front → Bool
  seen_front e (front whole o r c) = seen e None whole || seen_open e (last_tag None whole) o c

  pub seen_open : Edit → Option Tag → OpenTree → Bool → Bool
  seen_open e last nothing_open false = false
  seen_open e last nothing_open true = end_seen last e
  seen_open e last (open_leaf tag vr size value) c = head_seen e last tag
  seen_open e last (open_sequence tag vr declared items more) c = (head_seen e last tag || seen_items e tag 0 items) || seen_open_item e tag (item_count items) more
  seen_open e last (open_fragments tag vr values more) c = head_seen e last tag

  pub seen_open_item : Edit → Tag → ℕ → OpenItem → Bool
  seen_open_item e tag n no_open_item = false
  seen_open_item e tag n (open_item declared set) = item_seen e tag n || seen_front (within e tag n) set

items_count_from : (n : ℕ) (items : Items) → items_after n items ≡ n + item_count items
items_count_from n no_item = omega arith
items_count_from n (item declared set rest) = let e = items_count_from (suc n) rest in omega arith

items_count : (items : Items) → items_after 0 items ≡ item_count items
items_count items = let e = items_count_from 0 items in omega arith

abbrev bits : State → List Bool
bits s = s.found

mutual
  unfolding Shows

  pub found_front : (f : Front) (es : List Edit) (up : List Level) (d : ℕ) (bs : List Bool) (atoms : List Atom) → Shows f atoms
      → (fold next_unbounded (at es None 0 up d bs) atoms).found ≡ either bs (map (λ e. seen_front e f) es)
  found_front (front whole o r c) es up d bs atoms (others, shown, more, may, re) =
      ap bits (fold_trees whole es None 0 up d bs atoms others shown)
      ∙ found_open_tree o es (last_tag None whole) (last_count 0 whole) up d _ c others more
      ∙ either_twice bs es (λ e. seen e None whole) (λ e. seen_open e (last_tag None whole) o c) (λ e. seen_front e (front whole o r c)) (λ e. refl)

  found_open_tree : (o : OpenTree) (es : List Edit) (last : Option Tag) (n : ℕ) (up : List Level) (d : ℕ) (bs : List Bool) (c : Bool) (atoms : List Atom) → ShowsOpen o (end_atoms c) atoms
      → (fold next_unbounded (at es last n up d bs) atoms).found ≡ either bs (map (λ e. seen_open e last o c) es)
  found_open_tree nothing_open es last n up d bs false atoms p = ap (λ (x : List Atom). (fold next_unbounded (at es last n up d bs) x).found) p ∙ sym (either_none bs es)
  found_open_tree nothing_open es last n up d bs true atoms p = ap (λ (x : List Atom). (fold next_unbounded (at es last n up d bs) x).found) p
  found_open_tree (open_leaf tag vr size value) es last n up d bs c atoms (s, fo, le, is) =
      ap (λ (x : List Atom). (fold next_unbounded (at es last n up d bs) x).found) is ∙ value_found (order s vr value) _
    where
      value_found : (u : List ℕ) (t : State) → (fold next_unbounded t (map value_byte u)).found ≡ t.found
      value_found [] t = refl
      value_found (b ∷ u) t = value_found u t
  found_open_tree (open_sequence tag vr declared items last') es last n up d bs c atoms (s, contents, others, fo, is, inner, more) =
      ap (λ (x : List Atom). (fold next_unbounded (at es last n up d bs) x).found) is
      ∙ ap bits (fold_items items es tag 0 up (dropped_unbounded d (acts (first_fate es tag))) (either bs (map (λ e. head_seen e last tag) es)) contents others inner)
      ∙ found_in_open_item last' es tag (items_after 0 items) up _ _ others more
      ∙ ap (λ (m : ℕ). either (either (either bs (map (λ e. head_seen e last tag) es)) (map (λ e. seen_items e tag 0 items) es)) (map (λ e. seen_open_item e tag m last') es)) (items_count items)
      ∙ ap (λ (y : List Bool). either y (map (λ e. seen_open_item e tag (item_count items) last') es))
      (either_twice bs es (λ e. head_seen e last tag) (λ e. seen_items e tag 0 items) (λ e. head_seen e last tag || seen_items e tag 0 items) (λ e. refl))
      ∙ either_twice bs es (λ e. head_seen e last tag || seen_items e tag 0 items) (λ e. seen_open_item e tag (item_count items) last') (λ e. seen_open e last (open_sequence tag vr declared items last') c)
      (λ e. refl)
  found_open_tree (open_fragments tag vr values last') es last n up d bs c atoms (s, fo, mi, is) =
      ap (λ (x : List Atom). (fold next_unbounded (at es last n up d bs) x).found) is
      ∙ ap bits (fold_fragments values es (Some tag) 0 up _ _ (open_fragment_atoms last'))
      ∙ fragment_found last' _
    where
      value_found : (u : List ℕ) (t : State) → (fold next_unbounded t (map value_byte u)).found ≡ t.found
      value_found [] t = refl
      value_found (b ∷ u) t = value_found u t

      fragment_found : (l : Option (ℕ × List ℕ)) (t : State) → (fold next_unbounded t (open_fragment_atoms l)).found ≡ t.found
      fragment_found None t = refl
      fragment_found (Some f) t = value_found f.1 _

  found_in_open_item : (o : OpenItem) (es : List Edit) (tag : Tag) (n : ℕ) (up : List Level) (d : ℕ) (bs : List Bool) (atoms : List Atom) → ShowsOpenItem o atoms
      → (fold next_unbounded (at es (Some tag) n up d bs) atoms).found ≡ either bs (map (λ e. seen_open_item e tag n o) es)
  found_in_open_item no_open_item es tag n up d bs atoms p =
      ap (λ (x : List Atom). (fold next_unbounded (at es (Some tag) n up d bs) x).found) p ∙ sym (either_none bs es)
  found_in_open_item (open_item declared set) es tag n up d bs atoms (contents, is, still, more) =
      ap (λ (x : List Atom). (fold next_unbounded (at es (Some tag) n up d bs) x).found) is
      ∙ found_front set (all_within es tag n) (level es (Some tag) (suc n) ∷ up) (dropped_unbounded d (any_erases es tag n)) _ contents more
      ∙ either_within bs es tag n (λ e. item_seen e tag n) (λ e. seen_front e set) (λ e. seen_open_item e tag n (open_item declared set))
      (λ e. refl)

-- ---- what is passed on

abbrev pub Passed : Trees → OpenTree → List Atom → List Atom → Type 0
Passed t o at_end x = (y : List Atom) × ShowTrees t x y × ShowsOpen o at_end y

-- an open element, by its fate; g says what is passed on of its contents, from a count of what is dropped
open_by : (f : Fate) (b : Trees) (tag : Tag) (head : Atom) (o : OpenTree) (g : ℕ → List Atom) → Own b → FateHas f → g 1 ≡ [] → ShowsOpen (open_anew o) [] (head ∷ g 0)
    → Passed (then_trees b (made_whole f tag)) (open_anew (while_it_stays f o)) [] (trees_then Little b (head_by f tag head) ++ g (dropped_unbounded 0 (acts f)))
unfolding ShowTrees ShowsOpen
open_by stays b tag head o g own h none shown = (head ∷ g 0, new_before b no_tree (head ∷ []) (g 0) (head ∷ g 0) own refl, shown)
open_by (becomes vr value) b tag head o g own h none shown =
    ([], new_before b (leaf tag vr value no_tree) _ (g 1) [] own (leaf_instead tag vr value no_tree (g 1) [] [] h none refl), refl)
open_by goes b tag head o g own h none shown = ([], new_before b no_tree [] (g 1) [] own none, refl)

-- an open item, by whether it is erased
open_item_by_test : (b : Bool) (declared : Length) (set : Front) (g : ℕ → List Atom) → g 1 ≡ [] → is_closed (reached_anew set) ≡ false → Shows (reached_anew set) (g 0)
    → ShowsOpenItem (item_anew (if b then no_open_item else open_item declared set)) ((if b then [] else opens_item declared ∷ []) ++ g (dropped_unbounded 0 b))
unfolding ShowsOpenItem
open_item_by_test true declared set g none still shown = none
open_item_by_test false declared set g none still shown = (g 0, refl, still, shown)

moved_open : (t : Trees) (o : OpenTree) (at_end x y : List Atom) → x ≡ y → Passed t o at_end y → Passed t o at_end x
moved_open t o at_end x y e p = subst (λ (z : List Atom). Passed t o at_end z) (sym e) p

may_end : (es : List Edit) (o : OpenTree) (c : Bool) → MayEnd o c → MayEnd (open_anew (all_still_open es o)) c
may_end es o true e = ap (λ (x : OpenTree). open_anew (all_still_open es x)) e
may_end es o false e = tt

mutual
  unfolding Shows ShowTrees

  passes_front : (f : Front) (es : List Edit) (up : List Level) (bs : List Bool) (atoms : List Atom) → AreApart es → ArePublic es → HaveValues es → FrontAscends f → Shows f atoms
      → Shows (reached_anew (together es f)) (out (at es None 0 up 0 bs) atoms)
  passes_front (front whole o r c) es up bs atoms p n h a (others, shown, more, may, re) =
      let last : Option Tag = last_tag None whole in
      let seen : List Bool = either bs (map (λ e. seen e None whole) es) in
      let begins = trees_pass whole es None 0 up bs atoms others h shown in
      let behind = passes_open o es whole r last (last_count 0 whole) up seen c others p n h a.1 may more in
      subst (λ (f : Front). Shows (reached_anew f) (out (at es None 0 up 0 bs) atoms)) (sym (together_is es whole o r c p n a.0 a.1 re)) (
        behind.0,
        shown_after (kept es None whole) (tail es last o c) _ _ _ begins behind.1,
        behind.2,
        may_end es o c may,
        anew_reached (then_trees (kept es None whole) (tail es last o c)) (all_still_open es o),
      )

  passes_open : (o : OpenTree) (es : List Edit) (whole : Trees) (r last : Option Tag) (n : ℕ) (up : List Level) (bs : List Bool) (c : Bool) (atoms : List Atom)
      → AreApart es → ArePublic es → HaveValues es → OpenAscends whole r c o → MayEnd o c → ShowsOpen o (end_atoms c) atoms
      → Passed (tail es last o c) (open_anew (all_still_open es o)) (end_atoms c) (out (at es last n up 0 bs) atoms)
  passes_open nothing_open es whole r last n up bs false atoms p b h a may shown =
      ([], ap (λ (x : List Atom). out (at es last n up 0 bs) x) shown, refl)
  passes_open nothing_open es whole r last n up bs true atoms p b h a may shown =
      let new : Trees = puts (above_last last) es no_tree in
      let own : Own new = own_puts (above_last last) es no_tree h tt in (
        ends ∷ [],
        subst (λ (x : List Atom). ShowTrees new x (ends ∷ []))
            (sym (ap (λ (x : List Atom). out (at es last n up 0 bs) x) shown ∙ own_more new (ends ∷ []) [] own)) (own_shown new (ends ∷ []) own),
        refl,
      )
  passes_open (open_leaf tag vr size value) es whole r last n up bs true atoms p b h a may shown = absurd cc
  passes_open (open_leaf tag vr size value) es whole r last n up bs false atoms p b h a may (s, fo, le, is) =
      let bs1 : List Bool = either bs (map (λ e. head_seen e last tag) es) in
      moved_open _ _ _ _ _ (ap (λ (x : List Atom). out (at es last n up 0 bs) x) is)
      (open_by (first_fate es tag) (puts (is_between last tag) es no_tree) tag (opens tag vr (Known size) s) (open_leaf tag vr size value)
      (λ d. out (at es (Some tag) 0 up d bs1) (map value_byte (order s vr value)))
      (own_puts (is_between last tag) es no_tree h tt) (first_fate_has es tag h) (dropped_value (order s vr value) es (Some tag) 0 up 0 bs1)
      (s, fo, le, ap (λ (x : List Atom). opens tag vr (Known size) s ∷ x) (kept_value (order s vr value) es (Some tag) 0 up bs1)))
  passes_open (open_sequence tag vr declared items last') es whole r last n up bs true atoms p b h a may shown = absurd cc
  passes_open (open_sequence tag vr declared items last') es whole r last n up bs false atoms p b h a may (s, contents, others, fo, is, inner, more) =
      let bs1 : List Bool = either bs (map (λ e. head_seen e last tag) es) in
      let bs2 : List Bool = either bs1 (map (λ e. seen_items e tag 0 items) es) in
      let held = items_pass items es tag 0 up bs1 contents others h inner in
      let walked : ShowItems (all_changed_items es tag 0 items) (out (at es (Some tag) 0 up 0 bs1) contents) (out (at es (Some tag) (items_after 0 items) up 0 bs2) others) =
      subst (λ (i : Items). ShowItems i (out (at es (Some tag) 0 up 0 bs1) contents) (out (at es (Some tag) (items_after 0 items) up 0 bs2) others))
      (sym (items_kept es tag 0 items p b a.1)) held in
      let at_last : ShowsOpenItem (item_anew (all_open_item es tag (item_count items) last')) (out (at es (Some tag) (items_after 0 items) up 0 bs2) others) =
      subst (λ (m : ℕ). ShowsOpenItem (item_anew (all_open_item es tag m last')) (out (at es (Some tag) (items_after 0 items) up 0 bs2) others)) (items_count items)
      (passes_open_item last' es tag (items_after 0 items) up bs2 others p b h a.2 more) in
      moved_open _ _ _ _ _ (ap (λ (x : List Atom). out (at es last n up 0 bs) x) is)
      (open_by (first_fate es tag) (puts (is_between last tag) es no_tree) tag (opens tag vr declared s)
      (open_sequence tag vr declared (all_changed_items es tag 0 items) (all_open_item es tag (item_count items) last'))
      (λ d. out (at es (Some tag) 0 up d bs1) contents)
      (own_puts (is_between last tag) es no_tree h tt) (first_fate_has es tag h)
      (dropped_items items es tag 0 up 0 bs1 contents others inner ∙ dropped_open_item last' es tag (items_after 0 items) up 0 bs2 others more)
      (s, out (at es (Some tag) 0 up 0 bs1) contents, out (at es (Some tag) (items_after 0 items) up 0 bs2) others, fo, refl, walked, at_last))
  passes_open (open_fragments tag vr values last') es whole r last n up bs true atoms p b h a may shown = absurd cc
  passes_open (open_fragments tag vr values last') es whole r last n up bs false atoms p b h a may (s, fo, mi, is) =
      let bs1 : List Bool = either bs (map (λ e. head_seen e last tag) es) in
      moved_open _ _ _ _ _ (ap (λ (x : List Atom). out (at es last n up 0 bs) x) is)
      (open_by (first_fate es tag) (puts (is_between last tag) es no_tree) tag (opens tag vr Undefined s) (open_fragments tag vr values last')
      (λ d. out (at es (Some tag) 0 up d bs1) (fragments_then values (open_fragment_atoms last')))
      (own_puts (is_between last tag) es no_tree h tt) (first_fate_has es tag h)
      (dropped_fragments values es (Some tag) 0 up 0 bs1 (open_fragment_atoms last') ∙ dropped_open_fragment last' es (Some tag) 0 up 0 bs1) (
        s,
        fo,
        mi,
        ap (λ (x : List Atom). opens tag vr Undefined s ∷ x)
            (kept_fragments values es (Some tag) 0 up bs1 (open_fragment_atoms last') ∙ ap (λ (x : List Atom). fragments_then values x) (kept_open_fragment last' es (Some tag) 0 up bs1)),
      ))

  passes_open_item : (o : OpenItem) (es : List Edit) (tag : Tag) (n : ℕ) (up : List Level) (bs : List Bool) (atoms : List Atom)
      → AreApart es → ArePublic es → HaveValues es → OpenItemAscends o → ShowsOpenItem o atoms
      → ShowsOpenItem (item_anew (all_open_item es tag n o)) (out (at es (Some tag) n up 0 bs) atoms)
  passes_open_item no_open_item es tag n up bs atoms p b h a shown = ap (λ (x : List Atom). out (at es (Some tag) n up 0 bs) x) shown
  passes_open_item (open_item declared set) es tag n up bs atoms p b h a (contents, is, still, more) =
      let es1 : List Edit = all_within es tag n in
      let bs1 : List Bool = either bs (map (λ e. item_seen e tag n) es) in
      let up1 : List Level = level es (Some tag) (suc n) ∷ up in
      subst (λ (x : List Atom). ShowsOpenItem (item_anew (all_open_item es tag n (open_item declared set))) x)
      (sym (ap (λ (x : List Atom). out (at es (Some tag) n up 0 bs) x) is))
      (open_item_by_test (any_erases es tag n) declared (together es1 set) (λ d. out (at es1 None 0 up1 d bs1) contents)
      (dropped_front set es1 up1 0 bs1 contents more) (closed_same es1 set ∙ still)
      (passes_front set es1 up1 bs1 contents (all_within_all_apart es tag n p) (all_within_public es tag n b) (all_within_have es tag n h) a more))

-- the law, without the found bits
pub edit_passes : (es : List Edit) (f : Front) (atoms : List Atom) → AreApart es → ArePublic es → HaveValues es → FrontAscends f → Shows f atoms
    → Shows (reached_anew (edited es f)) (out (begun es) atoms)
edit_passes es f atoms p b h a shown =
    subst (λ (g : Front). Shows (reached_anew g) (out (begun es) atoms)) (one_by_one es f p b a) (passes_front f es [] (map (λ e. has_place (element_of e)) es) atoms p b h a shown)
