-- What the sink passes on of trees shows them as the edits leave them.
use Rattle.std.proofs.Common.{◌≡◌, ℕ, suc, List, [], ◌∷◌, ◌++◌, length, Option, Some, None, Bool, true, false, ◌||◌, refl, sym, ◌∙◌, ap, subst}
use Rattle.std.specs.Prelude.{map, if◌then◌else◌}
use Rattle.dcm_base.specs.declared.tag.Tag.{Tag}
use Rattle.dcm_base.specs.declared.vr.Vr.{Vr}
use Rattle.dcm_base.specs.declared.syntax.Syntax.{Syntax}
use Rattle.dcm_base.specs.Tables.Syntax.{Little}
use Rattle.dcm_base.specs.declared.length.Length.{Length}
use Rattle.dcm_base.specs.declared.length.Length.TheVariants.{Known, Undefined}
use Rattle.dcm_base.specs.Tree.Tree.{Trees, no_tree, leaf, sequence, fragments, Items, no_item, item, then_trees}
use Rattle.dcm_edits.specs.NewOnes.{above_last, puts, is_between}
use Rattle.dcm_edits.specs.Edit.{Edit, Fate, stays, becomes, goes, settled, acts}
use Rattle.dcm_edits.specs.Together.{first_fate, any_erases, all_within}
use Rattle.dcm_base.specs.declared.form.Form.TheVariants.{Value as a_value, Sequence as a_sequence, FragmentList as a_fragment_list}
use Rattle.dcm_base.specs.Bytes.Spelling.{form, last_tag, read_as}
use Rattle.dcm_base.specs.Tree.Value.{order}
use Rattle.dcm_base.specs.Steps.Atoms.{Atom, opens, value_byte, closes_leaf, opens_item, closes_item, closes_sequence, opens_fragment, fragments_then, ShowTrees, ShowItems, trees_then}
use Rattle.dcm_editor.specs.EditSink.{Level, either, head_by}
use Rattle.dcm_edits.specs.Bounds.{HaveValues}
use Rattle.dcm_editor.proofs.EditSinks.Unbounded.{dropped_unbounded}
use Rattle.dcm_edits.proofs.Trees.Kept.{kept, kept_items}
use Rattle.dcm_editor.proofs.EditSinks.Shown.{shown_after, Own, own_shown, own_more, own_puts, all_within_have, FateHas, first_fate_has}
use Rattle.dcm_editor.proofs.EditSinks.Runs.{at, level, out, items_after, last_count, either_none, either_twice, head_seen, item_seen, end_seen, seen, seen_items, seen_item, dropped_bytes, dropped_fragments, dropped_trees, dropped_items}

pub kept_bytes : (u : List ℕ) (es : List Edit) (last : Option Tag) (n : ℕ) (up : List Level) (bs : List Bool) (x : List Atom)
    → out (at es last n up 0 bs) (map value_byte u ++ x) ≡ map value_byte u ++ out (at es last n up 0 bs) x
kept_bytes [] es last n up bs x = refl
kept_bytes (b ∷ u) es last n up bs x = ap (λ (y : List Atom). value_byte b ∷ y) (kept_bytes u es last n up bs x)

pub kept_fragments : (values : List (List ℕ)) (es : List Edit) (last : Option Tag) (n : ℕ) (up : List Level) (bs : List Bool) (x : List Atom)
    → out (at es last n up 0 bs) (fragments_then values x) ≡ fragments_then values (out (at es last n up 0 bs) x)
unfolding fragments_then
kept_fragments [] es last n up bs x = refl
kept_fragments (value ∷ values) es last n up bs x =
    ap (λ (y : List Atom). opens_fragment (length value) ∷ y)
    (kept_bytes value es last n up bs (closes_leaf ∷ fragments_then values x)
    ∙ ap (λ (y : List Atom). map value_byte value ++ closes_leaf ∷ y) (kept_fragments values es last n up bs x))

-- ---- new elements before others

pub new_before : (b c : Trees) (x y z : List Atom) → Own b → ShowTrees c (x ++ y) z → ShowTrees (then_trees b c) (trees_then Little b x ++ y) z
new_before b c x y z o p =
    subst (λ (w : List Atom). ShowTrees (then_trees b c) w z) (sym (own_more b x y o)) (shown_after b c _ (x ++ y) z (own_shown b (x ++ y) o) p)

-- a leaf in the place of an element
pub leaf_instead : (tag : Tag) (vr : Vr) (value : List ℕ) (k : Trees) (x y z : List Atom) → form Little vr (Known 0) ≡ a_value → x ≡ y → ShowTrees k y z
    → ShowTrees (leaf tag vr value k) (trees_then Little (leaf tag vr value no_tree) [] ++ x) z
leaf_instead tag vr value k x y z h e p =
    new_before (leaf tag vr value no_tree) k [] x z (h, tt) (subst (λ (w : List Atom). ShowTrees k w z) (sym e) p)

-- ---- one element, by its fate

leaf_by : (f : Fate) (es : List Edit) (tag : Tag) (vr : Vr) (value : List ℕ) (s : Syntax) (up : List Level) (bs : List Bool) (others z : List Atom) (k : Trees) → FateHas f
    → form s (read_as s tag vr) (Known (length value)) ≡ a_value → ShowTrees k (out (at es (Some tag) 0 up 0 bs) others) z
    → ShowTrees (settled f tag (leaf tag vr value) k)
    (head_by f tag (opens tag vr (Known (length value)) s) ++ out (at es (Some tag) 0 up (dropped_unbounded 0 (acts f)) bs) (map value_byte (order s vr value) ++ closes_leaf ∷ others)) z
unfolding ShowTrees
leaf_by stays es tag vr value s up bs others z k h fo p = (
  s,
  out (at es (Some tag) 0 up 0 bs) others,
  fo,
  ap (λ (y : List Atom). opens tag vr (Known (length value)) s ∷ y) (kept_bytes (order s vr value) es (Some tag) 0 up bs (closes_leaf ∷ others)),
  p,
)
leaf_by (becomes w new) es tag vr value s up bs others z k h fo p =
    leaf_instead tag w new k _ _ z h (dropped_bytes (order s vr value) es (Some tag) 0 up 0 bs (closes_leaf ∷ others)) p
leaf_by goes es tag vr value s up bs others z k h fo p =
    subst (λ (x : List Atom). ShowTrees k x z) (sym (dropped_bytes (order s vr value) es (Some tag) 0 up 0 bs (closes_leaf ∷ others))) p

sequence_by : (f : Fate) (es : List Edit) (tag : Tag) (vr : Vr) (declared : Length) (items : Items) (n : ℕ) (s : Syntax) (up : List Level) (bs cs : List Bool) (contents others z : List Atom) (k : Trees)
    → FateHas f → form s (read_as s tag vr) declared ≡ a_sequence
    → ShowItems items (out (at es (Some tag) 0 up 0 bs) contents) (out (at es (Some tag) n up 0 cs) (closes_sequence ∷ others))
    → out (at es (Some tag) 0 up 1 bs) contents ≡ out (at es (Some tag) n up 1 cs) (closes_sequence ∷ others)
    → ShowTrees k (out (at es (Some tag) n up 0 cs) others) z
    → ShowTrees (settled f tag (sequence tag vr declared items) k) (head_by f tag (opens tag vr declared s) ++ out (at es (Some tag) 0 up (dropped_unbounded 0 (acts f)) bs) contents) z
unfolding ShowTrees
sequence_by stays es tag vr declared items n s up bs cs contents others z k h fo inner skip p =
    (s, out (at es (Some tag) 0 up 0 bs) contents, out (at es (Some tag) n up 0 cs) others, fo, refl, inner, p)
sequence_by (becomes w new) es tag vr declared items n s up bs cs contents others z k h fo inner skip p = leaf_instead tag w new k _ _ z h skip p
sequence_by goes es tag vr declared items n s up bs cs contents others z k h fo inner skip p =
    subst (λ (x : List Atom). ShowTrees k x z) (sym skip) p

fragments_by : (f : Fate) (es : List Edit) (tag : Tag) (vr : Vr) (values : List (List ℕ)) (s : Syntax) (up : List Level) (bs : List Bool) (others z : List Atom) (k : Trees) → FateHas f
    → form s (read_as s tag vr) Undefined ≡ a_fragment_list → ShowTrees k (out (at es (Some tag) 0 up 0 bs) others) z
    → ShowTrees (settled f tag (fragments tag vr values) k)
    (head_by f tag (opens tag vr Undefined s) ++ out (at es (Some tag) 0 up (dropped_unbounded 0 (acts f)) bs) (fragments_then values (closes_sequence ∷ others))) z
unfolding ShowTrees
fragments_by stays es tag vr values s up bs others z k h fo p = (
  s,
  out (at es (Some tag) 0 up 0 bs) others,
  fo,
  ap (λ (y : List Atom). opens tag vr Undefined s ∷ y) (kept_fragments values es (Some tag) 0 up bs (closes_sequence ∷ others)),
  p,
)
fragments_by (becomes w new) es tag vr values s up bs others z k h fo p =
    leaf_instead tag w new k _ _ z h (dropped_fragments values es (Some tag) 0 up 0 bs (closes_sequence ∷ others)) p
fragments_by goes es tag vr values s up bs others z k h fo p =
    subst (λ (x : List Atom). ShowTrees k x z) (sym (dropped_fragments values es (Some tag) 0 up 0 bs (closes_sequence ∷ others))) p

-- an item, kept or erased
item_by : (b : Bool) (es inner : List Edit) (tag : Tag) (n m : ℕ) (declared : Length) (set put : Trees) (rest : Items) (last : Option Tag) (up : List Level) (bs cs : List Bool) (contents others z : List Atom)
    → Own put → put ≡ puts (above_last last) inner no_tree
    → ShowTrees set (out (at inner None 0 (level es (Some tag) (suc n) ∷ up) 0 bs) contents) (out (at inner last m (level es (Some tag) (suc n) ∷ up) 0 cs) (closes_item ∷ others))
    → out (at inner None 0 (level es (Some tag) (suc n) ∷ up) 1 bs) contents ≡ out (at inner last m (level es (Some tag) (suc n) ∷ up) 1 cs) (closes_item ∷ others)
    → ShowItems rest (out (at es (Some tag) (suc n) up 0 (either cs (map (end_seen last) inner))) others) z
    → ShowItems (if b then rest else item declared (then_trees set put) rest)
    ((if b then [] else opens_item declared ∷ []) ++ out (at inner None 0 (level es (Some tag) (suc n) ∷ up) (dropped_unbounded 0 b) bs) contents) z
unfolding ShowItems
item_by true es inner tag n m declared set put rest last up bs cs contents others z o e shown skip p =
    subst (λ (x : List Atom). ShowItems rest x z) (sym skip) p
item_by false es inner tag n m declared set put rest last up bs cs contents others z o e shown skip p =
    let behind : List Atom = out (at es (Some tag) (suc n) up 0 (either cs (map (end_seen last) inner))) others in
    let put_shown : ShowTrees put (trees_then Little (puts (above_last last) inner no_tree) (closes_item ∷ []) ++ behind) (closes_item ∷ behind) =
    subst (λ (x : List Atom). ShowTrees put x (closes_item ∷ behind))
    (sym (ap (λ (t : Trees). trees_then Little t (closes_item ∷ []) ++ behind) (sym e) ∙ own_more put (closes_item ∷ []) behind o))
    (own_shown put (closes_item ∷ behind) o) in (
      out (at inner None 0 (level es (Some tag) (suc n) ∷ up) 0 bs) contents,
      behind,
      refl,
      shown_after set put _ _ _ shown put_shown,
      p,
    )

-- ---- all elements

-- the found bits after a sequence
pub seen_sequence : (bs : List Bool) (es : List Edit) (last : Option Tag) (tag : Tag) (vr : Vr) (declared : Length) (items : Items) (rest : Trees)
    → either (either (either bs (map (λ e. head_seen e last tag) es)) (map (λ e. seen_items e tag 0 items) es)) (map (λ e. seen e (Some tag) rest) es)
    ≡ either bs (map (λ e. seen e last (sequence tag vr declared items rest)) es)
seen_sequence bs es last tag vr declared items rest =
    ap (λ (y : List Bool). either y (map (λ e. seen e (Some tag) rest) es)) (either_twice bs es (λ e. head_seen e last tag) (λ e. seen_items e tag 0 items) (λ e. head_seen e last tag || seen_items e tag 0 items) (λ e. refl))
    ∙ either_twice bs es (λ e. head_seen e last tag || seen_items e tag 0 items) (λ e. seen e (Some tag) rest) (λ e. seen e last (sequence tag vr declared items rest)) (λ e. refl)

pub moved_trees : (t : Trees) (x y z w : List Atom) → x ≡ y → z ≡ w → ShowTrees t y z → ShowTrees t x w
moved_trees t x y z w p q shown = subst (λ (u : List Atom). ShowTrees t x u) q (subst (λ (u : List Atom). ShowTrees t u z) (sym p) shown)

pub moved_items : (t : Items) (x y z w : List Atom) → x ≡ y → z ≡ w → ShowItems t y z → ShowItems t x w
moved_items t x y z w p q shown = subst (λ (u : List Atom). ShowItems t x u) q (subst (λ (u : List Atom). ShowItems t u z) (sym p) shown)

mutual
  unfolding ShowTrees last_tag

  pub trees_pass : (set : Trees) (es : List Edit) (last : Option Tag) (n : ℕ) (up : List Level) (bs : List Bool) (atoms after : List Atom) → HaveValues es → ShowTrees set atoms after
      → ShowTrees (kept es last set) (out (at es last n up 0 bs) atoms) (out (at es (last_tag last set) (last_count n set) up 0 (either bs (map (λ e. seen e last set) es))) after)
  trees_pass no_tree es last n up bs atoms after h p =
      ap (λ (x : List Atom). out (at es last n up 0 bs) x) p
      ∙ ap (λ (y : List Bool). out (at es last n up 0 y) after) (sym (either_none bs es))
  trees_pass (leaf tag vr value rest) es last n up bs atoms after h (s, others, fo, is, more) =
      let bs1 : List Bool = either bs (map (λ e. head_seen e last tag) es) in
      let b : Trees = puts (is_between last tag) es no_tree in
      let shown = trees_pass rest es (Some tag) 0 up bs1 others after h more in
      let seen : either bs1 (map (λ e. seen e (Some tag) rest) es) ≡ either bs (map (λ e. seen e last (leaf tag vr value rest)) es) =
      either_twice bs es (λ e. head_seen e last tag) (λ e. seen e (Some tag) rest) (λ e. seen e last (leaf tag vr value rest)) (λ e. refl) in
      moved_trees (kept es last (leaf tag vr value rest)) _ _ _ _ (ap (λ (x : List Atom). out (at es last n up 0 bs) x) is)
      (ap (λ (y : List Bool). out (at es (last_tag (Some tag) rest) (last_count 0 rest) up 0 y) after) seen)
      ((new_before b _ _ _ _ (own_puts (is_between last tag) es no_tree h tt)
      (leaf_by (first_fate es tag) es tag vr value s up bs1 others _ (kept es (Some tag) rest) (first_fate_has es tag h) fo shown)))
  trees_pass (sequence tag vr declared items rest) es last n up bs atoms after h (s, contents, others, fo, is, inner, more) =
      let bs1 : List Bool = either bs (map (λ e. head_seen e last tag) es) in
      let bs2 : List Bool = either bs1 (map (λ e. seen_items e tag 0 items) es) in
      let b : Trees = puts (is_between last tag) es no_tree in
      let held = items_pass items es tag 0 up bs1 contents (closes_sequence ∷ others) h inner in
      let skip = dropped_items items es tag 0 up 0 bs1 contents (closes_sequence ∷ others) inner in
      let shown = trees_pass rest es (Some tag) (items_after 0 items) up bs2 others after h more in
      moved_trees (kept es last (sequence tag vr declared items rest)) _ _ _ _ (ap (λ (x : List Atom). out (at es last n up 0 bs) x) is)
      (ap (λ (y : List Bool). out (at es (last_tag (Some tag) rest) (last_count (items_after 0 items) rest) up 0 y) after) (seen_sequence bs es last tag vr declared items rest))
      ((new_before b _ _ _ _ (own_puts (is_between last tag) es no_tree h tt)
      (sequence_by (first_fate es tag) es tag vr declared (kept_items es tag 0 items) (items_after 0 items) s up bs1 bs2 contents others _ (kept es (Some tag) rest) (first_fate_has es tag h) fo held skip shown)))
  trees_pass (fragments tag vr values rest) es last n up bs atoms after h (s, others, fo, is, more) =
      let bs1 : List Bool = either bs (map (λ e. head_seen e last tag) es) in
      let b : Trees = puts (is_between last tag) es no_tree in
      let shown = trees_pass rest es (Some tag) 0 up bs1 others after h more in
      let seen : either bs1 (map (λ e. seen e (Some tag) rest) es) ≡ either bs (map (λ e. seen e last (fragments tag vr values rest)) es) =
      either_twice bs es (λ e. head_seen e last tag) (λ e. seen e (Some tag) rest) (λ e. seen e last (fragments tag vr values rest)) (λ e. refl) in
      moved_trees (kept es last (fragments tag vr values rest)) _ _ _ _ (ap (λ (x : List Atom). out (at es last n up 0 bs) x) is)
      (ap (λ (y : List Bool). out (at es (last_tag (Some tag) rest) (last_count 0 rest) up 0 y) after) seen)
      ((new_before b _ _ _ _ (own_puts (is_between last tag) es no_tree h tt)
      (fragments_by (first_fate es tag) es tag vr values s up bs1 others _ (kept es (Some tag) rest) (first_fate_has es tag h) fo shown)))

  pub items_pass : (items : Items) (es : List Edit) (tag : Tag) (n : ℕ) (up : List Level) (bs : List Bool) (atoms after : List Atom) → HaveValues es → ShowItems items atoms after
      → ShowItems (kept_items es tag n items) (out (at es (Some tag) n up 0 bs) atoms)
      (out (at es (Some tag) (items_after n items) up 0 (either bs (map (λ e. seen_items e tag n items) es))) after)
  items_pass no_item es tag n up bs atoms after h p =
      ap (λ (x : List Atom). out (at es (Some tag) n up 0 bs) x) p
      ∙ ap (λ (y : List Bool). out (at es (Some tag) n up 0 y) after) (sym (either_none bs es))
  items_pass (item declared set rest) es tag n up bs atoms after h (contents, others, is, inner, more) =
      let es1 : List Edit = all_within es tag n in
      let bs1 : List Bool = either bs (map (λ e. item_seen e tag n) es) in
      let cs : List Bool = either bs1 (map (λ e. seen e None set) es1) in
      let bs2 : List Bool = either cs (map (end_seen (last_tag None set)) es1) in
      let has : HaveValues es1 = all_within_have es tag n h in
      let put : Trees = puts (above_last (last_tag None set)) es1 no_tree in
      let held = trees_pass set es1 None 0 (level es (Some tag) (suc n) ∷ up) bs1 contents (closes_item ∷ others) has inner in
      let skip = dropped_trees set es1 None 0 (level es (Some tag) (suc n) ∷ up) 0 bs1 contents (closes_item ∷ others) inner in
      let shown = items_pass rest es tag (suc n) up bs2 others after h more in
      moved_items (kept_items es tag n (item declared set rest)) _ _ _ _ (ap (λ (x : List Atom). out (at es (Some tag) n up 0 bs) x) is)
      (ap (λ (y : List Bool). out (at es (Some tag) (items_after (suc n) rest) up 0 y) after) (seen_item bs es tag n declared set rest))
      ((item_by (any_erases es tag n) es es1 tag n (last_count 0 set) declared (kept es1 None set) put (kept_items es tag (suc n) rest) (last_tag None set) up bs1 cs contents others _
      (own_puts (above_last (last_tag None set)) es1 no_tree has tt) refl held skip shown))
