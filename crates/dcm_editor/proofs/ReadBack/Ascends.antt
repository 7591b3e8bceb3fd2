-- A data set whose heads are each above the last one of their data set ascends.
use Rattle.std.proofs.Common.{◌≡◌, refl, subst, ℕ, List, [], ◌∷◌, ◌++◌, Option, Some, None, Bool, true, false}
use Rattle.std.specs.Prelude.{map}
use Rattle.dcm_base.specs.declared.tag.Tag.{Tag}
use Rattle.dcm_base.specs.Tables.Tag.{below, is_above}
use Rattle.dcm_base.specs.Tree.Tree.{Trees, no_tree, leaf, sequence, fragments, Items, no_item, item}
use Rattle.dcm_base.specs.Tree.Front.{Front, front, OpenTree, nothing_open, open_leaf, open_sequence, open_fragments, OpenItem, no_open_item, open_item}
use Rattle.dcm_base.specs.Lines.Ascending.{Ascend, ItemsAscend, AllBelow, ReachedLast, FrontAscends, OpenAscends, OpenItemAscends}
use Rattle.dcm_base.specs.Tree.Value.{order}
use Rattle.dcm_base.specs.Bytes.Spelling.{last_tag, reached_tag}
use Rattle.dcm_base.specs.Steps.Atoms.{Atom, value_byte, closes_leaf, closes_item, closes_sequence, fragments_then, end_atoms, MayEnd, ShowTrees, ShowItems, Shows, ShowsOpen, ShowsOpenItem}
use Rattle.dcm_base.proofs.Dictionaries.TagOrder.{below_trans}
use Rattle.dcm_editor.proofs.ReadBack.Rises.{Rises}

-- ---- tags below one that is above the last

last_below : (t tag : Tag) (set : Trees) → Ascend (Some t) set → is_above tag (last_tag (Some t) set) ≡ true → below t tag ≡ true
unfolding last_tag
last_below t tag no_tree a h = h
last_below t tag (leaf u vr value rest) a h = below_trans t u tag a.0 (last_below u tag rest a.1 h)
last_below t tag (sequence u vr declared items rest) a h = below_trans t u tag a.0 (last_below u tag rest a.2 h)
last_below t tag (fragments u vr values rest) a h = below_trans t u tag a.0 (last_below u tag rest a.1 h)

all_below : (last : Option Tag) (tag : Tag) (set : Trees) → Ascend last set → is_above tag (last_tag last set) ≡ true → AllBelow tag set
unfolding last_tag
all_below last tag no_tree a h = tt
all_below last tag (leaf u vr value rest) a h = (last_below u tag rest a.1 h, all_below (Some u) tag rest a.1 h)
all_below last tag (sequence u vr declared items rest) a h = (last_below u tag rest a.2 h, all_below (Some u) tag rest a.2 h)
all_below last tag (fragments u vr values rest) a h = (last_below u tag rest a.1 h, all_below (Some u) tag rest a.1 h)

-- ---- what rises after parts of a data set

moved : (st : List (Option Tag)) (x y : List Atom) → x ≡ y → Rises st x → Rises st y
moved st x y e h = subst (λ (z : List Atom). Rises st z) e h

after_bytes : (r : Option Tag) (st : List (Option Tag)) (v : List ℕ) (others : List Atom) → Rises (r ∷ st) (map value_byte v ++ others) → Rises (r ∷ st) others
after_bytes r st [] others h = h
after_bytes r st (b ∷ v) others h = after_bytes r st v others h.1

after_fragments : (r : Option Tag) (st : List (Option Tag)) (values : List (List ℕ)) (others : List Atom) → Rises (r ∷ st) (fragments_then values others) → Rises (r ∷ st) others
unfolding fragments_then
after_fragments r st [] others h = h
after_fragments r st (v ∷ values) others h = after_fragments r st values others (after_bytes r st v (closes_leaf ∷ fragments_then values others) h.1).1

mutual
  unfolding ShowTrees last_tag

  trees_ascend : (x : Trees) (atoms after : List Atom) (r : Option Tag) (st : List (Option Tag)) → ShowTrees x atoms after → Rises (r ∷ st) atoms → Ascend r x × Rises (last_tag r x ∷ st) after
  trees_ascend no_tree atoms after r st w h = (tt, moved (r ∷ st) atoms after w h)
  trees_ascend (leaf tag vr value rest) atoms after r st (s, others, fo, is, w) h =
      let k = moved (r ∷ st) atoms _ is h in
      let more = trees_ascend rest others after (Some tag) st w (after_bytes (Some tag) st (order s vr value) (closes_leaf ∷ others) k.1).1 in
      ((k.0, more.0), more.1)
  trees_ascend (sequence tag vr declared items rest) atoms after r st (s, contents, others, fo, is, inner, w) h =
      let k = moved (r ∷ st) atoms _ is h in
      let held = items_ascend items contents (closes_sequence ∷ others) (Some tag) st inner k.1 in
      let more = trees_ascend rest others after (Some tag) st w held.1.1 in
      ((k.0, held.0, more.0), more.1)
  trees_ascend (fragments tag vr values rest) atoms after r st (s, others, fo, is, w) h =
      let k = moved (r ∷ st) atoms _ is h in
      let more = trees_ascend rest others after (Some tag) st w (after_fragments (Some tag) st values (closes_sequence ∷ others) k.1).1 in
      ((k.0, more.0), more.1)

  items_ascend : (x : Items) (atoms after : List Atom) (r : Option Tag) (st : List (Option Tag)) → ShowItems x atoms after → Rises (r ∷ st) atoms → ItemsAscend x × Rises (r ∷ st) after
  items_ascend no_item atoms after r st w h = (tt, moved (r ∷ st) atoms after w h)
  items_ascend (item declared set rest) atoms after r st (contents, others, is, inner, w) h =
      let k = moved (r ∷ st) atoms _ is h in
      let held = trees_ascend set contents (closes_item ∷ others) None (r ∷ st) inner k.1 in
      let more = items_ascend rest others after r st w held.1.1 in
      ((held.0, more.0), more.1)

-- ---- a data set as far as it was read

not_ended : (o : OpenTree) (closed : Bool) → MayEnd o closed → (o ≡ nothing_open → ⊥) → closed ≡ false
not_ended o true may not_nothing = absurd (not_nothing may)
not_ended o false may not_nothing = refl

reached_last : (tag : Tag) (whole : Trees) (reached : Option Tag) (closed : Bool) → Ascend None whole → is_above tag (last_tag None whole) ≡ true → reached ≡ Some tag → closed ≡ false → ReachedLast tag whole reached closed
reached_last tag whole reached closed a h e c = record { above = all_below None tag whole a h; last = e; unfinished = c }

mutual
  unfolding Shows

  pub front_ascends : (f : Front) (atoms : List Atom) (st : List (Option Tag)) → Shows f atoms → Rises (None ∷ st) atoms → FrontAscends f
  front_ascends (front whole o reached closed) atoms st (others, w, shown, may, re) h =
      let held = trees_ascend whole atoms others None st w h in
      (held.0, open_ascends o whole reached closed others st held.0 shown may re held.1)

  open_ascends : (o : OpenTree) (whole : Trees) (reached : Option Tag) (closed : Bool) (atoms : List Atom) (st : List (Option Tag)) → Ascend None whole → ShowsOpen o (end_atoms closed) atoms → MayEnd o closed → reached ≡ reached_tag whole o
      → Rises (last_tag None whole ∷ st) atoms → OpenAscends whole reached closed o
  open_ascends nothing_open whole reached closed atoms st a w may re h = tt
  open_ascends (open_leaf tag vr size value) whole reached closed atoms st a (s, fo, le, is) may re h =
      reached_last tag whole reached closed a (moved (last_tag None whole ∷ st) atoms _ is h).0 re (not_ended _ closed may (λ e. cc))
  open_ascends (open_sequence tag vr declared items last) whole reached closed atoms st a (s, contents, others, fo, is, inner, w) may re h =
      let k = moved (last_tag None whole ∷ st) atoms _ is h in
      let held = items_ascend items contents others (Some tag) st inner k.1 in
      (reached_last tag whole reached closed a k.0 re (not_ended _ closed may (λ e. cc)), held.0, open_item_ascends last others (Some tag) st w held.1)
  open_ascends (open_fragments tag vr values last) whole reached closed atoms st a (s, fo, mi, is) may re h =
      reached_last tag whole reached closed a (moved (last_tag None whole ∷ st) atoms _ is h).0 re (not_ended _ closed may (λ e. cc))

  open_item_ascends : (o : OpenItem) (atoms : List Atom) (r : Option Tag) (st : List (Option Tag)) → ShowsOpenItem o atoms → Rises (r ∷ st) atoms → OpenItemAscends o
  open_item_ascends no_open_item atoms r st w h = tt
  open_item_ascends (open_item declared set) atoms r st (contents, is, still, w) h =
      front_ascends set contents (r ∷ st) w (moved (r ∷ st) atoms _ is h).1
