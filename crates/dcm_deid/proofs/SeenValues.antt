-- What the sink has seen of the values of a data set: whether one says that the pixels may show identity, and how many dates were emptied.
use Rattle.std.proofs.Common.{◌≡◌, ◌≤◌, ◌<◌, ℕ, zero, suc, ◌+◌, List, [], ◌∷◌, ◌++◌, length, map, take, drop, fold, Option, Some, None, Bool, true, false, ◌||◌, ◌&&◌, not, refl, sym, ap, subst, ◌∙◌, arith}
use Rattle.std.proofs.lemmas.Bool.{cases_Bool}
use Rattle.std.proofs.lemmas.List.{length-take, length-drop, take-append-drop}
use mathlib.Core.Logic.{⊎_elim}
use Rattle.std.specs.Prelude.{if◌then◌else◌, codes, bytes_eq}
use Rattle.dcm_lemmas.proofs.Lists.{bytes_same}
use Rattle.dcm_base.specs.declared.tag.Tag.{Tag}
use Rattle.dcm_base.specs.declared.vr.Vr.{Vr}
use Rattle.dcm_base.specs.declared.syntax.Syntax.{Syntax}
use Rattle.dcm_base.specs.declared.length.Length.{Length}
use Rattle.dcm_base.specs.declared.length.Length.TheVariants.{Known, Undefined}
use Rattle.dcm_base.specs.declared.form.Form.{Form}
use Rattle.dcm_base.specs.declared.form.Form.TheVariants.{Value as a_value, Sequence as a_sequence, FragmentList as a_fragment_list}
use Rattle.dcm_base.specs.Tables.Dictionary as D
use Rattle.dcm_base.specs.Tables.Tag.{is_tag, below}
use Rattle.dcm_base.specs.Tables.Transfer.{without_pads}
use Rattle.dcm_base.specs.Bytes.Spelling.{form, read_as, last_tag}
use Rattle.dcm_base.specs.Tree.Tree.{Trees, no_tree, leaf, sequence, fragments, Items, no_item, item, then_trees}
use Rattle.dcm_base.specs.Tree.Front.{Front, front, OpenTree}
use Rattle.dcm_base.specs.Tree.Value.{order}
use Rattle.dcm_base.specs.Steps.Atoms.{Atom, opens, value_byte, closes_leaf, opens_item, closes_item, closes_sequence, fragments_then, ShowTrees, ShowItems, Shows}
use Rattle.dcm_base.proofs.Conversions.Order.{order_twice}
use Rattle.dcm_base.proofs.Dictionaries.TagOrder.{tag_is}
use Rattle.dcm_sinks.proofs.Dumps.OpenLists.{stays_bytes, stays_on, stays_same}
use Rattle.dcm_sinks.specs.Laws.{StaysShallow}
use Rattle.dcm_deid.specs.MadeNew.{made_new}
use Rattle.dcm_deid.specs.declared.fate.Options.{Options}
use Rattle.dcm_deid.specs.declared.fate.Fate.{Fate}
use Rattle.dcm_deid.specs.declared.fate.Fate.TheVariants.{Remove, Empty, Replace, Anew, Keep}
use Rattle.dcm_deid.specs.declared.fate.Depth.{Depth}
use Rattle.dcm_deid.specs.declared.fate.Depth.TheVariants.{Outermost, Inside}
use Rattle.dcm_deid.specs.declared.fate.ReadAs.TheVariants.{AsBytes}
use Rattle.dcm_deid.specs.Fate.{actions, fate_as, are_left}
use Rattle.dcm_deid.specs.Deidentify.{value_by, leaf_by, sequence_by, fragments_by, by_fate, items_by_fate}
use Rattle.dcm_deid.specs.declared.deidentifier.Seen.{Seen}
use Rattle.dcm_deid.specs.declared.fate.NewValue.{NewValue}
use Rattle.dcm_deid.specs.Emptied.{emptied, emptied_in_items, empties, inside_kept, one_if}
use Rattle.dcm_deid.specs.DeidentifySink.{Held, State, next, nothing_held, held_with, held_if, is_emptied, is_yes, depth_of, counted, seen_after}
use Rattle.dcm_deid.specs.Pixels.{says_of_pixels, means_yes, may_show, may_show_in}
use Rattle.dcm_deid.proofs.Dropped.{at, Same, drop_value, drop_close, drop_fragments, drop_items, stays_here, head_stays, fragments_stay, trees_stay, items_stay, entered}
use Rattle.dcm_deid.proofs.EmptiedValues.{emptied_is}
use Rattle.dcm_deid.proofs.HeldValues.{longer_after, held_whole, pads_gone, pads_after, some_left, more_left, some_more}
use Rattle.dcm_deid.proofs.Kept.{judged_state, fate_here, held_at}

-- ---- a held value

too_long : (b : Bool) (v : List ℕ) → b ≡ bytes_eq v (codes "YES") → 256 < length v → false ≡ b
too_long true v e h = absurd (let s = bytes_same v (codes "YES") (sym e) in omega (arith, h, ap length s))
too_long false v e h = refl

by_length : (v : List ℕ) (longer : Bool) → longer ≡ longer_after false (drop 256 v) → (not longer && means_yes (take 256 v)) ≡ means_yes v
by_length v false e =
    ap (λ (x : List ℕ). bytes_eq x (codes "YES"))
    (sym (pads_after (take 256 v) (drop 256 v) (pads_gone (drop 256 v) false (sym e)).1) ∙ ap without_pads (take-append-drop 256 v))
by_length v true e =
    let some : 0 < length (drop 256 v) = some_more (drop 256 v) (sym e) in
    let full : length (take 256 v) ≡ 256 = omega (arith, length-take 256 v, length-drop 256 v, some) in
    let long : length (take 256 v) < length (without_pads v) =
    subst (λ (x : List ℕ). length (take 256 v) < length (without_pads x)) (take-append-drop 256 v) (more_left (take 256 v) (drop 256 v) (some_left (drop 256 v) (sym e))) in
    too_long (means_yes v) (without_pads v) refl (omega (arith, full, long))

yes_is : (fate : Fate) (tag : Tag) (vr : Vr) (s : Syntax) (v : List ℕ) → is_yes (fold held_with (nothing_held fate tag vr s) (order s vr v)) ≡ means_yes v
yes_is fate tag vr s v =
    ap is_yes (held_whole fate tag vr s v)
    ∙ ap (λ (x : List ℕ). not (longer_after false (drop 256 v)) && means_yes x) (order_twice s vr (take 256 v))
    ∙ by_length v (longer_after false (drop 256 v)) refl

-- ---- what says of the pixels is kept

burned_in : (o : Options) (depth : Depth) → fate_as o depth AsBytes (record { group = 0x0028; element = 0x0301 }) ≡ Keep
unfolding fate_as D.vr_in D.element_in D.elements_in D.entries D.ambiguous actions
burned_in o Outermost = refl
burned_in o Inside = refl

recognizable : (o : Options) (depth : Depth) → fate_as o depth AsBytes (record { group = 0x0028; element = 0x0302 }) ≡ Keep
unfolding fate_as D.vr_in D.element_in D.elements_in D.entries D.ambiguous actions
recognizable o Outermost = refl
recognizable o Inside = refl

at_tag : (o : Options) (depth : Depth) (tag other : Tag) → tag ≡ other → fate_as o depth AsBytes other ≡ Keep → fate_as o depth AsBytes tag ≡ Keep
at_tag o depth tag other e h = subst (λ (t : Tag). fate_as o depth AsBytes t ≡ Keep) (sym e) h

pixels_stay : (o : Options) (depth : Depth) (tag : Tag) → says_of_pixels tag ≡ true → fate_as o depth AsBytes tag ≡ Keep
pixels_stay o depth tag says =
    ⊎_elim
    (λ (first : is_tag 0x0028 0x0301 tag ≡ true). at_tag o depth tag (record { group = 0x0028; element = 0x0301 }) (tag_is tag (record { group = 0x0028; element = 0x0301 }) first) (burned_in o depth))
    (λ (other : is_tag 0x0028 0x0301 tag ≡ false).
    at_tag o depth tag (record { group = 0x0028; element = 0x0302 }) (tag_is tag (record { group = 0x0028; element = 0x0302 }) (second _ _ other says)) (recognizable o depth))
    (cases_Bool (is_tag 0x0028 0x0301 tag))
  where
    second : (a b : Bool) → a ≡ false → (a || b) ≡ true → b ≡ true
    second true b p q = cc
    second false b p q = q

-- so one that is not kept says nothing of them
not_said : (b : Bool) (f : Fate) → (b ≡ true → f ≡ Keep) → (f ≡ Keep → ⊥) → b ≡ false
not_said true f h other = absurd (other (h refl))
not_said false f h other = refl

-- ---- one element, by its fate

abbrev leaf_says : Fate → Tag → List ℕ → Bool
leaf_says Remove tag v = false
leaf_says Empty tag v = says_of_pixels tag && means_yes v
leaf_says Replace tag v = says_of_pixels tag && means_yes v
leaf_says (Anew made) tag v = says_of_pixels tag && means_yes v
leaf_says Keep tag v = says_of_pixels tag && means_yes v

leaf_tells : (fate : Fate) (tag : Tag) (vr : Vr) (v : List ℕ) (x : Trees) → may_show (leaf_by fate tag vr v x) ≡ (leaf_says fate tag v || may_show x)
leaf_tells Remove tag vr v x = refl
leaf_tells Empty tag vr v x = refl
leaf_tells Replace tag vr v x = refl
leaf_tells (Anew made) tag vr v x = refl
leaf_tells Keep tag vr v x = refl

abbrev list_says : Fate → Items → Bool
list_says Keep items = may_show_in items
list_says _ items = false

list_tells : (fate : Fate) (tag : Tag) (vr : Vr) (items : Items) (x : Trees) → may_show (sequence_by fate tag vr items x) ≡ (list_says fate items || may_show x)
list_tells Remove tag vr items x = refl
list_tells Empty tag vr items x = refl
list_tells Replace tag vr items x = refl
list_tells (Anew made) tag vr items x = refl
list_tells Keep tag vr items x = refl

fragments_tell : (fate : Fate) (tag : Tag) (vr : Vr) (values : List (List ℕ)) (x : Trees) → may_show (fragments_by fate tag vr values x) ≡ may_show x
fragments_tell Remove tag vr values x = refl
fragments_tell Empty tag vr values x = refl
fragments_tell Replace tag vr values x = refl
fragments_tell (Anew made) tag vr values x = refl
fragments_tell Keep tag vr values x = refl

-- ---- the state after it

-- what was seen, with so many dates that were emptied, and a value that says something of the pixels or none
abbrev pub counted_by : (more : ℕ) → ℕ → ℕ
counted_by zero count = count
counted_by (suc more) count = counted_by more (counted true count)

abbrev seen_of : Bool → ℕ → Seen
seen_of says count = record { may_show = says; emptied = count }

abbrev pub seen_by : Seen → (says : Bool) → (more : ℕ) → Seen
seen_by m says more = seen_of (says || m.may_show) (counted_by more m.emptied)

in_turn : (a b m : Bool) → (b || (a || m)) ≡ ((a || b) || m)
in_turn true true m = refl
in_turn true false m = refl
in_turn false b m = refl

pub counted_twice : (a b count : ℕ) → counted_by b (counted_by a count) ≡ counted_by (a + b) count
counted_twice zero b count = let same : b ≡ 0 + b = omega arith in ap (λ (n : ℕ). counted_by n count) same
counted_twice (suc a) b count = let same : suc (a + b) ≡ suc a + b = omega arith in counted_twice a b (counted true count) ∙ ap (λ (n : ℕ). counted_by n count) same

seen_twice : (m : Seen) (one two : Bool) (a b : ℕ) → seen_by (seen_by m one a) two b ≡ seen_by m (one || two) (a + b)
seen_twice m one two a b =
    ap (λ (says : Bool). seen_of says (counted_by b (counted_by a m.emptied))) (in_turn one two m.may_show)
    ∙ ap (seen_of ((one || two) || m.may_show)) (counted_twice a b m.emptied)

counted_one : (is_one : Bool) (count : ℕ) → counted is_one count ≡ counted_by (one_if is_one) count
counted_one true count = refl
counted_one false count = refl

left_value : (o : Options) (k : List ℕ) (last : Option Tag) (outer : List (Option Tag)) (h : Held) (m : Seen) (v : List ℕ) (x : List Atom)
    → fold next (held_at o k last outer 1 (Some h) m) (map value_byte v ++ closes_leaf ∷ x) ≡ fold next (at o k last outer 0 (seen_after o 1 (Some (fold held_with h v)) m)) x
left_value o k last outer h m [] x = refl
left_value o k last outer h m (b ∷ v) x = left_value o k last outer (held_with h b) m v x

kept_held : (o : Options) (k : List ℕ) (last : Option Tag) (outer : List (Option Tag)) (h : Held) (m : Seen) (v : List ℕ) (x : List Atom)
    → fold next (held_at o k last outer 0 (Some h) m) (map value_byte v ++ closes_leaf ∷ x) ≡ fold next (at o k last outer 0 (seen_after o 0 (Some (fold held_with h v)) m)) x
kept_held o k last outer h m [] x = refl
kept_held o k last outer h m (b ∷ v) x = kept_held o k last outer (held_with h b) m v x

pub kept_value : (o : Options) (k : List ℕ) (last : Option Tag) (outer : List (Option Tag)) (m : Seen) (v : List ℕ) (x : List Atom)
    → fold next (at o k last outer 0 m) (map value_byte v ++ closes_leaf ∷ x) ≡ fold next (at o k last outer 0 m) x
kept_value o k last outer m [] x = refl
kept_value o k last outer m (b ∷ v) x = kept_value o k last outer m v x

kept_fragments : (o : Options) (k : List ℕ) (last : Option Tag) (outer : List (Option Tag)) (m : Seen) (values : List (List ℕ)) (x : List Atom)
    → fold next (at o k last outer 0 m) (fragments_then values (closes_sequence ∷ x)) ≡ fold next (at o k last outer 0 m) x
unfolding fragments_then
kept_fragments o k last outer m [] x = refl
kept_fragments o k last outer m (v ∷ values) x = kept_value o k last outer m v (fragments_then values (closes_sequence ∷ x)) ∙ kept_fragments o k last outer m values x

module _ (o : Options) (k : List ℕ) (outer : List (Option Tag)) (m : Seen) (tag : Tag) (vr : Vr) (s : Syntax) (others : List Atom) where
  abbrev Tells : State → List Atom → Bool → ℕ → Type 0
  Tells state atoms says more = fold next state atoms ≡ fold next (at o k (Some tag) outer 0 (seen_by m says more)) others

  abbrev row : List ℕ → List Atom
  row value = map value_byte (order s vr value) ++ closes_leaf ∷ others

  abbrev whole : Fate → List ℕ → Held
  whole fate value = fold held_with (nothing_held fate tag vr s) (order s vr value)

  seen_then : (a b : Seen) → a ≡ b → fold next (at o k (Some tag) outer 0 a) others ≡ fold next (at o k (Some tag) outer 0 b) others
  seen_then a b e = ap (λ (x : Seen). fold next (at o k (Some tag) outer 0 x) others) e

  nothing_said : (state : State) (atoms : List Atom) (other : Bool) (more : ℕ) → says_of_pixels tag ≡ false → Tells state atoms false more → Tells state atoms (says_of_pixels tag && other) more
  nothing_said state atoms other more e h = subst (λ (b : Bool). Tells state atoms (b && other) more) (sym e) h

  -- one that is kept is none that is emptied
  kept_seen : (value : List ℕ) → seen_after o 0 (Some (whole Keep value)) m ≡ seen_by m (means_yes value) 0
  kept_seen value =
      ap (λ (b : Bool). seen_of (b || m.may_show) (counted (is_emptied o (whole Keep value)) m.emptied)) (yes_is Keep tag vr s value)
      ∙ ap (λ (b : Bool). seen_of (means_yes value || m.may_show) (counted b m.emptied)) (emptied_is o k Keep tag vr s value)

  kept_leaf : (held : Bool) (value : List ℕ) → Tells (held_at o k (Some tag) outer 0 (held_if held Keep tag vr s) m) (row value) (held && means_yes value) 0
  kept_leaf true value =
      kept_held o k (Some tag) outer (nothing_held Keep tag vr s) m (order s vr value) others
      ∙ seen_then (seen_after o 0 (Some (whole Keep value)) m) (seen_by m (means_yes value) 0) (kept_seen value)
  kept_leaf false value = kept_value o k (Some tag) outer m (order s vr value) others

  -- one that is made anew says nothing of the pixels
  anew_seen : (made : NewValue) (value : List ℕ) → seen_after o 1 (Some (whole (Anew made) value)) m ≡ seen_by m false (one_if (empties (made_new o k) (Anew made) vr value))
  anew_seen made value =
      ap (λ (b : Bool). seen_of m.may_show (counted b m.emptied)) (emptied_is o k (Anew made) tag vr s value)
      ∙ ap (seen_of m.may_show) (counted_one (empties (made_new o k) (Anew made) vr value) m.emptied)

  anew_leaf : (made : NewValue) (value : List ℕ) → Tells (judged_state o k outer m tag vr s (Anew made) a_value) (row value) false (one_if (empties (made_new o k) (Anew made) vr value))
  anew_leaf made value =
      left_value o k (Some tag) outer (nothing_held (Anew made) tag vr s) m (order s vr value) others
      ∙ seen_then (seen_after o 1 (Some (whole (Anew made) value)) m) (seen_by m false (one_if (empties (made_new o k) (Anew made) vr value))) (anew_seen made value)

  leaf_told : (fate : Fate) (value : List ℕ) → (says_of_pixels tag ≡ true → fate ≡ Keep)
      → Tells (judged_state o k outer m tag vr s fate a_value) (row value) (leaf_says fate tag (value_by (made_new o k) fate vr value)) (one_if (empties (made_new o k) fate vr value))
  leaf_told Remove value stays = (drop_value o k (Some tag) outer 0 m (order s vr value) others).states
  leaf_told Empty value stays =
      nothing_said (judged_state o k outer m tag vr s Empty a_value) (row value) (means_yes (value_by (made_new o k) Empty vr value)) 0 (not_said (says_of_pixels tag) Empty stays (λ e. cc))
      (drop_value o k (Some tag) outer 0 m (order s vr value) others).states
  leaf_told Replace value stays =
      nothing_said (judged_state o k outer m tag vr s Replace a_value) (row value) (means_yes (value_by (made_new o k) Replace vr value)) 0 (not_said (says_of_pixels tag) Replace stays (λ e. cc))
      (drop_value o k (Some tag) outer 0 m (order s vr value) others).states
  leaf_told (Anew made) value stays =
      nothing_said (judged_state o k outer m tag vr s (Anew made) a_value) (row value) (means_yes (value_by (made_new o k) (Anew made) vr value)) (one_if (empties (made_new o k) (Anew made) vr value)) (not_said (says_of_pixels tag) (Anew made) stays (λ e. cc))
      (anew_leaf made value)
  leaf_told Keep value stays = kept_leaf (says_of_pixels tag) value

  list_told : (fate : Fate) (items : Items) (more : ℕ) (contents : List Atom)
      → Same (at o k (Some tag) outer 1 m) contents (at o k (Some tag) outer 1 m) (closes_sequence ∷ others)
      → fold next (at o k (Some tag) outer 0 m) contents ≡ fold next (at o k (Some tag) outer 0 (seen_by m (may_show_in items) more)) (closes_sequence ∷ others)
      → Tells (judged_state o k outer m tag vr s fate a_sequence) contents (list_says fate items) (inside_kept fate more)
  list_told Remove items more contents dropped kept = dropped.states ∙ (drop_close o k (Some tag) outer 0 m others).states
  list_told Empty items more contents dropped kept = dropped.states ∙ (drop_close o k (Some tag) outer 0 m others).states
  list_told Replace items more contents dropped kept = dropped.states ∙ (drop_close o k (Some tag) outer 0 m others).states
  list_told (Anew made) items more contents dropped kept = dropped.states ∙ (drop_close o k (Some tag) outer 0 m others).states
  list_told Keep items more contents dropped kept = kept

  fragments_told : (fate : Fate) (values : List (List ℕ))
      → Same (at o k (Some tag) outer 1 m) (fragments_then values (closes_sequence ∷ others)) (at o k (Some tag) outer 1 m) (closes_sequence ∷ others)
      → Tells (judged_state o k outer m tag vr s fate a_fragment_list) (fragments_then values (closes_sequence ∷ others)) false 0
  fragments_told Remove values dropped = dropped.states ∙ (drop_close o k (Some tag) outer 0 m others).states
  fragments_told Empty values dropped = dropped.states ∙ (drop_close o k (Some tag) outer 0 m others).states
  fragments_told Replace values dropped = dropped.states ∙ (drop_close o k (Some tag) outer 0 m others).states
  fragments_told (Anew made) values dropped = dropped.states ∙ (drop_close o k (Some tag) outer 0 m others).states
  fragments_told Keep values dropped = kept_fragments o k (Some tag) outer m values others

-- ---- a data set

pub head_state : (o : Options) (k : List ℕ) (last : Option Tag) (outer : List (Option Tag)) (m : Seen) (tag : Tag) (vr : Vr) (declared : Length) (s : Syntax) (x : List Atom) (f : Form) → form s (read_as s tag vr) declared ≡ f
    → fold next (at o k last outer 0 m) (opens tag vr declared s ∷ x) ≡ fold next (judged_state o k outer m tag vr s (fate_here o outer f tag) f) x
head_state o k last outer m tag vr declared s x f e = ap (λ (g : Form). fold next (judged_state o k outer m tag vr s (fate_here o outer g tag) g) x) e

mutual
  unfolding ShowTrees last_tag

  pub trees_tell : (t : Trees) (lists : ℕ) (o : Options) (k : List ℕ) (last : Option Tag) (outer : List (Option Tag)) (m : Seen) (atoms after : List Atom)
      → ShowTrees t atoms after → StaysShallow lists atoms → length outer ≡ lists
      → fold next (at o k last outer 0 m) atoms ≡ fold next (at o k (last_tag last t) outer 0 (seen_by m (may_show (by_fate (fate_as o) (value_by (made_new o k)) (depth_of outer) t)) (emptied (fate_as o) (made_new o k) (depth_of outer) t))) after
  trees_tell no_tree lists o k last outer m atoms after e h same = ap (fold next (at o k last outer 0 m)) e
  trees_tell (leaf tag vr value rest) lists o k last outer m atoms after (s, others, fo, is, more) h same =
      let there = stays_on lists closes_leaf others (stays_bytes lists (order s vr value) (closes_leaf ∷ others) (head_stays lists tag vr (Known (length value)) s a_value _ fo (stays_same lists atoms _ is h))) in
      let fate = fate_here o outer a_value tag in
      let now : List ℕ = value_by (made_new o k) fate vr value in
      let says : Bool = leaf_says fate tag now in
      let one : ℕ = one_if (empties (made_new o k) fate vr value) in
      let more_of : ℕ = emptied (fate_as o) (made_new o k) (depth_of outer) rest in
      let left : Trees = by_fate (fate_as o) (value_by (made_new o k)) (depth_of outer) rest in
      ap (fold next (at o k last outer 0 m)) is
      ∙ head_state o k last outer m tag vr (Known (length value)) s (map value_byte (order s vr value) ++ closes_leaf ∷ others) a_value fo
      ∙ leaf_told o k outer m tag vr s others fate value (pixels_stay o (depth_of outer) tag)
      ∙ trees_tell rest lists o k (Some tag) outer (seen_by m says one) others after more there same
      ∙ ap (λ (x : Seen). fold next (at o k (last_tag (Some tag) rest) outer 0 x) after)
      (seen_twice m says (may_show left) one more_of ∙ ap (λ (b : Bool). seen_by m b (one + more_of)) (sym (leaf_tells fate tag vr now left)))
  trees_tell (sequence tag vr declared items rest) lists o k last outer m atoms after (s, contents, others, fo, is, inner, more) h same =
      let within = head_stays lists tag vr declared s a_sequence contents fo (stays_same lists atoms _ is h) in
      let there = stays_on (suc lists) closes_sequence others (items_stay items (suc lists) contents (closes_sequence ∷ others) inner within) in
      let fate = fate_here o outer a_sequence tag in
      let now : Items = items_by_fate (fate_as o) (value_by (made_new o k)) items in
      let says : Bool = list_says fate now in
      let count : ℕ = emptied_in_items (fate_as o) (made_new o k) items in
      let one : ℕ = inside_kept fate count in
      let more_of : ℕ = emptied (fate_as o) (made_new o k) (depth_of outer) rest in
      let left : Trees = by_fate (fate_as o) (value_by (made_new o k)) (depth_of outer) rest in
      ap (fold next (at o k last outer 0 m)) is
      ∙ head_state o k last outer m tag vr declared s contents a_sequence fo
      ∙ list_told o k outer m tag vr s others fate now count contents
      (drop_items items (suc lists) o k (Some tag) outer 0 m contents (closes_sequence ∷ others) inner within (omega (arith, same)) (omega arith))
      (items_tell items (suc lists) o k (Some tag) outer m contents (closes_sequence ∷ others) inner within (omega (arith, same)))
      ∙ trees_tell rest lists o k (Some tag) outer (seen_by m says one) others after more there same
      ∙ ap (λ (x : Seen). fold next (at o k (last_tag (Some tag) rest) outer 0 x) after)
      (seen_twice m says (may_show left) one more_of ∙ ap (λ (b : Bool). seen_by m b (one + more_of)) (sym (list_tells fate tag vr now left)))
  trees_tell (fragments tag vr values rest) lists o k last outer m atoms after (s, others, fo, is, more) h same =
      let within = head_stays lists tag vr Undefined s a_fragment_list (fragments_then values (closes_sequence ∷ others)) fo (stays_same lists atoms _ is h) in
      let there = stays_on (suc lists) closes_sequence others (fragments_stay (suc lists) values (closes_sequence ∷ others) within) in
      let fate = fate_here o outer a_fragment_list tag in
      let left : Trees = by_fate (fate_as o) (value_by (made_new o k)) (depth_of outer) rest in
      ap (fold next (at o k last outer 0 m)) is
      ∙ head_state o k last outer m tag vr Undefined s (fragments_then values (closes_sequence ∷ others)) a_fragment_list fo
      ∙ fragments_told o k outer m tag vr s others fate values (drop_fragments o k (Some tag) outer 0 m values (closes_sequence ∷ others) (omega arith))
      ∙ trees_tell rest lists o k (Some tag) outer m others after more there same
      ∙ ap (λ (b : Bool). fold next (at o k (last_tag (Some tag) rest) outer 0 (seen_by m b (emptied (fate_as o) (made_new o k) (depth_of outer) rest))) after) (sym (fragments_tell fate tag vr values left))

  pub items_tell : (t : Items) (lists : ℕ) (o : Options) (k : List ℕ) (last : Option Tag) (outer : List (Option Tag)) (m : Seen) (atoms after : List Atom)
      → ShowItems t atoms after → StaysShallow lists atoms → suc (length outer) ≡ lists
      → fold next (at o k last outer 0 m) atoms ≡ fold next (at o k last outer 0 (seen_by m (may_show_in (items_by_fate (fate_as o) (value_by (made_new o k)) t)) (emptied_in_items (fate_as o) (made_new o k) t))) after
  items_tell no_item lists o k last outer m atoms after e h same = ap (fold next (at o k last outer 0 m)) e
  items_tell (item declared set rest) lists o k last outer m atoms after (contents, others, is, inner, more) h same =
      let most : lists ≤ 64 = stays_here lists atoms h in
      let within = stays_on lists (opens_item declared) contents (stays_same lists atoms _ is h) in
      let there = stays_on lists closes_item others (trees_stay set lists contents (closes_item ∷ others) inner within) in
      let says : Bool = may_show (by_fate (fate_as o) (value_by (made_new o k)) Inside set) in
      let one : ℕ = emptied (fate_as o) (made_new o k) Inside set in
      let left : Items = items_by_fate (fate_as o) (value_by (made_new o k)) rest in
      ap (fold next (at o k last outer 0 m)) is
      ∙ ap (λ (t : State). fold next t contents) (entered o k last outer 0 m declared (omega (arith, same, most)))
      ∙ trees_tell set lists o k None (last ∷ outer) m contents (closes_item ∷ others) inner within (omega (arith, same))
      ∙ items_tell rest lists o k last outer (seen_by m says one) others after more there same
      ∙ ap (λ (x : Seen). fold next (at o k last outer 0 x) after) (seen_twice m says (may_show_in left) one (emptied_in_items (fate_as o) (made_new o k) rest))
