-- What lies in a named element goes to its lines, all of it.
use Rattle.std.proofs.Common.{◌≡◌, ◌∙◌, refl, ap, sym, subst, ℕ, suc, ◌+◌, ◌≤◌, ◌<◌, length, List, [], ◌∷◌, ◌++◌, map, Bool, true, false, append_assoc, arith}
use Rattle.std.specs.Prelude.{fold, ◌&&◌}
use Rattle.std.proofs.lemmas.List.Sums.{fold-append}
use Rattle.dcm_base.specs.declared.tag.Tag.{Tag}
use Rattle.dcm_base.specs.declared.vr.Vr.{Vr}
use Rattle.dcm_base.specs.declared.length.Length.{Length}
use Rattle.dcm_base.specs.declared.length.Length.TheVariants.{Known, Undefined}
use Rattle.dcm_base.specs.declared.form.Form.{Form}
use Rattle.dcm_base.specs.declared.form.Form.TheVariants.{Value as a_value, Sequence as a_sequence, FragmentList as a_fragment_list}
use Rattle.dcm_base.specs.declared.syntax.Syntax.{Syntax}
use Rattle.dcm_base.specs.Bytes.Spelling.{form, read_as}
use Rattle.dcm_base.specs.Reading.Stop.{opens_list}
use Rattle.dcm_base.specs.Tree.Value.{order}
use Rattle.dcm_base.specs.Tree.Tree.{Trees, no_tree, leaf, sequence, fragments, Items, no_item, item}
use Rattle.dcm_base.specs.Steps.Atoms.{Atom, opens, value_byte, closes_leaf, opens_item, closes_item, closes_sequence, opens_fragment, fragments_then, ShowTrees, ShowItems}
use Rattle.dcm_base.specs.Steps.Steps.{outputs}
use Rattle.dcm_text.specs.declared.sets.Sets.{Sets}
use Rattle.dcm_sinks.specs.InForce.{set_by, sets_after}
use Rattle.dcm_sinks.specs.Laws.{StaysShallow}
use Rattle.dcm_sinks.proofs.Dumps.OpenLists.{stays_on, stays_opened, stays_bytes, stays_fragments, stays_same, stays_trees, stays_items}
use Rattle.dcm_stream.specs.Skip.{is_open, opened}
use Rattle.dcm_named.specs.Filter.{Place, shows, next, begins, way_if}
use Rattle.dcm_named.specs.Named.{is_named}
use Rattle.dcm_named.specs.NamedSink.{named_step, named_writes}
use Rattle.dcm_named.proofs.Filtering.{then_shown}

-- all of these atoms are shown, and none begins the first line of a named element
abbrev pub AllShown : Place → List Atom → Type 0
AllShown p [] = Unit {0}
AllShown p (a ∷ atoms) = (shows p a ≡ true) × (begins p a ≡ false) × AllShown (next p a) atoms

pub all_then : (p : Place) (first rest : List Atom) → AllShown p first → AllShown (fold next p first) rest → AllShown p (first ++ rest)
all_then p [] rest a b = b
all_then p (x ∷ first) rest a b = (a.0, a.1, all_then (next p x) first rest a.2 b)

-- what stays as it is of a place: how many are open of what is shown
abbrev pub with_shown : Place → ℕ → Place
with_shown p n = record p { shown = n }

pub more_open : (n : ℕ) (b : Bool) → n ≤ 1000 → opened (suc n) b ≡ suc (suc n)
more_open n b h = omega (arith, h)

module _ {T : Type 0} (step : T → Atom → T) where
  -- over these atoms, which are shown, the lines go from a state to another, and the place is the same behind them
  pub record Walk (p : Place) (t u : T) (atoms after : List Atom) : Type 0 where
    pub first : List Atom
    pub split : atoms ≡ first ++ after
    pub shown : AllShown p first
    pub place : fold next p first ≡ p
    pub state : fold step t first ≡ u

  pub walk_none : (p : Place) (t : T) (atoms after : List Atom) → atoms ≡ after → Walk p t t atoms after
  walk_none p t atoms after e = record { first = []; split = e; shown = tt; place = refl; state = refl }

  pub walk_row : (p : Place) (t u : T) (x y after : List Atom) → x ≡ y → Walk p t u y after → Walk p t u x after
  walk_row p t u x y after e w = record { first = w.first; split = e ∙ w.split; shown = w.shown; place = w.place; state = w.state }

  pub walk_then : (p : Place) (t u v : T) (x y z : List Atom) → Walk p t u x y → Walk p u v y z → Walk p t v x z
  walk_then p t u v x y z a b = record {
    first = a.first ++ b.first;
    split = a.split ∙ ap (λ (xs : List Atom). a.first ++ xs) b.split ∙ sym (append_assoc a.first b.first z);
    shown = all_then p a.first b.first a.shown (subst (λ (q : Place). AllShown q b.first) (sym a.place) b.shown);
    place = fold-append next p a.first b.first ∙ ap (λ (q : Place). fold next q b.first) a.place ∙ b.place;
    state = fold-append step t a.first b.first ∙ ap (λ (s : T). fold step s b.first) a.state ∙ b.state;
  }

  -- an opening, what lies in it, and its end
  pub walk_in : (p inside : Place) (t t1 u1 u : T) (a b : Atom) (contents others : List Atom) → shows p a ≡ true → begins p a ≡ false → next p a ≡ inside → step t a ≡ t1 → Walk inside t1 u1 contents (b ∷ others)
      → shows inside b ≡ true → begins inside b ≡ false → next inside b ≡ p → step u1 b ≡ u → Walk p t u (a ∷ contents) others
  walk_in p inside t t1 u1 u a b contents others open_shown open_begins opens_to starts w end_shown end_begins ends_at stops = record {
    first = a ∷ (w.first ++ b ∷ []);
    split = ap (λ (xs : List Atom). a ∷ xs) (w.split ∙ sym (append_assoc w.first (b ∷ []) others));
    shown = (
      open_shown,
      open_begins,
      subst (λ (q : Place). AllShown q (w.first ++ b ∷ [])) (sym opens_to)
          (all_then inside w.first (b ∷ []) w.shown (subst (λ (q : Place). AllShown q (b ∷ [])) (sym w.place) (end_shown, end_begins, tt))),
    );
    place = ap (λ (q : Place). fold next q (w.first ++ b ∷ [])) opens_to ∙ fold-append next inside w.first (b ∷ []) ∙ ap (λ (q : Place). next q b) w.place ∙ ends_at;
    state = ap (λ (s : T). fold step s (w.first ++ b ∷ [])) starts ∙ fold-append step t1 w.first (b ∷ []) ∙ ap (λ (s : T). step s b) w.state ∙ stops;
  }

  all_bytes : (p : Place) (v : List ℕ) → is_open p.shown ≡ true → AllShown p (map value_byte v)
  all_bytes p [] e = tt
  all_bytes p (b ∷ v) e = (e, refl, all_bytes p v e)

  bytes_place : (p : Place) (v : List ℕ) → fold next p (map value_byte v) ≡ p
  bytes_place p [] = refl
  bytes_place p (b ∷ v) = bytes_place p v

  -- the bytes of a value
  pub walk_bytes : (p : Place) (t : T) (v : List ℕ) (after : List Atom) → is_open p.shown ≡ true → Walk p t (fold step t (map value_byte v)) (map value_byte v ++ after) after
  walk_bytes p t v after e = record { first = map value_byte v; split = refl; shown = all_bytes p v e; place = bytes_place p v; state = refl }

  -- what is shown is written by the lines alone
  pub through : (over : T → Atom → T) (writes : T → Atom → List ℕ) (p : Place) (t : T) (first rest : List Atom) → AllShown p first
      → outputs (named_step step over) (named_writes writes) (p, t) (first ++ rest) ≡ outputs step writes t first ++ outputs (named_step step over) (named_writes writes) (fold next p first, fold step t first) rest
  through over writes p t [] rest k = refl
  through over writes p t (a ∷ atoms) rest k =
      then_shown step over writes p t a (atoms ++ rest) k.0
      ∙ ap (λ (b : Bool). (way_if (b && p.ways) p.way ++ writes t a) ++ outputs (named_step step over) (named_writes writes) (next p a, step t a) (atoms ++ rest)) k.1
      ∙ ap (λ (z : List ℕ). writes t a ++ z) (through over writes (next p a) (step t a) atoms rest k.2)
      ∙ sym (append_assoc (writes t a) _ _)

-- the atoms of a leaf, and of a fragment
abbrev pub leaf_atoms : Tag → Vr → List ℕ → Syntax → List Atom
leaf_atoms tag vr value s = opens tag vr (Known (length value)) s ∷ (map value_byte (order s vr value) ++ closes_leaf ∷ [])

abbrev pub fragment_atoms : List ℕ → List Atom
fragment_atoms v = opens_fragment (length v) ∷ (map value_byte v ++ closes_leaf ∷ [])

-- what laws of a dump say of the sink that makes it, and what of it passes over: at any depth, with what is in force
-- around and here
pub record Meets {T : Type 0} (step over : T → Atom → T) (at : List Length → List Sets → Sets → T) : Type 0 where
  pub leaf_left : (ls : List Length) (around : List Sets) (sets : Sets) (tag : Tag) (vr : Vr) (value : List ℕ) (s : Syntax) → form s (read_as s tag vr) (Known (length value)) ≡ a_value
      → fold step (at ls around sets) (opens tag vr (Known (length value)) s ∷ (map value_byte (order s vr value) ++ closes_leaf ∷ [])) ≡ at ls around (set_by tag vr value sets)
  pub fragment_left : (ls : List Length) (around : List Sets) (sets : Sets) (v : List ℕ) → fold step (at ls around sets) (opens_fragment (length v) ∷ (map value_byte v ++ closes_leaf ∷ [])) ≡ at ls around sets
  pub list_entered : (ls : List Length) (around : List Sets) (sets : Sets) (tag : Tag) (vr : Vr) (declared : Length) (s : Syntax) (f : Form) → form s (read_as s tag vr) declared ≡ f → opens_list f ≡ true → length ls < 128
      → step (at ls around sets) (opens tag vr declared s) ≡ at (declared ∷ ls) around sets
  pub list_left : (ls : List Length) (around : List Sets) (sets : Sets) (declared : Length) → step (at (declared ∷ ls) around sets) closes_sequence ≡ at ls around sets
  pub item_entered : (ls : List Length) (around : List Sets) (sets : Sets) (declared : Length) → length ls < 128 → length around < 128 → step (at ls around sets) (opens_item declared) ≡ at (declared ∷ ls) (sets ∷ around) sets
  pub item_left : (ls : List Length) (around : List Sets) (outside sets : Sets) (declared : Length) → step (at (declared ∷ ls) (outside ∷ around) sets) closes_item ≡ at ls around outside
  pub leaf_over : (around : List Sets) (sets : Sets) (tag : Tag) (vr : Vr) (value : List ℕ) (s : Syntax) → form s (read_as s tag vr) (Known (length value)) ≡ a_value
      → fold over (at [] around sets) (opens tag vr (Known (length value)) s ∷ (map value_byte (order s vr value) ++ closes_leaf ∷ [])) ≡ at [] around (set_by tag vr value sets)
  pub fragment_over : (around : List Sets) (sets : Sets) (v : List ℕ) → fold over (at [] around sets) (opens_fragment (length v) ∷ (map value_byte v ++ closes_leaf ∷ [])) ≡ at [] around sets
  pub list_over : (around : List Sets) (sets : Sets) (tag : Tag) (vr : Vr) (declared : Length) (s : Syntax) (f : Form) → form s (read_as s tag vr) declared ≡ f → opens_list f ≡ true → over (at [] around sets) (opens tag vr declared s) ≡ at [] around sets
  pub list_ends : (around : List Sets) (sets : Sets) → over (at [] around sets) closes_sequence ≡ at [] around sets
  pub item_over : (around : List Sets) (sets : Sets) (declared : Length) → length around < 128 → over (at [] around sets) (opens_item declared) ≡ at [] (sets ∷ around) sets
  pub item_ends : (around : List Sets) (outside sets : Sets) → over (at [] (outside ∷ around) sets) closes_item ≡ at [] around outside

module _ {T : Type 0} (step over : T → Atom → T) (at : List Length → List Sets → Sets → T) (meets : Meets step over at) (p : Place) where
  abbrev deep : ℕ → Place
  deep n = with_shown p n

  -- a leaf within what is shown
  leaf_walk : (k : ℕ) (ls : List Length) (around : List Sets) (sets : Sets) (tag : Tag) (vr : Vr) (value : List ℕ) (s : Syntax) (others : List Atom) → k ≤ 1000 → form s (read_as s tag vr) (Known (length value)) ≡ a_value
      → Walk step (deep (suc k)) (at ls around sets) (at ls around (set_by tag vr value sets)) (opens tag vr (Known (length value)) s ∷ (map value_byte (order s vr value) ++ closes_leaf ∷ others)) others
  leaf_walk k ls around sets tag vr value s others small e =
      let raw : List ℕ = order s vr value in
      let a : Atom = opens tag vr (Known (length value)) s in
      let inside : Place = deep (suc (suc k)) in
      let t1 : T = step (at ls around sets) a in
      let there : next (deep (suc k)) a ≡ inside = ap (λ (n : ℕ). deep n) (more_open k (is_named p.tags tag) small) in
      walk_in step (deep (suc k)) inside (at ls around sets) t1 (fold step t1 (map value_byte raw)) (at ls around (set_by tag vr value sets)) a closes_leaf (map value_byte raw ++ closes_leaf ∷ others) others refl refl there refl
      (walk_bytes step inside t1 raw (closes_leaf ∷ others) refl) refl refl refl
      (sym (fold-append step t1 (map value_byte raw) (closes_leaf ∷ [])) ∙ meets.leaf_left ls around sets tag vr value s e)

  fragment_walk : (k : ℕ) (ls : List Length) (around : List Sets) (sets : Sets) (v : List ℕ) (others : List Atom) → k ≤ 1000
      → Walk step (deep (suc k)) (at ls around sets) (at ls around sets) (opens_fragment (length v) ∷ (map value_byte v ++ closes_leaf ∷ others)) others
  fragment_walk k ls around sets v others small =
      let a : Atom = opens_fragment (length v) in
      let inside : Place = deep (suc (suc k)) in
      let t1 : T = step (at ls around sets) a in
      let there : next (deep (suc k)) a ≡ inside = ap (λ (n : ℕ). deep n) (more_open k false small) in
      walk_in step (deep (suc k)) inside (at ls around sets) t1 (fold step t1 (map value_byte v)) (at ls around sets) a closes_leaf (map value_byte v ++ closes_leaf ∷ others) others refl refl there refl
      (walk_bytes step inside t1 v (closes_leaf ∷ others) refl) refl refl refl
      (sym (fold-append step t1 (map value_byte v) (closes_leaf ∷ [])) ∙ meets.fragment_left ls around sets v)

  pub fragments_walk : (k : ℕ) (ls : List Length) (around : List Sets) (sets : Sets) (values : List (List ℕ)) (others : List Atom) → k ≤ 1000
      → Walk step (deep (suc k)) (at ls around sets) (at ls around sets) (fragments_then values others) others
  unfolding fragments_then
  fragments_walk k ls around sets [] others small = walk_none step (deep (suc k)) (at ls around sets) others others refl
  fragments_walk k ls around sets (v ∷ values) others small =
      walk_then step (deep (suc k)) (at ls around sets) (at ls around sets) (at ls around sets) _ (fragments_then values others) others (fragment_walk k ls around sets v (fragments_then values others) small) (fragments_walk k ls around sets values others small)

  pub few_open : (m k : ℕ) (atoms : List Atom) → StaysShallow m atoms → k ≤ m + m → k ≤ 1000
  few_open m k atoms h e = let most : m ≤ 64 = h [] atoms refl in omega (arith, e, most)

  room_for_list : (m : ℕ) (ls : List Length) (contents : List Atom) → StaysShallow (suc m) contents → length ls ≤ m + m → length ls < 128
  room_for_list m ls contents h e = let most : suc m ≤ 64 = h [] contents refl in omega (arith, e, most)

  room_for_item : (m : ℕ) (ls : List Length) (contents : List Atom) → StaysShallow m contents → length ls + 1 ≤ m + m → length ls < 128
  room_for_item m ls contents h e = let most : m ≤ 64 = h [] contents refl in omega (arith, e, most)

  pub room_around : (m : ℕ) (around : List Sets) (contents : List Atom) → StaysShallow m contents → length around + 1 ≤ m → length around < 128
  room_around m around contents h e = let most : m ≤ 64 = h [] contents refl in omega (arith, e, most)

  mutual
    unfolding ShowTrees sets_after

    pub trees_walk : (x : Trees) (m k : ℕ) (ls : List Length) (around : List Sets) (sets : Sets) (atoms after : List Atom) → length ls ≤ m + m → length around ≤ m → k ≤ m + m → StaysShallow m atoms → ShowTrees x atoms after
        → Walk step (deep (suc k)) (at ls around sets) (at ls around (sets_after sets x)) atoms after
    trees_walk no_tree m k ls around sets atoms after el ea ek h w = walk_none step (deep (suc k)) (at ls around sets) atoms after w
    trees_walk (leaf tag vr value rest) m k ls around sets atoms after el ea ek h w =
        let opened_h = stays_opened m a_value tag vr (Known (length value)) w.0 (map value_byte (order w.0 vr value) ++ closes_leaf ∷ w.1) w.2 (stays_same m atoms _ w.3 h) in
        let rest_h : StaysShallow m w.1 = stays_on m closes_leaf w.1 (stays_bytes m (order w.0 vr value) (closes_leaf ∷ w.1) opened_h) in
        walk_row step (deep (suc k)) _ _ atoms _ after w.3
        (walk_then step (deep (suc k)) (at ls around sets) (at ls around (set_by tag vr value sets)) _ _ w.1 after (leaf_walk k ls around sets tag vr value w.0 w.1 (few_open m k atoms h ek) w.2)
        (trees_walk rest m k ls around (set_by tag vr value sets) w.1 after el ea ek rest_h w.4))
    trees_walk (sequence tag vr declared items rest) m k ls around sets atoms after el ea ek h w =
        let a : Atom = opens tag vr declared w.0 in
        let inside : Place = deep (suc (suc k)) in
        let there : next (deep (suc k)) a ≡ inside = ap (λ (n : ℕ). deep n) (more_open k (is_named p.tags tag) (few_open m k atoms h ek)) in
        let in_h : StaysShallow (suc m) w.1 = stays_opened m a_sequence tag vr declared w.0 w.1 w.3 (stays_same m atoms _ w.4 h) in
        let rest_h : StaysShallow m w.2 = stays_on (suc m) closes_sequence w.2 (stays_items (suc m) items w.1 (closes_sequence ∷ w.2) w.5 in_h) in
        walk_row step (deep (suc k)) _ _ atoms _ after w.4
        (walk_then step (deep (suc k)) (at ls around sets) (at ls around sets) _ _ w.2 after
        (walk_in step (deep (suc k)) inside (at ls around sets) (at (declared ∷ ls) around sets) (at (declared ∷ ls) around sets) (at ls around sets) a closes_sequence w.1 w.2 refl refl there
        (meets.list_entered ls around sets tag vr declared w.0 a_sequence w.3 refl (room_for_list m ls w.1 in_h el))
        (items_walk items (suc m) (suc k) (declared ∷ ls) around sets w.1 (closes_sequence ∷ w.2) (omega (arith, el)) (omega (arith, ea)) (omega (arith, ek)) in_h w.5) refl refl refl (meets.list_left ls around sets declared))
        (trees_walk rest m k ls around sets w.2 after el ea ek rest_h w.6))
    trees_walk (fragments tag vr values rest) m k ls around sets atoms after el ea ek h w =
        let a : Atom = opens tag vr Undefined w.0 in
        let inside : Place = deep (suc (suc k)) in
        let there : next (deep (suc k)) a ≡ inside = ap (λ (n : ℕ). deep n) (more_open k (is_named p.tags tag) (few_open m k atoms h ek)) in
        let contents : List Atom = fragments_then values (closes_sequence ∷ w.1) in
        let in_h : StaysShallow (suc m) contents = stays_opened m a_fragment_list tag vr Undefined w.0 contents w.2 (stays_same m atoms _ w.3 h) in
        let rest_h : StaysShallow m w.1 = stays_on (suc m) closes_sequence w.1 (stays_fragments (suc m) values (closes_sequence ∷ w.1) in_h) in
        walk_row step (deep (suc k)) _ _ atoms _ after w.3
        (walk_then step (deep (suc k)) (at ls around sets) (at ls around sets) _ _ w.1 after
        (walk_in step (deep (suc k)) inside (at ls around sets) (at (Undefined ∷ ls) around sets) (at (Undefined ∷ ls) around sets) (at ls around sets) a closes_sequence contents w.1 refl refl there
        (meets.list_entered ls around sets tag vr Undefined w.0 a_fragment_list w.2 refl (room_for_list m ls contents in_h el))
        (fragments_walk (suc k) (Undefined ∷ ls) around sets values (closes_sequence ∷ w.1) (few_open (suc m) (suc k) contents in_h (omega (arith, ek)))) refl refl refl (meets.list_left ls around sets Undefined))
        (trees_walk rest m k ls around sets w.1 after el ea ek rest_h w.4))

    pub items_walk : (x : Items) (m k : ℕ) (ls : List Length) (around : List Sets) (sets : Sets) (atoms after : List Atom) → length ls + 1 ≤ m + m → length around + 1 ≤ m → k + 1 ≤ m + m → StaysShallow m atoms → ShowItems x atoms after
        → Walk step (deep (suc k)) (at ls around sets) (at ls around sets) atoms after
    items_walk no_item m k ls around sets atoms after el ea ek h w = walk_none step (deep (suc k)) (at ls around sets) atoms after w
    items_walk (item declared set rest) m k ls around sets atoms after el ea ek h w =
        let a : Atom = opens_item declared in
        let inside : Place = deep (suc (suc k)) in
        let there : next (deep (suc k)) a ≡ inside = ap (λ (n : ℕ). deep n) (more_open k false (few_open m k atoms h (omega (arith, ek)))) in
        let in_h : StaysShallow m w.0 = stays_on m a w.0 (stays_same m atoms _ w.2 h) in
        let rest_h : StaysShallow m w.1 = stays_on m closes_item w.1 (stays_trees m set w.0 (closes_item ∷ w.1) w.3 in_h) in
        walk_row step (deep (suc k)) _ _ atoms _ after w.2
        (walk_then step (deep (suc k)) (at ls around sets) (at ls around sets) _ _ w.1 after
        (walk_in step (deep (suc k)) inside (at ls around sets) (at (declared ∷ ls) (sets ∷ around) sets) (at (declared ∷ ls) (sets ∷ around) (sets_after sets set)) (at ls around sets) a closes_item w.0 w.1 refl refl there
        (meets.item_entered ls around sets declared (room_for_item m ls w.0 in_h el) (room_around m around w.0 in_h ea))
        (trees_walk set m (suc k) (declared ∷ ls) (sets ∷ around) sets w.0 (closes_item ∷ w.1) (omega (arith, el)) (omega (arith, ea)) (omega (arith, ek)) in_h w.3) refl refl refl (meets.item_left ls around sets (sets_after sets set) declared))
        (items_walk rest m k ls around sets w.1 after el ea ek rest_h w.4))
