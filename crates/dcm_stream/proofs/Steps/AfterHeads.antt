-- Behind each whole head stands a place.
use Rattle.std.proofs.Common.{◌≡◌, ℕ, zero, suc, ◌+◌, List, [], ◌∷◌, ◌++◌, length, drop, Some, None, Bool, true, false, not, ◌⊎◌, inl, inr, refl, sym, ap, ◌∙◌, subst, arith, length-append, append_assoc}
use Rattle.std.specs.Prelude.{◌==◌, ◌&&◌, ◌||◌}
use Rattle.dcm_lemmas.proofs.Truth.{or_cases}
use Rattle.dcm_base.specs.declared.tag.Tag.{Tag}
use Rattle.dcm_base.specs.declared.vr.Vr.{Vr}
use Rattle.dcm_base.specs.declared.syntax.Syntax.{Syntax}
use Rattle.dcm_base.specs.declared.length.Length.{Length}
use Rattle.dcm_base.specs.declared.length.Length.TheVariants.{Known, Undefined}
use Rattle.dcm_base.specs.Tree.Tree.{Trees, no_tree, sequence, fragments, Items, no_item, item}
use Rattle.dcm_base.specs.Tree.Front.{OpenTree, nothing_open, open_leaf, open_sequence, open_fragments, no_open_item, open_item}
use Rattle.dcm_base.specs.Tables.Number.{number}
use Rattle.dcm_base.specs.Tables.Tag.{item_end_tag, sequence_end_tag, is_item, is_item_end, is_sequence_end}
use Rattle.dcm_base.specs.Bytes.Head.{ItemHead, Delimiter, tag_at, head_size, long_length}
use Rattle.dcm_base.specs.Bytes.Spelling.{inside}
use Rattle.dcm_base.specs.Reading.Size.{trees_size}
use Rattle.dcm_base.specs.declared.level.Level.{Level}
use Rattle.dcm_base.specs.declared.level.Container.TheVariants.{Item as an_item, Sequence as sequence_container, FragmentList as fragment_container}
use Rattle.dcm_base.specs.Reading.Place.{level, room, passes, levels, tree_levels, is_data, is_undefined, is_allowed}
use Rattle.dcm_base.specs.Reading.Stop.{with_length}
use Rattle.dcm_base.specs.Steps.Atoms.{Atom, closes_leaf, opens_item, closes_item, closes_sequence, opens_fragment, front_atoms}
use Rattle.dcm_base.proofs.DataSets.Heads.{is_tag_true}
use Rattle.dcm_base.proofs.DataSets.Sizes.{element_takes, trees_take, items_take}
use Rattle.dcm_base.proofs.DataSets.Path.{then_trees, then_items, Path, at_top, in_item, plug, syntax_of, behind, item_length, Placed, item_opens as item_opens_at, item_ends, sequence_ends, fragment_opens, fragment_closes, fragments_end}
use Rattle.dcm_base.proofs.DataSets.Levels.{container_of, begin_of, around, plug_levels, path_position, room_in_sequence}
use Rattle.dcm_base.proofs.DataSets.Stops.{set_level}
use Rattle.dcm_base.proofs.DataSets.Row.{item_opens_atoms, item_closes_atoms, sequence_closes_atoms}
use Rattle.dcm_stream.specs.Reading.{closes, item_opens, value_opens, head_opens, without_value}
use Rattle.dcm_stream.proofs.Containers.FragmentRow.{fragment_opens_atoms, fragment_closes_atoms, fragments_end_atoms}
use Rattle.dcm_stream.proofs.Containers.Full.{LeftIs, Opens, list_level}
use Rattle.dcm_stream.proofs.Heads.Stops.{FitsHead, fits_element, fits_item, fits_delimiter, Fits}
use Rattle.dcm_stream.proofs.Containers.Room.{passes_zero, passes_less, passes_later, room_at, room_outside}
use Rattle.dcm_stream.proofs.Heads.Opening.{Behind, JustHead, opens_other, item_head, delimiter_head, set_element_behind}
use Rattle.dcm_stream.proofs.Containers.Signs.{set_then}
use Rattle.dcm_base.proofs.DataSets.After.{tag_at_after}

-- ---- which tags are allowed

pub data_false : (tag : Tag) → (tag.group == 0xFFFE) ≡ true → is_data tag ≡ false
data_false tag g = ap (λ (x : Bool). not x && not (tag.group == 0x0002)) g

special_false : (tag : Tag) (element : ℕ) → (tag.group == 0xFFFE) ≡ false → ((tag.group == 0xFFFE) && (tag.element == element)) ≡ false
special_false tag element g = ap (λ (x : Bool). x && (tag.element == element)) g

-- whether a path leads into an item
abbrev Inside : Path → Type 0
Inside at_top = ⊥
Inside (in_item outer above tag vr declared items item_declared) = Unit {0}

-- a special tag in a set ends an item of undefined length
set_special : (path : Path) (tag : Tag) → (tag.group == 0xFFFE) ≡ true → is_allowed (container_of path) (item_length path) tag ≡ true → (item_length path ≡ Undefined) × (is_item_end tag ≡ true) × Inside path
unfolding is_allowed
set_special at_top tag g h = let k = data_false tag g in absurd (cc)
set_special (in_item outer above t vr declared items (Known size)) tag g h =
    let k : (is_data tag || (false && is_item_end tag)) ≡ false = ap (λ (x : Bool). x || (false && is_item_end tag)) (data_false tag g) in absurd (cc)
set_special (in_item outer above t vr declared items Undefined) tag g h =
    (refl, sym (ap (λ (x : Bool). x || (true && is_item_end tag)) (data_false tag g)) ∙ h, tt)

pub item_end_no_item : (tag : Tag) → is_item_end tag ≡ true → is_item tag ≡ true → ⊥
item_end_no_item tag h k =
    let e : tag.element ≡ 0xE00D = ap (λ (t : Tag). t.element) (is_tag_true 0xFFFE 0xE00D tag h) in
    let i : tag.element ≡ 0xE000 = ap (λ (t : Tag). t.element) (is_tag_true 0xFFFE 0xE000 tag k) in
    omega arith

allowed_left : (a b : Bool) → (a || (false && b)) ≡ true → a ≡ true
allowed_left true b h = refl
allowed_left false b h = h

allowed_either : (a b : Bool) → (a || (true && b)) ≡ true → (a ≡ true) ⊎ ((Undefined ≡ Undefined) × (b ≡ true))
allowed_either true b h = inl refl
allowed_either false b h = inr (refl, h)

-- what comes in a sequence is an item, or its end where its length is undefined
pub list_allows : (declared : Length) (tag : Tag) → is_allowed sequence_container declared tag ≡ true → (is_item tag ≡ true) ⊎ ((declared ≡ Undefined) × (is_sequence_end tag ≡ true))
unfolding is_allowed
list_allows (Known size) tag h = inl (allowed_left (is_item tag) (is_sequence_end tag) h)
list_allows Undefined tag h = allowed_either (is_item tag) (is_sequence_end tag) h

pub fragments_allow : (declared : Length) (tag : Tag) → is_allowed fragment_container declared tag ≡ true → (is_item tag ≡ true) ⊎ (is_sequence_end tag ≡ true)
unfolding is_allowed
fragments_allow declared tag h = or_cases (is_item tag) (is_sequence_end tag) h

pub special_group : (tag : Tag) (element : ℕ) → ((tag.group == 0xFFFE) && (tag.element == element)) ≡ true → (tag.group == 0xFFFE) ≡ false → ⊥
special_group tag element h g = let k = special_false tag element g in cc

-- ---- in a set

set_end_behind : (s : Syntax) (start : ℕ) (path : Path) (whole : Trees) (b z : List ℕ) (begin : ℕ) (atoms : List Atom) → Placed s path whole nothing_open b
    → atoms ≡ front_atoms s (plug path whole nothing_open) → tag_at (behind s path whole) z ≡ item_end_tag → length z ≡ 8 → item_length path ≡ Undefined → Inside path
    → passes (length z) (room (start + length b) (set_level s start path whole ∷ around s start path)) ≡ false
    → Behind s start (b ++ z) atoms (without_value (around s start path) (closes (container_of path)))
unfolding tree_levels is_allowed
set_end_behind s start at_top whole b z begin atoms h a tag_is eight undefined outside free = absurd outside
set_end_behind s start (in_item outer above tag vr declared items (Known size)) whole b z begin atoms h a tag_is eight undefined is free = absurd (cc)
set_end_behind s start (in_item outer above tag vr declared items Undefined) whole b z begin atoms h a tag_is eight undefined is free =
    let path = in_item outer above tag vr declared items Undefined in
    let o = open_sequence tag vr declared (then_items items (item Undefined whole no_item)) no_open_item in
    record {
      path = outer;
      whole = above;
      open_tree = o;
      placed = item_ends s outer above tag vr declared items whole b z h (room_at s start path whole nothing_open b z h free) (delimiter_head (syntax_of s path) item_end_tag z (sym (tag_at_after (syntax_of s path) whole z) ∙ tag_is) eight);
      levels_are = sym (plug_levels s start outer above o);
      atoms_are = ap (λ (x : List Atom). x ++ closes_item ∷ []) a ∙ sym (item_closes_atoms s outer above tag vr declared items Undefined whole);
      left_is = refl;
      sign_is = refl;
      fits = passes_zero (room (start + length (b ++ z)) (around s start path));
    }

set_head_behind : (s : Syntax) (start : ℕ) (path : Path) (whole : Trees) (b z : List ℕ) (begin : ℕ) (atoms : List Atom) → Placed s path whole nothing_open b
    → atoms ≡ front_atoms s (plug path whole nothing_open) → begin ≡ start + length b + length z
    → Fits (set_level s start path whole) (set_level s start path whole ∷ around s start path) (start + length b) z → JustHead (behind s path whole) z
    → FitsHead (set_level s start path whole) (set_level s start path whole ∷ around s start path) (start + length b) z
    → Behind s start (b ++ z) atoms (head_opens begin z (set_level s start path whole ∷ around s start path))
set_head_behind s start path whole b z begin atoms h a at fits just (fits_element vr g f) = set_element_behind s start path whole b z begin atoms vr h a at g f (just.element vr g f.vr_is)
set_head_behind s start path whole b z begin atoms h a at fits just (fits_item g i u f) =
    let k = set_special path (tag_at (behind s path whole) z) g fits.allowed in absurd (item_end_no_item (tag_at (behind s path whole) z) k.1 i)
set_head_behind s start path whole b z begin atoms h a at fits just (fits_delimiter g i) =
    let k = set_special path (tag_at (behind s path whole) z) g fits.allowed in
    let eight = just.other g in
    subst (Behind s start (b ++ z) atoms) (sym (opens_other begin z (set_level s start path whole) (around s start path) false g i))
    (set_end_behind s start path whole b z begin atoms h a (is_tag_true 0xFFFE 0xE00D (tag_at (behind s path whole) z) k.1) eight k.0 k.2
    (subst (λ (n : ℕ). passes n (room (start + length b) (set_level s start path whole ∷ around s start path)) ≡ false) (sym eight) fits.room_for))

set_behind : (s : Syntax) (start : ℕ) (path : Path) (whole : Trees) (b z : List ℕ) (begin : ℕ) (atoms : List Atom) → Placed s path whole nothing_open b
    → atoms ≡ front_atoms s (plug path whole nothing_open) → begin ≡ start + length b + length z
    → Fits (set_level s start path whole) (set_level s start path whole ∷ around s start path) (start + length b) z → JustHead (behind s path whole) z
    → Behind s start (b ++ z) atoms (head_opens begin z (set_level s start path whole ∷ around s start path))
set_behind s start path whole b z begin atoms h a at fits just = set_head_behind s start path whole b z begin atoms h a at fits just fits.head

-- ---- in a sequence

list_item_behind : (s : Syntax) (start : ℕ) (path : Path) (whole : Trees) (tag : Tag) (vr : Vr) (declared : Length) (items : Items) (b z : List ℕ) (begin : ℕ) (atoms : List Atom) (l : Length)
    (h : Placed s path whole (open_sequence tag vr declared items no_open_item) b)
    → atoms ≡ front_atoms s (plug path whole (open_sequence tag vr declared items no_open_item)) → begin ≡ start + length b + length z
    → ItemHead (inside (behind s path whole) vr) l z [] → length z ≡ 8
    → passes (length z) (room (start + length b) (list_level s start path whole vr declared ∷ set_level s start path whole ∷ around s start path)) ≡ false
    → Behind s start (b ++ z) atoms (item_opens sequence_container (inside (behind s path whole) vr) l begin (list_level s start path whole vr declared ∷ set_level s start path whole ∷ around s start path))
unfolding tree_levels
list_item_behind s start path whole tag vr declared items b z begin atoms l h a at head eight free =
    let s' = behind s path whole in
    let o = open_sequence tag vr declared items no_open_item in
    let inner = in_item path whole tag vr declared items l in
    let place : begin ≡ begin_of s start inner =
    omega (arith, path_position s start path b h.c h.path_at, trees_take (syntax_of s path) whole h.c h.d h.trees_at, element_takes s' tag vr declared h.d h.open_at.0 h.open_at.2, items_take (inside s' vr) items h.open_at.0 [] h.open_at.4) in
    let free' : passes (length z) (room (start + length b) (levels s start (plug path whole o))) ≡ false =
    subst (λ (ls : List Level). passes (length z) (room (start + length b) ls) ≡ false) (sym (plug_levels s start path whole o)) free in
    let fit = room_in_sequence s start path whole tag vr declared items b z h free' in
    record {
      path = inner;
      whole = no_tree;
      open_tree = nothing_open;
      placed = item_opens_at s path whole tag vr declared items l b z h fit.0 fit.1 head;
      levels_are = ap (λ (x : ℕ). level an_item (inside s' vr) l x ∷ list_level s start path whole vr declared ∷ set_level s start path whole ∷ around s start path) place ∙ sym (plug_levels s start inner no_tree nothing_open);
      atoms_are = ap (λ (x : List Atom). x ++ opens_item l ∷ []) a ∙ sym (item_opens_atoms s path whole tag vr declared items l);
      left_is = refl;
      sign_is = refl;
      fits = passes_zero (room (start + length (b ++ z)) (level an_item (inside s' vr) l begin ∷ list_level s start path whole vr declared ∷ set_level s start path whole ∷ around s start path));
    }

list_end_behind : (s : Syntax) (start : ℕ) (path : Path) (whole : Trees) (tag : Tag) (vr : Vr) (items : Items) (b z : List ℕ) (atoms : List Atom)
    (h : Placed s path whole (open_sequence tag vr Undefined items no_open_item) b)
    → atoms ≡ front_atoms s (plug path whole (open_sequence tag vr Undefined items no_open_item))
    → Delimiter (inside (behind s path whole) vr) sequence_end_tag z []
    → passes (length z) (room (start + length b) (set_level s start path whole ∷ around s start path)) ≡ false
    → Behind s start (b ++ z) atoms (without_value (set_level s start path whole ∷ around s start path) closes_sequence)
unfolding tree_levels
list_end_behind s start path whole tag vr items b z atoms h a head free =
    let w = then_trees whole (sequence tag vr Undefined items no_tree) in
    record {
      path = path;
      whole = w;
      open_tree = nothing_open;
      placed = sequence_ends s path whole tag vr items b z h (room_at s start path whole (open_sequence tag vr Undefined items no_open_item) b z h free) head;
      levels_are = ap (λ (x : Level). x ∷ around s start path) (sym (set_then s start path whole (sequence tag vr Undefined items no_tree))) ∙ sym (plug_levels s start path w nothing_open);
      atoms_are = ap (λ (x : List Atom). x ++ closes_sequence ∷ []) a ∙ sym (sequence_closes_atoms s path whole tag vr Undefined items);
      left_is = refl;
      sign_is = refl;
      fits = passes_zero (room (start + length (b ++ z)) (set_level s start path whole ∷ around s start path));
    }

list_head_behind : (s : Syntax) (start : ℕ) (path : Path) (whole : Trees) (tag : Tag) (vr : Vr) (declared : Length) (items : Items) (b z : List ℕ) (begin : ℕ) (atoms : List Atom)
    → Placed s path whole (open_sequence tag vr declared items no_open_item) b
    → atoms ≡ front_atoms s (plug path whole (open_sequence tag vr declared items no_open_item)) → begin ≡ start + length b + length z
    → let inner = list_level s start path whole vr declared in
    let ls = inner ∷ set_level s start path whole ∷ around s start path in
    Fits inner ls (start + length b) z → JustHead inner.syntax z → FitsHead inner ls (start + length b) z
    → (is_item (tag_at inner.syntax z) ≡ true) ⊎ ((declared ≡ Undefined) × (is_sequence_end (tag_at inner.syntax z) ≡ true))
    → Behind s start (b ++ z) atoms (head_opens begin z ls)
list_head_behind s start path whole tag vr declared items b z begin atoms h a at fits just (fits_element v g f) (inl i) = absurd (special_group _ 0xE000 i g)
list_head_behind s start path whole tag vr declared items b z begin atoms h a at fits just (fits_element v g f) (inr k) = absurd (special_group _ 0xE0DD k.1 g)
list_head_behind s start path whole tag vr declared items b z begin atoms h a at fits just (fits_item g i u f) allowed =
    let inner = list_level s start path whole vr declared in
    let outer = set_level s start path whole ∷ around s start path in
    let eight = just.other g in
    subst (Behind s start (b ++ z) atoms) (sym (opens_other begin z inner outer true g i))
    (list_item_behind s start path whole tag vr declared items b z begin atoms (long_length (number inner.syntax 4 (drop 4 z))) h a at (item_head inner.syntax z i eight) eight
    (subst (λ (n : ℕ). passes n (room (start + length b) (inner ∷ outer)) ≡ false) (sym eight) fits.room_for))
list_head_behind s start path whole tag vr declared items b z begin atoms h a at fits just (fits_delimiter g i) (inl is) = absurd (cc)
list_head_behind s start path whole tag vr (Known size) items b z begin atoms h a at fits just (fits_delimiter g i) (inr k) = absurd (let e = k.0 in cc)
list_head_behind s start path whole tag vr Undefined items b z begin atoms h a at fits just (fits_delimiter g i) (inr k) =
    let inner = list_level s start path whole vr Undefined in
    let outer = set_level s start path whole ∷ around s start path in
    let eight = just.other g in
    subst (Behind s start (b ++ z) atoms) (sym (opens_other begin z inner outer false g i))
    (list_end_behind s start path whole tag vr items b z atoms h a (delimiter_head inner.syntax sequence_end_tag z (is_tag_true 0xFFFE 0xE0DD (tag_at inner.syntax z) k.1) eight)
    (room_outside (length z) (start + length b) inner outer (subst (λ (n : ℕ). passes n (room (start + length b) (inner ∷ outer)) ≡ false) (sym eight) fits.room_for)))

list_behind : (s : Syntax) (start : ℕ) (path : Path) (whole : Trees) (tag : Tag) (vr : Vr) (declared : Length) (items : Items) (b z : List ℕ) (begin : ℕ) (atoms : List Atom)
    → Placed s path whole (open_sequence tag vr declared items no_open_item) b
    → atoms ≡ front_atoms s (plug path whole (open_sequence tag vr declared items no_open_item)) → begin ≡ start + length b + length z
    → let inner = list_level s start path whole vr declared in
    let ls = inner ∷ set_level s start path whole ∷ around s start path in
    Fits inner ls (start + length b) z → JustHead inner.syntax z → Behind s start (b ++ z) atoms (head_opens begin z ls)
list_behind s start path whole tag vr declared items b z begin atoms h a at fits just =
    list_head_behind s start path whole tag vr declared items b z begin atoms h a at fits just fits.head (list_allows declared (tag_at (inside (behind s path whole) vr) z) fits.allowed)

-- ---- in a fragment list

abbrev pub fragments_level : Syntax → (start : ℕ) → Path → Trees → Vr → Level
fragments_level s start path whole vr = level fragment_container (behind s path whole) Undefined (begin_of s start path + trees_size (syntax_of s path) whole + head_size (behind s path whole) vr)

fragment_behind : (s : Syntax) (start : ℕ) (path : Path) (whole : Trees) (tag : Tag) (vr : Vr) (values : List (List ℕ)) (b z : List ℕ) (begin : ℕ) (atoms : List Atom) (size : ℕ)
    → Placed s path whole (open_fragments tag vr values None) b
    → atoms ≡ front_atoms s (plug path whole (open_fragments tag vr values None))
    → ItemHead (behind s path whole) (Known size) z []
    → let ls = fragments_level s start path whole vr ∷ set_level s start path whole ∷ around s start path in
    passes (length z + size) (room (start + length b) ls) ≡ false
    → Behind s start (b ++ z) atoms (value_opens ls None (opens_fragment size) size)
unfolding tree_levels
fragment_behind s start path whole tag vr values b z begin atoms zero h a head free =
    let ls = fragments_level s start path whole vr ∷ set_level s start path whole ∷ around s start path in
    let outer = set_level s start path whole ∷ around s start path in
    let fit = passes_less (length z) (length z + 0) (room (start + length b) outer) (omega arith) (room_outside (length z + 0) (start + length b) (fragments_level s start path whole vr) outer free) in
    let opened = fragment_opens s path whole tag vr values 0 b z h (room_at s start path whole (open_fragments tag vr values None) b z h fit) head in
    let o : Atom = opens_fragment 0 in
    record {
      path = path;
      whole = whole;
      open_tree = open_fragments tag vr (values ++ [] ∷ []) None;
      placed = fragment_closes s path whole tag vr values 0 [] (b ++ z) opened refl;
      levels_are = sym (plug_levels s start path whole (open_fragments tag vr (values ++ [] ∷ []) None));
      atoms_are =
          sym (append_assoc atoms (o ∷ []) (closes_leaf ∷ []))
          ∙ ap (λ (x : List Atom). (x ++ o ∷ []) ++ closes_leaf ∷ []) a
          ∙ ap (λ (x : List Atom). x ++ closes_leaf ∷ []) (sym (fragment_opens_atoms s path whole tag vr values 0))
          ∙ sym (fragment_closes_atoms s path whole tag vr values 0 [] refl);
      left_is = refl;
      sign_is = refl;
      fits = passes_zero (room (start + length (b ++ z)) ls);
    }
fragment_behind s start path whole tag vr values b z begin atoms (suc n) h a head free =
    let ls = fragments_level s start path whole vr ∷ set_level s start path whole ∷ around s start path in
    let outer = set_level s start path whole ∷ around s start path in
    let fit = passes_less (length z) (length z + suc n) (room (start + length b) outer) (omega arith) (room_outside (length z + suc n) (start + length b) (fragments_level s start path whole vr) outer free) in
    let same : start + length b + length z ≡ start + length (b ++ z) = omega (arith, length-append b z) in
    record {
      path = path;
      whole = whole;
      open_tree = open_fragments tag vr values (Some (suc n, []));
      placed = fragment_opens s path whole tag vr values (suc n) b z h (room_at s start path whole (open_fragments tag vr values None) b z h fit) head;
      levels_are = sym (plug_levels s start path whole (open_fragments tag vr values (Some (suc n, []))));
      atoms_are = ap (λ (x : List Atom). x ++ opens_fragment (suc n) ∷ []) a ∙ sym (fragment_opens_atoms s path whole tag vr values (suc n));
      left_is = (omega arith, omega arith);
      sign_is = refl;
      fits = subst (λ (p : ℕ). passes (suc n) (room p ls) ≡ false) same (passes_later (length z) (suc n) (start + length b) ls free);
    }

fragments_end_behind : (s : Syntax) (start : ℕ) (path : Path) (whole : Trees) (tag : Tag) (vr : Vr) (values : List (List ℕ)) (b z : List ℕ) (atoms : List Atom)
    → Placed s path whole (open_fragments tag vr values None) b
    → atoms ≡ front_atoms s (plug path whole (open_fragments tag vr values None))
    → Delimiter (behind s path whole) sequence_end_tag z []
    → passes (length z) (room (start + length b) (set_level s start path whole ∷ around s start path)) ≡ false
    → Behind s start (b ++ z) atoms (without_value (set_level s start path whole ∷ around s start path) closes_sequence)
unfolding tree_levels
fragments_end_behind s start path whole tag vr values b z atoms h a head free =
    let w = then_trees whole (fragments tag vr values no_tree) in
    record {
      path = path;
      whole = w;
      open_tree = nothing_open;
      placed = fragments_end s path whole tag vr values b z h (room_at s start path whole (open_fragments tag vr values None) b z h free) head;
      levels_are = ap (λ (x : Level). x ∷ around s start path) (sym (set_then s start path whole (fragments tag vr values no_tree))) ∙ sym (plug_levels s start path w nothing_open);
      atoms_are = ap (λ (x : List Atom). x ++ closes_sequence ∷ []) a ∙ sym (fragments_end_atoms s path whole tag vr values);
      left_is = refl;
      sign_is = refl;
      fits = passes_zero (room (start + length (b ++ z)) (set_level s start path whole ∷ around s start path));
    }

-- the head of a fragment declares a length
fragment_head_behind : (s : Syntax) (start : ℕ) (path : Path) (whole : Trees) (tag : Tag) (vr : Vr) (values : List (List ℕ)) (b z : List ℕ) (begin : ℕ) (atoms : List Atom) (l : Length)
    → Placed s path whole (open_fragments tag vr values None) b
    → atoms ≡ front_atoms s (plug path whole (open_fragments tag vr values None))
    → ItemHead (behind s path whole) l z [] → is_undefined l ≡ false
    → let ls = fragments_level s start path whole vr ∷ set_level s start path whole ∷ around s start path in
    passes (with_length (length z) l) (room (start + length b) ls) ≡ false
    → Behind s start (b ++ z) atoms (item_opens fragment_container (behind s path whole) l begin ls)
fragment_head_behind s start path whole tag vr values b z begin atoms (Known size) h a head u free = fragment_behind s start path whole tag vr values b z begin atoms size h a head free
fragment_head_behind s start path whole tag vr values b z begin atoms Undefined h a head u free = absurd (cc)

fragments_head_behind : (s : Syntax) (start : ℕ) (path : Path) (whole : Trees) (tag : Tag) (vr : Vr) (values : List (List ℕ)) (b z : List ℕ) (begin : ℕ) (atoms : List Atom)
    → Placed s path whole (open_fragments tag vr values None) b
    → atoms ≡ front_atoms s (plug path whole (open_fragments tag vr values None))
    → let inner = fragments_level s start path whole vr in
    let ls = inner ∷ set_level s start path whole ∷ around s start path in
    Fits inner ls (start + length b) z → JustHead inner.syntax z → FitsHead inner ls (start + length b) z
    → (is_item (tag_at inner.syntax z) ≡ true) ⊎ (is_sequence_end (tag_at inner.syntax z) ≡ true)
    → Behind s start (b ++ z) atoms (head_opens begin z ls)
fragments_head_behind s start path whole tag vr values b z begin atoms h a fits just (fits_element v g f) (inl i) = absurd (special_group _ 0xE000 i g)
fragments_head_behind s start path whole tag vr values b z begin atoms h a fits just (fits_element v g f) (inr i) = absurd (special_group _ 0xE0DD i g)
fragments_head_behind s start path whole tag vr values b z begin atoms h a fits just (fits_item g i u f) allowed =
    let inner = fragments_level s start path whole vr in
    let outer = set_level s start path whole ∷ around s start path in
    let l = long_length (number inner.syntax 4 (drop 4 z)) in
    let eight = just.other g in
    subst (Behind s start (b ++ z) atoms) (sym (opens_other begin z inner outer true g i))
    (fragment_head_behind s start path whole tag vr values b z begin atoms l h a (item_head inner.syntax z i eight) u
    (subst (λ (n : ℕ). passes (with_length n l) (room (start + length b) (inner ∷ outer)) ≡ false) (sym eight) f))
fragments_head_behind s start path whole tag vr values b z begin atoms h a fits just (fits_delimiter g i) (inl is) = absurd (cc)
fragments_head_behind s start path whole tag vr values b z begin atoms h a fits just (fits_delimiter g i) (inr k) =
    let inner = fragments_level s start path whole vr in
    let outer = set_level s start path whole ∷ around s start path in
    let eight = just.other g in
    subst (Behind s start (b ++ z) atoms) (sym (opens_other begin z inner outer false g i))
    (fragments_end_behind s start path whole tag vr values b z atoms h a (delimiter_head inner.syntax sequence_end_tag z (is_tag_true 0xFFFE 0xE0DD (tag_at inner.syntax z) k) eight)
    (room_outside (length z) (start + length b) inner outer (subst (λ (n : ℕ). passes n (room (start + length b) (inner ∷ outer)) ≡ false) (sym eight) fits.room_for)))

-- ---- everywhere

-- the innermost of these containers takes the head
abbrev pub LevelsFit : List Level → (position : ℕ) → List ℕ → Type 0
LevelsFit [] position z = Unit {0}
LevelsFit (inner ∷ outer) position z = Fits inner (inner ∷ outer) position z

abbrev pub LevelsHead : List Level → List ℕ → Type 0
LevelsHead [] z = Unit {0}
LevelsHead (inner ∷ outer) z = JustHead inner.syntax z

behind_at : (s : Syntax) (start : ℕ) (path : Path) (whole : Trees) (o : OpenTree) (b z : List ℕ) (begin : ℕ) (atoms : List Atom) (ls : List Level)
    → Placed s path whole o b → ls ≡ levels s start (plug path whole o) → atoms ≡ front_atoms s (plug path whole o) → LeftIs o 0 → begin ≡ start + length b + length z
    → LevelsFit ls (start + length b) z → LevelsHead ls z → Behind s start (b ++ z) atoms (head_opens begin z ls)
unfolding tree_levels
behind_at s start path whole nothing_open b z begin atoms ls h l a left at fits just =
    let e : ls ≡ set_level s start path whole ∷ around s start path = l ∙ plug_levels s start path whole nothing_open in
    subst (λ (x : List Level). Behind s start (b ++ z) atoms (head_opens begin z x)) (sym e)
    (set_behind s start path whole b z begin atoms h a at (subst (λ (x : List Level). LevelsFit x (start + length b) z) e fits) (subst (λ (x : List Level). LevelsHead x z) e just))
behind_at s start path whole (open_leaf tag vr size value) b z begin atoms ls h l a left at fits just = absurd (omega arith)
behind_at s start path whole (open_sequence tag vr declared items no_open_item) b z begin atoms ls h l a left at fits just =
    let e : ls ≡ list_level s start path whole vr declared ∷ set_level s start path whole ∷ around s start path = l ∙ plug_levels s start path whole (open_sequence tag vr declared items no_open_item) in
    subst (λ (x : List Level). Behind s start (b ++ z) atoms (head_opens begin z x)) (sym e)
    (list_behind s start path whole tag vr declared items b z begin atoms h a at (subst (λ (x : List Level). LevelsFit x (start + length b) z) e fits) (subst (λ (x : List Level). LevelsHead x z) e just))
behind_at s start path whole (open_sequence tag vr declared items (open_item m f)) b z begin atoms ls h l a left at fits just = absurd h.open_at
behind_at s start path whole (open_fragments tag vr values None) b z begin atoms ls h l a left at fits just =
    let e : ls ≡ fragments_level s start path whole vr ∷ set_level s start path whole ∷ around s start path = l ∙ plug_levels s start path whole (open_fragments tag vr values None) in
    let fits' : Fits (fragments_level s start path whole vr) (fragments_level s start path whole vr ∷ set_level s start path whole ∷ around s start path) (start + length b) z = subst (λ (x : List Level). LevelsFit x (start + length b) z) e fits in
    subst (λ (x : List Level). Behind s start (b ++ z) atoms (head_opens begin z x)) (sym e)
    (fragments_head_behind s start path whole tag vr values b z begin atoms h a fits' (subst (λ (x : List Level). LevelsHead x z) e just) fits'.head
    (fragments_allow Undefined (tag_at (behind s path whole) z) fits'.allowed))
behind_at s start path whole (open_fragments tag vr values (Some fragment)) b z begin atoms ls h l a left at fits just = absurd (omega arith)

-- behind a head that no stop refuses stands a place
pub head_behind : (s : Syntax) (start : ℕ) (b z : List ℕ) (begin : ℕ) (atoms : List Atom) (ls : List Level) → Opens s start b ls 0 None atoms → begin ≡ start + length b + length z
    → LevelsFit ls (start + length b) z → LevelsHead ls z → Behind s start (b ++ z) atoms (head_opens begin z ls)
head_behind s start b z begin atoms ls h at fits just =
    behind_at s start h.path h.whole h.open_tree b z begin atoms ls h.placed h.levels_are h.atoms_are h.left_is at fits just
