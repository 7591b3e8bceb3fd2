-- Within the bytes that whole trees spell no fault applies.
use Rattle.std.proofs.Common.{◌≡◌, ◌∙◌, ap, sym, refl, subst, ℕ, suc, ◌+◌, ◌≤◌, ◌<◌, List, [], ◌∷◌, ◌++◌, length, Option, Some, None, Bool, true, false, cond, arith, length-append}
use Rattle.std.specs.Prelude.{◌&&◌, ◌||◌, nat_le, is_some}
use Rattle.std.proofs.lemmas.Bool.Decides.{nat_tests}
use Rattle.dcm_base.specs.declared.tag.Tag.{Tag}
use Rattle.dcm_base.specs.declared.vr.Vr.{Vr}
use Rattle.dcm_base.specs.declared.syntax.Syntax.{Syntax}
use Rattle.dcm_base.specs.declared.fault.Fault.TheVariants.{EndsEarly}
use Rattle.dcm_base.specs.declared.length.Length.{Length}
use Rattle.dcm_base.specs.declared.length.Length.TheVariants.{Known, Undefined}
use Rattle.dcm_base.specs.declared.form.Form.{Form}
use Rattle.dcm_base.specs.declared.form.Form.TheVariants.{Value as a_value, Sequence as a_sequence, FragmentList as a_fragment_list}
use Rattle.dcm_base.specs.declared.level.Container.{Container}
use Rattle.dcm_base.specs.declared.level.Container.TheVariants.{Item as an_item, Sequence as sequence_container, FragmentList as fragment_container}
use Rattle.dcm_base.specs.declared.level.Level.{Level}
use Rattle.dcm_base.specs.Tree.Tree.{Trees, no_tree, leaf, sequence, fragments, Items, no_item, item}
use Rattle.dcm_base.specs.Tree.Front.{Front, front, OpenTree, nothing_open, open_leaf, open_sequence, open_fragments, OpenItem, no_open_item, open_item}
use Rattle.dcm_base.specs.Tree.Value.{order}
use Rattle.dcm_base.specs.Tables.Tag.{item_tag, item_end_tag, sequence_end_tag, is_item_end, is_item, is_sequence_end}
use Rattle.dcm_base.specs.Bytes.Head.{ElementHead, ItemHead, Delimiter, head_size, tag_at}
use Rattle.dcm_base.specs.Bytes.Spelling.{form, read_as, inside, after_trees, Enclosed, FragmentsAt, TreesAt, ItemsAt, SpellsFront, SpellsOpen, SpellsOpenItem, SpellsOpenFragment, StaysOpen, is_open, is_open_item, holds_open}
use Rattle.dcm_base.specs.Reading.Size.{trees_size, items_size}
use Rattle.dcm_base.specs.Reading.Place.{level, set_levels, tree_levels, item_levels, value_open, value_open_in_tree, value_open_in_item, room, distance, end_of, depth, is_allowed, is_data, is_undefined}
use Rattle.dcm_base.specs.Reading.Stop.{Stop, refused, HeadBar, is_empty, opens_list, has_no_form, with_length, value_stop, innermost_stop, place_stop}
use Rattle.dcm_base.proofs.Conversions.Order.{length-order}
use Rattle.dcm_base.proofs.DataSets.After.{tag_at_after}
use Rattle.dcm_base.proofs.DataSets.Extend.{element_extends, item_extends, fragments_extend, items_extend, trees_extend}
use Rattle.dcm_base.proofs.DataSets.Heads.{known_same, element_same, item_same, NoElement, NoItem, element_begins, item_begins}
use Rattle.dcm_base.proofs.DataSets.Sizes.{element_takes, item_takes, trees_take, items_take}
use Rattle.dcm_base.proofs.DataSets.Whole.{delimiter_NoItem, enclosed_along, forms_same, value_sequence, value_fragments, sequence_fragments}
use Rattle.dcm_sound.proofs.Spelled.Left.{MayCome, ItemsMayCome, left_fragments, left_items, left_trees}
use Rattle.dcm_sound.proofs.Spelled.Places.{HasRoom, least_room, element_place, item_place, delimiter_place}
use Rattle.dcm_sound.proofs.Spelled.Regions.{region, no_element as no_more_elements, no_item as no_more_items}

-- ---- no fault

abbrev pub NoFault : Option Stop → Type 0
NoFault stop = stop ≡ None

-- the stop, by whether a value is open
abbrev pub stop_here : HeadBar → (held : Bool) → List Level → (position : ℕ) → List ℕ → Option Stop
stop_here bar held ls position rest = cond held (value_stop position rest) (innermost_stop bar ls position rest)

some_left : (r z : List ℕ) → 0 < length r → is_empty (r ++ z) ≡ false
some_left [] z lt = absurd (omega (arith, lt))
some_left (b ∷ r) z lt = refl

value_fine : (position : ℕ) (r z : List ℕ) → 0 < length r → NoFault (value_stop position (r ++ z))
value_fine position r z lt = ap (λ (t : Bool). cond t (Some (refused EndsEarly position)) None) (some_left r z lt)

-- ---- heads

-- elements may come in it
abbrev pub TakesElements : Container → Length → Type 0
TakesElements c declared = (t : Tag) → is_data t ≡ true → is_allowed c declared t ≡ true

item_takes_elements : (declared : Length) → TakesElements an_item declared
unfolding is_allowed
item_takes_elements declared t h = ap (λ (x : Bool). x || (is_undefined declared && is_item_end t)) h

ends_item : (declared : Length) → declared ≡ Undefined → is_allowed an_item declared item_end_tag ≡ true
unfolding is_allowed
ends_item declared e = ap (λ (l : Length). is_data item_end_tag || (is_undefined l && is_item_end item_end_tag)) e

takes_items : (declared : Length) → is_allowed sequence_container declared item_tag ≡ true
unfolding is_allowed
takes_items declared = refl

ends_sequence : (declared : Length) → declared ≡ Undefined → is_allowed sequence_container declared sequence_end_tag ≡ true
unfolding is_allowed
ends_sequence declared e = ap (λ (l : Length). is_item sequence_end_tag || (is_undefined l && is_sequence_end sequence_end_tag)) e

takes_fragments : is_allowed fragment_container Undefined item_tag ≡ true
unfolding is_allowed
takes_fragments = refl

ends_fragments : is_allowed fragment_container Undefined sequence_end_tag ≡ true
unfolding is_allowed
ends_fragments = refl

has_form : (f g : Form) → f ≡ g → has_no_form g ≡ false → has_no_form f ≡ false
has_form f g e h = ap has_no_form e ∙ h

no_list : (f : Form) (b : Bool) → f ≡ a_value → (opens_list f && b) ≡ false
no_list f b e = ap (λ (x : Form). opens_list x && b) e

shallow : (f g : Form) (n m : ℕ) → f ≡ g → opens_list g ≡ true → m ≡ n → n < 64 → (opens_list f && nat_le 64 m) ≡ false
shallow f g n m e o same lt =
    ap (λ (x : Form). opens_list x && nat_le 64 m) e ∙ ap (λ (x : Bool). x && nat_le 64 m) o ∙ ap (λ (x : ℕ). nat_le 64 x) same ∙ (let k : nat_le 64 n ≡ false = grind (arith, nat_tests) in k)

no_element_after : (s : Syntax) (x : Trees) (p : List ℕ) → NoElement s p → NoElement (after_trees s x) p
no_element_after s x p none le = ap (λ (t : Tag). t.group) (tag_at_after s x p) ∙ none le

-- a known length is enclosed
fits_sequence : (k : Syntax) (declared : Length) (R : List ℕ → List ℕ → Type 0) (contents others : List ℕ) (head size : ℕ) → Enclosed k sequence_end_tag declared R contents others → size ≡ head + length contents
    → with_length head declared ≤ size
fits_sequence k (Known n) R contents others head size (i, parts, full, x) e = omega (arith, e, ap length parts, length-append i others, full)
fits_sequence k Undefined R contents others head size x e = omega (arith, e)

fits_item : (k : Syntax) (declared : Length) (R : List ℕ → List ℕ → Type 0) (contents others : List ℕ) (size : ℕ) → Enclosed k item_end_tag declared R contents others → size ≡ 8 + length contents
    → with_length 8 declared ≤ size
fits_item k (Known n) R contents others size (i, parts, full, x) e = omega (arith, e, ap length parts, length-append i others, full)
fits_item k Undefined R contents others size x e = omega (arith, e)

module _ (bar : HeadBar) where
  -- where a tree begins, or the trees end
  tree_begins : (inner : Level) (outer : List Level) (position n : ℕ) (r z p : List ℕ) (more : Trees) → TreesAt inner.syntax more r p → MayCome bar n more → TakesElements inner.container inner.declared → depth (inner ∷ outer) ≡ n
      → HasRoom (length r) (room position (inner ∷ outer)) → (r ≡ p → NoFault (place_stop bar inner (inner ∷ outer) position (r ++ z))) → NoFault (place_stop bar inner (inner ∷ outer) position (r ++ z))
  unfolding TreesAt MayCome
  tree_begins inner outer position n r z p no_tree at may takes deep has_room at_end = at_end at
  tree_begins inner outer position n r z p (leaf tag vr value rest) (others, fo, head, more) may takes deep has_room at_end =
      let s : Syntax = inner.syntax in
      let size = element_takes s tag vr (Known (length value)) r (order s vr value ++ others) head in
      let contents = length-append (order s vr value) others in
      let own = length-order s vr value in
      (element_place bar inner outer position r z (order s vr value ++ others) tag vr (Known (length value)) head (takes tag may.0) (has_form _ a_value fo refl) (no_list _ (nat_le 64 (depth (inner ∷ outer))) fo) may.1 has_room
      (omega (arith, size, contents, own)))
  tree_begins inner outer position n r z p (sequence tag vr declared items rest) (contents, others, fo, head, inner_at, more) may takes deep has_room at_end =
      let s : Syntax = inner.syntax in
      let size = element_takes s tag vr declared r contents head in
      (element_place bar inner outer position r z contents tag vr declared head (takes tag may.0) (has_form _ a_sequence fo refl) (shallow _ a_sequence n (depth (inner ∷ outer)) fo refl deep may.2) may.1 has_room
      (fits_sequence (inside s vr) declared (ItemsAt (inside s vr) items) contents others (head_size s vr) (length r) inner_at size))
  tree_begins inner outer position n r z p (fragments tag vr values rest) (contents, others, fo, head, inner_at, more) may takes deep has_room at_end =
      let s : Syntax = inner.syntax in
      (element_place bar inner outer position r z contents tag vr Undefined head (takes tag may.0) (has_form _ a_fragment_list fo refl) (shallow _ a_fragment_list n (depth (inner ∷ outer)) fo refl deep may.2) may.1 has_room
      (omega (arith, head.whole)))

  -- where an item begins, or the items end
  item_begins_here : (k : Syntax) (declared : Length) (begin : ℕ) (outer : List Level) (position : ℕ) (r z p : List ℕ) (more : Items) → ItemsAt k more r p
      → HasRoom (length r) (room position (level sequence_container k declared begin ∷ outer))
      → (r ≡ p → NoFault (place_stop bar (level sequence_container k declared begin) (level sequence_container k declared begin ∷ outer) position (r ++ z)))
      → NoFault (place_stop bar (level sequence_container k declared begin) (level sequence_container k declared begin ∷ outer) position (r ++ z))
  unfolding TreesAt
  item_begins_here k declared begin outer position r z p no_item at has_room at_end = at_end at
  item_begins_here k declared begin outer position r z p (item size set rest) (contents, others, head, inner, more) has_room at_end =
      let lv : Level = level sequence_container k declared begin in
      (item_place bar lv outer position r z contents size head (takes_items declared) refl has_room (fits_item k size (TreesAt k set) contents others (length r) inner (item_takes k size r contents head)))

  fragment_begins : (k : Syntax) (begin : ℕ) (outer : List Level) (position : ℕ) (r z p e : List ℕ) (more : List (List ℕ)) → FragmentsAt k more r p → Delimiter k sequence_end_tag p e
      → HasRoom (length r) (room position (level fragment_container k Undefined begin ∷ outer)) → NoFault (place_stop bar (level fragment_container k Undefined begin) (level fragment_container k Undefined begin ∷ outer) position (r ++ z))
  unfolding FragmentsAt
  fragment_begins k begin outer position r z p e [] at delimiter has_room =
      let lv : Level = level fragment_container k Undefined begin in
      (delimiter_place bar lv outer position r z e sequence_end_tag (subst (λ (x : List ℕ). Delimiter k sequence_end_tag x e) (sym at) delimiter) ends_fragments refl refl has_room)
  fragment_begins k begin outer position r z p e (v ∷ vs) (others, head, more) delimiter has_room =
      let lv : Level = level fragment_container k Undefined begin in
      (item_place bar lv outer position r z (v ++ others) (Known (length v)) head takes_fragments refl has_room (omega (arith, item_takes k (Known (length v)) r (v ++ others) head, length-append v others)))

  fragment_goes_on : (k : Syntax) (position : ℕ) (size : ℕ) (value d r z p e : List ℕ) (more : List (List ℕ)) → FragmentsAt k more (d ++ r) p → Delimiter k sequence_end_tag p e → length value < size → ItemHead k (Known size) d value
      → NoFault (value_stop position (r ++ z))
  unfolding FragmentsAt
  fragment_goes_on k position size value d r z p e [] at delimiter lt head =
      absurd (item_begins k _ (d ++ r) _ (item_extends k (Known size) d value r head) (subst (NoItem k) (sym at) (delimiter_NoItem k p e delimiter)))
  fragment_goes_on k position size value d r z p e (v ∷ vs) (others, head', more) delimiter lt head =
      let h = item_same k (Known size) (Known (length v)) (d ++ r) (value ++ r) (v ++ others) (item_extends k (Known size) d value r head) head' in
      let sizes : size ≡ length v = known_same _ _ h.0 in
      value_fine position r z (omega (arith, lt, sizes, ap length h.1, length-append value r, length-append v others))

  -- within a value
  leaf_goes_on : (s : Syntax) (position : ℕ) (tag : Tag) (vr : Vr) (size : ℕ) (value d r z p : List ℕ) (more : Trees) → TreesAt s more (d ++ r) p → NoElement s p → form s (read_as s tag vr) (Known size) ≡ a_value → length value < size
      → ElementHead s tag vr (Known size) d (order s vr value) → NoFault (value_stop position (r ++ z))
  unfolding TreesAt
  leaf_goes_on s position tag vr size value d r z p no_tree at none fo lt head = absurd (element_begins s _ _ _ (d ++ r) _ (element_extends s tag vr (Known size) d (order s vr value) r head) (subst (NoElement s) (sym at) none))
  leaf_goes_on s position tag vr size value d r z p (leaf tag' vr' value' rest) (others, fo', head', more) none fo lt head =
      let h = element_same s tag tag' vr vr' (Known size) (Known (length value')) (d ++ r) (order s vr value ++ r) (order s vr' value' ++ others) (element_extends s tag vr (Known size) d (order s vr value) r head) head' in
      let sizes : size ≡ length value' = known_same _ _ h.lengths in
      value_fine position r z (omega (arith, lt, sizes, ap length h.contents, length-append (order s vr value) r, length-append (order s vr' value') others, length-order s vr value, length-order s vr' value'))
  leaf_goes_on s position tag vr size value d r z p (sequence tag' vr' declared' items' rest) (contents, others, fo', head', inner, more) none fo lt head =
      absurd (value_sequence (forms_same s _ _ _ _ _ _ (d ++ r) _ _ _ _ fo fo' (element_extends s tag vr (Known size) d (order s vr value) r head) head'))
  leaf_goes_on s position tag vr size value d r z p (fragments tag' vr' values' rest) (contents, others, fo', head', inner, more) none fo lt head =
      absurd (value_fragments (forms_same s _ _ _ _ _ _ (d ++ r) _ _ _ _ fo fo' (element_extends s tag vr (Known size) d (order s vr value) r head) head'))

  -- ---- within a list

  -- what is open in a sequence has no fault, however much of the sequence is to come
  abbrev ItemFine : (k : Syntax) (last : OpenItem) (declared : Length) (begin : ℕ) (outer : List Level) (position at : ℕ) (d : List ℕ) (n : ℕ) → Type 0
  ItemFine k last declared begin outer position at d n =
      (m z p : List ℕ) (items : Items) → ItemsAt k items (d ++ m) p → NoItem k p → ItemsMayCome bar n items → HasRoom (length m) (room position (level sequence_container k declared begin ∷ outer))
      → (is_open_item last ≡ false → m ≡ p → NoFault (place_stop bar (level sequence_container k declared begin) (level sequence_container k declared begin ∷ outer) position (m ++ z)))
      → NoFault (stop_here bar (value_open_in_item last) (item_levels k at (level sequence_container k declared begin ∷ outer) last) position (m ++ z))

  sequence_goes_on : (s : Syntax) (tag : Tag) (vr : Vr) (declared : Length) (items : Items) (last : OpenItem) (begin position n : ℕ) (outer : List Level) (contents others d r z p : List ℕ) (more : Trees)
      → TreesAt s more (d ++ r) p → NoElement s p → MayCome bar n more → form s (read_as s tag vr) declared ≡ a_sequence → ElementHead s tag vr declared d contents → StaysOpen declared (is_open_item last) contents
      → ItemsAt (inside s vr) items contents others → position ≡ begin + length d → HasRoom (length r) (room position outer)
      → ItemFine (inside s vr) last declared (begin + head_size s vr) outer position (begin + head_size s vr + items_size (inside s vr) items) others (suc n)
      → NoFault (stop_here bar (value_open_in_item last) (item_levels (inside s vr) (begin + head_size s vr + items_size (inside s vr) items) (level sequence_container (inside s vr) declared (begin + head_size s vr) ∷ outer) last) position (r ++ z))
  unfolding TreesAt MayCome room
  sequence_goes_on s tag vr declared items last begin position n outer contents others d r z p no_tree at none may fo head stays items_at place has_room step =
      absurd (element_begins s _ _ _ (d ++ r) _ (element_extends s tag vr declared d contents r head) (subst (NoElement s) (sym at) none))
  sequence_goes_on s tag vr declared items last begin position n outer contents others d r z p (leaf tag' vr' value' rest) (others', fo', head', more) none may fo head stays items_at place has_room step =
      absurd (value_sequence (forms_same s _ _ _ _ _ _ (d ++ r) _ _ _ _ fo' fo head' (element_extends s tag vr declared d contents r head)))
  sequence_goes_on s tag vr declared items last begin position n outer contents others d r z p (fragments tag' vr' values' rest) (contents', others', fo', head', inner', more) none may fo head stays items_at place has_room step =
      absurd (sequence_fragments (forms_same s _ _ _ _ _ _ (d ++ r) _ _ _ _ fo fo' (element_extends s tag vr declared d contents r head) head'))
  sequence_goes_on s tag vr declared items last begin position n outer contents others d r z p (sequence tag' vr' declared' items' rest) (contents', others', fo', head', inner', more) none may fo head stays items_at place has_room step =
      let k : Syntax = inside s vr in
      let b : ℕ = begin + head_size s vr in
      let h = element_same s tag tag' vr vr' declared declared' (d ++ r) (contents ++ r) contents' (element_extends s tag vr declared d contents r head) head' in
      let inner = enclosed_along s vr vr' declared declared' items' (contents ++ r) contents' others' h.vrs h.lengths h.contents inner' in
      let g = region k sequence_end_tag declared (ItemsAt k items') contents r z others' b position (is_open_item last) (room position outer) inner stays (omega (arith, place, element_takes s tag vr declared d contents head)) has_room in
      let end = no_more_items k g.end g.ends in
      let l = left_items bar (suc n) k items items' (contents ++ g.more) (others ++ g.more) g.end (items_extend k items contents others g.more items_at) g.holds end may.3 in
      let rooms = least_room (length g.more) (distance position (end_of declared b)) (room position outer) g.own_room g.room_around in
      let lv : Level = level sequence_container k declared b in
      subst (λ (x : List ℕ). NoFault (stop_here bar (value_open_in_item last) (item_levels k (b + items_size k items) (lv ∷ outer) last) position x)) (sym g.rest_is)
      (step g.more g.beyond g.end l.items l.spelled end l.may rooms
      (λ closed same. let e = g.delimited closed same in (delimiter_place bar lv outer position g.more g.beyond e.1.0 sequence_end_tag e.1.1 (ends_sequence declared e.0) refl refl rooms)))

  -- what applies where a data set may end
  abbrev pub AtEnd : (s : Syntax) (container : Container) (declared : Length) (begin : ℕ) (outer : List Level) (position : ℕ) (m z p : List ℕ) (held : Bool) → Type 0
  AtEnd s container declared begin outer position m z p held =
      held ≡ false → m ≡ p → (q : Syntax) → ((b : List ℕ) → tag_at q b ≡ tag_at s b)
      → NoFault (place_stop bar (level container q declared begin) (level container q declared begin ∷ outer) position (m ++ z))

  abbrev SetFine : (k : Syntax) (set : Front) (size : Length) (begin : ℕ) (outer : List Level) (position : ℕ) (c : List ℕ) (n : ℕ) → Type 0
  SetFine k set size begin outer position c n =
      (m z p : List ℕ) (trees : Trees) → TreesAt k trees (c ++ m) p → NoElement k p → MayCome bar n trees → HasRoom (length m) (room position outer) → HasRoom (length m) (distance position (end_of size begin))
      → AtEnd k an_item size begin outer position m z p (holds_open set)
      → NoFault (stop_here bar (value_open set) (set_levels k an_item size begin outer set) position (m ++ z))

  item_goes_on : (k : Syntax) (size : Length) (set : Front) (at position n : ℕ) (outer : List Level) (contents d r z p : List ℕ) (more : Items) → ItemsAt k more (d ++ r) p → NoItem k p → ItemsMayCome bar n more
      → ItemHead k size d contents → StaysOpen size (holds_open set) contents → position ≡ at + length d → HasRoom (length r) (room position outer) → SetFine k set size (at + 8) outer position contents n
      → NoFault (stop_here bar (value_open set) (set_levels k an_item size (at + 8) outer set) position (r ++ z))
  unfolding TreesAt MayCome room
  item_goes_on k size set at position n outer contents d r z p no_item items_at none may head stays place has_room step =
      absurd (item_begins k _ (d ++ r) _ (item_extends k size d contents r head) (subst (NoItem k) (sym items_at) none))
  item_goes_on k size set at position n outer contents d r z p (item size' set' rest) (contents', others', head', inner', more) none may head stays place has_room step =
      let h = item_same k size size' (d ++ r) (contents ++ r) contents' (item_extends k size d contents r head) head' in
      let inner1 = subst (λ (x : Length). Enclosed k item_end_tag x (TreesAt k set') contents' others') (sym h.0) inner' in
      let inner2 = subst (λ (x : List ℕ). Enclosed k item_end_tag size (TreesAt k set') x others') (sym h.1) inner1 in
      let g = region k item_end_tag size (TreesAt k set') contents r z others' (at + 8) position (holds_open set) (room position outer) inner2 stays (omega (arith, place, item_takes k size d contents head)) has_room in
      let rooms = least_room (length g.more) (distance position (end_of size (at + 8))) (room position outer) g.own_room g.room_around in
      subst (λ (x : List ℕ). NoFault (stop_here bar (value_open set) (set_levels k an_item size (at + 8) outer set) position x)) (sym g.rest_is)
      (step g.more g.beyond g.end set' g.holds (no_more_elements k g.end g.ends) may.0 g.room_around g.own_room
      (λ closed same q tags. let e = g.delimited closed same in let lv : Level = level an_item q size (at + 8) in (delimiter_place bar lv outer position g.more g.beyond e.1.0 item_end_tag (record { tag_is = e.1.1.tag_is ∙ sym (tags g.more); whole = e.1.1.whole; after_is = e.1.1.after_is }) (ends_item size e.0) refl refl rooms)))

  last_fragment : (s : Syntax) (last : Option (ℕ × List ℕ)) (begin position : ℕ) (outer : List Level) (d r z p e : List ℕ) (more : List (List ℕ)) → SpellsOpenFragment s last d → FragmentsAt s more (d ++ r) p → Delimiter s sequence_end_tag p e
      → HasRoom (length r) (room position (level fragment_container s Undefined begin ∷ outer)) → NoFault (stop_here bar (is_some last) (level fragment_container s Undefined begin ∷ outer) position (r ++ z))
  last_fragment s None begin position outer d r z p e more last at delimiter has_room =
      fragment_begins s begin outer position r z p e more (subst (λ (x : List ℕ). FragmentsAt s more (x ++ r) p) last at) delimiter has_room
  last_fragment s (Some fragment) begin position outer d r z p e more last at delimiter has_room =
      fragment_goes_on s position fragment.0 fragment.1 d r z p e more at delimiter last.0 last.1

  fragments_go_on : (s : Syntax) (tag : Tag) (vr : Vr) (values : List (List ℕ)) (last : Option (ℕ × List ℕ)) (begin position : ℕ) (outer : List Level) (contents others d r z p : List ℕ) (more : Trees)
      → TreesAt s more (d ++ r) p → NoElement s p → form s (read_as s tag vr) Undefined ≡ a_fragment_list → ElementHead s tag vr Undefined d contents → FragmentsAt s values contents others → SpellsOpenFragment s last others
      → HasRoom (length r) (room position outer) → NoFault (stop_here bar (is_some last) (level fragment_container s Undefined (begin + head_size s vr) ∷ outer) position (r ++ z))
  unfolding TreesAt room
  fragments_go_on s tag vr values last begin position outer contents others d r z p no_tree at none fo head values_at last_at has_room =
      absurd (element_begins s _ _ _ (d ++ r) _ (element_extends s tag vr Undefined d contents r head) (subst (NoElement s) (sym at) none))
  fragments_go_on s tag vr values last begin position outer contents others d r z p (leaf tag' vr' value' rest) (others', fo', head', more) none fo head values_at last_at has_room =
      absurd (value_fragments (forms_same s _ _ _ _ _ _ (d ++ r) _ _ _ _ fo' fo head' (element_extends s tag vr Undefined d contents r head)))
  fragments_go_on s tag vr values last begin position outer contents others d r z p (sequence tag' vr' declared' items' rest) (contents', others', fo', head', inner', more) none fo head values_at last_at has_room =
      absurd (sequence_fragments (forms_same s _ _ _ _ _ _ (d ++ r) _ _ _ _ fo' fo head' (element_extends s tag vr Undefined d contents r head)))
  fragments_go_on s tag vr values last begin position outer contents others d r z p (fragments tag' vr' values' rest) (contents', others', fo', head', (end, values_at', delimiter), more) none fo head values_at last_at has_room =
      let h = element_same s tag tag' vr vr' Undefined Undefined (d ++ r) (contents ++ r) contents' (element_extends s tag vr Undefined d contents r head) head' in
      let l = left_fragments s values values' (contents ++ r) (others ++ r) end (fragments_extend s values contents others r values_at) (subst (λ (x : List ℕ). FragmentsAt s values' x end) (sym h.contents) values_at') (delimiter_NoItem s end others' delimiter) in
      last_fragment s last (begin + head_size s vr) position outer others r z end others' l.0 last_at l.1 delimiter has_room

-- ---- a data set as far as it was read

deeper : (k : Syntax) (declared : Length) (begin n : ℕ) (around : List Level) → depth around ≡ n → depth (level sequence_container k declared begin ∷ around) ≡ suc n
unfolding depth
deeper k declared begin n around h = omega (arith, h)

in_item : (k q : Syntax) (declared size : Length) (begin at n : ℕ) (outer : List Level) → depth (level sequence_container k declared begin ∷ outer) ≡ n → depth (level an_item q size at ∷ level sequence_container k declared begin ∷ outer) ≡ n
unfolding depth
in_item k q declared size begin at n outer h = omega (arith, h)

mutual
  unfolding SpellsFront set_levels value_open room

  pub set_fine : (bar : HeadBar) (s : Syntax) (f : Front) (container : Container) (declared : Length) (begin position n : ℕ) (outer : List Level) (c r z p : List ℕ) (set : Trees) → SpellsFront s f c → TreesAt s set (c ++ r) p → NoElement s p
      → MayCome bar n set → TakesElements container declared → ((q : Syntax) → depth (level container q declared begin ∷ outer) ≡ n) → position ≡ begin + length c → HasRoom (length r) (room position outer)
      → HasRoom (length r) (distance position (end_of declared begin)) → AtEnd bar s container declared begin outer position r z p (holds_open f)
      → NoFault (stop_here bar (value_open f) (set_levels s container declared begin outer f) position (r ++ z))
  set_fine bar s (front whole o reached closed) container declared begin position n outer c r z p set (others, at, open_at, re, cl) set_at none may takes deep place has_room own_room at_end =
      let k : Syntax = after_trees s whole in
      let l = left_trees bar n s whole set (c ++ r) (others ++ r) p (trees_extend s whole c others r at) set_at none may in
      tree_fine bar o (level container k declared begin) outer (begin + trees_size s whole) position n others r z p l.trees open_at l.spelled (no_element_after s whole p none) l.may takes (deep k)
      (omega (arith, place, trees_take s whole c others at)) (least_room (length r) (distance position (end_of declared begin)) (room position outer) own_room has_room) (λ closed same. at_end closed same k (tag_at_after s whole))

  tree_fine : (bar : HeadBar) (o : OpenTree) (inner : Level) (outer : List Level) (begin position n : ℕ) (d r z p : List ℕ) (more : Trees) → SpellsOpen inner.syntax o d → TreesAt inner.syntax more (d ++ r) p → NoElement inner.syntax p
      → MayCome bar n more → TakesElements inner.container inner.declared → depth (inner ∷ outer) ≡ n → position ≡ begin + length d → HasRoom (length r) (room position (inner ∷ outer))
      → (is_open o ≡ false → r ≡ p → NoFault (place_stop bar inner (inner ∷ outer) position (r ++ z)))
      → NoFault (stop_here bar (value_open_in_tree o) (tree_levels inner.syntax begin (inner ∷ outer) o) position (r ++ z))
  tree_fine bar nothing_open inner outer begin position n d r z p more open_at at none may takes deep place has_room at_end =
      tree_begins bar inner outer position n r z p more (subst (λ (x : List ℕ). TreesAt inner.syntax more (x ++ r) p) open_at at) may takes deep has_room (at_end refl)
  tree_fine bar (open_leaf tag vr size value) inner outer begin position n d r z p more (fo, lt, head) at none may takes deep place has_room at_end =
      leaf_goes_on bar inner.syntax position tag vr size value d r z p more at none fo lt head
  tree_fine bar (open_sequence tag vr declared items last) inner outer begin position n d r z p more (contents, others, fo, head, stays, items_at, last_at) at none may takes deep place has_room at_end =
      let s : Syntax = inner.syntax in
      let k : Syntax = inside s vr in
      let b : ℕ = begin + head_size s vr in
      sequence_goes_on bar s tag vr declared items last begin position n (inner ∷ outer) contents others d r z p more at none may fo head stays items_at place has_room
      (λ m y q its its_at no_more its_may rooms ends. item_fine bar last k declared b (inner ∷ outer) position (b + items_size k items) (suc n) others m y q its last_at its_at no_more its_may (deeper k declared b n (inner ∷ outer) deep)
      (omega (arith, place, element_takes s tag vr declared d contents head, items_take k items contents others items_at)) rooms ends)
  tree_fine bar (open_fragments tag vr values last) inner outer begin position n d r z p more (contents, others, fo, head, values_at, last_at) at none may takes deep place has_room at_end =
      fragments_go_on bar inner.syntax tag vr values last begin position (inner ∷ outer) contents others d r z p more at none fo head values_at last_at has_room

  item_fine : (bar : HeadBar) (last : OpenItem) (k : Syntax) (declared : Length) (begin : ℕ) (outer : List Level) (position at n : ℕ) (d r z p : List ℕ) (more : Items) → SpellsOpenItem k last d → ItemsAt k more (d ++ r) p → NoItem k p
      → ItemsMayCome bar n more → depth (level sequence_container k declared begin ∷ outer) ≡ n → position ≡ at + length d → HasRoom (length r) (room position (level sequence_container k declared begin ∷ outer))
      → (is_open_item last ≡ false → r ≡ p → NoFault (place_stop bar (level sequence_container k declared begin) (level sequence_container k declared begin ∷ outer) position (r ++ z)))
      → NoFault (stop_here bar (value_open_in_item last) (item_levels k at (level sequence_container k declared begin ∷ outer) last) position (r ++ z))
  item_fine bar no_open_item k declared begin outer position at n d r z p more last_at items_at none may deep place has_room at_end =
      item_begins_here bar k declared begin outer position r z p more (subst (λ (x : List ℕ). ItemsAt k more (x ++ r) p) last_at items_at) has_room (at_end refl)
  item_fine bar (open_item size set) k declared begin outer position at n d r z p more (contents, head, stays, spelled) items_at none may deep place has_room at_end =
      let ls : List Level = level sequence_container k declared begin ∷ outer in
      item_goes_on bar k size set at position n ls contents d r z p more items_at none may head stays place has_room
      (λ m y q trees trees_at no_more trees_may around own ends. set_fine bar k set an_item size (at + 8) position n ls contents m y q trees spelled trees_at no_more trees_may (item_takes_elements size)
      (λ x. in_item k x declared size begin (at + 8) n outer deep) (omega (arith, place, item_takes k size d contents head)) around own ends)
