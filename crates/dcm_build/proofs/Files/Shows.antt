-- The atoms of a data set that is built, step by step.
use Rattle.std.proofs.Common.{◌≡◌, ◌∙◌, ap, sym, refl, subst, ℕ, List, [], ◌∷◌, ◌++◌, length, map, Option, Some, None, Bool, true, false}
use Rattle.dcm_base.specs.declared.tag.Tag.{Tag}
use Rattle.dcm_base.specs.declared.vr.Vr.{Vr}
use Rattle.dcm_base.specs.Tables.Syntax.{Little}
use Rattle.dcm_base.specs.declared.length.Length.TheVariants.{Known, Undefined}
use Rattle.dcm_base.specs.declared.form.Form.TheVariants.{Value as a_value, Sequence as a_sequence, FragmentList as a_fragment_list}
use Rattle.dcm_base.specs.declared.level.Container.TheVariants.{Sequence as a_sequence_container, FragmentList as a_fragment_container}
use Rattle.dcm_base.specs.Tree.Tree.{Trees, no_tree, leaf, sequence, fragments, Items, no_item, item, then_trees, then_items}
use Rattle.dcm_base.specs.Tree.Front.{Front, front, nothing_open, open_leaf, open_sequence, open_fragments, no_open_item, open_item}
use Rattle.dcm_base.specs.Bytes.Spelling.{form, last_tag}
use Rattle.dcm_base.specs.Tree.Value.{order}
use Rattle.dcm_base.specs.Steps.Atoms.{Atom, opens, value_byte, closes_leaf, opens_item, closes_item, closes_sequence, opens_fragment, fragments_then, ShowTrees, ShowItems, Shows, is_closed}
use Rattle.dcm_base.specs.Lines.Line.{Step, show_leaf, begin_sequence, begin_fragments, begin_item, show_fragment, end_item, end_sequence}
use Rattle.dcm_base.specs.Lines.Build.{has_place_in, no_elements, with_step, step_in_item, finished}
use Rattle.dcm_build.specs.Building.{value_atoms, step_atoms}
use Rattle.dcm_build.proofs.Files.OpenContainers.{Where, the_top, within, standing_at, standing_in, standing_of, HasPlace, IsBuilt, nothing_in, InItem, ends_it, goes_on, in_item, around, no_end_at_top}

-- ---- trees and what follows them

value_then : (v : List ℕ) (others more : List Atom) → (map value_byte v ++ closes_leaf ∷ others) ++ more ≡ map value_byte v ++ closes_leaf ∷ (others ++ more)
value_then [] others more = refl
value_then (b ∷ bs) others more = ap (λ (z : List Atom). value_byte b ∷ z) (value_then bs others more)

fragments_grow : (values : List (List ℕ)) (others more : List Atom) → fragments_then values others ++ more ≡ fragments_then values (others ++ more)
unfolding fragments_then
fragments_grow [] others more = refl
fragments_grow (value ∷ rest) others more =
    ap (λ (z : List Atom). opens_fragment (length value) ∷ z)
    (value_then value (fragments_then rest others) more ∙ ap (λ (z : List Atom). map value_byte value ++ closes_leaf ∷ z) (fragments_grow rest others more))

one_more_fragment : (values : List (List ℕ)) (v : List ℕ) (others : List Atom) → fragments_then (values ++ v ∷ []) others ≡ fragments_then values (fragments_then (v ∷ []) others)
unfolding fragments_then
one_more_fragment [] v others = refl
one_more_fragment (value ∷ rest) v others = ap (λ (z : List Atom). opens_fragment (length value) ∷ (map value_byte value ++ closes_leaf ∷ z)) (one_more_fragment rest v others)

mutual
  unfolding ShowTrees

  trees_grow : (x : Trees) (atoms after more : List Atom) → ShowTrees x atoms after → ShowTrees x (atoms ++ more) (after ++ more)
  trees_grow no_tree atoms after more w = ap (λ (z : List Atom). z ++ more) w
  trees_grow (leaf tag vr value rest) atoms after more w =
      (w.0, w.1 ++ more, w.2, ap (λ (z : List Atom). z ++ more) w.3 ∙ ap (λ (z : List Atom). opens tag vr (Known (length value)) w.0 ∷ z) (value_then (order w.0 vr value) w.1 more), trees_grow rest w.1 after more w.4)
  trees_grow (sequence tag vr declared items rest) atoms after more w =
      (w.0, w.1 ++ more, w.2 ++ more, w.3, ap (λ (z : List Atom). z ++ more) w.4, items_grow items w.1 (closes_sequence ∷ w.2) more w.5, trees_grow rest w.2 after more w.6)
  trees_grow (fragments tag vr values rest) atoms after more w =
      (w.0, w.1 ++ more, w.2, ap (λ (z : List Atom). z ++ more) w.3 ∙ ap (λ (z : List Atom). opens tag vr Undefined w.0 ∷ z) (fragments_grow values (closes_sequence ∷ w.1) more), trees_grow rest w.1 after more w.4)

  items_grow : (x : Items) (atoms after more : List Atom) → ShowItems x atoms after → ShowItems x (atoms ++ more) (after ++ more)
  items_grow no_item atoms after more w = ap (λ (z : List Atom). z ++ more) w
  items_grow (item declared set rest) atoms after more w =
      (w.0 ++ more, w.1 ++ more, ap (λ (z : List Atom). z ++ more) w.2, trees_grow set w.0 (closes_item ∷ w.1) more w.3, items_grow rest w.1 after more w.4)

trees_joined : (x y : Trees) (atoms mid after : List Atom) → ShowTrees x atoms mid → ShowTrees y mid after → ShowTrees (then_trees x y) atoms after
unfolding ShowTrees
trees_joined no_tree y atoms mid after w v = subst (λ (z : List Atom). ShowTrees y z after) (sym w) v
trees_joined (leaf tag vr value rest) y atoms mid after w v = (w.0, w.1, w.2, w.3, trees_joined rest y w.1 mid after w.4 v)
trees_joined (sequence tag vr declared items rest) y atoms mid after w v = (w.0, w.1, w.2, w.3, w.4, w.5, trees_joined rest y w.2 mid after w.6 v)
trees_joined (fragments tag vr values rest) y atoms mid after w v = (w.0, w.1, w.2, w.3, trees_joined rest y w.1 mid after w.4 v)

items_joined : (x y : Items) (atoms mid after : List Atom) → ShowItems x atoms mid → ShowItems y mid after → ShowItems (then_items x y) atoms after
unfolding ShowTrees
items_joined no_item y atoms mid after w v = subst (λ (z : List Atom). ShowItems y z after) (sym w) v
items_joined (item declared set rest) y atoms mid after w v = (w.0, w.1, w.2, w.3, items_joined rest y w.1 mid after w.4 v)

last_behind : (before : Option Tag) (x y : Trees) (t : Option Tag) → ((b : Option Tag) → last_tag b y ≡ t) → last_tag before (then_trees x y) ≡ t
unfolding last_tag
last_behind before no_tree y t h = h before
last_behind before (leaf tag vr value rest) y t h = last_behind (Some tag) rest y t h
last_behind before (sequence tag vr declared items rest) y t h = last_behind (Some tag) rest y t h
last_behind before (fragments tag vr values rest) y t h = last_behind (Some tag) rest y t h

-- ---- one step more

-- what its element holds stands as the step says
abbrev pub HasForm : Step → Type 0
HasForm (show_leaf tag vr None) = Unit {0}
HasForm (show_leaf tag vr (Some value)) = (n : ℕ) → form Little vr (Known n) ≡ a_value
HasForm (begin_sequence tag vr) = form Little vr Undefined ≡ a_sequence
HasForm (begin_fragments tag vr) = form Little vr Undefined ≡ a_fragment_list
HasForm _ = Unit {0}

-- and its value is there
abbrev pub HasValue : Step → Type 0
HasValue (show_leaf tag vr None) = ⊥
HasValue (show_fragment None) = ⊥
HasValue _ = Unit {0}

pub record Grown (f : Front) (atoms : List Atom) : Type 0 where
  pub shows : Shows f atoms
  pub built : IsBuilt f

abbrev grown_by : Step → Front → List Atom → Type 0
grown_by step f atoms = Grown (with_step step f) (atoms ++ step_atoms step)

value_grown : (tag : Tag) (vr : Vr) (v : List ℕ) (whole : Trees) (reached : Option Tag) (atoms : List Atom) → form Little vr (Known (length v)) ≡ a_value → Shows (front whole nothing_open reached false) atoms
    → Grown (front (then_trees whole (leaf tag vr v no_tree)) nothing_open (Some tag) false) (atoms ++ opens tag vr (Known (length v)) Little ∷ value_atoms v)
unfolding Shows ShowTrees IsBuilt last_tag
value_grown tag vr v whole reached atoms f w =
    let more : List Atom = opens tag vr (Known (length v)) Little ∷ value_atoms v in
    record {
      shows = (
        [],
        trees_joined whole (leaf tag vr v no_tree) (atoms ++ more) more [] (subst (λ (z : List Atom). ShowTrees whole (atoms ++ more) (z ++ more)) w.2 (trees_grow whole atoms w.0 more w.1)) (Little, [], f, refl, refl),
        refl,
        tt,
        sym (last_behind None whole (leaf tag vr v no_tree) (Some tag) (λ b. refl)),
      );
      built = (refl, tt);
    }

-- the step shows or opens an element
abbrev IsElement : Step → Type 0
IsElement (show_leaf tag vr value) = Unit {0}
IsElement (begin_sequence tag vr) = Unit {0}
IsElement (begin_fragments tag vr) = Unit {0}
IsElement _ = ⊥

element_step : (w : Where) (reached : Option Tag) (step : Step) → HasPlace step (standing_at w reached) → (end_item ≡ step → ⊥) → IsElement step
element_step w reached (show_leaf tag vr value) h e = tt
element_step w reached (begin_sequence tag vr) h e = tt
element_step w reached (begin_fragments tag vr) h e = tt
element_step the_top reached begin_item h e = absurd (cc)
element_step (within top outer) reached begin_item h e = absurd (cc)
element_step the_top reached (show_fragment value) h e = absurd (cc)
element_step (within top outer) reached (show_fragment value) h e = absurd (cc)
element_step w reached end_item h e = e refl
element_step the_top reached end_sequence h e = absurd (cc)
element_step (within top outer) reached end_sequence h e = absurd (cc)

in_set_grown : (step : Step) (whole : Trees) (reached : Option Tag) (atoms : List Atom) → IsElement step → HasForm step → HasValue step → Shows (front whole nothing_open reached false) atoms → grown_by step (front whole nothing_open reached false) atoms
unfolding Shows ShowTrees IsBuilt with_step fragments_then
in_set_grown (show_leaf tag vr None) whole reached atoms i f v w = absurd v
in_set_grown (show_leaf tag vr (Some value)) whole reached atoms i f v w = value_grown tag vr value whole reached atoms (f (length value)) w
in_set_grown (begin_sequence tag vr) whole reached atoms i f v w =
    let more : List Atom = opens tag vr Undefined Little ∷ [] in
    record {
      shows = (more, subst (λ (z : List Atom). ShowTrees whole (atoms ++ more) (z ++ more)) w.2 (trees_grow whole atoms w.0 more w.1), (Little, [], [], f, refl, refl, refl), tt, refl);
      built = (refl, (refl, tt));
    }
in_set_grown (begin_fragments tag vr) whole reached atoms i f v w =
    let more : List Atom = opens tag vr Undefined Little ∷ [] in
    record {
      shows = (more, subst (λ (z : List Atom). ShowTrees whole (atoms ++ more) (z ++ more)) w.2 (trees_grow whole atoms w.0 more w.1), (Little, f, tt, refl), tt, refl);
      built = (refl, refl);
    }
in_set_grown begin_item whole reached atoms i f v w = absurd i
in_set_grown (show_fragment value) whole reached atoms i f v w = absurd i
in_set_grown end_item whole reached atoms i f v w = absurd i
in_set_grown end_sequence whole reached atoms i f v w = absurd i

in_fragments_grown : (step : Step) (whole : Trees) (tag : Tag) (vr : Vr) (values : List (List ℕ)) (reached : Option Tag) (atoms : List Atom) → has_place_in a_fragment_container step ≡ true → HasValue step
    → Shows (front whole (open_fragments tag vr values None) reached false) atoms → grown_by step (front whole (open_fragments tag vr values None) reached false) atoms
unfolding Shows ShowTrees IsBuilt with_step fragments_then last_tag
in_fragments_grown (show_leaf t r value) whole tag vr values reached atoms h v w = absurd (cc)
in_fragments_grown (begin_sequence t r) whole tag vr values reached atoms h v w = absurd (cc)
in_fragments_grown (begin_fragments t r) whole tag vr values reached atoms h v w = absurd (cc)
in_fragments_grown begin_item whole tag vr values reached atoms h v w = absurd (cc)
in_fragments_grown end_item whole tag vr values reached atoms h v w = absurd (cc)
in_fragments_grown (show_fragment None) whole tag vr values reached atoms h v w = absurd v
in_fragments_grown (show_fragment (Some value)) whole tag vr values reached atoms h v w =
    let more : List Atom = opens_fragment (length value) ∷ value_atoms value in
    record {
      shows = (
        w.0 ++ more,
        trees_grow whole atoms w.0 more w.1,
        (
          w.2.0,
          w.2.1,
          tt,
          ap (λ (z : List Atom). z ++ more) w.2.3
              ∙ ap (λ (z : List Atom). opens tag vr Undefined w.2.0 ∷ z) (fragments_grow values [] more ∙ sym (one_more_fragment values value [])),
        ),
        tt,
        w.4,
      );
      built = (refl, refl);
    }
in_fragments_grown end_sequence whole tag vr values reached atoms h v w =
    let more : List Atom = closes_sequence ∷ [] in
    record {
      shows = (
        [],
        trees_joined whole (fragments tag vr values no_tree) (atoms ++ more) (w.0 ++ more) [] (trees_grow whole atoms w.0 more w.1)
            (w.2.0, [], w.2.1, ap (λ (z : List Atom). z ++ more) w.2.3 ∙ ap (λ (z : List Atom). opens tag vr Undefined w.2.0 ∷ z) (fragments_grow values [] more), refl),
        refl,
        tt,
        w.4 ∙ sym (last_behind None whole (fragments tag vr values no_tree) (Some tag) (λ b. refl)),
      );
      built = (refl, tt);
    }

in_sequence_grown : (step : Step) (whole : Trees) (tag : Tag) (vr : Vr) (items : Items) (reached : Option Tag) (atoms : List Atom) → has_place_in a_sequence_container step ≡ true
    → Shows (front whole (open_sequence tag vr Undefined items no_open_item) reached false) atoms → grown_by step (front whole (open_sequence tag vr Undefined items no_open_item) reached false) atoms
unfolding Shows ShowTrees IsBuilt with_step last_tag
in_sequence_grown (show_leaf t r value) whole tag vr items reached atoms h w = absurd (cc)
in_sequence_grown (begin_sequence t r) whole tag vr items reached atoms h w = absurd (cc)
in_sequence_grown (begin_fragments t r) whole tag vr items reached atoms h w = absurd (cc)
in_sequence_grown (show_fragment value) whole tag vr items reached atoms h w = absurd (cc)
in_sequence_grown end_item whole tag vr items reached atoms h w = absurd (cc)
in_sequence_grown begin_item whole tag vr items reached atoms h w =
    let more : List Atom = opens_item Undefined ∷ [] in
    let o = w.2 in
    record {
      shows = (
        w.0 ++ more,
        trees_grow whole atoms w.0 more w.1,
        (
          o.0,
          o.1 ++ more,
          o.2 ++ more,
          o.3,
          ap (λ (z : List Atom). z ++ more) o.4,
          items_grow items o.1 o.2 more o.5,
          ([], ap (λ (z : List Atom). z ++ more) o.6, refl, ([], refl, refl, tt, refl)),
        ),
        tt,
        w.4,
      );
      built = (refl, (refl, (refl, (refl, tt))));
    }
in_sequence_grown end_sequence whole tag vr items reached atoms h w =
    let more : List Atom = closes_sequence ∷ [] in
    let o = w.2 in
    record {
      shows = (
        [],
        trees_joined whole (sequence tag vr Undefined items no_tree) (atoms ++ more) (w.0 ++ more) [] (trees_grow whole atoms w.0 more w.1)
            (o.0, o.1 ++ more, [], o.3, ap (λ (z : List Atom). z ++ more) o.4, subst (λ (z : List Atom). ShowItems items (o.1 ++ more) (z ++ more)) o.6 (items_grow items o.1 o.2 more o.5), refl),
        refl,
        tt,
        w.4 ∙ sym (last_behind None whole (sequence tag vr Undefined items no_tree) (Some tag) (λ b. refl)),
      );
      built = (refl, tt);
    }

-- where the step ends the item
item_ended : (whole : Trees) (tag : Tag) (vr : Vr) (items : Items) (inner : Trees) (r : Option Tag) (reached : Option Tag) (atoms : List Atom)
    → Shows (front whole (open_sequence tag vr Undefined items (open_item Undefined (front inner nothing_open r false))) reached false) atoms
    → Grown (front whole (open_sequence tag vr Undefined (then_items items (item Undefined inner no_item)) no_open_item) reached false) (atoms ++ closes_item ∷ [])
unfolding Shows ShowTrees IsBuilt
item_ended whole tag vr items inner r reached atoms w =
    let more : List Atom = closes_item ∷ [] in
    let o = w.2 in
    let i = o.6 in
    let n = i.3 in
    record {
      shows = (
        w.0 ++ more,
        trees_grow whole atoms w.0 more w.1,
        (
          o.0,
          o.1 ++ more,
          [],
          o.3,
          ap (λ (z : List Atom). z ++ more) o.4,
          items_joined items (item Undefined inner no_item) (o.1 ++ more) (o.2 ++ more) [] (items_grow items o.1 o.2 more o.5)
              (i.0 ++ more, [], ap (λ (z : List Atom). z ++ more) i.1, subst (λ (z : List Atom). ShowTrees inner (i.0 ++ more) (z ++ more)) n.2 (trees_grow inner i.0 n.0 more n.1), refl),
          refl,
        ),
        tt,
        w.4,
      );
      built = (refl, (refl, tt));
    }

-- where it goes on in the item
built_is_open : (f : Front) → IsBuilt f → is_closed f ≡ false
unfolding IsBuilt
built_is_open (front whole open_tree reached closed) b = b.0

abbrev inner_atoms : (whole : Trees) (tag : Tag) (vr : Vr) (items : Items) (set : Front) (reached : Option Tag) (atoms : List Atom) → Shows (front whole (open_sequence tag vr Undefined items (open_item Undefined set)) reached false) atoms → List Atom
unfolding Shows
inner_atoms whole tag vr items set reached atoms w = w.2.6.0

item_grown : (whole : Trees) (tag : Tag) (vr : Vr) (items : Items) (set new : Front) (reached : Option Tag) (atoms more : List Atom)
    → (w : Shows (front whole (open_sequence tag vr Undefined items (open_item Undefined set)) reached false) atoms)
    → Grown new (inner_atoms whole tag vr items set reached atoms w ++ more)
    → Grown (front whole (open_sequence tag vr Undefined items (open_item Undefined new)) reached false) (atoms ++ more)
unfolding Shows ShowTrees IsBuilt inner_atoms
item_grown whole tag vr items set new reached atoms more w g =
    let o = w.2 in
    let i = o.6 in
    record {
      shows = (
        w.0 ++ more,
        trees_grow whole atoms w.0 more w.1,
        (
          o.0,
          o.1 ++ more,
          o.2 ++ more,
          o.3,
          ap (λ (z : List Atom). z ++ more) o.4,
          items_grow items o.1 o.2 more o.5,
          (i.0 ++ more, ap (λ (z : List Atom). z ++ more) i.1, built_is_open new g.built, g.shows),
        ),
        tt,
        w.4,
      );
      built = (refl, (refl, (refl, g.built)));
    }

ended_in : (whole : Trees) (tag : Tag) (vr : Vr) (items : Items) (inner : Trees) (r : Option Tag) (c : Bool) (reached : Option Tag) (atoms : List Atom) → c ≡ false
    → Shows (front whole (open_sequence tag vr Undefined items (open_item Undefined (front inner nothing_open r c))) reached false) atoms
    → Grown (front whole (open_sequence tag vr Undefined (then_items items (item Undefined inner no_item)) no_open_item) reached false) (atoms ++ closes_item ∷ [])
ended_in whole tag vr items inner r true reached atoms e w = absurd (cc)
ended_in whole tag vr items inner r false reached atoms e w = item_ended whole tag vr items inner r reached atoms w

inside_grown : (step : Step) (whole : Trees) (tag : Tag) (vr : Vr) (items : Items) (set : Front) (reached : Option Tag) (atoms : List Atom)
    → (w : Shows (front whole (open_sequence tag vr Undefined items (open_item Undefined set)) reached false) atoms) → IsBuilt set → InItem step set
    → ((nothing_in set → end_item ≡ step → ⊥) → Grown (with_step step set) (inner_atoms whole tag vr items set reached atoms w ++ step_atoms step))
    → Grown (step_in_item (finished step set) whole reached false tag vr items (with_step step set)) (atoms ++ step_atoms step)
inside_grown step whole tag vr items set reached atoms w b (ends_it inner r c e f) more =
    subst (λ (x : Step). Grown (step_in_item (finished x set) whole reached false tag vr items (with_step x set)) (atoms ++ step_atoms x)) (sym e)
    (subst (λ (x : Front). Grown (step_in_item (finished end_item x) whole reached false tag vr items (with_step end_item x)) (atoms ++ closes_item ∷ [])) (sym f)
    (ended_in whole tag vr items inner r c reached atoms (subst (λ (x : Front). is_closed x ≡ false) f (built_is_open set b))
    (subst (λ (x : Front). Shows (front whole (open_sequence tag vr Undefined items (open_item Undefined x)) reached false) atoms) f w)))
inside_grown step whole tag vr items set reached atoms w b (goes_on e f) more =
    subst (λ (x : Option Trees). Grown (step_in_item x whole reached false tag vr items (with_step step set)) (atoms ++ step_atoms step)) (sym e)
    (item_grown whole tag vr items set (with_step step set) reached atoms (step_atoms step) w (more f))

mutual
  unfolding Shows ShowTrees with_step standing_in IsBuilt inner_atoms

  set_grown : (w : Where) (step : Step) (f : Front) (atoms : List Atom) → HasForm step → HasValue step → Shows f atoms → IsBuilt f → HasPlace step (standing_in w f) → (nothing_in f → end_item ≡ step → ⊥) → Grown (with_step step f) (atoms ++ step_atoms step)
  set_grown w step (front whole open_tree reached true) atoms fo va s b h e = absurd (let no : true ≡ false = b.0 in cc)
  set_grown w step (front whole nothing_open reached false) atoms fo va s b h e = in_set_grown step whole reached atoms (element_step w reached step h (e tt)) fo va s
  set_grown w step (front whole (open_leaf tag vr size value) reached false) atoms fo va s b h e = absurd b.1
  set_grown w step (front whole (open_sequence tag vr (Known n) items last) reached false) atoms fo va s b h e = absurd (let no : Known n ≡ Undefined = b.1.0 in cc)
  set_grown w step (front whole (open_sequence tag vr Undefined items no_open_item) reached false) atoms fo va s b h e = in_sequence_grown step whole tag vr items reached atoms h s
  set_grown w step (front whole (open_sequence tag vr Undefined items (open_item (Known n) set)) reached false) atoms fo va s b h e = absurd (let no : Known n ≡ Undefined = b.1.1.0 in cc)
  set_grown w step (front whole (open_sequence tag vr Undefined items (open_item Undefined set)) reached false) atoms fo va s b h e =
      inside_grown step whole tag vr items set reached atoms s b.1.1.1 (in_item step set) (λ f. set_grown (around w reached) step set s.2.6.0 fo va s.2.6.3 b.1.1.1 h f)
  set_grown w step (front whole (open_fragments tag vr values None) reached false) atoms fo va s b h e = in_fragments_grown step whole tag vr values reached atoms h va s
  set_grown w step (front whole (open_fragments tag vr values (Some l)) reached false) atoms fo va s b h e = absurd (let no : Some l ≡ None = b.1 in cc)

-- a step that has its place, its form and its value
pub all_grown : (step : Step) (f : Front) (atoms : List Atom) → HasForm step → HasValue step → HasPlace step (standing_of f) → Grown f atoms → Grown (with_step step f) (atoms ++ step_atoms step)
all_grown step f atoms fo va h g = set_grown the_top step f atoms fo va g.shows g.built h (no_end_at_top step f h)

pub none_grown : Grown no_elements []
unfolding Shows ShowTrees IsBuilt last_tag
none_grown = record { shows = ([], refl, refl, tt, refl); built = (refl, tt) }
