-- A front as the path to its innermost open set, and how it grows by heads, bytes and ends.
use Rattle.std.proofs.Common.{◌≡◌, ℕ, ◌≤◌, ◌<◌, List, [], ◌∷◌, ◌++◌, length, Option, Some, None, true, false, refl, sym, ap, subst, arith, length-append}
use Rattle.std.proofs.lemmas.List.{append-nil}
use Rattle.dcm_base.specs.declared.tag.Tag.{Tag}
use Rattle.dcm_base.specs.declared.vr.Vr.{Vr}
use Rattle.dcm_base.specs.declared.syntax.Syntax.{Syntax}
use Rattle.dcm_base.specs.declared.length.Length.{Length}
use Rattle.dcm_base.specs.declared.length.Length.TheVariants.{Known, Undefined}
use Rattle.dcm_base.specs.Tree.Tree.{Trees, no_tree, leaf, sequence, fragments, Items, no_item, item}
pub use Rattle.dcm_base.specs.Tree.Tree.{then_trees, then_items}
use Rattle.dcm_base.specs.Tree.Front.{Front, front, OpenTree, nothing_open, open_leaf, open_sequence, open_fragments, no_open_item, open_item}
use Rattle.dcm_base.specs.Bytes.Head.{ElementHead, ItemHead, Delimiter}
use Rattle.dcm_base.specs.Tables.Tag.{item_end_tag, sequence_end_tag}
use Rattle.dcm_base.specs.Tree.Value.{order}
use Rattle.dcm_base.specs.Bytes.Spelling.{a_value, a_sequence, a_fragment_list, form, inside, FragmentsAt, TreesAt, ItemsAt, reached_tag, is_open, StaysOpen, SpellsFront, SpellsOpen, after, after_trees, read_as}
use Rattle.dcm_base.proofs.Conversions.Order.{order_twice, length-order, order_none}
use Rattle.dcm_base.proofs.DataSets.Extend.{element_extends, item_extends, fragments_extend, trees_extend, items_extend}

-- ---- more at the end

-- the syntax after trees and more after them
pub after_then : (s : Syntax) (x y : Trees) → after_trees s (then_trees x y) ≡ after_trees (after_trees s x) y
after_then s no_tree y = refl
after_then s (leaf tag vr value rest) y = after_then (after s tag vr value) rest y
after_then s (sequence tag vr declared items rest) y = after_then s rest y
after_then s (fragments tag vr values rest) y = after_then s rest y

pub trees_then_at : (s : Syntax) (x y : Trees) (b p q : List ℕ) → TreesAt s x b p → TreesAt (after_trees s x) y p q → TreesAt s (then_trees x y) b q
unfolding TreesAt
trees_then_at s no_tree y b p q h k = subst (λ (z : List ℕ). TreesAt s y z q) (sym h) k
trees_then_at s (leaf tag vr value rest) y b p q (others, fo, head, more) k = (others, fo, head, trees_then_at (after s tag vr value) rest y others p q more k)
trees_then_at s (sequence tag vr declared items rest) y b p q (contents, others, fo, head, inner, more) k = (contents, others, fo, head, inner, trees_then_at s rest y others p q more k)
trees_then_at s (fragments tag vr values rest) y b p q (contents, others, fo, head, inner, more) k = (contents, others, fo, head, inner, trees_then_at s rest y others p q more k)

pub items_then_at : (s : Syntax) (x y : Items) (b p q : List ℕ) → ItemsAt s x b p → ItemsAt s y p q → ItemsAt s (then_items x y) b q
unfolding ItemsAt
items_then_at s no_item y b p q h k = subst (λ (z : List ℕ). ItemsAt s y z q) (sym h) k
items_then_at s (item declared set rest) y b p q (contents, others, head, inner, more) k = (contents, others, head, inner, items_then_at s rest y others p q more k)

-- ---- paths

-- from the top set to the innermost open one, through a sequence and an item each
pub data Path : Type 0 where
  at_top : Path
  in_item : (outer : Path) (whole : Trees) (tag : Tag) (vr : Vr) (declared : Length) (items : Items) (item_declared : Length) → Path

-- the front whose innermost open set has these whole trees and this open one
abbrev pub plug : Path → Trees → OpenTree → Front
plug at_top whole o = front whole o (reached_tag whole o) false
plug (in_item outer above tag vr declared items item_declared) whole o =
    plug outer above (open_sequence tag vr declared items (open_item item_declared (front whole o (reached_tag whole o) false)))

abbrev pub syntax_of : Syntax → Path → Syntax
syntax_of s at_top = s
syntax_of s (in_item outer above tag vr declared items item_declared) = inside (after_trees (syntax_of s outer) above) vr

-- the syntax after the whole trees of the innermost set
abbrev pub behind : Syntax → Path → Trees → Syntax
behind s path whole = after_trees (syntax_of s path) whole

abbrev pub item_length : Path → Length
item_length at_top = Undefined
item_length (in_item outer above tag vr declared items item_declared) = item_declared

-- bytes begin with the path, and the innermost set's contents follow
abbrev pub PathAt : Syntax → Path → List ℕ → List ℕ → Type 0
PathAt s at_top b c = b ≡ c
PathAt s (in_item outer above tag vr declared items item_declared) b c =
    (d e f g : List ℕ) × PathAt s outer b d × StaysOpen (item_length outer) true d
    × TreesAt (syntax_of s outer) above d e
    × (form (behind s outer above) (read_as (behind s outer above) tag vr) declared ≡ a_sequence)
    × ElementHead (behind s outer above) tag vr declared e f × StaysOpen declared true f
    × ItemsAt (inside (behind s outer above) vr) items f g
    × ItemHead (inside (behind s outer above) vr) item_declared g c

pub plug_spells : (s : Syntax) (path : Path) (whole : Trees) (o : OpenTree) (b c d : List ℕ) → PathAt s path b c → TreesAt (syntax_of s path) whole c d → SpellsOpen (behind s path whole) o d
    → StaysOpen (item_length path) (is_open o) c → SpellsFront s (plug path whole o) b
unfolding SpellsFront
plug_spells s at_top whole o b c d h at op stays = (d, subst (λ (z : List ℕ). TreesAt s whole z d) (sym h) at, op, refl, refl)
plug_spells s (in_item outer above tag vr declared items item_declared) whole o b c d (d', e, f, g, path, around, above_at, fo, head, room, items_at, item_head) at op stays =
    plug_spells s outer above (open_sequence tag vr declared items (open_item item_declared (front whole o (reached_tag whole o) false))) b d' e path above_at
    (f, g, fo, head, room, items_at, (c, item_head, stays, (d, at, op, refl, refl))) around

-- there is room for z in each container on the path
abbrev pub RoomFor : (s : Syntax) (path : Path) (b c : List ℕ) → PathAt s path b c → List ℕ → Type 0
RoomFor s at_top b c h z = Unit {0}
RoomFor s (in_item outer above tag vr declared items item_declared) b c h z =
    StaysOpen (item_length outer) true (h.0 ++ z) × StaysOpen declared true (h.2 ++ z) × RoomFor s outer b h.0 h.4 z

pub path_extends : (s : Syntax) (path : Path) (b c z : List ℕ) (h : PathAt s path b c) → RoomFor s path b c h z → PathAt s path (b ++ z) (c ++ z)
path_extends s at_top b c z h room = ap (λ (x : List ℕ). x ++ z) h
path_extends s (in_item outer above tag vr declared items item_declared) b c z (d, e, f, g, path, around, above_at, fo, head, stays, items_at, item_head) room = (
  d ++ z,
  e ++ z,
  f ++ z,
  g ++ z,
  path_extends s outer b d z path room.2,
  room.0,
  trees_extend (syntax_of s outer) above d e z above_at,
  fo,
  element_extends (behind s outer above) tag vr declared e f z head,
  room.1,
  items_extend (inside (behind s outer above) vr) items f g z items_at,
  item_extends (inside (behind s outer above) vr) item_declared g c z item_head,
)

-- ---- places: what is open may be full here, and then closes

abbrev pub FragmentAt : Syntax → Option (ℕ × List ℕ) → List ℕ → Type 0
FragmentAt s None b = b ≡ []
FragmentAt s (Some fragment) b = (length fragment.1 ≤ fragment.0) × ItemHead s (Known fragment.0) b fragment.1

abbrev pub OpenAt : Syntax → OpenTree → List ℕ → Type 0
OpenAt s nothing_open b = b ≡ []
OpenAt s (open_leaf tag vr size value) b = (form s (read_as s tag vr) (Known size) ≡ a_value) × (length value ≤ size) × ElementHead s tag vr (Known size) b (order s vr value)
OpenAt s (open_sequence tag vr declared items no_open_item) b =
    (contents : List ℕ) × (form s (read_as s tag vr) declared ≡ a_sequence) × ElementHead s tag vr declared b contents × StaysOpen declared true contents × ItemsAt (inside s vr) items contents []
OpenAt s (open_sequence tag vr declared items (open_item l f)) b = ⊥
OpenAt s (open_fragments tag vr values last) b =
    (contents others : List ℕ) × (form s (read_as s tag vr) Undefined ≡ a_fragment_list) × ElementHead s tag vr Undefined b contents × FragmentsAt s values contents others × FragmentAt s last others

pub record Placed (s : Syntax) (path : Path) (whole : Trees) (o : OpenTree) (b : List ℕ) : Type 0 where
  pub c : List ℕ
  pub d : List ℕ
  pub path_at : PathAt s path b c
  pub trees_at : TreesAt (syntax_of s path) whole c d
  pub open_at : OpenAt (behind s path whole) o d
  pub stays : StaysOpen (item_length path) true c

-- room for z at a place
abbrev pub Roomy : (s : Syntax) (path : Path) (whole : Trees) (o : OpenTree) (b : List ℕ) → Placed s path whole o b → List ℕ → Type 0
Roomy s path whole o b h z = RoomFor s path b h.c h.path_at z × StaysOpen (item_length path) true (h.c ++ z)

-- ---- what stands at a place that is not full

pub set_stands : (s : Syntax) (path : Path) (whole : Trees) (b : List ℕ) (h : Placed s path whole nothing_open b) → StaysOpen (item_length path) false h.c → SpellsFront s (plug path whole nothing_open) b
unfolding SpellsFront
set_stands s path whole b h stays = plug_spells s path whole nothing_open b h.c h.d h.path_at h.trees_at h.open_at stays

pub leaf_stands : (s : Syntax) (path : Path) (whole : Trees) (tag : Tag) (vr : Vr) (size : ℕ) (value : List ℕ) (b : List ℕ) → Placed s path whole (open_leaf tag vr size value) b → length value < size
    → SpellsFront s (plug path whole (open_leaf tag vr size value)) b
unfolding SpellsFront
leaf_stands s path whole tag vr size value b h lt = plug_spells s path whole (open_leaf tag vr size value) b h.c h.d h.path_at h.trees_at (h.open_at.0, lt, h.open_at.2) h.stays

pub sequence_stands : (s : Syntax) (path : Path) (whole : Trees) (tag : Tag) (vr : Vr) (declared : Length) (items : Items) (b : List ℕ)
    (h : Placed s path whole (open_sequence tag vr declared items no_open_item) b) → StaysOpen declared false h.open_at.0
    → SpellsFront s (plug path whole (open_sequence tag vr declared items no_open_item)) b
unfolding SpellsFront
sequence_stands s path whole tag vr declared items b h stays =
    plug_spells s path whole (open_sequence tag vr declared items no_open_item) b h.c h.d h.path_at h.trees_at (h.open_at.0, [], h.open_at.1, h.open_at.2, stays, h.open_at.4, refl) h.stays

-- ---- heads and bytes

stays_nil : (declared : Length) → StaysOpen declared true []
stays_nil (Known size) = omega arith
stays_nil Undefined = tt

-- what follows whole trees with nothing open, once z has come
trees_before : (s : Syntax) (x : Trees) (c d z : List ℕ) → TreesAt s x c d → d ≡ [] → TreesAt s x (c ++ z) z
trees_before s x c d z h e = subst (λ (y : List ℕ). TreesAt s x (c ++ z) (y ++ z)) e (trees_extend s x c d z h)

pub leaf_opens : (s : Syntax) (path : Path) (whole : Trees) (tag : Tag) (vr : Vr) (size : ℕ) (b z : List ℕ) (h : Placed s path whole nothing_open b) → Roomy s path whole nothing_open b h z
    → form (behind s path whole) (read_as (behind s path whole) tag vr) (Known size) ≡ a_value → ElementHead (behind s path whole) tag vr (Known size) z [] → Placed s path whole (open_leaf tag vr size []) (b ++ z)
leaf_opens s path whole tag vr size b z h room fo head =
    record {
      c = h.c ++ z;
      d = z;
      path_at = path_extends s path b h.c z h.path_at room.0;
      trees_at = trees_before (syntax_of s path) whole h.c h.d z h.trees_at h.open_at;
      open_at = (fo, omega arith, subst (λ (y : List ℕ). ElementHead (behind s path whole) tag vr (Known size) z y) (sym (order_none (behind s path whole) vr)) head);
      stays = room.1;
    }

pub sequence_opens : (s : Syntax) (path : Path) (whole : Trees) (tag : Tag) (vr : Vr) (declared : Length) (b z : List ℕ) (h : Placed s path whole nothing_open b) → Roomy s path whole nothing_open b h z
    → form (behind s path whole) (read_as (behind s path whole) tag vr) declared ≡ a_sequence → ElementHead (behind s path whole) tag vr declared z [] → Placed s path whole (open_sequence tag vr declared no_item no_open_item) (b ++ z)
unfolding ItemsAt
sequence_opens s path whole tag vr declared b z h room fo head =
    record {
      c = h.c ++ z;
      d = z;
      path_at = path_extends s path b h.c z h.path_at room.0;
      trees_at = trees_before (syntax_of s path) whole h.c h.d z h.trees_at h.open_at;
      open_at = ([], fo, head, stays_nil declared, refl);
      stays = room.1;
    }

pub fragments_open : (s : Syntax) (path : Path) (whole : Trees) (tag : Tag) (vr : Vr) (b z : List ℕ) (h : Placed s path whole nothing_open b) → Roomy s path whole nothing_open b h z
    → form (behind s path whole) (read_as (behind s path whole) tag vr) Undefined ≡ a_fragment_list → ElementHead (behind s path whole) tag vr Undefined z [] → Placed s path whole (open_fragments tag vr [] None) (b ++ z)
unfolding SpellsOpen FragmentsAt
fragments_open s path whole tag vr b z h room fo head =
    record {
      c = h.c ++ z;
      d = z;
      path_at = path_extends s path b h.c z h.path_at room.0;
      trees_at = trees_before (syntax_of s path) whole h.c h.d z h.trees_at h.open_at;
      open_at = ([], [], fo, head, refl, refl);
      stays = room.1;
    }

pub item_opens : (s : Syntax) (path : Path) (whole : Trees) (tag : Tag) (vr : Vr) (declared : Length) (items : Items) (item_declared : Length) (b z : List ℕ)
    (h : Placed s path whole (open_sequence tag vr declared items no_open_item) b) → Roomy s path whole (open_sequence tag vr declared items no_open_item) b h z → StaysOpen declared true (h.open_at.0 ++ z)
    → ItemHead (inside (behind s path whole) vr) item_declared z [] → Placed s (in_item path whole tag vr declared items item_declared) no_tree nothing_open (b ++ z)
unfolding TreesAt
item_opens s path whole tag vr declared items item_declared b z h room stays head =
    record {
      c = [];
      d = [];
      path_at = (
        h.c ++ z,
        h.d ++ z,
        h.open_at.0 ++ z,
        z,
        path_extends s path b h.c z h.path_at room.0,
        room.1,
        trees_extend (syntax_of s path) whole h.c h.d z h.trees_at,
        h.open_at.1,
        element_extends (behind s path whole) tag vr declared h.d h.open_at.0 z h.open_at.2,
        stays,
        items_extend (inside (behind s path whole) vr) items h.open_at.0 [] z h.open_at.4,
        head,
      );
      trees_at = refl;
      open_at = refl;
      stays = stays_nil item_declared;
    }

pub byte_comes : (s : Syntax) (path : Path) (whole : Trees) (tag : Tag) (vr : Vr) (size : ℕ) (value : List ℕ) (x : ℕ) (b : List ℕ)
    (h : Placed s path whole (open_leaf tag vr size value) b) → Roomy s path whole (open_leaf tag vr size value) b h (x ∷ []) → length value < size
    → Placed s path whole (open_leaf tag vr size (order (behind s path whole) vr (order (behind s path whole) vr value ++ x ∷ []))) (b ++ x ∷ [])
byte_comes s path whole tag vr size value x b h room lt =
    let s' = behind s path whole in
    let z : List ℕ = x ∷ [] in
    let raw : List ℕ = order s' vr value ++ z in
    record {
      c = h.c ++ z;
      d = h.d ++ z;
      path_at = path_extends s path b h.c z h.path_at room.0;
      trees_at = trees_extend (syntax_of s path) whole h.c h.d z h.trees_at;
      open_at = (
        h.open_at.0,
        omega (arith, length-order s' vr raw, length-append (order s' vr value) z, length-order s' vr value),
        subst (λ (y : List ℕ). ElementHead s' tag vr (Known size) (h.d ++ z) y) (sym (order_twice s' vr raw)) (element_extends s' tag vr (Known size) h.d (order s' vr value) z h.open_at.2),
      );
      stays = room.1;
    }

-- ---- ends

pub leaf_closes : (s : Syntax) (path : Path) (whole : Trees) (tag : Tag) (vr : Vr) (size : ℕ) (value : List ℕ) (b : List ℕ) → Placed s path whole (open_leaf tag vr size value) b → size ≡ length value
    → Placed s path (then_trees whole (leaf tag vr value no_tree)) nothing_open b
unfolding TreesAt
leaf_closes s path whole tag vr size value b h full =
    let s' = behind s path whole in
    let fo : form s' (read_as s' tag vr) (Known (length value)) ≡ a_value = subst (λ (n : ℕ). form s' (read_as s' tag vr) (Known n) ≡ a_value) full h.open_at.0 in
    let head : ElementHead s' tag vr (Known (length value)) h.d (order s' vr value) = subst (λ (n : ℕ). ElementHead s' tag vr (Known n) h.d (order s' vr value)) full h.open_at.2 in
    record {
      c = h.c;
      d = [];
      path_at = h.path_at;
      trees_at = trees_then_at (syntax_of s path) whole (leaf tag vr value no_tree) h.c h.d [] h.trees_at ([], fo, subst (λ (y : List ℕ). ElementHead s' tag vr (Known (length value)) h.d y) (sym (append-nil (order s' vr value))) head, refl);
      open_at = refl;
      stays = h.stays;
    }

pub item_is_full : (s : Syntax) (outer : Path) (above : Trees) (tag : Tag) (vr : Vr) (declared : Length) (items : Items) (size : ℕ) (whole : Trees) (b : List ℕ)
    (h : Placed s (in_item outer above tag vr declared items (Known size)) whole nothing_open b) → length h.c ≡ size
    → Placed s outer above (open_sequence tag vr declared (then_items items (item (Known size) whole no_item)) no_open_item) b
unfolding ItemsAt
item_is_full s outer above tag vr declared items size whole b h full =
    let (d, e, f, g, path, around, above_at, fo, head, stays, items_at, item_head) = h.path_at in
    let s'' = inside (behind s outer above) vr in
    let whole_at : TreesAt s'' whole h.c [] = subst (λ (y : List ℕ). TreesAt s'' whole h.c y) h.open_at h.trees_at in
    record {
      c = d;
      d = e;
      path_at = path;
      trees_at = above_at;
      open_at = (f, fo, head, stays, items_then_at s'' items (item (Known size) whole no_item) f g [] items_at (h.c, [], item_head, (h.c, sym (append-nil h.c), full, whole_at), refl));
      stays = around;
    }

pub item_ends : (s : Syntax) (outer : Path) (above : Trees) (tag : Tag) (vr : Vr) (declared : Length) (items : Items) (whole : Trees) (b z : List ℕ)
    (h : Placed s (in_item outer above tag vr declared items Undefined) whole nothing_open b) → Roomy s (in_item outer above tag vr declared items Undefined) whole nothing_open b h z
    → Delimiter (inside (behind s outer above) vr) item_end_tag z []
    → Placed s outer above (open_sequence tag vr declared (then_items items (item Undefined whole no_item)) no_open_item) (b ++ z)
unfolding ItemsAt
item_ends s outer above tag vr declared items whole b z h room delimiter =
    let (d, e, f, g, path, around, above_at, fo, head, stays, items_at, item_head) = h.path_at in
    let s' = behind s outer above in
    let s'' = inside s' vr in
    record {
      c = d ++ z;
      d = e ++ z;
      path_at = path_extends s outer b d z path room.0.2;
      trees_at = trees_extend (syntax_of s outer) above d e z above_at;
      open_at = (
        f ++ z,
        fo,
        element_extends s' tag vr declared e f z head,
        room.0.1,
        items_then_at s'' items (item Undefined whole no_item) (f ++ z) (g ++ z) [] (items_extend s'' items f g z items_at)
            (h.c ++ z, [], item_extends s'' Undefined g h.c z item_head, (z, trees_before s'' whole h.c h.d z h.trees_at h.open_at, delimiter), refl),
      );
      stays = room.0.0;
    }

pub sequence_is_full : (s : Syntax) (path : Path) (whole : Trees) (tag : Tag) (vr : Vr) (size : ℕ) (items : Items) (b : List ℕ)
    (h : Placed s path whole (open_sequence tag vr (Known size) items no_open_item) b) → length h.open_at.0 ≡ size
    → Placed s path (then_trees whole (sequence tag vr (Known size) items no_tree)) nothing_open b
unfolding TreesAt
sequence_is_full s path whole tag vr size items b h full =
    let (f, fo, head, stays, items_at) = h.open_at in
    record {
      c = h.c;
      d = [];
      path_at = h.path_at;
      trees_at = trees_then_at (syntax_of s path) whole (sequence tag vr (Known size) items no_tree) h.c h.d [] h.trees_at (f, [], fo, head, (f, sym (append-nil f), full, items_at), refl);
      open_at = refl;
      stays = h.stays;
    }

pub sequence_ends : (s : Syntax) (path : Path) (whole : Trees) (tag : Tag) (vr : Vr) (items : Items) (b z : List ℕ)
    (h : Placed s path whole (open_sequence tag vr Undefined items no_open_item) b) → Roomy s path whole (open_sequence tag vr Undefined items no_open_item) b h z
    → Delimiter (inside (behind s path whole) vr) sequence_end_tag z []
    → Placed s path (then_trees whole (sequence tag vr Undefined items no_tree)) nothing_open (b ++ z)
unfolding TreesAt
sequence_ends s path whole tag vr items b z h room delimiter =
    let (f, fo, head, stays, items_at) = h.open_at in
    let s' = behind s path whole in
    record {
      c = h.c ++ z;
      d = [];
      path_at = path_extends s path b h.c z h.path_at room.0;
      trees_at = trees_then_at (syntax_of s path) whole (sequence tag vr Undefined items no_tree) (h.c ++ z) (h.d ++ z) [] (trees_extend (syntax_of s path) whole h.c h.d z h.trees_at)
          (f ++ z, [], fo, element_extends s' tag vr Undefined h.d f z head, (z, items_extend (inside s' vr) items f [] z items_at, delimiter), refl);
      open_at = refl;
      stays = room.1;
    }

-- ---- fragments

pub fragments_then_at : (s : Syntax) (x y : List (List ℕ)) (b p q : List ℕ) → FragmentsAt s x b p → FragmentsAt s y p q → FragmentsAt s (x ++ y) b q
unfolding FragmentsAt
fragments_then_at s [] y b p q h k = subst (λ (z : List ℕ). FragmentsAt s y z q) (sym h) k
fragments_then_at s (v ∷ vs) y b p q (others, head, more) k = (others, head, fragments_then_at s vs y others p q more k)

pub fragments_stand : (s : Syntax) (path : Path) (whole : Trees) (tag : Tag) (vr : Vr) (values : List (List ℕ)) (b : List ℕ) → Placed s path whole (open_fragments tag vr values None) b
    → SpellsFront s (plug path whole (open_fragments tag vr values None)) b
unfolding SpellsFront
fragments_stand s path whole tag vr values b h =
    let (contents, others, fo, head, inner, more) = h.open_at in
    plug_spells s path whole (open_fragments tag vr values None) b h.c h.d h.path_at h.trees_at (contents, others, fo, head, inner, more) h.stays

pub fragment_stands : (s : Syntax) (path : Path) (whole : Trees) (tag : Tag) (vr : Vr) (values : List (List ℕ)) (size : ℕ) (value : List ℕ) (b : List ℕ) → Placed s path whole (open_fragments tag vr values (Some (size, value))) b
    → length value < size → SpellsFront s (plug path whole (open_fragments tag vr values (Some (size, value)))) b
unfolding SpellsFront
fragment_stands s path whole tag vr values size value b h lt =
    let (contents, others, fo, head, inner, more) = h.open_at in
    plug_spells s path whole (open_fragments tag vr values (Some (size, value))) b h.c h.d h.path_at h.trees_at (contents, others, fo, head, inner, (lt, more.1)) h.stays

pub fragment_opens : (s : Syntax) (path : Path) (whole : Trees) (tag : Tag) (vr : Vr) (values : List (List ℕ)) (size : ℕ) (b z : List ℕ)
    (h : Placed s path whole (open_fragments tag vr values None) b) → Roomy s path whole (open_fragments tag vr values None) b h z
    → ItemHead (behind s path whole) (Known size) z [] → Placed s path whole (open_fragments tag vr values (Some (size, []))) (b ++ z)
fragment_opens s path whole tag vr values size b z h room item_head =
    let (contents, others, fo, head, inner, more) = h.open_at in
    let s' = behind s path whole in
    record {
      c = h.c ++ z;
      d = h.d ++ z;
      path_at = path_extends s path b h.c z h.path_at room.0;
      trees_at = trees_extend (syntax_of s path) whole h.c h.d z h.trees_at;
      open_at = (
        contents ++ z,
        z,
        fo,
        element_extends s' tag vr Undefined h.d contents z head,
        subst (λ (y : List ℕ). FragmentsAt s' values (contents ++ z) (y ++ z)) more (fragments_extend s' values contents others z inner),
        (omega arith, item_head),
      );
      stays = room.1;
    }

pub fragment_byte : (s : Syntax) (path : Path) (whole : Trees) (tag : Tag) (vr : Vr) (values : List (List ℕ)) (size : ℕ) (value : List ℕ) (x : ℕ) (b : List ℕ)
    (h : Placed s path whole (open_fragments tag vr values (Some (size, value))) b) → Roomy s path whole (open_fragments tag vr values (Some (size, value))) b h (x ∷ []) → length value < size
    → Placed s path whole (open_fragments tag vr values (Some (size, value ++ x ∷ []))) (b ++ x ∷ [])
fragment_byte s path whole tag vr values size value x b h room lt =
    let (contents, others, fo, head, inner, more) = h.open_at in
    let s' = behind s path whole in
    let z : List ℕ = x ∷ [] in
    record {
      c = h.c ++ z;
      d = h.d ++ z;
      path_at = path_extends s path b h.c z h.path_at room.0;
      trees_at = trees_extend (syntax_of s path) whole h.c h.d z h.trees_at;
      open_at = (
        contents ++ z,
        others ++ z,
        fo,
        element_extends s' tag vr Undefined h.d contents z head,
        fragments_extend s' values contents others z inner,
        (omega (arith, length-append value z), item_extends s' (Known size) others value z more.1),
      );
      stays = room.1;
    }

pub fragment_closes : (s : Syntax) (path : Path) (whole : Trees) (tag : Tag) (vr : Vr) (values : List (List ℕ)) (size : ℕ) (value : List ℕ) (b : List ℕ)
    → Placed s path whole (open_fragments tag vr values (Some (size, value))) b → size ≡ length value → Placed s path whole (open_fragments tag vr (values ++ value ∷ []) None) b
unfolding FragmentsAt
fragment_closes s path whole tag vr values size value b h full =
    let (contents, others, fo, head, inner, more) = h.open_at in
    let s' = behind s path whole in
    let head1 : ItemHead s' (Known (length value)) others value = subst (λ (n : ℕ). ItemHead s' (Known n) others value) full more.1 in
    record {
      c = h.c;
      d = h.d;
      path_at = h.path_at;
      trees_at = h.trees_at;
      open_at = (
        contents,
        [],
        fo,
        head,
        fragments_then_at s' values (value ∷ []) contents others [] inner
            ([], subst (λ (y : List ℕ). ItemHead s' (Known (length value)) others y) (sym (append-nil value)) head1, refl),
        refl,
      );
      stays = h.stays;
    }

pub fragments_end : (s : Syntax) (path : Path) (whole : Trees) (tag : Tag) (vr : Vr) (values : List (List ℕ)) (b z : List ℕ)
    (h : Placed s path whole (open_fragments tag vr values None) b) → Roomy s path whole (open_fragments tag vr values None) b h z
    → Delimiter (behind s path whole) sequence_end_tag z [] → Placed s path (then_trees whole (fragments tag vr values no_tree)) nothing_open (b ++ z)
unfolding TreesAt
fragments_end s path whole tag vr values b z h room delimiter =
    let (contents, others, fo, head, inner, more) = h.open_at in
    let s' = behind s path whole in
    record {
      c = h.c ++ z;
      d = [];
      path_at = path_extends s path b h.c z h.path_at room.0;
      trees_at = trees_then_at (syntax_of s path) whole (fragments tag vr values no_tree) (h.c ++ z) (h.d ++ z) [] (trees_extend (syntax_of s path) whole h.c h.d z h.trees_at) (
        contents ++ z,
        [],
        fo,
        element_extends s' tag vr Undefined h.d contents z head,
        (z, subst (λ (y : List ℕ). FragmentsAt s' values (contents ++ z) (y ++ z)) more (fragments_extend s' values contents others z inner), delimiter),
        refl,
      );
      open_at = refl;
      stays = room.1;
    }
