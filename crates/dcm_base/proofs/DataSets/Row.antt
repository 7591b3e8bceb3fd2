-- How the atoms of a front grow with it.
use Rattle.std.proofs.Common.{◌≡◌, ℕ, List, [], ◌∷◌, ◌++◌, length, false, refl, sym, ap, ◌∙◌, append_assoc}
use Rattle.std.specs.Prelude.{map}
use Rattle.std.proofs.lemmas.List.{map-append}
use Rattle.dcm_base.specs.declared.tag.Tag.{Tag}
use Rattle.dcm_base.specs.declared.vr.Vr.{Vr}
use Rattle.dcm_base.specs.declared.syntax.Syntax.{Syntax}
use Rattle.dcm_base.specs.declared.length.Length.{Length}
use Rattle.dcm_base.specs.declared.length.Length.TheVariants.{Known, Undefined}
use Rattle.dcm_base.specs.Tree.Tree.{Trees, no_tree, leaf, sequence, fragments, Items, no_item, item}
use Rattle.dcm_base.specs.Tree.Front.{front, OpenTree, nothing_open, open_leaf, open_sequence, no_open_item, open_item}
use Rattle.dcm_base.specs.Tree.Value.{order}
use Rattle.dcm_base.specs.Bytes.Spelling.{inside, after, after_trees}
use Rattle.dcm_base.specs.Steps.Atoms.{Atom, opens, value_byte, closes_leaf, opens_item, closes_item, closes_sequence, opens_fragment, fragments_then, trees_then, items_then, front_atoms, open_atoms}
use Rattle.dcm_base.proofs.Conversions.Order.{order_twice}
use Rattle.dcm_base.proofs.DataSets.Path.{then_trees, then_items, Path, at_top, in_item, plug, syntax_of, behind}

pub fragments_then-append : (values : List (List ℕ)) (a b : List Atom) → fragments_then values (a ++ b) ≡ fragments_then values a ++ b
unfolding fragments_then
fragments_then-append [] a b = refl
fragments_then-append (v ∷ vs) a b =
    ap (λ (x : List Atom). opens_fragment (length v) ∷ (map value_byte v ++ closes_leaf ∷ x)) (fragments_then-append vs a b)
    ∙ ap (λ (x : List Atom). opens_fragment (length v) ∷ x) (sym (append_assoc (map value_byte v) (closes_leaf ∷ fragments_then vs a) b))

mutual
  unfolding trees_then

  pub trees_then-append : (s : Syntax) (x : Trees) (a b : List Atom) → trees_then s x (a ++ b) ≡ trees_then s x a ++ b
  trees_then-append s no_tree a b = refl
  trees_then-append s (leaf tag vr value rest) a b =
      ap (λ (y : List Atom). opens tag vr (Known (length value)) s ∷ (map value_byte (order s vr value) ++ closes_leaf ∷ y)) (trees_then-append (after s tag vr value) rest a b)
      ∙ ap (λ (y : List Atom). opens tag vr (Known (length value)) s ∷ y) (sym (append_assoc (map value_byte (order s vr value)) (closes_leaf ∷ trees_then (after s tag vr value) rest a) b))
  trees_then-append s (sequence tag vr declared items rest) a b =
      ap (λ (y : List Atom). opens tag vr declared s ∷ items_then (inside s vr) items (closes_sequence ∷ y)) (trees_then-append s rest a b)
      ∙ ap (λ (y : List Atom). opens tag vr declared s ∷ y) (items_then-append (inside s vr) items (closes_sequence ∷ trees_then s rest a) b)
  trees_then-append s (fragments tag vr values rest) a b =
      ap (λ (y : List Atom). opens tag vr Undefined s ∷ fragments_then values (closes_sequence ∷ y)) (trees_then-append s rest a b)
      ∙ ap (λ (y : List Atom). opens tag vr Undefined s ∷ y) (fragments_then-append values (closes_sequence ∷ trees_then s rest a) b)

  pub items_then-append : (s : Syntax) (x : Items) (a b : List Atom) → items_then s x (a ++ b) ≡ items_then s x a ++ b
  items_then-append s no_item a b = refl
  items_then-append s (item declared set rest) a b =
      ap (λ (y : List Atom). opens_item declared ∷ trees_then s set (closes_item ∷ y)) (items_then-append s rest a b)
      ∙ ap (λ (y : List Atom). opens_item declared ∷ y) (trees_then-append s set (closes_item ∷ items_then s rest a) b)

pub trees_then-then : (s : Syntax) (x y : Trees) (others : List Atom) → trees_then s (then_trees x y) others ≡ trees_then s x (trees_then (after_trees s x) y others)
unfolding trees_then
trees_then-then s no_tree y others = refl
trees_then-then s (leaf tag vr value rest) y others = ap (λ (z : List Atom). opens tag vr (Known (length value)) s ∷ (map value_byte (order s vr value) ++ closes_leaf ∷ z)) (trees_then-then (after s tag vr value) rest y others)
trees_then-then s (sequence tag vr declared items rest) y others = ap (λ (z : List Atom). opens tag vr declared s ∷ items_then (inside s vr) items (closes_sequence ∷ z)) (trees_then-then s rest y others)
trees_then-then s (fragments tag vr values rest) y others = ap (λ (z : List Atom). opens tag vr Undefined s ∷ fragments_then values (closes_sequence ∷ z)) (trees_then-then s rest y others)

pub items_then-then : (s : Syntax) (x y : Items) (others : List Atom) → items_then s (then_items x y) others ≡ items_then s x (items_then s y others)
unfolding items_then
items_then-then s no_item y others = refl
items_then-then s (item declared set rest) y others = ap (λ (z : List Atom). opens_item declared ∷ trees_then s set (closes_item ∷ z)) (items_then-then s rest y others)

-- the atoms of a path, and then others
abbrev pub path_then : Syntax → Path → List Atom → List Atom
path_then s at_top others = others
path_then s (in_item outer above tag vr declared items item_declared) others =
    path_then s outer (trees_then (syntax_of s outer) above (opens tag vr declared (behind s outer above) ∷ items_then (inside (behind s outer above) vr) items (opens_item item_declared ∷ others)))

pub plug_atoms : (s : Syntax) (path : Path) (whole : Trees) (o : OpenTree) → front_atoms s (plug path whole o) ≡ path_then s path (trees_then (syntax_of s path) whole (open_atoms (behind s path whole) o []))
unfolding front_atoms
plug_atoms s at_top whole o = refl
plug_atoms s (in_item outer above tag vr declared items item_declared) whole o =
    plug_atoms s outer above (open_sequence tag vr declared items (open_item item_declared (front whole o _ false)))

pub path_then-append : (s : Syntax) (path : Path) (a b : List Atom) → path_then s path (a ++ b) ≡ path_then s path a ++ b
path_then-append s at_top a b = refl
path_then-append s (in_item outer above tag vr declared items item_declared) a b =
    let s' = behind s outer above in
    let s'' = inside s' vr in
    ap (λ (y : List Atom). path_then s outer (trees_then (syntax_of s outer) above (opens tag vr declared s' ∷ y))) (items_then-append s'' items (opens_item item_declared ∷ a) b)
    ∙ ap (λ (y : List Atom). path_then s outer y) (trees_then-append (syntax_of s outer) above (opens tag vr declared s' ∷ items_then s'' items (opens_item item_declared ∷ a)) b)
    ∙ path_then-append s outer (trees_then (syntax_of s outer) above (opens tag vr declared s' ∷ items_then s'' items (opens_item item_declared ∷ a))) b

-- what is open at a place ends the row
pub place_append : (s : Syntax) (path : Path) (whole : Trees) (a b : List Atom) → path_then s path (trees_then (syntax_of s path) whole (a ++ b)) ≡ path_then s path (trees_then (syntax_of s path) whole a) ++ b
place_append s path whole a b =
    ap (path_then s path) (trees_then-append (syntax_of s path) whole a b) ∙ path_then-append s path (trees_then (syntax_of s path) whole a) b

-- ---- each step adds its atom

pub leaf_opens_atoms : (s : Syntax) (path : Path) (whole : Trees) (tag : Tag) (vr : Vr) (size : ℕ)
    → order (behind s path whole) vr [] ≡ []
    → front_atoms s (plug path whole (open_leaf tag vr size [])) ≡ front_atoms s (plug path whole nothing_open) ++ opens tag vr (Known size) (behind s path whole) ∷ []
unfolding front_atoms
leaf_opens_atoms s path whole tag vr size e =
    plug_atoms s path whole (open_leaf tag vr size [])
    ∙ ap (λ (v : List ℕ). path_then s path (trees_then (syntax_of s path) whole (opens tag vr (Known size) (behind s path whole) ∷ map value_byte v))) e
    ∙ place_append s path whole [] (opens tag vr (Known size) (behind s path whole) ∷ [])
    ∙ ap (λ (x : List Atom). x ++ opens tag vr (Known size) (behind s path whole) ∷ []) (sym (plug_atoms s path whole nothing_open))

pub byte_comes_atoms : (s : Syntax) (path : Path) (whole : Trees) (tag : Tag) (vr : Vr) (size : ℕ) (value : List ℕ) (x : ℕ)
    → front_atoms s (plug path whole (open_leaf tag vr size (order (behind s path whole) vr (order (behind s path whole) vr value ++ x ∷ []))))
    ≡ front_atoms s (plug path whole (open_leaf tag vr size value)) ++ value_byte x ∷ []
unfolding front_atoms
byte_comes_atoms s path whole tag vr size value x =
    let s' = behind s path whole in
    let raw : List ℕ = order s' vr value ++ x ∷ [] in
    plug_atoms s path whole (open_leaf tag vr size (order s' vr raw))
    ∙ ap (λ (v : List ℕ). path_then s path (trees_then (syntax_of s path) whole (opens tag vr (Known size) s' ∷ map value_byte v))) (order_twice s' vr raw)
    ∙ ap (λ (v : List Atom). path_then s path (trees_then (syntax_of s path) whole (opens tag vr (Known size) s' ∷ v))) (map-append value_byte (order s' vr value) (x ∷ []))
    ∙ place_append s path whole (opens tag vr (Known size) s' ∷ map value_byte (order s' vr value)) (value_byte x ∷ [])
    ∙ ap (λ (y : List Atom). y ++ value_byte x ∷ []) (sym (plug_atoms s path whole (open_leaf tag vr size value)))

pub leaf_closes_atoms : (s : Syntax) (path : Path) (whole : Trees) (tag : Tag) (vr : Vr) (size : ℕ) (value : List ℕ) → size ≡ length value
    → front_atoms s (plug path (then_trees whole (leaf tag vr value no_tree)) nothing_open) ≡ front_atoms s (plug path whole (open_leaf tag vr size value)) ++ closes_leaf ∷ []
unfolding front_atoms trees_then
leaf_closes_atoms s path whole tag vr size value full =
    let s' = behind s path whole in
    plug_atoms s path (then_trees whole (leaf tag vr value no_tree)) nothing_open
    ∙ ap (path_then s path) (trees_then-then (syntax_of s path) whole (leaf tag vr value no_tree) [])
    ∙ ap (λ (n : ℕ). path_then s path (trees_then (syntax_of s path) whole (opens tag vr (Known n) s' ∷ (map value_byte (order s' vr value) ++ closes_leaf ∷ [])))) (sym full)
    ∙ place_append s path whole (opens tag vr (Known size) s' ∷ map value_byte (order s' vr value)) (closes_leaf ∷ [])
    ∙ ap (λ (y : List Atom). y ++ closes_leaf ∷ []) (sym (plug_atoms s path whole (open_leaf tag vr size value)))

pub sequence_opens_atoms : (s : Syntax) (path : Path) (whole : Trees) (tag : Tag) (vr : Vr) (declared : Length)
    → front_atoms s (plug path whole (open_sequence tag vr declared no_item no_open_item)) ≡ front_atoms s (plug path whole nothing_open) ++ opens tag vr declared (behind s path whole) ∷ []
unfolding front_atoms items_then
sequence_opens_atoms s path whole tag vr declared =
    plug_atoms s path whole (open_sequence tag vr declared no_item no_open_item)
    ∙ place_append s path whole [] (opens tag vr declared (behind s path whole) ∷ [])
    ∙ ap (λ (x : List Atom). x ++ opens tag vr declared (behind s path whole) ∷ []) (sym (plug_atoms s path whole nothing_open))

pub item_opens_atoms : (s : Syntax) (path : Path) (whole : Trees) (tag : Tag) (vr : Vr) (declared : Length) (items : Items) (item_declared : Length)
    → front_atoms s (plug (in_item path whole tag vr declared items item_declared) no_tree nothing_open) ≡ front_atoms s (plug path whole (open_sequence tag vr declared items no_open_item)) ++ opens_item item_declared ∷ []
unfolding front_atoms trees_then
item_opens_atoms s path whole tag vr declared items item_declared =
    let s' = behind s path whole in
    let s'' = inside s' vr in
    plug_atoms s (in_item path whole tag vr declared items item_declared) no_tree nothing_open
    ∙ ap (λ (y : List Atom). path_then s path (trees_then (syntax_of s path) whole (opens tag vr declared s' ∷ y))) (items_then-append s'' items [] (opens_item item_declared ∷ []))
    ∙ place_append s path whole (opens tag vr declared s' ∷ items_then s'' items []) (opens_item item_declared ∷ [])
    ∙ ap (λ (y : List Atom). y ++ opens_item item_declared ∷ []) (sym (plug_atoms s path whole (open_sequence tag vr declared items no_open_item)))

pub item_closes_atoms : (s : Syntax) (outer : Path) (above : Trees) (tag : Tag) (vr : Vr) (declared : Length) (items : Items) (item_declared : Length) (whole : Trees)
    → front_atoms s (plug outer above (open_sequence tag vr declared (then_items items (item item_declared whole no_item)) no_open_item))
    ≡ front_atoms s (plug (in_item outer above tag vr declared items item_declared) whole nothing_open) ++ closes_item ∷ []
unfolding front_atoms items_then
item_closes_atoms s outer above tag vr declared items item_declared whole =
    let s' = behind s outer above in
    let s'' = inside s' vr in
    plug_atoms s outer above (open_sequence tag vr declared (then_items items (item item_declared whole no_item)) no_open_item)
    ∙ ap (λ (y : List Atom). path_then s outer (trees_then (syntax_of s outer) above (opens tag vr declared s' ∷ y))) (items_then-then s'' items (item item_declared whole no_item) [])
    ∙ place_append s (in_item outer above tag vr declared items item_declared) whole [] (closes_item ∷ [])
    ∙ ap (λ (y : List Atom). y ++ closes_item ∷ []) (sym (plug_atoms s (in_item outer above tag vr declared items item_declared) whole nothing_open))

pub sequence_closes_atoms : (s : Syntax) (path : Path) (whole : Trees) (tag : Tag) (vr : Vr) (declared : Length) (items : Items)
    → front_atoms s (plug path (then_trees whole (sequence tag vr declared items no_tree)) nothing_open) ≡ front_atoms s (plug path whole (open_sequence tag vr declared items no_open_item)) ++ closes_sequence ∷ []
unfolding front_atoms trees_then
sequence_closes_atoms s path whole tag vr declared items =
    let s' = behind s path whole in
    plug_atoms s path (then_trees whole (sequence tag vr declared items no_tree)) nothing_open
    ∙ ap (path_then s path) (trees_then-then (syntax_of s path) whole (sequence tag vr declared items no_tree) [])
    ∙ ap (λ (y : List Atom). path_then s path (trees_then (syntax_of s path) whole (opens tag vr declared s' ∷ y))) (items_then-append (inside s' vr) items [] (closes_sequence ∷ []))
    ∙ place_append s path whole (opens tag vr declared s' ∷ items_then (inside s' vr) items []) (closes_sequence ∷ [])
    ∙ ap (λ (y : List Atom). y ++ closes_sequence ∷ []) (sym (plug_atoms s path whole (open_sequence tag vr declared items no_open_item)))
