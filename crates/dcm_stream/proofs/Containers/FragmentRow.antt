-- How the atoms of a front grow with its fragments.
use Rattle.std.proofs.Common.{◌≡◌, ℕ, List, [], ◌∷◌, ◌++◌, length, Some, None, refl, sym, ap, ◌∙◌}
use Rattle.std.specs.Prelude.{map}
use Rattle.std.proofs.lemmas.List.{map-append}
use Rattle.dcm_base.specs.declared.tag.Tag.{Tag}
use Rattle.dcm_base.specs.declared.vr.Vr.{Vr}
use Rattle.dcm_base.specs.declared.syntax.Syntax.{Syntax}
use Rattle.dcm_base.specs.declared.length.Length.TheVariants.{Undefined}
use Rattle.dcm_base.specs.Tree.Tree.{Trees, no_tree, fragments}
use Rattle.dcm_base.specs.Tree.Front.{nothing_open, open_fragments}
use Rattle.dcm_base.specs.Steps.Atoms.{Atom, opens, value_byte, closes_leaf, closes_sequence, opens_fragment, fragments_then, trees_then, front_atoms}
use Rattle.dcm_base.proofs.DataSets.Path.{then_trees, Path, plug, syntax_of, behind}
use Rattle.dcm_base.proofs.DataSets.Row.{fragments_then-append, trees_then-then, path_then, plug_atoms, place_append}

fragments_then-then : (x y : List (List ℕ)) (others : List Atom) → fragments_then (x ++ y) others ≡ fragments_then x (fragments_then y others)
unfolding fragments_then
fragments_then-then [] y others = refl
fragments_then-then (v ∷ vs) y others = ap (λ (z : List Atom). opens_fragment (length v) ∷ (map value_byte v ++ closes_leaf ∷ z)) (fragments_then-then vs y others)

pub fragments_open_atoms : (s : Syntax) (path : Path) (whole : Trees) (tag : Tag) (vr : Vr)
    → front_atoms s (plug path whole (open_fragments tag vr [] None)) ≡ front_atoms s (plug path whole nothing_open) ++ opens tag vr Undefined (behind s path whole) ∷ []
unfolding front_atoms fragments_then
fragments_open_atoms s path whole tag vr =
    plug_atoms s path whole (open_fragments tag vr [] None)
    ∙ place_append s path whole [] (opens tag vr Undefined (behind s path whole) ∷ [])
    ∙ ap (λ (x : List Atom). x ++ opens tag vr Undefined (behind s path whole) ∷ []) (sym (plug_atoms s path whole nothing_open))

-- more atoms behind the fragments so far
list_append : (s : Syntax) (path : Path) (whole : Trees) (tag : Tag) (vr : Vr) (values : List (List ℕ)) (a b : List Atom)
    → path_then s path (trees_then (syntax_of s path) whole (opens tag vr Undefined (behind s path whole) ∷ fragments_then values (a ++ b)))
    ≡ path_then s path (trees_then (syntax_of s path) whole (opens tag vr Undefined (behind s path whole) ∷ fragments_then values a)) ++ b
list_append s path whole tag vr values a b =
    let s' = behind s path whole in
    ap (λ (y : List Atom). path_then s path (trees_then (syntax_of s path) whole (opens tag vr Undefined s' ∷ y))) (fragments_then-append values a b)
    ∙ place_append s path whole (opens tag vr Undefined s' ∷ fragments_then values a) b

pub fragment_opens_atoms : (s : Syntax) (path : Path) (whole : Trees) (tag : Tag) (vr : Vr) (values : List (List ℕ)) (size : ℕ)
    → front_atoms s (plug path whole (open_fragments tag vr values (Some (size, [])))) ≡ front_atoms s (plug path whole (open_fragments tag vr values None)) ++ opens_fragment size ∷ []
unfolding front_atoms
fragment_opens_atoms s path whole tag vr values size =
    plug_atoms s path whole (open_fragments tag vr values (Some (size, [])))
    ∙ list_append s path whole tag vr values [] (opens_fragment size ∷ [])
    ∙ ap (λ (x : List Atom). x ++ opens_fragment size ∷ []) (sym (plug_atoms s path whole (open_fragments tag vr values None)))

pub fragment_byte_atoms : (s : Syntax) (path : Path) (whole : Trees) (tag : Tag) (vr : Vr) (values : List (List ℕ)) (size : ℕ) (value : List ℕ) (x : ℕ)
    → front_atoms s (plug path whole (open_fragments tag vr values (Some (size, value ++ x ∷ [])))) ≡ front_atoms s (plug path whole (open_fragments tag vr values (Some (size, value)))) ++ value_byte x ∷ []
unfolding front_atoms
fragment_byte_atoms s path whole tag vr values size value x =
    let s' = behind s path whole in
    plug_atoms s path whole (open_fragments tag vr values (Some (size, value ++ x ∷ [])))
    ∙ ap (λ (y : List Atom). path_then s path (trees_then (syntax_of s path) whole (opens tag vr Undefined s' ∷ fragments_then values (opens_fragment size ∷ y)))) (map-append value_byte value (x ∷ []))
    ∙ list_append s path whole tag vr values (opens_fragment size ∷ map value_byte value) (value_byte x ∷ [])
    ∙ ap (λ (y : List Atom). y ++ value_byte x ∷ []) (sym (plug_atoms s path whole (open_fragments tag vr values (Some (size, value)))))

pub fragment_closes_atoms : (s : Syntax) (path : Path) (whole : Trees) (tag : Tag) (vr : Vr) (values : List (List ℕ)) (size : ℕ) (value : List ℕ) → size ≡ length value
    → front_atoms s (plug path whole (open_fragments tag vr (values ++ value ∷ []) None)) ≡ front_atoms s (plug path whole (open_fragments tag vr values (Some (size, value)))) ++ closes_leaf ∷ []
unfolding front_atoms fragments_then
fragment_closes_atoms s path whole tag vr values size value full =
    let s' = behind s path whole in
    plug_atoms s path whole (open_fragments tag vr (values ++ value ∷ []) None)
    ∙ ap (λ (y : List Atom). path_then s path (trees_then (syntax_of s path) whole (opens tag vr Undefined s' ∷ y))) (fragments_then-then values (value ∷ []) [])
    ∙ ap (λ (n : ℕ). path_then s path (trees_then (syntax_of s path) whole (opens tag vr Undefined s' ∷ fragments_then values (opens_fragment n ∷ (map value_byte value ++ closes_leaf ∷ []))))) (sym full)
    ∙ list_append s path whole tag vr values (opens_fragment size ∷ map value_byte value) (closes_leaf ∷ [])
    ∙ ap (λ (y : List Atom). y ++ closes_leaf ∷ []) (sym (plug_atoms s path whole (open_fragments tag vr values (Some (size, value)))))

pub fragments_end_atoms : (s : Syntax) (path : Path) (whole : Trees) (tag : Tag) (vr : Vr) (values : List (List ℕ))
    → front_atoms s (plug path (then_trees whole (fragments tag vr values no_tree)) nothing_open) ≡ front_atoms s (plug path whole (open_fragments tag vr values None)) ++ closes_sequence ∷ []
unfolding front_atoms trees_then
fragments_end_atoms s path whole tag vr values =
    let s' = behind s path whole in
    plug_atoms s path (then_trees whole (fragments tag vr values no_tree)) nothing_open
    ∙ ap (path_then s path) (trees_then-then (syntax_of s path) whole (fragments tag vr values no_tree) [])
    ∙ list_append s path whole tag vr values [] (closes_sequence ∷ [])
    ∙ ap (λ (y : List Atom). y ++ closes_sequence ∷ []) (sym (plug_atoms s path whole (open_fragments tag vr values None)))
