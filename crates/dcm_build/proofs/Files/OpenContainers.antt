-- What stands open of a data set that is built, step by step.
use Rattle.std.proofs.Common.{◌≡◌, ◌∙◌, ap, sym, refl, subst, ℕ, suc, ◌+◌, List, [], ◌∷◌, Option, None, Bool, true, false, arith}
use Rattle.dcm_base.specs.declared.tag.Tag.{Tag}
use Rattle.dcm_base.specs.declared.syntax.Syntax.{Syntax}
use Rattle.dcm_base.specs.Tables.Syntax.{Little}
use Rattle.dcm_base.specs.declared.length.Length.{Length}
use Rattle.dcm_base.specs.declared.length.Length.TheVariants.{Undefined}
use Rattle.dcm_base.specs.Tree.Front.{Front, front, OpenTree, nothing_open, open_leaf, open_sequence, open_fragments, OpenItem, no_open_item, open_item}
use Rattle.dcm_base.specs.declared.level.Container.{Container}
use Rattle.dcm_base.specs.declared.level.Container.TheVariants.{DataSet as the_data_set, Item as an_item, Sequence as a_sequence, FragmentList as a_fragment_list}
use Rattle.dcm_base.specs.declared.level.Level.{Level}
use Rattle.dcm_base.specs.Reading.Place.{level, counts, depth, levels, set_levels, tree_levels, item_levels}
use Rattle.dcm_base.specs.Bytes.Spelling.{inside, after_trees}
use Rattle.dcm_base.specs.Bytes.Head.{head_size}
use Rattle.dcm_base.specs.Reading.Size.{trees_size}
use Rattle.dcm_base.specs.Reading.Bars.{innermost_reached, reached_in_tree, reached_in_item}
use Rattle.dcm_base.specs.Lines.Line.{Step, show_leaf, begin_sequence, begin_fragments, begin_item, show_fragment, end_item, end_sequence}
use Rattle.dcm_base.specs.Lines.Build.{has_place_in, innermost, open_levels, with_step, step_in_item, finished}
use Rattle.dcm_base.specs.Tree.Tree.{Trees, Items}
use Rattle.dcm_base.specs.declared.vr.Vr.{Vr}
use Rattle.dcm_build.specs.declared.open_containers.Open.{Open}
use Rattle.dcm_build.specs.declared.open_containers.Open.TheVariants.{Sequence, FragmentList, Item}
use Rattle.dcm_build.specs.OpenContainers.{OpenContainers, container_of, reached_in, lists_open, entering, standing_with}

-- where a set stands: at the top, or in an item
pub data Where : Type 0 where
  the_top : Where
  within : (top : Option Tag) (outer : List Open) → Where

abbrev pub standing_at : Where → Option Tag → OpenContainers
standing_at the_top reached = record { reached = reached; containers = [] }
standing_at (within top outer) reached = record { reached = top; containers = Item reached ∷ outer }

unfoldable mutual
  pub standing_in : Where → Front → OpenContainers
  standing_in w (front whole open_tree reached closed) = standing_of_tree (standing_at w reached) open_tree

  pub standing_of_tree : OpenContainers → OpenTree → OpenContainers
  standing_of_tree s nothing_open = s
  standing_of_tree s (open_leaf tag vr size value) = s
  standing_of_tree s (open_sequence tag vr declared items last) = standing_of_item (entering Sequence s) last
  standing_of_tree s (open_fragments tag vr values last) = entering FragmentList s

  pub standing_of_item : OpenContainers → OpenItem → OpenContainers
  standing_of_item s no_open_item = s
  standing_of_item s (open_item declared set) = standing_in (within s.reached s.containers) set

abbrev pub standing_of : Front → OpenContainers
standing_of f = standing_in the_top f

-- ---- the containers and the tag that is reached

pub record Alike (ls : List Level) (s : OpenContainers) : Type 0 where
  pub container : container_of s.containers ≡ innermost ls
  pub deep : lists_open s.containers ≡ depth ls

one_list : (c : Container) (sy : Syntax) (declared : Length) (begin : ℕ) (ls : List Level) (n : ℕ) → counts c ≡ 1 → n ≡ depth ls → suc n ≡ depth (level c sy declared begin ∷ ls)
unfolding depth
one_list c sy declared begin ls n e d = omega (arith, e, d)

no_list : (c : Container) (sy : Syntax) (declared : Length) (begin : ℕ) (ls : List Level) (n : ℕ) → counts c ≡ 0 → n ≡ depth ls → n ≡ depth (level c sy declared begin ∷ ls)
unfolding depth
no_list c sy declared begin ls n e d = omega (arith, e, d)

mutual
  unfolding set_levels standing_in

  tree_alike : (sy : Syntax) (begin : ℕ) (ls : List Level) (s : OpenContainers) (o : OpenTree) → Alike ls s → Alike (tree_levels sy begin ls o) (standing_of_tree s o)
  tree_alike sy begin ls s nothing_open h = h
  tree_alike sy begin ls s (open_leaf tag vr size value) h = h
  tree_alike sy begin ls s (open_sequence tag vr declared items last) h =
      item_alike (inside sy vr) _ _ (entering Sequence s) last (record { container = refl; deep = one_list a_sequence (inside sy vr) declared (begin + head_size sy vr) ls (lists_open s.containers) refl h.deep })
  tree_alike sy begin ls s (open_fragments tag vr values last) h =
      record { container = refl; deep = one_list a_fragment_list sy Undefined (begin + head_size sy vr) ls (lists_open s.containers) refl h.deep }

  item_alike : (sy : Syntax) (begin : ℕ) (ls : List Level) (s : OpenContainers) (last : OpenItem) → Alike ls s → Alike (item_levels sy begin ls last) (standing_of_item s last)
  item_alike sy begin ls s no_open_item h = h
  item_alike sy begin ls s (open_item declared (front whole open_tree reached closed)) h =
      tree_alike (after_trees sy whole) ((begin + 8) + trees_size sy whole) _ (standing_at (within s.reached s.containers) reached) open_tree
      (record { container = refl; deep = no_list an_item (after_trees sy whole) declared (begin + 8) ls (lists_open s.containers) refl h.deep })

nothing_deep : 0 ≡ depth []
unfolding depth
nothing_deep = refl

pub all_alike : (f : Front) → Alike (open_levels f) (standing_of f)
unfolding levels set_levels standing_in
all_alike (front whole open_tree reached closed) =
    tree_alike (after_trees Little whole) (0 + trees_size Little whole) _ (standing_at the_top reached) open_tree (record { container = refl; deep = no_list the_data_set (after_trees Little whole) Undefined 0 [] 0 refl nothing_deep })

mutual
  unfolding innermost_reached standing_in

  tree_reached : (s : OpenContainers) (reached : Option Tag) (o : OpenTree) → reached_in s.reached s.containers ≡ reached → reached_in (standing_of_tree s o).reached (standing_of_tree s o).containers ≡ reached_in_tree reached o
  tree_reached s reached nothing_open h = h
  tree_reached s reached (open_leaf tag vr size value) h = h
  tree_reached s reached (open_sequence tag vr declared items last) h = item_reached (entering Sequence s) reached last h
  tree_reached s reached (open_fragments tag vr values last) h = h

  item_reached : (s : OpenContainers) (reached : Option Tag) (last : OpenItem) → reached_in s.reached s.containers ≡ reached → reached_in (standing_of_item s last).reached (standing_of_item s last).containers ≡ reached_in_item reached last
  item_reached s reached no_open_item h = h
  item_reached s reached (open_item declared (front whole open_tree inner closed)) h = tree_reached (standing_at (within s.reached s.containers) inner) inner open_tree refl

pub all_reached : (f : Front) → reached_in (standing_of f).reached (standing_of f).containers ≡ innermost_reached f
unfolding innermost_reached standing_in
all_reached (front whole open_tree reached closed) = tree_reached (standing_at the_top reached) reached open_tree refl

-- ---- one step more

-- where the step has its place in the innermost container
abbrev pub HasPlace : Step → OpenContainers → Type 0
HasPlace step s = has_place_in (container_of s.containers) step ≡ true

-- what lines build: it has not ended, no value stands open, and what stands open has no known length
unfoldable mutual
  pub IsBuilt : Front → Type 0
  IsBuilt (front whole open_tree reached closed) = (closed ≡ false) × TreeIsBuilt open_tree

  pub TreeIsBuilt : OpenTree → Type 0
  TreeIsBuilt nothing_open = Unit {0}
  TreeIsBuilt (open_leaf tag vr size value) = ⊥
  TreeIsBuilt (open_sequence tag vr declared items last) = (declared ≡ Undefined) × ItemIsBuilt last
  TreeIsBuilt (open_fragments tag vr values last) = last ≡ None

  pub ItemIsBuilt : OpenItem → Type 0
  ItemIsBuilt no_open_item = Unit {0}
  ItemIsBuilt (open_item declared set) = (declared ≡ Undefined) × IsBuilt set

-- nothing is open in the set
abbrev pub nothing_in : Front → Type 0
nothing_in (front whole nothing_open reached closed) = Unit {0}
nothing_in (front whole open_tree reached closed) = ⊥

in_set : (w : Where) (step : Step) (whole : Trees) (reached : Option Tag) (closed : Bool) → HasPlace step (standing_at w reached) → (end_item ≡ step → ⊥)
    → standing_in w (with_step step (front whole nothing_open reached closed)) ≡ standing_with step (standing_at w reached)
unfolding with_step standing_in
in_set the_top (show_leaf tag vr value) whole reached closed h e = refl
in_set (within top outer) (show_leaf tag vr value) whole reached closed h e = refl
in_set the_top (begin_sequence tag vr) whole reached closed h e = refl
in_set (within top outer) (begin_sequence tag vr) whole reached closed h e = refl
in_set the_top (begin_fragments tag vr) whole reached closed h e = refl
in_set (within top outer) (begin_fragments tag vr) whole reached closed h e = refl
in_set the_top begin_item whole reached closed h e = absurd (cc)
in_set (within top outer) begin_item whole reached closed h e = absurd (cc)
in_set the_top (show_fragment value) whole reached closed h e = absurd (cc)
in_set (within top outer) (show_fragment value) whole reached closed h e = absurd (cc)
in_set w end_item whole reached closed h e = absurd (e refl)
in_set the_top end_sequence whole reached closed h e = absurd (cc)
in_set (within top outer) end_sequence whole reached closed h e = absurd (cc)

in_fragments : (w : Where) (step : Step) (whole : Trees) (tag : Tag) (vr : Vr) (values : List (List ℕ)) (last : Option (ℕ × List ℕ)) (reached : Option Tag) (closed : Bool) → HasPlace step (entering FragmentList (standing_at w reached))
    → standing_in w (with_step step (front whole (open_fragments tag vr values last) reached closed)) ≡ standing_with step (entering FragmentList (standing_at w reached))
unfolding with_step standing_in
in_fragments w (show_leaf t v value) whole tag vr values last reached closed h = absurd (cc)
in_fragments w (begin_sequence t v) whole tag vr values last reached closed h = absurd (cc)
in_fragments w (begin_fragments t v) whole tag vr values last reached closed h = absurd (cc)
in_fragments w begin_item whole tag vr values last reached closed h = absurd (cc)
in_fragments w (show_fragment value) whole tag vr values last reached closed h = refl
in_fragments w end_item whole tag vr values last reached closed h = absurd (cc)
in_fragments w end_sequence whole tag vr values last reached closed h = refl

in_sequence : (w : Where) (step : Step) (whole : Trees) (tag : Tag) (vr : Vr) (declared : Length) (items : Items) (reached : Option Tag) (closed : Bool) → HasPlace step (entering Sequence (standing_at w reached))
    → standing_in w (with_step step (front whole (open_sequence tag vr declared items no_open_item) reached closed)) ≡ standing_with step (entering Sequence (standing_at w reached))
unfolding with_step standing_in
in_sequence w (show_leaf t v value) whole tag vr declared items reached closed h = absurd (cc)
in_sequence w (begin_sequence t v) whole tag vr declared items reached closed h = absurd (cc)
in_sequence w (begin_fragments t v) whole tag vr declared items reached closed h = absurd (cc)
in_sequence w begin_item whole tag vr declared items reached closed h = refl
in_sequence w (show_fragment value) whole tag vr declared items reached closed h = absurd (cc)
in_sequence w end_item whole tag vr declared items reached closed h = absurd (cc)
in_sequence w end_sequence whole tag vr declared items reached closed h = refl

-- a step in an item ends it, or goes on in it
pub data InItem (step : Step) (set : Front) : Type 0 where
  ends_it : (whole : Trees) (reached : Option Tag) (closed : Bool) → step ≡ end_item → set ≡ front whole nothing_open reached closed → InItem step set
  goes_on : finished step set ≡ None → (nothing_in set → end_item ≡ step → ⊥) → InItem step set

pub in_item : (step : Step) (set : Front) → InItem step set
in_item (show_leaf tag vr value) (front whole open_tree reached closed) = goes_on refl (λ n e. cc)
in_item (begin_sequence tag vr) (front whole open_tree reached closed) = goes_on refl (λ n e. cc)
in_item (begin_fragments tag vr) (front whole open_tree reached closed) = goes_on refl (λ n e. cc)
in_item begin_item (front whole open_tree reached closed) = goes_on refl (λ n e. cc)
in_item (show_fragment value) (front whole open_tree reached closed) = goes_on refl (λ n e. cc)
in_item end_sequence (front whole open_tree reached closed) = goes_on refl (λ n e. cc)
in_item end_item (front whole nothing_open reached closed) = ends_it whole reached closed refl refl
in_item end_item (front whole (open_leaf tag vr size value) reached closed) = goes_on refl (λ n e. n)
in_item end_item (front whole (open_sequence tag vr declared items last) reached closed) = goes_on refl (λ n e. n)
in_item end_item (front whole (open_fragments tag vr values last) reached closed) = goes_on refl (λ n e. n)

abbrev pub around : Where → Option Tag → Where
around w reached = within (standing_at w reached).reached (Sequence ∷ (standing_at w reached).containers)

item_stands : (w : Where) (step : Step) (whole : Trees) (tag : Tag) (vr : Vr) (items : Items) (set : Front) (reached : Option Tag) (closed : Bool) → InItem step set
    → ((nothing_in set → end_item ≡ step → ⊥) → standing_in (around w reached) (with_step step set) ≡ standing_with step (standing_in (around w reached) set))
    → standing_in w (step_in_item (finished step set) whole reached closed tag vr items (with_step step set)) ≡ standing_with step (standing_in (around w reached) set)
unfolding standing_in with_step
item_stands w step whole tag vr items set reached closed (ends_it inner r c e f) more =
    subst (λ (x : Step). standing_in w (step_in_item (finished x set) whole reached closed tag vr items (with_step x set)) ≡ standing_with x (standing_in (around w reached) set)) (sym e)
    (subst (λ (x : Front). standing_in w (step_in_item (finished end_item x) whole reached closed tag vr items (with_step end_item x)) ≡ standing_with end_item (standing_in (around w reached) x)) (sym f) refl)
item_stands w step whole tag vr items set reached closed (goes_on e f) more =
    ap (λ (x : Option Trees). standing_in w (step_in_item x whole reached closed tag vr items (with_step step set))) e ∙ more f

mutual
  unfolding with_step standing_in IsBuilt

  set_stands : (w : Where) (step : Step) (f : Front) → IsBuilt f → HasPlace step (standing_in w f) → (nothing_in f → end_item ≡ step → ⊥) → standing_in w (with_step step f) ≡ standing_with step (standing_in w f)
  set_stands w step (front whole nothing_open reached closed) n h e = in_set w step whole reached closed h (e tt)
  set_stands w step (front whole (open_leaf tag vr size value) reached closed) n h e = absurd n.1
  set_stands w step (front whole (open_sequence tag vr declared items no_open_item) reached closed) n h e = in_sequence w step whole tag vr declared items reached closed h
  set_stands w step (front whole (open_sequence tag vr declared items (open_item d set)) reached closed) n h e =
      item_stands w step whole tag vr items set reached closed (in_item step set) (λ f. set_stands (around w reached) step set n.1.1.1 h f)
  set_stands w step (front whole (open_fragments tag vr values last) reached closed) n h e = in_fragments w step whole tag vr values last reached closed h

pub no_end_at_top : (step : Step) (f : Front) → HasPlace step (standing_of f) → nothing_in f → end_item ≡ step → ⊥
unfolding standing_in
no_end_at_top step (front whole nothing_open reached closed) h n e =
    let no : has_place_in the_data_set end_item ≡ true = subst (λ (x : Step). has_place_in the_data_set x ≡ true) (sym e) h in
    cc
no_end_at_top step (front whole (open_leaf tag vr size value) reached closed) h n e = n
no_end_at_top step (front whole (open_sequence tag vr declared items last) reached closed) h n e = n
no_end_at_top step (front whole (open_fragments tag vr values last) reached closed) h n e = n

pub all_stands : (step : Step) (f : Front) → IsBuilt f → HasPlace step (standing_of f) → standing_of (with_step step f) ≡ standing_with step (standing_of f)
all_stands step f n h = set_stands the_top step f n h (no_end_at_top step f h)
