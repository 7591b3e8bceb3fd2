-- The steps of a full dump build what it shows.
use Rattle.std.proofs.Common.{◌≡◌, ◌≢◌, ◌∙◌, ap, sym, refl, subst, ℕ, suc, ◌<◌, List, [], ◌∷◌, ◌++◌, map, Option, Some, None, Bool, true, false, ◌&&◌, ◌||◌, not, Result, Ok, cond, append_assoc, arith}
use Rattle.std.specs.Prelude.{◌==◌, nat_le, nat_lt, is_none}
use Rattle.std.proofs.lemmas.List.{append-nil}
use Rattle.std.proofs.lemmas.Bool.Decides.{nat_tests}
use Rattle.dcm_base.specs.declared.tag.Tag.{Tag}
use Rattle.dcm_base.specs.declared.vr.Vr.{Vr}
use Rattle.dcm_base.specs.declared.syntax.Coding.{Coding}
use Rattle.dcm_base.specs.Tables.Syntax.{Little}
use Rattle.dcm_base.specs.declared.length.Length.TheVariants.{Undefined}
use Rattle.dcm_base.specs.declared.fault.LineFault.{LineFault}
use Rattle.dcm_base.specs.declared.fault.LineFault.TheVariants.{NotAllowed, NotAscending, ValueDoesNotFit, TooDeep, BadMetaGroup, NoTransferSyntax}
use Rattle.dcm_base.specs.declared.level.Container.{Container}
use Rattle.dcm_base.specs.Tree.Tree.{Trees, no_tree, leaf, sequence, fragments, Items, no_item, item, then_trees, then_items}
use Rattle.dcm_base.specs.Tree.Front.{Front, front, nothing_open, open_sequence, open_fragments, no_open_item, open_item}
use Rattle.dcm_base.specs.Tables.Tag.{is_above}
use Rattle.dcm_base.specs.Lines.Ascending.{Ascend, ItemsAscend}
use Rattle.dcm_base.specs.Bytes.Spelling.{last_tag}
use Rattle.dcm_base.specs.File.MetaGroup.{META_LIMIT}
use Rattle.dcm_base.specs.Reading.Place.{depth}
use Rattle.dcm_base.specs.Reading.Size.{trees_size}
use Rattle.dcm_base.specs.Reading.Bars.{innermost_reached, holds_fragments}
use Rattle.dcm_base.specs.Lines.ReadValue.{value_shown}
use Rattle.dcm_base.specs.Lines.Line.{Step, show_leaf, begin_sequence, begin_fragments, begin_item, show_fragment, end_item, end_sequence}
use Rattle.dcm_base.specs.Lines.Build.{Built, Refused, refused, no_elements, named_coding, allows_fragments, holds_elements, checked, in_group, accepted, with_meta, is_meta, is_opening, is_fragment_opening, is_after, element_tag, lacks_value, has_place_in, innermost, open_levels, first_fault, step_checks, with_step, step_in_item, finished, with_shown, rebuilt, rebuilt_items}
use Rattle.dcm_build.specs.declared.open_containers.Open.TheVariants.{Sequence, FragmentList}
use Rattle.dcm_build.specs.OpenContainers.{OpenContainers, container_of, reached_in, lists_open, entering}
use Rattle.dcm_build_laws.specs.DumpLines.{fragment_step, set_steps, items_steps}
use Rattle.dcm_build_laws.specs.StepsBuild.{Leads, MayStand, ItemsMayStand, BuildAgain}
use Rattle.dcm_build.proofs.Files.OpenContainers.{Where, the_top, within, standing_at, standing_in, standing_of, around, all_alike, all_reached}

-- ---- the open sequences around a set

data Around : Type 0 where
  top : Around
  inside : (whole : Trees) (reached : Option Tag) (tag : Tag) (vr : Vr) (items : Items) (outer : Around) → Around

abbrev plug : Around → Front → Front
plug top f = f
plug (inside whole reached tag vr items outer) f = plug outer (front whole (open_sequence tag vr Undefined items (open_item Undefined f)) reached false)

abbrev place_of : Around → Where
place_of top = the_top
place_of (inside whole reached tag vr items outer) = around (place_of outer) reached

abbrev open_lists : Around → ℕ
open_lists top = 0
open_lists (inside whole reached tag vr items outer) = suc (open_lists outer)

plug_stands : (k : Around) (f : Front) → standing_of (plug k f) ≡ standing_in (place_of k) f
unfolding standing_in
plug_stands top f = refl
plug_stands (inside whole reached tag vr items outer) f = plug_stands outer (front whole (open_sequence tag vr Undefined items (open_item Undefined f)) reached false)

lists_are : (k : Around) (reached : Option Tag) → lists_open (standing_at (place_of k) reached).containers ≡ open_lists k
lists_are top r = refl
lists_are (inside whole reached tag vr items outer) r = ap suc (lists_are outer reached)

not_finished : (step : Step) (whole : Trees) (tag : Tag) (vr : Vr) (items : Items) (f : Front) (reached : Option Tag) → finished step (front whole (open_sequence tag vr Undefined items (open_item Undefined f)) reached false) ≡ None
not_finished (show_leaf t v value) whole tag vr items f reached = refl
not_finished (begin_sequence t v) whole tag vr items f reached = refl
not_finished (begin_fragments t v) whole tag vr items f reached = refl
not_finished begin_item whole tag vr items f reached = refl
not_finished (show_fragment value) whole tag vr items f reached = refl
not_finished end_item whole tag vr items f reached = refl
not_finished end_sequence whole tag vr items f reached = refl

plug_step : (step : Step) (k : Around) (f : Front) → finished step f ≡ None → with_step step (plug k f) ≡ plug k (with_step step f)
unfolding with_step
plug_step step top f none = refl
plug_step step (inside whole reached tag vr items outer) f none =
    plug_step step outer (front whole (open_sequence tag vr Undefined items (open_item Undefined f)) reached false) (not_finished step whole tag vr items f reached)
    ∙ ap (λ (x : Option Trees). plug outer (step_in_item x whole reached false tag vr items (with_step step f))) none

-- ---- checks

checks_pass : (p o m fr af v d l : Bool) → p ≡ true → m ≡ false → fr ≡ false → af ≡ true → v ≡ false → d ≡ false
    → first_fault ((not p || (o && m) || fr, NotAllowed) ∷ (not m && not af, NotAscending) ∷ (v, ValueDoesNotFit) ∷ (d, TooDeep) ∷ (m && l, BadMetaGroup) ∷ []) ≡ None
checks_pass true true false false true false false l p m fr af v d = refl
checks_pass true false false false true false false l p m fr af v d = refl
checks_pass p o m fr af v d l hp hm hf ha hv hd = absurd (cc)

ended_now : (e : Bool) → e || true ≡ true
ended_now true = refl
ended_now false = refl

-- what a step needs where its set stands so
record Welcome (coding : Coding) (s : OpenContainers) (step : Step) : Type 0 where
  place : has_place_in (container_of s.containers) step ≡ true
  no_meta : is_meta step ≡ false
  fragments_here : is_fragment_opening step && not (allows_fragments (Some coding)) ≡ false
  after : is_after (reached_in s.reached s.containers) (element_tag step) ≡ true
  value : lacks_value step ≡ false
  few : is_opening step && nat_le 64 (lists_open s.containers) ≡ false

holds : (p : Where) (reached : Option Tag) → holds_elements (container_of (standing_at p reached).containers) ≡ true
holds the_top reached = refl
holds (within before outer) reached = refl

reached_is : (p : Where) (reached : Option Tag) → reached_in (standing_at p reached).reached (standing_at p reached).containers ≡ reached
reached_is the_top reached = refl
reached_is (within before outer) reached = refl

no_meta_tag : (tag : Tag) → tag.group ≢ 2 → (tag.group == 2) ≡ false
no_meta_tag tag h = apart tag.group h
  where
    apart : (g : ℕ) → g ≢ 2 → (g == 2) ≡ false
    apart g h = grind (arith, nat_tests, h)

is_few : (n m : ℕ) → n ≡ m → m < 64 → nat_le 64 n ≡ false
is_few n m e h = grind (arith, nat_tests, e, h)

no_fragments : (coding : Coding) → holds_fragments coding.syntax ≡ true → not (allows_fragments (Some coding)) ≡ false
no_fragments coding e = ap not e

module _ (coding : Coding) (k : Around) (reached : Option Tag) (tag : Tag) (vr : Vr) (other : tag.group ≢ 2) (above : is_above tag reached ≡ true) where
  abbrev here : OpenContainers
  here = standing_at (place_of k) reached

  above_here : is_after (reached_in here.reached here.containers) (Some tag) ≡ true
  above_here = ap (λ (r : Option Tag). is_above tag r) (reached_is (place_of k) reached) ∙ above

  leaf_welcome : (value : List ℕ) → Welcome coding here (show_leaf tag vr (Some value))
  leaf_welcome value = record { place = holds (place_of k) reached; no_meta = no_meta_tag tag other; fragments_here = refl; after = above_here; value = refl; few = refl }

  module _ (few : open_lists k < 64) where
    sequence_welcome : Welcome coding here (begin_sequence tag vr)
    sequence_welcome = record { place = holds (place_of k) reached; no_meta = no_meta_tag tag other; fragments_here = refl; after = above_here; value = refl; few = is_few _ (open_lists k) (lists_are k reached) few }

    fragments_welcome : holds_fragments coding.syntax ≡ true → Welcome coding here (begin_fragments tag vr)
    fragments_welcome little = record { place = holds (place_of k) reached; no_meta = no_meta_tag tag other; fragments_here = no_fragments coding little; after = above_here; value = refl; few = is_few _ (open_lists k) (lists_are k reached) few }

-- ---- steps, one after another

leads_both : (xs ys : List Step) (b c d : Built) → Leads xs b c → Leads ys c d → Leads (xs ++ ys) b d
leads_both [] ys b c d h k = subst (λ (x : Built). Leads ys x d) (sym h) k
leads_both (x ∷ xs) ys b c d h k = (h.0, h.1, leads_both xs ys h.0 c d h.2 k)

pub then_nothing : (w : Trees) → then_trees w no_tree ≡ w
then_nothing no_tree = refl
then_nothing (leaf tag vr value rest) = ap (leaf tag vr value) (then_nothing rest)
then_nothing (sequence tag vr declared items rest) = ap (sequence tag vr declared items) (then_nothing rest)
then_nothing (fragments tag vr values rest) = ap (fragments tag vr values) (then_nothing rest)

pub then_more : (w x y : Trees) → then_trees (then_trees w x) y ≡ then_trees w (then_trees x y)
then_more no_tree x y = refl
then_more (leaf tag vr value rest) x y = ap (leaf tag vr value) (then_more rest x y)
then_more (sequence tag vr declared items rest) x y = ap (sequence tag vr declared items) (then_more rest x y)
then_more (fragments tag vr values rest) x y = ap (fragments tag vr values) (then_more rest x y)

then_no_items : (w : Items) → then_items w no_item ≡ w
then_no_items no_item = refl
then_no_items (item declared set rest) = ap (item declared set) (then_no_items rest)

then_more_items : (w x y : Items) → then_items (then_items w x) y ≡ then_items w (then_items x y)
then_more_items no_item x y = refl
then_more_items (item declared set rest) x y = ap (item declared set) (then_more_items rest x y)

group_pass : (m e n : Bool) → m ≡ false → n ≡ false → first_fault ((m && e, BadMetaGroup) ∷ (not m && not e && n, NoTransferSyntax) ∷ []) ≡ None
group_pass false true false hm hn = refl
group_pass false false false hm hn = refl
group_pass m e n hm hn = absurd (cc)

abbrev pub by_group : Option LineFault → Step → Built → Result Built Refused
by_group x step b = elim x as (λ y. Result Built Refused) [ Some fault ↦ refused fault b | None ↦ checked step (in_group step b) ]

abbrev pub by_checks : Option LineFault → Step → Built → Result Built Refused
by_checks x step b = elim x as (λ y. Result Built Refused) [ Some fault ↦ refused fault b | None ↦ Ok (accepted step b) ]

module _ (meta : Trees) (coding : Coding) (named : named_coding meta ≡ Some coding) where
  abbrev built : Bool → Front → Built
  built e f = record { meta = meta; meta_ended = e; set = f }

  entered : (e : Bool) (step : Step) (f : Front) → is_meta step ≡ false → in_group step (built e f) ≡ built true f
  entered e step f h = ap (λ (m : Bool). built (e || not m) f) h ∙ ap (λ (x : Bool). built x f) (ended_now e)

  accepted_set : (step : Step) (f : Front) → is_meta step ≡ false → accepted step (built true f) ≡ built true (with_step step f)
  accepted_set step f h = ap (λ (m : Bool). cond m (record (built true f) { meta = with_meta step meta }) (built true (with_step step f))) h

  passes : (step : Step) (f : Front) → Welcome coding (standing_of f) step → first_fault (step_checks step (built true f)) ≡ None
  passes step f w =
      let alike = all_alike f in
      checks_pass (has_place_in (innermost (open_levels f)) step) (is_opening step) (is_meta step) (is_fragment_opening step && not (allows_fragments (named_coding meta)))
      (is_after (innermost_reached f) (element_tag step)) (lacks_value step) (is_opening step && nat_le 64 (depth (open_levels f))) (nat_lt META_LIMIT (trees_size Little (with_meta step meta)))
      (ap (λ (c : Container). has_place_in c step) (sym alike.container) ∙ w.place)
      w.no_meta
      (ap (λ (c : Option Coding). is_fragment_opening step && not (allows_fragments c)) named ∙ w.fragments_here)
      (ap (λ (r : Option Tag). is_after r (element_tag step)) (sym (all_reached f)) ∙ w.after)
      w.value
      (ap (λ (n : ℕ). is_opening step && nat_le 64 n) (sym alike.deep) ∙ w.few)

  taken : (e : Bool) (step : Step) (f : Front) → Welcome coding (standing_of f) step → with_shown step (built e f) ≡ Ok (built true (with_step step f))
  taken e step f w =
      ap (λ (x : Option LineFault). by_group x step (built e f)) (group_pass (is_meta step) e (is_none (named_coding meta)) w.no_meta (ap is_none named))
      ∙ ap (checked step) (entered e step f w.no_meta)
      ∙ ap (λ (x : Option LineFault). by_checks x step (built true f)) (passes step f w)
      ∙ ap Ok (accepted_set step f w.no_meta)

  -- from a set to another
  record Comes (steps : List Step) (e : Bool) (f g : Front) : Type 0 where
    later : Bool
    leads : Leads steps (built e f) (built later g)

  comes_both : (xs ys : List Step) (e : Bool) (f g h : Front) → Comes xs e f g → ((x : Bool) → Comes ys x g h) → Comes (xs ++ ys) e f h
  comes_both xs ys e f g h a b = record { later = (b a.later).later; leads = leads_both xs ys (built e f) (built a.later g) (built (b a.later).later h) a.leads (b a.later).leads }

  one_step : (step : Step) (e : Bool) (f g : Front) (s : OpenContainers) → standing_of f ≡ s → Welcome coding s step → with_step step f ≡ g → Comes (step ∷ []) e f g
  one_step step e f g s at w is =
      record { later = true; leads = (built true (with_step step f), taken e step f (subst (λ (x : OpenContainers). Welcome coding x step) (sym at) w), ap (built true) is) }

  abbrev at_set : Around → Trees → Option Tag → Front
  at_set k w r = plug k (front w nothing_open r false)

  abbrev at_items : Around → Trees → Option Tag → Tag → Vr → Items → Front
  at_items k w r tag vr items = plug k (front w (open_sequence tag vr Undefined items no_open_item) r false)

  abbrev at_fragments : Around → Trees → Option Tag → Tag → Vr → List (List ℕ) → Front
  at_fragments k w r tag vr values = plug k (front w (open_fragments tag vr values None) r false)

  fragments_built : (k : Around) (w : Trees) (r : Option Tag) (tag : Tag) (vr : Vr) (before : List (List ℕ)) (e : Bool) (values : List (List ℕ))
      → Comes (map fragment_step values) e (at_fragments k w r tag vr before) (at_fragments k w r tag vr (before ++ values))
  unfolding with_step standing_in
  fragments_built k w r tag vr before e [] = record { later = e; leads = ap (λ (vs : List (List ℕ)). built e (at_fragments k w r tag vr vs)) (sym (append-nil before)) }
  fragments_built k w r tag vr before e (v ∷ values) =
      subst (λ (vs : List (List ℕ)). Comes (map fragment_step (v ∷ values)) e (at_fragments k w r tag vr before) (at_fragments k w r tag vr vs)) (append_assoc before (v ∷ []) values)
      (comes_both (fragment_step v ∷ []) (map fragment_step values) e (at_fragments k w r tag vr before) (at_fragments k w r tag vr (before ++ v ∷ [])) (at_fragments k w r tag vr ((before ++ v ∷ []) ++ values))
      (one_step (fragment_step v) e (at_fragments k w r tag vr before) (at_fragments k w r tag vr (before ++ v ∷ [])) (entering FragmentList (standing_at (place_of k) r))
      (plug_stands k (front w (open_fragments tag vr before None) r false)) (record { place = refl; no_meta = refl; fragments_here = refl; after = refl; value = refl; few = refl })
      (plug_step (fragment_step v) k (front w (open_fragments tag vr before None) r false) refl))
      (λ x. fragments_built k w r tag vr (before ++ v ∷ []) x values))

  mutual
    unfolding set_steps MayStand rebuilt last_tag with_step standing_in

    set_built : (k : Around) (w : Trees) (r : Option Tag) (e : Bool) (x : Trees) → Ascend r x → MayStand coding (open_lists k) x → Comes (set_steps x) e (at_set k w r) (at_set k (then_trees w (rebuilt x)) (last_tag r x))
    set_built k w r e no_tree a m = record { later = e; leads = ap (λ (z : Trees). built e (at_set k z r)) (sym (then_nothing w)) }
    set_built k w r e (leaf tag vr v rest) a m =
        let one : Trees = leaf tag vr (value_shown vr v) no_tree in
        subst (λ (z : Trees). Comes (set_steps (leaf tag vr v rest)) e (at_set k w r) (at_set k z (last_tag (Some tag) rest))) (then_more w one (rebuilt rest))
        (comes_both (show_leaf tag vr (Some (value_shown vr v)) ∷ []) (set_steps rest) e (at_set k w r) (at_set k (then_trees w one) (Some tag)) (at_set k (then_trees (then_trees w one) (rebuilt rest)) (last_tag (Some tag) rest))
        (one_step (show_leaf tag vr (Some (value_shown vr v))) e (at_set k w r) (at_set k (then_trees w one) (Some tag)) (standing_at (place_of k) r)
        (plug_stands k (front w nothing_open r false)) (leaf_welcome coding k r tag vr m.0 a.0 (value_shown vr v))
        (plug_step (show_leaf tag vr (Some (value_shown vr v))) k (front w nothing_open r false) refl))
        (λ x. set_built k (then_trees w one) (Some tag) x rest a.1 m.1))
    set_built k w r e (sequence tag vr declared items rest) a m =
        let one : Trees = sequence tag vr Undefined (rebuilt_items items) no_tree in
        let opened : Front = at_items k w (Some tag) tag vr no_item in
        let full : Front = at_items k w (Some tag) tag vr (rebuilt_items items) in
        let closed : Front = at_set k (then_trees w one) (Some tag) in
        let last : Front = at_set k (then_trees (then_trees w one) (rebuilt rest)) (last_tag (Some tag) rest) in
        subst (λ (z : Trees). Comes (set_steps (sequence tag vr declared items rest)) e (at_set k w r) (at_set k z (last_tag (Some tag) rest))) (then_more w one (rebuilt rest))
        (comes_both (begin_sequence tag vr ∷ []) (items_steps items ++ end_sequence ∷ set_steps rest) e (at_set k w r) opened last
        (one_step (begin_sequence tag vr) e (at_set k w r) opened (standing_at (place_of k) r)
        (plug_stands k (front w nothing_open r false)) (sequence_welcome coding k r tag vr m.0 a.0 m.1) (plug_step (begin_sequence tag vr) k (front w nothing_open r false) refl))
        (λ x. comes_both (items_steps items) (end_sequence ∷ set_steps rest) x opened full last (items_built k w (Some tag) tag vr no_item x items a.1 m.2)
        (λ y. comes_both (end_sequence ∷ []) (set_steps rest) y full closed last
        (one_step end_sequence y full closed (entering Sequence (standing_at (place_of k) (Some tag))) (plug_stands k (front w (open_sequence tag vr Undefined (rebuilt_items items) no_open_item) (Some tag) false))
        (record { place = refl; no_meta = refl; fragments_here = refl; after = refl; value = refl; few = refl }) (plug_step end_sequence k (front w (open_sequence tag vr Undefined (rebuilt_items items) no_open_item) (Some tag) false) refl))
        (λ z. set_built k (then_trees w one) (Some tag) z rest a.2 m.3))))
    set_built k w r e (fragments tag vr values rest) a m =
        let one : Trees = fragments tag vr values no_tree in
        let opened : Front = at_fragments k w (Some tag) tag vr [] in
        let full : Front = at_fragments k w (Some tag) tag vr values in
        let closed : Front = at_set k (then_trees w one) (Some tag) in
        let last : Front = at_set k (then_trees (then_trees w one) (rebuilt rest)) (last_tag (Some tag) rest) in
        subst (λ (z : Trees). Comes (set_steps (fragments tag vr values rest)) e (at_set k w r) (at_set k z (last_tag (Some tag) rest))) (then_more w one (rebuilt rest))
        (comes_both (begin_fragments tag vr ∷ []) (map fragment_step values ++ end_sequence ∷ set_steps rest) e (at_set k w r) opened last
        (one_step (begin_fragments tag vr) e (at_set k w r) opened (standing_at (place_of k) r)
        (plug_stands k (front w nothing_open r false)) (fragments_welcome coding k r tag vr m.0 a.0 m.1 m.2) (plug_step (begin_fragments tag vr) k (front w nothing_open r false) refl))
        (λ x. comes_both (map fragment_step values) (end_sequence ∷ set_steps rest) x opened full last (fragments_built k w (Some tag) tag vr [] x values)
        (λ y. comes_both (end_sequence ∷ []) (set_steps rest) y full closed last
        (one_step end_sequence y full closed (entering FragmentList (standing_at (place_of k) (Some tag))) (plug_stands k (front w (open_fragments tag vr values None) (Some tag) false))
        (record { place = refl; no_meta = refl; fragments_here = refl; after = refl; value = refl; few = refl }) (plug_step end_sequence k (front w (open_fragments tag vr values None) (Some tag) false) refl))
        (λ z. set_built k (then_trees w one) (Some tag) z rest a.1 m.3))))

    items_built : (k : Around) (w : Trees) (r : Option Tag) (tag : Tag) (vr : Vr) (before : Items) (e : Bool) (x : Items) → ItemsAscend x → ItemsMayStand coding (suc (open_lists k)) x
        → Comes (items_steps x) e (at_items k w r tag vr before) (at_items k w r tag vr (then_items before (rebuilt_items x)))
    items_built k w r tag vr before e no_item a m = record { later = e; leads = ap (λ (z : Items). built e (at_items k w r tag vr z)) (sym (then_no_items before)) }
    items_built k w r tag vr before e (item declared set rest) a m =
        let one : Items = item Undefined (rebuilt set) no_item in
        let inner : Around = inside w r tag vr before k in
        let opened : Front = at_set inner no_tree None in
        let full : Front = at_set inner (rebuilt set) (last_tag None set) in
        let closed : Front = at_items k w r tag vr (then_items before one) in
        let last : Front = at_items k w r tag vr (then_items (then_items before one) (rebuilt_items rest)) in
        let around_set : Front = front w (open_sequence tag vr Undefined before (open_item Undefined (front (rebuilt set) nothing_open (last_tag None set) false))) r false in
        subst (λ (z : Items). Comes (items_steps (item declared set rest)) e (at_items k w r tag vr before) (at_items k w r tag vr z)) (then_more_items before one (rebuilt_items rest))
        (comes_both (begin_item ∷ []) (set_steps set ++ end_item ∷ items_steps rest) e (at_items k w r tag vr before) opened last
        (one_step begin_item e (at_items k w r tag vr before) opened (entering Sequence (standing_at (place_of k) r)) (plug_stands k (front w (open_sequence tag vr Undefined before no_open_item) r false))
        (record { place = refl; no_meta = refl; fragments_here = refl; after = refl; value = refl; few = refl }) (plug_step begin_item k (front w (open_sequence tag vr Undefined before no_open_item) r false) refl))
        (λ x. comes_both (set_steps set) (end_item ∷ items_steps rest) x opened full last (set_built inner no_tree None x set a.0 m.0)
        (λ y. comes_both (end_item ∷ []) (items_steps rest) y full closed last
        (one_step end_item y full closed (standing_at (place_of inner) (last_tag None set)) (plug_stands inner (front (rebuilt set) nothing_open (last_tag None set) false))
        (record { place = refl; no_meta = refl; fragments_here = refl; after = refl; value = refl; few = refl }) (plug_step end_item k around_set (not_finished end_item w tag vr before (front (rebuilt set) nothing_open (last_tag None set) false) r)))
        (λ z. items_built k w r tag vr (then_items before one) z rest a.1 m.1))))

pub all_built : (coding : Coding) (set : Trees) → Ascend None set → MayStand coding 0 set → BuildAgain coding set
all_built coding set a m = λ b named empty. from b.meta b.meta_ended b.set named empty
  where
    from : (meta : Trees) (e : Bool) (f : Front) → named_coding meta ≡ Some coding → f ≡ no_elements
        → (c : Built) × Leads (set_steps set) (record { meta = meta; meta_ended = e; set = f }) c × (c.meta ≡ meta) × (c.set ≡ front (rebuilt set) nothing_open (last_tag None set) false)
    from meta e f named empty =
        let h = set_built meta coding named top no_tree None e set a m in
        let last : Built = record { meta = meta; meta_ended = h.later; set = front (rebuilt set) nothing_open (last_tag None set) false } in
        (last, subst (λ (x : Front). Leads (set_steps set) (record { meta = meta; meta_ended = e; set = x }) last) (sym empty) h.leads, refl, refl)
