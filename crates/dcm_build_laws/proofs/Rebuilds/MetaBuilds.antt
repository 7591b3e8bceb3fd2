-- The lines of a meta group build it again.
use Rattle.std.proofs.Common.{◌≡◌, ◌∙◌, ap, sym, refl, subst, ℕ, suc, ◌+◌, ◌-◌, ◌≤◌, ◌%◌, List, [], ◌∷◌, ◌++◌, length, take, Option, Some, None, Bool, true, false, ◌&&◌, ◌||◌, not, cond, Ok, arith}
use Rattle.std.specs.Prelude.{if◌then◌else◌, ◌==◌, slice_index, is_none}
use Rattle.std.proofs.lemmas.Bool.{le-ltb}
use Rattle.std.proofs.lemmas.Bool.Decides.{nat_tests}
use Rattle.std.proofs.lemmas.List.{append-nil, length-take-le}
use Rattle.dcm_lemmas.proofs.Lists.{joined_alike}
use Rattle.dcm_base.specs.declared.tag.Tag.{Tag}
use Rattle.dcm_base.specs.declared.vr.Vr.{Vr}
use Rattle.dcm_base.specs.declared.vr.Vr.TheVariants.{AE, UI}
use Rattle.dcm_base.specs.declared.syntax.Syntax.{Syntax}
use Rattle.dcm_base.specs.Tables.Syntax.{Little}
use Rattle.dcm_base.specs.declared.fault.LineFault.{LineFault}
use Rattle.dcm_base.specs.declared.fault.LineFault.TheVariants.{NotAllowed, NotAscending, ValueDoesNotFit, TooDeep, BadMetaGroup, NoTransferSyntax}
use Rattle.dcm_base.specs.declared.level.Container.{Container}
use Rattle.dcm_base.specs.Tables.Tag.{is_tag}
use Rattle.dcm_base.specs.Tree.Tree.{Trees, no_tree, leaf, sequence, fragments, then_trees}
use Rattle.dcm_base.specs.Tables.Representation.{pad}
use Rattle.dcm_base.specs.Reading.Size.{trees_size}
use Rattle.dcm_base.specs.File.MetaGroup.{META_LIMIT, AreMeta}
use Rattle.dcm_base.specs.File.MetaReads.{syntax_value}
use Rattle.dcm_base.specs.Conversion.NewMeta.{without_syntax, with_syntax, group_length, new_meta}
use Rattle.dcm_base.specs.Conversion.Recode.{recode_set, recoded_leaf, unless_dropped}
use Rattle.dcm_base.specs.Tables.Transfer.{is_pad, before_pads, without_pads}
use Rattle.dcm_base.specs.Dump.ValueText.{shape, unpadded}
use Rattle.dcm_base.specs.Lines.ReadValue.{takes_bytes, value_shown}
use Rattle.dcm_base.specs.Lines.Line.{Step, show_leaf}
use Rattle.dcm_base.specs.Lines.Build.{Built, no_elements, named_syntax, named_coding, is_meta, has_place_in, innermost, open_levels, first_fault, step_checks, with_meta, with_step, checked, with_shown, rebuilt}
use Rattle.dcm_base_laws.proofs.DumpsBack.Losses.{recodes_same}
use Rattle.dcm_build_laws.specs.DumpLines.{set_steps}
use Rattle.dcm_build_laws.specs.StepsBuild.{Leads}
use Rattle.dcm_build.proofs.Files.Meta.{one_shown}
use Rattle.dcm_build.proofs.Files.OpenContainers.{standing_in, all_alike}
use Rattle.dcm_build_laws.proofs.Rebuilds.StepsBuild.{by_group, by_checks, then_nothing, then_more}

-- ---- values as they are shown

shown_shorter : (vr : Vr) (v : List ℕ) → length (value_shown vr v) ≤ length v
shown_shorter vr v = by_shape (takes_bytes (shape vr))
  where
    one_less : length (take (length v - 1) v) ≤ length v
    one_less = let e : length (take (length v - 1) v) ≡ length v - 1 = length-take-le (length v - 1) v (omega arith) in omega (arith, e)

    by_pad : (b : Bool) → length (if b then take (length v - 1) v else v) ≤ length v
    by_pad true = one_less
    by_pad false = omega arith

    by_shape : (b : Bool) → length (if b then unpadded vr v else v) ≤ length v
    by_shape true = by_pad (length v % 2 == 0 && slice_index v (length v - 1) == pad vr)
    by_shape false = omega arith

pad_gone : (u : List ℕ) (p : ℕ) → is_pad p ≡ true → without_pads (u ++ p ∷ []) ≡ without_pads u
unfolding without_pads
pad_gone [] p h = ap (λ (b : Bool). if b then [] else p ∷ []) h
pad_gone (x ∷ u) p h = ap (before_pads x) (pad_gone u p h)

is_a_pad : (vr : Vr) → is_pad (pad vr) ≡ true
is_a_pad AE = refl
is_a_pad _ = refl

last_apart : (b : ℕ) (v : List ℕ) → take (length v) (b ∷ v) ++ slice_index (b ∷ v) (length v) ∷ [] ≡ b ∷ v
last_apart b [] = refl
last_apart b (c ∷ v) = ap (λ (x : List ℕ). b ∷ x) (last_apart c v)

pads_gone : (vr : Vr) (v : List ℕ) → without_pads (unpadded vr v) ≡ without_pads v
pads_gone vr [] = by_pad (length {A = ℕ} [] % 2 == 0 && slice_index [] (length {A = ℕ} [] - 1) == pad vr)
  where
    by_pad : (b : Bool) → without_pads (if b then take (length {A = ℕ} [] - 1) [] else []) ≡ without_pads []
    by_pad true = refl
    by_pad false = refl
pads_gone vr (b ∷ v) = by_pad (length (b ∷ v) % 2 == 0 && slice_index (b ∷ v) (length (b ∷ v) - 1) == pad vr) refl
  where
    one_less : (n : ℕ) → suc n - 1 ≡ n
    one_less n = omega arith

    is_last : (x y : Bool) (m n : ℕ) → y ≡ (m == n) → (x && y) ≡ true → m ≡ n
    is_last true true m n e h = let f : (m == n) ≡ true = sym e in grind (arith, nat_tests, f)
    is_last x y m n e h = absurd (cc)

    by_pad : (t : Bool) → (length (b ∷ v) % 2 == 0 && slice_index (b ∷ v) (length (b ∷ v) - 1) == pad vr) ≡ t → without_pads (if t then take (length (b ∷ v) - 1) (b ∷ v) else b ∷ v) ≡ without_pads (b ∷ v)
    by_pad false e = refl
    by_pad true e =
        let last : slice_index (b ∷ v) (length v) ≡ pad vr = ap (slice_index (b ∷ v)) (sym (one_less (length v))) ∙ is_last (length (b ∷ v) % 2 == 0) (slice_index (b ∷ v) (length (b ∷ v) - 1) == pad vr) _ _ refl e in
        ap (λ (n : ℕ). without_pads (take n (b ∷ v))) (one_less (length v))
        ∙ sym (pad_gone (take (length v) (b ∷ v)) (pad vr) (is_a_pad vr))
        ∙ ap (λ (p : ℕ). without_pads (take (length v) (b ∷ v) ++ p ∷ [])) (sym last)
        ∙ ap without_pads (last_apart b v)

shown_named : (vr : Vr) (v : List ℕ) → without_pads (value_shown vr v) ≡ without_pads v
shown_named vr v = by_shape (takes_bytes (shape vr))
  where
    by_shape : (b : Bool) → without_pads (if b then unpadded vr v else v) ≡ without_pads v
    by_shape true = pads_gone vr v
    by_shape false = refl

-- ---- the transfer syntax that is named, and the group that is written

value_by : (t : Bool) (x y v w : List ℕ) → without_pads x ≡ without_pads v → without_pads y ≡ without_pads w → without_pads (if t then x else y) ≡ without_pads (if t then v else w)
value_by true x y v w e f = e
value_by false x y v w e f = f

pub same_syntax : (x : Trees) → named_syntax (rebuilt x) ≡ named_syntax x
unfolding rebuilt
same_syntax no_tree = refl
same_syntax (leaf tag vr v rest) = value_by (is_tag 2 0x10 tag) (value_shown vr v) (syntax_value (rebuilt rest)) v (syntax_value rest) (shown_named vr v) (same_syntax rest)
same_syntax (sequence tag vr declared items rest) = same_syntax rest
same_syntax (fragments tag vr values rest) = same_syntax rest

one_leaf : (s : Syntax) (tag : Tag) (vr : Vr) (v : List ℕ) → unless_dropped tag (recoded_leaf s tag vr (value_shown vr v)) ≡ unless_dropped tag (recoded_leaf s tag vr v)
unfolding recode_set rebuilt
one_leaf s tag vr v = sym (append-nil (unless_dropped tag (recoded_leaf s tag vr (value_shown vr v)))) ∙ recodes_same s (leaf tag vr v no_tree) ∙ append-nil (unless_dropped tag (recoded_leaf s tag vr v))

no_syntax_same : (x : Trees) → AreMeta x → recode_set Little (without_syntax (rebuilt x)) ≡ recode_set Little (without_syntax x)
unfolding recode_set rebuilt AreMeta
no_syntax_same no_tree h = refl
no_syntax_same (leaf tag vr v rest) h = by_tag (is_tag 2 0x10 tag) (no_syntax_same rest h.1)
  where
    by_tag : (t : Bool) → recode_set Little (without_syntax (rebuilt rest)) ≡ recode_set Little (without_syntax rest) → recode_set Little (if t then without_syntax (rebuilt rest) else leaf tag vr (value_shown vr v) (without_syntax (rebuilt rest))) ≡ recode_set Little (if t then without_syntax rest else leaf tag vr v (without_syntax rest))
    by_tag true e = e
    by_tag false e = joined_alike (one_leaf Little tag vr v) e
no_syntax_same (sequence tag vr declared items rest) h = absurd h
no_syntax_same (fragments tag vr values rest) h = absurd h

elements_same : (uid : List ℕ) (x : Trees) → AreMeta x → recode_set Little (with_syntax uid (rebuilt x)) ≡ recode_set Little (with_syntax uid x)
unfolding recode_set rebuilt AreMeta
elements_same uid no_tree h = refl
elements_same uid (leaf tag vr v rest) h = by_tag (is_tag 2 0x10 tag) (elements_same uid rest h.1)
  where
    by_tag : (t : Bool) → recode_set Little (with_syntax uid (rebuilt rest)) ≡ recode_set Little (with_syntax uid rest)
        → recode_set Little (if t then leaf tag UI uid (without_syntax (rebuilt rest)) else leaf tag vr (value_shown vr v) (with_syntax uid (rebuilt rest)))
        ≡ recode_set Little (if t then leaf tag UI uid (without_syntax rest) else leaf tag vr v (with_syntax uid rest))
    by_tag true e = joined_alike refl (no_syntax_same rest h.1)
    by_tag false e = joined_alike (one_leaf Little tag vr v) e
elements_same uid (sequence tag vr declared items rest) h = absurd h
elements_same uid (fragments tag vr values rest) h = absurd h

pub same_group : (uid : List ℕ) (x : Trees) → AreMeta x → new_meta (rebuilt x) uid ≡ new_meta x uid
same_group uid x h = ap (λ (bs : List ℕ). group_length (length bs) ++ bs) (elements_same uid x h)

-- ---- the steps of the group

abbrev pub group_built : Trees → Built
group_built w = record { meta = w; meta_ended = false; set = no_elements }

group_goes : (m n : Bool) → m ≡ true → first_fault ((m && false, BadMetaGroup) ∷ (not m && not false && n, NoTransferSyntax) ∷ []) ≡ None
group_goes true n e = refl
group_goes false n e = absurd (cc)

leaf_passes : (p m af l : Bool) → p ≡ true → m ≡ true → l ≡ false
    → first_fault ((not p || (false && m) || false, NotAllowed) ∷ (not m && not af, NotAscending) ∷ (false, ValueDoesNotFit) ∷ (false, TooDeep) ∷ (m && l, BadMetaGroup) ∷ []) ≡ None
leaf_passes true true af false hp hm hl = refl
leaf_passes p m af l hp hm hl = absurd (cc)

module _ (w : Trees) (tag : Tag) (vr : Vr) (v : List ℕ) (of_group : tag.group ≡ 2) (fits : trees_size Little (then_trees w (leaf tag vr v no_tree)) ≤ META_LIMIT) where
  abbrev step : Step
  step = show_leaf tag vr (Some v)

  of_meta : is_meta step ≡ true
  of_meta = ap (λ (g : ℕ). g == 2) of_group

  top_level : has_place_in (innermost (open_levels no_elements)) step ≡ true
  unfolding standing_in
  top_level = ap (λ (c : Container). has_place_in c step) (sym (all_alike no_elements).container)

  passes : first_fault (step_checks step (group_built w)) ≡ None
  passes = leaf_passes _ (is_meta step) _ _ top_level of_meta (le-ltb META_LIMIT (trees_size Little (with_meta step w)) fits)

  leaf_taken : with_shown step (group_built w) ≡ Ok (group_built (then_trees w (leaf tag vr v no_tree)))
  leaf_taken =
      ap (λ (x : Option LineFault). by_group x step (group_built w)) (group_goes (is_meta step) (is_none (named_coding w)) of_meta)
      ∙ ap (λ (m : Bool). checked step (record (group_built w) { meta_ended = false || not m })) of_meta
      ∙ ap (λ (x : Option LineFault). by_checks x step (group_built w)) passes
      ∙ ap (λ (m : Bool). Ok (cond m (record (group_built w) { meta = with_meta step w }) (record (group_built w) { set = with_step step no_elements }))) of_meta

pub group_leads : (w x : Trees) → AreMeta x → trees_size Little w + trees_size Little x ≤ META_LIMIT → Leads (set_steps x) (group_built w) (group_built (then_trees w (rebuilt x)))
unfolding AreMeta set_steps rebuilt trees_size
group_leads w no_tree h l = ap group_built (sym (then_nothing w))
group_leads w (leaf tag vr v rest) h l =
    let shown : List ℕ = value_shown vr v in
    let next : Trees = then_trees w (leaf tag vr shown no_tree) in
    let size = one_shown w tag vr shown in
    let less = shown_shorter vr v in (
      group_built next,
      leaf_taken w tag vr shown h.0 (omega (arith, l, size, less)),
      subst (λ (z : Trees). Leads (set_steps rest) (group_built next) (group_built z)) (then_more w (leaf tag vr shown no_tree) (rebuilt rest)) (group_leads next rest h.1 (omega (arith, l, size, less))),
    )
group_leads w (sequence tag vr declared items rest) h l = absurd h
group_leads w (fragments tag vr values rest) h l = absurd h
