-- The elements that stay of a meta group can be written, and name the same transfer syntax.
use Rattle.std.proofs.Common.{◌≡◌, ◌∙◌, ap, sym, subst, refl, ℕ, ◌≤◌, List, length, Bool, true, false, ◌||◌, Option, None, Some, arith, if◌then◌else◌, ◌≢◌, ◌==◌, ◌⊎◌, inl, inr}
use Rattle.dcm_base.specs.declared.length.Length.TheVariants.{Known}
use Rattle.dcm_base.specs.declared.tag.Tag.{Tag}
use Rattle.dcm_base.specs.declared.vr.Vr.{Vr}
use Rattle.dcm_base.specs.declared.vr.Vr.TheVariants.{SQ}
use Rattle.dcm_base.specs.declared.syntax.Syntax.{Syntax}
use Rattle.dcm_base.specs.Bytes.Spelling.{after, form}
use Rattle.dcm_base.specs.Conversion.NewMeta.{leaf_if, renewed, with_syntax, without_syntax}
use Rattle.dcm_base.specs.Conversion.Normal.{normal, normal_value, normal_vr}
use Rattle.dcm_base.specs.File.MetaGroup.{AreMeta}
use Rattle.dcm_base.specs.File.MetaReads.{syntax_value}
use Rattle.dcm_base.specs.Tables.Syntax.{Little}
use Rattle.dcm_base.specs.Tables.Tag.{is_tag}
use Rattle.dcm_base.specs.Tables.Transfer.{without_pads}
use Rattle.dcm_base.specs.Tree.Tree.{Trees, no_tree, leaf, sequence, fragments}
use Rattle.dcm_sinks.specs.MetaAgain.{elements_again}
use Rattle.dcm_sinks.proofs.ReadBack.NewMetaReads.{CanWrite, IsGroup}
use Rattle.dcm_uid.specs.Uid.{new_value}
use Rattle.dcm_uid.proofs.NewUids.{replaced_short}
use Rattle.dcm_deid.specs.declared.fate.Options.{Options}
use Rattle.dcm_deid.specs.declared.meta.MetaFate.{MetaFate}
use Rattle.dcm_deid.specs.declared.meta.MetaFate.TheVariants.{Remove, Keep, Uid}
use Rattle.dcm_deid.specs.Meta.{implementation, meta_fate, meta_renewing, stays, value_by_fate}

known_form : (vr : Vr) (n m : ℕ) → form Little vr (Known n) ≡ form Little vr (Known m)
unfolding form
known_form SQ n m = refl
known_form vr n m = refl

new_short : (key v : List ℕ) → length (new_value key v) ≤ 64
unfolding new_value
new_short key v = replaced_short key (without_pads v)

-- the transfer syntax stays
stays_by : (a b c : Bool) (other : MetaFate) → c ≡ true → (if a || b || c then Keep else other) ≡ Keep
stays_by true b true other h = refl
stays_by false true true other h = refl
stays_by false false true other h = refl
stays_by a b false other h = absurd (let no : false ≡ true = h in cc)

module _ (options : Options) (key : List ℕ) where
  abbrev left : Trees → Trees
  left x = renewed (meta_renewing options key) implementation x

  leaf_can : (fate : MetaFate) (t : Tag) (vr : Vr) (v : List ℕ) (rest more : Trees) → CanWrite (leaf t vr v rest) → CanWrite more → CanWrite (leaf_if (value_by_fate fate key v) t vr more)
  unfolding CanWrite
  leaf_can Remove t vr v rest more h k = k
  leaf_can Keep t vr v rest more h k = (h.0, h.1, h.2, h.3, k)
  leaf_can Uid t vr v rest more h k =
      let short = new_short key v in
      (h.0, h.1, omega (arith, short), known_form vr (length (new_value key v)) (length v) ∙ h.3, k)

  own_can : CanWrite implementation
  unfolding CanWrite form
  own_can = (refl, (omega arith, omega arith), omega arith, refl, (refl, (omega arith, omega arith), omega arith, refl, tt))

  can : (x : Trees) → CanWrite x → CanWrite (left x)
  unfolding CanWrite
  can no_tree h = own_can
  can (leaf t vr v rest) h = leaf_can (meta_fate options t) t vr v rest (left rest) h (can rest h.4)
  can (sequence t vr declared items rest) h = h
  can (fragments t vr values rest) h = h

  leaf_meta : (new : Option (List ℕ)) (t : Tag) (vr : Vr) (more : Trees) → t.group ≡ 2 → AreMeta more → AreMeta (leaf_if new t vr more)
  unfolding AreMeta
  leaf_meta None t vr more g h = h
  leaf_meta (Some w) t vr more g h = (g, h)

  are_meta : (x : Trees) → AreMeta x → AreMeta (left x)
  unfolding AreMeta
  are_meta no_tree h = (refl, (refl, tt))
  are_meta (leaf t vr v rest) h = leaf_meta (meta_renewing options key t vr v) t vr (left rest) h.0 (are_meta rest h.1)
  are_meta (sequence t vr declared items rest) h = h
  are_meta (fragments t vr values rest) h = h

  value_by : (new : Option (List ℕ)) (c : Bool) (t : Tag) (vr : Vr) (v : List ℕ) (more rest : Trees) → is_tag 2 0x10 t ≡ c → (c ≡ true → new ≡ Some v) → syntax_value more ≡ syntax_value rest
      → syntax_value (leaf_if new t vr more) ≡ syntax_value (leaf t vr v rest)
  value_by new true t vr v more rest at stays same =
      ap (λ (w : Option (List ℕ)). syntax_value (leaf_if w t vr more)) (stays refl) ∙ ap (λ (bs : List ℕ). if is_tag 2 0x10 t then v else bs) same
  value_by None false t vr v more rest at stays same = same ∙ sym (ap (λ (c : Bool). if c then v else syntax_value rest) at)
  value_by (Some w) false t vr v more rest at stays same = ap (λ (c : Bool). if c then w else syntax_value more) at ∙ same ∙ sym (ap (λ (c : Bool). if c then v else syntax_value rest) at)

  same_syntax : (x : Trees) → syntax_value (left x) ≡ syntax_value x
  same_syntax no_tree = refl
  same_syntax (leaf t vr v rest) =
      value_by (meta_renewing options key t vr v) (is_tag 2 0x10 t) t vr v (left rest) rest refl
      (λ e. ap (λ (fate : MetaFate). value_by_fate fate key v) (stays_by (is_tag 2 1 t) (is_tag 2 2 t) (is_tag 2 0x10 t) _ e)) (same_syntax rest)
  same_syntax (sequence t vr declared items rest) = same_syntax rest
  same_syntax (fragments t vr values rest) = same_syntax rest

  pub left_group : (x : Trees) → IsGroup x → IsGroup (left x)
  left_group x g = record { can = can x g.can; meta = are_meta x g.meta; some = λ none. g.some (sym (same_syntax x) ∙ none) }

-- ---- where unique identifiers are retained, all that is left stays, and the tool's own elements take their own place

module _ (options : Options) (key : List ℕ) where
  abbrev again : Trees → Trees
  again x = renewed (meta_renewing options key) implementation x

  abbrev AllStay : Trees → Type 0
  AllStay no_tree = ⊥
  AllStay (leaf t vr v rest) = ((meta_fate options t ≡ Keep) × AllStay rest) ⊎ (leaf t vr v rest ≡ implementation)
  AllStay (sequence t vr declared items rest) = AllStay rest
  AllStay (fragments t vr values rest) = AllStay rest

  pub they_stay : (x : Trees) → AllStay x → again x ≡ x
  they_stay no_tree h = absurd h
  they_stay (leaf t vr v rest) (inl h) = ap (λ (fate : MetaFate). leaf_if (value_by_fate fate key v) t vr (again rest)) h.0 ∙ ap (leaf t vr v) (they_stay rest h.1)
  they_stay (leaf t vr v rest) (inr own) = ap again own ∙ sym own
  they_stay (sequence t vr declared items rest) h = ap (sequence t vr declared items) (they_stay rest h)
  they_stay (fragments t vr values rest) h = ap (fragments t vr values) (they_stay rest h)

  either_stays : (b : Bool) (x y : Trees) → AllStay x → AllStay y → AllStay (if b then x else y)
  either_stays true x y h k = h
  either_stays false x y h k = k

  without_syntax_stays : (x : Trees) → AllStay x → AllStay (without_syntax x)
  without_syntax_stays no_tree h = absurd h
  without_syntax_stays (leaf t vr v rest) (inl h) = let more = without_syntax_stays rest h.1 in either_stays (is_tag 2 0x10 t) _ _ more (inl (h.0, more))
  without_syntax_stays (leaf t vr v rest) (inr own) = subst (λ (x : Trees). AllStay (without_syntax x)) (sym own) (inr refl)
  without_syntax_stays (sequence t vr declared items rest) h = without_syntax_stays rest h
  without_syntax_stays (fragments t vr values rest) h = without_syntax_stays rest h

  pub with_syntax_stays : (uid : List ℕ) (x : Trees) → AllStay x → AllStay (with_syntax uid x)
  with_syntax_stays uid no_tree h = absurd h
  with_syntax_stays uid (leaf t vr v rest) (inl h) = either_stays (is_tag 2 0x10 t) _ _ (inl (h.0, without_syntax_stays rest h.1)) (inl (h.0, with_syntax_stays uid rest h.1))
  with_syntax_stays uid (leaf t vr v rest) (inr own) = subst (λ (x : Trees). AllStay (with_syntax uid x)) (sym own) (inr refl)
  with_syntax_stays uid (sequence t vr declared items rest) h = with_syntax_stays uid rest h
  with_syntax_stays uid (fragments t vr values rest) h = with_syntax_stays uid rest h

  pub normal_stays : (x : Trees) → AllStay x → AllStay (normal Little x)
  unfolding normal
  normal_stays no_tree h = absurd h
  normal_stays (leaf t vr v rest) (inl h) = let more = normal_stays rest h.1 in either_stays (t.element == 0) _ _ more (inl (h.0, more))
  normal_stays (leaf t vr v rest) (inr own) = subst (λ (x : Trees). AllStay (normal Little x)) (sym own) (inr refl)
  normal_stays (sequence t vr declared items rest) h = let more = normal_stays rest h in either_stays (t.element == 0) _ _ more more
  normal_stays (fragments t vr values rest) h = let more = normal_stays rest h in either_stays (t.element == 0) _ _ more more

  module _ (given : options.uids ≡ true) where
    kept_or : (a b c : Bool) → c ≡ true → (if a then Keep else if b then (if c then Keep else Uid) else Remove) ≢ Uid
    kept_or true b c e = λ k. cc
    kept_or false true true e = λ k. cc
    kept_or false true false e = absurd (cc)
    kept_or false false c e = λ k. cc

    leaf_stays : (fate : MetaFate) (t : Tag) (vr : Vr) (v : List ℕ) (rest : Trees) → meta_fate options t ≡ fate → fate ≢ Uid → AllStay rest → AllStay (leaf_if (value_by_fate fate key v) t vr rest)
    leaf_stays Remove t vr v rest e other h = h
    leaf_stays Keep t vr v rest e other h = inl (e, h)
    leaf_stays Uid t vr v rest e other h = absurd (other refl)

    pub left_stays : (x : Trees) → AllStay (again x)
    left_stays no_tree = inr refl
    left_stays (leaf t vr v rest) = leaf_stays (meta_fate options t) t vr v (again rest) refl (kept_or (stays t) (is_tag 2 3 t) options.uids given) (left_stays rest)
    left_stays (sequence t vr declared items rest) = left_stays rest
    left_stays (fragments t vr values rest) = left_stays rest

    -- what is left of the group that reads back
    pub group_again : (uid : List ℕ) (x : Trees) → again (elements_again (again x) uid) ≡ normal Little (with_syntax uid (again x))
    group_again uid x = they_stay (normal Little (with_syntax uid (again x))) (normal_stays (with_syntax uid (again x)) (with_syntax_stays uid (again x) (left_stays x)))
