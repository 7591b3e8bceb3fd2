-- A whole value that is known at once, in both modes.
use Rattle.std.proofs.Common.{◌≡◌, ◌≤◌, ◌<◌, ℕ, ◌+◌, ◌==◌, List, [], ◌∷◌, ◌++◌, length, take, codes, ap, sym, ◌∙◌, arith, refl, cond, le-ltb, subst, true}
use Rattle.std.specs.Prelude.{count_by}
use Rattle.std.proofs.lemmas.Bool.{false≢true}
use Rattle.std.proofs.lemmas.List.{length-append}
use Rattle.dcm_base.proofs.Conversions.Order.{order_none}
use Rattle.dcm_base.specs.declared.vr.Vr.{Vr}
use Rattle.dcm_base.specs.declared.syntax.Syntax.{Syntax}
use Rattle.dcm_base.specs.declared.mode.Mode.{Mode}
use Rattle.dcm_base.specs.declared.mode.Mode.TheVariants.{Short, Full}
use Rattle.dcm_base.specs.Dump.ValueText.{shape, unpadded, bracketed, identified, padded, shortened, is_single, text_of, count}
use Rattle.dcm_value.specs.declared.way.Way.{Way}
use Rattle.dcm_value.specs.declared.way.Way.TheVariants.{InBrackets, ByName, InUnits}
use Rattle.dcm_value.specs.Way.{way_of}
use Rattle.dcm_value.specs.Laws.{after, written}
use Rattle.dcm_value.specs.Progress.{finishes, multiplicity}
use Rattle.dcm_value.specs.Whole.{is_known_as, shown_as, text_in, count_in}
use Rattle.dcm_value.proofs.Displays.TextLaws.{brackets_whole, brackets_count, name_whole, name_count}
use Rattle.dcm_value.proofs.Displays.TextSteps.{last_of, whole_none, count_none}
use Rattle.dcm_value.proofs.Displays.Wholes.{known_length, unpadded_within}

-- what is not cut is the same in both
pub uncut : (mode : Mode) (d : List ℕ) → length d ≤ 66 → padded (shortened mode d) ≡ padded d
uncut Short d few = ap (λ b. padded (cond b (take 63 d ++ codes "...") d)) (le-ltb 66 (length d) few)
uncut Full d few = refl

module _ (mode : Mode) (vr : Vr) (syntax : Syntax) where
  -- in brackets
  brackets_text : (v : List ℕ) → 0 < length v → way_of (shape vr) (length v) ≡ InBrackets → text_in mode vr syntax v ≡ padded (shortened mode (bracketed (unpadded vr v)))
  brackets_text [] some way = absurd (omega (arith, some))
  brackets_text (b ∷ bs) some way =
      let r = last_of b bs in
      let size : length r.init + 1 ≡ length (b ∷ bs) = sym (ap length r.is ∙ length-append r.init (r.last ∷ [])) in
      ap (λ v. written vr syntax (length (b ∷ bs)) mode v ++ finishes (after vr syntax (length (b ∷ bs)) mode v)) r.is
      ∙ brackets_whole vr syntax (length (b ∷ bs)) mode way r.init r.last size
      ∙ ap (λ v. padded (shortened mode (bracketed (unpadded vr v)))) (sym r.is)

  brackets_counted : (v : List ℕ) → 0 < length v → way_of (shape vr) (length v) ≡ InBrackets → count_in mode vr syntax v ≡ cond (is_single vr) 1 (1 + count_by (λ b. b == 92) v)
  brackets_counted [] some way = absurd (omega (arith, some))
  brackets_counted (b ∷ bs) some way =
      let r = last_of b bs in
      let size : length r.init + 1 ≡ length (b ∷ bs) = sym (ap length r.is ∙ length-append r.init (r.last ∷ [])) in
      ap (λ v. multiplicity (after vr syntax (length (b ∷ bs)) mode v)) r.is
      ∙ brackets_count vr syntax (length (b ∷ bs)) mode way r.init r.last size
      ∙ ap (λ v. cond (is_single vr) 1 (1 + count_by (λ x. x == 92) v)) (sym r.is)

  module _ (v : List ℕ) (some : 0 < length v) where
    -- one that is known at once
    pub record IsShownIn : Type 0 where
      pub text : text_in mode vr syntax v ≡ padded (shown_as (way_of (shape vr) (length v)) (unpadded vr v))
      pub count : count_in mode vr syntax v ≡ cond (is_single vr) 1 (1 + count_by (λ b. b == 92) v)

    pub known_in : length v ≤ 64 → is_known_as (way_of (shape vr) (length v)) (unpadded vr v) ≡ true → IsShownIn
    known_in few known = go (way_of (shape vr) (length v)) refl (known_length (way_of (shape vr) (length v)) (unpadded vr v) (omega (arith, unpadded_within vr v)) known) known
      where
        go : (w : Way) → way_of (shape vr) (length v) ≡ w → length (shown_as (way_of (shape vr) (length v)) (unpadded vr v)) ≤ 66 → is_known_as (way_of (shape vr) (length v)) (unpadded vr v) ≡ true → IsShownIn
        go InBrackets is within known =
            let same : shown_as (way_of (shape vr) (length v)) (unpadded vr v) ≡ bracketed (unpadded vr v) = ap (λ w. shown_as w (unpadded vr v)) is in
            record { text = brackets_text v some is ∙ uncut mode (bracketed (unpadded vr v)) (subst (λ t. length t ≤ 66) same within) ∙ ap padded (sym same); count = brackets_counted v some is }
        go ByName is within known =
            let same : shown_as (way_of (shape vr) (length v)) (unpadded vr v) ≡ identified (unpadded vr v) = ap (λ w. shown_as w (unpadded vr v)) is in
            record { text = name_whole vr syntax (length v) mode is v some ∙ uncut mode (identified (unpadded vr v)) (subst (λ t. length t ≤ 66) same within) ∙ ap padded (sym same); count = name_count vr syntax (length v) mode is v some }
        go InUnits is within known = absurd (false≢true (sym (ap (λ w. is_known_as w (unpadded vr v)) is) ∙ known))

  -- one without bytes
  pub none_in : (v : List ℕ) → length v ≡ 0 → text_in mode vr syntax v ≡ padded (codes "(no value available)")
  none_in [] e = whole_none vr syntax mode ∙ ap (text_of mode vr) (order_none syntax vr) ∙ uncut mode (codes "(no value available)") (omega arith)
  none_in (b ∷ bs) e = absurd (omega (arith, e))

  pub none_counted_in : (v : List ℕ) → length v ≡ 0 → count_in mode vr syntax v ≡ 0
  none_counted_in [] e = count_none vr syntax mode ∙ ap (count vr) (order_none syntax vr)
  none_counted_in (b ∷ bs) e = absurd (omega (arith, e))
