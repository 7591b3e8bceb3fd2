-- A whole value in short mode.
use Rattle.std.proofs.Common.{◌≡◌, ◌≤◌, ◌<◌, ℕ, ◌+◌, ◌%◌, ◌==◌, List, [], ◌∷◌, ◌++◌, length, codes, ap, sym, ◌∙◌, arith, refl, cond, true, false, Bool, le-ltb, leb-true, subst, ◌-◌, ◌&&◌, take, slice_index}
use Rattle.std.specs.Prelude.{count_by, nat_le, Option, Some, None}
use Rattle.std.specs.Option.{option_map_or}
use Rattle.std.proofs.lemmas.Bool.{false≢true}
use Rattle.dcm_base.specs.Tables.Uid.{uid_name}
use Rattle.std.proofs.lemmas.List.{length-append, length-take}
use Rattle.dcm_base.specs.Tables.Representation.{pad}
use Rattle.dcm_base.specs.declared.vr.Vr.{Vr}
use Rattle.dcm_base.specs.declared.syntax.Syntax.{Syntax}
use Rattle.dcm_base.specs.declared.mode.Mode.TheVariants.{Short}
use Rattle.dcm_base.specs.Dump.ValueText.{shape, escaped, unpadded, bracketed, identified, padded, is_single}
use Rattle.dcm_value.specs.declared.way.Way.{Way}
use Rattle.dcm_value.specs.declared.way.Way.TheVariants.{InBrackets, ByName, InUnits}
use Rattle.dcm_value.specs.Way.{way_of}
use Rattle.dcm_value.specs.Display.{blank, emit, ending}
use Rattle.dcm_value.specs.Progress.{Progress, further, waits, is_bracketed, end_writes, multiplicity}
use Rattle.dcm_value.specs.Whole.{whole, is_plain, is_known_as, shown_as}
use Rattle.dcm_value.proofs.Displays.PlainTexts.{plain_escaped}
use Rattle.dcm_value.proofs.Displays.TextSteps.{unopened_none}
use Rattle.dcm_value.proofs.Displays.Emits.{emit_twice, emit_settled}
use Rattle.dcm_value.proofs.Displays.Endings.{short_ends}
use Rattle.dcm_value.proofs.Displays.Steps.{Leads, leads_name, leads_nowhere}
use Rattle.dcm_value.proofs.Displays.TextEnds.{leads_end}
use Rattle.dcm_value.proofs.Displays.Written.{begun, opens_bracket, opens_nothing, tells_state, closes_some, counts_some}

-- what is not cut
whole_ends : (d : List ℕ) → length d ≤ 66 → ending (emit (blank Short) d) ≡ padded d
whole_ends d few = short_ends d few ∙ ap (λ b. padded (cond b (take 63 d ++ codes "...") d)) (le-ltb 66 (length d) few)

pub unpadded_within : (vr : Vr) (v : List ℕ) → length (unpadded vr v) ≤ length v
unpadded_within vr v = of_test (length v % 2 == 0 && slice_index v (length v - 1) == pad vr)
  where
    of_test : (t : Bool) → length (cond t (take (length v - 1) v) v) ≤ length v
    of_test true = omega (arith, length-take (length v - 1) v)
    of_test false = omega arith

-- what is known at once is not cut
plain_length : (t : List ℕ) → length t ≤ 64 → is_plain t ≡ true → length (bracketed t) ≤ 66
plain_length t few plain =
    let is : bracketed t ≡ codes "[" ++ t ++ codes "]" = ap (λ x. codes "[" ++ x ++ codes "]") (plain_escaped t plain) in
    omega (arith, ap length is, length-append (codes "[" ++ t) (codes "]"))

pub known_length : (w : Way) (t : List ℕ) → length t ≤ 64 → is_known_as w t ≡ true → length (shown_as w t) ≤ 66
known_length InBrackets t few known = plain_length t few known
known_length ByName t few known = of_name (uid_name t) known
  where
    of_name : (o : Option (List ℕ)) → option_map_or (λ name. nat_le (length name) 65) o (is_plain t) ≡ true → length (option_map_or (λ name. codes "=" ++ name) o (bracketed t)) ≤ 66
    of_name (Some name) short = omega (arith, leb-true (length name) 65 short)
    of_name None plain = plain_length t few plain
known_length InUnits t few known = omega arith

module _ (vr : Vr) (syntax : Syntax) (v : List ℕ) (some : 0 < length v) where
  -- one that is shown in brackets
  module _ (in_brackets : way_of (shape vr) (length v) ≡ InBrackets) where
    abbrev base : Progress
    base = begun vr syntax (length v) Short (codes "[")

    abbrev text : List ℕ
    text = escaped (unpadded vr v)

    abbrev reached : Progress
    reached = further base (length v) [] (count_by (λ b. b == 92) v) text

    leads_all : Leads base v reached text
    leads_all = leads_end base v in_brackets (emit_settled (blank Short) (codes "[")) (omega arith)

    is_reached : whole vr syntax v ≡ reached
    is_reached = tells_state vr syntax (length v) Short (codes "[") (opens_bracket vr syntax (length v) Short in_brackets some) v reached text leads_all

    brackets_shown : length (bracketed (unpadded vr v)) ≤ 66 → end_writes (whole vr syntax v) ≡ padded (bracketed (unpadded vr v))
    brackets_shown few =
        ap end_writes is_reached
        ∙ ap (λ c. ending (emit (emit (emit (blank Short) (codes "[")) text) c)) (closes_some reached InBrackets in_brackets some)
        ∙ ap (λ d. ending (emit d (codes "]"))) (emit_twice (blank Short) (codes "[") text)
        ∙ ap ending (emit_twice (blank Short) (codes "[" ++ text) (codes "]"))
        ∙ whole_ends ((codes "[" ++ text) ++ codes "]") few

    brackets_counted : multiplicity (whole vr syntax v) ≡ cond (is_single vr) 1 (1 + count_by (λ b. b == 92) v)
    brackets_counted = ap multiplicity is_reached ∙ counts_some reached InBrackets in_brackets some ∙ ap (λ n. cond (is_single vr) 1 (1 + n)) from_none
      where
        from_none : 0 + count_by (λ b. b == 92) v ≡ count_by (λ b. b == 92) v
        from_none = omega arith

  -- one that is shown by its name
  module _ (by_name : way_of (shape vr) (length v) ≡ ByName) where
    abbrev waiting : Progress
    waiting = waits (begun vr syntax (length v) Short []) v

    is_waiting : whole vr syntax v ≡ waiting
    is_waiting =
        tells_state vr syntax (length v) Short [] (opens_nothing vr syntax (length v) Short (ap is_bracketed by_name)) v waiting []
        (leads_name (begun vr syntax (length v) Short []) v by_name (emit_settled (blank Short) []))

    name_shown : length (identified (unpadded vr v)) ≤ 66 → end_writes (whole vr syntax v) ≡ padded (identified (unpadded vr v))
    name_shown few =
        ap end_writes is_waiting
        ∙ ap (λ c. ending (emit (emit (blank Short) []) c)) (closes_some waiting ByName by_name some)
        ∙ ap ending (emit_twice (blank Short) [] (identified (unpadded vr v)))
        ∙ whole_ends (identified (unpadded vr v)) few

    name_counted : multiplicity (whole vr syntax v) ≡ cond (is_single vr) 1 (1 + count_by (λ b. b == 92) v)
    name_counted = ap multiplicity is_waiting ∙ counts_some waiting ByName by_name some

  -- one that is known at once
  pub record IsShown : Type 0 where
    pub text : end_writes (whole vr syntax v) ≡ padded (shown_as (way_of (shape vr) (length v)) (unpadded vr v))
    pub count : multiplicity (whole vr syntax v) ≡ cond (is_single vr) 1 (1 + count_by (λ b. b == 92) v)

  pub known_shown : length v ≤ 64 → is_known_as (way_of (shape vr) (length v)) (unpadded vr v) ≡ true → IsShown
  known_shown few known = go (way_of (shape vr) (length v)) refl (known_length (way_of (shape vr) (length v)) (unpadded vr v) (omega (arith, unpadded_within vr v)) known) known
    where
      go : (w : Way) → way_of (shape vr) (length v) ≡ w → length (shown_as (way_of (shape vr) (length v)) (unpadded vr v)) ≤ 66 → is_known_as (way_of (shape vr) (length v)) (unpadded vr v) ≡ true → IsShown
      go InBrackets is within known =
          let same : shown_as (way_of (shape vr) (length v)) (unpadded vr v) ≡ bracketed (unpadded vr v) = ap (λ w. shown_as w (unpadded vr v)) is in
          record { text = brackets_shown is (subst (λ t. length t ≤ 66) same within) ∙ ap padded (sym same); count = brackets_counted is }
      go ByName is within known =
          let same : shown_as (way_of (shape vr) (length v)) (unpadded vr v) ≡ identified (unpadded vr v) = ap (λ w. shown_as w (unpadded vr v)) is in
          record { text = name_shown is (subst (λ t. length t ≤ 66) same within) ∙ ap padded (sym same); count = name_counted is }
      go InUnits is within known = absurd (false≢true (sym (ap (λ w. is_known_as w (unpadded vr v)) is) ∙ known))

-- one without bytes
begun_none : (vr : Vr) (syntax : Syntax) → whole vr syntax [] ≡ begun vr syntax 0 Short []
begun_none vr syntax = tells_state vr syntax 0 Short [] (unopened_none vr syntax Short) [] (begun vr syntax 0 Short []) [] (leads_nowhere (begun vr syntax 0 Short []))

pub none_shown : (vr : Vr) (syntax : Syntax) (v : List ℕ) → length v ≡ 0 → end_writes (whole vr syntax v) ≡ padded (codes "(no value available)")
none_shown vr syntax [] e = ap end_writes (begun_none vr syntax) ∙ ap ending (emit_twice (blank Short) [] (codes "(no value available)")) ∙ whole_ends (codes "(no value available)") (omega arith)
none_shown vr syntax (b ∷ bs) e = absurd (omega (arith, e))

pub none_counted : (vr : Vr) (syntax : Syntax) (v : List ℕ) → length v ≡ 0 → multiplicity (whole vr syntax v) ≡ 0
none_counted vr syntax [] e = ap multiplicity (begun_none vr syntax)
none_counted vr syntax (b ∷ bs) e = absurd (omega (arith, e))
