-- Lines that a newline ends, none of them at fault, tell nothing.
use Rattle.std.proofs.Common.{◌≡◌, ◌∙◌, ap, sym, ℕ, zero, suc, ◌≤◌, List, [], ◌∷◌, ◌++◌, length, take, Bool, true, false, Option, None, Some, refl, arith}
use Rattle.std.specs.Prelude.{fold}
use Rattle.std.proofs.lemmas.List.{append-nil}
use Rattle.dcm_base.specs.declared.fault.LineFault.{LineFault}
use Rattle.dcm_base.specs.Lines.Build.{Progress, Lines, lines, at_start, at_input_end, at_the_cut, with_rest, first_fault, end_checks, meta_has_ended, tell}
use Rattle.dcm_base.specs.declared.fault.LineStop.{LineStop}
use Rattle.dcm_base.specs.Reading.Reads.{INPUT_LIMIT}
use Rattle.dcm_base.specs.Steps.Steps.{outputs}
use Rattle.dcm_build.specs.Building.{BuildState, build_start, build_step, build_writes}
use Rattle.dcm_build.proofs.Files.Lines.{lines_from, result, overlong, run_lines, Ran, runs, told_of, all_ran}

-- ---- the end of the input

abbrev ended_by : Option LineFault → ℕ → Progress → Progress
ended_by r size p = elim r as (λ x. Progress) [ Some fault ↦ tell fault size p.line (record p { built = meta_has_ended p.built }) | None ↦ record p { built = meta_has_ended p.built } ]

fresh_end : (size : ℕ) (p : Progress) → p.told ≡ None → at_input_end size p ≡ ended_by (first_fault (end_checks p.built)) size p
fresh_end size p e = ap (λ (o : Option LineStop). elim o as (λ x. Progress) [ Some t ↦ p | None ↦ ended_by (first_fault (end_checks p.built)) size p ]) e

apart : (t u : LineStop) → Some t ≡ Some u → t.offset ≡ 0 → u.offset ≡ 1 → ⊥
apart t u e x y = let same : t ≡ u = cc in let no = ap (λ (z : LineStop). z.offset) same in omega (arith, x, y, no)

-- a fault of the end is told at the input's size, so that no fault is told at the end of each input
never_told : (r : Option LineFault) (p : Progress) (t : LineStop) → p.told ≡ None → (ended_by r 0 p).told ≡ Some t → (ended_by r 1 p).told ≡ Some t → ⊥
never_told None p t none e f = let no : None ≡ Some t = sym none ∙ e in cc
never_told (Some fault) p t none e f = apart (record { fault = fault; offset = 0; line = p.line }) (record { fault = fault; offset = 1; line = p.line }) (e ∙ sym f) refl refl

-- ---- a beginning that ends with a newline

fits : (n : ℕ) (bytes : List ℕ) → length bytes ≤ n → (overlong n bytes ≡ false) × (take n bytes ≡ bytes)
fits zero [] h = (refl, refl)
fits (suc n) [] h = (refl, refl)
fits zero (b ∷ bytes) h = absurd (omega (arith, h))
fits (suc n) (b ∷ bytes) h = let more = fits n bytes (omega (arith, h)) in (more.0, ap (λ (bs : List ℕ). b ∷ bs) more.1)

module _ (limit : ℕ) (q : List ℕ) (ended : List (List ℕ)) (within : length q ≤ INPUT_LIMIT) (are : lines_from [] q ≡ lines ended []) (no_fault : (run_lines limit at_start ended).told ≡ None) where
  abbrev of_lines : ℕ → Lines → Progress
  of_lines size l = at_input_end size (with_rest limit l.rest (run_lines limit at_start l.ended))

  abbrev by_size : ℕ → Bool → Lines → Progress
  by_size size cut l = elim cut as (λ x. Progress) [ true ↦ at_the_cut limit l.rest (run_lines limit at_start l.ended) | false ↦ of_lines size l ]

  at_end : (size : ℕ) → result limit size INPUT_LIMIT at_start [] (q ++ []) ≡ ended_by (first_fault (end_checks (run_lines limit at_start ended).built)) size (run_lines limit at_start ended)
  at_end size =
      let f = fits INPUT_LIMIT q within in
      ap (λ (bs : List ℕ). result limit size INPUT_LIMIT at_start [] bs) (append-nil q)
      ∙ ap (λ (cut : Bool). by_size size cut (lines_from [] (take INPUT_LIMIT q))) f.0
      ∙ ap (λ (bs : List ℕ). of_lines size (lines_from [] bs)) f.1
      ∙ ap (of_lines size) are
      ∙ fresh_end size (run_lines limit at_start ended) no_fault

  told_none : (s : BuildState) (out : List ℕ) → Ran limit INPUT_LIMIT at_start [] q s out → s.told ≡ None
  told_none s out (runs p left rest g h c same more) = g.told_is
  told_none s out (told_of t e f) =
      absurd (never_told (first_fault (end_checks (run_lines limit at_start ended).built)) (run_lines limit at_start ended) t no_fault
      (ap (λ (p : Progress). p.told) (sym (at_end 0)) ∙ (f [] 0).0) (ap (λ (p : Progress). p.told) (sym (at_end 1)) ∙ (f [] 1).0))

  pub none_told : (fold build_step (build_start limit) q).told ≡ None
  none_told = told_none (fold build_step (build_start limit) q) (outputs build_step build_writes (build_start limit) q) (all_ran limit q)
