-- What is sure of the lines of a beginning stands at the front of what is built.
use Rattle.std.proofs.Common.{◌≡◌, ◌∙◌, ap, sym, ℕ, ◌==◌, ◌≤◌, List, [], ◌∷◌, ◌++◌, append_assoc, length, length-append, cond, Bool, true, false, Option, None, Some, refl, arith, inl, inr, ◌⊎◌}
use Rattle.std.specs.Str.{byte}
use Rattle.dcm_base.specs.Lines.Build as build
use Rattle.dcm_base.specs.Lines.Build.{Progress, Lines, lines, more_lines, lines_of, at_start}
use Rattle.dcm_base.specs.declared.fault.LineStop.{LineStop}
use Rattle.dcm_base.specs.Reading.Reads.{INPUT_LIMIT}
use Rattle.dcm_build.proofs.Files.Lines.{lines_from, lines_are, run_lines}
use Rattle.dcm_build.proofs.Files.Runs.{so_far}
use Rattle.dcm_build.proofs.Files.NoFaults.{none_told}
use Rattle.dcm_cli.specs.Answer.{Answer, LinesSure, built_answer, building_line}
use Rattle.dcm_cli.proofs.Passes.Lines.{written, output, lines_grow}

-- ---- the last newline

abbrev is_newline : ℕ → Bool
is_newline b = b == byte "\n"

abbrev lines_by : Bool → List ℕ → ℕ → List ℕ → Lines
lines_by t line b bytes = cond t (more_lines line (lines_from [] bytes)) (lines_from (line ++ b ∷ []) bytes)

-- no line has ended, or the bytes as far as the last newline have these lines and no more
abbrev Split : List ℕ → List ℕ → List (List ℕ) → Type 0
Split line bytes ended = (ended ≡ []) ⊎ ((q : List ℕ) × (r : List ℕ) × (bytes ≡ q ++ r) × (lines_from line q ≡ lines ended []))

split_by : (t : Bool) (line : List ℕ) (b : ℕ) (bytes : List ℕ) → is_newline b ≡ t → Split [] bytes (lines_from [] bytes).ended → Split (line ++ b ∷ []) bytes (lines_from (line ++ b ∷ []) bytes).ended → Split line (b ∷ bytes) (lines_by t line b bytes).ended
split_by true line b bytes e (inl none) h = inr (b ∷ [], bytes, refl, ap (λ t. lines_by t line b []) e ∙ ap (λ (ended : List (List ℕ)). lines (line ∷ ended) []) (sym none))
split_by true line b bytes e (inr x) h = inr (b ∷ x.0, x.1, ap (λ (bs : List ℕ). b ∷ bs) x.2, ap (λ t. lines_by t line b x.0) e ∙ ap (more_lines line) x.3)
split_by false line b bytes e g (inl none) = inl none
split_by false line b bytes e g (inr x) = inr (b ∷ x.0, x.1, ap (λ (bs : List ℕ). b ∷ bs) x.2, ap (λ t. lines_by t line b x.0) e ∙ x.3)

split_last : (line bytes : List ℕ) → Split line bytes (lines_from line bytes).ended
split_last line [] = inl refl
split_last line (b ∷ bytes) = split_by (is_newline b) line b bytes refl (split_last [] bytes) (split_last (line ++ b ∷ []) bytes)

-- ---- any beginning

module _ (limit : ℕ) (p later out : List ℕ) (sure : LinesSure limit p out) where
  abbrev ended : List (List ℕ)
  ended = (lines_from [] p).ended

  ended_are : (lines_of p).ended ≡ ended
  ended_are = ap (λ (l : Lines). l.ended) (lines_are p)

  fresh : (run_lines limit at_start ended).told ≡ None
  fresh = ap (λ (es : List (List ℕ)). (run_lines limit at_start es).told) (sym ended_are) ∙ sure.no_fault

  out_of : out ≡ build.built_bytes (run_lines limit at_start ended).built
  out_of = sure.out_is ∙ ap (λ (es : List (List ℕ)). build.built_bytes (run_lines limit at_start es).built) ended_are

  by_split : Split [] p ended → (rest : List ℕ) × (output limit (p ++ later) ≡ out ++ rest)
  by_split (inl none) =
      let nothing : out ≡ [] = out_of ∙ ap (λ (es : List (List ℕ)). build.built_bytes (run_lines limit at_start es).built) none in
      (output limit (p ++ later), ap (λ (bs : List ℕ). bs ++ output limit (p ++ later)) (sym nothing))
  by_split (inr x) =
      let q = x.0 in
      let r = x.1 in
      let long = ap length x.2 ∙ length-append q r in
      let within : length q ≤ INPUT_LIMIT = (let w = sure.within in omega (arith, long, w)) in
      let none = none_told limit q ended within x.3 fresh in
      let lines_q : (lines_of q).ended ≡ ended = ap (λ (l : Lines). l.ended) (lines_are q ∙ x.3) in
      let is : out ≡ written limit q = out_of
      ∙ ap (λ (es : List (List ℕ)). build.built_bytes (run_lines limit at_start es).built) (sym lines_q)
      ∙ sym (so_far limit q none).file
      in
      let more = lines_grow limit q (r ++ later) out none is in
      (more.0, ap (λ (bs : List ℕ). output limit (bs ++ later)) x.2 ∙ ap (output limit) (append_assoc q r later) ∙ more.1)

  pub sure_lines_grow : (rest : List ℕ) × (output limit (p ++ later) ≡ out ++ rest)
  sure_lines_grow = by_split (split_last [] p)

-- the output of an answer
pub answer_output : (p : Progress) → (built_answer p).output ≡ build.built_bytes p.built
answer_output p = by_told p.told
  where
    by_told : (o : Option LineStop) → (elim o as (λ x. Answer) [ None ↦ record { output = build.built_bytes p.built; lines = []; status = 0 } | Some t ↦ record { output = build.built_bytes p.built; lines = building_line t; status = 2 } ]).output ≡ build.built_bytes p.built
    by_told None = refl
    by_told (Some t) = refl
