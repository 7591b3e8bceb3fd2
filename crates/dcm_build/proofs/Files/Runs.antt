-- A file that is built from a whole input, and from a beginning of one.
use Rattle.std.proofs.Common.{◌≡◌, ◌∙◌, ap, sym, refl, subst, ℕ, ◌+◌, ◌≤◌, List, [], ◌∷◌, ◌++◌, length, append_assoc, cond, Option, Some, None, Bool, true, false, ◌&&◌, ◌||◌, not, arith}
use Rattle.std.specs.Prelude.{fold, is_some, is_none}
use Rattle.std.proofs.lemmas.List.{append-nil}
use Rattle.dcm_lemmas.proofs.Lists.{take_none}
use Rattle.dcm_base.specs.declared.level.Container.{Container}
use Rattle.dcm_base.specs.declared.syntax.Coding.{Coding}
use Rattle.dcm_base.specs.declared.fault.LineFault.{LineFault}
use Rattle.dcm_base.specs.declared.fault.LineFault.TheVariants.{EndsEarly, NoTransferSyntax}
use Rattle.dcm_base.specs.Lines.Build as build
use Rattle.dcm_base.specs.Lines.Build.{first_fault, Built, Progress, Lines, lines, lines_of, with_line, tell, built_bytes, with_rest, at_input_end, meta_has_ended, named_coding, innermost, open_levels}
use Rattle.dcm_base.specs.declared.fault.LineStop.{LineStop}
use Rattle.dcm_base.specs.Tree.Front.{Front}
use Rattle.dcm_base.specs.Reading.Reads.{INPUT_LIMIT}
use Rattle.dcm_base.specs.Steps.Steps.{outputs}
use Rattle.dcm_base.specs.Tree.Tree.{Trees}
use Rattle.dcm_build.specs.Building as steps
use Rattle.dcm_build.specs.Building.{BuildState, build_start, build_step, build_writes, file_start, meta_over, line_taken, line_writes, last_line, last_writes, closed, closed_writes, ended_meta, end_writes, read_size, finishes, finish_writes, tells_at_end}
use Rattle.dcm_build.specs.BuildLaws.{Builds, BuiltSoFar, Stays}
use Rattle.dcm_build.specs.NewGroup.{trees_of}
use Rattle.dcm_build.specs.OpenContainers.{OpenContainers, container_of}
use Rattle.dcm_build.proofs.Files.OpenContainers.{all_alike}
use Rattle.dcm_build.proofs.Files.Steps.{Stands, stands_bytes, same_out, none_sent, mk}
use Rattle.dcm_build.proofs.Files.Lines.{lines_from, lines_are, result, built_is, end_stays, Going, LineEnds, goes, stops, line_ends, Ran, runs, told_of, all_ran, run_lines}

-- ---- the end of the input

end_over : (meta : Trees) (set : Front) (s : BuildState) (out : List ℕ) (ended named e x : Bool) → e ≡ ended → x ≡ named → Stands (mk meta ended set) s out
    → Stands (mk meta (ended || named) set) (cond (not e && x) (meta_over s) s) (out ++ cond (not e && x) (file_start s) [])
end_over meta set s out true named true x q r h = same_out (mk meta true set) s out h
end_over meta set s out true named false x q r h = absurd (cc)
end_over meta set s out false named true x q r h = absurd (cc)
end_over meta set s out false true false false q r h = absurd (cc)
end_over meta set s out false false false true q r h = absurd (cc)
end_over meta set s out false false false false q r h = same_out (mk meta false set) s out h
end_over meta set s out false true false true q r h =
    record { meta = h.meta; ended = refl; standing = h.standing; sent = none_sent set s out h.sent.0 h.sent.1 }

over_stands : (b : Built) (s : BuildState) (out : List ℕ) → Stands b s out → Stands (meta_has_ended b) (ended_meta s) (out ++ end_writes s)
over_stands b s out h = end_over b.meta b.set s out b.meta_ended (is_some (named_coding b.meta)) s.meta_ended (is_some (named_coding (trees_of s.meta))) h.ended (ap (λ (x : Trees). is_some (named_coding x)) h.meta) h

end_list : Bool → Option Coding → Container → List (Bool × LineFault)
end_list ended coding c = (not ended && is_none coding, NoTransferSyntax) ∷ (not (build.is_the_top c), EndsEarly) ∷ []

end_checks_alike : (b : Built) (s : BuildState) (out : List ℕ) → Stands b s out → steps.end_checks s ≡ build.end_checks b
unfolding end_list
end_checks_alike b s out h =
    ap (λ x. end_list x (named_coding (trees_of s.meta)) (container_of s.standing.containers)) h.ended
    ∙ ap (λ (x : Trees). end_list b.meta_ended (named_coding x) (container_of s.standing.containers)) h.meta
    ∙ ap (λ (x : Container). end_list b.meta_ended (named_coding b.meta) x) (ap (λ (x : OpenContainers). container_of x.containers) h.standing ∙ (all_alike b.set).container)

-- where the input ends
pub record EndsAs (p : Progress) (s : BuildState) (out : List ℕ) : Type 0 where
  pub file : out ≡ built_bytes p.built
  pub told : s.told ≡ p.told

ended_by : (r : Option LineFault) (size : ℕ) (p : Progress) (s : BuildState) (out : List ℕ) → out ≡ built_bytes (meta_has_ended p.built) → s.number ≡ p.line → s.told ≡ p.told
    → EndsAs (elim r [ Some fault ↦ tell fault size p.line (record p { built = meta_has_ended p.built }) | None ↦ record p { built = meta_has_ended p.built } ]) (elim r [ Some fault ↦ tells_at_end size fault s | None ↦ s ]) out
ended_by None size p s out o n t = record { file = o; told = t }
ended_by (Some fault) size p s out o n t = record { file = o; told = ap (λ (k : ℕ). Some (record { fault = fault; offset = size; line = k })) n }

over_place : (t : Bool) (s : BuildState) → (cond t (meta_over s) s).number ≡ s.number
over_place true s = refl
over_place false s = refl

over_told : (t : Bool) (s : BuildState) → (cond t (meta_over s) s).told ≡ s.told
over_told true s = refl
over_told false s = refl

ends_alike : (p p' : Progress) (s s' : BuildState) (out out' : List ℕ) → EndsAs p s out → p' ≡ p → s' ≡ s → out' ≡ out → EndsAs p' s' out'
ends_alike p p' s s' out out' h e f g = record { file = g ∙ h.file ∙ ap (λ (x : Progress). built_bytes x.built) (sym e); told = ap (λ (x : BuildState). x.told) f ∙ h.told ∙ ap (λ (x : Progress). x.told) (sym e) }

-- at these faults of the end
abbrev built_end : Option LineFault → ℕ → Progress → Progress
built_end r size p = elim r [ Some fault ↦ tell fault size p.line (record p { built = meta_has_ended p.built }) | None ↦ record p { built = meta_has_ended p.built } ]

abbrev state_end : Option LineFault → ℕ → BuildState → BuildState
state_end r size s = elim r [ Some fault ↦ tells_at_end size fault (ended_meta s) | None ↦ ended_meta s ]

fresh_end : (size : ℕ) (p : Progress) → p.told ≡ None → at_input_end size p ≡ built_end (first_fault (build.end_checks p.built)) size p
fresh_end size p e = ap (λ (o : Option LineStop). elim o as (λ x. Progress) [ Some t ↦ p | None ↦ built_end (first_fault (build.end_checks p.built)) size p ]) e

fresh_closed : (size : ℕ) (s : BuildState) → s.told ≡ None → closed size s ≡ state_end (first_fault (steps.end_checks s)) size s
fresh_closed size s e = ap (λ (o : Option LineStop). elim o as (λ x. BuildState) [ Some t ↦ s | None ↦ state_end (first_fault (steps.end_checks s)) size s ]) e

fresh_closed_writes : (s : BuildState) → s.told ≡ None → closed_writes s ≡ end_writes s
fresh_closed_writes s e = ap (λ (o : Option LineStop). elim o as (λ x. List ℕ) [ Some t ↦ [] | None ↦ end_writes s ]) e

told_closed : (size : ℕ) (s : BuildState) (t : LineStop) → s.told ≡ Some t → closed size s ≡ s
told_closed size s t e = ap (λ (o : Option LineStop). elim o as (λ x. BuildState) [ Some u ↦ s | None ↦ state_end (first_fault (steps.end_checks s)) size s ]) e

told_closed_writes : (s : BuildState) (t : LineStop) → s.told ≡ Some t → closed_writes s ≡ []
told_closed_writes s t e = ap (λ (o : Option LineStop). elim o as (λ x. List ℕ) [ Some u ↦ [] | None ↦ end_writes s ]) e

closing : (limit size : ℕ) (p : Progress) (s : BuildState) (line out : List ℕ) → Going limit p s line out → EndsAs (at_input_end size p) (closed size s) (out ++ closed_writes s)
closing limit size p s line out g =
    let r : Option LineFault = first_fault (steps.end_checks s) in
    let opens : Bool = not s.meta_ended && is_some (named_coding (trees_of s.meta)) in
    ends_alike (built_end r size p) (at_input_end size p) (state_end r size s) (closed size s) (out ++ end_writes s) (out ++ closed_writes s)
    (ended_by r size p (ended_meta s) (out ++ end_writes s) (stands_bytes (meta_has_ended p.built) (ended_meta s) (out ++ end_writes s) (over_stands p.built s out g.stands)) (over_place opens s ∙ g.number_is) (over_told opens s ∙ g.told_is ∙ sym g.fresh))
    (fresh_end size p g.fresh ∙ ap (λ (x : List (Bool × LineFault)). built_end (first_fault x) size p) (sym (end_checks_alike p.built s out g.stands)))
    (fresh_closed size s g.told_is)
    (ap (λ z. out ++ z) (fresh_closed_writes s g.told_is))

-- ---- the last line

fresh_finish : (s : BuildState) → s.told ≡ None → finishes s ≡ closed (read_size s) (last_line s)
fresh_finish s e = ap (λ (o : Option LineStop). elim o as (λ x. BuildState) [ Some t ↦ s | None ↦ closed (read_size s) (last_line s) ]) e

fresh_finish_writes : (s : BuildState) → s.told ≡ None → finish_writes s ≡ last_writes s ++ closed_writes (last_line s)
fresh_finish_writes s e = ap (λ (o : Option LineStop). elim o as (λ x. List ℕ) [ Some t ↦ [] | None ↦ last_writes s ++ closed_writes (last_line s) ]) e

told_finish : (s : BuildState) (t : LineStop) → s.told ≡ Some t → finishes s ≡ s
told_finish s t e = ap (λ (o : Option LineStop). elim o as (λ x. BuildState) [ Some u ↦ s | None ↦ closed (read_size s) (last_line s) ]) e

told_finish_writes : (s : BuildState) (t : LineStop) → s.told ≡ Some t → finish_writes s ≡ []
told_finish_writes s t e = ap (λ (o : Option LineStop). elim o as (λ x. List ℕ) [ Some u ↦ [] | None ↦ last_writes s ++ closed_writes (last_line s) ]) e

last_by : (s : BuildState) (line : List ℕ) → s.line ≡ line → last_line s ≡ elim line [ [] ↦ s | c ∷ cs ↦ line_taken s ]
last_by s line e = ap (λ (l : List ℕ). elim l as (λ x. BuildState) [ [] ↦ s | c ∷ cs ↦ line_taken s ]) e

last_writes_by : (s : BuildState) (line : List ℕ) → s.line ≡ line → last_writes s ≡ elim line [ [] ↦ [] | c ∷ cs ↦ line_writes s ]
last_writes_by s line e = ap (λ (l : List ℕ). elim l as (λ x. List ℕ) [ [] ↦ [] | c ∷ cs ↦ line_writes s ]) e

-- behind the last line
last_closed : (limit size : ℕ) (p : Progress) (s : BuildState) (out : List ℕ) (place : ℕ) → LineEnds limit p s out place → EndsAs (at_input_end size p) (closed size s) (out ++ closed_writes s)
last_closed limit size p s out place (goes g at) = closing limit size p s [] out g
last_closed limit size p s out place (stops t st pt o) =
    ends_alike p (at_input_end size p) s (closed size s) out (out ++ closed_writes s) (record { file = o; told = st ∙ sym pt })
    (end_stays size p t pt) (told_closed size s t st) (ap (λ z. out ++ z) (told_closed_writes s t st) ∙ append-nil out)

rest_closed : (limit size : ℕ) (p : Progress) (s : BuildState) (rest out : List ℕ) → Going limit p s rest out
    → EndsAs (at_input_end size (with_rest limit rest p)) (closed size (elim rest [ [] ↦ s | c ∷ cs ↦ line_taken s ])) ((out ++ elim rest [ [] ↦ [] | c ∷ cs ↦ line_writes s ]) ++ closed_writes (elim rest [ [] ↦ s | c ∷ cs ↦ line_taken s ]))
rest_closed limit size p s [] out g =
    ends_alike (at_input_end size p) (at_input_end size p) (closed size s) (closed size s) (out ++ closed_writes s) ((out ++ []) ++ closed_writes s) (closing limit size p s [] out g) refl refl (ap (λ z. z ++ closed_writes s) (append-nil out))
rest_closed limit size p s (c ∷ cs) out g = last_closed limit size (with_line limit p (c ∷ cs)) (line_taken s) (out ++ line_writes s) ((p.offset + length (c ∷ cs)) + 1) (line_ends limit p s (c ∷ cs) out g)

finishing : (limit : ℕ) (p : Progress) (s : BuildState) (rest out : List ℕ) → Going limit p s rest out → EndsAs (at_input_end (p.offset + length rest) (with_rest limit rest p)) (finishes s) (out ++ finish_writes s)
finishing limit p s rest out g =
    let size : ℕ = p.offset + length rest in
    let t : BuildState = elim rest as (λ x. BuildState) [ [] ↦ s | c ∷ cs ↦ line_taken s ] in
    let w : List ℕ = elim rest as (λ x. List ℕ) [ [] ↦ [] | c ∷ cs ↦ line_writes s ] in
    let read : read_size s ≡ size = ap (λ k. k + length s.line) g.offset_is ∙ ap (λ (x : List ℕ). p.offset + length x) g.line_is in
    let last : last_line s ≡ t = last_by s rest g.line_is in
    ends_alike (at_input_end size (with_rest limit rest p)) (at_input_end size (with_rest limit rest p)) (closed size t) (finishes s) ((out ++ w) ++ closed_writes t) (out ++ finish_writes s)
    (rest_closed limit size p s rest out g)
    refl
    (fresh_finish s g.told_is ∙ ap (λ k. closed k (last_line s)) read ∙ ap (λ (x : BuildState). closed size x) last)
    (ap (λ z. out ++ z) (fresh_finish_writes s g.told_is ∙ ap (λ z. z ++ closed_writes (last_line s)) (last_writes_by s rest g.line_is) ∙ ap (λ (x : BuildState). w ++ closed_writes x) last) ∙ sym (append_assoc out w (closed_writes t)))

-- ---- the laws

size_read : (q r n : ℕ) → q + r ≡ (0 + 0) + n → n ≡ q + r
size_read q r n e = omega (arith, e)

builds_by : (limit : ℕ) (bytes : List ℕ) (s : BuildState) (out : List ℕ) → Ran limit INPUT_LIMIT build.at_start [] bytes s out → Builds limit bytes s out
builds_by limit bytes s out (runs q left rest g h c same ended) =
    let e = finishing limit q s rest out g in
    let is : build.built limit bytes ≡ at_input_end (q.offset + length rest) (with_rest limit rest q) =
    built_is limit bytes
    ∙ ap (λ (x : List ℕ). result limit (length bytes) INPUT_LIMIT build.at_start [] x) (sym (append-nil bytes))
    ∙ same [] (length bytes)
    ∙ ap (λ (x : List ℕ). at_input_end (length bytes) (with_rest limit (lines_from rest x).rest (run_lines limit q (lines_from rest x).ended))) (take_none left)
    ∙ ap (λ k. at_input_end k (with_rest limit rest q)) (size_read q.offset (length rest) (length bytes) c) in
    record { file = e.file ∙ ap (λ (x : Progress). built_bytes x.built) (sym is); told = e.told ∙ ap (λ (x : Progress). x.told) (sym is) }
builds_by limit bytes s out (told_of t e f) =
    let is : build.built limit bytes ≡ result limit (length bytes) INPUT_LIMIT build.at_start [] (bytes ++ []) = built_is limit bytes ∙ ap (λ (x : List ℕ). result limit (length bytes) INPUT_LIMIT build.at_start [] x) (sym (append-nil bytes)) in
    let k = f [] (length bytes) in
    record {
      file = ap (λ z. out ++ z) (told_finish_writes s t e) ∙ append-nil out ∙ k.1 ∙ ap (λ (x : Progress). built_bytes x.built) (sym is);
      told = ap (λ (x : BuildState). x.told) (told_finish s t e) ∙ e ∙ sym k.0 ∙ ap (λ (x : Progress). x.told) (sym is);
    }

so_far_by : (limit : ℕ) (bytes : List ℕ) (s : BuildState) (out : List ℕ) → Ran limit INPUT_LIMIT build.at_start [] bytes s out → s.told ≡ None → BuiltSoFar limit bytes s out
so_far_by limit bytes s out (told_of t e f) n = absurd (let no : Some t ≡ None = sym e ∙ n in cc)
so_far_by limit bytes s out (runs q left rest g h c same ended) n =
    let all : bytes ++ [] ≡ bytes = append-nil bytes in
    let k = ended [] in
    let built : build.built_by limit (lines_of bytes).ended ≡ q = ap (λ (l : Lines). run_lines limit build.at_start l.ended) (lines_are bytes) ∙ ap (λ (x : List ℕ). run_lines limit build.at_start (lines_from [] x).ended) (sym all) ∙ k.0 in
    let left_over : (lines_of bytes).rest ≡ rest = ap (λ (l : Lines). l.rest) (lines_are bytes) ∙ ap (λ (x : List ℕ). (lines_from [] x).rest) (sym all) ∙ k.1 in
    record {
      file = stands_bytes q.built s out g.stands ∙ ap (λ (x : Progress). built_bytes x.built) (sym built);
      no_fault = ap (λ (x : Progress). x.told) built ∙ g.fresh;
      line = g.line_is ∙ sym left_over;
      short = subst (λ (x : List ℕ). length x ≤ limit) (sym g.line_is) g.short;
      within = omega (arith, h, c);
    }

stays_by : (limit : ℕ) (bytes later : List ℕ) (told : LineStop) (s : BuildState) (out : List ℕ) → Ran limit INPUT_LIMIT build.at_start [] bytes s out → s.told ≡ Some told → Stays limit (bytes ++ later) told out
stays_by limit bytes later told s out (runs q left rest g h c same ended) e = absurd (let no : Some told ≡ None = sym e ∙ g.told_is in cc)
stays_by limit bytes later told s out (told_of t st f) e =
    let is = built_is limit (bytes ++ later) in
    let k = f later (length (bytes ++ later)) in
    record { told_is = ap (λ (x : Progress). x.told) is ∙ k.0 ∙ sym st ∙ e; file = k.1 ∙ ap (λ (x : Progress). built_bytes x.built) (sym is) }

pub whole : (limit : ℕ) (bytes : List ℕ) → Builds limit bytes (fold build_step (build_start limit) bytes) (outputs build_step build_writes (build_start limit) bytes)
whole limit bytes = builds_by limit bytes _ _ (all_ran limit bytes)

pub so_far : (limit : ℕ) (bytes : List ℕ) → (fold build_step (build_start limit) bytes).told ≡ None → BuiltSoFar limit bytes (fold build_step (build_start limit) bytes) (outputs build_step build_writes (build_start limit) bytes)
so_far limit bytes e = so_far_by limit bytes _ _ (all_ran limit bytes) e

pub refused : (limit : ℕ) (bytes later : List ℕ) (told : LineStop) → (fold build_step (build_start limit) bytes).told ≡ Some told → Stays limit (bytes ++ later) told (outputs build_step build_writes (build_start limit) bytes)
refused limit bytes later told e = stays_by limit bytes later told _ _ (all_ran limit bytes) e
