-- A call halts with a fault exactly where the bytes before it and its piece are not undecided.
use Rattle.std.proofs.Common.{◌≡◌, ◌∙◌, ap, sym, refl, subst, ℕ, ◌+◌, ◌≤◌, ◌<◌, ◌==◌, List, [], ◌∷◌, ◌++◌, length, length-append, append_assoc, cond, Option, Some, None, Bool, true, false, ◌⊎◌, ◌↔◌, inl, inr, arith}
use Rattle.std.specs.Prelude.{fold, nat_lt}
use Rattle.std.specs.Str.{byte}
use Rattle.std.proofs.lemmas.Bool.{lt-ltb}
use Rattle.std.proofs.lemmas.List.{append-nil}
use Rattle.std.proofs.lemmas.List.Sums.{fold-append}
use Rattle.dcm_lemmas.proofs.Numbers.{above_not_within}
use Rattle.dcm_lemmas.proofs.Options.{none_or_some}
use Rattle.dcm_base.specs.declared.fault.LineFault.TheVariants.{LineTooLong}
use Rattle.dcm_base.specs.Lines.Build as build
use Rattle.dcm_base.specs.Lines.Build.{Lines, lines, more_lines, at_start}
use Rattle.dcm_base.specs.declared.fault.LineStop.{LineStop}
use Rattle.dcm_base.specs.Reading.Reads.{INPUT_LIMIT}
use Rattle.dcm_build.specs.Builder.{Plain}
use Rattle.dcm_build.specs.Building.{BuildState, build_start, build_step, going_step, cut_short, line_taken, tells}
use Rattle.dcm_build_laws.specs.Undecided.{Undecided, IsTold, CallRefuses, CallTells}
use Rattle.dcm_build.proofs.Files.Lines.{lines_from, lines_are, run_lines, Ran, runs, told_of, all_ran}
use Rattle.dcm_build.proofs.Files.Runs.{so_far, refused}
use Rattle.dcm_build.proofs.Files.NoFaults.{none_told}

-- ---- the last newline

abbrev lines_by : Bool → List ℕ → ℕ → List ℕ → Lines
lines_by t line b bytes = cond t (more_lines line (lines_from [] bytes)) (lines_from (line ++ b ∷ []) bytes)

-- bytes up to the last newline, and those after it
record Cut (line bytes : List ℕ) (l : Lines) : Type 0 where
  front : List ℕ
  rest : List ℕ
  parts : bytes ≡ front ++ rest
  lines_are : lines_from line front ≡ lines l.ended []
  plain : Plain rest
  rest_is : l.rest ≡ rest

-- there is no newline, or a last one
abbrev Split : List ℕ → List ℕ → Lines → Type 0
Split line bytes l = (Plain bytes × (l ≡ lines [] (line ++ bytes))) ⊎ Cut line bytes l

split_by : (t : Bool) (line : List ℕ) (b : ℕ) (bytes : List ℕ) → (b == byte "\n") ≡ t → Split [] bytes (lines_from [] bytes) → Split (line ++ b ∷ []) bytes (lines_from (line ++ b ∷ []) bytes) → Split line (b ∷ bytes) (lines_by t line b bytes)
split_by true line b bytes e (inl x) h = inr (record {
  front = b ∷ [];
  rest = bytes;
  parts = refl;
  lines_are = ap (λ t. lines_by t line b []) e ∙ ap (λ (l : Lines). lines (line ∷ l.ended) []) (sym x.1);
  plain = x.0;
  rest_is = ap (λ (l : Lines). l.rest) x.1;
})
split_by true line b bytes e (inr x) h = inr (record {
  front = b ∷ x.front;
  rest = x.rest;
  parts = ap (λ (bs : List ℕ). b ∷ bs) x.parts;
  lines_are = ap (λ t. lines_by t line b x.front) e ∙ ap (more_lines line) x.lines_are;
  plain = x.plain;
  rest_is = x.rest_is;
})
split_by false line b bytes e g (inl x) = inl ((e, x.0), x.1 ∙ ap (λ (bs : List ℕ). lines [] bs) (append_assoc line (b ∷ []) bytes))
split_by false line b bytes e g (inr x) = inr (record {
  front = b ∷ x.front;
  rest = x.rest;
  parts = ap (λ (bs : List ℕ). b ∷ bs) x.parts;
  lines_are = ap (λ t. lines_by t line b x.front) e ∙ x.lines_are;
  plain = x.plain;
  rest_is = x.rest_is;
})

split_last : (line bytes : List ℕ) → Split line bytes (lines_from line bytes)
split_last line [] = inl (tt, ap (λ (bs : List ℕ). lines [] bs) (sym (append-nil line)))
split_last line (b ∷ bytes) = split_by (b == byte "\n") line b bytes refl (split_last [] bytes) (split_last (line ++ b ∷ []) bytes)

cut_of : (bytes : List ℕ) (l : Lines) → Split [] bytes l → Cut [] bytes l
cut_of bytes l (inl x) = record {
  front = [];
  rest = bytes;
  parts = refl;
  lines_are = ap (λ (m : Lines). lines m.ended []) (sym x.1);
  plain = x.0;
  rest_is = ap (λ (m : Lines). m.rest) x.1;
}
cut_of bytes l (inr x) = x

-- ---- the line that has not ended

-- where the state stands after bytes without fault
record At (limit : ℕ) (bytes : List ℕ) (s : BuildState) : Type 0 where
  limit_is : s.limit ≡ limit
  line_is : s.line ≡ (lines_from [] bytes).rest
  read : s.offset + length s.line ≡ length bytes

count : (q r n : ℕ) → q + r ≡ (0 + 0) + n → q + r ≡ n
count q r n e = omega (arith, e)

at_of : (limit : ℕ) (bytes : List ℕ) (s : BuildState) (out : List ℕ) → Ran limit INPUT_LIMIT at_start [] bytes s out → s.told ≡ None → At limit bytes s
at_of limit bytes s out (runs p left rest g h c same ended) none =
    let left_over : (lines_from [] bytes).rest ≡ rest = ap (λ (x : List ℕ). (lines_from [] x).rest) (sym (append-nil bytes)) ∙ (ended []).1 in
    record {
      limit_is = g.limit_is;
      line_is = g.line_is ∙ sym left_over;
      read = ap (λ k. k + length s.line) g.offset_is ∙ ap (λ (x : List ℕ). p.offset + length x) g.line_is ∙ count p.offset (length rest) (length bytes) c;
    }
at_of limit bytes s out (told_of t e f) none = absurd (let no : Some t ≡ None = sym e ∙ none in cc)

-- one byte more, where no fault was told
abbrev stepped : Bool → Bool → Bool → BuildState → ℕ → BuildState
stepped cut ends short s b = cond cut (cut_short s) (cond ends (line_taken s) (cond short (record s { line = s.line ++ b ∷ [] }) (tells LineTooLong s)))

goes_on : (s : BuildState) (b : ℕ) → s.told ≡ None → (b == byte "\n") ≡ false → length s.line < s.limit → s.offset + length s.line < INPUT_LIMIT → build_step s b ≡ record s { line = s.line ++ b ∷ [] }
goes_on s b none same short within =
    ap (λ (o : Option LineStop). elim o as (λ x. BuildState) [ Some t ↦ s | None ↦ going_step s b ]) none
    ∙ ap (λ t. stepped t (b == byte "\n") (nat_lt (length s.line) s.limit) s b) (above_not_within INPUT_LIMIT (s.offset + length s.line) within)
    ∙ ap (λ t. stepped false t (nat_lt (length s.line) s.limit) s b) same
    ∙ ap (λ t. stepped false false t s b) (lt-ltb (length s.line) s.limit short)

line_goes_on : (bytes : List ℕ) (s : BuildState) → s.told ≡ None → Plain bytes → length s.line + length bytes ≤ s.limit → (s.offset + length s.line) + length bytes ≤ INPUT_LIMIT → (fold build_step s bytes).told ≡ None
line_goes_on [] s none plain short within = none
line_goes_on (b ∷ bytes) s none plain short within =
    let longer : length (s.line ++ b ∷ []) ≡ length s.line + 1 = length-append s.line (b ∷ []) in
    ap (λ (x : BuildState). (fold build_step x bytes).told) (goes_on s b none plain.0 (omega (arith, short)) (omega (arith, within)))
    ∙ line_goes_on bytes (record s { line = s.line ++ b ∷ [] }) none plain.1 (omega (arith, longer, short)) (omega (arith, longer, within))

-- ---- where it goes on

line_room : (line rest own limit : ℕ) → line ≡ 0 → own ≡ limit → rest ≤ limit → line + rest ≤ own
line_room line rest own limit e f g = omega (arith, e, f, g)

input_room : (offset line front rest size most : ℕ) → offset + line ≡ front → size ≡ front + rest → size ≤ most → (offset + line) + rest ≤ most
input_room offset line front rest size most e f g = omega (arith, e, f, g)

front_room : (front rest size most : ℕ) → size ≡ front + rest → size ≤ most → front ≤ most
front_room front rest size most e f = omega (arith, e, f)

undecided_goes : (limit : ℕ) (bytes : List ℕ) → Undecided limit bytes → (fold build_step (build_start limit) bytes).told ≡ None
undecided_goes limit bytes u =
    let l : Lines = lines_from [] bytes in
    let x : Cut [] bytes l = cut_of bytes l (split_last [] bytes) in
    let s : BuildState = fold build_step (build_start limit) x.front in
    let fresh : (run_lines limit at_start l.ended).told ≡ None = ap (λ (m : Lines). (run_lines limit at_start m.ended).told) (sym (lines_are bytes)) ∙ u.no_fault in
    let size : length bytes ≡ length x.front + length x.rest = ap length x.parts ∙ length-append x.front x.rest in
    let none : s.told ≡ None = none_told limit x.front l.ended (front_room (length x.front) (length x.rest) (length bytes) INPUT_LIMIT size u.within) x.lines_are fresh in
    let at : At limit x.front s = at_of limit x.front s _ (all_ran limit x.front) none in
    let nothing : length s.line ≡ 0 = ap length (at.line_is ∙ ap (λ (m : Lines). m.rest) x.lines_are) in
    let short : length x.rest ≤ limit = subst (λ (bs : List ℕ). length bs ≤ limit) (ap (λ (m : Lines). m.rest) (lines_are bytes) ∙ x.rest_is) u.short in
    ap (λ (bs : List ℕ). (fold build_step (build_start limit) bs).told) x.parts
    ∙ ap (λ (y : BuildState). y.told) (fold-append build_step (build_start limit) x.front x.rest)
    ∙ line_goes_on x.rest s none x.plain (line_room (length s.line) (length x.rest) s.limit limit nothing at.limit_is short) (input_room s.offset (length s.line) (length x.front) (length x.rest) (length bytes) INPUT_LIMIT at.read size u.within)

goes_undecided : (limit : ℕ) (bytes : List ℕ) → (fold build_step (build_start limit) bytes).told ≡ None → Undecided limit bytes
goes_undecided limit bytes e =
    let b = so_far limit bytes e in
    record { within = b.within; no_fault = b.no_fault; short = subst (λ (line : List ℕ). length line ≤ limit) b.line b.short }

pub goes_where : (limit : ℕ) (bytes : List ℕ) → ((fold build_step (build_start limit) bytes).told ≡ None) ↔ Undecided limit bytes
goes_where limit bytes = (goes_undecided limit bytes, undecided_goes limit bytes)

-- ---- a call

refuses_where : (U : Type 0) (o : Option LineStop) → (o ≡ None → U) → (U → o ≡ None) → IsTold o ↔ (U → ⊥)
refuses_where U None f g = ((λ x. absurd (let no : None ≡ Some x.0 = x.1 in cc)), (λ no. absurd (no (f refl))))
refuses_where U (Some t) f g = ((λ x u. let no : Some t ≡ None = g u in cc), (λ no. (t, refl)))

pub call_refuses : (limit : ℕ) (before piece : List ℕ) → CallRefuses limit before piece
call_refuses limit before piece =
    let all = before ++ piece in
    subst (λ (s : BuildState). IsTold s.told ↔ (Undecided limit all → ⊥)) (fold-append build_step (build_start limit) before piece)
    (refuses_where (Undecided limit all) (fold build_step (build_start limit) all).told (goes_undecided limit all) (undecided_goes limit all))

module _ (limit : ℕ) (bytes : List ℕ) where
  told_here : (t : LineStop) → (fold build_step (build_start limit) bytes).told ≡ Some t → (build.built limit bytes).told ≡ Some t
  told_here t e = subst (λ (bs : List ℕ). (build.built limit bs).told ≡ Some t) (append-nil bytes) (refused limit bytes [] t e).told_is

  told_by : (t : LineStop) (o : Option LineStop) → (fold build_step (build_start limit) bytes).told ≡ o → (build.built limit bytes).told ≡ Some t → (Undecided limit bytes → ⊥) → (fold build_step (build_start limit) bytes).told ≡ Some t
  told_by t None e is decided = absurd (decided (goes_undecided limit bytes e))
  told_by t (Some u) e is _ = e ∙ sym (told_here u e) ∙ is

  tells_where : (t : LineStop) → ((fold build_step (build_start limit) bytes).told ≡ Some t) ↔ (((build.built limit bytes).told ≡ Some t) × (Undecided limit bytes → ⊥))
  tells_where t = (
    (λ e. (told_here t e, λ u. none_or_some (fold build_step (build_start limit) bytes).told t (undecided_goes limit bytes u) e)),
    (λ x. told_by t (fold build_step (build_start limit) bytes).told refl x.0 x.1),
  )

pub call_tells : (limit : ℕ) (before piece : List ℕ) (told : LineStop) → CallTells limit before piece told
call_tells limit before piece told =
    let all = before ++ piece in
    subst (λ (s : BuildState). (s.told ≡ Some told) ↔ (((build.built limit all).told ≡ Some told) × (Undecided limit all → ⊥))) (fold-append build_step (build_start limit) before piece)
    (tells_where limit all told)
