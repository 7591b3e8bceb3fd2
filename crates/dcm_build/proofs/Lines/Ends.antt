-- A line of a file that is built ends, and the last one.
use Rattle.std.proofs.Common.{◌≡◌, ◌∙◌, ap, sym, subst, arith, ℕ, suc, ◌+◌, List, [], ◌++◌, length, Option, None, Some, Result, Ok, Err}
use Rattle.std.specs.Prelude.{IsErrAnd}
use Rattle.std.specs.Io.KnownBytes.{append_known}
use Rattle.std.proofs.lemmas.List.{append-nil}
use Rattle.dcm_lemmas.proofs.Options.{known_twice}
use Rattle.dcm_base.specs.Lines.Build.{first_fault, without_return}
use Rattle.dcm_base.specs.Lines.Line.{means}
use Rattle.dcm_base.specs.declared.fault.LineFault.{LineFault}
use Rattle.dcm_devices.proofs.Writes.Puts.{front_longer, puts_behind}
use Rattle.dcm_build.specs.Halts.{BuildHalt}
use Rattle.dcm_base.specs.declared.stopped.Stopped.TheVariants.{Refused, Output}
use Rattle.dcm_build.specs.declared.file.NewFile.{NewFile}
use Rattle.dcm_build.specs.Halts.{LineHalt}
use Rattle.dcm_build.specs.declared.line_reader.LineReader.{LineReader}
use Rattle.dcm_build.specs.Builder.{line_at, building, next_line_at, halts, Reaches}
use Rattle.dcm_build.specs.Building.{BuildState, next_line, meaning_taken, meaning_writes, line_taken, line_writes, closed, closed_writes, end_checks, end_writes, ended_meta, tells_at_end}
use Rattle.dcm_build.specs.NewFile.{LineAt, state, seen, Comes, Ends}

-- the line was taken
abbrev pub TakesLine : {T : Type 0} → (held holds : Option (List ℕ)) → NewFile → LineAt → NewFile → List ℕ → Result T LineHalt → Type 0
TakesLine held holds f at new line r = Comes held holds (state new at None) (meaning_taken (means (without_return line)) (state f at None)) (meaning_writes (means (without_return line)) (state f at None)) r

-- ---- a line

-- where the next one begins
pub place_after : (p : LineReader) (line : List ℕ) (offset : ℕ) → line ≡ [] → offset ≡ p.offset + length p.line.items + 1 → record { limit = p.limit; line = line; offset = offset; number = p.number + 1 } ≡ next_line_at (line_at p)
place_after p line offset e f =
    let on : p.number + 1 ≡ suc p.number = omega arith in
    ap (λ (l : List ℕ). record (line_at p) { line = l; offset = offset; number = p.number + 1 }) e
    ∙ ap (λ (n : ℕ). record (line_at p) { line = []; offset = n; number = p.number + 1 }) f
    ∙ ap (λ (n : ℕ). record (line_at p) { line = []; offset = p.offset + length p.line.items + 1; number = n }) on

pub line_ended : {T : Type 0} (p q : LineReader) (held holds : Option (List ℕ)) (line : List ℕ) (x : T) → line ≡ p.line.items → TakesLine held holds p.file (line_at p) q.file line (Ok x) → line_at q ≡ next_line_at (line_at p)
    → (building q None ≡ line_taken (building p None)) × (holds ≡ append_known held (line_writes (building p None)))
line_ended {T} p q held holds line x e h at =
    let taken = subst (λ (l : List ℕ). TakesLine {T = T} held holds p.file (line_at p) q.file l (Ok x)) e h in
    (ap (λ (a : LineAt). state q.file a None) at ∙ ap (next_line (length p.line.items)) taken.0, taken.1)

refused : (T : Type 0) (p q : LineReader) (held holds : Option (List ℕ)) (stopped : LineHalt) → TakesLine {T = Unit {0}} held holds p.file (line_at p) q.file p.line.items (Err stopped) → line_at q ≡ line_at p
    → Reaches {T = T} held holds (building q) (line_taken (building p None)) (line_writes (building p None)) (Err (halts stopped p.offset p.number))
refused T p q held holds (Refused fault) h at =
    (ap (λ (a : LineAt). state q.file a (Some (record { fault = fault; offset = p.offset; line = p.number }))) at ∙ ap (next_line (length p.line.items)) h.0, h.1)
refused T p q held holds Output h at = h

pub line_refused : (T : Type 0) (p q : LineReader) (held holds : Option (List ℕ)) (line : List ℕ) (stopped : LineHalt) (halt : BuildHalt) → line ≡ p.line.items → TakesLine {T = Unit {0}} held holds p.file (line_at p) q.file line (Err stopped) → line_at q ≡ line_at p
    → halt ≡ halts stopped p.offset p.number → Reaches {T = T} held holds (building q) (line_taken (building p None)) (line_writes (building p None)) (Err halt)
line_refused T p q held holds line stopped halt e h at is =
    subst (λ (x : BuildHalt). Reaches {T = T} held holds (building q) (line_taken (building p None)) (line_writes (building p None)) (Err x)) (sym is)
    (refused T p q held holds stopped (subst (λ (l : List ℕ). TakesLine {T = Unit {0}} held holds p.file (line_at p) q.file l (Err stopped)) e h) at)

-- ---- the end of the input

-- a fault or a failure in the last line
last_refused : (T : Type 0) (held holds : Option (List ℕ)) (q : LineReader) (s : BuildState) (bytes : List ℕ) (size : ℕ) (halt : BuildHalt) → Reaches {T = T} held holds (building q) s bytes (Err halt)
    → Reaches {T = T} held holds (building q) (closed size s) (bytes ++ closed_writes s) (Err halt)
last_refused T held holds q s bytes size (Refused stop) h =
    (ap (closed size) h.0, h.1 ∙ ap (append_known held) (sym (ap (λ (t : BuildState). bytes ++ closed_writes t) (sym h.0) ∙ append-nil bytes)))
last_refused T held holds q s bytes size Output h = front_longer (closed_writes s) h

pub last_failed : (U : Type 0) {T : Type 0} (held holds : Option (List ℕ)) (q : LineReader) (s : BuildState) (bytes : List ℕ) (size : ℕ) (halt : BuildHalt) (r : Result T BuildHalt) → Reaches {T = U} held holds (building q) s bytes (Err halt) → IsErrAnd r (λ x. x ≡ halt)
    → Reaches held holds (building q) (closed size s) (bytes ++ closed_writes s) r
last_failed U held holds q s bytes size halt (Ok x) h is = absurd is
last_failed U {T} held holds q s bytes size halt (Err x) h is =
    subst (λ (y : BuildHalt). Reaches {T = T} held holds (building q) (closed size s) (bytes ++ closed_writes s) (Err y)) (sym is) (last_refused T held holds q s bytes size halt h)

-- how the input ends at a state
abbrev closes : ℕ → BuildState → Option LineFault → BuildState
closes size s (Some fault) = tells_at_end size fault (ended_meta s)
closes size s None = ended_meta s

closed_at : (size : ℕ) (p : LineReader) (o : Option LineFault) → first_fault (end_checks (seen p.file)) ≡ o → closes size (building p None) o ≡ closed size (building p None)
closed_at size p (Some fault) e = ap (λ (o : Option LineFault). elim o [ Some fault ↦ tells_at_end size fault (ended_meta (building p None)) | None ↦ ended_meta (building p None) ]) (sym e)
closed_at size p None e = ap (λ (o : Option LineFault). elim o [ Some fault ↦ tells_at_end size fault (ended_meta (building p None)) | None ↦ ended_meta (building p None) ]) (sym e)

pub whole_ended : {T : Type 0} (p q : LineReader) (held mid holds : Option (List ℕ)) (s : BuildState) (bytes : List ℕ) (size : ℕ) (x : T) → building p None ≡ s → mid ≡ append_known held bytes → line_at q ≡ line_at p
    → Ends {T = T} mid holds (state q.file (line_at p) None) (ended_meta (building p None)) (first_fault (end_checks (seen p.file))) (end_writes (seen p.file)) (Ok x)
    → (building q None ≡ closed size s) × (holds ≡ append_known held (bytes ++ closed_writes s))
whole_ended p q held mid holds s bytes size x e put at h = (
  ap (λ (a : LineAt). state q.file a None) at ∙ h.0 ∙ closed_at size p None h.1 ∙ ap (closed size) e,
  h.2 ∙ ap (λ (known : Option (List ℕ)). append_known known (end_writes (seen p.file))) put ∙ known_twice held bytes (end_writes (seen p.file)) ∙ ap (λ (t : BuildState). append_known held (bytes ++ closed_writes t)) e,
)

end_refused : (T : Type 0) (p q : LineReader) (held mid holds : Option (List ℕ)) (bytes : List ℕ) (size : ℕ) (stopped : LineHalt) → mid ≡ append_known held bytes → line_at q ≡ line_at p
    → Ends {T = Unit {0}} mid holds (state q.file (line_at p) None) (ended_meta (building p None)) (first_fault (end_checks (seen p.file))) (end_writes (seen p.file)) (Err stopped)
    → Reaches {T = T} held holds (building q) (closed size (building p None)) (bytes ++ closed_writes (building p None)) (Err (halts stopped size p.number))
end_refused T p q held mid holds bytes size (Refused fault) put at h = (
  ap (λ (a : LineAt). state q.file a (Some (record { fault = fault; offset = size; line = p.number }))) at ∙ ap (tells_at_end size fault) h.0 ∙ closed_at size p (Some fault) h.1,
  h.2 ∙ ap (λ (known : Option (List ℕ)). append_known known (end_writes (seen p.file))) put ∙ known_twice held bytes (end_writes (seen p.file)),
)
end_refused T p q held mid holds bytes size Output put at h = puts_behind {T = T} {E = Unit {0}} held mid holds bytes (end_writes (seen p.file)) (Err tt) put h

pub end_failed : (T : Type 0) (p q : LineReader) (held mid holds : Option (List ℕ)) (s : BuildState) (bytes : List ℕ) (size : ℕ) (stopped : LineHalt) (halt : BuildHalt) → building p None ≡ s → mid ≡ append_known held bytes → line_at q ≡ line_at p
    → Ends {T = Unit {0}} mid holds (state q.file (line_at p) None) (ended_meta (building p None)) (first_fault (end_checks (seen p.file))) (end_writes (seen p.file)) (Err stopped) → halt ≡ halts stopped size p.number
    → Reaches {T = T} held holds (building q) (closed size s) (bytes ++ closed_writes s) (Err halt)
end_failed T p q held mid holds s bytes size stopped halt e put at h is =
    subst (λ (t : BuildState). Reaches {T = T} held holds (building q) (closed size t) (bytes ++ closed_writes t) (Err halt)) e
    (subst (λ (x : BuildHalt). Reaches {T = T} held holds (building q) (closed size (building p None)) (bytes ++ closed_writes (building p None)) (Err x)) (sym is)
    (end_refused T p q held mid holds bytes size stopped put at h))
