-- Whole texts by Specific Character Set.
use Rattle.std.proofs.Common.{◌≡◌, ◌<◌, ℕ, ◌+◌, ◌==◌, ◌&&◌, nat_lt, not, Bool, true, false, cond, List, [], ◌∷◌, ◌++◌, length, codes, fold, ap, sym, ◌∙◌, refl, arith, append_assoc, append-nil, lt-ltb, ne_eqb}
use Rattle.std.specs.Prelude.{count_by, flat_map}
use Rattle.std.proofs.lemmas.Bool.{cases_Bool}
use mathlib.Core.Logic.{⊎_elim}
use Rattle.dcm_base.specs.declared.vr.Vr.{Vr}
use Rattle.dcm_base.specs.declared.mode.Mode.{Mode}
use Rattle.dcm_base.specs.Steps.Steps.{outputs}
use Rattle.dcm_base.specs.Dump.ValueText.{padded, unpadded, is_single}
use Rattle.dcm_text.specs.declared.set.TextKind.TheVariants.{OneValue}
use Rattle.dcm_text.specs.declared.sets.Sets.{Sets}
use Rattle.dcm_text.specs.Sets.{sets_of}
use Rattle.dcm_text.specs.Decoding.{decoded}
use Rattle.dcm_text.specs.Runs.{State, Run, begun, run, joined}
use Rattle.dcm_text.specs.Shown.{dumped, dumped_piece}
use Rattle.dcm_text.proofs.Runs.{two_pieces, whole_run}
use Rattle.dcm_value.specs.Decoded.{backslashes}
use Rattle.dcm_value.specs.Display.{blank, emit, at_once}
use Rattle.dcm_value.specs.DecodedProgress.{DecodedProgress, started, sets_for, kind_of, is_named, decoded_identified, shown_pieces, opening, opened, step, writes, further, last_run, closing, finishes, multiplicity}
use Rattle.dcm_value.specs.DecodedDisplay.{decoded_shortened}
use Rattle.dcm_value.specs.DecodedLaws.{decoded_after, decoded_written, DecodedWhole, DecodedCounts, DecodedSoFar}
use Rattle.dcm_value.proofs.Displays.Emits.{emit_mode, emit_twice, emit_settled, once_append}
use Rattle.dcm_value.proofs.Displays.DecodedRuns.{decided, shown_joined, backslashes_joined, run_nothing}
use Rattle.dcm_value.proofs.Displays.DecodedSteps.{Leads, Shows, leads_nowhere, leads_name, leads_text, leads_end, closes_text, closes_name, last_text}
use Rattle.dcm_value.proofs.Displays.DecodedEndings.{finishes_all}
use Rattle.dcm_value.proofs.Displays.DecodedAscii.{named_is, default_none, default_backslashes}

-- ---- behind an opening

abbrev pub behind : Vr → Sets → ℕ → Mode → List ℕ → DecodedProgress
behind vr sets size mode o = record (started vr sets size mode) { display = emit (blank mode) o }

module _ (vr : Vr) (sets : Sets) (size : ℕ) (mode : Mode) where
  opens : (o : List ℕ) → opening (started vr sets size mode) ≡ o → opened (started vr sets size mode) ≡ behind vr sets size mode o
  unfolding opened
  opens o e = ap (behind vr sets size mode) e

  opens_bracket : is_named vr size ≡ false → 0 < size → opening (started vr sets size mode) ≡ codes "["
  opens_bracket w l = ap (λ x. cond (not x && (nat_lt 0 size && true)) (codes "[") []) w ∙ ap (λ t. cond (t && true) (codes "[") []) (lt-ltb 0 size l)

  opens_name : is_named vr size ≡ true → opening (started vr sets size mode) ≡ []
  opens_name e = ap (λ x. cond (not x && (nat_lt 0 size && true)) (codes "[") []) e

  module _ (o : List ℕ) (is : opening (started vr sets size mode) ≡ o) (v : List ℕ) (q : DecodedProgress) (t : List ℕ) (leads : Leads (behind vr sets size mode o) v q t) where
    tells_state : decoded_after vr sets size mode v ≡ q
    tells_state = ap (λ p. fold step p v) (opens o is) ∙ leads.state

    tells_text : decoded_written vr sets size mode v ≡ at_once mode (o ++ t)
    tells_text =
        ap (λ x. at_once mode x ++ outputs step writes (opened (started vr sets size mode)) v) is
        ∙ ap (λ p. at_once mode o ++ outputs step writes p v) (opens o is)
        ∙ ap (λ xs. at_once mode o ++ xs) (leads.bytes ∙ ap (λ m. at_once m t) (emit_mode (blank mode) o))
        ∙ sym (once_append mode o t)

    tells_whole : q.display ≡ emit (blank mode) (o ++ t)
        → decoded_written vr sets size mode v ++ finishes (decoded_after vr sets size mode v) ≡ padded (decoded_shortened mode ((o ++ t) ++ closing q))
    tells_whole e =
        ap (λ p. decoded_written vr sets size mode v ++ finishes p) tells_state
        ∙ ap (λ xs. xs ++ finishes q) tells_text
        ∙ finishes_all mode q (o ++ t) e

-- ---- a run and its end

ends_run : (s : State) (t : List ℕ) → joined (decided s t) (run true (decided s t).1 []) ≡ run true s t
ends_run s [] = refl
ends_run s (b ∷ bs) = sym (two_pieces true s (b ∷ bs) []) ∙ ap (run true s) (append-nil (b ∷ bs))

dumped_run : (vr : Vr) (sets : Sets) (t : List ℕ) → shown_pieces (run true (begun (sets_for vr sets) (kind_of vr)) t) ≡ dumped (sets_for vr sets) (kind_of vr) t
unfolding dumped
dumped_run vr sets t = ap (flat_map dumped_piece) (whole_run (sets_for vr sets) (kind_of vr) t)

ends_dumped : (vr : Vr) (sets : Sets) (t : List ℕ)
    → (let s : State = begun (sets_for vr sets) (kind_of vr) in let r : Run = decided s t in
    shown_pieces r ++ shown_pieces (run true r.1 []) ≡ dumped (sets_for vr sets) (kind_of vr) t)
ends_dumped vr sets t =
    let s : State = begun (sets_for vr sets) (kind_of vr) in
    let r : Run = decided s t in
    sym (shown_joined r (run true r.1 [])) ∙ ap shown_pieces (ends_run s t) ∙ dumped_run vr sets t

ends_counted : (vr : Vr) (sets : Sets) (t : List ℕ)
    → (let s : State = begun (sets_for vr sets) (kind_of vr) in let r : Run = decided s t in
    backslashes r.0 + backslashes (run true r.1 []).0 ≡ backslashes (decoded (sets_for vr sets) (kind_of vr) t))
ends_counted vr sets t =
    let s : State = begun (sets_for vr sets) (kind_of vr) in
    let r : Run = decided s t in
    sym (backslashes_joined r (run true r.1 []))
    ∙ ap (λ (q : Run). backslashes q.0) (ends_run s t)
    ∙ ap backslashes (whole_run (sets_for vr sets) (kind_of vr) t)

decided_begun : (s : State) (v : List ℕ) → length s.held ≡ 0 → decided s v ≡ run false s v
decided_begun s [] e = sym (run_nothing false s e)
decided_begun s (b ∷ bs) e = refl

-- ---- in brackets

in_brackets : (r q : Run) (t : List ℕ) → shown_pieces r ++ shown_pieces q ≡ t
    → (codes "[" ++ shown_pieces r) ++ (shown_pieces q ++ codes "]") ≡ codes "[" ++ t ++ codes "]"
in_brackets r q t e =
    append_assoc (codes "[") (shown_pieces r) (shown_pieces q ++ codes "]")
    ∙ ap (λ x. codes "[" ++ x) (sym (append_assoc (shown_pieces r) (shown_pieces q) (codes "]")) ∙ ap (λ x. x ++ codes "]") e)
    ∙ sym (append_assoc (codes "[") t (codes "]"))

module _ (vr : Vr) (sets : Sets) (mode : Mode) (v : List ℕ) (some : 0 < length v) (text : is_named vr (length v) ≡ false) where
  abbrev base : DecodedProgress
  base = behind vr sets (length v) mode (codes "[")

  abbrev reached : DecodedProgress
  reached = further base (length v) [] (decided base.state (unpadded vr v))

  leads_all : Shows base v (unpadded vr v)
  leads_all = leads_end base v text (emit_settled (blank mode) (codes "[")) (omega arith)

  is_opened : opening (started vr sets (length v) mode) ≡ codes "["
  is_opened = opens_bracket vr sets (length v) mode text some

  not_empty : (length v == 0) ≡ false
  not_empty = ne_eqb (length v) 0 (λ e. omega (arith, e))

  brackets_whole : decoded_written vr sets (length v) mode v ++ finishes (decoded_after vr sets (length v) mode v)
      ≡ padded (decoded_shortened mode (codes "[" ++ dumped (sets_for vr sets) (kind_of vr) (unpadded vr v) ++ codes "]"))
  brackets_whole =
      let r : Run = decided base.state (unpadded vr v) in
      tells_whole vr sets (length v) mode (codes "[") is_opened v reached (shown_pieces r) leads_all (emit_twice (blank mode) (codes "[") (shown_pieces r))
      ∙ ap (λ x. padded (decoded_shortened mode ((codes "[" ++ shown_pieces r) ++ x))) (closes_text reached not_empty text)
      ∙ ap (λ x. padded (decoded_shortened mode x)) (in_brackets r (run true r.1 []) _ (ends_dumped vr sets (unpadded vr v)))

  brackets_count : multiplicity (decoded_after vr sets (length v) mode v)
      ≡ cond (is_single vr) 1 (1 + backslashes (decoded (sets_for vr sets) (kind_of vr) (unpadded vr v)))
  unfolding multiplicity
  brackets_count =
      let r : Run = decided base.state (unpadded vr v) in
      let by : Bool → Bool → ℕ → ℕ = λ x y n. cond x 0 (cond (is_single vr) 1 (1 + cond y (count_by (λ b. b == 92) (unpadded vr [])) n)) in
      let all : (0 + backslashes r.0) + backslashes (run true r.1 []).0 ≡ backslashes (decoded (sets_for vr sets) (kind_of vr) (unpadded vr v)) =
      (let whole = ends_counted vr sets (unpadded vr v) in omega (arith, whole)) in
      ap multiplicity (tells_state vr sets (length v) mode (codes "[") is_opened v reached (shown_pieces r) leads_all)
      ∙ ap (λ (q : Run). by (length v == 0) (is_named vr (length v)) (reached.values + backslashes q.0)) (last_text reached text)
      ∙ ap (λ x. by x (is_named vr (length v)) (reached.values + backslashes (run true r.1 []).0)) not_empty
      ∙ ap (λ x. by false x (reached.values + backslashes (run true r.1 []).0)) text
      ∙ ap (λ n. cond (is_single vr) 1 (1 + n)) all

-- ---- by name

module _ (vr : Vr) (sets : Sets) (mode : Mode) (size : ℕ) (name : is_named vr size ≡ true) (v : List ℕ) where
  abbrev start : DecodedProgress
  start = behind vr sets size mode []

  abbrev waiting : DecodedProgress
  waiting = further start (length v) v ([], start.state)

  leads_waiting : Leads start v waiting []
  leads_waiting = leads_name start v name (emit_settled (blank mode) [])

  name_so_far : decoded_written vr sets size mode v ≡ at_once mode []
  name_so_far = tells_text vr sets size mode [] (opens_name vr sets size mode name) v waiting [] leads_waiting

  name_whole : (size == 0) ≡ false → decoded_written vr sets size mode v ++ finishes (decoded_after vr sets size mode v)
      ≡ padded (decoded_shortened mode (decoded_identified (unpadded vr v)))
  name_whole some =
      tells_whole vr sets size mode [] (opens_name vr sets size mode name) v waiting [] leads_waiting (emit_twice (blank mode) [] [])
      ∙ ap (λ x. padded (decoded_shortened mode x)) (closes_name waiting some name)

  name_count : (size == 0) ≡ false → multiplicity (decoded_after vr sets size mode v) ≡ cond (is_single vr) 1 (1 + count_by (λ b. b == 92) (unpadded vr v))
  unfolding multiplicity
  name_count some =
      let n : ℕ = waiting.values + backslashes (last_run waiting).0 in
      let by : Bool → Bool → ℕ = λ x y. cond x 0 (cond (is_single vr) 1 (1 + cond y (count_by (λ b. b == 92) (unpadded vr v)) n)) in
      ap multiplicity (tells_state vr sets size mode [] (opens_name vr sets size mode name) v waiting [] leads_waiting)
      ∙ ap (λ x. by x (is_named vr size)) some
      ∙ ap (by false) name

-- the default sets are those of one that may have a name
named_backslashes : (vr : Vr) (sets : Sets) (size : ℕ) (t : List ℕ) → is_named vr size ≡ true
    → count_by (λ b. b == 92) t ≡ backslashes (decoded (sets_for vr sets) (kind_of vr) t)
named_backslashes vr sets size t name =
    sym (ap (λ x. backslashes (decoded (sets_for x sets) (kind_of x) t)) (named_is vr size name) ∙ default_backslashes (sets_of []) OneValue t default_none)

-- ---- all values

none_opened : (vr : Vr) (sets : Sets) (mode : Mode) → opening (started vr sets 0 mode) ≡ []
none_opened vr sets mode = go (not (is_named vr 0))
  where
    go : (t : Bool) → cond (t && (nat_lt 0 0 && true)) (codes "[") [] ≡ []
    go true = refl
    go false = refl

some_bytes : (b : ℕ) (bs : List ℕ) → (length (b ∷ bs) == 0) ≡ false
some_bytes b bs = ne_eqb (length (b ∷ bs)) 0 (λ e. omega (arith, e))

pub decoded_whole : DecodedWhole
decoded_whole vr sets mode [] =
    tells_whole vr sets 0 mode [] (none_opened vr sets mode) [] (behind vr sets 0 mode []) [] (leads_nowhere (behind vr sets 0 mode [])) refl
decoded_whole vr sets mode (b ∷ bs) =
    let v : List ℕ = b ∷ bs in
    let shown : Bool → List ℕ = λ t. cond t (decoded_identified (unpadded vr v)) (codes "[" ++ dumped (sets_for vr sets) (kind_of vr) (unpadded vr v) ++ codes "]") in
    ⊎_elim
    (λ name. name_whole vr sets mode (length v) name v (some_bytes b bs) ∙ ap (λ t. padded (decoded_shortened mode (shown t))) (sym name))
    (λ text. brackets_whole vr sets mode v (omega arith) text ∙ ap (λ t. padded (decoded_shortened mode (shown t))) (sym text))
    (cases_Bool (is_named vr (length v)))

none_counted : (vr : Vr) (sets : Sets) (mode : Mode) → multiplicity (behind vr sets 0 mode []) ≡ 0
unfolding multiplicity
none_counted vr sets mode = refl

pub decoded_counts : DecodedCounts
decoded_counts vr sets mode [] =
    ap multiplicity (tells_state vr sets 0 mode [] (none_opened vr sets mode) [] (behind vr sets 0 mode []) [] (leads_nowhere (behind vr sets 0 mode [])))
    ∙ none_counted vr sets mode
decoded_counts vr sets mode (b ∷ bs) =
    let v : List ℕ = b ∷ bs in
    ⊎_elim
    (λ name. name_count vr sets mode (length v) name v (some_bytes b bs) ∙ ap (λ n. cond (is_single vr) 1 (1 + n)) (named_backslashes vr sets (length v) (unpadded vr v) name))
    (λ text. brackets_count vr sets mode v (omega arith) text)
    (cases_Bool (is_named vr (length v)))

pub decoded_text_so_far : DecodedSoFar
decoded_text_so_far vr sets size mode v l =
    let s : State = begun (sets_for vr sets) (kind_of vr) in
    let shown : Bool → List ℕ = λ t. cond t [] (codes "[" ++ shown_pieces (run false s v)) in
    ⊎_elim
    (λ name. name_so_far vr sets mode size name v ∙ ap (λ t. at_once mode (shown t)) (sym name))
    (λ text.
    let base : DecodedProgress = behind vr sets size mode (codes "[") in
    let leads : Shows base v v = leads_text base v text (emit_settled (blank mode) (codes "[")) (omega arith) in
    tells_text vr sets size mode (codes "[") (opens_bracket vr sets size mode text (omega arith)) v _ _ leads
    ∙ ap (λ (r : Run). at_once mode (codes "[" ++ shown_pieces r)) (decided_begun s v refl)
    ∙ ap (λ t. at_once mode (shown t)) (sym text))
    (cases_Bool (is_named vr size))
