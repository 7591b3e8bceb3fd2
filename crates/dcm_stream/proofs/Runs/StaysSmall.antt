-- What a machine holds stays small, and a halt stays.
use Rattle.std.proofs.Common.{◌≡◌, ◌∙◌, sym, ap, subst, refl, ℕ, zero, suc, ◌+◌, ◌<◌, ◌≤◌, List, [], ◌∷◌, ◌++◌, length, take, drop, Bool, true, false, cond, inl, inr, Option, Some, None, Ok, Err, arith, length-append}
use Rattle.std.specs.Prelude.{fold, nat_lt}
use Rattle.std.specs.Io.KnownBytes.{append_known}
use Rattle.std.proofs.lemmas.Bool.{cases_Bool, ltb-true}
use Rattle.std.proofs.lemmas.List.{take-append-drop}
use Rattle.dcm_lemmas.proofs.Options.{known_nothing}
use Rattle.dcm_base.specs.declared.fault.Fault.TheVariants.{TooLong}
use Rattle.dcm_base.specs.Steps.Atoms.{Atom, value_byte}
use Rattle.dcm_base.specs.Steps.Steps.{outputs}
use Rattle.dcm_base.specs.Reading.Stop.{Stop, refused, HeadBar, innermost_stop, is_undecided}
use Rattle.dcm_base.specs.Reading.Reads.{INPUT_LIMIT}
use Rattle.dcm_base.proofs.Writes.Runs.{goes_on, goes_failed}
use Rattle.dcm_head.specs.declared.head.Head.{Head}
use Rattle.dcm_stream.specs.declared.token.Bar.{Bar}
use Rattle.dcm_stream.specs.declared.cursor.Cursor.{Cursor}
use Rattle.dcm_stream.specs.Halts.{Halt}
use Rattle.dcm_base.specs.declared.stopped.Stopped.TheVariants.{Refused, Output}
use Rattle.dcm_base.specs.declared.syntax.Syntax.{Syntax}
use Rattle.dcm_stream.specs.Reading.{Reading, start_of, halted, Opened, settled, head_opens, head_read, byte_read, read_byte, sign_reads, value_left}
use Rattle.dcm_stream.specs.Judging.{bars_head}
use Rattle.dcm_stream.specs.Machine.{steps, steps_write, reading, next_offset, Stands, Feeds}
use Rattle.dcm_stream.proofs.Runs.Bounds.{stays_small, start_small}
use Rattle.dcm_stream.proofs.Heads.Waits.{sinks_never_early}
use Rattle.dcm_stream.proofs.Runs.Parts.{halted_stays, halted_silent, limit_byte}

-- ---- bounds

settled_at : (position : ℕ) (o : Opened) (n : ℕ) → (settled position o n).0.position + length (settled position o n).0.head ≡ position
settled_at position o zero = omega arith
settled_at position o (suc n) = omega arith

head_within : (r : Reading) (z : List ℕ) (o : Option Stop) → r.position + length z ≤ INPUT_LIMIT → (head_read r z o).0.position + length (head_read r z o).0.head ≤ INPUT_LIMIT
head_within r z None le = let opened = head_opens (r.position + length z) z r.levels in omega (arith, settled_at (r.position + length z) opened opened.left)
head_within r z (Some stop) le =
    elim (cases_Bool (is_undecided (Some stop))) [
      | inl u ↦ subst (λ (t : Bool). (cond {A = Reading × List Atom} t (record r { head = z }, []) (halted r stop, [])).0.position + length (cond {A = Reading × List Atom} t (record r { head = z }, []) (halted r stop, [])).0.head ≤ INPUT_LIMIT) (sym u) le
      | inr u ↦ subst (λ (t : Bool). (cond {A = Reading × List Atom} t (record r { head = z }, []) (halted r stop, [])).0.position + length (cond {A = Reading × List Atom} t (record r { head = z }, []) (halted r stop, [])).0.head ≤ INPUT_LIMIT) (sym u) (omega arith)
    ]

byte_within : (bar : HeadBar) (r : Reading) (b : ℕ) (halt : Option Stop) (within : Bool) (n : ℕ) → r.position + length r.head ≤ INPUT_LIMIT → (within ≡ true → r.position + length r.head < INPUT_LIMIT)
    → (byte_read bar r b halt within n).0.position + length (byte_read bar r b halt within n).0.head ≤ INPUT_LIMIT
byte_within bar r b (Some stop) within n le lt = le
byte_within bar r b None false n le lt = omega arith
byte_within bar r b None true (suc n) le lt = omega (arith, lt refl, settled_at (r.position + 1) (value_left n (sign_reads (b ∷ []) r.sign) r.levels (value_byte b ∷ [])) n)
byte_within bar r b None true zero le lt =
    let less = lt refl in
    head_within r (r.head ++ b ∷ []) (innermost_stop bar r.levels r.position (r.head ++ b ∷ [])) (rw length-append (omega (arith, less)))

head_reads : (r : Reading) (z : List ℕ) (o : Option Stop) → (head_read r z o).0.halt ≡ None → next_offset (head_read r z o).0 ≡ r.position + length z
head_reads r z None e = let opened = head_opens (r.position + length z) z r.levels in settled_at (r.position + length z) opened opened.left
head_reads r z (Some stop) e = undecided_reads r z stop (is_undecided (Some stop)) e
  where
    undecided_reads : (r : Reading) (z : List ℕ) (stop : Stop) (u : Bool) → (cond {A = Reading × List Atom} u (record r { head = z }, []) (halted r stop, [])).0.halt ≡ None
        → next_offset (cond {A = Reading × List Atom} u (record r { head = z }, []) (halted r stop, [])).0 ≡ r.position + length z
    undecided_reads r z stop true e = refl
    undecided_reads r z stop false e = absurd (cc)

byte_reads : (bar : HeadBar) (r : Reading) (b : ℕ) (halt : Option Stop) (within : Bool) (n : ℕ) → r.halt ≡ halt → r.left ≡ n → (0 < r.left → r.head ≡ []) → (byte_read bar r b halt within n).0.halt ≡ None
    → next_offset (byte_read bar r b halt within n).0 ≡ next_offset r + 1
byte_reads bar r b (Some stop) within n h l no_head e = absurd (cc)
byte_reads bar r b None false n h l no_head e = absurd (cc)
byte_reads bar r b None true (suc n) h l no_head e =
    let none : length r.head ≡ 0 = ap length (no_head (omega arith)) in
    omega (arith, none, settled_at (r.position + 1) (value_left n (sign_reads (b ∷ []) r.sign) r.levels (value_byte b ∷ [])) n)
byte_reads bar r b None true zero h l no_head e =
    let z = r.head ++ b ∷ [] in
    let size : length z ≡ length r.head + 1 = length-append r.head (b ∷ []) in
    omega (arith, size, head_reads r z (innermost_stop bar r.levels r.position z) e)

-- at the beginning
pub start_stands : (s : Syntax) (start : ℕ) → start ≤ INPUT_LIMIT → Stands (start_of s start)
start_stands s start le = record { small = start_small s start; within = omega arith }

module _ {S : Type 0} (bars : S → Head → Option Bar) (step : S → Atom → S) (writes : S → Atom → List ℕ) where
  pub stands_byte : (r : Reading) (s : S) (b : ℕ) → Stands r → Stands (read_byte (bars_head bars s) r b).0
  unfolding read_byte
  stands_byte r s b h = record {
    small = (stays_small r h.small).next (bars_head bars s) b (sinks_never_early bars s);
    within = byte_within (bars_head bars s) r b r.halt (nat_lt (r.position + length r.head) INPUT_LIMIT) r.left h.within (λ e. ltb-true _ _ e);
  }

  -- bytes leave it standing
  pub stands_after : (r : Reading) (s : S) (bs : List ℕ) → Stands r → Stands (fold (steps bars step) (r, s) bs).0
  stands_after r s [] h = h
  stands_after r s (b ∷ bs) h = stands_after (read_byte (bars_head bars s) r b).0 (fold step s (read_byte (bars_head bars s) r b).1) bs (stands_byte r s b h)

  pub stands_behind : (r : Reading) (s : S) (bs : List ℕ) (n : Reading) (t : S) → Stands r → (n, t) ≡ fold (steps bars step) (r, s) bs → Stands n
  stands_behind r s bs n t h e = subst (λ (p : Reading × S). Stands p.0) (sym e) (stands_after r s bs h)

  byte_going : (bar : HeadBar) (r : Reading) (b : ℕ) (halt : Option Stop) (within : Bool) (n : ℕ) → r.halt ≡ halt → (byte_read bar r b halt within n).0.halt ≡ None → r.halt ≡ None
  byte_going bar r b None within n h e = h
  byte_going bar r b (Some stop) within n h e = e

  going_before : (r : Reading) (s : S) (bs : List ℕ) → (fold (steps bars step) (r, s) bs).0.halt ≡ None → r.halt ≡ None
  unfolding read_byte
  going_before r s [] e = e
  going_before r s (b ∷ bs) e =
      byte_going (bars_head bars s) r b r.halt (nat_lt (r.position + length r.head) INPUT_LIMIT) r.left refl (going_before (read_byte (bars_head bars s) r b).0 (fold step s (read_byte (bars_head bars s) r b).1) bs e)

  -- each byte is gone over where nothing halts
  goes_over : (r : Reading) (s : S) (bs : List ℕ) → Stands r → (fold (steps bars step) (r, s) bs).0.halt ≡ None → next_offset (fold (steps bars step) (r, s) bs).0 ≡ next_offset r + length bs
  unfolding read_byte
  goes_over r s [] h e = omega arith
  goes_over r s (b ∷ bs) h e =
      let q = read_byte (bars_head bars s) r b in
      let later = goes_over q.0 (fold step s q.1) bs (stands_byte r s b h) e in
      let one = byte_reads (bars_head bars s) r b r.halt (nat_lt (r.position + length r.head) INPUT_LIMIT) r.left refl refl h.small.no_head (going_before q.0 (fold step s q.1) bs e) in
      omega (arith, later, one)

  pub offset_behind : (r : Reading) (s : S) (bs : List ℕ) (n : Reading) (t : S) → Stands r → (n, t) ≡ fold (steps bars step) (r, s) bs → n.halt ≡ None → next_offset n ≡ next_offset r + length bs
  offset_behind r s bs n t h e none =
      let same : n ≡ (fold (steps bars step) (r, s) bs).0 = ap (λ (p : Reading × S). p.0) e in
      ap next_offset same ∙ goes_over r s bs h (ap (λ (x : Reading). x.halt) (sym same) ∙ none)

  -- ---- halts

  -- behind a halt nothing more happens
  pub feeds_halted : (T : Type 0) (old : Reading) (s : S) (held : Option (List ℕ)) (new : Cursor) (t : S) (holds : Option (List ℕ)) (xs ys : List ℕ) (halt : Halt)
      → Feeds {T = T} bars step writes old s held (reading new) t holds xs (Err halt) → Feeds {T = T} bars step writes old s held (reading new) t holds (xs ++ ys) (Err halt)
  feeds_halted T old s held new t holds xs ys (Refused stop) a =
      let r = reading new (Some (refused stop.fault stop.at)) in
      goes_on (steps bars step) (steps_write bars step writes) {T = Unit {0}} {E = Unit {0}} (old, s) held (r, t) holds (r, t) holds xs ys (Ok tt) a.0 a.1
      (sym (halted_stays bars step writes r.position r.head r.left r.sign r.levels (refused stop.fault stop.at) t ys), sym (known_nothing holds) ∙ ap (append_known holds) (sym (halted_silent bars step writes r.position r.head r.left r.sign r.levels (refused stop.fault stop.at) t ys)))
  feeds_halted T old s held new t holds xs ys Output a =
      goes_failed (steps bars step) (steps_write bars step writes) {T = Unit {0}} {E = Unit {0}} (old, s) held (reading new None, t) holds xs ys (Err tt) refl a

  -- the first n of some bytes
  pub feeds_first : (T : Type 0) (old : Reading) (s : S) (held : Option (List ℕ)) (new : Cursor) (t : S) (holds : Option (List ℕ)) (n : ℕ) (bs : List ℕ) (halt : Halt)
      → Feeds {T = T} bars step writes old s held (reading new) t holds (take n bs) (Err halt) → Feeds {T = T} bars step writes old s held (reading new) t holds bs (Err halt)
  feeds_first T old s held new t holds n bs halt a =
      subst (λ (xs : List ℕ). Feeds {T = T} bars step writes old s held (reading new) t holds xs (Err halt)) (take-append-drop n bs) (feeds_halted T old s held new t holds (take n bs) (drop n bs) halt a)

  -- past the limit
  pub feeds_limit : (T : Type 0) (old : Reading) (s : S) (held : Option (List ℕ)) (new : Option Stop → Reading) (bs : List ℕ) (stop : Rattle.dcm_base.specs.declared.fault.Stop.Stop) → old.halt ≡ None → INPUT_LIMIT ≤ old.position + length old.head → 0 < length bs
      → stop.fault ≡ TooLong → stop.at ≡ INPUT_LIMIT → new (Some (refused TooLong INPUT_LIMIT)) ≡ halted old (refused TooLong INPUT_LIMIT) → Feeds {T = T} bars step writes old s held new s held bs (Err (Refused stop))
  feeds_limit T old s held new [] stop none le some f a e = absurd (omega arith)
  feeds_limit T old s held new (b ∷ bs) stop none le some f a e =
      let byte = limit_byte bars step writes old s b none le in
      let r = halted old (refused TooLong INPUT_LIMIT) in (
        ap (λ (x : Rattle.dcm_base.specs.declared.fault.Fault.Fault). (new (Some (refused x stop.at)), s)) f
            ∙ ap (λ (n : ℕ). (new (Some (refused TooLong n)), s)) a
            ∙ ap (λ (n : Reading). (n, s)) e
            ∙ sym (ap (λ (q : Reading × List Atom). fold (steps bars step) (q.0, fold step s q.1) bs) byte ∙ halted_stays bars step writes r.position r.head r.left r.sign r.levels (refused TooLong INPUT_LIMIT) s bs),
        sym (known_nothing held)
            ∙ ap (append_known held) (sym (ap (λ (q : Reading × List Atom). outputs step writes s q.1 ++ outputs (steps bars step) (steps_write bars step writes) (q.0, fold step s q.1) bs) byte
            ∙ halted_silent bars step writes r.position r.head r.left r.sign r.levels (refused TooLong INPUT_LIMIT) s bs)),
      )
