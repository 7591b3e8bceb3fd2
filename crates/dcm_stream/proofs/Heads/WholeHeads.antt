-- A head that lies whole in a piece.
use Rattle.std.proofs.Common.{◌≡◌, ◌∙◌, sym, ap, subst, refl, ℕ, ◌+◌, ◌≤◌, ◌<◌, List, [], ◌∷◌, ◌++◌, length, Bool, true, false, cond, inl, inr, Option, Some, None, Result, Ok, Err, arith, append_assoc, length-append}
use Rattle.std.specs.Prelude.{fold}
use Rattle.std.specs.Io.KnownBytes.{append_known}
use Rattle.std.proofs.lemmas.Bool.{cases_Bool, lt-ltb}
use Rattle.std.proofs.lemmas.List.{append-nil}
use Rattle.dcm_lemmas.proofs.Options.{known_nothing}
use Rattle.dcm_base.specs.declared.level.Level.{Level}
use Rattle.dcm_base.specs.declared.fault.Fault.{Fault}
use Rattle.dcm_base.specs.Steps.Atoms.{Atom}
use Rattle.dcm_base.specs.Steps.Steps.{outputs}
use Rattle.dcm_base.specs.Reading.Stop.{Stop, refused, innermost_stop, is_early, is_undecided}
use Rattle.dcm_base.specs.Reading.Reads.{INPUT_LIMIT}
use Rattle.dcm_head.specs.declared.head.Head.{Head}
use Rattle.dcm_stream.specs.declared.token.Bar.{Bar}
use Rattle.dcm_stream.specs.Halts.{Halt}
use Rattle.dcm_base.specs.declared.stopped.Stopped.TheVariants.{Refused}
use Rattle.dcm_stream.specs.Reading.{Reading, halted, head_opens, head_read, byte_read, read_byte, settled, Sign}
use Rattle.dcm_stream.specs.Judging.{bars_head}
use Rattle.dcm_stream.specs.Machine.{steps, steps_write, Comes, Feeds}
use Rattle.dcm_stream.proofs.Steps.StopsStay.{innermost_extends}
use Rattle.dcm_stream.proofs.Runs.Parts.{in_head, feeds_byte, feeds_on, halted_stays, halted_silent, undecided_read}

module _ {S : Type 0} (bars : S → Head → Option Bar) (step : S → Atom → S) (writes : S → Atom → List ℕ) (position : ℕ) (sign : Option Sign) (levels : List Level) (s : S) where
  -- what stops at these bytes of a head
  abbrev stop : List ℕ → Option Stop
  stop z = innermost_stop (bars_head bars s) levels position z

  abbrev holding : List ℕ → Reading
  holding z = in_head bars step writes position z sign levels

  one_byte : (head : List ℕ) (b : ℕ) → position + length head < INPUT_LIMIT → read_byte (bars_head bars s) (holding head) b ≡ head_read (holding head) (head ++ b ∷ []) (stop (head ++ b ∷ []))
  unfolding read_byte
  one_byte head b lt = ap (λ (t : Bool). byte_read (bars_head bars s) (holding head) b None t 0) (lt-ltb (position + length head) INPUT_LIMIT lt)

  held_byte : (head : List ℕ) (b : ℕ) → position + length head < INPUT_LIMIT → is_undecided (stop (head ++ b ∷ [])) ≡ true → read_byte (bars_head bars s) (holding head) b ≡ (holding (head ++ b ∷ []), [])
  held_byte head b lt u = one_byte head b lt ∙ undecided_read bars step writes (holding head) (head ++ b ∷ []) (stop (head ++ b ∷ [])) u

  -- a stop that is decided stays where more bytes come
  stays : (head rest : List ℕ) (b : ℕ) → is_undecided (stop (head ++ b ∷ [])) ≡ false → stop (head ++ b ∷ rest) ≡ stop (head ++ b ∷ [])
  stays head rest b u = ap stop (sym (append_assoc head (b ∷ []) rest)) ∙ innermost_extends (bars_head bars s) levels position (head ++ b ∷ []) rest u

  longer : (head rest : List ℕ) (b : ℕ) → length (head ++ b ∷ rest) ≡ length head + 1 + length rest
  longer head rest b = omega (arith, length-append head (b ∷ rest))

  undecided_before : (head rest : List ℕ) (b : ℕ) → is_undecided (stop (head ++ b ∷ rest)) ≡ true → is_undecided (stop (head ++ b ∷ [])) ≡ true
  undecided_before head rest b u = elim (cases_Bool (is_undecided (stop (head ++ b ∷ [])))) [
    | inl e ↦ e
    | inr e ↦ let same = ap is_undecided (stays head rest b e) ∙ e in absurd (cc)
  ]

  -- bytes that leave the end of a head undecided are held
  pub holds : (bs head : List ℕ) → position + length head + length bs ≤ INPUT_LIMIT → is_undecided (stop (head ++ bs)) ≡ true
      → (fold (steps bars step) (holding head, s) bs ≡ (holding (head ++ bs), s)) × (outputs (steps bars step) (steps_write bars step writes) (holding head, s) bs ≡ [])
  holds [] head le u = (ap (λ (z : List ℕ). (holding z, s)) (sym (append-nil head)), refl)
  holds (b ∷ bs) head le u =
      let size : length (head ++ b ∷ []) ≡ length head + 1 = length-append head (b ∷ []) in
      let one = held_byte head b (omega arith) (undecided_before head bs b u) in
      let whole = append_assoc head (b ∷ []) bs in
      let rest = holds bs (head ++ b ∷ []) (omega arith) (ap (λ (z : List ℕ). is_undecided (stop z)) whole ∙ u) in (
        ap (λ (q : Reading × List Atom). fold (steps bars step) (q.0, fold step s q.1) bs) one ∙ rest.0 ∙ ap (λ (z : List ℕ). (holding z, s)) whole,
        ap (λ (q : Reading × List Atom). outputs step writes s q.1 ++ outputs (steps bars step) (steps_write bars step writes) (q.0, fold step s q.1) bs) one ∙ rest.1,
      )

  pub feeds_held : {T : Type 0} (held : Option (List ℕ)) (new : Option Stop → Reading) (bs : List ℕ) (x : T) → position + length bs ≤ INPUT_LIMIT → is_undecided (stop bs) ≡ true → new None ≡ holding bs
      → Feeds bars step writes (holding []) s held new s held bs (Ok x)
  feeds_held held new bs x le u e =
      let h = holds bs [] (omega arith) u in
      (ap (λ (n : Reading). (n, s)) e ∙ sym h.0, sym (known_nothing held) ∙ ap (append_known held) (sym h.1))

  -- bytes that a head is refused at
  refused_by : (z : List ℕ) (r : Reading) (fault : Fault) (early : Bool) → is_early fault ≡ early → early ≡ false → head_read r z (Some (refused fault position)) ≡ (halted r (refused fault position), [])
  refused_by z r fault early e f = ap (λ (t : Bool). cond {A = Reading × List Atom} t (record r { head = z }, []) (halted r (refused fault position), [])) (e ∙ f)

  abbrev Refuses : List ℕ → List ℕ → Fault → Type 0
  Refuses head bs fault =
      (fold (steps bars step) (holding head, s) bs ≡ (halted (holding []) (refused fault position), s)) × (outputs (steps bars step) (steps_write bars step writes) (holding head, s) bs ≡ [])

  refuses_now : (bs head : List ℕ) (b : ℕ) (fault : Fault) → position + length head + length (b ∷ bs) ≤ INPUT_LIMIT → is_early fault ≡ false → stop (head ++ b ∷ bs) ≡ Some (refused fault position) → is_undecided (stop (head ++ b ∷ [])) ≡ false
      → Refuses head (b ∷ bs) fault
  refuses_now bs head b fault le d e u =
      let at : stop (head ++ b ∷ []) ≡ Some (refused fault position) = sym (stays head bs b u) ∙ e in
      let one = one_byte head b (omega arith) ∙ ap (head_read (holding head) (head ++ b ∷ [])) at ∙ refused_by (head ++ b ∷ []) (holding head) fault false d refl in (
        ap (λ (q : Reading × List Atom). fold (steps bars step) (q.0, fold step s q.1) bs) one ∙ halted_stays bars step writes position [] 0 sign levels (refused fault position) s bs,
        ap (λ (q : Reading × List Atom). outputs step writes s q.1 ++ outputs (steps bars step) (steps_write bars step writes) (q.0, fold step s q.1) bs) one ∙ halted_silent bars step writes position [] 0 sign levels (refused fault position) s bs,
      )

  refuses : (bs head : List ℕ) (b : ℕ) (fault : Fault) → position + length head + length (b ∷ bs) ≤ INPUT_LIMIT → is_early fault ≡ false → stop (head ++ b ∷ bs) ≡ Some (refused fault position) → Refuses head (b ∷ bs) fault
  refuses [] head b fault le d e = refuses_now [] head b fault le d e (ap is_undecided e ∙ d)
  refuses (c ∷ rest) head b fault le d e =
      let size : length (head ++ b ∷ []) ≡ length head + 1 = length-append head (b ∷ []) in
      let more = refuses rest (head ++ b ∷ []) c fault (omega arith) d (ap stop (append_assoc head (b ∷ []) (c ∷ rest)) ∙ e) in
      elim (cases_Bool (is_undecided (stop (head ++ b ∷ [])))) [
        | inl u ↦ let one = held_byte head b (omega arith) u in (
          ap (λ (q : Reading × List Atom). fold (steps bars step) (q.0, fold step s q.1) (c ∷ rest)) one ∙ more.0,
          ap (λ (q : Reading × List Atom). outputs step writes s q.1 ++ outputs (steps bars step) (steps_write bars step writes) (q.0, fold step s q.1) (c ∷ rest)) one ∙ more.1,
        )
        | inr u ↦ refuses_now (c ∷ rest) head b fault le d e u
      ]

  pub feeds_fault : (T : Type 0) (held : Option (List ℕ)) (new : Option Stop → Reading) (bs : List ℕ) (fault : Fault) (halt : Halt) → 0 < length bs → position + length bs ≤ INPUT_LIMIT → is_early fault ≡ false → stop bs ≡ Some (refused fault position)
      → halt ≡ Refused (record { fault = fault; at = position }) → new (Some (refused fault position)) ≡ halted (holding []) (refused fault position)
      → Feeds {T = T} bars step writes (holding []) s held new s held bs (Err halt)
  feeds_fault T held new [] fault halt some le d e is n = absurd (omega arith)
  feeds_fault T held new (b ∷ bs) fault halt some le d e is n =
      let h = refuses bs [] b fault (omega arith) d e in
      subst (λ (x : Halt). Feeds {T = T} bars step writes (holding []) s held new s held (b ∷ bs) (Err x)) (sym is)
      (ap (λ (r : Reading). (r, s)) n ∙ sym h.0, sym (known_nothing held) ∙ ap (append_known held) (sym h.1))

  -- the bytes of a head, which more are wanted for before the last
  pub feeds_whole : {T : Type 0} (held : Option (List ℕ)) (t : S) (holds_then : Option (List ℕ)) (new : Option Stop → Reading) (bs : List ℕ) (b : ℕ) (r : Result T Halt)
      → position + length bs < INPUT_LIMIT → is_undecided (stop bs) ≡ true → stop (bs ++ b ∷ []) ≡ None
      → (let begin : ℕ = position + length (bs ++ b ∷ []) in let o = head_opens begin (bs ++ b ∷ []) levels in Comes step writes s held t holds_then new (settled begin o o.left) r)
      → Feeds bars step writes (holding []) s held new t holds_then (bs ++ b ∷ []) r
  feeds_whole held t holds_then new bs b r lt u e h =
      let front = holds bs [] (omega arith) u in
      let one = one_byte bs b lt ∙ ap (head_read (holding bs) (bs ++ b ∷ [])) e in
      feeds_on bars step writes (holding []) s held (holding bs) s held new t holds_then bs (b ∷ []) r (sym front.0) (sym (known_nothing held) ∙ ap (append_known held) (sym front.1))
      (feeds_byte bars step writes (holding bs) s held t holds_then new b _ r one h)
