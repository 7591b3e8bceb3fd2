-- A call halts with a fault exactly where the bytes before it and its piece are not undecided.
use Rattle.std.proofs.Common.{◌≡◌, ◌∙◌, ap, sym, subst, ℕ, ◌≤◌, List, [], ◌++◌, Some, true, false, inl, inr}
use Rattle.std.specs.Prelude.{◌↔◌}
use Rattle.std.proofs.lemmas.List.{append-nil}
use Rattle.std.proofs.lemmas.List.Sums.{fold-append}
use Rattle.dcm_lemmas.proofs.Options.{none_or_some, some_same}
use Rattle.dcm_base.specs.declared.syntax.Syntax.{Syntax}
use Rattle.dcm_base.specs.declared.fault.Fault.{Fault}
use Rattle.dcm_base.specs.Steps.Atoms.{Atom}
use Rattle.dcm_base.specs.Reading.Reads.{INPUT_LIMIT, Reads, ended}
use Rattle.dcm_base.specs.Reading.Stop.{Stop, refused, Bar, HeadBar, is_undecided}
use Rattle.dcm_base.proofs.DataSets.OneAnswer.{reads_once}
use Rattle.dcm_stream.specs.Reading.{Reading, start_of, finish, reads_byte, read_all}
use Rattle.dcm_stream.specs.Follows.{BarsAs, GoesOn, HaltsAt, Undecided, IsRefused, RefusedHere, CallRefuses, CallTells}
use Rattle.dcm_stream.proofs.Steps.Follows.{follows, halts_where_decided}

module _ (bar : Bar) (s : Syntax) (start : ℕ) (p : List ℕ) (r : Reading) (atoms : List Atom) where
  -- what a machine that is halted tells
  read_here : (h : HaltsAt bar s start p r atoms) → Reads bar s start p h.f (refused h.fault h.offset)
  read_here h = subst (λ (x : List ℕ). Reads bar s start x h.f (refused h.fault h.offset)) (append-nil p) (h.reads [])

  not_refused : (fault : Fault) (offset : ℕ) → GoesOn bar s start p r atoms → RefusedHere bar s start p fault offset → ⊥
  not_refused fault offset h x =
      let one = reads_once bar s start p x.f (ended (finish r) h.f) (refused fault offset) (finish r) x.reads h.reads in
      let no : false ≡ true = sym x.decided ∙ ap (λ (y : Stop). is_undecided (Some y)) one.1 ∙ h.undecided in
      cc

  told_here : (h : HaltsAt bar s start p r atoms) (fault : Fault) (offset : ℕ) → refused h.fault h.offset ≡ refused fault offset → RefusedHere bar s start p fault offset
  told_here h fault offset e = record {
    f = h.f;
    reads = subst (Reads bar s start p h.f) e (read_here h);
    decided = sym (ap (λ (y : Stop). is_undecided (Some y)) e) ∙ h.decided;
  }

  same_told : (h : HaltsAt bar s start p r atoms) (fault : Fault) (offset : ℕ) → RefusedHere bar s start p fault offset → r.halt ≡ Some (refused fault offset)
  same_told h fault offset x = h.halt_is ∙ ap (λ (y : Stop). Some y) (reads_once bar s start p h.f x.f (refused h.fault h.offset) (refused fault offset) (read_here h) x.reads).1

module _ (bars : List Atom → HeadBar) (bar : Bar) (same : BarsAs bars bar) (s : Syntax) (start : ℕ) where
  refuses : (p : List ℕ) → start ≤ INPUT_LIMIT → IsRefused (read_all bars s start p).0.halt ↔ (Undecided bar s start p → ⊥)
  refuses p le =
      let r = (read_all bars s start p).0 in
      let going = halts_where_decided bars bar same s start p le in
      elim (follows bars bar same s start p le) [
        | inl h ↦ ((λ x u. none_or_some r.halt (refused x.0 x.1) h.going x.2), (λ no. absurd (no (going.0 h.going))))
        | inr h ↦ ((λ x u. none_or_some r.halt (refused h.fault h.offset) (going.1 u) h.halt_is), (λ no. (h.fault, h.offset, h.halt_is)))
      ]

  tells : (p : List ℕ) (fault : Fault) (offset : ℕ) → start ≤ INPUT_LIMIT → ((read_all bars s start p).0.halt ≡ Some (refused fault offset)) ↔ RefusedHere bar s start p fault offset
  tells p fault offset le =
      let r = (read_all bars s start p).0 in
      let atoms = (read_all bars s start p).1 in
      elim (follows bars bar same s start p le) [
        | inl h ↦ ((λ e. absurd (none_or_some r.halt (refused fault offset) h.going e)), (λ x. absurd (not_refused bar s start p r atoms fault offset h x)))
        | inr h ↦ (
          (λ e. told_here bar s start p r atoms h fault offset (some_same (refused h.fault h.offset) (refused fault offset) (sym h.halt_is ∙ e))),
          (λ x. same_told bar s start p r atoms h fault offset x),
        )
      ]

-- ---- a call

pub call_refuses : (bars : List Atom → HeadBar) (bar : Bar) → BarsAs bars bar → (s : Syntax) (start : ℕ) (before piece : List ℕ) → start ≤ INPUT_LIMIT → CallRefuses bars bar s start before piece
call_refuses bars bar same s start before piece le =
    subst (λ (q : Reading × List Atom). IsRefused q.0.halt ↔ (Undecided bar s start (before ++ piece) → ⊥)) (fold-append (reads_byte bars) (start_of s start, []) before piece)
    (refuses bars bar same s start (before ++ piece) le)

pub call_tells : (bars : List Atom → HeadBar) (bar : Bar) → BarsAs bars bar → (s : Syntax) (start : ℕ) (before piece : List ℕ) (fault : Fault) (offset : ℕ) → start ≤ INPUT_LIMIT → CallTells bars bar s start before piece fault offset
call_tells bars bar same s start before piece fault offset le =
    subst (λ (q : Reading × List Atom). (q.0.halt ≡ Some (refused fault offset)) ↔ RefusedHere bar s start (before ++ piece) fault offset) (fold-append (reads_byte bars) (start_of s start, []) before piece)
    (tells bars bar same s start (before ++ piece) fault offset le)
