-- How the reading of a data set ends, by what was fed.
use Rattle.std.proofs.Common.{◌≡◌, ◌∙◌, ap, sym, subst, ℕ, ◌+◌, List, [], ◌++◌, append_assoc, length, length-append, arith, Bool, true, false, Option, None, Some, refl}
use Rattle.std.specs.Prelude.{Result, Ok, Err, fold}
use Rattle.std.specs.Io.KnownBytes.{append_known, prepend_known, IsAtEnd}
use Rattle.dcm_lemmas.proofs.Options.{known_twice}
use Rattle.dcm_base.specs.declared.fault.Stop.{Stop as HaltStop}
use Rattle.dcm_base.specs.Steps.Atoms.{Atom}
use Rattle.dcm_devices.specs.Device.{AppendsFront}
use Rattle.dcm_base.specs.Steps.Steps.{outputs, Goes}
use Rattle.dcm_base.specs.Reading.Stop.{Stop, complete, refused}
use Rattle.std.proofs.lemmas.List.Sums.{fold-append}
use Rattle.dcm_devices.proofs.Writes.Puts.{puts_behind}
use Rattle.dcm_base.proofs.Writes.Runs.{outputs-append}
use Rattle.dcm_head.specs.declared.head.Head.{Head}
use Rattle.dcm_stream.specs.declared.token.Bar.{Bar}
use Rattle.dcm_stream.specs.Halts.{Halt}
use Rattle.dcm_base.specs.declared.stopped.Stopped.TheVariants.{Refused as halt_refused, Output as halt_output}
use Rattle.dcm_stream.specs.Reading.{Reading, finish, end_shows}
use Rattle.dcm_stream.specs.Machine.{Progress, steps, steps_write, answer, well, next_offset}
use Rattle.dcm_cli.specs.declared.ending.Ending.{Ending}
use Rattle.dcm_cli.specs.declared.ending.Ending.TheVariants.{Unread}
use Rattle.dcm_cli.specs.Pass.{Fed, Ends, EndsSet, ending_of, at_end, at_fault, halted, unread, unwritten, end_unwritten}
use Rattle.dcm_cli.proofs.Passes.Fed.{not_failed, going_none}

-- two pieces that were read
pub read_twice : (had mid left : Option (List ℕ)) (xs ys : List ℕ) → had ≡ prepend_known xs mid → mid ≡ prepend_known ys left → had ≡ prepend_known (xs ++ ys) left
read_twice had mid left xs ys a b = a ∙ ap (prepend_known xs) b ∙ one left
  where
    one : (left : Option (List ℕ)) → prepend_known xs (prepend_known ys left) ≡ prepend_known (xs ++ ys) left
    one None = refl
    one (Some zs) = ap Some (sym (append_assoc xs ys zs))

-- nothing was read
pub read_nothing : (left : Option (List ℕ)) → left ≡ prepend_known [] left
read_nothing None = refl
read_nothing (Some zs) = refl

-- which halt was answered
is_refused : (halt : Option Stop) (failed : Bool) (stop : HaltStop) → Err (halt_refused stop) ≡ answer halt failed → (failed ≡ false) × (halt ≡ Some (refused stop.fault stop.at))
is_refused halt true stop e = cc
is_refused None false stop e = cc
is_refused (Some complete) false stop e = cc
is_refused (Some (refused fault offset)) false stop e = (refl, cc)

is_unwritten : (halt : Option Stop) (failed : Bool) → Err halt_output ≡ answer halt failed → failed ≡ true
is_unwritten halt true e = refl
is_unwritten None false e = cc
is_unwritten (Some complete) false e = cc
is_unwritten (Some (refused fault offset)) false e = cc

module _ {S : Type 0} (bars : S → Head → Option Bar) (step : S → Atom → S) (writes : S → Atom → List ℕ)
    (old : Progress) (s : S) (held : Option (List ℕ)) (had_failed : Bool) (new : Progress) (t : S) (holds : Option (List ℕ)) (has_failed : Bool) (read : List ℕ) where
  went : Fed bars step writes old s held had_failed new t holds has_failed read (Ok tt)
      → ((new.reading, t) ≡ fold (steps bars step) (old.reading, s) read) × (holds ≡ append_known held (outputs (steps bars step) (steps_write bars step writes) (old.reading, s) read))
  went fed = subst (λ (f : Bool). Goes (steps bars step) (steps_write bars step writes) (old.reading, s) held (new.reading, t) holds read (well f)) (not_failed new.reading.halt new.failed (sym fed.answer_is)) fed.goes

  -- it has not halted
  pub still_going : Fed bars step writes old s held had_failed new t holds has_failed read (Ok tt) → (fold (steps bars step) (old.reading, s) read).0.halt ≡ None
  still_going fed = ap (λ (q : Reading × S). q.0.halt) (sym (went fed).0) ∙ going_none new fed.going

  -- reading fails behind these bytes
  pub ends_unread : (left : Option (List ℕ)) → Fed bars step writes old s held had_failed new t holds has_failed read (Ok tt)
      → Ends bars step writes old.reading s held left t holds read (Unread (next_offset old.reading + length read))
  ends_unread left fed =
      let w = went fed in
      unread (ap (λ (q : Reading × S). q.0.halt) (sym w.0) ∙ going_none new fed.going) refl (ap (λ (q : Reading × S). q.1) w.0) w.1

  -- the machine halts
  pub ends_halted : (left : Option (List ℕ)) (h : Halt) → Fed bars step writes old s held had_failed new t holds has_failed read (Err h)
      → Ends bars step writes old.reading s held left t holds read (ending_of (Err h))
  ends_halted left (halt_refused stop) fed =
      let is = is_refused new.reading.halt new.failed stop fed.answer_is in
      let w = subst (λ (f : Bool). Goes (steps bars step) (steps_write bars step writes) (old.reading, s) held (new.reading, t) holds read (well f)) is.0 fed.goes in
      halted stop (ap (λ (q : Reading × S). q.0.halt) (sym w.0) ∙ is.1) refl (ap (λ (q : Reading × S). q.1) w.0) w.1
  ends_halted left halt_output fed =
      let is = is_unwritten new.reading.halt new.failed fed.answer_is in
      unwritten refl (subst (λ (f : Bool). Goes (steps bars step) (steps_write bars step writes) (old.reading, s) held (new.reading, t) holds read (well f)) is fed.goes)

  -- the input ends
  pub ends_at_end : (left : Option (List ℕ)) (u : S) (after : Option (List ℕ)) (ended : Result (Unit {0}) Halt) → IsAtEnd left → Fed bars step writes old s held had_failed new t holds has_failed read (Ok tt)
      → EndsSet step writes new.reading t holds u after ended → Ends bars step writes old.reading s held left u after read (ending_of ended)
  ends_at_end left u after ended over fed ends = by_answer ended ends
    where
      w : ((new.reading, t) ≡ fold (steps bars step) (old.reading, s) read) × (holds ≡ append_known held (outputs (steps bars step) (steps_write bars step writes) (old.reading, s) read))
      w = went fed

      none : (fold (steps bars step) (old.reading, s) read).0.halt ≡ None
      none = ap (λ (q : Reading × S). q.0.halt) (sym w.0) ∙ going_none new fed.going

      out : List ℕ
      out = outputs (steps bars step) (steps_write bars step writes) (old.reading, s) read

      by_answer : (ended : Result (Unit {0}) Halt) → EndsSet step writes new.reading t holds u after ended → Ends bars step writes old.reading s held left u after read (ending_of ended)
      by_answer (Ok x) e =
          at_end over none (ap (λ (q : Reading × S). finish q.0) (sym w.0) ∙ e.0) refl
          (e.1 ∙ ap (λ (q : Reading × S). fold step q.1 (end_shows complete)) w.0)
          (e.2 ∙ ap (λ (known : Option (List ℕ)). append_known known (outputs step writes t (end_shows complete))) w.1 ∙ known_twice held out (outputs step writes t (end_shows complete))
          ∙ ap (λ (q : Reading × S). append_known held (out ++ outputs step writes q.1 (end_shows complete))) w.0)
      by_answer (Err (halt_refused stop)) e =
          at_fault stop over none (ap (λ (q : Reading × S). finish q.0) (sym w.0) ∙ e.0) refl (e.1 ∙ ap (λ (q : Reading × S). q.1) w.0) (e.2 ∙ w.1)
      by_answer (Err halt_output) e =
          end_unwritten over none refl
          (subst (λ (q : Reading × S). AppendsFront held after (out ++ outputs step writes q.1 (end_shows (finish q.0)))) w.0
          (puts_behind {T = Unit {0}} {E = Unit {0}} held holds after out (outputs step writes t (end_shows (finish new.reading))) (Err tt) w.1 e))

-- behind bytes that were fed before
module _ {S : Type 0} (bars : S → Head → Option Bar) (step : S → Atom → S) (writes : S → Atom → List ℕ)
    (old : Progress) (s : S) (held : Option (List ℕ)) (had_failed : Bool) (mid : Progress) (m : S) (mid_held : Option (List ℕ)) (mid_failed : Bool) (first more : List ℕ)
    (fed : Fed bars step writes old s held had_failed mid m mid_held mid_failed first (Ok tt)) where
  abbrev first_out : List ℕ
  first_out = outputs (steps bars step) (steps_write bars step writes) (old.reading, s) first

  abbrev more_out : List ℕ
  more_out = outputs (steps bars step) (steps_write bars step writes) (mid.reading, m) more

  gone : ((mid.reading, m) ≡ fold (steps bars step) (old.reading, s) first) × (mid_held ≡ append_known held first_out)
  gone = subst (λ (f : Bool). Goes (steps bars step) (steps_write bars step writes) (old.reading, s) held (mid.reading, m) mid_held first (well f)) (not_failed mid.reading.halt mid.failed (sym fed.answer_is)) fed.goes

  same : fold (steps bars step) (old.reading, s) (first ++ more) ≡ fold (steps bars step) (mid.reading, m) more
  same = fold-append (steps bars step) (old.reading, s) first more ∙ ap (λ (q : Reading × S). fold (steps bars step) q more) (sym gone.0)

  outs : first_out ++ more_out ≡ outputs (steps bars step) (steps_write bars step writes) (old.reading, s) (first ++ more)
  outs =
      ap (λ (q : Reading × S). first_out ++ outputs (steps bars step) (steps_write bars step writes) q more) gone.0
      ∙ sym (outputs-append (steps bars step) (steps_write bars step writes) (old.reading, s) first more)

  out_is : (holds : Option (List ℕ)) → holds ≡ append_known mid_held more_out → holds ≡ append_known held (outputs (steps bars step) (steps_write bars step writes) (old.reading, s) (first ++ more))
  out_is holds e = e ∙ ap (λ (known : Option (List ℕ)). append_known known more_out) gone.1 ∙ known_twice held first_out more_out ∙ ap (append_known held) outs

  -- with what the end of the input shows
  abbrev last : (Reading → Stop) → Reading × S → List ℕ
  last stop q = outputs step writes q.1 (end_shows (stop q.0))

  all_is : (stop : Reading → Stop) → first_out ++ (more_out ++ last stop (fold (steps bars step) (mid.reading, m) more))
      ≡ outputs (steps bars step) (steps_write bars step writes) (old.reading, s) (first ++ more) ++ last stop (fold (steps bars step) (old.reading, s) (first ++ more))
  all_is stop =
      sym (append_assoc first_out more_out (last stop (fold (steps bars step) (mid.reading, m) more)))
      ∙ ap (λ bytes. bytes ++ last stop (fold (steps bars step) (mid.reading, m) more)) outs
      ∙ ap (λ (q : Reading × S). outputs (steps bars step) (steps_write bars step writes) (old.reading, s) (first ++ more) ++ last stop q) (sym same)

  pub going_behind : (fold (steps bars step) (mid.reading, m) more).0.halt ≡ None → (fold (steps bars step) (old.reading, s) (first ++ more)).0.halt ≡ None
  going_behind none = ap (λ (q : Reading × S). q.0.halt) same ∙ none

  pub ends_behind : (left : Option (List ℕ)) (u : S) (holds : Option (List ℕ)) (ending : Ending) → Ends bars step writes mid.reading m mid_held left u holds more ending
      → Ends bars step writes old.reading s held left u holds (first ++ more) ending
  ends_behind left u holds ending (at_end over none fin is last_is e) =
      let end = last (λ r. complete) (fold (steps bars step) (mid.reading, m) more) in
      at_end over (ap (λ (q : Reading × S). q.0.halt) same ∙ none) (ap (λ (q : Reading × S). finish q.0) same ∙ fin) is
      (last_is ∙ ap (λ (q : Reading × S). fold step q.1 (end_shows complete)) (sym same))
      (e ∙ ap (λ (known : Option (List ℕ)). append_known known (more_out ++ end)) gone.1 ∙ known_twice held first_out (more_out ++ end) ∙ ap (append_known held) (all_is (λ r. complete)))
  ends_behind left u holds ending (at_fault stop over none fin is state e) =
      at_fault stop over (ap (λ (q : Reading × S). q.0.halt) same ∙ none) (ap (λ (q : Reading × S). finish q.0) same ∙ fin) is (state ∙ ap (λ (q : Reading × S). q.1) (sym same)) (out_is holds e)
  ends_behind left u holds ending (halted stop halt is state e) =
      halted stop (ap (λ (q : Reading × S). q.0.halt) same ∙ halt) is (state ∙ ap (λ (q : Reading × S). q.1) (sym same)) (out_is holds e)
  ends_behind left u holds ending (unread none is state e) =
      let count : next_offset mid.reading + length more ≡ next_offset old.reading + length (first ++ more) = omega (arith, fed.place fed.going, length-append first more) in
      unread (ap (λ (q : Reading × S). q.0.halt) same ∙ none) (is ∙ ap Unread count) (state ∙ ap (λ (q : Reading × S). q.1) (sym same)) (out_is holds e)
  ends_behind left u holds ending (unwritten is e) =
      unwritten is (subst (AppendsFront held holds) outs (puts_behind {T = Unit {0}} {E = Unit {0}} held mid_held holds first_out more_out (Err tt) gone.1 e))
  ends_behind left u holds ending (end_unwritten over none is e) =
      end_unwritten over (ap (λ (q : Reading × S). q.0.halt) same ∙ none) is
      (subst (AppendsFront held holds) (all_is finish)
      (puts_behind {T = Unit {0}} {E = Unit {0}} held mid_held holds first_out (more_out ++ last finish (fold (steps bars step) (mid.reading, m) more)) (Err tt) gone.1 e))
