-- Pieces that a machine is fed, one after another.
use Rattle.std.proofs.Common.{◌≡◌, ◌∙◌, ap, sym, subst, ℕ, ◌≤◌, List, [], ◌++◌, length-append, Bool, true, false, Option, None, Some, arith, refl}
use Rattle.std.specs.Prelude.{Result, Ok, Err, IsErrAnd, fold, is_some, ◌||◌}
use Rattle.dcm_lemmas.proofs.Options.{known_nothing}
use Rattle.dcm_base.specs.Steps.Atoms.{Atom}
use Rattle.dcm_base.specs.Steps.Steps.{outputs, Goes}
use Rattle.dcm_base.specs.Reading.Stop.{Stop}
use Rattle.dcm_base.specs.Reading.Reads.{INPUT_LIMIT}
use Rattle.std.specs.Io.KnownBytes.{append_known}
use Rattle.dcm_base.proofs.Writes.Runs.{goes_on, goes_failed}
use Rattle.dcm_head.specs.declared.head.Head.{Head}
use Rattle.dcm_stream.specs.declared.token.Bar.{Bar}
use Rattle.dcm_stream.specs.Halts.{Halt}
use Rattle.dcm_stream.specs.Reading.{Reading}
use Rattle.dcm_stream.specs.Machine.{Progress, steps, steps_write, answer, well, is_halted, next_offset, TellsFailed}
use Rattle.dcm_stream.proofs.Runs.Parts.{halted_stays, halted_silent}
use Rattle.dcm_cli.specs.Pass.{Fed}

-- a machine whose answer is no halt has not failed, and has not halted
pub not_failed : (halt : Option Stop) (failed : Bool) → answer halt failed ≡ Ok tt → failed ≡ false
not_failed halt true e = cc
not_failed halt false e = refl

pub going_none : (p : Progress) → is_halted p ≡ false → p.reading.halt ≡ None
going_none p e = none p.reading.halt p.failed e
  where
    none : (halt : Option Stop) (failed : Bool) → (failed || is_some halt) ≡ false → halt ≡ None
    none None failed e = refl
    none (Some stop) true e = cc
    none (Some stop) false e = cc

pub going_fine : (p : Progress) → is_halted p ≡ false → p.failed ≡ false
going_fine p e = fine p.reading.halt p.failed e
  where
    fine : (halt : Option Stop) (failed : Bool) → (failed || is_some halt) ≡ false → failed ≡ false
    fine halt true e = cc
    fine halt false e = refl

module _ {S : Type 0} (bars : S → Head → Option Bar) (step : S → Atom → S) (writes : S → Atom → List ℕ) where
  -- a piece behind another
  pub fed_on : (old : Progress) (s : S) (held : Option (List ℕ)) (had_failed : Bool) (mid : Progress) (m : S) (mid_held : Option (List ℕ)) (mid_failed : Bool)
      (new : Progress) (t : S) (holds : Option (List ℕ)) (has_failed : Bool) (xs ys : List ℕ) (r : Result (Unit {0}) Halt)
      → Fed bars step writes old s held had_failed mid m mid_held mid_failed xs (Ok tt)
      → Fed bars step writes mid m mid_held mid_failed new t holds has_failed ys r
      → Fed bars step writes old s held had_failed new t holds has_failed (xs ++ ys) r
  fed_on old s held had_failed mid m mid_held mid_failed new t holds has_failed xs ys r a b =
      let fine : mid.failed ≡ false = not_failed mid.reading.halt mid.failed (sym a.answer_is) in
      let went = subst (λ (f : Bool). Goes (steps bars step) (steps_write bars step writes) (old.reading, s) held (mid.reading, m) mid_held xs (well f)) fine a.goes in
      let before = subst (λ (f : Bool). TellsFailed had_failed mid_failed f) fine a.failed in
      record {
        goes = goes_on (steps bars step) (steps_write bars step writes) (old.reading, s) held (mid.reading, m) mid_held (new.reading, t) holds xs ys (well new.failed) went.0 went.1 b.goes;
        answer_is = b.answer_is;
        going = b.going;
        failed = subst (λ (f : Bool). TellsFailed f has_failed new.failed) before b.failed;
        place = λ h. omega (arith, b.place h, a.place a.going, length-append xs ys);
        within = b.within;
      }

  halted_over : (r : Reading) (t : S) (stop : Stop) (ys : List ℕ) → r.halt ≡ Some stop → (fold (steps bars step) (r, t) ys ≡ (r, t)) × (outputs (steps bars step) (steps_write bars step writes) (r, t) ys ≡ [])
  halted_over r t stop ys e =
      let q : Reading = record r { halt = Some stop } in
      let same : r ≡ q = ap (λ (h : Option Stop). let x : Reading = record r { halt = h } in x) e in
      subst (λ (x : Reading). (fold (steps bars step) (x, t) ys ≡ (x, t)) × (outputs (steps bars step) (steps_write bars step writes) (x, t) ys ≡ [])) (sym same)
      (halted_stays bars step writes r.position r.head r.left r.sign r.levels stop t ys, halted_silent bars step writes r.position r.head r.left r.sign r.levels stop t ys)

  has_halted : (halt : Option Stop) (h : Halt) → Err h ≡ answer halt false → (stop : Stop) × (halt ≡ Some stop)
  has_halted None h e = cc
  has_halted (Some stop) h e = (stop, refl)

  -- a halt leaves what comes behind it
  pub fed_stopped : (old : Progress) (s : S) (held : Option (List ℕ)) (had_failed : Bool) (new : Progress) (t : S) (holds : Option (List ℕ)) (has_failed : Bool) (xs ys : List ℕ) (h : Halt)
      → Fed bars step writes old s held had_failed new t holds has_failed xs (Err h)
      → Fed bars step writes old s held had_failed new t holds has_failed (xs ++ ys) (Err h)
  fed_stopped old s held had_failed new t holds has_failed xs ys h a = by_failure new.failed refl
    where
      by_failure : (f : Bool) → f ≡ new.failed → Fed bars step writes old s held had_failed new t holds has_failed (xs ++ ys) (Err h)
      by_failure true e =
          record {
            goes = subst (λ (f : Bool). Goes (steps bars step) (steps_write bars step writes) (old.reading, s) held (new.reading, t) holds (xs ++ ys) (well f)) e
                (goes_failed (steps bars step) (steps_write bars step writes) (old.reading, s) held (new.reading, t) holds xs ys (well true) refl
                (subst (λ (f : Bool). Goes (steps bars step) (steps_write bars step writes) (old.reading, s) held (new.reading, t) holds xs (well f)) (sym e) a.goes));
            answer_is = a.answer_is;
            going = tt;
            failed = a.failed;
            place = λ going. absurd (cc);
            within = λ going. absurd (cc);
          }
      by_failure false e =
          let went = subst (λ (f : Bool). Goes (steps bars step) (steps_write bars step writes) (old.reading, s) held (new.reading, t) holds xs (well f)) (sym e) a.goes in
          let some = has_halted new.reading.halt h (a.answer_is ∙ ap (answer new.reading.halt) (sym e)) in
          let still = halted_over new.reading t some.0 ys some.1 in
          let going_not : is_halted new ≡ true = ap (λ (x : Option Stop). new.failed || is_some x) some.1 ∙ ap (λ (f : Bool). f || true) (sym e) in
          record {
            goes = subst (λ (f : Bool). Goes (steps bars step) (steps_write bars step writes) (old.reading, s) held (new.reading, t) holds (xs ++ ys) (well f)) e
                (goes_on (steps bars step) (steps_write bars step writes) (old.reading, s) held (new.reading, t) holds (new.reading, t) holds xs ys (well false) went.0 went.1
                (sym still.0, sym (known_nothing holds) ∙ ap (append_known holds) (sym still.1)));
            answer_is = a.answer_is;
            going = tt;
            failed = a.failed;
            place = λ going. absurd (cc);
            within = λ going. absurd (cc);
          }

  pub fed_failed : (old : Progress) (s : S) (held : Option (List ℕ)) (had_failed : Bool) (new : Progress) (t : S) (holds : Option (List ℕ)) (has_failed : Bool) (xs ys : List ℕ) (h : Halt) (r : Result (Unit {0}) Halt)
      → IsErrAnd r (λ x. x ≡ h)
      → Fed bars step writes old s held had_failed new t holds has_failed xs (Err h)
      → Fed bars step writes old s held had_failed new t holds has_failed (xs ++ ys) r
  fed_failed old s held had_failed new t holds has_failed xs ys h (Ok x) e a = absurd e
  fed_failed old s held had_failed new t holds has_failed xs ys h (Err x) e a =
      subst (λ (z : Halt). Fed bars step writes old s held had_failed new t holds has_failed (xs ++ ys) (Err z)) (sym e) (fed_stopped old s held had_failed new t holds has_failed xs ys h a)

  -- nothing
  pub fed_nothing : (p : Progress) (s : S) (held : Option (List ℕ)) (has_failed : Bool) → is_halted p ≡ false → next_offset p.reading ≤ INPUT_LIMIT
      → Fed bars step writes p s held has_failed p s held has_failed [] (Ok tt)
  fed_nothing p s held has_failed going limit = by_failure p.reading.halt p.failed refl refl
    where
      by_failure : (halt : Option Stop) (failed : Bool) → halt ≡ p.reading.halt → failed ≡ p.failed → Fed bars step writes p s held has_failed p s held has_failed [] (Ok tt)
      by_failure halt true h f = absurd (cc)
      by_failure (Some stop) false h f = absurd (cc)
      by_failure None false h f =
          record {
            goes = subst (λ (failed : Bool). Goes (steps bars step) (steps_write bars step writes) (p.reading, s) held (p.reading, s) held [] (well failed)) f (refl, sym (known_nothing held));
            answer_is = ap (answer None) f ∙ ap (λ (x : Option Stop). answer x p.failed) h;
            going = going;
            failed = subst (λ (failed : Bool). TellsFailed has_failed has_failed failed) f refl;
            place = λ going. omega arith;
            within = λ going. limit;
          }
