-- A machine whose input has ended, and why it is refused.
use Rattle.std.proofs.Common.{◌≡◌, ◌∙◌, ap, sym, subst, refl, ℕ, List, Bool, true, false, Option, Some, None}
use Rattle.std.specs.Prelude.{fold, Result, ◌||◌, is_some}
use Rattle.dcm_base.specs.declared.fault.Stop.{Stop as FaultAt}
use Rattle.dcm_base.specs.Reading.Stop.{Stop, complete, refused}
use Rattle.dcm_stream.specs.declared.sink.Sink.{Ghosts}
use Rattle.dcm_stream.specs.Halts.{Halt}
use Rattle.dcm_stream.specs.Machine.{Progress, TellsFailed, answer, ended, is_halted, shows_end, well}
use Rattle.dcm_stream.specs.Reading.{Reading, end_shows, finish}
use Rattle.dcm_stream.specs.Sinks.{Finished, Takes}
use Rattle.dcm_cli.specs.First.{fault_at}
use Rattle.dcm_cli.specs.Searching.{Ends, refusal}

halted_end : (r : Reading) (stop : Stop) → r.halt ≡ Some stop → finish r ≡ stop
unfolding finish
halted_end r stop e = rw e refl

complete_told : (r : Reading) (halt : Option Stop) → r.halt ≡ halt → finish r ≡ complete → refusal (answer halt false) ≡ None
complete_told r None e fin = refl
complete_told r (Some complete) e fin = refl
complete_told r (Some (refused fault offset)) e fin = absurd (let no : refused fault offset ≡ complete = sym (halted_end r (refused fault offset) e) ∙ fin in cc)

told_by : (r : Reading) (stop : Stop) → finish r ≡ stop → refusal (answer (ended stop r).halt false) ≡ fault_at stop
told_by r complete fin = complete_told r r.halt refl fin
told_by r (refused fault offset) fin = refl

module _ {S : Type 0} (sink : Ghosts S) (old new : S) (before after : Progress) (fine : before.failed ≡ false) where
  has_failed : (halted : Bool) → is_halted before ≡ halted → Finished sink old new before after → (is_halted before ≡ true → after ≡ before) → after.failed ≡ true → sink.has_failed new ≡ true
  has_failed true is finished still e = absurd (let no : true ≡ false = sym e ∙ ap (λ (p : Progress). p.failed) (still is) ∙ fine in cc)
  has_failed false is finished still e = subst (λ (f : Bool). TellsFailed (sink.has_failed old) (sink.has_failed new) f) e (finished.failed is)

  pub machine_ends : (result : Result (Unit {0}) Halt) → Finished sink old new before after → result ≡ answer after.reading.halt after.failed → (before.failed ≡ false → after.reading ≡ ended (finish before.reading) before.reading) → (is_halted before ≡ true → after ≡ before)
      → Ends sink old new before after (refusal result)
  machine_ends result finished is reading still = record {
    failed = λ e. has_failed (is_halted before) refl finished still e;
    state = λ e. (subst (λ (f : Bool). Takes sink old new (shows_end before) (well f)) e (finished.takes fine)).0;
    told_is = λ e. ap refusal is ∙ ap (λ (f : Bool). refusal (answer after.reading.halt f)) e ∙ ap (λ (r : Reading). refusal (answer r.halt false)) (reading fine) ∙ told_by before.reading (finish before.reading) refl;
  }
