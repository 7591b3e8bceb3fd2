-- A job that was done and reported is one that was run.
use Rattle.std.proofs.Common.{◌≡◌, ◌∙◌, ap, sym, subst, ◌⊎◌, inl, inr, ◌≤◌, ℕ, zero, suc, Bool, true, false, Option, arith}
use Rattle.std.specs.Prelude.{◌↔◌}
use Rattle.dcm_devices.specs.Writing.{Writer}
use Rattle.dcm_words.specs.declared.job.Job.{Job as RunJob}
use Rattle.dcm_words.specs.Plans.{job_of}
use Rattle.dcm_cli.specs.declared.ending.Ended.{Ended}
use Rattle.dcm_cli.specs.declared.ending.Ending.{Ending}
use Rattle.dcm_cli.specs.declared.ending.Ending.TheVariants.{Worked, Unread, Output}
use Rattle.dcm_cli.specs.declared.ending.Verdict.{Verdict}
use Rattle.dcm_cli.specs.declared.ending.Verdict.TheVariants.{Done, PixelsMayShow, Refused, RefusedLine}
use Rattle.dcm_cli.specs.Calls.{Reader, Runs, FinishesOn}
use Rattle.dcm_cli.specs.Change.{Change, change_of}
use Rattle.dcm_cli.specs.ErrorLines.{Reports}
use Rattle.dcm_cli.specs.Pass.{TellsUnread, TellsOutput}
use Rattle.dcm_cli.specs.Run.{FlushedAs, IsWritten, ended_lines, ending_status, verdict_status}
use Rattle.dcm_cli.specs.Status.{DEVICE}
use Rattle.dcm_cli.proofs.Runs.Ran.{run_ran}

-- ---- the status

verdict_within : (verdict : Verdict) → verdict_status verdict ≤ 3
verdict_within (Done zero) = omega arith
verdict_within (Done (suc n)) = omega arith
verdict_within PixelsMayShow = omega arith
verdict_within (Refused stop) = omega arith
verdict_within (RefusedLine stop) = omega arith

pub ending_within : (ending : Ending) → ending_status ending ≤ DEVICE
ending_within (Worked verdict) = let within = verdict_within verdict in omega (arith, within)
ending_within (Unread read) = omega arith
ending_within Output = omega arith

-- ---- devices that failed

module _ (ended : Ending) (r_old r_new w_old w_mid w_new : Bool) (room : Option ℕ) where
  abbrev Failed : Type 0
  Failed = (ending_status ended ≡ DEVICE) ↔ ((r_new ≡ true) ⊎ (w_new ≡ true))

  neither : (verdict : Verdict) → ended ≡ Worked verdict → r_new ≡ false → w_new ≡ false → Failed
  neither verdict is read written = (
    λ at. absurd (let within = verdict_within verdict in let same = sym (ap ending_status is) ∙ at in omega (arith, within, same)),
    λ failed. absurd (no_failure failed),
  )
    where
      no_failure : (r_new ≡ true) ⊎ (w_new ≡ true) → ⊥
      no_failure (inl f) = let no : true ≡ false = sym f ∙ read in cc
      no_failure (inr f) = let no : true ≡ false = sym f ∙ written in cc

  pub by_ending : (worked : Ending) → TellsUnread r_old r_new worked → TellsOutput w_old w_mid worked → FlushedAs worked ended w_mid w_new room → r_old ≡ false → w_old ≡ false → Failed
  by_ending (Worked verdict) unread failed (inl was) readable writable = neither verdict was.0 (unread ∙ readable) (was.1 ∙ failed ∙ writable)
  by_ending (Worked verdict) unread failed (inr was) readable writable = (λ at. inr was.1, λ any. ap ending_status was.0)
  by_ending (Unread read) unread failed was readable writable = (λ at. inl unread, λ any. ap ending_status was)
  by_ending Output unread failed was readable writable = (λ at. inr (was.1 ∙ failed), λ any. ap ending_status was.0)

-- an output that did not fail is flushed
pub is_flushed : {W : Type 0} (flushed : W → Bool) (worked ended : Ending) (w_old w_mid w_new : Bool) (room : Option ℕ) (out : W) → TellsOutput w_old w_mid worked → FlushedAs worked ended w_mid w_new room
    → (IsWritten worked → w_new ≡ false → flushed out ≡ true) → w_new ≡ false → flushed out ≡ true
is_flushed flushed (Worked verdict) ended w_old w_mid w_new room out failed was drained written = drained tt written
is_flushed flushed (Unread read) ended w_old w_mid w_new room out failed was drained written = drained tt written
is_flushed flushed Output ended w_old w_mid w_new room out failed was drained written = absurd (let no : true ≡ false = sym failed ∙ sym was.1 ∙ written in cc)

-- ---- a run

pub runs_of : {A R W : Type 0} (r : Reader R) (w : Writer W) (job : RunJob A) (e : Change) (i j : R) (o p : W) (ended : Ended) (status : ℕ) → FinishesOn r w (job_of job) i j o p ended → Reports e (ended_lines ended) → status ≡ ending_status ended.ending
    → Runs r w (job_of job) e i j o p status
runs_of r w job e i j o p ended status on told was =
    let f = on.finishes in
    record {
      given = f.works.given;
      how = f.works.how;
      reads = f.works.reads;
      ran = λ readable writable.
          run_ran job f.meant f.works.given f.works.how (w.contents f.written) (change_of w o p) e (r.has_failed i) (r.has_failed j) (w.has_failed o) (w.has_failed f.written) f.worked ended.ending ended.remarks status
          f.contents f.flushed f.works.unread f.works.failed told on.remarked was readable writable f.works.worked f.works.decided;
      flushed = λ before after. is_flushed w.is_flushed f.worked ended.ending (w.has_failed o) (w.has_failed f.written) (w.has_failed p) (w.room p) p f.works.failed f.flushed f.drained after;
      within = subst (λ n. n ≤ DEVICE) (sym was) (ending_within ended.ending);
      failed = λ readable writable.
          let at = by_ending ended.ending (r.has_failed i) (r.has_failed j) (w.has_failed o) (w.has_failed f.written) (w.has_failed p) (w.room p) f.worked f.works.unread f.works.failed f.flushed readable writable in
          (λ is. at.0 (sym was ∙ is), λ any. was ∙ at.1 any);
    }
