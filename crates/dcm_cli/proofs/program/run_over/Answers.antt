use Rattle.std.proofs.Common.{◌≡◌, rules, ℕ, Result, Ok, Err}
use Rattle.std.specs.declared.io.Error.{Error}
use Rattle.dcm_devices.specs.Writing.{Writer}
use Rattle.dcm_files.specs.Devices.{MayDo}
use Rattle.dcm_words.specs.Plans.{job_of}
use Rattle.dcm_words.specs.declared.job.Job.{Job as RunJob}
use Rattle.dcm_cli.specs.declared.ending.Ended.{Ended}
use Rattle.dcm_cli.specs.Calls.{Reader, FinishesOn}
use Rattle.dcm_cli.specs.Change.{Change}
use Rattle.dcm_cli.specs.ErrorLines.{Reports}
use Rattle.dcm_cli.specs.Program.{RunsOver, GivesBack, after_closing, closed_well, closed_with_loss}
use Rattle.dcm_cli.specs.Run.{ended_lines, ending_status}
use Rattle.dcm_cli.proofs.Runs.Finished.{runs_of}
use Rattle.dcm_cli.proofs.Runs.Obeying.{over}
use Rattle.dcm_cli.proofs.program.run_over.Goals as goal

-- by how the closing went
by_closing : {A S I O : Type 0} (may : MayDo S I O) (r : Reader I) (w : Writer O) (job : RunJob A) (e : Change) (i j : I) (o p : O) (ended : Ended) (before : S) (closing : Result (Unit {0}) Error) (status : ℕ) (after : S)
    → FinishesOn r w (job_of job) i j o p ended → GivesBack may j p before closing after → Reports e (ended_lines (after_closing ended closing)) → status ≡ ending_status (after_closing ended closing).ending
    → RunsOver may r w (job_of job) e i o before status after
by_closing may r w job e i j o p ended before (Ok x) status after f back told was = closed_well j p (runs_of r w job e i j o p ended status f told was) back
by_closing may r w job e i j o p ended before (Err x) status after f back told was = closed_with_loss j p ended x f back told was

pub returns-clause-runs : goal.returns-clause-runs
returns-clause-runs g c =
    over _ _ _ _ _ c.new-input.result _ c.new-out.result _ _ _ _ c.new-input.ensures c.new-out.ensures
    (by_closing _ _ _ c.args.job.now _ _ c.finish-ended.new.input _ c.finish-ended.new.out c.finish-ended.result _ c.close-closing.result _ _ c.finish-ended.ensures
    (record { between = c.close-closing.new.self; closed = search rules; released = search rules })
    (search rules) (search rules))
