-- What is done with each file of a tree.
use Rattle.std.specs.Prelude.{◌≡◌, ℕ, ℤ, List, Bool, None, Some, Result, Ok, Err}
use Rattle.dcm_deid.specs.declared.fate.Options.{Options}
use Rattle.dcm_files.specs.Devices.{MayDo}
use Rattle.dcm_words.specs.Plans.{job_of}
use Rattle.dcm_words.specs.Words.{Job, deidentify, with_days}
use Rattle.dcm_cli.specs.Calls.{Reader}
use Rattle.dcm_cli.specs.First.{ReadsFirst}
use Rattle.dcm_cli.specs.declared.first.FirstEnd.{FirstEnd}
use Rattle.dcm_cli.specs.declared.first.FirstEnd.TheVariants as ends
use Rattle.dcm_trees.specs.Opening.{OpensFile}
use Rattle.dcm_trees.specs.declared.task.NoDays.{NoDays}
use Rattle.dcm_trees.specs.declared.task.NoDays.TheVariants.{Unopened, Refused, Unread}
use Rattle.dcm_trees.specs.declared.task.FileJob.{FileJob}
use Rattle.dcm_trees.specs.declared.task.FileJob.TheVariants.{Lent, Own}
use Rattle.dcm_trees.specs.declared.task.Task.{Task as Given}
use Rattle.dcm_trees.specs.declared.task.Task.TheVariants.{Same, ByDays}

-- the same job; or the taking out of identity by the days that the key makes of the patient of each file
pub data Task : Type 0 where
  same : (job : Job) → Task
  by_days : (options : Options) (reports : Bool) (key : List ℕ) → Task

abbrev pub task_of : Given → Task
task_of (Same job) = same (job_of job.now)
task_of (ByDays what) = by_days what.now.options what.now.reports what.now.key.items

abbrev pub job_of_file : FileJob → Job
job_of_file (Lent job) = job_of job.now
job_of_file (Own job) = job_of job

abbrev pub found : Result FileJob NoDays → Result Job NoDays
found (Ok job) = Ok (job_of_file job)
found (Err cause) = Err cause

-- what a first reading comes to
abbrev pub days_of : FirstEnd → Result ℤ NoDays
days_of (ends.Days days) = Ok days
days_of (ends.Refused stop) = Err (Refused stop)
days_of (ends.Unread count) = Err (Unread count)

-- a file was opened, read as far as its patient, and given back
pub data TakesDays {S I O : Type 0} (may : MayDo S I O) (r : Reader I) (key path : List ℕ) (before : S)
    (result : Result ℤ NoDays) (after : S) : Type 0 where
  not_opened : OpensFile may path before None after → result ≡ Err Unopened
      → TakesDays may r key path before result after
  was_read : (input left : I) (opened : S) (end : FirstEnd) → OpensFile may path before (Some input) opened
      → ReadsFirst r input left key end → may.releases opened left after → result ≡ days_of end
      → TakesDays may r key path before result after

-- the job of the file at a path was found: it is that of all files; or the file was read for the days of its patient
pub data FindsJob {S I O : Type 0} (may : MayDo S I O) (r : Reader I) (task : Task) (path : List ℕ) (before : S)
    (result : Result Job NoDays) (after : S) : Type 0 where
  of_all : (job : Job) → task ≡ same job → result ≡ Ok job → after ≡ before
      → FindsJob may r task path before result after
  of_days : (options : Options) (reports : Bool) (key : List ℕ) (days : ℤ) → task ≡ by_days options reports key
      → TakesDays may r key path before (Ok days) after
      → result ≡ Ok (deidentify (with_days options days) reports key) → FindsJob may r task path before result after
  no_days : (options : Options) (reports : Bool) (key : List ℕ) (cause : NoDays)
      → task ≡ by_days options reports key → TakesDays may r key path before (Err cause) after
      → result ≡ Err cause → FindsJob may r task path before result after
