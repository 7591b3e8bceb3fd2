-- The statements of the laws.
use Rattle.dcm_words.specs.declared.job.Job.{Job}
use Rattle.dcm_words.specs.Plans.{job_of}
use Rattle.dcm_cli.specs.Answer.{Answer, Answers, Sure}
use Rattle.dcm_cli.specs.Run.{IsMeant}
use Rattle.std.specs.Prelude.{◌++◌, ◌≡◌, List, ℕ}
use Rattle.std.specs.declared.alloc.Global.{Global}

-- what is sure of a beginning is a beginning of the output for every input that begins so
abbrev pub SureGrows : Type 0
SureGrows =
    (job : Job Global) (p later out : List ℕ) (a : Answer) → IsMeant (job_of job) → Sure (job_of job) p out
    → Answers (job_of job) (p ++ later) a → (rest : List ℕ) × (a.output ≡ out ++ rest)
