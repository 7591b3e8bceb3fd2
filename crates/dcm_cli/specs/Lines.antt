-- What the building of a file from the lines of a dump leaves: how it ended, and what was written.
use Rattle.std.specs.Prelude.{◌≡◌, ℕ, List, Option, Some, None, Result, Ok, Err}
use Rattle.std.specs.Io.KnownBytes.{append_known}
use Rattle.dcm_devices.specs.Device.{AppendsFront}
use Rattle.dcm_devices.specs.Writing.{Writer}
use Rattle.dcm_build.specs.Halts.{BuildHalt}
use Rattle.dcm_base.specs.declared.stopped.Stopped.TheVariants as halts
use Rattle.dcm_build.specs.Building.{BuildState, finishes, finish_writes}
use Rattle.dcm_cli.specs.declared.ending.Ending.{Ending}
use Rattle.dcm_cli.specs.declared.ending.Ending.TheVariants.{Worked, Output}
use Rattle.dcm_cli.specs.declared.ending.Verdict.TheVariants.{Done, RefusedLine}
use Rattle.dcm_cli.specs.Pass.{TellsOutput}

-- how the work ends, by the last answer of the builder
abbrev pub ending_of : Result (Unit {0}) BuildHalt → Ending
ending_of (Ok x) = Worked (Done 0)
ending_of (Err (halts.Refused stop)) = Worked (RefusedLine stop)
ending_of (Err halts.Output) = Output

-- the input has ended where lines were built up to here
abbrev pub EndsLines : BuildState → (before after : Option (List ℕ)) → Result (Unit {0}) BuildHalt → Type 0
EndsLines s before after (Ok x) = ((finishes s).told ≡ None) × (after ≡ append_known before (finish_writes s))
EndsLines s before after (Err (halts.Refused stop)) = ((finishes s).told ≡ Some stop)
    × (after ≡ append_known before (finish_writes s))
EndsLines s before after (Err halts.Output) = AppendsFront before after (finish_writes s)

-- the same of a writer, which failed in the call exactly where that is the ending
pub record Ends {W : Type 0} (w : Writer W) (before after : W) (s : BuildState)
    (result : Result (Unit {0}) BuildHalt) : Type 0 where
  pub ends : EndsLines s (w.contents before) (w.contents after) result
  pub failed : TellsOutput (w.has_failed before) (w.has_failed after) (ending_of result)
