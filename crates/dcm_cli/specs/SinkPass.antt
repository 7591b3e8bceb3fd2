-- What the pass over a data set leaves of a sink, by the sink's members.
use Rattle.std.specs.Prelude.{◌≡◌, ℕ, List, [], true, false, Result}
use Rattle.dcm_stream.specs.Halts.{Halt}
use Rattle.dcm_stream.specs.declared.sink.Sink.{Ghosts}
use Rattle.dcm_stream.specs.Machine.{Progress}
use Rattle.dcm_stream.specs.Sinks.{Keeps}
use Rattle.dcm_base.specs.declared.syntax.Syntax.{Syntax}
use Rattle.dcm_stream.specs.Reading.{Reading, start_of}
use Rattle.dcm_cli.specs.declared.ending.Ending.{Ending}
use Rattle.dcm_cli.specs.declared.head.Beginning.{Beginning}
use Rattle.dcm_cli.specs.InputCalls.{Reader}
use Rattle.dcm_cli.specs.Pass as pass

-- a machine and the sink were fed these bytes, and it has the same writer
pub record Feeds {S : Type 0} (sink : Ghosts S) (before after : S) (machine_before machine_after : Progress)
    (bytes : List ℕ) (result : Result (Unit {0}) Halt) : Type 0 where
  pub fed : pass.Fed sink.bar sink.step sink.writes machine_before (sink.state before) (sink.contents before)
      (sink.has_failed before) machine_after (sink.state after) (sink.contents after) (sink.has_failed after)
      bytes result
  pub kept : Keeps sink before after

-- its writer failed in the call exactly where that is the ending
abbrev pub TellsOutput : {S : Type 0} → Ghosts S → (before after : S) → Ending → Type 0
TellsOutput sink before after ending = pass.TellsOutput (sink.has_failed before) (sink.has_failed after) ending

-- the input has ended where a data set was read up to here
pub record EndsSet {S : Type 0} (sink : Ghosts S) (before after : S) (read : Reading)
    (result : Result (Unit {0}) Halt) : Type 0 where
  pub ends : pass.EndsSet sink.step sink.writes read (sink.state before) (sink.contents before)
      (sink.state after) (sink.contents after) result
  pub failed : TellsOutput sink before after (pass.ending_of result)
  pub kept : Keeps sink before after

-- an input was read as a data set that was read up to here; each device failed exactly where the ending says so
pub record ReadsRest {S R : Type 0} (sink : Ghosts S) (r : Reader R) (before after : S) (input_before input_after : R)
    (read : Reading) (ending : Ending) : Type 0 where
  pub reads : pass.ReadsSet sink.bar sink.step sink.writes r input_before input_after false [] read
      (sink.state before) (sink.contents before) (sink.state after) (sink.contents after) ending
  pub unread : pass.TellsUnread (r.has_failed input_before) (r.has_failed input_after) ending
  pub failed : TellsOutput sink before after ending
  pub kept : Keeps sink before after

-- and as a data set whose first bytes were read with the head of its file
pub record ReadsSet {S R : Type 0} (sink : Ghosts S) (r : Reader R) (before after : S) (input_before input_after : R)
    (beginning : Beginning) (buffer : List ℕ) (syntax : Syntax) (start : ℕ) (ending : Ending) : Type 0 where
  pub ends : pass.ReadsSet sink.bar sink.step sink.writes r input_before input_after beginning.is_over
      (pass.set_bytes beginning buffer) (start_of syntax start)
      (sink.state before) (sink.contents before) (sink.state after) (sink.contents after) ending
  pub over : beginning.is_over ≡ true → pass.WasRead ending
  pub unread : pass.TellsUnread (r.has_failed input_before) (r.has_failed input_after) ending
  pub failed : TellsOutput sink before after ending
  pub kept : Keeps sink before after
