-- What the pass over a data set leaves where identity is taken out of it.
use Rattle.std.specs.Prelude.{◌≡◌, ◌&&◌, ℕ, List, Bool, true, false, Option}
use Rattle.dcm_stream.specs.declared.sink.Sink.{Ghosts}
use Rattle.dcm_stream.specs.Reading.{Reading}
use Rattle.dcm_stream.specs.Sinks.{Keeps}
use Rattle.dcm_deid.specs.declared.fate.Options.{Options}
use Rattle.dcm_deid.specs.DeidentifySink.{State, begun}
use Rattle.dcm_deid.specs.Patient.{PatientState}
use Rattle.dcm_deid.specs.Through.{through_bar, through_step, through_writes}
use Rattle.dcm_deid.specs.WithPatient.{is_unnamed, noting, noting_bar, noting_step, noting_writes}
use Rattle.dcm_cli.specs.declared.ending.Ended.{Ended}
use Rattle.dcm_cli.specs.declared.ending.Ending.{Ending}
use Rattle.dcm_cli.specs.declared.ending.Ending.TheVariants.{Worked, Unread, Output}
use Rattle.dcm_cli.specs.declared.ending.Verdict.TheVariants.{Done, PixelsMayShow, Refused, RefusedLine}
use Rattle.dcm_cli.specs.declared.rewrite.Opened.{Opened}
use Rattle.dcm_cli.specs.EditPass.{first_of}
use Rattle.dcm_cli.specs.InputCalls.{Reader}
use Rattle.dcm_cli.specs.Pass.{ReadsSet, TellsUnread, WasRead, set_bytes, with_pixels}
use Rattle.dcm_cli.specs.SinkPass.{TellsOutput}

-- the input has ended with its data set, without fault
abbrev pub ends_whole : Ending → Bool
ends_whole (Worked (Done unplaced)) = true
ends_whole (Worked PixelsMayShow) = true
ends_whole (Worked (Refused stop)) = false
ends_whole (Worked (RefusedLine stop)) = false
ends_whole (Unread count) = false
ends_whole Output = false

-- an input was read as a data set whose first bytes were read with the head of its file, and whom its PatientID names
-- was noted, where that is asked; each device failed exactly where the ending says so
pub record ReadsNoting {S R : Type 0} (sink : Ghosts S) (r : Reader R) (asked : Bool) (before after : S)
    (input_before input_after : R) (buffered : List ℕ) (first : Reading) (is_over : Bool)
    (ending : Ending) (unnamed : Bool) : Type 0 where
  pub whom : Option PatientState
  pub ends : ReadsSet (noting_bar sink.bar) (noting_step sink.step) (noting_writes sink.writes) r
      input_before input_after is_over buffered first
      (noting asked, sink.state before) (sink.contents before) (whom, sink.state after) (sink.contents after) ending
  pub over : is_over ≡ true → WasRead ending
  pub unread : TellsUnread (r.has_failed input_before) (r.has_failed input_after) ending
  pub failed : TellsOutput sink before after ending
  pub kept : Keeps sink before after
  pub unnamed_is : unnamed ≡ is_unnamed whom (ends_whole ending)

-- what takes identity out was between the machine and the sink, behind what notes whom PatientID names; whether the
-- pixels may show identity is in the ending, where that is reported; that there is no pseudonym, and how many dates
-- were emptied, is remarked
pub record DeidentifyPass {S R : Type 0} (sink : Ghosts S) (r : Reader R) (options : Options) (reports : Bool)
    (key : List ℕ) (before after : S) (input_before input_after : R) (buffered : List ℕ) (first : Reading)
    (is_over : Bool) (ended : Ended) : Type 0 where
  pub last : State
  pub whom : Option PatientState
  pub passed : Ending
  pub ends : ReadsSet (noting_bar through_bar) (noting_step (through_step sink.step))
      (noting_writes (through_writes sink.step sink.writes)) r input_before input_after is_over buffered first
      (noting options.pseudonyms, (begun options key, sink.state before)) (sink.contents before)
      (whom, (last, sink.state after)) (sink.contents after) passed
  pub was : is_over ≡ true → WasRead passed
  pub ending_is : ended.ending ≡ with_pixels passed (reports && last.place.seen.may_show)
  pub remarks_are : ended.remarks ≡ record {
    unnamed = is_unnamed whom (ends_whole passed);
    emptied = last.place.seen.emptied;
    unknown = false;
  }

-- the same of an opened file; each device failed exactly where the ending says so
pub record Deidentifies {S R : Type 0} (sink : Ghosts S) (r : Reader R) (options : Options) (reports : Bool)
    (key : List ℕ) (before after : S) (input_before input_after : R) (o : Opened) (buffer : List ℕ)
    (ended : Ended) : Type 0 where
  pub passes : DeidentifyPass sink r options reports key before after input_before input_after
      (set_bytes o.beginning buffer) (first_of o) o.beginning.is_over ended
  pub unread : TellsUnread (r.has_failed input_before) (r.has_failed input_after) ended.ending
  pub failed : TellsOutput sink before after ended.ending
  pub kept : Keeps sink before after
