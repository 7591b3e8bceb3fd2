-- What the pass over a data set through edits leaves.
use Rattle.std.specs.Prelude.{◌≡◌, ℕ, ◌+◌, ◌*◌, List, [], ◌∷◌, Bool, true, if◌then◌else◌}
use Rattle.dcm_stream.specs.declared.sink.Sink.{Ghosts}
use Rattle.dcm_stream.specs.Reading.{Reading, start_of}
use Rattle.dcm_stream.specs.Sinks.{Keeps}
use Rattle.dcm_edits.specs.Edit.{Edit}
use Rattle.dcm_editor.specs.EditSink.{State, begun}
use Rattle.dcm_editor.specs.Through.{through_bar, through_step, through_writes}
use Rattle.dcm_cli.specs.declared.ending.Ending.{Ending}
use Rattle.dcm_cli.specs.declared.rewrite.Opened.{Opened}
use Rattle.dcm_cli.specs.InputCalls.{Reader}
use Rattle.dcm_cli.specs.Pass.{ReadsSet, TellsUnread, WasRead, set_bytes, with_unplaced}
use Rattle.dcm_cli.specs.SinkPass.{TellsOutput}

-- of answers one after another those that are no: bit 0 is set for the first
unfoldable pub not_found : List Bool → ℕ
not_found [] = 0
not_found (b ∷ bs) = (if b then 0 else 1) + 2 * not_found bs

-- the edits were between the machine and the sink, and those that found no place are in the ending
pub record EditPass {S R : Type 0} (sink : Ghosts S) (r : Reader R) (edits : List Edit) (before after : S)
    (input_before input_after : R) (buffered : List ℕ) (first : Reading) (is_over : Bool)
    (ending : Ending) : Type 0 where
  pub last : State
  pub passed : Ending
  pub ends : ReadsSet through_bar (through_step sink.step) (through_writes sink.step sink.writes) r
      input_before input_after is_over buffered first
      (begun edits, sink.state before) (sink.contents before) (last, sink.state after) (sink.contents after) passed
  pub was : is_over ≡ true → WasRead passed
  pub ending_is : ending ≡ with_unplaced passed (not_found last.found)

-- where the data set of an opened file begins
abbrev pub first_of : Opened → Reading
first_of o = start_of o.coding.syntax o.start

-- the same of an opened file; each device failed exactly where the ending says so
pub record Edits {S R : Type 0} (sink : Ghosts S) (r : Reader R) (edits : List Edit) (before after : S)
    (input_before input_after : R) (o : Opened) (buffer : List ℕ) (ending : Ending) : Type 0 where
  pub passes : EditPass sink r edits before after input_before input_after (set_bytes o.beginning buffer) (first_of o)
      o.beginning.is_over ending
  pub unread : TellsUnread (r.has_failed input_before) (r.has_failed input_after) ending
  pub failed : TellsOutput sink before after ending
  pub kept : Keeps sink before after
