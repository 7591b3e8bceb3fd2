-- What the pass over a data set leaves of what writes lines of its named elements.
use Rattle.std.specs.Prelude.{◌≡◌, ℕ, List, [], Bool, true, false}
use Rattle.dcm_base.specs.declared.mode.Mode.{Mode}
use Rattle.dcm_base.specs.declared.tag.Tag.{Tag}
use Rattle.dcm_base.specs.declared.syntax.Syntax.{Syntax}
use Rattle.dcm_sinks.specs.declared.dump.line_sink.LineSink.{Ghosts}
use Rattle.dcm_stream.specs.Reading.{start_of}
use Rattle.dcm_words.specs.Words.{Named}
use Rattle.dcm_named.specs.Filter.{Place, place_start}
use Rattle.dcm_named.specs.NamedSink.{named_step, named_writes, bars_nothing}
use Rattle.dcm_cli.specs.declared.ending.Ending.{Ending}
use Rattle.dcm_cli.specs.declared.head.Beginning.{Beginning}
use Rattle.dcm_cli.specs.InputCalls.{Reader}
use Rattle.dcm_cli.specs.Pass as pass

-- what is named
abbrev pub named_by : List Tag → Bool → Named
named_by tags ways = record { tags = tags; ways = ways }

-- the bytes of a data set were read, and what is named was shown; the place that the filter is in afterwards is not told
pub record ShowsSet {S R : Type 0} (lines : Ghosts S) (r : Reader R) (named : Named) (mode : Mode) (before after : S)
    (input_before input_after : R) (beginning : Beginning) (buffer : List ℕ) (syntax : Syntax) (start : ℕ)
    (ending : Ending) : Type 0 where
  pub place : Place
  pub ends : pass.ReadsSet bars_nothing (named_step lines.step lines.over) (named_writes lines.writes) r
      input_before input_after beginning.is_over (pass.set_bytes beginning buffer) (start_of syntax start)
      (place_start named.tags named.ways mode, lines.state before) (lines.contents before)
      (place, lines.state after) (lines.contents after) ending
  pub over : beginning.is_over ≡ true → pass.WasRead ending
  pub unread : pass.TellsUnread (r.has_failed input_before) (r.has_failed input_after) ending
  pub failed : pass.TellsOutput (lines.has_failed before) (lines.has_failed after) ending
  pub kept : lines.kept after ≡ lines.kept before

-- the same of a data set alone
pub record ShowsAlone {S R : Type 0} (lines : Ghosts S) (r : Reader R) (named : Named) (mode : Mode) (before after : S)
    (input_before input_after : R) (syntax : Syntax) (ending : Ending) : Type 0 where
  pub place : Place
  pub reads : pass.ReadsSet bars_nothing (named_step lines.step lines.over) (named_writes lines.writes) r
      input_before input_after false [] (start_of syntax 0)
      (place_start named.tags named.ways mode, lines.state before) (lines.contents before)
      (place, lines.state after) (lines.contents after) ending
  pub unread : pass.TellsUnread (r.has_failed input_before) (r.has_failed input_after) ending
  pub failed : pass.TellsOutput (lines.has_failed before) (lines.has_failed after) ending
  pub kept : lines.kept after ≡ lines.kept before
