-- What a call leaves of its reader and its writers, by their members.
use Rattle.std.specs.Prelude.{◌≡◌, ◌⊎◌, ◌↔◌, ◌≤◌, ℕ, List, ◌++◌, length, true, false, Option, Some, Result, MatchResult}
use Rattle.dcm_base.specs.declared.syntax.Syntax.{Syntax}
use Rattle.dcm_devices.specs.Device.{Puts, Tells}
use Rattle.dcm_devices.specs.Writing.{Writer}
use Rattle.dcm_base.specs.declared.dictionary.Dictionary.{Dictionary}
use Rattle.dcm_head.specs.MetaReading.{Reading, group_of}
use Rattle.dcm_head.specs.Rewriting.{OfElements}
use Rattle.dcm_words.specs.Words.{Job}
use Rattle.dcm_cli.specs.declared.ending.Ended.{Ended}
use Rattle.dcm_cli.specs.declared.ending.Ending.{Ending}
use Rattle.dcm_cli.specs.declared.rewrite.Opened.{Opened}
pub use Rattle.dcm_cli.specs.InputCalls.{Reader}
use Rattle.dcm_cli.specs.InputCalls.{How, Allows, ReadsInput, IsUndecided}
use Rattle.dcm_cli.specs.Change.{Change, change_of}
use Rattle.dcm_cli.specs.Opening as opening
use Rattle.dcm_cli.specs.Pass as pass
use Rattle.dcm_cli.specs.Run as run
use Rattle.dcm_cli.specs.ErrorLines as error_lines
use Rattle.dcm_cli.specs.Status.{DEVICE}

-- ---- lines on standard error

-- these lines were written, or the writer failed in the call and has a beginning of them
abbrev pub Reports : {E : Type 0} → Writer E → (before after : E) → (lines : List ℕ) → Type 0
Reports e before after lines = error_lines.Reports (change_of e before after) lines

-- ---- the work on a job

-- the work on an input: the calls that it made, none once the answer was decided; and what it left, whatever the input
-- may hold after the bytes that they gave. Each device failed exactly where the ending says so
pub record Works {R W : Type 0} (r : Reader R) (w : Writer W) (job : Job) (before after : R)
    (output_before output_after : W) (ending : Ending) : Type 0 where
  pub given : List ℕ
  pub how : How
  pub reads : ReadsInput r (IsUndecided job) before given how after
  pub worked : (rest : List ℕ) → Allows how rest
      → run.Worked job (given ++ rest) (Some rest) (w.contents output_before) (w.contents output_after) ending
  pub decided : run.IsDecided job given how ending
  pub unread : pass.TellsUnread (r.has_failed before) (r.has_failed after) ending
  pub failed : pass.TellsOutput (w.has_failed output_before) (w.has_failed output_after) ending

-- with what is remarked of the input
pub record WorksOn {R W : Type 0} (r : Reader R) (w : Writer W) (job : Job) (before after : R)
    (output_before output_after : W) (ended : Ended) : Type 0 where
  pub works : Works r w job before after output_before output_after ended.ending
  pub remarked : run.RemarkedAs job works.given works.how ended.ending ended.remarks

-- a run of a job: the calls that it made of its input, none once the answer was decided; and what it left, where
-- neither device had failed. The status says whether one of them failed in it
pub record Runs {R W : Type 0} (r : Reader R) (w : Writer W) (job : Job) (errors : Change) (before after : R)
    (output_before output_after : W) (status : ℕ) : Type 0 where
  pub given : List ℕ
  pub how : How
  pub reads : ReadsInput r (IsUndecided job) before given how after
  pub ran : r.has_failed before ≡ false → w.has_failed output_before ≡ false
      → run.Ran job given how (r.has_failed after) (change_of w output_before output_after) errors status
  pub flushed : w.has_failed output_before ≡ false → w.has_failed output_after ≡ false
      → w.is_flushed output_after ≡ true
  pub within : status ≤ DEVICE
  pub failed : r.has_failed before ≡ false → w.has_failed output_before ≡ false
      → (status ≡ DEVICE) ↔ ((r.has_failed after ≡ true) ⊎ (w.has_failed output_after ≡ true))

-- a job is done, and then its output is flushed, which may fail; nothing is reported
pub record Finishes {R W : Type 0} (r : Reader R) (w : Writer W) (job : Job) (before after : R)
    (output_before output_after : W) (ending : Ending) : Type 0 where
  pub written : W
  pub worked : Ending
  pub works : Works r w job before after output_before written worked
  pub meant : run.IsMeant job
  pub contents : w.contents output_after ≡ w.contents written
  pub flushed : run.FlushedAs worked ending (w.has_failed written) (w.has_failed output_after) (w.room output_after)
  pub drained : run.IsWritten worked → w.has_failed output_after ≡ false → w.is_flushed output_after ≡ true

-- with what is remarked of the input
pub record FinishesOn {R W : Type 0} (r : Reader R) (w : Writer W) (job : Job) (before after : R)
    (output_before output_after : W) (ended : Ended) : Type 0 where
  pub finishes : Finishes r w job before after output_before output_after ended.ending
  pub remarked : run.RemarkedAs job finishes.works.given finishes.works.how finishes.worked ended.remarks

-- ---- the head of a file

-- what is before the data set was written, or a beginning of it where the call failed; and the writer has failed where
-- it did, and otherwise that stayed
pub record WritesHead {W T E : Type 0} (w : Writer W) (before after : W) (change : opening.HeadChange)
    (meta : Reading) (uid : List ℕ) (result : Result T E) : Type 0 where
  pub bytes : OfElements (group_of meta) (λ elements. Puts (w.contents before) (w.contents after)
      (opening.head_text change meta uid elements) result)
  pub failed : Tells (w.has_failed before) (w.has_failed after) result

-- a reader failed in the call exactly where that is why a file was not opened
abbrev pub OpensUnread : {R : Type 0} → Reader R → (before after : R) → Result Opened Ending → Type 0
OpensUnread r before after result =
    MatchResult result (λ _. r.has_failed after ≡ r.has_failed before)
    (λ e. pass.TellsUnread (r.has_failed before) (r.has_failed after) e)

-- and the output's writer
abbrev pub OpensUnwritten : {W : Type 0} → Writer W → (before after : W) → Result Opened Ending → Type 0
OpensUnwritten w before after result =
    MatchResult result (λ _. w.has_failed after ≡ w.has_failed before)
    (λ e. pass.TellsOutput (w.has_failed before) (w.has_failed after) e)

-- a file was opened that is to be written again, or why not; the buffer has its size
pub record Opens {R W : Type 0} (r : Reader R) (w : Writer W) (d : Dictionary) (target : Option Syntax)
    (change : opening.HeadChange) (before after : R) (output_before output_after : W) (buffer_before buffer : List ℕ)
    (result : Result Opened Ending) : Type 0 where
  pub read : List ℕ
  pub how : How
  pub reads : ReadsInput r pass.HeadGoesOn before read how after
  pub opens : opening.Opens d target change read how (w.contents output_before) (w.contents output_after) buffer
      result
  pub unread : OpensUnread r before after result
  pub failed : OpensUnwritten w output_before output_after result
  pub kept : length buffer ≡ length buffer_before
