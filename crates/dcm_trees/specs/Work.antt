-- The names of a tree, one after another, with a row for each.
use Rattle.std.specs.Prelude.{◌≡◌, ℕ, max, List, [], ◌∷◌, Bool, true, false, ◌&&◌, Option, Some, None, Result, Ok, Err}
use Rattle.std.specs.Prelude.{if◌then◌else◌}
use Rattle.std.specs.Io.KnownBytes.{append_known}
use Rattle.arrayvec.specs.ArrayVec.{ArrayVec}
use Rattle.dcm_devices.specs.declared.device.WriteFailed.{WriteFailed}
use Rattle.dcm_devices.specs.Device.{AppendsFront}
use Rattle.dcm_devices.specs.Writing.{Writer}
use Rattle.dcm_walk.specs.Visits.{Named, Visits}
use Rattle.dcm_walk.specs.declared.visitor.Stopped.{Stopped}
use Rattle.dcm_walk.specs.declared.visitor.What.{What}
use Rattle.dcm_cli.specs.Calls.{Reports}
use Rattle.dcm_cli.specs.Status.{DONE}
use Rattle.dcm_trees.specs.declared.fate.Fate.{Fate}
use Rattle.dcm_trees.specs.declared.file.Done.{Done}
use Rattle.dcm_trees.specs.declared.progress.Stop.{Stop as RunStop}
use Rattle.dcm_trees.specs.declared.tally.Tally.{Tally}
use Rattle.dcm_trees.specs.declared.progress.Shared.{Shared}
use Rattle.dcm_trees.specs.declared.progress.Stop.{Stop}
use Rattle.dcm_trees.specs.declared.progress.Stop.TheVariants as stops
use Rattle.dcm_trees.specs.declared.progress.Work.{Work}
use Rattle.dcm_trees.specs.Fate.{status, word, has_output}
use Rattle.dcm_trees.specs.File.{DoesName}
use Rattle.dcm_trees.specs.Manner.{manner_of}
pub use Rattle.dcm_trees.specs.Row.{row}
use Rattle.dcm_trees.specs.Share.{is_of}
use Rattle.dcm_trees.specs.Tally as tallies
use Rattle.dcm_trees.specs.World.{World}

-- what goes from one name to the next: the manifest, the counts, the greatest status, whether no name came, and why the
-- run ends before its last name
pub record Progress (W : Type 0) : Type 0 where
  pub manifest : W
  pub tally : Tally
  pub status : ℕ
  pub is_empty : Bool
  pub stop : Option Stop

abbrev pub progress : {W : Type 0} → Work W → Progress W
progress w = record { manifest = w.manifest; tally = w.tally; status = w.status; is_empty = w.is_empty; stop = w.stop }

abbrev pub nothing_done : {W : Type 0} → W → Progress W
nothing_done manifest =
    record { manifest = manifest; tally = tallies.none; status = DONE; is_empty = true; stop = None }

-- ---- a row

-- a text went out and was flushed; or the writer failed, and has a beginning of it
pub data PutsRow {W : Type 0} (w : Writer W) (text : List ℕ) (from : W) (r : Result (Unit {0}) WriteFailed) (to : W)
    : Type 0 where
  put : w.contents to ≡ append_known (w.contents from) text → w.has_failed to ≡ w.has_failed from
      → w.is_flushed to ≡ true → r ≡ Ok _ → PutsRow w text from r to
  not_put : (e : WriteFailed) → AppendsFront (w.contents from) (w.contents to) text → w.has_failed to ≡ true
      → r ≡ Err e → PutsRow w text from r to
  not_flushed : (e : WriteFailed) → w.contents to ≡ append_known (w.contents from) text → w.has_failed to ≡ true
      → w.room to ≡ None → r ≡ Err e → PutsRow w text from r to

-- the name of an output: that of its input, or of the instance in it
abbrev pub name_in : (relative : List ℕ) → Option (ArrayVec ℕ) → List ℕ
name_in relative None = relative
name_in relative (Some instance) = instance.items

-- it has a cell where a file is there
abbrev pub output_of : Named → Done → Option (List ℕ)
output_of n done = if has_output done.fate then Some (name_in n.relative done.instance) else None

-- the counts behind each hundredth row, where they are wanted
abbrev pub progress_line : (shows : Bool) → Tally → List ℕ
progress_line shows tally = if shows && tallies.is_shown tally then tallies.counts tally (13 ∷ []) else []

abbrev pub with_row : {W : Type 0} → Progress W → Fate → Progress W
with_row p fate = record p { tally = tallies.with p.tally fate; status = max p.status (status fate) }

-- the row of a name was written, and the counts were shown where they are wanted; or it could not be written, which ends
-- the run
pub data EndsName {W E : Type 0} (w : Writer W) (e : Writer E) (shows : Bool) (n : Named) (done : Done)
    (from : Progress W) (told_before : E) (r : Result (Unit {0}) Stopped) (to : Progress W) (told : E) : Type 0 where
  has_row : (manifest : W)
      → PutsRow w (row n.name (output_of n done) (word done.fate)) from.manifest (Ok _) manifest
      → Reports e told_before told (progress_line shows (tallies.with from.tally done.fate))
      → to ≡ with_row (record from { manifest = manifest }) done.fate → r ≡ Ok _
      → EndsName w e shows n done from told_before r to told
  no_row : (manifest : W) (failure : WriteFailed) (s : Stopped)
      → PutsRow w (row n.name (output_of n done) (word done.fate)) from.manifest (Err failure) manifest
      → told ≡ told_before → to ≡ record from { manifest = manifest; stop = Some stops.Manifest } → r ≡ Err s
      → EndsName w e shows n done from told_before r to told

-- ---- a name

abbrev pub came : {W : Type 0} → Progress W → Progress W
came p = record p { is_empty = false }

-- a name of another share is not done; of this one it is done, and gets its row, or ends the run
pub data VisitsName {S I O F W E : Type 0} (w : World S I O F E) (manifest : Writer W) (shared : Shared)
    (from : Progress W) (told_before : E) (before : S) (n : Named) (what : What) (r : Result (Unit {0}) Stopped)
    (to : Progress W) (told : E) (after : S) : Type 0 where
  of_another : is_of shared.part.number shared.part.count n.relative ≡ false → to ≡ came from → told ≡ told_before
      → after ≡ before → r ≡ Ok _ → VisitsName w manifest shared from told_before before n what r to told after
  was_done : (done : Done) (mid : E) → is_of shared.part.number shared.part.count n.relative ≡ true
      → DoesName w (manner_of shared.manner) n what told_before before (Ok done) mid after
      → EndsName manifest w.errors shared.shows_counts n done (came from) mid r to told
      → VisitsName w manifest shared from told_before before n what r to told after
  ends_run : (stop : RunStop) (s : Stopped) → is_of shared.part.number shared.part.count n.relative ≡ true
      → DoesName w (manner_of shared.manner) n what told_before before (Err stop) told after
      → to ≡ record (came from) { stop = Some stop } → r ≡ Err s
      → VisitsName w manifest shared from told_before before n what r to told after

-- what all names share stays
abbrev pub visits_of : {S I O F W E : Type 0} → World S I O F E → Writer W → Visits (Work W × E) S
visits_of w manifest = λ from before n what r to after.
    VisitsName w manifest from.0.shared (progress from.0) from.1 before n what r (progress to.0) to.1 after
    × (to.0.shared ≡ from.0.shared)
