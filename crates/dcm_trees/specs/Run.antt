-- A run over a tree: its beginning, its names, and its end.
use Rattle.std.specs.Prelude.{◌≡◌, ℕ, max, List, [], ◌++◌, codes, decimal, Bool, true, false, Option, Some, None}
use Rattle.std.specs.Prelude.{Result, Ok, Err, if◌then◌else◌}
use Rattle.dcm_names.specs.NamedLines.{named_line, unread_line}
use Rattle.dcm_cli.specs.Status.{DONE, DEVICE, MEMORY}
use Rattle.dcm_trees.specs.declared.beginning.Refusal.{Refusal}
use Rattle.dcm_trees.specs.declared.beginning.Refusal.TheVariants as refusals
use Rattle.dcm_trees.specs.declared.run.End.{End}
use Rattle.dcm_trees.specs.declared.run.End.TheVariants.{Whole, Unread, Stopped}
use Rattle.dcm_devices.specs.declared.device.WriteFailed.{WriteFailed}
use Rattle.dcm_devices.specs.Writing.{Writer}
use Rattle.dcm_walk.specs.declared.list.ListEnd.{ListEnd}
use Rattle.dcm_walk.specs.declared.list.ListEnd.TheVariants as lists
use Rattle.dcm_walk.specs.declared.visitor.Stopped.{Stopped as WasStopped}
use Rattle.dcm_cli.specs.Calls.{Reports}
use Rattle.dcm_trees.specs.declared.progress.Shared.{Shared}
use Rattle.dcm_trees.specs.declared.progress.Stop.{Stop}
use Rattle.dcm_trees.specs.declared.run.TreeRun.{TreeRun}
use Rattle.dcm_trees.specs.declared.tally.Tally.{Tally}
use Rattle.dcm_trees.specs.Manner.{manner_of}
use Rattle.dcm_trees.specs.Modes.{modes_as}
use Rattle.dcm_trees.specs.Row.{header}
use Rattle.dcm_trees.specs.Task.{task_of}
use Rattle.dcm_trees.specs.Work.{Progress, PutsRow}
use Rattle.dcm_trees.specs.declared.progress.Stop.TheVariants as stops
use Rattle.dcm_trees.specs.Tally.{counts, none}

-- the name of the part of a run
abbrev pub part_name : (number : ℕ) → List ℕ
part_name number = codes ".part." ++ decimal number

-- ---- lines

abbrev pub line : List ℕ → List ℕ
line text = codes "dcmtools: " ++ text ++ codes "\n"

abbrev pub part_line : (part : List ℕ) → List ℕ
part_line part = named_line part (codes "another run is at work, or was cut off")

abbrev pub work_line : (part : List ℕ) → List ℕ
work_line part = named_line part (codes "another run is at work")

abbrev pub refusal_line : Refusal → (part : List ℕ) → List ℕ
refusal_line refusals.Input part = line (codes "input cannot be opened")
refusal_line refusals.Output part = line (codes "output cannot be opened")
refusal_line refusals.Same part = line (codes "output is the input")
refusal_line refusals.OutputWithin part = line (codes "output is within the input")
refusal_line refusals.InputWithin part = line (codes "input is within the output")
refusal_line refusals.AtWork part = work_line part
refusal_line refusals.PartThere part = part_line part
refusal_line refusals.NotEmpty part = line (codes "output is not empty")
refusal_line refusals.LettersAlike part = line (codes "output does not tell small letters from capital ones")

abbrev pub whole_line : (is_empty : Bool) → List ℕ
whole_line is_empty = if is_empty then line (codes "input has no files") else []

abbrev pub end_line : End → (is_empty : Bool) → (list part : List ℕ) → List ℕ
end_line Whole is_empty list part = whole_line is_empty
end_line (Unread count) is_empty list part = unread_line list count
end_line (Stopped stops.Manifest) is_empty list part = line (codes "output failed")
end_line (Stopped stops.PartThere) is_empty list part = work_line part
end_line (Stopped stops.Memory) is_empty list part = line (codes "out of memory")

abbrev pub end_status : End → (is_empty : Bool) → ℕ
end_status Whole is_empty = if is_empty then DEVICE else DONE
end_status (Unread count) is_empty = DEVICE
end_status (Stopped stops.Manifest) is_empty = DEVICE
end_status (Stopped stops.PartThere) is_empty = DEVICE
end_status (Stopped stops.Memory) is_empty = MEMORY

abbrev pub last_counts : (shows : Bool) → Tally → List ℕ
last_counts shows tally = if shows then counts tally (codes "\n") else []

-- ---- what all names share

pub record Shares (run : TreeRun) (part : List ℕ) (shared : Shared) : Type 0 where
  pub manner : manner_of shared.manner ≡ record {
    task = task_of run.task;
    output = run.output.now;
    part = part;
    continues = run.options.continues;
    keeps_names = run.options.keeps_names;
    modes = modes_as run.modes;
  }
  pub part_is : shared.part ≡ run.options.part
  pub counts_are : shared.shows_counts ≡ run.options.counts

-- ---- the first row

-- the header is written and flushed, where it is wanted
pub data PutsFirstRow {W : Type 0} (w : Writer W) (has_header : Bool) (from : W) (r : Result (Unit {0}) WriteFailed)
    (to : W) : Type 0 where
  without : has_header ≡ false → to ≡ from → r ≡ Ok _ → PutsFirstRow w has_header from r to
  with_header : has_header ≡ true → PutsRow w header from r to → PutsFirstRow w has_header from r to

-- ---- the end

abbrev pub end_by : Option Stop → End
end_by None = Stopped stops.Manifest
end_by (Some stop) = Stopped stop

abbrev pub end_of_list : ListEnd → End
end_of_list lists.Whole = Whole
end_of_list (lists.Unread count) = Unread count

abbrev pub end_of : Result ListEnd WasStopped → Option Stop → End
end_of (Ok end) stop = end_of_list end
end_of (Err e) stop = end_by stop

-- the manifest has no header: that and the counts are told
pub record EndsUnwritten {E : Type 0} (e : Writer E) (shows : Bool) (from : E) (status : ℕ) (to : E) : Type 0 where
  pub told : E
  pub failed : Reports e from told (line (codes "output failed"))
  pub counted : Reports e told to (last_counts shows none)
  pub status_is : status ≡ DEVICE

-- how the run ended is told, and the counts are; the status is the greatest of that and of the rows
pub record EndsRun {W E : Type 0} (e : Writer E) (last : Progress W) (shows : Bool) (walked : Result ListEnd WasStopped)
    (list part : List ℕ) (from : E) (status : ℕ) (to : E) : Type 0 where
  pub told : E
  pub ended : Reports e from told (end_line (end_of walked last.stop) last.is_empty list part)
  pub counted : Reports e told to (last_counts shows last.tally)
  pub status_is : status ≡ max (end_status (end_of walked last.stop) last.is_empty) last.status
