-- What is told of a file of a tree, and what became of it.
use Rattle.std.specs.Prelude.{ℕ, zero, suc, ◌/◌, ◌%◌, ◌==◌, List, [], ◌++◌, codes, Bool, false, if◌then◌else◌}
use Rattle.dcm_names.specs.NamedLines.{emptied_lines, named_line, nobody_lines, fault_line, unread_line}
use Rattle.dcm_names.specs.NamedLines.{unplaced_line, unopened_line}
use Rattle.dcm_cli.specs.declared.ending.Ending.{Ending}
use Rattle.dcm_cli.specs.declared.ending.Ending.TheVariants.{Worked, Unread, Output}
use Rattle.dcm_cli.specs.declared.ending.Remarks.{Remarks}
use Rattle.dcm_cli.specs.declared.ending.Verdict.{Verdict}
use Rattle.dcm_cli.specs.declared.ending.Verdict.TheVariants.{Done, PixelsMayShow, Refused, RefusedLine}
use Rattle.dcm_trees.specs.declared.fate.Fate.{Fate}
use Rattle.dcm_trees.specs.declared.fate.Fate.TheVariants as fates
use Rattle.dcm_trees.specs.declared.task.NoDays.{NoDays}
use Rattle.dcm_trees.specs.declared.task.NoDays.TheVariants as no_days
use Rattle.dcm_trees.specs.declared.place.Place.{Place}
use Rattle.dcm_trees.specs.declared.place.Place.TheVariants.{Free, There, Barred}

-- ---- edits without a place

-- the line of an edit, counted from 1, where it found none
abbrev pub line_where : (name : List ℕ) → Bool → ℕ → List ℕ
line_where name unplaced n = if unplaced then unplaced_line name n else []

-- a line for each edit that found none, of so many from edit n on: bit 0 of the mask is set for edit n
unfoldable pub mask_lines : (name : List ℕ) → (count n mask : ℕ) → List ℕ
mask_lines name zero n mask = []
mask_lines name (suc count) n mask = line_where name (mask % 2 == 1) n ++ mask_lines name count (suc n) (mask / 2)

-- ---- how the run over a file ended

abbrev pub done_fate : (unplaced : ℕ) → Fate
done_fate zero = fates.Written
done_fate (suc n) = fates.Unplaced

abbrev pub verdict_fate : Verdict → Fate
verdict_fate (Done unplaced) = done_fate unplaced
verdict_fate PixelsMayShow = fates.Pixels
verdict_fate (Refused stop) = fates.Refused
verdict_fate (RefusedLine stop) = fates.Refused

-- no job of a tree reads the lines of a dump
abbrev pub verdict_lines : (name : List ℕ) → Verdict → List ℕ
verdict_lines name (Done unplaced) = mask_lines name 64 1 unplaced
verdict_lines name PixelsMayShow = named_line name (codes "pixels may show identity")
verdict_lines name (Refused stop) = fault_line name stop
verdict_lines name (RefusedLine stop) = []

abbrev pub output_line : (name : List ℕ) → List ℕ
output_line name = named_line name (codes "output failed")

abbrev pub ending_lines : (name : List ℕ) → Ending → List ℕ
ending_lines name (Worked verdict) = verdict_lines name verdict
ending_lines name (Unread count) = unread_line name count
ending_lines name Output = output_line name

-- what is remarked
abbrev pub remark_lines : (name : List ℕ) → Remarks → List ℕ
remark_lines name remarks = nobody_lines name remarks.unnamed ++ emptied_lines name remarks.emptied

-- it is told before, unless the output failed
abbrev pub remarks_told : (name : List ℕ) → Ending → Remarks → List ℕ
remarks_told name (Worked verdict) remarks = remark_lines name remarks
remarks_told name (Unread count) remarks = remark_lines name remarks
remarks_told name Output remarks = []

abbrev pub ended_lines : (name : List ℕ) → Ending → Remarks → List ℕ
ended_lines name ending remarks = remarks_told name ending remarks ++ ending_lines name ending

abbrev pub ending_fate : Ending → Fate
ending_fate (Worked verdict) = verdict_fate verdict
ending_fate (Unread count) = fates.Unread
ending_fate Output = fates.Unwritten

-- ---- no days by which dates are moved

abbrev pub no_days_line : (name : List ℕ) → NoDays → List ℕ
no_days_line name no_days.Unopened = unopened_line name
no_days_line name (no_days.Unread count) = unread_line name count
no_days_line name (no_days.Refused stop) = fault_line name stop

abbrev pub no_days_fate : NoDays → Fate
no_days_fate (no_days.Refused stop) = fates.Refused
no_days_fate _ = fates.Unread

-- ---- a name of an output that is not free

abbrev pub barred_line : (name : List ℕ) → List ℕ
barred_line name = named_line name (codes "output cannot be opened")

abbrev pub there_lines : (name : List ℕ) → (continues : Bool) → List ℕ
there_lines name continues = if continues then [] else named_line name (codes "output is there already")

-- what is free was there before
abbrev pub place_lines : (name : List ℕ) → Place → (continues : Bool) → List ℕ
place_lines name There continues = there_lines name continues
place_lines name Barred continues = barred_line name
place_lines name Free continues = there_lines name false

abbrev pub there_fate : (continues : Bool) → Fate
there_fate continues = if continues then fates.There else fates.Taken

abbrev pub place_fate : Place → (continues : Bool) → Fate
place_fate There continues = there_fate continues
place_fate Barred continues = fates.Unwritten
place_fate Free continues = fates.Taken
