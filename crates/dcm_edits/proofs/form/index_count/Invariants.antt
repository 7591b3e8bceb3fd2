use Rattle.std.proofs.Common.{◌≡◌, ◌+◌, ◌≤◌, drop, map}
use Rattle.dcm_edits.specs.EditWords.{index_count}
use Rattle.dcm_edits.specs.Parts.{part_as}
use Rattle.dcm_edits.proofs.form.index_count.Given as goal

-- the indexes so far, and those of the parts that are left
abbrev pub invariant-loop-part : goal.invariant-loop-part
invariant-loop-part l = record {
  counted : l.count + index_count (map part_as (drop l.part-index l.parts)) ≡ index_count (map part_as l.parts);
  within : l.count ≤ l.part-index;
}
