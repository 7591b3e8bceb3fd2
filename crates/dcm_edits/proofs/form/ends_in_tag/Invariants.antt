use Rattle.std.proofs.Common.{◌≡◌, length, map}
use Rattle.dcm_edits.specs.EditWords.{ends_in_tag}
use Rattle.dcm_edits.specs.Parts.{part_as}
use Rattle.dcm_edits.proofs.form.ends_in_tag.Given as goal

-- the parts that are left end as all of them do
abbrev pub invariant-loop-parts : goal.invariant-loop-parts
invariant-loop-parts l = ends_in_tag (map part_as l.parts) ≡ ends_in_tag (map part_as l.initial.parts)

abbrev pub decreases-loop-parts : goal.decreases-loop-parts
decreases-loop-parts l = length l.parts
